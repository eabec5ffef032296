-- The completion tree by numbers: its nets are numbered from 0 on, the leaves first.
use Rattle.ncl_bank.proofs.Terms.{Conjunctions, GatesData, IsCompletion, IsFamilyGate, IsRead, List, Member, Member-map, NetId, Some, StageCell, [], ap, append-nil, arith, below_of_range, cut_at, drop, gate_reads, gates_are_of_family, get_or_from_slice_get, here, inl, inr, length, length-append, length-map, length-range_with_len, length-take-le, map, map-append, member_of_map, nets_below, outs_of, range_with_len, refl, root_is_last, root_or_read, slice_get, slice_get-append_left, slice_get_within, subst, suc, sym, take, there, zero, ℕ, ◌++◌, ◌+◌, ◌<◌, ◌∙◌, ◌∷◌, ◌≡◌}

abbrev pub net_at : ℕ → NetId
net_at number = record { 0 = number }

range-append : (first a b next : ℕ) → first + a ≡ next → range_with_len first (a + b) ≡ range_with_len first a ++ range_with_len next b
range-append first zero b next at =
    let start : first ≡ next = omega (arith, at) in
    let count : 0 + b ≡ b = omega arith in
    λ i. range_with_len (start i) (count i)
range-append first (suc a) b next at =
    let longer : suc a + b ≡ suc (a + b) = omega arith in
    ap (range_with_len first) longer ∙ ap (λ ns. first ∷ ns) (range-append (first + 1) a b next (omega (arith, at)))

in_range : (first count k : ℕ) → k < count → Member (first + k) (range_with_len first count)
in_range first zero k below = absurd (omega arith)
in_range first (suc count) zero below = let same : first ≡ first + 0 = omega arith in subst (λ n. Member n (range_with_len first (suc count))) same here
in_range first (suc count) (suc k) below =
    let same : (first + 1) + k ≡ first + suc k = omega arith in
    there (subst (λ n. Member n (range_with_len (first + 1) count)) same (in_range (first + 1) count k (omega arith)))

below_from_member : (count : ℕ) (net : NetId) → Member net (nets_below count) → net.0 < count
below_from_member count net m =
    let (k, n, is) = member_of_map net_at (range_with_len 0 count) net m in
    let below = below_of_range 0 count k n in
    let number : k ≡ net.0 = ap (λ (net : NetId). net.0) is in
    omega arith

member_from_below : (count number : ℕ) → number < count → Member (net_at number) (nets_below count)
member_from_below count number below =
    let same : 0 + number ≡ number = omega arith in
    Member-map net_at number (subst (λ n. Member n (range_with_len 0 count)) same (in_range 0 count number below))

-- what numbered gates drive
outs_numbered : (cells : List StageCell) (first : ℕ) → ((k : ℕ) (c : StageCell) → slice_get cells k ≡ Some c → c.out.0 ≡ first + k) → outs_of cells ≡ map net_at (range_with_len first (length cells))
outs_numbered [] first numbered = refl
outs_numbered (c ∷ cells) first numbered =
    let number : c.out.0 ≡ first = numbered 0 c refl ∙ omega arith in
    ap (λ n. net_at n ∷ outs_of cells) number
    ∙ ap (λ nets. net_at first ∷ nets) (outs_numbered cells (first + 1) (λ k g at. numbered (suc k) g at ∙ omega arith))

-- a tree over so many leaves by numbers
pub record IsTreeByNumber (bits : ℕ) (cells : List StageCell) : Type 0 where
  pub family : (c : StageCell) → Member c cells → IsFamilyGate Conjunctions c
  pub out : (k : ℕ) (c : StageCell) → slice_get cells k ≡ Some c → c.out.0 ≡ bits + k
  pub reads : (k : ℕ) (c : StageCell) → slice_get cells k ≡ Some c → (net : NetId) → Member net c.ins.items → net.0 < bits + k
  pub read : (number : ℕ) → number + 1 < bits + length cells → IsRead cells (net_at number)

pub stands : {X : Type 0} (before after : List X) (x : X) → slice_get (before ++ x ∷ after) (length before) ≡ Some x
stands [] after x = refl
stands (b ∷ before) after x = stands before after x

module _ (bits : ℕ) (gates : GatesData) (is : IsCompletion bits gates) where
  number_out : (k : ℕ) (c : StageCell) → slice_get gates.cells k ≡ Some c → c.out.0 ≡ bits + k
  number_out k c at = is.numbered.nets k c at ∙ ap (λ n. n + k) is.first

  -- the nets that are known where these gates have been made
  nets_so_far : (before after : List StageCell) → gates.cells ≡ before ++ after → nets_below bits ++ outs_of before ≡ nets_below (bits + length before)
  nets_so_far before after split =
      let outs : outs_of before ≡ map net_at (range_with_len bits (length before)) =
      outs_numbered before bits (λ k c at. number_out k c (ap (λ cells. slice_get cells k) split ∙ slice_get-append_left before after k c at)) in
      ap (λ nets. nets_below bits ++ nets) outs
      ∙ sym (map-append net_at (range_with_len 0 bits) (range_with_len bits (length before)))
      ∙ ap (map net_at) (sym (range-append 0 bits (length before) bits (omega arith)))

  -- the root has the last number
  root_number : is.root.0 + 1 ≡ bits + length gates.cells
  root_number =
      elim (root_is_last Conjunctions (nets_below bits) gates.cells is.root is.tree) [
        | inl (none, leaf) ↦
            let one : bits ≡ 1 = sym (length-map (range_with_len 0 bits) net_at ∙ length-range_with_len 0 bits) ∙ ap length leaf in
            let lowest : is.root.0 < bits = below_from_member bits is.root (subst (Member is.root) (sym leaf) here) in
            omega (arith, one, lowest, ap length none)
        | inr (front, c, split, out) ↦
            omega (arith, ap (λ (net : NetId). net.0) out, number_out (length front) c (ap (λ cells. slice_get cells (length front)) split ∙ stands front [] c), ap length split ∙ length-append front (c ∷ []))
      ]

  pub IsTreeByNumber-completion : IsTreeByNumber bits gates.cells
  IsTreeByNumber-completion = record {
    family = gates_are_of_family Conjunctions (nets_below bits) gates.cells is.root is.tree;
    out = number_out;
    reads = λ k c at net m.
        let within : k < length gates.cells = slice_get_within gates.cells k c at in
        let before : List StageCell = take k gates.cells in
        let after : List StageCell = drop (k + 1) gates.cells in
        let split : gates.cells ≡ before ++ c ∷ after = cut_at gates.cells k c within ∙ ap (λ g. before ++ g ∷ after) (get_or_from_slice_get gates.cells k c c at) in
        let known : Member net (nets_below (bits + length before)) = subst (Member net) (nets_so_far before (c ∷ after) split) (gate_reads Conjunctions (nets_below bits) gates.cells is.root is.tree before after c split net m) in
        omega (arith, below_from_member (bits + length before) net known, length-take-le k gates.cells (omega arith));
    read = λ number below.
        elim (root_or_read Conjunctions (nets_below bits) gates.cells is.root is.tree (net_at number)
        (subst (Member (net_at number)) (sym (nets_so_far gates.cells [] (sym (append-nil gates.cells)))) (member_from_below (bits + length gates.cells) number (omega arith)))) [
          | inl same ↦ absurd (omega (arith, below, root_number, ap (λ (net : NetId). net.0) same))
          | inr found ↦ found
        ];
  }
