-- A netlist that is built of kept cells is thinned, and their parts break no rule.
use Rattle.ncl_merge.proofs.Terms.{AckOf, All, All-from_members, All-member, AllDiffer, AllDiffer-once_each, AllPairs, AllPairs-cons, AllPairs-from_IsDistinct, Bool, Cell, CellAt, CellKind, Contains, Contains-filter_map, Contains-filter_map_of, Contains-from_Member, Contains-from_slice_get, Decides-eqb, Gate, HasAllPins, IsCell, IsChoice, IsDistinct-from_AllPairs, IsFaultless, IsFree, IsGate, IsInputPort, IsNetlist, IsOld, IsOutputPort, IsRailGate, IsStood, IsThinGate, IsThinned, IsWhole, List, Member, Member-append_cases, Member-append_left, Member-append_right, Member-flat_map, Member-from_Contains, Member-get_or, Member-map, NetId, NetlistData, None, Option, PartCell, Parts, Port, RailOf, ReadsNet, Some, [], ap, arith, at_map, at_of_map, cases_Bool, cases_lt, cell_fits, cell_names, cell_of, cond, count_by, count_from_member, drivers_at, drives, drop, eqb-true, equal_names, false, filter, flat_map, gate_ranks, get_or, get_or-map, get_or-name_number, get_or-take, get_or_from_slice_get, get_or_past, here, inl, inr, is_gate, kept, kept_parts, length, length-map, length-take, length_push, list_any, list_any-from_member, list_any-once_each, map, map-append, map-map, map-same, member_cases, member_from_count, member_from_list_any, member_of_flat_map, member_of_map, most_cells, moved, name_at, name_number, name_number-get_or, name_number-lt-length, nat_eq, net_of, netlist_of, no_cell_drives_port, not, number_in, once_each, only_origin, pairs-head, pairs-tail, part_of, pin_names, pins_of, place_of, port_names, refl, renamed_net, same_driver, same_itself, same_name, slice_eq-Decides, slice_get, slice_get-from_Contains, slice_get_within, subst, suc, sum_by-cons, sum_by-map, sym, take, take-append-drop, take-once_each, there, true, with_kept, zero, ℕ, ◌++◌, ◌+◌, ◌-◌, ◌<◌, ◌∙◌, ◌∷◌, ◌≡◌, ◌≢◌, ◌≤◌, ◌⊎◌}
use Rattle.ncl_merge.proofs.Weights.{same-number, sum-same}
use Rattle.ncl_merge.proofs.Thinned.{filter_gone, kind-apart}

-- ---- which cells are kept, and where

pub kept_some : (choice : Cell → Option Cell) (c d : Cell) (cells : List Cell) → choice c ≡ Some d → kept choice (c ∷ cells) ≡ d ∷ kept choice cells
kept_some choice c d cells is = ap (λ o. with_kept o (kept choice cells)) is

-- the place of what a cell becomes: after all that is kept of those before it
abbrev pub place_in : (Cell → Option Cell) → List Cell → ℕ → ℕ
place_in choice cells k = length (kept choice (take k cells))

pub kept_at : (choice : Cell → Option Cell) (cells : List Cell) (k : ℕ) (c d : Cell) → slice_get cells k ≡ Some c → choice c ≡ Some d → slice_get (kept choice cells) (place_in choice cells k) ≡ Some d
kept_at choice [] k c d at is = absurd cc
kept_at choice (b ∷ cells) zero c d at is =
    let same : b ≡ c = cc in
    ap (λ xs. slice_get xs 0) (kept_some choice b d cells (ap choice same ∙ is))
kept_at choice (b ∷ cells) (suc k) c d at is =
    let rest = kept_at choice cells k c d at is in
    elim (choice b) as (λ o. slice_get (with_kept o (kept choice cells)) (length (with_kept o (kept choice (take k cells)))) ≡ Some d) [ None ↦ rest | Some e ↦ rest ]

pub kept_rises : (choice : Cell → Option Cell) (cells : List Cell) (j k : ℕ) (c d : Cell) → slice_get cells j ≡ Some c → choice c ≡ Some d → j < k → place_in choice cells j < place_in choice cells k
kept_rises choice [] j k c d at is lt = absurd cc
kept_rises choice (b ∷ cells) j zero c d at is lt = absurd (omega arith)
kept_rises choice (b ∷ cells) zero (suc k) c d at is lt =
    let same : b ≡ c = cc in
    let count : length (kept choice (b ∷ take k cells)) ≡ suc (length (kept choice (take k cells))) = ap length (kept_some choice b d (take k cells) (ap choice same ∙ is)) in
    omega (arith, count)
kept_rises choice (b ∷ cells) (suc j) (suc k) c d at is lt =
    let rest = kept_rises choice cells j k c d at is (omega arith) in
    elim (choice b) as (λ o. length (with_kept o (kept choice (take j cells))) < length (with_kept o (kept choice (take k cells)))) [ None ↦ rest | Some e ↦ omega (arith, rest) ]

pub kept_from : (choice : Cell → Option Cell) (cells : List Cell) (i : ℕ) (d : Cell) → slice_get (kept choice cells) i ≡ Some d → (k : ℕ) × (c : Cell) × (slice_get cells k ≡ Some c) × (choice c ≡ Some d) × (place_in choice cells k ≡ i)
kept_from choice [] i d at = absurd cc
kept_from choice (b ∷ cells) i d at =
    elim (choice b) as (λ o. choice b ≡ o → slice_get (with_kept o (kept choice cells)) i ≡ Some d → (k : ℕ) × (c : Cell) × (slice_get (b ∷ cells) k ≡ Some c) × (choice c ≡ Some d) × (place_in choice (b ∷ cells) k ≡ i)) [
      | None ↦ λ gone stands.
          let (k, c, at-c, is, place) = kept_from choice cells i d stands in
          (suc k, c, at-c, is, ap (λ o. length (with_kept o (kept choice (take k cells)))) gone ∙ place)
      | Some e ↦ λ stays stands. by_place e stays i stands (λ j at-j. kept_from choice cells j d at-j)
    ] refl at
  where
    by_place : (e : Cell) → choice b ≡ Some e → (i : ℕ) → slice_get (e ∷ kept choice cells) i ≡ Some d → ((j : ℕ) → slice_get (kept choice cells) j ≡ Some d → (k : ℕ) × (c : Cell) × (slice_get cells k ≡ Some c) × (choice c ≡ Some d) × (place_in choice cells k ≡ j)) → (k : ℕ) × (c : Cell) × (slice_get (b ∷ cells) k ≡ Some c) × (choice c ≡ Some d) × (place_in choice (b ∷ cells) k ≡ i)
    by_place e stays zero at below = let same : e ≡ d = cc in (zero, b, refl, stays ∙ ap Some same, refl)
    by_place e stays (suc j) at below =
        let (k, c, at-c, is, place) = below j at in
        (suc k, c, at-c, is, ap length (kept_some choice b e (take k cells) stays) ∙ ap suc place)

-- ---- parts and cells again

-- a list with one more at its end, without that, and what is at its end
last-of : {Y : Type 0} (d : Y) (xs : List Y) (y : Y) → (take (length (xs ++ y ∷ []) - 1) (xs ++ y ∷ []) ≡ xs) × (get_or (xs ++ y ∷ []) (length (xs ++ y ∷ []) - 1) d ≡ y)
last-of d [] y = (refl, refl)
last-of d (x ∷ xs) y =
    let count : length (x ∷ xs ++ y ∷ []) - 1 ≡ suc (length (xs ++ y ∷ []) - 1) = (let long = length_push xs y in omega (arith, long)) in
    let (front, end) = last-of d xs y in
    (ap (λ k. take k (x ∷ xs ++ y ∷ [])) count ∙ ap (λ rest. x ∷ rest) front, ap (λ k. get_or (x ∷ xs ++ y ∷ []) k d) count ∙ end)

-- ---- names and counts of what is kept

-- names that differ, one way and the other
names_differ : (names : List (List ℕ)) → AllDiffer names → AllPairs (λ a b. a ≢ b) names
names_differ names = AllPairs-from_IsDistinct (λ a b. slice_eq-Decides Decides-eqb a b (same_name a b) refl) names

differ_names : (names : List (List ℕ)) → AllPairs (λ a b. a ≢ b) names → AllDiffer names
differ_names names = IsDistinct-from_AllPairs (λ a b. slice_eq-Decides Decides-eqb a b (same_name a b) refl) names

pairs-left : {X : Type 0} (R : X → X → Type 0) (xs ys : List X) → AllPairs R (xs ++ ys) → AllPairs R xs
pairs-left R [] ys all = λ i j d before lt. absurd (omega (arith, lt))
pairs-left R (x ∷ xs) ys all = AllPairs-cons R x xs (All-from_members (R x) xs (λ y m. pairs-head R x (xs ++ ys) all y (Member-append_left y ys m))) (pairs-left R xs ys (pairs-tail R x (xs ++ ys) all))

pub AllDiffer-take : (names : List (List ℕ)) (k : ℕ) → AllDiffer names → AllDiffer (take k names)
AllDiffer-take names k differ = differ_names (take k names) (pairs-left (λ a b. a ≢ b) (take k names) (drop k names) (subst (AllPairs (λ a b. a ≢ b)) (sym (take-append-drop k names)) (names_differ names differ)))

-- no more cells are kept than there were
kept_few : (choice : Cell → Option Cell) (cells : List Cell) → length (kept choice cells) ≤ length cells
kept_few choice [] = omega arith
kept_few choice (c ∷ cells) =
    let rest = kept_few choice cells in
    elim (choice c) as (λ o. length (with_kept o (kept choice cells)) ≤ suc (length cells)) [ None ↦ omega (arith, rest) | Some d ↦ omega (arith, rest) ]

-- values that are kept differ where the values differ
kept_differ : {X : Type 0} (key : Cell → X) (choice : Cell → Option Cell) (cells : List Cell) → ((c d : Cell) → Member c cells → choice c ≡ Some d → key d ≡ key c) → AllPairs (λ a b. a ≢ b) (map key cells) → AllPairs (λ a b. a ≢ b) (map key (kept choice cells))
kept_differ key choice [] same differ = differ
kept_differ key choice (c ∷ cells) same differ =
    let rest = kept_differ key choice cells (λ b d m. same b d (there m)) (pairs-tail (λ a b. a ≢ b) (key c) (map key cells) differ) in
    elim (choice c) as (λ o. choice c ≡ o → AllPairs (λ a b. a ≢ b) (map key (with_kept o (kept choice cells)))) [
      | None ↦ λ gone. rest
      | Some d ↦ λ is.
          AllPairs-cons (λ a b. a ≢ b) (key d) (map key (kept choice cells)) (All-from_members (λ b. key d ≢ b) (map key (kept choice cells)) (λ y m e.
          let (g, m-g, at-g) = member_of_map key (kept choice cells) y m in
          let (b, in_b, is-b) = Contains-filter_map choice cells g (Contains-from_Member g m-g) in
          let m-b = Member-from_Contains cells b in_b in
          pairs-head (λ a b. a ≢ b) (key c) (map key cells) differ (key b) (Member-map key b m-b) (sym (same c d here is) ∙ e ∙ sym at-g ∙ same b g (there m-b) is-b))) rest
    ] refl

-- a cell has a name for each pin, and one for its output
pub pins-count : (nets : List (List ℕ)) (d : Cell) → length (pin_names nets d) ≡ length d.ins.items + 1
pins-count nets d = length-map (d.ins.items ++ d.out ∷ []) (λ (net : NetId). get_or nets net.0 []) ∙ length_push d.ins.items d.out

-- a name that is among once-each names is among the names
pub from_once : (xs : List (List ℕ)) (x : List ℕ) → Member x (once_each xs) → Member x xs
from_once xs x m =
    let some = sym (list_any-once_each xs x) ∙ list_any-from_member (same_name x) x m (same_itself x) in
    let (y, n, same) = member_from_list_any (same_name x) xs some in
    subst (λ z. Member z xs) (sym (equal_names x y same)) n

-- where kept cells pass as the cells do, no more pass
count_kept : (choice : Cell → Option Cell) (p : Cell → Bool) (cells : List Cell) → ((c d : Cell) → Member c cells → choice c ≡ Some d → p d ≡ p c) → count_by p (kept choice cells) ≤ count_by p cells
count_kept choice p [] same = omega arith
count_kept choice p (c ∷ cells) same =
    let rest = count_kept choice p cells (λ b d m. same b d (there m)) in
    let whole : count_by p (c ∷ cells) ≡ cond (p c) 1 0 + count_by p cells = sum_by-cons (λ x. cond (p x) 1 0) c cells in
    elim (choice c) as (λ o. choice c ≡ o → count_by p (with_kept o (kept choice cells)) ≤ count_by p (c ∷ cells)) [
      | None ↦ λ is. omega (arith, rest, whole)
      | Some d ↦ λ is.
          let left : count_by p (d ∷ kept choice cells) ≡ cond (p d) 1 0 + count_by p (kept choice cells) = sum_by-cons (λ x. cond (p x) 1 0) d (kept choice cells) in
          let first : ◌≡◌ {A = ℕ} (cond (p d) 1 0) (cond (p c) 1 0) = ap (λ b. cond b 1 0) (same c d here is) in
          omega (arith, rest, whole, left, first)
    ] refl

module _ (n : NetlistData) (is_n : IsNetlist n) (free : IsFree n) (choice : Cell → Option Cell) (chosen : IsChoice n choice) where
  abbrev pub m : NetlistData
  m = netlist_of (kept_parts n choice)

  abbrev pub to : ℕ → ℕ
  to = number_in n m

  abbrev pub from : ℕ → ℕ
  from = number_in m n

  abbrev pub at : ℕ → ℕ
  at = place_in choice n.cells

  -- the cells of m
  cell-moved : (d : Cell) → cell_of m.nets (part_of n.nets d) ≡ moved to d
  cell-moved d =
      let names : NetId → List ℕ = λ net. get_or n.nets net.0 [] in
      let cut = map-append names d.ins.items (d.out ∷ []) in
      let (front, end) = last-of [] (map names d.ins.items) (names d.out) in
      λ i. record {
        kind = d.kind;
        name = d.name;
        ins = record { items = (ap (λ pins. map (net_of m.nets) (take (length pins - 1) pins)) cut ∙ ap (map (net_of m.nets)) front ∙ map-map (net_of m.nets) names d.ins.items) i };
        out = (ap (λ pins. net_of m.nets (get_or pins (length pins - 1) [])) cut ∙ ap (net_of m.nets) end) i;
      }

  pub cells-moved : m.cells ≡ map (moved to) (kept choice n.cells)
  cells-moved =
      map-map (cell_of m.nets) (part_of n.nets) (kept choice n.cells)
      ∙ map-same (λ d. cell_of m.nets (part_of n.nets d)) (moved to) (kept choice n.cells) (λ d m-d. cell-moved d)

  -- ---- names that are there

  abbrev pub IsNamed : ℕ → Type 0
  IsNamed x = list_any (same_name (name_at n x)) m.nets ≡ true

  pub back : (x : ℕ) → x < length n.nets → IsNamed x → from (to x) ≡ x
  back x lt named =
      ap (name_number n.nets) (get_or-name_number m.nets (name_at n x) [] (name_number-lt-length m.nets (name_at n x) named)) ∙ name_number-get_or n.nets x [] is_n.net_names lt

  -- a net on a pin of a kept cell
  pub named : (d : Cell) → Member d (kept choice n.cells) → (x : NetId) → Member x (d.ins.items ++ d.out ∷ []) → IsNamed x.0
  named d m-d x m-x =
      let pin : Member (name_at n x.0) (part_of n.nets d).pins = Member-map (λ (net : NetId). get_or n.nets net.0 []) x m-x in
      let among : Member (name_at n x.0) (flat_map (λ (cell : PartCell). cell.pins) (map (part_of n.nets) (kept choice n.cells))) = Member-flat_map (λ (cell : PartCell). cell.pins) (part_of n.nets d) (name_at n x.0) (Member-map (part_of n.nets) d m-d) pin in
      list_any-once_each (port_names (kept_parts n choice) ++ flat_map (λ (cell : PartCell). cell.pins) (map (part_of n.nets) (kept choice n.cells))) (name_at n x.0)
      ∙ list_any-from_member (same_name (name_at n x.0)) (name_at n x.0) (Member-append_right (port_names (kept_parts n choice)) (name_at n x.0) among) (same_itself (name_at n x.0))

  -- ---- ports

  pub port-name : (k : NetlistData) → IsNetlist k → k.ports ≡ n.ports → (net : ℕ) → net < length n.ports → name_at k net ≡ get_or (map (λ (p : Port). p.name) n.ports) net []
  port-name k is same net lt =
      let first : take (length n.ports) k.nets ≡ map (λ (p : Port). p.name) n.ports = ap (λ ports. take (length ports) k.nets) (sym same) ∙ is.ports_first ∙ ap (map (λ (p : Port). p.name)) same in
      sym (get_or-take (length n.ports) k.nets net [] lt) ∙ ap (λ xs. get_or xs net []) first

  pub port-within : (k : NetlistData) → IsNetlist k → k.ports ≡ n.ports → (net : ℕ) → net < length n.ports → net < length k.nets
  port-within k is same net lt =
      let first : length (take (length k.ports) k.nets) ≡ length k.ports = ap length is.ports_first ∙ length-map k.ports (λ (p : Port). p.name) in
      let count : length k.ports ≡ length n.ports = ap length same in
      let most = length-take (length k.ports) k.nets in
      omega (arith, first, count, most, lt)

  -- ---- kept cells

  -- a gate comes from a rail or from an acknowledge cell, never from both
  pub rail_or_not : (c : Cell) → IsCell n c → IsRailGate n c ⊎ (IsRailGate n c → ⊥)
  rail_or_not c in_c = by_kind c.kind refl
    where
      by_kind : (kind : CellKind) → c.kind ≡ kind → IsRailGate n c ⊎ (IsRailGate n c → ⊥)
      by_kind (Gate kind) e =
          let (k, at-c) = place_of n c in_c in
          elim ((free.unmixed k c at-c).gate kind e) [
            | inl (bank, only) ↦ inl ((kind, e), (bank, only.comes))
            | inr (bank, only, tree) ↦ inr (λ (is_gate_c, (other, from)). kind-apart other bank ((only_origin n is_n free c.out.0 (RailOf other) from).only (AckOf bank) only.comes))
          ]
      by_kind other e = inr (λ ((kind, f), comes). (let no : Gate kind ≡ other = sym f ∙ e in absurd cc))

  pub same-choice : (c d : Cell) → choice c ≡ Some c → choice c ≡ Some d → c ≡ d
  same-choice c d one two = let both : Some c ≡ Some d = sym one ∙ two in cc

  pub out-source : (c e : Cell) → IsCell n c → choice c ≡ Some e → e.out ≡ c.out
  out-source c e in_c is = elim (rail_or_not c in_c) [
    | inr no_rail ↦ ap (λ (z : Cell). z.out) (sym (same-choice c e (chosen.stands c in_c no_rail) is))
    | inl rail ↦ (chosen.gate c e in_c rail is).1
  ]

  pub in-kept : (c d : Cell) → IsCell n c → choice c ≡ Some d → Member d (kept choice n.cells)
  in-kept c d in_c is = Member-from_Contains (kept choice n.cells) d (Contains-filter_map_of choice n.cells c d in_c is)

  pub kept-from : (d : Cell) → Member d (kept choice n.cells) → (c : Cell) × IsCell n c × (choice c ≡ Some d)
  kept-from d m-d = Contains-filter_map choice n.cells d (Contains-from_Member d m-d)

  pub out-in : (d : Cell) → Member d.out (d.ins.items ++ d.out ∷ [])
  out-in d = Member-append_right d.ins.items d.out here

  -- a net on a pin of a kept cell is a net of n, and has a number there
  pub pin-kept : (d : Cell) → Member d (kept choice n.cells) → (x : NetId) → Member x (d.ins.items ++ d.out ∷ []) → (x.0 < length n.nets) × (from (to x.0) ≡ x.0)
  pin-kept d m-d x m-x =
      let (c, in_c, is) = kept-from d m-d in
      let fits = cell_fits n is_n c in_c in
      let within : x.0 < length n.nets = elim (Member-append_cases x d.ins.items (d.out ∷ []) m-x) [
        | inl pin ↦ elim (rail_or_not c in_c) [
          | inl rail ↦ (chosen.pins c d in_c rail is x (Contains-from_Member x pin)).0
          | inr no_rail ↦ All-member (λ (net : NetId). net.0 < length n.nets) c.ins.items fits.inputs x (subst (λ (z : Cell). Member x z.ins.items) (sym (same-choice c d (chosen.stands c in_c no_rail) is)) pin)
        ]
        | inr last ↦ elim (member_cases x d.out [] last) [ inl own ↦ subst (λ (z : NetId). z.0 < length n.nets) (sym (out-source c d in_c is) ∙ own) fits.output | inr none ↦ elim none [ ] ]
      ] in
      (within, back x.0 within (named d m-d x m-x))

  pub stood : (k : ℕ) (c : Cell) → CellAt n k c → (IsRailGate n c → ⊥) → IsStood m to from at k c
  stood k c at-c no_rail =
      let in_c : IsCell n c = Contains-from_slice_get n.cells k c at-c in
      let is = chosen.stands c in_c no_rail in
      let among = in-kept c c in_c is in
      record {
        stands = subst (λ cells. slice_get cells (at k) ≡ Some (moved to c)) (sym cells-moved) (at_map (moved to) (kept choice n.cells) (at k) c (kept_at choice n.cells k c c at-c is));
        out = (pin-kept c among c.out (out-in c)).1;
        pins = λ x reads. (pin-kept c among x (Member-append_left x (c.out ∷ []) (Member-from_Contains c.ins.items x reads))).1;
      }

  -- what a cell of m was, and where its net leads back
  pub source : (i : ℕ) (d : Cell) → CellAt m i d → (k : ℕ) × (c : Cell) × (e : Cell) × CellAt n k c × (choice c ≡ Some e) × (at k ≡ i) × (d ≡ moved to e) × IsCell n c × Member e (kept choice n.cells) × (from d.out.0 ≡ c.out.0)
  source i d at-d =
      let (e, stands, is) = at_of_map (moved to) (kept choice n.cells) i d (subst (λ cells. slice_get cells i ≡ Some d) cells-moved at-d) in
      let (k, c, at-c, from-c, place) = kept_from choice n.cells i e stands in
      let in_c : IsCell n c = Contains-from_slice_get n.cells k c at-c in
      let among = in-kept c e in_c from-c in
      (k, c, e, at-c, from-c, place, sym is, in_c, among, ap (λ (z : Cell). from z.out.0) (sym is) ∙ (pin-kept e among e.out (out-in e)).1 ∙ ap (λ (y : NetId). y.0) (out-source c e in_c from-c))

  pub each-cell : (i : ℕ) (d : Cell) → CellAt m i d → IsOld n to at i d ⊎ IsThinGate n to from d
  each-cell i d at-d =
      let (k, c, e, at-c, is, place, moved-e, in_c, among, back-c) = source i d at-d in
      elim (rail_or_not c in_c) [
        | inr no_rail ↦ inl (record { place = k; cell = c; in_n = at-c; no_rail = no_rail; is_at = place; is = moved-e ∙ ap (moved to) (sym (same-choice c e (chosen.stands c in_c no_rail) is)) })
        | inl rail ↦
            let (is_gate_e, out) = chosen.gate c e in_c rail is in
            inr (record {
              old = c;
              bank = rail.1.0;
              in_n = in_c;
              old_gate = rail.0;
              comes = rail.1.1;
              gate = subst IsGate (sym moved-e) is_gate_e;
              out = ap (λ (z : Cell). z.out) moved-e ∙ ap (renamed_net to) out;
              kept = subst (λ (x : NetId). from (to x.0) ≡ x.0) out (pin-kept e among e.out (out-in e)).1;
              pins = λ z reads.
                  let (x, m-x, same) = member_of_map (renamed_net to) e.ins.items z (Member-from_Contains (moved to e).ins.items z (subst (λ (w : Cell). Contains w.ins.items z) moved-e reads)) in
                  (x.0, ap (λ (w : NetId). w.0) (sym same), (pin-kept e among x (Member-append_left x (e.out ∷ []) m-x)).1, (chosen.pins c e in_c rail is x (Contains-from_Member x m-x)).1 rail.1.0 rail.1.1);
            })
      ]

  -- ---- cells that are no gates

  abbrev no_gate : Cell → Bool
  no_gate c = not (is_gate c.kind)

  pub filter-moved : (cells : List Cell) → filter no_gate (map (moved to) cells) ≡ map (moved to) (filter no_gate cells)
  filter-moved [] = refl
  filter-moved (c ∷ cells) =
      let rest = filter-moved cells in
      elim (no_gate c) as (λ b. cond b (moved to c ∷ filter no_gate (map (moved to) cells)) (filter no_gate (map (moved to) cells)) ≡ map (moved to) (cond b (c ∷ filter no_gate cells) (filter no_gate cells))) [
        | true ↦ ap (λ xs. moved to c ∷ xs) rest
        | false ↦ rest
      ]

  gate-fails : (c : Cell) → IsGate c → no_gate c ≡ false
  gate-fails c (kind, e) = ap (λ k. not (is_gate k)) e

  pub filter-kept : (cells : List Cell) → ((c : Cell) → Member c cells → IsCell n c) → filter no_gate (kept choice cells) ≡ filter no_gate cells
  filter-kept [] among = refl
  filter-kept (c ∷ cells) among =
      let rest = filter-kept cells (λ d o. among d (there o)) in
      let in_c = among c here in
      elim (rail_or_not c in_c) [
        | inr no_rail ↦
            let is = chosen.stands c in_c no_rail in
            ap (filter no_gate) (kept_some choice c c cells is) ∙ ap (λ xs. cond (no_gate c) (c ∷ xs) xs) rest
        | inl rail ↦
            let fails = gate-fails c rail.0 in
            elim (choice c) as (λ o. choice c ≡ o → filter no_gate (with_kept o (kept choice cells)) ≡ filter no_gate (c ∷ cells)) [
              | None ↦ λ gone. rest ∙ sym (filter_gone no_gate c cells fails)
              | Some d ↦ λ is. filter_gone no_gate d (kept choice cells) (gate-fails d (chosen.gate c d in_c rail is).0) ∙ rest ∙ sym (filter_gone no_gate c cells fails)
            ] refl
      ]

  -- ---- ranks

  abbrev rank : ℕ → ℕ
  rank y = (gate_ranks n is_n free).0 (from y)

  pub ranks : (c d : Cell) → IsCell m c → IsGate c → IsCell m d → ReadsNet c d.out.0 → rank d.out.0 < rank c.out.0
  ranks c d in_c is_gate_c in_d reads =
      let (i, at-c) = place_of m c in_c in
      let (j, at-d) = place_of m d in_d in
      let (k, a, e, at-a, is, place, moved-e, in_a, m-e, c-back) = source i c at-c in
      let (l, b, g, at-b, is-b, place-b, moved-g, in_b, m-g, d-back) = source j d at-d in
      let (x, m-x, same) = member_of_map (renamed_net to) e.ins.items (record { 0 = d.out.0 }) (Member-from_Contains (moved to e).ins.items (record { 0 = d.out.0 }) (subst (λ (w : Cell). Contains w.ins.items (record { 0 = d.out.0 })) moved-e reads)) in
      let x-back : from d.out.0 ≡ x.0 = ap (λ (y : NetId). from y.0) (sym same) ∙ (pin-kept e m-e x (Member-append_left x (e.out ∷ []) m-x)).1 in
      let (old_rank, top, below, rises) = gate_ranks n is_n free in
      let less : old_rank (from d.out.0) < old_rank (from c.out.0) = subst (λ y. old_rank (from d.out.0) < old_rank y) (sym c-back) (elim (rail_or_not a in_a) [
        | inl rail ↦ subst (λ y. old_rank y < old_rank a.out.0) (sym x-back) (chosen.ranks old_rank rises a e in_a rail is x (Contains-from_Member x m-x))
        | inr no_rail ↦
            let same-a : a ≡ e = same-choice a e (chosen.stands a in_a no_rail) is in
            let gate-a : IsGate a = (is_gate_c.0, ap (λ (z : Cell). z.kind) same-a ∙ ap (λ (z : Cell). z.kind) (sym moved-e) ∙ is_gate_c.1) in
            let reads-a : ReadsNet a b.out.0 = subst (λ y. Contains a.ins.items (record { 0 = y })) (sym x-back ∙ d-back) (subst (λ (z : Cell). Contains z.ins.items x) (sym same-a) (Contains-from_Member x m-x)) in
            subst (λ y. old_rank y < old_rank a.out.0) (sym d-back) (rises a b in_a gate-a in_b reads-a)
      ]) in
      less

  module _ (is_m : IsNetlist m) where
    abbrev pub thinned-rebuilt : IsThinned n m
    thinned-rebuilt = record {
      to = to;
      from = from;
      at = at;
      is_n = is_n;
      is_m = is_m;
      ports = refl;
      port_to = λ net lt. ap (name_number m.nets) (port-name n is_n refl net lt ∙ sym (port-name m is_m refl net lt)) ∙ name_number-get_or m.nets net [] is_m.net_names (port-within m is_m refl net lt);
      port_from = λ net lt. ap (name_number n.nets) (port-name m is_m refl net lt ∙ sym (port-name n is_n refl net lt)) ∙ name_number-get_or n.nets net [] is_n.net_names (port-within n is_n refl net lt);
      stood = stood;
      rises = λ j k c d at-c at-d no-c no-d lt. kept_rises choice n.cells j k c c at-c (chosen.stands c (Contains-from_slice_get n.cells j c at-c) no-c) lt;
      plain = ap (filter no_gate) cells-moved ∙ filter-moved (kept choice n.cells) ∙ ap (map (moved to)) (filter-kept n.cells (λ c o. Contains-from_Member c o));
      each = each-cell;
      rank = rank;
      ranks = ranks;
    }

  -- ---- the parts break no rule

  module _ (whole : IsWhole n choice) where
    abbrev parts : Parts
    parts = kept_parts n choice

    abbrev k : NetlistData
    k = netlist_of parts

    abbrev cells : List Cell
    cells = kept choice n.cells

    as_there : (c d : Cell) → Member c n.cells → choice c ≡ Some d → (d.name ≡ c.name) × (d.out ≡ c.out)
    as_there c d m is =
        let in_c : IsCell n c = Contains-from_Member c m in (
          elim (rail_or_not c in_c) [ inl rail ↦ whole.name c d in_c rail is | inr no_rail ↦ ap (λ (z : Cell). z.name) (sym (same-choice c d (chosen.stands c in_c no_rail) is)) ],
          out-source c d in_c is,
        )

    few : length parts.cells ≤ most_cells
    few = let count = length-map cells (part_of n.nets) in let less = kept_few choice n.cells in let most = is_n.few_cells in omega (arith, count, less, most)

    own-names : AllDiffer (cell_names parts)
    own-names =
        subst AllDiffer (sym (map-map (λ (cell : PartCell). cell.name) (part_of n.nets) cells))
        (differ_names (map (λ (cell : Cell). cell.name) cells)
        (kept_differ (λ (cell : Cell). cell.name) choice n.cells (λ c d m is. (as_there c d m is).0) (names_differ (map (λ (cell : Cell). cell.name) n.cells) is_n.cell_names)))

    -- ---- the ports are the first nets

    pub ports-apart : AllDiffer (port_names parts)
    ports-apart = subst AllDiffer is_n.ports_first (AllDiffer-take n.nets (length n.ports) is_n.net_names)

    first-nets : take (length n.ports) k.nets ≡ map (λ (p : Port). p.name) n.ports
    first-nets = ap (λ count. take count k.nets) (sym (length-map n.ports (λ (p : Port). p.name))) ∙ take-once_each (port_names parts) (flat_map (λ (cell : PartCell). cell.pins) parts.cells) ports-apart

    port-same : (net : ℕ) → net < length n.ports → name_at k net ≡ name_at n net
    port-same net lt =
        sym (get_or-take (length n.ports) k.nets net [] lt) ∙ ap (λ xs. get_or xs net []) (first-nets ∙ sym is_n.ports_first) ∙ get_or-take (length n.ports) n.nets net [] lt

    nets-differ : AllDiffer k.nets
    nets-differ = AllDiffer-once_each (port_names parts ++ flat_map (λ (cell : PartCell). cell.pins) parts.cells)

    -- ---- each net of the parts was a net

    -- of the parts a net that is this net of n, and what drives it is kept
    WasNet : ℕ → Type 0
    WasNet net = (was : ℕ) × (was < length n.nets) × (name_at n was ≡ name_at k net) × ((b : Cell) → IsCell n b → b.out.0 ≡ was → (e : Cell) × (choice b ≡ Some e))

    port-driven : (i : ℕ) (p : Port) → slice_get n.ports i ≡ Some p → (b : Cell) → IsCell n b → b.out.0 ≡ i → (e : Cell) × (choice b ≡ Some e)
    port-driven i p at b in_b out =
        elim (cases_Bool p.output) [
          | inl output ↦ whole.shown b in_b (subst (IsOutputPort n) (sym out) (p, at, output))
          | inr input ↦ absurd (no_cell_drives_port n is_n b in_b (subst (IsInputPort n) (sym out) (p, at, input)))
        ]

    was-port : (net : ℕ) (name : List ℕ) → Member name (port_names parts) → name ≡ name_at k net → WasNet net
    unfolding WasNet
    was-port net name m e =
        let (p, m-p, is-p) = member_of_map (λ (p : Port). p.name) n.ports name m in
        let (i, at) = slice_get-from_Contains n.ports p (Contains-from_Member p m-p) in
        let lt : i < length n.ports = slice_get_within n.ports i p at in
        let named-i : name_at n i ≡ name = port-name n is_n refl i lt ∙ get_or-map (λ (p : Port). p.name) n.ports i p [] lt ∙ ap (λ (p : Port). p.name) (get_or_from_slice_get n.ports i p p at) ∙ is-p in
        (i, port-within n is_n refl i lt, named-i ∙ e, port-driven i p at)

    was-pin : (net : ℕ) (name : List ℕ) → Member name (flat_map (λ (cell : PartCell). cell.pins) parts.cells) → name ≡ name_at k net → WasNet net
    unfolding WasNet
    was-pin net name m e =
        let (part, m-part, m-name) = member_of_flat_map (λ (cell : PartCell). cell.pins) parts.cells name m in
        let (d, m-d, is-d) = member_of_map (part_of n.nets) cells part m-part in
        let (c, in_c, is) = kept-from d m-d in
        let (x, m-x, is-x) = member_of_map (λ (net : NetId). get_or n.nets net.0 []) (d.ins.items ++ d.out ∷ []) name (subst (λ (cell : PartCell). Member name cell.pins) (sym is-d) m-name) in (
          x.0,
          (pin-kept d m-d x m-x).0,
          is-x ∙ e,
          λ b in_b out-b. elim (Member-append_cases x d.ins.items (d.out ∷ []) m-x) [
            | inl pin ↦ whole.driven c d b x in_c is (Contains-from_Member x pin) in_b out-b
            | inr last ↦ elim (member_cases x d.out [] last) [
              | inl same ↦ (d, ap choice (same_driver n is_n b c in_b in_c (out-b ∙ ap (λ (z : NetId). z.0) (sym same ∙ out-source c d in_c is))) ∙ is)
              | inr none ↦ elim none [ ]
            ]
          ],
        )

    was-net : (net : ℕ) → net < length k.nets → WasNet net
    was-net net lt =
        elim (Member-append_cases (name_at k net) (port_names parts) (flat_map (λ (cell : PartCell). cell.pins) parts.cells) (from_once (port_names parts ++ flat_map (λ (cell : PartCell). cell.pins) parts.cells) (name_at k net) (Member-get_or k.nets net [] lt))) [
          | inl port ↦ was-port net (name_at k net) port refl
          | inr pin ↦ was-pin net (name_at k net) pin refl
        ]

    -- ---- drivers

    module _ (net : ℕ) (lt : net < length k.nets) (was : ℕ) (was_in : was < length n.nets) (same-name : name_at n was ≡ name_at k net) (driven : (b : Cell) → IsCell n b → b.out.0 ≡ was → (e : Cell) × (choice b ≡ Some e)) where
      to-was : to was ≡ net
      to-was = ap (name_number k.nets) same-name ∙ name_number-get_or k.nets net [] nets-differ lt

      from-net : from net ≡ was
      from-net = ap (name_number n.nets) (sym same-name) ∙ name_number-get_or n.nets was [] is_n.net_names was_in

      drives-same : get_or (map drives n.ports) net 0 ≡ get_or (map drives n.ports) was 0
      drives-same =
          let count : length (map drives n.ports) ≡ length n.ports = length-map n.ports drives in
          elim (cases_lt net (length n.ports)) [
            | inl port ↦
                let names : name_at n was ≡ name_at n net = same-name ∙ port-same net port in
                let in-n = port-within n is_n refl net port in
                ap (λ x. get_or (map drives n.ports) x 0) (sym (name_number-get_or n.nets net [] is_n.net_names in-n) ∙ ap (name_number n.nets) (sym names) ∙ name_number-get_or n.nets was [] is_n.net_names was_in)
            | inr inner ↦
                elim (cases_lt was (length n.ports)) [
                  | inl port ↦
                      let names : name_at k was ≡ name_at k net = port-same was port ∙ same-name in
                      let first : length (take (length n.ports) k.nets) ≡ length n.ports = ap length first-nets ∙ length-map n.ports (λ (p : Port). p.name) in
                      let most = length-take (length n.ports) k.nets in
                      let in-k : was < length k.nets = omega (arith, first, most, port) in
                      let one : was ≡ net = sym (name_number-get_or k.nets was [] nets-differ in-k) ∙ ap (name_number k.nets) names ∙ name_number-get_or k.nets net [] nets-differ lt in
                      absurd (omega (arith, one, inner, port))
                  | inr also ↦ get_or_past (map drives n.ports) net 0 (omega (arith, count, inner)) ∙ sym (get_or_past (map drives n.ports) was 0 (omega (arith, count, also)))
                ]
          ]

      out-same : (d : Cell) → Member d cells → nat_eq (to d.out.0) net ≡ nat_eq d.out.0 was
      out-same d m-d =
          ap (nat_eq (to d.out.0)) (sym to-was) ∙ same-number to from d.out.0 was (pin-kept d m-d d.out (out-in d)).1 (ap from to-was ∙ from-net)

      cells-count : count_by (λ (c : Cell). nat_eq c.out.0 net) k.cells ≡ count_by (λ (d : Cell). nat_eq d.out.0 was) cells
      cells-count =
          ap (count_by (λ (c : Cell). nat_eq c.out.0 net)) cells-moved ∙ sum_by-map (λ (c : Cell). cond (nat_eq c.out.0 net) 1 0) (moved to) cells
          ∙ sum-same (λ (d : Cell). cond (nat_eq (to d.out.0) net) 1 0) (λ (d : Cell). cond (nat_eq d.out.0 was) 1 0) cells (λ d m-d. ap (λ b. cond b 1 0) (out-same d m-d))

      no_two : drivers_at parts net ≤ 1
      no_two =
          let one : get_or (map drives n.ports) was 0 + count_by (λ (c : Cell). nat_eq c.out.0 was) n.cells ≡ 1 = is_n.driven was was_in in
          let less : count_by (λ (d : Cell). nat_eq d.out.0 was) cells ≤ count_by (λ (c : Cell). nat_eq c.out.0 was) n.cells = count_kept choice (λ (d : Cell). nat_eq d.out.0 was) n.cells (λ c d m is. ap (λ (z : NetId). nat_eq z.0 was) (as_there c d m is).1) in
          let ports = drives-same in
          let count = cells-count in
          omega (arith, one, less, ports, count)

      some_driver : 1 ≤ drivers_at parts net
      some_driver =
          let one : get_or (map drives n.ports) was 0 + count_by (λ (c : Cell). nat_eq c.out.0 was) n.cells ≡ 1 = is_n.driven was was_in in
          let ports = drives-same in
          let count = cells-count in
          elim (cases_lt 0 (get_or (map drives n.ports) was 0)) [
            | inl by-port ↦ omega (arith, by-port, ports)
            | inr none ↦
                let (b, m-b, out) = member_from_count (λ (c : Cell). nat_eq c.out.0 was) n.cells (omega (arith, one, none)) in
                let in_b : IsCell n b = Contains-from_Member b m-b in
                let (e, is) = driven b in_b (eqb-true b.out.0 was out) in
                let some = count_from_member (λ (d : Cell). nat_eq d.out.0 was) e (in-kept b e in_b is) (ap (λ (z : NetId). nat_eq z.0 was) (as_there b e m-b is).1 ∙ out) in
                omega (arith, some, count)
          ]

    -- ---- all rules

    pub faultless-kept : IsFaultless parts
    unfolding WasNet
    faultless-kept = (
      few,
      own-names,
      (λ net lt. let (was, was_in, same, driven) = was-net net lt in no_two net lt was was_in same driven),
      (λ net lt. let (was, was_in, same, driven) = was-net net lt in some_driver net lt was was_in same driven),
    )

    -- and what `build` asks
    pub all-pins : All HasAllPins parts.cells
    all-pins = All-from_members HasAllPins parts.cells (λ part m.
        let (d, m-d, is-d) = member_of_map (part_of n.nets) cells part m in
        let (c, in_c, is) = kept-from d m-d in
        let fits : length d.ins.items + 1 ≡ length (pins_of d.kind) = elim (rail_or_not c in_c) [
          | inl rail ↦ whole.fits c d in_c rail is
          | inr no_rail ↦ subst (λ (z : Cell). length z.ins.items + 1 ≡ length (pins_of z.kind)) (same-choice c d (chosen.stands c in_c no_rail) is) (cell_fits n is_n c in_c).pins
        ] in
        subst HasAllPins is-d (pins-count n.nets d ∙ fits))
