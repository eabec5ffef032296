-- The beads of what is there are those of nodes, and each node has a bead of its own.
use Rattle.ncl_diagram.proofs.Terms.{Above, AddsBeads, Bool, Err, Full, Grown, Held, HoldsOnly, HoldsWith, IfOk, IsAnswer, IsCanonical, IsErrOf, IsTooMuch, Kind, Lacks, Leaves, List, Node, Ok, Option, Ref, Result, Some, SpaceFault, There, [], ap, arith, bead_of, beads_of, bit_or, bool_cmp, branch, eq_by_cmp, false, gate_from, if◌then◌else◌, inl, inr, is_bead, is_same, is_same-self, length, level_of, one_table, refl, slice_cmp, slice_get, suc, sym, table_from, true, zero, ℕ, ◌++◌, ◌+◌, ◌-◌, ◌<◌, ◌^◌, ◌||◌, ◌∙◌, ◌∷◌, ◌≡◌, ◌≤◌, ◌⊎◌}
use Rattle.ncl_diagram.proofs.Canonical.{get_within, Reads, Passes, look, next_low, next_high, there_low, there_high, one_place, length-table_from}
use Rattle.ncl_diagram.proofs.Growth.{get_there, bead_grown, gate_grown}
use Rattle.ncl_diagram.proofs.Step.{own_bead, beads_step, pow_one}
use Rattle.ncl_diagram.proofs.Applying.{in_two, some_only}
use Rattle.ncl_diagram.proofs.BeadTests.{any_append, either}

-- the bead of the table itself
own_only : (l h t : List Bool) → is_bead (own_bead l h) t ≡ true → (is_same l h ≡ false) × (t ≡ l ++ h)
own_only l h t e = by (is_same l h) refl
  where
    by : (b : Bool) → is_same l h ≡ b → (is_same l h ≡ false) × (t ≡ l ++ h)
    by true s = let f : is_bead [] t ≡ true = sym (ap (λ (b : Bool). is_bead (if b then [] else (l ++ h) ∷ []) t) s) ∙ e in absurd (grind arith)
    by false s =
        let f : (eq_by_cmp (slice_cmp bool_cmp) t (l ++ h) || false) ≡ true = sym (ap (λ (b : Bool). is_bead (if b then [] else (l ++ h) ∷ []) t) s) ∙ e in
        (s, one_table t (l ++ h) (one (either (eq_by_cmp (slice_cmp bool_cmp) t (l ++ h)) false f)))
      where
        one : {a : Bool} → (a ≡ true) ⊎ (false ≡ true) → a ≡ true
        one (inl e) = e
        one (inr e) = absurd (grind arith)

-- each bead of what is there is a node's
pub beads_held : (n : ℕ) (nodes : List Node) → IsCanonical n nodes → (m level p : ℕ) (t : List Bool) → level + m ≡ n → level ≤ level_of n nodes p → p < length nodes + 2 → is_bead (beads_of m (table_from nodes m level p)) t ≡ true → Held n nodes t
beads_held n nodes c zero level p t e le th h = absurd (grind arith)
beads_held n nodes c (suc m) level p t e le th h =
    let r = look n nodes level p (omega arith) le in
    by r
    (λ q. beads_held n nodes c m (level + 1) (branch nodes level false p) t (omega arith) (next_low n nodes level p c r) (there_low n nodes level p c th r) q)
    (λ q. beads_held n nodes c m (level + 1) (branch nodes level true p) t (omega arith) (next_high n nodes level p c r) (there_high n nodes level p c th r) q)
  where
    L : List Bool
    L = table_from nodes m (level + 1) (branch nodes level false p)

    H : List Bool
    H = table_from nodes m (level + 1) (branch nodes level true p)

    own : Reads n nodes level p ⊎ Passes n nodes level p → (is_same L H ≡ false) × (t ≡ L ++ H) → Held n nodes t
    own (inl r) q =
        let b = r.bit in
        let rest : n - r.node.bit ≡ suc m = omega arith in
        (r.k, r.node, r.is, (λ i. table_from nodes (rest i) (b i) (sym r.at i)) ∙ sym q.1)
    own (inr x) q =
        let s : is_same L H ≡ true = (λ i. is_same (table_from nodes m (level + 1) (x.low i)) (table_from nodes m (level + 1) (x.high i))) ∙ is_same-self (table_from nodes m (level + 1) p) in
        let f = q.0 in
        absurd (grind arith)

    by : Reads n nodes level p ⊎ Passes n nodes level p → (is_bead (beads_of m L) t ≡ true → Held n nodes t) → (is_bead (beads_of m H) t ≡ true → Held n nodes t) → Held n nodes t
    by r low high =
        pick (either (is_bead (own_bead L H ++ beads_of m L) t) (is_bead (beads_of m H) t) (sym (any_append t (own_bead L H ++ beads_of m L) (beads_of m H)) ∙ sym (ap (λ (bs : List (List Bool)). is_bead bs t) (beads_step m L H (length-table_from nodes m (level + 1) (branch nodes level false p)))) ∙ h))
      where
        inner : (is_bead (own_bead L H) t ≡ true) ⊎ (is_bead (beads_of m L) t ≡ true) → Held n nodes t
        inner (inl q) = own r (own_only L H t q)
        inner (inr q) = low q

        pick : (is_bead (own_bead L H ++ beads_of m L) t ≡ true) ⊎ (is_bead (beads_of m H) t ≡ true) → Held n nodes t
        pick (inl q) = inner (either (is_bead (own_bead L H) t) (is_bead (beads_of m L) t) (sym (any_append t (own_bead L H) (beads_of m L)) ∙ q))
        pick (inr q) = high q

-- nodes with one bead are one
pub beads_differ : (n : ℕ) (nodes : List Node) → IsCanonical n nodes → (j k : ℕ) (x y : Node) → slice_get nodes j ≡ Some x → slice_get nodes k ≡ Some y → bead_of n nodes j x ≡ bead_of n nodes k y → j ≡ k
beads_differ n nodes c j k x y gx gy same =
    let long : 2 ^ (n - x.bit) ≡ 2 ^ (n - y.bit) = sym (length-table_from nodes (n - x.bit) x.bit (suc (suc j))) ∙ ap length same ∙ length-table_from nodes (n - y.bit) y.bit (suc (suc k)) in
    let rests = pow_one (n - x.bit) (n - y.bit) long in
    let bx = c.bits j x gx in
    let by = c.bits k y gy in
    let bit : y.bit ≡ x.bit = omega arith in
    let wx = get_within nodes j x gx in
    let wy = get_within nodes k y gy in
    let lx : level_of n nodes (suc (suc j)) ≡ x.bit = ap (λ (o : Option Node). bit_or n o) gx in
    let ly : level_of n nodes (suc (suc k)) ≡ y.bit = ap (λ (o : Option Node). bit_or n o) gy in
    let e = one_place n nodes c (n - x.bit) x.bit (suc (suc j)) (suc (suc k)) (omega arith) (omega arith) (omega arith) (omega arith) (omega arith) (same ∙ (λ i. table_from nodes (sym rests i) (bit i) (suc (suc k)))) in
    omega arith

-- what was held stays
pub held_grown : (n : ℕ) (a b : List Node) → IsCanonical n a → Grown a b → (t : List Bool) → Held n a t → Held n b t
held_grown n a b c g t h = let w = get_within a h.0 h.1 h.2 in (h.0, h.1, g.kept h.0 h.1 h.2, bead_grown n a b c g h.0 h.1 w ∙ h.3)

all_above : (n : ℕ) (nodes : List Node) (ps : List ℕ) → Above n nodes 0 ps
all_above n nodes [] = tt
all_above n nodes (p ∷ ps) = (omega arith, all_above n nodes ps)

-- what is held was held, or is the bead of a node that came
pub only_by : (n : ℕ) (a b : List Node) (made : List Bool) → IsCanonical n a → Grown a b → ((k : ℕ) (x : Node) → length a ≤ k → slice_get b k ≡ Some x → is_bead (beads_of n made) (bead_of n b k x) ≡ true) → (t : List Bool) → Held n b t → Held n a t ⊎ (is_bead (beads_of n made) t ≡ true)
only_by n a b made c g came t h = by (in_two h.0 (length a))
  where
    by : (h.0 < length a) ⊎ (length a ≤ h.0) → Held n a t ⊎ (is_bead (beads_of n made) t ≡ true)
    by (inl lt) =
        let q = get_there a h.0 lt in
        let x : q.0 ≡ h.1 = some_only q.0 h.1 (sym (g.kept h.0 q.0 q.1) ∙ h.2) in
        inl (h.0, h.1, q.1 ∙ ap (λ (z : Node). Some z) x, sym (bead_grown n a b c g h.0 h.1 lt) ∙ h.3)
    by (inr le) = inr (sym (ap (is_bead (beads_of n made)) h.3) ∙ came h.0 h.1 le h.2)

pub only_added : (n : ℕ) (kind : Kind) (a b : List Node) (ps : List ℕ) → IsCanonical n a → Grown a b → There a ps → AddsBeads n kind (length a) (length b) b ps → (t : List Bool) → Held n b t → Held n a t ⊎ (is_bead (beads_of n (gate_from kind a n 0 ps)) t ≡ true)
only_added n kind a b ps c g th adds =
    only_by n a b (gate_from kind a n 0 ps) c g (λ k x le got.
    ap (λ (u : List Bool). is_bead (beads_of n u) (bead_of n b k x)) (sym (gate_grown n kind a b c g n 0 ps th))
    ∙ adds k x le (get_within b k x got) got n 0 (omega arith) (all_above n b ps))

pub holds_only : (n : ℕ) (kind : Kind) (a b : List Node) (ps : List ℕ) → IsCanonical n a → Grown a b → There a ps → AddsBeads n kind (length a) (length b) b ps → HoldsOnly n a b (gate_from kind a n 0 ps)
holds_only n kind a b ps c g th adds = record { kept = held_grown n a b c g; only = only_added n kind a b ps c g th adds }

pub table_made : (n : ℕ) (kind : Kind) (a b : List Node) (ps : List ℕ) (r : ℕ) → IsCanonical n a → Grown a b → There a ps → IsAnswer n kind b ps r → table_from b n 0 r ≡ gate_from kind a n 0 ps
table_made n kind a b ps r c g th x = x.table n 0 (omega arith) (all_above n b ps) ∙ gate_grown n kind a b c g n 0 ps th

pub holds_with : (n : ℕ) (kind : Kind) (a b : List Node) (ps : List ℕ) (r : ℕ) → IsCanonical n a → IsCanonical n b → Grown a b → There a ps → AddsBeads n kind (length a) (length b) b ps → IsAnswer n kind b ps r → HoldsWith n a b (gate_from kind a n 0 ps)
holds_with n kind a b ps r c d g th adds x = record {
  kept = held_grown n a b c g;
  beads = λ t h. beads_held n b d n 0 r t (omega arith) (omega arith) x.there (ap (λ (u : List Bool). is_bead (beads_of n u) t) (table_made n kind a b ps r c g th x) ∙ h);
  only = only_added n kind a b ps c g th adds;
}

pub too_much : (n : ℕ) (kind : Kind) (a b : List Node) (ps : List ℕ) (limit : ℕ) → IsCanonical n a → IsCanonical n b → Grown a b → There a ps → Lacks n kind b ps → length b ≡ limit → IsTooMuch n b (gate_from kind a n 0 ps) limit
too_much n kind a b ps limit c d g th l e = record {
  bead = l.0;
  needed = ap (λ (u : List Bool). is_bead (beads_of n u) l.0) (sym (gate_grown n kind a b c g n 0 ps th)) ∙ l.1 n 0 (omega arith) (all_above n b ps);
  lacking = λ h. l.2 h.0 h.1 h.2 h.3;
  count = e;
  distinct = beads_differ n b d;
}

-- what one operation leaves
pub leaves_applied : (n limit : ℕ) (kind : Kind) (a b : List Node) (ps : List ℕ) (o : Result Ref SpaceFault) → IsCanonical n a → There a ps → IsCanonical n b → Grown a b → length b ≤ limit → AddsBeads n kind (length a) (length b) b ps → IfOk o (λ r. IsAnswer n kind b ps r.place) → (IsErrOf o Full → length b ≡ limit) → (IsErrOf o Full → Lacks n kind b ps) → Leaves n limit a b (gate_from kind a n 0 ps) o
leaves_applied n limit kind a b ps (Ok r) c th d g few adds answer full lacks = record {
  canonical = d;
  grown = g;
  few = few;
  live = answer.there;
  table = table_made n kind a b ps r.place c g th answer;
  holds = holds_with n kind a b ps r.place c d g th adds answer;
  only = holds_only n kind a b ps c g th adds;
  full = λ e. absurd cc;
}
leaves_applied n limit kind a b ps (Err e) c th d g few adds answer full lacks = record {
  canonical = d;
  grown = g;
  few = few;
  live = tt;
  table = tt;
  holds = tt;
  only = holds_only n kind a b ps c g th adds;
  full = λ e. too_much n kind a b ps limit c d g th (lacks e) (full e);
}
