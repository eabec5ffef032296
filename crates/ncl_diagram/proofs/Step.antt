-- One step of the operation: from the answers at the operands' branches to the answer.
use Rattle.ncl_diagram.proofs.Terms.{Above, Bool, IsAnswer, IsBeadOf, IsCanonical, Kind, Lacks, Leads, Least, List, Node, Some, There, [], ap, arith, bead_of, beads_of, bit_or, branch, child, false, gate_from, high_half-append, if◌then◌else◌, inl, inr, is_bead, is_same, is_same_only, length, level_of, low_half-append, map, nat_eq, nat_tests, pow_suc, refl, slice_get, subst, suc, sym, table_from, table_ties, true, zero, ℕ, ◌++◌, ◌+◌, ◌-◌, ◌<◌, ◌^◌, ◌||◌, ◌∙◌, ◌∷◌, ◌≡◌, ◌≢◌, ◌≤◌, ◌⊎◌}
use Rattle.ncl_diagram.proofs.Canonical.{get_within, Reads, Passes, look, next_low, next_high, one_place, same_front, same_back, same_node, length-table_from}
use Rattle.ncl_diagram.proofs.Growth.{branch_before}
use Rattle.ncl_diagram.proofs.BeadTests.{any_left, any_right}
use Rattle.ncl_diagram.proofs.Words.{gate_halves, length-gate_from}

less_or_same : (a b : ℕ) → a ≤ b → (a ≡ b) ⊎ (a < b)
less_or_same zero zero h = inl refl
less_or_same zero (suc b) h = inr (omega arith)
less_or_same (suc a) zero h = absurd (omega arith)
less_or_same (suc a) (suc b) h = more (less_or_same a b (omega arith))
  where
    more : (a ≡ b) ⊎ (a < b) → (suc a ≡ suc b) ⊎ (suc a < suc b)
    more (inl e) = inl (ap suc e)
    more (inr l) = inr (omega arith)

-- a place that reads a later bit is passed
pub passes : (n : ℕ) (nodes : List Node) (level : ℕ) (v : Bool) (p : ℕ) → level < n → level + 1 ≤ level_of n nodes p → branch nodes level v p ≡ p
passes n nodes level v p lt later = by_look v (look n nodes level p lt (omega arith))
  where
    by_look : (v : Bool) → Reads n nodes level p ⊎ Passes n nodes level p → branch nodes level v p ≡ p
    by_look v (inl r) =
        let e : level_of n nodes p ≡ r.node.bit = ap (level_of n nodes) r.at ∙ ap (bit_or n) r.is in
        let b = r.bit in
        absurd (omega arith)
    by_look false (inr q) = q.low
    by_look true (inr q) = q.high

pub next_level : (n : ℕ) (nodes : List Node) (level : ℕ) (v : Bool) (p : ℕ) → IsCanonical n nodes → level < n → level ≤ level_of n nodes p → level + 1 ≤ level_of n nodes (branch nodes level v p)
next_level n nodes level false p c lt le = next_low n nodes level p c (look n nodes level p lt le)
next_level n nodes level true p c lt le = next_high n nodes level p c (look n nodes level p lt le)

pub above_branches : (n : ℕ) (nodes : List Node) (level : ℕ) (v : Bool) (ps : List ℕ) → IsCanonical n nodes → level < n → Above n nodes level ps → Above n nodes (level + 1) (map (branch nodes level v) ps)
above_branches n nodes level v [] c lt h = h
above_branches n nodes level v (p ∷ ps) c lt h = (next_level n nodes level v p c lt h.0, above_branches n nodes level v ps c lt h.1)

pub there_branches : (n : ℕ) (nodes : List Node) (level : ℕ) (v : Bool) (ps : List ℕ) → IsCanonical n nodes → There nodes ps → There nodes (map (branch nodes level v) ps)
there_branches n nodes level v [] c h = h
there_branches n nodes level v (p ∷ ps) c h = (let t = h.0 in let b = branch_before n nodes c level v p t in omega arith, there_branches n nodes level v ps c h.1)

-- the operands after a branch are there
pub there_after : (n : ℕ) (nodes : List Node) (level : ℕ) (v : Bool) (ps qs : List ℕ) → IsCanonical n nodes → qs ≡ map (branch nodes level v) ps → There nodes ps → There nodes qs
there_after n nodes level v ps qs c e there = subst (λ (rs : List ℕ). There nodes rs) (sym e) (there_branches n nodes level v ps c there)

above_less : (n : ℕ) (nodes : List Node) (l level : ℕ) (ps : List ℕ) → l ≤ level → Above n nodes level ps → Above n nodes l ps
above_less n nodes l level [] le h = h
above_less n nodes l level (p ∷ ps) le h = (let a = h.0 in omega arith, above_less n nodes l level ps le h.1)

all_pass : (n : ℕ) (nodes : List Node) (level : ℕ) (v : Bool) (ps : List ℕ) → level < n → Above n nodes (level + 1) ps → map (branch nodes level v) ps ≡ ps
all_pass n nodes level v [] lt h = refl
all_pass n nodes level v (p ∷ ps) lt h =
    let here = passes n nodes level v p lt h.0 in
    let rest = all_pass n nodes level v ps lt h.1 in
    λ i. here i ∷ rest i

-- a level that no operand reads: both halves are one
gate_twice : (n : ℕ) (kind : Kind) (nodes : List Node) (m level : ℕ) (ps : List ℕ) → level < n → Above n nodes (level + 1) ps → gate_from kind nodes (suc m) level ps ≡ gate_from kind nodes m (level + 1) ps ++ gate_from kind nodes m (level + 1) ps
gate_twice n kind nodes m level ps lt h =
    let l = all_pass n nodes level false ps lt h in
    let r = all_pass n nodes level true ps lt h in
    gate_halves kind nodes m level ps ∙ (λ i. gate_from kind nodes m (level + 1) (l i) ++ gate_from kind nodes m (level + 1) (r i))

pub table_twice : (n : ℕ) (nodes : List Node) (m level r : ℕ) → level < n → level + 1 ≤ level_of n nodes r → table_from nodes (suc m) level r ≡ table_from nodes m (level + 1) r ++ table_from nodes m (level + 1) r
table_twice n nodes m level r lt h =
    let l = passes n nodes level false r lt h in
    let q = passes n nodes level true r lt h in
    λ i. table_from nodes m (level + 1) (l i) ++ table_from nodes m (level + 1) (q i)

-- from the least bit up to each level
lift_table : (n : ℕ) (kind : Kind) (nodes : List Node) (level : ℕ) (ps : List ℕ) (r : ℕ) → level < n → Above n nodes level ps → level ≤ level_of n nodes r →
    ((m : ℕ) → level + suc m ≡ n → table_from nodes (suc m) level r ≡ gate_from kind nodes (suc m) level ps) →
    (m l : ℕ) → l + m ≡ n → l ≤ level → table_from nodes m l r ≡ gate_from kind nodes m l ps
lift_table n kind nodes level ps r lt above later exact zero l e le = absurd (omega arith)
lift_table n kind nodes level ps r lt above later exact (suc m) l e le = pick (λ less. lift_table n kind nodes level ps r lt above later exact m (l + 1) (omega arith) (omega arith)) (less_or_same l level le)
  where
    pick : (l < level → table_from nodes m (l + 1) r ≡ gate_from kind nodes m (l + 1) ps) → (l ≡ level) ⊎ (l < level) → table_from nodes (suc m) l r ≡ gate_from kind nodes (suc m) l ps
    pick rec (inl same) = subst (λ (j : ℕ). table_from nodes (suc m) j r ≡ gate_from kind nodes (suc m) j ps) (sym same) (exact m (omega arith))
    pick rec (inr less) =
        let t = rec less in
        table_twice n nodes m l r (omega arith) (omega arith) ∙ (λ i. t i ++ t i) ∙ sym (gate_twice n kind nodes m l ps (omega arith) (above_less n nodes (l + 1) level ps (omega arith) above))

-- the answer at a place that leads to the answers at the branches
pub step_answer : (n : ℕ) (kind : Kind) (nodes : List Node) (level : ℕ) (ps : List ℕ) (r low high : ℕ) → IsCanonical n nodes → Least n nodes level ps → Leads n nodes level r low high →
    IsAnswer n kind nodes (map (branch nodes level false) ps) low → IsAnswer n kind nodes (map (branch nodes level true) ps) high → IsAnswer n kind nodes ps r
step_answer n kind nodes level ps r low high c least leads x y = record {
  there = leads.there;
  later = λ l le above. let a = least.least l above in let b = leads.later in omega arith;
  table = λ m l e above. lift_table n kind nodes level ps r least.bit least.above leads.later exact m l e (least.least l above);
}
  where
    exact : (m : ℕ) → level + suc m ≡ n → table_from nodes (suc m) level r ≡ gate_from kind nodes (suc m) level ps
    exact m e =
        let l = ap (table_from nodes m (level + 1)) leads.low ∙ x.table m (level + 1) (omega arith) (above_branches n nodes level false ps c least.bit least.above) in
        let h = ap (table_from nodes m (level + 1)) leads.high ∙ y.table m (level + 1) (omega arith) (above_branches n nodes level true ps c least.bit least.above) in
        (λ i. l i ++ h i) ∙ sym (gate_halves kind nodes m level ps)

-- beads of halves
abbrev pub own_bead : List Bool → List Bool → List (List Bool)
own_bead l h = if is_same l h then [] else (l ++ h) ∷ []

pub beads_step : (m : ℕ) (l h : List Bool) → length l ≡ 2 ^ m → beads_of (suc m) (l ++ h) ≡ own_bead l h ++ beads_of m l ++ beads_of m h
beads_step m l h e =
    let a = low_half-append m l h e in
    let b = high_half-append m l h e in
    λ i. (if is_same (a i) (b i) then [] else (l ++ h) ∷ []) ++ beads_of m (a i) ++ beads_of m (b i)

pub bead_low : (m : ℕ) (l h t : List Bool) → length l ≡ 2 ^ m → is_bead (beads_of m l) t ≡ true → is_bead (beads_of (suc m) (l ++ h)) t ≡ true
bead_low m l h t e b = ap (λ (bs : List (List Bool)). is_bead bs t) (beads_step m l h e) ∙ any_left t (own_bead l h ++ beads_of m l) (beads_of m h) (any_right t (own_bead l h) (beads_of m l) b)

pub bead_high : (m : ℕ) (l h t : List Bool) → length l ≡ 2 ^ m → is_bead (beads_of m h) t ≡ true → is_bead (beads_of (suc m) (l ++ h)) t ≡ true
bead_high m l h t e b = ap (λ (bs : List (List Bool)). is_bead bs t) (beads_step m l h e) ∙ any_right t (own_bead l h ++ beads_of m l) (beads_of m h) b

pub bead_self : (m : ℕ) (l h : List Bool) → length l ≡ 2 ^ m → l ≢ h → is_bead (beads_of (suc m) (l ++ h)) (l ++ h) ≡ true
bead_self m l h e apart = ap (λ (bs : List (List Bool)). is_bead bs (l ++ h)) (beads_step m l h e) ∙ own (is_same l h) refl
  where
    own : (b : Bool) → is_same l h ≡ b → is_bead (own_bead l h ++ beads_of m l ++ beads_of m h) (l ++ h) ≡ true
    own true s = absurd (apart (is_same_only l h s))
    own false s =
        any_left (l ++ h) (own_bead l h ++ beads_of m l) (beads_of m h) (any_left (l ++ h) (own_bead l h) (beads_of m l)
        (ap (λ (b : Bool). is_bead (if b then [] else (l ++ h) ∷ []) (l ++ h)) s ∙ ap (λ (b : Bool). b || false) (table_ties (l ++ h))))

lift_bead : (n : ℕ) (kind : Kind) (nodes : List Node) (level : ℕ) (ps : List ℕ) (t : List Bool) → level < n → Above n nodes level ps →
    ((m : ℕ) → level + suc m ≡ n → is_bead (beads_of (suc m) (gate_from kind nodes (suc m) level ps)) t ≡ true) →
    (m l : ℕ) → l + m ≡ n → l ≤ level → is_bead (beads_of m (gate_from kind nodes m l ps)) t ≡ true
lift_bead n kind nodes level ps t lt above exact zero l e le = absurd (omega arith)
lift_bead n kind nodes level ps t lt above exact (suc m) l e le = pick (λ less. lift_bead n kind nodes level ps t lt above exact m (l + 1) (omega arith) (omega arith)) (less_or_same l level le)
  where
    pick : (l < level → is_bead (beads_of m (gate_from kind nodes m (l + 1) ps)) t ≡ true) → (l ≡ level) ⊎ (l < level) → is_bead (beads_of (suc m) (gate_from kind nodes (suc m) l ps)) t ≡ true
    pick rec (inl same) = subst (λ (j : ℕ). is_bead (beads_of (suc m) (gate_from kind nodes (suc m) j ps)) t ≡ true) (sym same) (exact m (omega arith))
    pick rec (inr less) =
        let b = rec less in
        ap (λ (u : List Bool). is_bead (beads_of (suc m) u) t) (gate_twice n kind nodes m l ps (omega arith) (above_less n nodes (l + 1) level ps (omega arith) above))
        ∙ bead_low m (gate_from kind nodes m (l + 1) ps) (gate_from kind nodes m (l + 1) ps) t (length-gate_from kind nodes m (l + 1) ps) b

-- a bead of the table of branches is one of the whole
pub bead_up : (n : ℕ) (kind : Kind) (nodes : List Node) (level : ℕ) (v : Bool) (ps : List ℕ) (t : List Bool) → IsCanonical n nodes → Least n nodes level ps → IsBeadOf n kind nodes (map (branch nodes level v) ps) t → IsBeadOf n kind nodes ps t
bead_up n kind nodes level v ps t c least b m l e above = lift_bead n kind nodes level ps t least.bit least.above (exact v b) m l e (least.least l above)
  where
    exact : (v : Bool) → IsBeadOf n kind nodes (map (branch nodes level v) ps) t → (m : ℕ) → level + suc m ≡ n → is_bead (beads_of (suc m) (gate_from kind nodes (suc m) level ps)) t ≡ true
    exact false b m e =
        ap (λ (u : List Bool). is_bead (beads_of (suc m) u) t) (gate_halves kind nodes m level ps)
        ∙ bead_low m _ _ t (length-gate_from kind nodes m (level + 1) (map (branch nodes level false) ps)) (b m (level + 1) (omega arith) (above_branches n nodes level false ps c least.bit least.above))
    exact true b m e =
        ap (λ (u : List Bool). is_bead (beads_of (suc m) u) t) (gate_halves kind nodes m level ps)
        ∙ bead_high m _ _ t (length-gate_from kind nodes m (level + 1) (map (branch nodes level false) ps)) (b m (level + 1) (omega arith) (above_branches n nodes level true ps c least.bit least.above))

-- where the branches' answers differ, the table from the least bit on is a bead of its own
pub bead_here : (n : ℕ) (kind : Kind) (nodes : List Node) (level : ℕ) (ps : List ℕ) (low high : ℕ) → IsCanonical n nodes → Least n nodes level ps →
    IsAnswer n kind nodes (map (branch nodes level false) ps) low → IsAnswer n kind nodes (map (branch nodes level true) ps) high → low ≢ high → IsBeadOf n kind nodes ps (gate_from kind nodes (n - level) level ps)
bead_here n kind nodes level ps low high c least x y apart m l e above = lift_bead n kind nodes level ps (gate_from kind nodes (n - level) level ps) least.bit least.above exact m l e (least.least l above)
  where
    exact : (m : ℕ) → level + suc m ≡ n → is_bead (beads_of (suc m) (gate_from kind nodes (suc m) level ps)) (gate_from kind nodes (n - level) level ps) ≡ true
    exact m e =
        let rest : n - level ≡ suc m = omega arith in
        let fl = above_branches n nodes level false ps c least.bit least.above in
        let fh = above_branches n nodes level true ps c least.bit least.above in
        let is : gate_from kind nodes (n - level) level ps ≡ gate_from kind nodes m (level + 1) (map (branch nodes level false) ps) ++ gate_from kind nodes m (level + 1) (map (branch nodes level true) ps) = ap (λ (k : ℕ). gate_from kind nodes k level ps) rest ∙ gate_halves kind nodes m level ps in
        let differ : gate_from kind nodes m (level + 1) (map (branch nodes level false) ps) ≢ gate_from kind nodes m (level + 1) (map (branch nodes level true) ps) = λ same.
        apart (one_place n nodes c m (level + 1) low high (omega arith) (x.later (level + 1) (omega arith) fl) (y.later (level + 1) (omega arith) fh) x.there y.there
        (x.table m (level + 1) (omega arith) fl ∙ same ∙ sym (y.table m (level + 1) (omega arith) fh))) in
        (λ i. is_bead (beads_of (suc m) (gate_halves kind nodes m level ps i)) (is i))
        ∙ bead_self m _ _ (length-gate_from kind nodes m (level + 1) (map (branch nodes level false) ps)) differ

-- that bead is no node's where the node is absent
pub pow_one : (a b : ℕ) → 2 ^ a ≡ 2 ^ b → a ≡ b
pow_one zero zero e = refl
pow_one zero (suc b) e = let p = pow_suc b in let o : 2 ^ 0 ≡ 1 = refl in absurd (omega arith)
pow_one (suc a) zero e = let p = pow_suc a in let o : 2 ^ 0 ≡ 1 = refl in absurd (omega arith)
pow_one (suc a) (suc b) e = let p = pow_suc a in let q = pow_suc b in ap suc (pow_one a b (omega arith))

pub node_low : (nodes : List Node) (k : ℕ) (x : Node) (level : ℕ) → slice_get nodes k ≡ Some x → x.bit ≡ level → branch nodes level false (suc (suc k)) ≡ x.low.place
node_low nodes k x level e b = let t : nat_eq x.bit level ≡ true = grind (arith, nat_tests) in ap (child level false (suc (suc k))) e ∙ ap (λ c. if c then x.low.place else suc (suc k)) t

pub node_high : (nodes : List Node) (k : ℕ) (x : Node) (level : ℕ) → slice_get nodes k ≡ Some x → x.bit ≡ level → branch nodes level true (suc (suc k)) ≡ x.high.place
node_high nodes k x level e b = let t : nat_eq x.bit level ≡ true = grind (arith, nat_tests) in ap (child level true (suc (suc k))) e ∙ ap (λ c. if c then x.high.place else suc (suc k)) t

pub lacks_here : (n : ℕ) (kind : Kind) (nodes : List Node) (level : ℕ) (ps : List ℕ) (x : Node) → IsCanonical n nodes → Least n nodes level ps → x.bit ≡ level →
    IsAnswer n kind nodes (map (branch nodes level false) ps) x.low.place → IsAnswer n kind nodes (map (branch nodes level true) ps) x.high.place → x.low.place ≢ x.high.place →
    ((k : ℕ) → slice_get nodes k ≢ Some x) → Lacks n kind nodes ps
lacks_here n kind nodes level ps x c least b l h apart absent =
    (gate_from kind nodes (n - level) level ps, bead_here n kind nodes level ps x.low.place x.high.place c least l h apart, λ k y got same. absent k (got ∙ ap (λ (z : Node). Some z) (is k y got same)))
  where
    is : (k : ℕ) (y : Node) → slice_get nodes k ≡ Some y → bead_of n nodes k y ≡ gate_from kind nodes (n - level) level ps → y ≡ x
    is k y got same =
        let long : 2 ^ (n - y.bit) ≡ 2 ^ (n - level) = sym (length-table_from nodes (n - y.bit) y.bit (suc (suc k))) ∙ ap length same ∙ length-gate_from kind nodes (n - level) level ps in
        let rests = pow_one (n - y.bit) (n - level) long in
        let lt = least.bit in
        let few = c.bits k y got in
        let bit : y.bit ≡ level = omega arith in
        let m : ℕ = n - suc level in
        let rest : n - level ≡ suc m = omega arith in
        let rest_y : n - y.bit ≡ suc m = omega arith in
        let fl = above_branches n nodes level false ps c least.bit least.above in
        let fh = above_branches n nodes level true ps c least.bit least.above in
        let halves : table_from nodes m (level + 1) (branch nodes level false (suc (suc k))) ++ table_from nodes m (level + 1) (branch nodes level true (suc (suc k))) ≡ gate_from kind nodes m (level + 1) (map (branch nodes level false) ps) ++ gate_from kind nodes m (level + 1) (map (branch nodes level true) ps) =
        (λ i. table_from nodes (sym rest_y i) (sym bit i) (suc (suc k))) ∙ same ∙ ap (λ (j : ℕ). gate_from kind nodes j level ps) rest ∙ gate_halves kind nodes m level ps in
        let longs = length-table_from nodes m (level + 1) (branch nodes level false (suc (suc k))) ∙ sym (length-gate_from kind nodes m (level + 1) (map (branch nodes level false) ps)) in
        let tl : table_from nodes m (level + 1) y.low.place ≡ table_from nodes m (level + 1) x.low.place =
        ap (table_from nodes m (level + 1)) (sym (node_low nodes k y level got bit)) ∙ same_front _ _ _ _ longs halves ∙ sym (l.table m (level + 1) (omega arith) fl) in
        let th : table_from nodes m (level + 1) y.high.place ≡ table_from nodes m (level + 1) x.high.place =
        ap (table_from nodes m (level + 1)) (sym (node_high nodes k y level got bit)) ∙ same_back _ _ _ _ longs halves ∙ sym (h.table m (level + 1) (omega arith) fh) in
        let before = c.before k y got in
        let bl = before.0 in
        let bh = before.1 in
        let within = get_within nodes k y got in
        let yl = c.low k y got in
        let yh = c.high k y got in
        let low : y.low.place ≡ x.low.place = one_place n nodes c m (level + 1) y.low.place x.low.place (omega arith) (omega arith) (l.later (level + 1) (omega arith) fl) (omega arith) l.there tl in
        let high : y.high.place ≡ x.high.place = one_place n nodes c m (level + 1) y.high.place x.high.place (omega arith) (omega arith) (h.later (level + 1) (omega arith) fh) (omega arith) h.there th in
        same_node y x (bit ∙ sym b) low high
