-- What more nodes keep.
use Rattle.ncl_diagram.proofs.Terms.{Above, AddsBeads, Bool, Grown, IsAnswer, IsBeadOf, IsCanonical, Kind, List, Node, Option, Some, There, [], ap, arith, bead_of, beads_of, bit_or, branch, child, false, gate_from, gate_table, if◌then◌else◌, is_bead, length, level_of, map, nat_eq, refl, slice_get, subst, suc, sym, table_from, true, zero, ℕ, ◌++◌, ◌+◌, ◌-◌, ◌<◌, ◌∙◌, ◌∷◌, ◌≡◌, ◌≤◌}

pub grown_itself : (a : List Node) → Grown a a
grown_itself a = record { longer = omega arith; kept = λ k x e. e }

pub grown_along : (a b d : List Node) → Grown a b → Grown b d → Grown a d
grown_along a b d g h = record { longer = let p = g.longer in let q = h.longer in omega arith; kept = λ k x e. h.kept k x (g.kept k x e) }

-- a node that is there is got
pub get_there : (a : List Node) (k : ℕ) → k < length a → (x : Node) × (slice_get a k ≡ Some x)
get_there [] k lt = absurd (omega arith)
get_there (x ∷ a) zero lt = (x, refl)
get_there (x ∷ a) (suc k) lt = get_there a k (omega arith)

same_get : (a b : List Node) → Grown a b → (k : ℕ) → k < length a → slice_get b k ≡ slice_get a k
same_get a b g k lt = let p = get_there a k lt in g.kept k p.0 p.1 ∙ sym p.1

pub level_grown : (n : ℕ) (a b : List Node) → Grown a b → (p : ℕ) → p < length a + 2 → level_of n b p ≡ level_of n a p
level_grown n a b g zero lt = refl
level_grown n a b g (suc zero) lt = refl
level_grown n a b g (suc (suc k)) lt = ap (bit_or n) (same_get a b g k (omega arith))

pub branch_grown : (a b : List Node) → Grown a b → (level : ℕ) (v : Bool) (p : ℕ) → p < length a + 2 → branch b level v p ≡ branch a level v p
branch_grown a b g level v zero lt = refl
branch_grown a b g level v (suc zero) lt = refl
branch_grown a b g level v (suc (suc k)) lt = ap (child level v (suc (suc k))) (same_get a b g k (omega arith))

child_before : (level : ℕ) (v : Bool) (k : ℕ) (x : Node) → (x.low.place < k + 2) × (x.high.place < k + 2) → child level v (suc (suc k)) (Some x) ≤ suc (suc k)
child_before level false k x h = pick (nat_eq x.bit level)
  where
    pick : (b : Bool) → (if b then x.low.place else suc (suc k)) ≤ suc (suc k)
    pick true = let l = h.0 in omega arith
    pick false = omega arith
child_before level true k x h = pick (nat_eq x.bit level)
  where
    pick : (b : Bool) → (if b then x.high.place else suc (suc k)) ≤ suc (suc k)
    pick true = let l = h.1 in omega arith
    pick false = omega arith

-- a branch goes to no later place
pub branch_before : (n : ℕ) (a : List Node) → IsCanonical n a → (level : ℕ) (v : Bool) (p : ℕ) → p < length a + 2 → branch a level v p ≤ p
branch_before n a c level v zero lt = omega arith
branch_before n a c level v (suc zero) lt = omega arith
branch_before n a c level v (suc (suc k)) lt =
    let p = get_there a k (omega arith) in
    subst (λ (o : Option Node). child level v (suc (suc k)) o ≤ suc (suc k)) (sym p.1) (child_before level v k p.0 (c.before k p.0 p.1))

pub table_grown : (n : ℕ) (a b : List Node) → IsCanonical n a → Grown a b → (m level p : ℕ) → p < length a + 2 → table_from b m level p ≡ table_from a m level p
table_grown n a b c g zero level p lt = refl
table_grown n a b c g (suc m) level p lt =
    let low = branch_before n a c level false p lt in
    let high = branch_before n a c level true p lt in
    let l = ap (table_from b m (level + 1)) (branch_grown a b g level false p lt) ∙ table_grown n a b c g m (level + 1) (branch a level false p) (omega arith) in
    let h = ap (table_from b m (level + 1)) (branch_grown a b g level true p lt) ∙ table_grown n a b c g m (level + 1) (branch a level true p) (omega arith) in
    λ i. l i ++ h i

pub there_grown : (a b : List Node) → Grown a b → (ps : List ℕ) → There a ps → There b ps
there_grown a b g [] t = t
there_grown a b g (p ∷ ps) t = (let h = t.0 in let l = g.longer in omega arith, there_grown a b g ps t.1)

pub above_grown : (n : ℕ) (a b : List Node) → Grown a b → (level : ℕ) (ps : List ℕ) → There a ps → Above n a level ps → Above n b level ps
above_grown n a b g level [] t h = h
above_grown n a b g level (p ∷ ps) t h = (let e = level_grown n a b g p t.0 in let l = h.0 in omega arith, above_grown n a b g level ps t.1 h.1)

pub above_back : (n : ℕ) (a b : List Node) → Grown a b → (level : ℕ) (ps : List ℕ) → There a ps → Above n b level ps → Above n a level ps
above_back n a b g level [] t h = h
above_back n a b g level (p ∷ ps) t h = (let e = level_grown n a b g p t.0 in let l = h.0 in omega arith, above_back n a b g level ps t.1 h.1)

pub tables_grown : (n : ℕ) (a b : List Node) → IsCanonical n a → Grown a b → (m level : ℕ) (ps : List ℕ) → There a ps → map (table_from b m level) ps ≡ map (table_from a m level) ps
tables_grown n a b c g m level [] t = refl
tables_grown n a b c g m level (p ∷ ps) t =
    let here = table_grown n a b c g m level p t.0 in
    let rest = tables_grown n a b c g m level ps t.1 in
    λ i. here i ∷ rest i

pub gate_grown : (n : ℕ) (kind : Kind) (a b : List Node) → IsCanonical n a → Grown a b → (m level : ℕ) (ps : List ℕ) → There a ps → gate_from kind b m level ps ≡ gate_from kind a m level ps
gate_grown n kind a b c g m level ps t = ap (gate_table m kind) (tables_grown n a b c g m level ps t)

-- an answer stays one
pub answer_grown : (n : ℕ) (kind : Kind) (a b : List Node) (ps : List ℕ) (r : ℕ) → IsCanonical n a → Grown a b → There a ps → IsAnswer n kind a ps r → IsAnswer n kind b ps r
answer_grown n kind a b ps r c g t x = record {
  there = let h = x.there in let l = g.longer in omega arith;
  later = λ level le above. let e = level_grown n a b g r x.there in let h = x.later level le (above_back n a b g level ps t above) in omega arith;
  table = λ m level e above. table_grown n a b c g m level r x.there ∙ x.table m level e (above_back n a b g level ps t above) ∙ sym (gate_grown n kind a b c g m level ps t);
}

-- the bead of a node stays
pub bead_grown : (n : ℕ) (a b : List Node) → IsCanonical n a → Grown a b → (k : ℕ) (x : Node) → k < length a → bead_of n b k x ≡ bead_of n a k x
bead_grown n a b c g k x lt = table_grown n a b c g (n - x.bit) x.bit (suc (suc k)) (omega arith)

pub is_bead_grown : (n : ℕ) (kind : Kind) (a b : List Node) (ps : List ℕ) (t : List Bool) → IsCanonical n a → Grown a b → There a ps → IsBeadOf n kind a ps t → IsBeadOf n kind b ps t
is_bead_grown n kind a b ps t c g th h m level e above =
    ap (λ (u : List Bool). is_bead (beads_of m u) t) (gate_grown n kind a b c g m level ps th) ∙ h m level e (above_back n a b g level ps th above)

-- what a call added stays a bead of its table
pub adds_grown : (n : ℕ) (kind : Kind) (from to : ℕ) (a b : List Node) (ps : List ℕ) → to ≤ length a → IsCanonical n a → Grown a b → There a ps → AddsBeads n kind from to a ps → AddsBeads n kind from to b ps
adds_grown n kind from to a b ps le c g th h k x lo hi e =
    let p = get_there a k (omega arith) in
    let was : slice_get a k ≡ Some x = sym (same_get a b g k (omega arith)) ∙ e in
    subst (λ (u : List Bool). IsBeadOf n kind b ps u) (sym (bead_grown n a b c g k x (omega arith))) (is_bead_grown n kind a b ps (bead_of n a k x) c g th (h k x lo hi was))
