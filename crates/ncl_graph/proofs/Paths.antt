-- Paths, and orders that grow at the end.
use Rattle.ncl_graph.proofs.Terms.{All-contains, Contains, IsGraph, Leads, List, StandsAfter, [], arc, arith, cases_lt, further, get_or_past, inl, inr, length, split_push, subst, successors, sym, ℕ, ◌++◌, ◌<◌, ◌∷◌}

-- every successor is a place
pub successor_inside : (g : List (List ℕ)) → IsGraph g → (i j : ℕ) → Contains (successors g i) j → j < length g
successor_inside g graph i j c =
    elim (cases_lt i (length g)) [
      | inl inside ↦ All-contains (λ j. j < length g) (successors g i) j (graph.closed i [] inside) c
      | inr past ↦
          let none : Contains [] j = subst (λ l. Contains l j) (get_or_past g i [] past) c in
          absurd (omega (arith, none.1))
    ]

-- a path and one arc more
pub Leads-push : (g : List (List ℕ)) {i j : ℕ} → (k : ℕ) → Leads g i j → Contains (successors g j) k → Leads g i k
Leads-push g k (arc c) d = further c (arc d)
Leads-push g k (further c path) d = further c (Leads-push g k path d)

-- one place more stands after those that it leads to where they stand before it
pub StandsAfter-push : (g : List (List ℕ)) (order : List ℕ) (i : ℕ) → StandsAfter g order → ((j : ℕ) → Contains (successors g i) j → Contains order j) → StandsAfter g (order ++ i ∷ [])
StandsAfter-push g order i after all before x rest e j c =
    elim (split_push order i before x rest e) [
      | inl (front, last) ↦ subst (λ b. Contains b j) (sym front) (all j (subst (λ z. Contains (successors g z) j) last c))
      | inr (left, inside) ↦ after before x left inside j c
    ]
