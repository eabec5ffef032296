-- Ranks and cycles.
use Rattle.ncl_graph.proofs.Terms.{All, All-contains, Contains, IsOnCycle, Leads, List, NeverRises, [], arc, arith, cases_lt, further, get_or_past, inl, inr, length, rank_of, subst, successors, ℕ, ◌<◌, ◌≤◌}

-- what is no place has no successor
no_successor : (g : List (List ℕ)) (i j : ℕ) → length g ≤ i → Contains (successors g i) j → ⊥
no_successor g i j past c =
    let none : Contains [] j = subst (λ l. Contains l j) (get_or_past g i [] past) c in
    omega (arith, none.1)

-- only a place leads anywhere
pub only_places_lead : (g : List (List ℕ)) (i j : ℕ) → length g ≤ i → Leads g i j → ⊥
only_places_lead g i j past (arc c) = no_successor g i j past c
only_places_lead g i j past (further {j = k} c path) = no_successor g i k past c

pub leads_within : (g : List (List ℕ)) (i j : ℕ) → Leads g i j → i < length g
leads_within g i j path = elim (cases_lt i (length g)) [ inl inside ↦ inside | inr past ↦ absurd (only_places_lead g i j past path) ]

-- along a path the rank does not rise
rank_falls : (g : List (List ℕ)) (ranks : List ℕ) → NeverRises g ranks → (i j : ℕ) → Leads g i j → rank_of ranks j ≤ rank_of ranks i
rank_falls g ranks falls i j (arc c) = falls i j c
rank_falls g ranks falls i j (further {j = k} c path) = omega (arith, falls i k c, rank_falls g ranks falls k j path)

-- a place all of whose successors have lower ranks lies on no cycle
pub lower_successors : (g : List (List ℕ)) (ranks : List ℕ) → NeverRises g ranks → (i : ℕ) → All (λ j. rank_of ranks j < rank_of ranks i) (successors g i) → ¬ IsOnCycle g i
lower_successors g ranks falls i lower (arc c) = omega (arith, All-contains (λ j. rank_of ranks j < rank_of ranks i) (successors g i) i lower c)
lower_successors g ranks falls i lower (further {j = k} c path) = omega (arith, All-contains (λ j. rank_of ranks j < rank_of ranks i) (successors g i) k lower c, rank_falls g ranks falls k i path)
