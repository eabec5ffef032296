-- Whether a place lies on a cycle can be decided, so a graph has a first place on a cycle or none.
use Rattle.ncl_graph.proofs.Terms.{Contains, IsOnCycle, Leads, List, arc, arith, cases_contains, cases_eq, further, inl, inr, length, subst, suc, successors, sym, zero, ℕ, ◌<◌, ◌⊎◌}
use Rattle.ncl_graph.proofs.Ranking.{leads_within}

-- a place leads to another by way of places below a number alone (Warshall 1962)
data LeadsVia (g : List (List ℕ)) (n : ℕ) : ℕ → ℕ → Type 0 where
  direct : {i j : ℕ} → Contains (successors g i) j → LeadsVia g n i j
  by_way_of : {i j : ℕ} (k : ℕ) → k < n → Contains (successors g i) k → LeadsVia g n k j → LeadsVia g n i j

-- what may go by way of more places
via_more : (g : List (List ℕ)) (n : ℕ) {i j : ℕ} → LeadsVia g n i j → LeadsVia g (suc n) i j
via_more g n (direct c) = direct c
via_more g n (by_way_of k lt c path) = by_way_of k (omega arith) c (via_more g n path)

-- two paths, one after the other, by way of the place between them
via_both : (g : List (List ℕ)) (n k : ℕ) → k < n → {i j : ℕ} → LeadsVia g n i k → LeadsVia g n k j → LeadsVia g n i j
via_both g n k lt (direct c) second = by_way_of k lt c second
via_both g n k lt (by_way_of m below c path) second = by_way_of m below c (via_both g n k lt path second)

-- a path that may go by way of one place more doesn't, or falls into one to that place and one from it
via_split : (g : List (List ℕ)) (n : ℕ) (i j : ℕ) → LeadsVia g (suc n) i j → LeadsVia g n i j ⊎ (LeadsVia g n i n × LeadsVia g n n j)
via_split g n i j (direct c) = inl (direct c)
via_split g n i j (by_way_of k lt c path) =
    elim (cases_eq k n) [
      | inl same ↦
          let here : Contains (successors g i) n = subst (λ m. Contains (successors g i) m) same c in
          let rest : LeadsVia g (suc n) n j = subst (λ m. LeadsVia g (suc n) m j) same path in
          elim (via_split g n k j path) [
            | inl around ↦ inr (direct here, subst (λ m. LeadsVia g n m j) same around)
            | inr (to, from) ↦ inr (direct here, from)
          ]
      | inr differ ↦
          let below : k < n = omega arith in
          elim (via_split g n k j path) [
            | inl around ↦ inl (by_way_of k below c around)
            | inr (to, from) ↦ inr (by_way_of k below c to, from)
          ]
    ]

-- a place leads to another so, or not
cases_via : (g : List (List ℕ)) (n i j : ℕ) → LeadsVia g n i j ⊎ (LeadsVia g n i j → ⊥)
cases_via g zero i j =
    elim (cases_contains (successors g i) j) [
      | inl there ↦ inl (direct there)
      | inr not_there ↦ inr (λ path. none i j not_there path)
    ]
  where
    none : (i j : ℕ) → (Contains (successors g i) j → ⊥) → LeadsVia g zero i j → ⊥
    none i j not_there (direct c) = not_there c
    none i j not_there (by_way_of k lt c path) = omega arith
cases_via g (suc n) i j =
    elim (cases_via g n i j) [
      | inl around ↦ inl (via_more g n around)
      | inr not_around ↦ elim (cases_via g n i n) [
        | inr not_to ↦ inr (λ path. elim (via_split g n i j path) [ inl around ↦ not_around around | inr (to, from) ↦ not_to to ])
        | inl to ↦ elim (cases_via g n n j) [
          | inr not_from ↦ inr (λ path. elim (via_split g n i j path) [ inl around ↦ not_around around | inr (at, from) ↦ not_from from ])
          | inl from ↦ inl (via_both g (suc n) n (omega arith) (via_more g n to) (via_more g n from))
        ]
      ]
    ]

-- every path goes by way of places
via_from : (g : List (List ℕ)) (i j : ℕ) → Leads g i j → LeadsVia g (length g) i j
via_from g i j (arc c) = direct c
via_from g i j (further {j = k} c path) =
    by_way_of k (leads_within g k j path) c (via_from g k j path)

via_leads : (g : List (List ℕ)) (n i j : ℕ) → LeadsVia g n i j → Leads g i j
via_leads g n i j (direct c) = arc c
via_leads g n i j (by_way_of k lt c path) = further c (via_leads g n k j path)

-- a place lies on a cycle, or it doesn't
cases_on_cycle : (g : List (List ℕ)) (i : ℕ) → IsOnCycle g i ⊎ ¬ IsOnCycle g i
cases_on_cycle g i =
    elim (cases_via g (length g) i i) [
      | inl path ↦ inl (via_leads g (length g) i i path)
      | inr none ↦ inr (λ on. none (via_from g i i on))
    ]

-- none of the first places lies on a cycle, or there is a first one that does
first_below : (g : List (List ℕ)) (n : ℕ) → ((i : ℕ) → i < n → ¬ IsOnCycle g i) ⊎ ((i : ℕ) × IsOnCycle g i × ((j : ℕ) → j < i → ¬ IsOnCycle g j))
first_below g zero = inl (λ i lt. absurd (omega arith))
first_below g (suc n) =
    elim (first_below g n) [
      | inr found ↦ inr found
      | inl none ↦ elim (cases_on_cycle g n) [
        | inl on ↦ inr (n, on, none)
        | inr off ↦ inl (λ i lt. elim (cases_eq i n) [ inl same ↦ subst (λ k. ¬ IsOnCycle g k) (sym same) off | inr differ ↦ none i (omega arith) ])
      ]
    ]

-- no place lies on a cycle, or there is a first one that does
pub first_or_none : (g : List (List ℕ)) → ((i : ℕ) → ¬ IsOnCycle g i) ⊎ ((i : ℕ) × IsOnCycle g i × ((j : ℕ) → j < i → ¬ IsOnCycle g j))
first_or_none g =
    elim (first_below g (length g)) [
      | inr found ↦ inr found
      | inl none ↦ inl (λ i on. none i (leads_within g i i on) on)
    ]
