-- Orders exist exactly where no place lies on a cycle.
use Rattle.ncl_graph.proofs.Terms.{All, All-cons, All-contains, All-nil, Contains, Contains-append_left, Done, IsGraph, IsOnCycle, IsOrder, IsSearch, Leads, List, Mark, New, Open, StandsAfter, StaysMet, [], ap, append_assoc, arc, arith, cases_eq, cases_lt, cut_at, drop, further, get_or, get_or-replicate, get_or_append_left, get_or_at, get_or_past, inl, inr, last_of, length, length-append, length-replicate, length_push, mark_at, new_count, refl, replicate, set, split_at, subst, suc, successors, sym, take, zero, ℕ, ◌*◌, ◌++◌, ◌+◌, ◌<◌, ◌∙◌, ◌∷◌, ◌≡◌, ◌≢◌, ◌≤◌, ◌⊎◌}
use Rattle.ncl_graph.proofs.Paths.{successor_inside}
use Rattle.ncl_graph.proofs.Ranking.{leads_within}
use Rattle.ncl_graph.proofs.Searching.{opens, closes, closes_cycle, path_leads, last_inside, fewer_new, no_more_new, new_from, now_met, StaysMet-set, finishes}

-- where each place of a list stands after those that it leads to, all that a place of it leads to stands before it
leads_before : (g : List (List ℕ)) (order : List ℕ) → StandsAfter g order → (i j : ℕ) → Leads g i j → (before rest : List ℕ) → order ≡ before ++ i ∷ rest → Contains before j
leads_before g order after i j (arc c) before rest e = after before i rest e j c
leads_before g order after i j (further {j = k} c path) before rest e =
    let (front, between, at) = split_at before k (after before i rest e k c) in
    let whole : order ≡ front ++ k ∷ (between ++ i ∷ rest) = e ∙ ap (λ l. l ++ i ∷ rest) at ∙ append_assoc front (k ∷ between) (i ∷ rest) in
    subst (λ l. Contains l j) (sym at) (Contains-append_left front (k ∷ between) j (leads_before g order after k j path front (between ++ i ∷ rest) whole))

-- all that the place at an index of an order leads to by an arc stands below that index
pub stands_below : (g : List (List ℕ)) (order : List ℕ) → IsOrder g order → (k : ℕ) → k < length order → (j : ℕ) → Contains (successors g (get_or order k 0)) j → Contains (take k order) j
stands_below g order o k lt j c = o.after (take k order) (get_or order k 0) (drop (k + 1) order) (cut_at order k 0 lt) j c

-- where places have an order, none lies on a cycle
pub order_excludes_cycles : (g : List (List ℕ)) (order : List ℕ) → IsOrder g order → (i : ℕ) → ¬ IsOnCycle g i
order_excludes_cycles g order o i on =
    let (before, rest, at) = split_at order i (o.every i (leads_within g i i on)) in
    let (k, lt, here) = leads_before g order o.after i i on before rest at in
    let far : length before < length order = omega (arith, ap length at, length-append before (i ∷ rest)) in
    let first : get_or order k i ≡ i = ap (λ l. get_or l k i) at ∙ get_or_append_left before (i ∷ rest) i k lt ∙ here in
    let second : get_or order (length before) i ≡ i = ap (λ l. get_or l (length before) i) at ∙ get_or_at before i rest i (length before) refl in
    o.once k (length before) i lt far (first ∙ sym second)

-- the mark of a place that is done, or not
cases_done : (m : Mark) → (m ≡ Done) ⊎ (m ≢ Done)
cases_done New = inr (λ e. cc)
cases_done Open = inr (λ e. cc)
cases_done Done = inl refl

cases_open : (m : Mark) → (m ≡ Open) ⊎ (m ≢ Open)
cases_open New = inr (λ e. cc)
cases_open Open = inl refl
cases_open Done = inr (λ e. cc)

cases_new : (m : Mark) → (m ≡ New) ⊎ (m ≢ New)
cases_new New = inl refl
cases_new Open = inr (λ e. cc)
cases_new Done = inr (λ e. cc)

-- all places of a list are done, or one is not
cases_all_done : (marks : List Mark) (list : List ℕ) → All (λ i. mark_at marks i ≡ Done) list ⊎ ((i : ℕ) × Contains list i × (mark_at marks i ≢ Done))
cases_all_done marks [] = inl (All-nil (λ i. mark_at marks i ≡ Done))
cases_all_done marks (x ∷ xs) =
    elim (cases_done (mark_at marks x)) [
      | inr undone ↦ inr (x, (0, omega arith, refl), undone)
      | inl done ↦ elim (cases_all_done marks xs) [
        | inl all ↦ inl (All-cons (λ i. mark_at marks i ≡ Done) x xs done all)
        | inr (i, (k, lt, at), undone) ↦ inr (i, (suc k, omega (arith, lt), at), undone)
      ]
    ]

-- a search begins with no place met
pub begins : (g : List (List ℕ)) → IsSearch g (replicate (length g) New) (replicate (length g) 0) [] []
begins g =
    let new : (i : ℕ) → mark_at (replicate (length g) New) i ≡ New = λ i. elim (cases_lt i (length g)) [
      | inl inside ↦ get_or-replicate (length g) i New New inside
      | inr past ↦ get_or_past (replicate (length g) New) i New (omega (arith, length-replicate (length g) New))
    ] in
    record {
      marked = length-replicate (length g) New;
      counted = length-replicate (length g) 0;
      done = All-nil (λ i. mark_at (replicate (length g) New) i ≡ Done);
      ordered = λ i e. let it : New ≡ Done = sym (new i) ∙ e in cc;
      once = λ i j d lt inside. absurd (omega arith);
      after = λ before i rest e. absurd (omega (arith, ap length e, length-append before (i ∷ rest)));
      open_path = All-nil (λ i. mark_at (replicate (length g) New) i ≡ Open);
      on_path = λ i e. let it : New ≡ Open = sym (new i) ∙ e in cc;
      leads = λ i j d lt inside. absurd (omega arith);
      passed_done = λ i k lt. elim (cases_lt i (length g)) [
        | inl inside ↦ absurd (omega (arith, lt, get_or-replicate {A = ℕ} (length g) i 0 0 inside))
        | inr past ↦ absurd (omega (arith, lt, get_or_past {X = ℕ} (replicate (length g) 0) i 0 (omega (arith, past, length-replicate {A = ℕ} (length g) 0))))
      ];
    }

-- an acyclic graph
module _ (g : List (List ℕ)) (graph : IsGraph g) (acyclic : (i : ℕ) → ¬ IsOnCycle g i) where
  abbrev none_passed : List ℕ
  none_passed = replicate (length g) 0

  -- a search ends from here: its path is empty, and what was met stays met
  abbrev Ends : List Mark → Type 0
  Ends marks = (after : List Mark) × (order : List ℕ) × IsSearch g after none_passed [] order × StaysMet marks after

  -- a search that stands so ends within as many steps as it has work left
  ends : (work : ℕ) (marks : List Mark) (path order : List ℕ) → IsSearch g marks none_passed path order → 2 * new_count marks + length path ≤ work → Ends marks
  ends zero marks [] order s le = (marks, order, s, λ i met. met)
  ends zero marks (x ∷ path) order s le = absurd (omega arith)
  ends (suc work) marks path order s le =
      elim (last_of path) [
        | inl idle ↦ (marks, order, subst (λ l. IsSearch g marks none_passed l order) idle s, λ i met. met)
        | inr (rest, place, at) ↦
            let here : IsSearch g marks none_passed (rest ++ place ∷ []) order = subst (λ l. IsSearch g marks none_passed l order) at s in
            let long : length path ≡ length rest + 1 = ap length at ∙ length_push rest place in
            elim (cases_all_done marks (successors g place)) [
              | inl all ↦
                  let less : 2 * new_count (set marks place Done) + length rest ≤ work = omega (arith, le, long, no_more_new marks place (last_inside g marks none_passed rest order place here)) in
                  let (after, list, search, met) = ends work (set marks place Done) rest (order ++ place ∷ []) (closes g marks none_passed rest order place here (λ j c. All-contains (λ i. mark_at marks i ≡ Done) (successors g place) j all c)) less in
                  (after, list, search, λ i m. met i (StaysMet-set marks place Done (λ e. cc) i m))
              | inr (child, c, undone) ↦ elim (cases_open (mark_at marks child)) [
                | inl open_one ↦ absurd (acyclic child (closes_cycle g marks none_passed rest order place child here c open_one))
                | inr closed ↦
                    let new : mark_at marks child ≡ New = new_from (mark_at marks child) closed undone in
                    let inside : child < length g = successor_inside g graph place child c in
                    let less : 2 * new_count (set marks child Open) + length ((rest ++ place ∷ []) ++ child ∷ []) ≤ work = omega (arith, le, long, fewer_new marks child (omega (arith, inside, here.marked)) new, length_push (rest ++ place ∷ []) child, length_push rest place) in
                    let (after, list, search, met) = ends work (set marks child Open) ((rest ++ place ∷ []) ++ child ∷ []) order (opens g marks none_passed (rest ++ place ∷ []) order child here new inside (path_leads g marks none_passed rest order place child here c)) less in
                    (after, list, search, λ i m. met i (StaysMet-set marks child Open (λ e. cc) i m))
              ]
            ]
      ]

  -- a search goes over the first places
  goes_over : (n : ℕ) → n ≤ length g → (marks : List Mark) × (order : List ℕ) × IsSearch g marks none_passed [] order × ((i : ℕ) → i < n → mark_at marks i ≢ New)
  goes_over zero le = (replicate (length g) New, [], begins g, λ i lt. absurd (omega arith))
  goes_over (suc n) le =
      let (marks, order, s, met) = goes_over n (omega arith) in
      elim (cases_new (mark_at marks n)) [
        | inr old ↦ (marks, order, s, λ i lt. elim (cases_eq i n) [ inl same ↦ subst (λ z. mark_at marks z ≢ New) (sym same) old | inr differ ↦ met i (omega arith) ])
        | inl new ↦
            let root : IsSearch g (set marks n Open) none_passed (n ∷ []) order = opens g marks none_passed [] order n s new (omega arith) (λ i (k, lt, at). absurd (omega (arith, lt))) in
            let (after, list, search, stays) = ends (2 * new_count (set marks n Open) + 1) (set marks n Open) (n ∷ []) order root (omega arith) in
            let now : mark_at (set marks n Open) n ≢ New = now_met marks n Open (omega (arith, le, s.marked)) (λ e. cc) in (
              after,
              list,
              search,
              λ i lt. elim (cases_eq i n) [
                | inl same ↦ stays i (subst (λ z. mark_at (set marks n Open) z ≢ New) (sym same) now)
                | inr differ ↦ stays i (StaysMet-set marks n Open (λ e. cc) i (met i (omega arith)))
              ],
            )
      ]

  -- where no place lies on a cycle, the places have an order
  pub acyclic_has_order : (order : List ℕ) × IsOrder g order
  acyclic_has_order =
      let (marks, order, s, met) = goes_over (length g) (omega arith) in
      (order, finishes g marks none_passed [] order s refl met)
