-- Walks along arcs.
use Rattle.ncl_graph.proofs.Terms.{All, All-append, All-cons, All-contains, All-nil, All-push, All-weaker, Bool, Contains, Contains-append_left, Contains-append_right, Contains-get_or, Contains-push, Contains-push_cases, IsWalk, Leads, List, Reaches, [], ap, arc, arith, cases_eq, cases_lt, cond, count_by, false, further, get_or, get_or-replicate, get_or-set_other, get_or-set_same, get_or_past, inl, inr, length, length-replicate, length_push, not, replicate, set, subst, successors, sum_by-set, sym, take, take_more, true, was_reached, ℕ, ◌++◌, ◌+◌, ◌<◌, ◌∙◌, ◌∷◌, ◌≡◌}
use Rattle.std.proofs.lemmas.List.{length-set}
use Rattle.ncl_graph.proofs.Paths.{Leads-push}

-- one place that is new
pub reaches_one : (reached : List Bool) (waiting : List ℕ) (place : ℕ) → place < length reached → was_reached reached place ≡ false → Reaches (place ∷ []) reached waiting (set reached place true) (waiting ++ place ∷ [])
reaches_one reached waiting place inside new =
    let here : was_reached (set reached place true) place ≡ true = get_or-set_same reached place true false inside in
    let kept : (i : ℕ) → was_reached reached i ≡ true → was_reached (set reached place true) i ≡ true = λ i e. elim (cases_eq i place) [
      | inl same ↦ subst (λ z. was_reached (set reached place true) z ≡ true) (sym same) here
      | inr differ ↦ get_or-set_other reached place i true false differ ∙ e
    ] in
    let was : (i : ℕ) → (i ≡ place → ⊥) → was_reached (set reached place true) i ≡ true → was_reached reached i ≡ true = λ i differ e. sym (get_or-set_other reached place i true false differ) ∙ e in
    let count : count_by not (set reached place true) + cond (not (was_reached reached place)) 1 0 ≡ count_by not reached + cond (not true) 1 0 = sum_by-set (λ b. cond (not b) 1 0) reached place true false inside in
    let one : cond {A = ℕ} (not (was_reached reached place)) 1 0 ≡ 1 = ap (λ b. cond (not b) 1 0) new in
    record {
      sized = length-set reached place true;
      all = All-cons (λ i. was_reached (set reached place true) i ≡ true) place [] here (All-nil (λ i. was_reached (set reached place true) i ≡ true));
      kept = kept;
      only = λ i e. elim (cases_eq i place) [ inl same ↦ inr (subst (λ z. Contains (place ∷ []) z) (sym same) (Contains-push [] place)) | inr differ ↦ inl (was i differ e) ];
      fresh = λ i e. elim (cases_eq i place) [ inl same ↦ inr (subst (λ z. Contains (waiting ++ place ∷ []) z) (sym same) (Contains-push waiting place)) | inr differ ↦ inl (was i differ e) ];
      still = λ i c. Contains-append_left waiting (place ∷ []) i c;
      waits = λ w. All-push (λ i. was_reached (set reached place true) i ≡ true) waiting place (All-weaker (λ i. was_reached reached i ≡ true) (λ i. was_reached (set reached place true) i ≡ true) kept waiting w) here;
      turns = omega (arith, count, one, length_push waiting place);
    }

-- the places of a list, and one more
pub reaches_more : (list : List ℕ) (k : ℕ) (a b c : List Bool) (p q s : List ℕ) → Reaches list a p b q → Reaches (k ∷ []) b q c s → Reaches (list ++ k ∷ []) a p c s
reaches_more list k a b c p q s r t = record {
  sized = t.sized ∙ r.sized;
  all = All-append (λ i. was_reached c i ≡ true) list (k ∷ []) (All-weaker (λ i. was_reached b i ≡ true) (λ i. was_reached c i ≡ true) t.kept list r.all) t.all;
  kept = λ i e. t.kept i (r.kept i e);
  only = λ i e. elim (t.only i e) [
    | inl before ↦ elim (r.only i before) [ inl old ↦ inl old | inr in_list ↦ inr (Contains-append_left list (k ∷ []) i in_list) ]
    | inr last ↦ inr (Contains-append_right list (k ∷ []) i last)
  ];
  fresh = λ i e. elim (t.fresh i e) [
    | inl before ↦ elim (r.fresh i before) [ inl old ↦ inl old | inr waits ↦ inr (t.still i waits) ]
    | inr waits ↦ inr waits
  ];
  still = λ i c. t.still i (r.still i c);
  waits = λ w. t.waits (r.waits w);
  turns = t.turns ∙ r.turns;
}

-- the first places of a list, and the next
pub reaches_next : (list : List ℕ) (i : ℕ) (a b c : List Bool) (p q s : List ℕ) → i < length list → Reaches (take i list) a p b q → Reaches (get_or list i 0 ∷ []) b q c s → Reaches (take (i + 1) list) a p c s
reaches_next list i a b c p q s inside r t = subst (λ l. Reaches l a p c s) (sym (take_more list i 0 inside)) (reaches_more (take i list) (get_or list i 0) a b c p q s r t)

module _ (g : List (List ℕ)) (start : ℕ) where
  -- a walk begins at the successors of its start
  pub walk_begins : (reached : List Bool) (waiting : List ℕ) → Reaches (successors g start) (replicate (length g) false) [] reached waiting → IsWalk g start reached waiting
  walk_begins reached waiting r =
      let none : (i : ℕ) → was_reached (replicate (length g) false) i ≡ true → ⊥ = λ i e. elim (cases_lt i (length g)) [
        | inl inside ↦ let it : false ≡ true = sym (get_or-replicate (length g) i false false inside) ∙ e in cc
        | inr past ↦ let it : false ≡ true = sym (get_or_past (replicate (length g) false) i false (omega (arith, past, length-replicate (length g) false))) ∙ e in cc
      ] in
      record {
        sized = r.sized ∙ length-replicate (length g) false;
        sound = λ i e. elim (r.only i e) [ inl old ↦ absurd (none i old) | inr first ↦ arc first ];
        first = r.all;
        closed = λ i e. elim (r.fresh i e) [ inl old ↦ absurd (none i old) | inr waits ↦ inl waits ];
        waits = r.waits (All-nil (λ i. was_reached (replicate (length g) false) i ≡ true));
      }

  -- and goes on at the successors of the last place that waits
  pub walk_goes_on : (reached : List Bool) (rest : List ℕ) (place : ℕ) (reached_after : List Bool) (waiting_after : List ℕ) → IsWalk g start reached (rest ++ place ∷ []) → Reaches (successors g place) reached rest reached_after waiting_after → IsWalk g start reached_after waiting_after
  walk_goes_on reached rest place reached_after waiting_after w r =
      let grown : (list : List ℕ) → All (λ j. was_reached reached j ≡ true) list → All (λ j. was_reached reached_after j ≡ true) list = λ list all. All-weaker (λ j. was_reached reached j ≡ true) (λ j. was_reached reached_after j ≡ true) r.kept list all in
      let place_was : was_reached reached place ≡ true = All-contains (λ j. was_reached reached j ≡ true) (rest ++ place ∷ []) place w.waits (Contains-push rest place) in
      record {
        sized = r.sized ∙ w.sized;
        sound = λ i e. elim (r.only i e) [ inl old ↦ w.sound i old | inr next ↦ Leads-push g i (w.sound place place_was) next ];
        first = grown (successors g start) w.first;
        closed = λ i e. elim (r.fresh i e) [
          | inl old ↦ elim (w.closed i old) [
            | inl waited ↦ elim (Contains-push_cases rest place i waited) [
              | inl still ↦ inl (r.still i still)
              | inr same ↦ inr (subst (λ z. All (λ j. was_reached reached_after j ≡ true) (successors g z)) same r.all)
            ]
            | inr all ↦ inr (grown (successors g i) all)
          ]
          | inr waits ↦ inl waits
        ];
        waits = r.waits (λ k d lt. All-contains (λ j. was_reached reached j ≡ true) (rest ++ place ∷ []) (get_or rest k d) w.waits (Contains-append_left rest (place ∷ []) (get_or rest k d) (Contains-get_or rest k d lt)));
      }

  -- where nothing waits, what the successors of a place lead to was reached with them
  led_on : (reached : List Bool) → IsWalk g start reached [] → (i j : ℕ) → Leads g i j → All (λ k. was_reached reached k ≡ true) (successors g i) → was_reached reached j ≡ true
  led_on reached w i j (arc c) all = All-contains (λ k. was_reached reached k ≡ true) (successors g i) j all c
  led_on reached w i j (further {j = k} c path) all =
      elim (w.closed k (All-contains (λ k. was_reached reached k ≡ true) (successors g i) k all c)) [
        | inl waits ↦ absurd (omega (arith, waits.1))
        | inr all_k ↦ led_on reached w k j path all_k
      ]

  -- a walk ends where nothing waits: it has reached the places that its start leads to
  pub walk_ends : (reached : List Bool) (waiting : List ℕ) → IsWalk g start reached waiting → waiting ≡ [] → (i : ℕ) → Leads g start i → was_reached reached i ≡ true
  walk_ends reached waiting w idle i path =
      let at_end : IsWalk g start reached [] = subst (λ l. IsWalk g start reached l) idle w in
      led_on reached at_end start i path at_end.first

  -- what waits at the end is a place
  pub waiting_inside : (reached : List Bool) (rest : List ℕ) (place : ℕ) → IsWalk g start reached (rest ++ place ∷ []) → place < length g
  waiting_inside reached rest place w =
      let place_was : was_reached reached place ≡ true = All-contains (λ j. was_reached reached j ≡ true) (rest ++ place ∷ []) place w.waits (Contains-push rest place) in
      elim (cases_lt place (length reached)) [
        | inl inside ↦ omega (arith, inside, w.sized)
        | inr past ↦ let it : false ≡ true = sym (get_or_past reached place false past) ∙ place_was in cc
      ]
