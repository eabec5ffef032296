-- What a depth-first search keeps.
use Rattle.ncl_graph.proofs.Terms.{All, All-contains, All-get_or, All-push, All-weaker, Contains, Contains-append_left, Contains-get_or, Contains-push, Contains-push_cases, Done, IsGraph, IsOnCycle, IsOrder, IsSearch, Leads, List, Mark, New, Open, StaysMet, [], all_pairs_push, ap, arc, arith, as_many_as, cases_eq, cases_lt, cond, get_or, get_or-set_other, get_or-set_same, get_or_default, get_or_past, get_or_read, inl, inr, is_new, length, length-set, mark_at, new_count, pair_front, pair_last, refl, set, set_past, subst, successors, sum_by-set, sym, ℕ, ◌++◌, ◌+◌, ◌<◌, ◌∙◌, ◌∷◌, ◌≡◌, ◌≢◌, ◌≤◌}
use Rattle.ncl_graph.proofs.Paths.{successor_inside, Leads-push, StandsAfter-push}

-- a place that was met is one of those that have a mark
pub met_inside : (marks : List Mark) (i : ℕ) → mark_at marks i ≢ New → i < length marks
met_inside marks i met = elim (cases_lt i (length marks)) [ inl inside ↦ inside | inr past ↦ absurd (met (get_or_past marks i New past)) ]

-- places with different marks differ
apart : (marks : List Mark) (i j : ℕ) (m n : Mark) → mark_at marks i ≡ m → mark_at marks j ≡ n → m ≢ n → i ≢ j
apart marks i j m n a b differ same = differ (sym a ∙ ap (λ z. mark_at marks z) same ∙ b)

-- a mark of another place stays
mark_kept : (marks : List Mark) (i j : ℕ) (n m : Mark) → i ≢ j → mark_at marks i ≡ m → mark_at (set marks j n) i ≡ m
mark_kept marks i j n m differ e = get_or-set_other marks j i n New differ ∙ e

-- a mark of another place was there before
mark_was : (marks : List Mark) (i j : ℕ) (n m : Mark) → i ≢ j → mark_at (set marks j n) i ≡ m → mark_at marks i ≡ m
mark_was marks i j n m differ e = sym (get_or-set_other marks j i n New differ) ∙ e

-- a place that is new opens at the end of a path whose places lead to it
pub opens : (g : List (List ℕ)) (marks : List Mark) (passed path order : List ℕ) (child : ℕ) → IsSearch g marks passed path order → mark_at marks child ≡ New → child < length g → ((i : ℕ) → Contains path i → Leads g i child) → IsSearch g (set marks child Open) passed (path ++ child ∷ []) order
opens g marks passed path order child s new inside leads =
    let here : mark_at (set marks child Open) child ≡ Open = get_or-set_same marks child Open New (omega (arith, s.marked)) in
    let still : (m : Mark) → m ≢ New → (i : ℕ) → mark_at marks i ≡ m → mark_at (set marks child Open) i ≡ m = λ m old i e. mark_kept marks i child Open m (apart marks i child m New e new old) e in
    let done_is_old : Done ≢ New = λ e. cc in
    let open_is_old : Open ≢ New = λ e. cc in
    record {
      marked = length-set marks child Open ∙ s.marked;
      counted = s.counted;
      done = All-weaker (λ i. mark_at marks i ≡ Done) (λ i. mark_at (set marks child Open) i ≡ Done) (still Done done_is_old) order s.done;
      ordered = λ i e. elim (cases_eq i child) [
        | inl same ↦ let it : mark_at (set marks child Open) child ≡ Done = subst (λ z. mark_at (set marks child Open) z ≡ Done) same e in cc
        | inr differ ↦ s.ordered i (mark_was marks i child Open Done differ e)
      ];
      once = s.once;
      after = s.after;
      open_path = All-push (λ i. mark_at (set marks child Open) i ≡ Open) path child (All-weaker (λ i. mark_at marks i ≡ Open) (λ i. mark_at (set marks child Open) i ≡ Open) (still Open open_is_old) path s.open_path) here;
      on_path = λ i e. elim (cases_eq i child) [
        | inl same ↦ subst (λ z. Contains (path ++ child ∷ []) z) (sym same) (Contains-push path child)
        | inr differ ↦ Contains-append_left path (child ∷ []) i (s.on_path i (mark_was marks i child Open Open differ e))
      ];
      leads = all_pairs_push (λ i j. (i ≢ j) × Leads g i j) path child s.leads (λ k d lt. (apart marks (get_or path k d) child Open New (All-get_or (λ i. mark_at marks i ≡ Open) path k d lt s.open_path) new open_is_old, leads (get_or path k d) (Contains-get_or path k d lt)));
      passed_done = λ i k lt. still Done done_is_old (get_or (successors g i) k 0) (s.passed_done i k lt);
    }

-- the last place of the path closes where all that it leads to is done
pub closes : (g : List (List ℕ)) (marks : List Mark) (passed path order : List ℕ) (place : ℕ) → IsSearch g marks passed (path ++ place ∷ []) order → ((j : ℕ) → Contains (successors g place) j → mark_at marks j ≡ Done) → IsSearch g (set marks place Done) passed path (order ++ place ∷ [])
closes g marks passed path order place s all =
    let is_open : mark_at marks place ≡ Open = All-contains (λ i. mark_at marks i ≡ Open) (path ++ place ∷ []) place s.open_path (Contains-push path place) in
    let done_is_not : Done ≢ Open = λ e. cc in
    let here : mark_at (set marks place Done) place ≡ Done = get_or-set_same marks place Done New (met_inside marks place (λ e. cc)) in
    let still : (i : ℕ) → mark_at marks i ≡ Done → mark_at (set marks place Done) i ≡ Done = λ i e. mark_kept marks i place Done Done (apart marks i place Done Open e is_open done_is_not) e in
    record {
      marked = length-set marks place Done ∙ s.marked;
      counted = s.counted;
      done = All-push (λ i. mark_at (set marks place Done) i ≡ Done) order place (All-weaker (λ i. mark_at marks i ≡ Done) (λ i. mark_at (set marks place Done) i ≡ Done) still order s.done) here;
      ordered = λ i e. elim (cases_eq i place) [
        | inl same ↦ subst (λ z. Contains (order ++ place ∷ []) z) (sym same) (Contains-push order place)
        | inr differ ↦ Contains-append_left order (place ∷ []) i (s.ordered i (mark_was marks i place Done Done differ e))
      ];
      once = all_pairs_push (λ i j. i ≢ j) order place s.once (λ k d lt. apart marks (get_or order k d) place Done Open (All-get_or (λ i. mark_at marks i ≡ Done) order k d lt s.done) is_open done_is_not);
      after = StandsAfter-push g order place s.after (λ j c. s.ordered j (all j c));
      open_path = λ k d lt. mark_kept marks (get_or path k d) place Done Open (pair_last (λ i j. (i ≢ j) × Leads g i j) path place s.leads k d lt).0 (All-contains (λ i. mark_at marks i ≡ Open) (path ++ place ∷ []) (get_or path k d) s.open_path (Contains-append_left path (place ∷ []) (get_or path k d) (Contains-get_or path k d lt)));
      on_path = λ i e. elim (cases_eq i place) [
        | inl same ↦ let it : mark_at (set marks place Done) place ≡ Open = subst (λ z. mark_at (set marks place Done) z ≡ Open) same e in cc
        | inr differ ↦ elim (Contains-push_cases path place i (s.on_path i (mark_was marks i place Done Open differ e))) [ inl before ↦ before | inr same ↦ absurd (differ (sym same)) ]
      ];
      leads = pair_front (λ i j. (i ≢ j) × Leads g i j) path place s.leads;
      passed_done = λ i k lt. still (get_or (successors g i) k 0) (s.passed_done i k lt);
    }

-- more successors of a place are passed by once they are done
pub passes : (g : List (List ℕ)) (marks : List Mark) (passed path order : List ℕ) (place next : ℕ) → IsSearch g marks passed path order → ((k : ℕ) → k < next → mark_at marks (get_or (successors g place) k 0) ≡ Done) → IsSearch g marks (set passed place next) path order
passes g marks passed path order place next s all = record {
  marked = s.marked;
  counted = length-set passed place next ∙ s.counted;
  done = s.done;
  ordered = s.ordered;
  once = s.once;
  after = s.after;
  open_path = s.open_path;
  on_path = s.on_path;
  leads = s.leads;
  passed_done = λ i k lt. elim (cases_eq i place) [
    | inl same ↦ elim (cases_lt place (length passed)) [
      | inl inside ↦
          let now : get_or (set passed place next) i 0 ≡ next = ap (λ z. get_or (set passed place next) z 0) same ∙ get_or-set_same passed place next 0 inside in
          subst (λ z. mark_at marks (get_or (successors g z) k 0) ≡ Done) (sym same) (all k (omega (arith, now)))
      | inr past ↦ s.passed_done i k (subst (λ l. k < get_or l i 0) (set_past passed place next past) lt)
    ]
    | inr differ ↦ s.passed_done i k (subst (λ n. k < n) (get_or-set_other passed place i next 0 differ) lt)
  ];
}

-- each place of the path leads to a successor of the last one
pub path_leads : (g : List (List ℕ)) (marks : List Mark) (passed path order : List ℕ) (place child : ℕ) → IsSearch g marks passed (path ++ place ∷ []) order → Contains (successors g place) child → (i : ℕ) → Contains (path ++ place ∷ []) i → Leads g i child
path_leads g marks passed path order place child s c i on =
    elim (Contains-push_cases path place i on) [
      | inl (k, lt, at) ↦ Leads-push g child (subst (λ z. Leads g z place) at (pair_last (λ i j. (i ≢ j) × Leads g i j) path place s.leads k i lt).1) c
      | inr same ↦ subst (λ z. Leads g z child) same (arc c)
    ]

-- a successor of the last place that is open lies on a cycle
pub closes_cycle : (g : List (List ℕ)) (marks : List Mark) (passed path order : List ℕ) (place child : ℕ) → IsSearch g marks passed (path ++ place ∷ []) order → Contains (successors g place) child → mark_at marks child ≡ Open → IsOnCycle g child
closes_cycle g marks passed path order place child s c e = path_leads g marks passed path order place child s c child (s.on_path child e)

-- a new place that opens is one fewer
pub fewer_new : (marks : List Mark) (child : ℕ) → child < length marks → mark_at marks child ≡ New → new_count (set marks child Open) + 1 ≡ new_count marks
fewer_new marks child inside e =
    let count : new_count (set marks child Open) + cond (is_new (mark_at marks child)) 1 0 ≡ new_count marks + cond (is_new Open) 1 0 = sum_by-set (λ m. cond (is_new m) 1 0) marks child Open New inside in
    let one : cond {A = ℕ} (is_new (mark_at marks child)) 1 0 ≡ 1 = ap (λ m. cond (is_new m) 1 0) e in
    omega (arith, count, one)

-- a place that closes is no new one more
pub no_more_new : (marks : List Mark) (place : ℕ) → place < length marks → new_count (set marks place Done) ≤ new_count marks
no_more_new marks place inside =
    let count : new_count (set marks place Done) + cond (is_new (mark_at marks place)) 1 0 ≡ new_count marks + cond (is_new Done) 1 0 = sum_by-set (λ m. cond (is_new m) 1 0) marks place Done New inside in
    omega (arith, count)

-- no place becomes new by another mark
pub StaysMet-set : (marks : List Mark) (place : ℕ) (m : Mark) → m ≢ New → StaysMet marks (set marks place m)
StaysMet-set marks place m old i met e =
    elim (cases_eq i place) [
      | inl same ↦
          let here : mark_at (set marks place m) place ≡ m = get_or-set_same marks place m New (met_inside marks place (subst (λ z. mark_at marks z ≢ New) same met)) in
          old (sym here ∙ subst (λ z. mark_at (set marks place m) z ≡ New) same e)
      | inr differ ↦ met (mark_was marks i place m New differ e)
    ]

-- a place with such a mark was met
pub now_met : (marks : List Mark) (place : ℕ) (m : Mark) → place < length marks → m ≢ New → mark_at (set marks place m) place ≢ New
now_met marks place m inside old e = old (sym (get_or-set_same marks place m New inside) ∙ e)

-- a mark is one of three
pub new_from : (m : Mark) → m ≢ Open → m ≢ Done → m ≡ New
new_from New a b = refl
new_from Open a b = absurd (a refl)
new_from Done a b = absurd (b refl)

-- the last place of the path is a place
pub last_inside : (g : List (List ℕ)) (marks : List Mark) (passed path order : List ℕ) (place : ℕ) → IsSearch g marks passed (path ++ place ∷ []) order → place < length marks
last_inside g marks passed path order place s =
    let is_open : mark_at marks place ≡ Open = All-contains (λ i. mark_at marks i ≡ Open) (path ++ place ∷ []) place s.open_path (Contains-push path place) in
    met_inside marks place (λ e. cc)

done_from : (m : Mark) → m ≢ New → m ≢ Open → m ≡ Done
done_from New a b = absurd (a refl)
done_from Open a b = absurd (b refl)
done_from Done a b = refl

-- where a step of a search begins: it stands so, at the last place of the path, and of that place's list of
-- successors those from a number on up to another are done
module _ (g : List (List ℕ)) (graph : IsGraph g) (marks seen : List Mark) (passed path order : List ℕ) (place from next : ℕ) (list : List ℕ) (s : IsSearch g marks passed (path ++ place ∷ []) order) (as_seen : seen ≡ marks) (as_listed : list ≡ successors g place) (at_from : from ≡ get_or passed place from) (found : (k : ℕ) → from ≤ k → k < next → mark_at seen (get_or list k 0) ≡ Done) where
  all_done : (k : ℕ) → k < next → mark_at marks (get_or list k 0) ≡ Done
  all_done k lt = elim (cases_lt k from) [
    | inl before ↦
        let inside : place < length passed = omega (arith, last_inside g marks passed path order place s, s.marked, s.counted) in
        let earlier : k < get_or passed place 0 = omega (arith, before, get_or_read passed place from inside at_from 0) in
        subst (λ l. mark_at marks (get_or l k 0) ≡ Done) (sym as_listed) (s.passed_done place k earlier)
    | inr after ↦ subst (λ m. mark_at m (get_or list k 0) ≡ Done) as_seen (found k after lt)
  ]

  next_one : next < length list → Contains (successors g place) (get_or list next 0)
  next_one inside = subst (λ l. Contains l (get_or list next 0)) as_listed (Contains-get_or list next 0 inside)

  -- all successors are done: the place closes
  pub step_closes : next ≡ length list → IsSearch g (set marks place Done) passed path (order ++ place ∷ [])
  step_closes end = closes g marks passed path order place s (λ j (k, lt, at).
      let e : list ≡ successors g place = as_listed in
      let inside : k < next = omega (arith, lt, end, ap length e) in
      let read : get_or list k 0 ≡ j = ap (λ l. get_or l k 0) e ∙ get_or_default (successors g place) k 0 j lt ∙ at in
      subst (λ z. mark_at marks z ≡ Done) read (all_done k inside))

  -- the next successor is new: it opens
  pub step_opens : next ≤ length list → next ≢ length list → (mark : Mark) → mark ≡ get_or marks (get_or list next 0) mark → mark ≢ Open → (next < length list → mark_at seen (get_or list next 0) ≢ Done) → IsSearch g (set marks (get_or list next 0) Open) (set passed place next) ((path ++ place ∷ []) ++ get_or list next 0 ∷ []) order
  step_opens within differ mark read a b =
      let inside : next < length list = omega arith in
      let child : ℕ = get_or list next 0 in
      let it : Contains (successors g place) child = next_one inside in
      let in_graph : child < length g = successor_inside g graph place child it in
      let is_mark : mark ≡ mark_at marks child = get_or_read marks child mark (omega (arith, in_graph, s.marked)) read New in
      let passed_on : IsSearch g marks (set passed place next) (path ++ place ∷ []) order = passes g marks passed (path ++ place ∷ []) order place next s (λ k lt. subst (λ l. mark_at marks (get_or l k 0) ≡ Done) as_listed (all_done k lt)) in
      let is_new_one : mark_at marks child ≡ New = new_from (mark_at marks child) (λ e. a (is_mark ∙ e)) (λ e. b inside (subst (λ m. mark_at m child ≡ Done) (sym as_seen) e)) in
      opens g marks (set passed place next) (path ++ place ∷ []) order child passed_on is_new_one in_graph (path_leads g marks passed path order place child s it)

  -- and it is one new place fewer
  pub step_fewer : next ≤ length list → next ≢ length list → (mark : Mark) → mark ≡ get_or marks (get_or list next 0) mark → mark ≢ Open → (next < length list → mark_at seen (get_or list next 0) ≢ Done) → new_count (set marks (get_or list next 0) Open) + 1 ≡ new_count marks
  step_fewer within differ mark read a b =
      let inside : next < length list = omega arith in
      let child : ℕ = get_or list next 0 in
      let in_graph : child < length g = successor_inside g graph place child (next_one inside) in
      let in_marks : child < length marks = omega (arith, in_graph, s.marked) in
      let is_mark : mark ≡ mark_at marks child = get_or_read marks child mark in_marks read New in
      fewer_new marks child in_marks (new_from (mark_at marks child) (λ e. a (is_mark ∙ e)) (λ e. b inside (subst (λ m. mark_at m child ≡ Done) (sym as_seen) e)))

  -- the next successor is open: it lies on a cycle
  pub step_cycle : next ≤ length list → next ≢ length list → (mark : Mark) → mark ≡ get_or marks (get_or list next 0) mark → mark ≡ Open → IsOnCycle g (get_or list next 0)
  step_cycle within differ mark read e =
      let inside : next < length list = omega arith in
      let child : ℕ = get_or list next 0 in
      let in_graph : child < length g = successor_inside g graph place child (next_one inside) in
      let is_mark : mark ≡ mark_at marks child = get_or_read marks child mark (omega (arith, in_graph, s.marked)) read New in
      closes_cycle g marks passed path order place child s (next_one inside) (sym is_mark ∙ e)

-- a place that is new opens where the path is empty
pub roots : (g : List (List ℕ)) (marks : List Mark) (passed path order : List ℕ) (root : ℕ) → IsSearch g marks passed path order → path ≡ [] → root < length g → mark_at marks root ≡ New → IsSearch g (set marks root Open) passed (path ++ root ∷ []) order
roots g marks passed path order root s idle inside new =
    opens g marks passed path order root s new inside (λ i (k, lt, at). absurd (omega (arith, lt, ap length idle)))

-- a search that has met each place and has an empty path has found an order
pub finishes : (g : List (List ℕ)) (marks : List Mark) (passed path order : List ℕ) → IsSearch g marks passed path order → path ≡ [] → ((i : ℕ) → i < length g → mark_at marks i ≢ New) → IsOrder g order
finishes g marks passed path order s idle met =
    let every : (i : ℕ) → i < length g → Contains order i = λ i inside. s.ordered i (done_from (mark_at marks i) (met i inside) (λ e. let on : Contains [] i = subst (λ l. Contains l i) idle (s.on_path i e) in absurd (omega (arith, on.1)))) in
    let places : All (λ i. i < length g) order = All-weaker (λ i. mark_at marks i ≡ Done) (λ i. i < length g) (λ i e. omega (arith, met_inside marks i (λ n. cc), s.marked)) order s.done in
    record {
      as_many = as_many_as order (length g) s.once places every;
      places = places;
      every = every;
      once = s.once;
      after = s.after;
    }
