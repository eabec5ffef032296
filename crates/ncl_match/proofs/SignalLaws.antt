-- The pairs of signals, those that count, and their numbers.
pub use Rattle.ncl_match.proofs.Terms.{[], All, All-cons, All-contains, All-head, All-nil, All-push, All-tail, AreModels, AreNeeded, AreNumbered, AreOrdered, Assigns, Bool, Computes, Contains, Contains-append_cases, Contains-from_slice_get, Cover, Err, Fits, Gives, HasFunction, HasStep, IfOk-weaker, IsModel, IsNeeded, IsNumbered, IsPair, IsSpace, Keeps, List, Lit, MakesPair, Model, None, Option, Pair, SignalCounts, Some, SpaceData, Step, WordFunction, ap, arith, bit_at, bit_function, bits_after, both_tables, by_cover, by_position, cases_eq, common_steps, cover_function, cover_tables, cover_value, eqb-true, false, false≢true, first_tables, fits, function_at, functions_at, functions_read, gathered, get_or, get_or-map, get_or-range_with_len, get_or_append_left, get_or_from_slice_get, get_or_push, handed_on, if◌then◌else◌, is_among, keeps_along, is_output, length, length-map, length_push, list_any, list_any_at, map, map-agree_on, map-range, nat_eq, or_cases, or_left, or_right, pair_at, range_with_len, refl, replicate, row_function, row_matches, row_tables, rows_function, same_Some, signal_function, signals_of, slice_get, slice_get-get_or, slice_get-some, slice_get_read, slice_get_within, step_tables, step_value, subst, suc, sym, tables_of_step, take, true, turn_tables, values_of, width_of, with_none, with_tables, zero, ℕ, ⊎_elim, ◌++◌, ◌+◌, ◌-◌, ◌<◌, ◌||◌, ◌∙◌, ◌∷◌, ◌≡◌}
pub use Rattle.ncl_match.proofs.MarkLaws.{member-before, none_marked, own-number}
pub use Rattle.ncl_match.proofs.PairLaws.{Turned, function-is, has-kept, pairs-kept, same-function, same-tables, too_much-turn, turned-next, turned-none}
use Rattle.ncl_match.specs.Needed.{itself, reads}
pub use Rattle.ncl_match.proofs.PlannedLaws.{gathered-same, member-gathered}

-- ---- values

-- what stands before the steps keeps its bit
pub bits-front : (w : List Bool) (steps : List Step) (i : ℕ) → i < length w → bit_at (bits_after w steps) i ≡ bit_at w i
bits-front w [] i lt = refl
bits-front w (step ∷ steps) i lt =
    bits-front (w ++ step_value w step ∷ []) steps i (omega (arith, lt, length_push w (step_value w step)))
    ∙ get_or_append_left w (step_value w step ∷ []) false i lt

-- the bit of a step is its value on the bits of all
pub step-bit : (w : List Bool) (steps : List Step) (j : ℕ) (step : Step) → slice_get steps j ≡ Some step → All (λ x. x < length w + j) step.ins → bit_at (bits_after w steps) (length w + j) ≡ step_value (bits_after w steps) step
step-bit w [] j step at before = absurd cc
step-bit w (first ∷ steps) zero step at before =
    let same : first ≡ step = same_Some first step at in
    let v : Bool = step_value w first in
    let e : length w + zero ≡ length w = omega arith in
    let agree : map (bit_at w) step.ins ≡ map (bit_at (bits_after (w ++ v ∷ []) steps)) step.ins =
    map-agree_on (bit_at w) (bit_at (bits_after (w ++ v ∷ []) steps)) step.ins (λ x among.
    let lt = All-contains (λ y. y < length w + zero) step.ins x before among in
    sym (bits-front w (first ∷ steps) x (omega (arith, lt)))) in
    ap (bit_at (bits_after (w ++ v ∷ []) steps)) e
    ∙ bits-front (w ++ v ∷ []) steps (length w) (omega (arith, length_push w v))
    ∙ get_or_push w v false (length w) refl
    ∙ ap (step_value w) same
    ∙ ap (cover_value step.cover.now.on step.cover.now.rows) agree
step-bit w (first ∷ steps) (suc j) step at before =
    let v : Bool = step_value w first in
    let e : length w + suc j ≡ length (w ++ v ∷ []) + j = omega (arith, length_push w v) in
    ap (bit_at (bits_after (w ++ v ∷ []) steps)) e
    ∙ step-bit (w ++ v ∷ []) steps j step at (subst (λ k. All (λ x. x < k) step.ins) e before)

pub values-map : {X : Type 0} (g : X → WordFunction) (xs : List X) (w : List Bool) → values_of (map g xs) w ≡ map (λ x. g x w) xs
values-map g [] w = refl
values-map g (x ∷ xs) w = ap (λ l. g x w ∷ l) (values-map g xs w)

-- the function of a step is the value of its cover
pub step-function : (n : ℕ) (steps : List Step) (j : ℕ) (step : Step) → AreOrdered n steps → slice_get steps j ≡ Some step → (w : List Bool) → length w ≡ n → cover_function (functions_read steps step) step.cover.now.on step.cover.now.rows w ≡ signal_function steps (n + j) w
step-function n steps j step ordered at w wide =
    ap (cover_value step.cover.now.on step.cover.now.rows) (values-map (signal_function steps) step.ins w)
    ∙ sym (step-bit w steps j step at (subst (λ k. All (λ x. x < k + j) step.ins) (sym wide) (ordered.before j step at)))
    ∙ ap (λ k. bit_at (bits_after w steps) (k + j)) wide

pub bit-function : (n : ℕ) (steps : List Step) (x : ℕ) → x < n → (w : List Bool) → length w ≡ n → bit_function x w ≡ signal_function steps x w
bit-function n steps x lt w wide = sym (bits-front w steps x (omega (arith, lt, wide)))

-- ---- tables of functions that agree

pub cover_tables-same : (n : ℕ) (fs gs : List WordFunction) → ((w : List Bool) → length w ≡ n → values_of fs w ≡ values_of gs w) → (rows : List (List Lit)) → cover_tables n fs rows ≡ cover_tables n gs rows
cover_tables-same n fs gs same rows = gathered-same (turn_tables n fs rows) (turn_tables n gs rows) (length rows) (λ k lt. turn k)
  where
    row : (lits : List Lit) → row_tables n fs lits ≡ row_tables n gs lits
    row lits =
        gathered-same (λ i. both_tables n (row_function fs (take (suc i) lits))) (λ i. both_tables n (row_function gs (take (suc i) lits))) (length lits)
        (λ i lt. same-tables n (row_function fs (take (suc i) lits)) (row_function gs (take (suc i) lits)) (λ w wide. ap (λ vs. row_matches vs (take (suc i) lits)) (same w wide)))

    turn : (k : ℕ) → turn_tables n fs rows k ≡ turn_tables n gs rows k
    turn k =
        let first = row (get_or rows k []) in
        let rest = same-tables n (rows_function fs (take (suc k) rows)) (rows_function gs (take (suc k) rows)) (λ w wide. ap (λ vs. list_any (row_matches vs) (take (suc k) rows)) (same w wide)) in
        λ i. first i ++ rest i

-- ---- a loop that pushes a pair in each turn

pub record PairsLoop (old now : SpaceData) (turn : ℕ → List (List Bool)) (f : ℕ → WordFunction) (marks : List Bool) (pairs : List Pair) (place : ℕ) : Type 0 where
  pub turned : Turned old now (gathered turn place)
  pub pairs_too : All (IsPair now) pairs
  pub have : (x : ℕ) → x < length pairs → bit_at marks x ≡ true → HasFunction now (pair_at pairs x) (f x)

abbrev no_pair : Pair
no_pair = record { one = record { place = 0 }; zero = record { place = 0 } }

pub pairs-more : (old now new : SpaceData) (turn : ℕ → List (List Bool)) (f : ℕ → WordFunction) (marks : List Bool) (pairs : List Pair) (place : ℕ) (p : Pair) → PairsLoop old now turn f marks pairs place → Keeps now new → IsPair new p → (bit_at marks (length pairs) ≡ true → HasFunction new p (f (length pairs))) → new.held ≡ with_tables now (turn place) → (longer : List Pair) → longer ≡ pairs ++ p ∷ [] → PairsLoop old new turn f marks longer (place + 1)
pairs-more old now new turn f marks pairs place p l kept is has held longer more =
    subst (λ ps. PairsLoop old new turn f marks ps (place + 1)) (sym more) (record {
      turned = turned-next old now new turn place l.turned kept held;
      pairs_too = All-push (IsPair new) pairs p (pairs-kept now new pairs l.turned.kept.space kept l.pairs_too) is;
      have = λ x lt mark.
          ⊎_elim
          (λ same.
          let own : pair_at (pairs ++ p ∷ []) x ≡ p = get_or_push pairs p no_pair x (sym same) in
          subst (λ q. HasFunction new q (f x)) (sym own)
          (subst (λ k. HasFunction new p (f k)) (sym same) (has (ap (bit_at marks) (sym same) ∙ mark))))
          (λ differs.
          let before : x < length pairs = omega (arith, lt, differs, length_push pairs p) in
          let other : pair_at (pairs ++ p ∷ []) x ≡ pair_at pairs x = get_or_append_left pairs (p ∷ []) no_pair x before in
          subst (λ q. HasFunction new q (f x)) (sym other) (has-kept now new (pair_at pairs x) (f x) kept (l.have x before mark)))
          (cases_eq x (length pairs));
    })

-- ---- a turn over the steps

pub contains_among : (numbers : List ℕ) (x : ℕ) → Contains numbers x → is_among numbers x ≡ true
contains_among [] x (k, lt, is) = absurd (omega (arith, lt))
contains_among (y ∷ numbers) x (zero, lt, is) = or_left (nat_eq y x) (is_among numbers x) (ap (nat_eq y) (sym is) ∙ own-number y)
contains_among (y ∷ numbers) x (suc k, lt, is) = or_right (nat_eq y x) (is_among numbers x) (contains_among numbers x (k, omega (arith, lt), is))

module _ (old now : SpaceData) (steps : List Step) (marks : List Bool) (pairs : List Pair) (place root : ℕ) (step : Step) (at : slice_get steps place ≡ Some step) (ordered : AreOrdered old.width steps) (needed : AreNeeded old.width steps root marks 0) (many : length pairs ≡ old.width + place) (l : PairsLoop old now (step_tables old.width steps marks) (signal_function steps) marks pairs place) where
  abbrev fs : List WordFunction
  fs = functions_at now (map (pair_at pairs) step.ins)

  pub step-within : All (λ x. x < length pairs) step.ins
  step-within = subst (λ k. All (λ x. x < k) step.ins) (sym many) (ordered.before place step at)

  -- the functions that are read, where the signal is marked
  agree : bit_at marks (length pairs) ≡ true → (w : List Bool) → length w ≡ now.width → values_of fs w ≡ values_of (functions_read steps step) w
  agree mark w wide =
      ap (λ l. values_of l w) (functions-map step.ins)
      ∙ values-map (λ x. function_at now (pair_at pairs x)) step.ins w
      ∙ map-agree_on (λ x. function_at now (pair_at pairs x) w) (λ x. signal_function steps x w) step.ins (λ x among.
      let lt : x < length pairs = All-contains (λ y. y < length pairs) step.ins x step-within among in
      let x_mark : bit_at marks x ≡ true = needed.reads place step x (omega arith) at (ap (bit_at marks) (sym many) ∙ mark) (contains_among step.ins x among) in
      function-is now (pair_at pairs x) (signal_function steps x) (l.have x lt x_mark).table w wide)
      ∙ sym (values-map (signal_function steps) step.ins w)
    where
      functions-map : (xs : List ℕ) → functions_at now (map (pair_at pairs) xs) ≡ map (λ x. function_at now (pair_at pairs x)) xs
      functions-map [] = refl
      functions-map (x ∷ xs) = ap (λ l. function_at now (pair_at pairs x) ∷ l) (functions-map xs)

  abbrev rows : List (List Lit)
  rows = step.cover.now.rows

  -- the tables of the turn
  pub step-turn : (mark : Bool) → bit_at marks (length pairs) ≡ mark → (if mark then cover_tables now.width fs rows else []) ≡ step_tables old.width steps marks place
  step-turn mark is = by mark is ∙ (λ i. tables_of_step old.width steps marks (old.width + place) (sym at i))
    where
      by : (mark : Bool) → bit_at marks (length pairs) ≡ mark → (if mark then cover_tables now.width fs rows else []) ≡ (if bit_at marks (old.width + place) then cover_tables old.width (functions_read steps step) rows else [])
      by true e =
          cover_tables-same now.width fs (functions_read steps step) (agree e) rows
          ∙ ap (λ k. cover_tables k (functions_read steps step) rows) l.turned.kept.width
          ∙ (λ i. if (sym e ∙ ap (bit_at marks) many) i then cover_tables old.width (functions_read steps step) rows else [])
      by false e = λ i. if (sym e ∙ ap (bit_at marks) many) i then cover_tables old.width (functions_read steps step) rows else []

  pub step-has : (new : SpaceData) (p : Pair) → Keeps now new → (bit_at marks (length pairs) ≡ true → HasFunction new p (cover_function fs step.cover.now.on rows)) → bit_at marks (length pairs) ≡ true → HasFunction new p (signal_function steps (length pairs))
  step-has new p kept has mark =
      same-function new p (cover_function fs step.cover.now.on rows) (signal_function steps (length pairs)) (λ w wide.
      ap (cover_value step.cover.now.on rows) (agree mark w (wide ∙ kept.width))
      ∙ step-function old.width steps place step ordered at w (wide ∙ kept.width ∙ l.turned.kept.width)
      ∙ ap (λ k. signal_function steps k w) (sym many)) (has mark)

  pub step-refused : (mark : Bool) → bit_at marks (length pairs) ≡ mark → place < length steps → fits now (if mark then cover_tables now.width fs rows else []) ≡ false → fits old (gathered (step_tables old.width steps marks) (length steps)) ≡ false
  step-refused mark is lt full =
      too_much-turn old now (step_tables old.width steps marks) place (length steps) lt l.turned (subst (λ ts. fits now ts ≡ false) (step-turn mark is) full)

-- ---- the pairs that a step reads

pub pairs-at : (s : SpaceData) (pairs : List Pair) (numbers : List ℕ) → All (IsPair s) pairs → All (λ x. x < length pairs) numbers → All (IsPair s) (map (pair_at pairs) numbers)
pairs-at s pairs [] are within = All-nil (IsPair s)
pairs-at s pairs (x ∷ numbers) are within =
    All-cons (IsPair s) (pair_at pairs x) (map (pair_at pairs) numbers) (are x no_pair (All-head (λ y. y < length pairs) x numbers within)) (pairs-at s pairs numbers are (All-tail (λ y. y < length pairs) x numbers within))

-- nothing is made
pub none-made : (s : SpaceData) (mark : Bool) (ts : List (List Bool)) → mark ≡ false → s.held ≡ with_tables s (if mark then ts else [])
none-made s mark ts e = sym (with_none s) ∙ (λ i. with_tables s (if sym e i then ts else []))

-- nothing is made at first
pub pairs-begin : (s : SpaceData) (turn : ℕ → List (List Bool)) (f : ℕ → WordFunction) (marks : List Bool) (pairs : List Pair) → IsSpace s → All (IsPair s) pairs → ((x : ℕ) → x < length pairs → bit_at marks x ≡ true → HasFunction s (pair_at pairs x) (f x)) → PairsLoop s s turn f marks pairs 0
pairs-begin s turn f marks pairs space are have = record { turned = turned-none s space; pairs_too = are; have = have }

-- the tables of an input at another moment
pub bit-turn : (old now : SpaceData) (marks : List Bool) (bit : ℕ) → now.width ≡ old.width → (if bit_at marks bit then both_tables now.width (bit_function bit) else []) ≡ first_tables old.width marks bit
bit-turn old now marks bit wide = ap (λ k. if bit_at marks bit then both_tables k (bit_function bit) else []) wide

-- ---- which signals are marked, one step further; and in the end exactly those that the root depends on

-- what is among some numbers below a bound is below it
among_below : (bound : ℕ) (numbers : List ℕ) (number : ℕ) → All (λ x. x < bound) numbers → is_among numbers number ≡ true → number < bound
among_below bound [] number below e = absurd (false≢true e)
among_below bound (x ∷ numbers) number below e =
    ⊎_elim
    (λ here. subst (λ n. n < bound) (eqb-true x number here) (All-head (λ y. y < bound) x numbers below))
    (λ there. among_below bound numbers number (All-tail (λ y. y < bound) x numbers below) there)
    (or_cases (nat_eq x number) (is_among numbers number) e)

-- an item is among its list
pub among_at : (numbers : List ℕ) (i d : ℕ) → i < length numbers → is_among numbers (get_or numbers i d) ≡ true
among_at numbers i d lt = list_any_at (λ (x : ℕ). nat_eq x (get_or numbers i d)) numbers i d lt (own-number (get_or numbers i d))

pub among_contains : (numbers : List ℕ) (number : ℕ) → is_among numbers number ≡ true → Contains numbers number
among_contains [] number e = absurd (false≢true e)
among_contains (x ∷ numbers) number e =
    ⊎_elim
    (λ here. (0, omega arith, eqb-true x number here))
    (λ there. let (k, lt, at) = among_contains numbers number there in (suc k, omega arith, at))
    (or_cases (nat_eq x number) (is_among numbers number) e)

-- the root alone
pub needed-root : (n : ℕ) (steps : List Step) (root : ℕ) (old marks : List Bool) → old ≡ replicate (n + length steps) false → length marks ≡ n + length steps → ((number : ℕ) → bit_at marks number ≡ (bit_at old number || is_among (root ∷ []) number)) → AreNeeded n steps root marks (length steps)
needed-root n steps root old marks fresh many marked =
    let exact : (number : ℕ) → bit_at marks number ≡ is_among (root ∷ []) number =
    λ number. marked number ∙ ap (λ b. b || is_among (root ∷ []) number) (ap (λ l. bit_at l number) fresh ∙ none_marked (n + length steps) number) in
    record {
      many = many;
      root_too = exact root ∙ or_left (nat_eq root root) false (own-number root);
      reads = λ j step number late at mark among. let within = slice_get_within steps j step at in absurd (omega (arith, within, late));
      needed = λ number mark. subst (IsNeeded n steps root) (one number (sym (exact number) ∙ mark)) itself;
    }
  where
    one : (number : ℕ) → is_among (root ∷ []) number ≡ true → root ≡ number
    one number e = ⊎_elim (λ h. eqb-true root number h) (λ h. absurd (false≢true h)) (or_cases (nat_eq root number) false e)

-- a step whose signal isn't marked marks nothing
pub needed-passed : (n : ℕ) (steps : List Step) (root : ℕ) (marks : List Bool) (place : ℕ) (step : Step) → slice_get steps place ≡ Some step → bit_at marks (n + place) ≡ false → AreNeeded n steps root marks (place + 1) → AreNeeded n steps root marks place
needed-passed n steps root marks place step at unmarked m = record {
  many = m.many;
  root_too = m.root_too;
  reads = λ j other number late other_at mark among.
      ⊎_elim
      (λ same. absurd (false≢true (sym unmarked ∙ ap (λ k. bit_at marks (n + k)) (sym same) ∙ mark)))
      (λ differs. m.reads j other number (omega (arith, late, differs)) other_at mark among)
      (cases_eq j place);
  needed = m.needed;
}

-- a step whose signal is marked marks what it reads
pub needed-more : (n : ℕ) (steps : List Step) (root : ℕ) (marks new : List Bool) (place : ℕ) (step : Step) → AreOrdered n steps → slice_get steps place ≡ Some step → bit_at marks (n + place) ≡ true → length new ≡ length marks → ((number : ℕ) → bit_at new number ≡ (bit_at marks number || is_among step.ins number)) → AreNeeded n steps root marks (place + 1) → AreNeeded n steps root new place
needed-more n steps root marks new place step ordered at mark count marked m = record {
  many = count ∙ m.many;
  root_too = marked root ∙ or_left _ _ m.root_too;
  reads = λ j other number late other_at new_mark among.
      let was : bit_at marks (n + j) ≡ true =
      ⊎_elim (λ was. was)
      (λ read. let below = among_below (n + place) step.ins (n + j) (ordered.before place step at) read in absurd (omega (arith, below, late)))
      (or_cases _ _ (sym (marked (n + j)) ∙ new_mark)) in
      ⊎_elim
      (λ same.
      let one : other ≡ step = same_Some other step (sym other_at ∙ ap (slice_get steps) same ∙ at) in
      marked number ∙ or_right _ _ (ap (λ (x : Step). is_among x.ins number) (sym one) ∙ among))
      (λ differs. marked number ∙ or_left _ _ (m.reads j other number (omega (arith, late, differs)) other_at was among))
      (cases_eq j place);
  needed = λ number new_mark.
      ⊎_elim
      (λ was. m.needed number was)
      (λ read. reads place step number at read (m.needed (n + place) mark))
      (or_cases _ _ (sym (marked number) ∙ new_mark));
}

-- ---- equal maps, item by item

pub at_number : (number : ℕ → Option ℕ) (signals xs : List ℕ) (i signal : ℕ) → map number signals ≡ map Some xs → slice_get signals i ≡ Some signal → number signal ≡ Some (get_or xs i 0)
at_number number [] xs i signal e at = absurd cc
at_number number (s ∷ signals) [] i signal e at = absurd cc
at_number number (s ∷ signals) (x ∷ xs) zero signal e at =
    let first : number s ≡ Some x = cc in ap number (sym (same_Some s signal at)) ∙ first
at_number number (s ∷ signals) (x ∷ xs) (suc i) signal e at =
    let rest : map number signals ≡ map Some xs = cc in at_number number signals xs i signal rest at

at_same : (f g : ℕ → Option ℕ) (xs ys : List ℕ) (i x y : ℕ) → map f xs ≡ map g ys → slice_get xs i ≡ Some x → slice_get ys i ≡ Some y → f x ≡ g y
at_same f g [] ys i x y e x_at y_at = absurd cc
at_same f g (a ∷ xs) [] i x y e x_at y_at = absurd cc
at_same f g (a ∷ xs) (b ∷ ys) zero x y e x_at y_at =
    let first : f a ≡ g b = cc in ap f (sym (same_Some a x x_at)) ∙ first ∙ ap g (same_Some b y y_at)
at_same f g (a ∷ xs) (b ∷ ys) (suc i) x y e x_at y_at =
    let rest : map f xs ≡ map g ys = cc in at_same f g xs ys i x y rest x_at y_at

same_length : (f g : ℕ → Option ℕ) (xs ys : List ℕ) → map f xs ≡ map g ys → length xs ≡ length ys
same_length f g xs ys e = sym (length-map xs f) ∙ ap length e ∙ length-map ys g

-- an item of a list at its place
pub item_at : {X : Type 0} (xs : List X) (x : X) → Contains xs x → (i : ℕ) × (i < length xs) × (slice_get xs i ≡ Some x)
item_at xs x (i, lt, is) = (i, lt, slice_get-get_or xs i x lt ∙ ap Some is)

-- ---- the assignment that numbers give

-- the bit of what a signal may be
abbrev pub value_of : List Step → List Bool → Option ℕ → Bool
value_of steps w None = false
value_of steps w (Some x) = signal_function steps x w

abbrev pub bits_of : List Step → (ℕ → Option ℕ) → List Bool → ℕ → Bool
bits_of steps number w signal = value_of steps w (number signal)

pub bits-map : (steps : List Step) (number : ℕ → Option ℕ) (w : List Bool) (signals xs : List ℕ) → map number signals ≡ map Some xs → map (bits_of steps number w) signals ≡ map (λ x. signal_function steps x w) xs
bits-map steps number w [] [] e = refl
bits-map steps number w [] (x ∷ xs) e = absurd cc
bits-map steps number w (s ∷ signals) [] e = absurd cc
bits-map steps number w (s ∷ signals) (x ∷ xs) e =
    let first : number s ≡ Some x = cc in
    let rest : map number signals ≡ map Some xs = cc in
    let here : bits_of steps number w s ≡ signal_function steps x w = ap (value_of steps w) first in
    let there = bits-map steps number w signals xs rest in
    λ i. here i ∷ there i

module _ (n : ℕ) (steps : List Step) (ordered : AreOrdered n steps) (w : List Bool) (wide : length w ≡ n) where
  abbrev v : ℕ → Bool
  v x = signal_function steps x w

  numbered-fits : (m : Model) (number : ℕ → Option ℕ) (ins outs : List ℕ) → IsNumbered n steps m number ins outs → Fits m (map v ins) (bits_of steps number w)
  numbered-fits m number ins outs is = record {
    inputs = bits-map steps number w m.inputs ins is.inputs;
    covers = λ k d lt.
        let cover : Cover = get_or m.covers k d in
        let there : Contains m.covers cover = Contains-from_slice_get m.covers k cover (slice_get-get_or m.covers k d lt) in
        let h : HasStep n steps number cover = is.covers cover there in
        let step : Step = h.step in
        ap (value_of steps w) h.out
        ∙ ap (λ k. bit_at (bits_after w steps) (k + h.place)) (sym wide)
        ∙ step-bit w steps h.place step h.at (subst (λ k. All (λ x. x < k + h.place) step.ins) (sym wide) (ordered.before h.place step h.at))
        ∙ ap (cover_value step.cover.now.on step.cover.now.rows) (sym (bits-map steps number w cover.ins step.ins h.ins))
        ∙ ap (λ (c : Cover). cover_value c.on c.rows (map (bits_of steps number w) cover.ins)) h.is;
  }

  numbered-gives : (m : Model) (number : ℕ → Option ℕ) (ins outs : List ℕ) → IsNumbered n steps m number ins outs → Gives m (map v ins) (map v outs)
  numbered-gives m number ins outs is =
      (bits_of steps number w, numbered-fits m number ins outs is, sym (bits-map steps number w m.outputs outs is.outputs))

  -- the signals before the steps have the bits of the word
  pub first-word : map v (range_with_len 0 n) ≡ w
  first-word =
      ap (λ k. map v (range_with_len 0 k)) (sym wide)
      ∙ map-range w 0 v (λ k lt. let e : 0 + k ≡ k = omega arith in ap v e ∙ bits-front w steps k lt)

-- ---- the numbers of the model at a place

abbrev pub number_at : (n : ℕ) (steps : List Step) (models : List Model) (ins outs : List ℕ) → AreNumbered n steps models ins outs → ℕ → ℕ → Option ℕ
number_at n steps [] ins outs is k signal = None
number_at n steps (m ∷ models) ins outs (number, between, first, rest) zero signal = number signal
number_at n steps (m ∷ models) ins outs (number, between, first, rest) (suc k) signal = number_at n steps models between outs rest k signal

-- these are numbers of the model at a place, whose inputs have the bits that the models before it give
pub record NumberedAt (n : ℕ) (steps : List Step) (models : List Model) (ins : List ℕ) (number : ℕ → Option ℕ) (k : ℕ) (m : Model) : Type 0 where
  pub ins_at : List ℕ
  pub outs_at : List ℕ
  pub numbered : IsNumbered n steps m number ins_at outs_at
  pub computes : AreOrdered n steps → (w : List Bool) → length w ≡ n → Computes (take k models) (map (λ x. signal_function steps x w) ins) (map (λ x. signal_function steps x w) ins_at)

module _ (n : ℕ) (steps : List Step) where
  pub numbered_at : (models : List Model) (ins outs : List ℕ) (is : AreNumbered n steps models ins outs) (k : ℕ) (m : Model) → slice_get models k ≡ Some m → NumberedAt n steps models ins (number_at n steps models ins outs is k) k m
  numbered_at [] ins outs is k m at = absurd cc
  numbered_at (first ∷ models) ins outs (number, between, here, rest) zero m at = record {
    ins_at = ins;
    outs_at = between;
    numbered = subst (λ x. IsNumbered n steps x number ins between) (same_Some first m at) here;
    computes = λ ordered w wide. refl;
  }
  numbered_at (first ∷ models) ins outs (number, between, here, rest) (suc k) m at =
      let later : NumberedAt n steps models between (number_at n steps models between outs rest k) k m = numbered_at models between outs rest k m at in
      record {
        ins_at = later.ins_at;
        outs_at = later.outs_at;
        numbered = later.numbered;
        computes = λ ordered w wide. (map (λ x. signal_function steps x w) between, numbered-gives n steps ordered w wide first number ins between here, later.computes ordered w wide);
      }

  -- the inputs of the first, of another, and the outputs of the last
  pub numbers-first : (models : List Model) (ins outs : List ℕ) (is : AreNumbered n steps models ins outs) (m : Model) → slice_get models 0 ≡ Some m → map (number_at n steps models ins outs is 0) m.inputs ≡ map Some ins
  numbers-first [] ins outs is m at = absurd cc
  numbers-first (first ∷ models) ins outs (number, between, here, rest) m at =
      ap (λ (x : Model). map number x.inputs) (sym (same_Some first m at)) ∙ here.inputs

  pub numbers-joined : (models : List Model) (ins outs : List ℕ) (is : AreNumbered n steps models ins outs) (k : ℕ) (m next : Model) → slice_get models k ≡ Some m → slice_get models (suc k) ≡ Some next → map (number_at n steps models ins outs is (suc k)) next.inputs ≡ map (number_at n steps models ins outs is k) m.outputs
  numbers-joined [] ins outs is k m next at after = absurd cc
  numbers-joined (first ∷ models) ins outs (number, between, here, rest) zero m next at after =
      numbers-first models between outs rest next after ∙ sym here.outputs ∙ ap (λ (x : Model). map number x.outputs) (same_Some first m at)
  numbers-joined (first ∷ models) ins outs (number, between, here, rest) (suc k) m next at after =
      numbers-joined models between outs rest k m next at after

  pub numbers-last : (models : List Model) (ins outs : List ℕ) (is : AreNumbered n steps models ins outs) (k : ℕ) (m : Model) → k + 1 ≡ length models → slice_get models k ≡ Some m → map (number_at n steps models ins outs is k) m.outputs ≡ map Some outs
  numbers-last [] ins outs is k m last at = absurd cc
  numbers-last (first ∷ []) ins outs (number, between, here, rest) zero m last at =
      ap (λ (x : Model). map number x.outputs) (sym (same_Some first m at)) ∙ here.outputs ∙ ap (map Some) (sym rest)
  numbers-last (first ∷ []) ins outs (number, between, here, rest) (suc k) m last at = absurd (omega (arith, last))
  numbers-last (first ∷ second ∷ models) ins outs (number, between, here, rest) zero m last at = absurd (omega (arith, last))
  numbers-last (first ∷ second ∷ models) ins outs (number, between, here, rest) (suc k) m last at =
      numbers-last (second ∷ models) between outs rest k m (omega (arith, last)) at

-- ---- which of them count

-- a signal of this number counts: it is an input of the first model, or a cover drives it
pub data IsCounted (n : ℕ) (steps : List Step) (models : List Model) (number : ℕ → ℕ → Option ℕ) (output : ℕ) : ℕ → Type 0 where
  input : (x : ℕ) → x < n → SignalCounts models output 0 x → number 0 x ≡ Some x → IsCounted n steps models number output x
  driven : (x j : ℕ) (s : Step) (k : ℕ) (m : Model) → x ≡ n + j → slice_get steps j ≡ Some s → slice_get models k ≡ Some m → Contains m.covers s.cover.now → map (number k) s.cover.now.ins ≡ map Some s.ins → number k s.cover.now.out ≡ Some x → SignalCounts models output k s.cover.now.out → IsCounted n steps models number output x

-- the last model and the signal of its output, which has this number
pub record HasRoot (models : List Model) (number : ℕ → ℕ → Option ℕ) (output root : ℕ) : Type 0 where
  pub place : ℕ
  pub model : Model
  pub last : place + 1 ≡ length models
  pub at : slice_get models place ≡ Some model
  pub signal : ℕ
  pub driven : slice_get model.outputs output ≡ Some signal
  pub is_root : number place signal ≡ Some root

module _ (models : List Model) (are : AreModels models) (n : ℕ) (wide : n ≡ width_of models) (steps : List Step) (outs : List ℕ) (is : AreNumbered n steps models (range_with_len 0 n) outs) (ordered : AreOrdered n steps) where
  abbrev pub number : ℕ → ℕ → Option ℕ
  number k signal = number_at n steps models (range_with_len 0 n) outs is k signal

  pub at_place : (k : ℕ) (m : Model) → slice_get models k ≡ Some m → NumberedAt n steps models (range_with_len 0 n) (number k) k m
  at_place k m at = numbered_at n steps models (range_with_len 0 n) outs is k m at

  pub model_at : (k : ℕ) (m : Model) → slice_get models k ≡ Some m → IsModel m
  model_at k m at = subst IsModel (get_or_from_slice_get models k m m at) (are.each k m (slice_get_within models k m at))

  -- the assignments that they give
  pub assigns_at : (k : ℕ) (m : Model) → slice_get models k ≡ Some m → Assigns n models k m (bits_of steps (number k))
  assigns_at k m at = record {
    at = at;
    fits = λ w long.
        let a : NumberedAt n steps models (range_with_len 0 n) (number k) k m = at_place k m at in (
          map (λ x. signal_function steps x w) a.ins_at,
          subst (λ first. Computes (take k models) first (map (λ x. signal_function steps x w) a.ins_at)) (first-word n steps ordered w long) (a.computes ordered w long),
          numbered-fits n steps ordered w long m (number k) a.ins_at a.outs_at a.numbered,
        );
  }

  -- an input of the first model has its own number
  first_number : (m : Model) (signal : ℕ) → slice_get models 0 ≡ Some m → Contains m.inputs signal → (signal < n) × (number 0 signal ≡ Some signal)
  first_number m signal at there =
      let (i, lt, i_at) = item_at m.inputs signal there in
      let count : length m.inputs ≡ n = sym (wide ∙ width models m at) in
      let own : signal ≡ i =
      sym (get_or_from_slice_get m.inputs i signal 0 i_at) ∙ ap (λ l. get_or l i 0) (model_at 0 m at).inputs_in_order
      ∙ get_or-range_with_len 0 (length m.inputs) i 0 lt ∙ (let e : 0 + i ≡ i = omega arith in e) in
      let within : i < n = omega (arith, lt, count) in (
        omega (arith, own, within),
        at_number (number 0) m.inputs (range_with_len 0 n) i signal (numbers-first n steps models (range_with_len 0 n) outs is m at) i_at
            ∙ ap Some (get_or-range_with_len 0 n i 0 within ∙ (let e : 0 + i ≡ i = omega arith in e) ∙ sym own),
      )
    where
      width : (ms : List Model) (m : Model) → slice_get ms 0 ≡ Some m → width_of ms ≡ length m.inputs
      width [] m at = absurd cc
      width (x ∷ ms) m at = ap (λ (y : Model). length y.inputs) (same_Some x m at)

  module _ (output : ℕ) (within : output < length outs) where
    abbrev pub root : ℕ
    root = get_or outs output 0

    abbrev pub Counted : ℕ → Type 0
    Counted x = IsCounted n steps models number output x

    from_cover : (k : ℕ) (m : Model) (signal x : ℕ) → slice_get models k ≡ Some m → Contains (map (λ (c : Cover). c.out) m.covers) signal → number k signal ≡ Some x → SignalCounts models output k signal → Counted x
    from_cover k m signal x at (i, lt, i_is) e counts =
        let inside : i < length m.covers = omega (arith, lt, length-map m.covers (λ (c : Cover). c.out)) in
        let none : Cover = record { ins = []; out = 0; on = false; rows = [] } in
        let cover : Cover = get_or m.covers i none in
        let out_is : cover.out ≡ signal = sym (get_or-map (λ (c : Cover). c.out) m.covers i none signal inside) ∙ i_is in
        let in_covers : Contains m.covers cover = Contains-from_slice_get m.covers i cover (slice_get-get_or m.covers i none inside) in
        let h : HasStep n steps (number k) cover = (at_place k m at).numbered.covers cover in_covers in
        let x_is : x ≡ n + h.place = same_Some x (n + h.place) (sym e ∙ ap (number k) (sym out_is) ∙ h.out) in
        driven x h.place h.step k m x_is h.at at
        (subst (Contains m.covers) (sym h.is) in_covers)
        (ap (λ (c : Cover). map (number k) c.ins) h.is ∙ h.ins)
        (ap (λ (c : Cover). number k c.out) h.is ∙ ap (number k) out_is ∙ e)
        (subst (SignalCounts models output k) (sym (ap (λ (c : Cover). c.out) h.is ∙ out_is)) counts)

    from_first : (m : Model) (signal x : ℕ) → slice_get models 0 ≡ Some m → Contains m.inputs signal → number 0 signal ≡ Some x → SignalCounts models output 0 signal → Counted x
    from_first m signal x at there e counts =
        let (lt, own) = first_number m signal at there in
        let same : signal ≡ x = same_Some signal x (sym own ∙ e) in
        input x (subst (λ y. y < n) same lt) (subst (SignalCounts models output 0) same counts) (subst (λ y. number 0 y ≡ Some y) same own)

    -- an input of another model counts as the output of the model before
    record FromBefore (k x : ℕ) : Type 0 where
      model : Model
      at : slice_get models k ≡ Some model
      signal : ℕ
      there : Contains (signals_of model) signal
      known : number k signal ≡ Some x
      counts : SignalCounts models output k signal

    from_before : (k : ℕ) (m : Model) (signal x : ℕ) → slice_get models (suc k) ≡ Some m → Contains m.inputs signal → number (suc k) signal ≡ Some x → SignalCounts models output (suc k) signal → FromBefore k x
    from_before k m signal x at there e counts =
        let last = slice_get_within models (suc k) m at in
        let before_in : k < length models = omega (arith, last) in
        let before : Model = get_or models k m in
        let before_at : slice_get models k ≡ Some before = slice_get-get_or models k m before_in in
        let joined = numbers-joined n steps models (range_with_len 0 n) outs is k before m before_at at in
        let (i, lt, i_at) = item_at m.inputs signal there in
        let many : length m.inputs ≡ length before.outputs = same_length (number (suc k)) (number k) m.inputs before.outputs joined in
        let i_in : i < length before.outputs = omega (arith, lt, many) in
        let from : ℕ = get_or before.outputs i 0 in
        let from_at : slice_get before.outputs i ≡ Some from = slice_get-get_or before.outputs i 0 i_in in
        let place : suc k ≡ k + 1 = omega arith in
        record {
          model = before;
          at = before_at;
          signal = from;
          there = (model_at k before before_at).outputs_driven i 0 i_in;
          known = sym (at_same (number (suc k)) (number k) m.inputs before.outputs i signal from joined i_at from_at) ∙ e;
          counts = by_position k i before m from signal before_at (ap (slice_get models) (sym place) ∙ at) from_at i_at (subst (λ p. SignalCounts models output p signal) place counts);
        }

    -- what counts in a model has a number that counts
    transport : (k : ℕ) (m : Model) (signal x : ℕ) → slice_get models k ≡ Some m → Contains (signals_of m) signal → number k signal ≡ Some x → SignalCounts models output k signal → Counted x
    transport zero m signal x at there e counts =
        ⊎_elim
        (λ an_input. from_first m signal x at an_input e counts)
        (λ by_a_cover. from_cover zero m signal x at by_a_cover e counts)
        (Contains-append_cases m.inputs (map (λ (c : Cover). c.out) m.covers) signal there)
    transport (suc k) m signal x at there e counts =
        ⊎_elim
        (λ an_input.
        let b : FromBefore k x = from_before k m signal x at an_input e counts in
        transport k b.model b.signal x b.at b.there b.known b.counts)
        (λ by_a_cover. from_cover (suc k) m signal x at by_a_cover e counts)
        (Contains-append_cases m.inputs (map (λ (c : Cover). c.out) m.covers) signal there)

    pub has_root : HasRoot models number output root
    has_root =
        let (place, last) = before_end (length models) are.some in
        let inside : place < length models = omega (arith, last) in
        let (model, at) = slice_get-some models place inside in
        let numbers = numbers-last n steps models (range_with_len 0 n) outs is place model last at in
        let many : length outs ≡ length model.outputs = sym (length-map outs Some) ∙ ap length (sym numbers) ∙ length-map model.outputs (number place) in
        let out_in : output < length model.outputs = omega (arith, within, many) in
        let out_at = slice_get-get_or model.outputs output 0 out_in in
        record {
          place = place;
          model = model;
          last = last;
          at = at;
          signal = get_or model.outputs output 0;
          driven = out_at;
          is_root = at_number (number place) model.outputs outs output (get_or model.outputs output 0) numbers out_at;
        }
      where
        before_end : (k : ℕ) → 0 < k → (p : ℕ) × (p + 1 ≡ k)
        before_end zero lt = absurd (omega (arith, lt))
        before_end (suc p) lt = (p, omega arith)

    -- what the root depends on counts
    pub needed-counted : (x : ℕ) → IsNeeded n steps root x → Counted x
    needed-counted _ itself =
        let r : HasRoot models number output root = has_root in
        transport r.place r.model r.signal root r.at
        (All-contains (λ s. Contains (signals_of r.model) s) r.model.outputs r.signal (model_at r.place r.model r.at).outputs_driven (Contains-from_slice_get r.model.outputs output r.signal r.driven))
        r.is_root (is_output r.place r.model r.signal r.last r.at r.driven)
    needed-counted x (reads j s _ s_at among more) = by (n + j) refl (needed-counted (n + j) more)
      where
        by : (y : ℕ) → y ≡ n + j → Counted y → Counted x
        by y y_is (input _ lt counts own) = absurd (omega (arith, y_is, lt))
        by y y_is (driven _ j2 s2 k m y_is2 s2_at at in_covers ins own counts) =
            let same_place : j2 ≡ j = omega (arith, y_is, y_is2) in
            let same : s2 ≡ s = same_Some s2 s (sym s2_at ∙ ap (slice_get steps) same_place ∙ s_at) in
            let (i, lt, i_at) = item_at s2.ins x (subst (λ (z : Step). Contains z.ins x) (sym same) (among_contains s.ins x among)) in
            let cover : Cover = s2.cover.now in
            let many : length cover.ins ≡ length s2.ins = sym (length-map cover.ins (number k)) ∙ ap length ins ∙ length-map s2.ins Some in
            let i_in : i < length cover.ins = omega (arith, lt, many) in
            let signal : ℕ = get_or cover.ins i 0 in
            let signal_at : slice_get cover.ins i ≡ Some signal = slice_get-get_or cover.ins i 0 i_in in
            let read : Contains cover.ins signal = Contains-from_slice_get cover.ins i signal signal_at in
            let known : number k signal ≡ Some x = at_number (number k) cover.ins s2.ins i signal ins signal_at ∙ ap Some (get_or_from_slice_get s2.ins i x 0 i_at) in
            let all_driven = All-contains (λ (c : Cover). All (λ z. Contains (signals_of m) z) c.ins) m.covers cover (model_at k m at).reads_driven in_covers in
            transport k m signal x at (All-contains (λ z. Contains (signals_of m) z) cover.ins signal all_driven read) known
            (by_cover k m cover signal at in_covers read counts)

    -- and what counts has a number that is marked
    module _ (marks : List Bool) (needed : AreNeeded n steps root marks 0) where
      pub counted-marked : (k signal : ℕ) → SignalCounts models output k signal → (x : ℕ) × (number k signal ≡ Some x) × (bit_at marks x ≡ true)
      counted-marked _ _ (is_output place m signal last at out_at) =
          (root, at_number (number place) m.outputs outs output signal (numbers-last n steps models (range_with_len 0 n) outs is place m last at) out_at, needed.root_too)
      counted-marked _ _ (by_cover place m cover signal at in_covers read counts) =
          let (y, known, mark) = counted-marked place cover.out counts in
          let h : HasStep n steps (number place) cover = (at_place place m at).numbered.covers cover in_covers in
          let y_is : y ≡ n + h.place = same_Some y (n + h.place) (sym known ∙ h.out) in
          let (i, lt, i_at) = item_at cover.ins signal read in
          let many : length cover.ins ≡ length h.step.ins = sym (length-map cover.ins (number place)) ∙ ap length h.ins ∙ length-map h.step.ins Some in (
            get_or h.step.ins i 0,
            at_number (number place) cover.ins h.step.ins i signal h.ins i_at,
            needed.reads h.place h.step (get_or h.step.ins i 0) (omega arith) h.at (subst (λ z. bit_at marks z ≡ true) y_is mark) (among_at h.step.ins i 0 (omega (arith, lt, many))),
          )
      counted-marked _ _ (by_position place k m next signal from at after out_at in_at counts) =
          let (y, known, mark) = counted-marked (place + 1) from counts in
          let e : place + 1 ≡ suc place = omega arith in
          let joined = numbers-joined n steps models (range_with_len 0 n) outs is place m next at (ap (slice_get models) (sym e) ∙ after) in
          (y, sym (at_same (number (suc place)) (number place) next.inputs m.outputs k from signal joined in_at out_at) ∙ ap (λ p. number p from) (sym e) ∙ known, mark)
