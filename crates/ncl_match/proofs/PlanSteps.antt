-- How the pairs of inputs, and then those of a plan, are made.
pub use Rattle.ncl_match.proofs.Terms.{[], All, All-member, All-set, AllPairs, AreDone, Bool, DataCell, Err, HasFunction, HaveInputs, IsCase, IsKnown, IsPair, IsSpace, Keeps, List, MakesPair, NetId, Nets, Pair, Rails, Some, SpaceData, WordFunction, ap, append-nil, arith, bit_function, both_tables, cases_eq, cell_tables, false, false≢true, fits, function_at, gathered, get_or, get_or-set_other, get_or-set_same, handed_on, if◌then◌else◌, inl, input_tables, inr, inverse, is_marked, is_needed, is_on, is_value, keeps_along, length, length-set, list_any_at, made_of, map, map-same, nat_eq, no_rails, pair_at, plan_tables, rail_at, rail_nets, refl, same_Some, set, slice_get, slice_get_read, subst, suc, sym, true, with_none, with_tables, ℕ, ◌++◌, ◌+◌, ◌<◌, ◌∙◌, ◌≡◌, ◌≢◌, ◌⊎◌}
use Rattle.ncl_match.proofs.ClosedLaws.{rails-once}
use Rattle.ncl_match.proofs.PairLaws.{Filling, Turned, filling-begins, filling-passed, function-is, has-kept, has-swapped, pairs-kept, same-function, same-tables, too_much-turn, turned-next}
use Rattle.ncl_match.proofs.MarkLaws.{own-number}

-- ---- the functions of the rails of the inputs, one bit further

abbrev no_pair : Pair
no_pair = record { one = record { place = 0 }; zero = record { place = 0 } }

-- what holds where some bits are done
abbrev pub InputLoop : SpaceData → SpaceData → List Rails → List Bool → List Pair → List Pair → ℕ → Type 0
InputLoop old now inputs marks first pairs place =
    Filling old now first pairs place (length inputs) (HaveInputs old now inputs marks pairs place)

pub inputs-begin : (old : SpaceData) (inputs : List Rails) (marks : List Bool) (pairs : List Pair) → IsSpace old → All (IsPair old) pairs → InputLoop old old inputs marks pairs pairs 0
inputs-begin old inputs marks pairs space are =
    filling-begins old pairs (length inputs) (HaveInputs old old inputs marks pairs 0) space are
    (record { held = sym (with_none old); have = λ b r lt needed. absurd (omega (arith, lt)) })

-- the bits done before are those before the next
before-next : (place b : ℕ) → b < place + 1 → b ≢ place → b < place
before-next place b lt differs = omega (arith, lt, differs)

module _ (old now : SpaceData) (inputs : List Rails) (marks : List Bool) (first pairs : List Pair) (place : ℕ) (lt : place < length inputs) (loop : InputLoop old now inputs marks first pairs place) where
  abbrev rails : Rails
  rails = get_or inputs place no_rails

  abbrev input_turn : ℕ → List (List Bool)
  input_turn = input_tables old.width inputs marks

  turned : Turned old now (gathered input_turn place)
  turned = record { kept = loop.kept; held = loop.done.held }

  -- a bit that isn't needed
  pub input-passed : is_needed marks rails ≡ false → InputLoop old now inputs marks first pairs (place + 1)
  input-passed unneeded =
      filling-passed old now first pairs place (length inputs) (HaveInputs old now inputs marks pairs place) (HaveInputs old now inputs marks pairs (place + 1)) lt
      (record { held = loop.done.held ∙ ap (with_tables old) (sym (ap (λ l. gathered input_turn place ++ l) none ∙ append-nil (gathered input_turn place)) ∙ ap (gathered input_turn) more); have = have })
      loop
    where
      none : input_turn place ≡ []
      none = λ i. if unneeded i then both_tables old.width (bit_function place) else []

      more : suc place ≡ place + 1
      more = omega arith

      have : (b : ℕ) (r : Bool) → b < place + 1 → is_needed marks (get_or inputs b no_rails) ≡ true → HasFunction now (pair_at pairs (rail_at inputs b r)) (λ word. is_value r (bit_function b word))
      have b r below needed =
          elim (cases_eq b place) [
            | inl same ↦ absurd (false≢true (sym unneeded ∙ ap (λ k. is_needed marks (get_or inputs k no_rails)) (sym same) ∙ needed))
            | inr differs ↦ loop.done.have b r (before-next place b below differs) needed
          ]

  -- a bit that is needed
  module _ (needed : is_needed marks rails ≡ true) where
    own_tables : both_tables old.width (bit_function place) ≡ input_turn place
    own_tables = λ i. if sym needed i then both_tables old.width (bit_function place) else []

    now_tables : both_tables now.width (bit_function place) ≡ input_turn place
    now_tables = ap (λ n. both_tables n (bit_function place)) loop.kept.width ∙ own_tables

    pub input-refused : fits now (both_tables now.width (bit_function place)) ≡ false → fits old (gathered input_turn (length inputs)) ≡ false
    input-refused full = too_much-turn old now input_turn place (length inputs) lt turned (subst (λ ts. fits now ts ≡ false) now_tables full)

    pub input-more : (new : SpaceData) (p q : Pair) → AllPairs (λ x y. x ≢ y) (rail_nets inputs) → rails.zero.0 < length first → rails.one.0 < length first → Keeps now new → q.one ≡ p.zero → q.zero ≡ p.one
        → MakesPair now new p (bit_function place) (both_tables now.width (bit_function place)) → InputLoop old new inputs marks first (set (set pairs rails.zero.0 q) rails.one.0 p) (place + 1)
    input-more new p q differ zero_in one_in k one_is zero_is made = record {
      kept = keeps_along old now new loop.kept k;
      pairs_too = All-set (IsPair new) (set pairs rails.zero.0 q) rails.one.0 p made.has.pair (All-set (IsPair new) pairs rails.zero.0 q has_not.pair (pairs-kept now new pairs loop.kept.space k loop.pairs_too));
      many = length-set (set pairs rails.zero.0 q) rails.one.0 p ∙ length-set pairs rails.zero.0 q ∙ loop.many;
      within = omega (arith, lt);
      done = record { held = (turned-next old now new input_turn place turned k (made.held ∙ ap (with_tables now) now_tables)).held; have = have };
    }
      where
        has_not : HasFunction new q (inverse (bit_function place))
        has_not = has-swapped new p q (bit_function place) one_is zero_is made.has

        other_rail : (b : ℕ) (r s : Bool) → b < length inputs → b ≢ place → rail_at inputs b r ≢ rail_at inputs place s
        other_rail b r s inside differs e = differs (rails-once inputs differ b place r s inside lt e).0

        sides : rails.zero.0 ≢ rails.one.0
        sides e = false≢true (rails-once inputs differ place place false true lt lt e).1

        own : (r : Bool) → HasFunction new (pair_at (set (set pairs rails.zero.0 q) rails.one.0 p) (rail_at inputs place r)) (λ word. is_value r (bit_function place word))
        own true =
            subst (λ x. HasFunction new x (bit_function place)) (sym (get_or-set_same (set pairs rails.zero.0 q) rails.one.0 p no_pair (let many = length-set pairs rails.zero.0 q in let all = loop.many in omega (arith, many, all, one_in)))) made.has
        own false =
            subst (λ x. HasFunction new x (inverse (bit_function place)))
            (sym (get_or-set_other (set pairs rails.zero.0 q) rails.one.0 rails.zero.0 p no_pair sides ∙ get_or-set_same pairs rails.zero.0 q no_pair (let all = loop.many in omega (arith, all, zero_in)))) has_not

        have : (b : ℕ) (r : Bool) → b < place + 1 → is_needed marks (get_or inputs b no_rails) ≡ true → HasFunction new (pair_at (set (set pairs rails.zero.0 q) rails.one.0 p) (rail_at inputs b r)) (λ word. is_value r (bit_function b word))
        have b r below some =
            elim (cases_eq b place) [
              | inl same ↦
                  subst (λ k. HasFunction new (pair_at (set (set pairs rails.zero.0 q) rails.one.0 p) (rail_at inputs k r)) (λ word. is_value r (bit_function k word))) (sym same) (own r)
              | inr differs ↦
                  let before : b < place = before-next place b below differs in
                  let inside : b < length inputs = omega (arith, before, lt) in
                  let kept : get_or (set (set pairs rails.zero.0 q) rails.one.0 p) (rail_at inputs b r) no_pair ≡ get_or pairs (rail_at inputs b r) no_pair =
                  get_or-set_other (set pairs rails.zero.0 q) rails.one.0 (rail_at inputs b r) p no_pair (other_rail b r true inside differs)
                  ∙ get_or-set_other pairs rails.zero.0 (rail_at inputs b r) q no_pair (other_rail b r false inside differs) in
                  subst (λ x. HasFunction new x (λ word. is_value r (bit_function b word))) (sym kept)
                  (has-kept now new (pair_at pairs (rail_at inputs b r)) (λ word. is_value r (bit_function b word)) k (loop.done.have b r before some))
            ]

-- ---- the functions of the nets of a plan, one cell further

reads-own : (ins : List NetId) (i : ℕ) (d : NetId) → i < length ins → is_on ins (get_or ins i d).0 ≡ true
reads-own ins i d lt = list_any_at (λ (x : NetId). nat_eq x.0 (get_or ins i d).0) ins i d lt (own-number (get_or ins i d).0)

module _ (old now : SpaceData) (plan : List DataCell) (marks : List Bool) (first pairs : List Pair) (inputs : List ℕ) (v : List Bool → Nets) (place : ℕ) (cell : DataCell) (at : slice_get plan place ≡ Some cell) (case : IsCase old plan marks first inputs v) (k : Keeps old now) (done : AreDone old now plan marks pairs inputs v place) where
  abbrev turn : ℕ → List (List Bool)
  turn = plan_tables old.width v marks plan

  -- what is known after the cell was known before, or is its net
  known-before : (net : ℕ) → IsKnown plan inputs (place + 1) net → IsKnown plan inputs place net ⊎ (cell.out.0 ≡ net)
  known-before net (inl input) = inl (inl input)
  known-before net (inr (j, lt, drives)) =
      elim (cases_eq j place) [
        | inl same ↦ let one : drives.cell ≡ cell = same_Some drives.cell cell (sym drives.at ∙ ap (slice_get plan) same ∙ at) in inr (ap (λ (x : DataCell). x.out.0) (sym one) ∙ drives.out)
        | inr differs ↦ inl (inr (j, omega (arith, lt, differs), drives))
      ]

  -- and then it isn't its net
  known-apart : (net : ℕ) → IsKnown plan inputs place net → cell.out.0 ≢ net
  known-apart net (inl input) e = case.evaluated.apart place net input (record { cell = cell; at = at; out = e })
  known-apart net (inr (j, lt, drives)) e =
      let same = case.evaluated.once j place net drives (record { cell = cell; at = at; out = e }) in omega (arith, lt, same)

  -- ---- a cell whose net isn't marked makes nothing
  module _ (unmarked : is_marked marks cell.out.0 ≡ false) where
    pub done-passed : AreDone old now plan marks pairs inputs v (place + 1)
    done-passed =
        let none : turn place ≡ [] = (λ i. cell_tables old.width v marks (at i)) ∙ (λ i. if unmarked i then both_tables old.width (λ word. v word cell.out.0) else []) in
        let more : suc place ≡ place + 1 = omega arith in
        record {
          held = done.held ∙ ap (with_tables old) (sym (ap (λ l. gathered turn place ++ l) none ∙ append-nil (gathered turn place)) ∙ ap (gathered turn) more);
          have = λ net known mark.
              elim (known-before net known) [
                | inl before ↦ done.have net before mark
                | inr same ↦ absurd (false≢true (sym unmarked ∙ ap (is_marked marks) same ∙ mark))
              ];
        }

  -- ---- a cell whose net is marked makes its function and the complement
  module _ (marked : is_marked marks cell.out.0 ≡ true) where
    abbrev made_function : WordFunction
    made_function word = made_of cell.kind (map (λ (x : NetId). function_at now (pair_at pairs x.0) word) cell.ins.items)

    same : (w : List Bool) → length w ≡ now.width → made_function w ≡ v w cell.out.0
    same w wide =
        let pins : All (λ (x : NetId). function_at now (pair_at pairs x.0) w ≡ v w x.0) cell.ins.items =
        λ i d lt.
        let x : NetId = get_or cell.ins.items i d in
        let known = case.evaluated.in_order place cell at i d lt in
        let mark = case.closed place cell x.0 at marked (reads-own cell.ins.items i d lt) in
        function-is now (pair_at pairs x.0) (λ word. v word x.0) (done.have x.0 known mark).table w wide in
        ap (made_of cell.kind) (map-same (λ (x : NetId). function_at now (pair_at pairs x.0) w) (λ (x : NetId). v w x.0) cell.ins.items (All-member _ cell.ins.items pins))
        ∙ sym (case.evaluated.gives place cell w at (wide ∙ k.width))

    tables : both_tables now.width made_function ≡ turn place
    tables =
        same-tables now.width made_function (λ word. v word cell.out.0) same
        ∙ ap (λ n. both_tables n (λ word. v word cell.out.0)) k.width
        ∙ (λ i. if sym marked i then both_tables old.width (λ word. v word cell.out.0) else [])
        ∙ (λ i. cell_tables old.width v marks (sym at i))

    pub refused : place < length plan → fits now (both_tables now.width made_function) ≡ false → fits old (gathered turn (length plan)) ≡ false
    refused lt full = too_much-turn old now turn place (length plan) lt (record { kept = k; held = done.held }) (subst (λ ts. fits now ts ≡ false) tables full)

    pub done-more : (new : SpaceData) (p : Pair) → Keeps now new → cell.out.0 < length pairs → MakesPair now new p made_function (both_tables now.width made_function) → AreDone old new plan marks (set pairs cell.out.0 p) inputs v (place + 1)
    done-more new p l within made = record {
      held = (turned-next old now new turn place (record { kept = k; held = done.held }) l (made.held ∙ ap (with_tables now) tables)).held;
      have = λ net known mark.
          elim (known-before net known) [
            | inl before ↦
                let other : get_or (set pairs cell.out.0 p) net no_pair ≡ get_or pairs net no_pair = kept-pair net (known-apart net before) in
                subst (λ q. HasFunction new q (λ word. v word net)) (sym other) (has-kept now new (pair_at pairs net) (λ word. v word net) l (done.have net before mark))
            | inr is ↦
                let own : get_or (set pairs cell.out.0 p) net no_pair ≡ p = ap (λ n. get_or (set pairs cell.out.0 p) n no_pair) (sym is) ∙ get_or-set_same pairs cell.out.0 p no_pair within in
                let has = same-function new p made_function (λ word. v word cell.out.0) (λ w wide. same w (wide ∙ l.width)) made.has in
                subst (λ q. HasFunction new q (λ word. v word net)) (sym own) (subst (λ n. HasFunction new p (λ word. v word n)) is has)
          ];
    }
      where
        kept-pair : (net : ℕ) → cell.out.0 ≢ net → get_or (set pairs cell.out.0 p) net no_pair ≡ get_or pairs net no_pair
        kept-pair net differs = get_or-set_other pairs cell.out.0 net p no_pair (λ e. differs (sym e))

-- the nets of the cells that are done, whatever the values are
abbrev pub AllDone : SpaceData → SpaceData → List DataCell → List Bool → List Pair → List Pair → ℕ → Type 0
AllDone old now plan marks first pairs place =
    (inputs : List ℕ) (v : List Bool → Nets) → IsCase old plan marks first inputs v → AreDone old now plan marks pairs inputs v place

-- what holds where some cells are done
abbrev pub PlanLoop : SpaceData → SpaceData → List DataCell → List Bool → List Pair → List Pair → ℕ → Type 0
PlanLoop old now plan marks first pairs place =
    Filling old now first pairs place (length plan) (AllDone old now plan marks first pairs place)

pub loop-begins : (old : SpaceData) (plan : List DataCell) (marks : List Bool) (pairs : List Pair) → IsSpace old → All (IsPair old) pairs → PlanLoop old old plan marks pairs pairs 0
loop-begins old plan marks pairs space are =
    filling-begins old pairs (length plan) (AllDone old old plan marks pairs pairs 0) space are
    (λ inputs v case. record { held = sym (with_none old); have = λ net known mark. elim known [ inl input ↦ case.have net input mark | inr (j, lt, drives) ↦ absurd (omega (arith, lt)) ] })

pub loop-passed : (old now : SpaceData) (plan : List DataCell) (marks : List Bool) (first pairs : List Pair) (place : ℕ) (cell : DataCell) → slice_get plan place ≡ Some cell → place < length plan → is_marked marks cell.out.0 ≡ false → PlanLoop old now plan marks first pairs place → PlanLoop old now plan marks first pairs (place + 1)
loop-passed old now plan marks first pairs place cell at lt unmarked l =
    filling-passed old now first pairs place (length plan) (AllDone old now plan marks first pairs place) (AllDone old now plan marks first pairs (place + 1)) lt
    (λ inputs v case. done-passed old now plan marks first pairs inputs v place cell at case l.kept (l.done inputs v case) unmarked)
    l

pub loop-more : (old now new : SpaceData) (plan : List DataCell) (marks : List Bool) (first pairs : List Pair) (place : ℕ) (cell : DataCell) (p : Pair) → slice_get plan place ≡ Some cell → place < length plan → is_marked marks cell.out.0 ≡ true → cell.out.0 < length pairs → Keeps now new
    → MakesPair now new p (λ word. made_of cell.kind (map (λ (x : NetId). function_at now (pair_at pairs x.0) word) cell.ins.items)) (both_tables now.width (λ word. made_of cell.kind (map (λ (x : NetId). function_at now (pair_at pairs x.0) word) cell.ins.items)))
    → PlanLoop old now plan marks first pairs place → PlanLoop old new plan marks first (set pairs cell.out.0 p) (place + 1)
loop-more old now new plan marks first pairs place cell p at lt marked within k made l = record {
  kept = keeps_along old now new l.kept k;
  pairs_too = All-set (IsPair new) pairs cell.out.0 p made.has.pair (pairs-kept now new pairs l.kept.space k l.pairs_too);
  many = length-set pairs cell.out.0 p ∙ l.many;
  within = omega (arith, lt);
  done = λ inputs v case. done-more old now plan marks first pairs inputs v place cell at case l.kept (l.done inputs v case) marked new p k within made;
}
