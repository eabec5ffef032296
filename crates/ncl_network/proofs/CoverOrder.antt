-- The covers of a model in an order in which each stands after those that it reads.
use Rattle.ncl_network.proofs.Terms.{All, All-head, All-nil, All-tail, AllPairs, Contains, Contains-append_cases, Contains-filter_map_of, Cover, Depends-from_Leads, IfSome, IsModel, IsNode, IsOnCycle, IsOrder, IsSome, IsSource, IsWalked, List, Model, Node, None, Option, Signal, Some, [], ap, arith, cond, cut_at, dependency_graph, driver_place, drop, eq-eqb, eqb-true, false, filter_map, get_or, get_or-map, get_or-map-range_with_len, get_or-range_with_len, get_or-set_other, get_or_default, input_signal, leads_within, length, length-le-sum_by, length-map, length-set, length-take, lt-ltb, ltb-true, map, nat_lt, position_from-found, position_from-passes, refl, signal_value, signals_of, size_of_model, slice_get, slice_get-get_or, slice_set, subst, suc, successors, sum-map, sum_by, sum_by-cons, sum_by-set, sym, take, true, weight_at, weight_of_model, weight_of_rows, zero, zero-add, ℕ, ⊎_elim, ◌+◌, ◌<◌, ◌==◌, ◌^◌, ◌∙◌, ◌∷◌, ◌≡◌, ◌≢◌, ◌≤◌}
use Rattle.std.specs.Prelude.{sum}

-- ---- how much there is

-- a model has no more covers than its size
pub covers_few : (model : Model) → length model.covers ≤ size_of_model model
covers_few model =
    omega (arith, length-le-sum_by (λ cover. 1 + length cover.ins + weight_of_rows cover.rows) (λ cover. omega arith) model.covers)

covers_weight : (covers : List Cover) → sum_by (λ cover. weight_of_rows cover.rows) covers ≤ sum_by (λ cover. 1 + length cover.ins + weight_of_rows cover.rows) covers
covers_weight [] = omega arith
covers_weight (cover ∷ covers) =
    omega (arith, sum_by-cons (λ cover. weight_of_rows cover.rows) cover covers, sum_by-cons (λ cover. 1 + length cover.ins + weight_of_rows cover.rows) cover covers, covers_weight covers)

-- its rows weigh no more
pub weight_small : (model : Model) → weight_of_model model ≤ size_of_model model
weight_small model = omega (arith, covers_weight model.covers)

-- ---- what is done once

same_sums : (f g : ℕ → ℕ) (xs : List ℕ) → All (λ x. f x ≡ g x) xs → sum_by f xs ≡ sum_by g xs
same_sums f g [] same = refl
same_sums f g (x ∷ xs) same =
    omega (arith, sum_by-cons f x xs, sum_by-cons g x xs, All-head (λ x. f x ≡ g x) x xs same, same_sums f g xs (All-tail (λ x. f x ≡ g x) x xs same))

-- what stands at different places of a list sums up to no more than the list
places_sum : (numbers places : List ℕ) → AllPairs (λ i j. i ≢ j) places → All (λ i. i < length numbers) places → sum_by (λ i. get_or numbers i 0) places ≤ sum numbers
places_sum numbers [] once within = omega arith
places_sum numbers (place ∷ places) once within =
    let here : place < length numbers = All-head (λ i. i < length numbers) place places within in
    let less : List ℕ = slice_set numbers place 0 in
    let others : All (λ i. get_or numbers i 0 ≡ get_or less i 0) places = λ k d lt.
    let differs : place ≢ get_or places k d = once zero (suc k) d (omega arith) (omega arith) in
    sym (get_or-set_other numbers place (get_or places k d) 0 0 (λ e. differs (sym e))) in
    let rest = places_sum less places (λ i j d before lt. once (suc i) (suc j) d (omega arith) (omega arith)) (subst (λ n. All (λ i. i < n) places) (sym (length-set numbers place 0)) (All-tail (λ i. i < length numbers) place places within)) in
    omega (arith, sum_by-cons (λ i. get_or numbers i 0) place places, same_sums (λ i. get_or numbers i 0) (λ i. get_or less i 0) places others, rest, sum_by-set (λ n. n) numbers place 0 0 here)

-- covers that are done once weigh no more than all covers
pub done_weight : (covers : List Cover) (places : List ℕ) → AllPairs (λ i j. i ≢ j) places → All (λ i. i < length covers) places → sum_by (weight_at covers) places ≤ sum_by (λ cover. weight_of_rows cover.rows) covers
done_weight covers places once within =
    let weights : List ℕ = map (λ cover. weight_of_rows cover.rows) covers in
    omega (arith, places_sum weights places once (subst (λ n. All (λ i. i < n) places) (sym (length-map covers (λ cover. weight_of_rows cover.rows))) within), sum-map (λ cover. weight_of_rows cover.rows) covers)

-- ---- what is known

-- something holds of the inputs and of what the covers drive that are done
pub record HoldsOf (model : Model) (IsKnown : ℕ → Type 0) (done : List ℕ) : Type 0 where
  pub inputs : (i : ℕ) → i < length model.inputs → IsKnown i
  pub covers : (place : ℕ) (cover : Cover) → Contains done place → slice_get model.covers place ≡ Some cover → IsKnown cover.out

known_of : (model : Model) (known : ℕ → Option Signal) (nodes : List Node) (done : List ℕ) → IsWalked model known nodes done → HoldsOf model (λ name. IsSome (known name)) done
known_of model known nodes done walked = record { inputs = walked.inputs; covers = walked.covers }

-- a signal that a cover drives has a driver among the covers
driven_by : (covers : List Cover) (name : ℕ) → Contains (map (λ cover. cover.out) covers) name → (d : Cover) → (j : ℕ) × (j < length covers) × ((get_or covers j d).out ≡ name) × (driver_place covers name ≡ Some j)
driven_by covers name (k, within, at) d =
    let counts = length-map covers (λ cover. cover.out) in
    let in_covers : k < length covers = omega arith in
    let is : (get_or covers k d).out ≡ name = sym (get_or-map (λ cover. cover.out) covers k d name in_covers) ∙ at in
    let (n, found) = position_from-found (λ cover. cover.out == name) 0 covers k d in_covers (eq-eqb (get_or covers k d).out name is) in
    let (m, n_is, m_in, passes) = position_from-passes (λ cover. cover.out == name) 0 covers n found in
    let same : n ≡ m = omega arith in
    (m, m_in, eqb-true (get_or covers m d).out name (passes d), found ∙ ap Some same)

-- what holds of the inputs and of what the covers drive that are done, as `IsKnown`, holds of a signal that is an input or
-- is driven by such a cover
known_if : (model : Model) (IsKnown : ℕ → Type 0) (done : List ℕ) (name : ℕ) → IsModel model → HoldsOf model IsKnown done → ((j : ℕ) → j < length model.covers → driver_place model.covers name ≡ Some j → Contains done j) → Contains (signals_of model) name → Cover → IsKnown name
known_if model IsKnown done name fine holds is_done there d =
    ⊎_elim
    (λ (i, within, at).
    let count : ℕ = length model.inputs in
    let is : i ≡ name =
    sym (zero-add i) ∙ sym (get_or-range_with_len 0 count i name within)
    ∙ ap (λ l. get_or l i name) (sym fine.inputs_in_order) ∙ at in
    subst IsKnown is (holds.inputs i within))
    (λ driven.
    let (j, within, is, found) = driven_by model.covers name driven d in
    subst IsKnown is (holds.covers j (get_or model.covers j d) (is_done j within found) (slice_get-get_or model.covers j d within)))
    (Contains-append_cases model.inputs (map (λ cover. cover.out) model.covers) name there)

-- it holds of what a cover in its turn reads
ready : (model : Model) (IsKnown : ℕ → Type 0) (before : List ℕ) (place : ℕ) (cover : Cover) → IsModel model → ((j : ℕ) → Contains (successors (dependency_graph model.covers) place) j → Contains before j) → place < length model.covers → get_or model.covers place cover ≡ cover → HoldsOf model IsKnown before → All IsKnown cover.ins
ready model IsKnown before place cover fine after within at holds k d lt =
    let covers : List Cover = model.covers in
    let name : ℕ = get_or cover.ins k d in
    let edges : Cover → List ℕ = λ cover. filter_map (driver_place covers) cover.ins in
    let among : Contains cover.ins name = (k, lt, get_or_default cover.ins k name d lt) in
    let driven : Contains (signals_of model) name = subst (λ c. All (λ name. Contains (signals_of model) name) c.ins) at (fine.reads_driven place cover within) k d lt in
    known_if model IsKnown before name fine holds
    (λ j in_covers found.
    after j (subst (λ js. Contains js j) (sym (get_or-map edges covers place cover [] within ∙ ap edges at)) (Contains-filter_map_of (driver_place covers) cover.ins name j among found)))
    driven cover

-- once all covers are done it holds of each signal
pub holds_of_all : (model : Model) (IsKnown : ℕ → Type 0) (order : List ℕ) (name : ℕ) → IsModel model → IsOrder (dependency_graph model.covers) order → HoldsOf model IsKnown order → Contains (signals_of model) name → IsKnown name
holds_of_all model IsKnown order name fine ordered holds there =
    known_if model IsKnown order name fine holds
    (λ j within found.
    ordered.every j (omega (arith, length-map model.covers (λ cover. filter_map (driver_place model.covers) cover.ins))))
    there none
  where
    none : Cover
    none = record { ins = []; out = 0; on = false; rows = [] }

pub all_known : (model : Model) (known : ℕ → Option Signal) (nodes : List Node) (order : List ℕ) (name : ℕ) → IsModel model → IsOrder (dependency_graph model.covers) order → IsWalked model known nodes order → Contains (signals_of model) name → IsSome (known name)
all_known model known nodes order name fine ordered walked there =
    holds_of_all model (λ n. IsSome (known n)) order name fine ordered (known_of model known nodes order walked) there

-- there are as many places in an order as covers
pub length-order : (model : Model) (order : List ℕ) → IsOrder (dependency_graph model.covers) order → length order ≡ length model.covers
length-order model order ordered =
    ordered.as_many ∙ length-map model.covers (λ cover. filter_map (driver_place model.covers) cover.ins)

pub places-order : (model : Model) (order : List ℕ) → IsOrder (dependency_graph model.covers) order → All (λ i. i < length model.covers) order
places-order model order ordered =
    subst (λ n. All (λ i. i < n) order) (length-map model.covers (λ cover. filter_map (driver_place model.covers) cover.ins)) ordered.places

-- the covers of a model have no cycle
pub no_cycle : (model : Model) → IsModel model → (i : ℕ) → IsOnCycle (dependency_graph model.covers) i → ⊥
no_cycle model fine i cycle =
    let none : Cover = record { ins = []; out = 0; on = false; rows = [] } in
    let counts = length-map model.covers (λ cover. filter_map (driver_place model.covers) cover.ins) in
    let within : i < length model.covers = omega (arith, leads_within (dependency_graph model.covers) i i cycle) in
    fine.no_cycle (get_or model.covers i none).out (Depends-from_Leads model i i none within cycle)

-- ---- the inputs alone

pub IsWalked-none : (model : Model) (known : ℕ → Option Signal) → IsModel model → ((q : ℕ) → known q ≡ cond (nat_lt q (length model.inputs)) (Some (input_signal q)) None) → IsWalked model known [] []
IsWalked-none model known fine is = record {
  inputs = λ i below.
      subst IsSome (sym (is i ∙ ap (λ b. cond b (Some (input_signal i)) None) (lt-ltb i (length model.inputs) below))) refl;
  covers = λ place cover (k, lt, at) there. absurd (omega arith);
  sources = λ name.
      by_test name (λ signal. IsSource (length model.inputs) 0 signal.from) (λ below. below);
  values = λ word bits fits name.
      by_test name (λ signal. signal_value word [] signal ≡ bits name) (λ below.
      ap (λ w. get_or w name false) (sym fits.inputs ∙ ap (map bits) fine.inputs_in_order)
      ∙ get_or-map-range_with_len bits 0 (length model.inputs) name name false below (zero-add name));
  each = All-nil IsNode;
  reads_before = tt;
  few = omega arith;
  weight = omega arith;
}
  where
    by_test : (name : ℕ) (P : Signal → Type 0) → (name < length model.inputs → P (input_signal name)) → IfSome (known name) P
    by_test name P holds =
        subst (λ o. IfSome o P) (sym (is name))
        (elim (nat_lt name (length model.inputs)) as (λ b. nat_lt name (length model.inputs) ≡ b → IfSome (cond b (Some (input_signal name)) None) P) [
          | true ↦ λ e. holds (ltb-true name (length model.inputs) e)
          | false ↦ λ e. tt
        ] refl)

-- ---- a turn of the walk

module _ (model : Model) (fine : IsModel model) (order : List ℕ) (ordered : IsOrder (dependency_graph model.covers) order) (i : ℕ) (turn : i < length order) where
  pub turn_within : get_or order i 0 < length model.covers
  turn_within = places-order model order ordered i 0 turn

  pub turn_holds : (IsKnown : ℕ → Type 0) (cover : Cover) → cover ≡ get_or model.covers (get_or order i 0) cover → HoldsOf model IsKnown (take i order) → All IsKnown cover.ins
  turn_holds IsKnown cover at holds =
      ready model IsKnown (take i order) (get_or order i 0) cover fine (ordered.after (take i order) (get_or order i 0) (drop (i + 1) order) (cut_at order i 0 turn)) turn_within (sym at) holds

  pub turn_ready : (known : ℕ → Option Signal) (nodes : List Node) (cover : Cover) → cover ≡ get_or model.covers (get_or order i 0) cover → IsWalked model known nodes (take i order) → All (λ name. IsSome (known name)) cover.ins
  turn_ready known nodes cover at walked =
      turn_holds (λ n. IsSome (known n)) cover at (known_of model known nodes (take i order) walked)

  pub turn_few : (known : ℕ → Option Signal) (nodes : List Node) → IsWalked model known nodes (take i order) → length nodes < 2 ^ 32
  turn_few known nodes walked =
      omega (arith, walked.few, length-take i order, length-order model order ordered, covers_few model, fine.small)

  pub turn_done : (cover : Cover) → cover ≡ get_or model.covers (get_or order i 0) cover → slice_get model.covers (get_or order i 0) ≡ Some cover
  turn_done cover at = slice_get-get_or model.covers (get_or order i 0) cover turn_within ∙ ap Some (sym at)
