-- The graph of the covers has the paths of the dependencies.
use Rattle.ncl_blif.proofs.Terms.{All, All-filter_map, All-from_recursion, All-map, Bool, Contains, Contains-filter_map, Contains-filter_map_of, Contains-get_or, Cover, Depends, IsGraph, Leads, List, Model, Some, [], ap, arc, arith, cond, dependency_graph, driver_place, eq-eqb, eqb-true, false, filter_map, further, get_or, get_or-map, get_or_default, length, length-map, map, map-map, position_from, position_from-found, reads, refl, subst, suc, successors, sym, through, true, without_rows, ℕ, ◌+◌, ◌<◌, ◌==◌, ◌^◌, ◌∙◌, ◌∷◌, ◌≡◌}

-- the first place that passes is one, and passes
pub position_from-passes : {X : Type 0} (test : X → Bool) (i : ℕ) (xs : List X) (k : ℕ) → position_from test i xs ≡ Some k → (n : ℕ) × (k ≡ i + n) × (n < length xs) × ((d : X) → test (get_or xs n d) ≡ true)
position_from-passes test i [] k h = absurd cc
position_from-passes {X} test i (x ∷ xs) k h =
    let Found : Type 0 = (n : ℕ) × (k ≡ i + n) × (n < length (x ∷ xs)) × ((d : X) → test (get_or (x ∷ xs) n d) ≡ true) in
    elim (test x) as (λ b. test x ≡ b → cond b (Some i) (position_from test (i + 1) xs) ≡ Some k → Found) [
      | true ↦ λ yes e. let same : i ≡ k = cc in (0, omega arith, omega arith, λ d. yes)
      | false ↦ λ no e.
          let (n, at, within, passes) = position_from-passes test (i + 1) xs k e in
          (suc n, omega arith, omega arith, passes)
    ] refl h

position_from-map : {X Y : Type 0} (test : Y → Bool) (f : X → Y) (i : ℕ) (xs : List X) → position_from test i (map f xs) ≡ position_from (λ x. test (f x)) i xs
position_from-map test f i [] = refl
position_from-map test f i (x ∷ xs) = ap (cond (test (f x)) (Some i)) (position_from-map test f (i + 1) xs)

-- the rows of covers don't matter to their graph
pub graph-without_rows : (covers : List Cover) → dependency_graph (map without_rows covers) ≡ dependency_graph covers
graph-without_rows covers =
    map-map (λ (cover : Cover). filter_map (driver_place (map without_rows covers)) cover.ins) without_rows covers
    ∙ (λ i. map (λ (cover : Cover). filter_map (λ signal. position_from-map (λ (c : Cover). c.out == signal) without_rows 0 covers i) cover.ins) covers)

-- the covers make a graph
pub IsGraph-dependency_graph : (covers : List Cover) → length covers < 2 ^ 32 → IsGraph (dependency_graph covers)
IsGraph-dependency_graph covers few =
    let lengths : length (dependency_graph covers) ≡ length covers = length-map covers (λ cover. filter_map (driver_place covers) cover.ins) in
    let below : ℕ → Type 0 = λ j. j < length (dependency_graph covers) in
    let closed : All (All below) (dependency_graph covers) =
    All-map (All below) (λ cover. filter_map (driver_place covers) cover.ins) covers (λ k d within.
    let ins = (get_or covers k d).ins in
    All-from_recursion {X = ℕ} below (filter_map (driver_place covers) ins) (All-filter_map (driver_place covers) below (λ signal place found.
    let (n, at, inside, passes) = position_from-passes (λ cover. cover.out == signal) 0 covers place found in omega arith) ins)) in
    record { few = omega arith; closed = closed }

-- the signal that the cover at a place drives
abbrev pub out_at : List Cover → ℕ → Cover → ℕ
out_at covers i d = (get_or covers i d).out

-- no two covers drive one signal
abbrev pub OutsDiffer : List Cover → Type 0
OutsDiffer covers = (i j : ℕ) (d : Cover) → i < length covers → j < length covers → out_at covers i d ≡ out_at covers j d → i ≡ j

-- an arc of the graph: a signal that the cover reads, which the other drives
pub arc_reads : (covers : List Cover) (i j : ℕ) (d : Cover) → i < length covers → Contains (successors (dependency_graph covers) i) j
    → (j < length covers) × Contains (get_or covers i d).ins (out_at covers j d)
arc_reads covers i j d within leads =
    let edges = λ (cover : Cover). filter_map (driver_place covers) cover.ins in
    let at : successors (dependency_graph covers) i ≡ edges (get_or covers i d) = get_or-map edges covers i d [] within in
    let (signal, among, found) = Contains-filter_map (driver_place covers) (get_or covers i d).ins j (subst (λ js. Contains js j) at leads) in
    let (n, is, inside, passes) = position_from-passes (λ cover. cover.out == signal) 0 covers j found in
    let same : n ≡ j = omega arith in
    let drives : out_at covers j d ≡ signal = subst (λ k. out_at covers k d ≡ signal) same (eqb-true (out_at covers n d) signal (passes d)) in
    (omega arith, subst (λ s. Contains (get_or covers i d).ins s) (sym drives) among)

-- a path of the graph is a dependency of what the covers at its ends drive
pub Depends-from_Leads : (model : Model) (i j : ℕ) (d : Cover) → i < length model.covers → Leads (dependency_graph model.covers) i j
    → Depends model (out_at model.covers i d) (out_at model.covers j d)
Depends-from_Leads model i j d within (arc a) =
    let (inside, reads_it) = arc_reads model.covers i j d within a in
    reads (get_or model.covers i d) (out_at model.covers j d) (Contains-get_or model.covers i d within) reads_it
Depends-from_Leads model i j d within (further {j = k} a path) =
    let (inside, reads_it) = arc_reads model.covers i k d within a in
    through (get_or model.covers i d) (out_at model.covers k d) (out_at model.covers j d) (Contains-get_or model.covers i d within) reads_it
    (Depends-from_Leads model k j d inside path)

-- a cover that reads what another drives has an arc to it
pub arc_of_reads : (covers : List Cover) → OutsDiffer covers → (cover : Cover) (i j : ℕ) (d : Cover) → i < length covers → j < length covers
    → Contains covers cover → out_at covers i d ≡ cover.out → Contains cover.ins (out_at covers j d)
    → Contains (successors (dependency_graph covers) i) j
arc_of_reads covers differ cover i j d within inside (k, lt, at) same among =
    let edges = λ (c : Cover). filter_map (driver_place covers) c.ins in
    let here : get_or covers k d ≡ cover = get_or_default covers k d cover lt ∙ at in
    let place : i ≡ k = differ i k d within lt (same ∙ ap (λ (c : Cover). c.out) (sym here)) in
    let is : get_or covers i d ≡ cover = ap (λ n. get_or covers n d) place ∙ here in
    let (n, found) = position_from-found (λ c. c.out == out_at covers j d) 0 covers j d inside (eq-eqb (out_at covers j d) (out_at covers j d) refl) in
    let (m, n_is, m_in, passes) = position_from-passes (λ c. c.out == out_at covers j d) 0 covers n found in
    let m_is : m ≡ j = differ m j d m_in inside (eqb-true (out_at covers m d) (out_at covers j d) (passes d)) in
    let n_is_j : n ≡ j = omega arith in
    let gives : driver_place covers (out_at covers j d) ≡ Some j = found ∙ ap Some n_is_j in
    subst (λ js. Contains js j) (sym (get_or-map edges covers i d [] within ∙ ap edges is))
    (Contains-filter_map_of (driver_place covers) cover.ins (out_at covers j d) j among gives)

-- what depends on something is driven by a cover
pub driver_of_dependent : (model : Model) (s t : ℕ) → Depends model s t → (d : Cover) → (k : ℕ) × (k < length model.covers) × (out_at model.covers k d ≡ s)
driver_of_dependent model s t (reads cover signal (k, lt, at) among) d = (k, lt, ap (λ (c : Cover). c.out) (get_or_default model.covers k d cover lt ∙ at))
driver_of_dependent model s t (through cover signal other (k, lt, at) among rest) d = (k, lt, ap (λ (c : Cover). c.out) (get_or_default model.covers k d cover lt ∙ at))

-- a dependency of what two covers drive is a path of the graph
pub Leads-from_Depends : (model : Model) → OutsDiffer model.covers → (s t : ℕ) → Depends model s t → (i j : ℕ) (d : Cover)
    → i < length model.covers → j < length model.covers → out_at model.covers i d ≡ s → out_at model.covers j d ≡ t
    → Leads (dependency_graph model.covers) i j
Leads-from_Depends model differ s t (reads cover signal inc among) i j d within inside from to =
    arc (arc_of_reads model.covers differ cover i j d within inside inc from (subst (λ x. Contains cover.ins x) (sym to) among))
Leads-from_Depends model differ s t (through cover signal other inc among rest) i j d within inside from to =
    let (k, k_in, k_is) = driver_of_dependent model signal other rest d in
    further (arc_of_reads model.covers differ cover i k d within k_in inc from (subst (λ x. Contains cover.ins x) (sym k_is) among))
    (Leads-from_Depends model differ signal other rest k j d k_in inside k_is to)
