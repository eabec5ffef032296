-- The faults of a model by names, and those of its graph.
use Rattle.ncl_blif.proofs.Terms.{Cover, Depends, IsCyclic, IsDistinct, IsFirstCycle, IsOnCycle, List, NamedCover, NamedModel, Some, ap, arith, bytes_eq, dependency_graph, drivers_of, get_or, get_or-map, get_or_from_slice_get, leads_within, length, length-map, map-map, numbered_cover, numbered_model, option_map, rowless_covers, signal_number, slice_get-get_or, slice_get_within, subst, sym, without_rows, ℕ, ◌<◌, ◌∙◌, ◌≡◌}
use Rattle.ncl_blif.proofs.DependenceLaws.{out_at, graph-without_rows, Depends-from_Leads, Leads-from_Depends}
use Rattle.ncl_blif.proofs.NumberedLaws.{no_cover, no_numbers, OutsDiffer-numbered}

-- the graph of a model's covers
abbrev pub graph_of : NamedModel → List (List ℕ)
graph_of model = dependency_graph (numbered_model model).covers

-- as many places as covers
pub length-graph_of : (model : NamedModel) → length (graph_of model) ≡ length model.covers
length-graph_of model = length-map (numbered_model model).covers _ ∙ length-map model.covers (numbered_cover model)

-- what the numbered cover at a place drives
out_is : (model : NamedModel) (place : ℕ) (d : NamedCover) → place < length model.covers → out_at (numbered_model model).covers place no_numbers ≡ signal_number model (get_or model.covers place d).out
out_is model place d within = ap (λ (cover : Cover). cover.out) (get_or-map (numbered_cover model) model.covers place d no_numbers within)

-- a place on a cycle is that of a cover whose output depends on itself
pub IsCyclic-from_graph : (model : NamedModel) (place : ℕ) → IsOnCycle (graph_of model) place → IsCyclic model place
IsCyclic-from_graph model place cycle =
    let many = length-graph_of model in
    let inside = leads_within (graph_of model) place place cycle in
    let within : place < length model.covers = omega arith in
    let numbered : place < length (numbered_model model).covers = omega (arith, length-map model.covers (numbered_cover model)) in
    let is = out_is model place no_cover within in
    let depends = Depends-from_Leads (numbered_model model) place place no_numbers numbered cycle in
    (get_or model.covers place no_cover, slice_get-get_or model.covers place no_cover within, subst (λ s. Depends (numbered_model model) s s) is depends)

-- and the other way round
pub IsOnCycle-from_cyclic : (model : NamedModel) → IsDistinct bytes_eq (drivers_of model) → (place : ℕ) → IsCyclic model place → IsOnCycle (graph_of model) place
IsOnCycle-from_cyclic model differ place (cover, at, depends) =
    let within : place < length model.covers = slice_get_within model.covers place cover at in
    let numbered : place < length (numbered_model model).covers = omega (arith, length-map model.covers (numbered_cover model)) in
    let here : get_or model.covers place cover ≡ cover = get_or_from_slice_get model.covers place cover cover at in
    let is = out_is model place cover within ∙ ap (λ (c : NamedCover). signal_number model c.out) here in
    Leads-from_Depends (numbered_model model) (OutsDiffer-numbered model differ) _ _ depends place place no_numbers numbered numbered is is

-- the graph that is made of the covers by numbers, without their rows
pub graph_is : (draft : NamedModel) (g : List (List ℕ)) (covers : List Cover) → g ≡ dependency_graph covers → covers ≡ rowless_covers draft → g ≡ graph_of draft
graph_is draft g covers made numbered =
    made ∙ ap dependency_graph (numbered ∙ sym (map-map without_rows (numbered_cover draft) draft.covers))
    ∙ graph-without_rows (numbered_model draft).covers

-- a graph without a cycle has no cover whose output depends on itself
pub none_cyclic : (draft : NamedModel) → IsDistinct bytes_eq (drivers_of draft) → (g : List (List ℕ)) → g ≡ graph_of draft
    → ((i : ℕ) → IsOnCycle g i → ⊥) → (place : ℕ) → IsCyclic draft place → ⊥
none_cyclic draft differ g is none place cyclic = none place (subst (λ h. IsOnCycle h place) (sym is) (IsOnCycle-from_cyclic draft differ place cyclic))

-- the first place on a cycle is that of the first cover whose output depends on itself
pub first_cyclic : (draft : NamedModel) → IsDistinct bytes_eq (drivers_of draft) → (g : List (List ℕ)) → g ≡ graph_of draft
    → (place : ℕ) → IsOnCycle g place → ((j : ℕ) → j < place → IsOnCycle g j → ⊥)
    → (cover : NamedCover) → cover ≡ get_or draft.covers place cover → IsFirstCycle draft cover.line
first_cyclic draft differ g is place cycle earlier cover at =
    let here : IsOnCycle (graph_of draft) place = subst (λ h. IsOnCycle h place) is cycle in
    let within : place < length draft.covers = omega (arith, leads_within (graph_of draft) place place here, length-graph_of draft) in
    record {
      place = place;
      begins = ap (option_map (λ (c : NamedCover). c.line)) (slice_get-get_or draft.covers place cover within ∙ ap Some (sym at));
      cyclic = IsCyclic-from_graph draft place here;
      none_before = λ k lower cyclic. earlier k lower (subst (λ h. IsOnCycle h k) (sym is) (IsOnCycle-from_cyclic draft differ k cyclic));
    }

-- a place on a cycle is that of a cover
pub cycle_within : (draft : NamedModel) (g : List (List ℕ)) → g ≡ graph_of draft → (place : ℕ) → IsOnCycle g place → place < length draft.covers
cycle_within draft g is place cycle = omega (arith, leads_within (graph_of draft) place place (subst (λ h. IsOnCycle h place) is cycle), length-graph_of draft)
