-- The covers of a model as a directed graph.
use Rattle.std.specs.Prelude.{ℕ, List, Option, map, ◌==◌}
use Rattle.std.specs.List.{position_from, filter_map}
use Rattle.ncl_blif.specs.declared.model.Cover.{Cover}

-- the place of the first cover that drives a signal, if one does
abbrev pub driver_place : List Cover → ℕ → Option ℕ
driver_place covers signal = position_from (λ cover. cover.out == signal) 0 covers

-- each cover leads to the covers that drive the signals that it reads
abbrev pub dependency_graph : List Cover → List (List ℕ)
dependency_graph covers = map (λ cover. filter_map (driver_place covers) cover.ins) covers
