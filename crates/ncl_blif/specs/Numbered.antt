-- A model whose signals go by their names, with numbers in their place.
use Rattle.std.specs.Prelude.{ℕ, List, [], Bool, length, map}
use Rattle.std.specs.List.{list_any, position_or_len, range_with_len}
use Rattle.std.specs.Str.{bytes_eq}
use Rattle.ncl_blif.specs.declared.model.Cover.{Cover}
use Rattle.ncl_blif.specs.declared.model.Model.{Model}
use Rattle.ncl_blif.specs.Named.{NamedModel, NamedCover, drivers_of}

-- whether a signal has a driver
abbrev pub is_driven : NamedModel → List ℕ → Bool
is_driven model name = list_any (bytes_eq name) (drivers_of model)

-- the number of a signal: its place among those that have a driver, from 0
abbrev pub signal_number : NamedModel → List ℕ → ℕ
signal_number model name = position_or_len (bytes_eq name) (drivers_of model)

abbrev pub numbered_cover : NamedModel → NamedCover → Cover
numbered_cover model cover = record {
  ins = map (signal_number model) cover.ins;
  out = signal_number model cover.out;
  on = cover.on;
  rows = cover.rows;
}

-- a cover without its rows
abbrev pub without_rows : Cover → Cover
without_rows cover = record cover { rows = [] }

-- the covers by numbers, without their rows
abbrev pub rowless_covers : NamedModel → List Cover
rowless_covers model = map (λ cover. without_rows (numbered_cover model cover)) model.covers

-- the model with numbers in place of names: the inputs are 0, 1, 2 and so on, and the covers' signals the
-- numbers after these, in order
abbrev pub numbered_model : NamedModel → Model
numbered_model model = record {
  name = model.name;
  inputs = range_with_len 0 (length model.inputs);
  outputs = map (λ output. signal_number model output.signal) model.outputs;
  covers = map (numbered_cover model) model.covers;
}
