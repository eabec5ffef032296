-- What drives the signals of a model.
use Rattle.std.specs.Prelude.{ℕ, List, Option}
use Rattle.std.specs.List.{position}
use Rattle.std.specs.Option.{option_or, option_map}
use Rattle.std.specs.Str.{bytes_eq}
use Rattle.std.specs.BTreeMap.{get_by}
use Rattle.std.specs.Cmp.Lexicographic.{slice_cmp}
use Rattle.std.specs.Ordering.{nat_cmp}
use Rattle.ncl_blif.specs.declared.drivers.Driver.{Driver}
use Rattle.ncl_blif.specs.declared.drivers.Driver.TheVariants.{Input, Cover}
use Rattle.ncl_blif.specs.declared.drivers.Drivers.{Drivers}

-- what drives a signal, if it is kept
abbrev pub driver_at : Drivers → List ℕ → Option Driver
driver_at drivers name = get_by (λ key. slice_cmp nat_cmp name key.now) drivers.places

-- what drives a signal where these are the inputs, and these the signals of the covers, in order
abbrev pub driver_among : List (List ℕ) → List (List ℕ) → List ℕ → Option Driver
driver_among inputs outs name =
    option_or (option_map (λ place. Input place) (position (bytes_eq name) inputs))
    (option_map (λ place. Cover place) (position (bytes_eq name) outs))
