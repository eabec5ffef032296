-- The signals that have to be 1 for a row to match.
use Rattle.std.specs.Prelude.{List, not, Option, Some, None}
use Rattle.std.specs.List.{zip, filter_map}
use Rattle.ncl_blif.specs.declared.model.Lit.{Lit}
use Rattle.ncl_blif.specs.declared.model.Lit.TheVariants.{Zero, One, Dash}
use Rattle.ncl_network.specs.declared.network.Signal.{Signal}

-- the inverse of a signal
abbrev pub turned : Signal → Signal
turned signal = record { from = signal.from; inverted = not signal.inverted }

-- what has to be 1 for a literal to let a signal through: it, its inverse, or nothing
abbrev pub literal_of : Signal → Lit → Option Signal
literal_of signal Zero = Some (turned signal)
literal_of signal One = Some signal
literal_of signal Dash = None

-- the signals that all have to be 1 for a row to match
abbrev pub literals_of : List Signal → List Lit → List Signal
literals_of signals row = filter_map (λ pair. literal_of pair.0 pair.1) (zip signals row)
