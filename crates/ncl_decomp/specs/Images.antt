-- What the signals of a network are, where each node of it is a signal of another network.
use Rattle.std.specs.Prelude.{List, false, if◌then◌else◌}
use Rattle.std.specs.List.{slice_index_or}
use Rattle.ncl_network.specs.declared.network.SignalSource.{SignalSource}
use Rattle.ncl_network.specs.declared.network.SignalSource.TheVariants.{Input, Node as FromNode, Const}
use Rattle.ncl_network.specs.declared.network.Signal.{Signal}
use Rattle.ncl_decomp.specs.Rows.{turned}

-- a source: an input or a constant stays, and a node is the signal with its number
abbrev pub image_of_source : List Signal → SignalSource → Signal
image_of_source images (Input i) = record { from = Input i; inverted = false }
image_of_source images (FromNode k) = slice_index_or images k (record { from = Const false; inverted = false })
image_of_source images (Const bit) = record { from = Const bit; inverted = false }

-- a signal: its source, or the inverse of that
abbrev pub image_of : List Signal → Signal → Signal
image_of images signal =
    if signal.inverted then turned (image_of_source images signal.from) else image_of_source images signal.from
