-- Products of signals, and how a signal that some of them have is taken out.
use Rattle.std.specs.Prelude.{ℕ, ◌==◌, ◌&&◌, ◌<◌, List, [], ◌∷◌, ◌++◌, Bool, true, false, not, if◌then◌else◌, length, map, sum_by, Option, Some, None}
use Rattle.std.specs.List.{filter_map, list_any}
use Rattle.ncl_network.specs.declared.network.SignalSource.{SignalSource}
use Rattle.ncl_network.specs.declared.network.SignalSource.TheVariants.{Input, Node as FromNode, Const}
use Rattle.ncl_network.specs.declared.network.Signal.{Signal}
use Rattle.ncl_decomp.specs.declared.factoring.Frame.{Frame}

-- whether two sources are one input, or one node
abbrev pub same_source : SignalSource → SignalSource → Bool
same_source (Input i) (Input j) = i == j
same_source (Input i) (FromNode j) = false
same_source (Input i) (Const bit) = false
same_source (FromNode i) (Input j) = false
same_source (FromNode i) (FromNode j) = i == j
same_source (FromNode i) (Const bit) = false
same_source (Const bit) from = false

-- whether two signals are the same bit of one input or node
abbrev pub same_signal : Signal → Signal → Bool
same_signal s t =
    same_source s.from t.from && (if s.inverted then t.inverted else not t.inverted)

-- a signal, unless it is this one
abbrev pub other_than : Signal → Signal → Option Signal
other_than literal signal = if same_signal signal literal then None else Some signal

-- whether a product has a signal
abbrev pub has : Signal → List Signal → Bool
has literal product = list_any (λ signal. same_signal signal literal) product

-- a product without one of its signals
abbrev pub without : Signal → List Signal → List Signal
without literal product = filter_map (λ signal. other_than literal signal) product

-- products with one signal more
abbrev pub under : Signal → List (List Signal) → List (List Signal)
under literal sum = map (λ product. literal ∷ product) sum

-- how many signals products have
abbrev pub total : List (List Signal) → ℕ
total sum = sum_by (λ product. length product) sum

-- a product has a signal
abbrev pub IsFilled : List Signal → Type 0
IsFilled product = 0 < length product

-- whether a product has none
abbrev pub is_empty : List Signal → Bool
is_empty [] = true
is_empty (signal ∷ product) = false

-- the whole sum, where products are left under frames: outside a frame there are its others, and inside its literal
-- is in each product
abbrev pub whole : List Frame → List (List Signal) → List (List Signal)
whole [] sum = sum
whole (frame ∷ frames) sum = frame.others ++ under frame.literal (whole frames sum)
