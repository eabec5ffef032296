-- How one cover folds: dead rows go, then columns that don't matter.
use Rattle.std.specs.Prelude.{ℕ, List, [], ◌∷◌, Bool, true, false, not, ◌&&◌, cond, map, All}
use Rattle.std.specs.List.{slice_index_or, list_any, list_all, zip, enumerate_from}
use Rattle.ncl_blif.specs.Meaning.{lit_matches, row_matches}
use Rattle.ncl_blif.specs.declared.model.Lit.{Lit}
use Rattle.ncl_blif.specs.declared.model.Lit.TheVariants.{Zero, One, Dash}
use Rattle.ncl_network.specs.declared.network.Signal.{Signal}
use Rattle.ncl_network.specs.declared.fold.Folded.{Folded}
use Rattle.ncl_network.specs.declared.fold.Folded.TheVariants.{Signal as IntoSignal, Node as IntoNode}
use Rattle.ncl_blif.specs.Model.{weight_of_rows}
use Rattle.ncl_network.specs.Network.{signal_value, node_value, is_constant, is_dash, IsSource, IsNode}

-- the items that a mask keeps
abbrev pub select : {X : Type 0} → List Bool → List X → List X
select [] xs = []
select (kept ∷ mask) [] = []
select (kept ∷ mask) (x ∷ xs) = cond kept (x ∷ select mask xs) (select mask xs)

-- whether a signal is a constant that a literal doesn't let through
abbrev pub clashes : Lit → Signal → Bool
clashes lit signal = is_constant signal.from && not (lit_matches lit (signal_value [] [] signal))

-- whether no constant among the signals contradicts a row
abbrev pub is_live : List Signal → List Lit → Bool
is_live signals row = list_all (λ pair. not (clashes pair.0 pair.1)) (zip row signals)

-- whether some live row has no dash in a column
abbrev pub is_asked : List (List Lit) → List Bool → ℕ → Bool
is_asked rows live column =
    list_any (λ pair. pair.1 && not (is_dash (slice_index_or pair.0 column Dash))) (zip rows live)

-- for each column, whether it is kept: its signal is no constant, and some live row has no dash in it
abbrev pub kept_columns : List Signal → List (List Lit) → List Bool → List Bool
kept_columns signals rows live =
    map (λ pair. not (is_constant pair.1.from) && is_asked rows live pair.0) (enumerate_from 0 signals)

-- the bit that rows give by a sum of products: of the ON-set 1 exactly where some row matches, of the OFF-set 0
abbrev pub two_level : Bool → List (List Lit) → List Bool → Bool
two_level on rows bits = cond on (list_any (row_matches bits) rows) (not (list_any (row_matches bits) rows))

-- whether a literal asks for a 1, and for a 0
abbrev pub is_one : Lit → Bool
is_one Zero = false
is_one One = true
is_one Dash = false

abbrev pub is_zero : Lit → Bool
is_zero Zero = true
is_zero One = false
is_zero Dash = false

-- the bit of what a cover folds into
abbrev pub folded_value : List Bool → List Bool → Folded → Bool
folded_value word nodes (IntoSignal signal) = signal_value word nodes signal
folded_value word nodes (IntoNode node) = node_value word nodes node

-- what is a node is one that covers fold into
abbrev pub IsFolded : Folded → Type 0
IsFolded (IntoSignal signal) = Unit {0}
IsFolded (IntoNode node) = IsNode node

-- there are the sources that it reads, where there are so many inputs and nodes
abbrev pub HasSources : ℕ → ℕ → Folded → Type 0
HasSources inputs count (IntoSignal signal) = IsSource inputs count signal.from
HasSources inputs count (IntoNode node) = All (λ signal. IsSource inputs count signal.from) node.ins

-- the weight of the rows that are left
abbrev pub weight_of_folded : Folded → ℕ
weight_of_folded (IntoSignal signal) = 0
weight_of_folded (IntoNode node) = weight_of_rows node.rows
