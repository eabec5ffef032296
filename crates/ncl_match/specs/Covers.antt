-- The functions of rows and covers of a model, and the tables that are listed of them.
use Rattle.std.specs.Prelude.{ℕ, suc, List, [], ◌++◌, Bool, ◌&&◌, ◌||◌, length, take, slice_index_or}
use Rattle.std.specs.List.{list_any}
use Rattle.ncl_blif.specs.declared.model.Lit.{Lit}
use Rattle.ncl_blif.specs.Meaning.{lit_matches, row_matches, cover_value}
use Rattle.ncl_match.specs.Pairs.{WordFunction, both_tables, values_of}
use Rattle.ncl_match.specs.Turns.{gathered}

-- the words at which a row matches the values of the functions at its inputs
abbrev pub row_function : List WordFunction → List Lit → WordFunction
row_function fs row word = row_matches (values_of fs word) row

-- the words at which some row does
abbrev pub rows_function : List WordFunction → List (List Lit) → WordFunction
rows_function fs rows word = list_any (row_matches (values_of fs word)) rows

-- the value of a cover
abbrev pub cover_function : List WordFunction → Bool → List (List Lit) → WordFunction
cover_function fs on rows word = cover_value on rows (values_of fs word)

-- one literal more
abbrev pub literal_function : WordFunction → Lit → WordFunction → WordFunction
literal_function f lit g word = f word && lit_matches lit (g word)

-- one row more
abbrev pub either_function : WordFunction → WordFunction → WordFunction
either_function f g word = f word || g word

-- the tables of the conjunctions of the first i literals of a row, for each i from 1 on
abbrev pub row_tables : ℕ → List WordFunction → List Lit → List (List Bool)
row_tables n fs row = gathered (λ i. both_tables n (row_function fs (take (suc i) row))) (length row)

-- the tables of a row and of the disjunction of the rows up to it
abbrev pub turn_tables : ℕ → List WordFunction → List (List Lit) → ℕ → List (List Bool)
turn_tables n fs rows i = row_tables n fs (slice_index_or rows i []) ++ both_tables n (rows_function fs (take (suc i) rows))

-- the tables of a cover: of each row, and of the disjunctions of the first i rows, for each i from 1 on
abbrev pub cover_tables : ℕ → List WordFunction → List (List Lit) → List (List Bool)
cover_tables n fs rows = gathered (turn_tables n fs rows) (length rows)
