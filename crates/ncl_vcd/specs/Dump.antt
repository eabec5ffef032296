-- The text of a value change dump, a four-state VCD file (IEEE 1364-2005, 18.2) of one module with scalar variables, line
-- by line.
use Rattle.std.specs.Prelude.{ℕ, ◌+◌, ◌==◌, Bool, true, false, List, [], ◌∷◌, ◌++◌, codes, decimal, if◌then◌else◌}
use Rattle.std.specs.List.{flat_map}
use Rattle.ncl_vcd.specs.Codes.{identifier_code}

-- at a time a net gets a value
pub record ValueChange : Type 0 where
  pub time : ℕ
  pub net : ℕ
  pub value : Bool

-- a text as a line, ended by a line feed
abbrev pub line : List ℕ → List ℕ
line text = text ++ codes "\n"

-- the character of a value: `0` or `1`
abbrev pub digit : Bool → ℕ
digit true = 49
digit false = 48

-- 0CODE   or   1CODE: the net has this value from now on
abbrev pub value_line : ℕ → Bool → List ℕ
value_line net value = digit value ∷ identifier_code net

-- #TIME
abbrev pub time_line : ℕ → List ℕ
time_line time = 35 ∷ decimal time

-- $var wire 1 CODE NAME $end
abbrev pub variable_line : ℕ → List ℕ → List ℕ
variable_line net name = codes "$var wire 1 " ++ identifier_code net ++ codes " " ++ name ++ codes " $end"

-- the names of nets, whose numbers count on from a first
abbrev pub variable_lines : ℕ → List (List ℕ) → List (List ℕ)
variable_lines net [] = []
variable_lines net (name ∷ names) = variable_line net name ∷ variable_lines (net + 1) names

-- the values of nets, whose numbers count on from a first
abbrev pub value_lines : ℕ → List Bool → List (List ℕ)
value_lines net [] = []
value_lines net (value ∷ values) = value_line net value ∷ value_lines (net + 1) values

-- the line of a time, where it is another than the last that was told
abbrev pub time_lines : ℕ → ℕ → List (List ℕ)
time_lines last time = if time == last then [] else time_line time ∷ []

-- changes in order, those of one time under one line of the time
abbrev pub change_lines : ℕ → List ValueChange → List (List ℕ)
change_lines last [] = []
change_lines last (c ∷ changes) = time_lines last c.time ++ value_line c.net c.value ∷ change_lines c.time changes

-- the declarations: the unit of time, the module and its nets
abbrev pub declaration_lines : List ℕ → List (List ℕ) → List (List ℕ)
declaration_lines name nets =
    codes "$timescale 1 ns $end" ∷ (codes "$scope module " ++ name ++ codes " $end") ∷ variable_lines 0 nets
    ++ codes "$upscope $end" ∷ codes "$enddefinitions $end" ∷ []

-- the values at time 0
abbrev pub initial_lines : List Bool → List (List ℕ)
initial_lines values = time_line 0 ∷ codes "$dumpvars" ∷ value_lines 0 values ++ codes "$end" ∷ []

-- the dump of a module with the names of its nets, their values at time 0, and their changes from then on
abbrev pub dump_lines : List ℕ → List (List ℕ) → List Bool → List ValueChange → List (List ℕ)
dump_lines name nets values changes = declaration_lines name nets ++ initial_lines values ++ change_lines 0 changes

abbrev pub dump_text : List ℕ → List (List ℕ) → List Bool → List ValueChange → List ℕ
dump_text name nets values changes = flat_map line (dump_lines name nets values changes)
