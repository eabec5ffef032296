-- What a file of delays states, and what breaks its lines.
use Rattle.std.specs.Prelude.{ℕ, List, [], ◌∷◌, Bool, true, false, ◌&&◌, if◌then◌else◌, Option, Some, None, codes, length, map, nat_le, unwrap_or}
use Rattle.std.specs.List.{list_all, list_any}
use Rattle.std.specs.Char.{is_ascii_digit}
use Rattle.std.specs.Option.{option_or}
use Rattle.std.specs.Str.{bytes_eq}
use Rattle.std.specs.Str.Parse.{digits_value}
use Rattle.ncl_netlist.specs.Names.{same_name}
use Rattle.ncl_netlist.specs.Netlist.{NetlistData}
use Rattle.ncl_base.specs.TextLines.{fields_of, NumberedText}
use Rattle.ncl_delay.specs.declared.delays.Edges.{Edges}
use Rattle.ncl_delay.specs.declared.delays.TheConstants.{MOST_DELAY}
use Rattle.ncl_delay.specs.declared.number.TheConstants.{MOST_DIGITS}
use Rattle.ncl_delay.specs.declared.statement.Subject.{Subject}
use Rattle.ncl_delay.specs.declared.statement.Subject.TheVariants.{Default, Source, Sink, Cell}
use Rattle.ncl_delay.specs.declared.statement.Statement.{Statement}
use Rattle.ncl_delay.specs.declared.fault.DelayFault.{DelayFault}
use Rattle.ncl_delay.specs.declared.fault.DelayFault.TheVariants.{Syntax, UnknownCell}
use Rattle.ncl_delay.specs.Delays.{DelaysData}

-- the names of the cells, in the order of their numbers
abbrev pub cell_names : NetlistData → List (List ℕ)
cell_names n = map (λ cell. cell.name) n.cells

-- whether a field is a delay: a number from 1 to MOST_DELAY, in at most MOST_DIGITS digits
abbrev pub is_delay_text : List ℕ → Bool
is_delay_text field =
    nat_le 1 (length field) && nat_le (length field) MOST_DIGITS && list_all is_ascii_digit field
    && nat_le 1 (digits_value 10 field) && nat_le (digits_value 10 field) MOST_DELAY

-- the delay of a field
abbrev pub delay_text : List ℕ → Option ℕ
delay_text field = if is_delay_text field then Some (digits_value 10 field) else None

abbrev pub both_edges : Option ℕ → Option ℕ → Option Edges
both_edges None fall = None
both_edges (Some rise) None = None
both_edges (Some rise) (Some fall) = Some (record { rise = rise; fall = fall })

-- the delays of two fields, rising first
abbrev pub edges_text : List ℕ → List ℕ → Option Edges
edges_text rise fall = both_edges (delay_text rise) (delay_text fall)

-- the subject that a field stands for
abbrev pub subject_text : List ℕ → Option Subject
subject_text field =
    if bytes_eq field (codes "default") then Some Default
    else (if bytes_eq field (codes "source") then Some Source
    else (if bytes_eq field (codes "sink") then Some Sink else None))

-- the cell that a field and a name stand for
abbrev pub cell_text : List ℕ → List ℕ → Option Subject
cell_text field name = if bytes_eq field (codes "cell") then Some (Cell name) else None

-- the statement of a subject and its delays, where both are there
abbrev pub stating : Option Subject → Option Edges → Option Statement
stating None edges = None
stating (Some subject) None = None
stating (Some subject) (Some edges) = Some (record { subject = subject; edges = edges })

-- what the fields of a line state: `default R F`, `source R F`, `sink R F` or `cell NAME R F`
abbrev pub said : List (List ℕ) → Option Statement
said (field ∷ rise ∷ fall ∷ []) = stating (subject_text field) (edges_text rise fall)
said (field ∷ name ∷ rise ∷ fall ∷ []) = stating (cell_text field name) (edges_text rise fall)
said fields = None

-- what a line states
abbrev pub said_in : NumberedText → Option Statement
said_in line = said (fields_of line.text)

-- whether a cell has the name
abbrev pub is_known : List (List ℕ) → Subject → Bool
is_known names (Cell name) = list_any (same_name name) names
is_known names subject = true

-- what breaks a line of this number that states this: it is of none of the forms, or names no cell
abbrev pub statement_fault : List (List ℕ) → ℕ → Option Statement → Option DelayFault
statement_fault names number None = Some (Syntax number)
statement_fault names number (Some s) = if is_known names s.subject then None else Some (UnknownCell number)

abbrev pub line_fault : List (List ℕ) → NumberedText → Option DelayFault
line_fault names line = statement_fault names line.number (said_in line)

-- what breaks the first broken line, where the cells have these names
abbrev pub fault_in : List (List ℕ) → List NumberedText → Option DelayFault
fault_in names [] = None
fault_in names (line ∷ lines) = option_or (line_fault names line) (fault_in names lines)

-- whether two subjects are one
abbrev pub same_subject : Subject → Subject → Bool
same_subject Default Default = true
same_subject Source Source = true
same_subject Sink Sink = true
same_subject (Cell name) (Cell other) = same_name name other
same_subject subject other = false

-- what a statement says of a subject
abbrev pub said_of : Subject → Option Statement → Option Edges
said_of subject None = None
said_of subject (Some s) = if same_subject s.subject subject then Some s.edges else None

-- what lines state of a subject: what the last of them says that says something of it
abbrev pub stated : Subject → List NumberedText → Option Edges
stated subject [] = None
stated subject (line ∷ lines) = option_or (stated subject lines) (said_of subject (said_in line))

-- what is never stated is 1
abbrev pub unit_edges : Edges
unit_edges = record { rise = 1; fall = 1 }

-- the delays that lines state, where the cells have these names
abbrev pub stated_delays : List (List ℕ) → List NumberedText → DelaysData
stated_delays names lines = record {
  default = unwrap_or (stated Default lines) unit_edges;
  cells = map (λ name. stated (Cell name) lines) names;
  source = unwrap_or (stated Source lines) unit_edges;
  sink = unwrap_or (stated Sink lines) unit_edges;
}
