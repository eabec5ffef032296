-- Commands, and how arguments give them.
use Rattle.std.specs.Prelude.{ℕ, ◌≤◌, Bool, true, false, List, [], ◌∷◌, Option, Some, None, if◌then◌else◌, ◌&&◌, nat_le, option_and_then, length, All, IfSome, IsTrue, codes}
use Rattle.std.specs.List.{list_all}
use Rattle.std.specs.Char.{is_ascii_digit}
use Rattle.std.specs.Str.{bytes_eq}
use Rattle.std.specs.Str.Parse.{digits_value}
use Rattle.ncl_command.specs.Reading.{Text, Form, FormOption, Values, given_flag, values_of}
pub use Rattle.ncl_command.specs.Reading.{Arguments}
use Rattle.ncl_command.specs.declared.command.TheConstants.{MOST_NODES, LARGEST_LIMIT, MOST_DEMO_BITS}

-- what the program can be asked to do
pub data Command : Type 0 where
  -- judge the netlist in the named file, where each stage may have so many nodes, and tell why a cell is an orphan, or not
  check : Text → ℕ → Bool → Command
  -- compile the models in the named file, and merge gates of the netlist, or not
  compile : Text → Bool → Command
  -- simulate the netlist in the first file, under the delays in the second, on the words in the third, and write its
  -- steps as a list or, where the flag is given, as a value change dump
  sim : Text → Text → Text → Bool → Command
  -- compare the netlist in the first file with the models in the second, where an output may have so many nodes
  matching : Text → Text → ℕ → Command
  -- make, judge and simulate the adder of so many bits
  demo : ℕ → Command

-- the text has decimal digits alone, one or more, and at most so many
abbrev pub is_number : ℕ → Text → Bool
is_number most text = nat_le 1 (length text) && (nat_le (length text) most && list_all is_ascii_digit text)

-- the number that they say
abbrev pub number_said : ℕ → Text → Option ℕ
number_said most text = if is_number most text then Some (digits_value 10 text) else None

-- a number from 1 to `most`
abbrev pub within : ℕ → ℕ → Option ℕ
within most number = if nat_le 1 number && nat_le number most then Some number else None

-- a number from 1 to `most`, in at most so many decimal digits
abbrev pub counted : ℕ → ℕ → Text → Option ℕ
counted digits most text = option_and_then (within most) (number_said digits text)

-- the limit of nodes, or the usual one where none is given
abbrev pub limit_of : Option Text → Option ℕ
limit_of None = Some MOST_NODES
limit_of (Some text) = counted 7 LARGEST_LIMIT text

-- an option that may be given, and one that must be
abbrev pub optional : Text → FormOption
optional name = record { name = name; is_needed = false; is_flag = false }

abbrev pub needed : Text → FormOption
needed name = record { name = name; is_needed = true; is_flag = false }

-- one that says only whether it was given
abbrev pub flag : Text → FormOption
flag name = record { name = name; is_needed = false; is_flag = true }

-- a flag was given
abbrev pub is_set : Option Text → Bool
is_set None = false
is_set (Some text) = bytes_eq text given_flag

-- check FILE [--limit N] [--why]
abbrev pub check_form : Form
check_form = record { places = codes "file" ∷ []; options = optional (codes "limit") ∷ flag (codes "why") ∷ [] }

abbrev pub check_of : Values → Option Command
check_of values =
    option_and_then (λ file. option_and_then (λ limit. Some (check file limit (is_set (values (codes "why"))))) (limit_of (values (codes "limit")))) (values (codes "file"))

-- compile FILE [--merge]
abbrev pub compile_form : Form
compile_form = record { places = codes "file" ∷ []; options = flag (codes "merge") ∷ [] }

abbrev pub compile_of : Values → Option Command
compile_of values = option_and_then (λ file. Some (compile file (is_set (values (codes "merge"))))) (values (codes "file"))

-- sim FILE --delays FILE --words FILE [--vcd]
abbrev pub sim_form : Form
sim_form = record { places = codes "netlist" ∷ []; options = needed (codes "delays") ∷ needed (codes "words") ∷ flag (codes "vcd") ∷ [] }

abbrev pub sim_of : Values → Option Command
sim_of values =
    option_and_then (λ netlist. option_and_then (λ delays. option_and_then (λ words. Some (sim netlist delays words (is_set (values (codes "vcd")))))
    (values (codes "words"))) (values (codes "delays"))) (values (codes "netlist"))

-- match FILE FILE [--limit N]
abbrev pub match_form : Form
match_form = record { places = codes "netlist" ∷ codes "blif" ∷ []; options = optional (codes "limit") ∷ [] }

abbrev pub match_of : Values → Option Command
match_of values =
    option_and_then (λ netlist. option_and_then (λ blif. option_and_then (λ limit. Some (matching netlist blif limit))
    (limit_of (values (codes "limit")))) (values (codes "blif"))) (values (codes "netlist"))

-- demo N
abbrev pub demo_form : Form
demo_form = record { places = codes "bits" ∷ []; options = [] }

abbrev pub demo_of : Values → Option Command
demo_of values = option_and_then (λ text. option_and_then (λ bits. Some (demo bits)) (counted 2 MOST_DEMO_BITS text)) (values (codes "bits"))

-- the command of this name with the arguments after it
abbrev pub form_of : Text → Arguments → Option Command
form_of name arguments =
    if bytes_eq name (codes "check") then option_and_then check_of (values_of check_form arguments)
    else (if bytes_eq name (codes "compile") then option_and_then compile_of (values_of compile_form arguments)
    else (if bytes_eq name (codes "sim") then option_and_then sim_of (values_of sim_form arguments)
    else (if bytes_eq name (codes "match") then option_and_then match_of (values_of match_form arguments)
    else (if bytes_eq name (codes "demo") then option_and_then demo_of (values_of demo_form arguments) else None))))

-- the command that the arguments give, if they are of a form
abbrev pub command_of : Arguments → Option Command
command_of [] = None
command_of (name ∷ arguments) = form_of name arguments

-- the limit that a command has is at least 1
abbrev pub HasLimit : Command → Type 0
HasLimit (check file limit why) = 1 ≤ limit
HasLimit (compile file merge) = Unit {0}
HasLimit (sim netlist delays words vcd) = Unit {0}
HasLimit (matching netlist blif limit) = 1 ≤ limit
HasLimit (demo bits) = Unit {0}

-- the adder that a demo makes has 1 to 32 bits
abbrev pub HasBits : Command → Type 0
HasBits (check file limit why) = Unit {0}
HasBits (compile file merge) = Unit {0}
HasBits (sim netlist delays words vcd) = Unit {0}
HasBits (matching netlist blif limit) = Unit {0}
HasBits (demo bits) = (1 ≤ bits) × (bits ≤ 32)

-- the files that a command names
abbrev pub files_named : Command → List Text
files_named (check file limit why) = file ∷ []
files_named (compile file merge) = file ∷ []
files_named (sim netlist delays words vcd) = netlist ∷ delays ∷ words ∷ []
files_named (matching netlist blif limit) = netlist ∷ blif ∷ []
files_named (demo bits) = []

-- how many files a command names, and none where there is no command
abbrev pub count_named : Option Command → ℕ
count_named None = 0
count_named (Some command) = length (files_named command)

-- the command's files may be begun
abbrev pub AllowsFiles : (Text → Bool) → Command → Type 0
AllowsFiles allowed command = All (λ file. IsTrue (allowed file)) (files_named command)

-- where the arguments are of a form, the files that they name may be begun
abbrev pub AllowsNamed : (Text → Bool) → Arguments → Type 0
AllowsNamed allowed arguments = IfSome (command_of arguments) (AllowsFiles allowed)
