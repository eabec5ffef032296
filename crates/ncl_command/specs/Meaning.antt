-- What the values of the code mean.
use Rattle.std.specs.Prelude.{List, map, Option, option_and_then}
use Rattle.std.specs.Borrow.{Bor}
use Rattle.clap.specs.Matches.{first_value, found_of}
use Rattle.clap.specs.declared.parser.matches.ArgMatches.{ArgMatches}
use Rattle.ncl_command.specs.Reading.{Text, Arguments, Form, FormOption, Values, values_of}
use Rattle.ncl_command.specs.Command.{Command, check, compile, sim, matching, demo, optional, needed, flag}
use Rattle.ncl_command.specs.Command.{check_form, check_of, compile_form, compile_of, sim_form, sim_of, match_form, match_of, demo_form, demo_of}
use Rattle.ncl_command.specs.declared.form.FormOption.{FormOption as OptionRead}
use Rattle.ncl_command.specs.declared.form.FormOption.TheVariants.{Optional, Needed, Flag}
use Rattle.ncl_command.specs.declared.command.Form.{Form as FormRead}
use Rattle.ncl_command.specs.declared.command.Form.TheVariants as form
use Rattle.ncl_command.specs.declared.command.Command.{Command as CommandRead}
use Rattle.ncl_command.specs.declared.command.Command.TheVariants.{Check, Compile, Sim, Match, Demo}

-- an option of a form
abbrev pub option_meant : OptionRead → FormOption
option_meant (Optional name) = optional name.now
option_meant (Needed name) = needed name.now
option_meant (Flag name) = flag name.now

-- a form
abbrev pub form_meant : List (Bor Text) → List OptionRead → Form
form_meant places options = record { places = map (λ place. place.now) places; options = map option_meant options }

-- what `clap` found
abbrev pub values_found : ArgMatches → Values
values_found matches = first_value (found_of matches)

-- a command that was read from arguments
abbrev pub command_meant : CommandRead → Command
command_meant (Check file limit why) = check file.now limit why
command_meant (Compile file merge) = compile file.now merge
command_meant (Sim netlist delays words vcd) = sim netlist.now delays.now words.now vcd
command_meant (Match netlist blif limit) = matching netlist.now blif.now limit
command_meant (Demo bits) = demo bits

-- the form of the arguments after a command's name
abbrev pub form_read : FormRead → Form
form_read form.Check = check_form
form_read form.Compile = compile_form
form_read form.Sim = sim_form
form_read form.Match = match_form
form_read form.Demo = demo_form

-- the command that the values of its names say
abbrev pub command_said : FormRead → Values → Option Command
command_said form.Check values = check_of values
command_said form.Compile values = compile_of values
command_said form.Sim values = sim_of values
command_said form.Match values = match_of values
command_said form.Demo values = demo_of values

-- the command that arguments of a form give
abbrev pub command_by : FormRead → Arguments → Option Command
command_by form arguments = option_and_then (command_said form) (values_of (form_read form) arguments)
