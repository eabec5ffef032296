-- The command of `clap` that reads the arguments of a form.
use Rattle.std.specs.Prelude.{true, List, [], ◌++◌, Some, map, codes, None, if◌then◌else◌}
use Rattle.clap.specs.Walk.{Rule}
use Rattle.clap.specs.declared.builder.action.ArgAction.TheVariants.{SetTrue}
use Rattle.clap.specs.Simple.{App, new_rule, new_shape}
use Rattle.ncl_command.specs.Reading.{Text, Form, FormOption}

-- the rule of an argument that is no option, and the rule of an option
abbrev pub place_rule : Text → Rule
place_rule place = record (new_rule place) { required = true }

abbrev pub option_rule : FormOption → Rule
option_rule option = record (new_rule option.name) {
  long = Some option.name;
  required = option.is_needed;
  action = if option.is_flag then Some SetTrue else None;
}

-- a command with no commands below it, which reads every argument itself
unfoldable pub app_with : List Rule → App
app_with rules = record {
  top = record (new_shape (codes "form")) { rules = rules; no_binary_name = true; disable_help_flag = true };
  subs = [];
}

abbrev pub app_for : Form → App
app_for form = app_with (map place_rule form.places ++ map option_rule form.options)
