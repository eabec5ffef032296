-- One step of `clap`'s walk over the arguments of a form.
use Rattle.clap.specs.Walk.{walked}
use Rattle.ncl_command.proofs.Terms.{Bool, Held, List, None, Option, Row, Rule, Some, Step, Text, Waiting, Walk, [], after_step, ap, ap₂, arg_by_id, arg_by_index, arg_by_long, bundle_fault, false, flag_word_fault, idle, if◌then◌else◌, long_fault, long_or_other, long_word, nat_lt, next, option, option_map_or, option_word, or_else, other_fault, plain_word, refl, short_or_plain, step_fault, subcommand_met, subcommand_or_other, to_positional, trailing, turn_fault, value, word_fault, word_met, ℕ, ◌∙◌, ◌∷◌, ◌≡◌}
use Rattle.ncl_command.proofs.ClapFinds.{same}
use Rattle.ncl_command.proofs.ClapArguments.{IsPlain, IsLong}
use Rattle.ncl_command.proofs.FormRules.{arg, shape}

-- a value or an option that is read, but has no row yet
abbrev pub Pending : Type 0
Pending = Option (Text × List Text)

abbrev pub held : List Row → Pending → Held
held have pending = record { rows = have; pending = pending; skip = 0 }

-- the walk between two arguments
abbrev pub at : List Row → Pending → Waiting → ℕ → Walk
at have pending waiting position = record {
  held = held have pending;
  waiting = waiting;
  position = position;
  is_trailing = false;
  stopped = None;
}

module _ (c : List Rule) (waiting : Waiting) (position : ℕ) (argument : Text) (h : Held) (no_command : subcommand_met [] waiting argument ≡ None) where
  -- an argument that is no flag
  pub plain_met : IsPlain argument → word_met c [] false waiting position argument h ≡ plain_word c waiting argument h
  plain_met plain =
      ap (λ m. subcommand_or_other c m waiting position argument h) no_command
      ∙ ap₂ (λ b o. if b then (h, trailing position) else long_or_other c waiting argument o h) plain.no_dashes plain.long
      ∙ ap (λ o. short_or_plain c waiting argument o h) plain.short

  pub plain_passes : IsPlain argument → word_fault (shape c) [] false waiting argument h ≡ []
  plain_passes plain =
      ap (λ m. other_fault (shape c) m argument h) no_command
      ∙ ap₂ (λ b o. if b then [] else flag_word_fault c false o argument h) plain.no_dashes plain.long
      ∙ ap (λ o. option_map_or (λ flags. bundle_fault c false flags h) o []) plain.short

  -- an argument `--NAME` or `--NAME=VALUE`
  pub long_is_met : (name : Text) (v : Option Text) → IsLong argument name v → word_met c [] false waiting position argument h ≡ long_word c waiting argument name v h
  long_is_met name v long =
      ap (λ m. subcommand_or_other c m waiting position argument h) no_command
      ∙ ap₂ (λ b o. if b then (h, trailing position) else long_or_other c waiting argument o h) long.no_dashes long.long

  pub long_fails_as : (name : Text) (v : Option Text) → IsLong argument name v → word_fault (shape c) [] false waiting argument h ≡ long_fault c false (arg_by_long c name) v h
  long_fails_as name v long =
      ap (λ m. other_fault (shape c) m argument h) no_command
      ∙ ap₂ (λ b o. if b then [] else flag_word_fault c false o argument h) long.no_dashes long.long

module _ (c : List Rule) (have : List Row) (pending : Pending) (position : ℕ) (argument : Text) where
  -- where nothing waits, an argument that is no flag goes to the place
  pub plain_turn : IsPlain argument → turn_fault (shape c) [] (at have pending idle position) argument ≡ step_fault (shape c) position (held have pending) value
  plain_turn plain =
      ap₂ (λ kinds (met : Held × Step). or_else kinds (step_fault (shape c) position met.0 met.1))
      (plain_passes c idle position argument (held have pending) refl plain) (plain_met c idle position argument (held have pending) refl plain)

  pub plain_walked : IsPlain argument → walked c [] (at have pending idle position) argument
      ≡ to_positional c (arg_by_index c position) argument (at have pending idle position) (held have pending)
  unfolding walked
  plain_walked plain =
      ap (λ (met : Held × Step). after_step c argument (at have pending idle position) met.0 met.1)
      (plain_met c idle position argument (held have pending) refl plain)

module _ (c : List Rule) (have : List Row) (pending : Pending) (waiting : Waiting) (position : ℕ) (argument name : Text) (v : Option Text) (no_command : subcommand_met [] waiting argument ≡ None) where
  -- a flag is read by the rule of its name, whatever waits
  pub long_turn : IsLong argument name v → turn_fault (shape c) [] (at have pending waiting position) argument
      ≡ or_else (long_fault c false (arg_by_long c name) v (held have pending))
      (step_fault (shape c) position (long_word c waiting argument name v (held have pending)).0 (long_word c waiting argument name v (held have pending)).1)
  long_turn long =
      ap₂ (λ kinds (met : Held × Step). or_else kinds (step_fault (shape c) position met.0 met.1))
      (long_fails_as c waiting position argument (held have pending) no_command name v long)
      (long_is_met c waiting position argument (held have pending) no_command name v long)

  pub long_walked : IsLong argument name v → walked c [] (at have pending waiting position) argument
      ≡ after_step c argument (at have pending waiting position) (long_word c waiting argument name v (held have pending)).0
      (long_word c waiting argument name v (held have pending)).1
  unfolding walked
  long_walked long =
      ap (λ (met : Held × Step). after_step c argument (at have pending waiting position) met.0 met.1)
      (long_is_met c waiting position argument (held have pending) no_command name v long)

module _ (c : List Rule) (have : List Row) (position : ℕ) (name argument : Text) (required : Bool) (found : arg_by_id c name ≡ Some (arg name (Some name) None required)) where
  value_met : plain_word c (option name) argument (held have (Some (name, []))) ≡ (held have (Some (name, argument ∷ [])), next idle)
  value_met =
      ap (λ o. ((option_word o name argument (held have (Some (name, [])))).0, next (option_word o name argument (held have (Some (name, [])))).1)) found
      ∙ ap (λ b. (held have (Some (name, argument ∷ [])), next (if nat_lt (if b then 1 else 0) 1 then option name else idle))) (same name)

  -- where an option waits, an argument that is no flag is its value
  pub value_turn : IsPlain argument → turn_fault (shape c) [] (at have (Some (name, [])) (option name) position) argument ≡ []
  value_turn plain =
      ap₂ (λ kinds (met : Held × Step). or_else kinds (step_fault (shape c) position met.0 met.1))
      (plain_passes c (option name) position argument (held have (Some (name, []))) refl plain)
      (plain_met c (option name) position argument (held have (Some (name, []))) refl plain ∙ value_met)

  pub value_walked : IsPlain argument → walked c [] (at have (Some (name, [])) (option name) position) argument ≡ at have (Some (name, argument ∷ [])) idle position
  unfolding walked
  value_walked plain =
      ap (λ (met : Held × Step). after_step c argument (at have (Some (name, [])) (option name) position) met.0 met.1)
      (plain_met c (option name) position argument (held have (Some (name, []))) refl plain ∙ value_met)
