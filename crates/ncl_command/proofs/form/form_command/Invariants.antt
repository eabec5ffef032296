use Rattle.ncl_command.proofs.Terms.{app_of, app_with, map, option_meant, option_rule, place_rule, take, ◌++◌, ◌≡◌}
use Rattle.ncl_command.proofs.form.form_command.Given as goal

-- the command has the rules of the places so far
abbrev pub invariant-loop-place : goal.invariant-loop-place
invariant-loop-place l = app_of l.command ≡ app_with (map place_rule (map (λ place. place.now) (take l.place-index l.places)))

-- and then those of the options so far
abbrev pub invariant-loop-option : goal.invariant-loop-option
invariant-loop-option l =
    app_of l.command ≡ app_with (map place_rule (map (λ place. place.now) l.places) ++ map option_rule (map option_meant (take l.option-index l.options)))
