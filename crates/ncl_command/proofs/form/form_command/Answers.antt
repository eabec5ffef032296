use Rattle.ncl_command.specs.Rules.{app_with}
use Rattle.ncl_command.proofs.Terms.{Shape, ap, app_of_fields, ap₂, map, on_top, place_rule, true, with_rule, ◌∙◌}
use Rattle.ncl_command.proofs.CommandRules.{places_more, rules_more}
use Rattle.ncl_command.proofs.form.form_command.Goals as goal

-- every argument is an argument, and none asks for help
plain : Shape → Shape
plain s = record s { no_binary_name = true; disable_help_flag = true }

pub loop-place-init : goal.loop-place-init
unfolding app_with plain
loop-place-init c =
    ap app_of_fields c.disable_help_flag-command.ensures ∙ ap (λ f. app_of_fields (record f { disable_help_flag = true })) c.no_binary_name.ensures
    ∙ ap (on_top plain) c.new.ensures.app

pub loop-place-preserved : goal.loop-place-preserved
loop-place-preserved c =
    c.in_ok-command.ensures.shape c.place_arg.ensures.local ∙ ap₂ with_rule c.loop-place.invariant c.place_arg.ensures.rule
    ∙ places_more c.args.places.now c.loop-place.place-index _ c.loop-place-test.true

pub loop-option-preserved : goal.loop-option-preserved
loop-option-preserved c =
    c.in_ok-command-2.ensures.shape c.option_arg.ensures.local ∙ ap₂ with_rule c.loop-option.invariant c.option_arg.ensures.rule
    ∙ rules_more (map place_rule (map (λ place. place.now) c.args.places.now)) c.args.options.now c.loop-option.option-index _ c.loop-option-test.true
