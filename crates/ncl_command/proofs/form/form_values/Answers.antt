use Rattle.ncl_command.proofs.Terms.{Bool, Bor, Form, List, Text, [], and_parts, ap, app_for, app_of, built, false, fault_of, form_meant, found_of, has_option, is_apart, is_free_app, is_simple, is_simple_and_free, length, length-map, list_any, map, matches_of, not, option_map, refl, rows_of, subst, sym, true, value_given, ◌∙◌, ◌≡◌, ◌≤◌}
use Rattle.ncl_command.proofs.FormRules.{is_free}
use Rattle.ncl_command.proofs.FormReads.{Fails}
use Rattle.ncl_command.proofs.FormValues.{fails_by, found, not_found}
use Rattle.ncl_command.proofs.RefusedArguments.{refused_meant, refused_reads}
use Rattle.ncl_command.proofs.form.form_values.Goals as goal

-- no option has the name of a place
apart_is : (form : Form) → is_apart form ≡ true → list_any (has_option form) form.places ≡ false
apart_is form apart = by (list_any (has_option form) form.places) apart
  where
    by : (b : Bool) → not b ≡ true → b ≡ false
    by true e = sym e
    by false e = refl

are_few : (places : List (Bor Text)) → length places ≤ 65535 → length (map (λ (place : Bor Text). place.now) places) ≤ 65535
are_few places few = subst (λ n. n ≤ 65535) (sym (length-map places (λ (place : Bor Text). place.now))) few

pub returns-then-any_is_refused : goal.returns-then-any_is_refused
returns-then-any_is_refused c =
    let form = form_meant c.args.places.now c.args.options.now in
    let arguments = map (λ argument. argument.now) c.args.arguments.now in
    sym (ap (option_map (value_given form)) (refused_reads form arguments (sym (refused_meant c.args.arguments.now) ∙ sym c.any_is_refused.ensures ∙ c.if-any_is_refused.true)))

pub returns-in-Ok : goal.returns-in-Ok
returns-in-Ok c =
    let form = form_meant c.args.places.now c.args.options.now in
    let apart = apart_is form c.requires.apart in
    let few = are_few c.args.places.now c.requires.few in
    let arguments = map (λ argument. argument.now) c.args.arguments.now in
    let app_is : app_of c.in_ok-command.command ≡ app_for form = c.in_ok-command.ensures in
    let simple = and_parts (is_simple (app_for form)) (is_free_app (built (app_for form))) (is_free form few) in
    let passes = c.in-Ok.ensures.kinds (ap is_simple_and_free app_is ∙ is_free form few) in
    let matches = c.in-Ok.ensures.matches (ap is_simple app_is ∙ simple.0) in
    found form apart few arguments (sym (refused_meant c.args.arguments.now) ∙ sym c.any_is_refused.ensures ∙ c.if-any_is_refused.false) c.in-Ok.matches
    (subst (λ app. fault_of app arguments ≡ []) app_is passes) (subst (λ app. rows_of (found_of c.in-Ok.matches) ≡ matches_of app arguments) app_is matches.0)

pub returns : goal.returns
returns c =
    let form = form_meant c.args.places.now c.args.options.now in
    let apart = apart_is form c.requires.apart in
    let few = are_few c.args.places.now c.requires.few in
    let arguments = map (λ argument. argument.now) c.args.arguments.now in
    let app_is : app_of c.in_ok-command.command ≡ app_for form = c.in_ok-command.ensures in
    let kinds = c.in-Err.ensures.kinds (ap is_simple_and_free app_is ∙ is_free form few) in
    let fails = fails_by (fault_of (app_of c.in_ok-command.command) arguments) c.in-Err.error kinds (λ e. c.in_default.not-OutOfMemory (c.kind.ensures ∙ e)) in
    not_found form apart few arguments (sym (refused_meant c.args.arguments.now) ∙ sym c.any_is_refused.ensures ∙ c.if-any_is_refused.false)
    (subst (λ app. Fails (fault_of app arguments)) app_is fails)
