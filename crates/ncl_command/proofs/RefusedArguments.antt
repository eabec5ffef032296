-- Arguments of which one is refused at once are of no form.
use Rattle.ncl_command.proofs.Terms.{ArgumentKind, Arguments, Bool, Bor, Form, List, Named, NamedValue, None, Option, Plain, Reading, Refused, Some, Text, Valued, [], after_argument, after_kind, ap, false, is_refused, is_refused_kind, kind_of, list_any, map, nothing_read, option_and_then, read_arguments, read_on, refl, settled, sym, true, true≢false, value_kind, ◌||◌, ◌∙◌, ◌∷◌, ◌≡◌}

-- such an argument is taken nowhere
refused_after : (form : Form) (waiting : Option Text) (left : List Text) (given : List NamedValue) (argument : Text) (k : ArgumentKind) → kind_of argument ≡ k → is_refused_kind k ≡ true
    → after_argument form waiting left given argument ≡ None
refused_after form None left given argument Refused e refused = ap (after_kind form left given argument) e
refused_after form (Some name) left given argument Refused e refused = ap (value_kind left given name argument) e
refused_after form waiting left given argument Plain e refused = absurd (true≢false (sym refused))
refused_after form waiting left given argument (Named name) e refused = absurd (true≢false (sym refused))
refused_after form waiting left given argument (Valued name text) e refused = absurd (true≢false (sym refused))

then_none : (o : Option Reading) (f : Reading → Option Reading) → ((reading : Reading) → f reading ≡ None) → option_and_then f o ≡ None
then_none None f none = refl
then_none (Some reading) f none = none reading

refused_on : (form : Form) (reading : Reading) (arguments : Arguments) → list_any is_refused arguments ≡ true → read_on form reading arguments ≡ None
refused_on form reading [] refused = absurd (true≢false (sym refused))
refused_on form reading (argument ∷ arguments) refused = by (is_refused argument) refl (λ e next. refused_on form next arguments e)
  where
    by : (b : Bool) → is_refused argument ≡ b → (list_any is_refused arguments ≡ true → (next : Reading) → read_on form next arguments ≡ None)
        → read_on form reading (argument ∷ arguments) ≡ None
    by true e rest = ap (option_and_then (λ next. read_on form next arguments)) (refused_after form reading.waiting reading.left reading.given argument (kind_of argument) refl e)
    by false e rest =
        then_none (after_argument form reading.waiting reading.left reading.given argument) (λ next. read_on form next arguments)
        (rest (sym (ap (λ b. b || list_any is_refused arguments) e) ∙ refused))

pub refused_reads : (form : Form) (arguments : Arguments) → list_any is_refused arguments ≡ true → read_arguments form arguments ≡ None
refused_reads form arguments refused = ap (option_and_then (settled form)) (refused_on form (nothing_read form) arguments refused)

-- one of the arguments is refused where one of the texts behind them is
pub refused_meant : (arguments : List (Bor Text)) → list_any (λ (argument : Bor Text). is_refused argument.now) arguments ≡ list_any is_refused (map (λ argument. argument.now) arguments)
refused_meant [] = refl
refused_meant (argument ∷ arguments) = ap (λ b. is_refused argument.now || b) (refused_meant arguments)
