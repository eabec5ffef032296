-- `clap` reads the arguments of a form as the definition says.
use Rattle.ncl_command.specs.Rules.{app_with}
use Rattle.clap.specs.Faults.{walk_fault}
use Rattle.ncl_command.proofs.Terms.{App, ArgumentKind, Arguments, Bool, Form, FormOption, Held, Kinds, List, Named, NamedValue, None, Option, Plain, Reading, Refused, Row, Rule, Some, Text, Valued, Waiting, Walk, [], after_flag, after_kind, after_name, after_step, after_value, and-false, ap, app_for, append_assoc, ap₂, arg_by_id, arg_by_long, arith, built_fault, check_fault, check_kinds, defaults_fault, entered, entered_fault, false, fault_of, finished, fold, given_flag, has_needed, has_option, idle, if◌then◌else◌, is_given, is_pending, is_refused, is_refused_kind, is_some, kind_of, length, length-append, level_fault, list_any, long_fault, long_met, matches_of, min, names_of, not, nothing_held, option, option_and_then, option_map_or, option_named, or_else, or_parts, positional_fault, pushed, put_next, put_value, read_arguments, read_on, refl, rows_after, settle_fault, settled, settled_held, settled_rows, step_fault, stray_fault, subcommand_met, subst, sym, to_place, to_positional, true, true≢false, turn_fault, use_fault, used, used_by_id, usize_max, value_kind, walked, with_default, with_value, with_waiting, ℕ, ◌++◌, ◌+◌, ◌∙◌, ◌∷◌, ◌≡◌}
use Rattle.ncl_command.proofs.FormRules.{AreFew, any_arg, arg, flag_arg, args, built_is, counted_on, place_arg, shape}
use Rattle.ncl_command.proofs.ClapEnds.{check_is, defaults_pass}
use Rattle.ncl_command.proofs.ClapFinds.{IsFound, IsPlace, known_found, next_place, no_next_place, place_found, unknown_missed}
use Rattle.ncl_command.proofs.ClapRows.{flag_passes, flag_repeats, flag_used_is, named, rows, use_passes, use_repeats, used_is}
use Rattle.ncl_command.proofs.ClapSteps.{Pending, at, held, long_turn, long_walked, plain_turn, plain_walked, value_turn, value_walked}
use Rattle.ncl_command.proofs.ClapArguments.{IsLong, IsPlain, IsSeen, seen}

-- there is a fault
abbrev pub Fails : Kinds → Type 0
Fails [] = ⊥
Fails (k ∷ kinds) = Unit {0}

fails_first : (a b : Kinds) → Fails a → Fails (or_else a b)
fails_first [] b fails = absurd fails
fails_first (k ∷ kinds) b fails = tt

-- what fails after the last argument
unfoldable pub end_fault : List Rule → Held → Kinds
end_fault c h =
    or_else (settle_fault c false h)
    (or_else (defaults_fault (settled_held c h).rows c) (check_fault (shape c) (finished c h) false))

-- what fails in the arguments that are left, and the rows at the end of them
unfoldable pub rest_fault : List Rule → Walk → Arguments → Kinds
rest_fault c w arguments = or_else (walk_fault (shape c) [] w arguments) (end_fault c (fold (walked c []) w arguments).held)

unfoldable pub rest_rows : List Rule → Walk → Arguments → List Row
rest_rows c w arguments = finished c (fold (walked c []) w arguments).held

-- a walk from here on fails where the arguments are of no form, and else has the rows of what they give
-- with the rows of what they give, and of the flags that they don't give
abbrev pub ended : List Rule → List NamedValue → List Row
ended c given = fold with_default (rows given) c

abbrev pub Takes : List Rule → Option (List NamedValue) → Walk → Arguments → Type 0
Takes c None w arguments = Fails (rest_fault c w arguments)
Takes c (Some given) w arguments = (rest_fault c w arguments ≡ []) × (rest_rows c w arguments ≡ ended c given)

-- a step that passes leaves all to the steps after it
fault_on : (c : List Rule) (w after : Walk) (argument : Text) (arguments : Arguments) → turn_fault (shape c) [] w argument ≡ [] → walked c [] w argument ≡ after
    → rest_fault c w (argument ∷ arguments) ≡ rest_fault c after arguments
unfolding rest_fault walk_fault
fault_on c w after argument arguments passes is =
    ap₂ (λ kinds v. or_else (or_else kinds (walk_fault (shape c) [] v arguments)) (end_fault c (fold (walked c []) v arguments).held)) passes is

rows_on : (c : List Rule) (w after : Walk) (argument : Text) (arguments : Arguments) → walked c [] w argument ≡ after → rest_rows c w (argument ∷ arguments) ≡ rest_rows c after arguments
unfolding rest_rows
rows_on c w after argument arguments is = ap (λ v. finished c (fold (walked c []) v arguments).held) is

step_on : (c : List Rule) (o : Option (List NamedValue)) (w after : Walk) (argument : Text) (arguments : Arguments)
    → turn_fault (shape c) [] w argument ≡ [] → walked c [] w argument ≡ after → Takes c o after arguments → Takes c o w (argument ∷ arguments)
step_on c None w after argument arguments passes is fails = subst Fails (sym (fault_on c w after argument arguments passes is)) fails
step_on c (Some given) w after argument arguments passes is takes =
    (fault_on c w after argument arguments passes is ∙ takes.0, rows_on c w after argument arguments is ∙ takes.1)

-- a step that fails is the end
step_fails : (c : List Rule) (w : Walk) (argument : Text) (arguments : Arguments) → Fails (turn_fault (shape c) [] w argument) → Fails (rest_fault c w (argument ∷ arguments))
unfolding rest_fault walk_fault
step_fails c w argument arguments fails = fails_first _ _ (fails_first _ _ fails)

-- what is read or waits fails at the end
settle_fails : (c : List Rule) (w : Walk) → Fails (settle_fault c false w.held) → Fails (rest_fault c w [])
unfolding rest_fault walk_fault end_fault
settle_fails c w fails = fails_first _ _ fails

-- a value that goes to a place settles what was read before it
place_settles : (c : List Rule) (i : ℕ) (place : Text) (h : Held) → positional_fault c false (place_arg i place) h ≡ settle_fault c false h
place_settles c i place h = ap (λ b. if b then [] else settle_fault c false h) (and-false (is_pending (place_arg i place) h.pending))

-- the number of the next place, after these
abbrev pub after : List Text → ℕ
after done = 1 + length done

module _ (form : Form) (alone : list_any (has_option form) form.places ≡ false) (few : AreFew form) where
  -- where what was read fails, a flag makes it fail
  flag_fails : (have : List Row) (pending : Pending) (waiting : Waiting) (position : ℕ) (argument name : Text) (v : Option Text)
      → subcommand_met [] waiting argument ≡ None → IsLong argument name v → Fails (settle_fault (args form) false (held have pending))
      → Fails (turn_fault (shape (args form)) [] (at have pending waiting position) argument)
  flag_fails have pending waiting position argument name v no_command long fails =
      subst Fails (sym (long_turn (args form) have pending waiting position argument name v no_command long))
      (fails_first _ _ (by (option_named form name) refl))
    where
      known : (required flag : Bool) (v : Option Text) → Fails (long_fault (args form) false (Some (any_arg name (Some name) None required flag)) v (held have pending))
      known required false None = fails
      known required false (Some text) = fails_first _ _ fails
      known required true None = fails_first _ _ fails
      known required true (Some text) = tt

      by : (o : Option FormOption) → option_named form name ≡ o → Fails (long_fault (args form) false (arg_by_long (args form) name) v (held have pending))
      by (Some one) e =
          let found = known_found form name one e alone in
          subst (λ o. Fails (long_fault (args form) false o v (held have pending))) (sym found.long) (known found.required one.is_flag v)
      by None e = subst (λ o. Fails (long_fault (args form) false o v (held have pending))) (sym (unknown_missed form name e)) tt

  -- and so does an argument that is no flag
  plain_fails : (have : List Row) (pending : Pending) (done left : List Text) (argument : Text) → done ++ left ≡ form.places → IsPlain argument
      → Fails (settle_fault (args form) false (held have pending)) → Fails (turn_fault (shape (args form)) [] (at have pending idle (after done)) argument)
  plain_fails have pending done left argument is plain fails =
      subst Fails (sym (plain_turn (args form) have pending (after done) argument plain)) (by left is)
    where
      by : (left : List Text) → done ++ left ≡ form.places → Fails (step_fault (shape (args form)) (after done) (held have pending) to_place)
      by [] is = subst (λ o. Fails (option_map_or (λ a. positional_fault (args form) false a (held have pending)) o (stray_fault (shape (args form))))) (sym (no_next_place form done is)) tt
      by (place ∷ left) is =
          subst (λ o. Fails (option_map_or (λ a. positional_fault (args form) false a (held have pending)) o (stray_fault (shape (args form))))) (sym (next_place form done place left is))
          (subst Fails (sym (place_settles (args form) (after done) place (held have pending))) fails)

  -- so all is lost where what was read fails
  lost : (arguments : Arguments) (have : List Row) (pending : Pending) (done left : List Text) → done ++ left ≡ form.places → list_any is_refused arguments ≡ false
      → Fails (settle_fault (args form) false (held have pending)) → Fails (rest_fault (args form) (at have pending idle (after done)) arguments)
  lost [] have pending done left is readable fails = settle_fails (args form) _ fails
  lost (argument ∷ arguments) have pending done left is readable fails =
      step_fails (args form) _ argument arguments (by (kind_of argument) (seen argument) (or_parts (is_refused argument) (list_any is_refused arguments) readable).0)
    where
      by : (k : ArgumentKind) → IsSeen argument k → is_refused_kind k ≡ false → Fails (turn_fault (shape (args form)) [] (at have pending idle (after done)) argument)
      by Refused sees readable = absurd (true≢false readable)
      by Plain sees readable = plain_fails have pending done left argument is sees fails
      by (Named name) sees readable = flag_fails have pending idle (after done) argument name None refl sees fails
      by (Valued name v) sees readable = flag_fails have pending idle (after done) argument name (Some v) refl sees fails

  -- what was read so far has passed, and has its rows
  pub record Idle (given : List NamedValue) (have : List Row) (pending : Pending) : Type 0 where
    pub passes : settle_fault (args form) false (held have pending) ≡ []
    pub settles : settled_rows (args form) pending have ≡ rows given

  -- what the arguments that are left come to
  abbrev Comes : Option Reading → Walk → Arguments → Arguments → Type 0
  Comes o w arguments all = Takes (args form) (option_and_then (settled form) (option_and_then (λ next. read_on form next arguments) o)) w all

  -- the induction over the arguments that are left: where nothing waits, and where an option does
  record Goes (arguments : Arguments) : Type 0 where
    idle_goes : (done left : List Text) (given : List NamedValue) (have : List Row) (pending : Pending) → done ++ left ≡ form.places → list_any is_refused arguments ≡ false
        → Idle given have pending
        → Takes (args form) (option_and_then (settled form) (read_on form (record { waiting = None; left = left; given = given }) arguments))
        (at have pending idle (after done)) arguments
    waits_goes : (done left : List Text) (given : List NamedValue) (name : Text) → done ++ left ≡ form.places → list_any is_refused arguments ≡ false → IsFound (args form) name false
        → Takes (args form) (option_and_then (settled form) (read_on form (with_waiting left given name) arguments))
        (at (rows given) (Some (name, [])) (option name) (after done)) arguments

  -- a pending value of a name that has none yet will pass
  pending_passes : (given : List NamedValue) (name text : Text) (long : Option Text) (index : Option ℕ) (required : Bool)
      → arg_by_id (args form) name ≡ Some (arg name long index required) → is_given given name ≡ false
      → Idle (given ++ named name text ∷ []) (rows given) (Some (name, text ∷ []))
  pending_passes given name text long index required found new = record {
    passes = ap (λ o. option_map_or (λ a. use_fault false a (text ∷ []) (rows given)) o []) found ∙ use_passes given name long index required text new;
    settles = ap (λ o. used_by_id o (text ∷ []) (rows given)) found ∙ used_is given name long index required text new;
  }

  -- a flag of no option fails
  unknown_fails : (have : List Row) (pending : Pending) (waiting : Waiting) (position : ℕ) (argument name : Text) (v : Option Text)
      → subcommand_met [] waiting argument ≡ None → IsLong argument name v → option_named form name ≡ None
      → Fails (turn_fault (shape (args form)) [] (at have pending waiting position) argument)
  unknown_fails have pending waiting position argument name v no_command long unknown =
      subst Fails (sym (long_turn (args form) have pending waiting position argument name v no_command long))
      (fails_first _ _ (subst (λ o. Fails (long_fault (args form) false o v (held have pending))) (sym (unknown_missed form name unknown)) tt))

  -- one place more has an argument
  place_more : (done : List Text) (place : Text) (left : List Text) → done ++ place ∷ left ≡ form.places → (done ++ place ∷ []) ++ left ≡ form.places
  place_more done place left is = append_assoc done (place ∷ []) left ∙ is

  position_more : (done : List Text) (place : Text) (left : List Text) → done ++ place ∷ left ≡ form.places → min (after done + 1) usize_max ≡ after (done ++ place ∷ [])
  position_more done place left is =
      let all : length done + length (place ∷ left) ≡ length form.places = sym (length-append done (place ∷ left)) ∙ ap length is in
      let more : length (done ++ place ∷ []) ≡ length done + 1 = length-append done (place ∷ []) in
      counted_on (after done) (omega (arith, all, few)) ∙ omega (arith, more)

  -- an argument that goes to a place
  to_the_place : (have : List Row) (pending : Pending) (given : List NamedValue) (i : ℕ) (place argument : Text) → Idle given have pending
      → to_positional (args form) (Some (place_arg i place)) argument (at have pending idle i) (held have pending)
      ≡ at (rows given) (Some (place, argument ∷ [])) idle (min (i + 1) usize_max)
  to_the_place have pending given i place argument passed =
      ap (λ b. in_place (if b then held have pending else settled_held (args form) (held have pending))) (and-false (is_pending (place_arg i place) pending))
      ∙ ap (λ rs. at rs (Some (place, argument ∷ [])) idle (min (i + 1) usize_max)) passed.settles
    where
      in_place : Held → Walk
      in_place h = record { held = pushed place argument h; waiting = idle; position = min (i + 1) usize_max; is_trailing = false; stopped = None }

  plain_goes : (arguments : Arguments) (rest : Goes arguments) (done left : List Text) (given : List NamedValue) (have : List Row) (pending : Pending) (argument : Text) → done ++ left ≡ form.places
      → list_any is_refused arguments ≡ false → Idle given have pending → IsPlain argument
      → Comes (put_next left given argument) (at have pending idle (after done)) arguments (argument ∷ arguments)
  plain_goes arguments rest done [] given have pending argument is readable passed plain =
      step_fails (args form) _ argument arguments
      (subst Fails (sym (plain_turn (args form) have pending (after done) argument plain))
      (subst (λ o. Fails (option_map_or (λ a. positional_fault (args form) false a (held have pending)) o (stray_fault (shape (args form))))) (sym (no_next_place form done is)) tt))
  plain_goes arguments rest done (place ∷ left) given have pending argument is readable passed plain = by (is_given given place) refl
    where
      found : IsPlace (args form) place
      found = place_found form done place left is

      turn : turn_fault (shape (args form)) [] (at have pending idle (after done)) argument ≡ []
      turn =
          plain_turn (args form) have pending (after done) argument plain
          ∙ ap (λ o. option_map_or (λ a. positional_fault (args form) false a (held have pending)) o (stray_fault (shape (args form)))) (next_place form done place left is)
          ∙ place_settles (args form) (after done) place (held have pending) ∙ passed.passes

      walks : walked (args form) [] (at have pending idle (after done)) argument ≡ at (rows given) (Some (place, argument ∷ [])) idle (after (done ++ place ∷ []))
      walks =
          plain_walked (args form) have pending (after done) argument plain
          ∙ ap (λ o. to_positional (args form) o argument (at have pending idle (after done)) (held have pending)) (next_place form done place left is)
          ∙ to_the_place have pending given (after done) place argument passed
          ∙ ap (at (rows given) (Some (place, argument ∷ [])) idle) (position_more done place left is)

      by : (b : Bool) → is_given given place ≡ b
          → Comes (if b then None else Some (with_value left given place argument)) (at have pending idle (after done)) arguments (argument ∷ arguments)
      by true old =
          step_on (args form) None _ _ argument arguments turn walks
          (lost arguments (rows given) (Some (place, argument ∷ [])) (done ++ place ∷ []) left (place_more done place left is) readable
          (subst (λ o. Fails (option_map_or (λ a. use_fault false a (argument ∷ []) (rows given)) o [])) (sym found.id)
          (subst Fails (sym (use_repeats given place None (Some found.index) true argument old)) tt)))
      by false new =
          step_on (args form) _ _ _ argument arguments turn walks
          (rest.idle_goes (done ++ place ∷ []) left (given ++ named place argument ∷ []) (rows given) (Some (place, argument ∷ [])) (place_more done place left is) readable
          (pending_passes given place argument None (Some found.index) true found.id new))

  -- what fails at `--NAME` of a rule, and the walk behind it
  abbrev named_fault : List Row → Pending → List Text → Text → Option Text → Option Rule → Kinds
  named_fault have pending done argument text rule =
      let met = long_met (args form) rule text (held have pending) in
      let next = after_flag (args form) idle argument met.0 met.1 in
      or_else (long_fault (args form) false rule text (held have pending)) (step_fault (shape (args form)) (after done) next.0 next.1)

  abbrev named_walk : List Row → Pending → List Text → Text → Option Text → Option Rule → Walk
  named_walk have pending done argument text rule =
      let met = long_met (args form) rule text (held have pending) in
      let next = after_flag (args form) idle argument met.0 met.1 in
      after_step (args form) argument (at have pending idle (after done)) next.0 next.1

  -- `--NAME` of a flag
  flag_goes : (arguments : Arguments) (rest : Goes arguments) (done left : List Text) (given : List NamedValue) (have : List Row) (pending : Pending) (argument name : Text) → done ++ left ≡ form.places
      → list_any is_refused arguments ≡ false → Idle given have pending → IsLong argument name None → IsFound (args form) name true
      → Comes (put_value left given name given_flag) (at have pending idle (after done)) arguments (argument ∷ arguments)
  flag_goes arguments rest done left given have pending argument name is readable passed long found = by (is_given given name) refl
    where
      flag : Rule
      flag = flag_arg name found.required

      turn : turn_fault (shape (args form)) [] (at have pending idle (after done)) argument ≡ or_else (use_fault false flag [] (rows given)) []
      turn =
          long_turn (args form) have pending idle (after done) argument name None refl long
          ∙ ap (named_fault have pending done argument None) found.long
          ∙ ap₂ (λ kinds rs. or_else (or_else kinds (use_fault false flag [] rs)) []) passed.passes passed.settles

      walks : is_given given name ≡ false → walked (args form) [] (at have pending idle (after done)) argument ≡ at (rows (given ++ named name given_flag ∷ [])) None idle (after done)
      walks new =
          long_walked (args form) have pending idle (after done) argument name None refl long
          ∙ ap (named_walk have pending done argument None) found.long
          ∙ ap (λ rs. at (used flag [] rs) None idle (after done)) passed.settles
          ∙ ap (λ rs. at rs None idle (after done)) (flag_used_is given name found.required new)

      by : (b : Bool) → is_given given name ≡ b → Comes (if b then None else Some (with_value left given name given_flag)) (at have pending idle (after done)) arguments (argument ∷ arguments)
      by true old =
          step_fails (args form) _ argument arguments (subst Fails (sym turn)
          (subst (λ kinds. Fails (or_else kinds [])) (sym (flag_repeats given name found.required old)) tt))
      by false new =
          step_on (args form) _ _ (at (rows (given ++ named name given_flag ∷ [])) None idle (after done)) argument arguments
          (turn ∙ ap (λ kinds. or_else kinds []) (flag_passes given name found.required new)) (walks new)
          (rest.idle_goes done left (given ++ named name given_flag ∷ []) (rows (given ++ named name given_flag ∷ [])) None is readable (record { passes = refl; settles = refl }))

  -- `--NAME`
  named_goes : (arguments : Arguments) (rest : Goes arguments) (done left : List Text) (given : List NamedValue) (have : List Row) (pending : Pending) (argument name : Text) → done ++ left ≡ form.places
      → list_any is_refused arguments ≡ false
      → Idle given have pending → IsLong argument name None
      → Comes (option_and_then (after_name left given name) (option_named form name)) (at have pending idle (after done)) arguments (argument ∷ arguments)
  named_goes arguments rest done left given have pending argument name is readable passed long = by (option_named form name) refl
    where
      known : (flag : Bool) → IsFound (args form) name flag
          → Comes (if flag then put_value left given name given_flag else Some (with_waiting left given name)) (at have pending idle (after done)) arguments (argument ∷ arguments)
      known true found = flag_goes arguments rest done left given have pending argument name is readable passed long found
      known false found =
          step_on (args form) _ _ (at (rows given) (Some (name, [])) (option name) (after done)) argument arguments
          (long_turn (args form) have pending idle (after done) argument name None refl long
          ∙ ap (named_fault have pending done argument None) found.long
          ∙ ap (λ kinds. or_else kinds []) passed.passes)
          (long_walked (args form) have pending idle (after done) argument name None refl long
          ∙ ap (named_walk have pending done argument None) found.long
          ∙ ap (λ rs. at rs (Some (name, [])) (option name) (after done)) passed.settles)
          (rest.waits_goes done left given name is readable found)

      by : (o : Option FormOption) → option_named form name ≡ o → Comes (option_and_then (after_name left given name) o) (at have pending idle (after done)) arguments (argument ∷ arguments)
      by None e = step_fails (args form) _ argument arguments (unknown_fails have pending idle (after done) argument name None refl long e)
      by (Some one) e = known one.is_flag (known_found form name one e alone)

  -- `--NAME=VALUE`
  valued_goes : (arguments : Arguments) (rest : Goes arguments) (done left : List Text) (given : List NamedValue) (have : List Row) (pending : Pending) (argument name text : Text) → done ++ left ≡ form.places
      → list_any is_refused arguments ≡ false
      → Idle given have pending → IsLong argument name (Some text)
      → Comes (option_and_then (after_value left given name text) (option_named form name)) (at have pending idle (after done)) arguments (argument ∷ arguments)
  valued_goes arguments rest done left given have pending argument name text is readable passed long = by (option_named form name) refl
    where
      turn : (required : Bool) → arg_by_long (args form) name ≡ Some (arg name (Some name) None required)
          → turn_fault (shape (args form)) [] (at have pending idle (after done)) argument ≡ or_else (use_fault false (arg name (Some name) None required) (text ∷ []) (rows given)) []
      turn required found =
          long_turn (args form) have pending idle (after done) argument name (Some text) refl long
          ∙ ap (named_fault have pending done argument (Some text)) found
          ∙ ap₂ (λ kinds rs. or_else (or_else kinds (use_fault false (arg name (Some name) None required) (text ∷ []) rs)) []) passed.passes passed.settles

      walks : (required : Bool) → arg_by_long (args form) name ≡ Some (arg name (Some name) None required) → is_given given name ≡ false
          → walked (args form) [] (at have pending idle (after done)) argument ≡ at (rows (given ++ named name text ∷ [])) None idle (after done)
      walks required found new =
          long_walked (args form) have pending idle (after done) argument name (Some text) refl long
          ∙ ap (named_walk have pending done argument (Some text)) found
          ∙ ap (λ rs. at (used (arg name (Some name) None required) (text ∷ []) rs) None idle (after done)) passed.settles
          ∙ ap (λ rs. at rs None idle (after done)) (used_is given name (Some name) None required text new)

      known : (required : Bool) → arg_by_long (args form) name ≡ Some (arg name (Some name) None required) → (b : Bool) → is_given given name ≡ b
          → Comes (if b then None else Some (with_value left given name text)) (at have pending idle (after done)) arguments (argument ∷ arguments)
      known required found true old =
          step_fails (args form) _ argument arguments (subst Fails (sym (turn required found))
          (subst (λ kinds. Fails (or_else kinds [])) (sym (use_repeats given name (Some name) None required text old)) tt))
      known required found false new =
          step_on (args form) _ _ (at (rows (given ++ named name text ∷ [])) None idle (after done)) argument arguments
          (turn required found ∙ ap (λ kinds. or_else kinds []) (use_passes given name (Some name) None required text new))
          (walks required found new)
          (rest.idle_goes done left (given ++ named name text ∷ []) (rows (given ++ named name text ∷ [])) None is readable (record { passes = refl; settles = refl }))

      sorted : (flag : Bool) → IsFound (args form) name flag → Comes (if flag then None else put_value left given name text) (at have pending idle (after done)) arguments (argument ∷ arguments)
      sorted true found =
          step_fails (args form) _ argument arguments (subst Fails (sym (long_turn (args form) have pending idle (after done) argument name (Some text) refl long))
          (fails_first _ _ (subst (λ o. Fails (long_fault (args form) false o (Some text) (held have pending))) (sym found.long) tt)))
      sorted false found = known found.required found.long (is_given given name) refl

      by : (o : Option FormOption) → option_named form name ≡ o → Comes (option_and_then (after_value left given name text) o) (at have pending idle (after done)) arguments (argument ∷ arguments)
      by None e = step_fails (args form) _ argument arguments (unknown_fails have pending idle (after done) argument name (Some text) refl long e)
      by (Some one) e = sorted one.is_flag (known_found form name one e alone)

  -- an argument where nothing waits
  argument_goes : (arguments : Arguments) (rest : Goes arguments) (done left : List Text) (given : List NamedValue) (have : List Row) (pending : Pending) (argument : Text) → done ++ left ≡ form.places
      → list_any is_refused arguments ≡ false
      → Idle given have pending → (k : ArgumentKind) → IsSeen argument k → is_refused_kind k ≡ false
      → Comes (after_kind form left given argument k) (at have pending idle (after done)) arguments (argument ∷ arguments)
  argument_goes arguments rest done left given have pending argument is readable passed Refused sees kind = absurd (true≢false kind)
  argument_goes arguments rest done left given have pending argument is readable passed Plain sees kind = plain_goes arguments rest done left given have pending argument is readable passed sees
  argument_goes arguments rest done left given have pending argument is readable passed (Named name) sees kind = named_goes arguments rest done left given have pending argument name is readable passed sees
  argument_goes arguments rest done left given have pending argument is readable passed (Valued name text) sees kind = valued_goes arguments rest done left given have pending argument name text is readable passed sees

  -- an argument where an option waits for its value
  value_goes : (arguments : Arguments) (rest : Goes arguments) (done left : List Text) (given : List NamedValue) (name argument : Text) → done ++ left ≡ form.places → list_any is_refused arguments ≡ false → IsFound (args form) name false
      → (k : ArgumentKind) → IsSeen argument k → is_refused_kind k ≡ false
      → Comes (value_kind left given name argument k) (at (rows given) (Some (name, [])) (option name) (after done)) arguments (argument ∷ arguments)
  value_goes arguments rest done left given name argument is readable found Refused sees kind = absurd (true≢false kind)
  value_goes arguments rest done left given name argument is readable found (Named other) sees kind =
      step_fails (args form) _ argument arguments (flag_fails (rows given) (Some (name, [])) (option name) (after done) argument other None refl sees
      (subst (λ o. Fails (option_map_or (λ a. use_fault false a [] (rows given)) o [])) (sym found.id) tt))
  value_goes arguments rest done left given name argument is readable found (Valued other text) sees kind =
      step_fails (args form) _ argument arguments (flag_fails (rows given) (Some (name, [])) (option name) (after done) argument other (Some text) refl sees
      (subst (λ o. Fails (option_map_or (λ a. use_fault false a [] (rows given)) o [])) (sym found.id) tt))
  value_goes arguments rest done left given name argument is readable found Plain plain kind = by (is_given given name) refl
    where
      w : Walk
      w = at (rows given) (Some (name, [])) (option name) (after done)

      turn : turn_fault (shape (args form)) [] w argument ≡ []
      turn = value_turn (args form) (rows given) (after done) name argument found.required found.id plain

      walks : walked (args form) [] w argument ≡ at (rows given) (Some (name, argument ∷ [])) idle (after done)
      walks = value_walked (args form) (rows given) (after done) name argument found.required found.id plain

      by : (b : Bool) → is_given given name ≡ b → Comes (if b then None else Some (with_value left given name argument)) w arguments (argument ∷ arguments)
      by true old =
          step_on (args form) None w _ argument arguments turn walks
          (lost arguments (rows given) (Some (name, argument ∷ [])) done left is readable
          (subst (λ o. Fails (option_map_or (λ a. use_fault false a (argument ∷ []) (rows given)) o [])) (sym found.id)
          (subst Fails (sym (use_repeats given name (Some name) None found.required argument old)) tt)))
      by false new =
          step_on (args form) _ w _ argument arguments turn walks
          (rest.idle_goes done left (given ++ named name argument ∷ []) (rows given) (Some (name, argument ∷ [])) is readable
          (pending_passes given name argument (Some name) None found.required found.id new))

  -- at the end what is needed must be there
  idle_ends : (left : List Text) (given : List NamedValue) (have : List Row) (pending : Pending) (position : ℕ) → Idle given have pending
      → Takes (args form) (settled form (record { waiting = None; left = left; given = given })) (at have pending idle position) []
  unfolding rest_fault rest_rows end_fault walk_fault
  idle_ends left given have pending position passed = by (has_needed form given) refl
    where
      done : finished (args form) (held have pending) ≡ ended (args form) given
      done = ap (λ rs. fold with_default rs (args form)) passed.settles

      checks : end_fault (args form) (held have pending) ≡ check_kinds false false (not (has_needed form given))
      checks =
          ap₂ (λ kinds more. or_else kinds (or_else more (check_fault (shape (args form)) (finished (args form) (held have pending)) false))) passed.passes
          (defaults_pass form (settled_rows (args form) pending have))
          ∙ ap (λ rs. check_fault (shape (args form)) rs false) done ∙ check_is form given

      by : (b : Bool) → has_needed form given ≡ b
          → Takes (args form) (if b then Some given else None) (at have pending idle position) []
      by true e = (checks ∙ ap (λ b. check_kinds false false (not b)) e, done)
      by false e = subst Fails (sym (checks ∙ ap (λ b. check_kinds false false (not b)) e)) tt

  -- and no option may wait
  waits_ends : (given : List NamedValue) (name : Text) (position : ℕ) → IsFound (args form) name false
      → Fails (rest_fault (args form) (at (rows given) (Some (name, [])) (option name) position) [])
  waits_ends given name position found =
      settle_fails (args form) _ (subst (λ o. Fails (option_map_or (λ a. use_fault false a [] (rows given)) o [])) (sym found.id) tt)

  goes : (arguments : Arguments) → Goes arguments
  goes [] = record {
    idle_goes = λ done left given have pending is readable passed. idle_ends left given have pending (after done) passed;
    waits_goes = λ done left given name is readable found. waits_ends given name (after done) found;
  }
  goes (argument ∷ arguments) = record {
    idle_goes = λ done left given have pending is readable passed.
        let both = or_parts (is_refused argument) (list_any is_refused arguments) readable in
        argument_goes arguments (goes arguments) done left given have pending argument is both.1 passed (kind_of argument) (seen argument) both.0;
    waits_goes = λ done left given name is readable found.
        let both = or_parts (is_refused argument) (list_any is_refused arguments) readable in
        value_goes arguments (goes arguments) done left given name argument is both.1 found (kind_of argument) (seen argument) both.0;
  }

-- the arguments of a form fail, or give rows
abbrev pub Reads : Form → Option (List NamedValue) → Kinds → List Row → Type 0
Reads form None kinds have = Fails kinds
Reads form (Some given) kinds have = (kinds ≡ []) × (have ≡ ended (args form) given)

-- a form has no commands below it
fault_is : (form : Form) → AreFew form → (arguments : Arguments) → fault_of (app_for form) arguments ≡ rest_fault (args form) (at [] None idle 1) arguments
unfolding rest_fault end_fault app_with
fault_is form few arguments =
    ap (λ b. built_fault b nothing_held arguments) (built_is form few)
    ∙ by (fold (walked (args form) []) (at [] None idle 1) arguments).stopped
  where
    leaf : App
    leaf = record { top = shape (args form); subs = [] }

    by : (stop : Option (Text × List Text)) → level_fault (shape (args form)) [] nothing_held arguments (is_some (entered leaf stop)) (entered_fault leaf stop)
        ≡ or_else (walk_fault (shape (args form)) [] (at [] None idle 1) arguments) (end_fault (args form) (fold (walked (args form) []) (at [] None idle 1) arguments).held)
    by None = refl
    by (Some stop) = refl

rows_are : (form : Form) → AreFew form → (arguments : Arguments) → matches_of (app_for form) arguments ≡ rest_rows (args form) (at [] None idle 1) arguments
unfolding rest_rows app_with
rows_are form few arguments = ap (λ (b : App). rows_after b.top.rules (names_of b) arguments) (built_is form few)

-- `clap` reads arguments of which none is refused at once as the definition does
pub form_reads : (form : Form) → list_any (has_option form) form.places ≡ false → AreFew form → (arguments : Arguments) → list_any is_refused arguments ≡ false
    → Reads form (read_arguments form arguments) (fault_of (app_for form) arguments) (matches_of (app_for form) arguments)
form_reads form alone few arguments readable =
    by (read_arguments form arguments) ((goes form alone few arguments).idle_goes [] form.places [] [] None refl readable (record { passes = refl; settles = refl }))
  where
    by : (o : Option (List NamedValue)) → Takes (args form) o (at [] None idle 1) arguments → Reads form o (fault_of (app_for form) arguments) (matches_of (app_for form) arguments)
    by None fails = subst Fails (sym (fault_is form few arguments)) fails
    by (Some given) takes = (fault_is form few arguments ∙ takes.0, rows_are form few arguments ∙ takes.1)
