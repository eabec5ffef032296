-- The rules by which `clap` reads a form.
use Rattle.ncl_command.specs.Rules.{app_with}
use Rattle.ncl_command.proofs.Terms.{App, Bool, Form, FormOption, List, None, Option, Rule, Set, SetTrue, Shape, Some, Text, [], ap, app_for, ap₂, arith, built, codes, count_by, false, filled, filled_from, given_flag, has_free_rules, if◌then◌else◌, is_buildable, is_early_multiple, is_free_app, is_in_order, is_ready, is_ready_leaf, is_simple_and_free, is_some, length, list_all, list_any, map, min, min-eq_left, missing_flag, new_shape, not, option_rule, place_rule, refl, true, usize_max, with_index, ℕ, ◌&&◌, ◌++◌, ◌+◌, ◌<◌, ◌∙◌, ◌∷◌, ◌≡◌, ◌≤◌}
use Rattle.clap.specs.declared.builder.value_parser.ValueParser.TheVariants as vp

-- a rule with what building fills in
abbrev pub any_arg : Text → Option Text → Option ℕ → Bool → Bool → Rule
any_arg id long index required flag = record {
  id = id;
  long = long;
  aliases = [];
  short = None;
  short_aliases = [];
  index = index;
  action = Some (if flag then SetTrue else Set);
  range = Some (record { start_inclusive = if flag then 0 else 1; end_inclusive = if flag then 0 else 1 });
  value_names = 0;
  defaults = if flag then missing_flag ∷ [] else [];
  missing = if flag then given_flag ∷ [] else [];
  trailing_var_arg = false;
  parser = Some (if flag then vp.Bool else vp.String);
  ignore_case = false;
  required = required;
  is_simple = true;
  is_free = true;
}

-- of a name that has a value, and of a flag
abbrev pub arg : Text → Option Text → Option ℕ → Bool → Rule
arg id long index required = any_arg id long index required false

abbrev pub flag_arg : Text → Bool → Rule
flag_arg name required = any_arg name (Some name) None required true

abbrev pub place_arg : ℕ → Text → Rule
place_arg i place = arg place None (Some i) true

-- the places, counted from i
abbrev pub place_args : ℕ → List Text → List Rule
place_args i [] = []
place_args i (place ∷ places) = place_arg i place ∷ place_args (i + 1) places

abbrev pub option_arg : FormOption → Rule
option_arg option = any_arg option.name (Some option.name) None option.is_needed option.is_flag

abbrev pub args : Form → List Rule
args form = place_args 1 form.places ++ map option_arg form.options

-- the built command
abbrev pub shape : List Rule → Shape
shape rules = record (new_shape (codes "form")) {
  rules = rules;
  no_binary_name = true;
  disable_help_flag = true;
  disable_help_subcommand = true;
  is_built = true;
}

-- an option is filled in
filled_option : (i : ℕ) (name : Text) (required flag : Bool)
    → with_index i (filled (option_rule (record { name = name; is_needed = required; is_flag = flag }))) ≡ any_arg name (Some name) None required flag
filled_option i name required true = refl
filled_option i name required false = refl

-- options are filled in one by one
filled_options : (i : ℕ) (options : List FormOption) → filled_from i (map option_rule options) ≡ map option_arg options
filled_options i [] = refl
filled_options i (option ∷ options) = ap₂ (λ first rest. first ∷ rest) (filled_option i option.name option.is_needed option.is_flag) (filled_options i options)

-- places that can be counted are counted one by one
pub counted_on : (i : ℕ) → i < usize_max → min (i + 1) usize_max ≡ i + 1
counted_on i within = min-eq_left (omega (arith, within))

filled_places : (i : ℕ) (places : List Text) (options : List FormOption) → i + length places ≤ usize_max
    → filled_from i (map place_rule places ++ map option_rule options) ≡ place_args i places ++ map option_arg options
filled_places i [] options few = filled_options i options
filled_places i (place ∷ places) options few =
    ap (λ k. place_arg i place ∷ filled_from k (map place_rule places ++ map option_rule options)) (counted_on i (omega (arith, few)))
    ∙ ap (λ rest. place_arg i place ∷ rest) (filled_places (i + 1) places options (omega (arith, few)))

-- the places can be counted
abbrev pub AreFew : Form → Type 0
AreFew form = length form.places ≤ 65535

-- what building makes of a form's command
pub built_is : (form : Form) → AreFew form → ◌≡◌ {A = App} (built (app_for form)) (record { top = shape (args form); subs = [] })
unfolding app_with
built_is form few = ap (λ rules. record { top = shape rules; subs = [] }) (filled_places 1 form.places form.options (omega (arith, few)))

-- a test that each option fails finds none of their rules
pub none_of : (p : Rule → Bool) (options : List FormOption) → ((option : FormOption) → p (option_arg option) ≡ false) → list_any p (map option_arg options) ≡ false
none_of p [] fails = refl
none_of p (option ∷ options) fails = rw (fails option) (none_of p options fails)

-- a test that each option passes
pub all_of : (p : Rule → Bool) (options : List FormOption) → ((option : FormOption) → p (option_arg option) ≡ true) → list_all p (map option_arg options) ≡ true
all_of p [] passes = refl
all_of p (option ∷ options) passes = rw (passes option) (all_of p options passes)

-- and that each place does
pub none_of_places : (p : Rule → Bool) (i : ℕ) (places : List Text) (rest : List Rule) → ((i : ℕ) (place : Text) → p (place_arg i place) ≡ false)
    → list_any p rest ≡ false → list_any p (place_args i places ++ rest) ≡ false
none_of_places p i [] rest fails none = none
none_of_places p i (place ∷ places) rest fails none = rw (fails i place) (none_of_places p (i + 1) places rest fails none)

pub all_of_places : (p : Rule → Bool) (i : ℕ) (places : List Text) (rest : List Rule) → ((i : ℕ) (place : Text) → p (place_arg i place) ≡ true)
    → list_all p rest ≡ true → list_all p (place_args i places ++ rest) ≡ true
all_of_places p i [] rest passes all = all
all_of_places p i (place ∷ places) rest passes all = rw (passes i place) (all_of_places p (i + 1) places rest passes all)

all_place_rules : (p : Rule → Bool) (places : List Text) (rest : List Rule) → ((place : Text) → p (place_rule place) ≡ true)
    → list_all p rest ≡ true → list_all p (map place_rule places ++ rest) ≡ true
all_place_rules p [] rest passes all = all
all_place_rules p (place ∷ places) rest passes all = rw (passes place) (all_place_rules p places rest passes all)

-- the same before building
all_rules : (p : Rule → Bool) (options : List FormOption) → ((option : FormOption) → p (option_rule option) ≡ true) → list_all p (map option_rule options) ≡ true
all_rules p [] passes = refl
all_rules p (option ∷ options) passes = rw (passes option) (all_rules p options passes)

-- the command of a form is simple, and no rule of it speaks of another
pub is_free : (form : Form) → AreFew form → is_simple_and_free (app_for form) ≡ true
unfolding app_with
is_free form few =
    let simple : is_buildable (app_for form) ≡ true =
    ap (λ b. b && true) (all_place_rules (λ a. a.is_simple) form.places (map option_rule form.options) (λ place. refl)
    (all_rules (λ a. a.is_simple) form.options (λ option. refl))) in
    let early : Rule → Bool = is_early_multiple (count_by (λ a. is_some a.index) (args form)) in
    let in_order : is_in_order (args form) ≡ true =
    ap not (none_of_places early 1 form.places (map option_arg form.options) (λ i place. refl) (none_of early form.options (λ option. refl))) in
    let ready : is_ready (shape (args form)) ≡ true =
    ap₂ (λ a b. a && b) (all_of_places (λ a. a.is_simple) 1 form.places (map option_arg form.options) (λ i place. refl)
    (all_of (λ a. a.is_simple) form.options (λ option. refl))) in_order in
    let free : has_free_rules (shape (args form)) ≡ true =
    all_of_places (λ a. a.is_free) 1 form.places (map option_arg form.options) (λ i place. refl) (all_of (λ a. a.is_free) form.options (λ option. refl)) in
    ap (λ (b : App). (is_buildable (app_for form) && (is_ready b.top && list_all is_ready_leaf b.subs)) && is_free_app b) (built_is form few)
    ∙ ap₂ (λ a b. a && b) (ap₂ (λ a b. a && b) simple (ap (λ a. a && true) ready)) (ap (λ a. a && true) free)
