-- What `clap` does after the last argument of a form: no defaults, and the check of what is needed.
use Rattle.clap.specs.Faults.{defaults_fault}
use Rattle.ncl_command.proofs.Terms.{AsWritten, Bool, DefaultValue, Form, FormOption, List, NamedValue, None, Option, Row, Rule, Some, Text, [], ap, ap₂, at_row, bytes_eq, bytes_eq-Decides, check_fault, check_kinds, default_fault, default_rows, explicit_source, false, first_of, fold, fun_ext, given_default_fault, has_needed, has_row, if◌then◌else◌, is_flag, is_given, is_used, list_all, list_any, map, missing_flag, more_values, not, or-false, or-true, or_else, refl, slice_get, sym, true, true≢false, value_given, with_default, ℕ, ◌&&◌, ◌++◌, ◌+◌, ◌||◌, ◌∙◌, ◌∷◌, ◌≡◌}
use Rattle.ncl_command.proofs.FormRules.{any_arg, arg, flag_arg, option_arg, place_args, args, shape}
use Rattle.ncl_command.proofs.ClapRows.{rows, first_of_is, has_row_is, is_used_is}

-- an argument has no default
no_default : (have : List Row) (name : Text) (long : Option Text) (index : Option ℕ) (required : Bool) → with_default have (arg name long index required) ≡ have
no_default have name long index required = by (has_row name have)
  where
    by : (b : Bool) → (if b then have else have) ≡ have
    by true = refl
    by false = refl

default_passes : (have : List Row) (name : Text) (long : Option Text) (index : Option ℕ) (required : Bool) → default_fault have (arg name long index required) ≡ []
default_passes have name long index required = ap (λ b. if b then [] else given_default_fault (arg name long index required) []) (or-true (has_row name have))

places_stay : (have : List Row) (i : ℕ) (places : List Text) (rest : List Rule) → fold with_default have (place_args i places ++ rest) ≡ fold with_default have rest
places_stay have i [] rest = refl
places_stay have i (place ∷ places) rest =
    ap (λ rs. fold with_default rs (place_args (i + 1) places ++ rest)) (no_default have place None (Some i) true) ∙ places_stay have (i + 1) places rest

-- the row of a flag that isn't given
abbrev missing_row : Text → Row
missing_row name = record {
  id = name;
  values = missing_flag ∷ [];
  count = None;
  source = Some DefaultValue;
  reading = AsWritten;
}

-- a change of a row that isn't there adds rows at the end
added : (have : List Row) (name : Text) (change : Row → List Row) (missing : List Row) → has_row name have ≡ false → at_row name change missing have ≡ have ++ missing
added [] name change missing new = refl
added (r ∷ have) name change missing new = by (bytes_eq r.id name) refl (added have name change missing)
  where
    by : (b : Bool) → bytes_eq r.id name ≡ b → (has_row name have ≡ false → at_row name change missing have ≡ have ++ missing)
        → at_row name change missing (r ∷ have) ≡ r ∷ have ++ missing
    by true e rest = absurd (true≢false (sym (ap (λ b. b || has_row name have) e) ∙ new))
    by false e rest = rw e (ap (λ more. r ∷ more) (rest (sym (ap (λ b. b || has_row name have) e) ∙ new)))

-- a flag that is given stays, and one that isn't gets its row
flag_stays : (have : List Row) (name : Text) (required : Bool) → has_row name have ≡ true → with_default have (flag_arg name required) ≡ have
flag_stays have name required old = ap (λ b. if b then have else default_rows name AsWritten (missing_flag ∷ []) have) old

flag_added : (have : List Row) (name : Text) (required : Bool) → has_row name have ≡ false → with_default have (flag_arg name required) ≡ have ++ missing_row name ∷ []
flag_added have name required new =
    ap (λ b. if b then have else default_rows name AsWritten (missing_flag ∷ []) have) new
    ∙ added have name (more_values DefaultValue (missing_flag ∷ [])) (missing_row name ∷ []) new

-- what one row more is to a name
has_row_more : (have : List Row) (more : Row) (name : Text) → has_row name (have ++ more ∷ []) ≡ (has_row name have || bytes_eq more.id name)
has_row_more [] more name = or-false (bytes_eq more.id name)
has_row_more (r ∷ have) more name = ap (λ b. bytes_eq r.id name || b) (has_row_more have more name) ∙ by (bytes_eq r.id name)
  where
    by : (a : Bool) → (a || (has_row name have || bytes_eq more.id name)) ≡ ((a || has_row name have) || bytes_eq more.id name)
    by true = refl
    by false = refl

first_more : (have : List Row) (more : Row) (name : Text)
    → first_of name (have ++ more ∷ []) ≡ (if has_row name have then first_of name have else (if bytes_eq more.id name then slice_get more.values 0 else None))
first_more [] more name = by (bytes_eq more.id name) refl
  where
    by : (b : Bool) → bytes_eq more.id name ≡ b → first_of name (more ∷ []) ≡ (if b then slice_get more.values 0 else None)
    by true e = rw e refl
    by false e = rw e refl
first_more (r ∷ have) more name = by (bytes_eq r.id name) refl (first_more have more name)
  where
    by : (b : Bool) → bytes_eq r.id name ≡ b
        → first_of name (have ++ more ∷ []) ≡ (if has_row name have then first_of name have else (if bytes_eq more.id name then slice_get more.values 0 else None))
        → first_of name (r ∷ have ++ more ∷ []) ≡ (if has_row name (r ∷ have) then first_of name (r ∷ have) else (if bytes_eq more.id name then slice_get more.values 0 else None))
    by true e rest = rw e refl
    by false e rest = rw e rest

used_more : (have : List Row) (more : Row) (name : Text) → explicit_source more.source ≡ false → is_used name (have ++ more ∷ []) ≡ is_used name have
used_more [] more name default = by (bytes_eq more.id name) refl
  where
    by : (b : Bool) → bytes_eq more.id name ≡ b → is_used name (more ∷ []) ≡ false
    by true e = rw e default
    by false e = rw e refl
used_more (r ∷ have) more name default = by (bytes_eq r.id name) refl (used_more have more name default)
  where
    by : (b : Bool) → bytes_eq r.id name ≡ b → is_used name (have ++ more ∷ []) ≡ is_used name have → is_used name (r ∷ have ++ more ∷ []) ≡ is_used name (r ∷ have)
    by true e rest = rw e refl
    by false e rest = rw e rest

-- defaults are not of the arguments
used_as_before : (have : List Row) (id : Text) (required flag : Bool) (name : Text)
    → is_used name (with_default have (any_arg id (Some id) None required flag)) ≡ is_used name have
used_as_before have id required false name = ap (is_used name) (no_default have id (Some id) None required)
used_as_before have id required true name = by (has_row id have) refl
  where
    by : (b : Bool) → has_row id have ≡ b → is_used name (with_default have (flag_arg id required)) ≡ is_used name have
    by true old = ap (is_used name) (flag_stays have id required old)
    by false new = ap (is_used name) (flag_added have id required new) ∙ used_more have (missing_row id) name refl

options_used : (have : List Row) (options : List FormOption) (name : Text) → is_used name (fold with_default have (map option_arg options)) ≡ is_used name have
options_used have [] name = refl
options_used have (option ∷ options) name =
    options_used (with_default have (option_arg option)) options name ∙ used_as_before have option.name option.is_needed option.is_flag name

used_stays : (form : Form) (have : List Row) (name : Text) → is_used name (fold with_default have (args form)) ≡ is_used name have
used_stays form have name = ap (is_used name) (places_stay have 1 form.places (map option_arg form.options)) ∙ options_used have form.options name

-- at the end each name has its first value, and a flag that isn't given the value of one that is missing
none_first_of : (have : List Row) (name : Text) → has_row name have ≡ false → first_of name have ≡ None
none_first_of [] name new = refl
none_first_of (r ∷ have) name new = by (bytes_eq r.id name) refl (none_first_of have name)
  where
    by : (b : Bool) → bytes_eq r.id name ≡ b → (has_row name have ≡ false → first_of name have ≡ None) → first_of name (r ∷ have) ≡ None
    by true e rest = absurd (true≢false (sym (ap (λ b. b || has_row name have) e) ∙ new))
    by false e rest = rw e (rest (sym (ap (λ b. b || has_row name have) e) ∙ new))

-- the value of a name that may be missing
abbrev missing_value : Bool → Option Text
missing_value flag = if flag then Some missing_flag else None

abbrev value_in : Text → Bool → List Row → Option Text
value_in name flag have = if has_row name have then first_of name have else missing_value flag

ends_one : (have : List Row) (id : Text) (required flag : Bool) (name : Text) (later : Bool)
    → value_in name later (with_default have (any_arg id (Some id) None required flag)) ≡ value_in name ((flag && bytes_eq id name) || later) have
ends_one have id required false name later = ap (value_in name later) (no_default have id (Some id) None required)
ends_one have id required true name later = by (has_row id have) refl
  where
    -- a name that has no row isn't this one, which has
    other : (b c : Bool) → has_row name have ≡ b → bytes_eq id name ≡ c → has_row id have ≡ true
        → (if b then first_of name have else missing_value later) ≡ (if b then first_of name have else missing_value (c || later))
    other true c e f old = refl
    other false false e f old = refl
    other false true e f old = absurd (true≢false (sym old ∙ ap (λ n. has_row n have) ((bytes_eq-Decides id name).0 f) ∙ e))

    cases : (b c : Bool) → (if b || c then (if b then first_of name have else missing_value c) else missing_value later)
        ≡ (if b then first_of name have else missing_value (c || later))
    cases true c = refl
    cases false true = refl
    cases false false = refl

    by : (b : Bool) → has_row id have ≡ b → value_in name later (with_default have (flag_arg id required)) ≡ value_in name (bytes_eq id name || later) have
    by true old = ap (value_in name later) (flag_stays have id required old) ∙ other (has_row name have) (bytes_eq id name) refl refl old
    by false new =
        ap (value_in name later) (flag_added have id required new)
        ∙ ap₂ (λ b v. if b then v else missing_value later) (has_row_more have (missing_row id) name) (first_more have (missing_row id) name)
        ∙ cases (has_row name have) (bytes_eq id name)

options_end : (have : List Row) (options : List FormOption) (name : Text)
    → first_of name (fold with_default have (map option_arg options)) ≡ value_in name (is_flag options name) have
options_end have [] name = by (has_row name have) refl
  where
    by : (b : Bool) → has_row name have ≡ b → first_of name have ≡ (if b then first_of name have else None)
    by true e = refl
    by false e = none_first_of have name e
options_end have (option ∷ options) name =
    options_end (with_default have (option_arg option)) options name
    ∙ ends_one have option.name option.is_needed option.is_flag name (is_flag options name)

-- so the rows at the end have the values that the arguments say
pub value_is : (form : Form) (given : List NamedValue) (name : Text) → first_of name (fold with_default (rows given) (args form)) ≡ value_given form given name
value_is form given name =
    ap (first_of name) (places_stay (rows given) 1 form.places (map option_arg form.options)) ∙ options_end (rows given) form.options name
    ∙ ap₂ (λ b v. if b then v else missing_value (is_flag form.options name)) (has_row_is given name) (first_of_is given name)

option_passes : (have : List Row) (name : Text) (required flag : Bool) → default_fault have (any_arg name (Some name) None required flag) ≡ []
option_passes have name required false = default_passes have name (Some name) None required
option_passes have name required true = by (has_row name have)
  where
    by : (b : Bool) → (if b || false then [] else given_default_fault (flag_arg name required) (missing_flag ∷ [])) ≡ []
    by true = refl
    by false = refl

options_pass : (have : List Row) (options : List FormOption) → defaults_fault have (map option_arg options) ≡ []
unfolding defaults_fault
options_pass have [] = refl
options_pass have (option ∷ options) =
    ap₂ or_else (option_passes have option.name option.is_needed option.is_flag) (options_pass (with_default have (option_arg option)) options)

places_pass : (have : List Row) (i : ℕ) (places : List Text) (rest : List Rule) → defaults_fault have (place_args i places ++ rest) ≡ defaults_fault have rest
unfolding defaults_fault
places_pass have i [] rest = refl
places_pass have i (place ∷ places) rest =
    ap₂ or_else (default_passes have place None (Some i) true)
    (ap (λ rs. defaults_fault rs (place_args (i + 1) places ++ rest)) (no_default have place None (Some i) true))
    ∙ places_pass have (i + 1) places rest

pub defaults_pass : (form : Form) (have : List Row) → defaults_fault have (args form) ≡ []
defaults_pass form have = places_pass have 1 form.places (map option_arg form.options) ∙ options_pass have form.options

-- an option that is needed is missing where the check finds one
missing_option : (given : List NamedValue) (options : List FormOption)
    → list_any (λ (a : Rule). a.required && not (is_used a.id (rows given))) (map option_arg options)
    ≡ not (list_all (λ (option : FormOption). not option.is_needed || is_given given option.name) options)
missing_option given [] = refl
missing_option given (option ∷ options) =
    ap₂ (λ b c. option.is_needed && not b || c) (is_used_is given option.name) (missing_option given options)
    ∙ by option.is_needed (is_given given option.name) (list_all (λ (option : FormOption). not option.is_needed || is_given given option.name) options)
  where
    by : (a b c : Bool) → (a && not b || not c) ≡ not ((not a || b) && c)
    by true true c = refl
    by true false c = refl
    by false b c = refl

-- and a place where it finds none
missing_place : (given : List NamedValue) (i : ℕ) (places : List Text) (rest : List Rule)
    → list_any (λ (a : Rule). a.required && not (is_used a.id (rows given))) (place_args i places ++ rest)
    ≡ (not (list_all (is_given given) places) || list_any (λ (a : Rule). a.required && not (is_used a.id (rows given))) rest)
missing_place given i [] rest = refl
missing_place given i (place ∷ places) rest =
    ap₂ (λ b c. not b || c) (is_used_is given place) (missing_place given (i + 1) places rest)
    ∙ by (is_given given place) (list_all (is_given given) places) (list_any (λ (a : Rule). a.required && not (is_used a.id (rows given))) rest)
  where
    by : (a b c : Bool) → (not a || (not b || c)) ≡ (not (a && b) || c)
    by true b c = refl
    by false b c = refl

-- the check finds that something is missing where something needed isn't there
pub check_is : (form : Form) (given : List NamedValue)
    → check_fault (shape (args form)) (fold with_default (rows given) (args form)) false ≡ check_kinds false false (not (has_needed form given))
check_is form given =
    ap (λ (used : Text → Bool). check_kinds false false (list_any (λ (a : Rule). a.required && not (used a.id)) (args form)))
    (fun_ext (λ name. used_stays form (rows given) name))
    ∙ ap (check_kinds false false)
    (missing_place given 1 form.places (map option_arg form.options)
    ∙ ap (λ c. not (list_all (is_given given) form.places) || c) (missing_option given form.options)
    ∙ by (list_all (is_given given) form.places) (list_all (λ (option : FormOption). not option.is_needed || is_given given option.name) form.options))
  where
    by : (a b : Bool) → (not a || not b) ≡ not (a && b)
    by true b = refl
    by false b = refl
