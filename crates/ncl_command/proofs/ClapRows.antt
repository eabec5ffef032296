-- The rows that `clap` keeps of the values that are given, and what it finds in them.
use Rattle.ncl_command.proofs.Terms.{AsWritten, Bool, CommandLine, List, NamedValue, None, Option, Row, Some, Text, [], ap, append-nil, at_row, bytes_eq, false, first_given, first_of, given_flag, has_row, if◌then◌else◌, is_given, is_used, map, map-append, more_values, or_else, refl, sym, true, true≢false, use_fault, used, with_values, ℕ, ◌&&◌, ◌++◌, ◌||◌, ◌∙◌, ◌∷◌, ◌≡◌}
use Rattle.clap.specs.declared.error.kind.ErrorKind.TheVariants as kind
use Rattle.ncl_command.proofs.FormRules.{arg, flag_arg}

-- the row of a value, and the rows of values
abbrev pub row : NamedValue → Row
row one = record {
  id = one.name;
  values = one.value ∷ [];
  count = None;
  source = Some CommandLine;
  reading = AsWritten;
}

abbrev pub rows : List NamedValue → List Row
rows given = map row given

abbrev pub named : Text → Text → NamedValue
named name value = record { name = name; value = value }

-- what is asked of the rows of a name is asked of its values: it is the same at the first of the name, and behind others
by_name : {X : Type 0} (of_rows : List Row → X) (of_values : List NamedValue → X) (name : Text) → of_rows [] ≡ of_values []
    → ((one : NamedValue) (given : List NamedValue) → bytes_eq one.name name ≡ true → of_rows (rows (one ∷ given)) ≡ of_values (one ∷ given))
    → ((one : NamedValue) (given : List NamedValue) → bytes_eq one.name name ≡ false → of_rows (rows given) ≡ of_values given → of_rows (rows (one ∷ given)) ≡ of_values (one ∷ given))
    → (given : List NamedValue) → of_rows (rows given) ≡ of_values given
by_name of_rows of_values name none first behind [] = none
by_name of_rows of_values name none first behind (one ∷ given) = by (bytes_eq one.name name) refl (by_name of_rows of_values name none first behind given)
  where
    by : (b : Bool) → bytes_eq one.name name ≡ b → of_rows (rows given) ≡ of_values given → of_rows (rows (one ∷ given)) ≡ of_values (one ∷ given)
    by true e rest = first one given e
    by false e rest = behind one given e rest

-- a name has a row where it has a value
pub has_row_is : (given : List NamedValue) (name : Text) → has_row name (rows given) ≡ is_given given name
has_row_is given name = by_name (has_row name) (λ g. is_given g name) name refl (λ one given e. rw e refl) (λ one given e rest. rw e rest) given

-- a row was made by the arguments where its name has a value
pub is_used_is : (given : List NamedValue) (name : Text) → is_used name (rows given) ≡ is_given given name
is_used_is given name = by_name (is_used name) (λ g. is_given g name) name refl (λ one given e. rw e refl) (λ one given e rest. rw e rest) given

-- the first value of a name's row is the value of the name
pub first_of_is : (given : List NamedValue) (name : Text) → first_of name (rows given) ≡ first_given given name
first_of_is given name = by_name (first_of name) (λ g. first_given g name) name refl (λ one given e. rw e refl) (λ one given e rest. rw e rest) given

-- a change of the row of a name that has none adds rows at the end
at_end : (given : List NamedValue) (name : Text) (change : Row → List Row) (missing : List Row) → is_given given name ≡ false
    → at_row name change missing (rows given) ≡ rows given ++ missing
at_end [] name change missing new = refl
at_end (one ∷ given) name change missing new = by (bytes_eq one.name name) refl (λ e. at_end given name change missing e)
  where
    by : (b : Bool) → bytes_eq one.name name ≡ b → (is_given given name ≡ false → at_row name change missing (rows given) ≡ rows given ++ missing)
        → at_row name change missing (rows (one ∷ given)) ≡ rows (one ∷ given) ++ missing
    by true e rest = absurd (true≢false (sym (ap (λ b. b || is_given given name) e) ∙ new))
    by false e rest = rw e (ap (λ more. row one ∷ more) (rest (sym (ap (λ b. b || is_given given name) e) ∙ new)))

-- a use with one value adds its row, where the name has none
pub used_is : (given : List NamedValue) (name : Text) (long : Option Text) (index : Option ℕ) (required : Bool) (value : Text) → is_given given name ≡ false
    → used (arg name long index required) (value ∷ []) (rows given) ≡ rows (given ++ named name value ∷ [])
used_is given name long index required value new =
    ap (with_values name AsWritten CommandLine (value ∷ [])) (at_end given name (λ _. []) [] new ∙ append-nil (rows given))
    ∙ at_end given name (more_values CommandLine (value ∷ [])) (row (named name value) ∷ []) new
    ∙ sym (map-append row given (named name value ∷ []))

-- and fails only where the name has a row
pub use_passes : (given : List NamedValue) (name : Text) (long : Option Text) (index : Option ℕ) (required : Bool) (value : Text) → is_given given name ≡ false
    → use_fault false (arg name long index required) (value ∷ []) (rows given) ≡ []
use_passes given name long index required value new =
    ap (λ b. or_else (if b && true then kind.ArgumentConflict ∷ [] else []) []) (has_row_is given name ∙ new)

pub use_repeats : (given : List NamedValue) (name : Text) (long : Option Text) (index : Option ℕ) (required : Bool) (value : Text) → is_given given name ≡ true
    → use_fault false (arg name long index required) (value ∷ []) (rows given) ≡ kind.ArgumentConflict ∷ []
use_repeats given name long index required value old =
    ap (λ b. or_else (if b && true then kind.ArgumentConflict ∷ [] else []) []) (has_row_is given name ∙ old)

-- so does the use of a flag
pub flag_used_is : (given : List NamedValue) (name : Text) (required : Bool) → is_given given name ≡ false
    → used (flag_arg name required) [] (rows given) ≡ rows (given ++ named name given_flag ∷ [])
flag_used_is given name required new =
    ap (with_values name AsWritten CommandLine (given_flag ∷ [])) (at_end given name (λ _. []) [] new ∙ append-nil (rows given))
    ∙ at_end given name (more_values CommandLine (given_flag ∷ [])) (row (named name given_flag) ∷ []) new
    ∙ sym (map-append row given (named name given_flag ∷ []))

pub flag_passes : (given : List NamedValue) (name : Text) (required : Bool) → is_given given name ≡ false
    → use_fault false (flag_arg name required) [] (rows given) ≡ []
flag_passes given name required new =
    ap (λ b. or_else (if b && true then kind.ArgumentConflict ∷ [] else []) []) (has_row_is given name ∙ new)

pub flag_repeats : (given : List NamedValue) (name : Text) (required : Bool) → is_given given name ≡ true
    → use_fault false (flag_arg name required) [] (rows given) ≡ kind.ArgumentConflict ∷ []
flag_repeats given name required old =
    ap (λ b. or_else (if b && true then kind.ArgumentConflict ∷ [] else []) []) (has_row_is given name ∙ old)
