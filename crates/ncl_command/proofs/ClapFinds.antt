-- Which rule of a form `clap` finds by a place, an id or a name.
use Rattle.ncl_command.proofs.Terms.{Bool, Form, FormOption, List, None, Option, Rule, Some, Text, [], ap, append-nil, arg_by_id, arg_by_index, arg_by_long, arith, bytes_eq, bytes_eq-Decides, eq-eqb, false, find, has_option, if◌then◌else◌, is_some, length, list_any, map, ne_eqb, option_named, or_parts, refl, subst, sym, true, true≢false, unwrap_or, ℕ, ◌++◌, ◌+◌, ◌∙◌, ◌∷◌, ◌≡◌, ◌≤◌}
use Rattle.ncl_command.proofs.FormRules.{any_arg, place_arg, place_args, option_arg, args}

-- no option has a place
no_place : (k : ℕ) (options : List FormOption) → arg_by_index (map option_arg options) k ≡ None
no_place k [] = refl
no_place k (option ∷ options) = no_place k options

-- a place is found by its number
place_at : (k i : ℕ) (done : List Text) (place : Text) (left : List Text) (rest : List Rule) → i + length done ≡ k
    → arg_by_index (place_args i (done ++ place ∷ left) ++ rest) k ≡ Some (place_arg k place)
place_at k i [] place left rest is =
    let here : i ≡ k = omega (arith, is) in
    rw (eq-eqb i k here) (ap (λ j. Some (place_arg j place)) here)
place_at k i (first ∷ done) place left rest is =
    rw (ne_eqb i k (omega (arith, is))) (place_at k (i + 1) done place left rest (omega (arith, is)))

-- and no number is past the last
none_past : (k i : ℕ) (places : List Text) (rest : List Rule) → i + length places ≤ k → arg_by_index rest k ≡ None
    → arg_by_index (place_args i places ++ rest) k ≡ None
none_past k i [] rest past none = none
none_past k i (place ∷ places) rest past none =
    rw (ne_eqb i k (omega (arith, past))) (none_past k (i + 1) places rest (omega (arith, past)) none)

-- the next place is the first that is left
pub next_place : (form : Form) (done : List Text) (place : Text) (left : List Text) → done ++ place ∷ left ≡ form.places
    → arg_by_index (args form) (1 + length done) ≡ Some (place_arg (1 + length done) place)
next_place form done place left is =
    subst (λ places. arg_by_index (place_args 1 places ++ map option_arg form.options) (1 + length done) ≡ Some (place_arg (1 + length done) place)) is
    (place_at (1 + length done) 1 done place left (map option_arg form.options) refl)

-- where none is left there is no next
pub no_next_place : (form : Form) (done : List Text) → done ++ [] ≡ form.places → arg_by_index (args form) (1 + length done) ≡ None
no_next_place form done is =
    subst (λ places. arg_by_index (place_args 1 places ++ map option_arg form.options) (1 + length done) ≡ None) is
    (none_past (1 + length done) 1 (done ++ []) (map option_arg form.options) (omega (arith, ap length (append-nil done)))
    (no_place (1 + length done) form.options))

-- a text is itself
pub same : (text : Text) → bytes_eq text text ≡ true
same text = (bytes_eq-Decides text text).1 refl

-- a place of the form
pub record IsPlace (rules : List Rule) (name : Text) : Type 0 where
  pub index : ℕ
  pub id : arg_by_id rules name ≡ Some (place_arg index name)

place_among : (i : ℕ) (done : List Text) (place : Text) (left : List Text) (rest : List Rule) → IsPlace (place_args i (done ++ place ∷ left) ++ rest) place
place_among i [] place left rest = record { index = i; id = rw (same place) refl }
place_among i (first ∷ done) place left rest = by (bytes_eq first place) refl (place_among (i + 1) done place left rest)
  where
    by : (b : Bool) → bytes_eq first place ≡ b → IsPlace (place_args (i + 1) (done ++ place ∷ left) ++ rest) place
        → IsPlace (place_args i (first ∷ done ++ place ∷ left) ++ rest) place
    by true e found = record { index = i; id = rw e (ap (λ name. Some (place_arg i name)) ((bytes_eq-Decides first place).0 e)) }
    by false e found = record { index = found.index; id = rw e found.id }

pub place_found : (form : Form) (done : List Text) (place : Text) (left : List Text) → done ++ place ∷ left ≡ form.places → IsPlace (args form) place
place_found form done place left is =
    subst (λ places. IsPlace (place_args 1 places ++ map option_arg form.options) place) is
    (place_among 1 done place left (map option_arg form.options))

-- the rule of an option of the form, which is a flag or none
pub record IsFound (rules : List Rule) (name : Text) (flag : Bool) : Type 0 where
  pub required : Bool
  pub long : arg_by_long rules name ≡ Some (any_arg name (Some name) None required flag)
  pub id : arg_by_id rules name ≡ Some (any_arg name (Some name) None required flag)

abbrev is_named : Text → FormOption → Bool
is_named name option = bytes_eq option.name name

later_found : (option : FormOption) (options : List FormOption) (name : Text) (flag : Bool) → bytes_eq option.name name ≡ false
    → IsFound (map option_arg options) name flag → IsFound (map option_arg (option ∷ options)) name flag
later_found option options name flag other found = record { required = found.required; long = rw other found.long; id = rw other found.id }

option_found : (options : List FormOption) (name : Text) (option : FormOption) → find (is_named name) options ≡ Some option → IsFound (map option_arg options) name option.is_flag
option_found [] name option known = absurd (true≢false (sym (ap is_some known)))
option_found (first ∷ options) name option known = by (bytes_eq first.name name) refl (option_found options name option)
  where
    by : (b : Bool) → bytes_eq first.name name ≡ b → (find (is_named name) options ≡ Some option → IsFound (map option_arg options) name option.is_flag)
        → IsFound (map option_arg (first ∷ options)) name option.is_flag
    by true e rest =
        let this : first ≡ option = ap (λ o. unwrap_or o first) (sym (ap (λ b. if b then Some first else find (is_named name) options) e) ∙ known) in
        let here : ◌≡◌ {A = Option Rule} (Some (option_arg first)) (Some (any_arg name (Some name) None first.is_needed first.is_flag)) =
        ap (λ n. Some (any_arg n (Some n) None first.is_needed first.is_flag)) ((bytes_eq-Decides first.name name).0 e) in
        subst (λ (option : FormOption). IsFound (map option_arg (first ∷ options)) name option.is_flag) this
        (record { required = first.is_needed; long = rw e here; id = rw e here })
    by false e rest =
        later_found first options name option.is_flag e
        (rest (sym (ap (λ b. if b then Some first else find (is_named name) options) e) ∙ known))

-- no place has a long name
past_places : (i : ℕ) (places : List Text) (rest : List Rule) (name : Text) → arg_by_long (place_args i places ++ rest) name ≡ arg_by_long rest name
past_places i [] rest name = refl
past_places i (place ∷ places) rest name = past_places (i + 1) places rest name

-- and no place has this name
other_places : (form : Form) (name : Text) → has_option form name ≡ true → (i : ℕ) (places : List Text) (rest : List Rule) → list_any (has_option form) places ≡ false
    → arg_by_id (place_args i places ++ rest) name ≡ arg_by_id rest name
other_places form name known i [] rest apart = refl
other_places form name known i (place ∷ places) rest apart =
    let both = or_parts (has_option form place) (list_any (has_option form) places) apart in
    rw (other (bytes_eq place name) refl both.0) (other_places form name known (i + 1) places rest both.1)
  where
    other : (b : Bool) → bytes_eq place name ≡ b → has_option form place ≡ false → bytes_eq place name ≡ false
    other false e unknown = e
    other true e unknown = absurd (true≢false (sym known ∙ sym (ap (has_option form) ((bytes_eq-Decides place name).0 e)) ∙ unknown))

-- an option is found, where no place has the name of one
pub known_found : (form : Form) (name : Text) (option : FormOption) → option_named form name ≡ Some option → list_any (has_option form) form.places ≡ false
    → IsFound (args form) name option.is_flag
known_found form name option known apart =
    let found = option_found form.options name option known in
    record {
      required = found.required;
      long = past_places 1 form.places (map option_arg form.options) name ∙ found.long;
      id = other_places form name (ap is_some known) 1 form.places (map option_arg form.options) apart ∙ found.id;
    }

option_missed : (options : List FormOption) (name : Text) → find (is_named name) options ≡ None → arg_by_long (map option_arg options) name ≡ None
option_missed [] name unknown = refl
option_missed (option ∷ options) name unknown = by (bytes_eq option.name name) refl (option_missed options name)
  where
    by : (b : Bool) → bytes_eq option.name name ≡ b → (find (is_named name) options ≡ None → arg_by_long (map option_arg options) name ≡ None)
        → arg_by_long (map option_arg (option ∷ options)) name ≡ None
    by true e rest = absurd (true≢false (ap is_some (sym (ap (λ b. if b then Some option else find (is_named name) options) e) ∙ unknown)))
    by false e rest = rw e (rest (sym (ap (λ b. if b then Some option else find (is_named name) options) e) ∙ unknown))

-- and no other name is
pub unknown_missed : (form : Form) (name : Text) → option_named form name ≡ None → arg_by_long (args form) name ≡ None
unknown_missed form name unknown = past_places 1 form.places (map option_arg form.options) name ∙ option_missed form.options name unknown
