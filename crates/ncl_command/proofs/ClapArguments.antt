-- What `clap` sees in an argument, by the kind of the argument.
use Rattle.ncl_command.proofs.Terms.{ArgumentKind, Bool, List, Named, None, Option, Plain, Refused, Some, Text, Valued, [], after_first, ap, ap₂, arith, before_first, bytes_eq, cond, dashed_kind, eqb-false, eqb-true, false, if◌then◌else◌, is_equals, kind_of, length, list_any, long_of, not, option_kind, position_or_len, position_or_len-none, refl, short_of, subst, sym, take-length, true, valued, ◌+◌, ◌==◌, ◌∙◌, ◌∷◌, ◌≡◌}
use Rattle.std.specs.Prelude.{take}

abbrev pub dashes : Text
dashes = 45 ∷ 45 ∷ []

-- an argument that is no flag
pub record IsPlain (argument : Text) : Type 0 where
  pub long : long_of argument ≡ None
  pub short : short_of argument ≡ None
  pub no_dashes : bytes_eq argument dashes ≡ false

-- an argument `--NAME` or `--NAME=VALUE`
pub record IsLong (argument name : Text) (value : Option Text) : Type 0 where
  pub long : long_of argument ≡ Some (name, value)
  pub no_dashes : bytes_eq argument dashes ≡ false

abbrev pub IsSeen : Text → ArgumentKind → Type 0
IsSeen argument Refused = Unit {0}
IsSeen argument Plain = IsPlain argument
IsSeen argument (Named name) = IsLong argument name None
IsSeen argument (Valued name value) = IsLong argument name (Some value)

-- where the first element that passes stands at the end, none does
none_before : {X : Type 0} (p : X → Bool) (xs : List X) → position_or_len p xs ≡ length xs → list_any p xs ≡ false
none_before p [] past = refl
none_before p (x ∷ xs) past = by (p x) refl (λ e. none_before p xs e)
  where
    by : (b : Bool) → p x ≡ b → (position_or_len p xs ≡ length xs → list_any p xs ≡ false) → list_any p (x ∷ xs) ≡ false
    by true e rest =
        let first : position_or_len p (x ∷ xs) ≡ 0 = ap (λ b. cond (not b) (1 + position_or_len p xs) 0) e in
        absurd (omega arith)
    by false e rest =
        let one : position_or_len p (x ∷ xs) ≡ 1 + position_or_len p xs = ap (λ b. cond (not b) (1 + position_or_len p xs) 0) e in
        let none = rest (omega arith) in
        rw e none

-- a text without `=` is a name, and else it is cut at the first
option_seen : (text : Text) → IsSeen (45 ∷ 45 ∷ text) (option_kind text)
option_seen [] = tt
option_seen (byte ∷ rest) = by (position_or_len is_equals text == length text) refl
  where
    text : Text
    text = byte ∷ rest

    value_seen : (value : Text) → after_first is_equals text ≡ value → list_any is_equals text ≡ true
        → IsSeen (45 ∷ 45 ∷ text) (valued (before_first is_equals text) value)
    value_seen [] e some = tt
    value_seen (first ∷ value) e some = record {
      long = ap₂ (λ b v. Some (before_first is_equals text, (if b then Some v else None))) some e;
      no_dashes = refl;
    }

    by : (b : Bool) → (position_or_len is_equals text == length text) ≡ b
        → IsSeen (45 ∷ 45 ∷ text) (if b then Named text else valued (before_first is_equals text) (after_first is_equals text))
    by true e =
        let past = eqb-true (position_or_len is_equals text) (length text) e in
        let whole : before_first is_equals text ≡ text = ap (λ n. take n text) past ∙ take-length text in
        record {
          long = ap₂ (λ b name. Some (name, (if b then Some (after_first is_equals text) else None))) (none_before is_equals text past) whole;
          no_dashes = refl;
        }
    by false e = value_seen (after_first is_equals text) refl (some (list_any is_equals text) refl)
      where
        some : (b : Bool) → list_any is_equals text ≡ b → list_any is_equals text ≡ true
        some true found = found
        some false none =
            absurd (eqb-false (position_or_len is_equals text) (length text) e (position_or_len-none is_equals text none))

-- what follows one dash
dashed_seen : (text : Text) → IsSeen (45 ∷ text) (dashed_kind text)
dashed_seen [] = tt
dashed_seen (byte ∷ rest) = by (byte == 45) refl
  where
    by : (b : Bool) → (byte == 45) ≡ b → IsSeen (45 ∷ byte ∷ rest) (if b then option_kind rest else Refused)
    by true e = subst (λ first. IsSeen (45 ∷ first ∷ rest) (option_kind rest)) (sym (eqb-true byte 45 e)) (option_seen rest)
    by false e = tt

-- every argument is seen as its kind says
pub seen : (argument : Text) → IsSeen argument (kind_of argument)
seen [] = tt
seen (byte ∷ rest) = by (byte == 45) refl
  where
    by : (b : Bool) → (byte == 45) ≡ b → IsSeen (byte ∷ rest) (if b then dashed_kind rest else Plain)
    by true e = subst (λ first. IsSeen (first ∷ rest) (dashed_kind rest)) (sym (eqb-true byte 45 e)) (dashed_seen rest)
    by false e = record { long = rw e refl; short = rw e refl; no_dashes = rw e refl }
