-- What drives a signal, by the places of the inputs and of the covers' signals.
use Rattle.ncl_blif.proofs.Terms.{Bool, Driver, Input, List, None, Option, Some, [], ap, append-nil, append_assoc, bytes_eq, bytes_eq-Decides, cond, cond-false, cond-true, driver_among, false, has_twins, is_some, length, list_any, list_any-append, ltb, ltb-true, nat_list_eq_equiv, option_map, option_or, or_from, or_parts, position, position_or_len, refl, subst, sym, true, ℕ, ◌++◌, ◌+◌, ◌<◌, ◌||◌, ◌∙◌, ◌∷◌, ◌≡◌}
use Rattle.ncl_blif.specs.declared.drivers.Driver.TheVariants.{Cover}
use Rattle.ncl_blif.proofs.Places.{any-place, position-push, place-append}
use Rattle.ncl_blif.proofs.Twins.{twins-middle}

-- whether something drives a signal is whether it is among these
pub among-tells : (inputs outs : List (List ℕ)) (name : List ℕ) → is_some (driver_among inputs outs name) ≡ list_any (bytes_eq name) (inputs ++ outs)
among-tells inputs outs name =
    either (ltb (position_or_len (bytes_eq name) inputs) (length inputs)) (ltb (position_or_len (bytes_eq name) outs) (length outs)) _ _
    ∙ sym (rw (list_any-append (bytes_eq name) inputs outs, any-place (bytes_eq name) inputs, any-place (bytes_eq name) outs))
  where
    either : (b c : Bool) (m n : ℕ) → is_some (option_or (option_map (λ place. Input place) (cond b (Some m) None)) (option_map (λ place. Cover place) (cond c (Some n) None))) ≡ (b || c)
    either true c m n = refl
    either false true m n = refl
    either false false m n = refl

no-place : (p : List ℕ → Bool) (xs : List (List ℕ)) → list_any p xs ≡ false → position p xs ≡ None
no-place p xs none = cond-false (ltb (position_or_len p xs) (length xs)) (Some (position_or_len p xs)) None (sym (any-place p xs) ∙ none)

-- where a name is not among some, another that is the same has no place there
other-place : (name q : List ℕ) (xs : List (List ℕ)) → list_any (bytes_eq name) xs ≡ false → bytes_eq q name ≡ true → position (bytes_eq q) xs ≡ None
other-place name q xs none same = no-place (bytes_eq q) xs (ap (λ x. list_any (bytes_eq x) xs) ((bytes_eq-Decides q name).0 same) ∙ none)

-- one more input
pub among-input : (inputs outs : List (List ℕ)) (name q : List ℕ) → list_any (bytes_eq name) (inputs ++ outs) ≡ false → driver_among (inputs ++ name ∷ []) outs q ≡ cond (bytes_eq name q) (Some (Input (length inputs))) (driver_among inputs outs q)
among-input inputs outs name q none =
    let parts = or_parts (list_any (bytes_eq name) inputs) (list_any (bytes_eq name) outs) (sym (list_any-append (bytes_eq name) inputs outs) ∙ none) in
    rw (position-push (bytes_eq q) inputs name, nat_list_eq_equiv.symm name q)
    (turn (bytes_eq q name) (position (bytes_eq q) inputs) (option_map (λ place. Cover place) (position (bytes_eq q) outs)) (length inputs) (other-place name q inputs parts.0))
  where
    turn : (b : Bool) (found : Option ℕ) (other : Option Driver) (n : ℕ) → (b ≡ true → found ≡ None) → option_or (option_map (λ place. Input place) (option_or found (cond b (Some n) None))) other ≡ cond b (Some (Input n)) (option_or (option_map (λ place. Input place) found) other)
    turn true None other n apart = refl
    turn true (Some m) other n apart = absurd (let never : Some m ≡ None = apart refl in cc)
    turn false None other n apart = refl
    turn false (Some m) other n apart = refl

-- one more cover
pub among-cover : (inputs outs : List (List ℕ)) (name q : List ℕ) → list_any (bytes_eq name) (inputs ++ outs) ≡ false → driver_among inputs (outs ++ name ∷ []) q ≡ cond (bytes_eq name q) (Some (Cover (length outs))) (driver_among inputs outs q)
among-cover inputs outs name q none =
    let parts = or_parts (list_any (bytes_eq name) inputs) (list_any (bytes_eq name) outs) (sym (list_any-append (bytes_eq name) inputs outs) ∙ none) in
    rw (position-push (bytes_eq q) outs name, nat_list_eq_equiv.symm name q)
    (turn (bytes_eq q name) (position (bytes_eq q) inputs) (position (bytes_eq q) outs) (length outs) (other-place name q inputs parts.0) (other-place name q outs parts.1))
  where
    turn : (b : Bool) (input found : Option ℕ) (n : ℕ) → (b ≡ true → input ≡ None) → (b ≡ true → found ≡ None) → option_or (option_map (λ place. Input place) input) (option_map (λ place. Cover place) (option_or found (cond b (Some n) None))) ≡ cond b (Some (Cover n)) (option_or (option_map (λ place. Input place) input) (option_map (λ place. Cover place) found))
    turn true None None n apart away = refl
    turn true (Some m) found n apart away = absurd (let never : Some m ≡ None = apart refl in cc)
    turn true None (Some m) n apart away = absurd (let never : Some m ≡ None = away refl in cc)
    turn false None None n apart away = refl
    turn false None (Some m) n apart away = refl
    turn false (Some m) found n apart away = refl

-- one more input or cover that is not among the others doesn't stand twice
pub once-input : (inputs outs : List (List ℕ)) (name : List ℕ) → list_any (bytes_eq name) (inputs ++ outs) ≡ false → has_twins (inputs ++ outs) ≡ false → has_twins ((inputs ++ name ∷ []) ++ outs) ≡ false
once-input inputs outs name none once =
    ap has_twins (append_assoc inputs (name ∷ []) outs) ∙ twins-middle inputs outs name ∙ or_from _ _ none once

pub once-cover : (inputs outs : List (List ℕ)) (name : List ℕ) → list_any (bytes_eq name) (inputs ++ outs) ≡ false → has_twins (inputs ++ outs) ≡ false → has_twins (inputs ++ (outs ++ name ∷ [])) ≡ false
once-cover inputs outs name none once =
    ap has_twins (sym (append_assoc inputs outs (name ∷ []))) ∙ twins-middle (inputs ++ outs) [] name
    ∙ or_from _ _ (ap (list_any (bytes_eq name)) (append-nil (inputs ++ outs)) ∙ none) (ap has_twins (append-nil (inputs ++ outs)) ∙ once)

-- the place of an input among all
pub input-first : (inputs outs : List (List ℕ)) (name : List ℕ) (n : ℕ) → driver_among inputs outs name ≡ Some (Input n) → (n ≡ position_or_len (bytes_eq name) (inputs ++ outs)) × (n < length inputs)
input-first inputs outs name n is =
    let p = bytes_eq name in
    let found = either (ltb (position_or_len p inputs) (length inputs)) (position_or_len p inputs) (position p outs) is in
    (found.1 ∙ sym (place-append p inputs outs ∙ cond-true _ _ _ found.0), subst (λ k. k < length inputs) (sym found.1) (ltb-true (position_or_len p inputs) (length inputs) found.0))
  where
    either : (b : Bool) (k : ℕ) (other : Option ℕ) → option_or (option_map (λ place. Input place) (cond b (Some k) None)) (option_map (λ place. Cover place) other) ≡ Some (Input n) → (b ≡ true) × (n ≡ k)
    either true k other is = (refl, cc)
    either false k None is = absurd cc
    either false k (Some m) is = absurd cc

-- the place of a cover's signal among all
pub cover-first : (inputs outs : List (List ℕ)) (name : List ℕ) (n : ℕ) → driver_among inputs outs name ≡ Some (Cover n) → (length inputs + n ≡ position_or_len (bytes_eq name) (inputs ++ outs)) × (n < length outs)
cover-first inputs outs name n is =
    let p = bytes_eq name in
    let found = either (ltb (position_or_len p inputs) (length inputs)) (ltb (position_or_len p outs) (length outs)) (position_or_len p inputs) (position_or_len p outs) is in
    (ap (λ k. length inputs + k) found.2 ∙ sym (place-append p inputs outs ∙ cond-false _ _ _ found.0), subst (λ k. k < length outs) (sym found.2) (ltb-true (position_or_len p outs) (length outs) found.1))
  where
    either : (b c : Bool) (k m : ℕ) → option_or (option_map (λ place. Input place) (cond b (Some k) None)) (option_map (λ place. Cover place) (cond c (Some m) None)) ≡ Some (Cover n) → (b ≡ false) × (c ≡ true) × (n ≡ m)
    either true c k m is = absurd cc
    either false true k m is = (refl, refl, cc)
    either false false k m is = absurd cc
