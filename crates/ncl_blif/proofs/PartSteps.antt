-- Parts of a model, one after another.
use Rattle.ncl_blif.proofs.Terms.{BlifFault, Bool, LineData, List, NamedCover, NamedModel, None, PartData, Some, TwoDrivers, [], ap, append-nil, append_assoc, arith, bytes_eq, bytes_eq-Decides, codes, cond, cover_of, cover_out, covers_said, drivers_of, drop, drop_all, drop_more, false, first_field, first_part_fault, flat_map, flat_map-append, get_or, has_ended, has_twins, inputs_said, is_command, is_end, is_inputs, is_malformed, is_names, later_fields, length, length-append, length-flat_map-take, list_any, list_any-append, map, named_model, option_or, outputs_said, part_fault, refl, rows_fault, signals_driven, subst, sym, take, take_all, take_more, true, ℕ, ◌++◌, ◌+◌, ◌<◌, ◌||◌, ◌∙◌, ◌∷◌, ◌≡◌, ◌≤◌}
use Rattle.ncl_blif.proofs.Twins.{twins-middle}
use Rattle.ncl_blif.proofs.Commands.{with_part, or-false}

-- the model that parts say, without its name
abbrev pub unnamed : List PartData → NamedModel
unnamed parts = record (named_model parts) { name = [] }

-- two lists have the same names, in whatever order
pub record SameNames (xs ys : List (List ℕ)) : Type 0 where
  pub any : (p : List ℕ → Bool) → list_any p xs ≡ list_any p ys
  pub twins : has_twins xs ≡ has_twins ys
  pub count : length xs ≡ length ys

same-front : (front xs ys : List (List ℕ)) → SameNames xs ys → SameNames (front ++ xs) (front ++ ys)
same-front [] xs ys same = record { any = same.any; twins = same.twins; count = same.count }
same-front (name ∷ front) xs ys same =
    let more = same-front front xs ys same in
    record { any = λ p. ap (λ b. p name || b) (more.any p); twins = λ i. more.any (bytes_eq name) i || more.twins i; count = let n = more.count in omega arith }

same-middle : (front back : List (List ℕ)) (name : List ℕ) → SameNames (name ∷ front ++ back) (front ++ name ∷ back)
same-middle front back name = record {
  any = λ p. ap (λ b. p name || b) (list_any-append p front back) ∙ turn (p name) (list_any p front) (list_any p back) ∙ sym (list_any-append p front (name ∷ back));
  twins = sym (twins-middle front back name);
  count = omega (arith, length-append front back, length-append front (name ∷ back));
}
  where
    turn : (a b c : Bool) → (a || (b || c)) ≡ (b || (a || c))
    turn true true c = refl
    turn true false c = refl
    turn false true c = refl
    turn false false c = refl

same-twice : (xs ys zs : List (List ℕ)) → SameNames xs ys → SameNames ys zs → SameNames xs zs
same-twice xs ys zs one two = record { any = λ p. one.any p ∙ two.any p; twins = one.twins ∙ two.twins; count = one.count ∙ two.count }

-- .inputs is not .names
inputs-names : (line : LineData) → is_inputs line ≡ true → is_names line ≡ false
inputs-names line inputs = ap (λ field. bytes_eq field (codes ".names")) ((bytes_eq-Decides (first_field line) (codes ".inputs")).0 inputs)

named-step : (part : PartData) (signals inputs : List (List ℕ)) (covers : List NamedCover) (b c : Bool) → (b ≡ true → c ≡ false)
    → SameNames signals (inputs ++ map (λ (cover : NamedCover). cover.out) covers)
    → SameNames (cond b (later_fields part.head) (cond c (cover_out part.head ∷ []) []) ++ signals) ((cond b (later_fields part.head) [] ++ inputs) ++ map (λ (cover : NamedCover). cover.out) (cond c (cover_of part ∷ []) [] ++ covers))
named-step part signals inputs covers true true apart same = absurd (let never : true ≡ false = apart refl in cc)
named-step part signals inputs covers true false apart same =
    let outs = map (λ (cover : NamedCover). cover.out) covers in
    subst (SameNames (later_fields part.head ++ signals)) (sym (append_assoc (later_fields part.head) inputs outs)) (same-front (later_fields part.head) signals (inputs ++ outs) same)
named-step part signals inputs covers false true apart same =
    let outs = map (λ (cover : NamedCover). cover.out) covers in
    same-twice (cover_out part.head ∷ signals) (cover_out part.head ∷ inputs ++ outs) (inputs ++ cover_out part.head ∷ outs) (same-front (cover_out part.head ∷ []) signals (inputs ++ outs) same) (same-middle inputs outs (cover_out part.head))
named-step part signals inputs covers false false apart same = same

-- the signals that parts give a driver, in the order of the text, are those of their model
pub named-same : (parts : List PartData) → SameNames (flat_map signals_driven parts) (drivers_of (named_model parts))
named-same [] = record { any = λ p. refl; twins = refl; count = refl }
named-same (part ∷ parts) =
    named-step part (flat_map signals_driven parts) (flat_map inputs_said parts) (flat_map covers_said parts) (is_inputs part.head) (is_names part.head) (inputs-names part.head) (named-same parts)

-- what is said after one more part
pub with_part-is : (model : NamedModel) (before : List PartData) (part : PartData) → model ≡ unnamed before → with_part model part ≡ unnamed (before ++ part ∷ [])
with_part-is model before part is = ap (λ m. with_part m part) is ∙ (λ i. record {
  name = [];
  inputs = one inputs_said i;
  outputs = one outputs_said i;
  covers = one covers_said i;
})
  where
    one : {X : Type 0} (f : PartData → List X) → flat_map f before ++ f part ≡ flat_map f (before ++ part ∷ [])
    one f = sym (flat_map-append f before (part ∷ []) ∙ ap (λ xs. flat_map f before ++ xs) (append-nil (f part)))

-- whether a signal stands twice after one more part
pub twins-after : (model : NamedModel) (before : List PartData) (part : PartData) → model ≡ unnamed before → has_twins (flat_map signals_driven (before ++ part ∷ [])) ≡ has_twins (drivers_of (with_part model part))
twins-after model before part is = (named-same (before ++ part ∷ [])).twins ∙ sym (ap (λ m. has_twins (drivers_of m)) (with_part-is model before part is))

pub fault-twice : (before : List PartData) (part : PartData) → is_command part.head ≡ true → is_malformed before part.head ≡ false → has_twins (flat_map signals_driven (before ++ part ∷ [])) ≡ true → part_fault before part ≡ Some (TwoDrivers part.head.number)
fault-twice before part command malformed twins = rw (command, malformed, twins)

pub fault-rows : (before : List PartData) (part : PartData) → is_command part.head ≡ true → is_malformed before part.head ≡ false → has_twins (flat_map signals_driven (before ++ part ∷ [])) ≡ false → part_fault before part ≡ rows_fault part.head part.rows
fault-rows before part command malformed twins = rw (command, malformed, twins)

-- whether a model has ended after one more part
pub ended-more : (before : List PartData) (part : PartData) → has_ended (before ++ part ∷ []) ≡ (has_ended before || is_end part.head)
ended-more before part = list_any-append (λ (part : PartData). is_end part.head) before (part ∷ []) ∙ ap (λ b. has_ended before || b) (or-false (is_end part.head))

-- what is said after n of the parts, which broke nothing
pub record AreTaken (parts : List PartData) (n : ℕ) (model : NamedModel) (ended : Bool) : Type 0 where
  pub said : model ≡ unnamed (take n parts)
  pub ends : ended ≡ has_ended (take n parts)
  pub fault : first_part_fault [] parts ≡ first_part_fault (take n parts) (drop n parts)

-- what the rest breaks, from the next part on
pub fault-next : (parts : List PartData) (n : ℕ) (part : PartData) → n < length parts → part ≡ get_or parts n part → first_part_fault (take n parts) (drop n parts) ≡ option_or (part_fault (take n parts) part) (first_part_fault (take (n + 1) parts) (drop (n + 1) parts))
fault-next parts n part lt at =
    ap (first_part_fault (take n parts)) (drop_more parts n part lt ∙ ap (λ p. p ∷ drop (n + 1) parts) (sym at))
    ∙ ap (λ before. option_or (part_fault (take n parts) part) (first_part_fault before (drop (n + 1) parts))) (sym (take_more parts n part lt ∙ ap (λ p. take n parts ++ p ∷ []) (sym at)))

pub taken-more : (parts : List PartData) (n : ℕ) (old new : NamedModel) (ended now : Bool) (part : PartData) → AreTaken parts n old ended → n < length parts → part ≡ get_or parts n part
    → new ≡ unnamed (take n parts ++ part ∷ []) → part_fault (take n parts) part ≡ None → now ≡ has_ended (take n parts ++ part ∷ []) → AreTaken parts (n + 1) new now
taken-more parts n old new ended now part taken lt at said none ends =
    let more : take n parts ++ part ∷ [] ≡ take (n + 1) parts = sym (take_more parts n part lt ∙ ap (λ p. take n parts ++ p ∷ []) (sym at)) in
    record {
      said = said ∙ ap unnamed more;
      ends = ends ∙ ap has_ended more;
      fault = taken.fault ∙ fault-next parts n part lt at ∙ ap (λ o. option_or o (first_part_fault (take (n + 1) parts) (drop (n + 1) parts))) none;
    }

pub taken-broken : (parts : List PartData) (n : ℕ) (old : NamedModel) (ended : Bool) (part : PartData) (fault : BlifFault) → AreTaken parts n old ended → n < length parts → part ≡ get_or parts n part → part_fault (take n parts) part ≡ Some fault → first_part_fault [] parts ≡ Some fault
taken-broken parts n old ended part fault taken lt at broken =
    taken.fault ∙ fault-next parts n part lt at ∙ ap (λ o. option_or o (first_part_fault (take (n + 1) parts) (drop (n + 1) parts))) broken

pub taken-all : (parts : List PartData) (n : ℕ) (model : NamedModel) (ended : Bool) → AreTaken parts n model ended → length parts ≤ n → (first_part_fault [] parts ≡ None) × (model ≡ unnamed parts)
taken-all parts n model ended taken all = (taken.fault ∙ ap (first_part_fault (take n parts)) (drop_all n parts all), taken.said ∙ ap unnamed (take_all n parts all))

-- the signals that have a driver after n parts, and those that the next one gives one, are no more than those of all
pub drivers-room : (parts : List PartData) (n : ℕ) (model : NamedModel) (part : PartData) → model ≡ unnamed (take n parts) → n < length parts → part ≡ get_or parts n part → length (drivers_of model) + length (signals_driven part) ≤ length (drivers_of (named_model parts))
drivers-room parts n model part is lt at =
    let here = ap (λ m. length (drivers_of m)) is in
    let some = (named-same (take n parts)).count in
    let all = (named-same parts).count in
    let fits = length-flat_map-take signals_driven parts n part lt in
    let next = ap (λ p. length (signals_driven p)) at in
    omega arith
