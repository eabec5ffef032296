-- What parts say, one input or cover after another.
use Rattle.ncl_blif.proofs.Terms.{AreDriversKept, Bool, DraftBody, Driver, Input, List, NamedCover, NamedModel, None, Option, Some, [], ap, append_assoc, bytes_eq, cond, cut_at, driver_among, driver_at, drivers_of, drop, false, get_or, has_twins, is_driven, is_some, length, length-map, list_any, list_any-append, map, map_push, or_left, refl, said_by, signal_number, sym, take, true, ℕ, ◌++◌, ◌+◌, ◌<◌, ◌||◌, ◌∙◌, ◌∷◌, ◌≡◌}
use Rattle.ncl_blif.specs.declared.drivers.Driver.TheVariants.{Cover}
use Rattle.ncl_blif.proofs.DriverPlaces.{among-tells, among-input, among-cover, once-input, once-cover, input-first, cover-first}
use Rattle.ncl_blif.proofs.Twins.{twins-middle}

-- the signals of covers
abbrev pub outs_of : List NamedCover → List (List ℕ)
outs_of covers = map (λ (cover : NamedCover). cover.out) covers

-- a look-up tells whether a signal has a driver
pub driven-is : (body : DraftBody) → AreDriversKept body → (name : List ℕ) (found : Option Driver) → found ≡ driver_at body.drivers name → is_driven (said_by body) name ≡ is_some found
driven-is body kept name found is = sym (ap is_some (is ∙ kept.each name) ∙ among-tells (said_by body).inputs (outs_of body.covers.items) name)

-- the model with these inputs, and with these covers
abbrev pub with_inputs : NamedModel → List (List ℕ) → NamedModel
with_inputs model inputs = record model { inputs = inputs }

abbrev pub with_covers : NamedModel → List NamedCover → NamedModel
with_covers model covers = record model { covers = covers }

-- one more input
pub kept-input : (old new : DraftBody) (name : List ℕ) → AreDriversKept old → is_driven (said_by old) name ≡ false
    → map (λ name. name.now) new.inputs.items ≡ (said_by old).inputs ++ name ∷ [] → new.outputs.items ≡ old.outputs.items → new.covers.items ≡ old.covers.items
    → ((q : List ℕ) → driver_at new.drivers q ≡ cond (bytes_eq name q) (Some (Input (length (said_by old).inputs))) (driver_at old.drivers q))
    → AreDriversKept new × (said_by new ≡ with_inputs (said_by old) ((said_by old).inputs ++ name ∷ [])) × (is_driven (said_by old) name ≡ false)
kept-input old new name kept alone inputs outputs covers drivers =
    let outs = outs_of old.covers.items in (
      record {
        each = λ q. drivers q ∙ ap (cond (bytes_eq name q) (Some (Input (length (said_by old).inputs)))) (kept.each q)
            ∙ sym (among-input (said_by old).inputs outs name q alone) ∙ sym (λ i. driver_among (inputs i) (outs_of (covers i)) q);
        once = ap has_twins (λ i. inputs i ++ outs_of (covers i)) ∙ once-input (said_by old).inputs outs name alone kept.once;
      },
      (λ i. record { name = []; inputs = inputs i; outputs = outputs i; covers = covers i }),
      alone,
    )

-- one more cover
pub kept-cover : (old new : DraftBody) (cover : NamedCover) → AreDriversKept old → is_driven (said_by old) cover.out ≡ false
    → new.covers.items ≡ old.covers.items ++ cover ∷ [] → new.outputs.items ≡ old.outputs.items → new.inputs.items ≡ old.inputs.items
    → ((q : List ℕ) → driver_at new.drivers q ≡ cond (bytes_eq cover.out q) (Some (Cover (length old.covers.items))) (driver_at old.drivers q))
    → AreDriversKept new × (said_by new ≡ with_covers (said_by old) ((said_by old).covers ++ cover ∷ []))
kept-cover old new cover kept alone covers outputs inputs drivers =
    let outs = outs_of old.covers.items in
    let more : outs_of new.covers.items ≡ outs ++ cover.out ∷ [] = ap outs_of covers ∙ map_push (λ (cover : NamedCover). cover.out) old.covers.items cover in
    let same : (said_by new).inputs ≡ (said_by old).inputs = ap (map (λ name. name.now)) inputs in (
      record {
        each = λ q. drivers q ∙ ap (λ n. cond (bytes_eq cover.out q) (Some (Cover n)) (driver_at old.drivers q)) (sym (length-map old.covers.items (λ (cover : NamedCover). cover.out)))
            ∙ ap (cond (bytes_eq cover.out q) (Some (Cover (length outs)))) (kept.each q)
            ∙ sym (among-cover (said_by old).inputs outs cover.out q alone) ∙ sym (λ i. driver_among (same i) (more i) q);
        once = ap has_twins (λ i. same i ++ more i) ∙ once-cover (said_by old).inputs outs cover.out alone kept.once;
      },
      (λ i. record { name = []; inputs = same i; outputs = outputs i; covers = covers i }),
    )

-- inputs that are added one after another
pub inputs-more : (old mid new : NamedModel) (before after : List (List ℕ)) (name : List ℕ) → mid ≡ with_inputs old (old.inputs ++ before) → new ≡ with_inputs mid (mid.inputs ++ name ∷ []) → before ++ name ∷ [] ≡ after → new ≡ with_inputs old (old.inputs ++ after)
inputs-more old mid new before after name is more all =
    more ∙ ap (λ m. with_inputs m (m.inputs ++ name ∷ [])) is ∙ ap (with_inputs old) (append_assoc old.inputs before (name ∷ []) ∙ ap (λ names. old.inputs ++ names) all)

wider : (a b c : Bool) → (a || c) ≡ true → (a || (b || c)) ≡ true
wider true b c e = refl
wider false true c e = refl
wider false false c e = e

-- an input that has a driver stands twice among all
pub twins-found : (inputs names outs : List (List ℕ)) (n : ℕ) (name : List ℕ) → n < length names → name ≡ get_or names n name → list_any (bytes_eq name) ((inputs ++ take n names) ++ outs) ≡ true → has_twins ((inputs ++ names) ++ outs) ≡ true
twins-found inputs names outs n name lt at found =
    let before = inputs ++ take n names in
    let back = drop (n + 1) names ++ outs in
    let cut : names ≡ take n names ++ name ∷ drop (n + 1) names = cut_at names n name lt ∙ ap (λ x. take n names ++ x ∷ drop (n + 1) names) (sym at) in
    let whole : (inputs ++ names) ++ outs ≡ before ++ name ∷ back =
    ap (λ ns. (inputs ++ ns) ++ outs) cut ∙ ap (λ ns. ns ++ outs) (sym (append_assoc inputs (take n names) (name ∷ drop (n + 1) names))) ∙ append_assoc before (name ∷ drop (n + 1) names) outs in
    ap has_twins whole ∙ twins-middle before back name ∙ or_left _ _ (among before outs (drop (n + 1) names) found)
  where
    among : (before outs between : List (List ℕ)) → list_any (bytes_eq name) (before ++ outs) ≡ true → list_any (bytes_eq name) (before ++ (between ++ outs)) ≡ true
    among before outs between found =
        list_any-append (bytes_eq name) before (between ++ outs) ∙ ap (λ b. list_any (bytes_eq name) before || b) (list_any-append (bytes_eq name) between outs)
        ∙ wider (list_any (bytes_eq name) before) (list_any (bytes_eq name) between) (list_any (bytes_eq name) outs) (sym (list_any-append (bytes_eq name) before outs) ∙ found)

-- the same of a model to which inputs are added one after another
pub inputs-twice : (old mid : NamedModel) (names : List (List ℕ)) (n : ℕ) (name : List ℕ) → is_driven mid name ≡ true → n < length names → name ≡ get_or names n name → mid ≡ with_inputs old (old.inputs ++ take n names) → has_twins (drivers_of (with_inputs old (old.inputs ++ names))) ≡ true
inputs-twice old mid names n name driven lt at is =
    twins-found old.inputs names (outs_of old.covers) n name lt at (sym (ap (λ m. is_driven m name) is) ∙ driven)

-- and where all are added none stands twice
pub inputs-all : (old : NamedModel) (body : DraftBody) (names : List (List ℕ)) → AreDriversKept body → said_by body ≡ with_inputs old (old.inputs ++ names) → has_twins (drivers_of (with_inputs old (old.inputs ++ names))) ≡ false
inputs-all old body names kept said = sym (ap (λ m. has_twins (drivers_of m)) said) ∙ kept.once

-- the number of a signal by a look-up: none, the place of an input, or that of a cover after the inputs
pub number-none : (body : DraftBody) → AreDriversKept body → (name : List ℕ) (found : Option Driver) → found ≡ driver_at body.drivers name → found ≡ None → is_driven (said_by body) name ≡ false
number-none body kept name found is none = driven-is body kept name found is ∙ ap is_some none

pub number-input : (body : DraftBody) → AreDriversKept body → (name : List ℕ) (found : Option Driver) (n : ℕ) → found ≡ driver_at body.drivers name → found ≡ Some (Input n) → (is_driven (said_by body) name ≡ true) × (n ≡ signal_number (said_by body) name)
number-input body kept name found n is some =
    (driven-is body kept name found is ∙ ap is_some some, (input-first (said_by body).inputs (outs_of body.covers.items) name n (sym (is ∙ kept.each name) ∙ some)).0)

pub number-cover : (body : DraftBody) → AreDriversKept body → (name : List ℕ) (found : Option Driver) (count n : ℕ) → found ≡ driver_at body.drivers name → found ≡ Some (Cover n) → count ≡ length body.inputs.items
    → (is_driven (said_by body) name ≡ true) × (count + n ≡ signal_number (said_by body) name)
number-cover body kept name found count n is some all = (
  driven-is body kept name found is ∙ ap is_some some,
  ap (λ m. m + n) (all ∙ sym (length-map body.inputs.items (λ name. name.now))) ∙ (cover-first (said_by body).inputs (outs_of body.covers.items) name n (sym (is ∙ kept.each name) ∙ some)).0,
)
