-- The model of a stage.
use Rattle.ncl_demo.proofs.Terms.{All, All-append, All-cons, All-contains, All-from_recursion, All-weaker, Bool, Contains, Cover, Depends, FULL_CARRY, FULL_SUM, Gives, HALF_CARRY, HALF_SUM, IsDistinct, IsModel, IsStage, List, Lit, Model, [], ap, arith, bits_in, carry_of, codes, cond, cover_value, covers_of, decimal, drop, drop-drop, eq-eqb, eqb, false, get_or, get_or-drop, le-ltb, length, length-append, length-drop, length-range_with_len, lt-ltb, ltb, map, map-agree_on, map-append, min, nat_eq, ne_eqb, range_with_len, reads, refl, signals_of, size_of_model, stage_answer, subst, suc, sum_of, sym, take, take_all, through, true, weight_of_rows, zero, ℕ, ⊎_elim, ◌*◌, ◌++◌, ◌+◌, ◌-◌, ◌<◌, ◌∙◌, ◌∷◌, ◌≡◌, ◌≢◌, ◌≤◌, ◌⊎◌}
use Rattle.ncl_demo.proofs.Ranges.{range_two, in_range, range_below, range_distinct, map-part}
use Rattle.ncl_demo.proofs.Values.{half_carry, half_sum, full_carry, full_sum}

-- the outputs: the carry, the sums, the new sum, and the inputs after the two bits
abbrev pub outputs_of : ℕ → ℕ → ℕ → List ℕ
outputs_of carries sums width =
    width ∷ range_with_len carries sums ++ (width + 1) ∷ range_with_len (carries + sums + 2) (width - (carries + sums + 2))

-- a model with these covers
abbrev pub model_of : List ℕ → ℕ → ℕ → ℕ → List ℕ → List (List Lit) → List (List Lit) → Model
model_of name carries sums width ins carry sum = record {
  name = name;
  inputs = range_with_len 0 width;
  outputs = outputs_of carries sums width;
  covers = covers_of ins width carry sum;
}

-- what the covers read, and their rows
pub record Suits (width : ℕ) (ins : List ℕ) (carry sum : List (List Lit)) : Type 0 where
  pub low : All (λ s. s < width) ins
  pub short : length ins ≤ 3
  pub carry_fits : All (λ row. length row ≡ length ins) carry
  pub sum_fits : All (λ row. length row ≡ length ins) sum
  pub light : weight_of_rows carry + weight_of_rows sum ≤ 28

module _ (name : List ℕ) (carries sums width : ℕ) (ins : List ℕ) (carry sum : List (List Lit))
    (wide : carries + sums + 2 ≤ width) (narrow : width ≤ 65) (suits : Suits width ins carry sum) where
  abbrev model : Model
  model = model_of name carries sums width ins carry sum

  abbrev outputs : List ℕ
  outputs = outputs_of carries sums width

  -- the signals are numbered one after another
  signals : signals_of model ≡ range_with_len 0 (width + 2)
  signals = range_two width

  driven : (s : ℕ) → s < width + 2 → Contains (signals_of model) s
  driven s below = subst (λ ss. Contains ss s) (sym signals) (in_range (width + 2) s below)

  outputs_low : All (λ s. s < width + 2) outputs
  outputs_low =
      All-append (λ s. s < width + 2) (width ∷ range_with_len carries sums) ((width + 1) ∷ range_with_len (carries + sums + 2) (width - (carries + sums + 2)))
      (All-cons (λ s. s < width + 2) width (range_with_len carries sums) (omega arith) (range_below carries sums (width + 2) (omega arith)))
      (All-cons (λ s. s < width + 2) (width + 1) (range_with_len (carries + sums + 2) (width - (carries + sums + 2))) (omega arith) (range_below (carries + sums + 2) (width - (carries + sums + 2)) (width + 2) (omega arith)))

  pub outputs_many : length outputs ≡ 1 + sums + 1 + (width - (carries + sums + 2))
  outputs_many =
      omega (
        arith,
        length-append (width ∷ range_with_len carries sums) ((width + 1) ∷ range_with_len (carries + sums + 2) (width - (carries + sums + 2))),
        length-range_with_len carries sums,
        length-range_with_len (carries + sums + 2) (width - (carries + sums + 2)),
      )

  pub inputs_many : length model.inputs ≡ width
  inputs_many = length-range_with_len 0 width

  -- a cover drives a signal after the inputs, and reads inputs alone
  abbrev IsLevel : Cover → Type 0
  IsLevel cover = (width ≤ cover.out) × All (λ s. s < width) cover.ins

  levels : All IsLevel model.covers
  levels = All-from_recursion IsLevel model.covers ((omega arith, suits.low), ((omega arith, suits.low), tt))

  depends_down : (x y : ℕ) → Depends model x y → (width ≤ x) × (y < width)
  depends_down x y (reads cover signal among reads_it) =
      let level = All-contains IsLevel model.covers cover levels among in
      (level.0, All-contains (λ s. s < width) cover.ins signal level.1 reads_it)
  depends_down x y (through cover signal other among reads_it rest) =
      let level = All-contains IsLevel model.covers cover levels among in
      let below = All-contains (λ s. s < width) cover.ins signal level.1 reads_it in
      absurd (omega (arith, (depends_down signal other rest).0))

  pub size : size_of_model model ≤ 200
  size = omega (arith, suits.short, suits.light, inputs_many, outputs_many)

  pub is_model : IsModel model
  is_model = record {
    has_input = omega (arith, inputs_many);
    has_output = omega (arith, outputs_many);
    inputs_in_order = ap (range_with_len 0) (sym inputs_many);
    one_driver = subst (IsDistinct nat_eq) (sym signals) (range_distinct (width + 2));
    reads_driven =
        let here : All (λ s. Contains (signals_of model) s) ins = All-weaker (λ s. s < width) (λ s. Contains (signals_of model) s) (λ s below. driven s (omega arith)) ins suits.low in
        All-from_recursion (λ (cover : Cover). All (λ s. Contains (signals_of model) s) cover.ins) model.covers (here, (here, tt));
    outputs_driven = All-weaker (λ s. s < width + 2) (λ s. Contains (signals_of model) s) driven outputs outputs_low;
    no_cycle = λ s cycle. let down = depends_down s s cycle in omega (arith, down.0, down.1);
    row_widths = All-from_recursion (λ (cover : Cover). All (λ row. length row ≡ length cover.ins) cover.rows) model.covers (suits.carry_fits, (suits.sum_fits, tt));
    small = omega (arith, size);
  }

  -- the bits of the signals, at a word and with these two
  abbrev bits_at : List Bool → Bool → Bool → ℕ → Bool
  bits_at word c s n = cond (ltb n width) (get_or word n false) (cond (eqb n width) c s)

  at_input : (word : List Bool) (c s : Bool) (n : ℕ) → n < width → bits_at word c s n ≡ get_or word n false
  at_input word c s n below = ap (λ t. cond t (get_or word n false) (cond (eqb n width) c s)) (lt-ltb n width below)

  at_carry : (word : List Bool) (c s : Bool) → bits_at word c s width ≡ c
  at_carry word c s =
      ap (λ t. cond t (get_or word width false) (cond (eqb width width) c s)) (le-ltb width width (omega arith))
      ∙ ap (λ t. cond t c s) (eq-eqb width width refl)

  at_sum : (word : List Bool) (c s : Bool) → bits_at word c s (width + 1) ≡ s
  at_sum word c s =
      let apart : width + 1 ≢ width = omega arith in
      ap (λ t. cond t (get_or word (width + 1) false) (cond (eqb (width + 1) width) c s)) (le-ltb (width + 1) width (omega arith))
      ∙ ap (λ t. cond t c s) (ne_eqb (width + 1) width apart)

  -- the model gives the values of its rows at the two outputs, and the word's bits at the others
  pub gives : (word : List Bool) (c s : Bool) → length word ≡ width
      → cover_value true carry (map (λ n. get_or word n false) ins) ≡ c
      → cover_value true sum (map (λ n. get_or word n false) ins) ≡ s
      → Gives model word (c ∷ take sums (drop carries word) ++ s ∷ drop (carries + sums + 2) word)
  gives word c s long is_carry is_sum =
      let bits : ℕ → Bool = bits_at word c s in
      let here : (n : ℕ) → n < length word → bits n ≡ get_or word n false = λ n below. at_input word c s n (omega arith) in
      let ins_same : map bits ins ≡ map (λ n. get_or word n false) ins =
      map-agree_on bits (λ n. get_or word n false) ins (λ n among. at_input word c s n (All-contains (λ m. m < width) ins n suits.low among)) in
      let rest_long : length (drop (carries + sums + 2) word) ≤ width - (carries + sums + 2) = omega (arith, length-drop (carries + sums + 2) word) in
      let after = range_with_len (carries + sums + 2) (width - (carries + sums + 2)) in
      let first : map bits (range_with_len carries sums) ≡ take sums (drop carries word) = map-part word carries sums bits (omega arith) here in
      let last : map bits (range_with_len (carries + sums + 2) (width - (carries + sums + 2))) ≡ drop (carries + sums + 2) word =
      map-part word (carries + sums + 2) (width - (carries + sums + 2)) bits (omega arith) here ∙ take_all (width - (carries + sums + 2)) (drop (carries + sums + 2) word) rest_long in (
        bits,
        record {
          inputs = map-part word 0 width bits (omega arith) here ∙ take_all width word (omega arith);
          covers = All-from_recursion (λ (cover : Cover). bits cover.out ≡ cover_value cover.on cover.rows (map bits cover.ins)) model.covers (
            at_carry word c s ∙ sym is_carry ∙ ap (cover_value true carry) (sym ins_same),
            (at_sum word c s ∙ sym is_sum ∙ ap (cover_value true sum) (sym ins_same), tt),
          );
        },
        sym (
            map-append bits (width ∷ range_with_len carries sums) ((width + 1) ∷ after)
            ∙ ap (λ x. x ∷ map bits (range_with_len carries sums) ++ bits (width + 1) ∷ map bits after) (at_carry word c s)
            ∙ ap (λ xs. c ∷ xs ++ bits (width + 1) ∷ map bits after) first
            ∙ ap (λ x. c ∷ take sums (drop carries word) ++ x ∷ map bits after) (at_sum word c s)
            ∙ ap (λ xs. c ∷ take sums (drop carries word) ++ s ∷ xs) last
            ),
      )

-- a model is the stage of this number, one that a text can say, and small
pub record Serves (bits stage : ℕ) (model : Model) : Type 0 where
  pub is_model : IsModel model
  pub is_stage : IsStage bits stage model
  pub small : size_of_model model ≤ 200

-- what a model gives by its rows is the answer of the first stage
first_answer : (carries : ℕ) (word : List Bool) → carries ≡ 0
    → carry_of false (get_or word 0 false) (get_or word 1 false) ∷ take 0 (drop carries word) ++ sum_of false (get_or word 0 false) (get_or word 1 false) ∷ drop (carries + 0 + 2) word
    ≡ stage_answer 0 word
first_answer carries word none =
    let after : carries + 0 + 2 ≡ 2 = omega arith in
    ap (λ n. carry_of false (get_or word 0 false) (get_or word 1 false) ∷ sum_of false (get_or word 0 false) (get_or word 1 false) ∷ drop n word) after

-- and that of a later one
later_answer : (carries stage : ℕ) (word : List Bool) → carries ≡ 1
    → carry_of (get_or word 0 false) (get_or (drop 1 word) (suc stage) false) (get_or (drop 1 word) (suc stage + 1) false) ∷ take (suc stage) (drop carries word)
    ++ sum_of (get_or word 0 false) (get_or (drop 1 word) (suc stage) false) (get_or (drop 1 word) (suc stage + 1) false) ∷ drop (carries + suc stage + 2) word
    ≡ stage_answer (suc stage) word
later_answer carries stage word one =
    let c = get_or word 0 false in
    let a = get_or (drop 1 word) (suc stage) false in
    let b = get_or (drop 1 word) (suc stage + 1) false in
    let after : carries + suc stage + 2 ≡ 1 + (suc stage + 2) = omega arith in
    ap (λ n. carry_of c a b ∷ take (suc stage) (drop n word) ++ sum_of c a b ∷ drop (carries + suc stage + 2) word) one
    ∙ ap (λ n. carry_of c a b ∷ take (suc stage) (drop 1 word) ++ sum_of c a b ∷ drop n word) after
    ∙ ap (λ xs. carry_of c a b ∷ take (suc stage) (drop 1 word) ++ sum_of c a b ∷ xs) (sym (drop-drop (suc stage + 2) 1 word))

-- the two bits that the first stage reads are inputs, and the rows of two bits suit it
suits_half : (width : ℕ) → 2 ≤ width → Suits width (0 ∷ 1 ∷ []) HALF_CARRY HALF_SUM
suits_half width wide = record {
  low = All-from_recursion (λ s. s < width) (0 ∷ 1 ∷ []) (omega arith, (omega arith, tt));
  short = omega arith;
  carry_fits = All-from_recursion (λ (row : List Lit). length row ≡ 2) HALF_CARRY (refl, tt);
  sum_fits = All-from_recursion (λ (row : List Lit). length row ≡ 2) HALF_SUM (refl, (refl, tt));
  light = omega arith;
}

-- and those of three bits suit a later one
suits_full : (width place : ℕ) → place + 2 ≤ width → Suits width (0 ∷ place ∷ (place + 1) ∷ []) FULL_CARRY FULL_SUM
suits_full width place wide = record {
  low = All-from_recursion (λ s. s < width) (0 ∷ place ∷ (place + 1) ∷ []) (omega arith, (omega arith, (omega arith, tt)));
  short = omega arith;
  carry_fits = All-from_recursion (λ (row : List Lit). length row ≡ 3) FULL_CARRY (refl, (refl, (refl, tt)));
  sum_fits = All-from_recursion (λ (row : List Lit). length row ≡ 3) FULL_SUM (refl, (refl, (refl, (refl, tt))));
  light = omega arith;
}

-- the model of the first stage
first_serves : (bits carries width : ℕ) (name : List ℕ) → 0 < bits → bits ≤ 32 → carries ≡ 0 → width ≡ bits_in bits 0 → name ≡ codes "add" ++ decimal 1
    → Serves bits 0 (model_of name carries 0 width (0 ∷ 1 ∷ []) HALF_CARRY HALF_SUM)
first_serves bits carries width name some few none wide named =
    let suits = suits_half width (omega arith) in
    let room : carries + 0 + 2 ≤ width = omega arith in
    let narrow : width ≤ 65 = omega arith in record {
      is_model = is_model name carries 0 width (0 ∷ 1 ∷ []) HALF_CARRY HALF_SUM room narrow suits;
      is_stage = record {
        name = named;
        inputs = inputs_many name carries 0 width (0 ∷ 1 ∷ []) HALF_CARRY HALF_SUM room narrow suits ∙ wide;
        outputs = omega (arith, outputs_many name carries 0 width (0 ∷ 1 ∷ []) HALF_CARRY HALF_SUM room narrow suits);
        gives = λ word long.
            let a = get_or word 0 false in
            let b = get_or word 1 false in
            subst (Gives (model_of name carries 0 width (0 ∷ 1 ∷ []) HALF_CARRY HALF_SUM) word) (first_answer carries word none)
            (gives name carries 0 width (0 ∷ 1 ∷ []) HALF_CARRY HALF_SUM room narrow suits word (carry_of false a b) (sum_of false a b) (long ∙ sym wide) (half_carry a b) (half_sum a b));
      };
      small = size name carries 0 width (0 ∷ 1 ∷ []) HALF_CARRY HALF_SUM room narrow suits;
    }

-- the model of a later stage
later_serves : (bits stage carries place width : ℕ) (name : List ℕ) → suc stage < bits → bits ≤ 32 → carries ≡ 1 → place ≡ carries + suc stage → width ≡ bits_in bits (suc stage)
    → name ≡ codes "add" ++ decimal (suc stage + 1)
    → Serves bits (suc stage) (model_of name carries (suc stage) width (0 ∷ place ∷ (place + 1) ∷ []) FULL_CARRY FULL_SUM)
later_serves bits stage carries place width name within few one at_place wide named =
    let suits = suits_full width place (omega arith) in
    let room : carries + suc stage + 2 ≤ width = omega arith in
    let narrow : width ≤ 65 = omega arith in
    let ins : List ℕ = 0 ∷ place ∷ (place + 1) ∷ [] in record {
      is_model = is_model name carries (suc stage) width ins FULL_CARRY FULL_SUM room narrow suits;
      is_stage = record {
        name = named;
        inputs = inputs_many name carries (suc stage) width ins FULL_CARRY FULL_SUM room narrow suits ∙ wide;
        outputs = omega (arith, outputs_many name carries (suc stage) width ins FULL_CARRY FULL_SUM room narrow suits);
        gives = λ word long.
            let c = get_or word 0 false in
            let a = get_or (drop 1 word) (suc stage) false in
            let b = get_or (drop 1 word) (suc stage + 1) false in
            let first : place ≡ 1 + suc stage = omega arith in
            let second : place + 1 ≡ 1 + (suc stage + 1) = omega arith in
            let reads_a : get_or word place false ≡ a = ap (λ n. get_or word n false) first ∙ sym (get_or-drop 1 word (suc stage) false) in
            let reads_b : get_or word (place + 1) false ≡ b = ap (λ n. get_or word n false) second ∙ sym (get_or-drop 1 word (suc stage + 1) false) in
            let read : map (λ n. get_or word n false) ins ≡ c ∷ a ∷ b ∷ [] = ap (λ x. c ∷ x ∷ get_or word (place + 1) false ∷ []) reads_a ∙ ap (λ x. c ∷ a ∷ x ∷ []) reads_b in
            subst (Gives (model_of name carries (suc stage) width ins FULL_CARRY FULL_SUM) word) (later_answer carries stage word one)
            (gives name carries (suc stage) width ins FULL_CARRY FULL_SUM room narrow suits word (carry_of c a b) (sum_of c a b) (long ∙ sym wide)
            (ap (cover_value true FULL_CARRY) read ∙ full_carry c a b) (ap (cover_value true FULL_SUM) read ∙ full_sum c a b));
      };
      small = size name carries (suc stage) width ins FULL_CARRY FULL_SUM room narrow suits;
    }

-- a model is what its parts are
parts_same : (m : Model) (inputs outputs : List ℕ) (covers : List Cover) → m.inputs ≡ inputs → m.outputs ≡ outputs → m.covers ≡ covers
    → record { name = m.name; inputs = inputs; outputs = outputs; covers = covers } ≡ m
parts_same m inputs outputs covers is_in is_out is_covers =
    let with : List ℕ → List ℕ → List Cover → Model = λ i o c. record { name = m.name; inputs = i; outputs = o; covers = c } in
    ap (λ i. with i outputs covers) (sym is_in) ∙ ap (λ o. with m.inputs o covers) (sym is_out) ∙ ap (λ c. with m.inputs m.outputs c) (sym is_covers)

by_number : (bits stage carries place width : ℕ) (m : Model) → stage < bits → bits ≤ 32 → carries ≡ min stage 1 → place ≡ carries + stage → width ≡ place + 2 * (bits - stage)
    → m.name ≡ codes "add" ++ decimal (stage + 1) → m.inputs ≡ range_with_len 0 width → m.outputs ≡ outputs_of carries stage width
    → ((stage ≡ 0) × (m.covers ≡ covers_of (0 ∷ 1 ∷ []) width HALF_CARRY HALF_SUM)) ⊎ ((stage ≢ 0) × (m.covers ≡ covers_of (0 ∷ place ∷ (place + 1) ∷ []) width FULL_CARRY FULL_SUM))
    → Serves bits stage m
by_number bits zero carries place width m within few is_carries is_place is_width named ins outs is_covers =
    ⊎_elim
    (λ (none, covers). subst (Serves bits 0) (parts_same m (range_with_len 0 width) (outputs_of carries 0 width) (covers_of (0 ∷ 1 ∷ []) width HALF_CARRY HALF_SUM) ins outs covers)
    (first_serves bits carries width m.name (omega arith) few (omega arith) (omega arith) named))
    (λ (some, covers). absurd (some refl))
    is_covers
by_number bits (suc stage) carries place width m within few is_carries is_place is_width named ins outs is_covers =
    ⊎_elim
    (λ (none, covers). absurd (omega arith))
    (λ (some, covers). subst (Serves bits (suc stage)) (parts_same m (range_with_len 0 width) (outputs_of carries (suc stage) width) (covers_of (0 ∷ place ∷ (place + 1) ∷ []) width FULL_CARRY FULL_SUM) ins outs covers)
    (later_serves bits stage carries place width m.name within few (omega arith) is_place (omega arith) named))
    is_covers

-- a model of these parts is the stage of its number
pub stage_serves : (bits stage carries place width : ℕ) (m : Model) → stage < bits → bits ≤ 32 → carries ≡ min stage 1 → place ≡ carries + stage → width ≡ place + 2 * (bits - stage)
    → m.name ≡ codes "add" ++ decimal (stage + 1) → m.inputs ≡ range_with_len 0 (width - 0)
    → m.outputs ≡ width ∷ range_with_len carries (place - carries) ++ (width + 1) ∷ range_with_len (place + 2) (width - (place + 2))
    → ((stage ≡ 0) × (m.covers ≡ covers_of (0 ∷ 1 ∷ []) width HALF_CARRY HALF_SUM)) ⊎ ((stage ≢ 0) × (m.covers ≡ covers_of (0 ∷ place ∷ (place + 1) ∷ []) width FULL_CARRY FULL_SUM))
    → Serves bits stage m
stage_serves bits stage carries place width m within few is_carries is_place is_width named is_in is_out is_covers =
    let all : width - 0 ≡ width = omega arith in
    let sums : place - carries ≡ stage = omega arith in
    let ins : m.inputs ≡ range_with_len 0 width = is_in ∙ ap (range_with_len 0) all in
    let outs : m.outputs ≡ outputs_of carries stage width =
    is_out ∙ ap (λ n. width ∷ range_with_len carries n ++ (width + 1) ∷ range_with_len (place + 2) (width - (place + 2))) sums
    ∙ ap (λ p. width ∷ range_with_len carries stage ++ (width + 1) ∷ range_with_len (p + 2) (width - (p + 2))) is_place in
    by_number bits stage carries place width m within few is_carries is_place is_width named ins outs is_covers
