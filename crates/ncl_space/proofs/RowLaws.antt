-- The tables that stand in a list of words.
use Rattle.ncl_space.proofs.Terms.{A, AllByRecursion, AreTables, B, Bool, C, D, EndsAt, Holds, IsRow, Kind, List, Pin, [], ap, arith, at, at_pin, cases_lt, constant_table, ext_get_or, false, fun_ext, gate_table, get_or, get_or-append_right, get_or-map-range_with_len, get_or-take, get_or_append_left, get_or_past, get_or_push, inl, inr, is_set, is_value, le-ltb, length, length-append, length-map-range_with_len, length-take, length-take-le, length_push, list_all, list_any, lt-ltb, map, mul-add-lt, mul-le-mul_left, mul-suc, mul-zero, mul_comm, nat_lt, pow-add, pow_mono, products, rail_table, range_with_len, refl, row_table, same_lists, set_of, set_of-low, slice_index_or, some_high, stride_of, subst, suc, sym, tables_in, take, true, value_in, word_of, zero, ℕ, ◌%◌, ◌&&◌, ◌*◌, ◌++◌, ◌+◌, ◌-◌, ◌/◌, ◌<◌, ◌^◌, ◌||◌, ◌∙◌, ◌∷◌, ◌≡◌, ◌≤◌, ◌⊎◌}
use Rattle.ncl_space.proofs.TableLaws.{length-table_of}
use Rattle.ncl_space.proofs.BitLaws.{is_set-past, index-table_of, index-word_of, word_number-word_of}

-- functions that agree below n make one list
map_below-same : {X : Type 0} (n : ℕ) (f g : ℕ → X) → ((i : ℕ) → i < n → f i ≡ g i) → map f (range_with_len 0 n) ≡ map g (range_with_len 0 n)
map_below-same n f g h =
    same_lists (map f (range_with_len 0 n)) (map g (range_with_len 0 n)) (length-map-range_with_len f 0 n ∙ sym (length-map-range_with_len g 0 n))
    (λ k d lt. let below : k < n = omega (arith, length-map-range_with_len f 0 n) in
    get_or-map-range_with_len f 0 n k k d below (omega arith) ∙ h k below ∙ sym (get_or-map-range_with_len g 0 n k k d below (omega arith)))

-- the place of a value in its word, and the word's place
quotient : (j k : ℕ) → k < 64 → (64 * j + k) / 64 ≡ j
quotient j k lt = omega arith

remainder : (j k : ℕ) → k < 64 → (64 * j + k) % 64 ≡ k
remainder j k lt = omega arith

-- a value of a list of words, by word and bit
pub value_in-at : (words : List ℕ) (j k : ℕ) → k < 64 → value_in words (64 * j + k) ≡ is_set (slice_index_or words j 0) k
value_in-at words j k lt = λ t. is_set (slice_index_or words (quotient j k lt t) 0) (remainder j k lt t)

-- a table has a value for each word of its bits
pub length-row_table : (n : ℕ) (words : List ℕ) (k : ℕ) → length (row_table n words k) ≡ 2 ^ n
length-row_table n words k = length-map-range_with_len (λ i. value_in words (64 * (stride_of n * k) + i)) 0 (2 ^ n)

pub get_or-row_table : (n : ℕ) (words : List ℕ) (k i : ℕ) → i < 2 ^ n → slice_index_or (row_table n words k) i false ≡ value_in words (64 * (stride_of n * k) + i)
get_or-row_table n words k i lt = get_or-map-range_with_len (λ i. value_in words (64 * (stride_of n * k) + i)) 0 (2 ^ n) i i false lt (omega arith)

-- the values of a table stand in as many words as it takes
pub values_below : (n i : ℕ) → i < 2 ^ n → i / 64 < stride_of n
values_below n i lt = elim (cases_lt n 6) [
  | inl few ↦
      let none : n - 6 ≡ 0 = omega arith in
      let most : 2 ^ n ≤ 2 ^ 6 = pow_mono {i = n} {j = 6} (omega arith) in
      subst (λ (e : ℕ). i / 64 < 2 ^ e) (sym none) (omega arith)
  | inr many ↦
      let parts : n ≡ (n - 6) + 6 = omega arith in
      let split : 2 ^ n ≡ 2 ^ (n - 6) * 2 ^ 6 = ap (λ (e : ℕ). 2 ^ e) parts ∙ pow-add 2 (n - 6) 6 in
      omega arith
]

-- a place past the end of a table is in the one word of a table that doesn't fill it
pub end_in_word : (n j k : ℕ) → j < stride_of n → k < 64 → 2 ^ n ≤ 64 * j + k → 2 ^ n ≤ k
end_in_word n j k within lt past = elim (cases_lt n 6) [
  | inl few ↦
      let none : n - 6 ≡ 0 = omega arith in
      let one : stride_of n ≡ 1 = ap (λ (e : ℕ). 2 ^ e) none in
      omega arith
  | inr many ↦
      let parts : n ≡ (n - 6) + 6 = omega arith in
      let split : 2 ^ n ≡ 2 ^ (n - 6) * 2 ^ 6 = ap (λ (e : ℕ). 2 ^ e) parts ∙ pow-add 2 (n - 6) 6 in
      absurd (omega arith)
]

-- bit k of word j of a table is its value at 64 * j + k, or 0 past its end
pub bit_of_row : (n : ℕ) (words : List ℕ) (row j k : ℕ) → EndsAt (2 ^ n) words → j < stride_of n → k < 64 → is_set (slice_index_or words (stride_of n * row + j) 0) k ≡ slice_index_or (row_table n words row) (64 * j + k) false
bit_of_row n words row j k ended within lt = elim (cases_lt (64 * j + k) (2 ^ n)) [
  | inl there ↦
      let at : 64 * (stride_of n * row) + (64 * j + k) ≡ 64 * (stride_of n * row + j) + k = omega arith in
      sym (get_or-row_table n words row (64 * j + k) there ∙ ap (value_in words) at ∙ value_in-at words (stride_of n * row + j) k lt)
  | inr past ↦
      ended (stride_of n * row + j) k (end_in_word n j k within lt past) lt
      ∙ sym (get_or_past (row_table n words row) (64 * j + k) false (omega (arith, length-row_table n words row)))
]

-- the word of a value of a table that is there
word_there : (n count k i : ℕ) → k < count → i < 2 ^ n → (64 * (stride_of n * k) + i) / 64 < stride_of n * count
word_there n count k i there lt =
    let within = mul-add-lt k (stride_of n) (i / 64) count there (values_below n i lt) in
    let turned = mul_comm k (stride_of n) in
    omega arith

-- tables that are there stay where words are appended
row_table-append : (n count : ℕ) (words row : List ℕ) (k : ℕ) → length words ≡ stride_of n * count → k < count → row_table n (words ++ row) k ≡ row_table n words k
row_table-append n count words row k whole there =
    map_below-same (2 ^ n) (λ i. value_in (words ++ row) (64 * (stride_of n * k) + i)) (λ i. value_in words (64 * (stride_of n * k) + i))
    (λ i lt. ap (λ (word : ℕ). is_set word ((64 * (stride_of n * k) + i) % 64))
    (get_or_append_left words row 0 ((64 * (stride_of n * k) + i) / 64) (omega (arith, word_there n count k i there lt))))

get_or-after : (words row : List ℕ) (i : ℕ) → get_or (words ++ row) (length words + i) 0 ≡ get_or row i 0
get_or-after words row i =
    let same : length words + i - length words ≡ i = omega arith in
    get_or-append_right words row (length words) (length words + i) 0 refl (omega arith) ∙ ap (λ (j : ℕ). get_or row j 0) same

-- the table of the words that were appended
row_table-last : (n count : ℕ) (words row : List ℕ) → length words ≡ stride_of n * count → row_table n (words ++ row) count ≡ row_table n row 0
row_table-last n count words row whole =
    map_below-same (2 ^ n) (λ i. value_in (words ++ row) (64 * (stride_of n * count) + i)) (λ i. value_in row (64 * (stride_of n * 0) + i))
    (λ i lt.
    let none : stride_of n * 0 ≡ 0 = mul-zero (stride_of n) in
    let word : (64 * (stride_of n * count) + i) / 64 ≡ length words + i / 64 = omega arith in
    let bit : (64 * (stride_of n * count) + i) % 64 ≡ i % 64 = omega arith in
    let same : i ≡ 64 * (stride_of n * 0) + i = omega arith in
    (λ t. is_set (slice_index_or (words ++ row) (word t) 0) (bit t))
    ∙ ap (λ (w : ℕ). is_set w (i % 64)) (get_or-after words row (i / 64))
    ∙ ap (value_in row) same)

pub length-tables_in : (n count : ℕ) (words : List ℕ) → length (tables_in n count words) ≡ count
length-tables_in n count words = length-map-range_with_len (row_table n words) 0 count

-- one table more
pub tables_in-push : (n count : ℕ) (words row : List ℕ) → length words ≡ stride_of n * count → tables_in n (count + 1) (words ++ row) ≡ tables_in n count words ++ row_table n row 0 ∷ []
tables_in-push n count words row whole =
    ext_get_or [] (tables_in n (count + 1) (words ++ row)) (tables_in n count words ++ row_table n row 0 ∷ [])
    (length-map-range_with_len (row_table n (words ++ row)) 0 (count + 1) ∙ sym (length_push (tables_in n count words) (row_table n row 0) ∙ ap (λ (k : ℕ). k + 1) long))
    (λ k lt. elim (cases_lt k count) [
      | inl old ↦
          get_or-map-range_with_len (row_table n (words ++ row)) 0 (count + 1) k k [] (omega arith) (omega arith)
          ∙ row_table-append n count words row k whole old
          ∙ sym (get_or-map-range_with_len (row_table n words) 0 count k k [] old (omega arith))
          ∙ sym (get_or_append_left (tables_in n count words) (row_table n row 0 ∷ []) [] k (omega (arith, long)))
      | inr new ↦
          let below : k < count + 1 = omega (arith, length-map-range_with_len (row_table n (words ++ row)) 0 (count + 1)) in
          let is : k ≡ count = omega arith in
          get_or-map-range_with_len (row_table n (words ++ row)) 0 (count + 1) k count [] below (omega arith)
          ∙ row_table-last n count words row whole
          ∙ sym (get_or_push (tables_in n count words) (row_table n row 0) [] k (long ∙ sym is))
    ])
  where
    long : length (tables_in n count words) ≡ count
    long = length-tables_in n count words

-- the first tables alone
pub tables_in-take : (n count c : ℕ) (words : List ℕ) → c ≤ count → tables_in n c (take (stride_of n * c) words) ≡ take c (tables_in n count words)
tables_in-take n count c words le =
    ext_get_or [] (tables_in n c (take (stride_of n * c) words)) (take c (tables_in n count words))
    (length-map-range_with_len (row_table n (take (stride_of n * c) words)) 0 c ∙ sym (length-take-le c (tables_in n count words) (omega (arith, long))))
    (λ k lt.
    let there : k < c = omega (arith, length-map-range_with_len (row_table n (take (stride_of n * c) words)) 0 c) in
    get_or-map-range_with_len (row_table n (take (stride_of n * c) words)) 0 c k k [] there (omega arith)
    ∙ map_below-same (2 ^ n) (λ i. value_in (take (stride_of n * c) words) (64 * (stride_of n * k) + i)) (λ i. value_in words (64 * (stride_of n * k) + i))
    (λ i i_lt. ap (λ (word : ℕ). is_set word ((64 * (stride_of n * k) + i) % 64)) (get_or-take (stride_of n * c) words ((64 * (stride_of n * k) + i) / 64) 0 (word_there n c k i there i_lt)))
    ∙ sym (get_or-map-range_with_len (row_table n words) 0 count k k [] (omega arith) (omega arith))
    ∙ sym (get_or-take c (tables_in n count words) k [] there))
  where
    long : length (tables_in n count words) ≡ count
    long = length-tables_in n count words

-- a table that is there
pub get_or-tables_in : (n count : ℕ) (words : List ℕ) (k : ℕ) → k < count → slice_index_or (tables_in n count words) k [] ≡ row_table n words k
get_or-tables_in n count words k lt = get_or-map-range_with_len (row_table n words) 0 count k k [] lt (omega arith)

-- words that hold a table are those of that table
pub row_table-holds : (n : ℕ) (row : List ℕ) (t : List Bool) → length t ≡ 2 ^ n → Holds n row t → row_table n row 0 ≡ t
row_table-holds n row t long holds =
    ext_get_or false (row_table n row 0) t (length-row_table n row 0 ∙ sym long)
    (λ i lt.
    let below : i < 2 ^ n = omega (arith, length-row_table n row 0) in
    let none : stride_of n * 0 ≡ 0 = mul-zero (stride_of n) in
    let same : 64 * (stride_of n * 0) + i ≡ i = omega arith in
    let back : 64 * (i / 64) + i % 64 ≡ i = omega arith in
    get_or-row_table n row 0 i below
    ∙ ap (value_in row) same
    ∙ holds.values (i / 64) (i % 64) (values_below n i below) (omega arith)
    ∙ ap (λ (k : ℕ). slice_index_or t k false) back)

-- and have no 1 past its end
pub EndsAt-holds : (n : ℕ) (row : List ℕ) (t : List Bool) → length t ≡ 2 ^ n → Holds n row t → EndsAt (2 ^ n) row
EndsAt-holds n row t long holds j k past lt = elim (cases_lt j (stride_of n)) [
  | inl there ↦ holds.values j k there lt ∙ get_or_past t (64 * j + k) false (omega arith)
  | inr none ↦ ap (λ (w : ℕ). is_set w k) (get_or_past row j 0 (omega (arith, holds.whole))) ∙ is_set-past 0 0 k (omega arith) (omega arith)
]

EndsAt-append : (bits : ℕ) (words row : List ℕ) → EndsAt bits words → EndsAt bits row → EndsAt bits (words ++ row)
EndsAt-append bits words row x y j k past lt = elim (cases_lt j (length words)) [
  | inl left ↦ ap (λ (w : ℕ). is_set w k) (get_or_append_left words row 0 j left) ∙ x j k past lt
  | inr right ↦
      let is : j ≡ length words + (j - length words) = omega arith in
      ap (λ (i : ℕ). is_set (slice_index_or (words ++ row) i 0) k) is
      ∙ ap (λ (w : ℕ). is_set w k) (get_or-after words row (j - length words))
      ∙ y (j - length words) k past lt
]

EndsAt-take : (bits m : ℕ) (words : List ℕ) → EndsAt bits words → EndsAt bits (take m words)
EndsAt-take bits m words x j k past lt = elim (cases_lt j m) [
  | inl there ↦ ap (λ (w : ℕ). is_set w k) (get_or-take m words j 0 there) ∙ x j k past lt
  | inr none ↦ ap (λ (w : ℕ). is_set w k) (get_or_past (take m words) j 0 (omega (arith, length-take m words))) ∙ is_set-past 0 0 k (omega arith) (omega arith)
]

-- the words of one table more
pub AreTables-push : (n stride count : ℕ) (words row : List ℕ) (t : List Bool) → AreTables n stride count words → length t ≡ 2 ^ n → Holds n row t → count + 3 ≤ 2 ^ 32 → AreTables n stride (count + 1) (words ++ row)
AreTables-push n stride count words row t are long holds room = record {
  some_bit = are.some_bit;
  few_bits = are.few_bits;
  stride_is = are.stride_is;
  whole = length-append words row ∙ (λ i. are.whole i + holds.whole i) ∙ sym (mul-suc (stride_of n) count) ∙ ap (λ (k : ℕ). stride_of n * k) (omega arith);
  places = omega arith;
  ended = EndsAt-append (2 ^ n) words row are.ended (EndsAt-holds n row t long holds);
}

-- the words of the first tables
pub AreTables-take : (n stride count c : ℕ) (words : List ℕ) → AreTables n stride count words → c ≤ count → AreTables n stride c (take (stride_of n * c) words)
AreTables-take n stride count c words are le = record {
  some_bit = are.some_bit;
  few_bits = are.few_bits;
  stride_is = are.stride_is;
  whole = length-take-le (stride_of n * c) words (omega (arith, mul-le-mul_left (stride_of n) le, are.whole));
  places = omega (arith, are.places);
  ended = EndsAt-take (2 ^ n) (stride_of n * c) words are.ended;
}

-- words hold the values of a table as far as they go
pub record FillsTo (words : List ℕ) (table : List Bool) (j : ℕ) : Type 0 where
  pub long : length words ≡ j
  pub values : (i k : ℕ) → i < j → k < 64 → is_set (slice_index_or words i 0) k ≡ slice_index_or table (64 * i + k) false

-- with the values of the next word they go one word further
pub FillsTo-push : (words : List ℕ) (word : ℕ) (table : List Bool) (j : ℕ) → FillsTo words table j → ((k : ℕ) → k < 64 → is_set word k ≡ slice_index_or table (64 * j + k) false) → FillsTo (words ++ word ∷ []) table (j + 1)
FillsTo-push words word table j fills here = record {
  long = length_push words word ∙ ap (λ (i : ℕ). i + 1) fills.long;
  values = λ i k lt k_lt. elim (cases_lt i j) [
    | inl old ↦ ap (λ (w : ℕ). is_set w k) (get_or_append_left words (word ∷ []) 0 i (omega (arith, fills.long))) ∙ fills.values i k old k_lt
    | inr new ↦
        let is : j ≡ i = omega arith in
        ap (λ (w : ℕ). is_set w k) (get_or_push words word 0 i (fills.long ∙ is)) ∙ here k k_lt ∙ ap (λ (m : ℕ). slice_index_or table (64 * m + k) false) is
  ];
}

-- a table of at most 10 bits takes at most 16 words
pub stride_of-few : (n : ℕ) → n ≤ 10 → stride_of n ≤ 16
stride_of-few n few = pow_mono {i = n - 6} {j = 4} (omega arith)

-- words that hold a table hold the one that they say
pub IsRow-holds : (n : ℕ) (row : List ℕ) (t : List Bool) → length t ≡ 2 ^ n → Holds n row t → IsRow n row
IsRow-holds n row t long holds = subst (λ (u : List Bool). Holds n row u) (sym (row_table-holds n row t long holds)) holds

-- a number has no value at or past the end of the constant, and every one below has it
pub index-constant : (n : ℕ) (value : Bool) (i : ℕ) → slice_index_or (constant_table n value) i false ≡ (nat_lt i (2 ^ n) && value)
index-constant n value i = elim (cases_lt i (2 ^ n)) [
  | inl lt ↦ index-table_of n (λ word. value) i lt ∙ ap (λ b. b && value) (sym (lt-ltb i (2 ^ n) lt))
  | inr past ↦ get_or_past (constant_table n value) i false (omega (arith, length-table_of n (λ word. value))) ∙ ap (λ b. b && value) (sym (le-ltb i (2 ^ n) past))
]

and_false : (b : Bool) → (b && false) ≡ false
and_false true = refl
and_false false = refl

and_true : (b : Bool) → (b && true) ≡ b
and_true true = refl
and_true false = refl

pub index-zero : (n i : ℕ) → slice_index_or (constant_table n false) i false ≡ false
index-zero n i = index-constant n false i ∙ and_false (nat_lt i (2 ^ n))

-- the bits below the end of a table, in any word of it
pub ones_at : (n j k : ℕ) → j < stride_of n → k < 64 → nat_lt k (2 ^ n) ≡ nat_lt (64 * j + k) (2 ^ n)
ones_at n j k within lt = elim (cases_lt (64 * j + k) (2 ^ n)) [
  | inl there ↦ lt-ltb k (2 ^ n) (omega arith) ∙ sym (lt-ltb (64 * j + k) (2 ^ n) there)
  | inr past ↦ le-ltb k (2 ^ n) (end_in_word n j k within lt past) ∙ sym (le-ltb (64 * j + k) (2 ^ n) past)
]

pub index-one : (n j k : ℕ) → j < stride_of n → k < 64 → nat_lt k (2 ^ n) ≡ slice_index_or (constant_table n true) (64 * j + k) false
index-one n j k within lt = ones_at n j k within lt ∙ sym (index-constant n true (64 * j + k) ∙ and_true (nat_lt (64 * j + k) (2 ^ n)))

-- the values of a rail
pub index-rail : (n bit : ℕ) (value : Bool) (i : ℕ) → bit < n → slice_index_or (rail_table n bit value) i false ≡ (is_value value (is_set i (n - 1 - bit)) && nat_lt i (2 ^ n))
index-rail n bit value i there = elim (cases_lt i (2 ^ n)) [
  | inl lt ↦
      index-table_of n (λ word. is_value value (slice_index_or word bit false)) i lt
      ∙ ap (is_value value) (index-word_of n i bit there)
      ∙ sym (ap (λ b. is_value value (is_set i (n - 1 - bit)) && b) (lt-ltb i (2 ^ n) lt) ∙ and_true (is_value value (is_set i (n - 1 - bit))))
  | inr past ↦
      get_or_past (rail_table n bit value) i false (omega (arith, length-table_of n (λ word. is_value value (slice_index_or word bit false))))
      ∙ sym (ap (λ b. is_value value (is_set i (n - 1 - bit)) && b) (le-ltb i (2 ^ n) past) ∙ and_false (is_value value (is_set i (n - 1 - bit))))
]

-- a bit of the word of a rail, made of the values of its bit and of the ones of a table
pub rail_bit : (n bit j k values ones : ℕ) → bit < n → j < stride_of n → k < 64 → is_set values k ≡ is_set (64 * j + k) (n - 1 - bit) → is_set ones k ≡ nat_lt k (2 ^ n) → (value : Bool) (word : ℕ) → is_set word k ≡ (is_value value (is_set values k) && is_set ones k) → is_set word k ≡ slice_index_or (rail_table n bit value) (64 * j + k) false
rail_bit n bit j k values ones there within lt are fit value word is =
    is
    ∙ (λ t. is_value value (are t) && (fit ∙ ones_at n j k within lt) t)
    ∙ sym (index-rail n bit value (64 * j + k) there)

-- a pin of the gate on tables
pin_value : (n i : ℕ) (ts : List (List Bool)) (p : ℕ) → slice_index_or (map (λ t. slice_index_or t i false) ts) p false ≡ slice_index_or (slice_index_or ts p (constant_table n false)) i false
pin_value n i [] p = sym (index-zero n i)
pin_value n i (t ∷ ts) zero = refl
pin_value n i (t ∷ ts) (suc p) = pin_value n i ts p

-- the values of a gate's table, by those of the tables at four pins, where pins that aren't there are 0
pub index-gate : (n : ℕ) (kind : Kind) (ts : List (List Bool)) (i : ℕ) → AllByRecursion (λ t. length t ≡ 2 ^ n) ts → (a b c d : Bool) → a ≡ slice_index_or (slice_index_or ts 0 (constant_table n false)) i false → b ≡ slice_index_or (slice_index_or ts 1 (constant_table n false)) i false → c ≡ slice_index_or (slice_index_or ts 2 (constant_table n false)) i false → d ≡ slice_index_or (slice_index_or ts 3 (constant_table n false)) i false → set_of kind (a ∷ b ∷ c ∷ d ∷ []) ≡ slice_index_or (gate_table n kind ts) i false
index-gate n kind ts i long a b c d a_is b_is c_is d_is =
    ap (λ (value : Pin → Bool). list_any (λ product. list_all value product) (products kind)) (fun_ext pins)
    ∙ by (cases_lt i (2 ^ n))
  where
    pins : (pin : Pin) → at_pin (a ∷ b ∷ c ∷ d ∷ []) pin ≡ at_pin (map (λ t. slice_index_or t i false) ts) pin
    pins A = a_is ∙ sym (pin_value n i ts 0)
    pins B = b_is ∙ sym (pin_value n i ts 1)
    pins C = c_is ∙ sym (pin_value n i ts 2)
    pins D = d_is ∙ sym (pin_value n i ts 3)

    none : (us : List (List Bool)) → 2 ^ n ≤ i → AllByRecursion (λ t. length t ≡ 2 ^ n) us → some_high (map (λ t. slice_index_or t i false) us) ≡ false
    none [] past all = refl
    none (u ∷ us) past all = (λ t. get_or_past u i false (omega (arith, all.0)) t || none us past all.1 t)

    at_word : (i < 2 ^ n) → (us : List (List Bool)) → map (λ t. slice_index_or t i false) us ≡ map (λ t. at t (word_of n i)) us
    at_word lt [] = refl
    at_word lt (u ∷ us) = (λ t. slice_index_or u (sym (word_number-word_of n i lt) t) false ∷ at_word lt us t)

    by : (i < 2 ^ n) ⊎ (2 ^ n ≤ i) → set_of kind (map (λ t. slice_index_or t i false) ts) ≡ slice_index_or (gate_table n kind ts) i false
    by (inl lt) = ap (set_of kind) (at_word lt ts) ∙ sym (index-table_of n (λ word. set_of kind (map (λ t. at t word) ts)) i lt)
    by (inr past) =
        set_of-low kind (map (λ t. slice_index_or t i false) ts) (none ts past long)
        ∙ sym (get_or_past (gate_table n kind ts) i false (omega (arith, length-table_of n (λ word. set_of kind (map (λ t. at t word) ts)))))
