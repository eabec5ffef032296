-- The carry, from stage to stage.
use Rattle.ncl_demo.proofs.Terms.{Bool, Computes, Gives, HoldsAt, IsAdder, IsStage, List, Model, [], ap, append-nil, append_assoc, arith, bit_of, bit_value, bits_in, carry_and_sums, carry_of, drop, drop-drop, drop_at, false, flat_map, flat_map-append, get_or, get_or-append-add, get_or_at, in_turn, length, length-append, length-map-range_with_len, map, map-range_with_len_more, ones_of, range_with_len, range_with_len-more, refl, shr-shr, shr_below, stage_answer, subst, suc, sum_of, sym, take, take_at, true, zero, ℕ, ◌%◌, ◌*◌, ◌++◌, ◌+◌, ◌-◌, ◌/◌, ◌<◌, ◌==◌, ◌^◌, ◌∙◌, ◌∷◌, ◌≡◌}

-- one more bit of both numbers
pub in_turn_more : (n a b : ℕ) → in_turn (n + 1) a b ≡ in_turn n a b ++ bit_of a n ∷ bit_of b n ∷ []
in_turn_more n a b =
    let both : ℕ → List Bool = λ place. bit_of a place ∷ bit_of b place ∷ [] in
    let last : 0 + n ≡ n = omega arith in
    ap (flat_map both) (range_with_len-more 0 n)
    ∙ flat_map-append both (range_with_len 0 n) ((0 + n) ∷ [])
    ∙ ap (λ m. in_turn n a b ++ both m) last

-- the test for 1 of a number that is 0 or 1
tested : (n : ℕ) → n < 2 → bit_value (n == 1) ≡ n
tested zero low = refl
tested (suc zero) low = refl
tested (suc (suc n)) low = absurd (omega arith)

-- the carry of three bits is half of how many are 1
half_ones : (c a b : Bool) → bit_value (carry_of c a b) ≡ ones_of c a b / 2
half_ones false false false = refl
half_ones false false true = refl
half_ones false true false = refl
half_ones false true true = refl
half_ones true false false = refl
half_ones true false true = refl
half_ones true true false = refl
half_ones true true true = refl

-- how many of the last bits of two numbers and a carry are 1
last_ones : (a b : ℕ) (c : Bool) → ones_of c (a % 2 == 1) (b % 2 == 1) ≡ bit_value c + a % 2 + b % 2
last_ones a b c = omega (arith, tested (a % 2) (omega arith), tested (b % 2) (omega arith))

-- what is left above the last bits of two numbers and a carry
halves : (a b : ℕ) (c : Bool) → (a + b + bit_value c) / 2 ≡ a / 2 + b / 2 + bit_value (carry_of c (a % 2 == 1) (b % 2 == 1))
halves a b c =
    let whole : bit_value (carry_of c (a % 2 == 1) (b % 2 == 1)) ≡ (bit_value c + a % 2 + b % 2) / 2 = half_ones c (a % 2 == 1) (b % 2 == 1) ∙ ap (λ n. n / 2) (last_ones a b c) in
    omega arith

-- and the last bit of their sum
odd : (a b : ℕ) (c : Bool) → ((a + b + bit_value c) % 2 == 1) ≡ sum_of c (a % 2 == 1) (b % 2 == 1)
odd a b c =
    let rest : (a + b + bit_value c) % 2 ≡ (bit_value c + a % 2 + b % 2) % 2 = omega arith in
    ap (λ n. n == 1) rest ∙ ap (λ n. n % 2 == 1) (sym (last_ones a b c))

-- a bit is that of its number
bit_back : (c : Bool) → c ≡ (bit_value c % 2 == 1)
bit_back false = refl
bit_back true = refl

-- two bits for each place
both_many : (a b first count : ℕ) → length (flat_map (λ place. bit_of a place ∷ bit_of b place ∷ []) (range_with_len first count)) ≡ 2 * count
both_many a b first zero = refl
both_many a b first (suc count) = omega (arith, both_many a b (first + 1) count)

-- the answer of a later stage, by the parts of its word
later : (stage : ℕ) (c a b : Bool) (sums rest : List Bool) → length sums ≡ suc stage
    → stage_answer (suc stage) (c ∷ sums ++ a ∷ b ∷ rest) ≡ carry_of c a b ∷ sums ++ sum_of c a b ∷ rest
later stage c a b sums rest long =
    let reads_a : get_or (sums ++ a ∷ b ∷ rest) (suc stage) false ≡ a = get_or_at sums a (b ∷ rest) false (suc stage) long in
    let next : suc stage + 1 ≡ length sums + 1 = omega arith in
    let reads_b : get_or (sums ++ a ∷ b ∷ rest) (suc stage + 1) false ≡ b = ap (λ n. get_or (sums ++ a ∷ b ∷ rest) n false) next ∙ get_or-append-add sums (a ∷ b ∷ rest) 1 false in
    let front : take (suc stage) (sums ++ a ∷ b ∷ rest) ≡ sums = take_at sums (a ∷ b ∷ rest) (suc stage) long in
    let back : drop (suc stage + 2) (sums ++ a ∷ b ∷ rest) ≡ rest = sym (drop-drop 2 (suc stage) (sums ++ a ∷ b ∷ rest)) ∙ ap (drop 2) (drop_at sums (a ∷ b ∷ rest) (suc stage) long) in
    ap (λ x. carry_of c x (get_or (sums ++ a ∷ b ∷ rest) (suc stage + 1) false) ∷ take (suc stage) (sums ++ a ∷ b ∷ rest)
    ++ sum_of c x (get_or (sums ++ a ∷ b ∷ rest) (suc stage + 1) false) ∷ drop (suc stage + 2) (sums ++ a ∷ b ∷ rest)) reads_a
    ∙ ap (λ x. carry_of c a x ∷ take (suc stage) (sums ++ a ∷ b ∷ rest) ++ sum_of c a x ∷ drop (suc stage + 2) (sums ++ a ∷ b ∷ rest)) reads_b
    ∙ ap (λ xs. carry_of c a b ∷ xs ++ sum_of c a b ∷ drop (suc stage + 2) (sums ++ a ∷ b ∷ rest)) front
    ∙ ap (λ xs. carry_of c a b ∷ sums ++ sum_of c a b ∷ xs) back

module _ (bits a b : ℕ) where
  abbrev both : ℕ → List Bool
  both place = bit_of a place ∷ bit_of b place ∷ []

  -- the carry of a stage is what is left of the sum above what is left of the two numbers
  abbrev IsCarry : ℕ → Bool → Type 0
  IsCarry stage c = (a + b) / 2 ^ stage ≡ a / 2 ^ stage + b / 2 ^ stage + bit_value c

  -- the next carry, and the sum
  next_carry : (stage : ℕ) (c : Bool) → IsCarry stage c → IsCarry (stage + 1) (carry_of c (bit_of a stage) (bit_of b stage))
  next_carry stage c is =
      sym (shr-shr (a + b) stage 1) ∙ ap (λ n. n / 2) is ∙ halves (a / 2 ^ stage) (b / 2 ^ stage) c
      ∙ ap (λ n. n + b / 2 ^ stage / 2 + bit_value (carry_of c (bit_of a stage) (bit_of b stage))) (shr-shr a stage 1)
      ∙ ap (λ n. a / 2 ^ (stage + 1) + n + bit_value (carry_of c (bit_of a stage) (bit_of b stage))) (shr-shr b stage 1)

  next_sum : (stage : ℕ) (c : Bool) → IsCarry stage c → sum_of c (bit_of a stage) (bit_of b stage) ≡ bit_of (a + b) stage
  next_sum stage c is = sym (odd (a / 2 ^ stage) (b / 2 ^ stage) c) ∙ ap (λ n. n % 2 == 1) (sym is)

  -- above both numbers the carry is the bit of the sum
  last_carry : (c : Bool) → a < 2 ^ bits → b < 2 ^ bits → IsCarry bits c → c ≡ bit_of (a + b) bits
  last_carry c a_low b_low is =
      let all : bits ≡ 0 + bits = omega arith in
      let a_none : a / 2 ^ bits < 2 ^ 0 = shr_below a 0 bits (subst (λ n. a < 2 ^ n) all a_low) in
      let b_none : b / 2 ^ bits < 2 ^ 0 = shr_below b 0 bits (subst (λ n. b < 2 ^ n) all b_low) in
      let left : (a + b) / 2 ^ bits ≡ bit_value c = omega arith in
      bit_back c ∙ ap (λ n. n % 2 == 1) (sym left)

  -- the word before a stage
  abbrev word_at : ℕ → ℕ → Bool → List Bool
  word_at stage left c = c ∷ map (bit_of (a + b)) (range_with_len 0 stage) ++ flat_map both (range_with_len stage left)

  word_long : (stage left : ℕ) (c : Bool) → length (word_at stage left c) ≡ 1 + stage + 2 * left
  word_long stage left c =
      omega (
        arith,
        length-append (c ∷ map (bit_of (a + b)) (range_with_len 0 stage)) (flat_map both (range_with_len stage left)),
        length-map-range_with_len (bit_of (a + b)) 0 stage,
        both_many a b stage left,
      )

  -- the word after a later stage
  one_more : (stage left : ℕ) (c : Bool) → IsCarry (suc stage) c
      → stage_answer (suc stage) (word_at (suc stage) (suc left) c) ≡ word_at (suc stage + 1) left (carry_of c (bit_of a (suc stage)) (bit_of b (suc stage)))
  one_more stage left c is =
      let sums = map (bit_of (a + b)) (range_with_len 0 (suc stage)) in
      let rest = flat_map both (range_with_len (suc stage + 1) left) in
      let next = carry_of c (bit_of a (suc stage)) (bit_of b (suc stage)) in
      let own : 0 + suc stage ≡ suc stage = omega arith in
      let more : map (bit_of (a + b)) (range_with_len 0 (suc stage + 1)) ≡ sums ++ bit_of (a + b) (suc stage) ∷ [] = map-range_with_len_more (bit_of (a + b)) 0 (suc stage) (suc stage) own in
      later stage c (bit_of a (suc stage)) (bit_of b (suc stage)) sums rest (length-map-range_with_len (bit_of (a + b)) 0 (suc stage))
      ∙ ap (λ s. next ∷ sums ++ s ∷ rest) (next_sum (suc stage) c is)
      ∙ sym (append_assoc (next ∷ sums) (bit_of (a + b) (suc stage) ∷ []) rest)
      ∙ ap (λ xs. next ∷ xs ++ rest) (sym more)

  -- from a later stage on, the stages give the sum
  adds_from : (left stage : ℕ) (models : List Model) (c : Bool) → suc stage + left ≡ bits → length models ≡ left
      → ((k : ℕ) → k < left → HoldsAt (IsStage bits (suc stage + k)) models k) → a < 2 ^ bits → b < 2 ^ bits → IsCarry (suc stage) c
      → Computes models (word_at (suc stage) left c) (carry_and_sums bits (a + b))
  adds_from zero stage [] c ends long stages a_low b_low is =
      let at_end : bits ≡ suc stage = omega arith in
      ap (λ x. x ∷ map (bit_of (a + b)) (range_with_len 0 bits)) (sym (last_carry c a_low b_low (subst (λ n. IsCarry n c) (sym at_end) is)))
      ∙ ap (λ n. c ∷ map (bit_of (a + b)) (range_with_len 0 n)) at_end
      ∙ sym (append-nil (c ∷ map (bit_of (a + b)) (range_with_len 0 (suc stage))))
  adds_from zero stage (model ∷ models) c ends long stages a_low b_low is = absurd (omega arith)
  adds_from (suc left) stage [] c ends long stages a_low b_low is = absurd (omega arith)
  adds_from (suc left) stage (model ∷ models) c ends long stages a_low b_low is =
      let here : IsStage bits (suc stage) model = let own : suc stage + 0 ≡ suc stage = omega arith in subst (λ n. IsStage bits n model) own (stages 0 (omega arith) model) in
      let next = carry_of c (bit_of a (suc stage)) (bit_of b (suc stage)) in
      let same : suc stage + 1 ≡ suc (suc stage) = omega arith in
      let wide : length (word_at (suc stage) (suc left) c) ≡ bits_in bits (suc stage) = word_long (suc stage) (suc left) c ∙ omega arith in (
        word_at (suc stage + 1) left next,
        subst (Gives model (word_at (suc stage) (suc left) c)) (one_more stage left c is) (here.gives (word_at (suc stage) (suc left) c) wide),
        subst (λ n. Computes models (word_at n left next) (carry_and_sums bits (a + b))) (sym same)
            (adds_from left (suc stage) models next (omega arith) (omega arith) (λ k below d.
            let at : suc stage + suc k ≡ suc (suc stage) + k = omega arith in
            subst (λ n. IsStage bits n (get_or models k d)) at (stages (suc k) (omega arith) d))
            a_low b_low (subst (λ n. IsCarry n next) same (next_carry (suc stage) c is))),
      )

  -- all stages give the sum
  adds_whole : (left : ℕ) (models : List Model) → suc left ≡ bits → IsAdder bits models → a < 2 ^ bits → b < 2 ^ bits → Computes models (in_turn (suc left) a b) (carry_and_sums bits (a + b))
  adds_whole left [] ends is a_low b_low = absurd (omega (arith, is.many))
  adds_whole left (model ∷ models) ends is a_low b_low =
      let here : IsStage bits 0 model = is.stages 0 (omega arith) model in
      let none : IsCarry 0 false = omega arith in
      let carry = carry_of false (bit_of a 0) (bit_of b 0) in
      let wide : length (in_turn (suc left) a b) ≡ bits_in bits 0 = both_many a b 0 (suc left) ∙ omega arith in
      let first : stage_answer 0 (in_turn (suc left) a b) ≡ word_at 1 left carry = ap (λ s. carry ∷ s ∷ flat_map both (range_with_len 1 left)) (next_sum 0 false none) in (
        word_at 1 left carry,
        subst (Gives model (in_turn (suc left) a b)) first (here.gives (in_turn (suc left) a b) wide),
        adds_from left 0 models carry (omega arith) (omega (arith, is.many)) (λ k below d.
            let at : suc k ≡ 1 + k = omega arith in
            subst (λ n. IsStage bits n (get_or models k d)) at (is.stages (suc k) (omega arith) d))
            a_low b_low (next_carry 0 false none),
      )

  pub adds : (models : List Model) → 0 < bits → IsAdder bits models → a < 2 ^ bits → b < 2 ^ bits → Computes models (in_turn bits a b) (carry_and_sums bits (a + b))
  adds models some is a_low b_low =
      let ends : suc (bits - 1) ≡ bits = omega arith in
      subst (λ n. Computes models (in_turn n a b) (carry_and_sums bits (a + b))) ends (adds_whole (bits - 1) models ends is a_low b_low)
