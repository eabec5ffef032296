-- Tables of functions of a word: their length and halves, the value at a word, the least word, and that a
-- constant has no bead.
use Rattle.ncl_space.proofs.Terms.{Bool, List, None, Option, Some, [], ap, arith, at, beads_of, common_steps, constant_table, distinct_beads, drop, drop-append_seam, false, find, find-append, high_half, if◌then◌else◌, is_same, least, length, length-append, low_half, map, map-append, not, option_map, option_or, refl, slice_index_or, suc, sym, table_of, take, take-append_seam, true, word_number, words, zero, ℕ, ◌++◌, ◌+◌, ◌<◌, ◌^◌, ◌∙◌, ◌∷◌, ◌≡◌, take-append-drop, length-take-le}
use Rattle.std.specs.FinSet as set

pub pow_suc : (n : ℕ) → 2 ^ suc n ≡ 2 ^ n + 2 ^ n
pow_suc n = grind (arith, common_steps)

-- the number of a word is below the number of words
pub word_number-less : (w : List Bool) → word_number w < 2 ^ length w
word_number-less [] = omega arith
word_number-less (true ∷ w) = omega (arith, word_number-less w, pow_suc (length w))
word_number-less (false ∷ w) = omega (arith, word_number-less w, pow_suc (length w))

pub map_after : (f : List Bool → Bool) (b : Bool) (ws : List (List Bool)) → map f (map (λ w. b ∷ w) ws) ≡ map (λ w. f (b ∷ w)) ws
map_after f b [] = refl
map_after f b (w ∷ ws) = ap (λ l. f (b ∷ w) ∷ l) (map_after f b ws)

-- the table of a function is that where the first bit is 0, and then that where it is 1
pub table_of-halves : (n : ℕ) (f : List Bool → Bool) → table_of (words (suc n)) f ≡ table_of (words n) (λ w. f (false ∷ w)) ++ table_of (words n) (λ w. f (true ∷ w))
table_of-halves n f =
    map-append f (map (λ w. false ∷ w) (words n)) (map (λ w. true ∷ w) (words n))
    ∙ (λ i. map_after f false (words n) i ++ map_after f true (words n) i)

-- functions that agree at every word have one table
pub table_of-same : (n : ℕ) (f g : List Bool → Bool) → ((w : List Bool) → length w ≡ n → f w ≡ g w) → table_of (words n) f ≡ table_of (words n) g
table_of-same zero f g h = ap (λ b. b ∷ []) (h [] refl)
table_of-same (suc n) f g h =
    let l = table_of-same n (λ w. f (false ∷ w)) (λ w. g (false ∷ w)) (λ w e. h (false ∷ w) (ap suc e)) in
    let r = table_of-same n (λ w. f (true ∷ w)) (λ w. g (true ∷ w)) (λ w e. h (true ∷ w) (ap suc e)) in
    table_of-halves n f ∙ (λ i. l i ++ r i) ∙ sym (table_of-halves n g)

-- a table has a value for each word
pub length-table_of : (n : ℕ) (f : List Bool → Bool) → length (table_of (words n) f) ≡ 2 ^ n
length-table_of zero f = refl
length-table_of (suc n) f =
    let l = length-table_of n (λ w. f (false ∷ w)) in
    let r = length-table_of n (λ w. f (true ∷ w)) in
    let p = pow_suc n in
    ap length (table_of-halves n f) ∙ length-append (table_of (words n) (λ w. f (false ∷ w))) (table_of (words n) (λ w. f (true ∷ w))) ∙ omega arith

get_front : (l h : List Bool) (k : ℕ) → k < length l → slice_index_or (l ++ h) k false ≡ slice_index_or l k false
get_front [] h k lt = absurd (omega arith)
get_front (x ∷ l) h zero lt = refl
get_front (x ∷ l) h (suc k) lt = get_front l h k (omega arith)

get_back : (l h : List Bool) (j k : ℕ) → j ≡ length l + k → slice_index_or (l ++ h) j false ≡ slice_index_or h k false
get_back [] h j k e = let same : j ≡ k = omega arith in ap (λ (i : ℕ). slice_index_or h i false) same
get_back (x ∷ l) h zero k e = absurd (omega arith)
get_back (x ∷ l) h (suc j) k e = get_back l h j k (omega arith)

-- the value of two halves at a word is that of one of them at the rest of the word
pub at-low : (l h w : List Bool) → length l ≡ 2 ^ length w → at (l ++ h) (false ∷ w) ≡ at l w
at-low l h w e = get_front l h (word_number w) (omega (arith, word_number-less w))

pub at-high : (l h w : List Bool) → length l ≡ 2 ^ length w → at (l ++ h) (true ∷ w) ≡ at h w
at-high l h w e = get_back l h (2 ^ length w + word_number w) (word_number w) (omega arith)

-- a table is that of its values
pub table_of-at : (n : ℕ) (t : List Bool) → length t ≡ 2 ^ n → table_of (words n) (at t) ≡ t
table_of-at zero [] e = absurd (omega arith)
table_of-at zero (b ∷ []) e = refl
table_of-at zero (b ∷ c ∷ t) e = absurd (omega arith)
table_of-at (suc n) t e =
    let l : List Bool = take (2 ^ n) t in
    let h : List Bool = drop (2 ^ n) t in
    let cut : l ++ h ≡ t = take-append-drop (2 ^ n) t in
    let p = pow_suc n in
    let low : length l ≡ 2 ^ n = length-take-le (2 ^ n) t (omega arith) in
    let high : length h ≡ 2 ^ n = omega (arith, length-append l h, ap length cut) in
    ap (λ u. table_of (words (suc n)) (at u)) (sym cut)
    ∙ table_of-halves n (at (l ++ h))
    ∙ (λ i. (table_of-same n (λ w. at (l ++ h) (false ∷ w)) (at l) (λ w same. at-low l h w (low ∙ ap (λ k. 2 ^ k) (sym same))) ∙ table_of-at n l low) i
    ++ (table_of-same n (λ w. at (l ++ h) (true ∷ w)) (at h) (λ w same. at-high l h w (low ∙ ap (λ k. 2 ^ k) (sym same))) ∙ table_of-at n h high) i)
    ∙ cut

-- the table of a function has its value at each word
pub at_table : (n : ℕ) (f : List Bool → Bool) (w : List Bool) → length w ≡ n → at (table_of (words n) f) w ≡ f w
at_table zero f [] e = refl
at_table zero f (b ∷ w) e = absurd (omega arith)
at_table (suc n) f [] e = absurd (omega arith)
at_table (suc n) f (false ∷ w) e =
    let long : length w ≡ n = omega arith in
    ap (λ t. at t (false ∷ w)) (table_of-halves n f)
    ∙ at-low (table_of (words n) (λ w. f (false ∷ w))) (table_of (words n) (λ w. f (true ∷ w))) w (length-table_of n (λ w. f (false ∷ w)) ∙ ap (λ (k : ℕ). 2 ^ k) (sym long))
    ∙ at_table n (λ w. f (false ∷ w)) w long
at_table (suc n) f (true ∷ w) e =
    let long : length w ≡ n = omega arith in
    ap (λ t. at t (true ∷ w)) (table_of-halves n f)
    ∙ at-high (table_of (words n) (λ w. f (false ∷ w))) (table_of (words n) (λ w. f (true ∷ w))) w (length-table_of n (λ w. f (false ∷ w)) ∙ ap (λ (k : ℕ). 2 ^ k) (sym long))
    ∙ at_table n (λ w. f (true ∷ w)) w long

-- what is found among words that begin with a bit
find-after : (f : List Bool → Bool) (b : Bool) (ws : List (List Bool)) → find f (map (λ w. b ∷ w) ws) ≡ option_map (λ w. b ∷ w) (find (λ w. f (b ∷ w)) ws)
find-after f b [] = refl
find-after f b (w ∷ ws) = by (f (b ∷ w)) (find f (map (λ w. b ∷ w) ws)) (find (λ w. f (b ∷ w)) ws) (find-after f b ws)
  where
    by : (c : Bool) (x y : Option (List Bool)) → x ≡ option_map (λ w. b ∷ w) y → (if c then Some (b ∷ w) else x) ≡ option_map (λ w. b ∷ w) (if c then Some w else y)
    by true x y e = refl
    by false x y e = e

-- the least word that passes a test begins with 0 where there is such a word, and else with 1
pub find-words : (n : ℕ) (f : List Bool → Bool) → find f (words (suc n)) ≡ option_or (option_map (λ w. false ∷ w) (find (λ w. f (false ∷ w)) (words n))) (option_map (λ w. true ∷ w) (find (λ w. f (true ∷ w)) (words n)))
find-words n f =
    find-append f (map (λ w. false ∷ w) (words n)) (map (λ w. true ∷ w) (words n))
    ∙ (λ i. option_or (find-after f false (words n) i) (find-after f true (words n) i))

-- tests that agree at every word find the same word
pub find-same : (n : ℕ) (f g : List Bool → Bool) → ((w : List Bool) → length w ≡ n → f w ≡ g w) → find f (words n) ≡ find g (words n)
find-same zero f g h = ap (λ b. if b then Some [] else None) (h [] refl)
find-same (suc n) f g h =
    let l = find-same n (λ w. f (false ∷ w)) (λ w. g (false ∷ w)) (λ w e. h (false ∷ w) (ap suc e)) in
    let r = find-same n (λ w. f (true ∷ w)) (λ w. g (true ∷ w)) (λ w e. h (true ∷ w) (ap suc e)) in
    find-words n f ∙ (λ i. option_or (option_map (λ w. false ∷ w) (l i)) (option_map (λ w. true ∷ w) (r i))) ∙ sym (find-words n g)

-- the least word of the table of a function is that of the function
pub least-table_of : (n : ℕ) (f : List Bool → Bool) → least true n (table_of (words n) f) ≡ find f (words n)
least-table_of n f = find-same n (at (table_of (words n) f)) f (at_table n f)

pub least-zero_table_of : (n : ℕ) (f : List Bool → Bool) → least false n (table_of (words n) f) ≡ find (λ w. not (f w)) (words n)
least-zero_table_of n f = find-same n (λ w. not (at (table_of (words n) f) w)) (λ w. not (f w)) (λ w e. ap not (at_table n f w e))

-- the halves of two tables in a row
pub low_half-append : (n : ℕ) (l h : List Bool) → length l ≡ 2 ^ n → low_half n (l ++ h) ≡ l
low_half-append n l h e = ap (λ (k : ℕ). take k (l ++ h)) (sym e) ∙ take-append_seam l h

pub high_half-append : (n : ℕ) (l h : List Bool) → length l ≡ 2 ^ n → high_half n (l ++ h) ≡ h
high_half-append n l h e = ap (λ (k : ℕ). drop k (l ++ h)) (sym e) ∙ drop-append_seam l h

pub is_same-self : (t : List Bool) → is_same t t ≡ true
is_same-self [] = refl
is_same-self (true ∷ t) = is_same-self t
is_same-self (false ∷ t) = is_same-self t

-- a table twice in a row has no bead where it has none itself
no_bead_twice : (n : ℕ) (t : List Bool) → length t ≡ 2 ^ n → beads_of n t ≡ [] → beads_of (suc n) (t ++ t) ≡ []
no_bead_twice n t long none =
    (λ i. (if is_same (low_half-append n t t long i) (high_half-append n t t long i) then [] else (t ++ t) ∷ []) ++ beads_of n (low_half-append n t t long i) ++ beads_of n (high_half-append n t t long i))
    ∙ (λ i. (if is_same-self t i then [] else (t ++ t) ∷ []) ++ none i ++ none i)

-- a constant has no bead
pub beads_of-constant : (n : ℕ) (value : Bool) → beads_of n (constant_table n value) ≡ []
beads_of-constant zero value = refl
beads_of-constant (suc n) value =
    ap (beads_of (suc n)) (table_of-halves n (λ w. value))
    ∙ no_bead_twice n (constant_table n value) (length-table_of n (λ w. value)) (beads_of-constant n value)

pub distinct_beads-constant : (n : ℕ) (value : Bool) → distinct_beads n (constant_table n value ∷ []) ≡ set.empty
distinct_beads-constant n value = ap (λ (bs : List (List Bool)). set.from_list (bs ++ [])) (beads_of-constant n value)
