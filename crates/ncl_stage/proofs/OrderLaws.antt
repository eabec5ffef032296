-- The laws of words in an order of their bits.
use Rattle.std.specs.List.{IsDistinct}
use Rattle.ncl_stage.proofs.Terms.{AllByRecursion, Bool, Contains, Contains-from_Member, IsDistinct-push, IsOrderOf, List, Member, Member-append_cases, Member-append_left, Member-append_right, Member-from_Contains, Member-map, Member-range, Member-words, Option, Some, [], ap, append-nil, arith, below_of_range, both_ways, common_steps, cond, eq-eqb, eqb-true, false, find, get_or, get_or-map, get_or-range_with_len, here, inl, inr, le-length_from_below, length, length-le_from_distinct_below, length-map, length-range_with_len, list_any, list_any-from_member, map, map-append, map-map, map-same, member_cases, member_from_list_any, member_of_map, nat_eq, nat_eq_equiv, option_map, placed, range_with_len, refl, stands_or_not, subst, suc, sym, table_of, taken, there, true, with_bit, with_bits, word_number, words, words_by, zero, ℕ, ◌++◌, ◌+◌, ◌<◌, ◌^◌, ◌∙◌, ◌∷◌, ◌≡◌, ◌≤◌, ◌⊎◌}
use Rattle.std.proofs.lemmas.List.{append_assoc}
use Rattle.ncl_stage.specs.BitOrder.{place_in}
use Rattle.ncl_stage.proofs.PlaceLaws.{place_in-at}

-- ---- orders

-- what stands at two places of a list whose members differ
recursion-at : (P : ℕ → Type 0) (xs : List ℕ) → AllByRecursion P xs → (j d : ℕ) → j < length xs → P (get_or xs j d)
recursion-at P [] all j d lt = absurd (omega arith)
recursion-at P (x ∷ xs) all zero d lt = all.0
recursion-at P (x ∷ xs) all (suc j) d lt = recursion-at P xs all.1 j d (omega arith)

pub one_place : (xs : List ℕ) → IsDistinct nat_eq xs → (i j d e : ℕ) → i < length xs → j < length xs → get_or xs i d ≡ get_or xs j e → i ≡ j
unfolding IsDistinct
one_place [] once i j d e a b same = absurd (omega arith)
one_place (x ∷ xs) once zero zero d e a b same = refl
one_place (x ∷ xs) once (suc i) (suc j) d e a b same = ap suc (one_place xs once.1 i j d e (omega arith) (omega arith) same)
one_place (x ∷ xs) once zero (suc j) d e a b same = absurd (both_ways (nat_eq x (get_or xs j e)) (recursion-at (λ y. nat_eq x y ≡ false) xs once.0 j e (omega arith)) (eq-eqb x (get_or xs j e) same))
one_place (x ∷ xs) once (suc i) zero d e a b same = absurd (both_ways (nat_eq x (get_or xs i d)) (recursion-at (λ y. nat_eq x y ≡ false) xs once.0 i d (omega arith)) (eq-eqb x (get_or xs i d) (sym same)))

-- bits that come in turn: each once, and none but these
pub record Comes (old more new : List ℕ) : Type 0 where
  pub once : IsDistinct nat_eq old → IsDistinct nat_eq new
  pub kept : (bit : ℕ) → Member bit old → Member bit new
  pub has : (bit : ℕ) → Member bit more → Member bit new
  pub only : (bit : ℕ) → Member bit new → Member bit old ⊎ Member bit more

comes-one : (bits : List ℕ) (bit : ℕ) → Comes bits (bit ∷ []) (with_bit bits bit)
comes-one bits bit = elim (stands_or_not bits bit) [
  | inl (e, m) ↦ subst (Comes bits (bit ∷ [])) (sym (ap (λ b. cond b bits (bits ++ bit ∷ [])) e)) (record {
    once = λ once. once;
    kept = λ b n. n;
    has = λ b n. elim (member_cases b bit [] n) [ inl same ↦ subst (λ x. Member x bits) same m | inr none ↦ elim none [ ] ];
    only = λ b n. inl n;
  })
  | inr e ↦ subst (Comes bits (bit ∷ [])) (sym (ap (λ b. cond b bits (bits ++ bit ∷ [])) e)) (record {
    once = λ once. IsDistinct-push nat_eq_equiv bits bit once e;
    kept = λ b n. Member-append_left b (bit ∷ []) n;
    has = λ b n. Member-append_right bits b n;
    only = λ b n. Member-append_cases b bits (bit ∷ []) n;
  })
]

pub comes : (bits more : List ℕ) → Comes bits more (with_bits bits more)
comes bits [] = record { once = λ once. once; kept = λ b m. m; has = λ b m. elim m [ ]; only = λ b m. inl m }
comes bits (bit ∷ more) =
    let first = comes-one bits bit in
    let rest = comes (with_bit bits bit) more in
    record {
      once = λ once. rest.once (first.once once);
      kept = λ b m. rest.kept b (first.kept b m);
      has = λ b m. elim (member_cases b bit more m) [
        | inl same ↦ rest.kept b (first.has b (subst (λ x. Member x (bit ∷ [])) same here))
        | inr later ↦ rest.has b later
      ];
      only = λ b m. elim (rest.only b m) [
        | inl before ↦ elim (first.only b before) [ inl old ↦ inl old | inr own ↦ elim (member_cases b bit [] own) [ inl same ↦ inr (subst (λ x. Member x (bit ∷ more)) same here) | inr none ↦ elim none [ ] ] ]
        | inr later ↦ inr (there later)
      ];
    }

none_distinct : IsDistinct nat_eq []
unfolding IsDistinct
none_distinct = tt

-- bits below n in turn, and then each that isn't there, make an order
pub is_order : (n : ℕ) (found : List ℕ) → ((bit : ℕ) → Member bit found → bit < n) → IsOrderOf n (with_bits [] (found ++ range_with_len 0 n))
is_order n found below =
    let all = comes [] (found ++ range_with_len 0 n) in
    let order : List ℕ = with_bits [] (found ++ range_with_len 0 n) in
    let within : (bit : ℕ) → Member bit order → bit < n = λ bit m. elim (all.only bit m) [
      | inl none ↦ elim none [ ]
      | inr some ↦ elim (Member-append_cases bit found (range_with_len 0 n) some) [ inl early ↦ below bit early | inr late ↦ let lt : bit < 0 + n = below_of_range 0 n bit late in omega arith ]
    ] in
    let there_all : (bit : ℕ) → bit < n → Member bit order = λ bit lt. all.has bit (Member-append_right found bit (Member-range 0 n bit (omega arith) (omega arith))) in
    let distinct : IsDistinct nat_eq order = all.once none_distinct in
    let most : length order ≤ n = length-le_from_distinct_below order n distinct (λ q e. let (x, m, at) = member_from_list_any (nat_eq q) order e in within q (subst (λ y. Member y order) (sym (eqb-true q x at)) m)) in
    let least : n ≤ length order = le-length_from_below order n (λ q lt. list_any-from_member (nat_eq q) q (there_all q lt) (eq-eqb q q refl)) in
    record {
      many = omega arith;
      bits = λ bit c. within bit (Member-from_Contains order bit c);
      each = λ bit lt. Contains-from_Member bit (there_all bit lt);
      once = distinct;
    }

-- ---- words

pub length-placed : (order : List ℕ) (word : List Bool) → length (placed order word) ≡ length order
length-placed order word = length-map (range_with_len 0 (length order)) (λ bit. get_or word (place_in order bit) false) ∙ length-range_with_len 0 (length order)

pub length-taken : (order : List ℕ) (word : List Bool) → length (taken order word) ≡ length order
length-taken order word = length-map order (λ bit. get_or word bit false)

-- a bit of a placed word is that at its place
pub placed-at : (order : List ℕ) (word : List Bool) (bit : ℕ) → bit < length order → get_or (placed order word) bit false ≡ get_or word (place_in order bit) false
placed-at order word bit lt =
    let size = length-range_with_len 0 (length order) in
    get_or-map (λ b. get_or word (place_in order b) false) (range_with_len 0 (length order)) bit 0 false (omega arith)
    ∙ ap (λ b. get_or word (place_in order b) false) (get_or-range_with_len 0 (length order) bit 0 lt ∙ (let e : 0 + bit ≡ bit = omega arith in e))

pub taken-at : (order : List ℕ) (word : List Bool) (i : ℕ) → i < length order → get_or (taken order word) i false ≡ get_or word (get_or order i 0) false
taken-at order word i lt = get_or-map (λ b. get_or word b false) order i 0 false lt

same_words : (xs ys : List Bool) → length xs ≡ length ys → ((i : ℕ) → i < length xs → get_or xs i false ≡ get_or ys i false) → xs ≡ ys
same_words [] [] e same = refl
same_words [] (y ∷ ys) e same = absurd (omega arith)
same_words (x ∷ xs) [] e same = absurd (omega arith)
same_words (x ∷ xs) (y ∷ ys) e same =
    let first : x ≡ y = same 0 (omega arith) in
    let rest : xs ≡ ys = same_words xs ys (omega arith) (λ i lt. same (suc i) (omega arith)) in
    λ k. first k ∷ rest k

-- a word that has the bits of another at all places
words_agree : (n : ℕ) (order : List ℕ) → IsOrderOf n order → (other word : List Bool) → length other ≡ length order → length word ≡ n → ((i : ℕ) → i < n → i < length order → get_or other i false ≡ get_or word i false) → other ≡ word
words_agree n order is other word many long same =
    let size = is.many in
    same_words other word (many ∙ size ∙ sym long) (λ i lt. same i (omega arith) (omega arith))

-- there and back
pub placed-taken : (n : ℕ) (order : List ℕ) → IsOrderOf n order → (word : List Bool) → length word ≡ n → placed order (taken order word) ≡ word
placed-taken n order is word long =
    words_agree n order is (placed order (taken order word)) word (length-placed order (taken order word)) long (λ i lt within.
    let found = place_in-at order i (is.each i lt) in
    placed-at order (taken order word) i within
    ∙ taken-at order word (place_in order i) found.0
    ∙ ap (λ b. get_or word b false) (found.1 0))

pub taken-placed : (n : ℕ) (order : List ℕ) → IsOrderOf n order → (word : List Bool) → length word ≡ n → taken order (placed order word) ≡ word
taken-placed n order is word long =
    words_agree n order is (taken order (placed order word)) word (length-taken order (placed order word)) long (λ i lt within.
    let bit : ℕ = get_or order i 0 in
    let among : Contains order bit = (i, within, same_default order i bit within) in
    let bound : bit < n = is.bits bit among in
    let found = place_in-at order bit among in
    let size = is.many in
    taken-at order (placed order word) i within
    ∙ placed-at order word bit (omega arith)
    ∙ ap (λ k. get_or word k false) (one_place order is.once (place_in order bit) i 0 0 found.0 within (found.1 0)))
  where
    same_default : (xs : List ℕ) (i d : ℕ) → i < length xs → get_or xs i d ≡ get_or xs i 0
    same_default [] i d lt = absurd (omega arith)
    same_default (x ∷ xs) zero d lt = refl
    same_default (x ∷ xs) (suc i) d lt = same_default xs i d (omega arith)

-- each of all words of n bits has n bits, and each word of n bits is one of them
pub words-length : (n : ℕ) (word : List Bool) → Member word (words n) → length word ≡ n
words-length zero word m = elim (member_cases word [] [] m) [ inl empty ↦ ap length (sym empty) | inr none ↦ elim none [ ] ]
words-length (suc n) word m =
    elim (Member-append_cases word (map (λ w. false ∷ w) (words n)) (map (λ w. true ∷ w) (words n)) m) [
      | inl low ↦ let (rest, inside, is) = member_of_map (λ w. false ∷ w) (words n) word low in omega (arith, words-length n rest inside, ap length is)
      | inr high ↦ let (rest, inside, is) = member_of_map (λ w. true ∷ w) (words n) word high in omega (arith, words-length n rest inside, ap length is)
    ]

-- so are those in an order
pub words_by-length : (order : List ℕ) (word : List Bool) → Member word (words_by order) → length word ≡ length order
words_by-length order word m = let (w, inside, is) = member_of_map (placed order) (words (length order)) word m in ap length (sym is) ∙ length-placed order w

pub Member-words_by : (n : ℕ) (order : List ℕ) → IsOrderOf n order → (word : List Bool) → length word ≡ n → Member word (words_by order)
Member-words_by n order is word long =
    subst (λ w. Member w (words_by order)) (placed-taken n order is word long)
    (Member-map (placed order) (taken order word) (subst (λ k. Member (taken order word) (words k)) (length-taken order word) (Member-words (taken order word))))

-- ---- tables and what is found

-- the table of a function over the words in an order is that of the function of a placed word
pub table_by : (order : List ℕ) (f : List Bool → Bool) → table_of (words_by order) f ≡ table_of (words (length order)) (λ w. f (placed order w))
table_by order f = map-map f (placed order) (words (length order))

pub find-map : {X Y : Type 0} (test : Y → Bool) (h : X → Y) (xs : List X) → find test (map h xs) ≡ option_map h (find (λ x. test (h x)) xs)
find-map test h [] = refl
find-map test h (x ∷ xs) = by (test (h x)) (find test (map h xs)) (find (λ y. test (h y)) xs) (find-map test h xs)
  where
    by : (b : Bool) (found : Option _) (other : Option _) → found ≡ option_map h other → cond b (Some (h x)) found ≡ option_map h (cond b (Some x) other)
    by true found other e = refl
    by false found other e = e

-- the first word that passes a test is the placed word of the first that does when it is placed
pub find_by : (order : List ℕ) (test : List Bool → Bool) → find test (words_by order) ≡ option_map (placed order) (find (λ w. test (placed order w)) (words (length order)))
find_by order test = find-map test (placed order) (words (length order))

range_append : (from a b c : ℕ) → c ≡ a + b → range_with_len from c ≡ range_with_len from a ++ range_with_len (from + a) b
range_append from zero b c e = λ k. range_with_len ((let f : from ≡ from + 0 = omega arith in f) k) ((let g : c ≡ b = omega arith in g) k)
range_append from (suc a) b zero e = absurd (omega arith)
range_append from (suc a) b (suc c) e =
    ap (λ l. from ∷ l) (range_append (from + 1) a b c (omega arith))
    ∙ ap (λ k. from ∷ range_with_len (from + 1) a ++ range_with_len k b) (let f : from + 1 + a ≡ from + suc a = omega arith in f)

-- all words stand as the numbers that they make
numbers-of-words : (n from : ℕ) → map (λ w. from + word_number w) (words n) ≡ range_with_len from (2 ^ n)
numbers-of-words zero from = ap (λ k. k ∷ []) (let e : from + 0 ≡ from = omega arith in e)
numbers-of-words (suc n) from =
    let ws : List (List Bool) = words n in
    let twice : 2 ^ suc n ≡ 2 ^ n + 2 ^ n = grind (arith, common_steps) in
    map-append (λ w. from + word_number w) (map (λ w. false ∷ w) ws) (map (λ w. true ∷ w) ws)
    ∙ ap (λ l. l ++ map (λ w. from + word_number w) (map (λ w. true ∷ w) ws)) (map-map (λ w. from + word_number w) (λ w. false ∷ w) ws ∙ numbers-of-words n from)
    ∙ ap (λ l. range_with_len from (2 ^ n) ++ l) (map-map (λ w. from + word_number w) (λ w. true ∷ w) ws
    ∙ map-same (λ w. from + word_number (true ∷ w)) (λ w. from + 2 ^ n + word_number w) ws (λ w m. let long : 2 ^ length w ≡ 2 ^ n = ap (λ k. 2 ^ k) (words-length n w m) in omega arith)
    ∙ numbers-of-words n (from + 2 ^ n))
    ∙ sym (range_append from (2 ^ n) (2 ^ n) (2 ^ suc n) twice)

-- and those in an order as the numbers that their bits, taken in the order, make
pub numbers_by : (n : ℕ) (order : List ℕ) → IsOrderOf n order → map (λ w. word_number (taken order w)) (words_by order) ≡ range_with_len 0 (2 ^ n)
numbers_by n order is =
    map-map (λ w. word_number (taken order w)) (placed order) (words (length order))
    ∙ map-same (λ w. word_number (taken order (placed order w))) (λ w. 0 + word_number w) (words (length order)) (λ w m.
    let long = words-length (length order) w m in
    let size = is.many in
    ap word_number (taken-placed n order is w (omega arith)) ∙ (let e : word_number w ≡ 0 + word_number w = omega arith in e))
    ∙ numbers-of-words (length order) 0
    ∙ ap (λ k. range_with_len 0 (2 ^ k)) is.many

-- ---- the order of the bank

map_id : (xs : List (List Bool)) (f : List Bool → List Bool) → ((x : List Bool) → Member x xs → f x ≡ x) → map f xs ≡ xs
map_id [] f same = refl
map_id (x ∷ xs) f same = let first = same x here in let rest = map_id xs f (λ y m. same y (there m)) in λ k. first k ∷ rest k

-- bits that come in ascending order are an order as they stand
ascending-added : (from count : ℕ) (bits : List ℕ) → ((bit : ℕ) → Member bit bits → bit < from) → with_bits bits (range_with_len from count) ≡ bits ++ range_with_len from count
ascending-added from zero bits below = sym (append-nil bits)
ascending-added from (suc count) bits below =
    let new : list_any (nat_eq from) bits ≡ false = elim (stands_or_not bits from) [ inl (e, m) ↦ (let lt = below from m in absurd (omega arith)) | inr e ↦ e ] in
    ap (λ b. with_bits (cond b bits (bits ++ from ∷ [])) (range_with_len (from + 1) count)) new
    ∙ ascending-added (from + 1) count (bits ++ from ∷ []) (λ bit m. elim (Member-append_cases bit bits (from ∷ []) m) [
      | inl before ↦ let lt = below bit before in omega arith
      | inr own ↦ elim (member_cases bit from [] own) [ inl same ↦ omega arith | inr none ↦ elim none [ ] ]
    ])
    ∙ append_assoc bits (from ∷ []) (range_with_len (from + 1) count)

pub ascending-is : (n : ℕ) → with_bits [] (range_with_len 0 n) ≡ range_with_len 0 n
ascending-is n = ascending-added 0 n [] (λ bit m. elim m [ ])

pub ascending-order : (n : ℕ) → IsOrderOf n (range_with_len 0 n)
ascending-order n = subst (IsOrderOf n) (ascending-is n) (is_order n [] (λ bit m. elim m [ ]))

-- in it words stand as binary numbers
place-ascending : (from count i : ℕ) → i < count → place_in (range_with_len from count) (from + i) ≡ i
place-ascending from count i lt =
    let order : List ℕ = range_with_len from count in
    let size : length order ≡ count = length-range_with_len from count in
    let at : get_or order i (from + i) ≡ from + i = get_or-range_with_len from count i (from + i) lt in
    let found = place_in-at order (from + i) (i, omega arith, at) in
    let within : place_in order (from + i) < count = omega (arith, found.0, size) in
    let own : get_or order (place_in order (from + i)) 0 ≡ from + place_in order (from + i) = get_or-range_with_len from count (place_in order (from + i)) 0 within in
    let same : from + place_in order (from + i) ≡ from + i = sym own ∙ found.1 0 in
    omega (arith, same)

pub words_by-ascending : (n : ℕ) → words_by (range_with_len 0 n) ≡ words n
words_by-ascending n =
    let order : List ℕ = range_with_len 0 n in
    let size : length order ≡ n = length-range_with_len 0 n in
    ap (λ k. map (placed order) (words k)) size
    ∙ map_id (words n) (placed order) (λ w m.
    let long : length w ≡ n = words-length n w m in
    same_words (placed order w) w (length-placed order w ∙ size ∙ sym long) (λ i lt.
    let many = length-placed order w in
    let within : i < n = omega arith in
    let place : place_in order i ≡ i = (let e : i ≡ 0 + i = omega arith in ap (place_in order) e ∙ place-ascending 0 n i within) in
    placed-at order w i (omega arith) ∙ ap (λ k. get_or w k false) place))
