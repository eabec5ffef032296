-- Products parted by a signal that some of them have.
use Rattle.ncl_decomp.proofs.Terms.{All, All-cons, All-head, All-left, All-permutation, All-push, All-right, All-tail, AreVarying, Bool, Const, FromNode, Input, IsFilled, IsPermutation, IsPermutation-append_right, IsPermutation-to_front, IsSameSum, IsSource, List, None, Signal, SignalSource, [], ap, append_assoc, arith, cond, cons_option, eqb-true, false, false_from_ne_true, has, if◌then◌else◌, is_constant, length, length_permutation, length_push, list_all, list_any-IsPermutation, list_any-append, map_push, not, other_than, refl, same_signal, same_source, subst, sum_by-IsPermutation, sum_by_push, sym, true, true_from_ne_false, under, without, ℕ, ◌&&◌, ◌++◌, ◌<◌, ◌||◌, ◌∙◌, ◌∷◌, ◌≡◌, ◌≤◌}
use Rattle.std.specs.Prelude.{Some}

-- ---- equal signals

same_inversion : (a b : Bool) → cond a b (not b) ≡ true → a ≡ b
same_inversion true b same = sym same
same_inversion false true same = absurd (cc)
same_inversion false false same = refl

same_from : (a b : SignalSource) → same_source a b ≡ true → a ≡ b
same_from (Input i) (Input j) same = ap Input (eqb-true i j same)
same_from (Input i) (FromNode j) same = absurd (cc)
same_from (Input i) (Const bit) same = absurd (cc)
same_from (FromNode i) (Input j) same = absurd (cc)
same_from (FromNode i) (FromNode j) same = ap FromNode (eqb-true i j same)
same_from (FromNode i) (Const bit) same = absurd (cc)
same_from (Const bit) from same = absurd (cc)

both_true : (a b : Bool) → (a && b) ≡ true → (a ≡ true) × (b ≡ true)
both_true true b both = (refl, both)
both_true false b both = absurd (cc)

same_is : (s t : Signal) → same_signal s t ≡ true → s ≡ t
same_is s t same =
    let (from, inverted) = both_true (same_source s.from t.from) (cond s.inverted t.inverted (not t.inverted)) same in
    let sources = same_from s.from t.from from in
    let bits = same_inversion s.inverted t.inverted inverted in
    λ i. record { from = sources i; inverted = bits i }

-- ---- one product

-- a product with a signal out, by whether its head is that signal
pub data IsWithout (literal : Signal) : List Signal → List Signal → Type 0 where
  end : IsWithout literal [] []
  kept : (s : Signal) (product rest : List Signal) → IsWithout literal product rest → IsWithout literal (s ∷ product) (s ∷ rest)
  taken : (s : Signal) (product rest : List Signal) → s ≡ literal → IsWithout literal product rest → IsWithout literal (s ∷ product) rest

is_at_head : (literal s : Signal) (product rest : List Signal) → IsWithout literal product rest → (b : Bool) → same_signal s literal ≡ b → IsWithout literal (s ∷ product) (cons_option (other_than literal s) rest)
is_at_head literal s product rest is true same =
    let out : other_than literal s ≡ None = ap (λ (b : Bool). if b then None else Some s) same in
    subst (λ o. IsWithout literal (s ∷ product) (cons_option o rest)) (sym out) (taken s product rest (same_is s literal same) is)
is_at_head literal s product rest is false same =
    let stays : other_than literal s ≡ Some s = ap (λ (b : Bool). if b then None else Some s) same in
    subst (λ o. IsWithout literal (s ∷ product) (cons_option o rest)) (sym stays) (kept s product rest is)

pub is_without : (literal : Signal) (product : List Signal) → IsWithout literal product (without literal product)
is_without literal [] = end
is_without literal (s ∷ product) = is_at_head literal s product (without literal product) (is_without literal product) (same_signal s literal) refl

without_few : (literal : Signal) (product rest : List Signal) → IsWithout literal product rest → length rest ≤ length product
without_few literal _ _ end = omega arith
without_few literal _ _ (kept s product rest is) = omega (arith, without_few literal product rest is)
without_few literal _ _ (taken s product rest same is) = omega (arith, without_few literal product rest is)

-- a product is shorter without a signal where it has it, and as long where it hasn't
short_at : (b h : Bool) (s : Signal) (product rest : List Signal) → length rest ≤ length product → (h ≡ true → length rest < length product) → (b || h) ≡ true → length (cons_option (if b then None else Some s) rest) < length (s ∷ product)
short_at true h s product rest few inner found = omega (arith, few)
short_at false h s product rest few inner found = omega (arith, inner found)

has_short : (literal : Signal) (product : List Signal) → has literal product ≡ true → length (without literal product) < length product
has_short literal [] found = absurd (cc)
has_short literal (s ∷ product) found =
    short_at (same_signal s literal) (has literal product) s product (without literal product) (without_few literal product (without literal product) (is_without literal product)) (has_short literal product) found

whole_at : (b h : Bool) (s : Signal) (product rest : List Signal) → (h ≡ false → length product ≤ length rest) → (b || h) ≡ false → length (s ∷ product) ≤ length (cons_option (if b then None else Some s) rest)
whole_at true h s product rest inner lacks = absurd (cc)
whole_at false h s product rest inner lacks = omega (arith, inner lacks)

lacks_whole : (literal : Signal) (product : List Signal) → has literal product ≡ false → length product ≤ length (without literal product)
lacks_whole literal [] lacks = omega arith
lacks_whole literal (s ∷ product) lacks =
    whole_at (same_signal s literal) (has literal product) s product (without literal product) (lacks_whole literal product) lacks

pub has_if_short : (literal : Signal) (product : List Signal) → length (without literal product) < length product → has literal product ≡ true
has_if_short literal product less = true_from_ne_false (has literal product) (λ lacks. omega (arith, less, lacks_whole literal product lacks))

pub lacks_if_whole : (literal : Signal) (product : List Signal) → length product ≤ length (without literal product) → has literal product ≡ false
lacks_if_whole literal product whole = false_from_ne_true (has literal product) (λ found. omega (arith, whole, has_short literal product found))

-- nothing was out
without_none : (literal : Signal) (product rest : List Signal) → IsWithout literal product rest → length product ≤ length rest → rest ≡ product
without_none literal _ _ end whole = refl
without_none literal _ _ (kept s product rest is) whole = ap (λ rest. s ∷ rest) (without_none literal product rest is (omega (arith, whole)))
without_none literal _ _ (taken s product rest same is) whole = absurd (omega (arith, whole, without_few literal product rest is))

turn_and : (a b c d : Bool) → (a && c) ≡ (a && d) → (a && (b && c)) ≡ (a && (b && d))
turn_and true true c d same = same
turn_and true false c d same = refl
turn_and false b c d same = refl

twice_and : (a c d : Bool) → (a && c) ≡ (a && d) → (a && (a && c)) ≡ (a && d)
twice_and true c d same = same
twice_and false c d same = refl

-- where the signal is 1, it may be out
without_value : (test : Signal → Bool) (literal : Signal) (product rest : List Signal) → IsWithout literal product rest → (test literal && list_all test product) ≡ (test literal && list_all test rest)
without_value test literal _ _ end = refl
without_value test literal _ _ (kept s product rest is) =
    turn_and (test literal) (test s) (list_all test product) (list_all test rest) (without_value test literal product rest is)
without_value test literal _ _ (taken s product rest same is) =
    ap (λ x. test literal && (test x && list_all test product)) same ∙ twice_and (test literal) (list_all test product) (list_all test rest) (without_value test literal product rest is)

swap_and : (a b c d : Bool) → c ≡ (a && d) → (b && c) ≡ (a && (b && d))
swap_and true true c d same = same
swap_and true false c d same = refl
swap_and false true c d same = same
swap_and false false c d same = refl

-- where it was in the product, it stands in front
taken_value : (test : Signal → Bool) (literal : Signal) (product rest : List Signal) → IsWithout literal product rest → length rest < length product → list_all test (literal ∷ rest) ≡ list_all test product
taken_value test literal _ _ end less = absurd (omega (arith, less))
taken_value test literal _ _ (kept s product rest is) less =
    sym (swap_and (test literal) (test s) (list_all test product) (list_all test rest) (sym (taken_value test literal product rest is (omega (arith, less)))))
taken_value test literal _ _ (taken s product rest same is) less =
    sym (without_value test literal product rest is) ∙ ap (λ x. test x && list_all test product) (sym same)

without_all : (P : Signal → Type 0) (literal : Signal) (product rest : List Signal) → IsWithout literal product rest → All P product → All P rest
without_all P literal _ _ end all = all
without_all P literal _ _ (kept s product rest is) all =
    All-cons P s rest (All-head P s product all) (without_all P literal product rest is (All-tail P s product all))
without_all P literal _ _ (taken s product rest same is) all = without_all P literal product rest is (All-tail P s product all)

taken_has : (P : Signal → Type 0) (literal : Signal) (product rest : List Signal) → IsWithout literal product rest → length rest < length product → All P product → P literal
taken_has P literal _ _ end less all = absurd (omega (arith, less))
taken_has P literal _ _ (kept s product rest is) less all = taken_has P literal product rest is (omega (arith, less)) (All-tail P s product all)
taken_has P literal _ _ (taken s product rest same is) less all = subst P same (All-head P s product all)

taken_all : (P : Signal → Type 0) (literal : Signal) (product rest : List Signal) → IsWithout literal product rest → length rest < length product → All P product → All P (literal ∷ rest)
taken_all P literal product rest is less all =
    All-cons P literal rest (taken_has P literal product rest is less all) (without_all P literal product rest is all)

taken_varying : (inputs count : ℕ) (literal : Signal) (product rest : List Signal) → IsWithout literal product rest → length rest < length product → AreVarying inputs count product → AreVarying inputs count (literal ∷ rest)
taken_varying inputs count literal product rest is less varying = record {
  exist = taken_all (λ (s : Signal). IsSource inputs count s.from) literal product rest is less varying.exist;
  vary = taken_all (λ (s : Signal). is_constant s.from ≡ false) literal product rest is less varying.vary;
}

-- ---- products

IsSameSum-turned : (sum new other : List (List Signal)) → IsSameSum sum new → IsPermutation new other → IsSameSum sum other
IsSameSum-turned sum new other is turned = record {
  as_many = length_permutation new other turned ∙ is.as_many;
  few = omega (arith, is.few, sum_by-IsPermutation (λ (product : List Signal). length product) new other turned);
  filled = λ filled. All-permutation IsFilled new other turned (is.filled filled);
  varying = λ inputs count varying. All-permutation (AreVarying inputs count) new other turned (is.varying inputs count varying);
  same = λ test. sym (list_any-IsPermutation (list_all test) new other turned) ∙ is.same test;
}

-- one product more, whose value stays
IsSameSum-push : (sum new : List (List Signal)) (product other : List Signal) → IsSameSum sum new → length other ≤ length product → (IsFilled product → IsFilled other) → ((inputs count : ℕ) → AreVarying inputs count product → AreVarying inputs count other) → ((test : Signal → Bool) → list_all test other ≡ list_all test product) → IsSameSum (sum ++ product ∷ []) (new ++ other ∷ [])
IsSameSum-push sum new product other is less filled varying value = record {
  as_many = omega (arith, is.as_many, length_push sum product, length_push new other);
  few = omega (arith, is.few, less, sum_by_push (λ (product : List Signal). length product) sum product, sum_by_push (λ (product : List Signal). length product) new other);
  filled = λ all. All-push IsFilled new other (is.filled (All-left IsFilled sum (product ∷ []) all)) (filled (All-head IsFilled product [] (All-right IsFilled sum (product ∷ []) all)));
  varying = λ inputs count all. All-push (AreVarying inputs count) new other (is.varying inputs count (All-left (AreVarying inputs count) sum (product ∷ []) all)) (varying inputs count (All-head (AreVarying inputs count) product [] (All-right (AreVarying inputs count) sum (product ∷ []) all)));
  same = λ test.
      list_any-append (list_all test) new (other ∷ [])
      ∙ (λ i. is.same test i || (value test i || false))
      ∙ sym (list_any-append (list_all test) sum (product ∷ []));
}

-- a product that hasn't the signal
pub IsSameSum-other : (sum others rests : List (List Signal)) (literal : Signal) (product rest : List Signal) (longer : List (List Signal)) → IsSameSum sum (others ++ under literal rests) → rest ≡ without literal product → length product ≤ length rest → longer ≡ others ++ rest ∷ [] → IsSameSum (sum ++ product ∷ []) (longer ++ under literal rests)
IsSameSum-other sum others rests literal product rest longer is out whole pushed =
    let back : List (List Signal) = under literal rests in
    let stays : rest ≡ product = without_none literal product rest (subst (IsWithout literal product) (sym out) (is_without literal product)) whole in
    let added : IsSameSum (sum ++ product ∷ []) ((others ++ back) ++ product ∷ []) = IsSameSum-push sum (others ++ back) product product is (omega arith) (λ filled. filled) (λ inputs count varying. varying) (λ test. refl) in
    let turned : IsPermutation (others ++ (back ++ product ∷ [])) (others ++ (product ∷ back)) = IsPermutation-append_right others (back ++ product ∷ []) (product ∷ back) (IsPermutation-to_front back product) in
    let same : others ++ (product ∷ back) ≡ longer ++ back = sym (ap (λ front. front ++ back) (pushed ∙ (λ i. others ++ stays i ∷ [])) ∙ append_assoc others (product ∷ []) back) in
    subst (IsSameSum (sum ++ product ∷ [])) same
    (IsSameSum-turned (sum ++ product ∷ []) (others ++ (back ++ product ∷ [])) (others ++ (product ∷ back)) (subst (IsSameSum (sum ++ product ∷ [])) (append_assoc others back (product ∷ [])) added) turned)

-- a product that has it
pub IsSameSum-rest : (sum others rests : List (List Signal)) (literal : Signal) (product rest : List Signal) (longer : List (List Signal)) → IsSameSum sum (others ++ under literal rests) → rest ≡ without literal product → length rest < length product → longer ≡ rests ++ rest ∷ [] → IsSameSum (sum ++ product ∷ []) (others ++ under literal longer)
IsSameSum-rest sum others rests literal product rest longer is out less pushed =
    let back : List (List Signal) = under literal rests in
    let is_out : IsWithout literal product rest = subst (IsWithout literal product) (sym out) (is_without literal product) in
    let added : IsSameSum (sum ++ product ∷ []) ((others ++ back) ++ (literal ∷ rest) ∷ []) = IsSameSum-push sum (others ++ back) product (literal ∷ rest) is (omega (arith, less)) (λ filled. omega arith) (λ inputs count. taken_varying inputs count literal product rest is_out less) (λ test. taken_value test literal product rest is_out less) in
    let grown : under literal longer ≡ back ++ (literal ∷ rest) ∷ [] = ap (under literal) pushed ∙ map_push (λ product. literal ∷ product) rests rest in
    subst (IsSameSum (sum ++ product ∷ [])) (append_assoc others back ((literal ∷ rest) ∷ []) ∙ ap (λ back. others ++ back) (sym grown)) added
