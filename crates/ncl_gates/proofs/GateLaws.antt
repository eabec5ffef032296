-- The laws of the set functions. Only one fact about the table is computed, that each product has pins
-- of its gate; the rest follows from the form, a sum of products.
use Rattle.ncl_gates.proofs.Terms.{A, Ack, AllPass-from_list_all, B, Bool, C, CellKind, D, Gate, HasHysteresis, HasProducts, IsConjunction, IsDisjunction, IsMonotone, IsProductWithin, Kind, List, Pin, Register, RegisterData, Th12, Th13, Th14, Th22, Th33, Th44, [], all_high, and-true, and_left, and_parts, ap, arith, arity_of, at_pin, false, get_or, if◌then◌else◌, length, list_all, list_all-from_AllPass, list_any, list_any_at, list_any_none, ltb, ltb-true, next_of_cell, or-false, or_parts, place_of, products, refl, set_of, slice_index_or, some_high, suc, take, true, zero, ℕ, ◌&&◌, ◌+◌, ◌<◌, ◌||◌, ◌∙◌, ◌∷◌, ◌≡◌, ◌≢◌}
use Rattle.std.specs.List.{All}
use Rattle.ncl_gates.proofs.ListTests.{list_all_more, list_any_more}
use Rattle.ncl_gates.proofs.Table.{every_kind}

-- the test of the table: whether a product has pins, all of them within the arity
abbrev is_product_within : ℕ → List Pin → Bool
is_product_within arity [] = false
is_product_within arity (pin ∷ pins) = list_all (λ p. ltb (place_of p) arity) (pin ∷ pins)

-- whether there are products, and each passes
abbrev all_within : ℕ → List (List Pin) → Bool
all_within arity [] = false
all_within arity (product ∷ more) = list_all (is_product_within arity) (product ∷ more)

-- the whole table passes, by computation
table_passes : (kind : Kind) → all_within (arity_of kind) (products kind) ≡ true
table_passes kind = every_kind (λ k. all_within (arity_of k) (products k)) refl kind

-- where a product passes the test, the rule holds of it
within_from_test : (arity : ℕ) (product : List Pin) → is_product_within arity product ≡ true → IsProductWithin arity product
within_from_test arity [] passes = absurd cc
within_from_test arity (pin ∷ pins) passes = record {
  filled = λ is. absurd cc;
  within = λ k d lt. ltb-true _ _ (AllPass-from_list_all (λ p. ltb (place_of p) arity) (pin ∷ pins) passes k d lt);
}

-- an entry of the table that passes has products
some_from_test : (arity : ℕ) (ps : List (List Pin)) → all_within arity ps ≡ true → ps ≢ []
some_from_test arity [] passes = λ is. absurd cc
some_from_test arity (p ∷ ps) passes = λ is. absurd cc

-- and the rule holds of each
each_from_test : (arity : ℕ) (ps : List (List Pin)) → all_within arity ps ≡ true → All (IsProductWithin arity) ps
each_from_test arity [] passes = absurd cc
each_from_test arity (p ∷ ps) passes = λ k d lt. within_from_test _ _ (AllPass-from_list_all (is_product_within arity) (p ∷ ps) passes k d lt)

-- each gate has products, and each product has pins, all of them the gate's
pub products-within : (kind : Kind) → HasProducts kind
products-within kind = record {
  some = some_from_test (arity_of kind) (products kind) (table_passes kind);
  each = each_from_test (arity_of kind) (products kind) (table_passes kind);
}

-- raising inputs never lowers a set function
pub set_of-monotone : (kind : Kind) → IsMonotone (set_of kind)
set_of-monotone kind ins more below =
    list_any_more (list_all (at_pin ins)) (list_all (at_pin more))
    (list_all_more (at_pin ins) (at_pin more) (λ pin. below.rises (place_of pin))) (products kind)

-- a set function asks no more than four pins
pub set_of-four : (kind : Kind) (ins : List Bool) → set_of kind (slice_index_or ins 0 false ∷ slice_index_or ins 1 false ∷ slice_index_or ins 2 false ∷ slice_index_or ins 3 false ∷ []) ≡ set_of kind ins
set_of-four kind ins = λ i. list_any (λ product. list_all (λ pin. at pin i) product) (products kind)
  where
    at : (pin : Pin) → at_pin (slice_index_or ins 0 false ∷ slice_index_or ins 1 false ∷ slice_index_or ins 2 false ∷ slice_index_or ins 3 false ∷ []) pin ≡ at_pin ins pin
    at A = refl
    at B = refl
    at C = refl
    at D = refl

-- where no input is 1, each is 0
low_at : (ins : List Bool) → some_high ins ≡ false → (place : ℕ) → get_or ins place false ≡ false
low_at [] low place = refl
low_at (b ∷ bs) low zero = (or_parts b (some_high bs) low).0
low_at (b ∷ bs) low (suc place) = low_at bs (or_parts b (some_high bs) low).1 place

-- where all inputs are 0, no product with pins holds
product_low : (ins : List Bool) → some_high ins ≡ false → (product : List Pin) → product ≢ [] → list_all (at_pin ins) product ≡ false
product_low ins low [] filled = absurd (filled refl)
product_low ins low (pin ∷ pins) filled = and_left _ _ (low_at ins low (place_of pin))

-- a set function is 0 where all inputs are 0
pub set_of-low : (kind : Kind) (ins : List Bool) → some_high ins ≡ false → set_of kind ins ≡ false
set_of-low kind ins low =
    list_any_none (list_all (at_pin ins)) (products kind) (λ k d lt. product_low ins low _ ((products-within kind).each k d lt).filled)

-- where all inputs are 1, each is 1
high_at : (ins : List Bool) → all_high ins ≡ true → (place : ℕ) → place < length ins → get_or ins place false ≡ true
high_at [] high place lt = absurd (omega arith)
high_at (b ∷ bs) high zero lt = (and_parts b (all_high bs) high).0
high_at (b ∷ bs) high (suc place) lt = high_at bs (and_parts b (all_high bs) high).1 place (omega arith)

-- where all inputs are 1, each product of the gate holds
product_high : (arity : ℕ) (ins : List Bool) → length ins ≡ arity → all_high ins ≡ true → (product : List Pin) → IsProductWithin arity product → list_all (at_pin ins) product ≡ true
product_high arity ins len high product is =
    list_all-from_AllPass (at_pin ins) product (λ k d lt. let here = is.within k d lt in high_at ins high _ (omega arith))

-- a list that isn't empty has a first element
first_at : (ps : List (List Pin)) → ps ≢ [] → 0 < length ps
first_at [] some = absurd (some refl)
first_at (p ∷ ps) some = omega arith

-- a set function is 1 where all inputs are 1
pub set_of-high : (kind : Kind) (ins : List Bool) → length ins ≡ arity_of kind → all_high ins ≡ true → set_of kind ins ≡ true
set_of-high kind ins len high =
    let has = products-within kind in
    let lt = first_at (products kind) has.some in
    list_any_at (list_all (at_pin ins)) (products kind) 0 [] lt (product_high (arity_of kind) ins len high _ (has.each 0 [] lt))

-- the next value rises where the set function holds, falls where no input is 1, and is else the old one
pub next_of-hysteresis : (kind : Kind) → HasHysteresis kind
next_of-hysteresis kind = record {
  rises = λ ins old set. ap (λ b. if b then true else (if some_high ins then old else false)) set;
  falls = λ ins old low. ap (λ b. if b then true else (if some_high ins then old else false)) (set_of-low kind ins low) ∙ ap (λ b. if b then old else false) low;
  keeps = λ ins old unset high. ap (λ b. if b then true else (if some_high ins then old else false)) unset ∙ ap (λ b. if b then old else false) high;
}

-- what holds of any two inputs holds of each list of two
pub of_two : (P : List Bool → Type 0) → ((a b : Bool) → P (a ∷ b ∷ [])) → (ins : List Bool) → length ins ≡ 2 → P ins
of_two P here [] len = absurd (omega arith)
of_two P here (a ∷ []) len = absurd (omega arith)
of_two P here (a ∷ b ∷ []) len = here a b
of_two P here (a ∷ b ∷ c ∷ rest) len = absurd (omega arith)

-- what holds of one input before any n holds of each list of n + 1
of_more : (n : ℕ) (P : List Bool → Type 0) → ((a : Bool) (rest : List Bool) → length rest ≡ n → P (a ∷ rest)) → (ins : List Bool) → length ins ≡ n + 1 → P ins
of_more n P here [] len = absurd (omega arith)
of_more n P here (a ∷ rest) len = here a rest (omega arith)

-- the same of three
pub of_three : (P : List Bool → Type 0) → ((a b c : Bool) → P (a ∷ b ∷ c ∷ [])) → (ins : List Bool) → length ins ≡ 3 → P ins
of_three P here = of_more 2 P (λ a. of_two (λ rest. P (a ∷ rest)) (here a))

-- the same of four
of_four : (P : List Bool → Type 0) → ((a b c d : Bool) → P (a ∷ b ∷ c ∷ d ∷ [])) → (ins : List Bool) → length ins ≡ 4 → P ins
of_four P here = of_more 3 P (λ a. of_three (λ rest. P (a ∷ rest)) (here a))

-- TH22, TH33 and TH44 are the conjunctions of their inputs
pub set_of-Th22 : IsConjunction Th22
set_of-Th22 = of_two (λ ins. set_of Th22 ins ≡ all_high ins) (λ a b. or-false _)

pub set_of-Th33 : IsConjunction Th33
set_of-Th33 = of_three (λ ins. set_of Th33 ins ≡ all_high ins) (λ a b c. or-false _)

pub set_of-Th44 : IsConjunction Th44
set_of-Th44 = of_four (λ ins. set_of Th44 ins ≡ all_high ins) (λ a b c d. or-false _)

-- TH12, TH13 and TH14 are the disjunctions of their inputs
pub set_of-Th12 : IsDisjunction Th12
set_of-Th12 = of_two (λ ins. set_of Th12 ins ≡ some_high ins) (λ a b. rw (and-true a, and-true b) refl)

pub set_of-Th13 : IsDisjunction Th13
set_of-Th13 = of_three (λ ins. set_of Th13 ins ≡ some_high ins) (λ a b c. rw (and-true a, and-true b, and-true c) refl)

pub set_of-Th14 : IsDisjunction Th14
set_of-Th14 = of_four (λ ins. set_of Th14 ins ≡ some_high ins) (λ a b c d. rw (and-true a, and-true b, and-true c, and-true d) refl)

-- the gates of two pins
pub or_gate : (a b : Bool) → set_of Th12 (a ∷ b ∷ []) ≡ (a || b)
or_gate true b = refl
or_gate false true = refl
or_gate false false = refl

pub and_gate : (a b : Bool) → set_of Th22 (a ∷ b ∷ []) ≡ (a && b)
and_gate true true = refl
and_gate true false = refl
and_gate false b = refl

-- a cell that has its next value keeps it while its pins do
again : (set some old : Bool) → (if set then true else if some then (if set then true else if some then old else false) else false) ≡ (if set then true else if some then old else false)
again true some old = refl
again false true old = refl
again false false old = refl

pub next_of_cell-again : (kind : CellKind) (ins : List Bool) (old : Bool) → next_of_cell kind ins (next_of_cell kind ins old) ≡ next_of_cell kind ins old
next_of_cell-again (Gate kind) ins old = again (set_of kind ins) (some_high ins) old
next_of_cell-again Register ins old = again (set_of Th22 (take 2 ins)) (some_high (take 2 ins)) old
next_of_cell-again RegisterData ins old = again (set_of Th22 (take 2 ins)) (some_high (take 2 ins)) old
next_of_cell-again Ack ins old = refl
