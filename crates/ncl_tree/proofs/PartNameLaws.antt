-- The laws of the names that are made.
use Rattle.std.proofs.Common.{◌≡◌, ◌≢◌, ℕ, zero, suc, ◌+◌, ◌*◌, ◌/◌, ◌%◌, ◌^◌, ◌<◌, true, ◌&&◌, List, ◌∷◌, length, refl, sym, ap, ◌∙◌, arith}
use Rattle.std.specs.List.{list_all}
use Rattle.std.proofs.Math.Arith.{mod-mul}
use Rattle.std.proofs.Math.Nat.{pow-succ', one-le-pow}
use Rattle.std.proofs.lemmas.Bool.Decides.{nat_tests}
use Rattle.std.proofs.lemmas.List.{append_cancel_left}
use Rattle.ncl_tree.specs.PartNames.{is_name_byte, IsPartName, digit_36, digits_36, most_parts, cell_name_of, net_name_of}

-- a digit tells its value
same_digit : (a b : ℕ) → a < 36 → b < 36 → digit_36 a ≡ digit_36 b → a ≡ b
same_digit a b a_below b_below same = grind (arith, nat_tests)

digit_36-is_name_byte : (a : ℕ) → a < 36 → is_name_byte (digit_36 a) ≡ true
digit_36-is_name_byte a below = grind (arith, nat_tests)

length-digits_36 : (count number : ℕ) → length (digits_36 count number) ≡ count
length-digits_36 zero number = refl
length-digits_36 (suc count) number = ap suc (length-digits_36 count number)

-- the last digits of a number tell it, but for a multiple of the power
same_digits : (count i j : ℕ) → digits_36 count i ≡ digits_36 count j → i % 36 ^ count ≡ j % 36 ^ count
same_digits zero i j same = omega arith
same_digits (suc count) i j same =
    let power : zero < 36 ^ count = one-le-pow count 36 (omega arith) in
    let first : digit_36 ((i / 36 ^ count) % 36) ≡ digit_36 ((j / 36 ^ count) % 36) = cc in
    let rest : digits_36 count i ≡ digits_36 count j = cc in
    let high : (i / 36 ^ count) % 36 ≡ (j / 36 ^ count) % 36 = same_digit _ _ (omega arith) (omega arith) first in
    let low : i % 36 ^ count ≡ j % 36 ^ count = same_digits count i j rest in
    let whole : (n : ℕ) → n % 36 ^ suc count ≡ ((n / 36 ^ count) % 36) * 36 ^ count + n % 36 ^ count = λ n. ap (λ p. n % p) (pow-succ' 36 count) ∙ mod-mul n (omega arith) power in
    whole i ∙ (λ k. high k * 36 ^ count + low k) ∙ sym (whole j)

same_number : (i j : ℕ) → i < most_parts → j < most_parts → digits_36 6 i ≡ digits_36 6 j → i ≡ j
same_number i j i_below j_below same = let rest = same_digits 6 i j same in omega (arith, rest)

-- names that are made of different numbers differ
pub same_cell : (prefix : List ℕ) (i j : ℕ) → i < most_parts → j < most_parts → cell_name_of prefix i ≡ cell_name_of prefix j → i ≡ j
same_cell prefix i j i_below j_below same =
    let letters : 99 ∷ digits_36 6 i ≡ 99 ∷ digits_36 6 j = append_cancel_left prefix (99 ∷ digits_36 6 i) (99 ∷ digits_36 6 j) same in
    same_number i j i_below j_below cc

pub same_net : (prefix : List ℕ) (i j : ℕ) → i < most_parts → j < most_parts → net_name_of prefix i ≡ net_name_of prefix j → i ≡ j
same_net prefix i j i_below j_below same =
    let letters : 110 ∷ digits_36 6 i ≡ 110 ∷ digits_36 6 j = append_cancel_left prefix (110 ∷ digits_36 6 i) (110 ∷ digits_36 6 j) same in
    same_number i j i_below j_below cc

-- no name of a cell is one of a net
pub cell_is_no_net : (prefix : List ℕ) (i j : ℕ) → cell_name_of prefix i ≢ net_name_of prefix j
cell_is_no_net prefix i j same =
    let letters : 99 ∷ digits_36 6 i ≡ 110 ∷ digits_36 6 j = append_cancel_left prefix (99 ∷ digits_36 6 i) (110 ∷ digits_36 6 j) same in
    let letter : ◌≡◌ {A = ℕ} 99 110 = cc in
    absurd (omega (arith, letter))

name_bytes : (count number : ℕ) → list_all is_name_byte (digits_36 count number) ≡ true
name_bytes zero number = refl
name_bytes (suc count) number = λ k. digit_36-is_name_byte ((number / 36 ^ count) % 36) (omega arith) k && name_bytes count number k

pub cell_name-IsPartName : (prefix : List ℕ) (number : ℕ) → IsPartName prefix (cell_name_of prefix number)
cell_name-IsPartName prefix number = record { rest = 99 ∷ digits_36 6 number; is = refl; some = omega arith; few = omega (arith, length-digits_36 6 number); bytes = name_bytes 6 number }

pub net_name-IsPartName : (prefix : List ℕ) (number : ℕ) → IsPartName prefix (net_name_of prefix number)
net_name-IsPartName prefix number = record { rest = 110 ∷ digits_36 6 number; is = refl; some = omega arith; few = omega (arith, length-digits_36 6 number); bytes = name_bytes 6 number }
