-- Masks of words.
use Rattle.ncl_template.proofs.Terms.{Bool, List, Waits, all_inputs, ap, bit_at-zero, both_ways, eqb-suc-zero, false, if◌then◌else◌, is_set, mask_of, nat_eq, not, refl, suc, true, waits_at, waits_once, word_number, zero, ℕ, ◌+◌, ◌∙◌, ◌≡◌}

-- a number with a bit is not 0
some_bit : (n k : ℕ) → is_set n k ≡ true → not (nat_eq n 0) ≡ true
some_bit zero k up = absurd (both_ways (is_set 0 k) (ap (λ (b : ℕ). nat_eq b 1) (bit_at-zero k)) up)
some_bit (suc n) k up = ap not (eqb-suc-zero n)

-- what is waited for at a word is waited for at some
pub once_at : (w : Waits) (word : List Bool) (place : ℕ) → waits_at w word place ≡ true → waits_once w place ≡ true
once_at w word place up = some_bit (mask_of w place) (word_number word) up

-- each of the sixteen words is among all
each_bit : (a b c d : Bool) → is_set 65535 ((if a then 1 else 0) + (if b then 2 else 0) + (if c then 4 else 0) + (if d then 8 else 0)) ≡ true
each_bit false false false false = refl
each_bit false false false true = refl
each_bit false false true false = refl
each_bit false false true true = refl
each_bit false true false false = refl
each_bit false true false true = refl
each_bit false true true false = refl
each_bit false true true true = refl
each_bit true false false false = refl
each_bit true false false true = refl
each_bit true false true false = refl
each_bit true false true true = refl
each_bit true true false false = refl
each_bit true true false true = refl
each_bit true true true false = refl
each_bit true true true true = refl

-- what has all words as its mask is waited for at each
pub always_at : (w : Waits) (place : ℕ) → mask_of w place ≡ 65535 → (word : List Bool) → waits_at w word place ≡ true
always_at w place full word = ap (λ mask. is_set mask (word_number word)) full ∙ each_bit _ _ _ _

pub waits_at-all : (word : List Bool) (place : ℕ) → waits_at all_inputs word place ≡ true
waits_at-all word zero = each_bit _ _ _ _
waits_at-all word (suc zero) = each_bit _ _ _ _
waits_at-all word (suc (suc zero)) = each_bit _ _ _ _
waits_at-all word (suc (suc (suc n))) = each_bit _ _ _ _
