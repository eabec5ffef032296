-- Bits of numbers made by `&` and `|`, and bits that a mask asks.
use Rattle.ncl_gates.proofs.Terms.{Bool, and_pow, ap, arith, bit_at, bit_at-lt, bit_at_and, bit_at_or, bit_or, eq-eqb, false, is_set, max, min, nat_eq, ne_eqb, pow_pos, refl, suc, sym, true, zero, ℕ, ◌&&◌, ◌*◌, ◌<◌, ◌^◌, ◌||◌, ◌∙◌, ◌≡◌}
use Rattle.std.specs.Prelude.{bit_and}

-- a function of bits as numbers and one of bits as truth values that agree at the four pairs agree at all
at_bits : (f : ℕ → ℕ → ℕ) (g : Bool → Bool → Bool) → nat_eq (f 0 0) 1 ≡ g false false → nat_eq (f 0 1) 1 ≡ g false true → nat_eq (f 1 0) 1 ≡ g true false → nat_eq (f 1 1) 1 ≡ g true true → (x y : ℕ) → x < 2 → y < 2 → nat_eq (f x y) 1 ≡ g (nat_eq x 1) (nat_eq y 1)
at_bits f g none second first both zero zero p q = none
at_bits f g none second first both zero (suc zero) p q = second
at_bits f g none second first both (suc zero) zero p q = first
at_bits f g none second first both (suc zero) (suc zero) p q = both
at_bits f g none second first both (suc (suc x)) y p q = absurd (omega arith)
at_bits f g none second first both x (suc (suc y)) p q = absurd (omega arith)

-- a bit of `&` and of `|`
pub is_set-and : (a b k : ℕ) → is_set (bit_and a b) k ≡ (is_set a k && is_set b k)
is_set-and a b k = ap (λ (n : ℕ). nat_eq n 1) (bit_at_and a b k) ∙ at_bits min (λ x y. x && y) refl refl refl refl (bit_at a k) (bit_at b k) (bit_at-lt a k) (bit_at-lt b k)

pub is_set-or : (a b k : ℕ) → is_set (bit_or a b) k ≡ (is_set a k || is_set b k)
is_set-or a b k = ap (λ (n : ℕ). nat_eq n 1) (bit_at_or a b k) ∙ at_bits max (λ x y. x || y) refl refl refl refl (bit_at a k) (bit_at b k) (bit_at-lt a k) (bit_at-lt b k)

-- by these a word made by `&` and `|` is taken apart
pub ruleset word_bits = (is_set-and, is_set-or)

-- a word and a mask of one bit have nothing in common where that bit is 0, and something where it is 1
pub is_set-masked_off : (v k : ℕ) → bit_and v (2 ^ k) ≡ 0 → is_set v k ≡ false
is_set-masked_off v k none = ne_eqb (bit_at v k) 1 (λ is.
    let mask : 1 * 2 ^ k ≡ 0 = sym (ap (λ (b : ℕ). b * 2 ^ k) is) ∙ sym (and_pow v k) ∙ none in
    absurd (omega (arith, pow_pos k)))

pub is_set-masked : (v k : ℕ) → (bit_and v (2 ^ k) ≡ 0 → ⊥) → is_set v k ≡ true
is_set-masked v k some =
    let none : 0 * 2 ^ k ≡ 0 = omega arith in
    let unset : bit_at v k ≡ 0 → ⊥ = λ is. some (and_pow v k ∙ ap (λ (b : ℕ). b * 2 ^ k) is ∙ none) in
    eq-eqb (bit_at v k) 1 (omega (arith, bit_at-lt v k, unset))
