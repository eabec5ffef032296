-- Truth values that are the same, and that differ.
use Rattle.ncl_machine.proofs.Terms.{Bool, both_ways, differ, false, inl, inr, not, refl, true, ◌&&◌, ◌||◌, ◌≡◌, ◌⊎◌}

pub same_or_not : (a b : Bool) → (a ≡ b) ⊎ (a ≡ not b)
same_or_not true true = inl refl
same_or_not true false = inr refl
same_or_not false true = inr refl
same_or_not false false = inl refl

-- no value is its own negation
pub not_itself : (a : Bool) → a ≡ not a → ⊥
not_itself true e = both_ways true e refl
not_itself false e = both_ways false refl e

pub differ_from_not : (a b : Bool) → a ≡ not b → differ a b ≡ true
differ_from_not true true e = absurd (both_ways true e refl)
differ_from_not true false e = refl
differ_from_not false true e = refl
differ_from_not false false e = absurd (both_ways false refl e)

pub not-from_differ : (a b : Bool) → differ a b ≡ true → a ≡ not b
not-from_differ true true d = absurd (both_ways false refl d)
not-from_differ true false d = refl
not-from_differ false true d = refl
not-from_differ false false d = absurd (both_ways false refl d)

pub same-from_differ : (a b : Bool) → not (differ a b) ≡ true → a ≡ b
same-from_differ true true same = refl
same-from_differ true false same = absurd (both_ways false refl same)
same-from_differ false true same = absurd (both_ways false refl same)
same-from_differ false false same = refl

pub differ-itself : (a : Bool) → not (differ a a) ≡ true
differ-itself true = refl
differ-itself false = refl

-- one of two and not both: the one is the other's negation
pub not-from_one : (a b : Bool) → (a || b) ≡ true → (a && b) ≡ false → a ≡ not b
not-from_one true true some both = absurd (both_ways true both refl)
not-from_one true false some both = refl
not-from_one false true some both = refl
not-from_one false false some both = absurd (both_ways false refl some)
