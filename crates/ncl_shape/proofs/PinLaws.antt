-- The values at the input pins of a cell, from the values of its nets.
use Rattle.ncl_shape.proofs.Terms.{List, Member, NetId, Nets, Some, [], all_high, and_from, ap, both_ways, false, first_pin, here, inl, inr, or_cases, or_from, or_left, or_right, pin_values, refl, slice_get, some_high, there, true, ◌∷◌, ◌≡◌}

-- some pin is high where the net on it is
pub some_high-from : (v : Nets) (net : NetId) {ins : List NetId} → Member net ins → v net.0 ≡ true → some_high (pin_values v ins) ≡ true
some_high-from v net (here {xs = ins}) high = or_left (v net.0) (some_high (pin_values v ins)) high
some_high-from v net (there {y = other} {xs = ins} m) high = or_right (v other.0) (some_high (pin_values v ins)) (some_high-from v net m high)

-- and only there
pub high_net : (v : Nets) (ins : List NetId) → some_high (pin_values v ins) ≡ true → (net : NetId) × Member net ins × (v net.0 ≡ true)
high_net v [] some = absurd (both_ways false refl some)
high_net v (first ∷ ins) some =
    elim (or_cases (v first.0) (some_high (pin_values v ins)) some) [
      | inl high ↦ (first, here, high)
      | inr later ↦ let (net, m, high) = high_net v ins later in (net, there m, high)
    ]

-- no pin is high where all nets are low
pub some_high-low : (v : Nets) (ins : List NetId) → ((net : NetId) → Member net ins → v net.0 ≡ false) → some_high (pin_values v ins) ≡ false
some_high-low v [] low = refl
some_high-low v (first ∷ ins) low = or_from (v first.0) (some_high (pin_values v ins)) (low first here) (some_high-low v ins (λ net m. low net (there m)))

-- all pins are high where all nets are
pub all_high-from : (v : Nets) (ins : List NetId) → ((net : NetId) → Member net ins → v net.0 ≡ true) → all_high (pin_values v ins) ≡ true
all_high-from v [] high = refl
all_high-from v (first ∷ ins) high = and_from (v first.0) (all_high (pin_values v ins)) (high first here) (all_high-from v ins (λ net m. high net (there m)))

-- the value on pin A is that of its net
pub first_pin-is : (v : Nets) (ins : List NetId) (net : NetId) → slice_get ins 0 ≡ Some net → first_pin (pin_values v ins) ≡ v net.0
first_pin-is v [] net at = absurd cc
first_pin-is v (first ∷ ins) net at = let same : first ≡ net = cc in ap (λ (x : NetId). v x.0) same
