-- Gates that fit a function at each word are a template of it, which waits for the inputs that they wait for.
use Rattle.ncl_template.proofs.Terms.{All-contains, Bool, Contains-from_Member, FormGate, FormPin, Inner, IsBelow, IsFormGate, IsFormPin, IsGateOf, IsNull, List, Member, NetId, Nets, One, Rails, ShowWord, Shows, StageCell, Zero, [], ap, arith, both_ways, eqb-true, false, false_from_ne_true, gate_bit, get_or, here, holds, length, map, nat_eq, no_net, no_pair, not, pin_bit, pin_net, pin_values, refl, set_of, set_of-monotone, subst, suc, sym, there, true, zero, ℕ, ◌&&◌, ◌<◌, ◌∙◌, ◌∷◌, ◌≡◌}
use Rattle.ncl_template.proofs.Leaves.{ShowWord-length, shown_nets}

-- ---- the values on the pins

shown_place : (v : Nets) (ins : List Rails) (word : List Bool) → ShowWord v ins word → (k : ℕ) → k < length ins → Shows v (get_or ins k no_pair) (get_or word k false)
shown_place v [] [] shown k lt = absurd (omega (arith, lt))
shown_place v [] (b ∷ word) shown k lt = absurd shown
shown_place v (r ∷ ins) [] shown k lt = absurd shown
shown_place v (r ∷ ins) (b ∷ word) shown zero lt = shown.0
shown_place v (r ∷ ins) (b ∷ word) shown (suc k) lt = shown_place v ins word shown.1 k (omega (arith, lt))

pub not_same : (k n : ℕ) → k < n → nat_eq k n ≡ false
not_same k n lt = false_from_ne_true (nat_eq k n) (λ same. let is : k ≡ n = eqb-true k n same in absurd (omega (arith, lt, is)))

-- a bit that is asked where the pin is not on the NULL input
pub asked : (null x y : Bool) → null ≡ false → x ≡ y → x ≡ (not null && y)
asked true x y off same = absurd cc
asked false x y off same = same

pub asked_up : (null y : Bool) → null ≡ false → y ≡ true → (not null && y) ≡ true
asked_up true y off up = absurd cc
asked_up false y off up = up

-- a gate whose pins are high only where their bits are is not set where it is not set at the bits
module _ (v : Nets) (net : FormPin → NetId) (bit : FormPin → Bool) where
  rises : (pins : List FormPin) → ((p : FormPin) → Member p pins → v (net p).0 ≡ true → bit p ≡ true) → (k : ℕ) → get_or (pin_values v (map net pins)) k false ≡ true → get_or (map bit pins) k false ≡ true
  rises [] each k up = up
  rises (p ∷ pins) each zero up = each p here up
  rises (p ∷ pins) each (suc k) up = rises pins (λ q m. each q (there m)) k up

  as_many : (pins : List FormPin) → length (pin_values v (map net pins)) ≡ length (map bit pins)
  as_many [] = refl
  as_many (p ∷ pins) = ap suc (as_many pins)

  pub gate_unset : (gate : FormGate) (c : StageCell) → c.kind ≡ gate.kind → c.ins.items ≡ map net gate.pins.items → ((p : FormPin) → Member p gate.pins.items → v (net p).0 ≡ true → bit p ≡ true) → set_of gate.kind (map bit gate.pins.items) ≡ false → holds v c ≡ false
  gate_unset gate c kind ins each unset =
      (λ i. set_of (kind i) (pin_values v (ins i)))
      ∙ false_from_ne_true (set_of gate.kind (pin_values v (map net gate.pins.items))) (λ up.
      both_ways (set_of gate.kind (map bit gate.pins.items)) unset
      (set_of-monotone gate.kind (pin_values v (map net gate.pins.items)) (map bit gate.pins.items) (record { same_length = as_many gate.pins.items; rises = rises gate.pins.items each }) up))

module _ (ins : List Rails) (word : List Bool) (inner : List NetId) where
  -- where the inputs show a word and the inner gates have these bits
  module _ (base : Nets) (shown : ShowWord base ins word) (bits : List Bool) (count : ℕ) (inner_is : (k : ℕ) → k < count → base (get_or inner k no_net).0 ≡ get_or bits k false) where
    pin_shown : (p : FormPin) → IsFormPin (length ins) count p → base (pin_net ins inner p).0 ≡ pin_bit word (length word) bits p
    pin_shown (Zero k) lt = asked (nat_eq k (length word)) _ _ (not_same k (length word) (omega (arith, lt, ShowWord-length base ins word shown))) (shown_nets base (get_or ins k no_pair) (get_or word k false) (shown_place base ins word shown k lt)).0
    pin_shown (One k) lt = asked (nat_eq k (length word)) _ _ (not_same k (length word) (omega (arith, lt, ShowWord-length base ins word shown))) (shown_nets base (get_or ins k no_pair) (get_or word k false) (shown_place base ins word shown k lt)).1
    pin_shown (Inner k) lt = inner_is k lt

    pub pins_shown : (pins : List FormPin) → ((p : FormPin) → Member p pins → IsFormPin (length ins) count p) → pin_values base (map (pin_net ins inner) pins) ≡ map (pin_bit word (length word) bits) pins
    pins_shown [] are = refl
    pins_shown (p ∷ pins) are =
        let first = pin_shown p (are p here) in
        let rest = pins_shown pins (λ q m. are q (there m)) in
        λ i. first i ∷ rest i

  -- below such values, where the input at a place is NULL if there is one, and the inner gates are no higher than these bits
  module _ (base v : Nets) (below : IsBelow v base) (shown : ShowWord base ins word) (null : ℕ) (is : null < length ins → IsNull v (get_or ins null no_pair)) (bits : List Bool) (count : ℕ) (inner_is : (k : ℕ) → k < count → v (get_or inner k no_net).0 ≡ true → get_or bits k false ≡ true) where
    -- a pin that is high is not on the NULL input
    other : (k : ℕ) (net : ℕ) → k < length ins → (IsNull v (get_or ins k no_pair) → v net ≡ false) → v net ≡ true → nat_eq k null ≡ false
    other k net lt low up =
        false_from_ne_true (nat_eq k null) (λ same.
        let at : k ≡ null = eqb-true k null same in
        let within : null < length ins = omega (arith, lt, at) in
        absurd (both_ways (v net) (low (subst (λ n. IsNull v (get_or ins n no_pair)) (sym at) (is within))) up))

    pub pin_rises : (p : FormPin) → IsFormPin (length ins) count p → v (pin_net ins inner p).0 ≡ true → pin_bit word null bits p ≡ true
    pin_rises (Zero k) lt up = asked_up (nat_eq k null) _ (other k (get_or ins k no_pair).zero.0 lt (λ low. low.zero) up) (sym (shown_nets base (get_or ins k no_pair) (get_or word k false) (shown_place base ins word shown k lt)).0 ∙ below (get_or ins k no_pair).zero.0 up)
    pin_rises (One k) lt up = asked_up (nat_eq k null) _ (other k (get_or ins k no_pair).one.0 lt (λ low. low.one) up) (sym (shown_nets base (get_or ins k no_pair) (get_or word k false) (shown_place base ins word shown k lt)).1 ∙ below (get_or ins k no_pair).one.0 up)
    pin_rises (Inner k) lt up = inner_is k lt up

    -- a gate that is not set at the bits is not set
    pub pins_unset : (gate : FormGate) (c : StageCell) → IsGateOf ins inner gate c → ((p : FormPin) → Member p gate.pins.items → IsFormPin (length ins) count p) → gate_bit word null bits gate ≡ false → holds v c ≡ false
    pins_unset gate c gate_is are unset = gate_unset v (pin_net ins inner) (pin_bit word null bits) gate c gate_is.kind gate_is.ins_are (λ p m. pin_rises p (are p m)) unset

-- each pin is one that a gate may have
pub all_pins : (inputs inner : ℕ) (gate : FormGate) → IsFormGate inputs inner gate → (p : FormPin) → Member p gate.pins.items → IsFormPin inputs inner p
all_pins inputs inner gate of p m = All-contains (IsFormPin inputs inner) gate.pins.items p of.pins (Contains-from_Member p m)
