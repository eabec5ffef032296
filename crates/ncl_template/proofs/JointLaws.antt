-- Gates that fit jointly are a template among the cells beside which they fit.
use Rattle.ncl_template.proofs.Terms.{AddsAmong, AddsForm, AddsTemplate, Bool, Contains, Contains-from_Member, FitsJointly, Form, FormGate, FormPin, Inner, IsBehind, IsCase, IsFormGate, IsFormPin, IsGateAmong, IsGateOf, IsNull, IsPairAmong, List, Member, Member-append_left, Member-append_right, Member-from_Contains, NetId, Nets, One, Rails, ShowWord, StageCell, Waits, Zero, [], ap, arith, both_ways, cases_lt, cost_of_inputs, false, gate_bit, get_or, here, holds, inl, inr, joint_bit, joint_pin, length, no_inputs, no_pair, out_of, pin_bit, pin_net, refl, subst, suc, sym, take, true, true_from_ne_false, waits_at, waits_once, zero, ℕ, ◌<◌, ◌∙◌, ◌∷◌, ◌≡◌}
use Rattle.ncl_template.proofs.Leaves.{low_from_unset}
use Rattle.ncl_template.proofs.WaitsLaws.{once_at}
use Rattle.ncl_template.proofs.FormLaws.{gate_unset, pin_rises, pins_unset, all_pins}
use Rattle.ncl_template.proofs.FormGates.{AddsTemplate-form}
use Rattle.ncl_template.proofs.AmongLaws.{AddsAmong-from}

-- ---- over four inputs

module _ (cells : List StageCell) (a b c k : Rails) (x y z t : Bool) (base v : Nets) (case : IsCase base v (a ∷ b ∷ c ∷ k ∷ []) cells (x ∷ y ∷ z ∷ t ∷ [])) (low high : FormGate) (last : IsPairAmong cells (a ∷ b ∷ c ∷ []) k low high) (null : ℕ) (is : null < 3 → IsNull v (get_or (a ∷ b ∷ c ∷ []) null no_pair)) where
  -- the first three show their word
  first_shown : ShowWord base (a ∷ b ∷ c ∷ []) (x ∷ y ∷ z ∷ [])
  first_shown = (case.shown.0, (case.shown.1.0, (case.shown.1.1.0, tt)))

  -- a gate of the last is high only where its bit is
  last_rises : (net : NetId) (gate : FormGate) → IsGateAmong cells (a ∷ b ∷ c ∷ []) net gate → v net.0 ≡ true → gate_bit (x ∷ y ∷ z ∷ []) null [] gate ≡ true
  last_rises net gate of up =
      true_from_ne_false (gate_bit (x ∷ y ∷ z ∷ []) null [] gate)
      (λ unset.
      both_ways (holds v of.cell)
      (pins_unset (a ∷ b ∷ c ∷ []) (x ∷ y ∷ z ∷ []) [] base v case.below first_shown null is [] 0 (λ k lt. absurd (omega (arith, lt))) gate of.cell of.is (all_pins 3 0 gate of.fit) unset)
      (case.supported.each of.cell of.among (ap (λ (n : NetId). v n.0) of.drives ∙ up)))

  first_rises : (p : FormPin) → IsFormPin 3 0 p → v (pin_net (a ∷ b ∷ c ∷ []) [] p).0 ≡ true → pin_bit (x ∷ y ∷ z ∷ []) null [] p ≡ true
  first_rises = pin_rises (a ∷ b ∷ c ∷ []) (x ∷ y ∷ z ∷ []) [] base v case.below first_shown null is [] 0 (λ k lt. absurd (omega (arith, lt)))

  pin : (nets : List NetId) (p : FormPin) → IsFormPin 4 0 p → v (pin_net (a ∷ b ∷ c ∷ k ∷ []) nets p).0 ≡ true → joint_pin low high (x ∷ y ∷ z ∷ []) null p ≡ true
  pin nets (Zero zero) lt up = first_rises (Zero 0) (omega arith) up
  pin nets (Zero (suc zero)) lt up = first_rises (Zero 1) (omega arith) up
  pin nets (Zero (suc (suc zero))) lt up = first_rises (Zero 2) (omega arith) up
  pin nets (Zero (suc (suc (suc zero)))) lt up = last_rises k.zero low last.of_zero up
  pin nets (Zero (suc (suc (suc (suc n))))) lt up = absurd (omega (arith, lt))
  pin nets (One zero) lt up = first_rises (One 0) (omega arith) up
  pin nets (One (suc zero)) lt up = first_rises (One 1) (omega arith) up
  pin nets (One (suc (suc zero))) lt up = first_rises (One 2) (omega arith) up
  pin nets (One (suc (suc (suc zero)))) lt up = last_rises k.one high last.of_one up
  pin nets (One (suc (suc (suc (suc n))))) lt up = absurd (omega (arith, lt))
  pin nets (Inner n) lt up = absurd (omega (arith, lt))

  -- a gate that is not set at the bits is low
  rail_low : (nets : List NetId) (gate : FormGate) (g : StageCell) → IsGateOf (a ∷ b ∷ c ∷ k ∷ []) nets gate g → IsFormGate 4 0 gate → Contains cells g → joint_bit low high (x ∷ y ∷ z ∷ []) null gate ≡ false → v (out_of g) ≡ false
  rail_low nets gate g of fit among unset =
      low_from_unset v g (case.supported.each g among)
      (gate_unset v (pin_net (a ∷ b ∷ c ∷ k ∷ []) nets) (joint_pin low high (x ∷ y ∷ z ∷ []) null) gate g of.kind of.ins_are (λ p m. pin nets p (all_pins 4 0 gate fit p m)) unset)

-- ---- over the inputs as a list

-- where one of four pairs is NULL, one of the first three is, unless it is the last
first_null : (v : Nets) (a b c k : Rails) (null : ℕ) → IsNull v (get_or (a ∷ b ∷ c ∷ k ∷ []) null no_pair) → null < 3 → IsNull v (get_or (a ∷ b ∷ c ∷ []) null no_pair)
first_null v a b c k zero is lt = is
first_null v a b c k (suc zero) is lt = is
first_null v a b c k (suc (suc zero)) is lt = is
first_null v a b c k (suc (suc (suc n))) is lt = absurd (omega (arith, lt))

rail_of_four : (ins : List Rails) (word : List Bool) (cells : List StageCell) (base v : Nets) → length ins ≡ 4 → IsCase base v ins cells word → (low high : FormGate) → IsPairAmong cells (take 3 ins) (get_or ins 3 no_pair) low high → (null : ℕ) → IsNull v (get_or ins null no_pair) → (nets : List NetId) (gate : FormGate) (g : StageCell) → IsGateOf ins nets gate g → IsFormGate (length ins) 0 gate → Contains cells g → ((first : List Bool) → length first ≡ 3 → joint_bit low high first null gate ≡ false) → v (out_of g) ≡ false
rail_of_four [] word cells base v four case low high last null is nets gate g of fit among unset = absurd (omega (arith, four))
rail_of_four (a ∷ []) word cells base v four case low high last null is nets gate g of fit among unset = absurd (omega (arith, four))
rail_of_four (a ∷ b ∷ []) word cells base v four case low high last null is nets gate g of fit among unset = absurd (omega (arith, four))
rail_of_four (a ∷ b ∷ c ∷ []) word cells base v four case low high last null is nets gate g of fit among unset = absurd (omega (arith, four))
rail_of_four (a ∷ b ∷ c ∷ k ∷ e ∷ ins) word cells base v four case low high last null is nets gate g of fit among unset = absurd (omega (arith, four))
rail_of_four (a ∷ b ∷ c ∷ k ∷ []) [] cells base v four case low high last null is nets gate g of fit among unset = absurd case.shown
rail_of_four (a ∷ b ∷ c ∷ k ∷ []) (x ∷ []) cells base v four case low high last null is nets gate g of fit among unset = absurd case.shown.1
rail_of_four (a ∷ b ∷ c ∷ k ∷ []) (x ∷ y ∷ []) cells base v four case low high last null is nets gate g of fit among unset = absurd case.shown.1.1
rail_of_four (a ∷ b ∷ c ∷ k ∷ []) (x ∷ y ∷ z ∷ []) cells base v four case low high last null is nets gate g of fit among unset = absurd case.shown.1.1.1
rail_of_four (a ∷ b ∷ c ∷ k ∷ []) (x ∷ y ∷ z ∷ t ∷ u ∷ word) cells base v four case low high last null is nets gate g of fit among unset = absurd case.shown.1.1.1.1
rail_of_four (a ∷ b ∷ c ∷ k ∷ []) (x ∷ y ∷ z ∷ t ∷ []) cells base v four case low high last null is nets gate g of fit among unset =
    rail_low cells a b c k x y z t base v case low high last null (first_null v a b c k null is) nets gate g of fit among (unset (x ∷ y ∷ z ∷ []) refl)

pair_more : (cells all : List StageCell) (ins : List Rails) (pair : Rails) (low high : FormGate) → ((c : StageCell) → Contains cells c → Contains all c) → IsPairAmong cells ins pair low high → IsPairAmong all ins pair low high
pair_more cells all ins pair low high within last = record { of_zero = more pair.zero low last.of_zero; of_one = more pair.one high last.of_one }
  where
    more : (net : NetId) (gate : FormGate) → IsGateAmong cells ins net gate → IsGateAmong all ins net gate
    more net gate of = record { cell = of.cell; among = within of.cell of.among; drives = of.drives; is = of.is; fit = of.fit }

-- ---- what is added

module _ (f : List Bool → Bool) (ins : List Rails) (w : Waits) (form : Form) (before after : List StageCell) (out : Rails) (joint : FitsJointly before f ins (waits_once w) form) (adds : AddsForm ins form before after out) where
  alone : AddsTemplate f ins [] (cost_of_inputs (length ins)) before after out
  alone = AddsTemplate-form f ins (waits_at no_inputs) form joint.fits before after out adds

  before_in : (c : StageCell) → Contains before c → Contains after c
  before_in c m = Contains-from_Member c (subst (Member c) (sym alone.added) (Member-append_left c alone.made (Member-from_Contains before c m)))

  zero_in : Contains after adds.zero.cell
  zero_in =
      let m : Member adds.zero.cell (adds.zero.cell ∷ []) = here in
      Contains-from_Member adds.zero.cell (subst (Member adds.zero.cell) (sym adds.one.added) (Member-append_left adds.zero.cell (adds.one.cell ∷ []) (subst (Member adds.zero.cell) (sym adds.zero.added) (Member-append_right adds.now adds.zero.cell m))))

  one_in : Contains after adds.one.cell
  one_in =
      let m : Member adds.one.cell (adds.one.cell ∷ []) = here in
      Contains-from_Member adds.one.cell (subst (Member adds.one.cell) (sym adds.one.added) (Member-append_right adds.then adds.one.cell m))

  flat : (gate : FormGate) → IsBehind (length ins) form.inner.items gate → IsFormGate (length ins) 0 gate
  flat gate of = subst (λ n. IsFormGate (length ins) n gate) joint.flat of.fit

  needs : (base v : Nets) (word : List Bool) → IsCase base v ins after word → (k : ℕ) → k < length ins → waits_at w word k ≡ true → IsNull v (get_or ins k no_pair) → IsNull v out
  needs base v word case k lt passes is =
      let four = joint.four in
      let once : waits_once w k ≡ true = once_at w word k passes in
      let early : k < 3 =
      elim (cases_lt k 3) [
        | inl early ↦ early
        | inr past ↦ let last : k ≡ 3 = omega (arith, past, lt, four) in absurd (both_ways (waits_once w 3) joint.not_last (subst (λ n. waits_once w n ≡ true) last once))
      ] in
      let last = pair_more before after (take 3 ins) (get_or ins 3 no_pair) joint.zero joint.one before_in joint.last in
      record {
        zero =
            sym (ap (λ (n : NetId). v n.0) adds.zero.drives)
            ∙ rail_of_four ins word after base v joint.four case joint.zero joint.one last k is adds.nets form.zero adds.zero.cell adds.zero.is (flat form.zero joint.fits.is.zero) zero_in (λ bits three. joint.of_zero bits three k (omega (arith, early, three)) once);
        one =
            sym (ap (λ (n : NetId). v n.0) adds.one.drives)
            ∙ rail_of_four ins word after base v joint.four case joint.zero joint.one last k is adds.nets form.one adds.one.cell adds.one.is (flat form.one joint.fits.is.one) one_in (λ bits three. joint.of_one bits three k (omega (arith, early, three)) once);
      }

  -- the gates of a form that fits jointly are a template among the cells
  pub AddsAmong-joint : AddsAmong f ins (waits_at w) (cost_of_inputs (length ins)) before after out
  AddsAmong-joint = AddsAmong-from f ins [] (waits_at w) (cost_of_inputs (length ins)) before after out alone needs
