use Rattle.ncl_cell_rules.proofs.Terms.{false≢true, A, B, Bool, IsDataBehind, List, NetId, OnPin, and_parts, ap, arith, both_ways, eq-eqb, false, false_from_ne_true, get_or, not, refl, same_unless, subst, sym, true, ◌||◌, ◌∙◌, ◌≡◌}
use Rattle.ncl_cell_rules.proofs.PinNumbers.{no_net, ack_on}
use Rattle.ncl_cell_rules.proofs.BitTests.{behind_pin, one_bit_of, banks_are_one, cells_differ, data_behind, data_is_one}
use Rattle.ncl_cell_rules.proofs.pairing.reads_one_bit.Goals as goal
use Rattle.ncl_cell_rules.proofs.pairing.reads_one_bit.Goals.{After-deref, After-deref-2}

-- the nets that are read are on pins A and B
on_a : (c : After-deref) → OnPin c.args.cell.now A (get_or c.deref.result.now 0 no_net).0
on_a c = ack_on c.args.netlist.now c.requires.drivers.netlist c.args.cell.now c.requires.in_netlist 0 c.deref.result.now c.deref.ensures.0 c.requires.ack (omega arith)

on_b : (c : After-deref-2) → OnPin c.args.cell.now B (get_or c.deref-2.result.now 1 no_net).0
on_b c = ack_on c.args.netlist.now c.requires.drivers.netlist c.args.cell.now c.requires.in_netlist 1 c.deref-2.result.now c.deref-2.ensures.0 c.requires.ack (omega arith)

pub returns-in_default : goal.returns-in_default
returns-in_default c = (
  (λ never. absurd (false≢true never)),
  λ bit.
      let on = on_a (goal.at.returns-in_default c).After-deref in
      let (k, behind) = behind_pin c.args.netlist.now c.requires.drivers.netlist c.args.cell.now bit.zero A _ bit.request on bit.zero_of bit.on_a in
      absurd (c.in_default.ensures.none k bit.request behind),
)

pub returns-in_default-register_behind : goal.returns-in_default-register_behind
returns-in_default-register_behind c = (
  (λ never. absurd (false≢true never)),
  λ bit.
      let on = on_b (goal.at.returns-in_default-register_behind c).After-deref-2 in
      let (k, behind) = behind_pin c.args.netlist.now c.requires.drivers.netlist c.args.cell.now bit.one B _ bit.request on bit.one_of bit.on_b in
      absurd (c.in_default-register_behind.ensures.none k bit.request behind),
)

pub returns-then-zero-one : goal.returns-then-zero-one
returns-then-zero-one c = (
  (λ never. absurd (false≢true never)),
  λ bit.
      let at = goal.at.returns-then-zero-one c in
      absurd (cells_differ c.args.netlist.now c.requires.drivers.netlist c.args.cell.now _ _ (on_a at.After-deref) (on_b at.After-deref-2) _ _ _ _ c.in-Some.ensures.some c.in-Some-register_behind.ensures.some bit c.if-zero-one.true),
)

pub returns-then-ne : goal.returns-then-ne
returns-then-ne c = (
  (λ never. absurd (false≢true never)),
  λ bit.
      let at = goal.at.returns-then-ne c in
      let same = banks_are_one c.args.netlist.now c.requires.drivers.netlist c.args.cell.now _ _ (on_a at.After-deref) (on_b at.After-deref-2) _ _ _ _ c.in-Some.ensures.some c.in-Some-register_behind.ensures.some bit in
      absurd (both_ways c.ne.result (c.ne.ensures ∙ ap not (eq-eqb c.in-Some.bank.0 c.in-Some-register_behind.other.0 same)) c.if-ne.true),
)

-- one of two tests fails just where not both hold
not_both : (x y : Bool) → (not x || not y) ≡ true → x ≡ true → y ≡ true → ⊥
not_both true y one p q = both_ways (not y) (ap not q) one
not_both false y one p q = both_ways false refl p

one_fails : (x y : Bool) → (x ≡ true → y ≡ true → ⊥) → (not x || not y) ≡ true
one_fails true true never = absurd (never refl refl)
one_fails true false never = refl
one_fails false y never = refl

pub returns : goal.returns
returns c =
    let n = c.args.netlist.now in
    let is = c.requires.drivers.netlist in
    let at = goal.at.returns c in
    let zero = c.in-Some.ensures.some in
    let one = c.in-Some-register_behind.ensures.some in
    let nets_a = c.deref.ensures.0 ∙ sym c.deref-3.ensures.0 in
    let nets_b = c.deref-2.ensures.0 ∙ sym c.deref-4.ensures.0 in
    let high_a = λ (nets : List NetId). IsDataBehind n (get_or nets 0 no_net).0 in
    let high_b = λ (nets : List NetId). IsDataBehind n (get_or nets 1 no_net).0 in (
      (λ holds. one_bit_of n is c.args.cell.now _ _ (on_a at.After-deref) (on_b at.After-deref-2) _ _ _ _ zero one c.if-zero-one.false (same_unless c.in-Some.bank.0 c.in-Some-register_behind.other.0 c.ne.result c.ne.ensures c.if-ne.false)
          (false_from_ne_true _ (λ both.
          let (high, other) = and_parts _ _ both in
          not_both c.is_data_behind.result c.is_data_behind-2.result holds
          (c.is_data_behind.ensures.1 (subst high_a nets_a (data_behind n is _ _ _ zero high)))
          (c.is_data_behind-2.ensures.1 (subst high_b nets_b (data_behind n is _ _ _ one other)))))),
      λ bit. one_fails c.is_data_behind.result c.is_data_behind-2.result (λ high other.
          data_is_one n is c.args.cell.now _ _ (on_a at.After-deref) (on_b at.After-deref-2) bit
          (subst high_a (sym nets_a) (c.is_data_behind.ensures.0 high))
          (subst high_b (sym nets_b) (c.is_data_behind-2.ensures.0 other))),
    )
