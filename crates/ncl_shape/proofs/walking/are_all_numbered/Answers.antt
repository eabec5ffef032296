use Rattle.ncl_shape.proofs.Terms.{IsBank, None, Some, ap, arith, below_more, both_ways, first_by_request, is_some, length, none_from, number_at, refl, request_by_first, sym, ℕ, ◌<◌, ◌∙◌, ◌≡◌}
use Rattle.ncl_shape.proofs.BankNets.{bank_within}
use Rattle.ncl_shape.proofs.Places.{some_entry}
use Rattle.ncl_shape.proofs.walking.are_all_numbered.Goals as goal
use Rattle.ncl_shape.proofs.walking.are_all_numbered.Goals.{else-is_some-via-then-is_some+else-is_none, else-is_some-via-else-is_some}

pub returns-then-is_none : goal.returns-then-is_none
returns-then-is_none c = (
  (λ never. absurd cc),
  λ all.
      let n = c.args.origins.now.netlist in
      let net = c.loop-net.net in
      let inside : net < length n.nets = omega (arith, c.loop-net-test.true, ap length (rw c.netlist.ensures.netlist at c.nets-net-end.ensures.nets)) in
      let is_bank = request_by_first n c.netlist.ensures.origins.drivers.netlist net inside c.args.origins.now.firsts c.netlist.ensures.origins.firsts (ap is_some (sym c.first.ensures.first) ∙ sym c.is_some.ensures ∙ c.if-is_some.true) in
      let (k, said) = all net is_bank in
      let clash : None ≡ Some k = sym (none_from (number_at c.args.numbers.now net) c.is_none.result c.is_none.ensures c.if-is_none.true) ∙ said in
      absurd cc,
)

pub loop-net-preserved : goal.loop-net-preserved
loop-net-preserved c =
    let n = c.args.origins.now.netlist in
    let net = c.loop-net.net in
    let inside : net < length n.nets = omega (arith, c.loop-net-test.true, ap length (rw c.netlist.ensures.netlist at c.nets-net-end.ensures.nets)) in
    below_more (λ j. IsBank n j → (k : ℕ) × (number_at c.args.numbers.now j ≡ Some k)) net c.loop-net.invariant
    (elim c.else-is_some.branch [
      | else-is_some-via-then-is_some+else-is_none w ↦ λ is_bank. some_entry (number_at c.args.numbers.now net) w.is_none.result w.is_none.ensures w.if-is_none.false
      | else-is_some-via-else-is_some w ↦
          λ is_bank.
          let some = first_by_request n c.netlist.ensures.origins.drivers.netlist net inside c.args.origins.now.firsts c.netlist.ensures.origins.firsts is_bank in
          absurd (both_ways c.is_some.result w.if-is_some.false (c.is_some.ensures ∙ ap is_some c.first.ensures.first ∙ some))
    ])

pub returns : goal.returns
returns c = (
  (λ holds bank is_bank.
      let inside = bank_within c.args.origins.now.netlist c.netlist.ensures.origins.drivers.netlist bank is_bank in
      c.loop-net.invariant bank (omega (arith, inside, c.loop-net-test.false, ap length (rw c.netlist.ensures.netlist at c.nets-net-end.ensures.nets))) is_bank),
  λ all. refl,
)
