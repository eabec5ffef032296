use Rattle.ncl_shape.proofs.Terms.{NetId, arith, length-map, no_net, numbers_of}
use Rattle.ncl_shape.proofs.BankNumbers.{numbers_more, numbers_whole}
use Rattle.ncl_shape.proofs.Places.{number_of_place}
use Rattle.ncl_shape.proofs.walking.numbers.Goals as goal

pub loop-place-preserved : goal.loop-place-preserved
loop-place-preserved c =
    let banks = c.args.banks.now in
    let k = c.loop-place.place in
    numbers_more c.args.netlist.now (numbers_of banks) k _ c.loop-place.numbers.items c.loop-place.invariant (number_of_place banks k no_net c.loop-place-test.true) (c.requires.inside k no_net c.loop-place-test.true)

pub returns : goal.returns
returns c =
    let banks = c.args.banks.now in
    let as_many = length-map banks (λ (net : NetId). net.0) in
    numbers_whole c.args.netlist.now (numbers_of banks) c.loop-place.place c.loop-place.numbers.items (omega (arith, as_many, c.loop-place-test.false)) c.loop-place.invariant
