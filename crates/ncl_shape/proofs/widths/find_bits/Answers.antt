use Rattle.ncl_shape.proofs.Terms.{AllZip, AreBitsOf, AreFewBitsOf, MOST_BITS, [], arith, length, map, requests_of, subst, sym, ◌+◌, ◌<◌, ◌^◌, ◌≤◌}
use Rattle.ncl_shape.proofs.ChainNumbers.{as_many_requests}
use Rattle.ncl_shape.proofs.WalkLaws.{chain_is_short}
use Rattle.ncl_shape.proofs.WidthLaws.{wide_within, too_wide, too_long}
use Rattle.ncl_shape.proofs.ZippedLists.{AllZip-and}
use Rattle.ncl_shape.proofs.widths.find_bits.Goals as goal
use Rattle.ncl_shape.proofs.widths.find_bits.Goals.{After-deref, In-Some}

-- the lists that are read have the bits of the banks
are : (c : After-deref) → AllZip (AreBitsOf c.args.origins.now.netlist) (requests_of c.args.chain.now) (map (λ v. v.items) c.deref.result.now)
are c = subst (λ l. AllZip (AreBitsOf c.args.origins.now.netlist) (requests_of c.args.chain.now) (map (λ v. v.items) l)) (sym c.deref.ensures.value) c.in_ok-bits.ensures

-- a bank that is too wide has a small number
small : (c : In-Some) → AllZip (AreBitsOf c.args.origins.now.netlist) (requests_of c.args.chain.now) (map (λ v. v.items) c.deref.result.now) → c.in-Some.k + 1 < 2 ^ 32
small c lists =
    let n = c.args.origins.now.netlist in
    let is = c.facts.ensures.drivers.netlist in
    let chain = c.requires.chain.chain in
    let within = wide_within n is c.requires.free c.requires.chained (requests_of c.args.chain.now) chain _ lists c.in-Some.k c.in-Some.ensures.fails in
    let few = chain_is_short n is c.requires.free (requests_of c.args.chain.now) chain in
    omega (arith, within, few, is.few_nets)

pub overflow_cast-result : goal.overflow_cast-result
overflow_cast-result c =
    let at = goal.at.overflow_cast-result c in
    omega (arith, small at.In-Some (are at.After-deref))

pub overflow_add-result : goal.overflow_add-result
overflow_add-result c =
    let at = goal.at.overflow_add-result c in
    omega (arith, small at.In-Some (are at.After-deref))

pub returns-in-Some-clause-fault : goal.returns-in-Some-clause-fault
returns-in-Some-clause-fault c =
    too_wide c.args.origins.now.netlist c.facts.ensures.drivers.netlist c.requires.free c.requires.chained (requests_of c.args.chain.now) c.requires.chain.chain _ (are (goal.at.returns-in-Some-clause-fault c).After-deref) c.in-Some.k c.in-Some.ensures

pub returns-then-len-gt-MOST_BANKS-clause-fault : goal.returns-then-len-gt-MOST_BANKS-clause-fault
returns-then-len-gt-MOST_BANKS-clause-fault c =
    let n = c.args.origins.now.netlist in
    let chain = c.args.chain.now in
    too_long n c.facts.ensures.drivers.netlist c.requires.free c.requires.chained (requests_of chain) c.requires.chain.chain _ (are (goal.at.returns-then-len-gt-MOST_BANKS-clause-fault c).After-deref) c.in_default.ensures
    (omega (arith, as_many_requests n chain c.requires.chain, c.len.ensures, chain.banks.ok.0, c.if-len-gt-MOST_BANKS.true))

pub returns-clause-bits : goal.returns-clause-bits
returns-clause-bits c =
    let n = c.args.origins.now.netlist in
    let chain = requests_of c.args.chain.now in
    subst (λ l. AllZip (AreFewBitsOf n) chain (map (λ v. v.items) l)) c.deref.ensures.value
    (AllZip-and (AreBitsOf n) (λ bits. length bits ≤ MOST_BITS) [] chain (map (λ v. v.items) c.deref.result.now) (are (goal.at.returns-clause-bits c).After-deref) c.in_default.ensures)
