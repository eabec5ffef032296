use Rattle.ncl_shape.proofs.Terms.{AllZip, AreGatesOf, AreInputsOf, AreRailsOf, AreStagesOf, IsChain, IsFewBitBank, IsPath, MOST_BANKS, Shape, ap, arith, length, map, requests_of, subst, sym, ◌+◌, ◌-◌, ◌∙◌, ◌≡◌, ◌≤◌}
use Rattle.ncl_shape.proofs.ChainNumbers.{as_many_requests}
use Rattle.ncl_shape.proofs.ShapeLaws.{requests}
use Rattle.ncl_shape.proofs.Assembling.{requests_are, own_requests, bits_of_bank, shape_is}
use Rattle.ncl_shape.proofs.StageLists.{bank_read}
use Rattle.ncl_shape.proofs.ZippedLists.{AllZip-length}
use Rattle.ncl_shape.proofs.finding.assemble.Goals as goal

pub stages_between-requires-clause-banks : goal.stages_between-requires-clause-banks
stages_between-requires-clause-banks c =
    let n = c.netlist-netlist.result.now in
    let banks = c.in_ok-banks.banks.items in
    subst (λ l. AllZip (IsFewBitBank n) (requests l) l) (sym c.deref.ensures.value) (own_requests n (requests_of c.args.chain.now) banks c.in_ok-banks.ensures)

pub stages_between-requires-clause-path : goal.stages_between-requires-clause-path
stages_between-requires-clause-path c =
    let n = c.netlist-netlist.result.now in
    let banks = c.in_ok-banks.banks.items in
    subst (λ l. IsPath n (requests l)) (sym c.deref.ensures.value)
    (subst (IsPath n) (sym (requests_are n (requests_of c.args.chain.now) banks c.in_ok-banks.ensures)) (rw (← c.netlist-netlist.ensures.netlist) at c.requires.chain.chain.path))

pub stages_between-requires-clause-few : goal.stages_between-requires-clause-few
stages_between-requires-clause-few c =
    let n = c.netlist-netlist.result.now in
    let lengths = AllZip-length (IsFewBitBank n) (requests_of c.args.chain.now) c.in_ok-banks.banks.items c.in_ok-banks.ensures in
    omega (arith, lengths, as_many_requests _ c.args.chain.now c.requires.chain, c.requires.few_banks, ap length c.deref.ensures.value)

pub stages_between-requires-clause-gates : goal.stages_between-requires-clause-gates
stages_between-requires-clause-gates c =
    let n = c.netlist-netlist.result.now in
    let banks = c.in_ok-banks.banks.items in
    subst (λ l. AllZip (AreGatesOf n) (requests l) (map (λ v. v.items) c.in_ok-gates.gates.items)) (sym c.deref.ensures.value)
    (subst (λ l. AllZip (AreGatesOf n) l (map (λ v. v.items) c.in_ok-gates.gates.items)) (sym (requests_are n (requests_of c.args.chain.now) banks c.in_ok-banks.ensures)) (rw (← c.netlist-netlist.ensures.netlist) at c.in_ok-gates.ensures))

pub rails_on-requires : goal.rails_on-requires
rails_on-requires c =
    let at = bank_read c.in_ok-banks.banks.items 0 c.index-first.result.now (omega (arith, c.in_ok-stages.ensures.as_many, ap length c.deref.ensures.value)) c.index-first.ensures in
    bits_of_bank _ (requests_of c.args.chain.now) c.in_ok-banks.banks.items c.in_ok-banks.ensures _ c.index-first.result.now at _ c.items.ensures

pub rails_on-requires-2 : goal.rails_on-requires-2
rails_on-requires-2 c =
    let last = c.len.result - 1 in
    let at = bank_read c.in_ok-banks.banks.items last c.index-last.result.now (omega (arith, c.in_ok-stages.ensures.as_many, ap length c.deref.ensures.value, c.len.ensures, c.in_ok-banks.banks.ok.0)) c.index-last.ensures in
    bits_of_bank _ (requests_of c.args.chain.now) c.in_ok-banks.banks.items c.in_ok-banks.ensures last c.index-last.result.now at _ c.items-2.ensures

pub returns : goal.returns
returns c =
    let n = c.args.origins.now.netlist in
    let banks = c.in_ok-banks.banks.items in
    let are_banks = rw c.netlist-netlist.ensures.netlist at c.in_ok-banks.ensures in
    let chain = requests_of c.args.chain.now in
    let first = c.index-first.result.now in
    let last = c.index-last.result.now in
    let is = c.netlist-netlist.ensures.origins.drivers.netlist in
    let as_many : length c.in_ok-stages.stages.items + 1 ≡ length banks = c.in_ok-stages.ensures.as_many ∙ ap length c.deref.ensures.value in
    let end : c.len.result - 1 + 1 ≡ length banks = omega (arith, as_many, c.len.ensures, c.in_ok-banks.banks.ok.0) in
    let at_first = bank_read banks 0 first (omega (arith, as_many)) c.index-first.ensures in
    let at_last = bank_read banks (c.len.result - 1) last (omega (arith, end)) c.index-last.ensures in
    let lengths = AllZip-length (IsFewBitBank n) chain banks are_banks in
    let few : length banks ≤ MOST_BANKS = omega (arith, lengths, as_many_requests n c.args.chain.now c.requires.chain, c.requires.few_banks) in
    let is_chain = subst (IsChain n) (sym (requests_are n chain banks are_banks)) c.requires.chain.chain in
    let stages = subst (λ l. AreStagesOf n l c.in_ok-stages.stages.items) c.deref.ensures.value (rw c.netlist-netlist.ensures.netlist at c.in_ok-stages.ensures) in
    let inputs = subst (λ l. AllZip (AreInputsOf n) l c.in_ok-inputs.inputs) c.items.ensures (rw c.netlist-netlist.ensures.netlist at c.in_ok-inputs.ensures) in
    let outputs = subst (λ l. AllZip (AreRailsOf n) l c.in_ok-outputs.outputs) c.items-2.ensures (rw c.netlist-netlist.ensures.netlist at c.in_ok-outputs.ensures) in
    let whole = shape_is n is c.requires.free c.requires.chained banks (own_requests n chain banks are_banks) is_chain few c.in_ok-stages.stages.items stages first last (c.len.result - 1) at_first end at_last c.in_ok-inputs.inputs c.in_ok-outputs.outputs inputs outputs in
    subst (λ l. Shape n (record { netlist = n; banks = c.from_vec.result; stages = l; inputs = c.in_ok-inputs.inputs; outputs = c.in_ok-outputs.outputs; ki = last.request.0; ko = first.root.0 })) (sym c.from_vec-2.ensures)
    (subst (λ l. Shape n (record { netlist = n; banks = l; stages = c.in_ok-stages.stages.items; inputs = c.in_ok-inputs.inputs; outputs = c.in_ok-outputs.outputs; ki = last.request.0; ko = first.root.0 })) (sym c.from_vec.ensures) whole)
