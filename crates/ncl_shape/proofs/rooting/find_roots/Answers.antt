use Rattle.ncl_shape.proofs.Terms.{AreOnly, IsOnly, IsOnlyOf, IsRoot, MatchOption-at_none, MatchOption-at_some, None, arith, get_or, get_or_read, net_at, no_entry, no_net, slice_get-get_or, subst, sym, ◌+◌, ◌∙◌, ◌≡◌}
use Rattle.ncl_shape.proofs.BankNets.{chain_within}
use Rattle.ncl_shape.proofs.RootLaws.{AreOnlyRoots, two_roots, no_root, roots_more, all_rooted}
use Rattle.ncl_shape.proofs.rooting.find_roots.Goals as goal
use Rattle.ncl_shape.proofs.rooting.find_roots.Goals.{After-index, In-Some}

pub returns-in_default : goal.returns-in_default
returns-in_default c =
    two_roots c.args.origins.now.netlist c.facts.ensures.drivers.netlist c.requires.free c.args.banks.now c.requires.chain
    (MatchOption-at_none _ _ (no_entry c.in_ok-found.field-0 c.in_default.not-Some) c.in_ok-found.ensures)

-- the table that was found
table : (c : In-Some) → AreOnly c.args.origins.now.netlist (IsRoot c.args.origins.now.netlist) c.in-Some.found.items
table c = MatchOption-at_some _ _ c.in-Some.found c.in-Some.is c.in_ok-found.ensures

pub index-requires : goal.index-requires
index-requires c =
    let inside = chain_within c.args.origins.now.netlist c.facts.ensures.drivers.netlist c.args.banks.now c.requires.chain c.loop-bank.bank-index no_net c.loop-bank-test.true in
    let sized = (table (goal.at.index-requires c).In-Some).sized in
    omega (arith, inside, sized)

-- what is read of it at a bank
read : (c : After-index) → AreOnly c.args.origins.now.netlist (IsRoot c.args.origins.now.netlist) c.in-Some.found.items → c.index.result.now ≡ net_at c.in-Some.found.items (get_or c.args.banks.now c.loop-bank.bank-index no_net).0
read c are =
    let inside = chain_within c.args.origins.now.netlist c.facts.ensures.drivers.netlist c.args.banks.now c.requires.chain c.loop-bank.bank-index no_net c.loop-bank-test.true in
    get_or_read c.in-Some.found.items _ c.index.result.now (omega (arith, inside, are.sized)) c.index.ensures None

pub returns-in_default-index : goal.returns-in_default-index
returns-in_default-index c =
    let at = goal.at.returns-in_default-index c in
    no_root c.args.origins.now.netlist c.facts.ensures.drivers.netlist c.requires.free c.args.banks.now c.requires.chain c.in-Some.found.items (table at.In-Some) c.loop-bank.bank-index no_net c.loop-bank-test.true (sym (read at.After-index (table at.In-Some)) ∙ no_entry c.index.result.now c.in_default-index.not-Some)

pub loop-bank-preserved : goal.loop-bank-preserved
loop-bank-preserved c =
    let n = c.args.origins.now.netlist in
    let banks = c.args.banks.now in
    let i = c.loop-bank.bank-index in
    let bank = get_or banks i no_net in
    let at = goal.at.loop-bank-preserved c in
    let inside = chain_within n c.facts.ensures.drivers.netlist banks c.requires.chain i no_net c.loop-bank-test.true in
    let only : IsOnly (IsRoot n bank.0) c.in-Some-index.root.0 = subst (IsOnlyOf (IsRoot n) bank.0) (sym (read at.After-index (table at.In-Some)) ∙ c.in-Some-index.is) ((table at.In-Some).each bank.0 inside) in
    subst (AreOnlyRoots n banks (i + 1)) (sym c.in_ok-push.ensures.items)
    (roots_more n banks i c.loop-bank.roots.items bank c.in-Some-index.root c.loop-bank.invariant (slice_get-get_or banks i no_net c.loop-bank-test.true) only)

pub returns : goal.returns
returns c =
    let few = c.loop-bank.auto.bank-index-end in
    all_rooted c.args.origins.now.netlist c.facts.ensures.drivers.netlist c.requires.free c.args.banks.now c.requires.chain c.requires.acknowledged c.loop-bank.bank-index c.loop-bank.roots.items (omega (arith, few, c.loop-bank-test.false)) c.loop-bank.invariant
