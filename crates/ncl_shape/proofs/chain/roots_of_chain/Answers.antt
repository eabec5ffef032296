use Rattle.ncl_shape.proofs.Terms.{AreRootsOf, ChainedRequests, IsFree, MatchOption-at_none, MatchOption-at_some, OneRoleEach, OneRootEach, ShownOutputs, WordsApart, both_ways, no_entry, numbers_of, subst, sym}
use Rattle.ncl_shape.proofs.InnerRules.{breaks_rule, after_chain, after_acknowledges, after_roots, after_closing, after_roles, chained}
use Rattle.ncl_shape.proofs.chain.roots_of_chain.Goals as goal

pub returns-then-not-is_acknowledged-clause-fault : goal.returns-then-not-is_acknowledged-clause-fault
returns-then-not-is_acknowledged-clause-fault c =
    let n = c.args.origins.now.netlist in
    breaks_rule n ChainedRequests
    (λ rule. both_ways c.is_acknowledged.result c.if-not-is_acknowledged.true (c.is_acknowledged.ensures.1 (rule (numbers_of c.args.banks.now) c.requires.chain)))
    (after_chain n c.requires.register c.requires.ends c.netlist-netlist.ensures.origins.drivers.netlist c.requires.free c.requires.unforked (numbers_of c.args.banks.now) c.requires.chain)

pub find_roots-requires-clause-acknowledged : goal.find_roots-requires-clause-acknowledged
find_roots-requires-clause-acknowledged c = c.is_acknowledged.ensures.0 c.if-not-is_acknowledged.false

pub returns-in_default-clause-fault : goal.returns-in_default-clause-fault
returns-in_default-clause-fault c =
    let n = c.args.origins.now.netlist in
    breaks_rule n OneRootEach
    (λ rule. MatchOption-at_none _ _ (no_entry c.in_ok-roots.field-0 c.in_default.not-Some) c.in_ok-roots.ensures (rule (numbers_of c.args.banks.now) c.requires.chain))
    (after_acknowledges n c.requires.register c.requires.ends c.netlist-netlist.ensures.origins.drivers.netlist c.requires.free c.requires.unforked (numbers_of c.args.banks.now) c.requires.chain (c.is_acknowledged.ensures.0 c.if-not-is_acknowledged.false))

pub is_closed-requires-clause-rooted : goal.is_closed-requires-clause-rooted
is_closed-requires-clause-rooted c = (MatchOption-at_some _ _ _ c.in-Some.is c.in_ok-roots.ensures).0

pub is_closed-requires-clause-roots : goal.is_closed-requires-clause-roots
is_closed-requires-clause-roots c = subst (AreRootsOf c.args.origins.now.netlist c.args.banks.now) (sym c.deref.ensures.value) (MatchOption-at_some _ _ _ c.in-Some.is c.in_ok-roots.ensures).1

pub returns-then-not-is_closed-clause-fault : goal.returns-then-not-is_closed-clause-fault
returns-then-not-is_closed-clause-fault c =
    let n = c.args.origins.now.netlist in
    breaks_rule n ShownOutputs
    (λ rule. both_ways c.is_closed.result c.if-not-is_closed.true (c.is_closed.ensures.1 (λ first last. rule (numbers_of c.args.banks.now) first last c.requires.chain)))
    (after_roots n c.requires.register c.requires.ends c.netlist-netlist.ensures.origins.drivers.netlist c.requires.free c.requires.unforked (numbers_of c.args.banks.now) c.requires.chain (c.is_acknowledged.ensures.0 c.if-not-is_acknowledged.false) (MatchOption-at_some _ _ _ c.in-Some.is c.in_ok-roots.ensures).0)

pub have_one_role-requires : goal.have_one_role-requires
have_one_role-requires c = subst IsFree (sym c.netlist-netlist.ensures.netlist) c.requires.free

pub returns-then-not-branch-clause-fault : goal.returns-then-not-branch-clause-fault
returns-then-not-branch-clause-fault c =
    let n = c.args.origins.now.netlist in
    breaks_rule n OneRoleEach
    (λ rule. both_ways c.in_ok-have_one_role.field-0 c.if-not-branch.true ((rw c.netlist-netlist.ensures.netlist at c.in_ok-have_one_role.ensures).1 rule))
    (after_closing n c.requires.register c.requires.ends c.netlist-netlist.ensures.origins.drivers.netlist c.requires.free c.requires.unforked (numbers_of c.args.banks.now) c.requires.chain (c.is_acknowledged.ensures.0 c.if-not-is_acknowledged.false) (MatchOption-at_some _ _ _ c.in-Some.is c.in_ok-roots.ensures).0 (c.is_closed.ensures.0 c.if-not-is_closed.false))

pub returns-then-not-are_data_apart-clause-fault : goal.returns-then-not-are_data_apart-clause-fault
returns-then-not-are_data_apart-clause-fault c =
    let n = c.args.origins.now.netlist in
    breaks_rule n WordsApart
    (λ rule. both_ways c.are_data_apart.result c.if-not-are_data_apart.true (c.are_data_apart.ensures.1 rule))
    (after_roles n c.requires.register c.requires.ends c.netlist-netlist.ensures.origins.drivers.netlist c.requires.free c.requires.unforked (numbers_of c.args.banks.now) c.requires.chain (c.is_acknowledged.ensures.0 c.if-not-is_acknowledged.false) (MatchOption-at_some _ _ _ c.in-Some.is c.in_ok-roots.ensures).0 (c.is_closed.ensures.0 c.if-not-is_closed.false)
    ((rw c.netlist-netlist.ensures.netlist at c.in_ok-have_one_role.ensures).0 c.if-not-branch.false))

pub returns-clause-roots : goal.returns-clause-roots
returns-clause-roots c = (MatchOption-at_some _ _ _ c.in-Some.is c.in_ok-roots.ensures).1

pub returns-clause-chained : goal.returns-clause-chained
returns-clause-chained c =
    chained c.args.origins.now.netlist c.requires.register c.requires.ends c.netlist-netlist.ensures.origins.drivers.netlist c.requires.free c.requires.unforked (numbers_of c.args.banks.now) c.requires.chain (c.is_acknowledged.ensures.0 c.if-not-is_acknowledged.false) (MatchOption-at_some _ _ _ c.in-Some.is c.in_ok-roots.ensures).0 (c.is_closed.ensures.0 c.if-not-is_closed.false)
    ((rw c.netlist-netlist.ensures.netlist at c.in_ok-have_one_role.ensures).0 c.if-not-branch.false) (c.are_data_apart.ensures.0 c.if-not-are_data_apart.false)
