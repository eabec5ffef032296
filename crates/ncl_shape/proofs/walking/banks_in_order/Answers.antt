use Rattle.ncl_shape.proofs.Terms.{AreAllNumbered, AreNumbersOf, IsFirstBank, both_ways, numbers_of, subst, sym, ◌∙◌}
use Rattle.ncl_shape.proofs.WalkLaws.{numbered_by_chain, chain_of_walk}
use Rattle.ncl_shape.proofs.walking.banks_in_order.Goals as goal

pub returns-then-not-are_all_numbered : goal.returns-then-not-are_all_numbered
returns-then-not-are_all_numbered c = λ chain.
    let n = c.args.origins.now.netlist in
    let (it, same) = c.requires.first in
    let numbers = subst (λ banks. AreNumbersOf n (numbers_of banks) c.in_ok-numbers.numbers.items) c.deref.ensures.value (rw c.netlist-netlist.ensures.netlist at c.in_ok-numbers.ensures) in
    let all = numbered_by_chain n c.netlist-netlist.ensures.origins.drivers.netlist c.requires.free c.args.first.0 (λ other first. it.only other first ∙ same) c.requires.unforked (numbers_of c.in_ok-banks.banks.items) (rw c.netlist-netlist.ensures.netlist at c.in_ok-banks.ensures.walk) c.in_ok-numbers.numbers.items numbers chain in
    both_ways c.are_all_numbered.result c.if-not-are_all_numbered.true (c.are_all_numbered.ensures.1 (subst (AreAllNumbered n) (sym c.deref-2.ensures.value) all))

pub returns : goal.returns
returns c =
    let n = c.args.origins.now.netlist in
    let (it, same) = c.requires.first in
    let numbers = subst (λ banks. AreNumbersOf n (numbers_of banks) c.in_ok-numbers.numbers.items) c.deref.ensures.value (rw c.netlist-netlist.ensures.netlist at c.in_ok-numbers.ensures) in
    let all = subst (AreAllNumbered n) c.deref-2.ensures.value (c.are_all_numbered.ensures.0 c.if-not-are_all_numbered.false) in
    (chain_of_walk n c.netlist-netlist.ensures.origins.drivers.netlist c.requires.free c.args.first.0 (λ other first. it.only other first ∙ same) c.requires.unforked (numbers_of c.in_ok-banks.banks.items) (rw c.netlist-netlist.ensures.netlist at c.in_ok-banks.ensures.walk) c.in_ok-numbers.numbers.items numbers (subst (IsFirstBank n) same it.is) all, numbers)
