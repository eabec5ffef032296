use Rattle.std.proofs.Common.{sym, subst}
use Rattle.ncl_gates.specs.declared.kind.Kind.TheVariants.{Th12, Th13, Th14, Th22, Th33, Th44}
use Rattle.ncl_tree.specs.GateTree.{IsOfFamily, any_two, any_three, any_four, all_two, all_three, all_four}
use Rattle.ncl_tree.proofs.tree.kind_of.Goals as goal

pub returns-in-Any-eq2-clause-family : goal.returns-in-Any-eq2-clause-family
returns-in-Any-eq2-clause-family c = subst (λ family. IsOfFamily family Th12) (sym c.in-Any-eq2.is-0) any_two

pub returns-in-Any-eq3-clause-family : goal.returns-in-Any-eq3-clause-family
returns-in-Any-eq3-clause-family c = subst (λ family. IsOfFamily family Th13) (sym c.in-Any-eq3.is-0) any_three

pub returns-in-Any-default-clause-family : goal.returns-in-Any-default-clause-family
returns-in-Any-default-clause-family c = subst (λ family. IsOfFamily family Th14) (sym c.in-Any-default.is-0) any_four

pub returns-in-All-eq2-clause-family : goal.returns-in-All-eq2-clause-family
returns-in-All-eq2-clause-family c = subst (λ family. IsOfFamily family Th22) (sym c.in-All-eq2.is-0) all_two

pub returns-in-All-eq3-clause-family : goal.returns-in-All-eq3-clause-family
returns-in-All-eq3-clause-family c = subst (λ family. IsOfFamily family Th33) (sym c.in-All-eq3.is-0) all_three

pub returns-in-All-default-clause-family : goal.returns-in-All-default-clause-family
returns-in-All-default-clause-family c = subst (λ family. IsOfFamily family Th44) (sym c.in-All-default.is-0) all_four
