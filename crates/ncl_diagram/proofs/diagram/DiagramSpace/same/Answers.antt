use Rattle.ncl_diagram.proofs.Terms.{DiagramData, IsDiagram, IsTrue, Ref, ap, arith, nat_eq, nat_tests, subst, sym, table_from, ℕ, ◌≡◌}
use Rattle.ncl_diagram.proofs.DiagramLaws.{one_ref}
use Rattle.ncl_diagram.proofs.diagram.DiagramSpace.same.Goals as goal

nat_eq-true : (x y : ℕ) → x ≡ y → IsTrue (nat_eq x y)
nat_eq-true x y e = grind (arith, nat_tests)

from_nat_eq : (x y : ℕ) → IsTrue (nat_eq x y) → x ≡ y
from_nat_eq x y h = grind (arith, nat_tests)

pub returns : goal.returns
returns c =
    let is = subst (λ (d : DiagramData). IsDiagram d.width d.limit d.nodes) c.self.view_is c.self.invariant.0 in
    let place : c.eq.result ≡ nat_eq c.args.x.place c.args.y.place = c.eq.ensures in (
      λ h. ap (table_from c.args.self.now.nodes c.args.self.now.width 0) (from_nat_eq c.args.x.place c.args.y.place (subst IsTrue place h)),
      λ e. subst IsTrue (sym place) (nat_eq-true c.args.x.place c.args.y.place (ap (λ (r : Ref). r.place) (one_ref c.args.self.now is.canonical c.args.x c.args.y c.requires.x c.requires.y e))),
    )
