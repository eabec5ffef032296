use Rattle.ncl_verdict.proofs.Terms.{All, IsAfterBase, subst, sym}
use Rattle.ncl_verdict.proofs.FileOrder.{after_base-within}
use Rattle.ncl_verdict.proofs.shared.Shared.of.Goals as goal

pub invariant_of-result : goal.invariant_of-result
invariant_of-result c = record {
  limit = c.requires;
  after = subst (All (IsAfterBase c.args.stage.now)) (sym c.in_ok-variants.ensures) (after_base-within c.args.stage.now);
}
