use Rattle.ncl_merge.proofs.Keeping.{IsSmaller, IsSoundNetlist, MatchOption, NothingFoldable, subst, sym}
use Rattle.std.specs.Result.{IfOk}
use Rattle.ncl_merge.proofs.merging.round.Goals as goal

pub folded-requires : goal.folded-requires
folded-requires c = subst IsSoundNetlist (sym c.in_ok-pipeline.ensures.netlist) c.requires

pub returns : goal.returns
returns c =
    subst (λ n. IfOk c.folded.result (λ found. MatchOption found (NothingFoldable n) (λ next. IsSmaller n next))) c.in_ok-pipeline.ensures.netlist c.folded.ensures
