use Rattle.ncl_merge.proofs.Keeping.{IsSmaller, MatchOption, NothingFoldable, inl, refl, subst, way-ends, way-on, way-sound}
use Rattle.ncl_merge.proofs.merging.merge.Goals as goal

pub loop-merged-init : goal.loop-merged-init
loop-merged-init c = record { way = inl refl }

pub round-requires : goal.round-requires
round-requires c = way-sound c.args.netlist c.loop-merged.merged c.requires c.loop-merged.invariant.way

pub loop-merged-preserved : goal.loop-merged-preserved
loop-merged-preserved c =
    let m = c.loop-merged.merged in
    let smaller = subst (λ found. MatchOption found (NothingFoldable m) (IsSmaller m)) c.in-Some.is c.in_ok-next.ensures in
    record { way = way-on c.args.netlist m c.in-Some.next c.loop-merged.invariant.way smaller }

pub returns : goal.returns
returns c =
    let m = c.loop-merged.merged in
    way-ends c.args.netlist m c.requires c.loop-merged.invariant.way
    (subst (λ found. MatchOption found (NothingFoldable m) (IsSmaller m)) c.in_default.is c.in_ok-next.ensures)
