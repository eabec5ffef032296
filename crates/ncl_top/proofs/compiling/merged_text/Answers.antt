use Rattle.ncl_top.proofs.Terms.{IsCompiledText, merged, refl, subst, sym, true}
use Rattle.ncl_top.proofs.PlainNames.{writable}
use Rattle.ncl_top.proofs.MergedModels.{compiled_merged}
use Rattle.ncl_top.proofs.compiling.merged_text.Goals as goal

pub merge-requires : goal.merge-requires
merge-requires c = let of = c.requires.1 in record { pipeline = of.pipeline; shape = of.shape; sound = of.sound }

pub write_netlist-requires : goal.write_netlist-requires
write_netlist-requires c =
    let (models, of) = c.requires in
    let m = c.in_ok-folded.folded in
    writable models m (compiled_merged models c.args.netlist m of c.in_ok-folded.ensures)

pub returns : goal.returns
returns c = λ models of.
    let m = c.in_ok-folded.folded in
    let from = c.in_ok-folded.ensures in
    subst (IsCompiledText models c.args.netlist true) (sym c.in_ok-text.ensures.text) (merged refl m from (compiled_merged models c.args.netlist m of from))
