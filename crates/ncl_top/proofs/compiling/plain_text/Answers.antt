use Rattle.ncl_top.proofs.Terms.{IsCompiledText, false, plain, refl, subst, sym}
use Rattle.ncl_top.proofs.PlainNames.{writable}
use Rattle.ncl_top.proofs.compiling.plain_text.Goals as goal

pub write_netlist-requires : goal.write_netlist-requires
write_netlist-requires c = writable c.requires.0 c.args.netlist c.requires.1

pub returns : goal.returns
returns c = λ models of. subst (IsCompiledText models c.args.netlist false) (sym c.in_ok-text.ensures.text) (plain refl)
