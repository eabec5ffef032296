use Rattle.ncl_sim_match.proofs.Terms.{IfErr-long, IsRefusedText}
use Rattle.ncl_check.specs.Text.{too_long}
use Rattle.ncl_sim_match.proofs.files.netlist_of.Goals as goal

pub returns-in_err-bytes-clause-refused : goal.returns-in_err-bytes-clause-refused
returns-in_err-bytes-clause-refused g c =
    IfErr-long _ _ _ IsRefusedText (λ bytes many. too_long many) _ c.in_err-bytes.ensures.refused c.from_residual.result c.from_residual.ensures.1
