use Rattle.ncl_check.proofs.Refusing.{TellsLine-with}
use Rattle.ncl_sim_match.proofs.reading.no_delays.Goals as goal

pub returns-in_default : goal.returns-in_default
returns-in_default c = TellsLine-with c.in_default.not-Memory _ c.of.result (c.of.ensures _ c.delay_text.ensures)
