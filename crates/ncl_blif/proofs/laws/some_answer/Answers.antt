use Rattle.ncl_blif.proofs.SomeAnswer as some
use Rattle.ncl_blif.proofs.NeverMemory as never
use Rattle.ncl_blif.proofs.laws.some_answer.Goals as goal

pub returns : goal.returns
returns c = record { some = some.some_answer; never_memory = never.never_memory }
