use Rattle.ncl_reader.proofs.SomeAnswer as some
use Rattle.ncl_reader.proofs.laws.some_answer.Goals as goal

pub returns : goal.returns
returns c = some.some_answer
