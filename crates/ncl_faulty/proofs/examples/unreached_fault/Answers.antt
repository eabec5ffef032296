use Rattle.ncl_faulty.proofs.Terms.{judgement-computes, reached-insensitive, refl, twins}
use Rattle.ncl_faulty.proofs.Shapes.{twins_shape}
use Rattle.ncl_faulty.proofs.Twins.{twins_reached}
use Rattle.ncl_faulty.proofs.examples.unreached_fault.Goals as goal

pub returns-clause-shape : goal.returns-clause-shape
returns-clause-shape c = twins_shape

pub returns-clause-refused : goal.returns-clause-refused
returns-clause-refused c = judgement-computes 100 twins.stages

pub returns-clause-sound_where_reached : goal.returns-clause-sound_where_reached
returns-clause-sound_where_reached c = twins_reached

pub returns-clause-insensitive : goal.returns-clause-insensitive
returns-clause-insensitive c = reached-insensitive twins twins_shape refl twins_reached
