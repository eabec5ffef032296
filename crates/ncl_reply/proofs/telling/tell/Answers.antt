use Rattle.ncl_reply.specs.Devices.{whole, cut_short}
use Rattle.ncl_reply.proofs.telling.tell.Goals as goal

pub returns-in-Ok-clause-tells : goal.returns-in-Ok-clause-tells
returns-in-Ok-clause-tells g c = whole c.in-Ok.ensures.ok

pub returns-in-Err-clause-tells : goal.returns-in-Err-clause-tells
returns-in-Err-clause-tells g c = cut_short c.in-Err.ensures.rose c.in-Err.ensures.part
