use Rattle.std.proofs.Common.{refl}
use Rattle.ncl_check.proofs.Accepted.{text_works}
use Rattle.ncl_check.proofs.laws.accepted_is_insensitive.Goals as goal

pub returns : goal.returns
returns c = λ limit why bytes text reply. text_works limit why bytes reply refl
