use Rattle.ncl_blif.proofs.NumberedLaws.{outputs_driven}
use Rattle.ncl_blif.proofs.finish.head_by_numbers.Goals as goal

pub numbered_outputs-requires : goal.numbered_outputs-requires
numbered_outputs-requires c = outputs_driven c.args.draft.now c.requires.driven
