use Rattle.ncl_merge.proofs.Choices.{is-choice, is-whole}
use Rattle.ncl_merge.proofs.laws.rebuilt.folds_are_a_choice.Goals as goal

pub returns : goal.returns
returns c = record { choice = λ p lists shape fewer. is-choice p shape lists fewer; whole = λ p lists shape fewer. is-whole p shape lists fewer }
