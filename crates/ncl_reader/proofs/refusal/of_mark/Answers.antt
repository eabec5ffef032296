use Rattle.ncl_reader.proofs.Places.{refl, spelled, plain_sign}
use Rattle.ncl_reader.proofs.refusal.of_mark.Goals as goal

pub returns-in-RParen : goal.returns-in-RParen
returns-in-RParen c = λ p at. rw c.in-RParen.is (c.of_close.ensures p at)

pub returns-in-Other : goal.returns-in-Other
returns-in-Other c = λ p at. rw c.in-Other.is (refl, λ none. none, λ none. none, λ none. none, tt)

pub returns-in-LBracket : goal.returns-in-LBracket
returns-in-LBracket c = λ p at. rw c.in-LBracket.is (refl, λ none. none, λ none. none, λ none. none, tt)

pub returns-in-RBracket : goal.returns-in-RBracket
returns-in-RBracket c = λ p at. rw c.in-RBracket.is (refl, λ none. none, λ none. none, λ none. none, tt)

pub returns-in-Colon : goal.returns-in-Colon
returns-in-Colon c = λ p at. rw c.in-Colon.is (refl, λ none. none, λ none. none, λ none. none, tt)

pub returns-in_default : goal.returns-in_default
returns-in_default c = λ p at. plain_sign (spelled p) c.args.sign c.args.at c.in_default.not-RParen c.in_default.not-Other c.in_default.not-LBracket c.in_default.not-RBracket c.in_default.not-Colon
