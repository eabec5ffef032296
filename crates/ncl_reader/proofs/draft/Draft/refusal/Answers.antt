use Rattle.ncl_reader.proofs.Loop.{holds-place}
use Rattle.ncl_reader.proofs.draft.Draft.refusal.Goals as goal

pub returns-in-Name : goal.returns-in-Name
returns-in-Name c = λ p holds breaks. rw c.in-Name.is (c.of_name.ensures p holds)

pub returns-in-Number : goal.returns-in-Number
returns-in-Number c = λ p holds breaks. rw c.in-Number.is (c.of_number.ensures p holds)

pub returns-in-Mark : goal.returns-in-Mark
returns-in-Mark c = λ p holds breaks. rw c.in-Mark.is (c.of_mark.ensures p (holds-place c.args.place c.args.self.now p holds))

pub returns-in-Word : goal.returns-in-Word
returns-in-Word c = λ p holds breaks. rw c.in-Word.is (c.of_word.ensures p (holds-place c.args.place c.args.self.now p holds))
