use Rattle.ncl_reader.proofs.Places.{inl, refl, sym, ◌∙◌, spelled, form_at, other_word, place_at}
use Rattle.ncl_reader.specs.declared.place.Place.TheVariants as place
use Rattle.ncl_reader.proofs.refusal.of_word.Goals as goal

pub returns-in-Item : goal.returns-in-Item
returns-in-Item c = λ p at. rw c.in-EndModule.is (refl, λ none. none, λ none. none, inl (form_at p place.Item (at ∙ c.in-Item.is)))

pub returns-in_default-place : goal.returns-in_default-place
returns-in_default-place c = λ p at. rw c.in-EndModule.is (refl, λ none. none, λ none. none, λ item. c.in_default-place.not-Item (sym at ∙ place_at p place.Item item), tt)

pub returns-in_default : goal.returns-in_default
returns-in_default c = λ p at. other_word (spelled p) c.args.word c.args.at c.in_default.not-EndModule
