use Rattle.ncl_diagram.proofs.Terms.{Entry, MOST_PLACES, Some, ap, inl, inr, places, sym, ◌∙◌, ◌∷◌, ◌≡◌}
use Rattle.ncl_diagram.proofs.Applying.{get_set, some_only}
use Rattle.ncl_diagram.proofs.KeptLaws.{all_below_more}
use Rattle.ncl_diagram.proofs.answers.Answers.note.Goals as goal

pub new-requires : goal.new-requires
new-requires c = all_below_more c.args.self.now.floor MOST_PLACES (c.args.found.place ∷ places c.args.key) c.args.self.now.nameable (sym c.are_below.ensures ∙ c.if-are_below.true)

pub returns-then-are_below-clause-slots : goal.returns-then-are_below-clause-slots
returns-then-are_below-clause-slots c = λ entry (at, has).
    elim (get_set c.args.self.now.slots.items c.args.at at c.new.result (Some entry) has) [
      | inl other ↦ inl (at, other)
      | inr new ↦
          let is : entry ≡ record { kind = c.args.kind; key = c.args.key; found = c.args.found } = sym (some_only _ _ (sym c.new.ensures ∙ new.1)) in
          inr (ap (λ (e : Entry). e.kind) is, ap (λ (e : Entry). e.key) is, ap (λ (e : Entry). e.found) is)
    ]

pub returns-else-at-len-clause-slots : goal.returns-else-at-len-clause-slots
returns-else-at-len-clause-slots c = λ entry has. inl has
