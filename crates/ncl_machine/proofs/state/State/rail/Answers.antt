use Rattle.ncl_machine.proofs.Terms.{All-contains, Bool, Contains-from_Member, Contains-from_slice_get, Held, IsCounted, List, Member-from_Contains, Rails, Some, ap, arith, current_word, false, get_or, get_or_default, length, no_rails, rail_nets, rail_of, rails_of_word, refl, slice_get, slice_get_read, subst, sym, the_view, ℕ, ◌<◌, ◌∙◌, ◌≡◌}
use Rattle.ncl_machine.proofs.NamedRails.{named-get, bit_at}
use Rattle.ncl_machine.proofs.SourceRails.{current-within}
use Rattle.ncl_machine.proofs.SourceCounts.{wide}
use Rattle.ncl_machine.proofs.state.State.rail.Goals as goal

module _ (h : Held) (raised : ℕ) (is : IsCounted h raised) (word bits : List Bool) (rails : Rails) (bit net : ℕ)
    (there : h.done < length h.offered) (word_is : word ≡ get_or h.offered h.done word) (bits_are : bits ≡ word) (rails_are : rails ≡ get_or h.inputs bit rails) (lt : bit < length h.inputs)
    (net_is : net ≡ rail_of rails (get_or bits bit false)) where
  found : slice_get (current_word h) bit ≡ Some net
  found =
      let at : slice_get h.offered h.done ≡ Some word = slice_get_read h.offered (length h.offered) h.done word refl there word_is in
      ap (λ o. slice_get (rails_of_word h.inputs o) bit) at
      ∙ named-get h.inputs word (wide h raised is word at) bit lt
      ∙ ap (λ r. Some (rail_of r (bit_at word bit))) (get_or_default h.inputs bit no_rails rails lt ∙ sym rails_are)
      ∙ ap (λ w. Some (rail_of rails (get_or w bit false))) (sym bits_are)
      ∙ ap Some (sym net_is)

  within : net < length h.values
  within =
      All-contains (λ x. x < length h.values) (rail_nets h.inputs) net is.within (Contains-from_Member net
      (current-within h.inputs (slice_get h.offered h.done) net (Member-from_Contains (current_word h) net (Contains-from_slice_get (current_word h) bit net found))))

pub returns-clause-some : goal.returns-clause-some
returns-clause-some c =
    let h : Held = the_view c.self.inside in
    let lt = subst (λ (h : Held). c.args.bit < length h.inputs) (sym c.self.view_is) c.requires in
    let there : c.self.inside.done < length c.self.inside.offered.items = omega (arith, c.if-self-len.false, c.len.ensures, c.self.inside.offered.ok.0) in
    subst (λ (h : Held). slice_get (current_word h) c.args.bit ≡ Some c.named.result.0) c.self.view_is
    (found h c.self.inside.raised c.self.invariant.0 c.index-word.result.now c.bits.result.now c.index.result.now c.args.bit c.named.result.0 there c.index-word.ensures c.bits.ensures.bits c.index.ensures lt c.named.ensures)

pub returns-clause-within : goal.returns-clause-within
returns-clause-within c =
    let h : Held = the_view c.self.inside in
    let lt = subst (λ (h : Held). c.args.bit < length h.inputs) (sym c.self.view_is) c.requires in
    let there : c.self.inside.done < length c.self.inside.offered.items = omega (arith, c.if-self-len.false, c.len.ensures, c.self.inside.offered.ok.0) in
    subst (λ (h : Held). c.named.result.0 < length h.values) c.self.view_is
    (within h c.self.inside.raised c.self.invariant.0 c.index-word.result.now c.bits.result.now c.index.result.now c.args.bit c.named.result.0 there c.index-word.ensures c.bits.ensures.bits c.index.ensures lt c.named.ensures)
