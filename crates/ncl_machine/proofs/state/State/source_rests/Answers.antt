use Rattle.ncl_machine.proofs.Terms.{Bool, Held, List, Lower, None, Option, PipelineData, Rails, Raise, Some, State, and_right, ap, arith, cases_lt, enabled, false, has_value, inl, inr, length, meaning, not, rails_of_word, refl, slice_get, subst, sym, true, ℕ, ◌&&◌, ◌≡◌, ◌≤◌}
use Rattle.ncl_machine.proofs.NamedRails.{named-past}
use Rattle.ncl_machine.proofs.state.State.source_rests.Goals as goal

-- past the last bit there is no rail
past_rails : (bits : List Rails) (word : Option (List Bool)) (bit : ℕ) → length bits ≤ bit → slice_get (rails_of_word bits word) bit ≡ None
past_rails bits None bit past = refl
past_rails bits (Some word) bit past = named-past bits word bit past

past_rests : (p : PipelineData) (s : State) (bit : ℕ) → length p.inputs ≤ bit → (enabled p s (Raise bit) ≡ false) × (enabled p s (Lower bit) ≡ false)
past_rests p s bit past =
    let none = past_rails p.inputs (slice_get s.offered s.done) bit past in
    (and_right (not s.falling && s.value p.ko) _ (ap (λ o. has_value s.value o false) none), and_right (s.falling && not (s.value p.ko)) _ (ap (λ o. has_value s.value o true) none))

pub returns : goal.returns
returns c = (
  λ _ bit. elim (cases_lt bit c.loop-bit.bit) [
    | inl lt ↦ c.loop-bit.invariant bit lt
    | inr past ↦
        let inputs : length c.self.inside.inputs.items ≡ length c.args.pipeline.now.inputs =
        subst (λ (h : Held). length h.inputs ≡ length c.args.pipeline.now.inputs) (sym c.self.view_is) (ap length c.requires.inputs) in
        past_rests c.args.pipeline.now (meaning c.args.self.now) bit (omega (arith, past, c.loop-bit-test.false, c.len-bit-end.ensures, c.self.inside.inputs.ok.0, inputs))
  ],
  λ _. refl,
)
