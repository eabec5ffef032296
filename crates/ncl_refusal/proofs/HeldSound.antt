-- What a delay-insensitive pipeline owes in the stage after a bank that holds a word at reset.
use Rattle.ncl_refusal.proofs.Terms.{Base, Bool, BothRails, Contains, Contains-from_slice_get, IsDelayInsensitive, IsLayoutOf, IsSoundWhenHeld, Layout, List, Member-from_Contains, NoRail, Orphan, PipelineData, Shape, StageCell, StageData, State, Without, all_data, and_parts, ap, both_ways, cases_lt, false, false_from_ne_true, get_or_from_slice_get, has_data, holds_at, inl, inr, is_illegal, is_late, is_left_high, length, named-get, named-past, no_rails, not, not-true, shows, slice_get, slice_get_within, suc, sym, val, width, ℕ, ◌&&◌, ◌<◌, ◌∙◌, ◌≡◌}
use Rattle.ncl_refusal.proofs.HeldFaults.{no_orphan, not_illegal}
use Rattle.ncl_refusal.proofs.HeldLate.{not_late}
use Rattle.ncl_refusal.proofs.HeldStage.{IsBeginning, some-data}
use Rattle.ncl_refusal.proofs.Outputs.{standing}

module _ {p : PipelineData} {l : Layout} (is : IsLayoutOf p l) (n : ℕ) (word : List Bool) (wide : length word ≡ width l (suc n)) (inner : suc n < l.last)
    (shape : Shape p.netlist p) (good : IsDelayInsensitive p) (s0 : State) (begins : IsBeginning is n word wide inner s0) (listed : Contains p.stages (l.stage (suc n))) where
  abbrev own : StageData
  own = l.stage (suc n)

  both : (output : ℕ) → shows own word (BothRails output) ≡ false
  both output = false_from_ne_true _ (λ showing.
      let (r, at, illegal) = standing (is_illegal (val own word Base)) (slice_get own.outputs output) showing in
      both_ways (is_illegal (val own word Base) r) (not_illegal is n word wide inner shape good s0 begins listed r (Member-from_Contains own.outputs r (Contains-from_slice_get own.outputs output r at))) illegal)

  none : (output : ℕ) → shows own word (NoRail output) ≡ false
  none output = false_from_ne_true _ (λ showing.
      let (r, at, low) = standing (λ r. not (has_data (val own word Base) r)) (slice_get own.outputs output) showing in
      both_ways (has_data (val own word Base) r) (not-true _ low)
      (ap (has_data (val own word Base)) (sym (get_or_from_slice_get own.outputs output r no_rails at)) ∙ some-data is n word wide inner shape good s0 begins output (slice_get_within own.outputs output r at)))

  orphan : (cell : ℕ) → shows own word (Orphan cell) ≡ false
  orphan cell = false_from_ne_true _ (λ showing.
      let (g, at, both) = standing (λ (c : StageCell). val own word Base c.out.0 && all_data own (val own word (Without cell))) (slice_get own.cells cell) showing in
      let (high, full) = and_parts (val own word Base g.out.0) (all_data own (val own word (Without cell))) both in
      no_orphan is n word wide inner shape good s0 begins cell g at high full)

  late : (bit : ℕ) → is_late own word bit ≡ false
  late bit = elim (cases_lt bit (length own.inputs)) [
    | inl lt ↦ ap (holds_at (is_left_high own word)) (named-get own.inputs word wide bit lt) ∙ false_from_ne_true _ (λ left. not_late is n word wide inner shape good s0 begins bit lt left)
    | inr past ↦ ap (holds_at (is_left_high own word)) (named-past own.inputs word bit past)
  ]

  -- where its bank has the word and all behind it waits, the stage is sound at the word as is asked of it there
  pub sound-where_begun : IsSoundWhenHeld own word
  sound-where_begun = record { both = both; none = none; orphan = orphan; late = late }
