-- What a delay-insensitive pipeline owes at the words that banks hold at reset, in the stages after these banks and past them.
use Rattle.ncl_refusal.proofs.Terms.{Bit, Bool, BothRails, Incomplete, IsDelayInsensitive, IsLayoutOf, IsOneRailed, IsSoundAt, IsSoundPastHeld, IsSoundWhenHeld, IsSoundWhereHeld, Layout, List, NoRail, Orphan, PipelineData, Rails, Shape, Some, StageData, StageFault, State, [], all_data, ap, arith, brings, drop, false, false_from_ne_true, held-in, inner_stage, laid_out, length, own_stage, refl, shows, slice_get, slice_get-drop, slice_get_within, stage_at, stage_function, subst, suc, sym, val, width, zero, ℕ, ◌+◌, ◌-◌, ◌<◌, ◌∙◌, ◌∷◌, ◌≡◌, ◌≤◌}
use Rattle.ncl_refusal.proofs.HeldIncompletes.{not_incomplete}
use Rattle.ncl_refusal.proofs.HeldPass.{IsAt, beginning, empty-past, goes-on, gone_on, listed-stage, next-wide, one-railed, starts}
use Rattle.ncl_refusal.proofs.HeldSound.{sound-where_begun}
use Rattle.ncl_refusal.proofs.Outputs.{standing}

-- a stage more takes what is brought to it
pub brings-more : (stages : List StageData) (k : ℕ) (s : StageData) (word : List Bool) → slice_get stages k ≡ Some s → brings stages (suc k) word ≡ stage_function s (brings stages k word)
brings-more [] k s word at = absurd cc
brings-more (x ∷ stages) zero s word at = let same : x ≡ s = cc in ap (λ (y : StageData). stage_function y word) same
brings-more (x ∷ stages) (suc k) s word at = brings-more stages k s (stage_function x word) at

module _ (p : PipelineData) (shape : Shape p.netlist p) (good : IsDelayInsensitive p) (l : Layout) (is : IsLayoutOf p l) (k : ℕ) (word : List Bool) (held : l.held k ≡ Some word) where
  -- the word, or what it brings, is on its way in the bank after stage n
  abbrev Position : ℕ → List Bool → Type 0
  Position n w = (t : State) × IsAt is shape good k n w t × (length w ≡ width l (suc n))

  first : Position k word
  first =
      let (lt, wide) = is.held_wide k word held in
      let (t, empty) = empty-past is shape good (l.last - suc k) (suc k) (omega (arith, lt)) in
      (t, starts is shape good k word held t empty, wide)

  further : (n : ℕ) (w : List Bool) → k ≤ n → suc n < l.last → Position n w → Position (suc n) (stage_function (l.stage (suc n)) w)
  further n w past inner (t, here, wide) =
      let one : IsOneRailed (l.stage (suc n)) w = one-railed is shape good n w wide inner t (beginning is shape good k n w wide inner t here past) in
      (gone_on is shape good k n w wide inner t here past one, goes-on is shape good k n w wide inner t here past one, next-wide is shape good k n w wide inner t here past)

  brought : (more n : ℕ) → n ≡ k + more → suc n < l.last → Position n (brings (drop k p.stages) more word)
  brought zero n e inner = subst (λ x. Position x word) (let same : k ≡ n = omega (arith, e) in same) first
  brought (suc more) n e inner =
      let q_inner : suc (k + more) < l.last = omega (arith, e, inner) in
      let many = is.as_many in
      let lt : k + more < length p.stages = omega (arith, q_inner, many) in
      let at : slice_get (drop k p.stages) more ≡ Some (stage_at p (suc (k + more))) = slice_get-drop k p.stages more ∙ inner_stage p shape (k + more) lt in
      let next : Position (suc (k + more)) (stage_function (l.stage (suc (k + more))) (brings (drop k p.stages) more word)) =
      further (k + more) (brings (drop k p.stages) more word) (omega arith) q_inner (brought more (k + more) refl q_inner) in
      let made : stage_function (l.stage (suc (k + more))) (brings (drop k p.stages) more word) ≡ brings (drop k p.stages) (suc more) word =
      ap (λ (s : StageData). stage_function s (brings (drop k p.stages) more word)) (own_stage p shape l is (k + more) lt) ∙ sym (brings-more (drop k p.stages) more (stage_at p (suc (k + more))) word at) in
      subst (λ x. Position x (brings (drop k p.stages) (suc more) word)) (let same : suc (k + more) ≡ n = omega (arith, e) in same)
      (subst (λ w. Position (suc (k + more)) w) made next)

  -- there the stage is sound as is asked of it where a word is held
  sound-there : (n : ℕ) (w : List Bool) → k ≤ n → suc n < l.last → Position n w → IsSoundWhenHeld (l.stage (suc n)) w
  sound-there n w past inner (t, here, wide) =
      sound-where_begun is n w wide inner shape good t (beginning is shape good k n w wide inner t here past) (listed-stage is shape good n inner)

  -- and at the next stage it shows no fault
  sound-next : (n : ℕ) (w : List Bool) → k ≤ n → suc (suc n) < l.last → Position n w → IsSoundAt (l.stage (suc (suc n))) (stage_function (l.stage (suc n)) w)
  sound-next n w past inner2 (t, here, wide) = by_fault
    where
      inner : suc n < l.last
      inner = omega (arith, inner2)

      there : IsSoundWhenHeld (l.stage (suc (suc n))) (stage_function (l.stage (suc n)) w)
      there = sound-there (suc n) (stage_function (l.stage (suc n)) w) (omega (arith, past)) inner2 (further n w past inner (t, here, wide))

      one : IsOneRailed (l.stage (suc n)) w
      one = one-railed is shape good n w wide inner t (beginning is shape good k n w wide inner t here past)

      by_fault : (fault : StageFault) → shows (l.stage (suc (suc n))) (stage_function (l.stage (suc n)) w) fault ≡ false
      by_fault (BothRails output) = there.both output
      by_fault (NoRail output) = there.none output
      by_fault (Orphan cell) = there.orphan cell
      by_fault (Incomplete bit) = false_from_ne_true _ (λ showing.
          let (r, at, full) = standing (λ (r : Rails). all_data (l.stage (suc (suc n))) (val (l.stage (suc (suc n))) (stage_function (l.stage (suc n)) w) (Bit bit))) (slice_get (l.stage (suc (suc n))).inputs bit) showing in
          not_incomplete is shape good k n w wide inner t here past one inner2 bit (slice_get_within (l.stage (suc (suc n))).inputs bit r at) full)

pub sound-where_held : (p : PipelineData) → Shape p.netlist p → IsDelayInsensitive p → IsSoundWhereHeld p
sound-where_held p shape good k b word at has s at_s =
    let (l, is) = laid_out p shape in
    let held = held-in p shape l is k b at word has in
    let lt = slice_get_within p.stages k s at_s in
    let many = is.as_many in
    subst (λ x. IsSoundWhenHeld x word) (is.in_order k s at_s) (sound-there p shape good l is k word held k word (omega arith) (omega (arith, lt, many)) (first p shape good l is k word held))

pub sound-past_held : (p : PipelineData) → Shape p.netlist p → IsDelayInsensitive p → IsSoundPastHeld p
sound-past_held p shape good k b word at has more s at_s =
    let (l, is) = laid_out p shape in
    let held = held-in p shape l is k b at word has in
    let lt = slice_get_within p.stages (k + suc more) s at_s in
    let many = is.as_many in
    let inner2 : suc (suc (k + more)) < l.last = omega (arith, lt, many) in
    let place : k + suc more ≡ suc (k + more) = omega arith in
    let own : l.stage (suc (suc (k + more))) ≡ s = is.in_order (suc (k + more)) s (subst (λ x. slice_get p.stages x ≡ Some s) place at_s) in
    let lt_here : k + more < length p.stages = omega (arith, lt) in
    let at_here : slice_get (drop k p.stages) more ≡ Some (stage_at p (suc (k + more))) = slice_get-drop k p.stages more ∙ inner_stage p shape (k + more) lt_here in
    let made : stage_function (l.stage (suc (k + more))) (brings (drop k p.stages) more word) ≡ brings (drop k p.stages) (suc more) word =
    ap (λ (x : StageData). stage_function x (brings (drop k p.stages) more word)) (own_stage p shape l is (k + more) lt_here) ∙ sym (brings-more (drop k p.stages) more (stage_at p (suc (k + more))) word at_here) in
    subst (λ x. IsSoundAt x (brings (drop k p.stages) (suc more) word)) own
    (subst (λ w. IsSoundAt (l.stage (suc (suc (k + more)))) w) made
    (sound-next p shape good l is k word held (k + more) (brings (drop k p.stages) more word) (omega arith) inner2 (brought p shape good l is k word held more (k + more) refl (omega (arith, inner2)))))
