use Rattle.ncl_space.proofs.Terms.{Bool, IsFirst, List, PlainData, and_parts, ap, arith, bit_at-trailing_zeros, cases_lt, false, inl, inr, is_set, is_value, length, lt-ltb, ltb-true, nat_eq, nat_lt, slice_index_or, stride_of, sym, table_at, trailing_zeros, w64, ℕ, ◌&&◌, ◌*◌, ◌+◌, ◌-◌, ◌/◌, ◌<◌, ◌^◌, ◌∙◌, ◌≡◌}
use Rattle.ncl_space.proofs.BitLaws.{is_set-past}
use Rattle.ncl_space.proofs.RowLaws.{values_below}
use Rattle.ncl_space.proofs.CountedMarks.{from_nat_lt}
use Rattle.ncl_space.proofs.PlainLaws.{IsPlain-view, length-table_at}
use Rattle.ncl_space.proofs.plain.Plain.first.Goals as goal

-- the place of the lowest 1 among the values of a word is the first, where the words before have none
first_in : (t : List Bool) (value : Bool) (j places : ℕ) → places < 2 ^ 64 → 0 < places → ((k : ℕ) → k < 64 → is_set places k ≡ (nat_lt (64 * j + k) (length t) && is_value value (slice_index_or t (64 * j + k) false))) → ((i : ℕ) → i < length t → i < 64 * j → is_value value (slice_index_or t i false) ≡ false) → IsFirst t value (64 * j + trailing_zeros w64 places)
first_in t value j places fits some are none =
    let lowest = bit_at-trailing_zeros w64 places some fits in
    let k : ℕ = trailing_zeros w64 places in
    let below : k < 64 = lowest.0 in
    let both = and_parts (nat_lt (64 * j + k) (length t)) _ (sym (are k below) ∙ ap (λ (b : ℕ). nat_eq b 1) lowest.1) in
    let within : 64 * j + k < length t = ltb-true (64 * j + k) (length t) both.0 in
    record {
      within = within;
      is = both.1;
      before = λ i lt. elim (cases_lt i (64 * j)) [
        | inl old ↦ none i (omega arith) old
        | inr new ↦
            let at : 64 * j + (i - 64 * j) ≡ i = omega arith in
            let low : i - 64 * j < k = omega arith in
            let in_word : i - 64 * j < 64 = omega arith in
            let there : 64 * j + (i - 64 * j) < length t = omega arith in
            ap (λ (n : ℕ). is_value value (slice_index_or t n false)) (sym at)
            ∙ ap (λ b. b && is_value value (slice_index_or t (64 * j + (i - 64 * j)) false)) (sym (lt-ltb (64 * j + (i - 64 * j)) (length t) there))
            ∙ sym (are (i - 64 * j) in_word)
            ∙ ap (λ (b : ℕ). nat_eq b 1) (lowest.2 (i - 64 * j) low)
      ];
    }

pub returns-then-places-ne0-clause-some : goal.returns-then-places-ne0-clause-some
returns-then-places-ne0-clause-some c =
    first_in (table_at c.args.self.now.width c.args.self.now.tables c.args.x.place) c.args.value c.loop-j.j c.places-places.result c.places-places.type_inv (omega (arith, c.if-places-ne0.true)) c.places-places.ensures c.loop-j.invariant

pub loop-j-preserved : goal.loop-j-preserved
loop-j-preserved c = λ i there below.
    let t : List Bool = table_at c.args.self.now.width c.args.self.now.tables c.args.x.place in
    let j : ℕ = c.loop-j.j in
    elim (cases_lt i (64 * j)) [
      | inl old ↦ c.loop-j.invariant i there old
      | inr new ↦
          let at : 64 * j + (i - 64 * j) ≡ i = omega arith in
          let in_word : i - 64 * j < 64 = omega arith in
          let within : 64 * j + (i - 64 * j) < length t = omega arith in
          ap (λ (n : ℕ). is_value c.args.value (slice_index_or t n false)) (sym at)
          ∙ ap (λ b. b && is_value c.args.value (slice_index_or t (64 * j + (i - 64 * j)) false)) (sym (lt-ltb (64 * j + (i - 64 * j)) (length t) within))
          ∙ sym (c.places-places.ensures (i - 64 * j) in_word)
          ∙ ap (λ (w : ℕ). is_set w (i - 64 * j)) c.if-places-ne0.false
          ∙ is_set-past 0 0 (i - 64 * j) (omega arith) (omega arith)
    ]

pub returns-clause-none : goal.returns-clause-none
returns-clause-none c = λ i there.
    let p : PlainData = c.args.self.now in
    let long = length-table_at p (IsPlain-view _ _ _ _ p c.self.invariant c.self.view_is) c.args.x.place (from_nat_lt c.args.x.place (length p.tables + 2) c.requires) in
    let within : i / 64 < stride_of p.width = values_below p.width i (omega arith) in
    let stride_is : c.self.inside.stride ≡ stride_of p.width = c.self.invariant.stride_is ∙ ap (λ (q : PlainData). stride_of q.width) c.self.view_is in
    c.loop-j.invariant i there (omega arith)
