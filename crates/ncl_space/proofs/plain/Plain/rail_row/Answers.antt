use Rattle.ncl_space.proofs.Terms.{List, PlainData, ap, arith, is_set, is_set-and, is_value, nat_lt, rail_table, stride_of, subst, sym, ℕ, ◌&&◌, ◌*◌, ◌+◌, ◌-◌, ◌<◌, ◌^◌, ◌∙◌, ◌≡◌}
use Rattle.ncl_space.proofs.BitLaws.{is_set-not}
use Rattle.ncl_space.proofs.RowLaws.{FillsTo, FillsTo-push, rail_bit, stride_of-few}
use Rattle.ncl_space.proofs.plain.Plain.rail_row.Goals as goal
use Rattle.ncl_space.proofs.plain.Plain.rail_row.Goals.{then-value, else-value}

pub push-requires : goal.push-requires
push-requires c = (omega arith, omega (arith, stride_of-few c.self.inside.width c.self.invariant.few_bits, c.loop-j.invariant.long, c.self.invariant.stride_is))

pub loop-j-preserved : goal.loop-j-preserved
loop-j-preserved c =
    let n : ℕ = c.args.self.now.width in
    let j : ℕ = c.loop-j.j in
    let values : ℕ = c.bit_values-values.result in
    let ones : ℕ = c.all_ones-ones.result in
    let stride_is : c.self.inside.stride ≡ stride_of n = c.self.invariant.stride_is ∙ ap (λ (q : PlainData). stride_of q.width) c.self.view_is in
    let bits : (k : ℕ) → k < 64 → is_set c.if-value.push k ≡ (is_value c.args.value (is_set values k) && is_set ones k) = elim c.if-value.branch [
      | then-value w ↦ λ k below. ap (λ (p : ℕ). is_set p k) w.push-is ∙ is_set-and values ones k ∙ ap (λ v. is_value v (is_set values k) && is_set ones k) (sym w.if-value.true)
      | else-value w ↦ λ k below. ap (λ (p : ℕ). is_set p k) w.push-is ∙ is_set-and _ ones k ∙ ap (λ b. b && is_set ones k) (is_set-not values k c.bit_values-values.type_inv below) ∙ ap (λ v. is_value v (is_set values k) && is_set ones k) (sym w.if-value.false)
    ] in
    subst (λ (row : List ℕ). FillsTo row (rail_table n c.args.bit c.args.value) (j + 1)) (sym c.push.ensures.items)
    (FillsTo-push c.loop-j.row.items c.if-value.push (rail_table n c.args.bit c.args.value) j c.loop-j.invariant (λ k below.
    rail_bit n c.args.bit j k values ones c.requires (omega arith) below
    (c.bit_values-values.ensures k below ∙ ap (λ (q : PlainData). is_set (64 * j + k) (q.width - 1 - c.args.bit)) c.self.view_is)
    (c.all_ones-ones.ensures k below ∙ ap (λ (q : PlainData). nat_lt k (2 ^ q.width)) c.self.view_is)
    c.args.value c.if-value.push (bits k below)))
