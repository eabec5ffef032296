use Rattle.ncl_space.proofs.Terms.{Bool, List, PlainData, Ref, ap, arith, constant_table, false, gate_table, is_set, map, plain_space, slice_index_or, subst, sym, ℕ, ◌*◌, ◌+◌, ◌<◌, ◌∙◌, ◌≡◌}
use Rattle.ncl_space.proofs.RowLaws.{FillsTo, FillsTo-push, index-gate, stride_of-few}
use Rattle.ncl_space.proofs.PlainLaws.{IsPlain-view, index-pins, long_pins}
use Rattle.ncl_space.proofs.plain.Plain.gate_row.Goals as goal

pub push-requires : goal.push-requires
push-requires c = (omega arith, omega (arith, stride_of-few c.self.inside.width c.self.invariant.few_bits, c.loop-j.invariant.long, c.self.invariant.stride_is))

pub loop-j-preserved : goal.loop-j-preserved
loop-j-preserved c =
    let p : PlainData = c.args.self.now in
    let n : ℕ = p.width in
    let j : ℕ = c.loop-j.j in
    let tables : List (List Bool) = map (plain_space p).table c.args.ins.now in
    let t : List Bool = gate_table n c.args.kind tables in
    let here : (k : ℕ) → k < 64 → is_set c.set_values.result k ≡ slice_index_or t (64 * j + k) false = λ k below.
    let value : Ref → Bool = λ r. slice_index_or ((plain_space p).table r) (64 * j + k) false in
    let at : (place : ℕ) → slice_index_or ((plain_space p).table (slice_index_or c.args.ins.now place (record { place = 0 }))) (64 * j + k) false ≡ slice_index_or (slice_index_or tables place (constant_table n false)) (64 * j + k) false =
    λ place. ap (λ (u : List Bool). slice_index_or u (64 * j + k) false) (sym (index-pins p c.args.ins.now place)) in
    c.set_values.ensures k
    ∙ index-gate n c.args.kind tables (64 * j + k) (long_pins p (IsPlain-view _ _ _ _ p c.self.invariant c.self.view_is) c.args.ins.now c.requires.live)
    (is_set c.word-a.result k) (is_set c.word-b.result k) (is_set c.word-c.result k) (is_set c.word-d.result k)
    (c.word-a.ensures k below ∙ at 0)
    (c.word-b.ensures k below ∙ at 1)
    (c.word-c.ensures k below ∙ ap value c.pin-third.ensures ∙ at 2)
    (c.word-d.ensures k below ∙ ap value c.pin-fourth.ensures ∙ at 3) in
    subst (λ (row : List ℕ). FillsTo row t (j + 1)) (sym c.push.ensures.items)
    (FillsTo-push c.loop-j.row.items c.set_values.result t j c.loop-j.invariant here)
