use Rattle.ncl_stage.proofs.Terms.{[], ap, flat_map, range_with_len, sym, with_bits, ℕ, ◌++◌, ◌∙◌}
use Rattle.ncl_stage.proofs.WalkLaws.{with_bits-append}
use Rattle.ncl_stage.proofs.walk.walked.Goals as goal

pub returns : goal.returns
returns c = λ met are.
    let front = flat_map (λ (pair : ℕ × ℕ). met pair.0 ++ met pair.1) c.args.outputs.now in
    c.in_ok-add_bits.ensures ∙ ap (λ l. with_bits l (range_with_len 0 c.args.bits)) (c.in_ok-from_pairs.ensures met are) ∙ sym (with_bits-append [] front (range_with_len 0 c.args.bits))
