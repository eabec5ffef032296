use Rattle.ncl_rails.proofs.Terms.{[], ap, arith, input_pair, map-range_with_len_more, sym, ◌++◌, ◌∙◌, ◌∷◌}
use Rattle.ncl_rails.proofs.signal_pairs.input_pairs.Goals as goal

pub loop-i-preserved : goal.loop-i-preserved
loop-i-preserved c =
    c.in_ok-push.ensures.items ∙ ap (λ xs. xs ++ input_pair c.loop-i.i ∷ []) c.loop-i.invariant ∙ sym (map-range_with_len_more input_pair 0 c.loop-i.i c.loop-i.i (omega arith))
