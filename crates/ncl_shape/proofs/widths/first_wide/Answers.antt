use Rattle.ncl_shape.proofs.Terms.{MOST_BITS, [], ap, arith, below_more, get_or, get_or-map, length, map, sym, ◌∙◌, ◌≤◌}
use Rattle.ncl_shape.proofs.widths.first_wide.Goals as goal

pub loop-k-preserved : goal.loop-k-preserved
loop-k-preserved c =
    let read = get_or-map (λ v. v.items) c.args.lists.now c.loop-k.k c.index-lists-k.result [] c.loop-k-test.true in
    let bits = ap length (read ∙ ap (λ v. v.items) (sym c.index-lists-k.is)) in
    below_more (λ j. length (get_or (map (λ v. v.items) c.args.lists.now) j []) ≤ MOST_BITS) c.loop-k.k c.loop-k.invariant
    (omega (arith, bits, c.len.ensures, c.index-lists-k.result.ok.0, c.if-len-gt-MOST_BITS.false))
