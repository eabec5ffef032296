use Rattle.ncl_bank.proofs.Terms.{[], ap, arith, map, map-range_with_len_more, net_name_of, range_with_len, sym, ◌++◌, ◌+◌, ◌-◌, ◌∙◌, ◌∷◌, ◌≡◌}
use Rattle.ncl_bank.proofs.nets.net_names.Goals as goal

pub loop-number-preserved : goal.loop-number-preserved
loop-number-preserved c =
    let first = c.args.first in
    let number = c.loop-number.number in
    let f = net_name_of c.args.prefix.now in
    let count : (number + 1) - first ≡ (number - first) + 1 = omega arith in
    c.in_ok-push.ensures.items
    ∙ (λ i. c.loop-number.invariant i ++ c.in_ok-net_name.ensures i ∷ [])
    ∙ sym (map-range_with_len_more f first (number - first) number (omega arith))
    ∙ ap (λ n. map f (range_with_len first n)) (sym count)

pub returns : goal.returns
returns c =
    let count : c.loop-number.number - c.args.first ≡ c.args.count - 1 = omega arith in
    c.in_ok-push-2.ensures.items
    ∙ (λ i. c.loop-number.invariant i ++ c.in_ok-copied.ensures i ∷ [])
    ∙ ap (λ n. map (net_name_of c.args.prefix.now) (range_with_len c.args.first n) ++ c.args.root.now ∷ []) count
