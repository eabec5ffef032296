use Rattle.ncl_blif.proofs.Terms.{AreCounted, [], ap, arith, drop, drop-map, get_or, length-map, map, subst, sym, take, take-map, ◌++◌, ◌+◌, ◌-◌, ◌∙◌, ◌∷◌, ◌≡◌}
use Rattle.ncl_blif.proofs.Counted.{AreCut, cut-none, cut-fits, cut-more, cut-all, one_counted}
use Rattle.ncl_blif.proofs.line.counted_lines.Goals as goal

pub loop-count-init : goal.loop-count-init
loop-count-init c =
    let (lines, counted) = c.requires in
    rw (c.as_slice-count-items.ensures.value, c.in_ok-lines.ensures.items) (cut-none _ _ lines counted)

pub overflow_add-to : goal.overflow_add-to
overflow_add-to c =
    let fits = cut-fits _ _ _ _ _ (record { number = 0; fields = 0 }) c.loop-count.invariant c.loop-count-test.true in
    omega (arith, fits, length-map c.args.fields.now (λ field. field.now))

pub slice_bounds-push-end : goal.slice_bounds-push-end
slice_bounds-push-end c =
    let fits = cut-fits _ _ _ _ _ (record { number = 0; fields = 0 }) c.loop-count.invariant c.loop-count-test.true in
    omega (arith, fits, length-map c.args.fields.now (λ field. field.now))

pub loop-count-preserved : goal.loop-count-preserved
loop-count-preserved c =
    let fields = map (λ field. field.now) c.args.fields.now in
    let counts = c.as_slice-count-items.result.now in
    let count = get_or counts c.loop-count.count-index (record { number = 0; fields = 0 }) in
    let span : c.loop-count.from + count.fields - c.loop-count.from ≡ count.fields = omega arith in
    let own : map (λ field. field.now) (take (c.loop-count.from + count.fields - c.loop-count.from) (drop c.loop-count.from c.args.fields.now)) ≡ take count.fields (drop c.loop-count.from fields) =
    ap (λ n. map (λ field. field.now) (take n (drop c.loop-count.from c.args.fields.now))) span
    ∙ sym (take-map (λ field. field.now) count.fields (drop c.loop-count.from c.args.fields.now)) ∙ sym (ap (take count.fields) (drop-map (λ field. field.now) c.loop-count.from c.args.fields.now)) in
    let pushed : c.push.new.self.items ≡ c.loop-count.lines.items ++ record { number = count.number; fields = take count.fields (drop c.loop-count.from fields) } ∷ [] = c.in_ok-push.ensures.items ∙ ap (λ ws. c.loop-count.lines.items ++ record { number = count.number; fields = ws } ∷ []) own in
    subst (AreCut fields counts (c.loop-count.count-index + 1) (c.loop-count.from + count.fields)) (sym pushed)
    (cut-more fields counts c.loop-count.count-index c.loop-count.from c.loop-count.lines.items (record { number = 0; fields = 0 }) c.loop-count.invariant c.loop-count-test.true)

pub returns : goal.returns
returns c lines counted =
    let fields = map (λ field. field.now) c.args.fields.now in
    let all = subst (AreCounted c.loop-count.lines.items fields) c.as_slice-count-items.ensures.value (cut-all fields c.as_slice-count-items.result.now _ _ _ c.loop-count.invariant c.loop-count-test.false) in
    one_counted c.loop-count.lines.items lines fields c.args.counts.items all counted
