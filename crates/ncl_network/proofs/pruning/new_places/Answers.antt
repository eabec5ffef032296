use Rattle.ncl_network.proofs.Terms.{ap, arith, length, length_push, refl, sym, ◌+◌, ◌∙◌, ◌≡◌}
use Rattle.ncl_network.proofs.NewPlaces.{place-dropped, place-kept, places_more}
use Rattle.ncl_network.proofs.pruning.new_places.Goals as goal
use Rattle.ncl_network.proofs.pruning.new_places.Goals.{then-mark, else-mark}

pub loop-mark-init : goal.loop-mark-init
loop-mark-init c = (ap length c.new-places.ensures.items, refl, omega arith, λ k within. absurd (omega (arith, within)))

pub overflow_add-next : goal.overflow_add-next
overflow_add-next c = omega (arith, c.loop-mark.invariant.2, c.loop-mark-test.true, c.requires)

pub loop-mark-preserved : goal.loop-mark-preserved
loop-mark-preserved c =
    let (count, is, less, before) = c.loop-mark.invariant in
    let many : length c.push.new.self.items ≡ c.loop-mark.mark-index + 1 =
    ap length c.in_ok-push.ensures.items ∙ length_push c.loop-mark.places.items c.loop-mark.next ∙ ap (λ n. n + 1) count in
    let more = places_more c.args.kept.now c.loop-mark.places.items c.push.new.self.items c.loop-mark.mark-index c.loop-mark.next count is c.in_ok-push.ensures.items before in
    elim c.if-mark.branch [
      | then-mark w ↦ (many, w.next-is ∙ ap (λ n. n + 1) is ∙ sym (place-kept c.args.kept.now c.loop-mark.mark-index w.if-mark.true), omega (arith, w.next-is, less), more)
      | else-mark w ↦ (many, w.next-is ∙ is ∙ sym (place-dropped c.args.kept.now c.loop-mark.mark-index c.loop-mark-test.true w.if-mark.false), omega (arith, w.next-is, less), more)
    ]

pub returns-clause-length : goal.returns-clause-length
returns-clause-length c = omega (arith, c.loop-mark.invariant.0, c.loop-mark.auto.mark-index-end, c.loop-mark-test.false)

pub returns-clause-places : goal.returns-clause-places
returns-clause-places c = λ k within. c.loop-mark.invariant.3 k (omega (arith, within, c.loop-mark-test.false))
