use Rattle.ncl_diagram.proofs.Terms.{ArePut, ap, arith, refl, slice_get, slice_get-get_or, slice_get_within, subst, sym, ◌∙◌}
use Rattle.ncl_diagram.proofs.KeyLaws.{free_end, put_next, put_none}
use Rattle.ncl_diagram.proofs.keys.filled.Goals as goal

pub filling-init : goal.filling-init
filling-init c = put_none c.args.keys.now c.in_ok-buckets.buckets.items c.args.round c.args.count c.requires.round (c.in_ok-buckets.ensures.items_if_clones_equal (λ y e. e))

pub probe-end-requires-clause-within : goal.probe-end-requires-clause-within
probe-end-requires-clause-within c = λ at b got taken.
    let below = c.filling.invariant.within at b (ap (λ buckets. slice_get buckets at) (sym c.as_slice.ensures.value) ∙ got) taken in
    omega (arith, below, c.filling-test.true)

pub index_mut-requires : goal.index_mut-requires
index_mut-requires c =
    let free = free_end c.args.keys.now c.args.keys.now c.as_slice.result.now c.filling.buckets.items c.args.round _ c.probe-end.result c.in-Free.at refl c.as_slice.ensures.value c.in-Free.is c.probe-end.ensures in
    let within = slice_get_within c.filling.buckets.items c.in-Free.at free.bucket free.there in
    omega (arith, within, c.filling.buckets.ok.0)

pub filling-preserved : goal.filling-preserved
filling-preserved c =
    let free = free_end c.args.keys.now c.args.keys.now c.as_slice.result.now c.filling.buckets.items c.args.round _ c.probe-end.result c.in-Free.at refl c.as_slice.ensures.value c.in-Free.is c.probe-end.ensures in
    put_next c.args.keys.now c.filling.index c.filling.buckets.items c.args.round _ c.in-Free.at _ c.filling.invariant
    (slice_get-get_or c.args.keys.now c.filling.index _ c.filling-test.true) free.bucket free.there free.free free.back refl refl

pub returns-clause-put : goal.returns-clause-put
returns-clause-put c = subst (λ count. ArePut c.args.keys.now count c.filling.buckets.items c.args.round) (omega (arith, c.filling.auto.index-end, c.filling-test.false)) c.filling.invariant
