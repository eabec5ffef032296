use Rattle.ncl_plans.proofs.Terms.{Some, ap, length, refl, slice_get, slice_get_read, sym, ◌∙◌, ◌≡◌}
use Rattle.ncl_plans.proofs.pool.Pool.find.Goals as goal

pub returns-then-is_same : goal.returns-then-is_same
returns-then-is_same c =
    let smalls = c.deref-in-loop.result.now in
    let other = c.in_ok-other.other.now in
    let look = c.in_ok-other.ensures.lookup in
    let at : slice_get smalls c.loop.at ≡ Some other = slice_get_read smalls (length smalls) c.loop.at other refl look.3.0 look.1 in
    ap (λ xs. slice_get xs c.loop.at) (sym c.deref-in-loop.ensures.value) ∙ at ∙ ap Some (c.is_same.ensures c.if-is_same.true)
