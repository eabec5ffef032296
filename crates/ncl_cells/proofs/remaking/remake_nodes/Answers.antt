use Rattle.ncl_cells.proofs.Terms.{Adds, AreRemade, List, Signal, Small, [], ap, arith, bit_at, length, length_push, subst, sym}
use Rattle.ncl_cells.proofs.Remade.{AreRemade-none, AreRemade-more}
use Rattle.ncl_cells.proofs.remaking.remake_nodes.Goals as goal

pub loop-place-init : goal.loop-place-init
loop-place-init c = (
  ap length c.new-images.ensures.items,
  subst (λ smalls. AreRemade c.args.network.now smalls c.new-images.result.items) (sym c.requires.none)
      (subst (AreRemade c.args.network.now []) (sym c.new-images.ensures.items) (AreRemade-none c.args.network.now c.requires.network)),
)

pub loop-place-preserved : goal.loop-place-preserved
loop-place-preserved c =
    let network = c.args.network.now in
    let smalls : List Small = c.loop-place.pool.smalls.items in
    let images : List Signal = c.loop-place.images.items in
    let remade : AreRemade network smalls images = c.loop-place.invariant.1 in
    let next : List Small = c.remake_node.new.pool.smalls.items in
    let signal : Signal = c.in_ok-signal.signal in
    let pushed = c.in_ok-push.ensures.items in
    let adds : Adds network.inputs smalls next (λ word _. bit_at network word (length images)) signal =
    subst (λ place. Adds network.inputs smalls next (λ word _. bit_at network word place) signal) (sym c.loop-place.invariant.0)
    (c.in_ok-signal.ensures (subst (AreRemade network smalls) (sym c.deref.ensures.value) remade)) in (
      omega (arith, ap length pushed, length_push images signal, c.loop-place.invariant.0),
      AreRemade-more network c.requires.network smalls images remade next signal c.push.new.self.items adds pushed,
    )
