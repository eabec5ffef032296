use Rattle.ncl_shape.proofs.Terms.{Relates, ap, arith, length, refl, subst, sym, ◌+◌}
use Rattle.ncl_shape.proofs.Relations.{bank_related, net_related, related_is_one}
use Rattle.ncl_shape.proofs.OnlyNets.{AreOnlyBelow, only_pass, only_put_back, only_second, only_whole}
use Rattle.ncl_shape.proofs.only_nets.only_nets.Goals as goal
use Rattle.ncl_shape.proofs.only_nets.only_nets.Goals.{in-Some+else-not-put_once, in_default}

pub put_once-requires : goal.put_once-requires
put_once-requires c =
    let inside = bank_related c.args.origins.now.netlist c.netlist-netlist.ensures.origins.drivers.netlist c.requires.free c.args.relation c.in-Some.bank.0 c.loop-place.place c.in-Some.ensures in
    let sized = c.loop-place.invariant.sized in
    omega (arith, inside, sized, ap length c.deref_mut.ensures.value)

pub returns-then-not-put_once : goal.returns-then-not-put_once
returns-then-not-put_once c =
    let n = c.args.origins.now.netlist in
    let inside = bank_related n c.netlist-netlist.ensures.origins.drivers.netlist c.requires.free c.args.relation c.in-Some.bank.0 c.loop-place.place c.in-Some.ensures in
    let (other, taken) = c.put_once.ensures.taken c.if-not-put_once.true in
    only_second n (Relates n c.args.relation) c.loop-place.place c.deref_mut.result.now c.in-Some.bank.0 (record { 0 = c.loop-place.place }) other (subst (AreOnlyBelow n (Relates n c.args.relation) c.loop-place.place) (sym c.deref_mut.ensures.value) c.loop-place.invariant) refl inside taken c.in-Some.ensures

pub loop-place-preserved : goal.loop-place-preserved
loop-place-preserved c =
    let n = c.args.origins.now.netlist in
    let net = c.loop-place.place in
    elim c.match-bank_of.branch [
      | in-Some+else-not-put_once w ↦
          let bank = w.in-Some.bank in
          let related : Relates n c.args.relation bank.0 net = w.in-Some.ensures in
          let inside = bank_related n c.netlist-netlist.ensures.origins.drivers.netlist c.requires.free c.args.relation bank.0 net related in
          subst (λ v. AreOnlyBelow n (Relates n c.args.relation) (net + 1) v.items) (sym w.table-is)
          (only_put_back n (Relates n c.args.relation) net c.loop-place.table.items w.deref_mut.result.now w.put_once.new.table c.loop-place.table.len bank.0 (record { 0 = net }) c.loop-place.invariant w.deref_mut.ensures.value w.deref_mut.ensures.len (w.put_once.ensures.put w.if-not-put_once.false)
          refl inside (w.put_once.ensures.free w.if-not-put_once.false) related (λ other also. related_is_one n c.netlist-netlist.ensures.origins.drivers.netlist c.requires.free c.args.relation net other bank.0 also related))
      | in_default w ↦
          subst (λ v. AreOnlyBelow n (Relates n c.args.relation) (net + 1) v.items) (sym w.table-is)
          (only_pass n (Relates n c.args.relation) net c.loop-place.table.items c.loop-place.invariant w.in_default.ensures)
    ]

pub returns : goal.returns
returns c =
    let n = c.args.origins.now.netlist in
    let is = c.netlist-netlist.ensures.origins.drivers.netlist in
    let all = ap length (rw c.netlist-netlist.ensures.netlist at c.nets-place-end.ensures.nets) in
    only_whole n (Relates n c.args.relation) c.loop-place.place c.loop-place.table.items (omega (arith, all, c.loop-place-test.false)) (λ bank net. net_related n is c.requires.free c.args.relation bank net) c.loop-place.invariant
