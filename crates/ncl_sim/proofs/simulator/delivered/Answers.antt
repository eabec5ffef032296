use Rattle.ncl_sim.proofs.Quiet.{Fire, Taken, ap, arith, get_or, is_take, length, map, no-take, refl, subst, sym, take, taken-before, taken-pairs, taken-stays, taken-times, ◌<◌, ◌∙◌, ◌≡◌}
use Rattle.ncl_sim.proofs.Terms.{Fired, length-map, take_all, takes_in}
use Rattle.ncl_sim.proofs.simulator.delivered.Goals as goal
use Rattle.ncl_sim.proofs.simulator.delivered.Goals.{in-Take+in_ok-pair+in_ok-push}
use Rattle.ncl_sim.proofs.simulator.delivered.Goals.{in_default}

pub bounds-pairs-len : goal.bounds-pairs-len
bounds-pairs-len c =
    let within = taken-before c.args.steps.now c.args.pairs.now c.loop-fired.taken.items c.loop-fired.fired-index _ c.loop-fired-test.true c.loop-fired.invariant.0 c.loop-fired.invariant.1 (ap is_take c.in-Take.is) c.requires in
    omega (arith, within, c.len.ensures, c.loop-fired.taken.ok.0)

pub loop-fired-preserved : goal.loop-fired-preserved
loop-fired-preserved c = elim c.match-fired.branch [
  | in-Take+in_ok-pair+in_ok-push w ↦
      let steps = c.args.steps.now in
      let pairs = c.args.pairs.now in
      let taken = c.loop-fired.taken.items in
      let i = c.loop-fired.fired-index in
      let on = ap is_take w.in-Take.is in
      let fewer : length taken < length pairs = taken-before steps pairs taken i _ c.loop-fired-test.true c.loop-fired.invariant.0 c.loop-fired.invariant.1 on c.requires in
      let items = ap (λ v. v.items) w.taken-is ∙ w.in_ok-push.ensures.items in
      let place : w.len.result ≡ length taken = omega (arith, w.len.ensures, c.loop-fired.taken.ok.0) in
      let pair : w.in_ok-pair.pair ≡ get_or pairs (length taken) w.in_ok-pair.pair =
      subst (λ n. w.in_ok-pair.pair ≡ get_or pairs n w.in_ok-pair.pair) place (subst (λ r. r ≡ get_or pairs w.len.result r) (sym w.in_ok-pair.ensures) w.index-pairs-len.is) in (
        ap (map (λ (x : Taken). x.time)) items ∙ taken-times steps pairs taken i _ c.loop-fired-test.true c.loop-fired.invariant.0 c.loop-fired.invariant.1 _ on refl,
        ap (map (λ (x : Taken). x.pair)) items ∙ taken-pairs steps pairs taken i (record { time = 0; item = Fire (record { 0 = 0 }) }) c.loop-fired-test.true c.loop-fired.invariant.0 c.loop-fired.invariant.1 _ fewer pair ∙ ap (λ l. take (length l) pairs) (sym items),
      )
  | in_default w ↦
      let items = ap (λ v. v.items) w.taken-is in (
        ap (map (λ (x : Taken). x.time)) items ∙ taken-stays c.args.steps.now c.args.pairs.now c.loop-fired.taken.items c.loop-fired.fired-index _ c.loop-fired-test.true c.loop-fired.invariant.0 c.loop-fired.invariant.1 (no-take _ w.in_default.not-Take),
        ap (map (λ (x : Taken). x.pair)) items ∙ c.loop-fired.invariant.1 ∙ ap (λ l. take (length l) c.args.pairs.now) (sym items),
      )
]

pub loop-fired-init : goal.loop-fired-init
loop-fired-init c =
    let none = c.in_ok-taken.ensures.items in
    (ap (map (λ (x : Taken). x.time)) none, ap (map (λ (x : Taken). x.pair)) none ∙ ap (λ l. take (length l) c.args.pairs.now) (sym none))

pub returns-clause-times : goal.returns-clause-times
returns-clause-times c = c.loop-fired.invariant.0 ∙ ap (λ s. map (λ (f : Fired). f.time) (takes_in s)) (take_all c.loop-fired.fired-index c.args.steps.now (omega (arith, c.loop-fired-test.false)))

pub returns-clause-pairs : goal.returns-clause-pairs
returns-clause-pairs c =
    let taken = c.loop-fired.taken.items in
    let times = ap length (returns-clause-times c) in
    let many = length-map taken (λ (x : Taken). x.time) in
    let as_many = length-map (takes_in c.args.steps.now) (λ (f : Fired). f.time) in
    c.loop-fired.invariant.1 ∙ take_all (length taken) c.args.pairs.now (omega (arith, times, many, as_many, c.requires))
