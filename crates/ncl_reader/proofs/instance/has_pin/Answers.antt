use Rattle.ncl_reader.proofs.Among.{Contains, subst, inl, inr, refl, sym, ◌∙◌, map, arith, false≢true, bytes_eq-Decides, among-all, among-cases, among-item}
use Rattle.ncl_reader.proofs.instance.has_pin.Goals as goal

pub loop-own-init : goal.loop-own-init
loop-own-init c = λ found. absurd (omega (arith, found.1))

pub returns-then-eq : goal.returns-then-eq
returns-then-eq c = (
  λ e. subst (λ z. Contains (map (λ own. own.now) c.args.pins.now) z) ((bytes_eq-Decides _ c.args.pin.now).0 (sym c.if-eq.ensures)) (among-item (λ own. own.now) c.args.pins.now c.args.pins.now refl c.loop-own.own-index _ c.loop-own-test.true),
  λ found. refl,
)

pub loop-own-preserved : goal.loop-own-preserved
loop-own-preserved c = λ found.
    elim (among-cases (λ own. own.now) c.args.pins.now c.args.pins.now refl c.loop-own.own-index _ c.args.pin.now c.loop-own-test.true found) [
      | inl front ↦ c.loop-own.invariant front
      | inr here ↦ false≢true (c.if-eq.ensures ∙ (bytes_eq-Decides _ c.args.pin.now).1 here)
    ]

pub returns : goal.returns
returns c = (
  λ e. absurd (false≢true e),
  λ found. absurd (c.loop-own.invariant (among-all (λ own. own.now) c.args.pins.now c.args.pins.now refl c.loop-own.own-index c.args.pin.now c.loop-own-test.false c.loop-own.auto.own-index-end found)),
)
