use Rattle.ncl_match.proofs.PairLaws.{[], All, Err, IsLive, IsPair, IsSpace, Keeps, Kind, List, Makes, Pair, Ref, SpaceData, WordFunction, ap, arity_of, dual-arity, dual_of, dual_pins, dual_pins-length, dual_zeros-live, false, first-too_much, fits, functions_at, gate-one, gate-zero, gate_function, gate_table, handed_on, inverse, length, length-map, made-pair, map, ones-live, pairs-kept, second-too_much, subst, sym, table_of, words, ◌∙◌, ◌∷◌, ◌≡◌}
use Rattle.ncl_match.proofs.pair.gate_pair.Goals as goal

abbrev ones_of : List Pair → List Ref
ones_of pairs = map (λ (p : Pair). p.one) pairs

abbrev zeros_of : List Pair → List Ref
zeros_of pairs = map (λ (p : Pair). p.zero) pairs

pub apply-requires-clause-live : goal.apply-requires-clause-live
apply-requires-clause-live g c =
    let old : SpaceData = g.P.Space.meaning c.args.space.now in
    subst (All (IsLive old)) (sym (c.as_slice.ensures.value ∙ c.sides.ensures)) (ones-live old c.args.ins.now c.requires.pairs)

pub apply-requires-2-clause-arity : goal.apply-requires-2-clause-arity
apply-requires-2-clause-arity g c =
    ap length (c.as_slice-2.ensures.value ∙ c.dual_zeros.ensures)
    ∙ dual_pins-length c.args.kind (zeros_of c.args.ins.now)
    ∙ length-map c.args.ins.now (λ (p : Pair). p.zero)
    ∙ c.requires.arity ∙ sym (dual-arity c.args.kind) ∙ ap arity_of (sym c.dual.ensures)

pub apply-requires-2-clause-live : goal.apply-requires-2-clause-live
apply-requires-2-clause-live g c =
    let old : SpaceData = g.P.Space.meaning c.args.space.now in
    let mid : SpaceData = g.P.Space.meaning c.apply.new.self in
    subst (All (IsLive mid)) (sym (c.as_slice-2.ensures.value ∙ c.dual_zeros.ensures))
    (dual_zeros-live mid c.args.kind c.args.ins.now (pairs-kept old mid c.args.ins.now c.facts.ensures c.in_ok-one.ensures.kept c.requires.pairs))

-- the tables of the gate and of its dual on the Refs that were passed
module _ (old mid : SpaceData) (kind dual : Kind) (pairs : List Pair) where
  abbrev f : WordFunction
  f = gate_function kind (functions_at old pairs)

  one-table : (refs : List Ref) → refs ≡ ones_of pairs → gate_table old.width kind (map old.table refs) ≡ table_of (words old.width) f
  one-table refs e = ap (λ l. gate_table old.width kind (map old.table l)) e ∙ gate-one old kind pairs

  zero-table : IsSpace old → Keeps old mid → All (IsPair old) pairs → length pairs ≡ arity_of kind → dual ≡ dual_of kind → (refs : List Ref) → refs ≡ dual_pins kind (zeros_of pairs) → gate_table mid.width dual (map mid.table refs) ≡ table_of (words old.width) (inverse f)
  zero-table space k are many d refs e =
      (λ i. gate_table mid.width (d i) (map mid.table (e i))) ∙ gate-zero old mid kind pairs space k are many

pub returns-in_err-one-clause-full : goal.returns-in_err-one-clause-full
returns-in_err-one-clause-full g c = λ e.
    let old : SpaceData = g.P.Space.meaning c.args.space.now in
    first-too_much old (gate_function c.args.kind (functions_at old c.args.ins.now))
    (subst (λ t. fits old (t ∷ []) ≡ false) (one-table old old c.args.kind c.args.kind c.args.ins.now c.as_slice.result.now (c.as_slice.ensures.value ∙ c.sides.ensures))
    (c.in_err-one.ensures.full (ap Err (handed_on c.from_residual.result c.in_err-one.field-0.0 c.from_residual.ensures.1 e))))

pub returns-in_err-zero-clause-full : goal.returns-in_err-zero-clause-full
returns-in_err-zero-clause-full g c = λ e.
    let old : SpaceData = g.P.Space.meaning c.args.space.now in
    let mid : SpaceData = g.P.Space.meaning c.apply.new.self in
    let kind : Kind = c.args.kind in
    let pairs : List Pair = c.args.ins.now in
    second-too_much old mid (gate_function kind (functions_at old pairs)) c.in_ok-one.one c.in_ok-one.ensures.kept
    (subst (Makes old mid c.in_ok-one.one) (one-table old mid kind kind pairs c.as_slice.result.now (c.as_slice.ensures.value ∙ c.sides.ensures)) c.in_ok-one.ensures.made)
    (subst (λ t. fits mid (t ∷ []) ≡ false)
    (zero-table old mid kind c.dual.result pairs c.facts.ensures c.in_ok-one.ensures.kept c.requires.pairs c.requires.arity c.dual.ensures c.as_slice-2.result.now (c.as_slice-2.ensures.value ∙ c.dual_zeros.ensures))
    (c.in_err-zero.ensures.full (ap Err (handed_on c.from_residual-in_err-zero.result c.in_err-zero.field-0.0 c.from_residual-in_err-zero.ensures.1 e))))

pub returns-clause-made : goal.returns-clause-made
returns-clause-made g c =
    let old : SpaceData = g.P.Space.meaning c.args.space.now in
    let mid : SpaceData = g.P.Space.meaning c.apply.new.self in
    let new : SpaceData = g.P.Space.meaning c.apply-2.new.self in
    let kind : Kind = c.args.kind in
    let pairs : List Pair = c.args.ins.now in
    made-pair old mid new (record { one = c.in_ok-one.one; zero = c.in_ok-zero.zero }) (gate_function kind (functions_at old pairs)) c.in_ok-one.ensures.kept
    (subst (Makes old mid c.in_ok-one.one) (one-table old mid kind kind pairs c.as_slice.result.now (c.as_slice.ensures.value ∙ c.sides.ensures)) c.in_ok-one.ensures.made)
    c.in_ok-zero.ensures.kept
    (subst (Makes mid new c.in_ok-zero.zero)
    (zero-table old mid kind c.dual.result pairs c.facts.ensures c.in_ok-one.ensures.kept c.requires.pairs c.requires.arity c.dual.ensures c.as_slice-2.result.now (c.as_slice-2.ensures.value ∙ c.dual_zeros.ensures))
    c.in_ok-zero.ensures.made)
