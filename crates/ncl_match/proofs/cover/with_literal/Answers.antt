use Rattle.ncl_match.proofs.PairLaws.{[], Bool, IfOk, IfOk-weaker, Keeps, List, Lit, MakesPair, Pair, Result, SpaceData, SpaceFault, Th22, WordFunction, ap, both_tables, dash-literal, fits-same, function_at, functions_at, gate_function, length, literal_function, live-costs, makes-same, one-literal, own-function, same-function, swapped-pair, sym, two-pairs, zero-literal, ◌∙◌, ◌∷◌, ◌≡◌}
use Rattle.ncl_match.proofs.cover.with_literal.Goals as goal

-- a gate on the function and another, where it agrees with the function and the literal
module _ (old new : SpaceData) (matched other input : Pair) (lit : Lit) where
  abbrev by_gate : WordFunction
  by_gate = gate_function Th22 (functions_at old (matched ∷ other ∷ []))

  abbrev wanted : WordFunction
  wanted = literal_function (function_at old matched) lit (function_at old input)

  made : ((w : List Bool) → length w ≡ old.width → by_gate w ≡ wanted w) → Keeps old new → (r : Result Pair SpaceFault) → IfOk r (λ p. MakesPair old new p by_gate (both_tables old.width by_gate)) → IfOk r (λ p. MakesPair old new p wanted (both_tables old.width wanted))
  made same k r = IfOk-weaker r (λ p. MakesPair old new p by_gate (both_tables old.width by_gate)) (λ p. MakesPair old new p wanted (both_tables old.width wanted)) (λ p m. makes-same old new p by_gate wanted k same m)

pub gate_pair-requires-clause-pairs : goal.gate_pair-requires-clause-pairs
gate_pair-requires-clause-pairs g c =
    let old : SpaceData = g.P.Space.meaning c.args.space.now in
    two-pairs old c.args.matched c.swapped.result c.requires.matched
    (swapped-pair old c.args.input c.swapped.result c.facts.ensures c.requires.input c.swapped.ensures.one c.swapped.ensures.zero).pair

pub returns-in-Zero-clause-made : goal.returns-in-Zero-clause-made
returns-in-Zero-clause-made g c =
    let old : SpaceData = g.P.Space.meaning c.args.space.now in
    made old (g.P.Space.meaning c.gate_pair.new.space) c.args.matched c.swapped.result c.args.input c.args.lit
    (λ w wide. zero-literal old c.args.matched c.args.input c.swapped.result c.swapped.ensures.one c.requires.input w wide
    ∙ ap (λ lit. literal_function (function_at old c.args.matched) lit (function_at old c.args.input) w) (sym c.in-Zero.is))
    c.gate_pair.ensures.kept c.gate_pair.result c.gate_pair.ensures.made

pub returns-in-Zero-clause-full : goal.returns-in-Zero-clause-full
returns-in-Zero-clause-full g c = λ e.
    let old : SpaceData = g.P.Space.meaning c.args.space.now in
    fits-same old (by_gate old old c.args.matched c.swapped.result c.args.input c.args.lit) (wanted old old c.args.matched c.swapped.result c.args.input c.args.lit)
    (λ w wide. zero-literal old c.args.matched c.args.input c.swapped.result c.swapped.ensures.one c.requires.input w wide
    ∙ ap (λ lit. literal_function (function_at old c.args.matched) lit (function_at old c.args.input) w) (sym c.in-Zero.is))
    (c.gate_pair.ensures.full e)

pub returns-in-One-clause-made : goal.returns-in-One-clause-made
returns-in-One-clause-made g c =
    let old : SpaceData = g.P.Space.meaning c.args.space.now in
    made old (g.P.Space.meaning c.gate_pair-in-One.new.space) c.args.matched c.args.input c.args.input c.args.lit
    (λ w wide. one-literal old c.args.matched c.args.input w
    ∙ ap (λ lit. literal_function (function_at old c.args.matched) lit (function_at old c.args.input) w) (sym c.in-One.is))
    c.gate_pair-in-One.ensures.kept c.gate_pair-in-One.result c.gate_pair-in-One.ensures.made

pub returns-in-One-clause-full : goal.returns-in-One-clause-full
returns-in-One-clause-full g c = λ e.
    let old : SpaceData = g.P.Space.meaning c.args.space.now in
    fits-same old (by_gate old old c.args.matched c.args.input c.args.input c.args.lit) (wanted old old c.args.matched c.args.input c.args.input c.args.lit)
    (λ w wide. one-literal old c.args.matched c.args.input w
    ∙ ap (λ lit. literal_function (function_at old c.args.matched) lit (function_at old c.args.input) w) (sym c.in-One.is))
    (c.gate_pair-in-One.ensures.full e)

pub returns-in-Dash-clause-made : goal.returns-in-Dash-clause-made
returns-in-Dash-clause-made g c =
    let old : SpaceData = g.P.Space.meaning c.args.space.now in
    let f : WordFunction = literal_function (function_at old c.args.matched) c.args.lit (function_at old c.args.input) in
    let has = same-function old c.args.matched (function_at old c.args.matched) f
    (λ w wide. dash-literal old c.args.matched c.args.input w
    ∙ ap (λ lit. literal_function (function_at old c.args.matched) lit (function_at old c.args.input) w) (sym c.in-Dash.is))
    (own-function old c.args.matched c.facts.ensures c.requires.matched) in
    record { has = has; held = live-costs old c.args.matched f c.facts.ensures has }
