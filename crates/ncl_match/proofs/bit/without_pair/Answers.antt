use Rattle.ncl_match.proofs.PairLaws.{[], IfOk-weaker, MakesPair, SpaceData, Th22, WordFunction, both_tables, fits-same, function_at, functions_at, gate_function, makes-same, swapped-pair, two-pairs, without, zero-literal, ◌∷◌}
use Rattle.ncl_match.proofs.bit.without_pair.Goals as goal

pub gate_pair-requires-clause-pairs : goal.gate_pair-requires-clause-pairs
gate_pair-requires-clause-pairs g c =
    let old : SpaceData = g.P.Space.meaning c.args.space.now in
    two-pairs old c.args.f c.swapped.result c.requires.f
    (swapped-pair old c.args.g c.swapped.result c.facts.ensures c.requires.g c.swapped.ensures.one c.swapped.ensures.zero).pair

pub returns-clause-made : goal.returns-clause-made
returns-clause-made g c =
    let old : SpaceData = g.P.Space.meaning c.args.space.now in
    let new : SpaceData = g.P.Space.meaning c.gate_pair.new.space in
    let by_gate : WordFunction = gate_function Th22 (functions_at old (c.args.f ∷ c.swapped.result ∷ [])) in
    let wanted : WordFunction = without (function_at old c.args.f) (function_at old c.args.g) in
    IfOk-weaker c.gate_pair.result (λ p. MakesPair old new p by_gate (both_tables old.width by_gate)) (λ p. MakesPair old new p wanted (both_tables old.width wanted))
    (λ p m. makes-same old new p by_gate wanted c.gate_pair.ensures.kept (zero-literal old c.args.f c.args.g c.swapped.result c.swapped.ensures.one c.requires.g) m)
    c.gate_pair.ensures.made

pub returns-clause-full : goal.returns-clause-full
returns-clause-full g c = λ e.
    let old : SpaceData = g.P.Space.meaning c.args.space.now in
    let by_gate : WordFunction = gate_function Th22 (functions_at old (c.args.f ∷ c.swapped.result ∷ [])) in
    let wanted : WordFunction = without (function_at old c.args.f) (function_at old c.args.g) in
    fits-same old by_gate wanted (zero-literal old c.args.f c.args.g c.swapped.result c.swapped.ensures.one c.requires.g) (c.gate_pair.ensures.full e)
