use Rattle.ncl_match.proofs.PairLaws.{All, Bool, IfOk-weaker, IsPair, Kind, List, MakesPair, NetId, None, Option, Pair, Some, SpaceData, WordFunction, ap, arith, both_tables, first-pin, fits-same, function_at, functions_at, gate_function, get_or, length, length-map, live-costs, made_of, makes-same, map, own-function, pair_at, pins-pairs, pins-values, pins_of, rules, same-function, set_of, subst, sym, ◌∙◌, ◌≡◌}
use Rattle.ncl_match.proofs.nets.cell_pair.Goals as goal

module _ (s : SpaceData) (pairs : List Pair) (nets : List NetId) (kind : Option Kind) where
  abbrev wanted : WordFunction
  wanted word = made_of kind (map (λ (x : NetId). function_at s (pair_at pairs x.0) word) nets)

  -- a gate on the pairs of the pins
  by_gate : (gate : Kind) → kind ≡ Some gate → (items : List Pair) → items ≡ map (λ (x : NetId). pair_at pairs x.0) nets → (w : List Bool) → gate_function gate (functions_at s items) w ≡ wanted w
  by_gate gate is items e w =
      ap (λ l. gate_function gate (functions_at s l) w) e ∙ ap (set_of gate) (pins-values s pairs nets w)
      ∙ ap (λ k. made_of k (map (λ (x : NetId). function_at s (pair_at pairs x.0) w) nets)) (sym is)

  -- the pair of the one pin
  by_copy : kind ≡ None → length nets ≡ pins_of kind → (items : List Pair) → items ≡ map (λ (x : NetId). pair_at pairs x.0) nets → (d : Pair) (w : List Bool) → function_at s (get_or items 0 d) w ≡ wanted w
  by_copy is many items e d w =
      ap (λ l. function_at s (get_or l 0 d) w) e ∙ first-pin s pairs nets d (many ∙ ap pins_of is) w
      ∙ ap (λ k. made_of k (map (λ (x : NetId). function_at s (pair_at pairs x.0) w) nets)) (sym is)

pub gate_pair-requires-clause-pairs : goal.gate_pair-requires-clause-pairs
gate_pair-requires-clause-pairs g c =
    let old : SpaceData = g.P.Space.meaning c.args.space.now in
    subst (All (IsPair old)) (sym (c.as_slice-in-Some.ensures.value ∙ c.pins-ins.ensures ∙ ap (map (λ (x : NetId). pair_at c.args.pairs.now x.0)) c.as_slice.ensures.value))
    (pins-pairs old c.args.pairs.now c.args.cell.now.ins.items c.requires.pairs c.requires.within)

pub returns-in-Some : goal.returns-in-Some
returns-in-Some g c =
    let old : SpaceData = g.P.Space.meaning c.args.space.now in
    let new : SpaceData = g.P.Space.meaning c.gate_pair.new.space in
    let nets : List NetId = c.args.cell.now.ins.items in
    let items : List Pair = c.as_slice-in-Some.result.now in
    let gate : WordFunction = gate_function c.in-Some.kind (functions_at old items) in
    let f : WordFunction = wanted old c.args.pairs.now nets c.args.cell.now.kind in
    let e = c.as_slice-in-Some.ensures.value ∙ c.pins-ins.ensures ∙ ap (map (λ (x : NetId). pair_at c.args.pairs.now x.0)) c.as_slice.ensures.value in
    let same = by_gate old c.args.pairs.now nets c.args.cell.now.kind c.in-Some.kind c.in-Some.is items e in
    record {
      made = IfOk-weaker c.gate_pair.result (λ p. MakesPair old new p gate (both_tables old.width gate)) (λ p. MakesPair old new p f (both_tables old.width f))
          (λ p m. makes-same old new p gate f c.gate_pair.ensures.kept (λ w wide. same w) m)
          c.gate_pair.ensures.made;
      kept = search rules;
      full = λ full. fits-same old gate f (λ w wide. same w) (c.gate_pair.ensures.full full);
    }

pub returns-in-None-clause-made : goal.returns-in-None-clause-made
returns-in-None-clause-made g c =
    let old : SpaceData = g.P.Space.meaning c.args.space.now in
    let nets : List NetId = c.args.cell.now.ins.items in
    let items : List Pair = c.as_slice-in-None.result.now in
    let d : Pair = record { one = record { place = 0 }; zero = record { place = 0 } } in
    let f : WordFunction = wanted old c.args.pairs.now nets c.args.cell.now.kind in
    let e = c.as_slice-in-None.ensures.value ∙ c.pins-ins.ensures ∙ ap (map (λ (x : NetId). pair_at c.args.pairs.now x.0)) c.as_slice.ensures.value in
    let pins = c.requires.pins in
    let one : length nets ≡ 1 = pins ∙ ap pins_of c.in-None.is in
    let many : length items ≡ 1 = ap length e ∙ length-map nets (λ (x : NetId). pair_at c.args.pairs.now x.0) ∙ one in
    let are : All (IsPair old) items = subst (All (IsPair old)) (sym e) (pins-pairs old c.args.pairs.now nets c.requires.pairs c.requires.within) in
    let pair : IsPair old (get_or items 0 d) = are 0 d (omega (arith, many)) in
    let has = same-function old (get_or items 0 d) (function_at old (get_or items 0 d)) f (λ w wide. by_copy old c.args.pairs.now nets c.args.cell.now.kind c.in-None.is pins items e d w) (own-function old (get_or items 0 d) c.facts.ensures pair) in
    record { has = has; held = live-costs old (get_or items 0 d) f c.facts.ensures has }
