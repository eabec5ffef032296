use Rattle.ncl_match.proofs.PairLaws.{All, AreCompared, Bool, Circuit, Err, Gathers, HasApart, HasFunction, HasRail, HasSignal, HoldsNets, HoldsSignals, IsHeld, IsListed, IsModel, Keeps, List, MakesPair, Model, Overflows, Pair, SpaceData, ap, apart-held, apart-listed, apart_function, apart_tables, circuit_of, each-held, false, fits, function-is, function_at, gathers-along, gathers-more, handed_on, has-kept, keeps_along, length, nets-kept, not, overflows-after, overflows-along, recursion_from_All, rules, same-function, same-tables, signals-kept, subst, sym, with_tables, without, ℕ, ◌&&◌, ◌++◌, ◌-◌, ◌||◌, ◌∙◌, ◌≡◌}
use Rattle.ncl_match.proofs.sides.difference.Goals as goal

-- the two sides, and then their difference
module _ (circuit : Circuit) (models : List Model) (output : ℕ) (old a b : SpaceData) (f g : Pair) (wide : old.width ≡ length circuit.inputs) (k : Keeps old a) (l : Keeps a b) (rail : HasRail a f circuit (output - 1)) (sig : HasSignal b g circuit models (output - 1)) (first : Gathers (IsListed circuit models (output - 1)) old a) (second : Gathers (IsListed circuit models (output - 1)) a b) where
  are : AreCompared circuit models (output - 1) rail.f sig.g
  are = record { of_netlist = rail.is; of_models = sig.is }

  b_wide : b.width ≡ length circuit.inputs
  b_wide = l.width ∙ k.width ∙ wide

  has_f : HasFunction b f rail.f
  has_f = has-kept a b f rail.f l rail.has

  f_is : (w : List Bool) → length w ≡ b.width → function_at b f w ≡ rail.f w
  f_is = function-is b f rail.f has_f.table

  g_is : (w : List Bool) → length w ≡ b.width → function_at b g w ≡ sig.g w
  g_is = function-is b g sig.g sig.has.table

  tables : apart_tables b.width (function_at b f) (function_at b g) ≡ apart_tables (length circuit.inputs) rail.f sig.g
  tables =
      (λ i.
      same-tables b.width (without (function_at b f) (function_at b g)) (without rail.f sig.g) (λ w h. λ j. f_is w h j && not (g_is w h j)) i
      ++ same-tables b.width (without (function_at b g) (function_at b f)) (without sig.g rail.f) (λ w h. λ j. g_is w h j && not (f_is w h j)) i
      ++ same-tables b.width (apart_function (function_at b f) (function_at b g)) (apart_function rail.f sig.g) (λ w h. λ j. (f_is w h j && not (g_is w h j)) || (g_is w h j && not (f_is w h j))) i)
      ∙ ap (λ n. apart_tables n rail.f sig.g) b_wide

  both : Gathers (IsListed circuit models (output - 1)) old b
  both = gathers-along (IsListed circuit models (output - 1)) old a b first k second

  listed : All (IsListed circuit models (output - 1)) (apart_tables b.width (function_at b f) (function_at b g))
  listed = subst (All (IsListed circuit models (output - 1))) (sym tables) (apart-listed circuit models (output - 1) rail.f sig.g are)

  pub third-over : fits b (apart_tables b.width (function_at b f) (function_at b g)) ≡ false → Overflows (IsListed circuit models (output - 1)) old
  third-over full = overflows-after (IsListed circuit models (output - 1)) old b (apart_tables b.width (function_at b f) (function_at b g)) both (keeps_along old a b k l) listed full

  module _ (new : SpaceData) (p : Pair) (m : Keeps b new) (made : MakesPair b new p (apart_function (function_at b f) (function_at b g)) (apart_tables b.width (function_at b f) (function_at b g))) where
    third-has : HasApart new p circuit models (output - 1)
    third-has = record {
      f = rail.f;
      g = sig.g;
      are = are;
      has = same-function new p (apart_function (function_at b f) (function_at b g)) (apart_function rail.f sig.g)
          (λ w h. λ j. (f_is w (h ∙ m.width) j && not (g_is w (h ∙ m.width) j)) || (g_is w (h ∙ m.width) j && not (f_is w (h ∙ m.width) j))) made.has;
    }

    third-gathers : Gathers (IsListed circuit models (output - 1)) old new
    third-gathers = gathers-more (IsListed circuit models (output - 1)) old b new (apart_tables b.width (function_at b f) (function_at b g)) both (keeps_along old a b k l) listed made.held

    third-whole : All IsModel models → HoldsNets a circuit (output - 1) → HoldsSignals b circuit models (output - 1) → (table : List Bool) → IsListed circuit models (output - 1) table → IsHeld new table
    third-whole are_models nets signals =
        let n_wide : new.width ≡ length circuit.inputs = m.width ∙ b_wide in
        let same : apart_tables b.width (function_at b f) (function_at b g) ≡ apart_tables b.width rail.f sig.g = tables ∙ ap (λ n. apart_tables n rail.f sig.g) (sym b_wide) in
        let held = apart-held b new rail.f sig.g m.width (made.held ∙ ap (with_tables b) same) in
        each-held circuit models output (recursion_from_All IsModel models are_models) new n_wide
        (nets-kept a new circuit (output - 1) (keeps_along a b new l m) nets) (signals-kept b new circuit models (output - 1) m signals)
        rail.f sig.g are held.0 held.1 held.2

    pub third-all : HasApart new p circuit models (output - 1) × (Gathers (IsListed circuit models (output - 1)) old new × (All IsModel models → HoldsNets a circuit (output - 1) → HoldsSignals b circuit models (output - 1) → (table : List Bool) → IsListed circuit models (output - 1) table → IsHeld new table))
    third-all = (third-has, (third-gathers, third-whole))

pub returns-in_err-g-clause-full : goal.returns-in_err-g-clause-full
returns-in_err-g-clause-full g c = λ e.
    let circuit : Circuit = circuit_of c.args.sides.now.pipeline in
    overflows-along (IsListed circuit c.args.sides.now.models (c.args.output - 1)) (g.P.Space.meaning c.args.space.now) (g.P.Space.meaning c.netlist_pair.new.space) (c.in_ok-f.ensures.made.gathers c.args.sides.now.models) c.in_ok-f.ensures.kept
    (c.in_err-g.ensures.full circuit c.requires.widths.inputs (ap Err (handed_on c.from_residual-in_err-g.result c.in_err-g.field-0.0 c.from_residual-in_err-g.ensures.1 e)))

pub returns-in_err-either-clause-full : goal.returns-in_err-either-clause-full
returns-in_err-either-clause-full g c = λ e.
    let circuit : Circuit = circuit_of c.args.sides.now.pipeline in
    let models : List Model = c.args.sides.now.models in
    third-over circuit models c.args.output (g.P.Space.meaning c.args.space.now) (g.P.Space.meaning c.netlist_pair.new.space) (g.P.Space.meaning c.models_pair.new.space) c.in_ok-f.f c.in_ok-g.g c.requires.width c.in_ok-f.ensures.kept c.in_ok-g.ensures.kept c.in_ok-f.ensures.made.rail (c.in_ok-g.ensures.signal circuit c.requires.widths.inputs) (c.in_ok-f.ensures.made.gathers models) (c.in_ok-g.ensures.gathers circuit c.requires.widths.inputs)
    (c.in_err-either.ensures.full (ap Err (handed_on c.from_residual-in_err-either.result c.in_err-either.field-0.0 c.from_residual-in_err-either.ensures.1 e)))

pub returns : goal.returns
returns g c =
    let circuit : Circuit = circuit_of c.args.sides.now.pipeline in
    let models : List Model = c.args.sides.now.models in
    let old : SpaceData = g.P.Space.meaning c.args.space.now in
    let a : SpaceData = g.P.Space.meaning c.netlist_pair.new.space in
    let b : SpaceData = g.P.Space.meaning c.models_pair.new.space in
    let new : SpaceData = g.P.Space.meaning c.apart.new.space in
    let (has, (gathers, whole)) = third-all circuit models c.args.output old a b c.in_ok-f.f c.in_ok-g.g c.requires.width c.in_ok-f.ensures.kept c.in_ok-g.ensures.kept c.in_ok-f.ensures.made.rail (c.in_ok-g.ensures.signal circuit c.requires.widths.inputs) (c.in_ok-f.ensures.made.gathers models) (c.in_ok-g.ensures.gathers circuit c.requires.widths.inputs)
    new c.in_ok-either.either c.in_ok-either.ensures.kept c.in_ok-either.ensures.made in
    record {
      apart = has;
      whole = whole c.requires.models.each c.in_ok-f.ensures.made.nets (c.in_ok-g.ensures.signals circuit c.requires.widths.inputs);
      gathers = gathers;
      kept = keeps_along old b new (keeps_along old a b c.in_ok-f.ensures.kept c.in_ok-g.ensures.kept) c.in_ok-either.ensures.kept;
      full = search rules;
    }

pub apart-requires-clause-g : goal.apart-requires-clause-g
apart-requires-clause-g g c = (c.in_ok-g.ensures.signal (circuit_of c.args.sides.now.pipeline) c.requires.widths.inputs).has.pair
