-- The bits of turned signals.
use Rattle.ncl_plans.proofs.Terms.{Bool, List, Signal, cond, false, not, refl, signal_value, source_value, true, turned_by, ◌≡◌}

turn_twice : (turn inverted b : Bool) → cond (cond turn (not inverted) inverted) (not b) b ≡ cond turn (not (cond inverted (not b) b)) (cond inverted (not b) b)
turn_twice true true true = refl
turn_twice true true false = refl
turn_twice true false b = refl
turn_twice false inverted b = refl

pub turned_by-value : (word nodes : List Bool) (turn : Bool) (s : Signal) → signal_value word nodes (turned_by turn s) ≡ cond turn (not (signal_value word nodes s)) (signal_value word nodes s)
turned_by-value word nodes turn s = turn_twice turn s.inverted (source_value word nodes s.from)
