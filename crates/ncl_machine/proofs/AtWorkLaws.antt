-- The laws of a stage at work: no net is high that isn't high in its values.
use Rattle.ncl_machine.proofs.Terms.{Base, Bool, Contains, IsBelow, IsExcited, IsFalling, IsRising, List, Member-from_Contains, Nets, StageCell, StageData, among, among-from_member, and_from, both_ways, cond-false, cond_both, differ, eqb-true, false, fire, holds, holds-grows, kept_low, lower, named_rails, nat_eq, ne_eqb, next_of_gate, not, null, pin_values, raise, refl, set_of, settled, some_high, subst, true, val, val-keeps, val-settled, with_net, ℕ, ◌≡◌, ◌≢◌}
use Rattle.std.proofs.Common.{if◌then◌else◌}

-- with one net changed the nets stay below others in which that net is as high
pub with_net-below : (v w : Nets) (net : ℕ) (value : Bool) → IsBelow v w → (value ≡ true → w net ≡ true) → IsBelow (with_net v net value) w
with_net-below v w net value below here other =
    cond_both (nat_eq net other) value (v other) (λ b. b ≡ true → w other ≡ true)
    (λ same high. subst (λ x. w x ≡ true) (eqb-true net other same) (here high))
    (λ apart. below other)

-- a net that isn't changed keeps its value
pub with_net-elsewhere : (v : Nets) (net other : ℕ) (value : Bool) → net ≢ other → with_net v net value other ≡ v other
with_net-elsewhere v net other value apart = cond-false (nat_eq net other) value (v other) (ne_eqb net other apart)

-- where one net goes high, all that was high is
pub with_net-raised : (v : Nets) (net : ℕ) → IsBelow v (with_net v net true)
with_net-raised v net other high = cond_both (nat_eq net other) true (v other) (λ b. b ≡ true) (λ same. refl) (λ apart. high)

-- where one goes low, all that is high was
pub with_net-lowered : (v : Nets) (net : ℕ) → IsBelow (with_net v net false) v
with_net-lowered v net = with_net-below v v net false (λ other high. high) (λ up. absurd (both_ways false refl up))

-- hysteresis keeps a value: where the next value is high and not the old one, the set function holds
set-from_rise : (set high old : Bool) → differ (if set then true else (if high then old else false)) old ≡ true → (if set then true else (if high then old else false)) ≡ true → set ≡ true
set-from_rise true high old excited up = refl
set-from_rise false true true excited up = absurd (both_ways false refl excited)
set-from_rise false true false excited up = up
set-from_rise false false old excited up = up

-- a gate cell that is excited and goes high has its set function holding
pub holds-excited : (v : Nets) (c : StageCell) → IsExcited v c → next_of_gate v c ≡ true → holds v c ≡ true
holds-excited v c = set-from_rise (set_of c.kind (pin_values v c.ins.items)) (some_high (pin_values v c.ins.items)) (v c.out.0)

-- so below the values of the stage its output is high in them
fire-within : (s : StageData) (word : List Bool) (v : Nets) (c : StageCell) → Contains s.cells c → IsExcited v c → IsBelow v (val s word Base) → IsBelow (with_net v c.out.0 (next_of_gate v c)) (val s word Base)
fire-within s word v c in_s excited below =
    with_net-below v (val s word Base) c.out.0 (next_of_gate v c) below
    (λ up. val-settled s word Base c (Member-from_Contains s.cells c in_s)
    (and_from (not (kept_low s Base c.out.0)) _ refl (holds-grows v (val s word Base) below c (holds-excited v c excited up))))

-- a rail that the word names is high in the values
pub named-within_values : (s : StageData) (word : List Bool) (net : ℕ) → Contains (named_rails s.inputs word) net → val s word Base net ≡ true
named-within_values s word net named =
    val-keeps s word Base net
    (and_from (among (named_rails s.inputs word) net) (not (kept_low s Base net)) (among-from_member net (Member-from_Contains (named_rails s.inputs word) net named)) refl)

-- the rising states are below the values
pub rising-within : (s : StageData) (word : List Bool) (v : Nets) → IsRising s word v → IsBelow v (val s word Base)
rising-within s word v null x high = absurd (both_ways false refl high)
rising-within s word v (raise {v = old} net named before) x high =
    with_net-below old (val s word Base) net true (rising-within s word old before) (λ up. named-within_values s word net named) x high
rising-within s word v (fire {v = old} c in_s excited before) x high =
    fire-within s word old c in_s excited (rising-within s word old before) x high

-- and so are the falling states
pub falling-within : (s : StageData) (word : List Bool) (v : Nets) → IsFalling s word v → IsBelow v (val s word Base)
falling-within s word v settled x high = high
falling-within s word v (lower {v = old} net rail before) x high =
    with_net-below old (val s word Base) net false (falling-within s word old before) (λ up. absurd (both_ways false refl up)) x high
falling-within s word v (fire {v = old} c in_s excited before) x high =
    fire-within s word old c in_s excited (falling-within s word old before) x high
