-- The step of an item that is enabled changes one net.
use Rattle.ncl_insensitivity.proofs.Terms.{Bool, Cell, ChangesOneNet, Fire, Item, Lower, Nets, None, Option, PipelineData, Raise, Ready, Some, State, Take, and_parts, ap, both_ways, current_rails, enabled, false, fired, has_value, is_excited, list_all, next_value, not, not-from_differ, put_at, refl, same-from_differ, slice_get, step, subst, sym, true, with_net, with_net-elsewhere, with_net-here, ℕ, ◌&&◌, ◌∙◌, ◌≡◌}
use Rattle.ncl_insensitivity.proofs.StepValues.{lowered-value}

-- a net that takes its other value
with_net-one : (v : Nets) (net : ℕ) (value : Bool) → value ≡ not (v net) → ChangesOneNet v (with_net v net value)
with_net-one v net value new = record { net = net; changed = with_net-here v net value ∙ new; others = λ other apart. with_net-elsewhere v net other value apart }

-- a cell that is excited does that
fired-one : (v : Nets) (o : Option Cell) → is_excited v o ≡ true → ChangesOneNet v (fired v o)
fired-one v None excited = absurd (both_ways false refl excited)
fired-one v (Some c) excited = with_net-one v c.out.0 (next_value v c) (not-from_differ _ _ excited)

-- a rail that has one value takes the other
rail-one : (v : Nets) (o : Option ℕ) (value : Bool) → has_value v o (not value) ≡ true → ChangesOneNet v (put_at v o value)
rail-one v None value has = absurd (both_ways false refl has)
rail-one v (Some net) true has = with_net-one v net true (sym (ap not (same-from_differ (v net) false has)))
rail-one v (Some net) false has = with_net-one v net false (sym (ap not (same-from_differ (v net) true has)))

pub changes_one_net : (p : PipelineData) (s : State) (item : Item) → enabled p s item ≡ true → ChangesOneNet s.value (step p s item).value
changes_one_net p s (Fire i) on = fired-one s.value (slice_get p.netlist.cells i.0) on
changes_one_net p s (Raise b) on = rail-one s.value (slice_get (current_rails p s) b) true (and_parts (not s.falling && s.value p.ko) _ on).1
changes_one_net p s (Lower b) on =
    let after : Nets = put_at s.value (slice_get (current_rails p s) b) false in
    subst (ChangesOneNet s.value) (sym (lowered-value s after (list_all (λ net. not (after net)) (current_rails p s))))
    (rail-one s.value (slice_get (current_rails p s) b) false (and_parts (s.falling && not (s.value p.ko)) _ on).1)
changes_one_net p s Take on = with_net-one s.value p.ki false (sym (ap not (and_parts (s.value p.ki) _ on).0))
changes_one_net p s Ready on = with_net-one s.value p.ki true (sym (and_parts (not (s.value p.ki)) _ on).0)
