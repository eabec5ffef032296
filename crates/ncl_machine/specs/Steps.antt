-- What can happen in a state, and what it does: a cell switches, or the source or the sink makes a move of the
-- four-phase protocol.
use Rattle.std.specs.Prelude.{ℕ, ◌+◌, Bool, true, false, not, ◌||◌, ◌&&◌, if◌then◌else◌, List, [], ◌∷◌, ◌++◌, map, Option, Some, None, slice_get}
use Rattle.std.specs.List.{list_all}
use Rattle.ncl_gates.specs.Cell.{next_of_cell}
use Rattle.ncl_netlist.specs.declared.cell.Cell.{Cell}
use Rattle.ncl_shape.specs.declared.rails.Rails.{Rails}
use Rattle.ncl_shape.specs.declared.item.Item.{Item}
use Rattle.ncl_shape.specs.declared.item.Item.TheVariants.{Cell as Fire, Raise, Lower, Take, Ready}
use Rattle.ncl_shape.specs.Nets.{Nets, with_net}
use Rattle.ncl_shape.specs.Stage.{named_rails}
use Rattle.ncl_shape.specs.Pipeline.{PipelineData}
use Rattle.ncl_shape.specs.Closure.{pin_values}
use Rattle.ncl_machine.specs.declared.pair.Pair.{Pair}
use Rattle.ncl_machine.specs.State.{State}

-- the next value of a cell
abbrev pub next_value : Nets → Cell → Bool
next_value v c = next_of_cell c.kind (pin_values v c.ins.items) (v c.out.0)

-- two values differ
abbrev pub differ : Bool → Bool → Bool
differ true other = not other
differ false other = other

-- the cell is excited: its next value differs from its value
abbrev pub is_excited : Nets → Option Cell → Bool
is_excited v None = false
is_excited v (Some c) = differ (next_value v c) (v c.out.0)

-- the rails that the current word names; none where all words are done
abbrev pub rails_of_word : List Rails → Option (List Bool) → List ℕ
rails_of_word inputs None = []
rails_of_word inputs (Some word) = named_rails inputs word

abbrev pub current_rails : PipelineData → State → List ℕ
current_rails p s = rails_of_word p.inputs (slice_get s.offered s.done)

-- there is a net, and it has this value
abbrev pub has_value : Nets → Option ℕ → Bool → Bool
has_value v None value = false
has_value v (Some net) value = not (differ (v net) value)

-- some rail of each bit is high; all rails are low
abbrev pub is_data : List Rails → Nets → Bool
is_data bits v = list_all (λ (r : Rails). v r.zero.0 || v r.one.0) bits

abbrev pub is_null : List Rails → Nets → Bool
is_null bits v = list_all (λ (r : Rails). not (v r.zero.0 || v r.one.0)) bits

-- whether an item can happen
abbrev pub enabled : PipelineData → State → Item → Bool
enabled p s (Fire cell) = is_excited s.value (slice_get p.netlist.cells cell.0)
enabled p s (Raise bit) = not s.falling && s.value p.ko && has_value s.value (slice_get (current_rails p s) bit) false
enabled p s (Lower bit) = s.falling && not (s.value p.ko) && has_value s.value (slice_get (current_rails p s) bit) true
enabled p s Take = s.value p.ki && is_data p.outputs s.value
enabled p s Ready = not (s.value p.ki) && is_null p.outputs s.value

-- the cell's net takes the cell's next value
abbrev pub fired : Nets → Option Cell → Nets
fired v None = v
fired v (Some c) = with_net v c.out.0 (next_value v c)

-- the net, if there is one, takes a value
abbrev pub put_at : Nets → Option ℕ → Bool → Nets
put_at v None value = v
put_at v (Some net) value = with_net v net value

-- the rails 0 and the rails 1 of the outputs
abbrev pub pair_at : List Rails → Nets → Pair
pair_at bits v = record { rail0 = map (λ (r : Rails). v r.zero.0) bits; rail1 = map (λ (r : Rails). v r.one.0) bits }

-- the state once a rail of the current word was raised: where all of them are high, the source lowers
abbrev pub after_raise : PipelineData → State → Nets → State
after_raise p s v = record s { value = v; falling = list_all v (current_rails p s) }

-- the state once a rail was lowered: where all of them are low, the word is done
abbrev pub after_lower : PipelineData → State → Nets → State
after_lower p s v =
    if list_all (λ net. not (v net)) (current_rails p s)
    then record s { value = v; falling = false; done = s.done + 1 }
    else record s { value = v }

-- what an item does
abbrev pub step : PipelineData → State → Item → State
step p s (Fire cell) = record s { value = fired s.value (slice_get p.netlist.cells cell.0) }
step p s (Raise bit) = after_raise p s (put_at s.value (slice_get (current_rails p s) bit) true)
step p s (Lower bit) = after_lower p s (put_at s.value (slice_get (current_rails p s) bit) false)
step p s Take = record s { value = with_net s.value p.ki false; delivered = s.delivered ++ pair_at p.outputs s.value ∷ [] }
step p s Ready = record s { value = with_net s.value p.ki true }
