-- An enabled item is one of the pipeline: its cell is there, and so is its bit.
use Rattle.ncl_machine.proofs.Terms.{Bool, Cell, Fire, InRange, Item, List, Lower, Nets, None, Option, PipelineData, Rails, Raise, Ready, Some, State, Take, [], arith, both_ways, current_rails, enabled, false, has_value, is_excited, length, named_rails, not, rails_of_word, refl, slice_get, suc, true, zero, ℕ, ◌&&◌, ◌<◌, ◌∷◌, ◌≡◌, ◌≤◌}

pub and3 : (a b c : Bool) → (a && b && c) ≡ true → (a ≡ true) × (b ≡ true) × (c ≡ true)
and3 true true c on = (refl, refl, on)
and3 true false c on = absurd (both_ways false refl on)
and3 false b c on = absurd (both_ways false refl on)

pub excited_within : (v : Nets) (cells : List Cell) (k : ℕ) → is_excited v (slice_get cells k) ≡ true → k < length cells
excited_within v [] k on = absurd (both_ways false refl on)
excited_within v (c ∷ cells) zero on = omega arith
excited_within v (c ∷ cells) (suc k) on = let within : k < length cells = excited_within v cells k on in omega arith

value_within : (v : Nets) (nets : List ℕ) (k : ℕ) (value : Bool) → has_value v (slice_get nets k) value ≡ true → k < length nets
value_within v [] k value on = absurd (both_ways false refl on)
value_within v (net ∷ nets) zero value on = omega arith
value_within v (net ∷ nets) (suc k) value on = let within : k < length nets = value_within v nets k value on in omega arith

pub few_named : (rs : List Rails) (word : List Bool) → length (named_rails rs word) ≤ length rs
few_named [] word = omega arith
few_named (r ∷ rs) [] = omega arith
few_named (r ∷ rs) (b ∷ word) = let few : length (named_rails rs word) ≤ length rs = few_named rs word in omega arith

few_rails : (rs : List Rails) (word : Option (List Bool)) → length (rails_of_word rs word) ≤ length rs
few_rails rs None = omega arith
few_rails rs (Some word) = few_named rs word

pub bit_within : (p : PipelineData) (s : State) (bit : ℕ) (value : Bool) → has_value s.value (slice_get (current_rails p s) bit) value ≡ true → bit < length p.inputs
bit_within p s bit value on =
    let within : bit < length (current_rails p s) = value_within s.value (current_rails p s) bit value on in
    let few : length (current_rails p s) ≤ length p.inputs = few_rails p.inputs (slice_get s.offered s.done) in
    omega (arith, within, few)

pub item_in_range : (p : PipelineData) (s : State) (item : Item) → enabled p s item ≡ true → InRange p item
item_in_range p s (Fire cell) on = excited_within s.value p.netlist.cells cell.0 on
item_in_range p s (Raise bit) on = bit_within p s bit false (and3 (not s.falling) (s.value p.ko) _ on).2
item_in_range p s (Lower bit) on = bit_within p s bit true (and3 s.falling (not (s.value p.ko)) _ on).2
item_in_range p s Take on = tt
item_in_range p s Ready on = tt
