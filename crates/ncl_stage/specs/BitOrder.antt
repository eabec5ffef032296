-- The bit order of a stage: its input bits in the order in which a walk from the outputs meets them. Words are compared,
-- and stand in tables, as the numbers that their bits make in this order, from the most significant bit on.
use Rattle.std.specs.Prelude.{◌≡◌, ℕ, zero, suc, ◌+◌, ◌<◌, Bool, false, ◌||◌, List, [], ◌∷◌, ◌++◌, length, map, Contains, Option, Some, None, nat_eq, if◌then◌else◌, position, unwrap_or}
use Rattle.std.specs.List.{IsDistinct, find, flat_map, list_any, range_with_len, slice_index_or}
use Rattle.ncl_netlist.specs.declared.ids.NetId.{NetId}
use Rattle.ncl_shape.specs.declared.rails.Rails.{Rails}
use Rattle.ncl_shape.specs.declared.stage.StageCell.{StageCell}
use Rattle.ncl_shape.specs.Stage.{StageData, out_of, rail_nets}
use Rattle.ncl_space.specs.Table.{words}

-- the place of a number in a list
abbrev pub place_in : List ℕ → ℕ → ℕ
place_in numbers number = unwrap_or (position (nat_eq number) numbers) 0

-- the bit of which a net is a rail, where bits count on from a number; none where it is no rail
abbrev pub bits_from : ℕ → List Rails → ℕ → List ℕ
bits_from bit [] net = []
bits_from bit (r ∷ rs) net = if nat_eq net r.zero.0 || nat_eq net r.one.0 then bit ∷ [] else bits_from (bit + 1) rs net

-- the cell that drives a net, if there is one
abbrev pub driver_of : List StageCell → ℕ → Option StageCell
driver_of cells net = find (λ (c : StageCell). nat_eq net (out_of c)) cells

-- the nets that a cell reads, in pin order
abbrev pub read_by : Option StageCell → List ℕ
read_by None = []
read_by (Some c) = map (λ (net : NetId). net.0) c.ins.items

-- the bits that a walk from a net meets, in order, through at most so many cells one behind another
abbrev pub met : StageData → ℕ → ℕ → List ℕ
met s zero net = bits_from 0 s.inputs net
met s (suc cells) net = bits_from 0 s.inputs net ++ flat_map (met s cells) (read_by (driver_of s.cells net))

-- those that a walk from the outputs meets, rail 0 before rail 1
abbrev pub walk : StageData → List ℕ
walk s = flat_map (met s (length s.cells)) (rail_nets s.outputs)

-- a list of bits with one more, where it isn't in it
abbrev pub with_bit : List ℕ → ℕ → List ℕ
with_bit bits bit = if list_any (nat_eq bit) bits then bits else bits ++ bit ∷ []

-- and with each of some more in turn
abbrev pub with_bits : List ℕ → List ℕ → List ℕ
with_bits bits [] = bits
with_bits bits (bit ∷ more) = with_bits (with_bit bits bit) more

-- each bit where the walk first meets it, and then those that it doesn't meet, in ascending order
abbrev pub bit_order : StageData → List ℕ
bit_order s = with_bits [] (walk s ++ range_with_len 0 (length s.inputs))

-- each of so many bits stands in an order once
pub record IsOrderOf (n : ℕ) (order : List ℕ) : Type 0 where
  pub many : length order ≡ n
  pub bits : (bit : ℕ) → Contains order bit → bit < n
  pub each : (bit : ℕ) → bit < n → Contains order bit
  pub once : IsDistinct nat_eq order

-- the bits of a word, taken in an order
abbrev pub taken : List ℕ → List Bool → List Bool
taken order word = map (λ bit. slice_index_or word bit false) order

-- the word whose bits, taken in an order, are those of a word
abbrev pub placed : List ℕ → List Bool → List Bool
placed order word = map (λ bit. slice_index_or word (place_in order bit) false) (range_with_len 0 (length order))

-- all words, in the order of their bits taken in an order
abbrev pub words_by : List ℕ → List (List Bool)
words_by order = map (placed order) (words (length order))
