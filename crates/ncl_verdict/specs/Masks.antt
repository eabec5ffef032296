-- On which bits the nets of a stage can depend, as masks: bit p of a mask stands for the input bit at place p of the stage's bit
-- order. The last three places need no bit, since of three bits and fewer there are few functions.
use Rattle.std.specs.Prelude.{◌≡◌, ℕ, ◌+◌, ◌-◌, ◌*◌, ◌/◌, ◌%◌, ◌^◌, ◌<◌, ◌≤◌, Bool, true, List, [], length, map, filter, sum_by, All, Contains, bit_and, bit_or, count_ones, if◌then◌else◌, nat_eq, nat_lt, slice_index_or}
use Rattle.std.specs.List.{fold}
use Rattle.ncl_gates.specs.Bits.{is_set}
use Rattle.ncl_stage.specs.Tables.{fronts}
use Rattle.ncl_stage.specs.Wiring.{WiringData, place_in}

-- each bit of a mask is in another
abbrev pub IsPart : ℕ → ℕ → Type 0
IsPart part whole = (p : ℕ) → is_set part p ≡ true → is_set whole p ≡ true

-- the mask at a place
abbrev pub mask_at : List ℕ → ℕ → ℕ
mask_at masks place = slice_index_or masks place 0

-- those at two places together
abbrev pub both : List ℕ → ℕ × ℕ → ℕ
both masks pair = bit_or (mask_at masks pair.0) (mask_at masks pair.1)

-- the mask of the net at a place: a rail has its bit, and the output of a cell has what the cell reads
pub record IsSupport (bits : ℕ) (w : WiringData) (masks : List ℕ) (place mask : ℕ) : Type 0 where
  pub rail : place < 2 * bits → place_in w.order (place / 2) + 3 < bits → is_set mask (place_in w.order (place / 2)) ≡ true
  pub cell : 2 * bits ≤ place → (pin : ℕ) → Contains (slice_index_or w.pins (place - 2 * bits) []) pin → IsPart (mask_at masks pin) mask

-- so have the first nets, one for each mask
abbrev pub AreMasks : ℕ → WiringData → List ℕ → Type 0
AreMasks bits w masks = (place : ℕ) → place < length masks → IsSupport bits w masks place (mask_at masks place)

-- what a net can change depends on the bits that it reaches: its own, those that the outputs of the cells reach which read it, and
-- those of the output whose rail it is. Of the cells so says this from one on
pub record AreReaches (from bits : ℕ) (w : WiringData) (masks reaches : List ℕ) : Type 0 where
  pub own : (place : ℕ) → IsPart (mask_at masks place) (mask_at reaches place)
  pub outputs : All (λ pair. IsPart (both masks pair) (mask_at reaches pair.0) × IsPart (both masks pair) (mask_at reaches pair.1)) w.outputs
  pub cells : (cell : ℕ) → from ≤ cell → cell < length w.pins → (pin : ℕ) → Contains (slice_index_or w.pins cell []) pin → IsPart (mask_at reaches (2 * bits + cell)) (mask_at reaches pin)

-- what the variant reaches that keeps the net at a place low: with a rail the other rail of its bit
abbrev pub lost_mask : ℕ → List ℕ → ℕ → ℕ
lost_mask bits reaches place = if nat_lt place (2 * bits) then both reaches (place - place % 2, place - place % 2 + 1) else mask_at reaches place

-- at most so many nodes that decide at least four bits has a function that depends on the bits of a mask
abbrev pub weight_of : ℕ → ℕ
weight_of mask = 2 ^ count_ones mask - 1

-- whether each bit of a mask is in another
abbrev pub is_part : ℕ → ℕ → Bool
is_part part whole = nat_eq (bit_and part whole) part

-- of some outputs, by the places of their rails, those masks that are parts of another: the DATA of no other output changes
abbrev pub lost_data : List ℕ → ℕ → List (ℕ × ℕ) → List ℕ
lost_data masks lost outputs = filter (λ mask. is_part mask lost) (map (both masks) outputs)

-- some masks together
abbrev pub union : List ℕ → ℕ
union masks = fold bit_or 0 masks

-- at most so many nodes that decide at least four bits come of the DATA of some outputs, of their conjunctions one after another,
-- and of one function more, where a variant changes what depends on the bits of a mask
abbrev pub weight_lost : List ℕ → List (ℕ × ℕ) → ℕ → ℕ
weight_lost masks outputs lost =
    let kept : List ℕ = lost_data masks lost outputs in
    weight_of lost + sum_by weight_of kept + sum_by (λ front. weight_of (union front)) (fronts kept)

-- a number of 64 bits is no less than another, unless it is the greatest
abbrev pub Covers : ℕ → ℕ → Type 0
Covers least found = found < 2 ^ 64 - 1 → least ≤ found
