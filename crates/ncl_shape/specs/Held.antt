-- The words that banks hold at reset.
use Rattle.std.specs.Prelude.{ℕ, ◌+◌, Bool, true, false, if◌then◌else◌, List, [], ◌∷◌, map, Option, Some, None, is_some}
use Rattle.std.specs.List.{list_any}
use Rattle.ncl_gates.specs.declared.cell_kind.CellKind.{CellKind}
use Rattle.ncl_gates.specs.Cell.{is_data_register}
use Rattle.ncl_shape.specs.declared.bank.Bank.{Bank}
use Rattle.ncl_shape.specs.declared.bank.Bit.{Bit}

-- the value to which a bit is reset, by the kinds of the register cells of its rails 0 and 1, of which one at most is
-- reset to 1; none where the bit is reset to NULL
abbrev pub start_of : CellKind → CellKind → Option Bool
start_of low high = if is_data_register high then Some true else if is_data_register low then Some false else None

-- a bank that is reset to DATA: by the third and fourth rule of shape all of its bits are, or none
abbrev pub is_data_bank : Bank → Bool
is_data_bank b = list_any (λ (bit : Bit). is_some bit.start) b.bits

-- the value that a bit holds, where it holds one
abbrev pub value_or_low : Option Bool → Bool
value_or_low None = false
value_or_low (Some value) = value

-- the word that a bank holds at reset, if it is reset to DATA
abbrev pub word_held : Bank → Option (List Bool)
word_held b = if is_data_bank b then Some (map (λ (bit : Bit). value_or_low bit.start) b.bits) else None

-- how many of some banks are reset to DATA
abbrev pub data_banks : List Bank → ℕ
data_banks [] = 0
data_banks (b ∷ banks) = data_banks banks + (if is_data_bank b then 1 else 0)
