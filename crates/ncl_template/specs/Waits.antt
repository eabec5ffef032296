-- What a node waits for among what it reads, word by word.
use Rattle.std.specs.Prelude.{ℕ, zero, suc, ◌+◌, List, Bool, false, not, nat_eq, if◌then◌else◌}
use Rattle.std.specs.List.{slice_index_or}
use Rattle.ncl_gates.specs.Bits.{is_set}
use Rattle.ncl_template.specs.declared.waits.Waits.{Waits}

-- the words at which the input at a place is waited for, as the bits of a number
abbrev pub mask_of : Waits → ℕ → ℕ
mask_of w zero = w.first
mask_of w (suc zero) = w.second
mask_of w (suc (suc zero)) = w.third
mask_of w (suc (suc (suc n))) = w.fourth

-- the number of a word of at most four bits: bit k of it is the bit at place k
abbrev pub word_number : List Bool → ℕ
word_number word =
    (if slice_index_or word 0 false then 1 else 0) + (if slice_index_or word 1 false then 2 else 0) + (if slice_index_or word 2 false then 4 else 0) + (if slice_index_or word 3 false then 8 else 0)

-- whether the input at a place is waited for at a word
abbrev pub waits_at : Waits → List Bool → ℕ → Bool
waits_at w word place = is_set (mask_of w place) (word_number word)

-- and whether it is at any
abbrev pub waits_once : Waits → ℕ → Bool
waits_once w place = not (nat_eq (mask_of w place) 0)

-- to wait for none
abbrev pub no_inputs : Waits
no_inputs = record { first = 0; second = 0; third = 0; fourth = 0 }

-- to wait for all
abbrev pub all_inputs : Waits
all_inputs = record { first = 65535; second = 65535; third = 65535; fourth = 65535 }
