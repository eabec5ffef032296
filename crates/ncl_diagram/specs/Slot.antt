-- An answer in two words.
use Rattle.std.specs.Prelude.{◌≡◌, ℕ, zero, suc, ◌+◌, ◌*◌, ◌/◌, ◌%◌, ◌^◌, Bool, List, Option, Some, None, nat_lt, slice_get}
use Rattle.std.specs.List.{list_all, position_or_len}
use Rattle.std.specs.Option.{option_map}
use Rattle.std.specs.Str.{bytes_eq}
use Rattle.ncl_gates.specs.declared.kind.Kind.{Kind}
use Rattle.ncl_gates.specs.declared.kind.TheConstants.{KINDS}
use Rattle.ncl_gates.specs.Name.{name_of}
use Rattle.ncl_space.specs.declared.space.Ref.{Ref}
use Rattle.ncl_diagram.specs.declared.memo.Key.{Key}

-- the answer of an operation
pub record Entry : Type 0 where
  pub kind : Kind
  pub key : Key
  pub found : Ref

-- all places stand below one
abbrev pub are_below : ℕ → List ℕ → Bool
are_below floor ps = list_all (λ place. nat_lt place floor) ps

-- the gates, in the order of their numbers
unfoldable pub gates : List Kind
gates = KINDS

-- the number of a gate: its place among them, from 1
unfoldable pub kind_number : Kind → ℕ
kind_number kind = position_or_len (λ other. bytes_eq (name_of other) (name_of kind)) gates + 1

-- the gate of a number
unfoldable pub kind_at : ℕ → Option Kind
kind_at zero = None
kind_at (suc n) = slice_get gates n

-- the first word of a key: from the top the 16 lower bits of pin c, 24 of b, and 24 of a
abbrev pub first_of : Key → ℕ
first_of key = (key.c.place % 2 ^ 16 * 2 ^ 24 + key.b.place) * 2 ^ 24 + key.a.place

-- the second word below the answer: from the top 6 bits of the gate, 24 of pin d, and the 8 higher bits of c
abbrev pub below_answer : Kind → Key → ℕ
below_answer kind key = (kind_number kind * 2 ^ 24 + key.d.place) * 2 ^ 8 + key.c.place / 2 ^ 16

-- the two words of an answer, and those of none
abbrev pub first_word : Option Entry → ℕ
first_word None = 0
first_word (Some entry) = first_of entry.key

abbrev pub second_word : Option Entry → ℕ
second_word None = 0
second_word (Some entry) = entry.found.place * 2 ^ 38 + below_answer entry.kind entry.key

-- the key of two words
abbrev pub key_at : ℕ → ℕ → Key
key_at first second = record {
  a = record { place = first % 2 ^ 24 };
  b = record { place = first / 2 ^ 24 % 2 ^ 24 };
  c = record { place = second % 2 ^ 8 * 2 ^ 16 + first / 2 ^ 48 };
  d = record { place = second / 2 ^ 8 % 2 ^ 24 };
}

-- what two words say: nothing where the number is that of no gate
abbrev pub entry_at : ℕ → ℕ → Option Entry
entry_at first second = option_map
    (λ kind. record { kind = kind; key = key_at first second; found = record { place = second / 2 ^ 38 } })
    (kind_at (second / 2 ^ 32 % 2 ^ 6))

-- two words that are those of what they say
abbrev pub AreWords : ℕ → ℕ → Type 0
AreWords first second = (first_word (entry_at first second) ≡ first) × (second_word (entry_at first second) ≡ second)
