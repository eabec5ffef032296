-- A space of truth tables, which stand one after another with 64 values to a word.
use Rattle.std.specs.Prelude.{◌≡◌, ℕ, zero, suc, ◌+◌, ◌-◌, ◌*◌, ◌/◌, ◌%◌, ◌^◌, ◌<◌, ◌≤◌, Bool, true, false, List, [], length, map, take, None, nat_lt, nat_le, slice_index_or}
use Rattle.std.specs.List.{range_with_len}
use Rattle.ncl_space.specs.Beads.{distinct_beads}
use Rattle.ncl_gates.specs.Bits.{is_set}
use Rattle.ncl_space.specs.Functions.{constant_table, is_value}
use Rattle.ncl_space.specs.Space.{SpaceData}

-- the number of bits of a word, and the tables in the order in which they came
pub record PlainData : Type 0 where
  pub width : ℕ
  pub tables : List (List Bool)

-- the table of a place: the constants come first
abbrev pub table_at : ℕ → List (List Bool) → ℕ → List Bool
table_at n tables zero = constant_table n false
table_at n tables (suc zero) = constant_table n true
table_at n tables (suc (suc k)) = slice_index_or tables k []

-- the space of these tables: it has no limit, and a mark is a number of tables
abbrev pub plain_space : PlainData → SpaceData
plain_space p = record {
  width = p.width;
  limit = None;
  live = λ r. nat_lt r.place (length p.tables + 2);
  table = λ r. table_at p.width p.tables r.place;
  held = distinct_beads p.width p.tables;
  stands = λ m. nat_le m.count (length p.tables);
  live_at = λ m r. nat_lt r.place (m.count + 2);
  held_at = λ m. distinct_beads p.width (take m.count p.tables);
}

-- how many words a table takes
abbrev pub stride_of : ℕ → ℕ
stride_of n = 2 ^ (n - 6)

-- value i of a list of words: bit i % 64 of word i / 64
abbrev pub value_in : List ℕ → ℕ → Bool
value_in words i = is_set (slice_index_or words (i / 64) 0) (i % 64)

-- table k of those that stand in a list of words
abbrev pub row_table : ℕ → List ℕ → ℕ → List Bool
row_table n words k = map (λ i. value_in words (64 * (stride_of n * k) + i)) (range_with_len 0 (2 ^ n))

-- the first so many tables
abbrev pub tables_in : ℕ → ℕ → List ℕ → List (List Bool)
tables_in n count words = map (row_table n words) (range_with_len 0 count)

-- no word has a 1 at or past a number of bits
abbrev pub EndsAt : ℕ → List ℕ → Type 0
EndsAt bits words = (j k : ℕ) → bits ≤ k → k < 64 → is_set (slice_index_or words j 0) k ≡ false

-- the words are those of so many tables, whose places fit in 32 bits
pub record AreTables (n stride count : ℕ) (words : List ℕ) : Type 0 where
  pub some_bit : 1 ≤ n
  pub few_bits : n ≤ 10
  pub stride_is : stride ≡ stride_of n
  pub whole : length words ≡ stride_of n * count
  pub places : count + 2 ≤ 2 ^ 32
  pub ended : EndsAt (2 ^ n) words

-- words hold the values of a table, and 0 past its end
pub record Holds (n : ℕ) (words : List ℕ) (table : List Bool) : Type 0 where
  pub whole : length words ≡ stride_of n
  pub values : (j k : ℕ) → j < stride_of n → k < 64 → is_set (slice_index_or words j 0) k ≡ slice_index_or table (64 * j + k) false

-- words hold the values of some table
abbrev pub IsRow : ℕ → List ℕ → Type 0
IsRow n words = Holds n words (row_table n words 0)

-- the first number at which a table has a value
pub record IsFirst (table : List Bool) (value : Bool) (number : ℕ) : Type 0 where
  pub within : number < length table
  pub is : is_value value (slice_index_or table number false) ≡ true
  pub before : (i : ℕ) → i < number → is_value value (slice_index_or table i false) ≡ false

-- it has it at none
abbrev pub IsNowhere : List Bool → Bool → Type 0
IsNowhere table value = (i : ℕ) → i < length table → is_value value (slice_index_or table i false) ≡ false
