-- Keys that are found by open addressing with linear probing (Knuth, The Art of Computer Programming 3, 6.4). A
-- bucket is taken where it is of this round, and then has the index of a key.
use Rattle.std.specs.Prelude.{⊤, ◌≡◌, ◌≢◌, ℕ, ◌+◌, ◌-◌, ◌*◌, ◌/◌, ◌%◌, ◌^◌, ◌<◌, ◌≤◌, List, length, slice_get, Some, bit_and, bit_xor}
use Rattle.std.specs.List.{IsDistinct}
use Rattle.ncl_space.specs.declared.space.Ref.{Ref}
use Rattle.ncl_diagram.specs.declared.memo.Key.{Key}
use Rattle.ncl_diagram.specs.declared.keys.Bucket.{Bucket}
use Rattle.ncl_diagram.specs.declared.keys.End.{End}
use Rattle.ncl_diagram.specs.declared.keys.End.TheVariants.{Found, Free, Nowhere}
use Rattle.ncl_diagram.specs.Memo.{is_key}

-- two places in one number
abbrev pub pair : Ref → Ref → ℕ
pair x y = x.place * 2 ^ 32 + y.place

-- the sum of two products
abbrev pub sum_of_products : ℕ → ℕ → ℕ
sum_of_products x y = ((x * 0x9e37_79b9_7f4a_7c15) % 2 ^ 64 + (y * 0xc2b2_ae3d_27d4_eb4f) % 2 ^ 64) % 2 ^ 64

-- its upper half is mixed into its lower
unfoldable pub hash_of : Key → ℕ
hash_of key =
    let both = sum_of_products (pair key.a key.b) (pair key.c key.d) in
    bit_xor both (both / 2 ^ 32)

-- the bucket where the walk of a key begins, and that after a bucket
abbrev pub home_of : ℕ → Key → ℕ
home_of count key = bit_and (hash_of key) (count - 1)

abbrev pub next : ℕ → ℕ → ℕ
next count at = bit_and (at + 1) (count - 1)

-- a walk over buckets that are taken comes to that of an index
pub data Leads (buckets : List Bucket) (round index : ℕ) : ℕ → Type 0 where
  here : (at : ℕ) (b : Bucket) → slice_get buckets at ≡ Some b → b.round ≡ round → b.index ≡ index → Leads buckets round index at
  past : (at : ℕ) (b : Bucket) → slice_get buckets at ≡ Some b → b.round ≡ round → Leads buckets round index (next (length buckets) at) → Leads buckets round index at

-- what is taken has an index below a number
abbrev pub AreWithin : List Bucket → ℕ → ℕ → Type 0
AreWithin buckets round count = (at : ℕ) (b : Bucket) → slice_get buckets at ≡ Some b → b.round ≡ round → b.index < count

-- the first keys are in buckets, each on its walk, and no round is later
pub record ArePut (keys : List Key) (count : ℕ) (buckets : List Bucket) (round : ℕ) : Type 0 where
  pub latest : (at : ℕ) (b : Bucket) → slice_get buckets at ≡ Some b → b.round ≤ round
  pub within : AreWithin buckets round count
  pub reached : (i : ℕ) (key : Key) → i < count → slice_get keys i ≡ Some key → Leads buckets round i (home_of (length buckets) key)

-- no two keys are one, and all are in buckets
pub record IsTable (keys : List Key) (buckets : List Bucket) (round : ℕ) : Type 0 where
  pub begun : 1 ≤ round
  pub distinct : IsDistinct is_key keys
  pub put : ArePut keys (length keys) buckets round

-- what is taken stays so
pub record KeepsTaken (round : ℕ) (old new : List Bucket) : Type 0 where
  pub long : length new ≡ length old
  pub kept : (at : ℕ) (b : Bucket) → slice_get old at ≡ Some b → b.round ≡ round → slice_get new at ≡ Some b

-- the walk of a key ends at a bucket that is free: it comes to no index of the key, and to whatever the walk from there
-- comes to
pub record IsFree (keys : List Key) (buckets : List Bucket) (round : ℕ) (key : Key) (at : ℕ) : Type 0 where
  pub bucket : Bucket
  pub there : slice_get buckets at ≡ Some bucket
  pub free : bucket.round ≢ round
  pub absent : (i : ℕ) → slice_get keys i ≡ Some key → Leads buckets round i (home_of (length buckets) key) → ⊥
  pub back : (more : List Bucket) (i : ℕ) → KeepsTaken round buckets more → Leads more round i at → Leads more round i (home_of (length buckets) key)

-- where the walk of a key ends
abbrev pub EndsAt : List Key → List Bucket → ℕ → Key → End → Type 0
EndsAt keys buckets round key (Found i) = slice_get keys i ≡ Some key
EndsAt keys buckets round key (Free at) = IsFree keys buckets round key at
EndsAt keys buckets round key Nowhere = ⊤
