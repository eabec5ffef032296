-- What one operation has found so far.
use Rattle.std.specs.Prelude.{◌&&◌, ◌≡◌, ◌⊎◌, ℕ, ◌+◌, ◌<◌, Bool, List, [], ◌∷◌, ◌++◌, Option, Some, None, nat_eq, slice_get, length}
use Rattle.ncl_gates.specs.declared.kind.Kind.{Kind}
use Rattle.ncl_diagram.specs.Operands.{There}
use Rattle.ncl_diagram.specs.Finding.{IsAnswer}
use Rattle.ncl_space.specs.declared.space.Ref.{Ref}
use Rattle.ncl_diagram.specs.declared.memo.Key.{Key}
use Rattle.ncl_diagram.specs.declared.nodes.Node.{Node}

-- the places of the operands
abbrev pub places : Key → List ℕ
places key = key.a.place ∷ key.b.place ∷ key.c.place ∷ key.d.place ∷ []

-- keys stay where they stood
pub record KeepsKeys (old new : List Key) : Type 0 where
  pub kept : (i : ℕ) (key : Key) → slice_get old i ≡ Some key → slice_get new i ≡ Some key

-- each answer is one
pub record AreAnswers (n : ℕ) (kind : Kind) (nodes : List Node) (keys : List Key) (found : List (Option Ref)) : Type 0 where
  pub long : length keys ≡ length found
  pub there : (i : ℕ) (key : Key) (r : Ref) → slice_get keys i ≡ Some key → slice_get found i ≡ Some (Some r) → There nodes (places key)
  pub answer : (i : ℕ) (key : Key) (r : Ref) → slice_get keys i ≡ Some key → slice_get found i ≡ Some (Some r) → IsAnswer n kind nodes (places key) r.place

-- whether two keys are one
abbrev pub is_key : Key → Key → Bool
is_key x y = nat_eq x.a.place y.a.place && (nat_eq x.b.place y.b.place && (nat_eq x.c.place y.c.place && nat_eq x.d.place y.d.place))

-- a key is put last, or none is
abbrev pub MayAdd : List Key → List Key → Key → Type 0
MayAdd keys more key = (more ≡ keys) ⊎ (more ≡ keys ++ key ∷ [])

-- a key is put last, without an answer, or it was there, with what is known of it
abbrev pub IsKeyPut : List Key → List (Option Ref) → List Key → List (Option Ref) → Key → ℕ × Option Ref → Type 0
IsKeyPut keys found more known key r =
    ((more ≡ keys ++ key ∷ []) × (known ≡ found ++ None ∷ []) × (r.0 ≡ length keys) × (r.1 ≡ None))
    ⊎ ((more ≡ keys) × (known ≡ found) × (slice_get keys r.0 ≡ Some key) × (slice_get found r.0 ≡ Some r.1))

-- how far the operands are from the constants
abbrev pub size_of : Key → ℕ
size_of key = key.a.place + key.b.place + key.c.place + key.d.place

-- each key without an answer is larger
pub record AreLarger (size : ℕ) (keys : List Key) (found : List (Option Ref)) : Type 0 where
  pub larger : (i : ℕ) (key : Key) → slice_get keys i ≡ Some key → slice_get found i ≡ Some None → size < size_of key

-- each key without an answer was there without one
pub record Settles (keys : List Key) (found : List (Option Ref)) (more : List Key) (known : List (Option Ref)) : Type 0 where
  pub was : (i : ℕ) (key : Key) → slice_get more i ≡ Some key → slice_get known i ≡ Some None → (slice_get keys i ≡ Some key) × (slice_get found i ≡ Some None)
