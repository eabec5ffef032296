-- What a space of functions holds at a moment, and how its calls change it.
use Rattle.std.specs.Prelude.{◌≡◌, ℕ, ◌≤◌, ◌^◌, List, [], ◌∷◌, Bool, true, Option, Some, None, length, IsTrue, nat_le}
use Rattle.std.specs.FinSet as set
use Rattle.ncl_space.specs.Beads.{Beads, distinct_beads}
use Rattle.ncl_space.specs.Functions.{constant_table}
use Rattle.ncl_space.specs.declared.space.Ref.{Ref}
use Rattle.ncl_space.specs.declared.space.Mark.{Mark}

-- what a space holds at one moment: the number of bits of a word, the most beads that it may hold or None
-- for no limit, which Refs are live and the table of each, the beads held, which marks stand, and for each
-- mark what was live and what was held at it
pub record SpaceData : Type 0 where
  pub width : ℕ
  pub limit : Option ℕ
  pub live : Ref → Bool
  pub table : Ref → List Bool
  pub held : Beads
  pub stands : Mark → Bool
  pub live_at : Mark → Ref → Bool
  pub held_at : Mark → Beads

-- a Ref is live
abbrev pub IsLive : SpaceData → Ref → Type 0
IsLive s r = IsTrue (s.live r)

-- each bead of the first set is in the second
abbrev pub Within : Beads → Beads → Type 0
Within s t = (bead : List Bool) → set.contains s bead ≡ true → set.contains t bead ≡ true

-- the beads held, together with those of some tables
abbrev pub with_tables : SpaceData → List (List Bool) → Beads
with_tables s tables = set.union s.held (distinct_beads s.width tables)

-- so many beads are no more than the limit, if there is one
abbrev pub is_within : Option ℕ → ℕ → Bool
is_within None count = true
is_within (Some limit) count = nat_le count limit

-- the beads of some tables could be held besides
abbrev pub fits : SpaceData → List (List Bool) → Bool
fits s tables = is_within s.limit (set.len (with_tables s tables))

-- the first mark is no later than the second
abbrev pub IsNoLater : Mark → Mark → Type 0
IsNoLater m n = m.count ≤ n.count

-- what holds at every moment: a word has 1 to 128 bits; no more beads are held than the limit; the table of
-- a live Ref has a value for each word, and its beads are held; and what was live or held at a mark that
-- stands is so still
pub record IsSpace (s : SpaceData) : Type 0 where
  pub some_bit : 1 ≤ s.width
  pub few_bits : s.width ≤ 128
  pub within : is_within s.limit (set.len s.held) ≡ true
  pub tables : (r : Ref) → IsLive s r → length (s.table r) ≡ 2 ^ s.width
  pub beads : (r : Ref) → IsLive s r → Within (distinct_beads s.width (s.table r ∷ [])) s.held
  pub live_at : (m : Mark) → IsTrue (s.stands m) → (r : Ref) → IsTrue (s.live_at m r) → IsLive s r
  pub held_at : (m : Mark) → IsTrue (s.stands m) → Within (s.held_at m) s.held

-- nothing is held, and only the constants are live
pub record IsNew (s : SpaceData) : Type 0 where
  pub held : s.held ≡ set.empty
  pub live : (r : Ref) → IsLive s r → (value : Bool) × (s.table r ≡ constant_table s.width value)

-- a mark stands still, with what was live and held at it
pub record KeepsMark (old new : SpaceData) (m : Mark) : Type 0 where
  pub stands : IsTrue (new.stands m)
  pub live_at : (r : Ref) → new.live_at m r ≡ old.live_at m r
  pub held_at : new.held_at m ≡ old.held_at m

-- what every call but `release` keeps: the width and the limit, the live Refs with their tables, the marks
-- that stand, the beads held, and that it is a space
pub record Keeps (old new : SpaceData) : Type 0 where
  pub width : new.width ≡ old.width
  pub limit : new.limit ≡ old.limit
  pub live : (r : Ref) → IsLive old r → IsLive new r
  pub tables : (r : Ref) → IsLive old r → new.table r ≡ old.table r
  pub marks : (m : Mark) → IsTrue (old.stands m) → KeepsMark old new m
  pub held : Within old.held new.held
  pub space : IsSpace new

-- no beads but those of these tables came
abbrev pub Adds : SpaceData → SpaceData → List (List Bool) → Type 0
Adds old new tables = Within new.held (with_tables old tables)

-- a Ref is live and has the table that was asked for, and exactly the beads of that table came
pub record Makes (old new : SpaceData) (r : Ref) (made : List Bool) : Type 0 where
  pub live : IsLive new r
  pub table : new.table r ≡ made
  pub held : new.held ≡ with_tables old (made ∷ [])

-- a mark of this moment: it stands, what is live and held at it is so now, and none that stands is later
pub record MarksNow (s : SpaceData) (m : Mark) : Type 0 where
  pub stands : IsTrue (s.stands m)
  pub live_at : (r : Ref) → s.live_at m r ≡ s.live r
  pub held_at : s.held_at m ≡ s.held
  pub latest : (n : Mark) → IsTrue (s.stands n) → IsNoLater n m

-- the space is back at a mark: exactly what was live at it is live, with its table, exactly what was held at
-- it is held, and the marks that are no later stand
pub record Releases (old new : SpaceData) (m : Mark) : Type 0 where
  pub width : new.width ≡ old.width
  pub limit : new.limit ≡ old.limit
  pub live : (r : Ref) → new.live r ≡ old.live_at m r
  pub tables : (r : Ref) → IsTrue (old.live_at m r) → new.table r ≡ old.table r
  pub held : new.held ≡ old.held_at m
  pub marks : (n : Mark) → IsTrue (old.stands n) → IsNoLater n m → KeepsMark old new n
  pub space : IsSpace new

-- what a caller leaves that has gone back to a mark of its own: the same Refs are live, the same beads held
pub record Restores (old new : SpaceData) : Type 0 where
  pub keeps : Keeps old new
  pub live : (r : Ref) → new.live r ≡ old.live r
  pub held : new.held ≡ old.held
