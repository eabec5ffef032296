-- How a caller makes a list of functions, one after another: what it has made so far, one more, a refusal,
-- and the end.
use Rattle.ncl_space.proofs.Terms.{All-append, All-cons, All-head, All-nil, All-tail, Bool, Err, Full, HaveTables, IsErrAnd, IsLive, IsNamed, IsSpace, Keeps, List, Makes, MakesAll, Ok, Ref, Result, SpaceData, SpaceFault, Within, [], ap, arith, distinct_beads, drop, false, fits, get_or, get_or-map, length, length-map, map, map-append, map_more, refl, subst, sym, take, take-append-drop, take_more, with_tables, ℕ, ◌++◌, ◌+◌, ◌<◌, ◌∙◌, ◌∷◌, ◌≡◌}
use Rattle.std.specs.Prelude.{All}
use Rattle.ncl_space.proofs.SpaceLaws.{keeps_along, keeps_all, with_more, with_none, with_kept, fits_more, too_much_by_front}

-- what a caller has made so far
pub record Making (old now : SpaceData) (refs : List Ref) (made : List (List Bool)) : Type 0 where
  pub kept : Keeps old now
  pub all : MakesAll old now refs made

-- Refs that are live keep their tables
pub tables-kept : (a b : SpaceData) → Keeps a b → (refs : List Ref) → All (IsLive a) refs → map b.table refs ≡ map a.table refs
tables-kept a b k [] live = refl
tables-kept a b k (r ∷ refs) live =
    let first : b.table r ≡ a.table r = k.tables r (All-head (IsLive a) r refs live) in
    let rest = tables-kept a b k refs (All-tail (IsLive a) r refs live) in
    λ i. first i ∷ rest i

pub have-kept : (a b : SpaceData) (refs : List Ref) (shown : List (List Bool)) → Keeps a b → HaveTables a refs shown → HaveTables b refs shown
have-kept a b refs shown k h = record {
  live = λ place d within. k.live (get_or refs place d) (h.live place d within);
  tables = tables-kept a b k refs h.live ∙ h.tables;
}

-- how many Refs there are, and the table of one
pub have-length : (s : SpaceData) (refs : List Ref) (shown : List (List Bool)) → HaveTables s refs shown → length refs ≡ length shown
have-length s refs shown h = sym (length-map refs s.table) ∙ ap length h.tables

pub have-at : (s : SpaceData) (refs : List Ref) (shown : List (List Bool)) → HaveTables s refs shown → (place : ℕ) (d : Ref) (e : List Bool) → place < length refs → s.table (get_or refs place d) ≡ get_or shown place e
have-at s refs shown h place d e within = sym (get_or-map s.table refs place d e within) ∙ ap (λ tables. get_or tables place e) h.tables

-- a Ref that is live costs nothing
pub makes-live : (s : SpaceData) (r : Ref) (t : List Bool) → IsSpace s → IsLive s r → s.table r ≡ t → Makes s s r t
makes-live s r t space live is = record {
  live = live;
  table = is;
  held = sym (with_kept s (t ∷ []) (subst (λ u. Within (distinct_beads s.width (u ∷ [])) s.held) is (space.beads r live)));
}

-- at first nothing has been made
pub making-none : (s : SpaceData) → IsSpace s → Making s s [] []
making-none s space = record {
  kept = keeps_all s space;
  all = record { refs_of = record { live = All-nil (IsLive s); tables = refl }; held = sym (with_none s) };
}

-- one more
pub making-one : (a b d : SpaceData) (refs : List Ref) (ts : List (List Bool)) (r : Ref) (t : List Bool) → Making a b refs ts → Keeps b d → Makes b d r t → Making a d (refs ++ r ∷ []) (ts ++ t ∷ [])
making-one a b d refs ts r t m k one = record {
  kept = keeps_along a b d m.kept k;
  all = record {
    refs_of = record {
      live = All-append (IsLive d) refs (r ∷ []) (λ place e within. k.live (get_or refs place e) (m.all.refs_of.live place e within)) (All-cons (IsLive d) r [] one.live (All-nil (IsLive d)));
      tables = map-append d.table refs (r ∷ []) ∙ (λ i. (tables-kept b d k refs m.all.refs_of.live ∙ m.all.refs_of.tables) i ++ one.table i ∷ []);
    };
    held = one.held ∙ with_more a b ts (t ∷ []) m.kept.width m.all.held;
  };
}

-- a list and another
pub held-along : (a b d : SpaceData) (ts us : List (List Bool)) → Keeps a b → b.held ≡ with_tables a ts → d.held ≡ with_tables b us → d.held ≡ with_tables a (ts ++ us)
held-along a b d ts us k first second = second ∙ with_more a b ts us k.width first

pub fits-along : (a b : SpaceData) (ts us : List (List Bool)) → Keeps a b → b.held ≡ with_tables a ts → fits b us ≡ fits a (ts ++ us)
fits-along a b ts us k first = fits_more a b ts us k.width k.limit first

-- where what is to come is too much after a front, all is too much
pub too_much-after : (a b : SpaceData) (ts us : List (List Bool)) → Keeps a b → b.held ≡ with_tables a ts → fits b us ≡ false → fits a (ts ++ us) ≡ false
too_much-after a b ts us k first full = sym (fits-along a b ts us k first) ∙ full

-- the turn of a loop that makes the tables of a list one after another: the next is made
pub making-next : (a b d : SpaceData) (all : List (List Bool)) (place : ℕ) (refs : List Ref) (r : Ref) (t : List Bool) → place < length all → get_or all place [] ≡ t → Making a b refs (take place all) → Keeps b d → Makes b d r t → Making a d (refs ++ r ∷ []) (take (place + 1) all)
making-next a b d all place refs r t within is m k one =
    subst (Making a d (refs ++ r ∷ [])) (ap (λ u. take place all ++ u ∷ []) (sym is) ∙ sym (take_more all place [] within))
    (making-one a b d refs (take place all) r t m k one)

-- or it is refused
pub too_much-next : (a b : SpaceData) (all : List (List Bool)) (place : ℕ) (refs : List Ref) (t : List Bool) → place < length all → get_or all place [] ≡ t → Making a b refs (take place all) → fits b (t ∷ []) ≡ false → fits a all ≡ false
too_much-next a b all place refs t within is m full =
    subst (λ tables. fits a tables ≡ false) parts
    (too_much_by_front a (take place all ++ t ∷ []) (drop (place + 1) all) (too_much-after a b (take place all) (t ∷ []) m.kept m.all.held full))
  where
    parts : (take place all ++ t ∷ []) ++ drop (place + 1) all ≡ all
    parts =
        ap (λ u. (take place all ++ u ∷ []) ++ drop (place + 1) all) (sym is)
        ∙ ap (λ front. front ++ drop (place + 1) all) (sym (take_more all place [] within))
        ∙ take-append-drop (place + 1) all

-- the same, where a front has been made and the next is refused
pub too_much-front : (a b : SpaceData) (refs : List Ref) (front : List (List Bool)) (t : List Bool) (rest all : List (List Bool)) → all ≡ (front ++ t ∷ []) ++ rest → Making a b refs front → fits b (t ∷ []) ≡ false → fits a all ≡ false
too_much-front a b refs front t rest all cut m full =
    subst (λ tables. fits a tables ≡ false) (sym cut)
    (too_much_by_front a (front ++ t ∷ []) rest (too_much-after a b front (t ∷ []) m.kept m.all.held full))

-- a fault that is handed on
pub handed_on : {X : Type 0} (r : Result X SpaceFault) (fault : SpaceFault) → IsErrAnd r (λ e. e ≡ fault) → r ≡ Err Full → fault ≡ Full
handed_on (Ok x) fault is e = absurd is
handed_on (Err f) fault is e = let same : f ≡ Full = cc in sym is ∙ same

-- a list that is mapped, cut at one
pub map-cut : {X : Type 0} (f : X → List Bool) (xs : List X) (place : ℕ) (d : X) → place < length xs → map f xs ≡ (map f (take place xs) ++ f (get_or xs place d) ∷ []) ++ map f (drop (place + 1) xs)
map-cut f xs place d within =
    ap (map f) (sym (take-append-drop (place + 1) xs)) ∙ map-append f (take (place + 1) xs) (drop (place + 1) xs)
    ∙ ap (λ l. l ++ map f (drop (place + 1) xs)) (map_more f xs place d within)

-- tables that live Refs have cost nothing
pub with_tables-live : (s : SpaceData) → IsSpace s → (refs : List Ref) → All (IsLive s) refs → with_tables s (map s.table refs) ≡ s.held
with_tables-live s space [] live = with_none s
with_tables-live s space (r ∷ refs) live =
    let first = makes-live s r (s.table r) space (All-head (IsLive s) r refs live) refl in
    sym (with_more s s (s.table r ∷ []) (map s.table refs) refl first.held) ∙ with_tables-live s space refs (All-tail (IsLive s) r refs live)

-- each table of a list that Refs have is named
pub named-all : (s : SpaceData) (refs : List Ref) (shown : List (List Bool)) → HaveTables s refs shown → All (IsNamed s) shown
named-all s refs shown have = λ place d within.
    let many = have-length s refs shown have in
    let none : Ref = record { place = 0 } in
    (get_or refs place none, have.live place none (omega arith), have-at s refs shown have place none d (omega arith))
