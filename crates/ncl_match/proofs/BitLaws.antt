-- The answer to one output: what is found, and which tables are held for it.
pub use Rattle.ncl_match.proofs.Terms.{[], All, All-append, All-cons, All-head, All-nil, All-tail, AllByRecursion, AreCompared, AreHeld, Beads, Bool, Circuit, Computes, DiffersAt, Err, Gathers, Gives, HoldsNets, HoldsSignals, IsHeld, IsListed, IsModel, IsNew, IsNoLater, IsOver, IsSpace, Keeps, List, Model, None, Option, Overflows, PipelineData, Rails, Some, SpaceData, Within, WordFunction, ap, apart_function, apart_tables, append_assoc, arith, bead_count, bit_of, both_tables, both_ways, circuit_of, closed, complement, computed, computes_one, cond, diagram_space, distinct_beads, distinct_beads-append, either_alone, false, few_inputs, find, find-words, fits, get_or, get_or-map, get_or_from_slice_get, held-along, inl, inr, inverse, is_within, least-table_of, len_grows, length, list_any, map, models_alone, nat_tests, net, netlist_alone, not, one_set, option_map, option_or, or_cases, or_left, or_right, recursion_from_All, refl, row, row_matches, rows, signal, slice_get, slice_get_within, subst, suc, sym, table_of, table_of-same, table_order, take, take_all, take_more, too_much-after, true, with_none, with_tables, without, word_number, word_number-less, words, zero, ℕ, ◌&&◌, ◌++◌, ◌+◌, ◌-◌, ◌<◌, ◌^◌, ◌||◌, ◌∙◌, ◌∷◌, ◌≡◌, ◌≢◌, ◌≤◌}
use Rattle.std.specs.FinSet as set

-- ---- the first word of a width that passes a test is the least that does

-- the word passes, and no word of the width before it does
pub record IsLeast (n : ℕ) (test : List Bool → Bool) (word : List Bool) : Type 0 where
  pub wide : length word ≡ n
  pub passes : test word ≡ true
  pub least : (other : List Bool) → length other ≡ n → test other ≡ true → word_number word ≤ word_number other

-- no word of the width passes
abbrev pub NonePasses : ℕ → (List Bool → Bool) → Type 0
NonePasses n test = (word : List Bool) → length word ≡ n → test word ≡ true → ⊥

-- what `find` gives
abbrev pub Found : ℕ → (List Bool → Bool) → Option (List Bool) → Type 0
Found n test None = NonePasses n test
Found n test (Some word) = IsLeast n test word

found-none : (test : List Bool → Bool) (b : Bool) → test [] ≡ b → Found 0 test (cond b (Some []) None)
found-none test true e = record { wide = refl; passes = e; least = λ other wide passes. omega arith }
found-none test false e = by
  where
    by : (word : List Bool) → length word ≡ 0 → test word ≡ true → ⊥
    by [] wide passes = absurd (let no = sym e ∙ passes in cc)
    by (b ∷ word) wide passes = omega (arith, wide)

-- a word that passes is the least where it is so among those that begin with 0 and among those that begin with 1
found-led : (n : ℕ) (test : List Bool → Bool) (b : Bool) (u : List Bool) → length u ≡ n → test (b ∷ u) ≡ true → ((v : List Bool) → length v ≡ n → test (false ∷ v) ≡ true → word_number (b ∷ u) ≤ word_number (false ∷ v)) → ((v : List Bool) → length v ≡ n → test (true ∷ v) ≡ true → word_number (b ∷ u) ≤ word_number (true ∷ v)) → Found (suc n) test (Some (b ∷ u))
found-led n test b u wide passes low high = record { wide = ap suc wide; passes = passes; least = by }
  where
    by : (other : List Bool) → length other ≡ suc n → test other ≡ true → word_number (b ∷ u) ≤ word_number other
    by [] other_wide other_passes = absurd (omega (arith, other_wide))
    by (false ∷ v) other_wide other_passes = low v (omega arith) other_passes
    by (true ∷ v) other_wide other_passes = high v (omega arith) other_passes

found-more : (n : ℕ) (test : List Bool → Bool) (low high : Option (List Bool)) → Found n (λ w. test (false ∷ w)) low → Found n (λ w. test (true ∷ w)) high → Found (suc n) test (option_or (option_map (λ w. false ∷ w) low) (option_map (λ w. true ∷ w) high))
found-more n test (Some u) high l h =
    found-led n test false u l.wide l.passes l.least (λ v wide passes.
    let far = word_number-less u in
    let same : 2 ^ length u ≡ 2 ^ length v = ap (λ (k : ℕ). 2 ^ k) (l.wide ∙ sym wide) in
    omega (arith, far, same))
found-more n test None (Some u) l h =
    found-led n test true u h.wide h.passes (λ v wide passes. absurd (l v wide passes)) (λ v wide passes.
    let rest = h.least v wide passes in
    let same : 2 ^ length u ≡ 2 ^ length v = ap (λ (k : ℕ). 2 ^ k) (h.wide ∙ sym wide) in
    omega (arith, rest, same))
found-more n test None None l h = by
  where
    by : (word : List Bool) → length word ≡ suc n → test word ≡ true → ⊥
    by [] wide passes = omega (arith, wide)
    by (false ∷ v) wide passes = l v (omega arith) passes
    by (true ∷ v) wide passes = h v (omega arith) passes

pub found : (n : ℕ) (test : List Bool → Bool) → Found n test (find test (words n))
found zero test = found-none test (test []) refl
found (suc n) test =
    subst (Found (suc n) test) (sym (find-words n test))
    (found-more n test (find (λ w. test (false ∷ w)) (words n)) (find (λ w. test (true ∷ w)) (words n)) (found n (λ w. test (false ∷ w))) (found n (λ w. test (true ∷ w))))

-- ---- tables of a sort, one after another; and what is told of all tables of a sort by what is held at the end

module _ (Is : List Bool → Type 0) where
  pub gathers-none : (s : SpaceData) → Gathers Is s s
  gathers-none s = record { tables = []; each = All-nil Is; held = sym (with_none s) }

  pub gathers-more : (a b d : SpaceData) (us : List (List Bool)) → Gathers Is a b → Keeps a b → All Is us → d.held ≡ with_tables b us → Gathers Is a d
  gathers-more a b d us g k are held = record {
    tables = g.tables ++ us;
    each = All-append Is g.tables us g.each are;
    held = held-along a b d g.tables us k g.held held;
  }

  pub gathers-along : (a b d : SpaceData) → Gathers Is a b → Keeps a b → Gathers Is b d → Gathers Is a d
  gathers-along a b d g k h = gathers-more a b d h.tables g k h.each h.held

  pub overflows-after : (a b : SpaceData) (us : List (List Bool)) → Gathers Is a b → Keeps a b → All Is us → fits b us ≡ false → Overflows Is a
  overflows-after a b us g k are full = record {
    tables = g.tables ++ us;
    each = All-append Is g.tables us g.each are;
    over = too_much-after a b g.tables us k g.held full;
  }

  pub overflows-along : (a b : SpaceData) → Gathers Is a b → Keeps a b → Overflows Is b → Overflows Is a
  overflows-along a b g k o = overflows-after a b o.tables g k o.each o.over

-- the beads of some tables are held where those of each are
pub all_held : (s : SpaceData) (ts : List (List Bool)) → All (IsHeld s) ts → Within (distinct_beads s.width ts) s.held
all_held s [] are bead has = absurd (both_ways (set.contains (distinct_beads s.width []) bead) (set.contains-from_list table_order [] bead) has)
all_held s (t ∷ ts) are bead has =
    let cut = sym (set.contains-union table_order (distinct_beads s.width (t ∷ [])) (distinct_beads s.width ts) bead) in
    let parts = cut_parts has in
    elim (or_cases (set.contains (distinct_beads s.width (t ∷ [])) bead) (set.contains (distinct_beads s.width ts) bead) parts) [
      | inl first ↦ All-head (IsHeld s) t ts are bead first
      | inr rest ↦ all_held s ts (All-tail (IsHeld s) t ts are) bead rest
    ]
  where
    cut_parts : set.contains (distinct_beads s.width (t ∷ ts)) bead ≡ true → (set.contains (distinct_beads s.width (t ∷ [])) bead || set.contains (distinct_beads s.width ts) bead) ≡ true
    cut_parts has =
        sym (set.contains-union table_order (distinct_beads s.width (t ∷ [])) (distinct_beads s.width ts) bead)
        ∙ ap (λ (b : Beads). set.contains b bead) (sym (distinct_beads-append s.width (t ∷ []) ts)) ∙ has

-- a space that was new holds the beads of what was made
pub new-holds : (old : SpaceData) (ts : List (List Bool)) → IsNew old → with_tables old ts ≡ distinct_beads old.width ts
new-holds old ts new = one_set _ _ (λ bead.
    set.contains-union table_order old.held (distinct_beads old.width ts) bead
    ∙ ap (λ b. b || set.contains (distinct_beads old.width ts) bead) (ap (λ (b : Beads). set.contains b bead) new.held ∙ set.contains-from_list table_order [] bead))

-- tables whose beads are all held are no more than all that is held
pub held-count : (old now : SpaceData) (made ts : List (List Bool)) → IsNew old → now.width ≡ old.width → now.held ≡ with_tables old made → All (IsHeld now) ts → bead_count old.width ts ≤ set.len now.held
held-count old now made ts new wide held are =
    let own : now.held ≡ distinct_beads old.width made = held ∙ new-holds old made new in
    let within : Within (distinct_beads old.width ts) now.held = subst (λ n. Within (distinct_beads n ts) now.held) wide (all_held now ts are) in
    let some : SpaceData = record { width = old.width; limit = old.limit; live = old.live; table = old.table; held = distinct_beads old.width ts; stands = old.stands; live_at = old.live_at; held_at = old.held_at } in
    let both : with_tables some made ≡ now.held = one_set _ _ (λ bead.
    set.contains-union table_order (distinct_beads old.width ts) (distinct_beads old.width made) bead
    ∙ either (set.contains (distinct_beads old.width ts) bead) (set.contains (distinct_beads old.width made) bead) (λ h. ap (λ (b : Beads). set.contains b bead) (sym own) ∙ within bead h)
    ∙ ap (λ (b : Beads). set.contains b bead) (sym own)) in
    subst (λ (b : Beads). bead_count old.width ts ≤ set.len b) both (len_grows some made)
  where
    either : (a b : Bool) → (a ≡ true → b ≡ true) → (a || b) ≡ b
    either true b h = sym (h refl)
    either false b h = refl

-- so tables that could not be held beside none have more beads than the limit
pub over-count : (old : SpaceData) (limit : ℕ) (ts : List (List Bool)) → IsNew old → old.limit ≡ Some limit → fits old ts ≡ false → limit < bead_count old.width ts
over-count old limit ts new is full =
    let none : is_within (Some limit) (bead_count old.width ts) ≡ false =
    (λ i. is_within (sym is i) (set.len (sym (new-holds old ts new) i))) ∙ full in
    grind (arith, nat_tests)

-- and what is held has not
pub within-count : (s : SpaceData) (limit : ℕ) → IsSpace s → s.limit ≡ Some limit → set.len s.held ≤ limit
within-count s limit space is =
    let some : is_within (Some limit) (set.len s.held) ≡ true = (λ i. is_within (sym is i) (set.len s.held)) ∙ space.within in
    grind (arith, nat_tests)

-- ---- what is told of an output from what is held in a space that was new, and from the function of where the netlist and the models differ

module _ (c : Circuit) (models : List Model) (limit output : ℕ) where
  -- tables of the output that could not be held have more beads than the limit
  pub told-over : (old : SpaceData) → IsNew old → old.limit ≡ Some limit → old.width ≡ length c.inputs → Overflows (IsListed c models (output - 1)) old → IsOver c models limit output
  told-over old new is wide o = record {
    tables = o.tables;
    listed = o.each;
    more = subst (λ n. limit < bead_count n o.tables) wide (over-count old limit o.tables new is o.over);
  }

  -- where the beads of all tables of the output are held, they have not
  pub told-within : (old now : SpaceData) → IsNew old → old.limit ≡ Some limit → old.width ≡ length c.inputs → Keeps old now → Gathers (IsListed c models (output - 1)) old now
      → ((table : List Bool) → IsListed c models (output - 1) table → IsHeld now table) → IsOver c models limit output → ⊥
  told-within old now new is wide k g held over =
      let each : All (IsHeld now) over.tables = λ i d lt. held (get_or over.tables i d) (over.listed i d lt) in
      let few = held-count old now g.tables over.tables new k.width g.held each in
      let most = within-count now limit k.space (k.limit ∙ is) in
      let more = subst (λ n. limit < bead_count n over.tables) (sym wide) over.more in
      omega (arith, few, most, more)

-- one model more
computes-more : (models : List Model) (m : Model) (word between answer : List Bool) → Computes models word between → Gives m between answer → Computes (models ++ m ∷ []) word answer
computes-more [] m word between answer is gives = (answer, subst (λ w. Gives m w answer) is gives, refl)
computes-more (n ∷ models) m word between answer (next, first, rest) gives = (next, first, computes-more models m next between answer rest gives)

-- the models up to the last and the last
whole : (models : List Model) (place : ℕ) (m : Model) → place + 1 ≡ length models → slice_get models place ≡ Some m → take place models ++ m ∷ [] ≡ models
whole models place m last at =
    let own : get_or models place m ≡ m = get_or_from_slice_get models place m m at in
    ap (λ x. take place models ++ x ∷ []) (sym own)
    ∙ sym (take_more models place m (slice_get_within models place m at))
    ∙ take_all (place + 1) models (omega (arith, last))

module _ (c : Circuit) (models : List Model) (output : ℕ) (f g : WordFunction) (compared : AreCompared c models (output - 1) f g) where
  -- the answer of the models
  abbrev pub answer_at : List Bool → List Bool
  answer_at word = map (compared.of_models.bits word) compared.of_models.model.outputs

  pub computes-at : (word : List Bool) → length word ≡ length c.inputs → Computes models word (answer_at word)
  computes-at word wide =
      let (between, before, fits) = compared.of_models.assigns.fits word wide in
      subst (λ ms. Computes ms word (answer_at word)) (whole models compared.of_models.place compared.of_models.model compared.of_models.last compared.of_models.assigns.at)
      (computes-more (take compared.of_models.place models) compared.of_models.model word between (answer_at word) before (compared.of_models.bits word, fits, refl))

  -- the bits of both
  pub netlist-bit : (word : List Bool) → length word ≡ length c.inputs → bit_of (computed c word) output ≡ f word
  netlist-bit word wide =
      let d : Rails = compared.of_netlist.rails in
      get_or-map (λ (r : Rails). closed c word r.one.0) c.outputs (output - 1) d false (slice_get_within c.outputs (output - 1) d compared.of_netlist.at)
      ∙ ap (λ (r : Rails). closed c word r.one.0) (get_or_from_slice_get c.outputs (output - 1) d d compared.of_netlist.at)
      ∙ sym (compared.of_netlist.rail word wide)

  pub models-bit : (word : List Bool) → length word ≡ length c.inputs → bit_of (answer_at word) output ≡ g word
  models-bit word wide =
      get_or-map (compared.of_models.bits word) compared.of_models.model.outputs (output - 1) compared.of_models.signal false (slice_get_within compared.of_models.model.outputs (output - 1) compared.of_models.signal compared.of_models.driven)
      ∙ ap (compared.of_models.bits word) (get_or_from_slice_get compared.of_models.model.outputs (output - 1) compared.of_models.signal compared.of_models.signal compared.of_models.driven)
      ∙ sym (compared.of_models.bit word wide)

  apart-differs : (x y : Bool) → ((x && not y) || (y && not x)) ≡ true → x ≢ y
  apart-differs true true e = λ h. absurd cc
  apart-differs true false e = λ h. absurd cc
  apart-differs false true e = λ h. absurd cc
  apart-differs false false e = λ h. absurd cc

  differs-apart : (x y : Bool) → x ≢ y → ((x && not y) || (y && not x)) ≡ true
  differs-apart true true h = absurd (h refl)
  differs-apart true false h = refl
  differs-apart false true h = refl
  differs-apart false false h = absurd (h refl)

  -- where the function of their difference is 1, they differ
  pub differs-from : (word : List Bool) → length word ≡ length c.inputs → apart_function f g word ≡ true → DiffersAt c models output word
  differs-from word wide one = record {
    wide = wide;
    answer = answer_at word;
    computes = computes-at word wide;
    differ = λ same. apart-differs (f word) (g word) one (sym (netlist-bit word wide) ∙ same ∙ models-bit word wide);
  }

  -- and where they differ it is 1
  pub differs-one : AllByRecursion IsModel models → (word : List Bool) → DiffersAt c models output word → apart_function f g word ≡ true
  differs-one each word d =
      let same : d.answer ≡ answer_at word = computes_one models each word d.answer (answer_at word) d.computes (computes-at word d.wide) in
      differs-apart (f word) (g word) (λ e. d.differ (netlist-bit word d.wide ∙ e ∙ sym (models-bit word d.wide) ∙ ap (λ a. bit_of a output) (sym same)))

  -- so the least word of the function is the least at which they differ
  pub told-differ : AllByRecursion IsModel models → (limit : ℕ) (word : List Bool) → (IsOver c models limit output → ⊥) → IsLeast (length c.inputs) (apart_function f g) word → (IsOver c models limit output → ⊥) × DiffersAt c models output word × ((earlier : List Bool) → DiffersAt c models output earlier → IsNoLater word earlier)
  told-differ each limit word within l = (within, differs-from word l.wide l.passes, λ earlier d. l.least earlier d.wide (differs-one each earlier d))

  -- and where there is none, they are the same
  pub told-same : AllByRecursion IsModel models → (limit : ℕ) → (IsOver c models limit output → ⊥) → NonePasses (length c.inputs) (apart_function f g) → (IsOver c models limit output → ⊥) × ((word : List Bool) → DiffersAt c models output word → ⊥)
  told-same each limit within none = (within, λ word d. none word d.wide (differs-one each word d))

-- ---- the two sides of an output put together: where they differ, and that every listed table is held

-- the complement of a table
pub not-table : (ws : List (List Bool)) (f : WordFunction) → map not (table_of ws f) ≡ table_of ws (inverse f)
not-table [] f = refl
not-table (w ∷ ws) f = ap (λ l. not (f w) ∷ l) (not-table ws f)

not-twice : (t : List Bool) → map not (map not t) ≡ t
not-twice [] = refl
not-twice (true ∷ t) = ap (λ l. true ∷ l) (not-twice t)
not-twice (false ∷ t) = ap (λ l. false ∷ l) (not-twice t)

-- what is held stays held
pub held-kept : (a b : SpaceData) (t : List Bool) → Keeps a b → IsHeld a t → IsHeld b t
held-kept a b t k held =
    let same : Within (distinct_beads b.width (t ∷ [])) a.held = subst (λ n. Within (distinct_beads n (t ∷ [])) a.held) (sym k.width) held in
    λ bead has. k.held bead (same bead has)

pub both-kept : (a b : SpaceData) (f : WordFunction) → Keeps a b → AreHeld a f → AreHeld b f
both-kept a b f k held = record {
  one = subst (λ n. IsHeld b (table_of (words n) f)) (sym k.width) (held-kept a b (table_of (words a.width) f) k held.one);
  zero = subst (λ n. IsHeld b (table_of (words n) (inverse f))) (sym k.width) (held-kept a b (table_of (words a.width) (inverse f)) k held.zero);
}

pub nets-kept : (a b : SpaceData) (c : Circuit) (output : ℕ) → Keeps a b → HoldsNets a c output → HoldsNets b c output
nets-kept a b c output k held = record { nets = λ n counts. both-kept a b (λ word. closed c word n) k (held.nets n counts) }

pub signals-kept : (a b : SpaceData) (c : Circuit) (models : List Model) (output : ℕ) → Keeps a b → HoldsSignals a c models output → HoldsSignals b c models output
signals-kept a b c models output k held = record {
  signals = λ place model bits signal assigns counts. both-kept a b (λ word. bits word signal) k (held.signals place model bits signal assigns counts);
  rows = λ place model bits cover row i assigns counts in_model in_cover some within. both-kept a b (λ word. row_matches (map (bits word) cover.ins) (take i row)) k (held.rows place model bits cover row i assigns counts in_model in_cover some within);
  covers = λ place model bits cover i assigns counts in_model some within. both-kept a b (λ word. list_any (row_matches (map (bits word) cover.ins)) (take i cover.rows)) k (held.covers place model bits cover i assigns counts in_model some within);
}

-- a table and its complement, where both tables of a function are held
pair-held : (s : SpaceData) (n : ℕ) (f : WordFunction) → s.width ≡ n → AreHeld s f → IsHeld s (table_of (words n) f) × IsHeld s (map not (table_of (words n) f))
pair-held s n f wide held = (
  subst (λ m. IsHeld s (table_of (words m) f)) wide held.one,
  subst (IsHeld s) (sym (not-table (words n) f)) (subst (λ m. IsHeld s (table_of (words m) (inverse f))) wide held.zero),
)

-- tables of one function
pub same-held : (s : SpaceData) (f g : WordFunction) → ((w : List Bool) → length w ≡ s.width → f w ≡ g w) → AreHeld s f → AreHeld s g
same-held s f g same held = record {
  one = subst (IsHeld s) (table_of-same s.width f g same) held.one;
  zero = subst (IsHeld s) (table_of-same s.width (inverse f) (inverse g) (λ w wide. ap not (same w wide))) held.zero;
}

module _ (c : Circuit) (models : List Model) (output : ℕ) (each : AllByRecursion IsModel models) where
  -- any two functions that are compared are one another
  same-rail : (f g f2 g2 : WordFunction) → AreCompared c models (output - 1) f g → AreCompared c models (output - 1) f2 g2 → (w : List Bool) → length w ≡ length c.inputs → f w ≡ f2 w
  same-rail f g f2 g2 x y w wide = sym (netlist-bit c models output f g x w wide) ∙ netlist-bit c models output f2 g2 y w wide

  same-signal : (f g f2 g2 : WordFunction) → AreCompared c models (output - 1) f g → AreCompared c models (output - 1) f2 g2 → (w : List Bool) → length w ≡ length c.inputs → g w ≡ g2 w
  same-signal f g f2 g2 x y w wide =
      let one : answer_at c models output f g x w ≡ answer_at c models output f2 g2 y w =
      computes_one models each w (answer_at c models output f g x w) (answer_at c models output f2 g2 y w) (computes-at c models output f g x w wide) (computes-at c models output f2 g2 y w wide) in
      sym (models-bit c models output f g x w wide) ∙ ap (λ a. bit_of a output) one ∙ models-bit c models output f2 g2 y w wide

  -- every listed table is held, and its complement
  module _ (s : SpaceData) (wide : s.width ≡ length c.inputs) (nets : HoldsNets s c (output - 1)) (signals : HoldsSignals s c models (output - 1)) (f g : WordFunction) (are : AreCompared c models (output - 1) f g) (less : AreHeld s (without f g)) (more : AreHeld s (without g f)) (either : AreHeld s (apart_function f g)) where
    listed-held : (t : List Bool) → IsListed c models (output - 1) t → IsHeld s t × IsHeld s (map not t)
    listed-held _ (net n counts) = pair-held s (length c.inputs) (λ word. closed c word n) wide (nets.nets n counts)
    listed-held _ (signal place model bits sig assigns counts) = pair-held s (length c.inputs) (λ word. bits word sig) wide (signals.signals place model bits sig assigns counts)
    listed-held _ (row place model bits cover r i assigns counts in_model in_cover some within) =
        pair-held s (length c.inputs) (λ word. row_matches (map (bits word) cover.ins) (take i r)) wide (signals.rows place model bits cover r i assigns counts in_model in_cover some within)
    listed-held _ (rows place model bits cover i assigns counts in_model some within) =
        pair-held s (length c.inputs) (λ word. list_any (row_matches (map (bits word) cover.ins)) (take i cover.rows)) wide (signals.covers place model bits cover i assigns counts in_model some within)
    listed-held _ (netlist_alone f2 g2 other) =
        pair-held s (length c.inputs) (without f2 g2) wide
        (same-held s (without f g) (without f2 g2) (λ w h. λ i. same-rail f g f2 g2 are other w (h ∙ wide) i && not (same-signal f g f2 g2 are other w (h ∙ wide) i)) less)
    listed-held _ (models_alone f2 g2 other) =
        pair-held s (length c.inputs) (without g2 f2) wide
        (same-held s (without g f) (without g2 f2) (λ w h. λ i. same-signal f g f2 g2 are other w (h ∙ wide) i && not (same-rail f g f2 g2 are other w (h ∙ wide) i)) more)
    listed-held _ (either_alone f2 g2 other) =
        pair-held s (length c.inputs) (apart_function f2 g2) wide
        (same-held s (apart_function f g) (apart_function f2 g2) (λ w h. λ i.
        (same-rail f g f2 g2 are other w (h ∙ wide) i && not (same-signal f g f2 g2 are other w (h ∙ wide) i))
        || (same-signal f g f2 g2 are other w (h ∙ wide) i && not (same-rail f g f2 g2 are other w (h ∙ wide) i))) either)
    listed-held _ (complement t is) =
        let held = listed-held t is in (held.1, subst (IsHeld s) (sym (not-twice t)) held.0)

    pub each-held : (t : List Bool) → IsListed c models (output - 1) t → IsHeld s t
    each-held t is = (listed-held t is).0

-- with a table its complement is listed
pub both-listed : (c : Circuit) (models : List Model) (output : ℕ) (h : WordFunction) → IsListed c models output (table_of (words (length c.inputs)) h) → All (IsListed c models output) (both_tables (length c.inputs) h)
both-listed c models output h is =
    let n : ℕ = length c.inputs in
    All-cons (IsListed c models output) (table_of (words n) h) (table_of (words n) (inverse h) ∷ []) is
    (All-cons (IsListed c models output) (table_of (words n) (inverse h)) [] (subst (IsListed c models output) (not-table (words n) h) (complement (table_of (words n) h) is)) (All-nil (IsListed c models output)))

-- the six tables of the difference are listed
pub apart-listed : (c : Circuit) (models : List Model) (output : ℕ) (f g : WordFunction) → AreCompared c models output f g → All (IsListed c models output) (apart_tables (length c.inputs) f g)
apart-listed c models output f g are =
    let n : ℕ = length c.inputs in
    All-append (IsListed c models output) (both_tables n (without f g) ++ both_tables n (without g f)) (both_tables n (apart_function f g))
    (All-append (IsListed c models output) (both_tables n (without f g)) (both_tables n (without g f)) (both-listed c models output (without f g) (netlist_alone f g are)) (both-listed c models output (without g f) (models_alone f g are)))
    (both-listed c models output (apart_function f g) (either_alone f g are))

-- tables that were made are held
pub made-held : (old now : SpaceData) (front back : List (List Bool)) (t : List Bool) → now.width ≡ old.width → now.held ≡ with_tables old (front ++ t ∷ back) → IsHeld now t
made-held old now front back t wide held = λ bead has.
    let own : set.contains (distinct_beads old.width (t ∷ [])) bead ≡ true = subst (λ n. set.contains (distinct_beads n (t ∷ [])) bead ≡ true) wide has in
    ap (λ (b : Beads). set.contains b bead) held
    ∙ set.contains-union table_order old.held (distinct_beads old.width (front ++ t ∷ back)) bead
    ∙ or_right (set.contains old.held bead) (set.contains (distinct_beads old.width (front ++ t ∷ back)) bead)
    (ap (λ (b : Beads). set.contains b bead) (distinct_beads-append old.width front (t ∷ back))
    ∙ set.contains-union table_order (distinct_beads old.width front) (distinct_beads old.width (t ∷ back)) bead
    ∙ or_right (set.contains (distinct_beads old.width front) bead) (set.contains (distinct_beads old.width (t ∷ back)) bead)
    (ap (λ (b : Beads). set.contains b bead) (distinct_beads-append old.width (t ∷ []) back)
    ∙ set.contains-union table_order (distinct_beads old.width (t ∷ [])) (distinct_beads old.width back) bead
    ∙ or_left (set.contains (distinct_beads old.width (t ∷ [])) bead) (set.contains (distinct_beads old.width back) bead) own))

-- the tables of the difference are held
pub apart-held : (old now : SpaceData) (f g : WordFunction) → now.width ≡ old.width → now.held ≡ with_tables old (apart_tables old.width f g) → AreHeld now (without f g) × AreHeld now (without g f) × AreHeld now (apart_function f g)
apart-held old now f g wide held =
    let n : ℕ = old.width in
    let at : (front back : List (List Bool)) (h : WordFunction) → apart_tables n f g ≡ front ++ table_of (words n) h ∷ table_of (words n) (inverse h) ∷ back → AreHeld now h =
    λ front back h cut. record {
      one = subst (λ m. IsHeld now (table_of (words m) h)) (sym wide) (made-held old now front (table_of (words n) (inverse h) ∷ back) (table_of (words n) h) wide (held ∙ ap (with_tables old) cut));
      zero = subst (λ m. IsHeld now (table_of (words m) (inverse h))) (sym wide) (made-held old now (front ++ table_of (words n) h ∷ []) back (table_of (words n) (inverse h)) wide (held ∙ ap (with_tables old) (cut ∙ sym (append_assoc front (table_of (words n) h ∷ []) (table_of (words n) (inverse h) ∷ back)))));
    } in (
      at [] (both_tables n (without g f) ++ both_tables n (apart_function f g)) (without f g) refl,
      at (both_tables n (without f g)) (both_tables n (apart_function f g)) (without g f) refl,
      at (both_tables n (without f g) ++ both_tables n (without g f)) [] (apart_function f g) refl,
    )
