-- A space of tables is a space, and how it changes where a table is put after the others or the last ones go.
use Rattle.ncl_space.proofs.Terms.{Adds, All, AllByRecursion, AreTables, Beads, Bool, IfOk, IsLive, IsSpace, Keeps, List, Makes, Mark, MarksNow, OnErr, OnOk, PlainData, Ref, Releases, SpaceFault, Within, [], ap, arith, beads_of, cases_lt, constant_table, distinct_beads, drop, false, get_or-take, get_or_append_left, get_or_push, inl, inr, is_bead, is_set, length, length-take-le, length_push, list_any, map, mul-add-lt, mul_comm, plain_space, refl, row_table, slice_index_or, stride_of, subst, suc, sym, table_at, tables_in, take, take-append-drop, take-append-le, true, words, zero, ℕ, ◌*◌, ◌++◌, ◌+◌, ◌-◌, ◌<◌, ◌^◌, ◌||◌, ◌∙◌, ◌∷◌, ◌≡◌, ◌≤◌}
use Rattle.std.specs.FinSet as set
use Rattle.std.specs.Prelude.{Result, Ok, Err}
use Rattle.ncl_space.proofs.BeadLaws.{table_order, contains-distinct_beads, distinct_beads-append}
use Rattle.ncl_space.proofs.TableLaws.{length-table_of, distinct_beads-constant}
use Rattle.ncl_space.proofs.RowLaws.{length-row_table, get_or-tables_in, length-tables_in, tables_in-push, tables_in-take, bit_of_row}
use Rattle.ncl_space.proofs.SpaceLaws.{keeps_all}
use Rattle.ncl_space.proofs.CountedMarks.{CountsMarks, from_nat_le, from_nat_lt, marks_now, nat_le-from, nat_lt-from, releases_to}

-- the width is one of these spaces', and each table has a value for each word
pub record IsPlain (p : PlainData) : Type 0 where
  pub some_bit : 1 ≤ p.width
  pub few_bits : p.width ≤ 10
  pub long : (k : ℕ) → k < length p.tables → length (slice_index_or p.tables k []) ≡ 2 ^ p.width

-- so it is of the tables that stand in words
pub IsPlain-tables_in : (n stride count : ℕ) (words : List ℕ) → AreTables n stride count words → IsPlain (record { width = n; tables = tables_in n count words })
IsPlain-tables_in n stride count words are = record {
  some_bit = are.some_bit;
  few_bits = are.few_bits;
  long = λ k lt. ap (λ (t : List Bool). length t) (get_or-tables_in n count words k (omega (arith, length-tables_in n count words))) ∙ length-row_table n words k;
}

-- the table of a place that is there has a value for each word
pub length-table_at : (p : PlainData) → IsPlain p → (place : ℕ) → place < length p.tables + 2 → length (table_at p.width p.tables place) ≡ 2 ^ p.width
length-table_at p is zero lt = length-table_of p.width (λ word. false)
length-table_at p is (suc zero) lt = length-table_of p.width (λ word. true)
length-table_at p is (suc (suc k)) lt = is.long k (omega arith)

or_true : (a : Bool) → (a || true) ≡ true
or_true true = refl
or_true false = refl

-- the beads of a member are among those of the list
Within-member : (n : ℕ) (ts : List (List Bool)) (k : ℕ) → k < length ts → Within (distinct_beads n (slice_index_or ts k [] ∷ [])) (distinct_beads n ts)
Within-member n ts k lt bead has = contains-distinct_beads n ts bead ∙ at ts k lt (alone (is_bead (beads_of n (slice_index_or ts k [])) bead) (sym (contains-distinct_beads n (slice_index_or ts k [] ∷ []) bead) ∙ has))
  where
    alone : (b : Bool) → (b || false) ≡ true → b ≡ true
    alone true e = refl
    alone false e = e

    at : (us : List (List Bool)) (j : ℕ) → j < length us → is_bead (beads_of n (slice_index_or us j [])) bead ≡ true → list_any (λ t. is_bead (beads_of n t) bead) us ≡ true
    at [] j j_lt e = absurd (omega arith)
    at (u ∷ us) zero j_lt e = ap (λ b. b || list_any (λ t. is_bead (beads_of n t) bead) us) e
    at (u ∷ us) (suc j) j_lt e = ap (λ b. is_bead (beads_of n u) bead || b) (at us j (omega arith) e) ∙ or_true (is_bead (beads_of n u) bead)

-- the beads of the first tables are among those of all, and those of a list are among those of a longer one
pub Within-left : (s t : Beads) → Within s (set.union s t)
Within-left s t bead has = set.contains-union table_order s t bead ∙ ap (λ b. b || set.contains t bead) has

Within-append : (n : ℕ) (ts us : List (List Bool)) → Within (distinct_beads n ts) (distinct_beads n (ts ++ us))
Within-append n ts us bead has = ap (λ (s : Beads). set.contains s bead) (distinct_beads-append n ts us) ∙ Within-left (distinct_beads n ts) (distinct_beads n us) bead has

Within-take : (n c : ℕ) (ts : List (List Bool)) → Within (distinct_beads n (take c ts)) (distinct_beads n ts)
Within-take n c ts bead has = ap (λ (all : List (List Bool)). set.contains (distinct_beads n all) bead) (sym (take-append-drop c ts)) ∙ Within-append n (take c ts) (drop c ts) bead has

Within-constant : (n : ℕ) (value : Bool) (s : Beads) → Within (distinct_beads n (constant_table n value ∷ [])) s
Within-constant n value s bead has = absurd (no_bead (sym (ap (λ (t : Beads). set.contains t bead) (distinct_beads-constant n value) ∙ set.contains-empty _ bead) ∙ has))
  where
    no_bead : false ≡ true → ⊥
    no_bead e = cc

Within-table_at : (p : PlainData) (place : ℕ) → place < length p.tables + 2 → Within (distinct_beads p.width (table_at p.width p.tables place ∷ [])) (distinct_beads p.width p.tables)
Within-table_at p zero lt = Within-constant p.width false (distinct_beads p.width p.tables)
Within-table_at p (suc zero) lt = Within-constant p.width true (distinct_beads p.width p.tables)
Within-table_at p (suc (suc k)) lt = Within-member p.width p.tables k (omega arith)

-- it is a space
pub IsSpace-plain : (p : PlainData) → IsPlain p → IsSpace (plain_space p)
IsSpace-plain p is = record {
  some_bit = is.some_bit;
  few_bits = omega (arith, is.few_bits);
  within = refl;
  tables = λ r live. length-table_at p is r.place (from_nat_lt r.place (length p.tables + 2) live);
  beads = λ r live. Within-table_at p r.place (from_nat_lt r.place (length p.tables + 2) live);
  live_at = λ m stands r live.
      let count : m.count ≤ length p.tables = from_nat_le m.count (length p.tables) stands in
      let place : r.place < m.count + 2 = from_nat_lt r.place (m.count + 2) live in
      nat_lt-from r.place (length p.tables + 2) (omega arith);
  held_at = λ m stands. Within-take p.width m.count p.tables;
}

-- the places that are there keep their tables where one is put after them
pub table_at-append : (n : ℕ) (ts us : List (List Bool)) (place : ℕ) → place < length ts + 2 → table_at n (ts ++ us) place ≡ table_at n ts place
table_at-append n ts us zero lt = refl
table_at-append n ts us (suc zero) lt = refl
table_at-append n ts us (suc (suc k)) lt = get_or_append_left ts us [] k (omega arith)

table_at-take : (n c : ℕ) (ts : List (List Bool)) (place : ℕ) → place < c + 2 → table_at n (take c ts) place ≡ table_at n ts place
table_at-take n c ts zero lt = refl
table_at-take n c ts (suc zero) lt = refl
table_at-take n c ts (suc (suc k)) lt = get_or-take c ts k [] (omega arith)

-- the space with one table more
abbrev pub pushed : PlainData → List Bool → PlainData
pushed p t = record { width = p.width; tables = p.tables ++ t ∷ [] }

pub Makes-pushed : (p : PlainData) (t : List Bool) (r : Ref) → r.place ≡ length p.tables + 2 → Makes (plain_space p) (plain_space (pushed p t)) r t
Makes-pushed p t r at = record {
  live = nat_lt-from r.place (length (p.tables ++ t ∷ []) + 2) (omega (arith, length_push p.tables t));
  table = ap (table_at p.width (p.tables ++ t ∷ [])) place ∙ get_or_push p.tables t [] (length p.tables) refl;
  held = distinct_beads-append p.width p.tables (t ∷ []);
}
  where
    place : r.place ≡ suc (suc (length p.tables))
    place = omega (arith, at)

pub IsPlain-pushed : (p : PlainData) (t : List Bool) → IsPlain p → length t ≡ 2 ^ p.width → IsPlain (pushed p t)
IsPlain-pushed p t is long = record {
  some_bit = is.some_bit;
  few_bits = is.few_bits;
  long = λ k lt. elim (cases_lt k (length p.tables)) [
    | inl old ↦ ap (λ (u : List Bool). length u) (get_or_append_left p.tables (t ∷ []) [] k old) ∙ is.long k old
    | inr new ↦ ap (λ (u : List Bool). length u) (get_or_push p.tables t [] k (let at : length p.tables ≡ k = omega (arith, length_push p.tables t) in at)) ∙ long
  ];
}

pub Keeps-pushed : (p : PlainData) (t : List Bool) → IsPlain p → length t ≡ 2 ^ p.width → Keeps (plain_space p) (plain_space (pushed p t))
Keeps-pushed p t is long = record {
  width = refl;
  limit = refl;
  live = λ r live. let lt : r.place < length p.tables + 2 = from_nat_lt r.place (length p.tables + 2) live in nat_lt-from r.place (length (p.tables ++ t ∷ []) + 2) (omega (arith, length_push p.tables t));
  tables = λ r live. table_at-append p.width p.tables (t ∷ []) r.place (from_nat_lt r.place (length p.tables + 2) live);
  marks = λ m stands.
      let count : m.count ≤ length p.tables = from_nat_le m.count (length p.tables) stands in
      record {
        stands = nat_le-from m.count (length (p.tables ++ t ∷ [])) (omega (arith, length_push p.tables t));
        live_at = λ r. refl;
        held_at = ap (distinct_beads p.width) (take-append-le m.count p.tables (t ∷ []) count);
      };
  held = Within-append p.width p.tables (t ∷ []);
  space = IsSpace-plain (pushed p t) (IsPlain-pushed p t is long);
}

-- the number of tables is a mark of now
plain-counts : (p : PlainData) → CountsMarks (plain_space p) (distinct_beads p.width) p.tables
plain-counts p = record { live = λ r. refl; held = refl; stands = λ m. refl; live_at = λ m r. refl; held_at = λ m. refl }

pub MarksNow-plain : (p : PlainData) (m : Mark) → m.count ≡ length p.tables → MarksNow (plain_space p) m
MarksNow-plain p = marks_now (plain_space p) (distinct_beads p.width) p.tables (plain-counts p)

pub IsPlain-take : (p : PlainData) (c : ℕ) → IsPlain p → c ≤ length p.tables → IsPlain (record { width = p.width; tables = take c p.tables })
IsPlain-take p c is le = record {
  some_bit = is.some_bit;
  few_bits = is.few_bits;
  long = λ k lt.
      let below : k < c = omega (arith, length-take-le c p.tables le) in
      ap (λ (u : List Bool). length u) (get_or-take c p.tables k [] below) ∙ is.long k (omega arith);
}

-- the first tables alone are the space at a mark
pub Releases-plain : (p : PlainData) (m : Mark) → IsPlain p → m.count ≤ length p.tables → Releases (plain_space p) (plain_space (record { width = p.width; tables = take m.count p.tables })) m
Releases-plain p m is le =
    let first : PlainData = record { width = p.width; tables = take m.count p.tables } in
    releases_to (plain_space p) (plain_space first) (distinct_beads p.width) p.tables m (plain-counts p) (plain-counts first) le refl refl
    (λ r place. table_at-take p.width m.count p.tables r.place place)
    (IsSpace-plain first (IsPlain-take p m.count is le))

-- the first tables are as many as the words say, where a space is seen as they are
pub IsPlain-view : (n stride count : ℕ) (words : List ℕ) (p : PlainData) → AreTables n stride count words → (let seen : PlainData = record { width = n; tables = tables_in n count words } in seen ≡ p) → IsPlain p
IsPlain-view n stride count words p are seen = subst IsPlain seen (IsPlain-tables_in n stride count words are)

pub length-view : (n count : ℕ) (words : List ℕ) (p : PlainData) → (let seen : PlainData = record { width = n; tables = tables_in n count words } in seen ≡ p) → length p.tables ≡ count
length-view n count words p seen = ap (λ (q : PlainData). length q.tables) (sym seen) ∙ length-tables_in n count words

-- with the words of one table more it is seen with that table
pub pushed-view : (n stride count : ℕ) (words row : List ℕ) (p : PlainData) → AreTables n stride count words → (let seen : PlainData = record { width = n; tables = tables_in n count words } in seen ≡ p) → let new : PlainData = record { width = n; tables = tables_in n (count + 1) (words ++ row) } in new ≡ pushed p (row_table p.width row 0)
pushed-view n stride count words row p are seen =
    (λ t. record { width = n; tables = tables_in-push n count words row are.whole t })
    ∙ (λ t. pushed (seen t) (row_table (seen t).width row 0))

-- and with the words of the first tables alone it is seen with these
pub released-view : (n stride count c : ℕ) (words : List ℕ) (p : PlainData) → c ≤ count → (let seen : PlainData = record { width = n; tables = tables_in n count words } in seen ≡ p) → let new : PlainData = record { width = n; tables = tables_in n c (take (stride_of n * c) words) } in let first : PlainData = record { width = p.width; tables = take c p.tables } in new ≡ first
released-view n stride count c words p le seen =
    (λ t. record { width = n; tables = tables_in-take n count c words le t })
    ∙ (λ t. record { width = (seen t).width; tables = take c (seen t).tables })

-- a space without tables
pub IsPlain-none : (n : ℕ) → 1 ≤ n → n ≤ 10 → IsPlain (record { width = n; tables = [] })
IsPlain-none n some few = record { some_bit = some; few_bits = few; long = λ k lt. absurd (omega arith) }

-- bit k of word j of the table of a place
pub bit_of_place : (n stride count : ℕ) (words : List ℕ) (place j k : ℕ) → AreTables n stride count words → 2 ≤ place → place < count + 2 → j < stride_of n → k < 64 → is_set (slice_index_or words ((place - 2) * stride + j) 0) k ≡ slice_index_or (table_at n (tables_in n count words) place) (64 * j + k) false
bit_of_place n stride count words zero j k are some there within lt = absurd (omega arith)
bit_of_place n stride count words (suc zero) j k are some there within lt = absurd (omega arith)
bit_of_place n stride count words (suc (suc m)) j k are some there within lt =
    let at : suc (suc m) - 2 ≡ m = omega arith in
    let word : (suc (suc m) - 2) * stride + j ≡ stride_of n * m + j = (λ t. at t * are.stride_is t + j) ∙ ap (λ (i : ℕ). i + j) (mul_comm m (stride_of n)) in
    ap (λ (i : ℕ). is_set (slice_index_or words i 0) k) word
    ∙ bit_of_row n words m j k are.ended within lt
    ∙ ap (λ (t : List Bool). slice_index_or t (64 * j + k) false) (sym (get_or-tables_in n count words m (omega arith)))

-- where that word stands
pub place_there : (n stride count : ℕ) (words : List ℕ) (place j : ℕ) → AreTables n stride count words → 2 ≤ place → place < count + 2 → j < stride_of n → (place - 2) * stride + j < length words
place_there n stride count words place j are some there within =
    let below = mul-add-lt (place - 2) (stride_of n) j count (omega arith) within in
    let stride_is : (place - 2) * stride ≡ (place - 2) * stride_of n = ap (λ (i : ℕ). (place - 2) * i) are.stride_is in
    omega (arith, are.whole)

-- what every call that puts a table after the others or leaves all as it is says
pub made_by_push : (p q : PlainData) (row : List ℕ) (t : List Bool) (o : Result Ref SpaceFault) → row_table p.width row 0 ≡ t → IfOk o (λ r. r.place ≡ length p.tables + 2) → OnOk o (q ≡ pushed p (row_table p.width row 0)) → IfOk o (λ r. Makes (plain_space p) (plain_space q) r t)
made_by_push p q row t (Ok r) is at put = subst (λ (d : PlainData). Makes (plain_space p) (plain_space d) r t) (sym (put ∙ ap (pushed p) is)) (Makes-pushed p t r at)
made_by_push p q row t (Err e) is at put = tt

pub adds_by_push : (p q : PlainData) (row : List ℕ) (t : List Bool) (o : Result Ref SpaceFault) → row_table p.width row 0 ≡ t → OnOk o (q ≡ pushed p (row_table p.width row 0)) → OnErr o (q ≡ p) → Adds (plain_space p) (plain_space q) (t ∷ [])
adds_by_push p q row t (Ok r) is put same = subst (λ (d : PlainData). Adds (plain_space p) (plain_space d) (t ∷ [])) (sym (put ∙ ap (pushed p) is)) (λ bead has. ap (λ (s : Beads). set.contains s bead) (sym (distinct_beads-append p.width p.tables (t ∷ []))) ∙ has)
adds_by_push p q row t (Err e) is put same = subst (λ (d : PlainData). Adds (plain_space p) (plain_space d) (t ∷ [])) (sym same) (Within-left (distinct_beads p.width p.tables) (distinct_beads p.width (t ∷ [])))

-- whether it is seen as it was or with one table more, it keeps what it had
pub Keeps-same : (p q : PlainData) → IsPlain p → q ≡ p → Keeps (plain_space p) (plain_space q)
Keeps-same p q is same = subst (λ (d : PlainData). Keeps (plain_space p) (plain_space d)) (sym same) (keeps_all (plain_space p) (IsSpace-plain p is))

pub Keeps-put : (p q : PlainData) (t : List Bool) → IsPlain p → length t ≡ 2 ^ p.width → q ≡ pushed p t → Keeps (plain_space p) (plain_space q)
Keeps-put p q t is long put = subst (λ (d : PlainData). Keeps (plain_space p) (plain_space d)) (sym put) (Keeps-pushed p t is long)

-- the table at a pin of a gate on Refs, where a pin that isn't there reads 0
pub index-pins : (p : PlainData) (ins : List Ref) (k : ℕ) → slice_index_or (map (plain_space p).table ins) k (constant_table p.width false) ≡ (plain_space p).table (slice_index_or ins k (record { place = 0 }))
index-pins p [] k = refl
index-pins p (r ∷ ins) zero = refl
index-pins p (r ∷ ins) (suc k) = index-pins p ins k

-- the tables of live Refs have a value for each word
pub long_pins : (p : PlainData) → IsPlain p → (ins : List Ref) → All (IsLive (plain_space p)) ins → AllByRecursion (λ t. length t ≡ 2 ^ p.width) (map (plain_space p).table ins)
long_pins p is [] live = tt
long_pins p is (r ∷ ins) live = (length-table_at p is r.place (from_nat_lt r.place (length p.tables + 2) (live 0 r (omega arith))), long_pins p is ins (λ k d lt. live (suc k) d (omega arith)))
