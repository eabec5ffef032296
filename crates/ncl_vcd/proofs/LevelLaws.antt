-- The law of levels: what a dump says of a net at a time is its value then.
use Rattle.ncl_vcd.proofs.Terms.{AllByRecursion, AllDigits, Bool, List, None, Option, Some, ValueChange, [], and_parts, ap, append-nil, append_assoc, arith, both_ways, cases_eq, cases_lt, change_lines, codes, cond, decimal, decimal_is_IsNumeral, declaration_lines, digit_value, dump_lines, dump_text, eq-eqb, eqb-true, false, flat_map, from_time, get_or, identifier_code, initial_lines, inl, inr, is_after, is_later, is_line, is_time, length, level, line, lines_from, lines_of, nat_eq, nat_lt, ne_eqb, not, not-true, refl, suc, sym, take_while, take_while-cons, time_line, time_of, told, told_by, true, value_line, value_lines, variable_line, variable_lines, zero, ℕ, ◌&&◌, ◌++◌, ◌+◌, ◌<◌, ◌^◌, ◌∙◌, ◌∷◌, ◌≡◌, ◌≢◌, ◌≤◌}
use Rattle.ncl_vcd.proofs.Changes.{after_change, value_at, Rise, IsOneLine}
use Rattle.ncl_vcd.proofs.CodeLaws.{code-injective, code-prints}

-- ---- two lines

pub is_line-own : (l : List ℕ) → is_line l l ≡ true
is_line-own [] = refl
is_line-own (x ∷ xs) = ap (λ b. b && is_line xs xs) (eq-eqb x x refl) ∙ is_line-own xs

pub is_line-same : (xs ys : List ℕ) → is_line xs ys ≡ true → xs ≡ ys
is_line-same [] [] e = refl
is_line-same [] (y ∷ ys) e = absurd cc
is_line-same (x ∷ xs) [] e = absurd cc
is_line-same (x ∷ xs) (y ∷ ys) e =
    let (first, rest) = and_parts (nat_eq x y) (is_line xs ys) e in
    let f : x ≡ y = eqb-true x y first in
    let r : xs ≡ ys = is_line-same xs ys rest in
    λ i. f i ∷ r i

is_line-other : (m n : ℕ) → m ≢ n → is_line (identifier_code m) (identifier_code n) ≡ false
is_line-other m n differ = by (is_line (identifier_code m) (identifier_code n)) refl
  where
    by : (b : Bool) → is_line (identifier_code m) (identifier_code n) ≡ b → is_line (identifier_code m) (identifier_code n) ≡ false
    by true e = absurd (differ (code-injective m n (is_line-same (identifier_code m) (identifier_code n) e)))
    by false e = e

-- ---- what a line tells

told-own : (net : ℕ) (value : Bool) (known : Option Bool) → told (identifier_code net) known (value_line net value) ≡ Some value
told-own net false known = ap (λ b. cond b (Some false) (cond (is_line (48 ∷ identifier_code net) (49 ∷ identifier_code net)) (Some true) known)) (is_line-own (identifier_code net))
told-own net true known = ap (λ b. cond b (Some true) known) (is_line-own (identifier_code net))

told-other : (net other : ℕ) (value : Bool) (known : Option Bool) → other ≢ net → told (identifier_code net) known (value_line other value) ≡ known
told-other net other false known differ = ap (λ b. cond b (Some false) known) (is_line-other other net differ)
told-other net other true known differ = ap (λ b. cond b (Some true) known) (is_line-other other net differ)

-- a line that begins with another character tells none
told-none : (c : ℕ) (rest code : List ℕ) (known : Option Bool) → c ≢ 48 → c ≢ 49 → told code known (c ∷ rest) ≡ known
told-none c rest code known not_zero not_one =
    ap (λ b. cond (b && is_line rest code) (Some false) (cond (nat_eq c 49 && is_line rest code) (Some true) known)) (ne_eqb c 48 not_zero)
    ∙ ap (λ b. cond (b && is_line rest code) (Some true) known) (ne_eqb c 49 not_one)

-- a time, as it is told
time_of-line : (t : ℕ) → t < 2 ^ 64 → time_of (time_line t) ≡ Some t
time_of-line t small = ap Some (decimal_is_IsNumeral t small).1

-- ---- a net after changes up to a time

-- later changes change nothing
pub value_at-later : (net time : ℕ) (value : Bool) (last : ℕ) (changes : List ValueChange) → time < last → Rise last changes → value_at net time value changes ≡ value
value_at-later net time value last [] lt rise = refl
value_at-later net time value last (c ∷ changes) lt rise =
    let le : last ≤ c.time = rise.0 in
    let later : nat_lt time c.time ≡ true = grind arith in
    ap (λ b. value_at net time (cond b value (cond (nat_eq c.net net) c.value value)) changes) later
    ∙ value_at-later net time value c.time changes (omega arith) rise.2

-- ---- the lines up to a time

-- a line that is passed
passes : (time : ℕ) (l : List ℕ) (ls : List (List ℕ)) → is_later time l ≡ false → take_while (λ l. not (is_later time l)) (l ∷ ls) ≡ l ∷ take_while (λ l. not (is_later time l)) ls
passes time l ls e = take_while-cons (λ l. not (is_later time l)) l ls ∙ ap (λ b. cond (not b) (l ∷ take_while (λ l. not (is_later time l)) ls) []) e

stops : (time : ℕ) (l : List ℕ) (ls : List (List ℕ)) → is_later time l ≡ true → take_while (λ l. not (is_later time l)) (l ∷ ls) ≡ []
stops time l ls e = take_while-cons (λ l. not (is_later time l)) l ls ∙ ap (λ b. cond (not b) (l ∷ take_while (λ l. not (is_later time l)) ls) []) e

value_line-passes : (time net : ℕ) (value : Bool) → is_later time (value_line net value) ≡ false
value_line-passes time net false = refl
value_line-passes time net true = refl

time_line-later : (time t : ℕ) → t < 2 ^ 64 → is_later time (time_line t) ≡ nat_lt time t
time_line-later time t small = ap (is_after time) (time_of-line t small)

abbrev until : ℕ → List (List ℕ) → List (List ℕ)
until time ls = take_while (λ l. not (is_later time l)) ls

-- the changes, after a time that is no later
pub level-changes : (net time last : ℕ) (value : Bool) (changes : List ValueChange) → last ≤ time → Rise last changes → told_by (identifier_code net) (Some value) (until time (change_lines last changes)) ≡ Some (value_at net time value changes)
level-changes net time last value [] le rise = refl
level-changes net time last value (c ∷ changes) le rise = elim (cases_lt time c.time) [
  | inl later ↦
      let differ : c.time ≢ last = omega arith in
      let test : nat_lt time c.time ≡ true = grind arith in
      ap (λ b. told_by (identifier_code net) (Some value) (until time (cond b [] (time_line c.time ∷ []) ++ value_line c.net c.value ∷ change_lines c.time changes))) (ne_eqb c.time last differ)
      ∙ ap (told_by (identifier_code net) (Some value)) (stops time (time_line c.time) (value_line c.net c.value ∷ change_lines c.time changes) (time_line-later time c.time rise.1 ∙ test))
      ∙ ap Some (sym (value_at-later net time value c.time (c ∷ changes) later ((let e : c.time ≤ c.time = omega arith in e), rise.1, rise.2)))
  | inr now ↦
      let test : nat_lt time c.time ≡ false = grind arith in
      timed now test (nat_eq c.time last) ∙ own now test (level-changes net time c.time (cond (nat_eq c.net net) c.value value) changes now rise.2)
]
  where
    rest : List (List ℕ)
    rest = change_lines c.time changes

    -- the line of the time changes nothing
    timed : c.time ≤ time → nat_lt time c.time ≡ false → (b : Bool) → told_by (identifier_code net) (Some value) (until time (cond b [] (time_line c.time ∷ []) ++ value_line c.net c.value ∷ change_lines c.time changes)) ≡ told_by (identifier_code net) (Some value) (until time (value_line c.net c.value ∷ change_lines c.time changes))
    timed now test true = refl
    timed now test false =
        ap (told_by (identifier_code net) (Some value)) (passes time (time_line c.time) (value_line c.net c.value ∷ change_lines c.time changes) (time_line-later time c.time rise.1 ∙ test))
        ∙ ap (λ known. told_by (identifier_code net) known (until time (value_line c.net c.value ∷ change_lines c.time changes))) (told-none 35 (decimal c.time) (identifier_code net) (Some value) (omega arith) (omega arith))

    changed : told (identifier_code net) (Some value) (value_line c.net c.value) ≡ Some (cond (nat_eq c.net net) c.value value)
    changed = elim (cases_eq c.net net) [
      | inl same ↦
          ap (λ n. told (identifier_code net) (Some value) (value_line n c.value)) same
          ∙ told-own net c.value (Some value)
          ∙ ap (λ b. Some (cond b c.value value)) (sym (eq-eqb c.net net same))
      | inr other ↦ told-other net c.net c.value (Some value) other ∙ ap (λ b. Some (cond b c.value value)) (sym (ne_eqb c.net net other))
    ]

    own : c.time ≤ time → nat_lt time c.time ≡ false → told_by (identifier_code net) (Some (cond (nat_eq c.net net) c.value value)) (until time (change_lines c.time changes)) ≡ Some (value_at net time (cond (nat_eq c.net net) c.value value) changes) → told_by (identifier_code net) (Some value) (until time (value_line c.net c.value ∷ change_lines c.time changes)) ≡ Some (value_at net time (after_change net time value c) changes)
    own now test later =
        ap (told_by (identifier_code net) (Some value)) (passes time (value_line c.net c.value) (change_lines c.time changes) (value_line-passes time c.net c.value))
        ∙ ap (λ known. told_by (identifier_code net) known (until time (change_lines c.time changes))) changed
        ∙ later
        ∙ ap (λ b. Some (value_at net time (cond b value (cond (nat_eq c.net net) c.value value)) changes)) (sym test)

-- ---- the values at time 0

-- the value of the net with a number, where values count on from another
abbrev pub started : ℕ → ℕ → Option Bool → List Bool → Option Bool
started net from known [] = known
started net from known (value ∷ values) = started net (from + 1) (cond (nat_eq from net) (Some value) known) values

-- lines of values tell them, and then come others
level-values : (net time from : ℕ) (known : Option Bool) (values : List Bool) (rest : List (List ℕ)) → told_by (identifier_code net) known (until time (value_lines from values ++ rest)) ≡ told_by (identifier_code net) (started net from known values) (until time rest)
level-values net time from known [] rest = refl
level-values net time from known (value ∷ values) rest =
    ap (told_by (identifier_code net) known) (passes time (value_line from value) (value_lines (from + 1) values ++ rest) (value_line-passes time from value))
    ∙ ap (λ k. told_by (identifier_code net) k (until time (value_lines (from + 1) values ++ rest))) one
    ∙ level-values net time (from + 1) (cond (nat_eq from net) (Some value) known) values rest
  where
    one : told (identifier_code net) known (value_line from value) ≡ cond (nat_eq from net) (Some value) known
    one = elim (cases_eq from net) [
      | inl same ↦
          ap (λ n. told (identifier_code net) known (value_line n value)) same
          ∙ told-own net value known
          ∙ ap (λ b. cond b (Some value) known) (sym (eq-eqb from net same))
      | inr other ↦ told-other net from value known other ∙ ap (λ b. cond b (Some value) known) (sym (ne_eqb from net other))
    ]

started-later : (net from : ℕ) (known : Option Bool) (values : List Bool) → net < from → started net from known values ≡ known
started-later net from known [] lt = refl
started-later net from known (value ∷ values) lt =
    ap (λ b. started net (from + 1) (cond b (Some value) known) values) (ne_eqb from net (omega arith))
    ∙ started-later net (from + 1) known values (omega arith)

started-at : (net from : ℕ) (known : Option Bool) (values : List Bool) (d : Bool) (k : ℕ) → net ≡ from + k → k < length values → started net from known values ≡ Some (get_or values k d)
started-at net from known [] d k at lt = absurd (omega arith)
started-at net from known (value ∷ values) d zero at lt =
    ap (λ b. started net (from + 1) (cond b (Some value) known) values) (eq-eqb from net (omega arith))
    ∙ started-later net (from + 1) (Some value) values (omega arith)
started-at net from known (value ∷ values) d (suc k) at lt =
    ap (λ b. started net (from + 1) (cond b (Some value) known) values) (ne_eqb from net (omega arith))
    ∙ started-at net (from + 1) known values d k (omega arith) (omega arith)

-- ---- the lines of the text

one_line-append : (xs ys : List ℕ) → IsOneLine xs → IsOneLine ys → IsOneLine (xs ++ ys)
one_line-append [] ys all more = more
one_line-append (x ∷ xs) ys all more = (all.0, one_line-append xs ys all.1 more)

one_line-prints : (l : List ℕ) → AllByRecursion (λ c. (33 ≤ c) × (c ≤ 126)) l → IsOneLine l
one_line-prints [] all = tt
one_line-prints (x ∷ xs) all = let le : 33 ≤ x = all.0.0 in ((λ e. let f : x ≡ 10 = e in omega arith), one_line-prints xs all.1)

-- a line is read whole
lines_from-line : (read l text : List ℕ) → IsOneLine l → lines_from read ((l ++ 10 ∷ []) ++ text) ≡ (read ++ l) ∷ lines_from [] text
lines_from-line read [] text all = ap (λ r. r ∷ lines_from [] text) (sym (append-nil read))
lines_from-line read (x ∷ l) text all =
    ap (λ b. cond b (read ∷ lines_from [] ((l ++ 10 ∷ []) ++ text)) (lines_from (read ++ x ∷ []) ((l ++ 10 ∷ []) ++ text))) (ne_eqb x 10 all.0)
    ∙ lines_from-line (read ++ x ∷ []) l text all.1
    ∙ ap (λ r. r ∷ lines_from [] text) (append_assoc read (x ∷ []) l)

lines_of-lines : (ls : List (List ℕ)) → AllByRecursion IsOneLine ls → lines_of (flat_map line ls) ≡ ls
lines_of-lines [] all = refl
lines_of-lines (l ∷ ls) all = lines_from-line [] l (flat_map line ls) all.0 ∙ ap (λ rest. l ∷ rest) (lines_of-lines ls all.1)

all-append : (ls more : List (List ℕ)) → AllByRecursion IsOneLine ls → AllByRecursion IsOneLine more → AllByRecursion IsOneLine (ls ++ more)
all-append [] more all rest = rest
all-append (l ∷ ls) more all rest = (all.0, all-append ls more all.1 rest)

-- the characters of a number are digits
one_line-digits : (l : List ℕ) → AllDigits 10 l → IsOneLine l
one_line-digits [] all = tt
one_line-digits (x ∷ xs) all = ((λ e. let lt : digit_value x < 10 = all.0 in let v : digit_value x ≡ 36 = ap digit_value e in omega arith), one_line-digits xs all.1)

one_line-time : (t : ℕ) → t < 2 ^ 64 → IsOneLine (time_line t)
one_line-time t small = ((λ e. let f : 35 ≡ 10 = e in omega arith), one_line-digits (decimal t) (decimal_is_IsNumeral t small).0.1)

one_line-value : (net : ℕ) (value : Bool) → IsOneLine (value_line net value)
one_line-value net false = ((λ e. let f : 48 ≡ 10 = e in omega arith), one_line-prints (identifier_code net) (code-prints net))
one_line-value net true = ((λ e. let f : 49 ≡ 10 = e in omega arith), one_line-prints (identifier_code net) (code-prints net))

-- a text that computes has no line feed where a test says so

abbrev is_one_line : List ℕ → Bool
is_one_line [] = true
is_one_line (x ∷ xs) = not (nat_eq x 10) && is_one_line xs

one_line-from_test : (l : List ℕ) → is_one_line l ≡ true → IsOneLine l
one_line-from_test [] e = tt
one_line-from_test (x ∷ xs) e =
    let (first, rest) = and_parts (not (nat_eq x 10)) (is_one_line xs) e in
    ((λ same. both_ways (nat_eq x 10) (not-true (nat_eq x 10) first) (eq-eqb x 10 same)), one_line-from_test xs rest)

one_line-net : (net : ℕ) (name : List ℕ) → IsOneLine name → IsOneLine (variable_line net name)
one_line-net net name all =
    one_line-append (codes "$var wire 1 " ++ identifier_code net ++ codes " " ++ name) (codes " $end")
    (one_line-append (codes "$var wire 1 " ++ identifier_code net ++ codes " ") name
    (one_line-append (codes "$var wire 1 " ++ identifier_code net) (codes " ")
    (one_line-append (codes "$var wire 1 ") (identifier_code net) (one_line-from_test (codes "$var wire 1 ") refl) (one_line-prints (identifier_code net) (code-prints net)))
    (one_line-from_test (codes " ") refl)) all)
    (one_line-from_test (codes " $end") refl)

one_line-nets : (from : ℕ) (names : List (List ℕ)) → AllByRecursion IsOneLine names → AllByRecursion IsOneLine (variable_lines from names)
one_line-nets from [] all = tt
one_line-nets from (name ∷ names) all = (one_line-net from name all.0, one_line-nets (from + 1) names all.1)

one_line-values : (from : ℕ) (values : List Bool) → AllByRecursion IsOneLine (value_lines from values)
one_line-values from [] = tt
one_line-values from (value ∷ values) = (one_line-value from value, one_line-values (from + 1) values)

one_line-changes : (last : ℕ) (changes : List ValueChange) → Rise last changes → AllByRecursion IsOneLine (change_lines last changes)
one_line-changes last [] rise = tt
one_line-changes last (c ∷ changes) rise = by (nat_eq c.time last) (one_line-value c.net c.value, one_line-changes c.time changes rise.2)
  where
    by : (b : Bool) → AllByRecursion IsOneLine (value_line c.net c.value ∷ change_lines c.time changes) → AllByRecursion IsOneLine (cond b [] (time_line c.time ∷ []) ++ value_line c.net c.value ∷ change_lines c.time changes)
    by true rest = rest
    by false rest = (one_line-time c.time rise.1, rest)

-- ---- the whole dump

-- lines that begin with `$` tell no time
header-until : (time : ℕ) (ls rest : List (List ℕ)) → AllByRecursion (λ l. time_of l ≡ None) ls → until time (ls ++ rest) ≡ ls ++ until time rest
header-until time [] rest all = refl
header-until time (l ∷ ls) rest all = passes time l (ls ++ rest) (ap (is_after time) all.0) ∙ ap (λ more. l ∷ more) (header-until time ls rest all.1)

header-from : (ls rest : List (List ℕ)) → AllByRecursion (λ l. time_of l ≡ None) ls → from_time (ls ++ rest) ≡ from_time rest
header-from [] rest all = refl
header-from (l ∷ ls) rest all = ap (λ o. cond (is_time o) (l ∷ ls ++ rest) (from_time (ls ++ rest))) all.0 ∙ header-from ls rest all.1

untimed-append : (ls more : List (List ℕ)) → AllByRecursion (λ l. time_of l ≡ None) ls → AllByRecursion (λ l. time_of l ≡ None) more → AllByRecursion (λ l. time_of l ≡ None) (ls ++ more)
untimed-append [] more all rest = rest
untimed-append (l ∷ ls) more all rest = (all.0, untimed-append ls more all.1 rest)

untimed-nets : (from : ℕ) (names : List (List ℕ)) → AllByRecursion (λ l. time_of l ≡ None) (variable_lines from names)
untimed-nets from [] = tt
untimed-nets from (name ∷ names) = (refl, untimed-nets (from + 1) names)

untimed-header : (name : List ℕ) (nets : List (List ℕ)) → AllByRecursion (λ l. time_of l ≡ None) (declaration_lines name nets)
untimed-header name nets = (refl, (refl, untimed-append (variable_lines 0 nets) (codes "$upscope $end" ∷ codes "$enddefinitions $end" ∷ []) (untimed-nets 0 nets) (refl, (refl, tt))))

one_line-header : (name : List ℕ) (nets : List (List ℕ)) → IsOneLine name → AllByRecursion IsOneLine nets → AllByRecursion IsOneLine (declaration_lines name nets)
one_line-header name nets module_name names = (
  one_line-from_test (codes "$timescale 1 ns $end") refl,
  (
    one_line-append (codes "$scope module " ++ name) (codes " $end") (one_line-append (codes "$scope module ") name (one_line-from_test (codes "$scope module ") refl) module_name) (one_line-from_test (codes " $end") refl),
    all-append (variable_lines 0 nets) (codes "$upscope $end" ∷ codes "$enddefinitions $end" ∷ []) (one_line-nets 0 nets names) (one_line-from_test (codes "$upscope $end") refl, (one_line-from_test (codes "$enddefinitions $end") refl, tt)),
  ),
)

one_line-start : (values : List Bool) → AllByRecursion IsOneLine (initial_lines values)
one_line-start values = (
  one_line-time 0 (omega arith),
  (
    one_line-from_test (codes "$dumpvars") refl,
    all-append (value_lines 0 values) (codes "$end" ∷ []) (one_line-values 0 values) (one_line-from_test (codes "$end") refl, tt),
  ),
)

-- after the header comes time 0 with the values, and then the changes
level-start : (net time : ℕ) (values : List Bool) (d : Bool) (changes : List ValueChange) → net < length values → Rise 0 changes → told_by (identifier_code net) None (from_time (until time (initial_lines values ++ change_lines 0 changes))) ≡ Some (value_at net time (get_or values net d) changes)
level-start net time values d changes lt rise =
    ap (λ ls. told_by (identifier_code net) None (from_time ls)) (passes time (time_line 0) rest (time_line-later time 0 (omega arith) ∙ (let e : nat_lt time 0 ≡ false = grind arith in e)))
    ∙ ap (λ o. told_by (identifier_code net) None (cond (is_time o) (time_line 0 ∷ until time rest) (from_time (until time rest)))) (time_of-line 0 (omega arith))
    ∙ ap (λ known. told_by (identifier_code net) known (until time rest)) (told-none 35 (decimal 0) (identifier_code net) None (omega arith) (omega arith))
    ∙ ap (told_by (identifier_code net) None) (passes time (codes "$dumpvars") others refl)
    ∙ ap (λ known. told_by (identifier_code net) known (until time others)) (told-none 36 (codes "dumpvars") (identifier_code net) None (omega arith) (omega arith))
    ∙ ap (λ ls. told_by (identifier_code net) None (until time ls)) (append_assoc (value_lines 0 values) (codes "$end" ∷ []) (change_lines 0 changes))
    ∙ level-values net time 0 None values (codes "$end" ∷ change_lines 0 changes)
    ∙ ap (λ known. told_by (identifier_code net) known (until time (codes "$end" ∷ change_lines 0 changes))) (started-at net 0 None values d net (omega arith) lt)
    ∙ ap (told_by (identifier_code net) (Some (get_or values net d))) (passes time (codes "$end") (change_lines 0 changes) refl)
    ∙ ap (λ known. told_by (identifier_code net) known (until time (change_lines 0 changes))) (told-none 36 (codes "end") (identifier_code net) (Some (get_or values net d)) (omega arith) (omega arith))
    ∙ level-changes net time 0 (get_or values net d) changes (omega arith) rise
  where
    others : List (List ℕ)
    others = (value_lines 0 values ++ codes "$end" ∷ []) ++ change_lines 0 changes

    rest : List (List ℕ)
    rest = codes "$dumpvars" ∷ (value_lines 0 values ++ codes "$end" ∷ []) ++ change_lines 0 changes

-- the law of levels
pub level-is : (name : List ℕ) (nets : List (List ℕ)) (values : List Bool) (changes : List ValueChange) → IsOneLine name → AllByRecursion IsOneLine nets → Rise 0 changes → (net time : ℕ) (d : Bool) → net < length values → level (dump_text name nets values changes) (identifier_code net) time ≡ Some (value_at net time (get_or values net d) changes)
level-is name nets values changes module_name names rise net time d lt =
    ap (λ ls. told_by (identifier_code net) None (from_time (until time ls)))
    (lines_of-lines (dump_lines name nets values changes) (all-append (declaration_lines name nets ++ initial_lines values) (change_lines 0 changes) (all-append (declaration_lines name nets) (initial_lines values) (one_line-header name nets module_name names) (one_line-start values)) (one_line-changes 0 changes rise)) ∙ append_assoc (declaration_lines name nets) (initial_lines values) (change_lines 0 changes))
    ∙ ap (λ ls. told_by (identifier_code net) None (from_time ls)) (header-until time (declaration_lines name nets) (initial_lines values ++ change_lines 0 changes) (untimed-header name nets))
    ∙ ap (told_by (identifier_code net) None) (header-from (declaration_lines name nets) (until time (initial_lines values ++ change_lines 0 changes)) (untimed-header name nets))
    ∙ level-start net time values d changes lt rise
