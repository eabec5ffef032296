-- Rows that are read one after another.
use Rattle.ncl_blif.proofs.Terms.{BadRow, BlifFault, Bool, LineData, List, Lit, MixedCover, None, Option, Some, [], and_parts, ap, arith, at_drop_more, beq, bytes_eq, bytes_eq-Decides, codes, cover_ins, drop, drop_all, eqb, false, false_from_ne_true, first_row_fault, get_or, inl, inr, is_literal, is_names, is_on, is_row_of, is_value, last_field, length, list_all, lists_on, lits_of, map, map_more, not, or_cases, pattern_of, refl, row_fault, rows_fault, suc, sym, take, take_all, true, zero, ℕ, ◌&&◌, ◌++◌, ◌+◌, ◌<◌, ◌∙◌, ◌∷◌, ◌≡◌, ◌≤◌, ◌⊎◌}

-- the value of a row is 0 or 1
pub row_value : (inputs : ℕ) (fields : List (List ℕ)) → is_row_of inputs fields ≡ true → is_value (last_field fields) ≡ true
row_value zero fields is = (and_parts (eqb (length fields) 1) (is_value (last_field fields)) is).1
row_value (suc n) fields is =
    (and_parts (eqb (length fields) 2 && (eqb (length (pattern_of fields)) (suc n) && list_all is_literal (pattern_of fields))) (is_value (last_field fields)) is).1

-- a field that is 0 or 1 is one of them
value_cases : (field : List ℕ) → is_value field ≡ true → (field ≡ codes "0") ⊎ (field ≡ codes "1")
value_cases field is = elim (or_cases (bytes_eq field (codes "0")) (bytes_eq field (codes "1")) is) [
  | inl e ↦ inl ((bytes_eq-Decides field (codes "0")).0 e)
  | inr e ↦ inr ((bytes_eq-Decides field (codes "1")).0 e)
]

-- two values are the same where both are 1 or both are not
values_same : (v w : List ℕ) → is_value v ≡ true → is_value w ≡ true → bytes_eq v (codes "1") ≡ bytes_eq w (codes "1") → bytes_eq v w ≡ true
values_same v w is_v is_w same = elim (value_cases v is_v) [
  | inl zero_v ↦ elim (value_cases w is_w) [
    | inl zero_w ↦ (bytes_eq-Decides v w).1 (zero_v ∙ sym zero_w)
    | inr one_w ↦ absurd (let mixed : false ≡ true = ap (λ x. bytes_eq x (codes "1")) (sym zero_v) ∙ same ∙ ap (λ x. bytes_eq x (codes "1")) one_w in cc)
  ]
  | inr one_v ↦ elim (value_cases w is_w) [
    | inl zero_w ↦ absurd (let mixed : true ≡ false = ap (λ x. bytes_eq x (codes "1")) (sym one_v) ∙ same ∙ ap (λ x. bytes_eq x (codes "1")) zero_w in cc)
    | inr one_w ↦ (bytes_eq-Decides v w).1 (one_v ∙ sym one_w)
  ]
]

values_differ : (v w : List ℕ) → (bytes_eq v (codes "1") ≡ bytes_eq w (codes "1") → ⊥) → bytes_eq v w ≡ false
values_differ v w differ = false_from_ne_true (bytes_eq v w) (λ e. differ (ap (λ x. bytes_eq x (codes "1")) ((bytes_eq-Decides v w).0 e)))

-- the first fault of the rest of a cover's rows
abbrev pub fault_from : ℕ → List LineData → List LineData → Option BlifFault
fault_from inputs [] rest = None
fault_from inputs (first ∷ lines) rest = first_row_fault inputs first rest

pub rows_fault-is : (head : LineData) (inputs : ℕ) (lines : List LineData) → is_names head ≡ true → inputs ≡ length (cover_ins head) → rows_fault head lines ≡ fault_from inputs lines lines
rows_fault-is head inputs [] names count = refl
rows_fault-is head inputs (row ∷ rows) names count = rw names (ap (λ n. first_row_fault n row (row ∷ rows)) (sym count))

-- the value that the first row ends with
abbrev pub first_value : List LineData → List ℕ
first_value [] = []
first_value (first ∷ lines) = last_field first.fields

-- the first n rows are read
pub record AreRead (inputs : ℕ) (lines : List LineData) (n : ℕ) (rows : List (List Lit)) (on : Bool) : Type 0 where
  pub lits : rows ≡ map (λ line. lits_of line.fields) (take n lines)
  pub fault : fault_from inputs lines lines ≡ fault_from inputs lines (drop n lines)
  pub value : 0 < n → is_value (first_value lines) ≡ true
  pub lists : on ≡ lists_on lines

-- what the rows that are left break, where the next is one and ends as the first, and where it doesn't
fault-more : (inputs : ℕ) (lines : List LineData) (n : ℕ) (d : LineData) → n < length lines → fault_from inputs lines (drop n lines) ≡ fault_from inputs lines (get_or lines n d ∷ drop (n + 1) lines)
fault-more inputs lines n d lt = at_drop_more (fault_from inputs lines) lines n d lt

-- the fault of a row is that of the rows from it on
fault-found : (inputs : ℕ) (lines rest : List LineData) (row : LineData) (fault : BlifFault) → 0 < length lines → ((first : LineData) → last_field first.fields ≡ first_value lines → row_fault inputs first row ≡ Some fault) → fault_from inputs lines (row ∷ rest) ≡ Some fault
fault-found inputs [] rest row fault some is = absurd (omega arith)
fault-found inputs (first ∷ lines) rest row fault some is = rw (is first refl)

fault-passed : (inputs : ℕ) (lines rest : List LineData) (row : LineData) → 0 < length lines → ((first : LineData) → last_field first.fields ≡ first_value lines → row_fault inputs first row ≡ None) → fault_from inputs lines (row ∷ rest) ≡ fault_from inputs lines rest
fault-passed inputs [] rest row some is = absurd (omega arith)
fault-passed inputs (first ∷ lines) rest row some is = rw (is first refl)

lists-first : (lines : List LineData) → 0 < length lines → lists_on lines ≡ bytes_eq (first_value lines) (codes "1")
lists-first [] some = absurd (omega arith)
lists-first (first ∷ lines) some = refl

-- after n rows that are read the next is the first of all, or the first is 0 or 1
first-value : (inputs : ℕ) (lines : List LineData) (n : ℕ) (rows : List (List Lit)) (on : Bool) (line : LineData) → AreRead inputs lines n rows on → n < length lines → line ≡ get_or lines n line → is_row_of inputs line.fields ≡ true → is_value (first_value lines) ≡ true
first-value inputs [] n rows on line read lt at is = absurd (omega arith)
first-value inputs (first ∷ lines) zero rows on line read lt at is = rw (sym at) (row_value inputs line.fields is)
first-value inputs (first ∷ lines) (suc n) rows on line read lt at is = read.value (omega arith)

row_fault-none : (inputs : ℕ) (first row : LineData) → is_row_of inputs row.fields ≡ true → bytes_eq (last_field row.fields) (last_field first.fields) ≡ true → row_fault inputs first row ≡ None
row_fault-none inputs first row is same = rw (is, same)

row_fault-bad : (inputs : ℕ) (first row : LineData) → is_row_of inputs row.fields ≡ false → row_fault inputs first row ≡ Some (BadRow row.number)
row_fault-bad inputs first row is = rw is

row_fault-mixed : (inputs : ℕ) (first row : LineData) → is_row_of inputs row.fields ≡ true → bytes_eq (last_field row.fields) (last_field first.fields) ≡ false → row_fault inputs first row ≡ Some (MixedCover row.number)
row_fault-mixed inputs first row is differs = rw (is, differs)

-- one more row is read
pub read-more : (inputs : ℕ) (lines : List LineData) (n : ℕ) (rows : List (List Lit)) (on : Bool) (line : LineData) (row : List Lit) → AreRead inputs lines n rows on → n < length lines → line ≡ get_or lines n line → is_row_of inputs line.fields ≡ true → row ≡ lits_of line.fields → is_on line ≡ on → AreRead inputs lines (n + 1) (rows ++ row ∷ []) on
read-more inputs lines n rows on line row read lt at is lits ends =
    let value = first-value inputs lines n rows on line read lt at is in
    let some : 0 < length lines = omega arith in
    let same : bytes_eq (last_field line.fields) (first_value lines) ≡ true =
    values_same (last_field line.fields) (first_value lines) (row_value inputs line.fields is) value (ends ∙ read.lists ∙ lists-first lines some) in
    let passed : (first : LineData) → last_field first.fields ≡ first_value lines → row_fault inputs first line ≡ None =
    λ first e. row_fault-none inputs first line is (ap (bytes_eq (last_field line.fields)) e ∙ same) in
    record {
      lits = ap (λ rs. rs ++ row ∷ []) read.lits ∙ ap (λ r. map (λ line. lits_of line.fields) (take n lines) ++ r ∷ []) (lits ∙ ap (λ (l : LineData). lits_of l.fields) at)
          ∙ sym (map_more (λ line. lits_of line.fields) lines n line lt);
      fault = read.fault ∙ fault-more inputs lines n line lt ∙ ap (λ l. fault_from inputs lines (l ∷ drop (n + 1) lines)) (sym at) ∙ fault-passed inputs lines (drop (n + 1) lines) line some passed;
      value = λ more. value;
      lists = read.lists;
    }

-- the next row is none
pub read-bad : (inputs : ℕ) (lines : List LineData) (n : ℕ) (rows : List (List Lit)) (on : Bool) (line : LineData) → AreRead inputs lines n rows on → n < length lines → line ≡ get_or lines n line → is_row_of inputs line.fields ≡ false → fault_from inputs lines lines ≡ Some (BadRow line.number)
read-bad inputs lines n rows on line read lt at is =
    read.fault ∙ fault-more inputs lines n line lt ∙ ap (λ l. fault_from inputs lines (l ∷ drop (n + 1) lines)) (sym at)
    ∙ fault-found inputs lines (drop (n + 1) lines) line (BadRow line.number) (omega arith) (λ first e. row_fault-bad inputs first line is)

-- the next row ends otherwise than the first
pub read-mixed : (inputs : ℕ) (lines : List LineData) (n : ℕ) (rows : List (List Lit)) (on : Bool) (line : LineData) → AreRead inputs lines n rows on → n < length lines → line ≡ get_or lines n line → is_row_of inputs line.fields ≡ true → (is_on line ≡ on → ⊥) → fault_from inputs lines lines ≡ Some (MixedCover line.number)
read-mixed inputs lines n rows on line read lt at is ends =
    let some : 0 < length lines = omega arith in
    let differs : bytes_eq (last_field line.fields) (first_value lines) ≡ false =
    values_differ (last_field line.fields) (first_value lines) (λ e. ends (e ∙ sym (read.lists ∙ lists-first lines some))) in
    read.fault ∙ fault-more inputs lines n line lt ∙ ap (λ l. fault_from inputs lines (l ∷ drop (n + 1) lines)) (sym at)
    ∙ fault-found inputs lines (drop (n + 1) lines) line (MixedCover line.number) some (λ first e. row_fault-mixed inputs first line is (ap (bytes_eq (last_field line.fields)) e ∙ differs))

fault-end : (inputs : ℕ) (lines : List LineData) → fault_from inputs lines [] ≡ None
fault-end inputs [] = refl
fault-end inputs (first ∷ lines) = refl

-- all rows are read
pub read-all : (head : LineData) (inputs : ℕ) (lines : List LineData) (n : ℕ) (rows : List (List Lit)) (on : Bool) → is_names head ≡ true → inputs ≡ length (cover_ins head) → AreRead inputs lines n rows on → length lines ≤ n
    → (rows_fault head lines ≡ None) × (rows ≡ map (λ line. lits_of line.fields) lines) × (on ≡ lists_on lines)
read-all head inputs lines n rows on names count read all = (
  rows_fault-is head inputs lines names count ∙ read.fault ∙ ap (fault_from inputs lines) (drop_all n lines all) ∙ fault-end inputs lines,
  read.lits ∙ ap (map (λ line. lits_of line.fields)) (take_all n lines all),
  read.lists,
)

-- what a test of two bits for being apart says
pub bits-same : (a b : Bool) → not (beq a b) ≡ false → a ≡ b
bits-same true true e = refl
bits-same true false e = absurd cc
bits-same false true e = absurd cc
bits-same false false e = refl

pub bits-differ : (a b : Bool) → not (beq a b) ≡ true → a ≡ b → ⊥
bits-differ true true e = λ same. absurd cc
bits-differ true false e = λ same. absurd cc
bits-differ false true e = λ same. absurd cc
bits-differ false false e = λ same. absurd cc
