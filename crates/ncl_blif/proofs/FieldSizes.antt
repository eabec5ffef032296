-- How many fields a line has, and how long they are: no more than its text.
use Rattle.ncl_blif.proofs.Terms.{Bool, LineData, List, NumberedText, [], ap, arith, blank_at_end, cond, count_by-le-length, eqb, false, fields_of, filter, filter-append, front_fields, get_or, in_fields, inl, inr, is_blank, is_continued, joined, last_field, last_of, length, length-append, length-filter, length-take, lines, lines_of, lines_of_parts, ltb, ltb-true, map, max, onto_first, pattern_of, position_or_len, put_before, refl, slice_split, strip_carriage_return, sum_by, sum_by-cons, sum_by_push, sym, take, true, uncommented, ℕ, ◌++◌, ◌+◌, ◌-◌, ◌<◌, ◌∙◌, ◌∷◌, ◌≡◌, ◌≤◌}
use Rattle.ncl_blif.proofs.Names.{last_field-end, front_fields-end}

-- how long some texts are together
abbrev pub bytes_in : List (List ℕ) → ℕ
bytes_in texts = sum_by length texts

onto-size : (x : ℕ) (parts : List (List ℕ)) → bytes_in (onto_first x parts) ≡ 1 + bytes_in parts
onto-size x [] = refl
onto-size x (part ∷ parts) = omega (arith, sum_by-cons length (x ∷ part) parts, sum_by-cons length part parts)

-- the parts of a text are no longer than it
split-size : (p : ℕ → Bool) (text : List ℕ) → bytes_in (slice_split p text) ≤ length text
split-size p [] = omega arith
split-size p (x ∷ xs) =
    let rest : bytes_in (slice_split p xs) ≤ length xs = split-size p xs in
    elim (p x) as (λ b. bytes_in (cond b ([] ∷ slice_split p xs) (onto_first x (slice_split p xs))) ≤ length (x ∷ xs)) [
      | true ↦ omega (arith, sum_by-cons length [] (slice_split p xs))
      | false ↦ omega (arith, onto-size x (slice_split p xs))
    ]

-- what a filter keeps is no more
pub filter-size : {X : Type 0} (f : X → ℕ) (p : X → Bool) (xs : List X) → sum_by f (filter p xs) ≤ sum_by f xs
filter-size f p [] = omega arith
filter-size f p (x ∷ xs) =
    let rest : sum_by f (filter p xs) ≤ sum_by f xs = filter-size f p xs in
    elim (p x) as (λ b. sum_by f (cond b (x ∷ filter p xs) (filter p xs)) ≤ sum_by f (x ∷ xs)) [
      | true ↦ omega (arith, sum_by-cons f x (filter p xs), sum_by-cons f x xs)
      | false ↦ omega (arith, sum_by-cons f x xs)
    ]

-- whether a text isn't empty
abbrev some_bytes : List ℕ → Bool
some_bytes field = ltb 0 (length field)

filter-twice : {X : Type 0} (p : X → Bool) (xs : List X) → filter p (filter p xs) ≡ filter p xs
filter-twice p [] = refl
filter-twice p (x ∷ xs) = step (p x) refl (filter-twice p xs)
  where
    step : (b : Bool) → p x ≡ b → filter p (filter p xs) ≡ filter p xs → filter p (cond b (x ∷ filter p xs) (filter p xs)) ≡ cond b (x ∷ filter p xs) (filter p xs)
    step true is rest = rw (is, rest)
    step false is rest = rest

-- there are no more fields than bytes in them
fields-count : (xs : List (List ℕ)) → length (filter some_bytes xs) ≤ bytes_in (filter some_bytes xs)
fields-count [] = omega arith
fields-count (x ∷ xs) = step (some_bytes x) refl (fields-count xs)
  where
    step : (b : Bool) → some_bytes x ≡ b → length (filter some_bytes xs) ≤ bytes_in (filter some_bytes xs) → length (cond b (x ∷ filter some_bytes xs) (filter some_bytes xs)) ≤ bytes_in (cond b (x ∷ filter some_bytes xs) (filter some_bytes xs))
    step true is rest = omega (arith, ltb-true 0 (length x) is, sum_by-cons length x (filter some_bytes xs))
    step false is rest = rest

-- the last of fields isn't empty
last-some : (front : List (List ℕ)) (last : List ℕ) → filter some_bytes (front ++ last ∷ []) ≡ front ++ last ∷ [] → 0 < length last
last-some front [] kept =
    let fewer : length (filter some_bytes (front ++ [] ∷ [])) ≡ length (filter some_bytes front) = ap length (filter-append some_bytes front ([] ∷ [])) ∙ (omega (arith, length-append (filter some_bytes front) [])) in
    absurd (omega (arith, fewer, ap length kept, length-append front ([] ∷ []), length-filter some_bytes front, count_by-le-length some_bytes front))
last-some front (b ∷ bs) kept = omega arith

-- a row's characters and its value are no longer than its fields
pattern-size : (fields : List (List ℕ)) → filter some_bytes fields ≡ fields → 0 < length fields → 1 + length (pattern_of fields) ≤ bytes_in fields
pattern-size fields kept some = elim (last_of fields) [
  | inl none ↦ absurd (omega (arith, ap length none))
  | inr found ↦ by_last found.0 found.1 found.2
]
  where
    by_last : (front : List (List ℕ)) (last : List ℕ) → fields ≡ front ++ last ∷ [] → 1 + length (pattern_of fields) ≤ bytes_in fields
    by_last front last is =
        let bytes : 0 < length last = last-some front last (sym (ap (filter some_bytes) is) ∙ kept ∙ is) in
        let before : pattern_of fields ≡ last_field front = ap last_field (ap front_fields is ∙ front_fields-end front last) in
        let all : bytes_in fields ≡ bytes_in front + length last = ap bytes_in is ∙ sum_by_push length front last in
        elim (last_of front) [
          | inl none ↦ omega (arith, ap length before, ap (λ ws. length (last_field ws)) none)
          | inr found ↦ omega (arith, ap length before, ap (λ ws. length (last_field ws)) found.2, ap length (last_field-end found.0 found.1), ap bytes_in found.2, sum_by_push length found.0 found.1)
        ]

-- a line's share: what it can add to a model
abbrev pub share : LineData → ℕ
share line = max (length line.fields) (1 + length (pattern_of line.fields))

-- a line's share is no more than its text has bytes
line-share : (line : NumberedText) → 0 < length (fields_of line.text) → share (in_fields line) ≤ length line.text
line-share line some =
    let all : bytes_in (fields_of line.text) ≤ length line.text = let kept = filter-size length some_bytes (slice_split is_blank line.text) in let parts = split-size is_blank line.text in omega arith in
    let count : length (fields_of line.text) ≤ bytes_in (fields_of line.text) = fields-count (slice_split is_blank line.text) in
    let pattern = pattern-size (fields_of line.text) (filter-twice some_bytes (slice_split is_blank line.text)) some in
    omega arith

put-size : (part : NumberedText) (rest : List NumberedText) → sum_by (λ line. length line.text) (put_before part rest) ≡ length part.text + sum_by (λ line. length line.text) rest
put-size part [] = omega arith
put-size part (line ∷ rest) =
    omega (arith, sum_by-cons (λ line. length line.text) (record { number = part.number; text = part.text ++ line.text }) rest, sum_by-cons (λ line. length line.text) line rest, length-append part.text line.text)

blank-size : (text : List ℕ) → is_continued text ≡ true → length (blank_at_end text) ≤ length text
blank-size [] mark = absurd cc
blank-size (b ∷ bs) mark = omega (arith, length-append (take (length (b ∷ bs) - 1) (b ∷ bs)) (32 ∷ []), length-take (length (b ∷ bs) - 1) (b ∷ bs))

joined-size : (number : ℕ) (texts : List (List ℕ)) → sum_by (λ line. length line.text) (joined number texts) ≤ bytes_in texts
joined-size number [] = omega arith
joined-size number (text ∷ texts) = step (is_continued text) refl (joined-size (number + 1) texts)
  where
    step : (b : Bool) → is_continued text ≡ b → sum_by (λ line. length line.text) (joined (number + 1) texts) ≤ bytes_in texts
        → sum_by (λ line. length line.text) (cond b (put_before (record { number = number; text = blank_at_end text }) (joined (number + 1) texts)) (record { number = number; text = text } ∷ joined (number + 1) texts)) ≤ bytes_in (text ∷ texts)
    step true is rest = omega (arith, put-size (record { number = number; text = blank_at_end text }) (joined (number + 1) texts), blank-size text is, sum_by-cons length text texts)
    step false is rest = omega (arith, sum_by-cons (λ line. length line.text) (record { number = number; text = text }) (joined (number + 1) texts), sum_by-cons length text texts)

comments-size : (texts : List (List ℕ)) → bytes_in (map uncommented texts) ≤ bytes_in texts
comments-size [] = omega arith
comments-size (text ∷ texts) =
    let rest : bytes_in (map uncommented texts) ≤ bytes_in texts = comments-size texts in
    omega (arith, sum_by-cons length (uncommented text) (map uncommented texts), sum_by-cons length text texts, length-take (position_or_len (λ b. eqb b 35) text) text)

strip-size : (line : List ℕ) → length (strip_carriage_return line) ≤ length line
strip-size line = elim (eqb (get_or line (length line - 1) 0) 13) as (λ b. length (cond b (take (length line - 1) line) line) ≤ length line) [ true ↦ omega (arith, length-take (length line - 1) line) | false ↦ omega arith ]

lines-size : (parts : List (List ℕ)) → bytes_in (lines_of_parts parts) ≤ bytes_in parts
lines-size [] = omega arith
lines-size (x ∷ []) = elim (eqb (length x) 0) as (λ b. bytes_in (cond b [] (x ∷ [])) ≤ bytes_in (x ∷ [])) [ true ↦ omega arith | false ↦ omega arith ]
lines-size (x ∷ y ∷ more) =
    let rest : bytes_in (lines_of_parts (y ∷ more)) ≤ bytes_in (y ∷ more) = lines-size (y ∷ more) in
    omega (arith, sum_by-cons length (strip_carriage_return x) (lines_of_parts (y ∷ more)), sum_by-cons length x (y ∷ more), strip-size x)

shares-size : (texts : List NumberedText) → sum_by share (filter (λ line. ltb 0 (length line.fields)) (map in_fields texts)) ≤ sum_by (λ line. length line.text) texts
shares-size [] = omega arith
shares-size (text ∷ texts) = step (ltb 0 (length (fields_of text.text))) refl (shares-size texts)
  where
    step : (b : Bool) → ltb 0 (length (fields_of text.text)) ≡ b → sum_by share (filter (λ line. ltb 0 (length line.fields)) (map in_fields texts)) ≤ sum_by (λ line. length line.text) texts
        → sum_by share (cond b (in_fields text ∷ filter (λ line. ltb 0 (length line.fields)) (map in_fields texts)) (filter (λ line. ltb 0 (length line.fields)) (map in_fields texts))) ≤ sum_by (λ line. length line.text) (text ∷ texts)
    step true is rest = omega (arith, sum_by-cons share (in_fields text) (filter (λ line. ltb 0 (length line.fields)) (map in_fields texts)), sum_by-cons (λ line. length line.text) text texts, line-share text (ltb-true 0 (length (fields_of text.text)) is))
    step false is rest = omega (arith, sum_by-cons (λ line. length line.text) text texts)

-- the shares of the lines of a text are together no more than its bytes
pub lines_of-size : (text : List ℕ) → sum_by share (lines_of text) ≤ length text
lines_of-size text =
    let feed : List (List ℕ) = slice_split (λ b. eqb b 10) text in
    let one = split-size (λ b. eqb b 10) text in
    let two = lines-size feed in
    let three = comments-size (lines text) in
    let four = joined-size 1 (map uncommented (lines text)) in
    let five = shares-size (joined 1 (map uncommented (lines text))) in
    omega arith
