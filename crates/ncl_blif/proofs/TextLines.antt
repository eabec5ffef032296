-- The first line of a text, and what is left after it.
use Rattle.ncl_blif.proofs.Terms.{Bool, LineData, List, NumberedText, [], after_first, ap, append_assoc, arith, before_first, blank_at_end, cases_lt, cond, eqb, false, fields_of, in_fields, inl, inr, is_continued, joined, length, length-append, lines, lines_of_parts, map, ne_eqb, not, onto_first, position_or_len, put_before, refl, slice_split, slice_split_first, strip_carriage_return, sym, take-append-le, take_all, true, uncommented, ℕ, ◌++◌, ◌+◌, ◌-◌, ◌<◌, ◌∙◌, ◌∷◌, ◌≡◌, ◌≤◌}
use Rattle.ncl_blif.proofs.TextFields.{split-some, fields_of-append, fields_of-end}

lines_of_parts-cons : (x : List ℕ) (parts : List (List ℕ)) → 0 < length parts → lines_of_parts (x ∷ parts) ≡ strip_carriage_return x ∷ lines_of_parts parts
lines_of_parts-cons x [] some = absurd (omega arith)
lines_of_parts-cons x (part ∷ parts) some = refl

abbrev pub is_feed : ℕ → Bool
is_feed b = eqb b 10

-- a text with a line feed begins with what stands before it
pub lines-first : (text : List ℕ) → position_or_len is_feed text < length text → lines text ≡ strip_carriage_return (before_first is_feed text) ∷ lines (after_first is_feed text)
lines-first text within =
    ap lines_of_parts (slice_split_first is_feed text 0 within) ∙ lines_of_parts-cons (before_first is_feed text) (slice_split is_feed (after_first is_feed text)) (split-some is_feed (after_first is_feed text))

split-step : {X : Type 0} (b : Bool) (p : X → Bool) (x : X) (xs : List X) → (length xs ≤ position_or_len p xs → slice_split p xs ≡ xs ∷ []) → length (x ∷ xs) ≤ cond (not b) (1 + position_or_len p xs) 0 → cond b ([] ∷ slice_split p xs) (onto_first x (slice_split p xs)) ≡ (x ∷ xs) ∷ []
split-step true p x xs rest all = absurd (omega arith)
split-step false p x xs rest all = ap (onto_first x) (rest (omega arith))

split-none : {X : Type 0} (p : X → Bool) (xs : List X) → length xs ≤ position_or_len p xs → slice_split p xs ≡ xs ∷ []
split-none p [] all = refl
split-none p (x ∷ xs) all = split-step (p x) p x xs (split-none p xs) all

one-part : (text : List ℕ) → 0 < length text → lines_of_parts (text ∷ []) ≡ text ∷ []
one-part text some = rw (ne_eqb (length text) 0 (λ e. omega arith))

-- a text without a line feed is one line
pub lines-last : (text : List ℕ) → 0 < length text → length text ≤ position_or_len is_feed text → lines text ≡ text ∷ []
lines-last text some all = ap lines_of_parts (split-none is_feed text all) ∙ one-part text some

-- a text that isn't empty begins with a line
pub lines-some : (text : List ℕ) → 0 < length text → (line : List ℕ) × (left : List ℕ) × (lines text ≡ line ∷ lines left)
lines-some text some = elim (cases_lt (position_or_len is_feed text) (length text)) [
  | inl within ↦ (strip_carriage_return (before_first is_feed text), after_first is_feed text, lines-first text within)
  | inr all ↦ (text, [], lines-last text some all)
]

-- a text ends with \ or not, by its last byte
pub continued-end : (front : List ℕ) (b : ℕ) → is_continued (front ++ b ∷ []) ≡ eqb b 92
continued-end [] b = refl
continued-end (c ∷ []) b = refl
continued-end (c ∷ d ∷ front) b = continued-end (d ∷ front) b

-- lines with fields put before those of the first, which gets this number
abbrev pub carried : ℕ → List (List ℕ) → List LineData → List LineData
carried number fields [] = record { number = number; fields = fields } ∷ []
carried number fields (line ∷ rest) = record { number = number; fields = fields ++ line.fields } ∷ rest

-- the lines that a text makes where the first has this number, as fields
abbrev pub numbered : ℕ → List ℕ → List LineData
numbered number text = map in_fields (joined number (map uncommented (lines text)))

pub carried-twice : (m n : ℕ) (fields more : List (List ℕ)) (rest : List LineData) → carried m fields (carried n more rest) ≡ carried m (fields ++ more) rest
carried-twice m n fields more [] = refl
carried-twice m n fields more (line ∷ rest) = ap (λ ws. record { number = m; fields = ws } ∷ rest) (sym (append_assoc fields more line.fields))

blank_end : (part : List ℕ) → blank_at_end (part ++ 92 ∷ []) ≡ part ++ 32 ∷ []
blank_end part =
    let count : length (part ++ 92 ∷ []) - 1 ≡ length part = omega (arith, length-append part (92 ∷ [])) in
    let all : length part ≤ length part = omega arith in
    rw (count, take-append-le (length part) part (92 ∷ []) all, take_all)

joined-continued : (number : ℕ) (part : List ℕ) (texts : List (List ℕ)) → joined number ((part ++ 92 ∷ []) ∷ texts) ≡ put_before (record { number = number; text = part ++ 32 ∷ [] }) (joined (number + 1) texts)
joined-continued number part texts = rw (continued-end part 92, blank_end part)

joined-whole : (number : ℕ) (part : List ℕ) (texts : List (List ℕ)) → is_continued part ≡ false → joined number (part ∷ texts) ≡ record { number = number; text = part } ∷ joined (number + 1) texts
joined-whole number part texts whole = rw whole

joined-lines : (number : ℕ) (text line part left : List ℕ) → lines text ≡ line ∷ lines left → part ≡ uncommented line → joined number (map uncommented (lines text)) ≡ joined number (part ∷ map uncommented (lines left))
joined-lines number text line part left first is = ap (λ ls. joined number (map uncommented ls)) first ∙ ap (λ t. joined number (t ∷ map uncommented (lines left))) (sym is)

put_before-fields : (number : ℕ) (part : List ℕ) (rest : List NumberedText) → map in_fields (put_before (record { number = number; text = part ++ 32 ∷ [] }) rest) ≡ carried number (fields_of part) (map in_fields rest)
put_before-fields number part [] = ap (λ ws. record { number = number; fields = ws } ∷ []) (fields_of-end part)
put_before-fields number part (line ∷ rest) =
    ap (λ ws. record { number = number; fields = ws } ∷ map in_fields rest) (ap fields_of (append_assoc part (32 ∷ []) line.text) ∙ fields_of-append part line.text)

-- the lines where the first part ends with \, and where it doesn't
pub numbered-continued : (number : ℕ) (text line part left : List ℕ) → lines text ≡ line ∷ lines left → part ++ 92 ∷ [] ≡ uncommented line → numbered number text ≡ carried number (fields_of part) (numbered (number + 1) left)
numbered-continued number text line part left first is =
    ap (map in_fields) (joined-lines number text line (part ++ 92 ∷ []) left first is ∙ joined-continued number part (map uncommented (lines left)))
    ∙ put_before-fields number part (joined (number + 1) (map uncommented (lines left)))

pub numbered-whole : (number : ℕ) (text line part left : List ℕ) → lines text ≡ line ∷ lines left → part ≡ uncommented line → is_continued part ≡ false → numbered number text ≡ record { number = number; fields = fields_of part } ∷ numbered (number + 1) left
numbered-whole number text line part left first is whole =
    ap (map in_fields) (joined-lines number text line part left first is ∙ joined-whole number part (map uncommented (lines left)) whole)

-- the first of joined lines has the number
put_before-first : (part : NumberedText) (rest : List NumberedText) → map in_fields (put_before part rest) ≡ carried part.number [] (map in_fields (put_before part rest))
put_before-first part [] = refl
put_before-first part (line ∷ rest) = refl

joined-first : (number : ℕ) (text : List ℕ) (texts : List (List ℕ)) → map in_fields (joined number (text ∷ texts)) ≡ carried number [] (map in_fields (joined number (text ∷ texts)))
joined-first number text texts =
    elim (is_continued text) as (λ b. let here = cond b (put_before (record { number = number; text = blank_at_end text }) (joined (number + 1) texts)) (record { number = number; text = text } ∷ joined (number + 1) texts) in map in_fields here ≡ carried number [] (map in_fields here))
    [ true ↦ put_before-first (record { number = number; text = blank_at_end text }) (joined (number + 1) texts) | false ↦ refl ]

-- the first line of a text has the number
pub numbered-first : (number : ℕ) (text : List ℕ) → 0 < length text → numbered number text ≡ carried number [] (numbered number text)
numbered-first number text some =
    let (line, left, first) = lines-some text some in
    rw first (joined-first number (uncommented line) (map uncommented (lines left)))

-- how far the first line is read: the fields of its parts so far, and what is left of the text
pub record IsBegun (number : ℕ) (text : List ℕ) (fields : List (List ℕ)) (next : ℕ) (rest : List ℕ) : Type 0 where
  pub said : numbered number text ≡ carried number fields (numbered next rest)
  pub count : next + length rest ≤ number + length text
  pub within : length rest ≤ length text

pub begun-none : (number : ℕ) (text : List ℕ) → 0 < length text → IsBegun number text [] number text
begun-none number text some = record { said = numbered-first number text some; count = omega arith; within = omega arith }

-- a continued part is read
pub begun-more : (number : ℕ) (text : List ℕ) (fields : List (List ℕ)) (next : ℕ) (rest line part left : List ℕ) → IsBegun number text fields next rest → lines rest ≡ line ∷ lines left → part ++ 92 ∷ [] ≡ uncommented line → length left < length rest → IsBegun number text (fields ++ fields_of part) (next + 1) left
begun-more number text fields next rest line part left begun first is shorter = record {
  said = begun.said ∙ ap (carried number fields) (numbered-continued next rest line part left first is) ∙ carried-twice number next fields (fields_of part) (numbered (next + 1) left);
  count = let most = begun.count in omega arith;
  within = let most = begun.within in omega arith;
}

-- the first line of a text is read
pub record IsFirst (number : ℕ) (text : List ℕ) (fields : List (List ℕ)) (next : ℕ) (rest : List ℕ) : Type 0 where
  pub said : numbered number text ≡ record { number = number; fields = fields } ∷ numbered next rest
  pub count : next + length rest ≤ number + length text
  pub shorter : length rest < length text

pub first-whole : (number : ℕ) (text : List ℕ) (fields : List (List ℕ)) (next : ℕ) (rest line part left : List ℕ) → IsBegun number text fields next rest → lines rest ≡ line ∷ lines left → part ≡ uncommented line → is_continued part ≡ false → length left < length rest → IsFirst number text (fields ++ fields_of part) (next + 1) left
first-whole number text fields next rest line part left begun first is whole shorter = record {
  said = begun.said ∙ ap (carried number fields) (numbered-whole next rest line part left first is whole);
  count = let most = begun.count in omega arith;
  shorter = let most = begun.within in omega arith;
}

pub first-end : (number : ℕ) (text : List ℕ) (fields : List (List ℕ)) (next : ℕ) (rest : List ℕ) → 0 < length text → IsBegun number text fields next rest → length rest ≡ 0 → IsFirst number text fields next rest
first-end number text fields next [] some begun end = record { said = begun.said; count = begun.count; shorter = some }
first-end number text fields next (b ∷ bs) some begun end = absurd (omega arith)
