-- The lines of a text that say something, as they are gone through.
use Rattle.ncl_delay.proofs.Terms.{Bor, List, None, NumberedText, Option, Some, Yields, YieldsList, YieldsList-end, YieldsList-so_far, YieldsList-turn, [], ap, cond, drop, enumerate_from, filter, filter-append, is_feed, length, map, map-append, numbered, slice_split, sym, take, take-append-drop, take_more, tells, told_lines, trimmed, true, ℕ, ◌++◌, ◌+◌, ◌∙◌, ◌∷◌, ◌≡◌}

-- the lines of a text with their places
abbrev pub parts_of : List ℕ → List (ℕ × List ℕ)
parts_of text = enumerate_from 0 (slice_split is_feed text)

-- those of some lines that say something
abbrev pub told : List (ℕ × List ℕ) → List NumberedText
told parts = filter (λ line. tells line.text) (map numbered parts)

-- a line with its place, where it is a part of a text, and where it is read
abbrev pub Part : Type 0
Part = ℕ × Bor (List ℕ)

abbrev pub placed : Part → ℕ × List ℕ
placed part = (part.0, part.1.now)

-- the lines that say something of those gone through
abbrev pub told_of : List Part → List NumberedText
told_of parts = told (map placed parts)

told-append : (parts more : List (ℕ × List ℕ)) → told (parts ++ more) ≡ told parts ++ told more
told-append parts more =
    ap (filter (λ line. tells line.text)) (map-append numbered parts more) ∙ filter-append (λ line. tells line.text) (map numbered parts) (map numbered more)

told_of-append : (parts more : List Part) → told_of (parts ++ more) ≡ told_of parts ++ told_of more
told_of-append parts more = ap told (map-append placed parts more) ∙ told-append (map placed parts) (map placed more)

-- one more line that says something
pub told_of-tells : (parts : List Part) (part : Part) → tells (trimmed part.1.now) ≡ true → told_of (parts ++ part ∷ []) ≡ told_of parts ++ numbered (placed part) ∷ []
told_of-tells parts part says =
    told_of-append parts (part ∷ []) ∙ ap (λ b. told_of parts ++ cond b (numbered (placed part) ∷ []) []) says

-- what some lines tell, and what the lines after them tell
record IsCut (text : List ℕ) (parts : List Part) : Type 0 where
  pub later : List NumberedText
  pub cut : told_lines text ≡ told_of parts ++ later

-- an iterator goes through the lines of a text with their places
abbrev pub GoesThrough : {S : Type 0} → (S → Option Part → S → Type 0) → S → List ℕ → Type 0
GoesThrough steps s text = YieldsList steps placed s (parts_of text)

-- it has gone through some lines, and gives one more
next_line : {S : Type 0} {steps : S → Option Part → S → Type 0} {s : S} (text : List ℕ) → GoesThrough steps s text → (parts : List Part) (t : S) → Yields steps s parts t → (r : Option Part) (u : S) (part : Part) → r ≡ Some part → steps t r u → IsCut text (parts ++ part ∷ [])
next_line text goes parts t yields r u part is step =
    let all = parts_of text in
    let n = length parts in
    let next = YieldsList-turn goes parts t yields r u part is step in
    let front : map placed (parts ++ part ∷ []) ≡ take (n + 1) all =
    map-append placed parts (part ∷ []) ∙ (λ i. YieldsList-so_far goes parts t yields i ++ next.1 i ∷ []) ∙ sym (take_more all n (placed part) next.0) in
    record {
      later = told (drop (n + 1) all);
      cut = ap told (sym (take-append-drop (n + 1) all)) ∙ told-append (take (n + 1) all) (drop (n + 1) all) ∙ ap (λ parts. told parts ++ told (drop (n + 1) all)) (sym front);
    }

-- what some lines tell and one more, and what the lines after it tell
pub record IsToldNext (text : List ℕ) (parts : List Part) (part : Part) : Type 0 where
  pub later : List NumberedText
  pub told : told_lines text ≡ (told_of parts ++ numbered (placed part) ∷ []) ++ later

-- where that one says something, it is told next
pub told_next : {S : Type 0} {steps : S → Option Part → S → Type 0} {s : S} (text : List ℕ) → GoesThrough steps s text → (parts : List Part) (t : S) → Yields steps s parts t → (r : Option Part) (u : S) (part : Part) → r ≡ Some part → steps t r u → tells (trimmed part.1.now) ≡ true → IsToldNext text parts part
told_next text goes parts t yields r u part is step says =
    let cut = next_line text goes parts t yields r u part is step in
    record { later = cut.later; told = cut.cut ∙ ap (λ lines. lines ++ cut.later) (told_of-tells parts part says) }

-- it has gone through all lines
pub no_line : {S : Type 0} {steps : S → Option Part → S → Type 0} {s : S} (text : List ℕ) → GoesThrough steps s text → (parts : List Part) (t : S) → Yields steps s parts t → (r : Option Part) (u : S) → r ≡ None → steps t r u → told_of parts ≡ told_lines text
no_line text goes parts t yields r u is step = ap told (YieldsList-end goes parts t yields r u is step).0
