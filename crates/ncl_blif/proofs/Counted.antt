-- The fields of lines without the lines, and what the counts of the lines make of them.
use Rattle.ncl_blif.proofs.Terms.{AreCounted, Count, LineData, List, [], ap, append-nil, append_assoc, arith, cond, cond-true, count_of, drop, drop-append_seam, drop-drop, drop_more, filter, flat_map, get_or, get_or-map, length, length-append, length-drop, length-map, lines_of, lt-ltb, ltb, map, refl, subst, sym, take, take-append_seam, take_all, take_more, ℕ, ◌++◌, ◌+◌, ◌<◌, ◌∙◌, ◌∷◌, ◌≡◌, ◌≤◌}
use Rattle.ncl_blif.proofs.TextLines.{numbered}

-- the fields of lines, one line after another
abbrev pub all_fields : List LineData → List (List ℕ)
all_fields lines = flat_map (λ (line : LineData). line.fields) lines

-- the lines that have fields in what is left of a text
abbrev pub left_lines : ℕ → List ℕ → List LineData
left_lines number rest = filter (λ line. ltb 0 (length line.fields)) (numbered number rest)

-- how far a text is read: the fields so far, the counts of their lines, and what is left
pub record AreRead (text : List ℕ) (fields : List (List ℕ)) (counts : List Count) (number : ℕ) (rest : List ℕ) : Type 0 where
  pub fields_are : fields ++ all_fields (left_lines number rest) ≡ all_fields (lines_of text)
  pub counts_are : counts ++ map count_of (left_lines number rest) ≡ map count_of (lines_of text)
  pub within : number + length rest ≤ 1 + length text

-- what is left after a line, which has fields or has none
left-more : (number next : ℕ) (rest left : List ℕ) (said : List (List ℕ)) → numbered number rest ≡ record { number = number; fields = said } ∷ numbered next left
    → left_lines number rest ≡ cond (ltb 0 (length said)) (record { number = number; fields = said } ∷ left_lines next left) (left_lines next left)
left-more number next rest left said first = ap (filter (λ line. ltb 0 (length line.fields))) first

pub read-empty : (text : List ℕ) (fields : List (List ℕ)) (counts : List Count) (number next : ℕ) (rest left : List ℕ) (said : List (List ℕ)) → AreRead text fields counts number rest
    → numbered number rest ≡ record { number = number; fields = said } ∷ numbered next left → next + length left ≤ number + length rest → length said ≡ 0
    → AreRead text (fields ++ said) counts next left
read-empty text fields counts number next rest left [] read first shorter none =
    let is : left_lines number rest ≡ left_lines next left = left-more number next rest left [] first in
    record {
      fields_are = ap (λ ws. ws ++ all_fields (left_lines next left)) (append-nil fields) ∙ ap (λ lines. fields ++ all_fields lines) (sym is) ∙ read.fields_are;
      counts_are = ap (λ lines. counts ++ map count_of lines) (sym is) ∙ read.counts_are;
      within = let before = read.within in omega arith;
    }
read-empty text fields counts number next rest left (field ∷ said) read first shorter none = absurd (omega arith)

pub read-counted : (text : List ℕ) (fields : List (List ℕ)) (counts : List Count) (number next : ℕ) (rest left : List ℕ) (said : List (List ℕ)) → AreRead text fields counts number rest
    → numbered number rest ≡ record { number = number; fields = said } ∷ numbered next left → next + length left ≤ number + length rest → 0 < length said
    → AreRead text (fields ++ said) (counts ++ record { number = number; fields = length said } ∷ []) next left
read-counted text fields counts number next rest left [] read first shorter some = absurd (omega arith)
read-counted text fields counts number next rest left (field ∷ more) read first shorter some =
    let line : LineData = record { number = number; fields = field ∷ more } in
    let is : left_lines number rest ≡ line ∷ left_lines next left = left-more number next rest left (field ∷ more) first ∙ cond-true _ _ _ (lt-ltb 0 (length (field ∷ more)) (omega arith)) in
    record {
      fields_are = rw append_assoc (ap (λ lines. fields ++ all_fields lines) (sym is) ∙ read.fields_are);
      counts_are = rw append_assoc (ap (λ lines. counts ++ map count_of lines) (sym is) ∙ read.counts_are);
      within = let before = read.within in omega arith;
    }

pub read-all : (text : List ℕ) (fields : List (List ℕ)) (counts : List Count) (number : ℕ) (rest : List ℕ) → AreRead text fields counts number rest → length rest ≡ 0 → AreCounted (lines_of text) fields counts
read-all text fields counts number [] read end = record { fields_are = sym (append-nil fields) ∙ read.fields_are; counts_are = sym (append-nil counts) ∙ read.counts_are }
read-all text fields counts number (b ∷ bs) read end = absurd (omega arith)

-- the fields that are left after lines are those of the next line, and then those of the others
pub fields-left : (lines : List LineData) (k : ℕ) (d : LineData) → k < length lines → all_fields (drop k lines) ≡ (get_or lines k d).fields ++ all_fields (drop (k + 1) lines)
fields-left lines k d within = ap all_fields (drop_more lines k d within)

-- how far fields are cut into lines: the lines so far, and where the fields of the next one begin
pub record AreCut (fields : List (List ℕ)) (counts : List Count) (k from : ℕ) (made : List LineData) : Type 0 where
  pub lines : List LineData
  pub counted : AreCounted lines fields counts
  pub made_are : made ≡ take k lines
  pub rest_is : drop from fields ≡ all_fields (drop k lines)
  pub within : from ≤ length fields

pub cut-none : (fields : List (List ℕ)) (counts : List Count) (lines : List LineData) → AreCounted lines fields counts → AreCut fields counts 0 0 []
cut-none fields counts lines counted = record { lines = lines; counted = counted; made_are = refl; rest_is = counted.fields_are; within = omega arith }

-- the next count is that of the next line
count-next : (lines : List LineData) (fields : List (List ℕ)) (counts : List Count) (k : ℕ) (d : Count) → AreCounted lines fields counts → k < length counts
    → (k < length lines) × (get_or counts k d ≡ count_of (get_or lines k (record { number = 0; fields = [] })))
count-next lines fields counts k d counted within =
    let inside : k < length lines = omega (arith, ap length counted.counts_are, length-map lines count_of) in
    (inside, ap (λ cs. get_or cs k d) counted.counts_are ∙ get_or-map count_of lines k (record { number = 0; fields = [] }) d inside)

-- there are as many fields left as the next count says
pub cut-fits : (fields : List (List ℕ)) (counts : List Count) (k from : ℕ) (made : List LineData) (d : Count) → AreCut fields counts k from made → k < length counts → from + (get_or counts k d).fields ≤ length fields
cut-fits fields counts k from made d cut within =
    let none : LineData = record { number = 0; fields = [] } in
    let (inside, is) = count-next cut.lines fields counts k d cut.counted within in
    let before = cut.within in
    omega (arith, ap (λ (c : Count). c.fields) is, ap length cut.rest_is, length-drop from fields, ap length (fields-left cut.lines k none inside), length-append (get_or cut.lines k none).fields (all_fields (drop (k + 1) cut.lines)))

-- one line more is cut
pub cut-more : (fields : List (List ℕ)) (counts : List Count) (k from : ℕ) (made : List LineData) (d : Count) → AreCut fields counts k from made → k < length counts
    → let count = get_or counts k d in AreCut fields counts (k + 1) (from + count.fields) (made ++ record { number = count.number; fields = take count.fields (drop from fields) } ∷ [])
cut-more fields counts k from made d cut within =
    let none : LineData = record { number = 0; fields = [] } in
    let lines = cut.lines in
    let count : Count = get_or counts k d in
    let (inside, is) = count-next lines fields counts k d cut.counted within in
    let next : LineData = get_or lines k none in
    let later = all_fields (drop (k + 1) lines) in
    let many : count.fields ≡ length next.fields = ap (λ (c : Count). c.fields) is in
    let left : drop from fields ≡ next.fields ++ later = cut.rest_is ∙ fields-left lines k none inside in
    let own : take count.fields (drop from fields) ≡ next.fields = ap (take count.fields) left ∙ ap (λ n. take n (next.fields ++ later)) many ∙ take-append_seam next.fields later in
    let others : drop count.fields (drop from fields) ≡ later = ap (drop count.fields) left ∙ ap (λ n. drop n (next.fields ++ later)) many ∙ drop-append_seam next.fields later in
    let line : record { number = count.number; fields = take count.fields (drop from fields) } ≡ next = λ i. record { number = (ap (λ (c : Count). c.number) is) i; fields = own i } in
    record {
      lines = lines;
      counted = cut.counted;
      made_are = ap (λ l. made ++ l ∷ []) line ∙ ap (λ ls. ls ++ next ∷ []) cut.made_are ∙ sym (take_more lines k none inside);
      rest_is = sym (drop-drop count.fields from fields) ∙ others;
      within = cut-fits fields counts k from made d cut within;
    }

-- all lines are cut
pub cut-all : (fields : List (List ℕ)) (counts : List Count) (k from : ℕ) (made : List LineData) → AreCut fields counts k from made → length counts ≤ k → AreCounted made fields counts
cut-all fields counts k from made cut all =
    let is : made ≡ cut.lines = cut.made_are ∙ take_all k cut.lines (omega (arith, ap length cut.counted.counts_are, length-map cut.lines count_of)) in
    subst (λ ls. AreCounted ls fields counts) (sym is) cut.counted

-- fields and counts are those of one list of lines
pub one_counted : (a b : List LineData) (fields : List (List ℕ)) (counts : List Count) → AreCounted a fields counts → AreCounted b fields counts → a ≡ b
one_counted [] [] fields counts one two = refl
one_counted [] (y ∷ b) fields counts one two = absurd (omega (arith, ap length (sym one.counts_are ∙ two.counts_are)))
one_counted (x ∷ a) [] fields counts one two = absurd (omega (arith, ap length (sym one.counts_are ∙ two.counts_are)))
one_counted (x ∷ a) (y ∷ b) fields counts one two =
    let same : count_of x ∷ map count_of a ≡ count_of y ∷ map count_of b = sym one.counts_are ∙ two.counts_are in
    let first : count_of x ≡ count_of y = cc in
    let later : map count_of a ≡ map count_of b = cc in
    let many : length x.fields ≡ length y.fields = ap (λ (c : Count). c.fields) first in
    let said : x.fields ++ all_fields a ≡ y.fields ++ all_fields b = sym one.fields_are ∙ two.fields_are in
    let own : x.fields ≡ y.fields = sym (take-append_seam x.fields (all_fields a)) ∙ ap (λ n. take n (x.fields ++ all_fields a)) many ∙ ap (take (length y.fields)) said ∙ take-append_seam y.fields (all_fields b) in
    let others : all_fields a ≡ all_fields b = sym (drop-append_seam x.fields (all_fields a)) ∙ ap (λ n. drop n (x.fields ++ all_fields a)) many ∙ ap (drop (length y.fields)) said ∙ drop-append_seam y.fields (all_fields b) in
    let head : x ≡ y = λ i. record { number = (ap (λ (c : Count). c.number) first) i; fields = own i } in
    let tail : a ≡ b = one_counted a b (all_fields a) (map count_of a) (record { fields_are = refl; counts_are = refl }) (record { fields_are = others; counts_are = later }) in
    λ i. head i ∷ tail i
