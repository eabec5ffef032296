-- What a name that stands next is declared with, and what is said of names by what stands.
use Rattle.ncl_reader.proofs.Terms.{◌≡◌, ℕ, List, [], ◌∷◌, ◌++◌, Option, Some, None, inl, inr, ◌⊎◌, refl, sym, ap, ◌∙◌, subst, option_map, append-nil, same_Some, Lexeme, all_of, Direction, direction_phrase, Lead, lead_phrase, Range, range_phrase, Spec, spec_phrase, Group, group_phrase, Item, Head, with_commas, name_phrase, body_phrase, in_ansi, at_declared, IsDeclaring, led, ranged, GroupPart, leading, going, group_spelled, Partial, heading, inside, declaring, spelled, header_spelled, zero, suc, ◌+◌, ◌<◌, ◌≤◌, arith, Bool, true, false, append_assoc, bytes_eq, false≢true, cases_eq, cases_lt, none-some, bytes_eq-Decides, Name, Span, span_of, Covers, start, IsAtItem, IsAtConn, IsAtPin, IsAtNet, IsBehindNet, IsAtIndex, IsAtClose, at_item, joining, dotted, opened, netted, indexing, joined, Stands, IsDeclared, IsUsed, split_push}
use Rattle.ncl_reader.proofs.Steps.{last_or_none, more_commas, same_tree, run, run-spelled, grows-run, no_token, name_in}

-- what a part of a declaration says of the next name, where a name may be next, and the names that have commas
abbrev pub part_spec : {L : Type 0} → GroupPart L → Option (Spec L)
part_spec (leading (led l)) = Some (record { lead = l; range = None })
part_spec (leading (ranged l range)) = Some (record { lead = l; range = Some range })
part_spec (going spec names) = Some spec
part_spec part = None

abbrev pub part_names : {L : Type 0} → GroupPart L → List (List ℕ)
part_names (going spec names) = all_of names
part_names part = []

abbrev pub part_range : {L : Type 0} → GroupPart L → Option (Option Range)
part_range part = option_map (λ (spec : Spec _). spec.range) (part_spec part)

abbrev pub range_here : Partial → Option (Option Range)
range_here (heading name groups part) = part_range part
range_here (inside head items (declaring part)) = part_range part
range_here p = None

-- a fact of what is there
abbrev pub Of : {S : Type 0} → Option S → (S → Type 0) → Type 0
Of None P = ⊥
Of (Some s) P = P s

pub some_of : {S : Type 0} (found : Option S) (P : S → Type 0) → Of found P → (s : S) × (found ≡ Some s) × P s
some_of None P none = absurd none
some_of (Some s) P holds = (s, refl, holds)

module _ {L : Type 0} (phrase : L → List Lexeme) where
  -- the part behind what a declaration begins with and names, each with a comma
  pub record IsPart (spec : Spec L) (names : List (List ℕ)) (part : GroupPart L) : Type 0 where
    pub is : group_spelled phrase part ≡ spec_phrase phrase spec ++ with_commas name_phrase names
    pub says : part_spec part ≡ Some spec
    pub stand : part_names part ≡ names

  -- a fact of them
  module _ (P : Spec L → List (List ℕ) → Type 0) (spec : Spec L) (names : List (List ℕ)) (part : GroupPart L) (is : IsPart spec names part) where
    pub told : P spec names → Of (part_spec part) (λ s. P s (part_names part))
    told holds = subst (λ f. Of f (λ s. P s (part_names part))) (sym is.says) (subst (P spec) (sym is.stand) holds)

    pub untold : Of (part_spec part) (λ s. P s (part_names part)) → P spec names
    untold holds = subst (P spec) is.stand (subst (λ f. Of f (λ s. P s (part_names part))) is.says holds)

  lead_part : (l : L) (range : Option Range) → (part : GroupPart L) × IsPart (record { lead = l; range = range }) [] part
  lead_part l None = (leading (led l), record { is = sym (append-nil (phrase l)) ∙ sym (append-nil (phrase l ++ [])); says = refl; stand = refl })
  lead_part l (Some range) = (leading (ranged l range), record { is = sym (append-nil (phrase l ++ range_phrase range)); says = refl; stand = refl })

  pub part_at : (spec : Spec L) (names : List (List ℕ)) → (part : GroupPart L) × IsPart spec names part
  part_at spec names = elim (last_or_none names) [
    | inl none ↦ subst (λ ns. (part : GroupPart L) × IsPart spec ns part) (sym none) (lead_part spec.lead spec.range)
    | inr (row, is) ↦ subst (λ ns. (part : GroupPart L) × IsPart spec ns part) (sym is) (
      going spec row,
      record { is = ap (λ l. spec_phrase phrase spec ++ l) (sym (more_commas name_phrase row.before row.last)); says = refl; stand = refl },
    )
  ]

  -- and back
  pub at_part : (part : GroupPart L) (spec : Spec L) → part_spec part ≡ Some spec → IsPart spec (part_names part) part
  unfolding lead_part
  at_part (leading (led l)) spec e = let same = same_Some (record { lead = l; range = None }) spec e in subst (λ s. IsPart s [] (leading (led l))) same (lead_part l None).1
  at_part (leading (ranged l r)) spec e = let same = same_Some (record { lead = l; range = Some r }) spec e in subst (λ s. IsPart s [] (leading (ranged l r))) same (lead_part l (Some r)).1
  at_part (going spec row) other e = let same = same_Some spec other e in subst (λ s. IsPart s (all_of row) (going spec row)) same (record { is = ap (λ l. spec_phrase phrase spec ++ l) (sym (more_commas name_phrase row.before row.last)); says = refl; stand = refl })
  at_part part spec e = absurd cc

-- the partial trees of the two forms
pub heading_form : (title : List ℕ) (groups : List (Group Direction)) (part : GroupPart Direction) (spec : Spec Direction) (names : List (List ℕ)) → IsPart direction_phrase spec names part → spelled (heading title groups part) ≡ in_ansi title groups spec names
heading_form title groups part spec names is = ap (λ l. header_spelled title (with_commas (group_phrase direction_phrase) groups ++ l)) is.is

pub declaring_form : (head : Head) (items : List Item) (part : GroupPart Lead) (spec : Spec Lead) (names : List (List ℕ)) → IsPart lead_phrase spec names part → spelled (inside head items (declaring part)) ≡ at_declared head items spec names
declaring_form head items part spec names is = ap (λ l. body_phrase head items ++ l) is.is

-- what stands in front of a name that is declared is a partial tree that says so
pub declaring_tree : (xs : List Lexeme) (range : Option Range) → IsDeclaring xs range → (p : Partial) × (spelled p ≡ xs) × (range_here p ≡ Some range)
declaring_tree xs range (inl (title, groups, direction, names, is)) =
    let spec : Spec Direction = record { lead = direction; range = range } in
    let (part, same) = part_at direction_phrase spec names in
    (heading title groups part, heading_form title groups part spec names same ∙ sym is, ap (option_map (λ (s : Spec Direction). s.range)) same.says)
declaring_tree xs range (inr (head, items, lead, names, is)) =
    let spec : Spec Lead = record { lead = lead; range = range } in
    let (part, same) = part_at lead_phrase spec names in
    (inside head items (declaring part), declaring_form head items part spec names same ∙ sym is, ap (option_map (λ (s : Spec Lead). s.range)) same.says)

pub declaring-here : (p : Partial) (range : Option Range) → IsDeclaring (spelled p) range → range_here p ≡ Some range
declaring-here p range is =
    let (q, same, here) = declaring_tree (spelled p) range is in
    ap range_here (same_tree p q (sym same)) ∙ here

-- a part that says a range says all
spec_of : {L : Type 0} (part : GroupPart L) (range : Option Range) → part_range part ≡ Some range → (spec : Spec L) × (part_spec part ≡ Some spec) × (spec.range ≡ range)
spec_of {L} part range e = by (part_spec part) refl e
  where
    by : (found : Option (Spec L)) → part_spec part ≡ found → option_map (λ (s : Spec L). s.range) found ≡ Some range → (spec : Spec L) × (part_spec part ≡ Some spec) × (spec.range ≡ range)
    by None is e = absurd cc
    by (Some spec) is e = (spec, is, same_Some spec.range range e)

pub here-declaring : (p : Partial) (range : Option Range) → range_here p ≡ Some range → IsDeclaring (spelled p) range
here-declaring (heading title groups part) range e =
    let (spec, says, same) = spec_of part range e in
    inl (title, groups, spec.lead, part_names part, heading_form title groups part spec (part_names part) (at_part direction_phrase part spec says) ∙ ap (λ r. in_ansi title groups (record { lead = spec.lead; range = r }) (part_names part)) same)
here-declaring (inside head items (declaring part)) range e =
    let (spec, says, same) = spec_of part range e in
    inr (head, items, spec.lead, part_names part, declaring_form head items part spec (part_names part) (at_part lead_phrase part spec says) ∙ ap (λ r. at_declared head items (record { lead = spec.lead; range = r }) (part_names part)) same)
here-declaring p range e = absurd cc

-- a fact holds or it doesn't
abbrev pub Decided : Type 0 → Type 0
Decided P = P ⊎ (P → ⊥)

pub both_decided : {P Q : Type 0} → Decided P → Decided Q → Decided (P × Q)
both_decided (inl p) (inl q) = inl (p, q)
both_decided (inl p) (inr fails) = inr (λ both. fails both.1)
both_decided (inr fails) q = inr (λ both. fails both.0)

pub either_decided : {P Q : Type 0} → Decided P → Decided Q → Decided (P ⊎ Q)
either_decided (inl p) q = inl (inl p)
either_decided (inr fails) (inl q) = inl (inr q)
either_decided (inr fails) (inr misses) = inr (λ either. elim either [
  | inl p ↦ fails p
  | inr q ↦ misses q
])

pub same_or_not : (x y : List ℕ) → Decided (x ≡ y)
same_or_not x y = by (bytes_eq x y) refl
  where
    by : (b : Bool) → bytes_eq x y ≡ b → Decided (x ≡ y)
    by true e = inl ((bytes_eq-Decides x y).0 e)
    by false e = inr (λ same. false≢true (sym e ∙ (bytes_eq-Decides x y).1 same))

-- a name stands with what holds of what stands in front of it
abbrev pub Any : (List Lexeme → List ℕ → Type 0) → List Lexeme → Type 0
Any P xs = (front : List Lexeme) × (y : List ℕ) × (rest : List Lexeme) × (xs ≡ front ++ Name y ∷ rest) × P front y

module _ (P : List Lexeme → List ℕ → Type 0) where
  -- a name or none stands so
  pub any-or-not : ((front : List Lexeme) (y : List ℕ) → Decided (P front y)) → (xs : List Lexeme) → Decided (Any P xs)
  any-or-not decided xs = elim (scan [] xs) [
    | inl found ↦ inl found
    | inr none ↦ inr none
  ]
    where
      Rest : List Lexeme → List Lexeme → Type 0
      Rest front rest = (more : List Lexeme) × (y : List ℕ) × (behind : List Lexeme) × (rest ≡ more ++ Name y ∷ behind) × P (front ++ more) y

      scan : (front rest : List Lexeme) → Decided (Rest front rest)
      scan front [] = inr (λ (more, y, behind, e, holds). no_token more behind (Name y) e)
      scan front (t ∷ rest) = by_later (here t) (scan (front ++ t ∷ []) rest)
        where
          here : (u : Lexeme) → Decided ((y : List ℕ) × (u ≡ Name y) × P front y)
          here (Name y) = elim (decided front y) [
            | inl holds ↦ inl (y, refl, holds)
            | inr fails ↦ inr (λ (z, is, holds). fails (subst (P front) (sym (name_in is)) holds))
          ]
          here u = inr (λ found. let e : u ≡ Name found.0 = found.1 in absurd cc)

          by_later : Decided ((y : List ℕ) × (t ≡ Name y) × P front y) → Decided (Rest (front ++ t ∷ []) rest) → Decided (Rest front (t ∷ rest))
          by_later (inl (y, is, holds)) later = inl ([], y, rest, ap (λ u. u ∷ rest) is, subst (λ l. P l y) (sym (append-nil front)) holds)
          by_later (inr fails) (inl (more, y, behind, e, holds)) = inl (t ∷ more, y, behind, ap (λ l. t ∷ l) e, subst (λ l. P l y) (append_assoc front (t ∷ []) more) holds)
          by_later (inr fails) (inr later) = inr (λ found. wrong found.0 found.1 found.2 found.3 found.4)
            where
              wrong : (more : List Lexeme) (y : List ℕ) (behind : List Lexeme) → t ∷ rest ≡ more ++ Name y ∷ behind → P (front ++ more) y → ⊥
              wrong [] y behind e holds = let same : t ≡ Name y = cc in fails (y, same, subst (λ l. P l y) (append-nil front) holds)
              wrong (m ∷ more) y behind e holds =
                  let same : t ≡ m = cc in
                  let others : rest ≡ more ++ Name y ∷ behind = cc in
                  later (more, y, behind, others, subst (λ l. P l y) (ap (λ u. front ++ u ∷ more) (sym same) ∙ sym (append_assoc front (t ∷ []) more)) holds)

-- what stands is a partial tree or none
pub tree_or_not : (xs : List Lexeme) → ((p : Partial) × (spelled p ≡ xs)) ⊎ ((p : Partial) → spelled p ≡ xs → ⊥)
tree_or_not xs = by (run start xs) refl
  where
    by : (found : Option Partial) → run start xs ≡ found → ((p : Partial) × (spelled p ≡ xs)) ⊎ ((p : Partial) → spelled p ≡ xs → ⊥)
    by (Some p) e = inl (p, grows-run start p xs e)
    by None e = inr (λ p is. none-some p (sym e ∙ ap (run start) (sym is) ∙ run-spelled p))

pub declaring_or_not : (xs : List Lexeme) → ((range : Option Range) × IsDeclaring xs range × ((other : Option Range) → IsDeclaring xs other → other ≡ range)) ⊎ ((range : Option Range) → IsDeclaring xs range → ⊥)
declaring_or_not xs = elim (tree_or_not xs) [
  | inl (p, is) ↦ by p is (range_here p) refl
  | inr none ↦ inr (λ range is. let (q, same, here) = declaring_tree xs range is in none q same)
]
  where
    by : (p : Partial) → spelled p ≡ xs → (found : Option (Option Range)) → range_here p ≡ found → ((range : Option Range) × IsDeclaring xs range × ((other : Option Range) → IsDeclaring xs other → other ≡ range)) ⊎ ((range : Option Range) → IsDeclaring xs range → ⊥)
    by p is None e = inr (λ range declares. none-some range (sym e ∙ declaring-here p range (subst (λ l. IsDeclaring l range) (sym is) declares)))
    by p is (Some range) e = inl (range, subst (λ l. IsDeclaring l range) is (here-declaring p range e), λ other declares. same_Some other range (sym (declaring-here p other (subst (λ l. IsDeclaring l other) (sym is) declares)) ∙ e))

-- of two ranges the numbers are the same or not
pub spans_or_not : (a b : Option Range) → Decided (option_map span_of a ≡ option_map span_of b)
spans_or_not None None = inl refl
spans_or_not None (Some b) = inr (λ e. absurd cc)
spans_or_not (Some a) None = inr (λ e. absurd cc)
spans_or_not (Some a) (Some b) = by (cases_eq (span_of a).first (span_of b).first) (cases_eq (span_of a).last (span_of b).last)
  where
    spans : Some (span_of a) ≡ Some (span_of b) → span_of a ≡ span_of b
    spans e = same_Some (span_of a) (span_of b) e

    by : Decided ((span_of a).first ≡ (span_of b).first) → Decided ((span_of a).last ≡ (span_of b).last) → Decided (Some (span_of a) ≡ Some (span_of b))
    by (inl first) (inl last) = inl (λ i. Some (record { first = first i; last = last i }))
    by (inr fails) last = inr (λ e. fails (ap (λ (s : Span). s.first) (spans e)))
    by (inl first) (inr fails) = inr (λ e. fails (ap (λ (s : Span). s.last) (spans e)))

-- a number is among those of a vector or it isn't
pub covers_or_not : (span : Span) (k : ℕ) → Decided (Covers span k)
covers_or_not span k = either_decided (both_decided (le_or_not span.first k) (le_or_not k span.last)) (both_decided (le_or_not span.last k) (le_or_not k span.first))
  where
    le_or_not : (a b : ℕ) → Decided (a ≤ b)
    le_or_not a b = elim (cases_lt b a) [
      | inl less ↦ inr (λ le. omega (arith, le, less))
      | inr most ↦ inl most
    ]

-- some number up to one is such, or none is
pub number_or_not : (P : ℕ → Type 0) → ((k : ℕ) → Decided (P k)) → (most : ℕ) → Decided ((k : ℕ) × (k < most) × P k)
number_or_not P decided zero = inr (λ found. omega (arith, found.1))
number_or_not P decided (suc most) = by (decided most) (number_or_not P decided most)
  where
    by : Decided (P most) → Decided ((k : ℕ) × (k < most) × P k) → Decided ((k : ℕ) × (k < suc most) × P k)
    by (inl holds) rest = inl (most, omega arith, holds)
    by (inr fails) (inl (k, less, holds)) = inl (k, omega (arith, less), holds)
    by (inr fails) (inr none) = inr (λ found. elim (cases_eq found.0 most) [
      | inl same ↦ fails (subst P same found.2)
      | inr other ↦ none (found.0, omega (arith, found.1, other), found.2)
    ])

-- the same of the numbers of a vector
pub bit_or_not : (P : ℕ → Type 0) → ((k : ℕ) → Decided (P k)) → (span : Span) → Decided ((k : ℕ) × Covers span k × P k)
bit_or_not P decided span = elim (number_or_not (λ k. Covers span k × P k) (λ k. both_decided (covers_or_not span k) (decided k)) (span.first + span.last + 1)) [
  | inl (k, less, both) ↦ inl (k, both.0, both.1)
  | inr none ↦ inr (λ (k, covers, holds). none (k, below k covers, (covers, holds)))
]
  where
    below : (k : ℕ) → Covers span k → k < span.first + span.last + 1
    below k (inl both) = omega (arith, both.0, both.1)
    below k (inr both) = omega (arith, both.0, both.1)

pub item_or_not : (p : Partial) → Decided (IsAtItem (spelled p))
item_or_not (at_item head items) = inl (head, items, refl)
item_or_not p = inr (λ (h, is, e). let same : p ≡ at_item h is = same_tree p (at_item h is) e in absurd cc)

pub conn_or_not : (p : Partial) → Decided (IsAtConn (spelled p))
conn_or_not (inside head items (joining cell name conns)) = inl (head, items, cell, name, conns, refl)
conn_or_not p = inr (λ (h, is, c, n, cs, e). let same : p ≡ inside h is (joining c n cs) = same_tree p (inside h is (joining c n cs)) e in absurd cc)

pub pin_or_not : (p : Partial) → Decided (IsAtPin (spelled p))
pin_or_not (inside head items (dotted cell name conns)) = inl (head, items, cell, name, conns, refl)
pin_or_not p = inr (λ (h, is, c, n, cs, e). let same : p ≡ inside h is (dotted c n cs) = same_tree p (inside h is (dotted c n cs)) e in absurd cc)

pub net_or_not : (p : Partial) → Decided (IsAtNet (spelled p))
net_or_not (inside head items (opened cell name conns pin)) = inl (head, items, cell, name, conns, pin, refl)
net_or_not p = inr (λ (h, is, c, n, cs, pn, e). let same : p ≡ inside h is (opened c n cs pn) = same_tree p (inside h is (opened c n cs pn)) e in absurd cc)

pub behind_or_not : (p : Partial) → Decided ((net : List ℕ) × IsBehindNet (spelled p) net)
behind_or_not (inside head items (netted cell name conns pin net)) = inl (net, (head, items, cell, name, conns, pin, refl))
behind_or_not p = inr (λ (nt, (h, is, c, n, cs, pn, e)). let same : p ≡ inside h is (netted c n cs pn nt) = same_tree p (inside h is (netted c n cs pn nt)) e in absurd cc)

pub index_or_not : (p : Partial) → Decided ((net : List ℕ) × IsAtIndex (spelled p) net)
index_or_not (inside head items (indexing cell name conns pin net)) = inl (net, (head, items, cell, name, conns, pin, refl))
index_or_not p = inr (λ (nt, (h, is, c, n, cs, pn, e)). let same : p ≡ inside h is (indexing c n cs pn nt) = same_tree p (inside h is (indexing c n cs pn nt)) e in absurd cc)

pub close_or_not : (p : Partial) → Decided (IsAtClose (spelled p))
close_or_not (inside head items (joined cell name conns conn)) = inl (head, items, cell, name, record { before = conns; last = conn }, refl)
close_or_not p = inr (λ (h, is, c, n, cs, e). let same : p ≡ inside h is (joined c n cs.before cs.last) = same_tree p (inside h is (joined c n cs.before cs.last)) e in absurd cc)

-- a name stands behind what is such
module _ (P : List Lexeme → Type 0) (y : List ℕ) where
  abbrev pub Found : List Lexeme → Type 0
  Found zs = (front : List Lexeme) × (rest : List Lexeme) × (zs ≡ front ++ Name y ∷ rest) × P front

  found-more : (xs : List Lexeme) (t : Lexeme) → Found (xs ++ t ∷ []) → Found xs ⊎ ((t ≡ Name y) × P xs)
  found-more xs t (front, rest, e, holds) = elim (split_push xs t front (Name y) rest e) [
    | inl (same, last) ↦ inr (sym last, subst P same holds)
    | inr (left, within) ↦ inl (front, left, within, holds)
  ]

  pub found-old : (xs ys : List Lexeme) → Found xs → Found (xs ++ ys)
  found-old xs ys (front, rest, e, holds) = (front, rest ++ ys, ap (λ l. l ++ ys) e ∙ append_assoc front (Name y ∷ rest) ys, holds)

pub found-behind : (P : List Lexeme → Type 0) (y : List ℕ) (xs ys : List Lexeme) → Found (λ f. P (xs ++ f)) y ys → Found P y (xs ++ ys)
found-behind P y xs ys (front, rest, e, holds) = (xs ++ front, rest, ap (λ l. xs ++ l) e ∙ sym (append_assoc xs front (Name y ∷ rest)), holds)

pub declared-more : (xs : List Lexeme) (t : Lexeme) (y : List ℕ) (range : Option Range) → IsDeclared (xs ++ t ∷ []) y range → IsDeclared xs y range ⊎ ((t ≡ Name y) × IsDeclaring xs range)
declared-more xs t y range = found-more (λ l. IsDeclaring l range) y xs t

pub declared-old : (xs ys : List Lexeme) (y : List ℕ) (range : Option Range) → IsDeclared xs y range → IsDeclared (xs ++ ys) y range
declared-old xs ys y range = found-old (λ l. IsDeclaring l range) y xs ys

pub used-more : (xs : List Lexeme) (t : Lexeme) (y : List ℕ) → IsUsed (xs ++ t ∷ []) y → IsUsed xs y ⊎ ((t ≡ Name y) × IsAtNet xs)
used-more xs t y = found-more IsAtNet y xs t

pub used-old : (xs ys : List Lexeme) (y : List ℕ) → IsUsed xs y → IsUsed (xs ++ ys) y
used-old xs ys y = found-old IsAtNet y xs ys

pub stands-more : (xs : List Lexeme) (t : Lexeme) (y : List ℕ) → Stands (xs ++ t ∷ []) y → Stands xs y ⊎ (t ≡ Name y)
stands-more xs t y (front, rest, e) = elim (split_push xs t front (Name y) rest e) [
  | inl (same, last) ↦ inr (sym last)
  | inr (left, within) ↦ inl (front, left, within)
]

pub stands-old : (xs ys : List Lexeme) (x : List ℕ) → Stands xs x → Stands (xs ++ ys) x
stands-old xs ys x (front, rest, e) = let (f, r, is, u) = found-old (λ l. Unit {0}) x xs ys (front, rest, e, tt) in (f, r, is)

-- a name is declared in one way at one place
pub declaring-once : (xs : List Lexeme) (a b : Option Range) → IsDeclaring xs a → IsDeclaring xs b → a ≡ b
declaring-once xs a b one two = elim (declaring_or_not xs) [
  | inl (range, declares, once) ↦ once a one ∙ sym (once b two)
  | inr none ↦ absurd (none a one)
]
