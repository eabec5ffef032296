-- One token more in a partial tree: a tree is what its tokens lead to, a step adds its token, and what may come next is what a step takes.
pub use Rattle.ncl_reader.proofs.Terms.{ℕ, List, [], ◌∷◌, ◌++◌, Option, Some, None, option_and_then, option_map, Module, EndModule, Wire, word_of, LParen, RParen, Comma, Semi, Dot, LBracket, RBracket, Colon, Lexeme, Word, Name, Number, Mark, End, Direction, Plain, Wired, Lead, Gives, Wires, Group, all_of, Empty, Names, Ansi, Item, Declares, Joins, Head, LeadPart, led, bracketed, firsted, coloned, lasted, ranged, GroupPart, leading, naming, going, Partial, start, begun, titled, listing, listed, heading, headed, at_item, inside, ended, done, ItemPart, declaring, celled, named, joining, dotted, pinned, opened, netted, indexing, indexed, picked, joined, closed, ◌≡◌, refl, sym, ap, ◌∙◌, append_assoc, append-nil, same_Some, flat_map, Row, direction_phrase, lead_phrase, Range, spec_phrase, group_phrase, Conn, Listing, with_commas, name_phrase, conn_phrase, row_phrase, item_phrase, head_phrase, body_phrase, group_spelled, spelled, part_spelled, flat_map-append, lead_spelled, header_spelled, conn_spelled, codes, none-some, Text, BeginsShaped, arith, length, inl, inr, subst, length-append, split_push, BreaksRule, Breaks, NoneBreaks, ◌⊎◌, ◌≤◌, zero, suc}

-- "wire" behind a direction
abbrev pub direction_more : Direction → Option Direction
direction_more (Plain way) = Some (Wired way)
direction_more (Wired way) = None

abbrev pub lead_more : Lead → Option Lead
lead_more (Gives (Plain way)) = Some (Gives (Wired way))
lead_more (Gives (Wired way)) = None
lead_more Wires = None

-- one token more in what a declaration begins with
abbrev pub lead_step : {L : Type 0} → (L → Option L) → LeadPart L → Lexeme → Option (GroupPart L)
lead_step more (led l) (Word Wire) = option_map (λ m. leading (led m)) (more l)
lead_step more (led l) (Mark LBracket) = Some (leading (bracketed l))
lead_step more (led l) (Name x) = Some (naming (record { lead = l; range = None }) [] x)
lead_step more (bracketed l) (Number first) = Some (leading (firsted l first))
lead_step more (firsted l first) (Mark Colon) = Some (leading (coloned l first))
lead_step more (coloned l first) (Number last) = Some (leading (lasted l first last))
lead_step more (lasted l first last) (Mark RBracket) = Some (leading (ranged l (record { first = first; last = last })))
lead_step more (ranged l range) (Name x) = Some (naming (record { lead = l; range = Some range }) [] x)
lead_step more part t = None

-- one token more in a declaration
abbrev pub group_step : {L : Type 0} → (L → Option L) → GroupPart L → Lexeme → Option (GroupPart L)
group_step more (leading part) t = lead_step more part t
group_step more (naming spec names last) (Mark Comma) = Some (going spec (record { before = names; last = last }))
group_step more (going spec names) (Name x) = Some (naming spec (all_of names) x)
group_step more part t = None

-- the one, or else the other
abbrev pub or_else : {X : Type 0} → Option X → Option X → Option X
or_else (Some x) other = Some x
or_else None other = other

-- what ends a declaration of a header: the header's end, or the next direction
abbrev pub heading_ends : List ℕ → List (Group Direction) → GroupPart Direction → Lexeme → Option Partial
heading_ends name groups (naming spec names last) (Mark RParen) = Some (headed name (Ansi (record { before = groups; last = record { spec = spec; names = record { before = names; last = last } } })))
heading_ends name groups (going spec names) (Word (word_of way)) = Some (heading name (groups ++ record { spec = spec; names = names } ∷ []) (leading (led (Plain way))))
heading_ends name groups part t = None

-- what ends a declaration of an item
abbrev pub declaring_ends : Head → List Item → GroupPart Lead → Lexeme → Option Partial
declaring_ends head items (naming spec names last) (Mark Semi) = Some (at_item head (items ++ Declares (record { spec = spec; names = record { before = names; last = last } }) ∷ []))
declaring_ends head items part t = None

-- one token more in an item
abbrev pub item_step : Head → List Item → ItemPart → Lexeme → Option Partial
item_step head items (declaring part) t = or_else (option_map (λ more. inside head items (declaring more)) (group_step lead_more part t)) (declaring_ends head items part t)
item_step head items (celled cell) (Name name) = Some (inside head items (named cell name))
item_step head items (named cell name) (Mark LParen) = Some (inside head items (joining cell name []))
item_step head items (joining cell name conns) (Mark Dot) = Some (inside head items (dotted cell name conns))
item_step head items (dotted cell name conns) (Name pin) = Some (inside head items (pinned cell name conns pin))
item_step head items (pinned cell name conns pin) (Mark LParen) = Some (inside head items (opened cell name conns pin))
item_step head items (opened cell name conns pin) (Name net) = Some (inside head items (netted cell name conns pin net))
item_step head items (netted cell name conns pin net) (Mark RParen) = Some (inside head items (joined cell name conns (record { pin = pin; net = record { name = net; index = None } })))
item_step head items (netted cell name conns pin net) (Mark LBracket) = Some (inside head items (indexing cell name conns pin net))
item_step head items (indexing cell name conns pin net) (Number digits) = Some (inside head items (indexed cell name conns pin net digits))
item_step head items (indexed cell name conns pin net digits) (Mark RBracket) = Some (inside head items (picked cell name conns pin net digits))
item_step head items (picked cell name conns pin net digits) (Mark RParen) = Some (inside head items (joined cell name conns (record { pin = pin; net = record { name = net; index = Some digits } })))
item_step head items (joined cell name conns conn) (Mark Comma) = Some (inside head items (joining cell name (conns ++ conn ∷ [])))
item_step head items (joined cell name conns conn) (Mark RParen) = Some (inside head items (closed cell name conns conn))
item_step head items (closed cell name conns conn) (Mark Semi) = Some (at_item head (items ++ Joins cell name (record { before = conns; last = conn }) ∷ []))
item_step head items part t = None

-- the end of a header in which nothing stands yet, and a direction there
abbrev pub no_ports : List ℕ → List (List ℕ) → Option Partial
no_ports name [] = Some (headed name Empty)
no_ports name (x ∷ names) = None

abbrev pub first_direction : List ℕ → List (List ℕ) → Direction → Option Partial
first_direction name [] direction = Some (heading name [] (leading (led direction)))
first_direction name (x ∷ names) direction = None

-- one token more
abbrev pub step : Partial → Lexeme → Option Partial
step start (Word Module) = Some begun
step begun (Name name) = Some (titled name)
step (titled name) (Mark LParen) = Some (listing name [])
step (titled name) (Mark Semi) = Some (at_item (record { name = name; ports = None }) [])
step (listing name names) (Mark RParen) = no_ports name names
step (listing name names) (Name last) = Some (listed name names last)
step (listing name names) (Word (word_of way)) = first_direction name names (Plain way)
step (listed name names last) (Mark Comma) = Some (listing name (names ++ last ∷ []))
step (listed name names last) (Mark RParen) = Some (headed name (Names (record { before = names; last = last })))
step (heading name groups part) t = or_else (option_map (heading name groups) (group_step direction_more part t)) (heading_ends name groups part t)
step (headed name ports) (Mark Semi) = Some (at_item (record { name = name; ports = Some ports }) [])
step (at_item head items) (Word EndModule) = Some (ended head items)
step (at_item head items) (Word (word_of way)) = Some (inside head items (declaring (leading (led (Gives (Plain way))))))
step (at_item head items) (Word Wire) = Some (inside head items (declaring (leading (led Wires))))
step (at_item head items) (Name cell) = Some (inside head items (celled cell))
step (inside head items part) t = item_step head items part t
step (ended head items) End = Some (done head items)
step p t = None

-- tokens more
abbrev pub run : Partial → List Lexeme → Option Partial
run p [] = Some p
run p (t ∷ ts) = option_and_then (λ q. run q ts) (step p t)

pub run-append : (p q : Partial) (xs ys : List Lexeme) → run p xs ≡ Some q → run p (xs ++ ys) ≡ run q ys
run-append p q [] ys e = ap (λ r. run r ys) (same_Some p q e)
run-append p q (x ∷ xs) ys e = by (step p x) (λ r. run-append r q xs ys) e
  where
    by : (next : Option Partial) → ((r : Partial) → run r xs ≡ Some q → run r (xs ++ ys) ≡ run q ys) → option_and_then (λ r. run r xs) next ≡ Some q → option_and_then (λ r. run r (xs ++ ys)) next ≡ run q ys
    by None rec e = absurd cc
    by (Some r) rec e = rec r e

pub more_commas : {X : Type 0} (phrase : X → List Lexeme) (xs : List X) (x : X) → with_commas phrase (xs ++ x ∷ []) ≡ (with_commas phrase xs ++ phrase x) ++ Mark Comma ∷ []
more_commas phrase xs x = flat_map-append (λ x. phrase x ++ Mark Comma ∷ []) xs (x ∷ []) ∙ ap (λ l. with_commas phrase xs ++ l) (append-nil (phrase x ++ Mark Comma ∷ [])) ∙ sym (append_assoc (with_commas phrase xs) (phrase x) (Mark Comma ∷ []))

more_items : (head : Head) (items : List Item) (item : Item) (part : List Lexeme) (t : Lexeme) → item_phrase item ≡ part ++ t ∷ [] → body_phrase head (items ++ item ∷ []) ≡ (body_phrase head items ++ part) ++ t ∷ []
more_items head items item part t e =
    ap (λ l. head_phrase head ++ l) (flat_map-append item_phrase items (item ∷ []) ∙ ap (λ l. flat_map item_phrase items ++ l) (append-nil (item_phrase item) ∙ e))
    ∙ sym (append_assoc (head_phrase head) (flat_map item_phrase items) (part ++ t ∷ []))
    ∙ sym (append_assoc (body_phrase head items) part (t ∷ []))

-- one token more behind a part
behind : (head : Head) (items : List Item) (part : List Lexeme) (t : Lexeme) (more : List Lexeme) → more ≡ part ++ t ∷ [] → body_phrase head items ++ more ≡ (body_phrase head items ++ part) ++ t ∷ []
behind head items part t more e = ap (λ l. body_phrase head items ++ l) e ∙ sym (append_assoc (body_phrase head items) part (t ∷ []))

-- one token more behind a part of a connection
within : (cell name : List ℕ) (conns : List Conn) (part : List Lexeme) (t : Lexeme) → conn_spelled cell name conns (part ++ t ∷ []) ≡ conn_spelled cell name conns part ++ t ∷ []
within cell name conns part t = ap (λ l. Name cell ∷ Name name ∷ Mark LParen ∷ l) (sym (append_assoc (with_commas conn_phrase conns) part (t ∷ [])))

along : (r q : Partial) (xs : List Lexeme) → Some r ≡ Some q → spelled r ≡ xs → spelled q ≡ xs
along r q xs e g = ap spelled (sym (same_Some r q e)) ∙ g

-- one token more in a declaration, where "wire" behind what it begins with adds its token
module _ {L : Type 0} (phrase : L → List Lexeme) (more : L → Option L) (wired : (l m : L) → more l ≡ Some m → phrase m ≡ phrase l ++ Word Wire ∷ []) where
  part-along : (p q : GroupPart L) (xs : List Lexeme) → Some p ≡ Some q → group_spelled phrase p ≡ xs → group_spelled phrase q ≡ xs
  part-along p q xs e g = ap (group_spelled phrase) (sym (same_Some p q e)) ∙ g

  wire-added : (l : L) (m : Option L) (q : GroupPart L) → more l ≡ m → option_map (λ m. leading (led m)) m ≡ Some q → group_spelled phrase q ≡ phrase l ++ Word Wire ∷ []
  wire-added l None q is e = absurd cc
  wire-added l (Some m) q is e = part-along (leading (led m)) q _ e (wired l m is)

  pub grows-lead : (part : LeadPart L) (t : Lexeme) (q : GroupPart L) → lead_step more part t ≡ Some q → group_spelled phrase q ≡ lead_spelled phrase part ++ t ∷ []
  grows-lead (led l) (Word Wire) q e = wire-added l (more l) q refl e
  grows-lead (led l) (Mark LBracket) q e = part-along _ q _ e refl
  grows-lead (led l) (Name x) q e = part-along _ q _ e (ap (λ l. l ++ Name x ∷ []) (append-nil (phrase l)))
  grows-lead (bracketed l) (Number first) q e = part-along _ q _ e (sym (append_assoc (phrase l) _ _))
  grows-lead (firsted l first) (Mark Colon) q e = part-along _ q _ e (sym (append_assoc (phrase l) _ _))
  grows-lead (coloned l first) (Number last) q e = part-along _ q _ e (sym (append_assoc (phrase l) _ _))
  grows-lead (lasted l first last) (Mark RBracket) q e = part-along _ q _ e (sym (append_assoc (phrase l) _ _))
  grows-lead (ranged l range) (Name x) q e = part-along _ q _ e refl
  grows-lead part t q e = absurd cc

  pub grows-group : (part : GroupPart L) (t : Lexeme) (q : GroupPart L) → group_step more part t ≡ Some q → group_spelled phrase q ≡ group_spelled phrase part ++ t ∷ []
  grows-group (leading part) t q e = grows-lead part t q e
  grows-group (naming spec names last) (Mark Comma) q e = part-along _ q _ e (sym (append_assoc (spec_phrase phrase spec) (with_commas name_phrase names ++ Name last ∷ []) (Mark Comma ∷ [])))
  grows-group (going spec row) (Name x) q e = part-along _ q _ e (ap (λ l. spec_phrase phrase spec ++ (l ++ Name x ∷ [])) (more_commas name_phrase row.before row.last) ∙ sym (append_assoc (spec_phrase phrase spec) (row_phrase name_phrase row ++ Mark Comma ∷ []) (Name x ∷ [])))
  grows-group part t q e = absurd cc

direction-wired : (l m : Direction) → direction_more l ≡ Some m → direction_phrase m ≡ direction_phrase l ++ Word Wire ∷ []
direction-wired (Plain way) m e = ap direction_phrase (sym (same_Some (Wired way) m e))
direction-wired (Wired way) m e = absurd cc

lead-wired : (l m : Lead) → lead_more l ≡ Some m → lead_phrase m ≡ lead_phrase l ++ Word Wire ∷ []
lead-wired (Gives (Plain way)) m e = ap lead_phrase (sym (same_Some (Gives (Wired way)) m e))
lead-wired l m e = absurd cc

-- one token more in a declaration of a header
module _ (name : List ℕ) (groups : List (Group Direction)) where
  in_groups : (part more : List Lexeme) (t : Lexeme) → more ≡ part ++ t ∷ [] → header_spelled name (with_commas (group_phrase direction_phrase) groups ++ more) ≡ header_spelled name (with_commas (group_phrase direction_phrase) groups ++ part) ++ t ∷ []
  in_groups part more t e = ap (λ l. header_spelled name (with_commas (group_phrase direction_phrase) groups ++ l)) e ∙ ap (header_spelled name) (sym (append_assoc (with_commas (group_phrase direction_phrase) groups) part (t ∷ [])))

  grows-ends : (part : GroupPart Direction) (t : Lexeme) (q : Partial) → heading_ends name groups part t ≡ Some q → spelled q ≡ spelled (heading name groups part) ++ t ∷ []
  grows-ends (naming spec names last) (Mark RParen) q e = along _ q _ e refl
  grows-ends (going spec row) (Word (word_of way)) q e = along _ q _ e (
      ap (λ l. header_spelled name (l ++ Word (word_of way) ∷ [])) (more_commas (group_phrase direction_phrase) groups (record { spec = spec; names = row }) ∙ append_assoc (with_commas (group_phrase direction_phrase) groups) (spec_phrase direction_phrase spec ++ row_phrase name_phrase row) (Mark Comma ∷ []) ∙ ap (λ l. with_commas (group_phrase direction_phrase) groups ++ l) (append_assoc (spec_phrase direction_phrase spec) (row_phrase name_phrase row) (Mark Comma ∷ [])))
      )
  grows-ends part t q e = absurd cc

  grows-heading : (part : GroupPart Direction) (t : Lexeme) (q : Partial) (more : Option (GroupPart Direction)) → group_step direction_more part t ≡ more → or_else (option_map (heading name groups) more) (heading_ends name groups part t) ≡ Some q → spelled q ≡ spelled (heading name groups part) ++ t ∷ []
  grows-heading part t q None is e = grows-ends part t q e
  grows-heading part t q (Some more) is e = along (heading name groups more) q _ e (in_groups (group_spelled direction_phrase part) (group_spelled direction_phrase more) t (grows-group direction_phrase direction_more direction-wired part t more is))

-- one token more in an item
module _ (head : Head) (items : List Item) where
  grows-declaring : (part : GroupPart Lead) (t : Lexeme) (q : Partial) → declaring_ends head items part t ≡ Some q → spelled q ≡ (body_phrase head items ++ group_spelled lead_phrase part) ++ t ∷ []
  grows-declaring (naming spec names last) (Mark Semi) q e = along _ q _ e (more_items head items (Declares (record { spec = spec; names = record { before = names; last = last } })) (group_spelled lead_phrase (naming spec names last)) (Mark Semi) refl)
  grows-declaring part t q e = absurd cc

  grows-declares : (part : GroupPart Lead) (t : Lexeme) (q : Partial) (more : Option (GroupPart Lead)) → group_step lead_more part t ≡ more → or_else (option_map (λ more. inside head items (declaring more)) more) (declaring_ends head items part t) ≡ Some q → spelled q ≡ (body_phrase head items ++ group_spelled lead_phrase part) ++ t ∷ []
  grows-declares part t q None is e = grows-declaring part t q e
  grows-declares part t q (Some more) is e = along (inside head items (declaring more)) q _ e (behind head items (group_spelled lead_phrase part) t (group_spelled lead_phrase more) (grows-group lead_phrase lead_more lead-wired part t more is))

  pub grows-item : (part : ItemPart) (t : Lexeme) (q : Partial) → item_step head items part t ≡ Some q → spelled q ≡ (body_phrase head items ++ part_spelled part) ++ t ∷ []
  grows-item (declaring part) t q e = grows-declares part t q (group_step lead_more part t) refl e
  grows-item (celled cell) (Name name) q e = along _ q _ e (behind head items (part_spelled (celled cell)) _ _ refl)
  grows-item (named cell name) (Mark LParen) q e = along _ q _ e (behind head items (part_spelled (named cell name)) _ _ refl)
  grows-item (joining cell name conns) (Mark Dot) q e = along _ q _ e (behind head items (part_spelled (joining cell name conns)) _ _ refl)
  grows-item (dotted cell name conns) (Name pin) q e = along _ q _ e (behind head items (part_spelled (dotted cell name conns)) _ _ (within cell name conns _ (Name pin)))
  grows-item (pinned cell name conns pin) (Mark LParen) q e = along _ q _ e (behind head items (part_spelled (pinned cell name conns pin)) _ _ (within cell name conns _ (Mark LParen)))
  grows-item (opened cell name conns pin) (Name net) q e = along _ q _ e (behind head items (part_spelled (opened cell name conns pin)) _ _ (within cell name conns _ (Name net)))
  grows-item (netted cell name conns pin net) (Mark RParen) q e = along _ q _ e (behind head items (part_spelled (netted cell name conns pin net)) _ _ (within cell name conns _ (Mark RParen)))
  grows-item (netted cell name conns pin net) (Mark LBracket) q e = along _ q _ e (behind head items (part_spelled (netted cell name conns pin net)) _ _ (within cell name conns _ (Mark LBracket)))
  grows-item (indexing cell name conns pin net) (Number digits) q e = along _ q _ e (behind head items (part_spelled (indexing cell name conns pin net)) _ _ (within cell name conns _ (Number digits)))
  grows-item (indexed cell name conns pin net digits) (Mark RBracket) q e = along _ q _ e (behind head items (part_spelled (indexed cell name conns pin net digits)) _ _ (within cell name conns _ (Mark RBracket)))
  grows-item (picked cell name conns pin net digits) (Mark RParen) q e = along _ q _ e (behind head items (part_spelled (picked cell name conns pin net digits)) _ _ (within cell name conns _ (Mark RParen)))
  grows-item (joined cell name conns conn) (Mark Comma) q e = along _ q _ e (behind head items (part_spelled (joined cell name conns conn)) _ _ (ap (λ l. Name cell ∷ Name name ∷ Mark LParen ∷ l) (more_commas conn_phrase conns conn)))
  grows-item (joined cell name conns conn) (Mark RParen) q e = along _ q _ e (behind head items (part_spelled (joined cell name conns conn)) _ _ refl)
  grows-item (closed cell name conns conn) (Mark Semi) q e = along _ q _ e (more_items head items (Joins cell name (record { before = conns; last = conn })) (part_spelled (closed cell name conns conn)) (Mark Semi) (ap (λ l. Name cell ∷ Name name ∷ Mark LParen ∷ l) (sym (append_assoc (row_phrase conn_phrase (record { before = conns; last = conn })) (Mark RParen ∷ []) (Mark Semi ∷ [])))))
  grows-item part t q e = absurd cc

-- a step adds its token
pub grows : (p : Partial) (t : Lexeme) (q : Partial) → step p t ≡ Some q → spelled q ≡ spelled p ++ t ∷ []
grows start (Word Module) q e = along _ q _ e refl
grows begun (Name name) q e = along _ q _ e refl
grows (titled name) (Mark LParen) q e = along _ q _ e refl
grows (titled name) (Mark Semi) q e = along _ q _ e refl
grows (listing name []) (Mark RParen) q e = along _ q _ e refl
grows (listing name (x ∷ names)) (Mark RParen) q e = absurd cc
grows (listing name []) (Word (word_of way)) q e = along _ q _ e refl
grows (listing name (x ∷ names)) (Word (word_of way)) q e = absurd cc
grows (listing name names) (Name last) q e = along _ q _ e refl
grows (listed name names last) (Mark Comma) q e = along _ q _ e (ap (header_spelled name) (more_commas name_phrase names last))
grows (listed name names last) (Mark RParen) q e = along _ q _ e refl
grows (heading name groups part) t q e = grows-heading name groups part t q (group_step direction_more part t) refl e
grows (headed name ports) (Mark Semi) q e = along _ q _ e (append-nil (head_phrase (record { name = name; ports = Some ports })))
grows (at_item head items) (Word EndModule) q e = along _ q _ e refl
grows (at_item head items) (Word (word_of way)) q e = along _ q _ e refl
grows (at_item head items) (Word Wire) q e = along _ q _ e refl
grows (at_item head items) (Name cell) q e = along _ q _ e refl
grows (inside head items part) t q e = grows-item head items part t q e
grows (ended head items) End q e = along _ q _ e (sym (append_assoc (body_phrase head items) (Word EndModule ∷ []) (End ∷ [])))
grows p t q e = absurd cc

-- tokens that are taken are added
pub grows-run : (p q : Partial) (ts : List Lexeme) → run p ts ≡ Some q → spelled q ≡ spelled p ++ ts
grows-run p q [] e = ap spelled (sym (same_Some p q e)) ∙ sym (append-nil (spelled p))
grows-run p q (t ∷ ts) e = by (step p t) refl (λ r. grows-run r q ts) e
  where
    by : (next : Option Partial) → step p t ≡ next → ((r : Partial) → run r ts ≡ Some q → spelled q ≡ spelled r ++ ts) → option_and_then (λ r. run r ts) next ≡ Some q → spelled q ≡ spelled p ++ t ∷ ts
    by None s rec e = absurd cc
    by (Some r) s rec e = rec r e ∙ ap (λ l. l ++ ts) (grows p t r s) ∙ append_assoc (spelled p) (t ∷ []) ts

-- what a partial tree comes from
abbrev Comes : Partial → Type 0
Comes p = (q : Partial) × (t : Lexeme) × (step q t ≡ Some p)

-- a list has a last one, or none
pub last_or_none : {X : Type 0} (xs : List X) → (xs ≡ []) ⊎ ((row : Row X) × (xs ≡ all_of row))
last_or_none [] = inl refl
last_or_none (x ∷ xs) = elim (last_or_none xs) [
  | inl none ↦ inr (record { before = []; last = x }, ap (λ l. x ∷ l) none)
  | inr (row, is) ↦ inr (record { before = x ∷ row.before; last = row.last }, ap (λ l. x ∷ l) is)
]

module _ {L : Type 0} (more : L → Option L) where
  part_comes : (part : GroupPart L) → ((l : L) × (part ≡ leading (led l))) ⊎ ((q : GroupPart L) × (t : Lexeme) × (group_step more q t ≡ Some part))
  part_comes (leading (led l)) = inl (l, refl)
  part_comes (leading (bracketed l)) = inr (leading (led l), Mark LBracket, refl)
  part_comes (leading (firsted l first)) = inr (leading (bracketed l), Number first, refl)
  part_comes (leading (coloned l first)) = inr (leading (firsted l first), Mark Colon, refl)
  part_comes (leading (lasted l first last)) = inr (leading (coloned l first), Number last, refl)
  part_comes (leading (ranged l range)) = inr (leading (lasted l range.first range.last), Mark RBracket, refl)
  part_comes (going spec row) = inr (naming spec row.before row.last, Mark Comma, refl)
  part_comes (naming spec names last) = inr (elim (last_or_none names) [
    | inl none ↦ subst (λ l. (q : GroupPart L) × (t : Lexeme) × (group_step more q t ≡ Some (naming spec l last))) (sym none) (by spec.range)
    | inr (row, is) ↦ (going spec row, Name last, ap (λ l. Some (naming spec l last)) (sym is))
  ])
    where
      by : (range : Option Range) → (q : GroupPart L) × (t : Lexeme) × (group_step more q t ≡ Some (naming (record { lead = spec.lead; range = range }) [] last))
      by None = (leading (led spec.lead), Name last, refl)
      by (Some range) = (leading (ranged spec.lead range), Name last, refl)

heading_comes : (name : List ℕ) (groups : List (Group Direction)) (part : GroupPart Direction) → Comes (heading name groups part)
heading_comes name groups part = elim (part_comes direction_more part) [
  | inl (l, is) ↦ subst (λ g. Comes (heading name groups g)) (sym is) (by l)
  | inr (q, t, e) ↦ (heading name groups q, t, ap (λ found. or_else (option_map (heading name groups) found) (heading_ends name groups q t)) e)
]
  where
    by : (l : Direction) → Comes (heading name groups (leading (led l)))
    by (Wired way) = (heading name groups (leading (led (Plain way))), Word Wire, refl)
    by (Plain way) = elim (last_or_none groups) [
      | inl none ↦ (listing name [], Word (word_of way), ap (λ gs. Some (heading name gs (leading (led (Plain way))))) (sym none))
      | inr (row, is) ↦ (heading name row.before (going row.last.spec row.last.names), Word (word_of way), ap (λ gs. Some (heading name gs (leading (led (Plain way))))) (sym is))
    ]

module _ (head : Head) (items : List Item) where
  item_comes : (part : ItemPart) → Comes (inside head items part)
  item_comes (declaring part) = elim (part_comes lead_more part) [
    | inl (l, is) ↦ subst (λ g. Comes (inside head items (declaring g))) (sym is) (by l)
    | inr (q, t, e) ↦ (inside head items (declaring q), t, ap (λ found. or_else (option_map (λ more. inside head items (declaring more)) found) (declaring_ends head items q t)) e)
  ]
    where
      by : (l : Lead) → Comes (inside head items (declaring (leading (led l))))
      by (Gives (Plain way)) = (at_item head items, Word (word_of way), refl)
      by (Gives (Wired way)) = (inside head items (declaring (leading (led (Gives (Plain way))))), Word Wire, refl)
      by Wires = (at_item head items, Word Wire, refl)
  item_comes (celled cell) = (at_item head items, Name cell, refl)
  item_comes (named cell name) = (inside head items (celled cell), Name name, refl)
  item_comes (joining cell name conns) = elim (last_or_none conns) [
    | inl none ↦ (inside head items (named cell name), Mark LParen, ap (λ cs. Some (inside head items (joining cell name cs))) (sym none))
    | inr (row, is) ↦ (inside head items (joined cell name row.before row.last), Mark Comma, ap (λ cs. Some (inside head items (joining cell name cs))) (sym is))
  ]
  item_comes (dotted cell name conns) = (inside head items (joining cell name conns), Mark Dot, refl)
  item_comes (pinned cell name conns pin) = (inside head items (dotted cell name conns), Name pin, refl)
  item_comes (opened cell name conns pin) = (inside head items (pinned cell name conns pin), Mark LParen, refl)
  item_comes (netted cell name conns pin net) = (inside head items (opened cell name conns pin), Name net, refl)
  item_comes (indexing cell name conns pin net) = (inside head items (netted cell name conns pin net), Mark LBracket, refl)
  item_comes (indexed cell name conns pin net digits) = (inside head items (indexing cell name conns pin net), Number digits, refl)
  item_comes (picked cell name conns pin net digits) = (inside head items (indexed cell name conns pin net digits), Mark RBracket, refl)
  item_comes (joined cell name conns conn) = by conn.net.index
    where
      by : (index : Option (List ℕ)) → Comes (inside head items (joined cell name conns (record { pin = conn.pin; net = record { name = conn.net.name; index = index } })))
      by None = (inside head items (netted cell name conns conn.pin conn.net.name), Mark RParen, refl)
      by (Some digits) = (inside head items (picked cell name conns conn.pin conn.net.name digits), Mark RParen, refl)
  item_comes (closed cell name conns conn) = (inside head items (joined cell name conns conn), Mark RParen, refl)

comes : (p : Partial) → (p ≡ start) ⊎ Comes p
comes start = inl refl
comes begun = inr (start, Word Module, refl)
comes (titled name) = inr (begun, Name name, refl)
comes (listing name names) = inr (elim (last_or_none names) [
  | inl none ↦ (titled name, Mark LParen, ap (λ l. Some (listing name l)) (sym none))
  | inr (row, is) ↦ (listed name row.before row.last, Mark Comma, ap (λ l. Some (listing name l)) (sym is))
])
comes (listed name names last) = inr (listing name names, Name last, refl)
comes (heading name groups part) = inr (heading_comes name groups part)
comes (headed name Empty) = inr (listing name [], Mark RParen, refl)
comes (headed name (Names row)) = inr (listed name row.before row.last, Mark RParen, refl)
comes (headed name (Ansi row)) = inr (heading name row.before (naming row.last.spec row.last.names.before row.last.names.last), Mark RParen, refl)
comes (at_item head items) = inr (elim (last_or_none items) [
  | inl none ↦ subst (λ l. Comes (at_item head l)) (sym none) (first head.ports)
  | inr (row, is) ↦ subst (λ l. Comes (at_item head l)) (sym is) (later row.before row.last)
])
  where
    first : (ports : Option Listing) → Comes (at_item (record { name = head.name; ports = ports }) [])
    first None = (titled head.name, Mark Semi, refl)
    first (Some ports) = (headed head.name ports, Mark Semi, refl)

    later : (some : List Item) (item : Item) → Comes (at_item head (some ++ item ∷ []))
    later some (Declares group) = (inside head some (declaring (naming group.spec group.names.before group.names.last)), Mark Semi, refl)
    later some (Joins cell name conns) = (inside head some (closed cell name conns.before conns.last), Mark Semi, refl)
comes (inside head items part) = inr (item_comes head items part)
comes (ended head items) = inr (at_item head items, Word EndModule, refl)
comes (done head items) = inr (ended head items, End, refl)

-- so a partial tree is what its tokens lead to
run_up : (n : ℕ) (p : Partial) → length (spelled p) ≤ n → run start (spelled p) ≡ Some p
run_up zero p few = elim (comes p) [
  | inl is ↦ subst (λ q. run start (spelled q) ≡ Some q) (sym is) refl
  | inr (q, t, e) ↦ absurd (omega (arith, few, ap length (grows q t p e), length-append (spelled q) (t ∷ [])))
]
run_up (suc n) p few = elim (comes p) [
  | inl is ↦ subst (λ q. run start (spelled q) ≡ Some q) (sym is) refl
  | inr (q, t, e) ↦
      let fewer : length (spelled q) ≤ n = omega (arith, few, ap length (grows q t p e), length-append (spelled q) (t ∷ [])) in
      ap (run start) (grows q t p e) ∙ run-append start q (spelled q) (t ∷ []) (run_up n q fewer) ∙ ap (option_and_then (λ r. Some r)) e
]

pub run-spelled : (p : Partial) → run start (spelled p) ≡ Some p
run-spelled p = run_up (length (spelled p)) p (omega arith)

-- and what is spelled with tokens more is what they lead to
pub run-between : (p q : Partial) (ts : List Lexeme) → spelled q ≡ spelled p ++ ts → run p ts ≡ Some q
run-between p q ts e = sym (run-append start p (spelled p) ts (run-spelled p)) ∙ ap (run start) (sym e) ∙ run-spelled q

-- what leads to the end
abbrev pub to_end : List Lexeme
to_end = Word EndModule ∷ End ∷ []

abbrev pub lead_rest : {L : Type 0} → LeadPart L → List Lexeme → List Lexeme
lead_rest (led l) rest = Name (codes "a") ∷ rest
lead_rest (bracketed l) rest = Number (codes "0") ∷ Mark Colon ∷ Number (codes "0") ∷ Mark RBracket ∷ Name (codes "a") ∷ rest
lead_rest (firsted l first) rest = Mark Colon ∷ Number (codes "0") ∷ Mark RBracket ∷ Name (codes "a") ∷ rest
lead_rest (coloned l first) rest = Number (codes "0") ∷ Mark RBracket ∷ Name (codes "a") ∷ rest
lead_rest (lasted l first last) rest = Mark RBracket ∷ Name (codes "a") ∷ rest
lead_rest (ranged l range) rest = Name (codes "a") ∷ rest

abbrev pub group_rest : {L : Type 0} → GroupPart L → List Lexeme → List Lexeme
group_rest (leading part) rest = lead_rest part rest
group_rest (naming spec names last) rest = rest
group_rest (going spec names) rest = Name (codes "a") ∷ rest

abbrev pub item_rest : ItemPart → List Lexeme
item_rest (declaring part) = group_rest part (Mark Semi ∷ to_end)
item_rest (celled cell) = Name (codes "a") ∷ Mark LParen ∷ Mark Dot ∷ Name (codes "a") ∷ Mark LParen ∷ Name (codes "a") ∷ Mark RParen ∷ Mark RParen ∷ Mark Semi ∷ to_end
item_rest (named cell name) = Mark LParen ∷ Mark Dot ∷ Name (codes "a") ∷ Mark LParen ∷ Name (codes "a") ∷ Mark RParen ∷ Mark RParen ∷ Mark Semi ∷ to_end
item_rest (joining cell name conns) = Mark Dot ∷ Name (codes "a") ∷ Mark LParen ∷ Name (codes "a") ∷ Mark RParen ∷ Mark RParen ∷ Mark Semi ∷ to_end
item_rest (dotted cell name conns) = Name (codes "a") ∷ Mark LParen ∷ Name (codes "a") ∷ Mark RParen ∷ Mark RParen ∷ Mark Semi ∷ to_end
item_rest (pinned cell name conns pin) = Mark LParen ∷ Name (codes "a") ∷ Mark RParen ∷ Mark RParen ∷ Mark Semi ∷ to_end
item_rest (opened cell name conns pin) = Name (codes "a") ∷ Mark RParen ∷ Mark RParen ∷ Mark Semi ∷ to_end
item_rest (netted cell name conns pin net) = Mark RParen ∷ Mark RParen ∷ Mark Semi ∷ to_end
item_rest (indexing cell name conns pin net) = Number (codes "0") ∷ Mark RBracket ∷ Mark RParen ∷ Mark RParen ∷ Mark Semi ∷ to_end
item_rest (indexed cell name conns pin net digits) = Mark RBracket ∷ Mark RParen ∷ Mark RParen ∷ Mark Semi ∷ to_end
item_rest (picked cell name conns pin net digits) = Mark RParen ∷ Mark RParen ∷ Mark Semi ∷ to_end
item_rest (joined cell name conns conn) = Mark RParen ∷ Mark Semi ∷ to_end
item_rest (closed cell name conns conn) = Mark Semi ∷ to_end

abbrev pub rest_of : Partial → List Lexeme
rest_of start = Word Module ∷ Name (codes "a") ∷ Mark Semi ∷ to_end
rest_of begun = Name (codes "a") ∷ Mark Semi ∷ to_end
rest_of (titled name) = Mark Semi ∷ to_end
rest_of (listing name names) = Name (codes "a") ∷ Mark RParen ∷ Mark Semi ∷ to_end
rest_of (listed name names last) = Mark RParen ∷ Mark Semi ∷ to_end
rest_of (heading name groups part) = group_rest part (Mark RParen ∷ Mark Semi ∷ to_end)
rest_of (headed name ports) = Mark Semi ∷ to_end
rest_of (at_item head items) = to_end
rest_of (inside head items part) = item_rest part
rest_of (ended head items) = End ∷ []
rest_of (done head items) = []

-- what is done
pub record EndsWell (p : Partial) : Type 0 where
  pub text : Text
  pub runs : run p (rest_of p) ≡ Some (done text.head text.items)

-- every partial tree can be ended
pub ends : (p : Partial) → EndsWell p
ends (heading name groups (leading (led l))) = record { text = record { head = _; items = _ }; runs = refl }
ends (inside head items (declaring (leading (led l)))) = record { text = record { head = _; items = _ }; runs = refl }
ends p = record { text = record { head = _; items = _ }; runs = refl }

-- the tokens of a partial tree begin a shaped list
pub viable : (p : Partial) → BeginsShaped (spelled p)
viable p = let end = ends p in (rest_of p, (end.text, sym (grows-run p (done end.text.head end.text.items) (rest_of p) end.runs)))

-- tokens that are added, and then one that isn't taken
pub not_taken : (p q : Partial) (t : Lexeme) (rest : List Lexeme) → step p t ≡ None → run p (t ∷ rest) ≡ Some q → ⊥
not_taken p q t rest none e = none-some q (sym (ap (λ next. option_and_then (λ r. run r rest) next) none) ∙ e)

-- a token that isn't taken begins no shaped list behind them
pub stuck : (p : Partial) (t : Lexeme) → step p t ≡ None → BeginsShaped (spelled p ++ t ∷ []) → ⊥
stuck p t none (rest, (text, is)) =
    let whole : spelled p ++ t ∷ rest ≡ spelled (done text.head text.items) = sym (append_assoc (spelled p) (t ∷ []) rest) ∙ is in
    not_taken p (done text.head text.items) t rest none (sym (run-append start p (spelled p) (t ∷ rest) (run-spelled p)) ∙ ap (run start) whole ∙ run-spelled (done text.head text.items))

-- partial trees with the same tokens are one
pub same_tree : (p q : Partial) → spelled p ≡ spelled q → p ≡ q
same_tree p q e = same_Some p q (sym (run-spelled p) ∙ ap (run start) e ∙ run-spelled q)

-- what is run has a partial tree in between
pub front_run : (p q : Partial) (xs ys : List Lexeme) → run p (xs ++ ys) ≡ Some q → (r : Partial) × (run p xs ≡ Some r)
front_run p q [] ys e = (p, refl)
front_run p q (x ∷ xs) ys e = by (step p x) (λ r. front_run r q xs ys) e
  where
    by : (next : Option Partial) → ((r : Partial) → run r (xs ++ ys) ≡ Some q → (s : Partial) × (run r xs ≡ Some s)) → option_and_then (λ r. run r (xs ++ ys)) next ≡ Some q → (s : Partial) × (option_and_then (λ r. run r xs) next ≡ Some s)
    by None rec e = absurd cc
    by (Some r) rec e = rec r e

-- a token that isn't taken breaks
pub breaks-untaken : (p : Partial) (t : Lexeme) → step p t ≡ None → Breaks (spelled p) t
breaks-untaken p t none = inl (viable p, stuck p t none)

-- a token that is taken breaks where it breaks a rule
pub breaks-taken : (p q : Partial) (t : Lexeme) → step p t ≡ Some q → Breaks (spelled p) t → BreaksRule (spelled p) t
breaks-taken p q t some (inl breaks) = absurd (breaks.1 (subst BeginsShaped (grows p t q some) (viable q)))
breaks-taken p q t some (inr breaks) = breaks

-- what is empty has no token, and a name is one
pub no_token : (front rest : List Lexeme) (t : Lexeme) → [] ≡ front ++ t ∷ rest → ⊥
no_token front rest t e = omega (arith, ap length e, length-append front (t ∷ rest))

pub name_in : {a b : List ℕ} → Name a ≡ Name b → a ≡ b
name_in e = cc

-- one token more that doesn't break
pub unbroken-more : (xs : List Lexeme) (t : Lexeme) → NoneBreaks xs → ¬ Breaks xs t → NoneBreaks (xs ++ t ∷ [])
unbroken-more xs t none here before u after e = elim (split_push xs t before u after e) [
  | inl (same, last) ↦ λ breaks. here (subst (λ z. Breaks z t) same (subst (λ z. Breaks before z) last breaks))
  | inr (left, front) ↦ none before u left front
]
