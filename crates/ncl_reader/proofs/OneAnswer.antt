-- A text has one answer.
use Rattle.ncl_reader.proofs.Terms.{◌≡◌, List, [], ◌∷◌, ◌++◌, inl, inr, ◌⊎◌, refl, sym, ap, ◌∙◌, subst, map-append, NetFault, Syntax, UnknownCell, BadPins, Unsupported, Build, Memory, Lexeme, Placed, lexemes, IsFaultAt, IsRefusedAt, Breaks, NoneBreaks, map, unwrap_or, flat_map, pins_of, cell_name_of-distinct, PartCell, Parts, Text, Head, Item, Joined, joined_in, IsCellOf, AreCellsOf, Says, net_on, ReadsTokens, done, ℕ, list_once, IsLexed, Reads, IsRefused, placed_in}
use Rattle.ncl_reader.proofs.Steps.{same_tree}

module _ (before : List Lexeme) where
  one_fault_at : (t : Placed) (fault other : NetFault) → IsFaultAt before t fault → IsFaultAt before t other → fault ≡ other
  one_fault_at t (UnknownCell p) (UnknownCell q) one other = ap UnknownCell (one.0 ∙ sym other.0)
  one_fault_at t (UnknownCell p) (BadPins q) one other = absurd (other.1 one.1)
  one_fault_at t (UnknownCell p) (Unsupported q) one other = absurd (other.1 one.1)
  one_fault_at t (UnknownCell p) (Syntax q) one other = absurd (other.1 one.1)
  one_fault_at t (BadPins p) (UnknownCell q) one other = absurd (one.1 other.1)
  one_fault_at t (BadPins p) (BadPins q) one other = ap BadPins (one.0 ∙ sym other.0)
  one_fault_at t (BadPins p) (Unsupported q) one other = absurd (other.2 one.2)
  one_fault_at t (BadPins p) (Syntax q) one other = absurd (other.2 one.2)
  one_fault_at t (Unsupported p) (UnknownCell q) one other = absurd (one.1 other.1)
  one_fault_at t (Unsupported p) (BadPins q) one other = absurd (one.2 other.2)
  one_fault_at t (Unsupported p) (Unsupported q) one other = ap Unsupported (one.0 ∙ sym other.0)
  one_fault_at t (Unsupported p) (Syntax q) one other = absurd (elim other.3 [
    | inl misread ↦ one.3 misread
    | inr other_case ↦ other_case one.4
  ])
  one_fault_at t (Syntax p) (UnknownCell q) one other = absurd (one.1 other.1)
  one_fault_at t (Syntax p) (BadPins q) one other = absurd (one.2 other.2)
  one_fault_at t (Syntax p) (Unsupported q) one other = absurd (elim one.3 [
    | inl misread ↦ other.3 misread
    | inr other_case ↦ other_case other.4
  ])
  one_fault_at t (Syntax p) (Syntax q) one other = ap Syntax (one.0 ∙ sym other.0)
  one_fault_at t (Build f) fault one other = absurd one
  one_fault_at t Memory fault one other = absurd one
  one_fault_at t fault (Build f) one other = absurd other
  one_fault_at t fault Memory one other = absurd other

-- of two tokens of a list one stands before the other, or they are one
order : (before other : List Placed) (t u : Placed) (after rest : List Placed) → before ++ t ∷ after ≡ other ++ u ∷ rest → ((before ≡ other) × (t ≡ u)) ⊎ (((ys : List Placed) × (other ≡ before ++ t ∷ ys)) ⊎ ((ys : List Placed) × (before ≡ other ++ u ∷ ys)))
order [] [] t u after rest e = inl (refl, let same : t ≡ u = cc in same)
order [] (b ∷ bs) t u after rest e = inr (inl (bs, let same : b ≡ t = cc in ap (λ z. z ∷ bs) same))
order (b ∷ bs) [] t u after rest e = inr (inr (bs, let same : b ≡ u = cc in ap (λ z. z ∷ bs) same))
order (b ∷ bs) (c ∷ cs) t u after rest e =
    let heads : b ≡ c = cc in
    let tails : bs ++ t ∷ after ≡ cs ++ u ∷ rest = cc in
    elim (order bs cs t u after rest tails) [
      | inl same ↦ inl (ap (λ l. b ∷ l) same.0 ∙ ap (λ z. z ∷ cs) heads, same.1)
      | inr (inl first) ↦ inr (inl (first.0, ap (λ l. c ∷ l) first.1 ∙ ap (λ z. z ∷ (bs ++ t ∷ first.0)) (sym heads)))
      | inr (inr second) ↦ inr (inr (second.0, ap (λ l. b ∷ l) second.1 ∙ ap (λ z. z ∷ (cs ++ u ∷ second.0)) heads))
    ]

-- a token that breaks stands in no list in which none breaks
earlier : (before other ys : List Placed) (t : Placed) → other ≡ before ++ t ∷ ys → NoneBreaks (lexemes other) → Breaks (lexemes before) t.lexeme → ⊥
earlier before other ys t e none breaks = none (lexemes before) t.lexeme (lexemes ys) (ap lexemes e ∙ map-append (λ (p : Placed). p.lexeme) before (t ∷ ys)) breaks

pub one_fault : (ts : List Placed) (fault other : NetFault) → IsRefusedAt ts fault → IsRefusedAt ts other → fault ≡ other
one_fault ts fault other one two =
    elim (order one.before two.before one.token two.token one.after two.after (sym one.parts ∙ two.parts)) [
      | inl same ↦ one_fault_at (lexemes two.before) two.token fault other (subst (λ t. IsFaultAt (lexemes two.before) t fault) same.1 (subst (λ b. IsFaultAt (lexemes b) one.token fault) same.0 one.is)) two.is
      | inr (inl first) ↦ absurd (earlier one.before two.before first.0 one.token first.1 two.unbroken one.breaks)
      | inr (inr second) ↦ absurd (earlier two.before one.before second.0 two.token second.1 one.unbroken two.breaks)
    ]

one_cell : (j : Joined) (c d : PartCell) → IsCellOf j c → IsCellOf j d → c ≡ d
one_cell j c d one two =
    let kinds : c.kind ≡ d.kind = cell_name_of-distinct c.kind d.kind (one.kind ∙ sym two.kind) in
    let names : c.name ≡ d.name = one.name ∙ sym two.name in
    let pins : c.pins ≡ d.pins = one.pins ∙ ap (λ k. map (λ pin. unwrap_or (net_on j.conns pin) []) (pins_of k)) kinds ∙ sym two.pins in
    λ i. record { kind = kinds i; name = names i; pins = pins i }

one_cells : (js : List Joined) (cs ds : List PartCell) → AreCellsOf js cs → AreCellsOf js ds → cs ≡ ds
one_cells [] [] [] one two = refl
one_cells [] [] (d ∷ ds) one two = absurd two
one_cells (j ∷ js) (c ∷ cs) [] one two = absurd two
one_cells (j ∷ js) (c ∷ cs) (d ∷ ds) one two =
    let heads = one_cell j c d one.0 two.0 in
    let tails = one_cells js cs ds one.1 two.1 in
    λ i. heads i ∷ tails i
one_cells js cs ds one two = absurd one

one_says : (text : Text) (a b : Parts) → Says text a → Says text b → a ≡ b
one_says text a b one two =
    let titles = one.title ∙ sym two.title in
    let ports = one.ports ∙ sym two.ports in
    let cells = one_cells (flat_map joined_in text.items) a.cells b.cells one.cells two.cells in
    λ i. record { «module» = titles i; ports = ports i; cells = cells i }

text_in : {head top : Head} {items its : List Item} → done head items ≡ done top its → (head ≡ top) × (items ≡ its)
text_in e = (cc, cc)

pub one_parts : (ts : List Placed) (a b : Parts) → ReadsTokens ts a → ReadsTokens ts b → a ≡ b
one_parts ts a b one two =
    let same = text_in (same_tree (done one.text.head one.text.items) (done two.text.head two.text.items) (sym one.derives ∙ two.derives)) in
    let texts : one.text ≡ two.text = λ i. record { head = same.0 i; items = same.1 i } in
    one_says two.text a b (subst (λ t. Says t a) texts one.says) two.says

pub one_lexed : (bytes : List ℕ) (ts us : List Placed) → IsLexed bytes ts → IsLexed bytes us → ts ≡ us
one_lexed bytes ts us (tokens, stop, are, is) (others, other, be, os) =
    let same = list_once 0 bytes tokens others stop other are be in
    is ∙ (λ i. placed_in bytes (same.0 i) (same.1 i)) ∙ sym os

pub parts_once : (bytes : List ℕ) (a b : Parts) → Reads bytes a → Reads bytes b → a ≡ b
parts_once bytes a b (ts, lexed, one) (us, other, two) = one_parts us a b (subst (λ l. ReadsTokens l a) (one_lexed bytes ts us lexed other) one) two

pub fault_once : (bytes : List ℕ) (a b : NetFault) → IsRefused bytes a → IsRefused bytes b → a ≡ b
fault_once bytes a b (ts, lexed, one) (us, other, two) = one_fault us a b (subst (λ l. IsRefusedAt l a) (one_lexed bytes ts us lexed other) one) two

apart : (ts : List Placed) (parts : Parts) (fault : NetFault) → ReadsTokens ts parts → IsRefusedAt ts fault → ⊥
apart ts parts fault one two = one.unbroken (lexemes two.before) two.token.lexeme (lexemes two.after) (ap lexemes two.parts ∙ map-append (λ (p : Placed). p.lexeme) two.before (two.token ∷ two.after)) two.breaks

pub never_both : (bytes : List ℕ) (parts : Parts) (fault : NetFault) → Reads bytes parts → IsRefused bytes fault → ⊥
never_both bytes parts fault (ts, lexed, one) (us, other, two) = apart us parts fault (subst (λ l. ReadsTokens l parts) (one_lexed bytes ts us lexed other) one) two
