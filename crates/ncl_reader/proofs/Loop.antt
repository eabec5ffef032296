-- The loop over tokens, and what is kept of what was read.
pub use Rattle.ncl_reader.proofs.Terms.{[], ◌≡◌, ℕ, List, ◌∷◌, ◌++◌, None, inl, inr, ◌⊎◌, refl, sym, ap, ◌∙◌, subst, map-append, NetFault, Syntax, End, Bad, Placed, lexemes, Head, Item, text_phrase, Breaks, BreaksRule, NoneBreaks, IsFaultAt, IsRefusedAt, led, leading, Partial, start, heading, ended, done, inside, declaring, spelled, place_of, ◌<◌, length, arith, Parts, Place, Draft, listing, HoldsAt, Takes, SaysAt, ◌+◌, ◌≤◌, map, drop, append_assoc, Option, Some, Ok, Err, Result, slice_range, length-append, length-map, Token, IsSpace, AreTokens, TokensOf, IsNextToken, IsBadByte, Stop, at_end, at_bad, none_left, at_bad_byte, TokensData, IsAnswer, place_after, name_of, list_once, next_left, tokens_few, Memory, TokenFault, BadByte, Lexeme, lexeme_of, placed_of, stop_of, placed_in, IsLexed, Reads, IsRefused, IsReadFault, ◌-◌, some_list, meant, TakesOrBreaks}
use Rattle.ncl_reader.specs.declared.place.Place.TheVariants as place
use Rattle.ncl_reader.proofs.Steps.{step, grows, breaks-untaken, breaks-taken, unbroken-more, no_token}

-- the tokens before are those of a partial tree, and none of them breaks
pub record Stands (before : List Placed) : Type 0 where
  pub tree : Partial
  pub is : spelled tree ≡ lexemes before
  pub unbroken : NoneBreaks (lexemes before)

abbrev pub stands-first : Stands []
stands-first = record { tree = start; is = refl; unbroken = λ before t after e. absurd (no_token before after t e) }

pub lexemes-more : (before : List Placed) (t : Placed) → lexemes (before ++ t ∷ []) ≡ lexemes before ++ t.lexeme ∷ []
lexemes-more before t = map-append (λ (p : Placed). p.lexeme) before (t ∷ [])

module _ (before : List Placed) (stands : Stands before) where
  -- a token is taken
  pub unbroken_by : (t : Placed) → (Breaks (spelled stands.tree) t.lexeme → ⊥) → NoneBreaks (lexemes (before ++ t ∷ []))
  unbroken_by t keeps = subst NoneBreaks (sym (lexemes-more before t)) (unbroken-more (lexemes before) t.lexeme stands.unbroken (λ breaks. keeps (subst (λ l. Breaks l t.lexeme) (sym stands.is) breaks)))

  abbrev pub stands-more : (t : Placed) (q : Partial) → spelled q ≡ spelled stands.tree ++ t.lexeme ∷ [] → (Breaks (spelled stands.tree) t.lexeme → ⊥) → Stands (before ++ t ∷ [])
  stands-more t q more keeps = record { tree = q; is = more ∙ ap (λ l. l ++ t.lexeme ∷ []) stands.is ∙ sym (lexemes-more before t); unbroken = unbroken_by t keeps }

  -- a token breaks
  pub stands-broken : (after : List Placed) (t : Placed) (fault : NetFault) → Breaks (spelled stands.tree) t.lexeme → IsFaultAt (spelled stands.tree) t fault → IsRefusedAt (before ++ t ∷ after) fault
  stands-broken after t fault breaks is = record {
    before = before;
    token = t;
    after = after;
    parts = refl;
    unbroken = stands.unbroken;
    breaks = subst (λ l. Breaks l t.lexeme) stands.is breaks;
    is = subst (λ l. IsFaultAt l t fault) stands.is is;
  }

-- the end of the text is taken behind `endmodule` alone, and a bad byte nowhere
pub bad-untaken : (p : Partial) → step p Bad ≡ None
bad-untaken (heading name before (leading (led l))) = refl
bad-untaken (inside head items (declaring (leading (led l)))) = refl
bad-untaken p = refl

pub end-cases : (p : Partial) → (step p End ≡ None) ⊎ ((head : Head) × (items : List Item) × (p ≡ ended head items))
end-cases (heading name before (leading (led l))) = inl refl
end-cases (inside head items (declaring (leading (led l)))) = inl refl
end-cases (ended head items) = inr (head, items, refl)
end-cases p = inl refl

end-untaken : (p : Partial) → (place_of p ≡ place.End → ⊥) → step p End ≡ None
end-untaken p other = elim (end-cases p) [
  | inl none ↦ none
  | inr (head, items, is) ↦ absurd (other (ap place_of is))
]

-- either of them is a fault of syntax at its place
pub cut-end : (p : Partial) (at : ℕ) → IsFaultAt (spelled p) (record { lexeme = End; place = at }) (Syntax at)
cut-end p at = (refl, λ none. none, λ none. none, inr (λ none. none))

module _ (before : List Placed) (stands : Stands before) (at : ℕ) where
  pub stands-bad : IsRefusedAt (before ++ record { lexeme = Bad; place = at } ∷ []) (Syntax at)
  stands-bad = stands-broken before stands [] (record { lexeme = Bad; place = at }) (Syntax at) (breaks-untaken stands.tree Bad (bad-untaken stands.tree)) (refl, λ none. none, λ none. none, inr (λ none. none))

  pub stands-short : (place_of stands.tree ≡ place.End → ⊥) → IsRefusedAt (before ++ record { lexeme = End; place = at } ∷ []) (Syntax at)
  stands-short other = stands-broken before stands [] (record { lexeme = End; place = at }) (Syntax at) (breaks-untaken stands.tree End (end-untaken stands.tree other)) (cut-end stands.tree at)

  -- the end of the text behind `endmodule`
  pub stands-whole : (head : Head) (items : List Item) → stands.tree ≡ ended head items → (lexemes (before ++ record { lexeme = End; place = at } ∷ []) ≡ text_phrase (record { head = head; items = items })) × NoneBreaks (lexemes (before ++ record { lexeme = End; place = at } ∷ []))
  stands-whole head items is =
      let t : Placed = record { lexeme = End; place = at } in
      let all = done head items in
      let here : lexemes before ≡ spelled (ended head items) = sym stands.is ∙ ap spelled is in
      let derived : spelled all ≡ spelled (ended head items) ++ End ∷ [] = grows (ended head items) End all refl in (
        lexemes-more before t ∙ ap (λ l. l ++ End ∷ []) here ∙ sym derived,
        unbroken_by before stands t (λ breaks. let rule : BreaksRule (spelled (ended head items)) End = breaks-taken (ended head items) all End refl (subst (λ p. Breaks (spelled p) End) is breaks) in rule),
      )

-- the tokens before are read, and the draft has what they say
pub record Holds (before : List Placed) (place : Place) (draft : Draft) : Type 0 where
  pub stands : Stands before
  pub holds : HoldsAt place draft stands.tree

-- what is kept at a place is of a tree at that place
listing-place : (title : List ℕ) (names : List (List ℕ)) → 0 < length names → place_of (listing title names) ≡ place.Port
listing-place title [] some = absurd (omega arith)
listing-place title (n ∷ names) some = refl

pub holds-place : (at : Place) (draft : Draft) (p : Partial) → HoldsAt at draft p → place_of p ≡ at
holds-place place.Port draft p (kept, (names, is, some, read)) = ap place_of is ∙ listing-place draft.title.now names some
holds-place place.Module draft p (kept, (is, bare)) = ap place_of is
holds-place place.ModuleName draft p (kept, (is, bare)) = ap place_of is
holds-place place.AfterModuleName draft p (kept, (is, bare)) = ap place_of is
holds-place place.FirstPort draft p (kept, (is, bare)) = ap place_of is
holds-place place.AfterPort draft p (kept, (names, last, is, read)) = ap place_of is
holds-place (place.HeaderLead at) draft p (kept, (groups, part, is, same, leads, read)) = ap place_of is ∙ ap place.HeaderLead same
holds-place place.HeaderName draft p (kept, (groups, spec, row, is, said, read)) = ap place_of is
holds-place place.AfterHeaderName draft p (kept, (groups, spec, names, last, is, said, read)) = ap place_of is
holds-place place.AfterPorts draft p (kept, (ports, is, body)) = ap place_of is
holds-place place.Item draft p (kept, (head, items, is, body)) = ap place_of is
holds-place (place.Lead at) draft p (kept, (head, items, part, is, same, leads, early, body)) = ap place_of is ∙ ap place.Lead same
holds-place place.Declared draft p (kept, (head, items, spec, row, is, said, early, body)) = ap place_of is
holds-place place.AfterDeclared draft p (kept, (head, items, spec, names, last, is, said, early, body)) = ap place_of is
holds-place place.InstanceName draft p (kept, (head, items, is, body, joins)) = ap place_of is
holds-place place.Connections draft p (kept, (head, items, is, body, joins)) = ap place_of is
holds-place place.Connection draft p (kept, (head, items, conns, is, body, joins)) = ap place_of is
holds-place place.Pin draft p (kept, (head, items, conns, is, body, joins)) = ap place_of is
holds-place place.PinNet draft p (kept, (head, items, conns, is, body, joins)) = ap place_of is
holds-place place.Net draft p (kept, (head, items, conns, is, body, joins)) = ap place_of is
holds-place place.AfterNet draft p (kept, (head, items, conns, is, body, joins)) = ap place_of is
holds-place place.Index draft p (kept, ((head, items, conns, is, body, joins), vector)) = ap place_of is
holds-place place.AfterIndex draft p (kept, (digits, (head, items, conns, is, body, joins), index)) = ap place_of is
holds-place place.NetEnd draft p (kept, (digits, (head, items, conns, is, body, joins), index)) = ap place_of is
holds-place place.AfterConnection draft p (kept, (head, items, conns, conn, is, body, joins)) = ap place_of is
holds-place place.AfterInstance draft p (kept, (head, items, conns, conn, is, body)) = ap place_of is
holds-place place.End draft p (kept, (head, items, is, body)) = ap place_of is

-- the tokens before are read, and these are left
pub record LoopAt (bytes : List ℕ) (at : ℕ) (here : Place) (draft : Draft) : Type 0 where
  pub before : List Placed
  pub left : List Token
  pub stop : Stop
  pub are : AreTokens at (drop at bytes) left stop
  pub lexed : IsLexed bytes (before ++ placed_in bytes left stop)
  pub kept : Holds before here draft

pub loop-first : (bytes : List ℕ) (draft : Draft) (tokens : List Token) (stop : Stop) → TokensOf bytes tokens stop → HoldsAt place.Module draft start → LoopAt bytes 0 place.Module draft
loop-first bytes draft tokens stop are holds = record { before = []; left = tokens; stop = stop; are = are; lexed = (tokens, stop, are, refl); kept = record { stands = stands-first; holds = holds } }

module _ (bytes : List ℕ) (at : ℕ) (here : Place) (draft : Draft) (loop : LoopAt bytes at here draft) where
  pub loop-more : (after : Place) (new : Draft) (token : Token) → IsNextToken at (drop at bytes) token (drop token.end bytes) → Takes loop.kept.stands.tree (placed_of bytes token).lexeme after new → LoopAt bytes token.end after new
  loop-more after new token next takes =
      let (others, is, are) = next_left at (drop at bytes) loop.left loop.stop token (drop token.end bytes) loop.are next in
      record {
        before = loop.before ++ placed_of bytes token ∷ [];
        left = others;
        stop = loop.stop;
        are = are;
        lexed = subst (IsLexed bytes) (sym (append_assoc loop.before (placed_of bytes token ∷ []) (placed_in bytes others loop.stop))) (subst (λ l. IsLexed bytes (loop.before ++ placed_in bytes l loop.stop)) is loop.lexed);
        kept = record { stands = stands-more loop.before loop.kept.stands (placed_of bytes token) takes.tree takes.grows takes.unbroken; holds = takes.holds };
      }

  pub loop-broken : (token : Token) (fault : NetFault) → IsNextToken at (drop at bytes) token (drop token.end bytes) → Breaks (spelled loop.kept.stands.tree) (placed_of bytes token).lexeme → IsFaultAt (spelled loop.kept.stands.tree) (placed_of bytes token) fault → IsRefused bytes fault
  loop-broken token fault next breaks is-fault =
      let (others, is, are) = next_left at (drop at bytes) loop.left loop.stop token (drop token.end bytes) loop.are next in
      (loop.before ++ placed_of bytes token ∷ placed_in bytes others loop.stop, subst (λ l. IsLexed bytes (loop.before ++ placed_in bytes l loop.stop)) is loop.lexed, stands-broken loop.before loop.kept.stands (placed_in bytes others loop.stop) (placed_of bytes token) fault breaks is-fault)

  -- nothing is left but the end, or a bad byte
  stopped : (stop : Stop) → AreTokens at (drop at bytes) [] stop → IsLexed bytes (loop.before ++ stop_of bytes stop ∷ [])
  stopped stop ends =
      let same = list_once at (drop at bytes) loop.left [] loop.stop stop loop.are ends in
      subst (λ s. IsLexed bytes (loop.before ++ placed_in bytes [] s)) same.1 (subst (λ l. IsLexed bytes (loop.before ++ placed_in bytes l loop.stop)) same.0 loop.lexed)

  pub loop-bad : (bad : ℕ) → IsBadByte at (drop at bytes) bad → IsRefused bytes (Syntax bad)
  loop-bad bad breaks = (_, stopped (at_bad bad) (at_bad_byte breaks), stands-bad loop.before loop.kept.stands bad)

  pub loop-short : IsSpace (drop at bytes) [] → (place_of loop.kept.stands.tree ≡ place.End → ⊥) → IsRefused bytes (Syntax (length bytes))
  loop-short space other = (_, stopped at_end (none_left space), stands-short loop.before loop.kept.stands (length bytes) other)

-- what an answer says of the text itself
module _ (bytes b : List ℕ) (at : ℕ) (result : Result (Option Token) TokenFault) (same : b ≡ bytes) (answer : IsAnswer b at result) where
  pub next-space : result ≡ Ok None → IsSpace (drop at bytes) []
  next-space is = subst (λ b. IsSpace (drop at b) []) same (subst (IsAnswer b at) is answer)

  pub next-bad : (bad : ℕ) → result ≡ Err (BadByte bad) → IsBadByte at (drop at bytes) bad
  next-bad bad is = subst (λ b. IsBadByte at (drop at b) bad) same (subst (IsAnswer b at) is answer)

-- a token that was read is the next, the reader stands behind it, and it is read so
pub record IsReadAt (bytes : List ℕ) (at : ℕ) (token : Token) (t : Lexeme) (new : TokensData) : Type 0 where
  pub next : IsNextToken at (drop at bytes) token (drop token.end bytes)
  pub text : new.bytes ≡ bytes
  pub behind : new.place ≡ token.end
  pub lexeme : t ≡ (placed_of bytes token).lexeme

pub read-token : (bytes : List ℕ) (old new : TokensData) (result : Result (Option Token) TokenFault) (token : Token) (t : Lexeme) → old.bytes ≡ bytes → IsAnswer old.bytes old.place result → new ≡ record { bytes = old.bytes; place = place_after old result } → result ≡ Ok (Some token) → t ≡ lexeme_of token.kind (name_of token.kind (slice_range new.bytes token.start token.end)) → IsReadAt bytes old.place token t new
read-token bytes old new result token t same answer after is read = record {
  next = subst (λ b. IsNextToken old.place (drop old.place b) token (drop token.end b)) same (subst (IsAnswer old.bytes old.place) is answer).0;
  text = ap (λ d. d.bytes) after ∙ same;
  behind = ap (λ d. d.place) after ∙ ap (place_after old) is;
  lexeme = read ∙ ap (λ l. lexeme_of token.kind (name_of token.kind (slice_range l token.start token.end))) (ap (λ d. d.bytes) after ∙ same);
}

pub refused-fault : (bytes : List ℕ) (fault : NetFault) → IsRefused bytes fault → IsReadFault bytes fault
refused-fault bytes Memory is = tt
refused-fault bytes fault is = is

pub whole-at : (bytes : List ℕ) (at : ℕ) (here : Place) (draft : Draft) → here ≡ place.End → LoopAt bytes at here draft → IsSpace (drop at bytes) [] → (parts : Parts) → ((p : Partial) → HoldsAt place.End draft p → SaysAt p parts) → Reads bytes parts
whole-at bytes at here draft is loop space parts says =
    let ends = subst (λ h. LoopAt bytes at h draft) is loop in
    let (head, items, same, told) = says ends.kept.stands.tree ends.kept.holds in
    let (derives, unbroken) = stands-whole ends.before ends.kept.stands (length bytes) head items same in
    (_, stopped bytes at place.End draft ends at_end (none_left space), record { text = record { head = head; items = items }; derives = derives; unbroken = unbroken; says = told })

-- what is read are no more tokens than bytes
pub few_before : (bytes : List ℕ) (at : ℕ) (here : Place) (draft : Draft) (loop : LoopAt bytes at here draft) → length (spelled loop.kept.stands.tree) ≤ length bytes
few_before bytes at here draft loop =
    let (tokens, stop, are, is) = loop.lexed in
    let tree : length (spelled loop.kept.stands.tree) ≡ length loop.before = ap length loop.kept.stands.is ∙ length-map loop.before _ in
    let whole : length (loop.before ++ placed_in bytes loop.left loop.stop) ≡ length loop.before + length (placed_in bytes loop.left loop.stop) = length-append loop.before (placed_in bytes loop.left loop.stop) in
    let rest : length (placed_in bytes loop.left loop.stop) ≡ length (map (placed_of bytes) loop.left) + 1 = length-append (map (placed_of bytes) loop.left) (stop_of bytes loop.stop ∷ []) in
    let placed : length (placed_in bytes tokens stop) ≡ length tokens + 1 = length-append (map (placed_of bytes) tokens) (stop_of bytes stop ∷ []) ∙ ap (λ n. n + 1) (length-map tokens (placed_of bytes)) in
    let same : length (loop.before ++ placed_in bytes loop.left loop.stop) ≡ length (placed_in bytes tokens stop) = ap length is in
    omega (arith, tree, whole, rest, placed, same, tokens_few 0 bytes tokens stop are)
