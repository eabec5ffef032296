-- Tokens that are taken, and tokens that break, by the place.
pub use Rattle.ncl_reader.proofs.Terms.{[], ◌≡◌, ◌≢◌, ℕ, List, ◌∷◌, ◌++◌, None, Some, inr, refl, sym, ◌∙◌, subst, inl, Read, meant, RParen, Comma, LBracket, Place, Draft, Way, Module, EndModule, Wire, word_of, Lexeme, Word, Name, Number, Mark, Head, Item, Conn, Row, Direction, Lead, Spec, Group, BreaksRule, Breaks, Clashes, KeepsNames, Partial, going, start, listing, heading, inside, at_item, ended, declaring, opened, netted, indexing, picked, joined, spelled, HoldsAt, HoldsBy, Takes, TakesOrBreaks, ap, direction_phrase, lead_phrase, in_ansi, at_declared, GroupPart, naming, IsHeadedNext, IsDeclaredNext, true, false, Option, MatchOption, flat_map, is_some, digits_value, false≢true, append-nil, flat_map_more, same_Some, PartCell, Span, Known, Range, Joins, groups_of, header_of, span_of, bit_name, Covers, IsTooLarge, IsVector, Joined, joined_in, said_by, said_in, said_in_header, AreCellsOf, IsCellOf, joint_in, picked_name, is_ansi, IsRead, IsBody, IsBodyAnd, Contains, Bool, not, arith, Decides, CellKind, cell_name_of, IsDeclaring, IsAtNet, MayJoin, begun, celled, dotted, IsListed, cell_in, name_in, takes_plain, takes_name_alone, MayStand, ◌<◌, length, length-append, Sign, LParen, Semi, Dot, RBracket, Names, Ansi, Declares, headed, joining, takes_sign, after_sign, option_map, LeadTakes, lead_output, takes_name, leading, lead_place, word_place, titled, listed, named, pinned, IsDeclared, range_at, AreJoins, IfOk, indexed, none-some, Plain, Gives, Wires, AllDirected, led, all_of, Empty, Closes, closed, direction_output, direction_place, map, joint_of}
use Rattle.ncl_reader.specs.declared.lexeme.Lexeme.TheVariants as read
pub use Rattle.ncl_reader.proofs.Steps.{step, grows, breaks-taken, breaks-untaken, or_else}
use Rattle.ncl_reader.proofs.Kept.{kept_mark}
pub use Rattle.ncl_reader.proofs.RulesAt.{BreaksAt, breaks-here, breaks-back, NameAt, opens, not_declaring, not_net, clash_rule, may_stand, pin_free, close_free, plain_rule}
use Rattle.ncl_reader.specs.declared.place.Place.TheVariants as place
pub use Rattle.ncl_reader.proofs.Facts.{IsPart, heading_form, declaring_form, declared-old, range_here, at_part}
pub use Rattle.ncl_reader.proofs.DraftBody.{header-ends, body-declares, body-begins, ansi_groups, grouped-ends, grouped-begins}
pub use Rattle.ncl_reader.proofs.LeadSteps.{in_item, names_none, begins, in_header}
pub use Rattle.ncl_reader.proofs.Among.{joins-more}
pub use Rattle.ncl_reader.proofs.SaidDeclared.{names-said_by}

-- what breaks doesn't depend on how what stands is named
along : (p tree : Partial) (t u : Lexeme) → p ≡ tree → t ≡ u → Breaks (spelled p) t → Breaks (spelled tree) u
along p tree t u is same breaks = subst (Breaks (spelled tree)) same (subst (λ q. Breaks (spelled q) t) is breaks)

module _ (at : Place) (p tree : Partial) (t : Lexeme) (draft : Draft) (is : p ≡ tree) where
  -- a token that the tree doesn't take
  pub untaken : step tree t ≡ None → HoldsAt at draft p → TakesOrBreaks at p t None draft
  untaken none holds = (along tree p t t (sym is) refl (breaks-untaken tree t none), holds)

  -- a token that breaks a rule
  pub against : (u : Lexeme) → t ≡ u → BreaksAt tree u → HoldsAt at draft p → TakesOrBreaks at p t None draft
  against u same breaks holds = (along tree p u t (sym is) (sym same) (inr (breaks-back tree u breaks)), holds)

-- a name that clashes
pub clashing : (at : Place) (p : Partial) (t : Lexeme) (x : List ℕ) (draft : Draft) → t ≡ Name x → Clashes (spelled p) x → HoldsAt at draft p → TakesOrBreaks at p t None draft
clashing at p t x draft same clashes holds = against at p p t draft refl (Name x) same (inr (inr (inl clashes))) holds

module _ (p tree q : Partial) (t u : Lexeme) (after : Place) (draft : Draft) (is : p ≡ tree) (same : t ≡ u) (some : step tree u ≡ Some q) where
  taken_at : step p t ≡ Some q
  taken_at = (λ i. step (is i) (same i)) ∙ some

  -- a token that is taken and breaks no rule
  pub taken : KeepsNames draft.known (spelled p ++ t ∷ []) → HoldsBy after draft q → (BreaksAt tree u → ⊥) → Takes p t after draft
  taken kept by no_rule = record {
    tree = q;
    holds = (subst (KeepsNames draft.known) (sym (grows p t q taken_at)) kept, by);
    grows = grows p t q taken_at;
    unbroken = λ breaks. no_rule (breaks-here tree u (breaks-taken tree q u some (along p tree t u is same breaks)));
  }

  -- so of one that is no name
  pub taken_mark : ((x : List ℕ) → u ≢ Name x) → KeepsNames draft.known (spelled p) → HoldsBy after draft q → (BreaksAt tree u → ⊥) → Takes p t after draft
  taken_mark other kept by no_rule = taken (kept_mark draft.known (spelled p) t (λ x e. other x (sym same ∙ e)) kept) by no_rule

-- and of a name
pub taken_name : (p tree q : Partial) (t : Lexeme) (x : List ℕ) (after : Place) (draft : Draft) → p ≡ tree → t ≡ Name x → step tree (Name x) ≡ Some q → KeepsNames draft.known (spelled p ++ Name x ∷ []) → HoldsBy after draft q → (BreaksRule (spelled p) (Name x) → ⊥) → Takes p t after draft
taken_name p tree q t x after draft is same some kept by no_rule = taken p tree q t (Name x) after draft is same some (subst (λ u. KeepsNames draft.known (spelled p ++ u ∷ [])) (sym same) kept) by (λ breaks. no_rule (subst (λ r. BreaksRule (spelled r) (Name x)) (sym is) (breaks-back tree (Name x) breaks)))

-- which tokens aren't taken
pub others-start : (t : Lexeme) → t ≢ Word Module → step start t ≡ None
others-start (Word Module) wrong = absurd (wrong refl)
others-start t wrong = refl

pub others-first : (title : List ℕ) (t : Lexeme) → t ≢ Mark RParen → ((way : Way) → t ≢ Word (word_of way)) → ((x : List ℕ) → t ≢ Name x) → step (listing title []) t ≡ None
others-first title (Mark RParen) one ways two = absurd (one refl)
others-first title (Word (word_of way)) one ways two = absurd (ways way refl)
others-first title (Name x) one ways two = absurd (two x refl)
others-first title t one ways two = refl

pub others-going : (title : List ℕ) (groups : List (Group Direction)) (spec : Spec Direction) (row : Row (List ℕ)) (t : Lexeme) → ((way : Way) → t ≢ Word (word_of way)) → ((x : List ℕ) → t ≢ Name x) → step (heading title groups (going spec row)) t ≡ None
others-going title groups spec row (Word (word_of way)) ways names = absurd (ways way refl)
others-going title groups spec row (Name x) ways names = absurd (names x refl)
others-going title groups spec row t ways names = refl

module _ (head : Head) (items : List Item) where
  pub others-item : (t : Lexeme) → t ≢ Word EndModule → t ≢ Word Wire → ((way : Way) → t ≢ Word (word_of way)) → ((x : List ℕ) → t ≢ Name x) → step (at_item head items) t ≡ None
  others-item (Word EndModule) ends wires ways names = absurd (ends refl)
  others-item (Word Wire) ends wires ways names = absurd (wires refl)
  others-item (Word (word_of way)) ends wires ways names = absurd (ways way refl)
  others-item (Name x) ends wires ways names = absurd (names x refl)
  others-item t ends wires ways names = refl

  pub others-declaring : (spec : Spec Lead) (row : Row (List ℕ)) (t : Lexeme) → ((x : List ℕ) → t ≢ Name x) → step (inside head items (declaring (going spec row))) t ≡ None
  others-declaring spec row (Name x) one = absurd (one x refl)
  others-declaring spec row t one = refl

  module _ (cell name : List ℕ) (conns : List Conn) where
    pub others-opened : (pin : List ℕ) (t : Lexeme) → ((x : List ℕ) → t ≢ Name x) → step (inside head items (opened cell name conns pin)) t ≡ None
    others-opened pin (Name x) one = absurd (one x refl)
    others-opened pin t one = refl

    pub others-netted : (pin net : List ℕ) (t : Lexeme) → t ≢ Mark RParen → t ≢ Mark LBracket → step (inside head items (netted cell name conns pin net)) t ≡ None
    others-netted pin net (Mark RParen) one two = absurd (one refl)
    others-netted pin net (Mark LBracket) one two = absurd (two refl)
    others-netted pin net t one two = refl

    pub others-indexing : (pin net : List ℕ) (t : Lexeme) → ((x : List ℕ) → t ≢ Number x) → step (inside head items (indexing cell name conns pin net)) t ≡ None
    others-indexing pin net (Number x) one = absurd (one x refl)
    others-indexing pin net t one = refl

    pub others-picked : (pin net digits : List ℕ) (t : Lexeme) → t ≢ Mark RParen → step (inside head items (picked cell name conns pin net digits)) t ≡ None
    others-picked pin net digits (Mark RParen) one = absurd (one refl)
    others-picked pin net digits t one = refl

    pub others-joined : (conn : Conn) (t : Lexeme) → t ≢ Mark Comma → t ≢ Mark RParen → step (inside head items (joined cell name conns conn)) t ≡ None
    others-joined conn (Mark Comma) one two = absurd (one refl)
    others-joined conn (Mark RParen) one two = absurd (two refl)
    others-joined conn t one two = refl

-- behind `endmodule`
pub others-ended : (head : Head) (items : List Item) (t : Read) → step (ended head items) (meant t) ≡ None
others-ended head items (read.Word word) = refl
others-ended head items (read.Name x) = refl
others-ended head items (read.Number digits) = refl
others-ended head items (read.Mark sign) = refl

-- one token more in what a declaration begins with
module _ (p tree : Partial) (t : Lexeme) (is : p ≡ tree) where
  pub lead_taken : (q : Partial) (after : Place) (draft : Draft) → spelled q ≡ spelled tree ++ t ∷ [] → (Breaks (spelled tree) t → ⊥) → ((x : List ℕ) → t ≢ Name x) → KeepsNames draft.known (spelled p) → HoldsBy after draft q → Takes p t after draft
  lead_taken q after draft grows unbroken other kept by =
      let more : spelled q ≡ spelled p ++ t ∷ [] = grows ∙ ap (λ r. spelled r ++ t ∷ []) (sym is) in
      record {
        tree = q;
        holds = (subst (KeepsNames draft.known) (sym more) (kept_mark draft.known (spelled p) t other kept), by);
        grows = more;
        unbroken = λ breaks. unbroken (subst (λ r. Breaks (spelled r) t) is breaks);
      }

  pub lead_left : (at : Place) (draft : Draft) → Breaks (spelled tree) t → HoldsAt at draft p → TakesOrBreaks at p t None draft
  lead_left at draft breaks holds = (subst (λ r. Breaks (spelled r) t) (sym is) breaks, holds)

-- a name that breaks a rule where it is declared
pub name_left : (at : Place) (p : Partial) (t : Lexeme) (x : List ℕ) (xs : List Lexeme) (draft : Draft) → spelled p ≡ xs → t ≡ Name x → BreaksRule xs (Name x) → HoldsAt at draft p → TakesOrBreaks at p t None draft
name_left at p t x xs draft spells same breaks holds = (subst (Breaks (spelled p)) (sym same) (inr (subst (λ l. BreaksRule l (Name x)) (sym spells) breaks)), holds)

-- a name that is declared in the header
module _ (p : Partial) (t : Lexeme) (x : List ℕ) (old new : Draft) (groups : List (Group Direction)) (spec : Spec Direction) (names : List (List ℕ)) (part : GroupPart Direction) (is : p ≡ heading old.title.now groups part) (form : IsPart direction_phrase spec names part) (same : t ≡ Name x) where
  pub headed_form : spelled p ≡ in_ansi old.title.now groups spec names
  headed_form = ap spelled is ∙ heading_form old.title.now groups part spec names form

  pub headed_taken : step (heading old.title.now groups part) (Name x) ≡ Some (heading old.title.now groups (naming spec names x)) → IsHeadedNext old groups spec names x new → (BreaksRule (in_ansi old.title.now groups spec names) (Name x) → ⊥) → Takes p t place.AfterHeaderName new
  headed_taken some (title, kept, said, read) fine = taken_name p (heading old.title.now groups part) (heading old.title.now groups (naming spec names x)) t x place.AfterHeaderName new is same some
      (subst (λ l. KeepsNames new.known (l ++ Name x ∷ [])) (sym headed_form) kept)
      (groups, spec, names, x, ap (λ u. heading u groups (naming spec names x)) (sym title), said, read)
      (λ breaks. fine (subst (λ l. BreaksRule l (Name x)) headed_form breaks))

-- a name that an item declares
module _ (p : Partial) (t : Lexeme) (x : List ℕ) (new : Draft) (head : Head) (items : List Item) (spec : Spec Lead) (names : List (List ℕ)) (part : GroupPart Lead) (is : p ≡ inside head items (declaring part)) (form : IsPart lead_phrase spec names part) (same : t ≡ Name x) where
  pub declared_form : spelled p ≡ at_declared head items spec names
  declared_form = ap spelled is ∙ declaring_form head items part spec names form

  pub declared_taken : step (inside head items (declaring part)) (Name x) ≡ Some (inside head items (declaring (naming spec names x))) → IsDeclaredNext head items spec names x new → (BreaksRule (at_declared head items spec names) (Name x) → ⊥) → Takes p t place.AfterDeclared new
  declared_taken some (kept, said, early, read) fine = taken_name p (inside head items (declaring part)) (inside head items (declaring (naming spec names x))) t x place.AfterDeclared new is same some
      (subst (λ l. KeepsNames new.known (l ++ Name x ∷ [])) (sym declared_form) kept)
      (head, items, spec, names, x, refl, said, early, read)
      (λ breaks. fine (subst (λ l. BreaksRule l (Name x)) declared_form breaks))

-- a vector has one range of numbers
pub same_numbers : (known : Known) (xs : List Lexeme) (net : List ℕ) (range other : Range) → KeepsNames known xs → IsVector xs net range → IsVector xs net other → span_of range ≡ span_of other
same_numbers known xs net range other kept vector also =
    same_Some (span_of range) (span_of other) (same_Some (Some (span_of range)) (Some (span_of other)) (sym (kept.ranges.declared net (Some range) vector) ∙ kept.ranges.declared net (Some other) also))

-- whether a net is a vector, by what is found
module _ (xs : List Lexeme) (net : List ℕ) where
  abbrev pub IsFound : Option Span → Type 0
  IsFound found = MatchOption found ((range : Range) → ¬ IsVector xs net range) (λ span. (range : Range) × IsVector xs net range × (span_of range ≡ span))

  pub vector_found : (found : Option Span) → IsFound found → is_some found ≡ true → (range : Range) × IsVector xs net range
  vector_found (Some span) told e = (told.0, told.1)
  vector_found None told e = absurd (false≢true e)

  pub vector_missing : (found : Option Span) → IsFound found → is_some found ≡ false → (range : Range) → IsVector xs net range → ⊥
  vector_missing (Some span) told e = absurd (false≢true (sym e))
  vector_missing None told e = told

module _ (head : Head) (items : List Item) (cell name : List ℕ) (conns : List Conn) (pin net : List ℕ) where
  -- a number that the vector has
  pub index_rule : (known : Known) (digits : List ℕ) (range : Range) → KeepsNames known (spelled (inside head items (indexing cell name conns pin net))) → IsVector (spelled (inside head items (indexing cell name conns pin net))) net range → (IsTooLarge digits → ⊥) → ((Covers (span_of range) (digits_value 10 digits) → ⊥) → ⊥) → BreaksAt (inside head items (indexing cell name conns pin net)) (Number digits) → ⊥
  index_rule known digits range kept vector small covers (inl large) = small large
  index_rule known digits range kept vector small covers (inr (inl none)) = none
  index_rule known digits range kept vector small covers (inr (inr (r, also, outside))) =
      covers (λ covered. outside (subst (λ s. Covers s (digits_value 10 digits)) (same_numbers known _ net range r kept vector also) covered))

  -- a vector stays one
  pub vector_next : (range : Range) → IsVector (spelled (inside head items (netted cell name conns pin net))) net range → IsVector (spelled (inside head items (indexing cell name conns pin net))) net range
  vector_next range vector = subst (λ l. IsVector l net range) (sym (grows (inside head items (netted cell name conns pin net)) (Mark LBracket) (inside head items (indexing cell name conns pin net)) refl)) (declared-old (spelled (inside head items (netted cell name conns pin net))) (Mark LBracket ∷ []) net (Some range) vector)

-- one cell more
pub cells-more : (js : List Joined) (cs : List PartCell) (j : Joined) (c : PartCell) → AreCellsOf js cs → IsCellOf j c → AreCellsOf (js ++ j ∷ []) (cs ++ c ∷ [])
cells-more [] [] j c are is = (is, tt)
cells-more (k ∷ js) (d ∷ cs) j c are is = (are.0, cells-more js cs j c are.1 is)
cells-more js cs j c are is = absurd are

-- an instance that ends says nothing of ports
said-joins : (head : Head) (items : List Item) (cell name : List ℕ) (row : Row Conn) → said_by (record { head = head; items = items }) ≡ said_by (record { head = head; items = items ++ Joins cell name row ∷ [] })
said-joins head items cell name row =
    ap (λ l. flat_map said_in_header (groups_of head.ports) ++ l) (sym (append-nil (flat_map said_in items)) ∙ flat_map_more said_in [] items (Joins cell name row))

pub body-joins : (draft : Draft) (head : Head) (items : List Item) (cell name : List ℕ) (conns : List Conn) (conn : Conn) → IsBodyAnd draft head items (record { cell = cell; name = name; conns = conns ++ conn ∷ [] }) → IsBody draft head (items ++ Joins cell name (record { before = conns; last = conn }) ∷ [])
body-joins draft head items cell name conns conn (title, read) =
    let row : Row Conn = record { before = conns; last = conn } in
    (title, subst (λ l. IsRead draft (is_ansi head.ports) (header_of head) l (flat_map joined_in (items ++ Joins cell name row ∷ []))) (said-joins head items cell name row) (subst (λ l. IsRead draft (is_ansi head.ports) (header_of head) (said_by (record { head = head; items = items })) l) (flat_map_more joined_in [] items (Joins cell name row)) read))

-- what is kept with a name more
pub kept_here : (known : Known) (xs : List Lexeme) (x : List ℕ) (t : Lexeme) → t ≡ Name x → KeepsNames known (xs ++ Name x ∷ []) → KeepsNames known (xs ++ t ∷ [])
kept_here known xs x t is kept = subst (λ u. KeepsNames known (xs ++ u ∷ [])) (sym is) kept

-- a bit that is joined
pub bit_joint : (pin net digits : List ℕ) (index : ℕ) → index ≡ digits_value 10 digits → record { pin = pin; net = picked_name net (Some index) } ≡ joint_in (record { pin = pin; net = record { name = net; index = Some digits } })
bit_joint pin net digits index value = λ i. record { pin = pin; net = bit_name net (value i) }

-- no declaration stands there, and no net
pub plain_free : (at : Place) (d : Draft) (p : Partial) → takes_plain at ≡ true → HoldsBy at d p → (range_here p ≡ None) × (opens p ≡ false)
plain_free place.ModuleName d p here (is, bare) = (ap range_here is, ap opens is)
plain_free place.FirstPort d p here (is, bare) = (ap range_here is, ap opens is)
plain_free place.Port d p here (names, is, some, read) = (ap range_here is, ap opens is)
plain_free place.InstanceName d p here (head, items, is, body, are) = (ap range_here is, ap opens is)
plain_free place.Pin d p here (head, items, conns, is, body, are) = (ap range_here is, ap opens is)
plain_free at d p here by = absurd (false≢true here)

-- so a name that breaks no rule is taken
pub plain_taken : (at : Place) (d : Draft) (p tree q : Partial) (x : List ℕ) (after : Place) (new : Draft) → takes_plain at ≡ true → p ≡ tree → step tree (Name x) ≡ Some q → KeepsNames d.known (spelled p) → HoldsBy at d p → ¬ BreaksRule (spelled p) (Name x) → ((xs : List Lexeme) → KeepsNames d.known xs → ((range : Option Range) → IsDeclaring xs range → ⊥) → (IsAtNet xs → ⊥) → (Clashes xs x → ⊥) → KeepsNames new.known (xs ++ Name x ∷ [])) → HoldsBy after new q → Takes p (Name x) after new
plain_taken at d p tree q x after new here is some kept by fine keeps holds =
    let plain = plain_free at d p here by in
    taken_name p tree q (Name x) x after new is refl some (keeps (spelled p) kept (not_declaring p plain.0) (not_net p plain.1) (λ clashes. fine (clash_rule (spelled p) x clashes))) holds fine

others-listing : (title name : List ℕ) (names : List (List ℕ)) (t : Lexeme) → ((x : List ℕ) → t ≢ Name x) → step (listing title (name ∷ names)) t ≡ None
others-listing title name names (Name x) other = absurd (other x refl)
others-listing title name names (Mark RParen) other = refl
others-listing title name names (Word (word_of way)) other = refl
others-listing title name names t other = refl

-- where only a name stands no other token is taken
pub no_name : (at : Place) (d : Draft) (t : Lexeme) (p : Partial) → takes_name_alone at ≡ true → ((x : List ℕ) → t ≢ Name x) → HoldsAt at d p → TakesOrBreaks at p t None d
no_name at d (Name x) p here other holds = absurd (other x refl)
no_name place.ModuleName d t p here other (kept, (is, bare)) = untaken place.ModuleName p begun t d is refl (kept, (is, bare))
no_name place.Port d t p here other (kept, ([], is, some, read)) = absurd (omega (arith, some))
no_name place.Port d t p here other (kept, (n ∷ names, is, some, read)) =
    untaken place.Port p (listing d.title.now (n ∷ names)) t d is (others-listing d.title.now n names t other) (kept, (n ∷ names, is, some, read))
no_name place.InstanceName d t p here other (kept, (head, items, is, body, are)) =
    untaken place.InstanceName p (inside head items (celled (cell_in d))) t d is refl (kept, (head, items, is, body, are))
no_name place.Pin d t p here other (kept, (head, items, conns, is, body, are)) =
    untaken place.Pin p (inside head items (dotted (cell_in d) (name_in d) conns)) t d is refl (kept, (head, items, conns, is, body, are))
no_name at d t p here other holds = absurd (false≢true here)

-- whether a name may stand is asked of the header and of the instance alone
module _ (p : Partial) (x : List ℕ) where
  -- by the tree
  at_tree : (tree : Partial) → p ≡ tree → range_here tree ≡ None → (NameAt tree x → ⊥) → MayStand true (spelled p) x
  at_tree tree is none name = may_stand p x (ap range_here is ∙ none) (λ b. name (subst (λ q. NameAt q x) is b))

  at_name : (tree : Partial) → p ≡ tree → NameAt tree x → BreaksRule (spelled p) (Name x)
  at_name tree is b = breaks-back p (Name x) (inl (subst (λ q. NameAt q x) (sym is) b))

  -- a name of the header doesn't stand in it again
  pub repeats : (title : List ℕ) (names : List (List ℕ)) → p ≡ listing title names → Contains names x → BreaksRule (spelled p) (Name x)
  repeats title names is stands = at_name (listing title names) is stands

  pub port_may : (title : List ℕ) (names : List (List ℕ)) (has : Bool) → p ≡ listing title names → Decides has (Contains names x) → MayStand (not has) (spelled p) x
  port_may title names true is decides = repeats title names is (decides.0 refl)
  port_may title names false is decides = at_tree (listing title names) is refl (λ stands. false≢true (decides.1 stands))

  pub pin_may : (head : Head) (items : List Item) (kind : CellKind) (name : List ℕ) (conns : List Conn) (may : Bool) → p ≡ inside head items (dotted (cell_name_of kind) name conns) → MayJoin may kind conns x → MayStand may (spelled p) x
  pin_may head items kind name conns true is may = at_tree (inside head items (dotted (cell_name_of kind) name conns)) is refl (pin_free head items kind name conns x may)
  pin_may head items kind name conns false is may = at_name (inside head items (dotted (cell_name_of kind) name conns)) is (kind, refl, may)

pub free_may : (at : Place) (d : Draft) (p : Partial) (x : List ℕ) → takes_plain at ≡ true → at ≢ place.Port → at ≢ place.Pin → HoldsBy at d p → MayStand true (spelled p) x
free_may place.ModuleName d p x here port pin (is, bare) = at_tree p x begun is refl (λ none. none)
free_may place.FirstPort d p x here port pin (is, bare) = at_tree p x (listing d.title.now []) is refl (λ found. omega (arith, found.1))
free_may place.Port d p x here port pin by = absurd (port refl)
free_may place.InstanceName d p x here port pin (head, items, is, body, are) = at_tree p x (inside head items (celled (cell_in d))) is refl (λ none. none)
free_may place.Pin d p x here port pin by = absurd (pin refl)
free_may at d p x here port pin by = absurd (false≢true here)

-- what is left is a header of names
pub listing_at : (at : Place) (d : Draft) (p : Partial) → takes_plain at ≡ true → at ≢ place.ModuleName → at ≢ place.InstanceName → at ≢ place.Pin → HoldsBy at d p → (names : List (List ℕ)) × (p ≡ listing d.title.now names) × IsListed d names
listing_at place.ModuleName d p here module_name instance pin by = absurd (module_name refl)
listing_at place.FirstPort d p here module_name instance pin (is, bare) = ([], is, bare)
listing_at place.Port d p here module_name instance pin (names, is, some, read) = (names, is, read)
listing_at place.InstanceName d p here module_name instance pin by = absurd (instance refl)
listing_at place.Pin d p here module_name instance pin by = absurd (pin refl)
listing_at at d p here module_name instance pin by = absurd (false≢true here)

-- the place behind a token
abbrev pub after_token : Place → Lexeme → Option Place
after_token at (Mark sign) = after_sign at sign
after_token at t = None

-- a sign is sign_taken
sign_taken : {p tree : Partial} (q : Partial) (sign : Sign) (after : Place) (d : Draft) → p ≡ tree → step tree (Mark sign) ≡ Some q → KeepsNames d.known (spelled p) → HoldsBy after d q → ¬ BreaksAt tree (Mark sign) → Takes p (Mark sign) after d
sign_taken {p} {tree} q sign after d is some kept by fine =
    taken_mark p tree q (Mark sign) (Mark sign) after d is refl some (λ x e. absurd cc) kept by fine

-- another token isn't
sign_left : {p tree : Partial} (at : Place) (t : Lexeme) (d : Draft) → p ≡ tree → step tree t ≡ None → HoldsAt at d p → TakesOrBreaks at p t None d
sign_left {p} {tree} at t d is none holds = untaken at p tree t d is none holds

-- at such a place each token is sign_taken or breaks, as the place says
pub sign_step : (at : Place) (d : Draft) (t : Lexeme) (p : Partial) → takes_sign at ≡ true → HoldsAt at d p → TakesOrBreaks at p t (after_token at t) d
sign_step place.AfterModuleName d (Mark LParen) p here (kept, (is, bare)) =
    sign_taken (listing d.title.now []) LParen place.FirstPort d is refl kept (refl, bare) (λ none. none)
sign_step place.AfterModuleName d (Mark Semi) p here (kept, (is, bare)) =
    let head : Head = record { name = d.title.now; ports = None } in
    sign_taken (at_item head []) Semi place.Item d is refl kept (head, [], refl, (refl, bare)) (λ none. none)
sign_step place.AfterModuleName d t p here (kept, (is, bare)) = sign_left place.AfterModuleName t d is refl (kept, (is, bare))
sign_step place.AfterPort d (Mark Comma) p here (kept, (names, last, is, read)) =
    let some : 0 < length (names ++ last ∷ []) = let e = length-append names (last ∷ []) in omega (arith, e) in
    sign_taken (listing d.title.now (names ++ last ∷ [])) Comma place.Port d is refl kept (names ++ last ∷ [], refl, some, read) (λ none. none)
sign_step place.AfterPort d (Mark RParen) p here (kept, (names, last, is, read)) =
    let ports = Names (record { before = names; last = last }) in
    sign_taken (headed d.title.now ports) RParen place.AfterPorts d is refl kept (ports, refl, (refl, read)) (λ none. none)
sign_step place.AfterPort d t p here (kept, (names, last, is, read)) = sign_left place.AfterPort t d is refl (kept, (names, last, is, read))
sign_step place.AfterHeaderName d (Mark Comma) p here (kept, (groups, spec, names, last, is, said, read)) =
    let row : Row (List ℕ) = record { before = names; last = last } in
    sign_taken (heading d.title.now groups (going spec row)) Comma place.HeaderName d is refl kept (groups, spec, row, refl, said, read) (λ none. none)
sign_step place.AfterHeaderName d (Mark RParen) p here (kept, (groups, spec, names, last, is, said, read)) =
    let row : Row (List ℕ) = record { before = names; last = last } in
    let ports = Ansi (record { before = groups; last = record { spec = spec; names = row } }) in
    sign_taken (headed d.title.now ports) RParen place.AfterPorts d is refl kept (ports, refl, header-ends d groups spec row read) (λ none. none)
sign_step place.AfterHeaderName d t p here (kept, (groups, spec, names, last, is, said, read)) =
    sign_left place.AfterHeaderName t d is refl (kept, (groups, spec, names, last, is, said, read))
sign_step place.AfterPorts d (Mark Semi) p here (kept, (ports, is, body)) =
    let head : Head = record { name = d.title.now; ports = Some ports } in
    sign_taken (at_item head []) Semi place.Item d is refl kept (head, [], refl, body) (λ none. none)
sign_step place.AfterPorts d t p here (kept, (ports, is, body)) = sign_left place.AfterPorts t d is refl (kept, (ports, is, body))
sign_step place.AfterDeclared d (Mark Comma) p here (kept, (head, items, spec, names, last, is, said, early, body)) =
    let row : Row (List ℕ) = record { before = names; last = last } in
    sign_taken (inside head items (declaring (going spec row))) Comma place.Declared d is refl kept (head, items, spec, row, refl, said, early, body) (λ none. none)
sign_step place.AfterDeclared d (Mark Semi) p here (kept, (head, items, spec, names, last, is, said, early, body)) =
    let row : Row (List ℕ) = record { before = names; last = last } in
    let more = items ++ Declares (record { spec = spec; names = row }) ∷ [] in
    sign_taken (at_item head more) Semi place.Item d is refl kept (head, more, refl, body-declares d head items spec row body) (λ none. none)
sign_step place.AfterDeclared d t p here (kept, (head, items, spec, names, last, is, said, early, body)) =
    sign_left place.AfterDeclared t d is refl (kept, (head, items, spec, names, last, is, said, early, body))
sign_step place.Connections d (Mark LParen) p here (kept, (head, items, is, body, are)) =
    sign_taken (inside head items (joining (cell_in d) (name_in d) [])) LParen place.Connection d is refl kept (head, items, [], refl, body, are) (λ none. none)
sign_step place.Connections d t p here (kept, (head, items, is, body, are)) = sign_left place.Connections t d is refl (kept, (head, items, is, body, are))
sign_step place.Connection d (Mark Dot) p here (kept, (head, items, conns, is, body, are)) =
    sign_taken (inside head items (dotted (cell_in d) (name_in d) conns)) Dot place.Pin d is refl kept (head, items, conns, refl, body, are) (λ none. none)
sign_step place.Connection d t p here (kept, (head, items, conns, is, body, are)) = sign_left place.Connection t d is refl (kept, (head, items, conns, is, body, are))
sign_step place.PinNet d (Mark LParen) p here (kept, (head, items, conns, is, body, are)) =
    sign_taken (inside head items (opened (cell_in d) (name_in d) conns d.instance.pin.now)) LParen place.Net d is refl kept (head, items, conns, refl, body, are) (λ none. none)
sign_step place.PinNet d t p here (kept, (head, items, conns, is, body, are)) = sign_left place.PinNet t d is refl (kept, (head, items, conns, is, body, are))
sign_step place.AfterIndex d (Mark RBracket) p here (kept, (digits, (head, items, conns, is, body, are), value)) =
    sign_taken (inside head items (picked (cell_in d) (name_in d) conns d.instance.pin.now d.instance.net.now digits)) RBracket place.NetEnd d is refl kept (digits, (head, items, conns, refl, body, are), value) (λ none. none)
sign_step place.AfterIndex d t p here (kept, (digits, (head, items, conns, is, body, are), value)) =
    sign_left place.AfterIndex t d is refl (kept, (digits, (head, items, conns, is, body, are), value))
sign_step place.AfterInstance d (Mark Semi) p here (kept, (head, items, conns, conn, is, body)) =
    let more = items ++ Joins (cell_in d) (name_in d) (record { before = conns; last = conn }) ∷ [] in
    sign_taken (at_item head more) Semi place.Item d is refl kept (head, more, refl, body-joins d head items (cell_in d) (name_in d) conns conn body) (λ none. none)
sign_step place.AfterInstance d t p here (kept, (head, items, conns, conn, is, body)) =
    sign_left place.AfterInstance t d is refl (kept, (head, items, conns, conn, is, body))
sign_step at d t p here holds = absurd (false≢true here)
