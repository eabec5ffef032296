-- What may come next, by the form of what stands before it.
pub use Rattle.ncl_reader.proofs.Terms.{◌≡◌, ◌≢◌, ℕ, List, [], Option, Some, None, false, inl, inr, ◌⊎◌, refl, sym, ap, ◌∙◌, subst, false≢true, Place, LeadPlace, Syntax, Unsupported, Lexeme, Name, Direction, Plain, Wired, Lead, Gives, Wires, Range, takes_name, LeadPart, led, ranged, lead_place, direction_place, word_place, leading, going, Partial, listing, heading, at_item, inside, declaring, joining, dotted, opened, netted, indexing, joined, spelled, place_of, IsDeclaring, IsAtItem, IsAtConn, IsAtPin, IsAtNet, IsBehindNet, IsAtIndex, IsAtClose, Redeclares, Clashes, Crowds, IsLeftOut, IsFaultAt, Bool, Decides, option_map, same_Some, Span, Sign, RParen, LBracket, RBracket, Colon, Other, Keyword, EndModule, Mark, Word, span_of, true, all_of, direction_phrase, lead_phrase, in_ansi, at_declared, KeepsNames, HoldsAt, digits_value, cell_name_of, IsVector, Covers, not, ◌<◌, ◌++◌, Contains, none-some, header_of, MOST_PORT_BITS, directed_by, lead_output, LacksWay, said_by, is_output, said_with, flat_map, group_names, said_in_header, said_of}
use Rattle.ncl_reader.specs.declared.place.Place.TheVariants as place
use Rattle.ncl_reader.proofs.Steps.{same_tree}
pub use Rattle.ncl_reader.proofs.Facts.{part_range, range_here, declaring_tree, declaring-here, at_part, heading_form, declaring_form}
pub use Rattle.ncl_reader.proofs.DraftBody.{grouped-begins, body-begins, bits-body, names-body, no_groups, gives_of, wire_of, bits-grouped_more}
pub use Rattle.ncl_reader.proofs.LeadSteps.{in_header, in_item, begins}
pub use Rattle.ncl_reader.proofs.RulesAt.{not_declaring, OutsideAt, outside-here, crowds-item, crowds_declared, crowds-head, crowds_headed}
pub use Rattle.ncl_reader.proofs.Loop.{holds-place}
pub use Rattle.ncl_reader.proofs.DraftSteps.{same_numbers}

-- the form of what stands before a place, for those at which a fault asks for it, or something else
abbrev pub FormOr : Type 0 → Place → List Lexeme → Type 0
FormOr D place.Item xs = IsAtItem xs
FormOr D place.Connection xs = IsAtConn xs
FormOr D place.Pin xs = IsAtPin xs
FormOr D place.Net xs = IsAtNet xs
FormOr D place.AfterNet xs = (net : List ℕ) × IsBehindNet xs net
FormOr D place.Index xs = (net : List ℕ) × IsAtIndex xs net
FormOr D place.AfterConnection xs = IsAtClose xs
FormOr D at xs = D

form_here : (p : Partial) → FormOr (Unit {0}) (place_of p) (spelled p)
form_here (at_item head items) = (head, items, refl)
form_here (inside head items (joining cell name conns)) = (head, items, cell, name, conns, refl)
form_here (inside head items (dotted cell name conns)) = (head, items, cell, name, conns, refl)
form_here (inside head items (opened cell name conns pin)) = (head, items, cell, name, conns, pin, refl)
form_here (inside head items (netted cell name conns pin net)) = (net, (head, items, cell, name, conns, pin, refl))
form_here (inside head items (indexing cell name conns pin net)) = (net, (head, items, cell, name, conns, pin, refl))
form_here (inside head items (joined cell name conns conn)) = (head, items, cell, name, record { before = conns; last = conn }, refl)
form_here (listing name []) = tt
form_here (heading name groups (leading part)) = tt
form_here (inside head items (declaring (leading part))) = tt
form_here p = tt

pub form_at : (p : Partial) (at : Place) → place_of p ≡ at → FormOr (Unit {0}) at (spelled p)
form_at p at e = subst (λ here. FormOr (Unit {0}) here (spelled p)) e (form_here p)

pub place_at : (p : Partial) (at : Place) → FormOr ⊥ at (spelled p) → place_of p ≡ at
place_at p place.Item (head, items, is) = ap place_of (same_tree p (at_item head items) is)
place_at p place.Connection (head, items, cell, name, conns, is) = ap place_of (same_tree p (inside head items (joining cell name conns)) is)
place_at p place.Pin (head, items, cell, name, conns, is) = ap place_of (same_tree p (inside head items (dotted cell name conns)) is)
place_at p place.Net (head, items, cell, name, conns, pin, is) = ap place_of (same_tree p (inside head items (opened cell name conns pin)) is)
place_at p place.AfterNet (net, (head, items, cell, name, conns, pin, is)) = ap place_of (same_tree p (inside head items (netted cell name conns pin net)) is)
place_at p place.Index (net, (head, items, cell, name, conns, pin, is)) = ap place_of (same_tree p (inside head items (indexing cell name conns pin net)) is)
place_at p place.AfterConnection (head, items, cell, name, conns, is) = ap place_of (same_tree p (inside head items (joined cell name conns.before conns.last)) is)
place_at p at none = absurd none

-- no item, no pin and no connection is next at another place
pub elsewhere : (p : Partial) (at : Place) → place_of p ≡ at → at ≢ place.Item → at ≢ place.Pin → at ≢ place.Connection → ¬ IsAtItem (spelled p) × ¬ IsAtPin (spelled p) × ¬ IsAtConn (spelled p)
elsewhere p at is item pin conn = (
  λ form. item (sym is ∙ place_at p place.Item form),
  λ form. pin (sym is ∙ place_at p place.Pin form),
  λ form. conn (sym is ∙ place_at p place.Connection form),
)

-- a name is declared at these places alone
abbrev pub DeclaresAt : Place → Type 0
DeclaresAt at = ((lead : LeadPlace) × (at ≡ place.HeaderLead lead)) ⊎ ((at ≡ place.HeaderName) ⊎ (((lead : LeadPlace) × (at ≡ place.Lead lead)) ⊎ (at ≡ place.Declared)))

pub declares_by : (p : Partial) (range : Option Range) → range_here p ≡ Some range → DeclaresAt (place_of p)
declares_by (heading name groups (leading part)) range e = inl (lead_place direction_place part, refl)
declares_by (heading name groups (going spec row)) range e = inr (inl refl)
declares_by (inside head items (declaring (leading part))) range e = inr (inr (inl (lead_place word_place part, refl)))
declares_by (inside head items (declaring (going spec row))) range e = inr (inr (inr refl))
declares_by p range e = absurd cc

-- where no name may be next, none is declared
pub no_range_header : (part : LeadPart Direction) → takes_name (lead_place direction_place part) ≡ false → part_range (leading part) ≡ None
no_range_header (led (Plain way)) e = absurd (false≢true (sym e))
no_range_header (led (Wired way)) e = absurd (false≢true (sym e))
no_range_header (ranged l range) e = absurd (false≢true (sym e))
no_range_header part e = refl

pub no_range_item : (part : LeadPart Lead) → takes_name (lead_place word_place part) ≡ false → part_range (leading part) ≡ None
no_range_item (led (Gives (Plain way))) e = absurd (false≢true (sym e))
no_range_item (led (Gives (Wired way))) e = absurd (false≢true (sym e))
no_range_item (led Wires) e = absurd (false≢true (sym e))
no_range_item (ranged l range) e = absurd (false≢true (sym e))
no_range_item part e = refl

-- a name that is declared is no name of a cell, of a pin, or in the place of a connection
module _ (xs : List Lexeme) (range : Option Range) (declares : IsDeclaring xs range) where
  tree_here : (q : Partial) → xs ≡ spelled q → range_here q ≡ None → ⊥
  tree_here q is none =
      let (p, spells, says) = declaring_tree xs range declares in
      let same : p ≡ q = same_tree p q (spells ∙ is) in
      let wrong : None ≡ Some range = sym none ∙ ap range_here (sym same) ∙ says in absurd cc

  pub declared_no_item : IsAtItem xs → ⊥
  declared_no_item (head, items, is) = tree_here (at_item head items) is refl

  pub declared_no_pin : IsAtPin xs → ⊥
  declared_no_pin (head, items, cell, name, conns, is) = tree_here (inside head items (dotted cell name conns)) is refl

  pub declared_no_conn : IsAtConn xs → ⊥
  declared_no_conn (head, items, cell, name, conns, is) = tree_here (inside head items (joining cell name conns)) is refl

  -- so its fault is one of syntax, or that it is left out
  pub misdeclared : (x : List ℕ) (at : ℕ) → Redeclares xs x ⊎ ¬ IsLeftOut xs (Name x) → IsFaultAt xs (record { lexeme = Name x; place = at }) (Syntax at)
  misdeclared x at why = (refl, declared_no_item, declared_no_pin, why)

  pub undeclarable : (x : List ℕ) (at : ℕ) → ¬ Redeclares xs x → Clashes xs x ⊎ Crowds xs x → IsFaultAt xs (record { lexeme = Name x; place = at }) (Unsupported at)
  undeclarable x at agrees why = (refl, declared_no_item, declared_no_pin, agrees, inr why)

-- the range that has these numbers
pub range_of : (range : Option Range) (span : Span) → option_map span_of range ≡ Some span → (r : Range) × (range ≡ Some r) × (span_of r ≡ span)
range_of (Some r) span e = (r, refl, same_Some (span_of r) span e)
range_of None span e = absurd cc

-- a name is declared, and crowds or not, whatever the form of what stands before it
pub declared_as : (xs ys : List Lexeme) (x : List ℕ) (range : Option Range) (span : Option Span) (crowds : Bool) → xs ≡ ys → IsDeclaring ys range → option_map span_of range ≡ span → Decides crowds (Crowds ys x) → (range : Option Range) × IsDeclaring xs range × (option_map span_of range ≡ span) × Decides crowds (Crowds xs x)
declared_as xs ys x range span crowds form declares same decides =
    (range, subst (λ zs. IsDeclaring zs range) (sym form) declares, same, subst (λ zs. Decides crowds (Crowds zs x)) (sym form) decides)

-- signs and words that are left out or not
pub plain_sign : (xs : List Lexeme) (sign : Sign) (at : ℕ) → sign ≢ RParen → sign ≢ Other → sign ≢ LBracket → sign ≢ RBracket → sign ≢ Colon → IsFaultAt xs (record { lexeme = Mark sign; place = at }) (Syntax at)
plain_sign xs RParen at a b c d e = absurd (a refl)
plain_sign xs Other at a b c d e = absurd (b refl)
plain_sign xs LBracket at a b c d e = absurd (c refl)
plain_sign xs RBracket at a b c d e = absurd (d refl)
plain_sign xs Colon at a b c d e = absurd (e refl)
plain_sign xs sign at a b c d e = (refl, λ none. none, λ none. none, inr (λ none. none))

pub other_word : (xs : List Lexeme) (word : Keyword) (at : ℕ) → word ≢ EndModule → IsFaultAt xs (record { lexeme = Word word; place = at }) (Unsupported at)
other_word xs EndModule at other = absurd (other refl)
other_word xs word at other = (refl, λ none. none, λ none. none, λ none. none, tt)
