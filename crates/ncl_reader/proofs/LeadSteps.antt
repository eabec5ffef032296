-- One token more in what a declaration begins with.
pub use Rattle.ncl_reader.proofs.Terms.{[], ◌≡◌, ◌≢◌, ℕ, ◌<◌, List, Option, Some, None, Bool, true, false, inl, inr, ◌⊎◌, refl, sym, ap, ◌∙◌, subst, MatchOption, option_map, digits_value, false≢true, same_Some, none-some, LeadPlace, Led, Span, Wire, LBracket, RBracket, Colon, Lexeme, Word, Name, Number, Mark, Direction, Plain, Wired, direction_phrase, Lead, Gives, Wires, lead_phrase, Spec, Group, Item, Head, width, IsTooLarge, MOST_VECTOR_BITS, Breaks, LeadPart, led, bracketed, firsted, coloned, lasted, ranged, leading, naming, lead_place, direction_place, word_place, Partial, heading, inside, declaring, spelled, LeadTakes, IsLed, IsSaid, IsSpanOf, IsValue, takes_name, direction_output, lead_output, arith, meant}
use Rattle.ncl_reader.specs.declared.place.LeadPlace.TheVariants as lead
use Rattle.ncl_reader.proofs.Steps.{step, or_else, lead_step, direction_more, lead_more, grows, breaks-taken, breaks-untaken}
use Rattle.ncl_reader.proofs.Facts.{part_spec}
use Rattle.ncl_reader.proofs.RulesAt.{TooLong, LongPart, BreaksAt, breaks-here, breaks-back}

-- what begins a declaration is in front of "wire", a bracket or a name, or only of the last two
abbrev pub Form : {L : Type 0} → (L → LeadPlace) → (L → Option L) → (L → Option Bool) → L → Type 0
Form {L} of more output l =
    ((of l ≡ lead.Direction) × ((m : L) × (more l ≡ Some m) × (of m ≡ lead.Wire) × (output m ≡ output l)))
    ⊎ ((of l ≡ lead.Wire) × (more l ≡ None))

-- where a declaration is read: in the header, or as an item
pub record Site (L : Type 0) : Type 0 where
  pub tree : LeadPart L → Partial
  pub phrase : L → List Lexeme
  pub output : L → Option Bool
  pub of : L → LeadPlace
  pub more : L → Option L
  pub takes : (part next : LeadPart L) (t : Lexeme) → lead_step more part t ≡ Some (leading next) → step (tree part) t ≡ Some (tree next)
  pub leaves : (part : LeadPart L) (t : Lexeme) → lead_step more part t ≡ None → step (tree part) t ≡ None
  pub opens : (part : LeadPart L) → BreaksAt (tree part) (Mark LBracket) → ⊥
  pub numbers : (part : LeadPart L) (digits : List ℕ) → BreaksAt (tree part) (Number digits) → IsTooLarge digits ⊎ LongPart part digits
  pub long : (part : LeadPart L) (digits : List ℕ) → LongPart part digits → BreaksAt (tree part) (Number digits)
  pub forms : (l : L) → Form of more output l

module _ {L : Type 0} (site : Site L) (kept : Led) where
  abbrev Answer : LeadPart L → Lexeme → Option LeadPlace → Type 0
  Answer part t result = LeadTakes site.tree site.output site.of part t result kept

  took : (part next : LeadPart L) (t : Lexeme) (after : LeadPlace) → lead_step site.more part t ≡ Some (leading next) → lead_place site.of next ≡ after → IsLed site.output next kept → (BreaksAt (site.tree part) t → ⊥) → Answer part t (Some after)
  took part next t after is at keeps fine =
      let some = site.takes part next t is in
      (next, at, keeps, grows (site.tree part) t (site.tree next) some, λ breaks. fine (breaks-here (site.tree part) t (breaks-taken (site.tree part) (site.tree next) t some breaks)))

  left : (part : LeadPart L) (t : Lexeme) → lead_step site.more part t ≡ None → IsLed site.output part kept → Answer part t None
  left part t none keeps = (breaks-untaken (site.tree part) t (site.leaves part t none), keeps)

  number_rule : (part : LeadPart L) (digits : List ℕ) → (IsTooLarge digits → ⊥) → (LongPart part digits → ⊥) → BreaksAt (site.tree part) (Number digits) → ⊥
  number_rule part digits small short breaks = elim (site.numbers part digits breaks) [
    | inl large ↦ small large
    | inr long ↦ short long
  ]

  -- what begins a declaration is in front of "wire", a bracket or a name
  no_place : (l : L) (at : LeadPlace) → (lead.Direction ≡ at → ⊥) → (lead.Wire ≡ at → ⊥) → site.of l ≡ at → ⊥
  no_place l at one two is = elim (site.forms l) [
    | inl e ↦ one (sym e.0 ∙ is)
    | inr e ↦ two (sym e.0 ∙ is)
  ]

  -- behind a direction
  pub at_wire : (part : LeadPart L) (t : Lexeme) → lead_place site.of part ≡ lead.Direction → IsLed site.output part kept → t ≡ Word Wire → Answer part t (Some lead.Wire)
  at_wire (led l) t at keeps is =
      elim (site.forms l) [
        | inl (direction, (m, more, of, output)) ↦ subst (λ u. Answer (led l) u (Some lead.Wire)) (sym is) (took (led l) (led m) (Word Wire) lead.Wire (ap (option_map (λ n. leading (led n))) more) of (keeps.0 ∙ sym output, keeps.1) (λ none. none))
        | inr (wire, none) ↦ let wrong : lead.Direction ≡ lead.Wire = sym at ∙ wire in absurd cc
      ]
  at_wire part t at keeps is = absurd cc

  pub at_bracket : (part : LeadPart L) (t : Lexeme) → (lead_place site.of part ≡ lead.Direction) ⊎ (lead_place site.of part ≡ lead.Wire) → IsLed site.output part kept → t ≡ Mark LBracket → Answer part t (Some lead.First)
  at_bracket (led l) t at keeps is = subst (λ u. Answer (led l) u (Some lead.First)) (sym is) (took (led l) (bracketed l) (Mark LBracket) lead.First refl refl keeps.0 (site.opens (led l)))
  at_bracket part t (inl at) keeps is = absurd cc
  at_bracket part t (inr at) keeps is = absurd cc

  -- tokens that aren't taken
  others-led : (l : L) (t : Lexeme) → (t ≡ Word Wire → site.more l ≡ None) → t ≢ Mark LBracket → ((x : List ℕ) → t ≢ Name x) → lead_step site.more (led l) t ≡ None
  others-led l (Word Wire) wire bracket names = ap (option_map (λ n. leading (led n))) (wire refl)
  others-led l (Mark LBracket) wire bracket names = absurd (bracket refl)
  others-led l (Name x) wire bracket names = absurd (names x refl)
  others-led l t wire bracket names = refl

  abbrev pub Others : LeadPlace → Lexeme → Type 0
  Others lead.Direction t = (t ≢ Word Wire) × (t ≢ Mark LBracket) × ((x : List ℕ) → t ≢ Name x)
  Others lead.Wire t = (t ≢ Mark LBracket) × ((x : List ℕ) → t ≢ Name x)
  Others lead.Colon t = t ≢ Mark Colon
  Others lead.Close t = t ≢ Mark RBracket
  Others lead.Range t = (x : List ℕ) → t ≢ Name x
  Others at t = (digits : List ℕ) → t ≢ Number digits

  others : (part : LeadPart L) (t : Lexeme) → Others (lead_place site.of part) t → lead_step site.more part t ≡ None
  others (led l) t none = elim (site.forms l) [
    | inl form ↦ let (wire, bracket, names) = subst (λ h. Others h t) form.0 none in others-led l t (λ is. absurd (wire is)) bracket names
    | inr form ↦ let (bracket, names) = subst (λ h. Others h t) form.0 none in others-led l t (λ is. form.1) bracket names
  ]
  others (bracketed l) (Number digits) none = absurd (none digits refl)
  others (firsted l first) (Mark Colon) none = absurd (none refl)
  others (coloned l first) (Number digits) none = absurd (none digits refl)
  others (lasted l first last) (Mark RBracket) none = absurd (none refl)
  others (ranged l range) (Name x) none = absurd (none x refl)
  others part t none = refl

  pub left_at : (part : LeadPart L) (t : Lexeme) (at : LeadPlace) → lead_place site.of part ≡ at → IsLed site.output part kept → Others at t → Answer part t None
  left_at part t at here keeps none = left part t (others part t (subst (λ h. Others h t) (sym here) none)) keeps

  -- behind the bracket, and behind the colon
  number_or_none : (t : Lexeme) → ((digits : List ℕ) × (t ≡ Number digits)) ⊎ ((digits : List ℕ) → t ≢ Number digits)
  number_or_none (Number digits) = inl (digits, refl)
  number_or_none t = inr (λ digits e. absurd cc)

  pub large_at : (part : LeadPart L) (t : Lexeme) (at : LeadPlace) → lead_place site.of part ≡ at → (((digits : List ℕ) → t ≢ Number digits) → Others at t) → IsLed site.output part kept → ((digits : List ℕ) → t ≡ Number digits → IsTooLarge digits) → Answer part t None
  large_at part t at here others keeps large = elim (number_or_none t) [
    | inl (digits, is) ↦ (subst (Breaks (spelled (site.tree part))) (sym is) (inr (inl (large digits is))), keeps)
    | inr none ↦ left_at part t at here keeps (others none)
  ]

  -- behind the first number, and behind the last
  pub colon : (part : LeadPart L) (t : Lexeme) → lead_place site.of part ≡ lead.Colon → IsLed site.output part kept → t ≡ Mark Colon → Answer part t (Some lead.Last)
  colon (firsted l first) t at keeps is = subst (λ u. Answer (firsted l first) u (Some lead.Last)) (sym is) (took (firsted l first) (coloned l first) (Mark Colon) lead.Last refl refl keeps (λ none. none))
  colon (led l) t at keeps is = absurd (no_place l lead.Colon (λ e. absurd cc) (λ e. absurd cc) at)
  colon part t at keeps is = absurd cc

  pub close : (part : LeadPart L) (t : Lexeme) → lead_place site.of part ≡ lead.Close → IsLed site.output part kept → t ≡ Mark RBracket → Answer part t (Some lead.Range)
  close (lasted l first last) t at keeps is = subst (λ u. Answer (lasted l first last) u (Some lead.Range)) (sym is) (took (lasted l first last) (ranged l (record { first = first; last = last })) (Mark RBracket) lead.Range refl refl keeps (λ none. none))
  close (led l) t at keeps is = absurd (no_place l lead.Close (λ e. absurd cc) (λ e. absurd cc) at)
  close part t at keeps is = absurd cc

  -- a range that is too long
  pub last_long : (part : LeadPart L) (t : Lexeme) (digits : List ℕ) (n : ℕ) → lead_place site.of part ≡ lead.Last → IsLed site.output part kept → t ≡ Number digits → IsValue digits n → MOST_VECTOR_BITS < width (record { first = kept.first; last = n }) → Answer part t None
  last_long (coloned l first) t digits n at keeps is value long =
      let too_long : TooLong first digits = subst (λ f. MOST_VECTOR_BITS < width (record { first = f; last = digits_value 10 digits })) keeps.1.0 (subst (λ m. MOST_VECTOR_BITS < width (record { first = kept.first; last = m })) value.0 long) in
      (subst (Breaks (spelled (site.tree (coloned l first)))) (sym is) (inr (breaks-back (site.tree (coloned l first)) (Number digits) (site.long (coloned l first) digits too_long))), keeps)
  last_long (led l) t digits n at keeps is value long = absurd (no_place l lead.Last (λ e. absurd cc) (λ e. absurd cc) at)
  last_long part t digits n at keeps is value long = absurd cc

  -- behind a sign
  pub by_sign : (part : LeadPart L) (t u : Lexeme) (after : LeadPlace) (result : Option LeadPlace) → MatchOption result (t ≢ u) (λ at. (at ≡ after) × (t ≡ u)) → (t ≡ u → Answer part t (Some after)) → (t ≢ u → Answer part t None) → Answer part t result
  by_sign part t u after None e takes other = other e
  by_sign part t u after (Some at) e takes other = subst (λ a. Answer part t (Some a)) (sym e.0) (takes e.1)

  -- a name behind what a declaration begins with
  pub names_none : (part : LeadPart L) (x : List ℕ) → takes_name (lead_place site.of part) ≡ false → step (site.tree part) (Name x) ≡ None
  names_none (led l) x e = absurd (elim (site.forms l) [
    | inl form ↦ false≢true (sym e ∙ ap takes_name form.0)
    | inr form ↦ false≢true (sym e ∙ ap takes_name form.0)
  ])
  names_none (ranged l range) x e = absurd (false≢true (sym e))
  names_none part x e = site.leaves part (Name x) refl

  -- what it is declared with
  pub record Begins (part : LeadPart L) (x : List ℕ) : Type 0 where
    pub spec : Spec L
    pub says : part_spec (leading part) ≡ Some spec
    pub keeps : IsSaid site.output spec kept
    pub takes : lead_step site.more part (Name x) ≡ Some (naming spec [] x)

  begins_led : (part : LeadPart L) (x : List ℕ) → takes_name (lead_place site.of part) ≡ true → IsLed site.output part kept → Begins part x
  begins_led (led l) x e keeps = record {
    spec = record { lead = l; range = None };
    says = refl;
    keeps = (keeps.0, record { same = sym keeps.1; few = λ s is. absurd (none-some s (sym keeps.1 ∙ is)) });
    takes = refl;
  }
  begins_led (ranged l range) x e keeps = record {
    spec = record { lead = l; range = Some range };
    says = refl;
    keeps = keeps;
    takes = refl;
  }
  begins_led part x e keeps = absurd (false≢true e)

  -- where a name may be next
  pub begins : (part : LeadPart L) (x : List ℕ) (at : LeadPlace) (takes : Bool) → lead_place site.of part ≡ at → takes ≡ takes_name at → takes ≡ true → IsLed site.output part kept → Begins part x
  begins part x at takes here says taken keeps = begins_led part x (ap takes_name here ∙ sym says ∙ taken) keeps

-- numbers that are taken
module _ {L : Type 0} (site : Site L) (old new : Led) where
  pub first : (part : LeadPart L) (t : Lexeme) (digits : List ℕ) → lead_place site.of part ≡ lead.First → IsLed site.output part old → t ≡ Number digits → new.output ≡ old.output → IsValue digits new.first → (IsTooLarge digits → ⊥) → LeadTakes site.tree site.output site.of part t (Some lead.Colon) new
  first (bracketed l) t digits at keeps is same value small = subst (λ u. LeadTakes site.tree site.output site.of (bracketed l) u (Some lead.Colon) new) (sym is) (took site new (bracketed l) (firsted l digits) (Number digits) lead.Colon refl refl (same ∙ keeps, value) (number_rule site new (bracketed l) digits small (λ none. none)))
  first (led l) t digits at keeps is same value small = absurd (no_place site old l lead.First (λ e. absurd cc) (λ e. absurd cc) at)
  first part t digits at keeps is same value small = absurd cc

  pub last : (part : LeadPart L) (t : Lexeme) (digits : List ℕ) (n : ℕ) → lead_place site.of part ≡ lead.Last → IsLed site.output part old → t ≡ Number digits → new.output ≡ old.output → new.span ≡ Some (record { first = old.first; last = n }) → IsValue digits n → (IsTooLarge digits → ⊥) → (MOST_VECTOR_BITS < width (record { first = old.first; last = n }) → ⊥) → LeadTakes site.tree site.output site.of part t (Some lead.Close) new
  last (coloned l first_digits) t digits n at keeps is same spans value small short = subst (λ u. LeadTakes site.tree site.output site.of (coloned l first_digits) u (Some lead.Close) new) (sym is) (took site new (coloned l first_digits) (lasted l first_digits digits) (Number digits) lead.Close refl refl (same ∙ keeps.0, span) (number_rule site new (coloned l first_digits) digits small no_long))
    where
      numbers : Span → Type 0
      numbers s = (s.first < 65536) × (s.last < 65536)

      span : IsSpanOf (Some (record { first = first_digits; last = digits })) new.span
      span = record {
        same = (λ i. Some (record { first = sym keeps.1.0 i; last = sym value.0 i })) ∙ sym spans;
        few = λ s e. subst numbers (same_Some (record { first = old.first; last = n }) s (sym spans ∙ e)) (keeps.1.1, value.1);
      }

      no_long : TooLong first_digits digits → ⊥
      no_long long = short (subst (λ f. MOST_VECTOR_BITS < width (record { first = f; last = n })) (sym keeps.1.0) (subst (λ m. MOST_VECTOR_BITS < width (record { first = digits_value 10 first_digits; last = m })) (sym value.0) long))
  last (led l) t digits n at keeps is same spans value small short = absurd (no_place site old l lead.Last (λ e. absurd cc) (λ e. absurd cc) at)
  last part t digits n at keeps is same spans value small short = absurd cc

-- the two places
pub direction_forms : (l : Direction) → Form direction_place direction_more direction_output l
direction_forms (Plain way) = inl (refl, (Wired way, refl, refl, refl))
direction_forms (Wired way) = inr (refl, refl)

pub word_forms : (l : Lead) → Form word_place lead_more lead_output l
word_forms (Gives (Plain way)) = inl (refl, (Gives (Wired way), refl, refl, refl))
word_forms (Gives (Wired way)) = inr (refl, refl)
word_forms Wires = inr (refl, refl)

pub number_part : {A B : Type 0} → A ⊎ (B ⊎ ⊥) → A ⊎ B
number_part (inl a) = inl a
number_part (inr (inl b)) = inr b
number_part (inr (inr none)) = absurd none

abbrev pub in_header : List ℕ → List (Group Direction) → Site Direction
in_header title groups = record {
  tree = λ part. heading title groups (leading part);
  phrase = direction_phrase;
  output = direction_output;
  of = direction_place;
  more = direction_more;
  takes = λ part next t is. ap (λ found. or_else (option_map (heading title groups) found) None) is;
  leaves = λ part t is. ap (λ found. or_else (option_map (heading title groups) found) None) is;
  opens = λ part none. none;
  numbers = λ part digits b. number_part b;
  long = λ part digits b. inr (inl b);
  forms = direction_forms;
}

abbrev pub in_item : Head → List Item → Site Lead
in_item head items = record {
  tree = λ part. inside head items (declaring (leading part));
  phrase = lead_phrase;
  output = lead_output;
  of = word_place;
  more = lead_more;
  takes = λ part next t is. ap (λ found. or_else (option_map (λ more. inside head items (declaring more)) found) None) is;
  leaves = λ part t is. ap (λ found. or_else (option_map (λ more. inside head items (declaring more)) found) None) is;
  opens = λ part none. none;
  numbers = λ part digits b. number_part b;
  long = λ part digits b. inr (inl b);
  forms = word_forms;
}
