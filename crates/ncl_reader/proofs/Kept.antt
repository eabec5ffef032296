-- What is kept of names, with a token more.
pub use Rattle.ncl_reader.proofs.Terms.{◌≡◌, ◌≢◌, MatchOption, ◌<◌, ℕ, List, [], ◌∷◌, ◌++◌, Option, Some, None, Bool, true, false, cond, inl, inr, ◌⊎◌, refl, sym, ap, ◌∙◌, subst, option_map, bytes_eq, same_Some, none-some, bytes_eq-Decides, Span, Ranges, Lexeme, Name, Range, IsDeclaring, span_of, IsDeclared, has_name, IsRanges, range_at, vector_at, kept_as, false≢true, NameSet, IsAtNet, IsUsed, IsUses, ◌+◌, arith, length, codes, decimal, length-append, Covers, bit_name, Stands, IsVector, IsBit, IsClear, Clashes, Contains, slice_index, Contains-append_left, Contains-append_right, Contains-append_cases, KeptBits, IsStanding, numbers_at, is_some, Known, Redeclares, KeepsNames, inside, opened, unwrap_or, rules, IfOk, btree_map_updates_str}
use Rattle.ncl_reader.proofs.Facts.{declared-more, declared-old, declaring-once, used-more, used-old, stands-more, stands-old, declaring-here, spans_or_not}
pub use Rattle.ncl_reader.proofs.Steps.{no_token, name_in}
use Rattle.ncl_reader.proofs.Bits.{bit_name-injective, at_default}
use Rattle.ncl_reader.proofs.Among.{single}

-- a declaration more
module _ (old new : Ranges) (xs : List Lexeme) (x : List ℕ) (range : Option Range) (span : Option Span) where
  pub ranges-more : ((y : List ℕ) → range_at new y ≡ cond (bytes_eq x y) (Some span) (range_at old y)) → IsRanges old xs → IsDeclaring xs range → option_map span_of range ≡ span → ((other : Option Range) → IsDeclared xs x other → option_map span_of other ≡ span) → ((s : Span) → span ≡ Some s → (s.first < 65536) × (s.last < 65536)) → IsRanges new (xs ++ Name x ∷ [])
  ranges-more updates is declares same agree fits = record {
    small = λ y s e. few y s (bytes_eq x y) refl (sym (updates y) ∙ e);
    declared = λ y r d. declared y r (declared-more xs (Name x) y r d);
    only = λ y s e. only y s (bytes_eq x y) refl (sym (updates y) ∙ e);
  }
    where
      here : (y : List ℕ) → x ≡ y → range_at new y ≡ Some span
      here y is_y = updates y ∙ ap (λ b. cond b (Some span) (range_at old y)) ((bytes_eq-Decides x y).1 is_y)

      there : (y : List ℕ) → bytes_eq x y ≡ false → range_at new y ≡ range_at old y
      there y other = updates y ∙ ap (λ b. cond b (Some span) (range_at old y)) other

      old_declared : (y : List ℕ) (r : Option Range) (b : Bool) → bytes_eq x y ≡ b → IsDeclared xs y r → range_at new y ≡ Some (option_map span_of r)
      old_declared y r true e d =
          let is_y = (bytes_eq-Decides x y).0 e in
          here y is_y ∙ ap (λ s. Some s) (sym (agree r (subst (λ z. IsDeclared xs z r) (sym is_y) d)))
      old_declared y r false e d = there y e ∙ is.declared y r d

      few : (y : List ℕ) (s : Span) (b : Bool) → bytes_eq x y ≡ b → cond b (Some span) (range_at old y) ≡ Some (Some s) → (s.first < 65536) × (s.last < 65536)
      few y s true e found = fits s (same_Some span (Some s) found)
      few y s false e found = is.small y s found

      declared : (y : List ℕ) (r : Option Range) → IsDeclared xs y r ⊎ ((Name x ≡ Name y) × IsDeclaring xs r) → range_at new y ≡ Some (option_map span_of r)
      declared y r (inl d) = old_declared y r (bytes_eq x y) refl d
      declared y r (inr (e, declaring)) = here y (name_in e) ∙ ap (λ s. Some s) (sym same ∙ ap (option_map span_of) (declaring-once xs range r declares declaring))

      only : (y : List ℕ) (s : Option Span) (b : Bool) → bytes_eq x y ≡ b → cond b (Some span) (range_at old y) ≡ Some s → (r : Option Range) × IsDeclared (xs ++ Name x ∷ []) y r × (option_map span_of r ≡ s)
      only y s true e found = (range, subst (λ z. IsDeclared (xs ++ Name x ∷ []) z range) ((bytes_eq-Decides x y).0 e) (xs, [], refl, declares), same ∙ same_Some span s found)
      only y s false e found = let (r, d, is_s) = is.only y s found in (r, declared-old xs (Name x ∷ []) y r d, is_s)

-- a name more that isn't declared, or another token
pub ranges-other : (ranges : Ranges) (xs : List Lexeme) (t : Lexeme) → ((y : List ℕ) (range : Option Range) → t ≡ Name y → IsDeclaring xs range → ⊥) → IsRanges ranges xs → IsRanges ranges (xs ++ t ∷ [])
ranges-other ranges xs t other is = record {
  small = is.small;
  declared = λ y r d. elim (declared-more xs t y r d) [
    | inl before ↦ is.declared y r before
    | inr last ↦ absurd (other y r last.0 last.1)
  ];
  only = λ y s e. let (r, d, same) = is.only y s e in (r, declared-old xs (t ∷ []) y r d, same);
}

-- nothing stands
pub ranges-none : (ranges : Ranges) → ((y : List ℕ) → range_at ranges y ≡ None) → IsRanges ranges []
ranges-none ranges none = record {
  small = λ y s e. absurd (none-some (Some s) (sym (none y) ∙ e));
  declared = λ y r (front, rest, e, declares). absurd (no_token front rest (Name y) e);
  only = λ y s e. absurd (none-some s (sym (none y) ∙ e));
}

-- a vector more, and a name with no range more, which is no vector
pub kept-vector : (e : Bool) (span : Span) (kept : Option Span) (plain : Bool) → kept_as (cond e (Some span) kept) plain ≡ cond e (Some (Some span)) (kept_as kept plain)
kept-vector true span kept plain = refl
kept-vector false span kept plain = refl

kept-plain : (e : Bool) (kept : Option Span) (plain : Bool) → (e ≡ true → kept ≡ None) → kept_as kept (cond e true plain) ≡ cond e (Some None) (kept_as kept plain)
kept-plain true kept plain none = ap (λ o. kept_as o true) (none refl)
kept-plain false kept plain none = refl

pub plain-more : (old new : Ranges) (xs : List Lexeme) (x : List ℕ) → IsRanges old xs → ((other : Option Range) → IsDeclared xs x other → option_map span_of other ≡ None) → ((y : List ℕ) → vector_at new y ≡ vector_at old y) → ((y : List ℕ) → has_name new.plain y ≡ cond (bytes_eq x y) true (has_name old.plain y)) → (y : List ℕ) → range_at new y ≡ cond (bytes_eq x y) (Some None) (range_at old y)
plain-more old new xs x is agree same more y =
    (λ i. kept_as (same y i) (more y i))
    ∙ kept-plain (bytes_eq x y) (vector_at old y) (has_name old.plain y) (λ e. subst (λ z. vector_at old z ≡ None) ((bytes_eq-Decides x y).0 e) (by (vector_at old x) refl))
  where
    by : (kept : Option Span) → vector_at old x ≡ kept → kept ≡ None
    by None e = refl
    by (Some span) e =
        let (range, declared, was) = is.only x (Some span) (ap (λ o. kept_as o (has_name old.plain x)) e) in
        absurd (none-some span (sym (agree range declared) ∙ was))

-- a name with no range is no vector
pub unkept : (plain : Bool) (span : Span) → kept_as None plain ≢ Some (Some span)
unkept true span e = none-some span (same_Some None (Some span) e)
unkept false span e = none-some (Some span) e

pub vector-found : (ranges : Ranges) (x : List ℕ) (found : Option Span) → found ≡ vector_at ranges x → MatchOption found ((span : Span) → range_at ranges x ≢ Some (Some span)) (λ span. range_at ranges x ≡ Some (Some span))
vector-found ranges x None e = λ span at. unkept (has_name ranges.plain x) span (ap (λ o. kept_as o (has_name ranges.plain x)) e ∙ at)
vector-found ranges x (Some span) e = ap (λ o. kept_as o (has_name ranges.plain x)) (sym e)

-- what is no vector was declared with no range
pub unvectored : (ranges : Ranges) (xs : List Lexeme) (x : List ℕ) → IsRanges ranges xs → ((span : Span) → range_at ranges x ≢ Some (Some span)) → (other : Option Range) → IsDeclared xs x other → option_map span_of other ≡ None
unvectored ranges xs x is none None declared = refl
unvectored ranges xs x is none (Some range) declared = absurd (none (span_of range) (is.declared x (Some range) declared))

pub uses-more : (old new : NameSet) (xs : List Lexeme) (x : List ℕ) → ((y : List ℕ) → has_name new y ≡ cond (bytes_eq x y) true (has_name old y)) → IsUses old xs → IsAtNet xs → IsUses new (xs ++ Name x ∷ [])
uses-more old new xs x updates is net = record {
  used = λ y used. updates y ∙ known y (bytes_eq x y) refl (used-more xs (Name x) y used);
  only = λ y e. only y (bytes_eq x y) refl (sym (updates y) ∙ e);
}
  where
    known : (y : List ℕ) (b : Bool) → bytes_eq x y ≡ b → IsUsed xs y ⊎ ((Name x ≡ Name y) × IsAtNet xs) → cond b true (has_name old y) ≡ true
    known y true e used = refl
    known y false e (inl before) = is.used y before
    known y false e (inr (same, at)) = absurd (false≢true (sym e ∙ (bytes_eq-Decides x y).1 (name_in same)))

    only : (y : List ℕ) (b : Bool) → bytes_eq x y ≡ b → cond b true (has_name old y) ≡ true → IsUsed (xs ++ Name x ∷ []) y
    only y true e found = subst (IsUsed (xs ++ Name x ∷ [])) ((bytes_eq-Decides x y).0 e) (xs, [], refl, net)
    only y false e found = used-old xs (Name x ∷ []) y (is.only y found)

-- a token that is no name on a pin
pub uses-other : (uses : NameSet) (xs : List Lexeme) (t : Lexeme) → ((y : List ℕ) → t ≡ Name y → IsAtNet xs → ⊥) → IsUses uses xs → IsUses uses (xs ++ t ∷ [])
uses-other uses xs t other is = record {
  used = λ y used. elim (used-more xs t y used) [
    | inl before ↦ is.used y before
    | inr last ↦ absurd (other y last.0 last.1)
  ];
  only = λ y e. used-old xs (t ∷ []) y (is.only y e);
}

pub uses-none : (uses : NameSet) → ((y : List ℕ) → has_name uses y ≡ false) → IsUses uses []
uses-none uses none = record {
  used = λ y (front, rest, e, net). absurd (no_token front rest (Name y) e);
  only = λ y e. absurd (false≢true (sym (none y) ∙ e));
}

-- the same names
pub uses-same : (old new : NameSet) (xs : List Lexeme) → ((y : List ℕ) → has_name new y ≡ has_name old y) → IsUses old xs → IsUses new xs
uses-same old new xs same is = record {
  used = λ y used. same y ∙ is.used y used;
  only = λ y e. is.only y (sym (same y) ∙ e);
}

-- no name is that of its own bit
not_own : (x : List ℕ) (k : ℕ) → x ≢ bit_name x k
not_own x k e =
    let lengths : length x ≡ length x + length (codes "[" ++ (decimal k ++ codes "]")) = ap length e ∙ length-append x (codes "[" ++ (decimal k ++ codes "]")) in
    let some : length (codes "[" ++ (decimal k ++ codes "]")) ≡ length (codes "[") + length (decimal k ++ codes "]") = length-append (codes "[") (decimal k ++ codes "]") in
    let one : length (codes "[") ≡ 1 = refl in
    omega (arith, lengths, some, one)

-- a token that is no name, or a name that clashes with nothing
pub clear-more : (xs : List Lexeme) (t : Lexeme) → IsClear xs → ((x : List ℕ) → t ≡ Name x → Clashes xs x → ⊥) → IsClear (xs ++ t ∷ [])
clear-more xs t clear fine vector range k declared covers stands = by (declared-more xs t vector (Some range) declared) (stands-more xs t (bit_name vector k) stands)
  where
    by : IsDeclared xs vector (Some range) ⊎ ((t ≡ Name vector) × IsDeclaring xs (Some range)) → Stands xs (bit_name vector k) ⊎ (t ≡ Name (bit_name vector k)) → ⊥
    by (inl before) (inl stood) = clear vector range k before covers stood
    by (inl before) (inr here) = fine (bit_name vector k) here (inl (vector, range, k, refl, before, covers))
    by (inr (e, declares)) (inl stood) = fine vector e (inr (range, k, declares, covers, stood))
    by (inr (e, declares)) (inr here) = not_own vector k (name_in (sym e ∙ here))

pub clear-name : (xs : List Lexeme) (x : List ℕ) → IsClear xs → (Clashes xs x → ⊥) → IsClear (xs ++ Name x ∷ [])
clear-name xs x clear fine = clear-more xs (Name x) clear (λ y e clashes. fine (subst (Clashes xs) (sym (name_in e)) clashes))

pub clear-none : IsClear []
clear-none vector range k (front, rest, e, declares) covers stands = no_token front rest (Name vector) e

-- a vector that is declared again clashes only by its own name
pub clear-again : (xs : List Lexeme) (x : List ℕ) (range other : Range) → IsClear xs → IsDeclaring xs (Some range) → ((r : Option Range) → IsDeclaring xs r → r ≡ Some range) → IsVector xs x other → span_of other ≡ span_of range → (IsBit xs x → ⊥) → Clashes xs x → ⊥
clear-again xs x range other clear declares once declared same fine (inl bit) = fine bit
clear-again xs x range other clear declares once declared same fine (inr (r, k, is, covers, stands)) =
    let spans : span_of r ≡ span_of other = ap span_of (same_Some r range (once (Some r) is)) ∙ sym same in
    clear x other k declared (subst (λ s. Covers s k) spans covers) stands

module _ (old new : KeptBits) (xs : List Lexeme) (vector : List ℕ) (number : ℕ) (name : List ℕ) where
  pub standing-more : name ≡ bit_name vector number → number < 65536 → ((v : List ℕ) → numbers_at new v ≡ cond (bytes_eq vector v) (numbers_at old vector ++ number ∷ []) (numbers_at old v)) → IsStanding old xs → IsStanding new (xs ++ Name name ∷ [])
  standing-more is few more kept = record {
    stands = λ v k found. (split v k (bytes_eq vector v) refl (subst (λ l. Contains l k) (more v) found)).0;
    small = λ v k found. (split v k (bytes_eq vector v) refl (subst (λ l. Contains l k) (more v) found)).1;
    kept = λ v k small stands. keeps v k small (stands-more xs (Name name) (bit_name v k) stands);
  }
    where
      Both : List ℕ → ℕ → Type 0
      Both v k = Stands (xs ++ Name name ∷ []) (bit_name v k) × (k < 65536)

      before : (v : List ℕ) (k : ℕ) → Contains (numbers_at old v) k → Both v k
      before v k found = (stands-old xs (Name name ∷ []) (bit_name v k) (kept.stands v k found), kept.small v k found)

      here : (k : ℕ) → Contains (numbers_at old vector ++ number ∷ []) k → Both vector k
      here k found = elim (Contains-append_cases (numbers_at old vector) (number ∷ []) k found) [
        | inl was ↦ before vector k was
        | inr last ↦ let same : number ≡ k = single number k last in
            subst (Both vector) same ((xs, [], ap (λ n. xs ++ Name n ∷ []) is), few)
      ]

      split : (v : List ℕ) (k : ℕ) (b : Bool) → bytes_eq vector v ≡ b → Contains (cond b (numbers_at old vector ++ number ∷ []) (numbers_at old v)) k → Both v k
      split v k true e found = subst (λ w. Both w k) ((bytes_eq-Decides vector v).0 e) (here k found)
      split v k false e found = before v k found

      known : (v : List ℕ) (k : ℕ) (b : Bool) → bytes_eq vector v ≡ b → Contains (numbers_at old v) k → Contains (cond b (numbers_at old vector ++ number ∷ []) (numbers_at old v)) k
      known v k true e found = Contains-append_left (numbers_at old vector) (number ∷ []) k (subst (λ w. Contains (numbers_at old w) k) (sym ((bytes_eq-Decides vector v).0 e)) found)
      known v k false e found = found

      keeps : (v : List ℕ) (k : ℕ) → k < 65536 → Stands xs (bit_name v k) ⊎ (Name name ≡ Name (bit_name v k)) → Contains (numbers_at new v) k
      keeps v k small (inl stands) = subst (λ l. Contains l k) (sym (more v)) (known v k (bytes_eq vector v) refl (kept.kept v k small stands))
      keeps v k small (inr e) =
          let (vs, ks) = bit_name-injective vector v number k (omega (arith, few)) (omega (arith, small)) (sym is ∙ name_in e) in
          let test : bytes_eq vector v ≡ true = (bytes_eq-Decides vector v).1 vs in
          let there : numbers_at new v ≡ numbers_at old vector ++ number ∷ [] = more v ∙ ap (λ b. cond b (numbers_at old vector ++ number ∷ []) (numbers_at old v)) test in
          subst (λ l. Contains l k) (sym there) (Contains-append_right (numbers_at old vector) (number ∷ []) k (subst (λ n. Contains (number ∷ []) n) ks (0, omega arith, refl)))

-- a token that is no name of a bit
pub standing-other : (kept : KeptBits) (xs : List Lexeme) (t : Lexeme) → ((v : List ℕ) (k : ℕ) → k < 65536 → t ≢ Name (bit_name v k)) → IsStanding kept xs → IsStanding kept (xs ++ t ∷ [])
standing-other kept xs t other is = record {
  stands = λ v k found. stands-old xs (t ∷ []) (bit_name v k) (is.stands v k found);
  small = is.small;
  kept = λ v k small stands. elim (stands-more xs t (bit_name v k) stands) [
    | inl before ↦ is.kept v k small before
    | inr last ↦ absurd (other v k small last)
  ];
}

-- nothing stands
pub standing-none : (kept : KeptBits) → ((v : List ℕ) → numbers_at kept v ≡ []) → IsStanding kept []
standing-none kept none = record {
  stands = λ v k found. let (i, less, e) = subst (λ l. Contains l k) (none v) found in absurd (omega (arith, less));
  small = λ v k found. let (i, less, e) = subst (λ l. Contains l k) (none v) found in absurd (omega (arith, less));
  kept = λ v k small (front, rest, e). absurd (no_token front rest (Name (bit_name v k)) e);
}

-- a number that is kept is one of a vector, or none is
module _ (kept : KeptBits) (xs : List Lexeme) (vector : List ℕ) (span : Span) (numbers : List ℕ) (same : numbers ≡ numbers_at kept vector) (is : IsStanding kept xs) where
  pub covers_stands : (i : ℕ) → i < length numbers → Covers span (slice_index numbers i) → (k : ℕ) × Covers span k × Stands xs (bit_name vector k)
  covers_stands i less covers =
      let k = slice_index numbers i in
      (k, covers, is.stands vector k (subst (λ l. Contains l k) same (i, less, at_default numbers i k 0 less)))

  pub stands_covers : span.first < 65536 → span.last < 65536 → (k : ℕ) → Covers span k → Stands xs (bit_name vector k) → (i : ℕ) × (i < length numbers) × Covers span (slice_index numbers i)
  stands_covers first last k covers stands =
      let small : k < 65536 = elim covers [
        | inl rising ↦ omega (arith, rising.1, last)
        | inr falling ↦ omega (arith, falling.1, first)
      ] in
      let (i, less, e) = subst (λ l. Contains l k) (sym same) (is.kept vector k small stands) in
      (i, less, subst (Covers span) (sym (at_default numbers i 0 k less ∙ e)) covers)

-- a token that is no name
pub kept_mark : (known : Known) (xs : List Lexeme) (t : Lexeme) → ((x : List ℕ) → t ≢ Name x) → KeepsNames known xs → KeepsNames known (xs ++ t ∷ [])
kept_mark known xs t other kept = record {
  ranges = ranges-other known.ranges xs t (λ y range is declares. other y is) kept.ranges;
  standing = standing-other known.bits xs t (λ v k small. other (bit_name v k)) kept.standing;
  uses = uses-other known.uses xs t (λ y is net. other y is) kept.uses;
  clear = clear-more xs t kept.clear (λ x e. absurd (other x e));
}

-- a name that was declared with another range, by what is kept
module _ (known : Known) (xs : List Lexeme) (x : List ℕ) (range : Option Range) (span : Option Span) (kept : KeepsNames known xs) (declares : IsDeclaring xs range) (same : option_map span_of range ≡ span) where
  abbrev Agrees : Type 0
  Agrees = (other : Option Range) → IsDeclared xs x other → option_map span_of other ≡ span

  pub redeclares_other : (Agrees → ⊥) → Redeclares xs x
  redeclares_other differs = by (range_at known.ranges x) refl
    where
      by : (found : Option (Option Span)) → range_at known.ranges x ≡ found → Redeclares xs x
      by None e = absurd (differs (λ other declared. absurd (none-some (option_map span_of other) (sym e ∙ kept.ranges.declared x other declared))))
      by (Some s) e =
          let (other, declared, is) = kept.ranges.only x s e in
          elim (spans_or_not other range) [
            | inr differ ↦ (range, declares, inl (other, declared, differ))
            | inl agree ↦ absurd (differs (λ more d. same_Some (option_map span_of more) s (sym (kept.ranges.declared x more d) ∙ e) ∙ sym is ∙ agree ∙ same))
          ]

  pub redeclares_used : Agrees → Redeclares xs x → (range ≢ None) × IsUsed xs x
  redeclares_used agrees (r, other, inl (o, declared, differ)) = absurd (differ (agrees o declared ∙ sym same ∙ ap (option_map span_of) (declaring-once xs range r declares other)))
  redeclares_used agrees (r, other, inr (some, used)) = ((λ none. some (sym (declaring-once xs range r declares other) ∙ none)), used)

  -- a name that is declared without a range clashes only as a bit's name
  pub clashes_scalar : span ≡ None → (IsBit xs x → ⊥) → Clashes xs x → ⊥
  clashes_scalar none fine (inl bit) = fine bit
  clashes_scalar none fine (inr (r, k, is, covers, stands)) = no_span (sym none ∙ sym same ∙ ap (option_map span_of) (declaring-once xs range (Some r) declares is))
    where
      no_span : None ≡ Some (span_of r) → ⊥
      no_span e = absurd cc

  -- the range, where it has numbers
  pub some_range : (s : Span) → span ≡ Some s → (r : Range) × (range ≡ Some r) × (span_of r ≡ s)
  some_range s is = by range refl
    where
      by : (found : Option Range) → range ≡ found → (r : Range) × (range ≡ Some r) × (span_of r ≡ s)
      by None e = absurd (none-some s (ap (option_map span_of) (sym e) ∙ same ∙ is))
      by (Some r) e = (r, e, same_Some (span_of r) s (ap (option_map span_of) (sym e) ∙ same ∙ is))

  -- so does one that is declared again with the same range
  pub clashes_again : (s : Span) (before : Option Span) → span ≡ Some s → range_at known.ranges x ≡ Some before → (Redeclares xs x → ⊥) → (IsBit xs x → ⊥) → Clashes xs x → ⊥
  clashes_again s before is found fine bit clashes =
      let (r, e, numbers) = some_range s is in
      let (other, declared, was) = kept.ranges.only x before found in
      elim (spans_or_not other range) [
        | inr differ ↦ fine (range, declares, inl (other, declared, differ))
        | inl agree ↦ by r e other declared (agree ∙ same ∙ is)
      ]
    where
      by : (r : Range) → range ≡ Some r → (other : Option Range) → IsDeclared xs x other → option_map span_of other ≡ Some s → ⊥
      by r e None declared agree = absurd (none-some s agree)
      by r e (Some other) declared agree = clear-again xs x r other kept.clear (subst (IsDeclaring xs) e declares) (λ q more. sym (declaring-once xs range q declares more) ∙ e) declared (same_Some (span_of other) s agree ∙ sym (same_Some (span_of r) s (ap (option_map span_of) (sym e) ∙ same ∙ is))) bit clashes

  -- or a name of one of its bits stands
  pub clashes_stands : (s : Span) → span ≡ Some s → (k : ℕ) → Covers s k → Stands xs (bit_name x k) → Clashes xs x
  clashes_stands s is k covers stands = let (r, e, numbers) = some_range s is in inr (r, k, subst (IsDeclaring xs) e declares, subst (λ n. Covers n k) (sym numbers) covers, stands)

  pub stands_clashes : (s : Span) → span ≡ Some s → (IsBit xs x → ⊥) → Clashes xs x → (k : ℕ) × Covers s k × Stands xs (bit_name x k)
  stands_clashes s is fine (inl bit) = absurd (fine bit)
  stands_clashes s is fine (inr (r, k, more, covers, stands)) = (k, subst (λ n. Covers n k) (same_Some (span_of r) s (ap (option_map span_of) (sym (declaring-once xs range (Some r) declares more)) ∙ same ∙ is)) covers, stands)

pub bit_of_clash : (xs : List Lexeme) (x : List ℕ) → ((range : Option Range) → IsDeclaring xs range → ⊥) → Clashes xs x → IsBit xs x
bit_of_clash xs x none (inl bit) = bit
bit_of_clash xs x none (inr (range, k, declares, covers, stands)) = absurd (none (Some range) declares)

pub some_before : {X : Type 0} (found : Option X) → is_some found ≡ true → (x : X) × (found ≡ Some x)
some_before None e = absurd (false≢true e)
some_before (Some x) e = (x, refl)

-- what isn't declared anew agrees
pub agrees_fine : (xs : List Lexeme) (x : List ℕ) (range : Option Range) (span : Option Span) → IsDeclaring xs range → option_map span_of range ≡ span → (Redeclares xs x → ⊥) → (other : Option Range) → IsDeclared xs x other → option_map span_of other ≡ span
agrees_fine xs x range span declares same fine other declared = elim (spans_or_not other range) [
  | inl agree ↦ agree ∙ same
  | inr differ ↦ absurd (fine (range, declares, inl (other, declared, differ)))
]

-- no name is declared where a net stands
pub declared_unused : (xs : List Lexeme) (range : Option Range) → IsDeclaring xs range → IsAtNet xs → ⊥
declared_unused xs range declares (head, items, cell, name, conns, pin, is) =
    let e : None ≡ Some range = declaring-here (inside head items (opened cell name conns pin)) range (subst (λ l. IsDeclaring l range) is declares) in absurd cc

-- what has no numbers is no range
pub none_range : (range : Option Range) → option_map span_of range ≡ None → range ≡ None
none_range None e = refl
none_range (Some range) e = absurd cc
