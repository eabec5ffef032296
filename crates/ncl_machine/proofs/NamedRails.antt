-- The rails of bits by number: those that a word names, and what it says of them that a bit has data.
use Rattle.ncl_machine.proofs.Terms.{AllPairs, Bool, List, Member-append_left, Member-get_or, Nets, None, Rails, Some, [], among, among-from_member, and_from, ap, arith, eqb-true, false, get_or, has_data, here, inl, inr, length, list_all, member_from_list_any, named_rails, nat_eq, no_rails, or_cases, or_left, or_right, own_rail, parts-differ, rail-within, rail_at, rail_nets, rail_of, refl, right-differ, slice_get, subst, suc, sym, there, true, zero, ℕ, ◌++◌, ◌<◌, ◌||◌, ◌∙◌, ◌∷◌, ◌≡◌, ◌≢◌, ◌≤◌}
use Rattle.ncl_machine.proofs.InOrder.{one_named}
use Rattle.ncl_base.specs.Members.{Member}

-- the bit of a word by its number
abbrev pub bit_at : List Bool → ℕ → Bool
bit_at word b = get_or word b false

-- a net that is among some is one of them
pub member-from_among : (net : ℕ) (nets : List ℕ) → among nets net ≡ true → Member net nets
member-from_among net nets high = let (x, m, at) = member_from_list_any (nat_eq net) nets high in subst (λ y. Member y nets) (sym (eqb-true net x at)) m

-- ---- rails are of one bit

-- where all rails differ, a rail is of one bit and one value
pub rail-is_one : (bits : List Rails) (ys : List ℕ) → AllPairs (λ x y. x ≢ y) (rail_nets bits ++ ys) → (a b : ℕ) (q r : Bool)
    → a < length bits → b < length bits → rail_at bits a q ≡ rail_at bits b r → (a ≡ b) × (q ≡ r)
rail-is_one [] ys differ a b q r la lb e = absurd (omega arith)
rail-is_one (x ∷ xs) ys differ zero zero q r la lb e = (refl, sides q r e)
  where
    zero_one : x.zero.0 ≡ x.one.0 → ⊥
    zero_one e =
        parts-differ x.zero.0 {xs = x.zero.0 ∷ []} (x.one.0 ∷ rail_nets xs ++ ys) differ here (subst (λ z. Member z (x.one.0 ∷ rail_nets xs ++ ys)) (sym e) here)

    sides : (q r : Bool) → rail_of x q ≡ rail_of x r → q ≡ r
    sides true true e = refl
    sides true false e = absurd (zero_one (sym e))
    sides false true e = absurd (zero_one e)
    sides false false e = refl
rail-is_one (x ∷ xs) ys differ zero (suc b) q r la lb e =
    absurd (parts-differ (rail_of x q) {xs = x.zero.0 ∷ x.one.0 ∷ []} (rail_nets xs ++ ys) differ (own_rail x q)
    (Member-append_left (rail_of x q) ys (subst (λ z. Member z (rail_nets xs)) (sym e) (rail-within xs b r (omega arith)))))
rail-is_one (x ∷ xs) ys differ (suc a) zero q r la lb e =
    absurd (parts-differ (rail_of x r) {xs = x.zero.0 ∷ x.one.0 ∷ []} (rail_nets xs ++ ys) differ (own_rail x r)
    (Member-append_left (rail_of x r) ys (subst (λ z. Member z (rail_nets xs)) e (rail-within xs a q (omega arith)))))
rail-is_one (x ∷ xs) ys differ (suc a) (suc b) q r la lb e =
    let (same, side) = rail-is_one xs ys (right-differ (x.zero.0 ∷ x.one.0 ∷ []) (rail_nets xs ++ ys) differ) a b q r (omega arith) (omega arith) e in (ap suc same, side)

-- ---- the rails that a word names

-- of each bit it names the rail of its value
pub named-has : (bits : List Rails) (word : List Bool) → length word ≡ length bits → (b : ℕ) → b < length bits
    → Member (rail_at bits b (bit_at word b)) (named_rails bits word)
named-has [] word e b lt = absurd (omega arith)
named-has (x ∷ xs) [] e b lt = absurd (omega (arith, e))
named-has (x ∷ xs) (y ∷ word) e zero lt = here
named-has (x ∷ xs) (y ∷ word) e (suc b) lt = there (named-has xs word (omega (arith, e)) b (omega arith))

-- and no others
pub named-place : (bits : List Rails) (word : List Bool) (net : ℕ) → Member net (named_rails bits word)
    → (b : ℕ) × (b < length bits) × (net ≡ rail_at bits b (bit_at word b))
named-place [] word net m = elim m [ ]
named-place (x ∷ xs) [] net m = elim m [ ]
named-place (x ∷ xs) (y ∷ word) net here = (0, omega arith, refl)
named-place (x ∷ xs) (y ∷ word) net (there m) = let (b, lt, e) = named-place xs word net m in (suc b, omega (arith, lt), e)

-- each in the bit's place, and none past the last bit
pub named-get : (bits : List Rails) (word : List Bool) → length word ≡ length bits → (b : ℕ) → b < length bits
    → slice_get (named_rails bits word) b ≡ Some (rail_at bits b (bit_at word b))
named-get [] word e b lt = absurd (omega arith)
named-get (x ∷ xs) [] e b lt = absurd (omega (arith, e))
named-get (x ∷ xs) (y ∷ word) e zero lt = refl
named-get (x ∷ xs) (y ∷ word) e (suc b) lt = named-get xs word (omega (arith, e)) b (omega arith)

pub named-past : (bits : List Rails) (word : List Bool) (b : ℕ) → length bits ≤ b → slice_get (named_rails bits word) b ≡ None
named-past [] word b past = refl
named-past (x ∷ xs) [] b past = refl
named-past (x ∷ xs) (y ∷ word) zero past = absurd (omega (arith, past))
named-past (x ∷ xs) (y ∷ word) (suc b) past = named-past xs word b (omega (arith, past))

-- where all rails differ, a rail of a bit that it names is that of its value
pub named-only : (bits : List Rails) (ys : List ℕ) → AllPairs (λ x y. x ≢ y) (rail_nets bits ++ ys) → (word : List Bool)
    → length word ≡ length bits → (b : ℕ) (r : Bool) → b < length bits → among (named_rails bits word) (rail_at bits b r) ≡ true
    → r ≡ bit_at word b
named-only bits ys differ word wide b r lt high = go r (bit_at word b) high (among-from_member _ (named-has bits word wide b lt))
  where
    both : among (named_rails bits word) (rail_at bits b false) ≡ true → among (named_rails bits word) (rail_at bits b true) ≡ true → ⊥
    both = one_named bits ys differ word (get_or bits b no_rails) (Member-get_or bits b no_rails lt)

    go : (r q : Bool) → among (named_rails bits word) (rail_at bits b r) ≡ true → among (named_rails bits word) (rail_at bits b q) ≡ true → r ≡ q
    go true true h g = refl
    go true false h g = absurd (both g h)
    go false true h g = absurd (both h g)
    go false false h g = refl

-- ---- data

-- a bit with data has a high rail, and one with a high rail has data
pub some-rail : (v : Nets) (bits : List Rails) (b : ℕ) → has_data v (get_or bits b no_rails) ≡ true → (r : Bool) × (v (rail_at bits b r) ≡ true)
some-rail v bits b some = elim (or_cases _ _ some) [ inl zero_high ↦ (false, zero_high) | inr one_high ↦ (true, one_high) ]

pub rail-data : (v : Nets) (bits : List Rails) (b : ℕ) (r : Bool) → v (rail_at bits b r) ≡ true → has_data v (get_or bits b no_rails) ≡ true
rail-data v bits b true high = or_right (v (get_or bits b no_rails).zero.0) _ high
rail-data v bits b false high = or_left _ (v (get_or bits b no_rails).one.0) high

pub data-same : (v u : Nets) (r : Rails) → u r.zero.0 ≡ v r.zero.0 → u r.one.0 ≡ v r.one.0 → has_data u r ≡ has_data v r
data-same v u r zero_same one_same = ap (λ x. x || u r.one.0) zero_same ∙ ap (λ y. v r.zero.0 || y) one_same

-- a test of rails that each bit passes
pub all-from_places : (test : Rails → Bool) (bits : List Rails) → ((j : ℕ) → j < length bits → test (get_or bits j no_rails) ≡ true)
    → list_all test bits ≡ true
all-from_places test [] each = refl
all-from_places test (x ∷ xs) each = and_from _ _ (each 0 (omega arith)) (all-from_places test xs (λ j lt. each (suc j) (omega arith)))
