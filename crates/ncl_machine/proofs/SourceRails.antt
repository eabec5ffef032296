-- The rails of the inputs that the current word names, and those beside them: all differ, and together they are all.
use Rattle.ncl_machine.proofs.Terms.{All-from_members, AllPairs, AllPairs-cons, Bool, List, Member, None, Option, Rails, Some, [], arith, false, here, inl, inr, length, map, member_cases, named_rails, not, pairs-head, pairs-tail, rail_nets, rail_of, rails_beside, rails_of_word, refl, subst, sym, there, true, ℕ, ◌∙◌, ◌∷◌, ◌≡◌, ◌≢◌}

abbrev pub AreApart : List ℕ → Type 0
AreApart nets = AllPairs (λ x y. x ≢ y) nets

own_of : (r : Rails) (b : Bool) (rest : List ℕ) → Member (rail_of r b) (r.zero.0 ∷ r.one.0 ∷ rest)
own_of r true rest = there here
own_of r false rest = here

-- the rails of one bit differ from those of the others, and from one another
own-apart : (r : Rails) (bits : List Rails) → AreApart (rail_nets (r ∷ bits)) → (b : Bool) (net : ℕ) → Member net (rail_nets bits) → rail_of r b ≢ net
own-apart r bits differ true net m =
    pairs-head (λ x y. x ≢ y) r.one.0 (rail_nets bits) (pairs-tail (λ x y. x ≢ y) r.zero.0 (r.one.0 ∷ rail_nets bits) differ) net m
own-apart r bits differ false net m = pairs-head (λ x y. x ≢ y) r.zero.0 (r.one.0 ∷ rail_nets bits) differ net (there m)

own-sides : (r : Rails) (bits : List Rails) → AreApart (rail_nets (r ∷ bits)) → (b : Bool) → rail_of r b ≢ rail_of r (not b)
own-sides r bits differ true e = pairs-head (λ x y. x ≢ y) r.zero.0 (r.one.0 ∷ rail_nets bits) differ r.one.0 here (sym e)
own-sides r bits differ false e = pairs-head (λ x y. x ≢ y) r.zero.0 (r.one.0 ∷ rail_nets bits) differ r.one.0 here e

rest-apart : (r : Rails) (bits : List Rails) → AreApart (rail_nets (r ∷ bits)) → AreApart (rail_nets bits)
rest-apart r bits differ = pairs-tail (λ x y. x ≢ y) r.one.0 (rail_nets bits) (pairs-tail (λ x y. x ≢ y) r.zero.0 (r.one.0 ∷ rail_nets bits) differ)

-- what a word names are rails
pub named-within : (bits : List Rails) (word : List Bool) (net : ℕ) → Member net (named_rails bits word) → Member net (rail_nets bits)
named-within [] word net m = elim m [ ]
named-within (r ∷ bits) [] net m = elim m [ ]
named-within (r ∷ bits) (b ∷ word) net here = own_of r b (rail_nets bits)
named-within (r ∷ bits) (b ∷ word) net (there m) = there (there (named-within bits word net m))

named-apart : (bits : List Rails) → AreApart (rail_nets bits) → (word : List Bool) → AreApart (named_rails bits word)
named-apart [] differ word = λ i j d before within. absurd (omega (arith, within))
named-apart (r ∷ bits) differ [] = λ i j d before within. absurd (omega (arith, within))
named-apart (r ∷ bits) differ (b ∷ word) =
    AllPairs-cons (λ x y. x ≢ y) (rail_of r b) (named_rails bits word)
    (All-from_members (λ y. rail_of r b ≢ y) (named_rails bits word) (λ y m. own-apart r bits differ b y (named-within bits word y m)))
    (named-apart bits (rest-apart r bits differ) word)

-- the word with each bit turned names other rails
turned-apart : (bits : List Rails) → AreApart (rail_nets bits) → (word : List Bool) (net : ℕ) → Member net (named_rails bits word)
    → Member net (named_rails bits (map not word)) → ⊥
turned-apart [] differ word net m n = elim m [ ]
turned-apart (r ∷ bits) differ [] net m n = elim m [ ]
turned-apart (r ∷ bits) differ (b ∷ word) net m n = elim (member_cases net (rail_of r b) (named_rails bits word) m) [
  | inl e ↦ elim (member_cases net (rail_of r (not b)) (named_rails bits (map not word)) n) [
    | inl f ↦ own-sides r bits differ b (e ∙ sym f)
    | inr k ↦ own-apart r bits differ b net (named-within bits (map not word) net k) e
  ]
  | inr k ↦ elim (member_cases net (rail_of r (not b)) (named_rails bits (map not word)) n) [
    | inl f ↦ own-apart r bits differ (not b) net (named-within bits word net k) f
    | inr j ↦ turned-apart bits (rest-apart r bits differ) word net k j
  ]
]

-- and the two name all rails
both-all : (P : ℕ → Type 0) (bits : List Rails) (word : List Bool) → length word ≡ length bits → ((net : ℕ) → Member net (named_rails bits word) → P net)
    → ((net : ℕ) → Member net (named_rails bits (map not word)) → P net) → (net : ℕ) → Member net (rail_nets bits) → P net
both-all P [] word wide named other net m = elim m [ ]
both-all P (r ∷ bits) [] wide named other net m = absurd (omega (arith, wide))
both-all P (r ∷ bits) (true ∷ word) wide named other net m = elim (member_cases net r.zero.0 (r.one.0 ∷ rail_nets bits) m) [
  | inl e ↦ subst P e (other r.zero.0 here)
  | inr k ↦ elim (member_cases net r.one.0 (rail_nets bits) k) [
    | inl e ↦ subst P e (named r.one.0 here)
    | inr j ↦ both-all P bits word (omega (arith, wide)) (λ x n. named x (there n)) (λ x n. other x (there n)) net j
  ]
]
both-all P (r ∷ bits) (false ∷ word) wide named other net m = elim (member_cases net r.zero.0 (r.one.0 ∷ rail_nets bits) m) [
  | inl e ↦ subst P e (named r.zero.0 here)
  | inr k ↦ elim (member_cases net r.one.0 (rail_nets bits) k) [
    | inl e ↦ subst P e (other r.one.0 here)
    | inr j ↦ both-all P bits word (omega (arith, wide)) (λ x n. named x (there n)) (λ x n. other x (there n)) net j
  ]
]

-- ---- the same of the current word, if there is one

pub current-within : (bits : List Rails) (word : Option (List Bool)) (net : ℕ) → Member net (rails_of_word bits word) → Member net (rail_nets bits)
current-within bits None net m = elim m [ ]
current-within bits (Some word) net m = named-within bits word net m

pub beside-within : (bits : List Rails) (word : Option (List Bool)) (net : ℕ) → Member net (rails_beside bits word) → Member net (rail_nets bits)
beside-within bits None net m = m
beside-within bits (Some word) net m = named-within bits (map not word) net m

pub current-apart : (bits : List Rails) → AreApart (rail_nets bits) → (word : Option (List Bool)) → AreApart (rails_of_word bits word)
current-apart bits differ None = λ i j d before within. absurd (omega (arith, within))
current-apart bits differ (Some word) = named-apart bits differ word

pub beside-apart : (bits : List Rails) → AreApart (rail_nets bits) → (word : Option (List Bool)) (net : ℕ) → Member net (rails_of_word bits word)
    → Member net (rails_beside bits word) → ⊥
beside-apart bits differ None net m n = elim m [ ]
beside-apart bits differ (Some word) net m n = turned-apart bits differ word net m n

pub all_rails : (P : ℕ → Type 0) (bits : List Rails) (word : Option (List Bool)) → ((w : List Bool) → word ≡ Some w → length w ≡ length bits)
    → ((net : ℕ) → Member net (rails_of_word bits word) → P net) → ((net : ℕ) → Member net (rails_beside bits word) → P net)
    → (net : ℕ) → Member net (rail_nets bits) → P net
all_rails P bits None wide named other net m = other net m
all_rails P bits (Some word) wide named other net m = both-all P bits word (wide word refl) named other net m

length-named : (bits : List Rails) (word : List Bool) → length word ≡ length bits → length (named_rails bits word) ≡ length bits
length-named [] word wide = refl
length-named (r ∷ bits) [] wide = wide
length-named (r ∷ bits) (b ∷ word) wide = let rest = length-named bits word (omega (arith, wide)) in omega (arith, rest)

-- where a net is of the current word, that names a rail of each bit
pub length-current : (bits : List Rails) (word : Option (List Bool)) → ((w : List Bool) → word ≡ Some w → length w ≡ length bits) → (net : ℕ)
    → Member net (rails_of_word bits word) → length (rails_of_word bits word) ≡ length bits
length-current bits None wide net m = elim m [ ]
length-current bits (Some word) wide net m = length-named bits word (wide word refl)
