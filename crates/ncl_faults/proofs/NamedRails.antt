-- Which rails a word names: of each bit the one of its value.
use Rattle.ncl_faults.proofs.Terms.{Bool, List, Member, Rails, [], among, arith, eq-eqb, false, false_from_ne_true, get_or, here, is_value, length, named_rails, nat_eq, ne_eqb, pairs-head, pairs-tail, rail_nets, rail_of, refl, suc, sym, there, true, zero, ℕ, ◌<◌, ◌||◌, ◌∙◌, ◌∷◌, ◌≡◌, ◌≢◌}
use Rattle.ncl_faults.proofs.Apart.{named-within}
use Rattle.ncl_faults.proofs.WiringLaws.{AllDiffer, one-member, zero-member}

pub rail-member : (rails : List Rails) (i : ℕ) (d : Rails) (value : Bool) → i < length rails → Member (rail_of (get_or rails i d) value) (rail_nets rails)
rail-member rails i d true lt = one-member rails i d lt
rail-member rails i d false lt = zero-member rails i d lt

-- the rails of a first bit are no rails of the others
first-apart : (r : Rails) (nets : List ℕ) → AllDiffer (r.zero.0 ∷ r.one.0 ∷ nets) → (b : Bool) (net : ℕ) → Member net nets → net ≢ rail_of r b
first-apart r nets differ true net m = λ same. pairs-head (λ x y. x ≢ y) r.one.0 nets (pairs-tail (λ x y. x ≢ y) r.zero.0 (r.one.0 ∷ nets) differ) net m (sym same)
first-apart r nets differ false net m = λ same. pairs-head (λ x y. x ≢ y) r.zero.0 (r.one.0 ∷ nets) differ net (there m) (sym same)

first-value : (r : Rails) (nets : List ℕ) → AllDiffer (r.zero.0 ∷ r.one.0 ∷ nets) → (value b : Bool) → nat_eq (rail_of r value) (rail_of r b) ≡ is_value value b
first-value r nets differ true true = eq-eqb r.one.0 r.one.0 refl
first-value r nets differ false false = eq-eqb r.zero.0 r.zero.0 refl
first-value r nets differ true false = ne_eqb r.one.0 r.zero.0 (λ same. pairs-head (λ x y. x ≢ y) r.zero.0 (r.one.0 ∷ nets) differ r.one.0 here (sym same))
first-value r nets differ false true = ne_eqb r.zero.0 r.one.0 (λ same. pairs-head (λ x y. x ≢ y) r.zero.0 (r.one.0 ∷ nets) differ r.one.0 here same)

or_low : (a b : Bool) → b ≡ false → (a || b) ≡ a
or_low a true e = absurd cc
or_low true false e = refl
or_low false false e = refl

low_or : (a b : Bool) → a ≡ false → (a || b) ≡ b
low_or false b e = refl
low_or true b e = absurd cc

-- a rail is named where its bit has its value
pub named-at : (rails : List Rails) → AllDiffer (rail_nets rails) → (word : List Bool) → length word ≡ length rails → (i : ℕ) (d : Rails) → i < length rails → (value : Bool) → among (named_rails rails word) (rail_of (get_or rails i d) value) ≡ is_value value (get_or word i false)
named-at [] differ word same i d lt value = absurd (omega arith)
named-at (r ∷ rs) differ [] same i d lt value = absurd (omega arith)
named-at (r ∷ rs) differ (b ∷ word) same zero d lt value =
    or_low (nat_eq (rail_of r value) (rail_of r b)) _ (false_from_ne_true _ (λ high. first-apart r (rail_nets rs) differ value (rail_of r value) (named-within rs word (rail_of r value) high) refl))
    ∙ first-value r (rail_nets rs) differ value b
named-at (r ∷ rs) differ (b ∷ word) same (suc i) d lt value =
    low_or (nat_eq (rail_of (get_or rs i d) value) (rail_of r b)) _ (ne_eqb _ _ (first-apart r (rail_nets rs) differ b _ (rail-member rs i d value (omega arith))))
    ∙ named-at rs (pairs-tail (λ x y. x ≢ y) r.one.0 (rail_nets rs) (pairs-tail (λ x y. x ≢ y) r.zero.0 (r.one.0 ∷ rail_nets rs) differ)) word (omega arith) i d (omega arith) value
