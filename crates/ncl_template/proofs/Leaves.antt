-- Two gates over others as a template: one for each value of a function.
use Rattle.ncl_template.proofs.Terms.{Bool, Contains, Contains-from_Member, IsBelow, IsCase, IsNull, IsTemplate, List, Member, Member-append_cases, Member-append_left, Member-append_right, Member-from_Contains, Nets, Obeys, Rails, ShowWord, Shows, StageCell, [], and_left, and_right, arith, both_ways, false, false_from_ne_true, here, holds, inl, inr, length, not, not-true, out_of, refl, sym, there, true, ◌&&◌, ◌++◌, ◌∙◌, ◌∷◌, ◌≡◌}
use Rattle.ncl_template.proofs.AmongLaws.{obeys_part, case_part}

-- over gates that come before it, a gate is set exactly at some words; it waits for some input pairs, and for each of the
-- gates before it that is high
pub record IsLeaf (ins waits : List Rails) (under : List StageCell) (at : List Bool → Bool) (leaf : StageCell) : Type 0 where
  pub exact : (base : Nets) (word : List Bool) → Obeys base under → ShowWord base ins word → holds base leaf ≡ at word
  pub waits_for : (base v : Nets) (word : List Bool) → IsCase base v ins under word → (r : Rails) → Contains waits r → IsNull v r → holds v leaf ≡ false
  pub observes : (base v : Nets) (word : List Bool) → IsCase base v ins under word → (c : StageCell) → Contains under c → base (out_of c) ≡ true → v (out_of c) ≡ false → holds v leaf ≡ false

pub ShowWord-length : (v : Nets) (pairs : List Rails) (word : List Bool) → ShowWord v pairs word → length word ≡ length pairs
ShowWord-length v [] [] shown = refl
ShowWord-length v [] (b ∷ word) shown = absurd shown
ShowWord-length v (r ∷ rs) [] shown = absurd shown
ShowWord-length v (r ∷ rs) (b ∷ word) shown = let rest = ShowWord-length v rs word shown.1 in omega (arith, rest)

-- a gate that is not set is low
pub low_from_unset : (v : Nets) (c : StageCell) → (v (out_of c) ≡ true → holds v c ≡ true) → holds v c ≡ false → v (out_of c) ≡ false
low_from_unset v c supported unset = false_from_ne_true _ (λ high. both_ways _ unset (supported high))

-- the nets of a pair that shows a bit, and a pair whose nets are such
pub shown_nets : (v : Nets) (r : Rails) (x : Bool) → Shows v r x → (v r.zero.0 ≡ not x) × (v r.one.0 ≡ x)
shown_nets v r true shown = (shown.low, shown.high)
shown_nets v r false shown = (shown.high, shown.low)

Shows-from : (v : Nets) (r : Rails) (x : Bool) → v r.zero.0 ≡ not x → v r.one.0 ≡ x → Shows v r x
Shows-from v r true low high = record { high = high; low = low }
Shows-from v r false high low = record { high = high; low = low }

-- below values that show a bit at most one of its nets is high
pub one_of_pair : (base v : Nets) (r : Rails) (x : Bool) → IsBelow v base → Shows base r x → (v r.zero.0 && v r.one.0) ≡ false
one_of_pair base v r true below shown = and_left _ _ (false_from_ne_true _ (λ up. both_ways _ shown.low (below r.zero.0 up)))
one_of_pair base v r false below shown = and_right _ _ (false_from_ne_true _ (λ up. both_ways _ shown.low (below r.one.0 up)))

module _ (f : List Bool → Bool) (ins waits : List Rails) (under : List StageCell) (c d : StageCell) (zero : IsLeaf ins waits under (λ word. not (f word)) c) (one : IsLeaf ins waits under f d) where
  abbrev all : List StageCell
  all = under ++ c ∷ d ∷ []

  abbrev out : Rails
  out = record { zero = c.out; one = d.out }

  in_under : (g : StageCell) → Contains under g → Contains all g
  in_under g m = Contains-from_Member g (Member-append_left g (c ∷ d ∷ []) (Member-from_Contains under g m))

  c_in : Contains all c
  c_in = let m : Member c (c ∷ d ∷ []) = here in Contains-from_Member c (Member-append_right under c m)

  d_in : Contains all d
  d_in = let m : Member d (c ∷ d ∷ []) = there here in Contains-from_Member d (Member-append_right under d m)

  shows : (base : Nets) (word : List Bool) → Obeys base all → ShowWord base ins word → (base c.out.0 ≡ not (f word)) × (base d.out.0 ≡ f word)
  shows base word obeys shown =
      let below : Obeys base under = obeys_part all under in_under base obeys in
      (obeys.each c c_in ∙ zero.exact base word below shown, obeys.each d d_in ∙ one.exact base word below shown)

  module _ (base v : Nets) (word : List Bool) (case : IsCase base v ins all word) where
    under_case : IsCase base v ins under word
    under_case = case_part all under in_under base v ins word case

    unset : holds v c ≡ false → holds v d ≡ false → IsNull v out
    unset zero one = record { zero = low_from_unset v c (case.supported.each c c_in) zero; one = low_from_unset v d (case.supported.each d d_in) one }

    -- where one of the two is high, the other is not
    last : (g : StageCell) → Member g (c ∷ d ∷ []) → base (out_of g) ≡ true → v (out_of g) ≡ false → IsNull v out
    last _ here high low =
        let is = shows base word case.obeys case.shown in
        record { zero = low; one = false_from_ne_true _ (λ up. both_ways (f word) (not-true (f word) (sym is.0 ∙ high)) (sym is.1 ∙ case.below d.out.0 up)) }
    last _ (there here) high low =
        let is = shows base word case.obeys case.shown in
        record { zero = false_from_ne_true _ (λ up. both_ways (f word) (not-true (f word) (sym is.0 ∙ case.below c.out.0 up)) (sym is.1 ∙ high)); one = low }
    last g (there (there m)) high low = elim m [ ]

  -- a gate for each value of a function, over the same gates, are a template of it
  pub template_of_leaves : IsTemplate f ins waits (under ++ c ∷ d ∷ []) (record { zero = c.out; one = d.out })
  template_of_leaves = record {
    value = λ base word obeys shown. let is = shows base word obeys shown in Shows-from base out (f word) is.0 is.1;
    needs = λ base v word case r m null. unset base v word case (zero.waits_for base v word (under_case base v word case) r m null) (one.waits_for base v word (under_case base v word case) r m null);
    observed = λ base v word case g m high low.
        elim (Member-append_cases g under (c ∷ d ∷ []) (Member-from_Contains all g m)) [
          | inl early ↦
              let within : Contains under g = Contains-from_Member g early in
              unset base v word case (zero.observes base v word (under_case base v word case) g within high low) (one.observes base v word (under_case base v word case) g within high low)
          | inr late ↦ last base v word case g late high low
        ];
  }
