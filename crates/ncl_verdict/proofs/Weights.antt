-- Tables of functions that look at the bits of masks have no more beads than the masks weigh, and 276.
use Rattle.ncl_verdict.proofs.Terms.{AllByRecursion, Beads, Bool, IsMarked, IsOrderOf, IsPart, List, Marked, Member, None, SpaceData, WordFunction, [], ap, arith, bead_count, bead_count-bounded, bead_count-computes, beads_of, both_ways, cases_lt, cond, contains-distinct_beads, distinct_beads, distinct_count, false, flat_map, flat_map-append, free, get_or, here, high_half, high_half-append, inl, inr, is_bead, is_free, is_same, len_grows, length, length-append, length-table_of, list_any, list_any-append, list_any-from_member, low_half, map, member_from_list_any, member_of_map, one_set, or_cases, or_left, or_right, ordered-table, placed, pow_suc, refl, same, subst, suc, sum_by, sum_by-cons, sym, table_of, table_order, there, true, weight_of, weights, with_tables, words, words_by, zero, ℕ, ◌*◌, ◌++◌, ◌+◌, ◌-◌, ◌<◌, ◌^◌, ◌||◌, ◌∙◌, ◌∷◌, ◌≡◌, ◌≤◌, ◌⊎◌}
use Rattle.std.specs.FinSet as set
use Rattle.ncl_verdict.proofs.MaskLaws.{Sees, agree-sees, marks-weight, marks-width, marks_of}

-- ---- the beads of two lists of tables
distinct-both : (xs ys : List (List Bool)) → distinct_count (xs ++ ys) ≤ distinct_count xs + distinct_count ys
distinct-both [] ys = omega arith
distinct-both (x ∷ xs) ys = subst (λ b. cond b (distinct_count (xs ++ ys)) (distinct_count (xs ++ ys) + 1) ≤ distinct_count (x ∷ xs) + distinct_count ys) (sym (list_any-append (same x) xs ys)) (by_test (list_any (same x) xs) (list_any (same x) ys) (distinct-both xs ys))
  where
    by_test : (a b : Bool) → distinct_count (xs ++ ys) ≤ distinct_count xs + distinct_count ys → cond (a || b) (distinct_count (xs ++ ys)) (distinct_count (xs ++ ys) + 1) ≤ cond a (distinct_count xs) (distinct_count xs + 1) + distinct_count ys
    by_test true b le = le
    by_test false true le = omega arith
    by_test false false le = omega arith

pub count-both : (n : ℕ) (ts us : List (List Bool)) → bead_count n (ts ++ us) ≤ bead_count n ts + bead_count n us
count-both n ts us =
    let all = bead_count-computes n (ts ++ us) ∙ ap distinct_count (flat_map-append (beads_of n) ts us) in
    let first = bead_count-computes n ts in
    let second = bead_count-computes n us in
    let both = distinct-both (flat_map (beads_of n) ts) (flat_map (beads_of n) us) in
    omega arith

-- ---- tables that have all beads of others have no fewer
no-fewer : (n m : ℕ) (ts us : List (List Bool)) → ((bead : List Bool) → list_any (λ t. is_bead (beads_of n t) bead) ts ≡ true → list_any (λ t. is_bead (beads_of m t) bead) us ≡ true) → bead_count n ts ≤ bead_count m us
no-fewer n m ts us each =
    let some : SpaceData = record { width = m; limit = None; live = λ r. false; table = λ r. []; held = distinct_beads n ts; stands = λ k. false; live_at = λ k r. false; held_at = λ k. distinct_beads n ts } in
    let all : with_tables some us ≡ distinct_beads m us = one_set _ _ (λ bead.
    set.contains-union table_order (distinct_beads n ts) (distinct_beads m us) bead
    ∙ either (set.contains (distinct_beads n ts) bead) (set.contains (distinct_beads m us) bead) (λ h.
    contains-distinct_beads m us bead ∙ each bead (sym (contains-distinct_beads n ts bead) ∙ h))) in
    subst (λ (b : Beads). bead_count n ts ≤ set.len b) all (len_grows some us)
  where
    either : (a b : Bool) → (a ≡ true → b ≡ true) → (a || b) ≡ b
    either true b h = sym (h refl)
    either false b h = refl

-- so where each table is one of them, or has none
pub fewer : (n : ℕ) (ts us : List (List Bool)) → ((t : List Bool) → Member t ts → Member t us ⊎ (beads_of n t ≡ [])) → bead_count n ts ≤ bead_count n us
fewer n ts us each = no-fewer n n ts us (λ bead some. by bead (member_from_list_any (λ t. is_bead (beads_of n t) bead) ts some))
  where
    by : (bead : List Bool) → (t : List Bool) × Member t ts × (is_bead (beads_of n t) bead ≡ true) → list_any (λ t. is_bead (beads_of n t) bead) us ≡ true
    by bead (t, m, has) = elim (each t m) [
      | inl among ↦ list_any-from_member (λ u. is_bead (beads_of n u) bead) t among has
      | inr none ↦ absurd (both_ways (is_bead (beads_of n t) bead) (ap (λ bs. is_bead bs bead) none) has)
    ]

-- ---- tables of one and two bits, as tables of three that don't look at the first bits
abbrev twice : List Bool → List Bool
twice t = t ++ t

abbrev AreLong : ℕ → List (List Bool) → Type 0
AreLong n ts = (t : List Bool) → Member t ts → length t ≡ 2 ^ n

in-twice : (n : ℕ) (t bead : List Bool) → length t ≡ 2 ^ n → is_bead (beads_of n t) bead ≡ true → is_bead (beads_of (suc n) (twice t)) bead ≡ true
in-twice n t bead long is = in_last (cond (is_same (low_half n (twice t)) (high_half n (twice t))) [] (twice t ∷ []) ++ beads_of n (low_half n (twice t))) (beads_of n (high_half n (twice t))) (ap (λ u. is_bead (beads_of n u) bead) (high_half-append n t t long) ∙ is)
  where
    in_last : (xs ys : List (List Bool)) → is_bead ys bead ≡ true → is_bead (xs ++ ys) bead ≡ true
    in_last xs ys e = list_any-append (same bead) xs ys ∙ or_right (list_any (same bead) xs) (list_any (same bead) ys) e

all-twice : (n : ℕ) (bead : List Bool) (ts : List (List Bool)) → AreLong n ts → list_any (λ t. is_bead (beads_of n t) bead) ts ≡ true → list_any (λ t. is_bead (beads_of (suc n) t) bead) (map twice ts) ≡ true
all-twice n bead [] long some = some
all-twice n bead (t ∷ ts) long some =
    elim (or_cases (is_bead (beads_of n t) bead) (list_any (λ u. is_bead (beads_of n u) bead) ts) some) [
      | inl own ↦ or_left (is_bead (beads_of (suc n) (twice t)) bead) (list_any (λ u. is_bead (beads_of (suc n) u) bead) (map twice ts)) (in-twice n t bead (long t here) own)
      | inr later ↦ or_right (is_bead (beads_of (suc n) (twice t)) bead) (list_any (λ u. is_bead (beads_of (suc n) u) bead) (map twice ts)) (all-twice n bead ts (λ u m. long u (there m)) later)
    ]

wider : (n : ℕ) (ts : List (List Bool)) → AreLong n ts → bead_count n ts ≤ bead_count (suc n) (map twice ts)
wider n ts long = no-fewer n (suc n) ts (map twice ts) (λ bead. all-twice n bead ts long)

twice-long : (n : ℕ) (ts : List (List Bool)) → AreLong n ts → AreLong (suc n) (map twice ts)
twice-long n ts long t m =
    let (u, n_in, at) = member_of_map twice ts t m in
    let size = length-append u u in
    let half = long u n_in in
    let power = pow_suc n in
    let whole : length (twice u) ≡ 2 ^ suc n = omega (arith, size, half, power) in
    ap length (sym at) ∙ whole

abbrev plain : List Bool → Marked
plain t = record { marks = []; table = t }

plain-weights : (ts : List (List Bool)) → weights (map plain ts) ≡ 0
plain-weights [] = refl
plain-weights (t ∷ ts) = let rest = plain-weights ts in omega (arith, rest)

plain-tables : (ts : List (List Bool)) → map (λ (x : Marked). x.table) (map plain ts) ≡ ts
plain-tables [] = refl
plain-tables (t ∷ ts) = ap (λ us. t ∷ us) (plain-tables ts)

plain-are : (ts : List (List Bool)) → AreLong 3 ts → AllByRecursion (IsMarked 3) (map plain ts)
plain-are [] long = tt
plain-are (t ∷ ts) long = (record { width = refl; long = long t here; free = refl }, plain-are ts (λ u m. long u (there m)))

three-bits : (ts : List (List Bool)) → AreLong 3 ts → bead_count 3 ts ≤ 276
three-bits ts long =
    let bounded = subst (λ us. bead_count 3 us ≤ weights (map plain ts) + 276) (plain-tables ts) (bead_count-bounded 3 (map plain ts) (plain-are ts long)) in
    omega (arith, plain-weights ts, bounded)

few-bits : (more n : ℕ) → more + n ≡ 3 → (ts : List (List Bool)) → AreLong n ts → bead_count n ts ≤ 276
few-bits zero n e ts long =
    let three : n ≡ 3 = omega (arith, e) in
    subst (λ k. bead_count k ts ≤ 276) (sym three) (three-bits ts (λ t m. long t m ∙ ap (λ k. 2 ^ k) three))
few-bits (suc more) n e ts long =
    let first = wider n ts long in
    let rest = few-bits more (suc n) (omega (arith, e)) (map twice ts) (twice-long n ts long) in
    omega (arith, first, rest)

-- ---- functions that look at the bits of masks

-- a function has one value at words, put into the order, that agree at the places of a mask and at all from one place on
abbrev pub Looks : ℕ → List ℕ → ℕ → WordFunction → Type 0
Looks k order mask f = (v w : List Bool) → Sees k mask v w → f (placed order v) ≡ f (placed order w)

-- then also at those that agree at the places of a greater mask
pub look-part : (k : ℕ) (order : List ℕ) (a b : ℕ) (f : WordFunction) → IsPart a b → Looks k order a f → Looks k order b f
look-part k order a b f part looks v w sees = looks v w (λ p on. sees p (elim on [ inl set ↦ inl (part p set) | inr past ↦ inr past ]))

-- so have some, each with its mask
abbrev pub AllLook : ℕ → List ℕ → List ℕ → List WordFunction → Type 0
AllLook k order [] [] = Unit {0}
AllLook k order [] (f ∷ fs) = ⊥
AllLook k order (mask ∷ masks) [] = ⊥
AllLook k order (mask ∷ masks) (f ∷ fs) = Looks k order mask f × AllLook k order masks fs

module _ (k : ℕ) (order : List ℕ) where
  pub look-append : (masks : List ℕ) (fs : List WordFunction) (others : List ℕ) (gs : List WordFunction) → AllLook k order masks fs → AllLook k order others gs → AllLook k order (masks ++ others) (fs ++ gs)
  look-append [] [] others gs first second = second
  look-append [] (f ∷ fs) others gs first second = absurd first
  look-append (mask ∷ masks) [] others gs first second = absurd first
  look-append (mask ∷ masks) (f ∷ fs) others gs first second = (first.0, look-append masks fs others gs first.1 second)

  -- by their places
  pub look-places : {X : Type 0} (masks : List ℕ) (xs : List X) (f : X → WordFunction) (d : X) → length masks ≡ length xs → ((p : ℕ) → p < length xs → Looks k order (get_or masks p 0) (f (get_or xs p d))) → AllLook k order masks (map f xs)
  look-places [] [] f d many each = tt
  look-places [] (x ∷ xs) f d many each = absurd (omega (arith, many))
  look-places (mask ∷ masks) [] f d many each = absurd (omega (arith, many))
  look-places (mask ∷ masks) (x ∷ xs) f d many each = (each 0 (omega arith), look-places masks xs f d (omega (arith, many)) (λ p lt. each (suc p) (omega (arith, lt))))

  -- by the members
  pub look-members : {X : Type 0} (g : X → ℕ) (xs : List X) (f : X → WordFunction) → ((x : X) → Member x xs → Looks k order (g x) (f x)) → AllLook k order (map g xs) (map f xs)
  look-members g [] f each = tt
  look-members g (x ∷ xs) f each = (each x here, look-members g xs f (λ y m. each y (there m)))

  -- with one mask for all
  pub look-same : (mask : ℕ) (fs : List WordFunction) → ((f : WordFunction) → Member f fs → Looks k order mask f) → AllLook k order (map (λ (f : WordFunction). mask) fs) fs
  look-same mask [] each = tt
  look-same mask (f ∷ fs) each = (each f here, look-same mask fs (λ g m. each g (there m)))

-- one mask for all weighs as often
pub weigh-same : {X : Type 0} (mask : ℕ) (xs : List X) → sum_by weight_of (map (λ x. mask) xs) ≡ length xs * weight_of mask
weigh-same mask [] = omega arith
weigh-same mask (x ∷ xs) =
    let whole = sum_by-cons weight_of mask (map (λ x. mask) xs) in
    let rest = weigh-same mask xs in
    omega (arith, whole, rest)

-- ---- their tables, of more than three bits
abbrev tables_marked : ℕ → List ℕ → List ℕ → List WordFunction → List Marked
tables_marked k order [] fs = []
tables_marked k order (mask ∷ masks) [] = []
tables_marked k order (mask ∷ masks) (f ∷ fs) = record { marks = marks_of k mask; table = table_of (words_by order) f } ∷ tables_marked k order masks fs

marked-tables : (k : ℕ) (order masks : List ℕ) (fs : List WordFunction) → AllLook k order masks fs → map (λ (x : Marked). x.table) (tables_marked k order masks fs) ≡ map (table_of (words_by order)) fs
marked-tables k order [] [] look = refl
marked-tables k order [] (f ∷ fs) look = absurd look
marked-tables k order (mask ∷ masks) [] look = absurd look
marked-tables k order (mask ∷ masks) (f ∷ fs) look = ap (λ ts. table_of (words_by order) f ∷ ts) (marked-tables k order masks fs look.1)

marked-weights : (k : ℕ) (order masks : List ℕ) (fs : List WordFunction) → weights (tables_marked k order masks fs) ≤ sum_by weight_of masks
marked-weights k order [] fs = omega arith
marked-weights k order (mask ∷ masks) [] = omega arith
marked-weights k order (mask ∷ masks) (f ∷ fs) =
    let whole = sum_by-cons weight_of mask masks in
    let own = marks-weight k mask in
    let rest = marked-weights k order masks fs in
    omega (arith, whole, own, rest)

looks-free : (k : ℕ) (order : List ℕ) → IsOrderOf (k + 3) order → (mask : ℕ) (f : WordFunction) → Looks k order mask f → is_free (marks_of k mask) (table_of (words_by order) f) ≡ true
looks-free k order ordered mask f looks =
    ap (is_free (marks_of k mask)) (ordered-table (k + 3) order ordered f ∙ ap (λ n. table_of (words n) (λ w. f (placed order w))) (sym (marks-width k mask)))
    ∙ free (marks_of k mask) (λ w. f (placed order w)) (λ v w agree. looks v w (agree-sees k mask v w agree))

marked-are : (k : ℕ) (order : List ℕ) → IsOrderOf (k + 3) order → (masks : List ℕ) (fs : List WordFunction) → AllLook k order masks fs → AllByRecursion (IsMarked (k + 3)) (tables_marked k order masks fs)
marked-are k order ordered [] fs look = tt
marked-are k order ordered (mask ∷ masks) [] look = tt
marked-are k order ordered (mask ∷ masks) (f ∷ fs) look = (
  record {
    width = marks-width k mask;
    long = ap length (ordered-table (k + 3) order ordered f) ∙ length-table_of (k + 3) (λ w. f (placed order w));
    free = looks-free k order ordered mask f look.0;
  },
  marked-are k order ordered masks fs look.1,
)

long-tables : (n : ℕ) (order : List ℕ) → IsOrderOf n order → (fs : List WordFunction) → AreLong n (map (table_of (words_by order)) fs)
long-tables n order ordered fs t m =
    let (f, f_in, at) = member_of_map (table_of (words_by order)) fs t m in
    ap length (sym at) ∙ ap length (ordered-table n order ordered f) ∙ length-table_of n (λ w. f (placed order w))

-- ---- their tables
pub weighed-beads : (n k : ℕ) → k ≡ n - 3 → (order : List ℕ) → IsOrderOf n order → (masks : List ℕ) (fs : List WordFunction) → AllLook k order masks fs → bead_count n (map (table_of (words_by order)) fs) ≤ sum_by weight_of masks + 276
weighed-beads n k past order ordered masks fs look =
    elim (cases_lt n 3) [
      | inl few ↦
          let small = few-bits (3 - n) n (omega (arith, few)) (map (table_of (words_by order)) fs) (long-tables n order ordered fs) in
          omega (arith, small)
      | inr many ↦
          let wide : k + 3 ≡ n = omega (arith, past, many) in
          let ordered_wide : IsOrderOf (k + 3) order = subst (λ j. IsOrderOf j order) (sym wide) ordered in
          let bounded = subst (λ ts. bead_count (k + 3) ts ≤ weights (tables_marked k order masks fs) + 276) (marked-tables k order masks fs look)
          (bead_count-bounded (k + 3) (tables_marked k order masks fs) (marked-are k order ordered_wide masks fs look)) in
          let own = marked-weights k order masks fs in
          subst (λ j. bead_count j (map (table_of (words_by order)) fs) ≤ sum_by weight_of masks + 276) wide (omega (arith, bounded, own))
    ]
