-- The tables that the joined stage makes have the beads of those of an explanation.
use Rattle.ncl_hazard.proofs.Terms.{Base, Bool, Contains-from_Member, Contains-from_slice_get, HasMembers, IsLayoutOf, IsSound, Layout, List, Member, Member-append_cases, Member-append_left, Member-append_right, Member-from_Contains, Member-map, PipelineData, Rails, Shape, Some, StageCell, StageData, ValuesAt, Way, Without, WordFunction, [], all_data_function, ap, arith, brings, cases_eq, composed, cond, data_fronts, data_functions, distinct_beads, distinct_beads-same, eq-eqb, fronts, fronts-map, functions_at, functions_before, gate-listed, gate_as, has_data, here, inl, inr, joined, joined_cells, length, length-take-le, list_all, map, member_cases, member_of_map, names_after, ne_eqb, net_functions, nets_of, orphan_function, orphan_on, out_of, outputs-listed, rails_as, refl, slice_get, slice_get-from_Contains, slice_get_within, stage_function, stage_nets, subst, suc, sym, table_of, table_of-same, take, there, val, values_on, word_at, words, zero, ℕ, ◌&&◌, ◌++◌, ◌+◌, ◌<◌, ◌||◌, ◌∙◌, ◌∷◌, ◌≡◌, ◌≤◌}
use Rattle.ncl_hazard.proofs.Found.{word-brought}
use Rattle.ncl_hazard.proofs.JoinedLaws.{stage-here, outputs-joined, joined-named, joined-net, joined-gate, joined-at, values-base, values-without}

-- each of the first functions agrees with one of the second on words of n bits
abbrev pub Covered : ℕ → List WordFunction → List WordFunction → Type 0
Covered n fs gs = (f : WordFunction) → Member f fs → (g : WordFunction) × Member g gs × ((w : List Bool) → length w ≡ n → f w ≡ g w)

pub covered-append : (n : ℕ) (fs hs gs : List WordFunction) → Covered n fs gs → Covered n hs gs → Covered n (fs ++ hs) gs
covered-append n fs hs gs first second f m = elim (Member-append_cases f fs hs m) [ inl a ↦ first f a | inr b ↦ second f b ]

pub covered-left : (n : ℕ) (fs gs hs : List WordFunction) → Covered n fs gs → Covered n fs (gs ++ hs)
covered-left n fs gs hs c f m = let (g, k, e) = c f m in (g, Member-append_left g hs k, e)

pub covered-right : (n : ℕ) (fs gs hs : List WordFunction) → Covered n fs hs → Covered n fs (gs ++ hs)
covered-right n fs gs hs c f m = let (g, k, e) = c f m in (g, Member-append_right gs g k, e)

-- so the tables of the first are among those of the second
members-from_covered : (n : ℕ) (fs gs : List WordFunction) → Covered n fs gs → HasMembers (map (table_of (words n)) gs) (map (table_of (words n)) fs)
members-from_covered n fs gs c = record {
  has = λ k t at.
      let (f, m, e) = member_of_map (table_of (words n)) fs t (Member-from_Contains (map (table_of (words n)) fs) t (Contains-from_slice_get (map (table_of (words n)) fs) k t at)) in
      let (g, i, same) = c f m in
      let one : table_of (words n) g ≡ t = sym (table_of-same n f g same) ∙ e in
      slice_get-from_Contains (map (table_of (words n)) gs) t (Contains-from_Member t (subst (λ x. Member x (map (table_of (words n)) gs)) one (Member-map (table_of (words n)) g i)));
}

pub same-beads : (n : ℕ) (fs gs : List WordFunction) → Covered n fs gs → Covered n gs fs → distinct_beads n (map (table_of (words n)) fs) ≡ distinct_beads n (map (table_of (words n)) gs)
same-beads n fs gs there_is back = distinct_beads-same n (map (table_of (words n)) fs) (map (table_of (words n)) gs) (members-from_covered n gs fs back) (members-from_covered n fs gs there_is)

-- ---- the functions of stages one after another

pub before-member : (stages : List StageData) (way : Way) (f : WordFunction) → Member f (functions_before way stages)
    → (k : ℕ) × (s : StageData) × (net : ℕ) × (slice_get stages k ≡ Some s) × Member net (nets_of s.inputs s.cells) × ((w : List Bool) → f w ≡ val s (composed (take k stages) (way w)) Base net)
before-member [] way f m = elim m [ ]
before-member (s ∷ stages) way f m = elim (Member-append_cases f (net_functions s (values_on way s Base)) (functions_before (λ w. stage_function s (way w)) stages) m) [
  | inl own ↦
      let (net, n, e) = member_of_map (λ net. λ word. values_on way s Base word net) (nets_of s.inputs s.cells) f own in
      (0, s, net, refl, n, λ w. ap (λ h. h w) (sym e))
  | inr later ↦
      let (k, t, net, at, n, e) = before-member stages (λ w. stage_function s (way w)) f later in
      (suc k, t, net, at, n, e)
]

pub before-has : (stages : List StageData) (way : Way) (k : ℕ) (s : StageData) (net : ℕ) → slice_get stages k ≡ Some s → Member net (nets_of s.inputs s.cells)
    → (f : WordFunction) × Member f (functions_before way stages) × ((w : List Bool) → f w ≡ val s (composed (take k stages) (way w)) Base net)
before-has [] way k s net at n = absurd cc
before-has (t ∷ stages) way zero s net at n =
    let same : t ≡ s = cc in
    subst (λ (x : StageData). Member net (nets_of x.inputs x.cells) → (f : WordFunction) × Member f (functions_before way (t ∷ stages)) × ((w : List Bool) → f w ≡ val x (way w) Base net)) same
    (λ m. (λ word. values_on way t Base word net, Member-append_left _ (functions_before (λ w. stage_function t (way w)) stages) (Member-map (λ x. λ word. values_on way t Base word x) net m), λ w. refl)) n
before-has (t ∷ stages) way (suc k) s net at n =
    let (f, m, e) = before-has stages (λ w. stage_function t (way w)) k s net at n in
    (f, Member-append_right (net_functions t (values_on way t Base)) f m, e)

pub slice_get-front : {X : Type 0} (xs : List X) (n i : ℕ) → i < n → slice_get (take n xs) i ≡ slice_get xs i
slice_get-front xs zero i lt = absurd (omega (arith, lt))
slice_get-front [] (suc n) i lt = refl
slice_get-front (x ∷ xs) (suc n) zero lt = refl
slice_get-front (x ∷ xs) (suc n) (suc i) lt = slice_get-front xs n i (omega (arith, lt))

take-front : {X : Type 0} (xs : List X) (n i : ℕ) → i ≤ n → take i (take n xs) ≡ take i xs
take-front xs n zero le = refl
take-front xs zero (suc i) le = absurd (omega (arith, le))
take-front [] (suc n) (suc i) le = refl
take-front (x ∷ xs) (suc n) (suc i) le = ap (λ ys. x ∷ ys) (take-front xs n i (omega (arith, le)))

-- the functions that are asked of a stage: of its nets under Base and under another variant, and under that one of its outputs
record Asked : Type 0 where
  base : List WordFunction
  kept : List WordFunction
  outputs : List WordFunction
  conjunctions : List WordFunction
  orphan : List WordFunction

abbrev asked_of : StageData → ValuesAt → ValuesAt → List WordFunction → Asked
asked_of s base kept orphan = record { base = net_functions s base; kept = net_functions s kept; outputs = data_functions s kept; conjunctions = data_fronts s kept; orphan = orphan }

module _ (p : PipelineData) (shape : Shape p.netlist p) (l : Layout) (is : IsLayoutOf p l) (before : ℕ) (inner : before < length p.stages)
    (sounds : (k : ℕ) (t : StageData) → k < before → slice_get p.stages k ≡ Some t → IsSound t) (place : ℕ) (g : StageCell) (at : slice_get (l.stage (suc before)).cells place ≡ Some g) where
  abbrev top : ℕ
  top = suc before

  abbrev n : ℕ
  n = length p.inputs

  abbrev j : StageData
  j = joined p top

  abbrev own : StageData
  own = l.stage top

  abbrev place_j : ℕ
  place_j = length (joined_cells p before) + place

  abbrev way : Way
  way = brings p.stages before

  abbrev base_j : ValuesAt
  base_j w = val j w Base

  abbrev kept_j : ValuesAt
  kept_j w = val j w (Without place_j)

  abbrev kept_own : ValuesAt
  kept_own = values_on way own (Without place)

  -- the functions that the joined stage makes, and those of an explanation
  abbrev pub made : List WordFunction
  made = net_functions j base_j ++ (net_functions j kept_j ++ data_functions j kept_j ++ data_fronts j kept_j ++ orphan_function j (slice_get j.cells place_j) kept_j)

  abbrev pub asked : List WordFunction
  asked = functions_before (λ w. w) (take before p.stages) ++ functions_at way own place

  in_last : top ≤ l.last
  in_last = let many = is.as_many in omega (arith, many, inner)

  brought : (w : List Bool) → length w ≡ n → (k : ℕ) → k ≤ before → word_at l w (suc k) ≡ brings p.stages k w
  brought w wide k le = word-brought p shape l is w wide k (omega (arith, le, inner))

  -- the value of a net of a stage, in the joined stage by its name
  base-at : (w : List Bool) → length w ≡ n → (k : ℕ) → k ≤ before → (net : ℕ) → Member net (stage_nets l (suc k)) → base_j w (names_after p (suc k) net) ≡ val (l.stage (suc k)) (brings p.stages k w) Base net
  base-at w wide k le net m = values-base p shape l is before inner sounds w wide (suc k) (omega (arith, le)) net m ∙ ap (λ x. val (l.stage (suc k)) x Base net) (brought w wide k le)

  kept-before : (w : List Bool) → length w ≡ n → (k : ℕ) → k < before → (net : ℕ) → Member net (stage_nets l (suc k)) → kept_j w (names_after p (suc k) net) ≡ val (l.stage (suc k)) (brings p.stages k w) Base net
  kept-before w wide k lt net m =
      values-without p shape l is before inner sounds w wide place g at (suc k) (omega (arith, lt)) net m
      ∙ ap (λ b. val (l.stage (suc k)) (word_at l w (suc k)) (cond b (Without place) Base) net) (ne_eqb (suc k) top (λ e. absurd (omega (arith, e, lt))))
      ∙ ap (λ x. val (l.stage (suc k)) x Base net) (brought w wide k (omega (arith, lt)))

  kept-own : (w : List Bool) → length w ≡ n → (net : ℕ) → Member net (stage_nets l top) → kept_j w (names_after p top net) ≡ kept_own w net
  kept-own w wide net m =
      values-without p shape l is before inner sounds w wide place g at top (omega arith) net m
      ∙ ap (λ b. val own (word_at l w top) (cond b (Without place) Base) net) (eq-eqb top top refl)
      ∙ ap (λ x. val own x (Without place) net) (brought w wide before (omega arith))

  named : (k : ℕ) → k ≤ before → (net : ℕ) → Member net (stage_nets l (suc k)) → Member (names_after p (suc k) net) (nets_of j.inputs j.cells)
  named k le net m = joined-named p shape l is before inner (suc k) (omega (arith, le)) net m

  stage-at : (k : ℕ) → k < before → slice_get (take before p.stages) k ≡ Some (l.stage (suc k))
  stage-at k lt = slice_get-front p.stages before k lt ∙ stage-here p shape l is k (omega (arith, lt, inner))

  -- ---- what is asked is made

  before_made : (fs : List WordFunction) → Covered n (net_functions j base_j) fs → Covered n (functions_before (λ w. w) (take before p.stages)) fs
  before_made fs nets f m =
      let (k, s, net, at_k, in_s, e) = before-member (take before p.stages) (λ w. w) f m in
      let lt : k < before = front_within k s at_k in
      let same : l.stage (suc k) ≡ s = let here_k = stage-at k lt in cc in
      let in_l : Member net (stage_nets l (suc k)) = subst (λ (x : StageData). Member net (nets_of x.inputs x.cells)) (sym same) in_s in
      let (h, i, also) = nets (λ word. base_j word (names_after p (suc k) net)) (Member-map (λ x. λ word. base_j word x) (names_after p (suc k) net) (named k (omega (arith, lt)) net in_l)) in (
        h,
        i,
        λ w wide.
            e w ∙ ap (λ ss. val s (composed ss w) Base net) (take-front p.stages before k (omega (arith, lt)))
            ∙ ap (λ (x : StageData). val x (brings p.stages k w) Base net) (sym same)
            ∙ sym (base-at w wide k (omega (arith, lt)) net in_l) ∙ also w wide,
      )
    where
      front_within : (k : ℕ) (s : StageData) → slice_get (take before p.stages) k ≡ Some s → k < before
      front_within k s at_k =
          let within : k < length (take before p.stages) = slice_get_within (take before p.stages) k s at_k in
          let long = length-take-le before p.stages (omega (arith, inner)) in
          omega (arith, within, long)

  itself : (fs : List WordFunction) → Covered n fs fs
  itself fs f m = (f, m, λ w wide. refl)

  -- functions of rails of outputs
  data_both : (r : Rails) → Member r own.outputs → (w : List Bool) → length w ≡ n → has_data (kept_j w) (rails_as (names_after p top) r) ≡ has_data (kept_own w) r
  data_both r m w wide =
      let (zero_in, one_in) = outputs-listed (is.is_stage top in_last) r m in
      ap (λ x. x || kept_j w (names_after p top r.one.0)) (kept-own w wide r.zero.0 zero_in) ∙ ap (λ x. kept_own w r.zero.0 || x) (kept-own w wide r.one.0 one_in)

  all_both : (bits : List Rails) → ((r : Rails) → Member r bits → Member r own.outputs) → (w : List Bool) → length w ≡ n → list_all (has_data (kept_j w)) (map (rails_as (names_after p top)) bits) ≡ list_all (has_data (kept_own w)) bits
  all_both [] within w wide = refl
  all_both (r ∷ bits) within w wide =
      ap (λ b. b && list_all (has_data (kept_j w)) (map (rails_as (names_after p top)) bits)) (data_both r (within r here) w wide)
      ∙ ap (λ b. has_data (kept_own w) r && b) (all_both bits (λ x m. within x (there m)) w wide)

  outputs-j : j.outputs ≡ map (rails_as (names_after p top)) own.outputs
  outputs-j = outputs-joined p shape l is before inner

  data_there : Covered n (data_functions own kept_own) (data_functions j kept_j)
  data_there f m =
      let (r, i, e) = member_of_map (λ (r : Rails). λ word. has_data (kept_own word) r) own.outputs f m in (
        λ word. has_data (kept_j word) (rails_as (names_after p top) r),
        subst (λ outputs. Member {X = WordFunction} (λ word. has_data (kept_j word) (rails_as (names_after p top) r)) (map (λ (r : Rails). λ word. has_data (kept_j word) r) outputs)) (sym outputs-j)
            (Member-map (λ (r : Rails). λ word. has_data (kept_j word) r) (rails_as (names_after p top) r) (Member-map (rails_as (names_after p top)) r i)),
        λ w wide. ap (λ h. h w) (sym e) ∙ sym (data_both r i w wide),
      )

  data_back : Covered n (data_functions j kept_j) (data_functions own kept_own)
  data_back f m =
      let (q, i, e) = member_of_map (λ (r : Rails). λ word. has_data (kept_j word) r) (map (rails_as (names_after p top)) own.outputs) f (subst (λ outputs. Member f (map (λ (r : Rails). λ word. has_data (kept_j word) r) outputs)) outputs-j m) in
      let (r, k, same) = member_of_map (rails_as (names_after p top)) own.outputs q i in (
        λ word. has_data (kept_own word) r,
        Member-map (λ (r : Rails). λ word. has_data (kept_own word) r) r k,
        λ w wide. ap (λ h. h w) (sym e) ∙ ap (has_data (kept_j w)) (sym same) ∙ data_both r k w wide,
      )

  -- fronts of a list are lists of its members
  front-within : {X : Type 0} (xs : List X) (front : List X) → Member front (fronts xs) → (x : X) → Member x front → Member x xs
  front-within [] front m x k = elim m [ ]
  front-within (y ∷ xs) front here x k = elim (member_cases x y [] k) [
    | inl same ↦ subst (λ z. Member z (y ∷ xs)) same here
    | inr none ↦ elim none [ ]
  ]
  front-within (y ∷ xs) front (there m) x k =
      let (rest, i, e) = member_of_map (λ front. y ∷ front) (fronts xs) front m in
      elim (member_cases x y rest (subst (Member x) (sym e) k)) [
        | inl same ↦ subst (λ z. Member z (y ∷ xs)) same here
        | inr later ↦ there (front-within xs rest i x later)
      ]

  fronts-j : fronts j.outputs ≡ map (map (rails_as (names_after p top))) (fronts own.outputs)
  fronts-j = ap fronts outputs-j ∙ fronts-map (rails_as (names_after p top)) own.outputs

  fronts_there : Covered n (data_fronts own kept_own) (data_fronts j kept_j)
  fronts_there f m =
      let (front, i, e) = member_of_map (λ (front : List Rails). λ word. list_all (has_data (kept_own word)) front) (fronts own.outputs) f m in (
        λ word. list_all (has_data (kept_j word)) (map (rails_as (names_after p top)) front),
        subst (λ ls. Member {X = WordFunction} (λ word. list_all (has_data (kept_j word)) (map (rails_as (names_after p top)) front)) (map (λ (front : List Rails). λ word. list_all (has_data (kept_j word)) front) ls)) (sym fronts-j)
            (Member-map (λ (front : List Rails). λ word. list_all (has_data (kept_j word)) front) (map (rails_as (names_after p top)) front) (Member-map (map (rails_as (names_after p top))) front i)),
        λ w wide. ap (λ h. h w) (sym e) ∙ sym (all_both front (front-within own.outputs front i) w wide),
      )

  fronts_back : Covered n (data_fronts j kept_j) (data_fronts own kept_own)
  fronts_back f m =
      let (q, i, e) = member_of_map (λ (front : List Rails). λ word. list_all (has_data (kept_j word)) front) (map (map (rails_as (names_after p top))) (fronts own.outputs)) f (subst (λ ls. Member f (map (λ (front : List Rails). λ word. list_all (has_data (kept_j word)) front) ls)) fronts-j m) in
      let (front, k, same) = member_of_map (map (rails_as (names_after p top))) (fronts own.outputs) q i in (
        λ word. list_all (has_data (kept_own word)) front,
        Member-map (λ (front : List Rails). λ word. list_all (has_data (kept_own word)) front) front k,
        λ w wide. ap (λ h. h w) (sym e) ∙ ap (list_all (has_data (kept_j w))) (sym same) ∙ all_both front (front-within own.outputs front k) w wide,
      )

  -- nets of the stage itself
  base_there : Covered n (net_functions own (values_on way own Base)) (net_functions j base_j)
  base_there f m =
      let (net, i, e) = member_of_map (λ net. λ word. values_on way own Base word net) (nets_of own.inputs own.cells) f m in
      (λ word. base_j word (names_after p top net), Member-map (λ x. λ word. base_j word x) (names_after p top net) (named before (omega arith) net i), λ w wide. ap (λ h. h w) (sym e) ∙ sym (base-at w wide before (omega arith) net i))

  kept_there : Covered n (net_functions own kept_own) (net_functions j kept_j)
  kept_there f m =
      let (net, i, e) = member_of_map (λ net. λ word. kept_own word net) (nets_of own.inputs own.cells) f m in
      (λ word. kept_j word (names_after p top net), Member-map (λ x. λ word. kept_j word x) (names_after p top net) (named before (omega arith) net i), λ w wide. ap (λ h. h w) (sym e) ∙ sym (kept-own w wide net i))

  -- and back: each net is one of a stage, by its name
  net-function_back : (v : ValuesAt) (fs : List WordFunction)
      → ((k : ℕ) (net : ℕ) → k < before → Member net (stage_nets l (suc k)) → (w : List Bool) → length w ≡ n → v w (names_after p (suc k) net) ≡ val (l.stage (suc k)) (brings p.stages k w) Base net)
      → ((net : ℕ) → Member net (stage_nets l top) → (g : WordFunction) × Member g fs × ((w : List Bool) → length w ≡ n → v w (names_after p top net) ≡ g w))
      → Covered n (net_functions j v) (functions_before (λ w. w) (take before p.stages) ++ fs)
  net-function_back v fs earlier here_net f m =
      let (x, i, e) = member_of_map (λ net. λ word. v word net) (nets_of j.inputs j.cells) f m in
      let (k, net, lk, in_l, same) = joined-net p shape l is before inner x i in
      elim (cases_eq k before) [
        | inl last ↦
            let (h, also, agrees) = here_net net (subst (λ y. Member net (stage_nets l (suc y))) last in_l) in (
              h,
              Member-append_right (functions_before (λ w. w) (take before p.stages)) h also,
              λ w wide. ap (λ q. q w) (sym e) ∙ ap (v w) (sym same ∙ ap (λ y. names_after p (suc y) net) last) ∙ agrees w wide,
            )
        | inr apart ↦
            let lt : k < before = omega (arith, lk, apart) in
            let (h, also, agrees) = before-has (take before p.stages) (λ w. w) k (l.stage (suc k)) net (stage-at k lt) in_l in (
              h,
              Member-append_left h fs also,
              λ w wide.
                  ap (λ q. q w) (sym e) ∙ ap (v w) (sym same) ∙ earlier k net lt in_l w wide
                  ∙ sym (agrees w ∙ ap (λ ss. val (l.stage (suc k)) (composed ss w) Base net) (take-front p.stages before k (omega (arith, lt)))),
            )
      ]

  at-j : slice_get j.cells place_j ≡ Some (gate_as (names_after p top) g)
  at-j = joined-at p shape l is before inner place g at

  g_in : Member g own.cells
  g_in = Member-from_Contains own.cells g (Contains-from_slice_get own.cells place g at)

  orphan-j : orphan_function j (slice_get j.cells place_j) kept_j ≡ (λ word. base_j word (out_of g) && all_data_function j kept_j word) ∷ []
  orphan-j = ap (λ o. orphan_function j o kept_j) at-j

  orphan-own : orphan_on way own (slice_get own.cells place) place ≡ (λ word. values_on way own Base word (out_of g) && all_data_function own kept_own word) ∷ []
  orphan-own = ap (λ o. orphan_on way own o place) at

  orphan_both : (w : List Bool) → length w ≡ n → (base_j w (out_of g) && all_data_function j kept_j w) ≡ (values_on way own Base w (out_of g) && all_data_function own kept_own w)
  orphan_both w wide =
      ap (λ b. b && all_data_function j kept_j w) (ap (base_j w) (sym (joined-gate p shape l is before inner g g_in)) ∙ base-at w wide before (omega arith) (out_of g) (gate-listed own g g_in))
      ∙ ap (λ b. values_on way own Base w (out_of g) && b) (ap (list_all (has_data (kept_j w))) outputs-j ∙ all_both own.outputs (λ r m. m) w wide)

  only : {X : Type 0} (x y : X) → Member x (y ∷ []) → y ≡ x
  only x y here = refl
  only x y (there m) = elim m [ ]

  orphan_there : Covered n (orphan_on way own (slice_get own.cells place) place) (orphan_function j (slice_get j.cells place_j) kept_j)
  orphan_there f m =
      let e = only f (λ word. values_on way own Base word (out_of g) && all_data_function own kept_own word) (subst (Member f) orphan-own m) in
      (λ word. base_j word (out_of g) && all_data_function j kept_j word, subst (Member {X = WordFunction} (λ word. base_j word (out_of g) && all_data_function j kept_j word)) (sym orphan-j) here, λ w wide. ap (λ h. h w) (sym e) ∙ sym (orphan_both w wide))

  orphan_back : Covered n (orphan_function j (slice_get j.cells place_j) kept_j) (orphan_on way own (slice_get own.cells place) place)
  orphan_back f m =
      let e = only f (λ word. base_j word (out_of g) && all_data_function j kept_j word) (subst (Member f) orphan-j m) in
      (λ word. values_on way own Base word (out_of g) && all_data_function own kept_own word, subst (Member {X = WordFunction} (λ word. values_on way own Base word (out_of g) && all_data_function own kept_own word)) (sym orphan-own) here, λ w wide. ap (λ h. h w) (sym e) ∙ orphan_both w wide)

  -- ---- all together

  -- the lists of an explanation, and of the joined stage
  abbrev own_asked : Asked
  own_asked = asked_of own (values_on way own Base) kept_own (orphan_on way own (slice_get own.cells place) place)

  abbrev earlier : List WordFunction
  earlier = functions_before (λ w. w) (take before p.stages)

  abbrev j_asked : Asked
  j_asked = asked_of j base_j kept_j (orphan_function j (slice_get j.cells place_j) kept_j)

  -- what one of them covers, all of them do
  by_data : (fs : List WordFunction) → Covered n fs own_asked.outputs → Covered n fs asked
  by_data fs c =
      covered-right n fs earlier (functions_at way own place)
      (covered-left n fs (own_asked.base ++ own_asked.kept ++ own_asked.outputs ++ own_asked.conjunctions) own_asked.orphan (covered-left n fs (own_asked.base ++ own_asked.kept ++ own_asked.outputs) own_asked.conjunctions (covered-right n fs (own_asked.base ++ own_asked.kept) own_asked.outputs c)))

  by_fronts : (fs : List WordFunction) → Covered n fs own_asked.conjunctions → Covered n fs asked
  by_fronts fs c =
      covered-right n fs earlier (functions_at way own place)
      (covered-left n fs (own_asked.base ++ own_asked.kept ++ own_asked.outputs ++ own_asked.conjunctions) own_asked.orphan (covered-right n fs (own_asked.base ++ own_asked.kept ++ own_asked.outputs) own_asked.conjunctions c))

  by_orphan : (fs : List WordFunction) → Covered n fs own_asked.orphan → Covered n fs asked
  by_orphan fs c = covered-right n fs earlier (functions_at way own place) (covered-right n fs (own_asked.base ++ own_asked.kept ++ own_asked.outputs ++ own_asked.conjunctions) own_asked.orphan c)

  to_base : (fs : List WordFunction) → Covered n fs j_asked.base → Covered n fs made
  to_base fs c = covered-left n fs j_asked.base (j_asked.kept ++ j_asked.outputs ++ j_asked.conjunctions ++ j_asked.orphan) c

  to_kept : (fs : List WordFunction) → Covered n fs j_asked.kept → Covered n fs made
  to_kept fs c = covered-right n fs j_asked.base (j_asked.kept ++ j_asked.outputs ++ j_asked.conjunctions ++ j_asked.orphan) (covered-left n fs (j_asked.kept ++ j_asked.outputs ++ j_asked.conjunctions) j_asked.orphan (covered-left n fs (j_asked.kept ++ j_asked.outputs) j_asked.conjunctions (covered-left n fs j_asked.kept j_asked.outputs c)))

  to_data : (fs : List WordFunction) → Covered n fs j_asked.outputs → Covered n fs made
  to_data fs c = covered-right n fs j_asked.base (j_asked.kept ++ j_asked.outputs ++ j_asked.conjunctions ++ j_asked.orphan) (covered-left n fs (j_asked.kept ++ j_asked.outputs ++ j_asked.conjunctions) j_asked.orphan (covered-left n fs (j_asked.kept ++ j_asked.outputs) j_asked.conjunctions (covered-right n fs j_asked.kept j_asked.outputs c)))

  to_fronts : (fs : List WordFunction) → Covered n fs j_asked.conjunctions → Covered n fs made
  to_fronts fs c = covered-right n fs j_asked.base (j_asked.kept ++ j_asked.outputs ++ j_asked.conjunctions ++ j_asked.orphan) (covered-left n fs (j_asked.kept ++ j_asked.outputs ++ j_asked.conjunctions) j_asked.orphan (covered-right n fs (j_asked.kept ++ j_asked.outputs) j_asked.conjunctions c))

  to_orphan : (fs : List WordFunction) → Covered n fs j_asked.orphan → Covered n fs made
  to_orphan fs c = covered-right n fs j_asked.base (j_asked.kept ++ j_asked.outputs ++ j_asked.conjunctions ++ j_asked.orphan) (covered-right n fs (j_asked.kept ++ j_asked.outputs ++ j_asked.conjunctions) j_asked.orphan c)

  asked_made : Covered n asked made
  asked_made =
      covered-append n earlier (functions_at way own place) made (before_made made (to_base j_asked.base (itself j_asked.base)))
      (covered-append n (own_asked.base ++ own_asked.kept ++ own_asked.outputs ++ own_asked.conjunctions) own_asked.orphan made
      (covered-append n (own_asked.base ++ own_asked.kept ++ own_asked.outputs) own_asked.conjunctions made
      (covered-append n (own_asked.base ++ own_asked.kept) own_asked.outputs made
      (covered-append n own_asked.base own_asked.kept made (to_base own_asked.base base_there) (to_kept own_asked.kept kept_there))
      (to_data own_asked.outputs data_there))
      (to_fronts own_asked.conjunctions fronts_there))
      (to_orphan own_asked.orphan orphan_there))

  base_back : Covered n j_asked.base asked
  base_back = net-function_back base_j (functions_at way own place)
      (λ k net lt m w wide. base-at w wide k (omega (arith, lt)) net m)
      (λ net m. let f : WordFunction = λ word. values_on way own Base word net in (
        f,
        Member-append_left f own_asked.orphan (Member-append_left f own_asked.conjunctions (Member-append_left f own_asked.outputs (Member-append_left f own_asked.kept (Member-map (λ x. λ word. values_on way own Base word x) net m)))),
        λ w wide. base-at w wide before (omega arith) net m,
      ))

  kept_back : Covered n j_asked.kept asked
  kept_back = net-function_back kept_j (functions_at way own place)
      (λ k net lt m w wide. kept-before w wide k lt net m)
      (λ net m. let f : WordFunction = λ word. kept_own word net in (
        f,
        Member-append_left f own_asked.orphan (Member-append_left f own_asked.conjunctions (Member-append_left f own_asked.outputs (Member-append_right own_asked.base f (Member-map (λ x. λ word. kept_own word x) net m)))),
        λ w wide. kept-own w wide net m,
      ))

  made_asked : Covered n made asked
  made_asked =
      covered-append n j_asked.base (j_asked.kept ++ j_asked.outputs ++ j_asked.conjunctions ++ j_asked.orphan) asked base_back
      (covered-append n (j_asked.kept ++ j_asked.outputs ++ j_asked.conjunctions) j_asked.orphan asked
      (covered-append n (j_asked.kept ++ j_asked.outputs) j_asked.conjunctions asked
      (covered-append n j_asked.kept j_asked.outputs asked kept_back (by_data j_asked.outputs data_back))
      (by_fronts j_asked.conjunctions fronts_back))
      (by_orphan j_asked.orphan orphan_back))

  -- the tables of the joined stage have the beads of those of an explanation
  pub beads-joined : distinct_beads n (map (table_of (words n)) made) ≡ distinct_beads n (map (table_of (words n)) asked)
  beads-joined = same-beads n made asked made_asked asked_made
