-- How many nodes a variant has at most, by the bits on which the nets of the stage depend and by those that it loses.
use Rattle.ncl_verdict.proofs.Terms.{AreMasks, AreReaches, AreSupports, Base, Bool, HasValidRails, IsPart, IsStage, IsWiring, IsWordOf, List, Member, Member-append_cases, Member-append_left, Member-append_right, Member-filter, Member-get_or, Member-map, Rails, StageData, Variant, WiringData, WordFunction, [], ap, arith, bead_count, beads_of, beads_of-constant, bit_order, both, both_ways, cases_Bool, cond, count, data_fronts, data_functions, false, filter, fronts, fronts-map, functions_of, get_or, has_data, inl, inr, is_part, length, list_all, lost_data, lost_mask, map, mask_at, member_of_filter, member_of_map, net_at, net_functions, nets_of, ordered-table, place-of, placed, question_functions, rail_places, refl, subst, suc, sum_by, sum_by-append, sum_by-map, sym, table_of, table_of-same, tables_of, true, union, val, values_at, weight_lost, weight_of, words_by, zero, ℕ, ◌*◌, ◌++◌, ◌+◌, ◌-◌, ◌<◌, ◌∙◌, ◌∷◌, ◌≡◌, ◌≤◌, ◌⊎◌}
use Rattle.ncl_verdict.proofs.Losing.{Loses, all-look, data-looks, data_mask, loses, net-looks, word-of}
use Rattle.ncl_verdict.proofs.MaskLaws.{part-test, union-has}
use Rattle.ncl_verdict.proofs.ReachLaws.{all-filtered, fronts-filtered, front-members}
use Rattle.ncl_verdict.proofs.Supporting.{are-supports, marks_by}
use Rattle.ncl_verdict.proofs.Weights.{AllLook, Looks, count-both, fewer, look-append, look-members, look-part, look-places, look-same, weighed-beads, weigh-same}

-- the masks of what doesn't pass go with it
filter-map : {X : Type 0} (g : X → ℕ) (test : ℕ → Bool) (xs : List X) → filter test (map g xs) ≡ map g (filter (λ x. test (g x)) xs)
filter-map g test [] = refl
filter-map g test (x ∷ xs) = by (test (g x)) (filter-map g test xs)
  where
    by : (b : Bool) → filter test (map g xs) ≡ map g (filter (λ y. test (g y)) xs) → cond b (g x ∷ filter test (map g xs)) (filter test (map g xs)) ≡ map g (cond b (x ∷ filter (λ y. test (g y)) xs) (filter (λ y. test (g y)) xs))
    by true rest = ap (λ l. g x ∷ l) rest
    by false rest = rest

-- ---- the tables of a variant, and those that have beads
module _ (s : StageData) (is : IsStage s) (valid : HasValidRails s) (w : WiringData) (wired : IsWiring s w) (k : ℕ) (masks reaches : List ℕ) (many : length masks ≡ length (nets_of s.inputs s.cells)) (supports : AreSupports s (marks_by s w k masks)) (reached : AreReaches 0 (length s.inputs) w masks reaches) (variant : Variant) (loss : Loses s w k masks reaches variant) where
  abbrev is_kept : Rails → Bool
  is_kept r = is_part (data_mask s masks r) loss.lost

  abbrev kept : List Rails
  kept = filter is_kept s.outputs

  abbrev has : Rails → WordFunction
  has r word = has_data (val s word variant) r

  abbrev have : List Rails → WordFunction
  have front word = list_all (has_data (val s word variant)) front

  abbrev some_functions : List WordFunction
  some_functions = net_functions s (values_at s variant) ++ map has kept ++ map have (fronts kept) ++ loss.asked

  abbrev some_masks : List ℕ
  some_masks = masks ++ map (data_mask s masks) kept ++ map (λ (front : List Rails). union (map (data_mask s masks) front)) (fronts kept) ++ map (λ (f : WordFunction). loss.lost) loss.asked

  always : (r : Rails) → Member r s.outputs → is_kept r ≡ false → (word : List Bool) → IsWordOf s word → has r word ≡ true
  always r m out = elim (loss.shown r m) [
    | inl there_always ↦ there_always
    | inr part ↦ absurd (both_ways (is_kept r) out (part-test (data_mask s masks r) loss.lost part))
  ]

  some-look : AllLook k w.order some_masks some_functions
  some-look =
      look-append k w.order (masks ++ map (data_mask s masks) kept ++ map (λ (front : List Rails). union (map (data_mask s masks) front)) (fronts kept)) (net_functions s (values_at s variant) ++ map has kept ++ map have (fronts kept)) (map (λ (f : WordFunction). loss.lost) loss.asked) loss.asked
      (look-append k w.order (masks ++ map (data_mask s masks) kept) (net_functions s (values_at s variant) ++ map has kept) (map (λ (front : List Rails). union (map (data_mask s masks) front)) (fronts kept)) (map have (fronts kept))
      (look-append k w.order masks (net_functions s (values_at s variant)) (map (data_mask s masks) kept) (map has kept)
      (look-places k w.order masks (nets_of s.inputs s.cells) (λ net. λ word. val s word variant net) 0 many nets_look)
      (look-members k w.order (data_mask s masks) kept has (λ r m. data-looks s is valid w wired k masks reaches many supports reached variant r (member_of_filter is_kept r s.outputs m).0)))
      (look-members k w.order (λ (front : List Rails). union (map (data_mask s masks) front)) (fronts kept) have front_look))
      (look-same k w.order loss.lost loss.asked loss.looks)
    where
      nets_look : (p : ℕ) → p < length (nets_of s.inputs s.cells) → Looks k w.order (get_or masks p 0) (λ word. val s word variant (get_or (nets_of s.inputs s.cells) p 0))
      nets_look p lt = net-looks s is valid w wired k masks reaches many supports reached variant (net_at s p) (Member-get_or (nets_of s.inputs s.cells) p 0 lt) (mask_at masks p) (subst (λ q. IsPart (mask_at masks q) (mask_at masks p)) (place-of s is p (net_at s p) lt refl) (λ bit on. on))

      front_look : (front : List Rails) → Member front (fronts kept) → Looks k w.order (union (map (data_mask s masks) front)) (have front)
      front_look front m = all-look s is valid w wired k masks reaches many supports reached variant (union (map (data_mask s masks) front)) front (λ r n.
          look-part k w.order (data_mask s masks r) (union (map (data_mask s masks) front)) (has r) (union-has (data_mask s masks r) (map (data_mask s masks) front) (Member-map (data_mask s masks) r n))
          (data-looks s is valid w wired k masks reaches many supports reached variant r (member_of_filter is_kept r s.outputs (front-members kept front m r n)).0))

  -- each table is one of these or has no beads
  abbrev IsCovered : WordFunction → Type 0
  IsCovered f = Member (table_of (words_by w.order) f) (map (table_of (words_by w.order)) some_functions) ⊎ (beads_of (length s.inputs) (table_of (words_by w.order) f) ≡ [])

  constant-covered : (f : WordFunction) (value : Bool) → ((v : List Bool) → f (placed w.order v) ≡ value) → IsCovered f
  constant-covered f value same = inr (
      ap (beads_of (length s.inputs)) (ordered-table (length s.inputs) w.order wired.order f ∙ table_of-same (length s.inputs) (λ v. f (placed w.order v)) (λ v. value) (λ v long. same v))
      ∙ beads_of-constant (length s.inputs) value
      )

  same-covered : (f g : WordFunction) → ((v : List Bool) → f (placed w.order v) ≡ g (placed w.order v)) → Member g some_functions → IsCovered f
  same-covered f g same m = inl (subst (λ t. Member t (map (table_of (words_by w.order)) some_functions)) (sym tables) (Member-map (table_of (words_by w.order)) g m))
    where
      tables : table_of (words_by w.order) f ≡ table_of (words_by w.order) g
      tables =
          ordered-table (length s.inputs) w.order wired.order f
          ∙ table_of-same (length s.inputs) (λ v. f (placed w.order v)) (λ v. g (placed w.order v)) (λ v long. same v)
          ∙ sym (ordered-table (length s.inputs) w.order wired.order g)

  net-covered : (f : WordFunction) → Member f (net_functions s (values_at s variant)) → IsCovered f
  net-covered f m = same-covered f f (λ v. refl) (Member-append_left f loss.asked (Member-append_left f (map have (fronts kept)) (Member-append_left f (map has kept) m)))

  data-covered : (r : Rails) → Member r s.outputs → IsCovered (has r)
  data-covered r m = elim (cases_Bool (is_kept r)) [
    | inl in_kept ↦ same-covered (has r) (has r) (λ v. refl) (Member-append_left (has r) loss.asked (Member-append_left (has r) (map have (fronts kept)) (Member-append_right (net_functions s (values_at s variant)) (has r) (Member-map has r (Member-filter is_kept r m in_kept)))))
    | inr out ↦ constant-covered (has r) true (λ v. always r m out (placed w.order v) (word-of s is valid w wired k masks reaches many supports reached v))
  ]

  front-covered : (front : List Rails) → Member front (fronts s.outputs) → IsCovered (have front)
  front-covered front m = elim (fronts-filtered is_kept s.outputs front m) [
    | inl some ↦ same-covered (have front) (have (filter is_kept front)) same (Member-append_left (have (filter is_kept front)) loss.asked (Member-append_right (net_functions s (values_at s variant) ++ map has kept) (have (filter is_kept front)) (Member-map have (filter is_kept front) some)))
    | inr none ↦ constant-covered (have front) true (λ v. same v ∙ ap (λ l. have l (placed w.order v)) none)
  ]
    where
      same : (v : List Bool) → have front (placed w.order v) ≡ have (filter is_kept front) (placed w.order v)
      same v = all-filtered (has_data (val s (placed w.order v) variant)) is_kept front (λ r n out. always r (front-members s.outputs front m r n) out (placed w.order v) (word-of s is valid w wired k masks reaches many supports reached v))

  question-covered : (f : WordFunction) → Member f (question_functions s variant (values_at s variant)) → IsCovered f
  question-covered f m = elim (loss.questions f m) [
    | inl some ↦ same-covered f f (λ v. refl) (Member-append_right (net_functions s (values_at s variant) ++ map has kept ++ map have (fronts kept)) f some)
    | inr never ↦ constant-covered f false never
  ]

  covered : (f : WordFunction) → Member f (functions_of s variant) → IsCovered f
  covered f m = elim (Member-append_cases f (net_functions s (values_at s variant) ++ data_functions s (values_at s variant) ++ data_fronts s (values_at s variant)) (question_functions s variant (values_at s variant)) m) [
    | inr question ↦ question-covered f question
    | inl three ↦ elim (Member-append_cases f (net_functions s (values_at s variant) ++ data_functions s (values_at s variant)) (data_fronts s (values_at s variant)) three) [
      | inr front ↦ by_front (member_of_map have (fronts s.outputs) f front)
      | inl two ↦ elim (Member-append_cases f (net_functions s (values_at s variant)) (data_functions s (values_at s variant)) two) [
        | inl net ↦ net-covered f net
        | inr shown ↦ by_data (member_of_map has s.outputs f shown)
      ]
    ]
  ]
    where
      by_front : (front : List Rails) × Member front (fronts s.outputs) × (have front ≡ f) → IsCovered f
      by_front (front, n, at) = subst IsCovered at (front-covered front n)

      by_data : (r : Rails) × Member r s.outputs × (has r ≡ f) → IsCovered f
      by_data (r, n, at) = subst IsCovered at (data-covered r n)

  -- what they weigh
  weights-are : sum_by weight_of some_masks ≤ sum_by weight_of masks + weight_lost masks w.outputs loss.lost
  weights-are =
      let front_masks : List ℕ = map (λ (front : List Rails). union (map (data_mask s masks) front)) (fronts kept) in
      let asked_masks : List ℕ = map (λ (f : WordFunction). loss.lost) loss.asked in
      let four = sum_by-append weight_of (masks ++ map (data_mask s masks) kept ++ front_masks) asked_masks in
      let three = sum_by-append weight_of (masks ++ map (data_mask s masks) kept) front_masks in
      let two = sum_by-append weight_of masks (map (data_mask s masks) kept) in
      let shown : map (data_mask s masks) kept ≡ lost_data masks loss.lost w.outputs =
      sym (filter-map (data_mask s masks) (λ m. is_part m loss.lost) s.outputs)
      ∙ ap (filter (λ m. is_part m loss.lost)) (masks-of s.outputs ∙ ap (map (both masks)) (sym (wired.outputs ∙ ap (λ ns. map (rail_places ns) s.outputs) wired.nets))) in
      let data_sum = ap (sum_by weight_of) shown in
      let front_sum : sum_by weight_of front_masks ≡ sum_by (λ front. weight_of (union front)) (fronts (lost_data masks loss.lost w.outputs)) =
      sum_by-map weight_of (λ (front : List Rails). union (map (data_mask s masks) front)) (fronts kept)
      ∙ sym (sum_by-map (λ front. weight_of (union front)) (map (data_mask s masks)) (fronts kept))
      ∙ ap (sum_by (λ front. weight_of (union front))) (sym (fronts-map (data_mask s masks) kept) ∙ ap fronts shown) in
      let asked_sum = weigh-same loss.lost loss.asked in
      let once : length loss.asked * weight_of loss.lost ≤ weight_of loss.lost = at-most-once (length loss.asked) (weight_of loss.lost) loss.few in
      omega (arith, four, three, two, data_sum, front_sum, asked_sum, once)
    where
      masks-of : (rs : List Rails) → map (data_mask s masks) rs ≡ map (both masks) (map (rail_places (nets_of s.inputs s.cells)) rs)
      masks-of [] = refl
      masks-of (r ∷ rs) = ap (λ l. data_mask s masks r ∷ l) (masks-of rs)

      at-most-once : (n weight : ℕ) → n ≤ 1 → n * weight ≤ weight
      at-most-once n weight few = by n few
        where
          by : (n : ℕ) → n ≤ 1 → n * weight ≤ weight
          by zero few = omega arith
          by (suc zero) few = omega arith
          by (suc (suc n)) few = absurd (omega (arith, few))

  -- the beads of its tables
  pub variant-beads : k ≡ length s.inputs - 3 → bead_count (length s.inputs) (map (table_of (words_by w.order)) (functions_of s variant)) ≤ sum_by weight_of masks + weight_lost masks w.outputs loss.lost + 276
  variant-beads last =
      let beads = weighed-beads (length s.inputs) k last w.order wired.order some_masks some_functions some-look in
      let less = fewer (length s.inputs) (map (table_of (words_by w.order)) (functions_of s variant)) (map (table_of (words_by w.order)) some_functions) (λ t m. by t (member_of_map (table_of (words_by w.order)) (functions_of s variant) t m)) in
      let weights = weights-are in
      omega (arith, beads, less, weights)
    where
      by : (t : List Bool) → (f : WordFunction) × Member f (functions_of s variant) × (table_of (words_by w.order) f ≡ t) → Member t (map (table_of (words_by w.order)) some_functions) ⊎ (beads_of (length s.inputs) t ≡ [])
      by t (f, m, at) = subst (λ u. Member u (map (table_of (words_by w.order)) some_functions) ⊎ (beads_of (length s.inputs) u ≡ [])) at (covered f m)

-- ---- the count of a variant, where Base has so many nodes
pub count-few : (s : StageData) → IsStage s → HasValidRails s → (w : WiringData) → IsWiring s w → w.order ≡ bit_order s → (masks reaches : List ℕ) → length masks ≡ length (nets_of s.inputs s.cells) → AreMasks (length s.inputs) w masks → AreReaches 0 (length s.inputs) w masks reaches
    → (most : ℕ) → ((place : ℕ) → place < length (nets_of s.inputs s.cells) → weight_lost masks w.outputs (lost_mask (length s.inputs) reaches place) ≤ most) → (nodes limit : ℕ) → nodes ≡ bead_count (length s.inputs) (tables_of s Base)
    → nodes + 276 + sum_by weight_of masks + most ≤ limit → (variant : Variant) → count s variant ≤ limit
count-few s is valid w wired order masks reaches many are reach most each nodes limit held enough variant =
    let k : ℕ = length s.inputs - 3 in
    let supports = are-supports s is w wired k refl masks many are in
    let loss = loses s is valid w wired k masks reaches many supports reach variant in
    let beads = count-both (length s.inputs) (tables_of s Base) (tables_of s variant) in
    let few = subst (λ lost. weight_lost masks w.outputs lost ≤ most) loss.lost_at (each loss.place loss.within) in
    let own = subst (λ (o : List ℕ). bead_count (length s.inputs) (map (table_of (words_by o)) (functions_of s variant)) ≤ sum_by weight_of masks + weight_lost masks w.outputs loss.lost + 276) order
    (variant-beads s is valid w wired k masks reaches many supports reach variant loss refl) in
    omega (arith, beads, own, held, few, enough)
