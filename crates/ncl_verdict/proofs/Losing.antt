-- What a variant loses: where it keeps nets low, what depends on the bits that they reach.
use Rattle.ncl_verdict.proofs.Terms.{AreReaches, AreSupports, Base, Bit, Bool, Cell, Contains-from_slice_get, HasValidRails, IsPart, IsStage, IsWiring, IsWordOf, List, Member, Member-append_right, Member-from_Contains, Member-map, None, Option, Rails, Some, StageCell, StageData, Variant, WiringData, WordFunction, [], all_data, ap, arith, bit_or, both, both_rails, cond, eqb-true, false, get_or_from_slice_get, has_data, here, inl, inr, is_illegal, kept_low, le-ltb, length, list_all, lost_mask, lt-ltb, mask_at, member_cases, member_of_map, nat_eq, nets-length, nets_of, or_cases, orphan_function, out_of, output_net, place_in, placed, placed-length, question_functions, rail_nets, rail_places, refl, slice_get, slice_get_within, subst, sym, there, told, true, val, values_at, ℕ, ◌%◌, ◌&&◌, ◌*◌, ◌+◌, ◌-◌, ◌<◌, ◌||◌, ◌∙◌, ◌∷◌, ◌≡◌, ◌≤◌, ◌⊎◌}
use Rattle.ncl_verdict.proofs.MaskLaws.{agree-on, marked-part, part-along, part-left, part-right}
use Rattle.ncl_verdict.proofs.ReachLaws.{base-data, data-left, known-rails}
use Rattle.ncl_verdict.proofs.Supporting.{cell-place-at, data-reached, marks_by, rail-places-at, reads-reach}
use Rattle.ncl_verdict.proofs.Weights.{Looks, look-part}

-- the masks of a net and of the DATA of an output, and what a net reaches
abbrev pub own_mask : StageData → List ℕ → ℕ → ℕ
own_mask s masks net = mask_at masks (place_in (nets_of s.inputs s.cells) net)

abbrev pub data_mask : StageData → List ℕ → Rails → ℕ
data_mask s masks r = both masks (rail_places (nets_of s.inputs s.cells) r)

-- what a variant loses: the outputs whose DATA isn't always there depend on it, and so does what it asks
pub record Loses (s : StageData) (w : WiringData) (k : ℕ) (masks reaches : List ℕ) (variant : Variant) : Type 0 where
  pub lost : ℕ
  pub place : ℕ
  pub within : place < length (nets_of s.inputs s.cells)
  pub lost_at : lost_mask (length s.inputs) reaches place ≡ lost
  pub shown : (r : Rails) → Member r s.outputs → ((word : List Bool) → IsWordOf s word → has_data (val s word variant) r ≡ true) ⊎ IsPart (data_mask s masks r) lost
  pub asked : List WordFunction
  pub few : length asked ≤ 1
  pub looks : (f : WordFunction) → Member f asked → Looks k w.order lost f
  pub questions : (f : WordFunction) → Member f (question_functions s variant (values_at s variant)) → Member f asked ⊎ ((v : List Bool) → f (placed w.order v) ≡ false)

-- what a variant reaches that keeps a bit or a cell low, by its place
lost-rail : (bits : ℕ) (reaches : List ℕ) (bit : ℕ) → bit < bits → lost_mask bits reaches (2 * bit) ≡ bit_or (mask_at reaches (2 * bit)) (mask_at reaches (2 * bit + 1))
lost-rail bits reaches bit lt =
    let even : 2 * bit - 2 * bit % 2 ≡ 2 * bit = omega arith in
    ap (λ b. cond b (both reaches (2 * bit - 2 * bit % 2, 2 * bit - 2 * bit % 2 + 1)) (mask_at reaches (2 * bit))) (lt-ltb (2 * bit) (2 * bits) (omega (arith, lt)))
    ∙ ap (λ n. bit_or (mask_at reaches n) (mask_at reaches (n + 1))) even

lost-cell : (bits : ℕ) (reaches : List ℕ) (cell : ℕ) → lost_mask bits reaches (2 * bits + cell) ≡ mask_at reaches (2 * bits + cell)
lost-cell bits reaches cell =
    let place : ℕ = 2 * bits + cell in
    ap (λ b. cond b (both reaches (place - place % 2, place - place % 2 + 1)) (mask_at reaches place)) (le-ltb place (2 * bits) (omega arith))

module _ (s : StageData) (is : IsStage s) (valid : HasValidRails s) (w : WiringData) (wired : IsWiring s w) (k : ℕ) (masks reaches : List ℕ) (many : length masks ≡ length (nets_of s.inputs s.cells)) (supports : AreSupports s (marks_by s w k masks)) (reached : AreReaches 0 (length s.inputs) w masks reaches) where
  pub word-of : (v : List Bool) → IsWordOf s (placed w.order v)
  word-of v = placed-length (length s.inputs) w.order wired.order v

  -- ---- what functions look at
  pub net-looks : (variant : Variant) (net : ℕ) → Member net (nets_of s.inputs s.cells) → (mask : ℕ) → IsPart (own_mask s masks net) mask → Looks k w.order mask (λ word. val s word variant net)
  net-looks variant net m mask part v u sees =
      let agree = agree-on w.order k mask v u sees in
      told s is (marks_by s w k masks) supports variant (placed w.order v) (placed w.order u) (word-of v) (word-of u) net m (λ bit on. agree bit (marked-part w.order k (own_mask s masks net) mask part bit on))

  pub data-looks : (variant : Variant) (r : Rails) → Member r s.outputs → Looks k w.order (data_mask s masks r) (λ word. has_data (val s word variant) r)
  data-looks variant r m v u sees =
      let known = known-rails s is r m in
      let low = net-looks variant r.zero.0 known.0 (data_mask s masks r) (part-left (own_mask s masks r.zero.0) (own_mask s masks r.one.0)) v u sees in
      let high = net-looks variant r.one.0 known.1 (data_mask s masks r) (part-right (own_mask s masks r.zero.0) (own_mask s masks r.one.0)) v u sees in
      λ i. low i || high i

  -- conjunctions of what looks at the bits of one mask
  pub all-look : (variant : Variant) (mask : ℕ) (rs : List Rails) → ((r : Rails) → Member r rs → Looks k w.order mask (λ word. has_data (val s word variant) r)) → Looks k w.order mask (λ word. list_all (has_data (val s word variant)) rs)
  all-look variant mask [] each v u sees = refl
  all-look variant mask (r ∷ rs) each v u sees =
      let first = each r here v u sees in
      let rest = all-look variant mask rs (λ other m. each other (there m)) v u sees in
      λ i. first i && rest i

  -- ---- what a variant loses
  -- where nothing is kept low all outputs are DATA
  all-there : (variant : Variant) → ((net : ℕ) → kept_low s variant net ≡ true → ⊥) → (r : Rails) → Member r s.outputs → (word : List Bool) → IsWordOf s word → has_data (val s word variant) r ≡ true
  all-there variant none r m word right = elim (data-left s is variant (λ net. ⊥) none (λ c n pin o gone. gone) valid r m) [
    | inl always ↦ always word right
    | inr gone ↦ absurd (elim gone [ inl first ↦ first | inr second ↦ second ])
  ]

  loses-nothing : (variant : Variant) → ((net : ℕ) → kept_low s variant net ≡ true → ⊥) → ((f : WordFunction) → Member f (question_functions s variant (values_at s variant)) → (v : List Bool) → f (placed w.order v) ≡ false) → Loses s w k masks reaches variant
  loses-nothing variant none never = record {
    lost = lost_mask (length s.inputs) reaches 0;
    place = 0;
    within = omega (arith, nets-length s, is.some_inputs);
    lost_at = refl;
    shown = λ r m. inl (all-there variant none r m);
    asked = [];
    few = omega arith;
    looks = λ f m. elim m [ ];
    questions = λ f m. inr (never f m);
  }

  -- where the nets that are kept low reach the bits of a mask alone
  data-lost : (variant : Variant) (lost : ℕ) → ((net : ℕ) → kept_low s variant net ≡ true → IsPart (own_mask s reaches net) lost) → (r : Rails) → Member r s.outputs → ((word : List Bool) → IsWordOf s word → has_data (val s word variant) r ≡ true) ⊎ IsPart (data_mask s masks r) lost
  data-lost variant lost low r m =
      let parts = data-reached s is w wired masks reaches reached r m in
      elim (data-left s is variant (λ net. IsPart (own_mask s reaches net) lost) low (λ c n pin o gone. part-along (own_mask s reaches (out_of c)) (own_mask s reaches pin.0) lost (reads-reach s is w wired masks reaches reached c n pin o) gone) valid r m) [
        | inl always ↦ inl always
        | inr gone ↦ inr (elim gone [
          | inl first ↦ part-along (data_mask s masks r) (own_mask s reaches r.zero.0) lost parts.0 first
          | inr second ↦ part-along (data_mask s masks r) (own_mask s reaches r.one.0) lost parts.1 second
        ])
      ]

  bit-loses : (bit : ℕ) (r : Rails) → slice_get s.inputs bit ≡ Some r → Loses s w k masks reaches (Bit bit)
  bit-loses bit r found =
      let lt : bit < length s.inputs = slice_get_within s.inputs bit r found in
      let places = rail-places-at s is bit r found in
      let low : ℕ = mask_at reaches (2 * bit) in
      let high : ℕ = mask_at reaches (2 * bit + 1) in
      record {
        lost = bit_or low high;
        place = 2 * bit;
        within = omega (arith, nets-length s, lt);
        lost_at = lost-rail (length s.inputs) reaches bit lt;
        shown = data-lost (Bit bit) (bit_or low high) (λ net kept.
            elim (or_cases (nat_eq net r.zero.0) (nat_eq net r.one.0) (ap (λ o. both_rails o net) (sym found) ∙ kept)) [
              | inl at ↦ subst (λ p. IsPart (mask_at reaches p) (bit_or low high)) (sym (ap (place_in (nets_of s.inputs s.cells)) (eqb-true net r.zero.0 at) ∙ places.0)) (part-left low high)
              | inr at ↦ subst (λ p. IsPart (mask_at reaches p) (bit_or low high)) (sym (ap (place_in (nets_of s.inputs s.cells)) (eqb-true net r.one.0 at) ∙ places.1)) (part-right low high)
            ]);
        asked = [];
        few = omega arith;
        looks = λ f m. elim m [ ];
        questions = λ f m. elim m [ ];
      }

  -- a cell that is high, and all outputs that are DATA without it
  orphan-looks : (variant : Variant) (lost : ℕ) → ((r : Rails) → Member r s.outputs → ((word : List Bool) → IsWordOf s word → has_data (val s word variant) r ≡ true) ⊎ IsPart (data_mask s masks r) lost) → (c : StageCell) → Member c s.cells → IsPart (own_mask s masks (out_of c)) lost → Looks k w.order lost (λ word. val s word Base c.out.0 && all_data s (val s word variant))
  orphan-looks variant lost shown c m part v u sees =
      let net : Member (out_of c) (nets_of s.inputs s.cells) = Member-append_right (rail_nets s.inputs) (out_of c) (Member-map out_of c m) in
      let high = net-looks Base (out_of c) net lost part v u sees in
      let all = all-look variant lost s.outputs each v u sees in
      λ i. high i && all i
    where
      each : (r : Rails) → Member r s.outputs → Looks k w.order lost (λ word. has_data (val s word variant) r)
      each r n v u sees = elim (shown r n) [
        | inl always ↦ always (placed w.order v) (word-of v) ∙ sym (always (placed w.order u) (word-of u))
        | inr some ↦ look-part k w.order (data_mask s masks r) lost (λ word. has_data (val s word variant) r) some (data-looks variant r n) v u sees
      ]

  cell-loses : (cell : ℕ) (c : StageCell) → slice_get s.cells cell ≡ Some c → Loses s w k masks reaches (Cell cell)
  cell-loses cell c found =
      let lt : cell < length s.cells = slice_get_within s.cells cell c found in
      let m : Member c s.cells = Member-from_Contains s.cells c (Contains-from_slice_get s.cells cell c found) in
      let at : place_in (nets_of s.inputs s.cells) (out_of c) ≡ 2 * length s.inputs + cell = cell-place-at s is cell c lt (get_or_from_slice_get s.cells cell c c found) in
      let question : WordFunction = λ word. val s word Base c.out.0 && all_data s (val s word (Cell cell)) in
      let shown = data-lost (Cell cell) (own_mask s reaches (out_of c)) (λ net kept.
      subst (λ x. IsPart (own_mask s reaches x) (own_mask s reaches (out_of c))) (sym (eqb-true net c.out.0 (ap (λ o. output_net o net) (sym found) ∙ kept))) (λ p on. on)) in
      record {
        lost = own_mask s reaches (out_of c);
        place = 2 * length s.inputs + cell;
        within = omega (arith, nets-length s, lt);
        lost_at = lost-cell (length s.inputs) reaches cell ∙ ap (mask_at reaches) (sym at);
        shown = shown;
        asked = question ∷ [];
        few = omega arith;
        looks = λ f n. elim (member_cases f question [] n) [
          | inl same ↦ subst (λ (g : WordFunction). Looks k w.order (own_mask s reaches (out_of c)) g) same (orphan-looks (Cell cell) (own_mask s reaches (out_of c)) shown c m (reached.own (place_in (nets_of s.inputs s.cells) (out_of c))))
          | inr none ↦ elim none [ ]
        ];
        questions = λ f n. inl (subst (λ (o : Option StageCell). Member f (orphan_function s o (values_at s (Cell cell)))) found n);
      }

  pub loses : (variant : Variant) → Loses s w k masks reaches variant
  loses Base = loses-nothing Base (λ net kept. (let wrong : false ≡ true = kept in absurd cc)) never
    where
      never : (f : WordFunction) → Member f (question_functions s Base (values_at s Base)) → (v : List Bool) → f (placed w.order v) ≡ false
      never f m v = by (member_of_map (λ (r : Rails). λ word. is_illegal (val s word Base) r) s.outputs f m)
        where
          by : (r : Rails) × Member r s.outputs × ((λ word. is_illegal (val s word Base) r) ≡ f) → f (placed w.order v) ≡ false
          by (r, n, at) = subst (λ (g : WordFunction). g (placed w.order v) ≡ false) at (base-data s valid r n (placed w.order v) (word-of v)).1
  loses (Bit bit) = by (slice_get s.inputs bit) refl
    where
      by : (o : Option Rails) → slice_get s.inputs bit ≡ o → Loses s w k masks reaches (Bit bit)
      by None none = loses-nothing (Bit bit) (λ net kept. (let wrong : false ≡ true = ap (λ o. both_rails o net) (sym none) ∙ kept in absurd cc)) (λ f m. elim m [ ])
      by (Some r) found = bit-loses bit r found
  loses (Cell cell) = by (slice_get s.cells cell) refl
    where
      by : (o : Option StageCell) → slice_get s.cells cell ≡ o → Loses s w k masks reaches (Cell cell)
      by None none = loses-nothing (Cell cell) (λ net kept. (let wrong : false ≡ true = ap (λ o. output_net o net) (sym none) ∙ kept in absurd cc)) (λ f m. elim (subst (λ (o : Option StageCell). Member f (orphan_function s o (values_at s (Cell cell)))) none m) [ ])
      by (Some c) found = cell-loses cell c found
