-- The masks of a stage's nets by their places, as marks of its nets.
use Rattle.ncl_verdict.proofs.Terms.{All-contains, AreMasks, AreReaches, AreSupports, Contains, Contains-from_Member, IsPart, IsStage, IsSupport, IsWiring, List, Marks, Member, Member-from_Contains, Member-map, NetId, Rails, Some, StageCell, StageData, WiringData, [], ap, arith, both, cases_lt, get_or, get_or_append_left, get_or_from_slice_get, get_or_push, inl, inr, is_set, length, length-append, length-map, map, mask_at, nat_eq, net_at, net_at-cell, net_at-place, nets-length, nets_of, out_at-is, out_of, pin_places, pins-before, pins-of, place-of, place_in, rail_at, rail_places, refl, slice_get, slice_get_within, subst, sym, true, ℕ, ◌%◌, ◌*◌, ◌++◌, ◌+◌, ◌-◌, ◌/◌, ◌<◌, ◌∙◌, ◌∷◌, ◌≡◌, ◌≤◌}
use Rattle.ncl_verdict.proofs.MaskLaws.{marked, marked-at, marked-part}

-- ---- one mask more
at-front : (masks : List ℕ) (mask place : ℕ) → place < length masks → mask_at (masks ++ mask ∷ []) place ≡ mask_at masks place
at-front masks mask place lt = get_or_append_left masks (mask ∷ []) 0 place lt

-- the mask of a place, where those before it are the same
support-kept : (s : StageData) → IsStage s → (w : WiringData) → IsWiring s w → (masks : List ℕ) (last place mask : ℕ) → place < length (nets_of s.inputs s.cells) → place ≤ length masks → IsSupport (length s.inputs) w masks place mask → IsSupport (length s.inputs) w (masks ++ last ∷ []) place mask
support-kept s is w wired masks last place mask lt le support = record {
  rail = support.rail;
  cell = λ after pin has.
      let many = nets-length s in
      let i : ℕ = place - 2 * length s.inputs in
      let at : place ≡ 2 * length s.inputs + i = omega (arith, after) in
      let before : pin < place = All-contains (λ p. p < place) (get_or w.pins i []) pin (pins-before s is w wired i (omega (arith, many, lt, after)) place at) has in
      subst (λ m. IsPart m mask) (sym (at-front masks last pin (omega (arith, before, le)))) (support.cell after pin has);
}

pub masks-next : (s : StageData) → IsStage s → (w : WiringData) → IsWiring s w → (masks : List ℕ) (mask : ℕ) → length masks < length (nets_of s.inputs s.cells) → AreMasks (length s.inputs) w masks → IsSupport (length s.inputs) w masks (length masks) mask → AreMasks (length s.inputs) w (masks ++ mask ∷ [])
masks-next s is w wired masks mask lt are last place within =
    elim (cases_lt place (length masks)) [
      | inl before ↦
          subst (IsSupport (length s.inputs) w (masks ++ mask ∷ []) place) (sym (at-front masks mask place before))
          (support-kept s is w wired masks mask place (mask_at masks place) (omega (arith, before, lt)) (omega (arith, before)) (are place before))
      | inr after ↦
          let size = length-append masks (mask ∷ []) in
          let here : length masks ≡ place = omega (arith, after, within, size) in
          subst (λ p. IsSupport (length s.inputs) w (masks ++ mask ∷ []) p (mask_at (masks ++ mask ∷ []) p)) here
          (subst (IsSupport (length s.inputs) w (masks ++ mask ∷ []) (length masks)) (sym (get_or_push masks mask 0 (length masks) refl))
          (support-kept s is w wired masks mask (length masks) mask lt (omega arith) last))
    ]

-- ---- places
-- the rails of a bit
pub rail-places-at : (s : StageData) → IsStage s → (bit : ℕ) (r : Rails) → slice_get s.inputs bit ≡ Some r → (place_in (nets_of s.inputs s.cells) r.zero.0 ≡ 2 * bit) × (place_in (nets_of s.inputs s.cells) r.one.0 ≡ 2 * bit + 1)
rail-places-at s is bit r found =
    let none : Rails = record { zero = record { 0 = 0 }; one = record { 0 = 0 } } in
    let many = nets-length s in
    let lt : bit < length s.inputs = slice_get_within s.inputs bit r found in
    let at : get_or s.inputs bit none ≡ r = get_or_from_slice_get s.inputs bit r none found in
    let half : 2 * bit / 2 ≡ bit = omega arith in
    let even : 2 * bit % 2 ≡ 0 = omega arith in
    let half_one : (2 * bit + 1) / 2 ≡ bit = omega arith in
    let odd : (2 * bit + 1) % 2 ≡ 1 = omega arith in
    let zero : net_at s (2 * bit) ≡ r.zero.0 = net_at-place s (2 * bit) (omega (arith, lt)) ∙ (λ i. rail_at s (half i) (nat_eq (even i) 1)) ∙ ap (λ (x : Rails). x.zero.0) at in
    let one : net_at s (2 * bit + 1) ≡ r.one.0 = net_at-place s (2 * bit + 1) (omega (arith, lt)) ∙ (λ i. rail_at s (half_one i) (nat_eq (odd i) 1)) ∙ ap (λ (x : Rails). x.one.0) at in (
      sym (place-of s is (2 * bit) r.zero.0 (omega (arith, lt, many)) zero),
      sym (place-of s is (2 * bit + 1) r.one.0 (omega (arith, lt, many)) one),
    )

-- the output of a cell
pub cell-place-at : (s : StageData) → IsStage s → (i : ℕ) (c : StageCell) → i < length s.cells → get_or s.cells i c ≡ c → place_in (nets_of s.inputs s.cells) (out_of c) ≡ 2 * length s.inputs + i
cell-place-at s is i c lt at =
    let many = nets-length s in
    sym (place-of s is (2 * length s.inputs + i) (out_of c) (omega (arith, lt, many)) (net_at-cell s i ∙ out_at-is s i c lt ∙ ap out_of at))

-- the place of a pin is among those of its cell
pin-place-in : (s : StageData) (w : WiringData) → IsWiring s w → (i : ℕ) (c : StageCell) → i < length s.cells → get_or s.cells i c ≡ c → (pin : NetId) → Member pin c.ins.items → Contains (get_or w.pins i []) (place_in (nets_of s.inputs s.cells) pin.0)
pin-place-in s w wired i c lt at pin m =
    subst (λ places. Contains places (place_in (nets_of s.inputs s.cells) pin.0)) (sym (pins-of s w wired i c lt ∙ ap (pin_places (nets_of s.inputs s.cells)) at))
    (Contains-from_Member (place_in (nets_of s.inputs s.cells) pin.0) (Member-map (λ (net : NetId). place_in (nets_of s.inputs s.cells) net.0) pin m))

-- ---- marks of nets, by their masks
abbrev pub marks_by : StageData → WiringData → ℕ → List ℕ → Marks
marks_by s w k masks net = marked w.order k (mask_at masks (place_in (nets_of s.inputs s.cells) net))

module _ (s : StageData) (is : IsStage s) (w : WiringData) (wired : IsWiring s w) (k : ℕ) (last : k ≡ length s.inputs - 3) where
  rail-marked : (masks : List ℕ) → length masks ≡ length (nets_of s.inputs s.cells) → AreMasks (length s.inputs) w masks → (bit place : ℕ) → bit < length s.inputs → place < 2 * length s.inputs → place / 2 ≡ bit → marked w.order k (mask_at masks place) bit ≡ true
  rail-marked masks many are bit place lt rail half =
      let size = nets-length s in
      marked-at w.order k (mask_at masks place) bit (λ before.
      subst (λ b. is_set (mask_at masks place) (place_in w.order b) ≡ true) half ((are place (omega (arith, many, size, rail))).rail rail (subst (λ b. place_in w.order b + 3 < length s.inputs) (sym half) (omega (arith, before, last)))))

  pub are-supports : (masks : List ℕ) → length masks ≡ length (nets_of s.inputs s.cells) → AreMasks (length s.inputs) w masks → AreSupports s (marks_by s w k masks)
  are-supports masks many are = record {
    rails = λ bit r found.
        let lt : bit < length s.inputs = slice_get_within s.inputs bit r found in
        let places = rail-places-at s is bit r found in (
          subst (λ p. marked w.order k (mask_at masks p) bit ≡ true) (sym places.0) (rail-marked masks many are bit (2 * bit) lt (omega (arith, lt)) (omega arith)),
          subst (λ p. marked w.order k (mask_at masks p) bit ≡ true) (sym places.1) (rail-marked masks many are bit (2 * bit + 1) lt (omega (arith, lt)) (omega arith)),
        );
    cells = λ c has pin pin_has bit on.
        let (i, lt, at) = has in
        let size = nets-length s in
        let i_is : 2 * length s.inputs + i - 2 * length s.inputs ≡ i = omega arith in
        let stands = pin-place-in s w wired i c lt at pin (Member-from_Contains c.ins.items pin pin_has) in
        let part = (are (2 * length s.inputs + i) (omega (arith, many, size, lt))).cell (omega arith) (place_in (nets_of s.inputs s.cells) pin.0) (subst (λ j. Contains (get_or w.pins j []) (place_in (nets_of s.inputs s.cells) pin.0)) (sym i_is) stands) in
        subst (λ p. marked w.order k (mask_at masks p) bit ≡ true) (sym (cell-place-at s is i c lt at))
        (marked-part w.order k (mask_at masks (place_in (nets_of s.inputs s.cells) pin.0)) (mask_at masks (2 * length s.inputs + i)) part bit on);
  }

-- ---- what nets reach
module _ (s : StageData) (is : IsStage s) (w : WiringData) (wired : IsWiring s w) (masks reaches : List ℕ) (are : AreReaches 0 (length s.inputs) w masks reaches) where
  pub reads-reach : (c : StageCell) → Member c s.cells → (pin : NetId) → Member pin c.ins.items → IsPart (mask_at reaches (place_in (nets_of s.inputs s.cells) (out_of c))) (mask_at reaches (place_in (nets_of s.inputs s.cells) pin.0))
  reads-reach c m pin n =
      let (i, lt, at) = Contains-from_Member c m in
      let some : i < length w.pins = omega (arith, ap length wired.pins, length-map s.cells (pin_places w.nets), lt) in
      subst (λ p. IsPart (mask_at reaches p) (mask_at reaches (place_in (nets_of s.inputs s.cells) pin.0))) (sym (cell-place-at s is i c lt at))
      (are.cells i (omega arith) some (place_in (nets_of s.inputs s.cells) pin.0) (pin-place-in s w wired i c lt at pin n))

  pub data-reached : (r : Rails) → Member r s.outputs → IsPart (both masks (rail_places (nets_of s.inputs s.cells) r)) (mask_at reaches (place_in (nets_of s.inputs s.cells) r.zero.0)) × IsPart (both masks (rail_places (nets_of s.inputs s.cells) r)) (mask_at reaches (place_in (nets_of s.inputs s.cells) r.one.0))
  data-reached r m = All-contains (λ pair. IsPart (both masks pair) (mask_at reaches pair.0) × IsPart (both masks pair) (mask_at reaches pair.1)) w.outputs (rail_places (nets_of s.inputs s.cells) r) are.outputs
      (subst (λ pairs. Contains pairs (rail_places (nets_of s.inputs s.cells) r)) (sym (wired.outputs ∙ ap (λ xs. map (rail_places xs) s.outputs) wired.nets)) (Contains-from_Member (rail_places (nets_of s.inputs s.cells) r) (Member-map (rail_places (nets_of s.inputs s.cells)) r m)))
