-- The bits of a mask, added to those at some places.
use Rattle.ncl_verdict.proofs.Terms.{All, All-contains, AreReaches, Contains, Covers, IsPart, List, WiringData, [], arith, bit_or, both, cases_eq, cases_lt, get_or, get_or-set_other, get_or-set_same, get_or_default, inl, inr, length, length-set, mask_at, min, set, subst, sym, ℕ, ◌*◌, ◌+◌, ◌-◌, ◌<◌, ◌^◌, ◌∙◌, ◌≡◌, ◌≢◌, ◌≤◌}
use Rattle.ncl_verdict.proofs.MaskLaws.{part-along, part-left, part-right}

-- ---- at one place
abbrev pub with_mask : List ℕ → ℕ → ℕ → List ℕ
with_mask masks place mask = set masks place (bit_or (mask_at masks place) mask)

pub with-same : (masks : List ℕ) (place mask : ℕ) → place < length masks → mask_at (with_mask masks place mask) place ≡ bit_or (mask_at masks place) mask
with-same masks place mask lt = get_or-set_same masks place (bit_or (mask_at masks place) mask) 0 lt

pub with-other : (masks : List ℕ) (place mask other : ℕ) → other ≢ place → mask_at (with_mask masks place mask) other ≡ mask_at masks other
with-other masks place mask other apart = get_or-set_other masks place other (bit_or (mask_at masks place) mask) 0 apart

pub with-grown : (masks : List ℕ) (place mask : ℕ) → place < length masks → (other : ℕ) → IsPart (mask_at masks other) (mask_at (with_mask masks place mask) other)
with-grown masks place mask lt other =
    elim (cases_eq other place) [
      | inl same ↦ subst (λ p. IsPart (mask_at masks p) (mask_at (with_mask masks place mask) p)) (sym same) (subst (IsPart (mask_at masks place)) (sym (with-same masks place mask lt)) (part-left (mask_at masks place) mask))
      | inr apart ↦ subst (IsPart (mask_at masks other)) (sym (with-other masks place mask other apart)) (λ p on. on)
    ]

pub with-has : (masks : List ℕ) (place mask : ℕ) → place < length masks → IsPart mask (mask_at (with_mask masks place mask) place)
with-has masks place mask lt = subst (IsPart mask) (sym (with-same masks place mask lt)) (part-right (mask_at masks place) mask)

-- at two
abbrev pub with_both : List ℕ → ℕ × ℕ → ℕ → List ℕ
with_both masks pair mask = with_mask (with_mask masks pair.0 mask) pair.1 mask

long-with : (masks : List ℕ) (place mask : ℕ) → length (with_mask masks place mask) ≡ length masks
long-with masks place mask = length-set masks place (bit_or (mask_at masks place) mask)

pub both-long : (masks : List ℕ) (pair : ℕ × ℕ) (mask : ℕ) → length (with_both masks pair mask) ≡ length masks
both-long masks pair mask = long-with (with_mask masks pair.0 mask) pair.1 mask ∙ long-with masks pair.0 mask

pub both-grown : (masks : List ℕ) (pair : ℕ × ℕ) (mask : ℕ) → pair.0 < length masks → pair.1 < length masks → (other : ℕ) → IsPart (mask_at masks other) (mask_at (with_both masks pair mask) other)
both-grown masks pair mask first second other =
    let mid : List ℕ = with_mask masks pair.0 mask in
    let within : pair.1 < length mid = subst (λ n. pair.1 < n) (sym (long-with masks pair.0 mask)) second in
    part-along (mask_at masks other) (mask_at mid other) (mask_at (with_mask mid pair.1 mask) other) (with-grown masks pair.0 mask first other) (with-grown mid pair.1 mask within other)

pub both-have : (masks : List ℕ) (pair : ℕ × ℕ) (mask : ℕ) → pair.0 < length masks → pair.1 < length masks → IsPart mask (mask_at (with_both masks pair mask) pair.0) × IsPart mask (mask_at (with_both masks pair mask) pair.1)
both-have masks pair mask first second =
    let mid : List ℕ = with_mask masks pair.0 mask in
    let within : pair.1 < length mid = subst (λ n. pair.1 < n) (sym (long-with masks pair.0 mask)) second in (
      part-along mask (mask_at mid pair.0) (mask_at (with_mask mid pair.1 mask) pair.0) (with-has masks pair.0 mask first) (with-grown mid pair.1 mask within pair.0),
      with-has mid pair.1 mask within,
    )

-- both rails of an output have what both depend on
abbrev pub IsShown : List ℕ → List ℕ → ℕ × ℕ → Type 0
IsShown masks reaches pair = IsPart (both masks pair) (mask_at reaches pair.0) × IsPart (both masks pair) (mask_at reaches pair.1)

pub shown-kept : (masks old new : List ℕ) (pair : ℕ × ℕ) → ((place : ℕ) → IsPart (mask_at old place) (mask_at new place)) → IsShown masks old pair → IsShown masks new pair
shown-kept masks old new pair grown shown = (
  part-along (both masks pair) (mask_at old pair.0) (mask_at new pair.0) shown.0 (grown pair.0),
  part-along (both masks pair) (mask_at old pair.1) (mask_at new pair.1) shown.1 (grown pair.1),
)

-- what holds up to a place that is read by one default holds by all
pub all-by-places : {X : Type 0} (P : X → Type 0) (xs : List X) (d : X) → ((k : ℕ) → k < length xs → P (get_or xs k d)) → All P xs
all-by-places P xs d each k e lt = subst P (get_or_default xs k d e lt) (each k lt)

-- ---- the cells, the last first
pub reaches-next : (bits : ℕ) (w : WiringData) (masks old new : List ℕ) (left : ℕ) → AreReaches (left + 1) bits w masks old → ((place : ℕ) → IsPart (mask_at old place) (mask_at new place)) → All (λ place. IsPart (mask_at old (2 * bits + left)) (mask_at new place)) (get_or w.pins left []) → ((place : ℕ) → 2 * bits + left ≤ place → mask_at new place ≡ mask_at old place) → AreReaches left bits w masks new
reaches-next bits w masks old new left are grown added others = record {
  own = λ place. part-along (mask_at masks place) (mask_at old place) (mask_at new place) (are.own place) (grown place);
  outputs = λ k d lt.
      let pair = get_or w.outputs k d in
      let before = are.outputs k d lt in
      (part-along (both masks pair) (mask_at old pair.0) (mask_at new pair.0) before.0 (grown pair.0), part-along (both masks pair) (mask_at old pair.1) (mask_at new pair.1) before.1 (grown pair.1));
  cells = λ cell from lt pin has.
      subst (λ m. IsPart m (mask_at new pin)) (sym (others (2 * bits + cell) (omega (arith, from))))
      (elim (cases_lt left cell) [
        | inl after ↦ part-along (mask_at old (2 * bits + cell)) (mask_at old pin) (mask_at new pin) (are.cells cell (omega (arith, after)) lt pin has) (grown pin)
        | inr upto ↦
            let here : left ≡ cell = omega (arith, from, upto) in
            subst (λ c. IsPart (mask_at old (2 * bits + c)) (mask_at new pin)) here
            (All-contains (λ place. IsPart (mask_at old (2 * bits + left)) (mask_at new place)) (get_or w.pins left []) pin added (subst (λ c. Contains (get_or w.pins c []) pin) (sym here) has))
      ]);
}

-- ---- sums that stop at the greatest number
pub covers-more : (a b sum part new : ℕ) → Covers a sum → Covers b part → new ≡ min (sum + part) (2 ^ 64 - 1) → Covers (a + b) new
covers-more a b sum part new first second is below =
    let one : sum < 2 ^ 64 - 1 = omega (arith, is, below) in
    let two : part < 2 ^ 64 - 1 = omega (arith, is, below) in
    let le_one = first one in
    let le_two = second two in
    omega (arith, is, below, le_one, le_two)

pub covers-larger : (a old new : ℕ) → Covers a old → old ≤ new → Covers a new
covers-larger a old new covers le below = let lt : old < 2 ^ 64 - 1 = omega (arith, le, below) in let within = covers lt in omega (arith, within, le)
