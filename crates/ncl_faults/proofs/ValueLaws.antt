-- The laws of the values of a stage: what is high at the rails, at the outputs of the cells and elsewhere, and
-- that no variant raises more than Base.
use Rattle.ncl_faults.proofs.Terms.{All, All-from_members, Base, Bool, Contains, Contains-from_Member, IsBelow, IsMonotone, IsStage, List, Member, Member-append_left, Member-append_right, Member-map, Nets, StageCell, StageData, Variant, among, and_from, and_parts, below_at, false, false_from_ne_true, holds, inl, inr, kept_low, length, map, named_rails, nets_of, not, out_of, rail_nets, refl, rises, rounds-below, rounds-keep, rounds-settled, rounds-support, same_from_both, set_of-grows, start, subst, true, val, ℕ, ◌≡◌, ◌⊎◌}
use Rattle.ncl_faults.proofs.Apart.{parts-differ, right-differ, same_from_value, named-within}

-- a set function holds where more is high
pub holds-grows : (v w : Nets) → IsBelow v w → (c : StageCell) → holds v c ≡ true → holds w c ≡ true
holds-grows v w below c high = set_of-grows c.kind v w c.ins.items (below_at v w below c.ins.items) high

pub rises-monotone : (low : Nets) → IsMonotone (rises low)
rises-monotone low v w below c high = let (free, set) = and_parts (not (low c.out.0)) (holds v c) high in and_from _ _ free (holds-grows v w below c set)

-- no variant raises more than Base
pub val-below_base : (s : StageData) (word : List Bool) (variant : Variant) → IsBelow (val s word variant) (val s word Base)
val-below_base s word variant =
    let low : Nets = kept_low s variant in
    rounds-below out_of (rises low) (rises (kept_low s Base))
    (λ v w below c high. and_from (not (kept_low s Base c.out.0)) _ refl (holds-grows v w below c (and_parts (not (low c.out.0)) (holds v c) high).1))
    s.cells (length s.cells) (start s low word) (start s (kept_low s Base) word)
    (λ net high. and_from _ (not (kept_low s Base net)) (and_parts (among (named_rails s.inputs word) net) _ high).0 refl)

-- what is high at the start stays high
pub val-keeps : (s : StageData) (word : List Bool) (variant : Variant) → IsBelow (start s (kept_low s variant) word) (val s word variant)
val-keeps s word variant = rounds-keep StageCell out_of (rises (kept_low s variant)) s.cells (length s.cells) (start s (kept_low s variant) word)

-- where a cell would rise, its output is high
pub val-settled : (s : StageData) (word : List Bool) (variant : Variant) (c : StageCell) → Member c s.cells → rises (kept_low s variant) (val s word variant) c ≡ true → val s word variant c.out.0 ≡ true
val-settled s word variant = rounds-settled StageCell out_of (rises (kept_low s variant)) s.cells (start s (kept_low s variant) word)

-- what is high is high at the start or is the output of a cell that rises
pub val-support : (s : StageData) (word : List Bool) (variant : Variant) (net : ℕ) → val s word variant net ≡ true → (start s (kept_low s variant) word net ≡ true) ⊎ ((c : StageCell) × Member c s.cells × (out_of c ≡ net) × (rises (kept_low s variant) (val s word variant) c ≡ true))
val-support s word variant net high =
    rounds-support StageCell out_of (rises (kept_low s variant)) s.cells (rises-monotone (kept_low s variant)) (length s.cells) (start s (kept_low s variant) word) net high

-- what is high at the start is a rail of the inputs
pub start-within : (s : StageData) (low : Nets) (word : List Bool) (net : ℕ) → start s low word net ≡ true → Member net (rail_nets s.inputs)
start-within s low word net high = named-within s.inputs word net (and_parts (among (named_rails s.inputs word) net) (not (low net)) high).0

-- an output of a cell is no rail of the inputs
pub rail-no_output : (s : StageData) → IsStage s → (net : ℕ) → Member net (rail_nets s.inputs) → (c : StageCell) → Member c s.cells → out_of c ≡ net → ⊥
rail-no_output s is net rail c m at =
    parts-differ net (map out_of s.cells) is.nets_differ rail (subst (λ x. Member x (map out_of s.cells)) at (Member-map out_of c m))

-- cells with one output are one
pub same_output : (s : StageData) → IsStage s → (c other : StageCell) → Member c s.cells → Member other s.cells → out_of c ≡ out_of other → c ≡ other
same_output s is = same_from_value out_of s.cells (right-differ (rail_nets s.inputs) (map out_of s.cells) is.nets_differ)

-- a rail is high where the word names it and the variant doesn't keep it low
pub val-rail : (s : StageData) → IsStage s → (word : List Bool) (variant : Variant) (net : ℕ) → Member net (rail_nets s.inputs) → val s word variant net ≡ start s (kept_low s variant) word net
val-rail s is word variant net rail = same_from_both _ _
    (λ high. elim (val-support s word variant net high) [
      | inl first ↦ first
      | inr (c, m, at, up) ↦ absurd (rail-no_output s is net rail c m at)
    ])
    (val-keeps s word variant net)

-- the output of a cell is high where its set function holds and the variant doesn't keep it low
pub val-output : (s : StageData) → IsStage s → (word : List Bool) (variant : Variant) (c : StageCell) → Member c s.cells → val s word variant (out_of c) ≡ rises (kept_low s variant) (val s word variant) c
val-output s is word variant c m = same_from_both _ _
    (λ high. elim (val-support s word variant (out_of c) high) [
      | inl first ↦ absurd (rail-no_output s is (out_of c) (start-within s (kept_low s variant) word (out_of c) first) c m refl)
      | inr (other, n, at, up) ↦ subst (λ x. rises (kept_low s variant) (val s word variant) x ≡ true) (same_output s is other c n m at) up
    ])
    (val-settled s word variant c m)

-- what is high is a net of the stage
pub val-within : (s : StageData) (word : List Bool) (variant : Variant) (net : ℕ) → val s word variant net ≡ true → Member net (nets_of s.inputs s.cells)
val-within s word variant net high =
    elim (val-support s word variant net high) [
      | inl first ↦ Member-append_left net (map out_of s.cells) (start-within s (kept_low s variant) word net first)
      | inr (c, m, at, up) ↦ Member-append_right (rail_nets s.inputs) net (subst (λ x. Member x (map out_of s.cells)) at (Member-map out_of c m))
    ]

-- the same, as the laws state it
pub val-rails : (s : StageData) → IsStage s → (word : List Bool) (variant : Variant) → All (λ net. val s word variant net ≡ start s (kept_low s variant) word net) (rail_nets s.inputs)
val-rails s is word variant = All-from_members (λ net. val s word variant net ≡ start s (kept_low s variant) word net) (rail_nets s.inputs) (val-rail s is word variant)

pub val-outputs : (s : StageData) → IsStage s → (word : List Bool) (variant : Variant) → All (λ c. val s word variant (out_of c) ≡ rises (kept_low s variant) (val s word variant) c) s.cells
val-outputs s is word variant = All-from_members (λ c. val s word variant (out_of c) ≡ rises (kept_low s variant) (val s word variant) c) s.cells (val-output s is word variant)

pub val-elsewhere : (s : StageData) (word : List Bool) (variant : Variant) (net : ℕ) → (Contains (nets_of s.inputs s.cells) net → ⊥) → val s word variant net ≡ false
val-elsewhere s word variant net apart = false_from_ne_true _ (λ high. apart (Contains-from_Member net (val-within s word variant net high)))
