-- The values of a stage do not depend on the order in which its cells are listed.
use Rattle.ncl_faults.proofs.Terms.{◌&&◌, Base, Bit, Bool, Cell, IsPermutation, List, Nets, StageCell, StageData, Variant, ap, fun_ext, kept_low, length, length_permutation, list_any-IsPermutation, nat_eq, out_of, output_net, refl, rises, round, rounds, slice_get, start, suc, sym, val, zero, ℕ, ◌||◌, ◌∙◌, ◌≡◌}

-- as many rounds over the same cells in another order
rounds-permuted : {C : Type 0} (out : C → ℕ) (raises : Nets → C → Bool) (xs ys : List C) → IsPermutation xs ys → (n : ℕ) (v : Nets) → rounds out raises xs n v ≡ rounds out raises ys n v
rounds-permuted out raises xs ys moved zero v = refl
rounds-permuted out raises xs ys moved (suc n) v =
    ap (round out raises xs) (rounds-permuted out raises xs ys moved n v)
    ∙ fun_ext (λ net. ap (λ b. rounds out raises ys n v net || b) (list_any-IsPermutation (λ cell. nat_eq (out cell) net && raises (rounds out raises ys n v) cell) xs ys moved))

-- the stage with other cells
abbrev pub with_cells : StageData → List StageCell → StageData
with_cells s cells = record s { cells = cells }

-- variants of two stages that keep the same low: those of cells are of places at which one cell stands
pub data IsSameVariant (s t : StageData) : Variant → Variant → Type 0 where
  base : IsSameVariant s t Base Base
  bit : (b : ℕ) → IsSameVariant s t (Bit b) (Bit b)
  cell : (i j : ℕ) → slice_get s.cells i ≡ slice_get t.cells j → IsSameVariant s t (Cell i) (Cell j)

module _ (s : StageData) (ys : List StageCell) (moved : IsPermutation s.cells ys) where
  abbrev t : StageData
  t = with_cells s ys

  same_low : (x y : Variant) → IsSameVariant s t x y → kept_low s x ≡ kept_low t y
  same_low x y base = refl
  same_low x y (bit b) = refl
  same_low x y (cell i j same) = ap output_net same

  pub same_values : (x y : Variant) → IsSameVariant s t x y → (word : List Bool) → val s word x ≡ val t word y
  same_values x y same word =
      rounds-permuted out_of (rises (kept_low s x)) s.cells ys moved (length s.cells) (start s (kept_low s x) word)
      ∙ ap (λ n. rounds out_of (rises (kept_low s x)) ys n (start s (kept_low s x) word)) (sym (length_permutation s.cells ys moved))
      ∙ ap (λ low. rounds out_of (rises low) ys (length ys) (start s low word)) (same_low x y same)
