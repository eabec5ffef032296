-- How many banks are reset to DATA, counted along a list.
use Rattle.ncl_shape.proofs.Terms.{Bank, Bool, List, [], ap, arith, data_banks, drop, drop_more, drop_of_length-le, false, get_or, if◌then◌else◌, is_data_bank, length, sym, true, ℕ, ◌+◌, ◌<◌, ◌∙◌, ◌∷◌, ◌≡◌, ◌≤◌}

abbrev counted : Bool → ℕ
counted b = if b then 1 else 0

counted-le : (b : Bool) → counted b ≤ 1
counted-le true = omega (arith)
counted-le false = omega (arith)

pub data_banks-le : (banks : List Bank) → data_banks banks ≤ length banks
data_banks-le [] = omega (arith)
data_banks-le (b ∷ banks) = let rest = data_banks-le banks in let one = counted-le (is_data_bank b) in omega (arith, rest, one)

module _ (banks : List Bank) (k : ℕ) (b : Bank) (lt : k < length banks) (read : b ≡ get_or banks k b) where
  data_banks-drop : data_banks (drop k banks) ≡ data_banks (drop (k + 1) banks) + counted (is_data_bank b)
  data_banks-drop = ap data_banks (drop_more banks k b lt ∙ ap (λ (x : Bank). x ∷ drop (k + 1) banks) (sym read))

  pub data_banks-more : is_data_bank b ≡ true → data_banks (drop k banks) ≡ data_banks (drop (k + 1) banks) + 1
  data_banks-more held = data_banks-drop ∙ ap (λ (x : Bool). data_banks (drop (k + 1) banks) + counted x) held

  pub data_banks-same : is_data_bank b ≡ false → data_banks (drop k banks) ≡ data_banks (drop (k + 1) banks)
  data_banks-same none = let step = data_banks-drop ∙ ap (λ (x : Bool). data_banks (drop (k + 1) banks) + counted x) none in omega (arith, step)

pub data_banks-past : (banks : List Bank) (k : ℕ) → length banks ≤ k → data_banks (drop k banks) ≡ 0
data_banks-past banks k past = ap data_banks (drop_of_length-le banks past)
