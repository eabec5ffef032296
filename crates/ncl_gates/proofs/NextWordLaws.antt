-- The word of next values of a cell: what the test of it tells.
use Rattle.ncl_gates.proofs.Terms.{CellKind, IsNextWord, [], booleans_Decides, is_next_at, is_next_word, refl, subst, sym, true, ℕ, ◌∷◌, ◌≡◌}
use Rattle.ncl_gates.proofs.DualLaws.{at_all-holds}

-- a word that passes the test of a cell has its next values
pub is_next_word-tells : (word : ℕ) (cell self : CellKind) → is_next_word cell word ≡ true → self ≡ cell → IsNextWord self word
is_next_word-tells word cell self passes is =
    subst (λ k. IsNextWord k word) (sym is) (λ a b c d old. (booleans_Decides _ _).0 (at_all-holds 5 (is_next_at cell word) passes (a ∷ b ∷ c ∷ d ∷ old ∷ []) refl))
