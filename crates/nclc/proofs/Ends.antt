-- A status that is given either way, as a code, is the status of how the call ended.
use Rattle.std.proofs.Common.{◌≡◌, ℕ, ◌⊎◌, Result, Ok, Err, IfOk, IfErr, OnErr, MatchResult, sym, ◌∙◌, subst, inl, inr}

-- the code of a status that was answered, or of 7
pub ended : (P : ℕ → Type 0) (U : Type 0) (r : Result ℕ ℕ) (code : ℕ) → MatchResult r (λ s. code ≡ s) (λ s. code ≡ s) → IfErr r (λ s. s ≡ 7) → OnErr r U → IfOk r P → P code ⊎ ((code ≡ 7) × U)
ended P U (Ok s) code is seven untouched p = inl (subst P (sym is) p)
ended P U (Err s) code is seven untouched p = inr (is ∙ seven, untouched)

-- and of one for which there was no memory
pub ended_without : (U : Type 0) (r : Result ℕ ℕ) (code : ℕ) → MatchResult r (λ s. code ≡ s) (λ s. code ≡ s) → OnErr r U → r ≡ Err 7 → (code ≡ 7) × U
ended_without U (Ok s) code is untouched e = absurd cc
ended_without U (Err s) code is untouched e = let same : s ≡ 7 = cc in (is ∙ same, untouched)
