-- The literals of a row: a row matches where all of them are 1.
use Rattle.ncl_decomp.proofs.Terms.{All, All-cons, All-head, All-nil, All-tail, AreVarying, Bool, Dash, IsSource, List, Lit, One, Signal, Zero, [], ap, arith, cond, false, is_constant, is_dash, length, list_all, literals_of, map, not, refl, row_matches, signal_value, source_value, true, turned, ℕ, ◌&&◌, ◌<◌, ◌∷◌, ◌≡◌, ◌≤◌}

inverse : (inverted bit : Bool) → cond (not inverted) (not bit) bit ≡ not (cond inverted (not bit) bit)
inverse true true = refl
inverse true false = refl
inverse false true = refl
inverse false false = refl

-- the inverse of a signal has the inverse of its bit
pub turned_value : (word bits : List Bool) (signal : Signal) → signal_value word bits (turned signal) ≡ not (signal_value word bits signal)
turned_value word bits signal = inverse signal.inverted (source_value word bits signal.from)

pub row_by_literals : (word bits : List Bool) (signals : List Signal) (row : List Lit) → list_all (signal_value word bits) (literals_of signals row) ≡ row_matches (map (signal_value word bits) signals) row
row_by_literals word bits [] [] = refl
row_by_literals word bits [] (lit ∷ row) = refl
row_by_literals word bits (s ∷ signals) [] = refl
row_by_literals word bits (s ∷ signals) (Zero ∷ row) =
    let rest = row_by_literals word bits signals row in
    λ i. turned_value word bits s i && rest i
row_by_literals word bits (s ∷ signals) (One ∷ row) = ap (λ b. signal_value word bits s && b) (row_by_literals word bits signals row)
row_by_literals word bits (s ∷ signals) (Dash ∷ row) = row_by_literals word bits signals row

-- what doesn't depend on inversion holds of literals where it does of signals
pub All-literals : (P : Signal → Type 0) → ((s : Signal) → P s → P (turned s)) → (signals : List Signal) (row : List Lit) → All P signals → All P (literals_of signals row)
All-literals P turns [] [] all = All-nil P
All-literals P turns [] (lit ∷ row) all = All-nil P
All-literals P turns (s ∷ signals) [] all = All-nil P
All-literals P turns (s ∷ signals) (Zero ∷ row) all = All-cons P (turned s) (literals_of signals row) (turns s (All-head P s signals all)) (All-literals P turns signals row (All-tail P s signals all))
All-literals P turns (s ∷ signals) (One ∷ row) all = All-cons P s (literals_of signals row) (All-head P s signals all) (All-literals P turns signals row (All-tail P s signals all))
All-literals P turns (s ∷ signals) (Dash ∷ row) all = All-literals P turns signals row (All-tail P s signals all)

pub varying_literals : (inputs count : ℕ) (signals : List Signal) (row : List Lit) → AreVarying inputs count signals → AreVarying inputs count (literals_of signals row)
varying_literals inputs count signals row varying = record {
  exist = All-literals (λ (s : Signal). IsSource inputs count s.from) (λ s there. there) signals row varying.exist;
  vary = All-literals (λ (s : Signal). is_constant s.from ≡ false) (λ s there. there) signals row varying.vary;
}

-- a row has no more literals than characters, and one where it isn't of dashes alone
pub few_literals : (signals : List Signal) (row : List Lit) → length (literals_of signals row) ≤ length row
few_literals [] [] = omega arith
few_literals [] (lit ∷ row) = omega arith
few_literals (s ∷ signals) [] = omega arith
few_literals (s ∷ signals) (Zero ∷ row) = omega (arith, few_literals signals row)
few_literals (s ∷ signals) (One ∷ row) = omega (arith, few_literals signals row)
few_literals (s ∷ signals) (Dash ∷ row) = omega (arith, few_literals signals row)

pub some_literal : (signals : List Signal) (row : List Lit) → length row ≡ length signals → list_all is_dash row ≡ false → 0 < length (literals_of signals row)
some_literal [] [] lengths idle = absurd (cc)
some_literal [] (lit ∷ row) lengths idle = absurd (omega arith)
some_literal (s ∷ signals) [] lengths idle = absurd (cc)
some_literal (s ∷ signals) (Zero ∷ row) lengths idle = omega arith
some_literal (s ∷ signals) (One ∷ row) lengths idle = omega arith
some_literal (s ∷ signals) (Dash ∷ row) lengths idle = some_literal signals row (omega arith) idle
