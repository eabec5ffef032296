-- Why dead rows and columns that don't matter may go.
use Rattle.ncl_network.proofs.Terms.{All, All-cons, All-nil, Bool, Const, Dash, FromNode, Input, List, Lit, One, Signal, SignalSource, Zero, [], and_cases, and_left, and_parts, and_right, ap, arith, cond, false, get_or, is_asked, is_constant, is_dash, is_live, length, list_any, lit_matches, map, not, not-false, not-true, or_parts, refl, row_matches, select, signal_value, source_value, subst, suc, sym, true, true≢false, zero, ℕ, ⊎_elim, ◌&&◌, ◌<◌, ◌||◌, ◌∙◌, ◌∷◌, ◌≡◌}

-- a constant is the same wherever it is read
constant_source : (word nodes : List Bool) (from : SignalSource) → is_constant from ≡ true → source_value word nodes from ≡ source_value [] [] from
constant_source word nodes (Input i) e = absurd cc
constant_source word nodes (FromNode k) e = absurd cc
constant_source word nodes (Const bit) e = refl

pub constant_value : (word nodes : List Bool) (signal : Signal) → is_constant signal.from ≡ true → signal_value word nodes signal ≡ signal_value [] [] signal
constant_value word nodes signal e =
    ap (λ bit. cond signal.inverted (not bit) bit) (constant_source word nodes signal.from e)

-- a row that a constant contradicts matches nothing
pub dead_row : (word nodes : List Bool) (signals : List Signal) (row : List Lit) → is_live signals row ≡ false → row_matches (map (signal_value word nodes) signals) row ≡ false
dead_row word nodes signals [] e = absurd cc
dead_row word nodes [] (lit ∷ row) e = absurd cc
dead_row word nodes (signal ∷ signals) (lit ∷ row) e =
    ⊎_elim
    (λ clash.
    let parts = and_parts _ _ (not-false _ clash) in
    let refused : lit_matches lit (signal_value word nodes signal) ≡ false =
    ap (lit_matches lit) (constant_value word nodes signal parts.0) ∙ not-true _ parts.1 in
    and_left _ _ refused)
    (λ rest. and_right _ _ (dead_row word nodes signals row rest))
    (and_cases _ _ e)

-- so the live rows match what all rows match
pub live_matches : (word nodes : List Bool) (signals : List Signal) (rows : List (List Lit)) → list_any (row_matches (map (signal_value word nodes) signals)) rows ≡ list_any (row_matches (map (signal_value word nodes) signals)) (select (map (is_live signals) rows) rows)
live_matches word nodes signals [] = refl
live_matches word nodes signals (row ∷ rows) =
    let bits : List Bool = map (signal_value word nodes) signals in
    elim (is_live signals row) as (λ b. (is_live signals row ≡ b) → (row_matches bits row || list_any (row_matches bits) rows) ≡ list_any (row_matches bits) (cond b (row ∷ select (map (is_live signals) rows) rows) (select (map (is_live signals) rows) rows))) [
      | true ↦ λ e. ap (λ b. row_matches bits row || b) (live_matches word nodes signals rows)
      | false ↦ λ e. ap (λ b. b || list_any (row_matches bits) rows) (dead_row word nodes signals row e) ∙ live_matches word nodes signals rows
    ] refl

pub live_are_live : (signals : List Signal) (rows : List (List Lit)) → All (λ row. is_live signals row ≡ true) (select (map (is_live signals) rows) rows)
live_are_live signals [] = All-nil (λ row. is_live signals row ≡ true)
live_are_live signals (row ∷ rows) =
    elim (is_live signals row) as (λ b. (is_live signals row ≡ b) → All (λ row. is_live signals row ≡ true) (cond b (row ∷ select (map (is_live signals) rows) rows) (select (map (is_live signals) rows) rows))) [
      | true ↦ λ e. All-cons (λ row. is_live signals row ≡ true) row (select (map (is_live signals) rows) rows) e (live_are_live signals rows)
      | false ↦ λ e. live_are_live signals rows
    ] refl

-- in a column that no live row asks, each live row has a dash
pub not_asked : (live : List Bool) (rows : List (List Lit)) (column : ℕ) → is_asked rows live column ≡ false → All (λ row. is_dash (get_or row column Dash) ≡ true) (select live rows)
not_asked [] rows column e = All-nil (λ row. is_dash (get_or row column Dash) ≡ true)
not_asked (b ∷ live) [] column e = All-nil (λ row. is_dash (get_or row column Dash) ≡ true)
not_asked (true ∷ live) (row ∷ rows) column e =
    let parts = or_parts _ _ e in
    All-cons (λ row. is_dash (get_or row column Dash) ≡ true) row (select live rows) (not-false _ parts.0) (not_asked live rows column parts.1)
not_asked (false ∷ live) (row ∷ rows) column e = not_asked live rows column e

-- a live row lets a constant through
pub live_here : (signals : List Signal) (row : List Lit) (k : ℕ) (signal : Signal) → is_live signals row ≡ true → k < length row → k < length signals → get_or signals k signal ≡ signal → is_constant signal.from ≡ true → lit_matches (get_or row k Dash) (signal_value [] [] signal) ≡ true
live_here signals [] k signal e in_row in_signals is constant = absurd (omega arith)
live_here [] (lit ∷ row) k signal e in_row in_signals is constant = absurd (omega arith)
live_here (s ∷ signals) (lit ∷ row) zero signal e in_row in_signals is constant =
    let parts = and_parts _ _ e in
    let none : (is_constant s.from && not (lit_matches lit (signal_value [] [] s))) ≡ false = not-true _ parts.0 in
    let at : (is_constant signal.from && not (lit_matches lit (signal_value [] [] signal))) ≡ false = subst (λ z. (is_constant z.from && not (lit_matches lit (signal_value [] [] z))) ≡ false) is none in
    ⊎_elim (λ not_constant. absurd (true≢false (sym constant ∙ not_constant))) (λ through. not-false _ through) (and_cases _ _ at)
live_here (s ∷ signals) (lit ∷ row) (suc k) signal e in_row in_signals is constant =
    live_here signals row k signal (and_parts _ _ e).1 (omega arith) (omega arith) is constant

pub dash_matches : (lit : Lit) (bit : Bool) → is_dash lit ≡ true → lit_matches lit bit ≡ true
dash_matches Zero bit e = absurd cc
dash_matches One bit e = absurd cc
dash_matches Dash bit e = refl

-- a row matches as before without columns that let the bits through
pub row_matches-select : (mask bits : List Bool) (row : List Lit) → length mask ≡ length bits → length row ≡ length bits → ((k : ℕ) → k < length row → get_or mask k false ≡ false → lit_matches (get_or row k Dash) (get_or bits k false) ≡ true) → row_matches bits row ≡ row_matches (select mask bits) (select mask row)
row_matches-select [] [] [] masked wide left = refl
row_matches-select [] [] (lit ∷ row) masked wide left = absurd (omega arith)
row_matches-select [] (bit ∷ bits) row masked wide left = absurd (omega arith)
row_matches-select (kept ∷ mask) [] row masked wide left = absurd (omega arith)
row_matches-select (kept ∷ mask) (bit ∷ bits) [] masked wide left = absurd (omega arith)
row_matches-select (true ∷ mask) (bit ∷ bits) (lit ∷ row) masked wide left =
    ap (λ b. lit_matches lit bit && b) (row_matches-select mask bits row (omega arith) (omega arith) (λ k within. left (suc k) (omega arith)))
row_matches-select (false ∷ mask) (bit ∷ bits) (lit ∷ row) masked wide left =
    ap (λ b. b && row_matches bits row) (left zero (omega arith) refl)
    ∙ row_matches-select mask bits row (omega arith) (omega arith) (λ k within. left (suc k) (omega arith))
