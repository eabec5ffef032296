-- What a cover without constants folds into.
use Rattle.ncl_network.proofs.Terms.{All, All-cons, All-head, All-nil, All-tail, Bool, Dash, List, Lit, One, Signal, Zero, [], and_from, and_parts, ap, arith, beq, cond, cover_value, false, get_or, is_dash, is_one, is_zero, length, list_all, list_any, not, or_cases, or_left, or_parts, or_right, refl, row_matches, true, two_level, ℕ, ⊎_elim, ◌&&◌, ◌<◌, ◌||◌, ◌∙◌, ◌∷◌, ◌≡◌, ◌≢◌, ◌≤◌}
use Rattle.ncl_network.proofs.LiveRows.{dash_matches}

-- a row of dashes alone matches everything
idle_row : (bits : List Bool) (row : List Lit) → list_all is_dash row ≡ true → row_matches bits row ≡ true
idle_row bits [] e = refl
idle_row [] (lit ∷ row) e = refl
idle_row (bit ∷ bits) (lit ∷ row) e =
    let parts = and_parts _ _ e in
    and_from _ _ (dash_matches lit bit parts.0) (idle_row bits row parts.1)

idle_matches : (bits : List Bool) (rows : List (List Lit)) → list_any (list_all is_dash) rows ≡ true → list_any (row_matches bits) rows ≡ true
idle_matches bits [] e = absurd cc
idle_matches bits (row ∷ rows) e =
    ⊎_elim (λ here. or_left _ _ (idle_row bits row here)) (λ later. or_right _ _ (idle_matches bits rows later)) (or_cases _ _ e)

chosen : (on b : Bool) → b ≡ true → cond on b (not b) ≡ on
chosen true b e = e
chosen false b e = ap not e

-- with such a row the value is constant
pub two_level-idle : (on : Bool) (rows : List (List Lit)) (bits : List Bool) → list_any (list_all is_dash) rows ≡ true → two_level on rows bits ≡ on
two_level-idle on rows bits e = chosen on (list_any (row_matches bits) rows) (idle_matches bits rows e)

-- what rows of one literal, none of them a dash, match
one_input : (bit : Bool) (rows : List (List Lit)) → All (λ row. length row ≡ 1) rows → list_any (list_all is_dash) rows ≡ false → list_any (row_matches (bit ∷ [])) rows ≡ ((list_any (λ lits. is_one (get_or lits 0 Dash)) rows && bit) || (list_any (λ lits. is_zero (get_or lits 0 Dash)) rows && not bit))
one_input bit [] widths e = refl
one_input bit ([] ∷ rows) widths e = absurd cc
one_input bit ((lit ∷ x ∷ lits) ∷ rows) widths e =
    let wide = All-head (λ row. length row ≡ 1) (lit ∷ x ∷ lits) rows widths in
    absurd (omega (arith, wide))
one_input bit ((Dash ∷ []) ∷ rows) widths e = absurd cc
one_input true ((One ∷ []) ∷ rows) widths e = refl
one_input false ((One ∷ []) ∷ rows) widths e =
    one_input false rows (All-tail (λ row. length row ≡ 1) (One ∷ []) rows widths) e
    ∙ skip _ _
  where
    skip : (a b : Bool) → ((a && false) || b) ≡ ((true && false) || b)
    skip true b = refl
    skip false b = refl
one_input true ((Zero ∷ []) ∷ rows) widths e =
    one_input true rows (All-tail (λ row. length row ≡ 1) (Zero ∷ []) rows widths) e
    ∙ skip _ _
  where
    skip : (a b : Bool) → (a || (b && false)) ≡ (a || (true && false))
    skip true b = refl
    skip false true = refl
    skip false false = refl
one_input false ((Zero ∷ []) ∷ rows) widths e = last (list_any (λ lits. is_one (get_or lits 0 Dash)) rows)
  where
    last : (a : Bool) → true ≡ ((a && false) || true)
    last true = refl
    last false = refl

-- whether some row asks for a 1 in the first column, and for a 0
abbrev pub ones : List (List Lit) → Bool
ones rows = list_any (λ lits. is_one (get_or lits 0 Dash)) rows

abbrev pub zeros : List (List Lit) → Bool
zeros rows = list_any (λ lits. is_zero (get_or lits 0 Dash)) rows

asks_some : (rows : List (List Lit)) → 0 < length rows → All (λ row. length row ≡ 1) rows → list_any (list_all is_dash) rows ≡ false → ones rows ≡ false → zeros rows ≡ true
asks_some [] some widths e none = absurd (omega arith)
asks_some ([] ∷ rows) some widths e none = absurd cc
asks_some ((lit ∷ x ∷ lits) ∷ rows) some widths e none =
    let wide = All-head (λ row. length row ≡ 1) (lit ∷ x ∷ lits) rows widths in
    absurd (omega (arith, wide))
asks_some ((Dash ∷ []) ∷ rows) some widths e none = absurd cc
asks_some ((One ∷ []) ∷ rows) some widths e none = absurd cc
asks_some ((Zero ∷ []) ∷ rows) some widths e none = refl

-- the value by what is asked
abbrev asked_value : Bool → Bool → Bool → Bool → Bool
asked_value on has_one has_zero bit =
    cond on ((has_one && bit) || (has_zero && not bit)) (not ((has_one && bit) || (has_zero && not bit)))

by_asked : (on bit : Bool) (rows : List (List Lit)) (has_one has_zero : Bool) → All (λ row. length row ≡ 1) rows → list_any (list_all is_dash) rows ≡ false → ones rows ≡ has_one → zeros rows ≡ has_zero → two_level on rows (bit ∷ []) ≡ asked_value on has_one has_zero bit
by_asked on bit rows has_one has_zero widths e with_one with_zero =
    ap (λ m. cond on m (not m)) (one_input bit rows widths e)
    ∙ (λ i. asked_value on (with_one i) (with_zero i) bit)

-- what is so at the four pairs of values is so
at_four : (f g : Bool → Bool → Bool) → f true true ≡ g true true → f true false ≡ g true false → f false true ≡ g false true → f false false ≡ g false false → (on bit : Bool) → f on bit ≡ g on bit
at_four f g both first second none true true = both
at_four f g both first second none true false = first
at_four f g both first second none false true = second
at_four f g both first second none false false = none

pub both_asked : (on bit : Bool) (rows : List (List Lit)) → All (λ row. length row ≡ 1) rows → list_any (list_all is_dash) rows ≡ false → ones rows ≡ true → zeros rows ≡ true → two_level on rows (bit ∷ []) ≡ on
both_asked on bit rows widths e with_one with_zero =
    by_asked on bit rows true true widths e with_one with_zero
    ∙ at_four (λ on bit. asked_value on true true bit) (λ on bit. on) refl refl refl refl on bit

pub one_asked : (on bit : Bool) (rows : List (List Lit)) → All (λ row. length row ≡ 1) rows → list_any (list_all is_dash) rows ≡ false → ones rows ≡ true → zeros rows ≡ false → two_level on rows (bit ∷ []) ≡ cond (not (beq true on)) (not bit) bit
one_asked on bit rows widths e with_one no_zero =
    by_asked on bit rows true false widths e with_one no_zero
    ∙ at_four (λ on bit. asked_value on true false bit) (λ on bit. cond (not (beq true on)) (not bit) bit) refl refl refl refl on bit

pub zero_asked : (on bit : Bool) (rows : List (List Lit)) → 0 < length rows → All (λ row. length row ≡ 1) rows → list_any (list_all is_dash) rows ≡ false → ones rows ≡ false → two_level on rows (bit ∷ []) ≡ cond (not (beq false on)) (not bit) bit
zero_asked on bit rows some widths e no_one =
    by_asked on bit rows false true widths e no_one (asks_some rows some widths e no_one)
    ∙ at_four (λ on bit. asked_value on false true bit) (λ on bit. cond (not (beq false on)) (not bit) bit) refl refl refl refl on bit

-- without rows the value is constant too
pub two_level-none : (on : Bool) (rows : List (List Lit)) (bits : List Bool) → length rows ≡ 0 → two_level on rows bits ≡ not on
two_level-none true [] bits none = refl
two_level-none false [] bits none = refl
two_level-none on (row ∷ rows) bits none = absurd (omega (arith, none))

-- a list of one signal
pub alone : (signals : List Signal) (signal : Signal) → length signals ≡ 1 → signal ≡ get_or signals 0 signal → signal ∷ [] ≡ signals
alone [] signal one is = absurd (omega (arith, one))
alone (x ∷ []) signal one is = ap (λ s. s ∷ []) is
alone (x ∷ y ∷ signals) signal one is = absurd (omega (arith, one))

-- where there are rows a cover has their value
pub some_value : (on : Bool) (rows : List (List Lit)) (bits : List Bool) → 0 < length rows → cover_value on rows bits ≡ two_level on rows bits
some_value on [] bits some = absurd (omega (arith, some))
some_value on (row ∷ rows) bits some = refl

-- each row asks for something
pub none_idle : (rows : List (List Lit)) → list_any (list_all is_dash) rows ≡ false → All (λ row. list_all is_dash row ≡ false) rows
none_idle [] e = All-nil (λ row. list_all is_dash row ≡ false)
none_idle (row ∷ rows) e =
    let parts = or_parts _ _ e in
    All-cons (λ row. list_all is_dash row ≡ false) row rows parts.0 (none_idle rows parts.1)

-- rows that ask for something are of two inputs or more, where not of one
pub two_asked : (rows : List (List Lit)) (n : ℕ) → 0 < length rows → All (λ row. length row ≡ n) rows → list_any (list_all is_dash) rows ≡ false → n ≢ 1 → 2 ≤ n
two_asked [] n some widths idle not_one = absurd (omega (arith, some))
two_asked ([] ∷ rows) n some widths idle not_one = absurd cc
two_asked ((lit ∷ lits) ∷ rows) n some widths idle not_one =
    let wide = All-head (λ row. length row ≡ n) (lit ∷ lits) rows widths in
    omega (arith, wide, not_one)
