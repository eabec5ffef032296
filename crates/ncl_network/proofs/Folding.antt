-- A cover folds into its live rows at the columns that matter.
use Rattle.ncl_network.proofs.Terms.{All, All-head, All-map, All-tail, All-weaker, Bool, Const, Dash, List, Lit, Signal, [], and_cases, and_parts, ap, arith, cond, cover_value, enumerate_from, false, get_or, get_or-map, get_or_default, is_asked, is_constant, is_dash, is_live, kept_columns, length, length-enumerate_from, length-map, list_any, lit_matches, map, not, not-false, not-true, refl, row_matches, select, signal_value, subst, sym, true, two_level, weight_of_rows, zero-add, ℕ, ⊎_elim, ◌&&◌, ◌+◌, ◌<◌, ◌||◌, ◌∙◌, ◌∷◌, ◌≡◌, ◌≤◌}
use Rattle.ncl_network.proofs.Selecting.{get_or-test, select-map, length-select, length-select-le, All-select, All-select-test, sum_by-select-le}
use Rattle.ncl_network.proofs.LiveRows.{constant_value, live_matches, live_are_live, not_asked, live_here, dash_matches, row_matches-select}

abbrev pub live_of : List Signal → List (List Lit) → List Bool
live_of signals rows = map (is_live signals) rows

abbrev pub kept_of : List Signal → List (List Lit) → List Bool
kept_of signals rows = kept_columns signals rows (live_of signals rows)

pub length-kept : (signals : List Signal) (rows : List (List Lit)) (live : List Bool) → length (kept_columns signals rows live) ≡ length signals
length-kept signals rows live =
    length-map (enumerate_from 0 signals) (λ pair. not (is_constant pair.1.from) && is_asked rows live pair.0)
    ∙ length-enumerate_from 0 signals

-- the signals that are kept are no constants
pub kept_no_constant : (signals : List Signal) (rows : List (List Lit)) (live : List Bool) → All (λ signal. is_constant signal.from ≡ false) (select (kept_columns signals rows live) signals)
kept_no_constant signals rows live =
    All-select-test (λ signal. is_constant signal.from ≡ false) (λ pair. not (is_constant pair.1.from) && is_asked rows live pair.0) (λ pair e. not-true _ (and_parts _ _ e).0) 0 signals

-- the rows that are kept are as wide as the signals that are kept
pub kept_widths : (mask live : List Bool) (signals : List Signal) (rows : List (List Lit)) → All (λ row. length row ≡ length signals) rows → All (λ row. length row ≡ length (select mask signals)) (map (select mask) (select live rows))
kept_widths mask live signals rows widths =
    All-map (λ row. length row ≡ length (select mask signals)) (select mask) (select live rows) (All-weaker (λ row. length row ≡ length signals) (λ row. length (select mask row) ≡ length (select mask signals)) (λ row wide. length-select mask row signals wide) (select live rows) (All-select (λ row. length row ≡ length signals) live rows widths))

-- no more weighs what is left of rows
pub kept_weight : (mask live : List Bool) (rows : List (List Lit)) → weight_of_rows (map (select mask) (select live rows)) ≤ weight_of_rows rows
kept_weight mask live rows =
    sum_by-select-le (λ row. 1 + length row) (λ row. 1 + length row) (select mask) (λ row. let less = length-select-le mask row in omega arith) live rows

agree : {X Y : Type 0} (p : X → Bool) (q : Y → Bool) (h : X → Y) (xs : List X) → All (λ x. p x ≡ q (h x)) xs → list_any p xs ≡ list_any q (map h xs)
agree p q h [] same = refl
agree p q h (x ∷ xs) same =
    let first = All-head (λ x. p x ≡ q (h x)) x xs same in
    let rest = agree p q h xs (All-tail (λ x. p x ≡ q (h x)) x xs same) in
    λ i. first i || rest i

module _ (word nodes : List Bool) (signals : List Signal) (rows : List (List Lit)) (widths : All (λ row. length row ≡ length signals) rows) where
  -- a column that isn't kept lets the bits of the signals through at each live row
  through : (row : List Lit) (column : ℕ) (signal : Signal) → is_live signals row ≡ true → (is_asked rows (live_of signals rows) column ≡ false → is_dash (get_or row column Dash) ≡ true) → column < length row → column < length signals → get_or signals column signal ≡ signal → get_or (kept_of signals rows) column false ≡ false → lit_matches (get_or row column Dash) (signal_value word nodes signal) ≡ true
  through row column signal live idle in_row in_signals is out =
      let test : ℕ × Signal → Bool = λ pair. not (is_constant pair.1.from) && is_asked rows (live_of signals rows) pair.0 in
      let at : (not (is_constant signal.from) && is_asked rows (live_of signals rows) column) ≡ false =
      ap (λ n. test (n, signal)) (sym (zero-add column)) ∙ sym (get_or-test test 0 signals column signal in_signals is) ∙ out in
      ⊎_elim
      (λ fixed.
      let constant = not-false _ fixed in
      ap (lit_matches (get_or row column Dash)) (constant_value word nodes signal constant)
      ∙ live_here signals row column signal live in_row in_signals is constant)
      (λ unasked. dash_matches _ _ (idle unasked))
      (and_cases _ _ at)

  same_row : (k : ℕ) (d : List Lit) → k < length (select (live_of signals rows) rows) → row_matches (map (signal_value word nodes) signals) (get_or (select (live_of signals rows) rows) k d) ≡ row_matches (select (kept_of signals rows) (map (signal_value word nodes) signals)) (select (kept_of signals rows) (get_or (select (live_of signals rows) rows) k d))
  same_row k d within =
      let live : List Bool = live_of signals rows in
      let row : List Lit = get_or (select live rows) k d in
      let bits : List Bool = map (signal_value word nodes) signals in
      let none : Signal = record { from = Const false; inverted = false } in
      let bit_count = length-map signals (signal_value word nodes) in
      let wide : length row ≡ length signals = All-select (λ row. length row ≡ length signals) live rows widths k d within in
      row_matches-select (kept_of signals rows) bits row (length-kept signals rows live ∙ sym bit_count) (wide ∙ sym bit_count)
      (λ column in_row out.
      let in_signals : column < length signals = omega arith in
      let signal : Signal = get_or signals column none in
      let is : get_or signals column signal ≡ signal = get_or_default signals column signal none in_signals in
      subst (λ bit. lit_matches (get_or row column Dash) bit ≡ true) (sym (get_or-map (signal_value word nodes) signals column none false in_signals))
      (through row column signal (live_are_live signals rows k d within) (λ unasked. not_asked live rows column unasked k d within) in_row in_signals is out))

  pub folded_rows : (on : Bool) → 0 < length rows → two_level on (map (select (kept_of signals rows)) (select (live_of signals rows) rows)) (map (signal_value word nodes) (select (kept_of signals rows) signals)) ≡ cover_value on rows (map (signal_value word nodes) signals)
  folded_rows on some =
      let live : List Bool = live_of signals rows in
      let kept : List Bool = kept_of signals rows in
      let bits : List Bool = map (signal_value word nodes) signals in
      let by_live = live_matches word nodes signals rows in
      let by_kept = agree (row_matches bits) (row_matches (select kept bits)) (select kept) (select live rows) same_row in
      let same : list_any (row_matches bits) rows ≡ list_any (row_matches (map (signal_value word nodes) (select kept signals))) (map (select kept) (select live rows)) =
      by_live ∙ by_kept ∙ ap (λ b. list_any (row_matches b) (map (select kept) (select live rows))) (select-map (signal_value word nodes) kept signals) in
      ap (λ m. cond on m (not m)) (sym same) ∙ whole on rows bits some
    where
      whole : (on : Bool) (rows : List (List Lit)) (bits : List Bool) → 0 < length rows → cond on (list_any (row_matches bits) rows) (not (list_any (row_matches bits) rows)) ≡ cover_value on rows bits
      whole on [] bits some = absurd (omega arith)
      whole on (row ∷ rows) bits some = refl
