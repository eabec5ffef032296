-- How many banks hold words at reset, before a bank and after it, and the numbers with which banks start.
use Rattle.ncl_machine.proofs.Terms.{Bank, Bool, IsLayoutOf, Layout, List, None, Option, PipelineData, Some, [], ap, arith, cases_lt, data_banks, false, inl, inr, is_data_bank, is_some, length, not, refl, slice_get, suc, zero, ℕ, ◌*◌, ◌+◌, ◌-◌, ◌∙◌, ◌∷◌, ◌≡◌, ◌≤◌}
use Rattle.ncl_machine.proofs.Numbers.{even, half, one_if, even-given, half-given}

-- the bank after stage k holds a word
abbrev pub holds_word : Layout → ℕ → Bool
holds_word l k = is_some (l.held k)

-- how many of the banks after the first k stages do, how many of all, and how many of those from the bank after
-- stage k on
abbrev pub held_before : Layout → ℕ → ℕ
held_before l zero = 0
held_before l (suc k) = held_before l k + one_if (holds_word l k)

abbrev pub held_in_all : Layout → ℕ
held_in_all l = held_before l l.last

abbrev pub held_from : Layout → ℕ → ℕ
held_from l k = held_in_all l - held_before l k

-- the numbers with which the source, the banks and the sink start
abbrev pub start_number : Layout → ℕ → ℕ
start_number l zero = 2 * held_in_all l
start_number l (suc k) = 2 * held_from l (suc k) + one_if (holds_word l k)

module _ {p : PipelineData} {l : Layout} (is : IsLayoutOf p l) where
  -- past the last bank nothing is held
  pub none_past : (k : ℕ) → l.last ≤ k → holds_word l k ≡ false
  none_past k past = by (l.held k) refl
    where
      by : (o : Option (List Bool)) → l.held k ≡ o → is_some (l.held k) ≡ false
      by None none = ap is_some none
      by (Some word) some = let within = (is.held_wide k word some).0 in absurd (omega (arith, past, within))

  before-grows : (k m : ℕ) → k ≤ m → held_before l k ≤ held_before l m
  before-grows k zero le = let none : k ≡ 0 = omega (arith, le) in let same = ap (held_before l) none in omega (arith, same)
  before-grows k (suc m) le =
      elim (cases_lt m k) [
        | inl most ↦ let same : k ≡ suc m = omega (arith, le, most) in let e = ap (held_before l) same in omega (arith, e)
        | inr less ↦ let e = before-grows k m less in omega (arith, e)
      ]

  before-past : (k : ℕ) → l.last ≤ k → held_before l k ≡ held_in_all l
  before-past zero past = let none : 0 ≡ l.last = omega (arith, past) in ap (held_before l) none
  before-past (suc k) past =
      elim (cases_lt k l.last) [
        | inl less ↦ let same : suc k ≡ l.last = omega (arith, past, less) in ap (held_before l) same
        | inr more ↦
            let rest : held_before l k ≡ held_in_all l = before-past k more in
            let none : one_if (holds_word l k) ≡ 0 = ap one_if (none_past k more) in
            omega (arith, rest, none)
      ]

  -- one bank fewer
  pub from-step : (k : ℕ) → held_from l k ≡ held_from l (suc k) + one_if (holds_word l k)
  from-step k =
      elim (cases_lt k l.last) [
        | inl less ↦ let most : held_before l (suc k) ≤ held_in_all l = before-grows (suc k) l.last less in omega (arith, most)
        | inr past ↦
            let here : held_before l k ≡ held_in_all l = before-past k past in
            let none : one_if (holds_word l k) ≡ 0 = ap one_if (none_past k past) in
            omega (arith, here, none)
      ]

  pub from-past : held_from l (suc l.last) ≡ 0
  from-past = let e : held_before l (suc l.last) ≡ held_in_all l = before-past (suc l.last) (omega arith) in omega (arith, e)

  pub from-falls : (k m : ℕ) → k ≤ m → held_from l m ≤ held_from l k
  from-falls k m le = let e = before-grows k m le in omega (arith, e)

  -- whether a starting number is even, and its half
  pub start-even : (k : ℕ) → even (start_number l (suc k)) ≡ not (holds_word l k)
  start-even k = even-given (held_from l (suc k)) (holds_word l k)

  pub start-half : (k : ℕ) → half (start_number l (suc k)) ≡ held_from l (suc k)
  start-half k = half-given (held_from l (suc k)) (holds_word l k)

  -- the starting number of the bank before it
  pub start-source : start_number l 0 ≡ 2 * (held_from l 1 + one_if (holds_word l 0))
  start-source =
      let step : held_from l 0 ≡ held_from l 1 + one_if (holds_word l 0) = from-step 0 in omega (arith, step)

  -- the banks of the pipeline from a place on are those of the layout
  pub count-banks : (banks : List Bank) (k : ℕ) → ((i : ℕ) (b : Bank) → slice_get banks i ≡ Some b → holds_word l (k + i) ≡ is_data_bank b)
      → held_before l (k + length banks) ≡ held_before l k + data_banks banks
  count-banks [] k each = let none : k + 0 ≡ k = omega arith in let e = ap (held_before l) none in omega (arith, e)
  count-banks (b ∷ banks) k each =
      let more : k + length (b ∷ banks) ≡ suc k + length banks = omega arith in
      let moved = ap (held_before l) more in
      let rest : held_before l (suc k + length banks) ≡ held_before l (suc k) + data_banks banks =
      count-banks banks (suc k) (λ i d at. ap (holds_word l) (let next : suc k + i ≡ k + suc i = omega arith in next) ∙ each (suc i) d at) in
      let own : one_if (holds_word l k) ≡ one_if (is_data_bank b) =
      ap one_if (ap (holds_word l) (let none : k ≡ k + 0 = omega arith in none) ∙ each 0 b refl) in
      omega (arith, moved, rest, own)

  pub held-count : held_in_all l ≡ data_banks p.banks
  held-count =
      let all : held_before l (0 + length p.banks) ≡ 0 + data_banks p.banks =
      count-banks p.banks 0 (λ i b at. ap (holds_word l) (let none : 0 + i ≡ i = omega arith in none) ∙ is.bank_held i b at) in
      let count : 0 + length p.banks ≡ l.last = let many = is.bank_count in omega (arith, many) in
      let moved = ap (held_before l) count in
      omega (arith, all, moved)
