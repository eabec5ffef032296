-- The words under way: those that banks hold at reset, the last bank's first, and then those offered. Each has its value
-- at each bank from where it starts.
use Rattle.ncl_insensitivity.proofs.Terms.{AreWordsOf, Base, Bool, IsLayoutOf, Layout, List, None, Option, PipelineData, Rails, Some, [], ap, arith, eq-eqb, false, from-past, get_or, get_or_from_slice_get, held_from, held_in_all, holds_word, if◌then◌else◌, is_some, length, length-map, nat_eq, ne_eqb, none_past, one_if, refl, stage_function, start_number, suc, sym, true, val, width, zero, ℕ, ◌*◌, ◌+◌, ◌-◌, ◌∙◌, ◌∷◌, ◌≡◌, ◌≤◌}
use Rattle.ncl_insensitivity.proofs.Invariant.{AreWavesOf, Waves}

-- some word of a width, for the waves past the last word
abbrev pub zeros : ℕ → List Bool
zeros zero = []
zeros (suc n) = false ∷ zeros n

-- the word that a bank holds, where it is this one, and else what the stage before it makes
abbrev pub word_or : Option (List Bool) → Bool → List Bool → List Bool
word_or None own made = made
word_or (Some word) own made = if own then word else made

-- word i at each bank
abbrev pub word_under : Layout → List (List Bool) → ℕ → ℕ → List Bool
word_under l offered i zero = get_or offered (i - held_in_all l) (zeros (width l 0))
word_under l offered i (suc k) = word_or (l.held k) (nat_eq (held_from l (suc k)) i) (stage_function (l.stage k) (word_under l offered i k))

abbrev pub waves_of : Layout → List (List Bool) → Waves
waves_of l offered = record { held = held_in_all l; start = start_number l; word = word_under l offered }

zeros-wide : (n : ℕ) → length (zeros n) ≡ n
zeros-wide zero = refl
zeros-wide (suc n) = let e = zeros-wide n in omega (arith, e)

module _ {p : PipelineData} {l : Layout} (is : IsLayoutOf p l) where
  -- each has the width of the inputs
  all-wide : (offered : List (List Bool)) → AreWordsOf p offered → (i : ℕ) → length (get_or offered i (zeros (width l 0))) ≡ width l 0
  all-wide [] all i = zeros-wide (width l 0)
  all-wide (word ∷ offered) all zero = all.0 ∙ ap length (sym is.source)
  all-wide (word ∷ offered) all (suc i) = all-wide offered all.1 i

  -- and of each bank
  pub under-wide : (offered : List (List Bool)) → AreWordsOf p offered → (i k : ℕ) → k ≤ l.last → length (word_under l offered i k) ≡ width l k
  under-wide offered words i zero le = all-wide offered words (i - held_in_all l)
  under-wide offered words i (suc k) le = by (l.held k) refl (nat_eq (held_from l (suc k)) i)
    where
      made : length (stage_function (l.stage k) (word_under l offered i k)) ≡ width l (suc k)
      made = length-map (l.stage k).outputs (λ (r : Rails). val (l.stage k) (word_under l offered i k) Base r.one.0) ∙ is.joined k le

      by : (o : Option (List Bool)) → l.held k ≡ o → (own : Bool) → length (word_or o own (stage_function (l.stage k) (word_under l offered i k))) ≡ width l (suc k)
      by None e own = made
      by (Some word) e true = (is.held_wide k word e).1
      by (Some word) e false = made

  -- a stage makes the word of the next bank, from the bank on where the word starts
  pub under-law : (offered : List (List Bool)) (i k : ℕ) → start_number l (suc k) ≤ 2 * i → word_under l offered i (suc k) ≡ stage_function (l.stage k) (word_under l offered i k)
  under-law offered i k begun = by (l.held k) refl
    where
      made : List Bool
      made = stage_function (l.stage k) (word_under l offered i k)

      by : (o : Option (List Bool)) → l.held k ≡ o → word_or o (nat_eq (held_from l (suc k)) i) (stage_function (l.stage k) (word_under l offered i k)) ≡ stage_function (l.stage k) (word_under l offered i k)
      by None e = refl
      by (Some word) e =
          let one : one_if (holds_word l k) ≡ 1 = ap (λ o. one_if (is_some o)) e in
          ap (λ own. if own then word else stage_function (l.stage k) (word_under l offered i k))
          (ne_eqb (held_from l (suc k)) i (λ same. let late : start_number l (suc k) ≤ 2 * i = begun in absurd (omega (arith, late, one, same))))

  -- where a bank starts with its own word
  pub under-own : (offered : List (List Bool)) (k : ℕ) (word : List Bool) → l.held k ≡ Some word → word_under l offered (held_from l (suc k)) (suc k) ≡ word
  under-own offered k word e =
      ap (λ o. word_or o (nat_eq (held_from l (suc k)) (held_from l (suc k))) (stage_function (l.stage k) (word_under l offered (held_from l (suc k)) k))) e
      ∙ ap (λ own. if own then word else stage_function (l.stage k) (word_under l offered (held_from l (suc k)) k)) (eq-eqb (held_from l (suc k)) (held_from l (suc k)) refl)

  -- they are waves as the invariant asks for
  pub waves-are : (offered : List (List Bool)) → AreWordsOf p offered → AreWavesOf l offered (waves_of l offered)
  waves-are offered words = record {
    wide = λ i k le. under-wide offered words i k le;
    law = λ i k le begun. under-law offered i k begun;
    source = λ i word at.
        ap (λ j. get_or offered j (zeros (width l 0))) (let plain : held_in_all l + i - held_in_all l ≡ i = omega arith in plain) ∙ get_or_from_slice_get offered i word (zeros (width l 0)) at;
    first = refl;
    last = let none : one_if (holds_word l l.last) ≡ 0 = ap one_if (none_past is l.last (omega arith)) in let past = from-past is in omega (arith, none, past);
  }
