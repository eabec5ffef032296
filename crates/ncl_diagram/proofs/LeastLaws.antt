-- The least word of a function, from its nodes.
use Rattle.ncl_diagram.proofs.Terms.{Bool, IsCanonical, List, Node, None, Option, Some, [], ap, append-nil, append_assoc, arith, at, at-high, at-low, at_table, branch, constant_place, constant_table, false, find, find-same, find-words, if◌then◌else◌, inl, inr, is_value, least, length, length-append, level_of, not, option_map, option_or, option_or-none, refl, suc, sym, table_from, table_of-same, true, words, zero, ℕ, ◌++◌, ◌+◌, ◌<◌, ◌^◌, ◌∙◌, ◌∷◌, ◌≡◌, ◌≢◌, ◌≤◌, ◌⊎◌}
use Rattle.ncl_diagram.proofs.Canonical.{Passes, Reads, bottom, length-table_from, look, next_high, next_low, one_place, there_high, there_low}
use Rattle.ncl_diagram.proofs.Rails.{constant_there, level_of-constant, table_from-constant}
use Rattle.ncl_diagram.proofs.Stops.{table_of_at}

-- the least word of two halves is that of the first, or else that of the second
least-halves : (value : Bool) (m : ℕ) (l h : List Bool) → length l ≡ 2 ^ m → least value (suc m) (l ++ h) ≡ option_or (option_map (λ w. false ∷ w) (least value m l)) (option_map (λ w. true ∷ w) (least value m h))
least-halves value m l h long =
    let low = find-same m (λ w. is_value value (at (l ++ h) (false ∷ w))) (λ w. is_value value (at l w)) (λ w e. ap (is_value value) (at-low l h w (long ∙ ap (λ (k : ℕ). 2 ^ k) (sym e)))) in
    let high = find-same m (λ w. is_value value (at (l ++ h) (true ∷ w))) (λ w. is_value value (at h w)) (λ w e. ap (is_value value) (at-high l h w (long ∙ ap (λ (k : ℕ). 2 ^ k) (sym e)))) in
    find-words m (λ w. is_value value (at (l ++ h) w))
    ∙ (λ i. option_or (option_map (λ w. false ∷ w) (low i)) (option_map (λ w. true ∷ w) (high i)))

not_mapped : {X Y : Type 0} (f : X → Y) (o : Option X) → option_map f o ≡ None → o ≡ None
not_mapped f (Some x) e = absurd cc
not_mapped f None e = refl

-- where no word passes a test, each fails it
find-none : (n : ℕ) (f : List Bool → Bool) → find f (words n) ≡ None → (w : List Bool) → length w ≡ n → f w ≡ false
find-none zero f none [] e = by (f []) none
  where
    by : (b : Bool) → (let found : Option (List Bool) = if b then Some [] else None in found ≡ None) → b ≡ false
    by true h = absurd cc
    by false h = refl
find-none zero f none (b ∷ w) e = absurd (omega arith)
find-none (suc n) f none [] e = absurd (omega arith)
find-none (suc n) f none (false ∷ w) e =
    let both = option_or-none (option_map (λ w. false ∷ w) (find (λ w. f (false ∷ w)) (words n))) (option_map (λ w. true ∷ w) (find (λ w. f (true ∷ w)) (words n))) (sym (find-words n f) ∙ none) in
    find-none n (λ w. f (false ∷ w)) (not_mapped (λ w. false ∷ w) (find (λ w. f (false ∷ w)) (words n)) both.0) w (omega arith)
find-none (suc n) f none (true ∷ w) e =
    let both = option_or-none (option_map (λ w. false ∷ w) (find (λ w. f (false ∷ w)) (words n))) (option_map (λ w. true ∷ w) (find (λ w. f (true ∷ w)) (words n))) (sym (find-words n f) ∙ none) in
    find-none n (λ w. f (true ∷ w)) (not_mapped (λ w. true ∷ w) (find (λ w. f (true ∷ w)) (words n)) both.1) w (omega arith)

find-never : (ws : List (List Bool)) → find (λ w. false) ws ≡ None
find-never [] = refl
find-never (w ∷ ws) = find-never ws

not_value : (value b : Bool) → is_value value b ≡ false → b ≡ not value
not_value true b e = e
not_value false true e = refl
not_value false false e = absurd cc

other_value : (value : Bool) → is_value value (not value) ≡ false
other_value true = refl
other_value false = refl

-- a constant has the other value nowhere
pub least-constant : (n : ℕ) (value : Bool) → least value n (constant_table n (not value)) ≡ None
least-constant n value =
    find-same n (λ w. is_value value (at (constant_table n (not value)) w)) (λ w. false) (λ w e. ap (is_value value) (at_table n (λ word. not value) w e) ∙ other_value value)
    ∙ find-never (words n)

-- a place without a word of a value is a constant
pub nowhere_only : (n : ℕ) (nodes : List Node) (value : Bool) (m level p : ℕ) → IsCanonical n nodes → level + m ≡ n → level ≤ level_of n nodes p → p < length nodes + 2 → least value m (table_from nodes m level p) ≡ None → p ≡ constant_place (not value)
nowhere_only n nodes value m level p can e later there none =
    let n_is = level_of-constant n nodes (not value) in
    one_place n nodes can m level p (constant_place (not value)) e later (omega arith) there (constant_there nodes (not value))
    (sym (table_of_at nodes m level p)
    ∙ table_of-same m (λ w. at (table_from nodes m level p) w) (λ w. not value) (λ w len. not_value value (at (table_from nodes m level p) w) (find-none m (λ w. is_value value (at (table_from nodes m level p) w)) none w len))
    ∙ sym (table_from-constant nodes (not value) m level))

-- a walk from a place down, by the least word of its function: it is at a place at a level with a prefix of
-- that word, and the least word from there follows the prefix
pub record Walks (n : ℕ) (nodes : List Node) (value : Bool) (whole : Option (List Bool)) (level p : ℕ) (prefix : List Bool) : Type 0 where
  pub there : p < length nodes + 2
  pub later : level ≤ level_of n nodes p
  pub some : p ≢ constant_place (not value)
  pub long : length prefix ≡ level
  pub word : (m : ℕ) → level + m ≡ n → whole ≡ option_map (λ w. prefix ++ w) (least value m (table_from nodes m level p))

module _ (n : ℕ) (nodes : List Node) (value : Bool) (whole : Option (List Bool)) (level p : ℕ) (prefix : List Bool) (can : IsCanonical n nodes) (lt : level < n) (walks : Walks n nodes value whole level p prefix) where
  looks : Reads n nodes level p ⊎ Passes n nodes level p
  looks = look n nodes level p lt walks.later

  -- down where the bit is 0, if there is a word there
  pub walks_low : branch nodes level false p ≢ constant_place (not value) → Walks n nodes value whole (level + 1) (branch nodes level false p) (prefix ++ false ∷ [])
  walks_low some = record {
    there = there_low n nodes level p can walks.there looks;
    later = next_low n nodes level p can looks;
    some = some;
    long = simp length-append (omega (arith, walks.long));
    word = λ m e.
        walks.word (suc m) (omega arith)
        ∙ ap (option_map (λ w. prefix ++ w)) (least-halves value m (low m) (high m) (length-table_from nodes m (level + 1) (branch nodes level false p)))
        ∙ by m (least value m (low m)) (λ none. some (nowhere_only n nodes value m (level + 1) (branch nodes level false p) can (omega arith) (next_low n nodes level p can looks) (there_low n nodes level p can walks.there looks) none));
  }
    where
      low : ℕ → List Bool
      low m = table_from nodes m (level + 1) (branch nodes level false p)

      high : ℕ → List Bool
      high m = table_from nodes m (level + 1) (branch nodes level true p)

      by : (m : ℕ) (o : Option (List Bool)) → o ≢ None → option_map (λ w. prefix ++ w) (option_or (option_map (λ w. false ∷ w) o) (option_map (λ w. true ∷ w) (least value m (high m)))) ≡ option_map (λ w. (prefix ++ false ∷ []) ++ w) o
      by m None some = absurd (some refl)
      by m (Some w) some = ap Some (sym (append_assoc prefix (false ∷ []) w))

  -- or where it is 1
  pub walks_high : branch nodes level false p ≡ constant_place (not value) → Walks n nodes value whole (level + 1) (branch nodes level true p) (prefix ++ true ∷ [])
  walks_high none = record {
    there = there_high n nodes level p can walks.there looks;
    later = next_high n nodes level p can looks;
    some = λ both. walks.some (never looks both);
    long = simp length-append (omega (arith, walks.long));
    word = λ m e.
        walks.word (suc m) (omega arith)
        ∙ ap (option_map (λ w. prefix ++ w)) (least-halves value m (table_from nodes m (level + 1) (branch nodes level false p)) (table_from nodes m (level + 1) (branch nodes level true p)) (length-table_from nodes m (level + 1) (branch nodes level false p)))
        ∙ ap (λ o. option_map (λ w. prefix ++ w) (option_or (option_map (λ w. false ∷ w) o) (option_map (λ w. true ∷ w) (least value m (table_from nodes m (level + 1) (branch nodes level true p))))))
        (ap (λ (q : ℕ). least value m (table_from nodes m (level + 1) q)) none ∙ ap (least value m) (table_from-constant nodes (not value) m (level + 1)) ∙ least-constant m value)
        ∙ by (least value m (table_from nodes m (level + 1) (branch nodes level true p)));
  }
    where
      never : Reads n nodes level p ⊎ Passes n nodes level p → branch nodes level true p ≡ constant_place (not value) → p ≡ constant_place (not value)
      never (inl reads) both = absurd (can.reduced reads.k reads.node reads.is (sym reads.low ∙ none ∙ sym both ∙ reads.high))
      never (inr passes) both = sym passes.low ∙ none

      by : (o : Option (List Bool)) → option_map (λ w. prefix ++ w) (option_map (λ w. true ∷ w) o) ≡ option_map (λ w. (prefix ++ true ∷ []) ++ w) o
      by None = refl
      by (Some w) = ap Some (sym (append_assoc prefix (true ∷ []) w))

-- at the end the prefix is the word
pub walks_end : (n : ℕ) (nodes : List Node) (value : Bool) (whole : Option (List Bool)) (p : ℕ) (prefix : List Bool) → IsCanonical n nodes → Walks n nodes value whole n p prefix → whole ≡ Some prefix
walks_end n nodes value whole p prefix can walks =
    walks.word 0 (omega arith) ∙ ap (λ (q : ℕ). option_map (λ w. prefix ++ w) (least value 0 (table_from nodes 0 n q))) (is value p (bottom n nodes p can walks.later walks.there) walks.some) ∙ here value
  where
    is : (value : Bool) (p : ℕ) → p < 2 → p ≢ constant_place (not value) → p ≡ constant_place value
    is true zero lt some = absurd (some refl)
    is true (suc zero) lt some = refl
    is false zero lt some = refl
    is false (suc zero) lt some = absurd (some refl)
    is value (suc (suc p)) lt some = absurd (omega arith)

    here : (value : Bool) → option_map (λ w. prefix ++ w) (least value 0 (table_from nodes 0 n (constant_place value))) ≡ Some prefix
    here true = ap Some (append-nil prefix)
    here false = ap Some (append-nil prefix)
