-- Least words by tables, and the first of several answers.
use Rattle.ncl_stage.proofs.Terms.{Base, Bit, Bool, BothRails, Incomplete, IsOrderOf, List, NoRail, None, Option, Rails, Some, StageData, StageFault, ValuesAt, Variant, [], all_data, ap, arith, below, cases_eq, cond, data_fronts, data_functions, false, find, first_of, flat_map, function_tables_by, get_or, has_data, holds_at, inl, inr, is_illegal, least, least_word_by, length, map, map-append, net_functions, not, option_map, placed, question_functions, range_with_len, refl, shared_tables_by, shows, slice_get, slice_get-get_or, suc, sym, table_of, tables_by, true, val, words_by, zero, ℕ, ◌++◌, ◌+◌, ◌<◌, ◌∙◌, ◌∷◌, ◌≡◌, ◌≤◌}
use Rattle.ncl_stage.proofs.OrderedTables.{ordered-one, ordered-zero}
use Rattle.ncl_stage.proofs.OutputLaws.{values_at}

holds_at-within : {X : Type 0} (test : X → Bool) (xs : List X) (k : ℕ) (d : X) → k < length xs → holds_at test (slice_get xs k) ≡ test (get_or xs k d)
holds_at-within test xs k d lt = ap (holds_at test) (slice_get-get_or xs k d lt)

-- tests that agree find the same
find-any : (f g : List Bool → Bool) → ((word : List Bool) → f word ≡ g word) → (ws : List (List Bool)) → find f ws ≡ find g ws
find-any f g same [] = refl
find-any f g same (w ∷ ws) = let first = same w in let rest = find-any f g same ws in λ k. cond (first k) (Some w) (rest k)

-- the least word of a table of a function that tells where a fault is shown
pub least-shown : (s : StageData) (order : List ℕ) (ordered : IsOrderOf (length s.inputs) order) (fault : StageFault) (f : List Bool → Bool) → ((word : List Bool) → f word ≡ shows s word fault) → option_map (placed order) (least true (length s.inputs) (table_of (words_by order) f)) ≡ least_word_by order s fault
least-shown s order ordered fault f same = ordered-one (length s.inputs) order ordered f ∙ find-any f (λ word. shows s word fault) same (words_by order)

pub least-hidden : (s : StageData) (order : List ℕ) (ordered : IsOrderOf (length s.inputs) order) (fault : StageFault) (f : List Bool → Bool) → ((word : List Bool) → not (f word) ≡ shows s word fault) → option_map (placed order) (least false (length s.inputs) (table_of (words_by order) f)) ≡ least_word_by order s fault
least-hidden s order ordered fault f same = ordered-zero (length s.inputs) order ordered f ∙ find-any (λ word. not (f word)) (λ word. shows s word fault) same (words_by order)

pub both-shown : (s : StageData) (output : ℕ) (d : Rails) → output < length s.outputs → (word : List Bool) → is_illegal (val s word Base) (get_or s.outputs output d) ≡ shows s word (BothRails output)
both-shown s output d lt word = sym (holds_at-within (is_illegal (val s word Base)) s.outputs output d lt)

pub none-shown : (s : StageData) (output : ℕ) (d : Rails) → output < length s.outputs → (word : List Bool) → not (has_data (val s word Base) (get_or s.outputs output d)) ≡ shows s word (NoRail output)
none-shown s output d lt word = sym (holds_at-within (λ r. not (has_data (val s word Base) r)) s.outputs output d lt)

pub incomplete-shown : (s : StageData) (bit : ℕ) → bit < length s.inputs → (word : List Bool) → all_data s (val s word (Bit bit)) ≡ shows s word (Incomplete bit)
incomplete-shown s bit lt word =
    sym (holds_at-within (λ (r : Rails). all_data s (val s word (Bit bit))) s.inputs bit (record { zero = record { 0 = 0 }; one = record { 0 = 0 } }) lt)

-- the tables of a variant, those that each has and those that it asks besides
pub tables_of-parts : (s : StageData) (order : List ℕ) (variant : Variant) → tables_by order s variant ≡ shared_tables_by order s variant ++ function_tables_by order (question_functions s variant (values_at s variant))
tables_of-parts s order variant =
    let v : ValuesAt = values_at s variant in
    map-append (table_of (words_by order)) (net_functions s v ++ data_functions s v ++ data_fronts s v) (question_functions s variant v)

-- the first of two lists of answers, one after the other
pub first_of-append : {X : Type 0} (xs ys : List (Option X)) → first_of (xs ++ ys) ≡ first_of (first_of xs ∷ first_of ys ∷ [])
first_of-append {X} [] ys = by_first (first_of ys)
  where
    by_first : (answer : Option X) → answer ≡ first_of (None ∷ answer ∷ [])
    by_first None = refl
    by_first (Some v) = refl
first_of-append (None ∷ xs) ys = first_of-append xs ys
first_of-append (Some v ∷ xs) ys = refl

pub first_of-one : {X : Type 0} (answer : Option X) → first_of (answer ∷ []) ≡ answer
first_of-one None = refl
first_of-one (Some v) = refl

first_of-range : {X : Type 0} (f : ℕ → Option X) (from count : ℕ) → ((k : ℕ) → from ≤ k → k < from + count → f k ≡ None) → first_of (map f (range_with_len from count)) ≡ None
first_of-range f from zero none = refl
first_of-range f from (suc count) none =
    ap (λ answer. first_of (answer ∷ map f (range_with_len (from + 1) count))) (none from (omega arith) (omega arith))
    ∙ first_of-range f (from + 1) count (λ k low high. none k (omega arith) (omega arith))

-- where nothing is found below a bound
pub first_below-none : {X : Type 0} (f : ℕ → Option X) (n : ℕ) → ((k : ℕ) → k < n → f k ≡ None) → first_of (map f (below n)) ≡ None
first_below-none f n none = first_of-range f 0 n (λ k low high. none k (omega arith))

first_some : {X : Type 0} (answer : Option X) (v : X) → answer ≡ Some v → (answers : List (Option X)) → first_of (answer ∷ answers) ≡ Some v
first_some answer v is answers = ap (λ a. first_of (a ∷ answers)) is

first_of-range_at : {X : Type 0} (f : ℕ → Option X) (from count at : ℕ) (v : X) → from ≤ at → at < from + count → ((k : ℕ) → from ≤ k → k < at → f k ≡ None) → f at ≡ Some v → first_of (map f (range_with_len from count)) ≡ Some v
first_of-range_at f from zero at v low high none is = absurd (omega arith)
first_of-range_at f from (suc count) at v low high none is =
    elim (cases_eq from at) [
      | inl own ↦ first_some (f from) v (ap f own ∙ is) (map f (range_with_len (from + 1) count))
      | inr later ↦
          ap (λ answer. first_of (answer ∷ map f (range_with_len (from + 1) count))) (none from (omega arith) (omega arith))
          ∙ first_of-range_at f (from + 1) count at v (omega arith) (omega arith) (λ k l h. none k (omega arith) h) is
    ]

-- where something is found first at a place below a bound
pub first_below-some : {X : Type 0} (f : ℕ → Option X) (n at : ℕ) (v : X) → at < n → ((k : ℕ) → k < at → f k ≡ None) → f at ≡ Some v → first_of (map f (below n)) ≡ Some v
first_below-some f n at v lt none is = first_of-range_at f 0 n at v (omega arith) (omega arith) (λ k low high. none k high) is

-- the answers at the outputs, one output after the other
pub outputs-grouped : {X : Type 0} (found : StageFault → Option X) (outputs : List ℕ) → first_of (map found (flat_map (λ k. BothRails k ∷ NoRail k ∷ []) outputs)) ≡ first_of (map (λ k. first_of (found (BothRails k) ∷ found (NoRail k) ∷ [])) outputs)
outputs-grouped found [] = refl
outputs-grouped {X} found (k ∷ outputs) = by_two (found (BothRails k)) (found (NoRail k)) (map found (flat_map (λ k. BothRails k ∷ NoRail k ∷ []) outputs)) (map (λ k. first_of (found (BothRails k) ∷ found (NoRail k) ∷ [])) outputs) (outputs-grouped found outputs)
  where
    by_two : (both neither : Option X) (flat grouped : List (Option X)) → first_of flat ≡ first_of grouped → first_of (both ∷ neither ∷ flat) ≡ first_of (first_of (both ∷ neither ∷ []) ∷ grouped)
    by_two None None flat grouped e = e
    by_two None (Some v) flat grouped e = refl
    by_two (Some v) neither flat grouped e = refl
