-- Lists that are gone through side by side, and the last of some steps.
use Rattle.std.proofs.Common.{◌≡◌, ℕ, suc, ◌+◌, ◌-◌, ◌<◌, ◌≤◌, List, [], ◌∷◌, ◌++◌, length, map, take, min, Some, get_or, sym, ap, subst, ◌∙◌, arith, append_assoc, append-nil, length-take}
use Rattle.std.specs.Prelude.{slice_get}
use Rattle.std.specs.List.{zip, flat_map}
use Rattle.std.proofs.lemmas.List.{take_more, take_all, map-append}
use Rattle.std.proofs.lemmas.Slice.Zip.{length-zip, get_or-zip}
use Rattle.std.proofs.lemmas.Grind.{flat_map-append}
use Rattle.ncl_delay.specs.declared.fired.Fired.{Fired}
use Rattle.ncl_sim.specs.declared.trace.Taken.{Taken}
use Rattle.ncl_sim.specs.TimedRun.{last_time}
use Rattle.ncl_report.specs.TraceText.{taken_line, taken_lines}

module _ {A B : Type 0} (xs : List A) (ys : List B) where
  -- one pair more
  pairs_more : (n : ℕ) (d : A) (e : B) → n < min (length xs) (length ys) → take (n + 1) (zip xs ys) ≡ take n (zip xs ys) ++ (get_or xs n d, get_or ys n e) ∷ []
  pairs_more n d e within =
      take_more (zip xs ys) n (d, e) (omega (arith, length-zip xs ys))
      ∙ ap (λ p. take n (zip xs ys) ++ p ∷ []) (get_or-zip xs ys n (d, e) (omega arith) (omega arith))

  -- an item more of what is made of each pair
  pub mapped_more : {C : Type 0} (f : A × B → C) (n : ℕ) (d : A) (e : B) → n < min (length xs) (length ys) → map f (take (n + 1) (zip xs ys)) ≡ map f (take n (zip xs ys)) ++ f (get_or xs n d, get_or ys n e) ∷ []
  mapped_more f n d e within = ap (map f) (pairs_more n d e within) ∙ map-append f (take n (zip xs ys)) ((get_or xs n d, get_or ys n e) ∷ [])

  -- and of the lists that are made of each
  pub joined_more : {C : Type 0} (f : A × B → List C) (n : ℕ) (x : A) (y : B) → n < min (length xs) (length ys) → x ≡ get_or xs n x → y ≡ get_or ys n y → flat_map f (take (n + 1) (zip xs ys)) ≡ flat_map f (take n (zip xs ys)) ++ f (x, y)
  joined_more f n x y within at_x at_y =
      ap (flat_map f) (pairs_more n x y within ∙ (λ i. take n (zip xs ys) ++ (sym at_x i, sym at_y i) ∷ []))
      ∙ flat_map-append f (take n (zip xs ys)) ((x, y) ∷ []) ∙ ap (λ r. flat_map f (take n (zip xs ys)) ++ r) (append-nil (f (x, y)))

  -- at the end all pairs are there
  pub all_pairs : (n : ℕ) → min (length xs) (length ys) ≤ n → take n (zip xs ys) ≡ zip xs ys
  all_pairs n end = take_all n (zip xs ys) (omega (arith, length-zip xs ys))

-- the time of the last step is that of the item at the last place
pub last_at : (time : ℕ) (steps : List Fired) (f : Fired) → slice_get steps (length steps - 1) ≡ Some f → last_time time steps ≡ f.time
last_at time [] f at = absurd cc
last_at time (g ∷ []) f at = let same : g ≡ f = cc in ap (λ (h : Fired). h.time) same
last_at time (g ∷ h ∷ steps) f at = last_at g.time (h ∷ steps) f (subst (λ n. slice_get (g ∷ h ∷ steps) n ≡ Some f) place at)
  where
    place : length (g ∷ h ∷ steps) - 1 ≡ suc (length (h ∷ steps) - 1)
    place = omega arith

-- a line for one word more
pub lines_more : (number : ℕ) (delivered : List Taken) (taken : Taken) → taken_lines number (delivered ++ taken ∷ []) ≡ taken_lines number delivered ++ taken_line (number + length delivered) taken
lines_more number [] taken = append-nil (taken_line number taken) ∙ ap (λ n. taken_line n taken) (omega arith)
lines_more number (first ∷ delivered) taken =
    ap (λ rest. taken_line number first ++ rest) (lines_more (number + 1) delivered taken ∙ ap (λ n. taken_lines (number + 1) delivered ++ taken_line n taken) (omega arith))
    ∙ sym (append_assoc (taken_line number first) (taken_lines (number + 1) delivered) (taken_line (number + length (first ∷ delivered)) taken))

-- and of the first words, where one stands at a place
pub lines_at : (delivered : List Taken) (place : ℕ) (taken : Taken) → place < length delivered → taken ≡ get_or delivered place taken → taken_lines 1 (take (place + 1) delivered) ≡ taken_lines 1 (take place delivered) ++ taken_line (place + 1) taken
lines_at delivered place taken within at =
    ap (taken_lines 1) (take_more delivered place taken within ∙ ap (λ t. take place delivered ++ t ∷ []) (sym at))
    ∙ lines_more 1 (take place delivered) taken
    ∙ ap (λ n. taken_lines 1 (take place delivered) ++ taken_line n taken) (omega (arith, length-take place delivered))

-- a text to which a part is appended, and another
pub appended : (text before front old part whole : List ℕ) → text ≡ before ++ part → before ≡ old ++ front → whole ≡ front ++ part → text ≡ old ++ whole
appended text before front old part whole more so_far is =
    more ∙ ap (λ b. b ++ part) so_far ∙ append_assoc old front part ∙ ap (λ w. old ++ w) (sym is)
