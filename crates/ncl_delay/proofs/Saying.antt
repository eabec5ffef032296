-- The first words of a line, and what they state.
use Rattle.ncl_delay.proofs.Terms.{Bor, List, [], ap, arith, cell_text, edges_text, get_or, length, map, refl, said, stating, subject_text, sym, take, ℕ, ◌<◌, ◌∙◌, ◌∷◌, ◌≡◌, ◌≤◌}

-- what the first five words of a line state is what all of them state
said-take : (words : List (List ℕ)) → said (take 5 words) ≡ said words
said-take [] = refl
said-take (a ∷ []) = refl
said-take (a ∷ b ∷ []) = refl
said-take (a ∷ b ∷ c ∷ []) = refl
said-take (a ∷ b ∷ c ∷ d ∷ []) = refl
said-take (a ∷ b ∷ c ∷ d ∷ e ∷ words) = refl

-- the first words of a line, where they are parts of a text
abbrev pub AreFirst : List (Bor (List ℕ)) → List (List ℕ) → Type 0
AreFirst first words = map (λ word. word.now) first ≡ take 5 words

three : (first : List (Bor (List ℕ))) (d : Bor (List ℕ)) → 3 ≤ length first → length first < 4 → said (map (λ word. word.now) first) ≡ stating (subject_text (get_or first 0 d).now) (edges_text (get_or first 1 d).now (get_or first 2 d).now)
three [] d least below = absurd (omega arith)
three (a ∷ []) d least below = absurd (omega arith)
three (a ∷ b ∷ []) d least below = absurd (omega arith)
three (a ∷ b ∷ c ∷ []) d least below = refl
three (a ∷ b ∷ c ∷ e ∷ first) d least below = absurd (omega arith)

four : (first : List (Bor (List ℕ))) (d : Bor (List ℕ)) → 4 ≤ length first → length first < 5 → said (map (λ word. word.now) first) ≡ stating (cell_text (get_or first 0 d).now (get_or first 1 d).now) (edges_text (get_or first 2 d).now (get_or first 3 d).now)
four [] d least below = absurd (omega arith)
four (a ∷ []) d least below = absurd (omega arith)
four (a ∷ b ∷ []) d least below = absurd (omega arith)
four (a ∷ b ∷ c ∷ []) d least below = absurd (omega arith)
four (a ∷ b ∷ c ∷ e ∷ []) d least below = refl
four (a ∷ b ∷ c ∷ e ∷ f ∷ first) d least below = absurd (omega arith)

said-first : (words : List (List ℕ)) (first : List (Bor (List ℕ))) → AreFirst first words → said words ≡ said (map (λ word. word.now) first)
said-first words first few = sym (said-take words) ∙ ap said (sym few)

-- what a line of three words states, and a line of four
pub said-three : (words : List (List ℕ)) (first : List (Bor (List ℕ))) (d : Bor (List ℕ)) → AreFirst first words → 3 ≤ length first → length first < 4 → said words ≡ stating (subject_text (get_or first 0 d).now) (edges_text (get_or first 1 d).now (get_or first 2 d).now)
said-three words first d few least below = said-first words first few ∙ three first d least below

pub said-four : (words : List (List ℕ)) (first : List (Bor (List ℕ))) (d : Bor (List ℕ)) → AreFirst first words → 4 ≤ length first → length first < 5 → said words ≡ stating (cell_text (get_or first 0 d).now (get_or first 1 d).now) (edges_text (get_or first 2 d).now (get_or first 3 d).now)
said-four words first d few least below = said-first words first few ∙ four first d least below
