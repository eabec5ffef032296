-- The value of a cover, by what its rows and a word have at each place.
use Rattle.ncl_network.proofs.Terms.{Bool, List, Lit, [], ap, arith, beq, cond, cover_value, false, length, list_all, list_any, lit_matches, not, refl, row_matches, true, zip, ◌&&◌, ◌<◌, ◌||◌, ◌∙◌, ◌∷◌, ◌≡◌}

row_matches-zip : (row : List Lit) (word : List Bool) → list_all (λ (pair : Lit × Bool). lit_matches pair.0 pair.1) (zip row word) ≡ row_matches word row
row_matches-zip [] word = refl
row_matches-zip (lit ∷ row) [] = refl
row_matches-zip (lit ∷ row) (bit ∷ word) = ap (λ b. lit_matches lit bit && b) (row_matches-zip row word)

some_matches-rows : (rows : List (List Lit)) (word : List Bool) → list_any (λ (row : List Lit). list_all (λ (pair : Lit × Bool). lit_matches pair.0 pair.1) (zip row word)) rows ≡ list_any (row_matches word) rows
some_matches-rows [] word = refl
some_matches-rows (row ∷ rows) word = λ i. row_matches-zip row word i || some_matches-rows rows word i

beq-cond : (matches on : Bool) → beq matches on ≡ cond on matches (not matches)
beq-cond true true = refl
beq-cond true false = refl
beq-cond false true = refl
beq-cond false false = refl

pub cover_value-by_rows : (on : Bool) (rows : List (List Lit)) (word : List Bool) → 0 < length rows → beq (list_any (λ (row : List Lit). list_all (λ (pair : Lit × Bool). lit_matches pair.0 pair.1) (zip row word)) rows) on ≡ cover_value on rows word
cover_value-by_rows on [] word some = absurd (omega arith)
cover_value-by_rows on (row ∷ rows) word some =
    ap (λ b. beq b on) (some_matches-rows (row ∷ rows) word) ∙ beq-cond (list_any (row_matches word) (row ∷ rows)) on
