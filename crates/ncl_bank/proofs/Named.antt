-- Cells that are named by their places.
use Rattle.ncl_bank.proofs.Terms.{AddsCells, All, All-cons, All-nil, List, Member, PartCell, Some, Unnamed, [], ap, append_assoc, arith, cell_at, cell_name_of, here, length, length-append, map, named_from, range_with_len, refl, slice_get, suc, sym, there, zero, ℕ, ◌++◌, ◌+◌, ◌∙◌, ◌∷◌, ◌≡◌}

pub named_from-append : (prefix : List ℕ) (place : ℕ) (xs ys : List Unnamed) → named_from prefix place (xs ++ ys) ≡ named_from prefix place xs ++ named_from prefix (place + length xs) ys
named_from-append prefix place [] ys = ap (λ k. named_from prefix k ys) (omega arith)
named_from-append prefix place (x ∷ xs) ys =
    let shift : (place + 1) + length xs ≡ place + length (x ∷ xs) = omega arith in
    ap (λ cells. cell_at prefix place x ∷ cells) (named_from-append prefix (place + 1) xs ys ∙ ap (λ k. named_from prefix (place + 1) xs ++ named_from prefix k ys) shift)

pub length-named_from : (prefix : List ℕ) (place : ℕ) (xs : List Unnamed) → length (named_from prefix place xs) ≡ length xs
length-named_from prefix place [] = refl
length-named_from prefix place (x ∷ xs) = ap suc (length-named_from prefix (place + 1) xs)

-- what a function gives of cells that doesn't look at their names
pub map-named_from : {Y : Type 0} (f : PartCell → Y) (g : Unnamed → Y) (prefix : List ℕ) → ((place : ℕ) (x : Unnamed) → f (cell_at prefix place x) ≡ g x) → (place : ℕ) (xs : List Unnamed) → map f (named_from prefix place xs) ≡ map g xs
map-named_from f g prefix same place [] = refl
map-named_from f g prefix same place (x ∷ xs) =
    ap (λ y. y ∷ map f (named_from prefix (place + 1) xs)) (same place x) ∙ ap (λ ys. g x ∷ ys) (map-named_from f g prefix same (place + 1) xs)

-- the names
pub names-named_from : (prefix : List ℕ) (place : ℕ) (xs : List Unnamed) → map (λ (cell : PartCell). cell.name) (named_from prefix place xs) ≡ map (cell_name_of prefix) (range_with_len place (length xs))
names-named_from prefix place [] = refl
names-named_from prefix place (x ∷ xs) = ap (λ names. cell_name_of prefix place ∷ names) (names-named_from prefix (place + 1) xs)

-- what holds of each cell at any place
pub All-named_from : (P : PartCell → Type 0) (prefix : List ℕ) (place : ℕ) (xs : List Unnamed) → ((k : ℕ) (x : Unnamed) → Member x xs → P (cell_at prefix k x)) → All P (named_from prefix place xs)
All-named_from P prefix place [] each = All-nil P
All-named_from P prefix place (x ∷ xs) each = All-cons P (cell_at prefix place x) (named_from prefix (place + 1) xs) (each place x here) (All-named_from P prefix (place + 1) xs (λ k y m. each k y (there m)))

-- the cell at a place among those that are planned by a function
pub record IsPlanned {X : Type 0} (f : X → Unnamed) (prefix : List ℕ) (xs : List X) (i : ℕ) (cell : PartCell) : Type 0 where
  pub item : X
  pub at : slice_get xs i ≡ Some item
  pub place : ℕ
  pub is : cell ≡ cell_at prefix place (f item)

pub planned_at : {X : Type 0} (f : X → Unnamed) (prefix : List ℕ) (place : ℕ) (xs : List X) (i : ℕ) (cell : PartCell) → slice_get (named_from prefix place (map f xs)) i ≡ Some cell → IsPlanned f prefix xs i cell
planned_at f prefix place [] i cell at = absurd cc
planned_at f prefix place (x ∷ xs) zero cell at = record { item = x; at = refl; place = place; is = cc }
planned_at f prefix place (x ∷ xs) (suc i) cell at =
    let later = planned_at f prefix (place + 1) xs i cell at in
    record { item = later.item; at = later.at; place = later.place; is = later.is }

pub member_named : (prefix : List ℕ) (x : Unnamed) (place : ℕ) {xs : List Unnamed} → Member x xs → (k : ℕ) × Member (cell_at prefix k x) (named_from prefix place xs)
member_named prefix x place (here {xs = xs}) = (place, here)
member_named prefix x place (there {y = y} {xs = xs} m) = let (k, n) = member_named prefix x (place + 1) m in (k, there n)

-- cells are added after others, and named by their places
pub record IsAdded (prefix : List ℕ) (before : List PartCell) (plan : List Unnamed) (after : List PartCell) : Type 0 where
  pub is : AddsCells prefix plan before after

pub length_added : (prefix : List ℕ) (before : List PartCell) (plan : List Unnamed) (after : List PartCell) → IsAdded prefix before plan after → length after ≡ length before + length plan
length_added prefix before plan after added =
    ap length added.is ∙ length-append before (named_from prefix (length before) plan) ∙ ap (λ n. length before + n) (length-named_from prefix (length before) plan)

-- one cell more
pub IsAdded-more : (prefix : List ℕ) (before : List PartCell) (plan : List Unnamed) (after : List PartCell) → IsAdded prefix before plan after → (x : Unnamed) (new : List PartCell) → new ≡ after ++ cell_at prefix (length after) x ∷ [] → IsAdded prefix before (plan ++ x ∷ []) new
IsAdded-more prefix before plan after added x new pushed =
    let place : length after ≡ length before + length plan = length_added prefix before plan after added in
    record {
      is = pushed
          ∙ (λ i. added.is i ++ cell_at prefix (place i) x ∷ [])
          ∙ append_assoc before (named_from prefix (length before) plan) (cell_at prefix (length before + length plan) x ∷ [])
          ∙ ap (λ cells. before ++ cells) (sym (named_from-append prefix (length before) plan (x ∷ [])));
    }
