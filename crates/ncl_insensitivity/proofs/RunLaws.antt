-- The laws of runs.
pub use Rattle.ncl_insensitivity.proofs.Terms.{IsRunFrom, Item, List, PipelineData, State, [], after, refl, reset, step, ◌++◌, ◌∷◌, ◌≡◌}

-- the first items of a run are a run
pub IsRunFrom-prefix : (p : PipelineData) (s : State) (xs ys : List Item) → IsRunFrom p s (xs ++ ys) → IsRunFrom p s xs
IsRunFrom-prefix p s [] ys run = tt
IsRunFrom-prefix p s (item ∷ xs) ys run = (run.0, IsRunFrom-prefix p (step p s item) xs ys run.1)

-- and the others are a run from where they end
pub IsRunFrom-suffix : (p : PipelineData) (s : State) (xs ys : List Item) → IsRunFrom p s (xs ++ ys) → IsRunFrom p (after p s xs) ys
IsRunFrom-suffix p s [] ys run = run
IsRunFrom-suffix p s (item ∷ xs) ys run = IsRunFrom-suffix p (step p s item) xs ys run.1

-- the state after two lists of items
pub after-append : (p : PipelineData) (s : State) (xs ys : List Item) → after p s (xs ++ ys) ≡ after p (after p s xs) ys
after-append p s [] ys = refl
after-append p s (item ∷ xs) ys = after-append p (step p s item) xs ys
