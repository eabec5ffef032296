-- Which signals a signal depends on, where the covers of models stand in one row.
use Rattle.std.specs.Prelude.{◌≡◌, ℕ, ◌+◌, ◌≤◌, List, Bool, true, Some, length, nat_eq, slice_get}
use Rattle.std.specs.List.{list_any}
use Rattle.ncl_match.specs.Steps.{bit_at}
use Rattle.ncl_match.specs.declared.steps.Step.{Step}

-- the number is one of these
abbrev pub is_among : List ℕ → ℕ → Bool
is_among numbers number = list_any (λ (x : ℕ). nat_eq x number) numbers

-- the root depends on the signal, or is it
pub data IsNeeded (n : ℕ) (steps : List Step) (root : ℕ) : ℕ → Type 0 where
  itself : IsNeeded n steps root root
  reads : (j : ℕ) (step : Step) (number : ℕ) → slice_get steps j ≡ Some step → is_among step.ins number ≡ true → IsNeeded n steps root (n + j) → IsNeeded n steps root number

-- which signals are marked once the steps from a place on are looked at: the root, what marked steps among these read, and
-- nothing that the root doesn't depend on
pub record AreNeeded (n : ℕ) (steps : List Step) (root : ℕ) (marks : List Bool) (from : ℕ) : Type 0 where
  pub many : length marks ≡ n + length steps
  pub root_too : bit_at marks root ≡ true
  pub reads : (j : ℕ) (step : Step) (number : ℕ) → from ≤ j → slice_get steps j ≡ Some step → bit_at marks (n + j) ≡ true → is_among step.ins number ≡ true → bit_at marks number ≡ true
  pub needed : (number : ℕ) → bit_at marks number ≡ true → IsNeeded n steps root number
