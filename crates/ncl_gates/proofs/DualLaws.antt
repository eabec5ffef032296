-- The dual of each gate makes the complement from the complements: the whole table is computed.
use Rattle.ncl_gates.proofs.Terms.{Bool, IsDual, Kind, List, Th12, [], and_parts, arith, arity_of, at_all, beq, booleans_Decides, crossed, dual_of, dual_pins, false, is_crossed, length, map, not, refl, set_of, suc, true, zero, ℕ, ◌∷◌, ◌≡◌}
use Rattle.std.specs.Prelude.{if◌then◌else◌}
use Rattle.ncl_gates.proofs.Table.{every_kind}

-- a test at all values holds at each
pub at_all-holds : (n : ℕ) (test : List Bool → Bool) → at_all n test ≡ true → (ins : List Bool) → length ins ≡ n → test ins ≡ true
at_all-holds zero test all [] e = all
at_all-holds zero test all (b ∷ ins) e = absurd (omega arith)
at_all-holds (suc n) test all [] e = absurd (omega arith)
at_all-holds (suc n) test all (true ∷ ins) e = at_all-holds n (λ rest. test (true ∷ rest)) (and_parts (at_all n (λ rest. test (true ∷ rest))) (at_all n (λ rest. test (false ∷ rest))) all).0 ins (omega arith)
at_all-holds (suc n) test all (false ∷ ins) e = at_all-holds n (λ rest. test (false ∷ rest)) (and_parts (at_all n (λ rest. test (true ∷ rest))) (at_all n (λ rest. test (false ∷ rest))) all).1 ins (omega arith)

abbrev is_dual_at : Kind → List Bool → Bool
is_dual_at kind ins = beq (set_of (dual_of kind) (dual_pins kind (map not ins))) (not (set_of kind ins))

duals_pass : (kind : Kind) → at_all (arity_of kind) (is_dual_at kind) ≡ true
duals_pass kind = every_kind (λ k. at_all (arity_of k) (is_dual_at k)) refl kind

-- on the complements the dual is the complement
pub dual-set : (kind : Kind) → IsDual kind
dual-set kind ins e = (booleans_Decides (set_of (dual_of kind) (dual_pins kind (map not ins))) (not (set_of kind ins))).0 (at_all-holds (arity_of kind) (is_dual_at kind) (duals_pass kind) ins e)

-- the dual has as many inputs
pub dual-arity : (kind : Kind) → arity_of (dual_of kind) ≡ arity_of kind
dual-arity Th12 = refl
dual-arity _ = refl

crossed-length : {X : Type 0} (xs : List X) → length (crossed xs) ≡ length xs
crossed-length [] = refl
crossed-length (a ∷ []) = refl
crossed-length (a ∷ b ∷ xs) = refl

crossed-map : {X Y : Type 0} (f : X → Y) (xs : List X) → map f (crossed xs) ≡ crossed (map f xs)
crossed-map f [] = refl
crossed-map f (a ∷ []) = refl
crossed-map f (a ∷ b ∷ xs) = refl

-- the pins of the dual are as many, and are taken from the values as from the nets
pub dual_pins-length : {X : Type 0} (kind : Kind) (xs : List X) → length (dual_pins kind xs) ≡ length xs
dual_pins-length kind xs = by (is_crossed kind)
  where
    by : (b : Bool) → length (if b then crossed xs else xs) ≡ length xs
    by true = crossed-length xs
    by false = refl

pub dual_pins-map : {X Y : Type 0} (kind : Kind) (f : X → Y) (xs : List X) → map f (dual_pins kind xs) ≡ dual_pins kind (map f xs)
dual_pins-map kind f xs = by (is_crossed kind)
  where
    by : (b : Bool) → map f (if b then crossed xs else xs) ≡ (if b then crossed (map f xs) else map f xs)
    by true = crossed-map f xs
    by false = refl
