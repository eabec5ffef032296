-- Tables by halves.
use Rattle.ncl_diagram.proofs.Terms.{Bool, Kind, List, Node, [], ap, at, at-high, at-low, branch, false, gate_from, length, length-table_of, map, refl, set_of, suc, sym, table_from, table_of-halves, table_of-same, true, ℕ, ◌++◌, ◌+◌, ◌^◌, ◌∙◌, ◌∷◌, ◌≡◌}
use Rattle.ncl_diagram.proofs.Canonical.{length-table_from}

long : (nodes : List Node) (m level p : ℕ) (w : List Bool) → length w ≡ m → length (table_from nodes m level p) ≡ 2 ^ length w
long nodes m level p w e = length-table_from nodes m level p ∙ ap (λ (k : ℕ). 2 ^ k) (sym e)

-- the value of a place after a first bit is that of the branch
pub at_branch : (nodes : List Node) (m level : ℕ) (v : Bool) (p : ℕ) (w : List Bool) → length w ≡ m → at (table_from nodes (suc m) level p) (v ∷ w) ≡ at (table_from nodes m (level + 1) (branch nodes level v p)) w
at_branch nodes m level false p w e = at-low (table_from nodes m (level + 1) (branch nodes level false p)) (table_from nodes m (level + 1) (branch nodes level true p)) w (long nodes m (level + 1) (branch nodes level false p) w e)
at_branch nodes m level true p w e = at-high (table_from nodes m (level + 1) (branch nodes level false p)) (table_from nodes m (level + 1) (branch nodes level true p)) w (long nodes m (level + 1) (branch nodes level false p) w e)

rows : (nodes : List Node) (m level : ℕ) (v : Bool) (w : List Bool) → length w ≡ m → (ps : List ℕ) → map (λ t. at t (v ∷ w)) (map (table_from nodes (suc m) level) ps) ≡ map (λ t. at t w) (map (table_from nodes m (level + 1)) (map (branch nodes level v) ps))
rows nodes m level v w e [] = refl
rows nodes m level v w e (p ∷ ps) =
    let here = at_branch nodes m level v p w e in
    let rest = rows nodes m level v w e ps in
    λ i. here i ∷ rest i

-- the gate's table by the operands' branches
pub gate_halves : (kind : Kind) (nodes : List Node) (m level : ℕ) (ps : List ℕ) → gate_from kind nodes (suc m) level ps ≡ gate_from kind nodes m (level + 1) (map (branch nodes level false) ps) ++ gate_from kind nodes m (level + 1) (map (branch nodes level true) ps)
gate_halves kind nodes m level ps =
    let l = table_of-same m (λ w. set_of kind (map (λ t. at t (false ∷ w)) (map (table_from nodes (suc m) level) ps))) (λ w. set_of kind (map (λ t. at t w) (map (table_from nodes m (level + 1)) (map (branch nodes level false) ps)))) (λ w e. ap (set_of kind) (rows nodes m level false w e ps)) in
    let r = table_of-same m (λ w. set_of kind (map (λ t. at t (true ∷ w)) (map (table_from nodes (suc m) level) ps))) (λ w. set_of kind (map (λ t. at t w) (map (table_from nodes m (level + 1)) (map (branch nodes level true) ps)))) (λ w e. ap (set_of kind) (rows nodes m level true w e ps)) in
    table_of-halves m (λ w. set_of kind (map (λ t. at t w) (map (table_from nodes (suc m) level) ps))) ∙ (λ i. l i ++ r i)

pub length-gate_from : (kind : Kind) (nodes : List Node) (m level : ℕ) (ps : List ℕ) → length (gate_from kind nodes m level ps) ≡ 2 ^ m
length-gate_from kind nodes m level ps = length-table_of m (λ w. set_of kind (map (λ t. at t w) (map (table_from nodes m level) ps)))
