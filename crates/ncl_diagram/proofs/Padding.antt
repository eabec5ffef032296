-- Operands filled up with the constant 0.
use Rattle.ncl_diagram.proofs.Terms.{Bool, IsFilled, Kind, List, Node, Pin, There, [], ap, arith, at, false, gate_from, length, list_all, list_any, map, place_of, products, refl, set_of, slice_index_or, subst, suc, sym, table_from, table_of-same, zero, ℕ, ◌+◌, ◌<◌, ◌∙◌, ◌∷◌, ◌≡◌}
use Rattle.ncl_diagram.proofs.Stops.{at_zero}

set_of-same : (kind : Kind) (xs ys : List Bool) → ((k : ℕ) → slice_index_or xs k false ≡ slice_index_or ys k false) → set_of kind xs ≡ set_of kind ys
set_of-same kind xs ys h = ap (λ (f : Pin → Bool). list_any (λ product. list_all f product) (products kind)) (λ i pin. h (place_of pin) i)

value_at : (v : ℕ → Bool) → v 0 ≡ false → (ps : List ℕ) (k : ℕ) → slice_index_or (map v ps) k false ≡ v (slice_index_or ps k 0)
value_at v z [] k = sym z
value_at v z (p ∷ ps) zero = refl
value_at v z (p ∷ ps) (suc k) = value_at v z ps k

rows : (nodes : List Node) (m level : ℕ) (w : List Bool) (ps : List ℕ) → map (λ t. at t w) (map (table_from nodes m level) ps) ≡ map (λ p. at (table_from nodes m level p) w) ps
rows nodes m level w [] = refl
rows nodes m level w (p ∷ ps) = ap (λ l. at (table_from nodes m level p) w ∷ l) (rows nodes m level w ps)

-- the gate's table is that of the operands before they were filled up
pub gate_filled : (kind : Kind) (nodes : List Node) (m level : ℕ) (ps qs : List ℕ) → IsFilled ps qs → gate_from kind nodes m level qs ≡ gate_from kind nodes m level ps
gate_filled kind nodes m level ps qs f =
    table_of-same m (λ w. set_of kind (map (λ t. at t w) (map (table_from nodes m level) qs))) (λ w. set_of kind (map (λ t. at t w) (map (table_from nodes m level) ps))) (λ w e.
    ap (set_of kind) (rows nodes m level w qs)
    ∙ set_of-same kind _ _ (λ k. value_at (λ p. at (table_from nodes m level p) w) (at_zero nodes m level w e) qs k ∙ ap (λ p. at (table_from nodes m level p) w) (f.same k) ∙ sym (value_at (λ p. at (table_from nodes m level p) w) (at_zero nodes m level w e) ps k))
    ∙ ap (set_of kind) (sym (rows nodes m level w ps)))

there_at : (nodes : List Node) (ps : List ℕ) (k : ℕ) → There nodes ps → slice_index_or ps k 0 < length nodes + 2
there_at nodes [] k t = omega arith
there_at nodes (p ∷ ps) zero t = t.0
there_at nodes (p ∷ ps) (suc k) t = there_at nodes ps k t.1

there_by : (nodes : List Node) (qs : List ℕ) → ((k : ℕ) → slice_index_or qs k 0 < length nodes + 2) → There nodes qs
there_by nodes [] h = tt
there_by nodes (q ∷ qs) h = (h 0, there_by nodes qs (λ k. h (suc k)))

-- what is there is there when it is filled up
pub there_filled : (nodes : List Node) (ps qs : List ℕ) → IsFilled ps qs → There nodes ps → There nodes qs
there_filled nodes ps qs f t = there_by nodes qs (λ k. subst (λ (p : ℕ). p < length nodes + 2) (sym (f.same k)) (there_at nodes ps k t))
