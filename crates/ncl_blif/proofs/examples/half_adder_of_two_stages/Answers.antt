use Rattle.ncl_blif.proofs.Terms.{All-from_recursion, Bool, Cover, Gives, [], cond, cover_value, eqb, false, half, map, refl, rest, true, ℕ, ◌∷◌, ◌≡◌}
use Rattle.ncl_blif.proofs.examples.half_adder_of_two_stages.Goals as goal

half_bits : Gives half (true ∷ true ∷ []) (true ∷ false ∷ [])
half_bits =
    let bits : ℕ → Bool = λ signal. cond (eqb signal 3) false true in
    (bits, record { inputs = refl; covers = All-from_recursion (λ (c : Cover). bits c.out ≡ cover_value c.on c.rows (map bits c.ins)) half.covers (refl, (refl, tt)) }, refl)

rest_bits : Gives rest (true ∷ false ∷ []) (true ∷ true ∷ [])
rest_bits =
    let bits : ℕ → Bool = λ signal. cond (eqb signal 1) false true in
    (bits, record { inputs = refl; covers = All-from_recursion (λ (c : Cover). bits c.out ≡ cover_value c.on c.rows (map bits c.ins)) rest.covers (refl, tt) }, refl)

pub returns-clause-gives : goal.returns-clause-gives
returns-clause-gives c = half_bits

pub returns-clause-computes : goal.returns-clause-computes
returns-clause-computes c = (true ∷ false ∷ [], half_bits, (true ∷ true ∷ [], rest_bits, refl))
