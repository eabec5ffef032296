-- What stands at the places of a list, and entries that are missing.
use Rattle.ncl_shape.proofs.Terms.{Bool, List, NetId, None, Option, Some, [], ap, arith, both_ways, false, get_or, is_some, length, not, numbers_of, refl, slice_get, suc, zero, ℕ, ◌<◌, ◌∙◌, ◌∷◌, ◌≡◌}

-- the number of the net at a place, and back
pub number_of_place : (nets : List NetId) (k : ℕ) (d : NetId) → k < length nets → slice_get (numbers_of nets) k ≡ Some (get_or nets k d).0
number_of_place [] k d lt = absurd (omega arith)
number_of_place (net ∷ nets) zero d lt = refl
number_of_place (net ∷ nets) (suc k) d lt = number_of_place nets k d (omega arith)

pub net_of_place : (nets : List NetId) (k bank : ℕ) → slice_get (numbers_of nets) k ≡ Some bank → slice_get nets k ≡ Some (record { 0 = bank })
net_of_place [] k bank at = absurd cc
net_of_place (net ∷ nets) zero bank at =
    let same : net.0 ≡ bank = cc in
    ap (λ (x : ℕ). Some (record { 0 = x })) same
net_of_place (net ∷ nets) (suc k) bank at = net_of_place nets k bank at

-- an entry by the test that it is missing, which fails
pub some_entry : {X : Type 0} (o : Option X) (none : Bool) → is_some o ≡ not none → none ≡ false → (x : X) × (o ≡ Some x)
some_entry None none tells fails = absurd (both_ways false refl (tells ∙ ap not fails))
some_entry (Some x) none tells fails = (x, refl)
