-- The numbers of the chain that was found.
use Rattle.ncl_shape.proofs.Terms.{AreNumbersOf, IsChain, IsFree, IsNetlist, List, NetlistData, Option, Some, ap, number_at, slice_get, ℕ, ◌∙◌, ◌≡◌}
use Rattle.ncl_shape.proofs.ChainLaws.{place_in_chain}

-- each bank of a chain has its place as its number, as it stands at no other
pub number_is_place : (n : NetlistData) → IsNetlist n → IsFree n → (banks : List ℕ) → IsChain n banks → (numbers : List (Option ℕ)) → AreNumbersOf n banks numbers → (k bank : ℕ) → slice_get banks k ≡ Some bank → number_at numbers bank ≡ Some k
number_is_place n is free banks chain numbers are k bank at =
    let (j, said) = are.each k bank at in
    said ∙ ap Some (place_in_chain n is free banks chain j k bank (are.numbered bank j said) at)
