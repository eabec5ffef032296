-- The numbers of the banks of a chain that was found: each bank has one, and it is its place in the chain.
use Rattle.ncl_shape.proofs.Terms.{AllZip, Chain, Global, IsBank, IsChainOf, List, NetId, NetlistData, Some, Vec, arith, length, length-map, map, number_at, requests_of, slice_get, slice_get-from_Contains, slice_get_within, sym, ℕ, ◌<◌, ◌∙◌, ◌≡◌}
use Rattle.ncl_shape.proofs.ZippedLists.{AllZip-length}

module _ (n : NetlistData) (c : Chain) (is_chain : IsChainOf n c) where
  -- each bank has a number
  pub bank_number : (bank : ℕ) → IsBank n bank → (number : ℕ) × (number_at c.numbers.items bank ≡ Some number)
  bank_number bank is_bank =
      let (k, at) = slice_get-from_Contains (requests_of c) bank (is_chain.chain.every bank is_bank) in
      (k, is_chain.number k bank at)

  -- a bank stands at one place
  pub one_place : (i j bank : ℕ) → slice_get (requests_of c) i ≡ Some bank → slice_get (requests_of c) j ≡ Some bank → i ≡ j
  one_place i j bank at_i at_j =
      let same : Some i ≡ Some j = sym (is_chain.number i bank at_i) ∙ is_chain.number j bank at_j in cc

  pub as_many_requests : length (requests_of c) ≡ length c.banks.items
  as_many_requests = length-map c.banks.items (λ (bank : NetId). bank.0)

  -- a number is below the number of banks
  pub number_within : (bank k : ℕ) → number_at c.numbers.items bank ≡ Some k → k < length c.banks.items
  number_within bank k said =
      let within = slice_get_within (requests_of c) k bank (is_chain.numbered bank k said) in
      omega (arith, within, as_many_requests)

  -- where there is a list for each bank, a number is below the number of lists
  pub number_in : {X : Type 0} (P : ℕ → List X → Type 0) (lists : List (Vec X Global)) (bank k : ℕ) → number_at c.numbers.items bank ≡ Some k → AllZip P (requests_of c) (map (λ v. v.items) lists) → k < length lists
  number_in P lists bank k said all =
      let within = number_within bank k said in
      let lengths = AllZip-length P (requests_of c) (map (λ v. v.items) lists) all in
      omega (arith, within, lengths, as_many_requests, length-map lists (λ v. v.items))
