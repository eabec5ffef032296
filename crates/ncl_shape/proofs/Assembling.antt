-- The banks and the stages of a chain, put together.
use Rattle.ncl_shape.proofs.Terms.{AllZip, AllZip-at, AreBitsOf, AreFewBitsOf, AreInputsOf, AreRailsOf, AreStagesOf, Bank, Bit, Chain, Global, IsChain, IsChainOf, IsChained, IsFewBitBank, IsFree, IsNetlist, IsRoot, List, MOST_BANKS, NetId, NetlistData, Rails, Shape, Some, StageData, Vec, [], ap, arith, get_or, get_or-map, length, length-map, map, refl, requests_of, slice_get, slice_get-get_or, subst, sym, ℕ, ◌+◌, ◌<◌, ◌∙◌, ◌∷◌, ◌≡◌, ◌≤◌}
use Rattle.ncl_shape.proofs.ChainNumbers.{as_many_requests}
use Rattle.ncl_shape.proofs.ShapeLaws.{requests}
use Rattle.ncl_shape.proofs.StageLists.{bank_at}
use Rattle.ncl_shape.proofs.ZippedLists.{AllZip-length}

-- the banks that were made of a chain are requested by it
pub requests_are : (n : NetlistData) (chain : List ℕ) (banks : List Bank) → AllZip (IsFewBitBank n) chain banks → requests banks ≡ chain
requests_are n [] [] all = refl
requests_are n [] (b ∷ banks) all = absurd all
requests_are n (bank ∷ chain) [] all = absurd all
requests_are n (bank ∷ chain) (b ∷ banks) all =
    let first : b.request.0 ≡ bank = all.0.0.request in
    let rest : requests banks ≡ chain = requests_are n chain banks all.1 in
    cc

pub own_requests : (n : NetlistData) (chain : List ℕ) (banks : List Bank) → AllZip (IsFewBitBank n) chain banks → AllZip (IsFewBitBank n) (requests banks) banks
own_requests n chain banks all = subst (λ l. AllZip (IsFewBitBank n) l banks) (sym (requests_are n chain banks all)) all

-- and the bits of such a bank, by a list that is read in place of them
pub bits_of_bank : (n : NetlistData) (chain : List ℕ) (banks : List Bank) → AllZip (IsFewBitBank n) chain banks → (k : ℕ) (b : Bank) → slice_get banks k ≡ Some b → (bits : List Bit) → bits ≡ b.bits → (bank : ℕ) × AreBitsOf n bank bits
bits_of_bank n chain banks all k b at bits are =
    let found = bank_at n banks (own_requests n chain banks all) k b at in
    (b.request.0, subst (AreBitsOf n b.request.0) (sym are) found.0.bits)

module _ (n : NetlistData) (c : Chain) (is_chain : IsChainOf n c) (lists : List (Vec Bit Global)) (are : AllZip (AreFewBitsOf n) (requests_of c) (map (λ l. l.items) lists)) where
  -- as many lists of bits as banks and roots
  pub list_within : (k : ℕ) → k < length lists → (k < length (requests_of c)) × (k < length c.banks.items) × (k < length c.roots.items)
  list_within k lt =
      let mapped = AllZip-length (AreFewBitsOf n) (requests_of c) (map (λ l. l.items) lists) are in
      let lengths = length-map lists (λ l. l.items) in
      let banks = as_many_requests n c is_chain in
      let roots = is_chain.as_many in
      (omega (arith, lt, mapped, lengths), omega (arith, lt, mapped, lengths, banks), omega (arith, lt, mapped, lengths, banks, roots))

  pub as_many_lists : length lists ≡ length (requests_of c)
  as_many_lists =
      let mapped = AllZip-length (AreFewBitsOf n) (requests_of c) (map (λ l. l.items) lists) are in
      omega (arith, mapped, length-map lists (λ l. l.items))

  -- the bank at a place of the chain, from its bits, request and root
  pub made_bank : (k : ℕ) (list : Vec Bit Global) (bits : List Bit) (request root : NetId) → k < length lists → list ≡ get_or lists k list → bits ≡ list.items
      → request ≡ get_or c.banks.items k request → root ≡ get_or c.roots.items k root → IsFewBitBank n (get_or (requests_of c) k 0) (record { bits = bits; request = request; root = root })
  made_bank k list bits request root lt read bits_are request_is root_is =
      let within = list_within k lt in
      let bank : get_or (requests_of c) k 0 ≡ request.0 = get_or-map (λ (b : NetId). b.0) c.banks.items k request 0 within.1 ∙ ap (λ (b : NetId). b.0) (sym request_is) in
      let found = AllZip-at (AreFewBitsOf n) (requests_of c) (map (λ l. l.items) lists) are k (get_or (requests_of c) k 0) [] (slice_get-get_or (requests_of c) k 0 within.0) in
      let same : get_or (map (λ l. l.items) lists) k [] ≡ bits = get_or-map (λ l. l.items) lists k list [] lt ∙ ap (λ l. l.items) (sym read) ∙ sym bits_are in
      let of_bank = subst (AreFewBitsOf n (get_or (requests_of c) k 0)) same found in
      let root_of = is_chain.roots k request root (slice_get-get_or c.banks.items k request within.1 ∙ ap Some (sym request_is)) (slice_get-get_or c.roots.items k root within.2 ∙ ap Some (sym root_is)) in
      (record { request = sym bank; root = subst (λ r. IsRoot n r root.0) (sym bank) root_of; bits = of_bank.0 }, of_bank.1)

module _ (n : NetlistData) (is : IsNetlist n) (free : IsFree n) (chained : IsChained n) (banks : List Bank) (all : AllZip (IsFewBitBank n) (requests banks) banks) (is_chain : IsChain n (requests banks)) (few : length banks ≤ MOST_BANKS) where
  -- the banks of a chain with their stages, the inputs of the first and the rails of the last are the pipeline
  pub shape_is : (stages : List StageData) → AreStagesOf n banks stages → (first last : Bank) (k : ℕ) → slice_get banks 0 ≡ Some first → k + 1 ≡ length banks → slice_get banks k ≡ Some last
      → (inputs outputs : List Rails) → AllZip (AreInputsOf n) first.bits inputs → AllZip (AreRailsOf n) last.bits outputs
      → Shape n (record { netlist = n; banks = banks; stages = stages; inputs = inputs; outputs = outputs; ki = last.request.0; ko = first.root.0 })
  shape_is stages are first last k at_first end at_last inputs outputs of_first of_last = record {
    is_netlist = is;
    netlist = refl;
    free = free;
    chained = chained;
    chain = is_chain;
    banks = bank_at n banks all;
    few_banks = few;
    stages = are.as_many;
    each_stage = are.each;
    inputs = λ b at. subst (λ (x : Bank). AllZip (AreInputsOf n) x.bits inputs) (same 0 first b at_first at) of_first;
    outputs = λ j b ends at.
        let places : k ≡ j = omega (arith, end, ends) in
        let one : last ≡ b = same j last b (subst (λ i. slice_get banks i ≡ Some last) places at_last) at in
        (subst (λ (x : Bank). AllZip (AreRailsOf n) x.bits outputs) one of_last, ap (λ (x : Bank). x.request.0) one);
    ko = λ b at. ap (λ (x : Bank). x.root.0) (same 0 first b at_first at);
  }
    where
      same : (j : ℕ) (x y : Bank) → slice_get banks j ≡ Some x → slice_get banks j ≡ Some y → x ≡ y
      same j x y at_x at_y = let both : Some x ≡ Some y = sym at_x ∙ at_y in cc
