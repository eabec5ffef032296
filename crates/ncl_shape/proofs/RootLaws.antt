-- The roots of the banks of a chain.
use Rattle.ncl_shape.proofs.Terms.{AckOf, AreOnly, AreRootsOf, Contains, Contains-from_slice_get, HasMore, HasOne, HasRoots, IsAcknowledged, IsChain, IsFree, IsNetlist, IsOnly, IsOnlyOf, IsRoot, List, NetId, NetlistData, None, Option, Some, [], ap, arith, bank_of_ack_net, cases_lt, get_or, inl, inr, length, length_push, net_at, numbers_of, one_origin, origin_within, slice_get, slice_get-end, slice_get-from_Contains, slice_get-kept, slice_get-some, slice_get_within, subst, sym, ℕ, ◌++◌, ◌+◌, ◌<◌, ◌∙◌, ◌∷◌, ◌≡◌}
use Rattle.ncl_shape.proofs.BankNets.{bank_within, chain_within}
use Rattle.ncl_shape.proofs.AcknowledgeLaws.{first_root_is_port}
use Rattle.ncl_shape.proofs.Places.{number_of_place, net_of_place}

-- the only roots of the first banks
pub record AreOnlyRoots (n : NetlistData) (banks : List NetId) (limit : ℕ) (roots : List NetId) : Type 0 where
  pub as_many : length roots ≡ limit
  pub each : (k : ℕ) (bank root : NetId) → slice_get banks k ≡ Some bank → slice_get roots k ≡ Some root → IsOnly (IsRoot n bank.0) root.0

-- the root of one bank more
pub roots_more : (n : NetlistData) (banks : List NetId) (i : ℕ) (roots : List NetId) (bank root : NetId) → AreOnlyRoots n banks i roots → slice_get banks i ≡ Some bank → IsOnly (IsRoot n bank.0) root.0 → AreOnlyRoots n banks (i + 1) (roots ++ root ∷ [])
roots_more n banks i roots bank root so_far at only = record {
  as_many = omega (arith, length_push roots root, many);
  each = λ k b r at_b at_r. elim (cases_lt k i) [
    | inl less ↦
        let (x, at_x) = slice_get-some roots k (omega (arith, less, many)) in
        let both : Some x ≡ Some r = sym (slice_get-kept roots root k x at_x) ∙ at_r in
        let same : x ≡ r = cc in
        subst (λ (y : NetId). IsOnly (IsRoot n b.0) y.0) same (so_far.each k b x at_b at_x)
    | inr most ↦
        let within = slice_get_within (roots ++ root ∷ []) k r at_r in
        let here : k ≡ i = omega (arith, within, most, length_push roots root, many) in
        let roots_same : Some root ≡ Some r = sym (slice_get-end roots root k (omega (arith, here, many))) ∙ at_r in
        let banks_same : Some bank ≡ Some b = sym at ∙ ap (slice_get banks) (sym here) ∙ at_b in
        let root_same : root ≡ r = cc in
        let bank_same : bank ≡ b = cc in
        subst (λ (y : NetId). IsOnly (IsRoot n b.0) y.0) root_same (subst (λ (y : NetId). IsOnly (IsRoot n y.0) root.0) bank_same only)
  ];
}
  where
    many : length roots ≡ i
    many = so_far.as_many

module _ (n : NetlistData) (is : IsNetlist n) (free : IsFree n) where
  -- a root is a net, of one bank, and that bank is named by a net
  pub root_within : (bank net : ℕ) → IsRoot n bank net → net < length n.nets
  root_within bank net root = origin_within n is net (AckOf bank) root.acks

  pub rooted_within : (bank net : ℕ) → IsRoot n bank net → bank < length n.nets
  rooted_within bank net root = bank_within n is bank (bank_of_ack_net n is net bank root.acks)

  pub bank_of_root_is_one : (net x y : ℕ) → IsRoot n x net → IsRoot n y net → x ≡ y
  bank_of_root_is_one net x y of_x of_y =
      let same : AckOf x ≡ AckOf y = one_origin n is free net (AckOf x) (AckOf y) of_x.acks of_y.acks in
      cc

  module _ (banks : List NetId) (chain : IsChain n (numbers_of banks)) where
    -- where a bank has two roots, or none, not each has one
    pub two_roots : HasMore (IsRoot n) → HasRoots n (numbers_of banks) → ⊥
    two_roots (bank, x, y, of_x, of_y, differ) rooted =
        let one = rooted.one_each bank (chain.every bank (bank_of_ack_net n is x bank of_x.acks)) in
        differ (one.only x of_x ∙ sym (one.only y of_y))

    pub no_root : (table : List (Option NetId)) → AreOnly n (IsRoot n) table → (k : ℕ) (d : NetId) → k < length banks → net_at table (get_or banks k d).0 ≡ None → HasRoots n (numbers_of banks) → ⊥
    no_root table are k d lt none rooted =
        let bank = (get_or banks k d).0 in
        let one = rooted.one_each bank (Contains-from_slice_get (numbers_of banks) k bank (number_of_place banks k d lt)) in
        let nothing = subst (IsOnlyOf (IsRoot n) bank) none (are.each bank (chain_within n is banks chain k d lt)) in
        nothing one.one one.is

    -- where each bank has one, that of the first is an output port
    pub all_rooted : IsAcknowledged n (numbers_of banks) → (limit : ℕ) (roots : List NetId) → length banks ≡ limit → AreOnlyRoots n banks limit roots → HasRoots n (numbers_of banks) × AreRootsOf n banks roots
    all_rooted acks limit roots all are = (
      record { one_each = one_each; first = first_root_is_port n is free (numbers_of banks) chain acks },
      record { as_many = omega (arith, many, all); each = λ k bank root at_bank at_root. let (it, same) = are.each k bank root at_bank at_root in subst (IsRoot n bank.0) same it.is },
    )
      where
        many : length roots ≡ limit
        many = are.as_many

        one_each : (bank : ℕ) → Contains (numbers_of banks) bank → HasOne (IsRoot n bank)
        one_each bank met =
            let (k, at) = slice_get-from_Contains (numbers_of banks) bank met in
            let here = net_of_place banks k bank at in
            let within = slice_get_within banks k (record { 0 = bank }) here in
            let (root, at_root) = slice_get-some roots k (omega (arith, within, many, all)) in
            (are.each k (record { 0 = bank }) root here at_root).0
