-- Which bank acknowledges which, along a chain.
use Rattle.ncl_shape.proofs.Terms.{AckOf, FromPort, HasEnds, HasOnlyOrigin, IsAcknowledged, IsChain, IsFree, IsInputPort, IsNetlist, IsOutputPort, IsRoot, List, NetId, NetlistData, Some, ap, arith, cases_lt, get_or, inl, inr, length, numbers_of, port, port_origin, slice_get, slice_get-from_Contains, slice_get-some, slice_get_within, subst, sym, ℕ, ◌+◌, ◌-◌, ◌<◌, ◌∙◌, ◌≡◌, ◌≤◌}
use Rattle.ncl_shape.proofs.ChainLaws.{place_in_chain}
use Rattle.ncl_shape.proofs.Places.{number_of_place}

module _ (n : NetlistData) (is : IsNetlist n) (free : IsFree n) (banks : List ℕ) (chain : IsChain n banks) where
  -- where each bank but the last is acknowledged by the next, the bank that an input port asks is the last
  pub acknowledged : HasEnds n → ((k bank next : ℕ) → slice_get banks k ≡ Some bank → slice_get banks (k + 1) ≡ Some next → HasOnlyOrigin n bank (AckOf next)) → IsAcknowledged n banks
  acknowledged ends by_next = record { by_next = by_next; by_port = last }
    where
      last : (k bank : ℕ) → k + 1 ≡ length banks → slice_get banks k ≡ Some bank → IsInputPort n bank
      last k bank whole at =
          let one = ends.last.one in
          let (j, at_one) = slice_get-from_Contains banks one (chain.every one ends.last.is.is_bank) in
          let within = slice_get_within banks j one at_one in
          elim (cases_lt (j + 1) (length banks)) [
            | inl inside ↦
                let (next, at_next) = slice_get-some banks (j + 1) inside in
                let clash = (by_next j one next at_one at_next).only FromPort (port ends.last.is.request) in
                absurd cc
            | inr past ↦
                let places : j ≡ k = omega (arith, within, past, whole) in
                let both : Some one ≡ Some bank = sym at_one ∙ ap (slice_get banks) places ∙ at in
                let same : one ≡ bank = cc in
                subst (IsInputPort n) same ends.last.is.request
          ]

  -- a root of the first bank is no request, as no bank stands before that it could acknowledge
  pub first_root_is_port : IsAcknowledged n banks → (bank root : ℕ) → slice_get banks 0 ≡ Some bank → IsRoot n bank root → IsOutputPort n root
  first_root_is_port acks bank root at is_root =
      elim is_root.used [
        | inr shown ↦ shown
        | inl request ↦
            let (j, at_root) = slice_get-from_Contains banks root (chain.every root request) in
            let within = slice_get_within banks j root at_root in
            elim (cases_lt (j + 1) (length banks)) [
              | inl inside ↦
                  let (next, at_next) = slice_get-some banks (j + 1) inside in
                  let named = (acks.by_next j root next at_root at_next).only (AckOf bank) is_root.acks in
                  let same : bank ≡ next = cc in
                  let places = place_in_chain n is free banks chain 0 (j + 1) bank at (at_next ∙ ap Some (sym same)) in
                  absurd (omega (arith, places))
              | inr past ↦
                  let input = acks.by_port j root (omega (arith, within, past)) at_root in
                  let clash = port_origin n is root (AckOf bank) input is_root.acks in
                  absurd cc
            ]
      ]

-- the banks at the first places are acknowledged by the next
abbrev pub AreAcknowledged : NetlistData → List NetId → ℕ → Type 0
AreAcknowledged n banks limit = (k bank next : ℕ) → k + 1 < limit → slice_get (numbers_of banks) k ≡ Some bank → slice_get (numbers_of banks) (k + 1) ≡ Some next → HasOnlyOrigin n bank (AckOf next)

-- one bank more
pub acknowledged_more : (n : NetlistData) (banks : List NetId) (i : ℕ) (d : NetId) → AreAcknowledged n banks i → 1 ≤ i → i < length banks → HasOnlyOrigin n (get_or banks (i - 1) d).0 (AckOf (get_or banks i d).0) → AreAcknowledged n banks (i + 1)
acknowledged_more n banks i d so_far some within only k bank next lt at at_next =
    elim (cases_lt (k + 1) i) [
      | inl less ↦ so_far k bank next less at at_next
      | inr most ↦
          let here : k ≡ i - 1 = omega (arith, lt, most, some) in
          let there : k + 1 ≡ i = omega (arith, lt, most) in
          let before : Some (get_or banks (i - 1) d).0 ≡ Some bank = sym (number_of_place banks (i - 1) d (omega (arith, within, some))) ∙ ap (slice_get (numbers_of banks)) (sym here) ∙ at in
          let after : Some (get_or banks i d).0 ≡ Some next = sym (number_of_place banks i d within) ∙ ap (slice_get (numbers_of banks)) (sym there) ∙ at_next in
          let same : (get_or banks (i - 1) d).0 ≡ bank = cc in
          let same_next : (get_or banks i d).0 ≡ next = cc in
          subst (λ x. HasOnlyOrigin n bank (AckOf x)) same_next (subst (λ x. HasOnlyOrigin n x (AckOf (get_or banks i d).0)) same only)
    ]

-- and where the rule holds each bank is
pub acknowledged_at : (n : NetlistData) (banks : List NetId) (i : ℕ) (d : NetId) → IsAcknowledged n (numbers_of banks) → 1 ≤ i → i < length banks → HasOnlyOrigin n (get_or banks (i - 1) d).0 (AckOf (get_or banks i d).0)
acknowledged_at n banks i d acks some within =
    let there : i ≡ i - 1 + 1 = omega (arith, some) in
    acks.by_next (i - 1) _ _ (number_of_place banks (i - 1) d (omega (arith, within, some))) (ap (slice_get (numbers_of banks)) (sym there) ∙ number_of_place banks i d within)
