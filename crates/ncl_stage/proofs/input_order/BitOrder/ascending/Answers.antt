use Rattle.ncl_stage.proofs.Terms.{IsOrderOf, List, [], ap, arith, length, length-range_with_len, range_with_len, subst, sym, with_bits, ℕ, ◌∙◌, ◌≡◌, ◌≤◌}
use Rattle.ncl_stage.proofs.OrderLaws.{ascending-is, ascending-order}
use Rattle.ncl_stage.proofs.input_order.BitOrder.ascending.Goals as goal

-- bits that were added to none stand in ascending order
added : (none found : List ℕ) (bits : ℕ) → none ≡ [] → found ≡ with_bits none (range_with_len 0 bits) → found ≡ range_with_len 0 bits
added none found bits empty is = is ∙ ap (λ l. with_bits l (range_with_len 0 bits)) empty ∙ ascending-is bits

-- bits in ascending order are an order of as many as there are
ascending-invariant : (n : ℕ) (keys : List ℕ) → keys ≡ range_with_len 0 n → n ≤ 128 → IsOrderOf (length keys) keys × (length keys ≤ 128)
ascending-invariant n keys is few =
    let size : length (range_with_len 0 n) ≡ n = length-range_with_len 0 n in
    subst (λ order. IsOrderOf (length order) order × (length order ≤ 128)) (sym is)
    (subst (λ many. IsOrderOf many (range_with_len 0 n)) (sym size) (ascending-order n), omega arith)

pub invariant_of-result : goal.invariant_of-result
invariant_of-result c = ascending-invariant c.args.bits _ (added _ _ c.args.bits c.new-places.ensures.empty c.in_ok-add_bits.ensures) c.requires

pub returns-clause-bits : goal.returns-clause-bits
returns-clause-bits c = added _ _ c.args.bits c.new-places.ensures.empty c.in_ok-add_bits.ensures

pub returns-clause-each : goal.returns-clause-each
returns-clause-each c = subst (IsOrderOf c.args.bits) (sym (added _ _ c.args.bits c.new-places.ensures.empty c.in_ok-add_bits.ensures)) (ascending-order c.args.bits)
