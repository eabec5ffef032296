use Rattle.ncl_verdict.proofs.Terms.{IsNonDecreasingBy-from_sort_by_key, IsPermutation, rules, subst, ℕ}
use Rattle.ncl_verdict.proofs.FileOrder.{sorted-places}
use Rattle.ncl_verdict.proofs.file_order.cells_in_file_order.Goals as goal

pub returns : goal.returns
returns c =
    let ys = c.sort_by_key.new.self.items in
    sorted-places c.args.stage.now c.facts.ensures ys
    (subst (λ xs. IsPermutation xs ys) c.in_ok-cells.ensures c.sort_by_key.ensures.permutation)
    (IsNonDecreasingBy-from_sort_by_key (λ (p : ℕ × ℕ). p.0) ys c.in_ok-sort_by_key.ensures.sorted (λ a r q k. search rules))
