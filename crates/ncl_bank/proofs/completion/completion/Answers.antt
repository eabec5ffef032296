use Rattle.ncl_bank.proofs.Terms.{AreNumbered, Conjunctions, GateTree, GatesData, [], ap, arith, length, length-map-range_with_len, map-range_with_len_more, nets_below, subst, sym, ◌++◌, ◌∙◌, ◌∷◌, ◌≡◌}
use Rattle.ncl_bank.proofs.Numbered.{net_at}
use Rattle.ncl_bank.proofs.completion.completion.Goals as goal

pub loop-number-preserved : goal.loop-number-preserved
loop-number-preserved c =
    c.in_ok-push.ensures.items ∙ ap (λ nets. nets ++ net_at c.loop-number.number ∷ []) c.loop-number.invariant
    ∙ sym (map-range_with_len_more net_at 0 c.loop-number.number c.loop-number.number (omega arith))

pub add_tree-requires-clause-room : goal.add_tree-requires-clause-room
add_tree-requires-clause-room c =
    let leaves : length c.deref.result.now ≡ c.loop-number.number = ap length (c.deref.ensures.value ∙ c.loop-number.invariant) ∙ length-map-range_with_len net_at 0 c.loop-number.number in
    rw c.new-gates.ensures (omega (arith, leaves))

pub returns : goal.returns
returns c =
    let added = c.in_ok-add_tree.ensures.tree in
    let leaves : c.deref.result.now ≡ nets_below c.args.bits = c.deref.ensures.value ∙ c.loop-number.invariant ∙ ap nets_below (omega arith) in
    let none : c.new-gates.result.cells ≡ [] = ap (λ (gates : GatesData). gates.cells) c.new-gates.ensures in
    let made : c.add_tree.new.gates.cells ≡ added.made = added.added ∙ ap (λ cells. cells ++ added.made) none in
    let count : length c.deref.result.now ≡ c.args.bits = ap length leaves ∙ length-map-range_with_len net_at 0 c.args.bits in
    record {
      numbered = subst AreNumbered c.gates.view_is c.gates.invariant;
      first = c.add_tree.ensures.first ∙ ap (λ (gates : GatesData). gates.first) c.new-gates.ensures;
      root = c.in_ok-add_tree.field-0;
      tree = rw made (subst (λ nets. GateTree Conjunctions nets added.made c.in_ok-add_tree.field-0) leaves added.is_tree);
      few = rw made (omega (arith, added.few, count));
    }
