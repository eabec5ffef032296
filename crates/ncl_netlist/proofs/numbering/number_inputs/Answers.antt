use Rattle.ncl_netlist.proofs.Terms.{[], ap, arith, insert_all, length, length_push, map, net_of, rules, same_name, ◌++◌, ◌+◌, ◌∙◌, ◌∷◌, ◌≡◌, ◌≤◌}
use Rattle.ncl_netlist.proofs.NameLists.{length-insert_all}
use Rattle.ncl_netlist.proofs.Steps.{all_gone, Numbered-more, flat_map-one}
use Rattle.ncl_netlist.proofs.numbering.number_inputs.Goals as goal

pub loop-input-preserved : goal.loop-input-preserved
loop-input-preserved c =
    let keys = c.loop-input.names.keys in
    let one = length-insert_all keys (c.in-Some.input ∷ []) in
    let grown : length c.number_net.new.names.keys ≤ length keys + 1 = rw c.in_ok-number_net.ensures.names one in
    let longer = length_push c.loop-input.yielded c.in-Some.input in (
      rw c.push.ensures.items (Numbered-more net_of (λ x. x ∷ []) _ c.loop-input.yielded keys c.loop-input.ins.items c.in-Some.input c.in_ok-number_net.field-0 _ c.loop-input.invariant.0 c.in_ok-number_net.ensures.names c.in_ok-number_net.ensures.net),
      omega (arith, c.loop-input.invariant.1),
      omega (arith, c.loop-input.invariant.2, c.push.ensures.len),
    )

-- all names were gone through
all_done : (c : goal.After-drop-input-iterator-2) → c.loop-input.yielded ≡ c.args.inputs.items
all_done c = all_gone _ _ c.args.inputs.items c.loop-input.yielded (search rules) (search rules) c.loop-input.yielded_by c.next.result c.next.new.self c.in-None.is c.next.ensures.steps

pub returns-clause-names : goal.returns-clause-names
returns-clause-names c =
    c.loop-input.invariant.0.inserted ∙ ap (λ l. insert_all same_name c.args.names.now.keys l) (flat_map-one c.loop-input.yielded ∙ all_done c)

pub returns-clause-nets : goal.returns-clause-nets
returns-clause-nets c = λ more.
    c.loop-input.invariant.0.numbers more ∙ ap (λ l. map (net_of (c.loop-input.names.keys ++ more)) l) (all_done c)
