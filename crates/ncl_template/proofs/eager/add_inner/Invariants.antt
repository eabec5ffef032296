use Rattle.ncl_template.proofs.Terms.{AddsInner, AreInner, List, NetId, StageCell, [], drop, length, nets_so_far, ◌+◌, ◌≡◌, ◌≤◌}
use Rattle.ncl_template.proofs.eager.add_inner.Given as goal

-- with those that are left all are added
abbrev pub invariant-loop-gate : goal.invariant-loop-gate
invariant-loop-gate l = record {
  rest : (after : List StageCell) (all : List NetId) → AddsInner l.ins l.nets.items (drop l.gate-index l.inner) l.gates.cells after all → AddsInner l.ins [] l.inner l.initial.gates.cells after all;
  left : AreInner (length l.ins) l.gate-index (drop l.gate-index l.inner);
  count : length l.nets.items ≡ l.gate-index;
  few : nets_so_far l.gates ≤ nets_so_far l.initial.gates + l.gate-index;
  first : l.gates.first ≡ l.initial.gates.first;
}
