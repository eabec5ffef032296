use Rattle.ncl_vcd.proofs.Terms.{IsFor, IsRunFrom, change_lines, changes_of, drop, flat_map, items_in, line, meaning, take, ◌++◌, ◌≡◌}
use Rattle.ncl_vcd.proofs.RunLaws.{AreSmall}
use Rattle.ncl_vcd.proofs.writing.push_changes.Given as goal

-- with the changes of the steps that are left the text is whole; they are a run from here, and the times so far are small
abbrev pub invariant-loop-next : goal.invariant-loop-next
invariant-loop-next l = record {
  made : IsFor l.pipeline l.state;
  run : IsRunFrom l.pipeline (meaning l.state) (items_in (drop l.next-index l.fired));
  text : l.text.items ++ flat_map line (change_lines l.last (changes_of l.pipeline (meaning l.state) (drop l.next-index l.fired))) ≡ l.fn.text.items ++ flat_map line (change_lines 0 (changes_of l.pipeline (meaning l.fn.state) l.fired));
  small : AreSmall (take l.next-index l.fired);
}
