use Rattle.ncl_delay.proofs.Terms.{[], insert_all, map, same_name, take, ◌≡◌}
use Rattle.ncl_delay.proofs.delay_text.number_names.Given as goal

-- the names so far were put in
abbrev pub invariant-loop-cell : goal.invariant-loop-cell
invariant-loop-cell l = l.names.keys ≡ insert_all same_name [] (map (λ cell. cell.name) (take l.cell-index l.cells))
