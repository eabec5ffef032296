use Rattle.ncl_bank.proofs.Terms.{map, net_name_of, range_with_len, ◌-◌, ◌≡◌}
use Rattle.ncl_bank.proofs.nets.net_names.Given as goal

-- the names so far
abbrev pub invariant-loop-number : goal.invariant-loop-number
invariant-loop-number l = l.names.items ≡ map (net_name_of l.prefix) (range_with_len l.first (l.number - l.first))
