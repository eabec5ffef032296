use Rattle.ncl_compile.proofs.Terms.{BankParts, flat_map, ◌++◌, ◌≡◌}
use Rattle.ncl_compile.proofs.putting.add_banks.Given as goal

abbrev pub invariant-loop-bank : goal.invariant-loop-bank
invariant-loop-bank l = l.cells.items ≡ l.initial.cells.items ++ flat_map (λ (bank : BankParts). bank.cells) l.yielded
