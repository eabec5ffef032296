use Rattle.std.proofs.Common.{◌≡◌, take}
use Rattle.ncl_template.proofs.table.bit_behind.Given as goal

abbrev pub invariant-loop-bit : goal.invariant-loop-bit
invariant-loop-bit l = l.word.items ≡ take l.bit-index l.first
