use Rattle.ncl_reader.proofs.Terms.{take, AllDigits}
use Rattle.ncl_reader.proofs.bit.are_digits.Given as goal

-- the bytes so far are digits
abbrev pub invariant-loop-byte : goal.invariant-loop-byte
invariant-loop-byte l = AllDigits 10 (take l.byte-index l.bytes)
