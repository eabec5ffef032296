use Rattle.ncl_reader.proofs.Terms.{◌≡◌, ◌++◌, map, take, bit_port, numbers_of}
use Rattle.ncl_reader.proofs.header.push_bits.Given as goal

-- so many bits stand behind the ports
abbrev pub invariant-loop-place : goal.invariant-loop-place
invariant-loop-place l = l.ports.items ≡ l.fn.ports.items ++ map (bit_port l.name l.output) (take l.place (numbers_of l.span))
