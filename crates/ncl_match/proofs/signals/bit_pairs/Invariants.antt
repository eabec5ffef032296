use Rattle.ncl_match.proofs.SignalLaws.{PairsLoop, bit_function, first_tables, length, ◌≡◌}
use Rattle.ncl_match.proofs.signals.bit_pairs.Given as goal

-- the inputs so far have their pairs
abbrev pub invariant-loop-bit : goal.invariant-loop-bit
invariant-loop-bit g l =
    let old = g.P.Space.meaning l.fn.space in
    record {
      many : length l.pairs.items ≡ l.bit;
      done : PairsLoop old (g.P.Space.meaning l.space) (first_tables old.width l.marks) bit_function l.marks l.pairs.items l.bit;
    }
