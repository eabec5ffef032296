use Rattle.std.proofs.Common.{◌≡◌, length, map, take, filter, ltb}
use Rattle.ncl_delay.proofs.statement.first_fields.Given as goal

-- the first of the fields so far
abbrev pub invariant-loop-part : goal.invariant-loop-part
invariant-loop-part l =
    map (λ field. field.now) l.fields.items ≡ take 5 (filter (λ field. ltb 0 (length field)) (map (λ part. part.now) l.yielded))
