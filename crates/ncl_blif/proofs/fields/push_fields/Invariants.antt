use Rattle.std.proofs.Common.{◌≡◌, ◌++◌, length, map, filter, ltb}
use Rattle.ncl_blif.proofs.fields.push_fields.Given as goal

abbrev pub invariant-loop-part : goal.invariant-loop-part
invariant-loop-part l =
    map (λ field. field.now) l.fields.items ≡ map (λ field. field.now) l.initial.fields.items ++ filter (λ field. ltb 0 (length field)) (map (λ part. part.now) l.yielded)
