use Rattle.ncl_space.proofs.Terms.{false, plain_space, slice_index_or, ℕ, ◌*◌, ◌<◌, ◌≡◌}
use Rattle.ncl_space.proofs.plain.PlainSpace.same.Given as goal

abbrev pub invariant-loop-j : goal.invariant-loop-j
invariant-loop-j l =
    let s = plain_space l.fn.self in
    (i : ℕ) → i < 64 * l.j → slice_index_or (s.table l.fn.x) i false ≡ slice_index_or (s.table l.fn.y) i false
