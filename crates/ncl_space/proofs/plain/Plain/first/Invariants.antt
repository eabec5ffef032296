use Rattle.ncl_space.proofs.Terms.{false, is_value, length, plain_space, slice_index_or, ℕ, ◌*◌, ◌<◌, ◌≡◌}
use Rattle.ncl_space.proofs.plain.Plain.first.Given as goal

abbrev pub invariant-loop-j : goal.invariant-loop-j
invariant-loop-j l =
    let t = (plain_space l.fn.self).table l.fn.x in
    (i : ℕ) → i < length t → i < 64 * l.j → is_value l.fn.value (slice_index_or t i false) ≡ false
