use Rattle.ncl_blif.proofs.Terms.{map, numbered_cover, take, without_rows, ◌≡◌}
use Rattle.ncl_blif.proofs.finish.numbered_covers.Given as goal

-- the covers so far, by numbers and without their rows
abbrev pub invariant-loop-cover : goal.invariant-loop-cover
invariant-loop-cover l = l.covers.items ≡ map (λ cover. without_rows (numbered_cover l.draft cover)) (take l.cover-index l.cover-items)
