use Rattle.ncl_blif.proofs.Terms.{drop, length, map, numbered_cover, without_rows, ◌++◌, ◌≡◌}
use Rattle.ncl_blif.proofs.finish.with_rows.Given as goal

-- the covers so far have their rows, the others have none yet
abbrev pub invariant-loop-cover : goal.invariant-loop-cover
invariant-loop-cover l =
    (l.place ≡ length l.yielded)
    × (l.covers.items ≡ map (numbered_cover l.fn.draft) l.yielded ++ map (λ cover. without_rows (numbered_cover l.fn.draft cover)) (drop l.place l.fn.draft.covers))
