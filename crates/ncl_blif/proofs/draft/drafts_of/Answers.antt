use Rattle.ncl_blif.proofs.Terms.{List, ap, arith, drop, err_from_is_err_and, inl, inr, take, take_rest, ℕ, ⊎_elim, ◌+◌, ◌-◌, ◌≡◌}
use Rattle.ncl_blif.proofs.Sections.{drafted-more, drafted-broken, section-room}
use Rattle.ncl_blif.proofs.draft.drafts_of.Goals as goal

-- the parts from a place on, up to one that is so many places further
section_of : {A : Type 0} (parts : List A) (at n : ℕ) → take (at + n - at) (drop at parts) ≡ take n (drop at parts)
section_of parts at n = let count : at + n - at ≡ n = omega arith in ap (λ n. take n (drop at parts)) count

pub of_parts-requires : goal.of_parts-requires
of_parts-requires c =
    let section = section_of c.args.parts.now c.loop-at.at c.section_length.result in
    omega (arith, section-room c.args.parts.now _ c.loop-at.at c.section_length.result section, c.requires)

pub returns-in_err-of_parts : goal.returns-in_err-of_parts
returns-in_err-of_parts c =
    let section = section_of c.args.parts.now c.loop-at.at c.section_length.result in
    let cut = rw (take_rest c.args.parts.now c.loop-at.at) at c.section_length.ensures.cut in
    let p = err_from_is_err_and c.from_residual.result c.from_residual.ensures.1 in
    rw (p.1, p.2) (⊎_elim (λ memory. inl memory)
    (λ broken. inr (drafted-broken c.args.parts.now _ c.loop-at.at c.section_length.result c.loop-at.drafts.items _ c.loop-at.invariant cut section broken))
    c.in_err-of_parts.ensures)

pub loop-at-preserved : goal.loop-at-preserved
loop-at-preserved c =
    let section = section_of c.args.parts.now c.loop-at.at c.section_length.result in
    let cut = rw (take_rest c.args.parts.now c.loop-at.at) at c.section_length.ensures.cut in
    let fits = rw (take_rest c.args.parts.now c.loop-at.at) at c.section_length.ensures.within in
    rw c.in_ok-push.ensures.items
    (drafted-more c.args.parts.now _ c.loop-at.at c.section_length.result c.loop-at.drafts.items _ c.loop-at.invariant fits cut section c.in_ok-of_parts.ensures.1 c.in_ok-of_parts.ensures.0)
