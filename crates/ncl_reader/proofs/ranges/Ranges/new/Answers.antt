use Rattle.ncl_reader.proofs.Kept.{◌≡◌, None, ap, ◌∙◌, rules, has_name, vector_at, kept_as, ranges-none}
use Rattle.ncl_reader.proofs.ranges.Ranges.new.Goals as goal

pub returns : goal.returns
returns c = ranges-none _ (λ y.
    let none : vector_at (record { vectors = c.new.result; plain = c.new-2.result }) y ≡ None = search rules in
    ap (λ o. kept_as o (has_name c.new-2.result y)) none ∙ ap (kept_as None) (c.new-2.ensures y))
