use Rattle.ncl_reader.proofs.Kept.{◌≡◌, Option, Some, None, refl, ap, ◌∙◌, option_map, bytes_eq, btree_map_updates_str, Range, span_of, IsDeclared, has_name, vector_at, kept_as, ranges-more, kept-vector, plain-more}
use Rattle.ncl_reader.proofs.ranges.Ranges.declare.Goals as goal

pub returns-in_default : goal.returns-in_default
returns-in_default c = λ xs range is declares same agree small.
    let plain : (other : Option Range) → IsDeclared xs c.args.name.now other → option_map span_of other ≡ None = λ other declared. agree other declared ∙ c.in_default.is in
    ranges-more c.args.self.now _ xs c.args.name.now range None (plain-more c.args.self.now (record { vectors = c.args.self.now.vectors; plain = c.add.new.self }) xs c.args.name.now is plain (λ y. refl) (c.in_ok-add.ensures {u = tt})) is declares (same ∙ c.in_default.is) plain (λ s e. small s (c.in_default.is ∙ e))

pub returns : goal.returns
returns c = λ xs range is declares same agree small.
    let old = c.args.self.now in
    let x = c.args.name.now in
    let span = c.in-Some.span in
    ranges-more old _ xs x range (Some span) (λ y.
    ap (kept_as _) (c.in_ok-sort.ensures {u = tt} y)
    ∙ ap (λ o. kept_as o (has_name old.plain y)) (btree_map_updates_str x old.vectors c.insert.new.self _ c.in-Ok.ensures.updates y)
    ∙ kept-vector (bytes_eq x y) span (vector_at old y) (has_name old.plain y)) is declares (same ∙ c.in-Some.is) (λ other declared. agree other declared ∙ c.in-Some.is) (λ s e. small s (c.in-Some.is ∙ e))
