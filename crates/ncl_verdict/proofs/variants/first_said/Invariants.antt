use Rattle.ncl_verdict.proofs.Terms.{IsAsked, None, Variant, at_variant, get_or, stopped_within, ℕ, ◌<◌, ◌≡◌}
use Rattle.ncl_verdict.proofs.variants.first_said.Given as goal

-- the space can be asked, and nothing is said at the variants so far
abbrev pub invariant-loop-variant : goal.invariant-loop-variant
invariant-loop-variant g l = record {
  asked : IsAsked (g.P.Space.meaning l.space) (g.P.Space.meaning l.fn.space).limit l.asked;
  none : (k : ℕ) → k < l.variant-index → (d : Variant) → at_variant (stopped_within (g.P.Space.meaning l.fn.space).limit) l.asked.stage (get_or l.variants k d) ≡ None;
}
