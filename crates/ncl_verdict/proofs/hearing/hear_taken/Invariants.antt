use Rattle.ncl_verdict.proofs.Terms.{AreSilent, IsAsked, Some, length, ◌≡◌}
use Rattle.ncl_verdict.proofs.hearing.hear_taken.Given as goal

-- the space can be asked, and nothing is said at the variants that are marked
abbrev pub invariant-asking : goal.invariant-asking
invariant-asking g l = record {
  asked : IsAsked (g.P.Space.meaning l.space) (Some l.shared.limit) l.asked;
  long : length l.silent.items ≡ length l.shared.variants;
  silent : AreSilent l.shared l.silent.items;
}
