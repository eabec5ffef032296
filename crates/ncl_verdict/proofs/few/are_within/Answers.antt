use Rattle.ncl_verdict.proofs.Terms.{arith, nat_le, nat_tests, true, ℕ, ◌<◌, ◌^◌, ◌≡◌, ◌≤◌}
use Rattle.ncl_verdict.proofs.few.are_within.Goals as goal

no_more : (a b : ℕ) → nat_le a b ≡ true → a ≤ b
no_more a b e = grind (arith, nat_tests)

pub returns : goal.returns
returns c = λ enough.
    let within = no_more _ _ enough in
    let below : c.args.limit < 2 ^ 32 = c.ranges.limit.fits in (
      omega (arith, within, below, c.saturating_add-2.ensures, c.saturating_add.ensures),
      omega (arith, within, below, c.saturating_add-2.ensures, c.saturating_add.ensures),
      omega (arith, within, below, c.saturating_add-2.ensures, c.saturating_add.ensures),
    )
