use Rattle.ncl_top.proofs.Terms.{MOST_NODES, inl, inr, ◌∙◌}
use Rattle.ncl_top.proofs.Demonstrated.{demo_verdict}
use Rattle.ncl_top.proofs.demonstrating.judged.Goals as goal

pub unreachable-requires : goal.unreachable-requires
unreachable-requires g c =
    elim (demo_verdict c.args.demo.now.bits c.args.demo.now.pipeline c.requires.pipeline MOST_NODES) [
      | inl accepted ↦ c.in_default.not-Accepted (c.in_ok-verdict.ensures ∙ accepted)
      | inr over ↦ c.in_default.not-Limit over.0 (c.in_ok-verdict.ensures ∙ over.1)
    ]
