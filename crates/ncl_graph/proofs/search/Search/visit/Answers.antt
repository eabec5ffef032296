use Rattle.ncl_graph.proofs.Terms.{Open, arith}
use Rattle.ncl_graph.proofs.Searching.{roots, StaysMet-set, now_met}
use Rattle.ncl_graph.proofs.search.Search.visit.Goals as goal

pub loop-place-init : goal.loop-place-init
loop-place-init c =
    rw (c.in_ok-open.ensures.marks, c.in_ok-open.ensures.passed, c.in_ok-open.ensures.path, c.in_ok-open.ensures.order) record {
      search = roots _ _ _ _ _ _ c.requires.search c.requires.idle c.requires.inside c.requires.fresh;
      met = StaysMet-set _ _ Open (λ e. cc);
      root = now_met c.args.self.now.marks.items c.args.root Open (omega (arith, c.requires.inside, c.requires.search.marked)) (λ e. cc);
    }
