use Rattle.ncl_sim.proofs.Terms.{None, least_of, looks, loses, meaning, take, ◌≡◌}
use Rattle.ncl_sim.proofs.looking.look_all.Given as goal

abbrev pub invariant-loop-number : goal.invariant-loop-number
invariant-loop-number l =
    (l.agenda ≡ looks l.course.pipeline l.course.delays (meaning l.state) l.time l.initial.agenda (take l.number-index l.numbers))
    × (l.lost ≡ least_of (loses l.course.pipeline (meaning l.state) l.initial.agenda) None (take l.number-index l.numbers))
