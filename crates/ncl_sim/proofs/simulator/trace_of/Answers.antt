use Rattle.ncl_sim.proofs.Quiet.{Fired, Taken, ap, length, map, refl, sym, takes_in, ◌∙◌}
use Rattle.ncl_sim.proofs.simulator.trace_of.Goals as goal

pub delivered-requires-2 : goal.delivered-requires-2
delivered-requires-2 c = ap (λ l. length (takes_in l)) c.deref.ensures.value ∙ c.requires ∙ sym (ap length c.delivered.ensures)

pub returns : goal.returns
returns c = record {
  steps = c.from_vec.ensures;
  times = ap (map (λ (x : Taken). x.time)) c.from_vec-2.ensures ∙ c.in_ok-taken.ensures.times ∙ ap (λ l. map (λ (f : Fired). f.time) (takes_in l)) c.deref.ensures.value;
  pairs = ap (map (λ (x : Taken). x.pair)) c.from_vec-2.ensures ∙ c.in_ok-taken.ensures.pairs ∙ c.delivered.ensures;
  end = refl;
}
