-- An acceptance says that the pipeline is delay-insensitive.
use Rattle.ncl_check.proofs.Terms.{Accepted, Bool, IsCheckReply, IsDelayInsensitiveText, List, Outcome, Shape, Verdict, delay_insensitive, judged, judgement-sound, outcome_of, refl, refused, subst, verdict_on, ℕ, ◌≡◌}
use Rattle.ncl_verdict.specs.declared.verdict.Verdict.TheVariants as verdict

-- only the verdict that nothing is wrong is an acceptance
pub accepted_alone : (v : Verdict) → outcome_of v ≡ Accepted → v ≡ verdict.Accepted
accepted_alone verdict.Accepted e = refl
accepted_alone (verdict.BothRails stage output word) e = cc
accepted_alone (verdict.NoRail stage output word) e = cc
accepted_alone (verdict.Incomplete stage bit word) e = cc
accepted_alone (verdict.Orphan stage cell word) e = cc
accepted_alone (verdict.Limit stage) e = cc

-- bytes with this reply are the text of a netlist that works
pub text_works : (limit : ℕ) (why : Bool) (bytes : List ℕ) {outcome : Outcome} {text : List ℕ} → IsCheckReply limit why bytes outcome text → outcome ≡ Accepted → IsDelayInsensitiveText bytes
text_works limit why bytes (refused text none) e = absurd cc
text_works limit why bytes (judged p is text told) e = record {
  parts = is.text.parts;
  reads = is.text.reads;
  builds = is.text.builds;
  pipeline = p;
  shape = subst (λ n. Shape n p) is.text.netlist is.shape;
  insensitive = delay_insensitive p.netlist p is.shape (judgement-sound limit p.stages (accepted_alone (verdict_on limit p) e));
}
