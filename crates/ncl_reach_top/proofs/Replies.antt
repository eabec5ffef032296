-- How the parts of a reply come to the whole.
use Rattle.ncl_reach_top.proofs.Terms.{Accepted, IfOk, IfOk-weaker, IsDelayInsensitive, IsDelayInsensitiveText, IsPipelineReply, IsPipelineText, IsReachReply, IsWrongFor, IsWrongForInput, List, Memory, Outcome, PipelineData, Refused, Reply, Result, Shape, delay_insensitive, held, judgement-sound, never, past, reached-insensitive, refl, refused, shown, shown-sensitive, sound, subst, ℕ, ◌≡◌}
use Rattle.ncl_reach_top.specs.Reply.{replied}

-- the reply to their pipeline
pub pipeline_reply : (limit : ℕ) (bytes : List ℕ) (p : PipelineData) → IsPipelineText bytes p → (r : Result Reply Memory) → IfOk r (λ reply. IsPipelineReply limit p reply.outcome reply.text.items) → IfOk r (λ reply. IsReachReply limit bytes reply.outcome reply.text.items)
pipeline_reply limit bytes p is r h = IfOk-weaker r _ _ (λ reply told. replied p is reply.outcome reply.text.items told) h

-- the text of a pipeline that works
works_text : (bytes : List ℕ) (p : PipelineData) → IsPipelineText bytes p → IsDelayInsensitive p → IsDelayInsensitiveText bytes
works_text bytes p is insensitive = record {
  parts = is.text.parts;
  reads = is.text.reads;
  builds = is.text.builds;
  pipeline = p;
  shape = subst (λ n. Shape n p) is.text.netlist is.shape;
  insensitive = insensitive;
}

-- an acceptance says that the pipeline works
works_by : (limit : ℕ) (p : PipelineData) → Shape p.netlist p → {outcome : Outcome} {text : List ℕ} → IsPipelineReply limit p outcome text → outcome ≡ Accepted → IsDelayInsensitive p
works_by limit p shape (never null answers) e = reached-insensitive p shape null answers
works_by limit p shape (sound accepted) e = delay_insensitive p.netlist p shape (judgement-sound limit p.stages accepted)
works_by limit p shape (held some isnt answers) e = absurd cc
works_by limit p shape (shown input v run answers wrong) e = absurd cc
works_by limit p shape (past stage answers) e = absurd cc

pub reach_works : (limit : ℕ) (bytes : List ℕ) {outcome : Outcome} {text : List ℕ} → IsReachReply limit bytes outcome text → outcome ≡ Accepted → IsDelayInsensitiveText bytes
reach_works limit bytes (refused text none) e = absurd cc
reach_works limit bytes (replied p is outcome text told) e = works_text bytes p is (works_by limit p is.shape told e)

-- a refusal that it goes wrong for an input
wrong_by : (limit : ℕ) (p : PipelineData) → Shape p.netlist p → {outcome : Outcome} {text : List ℕ} → IsPipelineReply limit p outcome text → outcome ≡ Refused → IsWrongFor limit p text
wrong_by limit p shape (never null answers) e = absurd cc
wrong_by limit p shape (sound accepted) e = absurd cc
wrong_by limit p shape (held some isnt answers) e = absurd cc
wrong_by limit p shape (shown input v run answers wrong) e = record {
  verdict = v;
  input = input;
  run = run;
  told = refl;
  shown = answers;
  means = (shown-sensitive p shape input v answers, wrong);
}
wrong_by limit p shape (past stage answers) e = absurd cc

pub reach_wrong : (limit : ℕ) (bytes : List ℕ) {outcome : Outcome} {text : List ℕ} → IsReachReply limit bytes outcome text → outcome ≡ Refused → IsWrongForInput limit bytes text
reach_wrong limit bytes (refused text none) e = absurd cc
reach_wrong limit bytes (replied p is outcome text told) e = record { pipeline = p; is = is; wrong = wrong_by limit p is.shape told e }
