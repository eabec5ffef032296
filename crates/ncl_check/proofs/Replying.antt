-- How the parts of a check come to its reply.
use Rattle.ncl_check.proofs.Terms.{Accepted, Bool, Err, IfOk, IsCheckReply, IsDelayInsensitiveText, IsNetlistText, IsPipelineText, IsRefusedText, IsVerdictText, IsWrongText, List, Memory, NetlistData, NoPipeline, Ok, Outcome, PipelineData, Refused, Reply, Result, Shape, judged, outcome_of, subst, sym, verdict_on, ℕ, ◌≡◌}
use Rattle.ncl_check.proofs.Accepted.{text_works}
use Rattle.ncl_check.proofs.Wrong.{text_wrong}

-- the text of a netlist is that of its pipeline
pub pipeline_text : (bytes : List ℕ) (n : NetlistData) (p : PipelineData) → IsNetlistText bytes n → Shape n p → IsPipelineText bytes p
pipeline_text bytes n p text shape = record {
  text = subst (IsNetlistText bytes) (sym shape.netlist) text;
  shape = subst (λ m. Shape m p) (sym shape.netlist) shape;
}

-- the reply that tells why bytes are the text of no pipeline, where replies stand in a relation
pub refused_reply : (relation : Outcome → List ℕ → Type 0) (bytes : List ℕ) → ((text : List ℕ) → IsRefusedText bytes text → relation NoPipeline text) → (r : Result Reply Memory) → IfOk r (λ reply. reply.outcome ≡ NoPipeline) → IfOk r (λ reply. IsRefusedText bytes reply.text.items) → IfOk r (λ reply. relation reply.outcome reply.text.items)
refused_reply relation bytes follows (Ok reply) ends none = subst (λ outcome. relation outcome reply.text.items) (sym ends) (follows reply.text.items none)
refused_reply relation bytes follows (Err memory) ends none = tt

-- the reply that tells the judgement of their pipeline
pub judged_reply : (limit : ℕ) (why : Bool) (bytes : List ℕ) (p : PipelineData) → IsPipelineText bytes p → (r : Result Reply Memory) → IfOk r (λ reply. reply.outcome ≡ outcome_of (verdict_on limit p)) → IfOk r (λ reply. IsVerdictText why limit p reply.text.items) → IfOk r (λ reply. IsCheckReply limit why bytes reply.outcome reply.text.items)
judged_reply limit why bytes p is (Ok reply) ends told =
    subst (λ outcome. IsCheckReply limit why bytes outcome reply.text.items) (sym ends) (judged p is reply.text.items told)
judged_reply limit why bytes p is (Err memory) ends told = tt

-- an acceptance among the replies says that the pipeline works
pub reply_works : (limit : ℕ) (why : Bool) (bytes : List ℕ) (r : Result Reply Memory) → IfOk r (λ reply. IsCheckReply limit why bytes reply.outcome reply.text.items) → IfOk r (λ reply. reply.outcome ≡ Accepted → IsDelayInsensitiveText bytes)
reply_works limit why bytes (Ok reply) h = λ e. text_works limit why bytes h e
reply_works limit why bytes (Err memory) h = tt

-- and a refusal among them that its stage goes wrong at a word
pub reply_wrong : (limit : ℕ) (why : Bool) (bytes : List ℕ) (r : Result Reply Memory) → IfOk r (λ reply. IsCheckReply limit why bytes reply.outcome reply.text.items) → IfOk r (λ reply. reply.outcome ≡ Refused → IsWrongText limit bytes reply.text.items)
reply_wrong limit why bytes (Ok reply) h = λ e. text_wrong limit why bytes h e
reply_wrong limit why bytes (Err memory) h = tt
