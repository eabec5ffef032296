-- There is at most one reply to the files of a comparison.
use Rattle.ncl_sim_match.proofs.Terms.{AreModelsText, AreRefusedModels, Circuit, CompareFault, Compared, Differ, Err, Files, Full, IsAnswer, IsMatchReply, IsMatched, IsModelsMatched, IsPipelineText, IsReadReply-alike, IsRefusedText, IsSamePipeline, List, Model, Ok, PipelineData, Result, Same, Shape, Some, Widths, ap, circuit_of, codes, differ_line, differs, full, limit_line, line, one_pipeline, one_whole, out_of_memory, refl, refused_is_none, refused_once, same, shape_is_one, subst, sym, widths, widths_line, ℕ, ◌∙◌, ◌≡◌, ◌≢◌}
use Rattle.ncl_match.specs.declared.answer.CompareFault.TheVariants.{Memory}
use Rattle.ncl_sim_match.proofs.ModelsText.{one_models, refused_models_none, refused_models_once}
use Rattle.ncl_sim_match.proofs.Simulated.{SameReply}

-- the status and the text that tell an answer
abbrev status_told : Result Compared CompareFault → ℕ
status_told (Ok Same) = 0
status_told (Ok (Differ word output)) = 1
status_told (Ok Widths) = 1
status_told (Err (Full output)) = 6
status_told (Err Memory) = 7

abbrev text_told : Circuit → List Model → ℕ → Result Compared CompareFault → List ℕ
text_told c models limit (Ok Same) = line (codes "same")
text_told c models limit (Ok (Differ word output)) = differ_line word output
text_told c models limit (Ok Widths) = widths_line c models
text_told c models limit (Err (Full output)) = limit_line output limit
text_told c models limit (Err Memory) = out_of_memory

-- they tell an answer that isn't want of memory
record IsTold (c : Circuit) (models : List Model) (limit status : ℕ) (text : List ℕ) : Type 0 where
  answer : Result Compared CompareFault
  own : answer ≢ Err Memory
  is : IsAnswer c models limit answer
  ends : status ≡ status_told answer
  says : text ≡ text_told c models limit answer

told : (c : Circuit) (models : List Model) (limit : ℕ) {status : ℕ} {text : List ℕ} → IsMatched c models limit status text → IsTold c models limit status text
told c models limit (widths is) = record { answer = Ok Widths; own = λ e. absurd cc; is = is; ends = refl; says = refl }
told c models limit (full output is) = record { answer = Err (Full output); own = λ e. absurd cc; is = is; ends = refl; says = refl }
told c models limit (differs word output is) = record { answer = Ok (Differ word output); own = λ e. absurd cc; is = is; ends = refl; says = refl }
told c models limit (same is) = record { answer = Ok Same; own = λ e. absurd cc; is = is; ends = refl; says = refl }

one_matched : (c : Circuit) (models : List Model) (limit : ℕ) {status other : ℕ} {text line : List ℕ} → IsMatched c models limit status text → IsMatched c models limit other line → SameReply status other text line
one_matched c models limit first second =
    let one = told c models limit first in
    let two = told c models limit second in
    let alike = one_whole c models limit one.answer two.answer one.own two.own one.is two.is in
    (one.ends ∙ ap status_told alike ∙ sym two.ends, one.says ∙ ap (text_told c models limit) alike ∙ sym two.says)

-- two pipelines of one netlist are one circuit
same_circuit : (p q : PipelineData) → p.netlist ≡ q.netlist → Shape p.netlist p → Shape p.netlist q → circuit_of p ≡ circuit_of q
same_circuit p q alike shape_p shape_q =
    let one : IsSamePipeline p q = shape_is_one p.netlist shape_p.is_netlist p q shape_p shape_q in
    λ i. record { netlist = alike i; inputs = one.inputs i; outputs = one.outputs i }

module _ (files : Files) (p q : PipelineData) (alike : circuit_of p ≡ circuit_of q) where
  one_compared : (blif : List ℕ) (limit : ℕ) {status other : ℕ} {text line : List ℕ} → IsModelsMatched (Some files) p blif limit status text → IsModelsMatched (Some files) q blif limit other line → SameReply status other text line
  one_compared blif limit =
      IsReadReply-alike AreRefusedModels AreModelsText (λ models. IsMatched (circuit_of p) models limit) SameReply (λ models. IsMatched (circuit_of q) models limit)
      (λ bytes text line none none'. (refl, refused_models_once bytes none none')) (λ bytes text models none said. refused_models_none bytes models none said)
      (λ bytes models models' said said' status other text line reply reply'.
      let one : models ≡ models' = one_models bytes models models' said said' in
      one_matched (circuit_of q) models' limit
      (subst (λ c. IsMatched c models' limit status text) alike (subst (λ ms. IsMatched (circuit_of p) ms limit status text) one reply)) reply')
      files blif

-- the files determine the status and the text
pub one_match_reply : (files : Files) (netlist blif : List ℕ) (limit : ℕ) {status other : ℕ} {text line : List ℕ} → IsMatchReply (Some files) netlist blif limit status text → IsMatchReply (Some files) netlist blif limit other line → SameReply status other text line
one_match_reply files netlist blif limit =
    IsReadReply-alike IsRefusedText IsPipelineText (λ p. IsModelsMatched (Some files) p blif limit) SameReply (λ p. IsModelsMatched (Some files) p blif limit)
    (λ bytes text line none none'. (refl, refused_once bytes none none')) (λ bytes text p none is. refused_is_none bytes p none is)
    (λ bytes p q is also status other text line reply reply'. let (alike, shape) = one_pipeline bytes p q is also in one_compared files p q (same_circuit p q alike is.shape shape) blif limit reply reply')
    files netlist
