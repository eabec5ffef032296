-- Stages that give the answers of networks, and the function of a pipeline of such stages.
use Rattle.ncl_compile.proofs.Terms.{All, AllZip, Answers, Bool, Computes, ComputesModel, Gives, IsSound, List, Model, NetlistData, Network, PipelineData, Shape, StageData, [], answer_of, ap, composed, function_of, is_composition, length, length-map, stage_function, subst, sym, ◌∙◌, ◌∷◌, ◌≡◌}

-- the word of a model has as many bits as the model has inputs
width_of_word : (model : Model) (word answer : List Bool) → Gives model word answer → length word ≡ length model.inputs
width_of_word model word answer (bits, fits, is) = sym (ap length fits.inputs) ∙ length-map model.inputs bits

-- a stage that gives the answers of a network gives those of the model that folded into it
pub ComputesModel-from_network : (model : Model) (network : Network) (s : StageData) → length s.inputs ≡ length model.inputs → length s.outputs ≡ length model.outputs
    → ((word answer : List Bool) → Gives model word answer → answer ≡ answer_of network word) → Answers network s → ComputesModel model s
ComputesModel-from_network model network s inputs outputs same answers = record {
  inputs = inputs;
  outputs = outputs;
  answers = λ word answer gives. answers word (width_of_word model word answer gives ∙ sym inputs) ∙ sym (same word answer gives);
}

-- so stages that give the answers of models compute, one after another, what the models do
composed-computes : (models : List Model) (stages : List StageData) → AllZip ComputesModel models stages → (word answer : List Bool) → Computes models word answer → composed stages word ≡ answer
composed-computes [] [] each word answer same = sym same
composed-computes [] (s ∷ stages) each word answer computes = absurd each
composed-computes (model ∷ models) [] each word answer computes = absurd each
composed-computes (model ∷ models) (s ∷ stages) each word answer (between, gives, rest) =
    let first : stage_function s word ≡ between = each.0.answers word between gives in
    composed-computes models stages each.1 (stage_function s word) answer (subst (λ w. Computes models w answer) (sym first) rest)

-- and that is the function of a pipeline of these stages, where they are sound
pub function-computes : (n : NetlistData) (p : PipelineData) → Shape n p → All IsSound p.stages → (models : List Model) → AllZip ComputesModel models p.stages
    → (word answer : List Bool) → length word ≡ length p.inputs → Computes models word answer → function_of p word ≡ answer
function-computes n p shape sound models each word answer width computes =
    is_composition n p shape sound word width ∙ composed-computes models p.stages each word answer computes
