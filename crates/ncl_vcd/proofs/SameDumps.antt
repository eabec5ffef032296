-- A dump asks nothing of a pipeline's stages, so the pipelines of one netlist have the same dumps.
use Rattle.ncl_vcd.proofs.Terms.{Bool, Fire, Fired, Item, List, Lower, NetlistData, PipelineData, Raise, Ready, Shape, StageData, State, Take, [], ap, change_by, changes_of, dump_of, dump_text, net_of_step, other-is, refl, reset, shape_is_one, step, step-same, subst, sym, values_in, with_stages, ◌++◌, ◌∙◌, ◌∷◌, ◌≡◌}

module _ (p : PipelineData) (stages : List StageData) where
  net-same : (s : State) (item : Item) → net_of_step (with_stages p stages) s item ≡ net_of_step p s item
  net-same s (Fire cell) = refl
  net-same s (Raise bit) = refl
  net-same s (Lower bit) = refl
  net-same s Take = refl
  net-same s Ready = refl

  changes-same : (s : State) (steps : List Fired) → changes_of (with_stages p stages) s steps ≡ changes_of p s steps
  changes-same s [] = refl
  changes-same s (f ∷ steps) =
      (λ i. change_by f (step-same p stages s f.item i) (net-same s f.item i) ++ changes_of (with_stages p stages) (step-same p stages s f.item i) steps)
      ∙ ap (λ changes. change_by f (step p s f.item) (net_of_step p s f.item) ++ changes) (changes-same (step p s f.item) steps)

  dump-same : (offered : List (List Bool)) (steps : List Fired) → dump_of p offered steps ≡ dump_of (with_stages p stages) offered steps
  dump-same offered steps = ap (dump_text p.netlist.name p.netlist.nets (values_in p (reset p offered))) (sym (changes-same (reset p offered) steps))

pub same_dump : (n : NetlistData) (p q : PipelineData) (offered : List (List Bool)) (steps : List Fired) → Shape n p → Shape n q → dump_of p offered steps ≡ dump_of q offered steps
same_dump n p q offered steps shape_p shape_q =
    subst (λ (r : PipelineData). dump_of p offered steps ≡ dump_of r offered steps) (other-is p q (shape_is_one n shape_p.is_netlist p q shape_p shape_q)) (dump-same p q.stages offered steps)
