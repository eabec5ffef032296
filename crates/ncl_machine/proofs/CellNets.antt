-- The net that a cell drives is no rail of the source, and not the sink's acknowledge.
use Rattle.ncl_machine.proofs.Terms.{Bool, Cell, IsLayoutOf, Layout, Member, Part, PipelineData, arith, in_rail, of_bank, of_stage, of_tree, rail-no_output, rail-within, rail_nets, stage_nets, subst, suc, sym, width, ℕ, ◌<◌, ◌∙◌, ◌≡◌}
use Rattle.ncl_machine.proofs.StageNets.{rail-listed, gate-listed, tree-listed, ki-listed}

module _ {p : PipelineData} {l : Layout} (is : IsLayoutOf p l) where
  pub output-no_source : (cell : Cell) → Part l cell → (b : ℕ) (r : Bool) → b < width l 0 → in_rail l 0 b r ≡ cell.out.0 → ⊥
  output-no_source cell (of_stage j g le m same) b r lt e =
      let first : j ≡ 0 =
      is.stages_apart j 0 (in_rail l 0 b r) le (omega arith) (subst (λ x. Member x (stage_nets l j)) (sym same.out ∙ sym e) (gate-listed (l.stage j) g m)) (rail-listed (l.stage 0) b r lt) in
      rail-no_output (l.stage j) (is.is_stage j le) (in_rail l 0 b r)
      (subst (λ x. Member (in_rail l 0 b r) (rail_nets (l.stage x).inputs)) (sym first) (rail-within (l.stage 0).inputs b r lt)) g m (sym same.out ∙ sym e)
  output-no_source cell (of_bank j a q lt within on) b r lb e =
      let first : suc j ≡ 0 =
      is.stages_apart (suc j) 0 (in_rail l 0 b r) lt (omega arith) (subst (λ x. Member x (stage_nets l (suc j))) (sym on.out ∙ sym e) (rail-listed (l.stage (suc j)) a q within)) (rail-listed (l.stage 0) b r lb) in
      omega (arith, first)
  output-no_source cell (of_tree j lt m) b r lb e =
      is.apart 0 j (in_rail l 0 b r) (omega arith) (omega (arith, lt)) (rail-listed (l.stage 0) b r lb)
      (subst (λ x. Member x (l.tree_nets j)) (sym e) (tree-listed is j cell lt m))

  pub output-no_ki : (cell : Cell) → Part l cell → p.ki ≡ cell.out.0 → ⊥
  output-no_ki cell (of_stage j g le m same) e =
      is.apart j l.last p.ki le (omega arith) (subst (λ x. Member x (stage_nets l j)) (sym same.out ∙ sym e) (gate-listed (l.stage j) g m)) (ki-listed is)
  output-no_ki cell (of_bank j a q lt within on) e =
      is.apart (suc j) l.last p.ki lt (omega arith)
      (subst (λ x. Member x (stage_nets l (suc j))) (sym on.out ∙ sym e) (rail-listed (l.stage (suc j)) a q within)) (ki-listed is)
  output-no_ki cell (of_tree j lt m) e =
      let same : j ≡ l.last =
      is.trees_apart j l.last p.ki (omega (arith, lt)) (omega arith) (subst (λ x. Member x (l.tree_nets j)) (sym e) (tree-listed is j cell lt m)) (ki-listed is) in
      omega (arith, lt, same)

  -- nor is a rail of the source that acknowledge
  pub source-no_ki : (b : ℕ) (r : Bool) → b < width l 0 → in_rail l 0 b r ≡ p.ki → ⊥
  source-no_ki b r lt e =
      is.apart 0 l.last p.ki (omega arith) (omega arith) (subst (λ x. Member x (stage_nets l 0)) e (rail-listed (l.stage 0) b r lt)) (ki-listed is)
