-- The source raises a word, from an empty state.
use Rattle.ncl_hazard.proofs.Terms.{Base, Bool, IsLayoutOf, Layout, List, Member, PipelineData, Shape, StageCell, State, [], among, among-from_member, ap, append-nil, arith, bit_at, both_ways, cases_Bool, false, false_from_ne_true, inl, inr, length, list_all, list_all-member, map, member-from_among, named-has, named-place, named_rails, out_of, rail-listed, rail_at, rail_nets, raises, refl, root-listed, stage_nets, subst, sym, tried, true, val-rail, ℕ, ◌&&◌, ◌++◌, ◌∙◌, ◌∷◌, ◌≡◌, ◌≤◌}
use Rattle.ncl_hazard.proofs.NullReset.{IsEmptied}
use Rattle.ncl_hazard.proofs.SourceSweeps.{raised}
use Rattle.ncl_hazard.proofs.Way.{IsUp}
use Rattle.ncl_hazard.proofs.Found.{regs, registers_are, cells_are}

module _ (p : PipelineData) (l : Layout) (is : IsLayoutOf p l) (word : List Bool) where
  abbrev rails : List ℕ
  rails = named_rails p.inputs word

  -- its rails are those of the first bank
  pub rail_source : (net : ℕ) → Member net rails → Member net (stage_nets l 0)
  rail_source net m =
      let (b, lt, e) = named-place (l.stage 0).inputs word net (subst (λ bits. Member net (named_rails bits word)) (sym is.source) m) in
      subst (λ x. Member x (stage_nets l 0)) (sym e) (rail-listed (l.stage 0) b (bit_at word b) lt)

  source_rail : (net : ℕ) → Member net (stage_nets l 0) → Member net (rail_nets (l.stage 0).inputs)
  source_rail net m = subst (Member net) (ap (λ gates. rail_nets (l.stage 0).inputs ++ map out_of gates) is.first_wires.0 ∙ append-nil (rail_nets (l.stage 0).inputs)) m

  pub rails-no_ko : Member p.ko rails → ⊥
  rails-no_ko m = is.apart 0 0 p.ko (omega arith) (omega arith) (rail_source p.ko m) (subst (λ x. Member x (l.tree_nets 0)) is.ko (root-listed is 0 (omega arith)))

  module _ (wide : length word ≡ length p.inputs) (s0 : State) (empty : IsEmptied p l word s0) where
    some_low : false ≡ list_all s0.value rails
    some_low = sym (false_from_ne_true _ (λ all.
        let some : 1 ≤ length (l.stage 0).inputs = (is.is_stage 0 (omega arith)).some_inputs in
        let first = subst (λ bits. Member (rail_at (l.stage 0).inputs 0 (bit_at word 0)) (named_rails bits word)) is.source (named-has (l.stage 0).inputs word (wide ∙ ap length (sym is.source)) 0 (omega (arith, some))) in
        both_ways _ (empty.low 0 (rail_at (l.stage 0).inputs 0 (bit_at word 0)) (omega arith) (rail-listed (l.stage 0) 0 (bit_at word 0) (omega (arith, some))))
        (list_all-member s0.value rails all (rail_at (l.stage 0).inputs 0 (bit_at word 0)) first)))

    -- the rails that the word names have risen, and no other net has changed
    abbrev now : State
    now = tried p s0 (raises (length p.inputs))

    pub raised-empty : (now.offered ≡ word ∷ []) × (now.done ≡ 0) × (now.falling ≡ true) × ((net : ℕ) → Member net rails → now.value net ≡ true) × ((net : ℕ) → (Member net rails → ⊥) → now.value net ≡ s0.value net)
    raised-empty =
        raised p word wide s0.value (subst (λ x. s0.value x ≡ true) is.ko (empty.high 0 (l.root 0) (omega arith) (root-listed is 0 (omega arith)))) rails-no_ko
        s0 empty.offered empty.done (empty.falling ∙ some_low) refl

-- it has come to the first bank then, whatever gates are passed over
pub raised-at_source : (p : PipelineData) (shape : Shape p.netlist p) (l : Layout) (is : IsLayoutOf p l) (word : List Bool) (wide : length word ≡ length p.inputs) (s0 : State) → IsEmptied p l word s0 → (skip : StageCell → Bool)
    → IsUp is (regs p shape l is) (registers_are p shape l is) (cells_are p shape l is) skip word wide 0 Base (tried p s0 (raises (length p.inputs))).value
raised-at_source p shape l is word wide s0 empty skip =
    let (_, _, _, named_high, other_same) = raised-empty p l is word wide s0 empty in
    let rails = named_rails p.inputs word in
    record {
      values = λ net m. let r = source_rail p l is word net m in
          elim (cases_Bool (among rails net)) [
            | inl named ↦
                named_high net (member-from_among net rails named)
                ∙ sym (val-rail (l.stage 0) (is.is_stage 0 (omega arith)) word Base net r ∙ ap (λ bits. among (named_rails bits word) net && true) is.source ∙ ap (λ b. b && true) named)
            | inr other ↦
                other_same net (λ n. both_ways _ other (among-from_member net n)) ∙ empty.low 0 net (omega arith) m
                ∙ sym (val-rail (l.stage 0) (is.is_stage 0 (omega arith)) word Base net r ∙ ap (λ bits. among (named_rails bits word) net && true) is.source ∙ ap (λ b. b && true) other)
          ];
      later = λ j net past lj m.
          other_same net (λ n. absurd (let e = is.stages_apart 0 j net (omega arith) lj (rail_source p l is word net n) m in omega (arith, e, past))) ∙ empty.low j net lj m;
      trees = λ j net lj m. other_same net (λ n. is.apart 0 j net (omega arith) lj (rail_source p l is word net n) m) ∙ empty.high j net lj m;
      data_in = λ j b lj lb. absurd (omega (arith, lj));
    }
