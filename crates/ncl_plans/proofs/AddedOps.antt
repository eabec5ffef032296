-- Operations on signals, added to small nodes.
use Rattle.ncl_plans.proofs.Terms.{Adds, AddsOp, And, Bool, Choose, ComesTo, Differ, Form, IfOk, IfOk-weaker, IsSource, List, Majority, Op, PutsForm, Result, Signal, Small, Stop, bits_of, cond, false, form_value, length, not, op_value, refl, signal_value, true, ◌&&◌, ◌||◌, ◌∙◌, ◌≡◌}
use Rattle.ncl_plans.proofs.Smalls.{three_bits}
use Rattle.ncl_plans.proofs.Pools.{Adds-exists, Adds-keeps, Adds-then}

AddsOp-form : (op : Op) (s t u : Signal) (form : Form) (before after : List Small) (signal : Signal) → ComesTo op s t u form → PutsForm form before after signal → AddsOp op s t u before after signal
AddsOp-form op s t u form before after signal comes put = λ inputs pool s_there t_there u_there.
    let adds : Adds inputs before after (λ word nodes. form_value word nodes form) signal = put inputs pool (comes.over inputs (length before) s_there t_there u_there) in
    record {
      made = adds.made;
      added = adds.added;
      fine = adds.fine;
      exists = adds.exists;
      gives = λ word. adds.gives word ∙ comes.value word (bits_of word before);
    }

-- what an operation comes to, if it is put
pub put_op : (op : Op) (s t u : Signal) (form : Form) (before after : List Small) (result : Result Signal Stop) → ComesTo op s t u form → IfOk result (PutsForm form before after) → IfOk result (AddsOp op s t u before after)
put_op op s t u form before after result comes =
    IfOk-weaker result (PutsForm form before after) (AddsOp op s t u before after) (λ signal. AddsOp-form op s t u form before after signal comes)

choose_by_pairs : (s t u : Bool) → cond t (not (s && cond t (not u) u)) (s && cond t (not u) u) ≡ cond s u t
choose_by_pairs =
    three_bits (λ s t u. cond t (not (s && cond t (not u) u)) (s && cond t (not u) u) ≡ cond s u t) refl refl refl refl refl refl refl refl

majority_by_choice : (s t u : Bool) → cond (cond s (not t) t) u s ≡ cond s (t || u) (t && u)
majority_by_choice true true u = refl
majority_by_choice true false u = refl
majority_by_choice false true u = refl
majority_by_choice false false u = refl

module _ (s t u apart change result : Signal) (before one two after : List Small) (first : (third : Signal) → AddsOp Differ t u third before one apart) (second : (third : Signal) → AddsOp And s apart third one two change) (last : AddsOp Differ t change t two after result) where
  pub AddsOp-choose_by_pairs : AddsOp Choose s t u before after result
  AddsOp-choose_by_pairs = λ inputs pool s_there t_there u_there.
      let differs = λ (a b : Signal) (word nodes : List Bool). op_value Differ (signal_value word nodes a) (signal_value word nodes b) (signal_value word nodes a) in
      let adds1 : Adds inputs before one (differs t u) apart = first t inputs pool t_there u_there t_there in
      let s_one : IsSource inputs (length one) s.from = Adds-exists inputs before one (differs t u) apart adds1 s s_there in
      let t_one : IsSource inputs (length one) t.from = Adds-exists inputs before one (differs t u) apart adds1 t t_there in
      let both = λ (word nodes : List Bool). op_value And (signal_value word nodes s) (signal_value word nodes apart) (signal_value word nodes s) in
      let adds2 : Adds inputs one two both change = second s inputs adds1.fine s_one adds1.exists s_one in
      let t_two : IsSource inputs (length two) t.from = Adds-exists inputs one two both change adds2 t t_one in
      let adds3 : Adds inputs two after (differs t change) result = last inputs adds2.fine t_two adds2.exists t_two in
      let adds23 : Adds inputs one after (λ word nodes. cond (signal_value word nodes t) (not (both word nodes)) (both word nodes)) result =
      Adds-then inputs one two both change adds2 after (differs t change) result (λ word nodes. cond (signal_value word nodes t) (not (both word nodes)) (both word nodes)) adds3
      (λ word. (λ i. cond (Adds-keeps inputs one two both change adds2 word t t_one i) (not (adds2.gives word i)) (adds2.gives word i))) in
      Adds-then inputs before one (differs t u) apart adds1 after (λ word nodes. cond (signal_value word nodes t) (not (both word nodes)) (both word nodes)) result (λ word nodes. op_value Choose (signal_value word nodes s) (signal_value word nodes t) (signal_value word nodes u)) adds23
      (λ word.
      (λ i. cond (Adds-keeps inputs before one (differs t u) apart adds1 word t t_there i) (not (Adds-keeps inputs before one (differs t u) apart adds1 word s s_there i && adds1.gives word i)) (Adds-keeps inputs before one (differs t u) apart adds1 word s s_there i && adds1.gives word i))
      ∙ choose_by_pairs (signal_value word (bits_of word before) s) (signal_value word (bits_of word before) t) (signal_value word (bits_of word before) u))

module _ (s t u apart result : Signal) (before one after : List Small) (first : (third : Signal) → AddsOp Differ s t third before one apart) (last : AddsOp Choose apart s u one after result) where
  pub AddsOp-majority_by_pairs : AddsOp Majority s t u before after result
  AddsOp-majority_by_pairs = λ inputs pool s_there t_there u_there.
      let differs = λ (word nodes : List Bool). op_value Differ (signal_value word nodes s) (signal_value word nodes t) (signal_value word nodes s) in
      let adds1 : Adds inputs before one differs apart = first s inputs pool s_there t_there s_there in
      let s_one : IsSource inputs (length one) s.from = Adds-exists inputs before one differs apart adds1 s s_there in
      let u_one : IsSource inputs (length one) u.from = Adds-exists inputs before one differs apart adds1 u u_there in
      let chosen = λ (word nodes : List Bool). op_value Choose (signal_value word nodes apart) (signal_value word nodes s) (signal_value word nodes u) in
      let adds2 : Adds inputs one after chosen result = last inputs adds1.fine adds1.exists s_one u_one in
      Adds-then inputs before one differs apart adds1 after chosen result (λ word nodes. op_value Majority (signal_value word nodes s) (signal_value word nodes t) (signal_value word nodes u)) adds2
      (λ word.
      (λ i. cond (adds1.gives word i) (Adds-keeps inputs before one differs apart adds1 word u u_there i) (Adds-keeps inputs before one differs apart adds1 word s s_there i))
      ∙ majority_by_choice (signal_value word (bits_of word before) s) (signal_value word (bits_of word before) t) (signal_value word (bits_of word before) u))
