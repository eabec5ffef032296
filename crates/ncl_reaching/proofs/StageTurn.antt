-- One stage more of a pipeline is asked.
use Rattle.ncl_reaching.proofs.Terms.{All, Answers, AreSoundWhereReached, Bool, BringsFault, EndsWith, HasNoDataBank, IsFaultShown, IsPastLimit, IsShown, IsSound, List, Means, None, Option, PipelineData, Rails, Reached, Shape, Shown, Some, StageData, StageFault, Variant, Verdict, ap, arith, ascending, brings, chain, first_reached, first_shown, followed, followed_by, inputs_of_chain, laid_out, length, nets_of, question_count, shows, slice_get, slice_get_within, subst, suc, sym, verdict_of, wide-at, word-brought, word_on, ℕ, ◌+◌, ◌-◌, ◌<◌, ◌∙◌, ◌≡◌, ◌≤◌}
use Rattle.ncl_reaching.proofs.ChainLaws.{ends-with, inputs-are, nets-within, whole-inputs, word-here}
use Rattle.ncl_reaching.proofs.ReachingLaws.{IsBrought, brought-from_some, first-same, is-shown, number-is, run-as_told, shown-sensitive, sound-from_none, sound-more}

-- the turn of stage k, s, which makes the chain c of the one before it: no stage before it shows a fault where reached
pub record IsTurn (p : PipelineData) (k : ℕ) (s front c : StageData) : Type 0 where
  pub shape : Shape p.netlist p
  pub at : slice_get p.stages k ≡ Some s
  pub sound : AreSoundWhereReached p k
  pub was : front ≡ chain p k
  pub now : c ≡ followed front s

module _ {p : PipelineData} {k : ℕ} {s front c : StageData} (turn : IsTurn p k s front c) where
  -- a stage that is sound at all words is sound where reached
  pub sound-accepted : IsSound s → AreSoundWhereReached p (k + 1)
  sound-accepted good = sound-more p k s turn.at turn.sound (λ input wide fault.
      let (l, is) = laid_out p turn.shape in
      let lt : k < length p.stages = slice_get_within p.stages k s turn.at in
      let many = is.as_many in
      good fault (brings p.stages k input)
      (ap length (sym (word-brought p turn.shape l is input wide k (omega (arith, lt)))) ∙ wide-at is input wide (suc k) (omega (arith, lt, many)) ∙ ap (λ (t : StageData). length t.inputs) (is.in_order k s turn.at)))

  -- as is one of which nothing is found
  pub sound-asked : first_reached p k s ≡ None → AreSoundWhereReached p (k + 1)
  sound-asked none = sound-more p k s turn.at turn.sound (sound-from_none p k s none)

  whole-is : c ≡ chain p (suc k)
  whole-is = turn.now ∙ ap (λ f. followed f s) turn.was ∙ sym (ap (followed_by (chain p k)) turn.at)

  pub next-is : c ≡ chain p (k + 1)
  next-is = whole-is ∙ ap (chain p) (let e : suc k ≡ k + 1 = omega arith in e)

  pub ends-here : EndsWith c s
  ends-here = subst (λ x. EndsWith x s) (sym whole-is) (ends-with p turn.shape k s turn.at)

  pub within-here : All (λ net. net < length p.netlist.nets) (nets_of c.inputs c.cells)
  within-here = subst (λ (x : StageData). All (λ net. net < length p.netlist.nets) (nets_of x.inputs x.cells)) (sym whole-is) (nets-within p turn.shape k s turn.at)

  -- what is found of it
  pub first-found : (o : Option Shown) → o ≡ first_shown (inputs_of_chain (ascending c) c s) s → o ≡ first_reached p k s
  first-found o is = is ∙ ap (λ (x : StageData). first_shown (inputs_of_chain (ascending x) x s) s) whole-is ∙ first-same s _ _ (inputs-are p turn.shape k s turn.at turn.sound)

  numbered : s.number ≡ k + 1
  numbered = number-is p turn.shape k s turn.at

  pub counted-here : 1 ≤ s.number
  counted-here = let e = numbered in omega (arith, e)

  pub past-limit : (limit : ℕ) → (variant : Variant) × (limit < question_count c variant) → IsPastLimit p s.number limit
  past-limit limit (variant, past) =
      let lt : k < length p.stages = slice_get_within p.stages k s turn.at in
      record {
        counted = counted-here;
        within = let e = numbered in omega (arith, e, lt);
        variant = variant;
        past = subst (λ x. limit < question_count x variant) (next-is ∙ ap (chain p) (sym numbered)) past;
      }

  module _ {fault : StageFault} {input : List Bool} (first : first_reached p k s ≡ Some (fault, input)) where
    pub found-here : IsBrought p k s fault input
    found-here = brought-from_some p k s fault input first

    pub wide-here : length input ≡ length c.inputs
    wide-here = found-here.wide ∙ sym (ap (λ (x : StageData). length x.inputs) whole-is ∙ ap (λ (bits : List Rails). length bits) (whole-inputs p turn.shape k s turn.at))

    back : s.number - 1 ≡ k
    back = let e = numbered in omega (arith, e)

    word-is : word_on c input s.inputs ≡ brings p.stages k input
    word-is = ap (λ x. word_on x input s.inputs) whole-is ∙ word-here p turn.shape k s turn.at turn.sound input found-here.wide

    pub word-told : word_on c input s.inputs ≡ brings p.stages (s.number - 1) input
    word-told = word-is ∙ ap (λ i. brings p.stages i input) (sym back)

    pub fault-brought : HasNoDataBank p → BringsFault p (s.number - 1) input fault
    fault-brought null = record {
      null = null;
      wide = found-here.wide;
      stage = s;
      at = ap (slice_get p.stages) back ∙ turn.at;
      sound = λ i t lt at_t. turn.sound input found-here.wide i t (subst (λ n. i < n) back lt) at_t;
      shown = ap (λ i. shows s (brings p.stages i input) fault) back ∙ found-here.shown;
    }

    -- what is answered, and what it means
    abbrev verdict : Verdict
    verdict = verdict_of s fault (word_on c input s.inputs)

    shown-here : IsShown p input verdict
    shown-here = is-shown p turn.shape k s turn.at turn.sound fault input first verdict (ap (verdict_of s fault) word-is)

    pub answer-here : (limit : ℕ) (answer : Reached) → IsFaultShown p (s.number - 1) fault input verdict answer → Answers p limit answer
    answer-here limit answer told = subst (Answers p limit) (sym told.is) shown-here

    pub means-here : (answer : Reached) → IsFaultShown p (s.number - 1) fault input verdict answer → Means p answer
    means-here answer told =
        subst (Means p) (sym told.is)
        (shown-sensitive p turn.shape input verdict shown-here, run-as_told p turn.shape k s turn.at turn.sound fault input first verdict (ap (verdict_of s fault) word-is) told.run told.told)
