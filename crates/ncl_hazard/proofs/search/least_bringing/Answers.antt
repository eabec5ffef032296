use Rattle.ncl_hazard.proofs.Terms.{IfOk-weaker, Orphan, PipelineData, StageData, ap, arith, ascending, joined, joined_cells, least_input, least_word_by, length, made_count, slice_get-some, subst, suc, sym, why_count, ℕ, ◌+◌, ◌-◌, ◌<◌, ◌∙◌, ◌≡◌, ◌≤◌}
use Rattle.ncl_hazard.proofs.InputLaws.{joined-long, same-input, same-count, stage-at}
use Rattle.ncl_hazard.proofs.SearchLaws.{OnOk-more}
use Rattle.ncl_hazard.proofs.search.least_bringing.Goals as goal

-- how many gates the stage and the joined stage have
place_is : (all own before place : ℕ) → all ≡ before + own → all - own + place ≡ before + place
place_is all own before place e = omega (arith, e)

counted : (p : PipelineData) (before place number : ℕ) (j : StageData) → j ≡ joined p (suc before) → number ≡ length (joined_cells p before) + place → made_count (joined p (suc before)) (length (joined_cells p before) + place) ≡ why_count p before place
    → made_count j number ≡ why_count p before place
counted p before place number j whole cell same = (λ i. made_count (whole i) (cell i)) ∙ same

pub returns : goal.returns
returns c =
    let p = c.args.pipeline.now in
    let before = c.args.before in
    let place = c.args.place in
    let (s, at) = slice_get-some p.stages before c.requires.within in
    let (g, at_g) = slice_get-some s.cells place (c.requires.cell s at) in
    let own : c.index-stages-before.result ≡ s = stage-at p c.stages.result.now before c.index-stages-before.result s c.stages.ensures.stages c.index-stages-before.is c.requires.within at in
    let whole : c.in_ok-joined.joined ≡ joined p (suc before) = c.in_ok-joined.ensures ∙ ap (joined p) (let f : before + 1 ≡ suc before = omega arith in f) in
    let all : length c.items.result.now ≡ length (joined_cells p before) + length s.cells =
    ap length (c.items.ensures ∙ ap (λ (t : StageData). t.cells) (c.joined.view_is ∙ whole)) ∙ joined-long p before s at in
    let few : length c.items-2.result.now ≡ length s.cells = ap length (c.items-2.ensures ∙ ap (λ (t : StageData). t.cells) (c.own.view_is ∙ own)) in
    let cell : length c.items.result.now - length c.items-2.result.now + place ≡ length (joined_cells p before) + place =
    place_is (length c.items.result.now) (length c.items-2.result.now) (length (joined_cells p before)) place (all ∙ ap (λ n. length (joined_cells p before) + n) (sym few)) in
    let same = counted p before place (length c.items.result.now - length c.items-2.result.now + place) c.in_ok-joined.joined whole cell (same-count p c.facts.ensures before s at c.requires.sound place g at_g) in
    record {
      word = λ t at_t.
          let only : s ≡ t = let both = sym at ∙ at_t in cc in
          IfOk-weaker c.least_showing.result _ (λ word. word ≡ least_input p before t place)
          (λ word said.
          said ∙ (λ i. least_word_by (ascending (whole i)) (whole i) (Orphan (cell i))) ∙ same-input p c.facts.ensures before s at c.requires.sound place g at_g ∙ ap (λ s. least_input p before s place) only)
          c.least_showing.ensures.word;
      few = OnOk-more c.least_showing.result _ (why_count p before place ≤ c.args.limit) (λ h. subst (λ n. n ≤ c.args.limit) same h) c.least_showing.ensures.few;
      full = λ e. subst (λ n. c.args.limit < n) same (c.least_showing.ensures.full e);
    }
