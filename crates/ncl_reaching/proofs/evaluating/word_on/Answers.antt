use Rattle.ncl_reaching.proofs.Terms.{All, All-contains, All-from_members, Contains-from_Member, List, Member, Member-append_right, Member-map, Rails, StageCell, StageData, among, ap, false, length, length-replicate, map, named_rails, nets_of, none_low, out_of, pass, rail_nets, subst, sym, value_in, ℕ, ◌<◌, ◌||◌, ◌∙◌, ◌≡◌}
use Rattle.ncl_reaching.proofs.EvaluatingLaws.{evaluated, read-is}
use Rattle.ncl_reaching.proofs.evaluating.word_on.Goals as goal

outs-within : (s : StageData) (nets many : ℕ) (cells : List StageCell) → cells ≡ s.cells → many ≡ nets → All (λ net. net < nets) (nets_of s.inputs s.cells) → All (λ (g : StageCell). g.out.0 < many) cells
outs-within s nets many cells same long within =
    All-from_members (λ (g : StageCell). g.out.0 < many) cells (λ g m.
    subst (λ n. g.out.0 < n) (sym long)
    (All-contains (λ net. net < nets) (nets_of s.inputs s.cells) (out_of g) within
    (Contains-from_Member (out_of g) (Member-append_right (rail_nets s.inputs) (out_of g) (Member-map out_of g (subst (Member g) same m))))))

pub evaluate-requires-clause-within : goal.evaluate-requires-clause-within
evaluate-requires-clause-within c =
    let none = c.in_ok-values.ensures.items_if_clones_equal (λ y e. e) in
    outs-within c.args.stage.now c.args.nets (length c.raise.new.values.items) c.items-2.result.now (c.items-2.ensures ∙ ap (λ (t : StageData). t.cells) c.stage.view_is)
    (c.raise.ensures.many ∙ ap length none ∙ length-replicate c.args.nets false) c.requires.within

pub returns : goal.returns
returns c =
    let s : StageData = c.args.stage.now in
    let word = c.args.word.now in
    let done = c.evaluate.new.values.items in
    let made : c.read.result ≡ map (λ (bit : Rails). value_in c.as_slice.result.now bit.one.0) c.args.rails.now = c.read.ensures in
    let rails : (net : ℕ) → value_in c.raise.new.values.items net ≡ (among (named_rails s.inputs word) net || value_in c.in_ok-values.values.items net) =
    (λ net. c.raise.ensures.named net ∙ ap (λ bits. among (named_rails bits word) net || value_in c.in_ok-values.values.items net) (c.items.ensures ∙ ap (λ (t : StageData). t.inputs) c.stage.view_is)) in
    let gates : (net : ℕ) → value_in done net ≡ pass none_low s.cells (value_in c.raise.new.values.items) net =
    (λ net. c.evaluate.ensures.values net ∙ ap (λ cells. pass none_low cells (value_in c.raise.new.values.items) net) (c.items-2.ensures ∙ ap (λ (t : StageData). t.cells) c.stage.view_is)) in
    made ∙ ap (λ xs. map (λ (bit : Rails). value_in xs bit.one.0) c.args.rails.now) c.as_slice.ensures.value
    ∙ read-is s word done c.args.rails.now
    (evaluated s c.facts.ensures word c.args.nets c.in_ok-values.values.items c.raise.new.values.items done (c.in_ok-values.ensures.items_if_clones_equal (λ y e. e)) rails gates)
