use Rattle.ncl_blif.proofs.Terms.{Bool, Bor, List, ap, is_driven, list_any, not, sym, ℕ, ◌∙◌}
use Rattle.ncl_blif.proofs.Anys.{list_any-map}
use Rattle.ncl_blif.proofs.finish.has_undriven.Goals as goal

pub returns : goal.returns
returns c =
    let undriven : List ℕ → Bool = λ name. not (is_driven c.args.draft.now name) in
    c.any_undriven.ensures ∙ sym (list_any-map undriven (λ (name : Bor (List ℕ)). name.now) c.ins.result.now) ∙ ap (list_any undriven) c.ins.ensures
