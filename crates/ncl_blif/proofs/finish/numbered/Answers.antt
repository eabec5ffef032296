use Rattle.ncl_blif.proofs.Terms.{Bool, Bor, List, ap, false, is_driven, list_any, map, map-map, not, not-false, rules, signal_number, sym, ℕ, ◌∙◌, ◌≡◌}
use Rattle.ncl_blif.proofs.Anys.{list_any-map, each_fails}
use Rattle.ncl_blif.proofs.finish.numbered.Goals as goal

pub numbers_in-requires : goal.numbers_in-requires
numbers_in-requires c = λ k d within.
    let undriven : List ℕ → Bool = λ name. not (is_driven c.args.draft.now name) in
    let none : list_any (λ (name : Bor (List ℕ)). undriven name.now) c.ins.result.now ≡ false =
    sym (list_any-map undriven (λ (name : Bor (List ℕ)). name.now) c.ins.result.now) ∙ ap (list_any undriven) c.ins.ensures ∙ c.requires.reads in
    not-false _ (each_fails (λ (name : Bor (List ℕ)). undriven name.now) c.ins.result.now none k d within)

pub returns : goal.returns
returns c =
    let number : List ℕ → ℕ = signal_number c.args.draft.now in
    let numbers : c.in_ok-numbers_in.field-0 ≡ map number c.args.cover.now.ins =
    c.in_ok-numbers_in.ensures ∙ sym (map-map number (λ (name : Bor (List ℕ)). name.now) c.ins.result.now) ∙ ap (map number) c.ins.ensures in
    search (rules, numbers)
