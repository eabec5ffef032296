use Rattle.ncl_stage.proofs.Terms.{Bit, List, Rails, Some, StageCell, StageData, Variant, ap, both_rails, get_or, kept_low, length, nat_eq, output_net, slice_get, slice_get-get_or, slice_get_past, subst, sym, ℕ, ◌<◌, ◌||◌, ◌∙◌, ◌≡◌, ◌≤◌}
use Rattle.ncl_stage.proofs.variant.is_kept_low.Goals as goal

-- what is kept low with a bit that is read: its rails
rails-low : (s : StageData) (variant : Variant) (net bit : ℕ) → variant ≡ Bit bit → (bits : List Rails) → bits ≡ s.inputs → (pair : Rails) → bit < length bits → pair ≡ get_or bits bit pair → kept_low s variant net ≡ (nat_eq net pair.zero.0 || nat_eq net pair.one.0)
rails-low s variant net bit is bits same pair lt at =
    let read : slice_get s.inputs bit ≡ Some pair = slice_get-get_or s.inputs bit pair (subst (λ xs. bit < length xs) same lt) ∙ ap Some (sym (at ∙ ap (λ xs. get_or xs bit pair) same)) in
    ap (λ v. kept_low s v net) is ∙ ap (λ o. both_rails o net) read

pub returns-in-Base : goal.returns-in-Base
returns-in-Base c = sym (ap (λ v. kept_low c.args.stage.now v c.args.net.0) c.in-Base.is)

pub returns-then-eq : goal.returns-then-eq
returns-then-eq c =
    let bits = c.items.ensures ∙ ap (λ (t : StageData). t.inputs) c.stage.view_is in
    let low = rails-low c.args.stage.now c.args.variant c.args.net.0 c.in-Bit.bit c.in-Bit.is c.items.result.now bits c.in-Some.pair.now c.in-Some.ensures.lookup.3.0 c.in-Some.ensures.lookup.1 in
    c.if-eq.true ∙ ap (λ b. b || nat_eq c.args.net.0 c.in-Some.pair.now.one.0) (sym c.if-eq.true ∙ c.eq.ensures) ∙ sym low

pub returns-else-eq : goal.returns-else-eq
returns-else-eq c =
    let bits = c.items.ensures ∙ ap (λ (t : StageData). t.inputs) c.stage.view_is in
    let low = rails-low c.args.stage.now c.args.variant c.args.net.0 c.in-Bit.bit c.in-Bit.is c.items.result.now bits c.in-Some.pair.now c.in-Some.ensures.lookup.3.0 c.in-Some.ensures.lookup.1 in
    c.eq-else-eq.ensures ∙ ap (λ b. b || nat_eq c.args.net.0 c.in-Some.pair.now.one.0) (sym c.if-eq.false ∙ c.eq.ensures) ∙ sym low

pub returns-in-None : goal.returns-in-None
returns-in-None c =
    let bits = c.items.ensures ∙ ap (λ (t : StageData). t.inputs) c.stage.view_is in
    sym (ap (λ v. kept_low c.args.stage.now v c.args.net.0) c.in-Bit.is
    ∙ ap (λ o. both_rails o c.args.net.0) (slice_get_past c.args.stage.now.inputs c.in-Bit.bit (subst (λ xs. length xs ≤ c.in-Bit.bit) bits c.in-None.ensures.lookup.3)))

pub returns-in-Some-get : goal.returns-in-Some-get
returns-in-Some-get c =
    let s : StageData = c.args.stage.now in
    let i = c.in-Cell.place in
    let cell : StageCell = c.in-Some-get.cell.now in
    let cells : c.items-in-Cell.result.now ≡ s.cells = c.items-in-Cell.ensures ∙ ap (λ (t : StageData). t.cells) c.stage.view_is in
    let lt : i < length s.cells = subst (λ xs. i < length xs) cells c.in-Some-get.ensures.lookup.3.0 in
    let read : slice_get s.cells i ≡ Some cell = slice_get-get_or s.cells i cell lt ∙ ap Some (sym (c.in-Some-get.ensures.lookup.1 ∙ ap (λ xs. get_or xs i cell) cells)) in
    c.eq-in-Some-get.ensures ∙ sym (ap (λ v. kept_low s v c.args.net.0) c.in-Cell.is ∙ ap (λ o. output_net o c.args.net.0) read)

pub returns-in-None-get : goal.returns-in-None-get
returns-in-None-get c =
    let cells = c.items-in-Cell.ensures ∙ ap (λ (t : StageData). t.cells) c.stage.view_is in
    sym (ap (λ v. kept_low c.args.stage.now v c.args.net.0) c.in-Cell.is
    ∙ ap (λ o. output_net o c.args.net.0) (slice_get_past c.args.stage.now.cells c.in-Cell.place (subst (λ xs. length xs ≤ c.in-Cell.place) cells c.in-None-get.ensures.lookup.3)))
