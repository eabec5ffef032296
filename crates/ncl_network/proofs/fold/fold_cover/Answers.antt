use Rattle.ncl_network.proofs.Terms.{All, Bool, IsSource, List, Lit, Signal, ap, arith, eqb-false, false, is_constant, kept_columns, length, map, select, signal_value, subst, sym, two_level, weight_of_rows, ◌<◌, ◌∙◌, ◌≡◌}
use Rattle.ncl_network.proofs.Selecting.{All-select}
use Rattle.ncl_network.proofs.Folding.{live_of, kept_of, length-kept, kept_no_constant, kept_widths, kept_weight, folded_rows}
use Rattle.ncl_network.proofs.fold.fold_cover.Goals as goal

pub returns-then-is_empty-clause-sources : goal.returns-then-is_empty-clause-sources
returns-then-is_empty-clause-sources c = λ inputs count all. c.constant.ensures.source inputs count

pub select-requires : goal.select-requires
select-requires c =
    ap length (c.deref-2.ensures.value ∙ c.in_ok-kept.ensures)
    ∙ length-kept c.args.signals.now c.args.rows.now c.deref.result.now

pub select_rows-requires-clause-widths : goal.select_rows-requires-clause-widths
select_rows-requires-clause-widths c k d within =
    c.requires k d within ∙ sym (length-kept c.args.signals.now c.args.rows.now c.deref.result.now)
    ∙ ap length (sym (c.deref-3.ensures.value ∙ c.in_ok-kept.ensures))

fits : (ins others : List Signal) (rows more : List (List Lit)) → ins ≡ others → rows ≡ more → All (λ row. length row ≡ length ins) rows → All (λ row. length row ≡ length others) more
fits ins others rows more e f all =
    subst (λ signals. All (λ row. length row ≡ length signals) more) e (subst (All (λ row. length row ≡ length ins)) f all)

pub settle-requires-clause-widths : goal.settle-requires-clause-widths
settle-requires-clause-widths c =
    let mask : List Bool = c.deref-3.result.now in
    let live : List Bool = c.deref-4.result.now in
    let ins : c.in_ok-ins.ins.items ≡ select mask c.args.signals.now =
    c.in_ok-ins.ensures ∙ ap (λ m. select m c.args.signals.now) (c.deref-2.ensures.value ∙ sym c.deref-3.ensures.value) in
    fits _ _ _ _ (sym ins) (sym c.in_ok-rows.ensures) (kept_widths mask live c.args.signals.now c.args.rows.now c.requires)

pub settle-requires-clause-no_constant : goal.settle-requires-clause-no_constant
settle-requires-clause-no_constant c =
    let ins : c.in_ok-ins.ins.items ≡ select (kept_columns c.args.signals.now c.args.rows.now c.deref.result.now) c.args.signals.now =
    c.in_ok-ins.ensures ∙ ap (λ m. select m c.args.signals.now) (c.deref-2.ensures.value ∙ c.in_ok-kept.ensures) in
    subst (All (λ signal. is_constant signal.from ≡ false)) (sym ins) (kept_no_constant c.args.signals.now c.args.rows.now c.deref.result.now)

pub returns-clause-value : goal.returns-clause-value
returns-clause-value c word nodes =
    let signals : List Signal = c.args.signals.now in
    let live : c.in_ok-live.live.items ≡ live_of signals c.args.rows.now = c.in_ok-live.ensures in
    let kept : c.in_ok-kept.kept.items ≡ kept_of signals c.args.rows.now =
    c.in_ok-kept.ensures ∙ ap (kept_columns signals c.args.rows.now) (c.deref.ensures.value ∙ live) in
    let ins : c.in_ok-ins.ins.items ≡ select (kept_of signals c.args.rows.now) signals =
    c.in_ok-ins.ensures ∙ ap (λ m. select m signals) (c.deref-2.ensures.value ∙ kept) in
    let rows : c.in_ok-rows.rows.items ≡ map (select (kept_of signals c.args.rows.now)) (select (live_of signals c.args.rows.now) c.args.rows.now) =
    c.in_ok-rows.ensures ∙ (λ i. map (select ((c.deref-3.ensures.value ∙ kept) i)) (select ((c.deref-4.ensures.value ∙ live) i) c.args.rows.now)) in
    let not_none = eqb-false (length c.args.rows.now) 0 (sym c.is_empty.ensures ∙ c.if-is_empty.false) in
    let some : 0 < length c.args.rows.now = omega (arith, not_none) in
    c.settle.ensures.value word nodes
    ∙ (λ i. two_level c.args.on (rows i) (map (signal_value word nodes) (ins i)))
    ∙ folded_rows word nodes signals c.args.rows.now c.requires c.args.on some

pub returns-clause-sources : goal.returns-clause-sources
returns-clause-sources c inputs count all =
    c.settle.ensures.sources inputs count
    (subst (All (λ signal. IsSource inputs count signal.from)) (sym c.in_ok-ins.ensures) (All-select (λ signal. IsSource inputs count signal.from) c.deref-2.result.now c.args.signals.now all))

pub returns-clause-weight : goal.returns-clause-weight
returns-clause-weight c =
    omega (arith, ap weight_of_rows c.in_ok-rows.ensures, kept_weight c.deref-3.result.now c.deref-4.result.now c.args.rows.now, c.settle.ensures.weight)
