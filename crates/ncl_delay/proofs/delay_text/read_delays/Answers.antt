use Rattle.ncl_delay.proofs.Terms.{YieldsList-from_enumerate, YieldsList-from_slice_split, ap, cell_names, err_from_is_err_and, fault_in, inl, inr, is_feed, is_known, length, length-map, line_fault, map, numbered, put_edges, rules, said_in, stated_delays, subst, sym, tells, unstated, ⊎_elim, ◌+◌, ◌∙◌}
use Rattle.ncl_delay.proofs.Told.{Part, placed, told_of-tells, told_next, no_line}
use Rattle.ncl_delay.proofs.DelayLines.{AreStated, stated-none, stated-more, stated-broken}
use Rattle.ncl_delay.proofs.delay_text.read_delays.Goals as goal

pub loop-place-init : goal.loop-place-init
loop-place-init c =
    let count = sym (length-map c.args.netlist.now.cells (λ cell. cell.name) ∙ ap length (sym c.cells-cells.ensures.cells)) in
    stated-none (cell_names c.args.netlist.now) _ (c.in_ok-delays.ensures ∙ ap unstated count)

pub loop-place-preserved-in-Continue-branch-3 : goal.loop-place-preserved-in-Continue-branch-3
loop-place-preserved-in-Continue-branch-3 c =
    let names = cell_names c.args.netlist.now in
    let part : Part = (c.in-Some.place, c.in-Some.part) in
    let says = sym (ap tells c.trimmed-line.ensures) ∙ sym c.tells.ensures ∙ c.if-tells.true in
    let keys = c.in_ok-names.ensures ∙ ap (map (λ cell. cell.name)) c.cells-cells.ensures.cells in
    let (s, said, known, put_it) = c.in_ok-put_line.ensures in
    let stated = sym (λ i. said_in (record { number = c.in-Some.place + 1; text = c.trimmed-line.ensures i })) ∙ said in
    subst (λ lines. AreStated names lines c.put_line.new.delays) (sym (told_of-tells c.loop-place.yielded part says))
    (stated-more names _ c.loop-place.delays _ (numbered (placed part)) s c.cells-cells.ensures.netlist.cell_names c.loop-place.invariant stated
    (sym (ap (λ ks. is_known ks s.subject) keys) ∙ known) (put_it ∙ ap (λ ks. put_edges ks c.loop-place.delays s.edges s.subject) keys))

pub returns-in_err-put_line-clause-broken : goal.returns-in_err-put_line-clause-broken
returns-in_err-put_line-clause-broken c =
    let goes = YieldsList-from_enumerate (YieldsList-from_slice_split _ is_feed c.args.bytes.now (cc) (cc) (cc) (λ x b q k. search rules)) (cc) in
    let part : Part = (c.in-Some.place, c.in-Some.part) in
    let next = told_next c.args.bytes.now goes c.loop-place.yielded _ c.loop-place.yielded_by _ _ part c.in-Some.is c.next.ensures.steps (sym (ap tells c.trimmed-line.ensures) ∙ sym c.tells.ensures ∙ c.if-tells.true) in
    let p = err_from_is_err_and c.from_residual-in_err-put_line.result c.from_residual-in_err-put_line.ensures.1 in
    let keys = c.in_ok-names.ensures ∙ ap (map (λ cell. cell.name)) c.cells-cells.ensures.cells in
    let at = sym (λ i. line_fault (keys i) (record { number = c.in-Some.place + 1; text = c.trimmed-line.ensures i })) in
    rw (p.1, p.2) (⊎_elim (λ memory. inl memory)
    (λ fault. inr (ap (fault_in (cell_names c.args.netlist.now)) next.told ∙ stated-broken _ _ _ (numbered (placed part)) next.later _ c.loop-place.invariant (at ∙ fault)))
    c.in_err-put_line.ensures)

pub returns-clause-unbroken : goal.returns-clause-unbroken
returns-clause-unbroken c =
    let goes = YieldsList-from_enumerate (YieldsList-from_slice_split _ is_feed c.args.bytes.now (cc) (cc) (cc) (λ x b q k. search rules)) (cc) in
    let all = no_line c.args.bytes.now goes c.loop-place.yielded _ c.loop-place.yielded_by _ _ c.in-None.is c.next.ensures.steps in
    ap (fault_in (cell_names c.args.netlist.now)) (sym all) ∙ c.loop-place.invariant.unbroken

pub returns-clause-stated : goal.returns-clause-stated
returns-clause-stated c =
    let goes = YieldsList-from_enumerate (YieldsList-from_slice_split _ is_feed c.args.bytes.now (cc) (cc) (cc) (λ x b q k. search rules)) (cc) in
    let all = no_line c.args.bytes.now goes c.loop-place.yielded _ c.loop-place.yielded_by _ _ c.in-None.is c.next.ensures.steps in
    c.loop-place.invariant.delays ∙ ap (stated_delays (cell_names c.args.netlist.now)) all
