use Rattle.ncl_network.proofs.Terms.{All, IsNode, IsSource, ap, arith, cover_value, eqb-false, eqb-true, is_dash, length, list_all, list_any, map, signal_value, subst, subst₂, sym, two_level, ◌<◌, ◌∙◌, ◌≡◌, ◌≢◌}
use Rattle.ncl_network.proofs.Settling.{alone, none_idle, some_value, two_asked, two_level-idle, two_level-none}
use Rattle.ncl_network.proofs.fold.settle.Goals as goal

pub returns-then-is_empty-clause-sources : goal.returns-then-is_empty-clause-sources
returns-then-is_empty-clause-sources c = λ inputs count all. c.constant.ensures.source inputs count

pub returns-then-is_empty-clause-value : goal.returns-then-is_empty-clause-value
returns-then-is_empty-clause-value c = λ word nodes.
    let none = sym c.args.rows.ok.0 ∙ eqb-true c.args.rows.len 0 (sym c.is_empty.ensures ∙ c.if-is_empty.true) in
    c.constant.ensures.value word nodes ∙ sym (two_level-none c.args.on c.args.rows.items (map (signal_value word nodes) c.args.ins.items) none)

pub returns-then-has_idle_row-clause-value : goal.returns-then-has_idle_row-clause-value
returns-then-has_idle_row-clause-value c = λ word nodes.
    c.constant-then-has_idle_row.ensures.value word nodes
    ∙ sym (two_level-idle c.args.on c.args.rows.items (map (signal_value word nodes) c.args.ins.items) (ap (list_any (list_all is_dash)) (sym c.deref.ensures.value) ∙ sym c.has_idle_row.ensures ∙ c.if-has_idle_row.true))

pub returns-then-has_idle_row-clause-sources : goal.returns-then-has_idle_row-clause-sources
returns-then-has_idle_row-clause-sources c = λ inputs count all. c.constant-then-has_idle_row.ensures.source inputs count

pub returns-then-len-eq1-clause-sources : goal.returns-then-len-eq1-clause-sources
returns-then-len-eq1-clause-sources c = λ inputs count all.
    c.buffer.ensures.source inputs count (subst (λ signal. IsSource inputs count signal.from) (sym c.index.ensures) (all 0 c.index.result.now (omega arith)))

pub buffer-requires-clause-some : goal.buffer-requires-clause-some
buffer-requires-clause-some c =
    let not_none = eqb-false c.args.rows.len 0 (sym c.is_empty.ensures ∙ c.if-is_empty.false) in
    omega (arith, not_none, c.args.rows.ok.0, ap length c.deref-then-len-eq1.ensures.value)

pub buffer-requires-clause-widths : goal.buffer-requires-clause-widths
buffer-requires-clause-widths c =
    let one : length c.args.ins.items ≡ 1 = sym c.args.ins.ok.0 ∙ sym c.len.ensures ∙ c.if-len-eq1.true in
    subst (All (λ row. length row ≡ 1)) (sym c.deref-then-len-eq1.ensures.value) (λ k d lt. c.requires.widths k d lt ∙ one)

pub buffer-requires-clause-asking : goal.buffer-requires-clause-asking
buffer-requires-clause-asking c =
    ap (list_any (list_all is_dash)) (c.deref-then-len-eq1.ensures.value ∙ sym c.deref.ensures.value) ∙ sym c.has_idle_row.ensures ∙ c.if-has_idle_row.false

pub returns-then-len-eq1-clause-value : goal.returns-then-len-eq1-clause-value
returns-then-len-eq1-clause-value c = λ word nodes.
    let one : length c.args.ins.items ≡ 1 = sym c.args.ins.ok.0 ∙ sym c.len.ensures ∙ c.if-len-eq1.true in
    c.buffer.ensures.value word nodes
    ∙ (λ i. two_level c.args.on (c.deref-then-len-eq1.ensures.value i) (map (signal_value word nodes) (alone c.args.ins.items c.index.result.now one c.index.ensures i)))

pub returns-clause-value : goal.returns-clause-value
returns-clause-value c = λ word nodes.
    let not_none = eqb-false c.args.rows.len 0 (sym c.is_empty.ensures ∙ c.if-is_empty.false) in
    (λ i. cover_value c.args.on (c.from_vec-2.ensures i) (map (signal_value word nodes) (c.from_vec.ensures i)))
    ∙ some_value c.args.on c.args.rows.items (map (signal_value word nodes) c.args.ins.items) (omega (arith, not_none, c.args.rows.ok.0))

pub returns-clause-folded : goal.returns-clause-folded
returns-clause-folded c =
    let not_none = eqb-false c.args.rows.len 0 (sym c.is_empty.ensures ∙ c.if-is_empty.false) in
    let some : 0 < length c.args.rows.items = omega (arith, not_none, c.args.rows.ok.0) in
    let idle = ap (list_any (list_all is_dash)) (sym c.deref.ensures.value) ∙ sym c.has_idle_row.ensures ∙ c.if-has_idle_row.false in
    let not_one : length c.args.ins.items ≢ 1 = λ e. c.if-len-eq1.false (c.len.ensures ∙ c.args.ins.ok.0 ∙ e) in
    subst₂ (λ ins rows. IsNode (record { ins = ins; on = c.args.on; rows = rows })) (sym c.from_vec.ensures) (sym c.from_vec-2.ensures) (record {
      two_inputs = two_asked c.args.rows.items (length c.args.ins.items) some c.requires.widths idle not_one;
      no_constant = c.requires.no_constant;
      some_row = some;
      row_widths = c.requires.widths;
      no_idle_row = none_idle c.args.rows.items idle;
    })

pub returns-clause-sources : goal.returns-clause-sources
returns-clause-sources c = λ inputs count all. subst (All (λ signal. IsSource inputs count signal.from)) (sym c.from_vec.ensures) all
