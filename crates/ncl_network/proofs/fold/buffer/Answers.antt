use Rattle.ncl_network.proofs.Terms.{Bool, ap, beq, cond, not, signal_value, sym, ◌∙◌}
use Rattle.ncl_network.proofs.Settling.{both_asked, one_asked, zero_asked}
use Rattle.ncl_network.proofs.fold.buffer.Goals as goal
use Rattle.ncl_network.proofs.fold.buffer.Goals.{else-one-via-then-one+else-asks_for_zero, else-one-via-else-one}

pub returns-then-asks_for_zero-clause-value : goal.returns-then-asks_for_zero-clause-value
returns-then-asks_for_zero-clause-value c = λ word nodes.
    c.constant.ensures.value word nodes
    ∙ sym (both_asked c.args.on (signal_value word nodes c.args.signal) c.args.rows.now c.requires.widths c.requires.asking (sym c.asks_for_one-one.ensures ∙ c.if-one.true) (sym c.asks_for_zero.ensures ∙ c.if-asks_for_zero.true))

pub returns-then-asks_for_zero-clause-source : goal.returns-then-asks_for_zero-clause-source
returns-then-asks_for_zero-clause-source c = λ inputs count there. c.constant.ensures.source inputs count

pub returns-clause-value : goal.returns-clause-value
returns-clause-value c = λ word nodes.
    let bit : Bool = signal_value word nodes c.args.signal in
    let turned : Bool → Bool = λ one. cond (not (beq one c.args.on)) (not bit) bit in
    elim c.else-one.branch [
      | else-one-via-then-one+else-asks_for_zero w ↦
          c.turn.ensures.value word nodes ∙ ap turned w.if-one.true
          ∙ sym (one_asked c.args.on bit c.args.rows.now c.requires.widths c.requires.asking (sym c.asks_for_one-one.ensures ∙ w.if-one.true) (sym w.asks_for_zero.ensures ∙ w.if-asks_for_zero.false))
      | else-one-via-else-one w ↦
          c.turn.ensures.value word nodes ∙ ap turned w.if-one.false
          ∙ sym (zero_asked c.args.on bit c.args.rows.now c.requires.some c.requires.widths c.requires.asking (sym c.asks_for_one-one.ensures ∙ w.if-one.false))
    ]
