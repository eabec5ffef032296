use Rattle.ncl_reaching.proofs.Terms.{Base, Cell, Err, Orphan, StageData, ap, diagram_space, handed_on, length, sym, values-kept, ◌∙◌}
use Rattle.ncl_reaching.proofs.QuestionLaws.{past-restored, least-wide}
use Rattle.ncl_reaching.proofs.asking.bit_word.Goals as goal

pub orphan-requires-2-clause-base : goal.orphan-requires-2-clause-base
orphan-requires-2-clause-base c = values-kept (diagram_space c.args.space.now) (diagram_space c.orphan.new.space) c.args.chain.now Base c.args.base.now c.orphan.ensures.back.keeps c.requires.base

pub returns-in_err-word-clause-full : goal.returns-in_err-word-clause-full
returns-in_err-word-clause-full c = λ e. record {
  variant = Cell c.args.places.0;
  past = c.in_err-word.ensures.full (ap Err (handed_on c.from_residual.result c.in_err-word.field-0.0 c.from_residual.ensures.1 e));
}

pub returns-in_err-other-clause-full : goal.returns-in_err-other-clause-full
returns-in_err-other-clause-full c = λ e.
    past-restored (diagram_space c.args.space.now) (diagram_space c.orphan.new.space) c.args.base.now.wiring.order c.args.chain.now c.orphan.ensures.back
    (record {
      variant = Cell c.args.places.1;
      past = c.in_err-other.ensures.full (ap Err (handed_on c.from_residual-in_err-other.result c.in_err-other.field-0.0 c.from_residual-in_err-other.ensures.1 e));
    })

pub lesser-requires-clause-word : goal.lesser-requires-clause-word
lesser-requires-clause-word c = λ x e.
    least-wide c.args.chain.now c.args.base.now.wiring.order c.requires.base.wired.order (Orphan c.args.places.0) c.in_ok-word.word x c.in_ok-word.ensures.word e
    ∙ sym (ap length (c.items.ensures ∙ ap (λ (t : StageData). t.inputs) c.chain.view_is))

pub lesser-requires-clause-other : goal.lesser-requires-clause-other
lesser-requires-clause-other c = λ x e.
    least-wide c.args.chain.now c.args.base.now.wiring.order c.requires.base.wired.order (Orphan c.args.places.1) c.in_ok-other.other x c.in_ok-other.ensures.word e
    ∙ sym (ap length (c.items.ensures ∙ ap (λ (t : StageData). t.inputs) c.chain.view_is))
