use Rattle.ncl_template.proofs.Terms.{AddsInner, [], subst, sym}
use Rattle.ncl_template.proofs.eager.add_form.Goals as goal

pub returns-clause-form : goal.returns-clause-form
returns-clause-form c =
    let ins = c.args.ins.now in
    let before = c.args.gates.now.cells in
    let now = c.add_inner.new.gates.cells in
    record {
      now = now;
      then = c.add_gate.new.gates.cells;
      nets = c.as_slice-nets.result.now;
      inner =
          subst (λ inner. AddsInner ins [] inner before now c.as_slice-nets.result.now) c.as_slice.ensures.value
          (subst (λ nets. AddsInner ins [] c.as_slice.result.now before now nets) (sym c.as_slice-nets.ensures.value) c.in_ok-inner.ensures.inner);
      zero = c.in_ok-zero.ensures.gate;
      one = c.in_ok-one.ensures.gate;
    }
