use Rattle.ncl_template.proofs.Terms.{Fits, FormGate, IsBehind, IsFormGate, List, Rails, arith, eqb-true, length, length-take-le, no_inputs, node_function, subst, sym, take, waits_at, ℕ, ◌∙◌, ◌≡◌}
use Rattle.ncl_template.proofs.joint.joint_form.Goals as goal

-- the first three of four
three : (ins : List Rails) → length ins ≡ 4 → length (take 3 ins) ≡ 3
three ins four = length-take-le 3 ins (omega (arith, four))

joined : (n : ℕ) (inner : List FormGate) (gate : FormGate) → n ≡ 4 → length inner ≡ 0 → IsBehind n inner gate → IsFormGate 4 0 gate
joined n inner gate four none fit = subst (λ count. IsFormGate 4 count gate) none (subst (λ k. IsFormGate k (length inner) gate) four fit.fit)

pub wait_beside-requires-clause-zero : goal.wait_beside-requires-clause-zero
wait_beside-requires-clause-zero c =
    let form = c.in_ok-form.form in
    record {
      zero_fits = subst (λ n. IsFormGate n 0 c.in_ok-zero.zero) (three c.args.ins.now c.if-ins-ne4.false) c.in_ok-zero.ensures.fit;
      one_fits = subst (λ n. IsFormGate n 0 c.in_ok-one.one) (three c.args.ins.now c.if-ins-ne4.false) c.in_ok-one.ensures.fit;
      gate_fits = joined (length c.args.node.now.ins) form.inner.items form.zero (sym c.requires ∙ c.if-ins-ne4.false) (eqb-true (length form.inner.items) 0 (sym c.is_empty.ensures ∙ c.if-not-is_empty.false)) c.in_ok-form.ensures.is.zero;
    }

pub wait_beside-requires-clause-one : goal.wait_beside-requires-clause-one
wait_beside-requires-clause-one c =
    let form = c.in_ok-form.form in
    record {
      zero_fits = subst (λ n. IsFormGate n 0 c.in_ok-zero.zero) (three c.args.ins.now c.if-ins-ne4.false) c.in_ok-zero.ensures.fit;
      one_fits = subst (λ n. IsFormGate n 0 c.in_ok-one.one) (three c.args.ins.now c.if-ins-ne4.false) c.in_ok-one.ensures.fit;
      gate_fits = joined (length c.args.node.now.ins) form.inner.items form.one (sym c.requires ∙ c.if-ins-ne4.false) (eqb-true (length form.inner.items) 0 (sym c.is_empty.ensures ∙ c.if-not-is_empty.false)) c.in_ok-form.ensures.is.one;
    }

pub returns-then-wait_beside : goal.returns-then-wait_beside
returns-then-wait_beside c =
    let form = c.in_ok-form.form in
    let low = c.in_ok-zero.zero in
    let high = c.in_ok-one.one in
    record {
      fits = subst (λ n. Fits (node_function c.args.node.now) n (waits_at no_inputs) form) (sym c.requires) c.in_ok-form.ensures;
      four = c.if-ins-ne4.false;
      flat = eqb-true (length form.inner.items) 0 (sym c.is_empty.ensures ∙ c.if-not-is_empty.false);
      not_last = sym c.once.ensures ∙ c.if-once.false;
      zero = low;
      one = high;
      last = record { of_zero = c.in_ok-zero.ensures; of_one = c.in_ok-one.ensures };
      of_zero = c.wait_beside.ensures.zero c.if-wait_beside.true;
      of_one = c.wait_beside.ensures.one c.if-wait_beside.true;
    }
