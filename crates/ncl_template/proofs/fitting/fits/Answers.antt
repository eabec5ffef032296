use Rattle.ncl_template.proofs.Terms.{Fits, FitsWord, IsForm, ap, arith, at_each_first, below_more, length, node_function, one_shl, subst, sym, take, waits_at, word_of, ◌≡◌}
use Rattle.ncl_template.proofs.fitting.fits.Goals as goal

pub loop-number-preserved : goal.loop-number-preserved
loop-number-preserved c =
    let P = FitsWord (node_function c.args.node.now) (waits_at c.args.waits) c.args.form.now in
    below_more (λ n. P (take (length c.args.node.now.ins) (word_of 4 n))) c.loop-number.number c.loop-number.invariant
    (subst (λ ins. P (take (length ins) (word_of 4 c.loop-number.number))) c.items-inputs.ensures
    (subst (λ word. P (take (length c.items-inputs.result.now) word)) c.word_of.ensures (c.fits_word.ensures c.if-not-fits_word.false)))

pub returns : goal.returns
returns c = λ yes.
    let inputs = length c.items-inputs.result.now in
    let same : inputs ≡ length c.args.node.now.ins = ap length c.items-inputs.ensures in
    let is : IsForm inputs c.args.form.now = c.is_form.ensures c.if-not-is_form.false in
    let function = node_function c.args.node.now in
    let waits = waits_at c.args.waits in
    subst (λ n. Fits function n waits c.args.form.now) same (record {
      is = is;
      at = at_each_first inputs 4 (FitsWord function waits c.args.form.now) is.few (λ k below. subst (λ n. FitsWord function waits c.args.form.now (take n (word_of 4 k))) (sym same) (c.loop-number.invariant k (omega (arith, below, one_shl inputs 32 (omega (arith, is.few))))));
    })
