use Rattle.ncl_base.proofs.Terms.{ap, arith, bytes_at, bytes_eq, length, sym, true, ◌∙◌, ◌≡◌}
use Rattle.ncl_base.proofs.Named.{first_here, past_all}
use Rattle.ncl_base.proofs.steady_source.place_of.Goals as goal

pub returns-then-eq-clause-first : goal.returns-then-eq-clause-first
returns-then-eq-clause-first c =
    let named : bytes_eq c.index-files-i.result.name c.args.name.now ≡ true =
    ap (λ t. bytes_eq t c.args.name.now) (sym c.bytes.ensures) ∙ sym c.eq.ensures ∙ c.if-eq.true in
    sym (first_here c.args.files.now c.loop-i.i c.index-files-i.result _ (omega arith) (sym c.index-files-i.is) named)
    ∙ c.loop-i.invariant.first

pub returns-clause-first : goal.returns-clause-first
returns-clause-first c =
    let past = past_all c.args.files.now c.loop-i.i c.args.name.now (omega arith) in
    let end : c.loop-i.i ≡ length c.args.files.now = omega arith in
    ap (bytes_at c.args.files.now) (sym end) ∙ sym past ∙ c.loop-i.invariant.first
