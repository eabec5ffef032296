use Rattle.ncl_sim_match.proofs.Terms.{Err, IsAnswer, IsMatched, Ok, circuit_of, differs, full, same, subst, sym, widths}
use Rattle.ncl_sim_match.proofs.matching.match_models.Goals as goal

pub returns-in-Ok-Same : goal.returns-in-Ok-Same
returns-in-Ok-Same g c =
    same (subst (λ answer. IsAnswer (circuit_of c.args.pipeline.now) c.args.models.now c.args.limit (Ok answer)) c.in-Ok-Same.field-0-is c.in-Ok-Same.ensures)

pub returns-in_ok-differ_text-in-Ok-Differ : goal.returns-in_ok-differ_text-in-Ok-Differ
returns-in_ok-differ_text-in-Ok-Differ g c =
    subst (IsMatched (circuit_of c.args.pipeline.now) c.args.models.now c.args.limit 1) (sym c.in_ok-differ_text-in-Ok-Differ.ensures)
    (differs c.in-Ok-Differ.word c.in-Ok-Differ.bit (subst (λ answer. IsAnswer (circuit_of c.args.pipeline.now) c.args.models.now c.args.limit (Ok answer)) c.in-Ok-Differ.field-0-is c.in-Ok-Differ.ensures))

pub returns-in_ok-widths_text-in-Ok-Widths : goal.returns-in_ok-widths_text-in-Ok-Widths
returns-in_ok-widths_text-in-Ok-Widths g c =
    subst (IsMatched (circuit_of c.args.pipeline.now) c.args.models.now c.args.limit 1) (sym c.in_ok-widths_text-in-Ok-Widths.ensures)
    (widths (subst (λ answer. IsAnswer (circuit_of c.args.pipeline.now) c.args.models.now c.args.limit (Ok answer)) c.in-Ok-Widths.field-0-is c.in-Ok-Widths.ensures))

pub returns-in_ok-text-in-Err-Full : goal.returns-in_ok-text-in-Err-Full
returns-in_ok-text-in-Err-Full g c =
    subst (IsMatched (circuit_of c.args.pipeline.now) c.args.models.now c.args.limit 6) (sym c.in_ok-text-in-Err-Full.ensures)
    (full c.in-Err-Full.output (subst (λ fault. IsAnswer (circuit_of c.args.pipeline.now) c.args.models.now c.args.limit (Err fault)) c.in-Err-Full.field-0-is c.in-Err-Full.ensures))
