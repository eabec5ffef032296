use Rattle.ncl_stage.proofs.Terms.{get_or, length, length-set, subst, sym, true, ◌<◌, ◌∙◌}
use Rattle.ncl_stage.proofs.Waiting.{marked-next, was-unmarked}
use Rattle.ncl_stage.proofs.changes.wait_unless.Goals as goal

pub loop-reader-preserved : goal.loop-reader-preserved
loop-reader-preserved c =
    let marks = c.loop-reader.marks in
    let within : get_or c.args.readers.now c.loop-reader.reader-index 0 < length marks = subst (λ n. get_or c.args.readers.now c.loop-reader.reader-index 0 < n) (sym c.loop-reader.invariant.many) (c.requires c.loop-reader.reader-index 0 c.loop-reader-test.true) in
    record {
      many = length-set marks (get_or c.args.readers.now c.loop-reader.reader-index 0) true ∙ c.loop-reader.invariant.many;
      kept = λ place none. c.loop-reader.invariant.kept place (was-unmarked marks (get_or c.args.readers.now c.loop-reader.reader-index 0) place within none);
      readers = marked-next marks c.args.readers.now c.loop-reader.reader-index 0 c.loop-reader-test.true within c.loop-reader.invariant.readers;
    }
