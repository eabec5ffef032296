use Rattle.ncl_stage.proofs.Terms.{arith, get_or, grows-along, put-more, ◌+◌}
use Rattle.ncl_stage.proofs.ReaderLists.{nets-next}
use Rattle.ncl_stage.proofs.readers.put_at.Goals as goal

pub loop-net-preserved : goal.loop-net-preserved
loop-net-preserved c =
    let lists = c.loop-net.readers in
    let reader = c.args.reader in
    let within = c.requires c.loop-net.net-index 0 c.loop-net-test.true in
    let size = (c.loop-net.invariant.grows (reader + 1) (omega arith)).size in
    let more = put-more lists c.put.new.self (get_or c.args.nets.now c.loop-net.net-index 0) reader c.in_ok-put.ensures (omega (arith, within, size)) in
    record {
      grows = λ count few. grows-along count _ _ _ (c.loop-net.invariant.grows count few) (more.0 count few);
      has = nets-next (reader + 1) lists c.put.new.self c.args.nets.now c.loop-net.net-index reader 0 c.loop-net-test.true (more.0 (reader + 1) (omega arith)) more.1 c.loop-net.invariant.has;
    }
