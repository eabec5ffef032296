use Rattle.ncl_sim.proofs.Terms.{put-more}
use Rattle.ncl_sim.proofs.touched.put_number.Goals as goal

pub returns : goal.returns
returns c =
    let more = put-more c.args.table.now c.put.new.self c.args.net.0 c.args.number c.in_ok-put.ensures c.requires in
    record { grows = more.0; has = more.1 }
