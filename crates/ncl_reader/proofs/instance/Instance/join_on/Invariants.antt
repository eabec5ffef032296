use Rattle.ncl_reader.proofs.Among.{◌≡◌, map, take, None, joint_of, joint_on}
use Rattle.ncl_reader.proofs.instance.Instance.join_on.Given as goal

-- no connection so far is on the pin
abbrev pub invariant-loop-join : goal.invariant-loop-join
invariant-loop-join l = joint_on (map joint_of (take l.join-index l.self.joins.items)) l.pin ≡ None
