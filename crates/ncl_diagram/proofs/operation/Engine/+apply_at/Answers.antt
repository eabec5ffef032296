use Rattle.ncl_diagram.proofs.Terms.{Engine, Err, FindsFull, Full, IsErrAnd, IsErrOf, List, Node, Ok, Ref, Result, Runs, SpaceFault, ap, arith, length, places, size_of, subst, sym, ◌<◌, ◌∙◌, ◌≡◌}
use Rattle.ncl_diagram.proofs.RunLaws.{began, after_low, after_high, ran_itself, found_itself, found_kept, ran_begun, found_known, may_low, ran_low, full_low, may_high, ran_high, full_high, low_later, high_later, full_joined, at_within, ran_joined, found_joined, key_more, keys_begun, low_there}
use Rattle.ncl_diagram.proofs.Stops.{stop_answer}
use Rattle.ncl_diagram.proofs.operation.Engine.+apply_at.Goals as goal

-- a fault that is passed on is the one that was got
passed_on : (r : Result Ref SpaceFault) (fault : SpaceFault) → IsErrAnd r (λ e. e ≡ fault) → IsErrOf r Full → (let passed : Result Ref SpaceFault = Err fault in IsErrOf passed Full)
passed_on (Ok x) fault same full = absurd cc
passed_on (Err e) fault same full = ap Err (sym same) ∙ full

pub returns-in-Some-clause-runs : goal.returns-in-Some-clause-runs
returns-in-Some-clause-runs g t c = ran_itself c.requires

pub returns-in-Some-clause-finds : goal.returns-in-Some-clause-finds
returns-in-Some-clause-finds g t c =
    found_itself c.requires c.in-Some.r (stop_answer c.args.operation.width c.args.operation.kind c.args.self.now.nodes (places c.args.key) c.in-Some.r.place c.requires.there c.in-Some.ensures.stop)

pub returns-in-Some-find-clause-runs : goal.returns-in-Some-find-clause-runs
returns-in-Some-find-clause-runs g t c = ran_itself c.requires

pub returns-in-Some-find-clause-finds : goal.returns-in-Some-find-clause-finds
returns-in-Some-find-clause-finds g t c = found_kept c.requires c.in-Some-find.r c.in-Some-find.ensures

pub returns-in_err-at-clause-runs : goal.returns-in_err-at-clause-runs
returns-in_err-at-clause-runs g t c = ran_begun c.requires c.begin.new.self c.begin.ensures.may

pub returns-in-Some-known-clause-runs : goal.returns-in-Some-known-clause-runs
returns-in-Some-known-clause-runs g t c = ran_begun c.requires c.begin.new.self c.begin.ensures.may

pub returns-in-Some-known-clause-finds : goal.returns-in-Some-known-clause-finds
returns-in-Some-known-clause-finds g t c = found_known c.requires c.begin.new.self c.in_ok-at.at c.in_ok-at.known c.in-Some-known.r c.in_ok-at.ensures.begins c.in-Some-known.is

pub apply_at-requires : goal.apply_at-requires
apply_at-requires g t c κs within =
    let s = began c.requires c.begin.new.self c.in_ok-at.at c.in_ok-at.known c.in_ok-at.ensures.begins c.in_default-known.is c.split-branches.ensures.least c.split-branches.ensures.low c.split-branches.ensures.high c.split-branches.ensures.low_less c.split-branches.ensures.high_less in
    let d = c.decreases in
    let less : size_of c.split-branches.result.low < t = let fewer = s.low_less in omega arith in
    (less, (within, may_low s))

pub returns-in_err-low-clause-runs : goal.returns-in_err-low-clause-runs
returns-in_err-low-clause-runs g t c =
    let s = began c.requires c.begin.new.self c.in_ok-at.at c.in_ok-at.known c.in_ok-at.ensures.begins c.in_default-known.is c.split-branches.ensures.least c.split-branches.ensures.low c.split-branches.ensures.high c.split-branches.ensures.low_less c.split-branches.ensures.high_less in
    ran_low (after_low s c.apply_at.ensures.runs)

pub returns-in_err-low-clause-full : goal.returns-in_err-low-clause-full
returns-in_err-low-clause-full g t c =
    let s = began c.requires c.begin.new.self c.in_ok-at.at c.in_ok-at.known c.in_ok-at.ensures.begins c.in_default-known.is c.split-branches.ensures.least c.split-branches.ensures.low c.split-branches.ensures.high c.split-branches.ensures.low_less c.split-branches.ensures.high_less in
    λ h. full_low (after_low s c.apply_at.ensures.runs) (c.in_err-low.ensures.full (passed_on _ _ c.from_residual-in_err-low.ensures.1 h))

pub apply_at-requires-2 : goal.apply_at-requires-2
apply_at-requires-2 g t c κs within =
    let s = began c.requires c.begin.new.self c.in_ok-at.at c.in_ok-at.known c.in_ok-at.ensures.begins c.in_default-known.is c.split-branches.ensures.least c.split-branches.ensures.low c.split-branches.ensures.high c.split-branches.ensures.low_less c.split-branches.ensures.high_less in
    let d = c.decreases in
    let less : size_of c.split-branches.result.high < t = let fewer = s.high_less in omega arith in
    (less, (within, may_high (after_low s c.apply_at.ensures.runs) c.in_ok-low.ensures.finds))

pub returns-in_err-high-clause-runs : goal.returns-in_err-high-clause-runs
returns-in_err-high-clause-runs g t c =
    let s = began c.requires c.begin.new.self c.in_ok-at.at c.in_ok-at.known c.in_ok-at.ensures.begins c.in_default-known.is c.split-branches.ensures.least c.split-branches.ensures.low c.split-branches.ensures.high c.split-branches.ensures.low_less c.split-branches.ensures.high_less in
    ran_high (after_high (after_low s c.apply_at.ensures.runs) c.in_ok-low.ensures.finds c.apply_at-2.ensures.runs)

pub returns-in_err-high-clause-full : goal.returns-in_err-high-clause-full
returns-in_err-high-clause-full g t c =
    let s = began c.requires c.begin.new.self c.in_ok-at.at c.in_ok-at.known c.in_ok-at.ensures.begins c.in_default-known.is c.split-branches.ensures.least c.split-branches.ensures.low c.split-branches.ensures.high c.split-branches.ensures.low_less c.split-branches.ensures.high_less in
    λ h. full_high (after_high (after_low s c.apply_at.ensures.runs) c.in_ok-low.ensures.finds c.apply_at-2.ensures.runs) (c.in_err-high.ensures.full (passed_on _ _ c.from_residual-in_err-high.ensures.1 h))

pub join-requires-clause-low_later : goal.join-requires-clause-low_later
join-requires-clause-low_later g t c =
    let s = began c.requires c.begin.new.self c.in_ok-at.at c.in_ok-at.known c.in_ok-at.ensures.begins c.in_default-known.is c.split-branches.ensures.least c.split-branches.ensures.low c.split-branches.ensures.high c.split-branches.ensures.low_less c.split-branches.ensures.high_less in
    low_later (after_high (after_low s c.apply_at.ensures.runs) c.in_ok-low.ensures.finds c.apply_at-2.ensures.runs)

pub join-requires-clause-high_later : goal.join-requires-clause-high_later
join-requires-clause-high_later g t c =
    let s = began c.requires c.begin.new.self c.in_ok-at.at c.in_ok-at.known c.in_ok-at.ensures.begins c.in_default-known.is c.split-branches.ensures.least c.split-branches.ensures.low c.split-branches.ensures.high c.split-branches.ensures.low_less c.split-branches.ensures.high_less in
    high_later (after_high (after_low s c.apply_at.ensures.runs) c.in_ok-low.ensures.finds c.apply_at-2.ensures.runs) c.in_ok-high.ensures.finds

pub returns-in_err-r-clause-runs : goal.returns-in_err-r-clause-runs
returns-in_err-r-clause-runs g t c =
    let s = began c.requires c.begin.new.self c.in_ok-at.at c.in_ok-at.known c.in_ok-at.ensures.begins c.in_default-known.is c.split-branches.ensures.least c.split-branches.ensures.low c.split-branches.ensures.high c.split-branches.ensures.low_less c.split-branches.ensures.high_less in
    let d : Engine = c.apply_at-2.new.self in
    subst (λ (ns : List Node). Runs c.args.operation c.args.self.now (record { nodes = ns; memo = d.memo; answers = d.answers }) c.args.key) (sym c.in_err-r.ensures.err) (ran_high (after_high (after_low s c.apply_at.ensures.runs) c.in_ok-low.ensures.finds c.apply_at-2.ensures.runs))

pub returns-in_err-r-clause-full : goal.returns-in_err-r-clause-full
returns-in_err-r-clause-full g t c =
    let s = began c.requires c.begin.new.self c.in_ok-at.at c.in_ok-at.known c.in_ok-at.ensures.begins c.in_default-known.is c.split-branches.ensures.least c.split-branches.ensures.low c.split-branches.ensures.high c.split-branches.ensures.low_less c.split-branches.ensures.high_less in
    let d : Engine = c.apply_at-2.new.self in
    λ h.
    let full = passed_on _ _ c.from_residual-in_err-r.ensures.1 h in
    subst (λ (ns : List Node). FindsFull c.args.operation (record { nodes = ns; memo = d.memo; answers = d.answers }) c.args.key) (sym c.in_err-r.ensures.err)
    (full_joined (after_high (after_low s c.apply_at.ensures.runs) c.in_ok-low.ensures.finds c.apply_at-2.ensures.runs) c.in_ok-high.ensures.finds (c.in_err-r.ensures.absent full) (c.in_err-r.ensures.full full))

pub note-requires : goal.note-requires
note-requires g t c =
    let s = began c.requires c.begin.new.self c.in_ok-at.at c.in_ok-at.known c.in_ok-at.ensures.begins c.in_default-known.is c.split-branches.ensures.least c.split-branches.ensures.low c.split-branches.ensures.high c.split-branches.ensures.low_less c.split-branches.ensures.high_less in
    at_within (after_high (after_low s c.apply_at.ensures.runs) c.in_ok-low.ensures.finds c.apply_at-2.ensures.runs) c.in_ok-high.ensures.finds

pub returns-clause-runs : goal.returns-clause-runs
returns-clause-runs g t c =
    let s = began c.requires c.begin.new.self c.in_ok-at.at c.in_ok-at.known c.in_ok-at.ensures.begins c.in_default-known.is c.split-branches.ensures.least c.split-branches.ensures.low c.split-branches.ensures.high c.split-branches.ensures.low_less c.split-branches.ensures.high_less in
    let new : Engine = record { nodes = c.join.new.nodes; memo = c.note.new.self; answers = c.note-2.new.self } in
    ran_joined (after_high (after_low s c.apply_at.ensures.runs) c.in_ok-low.ensures.finds c.apply_at-2.ensures.runs) c.in_ok-high.ensures.finds new c.join.ensures.joins c.in_ok-r.ensures.leads c.note.ensures.keys c.join.ensures.few c.note-2.ensures.floor c.note-2.ensures.slots

pub returns-clause-finds : goal.returns-clause-finds
returns-clause-finds g t c =
    let s = began c.requires c.begin.new.self c.in_ok-at.at c.in_ok-at.known c.in_ok-at.ensures.begins c.in_default-known.is c.split-branches.ensures.least c.split-branches.ensures.low c.split-branches.ensures.high c.split-branches.ensures.low_less c.split-branches.ensures.high_less in
    let new : Engine = record { nodes = c.join.new.nodes; memo = c.note.new.self; answers = c.note-2.new.self } in
    found_joined (after_high (after_low s c.apply_at.ensures.runs) c.in_ok-low.ensures.finds c.apply_at-2.ensures.runs) c.in_ok-high.ensures.finds new c.join.ensures.joins c.in_ok-r.ensures.leads c.note.ensures.keys c.note.ensures.found

pub returns-in_err-at-clause-steps : goal.returns-in_err-at-clause-steps
returns-in_err-at-clause-steps g t c =
    let more = keys_begun _ _ _ c.begin.ensures.may in omega (arith, more)

pub returns-in-Some-known-clause-steps : goal.returns-in-Some-known-clause-steps
returns-in-Some-known-clause-steps g t c =
    let more = keys_begun _ _ _ c.begin.ensures.may in omega (arith, more)

pub returns-in_err-low-clause-steps : goal.returns-in_err-low-clause-steps
returns-in_err-low-clause-steps g t c =
    let s = began c.requires c.begin.new.self c.in_ok-at.at c.in_ok-at.known c.in_ok-at.ensures.begins c.in_default-known.is c.split-branches.ensures.least c.split-branches.ensures.low c.split-branches.ensures.high c.split-branches.ensures.low_less c.split-branches.ensures.high_less in
    let more = key_more s in
    omega (arith, more, c.split-branches.ensures.steps, c.apply_at.ensures.steps)

pub returns-in_err-low-clause-came : goal.returns-in_err-low-clause-came
returns-in_err-low-clause-came g t c =
    omega (arith, c.split-branches.ensures.steps, c.apply_at.ensures.came)

pub returns-in_err-high-clause-steps : goal.returns-in_err-high-clause-steps
returns-in_err-high-clause-steps g t c =
    let s = began c.requires c.begin.new.self c.in_ok-at.at c.in_ok-at.known c.in_ok-at.ensures.begins c.in_default-known.is c.split-branches.ensures.least c.split-branches.ensures.low c.split-branches.ensures.high c.split-branches.ensures.low_less c.split-branches.ensures.high_less in
    let more = key_more s in
    omega (arith, more, c.split-branches.ensures.steps, c.apply_at.ensures.steps, c.apply_at-2.ensures.steps)

pub returns-in_err-high-clause-came : goal.returns-in_err-high-clause-came
returns-in_err-high-clause-came g t c =
    omega (arith, c.split-branches.ensures.steps, c.apply_at.ensures.came, c.apply_at-2.ensures.came)

pub returns-in_err-r-clause-steps : goal.returns-in_err-r-clause-steps
returns-in_err-r-clause-steps g t c =
    let s = began c.requires c.begin.new.self c.in_ok-at.at c.in_ok-at.known c.in_ok-at.ensures.begins c.in_default-known.is c.split-branches.ensures.least c.split-branches.ensures.low c.split-branches.ensures.high c.split-branches.ensures.low_less c.split-branches.ensures.high_less in
    let more = key_more s in
    omega (arith, more, c.split-branches.ensures.steps, c.apply_at.ensures.steps, c.apply_at-2.ensures.steps, c.join.ensures.steps)

pub returns-in_err-r-clause-came : goal.returns-in_err-r-clause-came
returns-in_err-r-clause-came g t c =
    omega (arith, c.split-branches.ensures.steps, c.apply_at.ensures.came, c.apply_at-2.ensures.came, c.join.ensures.came)

pub returns-clause-steps : goal.returns-clause-steps
returns-clause-steps g t c =
    let s = began c.requires c.begin.new.self c.in_ok-at.at c.in_ok-at.known c.in_ok-at.ensures.begins c.in_default-known.is c.split-branches.ensures.least c.split-branches.ensures.low c.split-branches.ensures.high c.split-branches.ensures.low_less c.split-branches.ensures.high_less in
    let more = key_more s in
    omega (arith, more, c.split-branches.ensures.steps, c.apply_at.ensures.steps, c.apply_at-2.ensures.steps, c.join.ensures.steps, ap length c.note.ensures.keys)

pub returns-clause-came : goal.returns-clause-came
returns-clause-came g t c =
    omega (arith, c.split-branches.ensures.steps, c.apply_at.ensures.came, c.apply_at-2.ensures.came, c.join.ensures.came)

pub join-requires-clause-canonical : goal.join-requires-clause-canonical
join-requires-clause-canonical g t c = c.apply_at-2.ensures.runs.sound.canonical

pub join-requires-clause-few : goal.join-requires-clause-few
join-requires-clause-few g t c = c.apply_at-2.ensures.runs.sound.few

pub join-requires-clause-bit : goal.join-requires-clause-bit
join-requires-clause-bit g t c = c.split-branches.ensures.least.bit

pub join-requires-clause-high : goal.join-requires-clause-high
join-requires-clause-high g t c = c.in_ok-high.ensures.finds.answer.there

pub join-requires-clause-low : goal.join-requires-clause-low
join-requires-clause-low g t c =
    let s = began c.requires c.begin.new.self c.in_ok-at.at c.in_ok-at.known c.in_ok-at.ensures.begins c.in_default-known.is c.split-branches.ensures.least c.split-branches.ensures.low c.split-branches.ensures.high c.split-branches.ensures.low_less c.split-branches.ensures.high_less in
    low_there (after_high (after_low s c.apply_at.ensures.runs) c.in_ok-low.ensures.finds c.apply_at-2.ensures.runs)
