use Rattle.ncl_shape.proofs.Terms.{HasEnds, HasOne, IsBank, IsFirstBank, IsLastBank, IsOnly, MatchOption, NetId, NetlistData, None, Option, Some, ap, arith, both_ways, false, is_some, length, refl, true, ℕ, ◌≡◌}
use Rattle.ncl_shape.proofs.BankNets.{bank_within}
use Rattle.ncl_shape.proofs.OnlyNets.{IsOneBelow, one_kept, one_taken, one_whole}
use Rattle.ncl_shape.proofs.ends.first_of_ends.Goals as goal
use Rattle.ncl_shape.proofs.ends.first_of_ends.Goals.{After-is_none}

pub returns-then-not-keep_one : goal.returns-then-not-keep_one
returns-then-not-keep_one c = λ ends.
    let (holds, some) = c.keep_one.ensures.taken c.if-not-keep_one.true in
    one_taken (IsFirstBank c.args.origins.now.netlist) c.loop-net.net c.loop-net.first some c.loop-net.invariant.first (c.is_first_bank.ensures.0 holds) ends.first

pub returns-then-not-keep_one-2 : goal.returns-then-not-keep_one-2
returns-then-not-keep_one-2 c = λ ends.
    let (holds, some) = c.keep_one-in-loop-net.ensures.taken c.if-not-keep_one-2.true in
    one_taken (IsLastBank c.args.origins.now.netlist) c.loop-net.net c.loop-net.last some c.loop-net.invariant.last (c.is_last_bank.ensures.0 holds) ends.last

pub loop-net-preserved : goal.loop-net-preserved
loop-net-preserved c =
    let net = c.loop-net.net in
    let bank : NetId = record { 0 = net } in
    record {
      first = one_kept (IsFirstBank c.args.origins.now.netlist) net c.loop-net.first c.keep_one.new.found bank c.is_first_bank.result refl c.loop-net.invariant.first c.is_first_bank.ensures.0 c.is_first_bank.ensures.1 (c.keep_one.ensures.kept c.if-not-keep_one.false) (c.keep_one.ensures.free c.if-not-keep_one.false);
      last = one_kept (IsLastBank c.args.origins.now.netlist) net c.loop-net.last c.keep_one-in-loop-net.new.found bank c.is_last_bank.result refl c.loop-net.invariant.last c.is_last_bank.ensures.0 c.is_last_bank.ensures.1 (c.keep_one-in-loop-net.ensures.kept c.if-not-keep_one-2.false) (c.keep_one-in-loop-net.ensures.free c.if-not-keep_one-2.false);
    }

-- after all nets there is one end, or none
whole : (c : After-is_none) → (P : ℕ → Type 0) → ((net : ℕ) → P net → IsBank c.args.origins.now.netlist net) → (found : Option NetId) → IsOneBelow P c.loop-net.net found → MatchOption found (HasOne P → ⊥) (λ net. IsOnly P net.0)
whole c P bank found below =
    one_whole P c.loop-net.net found (λ net holds. let lt = bank_within c.args.origins.now.netlist c.netlist.ensures.origins.drivers.netlist net (bank net holds) in omega (arith, lt, ap length (rw c.netlist.ensures.netlist at c.nets-net-end.ensures.nets), c.loop-net-test.false)) below

-- what is told of the first end where there is a last one, and where there is none
with_last : (n : NetlistData) (first last : Option NetId) → is_some last ≡ true → MatchOption last (HasOne (IsLastBank n) → ⊥) (λ net. IsOnly (IsLastBank n) net.0)
    → MatchOption first (HasOne (IsFirstBank n) → ⊥) (λ net. IsOnly (IsFirstBank n) net.0) → MatchOption first (HasEnds n → ⊥) (λ net. HasEnds n × IsOnly (IsFirstBank n) net.0)
with_last n first None some of_last of_first = absurd (both_ways false refl some)
with_last n None (Some last) some of_last of_first = λ ends. of_first ends.first
with_last n (Some first) (Some last) some of_last of_first = (record { first = of_first.0; last = of_last.0 }, of_first)

with_none : (n : NetlistData) (last : Option NetId) → is_some last ≡ false → MatchOption last (HasOne (IsLastBank n) → ⊥) (λ net. IsOnly (IsLastBank n) net.0) → HasEnds n → ⊥
with_none n None none of_last ends = of_last ends.last
with_none n (Some last) none of_last ends = both_ways true none refl

pub returns-then-is_none : goal.returns-then-is_none
returns-then-is_none c =
    let n = c.args.origins.now.netlist in
    with_none n c.loop-net.last c.if-is_none.ensures (whole (goal.at.returns-then-is_none c).After-is_none (IsLastBank n) (λ net last. last.is_bank) c.loop-net.last c.loop-net.invariant.last)

pub returns : goal.returns
returns c =
    let n = c.args.origins.now.netlist in
    let at = (goal.at.returns c).After-is_none in
    with_last n c.loop-net.first c.loop-net.last c.if-is_none.ensures (whole at (IsLastBank n) (λ net last. last.is_bank) c.loop-net.last c.loop-net.invariant.last) (whole at (IsFirstBank n) (λ net first. first.is_bank) c.loop-net.first c.loop-net.invariant.first)
