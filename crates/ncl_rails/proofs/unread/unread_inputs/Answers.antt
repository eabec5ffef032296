use Rattle.ncl_rails.proofs.Terms.{[], ap, arith, input_signal, is_input_read, length, sym, ◌++◌, ◌<◌, ◌∙◌, ◌∷◌, ◌≡◌}
use Rattle.ncl_rails.proofs.Inputs.{unread_more, read_more, mark_at}
use Rattle.ncl_rails.proofs.unread.unread_inputs.Goals as goal
use Rattle.ncl_rails.proofs.unread.unread_inputs.Goals.{Joined-not-index, then-not-index+in_ok-push, else-not-index}

-- whether the input is read
is_read : (c : Joined-not-index) → is_input_read c.args.network.now c.loop-i.i ≡ c.index.result.now
is_read c =
    let within : c.loop-i.i < length c.in_ok-read.read.items = omega (arith, c.in_ok-read.ensures.length, c.loop-i-test.true) in
    sym (c.in_ok-read.ensures.read c.loop-i.i) ∙ mark_at c.in_ok-read.read.items c.loop-i.i c.index.result.now within c.index.ensures

pub loop-i-preserved : goal.loop-i-preserved
loop-i-preserved c =
    elim c.if-not-index.branch [
      | then-not-index+in_ok-push w ↦
          let pushed : w.push.new.self.items ≡ c.loop-i.unread.items ++ input_signal c.loop-i.i ∷ [] = w.in_ok-push.ensures.items in
          unread_more c.args.network.now c.loop-i.i c.loop-i.unread.items c.if-not-index.unread.items (is_read c ∙ w.if-not-index.true) c.loop-i.invariant (ap (λ v. v.items) w.unread-is ∙ pushed)
      | else-not-index w ↦
          read_more c.args.network.now c.loop-i.i c.loop-i.unread.items c.if-not-index.unread.items (is_read c ∙ w.if-not-index.false) c.loop-i.invariant (ap (λ v. v.items) w.unread-is)
    ]
