use Rattle.ncl_rails.proofs.Terms.{Bool, List, ap, arith, drop, false, get_or, is_input_read, length, subst, sym, take, ℕ, ◌++◌, ◌∙◌, ◌≡◌}
use Rattle.std.proofs.lemmas.Grind.{common_steps}
use Rattle.ncl_rails.proofs.unread.read_inputs.Goals as goal

-- a slice that stands for all of a list is all of the list afterwards
whole : (len : ℕ) (new old : List Bool) → len ≡ length old → length new ≡ length old → take len (new ++ drop (length new) old) ≡ new
whole len new old all many = grind (arith, common_steps)

pub returns-clause-length : goal.returns-clause-length
returns-clause-length c =
    let long = c.mark_read.auto.read ∙ ap length c.deref_mut.ensures.value in
    ap length (whole c.in_ok-read.read.len c.mark_read.new.read c.in_ok-read.read.items c.in_ok-read.read.ok.0 long) ∙ long ∙ sym c.in_ok-read.read.ok.0 ∙ c.in_ok-read.ensures.len

pub returns-clause-read : goal.returns-clause-read
returns-clause-read c = λ i.
    let long = c.mark_read.auto.read ∙ ap length c.deref_mut.ensures.value in
    subst (λ read. get_or read i false ≡ is_input_read c.args.network.now i) (sym (whole c.in_ok-read.read.len c.mark_read.new.read c.in_ok-read.read.items c.in_ok-read.read.ok.0 long)) (c.mark_read.ensures i)
