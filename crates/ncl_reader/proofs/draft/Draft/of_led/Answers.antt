use Rattle.ncl_reader.proofs.Terms.{sym, ◌∙◌}
use Rattle.ncl_reader.proofs.draft.Draft.of_led.Goals as goal

pub returns-then-takes_name : goal.returns-then-takes_name
returns-then-takes_name c = λ xs kept (takes, free) item pin conn.
    let (range, declares, same, decides) = takes (sym c.takes_name.ensures ∙ c.if-takes_name.true) in
    c.of_declared.ensures xs range kept declares same decides

pub returns : goal.returns
returns c = λ xs kept (takes, free) item pin conn. c.of_plain.ensures xs kept (free (sym c.takes_name.ensures ∙ c.if-takes_name.false)) item pin conn
