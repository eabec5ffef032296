use Rattle.ncl_check.proofs.Terms.{IsRefusedText, OutOfMemory, arith, codes, line, net_line, subst, sym, too_long, ◌≡◌, ◌≢◌}
use Rattle.ncl_check.proofs.Refusing.{TellsLine-weaker, fault_told}
use Rattle.ncl_check.proofs.text.netlist_in.Goals as goal

pub returns-then-bytes-gt-MOST_BYTES-clause-refused : goal.returns-then-bytes-gt-MOST_BYTES-clause-refused
returns-then-bytes-gt-MOST_BYTES-clause-refused c =
    TellsLine-weaker (λ text. text ≡ line (codes "netlist: too long")) (IsRefusedText c.args.bytes.now)
    (λ text is. subst (IsRefusedText c.args.bytes.now) (sym is) (too_long (omega arith))) c.too_long.result c.too_long.ensures

pub returns-in-Err-clause-refused : goal.returns-in-Err-clause-refused
returns-in-Err-clause-refused c =
    TellsLine-weaker (λ text. (c.in-Err.fault ≢ OutOfMemory) × (text ≡ net_line c.in-Err.fault)) (IsRefusedText c.args.bytes.now)
    (λ text told. subst (IsRefusedText c.args.bytes.now) (sym told.1) (fault_told c.args.bytes.now (omega arith) c.in-Err.fault told.0 c.in-Err.ensures.fault))
    c.unread.result c.unread.ensures
