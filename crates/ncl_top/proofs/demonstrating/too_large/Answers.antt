use Rattle.ncl_top.proofs.Terms.{IsDemoReply, IsWritable, MOST_NODES, ap, length, subst, sym, verdict_line, ◌++◌, ◌∙◌}
use Rattle.ncl_writer.specs.Text.{text_of}
use Rattle.ncl_top.specs.Demonstrating.{too_large}
use Rattle.ncl_top.proofs.PlainNames.{writable}
use Rattle.ncl_top.proofs.demonstrating.too_large.Goals as goal

pub write_netlist-requires : goal.write_netlist-requires
write_netlist-requires c =
    let made = c.requires.pipeline.made in
    subst IsWritable (sym c.netlist.ensures.netlist) (writable made.models c.args.demo.now.pipeline.netlist made.compiled)

pub returns : goal.returns
returns c =
    let p = c.args.demo.now.pipeline in
    let (stage, told, over) = c.requires.limit in
    let line = c.in_ok-line.ensures ∙ ap (verdict_line p.netlist (length p.stages) MOST_NODES) (told ∙ sym over) in
    let rest = c.deref.ensures.value ∙ c.in_ok-netlist.ensures.text ∙ ap text_of c.netlist.ensures.netlist in
    subst (IsDemoReply c.args.demo.now.bits 6) (sym (c.in_ok-joined.ensures ∙ (λ i. line i ++ rest i))) (too_large p c.requires.pipeline stage over)
