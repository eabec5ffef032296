use Rattle.runs.proofs.whole_way.merged_text.Goals as goal

pub merge-requires : goal.merge-requires
merge-requires c =
    let compiled = c.in_ok-netlist.ensures.compiled in
    record { pipeline = compiled.pipeline; shape = compiled.shape; sound = compiled.sound }
