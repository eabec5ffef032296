use Rattle.ncl_vcd.proofs.Terms.{Fired, IsRunFrom, List, NetlistData, Some, State, ap, change_lines, changes_of, codes, false, flat_map, identifier_code, items_in, length, level, line, reset, subst, sym, time_line, value_lines, values_in, variable_lines, ◌++◌, ◌<◌, ◌∙◌, ◌≡◌}
use Rattle.ncl_vcd.proofs.Changes.{value_at}
use Rattle.ncl_vcd.proofs.LevelLaws.{level-is}
use Rattle.ncl_vcd.proofs.RunLaws.{changes-rise, never_fall, value-first, values-after, values-length}
use Rattle.ncl_vcd.proofs.Ranges.{run-range}
use Rattle.ncl_vcd.proofs.WritingLaws.{run-front, whole-text}
use Rattle.ncl_vcd.proofs.NameLaws.{one_line-graphic, one_lines-graphic}
use Rattle.ncl_vcd.proofs.writing.dump.Goals as goal

pub push_changes-requires-clause-run : goal.push_changes-requires-clause-run
push_changes-requires-clause-run c =
    subst (λ (s : State). IsRunFrom c.args.pipeline.now s (items_in c.args.fired.now)) (sym c.in_ok-state.ensures.reset)
    (run-front c.args.pipeline.now (reset c.args.pipeline.now c.args.words.now) c.args.fired.now c.requires.run.rest
    (subst (λ (l : List Fired). IsRunFrom c.args.pipeline.now (reset c.args.pipeline.now c.args.words.now) (items_in l)) c.requires.run.front c.requires.run.run.run))

pub push_changes-requires-clause-range : goal.push_changes-requires-clause-range
push_changes-requires-clause-range c =
    run-range c.args.pipeline.now (reset c.args.pipeline.now c.args.words.now) c.args.fired.now
    (run-front c.args.pipeline.now (reset c.args.pipeline.now c.args.words.now) c.args.fired.now c.requires.run.rest
    (subst (λ (l : List Fired). IsRunFrom c.args.pipeline.now (reset c.args.pipeline.now c.args.words.now) (items_in l)) c.requires.run.front c.requires.run.run.run))

pub returns-clause-text : goal.returns-clause-text
returns-clause-text c =
    let p = c.args.pipeline.now in
    let fired : List Fired = c.args.fired.now in
    let name : c.bytes.result.now ≡ p.netlist.name = c.bytes.ensures ∙ c.module.ensures ∙ ap (λ (n : NetlistData). n.name) c.netlist-netlist.ensures.netlist in
    let nets : c.nets.result.now ≡ p.netlist.nets = c.nets.ensures.nets ∙ ap (λ (n : NetlistData). n.nets) c.netlist-netlist.ensures.netlist in
    let e1 = c.in_ok-push_line.ensures ∙ ap (λ l. l ++ line (codes "$timescale 1 ns $end")) c.new-text.ensures.items in
    let e2 = c.in_ok-push_scope.ensures ∙ (λ k. e1 k ++ line (codes "$scope module " ++ name k ++ codes " $end")) in
    let e3 = c.in_ok-push_variables.ensures ∙ (λ k. e2 k ++ flat_map line (variable_lines 0 (nets k))) in
    let e4 = c.in_ok-push_line-2.ensures ∙ ap (λ l. l ++ line (codes "$upscope $end")) e3 in
    let e5 = c.in_ok-push_line-3.ensures ∙ ap (λ l. l ++ line (codes "$enddefinitions $end")) e4 in
    let e6 = c.in_ok-push_time.ensures ∙ ap (λ l. l ++ line (time_line 0)) e5 in
    let e7 = c.in_ok-push_line-4.ensures ∙ ap (λ l. l ++ line (codes "$dumpvars")) e6 in
    let e8 = c.in_ok-push_values.ensures ∙ (λ k. e7 k ++ flat_map line (value_lines 0 (values_in p (c.in_ok-state.ensures.reset k)))) in
    let e9 = c.in_ok-push_line-5.ensures ∙ ap (λ l. l ++ line (codes "$end")) e8 in
    c.in_ok-push_changes.ensures.text
    ∙ (λ k. e9 k ++ flat_map line (change_lines 0 (changes_of p (c.in_ok-state.ensures.reset k) fired)))
    ∙ whole-text (codes "$timescale 1 ns $end") (codes "$scope module " ++ p.netlist.name ++ codes " $end") (codes "$upscope $end") (codes "$enddefinitions $end") (time_line 0) (codes "$dumpvars") (codes "$end") (variable_lines 0 p.netlist.nets) (value_lines 0 (values_in p (reset p c.args.words.now))) (change_lines 0 (changes_of p (reset p c.args.words.now) fired))

pub returns-clause-levels : goal.returns-clause-levels
returns-clause-levels c = λ net time lt.
    let p = c.args.pipeline.now in
    let s : State = reset p c.args.words.now in
    let fired : List Fired = c.args.fired.now in
    let run : IsRunFrom p s (items_in fired) = run-front p s fired c.requires.run.rest (subst (λ (l : List Fired). IsRunFrom p s (items_in l)) c.requires.run.front c.requires.run.run.run) in
    let up = never_fall p c.requires.run.delays c.args.words.now c.requires.run.trace.steps fired c.requires.run.rest c.requires.run.front c.requires.run.run.next in
    let small = c.in_ok-push_changes.ensures.small in
    let within : net < length (values_in p s) = subst (λ n. net < n) (sym (values-length p s)) lt in
    ap (λ t. level t (identifier_code net) time) (returns-clause-text c)
    ∙ level-is p.netlist.name p.netlist.nets (values_in p s) (changes_of p s fired) (one_line-graphic p.netlist.name c.requires.names.title) (one_lines-graphic p.netlist.nets c.requires.names.nets) (changes-rise p 0 s fired run up small) net time false within
    ∙ ap Some (ap (λ v. value_at net time v (changes_of p s fired)) (value-first p s net lt) ∙ values-after p net time 0 s fired run up small)
