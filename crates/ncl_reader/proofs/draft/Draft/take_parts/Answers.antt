use Rattle.ncl_reader.proofs.Ports.{◌≡◌, arith, map, length, ◌∙◌, sym, ap, subst, flat_map, Port, AllDiffer, KeepsNames, header_of, AreCellsOf, joined_in, said_by, ended, spelled, said_declared, header_stands, header_few, ports_differ, ports_few}
use Rattle.ncl_reader.proofs.draft.Draft.take_parts.Goals as goal

pub returns-clause-says : goal.returns-clause-says
returns-clause-says c = λ p (kept, (head, items, is, body)).
    let here = subst (λ q. KeepsNames c.args.self.now.known (spelled q)) is kept in (
      head,
      items,
      is,
      record {
        title = c.in_ok-module.ensures ∙ body.0;
        ports = c.from_vec.ensures ∙ c.in_ok-ports.ensures (header_of head) (said_by (record { head = head; items = items })) (spelled (ended head items)) body.1.header here.ranges (said_declared head items);
        cells = subst (λ cs. AreCellsOf (flat_map joined_in items) cs) (sym (c.from_vec-2.ensures ∙ ap (λ v. v.items) c.replace-cells.ensures.value)) body.1.cells;
      },
    )

pub returns-clause-differ : goal.returns-clause-differ
returns-clause-differ c = λ p (kept, (head, items, is, body)).
    let here = subst (λ q. KeepsNames c.args.self.now.known (spelled q)) is kept in
    let said = said_by (record { head = head; items = items }) in
    let ports = c.from_vec.ensures ∙ c.in_ok-ports.ensures (header_of head) said (spelled (ended head items)) body.1.header here.ranges (said_declared head items) in
    subst AllDiffer (sym (ap (map (λ (port : Port). port.name)) ports))
    (ports_differ c.args.self.now.known.ranges (spelled (ended head items)) here.ranges here.clear said (said_declared head items) (header_of head) body.1.header.differ (header_stands head items))

pub returns-clause-few : goal.returns-clause-few
returns-clause-few c = λ p (kept, (head, items, is, body)).
    let here = subst (λ q. KeepsNames c.args.self.now.known (spelled q)) is kept in
    let said = said_by (record { head = head; items = items }) in
    let ports = c.from_vec.ensures ∙ c.in_ok-ports.ensures (header_of head) said (spelled (ended head items)) body.1.header here.ranges (said_declared head items) in
    let count = ap length ports in
    let same : length (spelled p) ≡ length (spelled (ended head items)) = ap (λ q. length (spelled q)) is in
    omega (arith, count, same, ports_few said (header_of head) body.1.header.differ, body.1.header.few, header_few head.name head.ports items)
