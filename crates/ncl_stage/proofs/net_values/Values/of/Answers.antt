use Rattle.ncl_stage.proofs.Terms.{HaveTables, IsLive, ValuesData, WiringData, ap, get_or, map, net_table_by, place_in, subst, sym, ◌∙◌, ◌≡◌}
use Rattle.ncl_stage.proofs.OutputLaws.{net-ref}
use Rattle.ncl_stage.proofs.net_values.Values.of.Goals as goal

pub returns-clause-shown : goal.returns-clause-shown
returns-clause-shown c = λ space s variant are.
    let nets = c.args.self.now.wiring.nets in
    let refs = c.args.self.now.refs in
    let net = c.args.net.0 in
    let shown : HaveTables space refs (map (net_table_by c.args.self.now.wiring.order s variant) nets) = subst (λ l. HaveTables space refs (map (net_table_by c.args.self.now.wiring.order s variant) l)) (sym are.wired.nets) are.shown in
    let r = c.index.result.now in
    let found = net-ref space (net_table_by c.args.self.now.wiring.order s variant) nets refs shown net c.requires r in
    let place : c.place_of.result ≡ place_in nets net = c.place_of.ensures ∙ ap (λ (w : WiringData). place_in w.nets net) (c.deref.ensures ∙ ap (λ (v : ValuesData). v.wiring) c.self.view_is) in
    let own : c.self.inside.refs.items ≡ refs = ap (λ (v : ValuesData). v.refs) c.self.view_is in
    let at : r ≡ get_or refs (place_in nets net) r = c.index.ensures ∙ (λ k. get_or (own k) (place k) r) in
    (subst (IsLive space) (sym at) found.1, ap space.table at ∙ found.2)
