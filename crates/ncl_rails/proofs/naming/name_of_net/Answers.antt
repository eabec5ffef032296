use Rattle.ncl_rails.proofs.Terms.{IfOk, List, ap, arith, length, name_of_net, net_name_of, pair_names, subst, sym, ℕ, ◌*◌, ◌+◌, ◌-◌, ◌/◌, ◌∙◌, ◌≡◌, ◌≤◌}
use Rattle.ncl_rails.proofs.NetNames.{length-pair_names, made_name, net_zero, net_one}
use Rattle.ncl_rails.proofs.naming.name_of_net.Goals as goal

pub returns-in-Some : goal.returns-in-Some
returns-in-Some c =
    let even : 2 * (c.args.net.0 / 2) ≡ c.args.net.0 = omega (arith, c.if-place-eq0.true) in
    let named : c.bytes.result.now ≡ name_of_net (pair_names c.args.ins.now) c.args.prefix.now c.args.net.0 =
    c.bytes.ensures ∙ sym (net_zero c.args.ins.now c.args.prefix.now (c.args.net.0 / 2) c.in-Some.pair.now c.in-Some.ensures.lookup.3.0 c.in-Some.ensures.lookup.1) ∙ ap (name_of_net (pair_names c.args.ins.now) c.args.prefix.now) even in
    subst (λ (n : List ℕ). IfOk c.from_bytes.result (λ name. name ≡ n)) named c.from_bytes.ensures

pub returns-in-Some-2 : goal.returns-in-Some-2
returns-in-Some-2 c =
    let odd : 2 * (c.args.net.0 / 2) + 1 ≡ c.args.net.0 = omega (arith, c.if-place-eq0.false) in
    let named : c.bytes-in-Some-2.result.now ≡ name_of_net (pair_names c.args.ins.now) c.args.prefix.now c.args.net.0 =
    c.bytes-in-Some-2.ensures ∙ sym (net_one c.args.ins.now c.args.prefix.now (c.args.net.0 / 2) c.in-Some.pair.now c.in-Some.ensures.lookup.3.0 c.in-Some.ensures.lookup.1) ∙ ap (name_of_net (pair_names c.args.ins.now) c.args.prefix.now) odd in
    subst (λ (n : List ℕ). IfOk c.from_bytes-in-Some-2.result (λ name. name ≡ n)) named c.from_bytes-in-Some-2.ensures

pub returns-in-None : goal.returns-in-None
returns-in-None c =
    let past : length (pair_names c.args.ins.now) ≤ c.args.net.0 = omega (arith, length-pair_names c.args.ins.now, c.in-None.ensures.lookup.3) in
    let named : net_name_of c.args.prefix.now (c.args.net.0 - 2 * length c.args.ins.now) ≡ name_of_net (pair_names c.args.ins.now) c.args.prefix.now c.args.net.0 =
    ap (λ n. net_name_of c.args.prefix.now (c.args.net.0 - n)) (sym (length-pair_names c.args.ins.now)) ∙ sym (made_name (pair_names c.args.ins.now) c.args.prefix.now c.args.net.0 past) in
    subst (λ (n : List ℕ). IfOk c.net_name.result (λ name. name ≡ n)) named c.net_name.ensures
