use Rattle.ncl_bank.proofs.Terms.{All-get_or, All-same, IsNetOf, NetId, [], ap, get_or, get_or_read, length, map, map-append, map_push, name_at, sym, take, take_all, ◌++◌, ◌<◌, ◌∙◌, ◌∷◌, ◌≡◌}
use Rattle.ncl_bank.proofs.cells.pin_names.Goals as goal

pub loop-net-preserved : goal.loop-net-preserved
loop-net-preserved c =
    let nets = c.args.nets.now in
    let ins = c.as_slice-net-items.result.now in
    let net : NetId = get_or ins c.loop-net.net-index (record { 0 = 0 }) in
    let within : net.0 < length nets = All-get_or (IsNetOf nets) ins c.loop-net.net-index (record { 0 = 0 }) c.loop-net-test.true (All-same (IsNetOf nets) ins c.args.gate.now.ins.items c.as_slice-net-items.ensures.value c.requires.ins) in
    map_push (name_at nets) ins c.loop-net.net-index (record { 0 = 0 }) c.loop-net.names.items c.push.new.self.items c.in_ok-copied.field-0 c.loop-net-test.true c.loop-net.invariant
    (c.in_ok-copied.ensures ∙ get_or_read nets net.0 c.index-nets-net.result within c.index-nets-net.is []) c.in_ok-push.ensures.items

pub returns : goal.returns
returns c =
    let nets = c.args.nets.now in
    let ins = c.as_slice-net-items.result.now in
    let out = c.args.gate.now.out in
    let all : take c.loop-net.net-index ins ≡ c.args.gate.now.ins.items = take_all c.loop-net.net-index ins c.loop-net-test.false ∙ c.as_slice-net-items.ensures.value in
    let last : c.in_ok-copied-2.field-0 ≡ name_at nets out = c.in_ok-copied-2.ensures ∙ get_or_read nets out.0 c.index-nets-gate.result c.requires.out c.index-nets-gate.is [] in
    c.in_ok-push-2.ensures.items
    ∙ (λ i. (c.loop-net.invariant ∙ ap (map (name_at nets)) all) i ++ last i ∷ [])
    ∙ sym (map-append (name_at nets) c.args.gate.now.ins.items (out ∷ []))
