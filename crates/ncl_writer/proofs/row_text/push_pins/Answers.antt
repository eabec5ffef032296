use Rattle.ncl_writer.proofs.Terms.{List, NetId, [], ap, arith, get_or, get_or_default, length, length-map, length_push, map, pin_names, pin_text, pins_of, subst, sym, take, unwrap_or, zip, ℕ, ◌++◌, ◌+◌, ◌<◌, ◌∙◌, ◌∷◌, ◌≡◌, ◌≤◌}
use Rattle.ncl_writer.proofs.Opened.{Opens-more, zip-push, pin_at, net_at, net_there}
use Rattle.ncl_writer.proofs.row_text.push_pins.Goals as goal

pub loop-place-preserved : goal.loop-place-preserved
loop-place-preserved c =
    let nets = c.args.nets.now in
    let cell = c.args.cell.now in
    let pins : List (List ℕ) = pins_of cell.kind in
    let names : List (List ℕ) = pin_names nets cell in
    let place = c.loop-place.place in
    let many : length c.pins-pin-items.result.now ≡ length pins = sym (length-map c.pins-pin-items.result.now (λ pin. pin.now)) ∙ ap length c.pins-pin-items.ensures in
    let named : length names ≡ length cell.ins.items + 1 = omega (arith, length-map (cell.ins.items ++ cell.out ∷ []) (λ (net : NetId). get_or nets net.0 []), length_push cell.ins.items cell.out) in
    let low : place ≤ length cell.ins.items = omega (arith, c.loop-place-test.true, many, c.requires.pins) in
    let net : c.unwrap_or-net.result ≡ get_or cell.ins.items place cell.out =
    c.unwrap_or-net.ensures ∙ ap (λ o. unwrap_or o cell.out) c.copied.ensures ∙ c.get.ensures.lookup.4 (omega arith) cell.out ∙ ap (λ l. get_or l place cell.out) c.deref.ensures.0 in
    let there : c.unwrap_or-net.result.0 < length nets = subst (λ (one : NetId). one.0 < length nets) (sym net) (net_there (length nets) cell.ins.items cell.out place c.requires.inputs c.requires.output) in
    let name : c.bytes.result.now ≡ get_or names place [] =
    c.bytes.ensures ∙ c.index-nets-net.is ∙ get_or_default nets c.unwrap_or-net.result.0 c.index-nets-net.result [] there
    ∙ ap (λ (one : NetId). get_or nets one.0 []) net ∙ sym (net_at nets cell.ins.items cell.out place low) in
    let pin = pin_at (λ pin. pin.now) c.pins-pin-items.result.now pins place (record { ref_ptr = (0, 0); now = [] }) c.pins-pin-items.ensures c.loop-place-test.true in
    Opens-more c.loop-place.text.items c.args.text.now.items c.loop-place.front (map (λ (pin, net). pin_text pin net) (zip (take place pins) names)) (map (λ (pin, net). pin_text pin net) (zip (take (place + 1) pins) names)) (pin_text (get_or pins place []) (get_or names place [])) c.push_pin.new.text.items c.loop-place.invariant
    (zip-push pin_text pins names place [] [] (omega (arith, c.loop-place-test.true, many)) (omega (arith, low, named)))
    (c.in_ok-push_pin.ensures ∙ (λ i. c.in_ok-push.ensures.items i ++ pin_text (pin i) (name i)))
