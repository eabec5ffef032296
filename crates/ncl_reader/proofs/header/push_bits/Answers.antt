use Rattle.ncl_reader.proofs.Bits.{◌<◌, length, ◌∷◌, [], ◌++◌, map, take, get_or, sym, ap, ◌∙◌, arith, append_assoc, take_more, map_push, take_all, bit_port, numbers_of, length-numbers_of}
use Rattle.ncl_reader.proofs.header.push_bits.Goals as goal

pub loop-place-preserved : goal.loop-place-preserved
loop-place-preserved c =
    let numbers = numbers_of c.args.span in
    let place = c.loop-place.place in
    let port = bit_port c.args.name.now c.args.output in
    let within : place < length numbers = omega (arith, length-numbers_of c.args.span, c.loop-place-test.true, c.width-place-end.ensures) in
    let old = c.args.ports.now.items in
    c.in_ok-push.ensures.items
    ∙ (λ i. c.loop-place.invariant i ++ record { name = c.in_ok-bit_name.ensures i; output = c.args.output } ∷ [])
    ∙ (λ i. (old ++ map port (take place numbers)) ++ port (c.number.ensures i) ∷ [])
    ∙ append_assoc old (map port (take place numbers)) (port (get_or numbers place 0) ∷ [])
    ∙ ap (λ l. old ++ l) (sym (ap (map port) (take_more numbers place 0 within) ∙ map_push port (take place numbers) (get_or numbers place 0)))

pub returns : goal.returns
returns c =
    let numbers = numbers_of c.args.span in
    c.loop-place.invariant ∙ ap (λ l. c.args.ports.now.items ++ map (bit_port c.args.name.now c.args.output) l) (take_all c.loop-place.place numbers (omega (arith, length-numbers_of c.args.span)))
