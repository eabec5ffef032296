use Rattle.ncl_stage.proofs.Terms.{Bool, [], ap, arith, false, get_or, length, length-map, length-range_with_len, map-range_with_len_more, range_with_len, sym, ℕ, ◌++◌, ◌+◌, ◌∙◌, ◌∷◌, ◌≡◌, ◌≤◌}
use Rattle.ncl_stage.specs.BitOrder.{place_in}
use Rattle.ncl_stage.proofs.input_order.BitOrder.placed.Goals as goal

pub push-requires : goal.push-requires
push-requires c =
    let f : ℕ → Bool = λ bit. get_or c.args.word.now (place_in c.args.self.now bit) false in
    let many : length c.loop-bit.all ≡ c.loop-bit.bit = ap length c.loop-bit.invariant ∙ length-map (range_with_len 0 c.loop-bit.bit) f ∙ length-range_with_len 0 c.loop-bit.bit in
    let few : length c.self.inside.places.keys ≤ 128 = c.self.invariant.1 in
    let end : c.len-bit-end.result ≡ length c.self.inside.places.keys = c.len-bit-end.ensures.len in
    omega arith

pub loop-bit-preserved : goal.loop-bit-preserved
loop-bit-preserved c =
    let f : ℕ → Bool = λ bit. get_or c.args.word.now (place_in c.args.self.now bit) false in
    let size : 0 + c.loop-bit.bit ≡ c.loop-bit.bit = omega arith in
    c.push.ensures
    ∙ (λ k. c.loop-bit.invariant k ++ get_or (c.bits.ensures.bits k) (c.place_of.ensures.place k) false ∷ [])
    ∙ sym (map-range_with_len_more f 0 c.loop-bit.bit c.loop-bit.bit size)
