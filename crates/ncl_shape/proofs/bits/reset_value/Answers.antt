use Rattle.ncl_shape.proofs.Terms.{Bool, None, Some, ap, both_ways, data_of_driver, false, false_from_ne_true, if◌then◌else◌, is_data_register, sym, true, ◌∙◌, ◌≡◌}
use Rattle.ncl_shape.proofs.bits.reset_value.Goals as goal

pub returns-then-is_data_behind : goal.returns-then-is_data_behind
returns-then-is_data_behind c zero one in_zero in_one low high =
    let is_high : is_data_register one.kind ≡ true = data_of_driver c.args.netlist.now c.requires.drivers.netlist one c.args.high.0 in_one high (c.is_data_behind.ensures.0 c.if-is_data_behind.true) in
    sym (ap (λ (b : Bool). if b then Some true else if is_data_register zero.kind then Some false else None) is_high)

pub returns-then-is_data_behind-2 : goal.returns-then-is_data_behind-2
returns-then-is_data_behind-2 c zero one in_zero in_one low high =
    let is_low : is_data_register one.kind ≡ false
    = false_from_ne_true _ (λ held. both_ways c.is_data_behind.result c.if-is_data_behind.false (c.is_data_behind.ensures.1 record { cell = one; is_cell = in_one; out = high; resets_high = held })) in
    let is_high : is_data_register zero.kind ≡ true = data_of_driver c.args.netlist.now c.requires.drivers.netlist zero c.args.low.0 in_zero low (c.is_data_behind-2.ensures.0 c.if-is_data_behind-2.true) in
    sym (ap (λ (b : Bool). if b then Some true else if is_data_register zero.kind then Some false else None) is_low ∙ ap (λ (b : Bool). if b then Some false else None) is_high)
