use Rattle.ncl_compile.proofs.Terms.{IfOk-weaker, IsBankBetween, IsFreeOf, [], ap, arith, bank_prefix, input_pairs, length, length-map-range_with_len, outputs_of, pair_names, pairs_read, port_pair, refl, slice_get_read, slice_index, subst, suc, sym, width_of, widths_of, ◌-◌, ◌∙◌, ◌∷◌, ◌≡◌}
use Rattle.ncl_compile.proofs.CallLaws.{inputs_free}
use Rattle.ncl_compile.proofs.BankWidths.{width_bounds, length-outputs, stage_outputs_free}
use Rattle.ncl_compile.proofs.banks.bank_at.Goals as goal

pub bank_between-requires-clause-some : goal.bank_between-requires-clause-some
bank_between-requires-clause-some c = let bounds = width_bounds c.args.models.now c.requires.are_models c.requires.small c.args.number c.requires.within in let width = c.width_at-width.ensures in omega (arith, bounds.0, width)

pub bank_between-requires-clause-few : goal.bank_between-requires-clause-few
bank_between-requires-clause-few c = let bounds = width_bounds c.args.models.now c.requires.are_models c.requires.small c.args.number c.requires.within in let width = c.width_at-width.ensures in omega (arith, bounds.1, width)

pub bank_between-requires-2-clause-some : goal.bank_between-requires-2-clause-some
bank_between-requires-2-clause-some c = let bounds = width_bounds c.args.models.now c.requires.are_models c.requires.small c.args.number c.requires.within in let width = c.width_at-width.ensures in omega (arith, bounds.0, width)

pub bank_between-requires-2-clause-few : goal.bank_between-requires-2-clause-few
bank_between-requires-2-clause-few c = let bounds = width_bounds c.args.models.now c.requires.are_models c.requires.small c.args.number c.requires.within in let width = c.width_at-width.ensures in omega (arith, bounds.1, width)

pub bank_between-requires-clause-as_many : goal.bank_between-requires-clause-as_many
bank_between-requires-clause-as_many c =
    let width = c.width_at-width.result in
    ap length (c.deref.ensures.value ∙ c.in_ok-ins.ensures) ∙ length-map-range_with_len (port_pair (105 ∷ [])) 1 width

pub bank_between-requires-clause-free : goal.bank_between-requires-clause-free
bank_between-requires-clause-free c =
    let ins : c.deref.result.now ≡ input_pairs c.width_at-width.result = c.deref.ensures.value ∙ c.in_ok-ins.ensures in
    subst (λ l. IsFreeOf (bank_prefix c.args.number) (pair_names l)) (sym ins) (inputs_free c.args.number c.width_at-width.result)

-- the stage before a bank that is not the first
pub bank_between-requires-2-clause-as_many : goal.bank_between-requires-2-clause-as_many
bank_between-requires-2-clause-as_many c =
    let models = c.args.models.now in
    let stages = c.args.stages.now in
    let many = c.requires.are_stages.as_many in
    let place : suc (c.args.number - 1) ≡ c.args.number = omega arith in
    let at = slice_get_read stages (length stages) (c.args.number - 1) c.index-stages-number.result refl (omega (arith, many)) c.index-stages-number.is in
    let outputs = length-outputs models c.requires.are_models c.requires.small stages c.requires.are_stages (c.args.number - 1) c.index-stages-number.result at in
    ap length c.items.ensures ∙ outputs ∙ ap (slice_index (widths_of models)) place ∙ sym c.width_at-width.ensures

pub bank_between-requires-2-clause-free : goal.bank_between-requires-2-clause-free
bank_between-requires-2-clause-free c =
    let models = c.args.models.now in
    let stages = c.args.stages.now in
    let many = c.requires.are_stages.as_many in
    let at = slice_get_read stages (length stages) (c.args.number - 1) c.index-stages-number.result refl (omega (arith, many)) c.index-stages-number.is in
    let free = stage_outputs_free models c.requires.are_models c.requires.small stages c.requires.are_stages c.args.number (c.args.number - 1) c.index-stages-number.result at in
    subst (λ l. IsFreeOf (bank_prefix c.args.number) (pair_names l)) (sym c.items.ensures) free

pub returns : goal.returns
returns c =
    let models = c.args.models.now in
    let stages = c.args.stages.now in
    let many = c.requires.are_stages.as_many in
    let place : suc (c.args.number - 1) ≡ c.args.number = omega arith in
    let at = slice_get_read stages (length stages) (c.args.number - 1) c.index-stages-number.result refl (omega (arith, many)) c.index-stages-number.is in
    let read : pairs_read (width_of models) stages c.args.number ≡ c.items.result.now = ap (pairs_read (width_of models) stages) (sym place) ∙ ap outputs_of at ∙ sym c.items.ensures in
    let width = c.width_at-width.ensures in
    IfOk-weaker c.bank_between-2.result (IsBankBetween c.items.result.now (length models) c.args.number c.width_at-width.result) (IsBankBetween (pairs_read (width_of models) stages c.args.number) (length models) c.args.number (slice_index (widths_of models) c.args.number))
    (λ bank is. subst (λ l. IsBankBetween l (length models) c.args.number (slice_index (widths_of models) c.args.number) bank) (sym read) (subst (λ w. IsBankBetween c.items.result.now (length models) c.args.number w bank) width is))
    c.bank_between-2.ensures

pub port_pairs-requires : goal.port_pairs-requires
port_pairs-requires c = let bounds = width_bounds c.args.models.now c.requires.are_models c.requires.small c.args.number c.requires.within in let width = c.width_at-width.ensures in omega (arith, bounds.1, width)
