use Rattle.ncl_compile.proofs.Terms.{Model, ap, arith, length, refl, slice_get_read, slice_index, suc, sym, widths_of, ◌-◌, ◌∙◌, ◌≡◌}
use Rattle.ncl_compile.proofs.BankWidths.{width_before, width_after}
use Rattle.ncl_compile.proofs.banks.width_at.Goals as goal

pub returns-then-number-models : goal.returns-then-number-models
returns-then-number-models c =
    let models = c.args.models.now in
    ap length c.items.ensures ∙ ap (λ (m : Model). length m.inputs) (sym c.index-models-number.is) ∙ sym (width_before models c.args.number c.index-models-number.result (slice_get_read models (length models) c.args.number c.index-models-number.result refl (omega arith) c.index-models-number.is))

pub returns : goal.returns
returns c =
    let models = c.args.models.now in
    let place : suc (length models - 1) ≡ c.args.number = let some = c.requires.are_models.some in omega (arith, some) in
    let at = slice_get_read models (length models) (length models - 1) c.index-models-models.result refl (let some = c.requires.are_models.some in omega (arith, some)) c.index-models-models.is in
    ap length c.items-2.ensures ∙ ap (λ (m : Model). length m.outputs) (sym c.index-models-models.is) ∙ sym (width_after models (length models - 1) c.index-models-models.result c.requires.are_models.joined at) ∙ ap (slice_index (widths_of models)) place
