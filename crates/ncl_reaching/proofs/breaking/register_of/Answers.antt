use Rattle.ncl_reaching.proofs.Terms.{Bank, List, ap, length, place_read, slice_get_within, subst, sym, ◌<◌, ◌∙◌, ◌≡◌}
use Rattle.ncl_reaching.proofs.breaking.register_of.Goals as goal

pub bounds-banks-bank : goal.bounds-banks-bank
bounds-banks-bank c =
    let (b, at, lt) = c.requires in
    subst (λ (banks : List Bank). c.args.bank < length banks) (sym c.banks.ensures.banks) (slice_get_within c.args.pipeline.now.banks c.args.bank b at)

pub bounds-items-bit : goal.bounds-items-bit
bounds-items-bit c =
    let (b, at, lt) = c.requires in
    let here = place_read c.args.pipeline.now.banks c.banks.result.now c.args.bank c.index-banks-bank.result c.banks.ensures.banks c.index-banks-bank.is (slice_get_within c.args.pipeline.now.banks c.args.bank b at) in
    let one : c.index-banks-bank.result ≡ b = cc in
    subst (λ bits. c.args.bit < length bits) (sym (c.items.ensures ∙ ap (λ (x : Bank). x.bits) (sym c.index-banks-bank.is ∙ one))) lt
