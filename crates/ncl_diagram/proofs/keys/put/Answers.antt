use Rattle.ncl_diagram.proofs.Terms.{Bucket, IsTable, Key, List, ap, arith, refl, set, slice_get, slice_get-end, subst, sym, ◌∙◌}
use Rattle.ncl_diagram.proofs.KeyLaws.{table_push}
use Rattle.ncl_diagram.proofs.MemoLaws.{short}
use Rattle.ncl_diagram.proofs.keys.put.Goals as goal

pub index_mut-requires : goal.index_mut-requires
index_mut-requires c = let less = short c.args.buckets.now.items c.args.at c.requires.free.bucket c.requires.free.there in omega (arith, c.args.buckets.now.ok.0)

pub returns-clause-table : goal.returns-clause-table
returns-clause-table c =
    let new : Bucket = record { round = c.args.round; index = c.len-index.result } in
    subst (λ (ks : List Key). IsTable ks (set c.args.buckets.now.items c.args.at new) c.args.round) (sym c.in_ok-push.ensures.items)
    (table_push c.args.keys.now.items c.args.buckets.now.items c.args.round c.args.key c.args.at new c.requires.table c.requires.free refl (omega (arith, c.args.keys.now.ok.0)))

pub returns-clause-at : goal.returns-clause-at
returns-clause-at c =
    ap (λ (ks : List Key). slice_get ks c.len-index.result) c.in_ok-push.ensures.items
    ∙ slice_get-end c.args.keys.now.items c.args.key c.len-index.result (omega (arith, c.args.keys.now.ok.0))

pub returns-clause-within : goal.returns-clause-within
returns-clause-within c = short c.push.new.self.items c.len-index.result c.args.key (returns-clause-at c)
