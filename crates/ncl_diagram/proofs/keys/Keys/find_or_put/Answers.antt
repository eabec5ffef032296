use Rattle.ncl_diagram.proofs.Terms.{AreWithin, Bucket, Key, List, length, subst, sym, ◌∙◌}
use Rattle.ncl_diagram.proofs.KeyLaws.{found_end, free_end}
use Rattle.ncl_diagram.proofs.MemoLaws.{short}
use Rattle.ncl_diagram.proofs.keys.Keys.find_or_put.Goals as goal

pub probe-end-requires-clause-within : goal.probe-end-requires-clause-within
probe-end-requires-clause-within c =
    subst (λ (bs : List Bucket). AreWithin bs c.self.inside.round (length c.as_slice.result.now)) (sym c.as_slice-2.ensures.value)
    (subst (λ (ks : List Key). AreWithin c.self.inside.buckets.items c.self.inside.round (length ks)) (sym c.as_slice.ensures.value) c.self.invariant.put.within)

pub put-requires-clause-free : goal.put-requires-clause-free
put-requires-clause-free c =
    free_end c.as_slice.result.now c.self.inside.keys.items c.as_slice-2.result.now c.self.inside.buckets.items c.self.inside.round c.args.key c.probe-end.result c.in-Free.at c.as_slice.ensures.value c.as_slice-2.ensures.value c.in-Free.is c.probe-end.ensures

pub returns-in-Found-clause-at : goal.returns-in-Found-clause-at
returns-in-Found-clause-at c =
    found_end c.as_slice.result.now c.grow.new.self c.as_slice-2.result.now c.self.inside.round c.args.key c.probe-end.result c.in-Found.at (c.as_slice.ensures.value ∙ c.self.view_is) c.in-Found.is c.probe-end.ensures

pub returns-in-Found-clause-within : goal.returns-in-Found-clause-within
returns-in-Found-clause-within c = short c.grow.new.self c.in-Found.at c.args.key (returns-in-Found-clause-at c)
