use Rattle.ncl_stage.proofs.Terms.{All, Contains, List, [], ap, arith, get_or, get_or-map, inl, inr, length, length-map, length-replicate, map, nothing-at, items_at, subst, sym, ℕ, ◌-◌, ◌<◌, ◌∙◌, ◌≡◌}
use Rattle.ncl_stage.proofs.ReaderLists.{each-next}
use Rattle.ncl_stage.proofs.readers.readers_of.Goals as goal

pub loop-places-init : goal.loop-places-init
loop-places-init c = record {
  many = ap length c.in_ok-readers.ensures ∙ length-replicate c.args.nets [];
  next = omega arith;
  each = λ cell net lt reads. absurd (omega (arith, lt));
  within = λ net place has. absurd (nothing-at c.args.nets net place (subst (λ lists. Contains (items_at lists net) place) c.in_ok-readers.ensures has));
}

pub put_at-requires : goal.put_at-requires
put_at-requires c =
    let i = c.loop-places.places-index in
    let at : c.as_slice.result.now ≡ get_or (map (λ p. p.items) c.args.pins.now) i [] = c.as_slice.ensures.value ∙ ap (λ p. p.items) c.places-item.is ∙ sym (get_or-map (λ p. p.items) c.args.pins.now i c.places-item.result [] c.loop-places-test.true) in
    let many = length-map c.args.pins.now (λ p. p.items) in
    let lt = c.loop-places-test.true in
    subst (λ n. All (λ p. p < n) c.as_slice.result.now) (sym c.loop-places.invariant.many)
    (subst (All (λ p. p < c.args.nets)) (sym at) (c.requires.within i [] (omega (arith, many, lt))))

pub loop-places-preserved : goal.loop-places-preserved
loop-places-preserved c =
    let i = c.loop-places.places-index in
    let rails = c.args.nets - length c.args.pins.now in
    let pins : List (List ℕ) = map (λ p. p.items) c.args.pins.now in
    let lists = c.loop-places.readers in
    let new = c.put_at.new.readers in
    let at : c.as_slice.result.now ≡ get_or pins i [] = c.as_slice.ensures.value ∙ ap (λ p. p.items) c.places-item.is ∙ sym (get_or-map (λ p. p.items) c.args.pins.now i c.places-item.result [] c.loop-places-test.true) in
    let next = c.loop-places.invariant.next in
    let few : c.loop-places.reader < c.args.nets = omega (arith, next, c.loop-places-test.true, c.requires.many) in
    let grows = c.in_ok-put_at.ensures.grows c.args.nets few in
    record {
      many = grows.size ∙ c.loop-places.invariant.many;
      next = omega (arith, next);
      each =
          each-next c.args.nets rails pins lists new i grows
          (λ net reads. subst (Contains (items_at new net)) next (c.in_ok-put_at.ensures.has net (subst (λ places. Contains places net) (sym at) reads))) c.loop-places.invariant.each;
      within = λ net place has. elim (grows.below net place has) [ inl before ↦ c.loop-places.invariant.within net place before | inr lt ↦ lt ];
    }

pub returns : goal.returns
returns c = record {
  many = c.loop-places.invariant.many;
  each = λ cell net lt reads.
      let many = length-map c.args.pins.now (λ p. p.items) in
      let done = c.loop-places-test.false in
      c.loop-places.invariant.each cell net (omega (arith, lt, many, done)) reads;
  within = c.loop-places.invariant.within;
}
