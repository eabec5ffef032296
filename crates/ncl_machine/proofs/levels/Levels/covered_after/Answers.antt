use Rattle.ncl_machine.proofs.Terms.{AreCovered, Bool, LevelsData, List, MOST_BITS, NetId, Option, ap, arith, count_of, false, has_data, is_covered_by, length, mate_in, net_values, not, set, subst, sym, true, ℕ, ◌+◌, ◌<◌, ◌∙◌, ◌≡◌, ◌≤◌}
use Rattle.ncl_machine.proofs.Counts.{count-few}
use Rattle.ncl_machine.proofs.Mates.{count-stays, count-more, count-less}
use Rattle.ncl_machine.proofs.levels.Levels.covered_after.Goals as goal

module _ (d : LevelsData) (mates : List (Option NetId)) (covered net : ℕ) (value : Bool) (are : AreCovered d mates covered)
    (within : net < length d.values) (turns : net_values d.values net ≡ not value) where
  abbrev now : ℕ
  now = count_of (has_data (net_values (set d.values net value))) d.outputs

  stays : true ≡ is_covered_by (net_values d.values) (mate_in d.outputs net) → covered ≡ now
  stays is = are.count ∙ count-stays d.values net value within turns d.outputs are.apart (sym is)

  more : false ≡ is_covered_by (net_values d.values) (mate_in d.outputs net) → value ≡ true → covered + 1 ≡ now
  more is high = ap (λ n. n + 1) are.count ∙ count-more d.values net value within turns d.outputs are.apart (sym is) high

  less : false ≡ is_covered_by (net_values d.values) (mate_in d.outputs net) → value ≡ false → covered ≡ now + 1
  less is low = are.count ∙ count-less d.values net value within turns d.outputs are.apart (sym is) low

  few : now ≤ MOST_BITS
  few = let some = count-few (has_data (net_values (set d.values net value))) d.outputs in let most = are.few in omega (arith, some, most)

pub returns-then-is_covered_without : goal.returns-then-is_covered_without
returns-then-is_covered_without c =
    let are = subst (λ d. AreCovered d c.self.inside.mates.items c.self.inside.covered) c.self.view_is c.self.invariant in
    stays _ _ _ c.args.net.0 c.args.value are c.requires.within c.requires.turns c.if-is_covered_without.ensures

pub overflow_add-result : goal.overflow_add-result
overflow_add-result c =
    let are = subst (λ d. AreCovered d c.self.inside.mates.items c.self.inside.covered) c.self.view_is c.self.invariant in
    let e = more _ _ _ c.args.net.0 c.args.value are c.requires.within c.requires.turns c.if-is_covered_without.ensures c.if-value.true in
    let most = few _ _ _ c.args.net.0 c.args.value are c.requires.within c.requires.turns in
    omega (arith, e, most)

pub returns-then-value : goal.returns-then-value
returns-then-value c =
    let are = subst (λ d. AreCovered d c.self.inside.mates.items c.self.inside.covered) c.self.view_is c.self.invariant in
    more _ _ _ c.args.net.0 c.args.value are c.requires.within c.requires.turns c.if-is_covered_without.ensures c.if-value.true

pub overflow_sub-result : goal.overflow_sub-result
overflow_sub-result c =
    let are = subst (λ d. AreCovered d c.self.inside.mates.items c.self.inside.covered) c.self.view_is c.self.invariant in
    let e = less _ _ _ c.args.net.0 c.args.value are c.requires.within c.requires.turns c.if-is_covered_without.ensures c.if-value.false in
    omega (arith, e)

pub returns : goal.returns
returns c =
    let are = subst (λ d. AreCovered d c.self.inside.mates.items c.self.inside.covered) c.self.view_is c.self.invariant in
    let e = less _ _ _ c.args.net.0 c.args.value are c.requires.within c.requires.turns c.if-is_covered_without.ensures c.if-value.false in
    omega (arith, e)
