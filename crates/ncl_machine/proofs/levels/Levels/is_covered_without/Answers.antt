use Rattle.ncl_machine.proofs.Terms.{All-contains, AreCovered, Contains-from_Member, LevelsData, NetId, None, Option, Some, ap, get_or, get_or_default, is_covered_by, length, mate_in, net_values, rail_nets, subst, sym, true, ◌<◌, ◌∙◌, ◌≡◌}
use Rattle.ncl_machine.proofs.Mates.{mate_in-within}
use Rattle.ncl_machine.proofs.levels.Levels.is_covered_without.Goals as goal

-- what stands in the table
mate_is : (d : LevelsData) (mates : _) (covered net : _) → AreCovered d mates covered → net < length d.values → (found : Option NetId)
    → found ≡ get_or mates net found → mate_in d.outputs net ≡ found
mate_is d mates covered net are within found at =
    let inside : net < length mates = subst (λ n. net < n) (sym are.as_many) within in
    sym (are.each net) ∙ get_or_default mates net None found inside ∙ sym at

mate_inside : (d : LevelsData) (mates : _) (covered net : _) (mate : NetId) → AreCovered d mates covered → mate_in d.outputs net ≡ Some mate → mate.0 < length d.values
mate_inside d mates covered net mate are is =
    All-contains (λ x. x < length d.values) (rail_nets d.outputs) mate.0 are.within (Contains-from_Member mate.0 (mate_in-within d.outputs net mate is))

pub index-requires-in-Some : goal.index-requires-in-Some
index-requires-in-Some c =
    let within = subst (λ (d : LevelsData). c.args.net.0 < length d.values) (sym c.self.view_is) c.requires in
    let is = mate_is _ _ _ c.args.net.0 c.self.invariant within c.index.result.now c.index.ensures in
    subst (λ n. c.in-Some.mate.0 < n) (sym c.self.inside.values.ok.0) (mate_inside _ _ _ c.args.net.0 c.in-Some.mate c.self.invariant (is ∙ c.in-Some.is))

pub returns-in-None : goal.returns-in-None
returns-in-None c =
    let within = subst (λ (d : LevelsData). c.args.net.0 < length d.values) (sym c.self.view_is) c.requires in
    let is = mate_is _ _ _ c.args.net.0 c.self.invariant within c.index.result.now c.index.ensures in
    subst (λ (d : LevelsData). true ≡ is_covered_by (net_values d.values) (mate_in d.outputs c.args.net.0)) c.self.view_is
    (sym (ap (is_covered_by (net_values c.self.inside.values.items)) (is ∙ c.in-None.is)))

pub returns-in-Some : goal.returns-in-Some
returns-in-Some c =
    let within = subst (λ (d : LevelsData). c.args.net.0 < length d.values) (sym c.self.view_is) c.requires in
    let is = mate_is _ _ _ c.args.net.0 c.self.invariant within c.index.result.now c.index.ensures in
    let inside = mate_inside _ _ _ c.args.net.0 c.in-Some.mate c.self.invariant (is ∙ c.in-Some.is) in
    subst (λ (d : LevelsData). c.index-in-Some.result.now ≡ is_covered_by (net_values d.values) (mate_in d.outputs c.args.net.0)) c.self.view_is
    (c.index-in-Some.ensures ∙ get_or_default c.self.inside.values.items c.in-Some.mate.0 c.index-in-Some.result.now _ inside
    ∙ sym (ap (is_covered_by (net_values c.self.inside.values.items)) (is ∙ c.in-Some.is)))
