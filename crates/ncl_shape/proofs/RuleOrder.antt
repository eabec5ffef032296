-- The rules of shape one after the other: those below a number, and one more.
use Rattle.ncl_shape.proofs.Terms.{Chained, FewBanks, InPairs, List, NarrowBanks, NetlistData, OffCycles, PortsRead, Rule, RuleHolds, Tied, Unmixed, [], get_or, refl, rule_number, ℕ, ◌+◌, ◌-◌, ◌∷◌, ◌≡◌}
use Rattle.ncl_shape.proofs.NumberedRules.{HoldBelow, none_below, one_more_below}

abbrev pub RulesBelow : NetlistData → ℕ → Type 0
RulesBelow n = HoldBelow Rule rule_number (RuleHolds n)

-- the rules by their places
abbrev rules : List Rule
rules = PortsRead ∷ OffCycles ∷ InPairs ∷ Unmixed ∷ Tied ∷ Chained ∷ NarrowBanks ∷ FewBanks ∷ []

placed : (r : Rule) → get_or rules (rule_number r - 1) PortsRead ≡ r
placed PortsRead = refl
placed OffCycles = refl
placed InPairs = refl
placed Unmixed = refl
placed Tied = refl
placed Chained = refl
placed NarrowBanks = refl
placed FewBanks = refl

pub no_rule_below : (n : NetlistData) → RulesBelow n 1
no_rule_below n = none_below Rule rule_number (RuleHolds n) rules PortsRead placed refl

pub one_rule_more : (n : NetlistData) (r : Rule) → RuleHolds n r → RulesBelow n (rule_number r) → RulesBelow n (rule_number r + 1)
one_rule_more n = one_more_below Rule rule_number (RuleHolds n) rules PortsRead placed
