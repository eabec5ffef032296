-- Summaries of two sets make the summary of both.
use Rattle.ncl_cell_rules.proofs.Terms.{AckOf, FromPort, HasOnly, HasTwo, IsSummary, Many, NetId, None, Option, Origin, Port, Rail, RailOf, Some, Source, ap, inl, inr, refl, ℕ, ◌≡◌, ◌⊎◌}
use Rattle.ncl_cell_rules.specs.declared.source.Source.TheVariants.{Ack}

-- the origin that a source names
abbrev pub named : Source → Option Origin
named Port = Some FromPort
named (Rail r) = Some (RailOf r.0)
named (Ack r) = Some (AckOf r.0)
named Many = None

-- a summary names the only origin, or there are two
pub summary_cases : (P : Origin → Type 0) (s : Source) → IsSummary P s → ((o : Origin) × (named s ≡ Some o) × HasOnly P o) ⊎ ((s ≡ Many) × HasTwo P)
summary_cases P Port is = inl (FromPort, refl, is)
summary_cases P (Rail r) is = inl (RailOf r.0, refl, is)
summary_cases P (Ack r) is = inl (AckOf r.0, refl, is)
summary_cases P Many is = inr (refl, is)

same_rail : (r q : NetId) → r.0 ≡ q.0 → Rail r ≡ Rail q
same_rail r q e = ap (λ (x : ℕ). Rail (record { 0 = x })) e

same_ack : (r q : NetId) → r.0 ≡ q.0 → Ack r ≡ Ack q
same_ack r q e = ap (λ (x : ℕ). Ack (record { 0 = x })) e

-- sources that name one origin are one
pub named_is_one : (s t : Source) (o p : Origin) → named s ≡ Some o → named t ≡ Some p → o ≡ p → s ≡ t
named_is_one Port Port o p at_s at_t same = refl
named_is_one Port (Rail r) o p at_s at_t same = absurd cc
named_is_one Port (Ack r) o p at_s at_t same = absurd cc
named_is_one (Rail r) Port o p at_s at_t same = absurd cc
named_is_one (Rail r) (Rail q) o p at_s at_t same = same_rail r q cc
named_is_one (Rail r) (Ack q) o p at_s at_t same = absurd cc
named_is_one (Ack r) Port o p at_s at_t same = absurd cc
named_is_one (Ack r) (Rail q) o p at_s at_t same = absurd cc
named_is_one (Ack r) (Ack q) o p at_s at_t same = same_ack r q cc
named_is_one Many t o p at_s at_t same = absurd cc
named_is_one Port Many o p at_s at_t same = absurd cc
named_is_one (Rail r) Many o p at_s at_t same = absurd cc
named_is_one (Ack r) Many o p at_s at_t same = absurd cc

module _ (P Q : Origin → Type 0) where
  abbrev Both : Origin → Type 0
  Both o = P o ⊎ Q o

  two_from_left : HasTwo P → HasTwo Both
  two_from_left two = record { one = two.one; two = two.two; is_one = inl two.is_one; is_two = inl two.is_two; differ = two.differ }

  two_from_right : HasTwo Q → HasTwo Both
  two_from_right two = record { one = two.one; two = two.two; is_one = inr two.is_one; is_two = inr two.is_two; differ = two.differ }

  -- what both sets have only makes what they have together
  only_both : (o : Origin) → HasOnly P o → HasOnly Q o → HasOnly Both o
  only_both o of_p of_q = record { comes = inl of_p.comes; only = λ other is. elim is [ inl p ↦ of_p.only other p | inr q ↦ of_q.only other q ] }

  -- the same source of both
  pub same_source : (s : Source) → IsSummary P s → IsSummary Q s → IsSummary Both s
  same_source Port p q = only_both FromPort p q
  same_source (Rail r) p q = only_both (RailOf r.0) p q
  same_source (Ack r) p q = only_both (AckOf r.0) p q
  same_source Many p q = two_from_left p

  -- different sources
  pub other_source : (s t : Source) → (s ≡ t → ⊥) → IsSummary P s → IsSummary Q t → HasTwo Both
  other_source s t differ p q =
      elim (summary_cases P s p) [
        | inr (many, two) ↦ two_from_left two
        | inl (o, at_s, of_p) ↦ elim (summary_cases Q t q) [
          | inr (many, two) ↦ two_from_right two
          | inl (u, at_t, of_q) ↦ record { one = o; two = u; is_one = inl of_p.comes; is_two = inr of_q.comes; differ = λ same. differ (named_is_one s t o u at_s at_t same) }
        ]
      ]

-- one set that is another has its summary
pub summary_moves : (P Q : Origin → Type 0) → ((o : Origin) → P o → Q o) → ((o : Origin) → Q o → P o) → (s : Source) → IsSummary P s → IsSummary Q s
summary_moves P Q to from Port is = record { comes = to FromPort is.comes; only = λ o q. is.only o (from o q) }
summary_moves P Q to from (Rail r) is = record { comes = to (RailOf r.0) is.comes; only = λ o q. is.only o (from o q) }
summary_moves P Q to from (Ack r) is = record { comes = to (AckOf r.0) is.comes; only = λ o q. is.only o (from o q) }
summary_moves P Q to from Many is = record { one = is.one; two = is.two; is_one = to is.one is.is_one; is_two = to is.two is.is_two; differ = is.differ }
