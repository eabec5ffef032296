-- What holds of all rails of some bits holds of the rails of the bit at a place.
use Rattle.ncl_machine.proofs.Terms.{All, All-contains, Contains-from_Member, List, Member-get_or, Rails, get_or, length, rail_nets, rails_within, ℕ, ◌<◌}

module _ (P : ℕ → Type 0) (bits : List Rails) (all : All P (rail_nets bits)) (i : ℕ) (d : Rails) (lt : i < length bits) where
  pub zero_at : P (get_or bits i d).zero.0
  zero_at = All-contains P (rail_nets bits) _ all (Contains-from_Member _ (rails_within (get_or bits i d) (Member-get_or bits i d lt)).0)

  pub one_at : P (get_or bits i d).one.0
  one_at = All-contains P (rail_nets bits) _ all (Contains-from_Member _ (rails_within (get_or bits i d) (Member-get_or bits i d lt)).1)
