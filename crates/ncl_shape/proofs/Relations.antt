-- The nets that follow banks, or are roots of them: where they stand, and of which bank.
use Rattle.ncl_shape.proofs.Terms.{Follower, IsFree, IsNetlist, NetlistData, Relates, Relation, Root, length, ℕ, ◌<◌, ◌≡◌}
use Rattle.ncl_shape.proofs.ChainLaws.{one_before}
use Rattle.ncl_shape.proofs.BankNets.{follower_within, followed_within}
use Rattle.ncl_shape.proofs.RootLaws.{root_within, rooted_within, bank_of_root_is_one}

module _ (n : NetlistData) (is : IsNetlist n) (free : IsFree n) where
  pub bank_related : (r : Relation) (bank net : ℕ) → Relates n r bank net → bank < length n.nets
  bank_related Follower = followed_within n is
  bank_related Root = rooted_within n is free

  pub net_related : (r : Relation) (bank net : ℕ) → Relates n r bank net → net < length n.nets
  net_related Follower = follower_within n is
  net_related Root = root_within n is free

  pub related_is_one : (r : Relation) (net x y : ℕ) → Relates n r x net → Relates n r y net → x ≡ y
  related_is_one Follower = one_before n is free
  related_is_one Root = bank_of_root_is_one n is free
