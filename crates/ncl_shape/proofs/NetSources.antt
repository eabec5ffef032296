-- The source of a net says where it comes from, as each net has one origin.
use Rattle.ncl_shape.proofs.Terms.{ComesFrom, HasOnlyOrigin, IsFree, IsNetlist, IsSourceOf, NetlistData, Origin, Some, Source, named, named_is_one, one_origin, refl, source_from_only, ℕ, ◌≡◌}

module _ (n : NetlistData) (is : IsNetlist n) (free : IsFree n) where
  -- an origin of a net is its only one
  pub only_origin : (net : ℕ) (o : Origin) → ComesFrom n net o → HasOnlyOrigin n net o
  only_origin net o from = record { comes = from; only = λ other also. one_origin n is free net other o also from }

  -- so its source is the one that names it
  pub source_of_origin : (net : ℕ) (s t : Source) (o : Origin) → IsSourceOf n net s → ComesFrom n net o → named t ≡ Some o → s ≡ t
  source_of_origin net s t o is_s from names = named_is_one s t o o (source_from_only n is net s o is_s (only_origin net o from)) names refl
