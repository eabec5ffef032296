-- What is known of where a net comes from.
use Rattle.std.specs.Prelude.{◌≡◌, ◌⊎◌, ℕ, List, Contains}
use Rattle.std.specs.List.{slice_index_or}
use Rattle.ncl_netlist.specs.declared.ids.NetId.{NetId}
use Rattle.ncl_netlist.specs.Netlist.{NetlistData}
use Rattle.ncl_cell_rules.specs.Origin.{Origin, FromPort, RailOf, AckOf, ComesFrom}
use Rattle.ncl_cell_rules.specs.declared.source.Source.{Source}
use Rattle.ncl_cell_rules.specs.declared.source.Source.TheVariants.{Port, Rail, Ack, Many}

-- P holds of this origin and of no other
pub record HasOnly (P : Origin → Type 0) (o : Origin) : Type 0 where
  pub comes : P o
  pub only : (other : Origin) → P other → other ≡ o

-- P holds of two origins
pub record HasTwo (P : Origin → Type 0) : Type 0 where
  pub one : Origin
  pub two : Origin
  pub is_one : P one
  pub is_two : P two
  pub differ : one ≡ two → ⊥

abbrev pub IsSummary : (Origin → Type 0) → Source → Type 0
IsSummary P Port = HasOnly P FromPort
IsSummary P (Rail r) = HasOnly P (RailOf r.0)
IsSummary P (Ack r) = HasOnly P (AckOf r.0)
IsSummary P Many = HasTwo P

-- the source sums up where the net comes from
abbrev pub IsSourceOf : NetlistData → ℕ → Source → Type 0
IsSourceOf n net s = IsSummary (ComesFrom n net) s

-- what a table of sources says of a net
abbrev pub source_at : List Source → ℕ → Source
source_at sources net = slice_index_or sources net Port

-- some net of the list comes from the origin
abbrev pub OfNets : NetlistData → List NetId → Origin → Type 0
OfNets n nets o = (net : NetId) × Contains nets net × ComesFrom n net.0 o

-- what two sources make together: the same source, or else several
abbrev pub IsJoin : Source → Source → Source → Type 0
IsJoin s t joined = ((s ≡ t) × (joined ≡ s)) ⊎ ((s ≡ t → ⊥) × (joined ≡ Many))
