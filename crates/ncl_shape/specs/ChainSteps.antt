-- What is found on the way to the chain of banks. Tables have an entry for each net, and name banks by their requests.
use Rattle.std.specs.Prelude.{◌≡◌, ◌<◌, ◌≤◌, ◌⊎◌, ℕ, List, map, length, slice_get, Option, None, Some}
use Rattle.std.specs.List.{slice_index_or}
use Rattle.ncl_netlist.specs.declared.ids.NetId.{NetId}
use Rattle.ncl_netlist.specs.declared.cell.Cell.{Cell}
use Rattle.ncl_netlist.specs.Netlist.{NetlistData}
use Rattle.ncl_cell_rules.specs.declared.source.Source.{Source}
use Rattle.ncl_cell_rules.specs.declared.source.Source.TheVariants.{Port, Rail, Ack, Many}
use Rattle.ncl_cell_rules.specs.Origin.{IsRegister, IsOutputPort, RailOf, ComesFrom}
use Rattle.ncl_shape.specs.Chain.{IsBank, IsFirstBank, Follows, HasOne, IsPath, IsEnd, IsRoot}
use Rattle.ncl_shape.specs.FoundChain.{number_at}

-- what a bank reads: the first bank input ports, any other the rails of the bank that it follows. A net that is no
-- request is no bank
abbrev pub IsFeedOf : NetlistData → ℕ → Option Source → Type 0
IsFeedOf n bank None = IsBank n bank → ⊥
IsFeedOf n bank (Some Port) = IsFirstBank n bank
IsFeedOf n bank (Some (Rail before)) = Follows n before.0 bank
IsFeedOf n bank (Some (Ack request)) = ⊥
IsFeedOf n bank (Some Many) = ⊥

-- P holds of this net alone
abbrev pub IsOnly : (ℕ → Type 0) → ℕ → Type 0
IsOnly P net = (it : HasOne P) × (it.one ≡ net)

-- the numbers of nets
abbrev pub numbers_of : List NetId → List ℕ
numbers_of nets = map (λ (net : NetId). net.0) nets

-- what a table of nets says of a bank
abbrev pub net_at : List (Option NetId) → ℕ → Option NetId
net_at table bank = slice_index_or table bank None

-- the only net that stands in the relation to a bank, or None where none does
abbrev pub IsOnlyOf : (ℕ → ℕ → Type 0) → ℕ → Option NetId → Type 0
IsOnlyOf R bank None = (net : ℕ) → R bank net → ⊥
IsOnlyOf R bank (Some net) = IsOnly (R bank) net.0

-- for each bank the only net that stands in the relation to it
pub record AreOnly (n : NetlistData) (R : ℕ → ℕ → Type 0) (table : List (Option NetId)) : Type 0 where
  pub sized : length table ≡ length n.nets
  pub each : (bank : ℕ) → bank < length n.nets → IsOnlyOf R bank (net_at table bank)

-- a bank has more than one net in this relation
abbrev pub HasMore : (ℕ → ℕ → Type 0) → Type 0
HasMore R = (bank x y : ℕ) × R bank x × R bank y × (x ≡ y → ⊥)

-- a walk along the banks that follow: it ends where no bank follows, or has more steps than there are nets
pub record IsWalk (n : NetlistData) (first : ℕ) (banks : List ℕ) : Type 0 where
  pub path : IsPath n banks
  pub head : slice_get banks 0 ≡ Some first
  pub ends : ((last : ℕ) × IsEnd banks last × ((x : ℕ) → Follows n last x → ⊥)) ⊎ (length n.nets < length banks)

-- the number of a bank is a place where it stands, and each bank that stands somewhere has a number
pub record AreNumbersOf (n : NetlistData) (banks : List ℕ) (numbers : List (Option ℕ)) : Type 0 where
  pub sized : length numbers ≡ length n.nets
  pub numbered : (bank k : ℕ) → number_at numbers bank ≡ Some k → slice_get banks k ≡ Some bank
  pub each : (k bank : ℕ) → slice_get banks k ≡ Some bank → (j : ℕ) × (number_at numbers bank ≡ Some j)

-- a root for each bank of a list
pub record AreRootsOf (n : NetlistData) (banks roots : List NetId) : Type 0 where
  pub as_many : length roots ≡ length banks
  pub each : (k : ℕ) (bank root : NetId) → slice_get banks k ≡ Some bank → slice_get roots k ≡ Some root → IsRoot n bank.0 root.0

-- each bank has a number
abbrev pub AreAllNumbered : NetlistData → List (Option ℕ) → Type 0
AreAllNumbered n numbers = (bank : ℕ) → IsBank n bank → (k : ℕ) × (number_at numbers bank ≡ Some k)

-- a cell whose output comes from the rails of the last bank is a register cell, and its output is an output port
abbrev pub IsShownCell : NetlistData → ℕ → Cell → Type 0
IsShownCell n last c = ComesFrom n c.out.0 (RailOf last) → IsRegister c × IsOutputPort n c.out.0

-- an output port is the root of the first bank, or comes from the rails of the last
abbrev pub IsShownPort : NetlistData → ℕ → ℕ → ℕ → Type 0
IsShownPort n root last net = IsOutputPort n net → (net ≡ root) ⊎ ComesFrom n net (RailOf last)

-- of so many A pins, B pins and reset pins, all of one name, at most one is an A pin
pub record IsOneRole (a b rst : ℕ) : Type 0 where
  pub one_a : a ≤ 1
  pub a_alone : 1 ≤ a → (b ≡ 0) × (rst ≡ 0)
  pub b_alone : 1 ≤ b → rst ≡ 0
