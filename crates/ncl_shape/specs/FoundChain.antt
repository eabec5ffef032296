-- The chain of banks as it is found: the requests of the banks in their order, their roots, and the place of each
-- bank in the chain.
use Rattle.std.specs.Prelude.{◌≡◌, ℕ, List, map, length, slice_get, Option, None, Some}
use Rattle.std.specs.List.{slice_index_or}
use Rattle.ncl_netlist.specs.declared.ids.NetId.{NetId}
use Rattle.ncl_netlist.specs.Netlist.{NetlistData}
use Rattle.ncl_shape.specs.declared.fault.ShapeFault.{ShapeFault}
use Rattle.ncl_shape.specs.declared.fault.ShapeFault.TheVariants.{CellRule, NoChain, TooWide, TooLong, Memory}
use Rattle.ncl_shape.specs.declared.chain.Chain.{Chain}
use Rattle.ncl_shape.specs.Chain.{Follows, IsChain, IsRoot, BreaksInner}
use Rattle.ncl_shape.specs.declared.chain.Relation.{Relation}
use Rattle.ncl_shape.specs.declared.chain.Relation.TheVariants.{Follower, Root}

-- the requests by which the banks are named, in the order of the chain
abbrev pub requests_of : Chain → List ℕ
requests_of c = map (λ (bank : NetId). bank.0) c.banks.items

-- what a table of numbers says of a bank: its place in the chain, from 0
abbrev pub number_at : List (Option ℕ) → ℕ → Option ℕ
number_at numbers bank = slice_index_or numbers bank None

-- the banks are a chain, each with its root and its number
pub record IsChainOf (n : NetlistData) (c : Chain) : Type 0 where
  pub chain : IsChain n (requests_of c)
  pub as_many : length c.roots.items ≡ length c.banks.items
  pub roots : (k : ℕ) (bank root : NetId) → slice_get c.banks.items k ≡ Some bank → slice_get c.roots.items k ≡ Some root → IsRoot n bank.0 root.0
  pub sized : length c.numbers.items ≡ length n.nets
  pub numbered : (bank k : ℕ) → number_at c.numbers.items bank ≡ Some k → slice_get (requests_of c) k ≡ Some bank
  pub number : (k bank : ℕ) → slice_get (requests_of c) k ≡ Some bank → number_at c.numbers.items bank ≡ Some k

-- what is answered where the banks form no chain: the first inner rule that fails. Want of memory is no fault of
-- the netlist, and may come at all of them
abbrev pub IsChainFault : NetlistData → ShapeFault → Type 0
IsChainFault n (NoChain rule) = BreaksInner n rule
IsChainFault n (CellRule fault) = ⊥
IsChainFault n (TooWide number) = ⊥
IsChainFault n TooLong = ⊥
IsChainFault n Memory = Unit {0}

-- a net is to a bank what the relation says: the request of one that follows it, or a root of it
abbrev pub Relates : NetlistData → Relation → ℕ → ℕ → Type 0
Relates n Follower = Follows n
Relates n Root = IsRoot n
