-- The fault that a pass answers is that of the netlist: the rules of the passes before it hold.
use Rattle.ncl_shape.proofs.Terms.{AreOffCycles, ArePaired, ArePortsRead, AreUnmixed, CellFault, CellMemory, CellRule, Cycle, InPairs, IsCellFault, IsChainFault, IsFree, IsShapeFault, Loose, Memory, Mixed, NetlistData, NoChain, OffCycles, PortsRead, ShapeFault, TooLong, TooWide, Unmixed, Unpaired, UnusedPort, shape_fault_of}
use Rattle.ncl_shape.proofs.RuleOrder.{RulesBelow, no_rule_below, one_rule_more}
use Rattle.ncl_shape.proofs.WidthLaws.{rules_before}

module _ (n : NetlistData) where
  after_ports : ArePortsRead n → RulesBelow n 2
  after_ports ports = one_rule_more n PortsRead ports (no_rule_below n)

  after_cycles : ArePortsRead n → AreOffCycles n → RulesBelow n 3
  after_cycles ports off = one_rule_more n OffCycles off (after_ports ports)

  after_pairs : ArePortsRead n → AreOffCycles n → ArePaired n → RulesBelow n 4
  after_pairs ports off paired = one_rule_more n InPairs paired (after_cycles ports off)

  after_mixed : ArePortsRead n → AreOffCycles n → ArePaired n → AreUnmixed n → RulesBelow n 5
  after_mixed ports off paired unmixed = one_rule_more n Unmixed unmixed (after_pairs ports off paired)

  -- a fault of a port or of a cell
  pub of_cells : (fault : CellFault) → IsCellFault n fault → IsShapeFault n (shape_fault_of fault)
  of_cells (UnusedPort net) first = record { breaks = first; before = no_rule_below n }
  of_cells (Cycle cell) (ports, first) = record { breaks = first; before = after_ports ports }
  of_cells (Unpaired cell) (ports, off, first) = record { breaks = first; before = after_cycles ports off }
  of_cells (Mixed cell) (ports, off, paired, first) = record { breaks = first; before = after_pairs ports off paired }
  of_cells (Loose cell) (ports, off, paired, unmixed, first) = record { breaks = first; before = after_mixed ports off paired unmixed }
  of_cells CellMemory none = tt

  -- and one of the chain
  pub of_chain : IsFree n → (fault : ShapeFault) → IsChainFault n fault → IsShapeFault n fault
  of_chain free (NoChain rule) breaks = record { breaks = breaks; before = rules_before n free }
  of_chain free (CellRule fault) none = absurd none
  of_chain free (TooWide number) none = absurd none
  of_chain free TooLong none = absurd none
  of_chain free Memory none = tt
