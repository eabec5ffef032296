use Rattle.ncl_shape.proofs.Terms.{Err, IfErr, IsErrAnd, IsShapeFault, Ok, Result, ShapeFault, shape_fault_of, subst, sym, ◌≡◌}
use Rattle.ncl_shape.proofs.FaultCases.{of_cells, of_chain}
use Rattle.ncl_shape.proofs.finding.shape.Goals as goal

-- what holds of a fault holds where it is handed on
handed : {A : Type 0} (P : ShapeFault → Type 0) (r : Result A ShapeFault) (fault : ShapeFault) → IsErrAnd r (λ e. e ≡ fault) → P fault → IfErr r P
handed P (Ok x) fault is holds = absurd is
handed P (Err e) fault is holds = subst P (sym is) holds

pub returns-in_err-origins-clause-fault : goal.returns-in_err-origins-clause-fault
returns-in_err-origins-clause-fault c =
    handed (IsShapeFault c.args.netlist.now) c.from_residual.result (shape_fault_of c.in_err-origins.field-0.0) c.from_residual.ensures.1 (of_cells c.args.netlist.now c.in_err-origins.field-0.0 c.in_err-origins.ensures.fault)

pub returns-in_err-chain-clause-fault : goal.returns-in_err-chain-clause-fault
returns-in_err-chain-clause-fault c =
    handed (IsShapeFault c.args.netlist.now) c.from_residual-in_err-chain.result c.in_err-chain.field-0.0 c.from_residual-in_err-chain.ensures.1 (of_chain c.args.netlist.now c.in_ok-origins.ensures.free c.in_err-chain.field-0.0 (rw c.in_ok-origins.ensures.netlist at c.in_err-chain.ensures.fault))
