-- A verdict that is shown names a cell of the netlist, if any, and so does the run that is told.
use Rattle.ncl_reach_top.proofs.Terms.{All-from_members, Bool, BreaksBy, CellId, Fire, GoesWrongBy, IsShown, Item, List, NamesCellOf, NamesItemsOf, Option, PipelineData, Shape, Some, StageData, StageFault, Verdict, WrongRun, [], after, gate_loses, illegal_output, item_in_range, names_below, names_of_fault, register_loses, reset, run-in_range, stop_while_full, subst, ◌∷◌}

pub names_shown : (p : PipelineData) → Shape p.netlist p → (input : List Bool) (v : Verdict) → IsShown p input v → NamesCellOf p.netlist v
names_shown p shape input v is = subst (NamesCellOf p.netlist) is.is (names_below p.netlist _ (names_of_fault p.netlist p shape _ is.stage is.at is.fault is.word))

-- a run that breaks what a fault names
run_names : (p : PipelineData) (input : List Bool) (s : StageData) (fault : StageFault) (items : List Item) (lost : Option CellId) → BreaksBy p input s items fault lost → NamesItemsOf p (record { steps = items; lost = lost })
run_names p input s fault items lost (illegal_output output r at is_run high) = record { items = All-from_members _ items (run-in_range p items (reset p (input ∷ [])) is_run); cell = tt }
run_names p input s fault items lost (stop_while_full output is_run quiet full) = record { items = All-from_members _ items (run-in_range p items (reset p (input ∷ [])) is_run); cell = tt }
run_names p input s fault items lost (register_loses bit r at cell c at_c rail drives loss) = record {
  items = All-from_members _ items (run-in_range p items (reset p (input ∷ [])) loss.is_run);
  cell = item_in_range p (after p (reset p (input ∷ [])) loss.first) (Fire cell) loss.before;
}
run_names p input s fault items lost (gate_loses place g at loss) = record {
  items = All-from_members _ items (run-in_range p items (reset p (input ∷ [])) loss.is_run);
  cell = item_in_range p (after p (reset p (input ∷ [])) loss.first) (Fire g.cell) loss.before;
}

pub names_run : (p : PipelineData) (input : List Bool) (v : Verdict) (run : WrongRun) → GoesWrongBy p input v (Some run) → NamesItemsOf p run
names_run p input v run (null, wrong) = run_names p input wrong.stage wrong.fault run.steps run.lost wrong.breaks
