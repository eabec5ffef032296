use Rattle.ncl_machine.proofs.Terms.{CellId, Fire, IsQuiet, Lower, PipelineData, Raise, Ready, State, Take, both_ways, enabled, false, meaning, refl, ℕ, ◌≡◌}
use Rattle.ncl_machine.proofs.state.State.quiet.Goals as goal

-- the cells, the source and the sink are all that there is
all_rest : (p : PipelineData) (s : State) → ((cell : CellId) → enabled p s (Fire cell) ≡ false) → ((bit : ℕ) → (enabled p s (Raise bit) ≡ false) × (enabled p s (Lower bit) ≡ false))
    → (enabled p s Take ≡ false) × (enabled p s Ready ≡ false) → IsQuiet p s
all_rest p s cells source sink (Fire cell) = cells cell
all_rest p s cells source sink (Raise bit) = (source bit).0
all_rest p s cells source sink (Lower bit) = (source bit).1
all_rest p s cells source sink Take = sink.0
all_rest p s cells source sink Ready = sink.1

pub returns-then-not-cells_rest : goal.returns-then-not-cells_rest
returns-then-not-cells_rest c = let e = c.if-not-cells_rest.ensures in (λ none. absurd (both_ways false refl none), λ quiet. e.1 (λ cell. quiet (Fire cell)))

pub returns-then-not-source_rests : goal.returns-then-not-source_rests
returns-then-not-source_rests c = let e = c.if-not-source_rests.ensures in (λ none. absurd (both_ways false refl none), λ quiet. e.1 (λ bit. (quiet (Raise bit), quiet (Lower bit))))

pub returns : goal.returns
returns c =
    let cells = c.if-not-cells_rest.ensures in
    let source = c.if-not-source_rests.ensures in
    (λ rests. all_rest c.args.pipeline.now (meaning c.args.self.now) (cells.0 refl) (source.0 refl) (c.sink_rests.ensures.0 rests), λ quiet. c.sink_rests.ensures.1 (quiet Take, quiet Ready))
