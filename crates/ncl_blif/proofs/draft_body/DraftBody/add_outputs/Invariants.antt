use Rattle.std.proofs.Common.{◌≡◌, ◌++◌, map, take}
use Rattle.ncl_blif.proofs.draft_body.DraftBody.add_outputs.Given as goal

abbrev pub invariant-loop-name : goal.invariant-loop-name
invariant-loop-name l = record {
  outputs : l.self.outputs.items ≡ l.initial.self.outputs.items ++ map (λ signal. record { line = l.line; signal = signal }) (map (λ name. name.now) (take l.name-index l.names));
  inputs : l.self.inputs ≡ l.initial.self.inputs;
  covers : l.self.covers ≡ l.initial.self.covers;
  drivers : l.self.drivers ≡ l.initial.self.drivers;
}
