use Rattle.ncl_stage.proofs.Terms.{All, All-from_members, Contains, Contains-from_Member, WiringData, [], length, length-map, slice_index_or, subst, sym, ℕ, ◌+◌, ◌-◌, ◌<◌}
use Rattle.ncl_stage.proofs.wiring.Wiring.readers.Goals as goal

pub returns-clause-all : goal.returns-clause-all
returns-clause-all c =
    subst (λ (w : WiringData). (cell : ℕ) → cell < length w.pins → Contains (slice_index_or w.pins cell []) c.args.place → Contains c.at.result.now (length w.nets - length w.pins + cell)) c.self.view_is (λ cell lt reads.
    let pins = length-map c.self.inside.pins.items (λ p. p.items) in
    subst (λ n. Contains c.at.result.now (length c.self.inside.nets.keys - n + cell)) (sym pins)
    (subst (λ readers. Contains readers (length c.self.inside.nets.keys - length c.self.inside.pins.items + cell)) (sym c.at.ensures) (c.self.invariant.each cell c.args.place lt reads)))

pub returns-clause-within : goal.returns-clause-within
returns-clause-within c =
    subst (λ (w : WiringData). All (λ reader. reader < length w.nets) c.at.result.now) c.self.view_is
    (All-from_members (λ reader. reader < length c.self.inside.nets.keys) c.at.result.now (λ reader m.
    c.self.invariant.within c.args.place reader (subst (λ readers. Contains readers reader) c.at.ensures (Contains-from_Member reader m))))
