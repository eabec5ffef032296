-- The values that a step leaves, and that each net's values alternate.
use Rattle.ncl_insensitivity.proofs.Terms.{AlternatesWithNull, Bool, Cell, CellAt, CellId, Contains-from_slice_get, Fire, IsCellOf, IsExcited, IsInputPort, IsRunFrom, Item, Layout, List, Lower, Member, Member-from_Contains, Nets, None, Option, PassesNull, PipelineData, Raise, Ready, Shape, Some, StageCell, State, Take, [], after, among-from_member, and_parts, ap, arith, bit_at, both_ways, current_rails, false, fired, if◌then◌else◌, in_rail, in_stage, ki_is_no_input, ki_is_port, list_all, named-get, named-within, named_rails, next_value, no_cell_drives_port, not, not-from_differ, old_is_turning, out_of, out_rail, put_at, rail_nets, rails_of_word, refl, reset, slice_get, step, subst, suc, sym, true, with_net, with_net-elsewhere, with_net-here, ℕ, ◌++◌, ◌+◌, ◌∙◌, ◌∷◌, ◌≡◌, ◌≤◌}
pub use Rattle.ncl_insensitivity.proofs.NextValues.{gate-excitation, gate-next, gate_local, gate_moves, register-excited, register-takes}
use Rattle.ncl_insensitivity.proofs.Invariant.{HasInvariant, IsRegisterMove, IsSetting, IsSourceMove, IsTreeMove, Waves, moved, rising, root-value, word_in}
use Rattle.ncl_insensitivity.proofs.RunLaws.{IsRunFrom-suffix}
use Rattle.ncl_base.specs.Members.{Member}

-- ---- what each move makes of the values of the nets: one net goes to its other value

-- lowering a rail puts these values, whether it is the last or not
pub lowered-value : (s : State) (v : Nets) (all : Bool)
    → (if all then record s { value = v; falling = false; done = s.done + 1 } else record s { value = v }).value ≡ v
lowered-value s v true = refl
lowered-value s v false = refl

module _ {p : PipelineData} {l : Layout} {w : Waves} {offered : List (List Bool)} (set : IsSetting p l w offered) {s : State} (k : HasInvariant l w offered s) where
  -- a gate goes to the value of its stage's wave
  pub gate-step : (i : CellId) (cell : Cell) (j : ℕ) (g : StageCell) → CellAt p.netlist i.0 cell → j ≤ l.last → Member g (l.stage j).cells
      → IsCellOf cell g → IsExcited (in_stage l s.value j) g
      → (s.value (out_of g) ≡ not (rising k.numbers j)) × ((step p s (Fire i)).value ≡ with_net s.value (out_of g) (rising k.numbers j))
  gate-step i cell j g at le m is excited =
      let (was, next, phase) = gate_moves (set.layout.is_stage j le) (rising k.numbers j) (k.nets.phases j le) g m excited in
      let (same_next, same_out) = gate_local (set.layout.is_stage j le) s.value g m in (
        sym same_out ∙ was,
        ap (fired s.value) at ∙ ap (λ x. with_net s.value x (next_value s.value cell)) is.out
            ∙ ap (with_net s.value (out_of g)) (gate-next s.value cell g is ∙ sym same_next ∙ next),
      )

  -- a rail of a bank goes to the value of the next bank's wave
  pub register-step : (i : CellId) (cell : Cell) (j b : ℕ) (r : Bool) → CellAt p.netlist i.0 cell
      → IsRegisterMove l w s k.numbers j b r cell
      → (step p s (Fire i)).value ≡ with_net s.value (in_rail l (suc j) b r) (rising k.numbers (suc j))
  register-step i cell j b r at move =
      ap (fired s.value) at ∙ ap (λ x. with_net s.value x (next_value s.value cell)) move.on.out
      ∙ ap (with_net s.value (in_rail l (suc j) b r))
      (register-takes s.value cell (out_rail l j b r) (l.root (suc j)) (in_rail l (suc j) b r) move.on (rising k.numbers (suc j)) move.ready (root-value set k (suc j) move.within))

  -- a net of a tree goes to the other value
  pub tree-step : (i : CellId) (cell : Cell) (j : ℕ) → CellAt p.netlist i.0 cell → IsTreeMove l s k.numbers j cell
      → (step p s (Fire i)).value ≡ with_net s.value cell.out.0 (not (rising k.numbers j))
  tree-step i cell j at move =
      let turning = old_is_turning set.layout j move.within s.value (rising k.numbers j) cell move.listed move.old move.new in
      ap (fired s.value) at ∙ ap (with_net s.value cell.out.0) (not-from_differ _ _ turning ∙ ap not move.old)

  -- ---- the source

  -- the rail that it moves for a bit is the one that the word names
  pub current-rail : (b : ℕ) → IsSourceMove l w s k.numbers b
      → slice_get (current_rails p s) b ≡ Some (in_rail l 0 b (bit_at (word_in w k.numbers 0) b))
  current-rail b move =
      ap (λ o. slice_get (rails_of_word p.inputs o) b) move.current
      ∙ ap (λ bits. slice_get (named_rails bits (word_in w k.numbers 0)) b) (sym set.layout.source)
      ∙ named-get (l.stage 0).inputs (word_in w k.numbers 0) (set.waves.wide _ 0 (omega arith)) b move.within

  pub rail-put : (b : ℕ) (value : Bool) → IsSourceMove l w s k.numbers b → rising k.numbers 0 ≡ value
      → put_at s.value (slice_get (current_rails p s) b) value ≡ moved l w s k.numbers b
  rail-put b value move is =
      ap (λ o. put_at s.value o value) (current-rail b move) ∙ ap (with_net s.value (in_rail l 0 b (bit_at (word_in w k.numbers 0) b))) (sym is)

  -- so this rail goes to the value of the wave
  pub raise-step : (b : ℕ) → IsSourceMove l w s k.numbers b → rising k.numbers 0 ≡ true → (step p s (Raise b)).value ≡ moved l w s k.numbers b
  raise-step b move ev = rail-put b true move ev

  pub lower-step : (b : ℕ) → IsSourceMove l w s k.numbers b → rising k.numbers 0 ≡ false → (step p s (Lower b)).value ≡ moved l w s k.numbers b
  lower-step b move od =
      lowered-value s (put_at s.value (slice_get (current_rails p s) b) false)
      (list_all (λ net. not (put_at s.value (slice_get (current_rails p s) b) false net)) (current_rails p s))
      ∙ rail-put b false move od

-- ---- between any two Takes of a run the outputs pass through NULL: the sink asks again only by Ready

module _ (p : PipelineData) (shape : Shape p.netlist p) where
  -- only Take and Ready move the sink's acknowledge
  fire-keeps : (v : Nets) (o : Option Cell) (i : ℕ) → slice_get p.netlist.cells i ≡ o → fired v o p.ki ≡ v p.ki
  fire-keeps v None i at = refl
  fire-keeps v (Some c) i at =
      with_net-elsewhere v c.out.0 p.ki (next_value v c)
      (λ e. no_cell_drives_port p.netlist shape.is_netlist c (Contains-from_slice_get p.netlist.cells i c at) (subst (IsInputPort p.netlist) (sym e) (ki_is_port p shape)))

  -- the rails of the current word are rails of the inputs, and the acknowledge is none
  current-within : (o : Option (List Bool)) (b net : ℕ) → slice_get (rails_of_word p.inputs o) b ≡ Some net → Member net (rail_nets p.inputs)
  current-within None b net at = absurd cc
  current-within (Some word) b net at =
      named-within p.inputs word net
      (among-from_member net (Member-from_Contains (named_rails p.inputs word) net (Contains-from_slice_get (named_rails p.inputs word) b net at)))

  rail-keeps : (s : State) (b : ℕ) (value : Bool) (o : Option ℕ) → slice_get (current_rails p s) b ≡ o → put_at s.value o value p.ki ≡ s.value p.ki
  rail-keeps s b value None at = refl
  rail-keeps s b value (Some net) at =
      with_net-elsewhere s.value net p.ki value (λ e. ki_is_no_input p shape (subst (λ x. Member x (rail_nets p.inputs)) e (current-within (slice_get s.offered s.done) b net at)))

  later : (item : Item) (ys : List Item) (s : State) → PassesNull p (step p s item) ys → PassesNull p s (item ∷ ys)
  later item ys s passes = record { before = item ∷ passes.before; rest = passes.rest; split = ap (λ t. item ∷ t) passes.split; null = passes.null }

  -- from where the sink's acknowledge is low a run has no Take before a Ready
  waits-for_null : (ys zs : List Item) (s : State) → s.value p.ki ≡ false → IsRunFrom p s (ys ++ Take ∷ zs) → PassesNull p s ys
  waits-for_null [] zs s low run = absurd (both_ways _ low (and_parts (s.value p.ki) _ run.0).0)
  waits-for_null (Take ∷ ys) zs s low run = absurd (both_ways _ low (and_parts (s.value p.ki) _ run.0).0)
  waits-for_null (Ready ∷ ys) zs s low run = record { before = []; rest = ys; split = refl; null = (and_parts (not (s.value p.ki)) _ run.0).1 }
  waits-for_null (Fire i ∷ ys) zs s low run =
      later (Fire i) ys s (waits-for_null ys zs (step p s (Fire i)) (fire-keeps s.value (slice_get p.netlist.cells i.0) i.0 refl ∙ low) run.1)
  waits-for_null (Raise b ∷ ys) zs s low run =
      later (Raise b) ys s (waits-for_null ys zs (step p s (Raise b)) (rail-keeps s b true (slice_get (current_rails p s) b) refl ∙ low) run.1)
  waits-for_null (Lower b ∷ ys) zs s low run =
      later (Lower b) ys s (waits-for_null ys zs (step p s (Lower b))
      (ap (λ v. v p.ki) (lowered-value s (put_at s.value (slice_get (current_rails p s) b) false) (list_all (λ net. not (put_at s.value (slice_get (current_rails p s) b) false net)) (current_rails p s))) ∙ rail-keeps s b false (slice_get (current_rails p s) b) refl ∙ low) run.1)

  pub alternates : AlternatesWithNull p
  alternates offered xs ys zs words run =
      waits-for_null ys zs (step p (after p (reset p offered) xs) Take) (with_net-here (after p (reset p offered) xs).value p.ki false)
      (IsRunFrom-suffix p (reset p offered) xs (Take ∷ (ys ++ Take ∷ zs)) run).1
