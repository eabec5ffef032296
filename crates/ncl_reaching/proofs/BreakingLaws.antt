-- What the runs of faults come to, by the items that were tried for them.
use Rattle.ncl_reaching.proofs.Terms.{All, Bank, Base, Bool, BothRails, BreaksBy, BreaksIn, BringsFault, CellId, Fire, GoesToStop, InRange, Incomplete, IsCellOrder, IsLost, IsQuiet, IsRunFrom, Item, List, Loses, NoRail, None, Orphan, PipelineData, Shape, Some, StageCell, StageData, StageFault, State, Without, [], acknowledging, acknowledging-tried, after, all_data, ap, arith, bit-in_bank, bit-in_word, bit-lost, bit_at, both-breaks, brings, coming, coming-tried, enabled, false, gate-lost, get_or_from_slice_get, going, going-tried, happened, item_in_range, lacking, lacking-tried, length, no_cell, none-breaks, rail_id, reaching, reaching-tried, refl, register_cell, reset, slice_get, slice_get-some, slice_get_within, standing, subst, sym, tried, true, val, ℕ, ◌&&◌, ◌++◌, ◌+◌, ◌<◌, ◌∙◌, ◌∷◌, ◌≡◌, ◌≢◌}
use Rattle.std.specs.Prelude.{get_or}
use Rattle.ncl_shape.specs.declared.bank.Bit.{Bit}

register-is : (x : Bit) (r : Bool) → register_cell x r ≡ rail_id x r
register-is x true = refl
register-is x false = refl

module _ (p : PipelineData) (shape : Shape p.netlist p) (before : ℕ) (input : List Bool) where
  abbrev start : State
  start = reset p (input ∷ [])

  abbrev way : List Item
  way = reaching p (before + 1) (no_cell p)

  pub before-within : (fault : StageFault) → BringsFault p before input fault → before < length p.stages
  before-within fault b = slice_get_within p.stages before b.stage b.at

  pub way-tried : (fault : StageFault) → BringsFault p before input fault → All (InRange p) way
  way-tried fault b = let lt = before-within fault b in reaching-tried p shape (before + 1) (omega (arith, lt)) (no_cell p)

  -- the items that happened of those that were tried
  pub happened-so : (first nil items : List Item) (s : State) → first ≡ nil ++ happened p s items → nil ≡ [] → s ≡ start → items ≡ way → first ≡ happened p start way
  happened-so first nil items s ran none started are = ran ∙ ap (λ xs. xs ++ happened p s items) none ∙ ap (λ t. happened p t items) started ∙ ap (happened p start) are

  pub illegal-breaks : (output : ℕ) → BringsFault p before input (BothRails output) → (steps : List Item) → steps ≡ happened p start way → BreaksIn p before input (BothRails output) (record { steps = steps; lost = None })
  illegal-breaks output b steps is = record {
    stage = b.stage;
    at = b.at;
    breaks = subst (λ xs. BreaksBy p input b.stage xs (BothRails output) None) (sym is) (both-breaks p shape b.null input b.wide before b.stage b.at b.sound output b.shown);
  }

  pub stop-breaks : (output : ℕ) → BringsFault p before input (NoRail output) → (steps first : List Item) (t : State) → first ≡ happened p start way → t ≡ tried p start way → GoesToStop p t first steps
      → BreaksIn p before input (NoRail output) (record { steps = steps; lost = None })
  stop-breaks output b steps first t front there g = record {
    stage = b.stage;
    at = b.at;
    breaks = subst (λ xs. BreaksBy p input b.stage xs (NoRail output) None) (sym (g.parts ∙ ap (λ xs. xs ++ g.more) front))
        (none-breaks p shape b.null input b.wide before b.stage b.at b.sound output b.shown g.more
        (subst (λ u. IsRunFrom p u g.more) there g.is_run) (subst (λ u. IsQuiet p (after p u g.more)) there g.quiet));
  }

  -- what is asked of a run from a state that loses a cell, and what it breaks
  pub record Takes (fault : StageFault) (cell : CellId) (t : State) (xs ys : List Item) : Type 0 where
    pub within : cell.0 < length p.netlist.cells
    pub coming : All (InRange p) xs
    pub going : All (InRange p) ys
    pub comes : enabled p (tried p t xs) (Fire cell) ≡ true
    pub goes : enabled p (tried p t (xs ++ ys)) (Fire cell) ≡ false
    pub others : All (λ item. item ≢ Fire cell) ys
    pub breaks : (steps : List Item) → Loses p t cell steps → BreaksIn p before input fault (record { steps = steps; lost = Some cell })

  -- so it is of the state and the lists that a run has
  pub takes-there : {fault : StageFault} {cell : CellId} {xs ys : List Item} → Takes fault cell start xs ys → {t : State} {front back : List Item} → t ≡ start → front ≡ xs → back ≡ ys → Takes fault cell t front back
  takes-there {fault} {cell} {xs} {ys} taken {t} {front} {back} state first then_on =
      let ends : ◌≡◌ {A = State × List Item × List Item} (start, xs, ys) (t, front, back) = λ i. (sym state i, sym first i, sym then_on i) in
      subst (λ (run : State × List Item × List Item). Takes fault cell run.0 run.1 run.2) ends taken

  module _ (order : List ℕ) (ord : IsCellOrder p.netlist order) where
    takes : (fault : StageFault) (b : BringsFault p before input fault) (cell : CellId) (xs ys : List Item) → All (InRange p) xs → All (InRange p) ys → IsLost p input b.stage fault cell xs ys → Takes fault cell start xs ys
    takes fault b cell xs ys front back lost = record {
      within = item_in_range p (tried p start xs) (Fire cell) lost.comes;
      coming = front;
      going = back;
      comes = lost.comes;
      goes = lost.goes;
      others = lost.others;
      breaks = λ steps loses. record { stage = b.stage; at = b.at; breaks = lost.breaks steps loses };
    }

    pub bit-takes : (bit : ℕ) (b : BringsFault p before input (Incomplete bit)) (word : List Bool) → word ≡ brings p.stages before input
        → (bank : Bank) → slice_get p.banks before ≡ Some bank → (x : Bit) → slice_get bank.bits bit ≡ Some x
        → Takes (Incomplete bit) (register_cell x (bit_at word bit)) start (lacking p before bit) (acknowledging p order)
    bit-takes bit b word is bank at_bank x at_x =
        subst (λ cell. Takes (Incomplete bit) cell start (lacking p before bit) (acknowledging p order)) (ap (λ w. rail_id x (bit_at w bit)) (sym is) ∙ sym (register-is x (bit_at word bit)))
        (takes (Incomplete bit) b (rail_id x (bit_at (brings p.stages before input) bit)) (lacking p before bit) (acknowledging p order)
        (lacking-tried p shape before bit (before-within (Incomplete bit) b)) (acknowledging-tried p shape order ord)
        (bit-lost p shape b.null input b.wide before b.stage b.at b.sound order ord bit b.shown bank at_bank x at_x))

    pub gate-takes : (place : ℕ) (b : BringsFault p before input (Orphan place)) (g : StageCell) → slice_get b.stage.cells place ≡ Some g → Takes (Orphan place) g.cell start (coming p (before + 1) g.cell) (going p (before + 1) g.cell order)
    gate-takes place b g at_g =
        let lt = before-within (Orphan place) b in
        takes (Orphan place) b g.cell (coming p (before + 1) g.cell) (going p (before + 1) g.cell order)
        (coming-tried p shape (before + 1) (omega (arith, lt)) g.cell) (going-tried p shape order ord (before + 1) (omega (arith, lt)) g.cell)
        (gate-lost p shape b.null input b.wide before b.stage b.at b.sound order ord place b.shown g at_g)

  -- the bank before the stage, and a bit of it and of the word
  pub bank-there : (fault : StageFault) → BringsFault p before input fault → (b : Bank) × (slice_get p.banks before ≡ Some b)
  bank-there fault b = let lt = before-within fault b in let count = shape.stages in slice_get-some p.banks before (omega (arith, lt, count))

  pub bit-there : (bit : ℕ) → BringsFault p before input (Incomplete bit) → (bank : Bank) → slice_get p.banks before ≡ Some bank → bit < length bank.bits
  bit-there bit b bank at = bit-in_bank p shape b.null input b.wide before b.stage b.at b.sound bit b.shown bank at

  pub bit-of_word : (bit : ℕ) → BringsFault p before input (Incomplete bit) → (word : List Bool) → word ≡ brings p.stages before input → bit < length word
  bit-of_word bit b word is = subst (λ (w : List Bool). bit < length w) (sym is) (bit-in_word p shape b.null input b.wide before b.stage b.at b.sound bit b.shown)

  -- so that of the register cell which is found there
  pub cell-takes : (order : List ℕ) → IsCellOrder p.netlist order → (bit : ℕ) → BringsFault p before input (Incomplete bit) → (word : List Bool) → word ≡ brings p.stages before input → (cell : CellId)
      → ((bank : Bank) (x : Bit) → slice_get p.banks before ≡ Some bank → slice_get bank.bits bit ≡ Some x → cell ≡ register_cell x (bit_at word bit))
      → Takes (Incomplete bit) cell start (lacking p before bit) (acknowledging p order)
  cell-takes order ord bit b word is cell found =
      let (bank, at) = bank-there (Incomplete bit) b in
      let (x, at_x) = slice_get-some bank.bits bit (bit-there bit b bank at) in
      subst (λ i. Takes (Incomplete bit) i start (lacking p before bit) (acknowledging p order)) (sym (found bank x at at_x)) (bit-takes order ord bit b word is bank at x at_x)

  -- and that of the gate at a place
  pub place-takes : (order : List ℕ) → IsCellOrder p.netlist order → (place : ℕ) → BringsFault p before input (Orphan place) → (own : StageData) → slice_get p.stages before ≡ Some own
      → (cells : List StageCell) → cells ≡ own.cells → (d : StageCell)
      → Takes (Orphan place) (get_or cells place d).cell start (coming p (before + 1) (get_or cells place d).cell) (going p (before + 1) (get_or cells place d).cell order)
  place-takes order ord place b own at_own cells same d =
      let w = brings p.stages before input in
      let (g, at_g, shown) = standing (λ (c : StageCell). val b.stage w Base c.out.0 && all_data b.stage (val b.stage w (Without place))) (slice_get b.stage.cells place) b.shown in
      let at_b = b.at in
      let one : own ≡ b.stage = cc in
      let gate : get_or cells place d ≡ g = get_or_from_slice_get cells place g d (ap (λ xs. slice_get xs place) (same ∙ ap (λ (s : StageData). s.cells) one) ∙ at_g) in
      subst (λ (x : StageCell). Takes (Orphan place) x.cell start (coming p (before + 1) x.cell) (going p (before + 1) x.cell order)) (sym gate) (gate-takes order ord place b g at_g)
