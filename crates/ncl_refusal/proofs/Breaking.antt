-- The runs that break what a fault names, from reset where no bank is reset to DATA, by the items that are tried for them.
use Rattle.ncl_refusal.proofs.Terms.{All, All-from_members, AreRegistersBut, AreSoundOnTheWay, Bank, BankBit, Bit, Bool, BothRails, BreaksBy, Cell, CellAt, CellId, Fire, HasNoDataBank, Incomplete, IsCellOrder, IsEmptied, IsLayoutOf, IsOneRailed, IsQuiet, IsRegisterOf, IsRunFrom, Item, Layout, List, Loses, Member, NoRail, None, Orphan, PipelineData, Shape, Some, StageCell, StageData, StageFault, State, [], acknowledging, after, all_data, ap, arith, bit-within, bit_at, brings, cell_order, cells_are, coming, emptied-at_reset, enabled, false, fires, forth, gate_loses, gates_at, gates_of, going, happened, here, if◌then◌else◌, is_cell, lacking, laid_out, length, ne_eqb, no_cell, rail_id, raises, reaching, refl, register-here, registers_at, registers_but, registers_but-are, regs, reset, shows, slice_get, slice_get_within, stage-here, subst, suc, sym, there, tried, true, val, wide-at, width, word_at, zero, ℕ, ◌++◌, ◌+◌, ◌<◌, ◌∙◌, ◌∷◌, ◌≡◌, ◌≢◌, ◌≤◌}
use Rattle.ncl_hazard.proofs.ShownRuns as orphans
use Rattle.ncl_refusal.proofs.Arrival.{none, path}
use Rattle.ncl_refusal.proofs.Incompletes as incompletes
use Rattle.ncl_refusal.proofs.Reaching.{IsReached, reached-reset}
use Rattle.ncl_refusal.proofs.Refused as refused

-- trying some items excites a cell, and trying others then, none of them that cell, takes it back; a run that loses it breaks what
-- the fault names
pub record IsLost (p : PipelineData) (word : List Bool) (own : StageData) (fault : StageFault) (cell : CellId) (xs ys : List Item) : Type 0 where
  pub comes : enabled p (tried p (reset p (word ∷ [])) xs) (Fire cell) ≡ true
  pub goes : enabled p (tried p (reset p (word ∷ [])) (xs ++ ys)) (Fire cell) ≡ false
  pub others : All (λ item. item ≢ Fire cell) ys
  pub breaks : (run : List Item) → Loses p (reset p (word ∷ [])) cell run → BreaksBy p word own run fault (Some cell)

-- where no gate is passed over
gates-none : (skip : StageCell → Bool) (gates : List StageCell) → ((g : StageCell) → Member g gates → skip g ≡ false) → gates_of skip gates ≡ gates_of none gates
gates-none skip [] free = refl
gates-none skip (g ∷ gates) free =
    ap (λ b. if b then gates_of skip gates else g.cell ∷ gates_of skip gates) (free g here)
    ∙ ap (λ ids. g.cell ∷ ids) (gates-none skip gates (λ x m. free x (there m)))

module _ (p : PipelineData) (shape : Shape p.netlist p) (l : Layout) (is : IsLayoutOf p l) where
  gates-free : (k : ℕ) → k ≤ l.last → gates_of (is_cell (no_cell p)) (l.stage k).cells ≡ gates_of none (l.stage k).cells
  gates-free k le = gates-none (is_cell (no_cell p)) (l.stage k).cells (λ g m.
      let (c, at, same) = cells_are p shape l is k le g m in
      let lt : g.cell.0 < length p.netlist.cells = slice_get_within p.netlist.cells g.cell.0 c at in
      ne_eqb g.cell.0 (length p.netlist.cells) (λ e. absurd (omega (arith, lt, e))))

  stage_gates : (k : ℕ) → k < length p.stages → gates_at (no_cell p) (slice_get p.stages k) ≡ gates_of none (l.stage (suc k)).cells
  stage_gates k lt = ap (gates_at (no_cell p)) (stage-here p shape l is k lt) ∙ gates-free (suc k) (let many = is.as_many in omega (arith, lt, many))

  forth-none : (k : ℕ) → k ≤ length p.stages → forth p (no_cell p) k ≡ path p shape l is k
  forth-none zero le = refl
  forth-none (suc k) le =
      ap (λ xs. xs ++ (regs p shape l is k ++ gates_at (no_cell p) (slice_get p.stages k))) (forth-none k (omega (arith, le)))
      ∙ ap (λ ids. path p shape l is k ++ (regs p shape l is k ++ ids)) (stage_gates k le)

  reaching-is : (k : ℕ) → k < length p.stages → reaching p (k + 1) (no_cell p) ≡ raises (length p.inputs) ++ fires (path p shape l is (suc k))
  reaching-is k lt =
      ap (λ n. reaching p n (no_cell p)) (let e : k + 1 ≡ suc k = omega arith in e)
      ∙ ap (λ ids. raises (length p.inputs) ++ fires ids) (forth-none (suc k) lt)

  lacking-is : (k bit : ℕ) → k < length p.stages
      → lacking p k bit ≡ raises (length p.inputs) ++ fires (path p shape l is k ++ (registers_but bit (slice_get p.banks k) ++ (gates_of none (l.stage (suc k)).cells ++ regs p shape l is (suc k))))
  lacking-is k bit lt =
      ap (λ ids. raises (length p.inputs) ++ fires (ids ++ (registers_but bit (slice_get p.banks k) ++ (gates_at (no_cell p) (slice_get p.stages k) ++ registers_at (slice_get p.banks (k + 1)))))) (forth-none k (omega (arith, lt)))
      ∙ ap (λ ids. raises (length p.inputs) ++ fires (path p shape l is k ++ (registers_but bit (slice_get p.banks k) ++ (ids ++ registers_at (slice_get p.banks (k + 1)))))) (stage_gates k lt)
      ∙ ap (λ n. raises (length p.inputs) ++ fires (path p shape l is k ++ (registers_but bit (slice_get p.banks k) ++ (gates_of none (l.stage (suc k)).cells ++ registers_at (slice_get p.banks n))))) (let e : k + 1 ≡ suc k = omega arith in e)

module _ (p : PipelineData) (shape : Shape p.netlist p) (null : HasNoDataBank p) (word : List Bool) (wide : length word ≡ length p.inputs)
    (before : ℕ) (own : StageData) (at : slice_get p.stages before ≡ Some own) (sound : AreSoundOnTheWay p before word) where
  abbrev start : State
  start = reset p (word ∷ [])

  abbrev l : Layout
  l = (laid_out p shape).0

  abbrev is : IsLayoutOf p l
  is = (laid_out p shape).1

  empty : IsEmptied p l word start
  empty = emptied-at_reset is null word

  inner : before < length p.stages
  inner = slice_get_within p.stages before own at

  abbrev order : List ℕ
  order = (cell_order p.netlist shape.is_netlist shape.free).0

  ord : IsCellOrder p.netlist order
  ord = (cell_order p.netlist shape.is_netlist shape.free).1

  abbrev reached : IsReached p (word ∷ []) start
  reached = reached-reset p (word ∷ [])

  ones : (k : ℕ) → k ≤ before → IsOneRailed (l.stage k) (word_at l word k)
  ones = refused.ones p shape l is order ord word wide start empty reached before own at sound

  brought : word_at l word (suc before) ≡ brings p.stages before word
  brought = refused.brought p shape l is order ord word wide start empty reached before own at sound

  here_shows : (fault : StageFault) → shows own (brings p.stages before word) fault ≡ true → shows own (word_at l word (suc before)) fault ≡ true
  here_shows fault showing = ap (λ w. shows own w fault) brought ∙ showing

  -- ---- both rails, and none

  pub both-breaks : (j : ℕ) → shows own (brings p.stages before word) (BothRails j) ≡ true → BreaksBy p word own (happened p start (reaching p (before + 1) (no_cell p))) (BothRails j) None
  both-breaks j showing =
      subst (λ items. BreaksBy p word own (happened p start items) (BothRails j) None) (sym (reaching-is p shape l is before inner))
      (refused.both_by p shape l is order ord word wide start empty reached before own at sound j (here_shows (BothRails j) showing))

  pub none-breaks : (j : ℕ) → shows own (brings p.stages before word) (NoRail j) ≡ true
      → (run : List Item) → IsRunFrom p (tried p start (reaching p (before + 1) (no_cell p))) run → IsQuiet p (after p (tried p start (reaching p (before + 1) (no_cell p))) run)
      → BreaksBy p word own (happened p start (reaching p (before + 1) (no_cell p)) ++ run) (NoRail j) None
  none-breaks j showing =
      subst (λ items. (run : List Item) → IsRunFrom p (tried p start items) run → IsQuiet p (after p (tried p start items) run) → BreaksBy p word own (happened p start items ++ run) (NoRail j) None)
      (sym (reaching-is p shape l is before inner))
      (refused.none_by p shape l is order ord word wide start empty reached before own at sound j (here_shows (NoRail j) showing))

  -- ---- a bit is one of its bank, and of the word

  module _ (bit : ℕ) (showing : shows own (brings p.stages before word) (Incomplete bit) ≡ true) where
    in_stage : bit < width l (suc before)
    in_stage = refused.bit_inner p shape l is order ord word wide start empty reached before own at sound bit (here_shows (Incomplete bit) showing)

    pub bit-in_bank : (b : Bank) → slice_get p.banks before ≡ Some b → bit < length b.bits
    bit-in_bank b at_b = bit-within p shape l is before (let many = is.as_many in let within = inner in omega (arith, many, within)) b at_b bit in_stage

    pub bit-in_word : bit < length (brings p.stages before word)
    bit-in_word = subst (λ n. bit < n) (sym (wide-at is word wide (suc before) (let many = is.as_many in let within = inner in omega (arith, many, within))) ∙ ap length brought) in_stage

  -- ---- the register cell of a bit, with the trees in some order

  module _ (trees : List ℕ) (are : IsCellOrder p.netlist trees) (bit : ℕ) (showing : shows own (brings p.stages before word) (Incomplete bit) ≡ true)
      (b : Bank) (at_b : slice_get p.banks before ≡ Some b) (x : BankBit) (at_x : slice_get b.bits bit ≡ Some x) where
    abbrev r : Bool
    r = bit_at (word_at l word (suc before)) bit

    lt : before < l.last
    lt = let many = is.as_many in let within = inner in omega (arith, many, within)

    register : (c : Cell) × (bit < width l (suc before)) × CellAt p.netlist (rail_id x r).0 c × IsRegisterOf l before bit r c
    register = register-here p shape l is before lt b at_b bit r x at_x

    abbrev ids : List CellId
    ids = registers_but bit (slice_get p.banks before)

    but : AreRegistersBut p l before bit ids
    but = registers_but-are p shape l is before bit lt

    full : all_data (l.stage (suc before)) (val (l.stage (suc before)) (word_at l word (suc before)) (Bit bit)) ≡ true
    full = refused.bit_full p shape l is order ord word wide start empty reached before own at sound bit (here_shows (Incomplete bit) showing)

    bit-lost-here : IsLost p word own (Incomplete bit) (rail_id x r) (lacking p before bit) (acknowledging p trees)
    bit-lost-here =
        subst (λ items. IsLost p word own (Incomplete bit) (rail_id x r) items (acknowledging p trees)) (sym (lacking-is p shape l is before bit inner)) (record {
          comes = incompletes.bit-comes p shape l is trees are word wide start empty before inner ones bit register.1 full ids but (rail_id x r) register.0 register.2 register.3;
          goes = incompletes.bit-goes p shape l is trees are word wide start empty before inner ones bit register.1 full ids but (rail_id x r) register.0 register.2 register.3;
          others = All-from_members (λ item. item ≢ Fire (rail_id x r)) (acknowledging p trees)
              (incompletes.others p shape l is trees are word wide start empty before inner ones bit register.1 full ids but (rail_id x r) register.0 register.2 register.3);
          breaks = refused.incomplete_by p shape l is order ord word wide start empty reached before own at sound bit (here_shows (Incomplete bit) showing) r (rail_id x r) register.0 register.2 register.3;
        })

    pub bit-lost : IsLost p word own (Incomplete bit) (rail_id x (bit_at (brings p.stages before word) bit)) (lacking p before bit) (acknowledging p trees)
    bit-lost = subst (λ w. IsLost p word own (Incomplete bit) (rail_id x (bit_at w bit)) (lacking p before bit) (acknowledging p trees)) brought bit-lost-here

  -- ---- an orphan

  module _ (trees : List ℕ) (are : IsCellOrder p.netlist trees) (place : ℕ) (showing : shows own (brings p.stages before word) (Orphan place) ≡ true)
      (g : StageCell) (at_g : slice_get own.cells place ≡ Some g) where
    here_g : slice_get (l.stage (suc before)).cells place ≡ Some g
    here_g = ap (λ (s : StageData). slice_get s.cells place) (is.in_order before own at) ∙ at_g

    here_orphan : shows (l.stage (suc before)) (word_at l word (suc before)) (Orphan place) ≡ true
    here_orphan = ap (λ (s : StageData). shows s (word_at l word (suc before)) (Orphan place)) (is.in_order before own at) ∙ here_shows (Orphan place) showing

    pub gate-lost : IsLost p word own (Orphan place) g.cell (coming p (before + 1) g.cell) (going p (before + 1) g.cell trees)
    gate-lost =
        subst (λ k. IsLost p word own (Orphan place) g.cell (coming p k g.cell) (going p k g.cell trees)) (let e : suc before ≡ before + 1 = omega arith in e) (record {
          comes = orphans.comes p shape l is trees are word wide start empty before inner ones place g here_g here_orphan;
          goes = orphans.goes p shape l is trees are word wide start empty before inner ones place g here_g here_orphan;
          others = All-from_members (λ item. item ≢ Fire g.cell) (going p (suc before) g.cell trees) (orphans.others p shape l is trees are word wide start empty before inner ones place g here_g here_orphan);
          breaks = λ run lost. gate_loses place g at_g lost;
        })
