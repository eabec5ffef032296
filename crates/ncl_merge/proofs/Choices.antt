-- What becomes of each cell of a netlist whose stages were folded, by tables too, and that what is kept can be built.
pub use Rattle.ncl_merge.proofs.Terms.{A, AckOf, All, All-from_members, All-member, AllDiffer, AreFewer, B, Bank, Bool, Cell, CellAt, CellFits, CellId, ComesFrom, Contains, Contains-from_Member, Contains-from_slice_get, DriveOnce, FoldsTo, HasAllPins, HaveGates, IfSome, IsCell, IsChoice, IsFaultless, IsGate, IsInputPort, IsOfBank, IsOutputPort, IsRailGate, IsRegister, IsStage, IsStageOf, IsTable, IsWhole, List, Member, Member-append_cases, Member-append_left, Member-append_right, Member-flat_map, Member-from_Contains, Member-get_or, Member-map, NetId, NetlistData, None, OnPin, Option, Origin, PartCell, Parts, PipelineData, RailOf, ReadsNet, Shape, ShownOutputs, Some, StageCell, StageData, [], all_of, ap, append-nil, append_assoc, arith, arity_of, bank_named, bank_of_register, becomes, both_ways, cases_eq, cell_driving, cell_fits, cell_of_rail, choice_by, choice_of, cond, drop, eq-eqb, eqb-true, false, filter_map-more, find-append, first_bank, flat_map, flat_map-append, flat_map-cons, gate, gate_of_stage, get_or, get_or-set_other, get_or-set_same, get_or_from_slice_get, here, inl, inner_or_last, inner_stage, input_is_port, inr, is_gate, is_stage_cell, is_stage_net, kept, kept_parts, last_bank, last_stage, length, length-map, length-set, list_any, list_any-from_member, map, map-append, map_push, member_cases, member_from_list_any, member_of_flat_map, member_of_map, nat_eq, ne_eqb, nets_at, nets_of, no_cell_drives_port, only_origin, option_or, origin_within, out_of, part_of, pins_of, pins_of-gate, place_of, port_names, rail-within, rail_at, rail_nets, rail_of_register, refl, register_no_gate, register_of_rail, register_on, register_pins_of, request_at, requests, same_Some, same_driver, same_output, set, slice_get, slice_get-from_Contains, slice_get-get_or, slice_get-some, slice_get_within, sort_of, stage_at, stage_origin, stages_apart, stages_join, subst, suc, sym, take, take-append-drop, take_all, take_more, there, true, with_cells, with_gate_of, with_kept, zero, ℕ, ◌++◌, ◌+◌, ◌<◌, ◌^◌, ◌∙◌, ◌∷◌, ◌≡◌, ◌≤◌, ◌⊎◌}
use Rattle.ncl_merge.proofs.Thinned.{kind-apart}
use Rattle.ncl_merge.proofs.Folds.{cell-folded, rank-folded, stage-folded, stage-pin}
use Rattle.ncl_merge.proofs.Rebuilt.{all-pins, faultless-kept, ports-apart, rail_or_not, same-choice}

-- ---- marks

-- the table of the first stages
pub record AreStageNets (n : NetlistData) (stages : List StageData) (k : ℕ) (marks : List Bool) : Type 0 where
  pub sized : length marks ≡ length n.nets
  pub each : (net : ℕ) → net < length n.nets → get_or marks net false ≡ is_stage_net net (take k stages)

-- ---- the cells at their nets

-- the cell that drives a net is one of the cells
pub driving-some : (net : ℕ) (cells : List StageCell) (g : StageCell) → cell_driving net cells ≡ Some g → Member g cells × (g.out.0 ≡ net)
driving-some net [] g e = absurd cc
driving-some net (c ∷ cells) g e =
    elim (nat_eq c.out.0 net) as (λ b. nat_eq c.out.0 net ≡ b → cond b (Some c) (cell_driving net cells) ≡ Some g → Member g (c ∷ cells) × (g.out.0 ≡ net)) [
      | true ↦ λ same found. let is : c ≡ g = cc in (subst (λ x. Member x (c ∷ cells)) is here, ap (λ (x : StageCell). x.out.0) (sym is) ∙ eqb-true c.out.0 net same)
      | false ↦ λ other found. let (m, out) = driving-some net cells g found in (there m, out)
    ] refl e

-- where none does, no cell drives it
driving-none : (net : ℕ) (cells : List StageCell) → cell_driving net cells ≡ None → (g : StageCell) → Member g cells → g.out.0 ≡ net → ⊥
driving-none net [] e g m out = elim m [ ]
driving-none net (c ∷ cells) e g m out =
    elim (nat_eq c.out.0 net) as (λ b. nat_eq c.out.0 net ≡ b → cond b (Some c) (cell_driving net cells) ≡ None → ⊥) [
      | true ↦ λ same found. absurd cc
      | false ↦ λ other found. elim (member_cases g c cells m) [
        | inl first ↦ both_ways _ other (eq-eqb c.out.0 net (ap (λ (x : StageCell). x.out.0) first ∙ out))
        | inr later ↦ driving-none net cells found g later out
      ]
    ] refl e

or-none : (o : Option StageCell) → option_or o None ≡ o
or-none None = refl
or-none (Some h) = refl

or-same : (o : Option StageCell) (g : StageCell) → ((h : StageCell) → o ≡ Some h → h ≡ g) → option_or o (Some g) ≡ Some g
or-same None g same = refl
or-same (Some h) g same = ap Some (same h refl)

pub once-front : (xs ys : List StageCell) → DriveOnce (xs ++ ys) → DriveOnce xs
once-front xs ys once g h m o =
    once g h (Contains-from_Member g (Member-append_left g ys (Member-from_Contains xs g m))) (Contains-from_Member h (Member-append_left h ys (Member-from_Contains xs h o)))

-- one cell more is put at its net
pub gates-more : (gates : List (Option StageCell)) (before : List StageCell) (g : StageCell) → HaveGates gates before → g.out.0 < length gates → DriveOnce (before ++ g ∷ []) → HaveGates (set gates g.out.0 (Some g)) (before ++ g ∷ [])
gates-more gates before g have inside once net lt =
    let long = length-set gates g.out.0 (Some g) in
    let within : net < length gates = omega (arith, lt, long) in
    let behind : cell_driving net (before ++ g ∷ []) ≡ option_or (cell_driving net before) (cond (nat_eq g.out.0 net) (Some g) None) = find-append (λ (h : StageCell). nat_eq h.out.0 net) before (g ∷ []) in
    elim (cases_eq g.out.0 net) [
      | inl same ↦
          subst (λ x. get_or (set gates g.out.0 (Some g)) x None ≡ Some g) same (get_or-set_same gates g.out.0 (Some g) None inside)
          ∙ sym (behind ∙ ap (λ b. option_or (cell_driving net before) (cond b (Some g) None)) (eq-eqb g.out.0 net same) ∙ or-same (cell_driving net before) g (λ h some.
          let (m, out) = driving-some net before h some in
          once h g (Contains-from_Member h (Member-append_left h (g ∷ []) m)) (Contains-from_Member g (Member-append_right before g here)) (out ∙ sym same)))
      | inr other ↦
          get_or-set_other gates g.out.0 net (Some g) None (λ e. other (sym e)) ∙ have net within
          ∙ sym (behind ∙ ap (λ b. option_or (cell_driving net before) (cond b (Some g) None)) (ne_eqb g.out.0 net other) ∙ or-none (cell_driving net before))
    ]

-- the cells of one list more
pub all_of-more : (lists : List (List StageCell)) (k : ℕ) (d : List StageCell) → k < length lists → all_of (take (k + 1) lists) ≡ all_of (take k lists) ++ get_or lists k d
all_of-more lists k d lt =
    ap all_of (take_more lists k d lt) ∙ flat_map-append (λ (cells : List StageCell). cells) (take k lists) (get_or lists k d ∷ [])
    ∙ ap (λ xs. all_of (take k lists) ++ xs) (flat_map-cons (λ (cells : List StageCell). cells) (get_or lists k d) [] ∙ append-nil (get_or lists k d))

-- one cell of a list more is put at its net
pub put-more : (gates : List (Option StageCell)) (before cells : List StageCell) (k : ℕ) (g copy : StageCell) → k < length cells → copy ≡ g → g ≡ get_or cells k g → g.out.0 < length gates → HaveGates gates (before ++ take k cells) → DriveOnce (before ++ cells)
    → HaveGates (set gates g.out.0 (Some copy)) (before ++ take (k + 1) cells)
put-more gates before cells k g copy lt same is inside have once =
    let more : (before ++ take k cells) ++ g ∷ [] ≡ before ++ take (k + 1) cells = append_assoc before (take k cells) (g ∷ []) ∙ ap (λ (x : StageCell). before ++ (take k cells ++ x ∷ [])) is ∙ ap (λ xs. before ++ xs) (sym (take_more cells k g lt)) in
    let whole : before ++ cells ≡ (before ++ take (k + 1) cells) ++ drop (k + 1) cells = ap (λ xs. before ++ xs) (sym (take-append-drop (k + 1) cells)) ∙ sym (append_assoc before (take (k + 1) cells) (drop (k + 1) cells)) in
    let front : DriveOnce (before ++ take (k + 1) cells) = once-front (before ++ take (k + 1) cells) (drop (k + 1) cells) (subst DriveOnce whole once) in
    subst (HaveGates (set gates g.out.0 (Some copy))) more
    (subst (λ (x : StageCell). HaveGates (set gates g.out.0 (Some x)) ((before ++ take k cells) ++ g ∷ [])) (sym same) (gates-more gates (before ++ take k cells) g have inside (subst DriveOnce (sym more) front)))

-- what holds of all cells of the lists holds of those of one
pub all_of-at : (P : StageCell → Type 0) (lists : List (List StageCell)) (k : ℕ) (d : List StageCell) → k < length lists → All P (all_of lists) → All P (get_or lists k d)
all_of-at P lists k d lt holds =
    All-from_members P (get_or lists k d) (λ g m. All-member P (all_of lists) holds g (Member-flat_map (λ (cells : List StageCell). cells) (get_or lists k d) g (Member-get_or lists k d lt) m))

-- the cells of the lists so far, and of one list more, drive nets once
pub once-more : (lists : List (List StageCell)) (k : ℕ) (d : List StageCell) → k < length lists → DriveOnce (all_of lists) → DriveOnce (all_of (take k lists) ++ get_or lists k d)
once-more lists k d lt once =
    let cut : all_of lists ≡ all_of (take (k + 1) lists) ++ all_of (drop (k + 1) lists) = ap all_of (sym (take-append-drop (k + 1) lists)) ∙ flat_map-append (λ (cells : List StageCell). cells) (take (k + 1) lists) (drop (k + 1) lists) in
    subst DriveOnce (all_of-more lists k d lt) (once-front (all_of (take (k + 1) lists)) (all_of (drop (k + 1) lists)) (subst DriveOnce cut once))

-- ---- the kept cells

-- one cell more is looked at
pub kept-more : (nets : List (List ℕ)) (gates : List (Option StageCell)) (staged : List Bool) (cells : List Cell) (k : ℕ) (c : Cell) (found : Option StageCell) (was now : List PartCell) → k < length cells → c ≡ get_or cells k c → c.out.0 < length gates → found ≡ get_or gates c.out.0 found
    → was ≡ map (part_of nets) (kept (choice_by gates staged) (take k cells))
    → now ≡ was ++ map (part_of nets) (with_kept (becomes found (get_or staged c.out.0 false) c) [])
    → now ≡ map (part_of nets) (kept (choice_by gates staged) (take (k + 1) cells))
kept-more nets gates staged cells k c found was now lt is inside at before pushed =
    let there : get_or gates c.out.0 None ≡ found = get_or_from_slice_get gates c.out.0 (get_or gates c.out.0 found) None (slice_get-get_or gates c.out.0 found inside) ∙ sym at in
    let whole : kept (choice_by gates staged) (take (k + 1) cells) ≡ kept (choice_by gates staged) (take k cells) ++ with_kept (becomes found (get_or staged c.out.0 false) c) [] =
    filter_map-more (choice_by gates staged) cells k c lt ∙ ap (λ x. kept (choice_by gates staged) (take k cells) ++ with_kept (choice_by gates staged x) []) (sym is)
    ∙ ap (λ o. kept (choice_by gates staged) (take k cells) ++ with_kept (becomes o (get_or staged c.out.0 false) c) []) there in
    pushed ∙ ap (λ xs. xs ++ map (part_of nets) (with_kept (becomes found (get_or staged c.out.0 false) c) [])) before
    ∙ sym (map-append (part_of nets) (kept (choice_by gates staged) (take k cells)) (with_kept (becomes found (get_or staged c.out.0 false) c) []))
    ∙ ap (map (part_of nets)) (sym whole)

-- what is kept of a cell is on nets that are there
pub kept-within : (size : ℕ) (gates : List (Option StageCell)) (c : Cell) (found : Option StageCell) (staged : Bool) → CellFits size c → c.out.0 < length gates → found ≡ get_or gates c.out.0 found
    → ((net : ℕ) (g : StageCell) → slice_get gates net ≡ Some (Some g) → All (λ (x : NetId). x.0 < size) g.ins.items)
    → IfSome (becomes found staged c) (λ (d : Cell). All (λ (x : NetId). x.0 < size) d.ins.items × (d.out.0 < size))
kept-within size gates c (Some g) staged fits inside at each = (each c.out.0 g (slice_get-get_or gates c.out.0 (Some g) inside ∙ ap Some (sym at)), fits.output)
kept-within size gates c None true fits inside at each = tt
kept-within size gates c None false fits inside at each = (fits.inputs, fits.output)

-- two choices that agree on the cells keep the same
pub kept-same : (f g : Cell → Option Cell) (cells : List Cell) → ((c : Cell) → Member c cells → f c ≡ g c) → kept f cells ≡ kept g cells
kept-same f g [] same = refl
kept-same f g (c ∷ cells) same =
    let rest = kept-same f g cells (λ d m. same d (there m)) in
    let first = same c here in
    λ i. with_kept (first i) (rest i)

-- a list that a function is applied to, with one more behind the last
pub map-last : {X Y : Type 0} (f : X → Y) (xs : List X) (k : ℕ) (x : X) (was now : List Y) (y : Y) → length xs ≤ k → was ≡ map f (take k xs) → now ≡ was ++ y ∷ [] → y ≡ f x → now ≡ map f (xs ++ x ∷ [])
map-last f xs k x was now y past before pushed is =
    pushed ∙ (λ i. (before ∙ ap (map f) (take_all k xs past)) i ++ is i ∷ []) ∙ sym (map-append f xs (x ∷ []))

-- a member that is read of a list, as one of what the list is
pub member-read : {X : Type 0} (read xs : List X) (k : ℕ) (x : X) → read ≡ xs → k < length read → x ≡ get_or read k x → (k < length xs) × (x ≡ get_or xs k x)
member-read read xs k x same lt is = (subst (λ l. k < length l) same lt, is ∙ ap (λ l. get_or l k x) same)

-- ---- what each cell becomes

-- a stage between its banks, and its cells after folds
pub record IsFoldedStageAt (p : PipelineData) (lists : List (List StageCell)) (k : ℕ) (s : StageData) (cells : List StageCell) : Type 0 where
  pub stage : slice_get p.stages k ≡ Some s
  pub list : slice_get lists k ≡ Some cells
  pub bank : Bank
  pub next : Bank
  pub bank_at : slice_get p.banks k ≡ Some bank
  pub between : IsStageOf p.netlist bank next s

-- what stands at one place is one net
one-net : (o : Option NetId) (x y : NetId) → o ≡ Some x → o ≡ Some y → x.0 ≡ y.0
one-net o x y e f =
    let same : x ≡ y = same_Some x y (sym e ∙ f) in
    ap (λ (z : NetId). z.0) same

module _ (p : PipelineData) (shape : Shape p.netlist p) (lists : List (List StageCell)) (fewer : AreFewer p.stages lists) where
  abbrev n : NetlistData
  n = p.netlist

  abbrev all : List StageCell
  all = flat_map (λ (cells : List StageCell). cells) lists

  abbrev choice : Cell → Option Cell
  choice = choice_of p lists

  pub folded-stage : (k : ℕ) (s : StageData) (cells : List StageCell) → slice_get p.stages k ≡ Some s → slice_get lists k ≡ Some cells → IsFoldedStageAt p lists k s cells
  folded-stage k s cells at_s at_l =
      let within = slice_get_within p.stages k s at_s in
      let count = shape.stages in
      let (b, at_b) = slice_get-some p.banks k (omega (arith, within, count)) in
      let (next, at_next) = slice_get-some p.banks (k + 1) (omega (arith, within, count)) in
      record { stage = at_s; list = at_l; bank = b; next = next; bank_at = at_b; between = (shape.each_stage k b next s at_b at_next at_s).1 }

  -- ---- one stage

  module _ (k : ℕ) (s : StageData) (cells : List StageCell) (at : IsFoldedStageAt p lists k s cells) where
    pub folds : FoldsTo s cells
    folds = fewer.folds k s cells at.stage at.list

    pub is-folded : IsStage (with_cells s cells)
    is-folded = stage-folded s at.between.is_stage cells folds

    pub stage-is : stage_at p (suc k) ≡ s
    stage-is =
        let there = inner_stage p shape k (slice_get_within p.stages k s at.stage) in
        let both : Some (stage_at p (suc k)) ≡ Some s = sym there ∙ at.stage in
        cc

    -- its nets come from the rails of the bank before it
    pub old-comes : (net : ℕ) → Member net (nets_of s.inputs s.cells) → ComesFrom n net (RailOf at.bank.request.0)
    old-comes net m = stage_origin p shape k net at.bank at.bank_at (subst (λ (t : StageData). Member net (nets_of t.inputs t.cells)) (sym stage-is) m)

    old-net : (net : ℕ) → Member net (nets_of s.inputs cells) → Member net (nets_of s.inputs s.cells)
    old-net net m =
        elim (Member-append_cases net (rail_nets s.inputs) (map out_of cells) m) [
          | inl rail ↦ Member-append_left net (map out_of s.cells) rail
          | inr out ↦
              let (g, m-g, e) = member_of_map out_of cells net out in
              let (old, m-old, number, same) = cell-folded s at.between.is_stage cells folds g m-g in
              Member-append_right (rail_nets s.inputs) net (subst (λ x. Member x (map out_of s.cells)) (ap (λ (x : NetId). x.0) (sym same) ∙ e) (Member-map out_of old m-old))
        ]

    pub comes-from : (net : ℕ) → Member net (nets_of s.inputs cells) → ComesFrom n net (RailOf at.bank.request.0)
    comes-from net m = old-comes net (old-net net m)

    pub net-at : (net : ℕ) → Member net (nets_of s.inputs cells) → Member net (nets_at p (suc k))
    net-at net m = subst (λ (t : StageData). Member net (nets_of t.inputs t.cells)) (sym stage-is) (old-net net m)

    pub out-known : (g : StageCell) → Member g cells → Member g.out.0 (nets_of s.inputs cells)
    out-known g m = Member-append_right (rail_nets s.inputs) g.out.0 (Member-map out_of g m)

    -- a cell of the stage is a gate of the netlist
    pub old-cell : (g : StageCell) → Member g s.cells → (c : Cell) × CellAt n g.cell.0 c × (c.out ≡ g.out) × IsRailGate n c
    old-cell g m =
        let (i, at_i) = slice_get-from_Contains s.cells g (Contains-from_Member g m) in
        let of = at.between.each i g at_i in
        (of.cell, of.at, of.out, ((g.kind, of.kind), (at.bank.request.0, of.reads)))

    -- and so what a cell after folds has become of
    pub gate-cell : (g : StageCell) → Member g cells → (c : Cell) × CellAt n g.cell.0 c × (c.out ≡ g.out) × IsRailGate n c
    gate-cell g m =
        let (old, m-old, number, out) = cell-folded s at.between.is_stage cells folds g m in
        let (c, at_c, out_c, rail) = old-cell old m-old in
        (c, subst (λ (x : CellId). CellAt n x.0 c) (sym number) at_c, out_c ∙ sym out, rail)

    -- the nets on the pins of a cell are nets of the stage
    pub pin-known : (g : StageCell) → Member g cells → (x : NetId) → Member x g.ins.items → Member x.0 (nets_of s.inputs cells)
    pin-known g m x o = stage-pin (with_cells s cells) is-folded g m x o

    -- the outputs of the stage are nets of it
    pub output-known : (net : ℕ) → Member net (rail_nets s.outputs) → Member net (nets_of s.inputs cells)
    output-known net m = Member-from_Contains (nets_of s.inputs cells) net (All-member (Contains (nets_of s.inputs cells)) (rail_nets s.outputs) is-folded.outputs_known net m)

    -- an input of the stage is the net of a register cell
    pub input-register : (net : ℕ) → Member net (rail_nets s.inputs) → (r : Cell) × IsCell n r × IsRegister r × (r.out.0 ≡ net)
    input-register net m =
        let bits = (shape.banks k at.bank at.bank_at).0.bits in
        let (c, of_bank, out) = register_of_rail n shape.is_netlist shape.free at.bank.request.0 at.bank.bits bits s.inputs at.between.inputs net (Contains-from_Member net m) in
        (c, of_bank.0, of_bank.1, out)

    pub in-all : (g : StageCell) → Member g cells → Member g all
    in-all g m = Member-flat_map (λ (cells : List StageCell). cells) cells g (Member-from_Contains lists cells (Contains-from_slice_get lists k cells at.list)) m

  -- ---- all stages

  -- a cell of the lists is one of a stage after folds
  pub record IsFoldedIn (g : StageCell) : Type 0 where
    pub place : ℕ
    pub stage : StageData
    pub cells : List StageCell
    pub at : IsFoldedStageAt p lists place stage cells
    pub among : Member g cells

  pub place-in : (g : StageCell) → Member g all → IsFoldedIn g
  place-in g m =
      let (cells, m-cells, m-g) = member_of_flat_map (λ (cells : List StageCell). cells) lists g m in
      let (k, at_l) = slice_get-from_Contains lists cells (Contains-from_Member cells m-cells) in
      let within = slice_get_within lists k cells at_l in
      let sized = fewer.sized in
      let (s, at_s) = slice_get-some p.stages k (omega (arith, within, sized)) in
      record { place = k; stage = s; cells = cells; at = folded-stage k s cells at_s at_l; among = m-g }

  pub stage-within : (k : ℕ) (s : StageData) → slice_get p.stages k ≡ Some s → suc k ≤ length p.banks
  stage-within k s at = let within = slice_get_within p.stages k s at in let count = shape.stages in omega (arith, within, count)

  -- for each net there is one
  pub one-driving : (g h : StageCell) → Member g all → Member h all → g.out.0 ≡ h.out.0 → g ≡ h
  one-driving g h m o e =
      let u = place-in g m in
      let v = place-in h o in
      let first : Member g.out.0 (nets_at p (suc u.place)) = net-at u.place u.stage u.cells u.at g.out.0 (out-known u.place u.stage u.cells u.at g u.among) in
      let second : Member h.out.0 (nets_at p (suc v.place)) = net-at v.place v.stage v.cells v.at h.out.0 (out-known v.place v.stage v.cells v.at h v.among) in
      let numbers : suc u.place ≡ suc v.place = stages_apart p shape (suc u.place) (suc v.place) h.out.0 (stage-within u.place u.stage u.at.stage) (stage-within v.place v.stage v.at.stage) (subst (λ x. Member x (nets_at p (suc u.place))) e first) second in
      let place : u.place ≡ v.place = omega (arith, numbers) in
      let lists_are : v.cells ≡ u.cells = sym (same_Some u.cells v.cells (sym u.at.list ∙ ap (slice_get lists) place ∙ v.at.list)) in
      same_output (with_cells u.stage u.cells) (is-folded u.place u.stage u.cells u.at) g h u.among (subst (Member h) lists_are v.among) e

  -- ---- what a cell becomes

  pub choice-found : (c : Cell) (g : StageCell) → Member g all → g.out.0 ≡ c.out.0 → choice c ≡ Some (with_gate_of c g)
  choice-found c g m out =
      elim (cell_driving c.out.0 all) as (λ o. cell_driving c.out.0 all ≡ o → becomes o (is_stage_cell p c) c ≡ Some (with_gate_of c g)) [
        | None ↦ λ none. absurd (driving-none c.out.0 all none g m out)
        | Some h ↦ λ some. let (m-h, out-h) = driving-some c.out.0 all h some in ap (λ x. Some (with_gate_of c x)) (one-driving h g m-h m (out-h ∙ sym out))
      ] refl

  pub choice-cases : (c d : Cell) → choice c ≡ Some d → ((g : StageCell) × Member g all × (g.out.0 ≡ c.out.0) × (d ≡ with_gate_of c g)) ⊎ ((is_stage_cell p c ≡ false) × (d ≡ c))
  choice-cases c d is = by (cell_driving c.out.0 all) refl (is_stage_cell p c) refl is
    where
      by : (o : Option StageCell) → cell_driving c.out.0 all ≡ o → (staged : Bool) → is_stage_cell p c ≡ staged → becomes o staged c ≡ Some d
          → ((g : StageCell) × Member g all × (g.out.0 ≡ c.out.0) × (d ≡ with_gate_of c g)) ⊎ ((is_stage_cell p c ≡ false) × (d ≡ c))
      by (Some g) some staged e found = let (m, out) = driving-some c.out.0 all g some in inl (g, m, out, sym (same_Some (with_gate_of c g) d found))
      by None none true e found = absurd cc
      by None none false e found = inr (e, sym (same_Some c d found))

  -- a cell of a stage is a gate that comes from a rail, and each such gate is a cell of a stage
  pub rail-staged : (c : Cell) → IsCell n c → IsRailGate n c → is_stage_cell p c ≡ true
  rail-staged c in_c ((kind, is_gate), (request, from)) =
      let (i, at_c) = place_of n c in_c in
      let (k, g, lt, m, of) = gate_of_stage p shape i c kind request at_c is_gate from in
      elim (inner_or_last p shape k lt) [
        | inl inner ↦
            let there : Member (stage_at p (suc k)) p.stages = Member-from_Contains p.stages (stage_at p (suc k)) (Contains-from_slice_get p.stages k (stage_at p (suc k)) (inner_stage p shape k inner)) in
            list_any-from_member (λ (s : StageData). list_any (λ (g : StageCell). nat_eq g.out.0 c.out.0) s.cells) (stage_at p (suc k)) there (list_any-from_member (λ (g : StageCell). nat_eq g.out.0 c.out.0) g m (eq-eqb g.out.0 c.out.0 (sym of.out)))
        | inr last ↦ elim (subst (λ (s : StageData). Member g s.cells) (last_stage p shape k last) m) [ ]
      ]

  pub staged-rail : (c : Cell) → IsCell n c → is_stage_cell p c ≡ true → IsRailGate n c
  staged-rail c in_c staged =
      let (s, m-s, some) = member_from_list_any (λ (s : StageData). list_any (λ (g : StageCell). nat_eq g.out.0 c.out.0) s.cells) p.stages staged in
      let (g, m-g, same) = member_from_list_any (λ (g : StageCell). nat_eq g.out.0 c.out.0) s.cells some in
      let (k, at_s) = slice_get-from_Contains p.stages s (Contains-from_Member s m-s) in
      let within = slice_get_within p.stages k s at_s in
      let sized = fewer.sized in
      let (cells, at_l) = slice_get-some lists k (omega (arith, within, sized)) in
      let (b, at_b, out, rail) = old-cell k s cells (folded-stage k s cells at_s at_l) g m-g in
      let one : b ≡ c = same_driver n shape.is_netlist b c (Contains-from_slice_get n.cells g.cell.0 b at_b) in_c (ap (λ (x : NetId). x.0) out ∙ eqb-true g.out.0 c.out.0 same) in
      subst (IsRailGate n) one rail

  found-rail : (c : Cell) → IsCell n c → (g : StageCell) → Member g all → g.out.0 ≡ c.out.0 → IsRailGate n c
  found-rail c in_c g m out =
      let u = place-in g m in
      let (b, at_b, out_b, rail) = gate-cell u.place u.stage u.cells u.at g u.among in
      let one : b ≡ c = same_driver n shape.is_netlist b c (Contains-from_slice_get n.cells g.cell.0 b at_b) in_c (ap (λ (x : NetId). x.0) out_b ∙ out) in
      subst (IsRailGate n) one rail

  pub choice-stands : (c : Cell) → IsCell n c → (IsRailGate n c → ⊥) → choice c ≡ Some c
  choice-stands c in_c no_rail = by (cell_driving c.out.0 all) refl (is_stage_cell p c) refl
    where
      by : (o : Option StageCell) → cell_driving c.out.0 all ≡ o → (staged : Bool) → is_stage_cell p c ≡ staged → becomes o staged c ≡ Some c
      by (Some g) some staged e = let (m, out) = driving-some c.out.0 all g some in absurd (no_rail (found-rail c in_c g m out))
      by None none true e = absurd (no_rail (staged-rail c in_c e))
      by None none false e = refl

  pub choice-rail : (c d : Cell) → IsCell n c → IsRailGate n c → choice c ≡ Some d → (g : StageCell) × Member g all × (g.out.0 ≡ c.out.0) × (d ≡ with_gate_of c g)
  choice-rail c d in_c rail is =
      elim (choice-cases c d is) [
        | inl found ↦ found
        | inr (other, same) ↦ absurd (both_ways (is_stage_cell p c) other (rail-staged c in_c rail))
      ]

  only : (net : ℕ) (o : Origin) → ComesFrom n net o → (other : Origin) → ComesFrom n net other → other ≡ o
  only net o comes = (only_origin n shape.is_netlist shape.free net o comes).only

  -- ---- the choice

  -- along each cell of a stage ranks rise
  stage-rises : (rank : ℕ → ℕ) → ((c d : Cell) → IsCell n c → IsGate c → IsCell n d → ReadsNet c d.out.0 → rank d.out.0 < rank c.out.0)
      → (k : ℕ) (s : StageData) (cells : List StageCell) → IsFoldedStageAt p lists k s cells → (g : StageCell) → Member g s.cells → (x : NetId) → Member x g.ins.items → rank x.0 < rank g.out.0
  stage-rises rank rises k s cells at g m x o =
      let (i, at_i) = slice_get-from_Contains s.cells g (Contains-from_Member g m) in
      let is_gate = at.between.each i g at_i in
      let c = is_gate.cell in
      let in_c : IsCell n c = Contains-from_slice_get n.cells g.cell.0 c is_gate.at in
      let gate_c : IsGate c = (g.kind, is_gate.kind) in
      let read : Member x c.ins.items = subst (Member x) (sym is_gate.ins) o in
      let comes = old-comes k s cells at x.0 (stage-pin s at.between.is_stage g m x o) in
      let (d, in_d, out_d) = cell_of_rail n x.0 (RailOf at.bank.request.0) at.bank.request.0 refl comes in
      let reads : ReadsNet c d.out.0 = subst (λ y. Contains c.ins.items (record { 0 = y })) (sym out_d) (Contains-from_Member x read) in
      let less : rank d.out.0 < rank c.out.0 = rises c d in_c gate_c in_d reads in
      subst (λ y. rank y < rank g.out.0) out_d (subst (λ (y : NetId). rank d.out.0 < rank y.0) is_gate.out less)

  pub is-choice : IsChoice n choice
  is-choice = record {
    stands = choice-stands;
    gate = λ c d in_c rail is.
        let (g, m, out, e) = choice-rail c d in_c rail is in
        ((g.kind, ap (λ (z : Cell). z.kind) e), ap (λ (z : Cell). z.out) e);
    pins = λ c d in_c rail is x reads.
        let (g, m, out, e) = choice-rail c d in_c rail is in
        let u = place-in g m in
        let read : Member x g.ins.items = Member-from_Contains g.ins.items x (subst (λ (z : Cell). Contains z.ins.items x) e reads) in
        let comes = comes-from u.place u.stage u.cells u.at x.0 (pin-known u.place u.stage u.cells u.at g u.among x read) in
        let own : ComesFrom n c.out.0 (RailOf u.at.bank.request.0) = subst (λ y. ComesFrom n y (RailOf u.at.bank.request.0)) out (comes-from u.place u.stage u.cells u.at g.out.0 (out-known u.place u.stage u.cells u.at g u.among)) in (
          origin_within n shape.is_netlist x.0 (RailOf u.at.bank.request.0) comes,
          λ bank from. subst (ComesFrom n x.0) (sym (only c.out.0 (RailOf u.at.bank.request.0) own (RailOf bank) from)) comes,
        );
    ranks = λ rank rises c d in_c rail is x reads.
        let (g, m, out, e) = choice-rail c d in_c rail is in
        let u = place-in g m in
        let read : Member x g.ins.items = Member-from_Contains g.ins.items x (subst (λ (z : Cell). Contains z.ins.items x) e reads) in
        subst (λ y. rank x.0 < rank y) out
        (rank-folded u.stage u.at.between.is_stage rank (stage-rises rank rises u.place u.stage u.cells u.at) u.cells (folds u.place u.stage u.cells u.at) g u.among x read);
  }

  -- ---- what is read is driven

  -- what drives a net of a stage after folds is kept
  net-kept : (k : ℕ) (s : StageData) (cells : List StageCell) → IsFoldedStageAt p lists k s cells → (net : ℕ) → Member net (nets_of s.inputs cells) → (b : Cell) → IsCell n b → b.out.0 ≡ net → (e : Cell) × (choice b ≡ Some e)
  net-kept k s cells at net m b in_b out =
      elim (Member-append_cases net (rail_nets s.inputs) (map out_of cells) m) [
        | inl rail ↦
            let (r, in_r, register, out_r) = input-register k s cells at net rail in
            let one : r ≡ b = same_driver n shape.is_netlist r b in_r in_b (out_r ∙ sym out) in
            (b, choice-stands b in_b (λ (is_gate, from). register_no_gate r.kind register is_gate.0 (ap (λ (z : Cell). z.kind) one ∙ is_gate.1)))
        | inr is_out ↦
            let (g, m-g, e) = member_of_map out_of cells net is_out in
            (with_gate_of b g, choice-found b g (in-all k s cells at g m-g) (e ∙ sym out))
      ]

  -- an A net of a register cell is an input port, or an output of the stage before its bank
  rail-kept : (c : Cell) → IsCell n c → IsRegister c → (net : ℕ) → OnPin c A net → (b : Cell) → IsCell n b → b.out.0 ≡ net → (e : Cell) × (choice b ≡ Some e)
  rail-kept c in_c register net on b in_b out =
      let (request, of_request) = bank_of_register n shape.is_netlist c in_c register in
      let (k, d, at_d, named) = bank_named p shape request (c, of_request) in
      let of_bank : IsOfBank n d.request.0 c = subst (λ x. IsOfBank n x c) (sym named) of_request in
      let (j, r, of_rail) = rail_of_register n shape.is_netlist shape.free d (shape.banks k d at_d).0 c of_bank in
      let (within, between) = register_on p shape k d at_d j r c of_rail in
      let joined = stages_join p shape k (slice_get_within p.banks k d at_d) in
      let here-net : rail_at (stage_at p k).outputs j r ≡ net = one-net (slice_get c.ins.items A) (record { 0 = rail_at (stage_at p k).outputs j r }) (record { 0 = net }) between.on_a on in
      let among : Member net (rail_nets (stage_at p k).outputs) = subst (λ x. Member x (rail_nets (stage_at p k).outputs)) here-net (rail-within (stage_at p k).outputs j r (omega (arith, within, joined))) in
      by_number k (slice_get_within p.banks k d at_d) among
    where
      by_number : (k : ℕ) → k < length p.banks → Member net (rail_nets (stage_at p k).outputs) → (e : Cell) × (choice b ≡ Some e)
      by_number zero lt among =
          let (input, other) = input_is_port p shape net among in
          absurd (no_cell_drives_port n shape.is_netlist b in_b (subst (IsInputPort n) (sym out) input))
      by_number (suc k) lt among =
          let count = shape.stages in
          let sized = fewer.sized in
          let inner : k < length p.stages = omega (arith, lt, count) in
          let (cells, at_l) = slice_get-some lists k (omega (arith, inner, sized)) in
          let at = folded-stage k (stage_at p (suc k)) cells (inner_stage p shape k inner) at_l in
          net-kept k (stage_at p (suc k)) cells at net (output-known k (stage_at p (suc k)) cells at net among) b in_b out

  -- a gate that comes from a rail is read by no cell but such gates and, on A, register cells
  other-reader : (c : Cell) → IsCell n c → (IsRailGate n c → ⊥) → (b : Cell) → IsCell n b → IsRailGate n b → ReadsNet c b.out.0 → IsRegister c × OnPin c A b.out.0
  other-reader c in_c no_rail b in_b (is_gate, (bank, from)) reads =
      let (k, at_c) = place_of n c in_c in
      elim (sort_of c) [
        | inl gate_c ↦ absurd (no_rail (gate_c, (bank, gate c in_c gate_c reads from)))
        | inr (inl register) ↦
            let (pin, on) = slice_get-from_Contains c.ins.items (record { 0 = b.out.0 }) reads in
            let fits : length c.ins.items + 1 ≡ length (pins_of c.kind) = (cell_fits n shape.is_netlist c in_c).pins in
            let four : length (pins_of c.kind) ≡ 4 = ap length (register_pins_of c.kind register) in
            let within = slice_get_within c.ins.items pin (record { 0 = b.out.0 }) on in
            (register, by_pin k at_c register pin (omega (arith, fits, four, within)) on)
        | inr (inr is_ack) ↦
            let bit = (shape.free.paired k c at_c).ack is_ack in
            let (pin, on) = slice_get-from_Contains c.ins.items (record { 0 = b.out.0 }) reads in
            let fits : length c.ins.items + 1 ≡ length (pins_of c.kind) = (cell_fits n shape.is_netlist c in_c).pins in
            let three : length (pins_of c.kind) ≡ 3 = ap (λ z. length (pins_of z)) is_ack in
            let within = slice_get_within c.ins.items pin (record { 0 = b.out.0 }) on in
            absurd (by_rail pin (omega (arith, fits, three, within)) on bit.zero bit.zero_of.0 bit.zero_of.1 bit.on_a bit.one bit.one_of.0 bit.one_of.1 bit.on_b)
      ]
    where
      is-register : (r : Cell) → IsCell n r → IsRegister r → r.out.0 ≡ b.out.0 → ⊥
      is-register r in_r register out =
          let one : r ≡ b = same_driver n shape.is_netlist r b in_r in_b out in
          register_no_gate r.kind register is_gate.0 (ap (λ (z : Cell). z.kind) one ∙ is_gate.1)

      by_rail : (pin : ℕ) → pin < 2 → OnPin c pin b.out.0 → (zero-cell : Cell) → IsCell n zero-cell → IsRegister zero-cell → OnPin c A zero-cell.out.0 → (one-cell : Cell) → IsCell n one-cell → IsRegister one-cell → OnPin c B one-cell.out.0 → ⊥
      by_rail zero lt on z in_z z-register on_a o in_o o-register on_b = is-register z in_z z-register (one-net (slice_get c.ins.items 0) (record { 0 = z.out.0 }) (record { 0 = b.out.0 }) on_a on)
      by_rail (suc zero) lt on z in_z z-register on_a o in_o o-register on_b = is-register o in_o o-register (one-net (slice_get c.ins.items 1) (record { 0 = o.out.0 }) (record { 0 = b.out.0 }) on_b on)
      by_rail (suc (suc pin)) lt on z in_z z-register on_a o in_o o-register on_b = absurd (omega (arith, lt))

      by_pin : (k : ℕ) → CellAt n k c → IsRegister c → (pin : ℕ) → pin < 3 → OnPin c pin b.out.0 → OnPin c A b.out.0
      by_pin k at_c register zero lt on = on
      by_pin k at_c register (suc zero) lt on =
          elim (((shape.free.unmixed k c at_c).register register).request b.out.0 on) [
            | inl input ↦ absurd (no_cell_drives_port n shape.is_netlist b in_b input)
            | inr (other, acks) ↦ absurd (kind-apart bank other (sym (acks.only (RailOf bank) from)))
          ]
      by_pin k at_c register (suc (suc zero)) lt on = absurd (no_cell_drives_port n shape.is_netlist b in_b (((shape.free.unmixed k c at_c).register register).reset b.out.0 on))
      by_pin k at_c register (suc (suc (suc pin))) lt on = absurd (omega (arith, lt))

  -- a gate that comes from a rail drives no output port
  not-shown : (b : Cell) → IsCell n b → IsRailGate n b → IsOutputPort n b.out.0 → ⊥
  not-shown b in_b (is_gate, (bank, from)) output =
      let (first, at_first) = first_bank p shape in
      let (k, last, end, at_last) = last_bank n p shape in
      let count = length-map p.banks (λ (b : Bank). b.request.0) in
      let whole : k + 1 ≡ length (requests p.banks) = omega (arith, end, count) in
      let closed = shape.chained ShownOutputs (requests p.banks) first.request.0 last.request.0 shape.chain (request_at p.banks 0 first at_first) (k, whole, request_at p.banks k last at_last) in
      elim (closed.ports b.out.0 output) [
        | inl (r, of_bank, out) ↦
            let one : r ≡ b = same_driver n shape.is_netlist r b of_bank.0 in_b out in
            register_no_gate r.kind of_bank.1 is_gate.0 (ap (λ (z : Cell). z.kind) one ∙ is_gate.1)
        | inr root ↦ kind-apart bank first.request.0 (sym (only b.out.0 (AckOf first.request.0) root.acks (RailOf bank) from))
      ]

  -- ---- whole

  driven-kept : (c d b : Cell) (x : NetId) → IsCell n c → choice c ≡ Some d → Contains d.ins.items x → IsCell n b → b.out.0 ≡ x.0 → (e : Cell) × (choice b ≡ Some e)
  driven-kept c d b x in_c is reads in_b out =
      elim (rail_or_not n shape.is_netlist shape.free choice is-choice c in_c) [
        | inl rail ↦
            let (g, m, out_g, e) = choice-rail c d in_c rail is in
            let u = place-in g m in
            let read : Member x g.ins.items = Member-from_Contains g.ins.items x (subst (λ (z : Cell). Contains z.ins.items x) e reads) in
            net-kept u.place u.stage u.cells u.at x.0 (pin-known u.place u.stage u.cells u.at g u.among x read) b in_b out
        | inr no_rail ↦
            let same : c ≡ d = same-choice n shape.is_netlist shape.free choice is-choice c d (choice-stands c in_c no_rail) is in
            elim (rail_or_not n shape.is_netlist shape.free choice is-choice b in_b) [
              | inr stays ↦ (b, choice-stands b in_b stays)
              | inl rail ↦
                  let read : ReadsNet c b.out.0 = subst (λ y. Contains c.ins.items (record { 0 = y })) (sym out) (subst (λ (z : Cell). Contains z.ins.items x) (sym same) reads) in
                  let (register, on) = other-reader c in_c no_rail b in_b rail read in
                  rail-kept c in_c register b.out.0 on b in_b refl
            ]
      ]

  pub is-whole : IsWhole n choice
  is-whole = record {
    name = λ c d in_c rail is. let (g, m, out, e) = choice-rail c d in_c rail is in ap (λ (z : Cell). z.name) e;
    fits = λ c d in_c rail is.
        let (g, m, out, e) = choice-rail c d in_c rail is in
        let u = place-in g m in
        let arity = All-member (λ (c : StageCell). length c.ins.items ≡ arity_of c.kind) u.cells (is-folded u.place u.stage u.cells u.at).arities g u.among in
        subst (λ (z : Cell). length z.ins.items + 1 ≡ length (pins_of z.kind)) (sym e) (ap (λ k. k + 1) arity ∙ sym (pins_of-gate g.kind));
    driven = driven-kept;
    shown = λ b in_b output.
        elim (rail_or_not n shape.is_netlist shape.free choice is-choice b in_b) [
          | inr stays ↦ (b, choice-stands b in_b stays)
          | inl rail ↦ absurd (not-shown b in_b rail output)
        ];
  }

  -- so the parts of what is kept are a netlist's
  pub parts-kept : IsFaultless (kept_parts n choice) × AllDiffer (port_names (kept_parts n choice)) × All HasAllPins (kept_parts n choice).cells
  parts-kept = (
    faultless-kept n shape.is_netlist shape.free choice is-choice is-whole,
    ports-apart n shape.is_netlist shape.free choice is-choice is-whole,
    all-pins n shape.is_netlist shape.free choice is-choice is-whole,
  )

  -- ---- the tables from which the netlist is rebuilt

  -- the cells of the lists drive nets of the netlist, each its own
  pub all-inside : All (λ (g : StageCell). g.out.0 < length n.nets) (all_of lists)
  all-inside = All-from_members (λ (g : StageCell). g.out.0 < length n.nets) (all_of lists) (λ g m.
      let u = place-in g m in
      origin_within n shape.is_netlist g.out.0 (RailOf u.at.bank.request.0) (comes-from u.place u.stage u.cells u.at g.out.0 (out-known u.place u.stage u.cells u.at g u.among)))

  pub all-once : DriveOnce (all_of lists)
  all-once = λ g h m o e. one-driving g h (Member-from_Contains (all_of lists) g m) (Member-from_Contains (all_of lists) h o) e

  -- and have nets of it on their pins
  pub gate-pins : (gates : List (Option StageCell)) → HaveGates gates (all_of lists) → (net : ℕ) (g : StageCell) → slice_get gates net ≡ Some (Some g) → All (λ (x : NetId). x.0 < length n.nets) g.ins.items
  gate-pins gates have net g at =
      let lt = slice_get_within gates net (Some g) at in
      let (m, out) = driving-some net (all_of lists) g (sym (have net lt) ∙ get_or_from_slice_get gates net (Some g) None at) in
      let u = place-in g m in
      All-from_members (λ (x : NetId). x.0 < length n.nets) g.ins.items (λ x o.
      origin_within n shape.is_netlist x.0 (RailOf u.at.bank.request.0) (comes-from u.place u.stage u.cells u.at x.0 (pin-known u.place u.stage u.cells u.at g u.among x o)))

  -- the tables say what becomes of each cell
  pub kept-by-tables : (gates : List (Option StageCell)) (staged : List Bool) → length gates ≡ length n.nets → HaveGates gates (all_of lists) → IsTable n false (λ net. is_stage_net net p.stages) staged → kept (choice_by gates staged) n.cells ≡ kept (choice_of p lists) n.cells
  kept-by-tables gates staged sized have table =
      kept-same (choice_by gates staged) (choice_of p lists) n.cells (λ c m.
      let within = (cell_fits n shape.is_netlist c (Contains-from_Member c m)).output in
      ap (λ o. becomes o (get_or staged c.out.0 false) c) (have c.out.0 (subst (λ size. c.out.0 < size) (sym sized) within))
      ∙ ap (λ b. becomes (cell_driving c.out.0 (all_of lists)) b c) (table.each c.out.0 within))
