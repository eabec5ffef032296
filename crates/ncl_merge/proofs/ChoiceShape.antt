-- The netlist of the kept cells has the shape of the pipeline of the folded stages, and its nets and cells have the names that
-- they had.
use Rattle.ncl_merge.proofs.Terms.{All, All-from_members, AllPairs, AllZip, AreFewer, Cell, CellAt, CellId, Contains, Contains-filter_map, Contains-from_Member, Contains-from_slice_get, Gate, HasLabelOf, IsCell, IsChoice, IsInputPort, IsNetlist, IsOutputPort, IsRailGate, IsRegister, IsRenamedCell, IsRenamedStage, IsThinStage, IsThinned, Kind, List, Member, Member-append_cases, Member-append_left, Member-append_right, Member-from_Contains, Member-get_or, Member-map, NetId, NetlistData, OneRootEach, Option, PartCell, PipelineData, Port, Rails, Shape, Some, StageCell, StageData, [], ap, arith, at_map, cell_fits, cell_name, choice_of, drop, first_bank, flat_map, folded_netlist, folded_pipeline, get_or-name_number, get_or_from_slice_get, inl, input_is_port, inr, is_gate, kept, kept_parts, ki_is_port, last_bank, length, map, map-append, map-map, map-same, member_of_flat_map, member_of_map, moved, moved_gate, moved_stage, moved_stages, name_at, name_number, name_number-get_or, name_number-lt-length, net_there, nets_at, nets_of, number_in, out_of, part_of, pin_names, place_of, place_there, port_names, rail_names, rail_nets, rail_one, rail_zero, refl, register_no_gate, register_of_rail, renamed_net, renamed_rails, request_at, requests, same_Some, same_cell, same_driver, same_place, slice_get, slice_get_within, stages_apart, subst, suc, sym, take-append-drop, with_cells, with_gate_of, zero, ℕ, ◌++◌, ◌<◌, ◌∙◌, ◌∷◌, ◌≡◌, ◌≢◌}
use Rattle.ncl_merge.proofs.Weights.{ones, outs-differ}
use Rattle.ncl_merge.proofs.Folds.{cell-folded}
use Rattle.ncl_merge.proofs.Renamed.{pairs-map, renamed-stage}
use Rattle.ncl_merge.proofs.ThinnedShape.{shape-there}
use Rattle.ncl_merge.proofs.Rebuilt.{cells-moved, from_once, in-kept, kept_at, named, out-in, pin-kept, port-name, source, thinned-rebuilt}
use Rattle.ncl_merge.proofs.Choices.{IsFoldedStageAt, choice-cases, choice-found, choice-rail, choice-stands, folded-stage, folds, gate-cell, in-all, input-register, is-choice, is-folded, net-at, old-cell, out-known, place-in, stage-is, stage-within}

pub zip-moved : (to at : ℕ → ℕ) (cells : List StageCell) → AllZip (IsRenamedCell to) cells (map (moved_gate to at) cells)
zip-moved to at [] = tt
zip-moved to at (g ∷ cells) = (record { kind = refl; ins = refl; out = refl }, zip-moved to at cells)

pub moved-count : (to at : ℕ → ℕ) (stages : List StageData) (lists : List (List StageCell)) → length lists ≡ length stages → length (moved_stages to at stages lists) ≡ length stages
moved-count to at [] lists sized = refl
moved-count to at (s ∷ stages) [] sized = absurd (omega (arith, sized))
moved-count to at (s ∷ stages) (cells ∷ lists) sized = ap suc (moved-count to at stages lists (omega (arith, sized)))

pub moved-at : (to at : ℕ → ℕ) (stages : List StageData) (lists : List (List StageCell)) (k : ℕ) (s t : StageData) → slice_get stages k ≡ Some s → slice_get (moved_stages to at stages lists) k ≡ Some t → (cells : List StageCell) × (slice_get lists k ≡ Some cells) × (moved_stage to at s cells ≡ t)
moved-at to at (x ∷ stages) (cells ∷ lists) zero s t at_s at_t =
    let same : x ≡ s = cc in
    let moved_same : moved_stage to at x cells ≡ t = cc in
    (cells, refl, ap (λ y. moved_stage to at y cells) (sym same) ∙ moved_same)
moved-at to at (x ∷ stages) (cells ∷ lists) (suc k) s t at_s at_t = moved-at to at stages lists k s t at_s at_t
moved-at to at stages lists k s t at_s at_t = absurd cc

-- the name of the cell at a place
pub name-of_cell : (n : NetlistData) (k : ℕ) (c : Cell) → CellAt n k c → cell_name n k ≡ c.name
name-of_cell n k c at = get_or_from_slice_get (map (λ (c : Cell). c.name) n.cells) k c.name [] (at_map (λ (c : Cell). c.name) n.cells k c at)

module _ (p : PipelineData) (shape : Shape p.netlist p) (lists : List (List StageCell)) (fewer : AreFewer p.stages lists) (is_m : IsNetlist (folded_netlist p lists)) where
  abbrev n : NetlistData
  n = p.netlist

  abbrev m : NetlistData
  m = folded_netlist p lists

  abbrev to : ℕ → ℕ
  to = net_there p lists

  abbrev from : ℕ → ℕ
  from = number_in m n

  abbrev at : ℕ → ℕ
  at = place_there p lists

  abbrev choice : Cell → Option Cell
  choice = choice_of p lists

  abbrev chosen : IsChoice n choice
  chosen = is-choice p shape lists fewer

  abbrev pub is-thinned : IsThinned n m
  is-thinned = thinned-rebuilt n shape.is_netlist shape.free choice chosen is_m

  -- a net that has a number there leads back
  back-there : (x : ℕ) → x < length n.nets → to x < length m.nets → from (to x) ≡ x
  back-there x within there_is = ap (name_number n.nets) (get_or-name_number m.nets (name_at n x) [] there_is) ∙ name_number-get_or n.nets x [] shape.is_netlist.net_names within

  module _ (k : ℕ) (s : StageData) (cells : List StageCell) (of : IsFoldedStageAt p lists k s cells) where
    -- the cell that a cell of the stage has become
    pub cell-there : (g : StageCell) → Member g cells → (c : Cell) × CellAt n g.cell.0 c × CellAt m (at g.cell.0) (moved to (with_gate_of c g)) × (c.out ≡ g.out) × (from (to g.out.0) ≡ g.out.0) × Member (with_gate_of c g) (kept choice n.cells)
    cell-there g m-g =
        let (c, at_c, out, rail) = gate-cell p shape lists fewer k s cells of g m-g in
        let chosen_is = choice-found p shape lists fewer c g (in-all p shape lists fewer k s cells of g m-g) (ap (λ (x : NetId). x.0) (sym out)) in
        let stands = at_map (moved to) (kept choice n.cells) (at g.cell.0) (with_gate_of c g) (kept_at choice n.cells g.cell.0 c (with_gate_of c g) at_c chosen_is) in
        let in_c : IsCell n c = Contains-from_slice_get n.cells g.cell.0 c at_c in
        let among = in-kept n shape.is_netlist shape.free choice chosen c (with_gate_of c g) in_c chosen_is in (
          c,
          at_c,
          subst (λ xs. slice_get xs (at g.cell.0) ≡ Some (moved to (with_gate_of c g))) (sym (cells-moved n shape.is_netlist shape.free choice chosen)) stands,
          out,
          subst (λ (x : NetId). from (to x.0) ≡ x.0) out (pin-kept n shape.is_netlist shape.free choice chosen (with_gate_of c g) among c.out (out-in n shape.is_netlist shape.free choice chosen (with_gate_of c g))).1,
          among,
        )

    pub net-back : (net : ℕ) → Member net (nets_of s.inputs cells) → from (to net) ≡ net
    net-back net m-net =
        elim (Member-append_cases net (rail_nets s.inputs) (map out_of cells) m-net) [
          | inl rail ↦
              let (r, in_r, register, out) = input-register p shape lists fewer k s cells of net rail in
              let (i, at_r) = place_of n r in_r in
              let stood = is-thinned.stood i r at_r (λ (is_gate, comes). register_no_gate r.kind register is_gate.0 is_gate.1) in
              subst (λ x. from (to x) ≡ x) out stood.out
          | inr is_out ↦
              let (g, m-g, e) = member_of_map out_of cells net is_out in
              let (c, was, there_is, out, leads, among) = cell-there g m-g in
              subst (λ x. from (to x) ≡ x) e leads
        ]

    pub renamed-at : IsRenamedStage to from (with_cells s cells) (moved_stage to at s cells)
    renamed-at = record {
      back = λ net known. net-back net (Member-from_Contains (nets_of s.inputs cells) net known);
      inputs = refl;
      cells = zip-moved to at cells;
      outputs = refl;
    }

    pub numbers-differ : AllPairs (λ (x y : StageCell). x.cell.0 ≢ y.cell.0) (map (moved_gate to at) cells)
    numbers-differ =
        pairs-map (λ (x y : StageCell). x.out.0 ≢ y.out.0) (λ (x y : StageCell). x.cell.0 ≢ y.cell.0) (moved_gate to at) cells
        (λ g h m-g m-h differ e.
        let (c, c_was, at_c, out_c, leads_g, among_c) = cell-there g m-g in
        let (d, d_was, at_d, out_d, leads_h, among_d) = cell-there h m-h in
        let same = same_cell m (at g.cell.0) (at h.cell.0) (moved to (with_gate_of c g)) (moved to (with_gate_of d h)) e at_c at_d in
        let outs : to g.out.0 ≡ to h.out.0 = ap (λ (x : NetId). to x.0) (sym out_c) ∙ ap (λ (z : Cell). z.out.0) same ∙ ap (λ (x : NetId). to x.0) out_d in
        differ (sym leads_g ∙ ap from outs ∙ leads_h))
        (outs-differ (with_cells s cells) (is-folded p shape lists fewer k s cells of))

    gate-there : (g : StageCell) → Contains (map (moved_gate to at) cells) g
        → (d : Cell) × CellAt m g.cell.0 d × (d.kind ≡ Gate g.kind) × (d.ins.items ≡ g.ins.items) × (d.out ≡ g.out) × ((old : StageCell) × Contains s.cells old × (g.out ≡ renamed_net to old.out) × (from (to old.out.0) ≡ old.out.0))
    gate-there g among =
        let (f, m-f, e) = member_of_map (moved_gate to at) cells g (Member-from_Contains (map (moved_gate to at) cells) g among) in
        let (c, was, at_c, out, leads, kept_c) = cell-there f m-f in
        let (old, m-old, number, same) = cell-folded s of.between.is_stage cells (folds p shape lists fewer k s cells of) f m-f in
        subst (λ (g : StageCell). (d : Cell) × CellAt m g.cell.0 d × (d.kind ≡ Gate g.kind) × (d.ins.items ≡ g.ins.items) × (d.out ≡ g.out) × ((old : StageCell) × Contains s.cells old × (g.out ≡ renamed_net to old.out) × (from (to old.out.0) ≡ old.out.0))) e
        (moved to (with_gate_of c f), at_c, refl, refl, ap (renamed_net to) out, (old, Contains-from_Member old m-old, ap (renamed_net to) same, subst (λ (x : NetId). from (to x.0) ≡ x.0) same leads))

    -- a cell there that drives what a cell of the stage drove is of the stage
    every-there : (i : ℕ) (kind : Kind) (d : Cell) → CellAt m i d → d.kind ≡ Gate kind → (old : StageCell) → Contains s.cells old → d.out.0 ≡ to old.out.0 → (g : StageCell) × Contains (map (moved_gate to at) cells) g × (g.cell.0 ≡ i)
    every-there i kind d at_d is_gate old among out =
        let (j, c, e, at_c, is, place, moved-e, in_c, kept_e, c-back) = source n shape.is_netlist shape.free choice chosen i d at_d in
        let within_d : d.out.0 < length m.nets = (cell_fits m is_m d (Contains-from_slice_get m.cells i d at_d)).output in
        let m-old = Member-from_Contains s.cells old among in
        let (b, at_b, out_b, rail) = old-cell p shape lists fewer k s cells of old m-old in
        let in_b : IsCell n b = Contains-from_slice_get n.cells old.cell.0 b at_b in
        let old-within : old.out.0 < length n.nets = subst (λ (x : NetId). x.0 < length n.nets) out_b (cell_fits n shape.is_netlist b in_b).output in
        let old-back : from (to old.out.0) ≡ old.out.0 = back-there old.out.0 old-within (subst (λ x. x < length m.nets) out within_d) in
        let outs : c.out.0 ≡ old.out.0 = sym c-back ∙ ap from out ∙ old-back in
        let one : b ≡ c = same_driver n shape.is_netlist b c in_b in_c (ap (λ (x : NetId). x.0) out_b ∙ sym outs) in
        let (g, m-g, out_g, e-is) = choice-rail p shape lists fewer c e in_c (subst (IsRailGate n) one rail) is in
        let u = place-in p shape lists fewer g m-g in
        let (f, at_f, out_f, rail_f) = gate-cell p shape lists fewer u.place u.stage u.cells u.at g u.among in
        let number : g.cell.0 ≡ j = same_place n shape.is_netlist g.cell.0 j f c at_f at_c (ap (λ (x : NetId). x.0) out_f ∙ out_g) in
        let first : Member g.out.0 (nets_at p (suc u.place)) = net-at p shape lists fewer u.place u.stage u.cells u.at g.out.0 (out-known p shape lists fewer u.place u.stage u.cells u.at g u.among) in
        let own : Member old.out.0 (nets_at p (suc k)) = subst (λ (t : StageData). Member old.out.0 (nets_of t.inputs t.cells)) (sym (stage-is p shape lists fewer k s cells of)) (Member-append_right (rail_nets s.inputs) old.out.0 (Member-map out_of old m-old)) in
        let numbers : suc u.place ≡ suc k = stages_apart p shape (suc u.place) (suc k) old.out.0 (stage-within p shape lists fewer u.place u.stage u.at.stage) (stage-within p shape lists fewer k s of.stage) (subst (λ x. Member x (nets_at p (suc u.place))) (out_g ∙ outs) first) own in
        let same-place : u.place ≡ k = omega (arith, numbers) in
        let lists-are : u.cells ≡ cells = same_Some u.cells cells (sym u.at.list ∙ ap (slice_get lists) same-place ∙ of.list) in
        (moved_gate to at g, Contains-from_Member (moved_gate to at g) (Member-map (moved_gate to at) g (subst (Member g) lists-are u.among)), ap at number ∙ place)

    pub thin-stage : IsThinStage m to from s (moved_stage to at s cells)
    thin-stage = record {
      is_stage = renamed-stage to from (with_cells s cells) (moved_stage to at s cells) (is-folded p shape lists fewer k s cells of) renamed-at numbers-differ;
      number = refl;
      inputs = refl;
      outputs = refl;
      gates = gate-there;
      every = every-there;
    }

  pub shape-folded : Shape m (folded_pipeline p lists)
  shape-folded =
      shape-there n m is-thinned shape.free p shape (moved_stages to at p.stages lists) (moved-count to at p.stages lists fewer.sized) (λ k s t at_s at_t.
      let (cells, at_l, e) = moved-at to at p.stages lists k s t at_s at_t in
      subst (IsThinStage m to from s) e (thin-stage k s cells (folded-stage p shape lists fewer k s cells at_s at_l)))

  -- ---- its nets and cells have the names that they had

  -- ---- nets

  -- a net on a pin of a kept cell
  pub name-kept : (d : Cell) → Member d (kept choice n.cells) → (x : NetId) → Member x (d.ins.items ++ d.out ∷ []) → name_at m (to x.0) ≡ name_at n x.0
  name-kept d m-d x m-x = get_or-name_number m.nets (name_at n x.0) [] (name_number-lt-length m.nets (name_at n x.0) (named n shape.is_netlist shape.free choice chosen d m-d x m-x))

  -- a port
  name-port : (x : ℕ) → x < length n.ports → name_at m (to x) ≡ name_at n x
  name-port x lt =
      ap (name_at m) ((is-thinned).port_to x lt)
      ∙ port-name n shape.is_netlist shape.free choice chosen m is_m refl x lt ∙ sym (port-name n shape.is_netlist shape.free choice chosen n shape.is_netlist refl x lt)

  -- the output of a register cell
  name-register : (c : Cell) → IsCell n c → IsRegister c → name_at m (to c.out.0) ≡ name_at n c.out.0
  name-register c in_c register =
      let stands = choice-stands p shape lists fewer c in_c (λ rail. register_no_gate c.kind register rail.0.0 rail.0.1) in
      name-kept c (in-kept n shape.is_netlist shape.free choice chosen c c in_c stands) c.out (out-in n shape.is_netlist shape.free choice chosen c)

  name-input_port : (x : ℕ) → IsInputPort n x → name_at m (to x) ≡ name_at n x
  name-input_port x (port, at_x, input) = name-port x (slice_get_within n.ports x port at_x)

  name-output_port : (x : ℕ) → IsOutputPort n x → name_at m (to x) ≡ name_at n x
  name-output_port x (port, at_x, output) = name-port x (slice_get_within n.ports x port at_x)

  pub ki-named : name_at m (to p.ki) ≡ name_at n p.ki
  ki-named = name-input_port p.ki (ki_is_port p shape)

  pub ko-named : name_at m (to p.ko) ≡ name_at n p.ko
  ko-named =
      let (first, at_first) = first_bank p shape in
      let root : p.ko ≡ first.root.0 = shape.ko first at_first in
      let shown = (shape.chained OneRootEach (requests p.banks) shape.chain).first first.request.0 first.root.0 (request_at p.banks 0 first at_first) (shape.banks 0 first at_first).0.root in
      name-output_port p.ko (subst (IsOutputPort n) (sym root) shown)

  pairs-named : (rails : List Rails) → ((r : Rails) → Member r rails → (name_at m (to r.zero.0) ≡ name_at n r.zero.0) × (name_at m (to r.one.0) ≡ name_at n r.one.0)) → map (rail_names m) (map (renamed_rails to) rails) ≡ map (rail_names n) rails
  pairs-named rails same =
      map-map (rail_names m) (renamed_rails to) rails
      ∙ map-same (λ (r : Rails). rail_names m (renamed_rails to r)) (rail_names n) rails (λ r m-r. let (zeros, ones) = same r m-r in λ i. record { zero = zeros i; one = ones i })

  pub inputs-named : map (rail_names m) (map (renamed_rails to) p.inputs) ≡ map (rail_names n) p.inputs
  inputs-named = pairs-named p.inputs (λ r m-r. (name-input_port r.zero.0 (input_is_port p shape r.zero.0 (rail_zero r m-r)).0, name-input_port r.one.0 (input_is_port p shape r.one.0 (rail_one r m-r)).0))

  pub outputs-named : map (rail_names m) (map (renamed_rails to) p.outputs) ≡ map (rail_names n) p.outputs
  outputs-named =
      let (k, last, end, at_last) = last_bank n p shape in
      let side : (net : ℕ) → Member net (rail_nets p.outputs) → name_at m (to net) ≡ name_at n net = λ net m-net.
      let (c, of_bank, out) = register_of_rail n shape.is_netlist shape.free last.request.0 last.bits (shape.banks k last at_last).0.bits p.outputs (shape.outputs k last end at_last).0 net (Contains-from_Member net m-net) in
      subst (λ x. name_at m (to x) ≡ name_at n x) out (name-register c of_bank.0 of_bank.1) in
      pairs-named p.outputs (λ r m-r. (side r.zero.0 (rail_zero r m-r), side r.one.0 (rail_one r m-r)))

  -- ---- cells

  -- the parts of a kept cell
  pub part-kept : (d : Cell) → Member d (kept choice n.cells) → part_of m.nets (moved to d) ≡ part_of n.nets d
  part-kept d m-d = λ i. record { kind = d.kind; name = d.name; pins = pins i }
    where
      pins : pin_names m.nets (moved to d) ≡ pin_names n.nets d
      pins =
          ap (map (λ (x : NetId). name_at m x.0)) (sym (map-append (renamed_net to) d.ins.items (d.out ∷ [])))
          ∙ map-map (λ (x : NetId). name_at m x.0) (renamed_net to) (d.ins.items ++ d.out ∷ [])
          ∙ map-same (λ (x : NetId). name_at m (to x.0)) (λ (x : NetId). name_at n x.0) (d.ins.items ++ d.out ∷ []) (λ x m-x. name-kept d m-d x m-x)

  -- a kept cell has the name of the cell that it was
  name-chosen : (c d : Cell) → choice c ≡ Some d → d.name ≡ c.name
  name-chosen c d is =
      elim (choice-cases p shape lists fewer c d is) [
        | inl (g, m-g, out, same) ↦ ap (λ (z : Cell). z.name) same
        | inr (other, same) ↦ ap (λ (z : Cell). z.name) same
      ]

  pub no-new_cells : All (λ (c : Cell). Contains (map (λ (d : Cell). d.name) n.cells) c.name) m.cells
  no-new_cells =
      All-from_members (λ (c : Cell). Contains (map (λ (d : Cell). d.name) n.cells) c.name) m.cells (λ d m-d.
      let (e, m-e, moved_e) = member_of_map (moved to) (kept choice n.cells) d (subst (Member d) (cells-moved n shape.is_netlist shape.free choice chosen) m-d) in
      let (c, in_c, is) = Contains-filter_map choice n.cells e (Contains-from_Member e m-e) in
      let same : c.name ≡ d.name = sym (name-chosen c e is) ∙ ap (λ (z : Cell). z.name) moved_e in
      subst (Contains (map (λ (d : Cell). d.name) n.cells)) same (Contains-from_Member c.name (Member-map (λ (d : Cell). d.name) c (Member-from_Contains n.cells c in_c))))

  own-port : (x : List ℕ) → Member x (map (λ (port : Port). port.name) n.ports) → Member x n.nets
  own-port x port = subst (Member x) (take-append-drop (length n.ports) n.nets) (Member-append_left x (drop (length n.ports) n.nets) (subst (Member x) (sym shape.is_netlist.ports_first) port))

  -- each net is a port, or is on a pin of a kept cell
  pub no-new_nets : All (Contains n.nets) m.nets
  no-new_nets =
      All-from_members (Contains n.nets) m.nets (λ x m-x.
      let pins = λ (cell : PartCell). cell.pins in
      elim (Member-append_cases x (port_names (kept_parts n choice)) (flat_map pins (map (part_of n.nets) (kept choice n.cells))) (from_once (port_names (kept_parts n choice) ++ flat_map pins (map (part_of n.nets) (kept choice n.cells))) x m-x)) [
        | inl port ↦ Contains-from_Member x (own-port x port)
        | inr pin ↦
            let (part, m-part, m-pin) = member_of_flat_map pins (map (part_of n.nets) (kept choice n.cells)) x pin in
            let (d, m-d, is) = member_of_map (part_of n.nets) (kept choice n.cells) part m-part in
            let on : Member x (pin_names n.nets d) = subst (λ (q : PartCell). Member x q.pins) (sym is) m-pin in
            let (y, m-y, named_y) = member_of_map (λ (net : NetId). name_at n net.0) (d.ins.items ++ d.out ∷ []) x on in
            Contains-from_Member x (subst (λ name. Member name n.nets) named_y (Member-get_or n.nets y.0 [] (pin-kept n shape.is_netlist shape.free choice chosen d m-d y m-y).0))
      ])

  -- ---- cells of stages

  pub label-there : (k : ℕ) (s : StageData) (cells : List StageCell) (of : IsFoldedStageAt p lists k s cells) (f : StageCell) → Member f cells
      → (old : StageCell) × Contains s.cells old × HasLabelOf n m old (moved_gate to at f)
  label-there k s cells of f m-f =
      let (c, at_c, stands, out, leads, among) = cell-there k s cells of f m-f in
      let (old, m-old, number, same) = cell-folded s of.between.is_stage cells (folds p shape lists fewer k s cells of) f m-f in (
        old,
        Contains-from_Member old m-old,
        record {
          name = name-of_cell m (at f.cell.0) (moved to (with_gate_of c f)) stands ∙ sym (name-of_cell n f.cell.0 c at_c) ∙ ap (λ (x : CellId). cell_name n x.0) number;
          net = ap (λ (x : NetId). name_at m (to x.0)) (sym out) ∙ name-kept (with_gate_of c f) among c.out (out-in n shape.is_netlist shape.free choice chosen (with_gate_of c f)) ∙ ap (λ (x : NetId). name_at n x.0) (out ∙ same);
        },
      )
