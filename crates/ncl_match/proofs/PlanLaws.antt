-- The plan of a pipeline, and what it reaches.
pub use Rattle.ncl_match.proofs.Terms.{[], A, All, All-contains, All-from_members, AreMarks, AreMarksFor, Bool, Cell, Contains-from_Member, Contains-from_slice_get, DataCell, Drives, FitPins, IsCell, IsEvaluated, IsGate, IsKnown, IsLayoutOf, IsOrdered, IsRegister, Layout, List, Member, Member-from_Contains, Member-map, NetCounts, NetId, NetlistData, Nets, OnPin, Part, PipelineData, Rails, Reaches, ReadsNet, Some, StageCell, ap, arith, arity_of, both_ways, by_gate, by_register, circuit_of, closed, eq-eqb, eqb-true, false, false_from_ne_true, gate_cell, get_or, here, in_rail, inl, inr, is_on, is_rail, is_register, itself, laid_out_of, length, list_any-from_member, made_of, map, member_cases, member_from_list_any, nat_eq, net_of, no_rails, of_bank, of_stage, of_tree, out_rail, pins_of, plan_of, rail_nets, reads, refl, register_cell, same_Some, slice_get, slice_get-from_Contains, slice_get-get_or, subst, suc, sym, there, true, ℕ, ◌<◌, ◌↔◌, ◌∙◌, ◌∷◌, ◌≡◌, ◌≤◌, ◌⊎◌}
pub use Rattle.ncl_match.proofs.ClosedLaws.{at-gate, at-input, at-register}
use Rattle.ncl_match.proofs.PlannedLaws.{Known, PlanPart, drives-known, gate-in, inputs-known, known-in, known-inputs, laid_plan, of_bank, of_stage, output-known, part-of, plan-laid, register-in, wired-apart, wired-in_order, wired-once, wired-plan}
use Rattle.ncl_match.proofs.PlannedLaws as planned

-- ---- the plan of a pipeline is in order, its cells have the pins of their kinds, and the closure evaluates it

module _ {p : PipelineData} {l : Layout} (is : IsLayoutOf p l) where
  abbrev plan : List DataCell
  plan = laid_plan l

  abbrev nets : ℕ
  nets = length p.netlist.nets

  abbrev inputs : List ℕ
  inputs = rail_nets p.inputs

  abbrev v : List Bool → Nets
  v word net = closed (circuit_of p) word net

  -- the part of the cell at a place
  pub part-at : (k : ℕ) (e : DataCell) → slice_get plan k ≡ Some e → PlanPart l e
  part-at k e at = part-of is e (Member-from_Contains plan e (Contains-from_slice_get plan k e at))

  -- what is known is a net of the netlist
  known-within : (net : ℕ) → Known l l.last net → net < nets
  known-within net (j, le, m) = is.stage_within j net le m

  -- what a cell reads is known
  pub reads-known : (k : ℕ) (e : DataCell) → slice_get plan k ≡ Some e → (x : NetId) → Member x e.ins.items → Known l l.last x.0
  reads-known k e at x m =
      elim (wired-in_order (Known l 0) plan (wired-plan is) k e at x m) [
        | inl known ↦ let (j, le, has) = known in (j, omega (arith, le), has)
        | inr driven ↦ let (j, lt, drives) = driven in drives-known is j x.0 drives
      ]

  -- ---- it is in order

  before : (j k : ℕ) (e f : DataCell) → slice_get plan j ≡ Some e → slice_get plan k ≡ Some f → j ≤ k → is_on e.ins.items f.out.0 ≡ false
  before j k e f at_e at_f le = false_from_ne_true (is_on e.ins.items f.out.0) reads
    where
      driven : Drives plan k f.out.0
      driven = record { cell = f; at = at_f; out = refl }

      known : (x : NetId) → x.0 ≡ f.out.0 → Known l 0 x.0 ⊎ ((i : ℕ) × (i < j) × Drives plan i x.0) → ⊥
      known x same (inl first) = wired-apart (Known l 0) plan (wired-plan is) k f.out.0 (subst (Known l 0) same first) driven
      known x same (inr (i, lt, drives)) =
          let one : i ≡ k = wired-once (Known l 0) plan (wired-plan is) i k f.out.0 (subst (Drives plan i) same drives) driven in
          omega (arith, one, lt, le)

      reads : is_on e.ins.items f.out.0 ≡ true → ⊥
      reads on =
          let (x, m, test) = member_from_list_any (λ (y : NetId). nat_eq y.0 f.out.0) e.ins.items on in
          known x (eqb-true x.0 f.out.0 test) (wired-in_order (Known l 0) plan (wired-plan is) j e at_e x m)

  ordered : IsOrdered plan nets
  ordered = record {
    outs = λ k e at. known-within e.out.0 (drives-known is k e.out.0 (record { cell = e; at = at; out = refl }));
    ins = λ k e at. All-from_members (λ (x : NetId). x.0 < nets) e.ins.items (λ x m. known-within x.0 (reads-known k e at x m));
    before = before;
  }

  -- ---- each cell has the pins of its kind

  fitting : (e : DataCell) → PlanPart l e → length e.ins.items ≡ pins_of e.kind
  fitting e (of_bank k b r lt within same) = subst (λ (x : DataCell). length x.ins.items ≡ pins_of x.kind) (sym same) refl
  fitting e (of_stage k g le m same) =
      subst (λ (x : DataCell). length x.ins.items ≡ pins_of x.kind) (sym same)
      (All-contains (λ (h : StageCell). length h.ins.items ≡ arity_of h.kind) (l.stage k).cells g (is.is_stage k le).arities (Contains-from_Member g m))

  fits_pins : FitPins plan
  fits_pins k e at = fitting e (part-at k e at)

  -- ---- the closure evaluates it

  giving : (word : List Bool) (e : DataCell) → PlanPart l e → v word e.out.0 ≡ made_of e.kind (map (λ (x : NetId). v word x.0) e.ins.items)
  giving word e (of_bank k b r lt within same) =
      subst (λ (d : DataCell). v word d.out.0 ≡ made_of d.kind (map (λ (x : NetId). v word x.0) d.ins.items)) (sym same) (at-register is word k b r lt within)
  giving word e (of_stage k g le m same) =
      subst (λ (d : DataCell). v word d.out.0 ≡ made_of d.kind (map (λ (x : NetId). v word x.0) d.ins.items)) (sym same) (at-gate is word k g le m)

  in_order : (k : ℕ) (e : DataCell) → slice_get plan k ≡ Some e → All (λ (x : NetId). IsKnown plan inputs k x.0) e.ins.items
  in_order k e at =
      All-from_members (λ (x : NetId). IsKnown plan inputs k x.0) e.ins.items
      (λ x m.
      elim (wired-in_order (Known l 0) plan (wired-plan is) k e at x m) [
        | inl known ↦ inl (known-inputs is x.0 known)
        | inr driven ↦ inr driven
      ])

  evaluated : IsEvaluated (length p.inputs) plan inputs v
  evaluated = record {
    gives = λ k e word at wide. giving word e (part-at k e at);
    in_order = in_order;
    once = λ j k net first second. wired-once (Known l 0) plan (wired-plan is) j k net first second;
    apart = λ k net input drives. wired-apart (Known l 0) plan (wired-plan is) k net (inputs-known is net input) drives;
  }

  -- ---- so it is with the plan as it is made

  pub plan-ordered : IsOrdered (plan_of p) nets
  plan-ordered = subst (λ cells. IsOrdered cells nets) (sym (plan-laid is)) ordered

  pub plan-fits : FitPins (plan_of p)
  plan-fits = subst FitPins (sym (plan-laid is)) fits_pins

  pub plan-evaluated : IsEvaluated (length p.inputs) (plan_of p) inputs v
  plan-evaluated = subst (λ cells. IsEvaluated (length p.inputs) cells inputs v) (sym (plan-laid is)) evaluated

-- ---- the nets from which rail 1 of an output is reached through the plan are those that count for it; and they are known

-- a cell reads what stands on its pins
on-pins : (ins : List NetId) (net : ℕ) → Member (record { 0 = net }) ins → is_on ins net ≡ true
on-pins ins net m = list_any-from_member (λ (x : NetId). nat_eq x.0 net) (record { 0 = net }) m (eq-eqb net net refl)

pins-on : (ins : List NetId) (net : ℕ) → is_on ins net ≡ true → Member (record { 0 = net }) ins
pins-on ins net on =
    let (x, m, test) = member_from_list_any (λ (y : NetId). nat_eq y.0 net) ins on in
    subst (λ n. Member (record { 0 = n }) ins) (eqb-true x.0 net test) m

one_net : (x y : NetId) → Some x ≡ Some y → x ≡ y
one_net x y e = same_Some x y e

gate_or_register : (c : Cell) → IsGate c → IsRegister c → ⊥
gate_or_register c (kind, gate) register = both_ways (is_register c.kind) (ap is_register gate) register

-- the last rail of a bank of outputs
one-rail : (r : Rails) (bits : List Rails) → Member r bits → Member r.one.0 (rail_nets bits)
one-rail r bits here = there here
one-rail r bits (there {xs = rest} m) = there (there (one-rail r rest m))

module _ {p : PipelineData} {l : Layout} (is : IsLayoutOf p l) (output : ℕ) (rails : Rails) (at_rails : slice_get p.outputs output ≡ Some rails) where
  abbrev Counts : ℕ → Type 0
  Counts net = NetCounts (circuit_of p) output net

  abbrev Reaching : ℕ → Type 0
  Reaching net = Reaches (laid_plan l) rails.one.0 net

  -- the rail is known in the end
  root-known : Known l l.last rails.one.0
  root-known = (
    l.last,
    omega arith,
    output-known is l.last rails.one.0 (omega arith)
        (subst (λ bits. Member rails.one.0 (rail_nets bits)) (sym is.sink) (one-rail rails p.outputs (Member-from_Contains p.outputs rails (Contains-from_slice_get p.outputs output rails at_rails)))),
  )

  -- so it is a net of the netlist
  pub output-within : rails.one.0 < length p.netlist.nets
  output-within = let (j, le, has) = root-known in is.stage_within j rails.one.0 le has

  -- and so is each net from which it is reached
  reach-known : (net : ℕ) → Reaching net → Known l l.last net
  reach-known net itself = root-known
  reach-known net (reads k e _ at on more) = reads-known is k e at (record { 0 = net }) (pins-on e.ins.items net on)

  -- ---- what reaches it counts

  by-part : (e : DataCell) (net : ℕ) → PlanPart l e → is_on e.ins.items net ≡ true → Counts e.out.0 → Counts net
  by-part e net (planned.of_bank k b r lt within same) on more =
      let (i, c, at, wired) = is.register_at k b r lt within in
      let read : Member (record { 0 = net }) (record { 0 = out_rail l k b r } ∷ []) = subst (λ (d : DataCell). Member (record { 0 = net }) d.ins.items) same (pins-on e.ins.items net on) in
      by_register c net (Contains-from_slice_get p.netlist.cells i c at) wired.register
      (subst (λ (x : NetId). slice_get c.ins.items A ≡ Some x) (one_only (record { 0 = net }) (record { 0 = out_rail l k b r }) read) wired.on_a)
      (subst Counts (ap (λ (d : DataCell). d.out.0) same ∙ sym wired.out) more)
    where
      one_only : (x y : NetId) → Member x (y ∷ []) → y ≡ x
      one_only x y m = elim (member_cases x y [] m) [ inl own ↦ own | inr none ↦ elim none [ ] ]
  by-part e net (planned.of_stage k g le m same) on more =
      let (i, c, at, gate) = is.gate_at k g le m in
      let read : Member (record { 0 = net }) g.ins.items = subst (λ (d : DataCell). Member (record { 0 = net }) d.ins.items) same (pins-on e.ins.items net on) in
      by_gate c net (Contains-from_slice_get p.netlist.cells i c at) (g.kind, gate.kind)
      (Contains-from_Member (record { 0 = net }) (subst (Member (record { 0 = net })) (sym gate.ins) read))
      (subst Counts (ap (λ (d : DataCell). d.out.0) same ∙ sym gate.out) more)

  reach-counts : (net : ℕ) → Reaching net → Counts net
  reach-counts net itself = is_rail rails at_rails
  reach-counts net (reads k e _ at on more) = by-part e net (part-at is k e at) on (reach-counts e.out.0 more)

  -- ---- what counts reaches it

  through : (e : DataCell) (net : ℕ) → Member e (laid_plan l) → is_on e.ins.items net ≡ true → Reaching e.out.0 → Reaching net
  through e net m on more = let (k, at) = slice_get-from_Contains (laid_plan l) e (Contains-from_Member e m) in reads k e net at on more

  -- a cell of a tree isn't reached
  no-tree : (c : Cell) (k : ℕ) → k < l.last → Member c (l.tree k) → Reaching c.out.0 → ⊥
  no-tree c k lt m reach =
      let (j, le, has) = reach-known c.out.0 reach in
      is.apart j k c.out.0 le (omega (arith, lt)) has (subst (Member c.out.0) (sym (is.tree_outputs k lt)) (Member-map net_of c m))

  by-gate : (c : Cell) (net : ℕ) → Part l c → IsGate c → ReadsNet c net → Reaching c.out.0 → Reaching net
  by-gate c net (of_stage k g le m same) gate has reach =
      through (gate_cell g) net (gate-in is k g le m)
      (on-pins g.ins.items net (subst (Member (record { 0 = net })) same.ins (Member-from_Contains c.ins.items (record { 0 = net }) has)))
      (subst Reaching same.out reach)
  by-gate c net (of_bank k b r lt within wired) gate has reach = absurd (gate_or_register c gate wired.register)
  by-gate c net (of_tree k lt m) gate has reach = absurd (no-tree c k lt m reach)

  by-register : (c : Cell) (net : ℕ) → Part l c → IsRegister c → OnPin c A net → Reaching c.out.0 → Reaching net
  by-register c net (of_stage k g le m same) register on reach = absurd (gate_or_register c (g.kind, same.kind) register)
  by-register c net (of_bank k b r lt within wired) register on reach =
      let read = one_net (record { 0 = out_rail l k b r }) (record { 0 = net }) (sym wired.on_a ∙ on) in
      through (register_cell (out_rail l k b r) (in_rail l (suc k) b r)) net (register-in is k b r lt within)
      (on-pins (record { 0 = out_rail l k b r } ∷ []) net (subst (λ (x : NetId). Member x (record { 0 = out_rail l k b r } ∷ [])) read here))
      (subst Reaching wired.out reach)
  by-register c net (of_tree k lt m) register on reach = absurd (no-tree c k lt m reach)

  part : (c : Cell) → IsCell p.netlist c → Part l c
  part c has = let (i, place) = slice_get-from_Contains p.netlist.cells c has in is.part_of i c place

  counts-reach : (net : ℕ) → Counts net → Reaching net
  counts-reach _ (is_rail r at) = let one : r ≡ rails = same_Some r rails (sym at ∙ at_rails) in subst (λ (x : Rails). Reaching x.one.0) (sym one) itself
  counts-reach net (by_gate c _ has gate on more) = by-gate c net (part c has) gate on (counts-reach c.out.0 more)
  counts-reach net (by_register c _ has register on more) = by-register c net (part c has) register on (counts-reach c.out.0 more)

  -- ---- so it is with the plan as it is made

  pub plan-reach : (net : ℕ) → Reaches (plan_of p) rails.one.0 net ↔ NetCounts (circuit_of p) output net
  plan-reach net = subst (λ cells. Reaches cells rails.one.0 net ↔ NetCounts (circuit_of p) output net) (sym (plan-laid is)) (reach-counts net, counts-reach net)

  pub plan-known : (net : ℕ) → NetCounts (circuit_of p) output net → IsKnown (plan_of p) (rail_nets p.inputs) (length (plan_of p)) net
  plan-known net counts =
      subst (λ cells. IsKnown cells (rail_nets p.inputs) (length cells) net) (sym (plan-laid is)) (known-in is net (reach-known net (counts-reach net counts)))
