-- The first stages of a pipeline as one stage: its values are theirs, and it shows an orphan at the inputs that bring one.
use Rattle.ncl_hazard.proofs.Terms.{Base, Bool, Contains-from_slice_get, IsLayoutOf, IsSound, IsStage, Layout, List, Member, Member-append_cases, Member-append_left, Member-from_Contains, Orphan, PipelineData, Rails, Shape, Some, StageCell, StageData, Variant, Without, [], all_data, ap, arith, ascending, at_map, brings, brings_orphan, cases_eq, cells_of, cond, eq-eqb, false, find, find-same, gate-listed, gate_as, holds_at, in_rail, inl, inner_stage, inputs_of, inr, joined, joined_cells, kept_low, least_input, least_word_by, length, map, member_of_map, named_as, names_after, nat_eq, ne_eqb, nets_of, out_of, output_net, outputs_after, outputs_of, rail-listed, rail-no_output, rail-place, rail_at, rail_nets, rails_as, refl, shows, slice_get, stage_nets, subst, suc, sym, val, width, wires_sound, word_at, words_by-ascending, zero, ℕ, ◌&&◌, ◌++◌, ◌+◌, ◌<◌, ◌∙◌, ◌∷◌, ◌≡◌, ◌≢◌, ◌≤◌}
use Rattle.ncl_hazard.proofs.Found.{own_stage, cells_are, word-brought}
use Rattle.ncl_hazard.proofs.JoinedValues.{rail-name, gate-name, values-joined, all_data-joined}
use Rattle.ncl_hazard.proofs.JoinedStage.{has-gate, gate-of, named-net, is-stage}

-- an element after a list, by its place
slice_get-after : {X : Type 0} (xs ys : List X) (place : ℕ) → slice_get (xs ++ ys) (length xs + place) ≡ slice_get ys place
slice_get-after [] ys place = ap (slice_get ys) (let e : 0 + place ≡ place = omega arith in e)
slice_get-after (x ∷ xs) ys place =
    ap (slice_get (x ∷ xs ++ ys)) (let e : suc (length xs) + place ≡ suc (length xs + place) = omega arith in e)
    ∙ slice_get-after xs ys place

module _ (p : PipelineData) (shape : Shape p.netlist p) (l : Layout) (is : IsLayoutOf p l) where
  pub stage-here : (k : ℕ) → k < length p.stages → slice_get p.stages k ≡ Some (l.stage (suc k))
  stage-here k lt = inner_stage p shape k lt ∙ ap Some (sym (own_stage p shape l is k lt))

  pub outputs-are : (k : ℕ) → k ≤ length p.stages → outputs_after p k ≡ (l.stage k).outputs
  outputs-are zero le = sym (is.first_wires.1 ∙ is.source)
  outputs-are (suc k) le = ap outputs_of (stage-here k le)

  -- the stages from the first on, the orphan's the last
  module _ (before : ℕ) (inner : before < length p.stages) where
    abbrev top : ℕ
    top = suc before

    in_last : top ≤ l.last
    in_last = let many = is.as_many in omega (arith, many, inner)

    start_names : (net : ℕ) → names_after p 0 net ≡ net
    start_names net = refl

    next_names : (k : ℕ) → k < top → (net : ℕ) → names_after p (suc k) net ≡ named_as (names_after p k) (l.stage (suc k)).inputs (l.stage k).outputs net
    next_names k lt net =
        ap (λ o. named_as (names_after p k) (inputs_of o) (outputs_after p k) net) (stage-here k (omega (arith, lt, inner)))
        ∙ ap (λ outputs. named_as (names_after p k) (l.stage (suc k)).inputs outputs net) (outputs-are k (omega (arith, lt, inner)))

    more_cells : (k : ℕ) → k < top → joined_cells p (suc k) ≡ joined_cells p k ++ map (gate_as (names_after p (suc k))) (l.stage (suc k)).cells
    more_cells k lt = ap (λ o. joined_cells p k ++ map (gate_as (names_after p (suc k))) (cells_of o)) (stage-here k (omega (arith, lt, inner)))

    abbrev j : StageData
    j = joined p top

    pub outputs-joined : j.outputs ≡ map (rails_as (names_after p top)) (l.stage top).outputs
    outputs-joined = ap (map (rails_as (names_after p top))) (outputs-are top (omega (arith, inner)))

    pub joined-is_stage : IsStage j
    joined-is_stage =
        subst (λ outputs. IsStage (record { number = top; inputs = p.inputs; cells = joined_cells p top; outputs = outputs })) (sym outputs-joined)
        (is-stage is top in_last (names_after p) start_names next_names (cells_are p shape l is) (joined_cells p) refl more_cells top)

    pub joined-named : (k : ℕ) → k ≤ top → (net : ℕ) → Member net (stage_nets l k) → Member (names_after p k net) (nets_of j.inputs j.cells)
    joined-named k le net m = named-net is top in_last (names_after p) start_names next_names (cells_are p shape l is) (joined_cells p) refl more_cells k le top le (omega arith) net m

    -- each net of it is that of a stage, by its name
    pub joined-net : (x : ℕ) → Member x (nets_of j.inputs j.cells) → (k : ℕ) × (net : ℕ) × (k ≤ before) × Member net (stage_nets l (suc k)) × (names_after p (suc k) net ≡ x)
    joined-net x m = elim (Member-append_cases x (rail_nets p.inputs) (map out_of (joined_cells p top)) m) [
      | inl rail ↦
          let (b, r, lb, e) = rail-place p.inputs x rail in
          let outputs : (l.stage 0).outputs ≡ p.inputs = is.first_wires.1 ∙ is.source in
          let joins = is.joined 0 (omega (arith, in_last)) in
          let long = ap (λ (bits : List Rails). length bits) outputs in
          let within : b < width l 1 = omega (arith, lb, joins, long) in
          (0, in_rail l 1 b r, omega arith, rail-listed (l.stage 1) b r within, rail-name is top in_last (names_after p) start_names next_names 0 (omega arith) b r within ∙ ap (λ bits. rail_at bits b r) outputs ∙ sym e)
      | inr out ↦
          let (c, i, e) = member_of_map out_of (joined_cells p top) x out in
          let (k, h, lk, in_k, same) = gate-of is top in_last (names_after p) start_names next_names (cells_are p shape l is) (joined_cells p) refl more_cells top (omega arith) c i in
          of_gate k h lk in_k (ap out_of same ∙ e)
    ]
      where
        of_gate : (k : ℕ) (h : StageCell) → k ≤ top → Member h (l.stage k).cells → out_of h ≡ x → (k : ℕ) × (net : ℕ) × (k ≤ before) × Member net (stage_nets l (suc k)) × (names_after p (suc k) net ≡ x)
        of_gate zero h lk in_k e = absurd (none (subst (Member h) is.first_wires.0 in_k))
          where
            none : Member h [] → ⊥
            none m = elim m [ ]
        of_gate (suc k) h lk in_k e = (k, out_of h, omega (arith, lk), gate-listed (l.stage (suc k)) h in_k, gate-name is top in_last (names_after p) start_names next_names (suc k) (suc k) lk (omega (arith, lk, in_last)) h in_k ∙ e)

    pub joined-gate : (h : StageCell) → Member h (l.stage top).cells → names_after p top (out_of h) ≡ out_of h
    joined-gate h m = gate-name is top in_last (names_after p) start_names next_names top top (omega arith) in_last h m

    pub joined-at : (place : ℕ) (g : StageCell) → slice_get (l.stage top).cells place ≡ Some g → slice_get j.cells (length (joined_cells p before) + place) ≡ Some (gate_as (names_after p top) g)
    joined-at place g at =
        ap (λ cells. slice_get cells (length (joined_cells p before) + place)) (more_cells before (omega arith))
        ∙ slice_get-after (joined_cells p before) (map (gate_as (names_after p top)) (l.stage top).cells) place
        ∙ at_map (gate_as (names_after p top)) (l.stage top).cells place g at

    has : (k : ℕ) → k ≤ top → (g : StageCell) → Member g (l.stage k).cells → Member (gate_as (names_after p k) g) j.cells
    has k le g m = has-gate is top in_last (names_after p) start_names next_names (cells_are p shape l is) (joined_cells p) refl more_cells top (omega arith) k le g m

    module _ (sounds : (k : ℕ) (t : StageData) → k < before → slice_get p.stages k ≡ Some t → IsSound t) (word : List Bool) (wide : length word ≡ length p.inputs) where
      sound : (k : ℕ) → k < top → IsSound (l.stage k)
      sound zero lt = wires_sound (l.stage 0) (is.is_stage 0 (omega arith)) is.first_wires.0 is.first_wires.1
      sound (suc k) lt = sounds k (l.stage (suc k)) (omega (arith, lt)) (stage-here k (omega (arith, lt, inner)))

      -- under Base
      pub values-base : (k : ℕ) → k ≤ top → (net : ℕ) → Member net (stage_nets l k) → val j word Base (names_after p k net) ≡ val (l.stage k) (word_at l word k) Base net
      values-base =
          values-joined is top in_last (names_after p) start_names next_names word wide sound j joined-is_stage refl has Base (λ k. Base)
          (λ k lt. refl) (λ net m. refl) (λ k le net m. refl) (λ k le g m. refl)

      -- and without the cell
      module _ (place : ℕ) (g : StageCell) (at : slice_get (l.stage top).cells place ≡ Some g) where
        abbrev place_j : ℕ
        place_j = length (joined_cells p before) + place

        at_j : slice_get j.cells place_j ≡ Some (gate_as (names_after p top) g)
        at_j = joined-at place g at

        g_in : Member g (l.stage top).cells
        g_in = Member-from_Contains (l.stage top).cells g (Contains-from_slice_get (l.stage top).cells place g at)

        abbrev variant : ℕ → Variant
        variant k = cond (nat_eq k top) (Without place) Base

        low_j : (net : ℕ) → kept_low j (Without place_j) net ≡ nat_eq net (out_of g)
        low_j net = ap (λ o. output_net o net) at_j

        low_top : (net : ℕ) → kept_low (l.stage top) (variant top) net ≡ nat_eq net (out_of g)
        low_top net = ap (λ b. kept_low (l.stage top) (cond b (Without place) Base) net) (eq-eqb top top refl) ∙ ap (λ o. output_net o net) at

        low_before : (k : ℕ) → k ≢ top → (net : ℕ) → kept_low (l.stage k) (variant k) net ≡ false
        low_before k apart net = ap (λ b. kept_low (l.stage k) (cond b (Without place) Base) net) (ne_eqb k top apart)

        -- a net of another stage isn't the cell's, nor is a rail
        apart_stage : (k : ℕ) → k ≤ l.last → k ≢ top → (net : ℕ) → Member net (stage_nets l k) → nat_eq net (out_of g) ≡ false
        apart_stage k lk apart net m = ne_eqb net (out_of g) (λ e. apart (is.stages_apart k top net lk in_last m (subst (λ x. Member x (stage_nets l top)) (sym e) (gate-listed (l.stage top) g g_in))))

        apart_rail : (k : ℕ) → k ≤ l.last → (net : ℕ) → Member net (rail_nets (l.stage k).inputs) → nat_eq net (out_of g) ≡ false
        apart_rail k lk net m = elim (cases_eq k top) [
          | inl e ↦ ne_eqb net (out_of g) (λ same. rail-no_output (l.stage top) (is.is_stage top in_last) net (subst (λ x. Member net (rail_nets (l.stage x).inputs)) e m) g g_in (sym same))
          | inr apart ↦ apart_stage k lk apart net (Member-append_left net (map out_of (l.stage k).cells) m)
        ]

        base_before : (k : ℕ) → k < top → variant k ≡ Base
        base_before k lt = ap (λ b. cond b (Without place) Base) (ne_eqb k top (λ e. absurd (omega (arith, e, lt))))

        first_rails : (net : ℕ) → Member net (rail_nets j.inputs) → kept_low j (Without place_j) net ≡ false
        first_rails net m = low_j net ∙ apart_rail 0 (omega arith) net (subst (λ bits. Member net (rail_nets bits)) (sym is.source) m)

        later_rails : (k : ℕ) → k ≤ top → (net : ℕ) → Member net (rail_nets (l.stage k).inputs) → kept_low (l.stage k) (variant k) net ≡ false
        later_rails k le net m = elim (cases_eq k top) [
          | inl e ↦ subst (λ x. kept_low (l.stage x) (variant x) net ≡ false) (sym e) (low_top net ∙ apart_rail k (omega (arith, le, in_last)) net m)
          | inr apart ↦ low_before k apart net
        ]

        same_gates : (k : ℕ) → k ≤ top → (c : StageCell) → Member c (l.stage k).cells → kept_low j (Without place_j) (out_of c) ≡ kept_low (l.stage k) (variant k) (out_of c)
        same_gates k le c m = elim (cases_eq k top) [
          | inl e ↦ subst (λ x. kept_low j (Without place_j) (out_of c) ≡ kept_low (l.stage x) (variant x) (out_of c)) (sym e) (low_j (out_of c) ∙ sym (low_top (out_of c)))
          | inr apart ↦ low_j (out_of c) ∙ apart_stage k (omega (arith, le, in_last)) apart (out_of c) (gate-listed (l.stage k) c m) ∙ sym (low_before k apart (out_of c))
        ]

        pub values-without : (k : ℕ) → k ≤ top → (net : ℕ) → Member net (stage_nets l k) → val j word (Without place_j) (names_after p k net) ≡ val (l.stage k) (word_at l word k) (variant k) net
        values-without =
            values-joined is top in_last (names_after p) start_names next_names word wide sound j joined-is_stage refl has (Without place_j) variant
            base_before first_rails later_rails same_gates

        high-same : val j word Base (out_of g) ≡ val (l.stage top) (word_at l word top) Base (out_of g)
        high-same =
            ap (val j word Base) (sym (gate-name is top in_last (names_after p) start_names next_names top top (omega arith) in_last g g_in))
            ∙ values-base top (omega arith) (out_of g) (gate-listed (l.stage top) g g_in)

        data-same : all_data j (val j word (Without place_j)) ≡ all_data (l.stage top) (val (l.stage top) (word_at l word top) (Without place))
        data-same =
            all_data-joined is top in_last (names_after p) start_names next_names word wide sound j joined-is_stage refl has (Without place_j) variant
            base_before first_rails later_rails same_gates
            outputs-joined
            ∙ ap (λ b. all_data (l.stage top) (val (l.stage top) (word_at l word top) (cond b (Without place) Base))) (eq-eqb top top refl)

        -- it shows the orphan where the stage does, at the word that is brought
        pub shows-joined : shows j word (Orphan place_j) ≡ shows (l.stage top) (brings p.stages before word) (Orphan place)
        shows-joined =
            ap (holds_at (λ (c : StageCell). val j word Base c.out.0 && all_data j (val j word (Without place_j)))) at_j
            ∙ ap (λ b. b && all_data j (val j word (Without place_j))) high-same
            ∙ ap (λ b. val (l.stage top) (word_at l word top) Base (out_of g) && b) data-same
            ∙ sym (ap (holds_at (λ (c : StageCell). val (l.stage top) (word_at l word top) Base c.out.0 && all_data (l.stage top) (val (l.stage top) (word_at l word top) (Without place)))) at)
            ∙ ap (λ w. shows (l.stage top) w (Orphan place)) (word-brought p shape l is word wide before (omega (arith, inner)))

    -- so the least word of the joined stage is the least input
    pub least-joined : ((k : ℕ) (t : StageData) → k < before → slice_get p.stages k ≡ Some t → IsSound t) → (place : ℕ) (g : StageCell) → slice_get (l.stage top).cells place ≡ Some g
        → least_word_by (ascending j) j (Orphan (length (joined_cells p before) + place)) ≡ least_input p before (l.stage top) place
    least-joined sounds place g at =
        ap (find (λ word. shows j word (Orphan (length (joined_cells p before) + place)))) (words_by-ascending (length p.inputs))
        ∙ find-same (length p.inputs) (λ word. shows j word (Orphan (length (joined_cells p before) + place))) (brings_orphan p before (l.stage top) place)
        (λ word wide. shows-joined sounds word wide place g at)
