-- Stages that are joined are a stage.
use Rattle.ncl_hazard.proofs.Terms.{All, All-contains, All-from_members, AllPairs, AllPairs-append, AllPairs-cons, Cell, CellAt, Contains, Contains-from_Member, IsInOrder, IsLayoutOf, IsStage, Layout, List, MOST_BITS, Member, Member-append_cases, Member-append_left, Member-append_right, Member-from_Contains, Member-map, Names, NetId, PipelineData, Rails, Reads, StageCell, [], ap, append-nil, append_assoc, arith, arity_of, cases_eq, gate-listed, gate_as, here, inl, inr, left-differ, length, length-map, map, map-append, member_of_map, named_as, net_as, nets_of, out-listed, out_of, out_rail, pairs-head, pairs-tail, rail-place, rail_nets, rails_as, refl, right-differ, stage_nets, subst, suc, sym, there, zero, ℕ, ◌++◌, ◌<◌, ◌∙◌, ◌∷◌, ◌≡◌, ◌≢◌, ◌≤◌, ◌⊎◌}
use Rattle.ncl_hazard.proofs.StageSweeps.{AreCellsOf}
use Rattle.ncl_hazard.proofs.JoinedValues.{rail-name, gate-name}

pairs-map : {X Y : Type 0} (R : Y → Y → Type 0) (f : X → Y) (xs : List X) → AllPairs (λ a b. R (f a) (f b)) xs → AllPairs R (map f xs)
pairs-map R f [] pairs = λ i j d before within. absurd (omega (arith, within))
pairs-map R f (x ∷ xs) pairs =
    AllPairs-cons R (f x) (map f xs)
    (All-from_members (R (f x)) (map f xs) (λ y m. let (z, n, e) = member_of_map f xs y m in subst (R (f x)) e (pairs-head (λ a b. R (f a) (f b)) x xs pairs z n)))
    (pairs-map R f xs (pairs-tail (λ a b. R (f a) (f b)) x xs pairs))

-- where an element stands in two lists one after another
split-append : {X : Type 0} (xs ys before after : List X) (c : X) → xs ++ ys ≡ before ++ c ∷ after
    → ((rest : List X) × (xs ≡ before ++ c ∷ rest)) ⊎ ((more : List X) × (before ≡ xs ++ more) × (ys ≡ more ++ c ∷ after))
split-append [] ys before after c e = inr (before, refl, e)
split-append (x ∷ xs) ys [] after c e = let same : x ≡ c = cc in inl (xs, ap (λ y. y ∷ xs) same)
split-append (x ∷ xs) ys (b ∷ before) after c e =
    let same : x ≡ b = cc in
    let rest : xs ++ ys ≡ before ++ c ∷ after = cc in
    elim (split-append xs ys before after c rest) [
      | inl (others, parts) ↦ inl (others, (λ i. same i ∷ parts i))
      | inr (more, front, back) ↦ inr (more, (λ i. sym same i ∷ front i), back)
    ]

split-map : {X Y : Type 0} (f : X → Y) (xs : List X) (before after : List Y) (c : Y) → map f xs ≡ before ++ c ∷ after
    → (front : List X) × (x : X) × (back : List X) × (xs ≡ front ++ x ∷ back) × (before ≡ map f front) × (f x ≡ c)
split-map f [] [] after c e = absurd cc
split-map f [] (b ∷ before) after c e = absurd cc
split-map f (x ∷ xs) [] after c e = let same : f x ≡ c = cc in ([], x, xs, refl, refl, same)
split-map f (x ∷ xs) (b ∷ before) after c e =
    let same : f x ≡ b = cc in
    let rest : map f xs ≡ before ++ c ∷ after = cc in
    let (front, y, back, parts, fronts, at) = split-map f xs before after c rest in
    (x ∷ front, y, back, ap (λ zs. x ∷ zs) parts, (λ i. sym same i ∷ fronts i), at)

outs-same : (names : Names) (gates : List StageCell) → map out_of (map (gate_as names) gates) ≡ map out_of gates
outs-same names [] = refl
outs-same names (g ∷ gates) = ap (λ xs. out_of g ∷ xs) (outs-same names gates)

module _ {p : PipelineData} {l : Layout} (is : IsLayoutOf p l) (top : ℕ) (in_last : top ≤ l.last) (names : ℕ → Names) (start_names : (net : ℕ) → names 0 net ≡ net)
    (next_names : (k : ℕ) → k < top → (net : ℕ) → names (suc k) net ≡ named_as (names k) (l.stage (suc k)).inputs (l.stage k).outputs net)
    (at_cells : (k : ℕ) → k ≤ l.last → AreCellsOf p (l.stage k))
    (cells : ℕ → List StageCell) (no_cells : cells 0 ≡ []) (more_cells : (k : ℕ) → k < top → cells (suc k) ≡ cells k ++ map (gate_as (names (suc k))) (l.stage (suc k)).cells) where
  -- the nets of the first stages
  abbrev pub nets : ℕ → List ℕ
  nets k = nets_of p.inputs (cells k)

  -- ---- what the cells are

  pub has-gate : (t : ℕ) → t ≤ top → (k : ℕ) → k ≤ t → (g : StageCell) → Member g (l.stage k).cells → Member (gate_as (names k) g) (cells t)
  has-gate zero le k lk g m = absurd (none (subst (Member g) is.first_wires.0 (subst (λ x. Member g (l.stage x).cells) (let e : k ≡ 0 = omega (arith, lk) in e) m)))
    where
      none : Member g [] → ⊥
      none m = elim m [ ]
  has-gate (suc t) le k lk g m = subst (Member (gate_as (names k) g)) (sym (more_cells t le)) (elim (cases_eq k (suc t)) [
    | inl e ↦
        subst (λ x. Member g (l.stage x).cells → Member (gate_as (names x) g) (cells t ++ map (gate_as (names (suc t))) (l.stage (suc t)).cells)) (sym e)
        (λ n. Member-append_right (cells t) (gate_as (names (suc t)) g) (Member-map (gate_as (names (suc t))) g n)) m
    | inr apart ↦ Member-append_left (gate_as (names k) g) (map (gate_as (names (suc t))) (l.stage (suc t)).cells) (has-gate t (omega (arith, le)) k (omega (arith, lk, apart)) g m)
  ])

  pub gate-of : (t : ℕ) → t ≤ top → (c : StageCell) → Member c (cells t) → (k : ℕ) × (g : StageCell) × (k ≤ t) × Member g (l.stage k).cells × (gate_as (names k) g ≡ c)
  gate-of zero le c m = absurd (none (subst (Member c) no_cells m))
    where
      none : Member c [] → ⊥
      none m = elim m [ ]
  gate-of (suc t) le c m = elim (Member-append_cases c (cells t) (map (gate_as (names (suc t))) (l.stage (suc t)).cells) (subst (Member c) (more_cells t le) m)) [
    | inl before ↦ let (k, g, lk, n, e) = gate-of t (omega (arith, le)) c before in (k, g, omega (arith, lk), n, e)
    | inr now ↦ let (g, n, e) = member_of_map (gate_as (names (suc t))) (l.stage (suc t)).cells c now in (suc t, g, omega arith, n, e)
  ]

  -- ---- what the nets are

  -- each net of the first stages, by its name
  named-out : (k : ℕ) → k ≤ top → (t : ℕ) → k ≤ t → t ≤ top → (net : ℕ) → Member net (map out_of (l.stage k).cells) → Member (names k net) (nets t)
  named-out k lk t kt lt net out =
      let (g, n, e) = member_of_map out_of (l.stage k).cells net out in
      subst (λ x. Member (names k x) (nets t)) e
      (subst (λ x. Member x (nets t)) (sym (gate-name is top in_last names start_names next_names k k lk (omega (arith, lk, in_last)) g n))
      (Member-append_right (rail_nets p.inputs) (out_of g) (Member-map out_of (gate_as (names k) g) (has-gate t lt k kt g n))))

  pub named-net : (k : ℕ) → k ≤ top → (t : ℕ) → k ≤ t → t ≤ top → (net : ℕ) → Member net (stage_nets l k) → Member (names k net) (nets t)
  named-net zero lk t kt lt net m = elim (Member-append_cases net (rail_nets (l.stage 0).inputs) (map out_of (l.stage 0).cells) m) [
    | inl rail ↦ subst (λ x. Member x (nets t)) (sym (start_names net)) (Member-append_left net (map out_of (cells t)) (subst (λ bits. Member net (rail_nets bits)) is.source rail))
    | inr out ↦ named-out 0 lk t kt lt net out
  ]
  named-net (suc k) lk t kt lt net m = elim (Member-append_cases net (rail_nets (l.stage (suc k)).inputs) (map out_of (l.stage (suc k)).cells) m) [
    | inl rail ↦
        let (b, r, lb, e) = rail-place (l.stage (suc k)).inputs net rail in
        subst (λ x. Member (names (suc k) x) (nets t)) (sym e)
        (subst (λ x. Member x (nets t)) (sym (rail-name is top in_last names start_names next_names k lk b r lb))
        (named-net k (omega (arith, lk)) t (omega (arith, kt)) lt (out_rail l k b r) (out-listed is k b r (omega (arith, lk, in_last)) lb)))
    | inr out ↦ named-out (suc k) lk t kt lt net out
  ]

  -- each is a net of one of the first stages
  pub net-of : (t : ℕ) → t ≤ top → (net : ℕ) → Member net (nets t) → (k : ℕ) × (k ≤ t) × Member net (stage_nets l k)
  net-of t le net m = elim (Member-append_cases net (rail_nets p.inputs) (map out_of (cells t)) m) [
    | inl rail ↦ (0, omega arith, Member-append_left net (map out_of (l.stage 0).cells) (subst (λ bits. Member net (rail_nets bits)) (sym is.source) rail))
    | inr out ↦
        let (c, n, e) = member_of_map out_of (cells t) net out in
        let (k, g, lk, in_k, same) = gate-of t le c n in
        (k, lk, subst (λ x. Member x (stage_nets l k)) (ap out_of same ∙ e) (gate-listed (l.stage k) g in_k))
  ]

  nets_more : (t : ℕ) → t < top → nets (suc t) ≡ nets t ++ map out_of (l.stage (suc t)).cells
  nets_more t lt =
      ap (λ xs. rail_nets p.inputs ++ map out_of xs) (more_cells t lt)
      ∙ ap (λ xs. rail_nets p.inputs ++ xs) (map-append out_of (cells t) (map (gate_as (names (suc t))) (l.stage (suc t)).cells) ∙ ap (λ xs. map out_of (cells t) ++ xs) (outs-same (names (suc t)) (l.stage (suc t)).cells))
      ∙ sym (append_assoc (rail_nets p.inputs) (map out_of (cells t)) (map out_of (l.stage (suc t)).cells))

  pub nets-differ : (t : ℕ) → t ≤ top → AllPairs (λ x y. x ≢ y) (nets t)
  nets-differ zero le =
      subst (λ xs. AllPairs (λ x y. x ≢ y) (rail_nets p.inputs ++ map out_of xs)) (sym no_cells)
      (subst (λ xs. AllPairs (λ x y. x ≢ y) xs) (sym (append-nil (rail_nets p.inputs)))
      (subst (λ bits. AllPairs (λ x y. x ≢ y) (rail_nets bits)) is.source (left-differ (rail_nets (l.stage 0).inputs) (map out_of (l.stage 0).cells) (is.is_stage 0 (omega arith)).nets_differ)))
  nets-differ (suc t) le =
      subst (λ xs. AllPairs (λ x y. x ≢ y) xs) (sym (nets_more t le))
      (AllPairs-append (λ x y. x ≢ y) (nets t) (map out_of (l.stage (suc t)).cells) (nets-differ t (omega (arith, le)))
      (right-differ (rail_nets (l.stage (suc t)).inputs) (map out_of (l.stage (suc t)).cells) (is.is_stage (suc t) (omega (arith, le, in_last))).nets_differ)
      (λ x y in_x in_y e.
      let (k, lk, m) = net-of t (omega (arith, le)) x in_x in
      let same : k ≡ suc t = is.stages_apart k (suc t) x (omega (arith, lk, le, in_last)) (omega (arith, le, in_last)) m (Member-append_right (rail_nets (l.stage (suc t)).inputs) x (subst (λ z. Member z (map out_of (l.stage (suc t)).cells)) (sym e) in_y)) in
      absurd (omega (arith, same, lk))))

  -- gates with one number drive one net
  one_out : (j k : ℕ) → j ≤ l.last → k ≤ l.last → (g h : StageCell) → Member g (l.stage j).cells → Member h (l.stage k).cells → g.cell.0 ≡ h.cell.0 → out_of g ≡ out_of h
  one_out j k lj lk g h m n e =
      let (c, at_c, same_c) = at_cells j lj g m in
      let (d, at_d, same_d) = at_cells k lk h n in
      let moved : CellAt p.netlist h.cell.0 c = subst (λ x. CellAt p.netlist x c) e at_c in
      let one : c ≡ d = cc in
      sym same_c.out ∙ ap (λ (x : Cell). x.out.0) one ∙ same_d.out

  abbrev Apart : StageCell → StageCell → Type 0
  Apart x y = x.cell.0 ≢ y.cell.0

  pub cells-differ : (t : ℕ) → t ≤ top → AllPairs (λ (x y : StageCell). x.cell.0 ≢ y.cell.0) (cells t)
  cells-differ zero le = subst (AllPairs (λ (x y : StageCell). x.cell.0 ≢ y.cell.0)) (sym no_cells) (λ i j d before within. absurd (omega (arith, within)))
  cells-differ (suc t) le =
      subst (AllPairs (λ (x y : StageCell). x.cell.0 ≢ y.cell.0)) (sym (more_cells t le))
      (AllPairs-append (λ (x y : StageCell). x.cell.0 ≢ y.cell.0) (cells t) (map (gate_as (names (suc t))) (l.stage (suc t)).cells) (cells-differ t (omega (arith, le)))
      (pairs-map (λ (x y : StageCell). x.cell.0 ≢ y.cell.0) (gate_as (names (suc t))) (l.stage (suc t)).cells (is.is_stage (suc t) (omega (arith, le, in_last))).cells_differ)
      (λ x y in_x in_y e.
      let (k, g, lk, m, same_g) = gate-of t (omega (arith, le)) x in_x in
      let (h, n, same_h) = member_of_map (gate_as (names (suc t))) (l.stage (suc t)).cells y in_y in
      let ids : g.cell.0 ≡ h.cell.0 = ap (λ (z : StageCell). z.cell.0) same_g ∙ e ∙ sym (ap (λ (z : StageCell). z.cell.0) same_h) in
      let outs = one_out k (suc t) (omega (arith, lk, le, in_last)) (omega (arith, le, in_last)) g h m n ids in
      let same : k ≡ suc t = is.stages_apart k (suc t) (out_of g) (omega (arith, lk, le, in_last)) (omega (arith, le, in_last)) (gate-listed (l.stage k) g m) (subst (λ z. Member z (stage_nets l (suc t))) (sym outs) (gate-listed (l.stage (suc t)) h n)) in
      absurd (omega (arith, same, lk))))

  pub arities : (t : ℕ) → t ≤ top → All (λ (c : StageCell). length c.ins.items ≡ arity_of c.kind) (cells t)
  arities t le = All-from_members (λ (c : StageCell). length c.ins.items ≡ arity_of c.kind) (cells t) (λ c m.
      let (k, g, lk, n, same) = gate-of t le c m in
      let own = All-contains (λ (c : StageCell). length c.ins.items ≡ arity_of c.kind) (l.stage k).cells g (is.is_stage k (omega (arith, lk, le, in_last))).arities (Contains-from_Member g n) in
      subst (λ (c : StageCell). length c.ins.items ≡ arity_of c.kind) same (length-map g.ins.items (net_as (names k)) ∙ own))

  pub in-order : (t : ℕ) → t ≤ top → IsInOrder p.inputs (cells t)
  in-order zero le before after c parts = absurd (none before (sym no_cells ∙ parts))
    where
      none : (before : List StageCell) → [] ≡ before ++ c ∷ after → ⊥
      none [] e = absurd cc
      none (b ∷ before) e = absurd cc
  in-order (suc t) le before after c parts = elim (split-append (cells t) (map (gate_as (names (suc t))) (l.stage (suc t)).cells) before after c (sym (more_cells t le) ∙ parts)) [
    | inl (rest, front) ↦ in-order t (omega (arith, le)) before rest c front
    | inr (more, front, back) ↦
        let (gates, g, others, own, same_front, same) = split-map (gate_as (names (suc t))) (l.stage (suc t)).cells more after c back in
        let reads = (is.is_stage (suc t) lt).in_order gates others g own in
        subst (λ (x : StageCell). Reads (nets_of p.inputs before) x) same
        (All-from_members (λ (x : NetId). Contains (nets_of p.inputs before) x.0) (map (net_as (names (suc t))) g.ins.items) (λ x m.
        let (y, n, e) = member_of_map (net_as (names (suc t))) g.ins.items x m in
        let known = Member-from_Contains (nets_of (l.stage (suc t)).inputs gates) y.0 (All-contains (λ (z : NetId). Contains (nets_of (l.stage (suc t)).inputs gates) z.0) g.ins.items y reads (Contains-from_Member y n)) in
        Contains-from_Member x.0 (subst (λ z. Member z (nets_of p.inputs before)) (ap (λ (z : NetId). z.0) e)
        (subst (λ xs. Member (names (suc t) y.0) (nets_of p.inputs xs)) (sym (front ∙ ap (λ xs. cells t ++ xs) same_front)) (name_before gates others g own y.0 known)))))
  ]
    where
      lt : suc t ≤ l.last
      lt = omega (arith, le, in_last)

      name_before : (gates others : List StageCell) (g : StageCell) → (l.stage (suc t)).cells ≡ gates ++ g ∷ others → (net : ℕ) → Member net (nets_of (l.stage (suc t)).inputs gates) → Member (names (suc t) net) (nets_of p.inputs (cells t ++ map (gate_as (names (suc t))) gates))
      name_before gates others g own net m = elim (Member-append_cases net (rail_nets (l.stage (suc t)).inputs) (map out_of gates) m) [
        | inl rail ↦
            let (b, r, lb, e) = rail-place (l.stage (suc t)).inputs net rail in
            let before = named-net t (omega (arith, le)) t (omega arith) (omega (arith, le)) (out_rail l t b r) (out-listed is t b r lt lb) in
            subst (λ x. Member (names (suc t) x) (nets_of p.inputs (cells t ++ map (gate_as (names (suc t))) gates))) (sym e)
            (subst (λ x. Member x (nets_of p.inputs (cells t ++ map (gate_as (names (suc t))) gates))) (sym (rail-name is top in_last names start_names next_names t le b r lb))
            (widen (names t (out_rail l t b r)) before))
        | inr out ↦
            let (h, n, e) = member_of_map out_of gates net out in
            let in_stage : Member h (l.stage (suc t)).cells = subst (Member h) (sym own) (Member-append_left h (g ∷ others) n) in
            subst (λ x. Member (names (suc t) x) (nets_of p.inputs (cells t ++ map (gate_as (names (suc t))) gates))) e
            (subst (λ x. Member x (nets_of p.inputs (cells t ++ map (gate_as (names (suc t))) gates))) (sym (gate-name is top in_last names start_names next_names (suc t) (suc t) le lt h in_stage))
            (Member-append_right (rail_nets p.inputs) (out_of h) (Member-map out_of (gate_as (names (suc t)) h) (Member-append_right (cells t) (gate_as (names (suc t)) h) (Member-map (gate_as (names (suc t))) h n)))))
      ]
        where
          widen : (x : ℕ) → Member x (nets_of p.inputs (cells t)) → Member x (nets_of p.inputs (cells t ++ map (gate_as (names (suc t))) gates))
          widen x k = elim (Member-append_cases x (rail_nets p.inputs) (map out_of (cells t)) k) [
            | inl source ↦ Member-append_left x (map out_of (cells t ++ map (gate_as (names (suc t))) gates)) source
            | inr driven ↦
                let (d, i, e) = member_of_map out_of (cells t) x driven in
                subst (λ z. Member z (nets_of p.inputs (cells t ++ map (gate_as (names (suc t))) gates))) e
                (Member-append_right (rail_nets p.inputs) (out_of d) (Member-map out_of d (Member-append_left d (map (gate_as (names (suc t))) gates) i)))
          ]

  output_rails : (bits : List Rails) (net : ℕ) → Member net (rail_nets (map (rails_as (names top)) bits)) → (x : ℕ) × Member x (rail_nets bits) × (names top x ≡ net)
  output_rails [] net m = elim m [ ]
  output_rails (r ∷ bits) net here = (r.zero.0, here, refl)
  output_rails (r ∷ bits) net (there here) = (r.one.0, there here, refl)
  output_rails (r ∷ bits) net (there (there m)) = let (x, n, e) = output_rails bits net m in (x, there (there n), e)

  -- so they are a stage
  pub is-stage : (number : ℕ) → IsStage (record { number = number; inputs = p.inputs; cells = cells top; outputs = map (rails_as (names top)) (l.stage top).outputs })
  is-stage number = record {
    some_inputs = subst (λ (bits : List Rails). 1 ≤ length bits) is.source (is.is_stage 0 (omega arith)).some_inputs;
    few_inputs = subst (λ (bits : List Rails). length bits ≤ MOST_BITS) is.source (is.is_stage 0 (omega arith)).few_inputs;
    some_outputs = let same = length-map (l.stage top).outputs (rails_as (names top)) in let some = (is.is_stage top in_last).some_outputs in omega (arith, same, some);
    few_outputs = subst (λ n. n ≤ MOST_BITS) (sym (length-map (l.stage top).outputs (rails_as (names top)))) (is.is_stage top in_last).few_outputs;
    nets_differ = nets-differ top (omega arith);
    cells_differ = cells-differ top (omega arith);
    arities = arities top (omega arith);
    in_order = in-order top (omega arith);
    outputs_known = All-from_members (Contains (nets top)) (rail_nets (map (rails_as (names top)) (l.stage top).outputs)) (λ net m.
        let (x, n, e) = output_rails (l.stage top).outputs net m in
        let known = Member-from_Contains (stage_nets l top) x (All-contains (λ z. Contains (stage_nets l top) z) (rail_nets (l.stage top).outputs) x (is.is_stage top in_last).outputs_known (Contains-from_Member x n)) in
        Contains-from_Member net (subst (λ z. Member z (nets top)) e (named-net top (omega arith) top (omega arith) (omega arith) x known)));
  }
