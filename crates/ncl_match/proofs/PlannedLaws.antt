-- What a plan is, cell by cell, and how it is wired.
pub use Rattle.ncl_match.proofs.Terms.{[], All-contains, AllPairs, Bool, Contains, Contains-from_Member, Contains-from_slice_get, DataCell, Drives, IsKnown, IsLayoutOf, IsStage, Layout, List, Member, Member-append_cases, Member-append_left, Member-append_right, Member-from_Contains, Member-map, NetId, PipelineData, Rails, Some, StageCell, StageData, ap, append-nil, append_assoc, arith, bank_cells, before_at, cases_eq, false, gate_cell, gathered, get_or, here, in_rail, inl, inr, laid_out_of, left-differ, length, map, map-append, member_cases, member_of_map, nets_of, out_of, out_rail, outputs_at, pairs-head, pairs-tail, parts-differ, plan_of, plan_turn, rail_at, rail_nets, refl, register_cell, register_cells, right-differ, same_Some, slice_get, slice_get-from_Contains, slice_get-some, slice_get_read, slice_get_within, stage_nets, subst, suc, sym, there, true, width, zero, ℕ, ◌++◌, ◌+◌, ◌<◌, ◌∙◌, ◌∷◌, ◌≡◌, ◌≢◌, ◌≤◌, ◌⊎◌}

-- ---- lists of cells each of which reads only nets that are known before it, and drives a net that isn't

-- one net more is known
abbrev pub Besides : (ℕ → Type 0) → ℕ → ℕ → Type 0
Besides Known out net = Known net ⊎ (out ≡ net)

-- each cell reads what is known, and drives what isn't, which is known from then on
abbrev pub AreWired : (ℕ → Type 0) → List DataCell → Type 0
AreWired Known [] = Unit {0}
AreWired Known (e ∷ cells) = ((x : NetId) → Member x e.ins.items → Known x.0) × (Known e.out.0 → ⊥) × AreWired (Besides Known e.out.0) cells

-- the nets that they drive
abbrev pub outs : List DataCell → List ℕ
outs cells = map (λ (e : DataCell). e.out.0) cells

besides : (K L : ℕ → Type 0) → ((net : ℕ) → K net → L net) → (out net : ℕ) → Besides K out net → Besides L out net
besides K L to out net (inl known) = inl (to net known)
besides K L to out net (inr own) = inr own

-- it is one thing what is known, however it is said
pub wired-same : (K L : ℕ → Type 0) (cells : List DataCell) → ((net : ℕ) → K net → L net) → ((net : ℕ) → L net → K net) → AreWired K cells → AreWired L cells
wired-same K L [] to from w = tt
wired-same K L (e ∷ cells) to from w = (
  (λ x m. to x.0 (w.0 x m)),
  (λ known. w.1 (from e.out.0 known)),
  wired-same (Besides K e.out.0) (Besides L e.out.0) cells (besides K L to e.out.0) (besides L K from e.out.0) w.2,
)

-- one list after another
pub wired-append : (K : ℕ → Type 0) (xs ys : List DataCell) → AreWired K xs → AreWired (λ net. K net ⊎ Member net (outs xs)) ys → AreWired K (xs ++ ys)
wired-append K [] ys w v = wired-same (λ net. K net ⊎ Member net []) K ys only (λ net known. inl known) v
  where
    only : (net : ℕ) → K net ⊎ Member net [] → K net
    only net (inl known) = known
    only net (inr m) = elim m [ ]
wired-append K (x ∷ xs) ys w v = (
  w.0,
  w.1,
  wired-append (Besides K x.out.0) xs ys w.2
      (wired-same (λ net. K net ⊎ Member net (outs (x ∷ xs))) (λ net. Besides K x.out.0 net ⊎ Member net (outs xs)) ys shift back v),
)
  where
    shift : (net : ℕ) → K net ⊎ Member net (outs (x ∷ xs)) → Besides K x.out.0 net ⊎ Member net (outs xs)
    shift net (inl known) = inl (inl known)
    shift net (inr m) = elim (member_cases net x.out.0 (outs xs) m) [ inl own ↦ inl (inr own) | inr later ↦ inr later ]

    back : (net : ℕ) → Besides K x.out.0 net ⊎ Member net (outs xs) → K net ⊎ Member net (outs (x ∷ xs))
    back net (inl (inl known)) = inl known
    back net (inl (inr own)) = inr (subst (λ n. Member n (outs (x ∷ xs))) own here)
    back net (inr later) = inr (there later)

-- ---- what it says by places

-- what a cell reads is known, or a cell before it drives it
pub wired-in_order : (K : ℕ → Type 0) (cells : List DataCell) → AreWired K cells → (k : ℕ) (e : DataCell) → slice_get cells k ≡ Some e → (x : NetId) → Member x e.ins.items → K x.0 ⊎ ((j : ℕ) × (j < k) × Drives cells j x.0)
wired-in_order K [] w k e at x m = absurd cc
wired-in_order K (f ∷ cells) w zero e at x m = inl (w.0 x (subst (λ (c : DataCell). Member x c.ins.items) (sym (same_Some f e at)) m))
wired-in_order K (f ∷ cells) w (suc k) e at x m =
    elim (wired-in_order (Besides K f.out.0) cells w.2 k e at x m) [
      | inl known ↦ elim known [ inl before ↦ inl before | inr own ↦ inr (0, omega arith, record { cell = f; at = refl; out = own }) ]
      | inr (j, lt, drives) ↦ inr (suc j, omega (arith, lt), record { cell = drives.cell; at = drives.at; out = drives.out })
    ]

-- no cell drives what is known
pub wired-apart : (K : ℕ → Type 0) (cells : List DataCell) → AreWired K cells → (k net : ℕ) → K net → Drives cells k net → ⊥
wired-apart K [] w k net known drives = let at = drives.at in absurd cc
wired-apart K (f ∷ cells) w zero net known drives =
    let same : f ≡ drives.cell = same_Some f drives.cell drives.at in
    w.1 (subst K (sym (ap (λ (c : DataCell). c.out.0) same ∙ drives.out)) known)
wired-apart K (f ∷ cells) w (suc k) net known drives =
    wired-apart (Besides K f.out.0) cells w.2 k net (inl known) (record { cell = drives.cell; at = drives.at; out = drives.out })

-- no two drive one net
pub wired-once : (K : ℕ → Type 0) (cells : List DataCell) → AreWired K cells → (j k net : ℕ) → Drives cells j net → Drives cells k net → j ≡ k
wired-once K [] w j k net first second = let at = first.at in absurd cc
wired-once K (f ∷ cells) w zero zero net first second = refl
wired-once K (f ∷ cells) w zero (suc k) net first second =
    let same : f ≡ first.cell = same_Some f first.cell first.at in
    absurd (wired-apart (Besides K f.out.0) cells w.2 k net (inr (ap (λ (c : DataCell). c.out.0) same ∙ first.out)) (record { cell = second.cell; at = second.at; out = second.out }))
wired-once K (f ∷ cells) w (suc j) zero net first second =
    let same : f ≡ second.cell = same_Some f second.cell second.at in
    absurd (wired-apart (Besides K f.out.0) cells w.2 j net (inr (ap (λ (c : DataCell). c.out.0) same ∙ second.out)) (record { cell = first.cell; at = first.at; out = first.out }))
wired-once K (f ∷ cells) w (suc j) (suc k) net first second =
    ap suc (wired-once (Besides K f.out.0) cells w.2 j k net (record { cell = first.cell; at = first.at; out = first.out }) (record { cell = second.cell; at = second.at; out = second.out }))

-- ---- the cells of a bank and of a stage

abbrev pub AllDiffer : List ℕ → Type 0
AllDiffer nets = AllPairs (λ x y. x ≢ y) nets

one_member : (x y : NetId) → Member x (y ∷ []) → y ≡ x
one_member x y m = elim (member_cases x y [] m) [ inl own ↦ own | inr none ↦ elim none [ ] ]

-- the register cells of a bank
pub wired-registers : (K : ℕ → Type 0) (before bits : List Rails) → ((net : ℕ) → Member net (rail_nets before) → K net) → ((net : ℕ) → Member net (rail_nets bits) → K net → ⊥) → AllDiffer (rail_nets bits) → AreWired K (register_cells before bits)
wired-registers K [] bits reads new differ = tt
wired-registers K (x ∷ before) [] reads new differ = tt
wired-registers K (x ∷ before) (y ∷ bits) reads new differ = (
  (λ a m. subst (λ (b : NetId). K b.0) (one_member a x.zero m) (reads x.zero.0 here)),
  new y.zero.0 here,
  (
    (λ a m. inl (subst (λ (b : NetId). K b.0) (one_member a x.one m) (reads x.one.0 (there here)))),
    second_new,
    wired-registers (Besides (Besides K y.zero.0) y.one.0) before bits (λ net m. inl (inl (reads net (there (there m))))) rest_new (pairs-tail (λ a b. a ≢ b) y.one.0 (rail_nets bits) later),
  ),
)
  where
    later : AllDiffer (y.one.0 ∷ rail_nets bits)
    later = pairs-tail (λ a b. a ≢ b) y.zero.0 (y.one.0 ∷ rail_nets bits) differ

    second_new : Besides K y.zero.0 y.one.0 → ⊥
    second_new (inl known) = new y.one.0 (there here) known
    second_new (inr own) = pairs-head (λ a b. a ≢ b) y.zero.0 (y.one.0 ∷ rail_nets bits) differ y.one.0 here own

    rest_new : (net : ℕ) → Member net (rail_nets bits) → Besides (Besides K y.zero.0) y.one.0 net → ⊥
    rest_new net m (inl (inl known)) = new net (there (there m)) known
    rest_new net m (inl (inr own)) = pairs-head (λ a b. a ≢ b) y.zero.0 (y.one.0 ∷ rail_nets bits) differ net (there m) own
    rest_new net m (inr own) = pairs-head (λ a b. a ≢ b) y.one.0 (rail_nets bits) later net m own

-- the gate cells of a stage
pub wired-gates : (K : ℕ → Type 0) (cells : List StageCell) → AllDiffer (map out_of cells) → ((net : ℕ) → Member net (map out_of cells) → K net → ⊥)
    → ((before after : List StageCell) (g : StageCell) → cells ≡ before ++ g ∷ after → (x : NetId) → Member x g.ins.items → K x.0 ⊎ Member x.0 (map out_of before)) → AreWired K (map gate_cell cells)
wired-gates K [] differ new order = tt
wired-gates K (g ∷ cells) differ new order =
    (first, new (out_of g) here, wired-gates (Besides K (out_of g)) cells (pairs-tail (λ a b. a ≢ b) (out_of g) (map out_of cells) differ) rest_new rest_order)
  where
    first : (x : NetId) → Member x g.ins.items → K x.0
    first x m = elim (order [] cells g refl x m) [ inl known ↦ known | inr none ↦ elim none [ ] ]

    rest_new : (net : ℕ) → Member net (map out_of cells) → Besides K (out_of g) net → ⊥
    rest_new net m (inl known) = new net (there m) known
    rest_new net m (inr own) = pairs-head (λ a b. a ≢ b) (out_of g) (map out_of cells) differ net m own

    rest_order : (before after : List StageCell) (h : StageCell) → cells ≡ before ++ h ∷ after → (x : NetId) → Member x h.ins.items → Besides K (out_of g) x.0 ⊎ Member x.0 (map out_of before)
    rest_order before after h e x m =
        elim (order (g ∷ before) after h (ap (λ l. g ∷ l) e) x m) [
          | inl known ↦ inl (inl known)
          | inr out ↦ elim (member_cases x.0 (out_of g) (map out_of before) out) [ inl own ↦ inl (inr own) | inr later ↦ inr later ]
        ]

-- the nets that they drive
pub outs-registers : (before bits : List Rails) → length before ≡ length bits → outs (register_cells before bits) ≡ rail_nets bits
outs-registers [] [] many = refl
outs-registers [] (y ∷ bits) many = absurd (omega (arith, many))
outs-registers (x ∷ before) [] many = absurd (omega (arith, many))
outs-registers (x ∷ before) (y ∷ bits) many = ap (λ l. y.zero.0 ∷ y.one.0 ∷ l) (outs-registers before bits (omega (arith, many)))

pub outs-gates : (cells : List StageCell) → outs (map gate_cell cells) ≡ map out_of cells
outs-gates [] = refl
outs-gates (g ∷ cells) = ap (λ l. out_of g ∷ l) (outs-gates cells)

-- ---- the plan of a pipeline over its layout: each of its cells is a register cell of a bank or a gate cell of a stage, it has all of these, each net of a stage is known in the end, and no cell reads what isn't known before it

-- the register cells of the bank after stage k, and the gate cells of the stage after that
abbrev pub laid_turn : Layout → ℕ → List DataCell
laid_turn l k = register_cells (l.stage k).outputs (l.stage (suc k)).inputs ++ map gate_cell (l.stage (suc k)).cells

abbrev pub laid_plan : Layout → List DataCell
laid_plan l = gathered (laid_turn l) l.last

-- the nets of the stages up to stage k
abbrev pub Known : Layout → ℕ → ℕ → Type 0
Known l k net = (j : ℕ) × (j ≤ k) × Member net (stage_nets l j)

-- what a cell of the plan is
pub data PlanPart (l : Layout) (e : DataCell) : Type 0 where
  of_bank : (k b : ℕ) (r : Bool) → k < l.last → b < width l (suc k) → e ≡ register_cell (out_rail l k b r) (in_rail l (suc k) b r) → PlanPart l e
  of_stage : (k : ℕ) (g : StageCell) → k ≤ l.last → Member g (l.stage k).cells → e ≡ gate_cell g → PlanPart l e

pub gathered-same : {X : Type 0} (f g : ℕ → List X) (n : ℕ) → ((k : ℕ) → k < n → f k ≡ g k) → gathered f n ≡ gathered g n
gathered-same f g zero same = refl
gathered-same f g (suc n) same =
    let front = gathered-same f g n (λ k lt. same k (omega arith)) in
    let last = same n (omega arith) in
    λ i. front i ++ last i

gathered-member : {X : Type 0} (turn : ℕ → List X) (n : ℕ) (x : X) → Member x (gathered turn n) → (k : ℕ) × (k < n) × Member x (turn k)
gathered-member turn zero x m = elim m [ ]
gathered-member turn (suc n) x m =
    elim (Member-append_cases x (gathered turn n) (turn n) m) [
      | inl front ↦ let (k, lt, has) = gathered-member turn n x front in (k, omega (arith, lt), has)
      | inr last ↦ (n, omega arith, last)
    ]

pub member-gathered : {X : Type 0} (turn : ℕ → List X) (n k : ℕ) (x : X) → k < n → Member x (turn k) → Member x (gathered turn n)
member-gathered turn zero k x lt m = absurd (omega arith)
member-gathered turn (suc n) k x lt m =
    elim (cases_eq k n) [
      | inl own ↦ Member-append_right (gathered turn n) x (subst (λ j. Member x (turn j)) own m)
      | inr before ↦ Member-append_left x (turn n) (member-gathered turn n k x (omega (arith, lt, before)) m)
    ]

-- the register cells of a bank, one by one
register-place : (before bits : List Rails) (e : DataCell) → Member e (register_cells before bits) → (b : ℕ) × (r : Bool) × (b < length bits) × (e ≡ register_cell (rail_at before b r) (rail_at bits b r))
register-place [] bits e m = elim m [ ]
register-place (x ∷ before) [] e m = elim m [ ]
register-place (x ∷ before) (y ∷ bits) e here = (0, false, omega arith, refl)
register-place (x ∷ before) (y ∷ bits) e (there here) = (0, true, omega arith, refl)
register-place (x ∷ before) (y ∷ bits) e (there (there m)) = let (b, r, lt, same) = register-place before bits e m in (suc b, r, omega (arith, lt), same)

register-listed : (before bits : List Rails) (b : ℕ) (r : Bool) → length before ≡ length bits → b < length bits → Member (register_cell (rail_at before b r) (rail_at bits b r)) (register_cells before bits)
register-listed [] [] b r many lt = absurd (omega arith)
register-listed [] (y ∷ bits) b r many lt = absurd (omega (arith, many))
register-listed (x ∷ before) [] b r many lt = absurd (omega (arith, many))
register-listed (x ∷ before) (y ∷ bits) zero false many lt = here
register-listed (x ∷ before) (y ∷ bits) zero true many lt = there here
register-listed (x ∷ before) (y ∷ bits) (suc b) r many lt = there (there (register-listed before bits b r (omega (arith, many)) (omega (arith, lt))))

module _ {p : PipelineData} {l : Layout} (is : IsLayoutOf p l) where
  -- ---- the plan by the stages of the layout

  before-is : (k : ℕ) → k ≤ length p.stages → before_at p k ≡ (l.stage k).outputs
  before-is zero le = sym (is.first_wires.1 ∙ is.source)
  before-is (suc k) le =
      let (s, at) = slice_get-some p.stages k (omega (arith, le)) in
      ap outputs_at at ∙ ap (λ (x : StageData). x.outputs) (sym (is.in_order k s at))

  turn-is : (k : ℕ) → k < length p.stages → plan_turn p k ≡ laid_turn l k
  turn-is k lt =
      let (s, at) = slice_get-some p.stages k lt in
      let first = before-is k (omega (arith, lt)) in
      (λ i. bank_cells (first i) (at i)) ∙ ap (λ (x : StageData). register_cells (l.stage k).outputs x.inputs ++ map gate_cell x.cells) (sym (is.in_order k s at))

  -- a bank reads as many rails as it drives
  pub before-wide : (k : ℕ) (s : StageData) → slice_get p.stages k ≡ Some s → length (before_at p k) ≡ length s.inputs
  before-wide k s at =
      let lt = slice_get_within p.stages k s at in
      let many = is.as_many in
      ap length (before-is k (omega (arith, lt))) ∙ is.joined k (omega (arith, lt, many)) ∙ ap (λ (x : StageData). length x.inputs) (is.in_order k s at)

  ends : p.outputs ≡ (l.stage (suc (length p.stages))).inputs
  ends = subst (λ k. p.outputs ≡ (l.stage k).inputs) is.as_many (sym is.sink ∙ is.last_wires.1)

  pub last-wide : length (before_at p (length p.stages)) ≡ length p.outputs
  last-wide =
      ap length (before-is (length p.stages) (omega arith)) ∙ is.joined (length p.stages) (omega (arith, is.as_many)) ∙ ap length (sym ends)

  pub plan-laid : plan_of p ≡ laid_plan l
  plan-laid =
      let n : ℕ = length p.stages in
      let front = gathered-same (plan_turn p) (laid_turn l) n turn-is in
      let before = before-is n (omega arith) in
      let none : (l.stage (suc n)).cells ≡ [] = subst (λ k. (l.stage k).cells ≡ []) is.as_many is.last_wires.0 in
      let whole : laid_turn l n ≡ register_cells (l.stage n).outputs (l.stage (suc n)).inputs =
      ap (λ cells. register_cells (l.stage n).outputs (l.stage (suc n)).inputs ++ map gate_cell cells) none ∙ append-nil (register_cells (l.stage n).outputs (l.stage (suc n)).inputs) in
      (λ i. front i ++ register_cells (before i) (ends i))
      ∙ ap (λ cells. gathered (laid_turn l) n ++ cells) (sym whole)
      ∙ ap (gathered (laid_turn l)) (sym is.as_many)

  -- ---- what is known

  registers-outs : (k : ℕ) → k < l.last → outs (register_cells (l.stage k).outputs (l.stage (suc k)).inputs) ≡ rail_nets (l.stage (suc k)).inputs
  registers-outs k lt = outs-registers (l.stage k).outputs (l.stage (suc k)).inputs (is.joined k lt)

  outs-turn : (k : ℕ) → k < l.last → outs (laid_turn l k) ≡ stage_nets l (suc k)
  outs-turn k lt =
      let rails = registers-outs k lt in
      let gates = outs-gates (l.stage (suc k)).cells in
      map-append (λ (e : DataCell). e.out.0) (register_cells (l.stage k).outputs (l.stage (suc k)).inputs) (map gate_cell (l.stage (suc k)).cells) ∙ (λ i. rails i ++ gates i)

  outs-more : (n : ℕ) → outs (gathered (laid_turn l) (suc n)) ≡ outs (gathered (laid_turn l) n) ++ outs (laid_turn l n)
  outs-more n = map-append (λ (e : DataCell). e.out.0) (gathered (laid_turn l) n) (laid_turn l n)

  known-outs : (n : ℕ) → n ≤ l.last → (net : ℕ) → Known l n net → Known l 0 net ⊎ Member net (outs (gathered (laid_turn l) n))
  known-outs zero le net known = inl known
  known-outs (suc n) le net (j, within, m) =
      elim (cases_eq j (suc n)) [
        | inl own ↦
            let mine : Member net (outs (laid_turn l n)) = subst (Member net) (sym (outs-turn n le)) (subst (λ i. Member net (stage_nets l i)) own m) in
            inr (subst (Member net) (sym (outs-more n)) (Member-append_right (outs (gathered (laid_turn l) n)) net mine))
        | inr before ↦
            elim (known-outs n (omega (arith, le)) net (j, omega (arith, within, before), m)) [
              | inl first ↦ inl first
              | inr some ↦ inr (subst (Member net) (sym (outs-more n)) (Member-append_left net (outs (laid_turn l n)) some))
            ]
      ]

  outs-known : (n : ℕ) → n ≤ l.last → (net : ℕ) → Known l 0 net ⊎ Member net (outs (gathered (laid_turn l) n)) → Known l n net
  outs-known n le net (inl (j, within, m)) = (j, omega (arith, within), m)
  outs-known zero le net (inr m) = elim m [ ]
  outs-known (suc n) le net (inr m) =
      elim (Member-append_cases net (outs (gathered (laid_turn l) n)) (outs (laid_turn l n)) (subst (Member net) (outs-more n) m)) [
        | inl some ↦ let (j, within, has) = outs-known n (omega (arith, le)) net (inr some) in (j, omega (arith, within), has)
        | inr own ↦ (suc n, omega arith, subst (Member net) (outs-turn n le) own)
      ]

  -- the nets of stage 0 are the rails of the inputs
  pub inputs-known : (net : ℕ) → Contains (rail_nets p.inputs) net → Known l 0 net
  inputs-known net has = (
    0,
    omega arith,
    Member-append_left net (map out_of (l.stage 0).cells) (subst (λ bits. Member net (rail_nets bits)) (sym is.source) (Member-from_Contains (rail_nets p.inputs) net has)),
  )

  pub known-inputs : (net : ℕ) → Known l 0 net → Contains (rail_nets p.inputs) net
  known-inputs net (j, within, m) =
      let first : j ≡ 0 = omega (arith, within) in
      elim (Member-append_cases net (rail_nets (l.stage 0).inputs) (map out_of (l.stage 0).cells) (subst (λ i. Member net (stage_nets l i)) first m)) [
        | inl rail ↦ Contains-from_Member net (subst (λ bits. Member net (rail_nets bits)) is.source rail)
        | inr out ↦ absurd (no_out net (subst (λ cells. Member net (map out_of cells)) is.first_wires.0 out))
      ]
    where
      no_out : (net : ℕ) → Member net [] → ⊥
      no_out net m = elim m [ ]

  pub output-known : (k net : ℕ) → k ≤ l.last → Member net (rail_nets (l.stage k).outputs) → Member net (stage_nets l k)
  output-known k net le m =
      Member-from_Contains (stage_nets l k) net
      (All-contains (λ x. Contains (stage_nets l k) x) (rail_nets (l.stage k).outputs) net (is.is_stage k le).outputs_known (Contains-from_Member net m))

  -- ---- the cells are wired

  module _ (k : ℕ) (lt : k < l.last) where
    abbrev after : StageData
    after = l.stage (suc k)

    abbrev registers : List DataCell
    registers = register_cells (l.stage k).outputs after.inputs

    stage : IsStage after
    stage = is.is_stage (suc k) lt

    new : (net : ℕ) → Member net (stage_nets l (suc k)) → Known l k net → ⊥
    new net m (j, le, has) = let same : suc k ≡ j = is.stages_apart (suc k) j net lt (omega (arith, le, lt)) m has in omega (arith, same, le)

    wired-bank : AreWired (Known l k) registers
    wired-bank =
        wired-registers (Known l k) (l.stage k).outputs after.inputs (λ net m. (k, omega arith, output-known k net (omega (arith, lt)) m))
        (λ net m. new net (Member-append_left net (map out_of after.cells) m)) (left-differ (rail_nets after.inputs) (map out_of after.cells) stage.nets_differ)

    wired-stage : AreWired (λ net. Known l k net ⊎ Member net (outs registers)) (map gate_cell after.cells)
    wired-stage =
        wired-gates (λ net. Known l k net ⊎ Member net (outs registers)) after.cells (right-differ (rail_nets after.inputs) (map out_of after.cells) stage.nets_differ) gate_new order
      where
        gate_new : (net : ℕ) → Member net (map out_of after.cells) → Known l k net ⊎ Member net (outs registers) → ⊥
        gate_new net m (inl known) = new net (Member-append_right (rail_nets after.inputs) net m) known
        gate_new net m (inr rail) = parts-differ net (map out_of after.cells) stage.nets_differ (subst (Member net) (registers-outs k lt) rail) m

        order : (front back : List StageCell) (g : StageCell) → after.cells ≡ front ++ g ∷ back → (x : NetId) → Member x g.ins.items → (Known l k x.0 ⊎ Member x.0 (outs registers)) ⊎ Member x.0 (map out_of front)
        order front back g e x m =
            let has = All-contains (λ (y : NetId). Contains (nets_of after.inputs front) y.0) g.ins.items x (stage.in_order front back g e) (Contains-from_Member x m) in
            elim (Member-append_cases x.0 (rail_nets after.inputs) (map out_of front) (Member-from_Contains (nets_of after.inputs front) x.0 has)) [
              | inl rail ↦ inl (inr (subst (Member x.0) (sym (registers-outs k lt)) rail))
              | inr out ↦ inr out
            ]

    wired-turn : AreWired (Known l k) (laid_turn l k)
    wired-turn = wired-append (Known l k) registers (map gate_cell after.cells) wired-bank wired-stage

  wired-front : (n : ℕ) → n ≤ l.last → AreWired (Known l 0) (gathered (laid_turn l) n)
  wired-front zero le = tt
  wired-front (suc n) le =
      wired-append (Known l 0) (gathered (laid_turn l) n) (laid_turn l n) (wired-front n (omega (arith, le)))
      (wired-same (Known l n) (λ net. Known l 0 net ⊎ Member net (outs (gathered (laid_turn l) n))) (laid_turn l n) (known-outs n (omega (arith, le))) (outs-known n (omega (arith, le))) (wired-turn n le))

  pub wired-plan : AreWired (Known l 0) (laid_plan l)
  wired-plan = wired-front l.last (omega arith)

  -- ---- its cells

  pub part-of : (e : DataCell) → Member e (laid_plan l) → PlanPart l e
  part-of e m =
      let (k, lt, has) = gathered-member (laid_turn l) l.last e m in
      elim (Member-append_cases e (register_cells (l.stage k).outputs (l.stage (suc k)).inputs) (map gate_cell (l.stage (suc k)).cells) has) [
        | inl register ↦ let (b, r, within, same) = register-place (l.stage k).outputs (l.stage (suc k)).inputs e register in of_bank k b r lt within same
        | inr gate ↦ let (g, mine, same) = member_of_map gate_cell (l.stage (suc k)).cells e gate in of_stage (suc k) g lt mine (sym same)
      ]

  pub register-in : (k b : ℕ) (r : Bool) → k < l.last → b < width l (suc k) → Member (register_cell (out_rail l k b r) (in_rail l (suc k) b r)) (laid_plan l)
  register-in k b r lt within =
      member-gathered (laid_turn l) l.last k (register_cell (out_rail l k b r) (in_rail l (suc k) b r)) lt
      (Member-append_left (register_cell (out_rail l k b r) (in_rail l (suc k) b r)) (map gate_cell (l.stage (suc k)).cells) (register-listed (l.stage k).outputs (l.stage (suc k)).inputs b r (is.joined k lt) within))

  pub gate-in : (k : ℕ) (g : StageCell) → k ≤ l.last → Member g (l.stage k).cells → Member (gate_cell g) (laid_plan l)
  gate-in zero g le m = absurd (no_gate g (subst (Member g) is.first_wires.0 m))
    where
      no_gate : (g : StageCell) → Member g [] → ⊥
      no_gate g m = elim m [ ]
  gate-in (suc k) g le m =
      member-gathered (laid_turn l) l.last k (gate_cell g) le
      (Member-append_right (register_cells (l.stage k).outputs (l.stage (suc k)).inputs) (gate_cell g) (Member-map gate_cell g m))

  -- ---- what is known in the end

  pub drives-known : (k net : ℕ) → Drives (laid_plan l) k net → Known l l.last net
  drives-known k net drives =
      outs-known l.last (omega arith) net
      (inr (subst (λ n. Member n (outs (laid_plan l))) drives.out
      (Member-map (λ (e : DataCell). e.out.0) drives.cell (Member-from_Contains (laid_plan l) drives.cell (Contains-from_slice_get (laid_plan l) k drives.cell drives.at)))))

  pub known-in : (net : ℕ) → Known l l.last net → IsKnown (laid_plan l) (rail_nets p.inputs) (length (laid_plan l)) net
  known-in net known =
      elim (known-outs l.last (omega arith) net known) [
        | inl first ↦ inl (known-inputs net first)
        | inr out ↦
            let (e, m, same) = member_of_map (λ (c : DataCell). c.out.0) (laid_plan l) net out in
            let (k, at) = slice_get-from_Contains (laid_plan l) e (Contains-from_Member e m) in
            inr (k, slice_get_within (laid_plan l) k e at, record { cell = e; at = at; out = same })
      ]
