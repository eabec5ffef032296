-- What a net touches: the pins of cells and the ends of a pipeline.
pub use Rattle.ncl_sim.proofs.Terms.{All, All-contains, All-from_members, AllPairs, AreApart, AreDrivenOnce, AreEnds, Cell, CellAt, Contains, Contains-from_Member, Grows, HasTouched, IsApart, IsLayoutOf, Layout, List, MOST_BITS, Member, Member-append_left, Member-append_right, Member-from_Contains, Member-map, NetId, NetlistData, Part, PipelineData, Rails, Shape, Some, StageCell, [], ap, arith, cases_eq, few_inputs, from_push, get_or, get_or_from_slice_get, grows-along, here, in_rail, inl, inputs_differ, inr, laid_out_of, length, length-replicate, map, most_cells, net_of, no_rails, nothing-at, number_count, of_bank, of_stage, of_tree, out_of, pairs-head, pairs-tail, rail-within, rail_nets, recursion_from_members, refl, replicate, same_place, slice_get, slice_get_within, stage_nets, subst, suc, sym, take, take_more, there, items_at, zero, ℕ, ◌++◌, ◌+◌, ◌<◌, ◌∙◌, ◌∷◌, ◌≡◌, ◌≢◌, ◌≤◌, ◌⊎◌}

-- ---- the ends and the drivers of a pipeline that its netlist has the shape of

-- a list of nets that all differ
are_apart : (nets : List ℕ) → AllPairs (λ x y. x ≢ y) nets → AreApart nets
are_apart [] differ = tt
are_apart (net ∷ nets) differ =
    (recursion_from_members (λ other. net ≢ other) nets (λ other m. pairs-head (λ x y. x ≢ y) net nets differ other m), are_apart nets (pairs-tail (λ x y. x ≢ y) net nets differ))

apart_from : (net : ℕ) (others : List ℕ) → (Member net others → ⊥) → IsApart net others
apart_from net others not_in = recursion_from_members (λ other. net ≢ other) others (λ other m e. not_in (subst (λ n. Member n others) (sym e) m))

module _ (p : PipelineData) (l : Layout) (is : IsLayoutOf p l) where
  input_listed : (net : ℕ) → Member net (rail_nets p.inputs) → Member net (stage_nets l 0)
  input_listed net m = Member-append_left net (map out_of (l.stage 0).cells) (subst (λ bits. Member net (rail_nets bits)) (sym is.source) m)

  output_listed : (net : ℕ) → Member net (rail_nets p.outputs) → Member net (stage_nets l l.last)
  output_listed net m = Member-append_left net (map out_of (l.stage l.last).cells) (subst (λ bits. Member net (rail_nets bits)) (sym is.sink ∙ is.last_wires.1) m)

  ki_listed : Member p.ki (l.tree_nets l.last)
  ki_listed = subst (Member p.ki) (sym is.ki_nets) here

  driven_listed : (k : ℕ) (c : Cell) → k < l.last → Member c (l.tree k) → Member c.out.0 (l.tree_nets k)
  driven_listed k c lt m = subst (Member c.out.0) (sym (is.tree_outputs k lt)) (Member-map net_of c m)

  ko_listed : Member p.ko (l.tree_nets 0)
  ko_listed =
      let (c, m, root) = is.root_in 0 is.some in
      subst (λ net. Member net (l.tree_nets 0)) (root ∙ is.ko) (driven_listed 0 c is.some m)

  -- what a cell drives is no net of the sink's tree, and no rail of the inputs
  not_of_sink : (c : Cell) → Part l c → Member c.out.0 (l.tree_nets l.last) → ⊥
  not_of_sink c (of_stage k g le m of) in_sink =
      is.apart k l.last c.out.0 le (omega arith) (subst (λ net. Member net (stage_nets l k)) (sym of.out) (Member-append_right (rail_nets (l.stage k).inputs) (out_of g) (Member-map out_of g m))) in_sink
  not_of_sink c (of_bank k j r lt within of) in_sink =
      is.apart (suc k) l.last c.out.0 (omega arith) (omega arith)
      (subst (λ net. Member net (stage_nets l (suc k))) (sym of.out) (Member-append_left (in_rail l (suc k) j r) (map out_of (l.stage (suc k)).cells) (rail-within (l.stage (suc k)).inputs j r within))) in_sink
  not_of_sink c (of_tree k lt m) in_sink =
      let same : k ≡ l.last = is.trees_apart k l.last c.out.0 (omega arith) (omega arith) (driven_listed k c lt m) in_sink in
      omega (arith, same, lt)

  not_of_source : (c : Cell) → Part l c → Member c.out.0 (rail_nets p.inputs) → ⊥
  not_of_source c (of_stage k g le m of) input =
      let same : k ≡ 0 = is.stages_apart k 0 c.out.0 le (omega arith) (subst (λ net. Member net (stage_nets l k)) (sym of.out) (Member-append_right (rail_nets (l.stage k).inputs) (out_of g) (Member-map out_of g m))) (input_listed c.out.0 input) in
      none (l.stage 0).cells is.first_wires.0 (subst (λ n. Member g (l.stage n).cells) same m)
    where
      none : (cells : List StageCell) → cells ≡ [] → Member g cells → ⊥
      none cells empty in_cells = elim (subst (Member g) empty in_cells) [ ]
  not_of_source c (of_bank k j r lt within of) input =
      let same : suc k ≡ 0 = is.stages_apart (suc k) 0 c.out.0 (omega arith) (omega arith)
      (subst (λ net. Member net (stage_nets l (suc k))) (sym of.out) (Member-append_left (in_rail l (suc k) j r) (map out_of (l.stage (suc k)).cells) (rail-within (l.stage (suc k)).inputs j r within))) (input_listed c.out.0 input) in
      omega (arith, same)
  not_of_source c (of_tree k lt m) input = is.apart 0 k c.out.0 (omega arith) (omega arith) (input_listed c.out.0 input) (driven_listed k c lt m)

-- the ends are as they are to be
pub shape-ends : (p : PipelineData) → Shape p.netlist p → AreEnds p
shape-ends p shape =
    let (l, is) = laid_out_of p.netlist p shape in
    record {
      acknowledges = λ e.
          let same : 0 ≡ l.last = is.trees_apart 0 l.last p.ki (omega arith) (omega arith) (subst (λ net. Member net (l.tree_nets 0)) (sym e) (ko_listed p l is)) (ki_listed p l is) in
          omega (arith, same, is.some);
      ki_inputs = apart_from p.ki (rail_nets p.inputs) (λ m. is.apart 0 l.last p.ki (omega arith) (omega arith) (input_listed p l is p.ki m) (ki_listed p l is));
      ki_outputs = apart_from p.ki (rail_nets p.outputs) (λ m. is.apart l.last l.last p.ki (omega arith) (omega arith) (output_listed p l is p.ki m) (ki_listed p l is));
      ko_inputs = apart_from p.ko (rail_nets p.inputs) (λ m. is.apart 0 0 p.ko (omega arith) (omega arith) (input_listed p l is p.ko m) (ko_listed p l is));
      inputs = are_apart (rail_nets p.inputs) (inputs_differ p shape);
      some_output = subst (λ bits. 0 < length bits) is.sink (some_of l is);
    }
  where
    some_of : (l : Layout) → IsLayoutOf p l → 0 < length (l.stage l.last).outputs
    some_of l is = let stage = is.is_stage l.last (omega arith) in omega (arith, stage.some_outputs)

-- and each net is driven once, those of the source and of the sink by no cell
pub shape-driven : (p : PipelineData) → Shape p.netlist p → AreDrivenOnce p
shape-driven p shape =
    let (l, is) = laid_out_of p.netlist p shape in
    record {
      not_ki = λ k c at e. not_of_sink p l is c (is.part_of k c at) (subst (λ net. Member net (l.tree_nets l.last)) (sym e) (ki_listed p l is));
      not_inputs = λ k c at. apart_from c.out.0 (rail_nets p.inputs) (not_of_source p l is c (is.part_of k c at));
      one_driver = λ j k b c at_b at_c other e. other (same_place p.netlist shape.is_netlist j k b c at_b at_c e);
    }

-- the ends are nets of the netlist
pub ki-within : (p : PipelineData) → Shape p.netlist p → p.ki < length p.netlist.nets
ki-within p shape =
    let (l, is) = laid_out_of p.netlist p shape in
    is.tree_within l.last p.ki (omega arith) (ki_listed p l is)

pub ko-within : (p : PipelineData) → Shape p.netlist p → p.ko < length p.netlist.nets
ko-within p shape =
    let (l, is) = laid_out_of p.netlist p shape in
    is.tree_within 0 p.ko (omega arith) (ko_listed p l is)

pub outputs-within : (p : PipelineData) → Shape p.netlist p → (net : ℕ) → Member net (rail_nets p.outputs) → net < length p.netlist.nets
outputs-within p shape net m =
    let (l, is) = laid_out_of p.netlist p shape in
    is.stage_within l.last net (omega arith) (output_listed p l is net m)

pub cells-few : (p : PipelineData) → Shape p.netlist p → length p.netlist.cells ≤ most_cells
cells-few p shape = shape.is_netlist.few_cells

-- so the items of a pipeline are few, where they are counted
pub items-few : (p : PipelineData) {n : NetlistData} {inputs : List Rails} {cells : List Cell} → Shape p.netlist p → inputs ≡ p.inputs → cells ≡ n.cells → n ≡ p.netlist → (length inputs ≤ MOST_BITS) × (length cells ≤ most_cells)
items-few p shape bits cells netlist =
    let own = ap length cells ∙ ap (λ (n : NetlistData). length n.cells) netlist in
    (omega (arith, few_inputs p shape, ap length bits), omega (arith, cells-few p shape, own))

-- ---- a table of what steps can touch, as numbers come to it

-- pins up to a place have the number, and so one more
pub pins-next : (table new : List (List ℕ)) (pins : List NetId) (i k : ℕ) (d : NetId) (count : ℕ) → i < length pins → Grows count table new → Contains (items_at new (get_or pins i d).0) k → ((pin : NetId) → Contains (take i pins) pin → Contains (items_at table pin.0) k) → (pin : NetId) → Contains (take (i + 1) pins) pin → Contains (items_at new pin.0) k
pins-next table new pins i k d count lt grows now before pin has =
    elim (from_push (take i pins) (get_or pins i d) pin (subst (λ ps. Contains ps pin) (take_more pins i d lt) has)) [
      | inl earlier ↦ grows.kept pin.0 k (before pin earlier)
      | inr same ↦ subst (λ (x : NetId). Contains (items_at new x.0) k) same now
    ]

-- and so the rails of outputs
pub rails-next : (table new : List (List ℕ)) (outputs : List Rails) (i k : ℕ) (d : Rails) (count : ℕ) → i < length outputs → Grows count table new → Contains (items_at new (get_or outputs i d).zero.0) k → Contains (items_at new (get_or outputs i d).one.0) k → ((net : ℕ) → Contains (rail_nets (take i outputs)) net → Contains (items_at table net) k) → (net : ℕ) → Contains (rail_nets (take (i + 1) outputs)) net → Contains (items_at new net) k
rails-next table new outputs i k d count lt grows low high before net has =
    let m = Member-from_Contains (rail_nets (take (i + 1) outputs)) net has in
    elim (member_push (take i outputs) (get_or outputs i d) (subst (λ bits. Member net (rail_nets bits)) (take_more outputs i d lt) m)) [
      | inl earlier ↦ grows.kept net k (before net (Contains-from_Member net earlier))
      | inr last ↦ elim last [
        | inl is_zero ↦ subst (λ n. Contains (items_at new n) k) (sym is_zero) low
        | inr is_one ↦ subst (λ n. Contains (items_at new n) k) (sym is_one) high
      ]
    ]
  where
    member_push : (bits : List Rails) (r : Rails) → Member net (rail_nets (bits ++ r ∷ [])) → Member net (rail_nets bits) ⊎ ((net ≡ r.zero.0) ⊎ (net ≡ r.one.0))
    member_push [] r here = inr (inl refl)
    member_push [] r (there here) = inr (inr refl)
    member_push [] r (there (there m)) = elim m [ ]
    member_push (b ∷ bits) r here = inl here
    member_push (b ∷ bits) r (there here) = inl (there here)
    member_push (b ∷ bits) r (there (there m)) = elim (member_push bits r m) [ inl earlier ↦ inl (there (there earlier)) | inr last ↦ inr last ]

pub rails-at : (outputs : List Rails) (i : ℕ) (d : Rails) (P : ℕ → Type 0) → i < length outputs → All P (rail_nets outputs) → P (get_or outputs i d).zero.0 × P (get_or outputs i d).one.0
rails-at outputs i d P lt all =
    let (low, high) = members outputs i lt in (
      All-contains P (rail_nets outputs) (get_or outputs i d).zero.0 all (Contains-from_Member (get_or outputs i d).zero.0 low),
      All-contains P (rail_nets outputs) (get_or outputs i d).one.0 all (Contains-from_Member (get_or outputs i d).one.0 high),
    )
  where
    members : (bits : List Rails) (i : ℕ) → i < length bits → Member (get_or bits i d).zero.0 (rail_nets bits) × Member (get_or bits i d).one.0 (rail_nets bits)
    members [] i lt = absurd (omega arith)
    members (r ∷ bits) zero lt = (here, there here)
    members (r ∷ bits) (suc i) lt = let (low, high) = members bits i (omega arith) in (there (there low), there (there high))

-- cells up to a place are at the nets of their pins, and so one more
pub cells-next : (table new : List (List ℕ)) (cells : List Cell) (k : ℕ) (cell : Cell) (pins : List NetId) (count : ℕ) → cell ≡ get_or cells k cell → pins ≡ cell.ins.items → Grows count table new → ((pin : NetId) → Contains pins pin → Contains (items_at new pin.0) k) → ((j : ℕ) (c : Cell) → j < k → slice_get cells j ≡ Some c → (pin : NetId) → Contains c.ins.items pin → Contains (items_at table pin.0) j) → (j : ℕ) (c : Cell) → j < k + 1 → slice_get cells j ≡ Some c → (pin : NetId) → Contains c.ins.items pin → Contains (items_at new pin.0) j
cells-next table new cells k cell pins count is read grows now before j c lt at pin has = elim (cases_eq j k) [
  | inl same ↦
      let found : get_or cells k cell ≡ c = get_or_from_slice_get cells k c cell (subst (λ n. slice_get cells n ≡ Some c) same at) in
      let pins_are : c.ins.items ≡ pins = ap (λ (x : Cell). x.ins.items) (sym (is ∙ found)) ∙ sym read in
      subst (Contains (items_at new pin.0)) (sym same) (now pin (subst (λ ps. Contains ps pin) pins_are has))
  | inr other ↦ grows.kept pin.0 j (before j c (omega arith) at pin has)
]

-- ---- the whole table

module _ (p : PipelineData) (shape : Shape p.netlist p) where
  pub outputs-nets : (size : ℕ) → size ≡ length p.netlist.nets → All (λ net. net < size) (rail_nets p.outputs)
  outputs-nets size same = All-from_members (λ net. net < size) (rail_nets p.outputs) (λ net m. subst (λ n. net < n) (sym same) (outputs-within p shape net m))

  pub table-made : (empty with_cells with_bits table : List (List ℕ)) → empty ≡ replicate (length p.netlist.nets) []
      → ((count : ℕ) → length p.netlist.cells ≤ count → Grows count empty with_cells)
      → ((k : ℕ) (c : Cell) → CellAt p.netlist k c → (pin : NetId) → Contains c.ins.items pin → Contains (items_at with_cells pin.0) k)
      → ((count : ℕ) → length p.netlist.cells + length p.inputs ≤ count → Grows count with_cells with_bits)
      → ((bit : ℕ) → bit < length p.inputs → Contains (items_at with_bits p.ko) (length p.netlist.cells + bit))
      → ((count : ℕ) → length p.netlist.cells + length p.inputs < count → Grows count with_bits table)
      → ((net : ℕ) → Contains (rail_nets p.outputs) net → Contains (items_at table net) (length p.netlist.cells + length p.inputs))
      → HasTouched p table
  table-made empty with_cells with_bits table none grows_cells cells grows_bits bits grows_sink sink =
      let to_cells : Grows (number_count p) empty with_cells = grows_cells (number_count p) (omega arith) in
      let to_bits : Grows (number_count p) with_cells with_bits = grows_bits (number_count p) (omega arith) in
      let to_sink : Grows (number_count p) with_bits table = grows_sink (number_count p) (omega arith) in
      let all : Grows (number_count p) empty table = grows-along (number_count p) empty with_bits table (grows-along (number_count p) empty with_cells with_bits to_cells to_bits) to_sink in
      record {
        size = all.size ∙ ap length none ∙ length-replicate (length p.netlist.nets) [];
        below = λ net k has. elim (all.below net k has) [
          | inl before ↦ absurd (nothing-at (length p.netlist.nets) net k (subst (λ t. Contains (items_at t net) k) none before))
          | inr lt ↦ lt
        ];
        cells = λ k c at x has. to_sink.kept x.0 k (to_bits.kept x.0 k (cells k c at x has));
        bits = λ bit lt. to_sink.kept p.ko (length p.netlist.cells + bit) (bits bit lt);
        sink = sink;
      }

  -- the same of lists and counts that are those of the pipeline
  pub table-from : (n : NetlistData) (nets cells bits ko : ℕ) (outputs : List Rails) → n ≡ p.netlist → nets ≡ length n.nets → cells ≡ length n.cells → bits ≡ length p.inputs → ko ≡ p.ko → outputs ≡ p.outputs
      → (empty with_cells with_bits table : List (List ℕ)) → empty ≡ replicate nets []
      → ((count : ℕ) → length n.cells ≤ count → Grows count empty with_cells)
      → ((k : ℕ) (c : Cell) → CellAt n k c → (pin : NetId) → Contains c.ins.items pin → Contains (items_at with_cells pin.0) k)
      → ((count : ℕ) → cells + bits ≤ count → Grows count with_cells with_bits)
      → ((bit : ℕ) → bit < bits → Contains (items_at with_bits ko) (cells + bit))
      → ((count : ℕ) → cells + bits < count → Grows count with_bits table)
      → ((net : ℕ) → Contains (rail_nets outputs) net → Contains (items_at table net) (cells + bits))
      → HasTouched p table
  table-from n nets cells bits ko outputs is_n is_nets is_cells is_bits is_ko is_outputs empty with_cells with_bits table none grows_cells in_cells grows_bits in_bits grows_sink in_sink =
      let nets_are : nets ≡ length p.netlist.nets = is_nets ∙ ap (λ (m : NetlistData). length m.nets) is_n in
      let cells_are : cells ≡ length p.netlist.cells = is_cells ∙ ap (λ (m : NetlistData). length m.cells) is_n in
      let read : length n.cells ≡ length p.netlist.cells = ap (λ (m : NetlistData). length m.cells) is_n in
      table-made empty with_cells with_bits table (none ∙ ap (λ m. replicate m []) nets_are)
      (λ count few. grows_cells count (omega (arith, few, read)))
      (λ k c at. in_cells k c (ap (λ (m : NetlistData). slice_get m.cells k) is_n ∙ at))
      (λ count few. grows_bits count (omega (arith, few, cells_are, is_bits)))
      (λ bit lt. subst (λ m. Contains (items_at with_bits m) (length p.netlist.cells + bit)) is_ko (subst (λ m. Contains (items_at with_bits ko) (m + bit)) cells_are (in_bits bit (omega (arith, lt, is_bits)))))
      (λ count few. grows_sink count (omega (arith, few, cells_are, is_bits)))
      (λ net has. subst (λ m. Contains (items_at table net) (m + length p.inputs)) cells_are (subst (λ m. Contains (items_at table net) (cells + m)) is_bits (in_sink net (subst (λ os. Contains (rail_nets os) net) (sym is_outputs) has))))
