-- The closure of a pipeline, cell by cell: what a gate of a stage and a register cell drive is what they make of
-- what they read, and the rails of the inputs are as the word names them. Stages need not be sound.
pub use Rattle.ncl_match.proofs.Terms.{[], Bool, Cell, CellAt, Contains-from_Member, Contains-from_slice_get, IsLayoutOf, Layout, List, Member, Member-append_left, Member-append_right, Member-from_Contains, Member-get_or, Member-map, Nets, Part, PipelineData, Rails, StageCell, among, ap, arith, at_register, circuit_of, closed, false, first_pin, first_pin-is, get_or, here, in_rail, inl, inr, is_value, left-differ, length, map, named-at, named-within, named_rails, net_of, no_rails, of_bank, of_stage, of_tree, out_of, out_rail, pairs-head, pairs-tail, passes, passes-monotone, passes_on, pin_values, rail-no_output, rail-within, rail_at, rail_nets, rail_of, refl, rounds-keep, rounds-settled, rounds-support, same_from_both, same_output, set_of, slice_get-from_Contains, stage_nets, subst, suc, sym, there, true, width, zero, ℕ, ◌<◌, ◌∙◌, ◌∷◌, ◌≡◌, ◌≢◌, ◌≤◌}
use Rattle.ncl_match.proofs.PlannedLaws.{AllDiffer}

-- a rail tells its bit and its value
pub rails-once : (bits : List Rails) → AllDiffer (rail_nets bits) → (i j : ℕ) (r q : Bool) → i < length bits → j < length bits → rail_at bits i r ≡ rail_at bits j q → (i ≡ j) × (r ≡ q)
rails-once [] differ i j r q li lj e = absurd (omega (arith, li))
rails-once (x ∷ xs) differ zero zero true true li lj e = (refl, refl)
rails-once (x ∷ xs) differ zero zero false false li lj e = (refl, refl)
rails-once (x ∷ xs) differ zero zero true false li lj e = absurd (pairs-head (λ x y. x ≢ y) x.zero.0 (x.one.0 ∷ rail_nets xs) differ x.one.0 here (sym e))
rails-once (x ∷ xs) differ zero zero false true li lj e = absurd (pairs-head (λ x y. x ≢ y) x.zero.0 (x.one.0 ∷ rail_nets xs) differ x.one.0 here e)
rails-once (x ∷ xs) differ zero (suc j) r q li lj e = absurd (apart r (rail_at xs j q) (rail-within xs j q (omega arith)) e)
  where
    apart : (r : Bool) (net : ℕ) → Member net (rail_nets xs) → rail_of x r ≢ net
    apart true net m = pairs-head (λ x y. x ≢ y) x.one.0 (rail_nets xs) (pairs-tail (λ x y. x ≢ y) x.zero.0 (x.one.0 ∷ rail_nets xs) differ) net m
    apart false net m = pairs-head (λ x y. x ≢ y) x.zero.0 (x.one.0 ∷ rail_nets xs) differ net (there m)
rails-once (x ∷ xs) differ (suc i) zero r q li lj e = absurd (apart q (rail_at xs i r) (rail-within xs i r (omega arith)) (sym e))
  where
    apart : (r : Bool) (net : ℕ) → Member net (rail_nets xs) → rail_of x r ≢ net
    apart true net m = pairs-head (λ x y. x ≢ y) x.one.0 (rail_nets xs) (pairs-tail (λ x y. x ≢ y) x.zero.0 (x.one.0 ∷ rail_nets xs) differ) net m
    apart false net m = pairs-head (λ x y. x ≢ y) x.zero.0 (x.one.0 ∷ rail_nets xs) differ net (there m)
rails-once (x ∷ xs) differ (suc i) (suc j) r q li lj e =
    let rest = rails-once xs (pairs-tail (λ x y. x ≢ y) x.one.0 (rail_nets xs) (pairs-tail (λ x y. x ≢ y) x.zero.0 (x.one.0 ∷ rail_nets xs) differ)) i j r q (omega arith) (omega arith) e in
    (ap suc rest.0, rest.1)

module _ {p : PipelineData} {l : Layout} (is : IsLayoutOf p l) (word : List Bool) where
  abbrev v : Nets
  v = closed (circuit_of p) word

  abbrev named : Nets
  named = among (named_rails p.inputs word)

  -- where a cell passes on, its net is high
  passed : (i : ℕ) (c : Cell) → CellAt p.netlist i c → passes v c ≡ true → v (net_of c) ≡ true
  passed i c at = rounds-settled Cell net_of passes p.netlist.cells named c (Member-from_Contains p.netlist.cells c (Contains-from_slice_get p.netlist.cells i c at))

  -- a net that is high is a rail of the inputs, or some cell that passes on drives it
  pub data Because (net : ℕ) : Type 0 where
    named_so : named net ≡ true → Member net (stage_nets l 0) → Because net
    passed_on : (c : Cell) → Part l c → net_of c ≡ net → passes v c ≡ true → Because net

  because : (net : ℕ) → v net ≡ true → Because net
  because net high =
      elim (rounds-support Cell net_of passes p.netlist.cells passes-monotone (length p.netlist.cells) named net high) [
        | inl start ↦
            named_so start (Member-append_left net (map out_of (l.stage 0).cells)
            (subst (λ bits. Member net (rail_nets bits)) (sym is.source) (named-within p.inputs word net start)))
        | inr (c, m, at, up) ↦
            let (i, place) = slice_get-from_Contains p.netlist.cells c (Contains-from_Member c m) in
            passed_on c (is.part_of i c place) at up
      ]

  -- the nets of a stage
  gate-net : (k : ℕ) (g : StageCell) → Member g (l.stage k).cells → Member (out_of g) (stage_nets l k)
  gate-net k g m = Member-append_right (rail_nets (l.stage k).inputs) (out_of g) (Member-map out_of g m)

  rail-net : (k b : ℕ) (r : Bool) → b < width l k → Member (in_rail l k b r) (stage_nets l k)
  rail-net k b r lt = Member-append_left (in_rail l k b r) (map out_of (l.stage k).cells) (rail-within (l.stage k).inputs b r lt)

  tree-net : (k : ℕ) (c : Cell) → k < l.last → Member c (l.tree k) → Member (net_of c) (l.tree_nets k)
  tree-net k c lt m = subst (Member (net_of c)) (sym (is.tree_outputs k lt)) (Member-map net_of c m)

  -- a gate of a stage gives what its set function makes of its inputs
  pub at-gate : (k : ℕ) (g : StageCell) → k ≤ l.last → Member g (l.stage k).cells → v (out_of g) ≡ set_of g.kind (pin_values v g.ins.items)
  at-gate k g le m = same_from_both _ _ (λ high. by (because (out_of g) high)) back
    where
      mine : Member (out_of g) (stage_nets l k)
      mine = gate-net k g m

      none : (k : ℕ) → k ≡ 0 → (h : StageCell) → Member h (l.stage k).cells → ⊥
      none k e h n = no_member h (subst (Member h) (ap (λ i. (l.stage i).cells) e ∙ is.first_wires.0) n)
        where
          no_member : (h : StageCell) → Member h [] → ⊥
          no_member h m = elim m [ ]

      by : Because (out_of g) → set_of g.kind (pin_values v g.ins.items) ≡ true
      by (named_so start n) = absurd (none k (is.stages_apart k 0 (out_of g) le (omega arith) mine n) g m)
      by (passed_on c (of_stage j h lj n same) at up) =
          let here : k ≡ j = is.stages_apart k j (out_of g) le lj mine (subst (λ x. Member x (stage_nets l j)) (sym same.out ∙ at) (gate-net j h n)) in
          let there_too : Member h (l.stage k).cells = subst (λ i. Member h (l.stage i).cells) (sym here) n in
          let one : h ≡ g = same_output (l.stage k) (is.is_stage k le) h g there_too m (sym same.out ∙ at) in
          subst (λ (x : StageCell). set_of x.kind (pin_values v x.ins.items) ≡ true) one
          (sym (ap (λ q. passes_on q (pin_values v c.ins.items)) same.kind ∙ ap (λ ins. set_of h.kind (pin_values v ins)) same.ins) ∙ up)
      by (passed_on c (of_bank j b r lt within on) at up) =
          let here : k ≡ suc j = is.stages_apart k (suc j) (out_of g) le lt mine (subst (λ x. Member x (stage_nets l (suc j))) (sym on.out ∙ at) (rail-net (suc j) b r within)) in
          absurd (rail-no_output (l.stage (suc j)) (is.is_stage (suc j) lt) (in_rail l (suc j) b r) (rail-within (l.stage (suc j)).inputs b r within) g (subst (λ i. Member g (l.stage i).cells) here m) (sym at ∙ on.out))
      by (passed_on c (of_tree j lt n) at up) =
          absurd (is.apart k j (out_of g) le (omega (arith, lt)) mine (subst (λ x. Member x (l.tree_nets j)) at (tree-net j c lt n)))

      back : set_of g.kind (pin_values v g.ins.items) ≡ true → v (out_of g) ≡ true
      back set =
          let (i, c, at, same) = is.gate_at k g le m in
          ap v (sym same.out) ∙ passed i c at (ap (λ q. passes_on q (pin_values v c.ins.items)) same.kind ∙ ap (λ ins. set_of g.kind (pin_values v ins)) same.ins ∙ set)

  -- a register cell gives the rail that it reads
  pub at-register : (k b : ℕ) (r : Bool) → k < l.last → b < width l (suc k) → v (in_rail l (suc k) b r) ≡ v (out_rail l k b r)
  at-register k b r lt within = same_from_both _ _ (λ high. by (because (in_rail l (suc k) b r) high)) back
    where
      mine : Member (in_rail l (suc k) b r) (stage_nets l (suc k))
      mine = rail-net (suc k) b r within

      by : Because (in_rail l (suc k) b r) → v (out_rail l k b r) ≡ true
      by (named_so start n) = let none : suc k ≡ 0 = is.stages_apart (suc k) 0 (in_rail l (suc k) b r) lt (omega arith) mine n in absurd (omega (arith, none))
      by (passed_on c (of_stage j h lj n same) at up) =
          let here : suc k ≡ j = is.stages_apart (suc k) j (in_rail l (suc k) b r) lt lj mine (subst (λ x. Member x (stage_nets l j)) (sym same.out ∙ at) (gate-net j h n)) in
          absurd (rail-no_output (l.stage (suc k)) (is.is_stage (suc k) lt) (in_rail l (suc k) b r) (rail-within (l.stage (suc k)).inputs b r within) h (subst (λ i. Member h (l.stage i).cells) (sym here) n) (sym same.out ∙ at))
      by (passed_on c (of_bank j i q lj in_j on) at up) =
          let here : suc k ≡ suc j = is.stages_apart (suc k) (suc j) (in_rail l (suc k) b r) lt lj mine (subst (λ x. Member x (stage_nets l (suc j))) (sym on.out ∙ at) (rail-net (suc j) i q in_j)) in
          let same : j ≡ k = omega (arith, here) in
          let wide : i < width l (suc k) = subst (λ m. i < width l (suc m)) same in_j in
          let rails : in_rail l (suc k) i q ≡ in_rail l (suc k) b r = ap (λ m. in_rail l (suc m) i q) (sym same) ∙ sym on.out ∙ at in
          let (bits, sides) = rails-once (l.stage (suc k)).inputs (left-differ (rail_nets (l.stage (suc k)).inputs) (map out_of (l.stage (suc k)).cells) (is.is_stage (suc k) lt).nets_differ) i b q r wide within rails in
          let high : v (out_rail l j i q) ≡ true = sym (at_register (λ x. passes_on x (pin_values v c.ins.items)) (first_pin (pin_values v c.ins.items)) refl refl c.kind on.register ∙ first_pin-is v c.ins.items (record { 0 = out_rail l j i q }) on.on_a) ∙ up in
          (λ t. v (out_rail l (sym same t) (sym bits t) (sym sides t))) ∙ high
      by (passed_on c (of_tree j lj n) at up) =
          absurd (is.apart (suc k) j (in_rail l (suc k) b r) lt (omega (arith, lj)) mine (subst (λ x. Member x (l.tree_nets j)) at (tree-net j c lj n)))

      back : v (out_rail l k b r) ≡ true → v (in_rail l (suc k) b r) ≡ true
      back high =
          let (i, c, at, on) = is.register_at k b r lt within in
          ap v (sym on.out) ∙ passed i c at (at_register (λ x. passes_on x (pin_values v c.ins.items)) (first_pin (pin_values v c.ins.items)) refl refl c.kind on.register ∙ first_pin-is v c.ins.items (record { 0 = out_rail l k b r }) on.on_a ∙ high)

  -- a rail of the inputs is high where its bit has its value
  pub at-input : length word ≡ length p.inputs → (b : ℕ) (r : Bool) → b < width l 0 → v (in_rail l 0 b r) ≡ is_value r (get_or word b false)
  at-input wide b r within = same_from_both _ _ (λ high. sym value ∙ by (because (in_rail l 0 b r) high)) (λ high. rounds-keep Cell net_of passes p.netlist.cells (length p.netlist.cells) named (in_rail l 0 b r) (value ∙ high))
    where
      mine : Member (in_rail l 0 b r) (stage_nets l 0)
      mine = rail-net 0 b r within

      differ : AllDiffer (rail_nets (l.stage 0).inputs)
      differ = left-differ (rail_nets (l.stage 0).inputs) (map out_of (l.stage 0).cells) (is.is_stage 0 (omega arith)).nets_differ

      value : named (in_rail l 0 b r) ≡ is_value r (get_or word b false)
      value =
          ap (λ bits. among (named_rails bits word) (in_rail l 0 b r)) (sym is.source)
          ∙ named-at (l.stage 0).inputs differ word (wide ∙ ap length (sym is.source)) b no_rails within r

      no_member : (h : StageCell) → Member h [] → ⊥
      no_member h m = elim m [ ]

      by : Because (in_rail l 0 b r) → named (in_rail l 0 b r) ≡ true
      by (named_so start n) = start
      by (passed_on c (of_stage j h lj n same) at up) =
          let here : 0 ≡ j = is.stages_apart 0 j (in_rail l 0 b r) (omega arith) lj mine (subst (λ x. Member x (stage_nets l j)) (sym same.out ∙ at) (gate-net j h n)) in
          absurd (no_member h (subst (Member h) (ap (λ i. (l.stage i).cells) (sym here) ∙ is.first_wires.0) n))
      by (passed_on c (of_bank j i q lj in_j on) at up) =
          let none : 0 ≡ suc j = is.stages_apart 0 (suc j) (in_rail l 0 b r) (omega arith) lj mine (subst (λ x. Member x (stage_nets l (suc j))) (sym on.out ∙ at) (rail-net (suc j) i q in_j)) in
          absurd (omega (arith, none))
      by (passed_on c (of_tree j lj n) at up) =
          absurd (is.apart 0 j (in_rail l 0 b r) (omega arith) (omega (arith, lj)) mine (subst (λ x. Member x (l.tree_nets j)) at (tree-net j c lj n)))
