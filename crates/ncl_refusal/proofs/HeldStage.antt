-- The stage after a bank that holds a word at reset. As long as the bank after the stage asks for DATA, the bank keeps its
-- word, the stage before it stays empty, and the stage rises.
use Rattle.ncl_refusal.proofs.Terms.{Base, Bool, Cell, Follows, IsDelayInsensitive, IsExcited, IsLayoutOf, IsQuiet, IsRunFrom, IsStage, IsSupported, Item, Layout, List, Member, NetId, Nets, PipelineData, Raise, ReadsNew, Shape, StageCell, StageData, State, TreePart, Variant, [], acks, after, among, among-from_member, and_from, and_parts, ap, arith, bit_at, both_ways, cases_Bool, cells_are, completes, differ, enabled, excited-from_waiting, false, false_from_ne_true, gate-listed, get_or, has_data, here, holds, holds-excited, in_bit, in_order, in_rail, in_stage, in_tree, inl, inputs-listed, inr, kept_low, length, local-at, member-from_among, member_cases, named-has, named_rails, nets_new, next-from_unfed, next_value, no_rails, not, not-true, one_cell, others_are_new, out-listed, out_of, out_rail, output-listed, rail-data, rail-is_one, rail-listed, rail-no_output, rail-place, rail-within, rail_at, reads-bit, reads-more, recursion_from_members, refl, reset, same_output, set_of-grows, some-rail, some_high-low, stage_nets, step, subst, suc, sym, there, tree-listed, true, true_from_ne_false, turning_is_old, val, val-output, val-rail, val-settled, waits-from_excited, width, ℕ, ◌&&◌, ◌<◌, ◌∙◌, ◌∷◌, ◌≡◌, ◌⊎◌}
use Rattle.ncl_refusal.proofs.Does.{later, MovesStage, by_gate, by_register, by_source, stage-moves, MovesTree, by_cell, by_take, by_ready, tree-moves}
use Rattle.ncl_refusal.proofs.Ends as ends
use Rattle.ncl_refusal.proofs.Reaching.{IsReached, reached-run}
use Rattle.ncl_refusal.proofs.Rest.{null-rails}

module _ {p : PipelineData} {l : Layout} (is : IsLayoutOf p l) (n : ℕ) (word : List Bool) (wide : length word ≡ width l (suc n)) (inner : suc n < l.last) where
  before : n < l.last
  before = omega (arith, inner)

  abbrev own : StageData
  own = l.stage (suc n)

  own_is : IsStage own
  own_is = is.is_stage (suc n) before

  abbrev base : Nets
  base = val own word Base

  -- the bank has its word and asks for NULL, and the stage before it is empty; the stage rises, and the bank after it takes
  -- what is high
  pub record IsHolding (v : Nets) : Type 0 where
    pub low : (net : ℕ) → Member net (stage_nets l n) → v net ≡ false
    pub acked : (c : Cell) → Member c (l.tree n) → v c.out.0 ≡ false
    pub rails : (j : ℕ) (r : Bool) → j < width l (suc n) → v (in_rail l (suc n) j r) ≡ among (named_rails own.inputs word) (in_rail l (suc n) j r)
    pub below : (net : ℕ) → Member net (stage_nets l (suc n)) → v net ≡ true → base net ≡ true
    pub rises : IsSupported own v
    pub up : (j : ℕ) (r : Bool) → j < width l (suc (suc n)) → v (in_rail l (suc (suc n)) j r) ≡ true → v (out_rail l (suc n) j r) ≡ true
    pub follows : (c : Cell) → Member c (l.tree (suc n)) → Follows (in_stage l v (suc (suc n))) (in_tree l v (suc n)) true c

  -- the bank after the stage asks for DATA
  abbrev pub Asks : Nets → Type 0
  Asks v = v (l.root (suc n)) ≡ true

  -- each bit of the bank has DATA
  pub bank-full : {v : Nets} → IsHolding v → (j : ℕ) → j < width l (suc n) → v (in_rail l (suc n) j (bit_at word j)) ≡ true
  bank-full h j lj = h.rails j (bit_at word j) lj ∙ among-from_member _ (named-has own.inputs word wide j lj)

  module _ (t : State) (h : IsHolding t.value) (asks : Asks t.value) (item : Item) (can : enabled p t item ≡ true) where
    abbrev v : Nets
    v = t.value

    abbrev u : Nets
    u = later is t item can

    own_root : v (l.root n) ≡ false
    own_root = let (c, m, e) = is.root_in n before in ap v (sym e) ∙ h.acked c m

    -- the source can't raise a rail where it is the stage before
    no_raise : (b : ℕ) → n ≡ 0 → item ≡ Raise b → ⊥
    no_raise b first same =
        let raises : enabled p t (Raise b) ≡ true = subst (λ i. enabled p t i ≡ true) same can in
        let ko : v p.ko ≡ true = (and_parts (not t.falling) (v p.ko) (and_parts (not t.falling && v p.ko) _ raises).0).1 in
        both_ways (v p.ko) (ap v (sym is.ko) ∙ ap (λ x. v (l.root x)) (sym first) ∙ own_root) ko

    low-kept : (net : ℕ) → Member net (stage_nets l n) → u net ≡ false
    low-kept net m = elim (stage-moves is t item can n net (omega (arith, inner)) m) [
      | inl same ↦ same ∙ h.low net m
      | inr moves ↦ by_move moves
    ]
      where
        by_move : MovesStage is t item can n net → u net ≡ false
        by_move (by_gate g k e excited is_next) =
            is_next ∙ next-from_unfed v g (some_high-low v g.ins.items (λ x r. h.low x.0 (inputs-listed (is.is_stage n (omega (arith, inner))) g k x r)))
        by_move (by_register i j r one li lj e a_is b_is is_next) =
            absurd (both_ways (v (l.root (suc i))) (ap (λ x. v (l.root x)) one ∙ own_root) (b_is ∙ ap not (h.low net m)))
        by_move (by_source b zero_is at which) = elim which [ inl raised ↦ absurd (no_raise b zero_is raised.0) | inr lowered ↦ lowered.1 ]

    -- no register cell of the bank turns
    no_register : (i j : ℕ) (r : Bool) (old : Bool) → suc i ≡ suc n → i < l.last → j < width l (suc i) → v (out_rail l i j r) ≡ not old → v (l.root (suc i)) ≡ not old → ⊥
    no_register i j r old one li lj a_is b_is =
        let same : i ≡ n = omega (arith, one) in
        let a_low : v (out_rail l i j r) ≡ false = h.low (out_rail l i j r) (subst (λ x. Member (out_rail l i j r) (stage_nets l x)) same (out-listed is i j r li lj)) in
        both_ways (not old) (sym a_is ∙ a_low) (sym b_is ∙ ap (λ x. v (l.root x)) one ∙ asks)

    rails-kept : (j : ℕ) (r : Bool) → j < width l (suc n) → u (in_rail l (suc n) j r) ≡ among (named_rails own.inputs word) (in_rail l (suc n) j r)
    rails-kept j r lj = elim (stage-moves is t item can (suc n) (in_rail l (suc n) j r) before (rail-listed own j r lj)) [
      | inl same ↦ same ∙ h.rails j r lj
      | inr moves ↦ absurd (by_move moves)
    ]
      where
        by_move : MovesStage is t item can (suc n) (in_rail l (suc n) j r) → ⊥
        by_move (by_gate g k e excited is_next) = rail-no_output own own_is (in_rail l (suc n) j r) (rail-within own.inputs j r lj) g k e
        by_move (by_register i k q one li lk e a_is b_is is_next) = no_register i k q (v (in_rail l (suc n) j r)) one li lk a_is b_is
        by_move (by_source b zero_is at which) = omega (arith, zero_is)

    -- so in the stage nothing falls
    pub grows : (net : ℕ) → Member net (stage_nets l (suc n)) → v net ≡ true → u net ≡ true
    grows net m high = elim (stage-moves is t item can (suc n) net before m) [
      | inl same ↦ same ∙ high
      | inr moves ↦ absurd (by_move moves)
    ]
      where
        by_move : MovesStage is t item can (suc n) net → ⊥
        by_move (by_gate g k e excited is_next) = both_ways (v net) (ap v (sym e) ∙ (waits-from_excited v g (h.rises g k) excited).0) high
        by_move (by_register i j r one li lj e a_is b_is is_next) = no_register i j r (v net) one li lj a_is b_is
        by_move (by_source b zero_is at which) = omega (arith, zero_is)

    holds-more : (g : StageCell) → Member g own.cells → holds v g ≡ true → holds u g ≡ true
    holds-more g m set = set_of-grows g.kind v u g.ins.items (recursion_from_members (λ (x : NetId). v x.0 ≡ true → u x.0 ≡ true) g.ins.items (λ x r. grows x.0 (inputs-listed own_is g m x r))) set

    below-kept : (net : ℕ) → Member net (stage_nets l (suc n)) → u net ≡ true → base net ≡ true
    below-kept net m high = elim (stage-moves is t item can (suc n) net before m) [
      | inl same ↦ h.below net m (sym same ∙ high)
      | inr moves ↦ by_move moves
    ]
      where
        by_move : MovesStage is t item can (suc n) net → base net ≡ true
        by_move (by_gate g k e excited is_next) =
            let set : holds base g ≡ true =
            set_of-grows g.kind v base g.ins.items (recursion_from_members (λ (x : NetId). v x.0 ≡ true → base x.0 ≡ true) g.ins.items (λ x r. h.below x.0 (inputs-listed own_is g k x r)))
            (holds-excited v g excited (sym is_next ∙ high)) in
            subst (λ x. base x ≡ true) e (val-settled own word Base g k (and_from (not (kept_low own Base g.out.0)) _ refl set))
        by_move (by_register i j r one li lj e a_is b_is is_next) = absurd (no_register i j r (v net) one li lj a_is b_is)
        by_move (by_source b zero_is at which) = absurd (omega (arith, zero_is))

    rises-kept : IsSupported own u
    rises-kept g m high = elim (stage-moves is t item can (suc n) (out_of g) before (gate-listed own g m)) [
      | inl same ↦ holds-more g m (h.rises g m (sym same ∙ high))
      | inr moves ↦ by_move moves
    ]
      where
        by_move : MovesStage is t item can (suc n) (out_of g) → holds u g ≡ true
        by_move (by_gate k in_k e excited is_next) = holds-more g m (subst (λ q. holds v q ≡ true) (same_output own own_is k g in_k m e) (waits-from_excited v k (h.rises k in_k) excited).1)
        by_move (by_register i j r one li lj e a_is b_is is_next) = absurd (no_register i j r (v (out_of g)) one li lj a_is b_is)
        by_move (by_source b zero_is at which) = absurd (omega (arith, zero_is))

    -- a register cell of the bank after the stage reads that output of the stage
    reads-output : (i k : ℕ) (q : Bool) (j : ℕ) (r : Bool) → j < width l (suc (suc n)) → suc i ≡ suc (suc n) → k < width l (suc i) → in_rail l (suc i) k q ≡ in_rail l (suc (suc n)) j r
        → v (out_rail l i k q) ≡ v (out_rail l (suc n) j r)
    reads-output i k q j r lj one lk e =
        let same : i ≡ suc n = omega (arith, one) in
        let lk_here : k < width l (suc (suc n)) = subst (λ x. k < width l (suc x)) same lk in
        let e_here : in_rail l (suc (suc n)) k q ≡ in_rail l (suc (suc n)) j r = subst (λ x. in_rail l (suc x) k q ≡ in_rail l (suc (suc n)) j r) same e in
        let (bits, sides) = rail-is_one (l.stage (suc (suc n))).inputs _ (is.is_stage (suc (suc n)) inner).nets_differ k j q r lk_here lj e_here in
        ap (λ x. v (out_rail l x k q)) same ∙ ap (λ x. v (out_rail l (suc n) x q)) bits ∙ ap (λ x. v (out_rail l (suc n) j x)) sides

    up-kept : (j : ℕ) (r : Bool) → j < width l (suc (suc n)) → u (in_rail l (suc (suc n)) j r) ≡ true → u (out_rail l (suc n) j r) ≡ true
    up-kept j r lj high = grows (out_rail l (suc n) j r) (out-listed is (suc n) j r inner lj) (elim (stage-moves is t item can (suc (suc n)) (in_rail l (suc (suc n)) j r) inner (rail-listed (l.stage (suc (suc n))) j r lj)) [
      | inl same ↦ h.up j r lj (sym same ∙ high)
      | inr moves ↦ by_move moves
    ])
      where
        by_move : MovesStage is t item can (suc (suc n)) (in_rail l (suc (suc n)) j r) → v (out_rail l (suc n) j r) ≡ true
        by_move (by_gate g k e excited is_next) = absurd (rail-no_output (l.stage (suc (suc n))) (is.is_stage (suc (suc n)) inner) (in_rail l (suc (suc n)) j r) (rail-within (l.stage (suc (suc n))).inputs j r lj) g k e)
        by_move (by_register i k q one li lk e a_is b_is is_next) = sym (reads-output i k q j r lj one lk e) ∙ a_is ∙ sym is_next ∙ high
        by_move (by_source b zero_is at which) = absurd (omega (arith, zero_is))

    -- what the bank after the stage has it keeps
    next-grows : (j : ℕ) (r : Bool) → j < width l (suc (suc n)) → v (in_rail l (suc (suc n)) j r) ≡ true → u (in_rail l (suc (suc n)) j r) ≡ true
    next-grows j r lj high = elim (stage-moves is t item can (suc (suc n)) (in_rail l (suc (suc n)) j r) inner (rail-listed (l.stage (suc (suc n))) j r lj)) [
      | inl same ↦ same ∙ high
      | inr moves ↦ absurd (by_move moves)
    ]
      where
        by_move : MovesStage is t item can (suc (suc n)) (in_rail l (suc (suc n)) j r) → ⊥
        by_move (by_gate g k e excited is_next) = rail-no_output (l.stage (suc (suc n))) (is.is_stage (suc (suc n)) inner) (in_rail l (suc (suc n)) j r) (rail-within (l.stage (suc (suc n))).inputs j r lj) g k e
        by_move (by_register i k q one li lk e a_is b_is is_next) = both_ways (v (out_rail l i k q)) (a_is ∙ ap not high) (reads-output i k q j r lj one lk e ∙ h.up j r lj high)
        by_move (by_source b zero_is at which) = omega (arith, zero_is)

    -- ---- the two trees

    -- each cell of the bank's own tree reads what is new
    own_new : (c : Cell) → Member c (l.tree n) → ReadsNew (in_stage l v (suc n)) (in_tree l v n) true c
    own_new c m = by_part (is.tree_cell n c before m).1
      where
        by_part : TreePart l n c → ReadsNew (in_stage l v (suc n)) (in_tree l v n) true c
        by_part (acks b within on) =
            reads-bit (in_stage l v (suc n)) (in_tree l v n) true c (in_bit l (suc n) b) on
            (rail-data (in_stage l v (suc n)) own.inputs b (bit_at word b) (local-at (stage_nets l (suc n)) v _ (rail-listed own b (bit_at word b) within) ∙ bank-full h b within))
        by_part (completes kind is_gate is_tree arity inputs) = nets_new kind is_gate (λ x r.
            let (y, in_y, out, rank) = inputs x r in
            local-at (l.tree_nets n) v x.0 (subst (λ (z : NetId). Member z.0 (l.tree_nets n)) out (tree-listed is n y before in_y)) ∙ ap (λ (z : NetId). v z.0) (sym out) ∙ h.acked y in_y)

    acked-kept : (c : Cell) → Member c (l.tree n) → u c.out.0 ≡ false
    acked-kept c m = elim (tree-moves is t item can n c.out.0 (omega (arith, inner)) (tree-listed is n c before m)) [
      | inl same ↦ same ∙ h.acked c m
      | inr moves ↦ absurd (by_move moves)
    ]
      where
        by_move : MovesTree is t item can n c.out.0 → ⊥
        by_move (by_cell d ld k e excited is_next) =
            both_ways (v d.out.0) (h.acked d k) (turning_is_old is n before v true d k (λ new. own_new d k) (ap (λ x. differ (next_value v d) (v x)) e ∙ excited)).0
        by_move (by_take last e all up_now is_next) = omega (arith, last, inner)
        by_move (by_ready last e all low_now is_next) = omega (arith, last, inner)

    -- of the next tree it is still new
    next_new : (c : Cell) → Member c (l.tree (suc n)) → ReadsNew (in_stage l v (suc (suc n))) (in_tree l v (suc n)) true c → ReadsNew (in_stage l u (suc (suc n))) (in_tree l u (suc n)) true c
    next_new c m = reads-more is (suc n) inner (in_stage l u (suc (suc n))) (in_tree l u (suc n)) c m
        (λ b lb full.
        let next : StageData = l.stage (suc (suc n)) in
        let (r, high) = some-rail (in_stage l v (suc (suc n))) next.inputs b full in
        rail-data (in_stage l u (suc (suc n))) next.inputs b r
        (local-at (stage_nets l (suc (suc n))) u _ (rail-listed next b r lb) ∙ next-grows b r lb (sym (local-at (stage_nets l (suc (suc n))) v _ (rail-listed next b r lb)) ∙ high)))
        (λ net low. false_from_ne_true _ (λ high. stays net low (and_parts (among (l.tree_nets (suc n)) net) (u net) high)))
      where
        stays : (net : ℕ) → in_tree l v (suc n) net ≡ false → (among (l.tree_nets (suc n)) net ≡ true) × (u net ≡ true) → ⊥
        stays net low (listed, high) = elim (tree-moves is t item can (suc n) net before m_net) [
          | inl same ↦ both_ways (v net) low_v (sym same ∙ high)
          | inr moves ↦ by_move moves
        ]
          where
            m_net : Member net (l.tree_nets (suc n))
            m_net = member-from_among net (l.tree_nets (suc n)) listed

            low_v : v net ≡ false
            low_v = sym (local-at (l.tree_nets (suc n)) v net m_net) ∙ low

            by_move : MovesTree is t item can (suc n) net → ⊥
            by_move (by_cell d ld k e excited is_next) =
                both_ways (v net) low_v (ap v (sym e) ∙ (turning_is_old is (suc n) inner v true d k (h.follows d k) (ap (λ x. differ (next_value v d) (v x)) e ∙ excited)).0)
            by_move (by_take last e all up_now is_next) = omega (arith, last, inner)
            by_move (by_ready last e all low_now is_next) = omega (arith, last, inner)

    follows-kept : (c : Cell) → Member c (l.tree (suc n)) → Follows (in_stage l u (suc (suc n))) (in_tree l u (suc n)) true c
    follows-kept c m low = next_new c m (elim (tree-moves is t item can (suc n) c.out.0 before listed) [
      | inl same ↦ h.follows c m (local-at (l.tree_nets (suc n)) v c.out.0 listed ∙ sym same ∙ sym (local-at (l.tree_nets (suc n)) u c.out.0 listed) ∙ low)
      | inr moves ↦ by_move moves
    ])
      where
        listed : Member c.out.0 (l.tree_nets (suc n))
        listed = tree-listed is (suc n) c inner m

        by_move : MovesTree is t item can (suc n) c.out.0 → ReadsNew (in_stage l v (suc (suc n))) (in_tree l v (suc n)) true c
        by_move (by_cell d ld k e excited is_next) =
            let same : d ≡ c = one_cell is (suc n) inner d c k m e in
            (turning_is_old is (suc n) inner v true c m (h.follows c m) (subst (λ (x : Cell). differ (next_value v x) (v c.out.0) ≡ true) same excited)).1
        by_move (by_take last e all up_now is_next) = absurd (omega (arith, last, inner))
        by_move (by_ready last e all low_now is_next) = absurd (omega (arith, last, inner))

    pub holding-kept : IsHolding u
    holding-kept = record { low = low-kept; acked = acked-kept; rails = rails-kept; below = below-kept; rises = rises-kept; up = up-kept; follows = follows-kept }

  -- a state that a run reaches in which it is so, and no gate of the stage is high yet
  pub record IsBeginning (s : State) : Type 0 where
    pub reached : IsReached p [] s
    pub holding : IsHolding s.value
    pub asks : Asks s.value
    pub gates : (g : StageCell) → Member g own.cells → s.value (out_of g) ≡ false

  -- ---- until the bank after the stage acknowledges

  -- what was high in the stage is high
  abbrev pub HasGrown : Nets → Nets → Type 0
  HasGrown v u = (net : ℕ) → Member net (stage_nets l (suc n)) → v net ≡ true → u net ≡ true

  -- along a run it goes on so, or to a state where the bank after the stage asks for NULL
  pub record Acknowledged (t : State) (run : List Item) : Type 0 where
    pub first : List Item
    pub is_run : IsRunFrom p t first
    pub among : (item : Item) → Member item first → Member item run
    pub holding : IsHolding (after p t first).value
    pub grown : HasGrown t.value (after p t first).value
    pub asks_null : (after p t first).value (l.root (suc n)) ≡ false

  -- or it is so to the end
  pub record GoesOn (t : State) (run : List Item) : Type 0 where
    pub holding : IsHolding (after p t run).value
    pub grown : HasGrown t.value (after p t run).value
    pub asks : Asks (after p t run).value

  pub goes_on : (run : List Item) (t : State) → IsHolding t.value → Asks t.value → IsRunFrom p t run → GoesOn t run ⊎ Acknowledged t run
  goes_on [] t h asks is_run = inl (record { holding = h; grown = λ net m high. high; asks = asks })
  goes_on (item ∷ run) t h asks is_run = elim (cases_Bool ((step p t item).value (l.root (suc n)))) [
    | inr turned ↦
        inr (record { first = item ∷ []; is_run = (is_run.0, tt); among = λ x m. first_alone x m; holding = now; grown = grows t h asks item is_run.0; asks_null = turned })
    | inl still ↦ elim (goes_on run (step p t item) now still is_run.1) [
      | inl all ↦ inl (record { holding = all.holding; grown = λ net m high. all.grown net m (grows t h asks item is_run.0 net m high); asks = all.asks })
      | inr found ↦ inr (one_sooner found)
    ]
  ]
    where
      now : IsHolding (step p t item).value
      now = holding-kept t h asks item is_run.0

      first_alone : (x : Item) → Member x (item ∷ []) → Member x (item ∷ run)
      first_alone x here = here
      first_alone x (there m) = elim m [ ]

      one_sooner : Acknowledged (step p t item) run → Acknowledged t (item ∷ run)
      one_sooner found = record {
        first = item ∷ found.first;
        is_run = (is_run.0, found.is_run);
        among = λ x m. elim (member_cases x item found.first m) [ inl e ↦ subst (λ y. Member y (item ∷ run)) e here | inr k ↦ there (found.among x k) ];
        holding = found.holding;
        grown = λ net m high. found.grown net m (grows t h asks item is_run.0 net m high);
        asks_null = found.asks_null;
      }

  -- where it does, all outputs have data
  pub full-outputs : (v : Nets) → IsHolding v → v (l.root (suc n)) ≡ false → (j : ℕ) → j < length own.outputs → has_data v (get_or own.outputs j no_rails) ≡ true
  full-outputs v h low j lj =
      let (root, m, is_root) = is.root_in (suc n) inner in
      let as_many = is.joined (suc n) inner in
      let lb : j < width l (suc (suc n)) = omega (arith, lj, as_many) in
      let root_low : in_tree l v (suc n) root.out.0 ≡ false = local-at (l.tree_nets (suc n)) v root.out.0 (tree-listed is (suc n) root inner m) ∙ ap v is_root ∙ low in
      let full : has_data (in_stage l v (suc (suc n))) (in_bit l (suc (suc n)) j) ≡ true =
      (others_are_new is (suc n) inner h.follows root m is_root (h.follows root m root_low)).1 j lb in
      let (r, high) = some-rail (in_stage l v (suc (suc n))) (l.stage (suc (suc n))).inputs j full in
      rail-data v own.outputs j r (h.up j r lb (sym (local-at (stage_nets l (suc (suc n))) v _ (rail-listed (l.stage (suc (suc n))) j r lb)) ∙ high))

  -- where no gate of the stage is excited whose output a variant doesn't keep low, all is high that is high under the variant
  pub reaches : (variant : Variant) (v : Nets) → IsHolding v → ((g : StageCell) → Member g own.cells → kept_low own variant (out_of g) ≡ false → IsExcited v g → ⊥)
      → (net : ℕ) → Member net (stage_nets l (suc n)) → val own word variant net ≡ true → v net ≡ true
  reaches variant v h still = in_order own own_is (λ x. val own word variant x ≡ true → v x ≡ true)
      (λ x rail high.
      let (j, r, lj, e) = rail-place own.inputs x rail in
      ap v e ∙ h.rails j r lj ∙ ap (among (named_rails own.inputs word)) (sym e) ∙ (and_parts (among (named_rails own.inputs word) x) (not (kept_low own variant x)) (sym (val-rail own own_is word variant x rail) ∙ high)).0)
      (λ g m reads high.
      let (free, set) = and_parts (not (kept_low own variant (out_of g))) (holds (val own word variant) g) (sym (val-output own own_is word variant g m) ∙ high) in
      true_from_ne_false _ (λ low.
      still g m (not-true _ free) (excited-from_waiting v g low
      (set_of-grows g.kind (val own word variant) v g.ins.items (recursion_from_members (λ (x : NetId). val own word variant x.0 ≡ true → v x.0 ≡ true) g.ins.items reads) set))))

  -- a delay-insensitive pipeline acknowledges, from each such state that a run reaches
  module _ (shape : Shape p.netlist p) (good : IsDelayInsensitive p) where
    pub not_full : (t : State) → IsReached p [] t → IsQuiet p t → IsHolding t.value → ⊥
    not_full t reached quiet h =
        let rest = good.at_rest [] reached.items tt reached.is_run (subst (IsQuiet p) (sym reached.leads) quiet) in
        let some = own_is.some_inputs in
        let first : 0 < width l (suc n) = omega (arith, some) in
        let low = null-rails p shape l is (after p (reset p []) reached.items).value rest.null n 0 (bit_at word 0) before first in
        both_ways (t.value (in_rail l (suc n) 0 (bit_at word 0))) (ap (λ (x : State). x.value (in_rail l (suc n) 0 (bit_at word 0))) (sym reached.leads) ∙ low) (bank-full h 0 first)

    pub acknowledges : (t : State) → IsReached p [] t → IsHolding t.value → Asks t.value → (run : List Item) × Acknowledged t run
    acknowledges t reached h asks =
        let (run, is_run, quiet) = ends.stops is (cells_are p shape l is) t in
        elim (goes_on run t h asks is_run) [
          | inr found ↦ (run, found)
          | inl all ↦ absurd (not_full (after p t run) (reached-run p [] reached run is_run) quiet all.holding)
        ]

    -- so at the word each output has data
    pub some-data : (s : State) → IsBeginning s → (j : ℕ) → j < length own.outputs → has_data base (get_or own.outputs j no_rails) ≡ true
    some-data s begins j lj =
        let (run, found) = acknowledges s begins.reached begins.holding begins.asks in
        let v : Nets = (after p s found.first).value in
        let (r, high) = some-rail v own.outputs j (full-outputs v found.holding found.asks_null j lj) in
        rail-data base own.outputs j r (found.holding.below (rail_at own.outputs j r) (output-listed own_is j r lj) high)
