-- Completion trees: a cell turns only where all that it reads is new to the wave, and the root only where the
-- whole bank is.
use Rattle.ncl_machine.proofs.Terms.{Ack, AllPairs, Bool, Cell, Gate, IsAckOf, IsAckOn, IsGate, IsLayoutOf, IsTreeKind, Kind, Layout, List, Member, NetId, Nets, PipelineData, Rails, TreePart, [], acks, all_high, all_high-from, and_parts, ap, arith, arity_of, both_ways, completes, differ, false, has_data, here, in_rail, inl, inr, length, length-map, net_of, next_of, next_of-hysteresis, next_of_cell, next_value, not, not-not, or-false, pin_values, refl, same_from_value, set_of, set_of-Th22, set_of-Th33, set_of-Th44, some_high, some_high-low, stage_nets, subst, suc, sym, th22, th33, th44, there, true, width, zero, ℕ, ◌+◌, ◌<◌, ◌||◌, ◌∙◌, ◌∷◌, ◌≡◌, ◌≢◌, ◌≤◌, ◌⊎◌}
use Rattle.std.proofs.Common.{if◌then◌else◌}
use Rattle.ncl_machine.proofs.FallingLaws.{unfed-at}
use Rattle.ncl_machine.proofs.TruthValues.{same_or_not, not_itself, differ_from_not, not-from_differ}
use Rattle.ncl_machine.proofs.NamedRails.{data-same}
use Rattle.ncl_machine.proofs.LocalNets.{local-at, in_stage, in_tree}
use Rattle.ncl_machine.proofs.StageNets.{in_bit, rail-listed, tree-listed}

-- ---- a TH22, TH33 or TH44

-- its set function is the conjunction of its inputs
set-is_all : (kind : Kind) → IsTreeKind kind → (ins : List Bool) → length ins ≡ arity_of kind → set_of kind ins ≡ all_high ins
set-is_all kind th22 = set_of-Th22
set-is_all kind th33 = set_of-Th33
set-is_all kind th44 = set_of-Th44

-- it has an input
pub some_input : (kind : Kind) (ins : List NetId) → IsTreeKind kind → length ins ≡ arity_of kind → (x : NetId) × Member x ins
some_input kind [] th22 arity = absurd (omega arith)
some_input kind [] th33 arity = absurd (omega arith)
some_input kind [] th44 arity = absurd (omega arith)
some_input kind (x ∷ xs) tree arity = (x, here)

high-at : (v : Nets) (net : NetId) (ins : List NetId) → all_high (pin_values v ins) ≡ true → Member net ins → v net.0 ≡ true
high-at v net ins all (here {xs = rest}) = (and_parts (v net.0) (all_high (pin_values v rest)) all).0
high-at v net ins all (there {y = y} {xs = rest} m) = high-at v net rest (and_parts (v y.0) (all_high (pin_values v rest)) all).1 m

-- hysteresis where the set is the conjunction: the next value is another only where all inputs have it
turning-inputs : (set some all old : Bool) → set ≡ all → (if set then true else (if some then old else false)) ≡ not old
    → ((old ≡ true) × (some ≡ false)) ⊎ ((old ≡ false) × (all ≡ true))
turning-inputs true some all true e t = absurd (both_ways true t refl)
turning-inputs true some all false e t = inr (refl, sym e)
turning-inputs false true all true e t = absurd (both_ways true t refl)
turning-inputs false true all false e t = absurd (both_ways false refl t)
turning-inputs false false all true e t = inl (refl, refl)
turning-inputs false false all false e t = absurd (both_ways false refl t)

-- so where it turns, each input has the other value
gate-turning : (kind : Kind) → IsTreeKind kind → (v : Nets) (ins : List NetId) (old : Bool) → length ins ≡ arity_of kind
    → next_of kind (pin_values v ins) old ≡ not old → (x : NetId) → Member x ins → v x.0 ≡ not old
gate-turning kind tree v ins old arity turns x m =
    let count : length (pin_values v ins) ≡ length ins = length-map ins (λ (net : NetId). v net.0) in
    elim (turning-inputs (set_of kind (pin_values v ins)) (some_high (pin_values v ins)) (all_high (pin_values v ins)) old (set-is_all kind tree (pin_values v ins) (omega (arith, count, arity))) turns) [
      | inl (high, none) ↦ unfed-at v x ins none m ∙ sym (ap not high)
      | inr (low, all) ↦ high-at v x ins all m ∙ sym (ap not low)
    ]

-- and where each input has, it turns
gate-turns : (kind : Kind) → IsTreeKind kind → (v : Nets) (ins : List NetId) (old : Bool) → length ins ≡ arity_of kind
    → ((x : NetId) → Member x ins → v x.0 ≡ not old) → next_of kind (pin_values v ins) old ≡ not old
gate-turns kind tree v ins true arity each = (next_of-hysteresis kind).falls (pin_values v ins) true (some_high-low v ins each)
gate-turns kind tree v ins false arity each =
    let count : length (pin_values v ins) ≡ length ins = length-map ins (λ (net : NetId). v net.0) in
    (next_of-hysteresis kind).rises (pin_values v ins) false (set-is_all kind tree (pin_values v ins) (omega (arith, count, arity)) ∙ all_high-from v ins each)

-- ---- what a cell of a tree reads

-- all that the cell reads is new to a wave: its bit, which in an even wave has data, or its nets of the tree,
-- which in an even wave are low. `bits` has the values of the bank's rails and `tree` those of the tree's nets;
-- `e` says that the wave is even
pub data ReadsNew (bits tree : Nets) (e : Bool) (c : Cell) : Type 0 where
  bit_new : c.kind ≡ Ack → some_high (pin_values bits c.ins.items) ≡ e → ReadsNew bits tree e c
  nets_new : (kind : Kind) → c.kind ≡ Gate kind → ((x : NetId) → Member x c.ins.items → tree x.0 ≡ not e) → ReadsNew bits tree e c

-- a cell that is new has read what is new
abbrev pub Follows : Nets → Nets → Bool → Cell → Type 0
Follows bits tree e c = tree c.out.0 ≡ not e → ReadsNew bits tree e c

no_both : (c : Cell) (kind : Kind) → c.kind ≡ Ack → c.kind ≡ Gate kind → ⊥
no_both c kind is_ack is_gate = let two : Ack ≡ Gate kind = sym is_ack ∙ is_gate in absurd cc

-- an acknowledge cell sees whether its bit has data
ack-reads : (v : Nets) (c : Cell) (r : Rails) → IsAckOn c r → some_high (pin_values v c.ins.items) ≡ has_data v r
ack-reads v c r on = ap (λ ins. some_high (pin_values v ins)) on.ins ∙ ap (λ q. v r.zero.0 || q) (or-false (v r.one.0))

-- of an acknowledge cell it is its bit that is new, and of a completion cell each net that it reads
pub bit-new : {bits tree : Nets} {e : Bool} (c : Cell) (r : Rails) → IsAckOn c r → ReadsNew bits tree e c → has_data bits r ≡ e
bit-new {bits = bits} c r on (bit_new is_ack new) = sym (ack-reads bits c r on) ∙ new
bit-new c r on (nets_new kind is_gate new) = absurd (no_both c kind on.ack is_gate)

pub reads-bit : (bits tree : Nets) (e : Bool) (c : Cell) (r : Rails) → IsAckOn c r → has_data bits r ≡ e → ReadsNew bits tree e c
reads-bit bits tree e c r on new = bit_new on.ack (ack-reads bits c r on ∙ new)

pub net-new : {bits tree : Nets} {e : Bool} (c : Cell) (kind : Kind) → c.kind ≡ Gate kind → ReadsNew bits tree e c → (x : NetId)
    → Member x c.ins.items → tree x.0 ≡ not e
net-new c kind is_gate (bit_new is_ack new) x m = absurd (no_both c kind is_ack is_gate)
net-new c kind is_gate (nets_new other is_other new) x m = new x m

module _ {p : PipelineData} {l : Layout} (is : IsLayoutOf p l) (k : ℕ) (lt : k < l.last) where
  -- cells of a tree with one output are one
  pub one_cell : (c d : Cell) → Member c (l.tree k) → Member d (l.tree k) → c.out.0 ≡ d.out.0 → c ≡ d
  one_cell =
      same_from_value net_of (l.tree k) (subst (λ nets. AllPairs (λ x y. x ≢ y) nets) (is.tree_outputs k lt) (is.trees_differ k (omega (arith, lt))))

  -- up the tree, by rank: what holds of each acknowledge cell, and of each completion cell where it holds of all
  -- the cells that it reads, holds of every cell
  pub up_the_tree : (P : Cell → Type 0)
      → ((c : Cell) → Member c (l.tree k) → (b : ℕ) → b < width l (suc k) → IsAckOf l k b c → P c)
      → ((c : Cell) → Member c (l.tree k) → (kind : Kind) → c.kind ≡ Gate kind → IsTreeKind kind → length c.ins.items ≡ arity_of kind → ((x : NetId) → Member x c.ins.items → (y : Cell) × Member y (l.tree k) × (y.out ≡ x) × P y) → P c)
      → (c : Cell) → Member c (l.tree k) → P c
  up_the_tree P acknowledge complete c m = up (suc (l.rank c.out.0)) c m (omega arith)
    where
      up : (bound : ℕ) (c : Cell) → Member c (l.tree k) → l.rank c.out.0 < bound → P c
      up zero c m below = absurd (omega (arith, below))
      up (suc bound) c m below = by_part (λ y in_y lower. up bound y in_y (omega (arith, below, lower))) (is.tree_cell k c lt m).1
        where
          by_part : ((y : Cell) → Member y (l.tree k) → l.rank y.out.0 < l.rank c.out.0 → P y) → TreePart l k c → P c
          by_part lower (acks b within on) = acknowledge c m b within on
          by_part lower (completes kind is_gate is_tree arity inputs) = complete c m kind is_gate is_tree arity (λ x r.
              let (y, in_y, out, rises) = inputs x r in
              (y, in_y, out, lower y in_y (subst (λ (z : NetId). l.rank z.0 < l.rank c.out.0) (sym out) rises)))

  -- what a cell reads stays new where the bits of its bank do, and the nets of its tree
  pub reads-more : {bits tree : Nets} {e : Bool} (more other : Nets) (c : Cell) → Member c (l.tree k)
      → ((b : ℕ) → b < width l (suc k) → has_data bits (in_bit l (suc k) b) ≡ e → has_data more (in_bit l (suc k) b) ≡ e)
      → ((net : ℕ) → tree net ≡ not e → other net ≡ not e) → ReadsNew bits tree e c → ReadsNew more other e c
  reads-more {bits} {tree} {e} more other c m bits_more nets_more reads = go (is.tree_cell k c lt m).1
    where
      go : TreePart l k c → ReadsNew more other e c
      go (acks b within on) = reads-bit more other e c (in_bit l (suc k) b) on (bits_more b within (bit-new c (in_bit l (suc k) b) on reads))
      go (completes kind is_gate is_tree arity inputs) = nets_new kind is_gate (λ x r. nets_more x.0 (net-new c kind is_gate reads x r))

  -- ---- one cell

  module _ (v : Nets) (e : Bool) (c : Cell) (m : Member c (l.tree k)) where
    -- what a cell of the tree reads, in its stage and in its tree
    bit-local : (b : ℕ) → b < width l (suc k) → has_data (in_stage l v (suc k)) (in_bit l (suc k) b) ≡ has_data v (in_bit l (suc k) b)
    bit-local b within = data-same v (in_stage l v (suc k)) (in_bit l (suc k) b) (rail false) (rail true)
      where
        rail : (r : Bool) → in_stage l v (suc k) (in_rail l (suc k) b r) ≡ v (in_rail l (suc k) b r)
        rail r = local-at (stage_nets l (suc k)) v (in_rail l (suc k) b r) (rail-listed (l.stage (suc k)) b r within)

    net-local : (y : Cell) (x : NetId) → Member y (l.tree k) → y.out ≡ x → in_tree l v k x.0 ≡ v x.0
    net-local y x in_y out = local-at (l.tree_nets k) v x.0 (subst (λ (z : NetId). Member z.0 (l.tree_nets k)) out (tree-listed is k y lt in_y))

    own-local : in_tree l v k c.out.0 ≡ v c.out.0
    own-local = net-local c c.out m refl

    -- an acknowledge cell asks for the contrary of what its bit has
    ack-next : (b : ℕ) → b < width l (suc k) → IsAckOn c (in_bit l (suc k) b)
        → next_value v c ≡ not (has_data (in_stage l v (suc k)) (in_bit l (suc k) b))
    ack-next b within on =
        ap (λ q. next_of_cell q (pin_values v c.ins.items) (v c.out.0)) on.ack
        ∙ ap not (ack-reads v c (in_bit l (suc k) b) on ∙ sym (bit-local b within))

    -- a cell whose next value is another is old to the wave, and all that it reads is new
    pub turning_is_old : Follows (in_stage l v (suc k)) (in_tree l v k) e c → differ (next_value v c) (v c.out.0) ≡ true
        → (v c.out.0 ≡ e) × ReadsNew (in_stage l v (suc k)) (in_tree l v k) e c
    turning_is_old follows turning = by_part (is.tree_cell k c lt m).1
      where
        turns : next_value v c ≡ not (v c.out.0)
        turns = not-from_differ _ _ turning

        follows_new : v c.out.0 ≡ not e → ReadsNew (in_stage l v (suc k)) (in_tree l v k) e c
        follows_new new = follows (own-local ∙ new)

        by_part : TreePart l k c → (v c.out.0 ≡ e) × ReadsNew (in_stage l v (suc k)) (in_tree l v k) e c
        by_part (acks b within on) =
            let r : Rails = in_bit l (suc k) b in
            let same : has_data (in_stage l v (suc k)) (in_bit l (suc k) b) ≡ v c.out.0 =
            sym (not-not _) ∙ ap not (sym (ack-next b within on) ∙ turns) ∙ not-not _ in
            elim (same_or_not (v c.out.0) e) [
              | inl old ↦ (old, reads-bit (in_stage l v (suc k)) (in_tree l v k) e c r on (same ∙ old))
              | inr new ↦ absurd (not_itself e (sym (bit-new c r on (follows_new new)) ∙ same ∙ new))
            ]
        by_part (completes kind is_gate is_tree arity inputs) =
            let read : (x : NetId) → Member x c.ins.items → in_tree l v k x.0 ≡ not (v c.out.0) = λ x r.
            let (y, in_y, out, rises) = inputs x r in
            net-local y x in_y out
            ∙ gate-turning kind is_tree v c.ins.items (v c.out.0) arity (sym (ap (λ q. next_of_cell q (pin_values v c.ins.items) (v c.out.0)) is_gate) ∙ turns) x r in
            elim (same_or_not (v c.out.0) e) [
              | inl old ↦ (old, nets_new kind is_gate (λ x r. read x r ∙ ap not old))
              | inr new ↦
                  let (x, r) = some_input kind c.ins.items is_tree arity in
                  absurd (not_itself (v c.out.0) (new ∙ sym (net-new c kind is_gate (follows_new new) x r) ∙ read x r))
            ]

    -- and where it is old and all that it reads is new, its next value is another
    pub old_is_turning : v c.out.0 ≡ e → ReadsNew (in_stage l v (suc k)) (in_tree l v k) e c → differ (next_value v c) (v c.out.0) ≡ true
    old_is_turning old reads = differ_from_not _ _ (by_part (is.tree_cell k c lt m).1)
      where
        by_part : TreePart l k c → next_value v c ≡ not (v c.out.0)
        by_part (acks b within on) = ack-next b within on ∙ ap not (bit-new c (in_bit l (suc k) b) on reads ∙ sym old)
        by_part (completes kind is_gate is_tree arity inputs) =
            ap (λ q. next_of_cell q (pin_values v c.ins.items) (v c.out.0)) is_gate
            ∙ gate-turns kind is_tree v c.ins.items (v c.out.0) arity (λ x r.
            let (y, in_y, out, rises) = inputs x r in
            sym (net-local y x in_y out) ∙ net-new c kind is_gate reads x r ∙ ap not (sym old))

  -- ---- the tree of a bank

  module _ {bits tree : Nets} {e : Bool} (follows : (c : Cell) → Member c (l.tree k) → Follows bits tree e c) where
    module _ (root : Cell) (root_in : Member root (l.tree k)) (is_root : root.out.0 ≡ l.root k) (root_new : ReadsNew bits tree e root) where
      -- what a cell reads is new, where the cell is the root or new
      read_is_new : (c : Cell) → Member c (l.tree k) → (c.out.0 ≡ l.root k) ⊎ (tree c.out.0 ≡ not e) → ReadsNew bits tree e c
      read_is_new c m (inl at_root) = subst (ReadsNew bits tree e) (one_cell root c root_in m (is_root ∙ sym at_root)) root_new
      read_is_new c m (inr new) = follows c m new

      -- each cell but the root is read by another; so from the root down, by the rank that is left to the top
      cell_is_new : (left : ℕ) (c : Cell) → Member c (l.tree k) → l.top ≤ l.rank c.out.0 + left → (c.out.0 ≡ l.root k) ⊎ (tree c.out.0 ≡ not e)
      cell_is_new zero c m past = absurd (let below = is.below_top k c lt m in omega (arith, below, past))
      cell_is_new (suc left) c m past =
          elim (is.is_read k c lt m) [
            | inl at_root ↦ inl at_root
            | inr (d, in_d, is_gate, reads) ↦ inr (by_part d in_d (λ rises. cell_is_new left d in_d (omega (arith, past, rises))) is_gate reads (is.tree_cell k d lt in_d).1)
          ]
        where
          by_part : (d : Cell) → Member d (l.tree k) → (l.rank c.out.0 < l.rank d.out.0 → (d.out.0 ≡ l.root k) ⊎ (tree d.out.0 ≡ not e))
              → IsGate d → Member c.out d.ins.items → TreePart l k d → tree c.out.0 ≡ not e
          by_part d in_d above (kind, is_gate) reads (acks b within on) = absurd (no_both d kind on.ack is_gate)
          by_part d in_d above gate reads (completes kind is_gate is_tree arity inputs) =
              let (y, in_y, out, rises) = inputs c.out reads in
              net-new d kind is_gate (read_is_new d in_d (above rises)) c.out reads

      -- where the root turns, every other cell and every bit is new
      pub others_are_new : ((c : Cell) → Member c (l.tree k) → (c.out.0 ≡ l.root k) ⊎ (tree c.out.0 ≡ not e)) × ((b : ℕ) → b < width l (suc k) → has_data bits (in_bit l (suc k) b) ≡ e)
      others_are_new = (
        λ c m. cell_is_new l.top c m (omega arith),
        λ b within.
            let (c, in_c, on) = is.ack_of k b lt within in
            bit-new c (in_bit l (suc k) b) on (read_is_new c in_c (cell_is_new l.top c in_c (omega arith))),
      )

    -- where every bit is new and no cell can turn, every cell is new
    pub all_are_new : ((b : ℕ) → b < width l (suc k) → has_data bits (in_bit l (suc k) b) ≡ e)
        → ((c : Cell) → Member c (l.tree k) → tree c.out.0 ≡ e → ReadsNew bits tree e c → ⊥) → (c : Cell) → Member c (l.tree k)
        → tree c.out.0 ≡ not e
    all_are_new full still =
        up_the_tree (λ c. tree c.out.0 ≡ not e)
        (λ c m b within on. turned c m (reads-bit bits tree e c (in_bit l (suc k) b) on (full b within)))
        (λ c m kind is_gate is_tree arity known. turned c m (nets_new kind is_gate (λ x r. let (y, in_y, out, new) = known x r in ap (λ (z : NetId). tree z.0) (sym out) ∙ new)))
      where
        turned : (c : Cell) → Member c (l.tree k) → ReadsNew bits tree e c → tree c.out.0 ≡ not e
        turned c m reads = elim (same_or_not (tree c.out.0) e) [ inl old ↦ absurd (still c m old reads) | inr new ↦ new ]

    -- where every bit is old, every cell is
    pub all_are_old : ((b : ℕ) → b < width l (suc k) → has_data bits (in_bit l (suc k) b) ≡ not e) → (c : Cell) → Member c (l.tree k) → tree c.out.0 ≡ e
    all_are_old none =
        up_the_tree (λ c. tree c.out.0 ≡ e)
        (λ c m b within on. old c (λ new. not_itself e (sym (bit-new c (in_bit l (suc k) b) on (follows c m new)) ∙ none b within)))
        (λ c m kind is_gate is_tree arity known. old c (λ new.
        let (x, r) = some_input kind c.ins.items is_tree arity in
        let (y, in_y, out, is_old) = known x r in
        not_itself e (sym is_old ∙ ap (λ (z : NetId). tree z.0) out ∙ net-new c kind is_gate (follows c m new) x r)))
      where
        old : (c : Cell) → (tree c.out.0 ≡ not e → ⊥) → tree c.out.0 ≡ e
        old c never = elim (same_or_not (tree c.out.0) e) [ inl is ↦ is | inr new ↦ absurd (never new) ]
