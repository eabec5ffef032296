-- The start: the invariant holds there, and all is quiet at reset.
use Rattle.ncl_insensitivity.proofs.Terms.{AreNear, Bool, Cell, Fire, Follows, IsLayoutOf, IsQuiet, IsRegisterOf, Layout, List, Lower, Member, Member-get_or, NetId, NetlistData, Nets, None, Option, Part, PipelineData, Raise, Ready, Shape, Some, StageCell, Take, TreePart, [], acks, ahead, among, among-from_member, and_left, and_right, ap, arith, bit-new, bit_at, both_ways, completes, data_banks, differ, equal, even, even-double, false, false_from_ne_true, from-falls, from-past, from-step, get_or, half, has_data, held-count, held-net, held_from, held_in, held_in_all, holds_word, in_bit, in_rail, in_stage, in_tree, is_data, is_excited, is_some, ki-listed, laid_out_of, length, list_all-member, named-has, named_rails, net-new, next-from_unfed, next_of_gate, next_value, no_nets, no_rails, none-holds, none_past, not, not_from_true, of_bank, of_stage, of_tree, one_if, or_from, out-listed, out_of, out_rail, output-listed, rail-data, rail-listed, refl, reset, reset_nets, root-listed, slice_get, some_high-low, some_input, source-null, stage-held, stage-none, stage-value, stage_nets, start-even, start-half, start_number, subst, suc, sym, tree-at, tree-listed, tree-value, true, turning_is_old, width, zero, ℕ, ◌<◌, ◌∙◌, ◌≡◌, ◌≤◌}
use Rattle.ncl_insensitivity.proofs.Invariant.{AreAt, HasInvariant, IsPhase, phase-empty, phase-named, phase-none}
pub use Rattle.ncl_insensitivity.proofs.OfferedWords.{under-own, waves-are, waves_of, word_under}
use Rattle.ncl_insensitivity.proofs.NextValues.{gate-excitation, register-turns}

-- ---- at reset the invariant holds, with the numbers with which the banks start

module _ {p : PipelineData} {l : Layout} (is : IsLayoutOf p l) where
  -- a bank that holds nothing is NULL, and one that holds a word has DATA in each bit
  null-at : (k t : ℕ) → k ≤ l.last → held_in l k ≡ None → even t ≡ true → AreAt l k (in_stage l (reset_nets p) k) t
  null-at k t le none ev b lt = ap (λ v. has_data v (in_bit l k b)) (stage-none is k le none) ∙ ap not (sym ev)

  data-at : (k t : ℕ) (word : List Bool) → l.held k ≡ Some word → even t ≡ false → AreAt l (suc k) (in_stage l (reset_nets p) (suc k)) t
  data-at k t word held od b lt =
      ap (λ v. has_data v (in_bit l (suc k) b)) (stage-held is k word held)
      ∙ rail-data (among (named_rails (l.stage (suc k)).inputs word)) (l.stage (suc k)).inputs b (bit_at word b) (among-from_member _ (named-has (l.stage (suc k)).inputs word (is.held_wide k word held).1 b lt))
      ∙ ap not (sym od)

  -- whether a bank holds a word
  held-or-none : (k : ℕ) (P : Type 0) → (l.held k ≡ None → P) → ((word : List Bool) → l.held k ≡ Some word → P) → P
  held-or-none k P none some = by (l.held k) refl
    where
      by : (o : Option (List Bool)) → l.held k ≡ o → P
      by None e = none e
      by (Some word) e = some word e

  one-of : (k : ℕ) (o : Option (List Bool)) → l.held k ≡ o → one_if (holds_word l k) ≡ one_if (is_some o)
  one-of k o e = ap (λ x. one_if (is_some x)) e

  -- the bank after one that holds a word holds none
  none-after : (k : ℕ) (word : List Bool) → l.held k ≡ Some word → l.held (suc k) ≡ None
  none-after k word held = held-or-none (suc k) (l.held (suc k) ≡ None) (λ none. none) (λ other some. absurd (is.held_apart k word other held some))

  -- neighbours
  near-source : AreNear (AreAt l 0 (in_stage l (reset_nets p) 0)) (start_number l 0) (start_number l 1)
  near-source =
      let step = from-step is 0 in
      held-or-none 0 (AreNear (AreAt l 0 (in_stage l (reset_nets p) 0)) (start_number l 0) (start_number l 1))
      (λ none. let no = one-of 0 None none in equal (omega (arith, step, no)))
      (λ word some. let one = one-of 0 (Some word) some in ahead (omega (arith, step, one)) (null-at 0 (start_number l 0) (omega arith) refl (even-double (held_in_all l))))

  near-bank : (k : ℕ) → suc k ≤ l.last → AreNear (AreAt l (suc k) (in_stage l (reset_nets p) (suc k))) (start_number l (suc k)) (start_number l (suc (suc k)))
  near-bank k le =
      let step = from-step is (suc k) in
      held-or-none k (AreNear (AreAt l (suc k) (in_stage l (reset_nets p) (suc k))) (start_number l (suc k)) (start_number l (suc (suc k))))
      (λ none.
      let no = one-of k None none in
      held-or-none (suc k) (AreNear (AreAt l (suc k) (in_stage l (reset_nets p) (suc k))) (start_number l (suc k)) (start_number l (suc (suc k))))
      (λ none_after. let no_after = one-of (suc k) None none_after in equal (omega (arith, step, no, no_after)))
      (λ word some.
      let one = one-of (suc k) (Some word) some in
      ahead (omega (arith, step, no, one)) (null-at (suc k) (start_number l (suc k)) le none (start-even is k ∙ ap (λ o. not (is_some o)) none))))
      (λ word some.
      let one = one-of k (Some word) some in
      let no_after = one-of (suc k) None (none-after k word some) in
      ahead (omega (arith, step, one, no_after)) (data-at k (start_number l (suc k)) word some (start-even is k ∙ ap (λ o. not (is_some o)) some)))

  near : (k : ℕ) → k ≤ l.last → AreNear (AreAt l k (in_stage l (reset_nets p) k)) (start_number l k) (start_number l (suc k))
  near zero le = near-source
  near (suc k) le = near-bank k le

  -- the bank before one that holds a word is NULL
  none-before : (k : ℕ) (word : List Bool) → l.held k ≡ Some word → held_in l k ≡ None
  none-before zero word held = refl
  none-before (suc k) word held = held-or-none k (l.held k ≡ None) (λ none. none) (λ other some. absurd (is.held_apart k other word some held))

  -- each stage rises with the word that the bank before it holds, or waits for one, or is empty before one that falls
  phase-at : (offered : List (List Bool)) (k : ℕ) → k ≤ l.last → (e : Bool) → even (start_number l (suc k)) ≡ e
      → IsPhase (l.stage k) e (word_under l offered (half (start_number l (suc k))) k) (in_stage l (reset_nets p) k)
  phase-at offered k le true ev = by k le ev
    where
      by : (k : ℕ) → k ≤ l.last → even (start_number l (suc k)) ≡ true → IsPhase (l.stage k) true (word_under l offered (half (start_number l (suc k))) k) (in_stage l (reset_nets p) k)
      by zero le ev = subst (IsPhase (l.stage 0) true _) (sym (stage-none is 0 le refl)) (phase-none (l.stage 0) _)
      by (suc k) le ev =
          held-or-none k (IsPhase (l.stage (suc k)) true (word_under l offered (half (start_number l (suc (suc k)))) (suc k)) (in_stage l (reset_nets p) (suc k)))
          (λ none. subst (IsPhase (l.stage (suc k)) true _) (sym (stage-none is (suc k) le none)) (phase-none (l.stage (suc k)) _))
          (λ word some.
          let step = from-step is (suc k) in
          let no_after = one-of (suc k) None (none-after k word some) in
          let same : held_from l (suc k) ≡ half (start_number l (suc (suc k))) = (let e : held_from l (suc k) ≡ held_from l (suc (suc k)) = omega (arith, step, no_after) in e) ∙ sym (start-half is (suc k)) in
          let own : word ≡ word_under l offered (half (start_number l (suc (suc k)))) (suc k) = sym (under-own is offered k word some) ∙ ap (λ i. word_under l offered i (suc k)) same in
          subst (IsPhase (l.stage (suc k)) true (word_under l offered (half (start_number l (suc (suc k)))) (suc k))) (sym (stage-held is k word some))
          (subst (λ w. IsPhase (l.stage (suc k)) true w (among (named_rails (l.stage (suc k)).inputs word))) own (phase-named (is.is_stage (suc k) le) word)))
  phase-at offered k le false od =
      held-or-none k (IsPhase (l.stage k) false (word_under l offered (half (start_number l (suc k))) k) (in_stage l (reset_nets p) k))
      (λ none. absurd (both_ways _ od (start-even is k ∙ ap (λ o. not (is_some o)) none)))
      (λ word some. subst (IsPhase (l.stage k) false _) (sym (stage-none is k le (none-before k word some))) (phase-empty (l.stage k) _))

  pub reset-kept : (offered : List (List Bool)) → HasInvariant l (waves_of l offered) offered (reset p offered)
  reset-kept offered = record {
    numbers = start_number l;
    nets = record {
      near = near;
      order = let step = from-step is 0 in held-or-none 0 (start_number l 1 ≤ start_number l 0)
          (λ none. let no = one-of 0 None none in omega (arith, step, no))
          (λ word some. let one = one-of 0 (Some word) some in omega (arith, step, one));
      least = λ k le. omega arith;
      asks = λ k le. tree-at is k (l.root k) le (root-listed is k le) ∙ sym (start-even is k);
      follows = λ k z lt m is_new.
          let value = tree-at is k z.out.0 (omega (arith, lt)) (tree-listed is k z lt m) ∙ sym (start-even is k) in
          absurd (differs (even (start_number l (suc k))) (sym value ∙ is_new));
      phases = λ k le. phase-at offered k le (even (start_number l (suc k))) refl;
      up = λ k j r lt within ev high.
          held-or-none k (in_stage l (reset_nets p) k (out_rail l k j r) ≡ true)
          (λ none. absurd (both_ways false refl (sym (ap (λ v. v (in_rail l (suc k) j r)) (stage-none is (suc k) lt none)) ∙ high)))
          (λ word some. absurd (both_ways _ (start-even is k ∙ ap (λ o. not (is_some o)) some) ev));
      down = λ k j r lt within od high.
          held-or-none k (in_stage l (reset_nets p) (suc k) (in_rail l (suc k) j r) ≡ true)
          (λ none. absurd (both_ways _ od (start-even is k ∙ ap (λ o. not (is_some o)) none)))
          (λ word some. absurd (both_ways false refl (sym (ap (λ v. v (out_rail l k j r)) (stage-none is k (omega (arith, lt)) (none-before k word some))) ∙ high)));
    };
    ends = record {
      offers = refl;
      given = omega arith;
      taken =
          let ki : reset_nets p (l.root l.last) ≡ not (holds_word l l.last) = tree-value is l.last (l.root l.last) (omega arith) (root-listed is l.last (omega arith)) in
          let none : holds_word l l.last ≡ false = none_past is l.last (omega arith) in
          let low : one_if (not (reset_nets p (l.root l.last))) ≡ 0 = ap (λ x. one_if (not x)) (ki ∙ ap not none) in
          let no : one_if (holds_word l l.last) ≡ 0 = ap one_if none in
          let past = from-past is in
          omega (arith, low, no, past);
      few = omega arith;
      finished = λ e b lt. source-null is b;
      some_old = (0, let some : 1 ≤ width l 0 = (is.is_stage 0 (omega arith)).some_inputs in omega (arith, some), source-null is 0 ∙ ap not (sym (even-double (held_in_all l))));
      carried = λ i pair at. absurd cc;
    };
  }
    where
      differs : (x : Bool) → x ≡ not x → ⊥
      differs true e = both_ways true (e) refl
      differs false e = both_ways false refl (e)

-- ---- at reset with no word offered nothing can move where no bank holds a word: the stages are empty, and every tree asks
-- for DATA

module _ {p : PipelineData} {l : Layout} (is : IsLayoutOf p l) (none : (k : ℕ) → holds_word l k ≡ false) where
  abbrev v : Nets
  v = reset_nets p

  none-held : (k : ℕ) → held_in l k ≡ None
  none-held zero = refl
  none-held (suc k) = by (l.held k) (none k)
    where
      by : (o : Option (List Bool)) → is_some o ≡ false → o ≡ None
      by None e = refl
      by (Some word) e = absurd (both_ways true e refl)

  stage-low : (k net : ℕ) → k ≤ l.last → Member net (stage_nets l k) → reset_nets p net ≡ false
  stage-low k net le m =
      stage-value is k net le m
      ∙ false_from_ne_true _ (λ high. let h = held-net is net high in none-holds is h.bank h.bit h.rail (none h.bank) h.held)

  tree-high : (k net : ℕ) → k ≤ l.last → Member net (l.tree_nets k) → reset_nets p net ≡ true
  tree-high k net le m = tree-value is k net le m ∙ ap not (none k)

  tree-up : (k net : ℕ) → k ≤ l.last → Member net (l.tree_nets k) → in_tree l (reset_nets p) k net ≡ true
  tree-up k net le m = tree-at is k net le m ∙ ap not (none k)

  stage-still : (k : ℕ) → k ≤ l.last → in_stage l (reset_nets p) k ≡ no_nets
  stage-still k le = stage-none is k le (none-held k)

  -- a gate reads low nets alone, and is low
  gate-still : (g : StageCell) → differ (next_of_gate no_nets g) (no_nets (out_of g)) ≡ false
  gate-still g = ap (λ x. differ x false) (next-from_unfed no_nets g (some_high-low no_nets g.ins.items (λ x r. refl)))

  -- a register cell and its A net are low
  register-still : (c : Cell) (k j : ℕ) (r : Bool) → k < l.last → j < width l (suc k) → IsRegisterOf l k j r c → differ (next_value v c) (v c.out.0) ≡ true → ⊥
  register-still c k j r lt within on excited =
      let (a_turned, b_turned) = register-turns v c (out_rail l k j r) (l.root (suc k)) (in_rail l (suc k) j r) on excited in
      let z_low : v (in_rail l (suc k) j r) ≡ false = stage-low (suc k) (in_rail l (suc k) j r) lt (rail-listed (l.stage (suc k)) j r within) in
      both_ways _ (stage-low k (out_rail l k j r) (omega (arith, lt)) (out-listed is k j r lt within)) (a_turned ∙ ap not z_low)

  -- a cell of a tree is high; were it to turn, it would read a bit with DATA, or a low net of its tree
  tree-still : (c : Cell) (k : ℕ) → k < l.last → Member c (l.tree k) → differ (next_value v c) (v c.out.0) ≡ true → ⊥
  tree-still c k lt m excited = by_part (is.tree_cell k c lt m).1
    where
      le : k ≤ l.last
      le = omega (arith, lt)

      follows : Follows (in_stage l (reset_nets p) (suc k)) (in_tree l (reset_nets p) k) true c
      follows low = absurd (both_ways _ low (tree-up k c.out.0 le (tree-listed is k c lt m)))

      by_part : TreePart l k c → ⊥
      by_part (acks b within on) =
          both_ways _ (ap (λ u. has_data u (in_bit l (suc k) b)) (stage-still (suc k) lt))
          (bit-new c (in_bit l (suc k) b) on (turning_is_old is k lt v true c m follows excited).1)
      by_part (completes kind is_gate is_tree arity inputs) =
          let (x, r) = some_input kind c.ins.items is_tree arity in
          let (y, in_y, out, rises) = inputs x r in
          both_ways _ (net-new c kind is_gate (turning_is_old is k lt v true c m follows excited).1 x r)
          (subst (λ z. in_tree l v k z ≡ true) (ap (λ (z : NetId). z.0) out) (tree-up k y.out.0 le (tree-listed is k y lt in_y)))

  cell-still : (o : Option Cell) (i : ℕ) → slice_get p.netlist.cells i ≡ o → is_excited v o ≡ false
  cell-still None i at = refl
  cell-still (Some c) i at = false_from_ne_true _ (λ excited. by_part excited (is.part_of i c at))
    where
      by_part : differ (next_value (reset_nets p) c) (reset_nets p c.out.0) ≡ true → Part l c → ⊥
      by_part excited (of_stage k g le m same) =
          both_ways _ (gate-still g)
          (subst (λ u. differ (next_of_gate u g) (u (out_of g)) ≡ true) (stage-still k le) (sym (gate-excitation (is.is_stage k le) v c g m same) ∙ excited))
      by_part excited (of_bank k j r lt within on) = register-still c k j r lt within on excited
      by_part excited (of_tree k lt m) = tree-still c k lt m excited

  -- the outputs are NULL, and the sink asks for DATA
  outputs-null : is_data p.outputs (reset_nets p) ≡ false
  outputs-null = false_from_ne_true _ (λ all.
      let some : 1 ≤ length (l.stage l.last).outputs = (is.is_stage l.last (omega arith)).some_outputs in
      let data_first = list_all-member (has_data v) (l.stage l.last).outputs (subst (λ bits. is_data bits v ≡ true) (sym is.sink) all) (get_or (l.stage l.last).outputs 0 no_rails) (Member-get_or (l.stage l.last).outputs 0 no_rails (omega (arith, some))) in
      let low : (r : Bool) → v (out_rail l l.last 0 r) ≡ false = λ r. stage-low l.last (out_rail l l.last 0 r) (omega arith) (output-listed (is.is_stage l.last (omega arith)) 0 r (omega (arith, some))) in
      both_ways _ (or_from _ _ (low false) (low true)) data_first)

  quiet_at_reset : IsQuiet p (reset p [])
  quiet_at_reset (Fire i) = cell-still (slice_get p.netlist.cells i.0) i.0 refl
  quiet_at_reset (Raise b) = and_right (reset_nets p p.ko) false refl
  quiet_at_reset (Lower b) = refl
  quiet_at_reset Take = and_right (reset_nets p p.ki) _ outputs-null
  quiet_at_reset Ready = and_left (not (reset_nets p p.ki)) _ (not_from_true _ (tree-high l.last p.ki (omega arith) (ki-listed is)))

pub quiet_at_reset_of : (n : NetlistData) (p : PipelineData) → Shape n p → data_banks p.banks ≡ 0 → IsQuiet p (reset p [])
quiet_at_reset_of n p shape nothing = let (l, is) = laid_out_of n p shape in quiet_at_reset is (none-held-in is (held-count is ∙ nothing))
  where
    none-held-in : {l : Layout} → (is : IsLayoutOf p l) → held_in_all l ≡ 0 → (k : ℕ) → holds_word l k ≡ false
    none-held-in {l} is zeros k = by (holds_word l k) refl
      where
        by : (q : Bool) → holds_word l k ≡ q → holds_word l k ≡ false
        by false e = e
        by true e =
            let step = from-step is k in
            let falls = from-falls is 0 k (omega arith) in
            let one : one_if (holds_word l k) ≡ 1 = ap one_if e in
            absurd (omega (arith, zeros, step, falls, one))
