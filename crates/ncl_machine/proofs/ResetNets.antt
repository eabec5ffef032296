-- The nets that are high at reset, by the cells of the netlist: a bank holds a word where a cell of it is reset to 1, and
-- the nets of its completion tree are high where it holds none.
use Rattle.ncl_machine.proofs.Terms.{AckOf, AsksForData, B, Bank, Bool, Cell, CellAt, ComesFrom, Contains, Contains-from_Member, Contains-from_slice_get, IsAck, IsDataBank, IsDataOutput, IsFree, IsGate, IsLayoutOf, IsNetlist, IsReset, Layout, List, Member, Member-from_Contains, NetlistData, None, Option, Part, PipelineData, Shape, Some, TreePart, acks, and_from, and_parts, ap, arith, both_ways, cases_Bool, completes, data_is_register, data_nets, driver_of_ack, eq-eqb, eqb-true, false, false_from_ne_true, holds_rail, inl, inr, is_data_bank, is_data_register, is_some, laid_out_of, list_any-from_member, member_from_list_any, member_of_map, nat_eq, net_of, not, of_bank, of_stage, of_tree, one_origin, or_cases, or_left, or_right, refl, register_no_ack, register_no_gate, reset_nets, same_net, slice_get-from_Contains, slice_get_within, subst, suc, sym, tree_nets, true, width, ℕ, ◌&&◌, ◌<◌, ◌||◌, ◌↔◌, ◌∙◌, ◌≡◌, ◌⊎◌}
use Rattle.ncl_machine.proofs.NamedRails.{bit_at}
use Rattle.ncl_machine.proofs.StageNets.{root-listed, tree-listed}
use Rattle.ncl_machine.proofs.HeldCounts.{holds_word}
use Rattle.ncl_machine.proofs.Start.{held-named, of-tree, none-holds, tree-value}

module _ {p : PipelineData} {l : Layout} (is : IsLayoutOf p l) where
  abbrev n : NetlistData
  n = p.netlist

  -- the bank after stage k has a cell that is reset to 1 where it holds a word
  pub holds-data : (k : ℕ) → k < l.last → holds_word l k ≡ true → IsDataBank n (l.root (suc k))
  holds-data k lt some = by (l.held k) refl
    where
      by : (h : Option (List Bool)) → l.held k ≡ h → IsDataBank n (l.root (suc k))
      by None none = absurd (both_ways _ (ap is_some none) some)
      by (Some word) held =
          let within : 0 < width l (suc k) = (is.is_stage (suc k) lt).some_inputs in
          let (i, c, at, on) = is.register_at k 0 (bit_at word 0) lt within in
          let resets : is_data_register c.kind ≡ true = is.register_held k 0 (bit_at word 0) i c lt within at on ∙ ap (λ h. holds_rail h 0 (bit_at word 0)) held ∙ held-named word 0 in
          (c, (Contains-from_slice_get n.cells i c at, data_is_register c.kind resets, on.on_b), resets)

  -- and holds one where it has such a cell
  pub data-holds : (k : ℕ) → k < l.last → IsDataBank n (l.root (suc k)) → holds_word l k ≡ true
  data-holds k lt (c, of_c, resets) =
      let (i, at) = slice_get-from_Contains n.cells c of_c.0 in
      by_part i at (is.part_of i c at)
    where
      by_part : (i : ℕ) → CellAt n i c → Part l c → holds_word l k ≡ true
      by_part i at (of_bank m j r lm within on) =
          let roots : l.root (suc m) ≡ l.root (suc k) = same_net c B (l.root (suc m)) (l.root (suc k)) on.on_b of_c.2 in
          let both : suc m ≡ suc k = is.trees_apart (suc m) (suc k) (l.root (suc k)) lm lt (subst (λ x. Member x (l.tree_nets (suc m))) roots (root-listed is (suc m) lm)) (root-listed is (suc k) lt) in
          let same : m ≡ k = omega (arith, both) in
          let high : holds_rail (l.held k) j r ≡ true = ap (λ x. holds_rail (l.held x) j r) (sym same) ∙ sym (is.register_held m j r i c lm within at on) ∙ resets in
          elim (cases_Bool (holds_word l k)) [ inl some ↦ some | inr none ↦ absurd (none-holds is k j r none high) ]
      by_part i at (of_stage m g le mem same) = absurd (register_no_gate c.kind (data_is_register c.kind resets) g.kind same.kind)
      by_part i at (of_tree m lm mem) = absurd (by_sort (is.tree_cell m c lm mem).1)
        where
          by_sort : TreePart l m c → ⊥
          by_sort (acks b within on) = register_no_ack c.kind (data_is_register c.kind resets) on.ack
          by_sort (completes kind gate tree arity reads) = register_no_gate c.kind (data_is_register c.kind resets) kind gate

  -- what comes from the acknowledge cells of a bank is a net of its tree
  record InTree (net request : ℕ) : Type 0 where
    place : ℕ
    inside : place < l.last
    listed : Member net (l.tree_nets place)
    root : l.root (suc place) ≡ request

  in-tree : IsNetlist n → IsFree n → (net request : ℕ) → ComesFrom n net (AckOf request) → InTree net request
  in-tree netlist free net request from =
      let (c, in_c, out, sort) = driver_of_ack n net (AckOf request) request refl from in
      let (i, at) = slice_get-from_Contains n.cells c in_c in
      by_part c out sort (is.part_of i c at)
    where
      by_part : (c : Cell) → c.out.0 ≡ net → IsAck c ⊎ IsGate c → Part l c → InTree net request
      by_part c out sort (of_stage k g le m same) = absurd (is.gate_origin k request g le m (subst (λ x. ComesFrom n x (AckOf request)) (sym out ∙ same.out) from))
      by_part c out (inl is_ack) (of_bank k j r lt within on) = absurd (register_no_ack c.kind on.register is_ack)
      by_part c out (inr (kind, is_gate)) (of_bank k j r lt within on) = absurd (register_no_gate c.kind on.register kind is_gate)
      by_part c out sort (of_tree k lt m) =
          let same : AckOf (l.root (suc k)) ≡ AckOf request = one_origin n netlist free net (AckOf (l.root (suc k))) (AckOf request) (subst (λ x. ComesFrom n x (AckOf (l.root (suc k)))) out (is.tree_origin k c lt m)) from in
          record { place = k; inside = lt; listed = subst (λ x. Member x (l.tree_nets k)) out (tree-listed is k c lt m); root = cc }

  data-output : (net : ℕ) → IsDataOutput n net → data_nets n net ≡ true
  data-output net (c, in_c, resets, out) =
      list_any-from_member (λ (x : Cell). is_data_register x.kind && nat_eq x.out.0 net) c (Member-from_Contains n.cells c in_c)
      (and_from (is_data_register c.kind) _ resets (eq-eqb c.out.0 net out))

  output-data : (net : ℕ) → data_nets n net ≡ true → IsDataOutput n net
  output-data net high =
      let (c, m, passes) = member_from_list_any (λ (x : Cell). is_data_register x.kind && nat_eq x.out.0 net) n.cells high in
      let (resets, out) = and_parts (is_data_register c.kind) (nat_eq c.out.0 net) passes in
      (c, Contains-from_Member c m, resets, eqb-true c.out.0 net out)

  tree-asks : (net : ℕ) → tree_nets n net ≡ true → AsksForData n net
  tree-asks net high =
      let (j, lt, none, m) = of-tree is net high in
      let (c, in_tree, out) = member_of_map net_of (l.tree j) net (subst (Member net) (is.tree_outputs j lt) m) in (
        l.root (suc j),
        subst (λ x. ComesFrom n x (AckOf (l.root (suc j)))) out (is.tree_origin j c lt in_tree),
        λ data_bank. both_ways (holds_word l j) none (data-holds j lt data_bank),
      )

  is_reset : IsNetlist n → IsFree n → IsReset p (reset_nets p)
  is_reset netlist free = record {
    ki = or_left _ (data_nets n p.ki || tree_nets n p.ki) (eq-eqb p.ki p.ki refl);
    data_outputs = λ net output. or_right (nat_eq net p.ki) _ (or_left (data_nets n net) _ (data-output net output));
    asks = λ net (bank, from, plain).
        let t = in-tree netlist free net bank from in
        let none : holds_word l t.place ≡ false = false_from_ne_true _ (λ some. plain (subst (IsDataBank n) t.root (holds-data t.place t.inside some))) in
        tree-value is t.place net (let lt = t.inside in omega (arith, lt)) t.listed ∙ ap not none;
    holds = λ net bank from data_bank.
        let t = in-tree netlist free net bank from in
        let some : holds_word l t.place ≡ true = data-holds t.place t.inside (subst (IsDataBank n) (sym t.root) data_bank) in
        tree-value is t.place net (let lt = t.inside in omega (arith, lt)) t.listed ∙ ap not some;
    only = λ net high. elim (or_cases _ _ high) [
      | inl ki ↦ inl (eqb-true net p.ki ki)
      | inr cell ↦ elim (or_cases _ _ cell) [
        | inl held ↦ inr (inl (output-data net held))
        | inr asks ↦ inr (inr (tree-asks net asks))
      ]
    ];
  }

  -- a bank of the pipeline is one that is reset to DATA by its bits where it is one by its cells
  bank-by_cells : (b : Bank) → Contains p.banks b → (is_data_bank b ≡ true) ↔ IsDataBank n b.request.0
  bank-by_cells b in_banks =
      let (k, at) = slice_get-from_Contains p.banks b in_banks in
      let within = slice_get_within p.banks k b at in
      let count = is.bank_count in
      let lt : k < l.last = omega (arith, within, count) in
      let named : b.request.0 ≡ l.root (suc k) = is.bank_request k b at in
      let told : holds_word l k ≡ is_data_bank b = is.bank_held k b at in (
        (λ data_is. subst (IsDataBank n) (sym named) (holds-data k lt (told ∙ data_is))),
        λ data_bank. sym told ∙ data-holds k lt (subst (IsDataBank n) named data_bank),
      )

pub reset_of : (m : NetlistData) (p : PipelineData) → Shape m p → IsReset p (reset_nets p)
reset_of m p shape =
    let (l, is) = laid_out_of m p shape in
    is_reset is (subst IsNetlist (sym shape.netlist) shape.is_netlist) (subst IsFree (sym shape.netlist) shape.free)

pub data_bank_by_cells : (m : NetlistData) (p : PipelineData) → Shape m p → (b : Bank) → Contains p.banks b → (is_data_bank b ≡ true) ↔ IsDataBank m b.request.0
data_bank_by_cells m p shape b in_banks =
    let (l, is) = laid_out_of m p shape in
    subst (λ x. (is_data_bank b ≡ true) ↔ IsDataBank x b.request.0) shape.netlist (bank-by_cells is b in_banks)
