-- The nets that cells drive high at reset, by their sources, are those of the banks that hold words and of the trees of
-- the others.
use Rattle.ncl_machine.proofs.Terms.{Ack, AckOf, AreOrigins, B, Bool, Cell, CellAt, CellKind, ComesFrom, Contains-from_Member, Contains-from_slice_get, FromAck, Gate, IsCell, IsFree, IsLayoutOf, IsNetlist, IsSourceOf, Layout, Many, Member, Member-from_Contains, NetId, NetlistData, OriginsData, Part, PipelineData, Port, Rail, Shape, Source, TreePart, ack_of_bank, acks, and_from, and_parts, ap, arith, asks_for_data, bank_of_mark, both_ways, by_register, cases_Bool, cell_fits, cell_starts_high, completes, cond, data_nets, driven_high, drives_high, eq-eqb, eqb-true, false, false_from_ne_true, get_or, inl, inr, is_data_register, laid_out_of, length, list_any-from_member, mark_of_bank, member_from_list_any, member_of_map, nat_eq, net_of, not, of_bank, of_stage, of_tree, on_pin_within, one_origin, or_cases, refl, reset_nets, same_driver, same_from_both, slice_get-from_Contains, source_at, stage_nets, starts_high, subst, suc, sym, tree_nets, true, ℕ, ◌&&◌, ◌<◌, ◌||◌, ◌∙◌, ◌≡◌, ◌≤◌}
use Rattle.ncl_machine.proofs.StageNets.{rail-listed, gate-listed, root-listed, tree-listed}
use Rattle.ncl_machine.proofs.HeldCounts.{holds_word}
use Rattle.ncl_machine.proofs.Start.{of-tree, in-trees}
use Rattle.ncl_machine.proofs.ResetNets.{holds-data, data-holds}

-- the bank of an acknowledge cell is a net
pub bank_within : (n : NetlistData) → IsNetlist n → (net : ℕ) (bank : NetId) → IsSourceOf n net (FromAck bank) → bank.0 < length n.nets
bank_within n is net bank is_source =
    let (c, acks_it) = ack_of_bank n net (AckOf bank.0) bank.0 refl is_source.comes in
    let (r, of_r, on) = acks_it.2 in
    on_pin_within n is r of_r.0 B bank.0 of_r.2

module _ {p : PipelineData} {l : Layout} (is : IsLayoutOf p l) (netlist : IsNetlist p.netlist) (free : IsFree p.netlist) (o : OriginsData) (are : AreOrigins p.netlist o) where
  abbrev n : NetlistData
  n = p.netlist

  -- the net of a cell is one of a data register where the cell is one
  own-data : (c : Cell) → IsCell n c → data_nets n c.out.0 ≡ is_data_register c.kind
  own-data c in_c =
      same_from_both _ _
      (λ high.
      let (d, m, passes) = member_from_list_any (λ (x : Cell). is_data_register x.kind && nat_eq x.out.0 c.out.0) n.cells high in
      let (resets, out) = and_parts (is_data_register d.kind) (nat_eq d.out.0 c.out.0) passes in
      let same : d ≡ c = same_driver n netlist d c (Contains-from_Member d m) in_c (eqb-true d.out.0 c.out.0 out) in
      ap (λ (x : Cell). is_data_register x.kind) (sym same) ∙ resets)
      (λ resets. list_any-from_member (λ (x : Cell). is_data_register x.kind && nat_eq x.out.0 c.out.0) c (Member-from_Contains n.cells c in_c)
      (and_from (is_data_register c.kind) _ resets (eq-eqb c.out.0 c.out.0 refl)))

  -- a bank is marked where it holds a word
  marked : (k : ℕ) → (lt : k < l.last) → get_or o.data_banks (l.root (suc k)) false ≡ holds_word l k
  marked k lt =
      same_from_both _ _
      (λ high. data-holds is k lt (bank_of_mark n o.data_banks are.data_banks (l.root (suc k)) inside high))
      (λ some. mark_of_bank n o.data_banks are.data_banks (l.root (suc k)) inside (holds-data is k lt some))
    where
      inside : l.root (suc k) < length n.nets
      inside = is.tree_within (suc k) (l.root (suc k)) lt (root-listed is (suc k) lt)

  -- what an acknowledge or completion cell has at reset
  tree-asks : (k : ℕ) (c : Cell) → k < l.last → Member c (l.tree k) → asks_for_data o.data_banks (source_at o.sources c.out.0) ≡ not (holds_word l k)
  tree-asks k c lt m =
      by (source_at o.sources c.out.0) (are.sources.each c.out.0 (cell_fits n netlist c (is.tree_cell k c lt m).0).output)
    where
      origin : ComesFrom n c.out.0 (AckOf (l.root (suc k)))
      origin = is.tree_origin k c lt m

      by : (s : Source) → IsSourceOf n c.out.0 s → asks_for_data o.data_banks s ≡ not (holds_word l k)
      by (FromAck bank) only =
          let clash : AckOf (l.root (suc k)) ≡ AckOf bank.0 = only.only (AckOf (l.root (suc k))) origin in
          let same : l.root (suc k) ≡ bank.0 = cc in
          ap (λ x. not (get_or o.data_banks x false)) (sym same) ∙ ap not (marked k lt)
      by (Rail bank) only = let clash = only.only (AckOf (l.root (suc k))) origin in absurd cc
      by Port only = let clash = only.only (AckOf (l.root (suc k))) origin in absurd cc
      by Many two = absurd (two.differ (one_origin n netlist free c.out.0 two.one two.two two.is_one two.is_two))

  -- a net of a tree is one of those that ask where its bank holds nothing, and a net of a stage is none
  tree-net : (k : ℕ) (c : Cell) → k < l.last → Member c (l.tree k) → tree_nets n c.out.0 ≡ not (holds_word l k)
  tree-net k c lt m =
      elim (cases_Bool (holds_word l k)) [
        | inl some ↦
            false_from_ne_true _ (λ high.
            let (j, lj, none, mj) = of-tree is c.out.0 high in
            let same : j ≡ k = is.trees_apart j k c.out.0 (omega (arith, lj)) (omega (arith, lt)) mj (tree-listed is k c lt m) in
            both_ways (holds_word l k) (ap (holds_word l) (sym same) ∙ none) some)
            ∙ sym (ap not some)
        | inr none ↦ in-trees is k lt none c m ∙ sym (ap not none)
      ]

  no-tree : (k net : ℕ) → k ≤ l.last → Member net (stage_nets l k) → tree_nets n net ≡ false
  no-tree k net le m = false_from_ne_true _ (λ high. let (j, lt, none, mj) = of-tree is net high in is.apart k j net le (omega (arith, lt)) m mj)

  either : (a b x y : Bool) → a ≡ x → b ≡ y → (a || b) ≡ (x || y)
  either a b x y e f = ap (λ q. q || b) e ∙ ap (λ q. x || q) f

  or_none : (q : Bool) → (q || false) ≡ q
  or_none true = refl
  or_none false = refl

  -- each cell drives its net as it is at reset
  cell-starts : (c : Cell) (i : ℕ) → CellAt n i c → cell_starts_high o c ≡ (data_nets n c.out.0 || tree_nets n c.out.0)
  cell-starts c i at = by_part (is.part_of i c at)
    where
      in_c : IsCell n c
      in_c = Contains-from_slice_get n.cells i c at

      by_part : Part l c → cell_starts_high o c ≡ (data_nets n c.out.0 || tree_nets n c.out.0)
      by_part (of_stage k g le m same) =
          ap (starts_high o.data_banks (source_at o.sources c.out.0)) same.kind
          ∙ by_source (source_at o.sources c.out.0) (are.sources.each c.out.0 (cell_fits n netlist c in_c).output)
          ∙ sym (either _ _ false false (own-data c in_c ∙ ap is_data_register same.kind) (no-tree k c.out.0 le (subst (λ x. Member x (stage_nets l k)) (sym same.out) (gate-listed (l.stage k) g m))))
        where
          by_source : (s : Source) → IsSourceOf n c.out.0 s → asks_for_data o.data_banks s ≡ false
          by_source (FromAck bank) only = absurd (is.gate_origin k bank.0 g le m (subst (λ x. ComesFrom n x (AckOf bank.0)) same.out only.comes))
          by_source (Rail bank) only = refl
          by_source Port only = refl
          by_source Many two = refl
      by_part (of_bank k j r lt within on) =
          by_register (λ q. starts_high o.data_banks (source_at o.sources c.out.0) q ≡ is_data_register q) refl refl c.kind on.register
          ∙ sym (either _ _ (is_data_register c.kind) false (own-data c in_c) (no-tree (suc k) c.out.0 lt (subst (λ x. Member x (stage_nets l (suc k))) (sym on.out) (rail-listed (l.stage (suc k)) j r within))) ∙ or_none (is_data_register c.kind))
      by_part (of_tree k lt m) = by_sort (is.tree_cell k c lt m).1
        where
          as_asked : (q : CellKind) → c.kind ≡ q → is_data_register q ≡ false → starts_high o.data_banks (source_at o.sources c.out.0) q ≡ asks_for_data o.data_banks (source_at o.sources c.out.0)
              → cell_starts_high o c ≡ (data_nets n c.out.0 || tree_nets n c.out.0)
          as_asked q kind plain starts =
              ap (starts_high o.data_banks (source_at o.sources c.out.0)) kind ∙ starts ∙ tree-asks k c lt m
              ∙ sym (either _ _ false (not (holds_word l k)) (own-data c in_c ∙ ap is_data_register kind ∙ plain) (tree-net k c lt m))

          by_sort : TreePart l k c → cell_starts_high o c ≡ (data_nets n c.out.0 || tree_nets n c.out.0)
          by_sort (acks b within on) = as_asked Ack on.ack refl refl
          by_sort (completes kind gate tree arity reads) = as_asked (Gate kind) gate refl refl

  driven-value : (net : ℕ) → driven_high o n.cells net ≡ (data_nets n net || tree_nets n net)
  driven-value net = same_from_both _ _ to from
    where
      to : driven_high o n.cells net ≡ true → (data_nets n net || tree_nets n net) ≡ true
      to high =
          let (c, m, passes) = member_from_list_any (drives_high o net) n.cells high in
          let (starts, out) = and_parts (cell_starts_high o c) (nat_eq c.out.0 net) passes in
          let (i, at) = slice_get-from_Contains n.cells c (Contains-from_Member c m) in
          subst (λ x. (data_nets n x || tree_nets n x) ≡ true) (eqb-true c.out.0 net out) (sym (cell-starts c i at) ∙ starts)

      by_cell : (c : Cell) → IsCell n c → c.out.0 ≡ net → (data_nets n net || tree_nets n net) ≡ true → driven_high o n.cells net ≡ true
      by_cell c in_c out high =
          let (i, at) = slice_get-from_Contains n.cells c in_c in
          list_any-from_member (drives_high o net) c (Member-from_Contains n.cells c in_c)
          (and_from (cell_starts_high o c) _ (cell-starts c i at ∙ subst (λ x. (data_nets n x || tree_nets n x) ≡ true) (sym out) high) (eq-eqb c.out.0 net out))

      from : (data_nets n net || tree_nets n net) ≡ true → driven_high o n.cells net ≡ true
      from high = elim (or_cases _ _ high) [
        | inl held ↦
            let (c, m, passes) = member_from_list_any (λ (x : Cell). is_data_register x.kind && nat_eq x.out.0 net) n.cells held in
            by_cell c (Contains-from_Member c m) (eqb-true c.out.0 net (and_parts (is_data_register c.kind) (nat_eq c.out.0 net) passes).1) high
        | inr asks ↦
            let (j, lt, none, mj) = of-tree is net asks in
            let (c, in_tree, out) = member_of_map net_of (l.tree j) net (subst (Member net) (is.tree_outputs j lt) mj) in
            by_cell c (is.tree_cell j c lt in_tree).0 out high
      ]

  reset_at : (net : ℕ) → cond (nat_eq p.ki net) true (driven_high o n.cells net) ≡ reset_nets p net
  reset_at net =
      ap (λ b. cond (nat_eq p.ki net) true b) (driven-value net) ∙ as_or (nat_eq p.ki net) (data_nets n net || tree_nets n net)
      ∙ ap (λ b. b || (data_nets n net || tree_nets n net)) turned
    where
      as_or : (a b : Bool) → cond a true b ≡ (a || b)
      as_or true b = refl
      as_or false b = refl

      turned : nat_eq p.ki net ≡ nat_eq net p.ki
      turned = same_from_both _ _ (λ e. eq-eqb net p.ki (sym (eqb-true p.ki net e))) (λ e. eq-eqb p.ki net (sym (eqb-true net p.ki e)))

pub reset_by_drivers : (p : PipelineData) → Shape p.netlist p → (o : OriginsData) → AreOrigins p.netlist o → (net : ℕ)
    → cond (nat_eq p.ki net) true (driven_high o p.netlist.cells net) ≡ reset_nets p net
reset_by_drivers p shape o are net = let (l, is) = laid_out_of p.netlist p shape in reset_at is shape.is_netlist shape.free o are net
