-- The invariant holds at reset: each bank that is reset to DATA holds its word, every other bank and every gate is low,
-- and the completion trees of the others ask for DATA.
use Rattle.ncl_machine.proofs.Terms.{Bool, Cell, CellAt, Contains-from_Member, Contains-from_slice_get, IsAckOf, IsLayoutOf, Layout, List, Member, Member-from_Contains, NetId, Nets, None, Option, Part, PipelineData, Some, TreePart, [], acks, among, among-from_member, and_from, and_parts, ap, arith, at_register, both_ways, cases_Bool, cases_lt, completes, data_is_register, data_nets, eq-eqb, eqb-true, false, false_from_ne_true, fun_ext, has_data, high_net, holds_rail, in_rail, inl, inr, is_data_register, is_some, joins_kind, joins_tree, length, list_any-from_member, member_cases, member_from_list_any, member_of_map, named_rails, nat_eq, ne_eqb, net_of, no_nets, not, not-not, of_bank, of_stage, of_tree, or_left, pin_values, refl, register_no_ack, register_no_gate, reset_nets, rounds-each, rounds-settled, same_from_both, slice_get-from_Contains, some_high, some_high-from, some_high-low, stage_nets, subst, suc, sym, tree_nets, true, width, zero, ℕ, ◌&&◌, ◌<◌, ◌||◌, ◌∙◌, ◌∷◌, ◌≡◌, ◌≤◌}
use Rattle.ncl_base.specs.Members.{here, there}
use Rattle.ncl_machine.proofs.NamedRails.{bit_at, member-from_among, named-has, named-place}
use Rattle.ncl_machine.proofs.StageNets.{in_bit, rail-listed, inputs-listed, tree-listed, ki-listed}
use Rattle.ncl_machine.proofs.LocalNets.{local-at, in_stage, in_tree}
use Rattle.ncl_machine.proofs.Completion.{some_input, up_the_tree}
use Rattle.ncl_machine.proofs.HeldCounts.{holds_word, none_past}

-- the rail that a word names is the one that is held high
pub named-held : (word : List Bool) (j : ℕ) (r : Bool) → holds_rail (Some word) j r ≡ true → r ≡ bit_at word j
named-held word j true held = sym held
named-held word j false held = sym (sym (not-not (bit_at word j)) ∙ ap not held)

pub held-named : (word : List Bool) (j : ℕ) → holds_rail (Some word) j (bit_at word j) ≡ true
held-named word j = by (bit_at word j) refl
  where
    by : (r : Bool) → bit_at word j ≡ r → holds_rail (Some word) j r ≡ true
    by true e = e
    by false e = ap not e

-- the word that bank k holds, the source counting as bank 0
abbrev pub held_in : Layout → ℕ → Option (List Bool)
held_in l zero = None
held_in l (suc k) = l.held k

module _ {p : PipelineData} {l : Layout} (is : IsLayoutOf p l) where
  -- ---- the nets of the cells that are reset to 1 are the rails that banks hold high

  pub record IsHeldNet (net : ℕ) : Type 0 where
    pub bank : ℕ
    pub bit : ℕ
    pub rail : Bool
    pub within : bank < l.last
    pub inside : bit < width l (suc bank)
    pub held : holds_rail (l.held bank) bit rail ≡ true
    pub same : net ≡ in_rail l (suc bank) bit rail

  pub held-net : (net : ℕ) → data_nets p.netlist net ≡ true → IsHeldNet net
  held-net net high =
      let (c, m, passes) = member_from_list_any (λ (c : Cell). is_data_register c.kind && nat_eq c.out.0 net) p.netlist.cells high in
      let (data_is, drives) = and_parts (is_data_register c.kind) (nat_eq c.out.0 net) passes in
      let (i, at) = slice_get-from_Contains p.netlist.cells c (Contains-from_Member c m) in
      by_part c i at data_is (eqb-true c.out.0 net drives) (is.part_of i c at)
    where
      by_part : (c : Cell) (i : ℕ) → CellAt p.netlist i c → is_data_register c.kind ≡ true → c.out.0 ≡ net → Part l c → IsHeldNet net
      by_part c i at data_is out (of_bank k j r lt inside on) = record {
        bank = k;
        bit = j;
        rail = r;
        within = lt;
        inside = inside;
        held = sym (is.register_held k j r i c lt inside at on) ∙ data_is;
        same = sym out ∙ on.out;
      }
      by_part c i at data_is out (of_stage k g le m same) = absurd (register_no_gate c.kind (data_is_register c.kind data_is) g.kind same.kind)
      by_part c i at data_is out (of_tree k lt m) = absurd (by_sort (is.tree_cell k c lt m).1)
        where
          by_sort : TreePart l k c → ⊥
          by_sort (acks b inside on) = register_no_ack c.kind (data_is_register c.kind data_is) on.ack
          by_sort (completes kind gate tree arity reads) = register_no_gate c.kind (data_is_register c.kind data_is) kind gate

  pub net-held : (k j : ℕ) (r : Bool) → k < l.last → j < width l (suc k) → holds_rail (l.held k) j r ≡ true → data_nets p.netlist (in_rail l (suc k) j r) ≡ true
  net-held k j r lt inside held =
      let (i, c, at, on) = is.register_at k j r lt inside in
      list_any-from_member (λ (c : Cell). is_data_register c.kind && nat_eq c.out.0 (in_rail l (suc k) j r)) c
      (Member-from_Contains p.netlist.cells c (Contains-from_slice_get p.netlist.cells i c at))
      (and_from (is_data_register c.kind) _ (is.register_held k j r i c lt inside at on ∙ held) (eq-eqb c.out.0 (in_rail l (suc k) j r) on.out))

  -- so they are nets of stages
  pub held-net_listed : (net : ℕ) → (h : IsHeldNet net) → Member net (stage_nets l (suc h.bank))
  held-net_listed net h = subst (λ x. Member x (stage_nets l (suc h.bank))) (sym h.same) (rail-listed (l.stage (suc h.bank)) h.bit h.rail h.inside)

  pub none-holds : (k j : ℕ) (r : Bool) → holds_word l k ≡ false → holds_rail (l.held k) j r ≡ true → ⊥
  none-holds k j r none held = by (l.held k) none held
    where
      by : (o : Option (List Bool)) → is_some o ≡ false → holds_rail o j r ≡ true → ⊥
      by None none held = both_ways false refl held
      by (Some word) none held = both_ways true none refl

  -- ---- the nets of trees that are high at reset are those of the banks that hold nothing

  abbrev pub OfTree : ℕ → Type 0
  OfTree net = (j : ℕ) × (j < l.last) × (holds_word l j ≡ false) × Member net (l.tree_nets j)

  -- the pins of an acknowledge cell see whether its bank holds a word
  ack-sees : (j : ℕ) (c : Cell) (b : ℕ) → j < l.last → b < width l (suc j) → IsAckOf l j b c → some_high (pin_values (data_nets p.netlist) c.ins.items) ≡ holds_word l j
  ack-sees j c b lt within on = by (l.held j) refl
    where
      rail-on : (r : Bool) → Member (record { 0 = in_rail l (suc j) b r }) c.ins.items
      rail-on true = subst (Member (record { 0 = in_rail l (suc j) b true })) (sym on.ins) (there here)
      rail-on false = subst (Member (record { 0 = in_rail l (suc j) b false })) (sym on.ins) here

      by : (o : Option (List Bool)) → l.held j ≡ o → some_high (pin_values (data_nets p.netlist) c.ins.items) ≡ is_some (l.held j)
      by (Some word) some =
          let held : holds_rail (l.held j) b (bit_at word b) ≡ true = ap (λ o. holds_rail o b (bit_at word b)) some ∙ held-named word b in
          some_high-from (data_nets p.netlist) (record { 0 = in_rail l (suc j) b (bit_at word b) }) (rail-on (bit_at word b)) (net-held j b (bit_at word b) lt within held)
          ∙ sym (ap is_some some)
      by None none =
          some_high-low (data_nets p.netlist) c.ins.items (λ x m. false_from_ne_true _ (λ high.
          let h = held-net x.0 high in
          let listed : Member x.0 (stage_nets l (suc j)) = on_rail x (subst (Member x) on.ins m) in
          let banks = is.stages_apart (suc h.bank) (suc j) x.0 h.within lt (held-net_listed x.0 h) listed in
          let same : h.bank ≡ j = omega (arith, banks) in
          none-holds h.bank h.bit h.rail (ap (holds_word l) same ∙ ap is_some none) h.held))
          ∙ sym (ap is_some none)
        where
          on_rail : (x : NetId) → Member x ((in_bit l (suc j) b).zero ∷ (in_bit l (suc j) b).one ∷ []) → Member x.0 (stage_nets l (suc j))
          on_rail x m =
              elim (member_cases x (in_bit l (suc j) b).zero ((in_bit l (suc j) b).one ∷ []) m) [
                | inl low ↦ subst (λ (y : NetId). Member y.0 (stage_nets l (suc j))) low (rail-listed (l.stage (suc j)) b false within)
                | inr rest ↦ elim (member_cases x (in_bit l (suc j) b).one [] rest) [
                  | inl high ↦ subst (λ (y : NetId). Member y.0 (stage_nets l (suc j))) high (rail-listed (l.stage (suc j)) b true within)
                  | inr none ↦ elim none [ ]
                ]
              ]

  -- whether a cell reads a net that a bank holds high
  abbrev sees_held : Cell → Bool
  sees_held c = some_high (pin_values (data_nets p.netlist) c.ins.items)

  -- a cell that joins drives a net of such a tree
  joined : (v : Nets) → ((x : ℕ) → v x ≡ true → OfTree x) → (c : Cell) → Member c p.netlist.cells → joins_tree (data_nets p.netlist) v c ≡ true → OfTree (net_of c)
  joined v each c m joins =
      let (i, at) = slice_get-from_Contains p.netlist.cells c (Contains-from_Member c m) in
      by_part (is.part_of i c at)
    where
      by_part : Part l c → OfTree (net_of c)
      by_part (of_tree j lt n) = by_sort (is.tree_cell j c lt n).1
        where
          by_sort : TreePart l j c → OfTree (net_of c)
          by_sort (acks b within on) =
              let plain : not (sees_held c) ≡ true = sym (ap (λ q. joins_kind q (sees_held c) (pin_values v c.ins.items)) on.ack) ∙ joins in
              (j, lt, sym (ack-sees j c b lt within on) ∙ sym (not-not (sees_held c)) ∙ ap not plain, tree-listed is j c lt n)
          by_sort (completes kind gate tree arity reads) =
              let high : some_high (pin_values v c.ins.items) ≡ true = sym (ap (λ q. joins_kind q (sees_held c) (pin_values v c.ins.items)) gate) ∙ joins in
              let (x, r, rises) = high_net v c.ins.items high in
              let (k, lk, none, mk) = each x.0 rises in
              let (y, in_y, out, rank) = reads x r in
              let my : Member x.0 (l.tree_nets j) = subst (λ (z : NetId). Member z.0 (l.tree_nets j)) out (tree-listed is j y lt in_y) in
              let same : k ≡ j = is.trees_apart k j x.0 (omega (arith, lk)) (omega (arith, lt)) mk my in
              (j, lt, ap (holds_word l) (sym same) ∙ none, tree-listed is j c lt n)
      by_part (of_bank k b r lt within on) = absurd (both_ways (joins_tree (data_nets p.netlist) v c) (at_register (λ q. joins_kind q (sees_held c) (pin_values v c.ins.items)) false refl refl c.kind on.register) joins)
      by_part (of_stage k g le n same) =
          let (x, r, high) =
          high_net v g.ins.items (sym (ap (λ q. joins_kind q (sees_held c) (pin_values v c.ins.items)) same.kind ∙ ap (λ ins. some_high (pin_values v ins)) same.ins) ∙ joins) in
          let (j, lt, none, mj) = each x.0 high in
          absurd (is.apart k j x.0 le (omega (arith, lt)) (inputs-listed (is.is_stage k le) g n x r) mj)

  pub of-tree : (net : ℕ) → tree_nets p.netlist net ≡ true → OfTree net
  of-tree net high =
      rounds-each Cell net_of (joins_tree (data_nets p.netlist)) p.netlist.cells OfTree no_nets (λ x low. absurd (both_ways false refl low)) joined (length p.netlist.cells) net high

  -- a cell of such a tree joins, by what it reads
  pub in-trees : (j : ℕ) → j < l.last → holds_word l j ≡ false → (c : Cell) → Member c (l.tree j) → tree_nets p.netlist c.out.0 ≡ true
  in-trees j lt none =
      up_the_tree is j lt (λ c. tree_nets p.netlist c.out.0 ≡ true)
      (λ c m b within on.
      settled c m (ap (λ q. joins_kind q (some_high (pin_values (data_nets p.netlist) c.ins.items)) (pin_values (tree_nets p.netlist) c.ins.items)) on.ack ∙ ap not (ack-sees j c b lt within on ∙ none)))
      (λ c m kind is_gate is_tree arity known.
      let (x, r) = some_input kind c.ins.items is_tree arity in
      let (y, in_y, out, high) = known x r in
      settled c m (ap (λ q. joins_kind q (some_high (pin_values (data_nets p.netlist) c.ins.items)) (pin_values (tree_nets p.netlist) c.ins.items)) is_gate
      ∙ some_high-from (tree_nets p.netlist) x r (ap (λ (z : NetId). tree_nets p.netlist z.0) (sym out) ∙ high)))
    where
      settled : (c : Cell) → Member c (l.tree j) → joins_tree (data_nets p.netlist) (tree_nets p.netlist) c ≡ true → tree_nets p.netlist c.out.0 ≡ true
      settled c m joins =
          rounds-settled Cell net_of (joins_tree (data_nets p.netlist)) p.netlist.cells no_nets c (Member-from_Contains p.netlist.cells c (is.tree_cell j c lt m).0) joins

  -- ---- so a net of a stage is high where a bank holds it, and a net of a tree where the bank holds nothing

  pub stage-value : (k net : ℕ) → k ≤ l.last → Member net (stage_nets l k) → reset_nets p net ≡ data_nets p.netlist net
  stage-value k net le m =
      let not_ki = ne_eqb net p.ki (λ e. is.apart k l.last p.ki le (omega arith) (subst (λ x. Member x (stage_nets l k)) e m) (ki-listed is)) in
      let not_tree : tree_nets p.netlist net ≡ false =
      false_from_ne_true _ (λ high. let (j, lt, none, mj) = of-tree net high in is.apart k j net le (omega (arith, lt)) m mj) in
      ap (λ q. q || (data_nets p.netlist net || tree_nets p.netlist net)) not_ki ∙ ap (λ q. data_nets p.netlist net || q) not_tree ∙ or_none (data_nets p.netlist net)
    where
      or_none : (q : Bool) → (q || false) ≡ q
      or_none true = refl
      or_none false = refl

  not-held : (k net : ℕ) → k ≤ l.last → Member net (l.tree_nets k) → data_nets p.netlist net ≡ false
  not-held k net le m = false_from_ne_true _ (λ high. let h = held-net net high in is.apart (suc h.bank) k net h.within le (held-net_listed net h) m)

  pub tree-value : (k net : ℕ) → k ≤ l.last → Member net (l.tree_nets k) → reset_nets p net ≡ not (holds_word l k)
  tree-value k net le m =
      elim (cases_lt k l.last) [
        | inl lt ↦
            let (c, n, e) = member_of_map net_of (l.tree k) net (subst (Member net) (is.tree_outputs k lt) m) in
            let not_ki = ne_eqb net p.ki (λ same. let last : k ≡ l.last = is.trees_apart k l.last net le (omega arith) m (subst (λ x. Member x (l.tree_nets l.last)) (sym same) (ki-listed is)) in omega (arith, lt, last)) in
            ap (λ q. q || (data_nets p.netlist net || tree_nets p.netlist net)) not_ki
            ∙ ap (λ q. q || tree_nets p.netlist net) (not-held k net le m)
            ∙ elim (cases_Bool (holds_word l k)) [
              | inl some ↦
                  false_from_ne_true _ (λ high.
                  let (j, lj, none, mj) = of-tree net high in
                  let same : j ≡ k = is.trees_apart j k net (omega (arith, lj)) le mj m in
                  both_ways (holds_word l k) (ap (holds_word l) (sym same) ∙ none) some)
                  ∙ sym (ap not some)
              | inr none ↦ subst (λ x. tree_nets p.netlist x ≡ true) e (in-trees k lt none c n) ∙ sym (ap not none)
            ]
        | inr past ↦
            let same : k ≡ l.last = omega (arith, le, past) in
            elim (member_cases net p.ki [] (subst (Member net) is.ki_nets (subst (λ x. Member net (l.tree_nets x)) same m))) [
              | inl ki ↦ or_left _ (data_nets p.netlist net || tree_nets p.netlist net) (eq-eqb net p.ki (sym ki)) ∙ sym (ap not (none_past is k past))
              | inr none ↦ elim none [ ]
            ]
      ]

  -- ---- what each stage and each tree sees

  pub stage-none : (k : ℕ) → k ≤ l.last → held_in l k ≡ None → in_stage l (reset_nets p) k ≡ no_nets
  stage-none k le none = fun_ext (λ net. elim (cases_Bool (among (stage_nets l k) net)) [
    | inl some ↦
        let m = member-from_among net (stage_nets l k) some in
        ap (λ b. b && reset_nets p net) some ∙ stage-value k net le m
        ∙ false_from_ne_true _ (λ high.
        let h = held-net net high in
        let same : suc h.bank ≡ k = is.stages_apart (suc h.bank) k net h.within le (held-net_listed net h) m in
        none-holds h.bank h.bit h.rail (ap is_some (subst (λ j. held_in l j ≡ None) (sym same) none)) h.held)
    | inr out ↦ ap (λ b. b && reset_nets p net) out
  ])

  pub stage-held : (k : ℕ) (word : List Bool) → l.held k ≡ Some word → in_stage l (reset_nets p) (suc k) ≡ among (named_rails (l.stage (suc k)).inputs word)
  stage-held k word held = fun_ext (λ net. same_from_both _ _ (to net) (from net))
    where
      lt : k < l.last
      lt = (is.held_wide k word held).0

      wide : length word ≡ width l (suc k)
      wide = (is.held_wide k word held).1

      to : (net : ℕ) → in_stage l (reset_nets p) (suc k) net ≡ true → among (named_rails (l.stage (suc k)).inputs word) net ≡ true
      to net high =
          let (listed, value) = and_parts (among (stage_nets l (suc k)) net) (reset_nets p net) high in
          let m = member-from_among net (stage_nets l (suc k)) listed in
          let h = held-net net (sym (stage-value (suc k) net lt m) ∙ value) in
          let banks = is.stages_apart (suc h.bank) (suc k) net h.within lt (held-net_listed net h) m in
          let same : h.bank ≡ k = omega (arith, banks) in
          let own : h.rail ≡ bit_at word h.bit = named-held word h.bit h.rail (ap (λ o. holds_rail o h.bit h.rail) (sym (ap l.held same ∙ held)) ∙ h.held) in
          let inside : h.bit < width l (suc k) = subst (λ j. h.bit < width l (suc j)) same h.inside in
          let e : net ≡ in_rail l (suc k) h.bit (bit_at word h.bit) = h.same ∙ ap (λ j. in_rail l (suc j) h.bit h.rail) same ∙ ap (in_rail l (suc k) h.bit) own in
          subst (λ x. among (named_rails (l.stage (suc k)).inputs word) x ≡ true) (sym e) (among-from_member _ (named-has (l.stage (suc k)).inputs word wide h.bit inside))

      from : (net : ℕ) → among (named_rails (l.stage (suc k)).inputs word) net ≡ true → in_stage l (reset_nets p) (suc k) net ≡ true
      from net named =
          let (b, inside, e) = named-place (l.stage (suc k)).inputs word net (member-from_among net (named_rails (l.stage (suc k)).inputs word) named) in
          let m : Member net (stage_nets l (suc k)) = subst (λ x. Member x (stage_nets l (suc k))) (sym e) (rail-listed (l.stage (suc k)) b (bit_at word b) inside) in
          and_from (among (stage_nets l (suc k)) net) (reset_nets p net) (among-from_member net m)
          (stage-value (suc k) net lt m ∙ ap (data_nets p.netlist) e ∙ net-held k b (bit_at word b) lt inside (ap (λ o. holds_rail o b (bit_at word b)) held ∙ held-named word b))

  pub tree-at : (k net : ℕ) → k ≤ l.last → Member net (l.tree_nets k) → in_tree l (reset_nets p) k net ≡ not (holds_word l k)
  tree-at k net le m = local-at (l.tree_nets k) (reset_nets p) net m ∙ tree-value k net le m

  pub source-null : (b : ℕ) → has_data (in_stage l (reset_nets p) 0) (in_bit l 0 b) ≡ false
  source-null b = ap (λ v. has_data v (in_bit l 0 b)) (stage-none 0 (omega arith) refl)
