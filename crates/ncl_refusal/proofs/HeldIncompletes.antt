-- A word that a bank held at reset comes to a stage past the bank's own: there the stage must wait for each bit, as at a word
-- that an input brings.
use Rattle.ncl_refusal.proofs.Terms.{Base, Bit, Bool, Cell, CellAt, CellId, Fire, IsDelayInsensitive, IsExcited, IsLayoutOf, IsOneRailed, IsRegisterOf, IsStage, Item, Layout, List, Member, Member-append_left, Member-append_right, Member-get_or, Member-map, NetId, Nets, PipelineData, Rails, Shape, StageData, State, [], after, all_data, among, among-from_member, and_from, and_parts, ap, arith, bit_at, both_rails, both_ways, differ, enabled, eq-eqb, excited-from_waiting, false, gate-next, get_or, has_data, holds, in_bit, in_order, in_outputs, in_rail, kept_low, length, list_all-member, map, member-from_among, member_of_map, named-has, named_rails, nat_eq, next_of_gate, no_rails, not, not-true, or_left, or_right, out-listed, out_of, out_rail, rail-data, rail-listed, rail-no_output, rail-place, rail-within, rail_nets, recursion_from_members, refl, register-excited, register-turns, root-listed, set_of-grows, slice_get-get_or, some-rail, stage_function, stage_nets, subst, suc, sym, true, true_from_ne_false, val, val-output, val-rail, width, ℕ, ◌&&◌, ◌<◌, ◌||◌, ◌∙◌, ◌≡◌, ◌≢◌, ◌≤◌}
use Rattle.ncl_refusal.proofs.Behind.{passes_at, picks}
use Rattle.ncl_refusal.proofs.HeldPass.{HasMoved, IsAt, moved, next-wide, output-named, settled, settled-value, tree-moved}
use Rattle.ncl_refusal.proofs.HeldRuns.{cell-enabled, cell-excited, stays-enabled}
use Rattle.ncl_refusal.proofs.Reaching.{IsReached, reached-run}

module _ {p : PipelineData} {l : Layout} (is : IsLayoutOf p l) (shape : Shape p.netlist p) (good : IsDelayInsensitive p)
    (m n : ℕ) (word : List Bool) (wide : length word ≡ width l (suc n)) (inner : suc n < l.last) (t0 : State) (here : IsAt is shape good m n word t0) (m_le : m ≤ n)
    (one : IsOneRailed (l.stage (suc n)) word) (inner2 : suc (suc n) < l.last) where
  abbrev own : StageData
  own = l.stage (suc n)

  abbrev next : StageData
  next = l.stage (suc (suc n))

  next_is : IsStage next
  next_is = is.is_stage (suc (suc n)) inner

  le : suc n ≤ l.last
  le = omega (arith, inner)

  abbrev base : Nets
  base = val own word Base

  abbrev next_word : List Bool
  next_word = stage_function own word

  module _ (bit : ℕ) (within : bit < width l (suc (suc n))) (full : all_data next (val next next_word (Bit bit)) ≡ true) where
    abbrev low_val : Nets
    low_val = val next next_word (Bit bit)

    -- the stage before has settled
    abbrev e1 : State
    e1 = (settled is shape good m n word wide inner t0 here m_le).end

    -- the bank takes the word but for the bit
    abbrev taking : ℕ → Bool
    taking x = among (rail_nets next.inputs) x && not (kept_low next (Bit bit) x)

    abbrev m2 : HasMoved is shape good taking e1
    m2 = moved is shape good taking e1

    abbrev e2 : State
    e2 = after p e1 m2.run

    in_next : (x : ℕ) → taking x ≡ true → Member x (stage_nets l (suc (suc n)))
    in_next x named = Member-append_left x (map out_of next.cells) (member-from_among x (rail_nets next.inputs) (and_parts (among (rail_nets next.inputs) x) (not (kept_low next (Bit bit) x)) named).0)

    -- its gates rise
    abbrev gates : ℕ → Bool
    gates = among (map out_of next.cells)

    abbrev m3 : HasMoved is shape good gates e2
    m3 = moved is shape good gates e2

    abbrev e3 : State
    e3 = after p e2 m3.run

    gate_in : (x : ℕ) → gates x ≡ true → Member x (stage_nets l (suc (suc n)))
    gate_in x named = Member-append_right (rail_nets next.inputs) x (member-from_among x (map out_of next.cells) named)

    -- and the bank after the stage takes what it makes
    abbrev beyond : StageData
    beyond = l.stage (suc (suc (suc n)))

    abbrev takes : ℕ → Bool
    takes = among (rail_nets beyond.inputs)

    abbrev m4 : HasMoved is shape good takes e3
    m4 = moved is shape good takes e3

    abbrev e4 : State
    e4 = after p e3 m4.run

    in_beyond : (x : ℕ) → takes x ≡ true → Member x (stage_nets l (suc (suc (suc n))))
    in_beyond x named = Member-append_left x (map out_of beyond.cells) (member-from_among x (rail_nets beyond.inputs) named)

    -- a net of another stage, and of a tree, stays
    stage_stays : (k x : ℕ) → k ≤ l.last → (k ≡ suc (suc n) → ⊥) → (k ≡ suc (suc (suc n)) → ⊥) → Member x (stage_nets l k) → (e2.value x ≡ e1.value x) × (e4.value x ≡ e1.value x)
    stage_stays k x lk two three listed =
        let first : e2.value x ≡ e1.value x = m2.others x (λ named. two (is.stages_apart k (suc (suc n)) x lk inner listed (in_next x named))) in (
          first,
          m4.others x (λ named. three (is.stages_apart k (suc (suc (suc n))) x lk inner2 listed (in_beyond x named)))
              ∙ m3.others x (λ named. two (is.stages_apart k (suc (suc n)) x lk inner listed (gate_in x named))) ∙ first,
        )

    tree_stays : (k x : ℕ) → k ≤ l.last → Member x (l.tree_nets k) → (e2.value x ≡ t0.value x) × (e4.value x ≡ t0.value x)
    tree_stays k x lk listed =
        let first : e2.value x ≡ t0.value x =
        m2.others x (λ named. is.apart (suc (suc n)) k x inner lk (in_next x named) listed) ∙ (settled is shape good m n word wide inner t0 here m_le).others x (λ q. is.apart (suc n) k x le lk q listed) in (
          first,
          m4.others x (λ named. is.apart (suc (suc (suc n))) k x inner2 lk (in_beyond x named) listed) ∙ m3.others x (λ named. is.apart (suc (suc n)) k x inner lk (gate_in x named) listed) ∙ first,
        )

    out_is : (j : ℕ) (r : Bool) → j < width l (suc (suc n)) → (e2.value (out_rail l (suc n) j r) ≡ base (out_rail l (suc n) j r)) × (e4.value (out_rail l (suc n) j r) ≡ base (out_rail l (suc n) j r))
    out_is j r lj =
        let listed = out-listed is (suc n) j r inner lj in
        let (first, last) = stage_stays (suc n) (out_rail l (suc n) j r) le (λ e. omega (arith, e)) (λ e. omega (arith, e)) listed in
        let same = settled-value is shape good m n word wide inner t0 here m_le (out_rail l (suc n) j r) listed in
        (first ∙ same, last ∙ same)

    root_high : (k : ℕ) → n < k → k ≤ l.last → (e2.value (l.root k) ≡ true) × (e4.value (l.root k) ≡ true)
    root_high k past lk =
        let listed = root-listed is k lk in
        let (first, last) = tree_stays k (l.root k) lk listed in
        (first ∙ here.trees k (l.root k) past lk listed, last ∙ here.trees k (l.root k) past lk listed)

    named_output : (j : ℕ) (r : Bool) → j < width l (suc (suc n)) → base (out_rail l (suc n) j r) ≡ among (named_rails next.inputs next_word) (in_rail l (suc (suc n)) j r)
    named_output = output-named is shape good m n word wide inner t0 here m_le one

    rail_taken : (j : ℕ) (r : Bool) → j < width l (suc (suc n)) → low_val (in_rail l (suc (suc n)) j r) ≡ true → e2.value (in_rail l (suc (suc n)) j r) ≡ true
    rail_taken j r lj high =
        let x : ℕ = in_rail l (suc (suc n)) j r in
        let rail = rail-within next.inputs j r lj in
        let (named, free) = and_parts (among (named_rails next.inputs next_word) x) (not (kept_low next (Bit bit) x)) (sym (val-rail next next_is next_word (Bit bit) x rail) ∙ high) in
        true_from_ne_false _ (λ low.
        let (i, c, at, on) = is.register_at (suc n) j r inner lj in
        m2.still i c at (ap taking on.out ∙ and_from _ _ (among-from_member x rail) free)
        (register-excited e2.value c (out_rail l (suc n) j r) (l.root (suc (suc n))) x on true ((out_is j r lj).0 ∙ named_output j r lj ∙ named) (root_high (suc (suc n)) (omega arith) inner).0 low))

    -- so the stage has its values without the bit
    risen-without : (x : ℕ) → Member x (stage_nets l (suc (suc n))) → low_val x ≡ true → e3.value x ≡ true
    risen-without = in_order next next_is (λ x. low_val x ≡ true → e3.value x ≡ true)
        (λ x rail high.
        let (j, r, lj, e) = rail-place next.inputs x rail in
        m3.others x (λ named. let (g, in_g, same) = member_of_map out_of next.cells x (member-from_among x (map out_of next.cells) named) in rail-no_output next next_is x rail g in_g same)
        ∙ ap e2.value e ∙ rail_taken j r lj (ap low_val (sym e) ∙ high))
        (λ g in_g reads high.
        let set : holds low_val g ≡ true = (and_parts (not (kept_low next (Bit bit) (out_of g))) (holds low_val g) (sym (val-output next next_is next_word (Bit bit) g in_g) ∙ high)).1 in
        let now : holds e3.value g ≡ true = set_of-grows g.kind low_val e3.value g.ins.items (recursion_from_members (λ (x : NetId). low_val x.0 ≡ true → e3.value x.0 ≡ true) g.ins.items reads) set in
        true_from_ne_false _ (λ low.
        let excited : IsExcited e3.value g = excited-from_waiting e3.value g low now in
        let (i, c, at, same) = is.gate_at (suc (suc n)) g inner in_g in
        m3.still i c at (ap gates same.out ∙ among-from_member (out_of g) (Member-map out_of g in_g))
        (ap (λ x. differ x (e3.value c.out.0)) (gate-next e3.value c g same) ∙ ap (λ x. differ (next_of_gate e3.value g) (e3.value x)) same.out ∙ excited)))

    -- and the bank after it has DATA
    beyond-full : (b : ℕ) → b < width l (suc (suc (suc n))) → has_data e4.value (in_bit l (suc (suc (suc n))) b) ≡ true
    beyond-full b lb =
        let lo = in_outputs is (suc (suc n)) b inner2 lb in
        let (r, high) = some-rail low_val next.outputs b (list_all-member (has_data low_val) next.outputs full (get_or next.outputs b no_rails) (Member-get_or next.outputs b no_rails lo)) in
        let listed = out-listed is (suc (suc n)) b r inner2 lb in
        let out : e4.value (out_rail l (suc (suc n)) b r) ≡ true =
        m4.others (out_rail l (suc (suc n)) b r) (λ named. let same = is.stages_apart (suc (suc n)) (suc (suc (suc n))) (out_rail l (suc (suc n)) b r) inner inner2 listed (in_beyond (out_rail l (suc (suc n)) b r) named) in omega (arith, same))
        ∙ risen-without (out_rail l (suc (suc n)) b r) listed high in
        rail-data e4.value beyond.inputs b r (true_from_ne_false _ (λ low.
        let (i, c, at, on) = is.register_at (suc (suc n)) b r inner2 lb in
        m4.still i c at (ap takes on.out ∙ among-from_member _ (rail-within beyond.inputs b r lb))
        (register-excited e4.value c (out_rail l (suc (suc n)) b r) (l.root (suc (suc (suc n)))) (in_rail l (suc (suc (suc n))) b r) on true out (root_high (suc (suc (suc n))) (omega arith) inner2).1 low)))

    -- ---- the register cell of the bit's rail is excited, and then not any more

    abbrev side : Bool
    side = bit_at next_word bit

    abbrev rail : ℕ
    rail = in_rail l (suc (suc n)) bit side

    rail_in : Member rail (stage_nets l (suc (suc n)))
    rail_in = rail-listed next bit side within

    register : (i : ℕ) × (c : Cell) × CellAt p.netlist i c × IsRegisterOf l (suc n) bit side c
    register = is.register_at (suc n) bit side inner within

    abbrev cell : CellId
    cell = record { 0 = register.0 }

    of_bit : (r : Bool) → kept_low next (Bit bit) (in_rail l (suc (suc n)) bit r) ≡ true
    of_bit r = ap (λ o. both_rails o (in_rail l (suc (suc n)) bit r)) (slice_get-get_or next.inputs bit no_rails within) ∙ by_rail r
      where
        q : Rails
        q = in_bit l (suc (suc n)) bit

        by_rail : (r : Bool) → (nat_eq (in_rail l (suc (suc n)) bit r) q.zero.0 || nat_eq (in_rail l (suc (suc n)) bit r) q.one.0) ≡ true
        by_rail true = or_right (nat_eq q.one.0 q.zero.0) (nat_eq q.one.0 q.one.0) (eq-eqb q.one.0 q.one.0 refl)
        by_rail false = or_left (nat_eq q.zero.0 q.zero.0) (nat_eq q.zero.0 q.one.0) (eq-eqb q.zero.0 q.zero.0 refl)

    rail_low : e4.value rail ≡ false
    rail_low =
        m4.others rail (λ named. let same = is.stages_apart (suc (suc n)) (suc (suc (suc n))) rail inner inner2 rail_in (in_beyond rail named) in omega (arith, same))
        ∙ m3.others rail (λ named. let (g, in_g, same) = member_of_map out_of next.cells rail (member-from_among rail (map out_of next.cells) named) in rail-no_output next next_is rail (rail-within next.inputs bit side within) g in_g same)
        ∙ m2.others rail (λ named. both_ways (kept_low next (Bit bit) rail) (not-true _ (and_parts (among (rail_nets next.inputs) rail) (not (kept_low next (Bit bit) rail)) named).1) (of_bit side))
        ∙ (settled is shape good m n word wide inner t0 here m_le).others rail (λ q. let same = is.stages_apart (suc (suc n)) (suc n) rail inner le rail_in q in omega (arith, same))
        ∙ here.behind (suc (suc n)) rail (omega arith) inner rail_in

    can : enabled p e4 (Fire cell) ≡ true
    can = cell-enabled p e4 cell register.1 register.2
        (register-excited e4.value register.1 (out_rail l (suc n) bit side) (l.root (suc (suc n))) rail register.3 true
        ((out_is bit side within).1 ∙ named_output bit side within ∙ among-from_member rail (named-has next.inputs next_word (next-wide is shape good m n word wide inner t0 here m_le) bit within))
        (root_high (suc (suc n)) (omega arith) inner).1 rail_low)

    e4_reached : IsReached p [] e4
    e4_reached = reached-run p [] (reached-run p [] (reached-run p [] (settled is shape good m n word wide inner t0 here m_le).reached m2.run m2.is_run) m3.run m3.is_run) m4.run m4.is_run

    abbrev tree : ℕ → Bool
    tree = among (l.tree_nets (suc (suc n)))

    abbrev m5 : HasMoved is shape good tree e4
    m5 = moved is shape good tree e4

    abbrev e5 : State
    e5 = after p e4 m5.run

    no_tree : tree rail ≡ true → ⊥
    no_tree named = is.apart (suc (suc n)) (suc (suc n)) rail inner inner rail_in (member-from_among rail (l.tree_nets (suc (suc n))) named)

    not_cell : (item : Item) → picks p tree false item ≡ true → item ≢ Fire cell
    not_cell item picked e =
        no_tree (ap tree (sym register.3.out) ∙ sym (ap (passes_at tree) register.2) ∙ subst (λ x. picks p tree false x ≡ true) e picked)

    pub not_incomplete : ⊥
    not_incomplete =
        let low : e5.value (l.root (suc (suc n))) ≡ false = tree-moved is shape good (suc (suc n)) inner2 true e4 beyond-full (l.root (suc (suc n))) (root-listed is (suc (suc n)) inner) in
        let still : enabled p e5 (Fire cell) ≡ true = stays-enabled p good cell m5.run e4 e4_reached m5.is_run (λ item k. not_cell item (m5.among item k)) can in
        let turned = register-turns e5.value register.1 (out_rail l (suc n) bit side) (l.root (suc (suc n))) rail register.3 (cell-excited p e5 cell register.1 register.2 still) in
        both_ways (e5.value (l.root (suc (suc n)))) low (turned.1 ∙ ap not (m5.others rail no_tree ∙ rail_low))
