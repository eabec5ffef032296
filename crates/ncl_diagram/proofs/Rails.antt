-- The node of a rail, and the tables of constants.
use Rattle.ncl_diagram.proofs.Terms.{Bool, Err, Full, HasNoRoom, HoldsOnly, HoldsWith, IfOk, IsCanonical, IsErrOf, IsTooMuch, Joins, Leads, Leaves, List, Node, Ok, OnErr, Ref, Result, Some, SpaceFault, ap, arith, bead_of, beads_of, branch, constant_place, constant_table, false, is_bead, is_value, length, length-table_of, level_of, not, rail_table, refl, slice_get, slice_index_or, subst, suc, sym, table_from, table_of-halves, true, zero, ℕ, ◌++◌, ◌+◌, ◌-◌, ◌<◌, ◌^◌, ◌∙◌, ◌≡◌, ◌≢◌, ◌≤◌}
use Rattle.ncl_diagram.proofs.Canonical.{get_within, length-table_from, one_place, same_back, same_front}
use Rattle.ncl_diagram.proofs.Step.{bead_low, bead_self, node_high, node_low, pow_one, table_twice}
use Rattle.ncl_diagram.proofs.Joining.{leads_node}
use Rattle.ncl_diagram.proofs.Holding.{beads_differ, beads_held, held_grown, only_by}

-- the table of the place of a constant
pub table_from-constant : (nodes : List Node) (value : Bool) (m level : ℕ) → table_from nodes m level (constant_place value) ≡ constant_table m value
table_from-constant nodes false zero level = refl
table_from-constant nodes true zero level = refl
table_from-constant nodes false (suc m) level =
    let half = table_from-constant nodes false m (level + 1) in
    (λ i. half i ++ half i) ∙ sym (table_of-halves m (λ word. false))
table_from-constant nodes true (suc m) level =
    let half = table_from-constant nodes true m (level + 1) in
    (λ i. half i ++ half i) ∙ sym (table_of-halves m (λ word. true))

-- no place reads a bit before a constant
pub level_of-constant : (n : ℕ) (nodes : List Node) (value : Bool) → level_of n nodes (constant_place value) ≡ n
level_of-constant n nodes false = refl
level_of-constant n nodes true = refl

pub constant_there : (nodes : List Node) (value : Bool) → constant_place value < length nodes + 2
constant_there nodes false = omega arith
constant_there nodes true = omega arith

-- the constants differ
constants_differ : (m : ℕ) (value : Bool) → constant_table m (not value) ≢ constant_table m value
constants_differ zero true e = absurd cc
constants_differ zero false e = absurd cc
constants_differ (suc m) value e =
    let long = length-table_of m (λ word. not value) ∙ sym (length-table_of m (λ word. value)) in
    constants_differ m value (same_front (constant_table m (not value)) (constant_table m (not value)) (constant_table m value) (constant_table m value) long
    (sym (table_of-halves m (λ word. not value)) ∙ e ∙ table_of-halves m (λ word. value)))

-- the rail of the first bit is one constant and then the other
rail_table-first : (m : ℕ) (value : Bool) → rail_table (suc m) 0 value ≡ constant_table m (not value) ++ constant_table m value
rail_table-first m true = table_of-halves m (λ word. is_value true (slice_index_or word 0 false))
rail_table-first m false = table_of-halves m (λ word. is_value false (slice_index_or word 0 false))

-- and that of a later bit is the same twice
rail_table-later : (m bit : ℕ) (value : Bool) → rail_table (suc m) (suc bit) value ≡ rail_table m bit value ++ rail_table m bit value
rail_table-later m bit value = table_of-halves m (λ word. is_value value (slice_index_or word (suc bit) false))

-- the table of a place that leads to the constants at the bit
pub table_from-rail : (n : ℕ) (nodes : List Node) (bit r : ℕ) (value : Bool) → bit < n → Leads n nodes bit r (constant_place (not value)) (constant_place value) → (b m level : ℕ) → level + m ≡ n → level + b ≡ bit → table_from nodes m level r ≡ rail_table m b value
table_from-rail n nodes bit r value lt leads b zero level e at = absurd (omega arith)
table_from-rail n nodes bit r value lt leads zero (suc m) level e at =
    let here : level ≡ bit = omega arith in
    let low = ap (λ (l : ℕ). branch nodes l false r) here ∙ leads.low in
    let high = ap (λ (l : ℕ). branch nodes l true r) here ∙ leads.high in
    (λ i. table_from nodes m (level + 1) (low i) ++ table_from nodes m (level + 1) (high i))
    ∙ (λ i. table_from-constant nodes (not value) m (level + 1) i ++ table_from-constant nodes value m (level + 1) i)
    ∙ sym (rail_table-first m value)
table_from-rail n nodes bit r value lt leads (suc b) (suc m) level e at =
    let rest = table_from-rail n nodes bit r value lt leads b m (level + 1) (omega arith) (omega arith) in
    table_twice n nodes m level r (omega arith) (omega (arith, leads.later)) ∙ (λ i. rest i ++ rest i) ∙ sym (rail_table-later m b value)

-- the table from the bit on is a bead of the rail
rail_bead : (b n m : ℕ) (value : Bool) → n ≡ b + suc m → is_bead (beads_of n (rail_table n b value)) (rail_table (suc m) 0 value) ≡ true
rail_bead zero n m value e =
    let is : n ≡ suc m = omega arith in
    ap (λ (k : ℕ). is_bead (beads_of k (rail_table k 0 value)) (rail_table (suc m) 0 value)) is
    ∙ (λ i. is_bead (beads_of (suc m) (rail_table-first m value i)) (rail_table-first m value i))
    ∙ bead_self m (constant_table m (not value)) (constant_table m value) (length-table_of m (λ word. not value)) (constants_differ m value)
rail_bead (suc b) zero m value e = absurd (omega arith)
rail_bead (suc b) (suc n) m value e =
    ap (λ (t : List Bool). is_bead (beads_of (suc n) t) (rail_table (suc m) 0 value)) (rail_table-later n b value)
    ∙ bead_low n (rail_table n b value) (rail_table n b value) (rail_table (suc m) 0 value) (length-table_of n (λ word. is_value value (slice_index_or word b false))) (rail_bead b n m value (omega arith))

-- the bead of a node that leads to the constants at the bit
bead_of-rail : (n : ℕ) (nodes : List Node) (bit k : ℕ) (x : Node) (value : Bool) → bit < n → slice_get nodes k ≡ Some x → x.bit ≡ bit → x.low.place ≡ constant_place (not value) → x.high.place ≡ constant_place value → bead_of n nodes k x ≡ rail_table (n - bit) 0 value
bead_of-rail n nodes bit k x value lt got here low high =
    let leads : Leads n nodes bit (suc (suc k)) (constant_place (not value)) (constant_place value) =
    subst (λ (l : ℕ). Leads n nodes l (suc (suc k)) (constant_place (not value)) (constant_place value)) here
    (subst (λ (p : ℕ). Leads n nodes x.bit (suc (suc k)) p (constant_place value)) low
    (subst (λ (p : ℕ). Leads n nodes x.bit (suc (suc k)) x.low.place p) high (leads_node n nodes x (suc (suc k)) got))) in
    ap (λ (l : ℕ). table_from nodes (n - l) l (suc (suc k))) here ∙ table_from-rail n nodes bit (suc (suc k)) value lt leads zero (n - bit) bit (omega arith) (omega arith)

-- what is held with it
pub only_rail : (n : ℕ) (old new : List Node) (bit : ℕ) (value : Bool) → IsCanonical n old → bit < n → Joins n old new bit (constant_place (not value)) (constant_place value) → HoldsOnly n old new (rail_table n bit value)
only_rail n old new bit value can lt joins = record {
  kept = held_grown n old new can joins.grown;
  only = only_by n old new (rail_table n bit value) can joins.grown (λ k x le got.
      let came = joins.came k x le got in
      let m : ℕ = n - suc bit in
      let rest : n - bit ≡ suc m = omega arith in
      ap (is_bead (beads_of n (rail_table n bit value))) (bead_of-rail n new bit k x value lt got came.0 came.1 came.2 ∙ ap (λ (j : ℕ). rail_table j 0 value) rest)
      ∙ rail_bead bit n m value (omega arith));
}

pub holds_rail : (n : ℕ) (old new : List Node) (bit r : ℕ) (value : Bool) → IsCanonical n old → bit < n → Joins n old new bit (constant_place (not value)) (constant_place value) → Leads n new bit r (constant_place (not value)) (constant_place value) → HoldsWith n old new (rail_table n bit value)
holds_rail n old new bit r value can lt joins leads =
    let only = only_rail n old new bit value can lt joins in
    record {
      kept = only.kept;
      beads = λ t h. beads_held n new joins.canonical n 0 r t (omega arith) (omega arith) leads.there (ap (λ (u : List Bool). is_bead (beads_of n u) t) (table_from-rail n new bit r value lt leads bit n 0 (omega arith) (omega arith)) ∙ h);
      only = only.only;
    }

-- a node with this bead is that of the rail
is_rail : (n : ℕ) (nodes : List Node) (bit k : ℕ) (x : Node) (value : Bool) → IsCanonical n nodes → bit < n → slice_get nodes k ≡ Some x → bead_of n nodes k x ≡ rail_table (n - bit) 0 value → (x.bit ≡ bit) × (x.low.place ≡ constant_place (not value)) × (x.high.place ≡ constant_place value)
is_rail n nodes bit k x value can lt got same =
    let long : 2 ^ (n - x.bit) ≡ 2 ^ (n - bit) = sym (length-table_from nodes (n - x.bit) x.bit (suc (suc k))) ∙ ap length same ∙ length-table_of (n - bit) (λ word. is_value value (slice_index_or word 0 false)) in
    let rests = pow_one (n - x.bit) (n - bit) long in
    let few = can.bits k x got in
    let here : x.bit ≡ bit = omega arith in
    let m : ℕ = n - suc bit in
    let rest : n - bit ≡ suc m = omega arith in
    let rest_x : n - x.bit ≡ suc m = omega arith in
    let halves : table_from nodes m (bit + 1) (branch nodes bit false (suc (suc k))) ++ table_from nodes m (bit + 1) (branch nodes bit true (suc (suc k))) ≡ constant_table m (not value) ++ constant_table m value =
    (λ i. table_from nodes (sym rest_x i) (sym here i) (suc (suc k))) ∙ same ∙ ap (λ (j : ℕ). rail_table j 0 value) rest ∙ rail_table-first m value in
    let longs = length-table_from nodes m (bit + 1) (branch nodes bit false (suc (suc k))) ∙ sym (length-table_of m (λ word. not value)) in
    let low_table : table_from nodes m (bit + 1) x.low.place ≡ table_from nodes m (bit + 1) (constant_place (not value)) =
    ap (table_from nodes m (bit + 1)) (sym (node_low nodes k x bit got here)) ∙ same_front _ _ _ _ longs halves ∙ sym (table_from-constant nodes (not value) m (bit + 1)) in
    let high_table : table_from nodes m (bit + 1) x.high.place ≡ table_from nodes m (bit + 1) (constant_place value) =
    ap (table_from nodes m (bit + 1)) (sym (node_high nodes k x bit got here)) ∙ same_back _ _ _ _ longs halves ∙ sym (table_from-constant nodes value m (bit + 1)) in
    let within = get_within nodes k x got in
    let before_low = (can.before k x got).0 in
    let before_high = (can.before k x got).1 in
    let low_later = can.low k x got in
    let high_later = can.high k x got in
    let n_low = level_of-constant n nodes (not value) in
    let n_high = level_of-constant n nodes value in (
      here,
      one_place n nodes can m (bit + 1) x.low.place (constant_place (not value)) (omega arith) (omega arith) (omega arith) (omega arith) (constant_there nodes (not value)) low_table,
      one_place n nodes can m (bit + 1) x.high.place (constant_place value) (omega arith) (omega arith) (omega arith) (omega arith) (constant_there nodes value) high_table,
    )

-- where there is no room for it, it is too much
pub too_much_rail : (n : ℕ) (nodes : List Node) (bit limit : ℕ) (value : Bool) → IsCanonical n nodes → bit < n → HasNoRoom n nodes bit (constant_place (not value)) (constant_place value) → length nodes ≡ limit → IsTooMuch n nodes (rail_table n bit value) limit
too_much_rail n nodes bit limit value can lt none count =
    let m : ℕ = n - suc bit in
    let rest : n - bit ≡ suc m = omega arith in
    record {
      bead = rail_table (suc m) 0 value;
      needed = rail_bead bit n m value (omega arith);
      lacking = λ h.
          let is = is_rail n nodes bit h.0 h.1 value can lt h.2 (h.3 ∙ ap (λ (j : ℕ). rail_table j 0 value) (sym rest)) in
          none.absent h.0 h.1 h.2 is.0 is.1 is.2;
      count = count;
      distinct = beads_differ n nodes can;
    }

-- what the call for a rail leaves
pub leaves_rail : (n limit : ℕ) (old new : List Node) (bit : ℕ) (value : Bool) (low high : ℕ) (o : Result Ref SpaceFault) → IsCanonical n old → bit < n → low ≡ constant_place (not value) → high ≡ constant_place value → Joins n old new bit low high → length new ≤ limit → IfOk o (λ r. Leads n new bit r.place low high) → OnErr o (new ≡ old) → (IsErrOf o Full → length old ≡ limit) → (IsErrOf o Full → HasNoRoom n old bit low high) → Leaves n limit old new (rail_table n bit value) o
leaves_rail n limit old new bit value low high o can lt low_is high_is joins few leads err full absent =
    by o few
    (subst (λ (p : ℕ). Joins n old new bit p (constant_place value)) low_is (subst (λ (p : ℕ). Joins n old new bit low p) high_is joins))
    (subst (λ (p : ℕ). IfOk o (λ r. Leads n new bit r.place p (constant_place value))) low_is (subst (λ (p : ℕ). IfOk o (λ r. Leads n new bit r.place low p)) high_is leads))
    err full
    (subst (λ (p : ℕ). IsErrOf o Full → HasNoRoom n old bit p (constant_place value)) low_is (subst (λ (p : ℕ). IsErrOf o Full → HasNoRoom n old bit low p) high_is absent))
  where
    by : (o : Result Ref SpaceFault) → length new ≤ limit → Joins n old new bit (constant_place (not value)) (constant_place value) → IfOk o (λ r. Leads n new bit r.place (constant_place (not value)) (constant_place value)) → OnErr o (new ≡ old) → (IsErrOf o Full → length old ≡ limit) → (IsErrOf o Full → HasNoRoom n old bit (constant_place (not value)) (constant_place value)) → Leaves n limit old new (rail_table n bit value) o
    by (Ok r) few joins leads err full absent = record {
      canonical = joins.canonical;
      grown = joins.grown;
      few = few;
      live = leads.there;
      table = table_from-rail n new bit r.place value lt leads bit n 0 (omega arith) (omega arith);
      holds = holds_rail n old new bit r.place value can lt joins leads;
      only = only_rail n old new bit value can lt joins;
      full = λ e. absurd cc;
    }
    by (Err e) few joins leads err full absent = record {
      canonical = joins.canonical;
      grown = joins.grown;
      few = few;
      live = tt;
      table = tt;
      holds = tt;
      only = only_rail n old new bit value can lt joins;
      full = λ f. subst (λ (ns : List Node). IsTooMuch n ns (rail_table n bit value) limit) (sym err) (too_much_rail n old bit limit value can lt (absent f) (full f));
    }
