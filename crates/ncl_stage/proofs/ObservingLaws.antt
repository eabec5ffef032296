-- Functions of where nets are low and of what gates make where one net is, and that a net is observed where nothing is left.
use Rattle.ncl_stage.proofs.Terms.{All, All-append, All-cons, All-contains, All-head, All-nil, All-tail, AllDiffer, Base, Bool, Contains, Contains-from_Member, HaveTables, IsAlwaysObserved, IsLeft, IsLive, IsOrderOf, IsShown, IsStage, IsWiring, Keeps, Kind, List, Member, Member-append_left, Member-append_right, Member-from_Contains, Member-get_or, NetId, Rails, Ref, SomeFalls, SpaceData, StageCell, StageData, Th33w2, WiringData, [], ap, arith, arity_of, at, at_table, both_ways, cases_eq, cases_lt, cond, constant_table, crossed, dual-set, dual_of, dual_pins, dual_pins-map, eq-eqb, false, gate_table, get_or, get_or-map, get_or-set_other, have-at, have-kept, here, holds, if◌then◌else◌, inl, inr, is_crossed, is_value, length, length-map, low_table_by, low_tables_by, map, map-append, member_cases, member_of_map, nat_eq, ne_eqb, net_at, net_table_by, net_tables_by, nets_of, not, out_of, pin_values, placed, rail_at, rail_nets, rail_places, ref_at, refl, set, set_of, subst, sym, table_without, take, take_more, taken, there, true, val, val-output, with_net, ℕ, ◌%◌, ◌&&◌, ◌*◌, ◌++◌, ◌+◌, ◌-◌, ◌/◌, ◌<◌, ◌∙◌, ◌∷◌, ◌≡◌, ◌⊎◌}
use Rattle.ncl_stage.specs.BitOrder.{place_in}
use Rattle.ncl_stage.proofs.ChangedLaws.{net_at-cell, net_at-place}
use Rattle.ncl_stage.proofs.NetLaws.{rail-net, out_at-is}
use Rattle.ncl_stage.proofs.OrderLaws.{length-taken, placed-taken}
use Rattle.ncl_stage.proofs.OrderedTables.{ordered-at, ordered-same}
use Rattle.ncl_stage.proofs.OutputLaws.{net-ref}
use Rattle.ncl_stage.proofs.PlaceLaws.{place_in-at}

-- ---- lists that grow
-- one table more
pub have-next : (a b : SpaceData) (all : List (List Bool)) (place : ℕ) (refs : List Ref) (r : Ref) (t : List Bool) → place < length all → get_or all place [] ≡ t → HaveTables a refs (take place all) → Keeps a b → IsLive b r → b.table r ≡ t → HaveTables b (refs ++ r ∷ []) (take (place + 1) all)
have-next a b all place refs r t within at_place have k live table =
    let kept = have-kept a b refs (take place all) k have in
    subst (HaveTables b (refs ++ r ∷ [])) (ap (λ u. take place all ++ u ∷ []) (sym at_place) ∙ sym (take_more all place [] within)) (record {
      live = All-append (IsLive b) refs (r ∷ []) kept.live (All-cons (IsLive b) r [] live (All-nil (IsLive b)));
      tables = map-append b.table refs (r ∷ []) ∙ (λ k. kept.tables k ++ table k ∷ []);
    })

-- what is shown of the first outputs, and one output more
shown-more : (outputs : List (ℕ × ℕ)) (k : ℕ) (d : ℕ × ℕ) → k < length outputs → (place : ℕ) → IsShown (take k outputs) place → IsShown (take (k + 1) outputs) place
shown-more outputs k d lt place (pair, among, is) = (pair, subst (λ xs. Contains xs pair) (sym (take_more outputs k d lt)) (Contains-from_Member pair (Member-append_left pair (get_or outputs k d ∷ []) (Member-from_Contains (take k outputs) pair among))), is)

pub shown-next : (outputs : List (ℕ × ℕ)) (k : ℕ) (d : ℕ × ℕ) → k < length outputs → (marks : List Bool) → ((place : ℕ) → get_or marks place false ≡ true → IsShown (take k outputs) place) → (place : ℕ) → get_or (set (set marks (get_or outputs k d).0 true) (get_or outputs k d).1 true) place false ≡ true → IsShown (take (k + 1) outputs) place
shown-next outputs k d lt marks shown place high =
    let pair : ℕ × ℕ = get_or outputs k d in
    let own : Contains (take (k + 1) outputs) (get_or outputs k d) = subst (λ xs. Contains xs (get_or outputs k d)) (sym (take_more outputs k d lt)) (Contains-from_Member (get_or outputs k d) (Member-append_right (take k outputs) (get_or outputs k d) here)) in
    elim (cases_eq place (get_or outputs k d).1) [
      | inl one ↦ (get_or outputs k d, own, inr one)
      | inr apart ↦ elim (cases_eq place (get_or outputs k d).0) [
        | inl zero ↦ (get_or outputs k d, own, inl zero)
        | inr other ↦ shown-more outputs k d lt place (shown place (
            sym (get_or-set_other marks (get_or outputs k d).0 place true false other)
            ∙ sym (get_or-set_other (set marks (get_or outputs k d).0 true) (get_or outputs k d).1 place true false apart)
            ∙ high))
      ]
    ]

-- both rails of an output are rails of the outputs
pub rails-listed : (rails : List Rails) (r : Rails) → Member r rails → Member r.zero.0 (rail_nets rails) × Member r.one.0 (rail_nets rails)
rails-listed [] r m = elim m [ ]
rails-listed (x ∷ xs) r m = elim (member_cases r x xs m) [
  | inl own ↦ subst (λ (y : Rails). Member y.zero.0 (rail_nets (x ∷ xs)) × Member y.one.0 (rail_nets (x ∷ xs))) own (here, there here)
  | inr later ↦ let (zero, one) = rails-listed xs r later in (there (there zero), there (there one))
]

-- what is shown at a place is a net of the outputs
pub shown-net : (s : StageData) → IsStage s → (w : WiringData) → IsWiring s w → (place : ℕ) → IsShown w.outputs place → Contains (rail_nets s.outputs) (net_at s place)
shown-net s is w wired place (pair, among, at_pair) =
    let outputs : w.outputs ≡ map (rail_places (nets_of s.inputs s.cells)) s.outputs = wired.outputs ∙ ap (λ nets. map (rail_places nets) s.outputs) wired.nets in
    let m : Member pair (map (rail_places (nets_of s.inputs s.cells)) s.outputs) = subst (Member pair) outputs (Member-from_Contains w.outputs pair among) in
    let (r, n, own) = member_of_map (rail_places (nets_of s.inputs s.cells)) s.outputs pair m in
    let (zero, one) = rails-listed s.outputs r n in
    elim at_pair [
      | inl first ↦ Contains-from_Member (net_at s place) (by-place r.zero.0 zero (first ∙ ap (λ (p : ℕ × ℕ). p.0) (sym own)))
      | inr second ↦ Contains-from_Member (net_at s place) (by-place r.one.0 one (second ∙ ap (λ (p : ℕ × ℕ). p.1) (sym own)))
    ]
  where
    by-place : (net : ℕ) → Member net (rail_nets s.outputs) → place ≡ place_in (nets_of s.inputs s.cells) net → Member (net_at s place) (rail_nets s.outputs)
    by-place net m at_net =
        let known : Contains (nets_of s.inputs s.cells) net = All-contains (λ x. Contains (nets_of s.inputs s.cells) x) (rail_nets s.outputs) net is.outputs_known (Contains-from_Member net m) in
        subst (λ x. Member x (rail_nets s.outputs)) (sym (ap (net_at s) at_net ∙ (place_in-at (nets_of s.inputs s.cells) net known).1 0)) m

-- what holds of Refs holds of them as the dual takes them
pub dual_pins-all : {X : Type 0} (P : X → Type 0) (kind : Kind) (xs : List X) → All P xs → All P (dual_pins kind xs)
dual_pins-all {X} P kind xs all = by (is_crossed kind)
  where
    two : (ys : List X) → All P ys → All P (crossed ys)
    two [] each = each
    two (a ∷ []) each = each
    two (a ∷ b ∷ others) each =
        let rest = All-tail P a (b ∷ others) each in
        All-cons P b (a ∷ others) (All-head P b others rest) (All-cons P a others (All-head P a (b ∷ others) each) (All-tail P b others rest))

    by : (b : Bool) → All P (if b then crossed xs else xs)
    by true = two xs all
    by false = all

module _ (s : StageData) (order : List ℕ) (ordered : IsOrderOf (length s.inputs) order) where
  -- ---- where nets are low
  rail-value : IsStage s → (i : ℕ) (value : Bool) → i < length s.inputs → (word : List Bool) → length word ≡ length s.inputs → val s (placed order word) Base (rail_at s i value) ≡ is_value value (get_or word (place_in order i) false)
  rail-value is i value lt word same =
      sym (ordered-at (length s.inputs) order ordered (λ w. val s w Base (rail_at s i value)) word same)
      ∙ ap (λ t. at t word) (sym (rail-net s order ordered is Base i value lt refl))
      ∙ at_table (length s.inputs) (λ w. is_value value (get_or w (place_in order i) false)) word same

  other_value : (value b : Bool) → is_value (not value) b ≡ not (is_value value b)
  other_value true b = refl
  other_value false true = refl
  other_value false false = refl

  low-rail : IsStage s → (i : ℕ) (value : Bool) → i < length s.inputs → net_table_by order s Base (rail_at s i (not value)) ≡ low_table_by order s (rail_at s i value)
  low-rail is i value lt =
      sym (rail-net s order ordered is Base i (not value) lt refl)
      ∙ ordered-same (length s.inputs) order ordered (λ w. is_value (not value) (get_or w (place_in order i) false)) (λ w. not (val s w Base (rail_at s i value)))
      (λ w same. other_value value (get_or w (place_in order i) false) ∙ ap not (sym (rail-value is i value lt w same)))

  rail-named : (place : ℕ) → place < 2 * length s.inputs → (value : Bool) → nat_eq (place % 2) 1 ≡ value → (bit : ℕ) → place / 2 ≡ bit → net_at s place ≡ rail_at s bit value
  rail-named place lt value is bit half = net_at-place s place lt ∙ (λ k. rail_at s (half k) (is k))

  -- a rail is low where the other rail of its bit is high
  pub low-place : IsStage s → (place : ℕ) → place < 2 * length s.inputs → (other : ℕ) → other ≡ (if nat_eq (place % 2) 1 then place - 1 else place + 1)
      → (other < 2 * length s.inputs) × (net_table_by order s Base (net_at s other) ≡ low_table_by order s (net_at s place))
  low-place is place lt other at = elim (cases_eq (place % 2) 1) [
    | inl odd ↦
        let first : nat_eq (place % 2) 1 ≡ true = eq-eqb (place % 2) 1 odd in
        let one : other ≡ place - 1 = at ∙ ap (λ b. if b then place - 1 else place + 1) first in
        let within : other < 2 * length s.inputs = omega (arith, one, lt) in
        let even : other % 2 ≡ 0 = omega (arith, one, odd) in
        let half : other / 2 ≡ place / 2 = omega (arith, one, odd) in (
          within,
          ap (net_table_by order s Base) (rail-named other within false (ap (λ n. nat_eq n 1) even) (place / 2) half)
              ∙ low-rail is (place / 2) true (omega (arith, lt))
              ∙ ap (low_table_by order s) (sym (rail-named place lt true first (place / 2) refl)),
        )
    | inr even ↦
        let second : nat_eq (place % 2) 1 ≡ false = ne_eqb (place % 2) 1 even in
        let one : other ≡ place + 1 = at ∙ ap (λ b. if b then place - 1 else place + 1) second in
        let none : place % 2 ≡ 0 = omega (arith, even) in
        let within : other < 2 * length s.inputs = omega (arith, one, lt, none) in
        let odd : other % 2 ≡ 1 = omega (arith, one, none) in
        let half : other / 2 ≡ place / 2 = omega (arith, one, none) in (
          within,
          ap (net_table_by order s Base) (rail-named other within true (ap (λ n. nat_eq n 1) odd) (place / 2) half)
              ∙ low-rail is (place / 2) false (omega (arith, lt))
              ∙ ap (low_table_by order s) (sym (rail-named place lt false second (place / 2) refl)),
        )
  ]

  lows-at : (word : List Bool) → length word ≡ length s.inputs → (ins : List NetId) → map (λ t. at t word) (map (λ (net : NetId). low_table_by order s net.0) ins) ≡ map not (pin_values (val s (placed order word) Base) ins)
  lows-at word same [] = refl
  lows-at word same (net ∷ ins) =
      let first = ordered-at (length s.inputs) order ordered (λ w. not (val s w Base net.0)) word same in
      let rest = lows-at word same ins in
      λ k. first k ∷ rest k

  -- a gate is low where its dual holds on where its inputs are low
  pub low-cell : IsStage s → (c : StageCell) → Member c s.cells → length c.ins.items ≡ arity_of c.kind → (space : SpaceData) → space.width ≡ length s.inputs → (refs : List Ref) → map space.table refs ≡ map (λ (net : NetId). low_table_by order s net.0) c.ins.items
      → gate_table space.width (dual_of c.kind) (map space.table (dual_pins c.kind refs)) ≡ low_table_by order s (out_of c)
  low-cell is c m many space width refs tables =
      let lows : List (List Bool) = map (λ (net : NetId). low_table_by order s net.0) c.ins.items in
      (λ k. gate_table (width k) (dual_of c.kind) (dual_pins-map c.kind space.table refs k))
      ∙ ap (λ ts. gate_table (length s.inputs) (dual_of c.kind) (dual_pins c.kind ts)) tables
      ∙ ordered-same (length s.inputs) order ordered (λ w. set_of (dual_of c.kind) (map (λ t. at t w) (dual_pins c.kind lows))) (λ w. not (val s w Base (out_of c)))
      (λ w same.
      ap (set_of (dual_of c.kind)) (dual_pins-map c.kind (λ t. at t w) lows ∙ ap (dual_pins c.kind) (lows-at w same c.ins.items))
      ∙ dual-set c.kind (pin_values (val s (placed order w) Base) c.ins.items) (length-map c.ins.items (λ (net : NetId). val s (placed order w) Base net.0) ∙ many)
      ∙ ap not (sym (val-output s is (placed order w) Base c m)))

  pub low-table_at : (place : ℕ) → place < length (nets_of s.inputs s.cells) → get_or (low_tables_by order s) place [] ≡ low_table_by order s (net_at s place)
  low-table_at place lt = get_or-map (low_table_by order s) (nets_of s.inputs s.cells) place 0 [] lt

  -- ---- what a gate makes where a net is low
  same-place : (nets : List ℕ) → AllDiffer nets → (place : ℕ) → place < length nets → (p : ℕ) → Contains nets p → nat_eq (place_in nets p) place ≡ nat_eq (get_or nets place 0) p
  same-place nets differ place lt p among = elim (cases_eq (place_in nets p) place) [
    | inl same ↦ eq-eqb (place_in nets p) place same ∙ sym (eq-eqb (get_or nets place 0) p (ap (λ k. get_or nets k 0) (sym same) ∙ at_p.1 0))
    | inr apart ↦ ne_eqb (place_in nets p) place apart ∙ sym (ne_eqb (get_or nets place 0) p (λ e. apart (unique e)))
  ]
    where
      at_p : (place_in nets p < length nets) × ((d : ℕ) → get_or nets (place_in nets p) d ≡ p)
      at_p = place_in-at nets p among

      unique : get_or nets place 0 ≡ p → place_in nets p ≡ place
      unique e = elim (cases_lt (place_in nets p) place) [
        | inl before ↦ absurd (differ (place_in nets p) place 0 before lt (at_p.1 0 ∙ sym e))
        | inr after ↦ elim (cases_eq place (place_in nets p)) [
          | inl same ↦ sym same
          | inr other ↦ absurd (differ place (place_in nets p) 0 (omega (arith, after, other)) at_p.0 (e ∙ sym (at_p.1 0)))
        ]
      ]

  -- the Refs at the pins of a gate, the constant 0 where it reads the net at a place
  pub record PinsWithout (space : SpaceData) (refs : List Ref) (place : ℕ) (never : Ref) (ins : List NetId) : Type 0 where
    pub within : All (λ p. p < length refs) (map (λ (net : NetId). place_in (nets_of s.inputs s.cells) net.0) ins)
    pub live : All (IsLive space) (map (λ p. if nat_eq p place then never else ref_at refs p) (map (λ (net : NetId). place_in (nets_of s.inputs s.cells) net.0) ins))
    pub values : (word : List Bool) → length word ≡ length s.inputs → map (λ t. at t word) (map space.table (map (λ p. if nat_eq p place then never else ref_at refs p) (map (λ (net : NetId). place_in (nets_of s.inputs s.cells) net.0) ins))) ≡ pin_values (with_net (val s (placed order word) Base) (net_at s place) false) ins

  -- one pin more
  one-without : (space : SpaceData) → space.width ≡ length s.inputs → (refs : List Ref) → HaveTables space refs (net_tables_by order s Base) → (is : IsStage s) (place : ℕ) → place < length (nets_of s.inputs s.cells) → (never : Ref) → IsLive space never → space.table never ≡ constant_table space.width false
      → (net : NetId) (ins : List NetId) → Contains (nets_of s.inputs s.cells) net.0 → PinsWithout space refs place never ins → PinsWithout space refs place never (net ∷ ins)
  one-without space width refs have is place lt never live zero net ins known rest = record {
    within = All-cons (λ p. p < length refs) _ _ own.0 rest.within;
    live = All-cons (IsLive space) _ _ (live-by (nat_eq (place_in (nets_of s.inputs s.cells) net.0) place)) rest.live;
    values = λ word same.
        let first = value-by word same (nat_eq (place_in (nets_of s.inputs s.cells) net.0) place) ∙ ap (λ b. cond b false (val s (placed order word) Base net.0)) (same-place (nets_of s.inputs s.cells) is.nets_differ place lt net.0 known) in
        let others = rest.values word same in
        λ k. first k ∷ others k;
  }
    where
      own : (place_in (nets_of s.inputs s.cells) net.0 < length refs) × IsLive space (ref_at refs (place_in (nets_of s.inputs s.cells) net.0)) × (space.table (ref_at refs (place_in (nets_of s.inputs s.cells) net.0)) ≡ net_table_by order s Base net.0)
      own = net-ref space (net_table_by order s Base) (nets_of s.inputs s.cells) refs have net.0 known (record { place = 0 })

      live-by : (b : Bool) → IsLive space (if b then never else ref_at refs (place_in (nets_of s.inputs s.cells) net.0))
      live-by true = live
      live-by false = own.1

      value-by : (word : List Bool) → length word ≡ length s.inputs → (b : Bool) → at (space.table (if b then never else ref_at refs (place_in (nets_of s.inputs s.cells) net.0))) word ≡ cond b false (val s (placed order word) Base net.0)
      value-by word same true = ap (λ t. at t word) (zero ∙ ap (λ n. constant_table n false) width) ∙ at_table (length s.inputs) (λ w. false) word same
      value-by word same false = ap (λ t. at t word) own.2 ∙ ordered-at (length s.inputs) order ordered (λ w. val s w Base net.0) word same

  pub pins-without : IsStage s → (space : SpaceData) → space.width ≡ length s.inputs → (refs : List Ref) → HaveTables space refs (net_tables_by order s Base) → (place : ℕ) → place < length (nets_of s.inputs s.cells) → (never : Ref) → IsLive space never → space.table never ≡ constant_table space.width false
      → (ins : List NetId) → All (λ (net : NetId). Contains (nets_of s.inputs s.cells) net.0) ins → PinsWithout space refs place never ins
  pins-without is space width refs have place lt never live zero [] among = record { within = All-nil (λ p. p < length refs); live = All-nil (IsLive space); values = λ word same. refl }
  pins-without is space width refs have place lt never live zero (net ∷ ins) among =
      one-without space width refs have is place lt never live zero net ins (All-head (λ (x : NetId). Contains (nets_of s.inputs s.cells) x.0) net ins among)
      (pins-without is space width refs have place lt never live zero ins (All-tail (λ (x : NetId). Contains (nets_of s.inputs s.cells) x.0) net ins among))

  pub without-table : (space : SpaceData) → space.width ≡ length s.inputs → (refs : List Ref) (place : ℕ) (never : Ref) (c : StageCell) → PinsWithout space refs place never c.ins.items → (ins : List Ref) → ins ≡ map (λ p. if nat_eq p place then never else ref_at refs p) (map (λ (net : NetId). place_in (nets_of s.inputs s.cells) net.0) c.ins.items)
      → gate_table space.width c.kind (map space.table ins) ≡ table_without order s (net_at s place) c
  without-table space width refs place never c pins ins are =
      (λ k. gate_table (width k) c.kind (map space.table (are k)))
      ∙ ordered-same (length s.inputs) order ordered (λ w. set_of c.kind (map (λ t. at t w) (map space.table (map (λ p. if nat_eq p place then never else ref_at refs p) (map (λ (net : NetId). place_in (nets_of s.inputs s.cells) net.0) c.ins.items))))) (λ w. holds (with_net (val s w Base) (net_at s place) false) c)
      (λ w same. ap (set_of c.kind) (pins.values w same))

  -- ---- what is left of a net
  pub left-first : (net : ℕ) → IsLeft order s net (net_table_by order s Base net)
  left-first net word same high = inl (ordered-at (length s.inputs) order ordered (λ w. val s w Base net) word same ∙ high)

  left-cases : (high without : Bool) → (set_of Th33w2 (true ∷ not high ∷ without ∷ []) ≡ true) ⊎ ((high && not without) ≡ true)
  left-cases true true = inl refl
  left-cases true false = inr refl
  left-cases false true = inl refl
  left-cases false false = inl refl

  -- one gate more: what is left where it falls with the net is gone
  pub left-next : (net : ℕ) (c : StageCell) → Contains s.cells c → (left : List Bool) → IsLeft order s net left → IsLeft order s net (gate_table (length s.inputs) Th33w2 (left ∷ low_table_by order s (out_of c) ∷ table_without order s net c ∷ []))
  left-next net c among left is word same high = elim (is word same high) [
    | inl one ↦
        let low = ordered-at (length s.inputs) order ordered (λ w. not (val s w Base (out_of c))) word same in
        let fallen = ordered-at (length s.inputs) order ordered (λ w. holds (with_net (val s w Base) net false) c) word same in
        elim (left-cases (val s (placed order word) Base (out_of c)) (holds (with_net (val s (placed order word) Base) net false) c)) [
          | inl more ↦ inl (
              at_table (length s.inputs) (λ w. set_of Th33w2 (map (λ t. at t w) (left ∷ low_table_by order s (out_of c) ∷ table_without order s net c ∷ []))) word same
              ∙ (λ k. set_of Th33w2 (one k ∷ low k ∷ fallen k ∷ []))
              ∙ more)
          | inr falls ↦ inr (c, among, falls)
        ]
    | inr falls ↦ inr falls
  ]

  -- the same in a space: the tables of what is left so far, of where the gate is low, and of what it makes without the net
  pub left-by : (old mid : SpaceData) → Keeps old mid → mid.width ≡ length s.inputs → (place i reader : ℕ) → i < length s.cells → reader ≡ 2 * length s.inputs + i → reader < length (nets_of s.inputs s.cells) → (lows : List Ref) → HaveTables old lows (low_tables_by order s) → reader < length lows → (d : StageCell) (e : Ref)
      → (left fallen : Ref) → IsLive old left → IsLeft order s (net_at s place) (old.table left) → mid.table fallen ≡ table_without order s (net_at s place) (get_or s.cells i d)
      → IsLeft order s (net_at s place) (gate_table mid.width Th33w2 (map mid.table (left ∷ get_or lows reader e ∷ fallen ∷ [])))
  left-by old mid k width place i reader lt at_reader within lows have many d e left fallen live is without =
      let cell : StageCell = get_or s.cells i d in
      let net : net_at s reader ≡ out_of (get_or s.cells i d) = ap (net_at s) at_reader ∙ net_at-cell s i ∙ out_at-is s i d lt in
      let low : mid.table (get_or lows reader e) ≡ low_table_by order s (out_of (get_or s.cells i d)) = k.tables (get_or lows reader e) (have.live reader e many) ∙ have-at old lows (low_tables_by order s) have reader e [] many ∙ low-table_at reader within ∙ ap (low_table_by order s) net in
      let before : mid.table left ≡ old.table left = k.tables left live in
      let tables : gate_table mid.width Th33w2 (map mid.table (left ∷ get_or lows reader e ∷ fallen ∷ [])) ≡ gate_table (length s.inputs) Th33w2 (old.table left ∷ low_table_by order s (out_of (get_or s.cells i d)) ∷ table_without order s (net_at s place) (get_or s.cells i d) ∷ []) =
      λ j. gate_table (width j) Th33w2 (before j ∷ low j ∷ without j ∷ []) in
      subst (IsLeft order s (net_at s place)) (sym tables)
      (left-next (net_at s place) (get_or s.cells i d) (Contains-from_Member (get_or s.cells i d) (Member-get_or s.cells i d lt)) (old.table left) is)

  -- where nothing is left, the net is observed
  pub none-left : (net : ℕ) (left : List Bool) → IsLeft order s net left → left ≡ constant_table (length s.inputs) false → IsAlwaysObserved s net
  none-left net left is none word same high =
      let own : List Bool = taken order word in
      let back : placed order own ≡ word = placed-taken (length s.inputs) order ordered word same in
      let wide : length own ≡ length s.inputs = length-taken order word ∙ ordered.many in
      elim (is own wide (ap (λ w. val s w Base net) back ∙ high)) [
        | inl one ↦ absurd (both_ways (at left own) (ap (λ t. at t own) none ∙ at_table (length s.inputs) (λ w. false) own wide) one)
        | inr falls ↦ inr (subst (λ w. SomeFalls s (val s w Base) net) back falls)
      ]
