-- The tables of the nets of a stage, as a space makes them: of rails, of outputs of cells, and of what is
-- kept low.
use Rattle.ncl_stage.proofs.Terms.{All, All-cons, All-head, All-nil, All-tail, AllDiffer, Bool, Contains, HaveTables, IsLive, IsOrderOf, IsStage, IsWiring, List, Member, Member-append_cases, NetId, Rails, Ref, SpaceData, StageCell, StageData, Variant, WiringData, [], among, ap, arith, at, cases_eq, cases_lt, constant_table, drop, drop_more, false, gate_table, get_or, get_or-map, get_or_append_left, have-at, have-length, holds, inl, inr, is_value, kept_low, length, length-append, length-map, map, map-append, member_of_map, named_rails, net_table_by, nets_of, not, out_of, pin_places, pin_values, place_in, placed, rail_at, rail_nets, rail_table, ref_at, refl, set_of, subst, sym, take, take-append-drop, true, val, val-output, val-rail, zero, ℕ, ◌&&◌, ◌++◌, ◌+◌, ◌<◌, ◌∙◌, ◌∷◌, ◌≡◌, left-differ, named-at, rail-member}
use Rattle.std.proofs.lemmas.List.{append_assoc}
use Rattle.ncl_stage.proofs.OrderLaws.{placed-at}
use Rattle.ncl_stage.proofs.OrderedTables.{ordered-at, ordered-same, placed-length}
use Rattle.ncl_stage.proofs.PlaceLaws.{place_in-at}

and_high : (a b : Bool) → b ≡ false → (a && not b) ≡ a
and_high a true e = absurd cc
and_high true false e = refl
and_high false false e = refl

and_low : (a b : Bool) → b ≡ true → (a && not b) ≡ false
and_low a false e = absurd cc
and_low true true e = refl
and_low false true e = refl

-- what is kept low is low at every word
pub low-net : (s : StageData) (order : List ℕ) (ordered : IsOrderOf (length s.inputs) order) → IsStage s → (variant : Variant) (net : ℕ) → Member net (nets_of s.inputs s.cells) → kept_low s variant net ≡ true → net_table_by order s variant net ≡ constant_table (length s.inputs) false
low-net s order ordered is variant net m low = sym (ordered-same (length s.inputs) order ordered (λ word. false) (λ word. val s word variant net) (λ word same. sym (by_net (placed order word))))
  where
    by_cell : (word : List Bool) → (c : StageCell) × Member c s.cells × (out_of c ≡ net) → val s word variant net ≡ false
    by_cell word (c, m, at) =
        ap (val s word variant) (sym at) ∙ val-output s is word variant c m
        ∙ ap (λ b. not b && holds (val s word variant) c) (ap (kept_low s variant) at ∙ low)

    by_net : (word : List Bool) → val s word variant net ≡ false
    by_net word = elim (Member-append_cases net (rail_nets s.inputs) (map out_of s.cells) m) [
      | inl rail ↦ val-rail s is word variant net rail ∙ and_low (among (named_rails s.inputs word) net) (kept_low s variant net) low
      | inr out ↦ by_cell word (member_of_map out_of s.cells net out)
    ]

-- a rail that isn't
pub rail-net : (s : StageData) (order : List ℕ) (ordered : IsOrderOf (length s.inputs) order) → IsStage s → (variant : Variant) (i : ℕ) (value : Bool) → i < length s.inputs → kept_low s variant (rail_at s i value) ≡ false → rail_table (length s.inputs) (place_in order i) value ≡ net_table_by order s variant (rail_at s i value)
rail-net s order ordered is variant i value lt free =
    let d : Rails = record { zero = record { 0 = 0 }; one = record { 0 = 0 } } in
    let many = ordered.many in
    ordered-same (length s.inputs) order ordered (λ word. is_value value (get_or word (place_in order i) false)) (λ word. val s word variant (rail_at s i value)) (λ word same.
    sym (val-rail s is (placed order word) variant (rail_at s i value) (rail-member s.inputs i d value lt)
    ∙ and_high (among (named_rails s.inputs (placed order word)) (rail_at s i value)) (kept_low s variant (rail_at s i value)) free
    ∙ named-at s.inputs (left-differ (rail_nets s.inputs) (map out_of s.cells) is.nets_differ) (placed order word) (placed-length (length s.inputs) order ordered word) i d lt value
    ∙ ap (is_value value) (placed-at order word i (omega arith))))

-- the output of a cell that isn't, from what its pins have
pins-at : (s : StageData) (order : List ℕ) (ordered : IsOrderOf (length s.inputs) order) (variant : Variant) (word : List Bool) → length word ≡ length s.inputs → (ins : List NetId) → map (λ table. at table word) (map (λ (net : NetId). net_table_by order s variant net.0) ins) ≡ pin_values (val s (placed order word) variant) ins
pins-at s order ordered variant word same [] = refl
pins-at s order ordered variant word same (net ∷ ins) =
    let first = ordered-at (length s.inputs) order ordered (λ w. val s w variant net.0) word same in
    let rest = pins-at s order ordered variant word same ins in
    λ i. first i ∷ rest i

pub cell-net : (s : StageData) (order : List ℕ) (ordered : IsOrderOf (length s.inputs) order) → IsStage s → (variant : Variant) (c : StageCell) → Member c s.cells → kept_low s variant (out_of c) ≡ false → gate_table (length s.inputs) c.kind (map (λ (net : NetId). net_table_by order s variant net.0) c.ins.items) ≡ net_table_by order s variant (out_of c)
cell-net s order ordered is variant c m free = ordered-same (length s.inputs) order ordered (λ word. set_of c.kind (map (λ table. at table word) (map (λ (net : NetId). net_table_by order s variant net.0) c.ins.items))) (λ word. val s word variant (out_of c)) (λ word same.
    ap (set_of c.kind) (pins-at s order ordered variant word same c.ins.items)
    ∙ sym (val-output s is (placed order word) variant c m ∙ ap (λ b. not b && holds (val s (placed order word) variant) c) free))

-- a net of a front of the nets has its place in the front
pub place_in-front : (front rest : List ℕ) → AllDiffer (front ++ rest) → (net : ℕ) → Contains front net → (place_in (front ++ rest) net < length front) × (get_or front (place_in (front ++ rest) net) 0 ≡ net)
place_in-front front rest differ net (k, lt, at) = (within, sym (get_or_append_left front rest 0 place within) ∙ is.1 0)
  where
    whole : Contains (front ++ rest) net
    whole = (k, omega (arith, length-append front rest), get_or_append_left front rest net k lt ∙ at)

    place : ℕ
    place = place_in (front ++ rest) net

    is : (place_in (front ++ rest) net < length (front ++ rest)) × ((d : ℕ) → get_or (front ++ rest) (place_in (front ++ rest) net) d ≡ net)
    is = place_in-at (front ++ rest) net whole

    within : place_in (front ++ rest) net < length front
    within =
        elim (cases_lt (place_in (front ++ rest) net) k) [
          | inl before ↦ omega arith
          | inr after ↦
              elim (cases_eq k (place_in (front ++ rest) net)) [
                | inl same ↦ omega arith
                | inr other ↦ absurd (differ k (place_in (front ++ rest) net) net (omega arith) is.0 (get_or_append_left front rest net k lt ∙ at ∙ sym (is.1 net)))
              ]
        ]

-- the Ref at the place of a net, where Refs have the tables of a front of the nets
pub front-ref : (space : SpaceData) (f : ℕ → List Bool) (front rest : List ℕ) → AllDiffer (front ++ rest) → (refs : List Ref) → HaveTables space refs (map f front) → (net : ℕ) → Contains front net → (place_in (front ++ rest) net < length refs) × IsLive space (ref_at refs (place_in (front ++ rest) net)) × (space.table (ref_at refs (place_in (front ++ rest) net)) ≡ f net)
front-ref space f front rest differ refs have net among =
    let at = place_in-front front rest differ net among in
    let many : length refs ≡ length front = have-length space refs (map f front) have ∙ length-map front f in
    let within : place_in (front ++ rest) net < length refs = omega (arith, at.0) in (
      within,
      have.live _ (record { place = 0 }) within,
      have-at space refs (map f front) have (place_in (front ++ rest) net) (record { place = 0 }) [] within
          ∙ get_or-map f front (place_in (front ++ rest) net) 0 [] at.0 ∙ ap f at.1,
    )

-- the same of the inputs of a cell
pub record Shows (space : SpaceData) (f : ℕ → List Bool) (refs : List Ref) (ins : List NetId) (places : List ℕ) : Type 0 where
  pub within : All (λ place. place < length refs) places
  pub live : All (IsLive space) (map (ref_at refs) places)
  pub tables : map space.table (map (ref_at refs) places) ≡ map (λ (net : NetId). f net.0) ins

pub front-refs : (space : SpaceData) (f : ℕ → List Bool) (front rest : List ℕ) → AllDiffer (front ++ rest) → (refs : List Ref) → HaveTables space refs (map f front) → (ins : List NetId) → All (λ (net : NetId). Contains front net.0) ins → Shows space f refs ins (map (λ (net : NetId). place_in (front ++ rest) net.0) ins)
front-refs space f front rest differ refs have [] among = record { within = All-nil (λ place. place < length refs); live = All-nil (IsLive space); tables = refl }
front-refs space f front rest differ refs have (net ∷ ins) among =
    let first = front-ref space f front rest differ refs have net.0 (All-head (λ (net : NetId). Contains front net.0) net ins among) in
    let others = front-refs space f front rest differ refs have ins (All-tail (λ (net : NetId). Contains front net.0) net ins among) in
    record {
      within = All-cons (λ place. place < length refs) _ _ first.0 others.within;
      live = All-cons (IsLive space) _ _ first.1 others.live;
      tables = λ i. first.2 i ∷ others.tables i;
    }

-- the nets, cut at the cell at a place
pub nets-cut : (s : StageData) (i : ℕ) → nets_of s.inputs s.cells ≡ nets_of s.inputs (take i s.cells) ++ map out_of (drop i s.cells)
nets-cut s i =
    ap (λ cells. rail_nets s.inputs ++ map out_of cells) (sym (take-append-drop i s.cells))
    ∙ ap (λ nets. rail_nets s.inputs ++ nets) (map-append out_of (take i s.cells) (drop i s.cells))
    ∙ sym (append_assoc (rail_nets s.inputs) (map out_of (take i s.cells)) (map out_of (drop i s.cells)))

-- what a cell reads are nets before it
pub reads-before : (s : StageData) → IsStage s → (i : ℕ) (d : StageCell) → i < length s.cells → All (λ (net : NetId). Contains (nets_of s.inputs (take i s.cells)) net.0) (get_or s.cells i d).ins.items
reads-before s is i d lt = is.in_order (take i s.cells) (drop (i + 1) s.cells) (get_or s.cells i d) (sym (take-append-drop i s.cells) ∙ ap (λ l. take i s.cells ++ l) (drop_more s.cells i d lt))

-- the inputs of the cell at a place, where the nets before it have been made
pub cell-refs : (space : SpaceData) (s : StageData) → IsStage s → (f : ℕ → List Bool) (i : ℕ) (d : StageCell) → i < length s.cells → (refs : List Ref) → HaveTables space refs (map f (nets_of s.inputs (take i s.cells))) → Shows space f refs (get_or s.cells i d).ins.items (pin_places (nets_of s.inputs s.cells) (get_or s.cells i d))
cell-refs space s is f i d lt refs have =
    subst (λ nets. Shows space f refs (get_or s.cells i d).ins.items (pin_places nets (get_or s.cells i d))) (sym (nets-cut s i))
    (front-refs space f (nets_of s.inputs (take i s.cells)) (map out_of (drop i s.cells)) (subst AllDiffer (nets-cut s i) is.nets_differ) refs have (get_or s.cells i d).ins.items (reads-before s is i d lt))

-- what the wiring says of the pins of a cell
pub pins-of : (s : StageData) (w : WiringData) → IsWiring s w → (i : ℕ) (d : StageCell) → i < length s.cells → get_or w.pins i [] ≡ pin_places (nets_of s.inputs s.cells) (get_or s.cells i d)
pins-of s w wired i d lt =
    ap (λ pins. get_or pins i []) wired.pins ∙ get_or-map (pin_places w.nets) s.cells i d [] lt ∙ ap (λ nets. pin_places nets (get_or s.cells i d)) wired.nets

-- the output of the cell at a place
abbrev pub out_at : StageData → ℕ → ℕ
out_at s i = get_or (map out_of s.cells) i 0

pub out_at-is : (s : StageData) (i : ℕ) (d : StageCell) → i < length s.cells → out_at s i ≡ out_of (get_or s.cells i d)
out_at-is s i d lt = get_or-map out_of s.cells i d 0 lt
