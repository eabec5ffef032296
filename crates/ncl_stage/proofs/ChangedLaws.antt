-- What a variant leaves unchanged, net by net in the order of a stage.
use Rattle.ncl_stage.proofs.Terms.{All, All-cons, All-head, All-nil, All-tail, AllDiffer, AreValues, Base, Bool, Contains, IsLive, IsOrderOf, IsSpace, IsStage, IsUnchanged, IsUnreached, IsWiring, Keeps, List, MarksChanges, Member, Member-get_or, NetId, Rails, Ref, SpaceData, StageCell, StageData, Th12, ValuesData, Variant, WiringData, [], among, ap, arith, cases_lt, drop, false, gate, gate_table, get_or, get_or-append-add, get_or-map, get_or_append_left, get_or_push, have-at, have-kept, have-length, inl, inr, length, length-append, length-map, length-table_of, length-take-le, list_any, map, named_rails, nat_eq, net_at, net_table_by, net_tables_by, nets_of, not, or_parts, out_of, pin_places, place_in, placed, pow-lt, rail_at, rail_nets, rail_of, rails-length, reads-within, refl, subst, suc, sym, take, take-append-add, take-map, true, val, val-rail, words, words_by, zero, ℕ, ◌%◌, ◌&&◌, ◌*◌, ◌++◌, ◌+◌, ◌-◌, ◌/◌, ◌<◌, ◌^◌, ◌↔◌, ◌∙◌, ◌∷◌, ◌≡◌, ◌≤◌}
use Rattle.ncl_stage.proofs.OrderedTables.{table-any}
use Rattle.ncl_stage.proofs.NetLaws.{cell-net, nets-cut, out_at, out_at-is, pins-of, place_in-front, reads-before}
use Rattle.ncl_stage.proofs.PlaceLaws.{place_in-at}

pub nets-length : (s : StageData) → length (nets_of s.inputs s.cells) ≡ 2 * length s.inputs + length s.cells
nets-length s = length-append (rail_nets s.inputs) (map out_of s.cells) ∙ (λ i. rails-length s.inputs i + length-map s.cells out_of i)

-- the net at a place is a rail, or the output of the cell that comes so many places after the rails
pub net_at-rail : (s : StageData) (place : ℕ) → place < 2 * length s.inputs → Member (net_at s place) (rail_nets s.inputs)
net_at-rail s place lt =
    let within : place < length (rail_nets s.inputs) = subst (λ n. place < n) (sym (rails-length s.inputs)) lt in
    subst (λ net. Member net (rail_nets s.inputs)) (sym (get_or_append_left (rail_nets s.inputs) (map out_of s.cells) 0 place within)) (Member-get_or (rail_nets s.inputs) place 0 within)

-- the rail at a place is that of the bit there
rail-place : (rails : List Rails) (d : Rails) (place : ℕ) → place < 2 * length rails → get_or (rail_nets rails) place 0 ≡ rail_of (get_or rails (place / 2) d) (nat_eq (place % 2) 1)
rail-place [] d place lt = absurd (omega (arith, lt))
rail-place (r ∷ rs) d zero lt = refl
rail-place (r ∷ rs) d (suc zero) lt = refl
rail-place (r ∷ rs) d (suc (suc place)) lt =
    let bit : suc (place / 2) ≡ suc (suc place) / 2 = omega arith in
    let side : place % 2 ≡ suc (suc place) % 2 = omega arith in
    rail-place rs d place (omega (arith, lt)) ∙ (λ i. rail_of (get_or (r ∷ rs) (bit i) d) (nat_eq (side i) 1))

pub net_at-place : (s : StageData) (place : ℕ) → place < 2 * length s.inputs → net_at s place ≡ rail_at s (place / 2) (nat_eq (place % 2) 1)
net_at-place s place lt =
    get_or_append_left (rail_nets s.inputs) (map out_of s.cells) 0 place (subst (λ n. place < n) (sym (rails-length s.inputs)) lt)
    ∙ rail-place s.inputs (record { zero = record { 0 = 0 }; one = record { 0 = 0 } }) place lt

pub net_at-cell : (s : StageData) (i : ℕ) → net_at s (2 * length s.inputs + i) ≡ out_at s i
net_at-cell s i = ap (λ n. get_or (nets_of s.inputs s.cells) (n + i) 0) (sym (rails-length s.inputs)) ∙ get_or-append-add (rail_nets s.inputs) (map out_of s.cells) i 0

-- the nets before the output of a cell
pub nets-before : (s : StageData) (i : ℕ) → take (2 * length s.inputs + i) (nets_of s.inputs s.cells) ≡ nets_of s.inputs (take i s.cells)
nets-before s i =
    ap (λ n. take (n + i) (nets_of s.inputs s.cells)) (sym (rails-length s.inputs))
    ∙ take-append-add (rail_nets s.inputs) (map out_of s.cells) i
    ∙ ap (λ outs. rail_nets s.inputs ++ outs) (take-map out_of i s.cells)

pub tables-before : (s : StageData) (order : List ℕ) (variant : Variant) (place i : ℕ) → place ≡ 2 * length s.inputs + i → take place (net_tables_by order s variant) ≡ map (net_table_by order s variant) (nets_of s.inputs (take i s.cells))
tables-before s order variant place i at =
    take-map (net_table_by order s variant) place (nets_of s.inputs s.cells)
    ∙ ap (map (net_table_by order s variant)) (ap (λ n. take n (nets_of s.inputs s.cells)) at ∙ nets-before s i)

pub table-at : (s : StageData) (order : List ℕ) (variant : Variant) (place : ℕ) → place < length (nets_of s.inputs s.cells) → get_or (net_tables_by order s variant) place [] ≡ net_table_by order s variant (net_at s place)
table-at s order variant place lt = get_or-map (net_table_by order s variant) (nets_of s.inputs s.cells) place 0 [] lt

-- what a cell reads stands before it
front-places : (front rest : List ℕ) → AllDiffer (front ++ rest) → (ins : List NetId) → All (λ (net : NetId). Contains front net.0) ins → All (λ place. place < length front) (map (λ (net : NetId). place_in (front ++ rest) net.0) ins)
front-places front rest differ [] known = All-nil (λ place. place < length front)
front-places front rest differ (net ∷ ins) known =
    All-cons (λ place. place < length front) _ _ (place_in-front front rest differ net.0 (All-head (λ (x : NetId). Contains front x.0) net ins known)).0
    (front-places front rest differ ins (All-tail (λ (x : NetId). Contains front x.0) net ins known))

-- a cell, where a list has none
abbrev no_cell : StageCell
no_cell = gate 0 Th12 [] 0

pub pins-before : (s : StageData) → IsStage s → (w : WiringData) → IsWiring s w → (i : ℕ) → i < length s.cells → (place : ℕ) → place ≡ 2 * length s.inputs + i → All (λ p. p < place) (get_or w.pins i [])
pins-before s is w wired i lt place at =
    subst (All (λ p. p < place)) (sym (pins-of s w wired i no_cell lt))
    (subst (λ n. All (λ p. p < n) (pin_places (nets_of s.inputs s.cells) cell)) size
    (subst (λ nets. All (λ p. p < length front) (pin_places nets cell)) (sym (nets-cut s i))
    (front-places front (map out_of (drop i s.cells)) (subst AllDiffer (nets-cut s i) is.nets_differ) cell.ins.items (reads-before s is i no_cell lt))))
  where
    cell : StageCell
    cell = get_or s.cells i no_cell

    front : List ℕ
    front = nets_of s.inputs (take i s.cells)

    size : length front ≡ place
    size =
        let many = nets-length s in
        ap length (sym (nets-before s i)) ∙ length-take-le (2 * length s.inputs + i) (nets_of s.inputs s.cells) (omega (arith, many)) ∙ sym at

-- a rail is unreached
pub rail-unreached : (s : StageData) (order : List ℕ) → IsStage s → (variant : Variant) (net : ℕ) → Member net (rail_nets s.inputs) → IsUnreached order s variant net
rail-unreached s order is variant net m free = table-any (words_by order) (λ word. val s word variant net) (λ word. val s word Base net) (λ word.
    val-rail s is word variant net m ∙ ap (λ low. among (named_rails s.inputs word) net && not low) free ∙ sym (val-rail s is word Base net m))

-- so is the output of a cell where all that it reads is unchanged
cell-unreached : (s : StageData) (order : List ℕ) (ordered : IsOrderOf (length s.inputs) order) → IsStage s → (variant : Variant) (c : StageCell) → Member c s.cells → map (λ (net : NetId). net_table_by order s variant net.0) c.ins.items ≡ map (λ (net : NetId). net_table_by order s Base net.0) c.ins.items → IsUnreached order s variant (out_of c)
cell-unreached s order ordered is variant c m pins free = sym (cell-net s order ordered is variant c m free) ∙ ap (gate_table (length s.inputs) c.kind) pins ∙ cell-net s order ordered is Base c m refl

-- where a mark is read as none, it is one of the marks
mark-within : (marks : List Bool) (place : ℕ) → get_or marks place true ≡ false → place < length marks
mark-within [] place none = absurd cc
mark-within (mark ∷ marks) zero none = omega arith
mark-within (mark ∷ marks) (suc place) none = let rest = mark-within marks place none in omega arith

-- nets at unchanged places have the tables of Base
pins-unchanged : (s : StageData) (order : List ℕ) (variant : Variant) (ins : List NetId) → All (λ (net : NetId). Contains (nets_of s.inputs s.cells) net.0) ins → All (λ place. IsUnchanged order s variant (net_at s place)) (map (λ (net : NetId). place_in (nets_of s.inputs s.cells) net.0) ins) → map (λ (net : NetId). net_table_by order s variant net.0) ins ≡ map (λ (net : NetId). net_table_by order s Base net.0) ins
pins-unchanged s order variant [] known same = refl
pins-unchanged s order variant (net ∷ ins) known same =
    let at = (place_in-at (nets_of s.inputs s.cells) net.0 (All-head (λ (x : NetId). Contains (nets_of s.inputs s.cells) x.0) net ins known)).1 0 in
    let first : IsUnchanged order s variant net.0 = subst (IsUnchanged order s variant) at (All-head (λ place. IsUnchanged order s variant (net_at s place)) _ _ same) in
    let others = pins-unchanged s order variant ins (All-tail (λ (x : NetId). Contains (nets_of s.inputs s.cells) x.0) net ins known) (All-tail (λ place. IsUnchanged order s variant (net_at s place)) _ _ same) in
    λ i. first i ∷ others i

-- the output of a cell is unreached where the places that it reads are unchanged
pub places-unreached : (s : StageData) (order : List ℕ) (ordered : IsOrderOf (length s.inputs) order) → IsStage s → (w : WiringData) → IsWiring s w → (variant : Variant) (i : ℕ) → i < length s.cells → All (λ place. IsUnchanged order s variant (net_at s place)) (get_or w.pins i []) → IsUnreached order s variant (out_at s i)
places-unreached s order ordered is w wired variant i lt same =
    let cell : StageCell = get_or s.cells i no_cell in
    subst (IsUnreached order s variant) (sym (out_at-is s i no_cell lt))
    (cell-unreached s order ordered is variant cell (Member-get_or s.cells i no_cell lt)
    (pins-unchanged s order variant cell.ins.items (reads-within s is i no_cell lt)
    (subst (All (λ place. IsUnchanged order s variant (net_at s place))) (pins-of s w wired i no_cell lt) same)))

-- where no mark stands at some places, they are unchanged
unmarked-same : (s : StageData) (order : List ℕ) (variant : Variant) (marks : List Bool) → MarksChanges order s variant marks → (places : List ℕ) → list_any (λ place. get_or marks place true) places ≡ false → All (λ place. IsUnchanged order s variant (net_at s place)) places
unmarked-same s order variant marks marked [] none = All-nil (λ place. IsUnchanged order s variant (net_at s place))
unmarked-same s order variant marks marked (place ∷ places) none =
    let parts = or_parts (get_or marks place true) _ none in
    All-cons (λ p. IsUnchanged order s variant (net_at s p)) place places ((marked place (mark-within marks place parts.0)).0 parts.0)
    (unmarked-same s order variant marks marked places parts.1)

pub unmarked-unreached : (s : StageData) (order : List ℕ) (ordered : IsOrderOf (length s.inputs) order) → IsStage s → (w : WiringData) → IsWiring s w → (variant : Variant) (marks : List Bool) → MarksChanges order s variant marks → (i : ℕ) → i < length s.cells → list_any (λ place. get_or marks place true) (get_or w.pins i []) ≡ false → IsUnreached order s variant (out_at s i)
unmarked-unreached s order ordered is w wired variant marks marked i lt none =
    places-unreached s order ordered is w wired variant i lt (unmarked-same s order variant marks marked (get_or w.pins i []) none)

-- at first there are no marks
pub marks-none : (s : StageData) (order : List ℕ) (variant : Variant) → MarksChanges order s variant []
marks-none s order variant = λ place within. absurd (omega arith)

-- one mark more
pub marks-more : (s : StageData) (order : List ℕ) (variant : Variant) (marks : List Bool) (mark : Bool) → MarksChanges order s variant marks → (mark ≡ false) ↔ IsUnchanged order s variant (net_at s (length marks)) → MarksChanges order s variant (marks ++ mark ∷ [])
marks-more s order variant marks mark marked last = λ place within.
    elim (cases_lt place (length marks)) [
      | inl before ↦ subst (λ b. (b ≡ false) ↔ IsUnchanged order s variant (net_at s place)) (sym (get_or_append_left marks (mark ∷ []) true place before)) (marked place before)
      | inr after ↦
          let grown = length-append marks (mark ∷ []) in
          let at : length marks ≡ place = omega arith in
          subst (λ n. (get_or (marks ++ mark ∷ []) n true ≡ false) ↔ IsUnchanged order s variant (net_at s n)) at
          (subst (λ b. (b ≡ false) ↔ IsUnchanged order s variant (net_at s (length marks))) (sym (get_or_push marks mark true (length marks) refl)) last)
    ]

-- values stay those of the stage while what is live stays so
pub values-kept : (old new : SpaceData) (s : StageData) (variant : Variant) (v : ValuesData) → Keeps old new → AreValues old s variant v → AreValues new s variant v
values-kept old new s variant v kept are = record { wired = are.wired; shown = have-kept old new v.refs (net_tables_by v.wiring.order s variant) kept are.shown }

-- the Ref of the net at a place
pub value-at : (space : SpaceData) (s : StageData) (variant : Variant) (v : ValuesData) → AreValues space s variant v → (place : ℕ) (d : Ref) → place < length (nets_of s.inputs s.cells) → IsLive space (get_or v.refs place d) × (space.table (get_or v.refs place d) ≡ net_table_by v.wiring.order s variant (net_at s place))
value-at space s variant v are place d lt =
    let many : length v.refs ≡ length (nets_of s.inputs s.cells) = have-length space v.refs (net_tables_by v.wiring.order s variant) are.shown ∙ length-map (nets_of s.inputs s.cells) (net_table_by v.wiring.order s variant) in
    let within : place < length v.refs = omega arith in
    (are.shown.live place d within, have-at space v.refs (net_tables_by v.wiring.order s variant) are.shown place d [] within ∙ table-at s v.wiring.order variant place lt)

-- so many words have only the words of so many bits
same-power : (a b : ℕ) → 2 ^ a ≡ 2 ^ b → a ≡ b
same-power a b same = elim (cases_lt a b) [
  | inl less ↦ (let lt = pow-lt less in absurd (omega (arith, lt, same)))
  | inr least ↦
      elim (cases_lt b a) [
        | inl more ↦ (let lt = pow-lt more in absurd (omega (arith, lt, same)))
        | inr most ↦ omega (arith, least, most)
      ]
]

-- a space that has the values of a stage has its width
pub values-width : (space : SpaceData) (s : StageData) (variant : Variant) (v : ValuesData) → IsSpace space → IsStage s → AreValues space s variant v → space.width ≡ length s.inputs
values-width space s variant v is stage are =
    let many = nets-length s in
    let first : Ref = get_or v.refs 0 (record { place = 0 }) in
    let value = value-at space s variant v are 0 (record { place = 0 }) (omega (arith, stage.some_inputs, many)) in
    let f : List Bool → Bool = λ word. val s word variant (net_at s 0) in
    same-power space.width (length s.inputs)
    (sym (is.tables first value.0) ∙ ap length value.1
    ∙ length-map (words_by v.wiring.order) f ∙ length-map (words (length v.wiring.order)) (placed v.wiring.order)
    ∙ sym (length-map (words (length v.wiring.order)) (λ word. false)) ∙ length-table_of (length v.wiring.order) (λ word. false)
    ∙ ap (λ n. 2 ^ n) are.wired.order.many)

-- the place of the cell whose output stands behind the rails
pub behind-inputs : (s : StageData) (place : ℕ) (inputs : List Rails) → inputs ≡ s.inputs → place < length (nets_of s.inputs s.cells) → 2 * length inputs ≤ place → (place - 2 * length inputs < length s.cells) × (place ≡ 2 * length s.inputs + (place - 2 * length inputs))
behind-inputs s place inputs same within after =
    let size = nets-length s in
    let many = ap length same in
    (omega (arith, size, many, within, after), omega (arith, many, after))
