-- The tables of the DATA of the outputs, of their conjunctions, and of what a variant asks, as a space makes
-- them from the tables of the nets.
use Rattle.ncl_stage.proofs.Terms.{All, All-head, All-tail, Bool, Contains, HaveTables, IsLive, IsOrderOf, IsStage, IsWiring, Kind, List, None, Option, Rails, Ref, Some, SpaceData, StageData, Th12, Th22, ValuesAt, Variant, WiringData, [], all_data_function, all_table, ap, arith, at, at_rail, at_table, conjunction, data_fronts, data_functions, false, front_tables, fronts, function_tables_by, gate_table, get_or, get_or-map, get_or-take, get_or_push, has_data, have-at, have-length, illegal_functions, is_illegal, length, length-append, length-map, length-take-le, list_all, list_all-append, map, map-append, map-map, net_functions, net_table_by, net_tables_by, nets_of, option_map, pair_table, place_in, placed, rail_nets, rail_places, refl, set_of, shared_tables_by, subst, suc, sym, table_of, table_of-same, take, take_all, take_more, true, val, words_by, zero, ℕ, ◌&&◌, ◌++◌, ◌+◌, ◌-◌, ◌<◌, ◌^◌, ◌||◌, ◌∙◌, ◌∷◌, ◌≡◌, ◌≤◌, and_gate, or_gate, table_of-at}
use Rattle.ncl_stage.proofs.OrderedTables.{ordered-at, ordered-same}
use Rattle.ncl_stage.proofs.PlaceLaws.{place_in-at}

take_none : {X : Type 0} (l : List X) → take zero l ≡ []
take_none [] = refl
take_none (y ∷ l) = refl

-- the fronts of a list
pub length-fronts : {X : Type 0} (xs : List X) → length (fronts xs) ≡ length xs
length-fronts [] = refl
length-fronts (x ∷ xs) = ap suc (length-map (fronts xs) (λ front. x ∷ front) ∙ length-fronts xs)

pub fronts-at : {X : Type 0} (xs : List X) (k : ℕ) → k < length xs → get_or (fronts xs) k [] ≡ take (suc k) xs
fronts-at [] k lt = absurd (omega arith)
fronts-at (x ∷ xs) zero lt = ap (λ l. x ∷ l) (sym (take_none xs))
fronts-at (x ∷ xs) (suc k) lt =
    get_or-map (λ front. x ∷ front) (fronts xs) k [] [] (omega (arith, length-fronts xs)) ∙ ap (λ l. x ∷ l) (fronts-at xs k (omega arith))

pub fronts-map : {X Y : Type 0} (f : X → Y) (xs : List X) → fronts (map f xs) ≡ map (map f) (fronts xs)
fronts-map f [] = refl
fronts-map f (x ∷ xs) = ap (λ l. (f x ∷ []) ∷ l) (ap (map (λ front. f x ∷ front)) (fronts-map f xs) ∙ over (fronts xs))
  where
    over : (ls : List (List _)) → map (λ front. f x ∷ front) (map (map f) ls) ≡ map (map f) (map (λ front. x ∷ front) ls)
    over [] = refl
    over (l ∷ ls) = ap (λ rest. (f x ∷ map f l) ∷ rest) (over ls)

and_all : (a b : Bool) → (a && (b && true)) ≡ (a && b)
and_all true true = refl
and_all true false = refl
and_all false b = refl

-- the conjunction of one more
pub all-more : (n : ℕ) (ts : List (List Bool)) (t : List Bool) → gate_table n Th22 (all_table n ts ∷ t ∷ []) ≡ all_table n (ts ++ t ∷ [])
all-more n ts t = table_of-same n (λ w. set_of Th22 (at (all_table n ts) w ∷ at t w ∷ [])) (λ w. list_all (λ u. at u w) (ts ++ t ∷ [])) (λ w same.
    and_gate (at (all_table n ts) w) (at t w)
    ∙ ap (λ b. b && at t w) (at_table n (λ v. list_all (λ u. at u v) ts) w same)
    ∙ sym (and_all (list_all (λ u. at u w) ts) (at t w))
    ∙ sym (list_all-append (λ u. at u w) ts (t ∷ [])))

and_true : (b : Bool) → (b && true) ≡ b
and_true true = refl
and_true false = refl

-- and of one alone
pub all-one : (n : ℕ) (t : List Bool) → length t ≡ 2 ^ n → all_table n (t ∷ []) ≡ t
all-one n t e = table_of-same n (λ w. list_all (λ u. at u w) (t ∷ [])) (at t) (λ w same. and_true (at t w)) ∙ table_of-at n t e

-- the conjunction of the first k, if there are any
abbrev pub front_at : ℕ → List (List Bool) → ℕ → Option (List Bool)
front_at n ts zero = None
front_at n ts (suc k) = Some (all_table n (take (suc k) ts))

pub length-front_tables : (n : ℕ) (ts : List (List Bool)) → length (front_tables n ts) ≡ length ts
length-front_tables n ts = length-map (fronts ts) (all_table n) ∙ length-fronts ts

pub front_tables-at : (n : ℕ) (ts : List (List Bool)) (k : ℕ) → k < length ts → get_or (front_tables n ts) k [] ≡ all_table n (take (suc k) ts)
front_tables-at n ts k lt = get_or-map (all_table n) (fronts ts) k [] [] (omega (arith, length-fronts ts)) ∙ ap (all_table n) (fronts-at ts k lt)

-- one conjunction more
pub conjunction-at : (n : ℕ) (ts : List (List Bool)) (k : ℕ) → k < length ts → length (get_or ts k []) ≡ 2 ^ n → conjunction n (front_at n ts k) (get_or ts k []) ≡ get_or (front_tables n ts) k []
conjunction-at n ts zero lt e = sym (all-one n (get_or ts 0 []) e) ∙ ap (all_table n) (first ts lt) ∙ sym (front_tables-at n ts 0 lt)
  where
    first : (l : List (List Bool)) → 0 < length l → get_or l 0 [] ∷ [] ≡ take 1 l
    first [] h = absurd (omega arith)
    first (x ∷ []) h = refl
    first (x ∷ y ∷ l) h = refl
conjunction-at n ts (suc k) lt e =
    all-more n (take (suc k) ts) (get_or ts (suc k) [])
    ∙ ap (all_table n) (sym (take_more ts (suc k) [] lt) ∙ ap (λ j. take j ts) (let j : suc k + 1 ≡ suc (suc k) = omega arith in j))
    ∙ sym (front_tables-at n ts (suc k) lt)

-- the last of a list, if it has any
abbrev pub IsLast : List Ref → Option Ref → Type 0
IsLast refs None = refs ≡ []
IsLast refs (Some r) = (front : List Ref) × (refs ≡ front ++ r ∷ [])

pub last-live : (s : SpaceData) (refs : List Ref) (r : Ref) → All (IsLive s) refs → (front : List Ref) → refs ≡ front ++ r ∷ [] → IsLive s r
last-live s refs r live front e =
    let many : length refs ≡ length front + 1 = ap length e ∙ length-append front (r ∷ []) in
    subst (IsLive s) (ap (λ l. get_or l (length front) r) e ∙ get_or_push front r r (length front) refl) (live (length front) r (omega arith))

-- its table is the conjunction so far
pub last-table : (s : SpaceData) (n : ℕ) (ts : List (List Bool)) (k : ℕ) → k ≤ length ts → (refs : List Ref) → HaveTables s refs (take k (front_tables n ts)) → (last : Option Ref) → IsLast refs last → option_map s.table last ≡ front_at n ts k
last-table s n ts k le refs have None e = by k le have
  where
    by : (k : ℕ) → k ≤ length ts → HaveTables s refs (take k (front_tables n ts)) → None ≡ front_at n ts k
    by zero le have = refl
    by (suc k) le have =
        let many = have-length s refs (take (suc k) (front_tables n ts)) have in
        let none : length refs ≡ 0 = ap length e in
        let all = length-front_tables n ts in
        let some = length-take-le (suc k) (front_tables n ts) (omega arith) in
        absurd (omega arith)
last-table s n ts k le refs have (Some r) (front, e) = by k le have
  where
    many : length refs ≡ length front + 1
    many = ap length e ∙ length-append front (r ∷ [])

    own : get_or refs (length front) r ≡ r
    own = ap (λ l. get_or l (length front) r) e ∙ get_or_push front r r (length front) refl

    by : (k : ℕ) → k ≤ length ts → HaveTables s refs (take k (front_tables n ts)) → Some (s.table r) ≡ front_at n ts k
    by zero le have = let none = have-length s refs [] (subst (HaveTables s refs) (take_none (front_tables n ts)) have) in absurd (omega (arith, many))
    by (suc k) le have =
        let whole = length-front_tables n ts in
        let all = length-take-le (suc k) (front_tables n ts) (omega arith) in
        let so = have-length s refs (take (suc k) (front_tables n ts)) have in
        let place : length front ≡ k = omega (arith, many) in
        ap Some (
        ap s.table (sym own)
        ∙ have-at s refs (take (suc k) (front_tables n ts)) have (length front) r [] (omega (arith, many))
        ∙ get_or-take (suc k) (front_tables n ts) (length front) [] (omega (arith, many))
        ∙ ap (λ j. get_or (front_tables n ts) j []) place
        ∙ front_tables-at n ts k (omega arith))

-- the places of the rails of the outputs are within the nets
pub outputs-within : (s : StageData) → IsStage s → (w : WiringData) → IsWiring s w → (many : ℕ) → many ≡ length (nets_of s.inputs s.cells) → All (λ pair. (pair.0 < many) × (pair.1 < many)) w.outputs
outputs-within s is w wired many e =
    subst (All (λ pair. (pair.0 < many) × (pair.1 < many))) (sym (wired.outputs ∙ ap (λ nets. map (rail_places nets) s.outputs) wired.nets)) (λ k d lt.
    let none : Rails = record { zero = record { 0 = 0 }; one = record { 0 = 0 } } in
    let nets : List ℕ = nets_of s.inputs s.cells in
    let within : k < length s.outputs = omega (arith, length-map s.outputs (rail_places nets)) in
    let known = at_rail (λ net. Contains nets net) s.outputs is.outputs_known k none within in
    subst (λ pair. (pair.0 < many) × (pair.1 < many)) (sym (get_or-map (rail_places nets) s.outputs k none d within)) (
      subst (λ m. place_in nets (get_or s.outputs k none).zero.0 < m) (sym e) (place_in-at nets _ known.0).0,
      subst (λ m. place_in nets (get_or s.outputs k none).one.0 < m) (sym e) (place_in-at nets _ known.1).0,
    ))

-- a gate on the rails of each output, by the functions of the words
pub pair-tables : (kind : Kind) (join : Bool → Bool → Bool) → ((a b : Bool) → set_of kind (a ∷ b ∷ []) ≡ join a b) → (s : StageData) (order : List ℕ) (ordered : IsOrderOf (length s.inputs) order) → IsStage s → (w : WiringData) → IsWiring s w → (variant : Variant) → map (pair_table (length s.inputs) kind (net_tables_by order s variant)) w.outputs ≡ map (λ (r : Rails). table_of (words_by order) (λ word. join (val s word variant r.zero.0) (val s word variant r.one.0))) s.outputs
pair-tables kind join is_join s order ordered is w wired variant =
    ap (map (pair_table (length s.inputs) kind (net_tables_by order s variant))) (wired.outputs ∙ ap (λ nets. map (rail_places nets) s.outputs) wired.nets)
    ∙ over s.outputs is.outputs_known
  where
    net : (x : ℕ) → Contains (nets_of s.inputs s.cells) x → get_or (net_tables_by order s variant) (place_in (nets_of s.inputs s.cells) x) [] ≡ net_table_by order s variant x
    net x among =
        let at = place_in-at (nets_of s.inputs s.cells) x among in
        get_or-map (net_table_by order s variant) (nets_of s.inputs s.cells) (place_in (nets_of s.inputs s.cells) x) 0 [] at.0 ∙ ap (net_table_by order s variant) (at.1 0)

    over : (outputs : List Rails) → All (λ x. Contains (nets_of s.inputs s.cells) x) (rail_nets outputs) → map (pair_table (length s.inputs) kind (net_tables_by order s variant)) (map (rail_places (nets_of s.inputs s.cells)) outputs) ≡ map (λ (r : Rails). table_of (words_by order) (λ word. join (val s word variant r.zero.0) (val s word variant r.one.0))) outputs
    over [] known = refl
    over (r ∷ rs) known =
        let z = net r.zero.0 (All-head (λ x. Contains (nets_of s.inputs s.cells) x) r.zero.0 (r.one.0 ∷ rail_nets rs) known) in
        let later = All-tail (λ x. Contains (nets_of s.inputs s.cells) x) r.zero.0 (r.one.0 ∷ rail_nets rs) known in
        let o = net r.one.0 (All-head (λ x. Contains (nets_of s.inputs s.cells) x) r.one.0 (rail_nets rs) later) in
        let rest = over rs (All-tail (λ x. Contains (nets_of s.inputs s.cells) x) r.one.0 (rail_nets rs) later) in
        let first : pair_table (length s.inputs) kind (net_tables_by order s variant) (rail_places (nets_of s.inputs s.cells) r) ≡ table_of (words_by order) (λ word. join (val s word variant r.zero.0) (val s word variant r.one.0)) =
        (λ i. gate_table (length s.inputs) kind (z i ∷ o i ∷ []))
        ∙ ordered-same (length s.inputs) order ordered (λ word. set_of kind (at (net_table_by order s variant r.zero.0) word ∷ at (net_table_by order s variant r.one.0) word ∷ [])) (λ word. join (val s word variant r.zero.0) (val s word variant r.one.0)) (λ word same.
        is_join (at (net_table_by order s variant r.zero.0) word) (at (net_table_by order s variant r.one.0) word)
        ∙ (λ i. join (ordered-at (length s.inputs) order ordered (λ v. val s v variant r.zero.0) word same i) (ordered-at (length s.inputs) order ordered (λ v. val s v variant r.one.0) word same i))) in
        λ i. first i ∷ rest i

-- the values under a variant, words and all
abbrev pub values_at : StageData → Variant → ValuesAt
values_at s variant word = val s word variant

pub net-tables : (s : StageData) (order : List ℕ) (variant : Variant) → function_tables_by order (net_functions s (values_at s variant)) ≡ net_tables_by order s variant
net-tables s order variant = map-map (table_of (words_by order)) (λ net. λ word. val s word variant net) (nets_of s.inputs s.cells)

pub data-tables : (s : StageData) (order : List ℕ) (ordered : IsOrderOf (length s.inputs) order) → IsStage s → (w : WiringData) → IsWiring s w → (variant : Variant) → map (pair_table (length s.inputs) Th12 (net_tables_by order s variant)) w.outputs ≡ function_tables_by order (data_functions s (values_at s variant))
data-tables s order ordered is w wired variant =
    pair-tables Th12 (λ a b. a || b) or_gate s order ordered is w wired variant
    ∙ sym (map-map (table_of (words_by order)) (λ (r : Rails). λ word. has_data (val s word variant) r) s.outputs)

pub illegal-tables : (s : StageData) (order : List ℕ) (ordered : IsOrderOf (length s.inputs) order) → IsStage s → (w : WiringData) → IsWiring s w → (variant : Variant) → map (pair_table (length s.inputs) Th22 (net_tables_by order s variant)) w.outputs ≡ function_tables_by order (illegal_functions s (values_at s variant))
illegal-tables s order ordered is w wired variant =
    pair-tables Th22 (λ a b. a && b) and_gate s order ordered is w wired variant
    ∙ sym (map-map (table_of (words_by order)) (λ (r : Rails). λ word. is_illegal (val s word variant) r) s.outputs)

-- the conjunction of the DATA of some outputs
pub all-data : (s : StageData) (order : List ℕ) (ordered : IsOrderOf (length s.inputs) order) (v : ValuesAt) (outputs : List Rails) → all_table (length s.inputs) (map (table_of (words_by order)) (map (λ (r : Rails). λ word. has_data (v word) r) outputs)) ≡ table_of (words_by order) (λ word. list_all (has_data (v word)) outputs)
all-data s order ordered v outputs = ordered-same (length s.inputs) order ordered (λ word. list_all (λ t. at t word) (map (table_of (words_by order)) (map (λ (r : Rails). λ w. has_data (v w) r) outputs))) (λ word. list_all (has_data (v word)) outputs) (λ word same. each word same outputs)
  where
    each : (word : List Bool) → length word ≡ length s.inputs → (rs : List Rails) → list_all (λ t. at t word) (map (table_of (words_by order)) (map (λ (r : Rails). λ w. has_data (v w) r) rs)) ≡ list_all (has_data (v (placed order word))) rs
    each word same [] = refl
    each word same (r ∷ rs) =
        let first = ordered-at (length s.inputs) order ordered (λ w. has_data (v w) r) word same in
        let rest = each word same rs in
        λ i. first i && rest i

pub front-tables : (s : StageData) (order : List ℕ) (ordered : IsOrderOf (length s.inputs) order) (v : ValuesAt) → front_tables (length s.inputs) (function_tables_by order (data_functions s v)) ≡ function_tables_by order (data_fronts s v)
front-tables s order ordered v =
    ap (λ ls. map (all_table n) ls) (fronts-map (table_of (words_by order)) (data_functions s v) ∙ ap (map (map (table_of (words_by order)))) (fronts-map (λ (r : Rails). λ word. has_data (v word) r) s.outputs))
    ∙ each (fronts s.outputs)
    ∙ sym (map-map (table_of (words_by order)) (λ (front : List Rails). λ word. list_all (has_data (v word)) front) (fronts s.outputs))
  where
    n : ℕ
    n = length s.inputs

    each : (ls : List (List Rails)) → map (all_table (length s.inputs)) (map (map (table_of (words_by order))) (map (map (λ (r : Rails). λ word. has_data (v word) r)) ls)) ≡ map (λ (front : List Rails). table_of (words_by order) (λ word. list_all (has_data (v word)) front)) ls
    each [] = refl
    each (l ∷ ls) =
        let first = all-data s order ordered v l in
        let rest = each ls in
        λ i. first i ∷ rest i

-- the tables that every variant has, list by list
pub shared-tables : (s : StageData) (order : List ℕ) (variant : Variant) → shared_tables_by order s variant ≡ (net_tables_by order s variant ++ function_tables_by order (data_functions s (values_at s variant))) ++ function_tables_by order (data_fronts s (values_at s variant))
shared-tables s order variant =
    let f = table_of (words_by order) in
    let v : ValuesAt = values_at s variant in
    map-append f (net_functions s v ++ data_functions s v) (data_fronts s v)
    ∙ ap (λ l. l ++ function_tables_by order (data_fronts s v)) (map-append f (net_functions s v) (data_functions s v))
    ∙ ap (λ l. (l ++ function_tables_by order (data_functions s v)) ++ function_tables_by order (data_fronts s v)) (net-tables s order variant)

-- the last conjunction is that of all outputs
pub last-front : (s : StageData) (order : List ℕ) (ordered : IsOrderOf (length s.inputs) order) (v : ValuesAt) → 1 ≤ length s.outputs → get_or (function_tables_by order (data_fronts s v)) (length s.outputs - 1) [] ≡ table_of (words_by order) (all_data_function s v)
last-front s order ordered v some =
    let n : ℕ = length s.inputs in
    let ts : List (List Bool) = function_tables_by order (data_functions s v) in
    let k : ℕ = length s.outputs - 1 in
    let many : length ts ≡ length s.outputs = length-map (data_functions s v) (table_of (words_by order)) ∙ length-map s.outputs (λ (r : Rails). λ word. has_data (v word) r) in
    ap (λ l. get_or l k []) (sym (front-tables s order ordered v))
    ∙ front_tables-at n ts k (omega (arith, many))
    ∙ ap (all_table n) (take_all (suc k) ts (omega (arith, many)))
    ∙ all-data s order ordered v s.outputs

-- the Ref of a net
pub net-ref : (space : SpaceData) (f : ℕ → List Bool) (nets : List ℕ) (refs : List Ref) → HaveTables space refs (map f nets) → (net : ℕ) → Contains nets net → (d : Ref) → (place_in nets net < length refs) × IsLive space (get_or refs (place_in nets net) d) × (space.table (get_or refs (place_in nets net) d) ≡ f net)
net-ref space f nets refs have net among d =
    let at = place_in-at nets net among in
    let many : length refs ≡ length nets = have-length space refs (map f nets) have ∙ length-map nets f in
    let within : place_in nets net < length refs = omega (arith, at.0) in (
      within,
      have.live (place_in nets net) d within,
      have-at space refs (map f nets) have (place_in nets net) d [] within ∙ get_or-map f nets (place_in nets net) 0 [] at.0 ∙ ap f (at.1 0),
    )
