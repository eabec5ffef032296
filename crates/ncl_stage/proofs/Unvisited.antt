-- Nets that a variant leaves as they are, so that nobody has to look at them.
use Rattle.ncl_stage.proofs.Terms.{All-append, All-drop, All-take, Base, Bool, Contains, Contains-from_Member, HaveTables, IsLive, IsOrderOf, IsStage, IsUnchanged, IsWiring, List, Making, MarksChanges, Member-get_or, Rails, Ref, SpaceData, StageData, Variant, WiringData, [], ap, arith, both_rails, cases_lt, drop, drop-map, false, get_or, get_or-append_right, get_or_append_left, held-along, inl, inr, kept_low, length, length-append, map, map-append, ne_eqb, net_at, net_table_by, net_tables_by, nets_of, place_in, refl, subst, suc, sym, take, take-map, true, with_tables, with_tables-live, zero, ℕ, ◌*◌, ◌++◌, ◌+◌, ◌-◌, ◌<◌, ◌==◌, ◌↔◌, ◌∙◌, ◌∷◌, ◌≡◌, ◌≢◌, ◌≤◌}
use Rattle.std.specs.Prelude.{◌||◌, Some}
use Rattle.ncl_stage.proofs.ChangedLaws.{nets-length, net_at-rail, net_at-cell, pins-before, rail-unreached, places-unreached}
use Rattle.ncl_stage.proofs.PlaceLaws.{place_in-at}

-- a net stands at one place
pub place-of : (s : StageData) → IsStage s → (place net : ℕ) → place < length (nets_of s.inputs s.cells) → net_at s place ≡ net → place ≡ place_in (nets_of s.inputs s.cells) net
place-of s is place net lt at =
    let nets : List ℕ = nets_of s.inputs s.cells in
    let stands : Contains nets net = subst (Contains nets) at (Contains-from_Member (net_at s place) (Member-get_or nets place 0 lt)) in
    let found = place_in-at nets net stands in
    elim (cases_lt place (place_in nets net)) [
      | inl before ↦ absurd (is.nets_differ place (place_in nets net) 0 before found.0 (at ∙ sym (found.1 0)))
      | inr others ↦
          elim (cases_lt (place_in nets net) place) [
            | inl after ↦ absurd (is.nets_differ (place_in nets net) place 0 after lt (found.1 0 ∙ sym at))
            | inr same ↦ omega (arith, others, same)
          ]
    ]

-- Some places behind another, up to a last, at which no net is kept low, are unchanged where all that the cells there read
-- before them is.
pub unvisited : (s : StageData) (order : List ℕ) → IsOrderOf (length s.inputs) order → IsStage s → (w : WiringData) → IsWiring s w → (variant : Variant) (from to : ℕ) → to ≤ length (nets_of s.inputs s.cells)
    → ((place : ℕ) → from ≤ place → place < to → kept_low s variant (net_at s place) ≡ false)
    → ((cell place : ℕ) → from ≤ 2 * length s.inputs + cell → 2 * length s.inputs + cell < to → Contains (get_or w.pins cell []) place → place < from → IsUnchanged order s variant (net_at s place))
    → (place : ℕ) → from ≤ place → place < to → IsUnchanged order s variant (net_at s place)
unvisited s order ordered is w wired variant from to within low read place after before = below (suc place) place (omega arith) after before
  where
    cell-same : (cell : ℕ) → from ≤ 2 * length s.inputs + cell → 2 * length s.inputs + cell < to → ((p : ℕ) → p < 2 * length s.inputs + cell → from ≤ p → IsUnchanged order s variant (net_at s p)) → IsUnchanged order s variant (net_at s (2 * length s.inputs + cell))
    cell-same cell after before known =
        let many = nets-length s in
        let lt : cell < length s.cells = omega (arith, many) in
        let pins : List ℕ = get_or w.pins cell [] in
        let free = low (2 * length s.inputs + cell) after before in
        subst (IsUnchanged order s variant) (sym (net_at-cell s cell))
        (places-unreached s order ordered is w wired variant cell lt
        (λ k d inside.
        let p = get_or pins k d in
        elim (cases_lt p from) [
          | inl front ↦ read cell p after before (Contains-from_Member p (Member-get_or pins k d inside)) front
          | inr later ↦ known p (pins-before s is w wired cell lt (2 * length s.inputs + cell) refl k d inside) later
        ])
        (subst (λ net. kept_low s variant net ≡ false) (net_at-cell s cell) free))

    one : (p : ℕ) → from ≤ p → p < to → ((q : ℕ) → q < p → from ≤ q → IsUnchanged order s variant (net_at s q)) → IsUnchanged order s variant (net_at s p)
    one p after before known = elim (cases_lt p (2 * length s.inputs)) [
      | inl rail ↦ rail-unreached s order is variant (net_at s p) (net_at-rail s p rail) (low p after before)
      | inr out ↦
          let at : 2 * length s.inputs + (p - 2 * length s.inputs) ≡ p = omega (arith, out) in
          subst (λ n. IsUnchanged order s variant (net_at s n)) at
          (cell-same (p - 2 * length s.inputs) (omega (arith, at)) (omega (arith, at)) (λ q lower. known q (omega (arith, at, lower))))
    ]

    below : (bound p : ℕ) → p < bound → from ≤ p → p < to → IsUnchanged order s variant (net_at s p)
    below zero p lt after before = absurd (omega (arith, lt))
    below (suc bound) p lt after before = one p after before (λ q lower later. below bound q (omega (arith, lt, lower)) later (omega (arith, lower, before)))

-- two functions that agree at the first members of a list, or at the last, map them to the same
map-take : (f g : ℕ → List Bool) (xs : List ℕ) (k : ℕ) → ((i : ℕ) → i < k → i < length xs → f (get_or xs i 0) ≡ g (get_or xs i 0)) → take k (map f xs) ≡ take k (map g xs)
map-take f g xs zero same = refl
map-take f g [] (suc k) same = refl
map-take f g (x ∷ xs) (suc k) same =
    let first : f x ≡ g x = same 0 (omega arith) (omega arith) in
    let rest = map-take f g xs k (λ i lt within. same (suc i) (omega (arith, lt)) (omega (arith, within))) in
    λ i. first i ∷ rest i

map-mid : (f g : ℕ → List Bool) (xs : List ℕ) (k many to : ℕ) → to ≡ k + many → ((i : ℕ) → k ≤ i → i < to → i < length xs → f (get_or xs i 0) ≡ g (get_or xs i 0)) → take many (drop k (map f xs)) ≡ take many (drop k (map g xs))
map-mid f g xs zero many to all same = map-take f g xs many (λ i lt within. same i (omega arith) (omega (arith, all, lt)) within)
map-mid f g [] (suc k) many to all same = refl
map-mid f g (x ∷ xs) (suc k) many to all same =
    map-mid f g xs k many (to - 1) (omega (arith, all)) (λ i after before within. same (suc i) (omega (arith, after)) (omega (arith, all, before)) (omega (arith, within)))

pub mid-tables : (space : SpaceData) (s : StageData) (order : List ℕ) (variant : Variant) (refs : List Ref) (k many to : ℕ) → to ≡ k + many → HaveTables space refs (net_tables_by order s Base) → ((place : ℕ) → k ≤ place → place < to → place < length (nets_of s.inputs s.cells) → IsUnchanged order s variant (net_at s place)) → HaveTables space (take many (drop k refs)) (take many (drop k (net_tables_by order s variant)))
mid-tables space s order variant refs k many to all have same = record {
  live = All-take (IsLive space) many (drop k refs) (All-drop (IsLive space) k refs have.live);
  tables =
      sym (take-map space.table many (drop k refs)) ∙ ap (take many) (sym (drop-map space.table k refs)) ∙ ap (λ l. take many (drop k l)) have.tables
      ∙ sym (map-mid (net_table_by order s variant) (net_table_by order s Base) (nets_of s.inputs s.cells) k many to all same);
}

-- Refs that are live are made for nothing
pub making-live : (old now : SpaceData) (refs more : List Ref) (made shown : List (List Bool)) → Making old now refs made → HaveTables now more shown → Making old now (refs ++ more) (made ++ shown)
making-live old now refs more made shown m have = record {
  kept = m.kept;
  all = record {
    refs_of = record {
      live = All-append (IsLive now) refs more m.all.refs_of.live have.live;
      tables = map-append now.table refs more ∙ (λ i. m.all.refs_of.tables i ++ have.tables i);
    };
    held = held-along old now now made shown m.kept m.all.held (sym (with_tables-live now m.kept.space more have.live) ∙ ap (with_tables now) have.tables);
  };
}

-- the members up to a place and so many behind it
take-both : {X : Type 0} (k many to : ℕ) (xs : List X) → to ≡ k + many → take k xs ++ take many (drop k xs) ≡ take to xs
take-both zero many to xs all = let same : many ≡ to = omega (arith, all) in ap (λ n. take n xs) same
take-both (suc k) zero zero [] all = refl
take-both (suc k) (suc many) zero [] all = refl
take-both (suc k) zero (suc to) [] all = refl
take-both (suc k) (suc many) (suc to) [] all = refl
take-both (suc k) many zero (x ∷ xs) all = absurd (omega (arith, all))
take-both (suc k) many (suc to) (x ∷ xs) all = let rest = take-both k many to xs (omega (arith, all)) in λ i. x ∷ rest i

-- what has been made, and then the Refs of Base at unchanged places
pub making-along : (old now : SpaceData) (s : StageData) (order : List ℕ) (variant : Variant) (base refs : List Ref) (k to : ℕ) → k ≤ to → HaveTables now base (net_tables_by order s Base) → ((place : ℕ) → k ≤ place → place < to → IsUnchanged order s variant (net_at s place)) → Making old now refs (take k (net_tables_by order s variant)) → Making old now (refs ++ take (to - k) (drop k base)) (take to (net_tables_by order s variant))
making-along old now s order variant base refs k to after have same m =
    let all : to ≡ k + (to - k) = omega (arith, after) in
    subst (Making old now (refs ++ take (to - k) (drop k base))) (take-both k (to - k) to (net_tables_by order s variant) all)
    (making-live old now refs (take (to - k) (drop k base)) (take k (net_tables_by order s variant)) (take (to - k) (drop k (net_tables_by order s variant))) m
    (mid-tables now s order variant base k (to - k) to all have (λ place behind before within. same place behind before)))

-- marks of unchanged places
pub marks-along : (s : StageData) (order : List ℕ) (variant : Variant) (marks more : List Bool) → MarksChanges order s variant marks → ((k : ℕ) → k < length more → get_or more k true ≡ false) → ((place : ℕ) → length marks ≤ place → place < length marks + length more → IsUnchanged order s variant (net_at s place)) → MarksChanges order s variant (marks ++ more)
marks-along s order variant marks more marked none same = λ place within.
    elim (cases_lt place (length marks)) [
      | inl before ↦ subst (λ b. (b ≡ false) ↔ IsUnchanged order s variant (net_at s place)) (sym (get_or_append_left marks more true place before)) (marked place before)
      | inr after ↦
          let all = length-append marks more in
          let lt : place < length marks + length more = omega (arith, within, all) in
          let here : get_or (marks ++ more) place true ≡ false = get_or-append_right marks more (length marks) place true refl (omega (arith, after)) ∙ none (place - length marks) (omega (arith, after, lt)) in
          (λ e. same place (omega (arith, after)) lt, λ u. here)
    ]

-- a net at another place than those of the nets that are kept low isn't kept low
pub other-output : (s : StageData) → IsStage s → (net place : ℕ) → place < length (nets_of s.inputs s.cells) → place ≢ place_in (nets_of s.inputs s.cells) net → (net_at s place == net) ≡ false
other-output s is net place lt apart = ne_eqb (net_at s place) net (λ at. apart (place-of s is place net lt at))

pub other-rail : (s : StageData) → IsStage s → (r : Rails) (place : ℕ) → place < length (nets_of s.inputs s.cells) → place ≢ place_in (nets_of s.inputs s.cells) r.zero.0 → place ≢ place_in (nets_of s.inputs s.cells) r.one.0 → both_rails (Some r) (net_at s place) ≡ false
other-rail s is r place lt low high = neither (net_at s place == r.zero.0) (net_at s place == r.one.0) (other-output s is r.zero.0 place lt low) (other-output s is r.one.0 place lt high)
  where
    neither : (a b : Bool) → a ≡ false → b ≡ false → (a || b) ≡ false
    neither a b e f = (λ i. e i || b) ∙ f

-- there is a net
pub some-net : (s : StageData) → IsStage s → 0 < length (nets_of s.inputs s.cells)
some-net s is = let many = nets-length s in omega (arith, is.some_inputs, many)

-- a net of the stage stands at a place
pub place-within : (s : StageData) (net : ℕ) → Contains (nets_of s.inputs s.cells) net → place_in (nets_of s.inputs s.cells) net < length (nets_of s.inputs s.cells)
place-within s net has = (place_in-at (nets_of s.inputs s.cells) net has).0
