-- Names that differ: those of gates, of the nets that they drive, and of inputs.
use Rattle.ncl_rails.proofs.Terms.{AllDiffer, AllPairs, AllPairs-from_IsDistinct, AreNumbered, Contains-from_Member, Decides-eqb, GatesData, IsDistinct-from_AllPairs, IsFreeOf, IsPartName, List, Member, Member-get_or, NamePair, PartCell, Some, StageCell, ap, arith, cases_lt, cell_is_no_net, cell_name-IsPartName, cell_name_of, digits_36, get_or, get_or-append_right, get_or-map, get_or_append_left, get_or_from_slice_get, inl, inr, length, length-append, length-map, map, member_of_map, most_parts, names_known, net_name-IsPartName, net_name_of, output_name, pair_names, part_of_gate, refl, same_cell, same_name, same_net, slice_eq-Decides, slice_get, slice_get-from_Contains, slice_get-some, subst, sym, ℕ, ◌*◌, ◌++◌, ◌+◌, ◌-◌, ◌<◌, ◌∙◌, ◌∷◌, ◌≡◌, ◌≢◌, ◌≤◌}
use Rattle.ncl_rails.proofs.NetNames.{length-pair_names, made_name}
use Rattle.ncl_rails.proofs.GateNames.{gate_output}

pub AllDiffer-from : (names : List (List ℕ)) → AllPairs (λ x y. x ≢ y) names → AllDiffer names
AllDiffer-from names = IsDistinct-from_AllPairs (λ a b. slice_eq-Decides Decides-eqb a b (same_name a b) refl) names

differ_from : (names : List (List ℕ)) → AllDiffer names → AllPairs (λ x y. x ≢ y) names
differ_from names = AllPairs-from_IsDistinct (λ a b. slice_eq-Decides Decides-eqb a b (same_name a b) refl) names

-- names that are made of their places differ
made_differ : (name : ℕ → List ℕ) → ((i j : ℕ) → i < most_parts → j < most_parts → name i ≡ name j → i ≡ j) → (names : List (List ℕ)) → length names ≤ most_parts → ((k : ℕ) (d : List ℕ) → k < length names → get_or names k d ≡ name k) → AllPairs (λ x y. x ≢ y) names
made_differ name one_to_one names few at i j d before within same =
    let j_below : j < most_parts = omega (arith, within, few) in
    let equal : i ≡ j = one_to_one i j (omega (arith, before, j_below)) j_below (sym (at i d (omega (arith, before, within))) ∙ same ∙ at j d within) in
    absurd (omega (arith, before, equal))

-- two lists that differ, and differ from each other
append_differ : (xs ys : List (List ℕ)) → AllPairs (λ x y. x ≢ y) xs → AllPairs (λ x y. x ≢ y) ys → ((x y : List ℕ) → Member x xs → Member y ys → x ≢ y) → AllPairs (λ x y. x ≢ y) (xs ++ ys)
append_differ xs ys first second apart i j d before within same =
    let count = length-append xs ys in
    elim (cases_lt j (length xs)) [
      | inl left ↦ first i j d before left (sym (get_or_append_left xs ys d i (omega (arith, before, left))) ∙ same ∙ get_or_append_left xs ys d j left)
      | inr right ↦
          let j_is : get_or (xs ++ ys) j d ≡ get_or ys (j - length xs) d = get_or-append_right xs ys (length xs) j d refl right in
          let j_in : j - length xs < length ys = omega (arith, within, count, right) in
          elim (cases_lt i (length xs)) [
            | inl left ↦ apart (get_or xs i d) (get_or ys (j - length xs) d) (Member-get_or xs i d left) (Member-get_or ys (j - length xs) d j_in) (sym (get_or_append_left xs ys d i left) ∙ same ∙ j_is)
            | inr both ↦ second (i - length xs) (j - length xs) d (omega (arith, before, both, right)) j_in (sym (get_or-append_right xs ys (length xs) i d refl both) ∙ same ∙ j_is)
          ]
    ]

-- ---- the names of gates

module _ (ins : List NamePair) (prefix : List ℕ) (gates : GatesData) (numbered : AreNumbered gates) (first : gates.first ≡ 2 * length ins) (few : length gates.cells ≤ most_parts) where
  -- the gate at a place has the name and drives the net of that place
  driven_name : (k : ℕ) (c : StageCell) → slice_get gates.cells k ≡ Some c → output_name (part_of_gate (pair_names ins) prefix c) ≡ net_name_of prefix k
  driven_name k c at =
      let net : c.out.0 ≡ gates.first + k = numbered.nets k c at in
      let count = length-pair_names ins in
      gate_output (pair_names ins) prefix c
      ∙ made_name (pair_names ins) prefix c.out.0 (omega (arith, net, first, count))
      ∙ ap (net_name_of prefix) (let same : c.out.0 - length (pair_names ins) ≡ k = omega (arith, net, first, count) in same)

  own_name : (k : ℕ) (c : StageCell) → slice_get gates.cells k ≡ Some c → (part_of_gate (pair_names ins) prefix c).name ≡ cell_name_of prefix k
  own_name k c at = ap (cell_name_of prefix) (numbered.cells k c at)

  by_place : (f : PartCell → List ℕ) (name : ℕ → List ℕ) → ((k : ℕ) (c : StageCell) → slice_get gates.cells k ≡ Some c → f (part_of_gate (pair_names ins) prefix c) ≡ name k) → (k : ℕ) (d : List ℕ) → k < length (map f (map (part_of_gate (pair_names ins) prefix) gates.cells)) → get_or (map f (map (part_of_gate (pair_names ins) prefix) gates.cells)) k d ≡ name k
  by_place f name each k d lt =
      let in_parts : k < length (map (part_of_gate (pair_names ins) prefix) gates.cells) = omega (arith, lt, length-map (map (part_of_gate (pair_names ins) prefix) gates.cells) f) in
      let within : k < length gates.cells = omega (arith, in_parts, length-map gates.cells (part_of_gate (pair_names ins) prefix)) in
      let (c, at) = slice_get-some gates.cells k within in
      get_or-map f (map (part_of_gate (pair_names ins) prefix) gates.cells) k (part_of_gate (pair_names ins) prefix c) d in_parts
      ∙ ap f (get_or-map (part_of_gate (pair_names ins) prefix) gates.cells k c (part_of_gate (pair_names ins) prefix c) within ∙ ap (part_of_gate (pair_names ins) prefix) (get_or_from_slice_get gates.cells k c c at))
      ∙ each k c at

  made_few : (f : PartCell → List ℕ) → length (map f (map (part_of_gate (pair_names ins) prefix) gates.cells)) ≤ most_parts
  made_few f = omega (arith, few, length-map (map (part_of_gate (pair_names ins) prefix) gates.cells) f, length-map gates.cells (part_of_gate (pair_names ins) prefix))

  pub cells_differ : AllPairs (λ x y. x ≢ y) (map (λ (cell : PartCell). cell.name) (map (part_of_gate (pair_names ins) prefix) gates.cells))
  cells_differ =
      made_differ (cell_name_of prefix) (same_cell prefix) (map (λ (cell : PartCell). cell.name) (map (part_of_gate (pair_names ins) prefix) gates.cells)) (made_few (λ (cell : PartCell). cell.name))
      (by_place (λ (cell : PartCell). cell.name) (cell_name_of prefix) own_name)

  pub nets_differ : AllPairs (λ x y. x ≢ y) (map output_name (map (part_of_gate (pair_names ins) prefix) gates.cells))
  nets_differ =
      made_differ (net_name_of prefix) (same_net prefix) (map output_name (map (part_of_gate (pair_names ins) prefix) gates.cells)) (made_few output_name)
      (by_place output_name (net_name_of prefix) driven_name)

  -- all names that are known differ
  pub known_differ : AllDiffer (pair_names ins) → IsFreeOf prefix (pair_names ins) → AllPairs (λ x y. x ≢ y) (names_known ins (map (part_of_gate (pair_names ins) prefix) gates.cells))
  known_differ differ free =
      append_differ (pair_names ins) (map output_name (map (part_of_gate (pair_names ins) prefix) gates.cells)) (differ_from (pair_names ins) differ) nets_differ
      (λ x y given driven same.
      let (cell, in_parts, named) = member_of_map output_name (map (part_of_gate (pair_names ins) prefix) gates.cells) y driven in
      let (c, in_cells, made) = member_of_map (part_of_gate (pair_names ins) prefix) gates.cells cell in_parts in
      let (k, at) = slice_get-from_Contains gates.cells c (Contains-from_Member c in_cells) in
      let is : x ≡ net_name_of prefix k = same ∙ sym named ∙ ap output_name (sym made) ∙ driven_name k c at in
      free (110 ∷ digits_36 6 k) (Contains-from_Member (net_name_of prefix k) (subst (λ n. Member n (pair_names ins)) is given)))

  part_of : (cell : PartCell) → Member cell (map (part_of_gate (pair_names ins) prefix) gates.cells) → (k : ℕ) × (c : StageCell) × (slice_get gates.cells k ≡ Some c) × (part_of_gate (pair_names ins) prefix c ≡ cell)
  part_of cell m =
      let (c, in_cells, made) = member_of_map (part_of_gate (pair_names ins) prefix) gates.cells cell m in
      let (k, at) = slice_get-from_Contains gates.cells c (Contains-from_Member c in_cells) in
      (k, c, at, made)

  -- and are made of the prefix
  pub cell_formed : (cell : PartCell) → Member cell (map (part_of_gate (pair_names ins) prefix) gates.cells) → IsPartName prefix cell.name
  cell_formed cell m =
      let (k, c, at, made) = part_of cell m in
      subst (IsPartName prefix) (sym (own_name k c at) ∙ ap (λ (p : PartCell). p.name) made) (cell_name-IsPartName prefix k)

  pub net_formed : (cell : PartCell) → Member cell (map (part_of_gate (pair_names ins) prefix) gates.cells) → IsPartName prefix (output_name cell)
  net_formed cell m =
      let (k, c, at, made) = part_of cell m in
      subst (IsPartName prefix) (sym (driven_name k c at) ∙ ap output_name made) (net_name-IsPartName prefix k)

  pub no_cell_is_net : (cell other : PartCell) → Member cell (map (part_of_gate (pair_names ins) prefix) gates.cells) → Member other (map (part_of_gate (pair_names ins) prefix) gates.cells) → cell.name ≢ output_name other
  no_cell_is_net cell other m n same =
      let (k, c, at, made) = part_of cell m in
      let (j, e, stands, drives) = part_of other n in
      cell_is_no_net prefix k j (sym (own_name k c at) ∙ ap (λ (p : PartCell). p.name) made ∙ same ∙ ap output_name (sym drives) ∙ driven_name j e stands)
