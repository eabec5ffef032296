-- Two lists gone through side by side.
use Rattle.ncl_bank.proofs.Terms.{Iter, List, NamePair, PartCell, StageCell, Unnamed, Zip, [], ack_of, ap, append_assoc, arith, cell_at, flat_map, flat_map-append, get_or, get_or-zip, iter_rest, length, length-map, length-take, length-zip, map, map-append, map_more, min, named_from, register_pins, register_with, subst, sym, take, take_all, take_more, tree_cell_of, zip, zip_first, zip_second, ℕ, ◌*◌, ◌++◌, ◌+◌, ◌<◌, ◌∙◌, ◌∷◌, ◌≡◌, ◌≤◌}
use Rattle.ncl_bank.proofs.Named.{IsAdded, IsAdded-more, length_added}

pub zipped_more : {A B : Type 0} (xs : List A) (ys : List B) (n : ℕ) (x : A) (y : B) → n < length xs → n < length ys → x ≡ get_or xs n x → y ≡ get_or ys n y → take (n + 1) (zip xs ys) ≡ take n (zip xs ys) ++ (x, y) ∷ []
zipped_more xs ys n x y in_xs in_ys at_x at_y =
    let within : n < length (zip xs ys) = omega (arith, length-zip xs ys) in
    take_more (zip xs ys) n (x, y) within
    ∙ ap (λ p. take n (zip xs ys) ++ p ∷ []) (get_or-zip xs ys n (x, y) in_xs in_ys ∙ (λ i. (sym at_x i, sym at_y i)))

-- a loop over two slices side by side begins with the whole of both
pub zip_starts : {A B : Type 0} (ks : List A) (vs : List B) (made start : Zip (Iter A) (Iter B)) (iter : Iter A) → start ≡ made → made.a ≡ iter → iter.rest.now ≡ ks → made.b.rest.now ≡ vs
    → (iter_rest (zip_first start) ≡ ks) × (iter_rest (zip_second start) ≡ vs)
zip_starts ks vs made start iter begin first rest second = ((λ i. (begin i).a.rest.now) ∙ (λ i. (first i).rest.now) ∙ rest, (λ i. (begin i).b.rest.now) ∙ second)

module _ (request rst : List ℕ) where
  -- the register cells of some pairs
  abbrev pub registers_of : List (NamePair × NamePair) → List Unnamed
  registers_of pairs = map register_with (flat_map (λ (from, to). register_pins request rst from to) pairs)

  pub length-registers_of : (pairs : List (NamePair × NamePair)) → length (registers_of pairs) ≡ 2 * length pairs
  length-registers_of [] = omega arith
  length-registers_of (p ∷ pairs) = omega (arith, length-registers_of pairs)

  pub registers_of-push : (pairs : List (NamePair × NamePair)) (from to : NamePair) → registers_of (pairs ++ (from, to) ∷ []) ≡ (registers_of pairs ++ register_with (from.zero ∷ request ∷ rst ∷ to.zero ∷ []) ∷ []) ++ register_with (from.one ∷ request ∷ rst ∷ to.one ∷ []) ∷ []
  registers_of-push pairs from to =
      ap (map register_with) (flat_map-append (λ (from, to). register_pins request rst from to) pairs ((from, to) ∷ []))
      ∙ map-append register_with (flat_map (λ (from, to). register_pins request rst from to) pairs) (register_pins request rst from to ++ [])
      ∙ sym (append_assoc (registers_of pairs) (register_with (from.zero ∷ request ∷ rst ∷ to.zero ∷ []) ∷ []) (register_with (from.one ∷ request ∷ rst ∷ to.one ∷ []) ∷ []))

module _ (prefix : List ℕ) (before cells : List PartCell) where
  -- where the cells of the first pairs were added, and these are all
  pub all_added : {A B : Type 0} (plan : List (A × B) → List Unnamed) (ks : List A) (vs : List B) (n : ℕ) → IsAdded prefix before (plan (take n (zip ks vs))) cells → n ≡ min (length ks) (length vs)
      → cells ≡ before ++ named_from prefix (length before) (plan (zip ks vs))
  all_added plan ks vs n added whole =
      added.is ∙ ap (λ pairs. before ++ named_from prefix (length before) (plan pairs)) (take_all n (zip ks vs) (omega (arith, whole, length-zip ks vs)))

  -- acknowledge cells of the first pairs, and one more
  pub acks_few : (pairs : List NamePair) (nets : List (List ℕ)) (n : ℕ) → IsAdded prefix before (map ack_of (take n (zip pairs nets))) cells → length cells ≤ length before + n
  acks_few pairs nets n added =
      let count = length_added prefix before (map ack_of (take n (zip pairs nets))) cells added in
      omega (arith, count, length-map (take n (zip pairs nets)) ack_of, length-take n (zip pairs nets))

  pub acks_more : (pairs : List NamePair) (nets : List (List ℕ)) (n m : ℕ) (pair : NamePair) (net : List ℕ) (new : List PartCell) → IsAdded prefix before (map ack_of (take n (zip pairs nets))) cells → n < length pairs → n < length nets → pair ≡ get_or pairs n pair → net ≡ get_or nets n net → m ≡ n + 1 → new ≡ cells ++ cell_at prefix (length cells) (ack_of (pair, net)) ∷ [] → IsAdded prefix before (map ack_of (take m (zip pairs nets))) new
  acks_more pairs nets n m pair net new added in_pairs in_nets at_pair at_net next pushed =
      let plan = take n (zip pairs nets) in
      subst (λ plan. IsAdded prefix before plan new)
      (sym (ap (λ k. map ack_of (take k (zip pairs nets))) next ∙ ap (map ack_of) (zipped_more pairs nets n pair net in_pairs in_nets at_pair at_net) ∙ map-append ack_of plan ((pair, net) ∷ [])))
      (IsAdded-more prefix before (map ack_of plan) cells added (ack_of (pair, net)) new pushed)

  -- the register cells of the first pairs, and two more
  pub registers_few : (request rst : List ℕ) (ins outs : List NamePair) (n : ℕ) → IsAdded prefix before (registers_of request rst (take n (zip ins outs))) cells → length cells ≤ length before + 2 * n
  registers_few request rst ins outs n added =
      let count = length_added prefix before (registers_of request rst (take n (zip ins outs))) cells added in
      omega (arith, count, length-registers_of request rst (take n (zip ins outs)), length-take n (zip ins outs))

  pub registers_more : (request rst : List ℕ) (ins outs : List NamePair) (n m : ℕ) (from to : NamePair) (half new : List PartCell) → IsAdded prefix before (registers_of request rst (take n (zip ins outs))) cells → n < length ins → n < length outs → from ≡ get_or ins n from → to ≡ get_or outs n to → m ≡ n + 1
      → half ≡ cells ++ cell_at prefix (length cells) (register_with (from.zero ∷ request ∷ rst ∷ to.zero ∷ [])) ∷ []
      → new ≡ half ++ cell_at prefix (length half) (register_with (from.one ∷ request ∷ rst ∷ to.one ∷ [])) ∷ []
      → IsAdded prefix before (registers_of request rst (take m (zip ins outs))) new
  registers_more request rst ins outs n m from to half new added in_ins in_outs at_from at_to next pushed again =
      let plan = take n (zip ins outs) in
      let zero = register_with (from.zero ∷ request ∷ rst ∷ to.zero ∷ []) in
      let one = register_with (from.one ∷ request ∷ rst ∷ to.one ∷ []) in
      subst (λ plan. IsAdded prefix before plan new)
      (sym (ap (λ k. registers_of request rst (take k (zip ins outs))) next ∙ ap (registers_of request rst) (zipped_more ins outs n from to in_ins in_outs at_from at_to) ∙ registers_of-push request rst plan from to))
      (IsAdded-more prefix before (registers_of request rst plan ++ zero ∷ []) half (IsAdded-more prefix before (registers_of request rst plan) cells added zero half pushed) one new again)

  -- the cells of the first gates, and one more
  pub tree_cells_few : (nets : List (List ℕ)) (gates : List StageCell) (n : ℕ) → IsAdded prefix before (map (tree_cell_of nets) (take n gates)) cells → length cells ≤ length before + n
  tree_cells_few nets gates n added =
      let count = length_added prefix before (map (tree_cell_of nets) (take n gates)) cells added in
      omega (arith, count, length-map (take n gates) (tree_cell_of nets), length-take n gates)

  pub tree_cells_more : (nets : List (List ℕ)) (gates : List StageCell) (n : ℕ) (gate : StageCell) (new : List PartCell) → IsAdded prefix before (map (tree_cell_of nets) (take n gates)) cells → n < length gates → gate ≡ get_or gates n gate → new ≡ cells ++ cell_at prefix (length cells) (tree_cell_of nets gate) ∷ [] → IsAdded prefix before (map (tree_cell_of nets) (take (n + 1) gates)) new
  tree_cells_more nets gates n gate new added within at pushed =
      subst (λ plan. IsAdded prefix before plan new)
      (sym (map_more (tree_cell_of nets) gates n gate within ∙ ap (λ g. map (tree_cell_of nets) (take n gates) ++ tree_cell_of nets g ∷ []) (sym at)))
      (IsAdded-more prefix before (map (tree_cell_of nets) (take n gates)) cells added (tree_cell_of nets gate) new pushed)
