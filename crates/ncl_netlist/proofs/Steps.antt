-- What the loops keep, and their steps.
use Rattle.ncl_netlist.proofs.Terms.{AllDiffer, Any-from_list_any, ArrayVec, Bool, Cell, HasAllPins, IntoIter, IsFirstWhere, List, NetId, None, Option, PartCell, Repeats, Some, Yields, YieldsList-end, YieldsList-from_vec, [], ap, apart_from_distinct, append_assoc, arith, cell_of, false, filter, flat_map, flat_map_more, fold-append, get_or, get_or-take, input_names, insert_all, insert_key, into_iter_items, into_iter_len, into_iter_steps, length, length-take, list_any, map, map-append, map-id, net_of, not, once_each, output_name, pins_of-few, refl, same_name, slice_get, slice_get-get_or, slice_get_within, sym, take, true, true≢false, unwrap_or, unwrap_or-slice_get, ℕ, ◌++◌, ◌+◌, ◌-◌, ◌<◌, ◌∙◌, ◌∷◌, ◌≡◌, ◌≤◌}
use Rattle.ncl_netlist.proofs.NameLists.{insert_all-grows, insert_fresh, length-insert_all, equal_names, same_itself}

-- the names of xs were inserted after the first ones, and ys are the numbered xs, whatever names
-- come later
pub record Numbered {X Y : Type 0} (number : List (List ℕ) → X → Y) (names_of : X → List (List ℕ)) (first : List (List ℕ)) (xs : List X) (keys : List (List ℕ)) (ys : List Y) : Type 0 where
  pub inserted : keys ≡ insert_all same_name first (flat_map names_of xs)
  pub numbers : (more : List (List ℕ)) → ys ≡ map (number (keys ++ more)) xs

-- what holds whatever comes after the keys holds whatever comes after more keys
pub still_whatever : {X Y : Type 0} (number : List (List ℕ) → X → Y) (xs : List X) (ys : List Y) (keys names more : List (List ℕ)) → ((later : List (List ℕ)) → ys ≡ map (number (keys ++ later)) xs) → ys ≡ map (number (insert_all same_name keys names ++ more)) xs
still_whatever number xs ys keys names more h =
    let g = insert_all-grows keys names in
    let later = filter (λ y. not (list_any (same_name y) keys)) (once_each names) in
    h (later ++ more) ∙ ap (λ l. map (number l) xs) (sym (append_assoc keys later more) ∙ ap (λ l. l ++ more) (sym g))

pub Numbered-more : {X Y : Type 0} (number : List (List ℕ) → X → Y) (names_of : X → List (List ℕ)) (first : List (List ℕ)) (xs : List X) (keys : List (List ℕ)) (ys : List Y) (x : X) (y : Y) (new : List (List ℕ)) → Numbered number names_of first xs keys ys → new ≡ insert_all same_name keys (names_of x) → ((more : List (List ℕ)) → y ≡ number (new ++ more) x) → Numbered number names_of first (xs ++ x ∷ []) new (ys ++ y ∷ [])
Numbered-more number names_of first xs keys ys x y new old e at = record {
  inserted =
      e ∙ ap (λ l. insert_all same_name l (names_of x)) old.inserted
      ∙ sym (fold-append (insert_key same_name) first (flat_map names_of xs) (names_of x))
      ∙ ap (λ l. insert_all same_name first l) (flat_map_more names_of [] xs x);
  numbers = λ more.
      (λ i. (still_whatever number xs ys keys (names_of x) more old.numbers ∙ ap (λ l. map (number (l ++ more)) xs) (sym e)) i ++ at more i ∷ [])
      ∙ sym (map-append (number (new ++ more)) xs (x ∷ []));
}

pub flat_map-one : (xs : List (List ℕ)) → flat_map (λ x. x ∷ []) xs ≡ xs
flat_map-one [] = refl
flat_map-one (x ∷ xs) = ap (λ l. x ∷ l) (flat_map-one xs)

-- a loop that uses up a list has gone through all of it at its end
pub all_gone : {X Z : Type 0} (s t : IntoIter X Z) (xs ys : List X) → into_iter_items s ≡ xs → into_iter_len s ≡ length xs → Yields into_iter_steps s ys t → (r : Option X) (u : IntoIter X Z) → r ≡ None → into_iter_steps t r u → ys ≡ xs
all_gone {X} {Z} s t xs ys items len gone r u none last =
    sym (map-id ys) ∙ (YieldsList-end (YieldsList-from_vec {Z = Z} {s = s} xs items len) ys t gone r u none last).0

-- ---- the pins of a cell

-- a cell by its inputs and its output
pub cell_by_pins : (nets : List (List ℕ)) (cell : PartCell) (inputs : List (List ℕ)) (output : List ℕ) (ins : ArrayVec NetId) (out : NetId) → inputs ≡ input_names cell → output ≡ output_name cell → ins.items ≡ map (net_of nets) inputs → out ≡ net_of nets output → ◌≡◌ {A = Cell} (record { kind = cell.kind; name = cell.name; ins = ins; out = out }) (cell_of nets cell)
cell_by_pins nets cell inputs output ins out i o p q =
    let items : ins.items ≡ map (net_of nets) (input_names cell) = p ∙ ap (map (net_of nets)) i in
    let net : out ≡ net_of nets (output_name cell) = q ∙ ap (net_of nets) o in
    λ j. record { kind = cell.kind; name = cell.name; ins = record { items = items j }; out = net j }

-- what `pop` leaves of the pins are the inputs
pub inputs_by_pop : (cell : PartCell) (pins rest : List (List ℕ)) (len : ℕ) → pins ≡ cell.pins → len ≡ length pins → rest ≡ take (len - 1) pins → rest ≡ input_names cell
inputs_by_pop cell pins rest len e l r =
    r ∙ (λ i. take (l i - 1) pins) ∙ ap (λ ps. take (length ps - 1) ps) e

-- what it takes off is the output
pub output_by_pop : (cell : PartCell) (pins : List (List ℕ)) (len : ℕ) (output : List ℕ) → pins ≡ cell.pins → len ≡ length pins → output ≡ get_or pins (len - 1) [] → output ≡ output_name cell
output_by_pop cell pins len output e l o =
    o ∙ (λ i. get_or pins (l i - 1) []) ∙ ap (λ ps. get_or ps (length ps - 1) []) e

-- the inputs of a cell add at most four names
pub inputs_few : (cell : PartCell) (keys inputs new : List (List ℕ)) → HasAllPins cell → inputs ≡ input_names cell → new ≡ insert_all same_name keys inputs → length new ≤ length keys + 4
inputs_few cell keys inputs new all i n =
    let few = pins_of-few cell.kind in
    let short : length inputs ≤ 4 = omega (arith, ap length i, length-take (length cell.pins - 1) cell.pins, all) in
    omega (arith, ap length n, length-insert_all keys inputs)

-- ---- the names that were seen

-- the names that were seen are those of the cells so far, and differ
pub record Seen (keys names : List (List ℕ)) : Type 0 where
  pub all : keys ≡ names
  pub differ : AllDiffer keys

-- what `insert` answers, as a test of the names that were seen
pub not_false : (b : Bool) → false ≡ not b → b ≡ true
not_false true e = refl
not_false false e = e

pub not_true : (b : Bool) → true ≡ not b → b ≡ false
not_true true e = e
not_true false e = refl

-- a name that was seen repeats an earlier one, and is the first to do so
pub repeats_first : (names : List (List ℕ)) (i : ℕ) (x : List ℕ) → slice_get names i ≡ Some x → AllDiffer (take i names) → list_any (same_name x) (take i names) ≡ true → IsFirstWhere (Repeats names) names x
repeats_first names i x at differ seen = record {
  place = i;
  is = at;
  holds =
      let found = Any-from_list_any (same_name x) (take i names) seen in
      let k : ℕ = found.0 in
      let y : List ℕ = found.1 in
      let within : k < length (take i names) = found.2 in
      let here : get_or (take i names) k y ≡ y = found.3 in
      let len = length-take i names in
      let y_is : get_or names k y ≡ x =
      sym (get_or-take i names k y (omega arith)) ∙ here ∙ sym (equal_names x y found.4) in
      record { earlier = k; before = omega arith; same = slice_get-get_or names k y (omega arith) ∙ ap Some y_is ∙ sym at };
  none_before = λ k before r.
      let len = length-take i names in
      let there = slice_get_within names i x at in
      let apart = apart_from_distinct same_name (take i names) r.earlier k [] differ r.before (omega (arith, r.before)) in
      let earlier = get_or-take i names r.earlier [] (omega (arith, r.before)) in
      let later = get_or-take i names k [] (omega arith) in
      let equal : get_or names r.earlier [] ≡ get_or names k [] =
      sym (unwrap_or-slice_get names r.earlier []) ∙ ap (λ o. unwrap_or o []) r.same ∙ unwrap_or-slice_get names k [] in
      true≢false (sym (same_itself (get_or names k [])) ∙ (λ j. same_name (sym equal j) (get_or names k [])) ∙ (λ j. same_name (sym earlier j) (sym later j)) ∙ apart);
}

-- a new name keeps the names apart
pub Seen-more : (keys names new : List (List ℕ)) (x : List ℕ) → Seen keys names → new ≡ insert_key same_name keys x → list_any (same_name x) keys ≡ false → AllDiffer new → Seen new (names ++ x ∷ [])
Seen-more keys names new x seen e fresh differ = record {
  all = e ∙ insert_fresh keys x fresh ∙ ap (λ l. l ++ x ∷ []) seen.all;
  differ = differ;
}
