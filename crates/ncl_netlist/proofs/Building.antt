-- What holds of the netlist that parts describe.
use Rattle.ncl_netlist.proofs.Terms.{All, All-cons, All-from_get_or, All-head, All-map, All-nil, All-tail, All-take, AllDiffer, AreCounts, Bool, BuildFault, Cell, CellFits, EachIndex, Err, HasAllPins, HasFewCells, HasOwnCellNames, IfErr, IsErrAnd, IsFaultOf, IsFaultOfCounts, IsFaultless, IsFirstWhere, IsNetlist, List, Memory, NetId, NoDriver, Ok, PartCell, Parts, Port, Result, SameName, TooMany, TwoDrivers, [], ap, arith, cell_of, count_by, drivers_at, drives, false, flat_map, fold-append, get_or, input_names, insert_all, insert_key, length, length-append, length-map, length-take, list_any, list_any-append, list_any_at, map, map-append, name_number, nat_eq, net_of, netlist_of, nets_of, once_each, output_name, pin_names, pins_of-few, pins_of-some, port_names, refl, same_name, slice_get_within, slice_index, subst, suc, sym, take, true, zero, ℕ, ◌*◌, ◌++◌, ◌+◌, ◌-◌, ◌<◌, ◌^◌, ◌||◌, ◌∙◌, ◌∷◌, ◌≡◌, ◌≤◌}
use Rattle.ncl_netlist.proofs.NameLists.{same_itself, insert_all-none, AllDiffer-once_each, take-once_each, length-insert_all, name_number-lt-length, list_any-once_each, get_or-name_number}

or_true : (b : Bool) → (b || true) ≡ true
or_true true = refl
or_true false = refl

-- what holds of each name that the cells' pins mention
pins_all : (P : List ℕ → Type 0) (cells : List PartCell) → ((x : List ℕ) → list_any (same_name x) (flat_map (λ cell. cell.pins) cells) ≡ true → P x) → All (λ cell. All P cell.pins) cells
pins_all P [] h = All-nil (λ cell. All P cell.pins)
pins_all P (c ∷ cells) h =
    All-cons (λ cell. All P cell.pins) c cells
    (All-from_get_or P c.pins [] (λ i within. h (get_or c.pins i []) (list_any-append (same_name (get_or c.pins i [])) c.pins (flat_map (λ cell. cell.pins) cells) ∙ ap (λ b. b || list_any (same_name (get_or c.pins i [])) (flat_map (λ cell. cell.pins) cells)) (list_any_at (same_name (get_or c.pins i [])) c.pins i [] within (same_itself (get_or c.pins i []))))))
    (pins_all P cells (λ x e. h x (list_any-append (same_name x) c.pins (flat_map (λ cell. cell.pins) cells) ∙ ap (λ b. list_any (same_name x) c.pins || b) e ∙ or_true (list_any (same_name x) c.pins))))

-- the numbers of a cell's nets are below the number of nets, where those of its names are
fits : (nets : List (List ℕ)) (cell : PartCell) → HasAllPins cell → All (λ x. name_number nets x < length nets) cell.pins → CellFits (length nets) (cell_of nets cell)
fits nets cell all each =
    let last = length cell.pins - 1 in
    let some = pins_of-some cell.kind in
    record {
      output = each last [] (omega (arith, all));
      inputs = All-map (λ net. net.0 < length nets) (net_of nets) (input_names cell) (All-take (λ x. name_number nets x < length nets) last cell.pins each);
      pins = omega (arith, length-map (input_names cell) (net_of nets), length-take last cell.pins, all);
    }

-- the names of the nets that some names have are these names
names-of_numbers : (nets xs : List (List ℕ)) → All (λ x. name_number nets x < length nets) xs → map (λ (net : NetId). get_or nets net.0 []) (map (net_of nets) xs) ≡ xs
names-of_numbers nets [] known = refl
names-of_numbers nets (x ∷ xs) known =
    let first = get_or-name_number nets x [] (All-head (λ x. name_number nets x < length nets) x xs known) in
    let rest = names-of_numbers nets xs (All-tail (λ x. name_number nets x < length nets) x xs known) in
    λ i. first i ∷ rest i

-- a list is its first k elements and the one after them, where it has no more
front_and_last : {X : Type 0} (xs : List X) (k : ℕ) (d : X) → length xs ≡ suc k → take k xs ++ get_or xs k d ∷ [] ≡ xs
front_and_last [] k d many = absurd (omega (arith, many))
front_and_last (x ∷ []) zero d many = refl
front_and_last (x ∷ (y ∷ xs)) zero d many = absurd (omega (arith, many))
front_and_last (x ∷ xs) (suc k) d many = ap (λ l. x ∷ l) (front_and_last xs k d (omega (arith, many)))

-- the names at the pins of a cell whose nets are numbered are the names that it was given
pin_names-cell_of : (nets : List (List ℕ)) (cell : PartCell) → HasAllPins cell → All (λ x. name_number nets x < length nets) cell.pins → pin_names nets (cell_of nets cell) ≡ cell.pins
pin_names-cell_of nets cell all known =
    let some = pins_of-some cell.kind in
    let whole = front_and_last cell.pins (length cell.pins - 1) [] (omega (arith, all, some)) in
    let numbers = map-append (net_of nets) (input_names cell) (output_name cell ∷ []) in
    ap (map (λ (net : NetId). get_or nets net.0 [])) (sym numbers ∙ ap (map (net_of nets)) whole) ∙ names-of_numbers nets cell.pins known

all_pin_names : (nets : List (List ℕ)) (cells : List PartCell) → All HasAllPins cells → All (λ cell. All (λ x. name_number nets x < length nets) cell.pins) cells → flat_map (pin_names nets) (map (cell_of nets) cells) ≡ flat_map (λ cell. cell.pins) cells
all_pin_names nets [] all known = refl
all_pin_names nets (c ∷ cells) all known =
    let first = pin_names-cell_of nets c (All-head HasAllPins c cells all) (All-head (λ cell. All (λ x. name_number nets x < length nets) cell.pins) c cells known) in
    let rest = all_pin_names nets cells (All-tail HasAllPins c cells all) (All-tail (λ cell. All (λ x. name_number nets x < length nets) cell.pins) c cells known) in
    λ i. first i ++ rest i

-- the cells have five pins at most
length-flat_map-pins : (cells : List PartCell) → All HasAllPins cells → length (flat_map (λ cell. cell.pins) cells) ≤ 5 * length cells
length-flat_map-pins [] all = omega arith
length-flat_map-pins (c ∷ cells) all =
    omega (arith, length-append c.pins (flat_map (λ cell. cell.pins) cells), All-head HasAllPins c cells all, pins_of-few c.kind, length-flat_map-pins cells (All-tail HasAllPins c cells all))

module _ (parts : Parts) where
  -- each name at a pin is a net
  each_net : All (λ cell. All (λ x. name_number (nets_of parts) x < length (nets_of parts)) cell.pins) parts.cells
  each_net =
      pins_all (λ x. name_number (nets_of parts) x < length (nets_of parts)) parts.cells
      (λ x e. name_number-lt-length (nets_of parts) x (list_any-once_each (port_names parts ++ flat_map (λ cell. cell.pins) parts.cells) x ∙ list_any-append (same_name x) (port_names parts) (flat_map (λ cell. cell.pins) parts.cells) ∙ ap (λ b. list_any (same_name x) (port_names parts) || b) e ∙ or_true (list_any (same_name x) (port_names parts))))

  pub cells_fit : All HasAllPins parts.cells → All (CellFits (length (nets_of parts))) (map (cell_of (nets_of parts)) parts.cells)
  cells_fit all =
      All-map (CellFits (length (nets_of parts))) (cell_of (nets_of parts)) parts.cells
      (λ k d within. fits (nets_of parts) (get_or parts.cells k d) (all k d within) (each_net k d within))

  pub nets_few : length parts.ports < 2 ^ 31 → All HasAllPins parts.cells → HasFewCells parts → length (nets_of parts) < 2 ^ 32
  nets_few ports all few =
      let names = port_names parts in
      let mentions = names ++ flat_map (λ cell. cell.pins) parts.cells in
      let inserted = length-insert_all [] mentions in
      let once = ap length (insert_all-none mentions) in
      omega (arith, inserted, once, length-append names (flat_map (λ cell. cell.pins) parts.cells), length-map parts.ports (λ port. port.name), length-flat_map-pins parts.cells all)

  pub ports_are_first : AllDiffer (port_names parts) → take (length parts.ports) (nets_of parts) ≡ port_names parts
  ports_are_first differ =
      let whole = take-once_each (port_names parts) (flat_map (λ cell. cell.pins) parts.cells) differ in
      ap (λ n. take n (nets_of parts)) (sym (length-map parts.ports (λ port. port.name))) ∙ whole

  pub ports_within : AllDiffer (port_names parts) → length parts.ports ≤ length (nets_of parts)
  ports_within differ =
      omega (arith, ap length (ports_are_first differ), length-take (length parts.ports) (nets_of parts), length-map parts.ports (λ port. port.name))

  -- what no rule forbids is a netlist
  pub is_netlist : AllDiffer (port_names parts) → length parts.ports < 2 ^ 31 → All HasAllPins parts.cells → IsFaultless parts → IsNetlist (netlist_of parts)
  is_netlist differ ports all faultless = record {
    driven = λ net within. omega (arith, faultless.2 net within, faultless.3 net within);
    fits = cells_fit all;
    ports_first = ports_are_first differ;
    in_order = ap (λ names. once_each (port_names parts ++ names)) (sym (all_pin_names (nets_of parts) parts.cells all (each_net)));
    net_names = AllDiffer-once_each (port_names parts ++ flat_map (λ cell. cell.pins) parts.cells);
    cell_names = subst AllDiffer (names_same parts.cells) faultless.1;
    few_cells = omega (arith, length-map parts.cells (cell_of (nets_of parts)), faultless.0);
    few_ports = ports;
    few_nets = nets_few ports all faultless.0;
  }
    where
      names_same : (cells : List PartCell) → map (λ cell. cell.name) cells ≡ map (λ cell. cell.name) (map (cell_of (nets_of parts)) cells)
      names_same [] = refl
      names_same (c ∷ cells) = ap (λ l. c.name ∷ l) (names_same cells)

-- nets and cells are those of the netlist that the parts describe
pub record Drafted (parts : Parts) (nets : List (List ℕ)) (cells : List Cell) : Type 0 where
  pub nets_are : nets ≡ nets_of parts
  pub cells_are : cells ≡ map (cell_of (nets_of parts)) parts.cells

-- the names that are inserted port by port and then pin by pin are the nets
pub drafted : (parts : Parts) (ports : List Port) (part_cells : List PartCell) (nets : List (List ℕ)) (cells : List Cell) → ports ≡ parts.ports → part_cells ≡ parts.cells → nets ≡ insert_all same_name (insert_all same_name [] (map (λ port. port.name) ports)) (flat_map (λ cell. cell.pins) part_cells) → cells ≡ map (cell_of nets) part_cells → Drafted parts nets cells
drafted parts ports part_cells nets cells p q n c =
    let names : nets ≡ nets_of parts =
    n
    ∙ sym (fold-append (insert_key same_name) [] (map (λ port. port.name) ports) (flat_map (λ cell. cell.pins) part_cells))
    ∙ insert_all-none (map (λ port. port.name) ports ++ flat_map (λ cell. cell.pins) part_cells)
    ∙ (λ i. once_each (map (λ port. port.name) (p i) ++ flat_map (λ cell. cell.pins) (q i))) in
    record {
      nets_are = names;
      cells_are = c ∙ (λ i. map (cell_of (names i)) (q i));
    }

-- a first place of one test is the first of another that says the same
pub first_where : (P Q : ℕ → Type 0) (names : List (List ℕ)) (x : List ℕ) → ((k : ℕ) → k < length names → P k → Q k) → ((k : ℕ) → k < length names → Q k → P k) → IsFirstWhere P names x → IsFirstWhere Q names x
first_where P Q names x to from first =
    let within = slice_get_within names first.place x first.is in
    record {
      place = first.place;
      is = first.is;
      holds = to first.place within first.holds;
      none_before = λ k before q. first.none_before k before (from k (omega arith) q);
    }

-- the counts are those of the drivers of the parts' nets
pub record Counted (parts : Parts) (counts : List ℕ) : Type 0 where
  pub long : length counts ≡ length (nets_of parts)
  pub are : (net : ℕ) → net < length (nets_of parts) → slice_index counts net ≡ drivers_at parts net

pub counted : (parts : Parts) (nets shown_nets : List (List ℕ)) (cells shown_cells : List Cell) (ports : List Port) (counts : List ℕ) → Drafted parts nets cells → ports ≡ parts.ports → shown_cells ≡ cells → shown_nets ≡ nets → AreCounts ports shown_cells (length shown_nets) counts → Counted parts counts
counted parts nets shown_nets cells shown_cells ports counts draft p q s made =
    let long = ap length (s ∙ draft.nets_are) in
    record {
      long = made.long ∙ long;
      are = λ net within.
          made.are net (omega (arith, long, within))
          ∙ (λ i. slice_index (map drives (p i)) net + count_by (λ cell. nat_eq cell.out.0 net) ((q ∙ draft.cells_are) i));
    }

-- what the counts say of the rules
module _ (parts : Parts) (counts : List ℕ) (c : Counted parts counts) (ok : HasFewCells parts × HasOwnCellNames parts) where
  pub faultless_by_counts : EachIndex counts (λ net. slice_index counts net ≡ 1) → IsFaultless parts
  faultless_by_counts one =
      (ok.0, ok.1, (λ net within. omega (arith, c.long, c.are net within, one net (omega (arith, c.long)))), λ net within. omega (arith, c.long, c.are net within, one net (omega (arith, c.long))))

  pub fault_by_counts : (nets : List (List ℕ)) (f : BuildFault) → nets ≡ nets_of parts → IsFaultOfCounts counts nets f → IsFaultOf parts f
  fault_by_counts nets f e h = by f (subst (λ l. IsFaultOfCounts counts l f) e h)
    where
      by : (g : BuildFault) → IsFaultOfCounts counts (nets_of parts) g → IsFaultOf parts g
      by TooMany k = absurd k
      by (SameName x) k = absurd k
      by (TwoDrivers x) k =
          (ok.0, ok.1, first_where (λ net. 2 ≤ slice_index counts net) (λ net. 2 ≤ drivers_at parts net) (nets_of parts) x (λ net w p. omega (arith, c.are net w)) (λ net w q. omega (arith, c.are net w)) k)
      by (NoDriver x) k =
          (ok.0, ok.1, (λ net w. omega (arith, c.are net w, k.0 net (omega (arith, c.long)))), first_where (λ net. slice_index counts net ≡ 0) (λ net. drivers_at parts net ≡ 0) (nets_of parts) x (λ net w p. omega (arith, c.are net w)) (λ net w q. omega (arith, c.are net w)) k.1)
      by Memory k = tt

-- an error that is passed on
pub passed_on : {T E : Type 0} (P : E → Type 0) (r : Result T E) (e : E) → IsErrAnd r (λ f. f ≡ e) → P e → IfErr r P
passed_on P (Ok x) e h p = tt
passed_on P (Err f) e h p = subst P (sym h) p
