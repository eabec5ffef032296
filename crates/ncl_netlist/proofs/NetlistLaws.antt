-- What follows from a netlist's facts: its nets by number and by name, its cells, and what drives a
-- net.
use Rattle.ncl_netlist.proofs.Terms.{Bool, Cell, CellFits, IsNetlist, List, NetId, NetlistData, Port, Some, [], ap, arith, cases_lt, cond, count_by, drives, eq-eqb, eqb-true, false, get_or_from_slice_get, if◌then◌else◌, inl, inr, length, length-map, length-take, map, name_number, nat_eq, none-some, option_map, refl, same_Some, slice_get, slice_get-map, slice_get_within, slice_index, suc, sum_by-cons, sym, take, true, zero, ℕ, ◌<◌, ◌∙◌, ◌∷◌, ◌≡◌, ◌≤◌, ◌⊎◌}
use Rattle.ncl_netlist.proofs.NameLists.{name_number-get_or}

-- ---- how many of a list pass a test

module _ {X : Type 0} (p : X → Bool) where
  abbrev one : Bool → ℕ
  one b = cond b 1 0

  -- one that passes counts
  count_once : (xs : List X) (i : ℕ) (x : X) → slice_get xs i ≡ Some x → p x ≡ true → 1 ≤ count_by p xs
  count_once [] i x e t = absurd (none-some x e)
  count_once (y ∷ xs) zero x e t =
      let here : one (p y) ≡ 1 = ap one (ap p (same_Some y x e) ∙ t) in
      omega (arith, here, sum_by-cons (λ z. one (p z)) y xs)
  count_once (y ∷ xs) (suc i) x e t =
      omega (arith, count_once xs i x e t, sum_by-cons (λ z. one (p z)) y xs)

  -- two that pass count twice
  count_twice : (xs : List X) (i j : ℕ) (x y : X) → i < j → slice_get xs i ≡ Some x → slice_get xs j ≡ Some y → p x ≡ true → p y ≡ true → 2 ≤ count_by p xs
  count_twice [] i j x y lt e f s t = absurd (none-some x e)
  count_twice (z ∷ xs) zero zero x y lt e f s t = absurd (omega arith)
  count_twice (z ∷ xs) zero (suc j) x y lt e f s t =
      let here : one (p z) ≡ 1 = ap one (ap p (same_Some z x e) ∙ s) in
      omega (arith, here, count_once xs j y f t, sum_by-cons (λ w. one (p w)) z xs)
  count_twice (z ∷ xs) (suc i) zero x y lt e f s t = absurd (omega arith)
  count_twice (z ∷ xs) (suc i) (suc j) x y lt e f s t =
      omega (arith, count_twice xs i j x y (omega arith) e f s t, sum_by-cons (λ w. one (p w)) z xs)

  -- where some are counted, one passes
  count_some : (xs : List X) → 1 ≤ count_by p xs → (i : ℕ) × (x : X) × (slice_get xs i ≡ Some x) × (p x ≡ true)
  count_some [] h = absurd (omega arith)
  count_some (y ∷ xs) h = by (p y) refl (λ k. count_some xs k)
    where
      by : (b : Bool) → p y ≡ b → (1 ≤ count_by p xs → (i : ℕ) × (x : X) × (slice_get xs i ≡ Some x) × (p x ≡ true)) → (i : ℕ) × (x : X) × (slice_get (y ∷ xs) i ≡ Some x) × (p x ≡ true)
      by true e rec = (0, y, refl, e)
      by false e rec =
          let none : one (p y) ≡ 0 = ap one e in
          let rest = rec (omega (arith, none, h, sum_by-cons (λ w. one (p w)) y xs)) in
          (suc rest.0, rest.1, rest.2, rest.3)

-- a place where a port drives is that of an input port
input_there : (ports : List Port) (net : ℕ) → 1 ≤ slice_index (map drives ports) net → (port : Port) × (slice_get ports net ≡ Some port) × (port.output ≡ false)
input_there [] net h = absurd (omega arith)
input_there (p ∷ ports) zero h = by p.output refl
  where
    by : (b : Bool) → p.output ≡ b → (port : Port) × (Some p ≡ Some port) × (port.output ≡ false)
    by true e =
        let none : drives p ≡ 0 = ap (λ b. if b then 0 else 1) e in
        absurd (omega (arith, none, h))
    by false e = (p, refl, e)
input_there (p ∷ ports) (suc net) h = input_there ports net h

-- an input port drives
input_drives : (ports : List Port) (net : ℕ) (port : Port) → slice_get ports net ≡ Some port → port.output ≡ false → slice_index (map drives ports) net ≡ 1
input_drives [] net port e o = absurd (none-some port e)
input_drives (p ∷ ports) zero port e o = ap drives (same_Some p port e) ∙ ap (λ b. if b then 0 else 1) o
input_drives (p ∷ ports) (suc net) port e o = input_drives ports net port e o

-- a first part of a list has the items of the list
slice_get-take : {X : Type 0} (k : ℕ) (xs : List X) (i : ℕ) (x : X) → slice_get (take k xs) i ≡ Some x → slice_get xs i ≡ Some x
slice_get-take zero xs i x e = absurd (none-some x e)
slice_get-take (suc k) [] i x e = e
slice_get-take (suc k) (y ∷ xs) zero x e = e
slice_get-take (suc k) (y ∷ xs) (suc i) x e = slice_get-take k xs i x e

module _ (n : NetlistData) (ok : IsNetlist n) where
  -- ---- nets and ports

  -- the number of a net's name is the number of the net
  pub name_number-net : (net : ℕ) (x : List ℕ) → slice_get n.nets net ≡ Some x → name_number n.nets x ≡ net
  name_number-net net x at =
      ap (name_number n.nets) (sym (get_or_from_slice_get n.nets net x [] at))
      ∙ name_number-get_or n.nets net [] ok.net_names (slice_get_within n.nets net x at)

  -- two nets with one name are one
  pub same_net : (i j : ℕ) (x : List ℕ) → slice_get n.nets i ≡ Some x → slice_get n.nets j ≡ Some x → i ≡ j
  same_net i j x a b = sym (name_number-net i x a) ∙ name_number-net j x b

  -- there are at least as many nets as ports
  pub ports-le-nets : length n.ports ≤ length n.nets
  ports-le-nets =
      omega (arith, ap length ok.ports_first, length-take (length n.ports) n.nets, length-map n.ports (λ port. port.name))

  -- the net with the number of a port has the name of the port
  pub net_of_port : (i : ℕ) (port : Port) → slice_get n.ports i ≡ Some port → slice_get n.nets i ≡ Some port.name
  net_of_port i port at =
      slice_get-take (length n.ports) n.nets i port.name
      (ap (λ l. slice_get l i) ok.ports_first ∙ slice_get-map (λ p. p.name) n.ports i ∙ ap (option_map (λ p. p.name)) at)

  -- ---- cells

  -- a cell fits: its nets are there, and it has an input for each pin of its kind but Z
  pub cell_fits : (i : ℕ) (cell : Cell) → slice_get n.cells i ≡ Some cell → CellFits (length n.nets) cell
  cell_fits i cell at =
      rw (sym (get_or_from_slice_get n.cells i cell cell at)) (ok.fits i cell (slice_get_within n.cells i cell at))

  -- the net at an input of a cell is there
  pub input_within : (i : ℕ) (cell : Cell) (k : ℕ) (net : NetId) → slice_get n.cells i ≡ Some cell → slice_get cell.ins.items k ≡ Some net → net.0 < length n.nets
  input_within i cell k net at in_ =
      rw (sym (get_or_from_slice_get cell.ins.items k net net in_)) ((cell_fits i cell at).inputs k net (slice_get_within cell.ins.items k net in_))

  -- ---- drivers

  -- two cells with one output net are one
  pub same_driver : (i j : ℕ) (c d : Cell) → slice_get n.cells i ≡ Some c → slice_get n.cells j ≡ Some d → c.out.0 ≡ d.out.0 → i ≡ j
  same_driver i j c d a b same =
      let within = (cell_fits i c a).output in
      let driven = ok.driven c.out.0 within in
      let mine = eq-eqb c.out.0 c.out.0 refl in
      let yours = eq-eqb d.out.0 c.out.0 (sym same) in
      let test : Cell → Bool = λ cell. nat_eq cell.out.0 c.out.0 in
      let up : i < j → ⊥ = λ lt. omega (arith, count_twice test n.cells i j c d lt a b mine yours, driven) in
      let down : j < i → ⊥ = λ lt. omega (arith, count_twice test n.cells j i d c lt b a yours mine, driven) in
      grind (arith, up, down)

  -- an input port drives its net alone
  pub input_port_alone : (i : ℕ) (port : Port) (k : ℕ) (cell : Cell) → slice_get n.ports i ≡ Some port → port.output ≡ false → slice_get n.cells k ≡ Some cell → cell.out.0 ≡ i → ⊥
  input_port_alone i port k cell at input c out =
      let within = slice_get_within n.ports i port at in
      let driven = ok.driven i (omega (arith, ports-le-nets)) in
      let by_port = input_drives n.ports i port at input in
      let by_cell = count_once (λ d. nat_eq d.out.0 i) n.cells k cell c (eq-eqb cell.out.0 i out) in
      omega (arith, driven, by_port, by_cell)

  -- a net is driven by the input port with its number, or by a cell
  pub driver_of_net : (net : ℕ) → net < length n.nets → ((port : Port) × (slice_get n.ports net ≡ Some port) × (port.output ≡ false)) ⊎ ((k : ℕ) × (cell : Cell) × (slice_get n.cells k ≡ Some cell) × (cell.out.0 ≡ net))
  driver_of_net net within =
      elim (cases_lt 0 (slice_index (map drives n.ports) net)) [
        | inl some ↦ inl (input_there n.ports net (omega arith))
        | inr none ↦
            let driven = ok.driven net within in
            let found = count_some (λ d. nat_eq d.out.0 net) n.cells (omega (arith, driven)) in
            inr (found.0, found.1, found.2, eqb-true found.1.out.0 net found.3)
      ]
