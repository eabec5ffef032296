-- Tables of nets that grow cell by cell.
use Rattle.ncl_cell_rules.proofs.Terms.{AreDrivers, AreDriversBelow, AtCell, Bool, Cell, CellAt, Contains-from_slice_get, Drives, FailsFirst, IsCell, IsCellOrder, IsNetlist, List, NetlistData, None, Option, Some, ap, arith, below_more, both_ways, cases_eq, driver_at, false, get_or, get_or-set_other, get_or-set_same, inl, inr, length, length-set, set, slice_get, slice_get-get_or, slice_get_within, subst, sym, true, ℕ, ◌+◌, ◌<◌, ◌^◌, ◌∙◌, ◌≡◌, ◌≢◌, ◌≤◌}
use Rattle.ncl_cell_rules.proofs.Drivers.{same_place, cell_fits}

-- the table of one cell more
pub drivers_more : (n : NetlistData) → IsNetlist n → (limit : ℕ) (drivers : List (Option ℕ)) (c : Cell) → AreDriversBelow n limit drivers → CellAt n limit c → AreDriversBelow n (limit + 1) (set drivers c.out.0 (Some limit))
drivers_more n is limit drivers c below at = record {
  sized = length-set drivers c.out.0 (Some limit) ∙ below.sized;
  drives = λ net place said. elim (cases_eq net c.out.0) [
    | inl same ↦ let one : limit ≡ place = some_same limit place (sym (at_out net same) ∙ said) in subst (λ p. Drives n p net) one (c, at, sym same)
    | inr other ↦ below.drives net place (sym (get_or-set_other drivers c.out.0 net (Some limit) None other) ∙ said)
  ];
  below = λ net place said. elim (cases_eq net c.out.0) [
    | inl same ↦ let one : limit ≡ place = some_same limit place (sym (at_out net same) ∙ said) in omega (arith, one)
    | inr other ↦ let less = below.below net place (sym (get_or-set_other drivers c.out.0 net (Some limit) None other) ∙ said) in omega (arith, less)
  ];
  driven = λ net place (d, at_d, out) less. elim (cases_eq net c.out.0) [
    | inl same ↦ let one : limit ≡ place = same_place n is limit place c d at at_d (sym same ∙ sym out) in at_out net same ∙ ap Some one
    | inr other ↦
        let differ : place ≢ limit = λ e. other (sym out ∙ ap (λ (x : Cell). x.out.0) (cell_same d c (sym at_d ∙ ap (slice_get n.cells) e ∙ at))) in
        get_or-set_other drivers c.out.0 net (Some limit) None other ∙ below.driven net place (d, at_d, out) (omega (arith, less, differ))
  ];
}
  where
    some_same : (x y : ℕ) → Some x ≡ Some y → x ≡ y
    some_same x y e = cc

    cell_same : (x y : Cell) → Some x ≡ Some y → x ≡ y
    cell_same x y e = cc

    inside : c.out.0 < length drivers
    inside =
        let fits = cell_fits n is c (Contains-from_slice_get n.cells limit c at) in
        let sized = below.sized in
        omega (arith, fits.output, sized)

    at_out : (net : ℕ) → net ≡ c.out.0 → driver_at (set drivers c.out.0 (Some limit)) net ≡ Some limit
    at_out net same = ap (driver_at (set drivers c.out.0 (Some limit))) same ∙ get_or-set_same drivers c.out.0 (Some limit) None inside

-- after all cells the table is whole
pub drivers_whole : (n : NetlistData) → IsNetlist n → (limit : ℕ) (drivers : List (Option ℕ)) → length n.cells ≤ limit → AreDriversBelow n limit drivers → AreDrivers n drivers
drivers_whole n is limit drivers all below = record {
  netlist = is;
  sized = below.sized;
  drives = below.drives;
  driven = λ net place (c, at, out).
      let within = slice_get_within n.cells place c at in
      below.driven net place (c, at, out) (omega (arith, within, all));
}

-- the cell that a loop over the cells reads stands at its place
pub cell_read : (n : NetlistData) (cells : List Cell) (k : ℕ) (c : Cell) → cells ≡ n.cells → k < length cells → c ≡ get_or cells k c → CellAt n k c
cell_read n cells k c are lt read = ap (λ (l : List Cell). slice_get l k) (sym are) ∙ slice_get-get_or cells k c lt ∙ ap Some (sym read)

pub read_is_cell : (n : NetlistData) (cells : List Cell) (k : ℕ) (c : Cell) → cells ≡ n.cells → k < length cells → c ≡ get_or cells k c → IsCell n c
read_is_cell n cells k c are lt read = Contains-from_slice_get n.cells k c (cell_read n cells k c are lt read)

-- and the place is a number of 32 bits
pub place_fits : (n : NetlistData) → IsNetlist n → (cells : List Cell) (k : ℕ) → cells ≡ n.cells → k < length cells → k < 2 ^ 32
place_fits n is cells k are lt = omega (arith, is.few_cells, ap length are, lt)

-- an entry that leads to a place isn't empty
pub not_both : (entry : Option ℕ) (place : ℕ) → entry ≡ Some place → entry ≡ None → ⊥
not_both entry place some none = let same : Some place ≡ None = sym some ∙ none in absurd cc

-- what an entry of the table of drivers leads to: a place of a cell, and the cell that is read there drives the net
module _ (n : NetlistData) (drivers : List (Option ℕ)) (are : AreDrivers n drivers) (net place : ℕ) where
  pub driver_within : (cells : List Cell) → cells ≡ n.cells → driver_at drivers net ≡ Some place → place < length cells
  driver_within cells same said =
      let (c, at, out) = are.drives net place said in
      let within = slice_get_within n.cells place c at in
      omega (arith, within, ap length same)

  pub driver_is : (cells : List Cell) (c : Cell) → cells ≡ n.cells → driver_at drivers net ≡ Some place → c ≡ get_or cells place c → CellAt n place c × (c.out.0 ≡ net)
  driver_is cells c same said read =
      let (d, at_d, out) = are.drives net place said in
      let at = cell_read n cells place c same (driver_within cells same said) read in
      let one : c ≡ d = cc in
      (at, ap (λ (x : Cell). x.out.0) one ∙ out)

-- the cell that is read at a place of an order of all cells
pub cell_of_order : (n : NetlistData) (order : List ℕ) → IsCellOrder n order → (k : ℕ) → k < length order → (cells : List Cell) (c : Cell) → cells ≡ n.cells → c ≡ get_or cells (get_or order k 0) c → CellAt n (get_or order k 0) c
cell_of_order n order ordered k lt cells c same read =
    let inside = ordered.inside k 0 lt in
    cell_read n cells (get_or order k 0) c same (omega (arith, inside, ap length same)) read

-- a rule that holds of the cell at a place holds at the place
pub rule_at : (n : NetlistData) (Rule : NetlistData → Cell → Type 0) (k : ℕ) (c : Cell) → CellAt n k c → Rule n c → AtCell Rule n k
rule_at n Rule k c at holds = λ d at_d.
    let same : Some c ≡ Some d = sym at ∙ at_d in
    let one : c ≡ d = cc in
    subst (Rule n) one holds

-- a rule that is asked of one cell after another
module _ (n : NetlistData) (Rule : NetlistData → Cell → Type 0) (cells : List Cell) (same : cells ≡ n.cells) (k : ℕ) (before : (j : ℕ) → j < k → AtCell Rule n j) where
  module _ (c : Cell) (within : k < length cells) (read : c ≡ get_or cells k c) where
    -- fails first at the first cell that its test refuses
    pub first_refused : (passes : Bool) → passes ≡ false → (Rule n c → passes ≡ true) → FailsFirst (AtCell Rule n) k
    first_refused passes refused test = record { fails = λ all. both_ways passes refused (test (all c (cell_read n cells k c same within read))); before = before }

    -- holds below the next where it holds here
    pub one_cell_more : Rule n c → (j : ℕ) → j < k + 1 → AtCell Rule n j
    one_cell_more holds = below_more (AtCell Rule n) k before (rule_at n Rule k c (cell_read n cells k c same within read) holds)

  -- and holds everywhere after the last
  pub after_last : length cells ≤ k → (j : ℕ) → AtCell Rule n j
  after_last past j c at = let within = slice_get_within n.cells j c at in before j (omega (arith, within, past, ap length same)) c at
