-- How many pins have a net, counted pin by pin and cell by cell.
use Rattle.ncl_cell_rules.proofs.Terms.{Ack, Cell, CellAt, CellKind, Gate, IsNetlist, IsTable, List, NetId, NetlistData, Register, RegisterData, ack_pins_of, arith, cases_lt, count_by-le-length, get_or, get_or_past, inl, inr, length, pins_of, pins_of-few, pins_with, refl, sum_by, sum_by-le, sum_by-take-le, sum_by_more, take, ℕ, ◌*◌, ◌+◌, ◌<◌, ◌≡◌, ◌≤◌}
use Rattle.ncl_cell_rules.proofs.ReadTables.{has_pin}
use Rattle.ncl_cell_rules.proofs.CellTables.{Entry, HasEntries, entries_more, entries_whole}

-- how many pins of the cells a net has, of which each cell adds to the count
abbrev pub all_pins : (ℕ → Cell → ℕ) → Entry ℕ
all_pins pins = record {
  none = 0;
  of = λ net. sum_by (pins net);
  add = λ net count c. count + pins net c;
  of_none = λ net. refl;
  of_more = λ net cells k c lt. sum_by_more (pins net) cells k c lt;
}

-- the counts of the first k cells
abbrev pub AreCountsOf : NetlistData → (ℕ → Cell → ℕ) → ℕ → List ℕ → Type 0
AreCountsOf n pins = HasEntries n (all_pins pins)

-- how many pins a cell has with a net, if it is an acknowledge cell
abbrev pub own_ack_pins : ℕ → Cell → ℕ
own_ack_pins net c = ack_pins_of c.kind net c.ins.items

-- how many pins a cell has with a net
abbrev pub own_pins : ℕ → Cell → ℕ
own_pins net c = pins_with net c.ins.items

module _ (n : NetlistData) (pins : ℕ → Cell → ℕ) where
  -- one cell more
  pub counts_more : (k : ℕ) (c : Cell) (counts new : List ℕ) → AreCountsOf n pins k counts → CellAt n k c → length new ≡ length counts
      → ((net : ℕ) → net < length counts → get_or new net 0 ≡ get_or counts net 0 + pins net c) → AreCountsOf n pins (k + 1) new
  counts_more k c counts new so_far at long counted = entries_more n (all_pins pins) k c counts so_far at new long counted

  pub counts_whole : (k : ℕ) (counts : List ℕ) → length n.cells ≤ k → AreCountsOf n pins k counts → IsTable n 0 (λ net. sum_by (pins net) n.cells) counts
  counts_whole k counts all so_far = entries_whole n (all_pins pins) k counts n.cells refl all so_far

  -- where a cell adds at most its pins, of which it has at most four, the counts stay small
  pub few_counts : ((net : ℕ) (c : Cell) → pins net c ≤ own_pins net c) → IsNetlist n → (k : ℕ) (counts : List ℕ) → AreCountsOf n pins k counts → (net : ℕ) → get_or counts net 0 ≤ 4 * 131072
  few_counts own is k counts so_far net =
      elim (cases_lt net (length counts)) [
        | inl inside ↦
            let sized = so_far.sized in
            let sum : get_or counts net 0 ≡ sum_by (pins net) (take k n.cells) = so_far.each net (omega (arith, inside, sized)) in
            let most = sum_by-take-le (pins net) n.cells k in
            let whole = sum_by-le (pins net) 4 n.cells (λ i d lt. four (get_or n.cells i d) (is.fits i d lt).pins) in
            let few = is.few_cells in
            omega (arith, sum, most, whole, few)
        | inr past ↦ let none : get_or counts net 0 ≡ 0 = get_or_past counts net 0 past in omega (arith, none)
      ]
    where
      four : (c : Cell) → length c.ins.items + 1 ≡ length (pins_of c.kind) → pins net c ≤ 4
      four c fits =
          let most = count_by-le-length (has_pin net) c.ins.items in
          let few = pins_of-few c.kind in
          omega (arith, own net c, most, fits, few)

-- a cell that is no acknowledge cell has none
pub no_ack_pins : (kind : CellKind) → (kind ≡ Ack → ⊥) → (net : ℕ) (ins : List NetId) → ack_pins_of kind net ins ≡ 0
no_ack_pins Ack other net ins = absurd (other refl)
no_ack_pins Register other net ins = refl
no_ack_pins RegisterData other net ins = refl
no_ack_pins (Gate kind) other net ins = refl

-- no more pins are of acknowledge cells than there are
pub ack_pins-le : (net : ℕ) (c : Cell) → own_ack_pins net c ≤ own_pins net c
ack_pins-le net c = by c.kind
  where
    by : (kind : CellKind) → ack_pins_of kind net c.ins.items ≤ own_pins net c
    by Ack = omega arith
    by Register = omega arith
    by RegisterData = omega arith
    by (Gate kind) = omega arith
