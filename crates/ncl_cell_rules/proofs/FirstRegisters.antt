-- The first register cell of each bank, found cell by cell.
use Rattle.ncl_cell_rules.proofs.Terms.{AreFirsts, B, Bool, Cell, CellAt, Contains-from_slice_get, IsCell, IsFirstOfBank, IsNetlist, IsOfBank, IsRegister, List, Member-from_Contains, NetId, NetlistData, None, OnPin, Option, Register, Some, [], and_from, and_parts, ap, arith, bank_test, both_ways, cases_eq, cond, eq-eqb, eqb-true, false, first_at, first_passing, get_or, get_or-replicate, get_or-set_other, get_or-set_same, get_or_from_slice_get, has_net, inl, inr, is_register, is_some, length, length-replicate, length-set, option_or, position, position-Some, position_from, position_from-found, position_from-more, position_from-zero, refl, replicate, set, slice_get-some, slice_get_within, subst, sym, take, take_all, true, ℕ, ◌+◌, ◌<◌, ◌∙◌, ◌≡◌, ◌≤◌}
use Rattle.ncl_cell_rules.proofs.PinNumbers.{no_net, register_on, register_inside}
use Rattle.ncl_cell_rules.proofs.TableSteps.{cell_read}
use Rattle.ncl_cell_rules.proofs.CellTests.{of_bank_passes, of_bank-from_test}

-- the first register cells among the first k cells
pub record AreFirstsOf (n : NetlistData) (k : ℕ) (firsts : List (Option ℕ)) : Type 0 where
  pub sized : length firsts ≡ length n.nets
  pub each : (net : ℕ) → net < length n.nets → get_or firsts net None ≡ position_from (bank_test net) 0 (take k n.cells)

module _ (n : NetlistData) where
  pub firsts_begin : (firsts : List (Option ℕ)) → firsts ≡ replicate (length n.nets) None → AreFirstsOf n 0 firsts
  firsts_begin firsts none = record {
    sized = ap length none ∙ length-replicate (length n.nets) None;
    each = λ net lt. ap (λ l. get_or l net None) none ∙ get_or-replicate (length n.nets) net None None lt;
  }

  -- the entry of a net once one cell more was asked
  first_more : (k : ℕ) (c : Cell) (firsts : List (Option ℕ)) → AreFirstsOf n k firsts → CellAt n k c → (net : ℕ) → net < length n.nets
      → position_from (bank_test net) 0 (take (k + 1) n.cells) ≡ option_or (get_or firsts net None) (cond (bank_test net c) (Some k) None)
  first_more k c firsts so_far at net lt =
      let within : k < length n.cells = slice_get_within n.cells k c at in
      position_from-more (bank_test net) n.cells k c within
      ∙ ap (λ o. option_or o (cond (bank_test net (get_or n.cells k c)) (Some k) None)) (sym (so_far.each net lt))
      ∙ ap (λ x. option_or (get_or firsts net None) (cond (bank_test net x) (Some k) None)) (get_or_from_slice_get n.cells k c c at)

  -- a cell that is of no bank without a register cell so far changes nothing
  pub firsts_same : (k : ℕ) (c : Cell) (firsts : List (Option ℕ)) → AreFirstsOf n k firsts → CellAt n k c
      → ((net : ℕ) → net < length n.nets → bank_test net c ≡ true → is_some (get_or firsts net None) ≡ true) → AreFirstsOf n (k + 1) firsts
  firsts_same k c firsts so_far at known = record {
    sized = so_far.sized;
    each = λ net lt. sym (first_more k c firsts so_far at net lt ∙ stays (get_or firsts net None) (bank_test net c) (known net lt));
  }
    where
      stays : (o : Option ℕ) (b : Bool) → (b ≡ true → is_some o ≡ true) → option_or o (cond b (Some k) None) ≡ o
      stays None true h = cc (h refl)
      stays None false h = refl
      stays (Some x) b h = refl

  -- a register cell is put down for its bank, unless one stands there
  pub firsts_put : (k : ℕ) (c : Cell) (request : ℕ) (firsts : List (Option ℕ)) → AreFirstsOf n k firsts → CellAt n k c → request < length n.nets
      → ((net : ℕ) → bank_test net c ≡ true → net ≡ request) → bank_test request c ≡ true
      → AreFirstsOf n (k + 1) (set firsts request (option_or (get_or firsts request None) (Some k)))
  firsts_put k c request firsts so_far at within only is = record {
    sized = length-set firsts request put ∙ so_far.sized;
    each = λ net lt.
        let sized = so_far.sized in
        let more = first_more k c firsts so_far at net lt in
        elim (cases_eq net request) [
          | inl same ↦
              ap (λ x. get_or (set firsts request put) x None) same ∙ get_or-set_same firsts request put None (omega (arith, within, sized))
              ∙ sym (more ∙ ap (λ x. option_or (get_or firsts x None) (cond (bank_test x c) (Some k) None)) same ∙ ap (λ b. option_or (get_or firsts request None) (cond b (Some k) None)) is)
          | inr other ↦
              get_or-set_other firsts request net put None other
              ∙ sym (more ∙ skips (get_or firsts net None) (bank_test net c) (λ yes. other (only net yes)))
        ];
  }
    where
      put : Option ℕ
      put = option_or (get_or firsts request None) (Some k)

      skips : (o : Option ℕ) (b : Bool) → (b ≡ true → ⊥) → option_or o (cond b (Some k) None) ≡ o
      skips o true h = absurd (h refl)
      skips None false h = refl
      skips (Some x) false h = refl

  pub firsts_whole : (k : ℕ) (firsts : List (Option ℕ)) → length n.cells ≤ k → AreFirstsOf n k firsts → AreFirsts n firsts
  firsts_whole k firsts all so_far = record {
    sized = so_far.sized;
    each = λ net lt. so_far.each net lt ∙ ap (position_from (bank_test net) 0) (take_all k n.cells all);
  }

-- a cell that is no register cell is of no bank
pub other_sort : (c : Cell) → is_register c.kind ≡ false → (net : ℕ) → bank_test net c ≡ true → ⊥
other_sort c other net passes = both_ways (is_register c.kind) other (and_parts (is_register c.kind) _ passes).0

-- a register cell is of the bank whose request is on B, and of no other
pub is_of_own_bank : (c : Cell) (request : ℕ) → IsRegister c → OnPin c B request → bank_test request c ≡ true
is_of_own_bank c request register on = and_from (is_register c.kind) _ register (ap (has_net request) on ∙ eq-eqb request request refl)

pub bank_of_pin : (c : Cell) (request net : ℕ) → OnPin c B request → bank_test net c ≡ true → net ≡ request
bank_of_pin c request net on passes =
    let has = (and_parts (is_register c.kind) _ passes).1 in
    sym (eqb-true request net (sym (ap (has_net net) on) ∙ has))

-- a bank has a first register cell
pub first_of_bank : (n : NetlistData) (bank : ℕ) (c : Cell) → IsOfBank n bank c → (first : Cell) × IsFirstOfBank n bank first
first_of_bank n bank c of_bank =
    let (k, first, at, passes, before) = first_passing (bank_test bank) c (Member-from_Contains n.cells c of_bank.0) (of_bank_passes n bank c of_bank) in (
      first,
      record {
        place = k;
        at = at;
        of_bank = of_bank-from_test n bank first (Contains-from_slice_get n.cells k first at) passes;
        first = λ j other lt at_other of_other. both_ways (bank_test bank other) (before j other lt at_other) (of_bank_passes n bank other of_other);
      },
    )

-- a cell that is none
no_cell : Cell
no_cell = record { kind = Register; name = []; ins = record { items = [] }; out = record { 0 = 0 } }

module _ (n : NetlistData) (firsts : List (Option ℕ)) (are : AreFirsts n firsts) (request : ℕ) (inside : request < length n.nets) where
  at_position : position (bank_test request) n.cells ≡ first_at firsts request
  at_position = position_from-zero (bank_test request) n.cells ∙ sym (are.each request inside)

  -- what stands in the table is the first register cell of the bank
  pub first_is : (k : ℕ) → first_at firsts request ≡ Some k → (first : Cell) × (is : IsFirstOfBank n request first) × (is.place ≡ k)
  first_is k said =
      let (within, passes, before) = position-Some (bank_test request) n.cells k no_cell (at_position ∙ said) in
      let (first, at) = slice_get-some n.cells k within in
      let here : get_or n.cells k no_cell ≡ first = get_or_from_slice_get n.cells k first no_cell at in (
        first,
        record {
          place = k;
          at = at;
          of_bank = of_bank-from_test n request first (Contains-from_slice_get n.cells k first at) (ap (bank_test request) (sym here) ∙ passes);
          first = λ j other lt at_other of_other.
              let there : get_or n.cells j no_cell ≡ other = get_or_from_slice_get n.cells j other no_cell at_other in
              both_ways (bank_test request other) (ap (bank_test request) (sym there) ∙ before j lt) (of_bank_passes n request other of_other);
        },
        refl,
      )

  -- the cell that is read at its place is this cell
  pub first_within : (k : ℕ) (cells : List Cell) → first_at firsts request ≡ Some k → cells ≡ n.cells → k < length cells
  first_within k cells said same =
      let (first, is_first, place) = first_is k said in
      let within = slice_get_within n.cells is_first.place first is_first.at in
      omega (arith, within, place, ap length same)

  pub first_read : (k : ℕ) (cells : List Cell) (c : Cell) → first_at firsts request ≡ Some k → cells ≡ n.cells → c ≡ get_or cells k c → IsFirstOfBank n request c
  first_read k cells c said same read =
      let (first, is_first, place) = first_is k said in
      let at = cell_read n cells k c same (first_within k cells said same) read in
      let there : CellAt n k first = subst (λ p. CellAt n p first) place is_first.at in
      let one : first ≡ c = cc in
      subst (IsFirstOfBank n request) one is_first

  -- and where nothing stands there is no register cell
  pub first_none : first_at firsts request ≡ None → (c : Cell) → IsOfBank n request c → ⊥
  first_none none c of_bank =
      let (k, lt, at) = of_bank.0 in
      let (place, found) = position_from-found (bank_test request) 0 n.cells k c lt (ap (bank_test request) at ∙ of_bank_passes n request c of_bank) in
      let clash : None ≡ Some place = sym none ∙ are.each request inside ∙ found in
      cc

-- the first register cell of the bank of a register cell, by a list that is read in place of its pins
module _ (n : NetlistData) (is : IsNetlist n) (firsts : List (Option ℕ)) (are : AreFirsts n firsts) (c : Cell) (in_c : IsCell n c) (register : IsRegister c) (pins : List NetId) (same_pins : pins ≡ c.ins.items) where
  abbrev own_request : ℕ
  own_request = (get_or pins 1 no_net).0

  inside : own_request < length n.nets
  inside = register_inside n is c in_c 1 pins same_pins register (omega arith)

  pub own_first_within : (k : ℕ) (cells : List Cell) → first_at firsts own_request ≡ Some k → cells ≡ n.cells → k < length cells
  own_first_within = first_within n firsts are own_request inside

  pub own_first_read : (k : ℕ) (cells : List Cell) (first : Cell) → first_at firsts own_request ≡ Some k → cells ≡ n.cells → first ≡ get_or cells k first → IsFirstOfBank n own_request first
  own_first_read = first_read n firsts are own_request inside

  pub own_first_there : first_at firsts own_request ≡ None → ⊥
  own_first_there none = first_none n firsts are own_request inside none c (in_c, register, register_on n is c in_c 1 pins same_pins register (omega arith))
