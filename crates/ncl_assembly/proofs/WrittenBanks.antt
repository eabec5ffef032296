-- Banks of one and of two bits that are written out: what is asked of their cells, one by one. And two banks of one bit with a
-- stage between them.
use Rattle.ncl_assembly.proofs.Terms.{Ack, All, All-from_recursion, Bit, Cell, CellAt, Contains, HasGate, IsNetlist, IsStage, IsTreeKind, IsWiredBank, IsWiredBit, IsWiredStage, List, Member, Member-from_Contains, NetId, NetlistData, None, Rails, Reads, ReadsAcks, Register, Shape, Some, StageCell, StageData, Th22, WiredBank, WiredBit, [], arith, bank_numbers, bit, codes, flat_map, gate_numbers, here, length, net_id, one_bit, one_bit_pipeline, one_bit_ports, rails, range_with_len, refl, slice_get, subst, suc, th22, there, with_ports, zero, ℕ, ◌++◌, ◌+◌, ◌∷◌, ◌≡◌, ◌≢◌}
use Rattle.ncl_assembly.proofs.AssembledShape.{Shape-from_assembled}

-- a bit by its cells, the rails that it reads and drives, and the net of its acknowledge cell
abbrev pub wired : Bit → Rails → Rails → ℕ → WiredBit
wired b from to ack = record { bit = b; from = from; to = to; ack = net_id ack }

-- its register cells and its acknowledge cell are what they should be
abbrev pub AreCellsOf : WiredBit → ℕ → ℕ → Cell → Cell → Cell → Type 0
AreCellsOf w request rst low high acks =
    (low.kind ≡ Register) × (low.ins.items ≡ w.from.zero ∷ net_id request ∷ net_id rst ∷ []) × (low.out ≡ w.to.zero)
    × (high.kind ≡ Register) × (high.ins.items ≡ w.from.one ∷ net_id request ∷ net_id rst ∷ []) × (high.out ≡ w.to.one)
    × (acks.kind ≡ Ack) × (acks.ins.items ≡ w.to.zero ∷ w.to.one ∷ []) × (acks.out ≡ w.ack)

pub wired_bit : (n : NetlistData) (request rst : ℕ) (w : WiredBit) (low high acks : Cell) → CellAt n w.bit.rail0.0 low → CellAt n w.bit.rail1.0 high → CellAt n w.bit.ack.0 acks
    → AreCellsOf w request rst low high acks → w.bit.start ≡ None → IsWiredBit n (net_id request) (net_id rst) w
wired_bit n request rst w low high acks at_low at_high at_acks (kind_0, ins_0, out_0, kind_1, ins_1, out_1, kind_a, ins_a, out_a) start = record {
  zero = record { cell = low; at = at_low; kind = kind_0; ins = ins_0; out = out_0 };
  one = record { cell = high; at = at_high; kind = kind_1; ins = ins_1; out = out_1 };
  ack = record { cell = acks; at = at_acks; kind = kind_a; ins = ins_a; out = out_a };
  start = start;
}

-- a bank of one bit, whose acknowledge cell is the root
abbrev pub bank_of_one : WiredBit → ℕ → WiredBank
bank_of_one w request = record { bits = w ∷ []; request = net_id request; root = w.ack; tree = [] }

pub one_wired : (n : NetlistData) (rst request : ℕ) (w : WiredBit) → IsWiredBit n (net_id request) (net_id rst) w → IsWiredBank n (net_id rst) (bank_of_one w request)
one_wired n rst request w is = record {
  some = omega arith;
  few = omega arith;
  bits = All-from_recursion (IsWiredBit n (net_id request) (net_id rst)) (w ∷ []) (is, tt);
  tree = All-from_recursion (HasGate n) [] tt;
  tree_kinds = All-from_recursion (λ (g : StageCell). IsTreeKind g.kind) [] tt;
  tree_reads = reads_none;
  root = (0, omega arith, refl);
  all_read = λ net listed other. absurd (other (one_net net (Member-from_Contains (w.ack.0 ∷ []) net listed)));
}
  where
    reads_none : ReadsAcks (w ∷ []) []
    reads_none [] after g e = absurd cc
    reads_none (x ∷ before) after g e = absurd cc

    one_net : (net : ℕ) → Member net (w.ack.0 ∷ []) → net ≡ w.ack.0
    one_net net here = refl
    one_net net (there m) = elim m [ ]

-- a bank of two bits, whose acknowledges a TH22 joins
abbrev pub joining : ℕ → WiredBit → WiredBit → ℕ → StageCell
joining number w v root = record { cell = record { 0 = number }; kind = Th22; ins = record { items = w.ack ∷ v.ack ∷ [] }; out = net_id root }

abbrev pub bank_of_two : WiredBit → WiredBit → ℕ → ℕ → ℕ → WiredBank
bank_of_two w v request number root = record { bits = w ∷ v ∷ []; request = net_id request; root = net_id root; tree = joining number w v root ∷ [] }

pub two_wired : (n : NetlistData) (rst request : ℕ) (w v : WiredBit) (number root : ℕ) → IsWiredBit n (net_id request) (net_id rst) w → IsWiredBit n (net_id request) (net_id rst) v
    → HasGate n (joining number w v root) → IsWiredBank n (net_id rst) (bank_of_two w v request number root)
two_wired n rst request w v number root is also joins = record {
  some = omega arith;
  few = omega arith;
  bits = All-from_recursion (IsWiredBit n (net_id request) (net_id rst)) (w ∷ v ∷ []) (is, (also, tt));
  tree = All-from_recursion (HasGate n) (joining number w v root ∷ []) (joins, tt);
  tree_kinds = All-from_recursion (λ (g : StageCell). IsTreeKind g.kind) (joining number w v root ∷ []) (th22, tt);
  tree_reads = reads_both;
  root = (2, omega arith, refl);
  all_read = λ net listed other. (joining number w v root, (0, omega arith, refl), read net (Member-from_Contains (w.ack.0 ∷ v.ack.0 ∷ root ∷ []) net listed) other);
}
  where
    reads_both : ReadsAcks (w ∷ v ∷ []) (joining number w v root ∷ [])
    reads_both [] after g e =
        let same : joining number w v root ≡ g = cc in
        subst (Reads (w.ack.0 ∷ v.ack.0 ∷ [])) same
        (All-from_recursion (λ (x : NetId). Contains (w.ack.0 ∷ v.ack.0 ∷ []) x.0) (w.ack ∷ v.ack ∷ []) ((0, omega arith, refl), ((1, omega arith, refl), tt)))
    reads_both (x ∷ []) after g e = absurd cc
    reads_both (x ∷ y ∷ before) after g e = absurd cc

    read : (net : ℕ) → Member net (w.ack.0 ∷ v.ack.0 ∷ root ∷ []) → net ≢ root → Contains (w.ack ∷ v.ack ∷ []) (net_id net)
    read net here other = (0, omega arith, refl)
    read net (there here) other = (1, omega arith, refl)
    read net (there (there here)) other = absurd (other refl)
    read net (there (there (there m))) other = elim m [ ]

-- one stage that is written has number 1, and two have the numbers 1 and 2
pub numbered_one : (s : StageData) → s.number ≡ 1 → (k : ℕ) (t : StageData) → slice_get (s ∷ []) k ≡ Some t → t.number ≡ k + 1
numbered_one s one zero t at = cc
numbered_one s one (suc k) t at = absurd cc

pub numbered_two : (s t : StageData) → s.number ≡ 1 → t.number ≡ 2 → (k : ℕ) (u : StageData) → slice_get (s ∷ t ∷ []) k ≡ Some u → u.number ≡ k + 1
numbered_two s t one two zero u at = cc
numbered_two s t one two (suc zero) u at = cc
numbered_two s t one two (suc (suc k)) u at = absurd cc

-- ---- two banks of one bit, with the ports and the first nets of `wires`, and a stage between them of some cells of the netlist

-- by the names of the nets that are no ports, the rails that the second bank reads, and the cells of the stage
abbrev pub one_bit_netlist : List (List ℕ) → ℕ → ℕ → List Cell → NetlistData
one_bit_netlist inner r0 r1 gates =
    with_ports (codes "t") one_bit_ports inner
    (one_bit (codes "r1") (rails 0 1) 7 (rails 8 9) (codes "k1") 6
    ++ one_bit (codes "s1") (rails r0 r1) 2 (rails 4 5) (codes "d1") 7
    ++ gates)

abbrev pub one_bit_stage : ℕ → ℕ → List StageCell → StageData
one_bit_stage r0 r1 cells = record { number = 1; inputs = rails 8 9 ∷ []; cells = cells; outputs = rails r0 r1 ∷ [] }

abbrev first_bit : WiredBit
first_bit = wired (bit 0 1 2) (rails 0 1) (rails 8 9) 6

abbrev last_bit : ℕ → ℕ → WiredBit
last_bit r0 r1 = wired (bit 3 4 5) (rails r0 r1) (rails 4 5) 7

module _ (inner : List (List ℕ)) (r0 r1 : ℕ) (gates : List Cell) (cells : List StageCell) where
  abbrev n : NetlistData
  n = one_bit_netlist inner r0 r1 gates

  abbrev s : StageData
  s = one_bit_stage r0 r1 cells

  abbrev banks : List WiredBank
  banks = bank_of_one first_bit 7 ∷ bank_of_one (last_bit r0 r1) 2 ∷ []

  -- the cells are numbered in the order of the file
  abbrev pub AreNumbered : Type 0
  AreNumbered = flat_map bank_numbers banks ++ flat_map (λ (t : StageData). gate_numbers t.cells) (s ∷ []) ≡ range_with_len 0 (length n.cells)

  pub one_bit_shape : IsNetlist n → IsStage s → All (HasGate n) cells → AreNumbered → Shape n (one_bit_pipeline n 3 s)
  one_bit_shape netlist is_stage has numbered = Shape-from_assembled n (one_bit_pipeline n 3 s) (record {
    is_netlist = netlist;
    netlist = refl;
    wired = banks;
    rst = net_id 3;
    banks = refl;
    each_bank = All-from_recursion (IsWiredBank n (net_id 3)) banks (
      one_wired n 3 7 first_bit (wired_bit n 7 3 first_bit _ _ _ refl refl refl (refl, refl, refl, refl, refl, refl, refl, refl, refl) refl),
      (one_wired n 3 2 (last_bit r0 r1) (wired_bit n 2 3 (last_bit r0 r1) _ _ _ refl refl refl (refl, refl, refl, refl, refl, refl, refl, refl, refl) refl), tt),
    );
    few_banks = omega arith;
    each_stage = All-from_recursion (IsWiredStage n) (s ∷ []) (record { is_stage = is_stage; gates = has }, tt);
    numbers = numbered_one s refl;
    rails_in = refl;
    rails_out = refl;
    roots = refl;
    cells = numbered;
    ports = refl;
    directions = refl;
  })
