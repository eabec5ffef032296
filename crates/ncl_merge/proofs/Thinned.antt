-- Where nets of a thinned netlist come from, and its first rules of shape.
use Rattle.ncl_merge.proofs.Terms.{A, Ack, AckOf, AcksBank, All-member, B, Bool, Cell, CellAt, CellKind, ComesFrom, Contains, Contains-from_Member, Contains-from_slice_get, FromPort, Gate, HasOnlyOrigin, IsAck, IsAckOfOne, IsCell, IsDataBank, IsFirstOfBank, IsFree, IsGate, IsGateOfOne, IsInputPort, IsOfBank, IsOutputPort, IsPaired, IsRailGate, IsReadPort, IsRegister, IsRegisterOfOne, IsStood, IsThinned, IsTied, IsUnmixed, Kind, LeadsTo, List, Member, Member-from_Contains, Member-map, NetId, NetlistData, OnPin, Origin, Port, RST, RailOf, ReadsNet, Some, [], ack, ack_pins, ack_pins_of, ap, arith, arity_of, arity_of-some, at_map, at_of_map, bank_of_ack, bank_of_register, both_ways, cell_fits, cond, count_by, data_is_register, driver_of, false, filter, gate, inl, inr, is_data_register, is_gate, is_register, length, map, member_of_filter, more, moved, not, one, only_origin, pins_of, pins_of-gate, pins_with, place_of, port, rail, refl, register_no_gate, renamed_net, same_place, slice_get, slice_get-from_Contains, slice_get-some, slice_get_within, sort_of, subst, suc, sum_by, sum_by-cons, sum_by-map, sym, true, zero, ℕ, ◌+◌, ◌<◌, ◌==◌, ◌∙◌, ◌∷◌, ◌≡◌, ◌⊎◌}
use Rattle.ncl_merge.proofs.Weights.{same-number, sum-same}

-- where an origin leads back to
abbrev pub origin_back : (ℕ → ℕ) → Origin → Origin
origin_back from FromPort = FromPort
origin_back from (RailOf bank) = RailOf (from bank)
origin_back from (AckOf bank) = AckOf (from bank)

abbrev pub origin_forth : (ℕ → ℕ) → Origin → Origin
origin_forth to FromPort = FromPort
origin_forth to (RailOf bank) = RailOf (to bank)
origin_forth to (AckOf bank) = AckOf (to bank)

sort_ack : (k : Kind) (s : CellKind) → s ≡ Gate k → s ≡ Ack → ⊥
sort_ack k s e f = cc

pub kind-apart : (bank other : ℕ) → AckOf other ≡ RailOf bank → ⊥
kind-apart bank other e = cc

pub port_apart : (bank : ℕ) → FromPort ≡ RailOf bank → ⊥
port_apart bank e = cc

-- ---- sums over the cells that are no gates

abbrev plain_test : Cell → Bool
plain_test c = not (is_gate c.kind)

pub filter_kept : {X : Type 0} (test : X → Bool) (x : X) (xs : List X) → test x ≡ true → filter test (x ∷ xs) ≡ x ∷ filter test xs
filter_kept test x xs passes = ap (λ b. cond b (x ∷ filter test xs) (filter test xs)) passes

pub filter_gone : {X : Type 0} (test : X → Bool) (x : X) (xs : List X) → test x ≡ false → filter test (x ∷ xs) ≡ filter test xs
filter_gone test x xs fails = ap (λ b. cond b (x ∷ filter test xs) (filter test xs)) fails

-- a sum whose terms are 0 where the test fails is the sum over those that pass
sum_of_passing : {X : Type 0} (f : X → ℕ) (test : X → Bool) (xs : List X) → ((x : X) → test x ≡ false → f x ≡ 0) → sum_by f xs ≡ sum_by f (filter test xs)
sum_of_passing f test [] none = refl
sum_of_passing f test (x ∷ xs) none =
    let rest = sum_of_passing f test xs none in
    let whole : sum_by f (x ∷ xs) ≡ f x + sum_by f xs = sum_by-cons f x xs in
    elim (test x) as (λ b. test x ≡ b → sum_by f (x ∷ xs) ≡ sum_by f (cond b (x ∷ filter test xs) (filter test xs))) [
      | true ↦ λ passes. let after : sum_by f (x ∷ filter test xs) ≡ f x + sum_by f (filter test xs) = sum_by-cons f x (filter test xs) in omega (arith, whole, rest, after)
      | false ↦ λ fails. let zero-term = none x fails in omega (arith, whole, rest, zero-term)
    ] refl

count_of_map : {X Y : Type 0} (p : Y → Bool) (g : X → Y) (q : X → Bool) (xs : List X) → ((x : X) → Member x xs → p (g x) ≡ q x) → count_by p (map g xs) ≡ count_by q xs
count_of_map p g q xs same = sum_by-map (λ y. cond (p y) 1 0) g xs ∙ sum-same (λ x. cond (p (g x)) 1 0) (λ x. cond (q x) 1 0) xs (λ x m. ap (λ b. cond b 1 0) (same x m))

module _ (n m : NetlistData) (is : IsThinned n m) (free : IsFree n) where
  -- ---- cells that stand

  pub register-no_rail : (c : Cell) → IsRegister c → IsRailGate n c → ⊥
  register-no_rail c register ((kind, is_gate), comes) = register_no_gate c.kind register kind is_gate

  pub ack-no_rail : (c : Cell) → IsAck c → IsRailGate n c → ⊥
  ack-no_rail c is_ack ((kind, is_gate), comes) = sort_ack kind c.kind is_gate is_ack

  -- a cell of m that is no gate is one of n, moved
  old-plain : (d : Cell) → IsCell m d → (IsGate d → ⊥) → (c : Cell) × (k : ℕ) × CellAt n k c × IsStood m is.to is.from is.at k c × (d ≡ moved is.to c)
  old-plain d in_d no_gate =
      let (i, at) = place_of m d in_d in
      elim (is.each i d at) [
        | inl old ↦ (old.cell, old.place, old.in_n, is.stood old.place old.cell old.in_n old.no_rail, old.is)
        | inr thin ↦ absurd (no_gate thin.gate)
      ]

  pub old-register : (d : Cell) → IsCell m d → IsRegister d → (c : Cell) × (k : ℕ) × CellAt n k c × IsStood m is.to is.from is.at k c × (d ≡ moved is.to c)
  old-register d in_d register = old-plain d in_d (λ (kind, e). register_no_gate d.kind register kind e)

  pub old-ack : (d : Cell) → IsCell m d → IsAck d → (c : Cell) × (k : ℕ) × CellAt n k c × IsStood m is.to is.from is.at k c × (d ≡ moved is.to c)
  old-ack d in_d is_ack = old-plain d in_d (λ (kind, e). sort_ack kind d.kind e is_ack)

  -- a pin of a cell that stands
  pub pin-back : (k : ℕ) (c d : Cell) → IsStood m is.to is.from is.at k c → d ≡ moved is.to c → (pin y : ℕ) → OnPin d pin y → OnPin c pin (is.from y) × (is.to (is.from y) ≡ y)
  pin-back k c d stood e pin y on =
      let (x, at, same) = at_of_map (renamed_net is.to) c.ins.items pin (record { 0 = y }) (subst (λ (z : Cell). slice_get z.ins.items pin ≡ Some (record { 0 = y })) e on) in
      let y-is : is.to x.0 ≡ y = ap (λ (z : NetId). z.0) same in
      let x-is : is.from y ≡ x.0 = ap is.from (sym y-is) ∙ stood.pins x (Contains-from_slice_get c.ins.items pin x at) in
      (subst (λ (z : ℕ). OnPin c pin z) (sym x-is) at, ap is.to x-is ∙ y-is)

  pub pin-forth : (c : Cell) (pin x : ℕ) → OnPin c pin x → OnPin (moved is.to c) pin (is.to x)
  pin-forth c pin x on = at_map (renamed_net is.to) c.ins.items pin (record { 0 = x }) on

  pub reads-forth : (c : Cell) (x : ℕ) → ReadsNet c x → ReadsNet (moved is.to c) (is.to x)
  reads-forth c x reads = Contains-from_Member (record { 0 = is.to x }) (Member-map (renamed_net is.to) (record { 0 = x }) (Member-from_Contains c.ins.items (record { 0 = x }) reads))

  -- a cell that is no rail gate stands, and its nets lead back
  pub stands : (c : Cell) → IsCell n c → (IsRailGate n c → ⊥) → IsCell m (moved is.to c) × (is.from (is.to c.out.0) ≡ c.out.0) × ((x : NetId) → Contains c.ins.items x → is.from (is.to x.0) ≡ x.0)
  stands c in_c no_rail =
      let (k, at) = place_of n c in_c in
      let stood = is.stood k c at no_rail in
      (Contains-from_slice_get m.cells (is.at k) (moved is.to c) stood.stands, stood.out, stood.pins)

  pub reads-back : (k : ℕ) (c d : Cell) → IsStood m is.to is.from is.at k c → d ≡ moved is.to c → (y : ℕ) → ReadsNet d y → ReadsNet c (is.from y)
  reads-back k c d stood e y reads =
      let (pin, at) = slice_get-from_Contains d.ins.items (record { 0 = y }) reads in
      let (on, same) = pin-back k c d stood e pin y at in
      Contains-from_slice_get c.ins.items pin (record { 0 = is.from y }) on

  pub out-back : (k : ℕ) (c d : Cell) → IsStood m is.to is.from is.at k c → d ≡ moved is.to c → is.from d.out.0 ≡ c.out.0
  out-back k c d stood e = ap (λ (z : Cell). is.from z.out.0) e ∙ stood.out

  -- ---- banks and ports

  pub bank-back : (bank : ℕ) (d : Cell) → IsOfBank m bank d → (c : Cell) × (k : ℕ) × CellAt n k c × IsOfBank n (is.from bank) c × (d ≡ moved is.to c) × (is.to (is.from bank) ≡ bank)
  bank-back bank d of_bank =
      let (c, k, at, stood, e) = old-register d of_bank.0 of_bank.1 in
      let (on, same) = pin-back k c d stood e B bank of_bank.2 in
      (c, k, at, (Contains-from_slice_get n.cells k c at, ap (λ (z : Cell). is_register z.kind) (sym e) ∙ of_bank.1, on), e, same)

  pub bank-forth : (bank : ℕ) (c : Cell) → IsOfBank n bank c → IsOfBank m (is.to bank) (moved is.to c)
  bank-forth bank c of_bank = ((stands c of_bank.0 (register-no_rail c of_bank.1)).0, of_bank.1, pin-forth c B bank of_bank.2)

  pub input-back : (net : ℕ) → IsInputPort m net → IsInputPort n (is.from net)
  input-back net (p, at, input) =
      let at-n : slice_get n.ports net ≡ Some p = ap (λ ports. slice_get ports net) (sym is.ports) ∙ at in
      (p, ap (slice_get n.ports) (is.port_from net (slice_get_within n.ports net p at-n)) ∙ at-n, input)

  pub output-back : (net : ℕ) → IsOutputPort m net → IsOutputPort n (is.from net)
  output-back net (p, at, output) =
      let at-n : slice_get n.ports net ≡ Some p = ap (λ ports. slice_get ports net) (sym is.ports) ∙ at in
      (p, ap (slice_get n.ports) (is.port_from net (slice_get_within n.ports net p at-n)) ∙ at-n, output)

  -- ---- each net of m comes from where the net of n does

  pub comes-back : (net : ℕ) (o : Origin) → ComesFrom m net o → ComesFrom n (is.from net) (origin_back is.from o)
  comes-back net o (port input) = port (input-back net input)
  comes-back net o (rail {request = bank} d of_bank) =
      let (c, k, at, of_n, e, same) = bank-back bank d of_bank in
      let stood = is.stood k c at (register-no_rail c of_n.1) in
      subst (λ x. ComesFrom n x (RailOf (is.from bank))) (sym (out-back k c d stood e)) (rail c of_n)
  comes-back net o (ack {request = bank} d acks) =
      let (c, k, at, stood, e) = old-ack d acks.0 acks.1 in
      let (r, of_r, on) = acks.2 in
      let (b, j, at-b, of_n, e-b, same) = bank-back bank r of_r in
      let (on-a, back) = pin-back k c d stood e A r.out.0 on in
      let b-out : is.from r.out.0 ≡ b.out.0 = out-back j b r (is.stood j b at-b (register-no_rail b of_n.1)) e-b in
      subst (λ x. ComesFrom n x (AckOf (is.from bank))) (sym (out-back k c d stood e))
      (ack c (Contains-from_slice_get n.cells k c at, ap (λ (z : Cell). z.kind) (sym e) ∙ acks.1, (b, of_n, subst (λ x. OnPin c A x) b-out on-a)))
  comes-back net o (gate {net = read} d in_d is_gate reads from) =
      let before : ComesFrom n (is.from read) (origin_back is.from o) = comes-back read o from in
      let (i, at) = place_of m d in_d in
      elim (is.each i d at) [
        | inl old ↦
            let stood = is.stood old.place old.cell old.in_n old.no_rail in
            let c-gate : IsGate old.cell = (is_gate.0, ap (λ (z : Cell). z.kind) (sym old.is) ∙ is_gate.1) in
            subst (λ x. ComesFrom n x (origin_back is.from o)) (sym (out-back old.place old.cell d stood old.is))
            (gate old.cell (Contains-from_slice_get n.cells old.place old.cell old.in_n) c-gate (reads-back old.place old.cell d stood old.is read reads) before)
        | inr thin ↦
            let (x, z-is, back, of_bank) = thin.pins (record { 0 = read }) reads in
            let here-x : is.from read ≡ x = ap is.from z-is ∙ back in
            let same : origin_back is.from o ≡ RailOf thin.bank = (only_origin n is.is_n free x (RailOf thin.bank) of_bank).only (origin_back is.from o) (subst (λ y. ComesFrom n y (origin_back is.from o)) here-x before) in
            let out : is.from d.out.0 ≡ thin.old.out.0 = ap (λ (z : NetId). is.from z.0) thin.out ∙ thin.kept in
            subst (λ y. ComesFrom n y (origin_back is.from o)) (sym out) (subst (ComesFrom n thin.old.out.0) (sym same) thin.comes)
      ]

  -- an origin of m leads back to one that leads to it
  pub comes-kept : (net : ℕ) (o : Origin) → ComesFrom m net o → origin_forth is.to (origin_back is.from o) ≡ o
  comes-kept net o (port input) = refl
  comes-kept net o (rail {request = bank} d of_bank) = let (c, k, at, of_n, e, same) = bank-back bank d of_bank in ap RailOf same
  comes-kept net o (ack {request = bank} d acks) =
      let (r, of_r, on) = acks.2 in
      let (b, j, at-b, of_n, e-b, same) = bank-back bank r of_r in
      ap AckOf same
  comes-kept net o (gate {net = read} d in_d is_gate reads from) = comes-kept read o from

  -- ---- each net of m comes from somewhere, and so from where it did

  pub acks-forth : (bank : ℕ) (c : Cell) → AcksBank n bank c → AcksBank m (is.to bank) (moved is.to c)
  acks-forth bank c acks =
      let (r, of_r, on) = acks.2 in
      ((stands c acks.0 (ack-no_rail c acks.1)).0, acks.1, (moved is.to r, bank-forth bank r of_r, pin-forth c A r.out.0 on))

  pub acks-back : (bank : ℕ) (k : ℕ) (d : Cell) → CellAt m k d → AcksBank m bank d → (c : Cell) × (j : ℕ) × CellAt n j c × AcksBank n (is.from bank) c × (is.at j ≡ k) × (d ≡ moved is.to c)
  acks-back bank k d at acks =
      let (c, j, at-c, stood, e) = old-ack d acks.0 acks.1 in
      let (r, of_r, on) = acks.2 in
      let (b, i, at-b, of_n, e-b, same) = bank-back bank r of_r in
      let b-stood = is.stood i b at-b (register-no_rail b of_n.1) in
      let (on-c, kept) = pin-back j c d stood e A r.out.0 on in
      let b-out : is.from r.out.0 ≡ b.out.0 = out-back i b r b-stood e-b in (
        c,
        j,
        at-c,
        (Contains-from_slice_get n.cells j c at-c, ap (λ (z : Cell). z.kind) (sym e) ∙ acks.1, (b, of_n, subst (λ x. OnPin c A x) b-out on-c)),
        same_place m is.is_m (is.at j) k (moved is.to c) d stood.stands at (ap (λ (z : Cell). z.out.0) (sym e)),
        e,
      )

  -- a gate has a pin, and its net is there
  some-pin : (d : Cell) → IsCell m d → IsGate d → (z : NetId) × Contains d.ins.items z
  some-pin d in_d is_gate =
      let fits = cell_fits m is.is_m d in_d in
      let within : 0 < length d.ins.items = let pins = fits.pins in let kind-pins : length (pins_of d.kind) ≡ arity_of is_gate.0 + 1 = ap (λ k. length (pins_of k)) is_gate.1 ∙ pins_of-gate is_gate.0 in let few = arity_of-some is_gate.0 in omega (arith, pins, kind-pins, few) in
      let (z, at) = slice_get-some d.ins.items 0 within in
      (z, Contains-from_slice_get d.ins.items 0 z at)

  pub each-pin : (d : Cell) → IsCell m d → (z : NetId) → Contains d.ins.items z → z.0 < length m.nets
  each-pin d in_d z reads = All-member (λ (net : NetId). net.0 < length m.nets) d.ins.items (cell_fits m is.is_m d in_d).inputs z (Member-from_Contains d.ins.items z reads)

  pub some-origin : (fuel : ℕ) (net : ℕ) → net < length m.nets → is.rank net < fuel → (o : Origin) × ComesFrom m net o
  some-origin zero net lt low = absurd (omega arith)
  some-origin (suc fuel) net lt low =
      elim (driver_of m is.is_m net lt) [
        | inl input ↦ (FromPort, port input)
        | inr (d, in_d, out) ↦ let (o, from) = of_cell (some-origin fuel) d in_d (let less : is.rank d.out.0 < suc fuel = subst (λ x. is.rank x < suc fuel) (sym out) low in less) in (o, subst (λ x. ComesFrom m x o) out from)
      ]
    where
      of_cell : ((z : ℕ) → z < length m.nets → is.rank z < fuel → (o : Origin) × ComesFrom m z o) → (d : Cell) → IsCell m d → is.rank d.out.0 < suc fuel → (o : Origin) × ComesFrom m d.out.0 o
      of_cell below d in_d less =
          elim (sort_of d) [
            | inl is_gate ↦
                let (z, reads) = some-pin d in_d is_gate in
                let within : z.0 < length m.nets = each-pin d in_d z reads in
                elim (driver_of m is.is_m z.0 within) [
                  | inl input ↦ (FromPort, gate d in_d is_gate reads (port input))
                  | inr (b, in_b, b-out) ↦
                      let reads-b : ReadsNet d b.out.0 = subst (λ x. Contains d.ins.items (record { 0 = x })) (sym b-out) reads in
                      let lower : is.rank z.0 < is.rank d.out.0 = subst (λ x. is.rank x < is.rank d.out.0) b-out (is.ranks d b in_d is_gate in_b reads-b) in
                      let (o, from) = below z.0 within (omega (arith, lower, less)) in
                      (o, gate d in_d is_gate reads from)
                ]
            | inr (inl register) ↦ let (request, of_bank) = bank_of_register m is.is_m d in_d register in (RailOf request, rail d of_bank)
            | inr (inr is_ack) ↦
                let (c, k, at, stood, e) = old-ack d in_d is_ack in
                let c-ack : IsAck c = ap (λ (z : Cell). z.kind) (sym e) ∙ is_ack in
                let (request, acks) = bank_of_ack n free c (Contains-from_slice_get n.cells k c at) c-ack in
                (AckOf (is.to request), subst (λ (z : Cell). ComesFrom m z.out.0 (AckOf (is.to request))) (sym e) (ack (moved is.to c) (acks-forth request c acks)))
          ]

  pub comes-forth : (x : ℕ) (o : Origin) → is.from (is.to x) ≡ x → is.to x < length m.nets → ComesFrom n x o → ComesFrom m (is.to x) (origin_forth is.to o)
  comes-forth x o kept within comes =
      let (found, from) = some-origin (suc (is.rank (is.to x))) (is.to x) within (omega arith) in
      let back : ComesFrom n x (origin_back is.from found) = subst (λ y. ComesFrom n y (origin_back is.from found)) kept (comes-back (is.to x) found from) in
      let same : origin_back is.from found ≡ o = (only_origin n is.is_n free x o comes).only (origin_back is.from found) back in
      subst (ComesFrom m (is.to x)) (sym (comes-kept (is.to x) found from) ∙ ap (origin_forth is.to) same) from

  -- ---- rule 2

  path-rises : (x y : ℕ) → LeadsTo m x y → ((d : Cell) → IsCell m d → d.out.0 ≡ x → is.rank x < is.rank y)
  path-rises x y (one c in_c is_gate reads) d in_d out =
      subst (λ z. is.rank z < is.rank c.out.0) out (is.ranks c d in_c is_gate in_d (subst (λ z. Contains c.ins.items (record { 0 = z })) (sym out) reads))
  path-rises x y (more c in_c is_gate reads path) d in_d out =
      let first : is.rank x < is.rank c.out.0 = subst (λ z. is.rank z < is.rank c.out.0) out (is.ranks c d in_c is_gate in_d (subst (λ z. Contains c.ins.items (record { 0 = z })) (sym out) reads)) in
      let rest = path-rises c.out.0 y path c in_c refl in
      omega (arith, first, rest)

  -- ---- rule 1: a port is read by a register cell, which stands

  pub port-read : (net : ℕ) → IsReadPort m net
  port-read net (p, at, input) =
      let at-n : slice_get n.ports net ≡ Some p = ap (λ ports. slice_get ports net) (sym is.ports) ∙ at in
      let (c, in_c, reads) = free.ports_read net (p, at-n, input) in
      let no_rail : IsRailGate n c → ⊥ = λ (is_gate, (bank, comes)). port_apart bank ((only_origin n is.is_n free c.out.0 (RailOf bank) comes).only FromPort (gate c in_c is_gate reads (port (p, at-n, input)))) in
      (moved is.to c, (stands c in_c no_rail).0, subst (λ x. ReadsNet (moved is.to c) x) (is.port_to net (slice_get_within n.ports net p at-n)) (reads-forth c net reads))

  -- ---- what is asked of ports, requests and readers

  pub port-kept : (net : ℕ) (p : Port) → slice_get n.ports net ≡ Some p → is.to net ≡ net
  port-kept net p at = is.port_to net (slice_get_within n.ports net p at)

  pub input-forth : (net : ℕ) → IsInputPort n net → IsInputPort m (is.to net)
  input-forth net (p, at, input) = (p, ap (slice_get m.ports) (port-kept net p at) ∙ ap (λ ports. slice_get ports net) is.ports ∙ at, input)

  pub output-forth : (net : ℕ) → IsOutputPort n net → IsOutputPort m (is.to net)
  output-forth net (p, at, output) = (p, ap (slice_get m.ports) (port-kept net p at) ∙ ap (λ ports. slice_get ports net) is.ports ∙ at, output)

  pub only-forth : (x : ℕ) (o : Origin) → is.from (is.to x) ≡ x → is.to x < length m.nets → ComesFrom n x o → HasOnlyOrigin m (is.to x) (origin_forth is.to o)
  only-forth x o kept within comes = record {
    comes = comes-forth x o kept within comes;
    only = λ other also.
        let back : ComesFrom n x (origin_back is.from other) = subst (λ y. ComesFrom n y (origin_back is.from other)) kept (comes-back (is.to x) other also) in
        sym (comes-kept (is.to x) other also) ∙ ap (origin_forth is.to) ((only_origin n is.is_n free x o comes).only (origin_back is.from other) back);
  }

  pub out-within : (d : Cell) → IsCell m d → d.out.0 < length m.nets
  out-within d in_d = (cell_fits m is.is_m d in_d).output

  pub pin-within : (d : Cell) → IsCell m d → (pin y : ℕ) → OnPin d pin y → y < length m.nets
  pin-within d in_d pin y on = each-pin d in_d (record { 0 = y }) (Contains-from_slice_get d.ins.items pin (record { 0 = y }) on)

  -- ---- rule 5

  pub tied : (d : Cell) → IsCell m d → IsTied m d
  tied d in_d request sort comes =
      let (i, at) = place_of m d in_d in
      elim (is.each i d at) [
        | inl old ↦
            let c = old.cell in
            let in_c : IsCell n c = Contains-from_slice_get n.cells old.place c old.in_n in
            let stood = is.stood old.place c old.in_n old.no_rail in
            let back : ComesFrom n c.out.0 (AckOf (is.from request)) = subst (λ x. ComesFrom n x (AckOf (is.from request))) (out-back old.place c d stood old.is) (comes-back d.out.0 (AckOf request) comes) in
            let out : is.to c.out.0 ≡ d.out.0 = ap (λ (z : Cell). z.out.0) (sym old.is) in
            let sort-n : IsAck c ⊎ IsGate c = elim sort [ inl a ↦ inl (ap (λ (z : Cell). z.kind) (sym old.is) ∙ a) | inr g ↦ inr (g.0, ap (λ (z : Cell). z.kind) (sym old.is) ∙ g.1) ] in
            elim (free.tied old.place c old.in_n (is.from request) sort-n back) [
              | inl (g, in_g, is_gate, reads) ↦
                  let no_rail : IsRailGate n g → ⊥ = λ (also, (bank, from)).
                  kind-apart bank (is.from request) ((only_origin n is.is_n free g.out.0 (RailOf bank) from).only (AckOf (is.from request)) (gate g in_g is_gate reads back)) in
                  inl (moved is.to g, (stands g in_g no_rail).0, is_gate, subst (λ x. ReadsNet (moved is.to g) x) out (reads-forth g c.out.0 reads))
              | inr (inl (r, of_bank)) ↦ inr (inl (moved is.to r, subst (λ x. IsOfBank m x (moved is.to r)) out (bank-forth c.out.0 r of_bank)))
              | inr (inr shown) ↦ inr (inr (subst (IsOutputPort m) out (output-forth c.out.0 shown)))
            ]
        | inr thin ↦
            let out : is.from d.out.0 ≡ thin.old.out.0 = ap (λ (z : NetId). is.from z.0) thin.out ∙ thin.kept in
            let back : ComesFrom n thin.old.out.0 (AckOf (is.from request)) = subst (λ x. ComesFrom n x (AckOf (is.from request))) out (comes-back d.out.0 (AckOf request) comes) in
            absurd (kind-apart thin.bank (is.from request) ((only_origin n is.is_n free thin.old.out.0 (RailOf thin.bank) thin.comes).only (AckOf (is.from request)) back))
      ]

  -- ---- rule 4

  first-back : (request : ℕ) (first : Cell) → IsFirstOfBank m request first → (f : Cell) × IsFirstOfBank n (is.from request) f × (first ≡ moved is.to f) × ((k : ℕ) × CellAt n k f)
  first-back request first is_first =
      let (f, k, at, of_n, e, same) = bank-back request first is_first.of_bank in
      let stood = is.stood k f at (register-no_rail f of_n.1) in
      let here-k : is.at k ≡ is_first.place = same_place m is.is_m (is.at k) is_first.place (moved is.to f) first stood.stands is_first.at (ap (λ (z : Cell). z.out.0) (sym e)) in (
        f,
        record {
          place = k;
          at = at;
          of_bank = of_n;
          first = λ j other before at-j of_other.
              let lower : is.at j < is.at k = is.rises j k other f at-j at (register-no_rail other of_other.1) (register-no_rail f of_n.1) before in
              is_first.first (is.at j) (moved is.to other) (subst (λ x. is.at j < x) here-k lower) (is.stood j other at-j (register-no_rail other of_other.1)).stands (subst (λ x. IsOfBank m x (moved is.to other)) same (bank-forth (is.from request) other of_other));
        },
        e,
        (k, at),
      )

  -- a bank that is reset to DATA was so
  pub data-back : (bank : ℕ) → IsDataBank m bank → IsDataBank n (is.from bank)
  data-back bank (d, of_bank, data_is) =
      let (c, k, at, of_n, e, same) = bank-back bank d of_bank in
      (c, of_n, ap (λ (z : Cell). is_data_register z.kind) (sym e) ∙ data_is)

  pub unmixed : (d : Cell) → IsCell m d → IsUnmixed m d
  unmixed d in_d = record { gate = of-gate; register = of-register; ack = of-ack }
    where
      of-gate : (kind : Kind) → d.kind ≡ Gate kind → IsGateOfOne m kind d
      of-gate kind e =
          let (i, at) = place_of m d in_d in
          elim (is.each i d at) [
            | inl old ↦
                let c = old.cell in
                let stood = is.stood old.place c old.in_n old.no_rail in
                let out : is.to c.out.0 ≡ d.out.0 = ap (λ (z : Cell). z.out.0) (sym old.is) in
                let within : is.to c.out.0 < length m.nets = subst (λ x. x < length m.nets) (sym out) (out-within d in_d) in
                elim ((free.unmixed old.place c old.in_n).gate kind (ap (λ (z : Cell). z.kind) (sym old.is) ∙ e)) [
                  | inl (bank, only) ↦ absurd (old.no_rail ((kind, ap (λ (z : Cell). z.kind) (sym old.is) ∙ e), (bank, only.comes)))
                  | inr (bank, only, tree) ↦ inr (is.to bank, subst (λ x. HasOnlyOrigin m x (AckOf (is.to bank))) out (only-forth c.out.0 (AckOf bank) stood.out within only.comes), tree)
                ]
            | inr thin ↦
                let out : is.to thin.old.out.0 ≡ d.out.0 = ap (λ (z : NetId). z.0) (sym thin.out) in
                let within : is.to thin.old.out.0 < length m.nets = subst (λ x. x < length m.nets) (sym out) (out-within d in_d) in
                inl (is.to thin.bank, subst (λ x. HasOnlyOrigin m x (RailOf (is.to thin.bank))) out (only-forth thin.old.out.0 (RailOf thin.bank) thin.kept within thin.comes))
          ]

      of-register : IsRegister d → IsRegisterOfOne m d
      of-register register =
          let (c, k, at, stood, e) = old-register d in_d register in
          let was = (free.unmixed k c at).register (ap (λ (z : Cell). is_register z.kind) (sym e) ∙ register) in
          record {
            reset = λ y on.
                let (on-c, same) = pin-back k c d stood e RST y on in
                subst (IsInputPort m) same (input-forth (is.from y) (was.reset (is.from y) on-c));
            request = λ y on.
                let (on-c, same) = pin-back k c d stood e B y on in
                elim (was.request (is.from y) on-c) [
                  | inl input ↦ inl (subst (IsInputPort m) same (input-forth (is.from y) input))
                  | inr (bank, only) ↦ inr (is.to bank, subst (λ x. HasOnlyOrigin m x (AckOf (is.to bank))) same (only-forth (is.from y) (AckOf bank) (ap is.from same) (subst (λ x. x < length m.nets) (sym same) (pin-within d in_d B y on)) only.comes))
                ];
            rail = λ y on.
                let (on-c, same) = pin-back k c d stood e A y on in
                elim (was.rail (is.from y) on-c) [
                  | inl input ↦ inl (subst (IsInputPort m) same (input-forth (is.from y) input))
                  | inr (bank, only) ↦ inr (is.to bank, subst (λ x. HasOnlyOrigin m x (RailOf (is.to bank))) same (only-forth (is.from y) (RailOf bank) (ap is.from same) (subst (λ x. x < length m.nets) (sym same) (pin-within d in_d A y on)) only.comes))
                ];
            bank = λ request net first_net first on-b is_first on-a first-on-a.
                let (f, first-n, first-e, (j, at-f)) = first-back request first is_first in
                let f-stood = is.stood j f at-f (register-no_rail f first-n.of_bank.1) in
                let (on-b-c, same-b) = pin-back k c d stood e B request on-b in
                let (on-a-c, same-a) = pin-back k c d stood e A net on-a in
                let (on-a-f, same-f) = pin-back j f first f-stood first-e A first_net first-on-a in
                let origins = was.bank (is.from request) (is.from net) (is.from first_net) f on-b-c first-n on-a-c on-a-f in
                let lt-a = pin-within d in_d A net on-a in
                let lt-f = pin-within first (is_first.of_bank.0) A first_net first-on-a in
                record {
                  to = λ o from. over (is.from net) (is.from first_net) net first_net same-a same-f refl refl lt-f origins.to o from;
                  from = λ o from. over (is.from first_net) (is.from net) first_net net same-f same-a refl refl lt-a origins.from o from;
                };
          }
        where
          over : (x y x' y' : ℕ) → is.to x ≡ x' → is.to y ≡ y' → is.from x' ≡ x → is.from y' ≡ y → y' < length m.nets → ((o : Origin) → ComesFrom n x o → ComesFrom n y o) → (o : Origin) → ComesFrom m x' o → ComesFrom m y' o
          over x y x' y' ex ey back-x back-y within same o from =
              let there : ComesFrom n x (origin_back is.from o) = subst (λ z. ComesFrom n z (origin_back is.from o)) back-x (comes-back x' o from) in
              let kept : is.from (is.to y) ≡ y = ap is.from ey ∙ back-y in
              let over-there : ComesFrom m (is.to y) (origin_forth is.to (origin_back is.from o)) = comes-forth y (origin_back is.from o) kept (subst (λ z. z < length m.nets) (sym ey) within) (same (origin_back is.from o) there) in
              subst (λ z. ComesFrom m z o) ey (subst (ComesFrom m (is.to y)) (comes-kept x' o from) over-there)

      of-ack : IsAck d → IsAckOfOne m d
      of-ack is_ack request acks has_data =
          let (i, at-d) = place_of m d in_d in
          let (c, k, at, acks-n, place, e) = acks-back request i d at-d acks in
          let (r, in_r, data_is, reads) = (free.unmixed k c at).ack acks-n.1 (is.from request) acks-n (data-back request has_data) in
          (moved is.to r, (stands r in_r (register-no_rail r (data_is_register r.kind data_is))).0, data_is, subst (λ (z : Cell). ReadsNet z (is.to r.out.0)) (sym e) (reads-forth c r.out.0 reads))

  -- ---- rule 3

  gate_pins : (c : Cell) (net : ℕ) → plain_test c ≡ false → ack_pins_of c.kind net c.ins.items ≡ 0
  gate_pins c net fails = by_kind c.kind fails
    where
      by_kind : (kind : CellKind) → not (is_gate kind) ≡ false → ack_pins_of kind net c.ins.items ≡ 0
      by_kind (Gate kind) fails = refl
      by_kind other fails = absurd (both_ways true fails refl)

  plain_no_rail : (c : Cell) → plain_test c ≡ true → IsRailGate n c → ⊥
  plain_no_rail c passes ((kind, is_gate_c), comes) = both_ways (not (is_gate c.kind)) (ap (λ k. not (is_gate k)) is_gate_c) passes

  moved_pins : (x : ℕ) → is.from (is.to x) ≡ x → (c : Cell) → Member c (filter plain_test n.cells) → ack_pins_of (moved is.to c).kind (is.to x) (moved is.to c).ins.items ≡ ack_pins_of c.kind x c.ins.items
  moved_pins x kept c m =
      let (among, passes) = member_of_filter plain_test c n.cells m in
      let pins = (stands c (Contains-from_Member c among) (plain_no_rail c passes)).2 in
      by_kind c.kind (count_of_map (λ (z : NetId). z.0 == is.to x) (renamed_net is.to) (λ (z : NetId). z.0 == x) c.ins.items (λ z o. same-number is.to is.from z.0 x (pins z (Contains-from_Member z o)) kept))
    where
      by_kind : (kind : CellKind) → pins_with (is.to x) (map (renamed_net is.to) c.ins.items) ≡ pins_with x c.ins.items → ack_pins_of kind (is.to x) (map (renamed_net is.to) c.ins.items) ≡ ack_pins_of kind x c.ins.items
      by_kind Ack same = same
      by_kind other same = refl

  ack-pins-same : (x : ℕ) → is.from (is.to x) ≡ x → ack_pins m (is.to x) ≡ ack_pins n x
  ack-pins-same x kept =
      sum_of_passing (λ (c : Cell). ack_pins_of c.kind (is.to x) c.ins.items) plain_test m.cells (λ c fails. gate_pins c (is.to x) fails)
      ∙ ap (sum_by (λ (c : Cell). ack_pins_of c.kind (is.to x) c.ins.items)) is.plain
      ∙ sum_by-map (λ (c : Cell). ack_pins_of c.kind (is.to x) c.ins.items) (moved is.to) (filter plain_test n.cells)
      ∙ sum-same (λ (c : Cell). ack_pins_of (moved is.to c).kind (is.to x) (moved is.to c).ins.items) (λ (c : Cell). ack_pins_of c.kind x c.ins.items) (filter plain_test n.cells) (moved_pins x kept)
      ∙ sym (sum_of_passing (λ (c : Cell). ack_pins_of c.kind x c.ins.items) plain_test n.cells (λ c fails. gate_pins c x fails))

  pub paired : (d : Cell) → IsCell m d → IsPaired m d
  paired d in_d = record {
    register = λ register.
        let (c, k, at, stood, e) = old-register d in_d register in
        let was = (free.paired k c at).register (ap (λ (z : Cell). is_register z.kind) (sym e) ∙ register) in
        subst (λ x. ack_pins m x ≡ 1) (ap (λ (z : Cell). z.out.0) (sym e)) (ack-pins-same c.out.0 stood.out ∙ was);
    ack = λ is_ack.
        let (c, k, at, stood, e) = old-ack d in_d is_ack in
        let was = (free.paired k c at).ack (ap (λ (z : Cell). z.kind) (sym e) ∙ is_ack) in
        let kept : (r : Cell) → IsOfBank n was.request r → is.from (is.to r.out.0) ≡ r.out.0 = λ r of_r. (stands r of_r.0 (register-no_rail r of_r.1)).1 in
        record {
          request = is.to was.request;
          zero = moved is.to was.zero;
          one = moved is.to was.one;
          zero_of = bank-forth was.request was.zero was.zero_of;
          one_of = bank-forth was.request was.one was.one_of;
          on_a = subst (λ (z : Cell). OnPin z A (is.to was.zero.out.0)) (sym e) (pin-forth c A was.zero.out.0 was.on_a);
          on_b = subst (λ (z : Cell). OnPin z B (is.to was.one.out.0)) (sym e) (pin-forth c B was.one.out.0 was.on_b);
          differ = λ same. was.differ (sym (kept was.zero was.zero_of) ∙ ap is.from same ∙ kept was.one was.one_of);
          few_data = was.few_data;
        };
  }

  -- ---- all five

  pub free-thinned : IsFree m
  free-thinned = record {
    ports_read = port-read;
    off_cycles = λ k d at is_gate path. let up = path-rises d.out.0 d.out.0 path d (Contains-from_slice_get m.cells k d at) refl in omega (arith, up);
    paired = λ k d at. paired d (Contains-from_slice_get m.cells k d at);
    unmixed = λ k d at. unmixed d (Contains-from_slice_get m.cells k d at);
    tied = λ k d at. tied d (Contains-from_slice_get m.cells k d at);
  }
