-- A thinned netlist has a shape: the same banks in the chain that they formed, with the stages that those of the netlist have
-- become.
use Rattle.ncl_merge.proofs.Terms.{A, AckOf, AcksBank, AllZip, AreBitsOf, AreInputsOf, AreRailsOf, B, Bank, BankBit, Cell, CellAt, ChainedRequests, ComesFrom, Contains, Contains-from_Member, Contains-from_slice_get, Follows, FromPort, HasEnds, HasOne, HasOneRole, HasOnlyOrigin, HasRoots, IsAcknowledged, IsBank, IsBankOf, IsBitOf, IsCell, IsChain, IsChained, IsClosed, IsFirstBank, IsFree, IsInputOf, IsInputPort, IsLastBank, IsOfBank, IsOutputPort, IsPath, IsRailGate, IsRequest, IsRoot, IsStageOf, IsStood, IsThinStage, IsThinned, IsUnforked, List, MOST_BITS, Member, Member-from_Contains, Member-map, NetId, NetlistData, NoFork, None, OnPin, OnPinNamed, OneChain, OneRoleEach, OneRootEach, PipelineData, RailOf, Rails, Shape, ShownOutputs, Some, SomeRegister, StageData, TwoEnds, WordsApart, [], ap, arith, at_map, at_of_map, banks_of_chain, driver_of_ack, end, get_or, get_or-map, here, inl, inr, is_gate, length, length-map, map, moved, moved_bank, moved_bit, moved_pipeline, next, only_origin, pins_of, place_of, port, refl, renamed_net, renamed_rails, request_at, same_cell, slice_get, slice_get-from_Contains, slice_get-get_or, slice_get-some, slice_get_within, subst, sym, there, ℕ, ◌+◌, ◌<◌, ◌∙◌, ◌∷◌, ◌≡◌, ◌≤◌, ◌⊎◌}
pub use Rattle.ncl_merge.proofs.Thinned.{stands, port_apart, ack-no_rail, acks-back, acks-forth, bank-back, bank-forth, comes-back, comes-forth, data-back, free-thinned, input-back, input-forth, kind-apart, only-forth, out-back, out-within, output-back, output-forth, pin-back, pin-forth, pin-within, register-no_rail}

-- ---- the chain of banks

module _ (n m : NetlistData) (is : IsThinned n m) (free : IsFree n) where
  -- ---- banks

  pub bank-kept : (bank : ℕ) → IsBank n bank → is.from (is.to bank) ≡ bank
  bank-kept bank (c, of_bank) =
      (stands n m is free c of_bank.0 (register-no_rail n m is free c of_bank.1)).2 (record { 0 = bank }) (Contains-from_slice_get c.ins.items B (record { 0 = bank }) of_bank.2)

  is_bank-forth : (bank : ℕ) → IsBank n bank → IsBank m (is.to bank)
  is_bank-forth bank (c, of_bank) = (moved is.to c, bank-forth n m is free bank c of_bank)

  is_bank-back : (bank : ℕ) → IsBank m bank → IsBank n (is.from bank) × (is.to (is.from bank) ≡ bank)
  is_bank-back bank (d, of_bank) = let (c, k, at, of_n, e, same) = bank-back n m is free bank d of_bank in ((c, of_n), same)

  input_of-forth : (bank net : ℕ) → IsInputOf n bank net → IsInputOf m (is.to bank) (is.to net) × (is.from (is.to net) ≡ net)
  input_of-forth bank net (c, of_bank, on) =
      let pins = (stands n m is free c of_bank.0 (register-no_rail n m is free c of_bank.1)).2 in
      ((moved is.to c, bank-forth n m is free bank c of_bank, pin-forth n m is free c A net on), pins (record { 0 = net }) (Contains-from_slice_get c.ins.items A (record { 0 = net }) on))

  input_of-back : (bank net : ℕ) → IsInputOf m bank net → IsInputOf n (is.from bank) (is.from net) × (is.to (is.from net) ≡ net)
  input_of-back bank net (d, of_bank, on) =
      let (c, k, at, of_n, e, same) = bank-back n m is free bank d of_bank in
      let (on-c, kept) = pin-back n m is free k c d (is.stood k c at (register-no_rail n m is free c of_n.1)) e A net on in
      ((c, of_n, on-c), kept)

  first-forth : (bank : ℕ) → IsFirstBank n bank → IsFirstBank m (is.to bank)
  first-forth bank first = record {
    is_bank = is_bank-forth bank first.is_bank;
    inputs = λ net input.
        let (of_n, kept) = input_of-back (is.to bank) net input in
        subst (IsInputPort m) kept (input-forth n m is free (is.from net) (first.inputs (is.from net) (subst (λ b. IsInputOf n b (is.from net)) (bank-kept bank first.is_bank) of_n)));
  }

  first-back : (bank : ℕ) → IsFirstBank m bank → IsFirstBank n (is.from bank)
  first-back bank first =
      let (of_n, kept) = is_bank-back bank first.is_bank in
      record {
        is_bank = of_n;
        inputs = λ net input.
            let (of_m, back) = input_of-forth (is.from bank) net input in
            subst (IsInputPort n) back (input-back n m is free (is.to net) (first.inputs (is.to net) (subst (λ b. IsInputOf m b (is.to net)) kept of_m)));
      }

  last-forth : (bank : ℕ) → IsLastBank n bank → IsLastBank m (is.to bank)
  last-forth bank last = record { is_bank = is_bank-forth bank last.is_bank; request = input-forth n m is free bank last.request }

  last-back : (bank : ℕ) → IsLastBank m bank → IsLastBank n (is.from bank)
  last-back bank last = record { is_bank = (is_bank-back bank last.is_bank).0; request = input-back n m is free bank last.request }

  follows-forth : (bank following : ℕ) → Follows n bank following → Follows m (is.to bank) (is.to following)
  follows-forth bank following (net, input, comes) =
      let (of_m, kept) = input_of-forth following net input in
      (is.to net, of_m, comes-forth n m is free net (RailOf bank) kept (pin-within n m is free of_m.0 (of_m.1.0) A (is.to net) of_m.2) comes)

  follows-back : (bank following : ℕ) → Follows m bank following → Follows n (is.from bank) (is.from following)
  follows-back bank following (net, input, comes) =
      let (of_n, kept) = input_of-back following net input in
      (is.from net, of_n, comes-back n m is free net (RailOf bank) comes)

  -- one there is one here
  one-forth : (P Q : ℕ → Type 0) → ((x : ℕ) → P x → Q (is.to x)) → ((y : ℕ) → Q y → P (is.from y) × (is.to (is.from y) ≡ y)) → HasOne P → HasOne Q
  one-forth P Q forth back one = record {
    one = is.to one.one;
    is = forth one.one one.is;
    only = λ other also. let (before, kept) = back other also in sym kept ∙ ap is.to (one.only (is.from other) before);
  }

  -- ---- rules 1 to 4

  ends-there : HasEnds n → HasEnds m
  ends-there ends = record {
    first = one-forth (IsFirstBank n) (IsFirstBank m) first-forth (λ y f. (first-back y f, (is_bank-back y f.is_bank).1)) ends.first;
    last = one-forth (IsLastBank n) (IsLastBank m) last-forth (λ y f. (last-back y f, (is_bank-back y f.is_bank).1)) ends.last;
  }

  follower-kept : (bank following : ℕ) → Follows m bank following → is.to (is.from following) ≡ following
  follower-kept bank following (net, (d, of_bank, on), comes) = (is_bank-back following (d, of_bank)).1

  unforked-there : IsUnforked n → IsUnforked m
  unforked-there unforked bank x y to-x to-y =
      sym (follower-kept bank x to-x) ∙ ap is.to (unforked (is.from bank) (is.from x) (is.from y) (follows-back bank x to-x) (follows-back bank y to-y)) ∙ follower-kept bank y to-y

  path-forth : (banks : List ℕ) → IsPath n banks → IsPath m (map is.to banks)
  path-forth [] path = elim path [ ]
  path-forth (bank ∷ []) end = end
  path-forth (bank ∷ following ∷ banks) (next step path) = next (follows-forth bank following step) (path-forth (following ∷ banks) path)

  path-back : (banks : List ℕ) → IsPath m banks → IsPath n (map is.from banks)
  path-back [] path = elim path [ ]
  path-back (bank ∷ []) end = end
  path-back (bank ∷ following ∷ banks) (next step path) = next (follows-back bank following step) (path-back (following ∷ banks) path)

  pub chain-forth : (banks : List ℕ) → IsChain n banks → IsChain m (map is.to banks)
  chain-forth banks chain = record {
    first = λ bank at. let (b, stands, e) = at_of_map is.to banks 0 bank at in subst (IsFirstBank m) e (first-forth b (chain.first b stands));
    path = path-forth banks chain.path;
    every = λ bank is_bank.
        let (of_n, kept) = is_bank-back bank is_bank in
        subst (Contains (map is.to banks)) kept (Contains-from_Member (is.to (is.from bank)) (Member-map is.to (is.from bank) (Member-from_Contains banks (is.from bank) (chain.every (is.from bank) of_n))));
  }

  pub chain-back : (banks : List ℕ) → IsChain m banks → IsChain n (map is.from banks)
  chain-back banks chain = record {
    first = λ bank at. let (b, stands, e) = at_of_map is.from banks 0 bank at in subst (IsFirstBank n) e (first-back b (chain.first b stands));
    path = path-back banks chain.path;
    every = λ bank is_bank.
        subst (Contains (map is.from banks)) (bank-kept bank is_bank) (Contains-from_Member (is.from (is.to bank)) (Member-map is.from (is.to bank) (Member-from_Contains banks (is.to bank) (chain.every (is.to bank) (is_bank-forth bank is_bank)))));
  }

  chain-kept : (banks : List ℕ) → IsChain m banks → (k bank : ℕ) → slice_get banks k ≡ Some bank → (slice_get (map is.from banks) k ≡ Some (is.from bank)) × (is.to (is.from bank) ≡ bank)
  chain-kept banks chain k bank at = (at_map is.from banks k bank at, (is_bank-back bank (banks_of_chain m banks chain k bank at)).1)

  -- ---- rule 5

  acknowledged-there : (banks : List ℕ) → IsChain m banks → IsAcknowledged n (map is.from banks) → IsAcknowledged m banks
  acknowledged-there banks chain acknowledged = record {
    by_next = λ k bank following at after.
        let (at-n, kept) = chain-kept banks chain k bank at in
        let (after-n, kept-next) = chain-kept banks chain (k + 1) following after in
        let only = acknowledged.by_next k (is.from bank) (is.from following) at-n after-n in
        let (d, of_bank) = banks_of_chain m banks chain k bank at in
        let within : is.to (is.from bank) < length m.nets = subst (λ x. x < length m.nets) (sym kept) (pin-within n m is free d of_bank.0 B bank of_bank.2) in
        let there : HasOnlyOrigin m (is.to (is.from bank)) (AckOf (is.to (is.from following))) = only-forth n m is free (is.from bank) (AckOf (is.from following)) (ap is.from kept) within only.comes in
        subst (λ x. HasOnlyOrigin m x (AckOf following)) kept (subst (λ x. HasOnlyOrigin m (is.to (is.from bank)) (AckOf x)) kept-next there);
    by_port = λ k bank last at.
        let (at-n, kept) = chain-kept banks chain k bank at in
        let count : length (map is.from banks) ≡ length banks = length-map banks is.from in
        subst (IsInputPort m) kept (input-forth n m is free (is.from bank) (acknowledged.by_port k (is.from bank) (omega (arith, last, count)) at-n));
  }

  -- ---- rule 6

  ack-kept : (bank net : ℕ) → ComesFrom n net (AckOf bank) → (is.from (is.to net) ≡ net) × (is.to net < length m.nets)
  ack-kept bank net comes =
      let (c, in_c, out, sort) = driver_of_ack n net (AckOf bank) bank refl comes in
      let no_rail : IsRailGate n c → ⊥ = λ (is_gate, (b, from)).
      kind-apart b bank ((only_origin n is.is_n free c.out.0 (RailOf b) from).only (AckOf bank) (subst (λ x. ComesFrom n x (AckOf bank)) (sym out) comes)) in
      let (there_is, kept, pins) = stands n m is free c in_c no_rail in
      (subst (λ x. is.from (is.to x) ≡ x) out kept, subst (λ x. is.to x < length m.nets) out (out-within n m is free (moved is.to c) there_is))

  ack-back : (bank net : ℕ) → ComesFrom m net (AckOf bank) → is.to (is.from net) ≡ net
  ack-back bank net comes =
      let (d, in_d, out, sort) = driver_of_ack m net (AckOf bank) bank refl comes in
      let (i, at) = place_of m d in_d in
      subst (λ x. is.to (is.from x) ≡ x) out (elim (is.each i d at) [
        | inl old ↦ ap is.to (out-back n m is free old.place old.cell d (is.stood old.place old.cell old.in_n old.no_rail) old.is) ∙ ap (λ (z : Cell). z.out.0) (sym old.is)
        | inr thin ↦ ap (λ (z : NetId). is.to (is.from z.0)) thin.out ∙ ap is.to thin.kept ∙ ap (λ (z : NetId). z.0) (sym thin.out)
      ])

  used-forth : (net : ℕ) → IsRequest n net ⊎ IsOutputPort n net → IsRequest m (is.to net) ⊎ IsOutputPort m (is.to net)
  used-forth net (inl request) = inl (is_bank-forth net request)
  used-forth net (inr shown) = inr (output-forth n m is free net shown)

  used-back : (net : ℕ) → IsRequest m net ⊎ IsOutputPort m net → IsRequest n (is.from net) ⊎ IsOutputPort n (is.from net)
  used-back net (inl request) = inl (is_bank-back net request).0
  used-back net (inr shown) = inr (output-back n m is free net shown)

  pub root-forth : (bank net : ℕ) → IsRoot n bank net → IsRoot m (is.to bank) (is.to net)
  root-forth bank net root =
      let (kept, within) = ack-kept bank net root.acks in
      record { acks = comes-forth n m is free net (AckOf bank) kept within root.acks; used = used-forth net root.used }

  pub root-back : (bank net : ℕ) → IsRoot m bank net → IsRoot n (is.from bank) (is.from net)
  root-back bank net root = record { acks = comes-back n m is free net (AckOf bank) root.acks; used = used-back net root.used }

  roots-there : (banks : List ℕ) → IsChain m banks → HasRoots n (map is.from banks) → HasRoots m banks
  roots-there banks chain roots = record {
    one_each = λ bank among.
        let (k, at) = slice_get-from_Contains banks bank among in
        let (at-n, kept) = chain-kept banks chain k bank at in
        let one = roots.one_each (is.from bank) (Contains-from_slice_get (map is.from banks) k (is.from bank) at-n) in
        one-forth (IsRoot n (is.from bank)) (IsRoot m bank) (λ x root. subst (λ b. IsRoot m b (is.to x)) kept (root-forth (is.from bank) x root)) (λ y root. (root-back bank y root, ack-back bank y root.acks)) one;
    first = λ bank root at is_root.
        let (at-n, kept) = chain-kept banks chain 0 bank at in
        subst (IsOutputPort m) (ack-back bank root is_root.acks) (output-forth n m is free (is.from root) (roots.first (is.from bank) (is.from root) at-n (root-back bank root is_root)));
  }

  -- ---- rule 7

  closed-there : (first last : ℕ) → is.to (is.from first) ≡ first → is.to (is.from last) ≡ last → IsClosed n (is.from first) (is.from last) → IsClosed m first last
  closed-there first last kept-first kept-last closed = record {
    shown = λ net shown. elim shown [
      | inl (d, of_bank, out) ↦
          let (c, k, at, of_n, e, same) = bank-back n m is free last d of_bank in
          let stood = is.stood k c at (register-no_rail n m is free c of_n.1) in
          subst (IsOutputPort m) (ap (λ (z : Cell). z.out.0) (sym e) ∙ out) (output-forth n m is free c.out.0 (closed.shown c.out.0 (inl (c, of_n, refl))))
      | inr root ↦ subst (IsOutputPort m) (ack-back first net root.acks) (output-forth n m is free (is.from net) (closed.shown (is.from net) (inr (root-back first net root))))
    ];
    ports = λ net output.
        let (p, at, out) = output in
        let at-n = ap (λ ports. slice_get ports net) (sym is.ports) ∙ at in
        let lt : net < length n.ports = slice_get_within n.ports net p at-n in
        let kept : is.to (is.from net) ≡ net = ap is.to (is.port_from net lt) ∙ is.port_to net lt in
        elim (closed.ports (is.from net) (output-back n m is free net output)) [
          | inl (c, of_bank, out) ↦ inl (moved is.to c, subst (λ b. IsOfBank m b (moved is.to c)) kept-last (bank-forth n m is free (is.from last) c of_bank), ap is.to out ∙ kept)
          | inr root ↦ inr (subst (λ b. IsRoot m b net) kept-first (subst (IsRoot m (is.to (is.from first))) kept (root-forth (is.from first) (is.from net) root)))
        ];
    no_gate = λ d in_d is_gate comes.
        let (i, at) = place_of m d in_d in
        let back = comes-back n m is free d.out.0 (RailOf last) comes in
        elim (is.each i d at) [
          | inl old ↦
              closed.no_gate old.cell (Contains-from_slice_get n.cells old.place old.cell old.in_n) (is_gate.0, ap (λ (z : Cell). z.kind) (sym old.is) ∙ is_gate.1)
              (subst (λ x. ComesFrom n x (RailOf (is.from last))) (out-back n m is free old.place old.cell d (is.stood old.place old.cell old.in_n old.no_rail) old.is) back)
          | inr thin ↦
              closed.no_gate thin.old thin.in_n thin.old_gate
              (subst (λ x. ComesFrom n x (RailOf (is.from last))) (ap (λ (z : NetId). is.from z.0) thin.out ∙ thin.kept) back)
        ];
  }

  -- ---- rule 8

  pin-kept : (d : Cell) → IsCell m d → (pin net : ℕ) → IsInputPort m net → OnPin d pin net → (c : Cell) × IsCell n c × OnPin c pin (is.from net) × (d ≡ moved is.to c)
  pin-kept d in_d pin net input on =
      let (i, at) = place_of m d in_d in
      elim (is.each i d at) [
        | inl old ↦
            let (on-c, kept) = pin-back n m is free old.place old.cell d (is.stood old.place old.cell old.in_n old.no_rail) old.is pin net on in
            (old.cell, Contains-from_slice_get n.cells old.place old.cell old.in_n, on-c, old.is)
        | inr thin ↦
            let (x, z-is, kept, comes) = thin.pins (record { 0 = net }) (Contains-from_slice_get d.ins.items pin (record { 0 = net }) on) in
            let there : ComesFrom n x FromPort = subst (λ y. ComesFrom n y FromPort) (ap is.from z-is ∙ kept) (port (input-back n m is free net input)) in
            absurd (port_apart thin.bank ((only_origin n is.is_n free x (RailOf thin.bank) comes).only FromPort there))
      ]

  named-back : (d : Cell) → IsCell m d → (name : List ℕ) (net : ℕ) → IsInputPort m net → OnPinNamed d name net → (c : Cell) × IsCell n c × OnPinNamed c name (is.from net) × (d ≡ moved is.to c)
  named-back d in_d name net input (pin, named, on) =
      let (c, in_c, on-c, e) = pin-kept d in_d pin net input on in
      (c, in_c, (pin, ap (λ (z : Cell). slice_get (pins_of z.kind) pin) (sym e) ∙ named, on-c), e)

  role-there : ((net : ℕ) → IsInputPort n net → HasOneRole n net) → (net : ℕ) → IsInputPort m net → HasOneRole m net
  role-there roles net input =
      let role = roles (is.from net) (input-back n m is free net input) in
      record {
        one_name = λ c d x y in_c in_d on-c on-d.
            let (a, in_a, on-a, e) = named-back c in_c x net input on-c in
            let (b, in_b, on-b, f) = named-back d in_d y net input on-d in
            role.one_name a b x y in_a in_b on-a on-b;
        one_rail = λ c d in_c in_d on-c on-d.
            let (a, in_a, on-a, e) = pin-kept c in_c A net input on-c in
            let (b, in_b, on-b, f) = pin-kept d in_d A net input on-d in
            e ∙ ap (moved is.to) (role.one_rail a b in_a in_b on-a on-b) ∙ sym f;
      }

  -- ---- all of them

  pub chained-thinned : IsChained n → IsChained m
  chained-thinned chained SomeRegister = let (c, in_c, register) = chained SomeRegister in (moved is.to c, (stands n m is free c in_c (register-no_rail n m is free c register)).0, register)
  chained-thinned chained TwoEnds = ends-there (chained TwoEnds)
  chained-thinned chained NoFork = unforked-there (chained NoFork)
  chained-thinned chained OneChain = let (banks, chain) = chained OneChain in (map is.to banks, chain-forth banks chain)
  chained-thinned chained ChainedRequests = λ banks chain. acknowledged-there banks chain (chained ChainedRequests (map is.from banks) (chain-back banks chain))
  chained-thinned chained OneRootEach = λ banks chain. roots-there banks chain (chained OneRootEach (map is.from banks) (chain-back banks chain))
  chained-thinned chained ShownOutputs = λ banks first last chain head (k, count, at).
      let (head-n, kept-first) = chain-kept banks chain 0 first head in
      let (at-n, kept-last) = chain-kept banks chain k last at in
      let same : length (map is.from banks) ≡ length banks = length-map banks is.from in
      closed-there first last kept-first kept-last (chained ShownOutputs (map is.from banks) (is.from first) (is.from last) (chain-back banks chain) head-n (k, omega (arith, count, same), at-n))
  chained-thinned chained OneRoleEach = role-there (chained OneRoleEach)
  chained-thinned chained WordsApart = λ bank following follows data_is data_next.
      chained WordsApart (is.from bank) (is.from following) (follows-back bank following follows) (data-back n m is free bank data_is) (data-back n m is free following data_next)

-- ---- the shape

-- zipped lists to which functions were applied
zip-map : {X Y X' Y' : Type 0} (R : X → Y → Type 0) (Q : X' → Y' → Type 0) (f : X → X') (g : Y → Y') (xs : List X) (ys : List Y) → ((x : X) (y : Y) → Member x xs → R x y → Q (f x) (g y)) → AllZip R xs ys → AllZip Q (map f xs) (map g ys)
zip-map R Q f g [] [] each zip = tt
zip-map R Q f g (x ∷ xs) (y ∷ ys) each zip = (each x y here zip.0, zip-map R Q f g xs ys (λ a b m. each a b (there m)) zip.1)
zip-map R Q f g xs ys each zip = absurd zip

module _ (n m : NetlistData) (is : IsThinned n m) (free : IsFree n) where
  -- ---- bits and banks

  stood-register : (bank k : ℕ) (c : Cell) → CellAt n k c → IsOfBank n bank c → IsStood m is.to is.from is.at k c
  stood-register bank k c at of_bank = is.stood k c at (register-no_rail n m is free c of_bank.1)

  stood-at : (bank k : ℕ) (c d : Cell) → CellAt n k c → IsOfBank n bank c → CellAt m (is.at k) d → moved is.to c ≡ d
  stood-at bank k c d at of_bank at-d = same_cell m (is.at k) (is.at k) (moved is.to c) d refl (stood-register bank k c at of_bank).stands at-d

  bit-there : (bank : ℕ) (b : BankBit) → IsBitOf n bank b → IsBitOf m (is.to bank) (moved_bit is.at b)
  bit-there bank b is_bit = record {
    ack = moved is.to is_bit.ack;
    zero = moved is.to is_bit.zero;
    one = moved is.to is_bit.one;
    ack_at = (is.stood b.ack.0 is_bit.ack is_bit.ack_at (ack-no_rail n m is free is_bit.ack is_bit.acks.1)).stands;
    zero_at = (stood-register bank b.rail0.0 is_bit.zero is_bit.zero_at is_bit.zero_of).stands;
    one_at = (stood-register bank b.rail1.0 is_bit.one is_bit.one_at is_bit.one_of).stands;
    acks = acks-forth n m is free bank is_bit.ack is_bit.acks;
    zero_of = bank-forth n m is free bank is_bit.zero is_bit.zero_of;
    one_of = bank-forth n m is free bank is_bit.one is_bit.one_of;
    on_a = pin-forth n m is free is_bit.ack A is_bit.zero.out.0 is_bit.on_a;
    on_b = pin-forth n m is free is_bit.ack B is_bit.one.out.0 is_bit.on_b;
    start = is_bit.start;
  }

  bits-there : (bank : ℕ) → is.from (is.to bank) ≡ bank → (bits : List BankBit) → AreBitsOf n bank bits → AreBitsOf m (is.to bank) (map (moved_bit is.at) bits)
  bits-there bank kept bits are = record {
    each = λ k b at. let (old, stands, e) = at_of_map (moved_bit is.at) bits k b at in subst (IsBitOf m (is.to bank)) e (bit-there bank old (are.each k old stands));
    in_order = λ i j d before lt.
        let count : length (map (moved_bit is.at) bits) ≡ length bits = length-map bits (moved_bit is.at) in
        let j-in : j < length bits = omega (arith, lt, count) in
        let i-in : i < length bits = omega (arith, before, j-in) in
        let x = get_or bits i no_bit in
        let y = get_or bits j no_bit in
        let x-is = are.each i x (slice_get-get_or bits i no_bit i-in) in
        let y-is = are.each j y (slice_get-get_or bits j no_bit j-in) in
        let lower = is.rises x.ack.0 y.ack.0 x-is.ack y-is.ack x-is.ack_at y-is.ack_at (ack-no_rail n m is free x-is.ack x-is.acks.1) (ack-no_rail n m is free y-is.ack y-is.acks.1) (are.in_order i j no_bit before j-in) in
        subst (λ (b : BankBit). b.ack.0 < (get_or (map (moved_bit is.at) bits) j d).ack.0) (sym (get_or-map (moved_bit is.at) bits i no_bit d i-in))
        (subst (λ (b : BankBit). is.at x.ack.0 < b.ack.0) (sym (get_or-map (moved_bit is.at) bits j no_bit d j-in)) lower);
    every = λ k d at acks.
        let (c, j, at-c, of_n, place, e-c) = acks-back n m is free (is.to bank) k d at acks in
        let (b, among, e) = are.every j c at-c (subst (λ x. AcksBank n x c) kept of_n) in
        (moved_bit is.at b, Contains-from_Member (moved_bit is.at b) (Member-map (moved_bit is.at) b (Member-from_Contains bits b among)), ap is.at e ∙ place);
  }
    where
      no_bit : BankBit
      no_bit = record { rail0 = record { 0 = 0 }; rail1 = record { 0 = 0 }; ack = record { 0 = 0 }; start = None }

  bank-there : (b : Bank) → is.from (is.to b.request.0) ≡ b.request.0 → IsBankOf n b.request.0 b → IsBankOf m (is.to b.request.0) (moved_bank is.to is.at b)
  bank-there b kept is_bank = record {
    request = refl;
    root = root-forth n m is free b.request.0 b.root.0 is_bank.root;
    bits = bits-there b.request.0 kept b.bits is_bank.bits;
  }

  -- ---- rails

  -- pairs of nets that are told by bits are told there, where those of each bit are
  pairs-there : (Tells : NetlistData → BankBit → Rails → Type 0) → ((bank : ℕ) (b : BankBit) → IsBitOf n bank b → (r : Rails) → Tells n b r → Tells m (moved_bit is.at b) (renamed_rails is.to r))
      → (bank : ℕ) (bits : List BankBit) → AreBitsOf n bank bits → (rails : List Rails) → AllZip (Tells n) bits rails → AllZip (Tells m) (map (moved_bit is.at) bits) (map (renamed_rails is.to) rails)
  pairs-there Tells each bank bits are rails =
      zip-map (Tells n) (Tells m) (moved_bit is.at) (renamed_rails is.to) bits rails (λ b r among known.
      let (k, at) = slice_get-from_Contains bits b (Contains-from_Member b among) in
      each bank b (are.each k b at) r known)

  rails-there : (bank : ℕ) (bits : List BankBit) → AreBitsOf n bank bits → (rails : List Rails) → AllZip (AreRailsOf n) bits rails → AllZip (AreRailsOf m) (map (moved_bit is.at) bits) (map (renamed_rails is.to) rails)
  rails-there = pairs-there AreRailsOf (λ bank b bit r known. record {
    zero = λ d at-d.
        ap (λ (z : Cell). z.out) (sym (stood-at bank b.rail0.0 bit.zero d bit.zero_at bit.zero_of at-d))
        ∙ ap (renamed_net is.to) (known.zero bit.zero bit.zero_at);
    one = λ d at-d.
        ap (λ (z : Cell). z.out) (sym (stood-at bank b.rail1.0 bit.one d bit.one_at bit.one_of at-d))
        ∙ ap (renamed_net is.to) (known.one bit.one bit.one_at);
  })

  inputs-there : (bank : ℕ) (bits : List BankBit) → AreBitsOf n bank bits → (rails : List Rails) → AllZip (AreInputsOf n) bits rails → AllZip (AreInputsOf m) (map (moved_bit is.at) bits) (map (renamed_rails is.to) rails)
  inputs-there = pairs-there AreInputsOf (λ bank b bit r known. record {
    zero = λ d at-d.
        subst (λ (z : Cell). OnPin z A (is.to r.zero.0)) (stood-at bank b.rail0.0 bit.zero d bit.zero_at bit.zero_of at-d)
        (pin-forth n m is free bit.zero A r.zero.0 (known.zero bit.zero bit.zero_at));
    one = λ d at-d.
        subst (λ (z : Cell). OnPin z A (is.to r.one.0)) (stood-at bank b.rail1.0 bit.one d bit.one_at bit.one_of at-d)
        (pin-forth n m is free bit.one A r.one.0 (known.one bit.one bit.one_at));
  })

  -- ---- stages

  -- the net of a rail gate of n that m still drives
  stage-there : (b following : Bank) (s t : StageData) → is.from (is.to b.request.0) ≡ b.request.0 → AreBitsOf n b.request.0 b.bits → AreBitsOf n following.request.0 following.bits → IsStageOf n b following s → IsThinStage m is.to is.from s t → IsStageOf m (moved_bank is.to is.at b) (moved_bank is.to is.at following) t
  stage-there b following s t kept bits next-bits was thin = record {
    is_stage = thin.is_stage;
    inputs = subst (AllZip (AreRailsOf m) (map (moved_bit is.at) b.bits)) (sym thin.inputs) (rails-there b.request.0 b.bits bits s.inputs was.inputs);
    outputs = subst (AllZip (AreInputsOf m) (map (moved_bit is.at) following.bits)) (sym thin.outputs) (inputs-there following.request.0 following.bits next-bits s.outputs was.outputs);
    each = λ k g at.
        let (d, at-d, kind, ins, out, (old, among, same, old-kept)) = thin.gates g (Contains-from_slice_get t.cells k g at) in
        let (j, at-old) = slice_get-from_Contains s.cells old among in
        let gate = was.each j old at-old in
        record {
          cell = d;
          at = at-d;
          kind = kind;
          ins = ins;
          out = out;
          reads = rail-there b.request.0 d (Contains-from_slice_get m.cells g.cell.0 d at-d) old.out.0 (ap (λ (x : NetId). x.0) (out ∙ same)) old-kept (subst (λ (x : NetId). ComesFrom n x.0 (RailOf b.request.0)) gate.out gate.reads);
        };
    every = λ k kind d at e comes.
        let in_d : IsCell m d = Contains-from_slice_get m.cells k d at in
        let back : ComesFrom n (is.from d.out.0) (RailOf b.request.0) = subst (λ x. ComesFrom n (is.from d.out.0) (RailOf x)) kept (comes-back n m is free d.out.0 (RailOf (is.to b.request.0)) comes) in
        elim (is.each k d at) [
          | inl old ↦
              absurd (old.no_rail ((kind, ap (λ (z : Cell). z.kind) (sym old.is) ∙ e), (b.request.0, subst (λ x. ComesFrom n x (RailOf b.request.0)) (out-back n m is free old.place old.cell d (is.stood old.place old.cell old.in_n old.no_rail) old.is) back)))
          | inr gate ↦
              let from-old : is.from d.out.0 ≡ gate.old.out.0 = ap (λ (z : NetId). is.from z.0) gate.out ∙ gate.kept in
              let (j, at-old) = place_of n gate.old gate.in_n in
              let (g, among, number) = was.every j gate.old_gate.0 gate.old at-old gate.old_gate.1 (subst (λ x. ComesFrom n x (RailOf b.request.0)) from-old back) in
              let (i, at-g) = slice_get-from_Contains s.cells g among in
              let known = was.each i g at-g in
              let same : known.cell ≡ gate.old = same_cell n g.cell.0 j known.cell gate.old number known.at at-old in
              let outs : gate.old.out ≡ g.out = ap (λ (z : Cell). z.out) (sym same) ∙ known.out in
              thin.every k kind d at e g among (ap (λ (z : NetId). z.0) (gate.out ∙ ap (renamed_net is.to) outs))
        ];
  }
    where
      rail-there : (bank : ℕ) (d : Cell) → IsCell m d → (x : ℕ) → d.out.0 ≡ is.to x → is.from (is.to x) ≡ x → ComesFrom n x (RailOf bank) → ComesFrom m d.out.0 (RailOf (is.to bank))
      rail-there bank d in_d x out kept comes =
          subst (λ y. ComesFrom m y (RailOf (is.to bank))) (sym out) (comes-forth n m is free x (RailOf bank) kept (subst (λ y. y < length m.nets) out (out-within n m is free d in_d)) comes)

  -- ---- the pipeline

  requests-moved : (banks : List Bank) → map is.to (map (λ (b : Bank). b.request.0) banks) ≡ map (λ (b : Bank). b.request.0) (map (moved_bank is.to is.at) banks)
  requests-moved [] = refl
  requests-moved (b ∷ banks) = ap (λ rest. is.to b.request.0 ∷ rest) (requests-moved banks)

  module _ (p : PipelineData) (shape : Shape n p) where
    bank-at : (k : ℕ) (b : Bank) → slice_get p.banks k ≡ Some b → is.from (is.to b.request.0) ≡ b.request.0
    bank-at k b at = bank-kept n m is free b.request.0 (banks_of_chain n (map (λ (b : Bank). b.request.0) p.banks) shape.chain k b.request.0 (request_at p.banks k b at))

    pub shape-there : (stages : List StageData) → length stages ≡ length p.stages → ((k : ℕ) (s t : StageData) → slice_get p.stages k ≡ Some s → slice_get stages k ≡ Some t → IsThinStage m is.to is.from s t) → Shape m (moved_pipeline m is.to is.at p stages)
    shape-there stages count thin = record {
      is_netlist = is.is_m;
      netlist = refl;
      free = free-thinned n m is free;
      chained = chained-thinned n m is free shape.chained;
      chain = subst (IsChain m) (requests-moved p.banks) (chain-forth n m is free (map (λ (b : Bank). b.request.0) p.banks) shape.chain);
      banks = λ k b at.
          let (old, stands, e) = at_of_map (moved_bank is.to is.at) p.banks k b at in
          let (is_bank, few) = shape.banks k old stands in
          let bits : length (map (moved_bit is.at) old.bits) ≡ length old.bits = length-map old.bits (moved_bit is.at) in
          subst (λ (b : Bank). IsBankOf m b.request.0 b × (length b.bits ≤ MOST_BITS)) e (bank-there old (bank-at k old stands) is_bank, omega (arith, few, bits));
      few_banks = let same = length-map p.banks (moved_bank is.to is.at) in let few = shape.few_banks in omega (arith, same, few);
      stages = let same = length-map p.banks (moved_bank is.to is.at) in let one_less = shape.stages in omega (arith, same, one_less, count);
      each_stage = λ k b following t at-b at-next at-t.
          let (old, stands, e) = at_of_map (moved_bank is.to is.at) p.banks k b at-b in
          let (old-next, stands-next, e-next) = at_of_map (moved_bank is.to is.at) p.banks (k + 1) following at-next in
          let within : k < length stages = slice_get_within stages k t at-t in
          let (s, at-s) = slice_get-some p.stages k (omega (arith, within, count)) in
          let (number, was) = shape.each_stage k old old-next s stands stands-next at-s in
          let same = thin k s t at-s at-t in (
            same.number ∙ number,
            subst (λ (x : Bank). IsStageOf m x following t) e (subst (λ (x : Bank). IsStageOf m (moved_bank is.to is.at old) x t) e-next
                (stage-there old old-next s t (bank-at k old stands) (shape.banks k old stands).0.bits (shape.banks (k + 1) old-next stands-next).0.bits was same)),
          );
      inputs = λ first at.
          let (old, stands, e) = at_of_map (moved_bank is.to is.at) p.banks 0 first at in
          subst (λ (x : Bank). AllZip (AreInputsOf m) x.bits (map (renamed_rails is.to) p.inputs)) e (inputs-there old.request.0 old.bits (shape.banks 0 old stands).0.bits p.inputs (shape.inputs old stands));
      outputs = λ k last whole at.
          let (old, stands, e) = at_of_map (moved_bank is.to is.at) p.banks k last at in
          let same : length (map (moved_bank is.to is.at) p.banks) ≡ length p.banks = length-map p.banks (moved_bank is.to is.at) in
          let (rails, ki) = shape.outputs k old (omega (arith, whole, same)) stands in
          subst (λ (x : Bank). AllZip (AreRailsOf m) x.bits (map (renamed_rails is.to) p.outputs) × (is.to p.ki ≡ x.request.0)) e (rails-there old.request.0 old.bits (shape.banks k old stands).0.bits p.outputs rails, ap is.to ki);
      ko = λ first at.
          let (old, stands, e) = at_of_map (moved_bank is.to is.at) p.banks 0 first at in
          subst (λ (x : Bank). is.to p.ko ≡ x.root.0) e (ap is.to (shape.ko old stands));
    }
