-- The banks of an assembled netlist follow one another in a chain.
use Rattle.ncl_assembly.proofs.Terms.{A, AckOf, Bank, Contains, Contains-from_slice_get, Follows, FromPort, HasEnds, HasOnlyOrigin, HasRegister, IsAcknowledged, IsAssembled, IsChain, IsFirstBank, IsInputOf, IsInputPort, IsLastBank, IsPath, IsUnforked, List, Member, NetlistData, PipelineData, RailOf, Some, WiredBank, WiredBit, [], ap, arith, at_map, at_of_map, bank_of, end, false, inl, inr, length, length-map, map, next, port, rail_nets, rails_read, refl, slice_get, subst, suc, sym, zero, ℕ, ◌+◌, ◌<◌, ◌∙◌, ◌∷◌, ◌≡◌}
use Rattle.ncl_assembly.proofs.WiredPlaces.{BankAt, as_many, first_bank, next_or_last, bank_at, bank_is_wired}
use Rattle.ncl_assembly.proofs.WiredOrigins.{rail_among, port_only, next_read_only, request_only, last_request_port, requests_differ}
use Rattle.ncl_assembly.proofs.WiredPins.{first_bit, last_bank, cell_of_rail, rail_cell_of_bank, some_register, role_in_bank, bank_of_request, read_by_bank, read_at, read_first, read_next}

-- banks of which each follows the one before form a path
path_from_places : (n : NetlistData) (banks : List ℕ) → 0 < length banks → ((k bank following : ℕ) → slice_get banks k ≡ Some bank → slice_get banks (suc k) ≡ Some following → Follows n bank following) → IsPath n banks
path_from_places n [] some each = absurd (omega arith)
path_from_places n (x ∷ []) some each = end
path_from_places n (x ∷ y ∷ banks) some each = next (each zero x y refl refl) (path_from_places n (y ∷ banks) (omega arith) (λ k. each (suc k)))

-- the requests of the banks of a pipeline
abbrev pub requests_of : PipelineData → List ℕ
requests_of p = map (λ (b : Bank). b.request.0) p.banks

module _ (n : NetlistData) (p : PipelineData) (is : IsAssembled n p) where
  pub request_at : (k : ℕ) (b : WiredBank) → BankAt n p is k b → slice_get (requests_of p) k ≡ Some b.request.0
  request_at k b at = at_map (λ (b : Bank). b.request.0) p.banks k (bank_of b) (bank_at n p is k b at)

  pub at_request : (k request : ℕ) → slice_get (requests_of p) k ≡ Some request → (b : WiredBank) × BankAt n p is k b × (b.request.0 ≡ request)
  at_request k request at =
      let (bank, at_bank, named) = at_of_map (λ (b : Bank). b.request.0) p.banks k request at in
      let (b, at_b, same) = bank_is_wired n p is k bank at_bank in
      (b, at_b, ap (λ (b : Bank). b.request.0) same ∙ named)

  pub as_many_requests : length (requests_of p) ≡ length is.wired
  as_many_requests = length-map p.banks (λ (b : Bank). b.request.0) ∙ ap length is.banks ∙ length-map is.wired bank_of

  -- two banks at one place are one
  pub same_bank : (i j : ℕ) (b d : WiredBank) → BankAt n p is i b → BankAt n p is j d → i ≡ j → b ≡ d
  same_bank i j b d at_b at_d same = let moved : BankAt n p is j b = subst (λ z. BankAt n p is z b) same at_b in cc

  -- a net that a bank reads
  pub some_input : (k : ℕ) (b : WiredBank) → BankAt n p is k b → (net : ℕ) × IsInputOf n b.request.0 net × Member net (rail_nets (rails_read b))
  some_input k b at =
      let (w, at_w) = first_bit n p is k b at in
      let has = cell_of_rail n p is k zero b w at at_w false in
      (w.from.zero.0, (has.cell, rail_cell_of_bank n p is k zero b w at at_w false, ap (λ l. slice_get l A) has.ins), rail_among (λ (w : WiredBit). w.from) b.bits zero w false at_w)

  -- each bank follows the one before
  follows : (k : ℕ) (b after : WiredBank) → BankAt n p is k b → BankAt n p is (suc k) after → Follows n b.request.0 after.request.0
  follows k b after at at_after =
      let (net, is_input, read) = some_input (suc k) after at_after in
      (net, is_input, (next_read_only n p is k b after at at_after net read).comes)

  -- and no other
  follows_is : (u x : ℕ) → Follows n u x → (k : ℕ) × (b : WiredBank) × (after : WiredBank) × BankAt n p is k b × BankAt n p is (suc k) after × (b.request.0 ≡ u) × (after.request.0 ≡ x)
  follows_is u x (net, (c, of_x, on), from) =
      let (i, at, (r, named)) = role_in_bank n p is x c of_x in
      by r.k r.bank r.at_bank named (read_by_bank n p is i c r net on)
    where
      by : (k : ℕ) (after : WiredBank) → BankAt n p is k after → after.request.0 ≡ x → Member net (rail_nets (rails_read after)) → (j : ℕ) × (b : WiredBank) × (d : WiredBank) × BankAt n p is j b × BankAt n p is (suc j) d × (b.request.0 ≡ u) × (d.request.0 ≡ x)
      by zero after at named read =
          let clash : RailOf u ≡ FromPort = (port_only n is.is_netlist net (read_first n p is after at net read)).only (RailOf u) from in
          absurd cc
      by (suc k) after at named read =
          let (b, at_b, only) = read_next n p is k after at net read in
          let origins : RailOf u ≡ RailOf b.request.0 = only.only (RailOf u) from in
          let same : b.request.0 ≡ u = cc in
          (k, b, after, at_b, at, same, named)

  pub unforked : IsUnforked n
  unforked bank x y to_x to_y =
      let (i, b, after, at_b, at_after, from_b, to_after) = follows_is bank x to_x in
      let (j, d, later, at_d, at_later, from_d, to_later) = follows_is bank y to_y in
      let places : i ≡ j = requests_differ n p is i j b d at_b at_d (from_b ∙ sym from_d) in
      let one = same_bank (suc i) (suc j) after later at_after at_later (ap suc places) in
      sym to_after ∙ ap (λ (z : WiredBank). z.request.0) one ∙ to_later

  pub has_register : HasRegister n
  has_register = let (b, at) = first_bank n p is in let (c, of_bank) = some_register n p is zero b at in (c, of_bank.0, of_bank.1)

  -- the first bank
  first_is : (b : WiredBank) → BankAt n p is zero b → IsFirstBank n b.request.0
  first_is b at = record {
    is_bank = some_register n p is zero b at;
    inputs = λ net (c, of_bank, on). read_first n p is b at net (read_at n p is zero b at c of_bank net on);
  }

  first_is_one : (other : ℕ) → IsFirstBank n other → (b : WiredBank) → BankAt n p is zero b → other ≡ b.request.0
  first_is_one other first b at =
      let (c, of_bank) = first.is_bank in
      let (k, d, at_d, named) = bank_of_request n p is other c of_bank in
      by k d at_d named
    where
      by : (k : ℕ) (d : WiredBank) → BankAt n p is k d → d.request.0 ≡ other → other ≡ b.request.0
      by zero d at_d named = let one : d ≡ b = cc in sym named ∙ ap (λ (z : WiredBank). z.request.0) one
      by (suc k) d at_d named =
          let (net, is_input, read) = some_input (suc k) d at_d in
          let (before, at_before, only) = read_next n p is k d at_d net read in
          let clash : FromPort ≡ RailOf before.request.0 = only.only FromPort (port (first.inputs net (subst (λ z. IsInputOf n z net) named is_input))) in
          absurd cc

  -- the last bank
  last_is_one : (other : ℕ) → IsLastBank n other → (k : ℕ) (b : WiredBank) → BankAt n p is k b → suc k ≡ length is.wired → other ≡ b.request.0
  last_is_one other last k b at end_at =
      let (c, of_bank) = last.is_bank in
      let (j, d, at_d, named) = bank_of_request n p is other c of_bank in
      elim (next_or_last n p is j d at_d) [
        | inl (s, after, at_s, at_after) ↦
            let clash : FromPort ≡ AckOf after.request.0 = (request_only n p is j d after at_d at_after).only FromPort (port (subst (IsInputPort n) (sym named) last.request)) in
            absurd cc
        | inr whole ↦ let one = same_bank j k d b at_d at (omega (arith, whole, end_at)) in sym named ∙ ap (λ (z : WiredBank). z.request.0) one
      ]

  pub has_ends : HasEnds n
  has_ends =
      let (b, at) = first_bank n p is in
      let (k, d, at_d, whole) = last_bank n p is in
      record {
        first = record { one = b.request.0; is = first_is b at; only = λ other first. first_is_one other first b at };
        last = record {
          one = d.request.0;
          is = record { is_bank = some_register n p is k d at_d; request = last_request_port n p is k d at_d whole };
          only = λ other last. last_is_one other last k d at_d whole;
        };
      }

  pub chain : IsChain n (requests_of p)
  chain =
      let many = as_many n p is in
      let count = as_many_requests in
      record {
        first = λ bank at. let (b, at_b, named) = at_request zero bank at in subst (IsFirstBank n) named (first_is b at_b);
        path = path_from_places n (requests_of p) (omega (arith, many, count))
            (λ k bank following at at_following.
            let (b, at_b, named) = at_request k bank at in
            let (d, at_d, also) = at_request (suc k) following at_following in
            subst (λ z. Follows n z following) named (subst (Follows n b.request.0) also (follows k b d at_b at_d)));
        every = λ bank (c, of_bank).
            let (k, b, at, named) = bank_of_request n p is bank c of_bank in
            subst (Contains (requests_of p)) named (Contains-from_slice_get (requests_of p) k b.request.0 (request_at k b at));
      }

  pub acknowledged : IsAcknowledged n (requests_of p)
  acknowledged =
      let count = as_many_requests in
      record {
        by_next = λ k bank after at at_after.
            let (b, at_b, named) = at_request k bank at in
            let place : k + 1 ≡ suc k = omega arith in
            let (d, at_d, also) = at_request (suc k) after (ap (slice_get (requests_of p)) (sym place) ∙ at_after) in
            subst (λ z. HasOnlyOrigin n z (AckOf after)) named (subst (λ z. HasOnlyOrigin n b.request.0 (AckOf z)) also (request_only n p is k b d at_b at_d));
        by_port = λ k bank whole at.
            let (b, at_b, named) = at_request k bank at in
            subst (IsInputPort n) named (last_request_port n p is k b at_b (omega (arith, whole, count)));
      }
