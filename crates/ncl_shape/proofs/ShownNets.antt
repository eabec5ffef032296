-- What the pipeline shows outside, cell by cell and port by port.
use Rattle.ncl_shape.proofs.Terms.{AreRootsOf, Bool, Cell, ComesFrom, Contains-from_slice_get, HasOne, HasRoots, IsCell, IsChain, IsClosed, IsEnd, IsHead, IsNetlist, IsOfBank, IsOutputPort, IsRoot, IsShownCell, IsShownPort, List, NetId, NetlistData, RailOf, Some, ack_origin, ap, arith, both_ways, cell_of_rail, eq-eqb, get_or, inl, inr, length, length-map, no_net, not, numbers_of, rail, refl, register_no_gate, register_origin, slice_get, slice_get-get_or, slice_get_within, sort_of, subst, sym, true, ℕ, ◌-◌, ◌∙◌, ◌≡◌, ◌≤◌}
use Rattle.std.proofs.Common.{nat_eq}
use Rattle.ncl_shape.proofs.ChainLaws.{head_is_one, head_of_path}
use Rattle.ncl_shape.proofs.Places.{number_of_place}

module _ (n : NetlistData) (is : IsNetlist n) (first last root : ℕ) (is_root : IsRoot n first root) where
  -- where each cell and each port is shown the pipeline is closed
  closed_of_shown : ((net : ℕ) → IsRoot n first net → IsOutputPort n net) → ((c : Cell) → IsCell n c → IsShownCell n last c) → ((net : ℕ) → IsShownPort n root last net) → IsClosed n first last
  closed_of_shown rooted cells ports = record {
    shown = λ net shown. elim shown [
      | inl (c, of_last, out) ↦ subst (IsOutputPort n) out (cells c of_last.0 (rail c of_last)).1
      | inr of_first ↦ rooted net of_first
    ];
    ports = λ net output. elim (ports net output) [
      | inl same ↦ inr (subst (IsRoot n first) (sym same) is_root)
      | inr from ↦
          let (c, in_c, out) = cell_of_rail n net (RailOf last) last refl from in
          let register = (cells c in_c (subst (λ x. ComesFrom n x (RailOf last)) (sym out) from)).0 in
          let (request, of_request, named) = register_origin n is c in_c register net (RailOf last) out from in
          let same : request ≡ last = cc in
          inl (c, subst (λ r. IsOfBank n r c) same of_request, out)
    ];
    no_gate = λ c in_c gate from.
        let (kind, is_gate) = gate in
        register_no_gate c.kind (cells c in_c from).0 kind is_gate;
  }

  -- and where it is closed each cell and each port is
  cell_of_closed : IsClosed n first last → (c : Cell) → IsCell n c → IsShownCell n last c
  cell_of_closed closed c in_c from =
      elim (sort_of c) [
        | inl gate ↦ absurd (closed.no_gate c in_c gate from)
        | inr (inl register) ↦
            let (request, of_request, named) = register_origin n is c in_c register c.out.0 (RailOf last) refl from in
            let same : request ≡ last = cc in
            (register, closed.shown c.out.0 (inl (c, subst (λ r. IsOfBank n r c) same of_request, refl)))
        | inr (inr is_ack) ↦
            let (request, acks, named) = ack_origin n is c in_c is_ack c.out.0 (RailOf last) refl from in
            absurd cc
      ]

  port_of_closed : HasOne (IsRoot n first) → IsClosed n first last → (net : ℕ) → IsShownPort n root last net
  port_of_closed one closed net output =
      elim (closed.ports net output) [
        | inl (c, of_last, out) ↦ inr (subst (λ x. ComesFrom n x (RailOf last)) out (rail c of_last))
        | inr of_first ↦ inl (one.only net of_first ∙ sym (one.only root is_root))
      ]

-- what the test that two nets differ tells
pub nets_differ : (x y : ℕ) (test : Bool) → test ≡ not (nat_eq x y) → test ≡ true → x ≡ y → ⊥
nets_differ x y test tells holds same = both_ways test (tells ∙ ap not (eq-eqb x y same)) holds

-- a list has one end
end_is_one : (banks : List ℕ) (x y : ℕ) → IsEnd banks x → IsEnd banks y → x ≡ y
end_is_one banks x y (i, whole_i, at_i) (j, whole_j, at_j) =
    let places : i ≡ j = omega (arith, whole_i, whole_j) in
    let both : Some x ≡ Some y = sym at_i ∙ ap (slice_get banks) places ∙ at_j in
    cc

module _ (n : NetlistData) (is : IsNetlist n) (banks roots : List NetId) (chain : IsChain n (numbers_of banks)) (rooted : HasRoots n (numbers_of banks)) (are : AreRootsOf n banks roots) where
  -- the first bank, its root, and the last bank
  abbrev pub first_at : ℕ
  first_at = (get_or banks 0 no_net).0

  abbrev pub root_at : ℕ
  root_at = (get_or roots 0 no_net).0

  abbrev pub last_at : ℕ
  last_at = (get_or banks (length banks - 1) no_net).0

  -- there is a first bank
  pub some_bank : 1 ≤ length banks
  some_bank =
      let (bank, at) = head_of_path n (numbers_of banks) chain.path in
      let within = slice_get_within (numbers_of banks) 0 bank at in
      omega (arith, within, length-map banks (λ (net : NetId). net.0))

  pub some_root : 1 ≤ length roots
  some_root = let many = are.as_many in omega (arith, some_bank, many)

  head : IsHead (numbers_of banks) first_at
  head = number_of_place banks 0 no_net (omega (arith, some_bank))

  ends : IsEnd (numbers_of banks) last_at
  ends = (length banks - 1, omega (arith, some_bank, length-map banks (λ (net : NetId). net.0)), number_of_place banks (length banks - 1) no_net (omega (arith, some_bank)))

  root_of_first : IsRoot n first_at root_at
  root_of_first = are.each 0 (get_or banks 0 no_net) (get_or roots 0 no_net) (slice_get-get_or banks 0 no_net (omega (arith, some_bank))) (slice_get-get_or roots 0 no_net (omega (arith, some_root)))

  -- so the seventh inner rule holds exactly where each cell and each port is shown
  pub closed_from : ((c : Cell) → IsCell n c → IsShownCell n last_at c) → ((net : ℕ) → IsShownPort n root_at last_at net) → (first last : ℕ) → IsHead (numbers_of banks) first → IsEnd (numbers_of banks) last → IsClosed n first last
  closed_from cells ports first last at_first at_last =
      let same_first : first_at ≡ first = head_is_one (numbers_of banks) first_at first head at_first in
      let same_last : last_at ≡ last = end_is_one (numbers_of banks) last_at last ends at_last in
      let closed = closed_of_shown n is first_at last_at root_at root_of_first (λ net of_first. rooted.first first_at net head of_first) cells ports in
      subst (λ x. IsClosed n x last) same_first (subst (IsClosed n first_at) same_last closed)

  pub cells_shown : ((first last : ℕ) → IsHead (numbers_of banks) first → IsEnd (numbers_of banks) last → IsClosed n first last) → (c : Cell) → IsCell n c → IsShownCell n last_at c
  cells_shown closed = cell_of_closed n is first_at last_at root_at root_of_first (closed first_at last_at head ends)

  pub ports_shown : ((first last : ℕ) → IsHead (numbers_of banks) first → IsEnd (numbers_of banks) last → IsClosed n first last) → (net : ℕ) → IsShownPort n root_at last_at net
  ports_shown closed = port_of_closed n is first_at last_at root_at root_of_first (rooted.one_each first_at (Contains-from_slice_get (numbers_of banks) 0 first_at head)) (closed first_at last_at head ends)
