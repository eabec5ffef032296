-- Whether an input port is read, by the table of what is read.
use Rattle.ncl_cell_rules.proofs.Terms.{AreReads, Bool, Cell, Contains, Contains-from_Member, IsNetlist, IsReadPort, List, Member-from_Contains, NetId, NetlistData, ReadsNet, Some, ap, arith, both_ways, eq-eqb, eqb-true, false, get_or, length, list_any-from_member, member_from_list_any, nat_eq, ports-le-nets, reads_test, refl, slice_get, slice_get-get_or, slice_get_within, subst, sym, true, ℕ, ◌<◌, ◌∙◌, ◌≡◌}
use Rattle.ncl_netlist.specs.declared.port.Port.{Port}

-- a cell that reads a net passes the test, and only such a cell does
pub reads-passes : (net : ℕ) (c : Cell) → ReadsNet c net → reads_test net c ≡ true
reads-passes net c reads = list_any-from_member (λ (id : NetId). nat_eq id.0 net) (record { 0 = net }) (Member-from_Contains c.ins.items (record { 0 = net }) reads) (eq-eqb net net refl)

pub passes-reads : (net : ℕ) (c : Cell) → reads_test net c ≡ true → ReadsNet c net
passes-reads net c passes =
    let (pin, m, same) = member_from_list_any (λ (id : NetId). nat_eq id.0 net) c.ins.items passes in
    subst (λ x. Contains c.ins.items (record { 0 = x })) (eqb-true pin.0 net same) (Contains-from_Member pin m)

-- the port that is read from the ports stands at its place
pub port_read : (n : NetlistData) (ports : List Port) (k : ℕ) (port : Port) → ports ≡ n.ports → k < length ports → port ≡ get_or ports k port → slice_get n.ports k ≡ Some port
port_read n ports k port are lt read = ap (λ (l : List Port). slice_get l k) (sym are) ∙ slice_get-get_or ports k port lt ∙ ap Some (sym read)

module _ (n : NetlistData) (is : IsNetlist n) (reads : List Bool) (are : AreReads n reads) (net : ℕ) (port : Port) (at : slice_get n.ports net ≡ Some port) where
  inside : net < length n.nets
  inside = let within = slice_get_within n.ports net port at in omega (arith, within, ports-le-nets n is)

  -- a port whose net is marked is read
  pub read_port : get_or reads net false ≡ true → IsReadPort n net
  read_port marked = λ input.
      let (c, m, passes) = member_from_list_any (reads_test net) n.cells (sym (are.each net inside) ∙ marked) in
      (c, Contains-from_Member c m, passes-reads net c passes)

  -- and an input port whose net isn't marked is not
  pub unread_port : port.output ≡ false → get_or reads net false ≡ false → IsReadPort n net → ⊥
  unread_port input unmarked read =
      let (c, in_c, reads_net) = read (port, at, input) in
      both_ways (get_or reads net false) unmarked (are.each net inside ∙ list_any-from_member (reads_test net) c (Member-from_Contains n.cells c in_c) (reads-passes net c reads_net))

-- an output port has nothing to be read by
pub no_input : (n : NetlistData) (net : ℕ) (port : Port) → slice_get n.ports net ≡ Some port → port.output ≡ true → IsReadPort n net
no_input n net port at output = λ (other, at_other, input).
    let ports : Some port ≡ Some other = sym at ∙ at_other in
    let same : port ≡ other = cc in
    absurd (both_ways other.output input (ap (λ (p : Port). p.output) (sym same) ∙ output))
