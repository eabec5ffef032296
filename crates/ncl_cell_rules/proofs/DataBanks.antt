-- The table of the banks that are reset to DATA, one cell more at a time, and what it tells.
use Rattle.ncl_cell_rules.proofs.Terms.{AreDataBanks, B, Bool, Cell, Contains-from_Member, IsDataBank, IsDataRegister, List, Member-from_Contains, NetlistData, OnPin, ap, data_test, false, get_or, has_net, length, list_any-from_member, member_from_list_any, nat_eq, slice_get, sym, true, ℕ, ◌&&◌, ◌<◌, ◌∙◌, ◌≡◌}
use Rattle.ncl_cell_rules.proofs.CellTests.{data_passes, data-from_test}

-- what a register cell that is reset to 1 marks
pub data_on : (c : Cell) (request net : ℕ) → IsDataRegister c → OnPin c B request → data_test net c ≡ nat_eq request net
data_on c request net data_is on = ap (λ b. b && has_net net (slice_get c.ins.items B)) data_is ∙ ap (has_net net) on

module _ (n : NetlistData) (flags : List Bool) (are : AreDataBanks n flags) (net : ℕ) (inside : net < length n.nets) where
  -- a net that is marked is the request of such a bank, and only such a net is
  pub bank_of_mark : get_or flags net false ≡ true → IsDataBank n net
  bank_of_mark marked =
      let (c, m, passes) = member_from_list_any (data_test net) n.cells (sym (are.each net inside) ∙ marked) in
      let (of_bank, data_is) = data-from_test n net c (Contains-from_Member c m) passes in
      (c, of_bank, data_is)

  pub mark_of_bank : IsDataBank n net → get_or flags net false ≡ true
  mark_of_bank (c, of_bank, data_is) =
      are.each net inside ∙ list_any-from_member (data_test net) c (Member-from_Contains n.cells c of_bank.0) (data_passes n net c of_bank data_is)
