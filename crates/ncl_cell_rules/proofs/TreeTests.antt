-- Whether a cell is of a completion tree, and whether something takes its output, by the tables.
use Rattle.ncl_cell_rules.proofs.Terms.{AckOf, AreFirsts, AreGateReads, AreUnmixed, Bool, Cell, ComesFrom, Contains-from_Member, IsAck, IsCell, IsGate, IsNetlist, IsReadByGate, IsRequest, IsSourceOf, List, Member-from_Contains, NetId, NetlistData, None, Option, Some, Source, ap, both_ways, false, first_at, gate_reads_test, get_or, inl, inr, is_register, is_some, length, list_any-from_member, member_from_list_any, refl, sym, true, ℕ, ◌<◌, ◌∙◌, ◌≡◌, ◌⊎◌}
use Rattle.ncl_cell_rules.specs.declared.source.Source.TheVariants.{Ack}
use Rattle.ncl_cell_rules.proofs.CellTests.{gate_reads_passes, gate_reads-from_test}
use Rattle.ncl_cell_rules.proofs.OriginLaws.{sort_of, place_of, ack_origin}
use Rattle.ncl_cell_rules.proofs.SourceSteps.{source_from_only, ack_source}
use Rattle.ncl_cell_rules.proofs.SourceTests.{names_ack}
use Rattle.ncl_cell_rules.proofs.FirstRegisters.{first_is, first_none}

-- a cell that is no register cell is an acknowledge cell or a gate cell
pub tree_sort : (c : Cell) → is_register c.kind ≡ false → IsAck c ⊎ IsGate c
tree_sort c other = elim (sort_of c) [ inl gate ↦ inr gate | inr (inl register) ↦ absurd (both_ways (is_register c.kind) other register) | inr (inr ack) ↦ inl ack ]

module _ (n : NetlistData) (is : IsNetlist n) where
  -- what comes from acknowledge cells has a source that says so, where no cell mixes origins
  pub ack_named : AreUnmixed n → (c : Cell) → IsCell n c → IsAck c ⊎ IsGate c → (s : Source) → IsSourceOf n c.out.0 s → (bank : ℕ) → ComesFrom n c.out.0 (AckOf bank) → (r : NetId) × (s ≡ Ack r)
  ack_named unmixed c in_c (inl is_ack) s is_s bank from =
      let (request, acks, same) = ack_origin n is c in_c is_ack c.out.0 (AckOf bank) refl from in
      let only = ack_source n is c (record { 0 = request }) acks in
      names_ack s request (source_from_only n is c.out.0 s (AckOf request) is_s record { comes = only.comes; only = only.only })
  ack_named unmixed c in_c (inr (kind, is_gate)) s is_s bank from =
      let (k, at) = place_of n c in_c in
      elim ((unmixed k c at).gate kind is_gate) [
        | inl (request, only) ↦ let clash = only.only (AckOf bank) from in absurd cc
        | inr (request, only, tree) ↦ names_ack s request (source_from_only n is c.out.0 s (AckOf request) is_s only)
      ]

  module _ (net : ℕ) (inside : net < length n.nets) where
    -- a net that is marked is read by a gate cell, and only such a net is
    pub read_by_gate : (flags : List Bool) → AreGateReads n flags → get_or flags net false ≡ true → IsReadByGate n net
    read_by_gate flags are marked =
        let (c, m, passes) = member_from_list_any (gate_reads_test net) n.cells (sym (are.each net inside) ∙ marked) in
        let (is_gate, reads) = gate_reads-from_test net c passes in
        (c, Contains-from_Member c m, is_gate, reads)

    pub marked_by_gate : (flags : List Bool) → AreGateReads n flags → IsReadByGate n net → get_or flags net false ≡ true
    marked_by_gate flags are (c, in_c, is_gate, reads) =
        are.each net inside ∙ list_any-from_member (gate_reads_test net) c (Member-from_Contains n.cells c in_c) (gate_reads_passes net c is_gate reads)

    -- a net with a first register cell is a request, and only such a net is
    pub request_by_first : (firsts : List (Option ℕ)) → AreFirsts n firsts → is_some (first_at firsts net) ≡ true → IsRequest n net
    request_by_first firsts are some = by (first_at firsts net) refl some
      where
        by : (o : Option ℕ) → first_at firsts net ≡ o → is_some o ≡ true → IsRequest n net
        by None e holds = absurd (both_ways false refl holds)
        by (Some k) e holds = let (first, first_of, place) = first_is n firsts are net inside k e in (first, first_of.of_bank)

    pub first_by_request : (firsts : List (Option ℕ)) → AreFirsts n firsts → IsRequest n net → is_some (first_at firsts net) ≡ true
    first_by_request firsts are (c, of_bank) = by (first_at firsts net) refl
      where
        by : (o : Option ℕ) → first_at firsts net ≡ o → is_some (first_at firsts net) ≡ true
        by None e = absurd (first_none n firsts are net inside e c of_bank)
        by (Some k) e = ap is_some e
