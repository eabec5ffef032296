-- What the test of the fourth rule asks of register cells, and that nothing else is asked.
use Rattle.ncl_cell_rules.proofs.Terms.{A, AreSources, B, Cell, FromPort, HaveSameOrigins, IsAsFirst, IsCell, IsFirstOfBank, IsFromOneAck, IsFromOneRail, IsInputPort, IsNetlist, IsRegister, IsRegisterOfOne, IsSourceOf, List, NetlistData, OnPin, Origin, RST, RailOf, Some, Source, ap, arith, cases_lt, inl, inr, refl, slice_get, source_at, subst, sym, ℕ, ◌∙◌, ◌≡◌}
use Rattle.ncl_cell_rules.proofs.CellTests.{same_net, on_pin_each}
use Rattle.ncl_cell_rules.proofs.OriginLaws.{pin_of_register}
use Rattle.ncl_cell_rules.proofs.FirstRegisters.{first_of_bank}
use Rattle.ncl_cell_rules.proofs.PinNumbers.{on_pin_within}
use Rattle.ncl_cell_rules.proofs.Summaries.{named, named_is_one}
use Rattle.ncl_cell_rules.proofs.SourceSteps.{port_source, source_from_only, same_origins, source_of_same}

module _ (n : NetlistData) (is : IsNetlist n) where
  -- a bank has one first register cell
  pub first_is_one : (bank : ℕ) (c d : Cell) → IsFirstOfBank n bank c → IsFirstOfBank n bank d → c ≡ d
  first_is_one bank c d first_c first_d =
      elim (cases_lt first_c.place first_d.place) [
        | inl less ↦ absurd (first_d.first first_c.place c less first_c.at first_c.of_bank)
        | inr most ↦ elim (cases_lt first_d.place first_c.place) [
          | inl less ↦ absurd (first_c.first first_d.place d less first_d.at first_d.of_bank)
          | inr least ↦
              let places : first_c.place ≡ first_d.place = omega (arith, most, least) in
              let cells : Some c ≡ Some d = sym first_c.at ∙ ap (slice_get n.cells) places ∙ first_d.at in
              cc
        ]
      ]

  module _ (sources : List Source) where
    -- the source of a net that is a port or comes from one rail names an origin
    rail_names : (net : ℕ) → IsSourceOf n net (source_at sources net) → IsFromOneRail n net → (o : Origin) × (named (source_at sources net) ≡ Some o)
    rail_names net is_s (inl input) = (FromPort, source_from_only n is net (source_at sources net) FromPort is_s record { comes = (port_source n is net input).comes; only = (port_source n is net input).only })
    rail_names net is_s (inr (request, only)) = (RailOf request, source_from_only n is net (source_at sources net) (RailOf request) is_s only)

    module _ (c first : Cell) (a b rst first_a : ℕ) (on_a : OnPin c A a) (on_b : OnPin c B b) (on_rst : OnPin c RST rst) (is_first : IsFirstOfBank n b first) (on_first : OnPin first A first_a)
        (is_a : IsSourceOf n a (source_at sources a)) (is_first_a : IsSourceOf n first_a (source_at sources first_a)) where
      -- the four parts of the fourth rule at a register cell
      pub register_of_one : IsInputPort n rst → IsFromOneAck n b → IsFromOneRail n a → source_at sources a ≡ source_at sources first_a → IsRegisterOfOne n c
      register_of_one reset request rail same = record {
        reset = on_pin_each c RST rst (IsInputPort n) on_rst reset;
        request = on_pin_each c B b (IsFromOneAck n) on_b request;
        rail = on_pin_each c A a (IsFromOneRail n) on_a rail;
        bank = λ r net other_net other on_r is_other on_net on_other.
            let banks : r ≡ b = same_net c B r b on_r on_b in
            let cells : other ≡ first = first_is_one b other first (subst (λ x. IsFirstOfBank n x other) banks is_other) is_first in
            let nets : net ≡ a = same_net c A net a on_net on_a in
            let firsts : other_net ≡ first_a = same_net first A other_net first_a (subst (λ (x : Cell). OnPin x A other_net) cells on_other) on_first in
            let (o, at) = rail_names a is_a rail in
            let one = same_origins n is a first_a (source_at sources a) o at is_a (subst (IsSourceOf n first_a) (sym same) is_first_a) in
            subst (λ x. HaveSameOrigins n x other_net) (sym nets) (subst (HaveSameOrigins n a) (sym firsts) one);
      }

      -- and where the rule holds the entries are the same
      pub same_entries : IsRegisterOfOne n c → source_at sources a ≡ source_at sources first_a
      same_entries one =
          let (o, at) = rail_names a is_a (one.rail a on_a) in
          let same = one.bank b a first_a first on_b is_first on_a on_first in
          let at_first = source_of_same n is a first_a (source_at sources a) (source_at sources first_a) o at is_a is_first_a same in
          named_is_one (source_at sources a) (source_at sources first_a) o o at at_first refl

  -- whatever shows that a register cell is as the first of its bank speaks of these two nets
  pub same_entries_of : (sources : List Source) (c first : Cell) (request net first_net : ℕ) → OnPin c B request → IsFirstOfBank n request first → OnPin c A net → OnPin first A first_net
      → IsAsFirst n sources c → source_at sources net ≡ source_at sources first_net
  same_entries_of sources c first request net first_net on_b is_first on_a first_on as_first =
      let banks : as_first.request ≡ request = same_net c B as_first.request request as_first.on_b on_b in
      let cells : as_first.first ≡ first = first_is_one request as_first.first first (subst (λ r. IsFirstOfBank n r as_first.first) banks as_first.is_first) is_first in
      let nets : as_first.net ≡ net = same_net c A as_first.net net as_first.on_a on_a in
      let first_nets : as_first.first_net ≡ first_net = same_net first A as_first.first_net first_net (subst (λ (x : Cell). OnPin x A as_first.first_net) cells as_first.first_on_a) first_on in
      ap (source_at sources) (sym nets) ∙ as_first.same ∙ ap (source_at sources) first_nets

  module _ (sources : List Source) (are : AreSources n sources) (c : Cell) (in_c : IsCell n c) (a b : ℕ) (on_a : OnPin c A a) (on_b : OnPin c B b) where
    from_pin : (d : Cell) → IsCell n d → (pin net : ℕ) → OnPin d pin net → IsSourceOf n net (source_at sources net)
    from_pin d in_d pin net on = are.each net (on_pin_within n is d in_d pin net on)

    -- the fourth rule at a register cell, from what its pins and the first register cell of its bank tell
    pub register_of_first : (rst : ℕ) → OnPin c RST rst → IsInputPort n rst → IsFromOneAck n b → IsFromOneRail n a → IsAsFirst n sources c → IsRegisterOfOne n c
    register_of_first rst on_rst reset request rail as_first =
        let banks : as_first.request ≡ b = same_net c B as_first.request b as_first.on_b on_b in
        let is_first = subst (λ r. IsFirstOfBank n r as_first.first) banks as_first.is_first in
        register_of_one sources c as_first.first a b rst as_first.first_net on_a on_b on_rst is_first as_first.first_on_a
        (from_pin c in_c A a on_a) (from_pin as_first.first is_first.of_bank.0 A as_first.first_net as_first.first_on_a) reset request rail
        (same_entries_of sources c as_first.first b a as_first.first_net on_b is_first on_a as_first.first_on_a as_first)

    -- and what they tell where the rule holds
    pub first_of_register : IsRegister c → (rst : ℕ) → OnPin c RST rst → IsRegisterOfOne n c → IsAsFirst n sources c
    first_of_register register rst on_rst one =
        let (first, is_first) = first_of_bank n b c (in_c, register, on_b) in
        let (first_net, first_on) = pin_of_register n is first is_first.of_bank.0 is_first.of_bank.1 A (omega arith) in
        record {
          request = b;
          first = first;
          net = a;
          first_net = first_net;
          on_b = on_b;
          is_first = is_first;
          on_a = on_a;
          first_on_a = first_on;
          same = same_entries sources c first a b rst first_net on_a on_b on_rst is_first first_on (from_pin c in_c A a on_a) (from_pin first is_first.of_bank.0 A first_net first_on) one;
        }
