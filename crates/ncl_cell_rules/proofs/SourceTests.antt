-- What the tables tell of one net: whether it is an input port, and whether it comes from one place alone.
use Rattle.ncl_cell_rules.proofs.Terms.{AckOf, AreDrivers, AreSources, Bool, Contains-from_slice_get, IsFromOneAck, IsFromOneRail, IsInputPort, IsNetlist, IsSourceOf, List, Many, NetId, NetlistData, None, Option, Port, Rail, RailOf, Some, Source, ap, both_ways, driver_at, false, inl, inr, is_some, length, not, refl, source_at, subst, sym, true, ℕ, ◌<◌, ◌∙◌, ◌≡◌}
use Rattle.ncl_cell_rules.specs.declared.source.Source.TheVariants.{Ack}
use Rattle.ncl_cell_rules.proofs.Drivers.{driver_of, no_cell_drives_port}
use Rattle.ncl_cell_rules.proofs.OriginLaws.{place_of}
use Rattle.ncl_cell_rules.proofs.Summaries.{named}
use Rattle.ncl_cell_rules.proofs.SourceSteps.{only_from_source, source_from_only}

-- a missing entry, by the test that it is missing
pub none_from : (o : Option ℕ) (none : Bool) → is_some o ≡ not none → none ≡ true → o ≡ None
none_from None none tells holds = refl
none_from (Some x) none tells holds = absurd (both_ways true (tells ∙ ap not holds) refl)

pub missing : (o : Option ℕ) → is_some o ≡ false → o ≡ None
missing None none = refl
missing (Some x) none = absurd (both_ways true none refl)

pub some_from : (o : Option ℕ) (none : Bool) → is_some o ≡ not none → none ≡ false → o ≡ None → ⊥
some_from o none tells fails missing = both_ways (is_some o) (ap is_some missing) (tells ∙ ap not fails)

-- a source that names acknowledge cells, or rails, is one of these
pub names_ack : (s : Source) (request : ℕ) → named s ≡ Some (AckOf request) → (r : NetId) × (s ≡ Ack r)
names_ack Port request e = absurd cc
names_ack (Rail r) request e = absurd cc
names_ack (Ack r) request e = (r, refl)
names_ack Many request e = absurd cc

pub names_rail : (s : Source) (request : ℕ) → named s ≡ Some (RailOf request) → (r : NetId) × (s ≡ Rail r)
names_rail Port request e = absurd cc
names_rail (Rail r) request e = (r, refl)
names_rail (Ack r) request e = absurd cc
names_rail Many request e = absurd cc

module _ (n : NetlistData) (drivers : List (Option ℕ)) (are : AreDrivers n drivers) (net : ℕ) where
  -- a net is an input port where no cell drives it
  pub port_of_none : net < length n.nets → driver_at drivers net ≡ None → IsInputPort n net
  port_of_none inside none =
      elim (driver_of n are.netlist net inside) [
        | inl input ↦ input
        | inr (c, in_c, out) ↦
            let (k, at) = place_of n c in_c in
            let some = are.driven net k (c, at, out) in
            absurd cc
      ]

  -- and only there
  pub none_of_port : IsInputPort n net → driver_at drivers net ≡ None
  none_of_port input = by (driver_at drivers net) refl
    where
      by : (o : Option ℕ) → driver_at drivers net ≡ o → driver_at drivers net ≡ None
      by None e = e
      by (Some k) e =
          let (c, at, out) = are.drives net k e in
          absurd (no_cell_drives_port n are.netlist c (Contains-from_slice_get n.cells k c at) (subst (IsInputPort n) (sym out) input))

-- what a source tells of a net that comes from one bank, and from no port
module _ (n : NetlistData) (is : IsNetlist n) (sources : List Source) (are : AreSources n sources) (net : ℕ) (inside : net < length n.nets) (s : Source) (read : s ≡ source_at sources net) where
  is_s : IsSourceOf n net s
  is_s = subst (IsSourceOf n net) (sym read) (are.each net inside)

  pub from_one_ack : (r : NetId) → s ≡ Ack r → IsFromOneAck n net
  from_one_ack r e = inr (r.0, only_from_source n is net s (AckOf r.0) is_s (ap named e))

  pub from_one_rail : (r : NetId) → s ≡ Rail r → IsFromOneRail n net
  from_one_rail r e = inr (r.0, only_from_source n is net s (RailOf r.0) is_s (ap named e))

  -- what is no input port and has another source doesn't
  pub not_from_one_ack : (IsInputPort n net → ⊥) → ((r : NetId) → s ≡ Ack r → ⊥) → IsFromOneAck n net → ⊥
  not_from_one_ack driven other (inl input) = driven input
  not_from_one_ack driven other (inr (request, only)) =
      let (r, e) = names_ack s request (source_from_only n is net s (AckOf request) is_s only) in other r e

  pub not_from_one_rail : (IsInputPort n net → ⊥) → ((r : NetId) → s ≡ Rail r → ⊥) → IsFromOneRail n net → ⊥
  not_from_one_rail driven other (inl input) = driven input
  not_from_one_rail driven other (inr (request, only)) =
      let (r, e) = names_rail s request (source_from_only n is net s (RailOf request) is_s only) in other r e
