-- The laws of faults of shape: a netlist that has a shape has none, and a netlist has at most one.
use Rattle.ncl_shape.proofs.Terms.{AreBitsOf, AtCell, Bank, BreaksInner, BreaksRule, Broken, CellMemory, CellRule, Chained, Cycle, FailsFirst, FewBanks, InPairs, InnerHolds, InnerRule, IsChain, IsFree, IsNarrow, IsNetlist, IsOffCycles, IsPaired, IsReadPort, IsShort, IsTied, IsUnmixed, List, Loose, Memory, Mixed, NarrowBanks, NetlistData, NoChain, OffCycles, PipelineData, PortsRead, Rule, RuleHolds, Shape, ShapeFault, Some, Tied, TooLong, TooWide, TwoEnds, Unmixed, Unpaired, UnusedPort, [], ap, arith, cases_lt, get_or, inl, inner_number, inr, length, length-map, refl, rule_number, rule_of, slice_get, slice_get-some, slice_get_within, subst, sym, ℕ, ◌-◌, ◌<◌, ◌∙◌, ◌∷◌, ◌≡◌, ◌≤◌}
use Rattle.ncl_shape.proofs.ChainLaws.{chain_is_one}
use Rattle.ncl_shape.proofs.RuleOrder.{RulesBelow}
use Rattle.ncl_shape.proofs.ShapeLaws.{requests, request_at, bits_are_one}

-- the rule of a fault doesn't hold
rule_fails : (n : NetlistData) (fault : ShapeFault) → BreaksRule n fault → ((r : Rule) → rule_number r ≡ rule_of fault → RuleHolds n r) → ⊥
rule_fails n (CellRule (UnusedPort net)) breaks holds = breaks.fails (holds PortsRead refl net.0)
rule_fails n (CellRule (Cycle cell)) breaks holds = breaks.fails (holds OffCycles refl cell.0)
rule_fails n (CellRule (Unpaired cell)) breaks holds = breaks.fails (holds InPairs refl cell.0)
rule_fails n (CellRule (Mixed cell)) breaks holds = breaks.fails (holds Unmixed refl cell.0)
rule_fails n (CellRule (Loose cell)) breaks holds = breaks.fails (holds Tied refl cell.0)
rule_fails n (NoChain number) breaks holds = breaks.broken (holds Chained refl breaks.rule)
rule_fails n (TooWide number) (banks, chain, positive, first) holds = first.fails (λ bank at. holds NarrowBanks refl banks (number - 1) bank chain at)
rule_fails n TooLong breaks holds = breaks (holds FewBanks refl)
rule_fails n (CellRule CellMemory) breaks holds = breaks
rule_fails n Memory breaks holds = breaks

module _ (n : NetlistData) (is : IsNetlist n) where
  module _ (p : PipelineData) (shape : Shape n p) where
    as_many_requests : length (requests p.banks) ≡ length p.banks
    as_many_requests = length-map p.banks (λ (b : Bank). b.request.0)

    -- each chain is that of the pipeline
    chain_of_pipeline : (banks : List ℕ) → IsChain n banks → banks ≡ requests p.banks
    chain_of_pipeline banks chain = chain_is_one n is shape.free (shape.chained TwoEnds) banks (requests p.banks) chain shape.chain

    bank_is_narrow : (k bank : ℕ) → slice_get (requests p.banks) k ≡ Some bank → IsNarrow n bank
    bank_is_narrow k bank at bits of_bank =
        let within : k < length (requests p.banks) = slice_get_within (requests p.banks) k bank at in
        let (b, at_b) = slice_get-some p.banks k (omega (arith, within, as_many_requests)) in
        let named_at = request_at p.banks k b at_b in
        let named : bank ≡ b.request.0 = cc in
        let (of_b, few) = shape.banks k b at_b in
        let same : bits ≡ b.bits = bits_are_one n is b.request.0 bits b.bits (subst (λ r. AreBitsOf n r bits) named of_bank) of_b.bits in
        subst (λ xs. length xs ≤ 128) (sym same) few

    narrow : (banks : List ℕ) (k bank : ℕ) → IsChain n banks → slice_get banks k ≡ Some bank → IsNarrow n bank
    narrow banks k bank chain at = bank_is_narrow k bank (subst (λ xs. slice_get xs k ≡ Some bank) (chain_of_pipeline banks chain) at)

    short : IsShort n
    short banks chain =
        let few : length p.banks ≤ 256 = shape.few_banks in
        let same : length banks ≡ length (requests p.banks) = ap length (chain_of_pipeline banks chain) in
        omega (arith, few, same, as_many_requests)

    -- each rule holds
    every_rule : (r : Rule) → RuleHolds n r
    every_rule PortsRead = shape.free.ports_read
    every_rule OffCycles = shape.free.off_cycles
    every_rule InPairs = shape.free.paired
    every_rule Unmixed = shape.free.unmixed
    every_rule Tied = shape.free.tied
    every_rule Chained = shape.chained
    every_rule NarrowBanks = narrow
    every_rule FewBanks = short

    -- so a netlist that has a shape has no fault
    pub shape_is_unbroken : (fault : ShapeFault) → BreaksRule n fault → ⊥
    shape_is_unbroken fault breaks = rule_fails n fault breaks (λ r of. every_rule r)

-- there is one first place
first_is_one : (Holds : ℕ → Type 0) (j k : ℕ) → FailsFirst Holds j → FailsFirst Holds k → j ≡ k
first_is_one Holds j k at_j at_k =
    elim (cases_lt j k) [
      | inl less ↦ absurd (at_j.fails (at_k.before j less))
      | inr most ↦
          elim (cases_lt k j) [
            | inl less ↦ absurd (at_k.fails (at_j.before k less))
            | inr least ↦ omega (arith, most, least)
          ]
    ]

-- the fault at a place of the rule with a number
abbrev faults : ℕ → List ShapeFault
faults place = Memory ∷ CellRule (UnusedPort (record { 0 = place })) ∷ CellRule (Cycle (record { 0 = place })) ∷ CellRule (Unpaired (record { 0 = place })) ∷ CellRule (Mixed (record { 0 = place })) ∷ CellRule (Loose (record { 0 = place })) ∷ NoChain place ∷ TooWide place ∷ TooLong ∷ []

abbrev fault_at : ℕ → ℕ → ShapeFault
fault_at number place = get_or (faults place) number Memory

-- each fault of a rule is that of the rule at some place
has_place : (n : NetlistData) (fault : ShapeFault) → BreaksRule n fault → (place : ℕ) × (fault_at (rule_of fault) place ≡ fault)
has_place n (CellRule (UnusedPort net)) breaks = (net.0, refl)
has_place n (CellRule (Cycle cell)) breaks = (cell.0, refl)
has_place n (CellRule (Unpaired cell)) breaks = (cell.0, refl)
has_place n (CellRule (Mixed cell)) breaks = (cell.0, refl)
has_place n (CellRule (Loose cell)) breaks = (cell.0, refl)
has_place n (CellRule CellMemory) breaks = absurd breaks
has_place n (NoChain rule) breaks = (rule, refl)
has_place n (TooWide number) breaks = (number, refl)
has_place n TooLong breaks = (0, refl)
has_place n Memory breaks = (0, refl)

module _ (n : NetlistData) (is : IsNetlist n) where
  -- the first five rules leave the netlist free
  free_before : RulesBelow n 7 → IsFree n
  free_before before = record {
    ports_read = before PortsRead (omega arith);
    off_cycles = before OffCycles (omega arith);
    paired = before InPairs (omega arith);
    unmixed = before Unmixed (omega arith);
    tied = before Tied (omega arith);
  }

  -- the first inner rule that fails has one number
  inner_is_one : (i j : ℕ) → BreaksInner n i → BreaksInner n j → i ≡ j
  inner_is_one i j at_i at_j = first_is_one (λ k. (r : InnerRule) → inner_number r ≡ k → InnerHolds n r) i j (first_inner i at_i) (first_inner j at_j)
    where
      first_inner : (k : ℕ) → BreaksInner n k → FailsFirst (λ number. (r : InnerRule) → inner_number r ≡ number → InnerHolds n r) k
      first_inner k at = record {
        fails = λ holds. at.broken (holds at.rule at.is);
        before = λ q less r of. at.before r (subst (λ number. number < k) (sym of) less);
      }

  -- the first wide bank has one number
  number_is_one : (i j : ℕ) → RulesBelow n 7 → BreaksRule n (TooWide i) → BreaksRule n (TooWide j) → i ≡ j
  number_is_one i j before (xs, chain_x, some_i, first_i) (ys, chain_y, some_j, first_j) =
      let same : xs ≡ ys = chain_is_one n is (free_before before) (before Chained (omega arith) TwoEnds) xs ys chain_x chain_y in
      let first = subst (λ banks. FailsFirst (λ k. (bank : ℕ) → slice_get banks k ≡ Some bank → IsNarrow n bank) (i - 1)) same first_i in
      let places : i - 1 ≡ j - 1 = first_is_one (λ k. (bank : ℕ) → slice_get ys k ≡ Some bank → IsNarrow n bank) (i - 1) (j - 1) first first_j in
      omega (arith, some_i, some_j, places)

  -- a rule breaks first at one place, so the places give one fault
  same_at_places : (f : ShapeFault) (j : ℕ) → RulesBelow n (rule_of f) → BreaksRule n f → BreaksRule n (fault_at (rule_of f) j) → f ≡ fault_at (rule_of f) j
  same_at_places (CellRule (UnusedPort net)) j before at_i at_j = ap (fault_at 1) (first_is_one (IsReadPort n) net.0 j at_i at_j)
  same_at_places (CellRule (Cycle cell)) j before at_i at_j = ap (fault_at 2) (first_is_one (AtCell IsOffCycles n) cell.0 j at_i at_j)
  same_at_places (CellRule (Unpaired cell)) j before at_i at_j = ap (fault_at 3) (first_is_one (AtCell IsPaired n) cell.0 j at_i at_j)
  same_at_places (CellRule (Mixed cell)) j before at_i at_j = ap (fault_at 4) (first_is_one (AtCell IsUnmixed n) cell.0 j at_i at_j)
  same_at_places (CellRule (Loose cell)) j before at_i at_j = ap (fault_at 5) (first_is_one (AtCell IsTied n) cell.0 j at_i at_j)
  same_at_places (CellRule CellMemory) j before at_i at_j = absurd at_i
  same_at_places (NoChain i) j before at_i at_j = ap NoChain (inner_is_one i j at_i at_j)
  same_at_places (TooWide i) j before at_i at_j = ap TooWide (number_is_one i j before at_i at_j)
  same_at_places TooLong j before at_i at_j = refl
  same_at_places Memory j before at_i at_j = refl

  -- faults of one rule are the same
  same_of_rule : (f g : ShapeFault) → rule_of f ≡ rule_of g → Broken n f → Broken n g → f ≡ g
  same_of_rule f g rules broken_f broken_g =
      let (j, at_j) = has_place n g broken_g.breaks in
      let at_g : fault_at (rule_of f) j ≡ g = ap (λ r. fault_at r j) rules ∙ at_j in
      same_at_places f j broken_f.before broken_f.breaks (subst (BreaksRule n) (sym at_g) broken_g.breaks) ∙ at_g

  -- no fault is of an earlier rule than the first fault
  no_earlier : (f g : ShapeFault) → Broken n f → Broken n g → rule_of f ≤ rule_of g
  no_earlier f g broken_f broken_g =
      elim (cases_lt (rule_of g) (rule_of f)) [
        | inl less ↦ absurd (rule_fails n g broken_g.breaks (λ r of. broken_f.before r (subst (λ number. number < rule_of f) (sym of) less)))
        | inr most ↦ most
      ]

  -- so a netlist has at most one fault
  pub first_broken_is_one : (f g : ShapeFault) → Broken n f → Broken n g → f ≡ g
  first_broken_is_one f g broken_f broken_g =
      let most = no_earlier f g broken_f broken_g in
      let least = no_earlier g f broken_g broken_f in
      same_of_rule f g (omega (arith, most, least)) broken_f broken_g
