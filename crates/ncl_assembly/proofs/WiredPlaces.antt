-- An assembled netlist by place: what holds of its banks and stages, and how each joins the next.
use Rattle.ncl_assembly.proofs.Terms.{All-at, Bank, IsAssembled, IsWiredBank, IsWiredBit, IsWiredStage, NetlistData, PipelineData, Some, StageData, WiredBank, WiredBit, [], ap, arith, at_map, at_of_map, bank_of, cases_lt, inl, inr, length, length-map, map, rails_driven, rails_read, slice_get, slice_get-end, slice_get-kept, slice_get-some, slice_get_within, suc, sym, zero, ℕ, ◌++◌, ◌∙◌, ◌∷◌, ◌≡◌, ◌⊎◌}

-- the request and the root of a bank
abbrev pub request_of : WiredBank → ℕ
request_of b = b.request.0

abbrev pub root_of : WiredBank → ℕ
root_of b = b.root.0

module _ (n : NetlistData) (p : PipelineData) (is : IsAssembled n p) where
  -- the bank and the stage at a place, from 0
  abbrev pub BankAt : ℕ → WiredBank → Type 0
  BankAt k b = slice_get is.wired k ≡ Some b

  abbrev pub StageAt : ℕ → StageData → Type 0
  StageAt k s = slice_get p.stages k ≡ Some s

  pub wired_bank : (k : ℕ) (b : WiredBank) → BankAt k b → IsWiredBank n is.rst b
  wired_bank k b at = All-at (IsWiredBank n is.rst) is.wired is.each_bank k b at

  pub wired_bit : (k j : ℕ) (b : WiredBank) (w : WiredBit) → BankAt k b → slice_get b.bits j ≡ Some w → IsWiredBit n b.request is.rst w
  wired_bit k j b w at at_w = All-at (IsWiredBit n b.request is.rst) b.bits (wired_bank k b at).bits j w at_w

  pub wired_stage : (k : ℕ) (s : StageData) → StageAt k s → IsWiredStage n s
  wired_stage k s at = All-at (IsWiredStage n) p.stages is.each_stage k s at

  -- there is one more bank than there are stages
  pub as_many : length is.wired ≡ suc (length p.stages)
  as_many =
      omega (arith, ap length is.rails_in, length-map is.wired rails_read, length-map p.stages (λ (s : StageData). s.outputs))

  pub first_bank : (b : WiredBank) × BankAt zero b
  first_bank = let many = as_many in slice_get-some is.wired zero (omega (arith, many))

  -- a bank is followed by a stage and a bank, or is the last
  pub next_or_last : (k : ℕ) (b : WiredBank) → BankAt k b → ((s : StageData) × (next : WiredBank) × StageAt k s × BankAt (suc k) next) ⊎ (suc k ≡ length is.wired)
  next_or_last k b at =
      let many = as_many in
      let within = slice_get_within is.wired k b at in
      elim (cases_lt k (length p.stages)) [
        | inl inner ↦
            let (s, at_s) = slice_get-some p.stages k inner in
            let (next, at_next) = slice_get-some is.wired (suc k) (omega (arith, inner, many)) in
            inl (s, next, at_s, at_next)
        | inr past ↦ inr (omega (arith, past, many, within))
      ]

  -- a stage lies between two banks
  pub bank_before : (k : ℕ) (s : StageData) → StageAt k s → (b : WiredBank) × BankAt k b
  bank_before k s at =
      let many = as_many in
      let within = slice_get_within p.stages k s at in
      slice_get-some is.wired k (omega (arith, many, within))

  pub stage_before : (k : ℕ) (next : WiredBank) → BankAt (suc k) next → (s : StageData) × (b : WiredBank) × StageAt k s × BankAt k b
  stage_before k next at =
      let many = as_many in
      let within = slice_get_within is.wired (suc k) next at in
      let (s, at_s) = slice_get-some p.stages k (omega (arith, many, within)) in
      let (b, at_b) = slice_get-some is.wired k (omega (arith, many, within)) in
      (s, b, at_s, at_b)

  -- what each bank reads
  pub first_reads : (b : WiredBank) → BankAt zero b → rails_read b ≡ p.inputs
  first_reads b at =
      let here = at_map rails_read is.wired zero b at in
      let there : slice_get (map rails_read is.wired) zero ≡ Some p.inputs = ap (λ l. slice_get l zero) is.rails_in in
      cc

  pub next_reads : (k : ℕ) (s : StageData) (b : WiredBank) → StageAt k s → BankAt (suc k) b → rails_read b ≡ s.outputs
  next_reads k s b at_s at =
      let here = at_map rails_read is.wired (suc k) b at in
      let moved : slice_get (map rails_read is.wired) (suc k) ≡ slice_get (map (λ (s : StageData). s.outputs) p.stages) k = ap (λ l. slice_get l (suc k)) is.rails_in in
      let there = at_map (λ (s : StageData). s.outputs) p.stages k s at_s in
      cc

  -- what each bank drives
  pub stage_driven : (k : ℕ) (s : StageData) (b : WiredBank) → StageAt k s → BankAt k b → rails_driven b ≡ s.inputs
  stage_driven k s b at_s at =
      let here = at_map rails_driven is.wired k b at in
      let moved = ap (λ l. slice_get l k) is.rails_out in
      let there = slice_get-kept (map (λ (s : StageData). s.inputs) p.stages) p.outputs k s.inputs (at_map (λ (s : StageData). s.inputs) p.stages k s at_s) in
      cc

  pub last_driven : (k : ℕ) (b : WiredBank) → BankAt k b → suc k ≡ length is.wired → rails_driven b ≡ p.outputs
  last_driven k b at last =
      let many = as_many in
      let here = at_map rails_driven is.wired k b at in
      let moved = ap (λ l. slice_get l k) is.rails_out in
      let there = slice_get-end (map (λ (s : StageData). s.inputs) p.stages) p.outputs k (omega (arith, last, many, length-map p.stages (λ (s : StageData). s.inputs))) in
      cc

  -- how banks acknowledge
  pub first_root : (b : WiredBank) → BankAt zero b → b.root.0 ≡ p.ko
  first_root b at =
      let here = slice_get-kept (map root_of is.wired) p.ki zero b.root.0 (at_map root_of is.wired zero b at) in
      let there : slice_get (map root_of is.wired ++ p.ki ∷ []) zero ≡ Some p.ko = ap (λ l. slice_get l zero) is.roots in
      cc

  pub next_root : (k : ℕ) (b next : WiredBank) → BankAt k b → BankAt (suc k) next → next.root.0 ≡ b.request.0
  next_root k b next at at_next =
      let here = slice_get-kept (map root_of is.wired) p.ki (suc k) next.root.0 (at_map root_of is.wired (suc k) next at_next) in
      let moved : slice_get (map root_of is.wired ++ p.ki ∷ []) (suc k) ≡ slice_get (map request_of is.wired) k = ap (λ l. slice_get l (suc k)) is.roots in
      let there = at_map request_of is.wired k b at in
      cc

  pub last_request : (k : ℕ) (b : WiredBank) → BankAt k b → suc k ≡ length is.wired → b.request.0 ≡ p.ki
  last_request k b at last =
      let here = slice_get-end (map root_of is.wired) p.ki (suc k) (omega (arith, last, length-map is.wired root_of)) in
      let moved : slice_get (map root_of is.wired ++ p.ki ∷ []) (suc k) ≡ slice_get (map request_of is.wired) k = ap (λ l. slice_get l (suc k)) is.roots in
      let there = at_map request_of is.wired k b at in
      cc

  -- the banks of the pipeline
  pub bank_at : (k : ℕ) (b : WiredBank) → BankAt k b → slice_get p.banks k ≡ Some (bank_of b)
  bank_at k b at = ap (λ l. slice_get l k) is.banks ∙ at_map bank_of is.wired k b at

  pub bank_is_wired : (k : ℕ) (bank : Bank) → slice_get p.banks k ≡ Some bank → (b : WiredBank) × BankAt k b × (bank_of b ≡ bank)
  bank_is_wired k bank at = at_of_map bank_of is.wired k bank (ap (λ l. slice_get l k) (sym is.banks) ∙ at)
