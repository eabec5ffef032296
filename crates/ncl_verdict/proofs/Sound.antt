-- An accepted pipeline is sound: no word of the inputs of any of its stages shows any fault.
use Rattle.ncl_verdict.proofs.Terms.{All, All-from_members, Base, Bit, Bool, BothRails, Cell, HasValidRails, Incomplete, IsSound, IsWordOf, List, Member, Member-append_left, Member-append_right, Member-map, Member-words_by, NoRail, None, Option, Orphan, Rails, Some, StageCell, StageData, StageFault, Stop, Variant, Verdict, [], all_data, ap, at_variant, bit_order, count, false, file_number, file_order, first_of, flat_map, found, has_data, here, holds_at, if◌then◌else◌, inl, inr, is_illegal, judgement, least_word, length, map, member_cases, nat_lt, not, of_stage, option_and_then, order-is, refl, shows, stopped_at, subst, there, true, val, variants, verdict_of, words_by, ℕ, ◌&&◌, ◌<◌, ◌∷◌, ◌≡◌}
use Rattle.ncl_verdict.specs.declared.verdict.Verdict.TheVariants as verdict
use Rattle.ncl_verdict.specs.Judgement.{below, faults_of}
use Rattle.ncl_verdict.proofs.Firsts.{first_of-none, none_of, find-none, Refuses, map-refuses, unwrap-refuses}
use Rattle.ncl_verdict.proofs.Places.{Member-below, Member-ordered_by, slice_get-cases}

-- no fault gives Accepted
verdict_of-refuses : (s : StageData) (fault : StageFault) (word : List Bool) → Refuses (Some (verdict_of s fault word))
verdict_of-refuses s (BothRails output) word = λ e. absurd cc
verdict_of-refuses s (NoRail output) word = λ e. absurd cc
verdict_of-refuses s (Incomplete bit) word = λ e. absurd cc
verdict_of-refuses s (Orphan cell) word = λ e. absurd cc

found-refuses : (s : StageData) (fault : StageFault) → Refuses (found s fault)
found-refuses s fault = by_word (least_word s fault)
  where
    by_word : (least : Option (List Bool)) → Refuses (option_and_then (λ word. Some (verdict_of s fault word)) least)
    by_word None = λ e. absurd cc
    by_word (Some word) = verdict_of-refuses s fault word

stopped_at-refuses : (limit : ℕ) (s : StageData) (variant : Variant) → Refuses (stopped_at limit s variant)
stopped_at-refuses limit s variant = by_test (nat_lt limit (count s variant))
  where
    by_test : (b : Bool) → Refuses (if b then Some (verdict.Limit s.number) else None)
    by_test true = λ e. absurd cc
    by_test false = λ e. absurd cc

at_variant-refuses : (limit : ℕ) (s : StageData) (variant : Variant) → Refuses (at_variant (stopped_at limit) s variant)
at_variant-refuses limit s variant = by_stop (stopped_at limit s variant) (stopped_at-refuses limit s variant)
  where
    by_stop : (stop : Option Verdict) → Refuses stop → Refuses (first_of (stop ∷ map (found s) (faults_of s variant)))
    by_stop None refuses = map-refuses (found s) (found-refuses s) (faults_of s variant)
    by_stop (Some v) refuses = refuses

pub of_stage-refuses : (limit : ℕ) (s : StageData) → Refuses (of_stage (stopped_at limit) s)
of_stage-refuses limit s = map-refuses (at_variant (stopped_at limit) s) (at_variant-refuses limit s) (variants s)

-- where nothing is found of a stage, nothing is found of a fault at a variant
found-none : (limit : ℕ) (s : StageData) → of_stage (stopped_at limit) s ≡ None → (variant : Variant) → Member variant (variants s) → (fault : StageFault) → Member fault (faults_of s variant) → found s fault ≡ None
found-none limit s none variant m fault n =
    let here_none : at_variant (stopped_at limit) s variant ≡ None = none_of (at_variant (stopped_at limit) s) (variants s) none variant m in
    first_of-none (stopped_at limit s variant ∷ map (found s) (faults_of s variant)) here_none (found s fault) (there (Member-map (found s) fault n))

-- where nothing is found of a fault, no word shows it
shows-none : (s : StageData) (fault : StageFault) → found s fault ≡ None → (word : List Bool) → IsWordOf s word → shows s word fault ≡ false
shows-none s fault none word is =
    find-none (λ w. shows s w fault) (words_by (bit_order s)) (no_word (least_word s fault) none) word
    (Member-words_by (length s.inputs) (bit_order s) (order-is s) word is)
  where
    no_word : (least : Option (List Bool)) → option_and_then (λ w. Some (verdict_of s fault w)) least ≡ None → least ≡ None
    no_word None e = refl
    no_word (Some w) e = absurd cc

-- the faults of an output are asked under Base
Member-outputs : (outputs : List ℕ) (output : ℕ) → Member output outputs → Member (BothRails output) (flat_map (λ k. BothRails k ∷ NoRail k ∷ []) outputs) × Member (NoRail output) (flat_map (λ k. BothRails k ∷ NoRail k ∷ []) outputs)
Member-outputs [] output m = elim m [ ]
Member-outputs (k ∷ outputs) output m =
    elim (member_cases output k outputs m) [
      | inl own ↦ subst (λ x. Member (BothRails x) (flat_map (λ k. BothRails k ∷ NoRail k ∷ []) (k ∷ outputs)) × Member (NoRail x) (flat_map (λ k. BothRails k ∷ NoRail k ∷ []) (k ∷ outputs))) own (here, there here)
      | inr n ↦ let (both, none) = Member-outputs outputs output n in (there (there both), there (there none))
    ]

Member-bit : (s : StageData) (bit : ℕ) → bit < length s.inputs → Member (Bit bit) (variants s)
Member-bit s bit lt = there (Member-append_left (Bit bit) (map Cell (file_order s)) (Member-map Bit bit (Member-below (length s.inputs) bit lt)))

Member-cell : (s : StageData) (cell : ℕ) → cell < length s.cells → Member (Cell cell) (variants s)
Member-cell s cell lt = there (Member-append_right (map Bit (below (length s.inputs))) (Cell cell) (Member-map Cell cell (Member-ordered_by (file_number s) (below (length s.cells)) cell (Member-below (length s.cells) cell lt))))

-- where nothing is found of a stage, it is sound
pub of_stage-sound : (limit : ℕ) (s : StageData) → of_stage (stopped_at limit) s ≡ None → IsSound s
of_stage-sound limit s none (BothRails output) word is =
    elim (slice_get-cases s.outputs output) [
      | inl past ↦ ap (holds_at (is_illegal (val s word Base))) past
      | inr within ↦ shows-none s (BothRails output) (found-none limit s none Base here (BothRails output) (Member-outputs (below (length s.outputs)) output (Member-below (length s.outputs) output within)).0) word is
    ]
of_stage-sound limit s none (NoRail output) word is =
    elim (slice_get-cases s.outputs output) [
      | inl past ↦ ap (holds_at (λ r. not (has_data (val s word Base) r))) past
      | inr within ↦ shows-none s (NoRail output) (found-none limit s none Base here (NoRail output) (Member-outputs (below (length s.outputs)) output (Member-below (length s.outputs) output within)).1) word is
    ]
of_stage-sound limit s none (Incomplete bit) word is =
    elim (slice_get-cases s.inputs bit) [
      | inl past ↦ ap (holds_at (λ (r : Rails). all_data s (val s word (Bit bit)))) past
      | inr within ↦ shows-none s (Incomplete bit) (found-none limit s none (Bit bit) (Member-bit s bit within) (Incomplete bit) here) word is
    ]
of_stage-sound limit s none (Orphan cell) word is =
    elim (slice_get-cases s.cells cell) [
      | inl past ↦ ap (holds_at (λ (c : StageCell). val s word Base c.out.0 && all_data s (val s word (Cell cell)))) past
      | inr within ↦ shows-none s (Orphan cell) (found-none limit s none (Cell cell) (Member-cell s cell within) (Orphan cell) here) word is
    ]

-- the stages of an accepted pipeline are sound
pub judgement-sound : (limit : ℕ) (stages : List StageData) → judgement limit stages ≡ verdict.Accepted → All IsSound stages
judgement-sound limit stages accepted =
    let none : first_of (map (of_stage (stopped_at limit)) stages) ≡ None =
    unwrap-refuses (first_of (map (of_stage (stopped_at limit)) stages)) (map-refuses (of_stage (stopped_at limit)) (of_stage-refuses limit) stages) accepted in
    All-from_members IsSound stages (λ s m. of_stage-sound limit s (none_of (of_stage (stopped_at limit)) stages none s m))

-- where nothing is said under Base, each output has one high rail
pub base-valid : (stop : Stop) (s : StageData) → at_variant stop s Base ≡ None → HasValidRails s
base-valid stop s none word is output = elim (slice_get-cases s.outputs output) [
  | inl past ↦ (ap (holds_at (is_illegal (val s word Base))) past, ap (holds_at (λ r. not (has_data (val s word Base) r))) past)
  | inr within ↦
      let (both, neither) = Member-outputs (below (length s.outputs)) output (Member-below (length s.outputs) output within) in
      (shows-none s (BothRails output) (unsaid (BothRails output) both) word is, shows-none s (NoRail output) (unsaid (NoRail output) neither) word is)
]
  where
    unsaid : (fault : StageFault) → Member fault (faults_of s Base) → found s fault ≡ None
    unsaid fault m = first_of-none (stop s Base ∷ map (found s) (faults_of s Base)) none (found s fault) (there (Member-map (found s) fault m))
