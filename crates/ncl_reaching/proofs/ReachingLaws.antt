-- What the first fault that inputs show says of all faults of a stage, and what an answer means.
use Rattle.ncl_reaching.proofs.Terms.{All-member, AreSoundWhereReached, Base, Bit, Bool, BothRails, BreaksBy, Cell, GoesWrongBy, Incomplete, Inputs, IsAfterBase, IsDelayInsensitive, IsFaultOf, IsRunTold, IsShown, IsSoundAt, IsSoundWhereReached, List, Member, Member-append_left, Member-append_right, Member-below, Member-file_order, Member-flat_map, Member-map, Member-words_by, NoRail, None, Option, Orphan, PipelineData, Rails, Shape, Shown, Some, StageCell, StageData, StageFault, Tells, Variant, Verdict, WrongRun, [], after_base, after_base-within, all_data, ap, arith, ascending-order, below, below_of_range, both_ways, brings, brings_fault, cases_eq, cell_number, false, faults_of, file_order, find-none, first-among, first_at, first_of, first_reached, first_shown, found-some, has_data, here, holds_at, incomplete, inl, inr, insensitive-reached, is_illegal, least_bringing, length, map, map-same, member_cases, member_of_flat_map, member_of_map, no_rail, not, option_map, orphan, refl, shown_by, shows, slice_get, slice_get-cases, slice_get-some, slice_get_within, subst, sym, there, true, val, variants, verdict_of, words, words-length, words_by-ascending, ℕ, ◌&&◌, ◌+◌, ◌-◌, ◌<◌, ◌∙◌, ◌∷◌, ◌≡◌, ◌≤◌, ◌⊎◌}
use Rattle.ncl_refusal.specs.Told.{both_rails}

-- ---- firsts

first-none : {X Y : Type 0} (f : X → Option Y) (xs : List X) → first_of (map f xs) ≡ None → (x : X) → Member x xs → f x ≡ None
first-none f [] none x m = elim m [ ]
first-none {X} {Y} f (y ∷ xs) none x m = by (f y) refl none (member_cases x y xs m) (λ rest n. first-none f xs rest x n)
  where
    by : (o : Option Y) → f y ≡ o → first_of (o ∷ map f xs) ≡ None → (y ≡ x) ⊎ Member x xs → (first_of (map f xs) ≡ None → Member x xs → f x ≡ None) → f x ≡ None
    by None e rest (inl same) later = ap f (sym same) ∙ e
    by None e rest (inr n) later = later rest n
    by (Some v) e rest at later = absurd cc

-- the faults that are asked are of the stage
pub faults-within : (s : StageData) (variant : Variant) → Member variant (variants s) → (fault : StageFault) → Member fault (faults_of s variant) → IsFaultOf s fault
faults-within s variant here fault m =
    let (output, n, two) = member_of_flat_map (λ output. BothRails output ∷ NoRail output ∷ []) (below (length s.outputs)) fault m in
    of_output output fault two (let lt = below_of_range 0 (length s.outputs) output n in omega (arith, lt))
  where
    of_output : (output : ℕ) (fault : StageFault) → Member fault (BothRails output ∷ NoRail output ∷ []) → output < length s.outputs → IsFaultOf s fault
    of_output output fault here lt = lt
    of_output output fault (there here) lt = lt
    of_output output fault (there (there m)) lt = elim m [ ]
faults-within s variant (there m) fault n = of_variant variant (All-member (IsAfterBase s) (after_base s) (after_base-within s) variant m) fault n
  where
    of_variant : (variant : Variant) → IsAfterBase s variant → (fault : StageFault) → Member fault (faults_of s variant) → IsFaultOf s fault
    of_variant Base after fault n = absurd after
    of_variant (Bit bit) after fault here = after
    of_variant (Bit bit) after fault (there n) = elim n [ ]
    of_variant (Cell place) after fault here = after
    of_variant (Cell place) after fault (there n) = elim n [ ]

-- so what is first goes by the inputs that show these faults
pub first-same : (s : StageData) (f g : Inputs) → ((fault : StageFault) → IsFaultOf s fault → f fault ≡ g fault) → first_shown f s ≡ first_shown g s
first-same s f g same =
    ap first_of (map-same (first_at f s) (first_at g s) (variants s) (λ variant m.
    ap first_of (map-same (shown_by f) (shown_by g) (faults_of s variant) (λ fault n. ap (option_map (λ input. (fault, input))) (same fault (faults-within s variant m fault n))))))

-- where nothing is found no input shows a fault
unshown : (inputs : Inputs) (fault : StageFault) → shown_by inputs fault ≡ None → inputs fault ≡ None
unshown inputs fault e = by (inputs fault) e
  where
    by : (o : Option (List Bool)) → shown_by (λ f. o) fault ≡ None → o ≡ None
    by None e = refl
    by (Some input) e = absurd cc

module _ (inputs : Inputs) (s : StageData) where
  none-of : first_shown inputs s ≡ None → (variant : Variant) → Member variant (variants s) → (fault : StageFault) → Member fault (faults_of s variant) → inputs fault ≡ None
  none-of none variant m fault n = unshown inputs fault (first-none (shown_by inputs) (faults_of s variant) (first-none (first_at inputs s) (variants s) none variant m) fault n)

  of_output : (output : ℕ) → output < length s.outputs → (fault : StageFault) → Member fault (BothRails output ∷ NoRail output ∷ []) → Member fault (faults_of s Base)
  of_output output within fault m = Member-flat_map (λ k. BothRails k ∷ NoRail k ∷ []) output fault (Member-below (length s.outputs) output within) m

  pub none-shown : first_shown inputs s ≡ None → (fault : StageFault) → IsFaultOf s fault → inputs fault ≡ None
  none-shown none (BothRails output) within = none-of none Base here (BothRails output) (of_output output within (BothRails output) here)
  none-shown none (NoRail output) within = none-of none Base here (NoRail output) (of_output output within (NoRail output) (there here))
  none-shown none (Incomplete bit) within = none-of none (Bit bit) (there (Member-append_left (Bit bit) (map Cell (file_order s)) (Member-map Bit bit (Member-below (length s.inputs) bit within)))) (Incomplete bit) here
  none-shown none (Orphan place) within = none-of none (Cell place) (there (Member-append_right (map Bit (below (length s.inputs))) (Cell place) (Member-map Cell place (Member-file_order s place within)))) (Orphan place) here

  -- what is found is a fault of the stage, and its input
  pub some-shown : (fault : StageFault) (input : List Bool) → first_shown inputs s ≡ Some (fault, input) → IsFaultOf s fault × (inputs fault ≡ Some input)
  some-shown fault input e =
      let (variant, m, at) = member_of_map (first_at inputs s) (variants s) (Some (fault, input)) (first-among (map (first_at inputs s) (variants s)) (fault, input) e) in
      let (other, n, is) = member_of_map (shown_by inputs) (faults_of s variant) (Some (fault, input)) (first-among (map (shown_by inputs) (faults_of s variant)) (fault, input) at) in
      of_fault other (faults-within s variant m other n) (inputs other) refl is
    where
      of_fault : (other : StageFault) → IsFaultOf s other → (o : Option (List Bool)) → inputs other ≡ o → shown_by (λ f. o) other ≡ Some (fault, input) → IsFaultOf s fault × (inputs fault ≡ Some input)
      of_fault other within None at is = absurd cc
      of_fault other within (Some found) at is =
          let pair : (other, found) ≡ (fault, input) = unwrapped is in
          let same : other ≡ fault = ap (λ (x : Shown). x.0) pair in
          let word : found ≡ input = ap (λ (x : Shown). x.1) pair in
          (subst (IsFaultOf s) same within, ap inputs (sym same) ∙ at ∙ ap Some word)
        where
          unwrapped : {x y : Shown} → Some x ≡ Some y → x ≡ y
          unwrapped e = cc

-- ---- of a stage of a pipeline

module _ (p : PipelineData) (k : ℕ) (s : StageData) where
  -- no input brings a fault of which none is the least
  never : (fault : StageFault) → least_bringing p k s fault ≡ None → (input : List Bool) → length input ≡ length p.inputs → shows s (brings p.stages k input) fault ≡ false
  never fault none input wide =
      find-none (brings_fault p k s fault) (words (length p.inputs)) none input
      (subst (Member input) (words_by-ascending (length p.inputs)) (Member-words_by (length p.inputs) _ (ascending-order (length p.inputs)) input wide))

  pub sound-from_none : first_reached p k s ≡ None → (input : List Bool) → length input ≡ length p.inputs → IsSoundAt s (brings p.stages k input)
  sound-from_none none input wide (BothRails output) = elim (slice_get-cases s.outputs output) [
    | inl past ↦ ap (holds_at (is_illegal (val s (brings p.stages k input) Base))) past
    | inr within ↦ never (BothRails output) (none-shown (least_bringing p k s) s none (BothRails output) within) input wide
  ]
  sound-from_none none input wide (NoRail output) = elim (slice_get-cases s.outputs output) [
    | inl past ↦ ap (holds_at (λ r. not (has_data (val s (brings p.stages k input) Base) r))) past
    | inr within ↦ never (NoRail output) (none-shown (least_bringing p k s) s none (NoRail output) within) input wide
  ]
  sound-from_none none input wide (Incomplete bit) = elim (slice_get-cases s.inputs bit) [
    | inl past ↦ ap (holds_at (λ (r : Rails). all_data s (val s (brings p.stages k input) (Bit bit)))) past
    | inr within ↦ never (Incomplete bit) (none-shown (least_bringing p k s) s none (Incomplete bit) within) input wide
  ]
  sound-from_none none input wide (Orphan place) = elim (slice_get-cases s.cells place) [
    | inl past ↦ ap (holds_at (λ (c : StageCell). val s (brings p.stages k input) Base c.out.0 && all_data s (val s (brings p.stages k input) (Cell place)))) past
    | inr within ↦ never (Orphan place) (none-shown (least_bringing p k s) s none (Orphan place) within) input wide
  ]

  -- the input of the first that is brought, and what it shows
  pub record IsBrought (fault : StageFault) (input : List Bool) : Type 0 where
    pub of_stage : IsFaultOf s fault
    pub wide : length input ≡ length p.inputs
    pub shown : shows s (brings p.stages k input) fault ≡ true
    pub least : least_bringing p k s fault ≡ Some input

  pub brought-from_some : (fault : StageFault) (input : List Bool) → first_reached p k s ≡ Some (fault, input) → IsBrought fault input
  brought-from_some fault input e =
      let (within, least) = some-shown (least_bringing p k s) s fault input e in
      let (m, shown) = found-some (brings_fault p k s fault) (words (length p.inputs)) input least in
      record { of_stage = within; wide = words-length (length p.inputs) input m; shown = shown; least = least }

-- ---- the answers

-- one stage more is sound where reached
pub sound-more : (p : PipelineData) (k : ℕ) (s : StageData) → slice_get p.stages k ≡ Some s → AreSoundWhereReached p k → ((input : List Bool) → length input ≡ length p.inputs → IsSoundAt s (brings p.stages k input)) → AreSoundWhereReached p (k + 1)
sound-more p k s at before own input wide i t lt at_t = elim (cases_eq i k) [
  | inl e ↦
      let same : s ≡ t = let moved : slice_get p.stages k ≡ Some t = ap (slice_get p.stages) (sym e) ∙ at_t in cc in
      subst (λ (x : StageData). IsSoundAt x (brings p.stages i input)) same (subst (λ j. IsSoundAt s (brings p.stages j input)) (sym e) (own input wide))
  | inr apart ↦ before input wide i t (omega (arith, lt, apart)) at_t
]

pub all-sound : (p : PipelineData) (k : ℕ) → length p.stages ≤ k → AreSoundWhereReached p k → IsSoundWhereReached p
all-sound p k past sound word wide i s at = sound word wide i s (let within = slice_get_within p.stages i s at in omega (arith, within, past)) at

tells-of : (s : StageData) (fault : StageFault) (word : List Bool) → Tells s.number word (verdict_of s fault word)
tells-of s (BothRails output) word = both_rails (output + 1)
tells-of s (NoRail output) word = no_rail (output + 1)
tells-of s (Incomplete bit) word = incomplete (bit + 1)
tells-of s (Orphan place) word = orphan (cell_number (slice_get s.cells place))

-- a stage goes by its place, from 1 on
pub number-is : (p : PipelineData) → Shape p.netlist p → (k : ℕ) (s : StageData) → slice_get p.stages k ≡ Some s → s.number ≡ k + 1
number-is p shape k s at =
    let within : k < length p.stages = slice_get_within p.stages k s at in
    let many = shape.stages in
    let (b, at_b) = slice_get-some p.banks k (omega (arith, within, many)) in
    let (next, at_next) = slice_get-some p.banks (k + 1) (omega (arith, within, many)) in
    (shape.each_stage k b next s at_b at_next at).0

module _ (p : PipelineData) (shape : Shape p.netlist p) (k : ℕ) (s : StageData) (at : slice_get p.stages k ≡ Some s) (sound : AreSoundWhereReached p k)
    (fault : StageFault) (input : List Bool) (first : first_reached p k s ≡ Some (fault, input)) (verdict : Verdict) (is : verdict ≡ verdict_of s fault (brings p.stages k input)) where
  pub numbered : s.number ≡ k + 1
  numbered = number-is p shape k s at

  pub back : s.number - 1 ≡ k
  back = let e = numbered in omega (arith, e)

  pub is-shown : IsShown p input verdict
  is-shown =
      let brought = brought-from_some p k s fault input first in
      record {
        number = s.number;
        counted = let e = numbered in omega (arith, e);
        word = brings p.stages k input;
        tells = subst (Tells s.number (brings p.stages k input)) (sym is) (tells-of s fault (brings p.stages k input));
        wide = brought.wide;
        brought = ap (λ i. brings p.stages i input) back;
        stage = s;
        at = ap (slice_get p.stages) back ∙ at;
        fault = fault;
        is = sym is;
        shown = brought.shown;
        least = ap (λ i. least_bringing p i s fault) back ∙ brought.least;
        first = ap (λ i. first_reached p i s) back ∙ first;
        sound = subst (AreSoundWhereReached p) (sym back) sound;
      }

  -- the run of the fault goes wrong as the verdict says
  pub run-as_told : (run : Option WrongRun) → IsRunTold p (s.number - 1) input fault run → GoesWrongBy p input verdict run
  run-as_told None some = some
  run-as_told (Some run) (null, breaks) =
      let here : slice_get p.stages (s.number - 1) ≡ Some s = ap (slice_get p.stages) back ∙ at in
      let there = breaks.at in
      let one : breaks.stage ≡ s = cc in (
        null,
        record {
          number = s.number;
          word = brings p.stages k input;
          tells = subst (Tells s.number (brings p.stages k input)) (sym is) (tells-of s fault (brings p.stages k input));
          stage = s;
          at = here;
          fault = fault;
          is = sym is;
          breaks = subst (λ (t : StageData). BreaksBy p input t run.steps fault run.lost) one breaks.breaks;
        },
      )

-- what it means that one is shown
module _ (p : PipelineData) (shape : Shape p.netlist p) (input : List Bool) (verdict : Verdict) (is : IsShown p input verdict) where
  shown-there : shows is.stage (brings p.stages (is.number - 1) input) is.fault ≡ true
  shown-there = ap (λ w. shows is.stage w is.fault) is.brought ∙ is.shown

  pub shown-sensitive : IsDelayInsensitive p → ⊥
  shown-sensitive good = both_ways _ (insensitive-reached p shape good input is.wide (is.number - 1) is.stage is.at is.fault) shown-there
