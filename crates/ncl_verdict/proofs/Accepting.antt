-- Sound stages are accepted, or one of them passes the limit.
use Rattle.ncl_verdict.proofs.Terms.{All, All-contains, AreWithin, Bool, Contains-from_Member, IsSound, IsWithin, List, Member, Member-from_Contains, None, Option, Some, StageData, StageFault, Variant, Verdict, [], ap, arith, at_variant, bit_order, count, false, find, first_of, found, here, if◌then◌else◌, inl, inr, judgement, leb_tells, map, member_cases, of_stage, option_and_then, order-is, refl, shows, stopped_at, subst, suc, there, unwrap_or, variants, verdict_of, words_by, words_by-length, ℕ, ◌<◌, ◌∙◌, ◌∷◌, ◌≡◌, ◌≤◌, ◌⊎◌}
use Rattle.std.specs.Prelude.{cond}
use Rattle.ncl_verdict.specs.declared.verdict.Verdict.TheVariants as verdict
use Rattle.ncl_verdict.specs.Judgement.{faults_of}

-- where no item passes, nothing is found
find-nothing : {X : Type 0} (test : X → Bool) (xs : List X) → ((x : X) → Member x xs → test x ≡ false) → find test xs ≡ None
find-nothing test [] fails = refl
find-nothing test (x ∷ xs) fails = ap (λ b. cond b (Some x) (find test xs)) (fails x here) ∙ find-nothing test xs (λ y m. fails y (there m))

-- where each answer is none, the first is
first-none : {X : Type 0} (f : X → Option Verdict) (xs : List X) → ((x : X) → Member x xs → f x ≡ None) → first_of (map f xs) ≡ None
first-none f [] none = refl
first-none f (x ∷ xs) none = ap (λ answer. first_of (answer ∷ map f xs)) (none x here) ∙ first-none f xs (λ y m. none y (there m))

-- no fault of a sound stage is found
found-nothing : (s : StageData) → IsSound s → (fault : StageFault) → found s fault ≡ None
found-nothing s sound fault =
    ap (option_and_then (λ word. Some (verdict_of s fault word)))
    (find-nothing (λ word. shows s word fault) (words_by (bit_order s)) (λ word m. sound fault word (words_by-length (bit_order s) word m ∙ (order-is s).many)))

-- a variant of a sound stage passes the limit, or nothing is found
at_variant-sound : (limit : ℕ) (s : StageData) → IsSound s → (variant : Variant) → ((limit < count s variant) × (at_variant (stopped_at limit) s variant ≡ Some (verdict.Limit s.number))) ⊎ ((count s variant ≤ limit) × (at_variant (stopped_at limit) s variant ≡ None))
at_variant-sound limit s sound variant =
    let nothing = first-none (found s) (faults_of s variant) (λ fault m. found-nothing s sound fault) in
    elim (leb_tells (suc limit) (count s variant)) [
      | inl over ↦ inl (omega (arith, over.1), ap (λ b. first_of ((if b then Some (verdict.Limit s.number) else None) ∷ map (found s) (faults_of s variant))) over.0)
      | inr within ↦ inr (omega (arith, within.1), ap (λ b. first_of ((if b then Some (verdict.Limit s.number) else None) ∷ map (found s) (faults_of s variant))) within.0 ∙ nothing)
    ]

-- of some variants one passes the limit, or nothing is found
variants-sound : (limit : ℕ) (s : StageData) → IsSound s → (vs : List Variant) → ((variant : Variant) × Member variant vs × (limit < count s variant) × (first_of (map (at_variant (stopped_at limit) s) vs) ≡ Some (verdict.Limit s.number))) ⊎ (((variant : Variant) → Member variant vs → count s variant ≤ limit) × (first_of (map (at_variant (stopped_at limit) s) vs) ≡ None))
variants-sound limit s sound [] = inr (λ variant m. elim m [ ], refl)
variants-sound limit s sound (v ∷ vs) =
    elim (at_variant-sound limit s sound v) [
      | inl over ↦ inl (v, here, over.0, ap (λ answer. first_of (answer ∷ map (at_variant (stopped_at limit) s) vs)) over.1)
      | inr within ↦
          let front = ap (λ answer. first_of (answer ∷ map (at_variant (stopped_at limit) s) vs)) within.1 in
          elim (variants-sound limit s sound vs) [
            | inl later ↦ inl (later.0, there later.1, later.2, front ∙ later.3)
            | inr all ↦ inr (λ variant m. elim (member_cases variant v vs m) [ inl first ↦ subst (λ x. count s x ≤ limit) first within.0 | inr n ↦ all.0 variant n ], front ∙ all.1)
          ]
    ]

-- where none passes the limit, nothing is found of a sound stage
pub sound-none : (limit : ℕ) (s : StageData) → IsSound s → IsWithin limit s → of_stage (stopped_at limit) s ≡ None
sound-none limit s sound within = elim (variants-sound limit s sound (variants s)) [
  | inl over ↦ (let fits = within over.0 (Contains-from_Member over.0 over.1) in absurd (omega (arith, over.2)))
  | inr all ↦ all.1
]

-- so of some stages
stages-sound : (limit : ℕ) (stages : List StageData) → ((s : StageData) → Member s stages → IsSound s) → ((s : StageData) × Member s stages × (IsWithin limit s → ⊥) × (judgement limit stages ≡ verdict.Limit s.number)) ⊎ (((s : StageData) → Member s stages → IsWithin limit s) × (first_of (map (of_stage (stopped_at limit)) stages) ≡ None))
stages-sound limit [] sound = inr (λ s m. elim m [ ], refl)
stages-sound limit (s ∷ stages) sound =
    elim (variants-sound limit s (sound s here) (variants s)) [
      | inl over ↦ inl (
        s,
        here,
        λ within. let fits = within over.0 (Contains-from_Member over.0 over.1) in omega (arith, over.2),
        ap (λ answer. unwrap_or (first_of (answer ∷ map (of_stage (stopped_at limit)) stages)) verdict.Accepted) over.3,
      )
      | inr all ↦
          let front = ap (λ answer. first_of (answer ∷ map (of_stage (stopped_at limit)) stages)) all.1 in
          elim (stages-sound limit stages (λ t m. sound t (there m))) [
            | inl later ↦ inl (later.0, there later.1, later.2, ap (λ answer. unwrap_or answer verdict.Accepted) front ∙ later.3)
            | inr rest ↦ inr (
              λ t m. elim (member_cases t s stages m) [ inl first ↦ subst (IsWithin limit) first (λ variant c. all.0 variant (Member-from_Contains (variants s) variant c)) | inr n ↦ rest.0 t n ],
              front ∙ rest.1,
            )
          ]
    ]

-- sound stages are accepted where all stay within the limit, and else one of them is told to pass it
pub sound_verdict : (limit : ℕ) (stages : List StageData) → All IsSound stages → (AreWithin limit stages × (judgement limit stages ≡ verdict.Accepted)) ⊎ ((AreWithin limit stages → ⊥) × ((number : ℕ) × (judgement limit stages ≡ verdict.Limit number)))
sound_verdict limit stages sound =
    elim (stages-sound limit stages (λ s m. All-contains IsSound stages s sound (Contains-from_Member s m))) [
      | inl over ↦ inr (λ within. over.2 (within over.0 (Contains-from_Member over.0 over.1)), (over.0.number, over.3))
      | inr all ↦ inl (λ s c. all.0 s (Member-from_Contains stages s c), ap (λ answer. unwrap_or answer verdict.Accepted) all.1)
    ]
