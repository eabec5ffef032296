-- Each text says models or is refused.
use Rattle.ncl_blif.proofs.Terms.{All, All-more, All-nil, BlifFault, Cycle, HasBits, IsFaultless, IsFirstModelFault, IsModelFault, IsRead, IsRefused, List, Model, NamedModel, NoBits, None, Some, Undriven, Width, [], arith, cases_eq, cycle, drivers_of, first_line_fault, first_or_none, get_or, get_or_default, inl, inr, length, line, lines_of, map, model, models_said, no_bits, numbered_model, refl, slice_get-get_or, subst, suc, take, take_all, undriven, undriven_line, unjoined_model, width, zero, ℕ, ◌+◌, ◌<◌, ◌≡◌, ◌≤◌, ◌⊎◌}
use Rattle.ncl_blif.proofs.OneDriver.{OneDriver, one_driver_each}
use Rattle.ncl_blif.proofs.NumberedLaws.{no_cover, twins_differ}
use Rattle.ncl_blif.proofs.FinishLaws.{graph_of, none_cyclic, first_cyclic, cycle_within}

-- a model has no fault or one
abbrev Settled : ℕ → NamedModel → Type 0
Settled number m = IsFaultless m ⊎ ((fault : BlifFault) × IsModelFault number m fault)

settled_cycles : (number : ℕ) (m : NamedModel) → OneDriver m → HasBits m → undriven_line m ≡ None → Settled number m
settled_cycles number m once bits driven =
    let differ = twins_differ (drivers_of m) once in
    elim (first_or_none (graph_of m)) [
      | inl none ↦ inl (record { bits = bits; driven = driven; no_cycle = none_cyclic m differ (graph_of m) refl none })
      | inr (place, on, none_before) ↦
          let cover = get_or m.covers place no_cover in
          let within = cycle_within m (graph_of m) refl place on in
          inr (Cycle cover.line, cycle cover.line bits driven (first_cyclic m differ (graph_of m) refl place on none_before cover (get_or_default m.covers place no_cover cover within)))
    ]

settled_drivers : (number : ℕ) (m : NamedModel) → OneDriver m → HasBits m → Settled number m
settled_drivers number m once bits =
    elim (undriven_line m) as (λ o. undriven_line m ≡ o → Settled number m) [
      | None ↦ λ none. settled_cycles number m once bits none
      | Some at ↦ λ some. inr (Undriven at, undriven at bits some)
    ] refl

settled : (number : ℕ) (m : NamedModel) → OneDriver m → Settled number m
settled number m once =
    elim (cases_eq (length m.inputs) 0) [
      | inl none ↦ inr (NoBits number, no_bits (inl none))
      | inr inputs ↦ elim (cases_eq (length m.outputs) 0) [
        | inl none ↦ inr (NoBits number, no_bits (inr none))
        | inr outputs ↦ settled_drivers number m once (omega arith, omega arith)
      ]
    ]

-- none of the first models has a fault, or there is a first fault
first_settled : (models : List NamedModel) → All OneDriver models → (n : ℕ) → n ≤ length models → All IsFaultless (take n models) ⊎ ((fault : BlifFault) × IsFirstModelFault models fault)
first_settled models once zero le = inl (All-nil IsFaultless)
first_settled models once (suc n) le =
    let d : NamedModel = record { name = []; inputs = []; outputs = []; covers = [] } in
    let within : n < length models = omega arith in
    let next : n + 1 ≡ suc n = omega arith in
    elim (first_settled models once n (omega arith)) [
      | inr found ↦ inr found
      | inl before ↦ elim (settled (n + 1) (get_or models n d) (once n d within)) [
        | inl fine ↦ inl (subst (λ k. All IsFaultless (take k models)) next (All-more IsFaultless models n (get_or models n d) within before (subst IsFaultless (get_or_default models n d (get_or models n d) within) fine)))
        | inr (fault, breaks) ↦ inr (fault, record { place = n; broken = get_or models n d; at = slice_get-get_or models n d within; breaks = breaks; faultless_before = before })
      ]
    ]

-- the models of a text have no fault, or there is a first one
models_settled : (models : List NamedModel) → All OneDriver models → All IsFaultless models ⊎ ((fault : BlifFault) × IsFirstModelFault models fault)
models_settled models once =
    elim (first_settled models once (length models) (omega arith)) [
      | inl fine ↦ inl (subst (All IsFaultless) (take_all (length models) models (omega arith)) fine)
      | inr found ↦ inr found
    ]

-- each text says models or is refused
pub some_answer : (text : List ℕ) → ((models : List Model) × IsRead text models) ⊎ ((fault : BlifFault) × IsRefused text fault)
some_answer text =
    let Answered : Type 0 = ((models : List Model) × IsRead text models) ⊎ ((fault : BlifFault) × IsRefused text fault) in
    elim (first_line_fault (lines_of text)) as (λ o. first_line_fault (lines_of text) ≡ o → Answered) [
      | Some fault ↦ λ broken. inr (fault, line fault broken)
      | None ↦ λ unbroken. elim (models_settled (models_said text) (one_driver_each (lines_of text) unbroken)) [
        | inr (fault, first) ↦ inr (fault, model fault unbroken first)
        | inl fine ↦ elim (unjoined_model 1 (models_said text)) as (λ o. unjoined_model 1 (models_said text) ≡ o → Answered) [
          | None ↦ λ joined. inl (map numbered_model (models_said text), record { lines = unbroken; faultless = fine; joined = joined; said = refl })
          | Some number ↦ λ unjoined. inr (Width number, width number unbroken fine unjoined)
        ] refl
      ]
    ] refl
