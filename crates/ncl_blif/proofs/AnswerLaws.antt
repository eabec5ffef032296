-- A text has one answer.
use Rattle.ncl_blif.proofs.Terms.{All, BlifFault, Cycle, IsFaultless, IsFirstCycle, IsFirstModelFault, IsModelFault, IsRead, IsRefused, List, Model, NamedCover, NamedModel, Some, ap, arith, cases_lt, cycle, get_or-take, get_or_from_slice_get, inl, inr, length, length-take, line, model, no_bits, option_map, refl, slice_get, slice_get_within, subst, sym, take, undriven, width, ℕ, ⊎_elim, ◌+◌, ◌<◌, ◌∙◌, ◌≡◌}

-- the first cycle stands in one line
pub one_first_cycle : (m : NamedModel) (a b : ℕ) → IsFirstCycle m a → IsFirstCycle m b → a ≡ b
one_first_cycle m a b f g =
    ⊎_elim
    (λ lower. absurd (g.none_before f.place lower f.cyclic))
    (λ not_lower. ⊎_elim
    (λ higher. absurd (f.none_before g.place higher g.cyclic))
    (λ not_higher.
    let same : f.place ≡ g.place = omega arith in
    let e : Some a ≡ Some b = sym f.begins ∙ ap (λ k. option_map (λ (c : NamedCover). c.line) (slice_get m.covers k)) same ∙ g.begins in
    cc)
    (cases_lt g.place f.place))
    (cases_lt f.place g.place)

-- a model without a fault has none
pub faultless_is_unbroken : (number : ℕ) (m : NamedModel) (fault : BlifFault) → IsFaultless m → IsModelFault number m fault → ⊥
faultless_is_unbroken number m fault fine (no_bits (inl none)) = absurd (omega (arith, fine.bits.0))
faultless_is_unbroken number m fault fine (no_bits (inr none)) = absurd (omega (arith, fine.bits.1))
faultless_is_unbroken number m fault fine (undriven n bits at) = absurd (let e = sym fine.driven ∙ at in cc)
faultless_is_unbroken number m fault fine (cycle n bits driven first) = fine.no_cycle first.place first.cyclic

-- a model has one fault
pub one_model_fault : (number : ℕ) (m : NamedModel) (f g : BlifFault) → IsModelFault number m f → IsModelFault number m g → f ≡ g
one_model_fault number m f g (no_bits a) (no_bits b) = refl
one_model_fault number m f g (no_bits (inl a)) (undriven n bits at) = absurd (omega (arith, bits.0))
one_model_fault number m f g (no_bits (inr a)) (undriven n bits at) = absurd (omega (arith, bits.1))
one_model_fault number m f g (no_bits (inl a)) (cycle n bits driven first) = absurd (omega (arith, bits.0))
one_model_fault number m f g (no_bits (inr a)) (cycle n bits driven first) = absurd (omega (arith, bits.1))
one_model_fault number m f g (undriven n bits at) (no_bits (inl a)) = absurd (omega (arith, bits.0))
one_model_fault number m f g (undriven n bits at) (no_bits (inr a)) = absurd (omega (arith, bits.1))
one_model_fault number m f g (undriven n bits at) (undriven k more here) = let e = sym at ∙ here in cc
one_model_fault number m f g (undriven n bits at) (cycle k more driven first) = absurd (let e = sym at ∙ driven in cc)
one_model_fault number m f g (cycle n bits driven first) (no_bits (inl a)) = absurd (omega (arith, bits.0))
one_model_fault number m f g (cycle n bits driven first) (no_bits (inr a)) = absurd (omega (arith, bits.1))
one_model_fault number m f g (cycle n bits driven first) (undriven k more here) = absurd (let e = sym here ∙ driven in cc)
one_model_fault number m f g (cycle n bits driven first) (cycle k more again other) = ap Cycle (one_first_cycle m n k first other)

-- a place before the broken model is faultless
faultless_at : (models : List NamedModel) (place k : ℕ) (m : NamedModel) → All IsFaultless (take place models) → k < place → slice_get models k ≡ Some m → IsFaultless m
faultless_at models place k m fine lower at =
    let within = slice_get_within models k m at in
    let short : k < length (take place models) = omega (arith, length-take place models) in
    subst IsFaultless (get_or-take place models k m lower ∙ get_or_from_slice_get models k m m at) (fine k m short)

-- models have one first fault
pub one_first_fault : (models : List NamedModel) (f g : BlifFault) → IsFirstModelFault models f → IsFirstModelFault models g → f ≡ g
one_first_fault models f g a b =
    ⊎_elim
    (λ lower. absurd (faultless_is_unbroken (a.place + 1) a.broken f (faultless_at models b.place a.place a.broken b.faultless_before lower a.at) a.breaks))
    (λ not_lower. ⊎_elim
    (λ higher. absurd (faultless_is_unbroken (b.place + 1) b.broken g (faultless_at models a.place b.place b.broken a.faultless_before higher b.at) b.breaks))
    (λ not_higher.
    let same : a.place ≡ b.place = omega arith in
    let one : Some a.broken ≡ Some b.broken = sym a.at ∙ ap (slice_get models) same ∙ b.at in
    let m : a.broken ≡ b.broken = cc in
    one_model_fault (b.place + 1) b.broken f g
    (subst (λ (x : NamedModel). IsModelFault (b.place + 1) x f) m (subst (λ n. IsModelFault (n + 1) a.broken f) same a.breaks)) b.breaks)
    (cases_lt b.place a.place))
    (cases_lt a.place b.place)

-- models without a fault have no first one
pub all_faultless : (models : List NamedModel) (f : BlifFault) → All IsFaultless models → IsFirstModelFault models f → ⊥
all_faultless models f fine first =
    let within = slice_get_within models first.place first.broken first.at in
    faultless_is_unbroken (first.place + 1) first.broken f
    (subst IsFaultless (get_or_from_slice_get models first.place first.broken first.broken first.at) (fine first.place first.broken within)) first.breaks

-- a text that is read isn't refused
pub read_is_not_refused : (text : List ℕ) (models : List Model) (fault : BlifFault) → IsRead text models → IsRefused text fault → ⊥
read_is_not_refused text models fault read (line f at) = absurd (let e = sym read.lines ∙ at in cc)
read_is_not_refused text models fault read (model f fine first) = all_faultless _ f read.faultless first
read_is_not_refused text models fault read (width n fine faultless at) = absurd (let e = sym read.joined ∙ at in cc)

-- a text is refused with one fault
pub one_refusal : (text : List ℕ) (f g : BlifFault) → IsRefused text f → IsRefused text g → f ≡ g
one_refusal text f g (line a at) (line b here) = let e = sym at ∙ here in cc
one_refusal text f g (line a at) (model b fine first) = absurd (let e = sym at ∙ fine in cc)
one_refusal text f g (line a at) (width n fine faultless here) = absurd (let e = sym at ∙ fine in cc)
one_refusal text f g (model a fine first) (line b at) = absurd (let e = sym at ∙ fine in cc)
one_refusal text f g (model a fine first) (model b again other) = one_first_fault _ a b first other
one_refusal text f g (model a fine first) (width n again faultless at) = absurd (all_faultless _ a faultless first)
one_refusal text f g (width n fine faultless at) (line b here) = absurd (let e = sym here ∙ fine in cc)
one_refusal text f g (width n fine faultless at) (model b again first) = absurd (all_faultless _ b faultless first)
one_refusal text f g (width n fine faultless at) (width k again more here) = let e = sym at ∙ here in cc
