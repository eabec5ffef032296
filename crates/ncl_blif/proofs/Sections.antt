-- The models of parts, one after another.
use Rattle.ncl_blif.proofs.Terms.{BlifFault, Bool, List, NamedModel, None, PartData, Some, [], ap, append_assoc, arith, begins_model, cond, drivers_of, drop, drop-drop, false, first_part_fault, first_section_fault, flat_map, flat_map-append, length, length-append, length-drop, map, named_model, named_sections, not, option_or, prefix_len, refl, sections_of, signals_driven, suc, sym, take, take-append-drop, take_while-cons, true, unnamed_section, up_to_model, ℕ, ◌++◌, ◌+◌, ◌<◌, ◌∙◌, ◌∷◌, ◌≡◌, ◌≤◌}
use Rattle.ncl_blif.proofs.PartSteps.{named-same}

-- the first model of parts, with a name or without
sections-first : (part : PartData) (parts : List PartData) → sections_of (part ∷ parts) ≡ (part ∷ up_to_model parts) ∷ named_sections parts
sections-first part parts = rw (take_while-cons (λ part. not (begins_model part)) part parts) (step (begins_model part))
  where
    step : (b : Bool) → unnamed_section (cond (not b) (part ∷ up_to_model parts) []) ++ cond b ((part ∷ up_to_model parts) ∷ named_sections parts) (named_sections parts) ≡ (part ∷ up_to_model parts) ∷ named_sections parts
    step true = refl
    step false = refl

-- the models with names are those of the parts from the first .model on
named-rest : (parts : List PartData) → named_sections parts ≡ sections_of (drop (prefix_len (λ part. not (begins_model part)) parts) parts)
named-rest [] = refl
named-rest (part ∷ parts) = step (begins_model part) refl (named-rest parts)
  where
    step : (b : Bool) → begins_model part ≡ b → named_sections parts ≡ sections_of (drop (prefix_len (λ part. not (begins_model part)) parts) parts)
        → cond b ((part ∷ up_to_model parts) ∷ named_sections parts) (named_sections parts) ≡ sections_of (drop (cond (not b) (1 + prefix_len (λ part. not (begins_model part)) parts) 0) (part ∷ parts))
    step true is rest = sym (sections-first part parts)
    step false is rest =
        let more : 1 + prefix_len (λ part. not (begins_model part)) parts ≡ suc (prefix_len (λ part. not (begins_model part)) parts) = omega arith in
        rest ∙ ap (λ n. sections_of (drop n (part ∷ parts))) (sym more)

-- the parts of the first model, and the models of the others
pub section-cut : (parts : List PartData) (n : ℕ) → 0 < length parts → n ≡ 1 + prefix_len (λ part. not (begins_model part)) (drop 1 parts) → sections_of parts ≡ take n parts ∷ sections_of (drop n parts)
section-cut [] n some is = absurd (omega arith)
section-cut (part ∷ parts) n some is =
    let count : n ≡ suc (prefix_len (λ part. not (begins_model part)) parts) = omega arith in
    rw count (sections-first part parts ∙ ap (λ sections. (part ∷ up_to_model parts) ∷ sections) (named-rest parts))

-- the models of the parts as far as this place are drafted, and none of them breaks
pub record AreDrafted (parts : List PartData) (at : ℕ) (drafts : List NamedModel) : Type 0 where
  pub said : map named_model (sections_of parts) ≡ drafts ++ map named_model (sections_of (drop at parts))
  pub fault : first_section_fault (sections_of parts) ≡ first_section_fault (sections_of (drop at parts))
  pub within : at ≤ length parts

-- what the models from this place on break: the next one, or those after it
fault-on : (parts section : List PartData) (at n : ℕ) → sections_of (drop at parts) ≡ take n (drop at parts) ∷ sections_of (drop n (drop at parts)) → section ≡ take n (drop at parts)
    → first_section_fault (sections_of (drop at parts)) ≡ option_or (first_part_fault [] section) (first_section_fault (sections_of (drop (at + n) parts)))
fault-on parts section at n cut is = ap first_section_fault cut
    ∙ (let same = sym is in λ i. option_or (first_part_fault [] (same i)) (first_section_fault (sections_of (drop-drop n at parts i))))

pub drafted-more : (parts section : List PartData) (at n : ℕ) (drafts : List NamedModel) (draft : NamedModel) → AreDrafted parts at drafts → n ≤ length (drop at parts)
    → sections_of (drop at parts) ≡ take n (drop at parts) ∷ sections_of (drop n (drop at parts)) → section ≡ take n (drop at parts)
    → draft ≡ named_model section → first_part_fault [] section ≡ None → AreDrafted parts (at + n) (drafts ++ draft ∷ [])
drafted-more parts section at n drafts draft drafted fits cut is named none = record {
  said = drafted.said ∙ ap (λ sections. drafts ++ map named_model sections) cut
      ∙ (let same = ap named_model (sym is) ∙ sym named in λ i. drafts ++ same i ∷ map named_model (sections_of (drop-drop n at parts i)))
      ∙ sym (append_assoc drafts (draft ∷ []) (map named_model (sections_of (drop (at + n) parts))));
  fault = drafted.fault ∙ fault-on parts section at n cut is ∙ ap (λ o. option_or o (first_section_fault (sections_of (drop (at + n) parts)))) none;
  within = let before = drafted.within in omega (arith, length-drop at parts);
}

pub drafted-broken : (parts section : List PartData) (at n : ℕ) (drafts : List NamedModel) (fault : BlifFault) → AreDrafted parts at drafts
    → sections_of (drop at parts) ≡ take n (drop at parts) ∷ sections_of (drop n (drop at parts)) → section ≡ take n (drop at parts)
    → first_part_fault [] section ≡ Some fault → first_section_fault (sections_of parts) ≡ Some fault
drafted-broken parts section at n drafts fault drafted cut is broken =
    drafted.fault ∙ fault-on parts section at n cut is ∙ ap (λ o. option_or o (first_section_fault (sections_of (drop (at + n) parts)))) broken

-- the signals that the parts of one model give a driver are no more than those of all
pub section-room : (parts section : List PartData) (at n : ℕ) → section ≡ take n (drop at parts) → length (drivers_of (named_model section)) ≤ length (drivers_of (named_model parts))
section-room parts section at n is =
    let f = signals_driven in
    let rest = drop at parts in
    let all : flat_map f parts ≡ flat_map f (take at parts) ++ flat_map f rest = ap (flat_map f) (sym (take-append-drop at parts)) ∙ flat_map-append f (take at parts) rest in
    let part : flat_map f rest ≡ flat_map f section ++ flat_map f (drop n rest) =
    ap (flat_map f) (sym (take-append-drop n rest)) ∙ flat_map-append f (take n rest) (drop n rest) ∙ ap (λ s. flat_map f s ++ flat_map f (drop n rest)) (sym is) in
    omega (arith, ap length all, ap length part, length-append (flat_map f (take at parts)) (flat_map f rest), length-append (flat_map f section) (flat_map f (drop n rest)), (named-same parts).count, (named-same section).count)
