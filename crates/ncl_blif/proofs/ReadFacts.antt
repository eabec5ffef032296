-- A text that is read says models.
use Rattle.ncl_blif.proofs.Terms.{All, All-map, AreJoined, AreModels, Bool, Cover, IsFaultless, IsModel, LineData, List, NamedCover, NamedModel, NamedOutput, None, PartData, Some, Syntax, [], ap, arith, begins_model, cond, drivers_of, eqb, eqb-true, false, first_line_fault, first_section_fault, get_or, is_row, length, length-append, length-le-sum_by, length-map, length-range_with_len, lines_of, map, models_said, most_size, named_model, named_sections, not, numbered_cover, numbered_model, parts_of, refl, sections_of, signal_number, size_of_model, size_of_named, subst, sum_by, sum_by-cons, sum_by_more_le, sym, take_while, take_while-cons, true, unjoined_model, unnamed_section, up_to_model, weight_of_rows, ℕ, ◌+◌, ◌<◌, ◌∙◌, ◌∷◌, ◌≡◌, ◌≤◌}
use Rattle.ncl_blif.proofs.NumberedLaws.{twins_differ}
use Rattle.ncl_blif.proofs.OneDriver.{one_driver_each}
use Rattle.ncl_blif.proofs.ModelFacts.{IsModel-numbered}
use Rattle.ncl_blif.proofs.RowsFit.{all_rows_fit}
use Rattle.ncl_blif.proofs.ModelSizes.{models_said-size}

-- a map keeps a sum where it keeps each part
sum_by-map : {X Y : Type 0} (f : Y → ℕ) (g : X → ℕ) (h : X → Y) → ((x : X) → f (h x) ≡ g x) → (xs : List X) → sum_by f (map h xs) ≡ sum_by g xs
sum_by-map f g h same [] = refl
sum_by-map f g h same (x ∷ xs) =
    sum_by-cons f (h x) (map h xs) ∙ ap (λ n. n + sum_by f (map h xs)) (same x) ∙ ap (λ n. g x + n) (sum_by-map f g h same xs) ∙ sym (sum_by-cons g x xs)

-- how much there is to a cover
abbrev named_cover_size : NamedCover → ℕ
named_cover_size cover = 1 + length cover.ins + weight_of_rows cover.rows

-- numbers in place of names keep the size
size-numbered : (m : NamedModel) → size_of_model (numbered_model m) ≡ size_of_named m
size-numbered m =
    let inputs : length (numbered_model m).inputs ≡ length m.inputs = length-range_with_len 0 (length m.inputs) in
    let outputs : length (numbered_model m).outputs ≡ length m.outputs = length-map m.outputs (λ (output : NamedOutput). signal_number m output.signal) in
    let covers = sum_by-map (λ (cover : Cover). 1 + length cover.ins + weight_of_rows cover.rows) named_cover_size (numbered_cover m)
    (λ cover. ap (λ n. 1 + n + weight_of_rows cover.rows) (length-map cover.ins (signal_number m))) m.covers in
    omega (arith, inputs, outputs, covers)

-- the widths fit
joined_numbered : (number : ℕ) (models : List NamedModel) → unjoined_model number models ≡ None → AreJoined (map numbered_model models)
joined_numbered number [] h = tt
joined_numbered number (m ∷ []) h = tt
joined_numbered number (m ∷ next ∷ models) h =
    let Goal : Type 0 = AreJoined (map numbered_model (m ∷ next ∷ models)) in
    elim (eqb (length next.inputs) (length m.outputs)) as
    (λ b. eqb (length next.inputs) (length m.outputs) ≡ b → cond b (unjoined_model (number + 1) (next ∷ models)) (Some (number + 1)) ≡ None → Goal) [
      | true ↦ λ yes rest. (
        length-range_with_len 0 (length next.inputs) ∙ eqb-true _ _ yes ∙ sym (length-map m.outputs (λ (output : NamedOutput). signal_number m output.signal)),
        joined_numbered (number + 1) (next ∷ models) rest,
      )
      | false ↦ λ other found. absurd cc
    ] refl h

named_first : (part : PartData) (parts : List PartData) → begins_model part ≡ true → 0 < length (sections_of (part ∷ parts))
named_first part parts begins =
    let e : named_sections (part ∷ parts) ≡ (part ∷ up_to_model parts) ∷ named_sections parts =
    ap (λ b. cond b ((part ∷ up_to_model parts) ∷ named_sections parts) (named_sections parts)) begins in
    omega (arith, length-append (unnamed_section (up_to_model (part ∷ parts))) (named_sections (part ∷ parts)), ap length e)

unnamed_first : (part : PartData) (parts : List PartData) → begins_model part ≡ false → 0 < length (sections_of (part ∷ parts))
unnamed_first part parts other =
    let goes_on : PartData → Bool = λ p. not (begins_model p) in
    let e : up_to_model (part ∷ parts) ≡ part ∷ up_to_model parts =
    take_while-cons goes_on part parts ∙ ap (λ b. cond (not b) (part ∷ up_to_model parts) []) other in
    omega (arith, length-append (unnamed_section (up_to_model (part ∷ parts))) (named_sections (part ∷ parts)), ap (λ ps. length (unnamed_section ps)) e)

-- a part is of a model
some_section : (part : PartData) (parts : List PartData) → 0 < length (sections_of (part ∷ parts))
some_section part parts =
    elim (begins_model part) as (λ b. begins_model part ≡ b → 0 < length (sections_of (part ∷ parts))) [
      | true ↦ λ begins. named_first part parts begins
      | false ↦ λ other. unnamed_first part parts other
    ] refl

-- where no line is broken there is a model
pub some_model : (lines : List LineData) → first_line_fault lines ≡ None → 0 < length (map named_model (sections_of (parts_of lines)))
some_model [] h = absurd cc
some_model (line ∷ lines) h =
    let e = length-map (sections_of (parts_of (line ∷ lines))) named_model in
    elim (is_row line) as (λ b. is_row line ≡ b → 0 < length (map named_model (sections_of (parts_of (line ∷ lines))))) [
      | true ↦ λ row. absurd (let broken : first_line_fault (line ∷ lines) ≡ Some (Syntax line.number) =
          ap (λ b. cond b (Some (Syntax line.number)) (first_section_fault (sections_of (parts_of (line ∷ lines))))) row in
          let e = sym broken ∙ h in cc)
      | false ↦ λ command.
          let part : PartData = record { head = line; rows = take_while is_row lines } in
          let p : parts_of (line ∷ lines) ≡ part ∷ parts_of lines = ap (λ b. cond b (parts_of lines) (part ∷ parts_of lines)) command in
          omega (arith, e, subst (λ ps. 0 < length (sections_of ps)) (sym p) (some_section part (parts_of lines)))
    ] refl

-- what a text that is read says are models
pub AreModels-said : (text : List ℕ) → length text ≤ most_size → first_line_fault (lines_of text) ≡ None
    → All IsFaultless (models_said text) → unjoined_model 1 (models_said text) ≡ None → AreModels (map numbered_model (models_said text))
AreModels-said text short unbroken fine joined =
    let models = models_said text in
    let whole = sum_by-map size_of_model size_of_named numbered_model size-numbered models in
    let bound = models_said-size text in
    let fit = all_rows_fit (lines_of text) unbroken in
    let once = one_driver_each (lines_of text) unbroken in
    record {
      some = omega (arith, length-map models numbered_model, some_model (lines_of text) unbroken);
      each = All-map IsModel numbered_model models (λ k d within.
          IsModel-numbered (get_or models k d) (twins_differ (drivers_of (get_or models k d)) (once k d within)) (fit k d within) (fine k d within)
          (omega (arith, size-numbered (get_or models k d), sum_by_more_le size_of_named models k d within)));
      joined = joined_numbered 1 models joined;
      small = omega (arith, whole);
    }

-- covers are no more than their size
pub covers_sized : (covers : List NamedCover) → length covers ≤ sum_by named_cover_size covers
covers_sized covers = length-le-sum_by named_cover_size (λ cover. omega arith) covers

-- one model has no width that doesn't fit
pub unjoined_short : (number : ℕ) (models : List NamedModel) → length models ≤ 1 → unjoined_model number models ≡ None
unjoined_short number [] h = refl
unjoined_short number (m ∷ []) h = refl
unjoined_short number (m ∷ next ∷ models) h = absurd (omega arith)
