-- What a part says, by its command.
use Rattle.ncl_blif.proofs.Terms.{Bool, Command, End, Inputs, LineData, List, NamedCover, NamedModel, Names, Outputs, PartData, [], ap, append-nil, append_assoc, arith, bytes_eq, codes, cover_of, covers_said, drivers_of, false, field_of, first_field, has_twins, inputs_said, is_command, is_driven, is_names, later_fields, length, list_any, map, map_push, outputs_said, refl, slice_get, sym, true, unwrap_or, ℕ, ◌++◌, ◌||◌, ◌∙◌, ◌∷◌, ◌≡◌, ◌≤◌}
use Rattle.ncl_blif.specs.declared.command.Command.TheVariants.{Model}
use Rattle.ncl_blif.proofs.Twins.{twins-middle}

-- the model with what a part says added
abbrev pub with_part : NamedModel → PartData → NamedModel
with_part model part = record model {
  inputs = model.inputs ++ inputs_said part;
  outputs = model.outputs ++ outputs_said part;
  covers = model.covers ++ covers_said part;
}

-- what .outputs and .names add
pub with_part-outputs : (model : NamedModel) (part : PartData) → first_field part.head ≡ codes ".outputs" → with_part model part ≡ record model { outputs = model.outputs ++ map (λ signal. record { line = part.head.number; signal = signal }) (later_fields part.head) }
with_part-outputs model part field = rw (field, append-nil model.inputs, append-nil model.covers)

pub with_part-names : (model : NamedModel) (part : PartData) → first_field part.head ≡ codes ".names" → with_part model part ≡ record model { covers = model.covers ++ cover_of part ∷ [] }
with_part-names model part field = rw (field, append-nil model.inputs, append-nil model.outputs)

pub or-false : (b : Bool) → (b || false) ≡ b
or-false true = refl
or-false false = refl

-- a cover's signal stands twice where it has a driver
pub cover-twins : (model : NamedModel) (cover : NamedCover) → has_twins (drivers_of model) ≡ false → has_twins (drivers_of (record model { covers = model.covers ++ cover ∷ [] })) ≡ is_driven model cover.out
cover-twins model cover once =
    let before = drivers_of model in
    let more : model.inputs ++ map (λ (cover : NamedCover). cover.out) (model.covers ++ cover ∷ []) ≡ before ++ cover.out ∷ [] =
    ap (λ outs. model.inputs ++ outs) (map_push (λ (cover : NamedCover). cover.out) model.covers cover) ∙ sym (append_assoc model.inputs (map (λ (cover : NamedCover). cover.out) model.covers) (cover.out ∷ [])) in
    ap has_twins more ∙ twins-middle before [] cover.out ∙ (λ i. list_any (bytes_eq cover.out) (append-nil before i) || has_twins (append-nil before i)) ∙ ap (λ b. list_any (bytes_eq cover.out) before || b) once ∙ or-false (list_any (bytes_eq cover.out) before)

-- a line with the field of a command is one
pub command-is : (command : Command) (line : LineData) → first_field line ≡ field_of command → is_command line ≡ true
command-is Model line field = rw field
command-is Inputs line field = rw field
command-is Outputs line field = rw field
command-is Names line field = rw field
command-is End line field = rw field

-- a .names line that has not one field has two
pub names-two : (line : LineData) → is_names line ≡ true → (length line.fields ≡ 1 → ⊥) → 2 ≤ length line.fields
names-two line names more = at_least line.fields names more
  where
    at_least : (fields : List (List ℕ)) → bytes_eq (unwrap_or (slice_get fields 0) []) (codes ".names") ≡ true → (length fields ≡ 1 → ⊥) → 2 ≤ length fields
    at_least [] names more = absurd cc
    at_least (field ∷ []) names more = absurd (more refl)
    at_least (field ∷ next ∷ fields) names more = omega arith
