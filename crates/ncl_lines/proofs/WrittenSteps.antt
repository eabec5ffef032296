-- The lines of the steps of a run, one after another, and that its items are items of the pipeline.
use Rattle.std.proofs.Common.{◌≡◌, ℕ, ◌+◌, ◌<◌, List, [], ◌∷◌, ◌++◌, length, take, get_or, inl, inr, sym, ap, subst, ◌∙◌, arith, append_assoc, append-nil, length-take}
use Rattle.std.proofs.lemmas.List.{take_more}
use Rattle.ncl_base.proofs.Members.{Member, member_cases, All-from_members}
use Rattle.ncl_netlist.specs.declared.ids.CellId.{CellId}
use Rattle.ncl_netlist.specs.Netlist.{NetlistData}
use Rattle.ncl_shape.specs.declared.item.Item.{Item}
use Rattle.ncl_shape.specs.Pipeline.{PipelineData}
use Rattle.ncl_machine.specs.Held.{InRange}
use Rattle.ncl_machine.specs.State.{State}
use Rattle.ncl_machine.specs.Steps.{step}
use Rattle.ncl_machine.specs.Run.{IsRunFrom}
use Rattle.ncl_machine.proofs.EnabledItems.{item_in_range}
use Rattle.ncl_hazard.specs.declared.explaining.Explained.{Explained}
use Rattle.ncl_hazard.specs.declared.explaining.Explained.TheVariants.{Shown, NoWord}
use Rattle.ncl_hazard.specs.Explained.{IsExplained, TellsOfCell}
use Rattle.ncl_lines.specs.WhyText.{NamesItemsOf, step_line, step_lines}

-- a line for one step more
steps_more : (n : NetlistData) (number : ℕ) (items : List Item) (item : Item) → step_lines n number (items ++ item ∷ []) ≡ step_lines n number items ++ step_line n (number + length items) item
steps_more n number [] item = append-nil (step_line n number item) ∙ ap (λ k. step_line n k item) (omega arith)
steps_more n number (first ∷ items) item =
    ap (λ rest. step_line n number first ++ rest) (steps_more n (number + 1) items item ∙ ap (λ k. step_lines n (number + 1) items ++ step_line n k item) (omega arith))
    ∙ sym (append_assoc (step_line n number first) (step_lines n (number + 1) items) (step_line n (number + length (first ∷ items)) item))

-- and of the first steps, with the one at a place
pub steps_at : (n : NetlistData) (items : List Item) (place : ℕ) (d : Item) → place < length items → step_lines n 1 (take (place + 1) items) ≡ step_lines n 1 (take place items) ++ step_line n (place + 1) (get_or items place d)
steps_at n items place d within =
    ap (step_lines n 1) (take_more items place d within)
    ∙ steps_more n 1 (take place items) (get_or items place d)
    ∙ ap (λ k. step_lines n 1 (take place items) ++ step_line n k (get_or items place d)) (omega (arith, length-take place items))

pub run-in_range : (p : PipelineData) (run : List Item) (s : State) → IsRunFrom p s run → (item : Item) → Member item run → InRange p item
run-in_range p [] s is item m = elim m [ ]
run-in_range p (x ∷ run) s is item m = elim (member_cases item x run m) [
  | inl own ↦ subst (InRange p) own (item_in_range p s x is.0)
  | inr later ↦ run-in_range p run (step p s x) is.1 item later
]

-- so an explanation names items of the pipeline alone
pub names_items : (p : PipelineData) (before : ℕ) (cell : CellId) (limit : ℕ) (told : Explained) → IsExplained p before cell limit told → NamesItemsOf p told
names_items p before cell limit told is = by told is.tells
  where
    by : (told : Explained) → TellsOfCell p before cell is.own is.place told → NamesItemsOf p told
    by NoWord none = tt
    by (Shown input run) (least, loses) = All-from_members (InRange p) run (λ item m. run-in_range p run _ loses.is_run item m)
