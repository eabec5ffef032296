use Rattle.ncl_blif.proofs.Terms.{LineData, List, [], ap, append-nil, append_assoc, drop, drop_all, drop_more, false, is_row, parts_of, sym, take_rest, take_while, true, ◌++◌, ◌+◌, ◌∙◌, ◌∷◌, ◌≡◌}
use Rattle.ncl_blif.proofs.part.parts.Goals as goal
use Rattle.ncl_blif.proofs.part.parts.Goals.{then-not-is_row+in_ok-push, else-not-is_row}

-- a line that is no row begins a part, and a row none
part-first : (line : LineData) (rest : List LineData) → is_row line ≡ false → parts_of (line ∷ rest) ≡ record { head = line; rows = take_while is_row rest } ∷ parts_of rest
part-first line rest other = rw other

row-first : (line : LineData) (rest : List LineData) → is_row line ≡ true → parts_of (line ∷ rest) ≡ parts_of rest
row-first line rest is = rw is

pub loop-place-preserved : goal.loop-place-preserved
loop-place-preserved c =
    let lines = c.args.lines.now in
    let place = c.loop-place.place in
    let line = c.index-lines-place.result in
    let made = c.loop-place.parts.items in
    let rest = drop (place + 1) lines in
    let cut = drop_more lines place line c.loop-place-test.true ∙ ap (λ l. l ∷ rest) (sym c.index-lines-place.is) in
    let here = c.loop-place.invariant ∙ ap (λ ls. made ++ parts_of ls) cut in
    elim c.if-not-is_row.branch [
      | then-not-is_row+in_ok-push w ↦
          let first = part-first line rest (sym c.is_row.ensures ∙ w.if-not-is_row.true) in
          let pushed = ap (λ v. v.items) w.parts-is ∙ w.in_ok-push.ensures.items ∙ ap (λ rows. made ++ record { head = line; rows = rows } ∷ []) (w.first_rows-rows.ensures ∙ ap (take_while is_row) (take_rest lines (place + 1))) in
          here ∙ ap (λ ps. made ++ ps) first ∙ sym (append_assoc made (record { head = line; rows = take_while is_row rest } ∷ []) (parts_of rest)) ∙ ap (λ ps. ps ++ parts_of rest) (sym pushed)
      | else-not-is_row w ↦ here ∙ ap (λ ps. made ++ ps) (row-first line rest (sym c.is_row.ensures ∙ w.if-not-is_row.false)) ∙ ap (λ v. v.items ++ parts_of rest) (sym w.parts-is)
    ]

pub returns : goal.returns
returns c = sym (c.loop-place.invariant ∙ ap (λ l. c.loop-place.parts.items ++ parts_of l) (drop_all c.loop-place.place c.args.lines.now c.loop-place-test.false) ∙ append-nil c.loop-place.parts.items)
