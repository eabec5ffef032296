use Rattle.ncl_writer.proofs.Terms.{map, pin_names, pin_text, pins_of, take, zip}
use Rattle.ncl_writer.proofs.Opened.{Opens}
use Rattle.ncl_writer.proofs.row_text.push_pins.Given as goal

abbrev pub invariant-loop-place : goal.invariant-loop-place
invariant-loop-place l = Opens l.text.items l.initial.text.items l.front (map (λ (pin, net). pin_text pin net) (zip (take l.place (pins_of l.cell.kind)) (pin_names l.nets l.cell)))
