-- A folded netlist keeps what the netlist has: what its stages lose the netlist loses, its text is no longer, and it gives
-- what the netlist gave.
use Rattle.ncl_merge.proofs.Terms.{All, All-contains, All-from_members, All-member, AllPairs, AllPairs-append, AllZip, AllZip-from_places, AllZip-same, AreFewer, Bank, BankBit, Bool, Cell, CellAt, Contains, Contains-from_Member, Contains-from_slice_get, Differ, FoldsTo, Gate, HasLabelOf, IsCell, IsLayoutOf, IsMergedBank, IsMergedStage, IsNetlist, IsRailGate, IsSmaller, IsSound, Keeps, Kind, Layout, List, Member, Member-append_right, Member-from_Contains, Member-map, NetId, NetlistData, None, Option, PartCell, PipelineData, Shape, Some, StageCell, StageData, Th12, [], all_of, ap, arith, arity_of, at_map, both_ways, cases_Bool, cases_lt, cell_line, cell_name, cell_name_of, choice_of, closed-is, codes, composed, cond, drop, eq-eqb, eqb-true, false, false_from_ne_true, filter, flat_map, flat_map-cons, folded_netlist, folded_pipeline, function_at, get_or, get_or_from_slice_get, header_line, held-in, held_from, held_nets, here, if◌then◌else◌, inl, inr, is_composition, is_some, is_stage_cell, kept, laid_out, length, length-append, length-drop, length-flat_map, length-join_with_byte, length-map, line_length, list_all, list_all-member, list_any, list_any-from_member, map, map-map, member_from_list_any, member_of_flat_map, member_of_map, moved, moved_bank, moved_bit, moved_gate, moved_stage, name_at, name_number, name_number-get_or, name_of, nat_eq, net_there, nets_at, nets_of, not, number_in, opened, out_of, part_of, pin_names, pin_text, pin_texts, pins_of, pins_of-gate, place_of, place_there, port_line, rail_nets, refl, renamed_rails, same_Some, same_driver, same_place, slice_get, slice_get-drop, slice_get-from_Contains, slice_get-get_or, slice_get-some, slice_get_within, sound-when_held, spelled_name, stage_function, stages_apart, standing, subst, suc, sum_by, sum_by-append, sum_by-cons, sum_by-map, sym, text_of, there, true, under-own, value_or_low, wire_line, wires-pass, wires_or_stage, wires_sound, with_cells, with_gate_of, with_kept, word-passes, word_held, word_under, zero, zip, ℕ, ◌++◌, ◌+◌, ◌-◌, ◌<◌, ◌∙◌, ◌∷◌, ◌≡◌, ◌≢◌, ◌≤◌, ◌⊎◌}
use Rattle.ncl_merge.proofs.Weights.{halves, lines_no_longer, no_more, ones, outs-differ, sum-same, sum_by-flat_map, sums-le, sums-split}
use Rattle.ncl_merge.proofs.Folds.{function-folded, sound-folded}
use Rattle.ncl_merge.proofs.Renamed.{function-renamed, sound-renamed}
use Rattle.ncl_merge.proofs.Thinned.{filter_gone, filter_kept}
use Rattle.ncl_merge.proofs.Rebuilt.{in-kept, cells-moved, kept_some, port-name, port-within}
use Rattle.ncl_merge.proofs.Choices.{IsFoldedStageAt, choice-rail, choice-stands, folded-stage, folds, gate-cell, is-choice, is-folded, out-known, place-in, rail-staged, stage-is, stage-within, staged-rail}
use Rattle.ncl_merge.proofs.ChoiceShape.{inputs-named, is-thinned, ki-named, ko-named, label-there, moved-at, moved-count, name-of_cell, net-back, no-new_cells, no-new_nets, outputs-named, part-kept, renamed-at, shape-folded}

-- ---- what cells weigh together

pub pairs-from_places : {X : Type 0} (R : X → X → Type 0) (xs : List X) → ((i j : ℕ) (x y : X) → i < j → slice_get xs i ≡ Some x → slice_get xs j ≡ Some y → R x y) → AllPairs R xs
pairs-from_places R xs each i j d before lt = each i j (get_or xs i d) (get_or xs j d) before (slice_get-get_or xs i d (omega (arith, before, lt))) (slice_get-get_or xs j d lt)

pairs-flat_map : {X Y : Type 0} (R : Y → Y → Type 0) (f : X → List Y) (xs : List X) → ((k : ℕ) (x : X) → slice_get xs k ≡ Some x → AllPairs R (f x))
    → ((i j : ℕ) (x y : X) → i < j → slice_get xs i ≡ Some x → slice_get xs j ≡ Some y → (a b : Y) → Member a (f x) → Member b (f y) → R a b) → AllPairs R (flat_map f xs)
pairs-flat_map R f [] own across = λ i j d before lt. absurd (omega (arith, lt))
pairs-flat_map R f (x ∷ xs) own across =
    subst (AllPairs R) (sym (flat_map-cons f x xs))
    (AllPairs-append R (f x) (flat_map f xs) (own 0 x refl) (pairs-flat_map R f xs (λ k y at. own (suc k) y at) (λ i j y z lt at_y at_z. across (suc i) (suc j) y z (omega (arith, lt)) at_y at_z))
    (λ a b m o.
    let (y, m-y, o-y) = member_of_flat_map f xs b o in
    let (j, at) = slice_get-from_Contains xs y (Contains-from_Member y m-y) in
    across 0 (suc j) x y (omega arith) refl at a b m o-y))

-- ---- the cells of a netlist

-- what is kept of a cell weighs
abbrev kept_weight : (Cell → ℕ) → Option Cell → ℕ
kept_weight f None = 0
kept_weight f (Some d) = f d

kept-sum : (f : Cell → ℕ) (choice : Cell → Option Cell) (cells : List Cell) → sum_by f (kept choice cells) ≡ sum_by (λ c. kept_weight f (choice c)) cells
kept-sum f choice [] = refl
kept-sum f choice (c ∷ cells) =
    let rest = kept-sum f choice cells in
    elim (choice c) as (λ o. sum_by f (with_kept o (kept choice cells)) ≡ kept_weight f o + sum_by (λ c. kept_weight f (choice c)) cells) [
      | None ↦ omega (arith, rest)
      | Some d ↦ let own = sum_by-cons f d (kept choice cells) in omega (arith, rest, own)
    ]
    ∙ sym (sum_by-cons (λ c. kept_weight f (choice c)) c cells)

-- ---- the line of a gate

-- pins of one letter, each with its net
pins-length : (pins names : List (List ℕ)) → ((pin : List ℕ) → Member pin pins → length pin ≡ 1) → length pins ≡ length names
    → sum_by (λ t. length t + 1) (map (λ (pin, net). pin_text pin net) (zip pins names)) ≡ sum_by (λ name. 5 + length (spelled_name name)) names
pins-length [] [] one same = refl
pins-length (pin ∷ pins) (net ∷ names) one same =
    let left : sum_by (λ t. length t + 1) (pin_text pin net ∷ map (λ (pin, net). pin_text pin net) (zip pins names)) ≡ length (pin_text pin net) + 1 + sum_by (λ t. length t + 1) (map (λ (pin, net). pin_text pin net) (zip pins names)) = sum_by-cons (λ t. length t + 1) (pin_text pin net) (map (λ (pin, net). pin_text pin net) (zip pins names)) in
    let right : sum_by (λ name. 5 + length (spelled_name name)) (net ∷ names) ≡ 5 + length (spelled_name net) + sum_by (λ name. 5 + length (spelled_name name)) names = sum_by-cons (λ name. 5 + length (spelled_name name)) net names in
    let rest = pins-length pins names (λ x m. one x (there m)) (omega (arith, same)) in
    let letter = one pin here in
    omega (arith, left, right, rest, letter, length-append (codes ".") (pin ++ (codes "(" ++ (spelled_name net ++ codes ")"))), length-append pin (codes "(" ++ (spelled_name net ++ codes ")")), length-append (codes "(") (spelled_name net ++ codes ")"), length-append (spelled_name net) (codes ")"))
pins-length pins names one same = absurd (omega (arith, same))

-- the pins of a gate have one letter
letters : (kind : Kind) → list_all (λ pin. nat_eq (length pin) 1) (pins_of (Gate kind)) ≡ true
letters Th12 = refl
letters kind = refl

one-letter : (kind : Kind) (pin : List ℕ) → Member pin (pins_of (Gate kind)) → length pin ≡ 1
one-letter kind pin m = eqb-true (length pin) 1 (list_all-member (λ pin. nat_eq (length pin) 1) (pins_of (Gate kind)) (letters kind) pin m)

opened-length : (texts : List (List ℕ)) → length (opened texts) ≡ sum_by (λ t. length t + 1) texts
opened-length [] = refl
opened-length (text ∷ texts) = let joined = length-join_with_byte 44 text texts in omega (arith, joined)

-- how long the written names of nets and of cells are
abbrev net_length : NetlistData → ℕ → ℕ
net_length n x = length (spelled_name (name_at n x))

abbrev title_length : NetlistData → ℕ → ℕ
title_length n place = length (spelled_name (cell_name n place))

-- the line of a cell with the gate of a stage cell
line-is : (n : NetlistData) (g : StageCell) (c : Cell) → CellAt n g.cell.0 c → c.out ≡ g.out → length g.ins.items ≡ arity_of g.kind
    → length (cell_line n.nets (with_gate_of c g)) ≡ line_length (net_length n) (title_length n) g
line-is n g c at out arity =
    let d : Cell = with_gate_of c g in
    let pins : length (pins_of (Gate g.kind)) ≡ arity_of g.kind + 1 = pins_of-gate g.kind in
    let names : length (pin_names n.nets d) ≡ length g.ins.items + 1 = length-map (g.ins.items ++ c.out ∷ []) (λ (x : NetId). name_at n x.0) ∙ length-append g.ins.items (c.out ∷ []) in
    let texts : length (opened (pin_texts n.nets d)) ≡ sum_by (λ name. 5 + length (spelled_name name)) (pin_names n.nets d) =
    opened-length (pin_texts n.nets d) ∙ pins-length (pins_of (Gate g.kind)) (pin_names n.nets d) (one-letter g.kind) (omega (arith, pins, names, arity)) in
    let nets : sum_by (λ name. 5 + length (spelled_name name)) (pin_names n.nets d) ≡ sum_by (λ (x : NetId). 5 + net_length n x.0) (g.ins.items ++ c.out ∷ []) = sum_by-map (λ name. 5 + length (spelled_name name)) (λ (x : NetId). name_at n x.0) (g.ins.items ++ c.out ∷ []) in
    let both = sum_by-append (λ (x : NetId). 5 + net_length n x.0) g.ins.items (c.out ∷ []) in
    let last : sum_by (λ (x : NetId). 5 + net_length n x.0) (c.out ∷ []) ≡ 5 + net_length n c.out.0 + 0 = sum_by-cons (λ (x : NetId). 5 + net_length n x.0) c.out [] in
    let own : net_length n c.out.0 ≡ net_length n g.out.0 = ap (λ (x : NetId). net_length n x.0) out in
    let title : title_length n g.cell.0 ≡ length (spelled_name c.name) = ap (λ name. length (spelled_name name)) (name-of_cell n g.cell.0 c at) in
    omega (arith, texts, nets, both, last, own, title, length-append (name_of g.kind) (codes " " ++ (spelled_name c.name ++ (opened (pin_texts n.nets d) ++ codes ");\n"))), length-append (codes " ") (spelled_name c.name ++ (opened (pin_texts n.nets d) ++ codes ");\n")), length-append (spelled_name c.name) (opened (pin_texts n.nets d) ++ codes ");\n"), length-append (opened (pin_texts n.nets d)) (codes ");\n"))

-- the lines of all stages get no longer
lists-lines : (w title : ℕ → ℕ) (stages : List StageData) (lists : List (List StageCell)) → length lists ≡ length stages
    → ((k : ℕ) (s : StageData) (cells : List StageCell) → slice_get stages k ≡ Some s → slice_get lists k ≡ Some cells → FoldsTo s cells)
    → sum_by (λ cells. sum_by (line_length w title) cells) lists ≤ sum_by (λ (s : StageData). sum_by (line_length w title) s.cells) stages
lists-lines w title [] [] sized folds = omega arith
lists-lines w title (s ∷ stages) (cells ∷ lists) sized folds =
    let a : sum_by (λ cells. sum_by (line_length w title) cells) (cells ∷ lists) ≡ sum_by (line_length w title) cells + sum_by (λ cells. sum_by (line_length w title) cells) lists = sum_by-cons (λ cells. sum_by (line_length w title) cells) cells lists in
    let b : sum_by (λ (s : StageData). sum_by (line_length w title) s.cells) (s ∷ stages) ≡ sum_by (line_length w title) s.cells + sum_by (λ (s : StageData). sum_by (line_length w title) s.cells) stages = sum_by-cons (λ (s : StageData). sum_by (line_length w title) s.cells) s stages in
    let first = lines_no_longer w title s cells (folds 0 s cells refl refl) in
    let rest = lists-lines w title stages lists (omega (arith, sized)) (λ k t others at_t at_l. folds (suc k) t others at_t at_l) in
    omega (arith, a, b, first, rest)
lists-lines w title stages lists sized folds = absurd (omega (arith, sized))

-- a text by its parts
text-sum : (n : NetlistData) → length (text_of n) ≡ length (header_line n.name n.ports) + (length (flat_map port_line n.ports) + (length (flat_map wire_line (drop (length n.ports) n.nets)) + (length (flat_map (cell_line n.nets) n.cells) + 10)))
text-sum n =
    let h = header_line n.name n.ports in
    let p = flat_map port_line n.ports in
    let w = flat_map wire_line (drop (length n.ports) n.nets) in
    let c = flat_map (cell_line n.nets) n.cells in
    omega (arith, length-append h (p ++ (w ++ (c ++ codes "endmodule\n"))), length-append p (w ++ (c ++ codes "endmodule\n")), length-append w (c ++ codes "endmodule\n"), length-append c (codes "endmodule\n"))

-- ---- what comes of a word that a bank holds at reset is what the stages after the bank make of it

pub zip-drop : {X Y : Type 0} (R : X → Y → Type 0) (k : ℕ) (xs : List X) (ys : List Y) → AllZip R xs ys → AllZip R (drop k xs) (drop k ys)
zip-drop R zero xs ys all = all
zip-drop R (suc k) [] [] all = tt
zip-drop R (suc k) (x ∷ xs) (y ∷ ys) (first, rest) = zip-drop R k xs ys rest
zip-drop R (suc k) xs ys all = absurd all

-- stages with the same functions make the same of a word
pub same-composed : (xs ys : List StageData) → AllZip (λ (s t : StageData). (word : List Bool) → stage_function t word ≡ stage_function s word) xs ys → (word : List Bool) → composed ys word ≡ composed xs word
same-composed [] [] same word = refl
same-composed (x ∷ xs) (y ∷ ys) (first, rest) word = ap (composed ys) (first word) ∙ same-composed xs ys rest (stage_function x word)
same-composed xs ys same word = absurd same

module _ {p : PipelineData} {l : Layout} (is : IsLayoutOf p l) (sound : All IsSound p.stages) where
  -- the stages of the layout are sound
  all-sound : (k : ℕ) → k ≤ l.last → IsSound (l.stage k)
  all-sound k le =
      elim (wires_or_stage p l is k le) [
        | inl listed ↦ All-contains IsSound p.stages (l.stage k) sound listed
        | inr wires ↦ wires_sound (l.stage k) (is.is_stage k le) wires.0 wires.1
      ]

  -- words that each stage makes of the one before it
  from_stage : (words : ℕ → List Bool) (stages : List StageData) (k : ℕ) → ((i : ℕ) (s : StageData) → slice_get stages i ≡ Some s → l.stage (k + i) ≡ s)
      → ((i : ℕ) → i < length stages → words (suc (k + i)) ≡ stage_function (l.stage (k + i)) (words (k + i)))
      → words (k + length stages) ≡ composed stages (words k)
  from_stage words [] k each law = let none : k + 0 ≡ k = omega arith in ap words none
  from_stage words (s ∷ stages) k each law =
      let more : k + suc (length stages) ≡ suc k + length stages = omega arith in
      let none : k + 0 ≡ k = omega arith in
      let first : l.stage (k + 0) ≡ s = each 0 s refl in
      let one : words (suc k) ≡ stage_function s (words k) =
      ap (λ i. words (suc i)) (sym none) ∙ law 0 (omega arith) ∙ ap (λ (x : StageData). stage_function x (words (k + 0))) first ∙ ap (λ i. stage_function s (words i)) none in
      ap words more
      ∙ from_stage words stages (suc k) (λ i t at. ap l.stage (let next : suc k + i ≡ k + suc i = omega arith in next) ∙ each (suc i) t at)
      (λ i lt. let next : suc k + i ≡ k + suc i = omega arith in ap (λ j. words (suc j)) next ∙ law (suc i) (omega (arith, lt)) ∙ ap (λ j. stage_function (l.stage j) (words j)) (sym next))
      ∙ ap (composed stages) one

  module _ (k : ℕ) (b : Bank) (at : slice_get p.banks k ≡ Some b) (word : List Bool) (held : l.held k ≡ Some word) where
    abbrev words : ℕ → List Bool
    words = word_under l [] (held_from l (suc k))

    layout-composition : function_at p b.request.0 ≡ composed (drop k p.stages) word
    layout-composition =
        let pass = word-passes is k b at word held [] tt (held_from l (suc k)) refl in
        let lt : k < l.last = (is.held_wide k word held).0 in
        let many = is.as_many in
        let count : suc k + length (drop k p.stages) ≡ l.last = (let long = length-drop k p.stages in omega (arith, long, lt, many)) in
        let start : words (suc k) ≡ word = under-own is [] k word held in
        closed-is is (suc k) words (held_nets p.netlist b.request.0) pass (λ m past le. sound-when_held (l.stage m) (is.is_stage m le) (words m) (λ fault. all-sound m le fault (words m) (pass.wide m past le)))
        ∙ pass.law l.last lt (omega arith)
        ∙ wires-pass (l.stage l.last) (is.is_stage l.last (omega arith)) is.last_wires (words l.last) (pass.wide l.last lt (omega arith))
        ∙ ap words (sym count)
        ∙ from_stage words (drop k p.stages) (suc k)
        (λ i s at_s. ap l.stage (let next : suc k + i ≡ suc (k + i) = omega arith in next) ∙ is.in_order (k + i) s (sym (slice_get-drop k p.stages i) ∙ at_s))
        (λ i within. pass.law (suc k + i) (omega arith) (omega (arith, within, count)))
        ∙ ap (composed (drop k p.stages)) start

-- of a pipeline of sound stages
pub held-is_composition : (p : PipelineData) → Shape p.netlist p → All IsSound p.stages → (k : ℕ) (b : Bank) → slice_get p.banks k ≡ Some b → (word : List Bool) → word_held b ≡ Some word
    → function_at p b.request.0 ≡ composed (drop k p.stages) word
held-is_composition p shape sound k b at word held =
    let (l, is) = laid_out p shape in
    layout-composition is sound k b at word (held-in p shape l is k b at word held)

-- ---- stages and banks

functions-of : (n m : NetlistData) (xs ys : List StageData) → AllZip (IsMergedStage n m) xs ys → AllZip (λ (s t : StageData). (word : List Bool) → stage_function t word ≡ stage_function s word) xs ys
functions-of n m xs ys all = AllZip-same (IsMergedStage n m) (λ (s t : StageData). (word : List Bool) → stage_function t word ≡ stage_function s word) xs ys all (λ k s t at merged. merged.function)

-- ---- banks

data-moved : (at : ℕ → ℕ) (bits : List BankBit) → list_any (λ (bit : BankBit). is_some bit.start) (map (moved_bit at) bits) ≡ list_any (λ (bit : BankBit). is_some bit.start) bits
data-moved at [] = refl
data-moved at (bit ∷ bits) = let rest = data-moved at bits in cc

-- a bank holds the word that it held
held-moved : (to at : ℕ → ℕ) (b : Bank) → word_held (moved_bank to at b) ≡ word_held b
held-moved to at b =
    let data_is = data-moved at b.bits in
    let values = map-map (λ (bit : BankBit). value_or_low bit.start) (moved_bit at) b.bits in
    λ i. if data_is i then Some (values i) else None

module _ (p : PipelineData) (shape : Shape p.netlist p) (lists : List (List StageCell)) (fewer : AreFewer p.stages lists) where
  abbrev n : NetlistData
  n = p.netlist

  abbrev choice : Cell → Option Cell
  choice = choice_of p lists

  abbrev staged : List StageCell
  staged = flat_map (λ (s : StageData). s.cells) p.stages

  -- a stage and the cells that its own become
  at-stage : (k : ℕ) (s : StageData) → slice_get p.stages k ≡ Some s → (cells : List StageCell) × IsFoldedStageAt p lists k s cells
  at-stage k s at =
      let within = slice_get_within p.stages k s at in
      let sized = fewer.sized in
      let (cells, at_l) = slice_get-some lists k (omega (arith, within, sized)) in
      (cells, folded-stage p shape lists fewer k s cells at at_l)

  cells-differ : Differ (λ (c : Cell). c.out.0) n.cells
  cells-differ =
      pairs-from_places (λ (x y : Cell). x.out.0 ≢ y.out.0) n.cells (λ i j c d lt at_c at_d same.
      let places : i ≡ j = same_place n shape.is_netlist i j c d at_c at_d same in omega (arith, places, lt))

  -- all cells of stages drive other nets
  staged-differ : Differ (λ (g : StageCell). g.out.0) staged
  staged-differ =
      pairs-flat_map (λ (x y : StageCell). x.out.0 ≢ y.out.0) (λ (s : StageData). s.cells) p.stages
      (λ k s at. let (cells, of) = at-stage k s at in outs-differ s of.between.is_stage)
      (λ i j s t lt at_s at_t g h m-g m-h same.
      let first = there-is i s at_s g m-g in
      let second = there-is j t at_t h m-h in
      let numbers : suc i ≡ suc j = stages_apart p shape (suc i) (suc j) h.out.0 (stage-within p shape lists fewer i s at_s) (stage-within p shape lists fewer j t at_t) (subst (λ x. Member x (nets_at p (suc i))) same first) second in
      omega (arith, numbers, lt))
    where
      there-is : (k : ℕ) (s : StageData) → slice_get p.stages k ≡ Some s → (g : StageCell) → Member g s.cells → Member g.out.0 (nets_at p (suc k))
      there-is k s at g m =
          let (cells, of) = at-stage k s at in
          subst (λ (t : StageData). Member g.out.0 (nets_of t.inputs t.cells)) (sym (stage-is p shape lists fewer k s cells of)) (Member-append_right (rail_nets s.inputs) g.out.0 (Member-map out_of g m))

  -- the cell of the netlist that is a cell of a stage
  staged-cell : (g : StageCell) → Member g staged → (c : Cell) × CellAt n g.cell.0 c × (c ≡ with_gate_of c g) × (c.out ≡ g.out) × (is_stage_cell p c ≡ true) × (length g.ins.items ≡ arity_of g.kind)
  staged-cell g m =
      let (s, m-s, m-g) = member_of_flat_map (λ (s : StageData). s.cells) p.stages g m in
      let (k, at) = slice_get-from_Contains p.stages s (Contains-from_Member s m-s) in
      let (cells, of) = at-stage k s at in
      let (i, at_i) = slice_get-from_Contains s.cells g (Contains-from_Member g m-g) in
      let is = of.between.each i g at_i in
      let out : is.cell.out.0 ≡ g.out.0 = ap (λ (x : NetId). x.0) is.out in (
        is.cell,
        is.at,
        (λ i. record { kind = is.kind i; name = is.cell.name; ins = record { items = is.ins i }; out = is.cell.out }),
        is.out,
        list_any-from_member (λ (s : StageData). list_any (λ (g : StageCell). nat_eq g.out.0 is.cell.out.0) s.cells) s m-s (list_any-from_member (λ (g : StageCell). nat_eq g.out.0 is.cell.out.0) g m-g (eq-eqb g.out.0 is.cell.out.0 (sym out))),
        All-member (λ (f : StageCell). length f.ins.items ≡ arity_of f.kind) s.cells of.between.is_stage.arities g m-g,
      )

  module _ (f : Cell → ℕ) (h : StageCell → ℕ) (same : (g : StageCell) (c : Cell) → CellAt n g.cell.0 c → c.out ≡ g.out → length g.ins.items ≡ arity_of g.kind → f (with_gate_of c g) ≡ h g) where
    -- what cells of stages weigh, and what all others do
    abbrev inner : Cell → ℕ
    inner c = cond (is_stage_cell p c) (f c) 0

    abbrev outer : Cell → ℕ
    outer c = cond (is_stage_cell p c) 0 (f c)

    -- what is kept of cells of stages
    abbrev inner_kept : Cell → ℕ
    inner_kept c = cond (is_stage_cell p c) (kept_weight f (choice c)) 0

    kept-halves : (c : Cell) → Member c n.cells → kept_weight f (choice c) ≤ outer c + inner_kept c
    kept-halves c m =
        elim (is_stage_cell p c) as (λ b. is_stage_cell p c ≡ b → kept_weight f (choice c) ≤ cond b 0 (f c) + cond b (kept_weight f (choice c)) 0) [
          | true ↦ λ staged_is. omega arith
          | false ↦ λ other.
              let in_c : IsCell n c = Contains-from_Member c m in
              let same : kept_weight f (choice c) ≡ f c = ap (kept_weight f) (choice-stands p shape lists fewer c in_c (λ rail. both_ways (is_stage_cell p c) other (rail-staged p shape lists fewer c in_c rail))) in
              omega (arith, same)
        ] refl

    -- what is kept of them is of the lists
    kept-among : sum_by inner_kept n.cells ≤ sum_by h (all_of lists)
    kept-among =
        no_more (λ (c : Cell). c.out.0) (λ (g : StageCell). g.out.0) inner_kept h n.cells (all_of lists) cells-differ (λ c m.
        elim (is_stage_cell p c) as (λ b. is_stage_cell p c ≡ b → (cond b (kept_weight f (choice c)) 0 ≡ 0) ⊎ ((g : StageCell) × Member g (all_of lists) × (g.out.0 ≡ c.out.0) × (cond b (kept_weight f (choice c)) 0 ≤ h g))) [
          | false ↦ λ other. inl refl
          | true ↦ λ staged_is. elim (choice c) as (λ o. choice c ≡ o → (kept_weight f o ≡ 0) ⊎ ((g : StageCell) × Member g (all_of lists) × (g.out.0 ≡ c.out.0) × (kept_weight f o ≤ h g))) [
            | None ↦ λ gone. inl refl
            | Some d ↦ λ stays.
                let (g, m-g, out, is) = choice-rail p shape lists fewer c d (Contains-from_Member c m) (staged-rail p shape lists fewer c (Contains-from_Member c m) staged_is) stays in
                let u = place-in p shape lists fewer g m-g in
                let (b, at_b, out_b, rail) = gate-cell p shape lists fewer u.place u.stage u.cells u.at g u.among in
                let one : b ≡ c = same_driver n shape.is_netlist b c (Contains-from_slice_get n.cells g.cell.0 b at_b) (Contains-from_Member c m) (ap (λ (x : NetId). x.0) out_b ∙ out) in
                let weighs : f (with_gate_of c g) ≡ h g = same g c (subst (CellAt n g.cell.0) one at_b) (subst (λ (z : Cell). z.out ≡ g.out) one out_b) (All-member (λ (e : StageCell). length e.ins.items ≡ arity_of e.kind) u.cells (is-folded p shape lists fewer u.place u.stage u.cells u.at).arities g u.among) in
                let equal : f d ≡ h g = ap f is ∙ weighs in
                inr (g, m-g, out, omega (arith, equal))
          ] refl
        ] refl)

    -- and those of the stages are cells of the netlist
    staged-among : sum_by h staged ≤ sum_by inner n.cells
    staged-among =
        no_more (λ (g : StageCell). g.out.0) (λ (c : Cell). c.out.0) h inner staged n.cells staged-differ (λ g m.
        let (c, at_c, is, out, staged_is, arity) = staged-cell g m in
        let weighs : f (with_gate_of c g) ≡ h g = same g c at_c out arity in
        let equal : inner c ≡ h g = ap (λ b. cond b (f c) 0) staged_is ∙ ap f is ∙ weighs in
        inr (c, Member-from_Contains n.cells c (Contains-from_slice_get n.cells g.cell.0 c at_c), ap (λ (x : NetId). x.0) out, omega (arith, equal)))

    pub weighed : sum_by f (kept choice n.cells) + sum_by h staged ≤ sum_by f n.cells + sum_by h (all_of lists)
    weighed =
        let first : sum_by f (kept choice n.cells) ≤ sum_by outer n.cells + sum_by inner_kept n.cells = subst (λ x. x ≤ sum_by outer n.cells + sum_by inner_kept n.cells) (sym (kept-sum f choice n.cells)) (sums-le (λ c. kept_weight f (choice c)) outer inner_kept n.cells kept-halves) in
        let whole : sum_by f n.cells ≡ sum_by outer n.cells + sum_by inner n.cells = sums-split f outer inner n.cells (λ c. halves (is_stage_cell p c) (f c)) in
        let a = kept-among in
        let b = staged-among in
        omega (arith, first, whole, a, b)

  module _ (is_m : IsNetlist (folded_netlist p lists)) where
    abbrev m : NetlistData
    m = folded_netlist p lists

    abbrev to : ℕ → ℕ
    to = net_there p lists

    abbrev at : ℕ → ℕ
    at = place_there p lists

    -- ---- the text is no longer

    abbrev line : Cell → ℕ
    line c = length (cell_line n.nets c)

    abbrev weight : StageCell → ℕ
    weight = line_length (net_length n) (title_length n)

    -- ---- cells

    -- the line of a kept cell is as long as it would be in n
    line-kept : (d : Cell) → Member d (kept (choice_of p lists) n.cells) → length (cell_line m.nets (moved (net_there p lists) d)) ≡ line d
    line-kept d m-d = ap (λ (part : PartCell). length (line_of part)) (part-kept p shape lists fewer is_m d m-d)
      where
        line_of : PartCell → List ℕ
        line_of part = cell_name_of part.kind ++ (codes " " ++ (spelled_name part.name ++ (opened (map (λ (pin, net). pin_text pin net) (zip (pins_of part.kind) part.pins)) ++ codes ");\n")))

    cells-short : length (flat_map (cell_line m.nets) m.cells) ≤ length (flat_map (cell_line n.nets) n.cells)
    cells-short =
        let left : length (flat_map (cell_line m.nets) m.cells) ≡ sum_by line (kept (choice_of p lists) n.cells) =
        length-flat_map (cell_line m.nets) m.cells
        ∙ ap (sum_by (λ c. length (cell_line m.nets c))) (cells-moved n shape.is_netlist shape.free (choice_of p lists) (is-choice p shape lists fewer))
        ∙ sum_by-map (λ c. length (cell_line m.nets c)) (moved (net_there p lists)) (kept (choice_of p lists) n.cells)
        ∙ sum-same (λ d. length (cell_line m.nets (moved (net_there p lists) d))) line (kept (choice_of p lists) n.cells) line-kept in
        let right : length (flat_map (cell_line n.nets) n.cells) ≡ sum_by line n.cells = length-flat_map (cell_line n.nets) n.cells in
        let law = weighed line weight (λ g c at_c out arity. line-is n g c at_c out arity) in
        let stages : sum_by weight (flat_map (λ (s : StageData). s.cells) p.stages) ≡ sum_by (λ (s : StageData). sum_by weight s.cells) p.stages = sum_by-flat_map weight (λ (s : StageData). s.cells) p.stages in
        let folded : sum_by weight (flat_map (λ (cells : List StageCell). cells) lists) ≡ sum_by (λ cells. sum_by weight cells) lists = sum_by-flat_map weight (λ (cells : List StageCell). cells) lists in
        let less = lists-lines (net_length n) (title_length n) p.stages lists fewer.sized fewer.folds in
        omega (arith, left, right, law, stages, folded, less)

    -- ---- other nets than ports

    abbrev count : ℕ
    count = length n.ports

    number-there : (k : ℕ) (x : List ℕ) → slice_get m.nets k ≡ Some x → name_number m.nets x ≡ k
    number-there k x at = ap (name_number m.nets) (sym (get_or_from_slice_get m.nets k x [] at)) ∙ name_number-get_or m.nets k [] is_m.net_names (slice_get_within m.nets k x at)

    -- a net of m that is no port is one of n
    wire-known : (i : ℕ) (x : List ℕ) → slice_get (drop count m.nets) i ≡ Some x → Member x (drop count n.nets)
    wire-known i x at_x =
        let at_m : slice_get m.nets (count + i) ≡ Some x = sym (slice_get-drop count m.nets i) ∙ at_x in
        let (j, at_j) = slice_get-from_Contains n.nets x (All-member (Contains n.nets) m.nets (no-new_nets p shape lists fewer is_m) x (Member-from_Contains m.nets x (Contains-from_slice_get m.nets (count + i) x at_m))) in
        elim (cases_lt j count) [
          | inr later ↦
              let place : count + (j - count) ≡ j = omega (arith, later) in
              Member-from_Contains (drop count n.nets) x (Contains-from_slice_get (drop count n.nets) (j - count) x (slice_get-drop count n.nets (j - count) ∙ ap (slice_get n.nets) place ∙ at_j))
          | inl port ↦
              let there_is : name_at m j ≡ x =
              port-name n shape.is_netlist shape.free (choice_of p lists) (is-choice p shape lists fewer) m is_m refl j port
              ∙ sym (port-name n shape.is_netlist shape.free (choice_of p lists) (is-choice p shape lists fewer) n shape.is_netlist refl j port)
              ∙ get_or_from_slice_get n.nets j x [] at_j in
              let one : name_number m.nets x ≡ j = ap (name_number m.nets) (sym there_is) ∙ name_number-get_or m.nets j [] is_m.net_names (port-within n shape.is_netlist shape.free (choice_of p lists) (is-choice p shape lists fewer) m is_m refl j port) in
              let other = number-there (count + i) x at_m in
              absurd (omega (arith, one, other, port))
        ]

    wires-short : length (flat_map wire_line (drop count m.nets)) ≤ length (flat_map wire_line (drop count n.nets))
    wires-short =
        let left = length-flat_map wire_line (drop count m.nets) in
        let right = length-flat_map wire_line (drop count n.nets) in
        let law : sum_by (λ x. length (wire_line x)) (drop count m.nets) ≤ sum_by (λ x. length (wire_line x)) (drop count n.nets) =
        no_more (name_number m.nets) (name_number m.nets) (λ x. length (wire_line x)) (λ x. length (wire_line x)) (drop count m.nets) (drop count n.nets) wires-differ (λ x m-x.
        let (i, at_x) = slice_get-from_Contains (drop count m.nets) x (Contains-from_Member x m-x) in
        inr (x, wire-known i x at_x, refl, omega arith)) in
        omega (arith, left, right, law)
      where
        wires-differ : Differ (name_number m.nets) (drop count m.nets)
        wires-differ =
            pairs-from_places (λ x y. name_number m.nets x ≢ name_number m.nets y) (drop count m.nets) (λ i j x y lt at_x at_y same.
            let first = number-there (count + i) x (sym (slice_get-drop count m.nets i) ∙ at_x) in
            let second = number-there (count + j) y (sym (slice_get-drop count m.nets j) ∙ at_y) in
            omega (arith, first, second, same, lt))

    pub text-no_longer : length (text_of m) ≤ length (text_of n)
    text-no_longer = let left = text-sum m in let right = text-sum n in let cells = cells-short in let wires = wires-short in omega (arith, left, right, cells, wires)

    abbrev q : PipelineData
    q = folded_pipeline p lists

    -- each stage there is one that a stage has become
    stage-back : (t : StageData) → Member t q.stages → (k : ℕ) × (s : StageData) × (cells : List StageCell) × (slice_get p.stages k ≡ Some s) × (slice_get lists k ≡ Some cells) × (moved_stage to at s cells ≡ t)
    stage-back t m-t =
        let (k, at_t) = slice_get-from_Contains q.stages t (Contains-from_Member t m-t) in
        let within = slice_get_within q.stages k t at_t in
        let count = moved-count to at p.stages lists fewer.sized in
        let (s, at_s) = slice_get-some p.stages k (omega (arith, within, count)) in
        let (cells, at_l, is) = moved-at to at p.stages lists k s t at_s at_t in
        (k, s, cells, at_s, at_l, is)

    -- ---- which cells are cells of stages

    -- what a cell of a stage has become is one
    staged-there : (c d : Cell) → IsCell n c → is_stage_cell p c ≡ true → choice_of p lists c ≡ Some d → is_stage_cell q (moved to d) ≡ true
    staged-there c d in_c staged is =
        let (g, m-g, out, same) = choice-rail p shape lists fewer c d in_c (staged-rail p shape lists fewer c in_c staged) is in
        let u = place-in p shape lists fewer g m-g in
        let within = slice_get_within p.stages u.place u.stage u.at.stage in
        let count = moved-count to at p.stages lists fewer.sized in
        let (t, at_t) = slice_get-some q.stages u.place (omega (arith, within, count)) in
        let (cells, at_l, moved_t) = moved-at to at p.stages lists u.place u.stage t u.at.stage at_t in
        let lists_are : u.cells ≡ cells = same_Some u.cells cells (sym u.at.list ∙ at_l) in
        let among : Member (moved_gate to at g) t.cells = subst (λ (s : StageData). Member (moved_gate to at g) s.cells) moved_t (Member-map (moved_gate to at) g (subst (Member g) lists_are u.among)) in
        let drives : to g.out.0 ≡ (moved to d).out.0 = ap to (out ∙ ap (λ (z : Cell). z.out.0) (sym same)) in
        list_any-from_member (λ (s : StageData). list_any (λ (f : StageCell). nat_eq f.out.0 (moved to d).out.0) s.cells) t (Member-from_Contains q.stages t (Contains-from_slice_get q.stages u.place t at_t))
        (list_any-from_member (λ (f : StageCell). nat_eq f.out.0 (moved to d).out.0) (moved_gate to at g) among (eq-eqb (to g.out.0) (moved to d).out.0 drives))

    -- and no other cell is
    other-there : (c : Cell) → IsCell n c → is_stage_cell p c ≡ false → choice_of p lists c ≡ Some c → is_stage_cell q (moved to c) ≡ false
    other-there c in_c other is =
        false_from_ne_true (is_stage_cell q (moved to c)) (λ staged.
        let (t, m-t, some) = member_from_list_any (λ (s : StageData). list_any (λ (f : StageCell). nat_eq f.out.0 (moved to c).out.0) s.cells) q.stages staged in
        let (g, m-g, same) = member_from_list_any (λ (f : StageCell). nat_eq f.out.0 (moved to c).out.0) t.cells some in
        let (k, s, cells, at_s, at_l, moved_t) = stage-back t m-t in
        let of = folded-stage p shape lists fewer k s cells at_s at_l in
        let (f, m-f, e) = member_of_map (moved_gate to at) cells g (subst (λ (u : StageData). Member g u.cells) (sym moved_t) m-g) in
        let no_rail : IsRailGate n c → ⊥ = λ rail. both_ways (is_stage_cell p c) other (rail-staged p shape lists fewer c in_c rail) in
        let (i, at_c) = place_of n c in_c in
        let leads : number_in m n (to c.out.0) ≡ c.out.0 = ((is-thinned p shape lists fewer is_m).stood i c at_c no_rail).out in
        let back : number_in m n (to f.out.0) ≡ f.out.0 = net-back p shape lists fewer is_m k s cells of f.out.0 (out-known p shape lists fewer k s cells of f m-f) in
        let there_is : to f.out.0 ≡ to c.out.0 = ap (λ (x : StageCell). x.out.0) e ∙ eqb-true g.out.0 (moved to c).out.0 same in
        let outs : f.out.0 ≡ c.out.0 = sym back ∙ ap (number_in m n) there_is ∙ leads in
        let (b, at_b, out_b, rail) = gate-cell p shape lists fewer k s cells of f m-f in
        let one : b ≡ c = same_driver n shape.is_netlist b c (Contains-from_slice_get n.cells f.cell.0 b at_b) in_c (ap (λ (x : NetId). x.0) out_b ∙ outs) in
        no_rail (subst (IsRailGate n) one rail))

    abbrev stays_there : Cell → Bool
    stays_there c = not (is_stage_cell q c)

    abbrev stays_here : Cell → Bool
    stays_here c = not (is_stage_cell p c)

    -- all others stand, in their order
    standing-part : (cells : List Cell) → ((c : Cell) → Member c cells → IsCell n c) → map (part_of m.nets) (filter stays_there (map (moved to) (kept (choice_of p lists) cells))) ≡ map (part_of n.nets) (filter stays_here cells)
    standing-part [] among = refl
    standing-part (c ∷ cells) among =
        let in_c = among c here in
        let rest = standing-part cells (λ b m-b. among b (there m-b)) in
        let there_is : List Cell → List PartCell = λ xs. map (part_of m.nets) (filter stays_there (map (moved to) xs)) in
        elim (cases_Bool (is_stage_cell p c)) [
          | inl staged ↦
              let here_is = ap (map (part_of n.nets)) (sym (filter_gone stays_here c cells (ap not staged))) in
              elim (choice_of p lists c) as (λ o. choice_of p lists c ≡ o → there_is (with_kept o (kept (choice_of p lists) cells)) ≡ map (part_of n.nets) (filter stays_here (c ∷ cells))) [
                | None ↦ λ gone. rest ∙ here_is
                | Some d ↦ λ is. ap (map (part_of m.nets)) (filter_gone stays_there (moved to d) (map (moved to) (kept (choice_of p lists) cells)) (ap not (staged-there c d in_c staged is))) ∙ rest ∙ here_is
              ] refl
          | inr other ↦
              let is : choice_of p lists c ≡ Some c = choice-stands p shape lists fewer c in_c (λ rail. both_ways (is_stage_cell p c) other (rail-staged p shape lists fewer c in_c rail)) in
              let own = part-kept p shape lists fewer is_m c (in-kept n shape.is_netlist shape.free (choice_of p lists) (is-choice p shape lists fewer) c c in_c is) in
              ap there_is (kept_some (choice_of p lists) c c cells is)
              ∙ ap (map (part_of m.nets)) (filter_kept stays_there (moved to c) (map (moved to) (kept (choice_of p lists) cells)) (ap not (other-there c in_c other is)))
              ∙ (λ i. own i ∷ rest i) ∙ ap (map (part_of n.nets)) (sym (filter_kept stays_here c cells (ap not other)))
        ]

    standing-kept : standing q ≡ standing p
    standing-kept =
        ap (λ cells. map (part_of m.nets) (filter stays_there cells)) (cells-moved n shape.is_netlist shape.free (choice_of p lists) (is-choice p shape lists fewer))
        ∙ standing-part n.cells (λ c m-c. Contains-from_Member c m-c)

    -- ---- stages

    stage-kept : (k : ℕ) (s : StageData) (cells : List StageCell) → IsFoldedStageAt p lists k s cells → IsMergedStage n m s (moved_stage to at s cells)
    stage-kept k s cells of = record {
      labels = λ g in_g.
          let (f, m-f, e) = member_of_map (moved_gate to at) cells g (Member-from_Contains (map (moved_gate to at) cells) g in_g) in
          let (old, in_old, label) = label-there p shape lists fewer is_m k s cells of f m-f in
          (old, in_old, subst (HasLabelOf n m old) e label);
      inputs = length-map s.inputs (renamed_rails to);
      function = λ word.
          function-renamed to (number_in m n) (with_cells s cells) (moved_stage to at s cells) (is-folded p shape lists fewer k s cells of) (renamed-at p shape lists fewer is_m k s cells of) word
          ∙ function-folded s of.between.is_stage word cells (folds p shape lists fewer k s cells of);
    }

    stages-kept : AllZip (IsMergedStage n m) p.stages q.stages
    stages-kept =
        AllZip-from_places (IsMergedStage n m) p.stages q.stages (sym (moved-count to at p.stages lists fewer.sized)) (λ k s t at_s at_t.
        let (cells, at_l, is) = moved-at to at p.stages lists k s t at_s at_t in
        subst (IsMergedStage n m s) is (stage-kept k s cells (folded-stage p shape lists fewer k s cells at_s at_l)))

    -- ---- sums

    pub cells-fewer : length m.cells < length n.cells
    cells-fewer =
        let law = weighed (λ c. 1) (λ g. 1) (λ g c at_c out arity. refl) in
        let a = ones (kept (choice_of p lists) n.cells) in
        let b = ones (flat_map (λ (s : StageData). s.cells) p.stages) in
        let c = ones n.cells in
        let d = ones (flat_map (λ (cells : List StageCell). cells) lists) in
        let e : length (flat_map (λ (s : StageData). s.cells) p.stages) ≡ sum_by (λ (s : StageData). length s.cells) p.stages = length-flat_map (λ (s : StageData). s.cells) p.stages in
        let f : length (flat_map (λ (cells : List StageCell). cells) lists) ≡ sum_by (λ (cells : List StageCell). length cells) lists = length-flat_map (λ (cells : List StageCell). cells) lists in
        let less = fewer.fewer in
        let own : length m.cells ≡ length (kept (choice_of p lists) n.cells) = ap length (cells-moved n shape.is_netlist shape.free (choice_of p lists) (is-choice p shape lists fewer)) ∙ length-map (kept (choice_of p lists) n.cells) (moved to) in
        omega (arith, law, a, b, c, d, e, f, less, own)

    module _ (sound : All IsSound p.stages) where
      sound-kept : All IsSound q.stages
      sound-kept =
          All-from_members IsSound q.stages (λ t m-t.
          let (k, s, cells, at_s, at_l, is) = stage-back t m-t in
          let of = folded-stage p shape lists fewer k s cells at_s at_l in
          let own : IsSound s = All-contains IsSound p.stages s sound (Contains-from_slice_get p.stages k s at_s) in
          subst IsSound is
          (sound-renamed to (number_in m n) (with_cells s cells) (moved_stage to at s cells) (is-folded p shape lists fewer k s cells of) (renamed-at p shape lists fewer is_m k s cells of)
          (sound-folded s of.between.is_stage own cells (folds p shape lists fewer k s cells of))))

      bank-kept : (k : ℕ) (b : Bank) → slice_get p.banks k ≡ Some b → IsMergedBank p q b (moved_bank to at b)
      bank-kept k b at_b = record {
        held = held-moved to at b;
        passes = λ data_is.
            let word : List Bool = map (λ (bit : BankBit). value_or_low bit.start) b.bits in
            let held : word_held b ≡ Some word = ap (λ is. if is then Some word else None) data_is in
            held-is_composition q (shape-folded p shape lists fewer is_m) sound-kept k (moved_bank to at b) (at_map (moved_bank to at) p.banks k b at_b) word (held-moved to at b ∙ held)
            ∙ same-composed (drop k p.stages) (drop k q.stages) (zip-drop (λ (s t : StageData). (word : List Bool) → stage_function t word ≡ stage_function s word) k p.stages q.stages (functions-of n m p.stages q.stages stages-kept)) word
            ∙ sym (held-is_composition p shape sound k b at_b word held);
      }

      banks-kept : AllZip (IsMergedBank p q) p.banks q.banks
      banks-kept =
          AllZip-from_places (IsMergedBank p q) p.banks q.banks (sym (length-map p.banks (moved_bank to at))) (λ k b d at_b at_d.
          let same : moved_bank to at b ≡ d = same_Some (moved_bank to at b) d (sym (at_map (moved_bank to at) p.banks k b at_b) ∙ at_d) in
          subst (IsMergedBank p q b) same (bank-kept k b at_b))

      pub folded-keeps : Keeps p q
      folded-keeps = record {
        title = refl;
        ports = refl;
        standing = standing-kept;
        stages = stages-kept;
        banks = banks-kept;
        inputs = inputs-named p shape lists fewer is_m;
        outputs = outputs-named p shape lists fewer is_m;
        ki = ki-named p shape lists fewer is_m;
        ko = ko-named p shape lists fewer is_m;
        net_names = no-new_nets p shape lists fewer is_m;
        cell_names = no-new_cells p shape lists fewer is_m;
        function = λ word wide.
            is_composition m q (shape-folded p shape lists fewer is_m) sound-kept word (wide ∙ sym (length-map p.inputs (renamed_rails to)))
            ∙ same-composed p.stages q.stages (functions-of n m p.stages q.stages stages-kept) word
            ∙ sym (is_composition n p shape sound word wide);
        sound = sound-kept;
        short = text-no_longer;
      }

      pub folded-smaller : IsSmaller n m
      folded-smaller = record {
        before = p;
        after = q;
        shape_before = shape;
        shape = shape-folded p shape lists fewer is_m;
        keeps = folded-keeps;
        fewer = cells-fewer;
      }
