-- The lexemes of a netlist's text are those of its tree.
use Rattle.ncl_writer.proofs.Terms.{All, All-drop, All-head, All-map, All-push, All-tail, All-take, AllByRecursion, Cell, CellFits, Conn, End, EndModule, IsNetlist, IsWritable, IsWritableName, Item, Lexeme, List, NetId, NetlistData, None, Port, Word, [], ap, append_assoc, arith, cell_line, cell_name_of, closed, codes, flat_map, flat_map-append, get_or, head_phrase, is_capital_word, item_phrase, length, length-map, length_push, map, opened, pin_names, pin_text, pins_of, pins_of-capital, port_line, recursion_from_All, refl, spelled_name, subst, sym, text_of, text_phrase, true, wire_line, zip, ℕ, ◌++◌, ◌+◌, ◌<◌, ◌∙◌, ◌∷◌, ◌≡◌}
use Rattle.ncl_writer.proofs.Lexing.{Lexes}
use Rattle.ncl_writer.proofs.NameLexes.{lexes-endmodule}
use Rattle.ncl_writer.proofs.Tree.{port_item, wire_item, wires_of, conns_of, cell_item, head_of, tree_of}
use Rattle.ncl_writer.proofs.LineLexes.{IsWritableConn, conn_text, lexes-wire_line, lexes-port_line, lexes-instance, lexes-header, lexes-lines}

-- ---- the pins of a cell

pin_texts-conns : (pins names : List (List ℕ)) → map conn_text (map (λ (pin, net). record { pin = pin; net = record { name = net; index = None } }) (zip pins names)) ≡ map (λ (pin, net). pin_text pin net) (zip pins names)
pin_texts-conns [] names = refl
pin_texts-conns (pin ∷ pins) [] = refl
pin_texts-conns (pin ∷ pins) (name ∷ names) = ap (λ l. pin_text pin name ∷ l) (pin_texts-conns pins names)

conns_writable : (pins names : List (List ℕ)) → AllByRecursion (λ pin. is_capital_word pin ≡ true) pins → AllByRecursion IsWritableName names → AllByRecursion IsWritableConn (map (λ (pin, net). record { pin = pin; net = record { name = net; index = None } }) (zip pins names))
conns_writable [] names capital may = tt
conns_writable (pin ∷ pins) [] capital may = tt
conns_writable (pin ∷ pins) (name ∷ names) capital may = (record { pin = capital.0; net = may.0; whole = refl }, conns_writable pins names capital.1 may.1)

conns_some : (pins names : List (List ℕ)) → 0 < length pins → 0 < length names → 0 < length {A = Conn} (map (λ (pin, net). record { pin = pin; net = record { name = net; index = None } }) (zip pins names))
conns_some [] names p q = absurd (omega arith)
conns_some (pin ∷ pins) [] p q = absurd (omega arith)
conns_some (pin ∷ pins) (name ∷ names) p q = omega arith

module _ (nets : List (List ℕ)) (nets_may : All IsWritableName nets) where
  pin_names_writable : (cell : Cell) → CellFits (length nets) cell → All IsWritableName (pin_names nets cell)
  pin_names_writable cell fits =
      All-map IsWritableName (λ (net : NetId). get_or nets net.0 []) (cell.ins.items ++ cell.out ∷ [])
      (All-push (λ (net : NetId). IsWritableName (get_or nets net.0 [])) cell.ins.items cell.out (λ k d within. nets_may (get_or cell.ins.items k d).0 [] (fits.inputs k d within)) (nets_may cell.out.0 [] fits.output))

  -- a cell that fits, and whose name can be written
  pub record IsWritableCell (cell : Cell) : Type 0 where
    pub name : IsWritableName cell.name
    pub fits : CellFits (length nets) cell

  lexes-cell_line : (cell : Cell) (rest : List ℕ) (lexemes : List Lexeme) → IsWritableCell cell → Lexes rest lexemes → Lexes (cell_line nets cell ++ rest) (item_phrase (cell_item nets cell) ++ lexemes)
  lexes-cell_line cell rest lexemes may lexes =
      let names : List (List ℕ) = pin_names nets cell in
      let many : length names ≡ length cell.ins.items + 1 = omega (arith, length-map (cell.ins.items ++ cell.out ∷ []) (λ (net : NetId). get_or nets net.0 []), length_push cell.ins.items cell.out) in
      subst (λ texts. Lexes ((cell_name_of cell.kind ++ 32 ∷ (spelled_name cell.name ++ (opened texts ++ codes ");\n"))) ++ rest) (item_phrase (cell_item nets cell) ++ lexemes)) (pin_texts-conns (pins_of cell.kind) names)
      (lexes-instance cell.kind cell.name (conns_of nets cell) rest lexemes may.name
      (conns_some (pins_of cell.kind) names (omega (arith, may.fits.pins)) (omega (arith, many)))
      (conns_writable (pins_of cell.kind) names (recursion_from_All (λ pin. is_capital_word pin ≡ true) (pins_of cell.kind) (pins_of-capital cell.kind)) (recursion_from_All IsWritableName names (pin_names_writable cell may.fits)))
      lexes)

-- ---- the whole text

spelled_names : (ports : List Port) → map spelled_name (map (λ (port : Port). port.name) ports) ≡ map (λ (port : Port). spelled_name port.name) ports
spelled_names [] = refl
spelled_names (port ∷ ports) = ap (λ l. spelled_name port.name ∷ l) (spelled_names ports)

regrouped : (h a b c e f : List Lexeme) → (h ++ (a ++ (b ++ (c ++ e)))) ++ f ≡ (h ++ (a ++ (b ++ c))) ++ (e ++ f)
regrouped h a b c e f = simp append_assoc

module _ (n : NetlistData) (ok : IsNetlist n) (may : IsWritable n) where
  ports_writable : AllByRecursion IsWritableName (map (λ (port : Port). port.name) n.ports)
  ports_writable =
      recursion_from_All IsWritableName (map (λ (port : Port). port.name) n.ports) (subst (All IsWritableName) ok.ports_first (All-take IsWritableName (length n.ports) n.nets may.nets))

  each_port : (ports : List Port) → AllByRecursion IsWritableName (map (λ (port : Port). port.name) ports) → AllByRecursion (λ (port : Port). IsWritableName port.name) ports
  each_port [] all = tt
  each_port (port ∷ ports) all = (all.0, each_port ports all.1)

  each_cell : (cells : List Cell) → All (λ (cell : Cell). IsWritableName cell.name) cells → All (CellFits (length n.nets)) cells → AllByRecursion (IsWritableCell n.nets may.nets) cells
  each_cell [] named fits = tt
  each_cell (cell ∷ cells) named fits = (
    record { name = All-head (λ (c : Cell). IsWritableName c.name) cell cells named; fits = All-head (CellFits (length n.nets)) cell cells fits },
    each_cell cells (All-tail (λ (c : Cell). IsWritableName c.name) cell cells named) (All-tail (CellFits (length n.nets)) cell cells fits),
  )

  -- the lexemes of the parts, one after another
  abbrev phrases : List Lexeme
  phrases =
      head_phrase (head_of n)
      ++ (flat_map item_phrase (map port_item n.ports)
      ++ (flat_map item_phrase (map wire_item (wires_of n))
      ++ (flat_map item_phrase (map (cell_item n.nets) n.cells) ++ Word EndModule ∷ [])))

  pub lexes-text : Lexes (text_of n) phrases
  lexes-text =
      let cells : List ℕ = flat_map (cell_line n.nets) n.cells ++ codes "endmodule\n" in
      let cell_phrases : List Lexeme = flat_map item_phrase (map (cell_item n.nets) n.cells) ++ Word EndModule ∷ [] in
      let wires : List ℕ = flat_map wire_line (wires_of n) ++ cells in
      let wire_phrases : List Lexeme = flat_map item_phrase (map wire_item (wires_of n)) ++ cell_phrases in
      let ports : List ℕ = flat_map port_line n.ports ++ wires in
      let port_phrases : List Lexeme = flat_map item_phrase (map port_item n.ports) ++ wire_phrases in
      let lexes_cells : Lexes cells cell_phrases = lexes-lines (cell_line n.nets) (cell_item n.nets) (IsWritableCell n.nets may.nets) (lexes-cell_line n.nets may.nets) n.cells (codes "endmodule\n") (Word EndModule ∷ []) (each_cell n.cells may.cells ok.fits) lexes-endmodule in
      let lexes_wires : Lexes wires wire_phrases = lexes-lines wire_line wire_item IsWritableName lexes-wire_line (wires_of n) cells cell_phrases (recursion_from_All IsWritableName (wires_of n) (All-drop IsWritableName (length n.ports) n.nets may.nets)) lexes_cells in
      let lexes_ports : Lexes ports port_phrases = lexes-lines port_line port_item (λ (port : Port). IsWritableName port.name) lexes-port_line n.ports wires wire_phrases (each_port n.ports ports_writable) lexes_wires in
      subst (λ texts. Lexes ((codes "module " ++ (spelled_name n.name ++ (opened texts ++ (closed texts ++ codes ";\n")))) ++ ports) (head_phrase (head_of n) ++ port_phrases)) (spelled_names n.ports)
      (lexes-header n.name (map (λ (port : Port). port.name) n.ports) ports port_phrases may.title ports_writable lexes_ports)

  -- they are the phrase of the tree, but for the end of the text
  pub phrases-tree : phrases ++ End ∷ [] ≡ text_phrase (tree_of n)
  phrases-tree =
      let ports : List Item = map port_item n.ports in
      let wires : List Item = map wire_item (wires_of n) in
      let cells : List Item = map (cell_item n.nets) n.cells in
      let apart : flat_map item_phrase (ports ++ (wires ++ cells)) ≡ flat_map item_phrase ports ++ (flat_map item_phrase wires ++ flat_map item_phrase cells) =
      flat_map-append item_phrase ports (wires ++ cells) ∙ ap (λ l. flat_map item_phrase ports ++ l) (flat_map-append item_phrase wires cells) in
      regrouped (head_phrase (head_of n)) (flat_map item_phrase ports) (flat_map item_phrase wires) (flat_map item_phrase cells) (Word EndModule ∷ []) (End ∷ [])
      ∙ ap (λ l. (head_phrase (head_of n) ++ l) ++ Word EndModule ∷ End ∷ []) (sym apart)
