-- The tree of a netlist's text says the parts that say the netlist.
use Rattle.ncl_writer.proofs.Terms.{All, All-head, All-tail, AllByRecursion, AllDiffer, AreCellsOf, Bool, Cell, CellFits, Conn, IsDistinct-head, IsDistinct-tail, IsNetlist, List, NetlistData, None, Port, Said, Says, Some, [], ap, arith, bytes_eq, false, find, flat_map, length, map, net_on, part_of, parts_said, pin_names, pins_of, pins_of-differ, ports_of, refl, same_itself, same_name, subst, sym, true, unwrap_or, zip, ℕ, ◌++◌, ◌∙◌, ◌∷◌, ◌≡◌}
use Rattle.ncl_writer.proofs.Tree.{tree_of}
use Rattle.ncl_writer.proofs.TreeItems.{names_of, header_of-head_of, said_port, said_by-tree_of, length-pin_names, joined_of, joined_in-items_of}
use Rattle.ncl_writer.proofs.KeptRules.{keeps_rules}

-- ---- ports

find-here : (p : Said → Bool) (c : Said) (cs : List Said) → p c ≡ true → find p (c ∷ cs) ≡ Some c
find-here p c cs e = rw e refl

find-there : (p : Said → Bool) (c : Said) (cs : List Said) → p c ≡ false → find p (c ∷ cs) ≡ find p cs
find-there p c cs e = rw e refl

-- what is said of a port is found by its name
abbrev IsTold : List Port → Port → Type 0
IsTold ports port = find (λ (s : Said). bytes_eq s.name port.name) (map said_port ports) ≡ Some (said_port port)

told : (ports : List Port) → AllDiffer (names_of ports) → AllByRecursion (IsTold ports) ports
told [] differ = tt
told (port ∷ ports) differ = (find-here (λ (s : Said). bytes_eq s.name port.name) (said_port port) (map said_port ports) (same_itself port.name), others ports heads (told ports (IsDistinct-tail same_name port.name (names_of ports) differ)))
  where
    heads : AllByRecursion (λ y. same_name port.name y ≡ false) (names_of ports)
    heads = IsDistinct-head same_name port.name (names_of ports) differ

    others : (more : List Port) → AllByRecursion (λ y. same_name port.name y ≡ false) (names_of more) → AllByRecursion (IsTold ports) more → AllByRecursion (IsTold (port ∷ ports)) more
    others [] other tells = tt
    others (one ∷ more) other tells = (find-there (λ (s : Said). bytes_eq s.name one.name) (said_port port) (map said_port ports) other.0 ∙ tells.0, others more other.1 tells.1)

-- ports by their names and by what is told of them
ports_again : (all : List Port) (ports : List Port) → AllByRecursion (IsTold all) ports → flat_map (λ x. ports_of (find (λ (s : Said). bytes_eq s.name x) (map said_port all))) (names_of ports) ≡ ports
ports_again all [] tells = refl
ports_again all (port ∷ ports) tells = (λ i. ports_of (tells.0 i) ++ flat_map (λ x. ports_of (find (λ (s : Said). bytes_eq s.name x) (map said_port all))) (names_of ports)) ∙ ap (λ l. port ∷ l) (ports_again all ports tells.1)

-- ---- cells

-- a pin that the first connection isn't on
past_first : (conn : Conn) (conns : List Conn) (pins : List (List ℕ)) → AllByRecursion (λ y. same_name conn.pin y ≡ false) pins → map (λ pin. unwrap_or (net_on (conn ∷ conns) pin) []) pins ≡ map (λ pin. unwrap_or (net_on conns pin) []) pins
past_first conn conns [] other = refl
past_first conn conns (pin ∷ pins) other =
    let there : net_on (conn ∷ conns) pin ≡ net_on conns pin = rw other.0 refl in
    λ i. unwrap_or (there i) [] ∷ past_first conn conns pins other.1 i

-- each pin is on the net that it was joined with
nets_again : (pins names : List (List ℕ)) → AllDiffer pins → length pins ≡ length names → names ≡ map (λ pin. unwrap_or (net_on (map (λ (p, net). record { pin = p; net = record { name = net; index = None } }) (zip pins names)) pin) []) pins
nets_again [] [] differ same = refl
nets_again [] (name ∷ names) differ same = absurd (omega arith)
nets_again (pin ∷ pins) [] differ same = absurd (omega arith)
nets_again (pin ∷ pins) (name ∷ names) differ same =
    let conn : Conn = record { pin = pin; net = record { name = name; index = None } } in
    let conns : List Conn = map (λ (p, net). record { pin = p; net = record { name = net; index = None } }) (zip pins names) in
    let here : unwrap_or (net_on (conn ∷ conns) pin) [] ≡ name = rw (same_itself pin) refl in
    let rest = nets_again pins names (IsDistinct-tail same_name pin pins differ) (omega arith) ∙ sym (past_first conn conns pins (IsDistinct-head same_name pin pins differ)) in
    λ i. sym here i ∷ rest i

cells_again : (nets : List (List ℕ)) (cells : List Cell) → All (CellFits (length nets)) cells → AreCellsOf (map (joined_of nets) cells) (map (part_of nets) cells)
cells_again nets [] fits = tt
cells_again nets (cell ∷ cells) fits =
    let here = All-head (CellFits (length nets)) cell cells fits in (
      record { kind = refl; name = refl; pins = nets_again (pins_of cell.kind) (pin_names nets cell) (pins_of-differ cell.kind) (length-pin_names nets cell here) },
      cells_again nets cells (All-tail (CellFits (length nets)) cell cells fits),
    )

-- ---- the tree

pub says_parts : (n : NetlistData) → IsNetlist n → Says (tree_of n) (parts_said n)
says_parts n ok =
    let header = header_of-head_of n in
    let differ : AllDiffer (names_of n.ports) = subst AllDiffer header (keeps_rules n ok).header in
    let again = ports_again n.ports n.ports (told n.ports differ) in
    record {
      title = refl;
      ports = sym again ∙ (λ i. flat_map (λ x. ports_of (find (λ (s : Said). bytes_eq s.name x) (sym (said_by-tree_of n) i))) (sym header i));
      cells = subst (λ joined. AreCellsOf joined (map (part_of n.nets) n.cells)) (sym (joined_in-items_of n ok)) (cells_again n.nets n.cells ok.fits);
    }
