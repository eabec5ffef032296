-- The tree of a netlist's text keeps the rules beside the grammar.
use Rattle.ncl_writer.proofs.Terms.{All, All-map, All-weaker, AllDiffer, Cell, CellFits, CellKind, Conn, Contains, IsDistinct-from_apart, IsInstanceOf, IsNetlist, Joined, KeepsRules, List, NetlistData, apart_from_distinct, arith, get_or-take, length, length-take, map, pins_of, pins_of-differ, refl, same_name, subst, sym, take, ℕ, ◌↔◌, ◌∙◌, ◌≡◌}
use Rattle.ncl_writer.proofs.Tree.{tree_of}
use Rattle.ncl_writer.proofs.TreeItems.{names_of, header_of-head_of, directed_by-items_of, joined_of, pins_joined, joined_in-items_of}

-- a first part of names that differ
differ-take : (k : ℕ) (names : List (List ℕ)) → AllDiffer names → AllDiffer (take k names)
differ-take k names differ =
    IsDistinct-from_apart same_name (take k names)
    (λ i j d before within.
    let few = length-take k names in
    (λ t. same_name (get_or-take k names i d (omega arith) t) (get_or-take k names j d (omega arith) t))
    ∙ apart_from_distinct same_name names i j d differ before (omega arith))

-- two lists that are the same contain the same
same_members : (xs ys : List (List ℕ)) → xs ≡ ys → (x : List ℕ) → Contains xs x ↔ Contains ys x
same_members xs ys same x = (subst (λ l. Contains l x) same, subst (λ l. Contains l x) (sym same))

is_instance : (nets : List (List ℕ)) (cell : Cell) → CellFits (length nets) cell → IsInstanceOf cell.kind (joined_of nets cell)
is_instance nets cell fits =
    let pins = pins_joined nets cell fits in
    record {
      cell = refl;
      once = subst AllDiffer (sym pins) (pins_of-differ cell.kind);
      pins = same_members (pins_of cell.kind) (map (λ (c : Conn). c.pin) (joined_of nets cell).conns) (sym pins);
    }

pub keeps_rules : (n : NetlistData) → IsNetlist n → KeepsRules (tree_of n)
keeps_rules n ok =
    let header = header_of-head_of n in
    let directed = directed_by-items_of n in
    let differ : AllDiffer (names_of n.ports) = subst AllDiffer ok.ports_first (differ-take (length n.ports) n.nets ok.net_names) in
    let Instance : Joined → Type 0 = λ joined. (kind : CellKind) × IsInstanceOf kind joined in
    record {
      header = subst AllDiffer (sym header) differ;
      once = subst AllDiffer (sym directed) differ;
      directed = same_members _ _ (header ∙ sym directed);
      cells =
          subst (All Instance) (sym (joined_in-items_of n ok))
          (All-map Instance (joined_of n.nets) n.cells (All-weaker (CellFits (length n.nets)) (λ cell. Instance (joined_of n.nets cell)) (λ cell fits. (cell.kind, is_instance n.nets cell fits)) n.cells ok.fits));
    }
