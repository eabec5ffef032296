-- Plain words can be written.
use Rattle.ncl_top.proofs.Terms.{Compiled, IsPlain, IsWritable, IsWritableName, List, Model, NetlistData, [], and_from, and_parts, begins_word, continues_word, get_or, graphic_more, graphic_word, is_graphic, list_all, refl, true, ℕ, ◌∷◌, ◌≡◌}

all_graphic : (name : List ℕ) → list_all continues_word name ≡ true → list_all is_graphic name ≡ true
all_graphic [] all = refl
all_graphic (byte ∷ name) all =
    let parts = and_parts (continues_word byte) (list_all continues_word name) all in
    and_from _ _ (graphic_more byte parts.0) (all_graphic name parts.1)

-- a plain name can be written
writable_name : (name : List ℕ) → IsPlain name → IsWritableName name
writable_name [] plain = plain
writable_name (byte ∷ rest) plain =
    let parts = and_parts (begins_word byte) _ plain in
    let others = and_parts (list_all continues_word rest) _ parts.1 in
    and_from _ _ (graphic_word byte parts.0) (all_graphic rest others.0)

-- a compiled netlist can be written
pub writable : (models : List Model) (n : NetlistData) → Compiled models n → IsWritable n
writable models n compiled = record {
  title = writable_name n.name compiled.plain_module;
  nets = λ k d below. writable_name (get_or n.nets k d) (compiled.plain_nets k d below);
  cells = λ k d below. writable_name ((get_or n.cells k d).name) (compiled.plain_cells k d below);
}
