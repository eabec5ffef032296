-- Names as a netlist text has them: as they are, or escaped (IEEE 1364-2005, 3.7).
use Rattle.std.specs.Prelude.{ℕ, List, [], ◌∷◌, ◌++◌, Bool, false, ◌&&◌, IsTrue, All, is_none, if◌then◌else◌, codes}
use Rattle.std.specs.List.{list_all}
use Rattle.ncl_token.specs.Bytes.{begins_word, continues_word, is_graphic}
use Rattle.ncl_reader.specs.Words.{keyword_of}
use Rattle.ncl_netlist.specs.declared.cell.Cell.{Cell}
use Rattle.ncl_netlist.specs.Netlist.{NetlistData}

-- the name is a word and isn't reserved
abbrev pub is_plain : List ℕ → Bool
is_plain [] = false
is_plain (byte ∷ rest) = begins_word byte && (list_all continues_word rest && is_none (keyword_of (byte ∷ rest)))

-- the name as it is written: a plain one as it is, another between a backslash and a blank
abbrev pub spelled_name : List ℕ → List ℕ
spelled_name name = if is_plain name then name else codes "\\" ++ (name ++ codes " ")

-- whether the name has a byte, and only printing characters other than the blank
abbrev pub is_writable_name : List ℕ → Bool
is_writable_name [] = false
is_writable_name (byte ∷ rest) = list_all is_graphic (byte ∷ rest)

abbrev pub IsWritableName : List ℕ → Type 0
IsWritableName name = IsTrue (is_writable_name name)

-- the names of the module, of the nets and of the cells can be written
pub record IsWritable (n : NetlistData) : Type 0 where
  pub title : IsWritableName n.name
  pub nets : All IsWritableName n.nets
  pub cells : All (λ (cell : Cell). IsWritableName cell.name) n.cells
