-- The table of gates as a list, so that one test that computes covers all of it.
use Rattle.ncl_gates.proofs.Terms.{Bool, IfNone, IfSome, KINDS, Kind, List, None, Option, Some, Th12, ap, bytes_eq, bytes_eq-Decides, find, list_all, name_of, refl, sym, true, ℕ, ◌∙◌, ◌≡◌, ◌≢◌}
use Rattle.ncl_gates.proofs.ListTests.{find_passes, find_itself}

-- the first gate of the table with a name
abbrev pub kind_named : List ℕ → Option Kind
kind_named name = find (λ kind. bytes_eq (name_of kind) name) KINDS

-- by its name each gate is found, and no other
pub kind_named-name_of : (kind : Kind) → kind_named (name_of kind) ≡ Some kind
kind_named-name_of Th12 = refl
kind_named-name_of _ = refl

-- a test that the whole table passes holds of each gate
pub every_kind : (test : Kind → Bool) → list_all test KINDS ≡ true → (kind : Kind) → test kind ≡ true
every_kind test all kind = find_passes (λ other. bytes_eq (name_of other) (name_of kind)) test KINDS kind all (kind_named-name_of kind)

-- what is found by a name has it
pub IfSome-named : (name : List ℕ) (found : Option Kind) → found ≡ kind_named name → IfSome found (λ kind. name_of kind ≡ name)
IfSome-named name (Some kind) is = (bytes_eq-Decides (name_of kind) name).0 (find_itself (λ other. bytes_eq (name_of other) name) KINDS kind (sym is))
IfSome-named name None is = tt

-- where none is found by a name, no gate has it
pub IfNone-named : (name : List ℕ) (found : Option Kind) → found ≡ kind_named name → IfNone found ((kind : Kind) → name_of kind ≢ name)
IfNone-named name (Some kind) is = tt
IfNone-named name None is = λ kind same. let bad : Some kind ≡ None = sym (kind_named-name_of kind) ∙ (ap kind_named same ∙ sym is) in absurd cc
