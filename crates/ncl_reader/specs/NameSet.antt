-- Sets of names.
use Rattle.std.specs.Prelude.{ℕ, List, Bool, ◌||◌, is_some, map}
use Rattle.std.specs.BTreeMap.{get_by}
use Rattle.std.specs.Cmp.Lexicographic.{slice_cmp}
use Rattle.std.specs.Ordering.{nat_cmp}
use Rattle.std.specs.List.{list_any}
use Rattle.std.specs.Str.{bytes_eq}
use Rattle.ncl_reader.specs.declared.name_set.NameSet.{NameSet}

-- the set has the name: it is sorted in, or it waits
abbrev pub has_name : NameSet → List ℕ → Bool
has_name names x =
    is_some (get_by (λ key. slice_cmp nat_cmp x key.now) names.sorted) || list_any (bytes_eq x) (map (λ y. y.now) names.waiting.items)
