use Rattle.ncl_reader.proofs.Terms.{◌≡◌, ℕ, List, vec_len, has_name}
use Rattle.ncl_reader.proofs.name_set.NameSet.sort.Given as goal

-- the names are those of the beginning
abbrev pub invariant-loop-name : goal.invariant-loop-name
invariant-loop-name l = (x : List ℕ) → has_name l.self x ≡ has_name l.initial.self x

abbrev pub decreases-loop-name : goal.decreases-loop-name
decreases-loop-name l = vec_len l.self.waiting
