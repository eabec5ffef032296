-- A word that is found has as many bits as the space.
use Rattle.ncl_stage.proofs.Terms.{Bool, List, Some, at, is_value, least, length, member-found, words, ℕ, ◌≡◌}
use Rattle.ncl_stage.proofs.OrderLaws.{words-length}

pub least-length : (value : Bool) (n : ℕ) (table word : List Bool) → least value n table ≡ Some word → length word ≡ n
least-length value n table word e = words-length n word (member-found (λ w. is_value value (at table w)) (words n) word e)
