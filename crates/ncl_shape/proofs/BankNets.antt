-- The requests that name banks are nets.
use Rattle.ncl_shape.proofs.Terms.{B, Follows, IsBank, IsChain, IsNetlist, List, NetId, NetlistData, RailOf, bank_of_rail, get_or, length, numbers_of, on_pin_within, refl, ℕ, ◌<◌}
use Rattle.ncl_shape.proofs.ChainLaws.{banks_of_chain}
use Rattle.ncl_shape.proofs.Places.{number_of_place}

-- the request of a bank is a net
pub bank_within : (n : NetlistData) → IsNetlist n → (bank : ℕ) → IsBank n bank → bank < length n.nets
bank_within n is bank (c, of_c) = on_pin_within n is c of_c.0 B bank of_c.2

-- and so is that of a bank that follows, and of one that is followed
pub follower_within : (n : NetlistData) → IsNetlist n → (before bank : ℕ) → Follows n before bank → bank < length n.nets
follower_within n is before bank (net, (c, of_c, on), from) = bank_within n is bank (c, of_c)

pub followed_within : (n : NetlistData) → IsNetlist n → (before bank : ℕ) → Follows n before bank → before < length n.nets
followed_within n is before bank (net, is_input, from) = bank_within n is before (bank_of_rail n net (RailOf before) before refl from)

-- and so are those of a chain
pub chain_within : (n : NetlistData) → IsNetlist n → (banks : List NetId) → IsChain n (numbers_of banks) → (k : ℕ) (d : NetId) → k < length banks → (get_or banks k d).0 < length n.nets
chain_within n is banks chain k d lt = bank_within n is (get_or banks k d).0 (banks_of_chain n (numbers_of banks) chain k (get_or banks k d).0 (number_of_place banks k d lt))
