-- Changes of nets over time, and texts that fit on a line.
use Rattle.ncl_vcd.proofs.Terms.{AllByRecursion, ValueChange, nat_eq, nat_lt}
use Rattle.std.specs.Prelude.{◌≢◌, ℕ, ◌^◌, ◌<◌, ◌≤◌, Bool, List, [], ◌∷◌, cond}

-- the value of a net after a change, where only changes up to a time count
abbrev pub after_change : ℕ → ℕ → Bool → ValueChange → Bool
after_change net time value c = cond (nat_lt time c.time) value (cond (nat_eq c.net net) c.value value)

-- and after some changes in turn
abbrev pub value_at : ℕ → ℕ → Bool → List ValueChange → Bool
value_at net time value [] = value
value_at net time value (c ∷ changes) = value_at net time (after_change net time value c) changes

-- the times never go down, from a time on, and fit in 64 bits
abbrev pub Rise : ℕ → List ValueChange → Type 0
Rise last [] = Unit {0}
Rise last (c ∷ changes) = (last ≤ c.time) × (c.time < 2 ^ 64) × Rise c.time changes

-- no byte of a text is a line feed
abbrev pub IsOneLine : List ℕ → Type 0
IsOneLine l = AllByRecursion (λ c. c ≢ 10) l
