-- Words of bits, and how they are written.
use Rattle.std.specs.Prelude.{◌≡◌, ℕ, ◌<◌, ◌≤◌, ◌⊎◌, List, map, length, All, Bool, true, false}
use Rattle.ncl_base.specs.declared.word.TheConstants.{MOST_BITS}

-- a bit as a character: `1` for true and `0` for false
abbrev pub character_of : Bool → ℕ
character_of true = 49
character_of false = 48

-- a word as text, its first bit leftmost
abbrev pub text_of : List Bool → List ℕ
text_of word = map character_of word

-- the text of a word of 1 to 128 bits: it has only the characters `0` and `1`
pub record IsWordText (text : List ℕ) : Type 0 where
  pub some : 0 < length text
  pub few : length text ≤ MOST_BITS
  pub binary : All (λ c. (c ≡ 48) ⊎ (c ≡ 49)) text
