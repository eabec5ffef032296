-- What is kept of the names that stand.
use Rattle.std.specs.Prelude.{List}
use Rattle.ncl_reader.specs.declared.known.Known.{Known}
use Rattle.ncl_reader.specs.Lexemes.{Lexeme}
use Rattle.ncl_reader.specs.Vectors.{IsClear}
use Rattle.ncl_reader.specs.Ranges.{IsRanges}
use Rattle.ncl_reader.specs.KeptBits.{IsStanding}
use Rattle.ncl_reader.specs.Uses.{IsUses}

-- how names were declared, which have the form of a bit's name, and which a connection used; and no name is that
-- of a bit of a vector that is declared
pub record KeepsNames (known : Known) (xs : List Lexeme) : Type 0 where
  pub ranges : IsRanges known.ranges xs
  pub standing : IsStanding known.bits xs
  pub uses : IsUses known.uses xs
  pub clear : IsClear xs
