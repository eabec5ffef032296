-- The lines that tell why the files of a simulation are not read.
use Rattle.std.specs.Prelude.{ℕ, List, ◌++◌, codes, decimal}
use Rattle.ncl_delay.specs.declared.fault.DelayFault.{DelayFault}
use Rattle.ncl_delay.specs.declared.fault.DelayFault.TheVariants as delay
use Rattle.ncl_delay.specs.declared.fault.WordsFault.{WordsFault}
use Rattle.ncl_delay.specs.declared.fault.WordsFault.TheVariants as words
use Rattle.ncl_lines.specs.Line.{line, out_of_memory}

-- the line that tells why a file of delays is not read, with the number of the line that breaks it
abbrev pub delay_line : DelayFault → List ℕ
delay_line (delay.Syntax number) = line (codes "delays: syntax in line " ++ decimal number)
delay_line (delay.UnknownCell number) = line (codes "delays: unknown cell in line " ++ decimal number)
delay_line delay.Memory = out_of_memory

-- the line that tells why a file of words is not read, with the number of the line that breaks it
abbrev pub words_line : WordsFault → List ℕ
words_line (words.Syntax number) = line (codes "words: syntax in line " ++ decimal number)
words_line (words.Width number) = line (codes "words: width in line " ++ decimal number)
words_line (words.TooMany number) = line (codes "words: too many in line " ++ decimal number)
words_line words.Memory = out_of_memory
