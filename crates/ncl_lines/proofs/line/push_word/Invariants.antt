use Rattle.std.proofs.Common.{◌≡◌, ◌++◌, take}
use Rattle.ncl_base.specs.Words.{text_of as word_text}
use Rattle.ncl_lines.proofs.line.push_word.Given as goal

abbrev pub invariant-loop-bit : goal.invariant-loop-bit
invariant-loop-bit l = l.text.items ≡ l.initial.text.items ++ word_text (take l.bit-index l.bit-items)
