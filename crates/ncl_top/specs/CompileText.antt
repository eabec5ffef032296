-- The line that tells why models are not compiled.
use Rattle.std.specs.Prelude.{ℕ, List, ◌++◌, codes, decimal}
use Rattle.ncl_compile.specs.declared.fault.CompileFault.{CompileFault}
use Rattle.ncl_compile.specs.declared.fault.CompileFault.TheVariants.{TooWide, TooLong, TooMany, Memory}
use Rattle.ncl_lines.specs.Line.{line, out_of_memory}

-- the line that tells which limit models pass, with the number of the first model that is too wide
abbrev pub compile_line : CompileFault → List ℕ
compile_line (TooWide number) = line (codes "compile: too wide, model " ++ decimal number)
compile_line TooLong = line (codes "compile: too long")
compile_line TooMany = line (codes "compile: too many cells")
compile_line Memory = out_of_memory
