-- The line that tells why a text is no list of models.
use Rattle.std.specs.Prelude.{ℕ, List, ◌++◌, codes, decimal}
use Rattle.ncl_blif.specs.declared.fault.BlifFault.{BlifFault}
use Rattle.ncl_blif.specs.declared.fault.BlifFault.TheVariants.{Syntax, Unsupported, BadRow, MixedCover, TwoDrivers, Undriven, Cycle, NoBits, Width, Memory}
use Rattle.ncl_lines.specs.Line.{line, out_of_memory}

-- the line that tells why a text of BLIF is not read, with the number of the line or the model that breaks it
abbrev pub blif_line : BlifFault → List ℕ
blif_line (Syntax number) = line (codes "blif: syntax in line " ++ decimal number)
blif_line (Unsupported number) = line (codes "blif: unsupported in line " ++ decimal number)
blif_line (BadRow number) = line (codes "blif: bad row in line " ++ decimal number)
blif_line (MixedCover number) = line (codes "blif: mixed cover in line " ++ decimal number)
blif_line (TwoDrivers number) = line (codes "blif: two drivers in line " ++ decimal number)
blif_line (Undriven number) = line (codes "blif: undriven in line " ++ decimal number)
blif_line (Cycle number) = line (codes "blif: cycle in line " ++ decimal number)
blif_line (NoBits number) = line (codes "blif: no bits in model " ++ decimal number)
blif_line (Width number) = line (codes "blif: width of model " ++ decimal number)
blif_line Memory = out_of_memory
