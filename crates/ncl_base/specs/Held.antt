-- Sources and sinks in memory as records, and which of their calls fail.
use Rattle.std.specs.Prelude.{ℕ, ◌==◌, Bool, List, map, slice_get, Option, Some, None, []}
use Rattle.std.specs.List.{list_any}
use Rattle.std.specs.Str.{bytes_eq}
use Rattle.ncl_base.specs.Files.{Files, raised}
use Rattle.ncl_base.specs.declared.mem_file.MemFile.{MemFile}

-- a count after one more
abbrev pub next_count : ℕ → ℕ
next_count n = raised n 1

-- calls are numbered from 1, and one beyond number 2 ^ 64 - 1 keeps that number: after so many calls,
-- the next is one of those that fail
abbrev pub next_fails : List ℕ → ℕ → Bool
next_fails failing calls = list_any (λ number. number == next_count calls) failing

-- some file has the name
abbrev pub has_file : Files → List ℕ → Bool
has_file files name = list_any (λ file. bytes_eq file.0 name) files

-- files in memory as pairs of a name and bytes
abbrev pub files_of : List MemFile → Files
files_of files = map (λ file. (file.name, file.bytes)) files

-- the bytes of a file, or none where there is no file
abbrev pub bytes_in : Option MemFile → List ℕ
bytes_in None = []
bytes_in (Some file) = file.bytes

-- the bytes of the file at a place, which counts from 0; past the last file there are none
abbrev pub bytes_at : List MemFile → ℕ → List ℕ
bytes_at files place = bytes_in (slice_get files place)

-- held files, and the rest of the one that was begun; the bytes that its reads have given so far, and how
-- many times a file was to be begun
pub record SteadySourceData : Type 0 where
  pub files : Files
  pub left : List ℕ
  pub given : ℕ
  pub opens : ℕ

-- held files and the rest of the one that was begun; the bytes that its reads have given so far, how many
-- times a file was to be begun, and the most bytes of a read; the numbers of the calls that fail; the calls
-- so far, and how many of them failed
pub record MemSourceData : Type 0 where
  pub files : Files
  pub left : List ℕ
  pub given : ℕ
  pub opens : ℕ
  pub piece : ℕ
  pub failing : List ℕ
  pub calls : ℕ
  pub faults : ℕ

-- what was written; the most bytes in all, and of one write; the numbers of the calls that fail; the calls
-- so far, and how many of them failed
pub record MemSinkData : Type 0 where
  pub written : List ℕ
  pub room : ℕ
  pub piece : ℕ
  pub failing : List ℕ
  pub calls : ℕ
  pub faults : ℕ
