-- What a source and a sink tell, and how a text comes out of a sink.
use Rattle.std.specs.Prelude.{◌≡◌, ℕ, ◌+◌, ◌*◌, ◌≤◌, Bool, List, Option}
use Rattle.ncl_base.specs.Files.{Files, Rose, Grew, GrewWithin}
use Rattle.ncl_base.specs.declared.source.TheConstants.{MOST_BYTES}

-- what a source tells at one moment: the files that it holds, and how many of its calls have failed
pub record SourceState : Type 0 where
  pub files : Option Files
  pub faults : ℕ

-- how calls leave a source, of which all that it tells is given, that begin at most so many files: it holds the same files
-- and lets the same be begun, no fault is forgotten, and for each file it gives at most one byte more than the longest has
pub record IsServed {S : Type 0} (held : S → Option Files) (lets : S → List ℕ → Bool) (failed begun read : S → ℕ) (before now : S) (count : ℕ) : Type 0 where
  pub files : held now ≡ held before
  pub allowed : lets now ≡ lets before
  pub faults : failed before ≤ failed now
  pub opens : begun now ≤ begun before + count
  pub given : read now ≤ read before + count * (MOST_BYTES + 1)

-- what a sink tells at one moment: the bytes that were written, and how many of its calls have failed
pub record SinkState : Type 0 where
  pub written : Option (List ℕ)
  pub faults : ℕ

-- how a status and its text came out
pub data CameOut (sink sink_after : SinkState) (said : ℕ) (text : List ℕ) : ℕ → Type 0 where
  -- the text was written whole, and the status is its status
  whole : Grew sink.written text sink_after.written → CameOut sink sink_after said text said
  -- the sink failed in this call, after a first part of the text
  cut_short : Rose sink.faults sink_after.faults → GrewWithin sink.written text sink_after.written → CameOut sink sink_after said text 5
