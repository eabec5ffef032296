-- What `ncl_reach` answers its arguments.
use Rattle.std.specs.Prelude.{◌≡◌, ◌≤◌, ℕ, false, List, ◌∷◌, Option, Some, codes}
use Rattle.ncl_base.specs.Files.{Files, bytes_of, Grew, Rose}
use Rattle.ncl_command.specs.Command.{Arguments, check, command_of}
use Rattle.ncl_lines.specs.Line.{line}
use Rattle.ncl_check.specs.Headline.{IsDelayInsensitiveText}
use Rattle.ncl_check.specs.declared.reply.Outcome.{Outcome}
use Rattle.ncl_reply.specs.Devices.{SourceState, SinkState, CameOut}
use Rattle.ncl_reply.specs.Status.{status_of}
use Rattle.ncl_reply.specs.Given.{IsGiven}
use Rattle.ncl_reach_top.specs.Reply.{IsReachReply, IsWrongForInput}

-- the arguments are those of `check` without its name
abbrev pub as_check : Arguments → Arguments
as_check arguments = codes "check" ∷ arguments

-- they name a file and a limit, FILE [--limit N]
abbrev pub Asks : Arguments → List ℕ → ℕ → Type 0
Asks arguments file limit = command_of (as_check arguments) ≡ Some (check file limit false)

-- what a file is replied, where the source tells this of its files
pub record IsReachedFile (told : Option Files) (file : List ℕ) (limit status : ℕ) (text : List ℕ) : Type 0 where
  pub bytes : List ℕ
  pub given : IsGiven told file bytes
  pub outcome : Outcome
  pub ends : status ≡ status_of outcome
  pub reply : IsReachReply limit bytes outcome text

-- what a call has to say, before it is written
pub data SaysReached (arguments : Arguments) (source source_after : SourceState) : ℕ → List ℕ → Type 0 where
  not_understood : ((file : List ℕ) (limit : ℕ) → Asks arguments file limit → ⊥) → SaysReached arguments source source_after 2 (line (codes "words not understood"))
  replied : (file : List ℕ) (limit : ℕ) → Asks arguments file limit → (status : ℕ) (text : List ℕ) → IsReachedFile source.files file limit status text → SaysReached arguments source source_after status text
  read_failed : (file : List ℕ) (limit : ℕ) → Asks arguments file limit → Rose source.faults source_after.faults → SaysReached arguments source source_after 4 (line (codes "read failed"))
  no_memory : SaysReached arguments source source_after 7 (line (codes "out of memory"))

-- a call with these arguments ended with this status
pub record IsReachAnswered (arguments : Arguments) (source source_after : SourceState) (sink sink_after : SinkState) (status : ℕ) : Type 0 where
  pub said : ℕ
  pub text : List ℕ
  pub says : SaysReached arguments source source_after said text
  pub tells : CameOut sink sink_after said text status
  -- status 0 says that the bytes under the file's name are the text of a netlist that is delay-insensitive
  pub headline : (files : Files) (file : List ℕ) (limit : ℕ) → source.files ≡ Some files → Asks arguments file limit → status ≡ 0 → IsDelayInsensitiveText (bytes_of files file)
  -- and status 1 that they are the text of one that isn't, by an input that is told
  pub refusal : (files : Files) (file : List ℕ) (limit : ℕ) → source.files ≡ Some files → Asks arguments file limit → status ≡ 1
      → (line : List ℕ) × IsWrongForInput limit (bytes_of files file) line × Grew sink.written line sink_after.written
  pub files : source_after.files ≡ source.files
  pub source_faults : source.faults ≤ source_after.faults
  pub sink_faults : sink.faults ≤ sink_after.faults
