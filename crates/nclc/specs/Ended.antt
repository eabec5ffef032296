-- How a call of the program ends.
use Rattle.std.specs.Prelude.{◌≡◌, ℕ, ◌⊎◌}
use Rattle.ncl_command.specs.Command.{Arguments}
use Rattle.ncl_reply.specs.Devices.{SourceState, SinkState}
use Rattle.ncl_top.specs.Answered.{IsAnswered}

-- the status of a call with these arguments: they were answered, or there was no memory for them, and then both the source
-- and the sink are as they were
abbrev pub Ended : Arguments → SourceState → SourceState → SinkState → SinkState → Type 0 → ℕ → Type 0
Ended arguments source source_after sink sink_after untouched status =
    IsAnswered arguments source source_after sink sink_after status ⊎ ((status ≡ 7) × untouched)
