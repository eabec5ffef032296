-- What the bytes of a file of models say.
use Rattle.std.specs.Prelude.{ℕ, ◌<◌, ◌≤◌, List, length, codes}
use Rattle.ncl_base.specs.declared.source.TheConstants.{MOST_BYTES}
use Rattle.ncl_blif.specs.declared.fault.BlifFault.{BlifFault}
use Rattle.ncl_blif.specs.declared.model.Model.{Model}
use Rattle.ncl_blif.specs.Model.{AreModels}
use Rattle.ncl_blif.specs.Answer.{IsRead, IsRefused}
use Rattle.ncl_lines.specs.Line.{line}
use Rattle.ncl_report.specs.BlifText.{blif_line}

-- the bytes say these models
pub record AreModelsText (bytes : List ℕ) (models : List Model) : Type 0 where
  pub few : length bytes ≤ MOST_BYTES
  pub read : IsRead bytes models
  pub are : AreModels models

-- the bytes say no models, and this line tells why
pub data AreRefusedModels (bytes : List ℕ) : List ℕ → Type 0 where
  -- a file has at most 16,777,216 bytes
  too_long : MOST_BYTES < length bytes → AreRefusedModels bytes (line (codes "blif: too long"))
  -- the text is refused at its first line or model that breaks
  unread : length bytes ≤ MOST_BYTES → (fault : BlifFault) → IsRefused bytes fault → AreRefusedModels bytes (blif_line fault)
