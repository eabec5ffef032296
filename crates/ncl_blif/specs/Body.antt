-- What the parts of a model say so far.
use Rattle.std.specs.Prelude.{◌≡◌, ℕ, List, [], false, map}
use Rattle.ncl_blif.specs.declared.draft_body.DraftBody.{DraftBody}
use Rattle.ncl_blif.specs.Named.{NamedModel, NamedCover, drivers_of}
use Rattle.ncl_blif.specs.Drivers.{driver_at, driver_among}
use Rattle.ncl_blif.specs.LineFaults.{has_twins}

-- the model that is said so far, without its name
abbrev pub said_by : DraftBody → NamedModel
said_by body = record {
  name = [];
  inputs = map (λ name. name.now) body.inputs.items;
  outputs = body.outputs.items;
  covers = body.covers.items;
}

-- what drives each signal is kept by its name, and no signal has two drivers
pub record AreDriversKept (body : DraftBody) : Type 0 where
  pub each : (name : List ℕ) → driver_at body.drivers name ≡ driver_among (said_by body).inputs (map (λ (cover : NamedCover). cover.out) (said_by body).covers) name
  pub once : has_twins (drivers_of (said_by body)) ≡ false
