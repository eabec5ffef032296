-- What is said of the variants of a stage that several threads share.
use Rattle.std.specs.Prelude.{◌≡◌, ⊤, ℕ, ◌≤◌, Bool, false, true, List, All, map, Option, Some, None, IfSome, get_or, option_and_then, slice_get}
use Rattle.ncl_shape.specs.Stage.{StageData}
use Rattle.ncl_faults.specs.declared.variant.Variant.{Variant}
use Rattle.ncl_verdict.specs.declared.sharing.Heard.{Heard}
use Rattle.ncl_verdict.specs.declared.sharing.Heard.TheVariants.{Nothing, Said, Open}
use Rattle.ncl_verdict.specs.declared.sharing.Part.{Part}
use Rattle.ncl_verdict.specs.declared.verdict.Verdict.{Verdict}
use Rattle.ncl_verdict.specs.InSpace.{IsAfterBase}
use Rattle.ncl_verdict.specs.Judgement.{after_base, at_variant, first_of, stopped_at}

-- variants of a stage that may have so many nodes
pub record SharedData : Type 0 where
  pub stage : StageData
  pub limit : ℕ
  pub variants : List Variant

-- all variants after Base
abbrev pub shared_of : ℕ → StageData → SharedData
shared_of limit s = record { stage = s; limit = limit; variants = after_base s }

-- they come after Base, and some node may be
pub record AreShared (shared : SharedData) : Type 0 where
  pub limit : 1 ≤ shared.limit
  pub after : All (IsAfterBase shared.stage) shared.variants

-- what is said at a variant
abbrev pub said_at : SharedData → Variant → Option Verdict
said_at shared variant = at_variant (stopped_at shared.limit) shared.stage variant

-- what was heard of the variants is what is said first at them, unless they were not all asked
abbrev pub IsHeard : SharedData → Heard → Type 0
IsHeard shared Nothing = first_of (map (said_at shared) shared.variants) ≡ None
IsHeard shared (Said verdict) = first_of (map (said_at shared) shared.variants) ≡ Some verdict
IsHeard shared Open = ⊤

-- what is said at the variant at a place
abbrev pub at_place : SharedData → ℕ → Option Verdict
at_place shared place = option_and_then (said_at shared) (slice_get shared.variants place)

-- nothing is said at the variants that are marked
abbrev pub AreSilent : SharedData → List Bool → Type 0
AreSilent shared marks = (place : ℕ) → get_or marks place false ≡ true → at_place shared place ≡ None

-- at the variants that are marked nothing is said, and at the one that is told what is told
pub record IsPart (shared : SharedData) (part : Part) : Type 0 where
  pub silent : AreSilent shared part.silent.items
  pub said : IfSome part.said (λ told. at_place shared told.0 ≡ Some told.1)
