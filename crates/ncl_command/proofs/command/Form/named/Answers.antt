use Rattle.ncl_command.proofs.Terms.{Bool, Command, List, Option, bytes_eq, bytes_eq-Decides, codes, false, refl, true, ℕ, ◌∙◌, ◌≡◌, ◌≢◌}
use Rattle.std.specs.Prelude.{if◌then◌else◌}
use Rattle.ncl_command.proofs.command.Form.named.Goals as goal

-- a name that isn't this one goes on to the next
other : (name text : List ℕ) → name ≢ text → (x y : Option Command) → (if bytes_eq name text then x else y) ≡ y
other name text differ x y = by (bytes_eq name text) (bytes_eq-Decides name text).0
  where
    by : (b : Bool) → (b ≡ true → name ≡ text) → (if b then x else y) ≡ y
    by true same = absurd (differ (same refl))
    by false same = refl

pub returns-in_default : goal.returns-in_default
returns-in_default c arguments =
    let name = c.args.name.now in
    other name (codes "check") c.in_default.not-check _ _
    ∙ other name (codes "compile") c.in_default.not-compile _ _
    ∙ other name (codes "sim") c.in_default.not-sim _ _
    ∙ other name (codes "match") c.in_default.not-match _ _
    ∙ other name (codes "demo") c.in_default.not-demo _ _
