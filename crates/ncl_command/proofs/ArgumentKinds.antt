-- What an argument is, from the dashes that it begins with.
use Rattle.ncl_command.proofs.Terms.{Bool, List, Plain, Refused, [], ap, dashed_kind, eqb-true, false, if◌then◌else◌, kind_of, option_kind, refl, true, ℕ, ◌==◌, ◌∙◌, ◌∷◌, ◌≡◌, ◌≢◌}

-- an argument that has bytes and no dash in front is no option
pub plain_kind : (argument : List ℕ) → ((rest : List ℕ) → argument ≢ 45 ∷ rest) → argument ≢ [] → kind_of argument ≡ Plain
plain_kind [] no_dash full = absurd (full refl)
plain_kind (byte ∷ rest) no_dash full = by (byte == 45) refl
  where
    by : (dash : Bool) → byte == 45 ≡ dash → (if byte == 45 then dashed_kind rest else Plain) ≡ Plain
    by true e = absurd (no_dash rest (ap (λ b. b ∷ rest) (eqb-true byte 45 e)))
    by false e = rw e refl

-- an argument with one dash in front is of no form
pub refused_kind : (argument rest : List ℕ) → argument ≡ 45 ∷ rest → ((more : List ℕ) → rest ≢ 45 ∷ more) → kind_of argument ≡ Refused
refused_kind argument [] is no_dash = ap kind_of is
refused_kind argument (byte ∷ rest) is no_dash = ap kind_of is ∙ by (byte == 45) refl
  where
    by : (dash : Bool) → byte == 45 ≡ dash → (if byte == 45 then option_kind rest else Refused) ≡ Refused
    by true e = absurd (no_dash rest (ap (λ b. b ∷ rest) (eqb-true byte 45 e)))
    by false e = rw e refl
