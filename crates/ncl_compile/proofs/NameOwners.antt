-- The bank or stage that a name belongs to: names of different ones differ, as do those of banks, of stages and of inputs.
use Rattle.ncl_compile.proofs.Terms.{AllPairs-append, Bool, IsPartName, List, Member, Some, [], ap, arith, bank_prefix, codes, cond_both, eqb-true, false, flat_map, if◌then◌else◌, inl, inner_pair, inner_pairs, inr, member_of_flat_map, numbered, output_pairs, pair_names, pairs_driven, port_pair, refl, root_name, slice_get, stage_prefix, subst, suc, sym, true, zero, ℕ, ◌%◌, ◌*◌, ◌++◌, ◌+◌, ◌-◌, ◌/◌, ◌<◌, ◌==◌, ◌∙◌, ◌∷◌, ◌≡◌, ◌≢◌, ◌⊎◌}
use Rattle.ncl_compile.proofs.NameLaws.{AreApart, name_at, port_begins, name_of_pairs}
use Rattle.ncl_compile.proofs.CallLaws.{first_of}

-- the place whose number three digits say
abbrev digits_said : List ℕ → ℕ
digits_said (a ∷ b ∷ c ∷ rest) = (a - 48) * 100 + (b - 48) * 10 + (c - 48) - 1
digits_said _ = 0

-- the number of the bank or stage that has a name: `o` is of the last, `ko` of the first, others say it
abbrev pub owner_of : ℕ → List ℕ → ℕ
owner_of last [] = 0
owner_of last (byte ∷ rest) = if byte == 111 then last else if byte == 107 then 0 else digits_said rest

-- 1 for a name that an input port may have: `i`, `rst`, `ki`
abbrev pub input_like : List ℕ → ℕ
input_like [] = 0
input_like (byte ∷ rest) = if byte == 105 then 1 else if byte == 114 then 1 else if byte == 107 then (if first_of rest == 105 then 1 else 0) else 0

said_digits : (n : ℕ) → n < 999 → (48 + (n + 1) / 100 % 10 - 48) * 100 + (48 + (n + 1) / 10 % 10 - 48) * 10 + (48 + (n + 1) % 10 - 48) - 1 ≡ n
said_digits n below = omega arith

-- what a bank of this number drives: its rails, its root, and nets that it names
abbrev pub IsBankName : ℕ → ℕ → ℕ → List ℕ → Type 0
IsBankName last bank width x = Member x (pair_names (pairs_driven last bank width)) ⊎ ((x ≡ root_name bank) ⊎ IsPartName (bank_prefix bank) x)

module _ (last bank width : ℕ) (P : List ℕ → Type 0) (outputs : (rest : List ℕ) → bank ≡ last → P (111 ∷ rest)) (inner : (rest : List ℕ) → P (numbered 119 bank ++ rest)) where
  of_inner : (bit : ℕ) (r : Bool) → P (name_at (inner_pair bank bit) r)
  of_inner bit true = inner (numbered 98 bit ++ codes "_1")
  of_inner bit false = inner (numbered 98 bit ++ codes "_0")

  of_rails : (x : List ℕ) → Member x (pair_names (pairs_driven last bank width)) → P x
  of_rails =
      cond_both (bank == last) (output_pairs width) (inner_pairs bank width) (λ pairs. (x : List ℕ) → Member x (pair_names pairs) → P x)
      (λ is x m.
      let (i, r, from, to, same) = name_of_pairs (port_pair (codes "o")) 1 width x m in
      let begins = port_begins 111 i r in
      subst P (sym begins.is ∙ same) (outputs begins.rest (eqb-true bank last is)))
      (λ is x m. let (i, r, from, to, same) = name_of_pairs (inner_pair bank) 0 width x m in subst P same (of_inner i r))

  -- what holds of each of the four forms of its names holds of them all
  pub of_bank_name : P (root_name bank) → ((rest : List ℕ) → P (bank_prefix bank ++ rest)) → (x : List ℕ) → IsBankName last bank width x → P x
  of_bank_name root own x is =
      elim is [
        | inl rail ↦ of_rails x rail
        | inr other ↦ elim other [ inl is_root ↦ subst P (sym is_root) root | inr named ↦ subst P (sym named.is) (own named.rest) ]
      ]

root_owner : (last bank : ℕ) → bank < 999 → owner_of last (root_name bank) ≡ bank
root_owner last zero below = refl
root_owner last (suc bank) below = said_digits (suc bank) below

root_no_input : (bank : ℕ) → input_like (root_name bank) ≡ 0
root_no_input zero = refl
root_no_input (suc bank) = refl

root_no_stage : (bank : ℕ) → first_of (root_name bank) ≢ 115
root_no_stage zero same = absurd (omega (arith, same))
root_no_stage (suc bank) same = absurd (omega (arith, same))

-- names of banks and of stages say their numbers
pub bank_name_owner : (last bank width : ℕ) → bank < 999 → (x : List ℕ) → IsBankName last bank width x → owner_of last x ≡ bank
bank_name_owner last bank width below =
    of_bank_name last bank width (λ x. owner_of last x ≡ bank) (λ rest is. sym is) (λ rest. said_digits bank below) (root_owner last bank below) (λ rest. said_digits bank below)

pub bank_part_owner : (last bank : ℕ) (x : List ℕ) → bank < 999 → IsPartName (bank_prefix bank) x → owner_of last x ≡ bank
bank_part_owner last bank x below named = ap (owner_of last) named.is ∙ said_digits bank below

pub stage_part_owner : (last stage : ℕ) (x : List ℕ) → stage < 999 → IsPartName (stage_prefix stage) x → owner_of last x ≡ stage
stage_part_owner last stage x below named = ap (owner_of last) named.is ∙ said_digits stage below

-- those of banks are no names of stages, and neither are names of inputs
pub bank_name_first : (last bank width : ℕ) (x : List ℕ) → IsBankName last bank width x → first_of x ≢ 115
bank_name_first last bank width =
    of_bank_name last bank width (λ x. first_of x ≢ 115) (λ rest is same. absurd (omega (arith, same))) (λ rest same. absurd (omega (arith, same))) (root_no_stage bank) (λ rest same. absurd (omega (arith, same)))

pub bank_name_no_input : (last bank width : ℕ) (x : List ℕ) → IsBankName last bank width x → input_like x ≡ 0
bank_name_no_input last bank width =
    of_bank_name last bank width (λ x. input_like x ≡ 0) (λ rest is. refl) (λ rest. refl) (root_no_input bank) (λ rest. refl)

pub stage_name_no_input : (stage : ℕ) (x : List ℕ) → IsPartName (stage_prefix stage) x → input_like x ≡ 0
stage_name_no_input stage x named = ap input_like named.is

-- names of parts that each say the number of their part differ where those of each part do
pub owned_apart : {A : Type 0} (names_of : A → List (List ℕ)) (owner : List ℕ → ℕ) (first : ℕ) (parts : List A)
    → ((i : ℕ) (a : A) → slice_get parts i ≡ Some a → AreApart (names_of a) × ((x : List ℕ) → Member x (names_of a) → owner x ≡ first + i))
    → AreApart (flat_map names_of parts)
owned_apart names_of owner first [] each = λ i j d before within. absurd (omega (arith, within))
owned_apart {A} names_of owner first (a ∷ parts) each =
    AllPairs-append (λ x y. x ≢ y) (names_of a) (flat_map names_of parts) (each zero a refl).0 (owned_apart names_of owner (suc first) parts later) between
  where
    later : (i : ℕ) (b : A) → slice_get parts i ≡ Some b → AreApart (names_of b) × ((x : List ℕ) → Member x (names_of b) → owner x ≡ suc first + i)
    later i b at = let rest = each (suc i) b at in (rest.0, λ x m. let of_x = rest.1 x m in omega (arith, of_x))

    between : (x y : List ℕ) → Member x (names_of a) → Member y (flat_map names_of parts) → x ≢ y
    between x y in_first in_rest same =
        let (k, b, at, in_b) = member_of_flat_map names_of parts y in_rest in
        let of_x = (each zero a refl).1 x in_first in
        let of_y = (each (suc k) b at).1 y in_b in
        let owners : owner x ≡ owner y = ap owner same in
        absurd (omega (arith, of_x, of_y, owners))
