-- What the calls for a bank and for a stage ask of names.
use Rattle.ncl_compile.proofs.Terms.{All-member, AreStageParts, CanBeBank, CanBeStage, Contains, IsFreeOf, IsPartName, IsSplit, List, MOST_BITS, Member, Member-append_cases, Member-from_Contains, NamePair, Network, PartCell, StageParts, [], ap, arith, bank_prefix, codes, cond_both, eqb-false, inl, inner_pair, inner_pairs, input_pairs, inr, length, length-map-range_with_len, map, member_cases, member_of_map, names_known, numbered, output_name, output_pairs, pair_names, pairs_driven, port_pair, range_with_len, refl, request_name, root_name, stage_prefix, subst, suc, sym, zero, ℕ, ◌++◌, ◌<◌, ◌==◌, ◌∙◌, ◌∷◌, ◌≡◌, ◌≢◌, ◌≤◌, ◌⊎◌}
use Rattle.ncl_compile.proofs.NameLaws.{AreApart, differ_from_apart, apart_more, BeginsWith, name_at, port_begins, same_port, inner_begins, same_inner, same_numbered, name_of_pairs, numbered_apart}

-- the first byte of a name
abbrev pub first_of : List ℕ → ℕ
first_of [] = 0
first_of (byte ∷ rest) = byte

-- names of which the first bytes differ
pub other_first : (x y : List ℕ) (a b : ℕ) → first_of x ≡ a → first_of y ≡ b → (a ≡ b → ⊥) → x ≢ y
other_first x y a b of_x of_y other same = other (sym of_x ∙ ap first_of same ∙ of_y)

first_of_letter : (letter : ℕ) (name : List ℕ) → BeginsWith letter name → first_of name ≡ letter
first_of_letter letter name begins = ap first_of begins.is

-- what names begin with: roots with `k` or `a`, and so do requests; what a bank drives with `w` or `o`
abbrev pub IsEither : ℕ → ℕ → List ℕ → Type 0
IsEither a b name = (first_of name ≡ a) ⊎ (first_of name ≡ b)

pub root_first : (bank : ℕ) → IsEither 107 97 (root_name bank)
root_first zero = inl refl
root_first (suc bank) = inr refl

pub request_first : (last bank : ℕ) → IsEither 107 97 (request_name last bank)
request_first last bank = cond_both (bank == last) (codes "ki") (root_name (suc bank)) (IsEither 107 97) (λ is. inl refl) (λ is. inr refl)

pub port_first : (letter width : ℕ) (y : List ℕ) → Member y (pair_names (map (port_pair (letter ∷ [])) (range_with_len 1 width))) → first_of y ≡ letter
port_first letter width y m =
    let (i, r, from, to, same) = name_of_pairs (port_pair (letter ∷ [])) 1 width y m in
    ap first_of (sym same) ∙ first_of_letter letter (name_at (port_pair (letter ∷ []) i) r) (port_begins letter i r)

pub inner_first : (bank width : ℕ) (y : List ℕ) → Member y (pair_names (inner_pairs bank width)) → first_of y ≡ 119
inner_first bank width y m =
    let (i, r, from, to, same) = name_of_pairs (inner_pair bank) 0 width y m in
    ap first_of (sym same) ∙ first_of_letter 119 (name_at (inner_pair bank i) r) (inner_begins bank i r)

pub driven_first : (last bank width : ℕ) (y : List ℕ) → Member y (pair_names (pairs_driven last bank width)) → IsEither 119 111 y
driven_first last bank width =
    cond_both (bank == last) (output_pairs width) (inner_pairs bank width) (λ pairs. (y : List ℕ) → Member y (pair_names pairs) → IsEither 119 111 y)
    (λ is y m. inr (port_first 111 width y m)) (λ is y m. inl (inner_first bank width y m))

-- the rails that a bank drives are as many as its bits, and differ
pub length-pairs_driven : (last bank width : ℕ) → length (pairs_driven last bank width) ≡ width
length-pairs_driven last bank width =
    cond_both (bank == last) (output_pairs width) (inner_pairs bank width) (λ pairs. length pairs ≡ width)
    (λ is. length-map-range_with_len (port_pair (codes "o")) 1 width) (λ is. length-map-range_with_len (inner_pair bank) 0 width)

pub ports_apart : (letter width : ℕ) → width ≤ 128 → AreApart (pair_names (map (port_pair (letter ∷ [])) (range_with_len 1 width)))
ports_apart letter width few = numbered_apart (port_pair (letter ∷ [])) 1 width 999 (omega arith) (λ i j r q lt_i lt_j same. same_port letter i j r q lt_i lt_j same)

pub inner_apart : (bank width : ℕ) → bank < 999 → width ≤ 128 → AreApart (pair_names (inner_pairs bank width))
inner_apart bank width below few =
    numbered_apart (inner_pair bank) 0 width 999 (omega arith)
    (λ i j r q lt_i lt_j same. let (banks, bits, rails) = same_inner bank bank i j r q below below lt_i lt_j same in (bits, rails))

pub driven_apart : (last bank width : ℕ) → bank < 999 → width ≤ 128 → AreApart (pair_names (pairs_driven last bank width))
driven_apart last bank width below few =
    cond_both (bank == last) (output_pairs width) (inner_pairs bank width) (λ pairs. AreApart (pair_names pairs))
    (λ is. ports_apart 111 width few) (λ is. inner_apart bank width below few)

-- names are free of a prefix that begins with another letter
pub free_of : (letter number : ℕ) (names : List (List ℕ)) → ((y : List ℕ) → Member y names → first_of y ≢ letter) → IsFreeOf (numbered letter number) names
free_of letter number names other rest met = other (numbered letter number ++ rest) (Member-from_Contains names (numbered letter number ++ rest) met) refl

-- the second byte of a name
abbrev second_of : List ℕ → ℕ
second_of [] = 0
second_of (byte ∷ rest) = first_of rest

-- a root is no request of its bank
root_no_request : (last bank : ℕ) → last < 999 → bank ≤ last → request_name last bank ≢ root_name bank
root_no_request last bank few within =
    cond_both (bank == last) (codes "ki") (root_name (suc bank)) (λ name. name ≢ root_name bank) (λ is. ki_no_root bank) (λ is. next_no_root bank (omega (arith, few, within, eqb-false bank last is)))
  where
    ki_no_root : (bank : ℕ) → codes "ki" ≢ root_name bank
    ki_no_root zero same = let seconds : ◌≡◌ {A = ℕ} 105 111 = ap second_of same in absurd (omega (arith, seconds))
    ki_no_root (suc bank) same = other_first (codes "ki") (root_name (suc bank)) 107 97 refl refl (λ e. absurd (omega (arith, e))) same

    next_no_root : (bank : ℕ) → suc bank < 999 → root_name (suc bank) ≢ root_name bank
    next_no_root zero below same = other_first (root_name 1) (root_name zero) 97 107 refl refl (λ e. absurd (omega (arith, e))) same
    next_no_root (suc bank) below same =
        let numbers = same_numbered 97 (suc (suc bank)) (suc bank) [] [] below (omega (arith, below)) (ap (λ l. l ++ []) same) in
        absurd (omega (arith, numbers))

module _ (last bank width : ℕ) (few : width ≤ MOST_BITS) (below : last < 999) (within : bank ≤ last) where
  -- the names that a bank is given
  abbrev driven : List (List ℕ)
  driven = pair_names (pairs_driven last bank width)

  abbrev given : List (List ℕ)
  given = request_name last bank ∷ codes "rst" ∷ root_name bank ∷ driven

  -- a name that begins with `k` or `a` is none that the bank drives
  no_driven : (x : List ℕ) → IsEither 107 97 x → (y : List ℕ) → Member y driven → x ≢ y
  no_driven x of_x y m =
      elim of_x [
        | inl k ↦
            elim (driven_first last bank width y m) [
              | inl w ↦ other_first x y 107 119 k w (λ e. absurd (omega (arith, e)))
              | inr o ↦ other_first x y 107 111 k o (λ e. absurd (omega (arith, e)))
            ]
        | inr a ↦
            elim (driven_first last bank width y m) [
              | inl w ↦ other_first x y 97 119 a w (λ e. absurd (omega (arith, e)))
              | inr o ↦ other_first x y 97 111 a o (λ e. absurd (omega (arith, e)))
            ]
      ]

  -- nor is it the reset
  no_reset : (x : List ℕ) → IsEither 107 97 x → x ≢ codes "rst"
  no_reset x (inl k) = other_first x (codes "rst") 107 114 k refl (λ e. absurd (omega (arith, e)))
  no_reset x (inr a) = other_first x (codes "rst") 97 114 a refl (λ e. absurd (omega (arith, e)))

  reset_no_driven : (y : List ℕ) → Member y driven → codes "rst" ≢ y
  reset_no_driven y m =
      elim (driven_first last bank width y m) [
        | inl w ↦ other_first (codes "rst") y 114 119 refl w (λ e. absurd (omega (arith, e)))
        | inr o ↦ other_first (codes "rst") y 114 111 refl o (λ e. absurd (omega (arith, e)))
      ]

  given_apart : AreApart given
  given_apart =
      apart_more (request_name last bank) (codes "rst" ∷ root_name bank ∷ driven) request_apart
      (apart_more (codes "rst") (root_name bank ∷ driven) reset_apart
      (apart_more (root_name bank) driven (no_driven (root_name bank) (root_first bank)) (driven_apart last bank width (omega (arith, below, within)) few)))
    where
      request_apart : (y : List ℕ) → Member y (codes "rst" ∷ root_name bank ∷ driven) → request_name last bank ≢ y
      request_apart y m =
          elim (member_cases y (codes "rst") (root_name bank ∷ driven) m) [
            | inl same ↦ subst (λ z. request_name last bank ≢ z) same (no_reset (request_name last bank) (request_first last bank))
            | inr rest ↦
                elim (member_cases y (root_name bank) driven rest) [
                  | inl same ↦ subst (λ z. request_name last bank ≢ z) same (root_no_request last bank below within)
                  | inr later ↦ no_driven (request_name last bank) (request_first last bank) y later
                ]
          ]

      reset_apart : (y : List ℕ) → Member y (root_name bank ∷ driven) → codes "rst" ≢ y
      reset_apart y m =
          elim (member_cases y (root_name bank) driven m) [
            | inl same ↦ λ e. no_reset (root_name bank) (root_first bank) (same ∙ sym e)
            | inr later ↦ reset_no_driven y later
          ]

  -- none begins with `b`
  given_first : (y : List ℕ) → Member y given → first_of y ≢ 98
  given_first y m begins =
      elim (member_cases y (request_name last bank) (codes "rst" ∷ root_name bank ∷ driven) m) [
        | inl same ↦ either_root (request_name last bank) (request_first last bank) (ap first_of same ∙ begins)
        | inr rest ↦
            elim (member_cases y (codes "rst") (root_name bank ∷ driven) rest) [
              | inl same ↦ let clash : ◌≡◌ {A = ℕ} 114 98 = ap first_of same ∙ begins in absurd (omega (arith, clash))
              | inr more ↦
                  elim (member_cases y (root_name bank) driven more) [
                    | inl same ↦ either_root (root_name bank) (root_first bank) (ap first_of same ∙ begins)
                    | inr later ↦
                        elim (driven_first last bank width y later) [
                          | inl w ↦ let clash : ◌≡◌ {A = ℕ} 119 98 = sym w ∙ begins in absurd (omega (arith, clash))
                          | inr o ↦ let clash : ◌≡◌ {A = ℕ} 111 98 = sym o ∙ begins in absurd (omega (arith, clash))
                        ]
                  ]
            ]
      ]
    where
      either_root : (x : List ℕ) → IsEither 107 97 x → first_of x ≡ 98 → ⊥
      either_root x (inl k) other = let clash : ◌≡◌ {A = ℕ} 107 98 = sym k ∙ other in absurd (omega (arith, clash))
      either_root x (inr a) other = let clash : ◌≡◌ {A = ℕ} 97 98 = sym a ∙ other in absurd (omega (arith, clash))

  -- what is asked for a bank
  pub bank_can : (ins : List NamePair) → 1 ≤ width → length ins ≡ width → IsFreeOf (bank_prefix bank) (pair_names ins)
      → CanBeBank ins (pairs_driven last bank width) (request_name last bank) (codes "rst") (root_name bank) (bank_prefix bank)
  bank_can ins some long free = record {
    some = omega (arith, some, long);
    few = omega (arith, few, long);
    as_many = length-pairs_driven last bank width ∙ sym long;
    differ = differ_from_apart given given_apart;
    free = free_of 98 bank given given_first;
    free_ins = free;
  }

-- what is asked for a stage
pub stage_can : (number width : ℕ) (network : Network) → number < 999 → width ≤ MOST_BITS → 1 ≤ width → network.inputs ≡ width → 1 ≤ length network.outputs → length network.outputs ≤ MOST_BITS → IsSplit network
    → CanBeStage network (inner_pairs number width) (stage_prefix number)
stage_can number width network below few some wide some_outputs few_outputs is_split = record {
  split = is_split;
  some_inputs = omega (arith, some, wide);
  few_inputs = omega (arith, few, wide);
  some_outputs = some_outputs;
  few_outputs = few_outputs;
  as_many = length-map-range_with_len (inner_pair number) 0 width ∙ sym wide;
  differ = differ_from_apart (pair_names (inner_pairs number width)) (inner_apart number width below few);
  free = free_of 115 number (pair_names (inner_pairs number width)) (λ y m same. let first = inner_first number width y m in let clash : ◌≡◌ {A = ℕ} 119 115 = sym first ∙ same in absurd (omega (arith, clash)));
}

-- the inputs begin with `i`
pub inputs_free : (bank width : ℕ) → IsFreeOf (bank_prefix bank) (pair_names (input_pairs width))
inputs_free bank width = free_of 98 bank (pair_names (input_pairs width)) (λ y m same. let first = port_first 105 width y m in let clash : ◌≡◌ {A = ℕ} 105 98 = sym first ∙ same in absurd (omega (arith, clash)))

-- and what a stage knows with `w` or `s`
pub known_first : (number width : ℕ) (network : Network) (parts : StageParts) → AreStageParts network (inner_pairs number width) (stage_prefix number) parts → (y : List ℕ) → Member y (names_known (inner_pairs number width) parts.cells) → IsEither 119 115 y
known_first number width network parts are y m =
    elim (Member-append_cases y (pair_names (inner_pairs number width)) (map output_name parts.cells) m) [
      | inl rail ↦ inl (inner_first number width y rail)
      | inr made ↦
          let (cell, in_cells, same) = member_of_map output_name parts.cells y made in
          let named = All-member (λ (cell : PartCell). IsPartName (stage_prefix number) (output_name cell)) parts.cells are.net_names cell in_cells in
          inr (ap first_of (sym same ∙ named.is))
    ]

pub outputs_free : (bank number width : ℕ) (network : Network) (parts : StageParts) → AreStageParts network (inner_pairs number width) (stage_prefix number) parts → IsFreeOf (bank_prefix bank) (pair_names parts.outputs)
outputs_free bank number width network parts are = free_of 98 bank (pair_names parts.outputs) other
  where
    other : (y : List ℕ) → Member y (pair_names parts.outputs) → first_of y ≢ 98
    other y m same =
        let known = All-member (Contains (names_known (inner_pairs number width) parts.cells)) (pair_names parts.outputs) are.outputs_known y m in
        elim (known_first number width network parts are y (Member-from_Contains (names_known (inner_pairs number width) parts.cells) y known)) [
          | inl w ↦ let clash : ◌≡◌ {A = ℕ} 119 98 = sym w ∙ same in absurd (omega (arith, clash))
          | inr s ↦ let clash : ◌≡◌ {A = ℕ} 115 98 = sym s ∙ same in absurd (omega (arith, clash))
        ]
