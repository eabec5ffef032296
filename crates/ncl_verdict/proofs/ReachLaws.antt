-- What a variant leaves as it is.
use Rattle.ncl_verdict.proofs.Terms.{All-contains, Base, Bool, Contains, Contains-from_Member, HasValidRails, IsStage, IsWordOf, List, Member, Member-append_cases, Member-append_left, Member-append_right, Member-from_Contains, Member-map, NetId, Rails, StageCell, StageData, Variant, [], among, ap, append-nil, at_rail, cases_Bool, false, filter, fronts, get_or, has_data, here, holds_at, inl, inr, is_illegal, kept_low, list_all, map, member_cases, member_of_map, named_rails, nets_of, not, out_of, pin_values, rail_nets, refl, set_of, slice_get-from_Contains, subst, sym, there, true, val, val-output, val-rail, ℕ, ◌&&◌, ◌++◌, ◌||◌, ◌∙◌, ◌∷◌, ◌≡◌, ◌⊎◌}
use Rattle.std.proofs.Common.{append_assoc}
use Rattle.std.specs.Prelude.{cond}

-- the rails of an output are nets
pub known-rails : (s : StageData) → IsStage s → (r : Rails) → Member r s.outputs → Member r.zero.0 (nets_of s.inputs s.cells) × Member r.one.0 (nets_of s.inputs s.cells)
known-rails s is r m =
    let nets : List ℕ = nets_of s.inputs s.cells in
    let (k, lt, at) = Contains-from_Member r m in
    let known = at_rail (λ net. Contains nets net) s.outputs is.outputs_known k r lt in (
      subst (λ (x : Rails). Member x.zero.0 nets) at (Member-from_Contains nets (get_or s.outputs k r).zero.0 known.0),
      subst (λ (x : Rails). Member x.one.0 nets) at (Member-from_Contains nets (get_or s.outputs k r).one.0 known.1),
    )

not_low : (b : Bool) → not b ≡ false → b ≡ true
not_low true e = refl
not_low false e = absurd cc

-- under Base an output has one high rail
pub base-data : (s : StageData) → HasValidRails s → (r : Rails) → Member r s.outputs → (word : List Bool) → IsWordOf s word → (has_data (val s word Base) r ≡ true) × (is_illegal (val s word Base) r ≡ false)
base-data s valid r m word right =
    let (output, found) = slice_get-from_Contains s.outputs r (Contains-from_Member r m) in (
      not_low (has_data (val s word Base) r) (ap (holds_at (λ r. not (has_data (val s word Base) r))) (sym found) ∙ (valid word right output).1),
      ap (holds_at (is_illegal (val s word Base))) (sym found) ∙ (valid word right output).0,
    )

-- the members of a front are members
pub front-members : {X : Type 0} (xs front : List X) → Member front (fronts xs) → (x : X) → Member x front → Member x xs
front-members [] front m x n = elim m [ ]
front-members {X} (y ∷ ys) front m x n = elim (member_cases front (y ∷ []) (map (λ rest. y ∷ rest) (fronts ys)) m) [
  | inl first ↦ elim (member_cases x y [] (subst (λ (l : List X). Member x l) (sym first) n)) [ inl same ↦ subst (λ z. Member x (z ∷ ys)) (sym same) here | inr none ↦ elim none [ ] ]
  | inr later ↦ by (member_of_map (λ rest. y ∷ rest) (fronts ys) front later) (front-members ys)
]
  where
    by : (rest : List X) × Member rest (fronts ys) × (y ∷ rest ≡ front) → ((front : List X) → Member front (fronts ys) → (x : X) → Member x front → Member x ys) → Member x (y ∷ ys)
    by (rest, o, at) shorter = elim (member_cases x y rest (subst (λ (l : List X). Member x l) (sym at) n)) [
      | inl same ↦ subst (λ z. Member x (z ∷ ys)) (sym same) here
      | inr inner ↦ there (shorter rest o x inner)
    ]

-- some nets are gone: those that the variant keeps low, and the output of a cell that reads one that is gone
module _ (s : StageData) (is : IsStage s) (variant : Variant) (gone : ℕ → Type 0) (low : (net : ℕ) → kept_low s variant net ≡ true → gone net) (reads : (c : StageCell) → Member c s.cells → (pin : NetId) → Member pin c.ins.items → gone pin.0 → gone (out_of c)) where
  -- a net has its values of Base, or is gone
  abbrev IsLeft : ℕ → Type 0
  IsLeft net = ((word : List Bool) → val s word variant net ≡ val s word Base net) ⊎ gone net

  rail-left : (net : ℕ) → Member net (rail_nets s.inputs) → IsLeft net
  rail-left net m = elim (cases_Bool (kept_low s variant net)) [
    | inl kept ↦ inr (low net kept)
    | inr free ↦ inl (λ word. val-rail s is word variant net m ∙ ap (λ b. among (named_rails s.inputs word) net && not b) free ∙ sym (val-rail s is word Base net m))
  ]

  -- the pins of a cell have their values of Base, or some pin is gone
  pins-left : (ins : List NetId) → ((pin : NetId) → Member pin ins → IsLeft pin.0) → ((word : List Bool) → pin_values (val s word variant) ins ≡ pin_values (val s word Base) ins) ⊎ ((pin : NetId) × Member pin ins × gone pin.0)
  pins-left [] left = inl (λ word. refl)
  pins-left (pin ∷ ins) left = elim (left pin here) [
    | inr away ↦ inr (pin, here, away)
    | inl first ↦ elim (pins-left ins (λ other m. left other (there m))) [
      | inr other ↦ inr (other.0, there other.1, other.2)
      | inl rest ↦ inl (λ word. λ i. first word i ∷ rest word i)
    ]
  ]

  cell-left : (c : StageCell) → Member c s.cells → ((pin : NetId) → Member pin c.ins.items → IsLeft pin.0) → IsLeft (out_of c)
  cell-left c m left = elim (cases_Bool (kept_low s variant (out_of c))) [
    | inl kept ↦ inr (low (out_of c) kept)
    | inr free ↦ elim (pins-left c.ins.items left) [
      | inl same ↦ inl (λ word. val-output s is word variant c m ∙ (λ i. not (free i) && set_of c.kind (same word i)) ∙ sym (val-output s is word Base c m))
      | inr (pin, n, away) ↦ inr (reads c m pin n away)
    ]
  ]

  nets-left : (before after : List StageCell) → s.cells ≡ before ++ after → ((net : ℕ) → Member net (nets_of s.inputs before) → IsLeft net) → (net : ℕ) → Member net (nets_of s.inputs s.cells) → IsLeft net
  nets-left before [] parts known net m = known net (subst (λ cells. Member net (nets_of s.inputs cells)) (parts ∙ append-nil before) m)
  nets-left before (c ∷ after) parts known net m =
      nets-left (before ++ c ∷ []) after (parts ∙ sym (append_assoc before (c ∷ []) after)) more net m
    where
      own : IsLeft (out_of c)
      own = cell-left c (subst (λ cells. Member c cells) (sym parts) (Member-append_right before c here)) (λ pin n. known pin.0 (Member-from_Contains (nets_of s.inputs before) pin.0 (All-contains (λ (x : NetId). Contains (nets_of s.inputs before) x.0) c.ins.items pin (is.in_order before after c parts) (Contains-from_Member pin n))))

      by_cell : (other : ℕ) → (e : StageCell) × Member e (before ++ c ∷ []) × (out_of e ≡ other) → IsLeft other
      by_cell other (e, n, at) = subst IsLeft at
          (elim (Member-append_cases e before (c ∷ []) n) [
            | inl first ↦ known (out_of e) (Member-append_right (rail_nets s.inputs) (out_of e) (Member-map out_of e first))
            | inr last ↦ elim (member_cases e c [] last) [ inl same ↦ subst (λ (x : StageCell). IsLeft (out_of x)) same own | inr none ↦ elim none [ ] ]
          ])

      more : (other : ℕ) → Member other (nets_of s.inputs (before ++ c ∷ [])) → IsLeft other
      more other n = elim (Member-append_cases other (rail_nets s.inputs) (map out_of (before ++ c ∷ [])) n) [
        | inl rail ↦ known other (Member-append_left other (map out_of before) rail)
        | inr out ↦ by_cell other (member_of_map out_of (before ++ c ∷ []) other out)
      ]

  left : (net : ℕ) → Member net (nets_of s.inputs s.cells) → IsLeft net
  left = nets-left [] s.cells refl (λ net m. rail-left net (subst (λ xs. Member net xs) (append-nil (rail_nets s.inputs)) m))

  -- an output is always DATA, or one of its rails is gone
  pub data-left : HasValidRails s → (r : Rails) → Member r s.outputs → ((word : List Bool) → IsWordOf s word → has_data (val s word variant) r ≡ true) ⊎ (gone r.zero.0 ⊎ gone r.one.0)
  data-left valid r m =
      let known = known-rails s is r m in
      elim (left r.zero.0 known.0) [
        | inr away ↦ inr (inl away)
        | inl zero ↦ elim (left r.one.0 known.1) [
          | inr away ↦ inr (inr away)
          | inl one ↦ inl (λ word right. (λ i. zero word i || one word i) ∙ (base-data s valid r m word right).0)
        ]
      ]

-- what doesn't matter in a conjunction can be left out
pub all-filtered : {X : Type 0} (test keep : X → Bool) (xs : List X) → ((x : X) → Member x xs → keep x ≡ false → test x ≡ true) → list_all test xs ≡ list_all test (filter keep xs)
all-filtered test keep [] holds = refl
all-filtered test keep (x ∷ xs) holds = by (keep x) (holds x here) (all-filtered test keep xs (λ y m. holds y (there m)))
  where
    by : (b : Bool) → (b ≡ false → test x ≡ true) → list_all test xs ≡ list_all test (filter keep xs) → list_all test (x ∷ xs) ≡ list_all test (cond b (x ∷ filter keep xs) (filter keep xs))
    by true own rest = ap (λ b. test x && b) rest
    by false own rest = (λ i. own refl i && list_all test xs) ∙ rest

-- a front of some, without those that are left out, is a front of the others or empty
abbrev IsFront : {X : Type 0} → (X → Bool) → List X → List X → Type 0
IsFront keep xs l = Member l (fronts (filter keep xs)) ⊎ (l ≡ [])

pub fronts-filtered : {X : Type 0} (keep : X → Bool) (xs front : List X) → Member front (fronts xs) → IsFront keep xs (filter keep front)
fronts-filtered keep [] front m = elim m [ ]
fronts-filtered {X} keep (x ∷ xs) front m = elim (member_cases front (x ∷ []) (map (λ rest. x ∷ rest) (fronts xs)) m) [
  | inl first ↦ subst (λ (l : List X). IsFront keep (x ∷ xs) (filter keep l)) first (alone (keep x))
  | inr later ↦ by (member_of_map (λ rest. x ∷ rest) (fronts xs) front later) (fronts-filtered keep xs)
]
  where
    alone : (b : Bool) → Member (cond b (x ∷ []) []) (fronts (cond b (x ∷ filter keep xs) (filter keep xs))) ⊎ (cond b (x ∷ []) [] ≡ [])
    alone true = inl here
    alone false = inr refl

    more : (b : Bool) (rest : List X) → Member rest (fronts (filter keep xs)) ⊎ (rest ≡ []) → Member (cond b (x ∷ rest) rest) (fronts (cond b (x ∷ filter keep xs) (filter keep xs))) ⊎ (cond b (x ∷ rest) rest ≡ [])
    more true rest is = elim is [
      | inl some ↦ inl (there (Member-map (λ l. x ∷ l) rest some))
      | inr none ↦ inl (subst (λ (l : List X). Member (x ∷ l) (fronts (x ∷ filter keep xs))) (sym none) here)
    ]
    more false rest is = is

    by : (rest : List X) × Member rest (fronts xs) × (x ∷ rest ≡ front) → ((front : List X) → Member front (fronts xs) → Member (filter keep front) (fronts (filter keep xs)) ⊎ (filter keep front ≡ [])) → IsFront keep (x ∷ xs) (filter keep front)
    by (rest, n, at) shorter = subst (λ (l : List X). IsFront keep (x ∷ xs) (filter keep l)) at (more (keep x) (filter keep rest) (shorter rest n))
