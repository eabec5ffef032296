-- In a sound stage each net that is high is observed.
use Rattle.ncl_stage.proofs.Terms.{All-contains, AreObserved, Base, Bit, Bool, Cell, Contains, Contains-from_Member, Incomplete, IsSound, IsStage, IsWordOf, List, Member, Member-append_cases, Member-append_left, Member-append_right, Member-from_Contains, Member-map, NetId, Nets, NoRail, Orphan, Rails, Some, StageCell, StageData, Variant, [], all_data, among, and_parts, ap, append_assoc, both_rails, both_ways, cases_eq, cond, eq-eqb, falls_with, false, false_from_ne_true, get_or, get_or_from_slice_get, has_data, here, holds, holds_at, inl, inr, is_value, kept_low, list_all, map, member_cases, member_of_map, named_rails, nat_eq, ne_eqb, nets_of, not, or_cases, or_left, or_right, out_of, output_net, rail_nets, rail_of, recursion_from_members, refl, set_of-grows, slice_get, slice_get-from_Contains, slice_get_within, subst, sym, there, true, val, val-output, val-rail, val-within, with_net, ℕ, ◌&&◌, ◌++◌, ◌||◌, ◌∙◌, ◌∷◌, ◌≡◌, ◌⊎◌, left-differ, named-at}
use Rattle.std.proofs.Common.{append-nil}
use Rattle.ncl_stage.proofs.ObservedLaws.{rail-cases}
use Rattle.ncl_stage.proofs.ObservingLaws.{rails-listed}

-- what holds of the rails of the inputs, and of the output of each cell where it holds of its pins, holds of every net
module _ (s : StageData) (is : IsStage s) (P : ℕ → Type 0) (cell : (c : StageCell) → Member c s.cells → ((pin : NetId) → Member pin c.ins.items → P pin.0) → P (out_of c)) where
  along : (before after : List StageCell) → s.cells ≡ before ++ after → ((net : ℕ) → Member net (nets_of s.inputs before) → P net) → (net : ℕ) → Member net (nets_of s.inputs s.cells) → P net
  along before [] parts known net m = known net (subst (λ cells. Member net (nets_of s.inputs cells)) (parts ∙ append-nil before) m)
  along before (c ∷ after) parts known net m = along (before ++ c ∷ []) after (parts ∙ sym (append_assoc before (c ∷ []) after)) more net m
    where
      own : P (out_of c)
      own = cell c (subst (λ cells. Member c cells) (sym parts) (Member-append_right before c here)) (λ pin n. known pin.0 (Member-from_Contains (nets_of s.inputs before) pin.0 (All-contains (λ (x : NetId). Contains (nets_of s.inputs before) x.0) c.ins.items pin (is.in_order before after c parts) (Contains-from_Member pin n))))

      by_cell : (other : ℕ) → (e : StageCell) × Member e (before ++ c ∷ []) × (out_of e ≡ other) → P other
      by_cell other (e, n, at) = subst P at
          (elim (Member-append_cases e before (c ∷ []) n) [
            | inl first ↦ known (out_of e) (Member-append_right (rail_nets s.inputs) (out_of e) (Member-map out_of e first))
            | inr last ↦ elim (member_cases e c [] last) [ inl same ↦ subst (λ (x : StageCell). P (out_of x)) same own | inr none ↦ elim none [ ] ]
          ])

      more : (other : ℕ) → Member other (nets_of s.inputs (before ++ c ∷ [])) → P other
      more other n = elim (Member-append_cases other (rail_nets s.inputs) (map out_of (before ++ c ∷ [])) n) [
        | inl rail ↦ known other (Member-append_left other (map out_of before) rail)
        | inr out ↦ by_cell other (member_of_map out_of (before ++ c ∷ []) other out)
      ]

  every-net : ((net : ℕ) → Member net (rail_nets s.inputs) → P net) → (net : ℕ) → Member net (nets_of s.inputs s.cells) → P net
  every-net rails = along [] s.cells refl (λ net m. rails net (subst (λ xs. Member net xs) (append-nil (rail_nets s.inputs)) m))

not_false : (b : Bool) → not b ≡ false → b ≡ true
not_false true e = refl
not_false false e = absurd cc

-- with a net low that no gate falls with, all else that is high under Base stays high
module _ (s : StageData) (is : IsStage s) (word : List Bool) (variant : Variant) (net : ℕ) (free : (other : ℕ) → val s word Base other ≡ true → (other ≡ net → ⊥) → kept_low s variant other ≡ false) (none : (c : StageCell) → Member c s.cells → falls_with (val s word Base) net c ≡ false) where
  abbrev Stays : ℕ → Type 0
  Stays other = val s word Base other ≡ true → (other ≡ net → ⊥) → val s word variant other ≡ true

  rail-stays : (other : ℕ) → Member other (rail_nets s.inputs) → Stays other
  rail-stays other rail high apart =
      let named : among (named_rails s.inputs word) other ≡ true = (and_parts (among (named_rails s.inputs word) other) (not (kept_low s Base other)) (sym (val-rail s is word Base other rail) ∙ high)).0 in
      val-rail s is word variant other rail ∙ (λ k. named k && not (free other high apart k))

  cell-stays : (c : StageCell) → Member c s.cells → ((pin : NetId) → Member pin c.ins.items → Stays pin.0) → Stays (out_of c)
  cell-stays c m pins high apart =
      let base : Nets = val s word Base in
      let set : holds (with_net (val s word Base) net false) c ≡ true = not_false (holds (with_net (val s word Base) net false) c) (ap (λ b. b && not (holds (with_net (val s word Base) net false) c)) (sym high) ∙ none c m) in
      let more : holds (val s word variant) c ≡ true =
      set_of-grows c.kind (with_net (val s word Base) net false) (val s word variant) c.ins.items
      (recursion_from_members (λ (pin : NetId). with_net (val s word Base) net false pin.0 ≡ true → val s word variant pin.0 ≡ true) c.ins.items (λ pin n up.
      elim (cases_eq net pin.0) [
        | inl same ↦ absurd (both_ways (with_net (val s word Base) net false pin.0) (ap (λ b. cond b false (val s word Base pin.0)) (eq-eqb net pin.0 same)) up)
        | inr other ↦ pins pin n (sym (ap (λ b. cond b false (val s word Base pin.0)) (ne_eqb net pin.0 other)) ∙ up) (λ e. other (sym e))
      ])) set in
      val-output s is word variant c m ∙ (λ k. not (free (out_of c) high apart k) && more k)

  stays : (other : ℕ) → val s word Base other ≡ true → (other ≡ net → ⊥) → val s word variant other ≡ true
  stays other high = every-net s is Stays cell-stays rail-stays other (val-within s word Base other high) high

  -- so all outputs are DATA, where the net is none of their rails
  output-stays : (Member net (rail_nets s.outputs) → ⊥) → (r : Rails) → Member r s.outputs → has_data (val s word Base) r ≡ true → has_data (val s word variant) r ≡ true
  output-stays hidden r m shown =
      let (zero, one) = rails-listed s.outputs r m in
      elim (or_cases (val s word Base r.zero.0) (val s word Base r.one.0) shown) [
        | inl up ↦ or_left (val s word variant r.zero.0) (val s word variant r.one.0) (stays r.zero.0 up (λ e. hidden (subst (λ x. Member x (rail_nets s.outputs)) e zero)))
        | inr up ↦ or_right (val s word variant r.zero.0) (val s word variant r.one.0) (stays r.one.0 up (λ e. hidden (subst (λ x. Member x (rail_nets s.outputs)) e one)))
      ]

list_all-members : {X : Type 0} (test : X → Bool) (xs : List X) → ((x : X) → Member x xs → test x ≡ true) → list_all test xs ≡ true
list_all-members test [] each = refl
list_all-members test (x ∷ xs) each = ap (λ b. b && list_all test xs) (each x here) ∙ list_all-members test xs (λ y m. each y (there m))

-- a number stands in a list or not, and a test holds of a member or of none
member-or : (net : ℕ) (xs : List ℕ) → Member net xs ⊎ (Member net xs → ⊥)
member-or net [] = inr (λ m. elim m [ ])
member-or net (x ∷ xs) = elim (cases_eq x net) [
  | inl same ↦ inl (subst (λ y. Member y (x ∷ xs)) same here)
  | inr apart ↦ elim (member-or net xs) [
    | inl later ↦ inl (there later)
    | inr absent ↦ inr (λ m. elim (member_cases net x xs m) [ inl own ↦ apart own | inr later ↦ absent later ])
  ]
]

some-or : {X : Type 0} (test : X → Bool) (xs : List X) → ((x : X) × Member x xs × (test x ≡ true)) ⊎ ((x : X) → Member x xs → test x ≡ false)
some-or test [] = inr (λ x m. elim m [ ])
some-or {X} test (x ∷ xs) = by (test x) refl (some-or test xs)
  where
    by : (b : Bool) → test x ≡ b → ((y : X) × Member y xs × (test y ≡ true)) ⊎ ((y : X) → Member y xs → test y ≡ false) → ((y : X) × Member y (x ∷ xs) × (test y ≡ true)) ⊎ ((y : X) → Member y (x ∷ xs) → test y ≡ false)
    by true e rest = inl (x, here, e)
    by false e (inl (y, m, holds_there)) = inl (y, there m, holds_there)
    by false e (inr none) = inr (λ y m. elim (member_cases y x xs m) [ inl own ↦ subst (λ z. test z ≡ false) own e | inr later ↦ none y later ])

-- of a bit no two rails are high under Base
one-rail : (s : StageData) → IsStage s → (word : List Bool) → IsWordOf s word → (bit : ℕ) (r : Rails) → slice_get s.inputs bit ≡ Some r → val s word Base r.zero.0 ≡ true → val s word Base r.one.0 ≡ true → ⊥
one-rail s is word right bit r found zero one =
    let within = slice_get_within s.inputs bit r found in
    let at : get_or s.inputs bit r ≡ r = get_or_from_slice_get s.inputs bit r r found in
    let (zero_rail, one_rail) = rails-listed s.inputs r (Member-from_Contains s.inputs r (bit, within, at)) in
    let named : (value : Bool) → among (named_rails s.inputs word) (rail_of r value) ≡ is_value value (get_or word bit false) =
    λ value. ap (λ (x : Rails). among (named_rails s.inputs word) (rail_of x value)) (sym at) ∙ named-at s.inputs (left-differ (rail_nets s.inputs) (map out_of s.cells) is.nets_differ) word right bit r within value in
    let low : not (get_or word bit false) ≡ true = sym (named false) ∙ (and_parts (among (named_rails s.inputs word) r.zero.0) true (sym (val-rail s is word Base r.zero.0 zero_rail) ∙ zero)).0 in
    let high : get_or word bit false ≡ true = sym (named true) ∙ (and_parts (among (named_rails s.inputs word) r.one.0) true (sym (val-rail s is word Base r.one.0 one_rail) ∙ one)).0 in
    both_ways (not (get_or word bit false)) (ap not high) low

-- a net that nothing observes can be kept low unseen
module _ (s : StageData) (is : IsStage s) (sound : IsSound s) (word : List Bool) (right : IsWordOf s word) (net : ℕ) (high : val s word Base net ≡ true) (hidden : Member net (rail_nets s.outputs) → ⊥) (none : (c : StageCell) → Member c s.cells → falls_with (val s word Base) net c ≡ false) where
  all-shown : (variant : Variant) → ((other : ℕ) → val s word Base other ≡ true → (other ≡ net → ⊥) → kept_low s variant other ≡ false) → all_data s (val s word variant) ≡ true
  all-shown variant free = list_all-members (has_data (val s word variant)) s.outputs (λ r m.
      let (output, found) = slice_get-from_Contains s.outputs r (Contains-from_Member r m) in
      let shown : not (has_data (val s word Base) r) ≡ false = ap (holds_at (λ q. not (has_data (val s word Base) q))) (sym found) ∙ sound (NoRail output) word right in
      output-stays s is word variant net free none hidden r m (not_false (has_data (val s word Base) r) shown))

  no-rail : Member net (rail_nets s.inputs) → ⊥
  no-rail rail =
      let (r, m, at) = rail-cases s.inputs net rail in
      let (bit, found) = slice_get-from_Contains s.inputs r (Contains-from_Member r m) in
      let free : (other : ℕ) → val s word Base other ≡ true → (other ≡ net → ⊥) → kept_low s (Bit bit) other ≡ false =
      λ other up apart. ap (λ o. both_rails o other) found ∙ false_from_ne_true ((nat_eq other r.zero.0) || (nat_eq other r.one.0)) (λ is_rail. apart-rails bit r found at other up apart is_rail) in
      both_ways (all_data s (val s word (Bit bit))) (ap (holds_at (λ (q : Rails). all_data s (val s word (Bit bit)))) (sym found) ∙ sound (Incomplete bit) word right) (all-shown (Bit bit) free)
    where
      same-net : (a b : ℕ) → nat_eq a b ≡ true → a ≡ b
      same-net a b e = elim (cases_eq a b) [ inl same ↦ same | inr apart ↦ absurd (both_ways (nat_eq a b) (ne_eqb a b apart) e) ]

      apart-rails : (bit : ℕ) (r : Rails) → slice_get s.inputs bit ≡ Some r → (net ≡ r.zero.0) ⊎ (net ≡ r.one.0) → (other : ℕ) → val s word Base other ≡ true → (other ≡ net → ⊥) → ((nat_eq other r.zero.0) || (nat_eq other r.one.0)) ≡ true → ⊥
      apart-rails bit r found (inl zero) other up apart is_rail = elim (or_cases (nat_eq other r.zero.0) (nat_eq other r.one.0) is_rail) [
        | inl own ↦ apart (same-net other r.zero.0 own ∙ sym zero)
        | inr one ↦ one-rail s is word right bit r found (ap (val s word Base) (sym zero) ∙ high) (ap (val s word Base) (sym (same-net other r.one.0 one)) ∙ up)
      ]
      apart-rails bit r found (inr one) other up apart is_rail = elim (or_cases (nat_eq other r.zero.0) (nat_eq other r.one.0) is_rail) [
        | inl zero ↦ one-rail s is word right bit r found (ap (val s word Base) (sym (same-net other r.zero.0 zero)) ∙ up) (ap (val s word Base) (sym one) ∙ high)
        | inr own ↦ apart (same-net other r.one.0 own ∙ sym one)
      ]

  no-output : (c : StageCell) → Member c s.cells → out_of c ≡ net → ⊥
  no-output c m at =
      let (cell, found) = slice_get-from_Contains s.cells c (Contains-from_Member c m) in
      let free : (other : ℕ) → val s word Base other ≡ true → (other ≡ net → ⊥) → kept_low s (Cell cell) other ≡ false =
      λ other up apart. ap (λ o. output_net o other) found ∙ ne_eqb other c.out.0 (λ e. apart (e ∙ at)) in
      let orphan : (val s word Base c.out.0 && all_data s (val s word (Cell cell))) ≡ false = ap (holds_at (λ (q : StageCell). val s word Base q.out.0 && all_data s (val s word (Cell cell)))) (sym found) ∙ sound (Orphan cell) word right in
      both_ways (val s word Base c.out.0 && all_data s (val s word (Cell cell))) orphan (λ k. (ap (val s word Base) at ∙ high) k && all-shown (Cell cell) free k)

  unseen : ⊥
  unseen = elim (Member-append_cases net (rail_nets s.inputs) (map out_of s.cells) (val-within s word Base net high)) [
    | inl rail ↦ no-rail rail
    | inr out ↦ (let (c, m, at) = member_of_map out_of s.cells net out in no-output c m at)
  ]

pub observed_from_sound : (s : StageData) → IsStage s → IsSound s → AreObserved s
observed_from_sound s is sound word right net high = elim (member-or net (rail_nets s.outputs)) [
  | inl rail ↦ inl (Contains-from_Member net rail)
  | inr hidden ↦ elim (some-or (falls_with (val s word Base) net) s.cells) [
    | inl (c, m, falls) ↦ inr (c, Contains-from_Member c m, falls)
    | inr none ↦ absurd (unseen s is sound word right net high hidden none)
  ]
]
