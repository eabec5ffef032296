-- Where two words agree on the bits on which a net can depend, the net has one value, under every variant.
use Rattle.ncl_stage.proofs.Terms.{AgreeOn, All-contains, AreSupports, Bool, Contains, Contains-from_Member, IsStage, IsWordOf, List, Marks, Member, Member-append_cases, Member-append_left, Member-append_right, Member-from_Contains, Member-map, NetId, Rails, Some, StageCell, StageData, Variant, [], among, ap, append_assoc, false, get_or, get_or_from_slice_get, here, inl, inr, is_value, kept_low, length, map, member_cases, member_of_map, named_rails, nets_of, not, out_of, pin_values, rail_nets, rail_of, refl, set_of, slice_get, slice_get-from_Contains, slice_get_within, subst, sym, there, true, val, val-output, val-rail, ℕ, ◌&&◌, ◌++◌, ◌<◌, ◌∙◌, ◌∷◌, ◌≡◌, left-differ, named-at}
use Rattle.std.proofs.Common.{append-nil}
use Rattle.ncl_stage.proofs.ObservedLaws.{rail-cases}

-- the net has one value at words that agree on its marks
abbrev IsTold : StageData → Marks → Variant → List Bool → List Bool → ℕ → Type 0
IsTold s marks variant v w net = AgreeOn (marks net) v w → val s v variant net ≡ val s w variant net

rail-named : (s : StageData) → IsStage s → (v w : List Bool) → IsWordOf s v → IsWordOf s w → (bit : ℕ) (r : Rails) → slice_get s.inputs bit ≡ Some r → get_or v bit false ≡ get_or w bit false → (value : Bool) → among (named_rails s.inputs v) (rail_of r value) ≡ among (named_rails s.inputs w) (rail_of r value)
rail-named s is v w right_v right_w bit r found same value =
    let within : bit < length s.inputs = slice_get_within s.inputs bit r found in
    let at : get_or s.inputs bit r ≡ r = get_or_from_slice_get s.inputs bit r r found in
    let differ = left-differ (rail_nets s.inputs) (map out_of s.cells) is.nets_differ in
    ap (λ (x : Rails). among (named_rails s.inputs v) (rail_of x value)) (sym at)
    ∙ named-at s.inputs differ v right_v bit r within value
    ∙ ap (is_value value) same
    ∙ sym (named-at s.inputs differ w right_w bit r within value)
    ∙ ap (λ (x : Rails). among (named_rails s.inputs w) (rail_of x value)) at

rail-told : (s : StageData) → IsStage s → (marks : Marks) → AreSupports s marks → (variant : Variant) (v w : List Bool) → IsWordOf s v → IsWordOf s w → (net : ℕ) → Member net (rail_nets s.inputs) → IsTold s marks variant v w net
rail-told s is marks supports variant v w right_v right_w net rail agree =
    let (r, m, at) = rail-cases s.inputs net rail in
    let (bit, found) = slice_get-from_Contains s.inputs r (Contains-from_Member r m) in
    let (zero_marked, one_marked) = supports.rails bit r found in
    let named : among (named_rails s.inputs v) net ≡ among (named_rails s.inputs w) net =
    elim at [
      | inl zero ↦ subst (λ x. among (named_rails s.inputs v) x ≡ among (named_rails s.inputs w) x) (sym zero) (rail-named s is v w right_v right_w bit r found (agree bit (subst (λ x. marks x bit ≡ true) (sym zero) zero_marked)) false)
      | inr one ↦ subst (λ x. among (named_rails s.inputs v) x ≡ among (named_rails s.inputs w) x) (sym one) (rail-named s is v w right_v right_w bit r found (agree bit (subst (λ x. marks x bit ≡ true) (sym one) one_marked)) true)
    ] in
    val-rail s is v variant net rail ∙ ap (λ b. b && not (kept_low s variant net)) named ∙ sym (val-rail s is w variant net rail)

pins-told : (s : StageData) (variant : Variant) (v w : List Bool) (ins : List NetId) → ((pin : NetId) → Member pin ins → val s v variant pin.0 ≡ val s w variant pin.0) → pin_values (val s v variant) ins ≡ pin_values (val s w variant) ins
pins-told s variant v w [] same = refl
pins-told s variant v w (pin ∷ ins) same =
    let first = same pin here in
    let rest = pins-told s variant v w ins (λ other m. same other (there m)) in
    λ i. first i ∷ rest i

cell-told : (s : StageData) → IsStage s → (marks : Marks) → AreSupports s marks → (variant : Variant) (v w : List Bool) (c : StageCell) → Member c s.cells → ((pin : NetId) → Member pin c.ins.items → IsTold s marks variant v w pin.0) → IsTold s marks variant v w (out_of c)
cell-told s is marks supports variant v w c m told agree =
    val-output s is v variant c m
    ∙ ap (λ pins. not (kept_low s variant c.out.0) && set_of c.kind pins)
    (pins-told s variant v w c.ins.items (λ pin n. told pin n (λ bit marked. agree bit (supports.cells c (Contains-from_Member c m) pin (Contains-from_Member pin n) bit marked))))
    ∙ sym (val-output s is w variant c m)

-- of the nets in their order
nets-told : (s : StageData) → IsStage s → (marks : Marks) → AreSupports s marks → (variant : Variant) (v w : List Bool) → (before after : List StageCell) → s.cells ≡ before ++ after → ((net : ℕ) → Member net (nets_of s.inputs before) → IsTold s marks variant v w net) → (net : ℕ) → Member net (nets_of s.inputs s.cells) → IsTold s marks variant v w net
nets-told s is marks supports variant v w before [] parts known net m = known net (subst (λ cells. Member net (nets_of s.inputs cells)) (parts ∙ append-nil before) m)
nets-told s is marks supports variant v w before (c ∷ after) parts known net m =
    nets-told s is marks supports variant v w (before ++ c ∷ []) after (parts ∙ sym (append_assoc before (c ∷ []) after)) more net m
  where
    c_in : Member c s.cells
    c_in = subst (λ cells. Member c cells) (sym parts) (Member-append_right before c here)

    own : IsTold s marks variant v w (out_of c)
    own = cell-told s is marks supports variant v w c c_in (λ pin n. known pin.0 (Member-from_Contains (nets_of s.inputs before) pin.0 (All-contains (λ (x : NetId). Contains (nets_of s.inputs before) x.0) c.ins.items pin (is.in_order before after c parts) (Contains-from_Member pin n))))

    by_cell : (other : ℕ) → (e : StageCell) × Member e (before ++ c ∷ []) × (out_of e ≡ other) → IsTold s marks variant v w other
    by_cell other (e, n, at) = subst (IsTold s marks variant v w) at
        (elim (Member-append_cases e before (c ∷ []) n) [
          | inl first ↦ known (out_of e) (Member-append_right (rail_nets s.inputs) (out_of e) (Member-map out_of e first))
          | inr last ↦ elim (member_cases e c [] last) [ inl same ↦ subst (λ (x : StageCell). IsTold s marks variant v w (out_of x)) same own | inr none ↦ elim none [ ] ]
        ])

    more : (other : ℕ) → Member other (nets_of s.inputs (before ++ c ∷ [])) → IsTold s marks variant v w other
    more other n = elim (Member-append_cases other (rail_nets s.inputs) (map out_of (before ++ c ∷ [])) n) [
      | inl rail ↦ known other (Member-append_left other (map out_of before) rail)
      | inr out ↦ by_cell other (member_of_map out_of (before ++ c ∷ []) other out)
    ]

pub told : (s : StageData) → IsStage s → (marks : Marks) → AreSupports s marks → (variant : Variant) (v w : List Bool) → IsWordOf s v → IsWordOf s w → (net : ℕ) → Member net (nets_of s.inputs s.cells) → AgreeOn (marks net) v w → val s v variant net ≡ val s w variant net
told s is marks supports variant v w right_v right_w =
    nets-told s is marks supports variant v w [] s.cells refl (λ net m.
    rail-told s is marks supports variant v w right_v right_w net (subst (λ xs. Member net xs) (append-nil (rail_nets s.inputs)) m))

pub values_told : (s : StageData) → IsStage s → (marks : Marks) → AreSupports s marks → (variant : Variant) (v w : List Bool) → IsWordOf s v → IsWordOf s w → (net : ℕ) → Contains (nets_of s.inputs s.cells) net → AgreeOn (marks net) v w → val s v variant net ≡ val s w variant net
values_told s is marks supports variant v w right_v right_w net m = told s is marks supports variant v w right_v right_w net (Member-from_Contains (nets_of s.inputs s.cells) net m)
