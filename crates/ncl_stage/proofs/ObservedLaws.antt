-- A stage whose outputs have one high rail each, and whose nets are all observed, is sound.
use Rattle.ncl_stage.proofs.Terms.{All-contains, AllPairs, AreObserved, Base, Bit, Bool, BothRails, Cell, Contains, Contains-from_Member, Contains-from_slice_get, HasValidRails, Incomplete, IsBelow, IsSound, IsStage, IsWordOf, List, Member, Member-append_cases, Member-append_right, Member-from_Contains, Member-map, NetId, Nets, NoRail, None, Option, Orphan, Rails, Some, StageCell, StageData, Variant, [], all_data, among, and_parts, ap, append_assoc, both_rails, both_ways, cases_eq, cond, eq-eqb, falls_with, false, false_from_ne_true, get_or, get_or_from_slice_get, has_data, here, holds, holds-grows, holds_at, inl, inr, is_illegal, is_value, kept_low, length, list_all, map, map-append, member_cases, named_rails, nat_eq, ne_eqb, nets_of, not, or_left, or_right, out_of, output_net, parts-differ, pin_values, rail_nets, rail_of, refl, set_of, slice_get, slice_get-from_Contains, slice_get_within, split_at, subst, sym, there, true, val, val-below_base, val-output, val-rail, with_net, ℕ, ◌&&◌, ◌++◌, ◌<◌, ◌||◌, ◌∙◌, ◌∷◌, ◌≡◌, ◌≢◌, ◌⊎◌, left-differ, named-at, rail-member}

not_true : (b : Bool) → not b ≡ true → b ≡ false
not_true true e = absurd cc
not_true false e = refl

false_or : (a b : Bool) → a ≡ false → b ≡ false → (a || b) ≡ false
false_or true b e f = absurd cc
false_or false b e f = f

and_low : (a b : Bool) → b ≡ false → (a && b) ≡ false
and_low true b f = f
and_low false b f = refl

-- below the values, with a net low: below them without the net
below_without : (base v : Nets) → IsBelow v base → (net : ℕ) → v net ≡ false → IsBelow v (with_net base net false)
below_without base v below net low other high =
    elim (cases_eq net other) [
      | inl same ↦ absurd (both_ways (v other) (ap v (sym same) ∙ low) high)
      | inr apart ↦ ap (λ b. cond b false (base other)) (ne_eqb net other apart) ∙ below other high
    ]

-- a gate that doesn't read the net doesn't see it
unread : (base : Nets) (net : ℕ) (ins : List NetId) → ((pin : NetId) → Member pin ins → pin.0 ≡ net → ⊥) → pin_values (with_net base net false) ins ≡ pin_values base ins
unread base net [] apart = refl
unread base net (pin ∷ ins) apart =
    let first : with_net base net false pin.0 ≡ base pin.0 = ap (λ b. cond b false (base pin.0)) (ne_eqb net pin.0 (λ same. apart pin here (sym same))) in
    let rest = unread base net ins (λ other m. apart other (there m)) in
    λ i. first i ∷ rest i

-- the values under a variant are below those of Base, and a gate is high in them only where its set function holds
record Between (s : StageData) (word : List Bool) (v : Nets) : Type 0 where
  below : IsBelow v (val s word Base)
  supported : (c : StageCell) → Member c s.cells → v (out_of c) ≡ true → holds v c ≡ true

between : (s : StageData) → IsStage s → (word : List Bool) (variant : Variant) → Between s word (val s word variant)
between s is word variant = record {
  below = val-below_base s word variant;
  supported = λ c m high. (and_parts (not (kept_low s variant c.out.0)) (holds (val s word variant) c) (sym (val-output s is word variant c m) ∙ high)).1;
}

-- a gate that falls with the net is low where the net is
falls-low : (s : StageData) (word : List Bool) (v : Nets) → Between s word v → (net : ℕ) → v net ≡ false → (c : StageCell) → Member c s.cells → falls_with (val s word Base) net c ≡ true → v (out_of c) ≡ false
falls-low s word v is net low c m falls =
    let base : Nets = val s word Base in
    let (up, down) = and_parts (base c.out.0) (not (holds (with_net base net false) c)) falls in
    false_from_ne_true (v (out_of c)) (λ high.
    both_ways (holds (with_net base net false) c) (not_true _ down)
    (holds-grows v (with_net base net false) (below_without base v is.below net low) c (is.supported c m high)))

-- it reads the net
falls-reads : (s : StageData) (word : List Bool) → Between s word (val s word Base) → (net : ℕ) (c : StageCell) → Member c s.cells → falls_with (val s word Base) net c ≡ true → ((pin : NetId) → Member pin c.ins.items → pin.0 ≡ net → ⊥) → ⊥
falls-reads s word is net c m falls apart =
    let base : Nets = val s word Base in
    let (up, down) = and_parts (base c.out.0) (not (holds (with_net base net false) c)) falls in
    both_ways (holds base c) (ap (set_of c.kind) (sym (unread base net c.ins.items apart)) ∙ not_true _ down) (is.supported c m up)

-- no gate reads its own output or that of a later gate
reads-earlier : (s : StageData) → IsStage s → (before after : List StageCell) (c d : StageCell) → s.cells ≡ before ++ c ∷ after → Member d (c ∷ after) → (pin : NetId) → Member pin c.ins.items → pin.0 ≡ out_of d → ⊥
reads-earlier s is before after c d parts n pin m same =
    let left : Member pin.0 (nets_of s.inputs before) = Member-from_Contains (nets_of s.inputs before) pin.0 (All-contains (λ (net : NetId). Contains (nets_of s.inputs before) net.0) c.ins.items pin (is.in_order before after c parts) (Contains-from_Member pin m)) in
    let right : Member pin.0 (map out_of (c ∷ after)) = subst (λ x. Member x (map out_of (c ∷ after))) (sym same) (Member-map out_of d n) in
    let nets : nets_of s.inputs s.cells ≡ nets_of s.inputs before ++ map out_of (c ∷ after) =
    ap (λ cells. rail_nets s.inputs ++ map out_of cells) parts
    ∙ ap (λ outs. rail_nets s.inputs ++ outs) (map-append out_of before (c ∷ after))
    ∙ sym (append_assoc (rail_nets s.inputs) (map out_of before) (map out_of (c ∷ after))) in
    parts-differ pin.0 (map out_of (c ∷ after)) (subst (λ xs. AllPairs (λ x y. x ≢ y) xs) nets is.nets_differ) left right

-- so it is a later gate than the one whose output the net is
falls-later : (s : StageData) → IsStage s → (word : List Bool) (before after : List StageCell) (d : StageCell) → s.cells ≡ before ++ d ∷ after → (c : StageCell) → Member c s.cells → falls_with (val s word Base) (out_of d) c ≡ true → Member c after
falls-later s is word before after d parts c m falls =
    elim (Member-append_cases c before (d ∷ after) (subst (λ xs. Member c xs) parts m)) [
      | inl first ↦
          let (left, right, split) = split_at before c (Contains-from_Member c first) in
          absurd (falls-reads s word (between s is word Base) (out_of d) c m falls
          (reads-earlier s is left (right ++ d ∷ after) c d
          (parts ∙ ap (λ xs. xs ++ d ∷ after) split ∙ append_assoc left (c ∷ right) (d ∷ after))
          (there (Member-append_right right d here))))
      | inr rest ↦
          elim (member_cases c d after rest) [
            | inl own ↦ absurd (falls-reads s word (between s is word Base) (out_of d) c m falls (reads-earlier s is before after c d (parts ∙ ap (λ (x : StageCell). before ++ x ∷ after) own) (subst (λ (x : StageCell). Member d (x ∷ after)) own here)))
            | inr later ↦ later
          ]
    ]

-- a rail of the outputs is one of an output
pub rail-cases : (rails : List Rails) (net : ℕ) → Member net (rail_nets rails) → (r : Rails) × Member r rails × ((net ≡ r.zero.0) ⊎ (net ≡ r.one.0))
rail-cases [] net m = elim m [ ]
rail-cases (r ∷ rs) net m =
    elim (member_cases net r.zero.0 (r.one.0 ∷ rail_nets rs) m) [
      | inl zero ↦ (r, here, inl (sym zero))
      | inr other ↦
          elim (member_cases net r.one.0 (rail_nets rs) other) [
            | inl one ↦ (r, here, inr (sym one))
            | inr rest ↦ let (q, n, at) = rail-cases rs net rest in (q, there n, at)
          ]
    ]

-- an output without its high rail is not DATA
all-false : (v : Nets) (r : Rails) {outputs : List Rails} → Member r outputs → has_data v r ≡ false → list_all (has_data v) outputs ≡ false
all-false v r (here {xs = outputs}) e = ap (λ b. b && list_all (has_data v) outputs) e
all-false v r (there {y = y} {xs = outputs} m) e = and_low (has_data v y) (list_all (has_data v) outputs) (all-false v r m e)

low-output : (s : StageData) → HasValidRails s → (word : List Bool) → IsWordOf s word → (v : Nets) → IsBelow v (val s word Base) → (net : ℕ) → val s word Base net ≡ true → v net ≡ false → Contains (rail_nets s.outputs) net → all_data s v ≡ false
low-output s valid word right v below net high low rail =
    let base : Nets = val s word Base in
    let (r, m, at) = rail-cases s.outputs net (Member-from_Contains (rail_nets s.outputs) net rail) in
    let (output, found) = slice_get-from_Contains s.outputs r (Contains-from_Member r m) in
    let legal : is_illegal base r ≡ false = ap (holds_at (is_illegal base)) (sym found) ∙ (valid word right output).0 in
    all-false v r m
    (elim at [
      | inl zero ↦
          let up : base r.zero.0 ≡ true = ap base (sym zero) ∙ high in
          false_or _ _ (ap v (sym zero) ∙ low)
          (false_from_ne_true _ (λ other. both_ways (base r.zero.0 && base r.one.0) legal (ap (λ b. b && base r.one.0) up ∙ below r.one.0 other)))
      | inr one ↦
          let up : base r.one.0 ≡ true = ap base (sym one) ∙ high in
          false_or _ _
          (false_from_ne_true _ (λ other. both_ways (base r.zero.0 && base r.one.0) legal (ap (λ b. b && base r.one.0) (below r.zero.0 other) ∙ up)))
          (ap v (sym one) ∙ low)
    ])

-- of the outputs of the gates, the last first
gates-hidden : (s : StageData) → IsStage s → HasValidRails s → AreObserved s → (word : List Bool) → IsWordOf s word → (v : Nets) → Between s word v → (before after : List StageCell) → s.cells ≡ before ++ after → (c : StageCell) → Member c after → val s word Base (out_of c) ≡ true → v (out_of c) ≡ false → all_data s v ≡ false
gates-hidden s is valid observed word right v between_v before [] parts c m high low = elim m [ ]
gates-hidden s is valid observed word right v between_v before (d ∷ after) parts c m high low =
    let later : (e : StageCell) → Member e after → val s word Base (out_of e) ≡ true → v (out_of e) ≡ false → all_data s v ≡ false =
    gates-hidden s is valid observed word right v between_v (before ++ d ∷ []) after (parts ∙ sym (append_assoc before (d ∷ []) after)) in
    elim (member_cases c d after m) [
      | inl own ↦ by_observer later (subst (λ (x : StageCell). val s word Base (out_of x) ≡ true) (sym own) high) (subst (λ (x : StageCell). v (out_of x) ≡ false) (sym own) low)
      | inr rest ↦ later c rest high low
    ]
  where
    by_observer : ((e : StageCell) → Member e after → val s word Base (out_of e) ≡ true → v (out_of e) ≡ false → all_data s v ≡ false) → val s word Base (out_of d) ≡ true → v (out_of d) ≡ false → all_data s v ≡ false
    by_observer later up down = elim (observed word right (out_of d) up) [
      | inl rail ↦ low-output s valid word right v between_v.below (out_of d) up down rail
      | inr (e, n, falls) ↦
          let e_in : Member e s.cells = Member-from_Contains s.cells e n in
          later e (falls-later s is word before after d parts e e_in falls)
          (and_parts (val s word Base e.out.0) (not (holds (with_net (val s word Base) (out_of d) false) e)) falls).0
          (falls-low s word v between_v (out_of d) down e e_in falls)
    ]

-- where a net is high under Base and low under a variant, some output waits for it
hidden : (s : StageData) → IsStage s → HasValidRails s → AreObserved s → (word : List Bool) → IsWordOf s word → (variant : Variant) (net : ℕ) → val s word Base net ≡ true → val s word variant net ≡ false → all_data s (val s word variant) ≡ false
hidden s is valid observed word right variant net high low =
    elim (observed word right net high) [
      | inl rail ↦ low-output s valid word right (val s word variant) (val-below_base s word variant) net high low rail
      | inr (e, n, falls) ↦
          let e_in : Member e s.cells = Member-from_Contains s.cells e n in
          gates-hidden s is valid observed word right (val s word variant) (between s is word variant) [] s.cells refl e e_in
          (and_parts (val s word Base e.out.0) (not (holds (with_net (val s word Base) net false) e)) falls).0
          (falls-low s word (val s word variant) (between s is word variant) net low e e_in falls)
    ]

-- without a bit the rail that the word names is low
is_value-own : (b : Bool) → is_value b b ≡ true
is_value-own true = refl
is_value-own false = refl

one-of : (r : Rails) (b : Bool) → both_rails (Some r) (rail_of r b) ≡ true
one-of r true = or_right (nat_eq r.one.0 r.zero.0) (nat_eq r.one.0 r.one.0) (eq-eqb r.one.0 r.one.0 refl)
one-of r false = or_left (nat_eq r.zero.0 r.zero.0) (nat_eq r.zero.0 r.one.0) (eq-eqb r.zero.0 r.zero.0 refl)

bit-hidden : (s : StageData) → IsStage s → HasValidRails s → AreObserved s → (word : List Bool) → IsWordOf s word → (bit : ℕ) (r : Rails) → slice_get s.inputs bit ≡ Some r → all_data s (val s word (Bit bit)) ≡ false
bit-hidden s is valid observed word right bit r found =
    let b : Bool = get_or word bit false in
    let within : bit < length s.inputs = slice_get_within s.inputs bit r found in
    let at : get_or s.inputs bit r ≡ r = get_or_from_slice_get s.inputs bit r r found in
    let net : ℕ = rail_of r b in
    let rail : Member net (rail_nets s.inputs) = subst (λ (x : Rails). Member (rail_of x b) (rail_nets s.inputs)) at (rail-member s.inputs bit r b within) in
    let named : among (named_rails s.inputs word) net ≡ true =
    ap (λ (x : Rails). among (named_rails s.inputs word) (rail_of x b)) (sym at)
    ∙ named-at s.inputs (left-differ (rail_nets s.inputs) (map out_of s.cells) is.nets_differ) word right bit r within b
    ∙ is_value-own b in
    let high : val s word Base net ≡ true = val-rail s is word Base net rail ∙ ap (λ x. x && true) named in
    let low : val s word (Bit bit) net ≡ false =
    val-rail s is word (Bit bit) net rail
    ∙ and_low (among (named_rails s.inputs word) net) (not (kept_low s (Bit bit) net)) (ap not (ap (λ o. both_rails o net) found ∙ one-of r b)) in
    hidden s is valid observed word right (Bit bit) net high low

-- without a cell its output is low
cell-hidden : (s : StageData) → IsStage s → HasValidRails s → AreObserved s → (word : List Bool) → IsWordOf s word → (cell : ℕ) (c : StageCell) → slice_get s.cells cell ≡ Some c → (val s word Base c.out.0 && all_data s (val s word (Cell cell))) ≡ false
cell-hidden s is valid observed word right cell c found =
    false_from_ne_true _ (λ both.
    let (high, all) = and_parts (val s word Base c.out.0) (all_data s (val s word (Cell cell))) both in
    let m : Member c s.cells = Member-from_Contains s.cells c (Contains-from_slice_get s.cells cell c found) in
    let low : val s word (Cell cell) (out_of c) ≡ false =
    val-output s is word (Cell cell) c m
    ∙ ap (λ b. not b && holds (val s word (Cell cell)) c) (ap (λ o. output_net o c.out.0) found ∙ eq-eqb c.out.0 c.out.0 refl) in
    both_ways (all_data s (val s word (Cell cell))) (hidden s is valid observed word right (Cell cell) (out_of c) high low) all)

-- so the stage is sound
pub sound_from_observed : (s : StageData) → IsStage s → HasValidRails s → AreObserved s → IsSound s
sound_from_observed s is valid observed (BothRails output) word right = (valid word right output).0
sound_from_observed s is valid observed (NoRail output) word right = (valid word right output).1
sound_from_observed s is valid observed (Incomplete bit) word right = by_input (slice_get s.inputs bit) refl
  where
    by_input : (o : Option Rails) → slice_get s.inputs bit ≡ o → holds_at (λ (r : Rails). all_data s (val s word (Bit bit))) o ≡ false
    by_input None e = refl
    by_input (Some r) e = bit-hidden s is valid observed word right bit r e
sound_from_observed s is valid observed (Orphan cell) word right = by_cell (slice_get s.cells cell) refl
  where
    by_cell : (o : Option StageCell) → slice_get s.cells cell ≡ o → holds_at (λ (c : StageCell). val s word Base c.out.0 && all_data s (val s word (Cell cell))) o ≡ false
    by_cell None e = refl
    by_cell (Some c) e = cell-hidden s is valid observed word right cell c e
