-- The values of some nets alone: what a stage, or a tree, sees of the machine.
use Rattle.ncl_machine.proofs.Terms.{Bool, Layout, List, NetId, Nets, Rails, [], among, among-from_member, and_from, and_parts, ap, cases_eq, cond, eq-eqb, false, false_from_ne_true, fun_ext, here, inl, inr, list_all, pin_values, refl, stage_nets, subst, sym, there, true, with_net, ℕ, ◌&&◌, ◌∙◌, ◌∷◌, ◌≡◌}
use Rattle.ncl_machine.proofs.AtWorkLaws.{with_net-elsewhere}
use Rattle.ncl_machine.proofs.NamedRails.{member-from_among}
use Rattle.ncl_base.specs.Members.{Member}

-- the values of these nets, all others low
abbrev pub local : List ℕ → Nets → Nets
local nets v net = among nets net && v net

-- the values of the nets of stage k, and of the tree after it
abbrev pub in_stage : Layout → Nets → ℕ → Nets
in_stage l v k = local (stage_nets l k) v

abbrev pub in_tree : Layout → Nets → ℕ → Nets
in_tree l v k = local (l.tree_nets k) v

-- at a net of theirs they are the machine's
pub local-at : (nets : List ℕ) (v : Nets) (net : ℕ) → Member net nets → local nets v net ≡ v net
local-at nets v net m = ap (λ a. a && v net) (among-from_member net m)

-- a net that was changed has the value
pub with_net-here : (v : Nets) (net : ℕ) (value : Bool) → with_net v net value net ≡ value
with_net-here v net value = ap (λ b. cond b value (v net)) (eq-eqb net net refl)

-- a net that has the value keeps it
pub with_net-keeps : (v : Nets) (net other : ℕ) (value : Bool) → v other ≡ value → with_net v net value other ≡ value
with_net-keeps v net other value has = elim (cases_eq net other) [
  | inl e ↦ subst (λ x. with_net v net value x ≡ value) e (with_net-here v net value)
  | inr apart ↦ with_net-elsewhere v net other value apart ∙ has
]

-- where one of them changes, that is what changes
pub local-put_here : (nets : List ℕ) (v : Nets) (net : ℕ) (value : Bool) → Member net nets → local nets (with_net v net value) ≡ with_net (local nets v) net value
local-put_here nets v net value m = fun_ext (λ other.
    elim (cases_eq net other) [
      | inl e ↦
          ap (λ b. among nets other && cond b value (v other)) (eq-eqb net other e)
          ∙ ap (λ a. a && value) (subst (λ x. among nets x ≡ true) e (among-from_member net m))
          ∙ sym (ap (λ b. cond b value (among nets other && v other)) (eq-eqb net other e))
      | inr apart ↦ ap (λ x. among nets other && x) (with_net-elsewhere v net other value apart) ∙ sym (with_net-elsewhere (local nets v) net other value apart)
    ])

-- where another changes, nothing does
pub local-put_other : (nets : List ℕ) (v : Nets) (net : ℕ) (value : Bool) → (Member net nets → ⊥) → local nets (with_net v net value) ≡ local nets v
local-put_other nets v net value none = fun_ext (λ other.
    elim (cases_eq net other) [
      | inl e ↦
          let out : among nets other ≡ false =
          false_from_ne_true _ (λ some. none (subst (λ x. Member x nets) (sym e) (member-from_among other nets some))) in
          ap (λ a. a && with_net v net value other) out ∙ sym (ap (λ a. a && v other) out)
      | inr apart ↦ ap (λ x. among nets other && x) (with_net-elsewhere v net other value apart)
    ])

-- a cell that reads these nets alone sees the same on its pins
pub pins-local : (nets : List ℕ) (v : Nets) (ins : List NetId) → ((x : NetId) → Member x ins → Member x.0 nets)
    → pin_values (local nets v) ins ≡ pin_values v ins
pins-local nets v [] each = refl
pins-local nets v (x ∷ xs) each =
    let first : local nets v x.0 ≡ v x.0 = local-at nets v x.0 (each x here) in
    let rest = pins-local nets v xs (λ y m. each y (there m)) in
    cc

-- a test that bits pass, where it comes out the same of each
pub all-local : (test : Nets → Rails → Bool) (nets : List ℕ) (v : Nets) (bits : List Rails)
    → ((r : Rails) → Member r bits → test (local nets v) r ≡ test v r) → list_all (test v) bits ≡ true
    → list_all (test (local nets v)) bits ≡ true
all-local test nets v [] same all = refl
all-local test nets v (x ∷ xs) same all =
    let (first, rest) = and_parts (test v x) (list_all (test v) xs) all in and_from _ _ (same x here ∙ first) (all-local test nets v xs (λ r m. same r (there m)) rest)
