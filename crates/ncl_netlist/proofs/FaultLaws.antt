-- Parts have one fault, or none.
use Rattle.ncl_netlist.proofs.Terms.{AllDiffer, BuildFault, HasNoTwoDrivers, IsFaultOf, IsFaultless, IsFirstWhere, List, Memory, NoDriver, Parts, Repeats, SameName, TooMany, TwoDrivers, [], ap, apart_from_distinct, arith, cell_names, drivers_at, get_or, inl, inr, nets_of, refl, same_Some, same_name, slice_get, slice_get_within, sym, true≢false, unwrap_or, unwrap_or-slice_get, ℕ, ◌<◌, ◌∙◌, ◌≡◌, ◌≤◌, ◌⊎◌}
use Rattle.ncl_netlist.proofs.NameLists.{same_itself}

-- the name at the first place of which a fact holds is one name
pub first_unique : (P : ℕ → Type 0) (names : List (List ℕ)) (x y : List ℕ) → IsFirstWhere P names x → IsFirstWhere P names y → x ≡ y
first_unique P names x y a b =
    let up : a.place < b.place → ⊥ = λ lt. b.none_before a.place lt a.holds in
    let down : b.place < a.place → ⊥ = λ lt. a.none_before b.place lt b.holds in
    let same : a.place ≡ b.place = grind (arith, up, down) in
    same_Some x y (sym a.is ∙ ap (slice_get names) same ∙ b.is)

-- names that differ don't repeat
pub Repeats-AllDiffer : (names : List (List ℕ)) (x : List ℕ) → IsFirstWhere (Repeats names) names x → AllDiffer names → ⊥
Repeats-AllDiffer names x first differ =
    let r = first.holds in
    let k = first.place in
    let within = slice_get_within names k x first.is in
    let equal : get_or names r.earlier [] ≡ get_or names k [] =
    sym (unwrap_or-slice_get names r.earlier []) ∙ ap (λ o. unwrap_or o []) r.same ∙ unwrap_or-slice_get names k [] in
    true≢false (sym (same_itself (get_or names k [])) ∙ (λ j. same_name (sym equal j) (get_or names k [])) ∙ apart_from_distinct same_name names r.earlier k [] differ r.before within)

module _ (parts : Parts) where
  -- a net with two drivers breaks the rule
  two_drivers : (x : List ℕ) → IsFirstWhere (λ net. 2 ≤ drivers_at parts net) (nets_of parts) x → HasNoTwoDrivers parts → ⊥
  two_drivers x first none =
      omega (arith, first.holds, none first.place (slice_get_within (nets_of parts) first.place x first.is))

  -- parts with a fault break a rule, unless memory was refused
  pub IsFaultOf-excludes : (f : BuildFault) → IsFaultOf parts f → IsFaultless parts → f ≡ Memory
  IsFaultOf-excludes TooMany h ok = absurd (omega (arith, h, ok.0))
  IsFaultOf-excludes (SameName x) h ok = absurd (Repeats-AllDiffer (cell_names parts) x h.1 ok.1)
  IsFaultOf-excludes (TwoDrivers x) h ok = absurd (two_drivers x h.2 ok.2)
  IsFaultOf-excludes (NoDriver x) h ok =
      absurd (omega (arith, h.3.holds, ok.3 h.3.place (slice_get_within (nets_of parts) h.3.place x h.3.is)))
  IsFaultOf-excludes Memory h ok = refl

  -- two faults of the same parts are one, unless memory was refused
  pub IsFaultOf-unique : (f g : BuildFault) → IsFaultOf parts f → IsFaultOf parts g → (f ≡ g) ⊎ ((f ≡ Memory) ⊎ (g ≡ Memory))
  IsFaultOf-unique Memory g h k = inr (inl refl)
  IsFaultOf-unique f Memory h k = inr (inr refl)
  IsFaultOf-unique TooMany TooMany h k = inl refl
  IsFaultOf-unique TooMany (SameName y) h k = absurd (omega (arith, h, k.0))
  IsFaultOf-unique TooMany (TwoDrivers y) h k = absurd (omega (arith, h, k.0))
  IsFaultOf-unique TooMany (NoDriver y) h k = absurd (omega (arith, h, k.0))
  IsFaultOf-unique (SameName x) TooMany h k = absurd (omega (arith, k, h.0))
  IsFaultOf-unique (SameName x) (SameName y) h k = inl (ap SameName (first_unique (Repeats (cell_names parts)) (cell_names parts) x y h.1 k.1))
  IsFaultOf-unique (SameName x) (TwoDrivers y) h k = absurd (Repeats-AllDiffer (cell_names parts) x h.1 k.1)
  IsFaultOf-unique (SameName x) (NoDriver y) h k = absurd (Repeats-AllDiffer (cell_names parts) x h.1 k.1)
  IsFaultOf-unique (TwoDrivers x) TooMany h k = absurd (omega (arith, k, h.0))
  IsFaultOf-unique (TwoDrivers x) (SameName y) h k = absurd (Repeats-AllDiffer (cell_names parts) y k.1 h.1)
  IsFaultOf-unique (TwoDrivers x) (TwoDrivers y) h k = inl (ap TwoDrivers (first_unique (λ net. 2 ≤ drivers_at parts net) (nets_of parts) x y h.2 k.2))
  IsFaultOf-unique (TwoDrivers x) (NoDriver y) h k = absurd (two_drivers x h.2 k.2)
  IsFaultOf-unique (NoDriver x) TooMany h k = absurd (omega (arith, k, h.0))
  IsFaultOf-unique (NoDriver x) (SameName y) h k = absurd (Repeats-AllDiffer (cell_names parts) y k.1 h.1)
  IsFaultOf-unique (NoDriver x) (TwoDrivers y) h k = absurd (two_drivers y k.2 h.2)
  IsFaultOf-unique (NoDriver x) (NoDriver y) h k = inl (ap NoDriver (first_unique (λ net. drivers_at parts net ≡ 0) (nets_of parts) x y h.3 k.3))
