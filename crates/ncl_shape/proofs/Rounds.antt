-- What rounds give: they keep what is high, each net that rises is the output of a cell that raises it, and
-- after as many rounds as cells nothing rises any more.
use Rattle.ncl_shape.proofs.Terms.{Bool, IsBelow, List, Member, Nets, [], and_from, and_parts, ap, arith, both_ways, cases_Bool, eq-eqb, eqb-true, false, fun_ext, here, inl, inr, length, list_any, list_any-from_member, member_from_list_any, nat_eq, not, not-true, not_from_false, or_cases, or_left, or_right, refl, round, rounds, same_from_both, subst, suc, sym, there, true, zero, ℕ, ◌&&◌, ◌+◌, ◌∷◌, ◌≡◌, ◌≤◌, ◌⊎◌}

-- 0 for a net that is high, 1 for one that is low
abbrev low_count : Bool → ℕ
low_count true = 0
low_count false = 1

low_count-falls : (a b : Bool) → (a ≡ true → b ≡ true) → low_count b ≤ low_count a
low_count-falls a true h = omega arith
low_count-falls false false h = omega arith
low_count-falls true false h = absurd (both_ways false refl (h refl))

low_count-small : (a : Bool) → low_count a ≤ 1
low_count-small true = omega arith
low_count-small false = omega arith

low_count-zero : (a : Bool) → low_count a ≡ 0 → a ≡ true
low_count-zero true h = refl
low_count-zero false h = absurd (omega arith)

-- two families of rounds, the second from higher nets and with more that rises: each net that is high
-- after the first is high after the second
pub rounds-below : {C : Type 0} (out : C → ℕ) (raises more : Nets → C → Bool) → ((v w : Nets) → IsBelow v w → (cell : C) → raises v cell ≡ true → more w cell ≡ true) → (cells : List C) (n : ℕ) (v w : Nets) → IsBelow v w → IsBelow (rounds out raises cells n v) (rounds out more cells n w)
rounds-below out raises more grows cells zero v w below = below
rounds-below out raises more grows cells (suc n) v w below =
    let before : IsBelow (rounds out raises cells n v) (rounds out more cells n w) = rounds-below out raises more grows cells n v w below in
    λ net high.
    elim (or_cases (rounds out raises cells n v net) _ high) [
      | inl old ↦ or_left (rounds out more cells n w net) _ (before net old)
      | inr new ↦
          let (cell, m, passes) = member_from_list_any (λ cell. nat_eq (out cell) net && raises (rounds out raises cells n v) cell) cells new in
          let (at, up) = and_parts (nat_eq (out cell) net) _ passes in
          or_right (rounds out more cells n w net) _ (list_any-from_member (λ cell. nat_eq (out cell) net && more (rounds out more cells n w) cell) cell m (and_from _ _ at (grows _ _ before cell up)))
    ]

-- higher nets raise no fewer cells
abbrev pub IsMonotone : {C : Type 0} → (Nets → C → Bool) → Type 0
IsMonotone {C} raises = (v w : Nets) → IsBelow v w → (cell : C) → raises v cell ≡ true → raises w cell ≡ true

-- nothing is left to raise: where a cell raises its output, that is high
abbrev pub IsSettled : {C : Type 0} → (C → ℕ) → (Nets → C → Bool) → List C → Nets → Type 0
IsSettled {C} out raises cells v = (cell : C) → Member cell cells → raises v cell ≡ true → v (out cell) ≡ true

module _ (C : Type 0) (out : C → ℕ) (raises : Nets → C → Bool) (cells : List C) where
  -- a round keeps what is high
  pub round-keeps : (v : Nets) → IsBelow v (round out raises cells v)
  round-keeps v net high = or_left (v net) _ high

  -- and so do rounds
  pub rounds-keep : (n : ℕ) (v : Nets) → IsBelow v (rounds out raises cells n v)
  rounds-keep zero v net high = high
  rounds-keep (suc n) v net high = round-keeps (rounds out raises cells n v) net (rounds-keep n v net high)

  -- settled nets that are above the start stay above the rounds
  pub rounds-below_settled : IsMonotone raises → (n : ℕ) (v w : Nets) → IsBelow v w → IsSettled out raises cells w → IsBelow (rounds out raises cells n v) w
  rounds-below_settled mono zero v w below settled = below
  rounds-below_settled mono (suc n) v w below settled =
      let before : IsBelow (rounds out raises cells n v) w = rounds-below_settled mono n v w below settled in
      λ net high. elim (or_cases (rounds out raises cells n v net) _ high) [
        | inl old ↦ before net old
        | inr new ↦
            let (cell, m, passes) = member_from_list_any (λ cell. nat_eq (out cell) net && raises (rounds out raises cells n v) cell) cells new in
            let (at, up) = and_parts (nat_eq (out cell) net) _ passes in
            subst (λ x. w x ≡ true) (eqb-true (out cell) net at) (settled cell m (mono _ _ before cell up))
      ]

  -- a net that is high after rounds was high at the start, or a cell raises it
  pub rounds-support : IsMonotone raises → (n : ℕ) (v : Nets) (net : ℕ) → rounds out raises cells n v net ≡ true → (v net ≡ true) ⊎ ((cell : C) × Member cell cells × (out cell ≡ net) × (raises (rounds out raises cells n v) cell ≡ true))
  rounds-support mono zero v net high = inl high
  rounds-support mono (suc n) v net high =
      let before : Nets = rounds out raises cells n v in
      elim (or_cases (before net) _ high) [
        | inl old ↦
            elim (rounds-support mono n v net old) [
              | inl start ↦ inl start
              | inr (cell, m, at, up) ↦ inr (cell, m, at, mono before (round out raises cells before) (round-keeps before) cell up)
            ]
        | inr new ↦
            let (cell, m, passes) = member_from_list_any (λ cell. nat_eq (out cell) net && raises before cell) cells new in
            let (at, up) = and_parts (nat_eq (out cell) net) _ passes in
            inr (cell, m, eqb-true (out cell) net at, mono before (round out raises cells before) (round-keeps before) cell up)
      ]

  -- what holds of the nets at the start, and of the output of each cell that is raised where it holds of
  -- the high nets, holds of each net that is high after rounds
  pub rounds-each : (P : ℕ → Type 0) (v : Nets) → ((net : ℕ) → v net ≡ true → P net) → ((w : Nets) → ((net : ℕ) → w net ≡ true → P net) → (cell : C) → Member cell cells → raises w cell ≡ true → P (out cell)) → (n : ℕ) (net : ℕ) → rounds out raises cells n v net ≡ true → P net
  rounds-each P v start more zero net high = start net high
  rounds-each P v start more (suc n) net high =
      let before : Nets = rounds out raises cells n v in
      elim (or_cases (before net) _ high) [
        | inl old ↦ rounds-each P v start more n net old
        | inr new ↦
            let (cell, m, passes) = member_from_list_any (λ cell. nat_eq (out cell) net && raises before cell) cells new in
            let (at, up) = and_parts (nat_eq (out cell) net) _ passes in
            subst P (eqb-true (out cell) net at) (more before (rounds-each P v start more n) cell m up)
      ]

  -- how many of some cells have a low output
  abbrev lows : Nets → List C → ℕ
  lows v [] = 0
  lows v (cell ∷ some) = low_count (v (out cell)) + lows v some

  lows-fall : (v w : Nets) → IsBelow v w → (some : List C) → lows w some ≤ lows v some
  lows-fall v w below [] = omega arith
  lows-fall v w below (cell ∷ some) =
      let rest = lows-fall v w below some in
      let first = low_count-falls (v (out cell)) (w (out cell)) (below (out cell)) in
      omega (arith, rest, first)

  lows-less : (v w : Nets) → IsBelow v w → (cell : C) {some : List C} → Member cell some → v (out cell) ≡ false → w (out cell) ≡ true → suc (lows w some) ≤ lows v some
  lows-less v w below cell (here {xs = some}) low high =
      let rest = lows-fall v w below some in
      let after : low_count (w (out cell)) ≡ 0 = ap low_count high in
      let before : low_count (v (out cell)) ≡ 1 = ap low_count low in
      omega (arith, rest, after, before)
  lows-less v w below cell (there {y = other} {xs = some} m) low high =
      let rest = lows-less v w below cell m low high in
      let first = low_count-falls (v (out other)) (w (out other)) (below (out other)) in
      omega (arith, rest, first)

  lows-length : (v : Nets) (some : List C) → lows v some ≤ length some
  lows-length v [] = omega arith
  lows-length v (cell ∷ some) =
      let rest = lows-length v some in
      let first = low_count-small (v (out cell)) in
      omega (arith, rest, first)

  lows-none : (v : Nets) (cell : C) {some : List C} → Member cell some → lows v some ≡ 0 → v (out cell) ≡ true
  lows-none v cell (here {xs = some}) none = let first : low_count (v (out cell)) ≡ 0 = omega arith in low_count-zero (v (out cell)) first
  lows-none v cell (there {y = other} {xs = some} m) none = let rest : lows v some ≡ 0 = omega arith in lows-none v cell m rest

  -- a cell that is low and would rise
  abbrev waits : Nets → C → Bool
  waits v cell = not (v (out cell)) && raises v cell

  settled_from_none : (v : Nets) → list_any (waits v) cells ≡ false → IsSettled out raises cells v
  settled_from_none v none cell m up =
      elim (cases_Bool (v (out cell))) [
        | inl high ↦ high
        | inr low ↦ absurd (both_ways (list_any (waits v) cells) none (list_any-from_member (waits v) cell m (and_from _ _ (not_from_false _ low) up)))
      ]

  -- a round leaves settled nets as they are
  pub round-settled : (v : Nets) → IsSettled out raises cells v → round out raises cells v ≡ v
  round-settled v settled = fun_ext (λ net. same_from_both (round out raises cells v net) (v net)
      (λ high. elim (or_cases (v net) _ high) [
        | inl old ↦ old
        | inr new ↦
            let (cell, m, passes) = member_from_list_any (λ cell. nat_eq (out cell) net && raises v cell) cells new in
            let (at, up) = and_parts (nat_eq (out cell) net) (raises v cell) passes in
            subst (λ x. v x ≡ true) (eqb-true (out cell) net at) (settled cell m up)
      ])
      (round-keeps v net))

  still_settled : (v : Nets) → IsSettled out raises cells v → IsSettled out raises cells (round out raises cells v)
  still_settled v settled = subst (IsSettled out raises cells) (sym (round-settled v settled)) settled

  -- after n rounds the nets are settled, or at least n outputs are high
  settles : (n : ℕ) (v : Nets) → IsSettled out raises cells (rounds out raises cells n v) ⊎ (n + lows (rounds out raises cells n v) cells ≤ length cells)
  settles zero v = let all = lows-length v cells in inr (omega (arith, all))
  settles (suc n) v =
      let before : Nets = rounds out raises cells n v in
      elim (settles n v) [
        | inl settled ↦ inl (still_settled before settled)
        | inr few ↦
            elim (cases_Bool (list_any (waits before) cells)) [
              | inr none ↦ inl (still_settled before (settled_from_none before none))
              | inl some ↦
                  let (cell, m, passes) = member_from_list_any (waits before) cells some in
                  let (low, up) = and_parts (not (before (out cell))) (raises before cell) passes in
                  let high : round out raises cells before (out cell) ≡ true = or_right (before (out cell)) _ (list_any-from_member (λ other. nat_eq (out other) (out cell) && raises before other) cell m (and_from _ _ (eq-eqb (out cell) (out cell) refl) up)) in
                  let less = lows-less before (round out raises cells before) (round-keeps before) cell m (not-true (before (out cell)) low) high in
                  inr (omega (arith, few, less))
            ]
      ]

  -- after as many rounds as cells nothing rises any more
  pub rounds-settled : (v : Nets) → IsSettled out raises cells (rounds out raises cells (length cells) v)
  rounds-settled v =
      elim (settles (length cells) v) [
        | inl settled ↦ settled
        | inr few ↦ λ cell m up. lows-none (rounds out raises cells (length cells) v) cell m (omega (arith, few))
      ]
