-- The laws of the bit order: what a walk from a place meets, and that each bit stands in the order once.
use Rattle.ncl_stage.proofs.Terms.{All, All-contains, All-from_members, All-head, All-tail, AllDiffer, AreMet, Contains, Contains-from_Member, IsStage, List, Member, Member-get_or, Member-map, NetId, None, Rails, ReadEarlier, Some, StageCell, StageData, Th12, [], ap, append-nil, append_assoc, arith, bit_order, bits_from, cases_lt, cond, driver_of, drop, eq-eqb, flat_map, gate, get_or, get_or-map, get_or_append_left, here, inl, inr, length, length-append, length-map, length-take-le, map, map-map, member_cases, member_of_map, met, nat_eq, ne_eqb, net_at, nets_of, or_right, out_of, pairs-head, pairs-tail, pin_places, rail-no_output, rail_nets, rail_places, rails-length, range_with_len, read_by, refl, right-differ, subst, suc, sym, take, there, with_bits, zero, ℕ, ◌*◌, ◌++◌, ◌+◌, ◌-◌, ◌/◌, ◌<◌, ◌||◌, ◌∙◌, ◌∷◌, ◌≡◌, ◌≢◌, left-differ}
use Rattle.ncl_stage.specs.BitOrder.{place_in}
use Rattle.ncl_stage.proofs.ChangedLaws.{nets-length, net_at-rail, net_at-cell, nets-before}
use Rattle.ncl_stage.proofs.NetLaws.{nets-cut, out_at, out_at-is, place_in-front, reads-before}
use Rattle.ncl_stage.proofs.PlaceLaws.{place_in-at}

-- ---- lists of lists

pub flat_map_same : {X Y : Type 0} (f g : X → List Y) (xs : List X) → ((x : X) → Member x xs → f x ≡ g x) → flat_map f xs ≡ flat_map g xs
flat_map_same f g [] same = refl
flat_map_same f g (x ∷ xs) same = let first = same x here in let rest = flat_map_same f g xs (λ y m. same y (there m)) in λ k. first k ++ rest k

flat_map_map : {X Y Z : Type 0} (f : Y → List Z) (h : X → Y) (xs : List X) → flat_map f (map h xs) ≡ flat_map (λ x. f (h x)) xs
flat_map_map f h [] = refl
flat_map_map f h (x ∷ xs) = ap (λ l. f (h x) ++ l) (flat_map_map f h xs)

-- ---- the bit of a net, and the cell that drives it

pub bits_from-none : (bit : ℕ) (rails : List Rails) (net : ℕ) → (Member net (rail_nets rails) → ⊥) → bits_from bit rails net ≡ []
bits_from-none bit [] net apart = refl
bits_from-none bit (r ∷ rs) net apart =
    (λ k. cond (ne_eqb net r.zero.0 (λ same. apart (subst (λ x. Member x (rail_nets (r ∷ rs))) (sym same) here)) k || ne_eqb net r.one.0 (λ same. apart (subst (λ x. Member x (rail_nets (r ∷ rs))) (sym same) (there here))) k) (bit ∷ []) (bits_from (bit + 1) rs net))
    ∙ bits_from-none (bit + 1) rs net (λ m. apart (there (there m)))

pub bits_from-at : (bit : ℕ) (rails : List Rails) → AllDiffer (rail_nets rails) → (place : ℕ) → place < 2 * length rails → bits_from bit rails (get_or (rail_nets rails) place 0) ≡ (bit + place / 2) ∷ []
bits_from-at bit [] differ place lt = absurd (omega arith)
bits_from-at bit (r ∷ rs) differ zero lt =
    ap (λ b. cond (b || nat_eq r.zero.0 r.one.0) (bit ∷ []) (bits_from (bit + 1) rs r.zero.0)) (eq-eqb r.zero.0 r.zero.0 refl)
    ∙ ap (λ n. n ∷ []) (let e : bit ≡ bit + 0 / 2 = omega arith in e)
bits_from-at bit (r ∷ rs) differ (suc zero) lt =
    ap (λ b. cond b (bit ∷ []) (bits_from (bit + 1) rs r.one.0)) (or_right (nat_eq r.one.0 r.zero.0) (nat_eq r.one.0 r.one.0) (eq-eqb r.one.0 r.one.0 refl))
    ∙ ap (λ n. n ∷ []) (let e : bit ≡ bit + 1 / 2 = omega arith in e)
bits_from-at bit (r ∷ rs) differ (suc (suc place)) lt =
    let net : ℕ = get_or (rail_nets rs) place 0 in
    let later = pairs-tail (λ x y. x ≢ y) r.zero.0 (r.one.0 ∷ rail_nets rs) differ in
    let m : Member net (rail_nets rs) = Member-get_or (rail_nets rs) place 0 (let n = rails-length rs in omega arith) in
    (λ k. cond (ne_eqb net r.zero.0 (λ same. pairs-head (λ x y. x ≢ y) r.zero.0 (r.one.0 ∷ rail_nets rs) differ net (there m) (sym same)) k || ne_eqb net r.one.0 (λ same. pairs-head (λ x y. x ≢ y) r.one.0 (rail_nets rs) later net m (sym same)) k) (bit ∷ []) (bits_from (bit + 1) rs net))
    ∙ bits_from-at (bit + 1) rs (pairs-tail (λ x y. x ≢ y) r.one.0 (rail_nets rs) later) place (omega arith)
    ∙ ap (λ n. n ∷ []) (let e : bit + 1 + place / 2 ≡ bit + suc (suc place) / 2 = omega arith in e)

pub driver-none : (cells : List StageCell) (net : ℕ) → ((c : StageCell) → Member c cells → out_of c ≡ net → ⊥) → driver_of cells net ≡ None
driver-none [] net apart = refl
driver-none (c ∷ cells) net apart = ap (λ b. cond b (Some c) (driver_of cells net)) (ne_eqb net (out_of c) (λ same. apart c here (sym same))) ∙ driver-none cells net (λ d m. apart d (there m))

pub driver-some : (cells : List StageCell) → AllDiffer (map out_of cells) → (c : StageCell) → Member c cells → driver_of cells (out_of c) ≡ Some c
driver-some [] differ c m = elim m [ ]
driver-some (d ∷ cells) differ c m = elim (member_cases c d cells m) [
  | inl same ↦ ap (λ x. driver_of (d ∷ cells) (out_of x)) (sym same) ∙ ap (λ b. cond b (Some d) (driver_of cells (out_of d))) (eq-eqb (out_of d) (out_of d) refl) ∙ ap Some same
  | inr later ↦
      ap (λ b. cond b (Some d) (driver_of cells (out_of c))) (ne_eqb (out_of c) (out_of d) (λ same. pairs-head (λ x y. x ≢ y) (out_of d) (map out_of cells) differ (out_of c) (Member-map out_of c later) (sym same)))
      ∙ driver-some cells (pairs-tail (λ x y. x ≢ y) (out_of d) (map out_of cells) differ) c later
]

-- ---- what is met from a place

abbrev pub no_gate : StageCell
no_gate = gate 0 Th12 [] 0

module _ (s : StageData) (is : IsStage s) where
  own-rail : (place : ℕ) → place < 2 * length s.inputs → bits_from 0 s.inputs (net_at s place) ≡ place / 2 ∷ []
  own-rail place lt =
      let within : place < length (rail_nets s.inputs) = (let all = nets-length s in let parts = length-append (rail_nets s.inputs) (map out_of s.cells) in let outs = length-map s.cells out_of in omega arith) in
      ap (bits_from 0 s.inputs) (get_or_append_left (rail_nets s.inputs) (map out_of s.cells) 0 place within)
      ∙ bits_from-at 0 s.inputs (left-differ (rail_nets s.inputs) (map out_of s.cells) is.nets_differ) place lt
      ∙ ap (λ n. n ∷ []) (let e : 0 + place / 2 ≡ place / 2 = omega arith in e)

  driver-rail : (place : ℕ) → place < 2 * length s.inputs → driver_of s.cells (net_at s place) ≡ None
  driver-rail place lt = driver-none s.cells (net_at s place) (rail-no_output s is (net_at s place) (net_at-rail s place lt))

  own-cell : (i : ℕ) → i < length s.cells → bits_from 0 s.inputs (out_at s i) ≡ []
  own-cell i lt = bits_from-none 0 s.inputs (out_at s i) (λ m. rail-no_output s is (out_at s i) m (get_or s.cells i no_gate) (Member-get_or s.cells i no_gate lt) (sym (out_at-is s i no_gate lt)))

  driver-cell : (i : ℕ) → i < length s.cells → driver_of s.cells (out_at s i) ≡ Some (get_or s.cells i no_gate)
  driver-cell i lt =
      ap (driver_of s.cells) (out_at-is s i no_gate lt)
      ∙ driver-some s.cells (right-differ (rail_nets s.inputs) (map out_of s.cells) is.nets_differ) (get_or s.cells i no_gate) (Member-get_or s.cells i no_gate lt)

  met-rail : (cells place : ℕ) → place < 2 * length s.inputs → met s cells (net_at s place) ≡ place / 2 ∷ []
  met-rail zero place lt = own-rail place lt
  met-rail (suc cells) place lt =
      ap (λ o. bits_from 0 s.inputs (net_at s place) ++ flat_map (met s cells) (read_by o)) (driver-rail place lt)
      ∙ append-nil (bits_from 0 s.inputs (net_at s place))
      ∙ own-rail place lt

  met-cell : (cells i : ℕ) → i < length s.cells → met s (suc cells) (out_at s i) ≡ flat_map (met s cells) (map (λ (net : NetId). net.0) (get_or s.cells i no_gate).ins.items)
  met-cell cells i lt =
      ap (λ o. bits_from 0 s.inputs (out_at s i) ++ flat_map (met s cells) (read_by o)) (driver-cell i lt)
      ∙ ap (λ l. l ++ flat_map (met s cells) (map (λ (net : NetId). net.0) (get_or s.cells i no_gate).ins.items)) (own-cell i lt)

  -- what a cell reads stands at an earlier place
  pin-place : (i : ℕ) → i < length s.cells → (net : ℕ) → Member net (map (λ (x : NetId). x.0) (get_or s.cells i no_gate).ins.items) → (place_in (nets_of s.inputs s.cells) net < 2 * length s.inputs + i) × (net_at s (place_in (nets_of s.inputs s.cells) net) ≡ net)
  pin-place i lt net m =
      let front : List ℕ = nets_of s.inputs (take i s.cells) in
      let rest : List ℕ = map out_of (drop i s.cells) in
      let cut : nets_of s.inputs s.cells ≡ front ++ rest = nets-cut s i in
      let (pin, inside, at) = member_of_map (λ (x : NetId). x.0) (get_or s.cells i no_gate).ins.items net m in
      let among : Contains front net = subst (Contains front) at (All-contains (λ (x : NetId). Contains front x.0) (get_or s.cells i no_gate).ins.items pin (reads-before s is i no_gate lt) (Contains-from_Member pin inside)) in
      let found = place_in-front front rest (subst AllDiffer cut is.nets_differ) net among in
      let size : length front ≡ 2 * length s.inputs + i = (let many = nets-length s in ap length (sym (nets-before s i)) ∙ length-take-le (2 * length s.inputs + i) (nets_of s.inputs s.cells) (omega (arith, many))) in
      let before : place_in (front ++ rest) net < 2 * length s.inputs + i = subst (λ n. place_in (front ++ rest) net < n) size found.0 in (
        subst (λ nets. place_in nets net < 2 * length s.inputs + i) (sym cut) before,
        subst (λ nets. get_or nets (place_in nets net) 0 ≡ net) (sym cut) (get_or_append_left front rest 0 (place_in (front ++ rest) net) found.0 ∙ found.1),
      )

  -- one more cell on the way changes nothing where there are enough
  met-enough : (cells place : ℕ) → place < 2 * length s.inputs + cells → place < 2 * length s.inputs + length s.cells → met s cells (net_at s place) ≡ met s (suc cells) (net_at s place)
  met-enough zero place lt within = let rail : place < 2 * length s.inputs = omega arith in met-rail 0 place rail ∙ sym (met-rail 1 place rail)
  met-enough (suc cells) place lt within = elim (cases_lt place (2 * length s.inputs)) [
    | inl rail ↦ met-rail (suc cells) place rail ∙ sym (met-rail (suc (suc cells)) place rail)
    | inr past ↦
        let i : ℕ = place - 2 * length s.inputs in
        let at : place ≡ 2 * length s.inputs + i = omega arith in
        let inside : i < length s.cells = omega arith in
        let net : net_at s place ≡ out_at s i = ap (net_at s) at ∙ net_at-cell s i in
        let pins : List ℕ = map (λ (x : NetId). x.0) (get_or s.cells i no_gate).ins.items in
        ap (met s (suc cells)) net
        ∙ met-cell cells i inside
        ∙ flat_map_same (met s cells) (met s (suc cells)) pins (λ pin m.
        let earlier = pin-place i inside pin m in
        let before : place_in (nets_of s.inputs s.cells) pin < 2 * length s.inputs + i = earlier.0 in
        ap (met s cells) (sym earlier.1)
        ∙ met-enough cells (place_in (nets_of s.inputs s.cells) pin) (omega arith) (omega arith)
        ∙ ap (met s (suc cells)) earlier.1)
        ∙ sym (met-cell (suc cells) i inside)
        ∙ ap (met s (suc (suc cells))) (sym net)
  ]

  -- what is met from places, with the whole stage on the way
  pub are_met : AreMet (length s.inputs) (map (pin_places (nets_of s.inputs s.cells)) s.cells) (λ place. met s (length s.cells) (net_at s place))
  are_met = record {
    rail = λ place lt. met-rail (length s.cells) place lt;
    cell = λ i lt. by (length s.cells) refl i (omega (arith, length-map s.cells (pin_places (nets_of s.inputs s.cells))));
  }
    where
      by : (cells : ℕ) → cells ≡ length s.cells → (i : ℕ) → i < length s.cells → met s cells (net_at s (2 * length s.inputs + i)) ≡ flat_map (λ place. met s cells (net_at s place)) (get_or (map (pin_places (nets_of s.inputs s.cells)) s.cells) i [])
      by zero many i lt = absurd (omega arith)
      by (suc cells) many i lt =
          let pins : List ℕ = map (λ (x : NetId). x.0) (get_or s.cells i no_gate).ins.items in
          let nets : List ℕ = nets_of s.inputs s.cells in
          ap (met s (suc cells)) (net_at-cell s i)
          ∙ met-cell cells i lt
          ∙ flat_map_same (met s cells) (λ net. met s (suc cells) (net_at s (place_in nets net))) pins (λ pin m.
          let earlier = pin-place i lt pin m in
          let before : place_in nets pin < 2 * length s.inputs + i = earlier.0 in
          ap (met s cells) (sym earlier.1) ∙ met-enough cells (place_in nets pin) (omega arith) (omega arith))
          ∙ sym (flat_map_map (λ place. met s (suc cells) (net_at s place)) (place_in nets) pins)
          ∙ ap (flat_map (λ place. met s (suc cells) (net_at s place))) (map-map (place_in nets) (λ (x : NetId). x.0) (get_or s.cells i no_gate).ins.items)
          ∙ ap (flat_map (λ place. met s (suc cells) (net_at s place))) (sym (get_or-map (pin_places nets) s.cells i no_gate [] lt))

  -- the places of the rails of the outputs
  outputs-met : (f : ℕ → List ℕ) (outputs : List Rails) → All (λ net. Contains (nets_of s.inputs s.cells) net) (rail_nets outputs) → flat_map (λ (pair : ℕ × ℕ). f (net_at s pair.0) ++ f (net_at s pair.1)) (map (rail_places (nets_of s.inputs s.cells)) outputs) ≡ flat_map f (rail_nets outputs)
  outputs-met f [] known = refl
  outputs-met f (r ∷ rs) known =
      let P : ℕ → Type 0 = λ net. Contains (nets_of s.inputs s.cells) net in
      let z = (place_in-at (nets_of s.inputs s.cells) r.zero.0 (All-head P r.zero.0 (r.one.0 ∷ rail_nets rs) known)).1 0 in
      let later = All-tail P r.zero.0 (r.one.0 ∷ rail_nets rs) known in
      let o = (place_in-at (nets_of s.inputs s.cells) r.one.0 (All-head P r.one.0 (rail_nets rs) later)).1 0 in
      let rest = outputs-met f rs (All-tail P r.one.0 (rail_nets rs) later) in
      (λ k. (f (z k) ++ f (o k)) ++ rest k) ∙ append_assoc (f r.zero.0) (f r.one.0) (flat_map f (rail_nets rs))

  -- so the walk over places gives the bit order
  pub order-walked : with_bits [] (flat_map (λ (pair : ℕ × ℕ). met s (length s.cells) (net_at s pair.0) ++ met s (length s.cells) (net_at s pair.1)) (map (rail_places (nets_of s.inputs s.cells)) s.outputs) ++ range_with_len 0 (length s.inputs)) ≡ bit_order s
  order-walked = ap (λ l. with_bits [] (l ++ range_with_len 0 (length s.inputs))) (outputs-met (met s (length s.cells)) s.outputs is.outputs_known)

  -- and each cell reads earlier places
  pub read-earlier : ReadEarlier (length s.inputs) (map (pin_places (nets_of s.inputs s.cells)) s.cells)
  read-earlier = λ i lt.
      let many = length-map s.cells (pin_places (nets_of s.inputs s.cells)) in
      let within : i < length s.cells = omega arith in
      subst (All (λ pin. pin < 2 * length s.inputs + i)) (sym (get_or-map (pin_places (nets_of s.inputs s.cells)) s.cells i no_gate [] within))
      (All-from_members (λ pin. pin < 2 * length s.inputs + i) (pin_places (nets_of s.inputs s.cells) (get_or s.cells i no_gate)) (λ pin m.
      let (x, inside, at) = member_of_map (λ (net : NetId). place_in (nets_of s.inputs s.cells) net.0) (get_or s.cells i no_gate).ins.items pin m in
      subst (λ n. n < 2 * length s.inputs + i) at (pin-place i within x.0 (Member-map (λ (net : NetId). net.0) x inside)).0))
