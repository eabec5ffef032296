-- The laws of chains of banks: a netlist has one.
use Rattle.ncl_shape.proofs.Terms.{A, Cell, ComesFrom, Contains, Follows, HasEnds, HaveSameOrigins, IsBank, IsChain, IsFirstBank, IsFree, IsNetlist, IsOfBank, IsPath, List, NetlistData, OnPin, RailOf, Some, ap, arith, end, first_of_bank, inl, inr, next, pin_of_register, place_of, port_origin, refl, same_from_places, slice_get, slice_get-from_Contains, subst, suc, sym, zero, ℕ, ◌∙◌, ◌∷◌, ◌≡◌, ◌⊎◌}

-- a list has one head
pub head_is_one : (banks : List ℕ) (x y : ℕ) → slice_get banks 0 ≡ Some x → slice_get banks 0 ≡ Some y → x ≡ y
head_is_one banks x y at_x at_y = let same : Some x ≡ Some y = sym at_x ∙ at_y in cc

-- each bank of a path after the head follows the one before
pub follows_at : (n : NetlistData) (banks : List ℕ) → IsPath n banks → (k bank : ℕ) → slice_get banks (suc k) ≡ Some bank → (before : ℕ) × (slice_get banks k ≡ Some before) × Follows n before bank
follows_at n banks (end {bank = first}) k bank at = absurd cc
follows_at n banks (next {bank = first} {following = second} {banks = others} follows path) zero bank at =
    let same : second ≡ bank = cc in (first, refl, subst (Follows n first) same follows)
follows_at n banks (next {bank = first} {following = second} {banks = others} follows path) (suc k) bank at = follows_at n (second ∷ others) path k bank at

-- a bank of a path is its head, or follows some bank
pub head_or_follows : (n : NetlistData) (banks : List ℕ) → IsPath n banks → (bank : ℕ) → Contains banks bank → (slice_get banks 0 ≡ Some bank) ⊎ ((before : ℕ) × Follows n before bank)
head_or_follows n banks path bank met = let (k, at) = slice_get-from_Contains banks bank met in by_place k at
  where
    by_place : (k : ℕ) → slice_get banks k ≡ Some bank → (slice_get banks 0 ≡ Some bank) ⊎ ((before : ℕ) × Follows n before bank)
    by_place zero at = inl at
    by_place (suc k) at = let (before, at_before, follows) = follows_at n banks path k bank at in inr (before, follows)

-- each member of a chain is a bank
pub banks_of_chain : (n : NetlistData) (banks : List ℕ) → IsChain n banks → (k bank : ℕ) → slice_get banks k ≡ Some bank → IsBank n bank
banks_of_chain n banks chain zero bank at = (chain.first bank at).is_bank
banks_of_chain n banks chain (suc k) bank at =
    let (before, at_before, (net, (c, of_bank, on), from)) = follows_at n banks chain.path k bank at in (c, of_bank)

-- a path has a head
pub head_of_path : (n : NetlistData) (banks : List ℕ) → IsPath n banks → (bank : ℕ) × (slice_get banks 0 ≡ Some bank)
head_of_path n banks (end {bank = first}) = (first, refl)
head_of_path n banks (next {bank = first} follows path) = (first, refl)

module _ (n : NetlistData) (is : IsNetlist n) (free : IsFree n) where
  -- the A nets of a bank have one set of origins
  pub same_rails : (bank : ℕ) (c d : Cell) → IsOfBank n bank c → IsOfBank n bank d → (x y : ℕ) → OnPin c A x → OnPin d A y → (before : ℕ) → ComesFrom n x (RailOf before) → ComesFrom n y (RailOf before)
  same_rails bank c d of_c of_d x y on_x on_y before from =
      let (first, is_first) = first_of_bank n bank c of_c in
      let (net, on) = pin_of_register n is first is_first.of_bank.0 is_first.of_bank.1 A (omega arith) in
      let (i, at_c) = place_of n c of_c.0 in
      let (j, at_d) = place_of n d of_d.0 in
      let to_first : HaveSameOrigins n x net = ((free.unmixed i c at_c).register of_c.1).bank bank x net first of_c.2 is_first on_x on in
      let from_first : HaveSameOrigins n y net = ((free.unmixed j d at_d).register of_d.1).bank bank y net first of_d.2 is_first on_y on in
      from_first.from (RailOf before) (to_first.to (RailOf before) from)

  -- so a bank follows at most one bank
  pub one_before : (bank u w : ℕ) → Follows n u bank → Follows n w bank → u ≡ w
  one_before bank u w (x, (c, of_c, on_x), from_u) (y, (d, of_d, on_y), from_w) =
      let (k, at) = place_of n d of_d.0 in
      let also_u : ComesFrom n y (RailOf u) = same_rails bank c d of_c of_d x y on_x on_y u from_u in
      elim (((free.unmixed k d at).register of_d.1).rail y on_y) [
        | inl input ↦ let is_port = port_origin n is y (RailOf u) input also_u in absurd cc
        | inr (request, only) ↦
            let of_u = only.only (RailOf u) also_u in
            let of_w = only.only (RailOf w) from_w in
            cc
      ]

  -- and a bank that reads input ports alone follows none
  pub first_follows_none : (first before : ℕ) → IsFirstBank n first → Follows n before first → ⊥
  first_follows_none first before is_first (net, is_input, from) =
      let is_port = port_origin n is net (RailOf before) (is_first.inputs net is_input) from in absurd cc

  -- so a chain has each bank at one place
  pub place_in_chain : (banks : List ℕ) → IsChain n banks → (i j bank : ℕ) → slice_get banks i ≡ Some bank → slice_get banks j ≡ Some bank → i ≡ j
  place_in_chain banks chain zero zero bank at_i at_j = refl
  place_in_chain banks chain zero (suc j) bank at_i at_j =
      let (before, at, follows) = follows_at n banks chain.path j bank at_j in absurd (first_follows_none bank before (chain.first bank at_i) follows)
  place_in_chain banks chain (suc i) zero bank at_i at_j =
      let (before, at, follows) = follows_at n banks chain.path i bank at_i in absurd (first_follows_none bank before (chain.first bank at_j) follows)
  place_in_chain banks chain (suc i) (suc j) bank at_i at_j =
      let (u, at_u, follows_u) = follows_at n banks chain.path i bank at_i in
      let (w, at_w, follows_w) = follows_at n banks chain.path j bank at_j in
      let same : w ≡ u = one_before bank w u follows_w follows_u in
      ap suc (place_in_chain banks chain i j u at_u (subst (λ x. slice_get banks j ≡ Some x) same at_w))

  -- and one chain has what stands at each place of another
  at_same_place : HasEnds n → (xs ys : List ℕ) → IsChain n xs → IsChain n ys → (k bank : ℕ) → slice_get xs k ≡ Some bank → slice_get ys k ≡ Some bank
  at_same_place ends xs ys chain_x chain_y zero bank at =
      let (head, at_head) = head_of_path n ys chain_y.path in
      let x = ends.first.only bank (chain_x.first bank at) in
      let y = ends.first.only head (chain_y.first head at_head) in
      at_head ∙ ap Some (y ∙ sym x)
  at_same_place ends xs ys chain_x chain_y (suc k) bank at =
      let (u, at_u, follows_u) = follows_at n xs chain_x.path k bank at in
      let before : slice_get ys k ≡ Some u = at_same_place ends xs ys chain_x chain_y k u at_u in
      let (j, at_j) = slice_get-from_Contains ys bank (chain_y.every bank (banks_of_chain n xs chain_x (suc k) bank at)) in
      by_place u follows_u before j at_j
    where
      by_place : (u : ℕ) → Follows n u bank → slice_get ys k ≡ Some u → (j : ℕ) → slice_get ys j ≡ Some bank → slice_get ys (suc k) ≡ Some bank
      by_place u follows_u before zero at_j = absurd (first_follows_none bank u (chain_y.first bank at_j) follows_u)
      by_place u follows_u before (suc j) at_j =
          let (w, at_w, follows_w) = follows_at n ys chain_y.path j bank at_j in
          let same : w ≡ u = one_before bank w u follows_w follows_u in
          let places : j ≡ k = place_in_chain ys chain_y j k u (subst (λ x. slice_get ys j ≡ Some x) same at_w) before in
          subst (λ i. slice_get ys (suc i) ≡ Some bank) places at_j

  -- a netlist has one chain
  pub chain_is_one : HasEnds n → (xs ys : List ℕ) → IsChain n xs → IsChain n ys → xs ≡ ys
  chain_is_one ends xs ys chain_x chain_y = same_from_places xs ys (at_same_place ends xs ys chain_x chain_y) (at_same_place ends ys xs chain_y chain_x)
