-- Three banks that chain, and three that do not.
use Rattle.ncl_shape.proofs.Terms.{A, AllByRecursion, B, BreaksInner, Cell, ComesFrom, Contains, Follows, HasChain, IsBank, IsChain, IsFirstBank, IsInputOf, IsInputPort, IsPath, List, NetlistData, OnPin, RailOf, Some, SomeRegister, TwoEnds, [], arith, bank_test, cell_of_rail, cut, each_of_bank, each_passing, each_register, end, eq-eqb, filter, inl, inr, nat_eq, next, on_pin_each, rail, refl, slice_get, subst, three, ℕ, ◌∷◌, ◌≡◌}
use Rattle.ncl_shape.proofs.ChainLaws.{head_is_one, head_or_follows}
use Rattle.ncl_shape.proofs.WrittenCells.{cell_of, is_cell, of_bank}
use Rattle.ncl_shape.proofs.InnerRules.{one_more, none_before}

-- what holds of both inputs of a bank of one bit holds of each
each_input : (n : NetlistData) (bank : ℕ) (P : ℕ → Type 0) → AllByRecursion (λ (c : Cell). (net : ℕ) → OnPin c A net → P net) (filter (bank_test bank) n.cells) → (net : ℕ) → IsInputOf n bank net → P net
each_input n bank P all net (c, of_it, on) = each_of_bank n bank (λ (c : Cell). (net : ℕ) → OnPin c A net → P net) all c of_it net on

-- the banks of three
first_of_three : IsFirstBank three 7
first_of_three = record {
  is_bank = (cell_of three 0, of_bank three 0 7 refl refl refl);
  inputs = each_input three 7 (IsInputPort three)
      (on_pin_each (cell_of three 0) A 0 (IsInputPort three) refl (_, refl, refl), (on_pin_each (cell_of three 1) A 1 (IsInputPort three) refl (_, refl, refl), tt));
}

path_of_three : IsPath three (7 ∷ 10 ∷ 2 ∷ [])
path_of_three =
    next (8, (cell_of three 3, of_bank three 3 10 refl refl refl, refl), rail (cell_of three 0) (of_bank three 0 7 refl refl refl))
    (next (11, (cell_of three 6, of_bank three 6 2 refl refl refl, refl), rail (cell_of three 3) (of_bank three 3 10 refl refl refl)) end)

pub chain_of_three : IsChain three (7 ∷ 10 ∷ 2 ∷ [])
chain_of_three = record {
  first = λ bank at. subst (IsFirstBank three) (head_is_one (7 ∷ 10 ∷ 2 ∷ []) 7 bank refl at) first_of_three;
  path = path_of_three;
  every = λ bank (c, (in_c, register, on)). each_register three (λ (c : Cell). (net : ℕ) → OnPin c B net → Contains (7 ∷ 10 ∷ 2 ∷ []) net)
      (met 0 7 refl (0, omega arith, refl), (met 1 7 refl (0, omega arith, refl), (met 3 10 refl (1, omega arith, refl), (met 4 10 refl (1, omega arith, refl), (met 6 2 refl (2, omega arith, refl), (met 7 2 refl (2, omega arith, refl), tt))))))
      c in_c register bank on;
}
  where
    met : (k request : ℕ) → OnPin (cell_of three k) B request → Contains (7 ∷ 10 ∷ 2 ∷ []) request → (net : ℕ) → OnPin (cell_of three k) B net → Contains (7 ∷ 10 ∷ 2 ∷ []) net
    met k request on holds = on_pin_each (cell_of three k) B request (Contains (7 ∷ 10 ∷ 2 ∷ [])) on holds

-- in cut both bank 9 and bank 2 read input ports
first_of_cut : IsFirstBank cut 9
first_of_cut = record {
  is_bank = (cell_of cut 0, of_bank cut 0 9 refl refl refl);
  inputs = each_input cut 9 (IsInputPort cut)
      (on_pin_each (cell_of cut 0) A 0 (IsInputPort cut) refl (_, refl, refl), (on_pin_each (cell_of cut 1) A 1 (IsInputPort cut) refl (_, refl, refl), tt));
}

last_of_cut : IsFirstBank cut 2
last_of_cut = record {
  is_bank = (cell_of cut 6, of_bank cut 6 2 refl refl refl);
  inputs = each_input cut 2 (IsInputPort cut)
      (on_pin_each (cell_of cut 6) A 7 (IsInputPort cut) refl (_, refl, refl), (on_pin_each (cell_of cut 7) A 8 (IsInputPort cut) refl (_, refl, refl), tt));
}

-- a net that no cell drives comes from no bank's rails
not_from_rail : (net : ℕ) → AllByRecursion (λ (c : Cell). ⊥) (filter (λ (c : Cell). nat_eq c.out.0 net) cut.cells) → (bank : ℕ) → ComesFrom cut net (RailOf bank) → ⊥
not_from_rail net none bank from =
    let (c, in_c, out) = cell_of_rail cut net (RailOf bank) bank refl from in
    each_passing cut (λ (c : Cell). nat_eq c.out.0 net) (λ c. ⊥) none c in_c (eq-eqb c.out.0 net out)

abbrev IsNoRail : ℕ → Type 0
IsNoRail net = (bank : ℕ) → ComesFrom cut net (RailOf bank) → ⊥

-- so they follow no bank
first_follows_none : (bank : ℕ) → Follows cut bank 9 → ⊥
first_follows_none bank (net, is_input, from) =
    each_input cut 9 IsNoRail (on_pin_each (cell_of cut 0) A 0 IsNoRail refl (not_from_rail 0 tt), (on_pin_each (cell_of cut 1) A 1 IsNoRail refl (not_from_rail 1 tt), tt)) net is_input bank from

last_follows_none : (bank : ℕ) → Follows cut bank 2 → ⊥
last_follows_none bank (net, is_input, from) =
    each_input cut 2 IsNoRail (on_pin_each (cell_of cut 6) A 7 IsNoRail refl (not_from_rail 7 tt), (on_pin_each (cell_of cut 7) A 8 IsNoRail refl (not_from_rail 8 tt), tt)) net is_input bank from

-- a bank of cut that follows none is the head of each chain
is_head : (banks : List ℕ) → IsChain cut banks → (bank : ℕ) → IsBank cut bank → ((before : ℕ) → Follows cut before bank → ⊥) → slice_get banks 0 ≡ Some bank
is_head banks chain bank is_bank none =
    elim (head_or_follows cut banks chain.path bank (chain.every bank is_bank)) [
      | inl at ↦ at
      | inr (before, follows) ↦ absurd (none before follows)
    ]

pub no_chain_of_cut : HasChain cut → ⊥
no_chain_of_cut (banks, chain) =
    let same = head_is_one banks 9 2 (is_head banks chain 9 first_of_cut.is_bank first_follows_none) (is_head banks chain 2 last_of_cut.is_bank last_follows_none) in
    omega (arith, same)

pub cut_breaks : BreaksInner cut 2
cut_breaks = record {
  rule = TwoEnds;
  is = refl;
  broken = λ ends.
      let first = ends.first.only 9 first_of_cut in
      let last = ends.first.only 2 last_of_cut in
      omega (arith, first, last);
  before = one_more cut SomeRegister (cell_of cut 0, is_cell cut 0 refl, refl) (none_before cut);
}
