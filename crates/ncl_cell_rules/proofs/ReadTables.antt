-- Tables of what reads a net, one pin more at a time, and one cell.
use Rattle.ncl_cell_rules.proofs.Terms.{Bool, Cell, List, NetId, ap, arith, cases_eq, eq-eqb, false, get_or, get_or-set_other, get_or-set_same, inl, inr, length, list_any, list_any_more, ne_eqb, or-false, or_right, refl, set, sym, take, true, ℕ, ◌+◌, ◌<◌, ◌||◌, ◌∙◌, ◌≡◌}
use Rattle.std.proofs.Common.{nat_eq}
use Rattle.ncl_cell_rules.proofs.CellTables.{Entry}

-- a pin has the net
abbrev pub has_pin : ℕ → NetId → Bool
has_pin net pin = nat_eq pin.0 net

or-assoc : (a b c : Bool) → (a || (b || c)) ≡ ((a || b) || c)
or-assoc true b c = refl
or-assoc false b c = refl

-- one net is marked
pub marked_one : (flags : List Bool) (pin net : ℕ) → net < length flags → get_or (set flags pin true) net false ≡ (get_or flags net false || nat_eq pin net)
marked_one flags pin net within =
    elim (cases_eq net pin) [
      | inl same ↦
          ap (λ x. get_or (set flags pin true) x false) same
          ∙ get_or-set_same flags pin true false (omega (arith, same, within))
          ∙ sym (or_right (get_or flags net false) _ (eq-eqb pin net (sym same)))
      | inr other ↦
          get_or-set_other flags pin net true false other
          ∙ sym (ap (λ b. get_or flags net false || b) (ne_eqb pin net (λ e. other (sym e))) ∙ or-false (get_or flags net false))
    ]

-- one pin more is marked
pub marked_more : (flags : List Bool) (was : Bool) (pins : List NetId) (i : ℕ) (d : NetId) (net : ℕ) → i < length pins → net < length flags
    → get_or flags net false ≡ (was || list_any (has_pin net) (take i pins))
    → get_or (set flags (get_or pins i d).0 true) net false ≡ (was || list_any (has_pin net) (take (i + 1) pins))
marked_more flags was pins i d net lt within so_far =
    marked_one flags (get_or pins i d).0 net within
    ∙ ap (λ b. b || nat_eq (get_or pins i d).0 net) so_far
    ∙ sym (ap (λ b. was || b) (list_any_more (has_pin net) pins i d lt) ∙ or-assoc was (list_any (has_pin net) (take i pins)) (nat_eq (get_or pins i d).0 net))

-- whether a test holds of one of the cells
abbrev pub any_passes : (ℕ → Cell → Bool) → Entry Bool
any_passes test = record {
  none = false;
  of = λ net. list_any (test net);
  add = λ net flag c. flag || test net c;
  of_none = λ net. refl;
  of_more = λ net cells k c lt. list_any_more (test net) cells k c lt;
}
