-- Tables over words in an order of their bits, as tables over places of that order; and that the bit order of a stage
-- is one.
use Rattle.ncl_stage.proofs.Terms.{Bool, IsOrderOf, List, Member, Member-append_cases, Rails, StageData, [], ap, arith, at, at_table, bit_order, bits_from, cond, driver_of, false, find, flat_map, inl, inr, least, least-table_of, least-zero_table_of, length, member_cases, member_of_flat_map, met, nat_eq, not, option_map, placed, rail_nets, read_by, refl, suc, sym, table_of, table_of-same, true, walk, words, words_by, zero, ℕ, ◌+◌, ◌<◌, ◌||◌, ◌∙◌, ◌∷◌, ◌≡◌}
use Rattle.ncl_stage.proofs.OrderLaws.{is_order, length-placed, table_by, find_by}

-- ---- each bit stands in the bit order once

bits_from-below : (bit : ℕ) (rails : List Rails) (net b : ℕ) → Member b (bits_from bit rails net) → b < bit + length rails
bits_from-below bit [] net b m = elim m [ ]
bits_from-below bit (r ∷ rs) net b m = by (nat_eq net r.zero.0 || nat_eq net r.one.0) m (bits_from-below (bit + 1) rs net b)
  where
    by : (test : Bool) → Member b (cond test (bit ∷ []) (bits_from (bit + 1) rs net)) → (Member b (bits_from (bit + 1) rs net) → b < bit + 1 + length rs) → b < bit + suc (length rs)
    by true m later = elim (member_cases b bit [] m) [ inl same ↦ omega arith | inr none ↦ elim none [ ] ]
    by false m later = let lt : b < bit + 1 + length rs = later m in omega arith

met-below : (s : StageData) (cells net b : ℕ) → Member b (met s cells net) → b < length s.inputs
met-below s zero net b m = let lt : b < 0 + length s.inputs = bits_from-below 0 s.inputs net b m in omega arith
met-below s (suc cells) net b m = elim (Member-append_cases b (bits_from 0 s.inputs net) (flat_map (met s cells) (read_by (driver_of s.cells net))) m) [
  | inl own ↦ let lt : b < 0 + length s.inputs = bits_from-below 0 s.inputs net b own in omega arith
  | inr later ↦ let (pin, n, there_met) = member_of_flat_map (met s cells) (read_by (driver_of s.cells net)) b later in met-below s cells pin b there_met
]

-- each bit stands in the bit order once
pub order-is : (s : StageData) → IsOrderOf (length s.inputs) (bit_order s)
order-is s = is_order (length s.inputs) (walk s) (λ b m. let (net, n, there_met) = member_of_flat_map (met s (length s.cells)) (rail_nets s.outputs) b m in met-below s (length s.cells) net b there_met)

-- ---- tables in an order of so many bits

module _ (n : ℕ) (order : List ℕ) (ordered : IsOrderOf n order) where
  pub placed-length : (w : List Bool) → length (placed order w) ≡ n
  placed-length w = length-placed order w ∙ ordered.many

  -- the table of a function over the words in the order is that of the function of a placed word
  pub ordered-table : (f : List Bool → Bool) → table_of (words_by order) f ≡ table_of (words n) (λ w. f (placed order w))
  ordered-table f = table_by order f ∙ ap (λ k. table_of (words k) (λ w. f (placed order w))) ordered.many

  pub ordered-same : (f g : List Bool → Bool) → ((w : List Bool) → length w ≡ n → f w ≡ g (placed order w)) → table_of (words n) f ≡ table_of (words_by order) g
  ordered-same f g same = table_of-same n f (λ w. g (placed order w)) same ∙ sym (ordered-table g)

  pub ordered-at : (f : List Bool → Bool) (w : List Bool) → length w ≡ n → at (table_of (words_by order) f) w ≡ f (placed order w)
  ordered-at f w long = ap (λ t. at t w) (ordered-table f) ∙ at_table n (λ v. f (placed order v)) w long

  -- the least word of a table by places, put back, is the first that passes in the order
  pub ordered-one : (f : List Bool → Bool) → option_map (placed order) (least true n (table_of (words_by order) f)) ≡ find f (words_by order)
  ordered-one f =
      ap (λ t. option_map (placed order) (least true n t)) (ordered-table f)
      ∙ ap (option_map (placed order)) (least-table_of n (λ w. f (placed order w)))
      ∙ sym (find_by order f ∙ ap (λ k. option_map (placed order) (find (λ w. f (placed order w)) (words k))) ordered.many)

  pub ordered-zero : (f : List Bool → Bool) → option_map (placed order) (least false n (table_of (words_by order) f)) ≡ find (λ w. not (f w)) (words_by order)
  ordered-zero f =
      ap (λ t. option_map (placed order) (least false n t)) (ordered-table f)
      ∙ ap (option_map (placed order)) (least-zero_table_of n (λ w. f (placed order w)))
      ∙ sym (find_by order (λ w. not (f w)) ∙ ap (λ k. option_map (placed order) (find (λ w. not (f (placed order w))) (words k))) ordered.many)

-- functions that agree at every word have one table
pub table-any : (ws : List (List Bool)) (f g : List Bool → Bool) → ((w : List Bool) → f w ≡ g w) → table_of ws f ≡ table_of ws g
table-any [] f g same = refl
table-any (w ∷ ws) f g same = let first = same w in let rest = table-any ws f g same in λ k. first k ∷ rest k
