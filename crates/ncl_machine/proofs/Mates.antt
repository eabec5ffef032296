-- The other rail of a net, and what the change of a net makes of the count of outputs that have data.
use Rattle.ncl_machine.proofs.Terms.{AllPairs, Bool, List, Member, NetId, Nets, None, Option, Rails, Some, [], ap, arith, cases_eq, count_of, eq-eqb, false, get_or, get_or-set_other, get_or-set_same, has_data, here, if◌then◌else◌, inl, inr, is_covered_by, length, length-set, mate_in, mate_of, nat_eq, ne_eqb, net_values, not, option_or, pairs-head, pairs-tail, rail_nets, rails_within, refl, set, subst, sym, there, true, with_net, ℕ, ◌++◌, ◌+◌, ◌<◌, ◌||◌, ◌∙◌, ◌∷◌, ◌≡◌, ◌≢◌}
use Rattle.ncl_machine.proofs.AtWorkLaws.{with_net-elsewhere}
use Rattle.ncl_machine.proofs.Counts.{count-same}
use Rattle.ncl_machine.proofs.LocalNets.{with_net-here}
use Rattle.ncl_machine.proofs.NamedRails.{data-same}
use Rattle.ncl_machine.proofs.Numbers.{one_if}
use Rattle.ncl_machine.proofs.ValueLists.{net_values-set}

-- the net is rail 0 of the bit, or rail 1, or neither
pub data OwnRail (r : Rails) (net : ℕ) : Type 0 where
  is_zero : r.zero.0 ≡ net → mate_of r net ≡ Some r.one → OwnRail r net
  is_one : r.zero.0 ≢ net → r.one.0 ≡ net → mate_of r net ≡ Some r.zero → OwnRail r net
  is_neither : r.zero.0 ≢ net → r.one.0 ≢ net → mate_of r net ≡ None → OwnRail r net

pub own_rail : (r : Rails) (net : ℕ) → OwnRail r net
own_rail r net = elim (cases_eq r.zero.0 net) [
  | inl e ↦ is_zero e (ap (λ b. if b then Some r.one else (if nat_eq r.one.0 net then Some r.zero else None)) (eq-eqb r.zero.0 net e))
  | inr apart ↦
      let past : mate_of r net ≡ (if nat_eq r.one.0 net then Some r.zero else None) =
      ap (λ b. if b then Some r.one else (if nat_eq r.one.0 net then Some r.zero else None)) (ne_eqb r.zero.0 net apart) in
      elim (cases_eq r.one.0 net) [
        | inl e ↦ is_one apart e (past ∙ ap (λ b. if b then Some r.zero else None) (eq-eqb r.one.0 net e))
        | inr other ↦ is_neither apart other (past ∙ ap (λ b. if b then Some r.zero else None) (ne_eqb r.one.0 net other))
      ]
]

option_or-none : (o : Option NetId) → option_or o None ≡ o
option_or-none None = refl
option_or-none (Some x) = refl

option_or-assoc : (a b c : Option NetId) → option_or (option_or a b) c ≡ option_or a (option_or b c)
option_or-assoc None b c = refl
option_or-assoc (Some x) b c = refl

-- of a net that is no rail there is no mate
pub mate_in-apart : (bits : List Rails) (net : ℕ) → (Member net (rail_nets bits) → ⊥) → mate_in bits net ≡ None
mate_in-apart [] net none = refl
mate_in-apart (r ∷ bits) net none =
    let rest = mate_in-apart bits net (λ m. none (there (there m))) in
    elim (own_rail r net) [
      | is_zero e own ↦ absurd (none (subst (λ x. Member x (r.zero.0 ∷ r.one.0 ∷ rail_nets bits)) e here))
      | is_one apart e own ↦ absurd (none (subst (λ x. Member x (r.zero.0 ∷ r.one.0 ∷ rail_nets bits)) e (there here)))
      | is_neither apart other own ↦ ap (λ o. option_or o (mate_of r net)) rest ∙ own
    ]

-- and the mate is a rail
pub mate_in-within : (bits : List Rails) (net : ℕ) (mate : NetId) → mate_in bits net ≡ Some mate → Member mate.0 (rail_nets bits)
mate_in-within [] net mate is = absurd cc
mate_in-within (r ∷ bits) net mate is = by_rest (mate_in bits net) refl (mate_in-within bits net mate)
  where
    by_own : mate_of r net ≡ Some mate → Member mate.0 (rail_nets (r ∷ bits))
    by_own own = elim (own_rail r net) [
      | is_zero e mine ↦ let same : r.one ≡ mate = cc in subst (λ (x : NetId). Member x.0 (rail_nets (r ∷ bits))) same (there here)
      | is_one apart e mine ↦ let same : r.zero ≡ mate = cc in subst (λ (x : NetId). Member x.0 (rail_nets (r ∷ bits))) same here
      | is_neither apart other none ↦ absurd cc
    ]

    by_rest : (o : Option NetId) → mate_in bits net ≡ o → (mate_in bits net ≡ Some mate → Member mate.0 (rail_nets bits)) → Member mate.0 (rail_nets (r ∷ bits))
    by_rest None at within = by_own (ap (λ o. option_or o (mate_of r net)) (sym at) ∙ is)
    by_rest (Some other) at within =
        let same : Some other ≡ Some mate = ap (λ o. option_or o (mate_of r net)) (sym at) ∙ is in
        there (there (within (at ∙ same)))

-- one bit more at the end
pub mate_in-push : (bits : List Rails) (r : Rails) (net : ℕ) → mate_in (bits ++ r ∷ []) net ≡ option_or (mate_of r net) (mate_in bits net)
mate_in-push [] r net = sym (option_or-none (mate_of r net))
mate_in-push (x ∷ bits) r net = ap (λ o. option_or o (mate_of x net)) (mate_in-push bits r net) ∙ option_or-assoc (mate_of r net) (mate_in bits net) (mate_of x net)

-- a table of mates in which the rails of one bit are written
pub mates-put : (mates : List (Option NetId)) (r : Rails) (net : ℕ) → r.zero.0 < length mates → r.one.0 < length mates
    → get_or (set (set mates r.one.0 (Some r.zero)) r.zero.0 (Some r.one)) net None ≡ option_or (mate_of r net) (get_or mates net None)
mates-put mates r net zero_in one_in = elim (own_rail r net) [
  | is_zero e own ↦
      subst (λ x. get_or (set once r.zero.0 (Some r.one)) x None ≡ Some r.one) e (get_or-set_same once r.zero.0 (Some r.one) None inside)
      ∙ sym (ap (λ o. option_or o (get_or mates net None)) own)
  | is_one apart e own ↦
      get_or-set_other once r.zero.0 net (Some r.one) None (λ q. apart (sym q))
      ∙ subst (λ x. get_or once x None ≡ Some r.zero) e (get_or-set_same mates r.one.0 (Some r.zero) None one_in)
      ∙ sym (ap (λ o. option_or o (get_or mates net None)) own)
  | is_neither apart other own ↦
      get_or-set_other once r.zero.0 net (Some r.one) None (λ q. apart (sym q))
      ∙ get_or-set_other mates r.one.0 net (Some r.zero) None (λ q. other (sym q))
      ∙ sym (ap (λ o. option_or o (get_or mates net None)) own)
]
  where
    once : List (Option NetId)
    once = set mates r.one.0 (Some r.zero)

    inside : r.zero.0 < length (set mates r.one.0 (Some r.zero))
    inside = let same = length-set mates r.one.0 (Some r.zero) in omega (arith, zero_in, same)

-- ---- the count of outputs that have data

-- what the change of a net to a value adds or takes away, where its bit isn't covered without it
abbrev pub gain : Bool → Bool → ℕ
gain covered value = if covered then 0 else one_if value

turned-zero : (b t : Bool) (m n : ℕ) → m ≡ n → gain t (not b) + (one_if (b || t) + m) ≡ gain t b + (one_if (not b || t) + n)
turned-zero true true m n same = omega (arith, same)
turned-zero true false m n same = omega (arith, same)
turned-zero false true m n same = omega (arith, same)
turned-zero false false m n same = omega (arith, same)

turned-one : (b t : Bool) (m n : ℕ) → m ≡ n → gain t (not b) + (one_if (t || b) + m) ≡ gain t b + (one_if (t || not b) + n)
turned-one true true m n same = omega (arith, same)
turned-one true false m n same = omega (arith, same)
turned-one false true m n same = omega (arith, same)
turned-one false false m n same = omega (arith, same)

abbrev CountTurns : Nets → ℕ → Bool → Rails → List Rails → Option NetId → Type 0
CountTurns v net value r bits mate =
    gain (is_covered_by v mate) (not value) + (one_if (has_data (with_net v net value) r) + count_of (has_data (with_net v net value)) bits)
    ≡ gain (is_covered_by v mate) value + (one_if (has_data v r) + count_of (has_data v) bits)

-- a net that turns to a value: the count changes by one where its mate is low, and else not
pub count-turned : (v : Nets) (net : ℕ) (value : Bool) → v net ≡ not value → (bits : List Rails) → AllPairs (λ x y. x ≢ y) (rail_nets bits)
    → gain (is_covered_by v (mate_in bits net)) (not value) + count_of (has_data (with_net v net value)) bits
    ≡ gain (is_covered_by v (mate_in bits net)) value + count_of (has_data v) bits
count-turned v net value turns [] differ = refl
count-turned v net value turns (r ∷ bits) differ = by_rail (own_rail r net) (count-turned v net value turns bits (pairs-tail (λ x y. x ≢ y) r.one.0 (rail_nets bits) rest_differ))
  where
    apart_zero : (x : ℕ) → Member x (r.one.0 ∷ rail_nets bits) → r.zero.0 ≢ x
    apart_zero = pairs-head (λ x y. x ≢ y) r.zero.0 (r.one.0 ∷ rail_nets bits) differ

    rest_differ : AllPairs (λ x y. x ≢ y) (r.one.0 ∷ rail_nets bits)
    rest_differ = pairs-tail (λ x y. x ≢ y) r.zero.0 (r.one.0 ∷ rail_nets bits) differ

    -- where the net is no rail of the other bits, they are as they were
    others : (Member net (rail_nets bits) → ⊥) → count_of (has_data (with_net v net value)) bits ≡ count_of (has_data v) bits
    others none =
        count-same (has_data v) (has_data (with_net v net value)) bits (λ x m.
        let (zero_in, one_in) = rails_within x m in
        data-same v (with_net v net value) x
        (with_net-elsewhere v net x.zero.0 value (λ e. none (subst (λ y. Member y (rail_nets bits)) (sym e) zero_in)))
        (with_net-elsewhere v net x.one.0 value (λ e. none (subst (λ y. Member y (rail_nets bits)) (sym e) one_in))))

    by_rail : OwnRail r net → gain (is_covered_by v (mate_in bits net)) (not value) + count_of (has_data (with_net v net value)) bits
        ≡ gain (is_covered_by v (mate_in bits net)) value + count_of (has_data v) bits → CountTurns v net value r bits (mate_in (r ∷ bits) net)
    by_rail (is_zero e own) rest =
        let none : Member net (rail_nets bits) → ⊥ = λ m. apart_zero net (there m) e in
        let mate : mate_in (r ∷ bits) net ≡ Some r.one = ap (λ o. option_or o (mate_of r net)) (mate_in-apart bits net none) ∙ own in
        let now_zero : with_net v net value r.zero.0 ≡ value = subst (λ x. with_net v net value x ≡ value) (sym e) (with_net-here v net value) in
        let now_one : with_net v net value r.one.0 ≡ v r.one.0 = with_net-elsewhere v net r.one.0 value (λ q. apart_zero r.one.0 here (e ∙ q)) in
        let now : has_data (with_net v net value) r ≡ (value || v r.one.0) = ap (λ x. x || with_net v net value r.one.0) now_zero ∙ ap (λ y. value || y) now_one in
        let before : has_data v r ≡ (not value || v r.one.0) = ap (λ x. x || v r.one.0) (subst (λ x. v x ≡ not value) (sym e) turns) in
        subst (CountTurns v net value r bits) (sym mate)
        (ap (λ b. gain (v r.one.0) (not value) + (one_if b + count_of (has_data (with_net v net value)) bits)) now
        ∙ turned-zero value (v r.one.0) _ _ (others none)
        ∙ sym (ap (λ b. gain (v r.one.0) value + (one_if b + count_of (has_data v) bits)) before))
    by_rail (is_one apart e own) rest =
        let none : Member net (rail_nets bits) → ⊥ = λ m. pairs-head (λ x y. x ≢ y) r.one.0 (rail_nets bits) rest_differ net m e in
        let mate : mate_in (r ∷ bits) net ≡ Some r.zero = ap (λ o. option_or o (mate_of r net)) (mate_in-apart bits net none) ∙ own in
        let now_one : with_net v net value r.one.0 ≡ value = subst (λ x. with_net v net value x ≡ value) (sym e) (with_net-here v net value) in
        let now_zero : with_net v net value r.zero.0 ≡ v r.zero.0 = with_net-elsewhere v net r.zero.0 value (λ q. apart (sym q)) in
        let now : has_data (with_net v net value) r ≡ (v r.zero.0 || value) = ap (λ x. x || with_net v net value r.one.0) now_zero ∙ ap (λ y. v r.zero.0 || y) now_one in
        let before : has_data v r ≡ (v r.zero.0 || not value) = ap (λ y. v r.zero.0 || y) (subst (λ x. v x ≡ not value) (sym e) turns) in
        subst (CountTurns v net value r bits) (sym mate)
        (ap (λ b. gain (v r.zero.0) (not value) + (one_if b + count_of (has_data (with_net v net value)) bits)) now
        ∙ turned-one value (v r.zero.0) _ _ (others none)
        ∙ sym (ap (λ b. gain (v r.zero.0) value + (one_if b + count_of (has_data v) bits)) before))
    by_rail (is_neither apart other own) rest =
        let mate : mate_in (r ∷ bits) net ≡ mate_in bits net = ap (λ o. option_or (mate_in bits net) o) own ∙ option_or-none (mate_in bits net) in
        let same : has_data (with_net v net value) r ≡ has_data v r =
        data-same v (with_net v net value) r (with_net-elsewhere v net r.zero.0 value (λ e. apart (sym e))) (with_net-elsewhere v net r.one.0 value (λ e. other (sym e))) in
        let first = ap one_if same in
        subst (CountTurns v net value r bits) (sym mate) (omega (arith, rest, first))

-- in a list of values
module _ (values : List Bool) (net : ℕ) (value : Bool) (within : net < length values) (turns : net_values values net ≡ not value)
    (bits : List Rails) (differ : AllPairs (λ x y. x ≢ y) (rail_nets bits)) where
  abbrev now : ℕ
  now = count_of (has_data (net_values (set values net value))) bits

  abbrev before : ℕ
  before = count_of (has_data (net_values values)) bits

  turned : (covered : Bool) → is_covered_by (net_values values) (mate_in bits net) ≡ covered → gain covered (not value) + now ≡ gain covered value + before
  turned covered is =
      let put_now : count_of (has_data (net_values (set values net value))) bits ≡ count_of (has_data (with_net (net_values values) net value)) bits =
      ap (λ v. count_of (has_data v) bits) (net_values-set values net value within) in
      subst (λ t. gain t (not value) + now ≡ gain t value + before) is
      (ap (λ n. gain (is_covered_by (net_values values) (mate_in bits net)) (not value) + n) put_now ∙ count-turned (net_values values) net value turns bits differ)

  -- where the bit is covered without the net, or there is no such bit, the count stays
  pub count-stays : is_covered_by (net_values values) (mate_in bits net) ≡ true → before ≡ now
  count-stays is = let e = turned true is in omega (arith, e)

  -- else one that rises adds one, and one that falls takes one away
  pub count-more : is_covered_by (net_values values) (mate_in bits net) ≡ false → value ≡ true → before + 1 ≡ now
  count-more is high =
      let e = subst (λ b. gain false (not b) + now ≡ gain false b + before) high (turned false is) in omega (arith, e)

  pub count-less : is_covered_by (net_values values) (mate_in bits net) ≡ false → value ≡ false → before ≡ now + 1
  count-less is low =
      let e = subst (λ b. gain false (not b) + now ≡ gain false b + before) low (turned false is) in omega (arith, e)
