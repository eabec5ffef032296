-- One pass over a table of nets gives it the values of a stage.
use Rattle.ncl_reaching.proofs.Terms.{Base, Bool, IsStage, List, Nets, Rails, StageCell, StageData, [], among, ap, arith, cases_eq, cond, drop, drop_more, eq-eqb, false, fun_ext, get_or, get_or-set_other, get_or-set_same, holds, inl, inr, length, map, named_rails, nat_eq, ne_eqb, none_low, pass, pass-val, rail_of, refl, replicate, rises, set, suc, sym, take, take_more, true, val, value_in, with_net, word_on, zero, ℕ, ◌&&◌, ◌++◌, ◌+◌, ◌<◌, ◌||◌, ◌∙◌, ◌∷◌, ◌≡◌}

-- a net that gets a value
value_in-set : (values : List Bool) (i : ℕ) (value : Bool) → i < length values → (net : ℕ) → value_in (set values i value) net ≡ with_net (value_in values) i value net
value_in-set values i value lt net = elim (cases_eq i net) [
  | inl e ↦
      ap (λ k. get_or (set values i value) k false) (sym e) ∙ get_or-set_same values i value false lt
      ∙ sym (ap (λ b. cond b value (value_in values net)) (eq-eqb i net e))
  | inr apart ↦ get_or-set_other values i net value false (λ e. apart (sym e)) ∙ sym (ap (λ b. cond b value (value_in values net)) (ne_eqb i net apart))
]

-- the turn of a bit, from the end
pub raised-turn : (old now : List Bool) (inputs : List Rails) (word : List Bool) (i : ℕ) (d : Rails) → i < length inputs → length word ≡ length inputs → (rail : ℕ) → rail ≡ rail_of (get_or inputs i d) (get_or word i false) → rail < length now
    → ((net : ℕ) → value_in now net ≡ (among (named_rails (drop (i + 1) inputs) (drop (i + 1) word)) net || value_in old net))
    → (net : ℕ) → value_in (set now rail true) net ≡ (among (named_rails (drop i inputs) (drop i word)) net || value_in old net)
raised-turn old now inputs word i d lt wide rail is within each net =
    value_in-set now rail true within net ∙ by (nat_eq rail net) (nat_eq net rail) (turned rail net)
    ∙ ap (λ r. (nat_eq net r || among (named_rails (drop (i + 1) inputs) (drop (i + 1) word)) net) || value_in old net) is
    ∙ sym (λ k. among (named_rails (drop_more inputs i d lt k) (drop_more word i false (let e : i < length word = omega (arith, lt, wide) in e) k)) net || value_in old net)
  where
    turned : (a b : ℕ) → nat_eq a b ≡ nat_eq b a
    turned a b = elim (cases_eq a b) [ inl e ↦ eq-eqb a b e ∙ sym (eq-eqb b a (sym e)) | inr apart ↦ ne_eqb a b apart ∙ sym (ne_eqb b a (λ e. apart (sym e))) ]

    by : (x y : Bool) → x ≡ y → cond x true (value_in now net) ≡ ((y || among (named_rails (drop (i + 1) inputs) (drop (i + 1) word)) net) || value_in old net)
    by true true e = refl
    by false false e = each net
    by true false e = absurd cc
    by false true e = absurd cc

pass-more : (low : Nets) (gates : List StageCell) (g : StageCell) (v : Nets) → pass low (gates ++ g ∷ []) v ≡ with_net (pass low gates v) g.out.0 (rises low (pass low gates v) g)
pass-more low [] g v = refl
pass-more low (x ∷ gates) g v = pass-more low gates g (with_net v x.out.0 (rises low v x))

-- the turn of a gate
pub evaluated-turn : (old now : List Bool) (gates : List StageCell) (i : ℕ) (g : StageCell) → i < length gates → g ≡ get_or gates i g → g.out.0 < length now → (high : Bool) → high ≡ holds (value_in now) g
    → ((net : ℕ) → value_in now net ≡ pass none_low (take i gates) (value_in old) net)
    → (net : ℕ) → value_in (set now g.out.0 high) net ≡ pass none_low (take (i + 1) gates) (value_in old) net
evaluated-turn old now gates i g lt at within high is each net =
    value_in-set now g.out.0 high within net
    ∙ ap (λ value. with_net (value_in now) g.out.0 value net) is
    ∙ ap (λ v. with_net v g.out.0 (holds v g) net) (fun_ext each)
    ∙ sym (ap (λ v. v net) (pass-more none_low (take i gates) g (value_in old)))
    ∙ ap (λ (x : StageCell). pass none_low (take i gates ++ x ∷ []) (value_in old) net) at
    ∙ sym (ap (λ xs. pass none_low xs (value_in old) net) (take_more gates i g lt))

-- a table where all is low
low-all : (n k : ℕ) → get_or (replicate n false) k false ≡ false
low-all zero k = refl
low-all (suc n) zero = refl
low-all (suc n) (suc k) = low-all n k

-- the whole
pub evaluated : (s : StageData) → IsStage s → (word : List Bool) (nets : ℕ) (low raised done : List Bool) → low ≡ replicate nets false
    → ((net : ℕ) → value_in raised net ≡ (among (named_rails s.inputs word) net || value_in low net))
    → ((net : ℕ) → value_in done net ≡ pass none_low s.cells (value_in raised) net)
    → (net : ℕ) → value_in done net ≡ val s word Base net
evaluated s is word nets low raised done none rails gates net =
    gates net
    ∙ ap (λ v. pass none_low s.cells v net) (fun_ext (λ x. rails x ∙ ap (λ b. among (named_rails s.inputs word) x || b) (ap (λ xs. get_or xs x false) none ∙ low-all nets x) ∙ alone (among (named_rails s.inputs word) x)))
    ∙ pass-val s is word Base net
  where
    alone : (b : Bool) → (b || false) ≡ (b && true)
    alone true = refl
    alone false = refl

pub read-is : (s : StageData) (word : List Bool) (done : List Bool) (rails : List Rails) → ((net : ℕ) → value_in done net ≡ val s word Base net) → map (λ (r : Rails). value_in done r.one.0) rails ≡ word_on s word rails
read-is s word done [] each = refl
read-is s word done (r ∷ rails) each = λ i. each r.one.0 i ∷ read-is s word done rails each i
