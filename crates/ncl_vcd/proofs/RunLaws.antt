-- What the changes of a run come to: the values of its states, and that times never fall.
use Rattle.ncl_vcd.proofs.Terms.{AllByRecursion, Bool, DelaysData, Fired, IsNext, IsRunFrom, Item, List, PipelineData, Some, State, [], after, ap, append_assoc, arith, cases_eq, cases_lt, change_by, changes_of, cond, due-looked, due_after, enabled, enabled-net, eq-eqb, eqb, false, fresh_or_old, get_or, get_or-map, get_or-range_with_len, inl, inr, item_number, items_in, last_time, last_time-more, length, length-map, length-range_with_len, nat_eq, nat_le, nat_lt, ne_eqb, net_of_step, not-after, range_with_len, refl, state_after, step, step-value, subst, sym, true, until_time, values_in, with_net-elsewhere, ℕ, ◌++◌, ◌+◌, ◌<◌, ◌^◌, ◌∙◌, ◌∷◌, ◌≡◌, ◌≢◌, ◌≤◌}
use Rattle.ncl_vcd.proofs.Changes.{Rise, value_at}
use Rattle.ncl_vcd.proofs.LevelLaws.{value_at-later}

-- ---- times

-- the times of steps never fall, from a time on
abbrev pub NeverFall : ℕ → List Fired → Type 0
NeverFall last [] = Unit {0}
NeverFall last (f ∷ steps) = (last ≤ f.time) × NeverFall f.time steps

-- they fit in 64 bits
abbrev pub AreSmall : List Fired → Type 0
AreSmall steps = AllByRecursion (λ (f : Fired). f.time < 2 ^ 64) steps

-- nothing is due before the last step, at any delays
abbrev NotBefore : PipelineData → DelaysData → List (List Bool) → List Fired → Type 0
NotBefore p d offered steps = (item : Item) (due : ℕ) → due_after p d offered steps item ≡ Some due → last_time 0 steps ≤ due

not_before-more : (p : PipelineData) (d : DelaysData) (offered : List (List Bool)) (steps : List Fired) (f : Fired) → NotBefore p d offered steps → IsNext p d offered steps f → NotBefore p d offered (steps ++ f ∷ [])
not_before-more p d offered steps f is next item due is_due =
    let last : last_time 0 (steps ++ f ∷ []) ≡ f.time = last_time-more 0 steps f in
    elim (fresh_or_old p d (step p (state_after p offered steps) f.item) item f.time due (eqb (item_number p f.item) (item_number p item)) (due_after p d offered steps item) (sym (due-looked p d offered steps f item) ∙ is_due)) [
      | inl fresh ↦ omega (arith, last, fresh)
      | inr old ↦ let first : f.time ≤ due = not-after p f due item (next.first item due old) in omega (arith, last, first)
    ]

times-rest : (p : PipelineData) (d : DelaysData) (offered : List (List Bool)) (before steps : List Fired) → NotBefore p d offered before → ((front rest : List Fired) (f : Fired) → before ++ steps ≡ front ++ f ∷ rest → IsNext p d offered front f) → NeverFall (last_time 0 before) steps
times-rest p d offered before [] is next = tt
times-rest p d offered before (f ∷ steps) is next =
    let here = next before steps f refl in
    let split : (before ++ f ∷ []) ++ steps ≡ before ++ f ∷ steps = append_assoc before (f ∷ []) steps in
    let last : last_time 0 (before ++ f ∷ []) ≡ f.time = last_time-more 0 before f in
    (is f.item f.time here.due, subst (λ t. NeverFall t steps) last (times-rest p d offered (before ++ f ∷ []) steps (not_before-more p d offered before f is here) (λ front rest g e. next front rest g (sym split ∙ e))))

-- where each of the first steps of a list is next, times never fall
pub never_fall : (p : PipelineData) (d : DelaysData) (offered : List (List Bool)) (all steps rest : List Fired) → all ≡ steps ++ rest → ((front behind : List Fired) (f : Fired) → all ≡ front ++ f ∷ behind → IsNext p d offered front f) → NeverFall 0 steps
never_fall p d offered all steps rest is next =
    times-rest p d offered [] steps (λ item due e. omega arith) (λ front behind f e. next front (behind ++ rest) f (is ∙ ap (λ l. l ++ rest) e ∙ append_assoc front (f ∷ behind) rest))

-- ---- values

-- a step changes one net
step_one : (p : PipelineData) (s : State) (item : Item) → enabled p s item ≡ true → (net : ℕ) × (net_of_step p s item ≡ Some net) × ((other : ℕ) → net ≢ other → (step p s item).value other ≡ s.value other)
step_one p s item on =
    let (net, at) = enabled-net p s item on in
    let (value, is) = step-value p s item net at in
    (net, at, λ other apart. ap (λ v. v other) is ∙ with_net-elsewhere s.value net other value apart)

-- the changes of a run rise
pub changes-rise : (p : PipelineData) (last : ℕ) (s : State) (steps : List Fired) → IsRunFrom p s (items_in steps) → NeverFall last steps → AreSmall steps → Rise last (changes_of p s steps)
changes-rise p last s [] run up small = tt
changes-rise p last s (f ∷ steps) run up small =
    let (net, at, others) = step_one p s f.item run.0 in
    subst (λ o. Rise last (change_by f (step p s f.item) o ++ changes_of p (step p s f.item) steps)) (sym at)
    (up.0, small.0, changes-rise p f.time (step p s f.item) steps run.1 up.1 small.1)

-- no step of a later time counts
none_until : (time last : ℕ) (steps : List Fired) → time < last → NeverFall last steps → until_time time steps ≡ []
none_until time last [] lt up = refl
none_until time last (f ∷ steps) lt up =
    let le : last ≤ f.time = up.0 in
    let over : nat_le f.time time ≡ false = grind arith in
    ap (λ b. cond b (f ∷ until_time time steps) (until_time time steps)) over ∙ none_until time f.time steps (omega arith) up.1

-- the value of a net after the changes up to a time is that in the state after the steps up to it
pub values-after : (p : PipelineData) (net time last : ℕ) (s : State) (steps : List Fired) → IsRunFrom p s (items_in steps) → NeverFall last steps → AreSmall steps → value_at net time (s.value net) (changes_of p s steps) ≡ (after p s (items_in (until_time time steps))).value net
values-after p net time last s [] run up small = refl
values-after p net time last s (f ∷ steps) run up small = by (step_one p s f.item run.0) (values-after p net time f.time (step p s f.item) steps run.1 up.1 small.1)
  where
    by : (own : ℕ) × (net_of_step p s f.item ≡ Some own) × ((other : ℕ) → own ≢ other → (step p s f.item).value other ≡ s.value other) → value_at net time ((step p s f.item).value net) (changes_of p (step p s f.item) steps) ≡ (after p (step p s f.item) (items_in (until_time time steps))).value net → value_at net time (s.value net) (changes_of p s (f ∷ steps)) ≡ (after p s (items_in (until_time time (f ∷ steps)))).value net
    by (own, at, others) rest =
        ap (λ o. value_at net time (s.value net) (change_by f (step p s f.item) o ++ changes_of p (step p s f.item) steps)) at
        ∙ elim (cases_lt time f.time) [
          | inl later ↦
              let test : nat_lt time f.time ≡ true = grind arith in
              let over : nat_le f.time time ≡ false = grind arith in
              ap (λ b. value_at net time (cond b (s.value net) (cond (nat_eq own net) ((step p s f.item).value own) (s.value net))) (changes_of p (step p s f.item) steps)) test
              ∙ value_at-later net time (s.value net) f.time (changes_of p (step p s f.item) steps) later (changes-rise p f.time (step p s f.item) steps run.1 up.1 small.1)
              ∙ sym (ap (λ b. (after p s (items_in (cond b (f ∷ until_time time steps) (until_time time steps)))).value net) over
              ∙ ap (λ l. (after p s (items_in l)).value net) (none_until time f.time steps later up.1))
          | inr now ↦
              let test : nat_lt time f.time ≡ false = grind arith in
              let within : nat_le f.time time ≡ true = grind arith in
              let value : cond (nat_eq own net) ((step p s f.item).value own) (s.value net) ≡ (step p s f.item).value net = elim (cases_eq own net) [
                | inl same ↦ ap (λ b. cond b ((step p s f.item).value own) (s.value net)) (eq-eqb own net same) ∙ ap (step p s f.item).value same
                | inr other ↦ ap (λ b. cond b ((step p s f.item).value own) (s.value net)) (ne_eqb own net other) ∙ sym (others net other)
              ] in
              ap (λ b. value_at net time (cond b (s.value net) (cond (nat_eq own net) ((step p s f.item).value own) (s.value net))) (changes_of p (step p s f.item) steps)) test
              ∙ ap (λ v. value_at net time v (changes_of p (step p s f.item) steps)) value
              ∙ rest
              ∙ sym (ap (λ b. (after p s (items_in (cond b (f ∷ until_time time steps) (until_time time steps)))).value net) within)
        ]

-- the value of a net at first
pub value-first : (p : PipelineData) (s : State) (net : ℕ) → net < length p.netlist.nets → get_or (values_in p s) net false ≡ s.value net
value-first p s net lt =
    let size = length-range_with_len 0 (length p.netlist.nets) in
    get_or-map s.value (range_with_len 0 (length p.netlist.nets)) net 0 false (omega arith)
    ∙ ap s.value (get_or-range_with_len 0 (length p.netlist.nets) net 0 lt ∙ (let e : 0 + net ≡ net = omega arith in e))

pub values-length : (p : PipelineData) (s : State) → length (values_in p s) ≡ length p.netlist.nets
values-length p s = length-map (range_with_len 0 (length p.netlist.nets)) s.value ∙ length-range_with_len 0 (length p.netlist.nets)
