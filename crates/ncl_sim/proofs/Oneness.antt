-- What may come next and when, and that a timed run is one.
use Rattle.ncl_sim.proofs.Terms.{Bool, ComesFirst, DelaysData, End, Ends, Fire, Fired, Hazard, IsLost, IsNext, IsTimedRun, Item, List, Lower, None, Option, PipelineData, Raise, Ready, Some, State, Take, Taken, TraceData, [], after, and3, ap, append-nil, append_assoc, arith, bit_candidate, bit_within, both_ways, candidate, cases_lt, cond-false, cond-true, current_rails, due_after, due_along, due_next, due_step, enabled, eqb, excited_within, false, filter, has_value, if◌then◌else◌, inl, inr, is_take, item_number, items_in, last_time, le-ltb, length, lost, lt-ltb, ltb, map, none-some, not, not-true, number_count, over, quiet, refl, reset, same_from_push, sink_candidate, slice_get, state_after, step, subst, sym, true, true_from_ne_false, ℕ, ◌&&◌, ◌++◌, ◌+◌, ◌-◌, ◌<◌, ◌∙◌, ◌∷◌, ◌≡◌, ◌≤◌}

-- ---- where each kind of item stands

pub cell_candidate : (p : PipelineData) (s : State) (k : ℕ) → k < length p.netlist.cells → candidate p s k ≡ Fire (record { 0 = k })
cell_candidate p s k lt =
    cond-true (ltb k (length p.netlist.cells)) (Fire (record { 0 = k })) (if ltb k (length p.netlist.cells + length p.inputs) then bit_candidate s.falling (k - length p.netlist.cells) else sink_candidate (s.value p.ki)) (lt-ltb k (length p.netlist.cells) lt)

past_cells : (p : PipelineData) (s : State) (k : ℕ) → length p.netlist.cells ≤ k → candidate p s k ≡ (if ltb k (length p.netlist.cells + length p.inputs) then bit_candidate s.falling (k - length p.netlist.cells) else sink_candidate (s.value p.ki))
past_cells p s k ge =
    cond-false (ltb k (length p.netlist.cells)) (Fire (record { 0 = k })) (if ltb k (length p.netlist.cells + length p.inputs) then bit_candidate s.falling (k - length p.netlist.cells) else sink_candidate (s.value p.ki)) (le-ltb k (length p.netlist.cells) ge)

pub candidate_at_bit : (p : PipelineData) (s : State) (k : ℕ) → length p.netlist.cells ≤ k → k < length p.netlist.cells + length p.inputs → candidate p s k ≡ bit_candidate s.falling (k - length p.netlist.cells)
candidate_at_bit p s k ge lt =
    past_cells p s k ge
    ∙ cond-true (ltb k (length p.netlist.cells + length p.inputs)) (bit_candidate s.falling (k - length p.netlist.cells)) (sink_candidate (s.value p.ki)) (lt-ltb k (length p.netlist.cells + length p.inputs) lt)

pub candidate_at_sink : (p : PipelineData) (s : State) (k : ℕ) → length p.netlist.cells + length p.inputs ≤ k → candidate p s k ≡ sink_candidate (s.value p.ki)
candidate_at_sink p s k ge =
    let past : length p.netlist.cells ≤ k = omega arith in
    past_cells p s k past
    ∙ cond-false (ltb k (length p.netlist.cells + length p.inputs)) (bit_candidate s.falling (k - length p.netlist.cells)) (sink_candidate (s.value p.ki)) (le-ltb k (length p.netlist.cells + length p.inputs) ge)

pub bit_number : (p : PipelineData) (s : State) (bit : ℕ) → bit < length p.inputs → candidate p s (length p.netlist.cells + bit) ≡ bit_candidate s.falling bit
bit_number p s bit lt =
    let place : length p.netlist.cells + bit - length p.netlist.cells ≡ bit = omega arith in
    candidate_at_bit p s (length p.netlist.cells + bit) (omega arith) (omega arith) ∙ ap (bit_candidate s.falling) place

-- ---- an enabled item has a number of these

pub and2 : (a b : Bool) → (a && b) ≡ true → a ≡ true
and2 true b on = refl
and2 false b on = on

pub number_within : (p : PipelineData) (s : State) (item : Item) → enabled p s item ≡ true → item_number p item < number_count p
number_within p s (Fire cell) on = let within : cell.0 < length p.netlist.cells = excited_within s.value p.netlist.cells cell.0 on in omega arith
number_within p s (Raise bit) on = let within : bit < length p.inputs = bit_within p s bit false (and3 (not s.falling) (s.value p.ko) _ on).2 in omega arith
number_within p s (Lower bit) on = let within : bit < length p.inputs = bit_within p s bit true (and3 s.falling (not (s.value p.ko)) _ on).2 in omega arith
number_within p s Take on = omega arith
number_within p s Ready on = omega arith

-- an enabled item is the candidate of its number
pub candidate_of : (p : PipelineData) (s : State) (item : Item) → enabled p s item ≡ true → candidate p s (item_number p item) ≡ item
candidate_of p s (Fire cell) on = cell_candidate p s cell.0 (excited_within s.value p.netlist.cells cell.0 on)
candidate_of p s (Raise bit) on =
    let parts = and3 (not s.falling) (s.value p.ko) (has_value s.value (slice_get (current_rails p s) bit) false) on in
    bit_number p s bit (bit_within p s bit false parts.2) ∙ ap (λ b. bit_candidate b bit) (not-true s.falling parts.0)
candidate_of p s (Lower bit) on =
    let parts = and3 s.falling (not (s.value p.ko)) (has_value s.value (slice_get (current_rails p s) bit) true) on in
    bit_number p s bit (bit_within p s bit true parts.2) ∙ ap (λ b. bit_candidate b bit) parts.0
candidate_of p s Take on = candidate_at_sink p s (length p.netlist.cells + length p.inputs) (omega arith) ∙ ap sink_candidate (and2 (s.value p.ki) _ on)
candidate_of p s Ready on = candidate_at_sink p s (length p.netlist.cells + length p.inputs) (omega arith) ∙ ap sink_candidate (not-true (s.value p.ki) (and2 (not (s.value p.ki)) _ on))

-- so enabled items of one number are one
pub one_of_number : (p : PipelineData) (s : State) (x y : Item) → enabled p s x ≡ true → enabled p s y ≡ true → item_number p x ≡ item_number p y → x ≡ y
one_of_number p s x y on_x on_y same = sym (candidate_of p s x on_x) ∙ ap (candidate p s) same ∙ candidate_of p s y on_y

-- ---- the candidate of a number has that number

bit_candidate-number : (p : PipelineData) (falling : Bool) (bit : ℕ) → item_number p (bit_candidate falling bit) ≡ length p.netlist.cells + bit
bit_candidate-number p true bit = refl
bit_candidate-number p false bit = refl

sink_candidate-number : (p : PipelineData) (asks : Bool) → item_number p (sink_candidate asks) ≡ length p.netlist.cells + length p.inputs
sink_candidate-number p true = refl
sink_candidate-number p false = refl

pub candidate-number : (p : PipelineData) (s : State) (k : ℕ) → k < number_count p → item_number p (candidate p s k) ≡ k
candidate-number p s k within =
    elim (cases_lt k (length p.netlist.cells)) [
      | inl cell ↦ ap (item_number p) (cell_candidate p s k cell)
      | inr past ↦ elim (cases_lt k (length p.netlist.cells + length p.inputs)) [
        | inl bit ↦
            let place : length p.netlist.cells + (k - length p.netlist.cells) ≡ k = omega arith in
            ap (item_number p) (candidate_at_bit p s k past bit) ∙ bit_candidate-number p s.falling (k - length p.netlist.cells) ∙ place
        | inr sink ↦
            let place : length p.netlist.cells + length p.inputs ≡ k = omega arith in
            ap (item_number p) (candidate_at_sink p s k sink) ∙ sink_candidate-number p (s.value p.ki) ∙ place
      ]
    ]

-- ---- when items are due: one more step, and that the next entry is one

-- one more step at the end
pub due_along-more : (p : PipelineData) (d : DelaysData) (item : Item) (s : State) (before : Option ℕ) (steps : List Fired) (f : Fired) → due_along p d item s before (steps ++ f ∷ []) ≡ due_step p d (step p (after p s (items_in steps)) f.item) f item (due_along p d item s before steps)
due_along-more p d item s before [] f = refl
due_along-more p d item s before (g ∷ steps) f = due_along-more p d item (step p s g.item) (due_step p d (step p s g.item) g item before) steps f

none_along : (p : PipelineData) (d : DelaysData) (item : Item) (s : State) (before : Option ℕ) (steps : List Fired) → (enabled p s item ≡ false → before ≡ None) → enabled p (after p s (items_in steps)) item ≡ false → due_along p d item s before steps ≡ None
none_along p d item s before [] none off = none off
none_along p d item s before (f ∷ steps) none off = none_along p d item (step p s f.item) (due_step p d (step p s f.item) f item before) steps (λ now. rw now refl) off

-- what isn't enabled is never due
pub none_after : (p : PipelineData) (d : DelaysData) (offered : List (List Bool)) (steps : List Fired) (item : Item) → enabled p (state_after p offered steps) item ≡ false → due_after p d offered steps item ≡ None
none_after p d offered steps item off = none_along p d item (reset p offered) _ steps (λ now. rw now refl) off

some_next : (p : PipelineData) (d : DelaysData) (s : State) (item : Item) (own : Bool) (time : ℕ) (before : Option ℕ) → (due : ℕ) × (due_next p d s item own time before ≡ Some due)
some_next p d s item true time before = (_, refl)
some_next p d s item false time None = (_, refl)
some_next p d s item false time (Some due) = (due, refl)

some_along : (p : PipelineData) (d : DelaysData) (item : Item) (s : State) (before : Option ℕ) (steps : List Fired) → (enabled p s item ≡ true → (due : ℕ) × (before ≡ Some due)) → enabled p (after p s (items_in steps)) item ≡ true → (due : ℕ) × (due_along p d item s before steps ≡ Some due)
some_along p d item s before [] some on = some on
some_along p d item s before (f ∷ steps) some on =
    some_along p d item (step p s f.item) (due_step p d (step p s f.item) f item before) steps
    (λ now. rw now (some_next p d (step p s f.item) item (eqb (item_number p f.item) (item_number p item)) f.time before)) on

-- what is enabled is due
pub some_after : (p : PipelineData) (d : DelaysData) (offered : List (List Bool)) (steps : List Fired) (item : Item) → enabled p (state_after p offered steps) item ≡ true → (due : ℕ) × (due_after p d offered steps item ≡ Some due)
some_after p d offered steps item on = some_along p d item (reset p offered) _ steps (λ now. rw now (_, refl)) on

-- of two that come first, each before the other, the times and the numbers are the same
same_first : (p : PipelineData) (f g : Fired) → ComesFirst p f g.time g.item → ComesFirst p g f.time f.item → (f.time ≡ g.time) × (item_number p f.item ≡ item_number p g.item)
same_first p f g (inl x) (inl y) = absurd (omega arith)
same_first p f g (inl x) (inr y) = let e = y.0 in absurd (omega arith)
same_first p f g (inr x) (inl y) = let e = x.0 in absurd (omega arith)
same_first p f g (inr x) (inr y) = let e = x.1 in let h = y.1 in (x.0, omega arith)

-- there is one next entry, where enabled items of one number are one
pub next_is_one : (p : PipelineData) (d : DelaysData) (offered : List (List Bool)) (before : List Fired) (f g : Fired) → (item_number p f.item ≡ item_number p g.item → f.item ≡ g.item) → IsNext p d offered before f → IsNext p d offered before g → f ≡ g
next_is_one p d offered before f g one is_f is_g =
    let (times, numbers) = same_first p f g (is_f.first g.item g.time is_g.due) (is_g.first f.item f.time is_f.due) in
    let items = one numbers in
    λ i. record { time = times i; item = items i }

-- ---- that a timed run is one

-- what is due is enabled
pub enabled_from_due : (p : PipelineData) (d : DelaysData) (offered : List (List Bool)) (steps : List Fired) (item : Item) (due : ℕ) → due_after p d offered steps item ≡ Some due → enabled p (state_after p offered steps) item ≡ true
enabled_from_due p d offered steps item due is = true_from_ne_false _ (λ off. none-some due (sym (none_after p d offered steps item off) ∙ is))

-- ---- lists with a last element

pub nothing_apart : {A : Type 0} (xs ys : List A) (y : A) → [] ≡ xs ++ y ∷ ys → ⊥
nothing_apart [] ys y e = cc
nothing_apart (x ∷ xs) ys y e = cc

-- ---- one end

one_lost : (p : PipelineData) (offered : List (List Bool)) (steps : List Fired) (x y : Item) → IsLost p offered steps x → IsLost p offered steps y → item_number p x ≡ item_number p y → x ≡ y
one_lost p offered steps x y is_x is_y same =
    let (before, last) = same_from_push is_y.before is_x.before is_y.last is_x.last (sym is_y.split ∙ is_x.split) in
    one_of_number p (state_after p offered is_x.before) x y is_x.was (subst (λ b. enabled p (state_after p offered b) y ≡ true) before is_y.was) same

pub one_end : (p : PipelineData) (offered : List (List Bool)) (steps : List Fired) (x y : End) → Ends p offered steps x → Ends p offered steps y → x ≡ y
one_end p offered steps x y (lost a is_a least_a) (lost b is_b least_b) =
    let up : item_number p a ≤ item_number p b = least_a b is_b in
    let down : item_number p b ≤ item_number p a = least_b a is_a in
    ap (λ item. Hazard item (last_time 0 steps)) (one_lost p offered steps a b is_a is_b (omega arith))
one_end p offered steps x y (lost a is_a least_a) (quiet none off) = absurd (none a is_a)
one_end p offered steps x y (lost a is_a least_a) (over none many item on) = absurd (none a is_a)
one_end p offered steps x y (quiet none off) (lost b is_b least_b) = absurd (none b is_b)
one_end p offered steps x y (quiet none off) (quiet none_y off_y) = refl
one_end p offered steps x y (quiet none off) (over none_y many item on) = absurd (both_ways _ (off item) on)
one_end p offered steps x y (over none many item on) (lost b is_b least_b) = absurd (none b is_b)
one_end p offered steps x y (over none many item on) (quiet none_y off) = absurd (both_ways _ (off item) on)
one_end p offered steps x y (over none many item on) (over none_y many_y item_y on_y) = refl

-- ---- the same steps

same_rest : (p : PipelineData) (d : DelaysData) (offered : List (List Bool)) (s t : TraceData) → IsTimedRun p d offered s → IsTimedRun p d offered t → (before xs ys : List Fired) → s.steps ≡ before ++ xs → t.steps ≡ before ++ ys → xs ≡ ys
same_rest p d offered s t is_s is_t before [] [] at_s at_t = refl
same_rest p d offered s t is_s is_t before [] (g ∷ ys) at_s at_t =
    absurd (is_t.goes_on before ys g s.end at_t (subst (λ l. Ends p offered l s.end) (at_s ∙ append-nil before) is_s.ends))
same_rest p d offered s t is_s is_t before (f ∷ xs) [] at_s at_t =
    absurd (is_s.goes_on before xs f t.end at_s (subst (λ l. Ends p offered l t.end) (at_t ∙ append-nil before) is_t.ends))
same_rest p d offered s t is_s is_t before (f ∷ xs) (g ∷ ys) at_s at_t =
    let next_f : IsNext p d offered before f = is_s.next before xs f at_s in
    let next_g : IsNext p d offered before g = is_t.next before ys g at_t in
    let on_f = enabled_from_due p d offered before f.item f.time next_f.due in
    let on_g = enabled_from_due p d offered before g.item g.time next_g.due in
    let same : f ≡ g = next_is_one p d offered before f g (one_of_number p (state_after p offered before) f.item g.item on_f on_g) next_f next_g in
    let rest : xs ≡ ys =
    same_rest p d offered s t is_s is_t (before ++ f ∷ []) xs ys
    (at_s ∙ sym (append_assoc before (f ∷ []) xs))
    (at_t ∙ ap (λ h. before ++ h ∷ ys) (sym same) ∙ sym (append_assoc before (f ∷ []) ys)) in
    λ i. same i ∷ rest i

-- ---- the same pairs at the same times

same_taken : (xs ys : List Taken) → map (λ (x : Taken). x.time) xs ≡ map (λ (x : Taken). x.time) ys → map (λ (x : Taken). x.pair) xs ≡ map (λ (x : Taken). x.pair) ys → xs ≡ ys
same_taken [] [] times pairs = refl
same_taken [] (y ∷ ys) times pairs = absurd cc
same_taken (x ∷ xs) [] times pairs = absurd cc
same_taken (x ∷ xs) (y ∷ ys) times pairs =
    let time : x.time ≡ y.time = cc in
    let pair : x.pair ≡ y.pair = cc in
    let times_after : map (λ (x : Taken). x.time) xs ≡ map (λ (x : Taken). x.time) ys = cc in
    let pairs_after : map (λ (x : Taken). x.pair) xs ≡ map (λ (x : Taken). x.pair) ys = cc in
    let rest : xs ≡ ys = same_taken xs ys times_after pairs_after in
    λ i. record { time = time i; pair = pair i } ∷ rest i

-- two timed runs are one
pub one_run : (p : PipelineData) (d : DelaysData) (offered : List (List Bool)) (s t : TraceData) → IsTimedRun p d offered s → IsTimedRun p d offered t → s ≡ t
one_run p d offered s t is_s is_t =
    let steps : s.steps ≡ t.steps = same_rest p d offered s t is_s is_t [] s.steps t.steps refl refl in
    let end : s.end ≡ t.end = one_end p offered t.steps s.end t.end (subst (λ l. Ends p offered l s.end) steps is_s.ends) is_t.ends in
    let delivered : s.delivered ≡ t.delivered =
    same_taken s.delivered t.delivered
    (is_s.times ∙ ap (λ l. map (λ (f : Fired). f.time) (filter (λ (f : Fired). is_take f.item) l)) steps ∙ sym is_t.times)
    (is_s.pairs ∙ ap (λ l. (state_after p offered l).delivered) steps ∙ sym is_t.pairs) in
    λ i. record { steps = steps i; delivered = delivered i; end = end i }
