-- What a step can change.
use Rattle.ncl_sim.proofs.Terms.{AreApart, AreDrivenOnce, AreEnds, Avoids, Bool, Cell, CellAt, Fire, IsApart, IsUntouched, Item, List, Lower, NetId, Nets, None, Option, PipelineData, Rails, Raise, Ready, Some, State, Take, [], after_lower, after_raise, and3, and_left, and_parts, and_right, ap, arith, bit_candidate, bit_within, both_ways, candidate, cases_Bool, cond, cond-false, cond-true, current_rails, differ, enabled, excited_within, false, false_from_ne_true, fired, has_value, if◌then◌else◌, inl, inr, is_data, is_excited, is_null, item_number, length, list_all, named_rails, ne_eqb, net_of_step, next_of_cell, next_of_cell-again, next_value, none-some, not, not-true, not_from_true, out_at, pin_values, put_at, rail_nets, rails_of_word, refl, same_Some, sink_candidate, slice_get, step, subst, suc, sym, true, with_net, with_net-here, zero, ℕ, ◌&&◌, ◌+◌, ◌<◌, ◌||◌, ◌∙◌, ◌∷◌, ◌≡◌, ◌≢◌}
use Rattle.ncl_sim.proofs.Oneness.{and2, bit_number, candidate_at_sink, cell_candidate}

-- ---- what a step can touch: a cell that reads another net, and doesn't drive it, is excited as before; a cell that has stepped and doesn't read its own output isn't

pub with_net-other : (v : Nets) (net other : ℕ) (value : Bool) → (net ≡ other → ⊥) → with_net v net value other ≡ v other
with_net-other v net other value apart = ap (λ t. cond t value (v other)) (ne_eqb net other apart)

pub pins_unread : (v : Nets) (net : ℕ) (value : Bool) (ins : List NetId) → Avoids net ins → pin_values (with_net v net value) ins ≡ pin_values v ins
pins_unread v net value [] avoids = refl
pins_unread v net value (x ∷ xs) avoids = ap (λ b. b ∷ pin_values (with_net v net value) xs) (with_net-other v net x.0 value avoids.0) ∙ ap (λ bs. v x.0 ∷ bs) (pins_unread v net value xs avoids.1)

abbrev pub excited : Nets → Cell → Bool
excited v c = differ (next_value v c) (v c.out.0)

pub untouched : (v : Nets) (net : ℕ) (value : Bool) (c : Cell) → Avoids net c.ins.items → (net ≡ c.out.0 → ⊥) → excited (with_net v net value) c ≡ excited v c
untouched v net value c avoids apart =
    rw (pins_unread v net value c.ins.items avoids, with_net-other v net c.out.0 value apart) refl

differ-self : (b : Bool) → differ b b ≡ false
differ-self true = refl
differ-self false = refl

-- the next value of the cell is its next value once more
again : (v : Nets) (c : Cell) → Avoids c.out.0 c.ins.items → next_value (with_net v c.out.0 (next_value v c)) c ≡ next_of_cell c.kind (pin_values v c.ins.items) (next_value v c)
again v c avoids = rw (pins_unread v c.out.0 (next_value v c) c.ins.items avoids, with_net-here v c.out.0 (next_value v c)) refl

-- a cell that has stepped and doesn't read its own output isn't excited
pub rests : (v : Nets) (c : Cell) → Avoids c.out.0 c.ins.items → excited (with_net v c.out.0 (next_value v c)) c ≡ false
rests v c avoids =
    rw (again v c avoids, with_net-here v c.out.0 (next_value v c), next_of_cell-again c.kind (pin_values v c.ins.items) (v c.out.0)) (differ-self (next_value v c))

-- ---- the rails of the current word

named-apart : (net : ℕ) (rs : List Rails) (word : List Bool) (k x : ℕ) → IsApart net (rail_nets rs) → slice_get (named_rails rs word) k ≡ Some x → net ≢ x
named-apart net [] word k x apart at e = none-some x at
named-apart net (r ∷ rs) [] k x apart at e = none-some x at
named-apart net (r ∷ rs) (true ∷ word) zero x apart at e = apart.1.0 (e ∙ sym (same_Some r.one.0 x at))
named-apart net (r ∷ rs) (false ∷ word) zero x apart at e = apart.0 (e ∙ sym (same_Some r.zero.0 x at))
named-apart net (r ∷ rs) (b ∷ word) (suc k) x apart at e = named-apart net rs word k x apart.1.1 at e

named-differ : (rs : List Rails) (word : List Bool) (j k x y : ℕ) → AreApart (rail_nets rs) → slice_get (named_rails rs word) j ≡ Some x → slice_get (named_rails rs word) k ≡ Some y → j ≢ k → x ≢ y
named-differ [] word j k x y apart at_x at_y differ e = none-some x at_x
named-differ (r ∷ rs) [] j k x y apart at_x at_y differ e = none-some x at_x
named-differ (r ∷ rs) (b ∷ word) zero zero x y apart at_x at_y differ e = differ refl
named-differ (r ∷ rs) (true ∷ word) zero (suc k) x y apart at_x at_y differ e = named-apart r.one.0 rs word k y apart.1.0 at_y (same_Some r.one.0 x at_x ∙ e)
named-differ (r ∷ rs) (false ∷ word) zero (suc k) x y apart at_x at_y differ e = named-apart r.zero.0 rs word k y apart.0.1 at_y (same_Some r.zero.0 x at_x ∙ e)
named-differ (r ∷ rs) (true ∷ word) (suc j) zero x y apart at_x at_y differ e = named-apart r.one.0 rs word j x apart.1.0 at_x (same_Some r.one.0 y at_y ∙ sym e)
named-differ (r ∷ rs) (false ∷ word) (suc j) zero x y apart at_x at_y differ e = named-apart r.zero.0 rs word j x apart.0.1 at_x (same_Some r.zero.0 y at_y ∙ sym e)
named-differ (r ∷ rs) (b ∷ word) (suc j) (suc k) x y apart at_x at_y differ e = named-differ rs word j k x y apart.1.1 at_x at_y (λ same. differ (ap suc same)) e

rail-apart : (net : ℕ) (rs : List Rails) (word : Option (List Bool)) (k x : ℕ) → IsApart net (rail_nets rs) → slice_get (rails_of_word rs word) k ≡ Some x → net ≢ x
rail-apart net rs None k x apart at e = none-some x at
rail-apart net rs (Some word) k x apart at e = named-apart net rs word k x apart at e

rail-differ : (rs : List Rails) (word : Option (List Bool)) (j k x y : ℕ) → AreApart (rail_nets rs) → slice_get (rails_of_word rs word) j ≡ Some x → slice_get (rails_of_word rs word) k ≡ Some y → j ≢ k → x ≢ y
rail-differ rs None j k x y apart at_x at_y differ e = none-some x at_x
rail-differ rs (Some word) j k x y apart at_x at_y differ e = named-differ rs word j k x y apart at_x at_y differ e

-- ---- what a change of another net leaves

value-unread : (v : Nets) (net : ℕ) (value : Bool) (o : Option ℕ) (wanted : Bool) → ((x : ℕ) → o ≡ Some x → net ≢ x) → has_value (with_net v net value) o wanted ≡ has_value v o wanted
value-unread v net value None wanted apart = refl
value-unread v net value (Some x) wanted apart = ap (λ b. not (differ b wanted)) (with_net-other v net x value (apart x refl))

data-unread : (v : Nets) (net : ℕ) (value : Bool) (bits : List Rails) → IsApart net (rail_nets bits) → is_data bits (with_net v net value) ≡ is_data bits v
data-unread v net value [] apart = refl
data-unread v net value (r ∷ rs) apart = rw (with_net-other v net r.zero.0 value apart.0, with_net-other v net r.one.0 value apart.1.0, data-unread v net value rs apart.1.1) refl

null-unread : (v : Nets) (net : ℕ) (value : Bool) (bits : List Rails) → IsApart net (rail_nets bits) → is_null bits (with_net v net value) ≡ is_null bits v
null-unread v net value [] apart = refl
null-unread v net value (r ∷ rs) apart = rw (with_net-other v net r.zero.0 value apart.0, with_net-other v net r.one.0 value apart.1.0, null-unread v net value rs apart.1.1) refl

-- where all rails are high, none has yet to rise; where all are low, none has yet to fall
all-high : (v : Nets) (rails : List ℕ) (k : ℕ) → list_all v rails ≡ true → has_value v (slice_get rails k) false ≡ false
all-high v [] k all = refl
all-high v (x ∷ rails) zero all = ap (λ b. not (differ b false)) (and_parts (v x) (list_all v rails) all).0
all-high v (x ∷ rails) (suc k) all = all-high v rails k (and_parts (v x) (list_all v rails) all).1

all-low : (v : Nets) (rails : List ℕ) (k : ℕ) → list_all (λ net. not (v net)) rails ≡ true → has_value v (slice_get rails k) true ≡ false
all-low v [] k all = refl
all-low v (x ∷ rails) zero all = ap (λ b. not (differ b true)) (not-true (v x) (and_parts (not (v x)) (list_all (λ net. not (v net)) rails) all).0)
all-low v (x ∷ rails) (suc k) all = all-low v rails k (and_parts (not (v x)) (list_all (λ net. not (v net)) rails) all).1

-- ---- the net of a step

pub lower-value : (p : PipelineData) (s : State) (v : Nets) → (after_lower p s v).value ≡ v
lower-value p s v =
    elim (list_all (λ net. not (v net)) (current_rails p s)) as (λ b. (if b then record s { value = v; falling = false; done = s.done + 1 } else record s { value = v }).value ≡ v) [ true ↦ refl | false ↦ refl ]

fired-value : (v : Nets) (o : Option Cell) (net : ℕ) → out_at o ≡ Some net → (value : Bool) × (fired v o ≡ with_net v net value)
fired-value v None net at = absurd (none-some net at)
fired-value v (Some c) net at = (next_value v c, ap (λ n. with_net v n (next_value v c)) (same_Some c.out.0 net at))

-- a step gives its net a value
pub step-value : (p : PipelineData) (s : State) (f : Item) (net : ℕ) → net_of_step p s f ≡ Some net → (value : Bool) × ((step p s f).value ≡ with_net s.value net value)
step-value p s (Fire cell) net at = fired-value s.value (slice_get p.netlist.cells cell.0) net at
step-value p s (Raise bit) net at = (true, ap (λ o. put_at s.value o true) at)
step-value p s (Lower bit) net at = (false, lower-value p s (put_at s.value (slice_get (current_rails p s) bit) false) ∙ ap (λ o. put_at s.value o false) at)
step-value p s Take net at = (false, ap (λ n. with_net s.value n false) (same_Some p.ki net at))
step-value p s Ready net at = (true, ap (λ n. with_net s.value n true) (same_Some p.ki net at))

-- an enabled item has a net
excited-net : (v : Nets) (o : Option Cell) → is_excited v o ≡ true → (net : ℕ) × (out_at o ≡ Some net)
excited-net v None on = absurd (both_ways false refl on)
excited-net v (Some c) on = (c.out.0, refl)

valued-net : (v : Nets) (o : Option ℕ) (wanted : Bool) → has_value v o wanted ≡ true → (net : ℕ) × (o ≡ Some net)
valued-net v None wanted on = absurd (both_ways false refl on)
valued-net v (Some net) wanted on = (net, refl)

pub enabled-net : (p : PipelineData) (s : State) (f : Item) → enabled p s f ≡ true → (net : ℕ) × (net_of_step p s f ≡ Some net)
enabled-net p s (Fire cell) on = excited-net s.value (slice_get p.netlist.cells cell.0) on
enabled-net p s (Raise bit) on = valued-net s.value (slice_get (current_rails p s) bit) false (and3 (not s.falling) (s.value p.ko) _ on).2
enabled-net p s (Lower bit) on = valued-net s.value (slice_get (current_rails p s) bit) true (and3 s.falling (not (s.value p.ko)) _ on).2
enabled-net p s Take on = (p.ki, refl)
enabled-net p s Ready on = (p.ki, refl)

-- ---- where the net of a step isn't

flip : (x y : ℕ) → x ≢ y → y ≢ x
flip x y apart e = apart (sym e)

out-apart : (P : ℕ → Type 0) (o : Option Cell) (net : ℕ) → ((c : Cell) → o ≡ Some c → P c.out.0) → out_at o ≡ Some net → P net
out-apart P None net holds at = absurd (none-some net at)
out-apart P (Some c) net holds at = subst P (same_Some c.out.0 net at) (holds c refl)

-- but for the sink's own steps it isn't `ki`
net-not_ki : (p : PipelineData) (s : State) (f : Item) (net : ℕ) → AreEnds p → AreDrivenOnce p → net_of_step p s f ≡ Some net → item_number p f ≢ length p.netlist.cells + length p.inputs → net ≢ p.ki
net-not_ki p s (Fire cell) net ends once at other = out-apart (λ n. n ≢ p.ki) (slice_get p.netlist.cells cell.0) net (once.not_ki cell.0) at
net-not_ki p s (Raise bit) net ends once at other = flip p.ki net (rail-apart p.ki p.inputs (slice_get s.offered s.done) bit net ends.ki_inputs at)
net-not_ki p s (Lower bit) net ends once at other = flip p.ki net (rail-apart p.ki p.inputs (slice_get s.offered s.done) bit net ends.ki_inputs at)
net-not_ki p s Take net ends once at other = absurd (other refl)
net-not_ki p s Ready net ends once at other = absurd (other refl)

-- nor the output of another cell
net-not_out : (p : PipelineData) (s : State) (f : Item) (net k : ℕ) (c : Cell) → AreEnds p → AreDrivenOnce p → net_of_step p s f ≡ Some net → item_number p f ≢ k → CellAt p.netlist k c → net ≢ c.out.0
net-not_out p s (Fire cell) net k c ends once at other at_c = out-apart (λ n. n ≢ c.out.0) (slice_get p.netlist.cells cell.0) net (λ b at_b. once.one_driver cell.0 k b c at_b at_c other) at
net-not_out p s (Raise bit) net k c ends once at other at_c = flip c.out.0 net (rail-apart c.out.0 p.inputs (slice_get s.offered s.done) bit net (once.not_inputs k c at_c) at)
net-not_out p s (Lower bit) net k c ends once at other at_c = flip c.out.0 net (rail-apart c.out.0 p.inputs (slice_get s.offered s.done) bit net (once.not_inputs k c at_c) at)
net-not_out p s Take net k c ends once at other at_c = λ e. once.not_ki k c at_c (sym e ∙ sym (same_Some p.ki net at))
net-not_out p s Ready net k c ends once at other at_c = λ e. once.not_ki k c at_c (sym e ∙ sym (same_Some p.ki net at))

-- nor the rail of another bit
net-not_rail : (p : PipelineData) (s : State) (f : Item) (net bit : ℕ) → AreEnds p → AreDrivenOnce p → net_of_step p s f ≡ Some net → item_number p f ≢ length p.netlist.cells + bit → (x : ℕ) → slice_get (current_rails p s) bit ≡ Some x → net ≢ x
net-not_rail p s (Fire cell) net bit ends once at other x at_x =
    out-apart (λ n. n ≢ x) (slice_get p.netlist.cells cell.0) net (λ c at_c. rail-apart c.out.0 p.inputs (slice_get s.offered s.done) bit x (once.not_inputs cell.0 c at_c) at_x) at
net-not_rail p s (Raise own) net bit ends once at other x at_x = rail-differ p.inputs (slice_get s.offered s.done) own bit net x ends.inputs at at_x (λ e. other (ap (λ b. length p.netlist.cells + b) e))
net-not_rail p s (Lower own) net bit ends once at other x at_x = rail-differ p.inputs (slice_get s.offered s.done) own bit net x ends.inputs at at_x (λ e. other (ap (λ b. length p.netlist.cells + b) e))
net-not_rail p s Take net bit ends once at other x at_x = λ e. rail-apart p.ki p.inputs (slice_get s.offered s.done) bit x ends.ki_inputs at_x (same_Some p.ki net at ∙ e)
net-not_rail p s Ready net bit ends once at other x at_x = λ e. rail-apart p.ki p.inputs (slice_get s.offered s.done) bit x ends.ki_inputs at_x (same_Some p.ki net at ∙ e)

-- ---- a bit after a step of another number

raise-same : (was now asked asks high highs : Bool) → was ≡ false → asks ≡ asked → highs ≡ high → (now ≡ true → highs ≡ false) → (not now && asks && highs) ≡ (not was && asked && high)
raise-same true now asked asks high highs off same_asks same_high low = absurd (both_ways true off refl)
raise-same false true asked asks high highs off same_asks same_high low = sym (and_right asked high (sym same_high ∙ low refl))
raise-same false false asked asks high highs off same_asks same_high low = rw (same_asks, same_high) refl

lower-off : (now asks high : Bool) → asks ≡ true → (now && not asks && high) ≡ false
lower-off true true high e = refl
lower-off true false high e = absurd (both_ways false refl e)
lower-off false asks high e = refl

raise-off : (now asks high : Bool) → asks ≡ false → (not now && asks && high) ≡ false
raise-off true asks high e = refl
raise-off false false high e = refl
raise-off false true high e = absurd (both_ways true e refl)

-- the rail of the bit keeps its value, and so does `ko`
record KeepsBit (p : PipelineData) (s : State) (v : Nets) (bit : ℕ) : Type 0 where
  asks : v p.ko ≡ s.value p.ko
  value : (wanted : Bool) → has_value v (slice_get (current_rails p s) bit) wanted ≡ has_value s.value (slice_get (current_rails p s) bit) wanted

same-raise : (p : PipelineData) (s : State) (v : Nets) (bit : ℕ) → KeepsBit p s v bit → enabled p (record s { value = v }) (Raise bit) ≡ enabled p s (Raise bit)
same-raise p s v bit keeps = rw (keeps.asks, keeps.value false) refl

same-lower : (p : PipelineData) (s : State) (v : Nets) (bit : ℕ) → KeepsBit p s v bit → enabled p (record s { value = v }) (Lower bit) ≡ enabled p s (Lower bit)
same-lower p s v bit keeps = rw (keeps.asks, keeps.value true) refl

raised-raise : (p : PipelineData) (s : State) (v : Nets) (bit : ℕ) → KeepsBit p s v bit → s.falling ≡ false → enabled p (after_raise p s v) (Raise bit) ≡ enabled p s (Raise bit)
raised-raise p s v bit keeps rising =
    raise-same s.falling (list_all v (current_rails p s)) (s.value p.ko) (v p.ko) (has_value s.value (slice_get (current_rails p s) bit) false) (has_value v (slice_get (current_rails p s) bit) false)
    rising keeps.asks (keeps.value false) (all-high v (current_rails p s) bit)

raised-lower : (p : PipelineData) (s : State) (v : Nets) (bit : ℕ) → KeepsBit p s v bit → s.value p.ko ≡ true → enabled p (after_raise p s v) (Lower bit) ≡ enabled p s (Lower bit)
raised-lower p s v bit keeps asked =
    lower-off (list_all v (current_rails p s)) (v p.ko) (has_value v (slice_get (current_rails p s) bit) true) (keeps.asks ∙ asked)
    ∙ sym (lower-off s.falling (s.value p.ko) (has_value s.value (slice_get (current_rails p s) bit) true) asked)

abbrev done_with : State → Nets → State
done_with s v = record s { value = v; falling = false; done = s.done + 1 }

lower-cases : (p : PipelineData) (s : State) (v : Nets) (P : State → Type 0) → (list_all (λ net. not (v net)) (current_rails p s) ≡ true → P (done_with s v)) → P (record s { value = v }) → P (after_lower p s v)
lower-cases p s v P done going =
    elim (cases_Bool (list_all (λ net. not (v net)) (current_rails p s))) [
      | inl all ↦ subst P (sym (cond-true (list_all (λ net. not (v net)) (current_rails p s)) (done_with s v) (record s { value = v }) all)) (done all)
      | inr some ↦ subst P (sym (cond-false (list_all (λ net. not (v net)) (current_rails p s)) (done_with s v) (record s { value = v }) some)) going
    ]

lowered-raise : (p : PipelineData) (s : State) (v : Nets) (bit : ℕ) → KeepsBit p s v bit → s.value p.ko ≡ false → enabled p (after_lower p s v) (Raise bit) ≡ enabled p s (Raise bit)
lowered-raise p s v bit keeps idle =
    lower-cases p s v (λ t. enabled p t (Raise bit) ≡ enabled p s (Raise bit))
    (λ all.
    raise-off false (v p.ko) (has_value v (slice_get (current_rails p (done_with s v)) bit) false) (keeps.asks ∙ idle)
    ∙ sym (raise-off s.falling (s.value p.ko) (has_value s.value (slice_get (current_rails p s) bit) false) idle))
    (same-raise p s v bit keeps)

lowered-lower : (p : PipelineData) (s : State) (v : Nets) (bit : ℕ) → KeepsBit p s v bit → enabled p (after_lower p s v) (Lower bit) ≡ enabled p s (Lower bit)
lowered-lower p s v bit keeps =
    lower-cases p s v (λ t. enabled p t (Lower bit) ≡ enabled p s (Lower bit))
    (λ all. sym (and_right (s.falling && not (s.value p.ko)) (has_value s.value (slice_get (current_rails p s) bit) true) (sym (keeps.value true) ∙ all-low v (current_rails p s) bit all)))
    (same-lower p s v bit keeps)

keeps-bit : (p : PipelineData) (s : State) (net bit : ℕ) (value : Bool) → net ≢ p.ko → ((x : ℕ) → slice_get (current_rails p s) bit ≡ Some x → net ≢ x) → KeepsBit p s (with_net s.value net value) bit
keeps-bit p s net bit value not_ko not_rail = record {
  asks = with_net-other s.value net p.ko value not_ko;
  value = λ wanted. value-unread s.value net value (slice_get (current_rails p s) bit) wanted not_rail;
}

-- what the step makes of the values, as it is written in the step
keeps-bit_at : (p : PipelineData) (s : State) (f : Item) (net bit : ℕ) (v : Nets) → AreEnds p → AreDrivenOnce p → net_of_step p s f ≡ Some net → net ≢ p.ko → item_number p f ≢ length p.netlist.cells + bit → (step p s f).value ≡ v → KeepsBit p s v bit
keeps-bit_at p s f net bit v ends once at not_ko other is =
    let (value, puts) = step-value p s f net at in
    subst (λ w. KeepsBit p s w bit) (sym puts ∙ is) (keeps-bit p s net bit value not_ko (net-not_rail p s f net bit ends once at other))

raise_untouched : (p : PipelineData) (s : State) (f : Item) (net bit : ℕ) → AreEnds p → AreDrivenOnce p → enabled p s f ≡ true → net_of_step p s f ≡ Some net → net ≢ p.ko → item_number p f ≢ length p.netlist.cells + bit → enabled p (step p s f) (Raise bit) ≡ enabled p s (Raise bit)
raise_untouched p s (Fire cell) net bit ends once on at not_ko other = same-raise p s (fired s.value (slice_get p.netlist.cells cell.0)) bit (keeps-bit_at p s (Fire cell) net bit _ ends once at not_ko other refl)
raise_untouched p s (Raise own) net bit ends once on at not_ko other =
    raised-raise p s (put_at s.value (slice_get (current_rails p s) own) true) bit (keeps-bit_at p s (Raise own) net bit _ ends once at not_ko other refl)
    (not-true s.falling (and3 (not s.falling) (s.value p.ko) _ on).0)
raise_untouched p s (Lower own) net bit ends once on at not_ko other =
    lowered-raise p s (put_at s.value (slice_get (current_rails p s) own) false) bit
    (keeps-bit_at p s (Lower own) net bit _ ends once at not_ko other (lower-value p s (put_at s.value (slice_get (current_rails p s) own) false)))
    (not-true (s.value p.ko) (and3 s.falling (not (s.value p.ko)) _ on).1)
raise_untouched p s Take net bit ends once on at not_ko other = same-raise p s (with_net s.value p.ki false) bit (keeps-bit_at p s Take net bit _ ends once at not_ko other refl)
raise_untouched p s Ready net bit ends once on at not_ko other = same-raise p s (with_net s.value p.ki true) bit (keeps-bit_at p s Ready net bit _ ends once at not_ko other refl)

lower_untouched : (p : PipelineData) (s : State) (f : Item) (net bit : ℕ) → AreEnds p → AreDrivenOnce p → enabled p s f ≡ true → net_of_step p s f ≡ Some net → net ≢ p.ko → item_number p f ≢ length p.netlist.cells + bit → enabled p (step p s f) (Lower bit) ≡ enabled p s (Lower bit)
lower_untouched p s (Fire cell) net bit ends once on at not_ko other = same-lower p s (fired s.value (slice_get p.netlist.cells cell.0)) bit (keeps-bit_at p s (Fire cell) net bit _ ends once at not_ko other refl)
lower_untouched p s (Raise own) net bit ends once on at not_ko other =
    raised-lower p s (put_at s.value (slice_get (current_rails p s) own) true) bit (keeps-bit_at p s (Raise own) net bit _ ends once at not_ko other refl)
    (and3 (not s.falling) (s.value p.ko) _ on).1
lower_untouched p s (Lower own) net bit ends once on at not_ko other =
    lowered-lower p s (put_at s.value (slice_get (current_rails p s) own) false) bit
    (keeps-bit_at p s (Lower own) net bit _ ends once at not_ko other (lower-value p s (put_at s.value (slice_get (current_rails p s) own) false)))
lower_untouched p s Take net bit ends once on at not_ko other = same-lower p s (with_net s.value p.ki false) bit (keeps-bit_at p s Take net bit _ ends once at not_ko other refl)
lower_untouched p s Ready net bit ends once on at not_ko other = same-lower p s (with_net s.value p.ki true) bit (keeps-bit_at p s Ready net bit _ ends once at not_ko other refl)

-- ---- the cells and the sink

cell_untouched : (v : Nets) (net : ℕ) (value : Bool) (o : Option Cell) → ((c : Cell) → o ≡ Some c → Avoids net c.ins.items) → ((c : Cell) → o ≡ Some c → net ≢ c.out.0) → is_excited (with_net v net value) o ≡ is_excited v o
cell_untouched v net value None avoids apart = refl
cell_untouched v net value (Some c) avoids apart = untouched v net value c (avoids c refl) (apart c refl)

-- an item that isn't touched, of another number than the step's, is enabled after it exactly where it was before
pub untouched_item : (p : PipelineData) (s : State) (f : Item) (net : ℕ) (item : Item) → AreEnds p → AreDrivenOnce p → enabled p s f ≡ true → net_of_step p s f ≡ Some net → IsUntouched p net item → item_number p f ≢ item_number p item → enabled p (step p s f) item ≡ enabled p s item
untouched_item p s f net (Fire cell) ends once on at free other =
    let (value, puts) = step-value p s f net at in
    ap (λ v. is_excited v (slice_get p.netlist.cells cell.0)) puts
    ∙ cell_untouched s.value net value (slice_get p.netlist.cells cell.0) free (λ c at_c. net-not_out p s f net cell.0 c ends once at other at_c)
untouched_item p s f net (Raise bit) ends once on at free other = raise_untouched p s f net bit ends once on at free other
untouched_item p s f net (Lower bit) ends once on at free other = lower_untouched p s f net bit ends once on at free other
untouched_item p s f net Take ends once on at free other =
    let (value, puts) = step-value p s f net at in
    let asks : with_net s.value net value p.ki ≡ s.value p.ki = with_net-other s.value net p.ki value (net-not_ki p s f net ends once at other) in
    ap (λ v. v p.ki && is_data p.outputs v) puts
    ∙ ap (λ b. b && is_data p.outputs (with_net s.value net value)) asks
    ∙ ap (λ b. s.value p.ki && b) (data-unread s.value net value p.outputs free)
untouched_item p s f net Ready ends once on at free other =
    let (value, puts) = step-value p s f net at in
    let asks : with_net s.value net value p.ki ≡ s.value p.ki = with_net-other s.value net p.ki value (net-not_ki p s f net ends once at other) in
    ap (λ v. not (v p.ki) && is_null p.outputs v) puts
    ∙ ap (λ b. not b && is_null p.outputs (with_net s.value net value)) asks
    ∙ ap (λ b. not (s.value p.ki) && b) (null-unread s.value net value p.outputs free)

-- ---- the candidate of another number stays, where it is enabled

rail-kept : (p : PipelineData) (s : State) (f : Item) (net bit : ℕ) (v : Nets) (wanted : Bool) → AreEnds p → AreDrivenOnce p → net_of_step p s f ≡ Some net → item_number p f ≢ length p.netlist.cells + bit → (step p s f).value ≡ v → has_value v (slice_get (current_rails p s) bit) wanted ≡ has_value s.value (slice_get (current_rails p s) bit) wanted
rail-kept p s f net bit v wanted ends once at other is =
    let (value, puts) = step-value p s f net at in
    ap (λ w. has_value w (slice_get (current_rails p s) bit) wanted) (sym is ∙ puts)
    ∙ value-unread s.value net value (slice_get (current_rails p s) bit) wanted (net-not_rail p s f net bit ends once at other)

still-rising : (p : PipelineData) (s : State) (f : Item) (net bit : ℕ) → AreEnds p → AreDrivenOnce p → enabled p s f ≡ true → net_of_step p s f ≡ Some net → enabled p s (Raise bit) ≡ true → item_number p f ≢ length p.netlist.cells + bit → (step p s f).falling ≡ false
still-rising p s (Fire cell) net bit ends once on at is other = not-true s.falling (and3 (not s.falling) (s.value p.ko) _ is).0
still-rising p s (Raise own) net bit ends once on at is other =
    false_from_ne_true _ (λ all.
    both_ways (has_value (put_at s.value (slice_get (current_rails p s) own) true) (slice_get (current_rails p s) bit) false)
    (all-high (put_at s.value (slice_get (current_rails p s) own) true) (current_rails p s) bit all)
    (rail-kept p s (Raise own) net bit (put_at s.value (slice_get (current_rails p s) own) true) false ends once at other refl ∙ (and3 (not s.falling) (s.value p.ko) _ is).2))
still-rising p s (Lower own) net bit ends once on at is other = absurd (both_ways s.falling (not-true s.falling (and3 (not s.falling) (s.value p.ko) _ is).0) (and3 s.falling (not (s.value p.ko)) _ on).0)
still-rising p s Take net bit ends once on at is other = not-true s.falling (and3 (not s.falling) (s.value p.ko) _ is).0
still-rising p s Ready net bit ends once on at is other = not-true s.falling (and3 (not s.falling) (s.value p.ko) _ is).0

still-falling : (p : PipelineData) (s : State) (f : Item) (net bit : ℕ) → AreEnds p → AreDrivenOnce p → enabled p s f ≡ true → net_of_step p s f ≡ Some net → enabled p s (Lower bit) ≡ true → item_number p f ≢ length p.netlist.cells + bit → (step p s f).falling ≡ true
still-falling p s (Fire cell) net bit ends once on at is other = (and3 s.falling (not (s.value p.ko)) _ is).0
still-falling p s (Raise own) net bit ends once on at is other = absurd (both_ways s.falling (not-true s.falling (and3 (not s.falling) (s.value p.ko) _ on).0) (and3 s.falling (not (s.value p.ko)) _ is).0)
still-falling p s (Lower own) net bit ends once on at is other =
    lower-cases p s (put_at s.value (slice_get (current_rails p s) own) false) (λ t. t.falling ≡ true)
    (λ all. absurd (both_ways (has_value (put_at s.value (slice_get (current_rails p s) own) false) (slice_get (current_rails p s) bit) true)
    (all-low (put_at s.value (slice_get (current_rails p s) own) false) (current_rails p s) bit all)
    (rail-kept p s (Lower own) net bit (put_at s.value (slice_get (current_rails p s) own) false) true ends once at other (lower-value p s (put_at s.value (slice_get (current_rails p s) own) false)) ∙ (and3 s.falling (not (s.value p.ko)) _ is).2)))
    (and3 s.falling (not (s.value p.ko)) _ is).0
still-falling p s Take net bit ends once on at is other = (and3 s.falling (not (s.value p.ko)) _ is).0
still-falling p s Ready net bit ends once on at is other = (and3 s.falling (not (s.value p.ko)) _ is).0

ki-kept : (p : PipelineData) (s : State) (f : Item) (net : ℕ) → AreEnds p → AreDrivenOnce p → net_of_step p s f ≡ Some net → item_number p f ≢ length p.netlist.cells + length p.inputs → (step p s f).value p.ki ≡ s.value p.ki
ki-kept p s f net ends once at other =
    let (value, puts) = step-value p s f net at in
    ap (λ (v : Nets). v p.ki) puts ∙ with_net-other s.value net p.ki value (net-not_ki p s f net ends once at other)

pub candidate_stays : (p : PipelineData) (s : State) (f item : Item) → AreEnds p → AreDrivenOnce p → enabled p s f ≡ true → enabled p s item ≡ true → item_number p f ≢ item_number p item → candidate p (step p s f) (item_number p item) ≡ item
candidate_stays p s f (Fire cell) ends once on is other = cell_candidate p (step p s f) cell.0 (excited_within s.value p.netlist.cells cell.0 is)
candidate_stays p s f (Raise bit) ends once on is other =
    let (net, at) = enabled-net p s f on in
    bit_number p (step p s f) bit (bit_within p s bit false (and3 (not s.falling) (s.value p.ko) _ is).2)
    ∙ ap (λ b. bit_candidate b bit) (still-rising p s f net bit ends once on at is other)
candidate_stays p s f (Lower bit) ends once on is other =
    let (net, at) = enabled-net p s f on in
    bit_number p (step p s f) bit (bit_within p s bit true (and3 s.falling (not (s.value p.ko)) _ is).2)
    ∙ ap (λ b. bit_candidate b bit) (still-falling p s f net bit ends once on at is other)
candidate_stays p s f Take ends once on is other =
    let (net, at) = enabled-net p s f on in
    candidate_at_sink p (step p s f) (length p.netlist.cells + length p.inputs) (omega arith)
    ∙ ap sink_candidate (ki-kept p s f net ends once at other ∙ and2 (s.value p.ki) _ is)
candidate_stays p s f Ready ends once on is other =
    let (net, at) = enabled-net p s f on in
    candidate_at_sink p (step p s f) (length p.netlist.cells + length p.inputs) (omega arith)
    ∙ ap sink_candidate (ki-kept p s f net ends once at other ∙ not-true (s.value p.ki) (and2 (not (s.value p.ki)) _ is))

-- ---- the step's own number

cell_rests : (v : Nets) (o : Option Cell) (net : ℕ) → ((c : Cell) → o ≡ Some c → Avoids net c.ins.items) → out_at o ≡ Some net → is_excited (fired v o) o ≡ false
cell_rests v None net free at = refl
cell_rests v (Some c) net free at = rests v c (subst (λ n. Avoids n c.ins.items) (sym (same_Some c.out.0 net at)) (free c refl))

put_at-risen : (v : Nets) (o : Option ℕ) → has_value (put_at v o true) o false ≡ false
put_at-risen v None = refl
put_at-risen v (Some net) = ap (λ b. not (differ b false)) (with_net-here v net true)

put_at-fallen : (v : Nets) (o : Option ℕ) → has_value (put_at v o false) o true ≡ false
put_at-fallen v None = refl
put_at-fallen v (Some net) = ap (λ b. not (differ b true)) (with_net-here v net false)

raise_rests : (p : PipelineData) (s : State) (v : Nets) (own : ℕ) → v p.ko ≡ true → has_value v (slice_get (current_rails p s) own) false ≡ false → enabled p (after_raise p s v) (bit_candidate (list_all v (current_rails p s)) own) ≡ false
raise_rests p s v own asks risen =
    elim (list_all v (current_rails p s)) as (λ t. enabled p (record s { value = v; falling = t }) (bit_candidate t own) ≡ false) [
      | true ↦ lower-off true (v p.ko) (has_value v (slice_get (current_rails p s) own) true) asks
      | false ↦ and_right (v p.ko) (has_value v (slice_get (current_rails p s) own) false) risen
    ]

lower_rests : (p : PipelineData) (s : State) (v : Nets) (own : ℕ) → s.falling ≡ true → v p.ko ≡ false → has_value v (slice_get (current_rails p s) own) true ≡ false → enabled p (after_lower p s v) (bit_candidate (after_lower p s v).falling own) ≡ false
lower_rests p s v own falling idle fallen =
    lower-cases p s v (λ t. enabled p t (bit_candidate t.falling own) ≡ false)
    (λ all. raise-off false (v p.ko) (has_value v (slice_get (current_rails p (done_with s v)) own) false) idle)
    (ap (λ b. enabled p (record s { value = v }) (bit_candidate b own)) falling
    ∙ and_right (s.falling && not (v p.ko)) (has_value v (slice_get (current_rails p s) own) true) fallen)

null-not : (v : Nets) (bits : List Rails) → 0 < length bits → is_data bits v ≡ true → is_null bits v ≡ false
null-not v [] some full = absurd (omega arith)
null-not v (r ∷ rs) some full = and_left (not (v r.zero.0 || v r.one.0)) (is_null rs v) (not_from_true _ (and_parts (v r.zero.0 || v r.one.0) (is_data rs v) full).0)

data-not : (v : Nets) (bits : List Rails) → 0 < length bits → is_null bits v ≡ true → is_data bits v ≡ false
data-not v [] some empty = absurd (omega arith)
data-not v (r ∷ rs) some empty = and_left (v r.zero.0 || v r.one.0) (is_data rs v) (not-true _ (and_parts (not (v r.zero.0 || v r.one.0)) (is_null rs v) empty).0)

ko-kept : (p : PipelineData) (s : State) (f : Item) (net : ℕ) → net_of_step p s f ≡ Some net → net ≢ p.ko → (step p s f).value p.ko ≡ s.value p.ko
ko-kept p s f net at free =
    let (value, puts) = step-value p s f net at in
    ap (λ (v : Nets). v p.ko) puts ∙ with_net-other s.value net p.ko value free

-- where a step doesn't touch its own number, nothing of that number is enabled after it
pub own_rests : (p : PipelineData) (s : State) (f : Item) (net : ℕ) → AreEnds p → enabled p s f ≡ true → net_of_step p s f ≡ Some net → IsUntouched p net f → enabled p (step p s f) (candidate p (step p s f) (item_number p f)) ≡ false
own_rests p s (Fire cell) net ends on at free =
    ap (enabled p (step p s (Fire cell))) (cell_candidate p (step p s (Fire cell)) cell.0 (excited_within s.value p.netlist.cells cell.0 on))
    ∙ cell_rests s.value (slice_get p.netlist.cells cell.0) net free at
own_rests p s (Raise own) net ends on at free =
    let parts = and3 (not s.falling) (s.value p.ko) (has_value s.value (slice_get (current_rails p s) own) false) on in
    ap (enabled p (step p s (Raise own))) (bit_number p (step p s (Raise own)) own (bit_within p s own false parts.2))
    ∙ raise_rests p s (put_at s.value (slice_get (current_rails p s) own) true) own (ko-kept p s (Raise own) net at free ∙ parts.1) (put_at-risen s.value (slice_get (current_rails p s) own))
own_rests p s (Lower own) net ends on at free =
    let parts = and3 s.falling (not (s.value p.ko)) (has_value s.value (slice_get (current_rails p s) own) true) on in
    let v : Nets = put_at s.value (slice_get (current_rails p s) own) false in
    let idle : v p.ko ≡ false = sym (ap (λ (w : Nets). w p.ko) (lower-value p s v)) ∙ ko-kept p s (Lower own) net at free ∙ not-true (s.value p.ko) parts.1 in
    ap (enabled p (step p s (Lower own))) (bit_number p (step p s (Lower own)) own (bit_within p s own true parts.2))
    ∙ lower_rests p s v own parts.0 idle (put_at-fallen s.value (slice_get (current_rails p s) own))
own_rests p s Take net ends on at free =
    let (asks, full) = and_parts (s.value p.ki) (is_data p.outputs s.value) on in
    ap (enabled p (step p s Take)) (candidate_at_sink p (step p s Take) (length p.netlist.cells + length p.inputs) (omega arith) ∙ ap sink_candidate (with_net-here s.value p.ki false))
    ∙ and_right (not (with_net s.value p.ki false p.ki)) (is_null p.outputs (with_net s.value p.ki false)) (null-unread s.value p.ki false p.outputs ends.ki_outputs ∙ null-not s.value p.outputs ends.some_output full)
own_rests p s Ready net ends on at free =
    let (asks, empty) = and_parts (not (s.value p.ki)) (is_null p.outputs s.value) on in
    ap (enabled p (step p s Ready)) (candidate_at_sink p (step p s Ready) (length p.netlist.cells + length p.inputs) (omega arith) ∙ ap sink_candidate (with_net-here s.value p.ki true))
    ∙ and_right (with_net s.value p.ki true p.ki) (is_data p.outputs (with_net s.value p.ki true)) (data-unread s.value p.ki true p.outputs ends.ki_outputs ∙ data-not s.value p.outputs ends.some_output empty)
