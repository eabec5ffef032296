-- Where the simulator looks after a step, and at the start.
pub use Rattle.ncl_sim.proofs.Terms.{AreDrivenOnce, AreEnds, Avoids, Bool, Cell, CellAt, DelaysData, Fired, IsApart, IsFree, IsLost, IsTracked, IsUntouched, Item, List, Member, None, Option, PipelineData, Some, State, [], after, and_from, and_parts, ap, arith, begins, bit_candidate, both_ways, candidate, cases_Bool, cases_eq, cond-false, cond-true, due_after, due_at, due_next, due_now, enabled, eqb, eqb-false, false, false_from_ne_true, get_or, here, if◌then◌else◌, inl, inr, is_waiting, item_number, items_in, least_of, length, length-replicate, length-set, look, look_at, looks, loses, lower, meaning, member_cases, min, ne_eqb, net_of_step, not, note, number_count, popped, rail_nets, refl, replicate, reset, same_from_push, set, sink_candidate, slice_get, state_after, step, subst, suc, sym, take, take_more, there, true, zero, ℕ, ◌&&◌, ◌++◌, ◌+◌, ◌-◌, ◌<◌, ◌∙◌, ◌∷◌, ◌≡◌, ◌≢◌, ◌≤◌, ◌⊎◌}
pub use Rattle.ncl_sim.proofs.QueueLaws.{set-elsewhere, set-there}
use Rattle.ncl_sim.proofs.Oneness.{candidate-number, candidate_at_bit, candidate_at_sink, candidate_of, cell_candidate, due_along-more, enabled_from_due, none_after, some_after}
use Rattle.ncl_sim.proofs.Existence.{due_shows}
pub use Rattle.ncl_sim.proofs.Locality.{candidate_stays, enabled-net, own_rests, untouched_item}

-- ---- looks at many numbers: what they leave in the table, and the least number that was lost

pub begins-both : (p : PipelineData) (s : State) (waits : List (Option ℕ)) (k : ℕ) → enabled p s (candidate p s k) ≡ true → is_waiting (slice_get waits k) ≡ false → begins p s waits k ≡ true
begins-both p s waits k on none = and_from (enabled p s (candidate p s k)) (not (is_waiting (slice_get waits k))) on (ap not none)

pub begins-off : (p : PipelineData) (s : State) (waits : List (Option ℕ)) (k : ℕ) → enabled p s (candidate p s k) ≡ false → begins p s waits k ≡ false
begins-off p s waits k off = ap (λ b. b && not (is_waiting (slice_get waits k))) off

pub begins-waiting : (p : PipelineData) (s : State) (waits : List (Option ℕ)) (k : ℕ) → is_waiting (slice_get waits k) ≡ true → begins p s waits k ≡ false
begins-waiting p s waits k on = ap (λ b. enabled p s (candidate p s k) && not b) on ∙ no (enabled p s (candidate p s k))
  where
    no : (b : Bool) → (b && false) ≡ false
    no true = refl
    no false = refl

-- a look loses nothing and finds nothing again: only a number that is enabled changes
pub loses-look_at : (p : PipelineData) (d : DelaysData) (s : State) (time : ℕ) (waits : List (Option ℕ)) (j k : ℕ) → loses p s (look_at p d s time waits j) k ≡ loses p s waits k
loses-look_at p d s time waits j k =
    elim (cases_Bool (begins p s waits j)) [
      | inl on ↦ elim (cases_eq j k) [
        | inl same ↦
            let is_on : enabled p s (candidate p s k) ≡ true = ap (λ n. enabled p s (candidate p s n)) (sym same) ∙ (and_parts (enabled p s (candidate p s j)) (not (is_waiting (slice_get waits j))) on).0 in
            ap (λ b. not b && is_waiting (slice_get (look_at p d s time waits j) k)) is_on ∙ sym (ap (λ b. not b && is_waiting (slice_get waits k)) is_on)
        | inr other ↦
            ap (λ ws. loses p s ws k) (cond-true (begins p s waits j) (set waits j (Some (due_now p d s time j))) waits on)
            ∙ ap (λ w. not (enabled p s (candidate p s k)) && is_waiting w) (set-elsewhere waits j k (Some (due_now p d s time j)) other)
      ]
      | inr off ↦ ap (λ ws. loses p s ws k) (cond-false (begins p s waits j) (set waits j (Some (due_now p d s time j))) waits off)
    ]

pub loses-looks : (p : PipelineData) (d : DelaysData) (s : State) (time : ℕ) (waits : List (Option ℕ)) (ks : List ℕ) (k : ℕ) → loses p s (looks p d s time waits ks) k ≡ loses p s waits k
loses-looks p d s time waits [] k = refl
loses-looks p d s time waits (j ∷ ks) k = loses-looks p d s time (look_at p d s time waits j) ks k ∙ loses-look_at p d s time waits j k

pub length-look_at : (p : PipelineData) (d : DelaysData) (s : State) (time : ℕ) (waits : List (Option ℕ)) (k : ℕ) → length (look_at p d s time waits k) ≡ length waits
length-look_at p d s time waits k = elim (cases_Bool (begins p s waits k)) [
  | inl on ↦ ap length (cond-true (begins p s waits k) (set waits k (Some (due_now p d s time k))) waits on) ∙ length-set waits k (Some (due_now p d s time k))
  | inr off ↦ ap length (cond-false (begins p s waits k) (set waits k (Some (due_now p d s time k))) waits off)
]

pub length-looks : (p : PipelineData) (d : DelaysData) (s : State) (time : ℕ) (waits : List (Option ℕ)) (ks : List ℕ) → length (looks p d s time waits ks) ≡ length waits
length-looks p d s time waits [] = refl
length-looks p d s time waits (k ∷ ks) = length-looks p d s time (look_at p d s time waits k) ks ∙ length-look_at p d s time waits k

-- one number more
pub looks-more : (p : PipelineData) (d : DelaysData) (s : State) (time : ℕ) (waits : List (Option ℕ)) (ks : List ℕ) (k : ℕ) → looks p d s time waits (ks ++ k ∷ []) ≡ look_at p d s time (looks p d s time waits ks) k
looks-more p d s time waits [] k = refl
looks-more p d s time waits (j ∷ ks) k = looks-more p d s time (look_at p d s time waits j) ks k

pub least_of-more : (test : ℕ → Bool) (least : Option ℕ) (ks : List ℕ) (k : ℕ) → least_of test least (ks ++ k ∷ []) ≡ note (test k) (least_of test least ks) k
least_of-more test least [] k = refl
least_of-more test least (j ∷ ks) k = least_of-more test (note (test j) least j) ks k

-- ---- the least of those that pass

-- where there is none, none passes
pub none-of_least : (test : ℕ → Bool) (least : Option ℕ) (ks : List ℕ) → least_of test least ks ≡ None → (least ≡ None) × ((k : ℕ) → Member k ks → test k ≡ false)
none-of_least test least [] none = (none, λ k m. elim m [ ])
none-of_least test least (j ∷ ks) none =
    let (noted, rest) = none-of_least test (note (test j) least j) ks none in
    let (before, off) = unnoted (test j) least j noted in
    (before, λ k m. elim (member_cases k j ks m) [ inl same ↦ subst (λ n. test n ≡ false) same off | inr later ↦ rest k later ])
  where
    lowered : (least : Option ℕ) (j : ℕ) → lower least j ≡ None → ⊥
    lowered None j e = absurd cc
    lowered (Some least) j e = absurd cc

    unnoted : (on : Bool) (least : Option ℕ) (j : ℕ) → note on least j ≡ None → (least ≡ None) × (on ≡ false)
    unnoted true least j e = absurd (lowered least j e)
    unnoted false least j e = (e, refl)

-- what is least is the earlier one or passes, and is no greater than the earlier one and those that pass
abbrev pub IsNoGreater : ℕ → Option ℕ → Type 0
IsNoGreater least None = Unit {0}
IsNoGreater least (Some other) = least ≤ other

pub record IsLeastOf (test : ℕ → Bool) (earlier : Option ℕ) (ks : List ℕ) (least : ℕ) : Type 0 where
  pub is : (earlier ≡ Some least) ⊎ (Member least ks × (test least ≡ true))
  pub below : IsNoGreater least earlier
  pub first : (k : ℕ) → Member k ks → test k ≡ true → least ≤ k

pub some-of_least : (test : ℕ → Bool) (earlier : Option ℕ) (ks : List ℕ) (least : ℕ) → least_of test earlier ks ≡ Some least → IsLeastOf test earlier ks least
some-of_least test earlier [] least e = record { is = inl e; below = subst (IsNoGreater least) (sym e) (omega arith); first = λ k m on. elim m [ ] }
some-of_least test earlier (j ∷ ks) least e = from (test j) refl (some-of_least test (note (test j) earlier j) ks least e)
  where
    lower_is : (earlier : Option ℕ) → lower earlier j ≡ Some least → (earlier ≡ Some least) ⊎ (j ≡ least)
    lower_is None e = let same : j ≡ least = cc in inr same
    lower_is (Some other) e =
        let same : min other j ≡ least = cc in
        elim (cases_eq j least) [ inl is_j ↦ inr is_j | inr not_j ↦ let o : other ≡ least = omega arith in inl (ap (λ n. Some n) o) ]

    lower_below : (earlier : Option ℕ) → IsNoGreater least (lower earlier j) → IsNoGreater least earlier × (least ≤ j)
    lower_below None le = (tt, le)
    lower_below (Some other) le = (omega arith, omega arith)

    from : (on : Bool) → test j ≡ on → IsLeastOf test (note on earlier j) ks least → IsLeastOf test earlier (j ∷ ks) least
    from true passes rest =
        let (below, le) = lower_below earlier rest.below in
        record {
          is = elim rest.is [
            | inl was ↦ elim (lower_is earlier was) [ inl before ↦ inl before | inr same ↦ inr (subst (λ n. Member n (j ∷ ks)) same here, subst (λ n. test n ≡ true) same passes) ]
            | inr later ↦ inr (there later.0, later.1)
          ];
          below = below;
          first = λ k m on. elim (member_cases k j ks m) [ inl same ↦ subst (λ n. least ≤ n) same le | inr later ↦ rest.first k later on ];
        }
    from false fails rest = record {
      is = elim rest.is [ inl was ↦ inl was | inr later ↦ inr (there later.0, later.1) ];
      below = rest.below;
      first = λ k m on. elim (member_cases k j ks m) [
        | inl same ↦ absurd (both_ways (test k) (subst (λ n. test n ≡ false) same fails) on)
        | inr later ↦ rest.first k later on
      ];
    }

-- ---- a loop over numbers

pub looks-next : (p : PipelineData) (d : DelaysData) (s : State) (time : ℕ) (waits now : List (Option ℕ)) (ks : List ℕ) (i : ℕ) → now ≡ looks p d s time waits (take i ks) → i < length ks → look_at p d s time now (get_or ks i 0) ≡ looks p d s time waits (take (i + 1) ks)
looks-next p d s time waits now ks i is lt =
    ap (λ ws. look_at p d s time ws (get_or ks i 0)) is ∙ sym (looks-more p d s time waits (take i ks) (get_or ks i 0)) ∙ ap (looks p d s time waits) (sym (take_more ks i 0 lt))

pub least_of-next : (p : PipelineData) (d : DelaysData) (s : State) (time : ℕ) (waits now : List (Option ℕ)) (least next : Option ℕ) (ks : List ℕ) (i : ℕ) → now ≡ looks p d s time waits (take i ks) → i < length ks → least ≡ least_of (loses p s waits) None (take i ks) → next ≡ note (loses p s now (get_or ks i 0)) least (get_or ks i 0) → next ≡ least_of (loses p s waits) None (take (i + 1) ks)
least_of-next p d s time waits now least next ks i is lt least_is noted =
    noted
    ∙ ap (λ b. note b least (get_or ks i 0)) (ap (λ ws. loses p s ws (get_or ks i 0)) is ∙ loses-looks p d s time waits (take i ks) (get_or ks i 0))
    ∙ ap (λ l. note (loses p s waits (get_or ks i 0)) l (get_or ks i 0)) least_is
    ∙ sym (least_of-more (loses p s waits) None (take i ks) (get_or ks i 0))
    ∙ ap (least_of (loses p s waits) None) (sym (take_more ks i 0 lt))

pub note-then : (on : Bool) (least next : Option ℕ) (k : ℕ) → on ≡ true → next ≡ lower least k → next ≡ note on least k
note-then on least next k is e = e ∙ ap (λ b. note b least k) (sym is)

pub note-else : (on : Bool) (least next : Option ℕ) (k : ℕ) → on ≡ false → next ≡ least → next ≡ note on least k
note-else on least next k is e = e ∙ ap (λ b. note b least k) (sym is)

-- ---- what is due after one more step, number by number, and what was lost

-- after the step a number waited, and its candidate isn't enabled
pub record IsSeenLost (p : PipelineData) (d : DelaysData) (offered : List (List Bool)) (steps : List Fired) (f : Fired) (k : ℕ) : Type 0 where
  pub other : item_number p f.item ≢ k
  pub due : ℕ
  pub waited : due_at p d offered steps k ≡ Some due
  pub off : enabled p (step p (state_after p offered steps) f.item) (candidate p (step p (state_after p offered steps) f.item) k) ≡ false

after-more : (p : PipelineData) (s : State) (steps : List Fired) (f : Fired) → after p s (items_in (steps ++ f ∷ [])) ≡ step p (after p s (items_in steps)) f.item
after-more p s [] f = refl
after-more p s (g ∷ steps) f = after-more p (step p s g.item) steps f

pub state-more : (p : PipelineData) (offered : List (List Bool)) (steps : List Fired) (f : Fired) → state_after p offered (steps ++ f ∷ []) ≡ step p (state_after p offered steps) f.item
state-more p offered steps f = after-more p (reset p offered) steps f

-- ---- an item

next-popped : (p : PipelineData) (d : DelaysData) (s : State) (item : Item) (own : Bool) (time : ℕ) (before : Option ℕ) → due_next p d s item own time before ≡ due_next p d s item false time (popped own before)
next-popped p d s item true time before = refl
next-popped p d s item false time before = refl

-- after one more step an item is due as the look says
pub due-looked : (p : PipelineData) (d : DelaysData) (offered : List (List Bool)) (steps : List Fired) (f : Fired) (item : Item) → due_after p d offered (steps ++ f ∷ []) item ≡ look p d (step p (state_after p offered steps) f.item) item f.time (popped (eqb (item_number p f.item) (item_number p item)) (due_after p d offered steps item))
due-looked p d offered steps f item =
    due_along-more p d item (reset p offered) _ steps f
    ∙ ap (λ due. if enabled p (step p (state_after p offered steps) f.item) item then due else None)
    (next-popped p d (step p (state_after p offered steps) f.item) item (eqb (item_number p f.item) (item_number p item)) f.time (due_after p d offered steps item))

look-on : (p : PipelineData) (d : DelaysData) (s : State) (item : Item) (time due : ℕ) (waits : Option ℕ) → enabled p s item ≡ true → waits ≡ Some due → look p d s item time waits ≡ Some due
look-on p d s item time due waits on is = cond-true (enabled p s item) (due_next p d s item false time waits) None on ∙ ap (due_next p d s item false time) is

pub look-off : (p : PipelineData) (d : DelaysData) (s : State) (item : Item) (time : ℕ) (waits : Option ℕ) → enabled p s item ≡ false → look p d s item time waits ≡ None
look-off p d s item time waits off = cond-false (enabled p s item) (due_next p d s item false time waits) None off

-- an item that isn't touched is due as before
pub due-untouched : (p : PipelineData) (d : DelaysData) (offered : List (List Bool)) (steps : List Fired) (f : Fired) (net : ℕ) (item : Item) → AreEnds p → AreDrivenOnce p → enabled p (state_after p offered steps) f.item ≡ true → net_of_step p (state_after p offered steps) f.item ≡ Some net → IsUntouched p net item → item_number p f.item ≢ item_number p item → due_after p d offered (steps ++ f ∷ []) item ≡ due_after p d offered steps item
due-untouched p d offered steps f net item ends once on at free other =
    let s : State = state_after p offered steps in
    let same : enabled p (step p s f.item) item ≡ enabled p s item = untouched_item p s f.item net item ends once on at free other in
    let apart : eqb (item_number p f.item) (item_number p item) ≡ false = ne_eqb (item_number p f.item) (item_number p item) other in
    due-looked p d offered steps f item
    ∙ ap (λ b. look p d (step p s f.item) item f.time (popped b (due_after p d offered steps item))) apart
    ∙ elim (cases_Bool (enabled p s item)) [
      | inl was ↦ let (due, is) = some_after p d offered steps item was in look-on p d (step p s f.item) item f.time due (due_after p d offered steps item) (same ∙ was) is ∙ sym is
      | inr off ↦ look-off p d (step p s f.item) item f.time (due_after p d offered steps item) (same ∙ off) ∙ sym (none_after p d offered steps item off)
    ]

-- ---- a number

module _ (p : PipelineData) (d : DelaysData) (offered : List (List Bool)) (steps : List Fired) (f : Fired) (ends : AreEnds p) (once : AreDrivenOnce p) (on : enabled p (state_after p offered steps) f.item ≡ true) where
  -- the candidates of a number before the step and after it
  abbrev pub was : ℕ → Item
  was k = candidate p (state_after p offered steps) k

  abbrev pub now : ℕ → Item
  now k = candidate p (step p (state_after p offered steps) f.item) k

  due_at-more : (k : ℕ) → due_at p d offered (steps ++ f ∷ []) k ≡ due_after p d offered (steps ++ f ∷ []) (now k)
  due_at-more k = ap (λ s. due_after p d offered (steps ++ f ∷ []) (candidate p s k)) (state-more p offered steps f)

  was-number : (k : ℕ) → k < number_count p → item_number p (was k) ≡ k
  was-number k within = candidate-number p (state_after p offered steps) k within

  now-number : (k : ℕ) → k < number_count p → item_number p (now k) ≡ k
  now-number k within = candidate-number p (step p (state_after p offered steps) f.item) k within

  -- where the new candidate was enabled before the step, it is the old one
  same-from_now : (k : ℕ) → k < number_count p → enabled p (state_after p offered steps) (now k) ≡ true → was k ≡ now k
  same-from_now k within is = ap was (sym (now-number k within)) ∙ candidate_of p (state_after p offered steps) (now k) is

  -- where the old candidate was enabled, it stays
  same-from_was : (k : ℕ) → k < number_count p → item_number p f.item ≢ k → enabled p (state_after p offered steps) (was k) ≡ true → now k ≡ was k
  same-from_was k within other is =
      ap now (sym (was-number k within))
      ∙ candidate_stays p (state_after p offered steps) f.item (was k) ends once on is (λ e. other (e ∙ was-number k within))

  -- so the due of the new candidate before the step was that of the old one
  same-due : (k : ℕ) → k < number_count p → item_number p f.item ≢ k → due_after p d offered steps (now k) ≡ due_at p d offered steps k
  same-due k within other =
      elim (cases_Bool (enabled p (state_after p offered steps) (was k))) [
        | inl is ↦ ap (due_after p d offered steps) (same-from_was k within other is)
        | inr off ↦
            none_after p d offered steps (now k) (false_from_ne_true _ (λ is.
            both_ways (enabled p (state_after p offered steps) (was k)) off (ap (enabled p (state_after p offered steps)) (same-from_now k within is) ∙ is)))
            ∙ sym (none_after p d offered steps (was k) off)
      ]

  -- a number that isn't touched is due as before
  pub due_at-free : (net k : ℕ) → net_of_step p (state_after p offered steps) f.item ≡ Some net → k < number_count p → IsFree p net k → item_number p f.item ≢ k → due_at p d offered (steps ++ f ∷ []) k ≡ due_at p d offered steps k
  due_at-free net k at within free other =
      due_at-more k
      ∙ due-untouched p d offered steps f net (now k) ends once on at (free (step p (state_after p offered steps) f.item)) (λ e. other (e ∙ now-number k within))
      ∙ same-due k within other

  -- the step's own number, where it isn't touched, is not due
  pub due_at-rests : (net : ℕ) → net_of_step p (state_after p offered steps) f.item ≡ Some net → IsFree p net (item_number p f.item) → due_at p d offered (steps ++ f ∷ []) (item_number p f.item) ≡ None
  due_at-rests net at free =
      let own : IsUntouched p net f.item = subst (IsUntouched p net) (candidate_of p (state_after p offered steps) f.item on) (free (state_after p offered steps)) in
      due_at-more (item_number p f.item)
      ∙ none_after p d offered (steps ++ f ∷ []) (now (item_number p f.item))
      (ap (λ s. enabled p s (now (item_number p f.item))) (state-more p offered steps f) ∙ own_rests p (state_after p offered steps) f.item net ends on at own)

  popped-same : (k : ℕ) → k < number_count p → popped (eqb (item_number p f.item) k) (due_after p d offered steps (now k)) ≡ popped (eqb (item_number p f.item) k) (due_at p d offered steps k)
  popped-same k within =
      elim (cases_Bool (eqb (item_number p f.item) k)) [
        | inl own ↦
            ap (λ b. popped b (due_after p d offered steps (now k))) own ∙ sym (ap (λ b. popped b (due_at p d offered steps k)) own)
        | inr other ↦ ap (popped (eqb (item_number p f.item) k)) (same-due k within (eqb-false (item_number p f.item) k other))
      ]

  -- any number is due as the look at its candidate says, from what waited there
  pub due_at-looked : (k : ℕ) → k < number_count p → due_at p d offered (steps ++ f ∷ []) k ≡ look p d (step p (state_after p offered steps) f.item) (now k) f.time (popped (eqb (item_number p f.item) k) (due_at p d offered steps k))
  due_at-looked k within =
      due_at-more k
      ∙ due-looked p d offered steps f (now k)
      ∙ ap (λ n. look p d (step p (state_after p offered steps) f.item) (now k) f.time (popped (eqb (item_number p f.item) n) (due_after p d offered steps (now k)))) (now-number k within)
      ∙ ap (look p d (step p (state_after p offered steps) f.item) (now k) f.time) (popped-same k within)

  -- ---- what was lost

  lost_was : (item : Item) → IsLost p offered (steps ++ f ∷ []) item → (item_number p f.item ≢ item_number p item) × (enabled p (state_after p offered steps) item ≡ true)
  lost_was item is =
      let (front, last) = same_from_push is.before steps is.last f (sym is.split) in
      ((λ e. is.other (ap (λ (g : Fired). item_number p g.item) last ∙ e)), subst (λ b. enabled p (state_after p offered b) item ≡ true) front is.was)

  pub lost_is_now : (item : Item) → IsLost p offered (steps ++ f ∷ []) item → now (item_number p item) ≡ item
  lost_is_now item is =
      let (other, was_on) = lost_was item is in
      candidate_stays p (state_after p offered steps) f.item item ends once on was_on other

  -- an item that was lost is the candidate of its number after the step, waited there, and isn't enabled
  pub lost_is_seen : (item : Item) → IsLost p offered (steps ++ f ∷ []) item → IsSeenLost p d offered steps f (item_number p item)
  lost_is_seen item is =
      let (other, was_on) = lost_was item is in
      let (due, waits) = some_after p d offered steps item was_on in
      record {
        other = other;
        due = due;
        waited = due_shows p d offered steps item was_on ∙ waits;
        off = ap (enabled p (step p (state_after p offered steps) f.item)) (lost_is_now item is) ∙ ap (λ s. enabled p s item) (sym (state-more p offered steps f)) ∙ is.gone;
      }

  pub seen_is_lost : (k : ℕ) → k < number_count p → IsSeenLost p d offered steps f k → IsLost p offered (steps ++ f ∷ []) (now k)
  seen_is_lost k within seen =
      let was_on : enabled p (state_after p offered steps) (was k) ≡ true = enabled_from_due p d offered steps (was k) seen.due seen.waited in
      record {
        before = steps;
        last = f;
        split = refl;
        other = λ e. seen.other (e ∙ now-number k within);
        was = ap (enabled p (state_after p offered steps)) (same-from_was k within seen.other was_on) ∙ was_on;
        gone = ap (λ s. enabled p s (now k)) (state-more p offered steps f) ∙ seen.off;
      }

  -- nothing that isn't touched is lost
  pub free_not_lost : (net : ℕ) (item : Item) → net_of_step p (state_after p offered steps) f.item ≡ Some net → IsUntouched p net item → IsLost p offered (steps ++ f ∷ []) item → ⊥
  free_not_lost net item at free is =
      let (other, was_on) = lost_was item is in
      both_ways (enabled p (state_after p offered (steps ++ f ∷ [])) item) is.gone
      (ap (λ s. enabled p s item) (state-more p offered steps f) ∙ untouched_item p (state_after p offered steps) f.item net item ends once on at free other ∙ was_on)

-- ---- the numbers that need no look

pub free-cell : (p : PipelineData) (net k : ℕ) → k < length p.netlist.cells → ((c : Cell) → CellAt p.netlist k c → Avoids net c.ins.items) → IsFree p net k
free-cell p net k lt avoids = λ s. subst (IsUntouched p net) (sym (cell_candidate p s k lt)) avoids

free_bit_item : (p : PipelineData) (net : ℕ) (falling : Bool) (bit : ℕ) → net ≢ p.ko → IsUntouched p net (bit_candidate falling bit)
free_bit_item p net true bit apart = apart
free_bit_item p net false bit apart = apart

pub free-bit : (p : PipelineData) (net k : ℕ) → length p.netlist.cells ≤ k → k < length p.netlist.cells + length p.inputs → net ≢ p.ko → IsFree p net k
free-bit p net k ge lt apart = λ s. subst (IsUntouched p net) (sym (candidate_at_bit p s k ge lt)) (free_bit_item p net s.falling (k - length p.netlist.cells) apart)

free_sink_item : (p : PipelineData) (net : ℕ) (asks : Bool) → IsApart net (rail_nets p.outputs) → IsUntouched p net (sink_candidate asks)
free_sink_item p net true apart = apart
free_sink_item p net false apart = apart

pub free-sink : (p : PipelineData) (net k : ℕ) → length p.netlist.cells + length p.inputs ≤ k → IsApart net (rail_nets p.outputs) → IsFree p net k
free-sink p net k ge apart = λ s. subst (IsUntouched p net) (sym (candidate_at_sink p s k ge)) (free_sink_item p net (s.value p.ki) apart)

-- ---- the start

none-at : (n k : ℕ) → k < n → slice_get (replicate {A = Option ℕ} n None) k ≡ Some None
none-at zero k lt = absurd (omega arith)
none-at (suc n) zero lt = refl
none-at (suc n) (suc k) lt = none-at n k (omega arith)

-- the numbers below i were looked at, at time 0
pub record IsStarting (p : PipelineData) (d : DelaysData) (offered : List (List Bool)) (i : ℕ) (waits : List (Option ℕ)) : Type 0 where
  pub count : length waits ≡ number_count p
  pub before : (k : ℕ) → k < i → slice_get waits k ≡ Some (due_at p d offered [] k)
  pub from : (k : ℕ) → i ≤ k → k < number_count p → slice_get waits k ≡ Some None

pub starting : (p : PipelineData) (d : DelaysData) (offered : List (List Bool)) → IsStarting p d offered 0 (replicate (number_count p) None)
starting p d offered = record {
  count = length-replicate (number_count p) None;
  before = λ k lt. absurd (omega arith);
  from = λ k ge lt. none-at (number_count p) k lt;
}

module _ (p : PipelineData) (d : DelaysData) (offered : List (List Bool)) (i : ℕ) (waits : List (Option ℕ)) (is : IsStarting p d offered i waits) (lt : i < number_count p) where
  -- enabled: it waits from time 0 on
  starts_to_wait : enabled p (reset p offered) (candidate p (reset p offered) i) ≡ true → IsStarting p d offered (i + 1) (set waits i (Some (due_now p d (reset p offered) 0 i)))
  starts_to_wait on =
      let none : slice_get waits i ≡ Some None = is.from i (omega arith) lt in
      let now : due_at p d offered [] i ≡ Some (due_now p d (reset p offered) 0 i) =
      cond-true (enabled p (reset p offered) (candidate p (reset p offered) i)) (Some (due_now p d (reset p offered) 0 i)) None on in
      record {
        count = length-set waits i (Some (due_now p d (reset p offered) 0 i)) ∙ is.count;
        before = λ k below. elim (cases_eq i k) [
          | inl same ↦ subst (λ n. slice_get (set waits i (Some (due_now p d (reset p offered) 0 i))) n ≡ Some (due_at p d offered [] n)) same (set-there waits i (Some (due_now p d (reset p offered) 0 i)) None none ∙ ap (λ w. Some w) (sym now))
          | inr other ↦ set-elsewhere waits i k (Some (due_now p d (reset p offered) 0 i)) other ∙ is.before k (omega arith)
        ];
        from = λ k above within. set-elsewhere waits i k (Some (due_now p d (reset p offered) 0 i)) (λ e. omega (arith, e, above)) ∙ is.from k (omega arith) within;
      }

  -- not enabled: nothing changes
  starts_to_rest : enabled p (reset p offered) (candidate p (reset p offered) i) ≡ false → IsStarting p d offered (i + 1) waits
  starts_to_rest off =
      let now : due_at p d offered [] i ≡ None = look-off p d (reset p offered) (candidate p (reset p offered) i) 0 None off in
      record {
        count = is.count;
        before = λ k below. elim (cases_eq i k) [
          | inl same ↦ subst (λ n. slice_get waits n ≡ Some (due_at p d offered [] n)) same (is.from i (omega arith) lt ∙ ap (λ w. Some w) (sym now))
          | inr other ↦ is.before k (omega arith)
        ];
        from = λ k above within. is.from k (omega arith) within;
      }

  -- so a look leads on
  pub starts_at : IsStarting p d offered (i + 1) (look_at p d (reset p offered) 0 waits i)
  starts_at =
      let none : is_waiting (slice_get waits i) ≡ false = ap is_waiting (is.from i (omega arith) lt) in
      elim (cases_Bool (enabled p (reset p offered) (candidate p (reset p offered) i))) [
        | inl on ↦
            subst (IsStarting p d offered (i + 1)) (sym (cond-true (begins p (reset p offered) waits i) (set waits i (Some (due_now p d (reset p offered) 0 i))) waits (begins-both p (reset p offered) waits i on none))) (starts_to_wait on)
        | inr off ↦
            subst (IsStarting p d offered (i + 1)) (sym (cond-false (begins p (reset p offered) waits i) (set waits i (Some (due_now p d (reset p offered) 0 i))) waits (begins-off p (reset p offered) waits i off))) (starts_to_rest off)
      ]

pub started : (p : PipelineData) (d : DelaysData) (offered : List (List Bool)) (waits : List (Option ℕ)) → IsStarting p d offered (number_count p) waits → IsTracked p d offered [] waits
started p d offered waits is = record { count = is.count; at = is.before }
