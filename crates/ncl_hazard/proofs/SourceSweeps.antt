-- The source, tried bit by bit: it raises all rails of its word, and lowers them.
use Rattle.ncl_hazard.proofs.Terms.{Bool, Item, List, Lower, Member, Nets, PipelineData, Raise, Some, State, [], after_lower, after_raise, and_from, and_right, ap, arith, bit_at, both_ways, cases_Bool, cases_eq, current_rails, differ, enabled, false, false_from_ne_true, has_value, here, if◌then◌else◌, inl, inr, length, list_all, list_all-member, lowered-value, lowers, map, named-get, named-has, named-place, named_rails, not, put_at, rail_at, rails_of_word, raises, range_with_len, refl, slice_get, step, subst, suc, sym, there, tried, true, turned, with_net, with_net-elsewhere, with_net-here, with_net-keeps, zero, ℕ, ◌&&◌, ◌+◌, ◌<◌, ◌∙◌, ◌∷◌, ◌≡◌, ◌≤◌, ◌⊎◌}

module _ (p : PipelineData) (word : List Bool) (wide : length word ≡ length p.inputs) where
  abbrev pub rails : List ℕ
  rails = named_rails p.inputs word

  -- the rail of a bit that the word names
  abbrev pub rail : ℕ → ℕ
  rail b = rail_at p.inputs b (bit_at word b)

  -- the source is at this word
  record IsOffered (s : State) : Type 0 where
    pub offered : s.offered ≡ word ∷ []
    pub done : s.done ≡ 0

  rails-now : (s : State) → IsOffered s → current_rails p s ≡ rails
  rails-now s is = ap (λ o. rails_of_word p.inputs (slice_get o s.done)) is.offered ∙ ap (λ d. rails_of_word p.inputs (slice_get (word ∷ []) d)) is.done

  rail-now : (s : State) → IsOffered s → (b : ℕ) → b < length p.inputs → slice_get (current_rails p s) b ≡ Some (rail b)
  rail-now s is b lt = ap (λ xs. slice_get xs b) (rails-now s is) ∙ named-get p.inputs word wide b lt

  -- all rails of the word, by its bits
  all_rails : (P : ℕ → Type 0) → ((b : ℕ) → b < length p.inputs → P (rail b)) → (net : ℕ) → Member net rails → P net
  all_rails P each net m = let (b, lt, e) = named-place p.inputs word net m in subst P (sym e) (each b lt)

  passes_all : (test : ℕ → Bool) (nets : List ℕ) → ((net : ℕ) → Member net nets → test net ≡ true) → list_all test nets ≡ true
  passes_all test [] each = refl
  passes_all test (x ∷ xs) each = and_from (test x) (list_all test xs) (each x here) (passes_all test xs (λ y m. each y (there m)))

  -- a rail of the word, by its bit
  rail-in : (b : ℕ) → b < length p.inputs → Member (rail b) rails
  rail-in b lt = named-has p.inputs word wide b lt

  -- ---- all rails in turn

  -- where an event gives a rail a value that no other event takes away, the events of all bits give it to all rails
  each-turn : (turn : ℕ → Item) (bit : Bool) (Is : State → Type 0)
      → ((s : State) → Is s → (b : ℕ) → b < length p.inputs → Is (turned p s (turn b)) × ((turned p s (turn b)).value (rail b) ≡ bit) × ((net : ℕ) → s.value net ≡ bit → (turned p s (turn b)).value net ≡ bit))
      → (n from : ℕ) → from + n ≤ length p.inputs → (s : State) → Is s
      → Is (tried p s (map turn (range_with_len from n)))
      × ((b : ℕ) → from ≤ b → b < from + n → (tried p s (map turn (range_with_len from n))).value (rail b) ≡ bit)
      × ((net : ℕ) → s.value net ≡ bit → (tried p s (map turn (range_with_len from n))).value net ≡ bit)
  each-turn turn bit Is one zero from le s is = (is, λ b past before. absurd (omega (arith, past, before)), λ net h. h)
  each-turn turn bit Is one (suc n) from le s is =
      let (turned_is, given, kept) = one s is from (omega (arith, le)) in
      let (all, bits, keeps) = each-turn turn bit Is one n (from + 1) (omega (arith, le)) (turned p s (turn from)) turned_is in (
        all,
        λ b past before. elim (cases_eq from b) [
          | inl e ↦ subst (λ x. (tried p (turned p s (turn from)) (map turn (range_with_len (from + 1) n))).value (rail x) ≡ bit) e (keeps (rail from) given)
          | inr apart ↦ bits b (omega (arith, past, apart)) (omega (arith, before))
        ],
        λ net h. keeps net (kept net h),
      )

  -- ---- raising

  record IsRaising (start : Nets) (s : State) : Type 0 where
    pub is : IsOffered s
    pub falling : s.falling ≡ list_all s.value rails
    pub others : (net : ℕ) → (Member net rails → ⊥) → s.value net ≡ start net

  module _ (start : Nets) (asks : start p.ko ≡ true) (ko : Member p.ko rails → ⊥) where
    raise-one : (s : State) → IsRaising start s → (b : ℕ) → b < length p.inputs
        → IsRaising start (turned p s (Raise b)) × ((turned p s (Raise b)).value (rail b) ≡ true) × ((net : ℕ) → s.value net ≡ true → (turned p s (Raise b)).value net ≡ true)
    raise-one s ing b lt = elim (cases_Bool (s.value (rail b))) [
      | inl high ↦
          let not_now : enabled p s (Raise b) ≡ false = and_right (not s.falling && s.value p.ko) _ (ap (λ o. has_value s.value o false) (rail-now s ing.is b lt) ∙ ap (λ x. not (differ x false)) high) in
          let same : turned p s (Raise b) ≡ s = ap (λ e. if e then step p s (Raise b) else s) not_now in
          subst (λ t. IsRaising start t × (t.value (rail b) ≡ true) × ((net : ℕ) → s.value net ≡ true → t.value net ≡ true)) (sym same) (ing, high, λ net h. h)
      | inr low ↦
          let rises : s.falling ≡ false = ing.falling ∙ false_from_ne_true _ (λ all. both_ways _ low (list_all-member s.value rails all (rail b) (rail-in b lt))) in
          let now : enabled p s (Raise b) ≡ true =
          ap (λ f. not f && s.value p.ko && has_value s.value (slice_get (current_rails p s) b) false) rises
          ∙ ap (λ v. v && has_value s.value (slice_get (current_rails p s) b) false) (ing.others p.ko ko ∙ asks)
          ∙ ap (λ o. has_value s.value o false) (rail-now s ing.is b lt) ∙ ap (λ x. not (differ x false)) low in
          let v : Nets = with_net s.value (rail b) true in
          let made : turned p s (Raise b) ≡ record s { value = v; falling = list_all v rails } =
          ap (λ e. if e then step p s (Raise b) else s) now
          ∙ ap (λ o. after_raise p s (put_at s.value o true)) (rail-now s ing.is b lt)
          ∙ ap (λ xs. record s { value = v; falling = list_all v xs }) (rails-now s ing.is) in
          subst (λ t. IsRaising start t × (t.value (rail b) ≡ true) × ((net : ℕ) → s.value net ≡ true → t.value net ≡ true)) (sym made) (
            record {
              is = record { offered = ing.is.offered; done = ing.is.done };
              falling = refl;
              others = λ net none. with_net-elsewhere s.value (rail b) net true (λ e. none (subst (λ x. Member x rails) e (rail-in b lt))) ∙ ing.others net none;
            },
            with_net-here s.value (rail b) true,
            λ net h. with_net-keeps s.value (rail b) net true h,
          )
    ]

    -- once all bits were tried, the source lowers, each rail of the word is high, and nothing else has changed
    pub raised : (s : State) → s.offered ≡ word ∷ [] → s.done ≡ 0 → s.falling ≡ list_all s.value rails → s.value ≡ start
        → let t : State = tried p s (raises (length p.inputs)) in
        (t.offered ≡ word ∷ []) × (t.done ≡ 0) × (t.falling ≡ true) × ((net : ℕ) → Member net rails → t.value net ≡ true) × ((net : ℕ) → (Member net rails → ⊥) → t.value net ≡ start net)
    raised s offered done falling value =
        let (all, highs, keeps) = each-turn (λ bit. Raise bit) true (IsRaising start) raise-one (length p.inputs) 0 (omega arith) s (record { is = record { offered = offered; done = done }; falling = falling; others = λ net none. ap (λ v. v net) value }) in
        let high : (net : ℕ) → Member net rails → (tried p s (raises (length p.inputs))).value net ≡ true = all_rails (λ net. (tried p s (raises (length p.inputs))).value net ≡ true) (λ b lt. highs b (omega arith) (omega (arith, lt))) in
        (all.is.offered, all.is.done, all.falling ∙ passes_all (tried p s (raises (length p.inputs))).value rails high, high, all.others)

  -- ---- lowering

  -- the source lowers, or all is low
  record IsLowering (start : Nets) (s : State) : Type 0 where
    pub either : (IsOffered s × (s.falling ≡ true)) ⊎ ((s.falling ≡ false) × ((net : ℕ) → Member net rails → s.value net ≡ false))
    pub others : (net : ℕ) → (Member net rails → ⊥) → s.value net ≡ start net

  module _ (start : Nets) (asks : start p.ko ≡ false) (ko : Member p.ko rails → ⊥) where
    lowered-now : (s : State) (v : Nets) → ((net : ℕ) → (Member net rails → ⊥) → v net ≡ start net) → IsOffered s → s.falling ≡ true → (all : Bool) → list_all (λ net. not (v net)) rails ≡ all
        → IsLowering start (if all then record s { value = v; falling = false; done = s.done + 1 } else record s { value = v })
    lowered-now s v others is falls true all = record {
      either = inr (refl, λ net m. low_from (v net) (list_all-member (λ net. not (v net)) rails all net m));
      others = others;
    }
      where
        low_from : (b : Bool) → not b ≡ true → b ≡ false
        low_from true e = absurd (both_ways false refl e)
        low_from false e = refl
    lowered-now s v others is falls false some = record { either = inl (record { offered = is.offered; done = is.done }, falls); others = others }

    lower-one : (s : State) → IsLowering start s → (b : ℕ) → b < length p.inputs
        → IsLowering start (turned p s (Lower b)) × ((turned p s (Lower b)).value (rail b) ≡ false) × ((net : ℕ) → s.value net ≡ false → (turned p s (Lower b)).value net ≡ false)
    lower-one s ing b lt = elim ing.either [
      | inr (rests, low) ↦
          let not_now : enabled p s (Lower b) ≡ false = ap (λ f. f && not (s.value p.ko) && has_value s.value (slice_get (current_rails p s) b) true) rests in
          stays not_now (low (rail b) (rail-in b lt))
      | inl (is, falls) ↦ elim (cases_Bool (s.value (rail b))) [
        | inr low ↦
            let not_now : enabled p s (Lower b) ≡ false = and_right (s.falling && not (s.value p.ko)) _ (ap (λ o. has_value s.value o true) (rail-now s is b lt) ∙ ap (λ x. not (differ x true)) low) in
            stays not_now low
        | inl high ↦
            let now : enabled p s (Lower b) ≡ true =
            ap (λ f. f && not (s.value p.ko) && has_value s.value (slice_get (current_rails p s) b) true) falls
            ∙ ap (λ v. not v && has_value s.value (slice_get (current_rails p s) b) true) (ing.others p.ko ko ∙ asks)
            ∙ ap (λ o. has_value s.value o true) (rail-now s is b lt) ∙ ap (λ x. not (differ x true)) high in
            let v : Nets = with_net s.value (rail b) false in
            let made : turned p s (Lower b) ≡ (if list_all (λ net. not (v net)) rails then record s { value = v; falling = false; done = s.done + 1 } else record s { value = v }) =
            ap (λ e. if e then step p s (Lower b) else s) now
            ∙ ap (λ o. after_lower p s (put_at s.value o false)) (rail-now s is b lt)
            ∙ ap (λ xs. if list_all (λ net. not (v net)) xs then record s { value = v; falling = false; done = s.done + 1 } else record s { value = v }) (rails-now s is) in
            let value_is : (turned p s (Lower b)).value ≡ v = ap (λ (t : State). t.value) made ∙ lowered-value s v (list_all (λ net. not (v net)) rails) in (
              subst (IsLowering start) (sym made)
                  (lowered-now s v (λ net none. with_net-elsewhere s.value (rail b) net false (λ e. none (subst (λ x. Member x rails) e (rail-in b lt))) ∙ ing.others net none) is falls (list_all (λ net. not (v net)) rails) refl),
              ap (λ u. u (rail b)) value_is ∙ with_net-here s.value (rail b) false,
              λ net low. ap (λ u. u net) value_is ∙ with_net-keeps s.value (rail b) net false low,
            )
      ]
    ]
      where
        stays : enabled p s (Lower b) ≡ false → s.value (rail b) ≡ false → IsLowering start (turned p s (Lower b)) × ((turned p s (Lower b)).value (rail b) ≡ false) × ((net : ℕ) → s.value net ≡ false → (turned p s (Lower b)).value net ≡ false)
        stays not_now low =
            let same : turned p s (Lower b) ≡ s = ap (λ e. if e then step p s (Lower b) else s) not_now in
            subst (λ t. IsLowering start t × (t.value (rail b) ≡ false) × ((net : ℕ) → s.value net ≡ false → t.value net ≡ false)) (sym same) (ing, low, λ net h. h)

    -- once all bits were tried, each rail of the word is low, and nothing else has changed
    pub lowered : (s : State) → s.offered ≡ word ∷ [] → s.done ≡ 0 → s.falling ≡ true → s.value ≡ start
        → let t : State = tried p s (lowers (length p.inputs)) in
        ((net : ℕ) → Member net rails → t.value net ≡ false) × ((net : ℕ) → (Member net rails → ⊥) → t.value net ≡ start net)
    lowered s offered done falls value =
        let (all, lows, keeps) = each-turn (λ bit. Lower bit) false (IsLowering start) lower-one (length p.inputs) 0 (omega arith) s (record { either = inl (record { offered = offered; done = done }, falls); others = λ net none. ap (λ v. v net) value }) in
        (all_rails (λ net. (tried p s (lowers (length p.inputs))).value net ≡ false) (λ b lt. lows b (omega arith) (omega (arith, lt))), all.others)
