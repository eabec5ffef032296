-- The count of the rails that the source has raised, as nets change.
use Rattle.ncl_machine.proofs.Terms.{All, All-contains, All-from_members, Bool, Contains, Contains-from_Member, Contains-from_slice_get, Held, IsCounted, List, Member, Member-from_Contains, None, Pair, Some, ap, arith, count_of, current_word, false, false_from_ne_true, length, length-set, list_all, nat_eq, net_values, not, other_rails, rail_nets, rails_beside, rails_of_word, refl, set, slice_get, slice_get_within, subst, sym, true, ℕ, ◌+◌, ◌<◌, ◌∙◌, ◌≡◌, ◌≢◌, ◌≤◌}
use Rattle.ncl_machine.proofs.AtWorkLaws.{with_net-elsewhere}
use Rattle.ncl_machine.proofs.Counts.{count-all, count-few, count-none, count-same, count-some, count-nothing, count-rises, count-falls}
use Rattle.ncl_machine.proofs.SourceRails.{current-within, beside-within, current-apart, beside-apart, all_rails, length-current}
use Rattle.ncl_machine.proofs.ValueLists.{net_values-set}

module _ (h : Held) (raised : ℕ) (is : IsCounted h raised) where
  -- the current word, if there is one, has a bit for each input
  pub wide : (word : List Bool) → slice_get h.offered h.done ≡ Some word → length word ≡ length h.inputs
  wide word at = All-contains (λ (w : List Bool). length w ≡ length h.inputs) h.offered word is.words (Contains-from_slice_get h.offered h.done word at)

  module _ (net : ℕ) (value : Bool) (within : net < length h.values) where
    abbrev new : List Bool
    new = set h.values net value

    elsewhere : (x : ℕ) → net ≢ x → net_values (set h.values net value) x ≡ net_values h.values x
    elsewhere x apart = ap (λ v. v x) (net_values-set h.values net value within) ∙ with_net-elsewhere (net_values h.values) net x value apart

    inside : (x : ℕ) → x < length h.values → x < length (set h.values net value)
    inside x lt = subst (λ n. x < n) (sym (length-set h.values net value)) lt

    all_inside : All (λ x. x < length (set h.values net value)) (rail_nets h.inputs)
    all_inside = subst (λ n. All (λ x. x < n) (rail_nets h.inputs)) (sym (length-set h.values net value)) is.within

    -- the other nets are where they were, with what is counted then
    counted : (falling : Bool) (done : ℕ) (delivered : List Pair) (count : ℕ) → count ≡ count_of (net_values (set h.values net value)) (rails_of_word h.inputs (slice_get h.offered done))
        → ((x : ℕ) → Member x (rails_beside h.inputs (slice_get h.offered done)) → net_values (set h.values net value) x ≡ false)
        → IsCounted (record h { values = set h.values net value; falling = falling; done = done; delivered = delivered }) count
    counted falling done delivered count so low = record {
      words = is.words;
      apart = is.apart;
      within = all_inside;
      ki_apart = is.ki_apart;
      ki_within = inside h.ki is.ki_within;
      ko_within = inside h.ko is.ko_within;
      count = so;
      others = All-from_members (λ x. net_values (set h.values net value) x ≡ false) (rails_beside h.inputs (slice_get h.offered done)) low;
    }

    -- a net that is no rail of the inputs
    pub apart-counted : (Contains (rail_nets h.inputs) net → ⊥) → (delivered : List Pair)
        → IsCounted (record h { values = set h.values net value; delivered = delivered }) raised
    apart-counted apart delivered = counted h.falling h.done delivered raised
        (is.count ∙ sym (count-same (net_values h.values) (net_values (set h.values net value)) (current_word h)
        (λ x m. elsewhere x (off x (current-within h.inputs (slice_get h.offered h.done) x m)))))
        (λ x m. elsewhere x (off x (beside-within h.inputs (slice_get h.offered h.done) x m)) ∙ All-contains (λ y. net_values h.values y ≡ false) (other_rails h) x is.others (Contains-from_Member x m))
      where
        off : (x : ℕ) → Member x (rail_nets h.inputs) → net ≢ x
        off x m e = apart (Contains-from_Member net (subst (λ y. Member y (rail_nets h.inputs)) (sym e) m))

    -- a rail of the current word: the others keep their values
    module _ (named : Contains (current_word h) net) where
      is_named : Member net (current_word h)
      is_named = Member-from_Contains (current_word h) net named

      others_low : (x : ℕ) → Member x (other_rails h) → net_values (set h.values net value) x ≡ false
      others_low x m =
          elsewhere x (λ e. beside-apart h.inputs is.apart (slice_get h.offered h.done) net is_named (subst (λ y. Member y (other_rails h)) (sym e) m))
          ∙ All-contains (λ y. net_values h.values y ≡ false) (other_rails h) x is.others (Contains-from_Member x m)

      -- with the count that there is then
      pub named-counted : (falling : Bool) (count : ℕ) → count ≡ count_of (net_values (set h.values net value)) (current_word h)
          → IsCounted (record h { values = set h.values net value; falling = falling }) count
      named-counted falling count so = counted falling h.done h.delivered count so others_low

      -- where none is high, the next word begins
      all_low : 0 ≡ count_of (net_values (set h.values net value)) (current_word h) → (x : ℕ) → Member x (rail_nets h.inputs) → net_values (set h.values net value) x ≡ false
      all_low none =
          all_rails (λ x. net_values (set h.values net value) x ≡ false) h.inputs (slice_get h.offered h.done) wide
          (λ x m. false_from_ne_true _ (λ high. let some = count-some (net_values (set h.values net value)) (current_word h) x m high in omega (arith, none, some)))
          others_low

      pub next-counted : 0 ≡ count_of (net_values (set h.values net value)) (current_word h)
          → IsCounted (record h { values = set h.values net value; falling = false; done = h.done + 1 }) 0
      next-counted none = counted false (h.done + 1) h.delivered 0
          (sym (count-nothing (net_values (set h.values net value)) _ (λ x m. all_low none x (current-within h.inputs (slice_get h.offered (h.done + 1)) x m))))
          (λ x m. all_low none x (beside-within h.inputs (slice_get h.offered (h.done + 1)) x m))

      -- all are high where the count is that of the inputs, and all are low where it is 0
      pub all_raised : (count : ℕ) → count ≡ count_of (net_values (set h.values net value)) (current_word h)
          → nat_eq count (length h.inputs) ≡ list_all (net_values (set h.values net value)) (current_word h)
      all_raised count so =
          ap (λ n. nat_eq n (length h.inputs)) so
          ∙ ap (nat_eq (count_of (net_values (set h.values net value)) (current_word h))) (sym (length-current h.inputs (slice_get h.offered h.done) wide net is_named))
          ∙ sym (count-all (net_values (set h.values net value)) (current_word h))

      pub all_lowered : (count : ℕ) → count ≡ count_of (net_values (set h.values net value)) (current_word h)
          → nat_eq count 0 ≡ list_all (λ rail. not (net_values (set h.values net value) rail)) (current_word h)
      all_lowered count so = ap (λ n. nat_eq n 0) so ∙ sym (count-none (net_values (set h.values net value)) (current_word h))

  -- one more is high where a rail is raised, one less where one is lowered
  module _ (net : ℕ) (within : net < length h.values) (named : Contains (current_word h) net) where
    is_one : Member net (current_word h)
    is_one = Member-from_Contains (current_word h) net named

    pub count_raised : net_values h.values net ≡ false → raised + 1 ≡ count_of (net_values (set h.values net true)) (current_word h)
    count_raised low =
        let up = count-rises (net_values h.values) net (current_word h) (current-apart h.inputs is.apart (slice_get h.offered h.done)) is_one low in
        let same = ap (λ v. count_of v (current_word h)) (net_values-set h.values net true within) in
        let before = is.count in
        omega (arith, up, same, before)

    pub count_lowered : net_values h.values net ≡ true → raised ≡ count_of (net_values (set h.values net false)) (current_word h) + 1
    count_lowered high =
        let down = count-falls (net_values h.values) net (current_word h) (current-apart h.inputs is.apart (slice_get h.offered h.done)) is_one high in
        let same = ap (λ v. count_of v (current_word h)) (net_values-set h.values net false within) in
        let before = is.count in
        omega (arith, down, same, before)

    -- there are no more than inputs
    pub few_raised : (v : ℕ → Bool) → count_of v (current_word h) ≤ length h.inputs
    few_raised v =
        let few = count-few v (current_word h) in
        let long = length-current h.inputs (slice_get h.offered h.done) wide net is_one in
        omega (arith, few, long)

    -- and there is a current word
    pub word_there : h.done < length h.offered
    word_there = by_word (slice_get h.offered h.done) refl is_one
      where
        by_word : (o : _) → slice_get h.offered h.done ≡ o → Member net (rails_of_word h.inputs o) → h.done < length h.offered
        by_word None at m = elim m [ ]
        by_word (Some word) at m = slice_get_within h.offered h.done word at
