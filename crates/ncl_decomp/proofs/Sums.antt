-- Sums of products that nodes make out of others: one after another, among others, with a signal more.
use Rattle.ncl_decomp.proofs.Terms.{AddsSum, All, All-append, All-cons, All-head, All-left, All-nil, All-right, All-tail, AreVarying, Bool, Frame, IsFilled, IsNarrow, IsSameSum, IsSource, IsSource-more, List, Node, ReadBefore, Signal, TellSum, [], ap, append-nil, append_assoc, arith, false, is_constant, is_empty, length, length-append, length-node_values, list_all, list_any, list_any-append, node_values, refl, signal_value, subst, sum_by-append, sum_by-cons, sym, total, true, under, whole, ℕ, ◌&&◌, ◌++◌, ◌+◌, ◌<◌, ◌||◌, ◌∙◌, ◌∷◌, ◌≡◌, ◌≤◌}
use Rattle.ncl_decomp.proofs.Later.{node_values-append, signal_kept, sum_same, ReadBefore-append, All-varying-more}

-- ---- no node

none_tell : (inputs count : ℕ) (sum new : List (List Signal)) → All (AreVarying inputs count) new → ((word bits : List Bool) → list_any (list_all (signal_value word bits)) new ≡ list_any (list_all (signal_value word bits)) sum) → TellSum inputs count sum [] new
none_tell inputs count sum new varying values = record {
  narrow = All-nil IsNarrow;
  pairs = All-nil (λ (node : Node). length node.ins ≡ 2);
  reads_before = tt;
  varying = subst (λ n. All (AreVarying inputs n) new) (let same : count ≡ count + 0 = omega arith in same) varying;
  values = λ word bits counted. values word bits;
}

pub AddsSum-same : (before : List Node) (sum new : List (List Signal)) → IsSameSum sum new → AddsSum sum before before new
AddsSum-same before sum new is = record {
  made = [];
  added = sym (append-nil before);
  few = omega (arith, is.few);
  shorter = omega (arith, is.as_many);
  some = λ some. omega (arith, is.as_many);
  filled = is.filled;
  tell = λ inputs varying. none_tell inputs (length before) sum new (is.varying inputs (length before) varying) (λ word bits. is.same (signal_value word bits));
}

-- ---- one after another

module _ (sum between new : List (List Signal)) (before middle after : List Node) (first : AddsSum sum before middle between) (second : AddsSum between middle after new) where
  middle_count : length middle ≡ length before + length first.made
  middle_count = ap length first.added ∙ length-append before first.made

  then_tell : (inputs : ℕ) → All (AreVarying inputs (length before)) sum → TellSum inputs (length before) sum (first.made ++ second.made) new
  then_tell inputs varying =
      let one : TellSum inputs (length before) sum first.made between = first.tell inputs varying in
      let two : TellSum inputs (length middle) between second.made new = second.tell inputs (subst (λ n. All (AreVarying inputs n) between) (sym middle_count) one.varying) in
      let whole : length (first.made ++ second.made) ≡ length first.made + length second.made = length-append first.made second.made in
      let place : length middle + length second.made ≡ length before + length (first.made ++ second.made) = omega (arith, whole, middle_count) in
      record {
        narrow = All-append IsNarrow first.made second.made one.narrow two.narrow;
        pairs = All-append (λ (node : Node). length node.ins ≡ 2) first.made second.made one.pairs two.pairs;
        reads_before = ReadBefore-append inputs (length before) first.made second.made one.reads_before (subst (λ n. ReadBefore inputs n second.made) middle_count two.reads_before);
        varying = subst (λ n. All (AreVarying inputs n) new) place two.varying;
        values = λ word bits count.
            let bits1 : List Bool = node_values word bits first.made in
            let count1 : length bits1 ≡ length middle = omega (arith, length-node_values word bits first.made, middle_count) in
            ap (λ b. list_any (list_all (signal_value word b)) new) (node_values-append word bits first.made second.made)
            ∙ two.values word bits1 count1 ∙ one.values word bits count;
      }

  pub AddsSum-then : AddsSum sum before after new
  AddsSum-then = record {
    made = first.made ++ second.made;
    added = second.added ∙ ap (λ front. front ++ second.made) first.added ∙ append_assoc before first.made second.made;
    few = omega (arith, first.few, second.few, length-append first.made second.made);
    shorter = omega (arith, first.shorter, second.shorter);
    some = λ some. second.some (first.some some);
    filled = λ filled. second.filled (first.filled filled);
    tell = then_tell;
  }

-- ---- among others

among_some : (others sum new : List (List Signal)) → (0 < length sum → 0 < length new) → 0 < length (others ++ sum) → 0 < length (others ++ new)
among_some [] sum new some there = some there
among_some (product ∷ others) sum new some there = omega arith

pub AddsSum-among : (others sum new : List (List Signal)) (before after : List Node) → AddsSum sum before after new → AddsSum (others ++ sum) before after (others ++ new)
AddsSum-among others sum new before after adds = record {
  made = adds.made;
  added = adds.added;
  few = omega (arith, adds.few, sum_by-append (λ (product : List Signal). length product) others sum, sum_by-append (λ (product : List Signal). length product) others new);
  shorter = omega (arith, adds.shorter, length-append others sum, length-append others new);
  some = λ some. among_some others sum new adds.some some;
  filled = λ filled. All-append IsFilled others new (All-left IsFilled others sum filled) (adds.filled (All-right IsFilled others sum filled));
  tell = λ inputs varying.
      let front : All (AreVarying inputs (length before)) others = All-left (AreVarying inputs (length before)) others sum varying in
      let tell : TellSum inputs (length before) sum adds.made new = adds.tell inputs (All-right (AreVarying inputs (length before)) others sum varying) in
      record {
        narrow = tell.narrow;
        pairs = tell.pairs;
        reads_before = tell.reads_before;
        varying = All-append (AreVarying inputs (length before + length adds.made)) others new (All-varying-more inputs (length before) (length before + length adds.made) others (omega arith) front) tell.varying;
        values = λ word bits count.
            let later : List Bool = node_values word bits adds.made in
            let stays : list_any (list_all (signal_value word later)) others ≡ list_any (list_all (signal_value word bits)) others = sum_same inputs word bits adds.made others (subst (λ n. All (AreVarying inputs n) others) (sym count) front) in
            list_any-append (list_all (signal_value word later)) others new
            ∙ (λ i. stays i || tell.values word bits count i)
            ∙ sym (list_any-append (list_all (signal_value word bits)) others sum);
      };
}

-- ---- with a signal more

pub under_filled : (literal : Signal) (sum : List (List Signal)) → All IsFilled (under literal sum)
under_filled literal [] = All-nil IsFilled
under_filled literal (product ∷ sum) = All-cons IsFilled (literal ∷ product) (under literal sum) (let some : 0 < length (literal ∷ product) = omega arith in some) (under_filled literal sum)

under_varying : (inputs count : ℕ) (literal : Signal) (sum : List (List Signal)) → IsSource inputs count literal.from → is_constant literal.from ≡ false → All (AreVarying inputs count) sum → All (AreVarying inputs count) (under literal sum)
under_varying inputs count literal [] exists varies all = All-nil (AreVarying inputs count)
under_varying inputs count literal (product ∷ sum) exists varies all =
    let here : AreVarying inputs count product = All-head (AreVarying inputs count) product sum all in
    All-cons (AreVarying inputs count) (literal ∷ product) (under literal sum)
    (record { exist = All-cons (λ (s : Signal). IsSource inputs count s.from) literal product exists here.exist; vary = All-cons (λ (s : Signal). is_constant s.from ≡ false) literal product varies here.vary })
    (under_varying inputs count literal sum exists varies (All-tail (AreVarying inputs count) product sum all))

-- what is known of products with a signal more is known of them
less_varying : (inputs count : ℕ) (literal : Signal) (sum : List (List Signal)) → All (AreVarying inputs count) (under literal sum) → All (AreVarying inputs count) sum
less_varying inputs count literal [] all = All-nil (AreVarying inputs count)
less_varying inputs count literal (product ∷ sum) all =
    let here : AreVarying inputs count (literal ∷ product) = All-head (AreVarying inputs count) (literal ∷ product) (under literal sum) all in
    All-cons (AreVarying inputs count) product sum
    (record { exist = All-tail (λ (s : Signal). IsSource inputs count s.from) literal product here.exist; vary = All-tail (λ (s : Signal). is_constant s.from ≡ false) literal product here.vary })
    (less_varying inputs count literal sum (All-tail (AreVarying inputs count) (literal ∷ product) (under literal sum) all))

pub under_count : (literal : Signal) (sum : List (List Signal)) → length (under literal sum) ≡ length sum
under_count literal [] = refl
under_count literal (product ∷ sum) = omega (arith, under_count literal sum)

pub under_total : (literal : Signal) (sum : List (List Signal)) → total (under literal sum) ≡ length sum + total sum
under_total literal [] = refl
under_total literal (product ∷ sum) =
    omega (arith, under_total literal sum, sum_by-cons (λ (product : List Signal). length product) (literal ∷ product) (under literal sum), sum_by-cons (λ (product : List Signal). length product) product sum)

and_or : (a b c : Bool) → ((a && b) || (a && c)) ≡ (a && (b || c))
and_or true b c = refl
and_or false b c = refl

and_false : (a : Bool) → false ≡ (a && false)
and_false true = refl
and_false false = refl

pub under_value : (test : Signal → Bool) (literal : Signal) (sum : List (List Signal)) → list_any (list_all test) (under literal sum) ≡ (test literal && list_any (list_all test) sum)
under_value test literal [] = and_false (test literal)
under_value test literal (product ∷ sum) =
    ap (λ b. (test literal && list_all test product) || b) (under_value test literal sum) ∙ and_or (test literal) (list_all test product) (list_any (list_all test) sum)

under_tell : (inputs count : ℕ) (literal : Signal) (sum new : List (List Signal)) (made : List Node) → IsSource inputs count literal.from → is_constant literal.from ≡ false → TellSum inputs count sum made new → TellSum inputs count (under literal sum) made (under literal new)
under_tell inputs count literal sum new made exists varies tell = record {
  narrow = tell.narrow;
  pairs = tell.pairs;
  reads_before = tell.reads_before;
  varying = under_varying inputs (count + length made) literal new (IsSource-more inputs count (count + length made) literal.from (omega arith) exists) varies tell.varying;
  values = λ word bits counted.
      let later : List Bool = node_values word bits made in
      let stays : signal_value word later literal ≡ signal_value word bits literal = signal_kept inputs word bits made literal (subst (λ n. IsSource inputs n literal.from) (sym counted) exists) in
      under_value (signal_value word later) literal new
      ∙ (λ i. stays i && tell.values word bits counted i)
      ∙ sym (under_value (signal_value word bits) literal sum);
}

pub AddsSum-under : (literal : Signal) (sum new : List (List Signal)) (before after : List Node) → AddsSum sum before after new → AddsSum (under literal sum) before after (under literal new)
AddsSum-under literal [] [] before after adds = adds
AddsSum-under literal [] (product ∷ new) before after adds = absurd (omega (arith, adds.shorter))
AddsSum-under literal (product ∷ sum) new before after adds = record {
  made = adds.made;
  added = adds.added;
  few = omega (arith, adds.few, adds.shorter, under_total literal (product ∷ sum), under_total literal new);
  shorter = omega (arith, adds.shorter, under_count literal (product ∷ sum), under_count literal new);
  some = λ some. omega (arith, under_count literal new, adds.some (let there : 0 < length (product ∷ sum) = omega arith in there));
  filled = λ filled. under_filled literal new;
  tell = λ inputs varying.
      let here : AreVarying inputs (length before) (literal ∷ product) = All-head (AreVarying inputs (length before)) (literal ∷ product) (under literal sum) varying in
      under_tell inputs (length before) literal (product ∷ sum) new adds.made
      (All-head (λ (s : Signal). IsSource inputs (length before) s.from) literal product here.exist)
      (All-head (λ (s : Signal). is_constant s.from ≡ false) literal product here.vary)
      (adds.tell inputs (less_varying inputs (length before) literal (product ∷ sum) varying));
}

-- ---- under frames

pub AddsSum-whole : (frames : List Frame) (sum new : List (List Signal)) (before after : List Node) → AddsSum sum before after new → AddsSum (whole frames sum) before after (whole frames new)
AddsSum-whole [] sum new before after adds = adds
AddsSum-whole (frame ∷ frames) sum new before after adds =
    AddsSum-among frame.others (under frame.literal (whole frames sum)) (under frame.literal (whole frames new)) before after
    (AddsSum-under frame.literal (whole frames sum) (whole frames new) before after (AddsSum-whole frames sum new before after adds))

pub whole_push : (frames : List Frame) (frame : Frame) (sum : List (List Signal)) → whole (frames ++ frame ∷ []) sum ≡ whole frames (frame.others ++ under frame.literal sum)
whole_push [] frame sum = refl
whole_push (f ∷ frames) frame sum = ap (λ rest. f.others ++ under f.literal rest) (whole_push frames frame sum)

pub whole_room : (frames : List Frame) (sum : List (List Signal)) → total sum ≤ total (whole frames sum)
whole_room [] sum = omega arith
whole_room (f ∷ frames) sum =
    omega (arith, whole_room frames sum, under_total f.literal (whole frames sum), sum_by-append (λ (product : List Signal). length product) f.others (under f.literal (whole frames sum)))

-- ---- a product without signals

empty_value : (test : Signal → Bool) (sum : List (List Signal)) → list_any is_empty sum ≡ true → true ≡ list_any (list_all test) sum
empty_value test [] some = absurd (cc)
empty_value test ([] ∷ sum) some = refl
empty_value test ((s ∷ product) ∷ sum) some =
    or_true (list_all test (s ∷ product)) ∙ ap (λ b. list_all test (s ∷ product) || b) (empty_value test sum some)
  where
    or_true : (a : Bool) → true ≡ (a || true)
    or_true true = refl
    or_true false = refl

not_filled : (sum : List (List Signal)) → list_any is_empty sum ≡ true → All IsFilled sum → All IsFilled ([] ∷ [])
not_filled [] some filled = absurd (cc)
not_filled ([] ∷ sum) some filled =
    let here : 0 < 0 = All-head IsFilled [] sum filled in absurd (omega (arith, here))
not_filled ((s ∷ product) ∷ sum) some filled = not_filled sum some (All-tail IsFilled (s ∷ product) sum filled)

pub AddsSum-always : (before : List Node) (sum : List (List Signal)) → 0 < length sum → list_any is_empty sum ≡ true → AddsSum sum before before ([] ∷ [])
AddsSum-always before sum there empty = record {
  made = [];
  added = sym (append-nil before);
  few = omega arith;
  shorter = omega arith;
  some = λ some. omega arith;
  filled = λ filled. not_filled sum empty filled;
  tell = λ inputs varying. none_tell inputs (length before) sum ([] ∷ [])
      (All-cons (AreVarying inputs (length before)) [] [] (record { exist = All-nil (λ (s : Signal). IsSource inputs (length before) s.from); vary = All-nil (λ (s : Signal). is_constant s.from ≡ false) }) (All-nil (AreVarying inputs (length before))))
      (λ word bits. empty_value (signal_value word bits) sum empty);
}
