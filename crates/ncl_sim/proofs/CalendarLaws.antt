-- The wheel of times that come soon, and the calendar that it is a part of.
pub use Rattle.ncl_sim.proofs.Terms.{All, All-append, All-cons, All-contains, All-from_members, All-from_recursion, All-head, All-nil, All-permutation, All-push, All-weaker, AllByRecursion, Bool, CalendarData, ComesBeforeAll, Contains-from_Member, Contains-last, Global, IfSome, IsBefore, IsCalendar, IsDueAfter, IsDueAt, IsDueIn, IsNextList, IsPermutation, IsPermutation-append_comm, IsPermutation-append_left, IsPermutation-append_right, IsPermutation-cons, IsPermutation-middle, IsPermutation-refl, IsPermutation-sym, IsPermutation-trans, IsSorted, IsStrictWeakOrder, IsUpperBound, IsWheel, List, MatchResult-from_err, Member, Member-get_or, None, Option, Reverse, Some, Vec, WheelData, [], all_events, ap, append_assoc, arith, below_more, cases_eq, cases_lt, eqb, eqb-true, event_cmp, false, flat_map, get_or, get_or-map, get_or-set_other, get_or-set_same, get_or_push, heap_items, here, inl, inr, is_lt, joined, last_of, length, length-append, length-map, length-set, length_permutation, list_at, map, map-set, nat_cmp, nat_tests, none-some, option_to_list, ordering_then, refl, same_Some, set, set-get_or, slice_get, slice_get-get_or, sorted_far, subst, suc, sym, true, zero, ℕ, ◌%◌, ◌++◌, ◌+◌, ◌-◌, ◌<◌, ◌∙◌, ◌∷◌, ◌≡◌, ◌≢◌, ◌≤◌}

-- ---- lists joined, one of which comes to the front

module _ {X : Type 0} where
  pub permutation-to_front : (a b c : List X) → IsPermutation (a ++ (b ++ c)) (b ++ (a ++ c))
  permutation-to_front a b c =
      subst (λ l. IsPermutation l (b ++ (a ++ c))) (append_assoc a b c)
      (subst (IsPermutation ((a ++ b) ++ c)) (append_assoc b a c) (IsPermutation-append_left c (a ++ b) (b ++ a) (IsPermutation-append_comm a b)))

  abbrev all_of : List (List X) → List X
  all_of lists = flat_map (λ l. l) lists

  joined-set : (lists : List (List X)) (slot : ℕ) (l : List X) → slot < length lists → IsPermutation (all_of (set lists slot l)) (l ++ all_of (set lists slot []))
  joined-set [] slot l lt = absurd (omega arith)
  joined-set (x ∷ lists) zero l lt = IsPermutation-refl (l ++ all_of lists)
  joined-set (x ∷ lists) (suc slot) l lt =
      IsPermutation-trans (x ++ all_of (set lists slot l)) (x ++ (l ++ all_of (set lists slot []))) (l ++ (x ++ all_of (set lists slot [])))
      (IsPermutation-append_right x (all_of (set lists slot l)) (l ++ all_of (set lists slot [])) (joined-set lists slot l (omega arith)))
      (permutation-to_front x l (all_of (set lists slot [])))

  pub joined-out : (lists : List (List X)) (slot : ℕ) → slot < length lists → IsPermutation (all_of lists) (get_or lists slot [] ++ all_of (set lists slot []))
  joined-out lists slot lt =
      subst (λ ls. IsPermutation (all_of ls) (get_or lists slot [] ++ all_of (set lists slot []))) (set-get_or lists slot []) (joined-set lists slot (get_or lists slot []) lt)

  pub joined-put : (lists : List (List X)) (slot : ℕ) (e : X) → slot < length lists → IsPermutation (e ∷ all_of lists) (all_of (set lists slot (get_or lists slot [] ++ e ∷ [])))
  joined-put lists slot e lt =
      let l = get_or lists slot [] in
      let rest = all_of (set lists slot []) in
      let front : IsPermutation (e ∷ (l ++ rest)) ((l ++ e ∷ []) ++ rest) =
      subst (IsPermutation (e ∷ (l ++ rest))) (sym (append_assoc l (e ∷ []) rest)) (IsPermutation-sym (l ++ e ∷ rest) (e ∷ (l ++ rest)) (IsPermutation-middle l e rest)) in
      IsPermutation-trans (e ∷ all_of lists) (e ∷ (l ++ rest)) (all_of (set lists slot (l ++ e ∷ [])))
      (IsPermutation-cons e (all_of lists) (l ++ rest) (joined-out lists slot lt))
      (IsPermutation-trans (e ∷ (l ++ rest)) ((l ++ e ∷ []) ++ rest) (all_of (set lists slot (l ++ e ∷ []))) front
      (IsPermutation-sym (all_of (set lists slot (l ++ e ∷ []))) ((l ++ e ∷ []) ++ rest) (joined-set lists slot (l ++ e ∷ []) lt)))

  joined-all : (P : X → Type 0) (lists : List (List X)) → ((slot : ℕ) → All P (get_or lists slot [])) → All P (all_of lists)
  joined-all P [] each = All-nil P
  joined-all P (l ∷ lists) each = All-append P l (all_of lists) (each 0) (joined-all P lists (λ slot. each (suc slot)))

  joined-none : (lists : List (List X)) → ((slot : ℕ) → get_or lists slot [] ≡ []) → all_of lists ≡ []
  joined-none [] each = refl
  joined-none (l ∷ lists) each = (λ i. each 0 i ++ all_of lists) ∙ joined-none lists (λ slot. each (suc slot))

  pub no-length : (xs : List X) → length xs ≡ 0 → xs ≡ []
  no-length [] none = refl
  no-length (x ∷ xs) none = absurd (omega arith)

  both-none : (xs ys : List X) → xs ++ ys ≡ [] → (xs ≡ []) × (ys ≡ [])
  both-none [] ys none = (refl, none)
  both-none (x ∷ xs) ys none = absurd cc

  none-joined : (lists : List (List X)) → all_of lists ≡ [] → (slot : ℕ) → get_or lists slot [] ≡ []
  none-joined [] none slot = refl
  none-joined (l ∷ lists) none zero = (both-none l (all_of lists) none).0
  none-joined (l ∷ lists) none (suc slot) = none-joined lists (both-none l (all_of lists) none).1 slot

  no_members : (xs : List X) → ((x : X) → Member x xs → ⊥) → xs ≡ []
  no_members [] none = refl
  no_members (x ∷ xs) none = absurd (none x here)

-- ---- a wheel

abbrev pub Event : Type 0
Event = Reverse (ℕ × ℕ)

abbrev pub tables : List (Vec Event Global) → List (List Event)
tables lists = map (λ (l : Vec Event Global). l.items) lists

-- a vector that says it is empty has no items
pub no-items : (v : Vec Event Global) (is_empty : Bool) → is_empty ≡ eqb v.len 0 → is_empty ≡ true → v.items ≡ []
no-items v is_empty says on = let none : v.len ≡ 0 = eqb-true v.len 0 (sym says ∙ on) in no-length v.items (omega (arith, none, v.ok.0))

pub table-at : (lists : List (Vec Event Global)) (slot : ℕ) (v : Vec Event Global) → slot < length lists → v ≡ get_or lists slot v → v.items ≡ list_at (tables lists) slot
table-at lists slot v lt read = ap (λ (l : Vec Event Global). l.items) read ∙ sym (get_or-map (λ (l : Vec Event Global). l.items) lists slot v [] lt)

pub tables-set : (lists : List (Vec Event Global)) (slot : ℕ) (v : Vec Event Global) (l : List Event) → v.items ≡ l → tables (set lists slot v) ≡ set (tables lists) slot l
tables-set lists slot v l is = map-set (λ (l : Vec Event Global). l.items) lists slot v ∙ ap (set (tables lists) slot) is

pub length-tables : (lists : List (Vec Event Global)) → length (tables lists) ≡ length lists
length-tables lists = length-map lists (λ (l : Vec Event Global). l.items)

no-member : (e : Event) → Member e [] → ⊥
no-member e m = elim m [ ]

module _ (time : ℕ) (idle : Bool) (lists : List (List Event)) (is : IsWheel time idle lists) where
  pub wheel-later : All (IsDueAfter time) (joined lists)
  wheel-later = joined-all (IsDueAfter time) lists (λ slot. All-weaker (IsDueIn time slot) (IsDueAfter time) (λ e due. due.later) (list_at lists slot) (is.dues slot))

  pub wheel-same : (more : List (List Event)) → more ≡ lists → IsWheel time idle more
  wheel-same more same = subst (IsWheel time idle) (sym same) is

  pub wheel-idle : joined lists ≡ [] → IsWheel time true lists
  wheel-idle none = record { size = is.size; dues = is.dues; none = λ on. none }

  -- where nothing waits, it may be at any time
  pub wheel-pass : (now : ℕ) → joined lists ≡ [] → IsWheel now idle lists
  wheel-pass now none = record {
    size = is.size;
    dues = λ slot. subst (All (IsDueIn now slot)) (sym (none-joined lists none slot)) (All-nil (IsDueIn now slot));
    none = is.none;
  }

  -- an event comes to the list of its due
  pub wheel-put : (slot : ℕ) (e : Event) (more : List (List Event)) → e.0.0 % 64 ≡ slot → time < e.0.0 → e.0.0 < time + 64 → more ≡ set lists slot (list_at lists slot ++ e ∷ []) → IsWheel time false more
  wheel-put slot e more there later soon put =
      let within : slot < length lists = omega (arith, is.size, there) in
      record {
        size = ap length put ∙ length-set lists slot (list_at lists slot ++ e ∷ []) ∙ is.size;
        dues = λ s. subst (λ ls. All (IsDueIn time s) (list_at ls s)) (sym put) (elim (cases_eq s slot) [
          | inl same ↦
              subst (λ k. All (IsDueIn time k) (list_at (set lists slot (list_at lists slot ++ e ∷ [])) k)) (sym same)
              (subst (All (IsDueIn time slot)) (sym (get_or-set_same lists slot (list_at lists slot ++ e ∷ []) [] within))
              (All-push (IsDueIn time slot) (list_at lists slot) e (is.dues slot) (record { later = later; soon = soon; own = there })))
          | inr other ↦ subst (All (IsDueIn time s)) (sym (get_or-set_other lists slot s (list_at lists slot ++ e ∷ []) [] other)) (is.dues s)
        ]);
        none = λ never. absurd cc;
      }

  due-of : (s : ℕ) (e : Event) → Member e (list_at lists s) → IsDueIn time s e
  due-of s e m = All-contains (IsDueIn time s) (list_at lists s) e (is.dues s) (Contains-from_Member e m)

  -- no list of the times to come has any event, so none has
  pub wheel-none : ((k : ℕ) → 0 < k → k < 64 → list_at lists ((time % 64 + k) % 64) ≡ []) → joined lists ≡ []
  wheel-none empty =
      joined-none lists (λ s. no_members (list_at lists s) (λ e m.
      let due = due-of s e m in
      let ahead = e.0.0 - time in
      let there : (time % 64 + ahead) % 64 ≡ s = omega (arith, due.later, due.soon, due.own) in
      let none : list_at lists s ≡ [] = subst (λ k. list_at lists k ≡ []) there (empty ahead (omega (arith, due.later)) (omega (arith, due.soon))) in
      no-member e (subst (Member e) none m)))

  -- the next list is opened
  module _ (ahead : ℕ) (next : IsNextList time ahead lists) where
    abbrev slot : ℕ
    slot = (time % 64 + ahead) % 64

    pub next-within : slot < length lists
    next-within = omega (arith, is.size)

    due-there : (e : Event) → Member e (list_at lists slot) → e.0.0 ≡ time + ahead
    due-there e m = let due = due-of slot e m in omega (arith, due.later, due.soon, due.own, next.from, next.most)

    still : (s : ℕ) → s ≢ slot → (e : Event) → Member e (list_at lists s) → IsDueIn (time + ahead) s e
    still s other e m =
        let due : IsDueIn time s e = due-of s e m in
        let there : (time % 64 + (e.0.0 - time)) % 64 ≡ s = omega (arith, due.later, due.soon, due.own) in
        elim (cases_lt (time + ahead) e.0.0) [
          | inl after ↦ record { later = after; soon = omega (arith, due.soon); own = due.own }
          | inr by ↦ absurd (elim (cases_lt (e.0.0 - time) ahead) [
            | inl before ↦
                let none : list_at lists s ≡ [] = subst (λ k. list_at lists k ≡ []) there (next.before (e.0.0 - time) (omega (arith, due.later)) before) in
                no-member e (subst (Member e) none m)
            | inr not_before ↦
                let same : e.0.0 - time ≡ ahead = omega (arith, due.later) in
                other (sym there ∙ ap (λ k. (time % 64 + k) % 64) same)
          ])
        ]

    pub wheel-open : (opened : List Event) (rest : List (List Event)) (x : Event) (now : ℕ) → idle ≡ false → opened ≡ list_at lists slot → rest ≡ set lists slot [] → x ≡ get_or opened 0 x → now ≡ x.0.0 → IsWheel now idle rest × All (IsDueAt now) opened
    wheel-open opened rest x now busy is_opened is_rest read first =
        let some : 0 < length opened = subst (λ l. 0 < length l) (sym is_opened) next.some in
        let listed : Member x (list_at lists slot) = subst (Member x) is_opened (subst (λ y. Member y opened) (sym read) (Member-get_or opened 0 x some)) in
        let time_is : now ≡ time + ahead = first ∙ due-there x listed in (
          subst (λ t. IsWheel t idle rest) (sym time_is) (record {
            size = ap length is_rest ∙ length-set lists slot [] ∙ is.size;
            dues = λ s. subst (λ ls. All (IsDueIn (time + ahead) s) (list_at ls s)) (sym is_rest) (elim (cases_eq s slot) [
              | inl same ↦
                  subst (λ k. All (IsDueIn (time + ahead) s) (list_at (set lists slot []) k)) (sym same)
                  (subst (All (IsDueIn (time + ahead) s)) (sym (get_or-set_same lists slot [] [] next-within)) (All-nil (IsDueIn (time + ahead) s)))
              | inr other ↦
                  subst (All (IsDueIn (time + ahead) s)) (sym (get_or-set_other lists slot s [] [] other))
                  (All-from_members (IsDueIn (time + ahead) s) (list_at lists s) (still s other))
            ]);
            none = λ on. absurd (never (sym busy ∙ on));
          }),
          subst (All (IsDueAt now)) (sym is_opened) (All-from_members (IsDueAt now) (list_at lists slot) (λ e m. due-there e m ∙ sym time_is)),
        )
      where
        never : false ≡ true → ⊥
        never e = cc

-- the list that was next is opened, and an empty one takes its place
pub opened-is : (time : ℕ) (idle : Bool) (lists : List (Vec Event Global)) → IsWheel time idle (tables lists) → (ahead : ℕ) → IsNextList time ahead (tables lists) → idle ≡ false → (v opened empty : Vec Event Global) → v ≡ get_or lists ((time % 64 + ahead) % 64) v → opened ≡ v → empty.items ≡ [] → (x : Event) → x ≡ get_or opened.items 0 x → IsWheel x.0.0 idle (tables (set lists ((time % 64 + ahead) % 64) empty)) × IsPermutation (joined (tables lists)) (opened.items ++ joined (tables (set lists ((time % 64 + ahead) % 64) empty)))
opened-is time idle lists is ahead next busy v opened empty read same none x first =
    let within : (time % 64 + ahead) % 64 < length (tables lists) = next-within time idle (tables lists) is ahead next in
    let own : opened.items ≡ list_at (tables lists) ((time % 64 + ahead) % 64) =
    ap (λ (l : Vec Event Global). l.items) same ∙ table-at lists ((time % 64 + ahead) % 64) v (omega (arith, within, length-tables lists)) read in
    let rest : tables (set lists ((time % 64 + ahead) % 64) empty) ≡ set (tables lists) ((time % 64 + ahead) % 64) [] = tables-set lists ((time % 64 + ahead) % 64) empty [] none in (
      (wheel-open time idle (tables lists) is ahead next opened.items (tables (set lists ((time % 64 + ahead) % 64) empty)) x x.0.0 busy own rest first refl).0,
      subst (λ l. IsPermutation (joined (tables lists)) (l ++ joined (tables (set lists ((time % 64 + ahead) % 64) empty)))) (sym own)
          (subst (λ ls. IsPermutation (joined (tables lists)) (list_at (tables lists) ((time % 64 + ahead) % 64) ++ joined ls)) (sym rest) (joined-out (tables lists) ((time % 64 + ahead) % 64) within)),
    )

-- ---- the order of events

pub before-trans : (x y z : ℕ × ℕ) → IsBefore x y → IsBefore y z → IsBefore x z
before-trans x y z (inl a) (inl b) = inl (omega arith)
before-trans x y z (inl a) (inr b) = let same = b.0 in inl (omega arith)
before-trans x y z (inr a) (inl b) = let same = a.0 in inl (omega arith)
before-trans x y z (inr a) (inr b) = let first = a.1 in let second = b.1 in inr (a.0 ∙ b.0, omega arith)

before-from_tests : (x y : ℕ × ℕ) → is_lt (ordering_then (nat_cmp y.0 x.0) (nat_cmp y.1 x.1)) ≡ false → IsBefore x y
before-from_tests x y off = grind (arith, nat_tests)

tests-from_before : (x y : ℕ × ℕ) → IsBefore x y → is_lt (ordering_then (nat_cmp y.0 x.0) (nat_cmp y.1 x.1)) ≡ false
tests-from_before x y before = grind (arith, nat_tests)

tests-one_way : (x y : ℕ × ℕ) → is_lt (ordering_then (nat_cmp y.0 x.0) (nat_cmp y.1 x.1)) ≡ true → is_lt (ordering_then (nat_cmp x.0 y.0) (nat_cmp x.1 y.1)) ≡ false
tests-one_way x y on = grind (arith, nat_tests)

abbrev is_less : Event → Event → Bool
is_less x y = is_lt (event_cmp x y)

less-orders : IsStrictWeakOrder is_less
less-orders = record {
  one_way = λ x y. tests-one_way x.0 y.0;
  chain = λ x y z a b. tests-from_before x.0 z.0 (before-trans x.0 y.0 z.0 (before-from_tests x.0 y.0 a) (before-from_tests y.0 z.0 b));
}

pub before-from_bound : (e : Event) (xs : List Event) → IsUpperBound event_cmp e xs → ComesBeforeAll e xs
before-from_bound e xs bound = All-from_recursion (λ x. IsBefore e.0 x.0) xs (each xs bound)
  where
    each : (xs : List Event) → IsUpperBound event_cmp e xs → AllByRecursion (λ x. IsBefore e.0 x.0) xs
    each [] bound = tt
    each (x ∷ xs) bound = (before-from_tests e.0 x.0 bound.0, each xs bound.1)

pub before-along : (e other : Event) (xs : List Event) → IsBefore e.0 other.0 → ComesBeforeAll other xs → ComesBeforeAll e xs
before-along e other xs before all = All-weaker (λ x. IsBefore other.0 x.0) (λ x. IsBefore e.0 x.0) (λ x later. before-trans e.0 other.0 x.0 before later) xs all

-- the last of sorted events comes before all of them
pub last-first : (front : List Event) (e : Event) → IsSorted event_cmp (front ++ e ∷ []) → ComesBeforeAll e (front ++ e ∷ [])
last-first front e sorted k d lt =
    let size : length (front ++ e ∷ []) ≡ length front + 1 = length-append front (e ∷ []) in
    let last : get_or (front ++ e ∷ []) (length front) d ≡ e = get_or_push front e d (length front) refl in
    before-from_tests e.0 (get_or (front ++ e ∷ []) k d).0
    (subst (λ x. is_less x (get_or (front ++ e ∷ []) k d) ≡ false) last (sorted_far is_less less-orders (front ++ e ∷ []) sorted k (length front) d (omega (arith, size, lt)) (omega (arith, size))))

-- ---- the last of sorted events, and the first of a heap

pub last-some : (xs : List Event) (last : Event) → Some last ≡ slice_get xs (length xs - 1) → (front : List Event) × (xs ≡ front ++ last ∷ [])
last-some xs last at = elim (last_of xs) [
  | inl empty ↦ absurd (none-some last (sym (at ∙ ap (λ l. slice_get l (length l - 1)) empty)))
  | inr (front, y, is) ↦
      let size : length (front ++ y ∷ []) - 1 ≡ length front = omega (arith, length-append front (y ∷ [])) in
      let there : slice_get (front ++ y ∷ []) (length front) ≡ Some y =
      slice_get-get_or (front ++ y ∷ []) (length front) y (omega (arith, length-append front (y ∷ []))) ∙ ap (λ x. Some x) (get_or_push front y y (length front) refl) in
      let same : last ≡ y = same_Some last y (at ∙ ap (λ l. slice_get l (length l - 1)) is ∙ ap (slice_get (front ++ y ∷ [])) size ∙ there) in
      (front, is ∙ ap (λ x. front ++ x ∷ []) (sym same))
]

-- where the first of a heap comes before the last that was opened, what comes before all of the heap comes before all that was opened
pub opened-after : (opened heap : List Event) (last other : Event) → IsSorted event_cmp opened → Some last ≡ slice_get opened (length opened - 1) → other ≡ get_or heap 0 other → 0 < length heap → IsBefore other.0 last.0 → (e : Event) → ComesBeforeAll e heap → ComesBeforeAll e opened
opened-after opened heap last other sorted at read some before e all =
    let (front, is) = last-some opened last at in
    let first : IsBefore e.0 other.0 = subst (λ (x : Event). IsBefore e.0 x.0) (sym read) (all 0 other some) in
    let after : ComesBeforeAll last opened = subst (ComesBeforeAll last) (sym is) (last-first front last (subst (IsSorted event_cmp) is sorted)) in
    before-along e last opened (before-trans e.0 other.0 last.0 first before) after

-- ---- an event more or less in one of the parts

module _ {X : Type 0} where
  pub push-later : (e : X) (a b more : List X) → IsPermutation (e ∷ b) more → IsPermutation (e ∷ (a ++ b)) (a ++ more)
  push-later e a b more into =
      IsPermutation-trans (e ∷ (a ++ b)) (a ++ e ∷ b) (a ++ more)
      (IsPermutation-sym (a ++ e ∷ b) (e ∷ (a ++ b)) (IsPermutation-middle a e b))
      (IsPermutation-append_right a (e ∷ b) more into)

-- an event that is due by a time comes before all that are due after it
pub due-before : (time : ℕ) (e : Event) (xs : List Event) → e.0.0 ≤ time → All (IsDueAfter time) xs → ComesBeforeAll e xs
due-before time e xs by all = All-weaker (IsDueAfter time) (λ x. IsBefore e.0 x.0) (λ x after. inl (omega (arith, by, after))) xs all

before-le : (x y : ℕ × ℕ) → IsBefore x y → x.0 ≤ y.0
before-le x y (inl a) = omega arith
before-le x y (inr a) = let same = a.0 in omega arith

-- so does what comes before all that was opened, where nothing is due later unless something was opened
pub others-before : (time : ℕ) (e : Event) (opened later : List Event) → ComesBeforeAll e opened → All (IsDueAt time) opened → All (IsDueAfter time) later → (opened ≡ [] → later ≡ []) → ComesBeforeAll e later
others-before time e [] later before due after none = subst (ComesBeforeAll e) (sym (none refl)) (All-nil (λ x. IsBefore e.0 x.0))
others-before time e (y ∷ opened) later before due after none =
    let first : IsBefore e.0 y.0 = All-head (λ x. IsBefore e.0 x.0) y opened before in
    let le : e.0.0 ≤ y.0.0 = before-le e.0 y.0 first in
    let at : y.0.0 ≡ time = All-head (IsDueAt time) y opened due in
    due-before time e later (omega arith) after

-- no event comes before every event
pub none-opened : (opened : List Event) → ((e : Event) → ComesBeforeAll e opened) → opened ≡ []
none-opened [] all = refl
none-opened (y ∷ opened) all =
    let late : Event = record { 0 = (y.0.0 + 1, 0) } in
    let le : y.0.0 + 1 ≤ y.0.0 = before-le late.0 y.0 (All-head (λ x. IsBefore late.0 x.0) y opened (all late)) in
    absurd (omega arith)

pub last-due : (time : ℕ) (front : List Event) (e : Event) → All (IsDueAt time) (front ++ e ∷ []) → e.0.0 ≡ time
last-due time front e due = All-contains (IsDueAt time) (front ++ e ∷ []) e due (Contains-last front e)

-- ---- a list that was opened, and sorted

pub refill-same : (old opened sorted old_waiting waiting : List Event) → old ≡ [] → IsPermutation old_waiting (opened ++ waiting) → IsPermutation opened sorted → IsPermutation (old ++ old_waiting) (sorted ++ waiting)
refill-same old opened sorted old_waiting waiting empty split order =
    subst (λ o. IsPermutation (o ++ old_waiting) (sorted ++ waiting)) (sym empty)
    (IsPermutation-trans old_waiting (opened ++ waiting) (sorted ++ waiting) split (IsPermutation-append_left waiting opened sorted order))

pub refill-all : (opened sorted waiting : List Event) → (opened ≡ [] → waiting ≡ []) → IsPermutation opened sorted → sorted ≡ [] → waiting ≡ []
refill-all opened sorted waiting all order empty =
    let as_long : length sorted ≡ length opened = length_permutation opened sorted order in
    all (no-length opened (sym as_long ∙ ap length empty))

-- ---- the queue

-- the last that was opened is due at the time of the wheel
pub some-time : (r : Option Event) (time : ℕ) (opened front : List Event) → opened ≡ front ++ option_to_list r → All (IsDueAt time) opened → IfSome r (λ e. front ≡ [] → time ≡ e.0.0)
some-time None time opened front is due = tt
some-time (Some e) time opened front is due = λ _. sym (last-due time front e (subst (All (IsDueAt time)) is due))

module _ {view all : CalendarData} (is : view ≡ all) where
  abbrev heap : List Event
  heap = view.others

  pub more-waits : (e : Event) (more : List Event) → IsPermutation (e ∷ view.wheel.waiting) more → IsPermutation (e ∷ all_events all) (view.opened ++ (more ++ heap))
  more-waits e more into =
      subst (λ (a : CalendarData). IsPermutation (e ∷ all_events a) (view.opened ++ (more ++ heap))) is
      (push-later e view.opened (view.wheel.waiting ++ heap) (more ++ heap) (IsPermutation-append_left heap (e ∷ view.wheel.waiting) more into))

  pub more-heaped : (e : Event) (more : List Event) → IsPermutation (e ∷ heap) more → IsPermutation (e ∷ all_events all) (view.opened ++ (view.wheel.waiting ++ more))
  more-heaped e more into =
      subst (λ (a : CalendarData). IsPermutation (e ∷ all_events a) (view.opened ++ (view.wheel.waiting ++ more))) is
      (push-later e view.opened (view.wheel.waiting ++ heap) (view.wheel.waiting ++ more) (push-later e view.wheel.waiting heap more into))

  -- what was opened and what waits once the next list may have been opened
  module _ (opened waiting : List Event) (same : IsPermutation (view.opened ++ view.wheel.waiting) (opened ++ waiting)) where
    abbrev whole : List Event
    whole = opened ++ (waiting ++ heap)

    refilled : IsPermutation (all_events all) whole
    refilled =
        subst (λ (a : CalendarData). IsPermutation (all_events a) whole) is
        (subst (λ l. IsPermutation l whole) (append_assoc view.opened view.wheel.waiting heap)
        (subst (IsPermutation ((view.opened ++ view.wheel.waiting) ++ heap)) (append_assoc opened waiting heap) (IsPermutation-append_left heap (view.opened ++ view.wheel.waiting) (opened ++ waiting) same)))

    before-whole : (e : Event) → ComesBeforeAll e opened → ComesBeforeAll e waiting → ComesBeforeAll e heap → ComesBeforeAll e (all_events all)
    before-whole e first second third =
        let P : Event → Type 0 = λ x. IsBefore e.0 x.0 in
        All-permutation P whole (all_events all) (IsPermutation-sym (all_events all) whole refilled) (All-append P opened (waiting ++ heap) first (All-append P waiting heap second third))

    -- the last that was opened comes out
    pub some-out : (r : Option Event) (front : List Event) → opened ≡ front ++ option_to_list r → IfSome r (λ e. IsPermutation (all_events all) (e ∷ (front ++ (waiting ++ heap))))
    some-out None front out = tt
    some-out (Some e) front out =
        IsPermutation-trans (all_events all) whole (e ∷ (front ++ (waiting ++ heap))) refilled
        (subst (λ l. IsPermutation l (e ∷ (front ++ (waiting ++ heap)))) (sym (ap (λ o. o ++ (waiting ++ heap)) out ∙ append_assoc front (e ∷ []) (waiting ++ heap)))
        (IsPermutation-middle front e (waiting ++ heap)))

    pub some-first : (r : Option Event) (front : List Event) → opened ≡ front ++ option_to_list r → (time : ℕ) → IsSorted event_cmp opened → All (IsDueAt time) opened → All (IsDueAfter time) waiting → {slice : List Event} → slice ≡ opened → ((e : Event) → ComesBeforeAll e slice → ComesBeforeAll e heap) → IfSome r (λ e. ComesBeforeAll e (all_events all))
    some-first None front out time sorted due later seen after = tt
    some-first (Some e) front out time sorted due later seen after =
        let first : ComesBeforeAll e opened = subst (ComesBeforeAll e) (sym out) (last-first front e (subst (IsSorted event_cmp) out sorted)) in
        let at : e.0.0 ≡ time = last-due time front e (subst (All (IsDueAt time)) out due) in
        before-whole e first (due-before time e waiting (omega arith) later) (after e (subst (ComesBeforeAll e) (sym seen) first))

    -- the first of the heap comes out
    pub less-heaped : (e : Event) (rest : List Event) → IsPermutation heap (e ∷ rest) → IsPermutation (all_events all) (e ∷ (opened ++ (waiting ++ rest)))
    less-heaped e rest out =
        IsPermutation-trans (all_events all) whole (e ∷ (opened ++ (waiting ++ rest))) refilled
        (IsPermutation-sym (e ∷ (opened ++ (waiting ++ rest))) whole
        (push-later e opened (waiting ++ rest) (waiting ++ heap) (push-later e waiting rest heap (IsPermutation-sym heap (e ∷ rest) out))))

    module _ (all_waits : opened ≡ [] → waiting ≡ []) {slice : List Event} (seen : slice ≡ opened) (after : (e : Event) → ComesBeforeAll e heap → ComesBeforeAll e slice) where
      pub heap-first : (time : ℕ) (x : Event) → IsUpperBound event_cmp x heap → All (IsDueAt time) opened → All (IsDueAfter time) waiting → ComesBeforeAll x (all_events all)
      heap-first time x bound due later =
          let third : ComesBeforeAll x heap = before-from_bound x heap bound in
          let first : ComesBeforeAll x opened = subst (ComesBeforeAll x) seen (after x third) in
          before-whole x first (others-before time x opened waiting first due later all_waits) third

      -- where nothing comes out, there is nothing
      pub none-whole : heap ≡ [] → whole ≡ []
      none-whole none =
          let empty : opened ≡ [] = none-opened opened (λ e. subst (ComesBeforeAll e) seen (after e (subst (ComesBeforeAll e) (sym none) (All-nil (λ x. IsBefore e.0 x.0))))) in
          λ i. empty i ++ (all_waits empty i ++ none i)

      pub none-old : heap ≡ [] → all_events all ≡ []
      none-old none =
          let as_long : length whole ≡ length (all_events all) = length_permutation (all_events all) whole refilled in
          no-length (all_events all) (sym as_long ∙ ap length (none-whole none))

module _ (opened : List Event) (wheel : WheelData) (heap : List Event) (is : IsCalendar opened wheel heap) where
  pub calendar-more : (e : Event) (more : WheelData) → more.time ≡ wheel.time → wheel.time < e.0.0 → IsPermutation (e ∷ wheel.waiting) more.waiting → IsCalendar opened more heap
  calendar-more e more time after into = record {
    sorted = is.sorted;
    due = subst (λ t. All (IsDueAt t) opened) (sym time) is.due;
    later = subst (λ t. All (IsDueAfter t) more.waiting) (sym time)
        (All-permutation (IsDueAfter wheel.time) (e ∷ wheel.waiting) more.waiting into (All-cons (IsDueAfter wheel.time) e wheel.waiting after is.later));
    in_order = is.in_order;
  }
