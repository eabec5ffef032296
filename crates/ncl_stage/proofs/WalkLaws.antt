-- The laws of a walk over places.
use Rattle.ncl_stage.proofs.Terms.{All-contains, AreMet, Bool, Contains-from_Member, IsAhead, IsDone, IsWalk, List, Member, Member-append_cases, Member-append_left, Member-append_right, ReadEarlier, [], ap, append-nil, append_assoc, arith, cases_eq, cond, count_by, false, flat_map, flat_map-append, get_or, get_or-set_other, here, inl, inr, length, length-set, list_any-from_member, member_cases, nat_eq, not, range_with_len, range_with_len-more, refl, reverse, reverse-append, reverse-reverse, set, stands_or_not, subst, sum_by-set, sym, take, take_more, there, true, was_entered, with_bit, with_bits, ℕ, ◌*◌, ◌++◌, ◌+◌, ◌-◌, ◌/◌, ◌<◌, ◌∙◌, ◌∷◌, ◌≡◌, ◌≤◌}
use Rattle.std.specs.Prelude.{◌⊎◌}

pub with_bits-append : (a xs ys : List ℕ) → with_bits a (xs ++ ys) ≡ with_bits (with_bits a xs) ys
with_bits-append a [] ys = refl
with_bits-append a (x ∷ xs) ys = with_bits-append (with_bit a x) xs ys

-- a bit that stands there changes nothing
pub with_bit-known : (bits : List ℕ) (bit : ℕ) → Member bit bits → with_bit bits bit ≡ bits
with_bit-known bits bit m = ap (λ b. cond b bits (bits ++ bit ∷ [])) (list_any-from_member (nat_eq bit) bit m (same bit))
  where
    same : (n : ℕ) → nat_eq n n ≡ true
    same n = grind arith

pub with_bit-has : (bits : List ℕ) (bit : ℕ) → Member bit (with_bit bits bit)
with_bit-has bits bit = elim (stands_or_not bits bit) [
  | inl (e, m) ↦ subst (Member bit) (sym (ap (λ b. cond b bits (bits ++ bit ∷ [])) e)) m
  | inr e ↦ subst (Member bit) (sym (ap (λ b. cond b bits (bits ++ bit ∷ [])) e)) (Member-append_right bits bit here)
]

pub with_bit-keeps : (bits : List ℕ) (bit other : ℕ) → Member other bits → Member other (with_bit bits bit)
with_bit-keeps bits bit other m = elim (stands_or_not bits bit) [
  | inl (e, own) ↦ subst (Member other) (sym (ap (λ b. cond b bits (bits ++ bit ∷ [])) e)) m
  | inr e ↦ subst (Member other) (sym (ap (λ b. cond b bits (bits ++ bit ∷ [])) e)) (Member-append_left other (bit ∷ []) m)
]

-- bits that all stand there change nothing
pub with_bits-known : (bits more : List ℕ) → ((bit : ℕ) → Member bit more → Member bit bits) → with_bits bits more ≡ bits
with_bits-known bits [] known = refl
with_bits-known bits (bit ∷ more) known =
    ap (λ l. with_bits l more) (with_bit-known bits bit (known bit here)) ∙ with_bits-known bits more (λ b m. known b (there m))

module _ (bits : ℕ) (pins : List (List ℕ)) where
  none : (place : ℕ) → Member place [] → ⊥
  none place m = elim m [ ]

  -- a walk begins where nothing waits
  pub walk_begins : (found : List ℕ) (entered : List Bool) (place : ℕ) → place < 2 * bits + length pins → IsDone bits pins entered found → IsWalk bits pins found place entered (place ∷ []) found
  walk_begins found entered place within done = record {
    sized = done.sized;
    places = λ p m. elim (member_cases p place [] m) [ inl e ↦ subst (λ n. n < 2 * bits + length pins) e within | inr n ↦ absurd (none p n) ];
    goal = λ met are. ap (with_bits found) (append-nil (met place));
    closed = λ met are i lt was. record {
      ahead = [];
      rest = place ∷ [];
      cut = refl;
      earlier = λ p m. absurd (none p m);
      met_there = λ bit m. inl (done.closed met are i lt was bit m);
    };
  }

  -- and ends where nothing waits any more
  pub walk_ends : (start found : List ℕ) (entered : List Bool) (place : ℕ) → IsWalk bits pins start place entered [] found → IsDone bits pins entered found × ((met : ℕ → List ℕ) → AreMet bits pins met → found ≡ with_bits start (met place))
  walk_ends start found entered place walk = (
    record {
      sized = walk.sized;
      closed = λ met are i lt was. at_end met i (walk.closed met are i lt was);
    },
    walk.goal,
  )
    where
      at_end : (met : ℕ → List ℕ) (i : ℕ) → IsAhead bits met found [] i → (bit : ℕ) → Member bit (met (2 * bits + i)) → Member bit found
      at_end met i is bit m = elim (is.met_there bit m) [
        | inl known ↦ known
        | inr later ↦ absurd (none bit (subst (λ l. Member bit (flat_map met l)) (empty is.ahead is.rest is.cut) later))
      ]
        where
          empty : (xs ys : List ℕ) → [] ≡ xs ++ ys → xs ≡ []
          empty [] ys e = refl
          empty (x ∷ xs) ys e = absurd cc

  -- what is ahead where one place more is taken
  taken : (met : ℕ → List ℕ) (found more : List ℕ) (next : ℕ) (instead left : List ℕ) (i : ℕ) → ((p : ℕ) → Member p instead → next < 2 * bits + i → p < 2 * bits + i) → ((bit : ℕ) → Member bit found → Member bit more) → ((bit : ℕ) → Member bit (met next) → Member bit more ⊎ Member bit (flat_map met instead)) → IsAhead bits met found (next ∷ left) i → IsAhead bits met more (instead ++ left) i
  taken met found more next instead left i below keeps own is = by is.ahead is.rest is.cut is.earlier is.met_there
    where
      by : (ahead rest : List ℕ) → next ∷ left ≡ ahead ++ rest → ((p : ℕ) → Member p ahead → p < 2 * bits + i) → ((bit : ℕ) → Member bit (met (2 * bits + i)) → Member bit found ⊎ Member bit (flat_map met ahead)) → IsAhead bits met more (instead ++ left) i
      by [] rest cut earlier there_met = record {
        ahead = [];
        rest = instead ++ left;
        cut = refl;
        earlier = λ p m. absurd (none p m);
        met_there = λ bit m. elim (there_met bit m) [ inl known ↦ inl (keeps bit known) | inr later ↦ absurd (none bit later) ];
      }
      by (x ∷ ahead) rest cut earlier there_met =
          let first : next ≡ x = cc in
          let others : left ≡ ahead ++ rest = cc in
          record {
            ahead = instead ++ ahead;
            rest = rest;
            cut = ap (λ l. instead ++ l) others ∙ sym (append_assoc instead ahead rest);
            earlier = λ p m. elim (Member-append_cases p instead ahead m) [
              | inl new ↦ below p new (subst (λ n. n < 2 * bits + i) (sym first) (earlier x here))
              | inr old ↦ earlier p (there old)
            ];
            met_there = λ bit m. elim (there_met bit m) [
              | inl known ↦ inl (keeps bit known)
              | inr later ↦
                  elim (Member-append_cases bit (met x) (flat_map met ahead) later) [
                    | inl mine ↦
                        elim (own bit (subst (λ n. Member bit (met n)) (sym first) mine)) [
                          | inl known ↦ inl known
                          | inr new ↦ inr (subst (Member bit) (sym (flat_map-append met instead ahead)) (Member-append_left bit (flat_map met ahead) new))
                        ]
                    | inr behind ↦ inr (subst (Member bit) (sym (flat_map-append met instead ahead)) (Member-append_right (flat_map met instead) bit behind))
                  ]
            ];
          }

  -- the next is a rail: its bit is found
  pub walk_rail : (start found : List ℕ) (entered : List Bool) (place next : ℕ) (left : List ℕ) → next < 2 * bits → IsWalk bits pins start place entered (next ∷ left) found → IsWalk bits pins start place entered left (with_bit found (next / 2))
  walk_rail start found entered place next left lt walk = record {
    sized = walk.sized;
    places = λ p m. walk.places p (there m);
    goal = λ met are. ap (λ l. with_bits found (l ++ flat_map met left)) (sym (are.rail next lt)) ∙ walk.goal met are;
    closed = λ met are i l was.
        taken met found (with_bit found (next / 2)) next [] left i (λ p m. absurd (none p m)) (λ bit m. with_bit-keeps found (next / 2) bit m)
        (λ bit m. elim (member_cases bit (next / 2) [] (subst (Member bit) (are.rail next lt) m)) [
          | inl e ↦ inl (subst (λ b. Member b (with_bit found (next / 2))) e (with_bit-has found (next / 2)))
          | inr n ↦ absurd (none bit n)
        ])
        (walk.closed met are i l was);
  }

  -- the next is a cell that was entered: all that is met from it was found
  pub walk_known : (start found : List ℕ) (entered : List Bool) (place i : ℕ) (left : List ℕ) → i < length pins → was_entered entered i ≡ true → IsWalk bits pins start place entered ((2 * bits + i) ∷ left) found → IsWalk bits pins start place entered left found
  walk_known start found entered place i left lt was walk = record {
    sized = walk.sized;
    places = λ p m. walk.places p (there m);
    goal = λ met are.
        ap (λ l. with_bits l (flat_map met left)) (sym (with_bits-known found (met (2 * bits + i)) (own met are)))
        ∙ sym (with_bits-append found (met (2 * bits + i)) (flat_map met left))
        ∙ walk.goal met are;
    closed = λ met are j l is.
        taken met found found (2 * bits + i) [] left j (λ p m. absurd (none p m)) (λ bit m. m) (λ bit m. inl (own met are bit m)) (walk.closed met are j l is);
  }
    where
      own : (met : ℕ → List ℕ) → AreMet bits pins met → (bit : ℕ) → Member bit (met (2 * bits + i)) → Member bit found
      own met are bit m = by (walk.closed met are i lt was)
        where
          by : IsAhead bits met found ((2 * bits + i) ∷ left) i → Member bit found
          by is = go is.ahead is.rest is.cut is.earlier (is.met_there bit m)
            where
              go : (ahead rest : List ℕ) → (2 * bits + i) ∷ left ≡ ahead ++ rest → ((p : ℕ) → Member p ahead → p < 2 * bits + i) → Member bit found ⊎ Member bit (flat_map met ahead) → Member bit found
              go [] rest cut earlier (inl known) = known
              go [] rest cut earlier (inr later) = absurd (none bit later)
              go (x ∷ ahead) rest cut earlier some = let first : 2 * bits + i ≡ x = cc in let lt : x < 2 * bits + i = earlier x here in absurd (omega arith)

  -- the next is a cell that is entered now: what it reads waits in its place
  pub walk_enters : (start found : List ℕ) (entered : List Bool) (place i : ℕ) (left : List ℕ) → ReadEarlier bits pins → i < length pins → IsWalk bits pins start place entered ((2 * bits + i) ∷ left) found → IsWalk bits pins start place (set entered i true) (get_or pins i [] ++ left) found
  walk_enters start found entered place i left earlier lt walk = record {
    sized = length-set entered i true ∙ walk.sized;
    places = λ p m. elim (Member-append_cases p (get_or pins i []) left m) [
      | inl pin ↦ let e : p < 2 * bits + i = reads p pin in omega arith
      | inr old ↦ walk.places p (there old)
    ];
    goal = λ met are.
        ap (with_bits found) (flat_map-append met (get_or pins i []) left ∙ ap (λ l. l ++ flat_map met left) (sym (are.cell i lt)))
        ∙ walk.goal met are;
    closed = λ met are j l was. elim (cases_eq j i) [
      | inl same ↦
          subst (IsAhead bits met found (get_or pins i [] ++ left)) (sym same)
          (record {
            ahead = get_or pins i [];
            rest = left;
            cut = refl;
            earlier = reads;
            met_there = λ bit m. inr (subst (Member bit) (are.cell i lt) m);
          })
      | inr other ↦
          taken met found found (2 * bits + i) (get_or pins i []) left j
          (λ p m before. let e : p < 2 * bits + i = reads p m in omega arith)
          (λ bit m. m)
          (λ bit m. inr (subst (Member bit) (are.cell i lt) m))
          (walk.closed met are j l (sym (get_or-set_other entered i j true false other) ∙ was))
    ];
  }
    where
      reads : (p : ℕ) → Member p (get_or pins i []) → p < 2 * bits + i
      reads p m = All-contains (λ pin. pin < 2 * bits + i) (get_or pins i []) p (earlier i lt) (Contains-from_Member p m)

-- entering a cell takes five turns away and gives back one for each place that it reads
pub turns-enter : (entered : List Bool) (i : ℕ) → i < length entered → was_entered entered i ≡ false → count_by not (set entered i true) + 1 ≡ count_by not entered
turns-enter entered i lt was =
    let count : count_by not (set entered i true) + cond (not (was_entered entered i)) 1 0 ≡ count_by not entered + cond (not true) 1 0 = sum_by-set (λ b. cond (not b) 1 0) entered i true false lt in
    let one : cond {A = ℕ} (not (was_entered entered i)) 1 0 ≡ 1 = ap (λ b. cond (not b) 1 0) was in
    omega (arith, count, one)

pub reversed : (xs : List ℕ) (x : ℕ) → reverse (xs ++ x ∷ []) ≡ x ∷ reverse xs
reversed xs x = reverse-append xs (x ∷ [])

-- a walk whose stack has one place more stands at that place
pub walk_at : (bits : ℕ) (pins : List (List ℕ)) (start : List ℕ) (place : ℕ) (entered : List Bool) (found stack left : List ℕ) (next : ℕ) → stack ≡ left ++ next ∷ [] → IsWalk bits pins start place entered (reverse stack) found → IsWalk bits pins start place entered (next ∷ reverse left) found
walk_at bits pins start place entered found stack left next e walk = subst (λ left. IsWalk bits pins start place entered left found) (ap reverse e ∙ reversed left next) walk

-- the next cell
pub turn_enters : (bits : ℕ) (pins : List (List ℕ)) (start : List ℕ) (place : ℕ) (entered : List Bool) (found left after : List ℕ) (next : ℕ) (ins : List ℕ) → ReadEarlier bits pins → 2 * bits ≤ next → ins ≡ get_or pins (next - 2 * bits) [] → after ≡ left ++ reverse ins → IsWalk bits pins start place entered (next ∷ reverse left) found → IsWalk bits pins start place (set entered (next - 2 * bits) true) (reverse after) found
turn_enters bits pins start place entered found left after next ins earlier past are put walk =
    let i : ℕ = next - 2 * bits in
    let at : next ≡ 2 * bits + i = omega arith in
    let within : next < 2 * bits + length pins = walk.places next here in
    let lt : i < length pins = omega arith in
    let moved = walk_enters bits pins start found entered place i (reverse left) earlier lt (subst (λ n. IsWalk bits pins start place entered (n ∷ reverse left) found) at walk) in
    subst (λ left. IsWalk bits pins start place (set entered i true) left found)
    (ap (λ l. l ++ reverse left) (sym are ∙ sym (reverse-reverse ins)) ∙ sym (reverse-append left (reverse ins)) ∙ ap reverse (sym put))
    moved

pub turn_known : (bits : ℕ) (pins : List (List ℕ)) (start : List ℕ) (place : ℕ) (entered : List Bool) (found left : List ℕ) (next : ℕ) → 2 * bits ≤ next → was_entered entered (next - 2 * bits) ≡ true → IsWalk bits pins start place entered (next ∷ reverse left) found → IsWalk bits pins start place entered (reverse left) found
turn_known bits pins start place entered found left next past was walk =
    let i : ℕ = next - 2 * bits in
    let at : next ≡ 2 * bits + i = omega arith in
    let within : next < 2 * bits + length pins = walk.places next here in
    let lt : i < length pins = omega arith in
    walk_known bits pins start found entered place i (reverse left) lt was (subst (λ n. IsWalk bits pins start place entered (n ∷ reverse left) found) at walk)

-- the next cell is within the cells and their marks
pub cell_within : (bits : ℕ) (pins : List (List ℕ)) (start : List ℕ) (place : ℕ) (entered : List Bool) (found left : List ℕ) (next : ℕ) → 2 * bits ≤ next → IsWalk bits pins start place entered (next ∷ left) found → (next - 2 * bits < length entered) × (next - 2 * bits < length pins)
cell_within bits pins start place entered found left next past walk =
    let within : next < 2 * bits + length pins = walk.places next here in
    let sized : length entered ≡ length pins = walk.sized in
    (omega arith, omega arith)

-- the same of what was taken off the stack
pub cell_there : (bits : ℕ) (pins : List (List ℕ)) (start : List ℕ) (place : ℕ) (entered : List Bool) (found stack left : List ℕ) (next : ℕ) → stack ≡ left ++ next ∷ [] → IsWalk bits pins start place entered (reverse stack) found → 2 * bits ≤ next → (next - 2 * bits < length entered) × (next - 2 * bits < length pins)
cell_there bits pins start place entered found stack left next e walk past = cell_within bits pins start place entered found (reverse left) next past (walk_at bits pins start place entered found stack left next e walk)

-- one output more
pub with_bits-pair : (met : ℕ → List ℕ) (outputs : List (ℕ × ℕ)) (i : ℕ) (d : ℕ × ℕ) → i < length outputs → with_bits (with_bits (with_bits [] (flat_map (λ (pair : ℕ × ℕ). met pair.0 ++ met pair.1) (take i outputs))) (met (get_or outputs i d).0)) (met (get_or outputs i d).1) ≡ with_bits [] (flat_map (λ (pair : ℕ × ℕ). met pair.0 ++ met pair.1) (take (i + 1) outputs))
with_bits-pair met outputs i d lt =
    let both : ℕ × ℕ → List ℕ = λ (pair : ℕ × ℕ). met pair.0 ++ met pair.1 in
    let front : List ℕ = flat_map both (take i outputs) in
    let o : ℕ × ℕ = get_or outputs i d in
    sym (with_bits-append (with_bits [] front) (met o.0) (met o.1))
    ∙ sym (with_bits-append [] front (both o))
    ∙ ap (with_bits []) (ap (λ l. front ++ l) (sym (append-nil (both o))) ∙ sym (flat_map-append both (take i outputs) (o ∷ [])) ∙ ap (flat_map both) (sym (take_more outputs i d lt)))

-- one bit more
pub with_bits-more : (found : List ℕ) (bit : ℕ) → with_bit (with_bits found (range_with_len 0 bit)) bit ≡ with_bits found (range_with_len 0 (bit + 1))
with_bits-more found bit =
    sym (with_bits-append found (range_with_len 0 bit) (bit ∷ []))
    ∙ ap (with_bits found) (ap (λ n. range_with_len 0 bit ++ n ∷ []) (let e : bit ≡ 0 + bit = omega arith in e) ∙ sym (range_with_len-more 0 bit))
