-- Which move each enabled item is.
use Rattle.ncl_insensitivity.proofs.Terms.{Bool, Cell, CellAt, CellId, Fire, IsRegisterOf, IsSoundAt, Item, Layout, List, Lower, Member, Nets, None, Option, Part, PipelineData, Rails, Raise, Ready, Some, State, Take, [], ahead, all-from_places, all-local, all_data, and_from, and_parts, ap, arith, behind, bit_at, both_ways, cases_Bool, cases_eq, cases_lt, cond, current_rails, differ, double-half, enabled, equal, even, even-given, false, false_from_ne_true, half, half-given, has_data, has_value, here, in_bit, in_rail, in_stage, in_tree, inl, inr, is_data, is_excited, is_null, length, list_all, list_all-member, local-put_here, named-get, named-has, named-past, named-place, named_rails, near-same, next_value, not, not-not, not-true, not_from_false, not_from_true, not_itself, of_bank, of_stage, of_tree, one_if, or_from, others_are_new, out_rail, rail-data, rail-listed, rails_of_word, refl, same-from_differ, slice_get, slice_get_within, some-rail, stage_nets, subst, suc, sym, there, true, turning_is_old, width, ℕ, ◌&&◌, ◌*◌, ◌+◌, ◌<◌, ◌∙◌, ◌∷◌, ◌≡◌, ◌≤◌, ◌⊎◌}
pub use Rattle.ncl_insensitivity.proofs.Invariant.{Acknowledges, AreAt, AreKept, HasInvariant, IsDrawn, IsPhase, IsRegisterMove, IsSetting, IsSourceMove, IsTreeMove, Move, Waves, data-other, gate, gate-no_rail, gate_stays, in-local, ki-value, ko-value, lower, lower_last, moved, out-local, output_named, rail_is, rail_moves, rail_named, raise, raise_last, ready, register, rising, root, root-value, sink-same, take, tree, turns_down, turns_up, word_in}
use Rattle.ncl_insensitivity.proofs.NextValues.{gate-excitation, register-turns}

-- ---- tests and functions over lists

pub member-fails : {X : Type 0} (test : X → Bool) (xs : List X) → list_all test xs ≡ false → (x : X) × Member x xs × (test x ≡ false)
member-fails test [] some = absurd (both_ways true some refl)
member-fails test (y ∷ ys) some = elim (cases_Bool (test y)) [
  | inr fails ↦ (y, here, fails)
  | inl passes ↦ let (x, m, fails) = member-fails test ys (sym (ap (λ b. b && list_all test ys) passes) ∙ some) in (x, there m, fails)
]

-- where each element passes a second test that passed a first, all do
pub all-more : {X : Type 0} (test other : X → Bool) (xs : List X) → ((x : X) → Member x xs → test x ≡ true → other x ≡ true)
    → list_all test xs ≡ true → list_all other xs ≡ true
all-more test other [] each all = refl
all-more test other (x ∷ xs) each all =
    let (first, rest) = and_parts (test x) (list_all test xs) all in and_from (other x) (list_all other xs) (each x here first) (all-more test other xs (λ r m. each r (there m)) rest)

-- ---- the rails of the source once one has moved

module _ {p : PipelineData} {l : Layout} {w : Waves} {offered : List (List Bool)} (set : IsSetting p l w offered) {s : State} (k : HasInvariant l w offered s) {b : ℕ} (move : IsSourceMove l w s k.numbers b) where
  -- the values after the move, and the rail of a bit that the current word names
  abbrev after : Nets
  after = moved l w s k.numbers b

  abbrev own : ℕ → ℕ
  own i = in_rail l 0 i (bit_at (word_in w k.numbers 0) i)

  pub not_done : s.done < length offered
  not_done = subst (λ xs. s.done < length xs) k.ends.offers (slice_get_within s.offered s.done (word_in w k.numbers 0) move.current)

  is_wide : length (word_in w k.numbers 0) ≡ width l 0
  is_wide = set.waves.wide _ 0 (omega arith)

  pub current-are : current_rails p s ≡ named_rails (l.stage 0).inputs (word_in w k.numbers 0)
  current-are = ap (rails_of_word p.inputs) move.current ∙ ap (λ bits. named_rails bits (word_in w k.numbers 0)) (sym set.layout.source)

  pub own-current : (i : ℕ) → i < width l 0 → Member (own i) (current_rails p s)
  own-current i lt = subst (Member (own i)) (sym current-are) (named-has (l.stage 0).inputs (word_in w k.numbers 0) is_wide i lt)

  moved-phase : IsPhase (l.stage 0) (rising k.numbers 0) (word_in w k.numbers 0) (in_stage l (moved l w s k.numbers b) 0)
  moved-phase =
      subst (IsPhase (l.stage 0) (rising k.numbers 0) (word_in w k.numbers 0))
      (sym (local-put_here (stage_nets l 0) s.value (own b) (rising k.numbers 0) (rail-listed (l.stage 0) b (bit_at (word_in w k.numbers 0) b) move.within)))
      (rail_moves (set.layout.is_stage 0 (omega arith)) (rising k.numbers 0) is_wide (k.nets.phases 0 (omega arith)) b move.within)

  -- a bit has the data that the rail named has
  null_bit : (i : ℕ) → i < width l 0 → after (own i) ≡ false → has_data (in_stage l after 0) (in_bit l 0 i) ≡ false
  null_bit i lt low = false_from_ne_true _ (λ some.
      let (q, high) = some-rail (in_stage l after 0) (l.stage 0).inputs i some in
      let is = rail_is (set.layout.is_stage 0 (omega arith)) is_wide moved-phase i q lt high in
      both_ways _ (in-local set after 0 i _ lt ∙ low) (subst (λ x. in_stage l after 0 (in_rail l 0 i x) ≡ true) is high))

  data_bit : (i : ℕ) → i < width l 0 → after (own i) ≡ true → has_data (in_stage l after 0) (in_bit l 0 i) ≡ true
  data_bit i lt high = rail-data (in_stage l after 0) (l.stage 0).inputs i (bit_at (word_in w k.numbers 0) i) (in-local set after 0 i _ lt ∙ high)

  -- at the end of a word, or of the NULL after it, every bit of the source is new
  pub all_raised : rising k.numbers 0 ≡ true → list_all after (current_rails p s) ≡ true → AreAt l 0 (in_stage l after 0) (suc (k.numbers 0))
  all_raised ev all i lt =
      data_bit i lt (list_all-member after (current_rails p s) all (own i) (own-current i lt))
      ∙ sym ev ∙ ap even (sym move.same) ∙ sym (not-not (even (k.numbers 0)))

  pub all_lowered : rising k.numbers 0 ≡ false → list_all (λ net. not (after net)) (current_rails p s) ≡ true
      → AreAt l 0 (in_stage l after 0) (suc (k.numbers 0))
  all_lowered od all i lt =
      null_bit i lt (not-true _ (list_all-member (λ net. not (after net)) (current_rails p s) all (own i) (own-current i lt)))
      ∙ sym od ∙ ap even (sym move.same) ∙ sym (not-not (even (k.numbers 0)))

  -- else some bit is old
  pub some_low : rising k.numbers 0 ≡ true → list_all after (current_rails p s) ≡ false
      → (i : ℕ) × (i < width l 0) × (has_data (in_stage l after 0) (in_bit l 0 i) ≡ not (even (k.numbers 0)))
  some_low ev some =
      let (x, m, low) = member-fails after (current_rails p s) some in
      let (i, lt, e) = named-place (l.stage 0).inputs (word_in w k.numbers 0) x (subst (Member x) current-are m) in
      (i, lt, null_bit i lt (subst (λ y. after y ≡ false) e low) ∙ sym (ap not (ap even move.same ∙ ev)))

  pub some_high : rising k.numbers 0 ≡ false → list_all (λ net. not (after net)) (current_rails p s) ≡ false
      → (i : ℕ) × (i < width l 0) × (has_data (in_stage l after 0) (in_bit l 0 i) ≡ not (even (k.numbers 0)))
  some_high od some =
      let (x, m, high) = member-fails (λ net. not (after net)) (current_rails p s) some in
      let (i, lt, e) = named-place (l.stage 0).inputs (word_in w k.numbers 0) x (subst (Member x) current-are m) in
      (i, lt, data_bit i lt (subst (λ y. after y ≡ true) e (sym (not-not _) ∙ ap not high)) ∙ sym (ap not (ap even move.same ∙ od)))

  -- before the move its bit is old
  pub source_is_old : has_data (in_stage l s.value 0) (in_bit l 0 b) ≡ not (even (k.numbers 0))
  source_is_old = by_wave (rising k.numbers 0) refl
    where
      rail : in_stage l s.value 0 (own b) ≡ not (rising k.numbers 0)
      rail = in-local set s.value 0 b _ move.within ∙ move.old

      by_wave : (e : Bool) → rising k.numbers 0 ≡ e → has_data (in_stage l s.value 0) (in_bit l 0 b) ≡ not (even (k.numbers 0))
      by_wave true ev =
          false_from_ne_true _ (λ some.
          let (q, high) = some-rail (in_stage l s.value 0) (l.stage 0).inputs b some in
          both_ways _ (rail ∙ not_from_true _ ev) (subst (λ x. in_stage l s.value 0 (in_rail l 0 b x) ≡ true) (rail_named set k 0 b q (omega arith) move.within high) high))
          ∙ sym (not_from_true _ (ap even move.same ∙ ev))
      by_wave false od =
          rail-data (in_stage l s.value 0) (l.stage 0).inputs b _ (rail ∙ not_from_false _ od) ∙ sym (not_from_false _ (ap even move.same ∙ od))

-- ---- where the bank after a stage has taken all of its wave, the stage has settled, and the bank before it is new

module _ {p : PipelineData} {l : Layout} {w : Waves} {offered : List (List Bool)} (set : IsSetting p l w offered) where
  module _ {at tree : ℕ → Nets} {c : ℕ → ℕ} (kept : AreKept l w at tree c) where
    -- a stage that rises has a word that shows no fault, or the bank before it holds the word and has all of it
    pub comes_whole : (k : ℕ) → k ≤ l.last → rising c k ≡ true → IsSoundAt (l.stage k) (word_in w c k) ⊎ ((b : ℕ) → b < width l k → has_data (at k) (in_bit l k b) ≡ true)
    comes_whole k le ev =
        let twice = double-half (c (suc k)) ev in
        elim (cases_lt (c (suc k)) (w.start k)) [
          | inl own ↦ elim (kept.near k le) [
            | equal e ↦ absurd (let least = kept.least k (omega (arith, le)) in omega (arith, least, own, e))
            | ahead e was ↦ inr (λ b lt. was b lt ∙ ap (λ t. not (even t)) e ∙ not-not (even (c (suc k))) ∙ ev)
            | behind e was ↦ absurd (let least = kept.least k (omega (arith, le)) in omega (arith, least, own, e))
          ]
          | inr come ↦ inl (set.complete (half (c (suc k))) k le (omega (arith, come, twice)))
        ]

    -- in an even wave, by outputs that all have data
    pub drawn_by_data : (k : ℕ) → k ≤ l.last → rising c k ≡ true → all_data (l.stage k) (at k) ≡ true → IsDrawn l w at c k
    drawn_by_data k le ev all =
        let (down, same, full) =
        turns_down (set.layout.is_stage k le) _ (set.sound _ k le) (set.waves.wide _ k le) (subst (λ e. IsPhase (l.stage k) e (word_in w c k) (at k)) ev (kept.phases k le)) (comes_whole k le ev) all in
        record {
          bank = λ b lt. full b lt ∙ sym (not-not true) ∙ ap (λ e. not (not e)) (sym ev);
          turned = subst (λ e. IsPhase (l.stage k) (not e) (w.word (cond e (half (c (suc k))) (suc (half (c (suc k))))) k) (at k)) (sym ev) down;
        }

    -- in an odd one, by outputs that are all NULL
    pub drawn_by_null : (k : ℕ) → k ≤ l.last → rising c k ≡ false → is_null (l.stage k).outputs (at k) ≡ true → IsDrawn l w at c k
    drawn_by_null k le od null =
        let (up, low) =
        turns_up (set.layout.is_stage k le) _ (set.sound _ k le) (subst (λ e. IsPhase (l.stage k) e (word_in w c k) (at k)) od (kept.phases k le)) null in
        record {
          bank = λ b lt. or_from _ _ (low _) (low _) ∙ sym (not-not false) ∙ ap (λ e. not (not e)) (sym od);
          turned = subst (λ e. IsPhase (l.stage k) (not e) (w.word (cond e (half (c (suc k))) (suc (half (c (suc k))))) k) (at k)) (sym od) (up _);
        }

    -- in either, by a bank that is new
    pub drawn_by_bank : (k : ℕ) → k < l.last → AreAt l (suc k) (at (suc k)) (suc (c (suc k))) → IsDrawn l w at c k
    drawn_by_bank k lt bank =
        elim (cases_Bool (rising c k)) [
          | inl ev ↦ drawn_by_data k le ev (all-from_places (has_data (at k)) (l.stage k).outputs (λ j lj.
              let (r, high) = some-rail (at (suc k)) (l.stage (suc k)).inputs j (bank j (in_bank j lj) ∙ not-not _ ∙ ev) in
              rail-data (at k) (l.stage k).outputs j r (kept.up k j r lt (in_bank j lj) ev high)))
          | inr od ↦ drawn_by_null k le od (all-from_places (λ (r : Rails). not (has_data (at k) r)) (l.stage k).outputs (λ j lj.
              not_from_false _ (false_from_ne_true _ (λ some.
              let (r, high) = some-rail (at k) (l.stage k).outputs j some in
              both_ways _ (bank j (in_bank j lj) ∙ not-not _ ∙ od) (rail-data (at (suc k)) (l.stage (suc k)).inputs j r (kept.down k j r lt (in_bank j lj) od high))))))
        ]
      where
        le : k ≤ l.last
        le = omega (arith, lt)

        in_bank : (j : ℕ) → j < length (l.stage k).outputs → j < width l (suc k)
        in_bank j lj = let same = set.layout.joined k lt in omega (arith, lj, same)

  -- where the source is new to the first bank's wave, it is a step ahead of it
  pub source_is_ahead : {s : State} (k : HasInvariant l w offered s) → AreAt l 0 (in_stage l s.value 0) (suc (k.numbers 1)) → k.numbers 0 ≡ suc (k.numbers 1)
  source_is_ahead k new =
      let (b, lt, old) = k.ends.some_old in
      elim (k.nets.near 0 (omega arith)) [
        | equal e ↦ absurd (not_itself (rising k.numbers 0) (sym (not-not _) ∙ sym (new b lt) ∙ old ∙ ap (λ t. not (even t)) e))
        | ahead e was ↦ e
        | behind e was ↦ absurd (let most = k.nets.order in omega (arith, most, e))
      ]

-- ---- where the invariant holds, each item that is enabled is a move

module _ {p : PipelineData} {l : Layout} {w : Waves} {offered : List (List Bool)} (set : IsSetting p l w offered) {s : State} (k : HasInvariant l w offered s) where
  -- ---- a register cell that is excited
  register_move : (cell : Cell) (j b : ℕ) (r : Bool) → j < l.last → b < width l (suc j) → IsRegisterOf l j b r cell
      → differ (next_value s.value cell) (s.value cell.out.0) ≡ true → IsRegisterMove l w s k.numbers j b r cell
  register_move cell j b r lt within on excited = by_value (s.value (in_rail l (suc j) b r)) refl
    where
      le : j ≤ l.last
      le = omega (arith, lt)

      turns : (s.value (out_rail l j b r) ≡ not (s.value (in_rail l (suc j) b r))) × (s.value (l.root (suc j)) ≡ not (s.value (in_rail l (suc j) b r)))
      turns = register-turns s.value cell (out_rail l j b r) (l.root (suc j)) (in_rail l (suc j) b r) on excited

      a_local : in_stage l s.value j (out_rail l j b r) ≡ s.value (out_rail l j b r)
      a_local = out-local set s.value j b r lt within

      z_local : in_stage l s.value (suc j) (in_rail l (suc j) b r) ≡ s.value (in_rail l (suc j) b r)
      z_local = in-local set s.value (suc j) b r within

      -- the bank after its own asks for what its rail hasn't
      asked : rising k.numbers (suc j) ≡ not (s.value (in_rail l (suc j) b r))
      asked = sym (root-value set k (suc j) lt) ∙ turns.1

      -- and so its own bank is in that wave: what the rail has isn't on A
      own : (z : Bool) → s.value (in_rail l (suc j) b r) ≡ z → rising k.numbers j ≡ not z
      own true high = elim (cases_Bool (rising k.numbers j)) [
        | inr od ↦ od
        | inl ev ↦ absurd (both_ways _ (turns.0 ∙ ap not high) (sym a_local ∙ k.nets.up j b r lt within ev (z_local ∙ high)))
      ]
      own false low = elim (cases_Bool (rising k.numbers j)) [
        | inl ev ↦ ev
        | inr od ↦ absurd (both_ways _ (z_local ∙ low) (k.nets.down j b r lt within od (a_local ∙ turns.0 ∙ ap not low)))
      ]

      same : k.numbers (suc j) ≡ k.numbers (suc (suc j))
      same =
          near-same (AreAt l (suc j) (in_stage l s.value (suc j))) (k.numbers (suc j)) (k.numbers (suc (suc j)))
          (k.nets.near (suc j) lt) (own (s.value (in_rail l (suc j) b r)) refl ∙ sym asked)

      move : (r ≡ bit_at (word_in w k.numbers (suc j)) b)
          → (has_data (in_stage l s.value (suc j)) (in_bit l (suc j) b) ≡ s.value (in_rail l (suc j) b r))
          → IsRegisterMove l w s k.numbers j b r cell
      move named has = record {
        within = lt;
        bit = within;
        on = on;
        same = same;
        named = named;
        ready = turns.0 ∙ sym asked;
        waits = sym (not-not _) ∙ ap not (sym asked);
        old = has ∙ sym (not-not _) ∙ ap not (sym asked);
      }

      by_value : (z : Bool) → s.value (in_rail l (suc j) b r) ≡ z → IsRegisterMove l w s k.numbers j b r cell
      by_value true high =
          move (rail_named set k (suc j) b r lt within (z_local ∙ high)) (rail-data (in_stage l s.value (suc j)) (l.stage (suc j)).inputs b r (z_local ∙ high) ∙ sym high)
      by_value false low =
          let ev : rising k.numbers j ≡ true = own false low in
          let made = output_named set k j b r lt within (a_local ∙ turns.0 ∙ ap not low) in
          let begun : w.start (suc j) ≤ 2 * half (k.numbers (suc j)) =
          let least = k.nets.least (suc j) (omega (arith, lt)) in let twice = double-half (k.numbers (suc j)) ev in omega (arith, least, twice) in
          let named : r ≡ bit_at (word_in w k.numbers (suc j)) b =
          made ∙ ap (λ x. bit_at x b) (sym (set.waves.law (half (k.numbers (suc j))) j le begun)) ∙ ap (λ t. bit_at (w.word (half t) (suc j)) b) same in
          move named (false_from_ne_true _ (λ some.
          let (q, high) = some-rail (in_stage l s.value (suc j)) (l.stage (suc j)).inputs b some in
          let is_q = rail_named set k (suc j) b q lt within high in
          both_ways _ (z_local ∙ low) (subst (λ x. in_stage l s.value (suc j) (in_rail l (suc j) b x) ≡ true) (is_q ∙ sym named) high)) ∙ sym low)

  -- ---- a rail of the source that may move
  source_move : (b : ℕ) (falls : Bool) → s.falling ≡ falls → rising k.numbers 0 ≡ not falls
      → has_value s.value (slice_get (current_rails p s) b) falls ≡ true → IsSourceMove l w s k.numbers b
  source_move b falls is_falling asked may_move = by_word (slice_get s.offered s.done) refl
    where
      given : k.numbers 0 ≡ 2 * (w.held + s.done) + one_if falls
      given = k.ends.given ∙ ap (λ x. 2 * (w.held + s.done) + one_if x) is_falling

      same : k.numbers 0 ≡ k.numbers 1
      same =
          near-same (AreAt l 0 (in_stage l s.value 0)) (k.numbers 0) (k.numbers 1)
          (k.nets.near 0 (omega arith)) (ap even given ∙ even-given (w.held + s.done) falls ∙ sym asked)

      wave : half (k.numbers 1) ≡ w.held + s.done
      wave = ap half (sym same ∙ given) ∙ half-given (w.held + s.done) falls

      by_word : (o : Option (List Bool)) → slice_get s.offered s.done ≡ o → IsSourceMove l w s k.numbers b
      by_word None at = absurd (both_ways _ (ap (λ o. has_value s.value (slice_get (rails_of_word p.inputs o) b) falls) at) may_move)
      by_word (Some word) at =
          let is_word : word_in w k.numbers 0 ≡ word =
          ap (λ i. w.word i 0) wave ∙ set.waves.source s.done word (ap (λ xs. slice_get xs s.done) (sym k.ends.offers) ∙ at) in
          let current : slice_get s.offered s.done ≡ Some (word_in w k.numbers 0) = at ∙ ap Some (sym is_word) in
          let rails : slice_get (current_rails p s) b ≡ slice_get (named_rails (l.stage 0).inputs (word_in w k.numbers 0)) b =
          ap (λ o. slice_get (rails_of_word p.inputs o) b) current
          ∙ ap (λ bits. slice_get (named_rails bits (word_in w k.numbers 0)) b) (sym set.layout.source) in
          elim (cases_lt b (width l 0)) [
            | inr past ↦ absurd (both_ways _ (ap (λ o. has_value s.value o falls) (rails ∙ named-past (l.stage 0).inputs (word_in w k.numbers 0) b past)) may_move)
            | inl lt ↦
                let at_b = rails ∙ named-get (l.stage 0).inputs (word_in w k.numbers 0) (set.waves.wide _ 0 (omega arith)) b lt in
                record {
                  within = lt;
                  same = same;
                  current = current;
                  old = same-from_differ _ falls (ap (λ o. has_value s.value o falls) (sym at_b) ∙ may_move) ∙ sym (not-not falls) ∙ sym (ap not asked);
                }
          ]

  -- ---- a cell that is excited, by its part

  -- a root acknowledges
  root_acknowledges : (cell : Cell) (j : ℕ) → IsTreeMove l s k.numbers j cell → cell.out.0 ≡ l.root j
      → Acknowledges l w (in_stage l s.value) (in_tree l s.value) k.numbers j
  root_acknowledges cell j move is_root =
      let (others, bits) = others_are_new set.layout j move.within (λ z n. k.nets.follows j z move.within n) cell move.listed is_root move.new in
      let bank : AreAt l (suc j) (in_stage l s.value (suc j)) (suc (k.numbers (suc j))) =
      λ b within. bits b within ∙ sym (not-not (rising k.numbers j)) in
      let drawn : IsDrawn l w (in_stage l s.value) k.numbers j = drawn_by_bank set k.nets j move.within bank in
      record {
        drawn = drawn;
        bank = λ lt. bank;
        others = λ z lt m. others z m;
        source = λ e. source_is_ahead set k (subst (λ x. AreAt l x (in_stage l s.value x) (suc (k.numbers (suc x)))) e drawn.bank);
      }

  -- the sink acknowledges, where the last stage has been drawn from
  sink_acknowledges : IsDrawn l w (in_stage l s.value) k.numbers l.last → Acknowledges l w (in_stage l s.value) (in_tree l s.value) k.numbers l.last
  sink_acknowledges drawn = record {
    drawn = drawn;
    bank = λ lt. absurd (omega (arith, lt));
    others = λ z lt m. absurd (omega (arith, lt));
    source = λ e. absurd (let some = set.layout.some in omega (arith, some, e));
  }

  part_move : (i : CellId) (cell : Cell) → CellAt p.netlist i.0 cell → Part l cell
      → differ (next_value s.value cell) (s.value cell.out.0) ≡ true → Move p l w s k.numbers (Fire i)
  part_move i cell at (of_stage j g le m is) excited =
      gate i cell j g at le m is (sym (gate-excitation (set.layout.is_stage j le) s.value cell g m is) ∙ excited)
  part_move i cell at (of_bank j b r lt within on) excited = register i cell j b r at (register_move cell j b r lt within on excited)
  part_move i cell at (of_tree j lt m) excited =
      let (old, new) = turning_is_old set.layout j lt s.value (rising k.numbers j) cell m (k.nets.follows j cell lt m) excited in
      let move : IsTreeMove l s k.numbers j cell = record { within = lt; listed = m; old = old; new = new } in
      elim (cases_eq cell.out.0 (l.root j)) [
        | inr inner ↦ tree i cell j at move inner
        | inl is_root ↦ root i cell j at move is_root (root_acknowledges cell j move is_root)
      ]

  -- ---- any item
  pub move_of : (item : Item) → enabled p s item ≡ true → Move p l w s k.numbers item
  move_of (Fire i) on = by_cell (slice_get p.netlist.cells i.0) refl on
    where
      by_cell : (o : Option Cell) → slice_get p.netlist.cells i.0 ≡ o → is_excited s.value o ≡ true → Move p l w s k.numbers (Fire i)
      by_cell None at excited = absurd (both_ways false refl excited)
      by_cell (Some cell) at excited = part_move i cell at (set.layout.part_of i.0 cell at) excited
  move_of (Raise b) on =
      let (both, rail) = and_parts (not s.falling && s.value p.ko) _ on in
      let (rises, asks) = and_parts (not s.falling) (s.value p.ko) both in
      let falls : s.falling ≡ false = not-true s.falling rises in
      let ev : rising k.numbers 0 ≡ true = sym (ko-value set k) ∙ asks in
      let move = source_move b false falls ev rail in
      elim (cases_Bool (list_all (moved l w s k.numbers b) (current_rails p s))) [
        | inl all ↦ raise_last b move falls ev all
        | inr some ↦ raise b move falls ev some
      ]
  move_of (Lower b) on =
      let (both, rail) = and_parts (s.falling && not (s.value p.ko)) _ on in
      let (falls, asks) = and_parts s.falling (not (s.value p.ko)) both in
      let od : rising k.numbers 0 ≡ false = sym (ko-value set k) ∙ not-true _ asks in
      let move = source_move b true falls od rail in
      elim (cases_Bool (list_all (λ net. not (moved l w s k.numbers b net)) (current_rails p s))) [
        | inl all ↦ lower_last b move falls od all
        | inr some ↦ lower b move falls od some
      ]
  move_of Take on =
      let (asks, some) = and_parts (s.value p.ki) _ on in
      let ev : rising k.numbers l.last ≡ true = sym (ki-value set k) ∙ asks in
      take ev some (sink_acknowledges (drawn_by_data set k.nets l.last (omega arith) ev
      (all-local has_data (stage_nets l l.last) s.value (l.stage l.last).outputs (sink-same set s.value) (subst (λ bits. is_data bits s.value ≡ true) (sym set.layout.sink) some))))
  move_of Ready on =
      let (asks, none) = and_parts (not (s.value p.ki)) _ on in
      let od : rising k.numbers l.last ≡ false = sym (ki-value set k) ∙ not-true _ asks in
      ready od none (sink_acknowledges (drawn_by_null set k.nets l.last (omega arith) od
      (all-local (λ v (r : Rails). not (has_data v r)) (stage_nets l l.last) s.value (l.stage l.last).outputs
      (λ r m. ap not (sink-same set s.value r m)) (subst (λ bits. is_null bits s.value ≡ true) (sym set.layout.sink) none))))
