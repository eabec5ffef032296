-- How often nets change, and so how long a run can be.
use Rattle.ncl_insensitivity.proofs.Terms.{All-from_get_or, All-from_members, AllPairs, AllPairs-cons, Bool, Cell, Fire, IsLayoutOf, IsRunFrom, Item, Layout, List, Lower, Member, Member-append_cases, Member-get_or, Nets, PipelineData, Rails, Raise, Ready, StageCell, State, Take, [], ahead, all_are_old, ap, arith, behind, bit_at, both_ways, cases_eq, cases_lt, data-same, equal, even, even-double, false, false_from_ne_true, gate-listed, get_or, has_data, here, in_bit, in_rail, in_stage, in_tree, inl, inr, ki-listed, length, length-append, length-map, local-at, map, member_cases, member_of_map, mul-add, mul_assoc, mul_comm, net_of, no_more_than, no_rails, not, not-not, not_from_false, not_from_true, one_if, one_if-most, out_of, out_rail, pairs-head, pairs-tail, place-here, place-other, rail-data, rail-listed, rail-no_output, rail-place, rail-within, rail_nets, rails-length, refl, some-rail, stage_nets, step, subst, suc, sum_by, sum_by-cons, sum_by-le, sym, there, tree-listed, true, width, with_net, with_net-elsewhere, with_net-here, zero, ℕ, ◌*◌, ◌++◌, ◌+◌, ◌<◌, ◌∙◌, ◌∷◌, ◌≡◌, ◌≢◌, ◌≤◌, ◌⊎◌}
use Rattle.ncl_insensitivity.proofs.Invariant.{HasInvariant, IsSetting, IsSourceMove, IsTreeMove, Move, Waves, gate, ki-value, lower, lower_last, moved, next_at, numbers_after, raise, raise_last, ready, register, rising, root, stage_changes as stage_views, take, tree, tree_changes as tree_views, word_in}
use Rattle.ncl_insensitivity.proofs.Keeping.{IsPhase, data-moved, data-other, gate-no_rail, gate-step, lower-step, move_of, raise-step, register-step, source_is_old, step-kept, tree-step, up_empty, within_source}

-- ---- sums over a list, compared term by term

-- where no term is less, neither is the sum
pub sum_by-no_less : {X : Type 0} (f g : X → ℕ) (xs : List X) → ((x : X) → Member x xs → f x ≤ g x) → sum_by f xs ≤ sum_by g xs
sum_by-no_less f g [] each = omega arith
sum_by-no_less f g (x ∷ xs) each =
    let first = each x here in
    let rest = sum_by-no_less f g xs (λ y m. each y (there m)) in
    let left = sum_by-cons f x xs in
    let right = sum_by-cons g x xs in
    omega (arith, first, rest, left, right)

-- and where one is more, so is the sum
pub sum_by-more : {X : Type 0} (f g : X → ℕ) (x : X) {xs : List X} → ((y : X) → Member y xs → f y ≤ g y) → Member x xs → suc (f x) ≤ g x
    → suc (sum_by f xs) ≤ sum_by g xs
sum_by-more f g x each (here {xs = xs}) more =
    let rest = sum_by-no_less f g xs (λ y m. each y (there m)) in
    let left = sum_by-cons f x xs in
    let right = sum_by-cons g x xs in
    omega (arith, rest, more, left, right)
sum_by-more f g x each (there {y = y} {xs = xs} m) more =
    let first = each y here in
    let rest = sum_by-more f g x (λ z n. each z (there n)) m more in
    let left = sum_by-cons f y xs in
    let right = sum_by-cons g y xs in
    omega (arith, first, rest, left, right)

-- ---- how often the nets have changed, as the numbers of their waves tell: a net has changed as often as its number,
-- and once more where it is new. Of the two rails of a bit one moves, but both are counted

-- two values are the same
abbrev pub agree : Bool → Bool → Bool
agree true b = b
agree false b = not b

-- how often something has changed that is at wave c and is new where its value is `e`
abbrev pub times : ℕ → Bool → Bool → ℕ
times c e x = c + one_if (agree x e)

-- a bit, by its bank's number; a gate, and a net of a tree, by the number of the bank after the stage
abbrev pub rail_changes : ℕ → Nets → Rails → ℕ
rail_changes c v r = 2 * times c (even c) (has_data v r)

abbrev pub gate_changes : ℕ → Nets → StageCell → ℕ
gate_changes c v g = times c (even c) (v (out_of g))

abbrev pub tree_changes : ℕ → Nets → ℕ → ℕ
tree_changes c v net = times c (not (even c)) (v net)

-- all of a stage and the tree after it, and of those below an index
abbrev pub changes_at : Layout → (ℕ → ℕ) → ℕ → Nets → Nets → ℕ
changes_at l c k at trees =
    sum_by (rail_changes (c k) at) (l.stage k).inputs
    + sum_by (gate_changes (c (suc k)) at) (l.stage k).cells
    + sum_by (tree_changes (c (suc k)) trees) (l.tree_nets k)

abbrev pub changes_below : Layout → Nets → (ℕ → ℕ) → ℕ → ℕ
changes_below l v c zero = 0
changes_below l v c (suc k) = changes_below l v c k + changes_at l c k (in_stage l v k) (in_tree l v k)

abbrev pub changes : Layout → Nets → (ℕ → ℕ) → ℕ
changes l v c = changes_below l v c (suc l.last)

-- ---- old and new

-- what is old doesn't agree, what is new does
pub agree-old : (x e : Bool) → x ≡ not e → agree x e ≡ false
agree-old true e is = sym (not-not e) ∙ ap not (sym is)
agree-old false e is = sym is

pub agree-new : (x e : Bool) → x ≡ e → agree x e ≡ true
agree-new true e is = sym is
agree-new false e is = ap not (sym is)

-- what goes from old to new has changed once more
pub times-more : (c : ℕ) (e x y : Bool) → x ≡ not e → y ≡ e → suc (times c e x) ≤ times c e y
times-more c e x y old new =
    let was : one_if (agree x e) ≡ 0 = ap one_if (agree-old x e old) in
    let now : one_if (agree y e) ≡ 1 = ap one_if (agree-new y e new) in
    omega (arith, was, now)

pub times-put : (c : ℕ) (e : Bool) (v : Nets) (net x : ℕ) → v net ≡ not e → times c e (v x) ≤ times c e (with_net v net e x)
times-put c e v net x old = elim (cases_eq net x) [
  | inl same ↦ let more = times-more c e (v x) (with_net v net e x) (ap v (sym same) ∙ old) (ap (with_net v net e) (sym same) ∙ with_net-here v net e) in omega (arith, more)
  | inr apart ↦ let one : times c e (with_net v net e x) ≡ times c e (v x) = ap (times c e) (with_net-elsewhere v net x e apart) in omega (arith, one)
]

-- ---- where a number goes on by one, nothing has changed less often

times-no_less : (c c' : ℕ) (e e' x : Bool) → (c' ≡ c) × (e' ≡ e) ⊎ (c' ≡ suc c) → times c e x ≤ times c' e' x
times-no_less c c' e e' x (inl (same, phase)) =
    let one : one_if (agree x e) ≡ one_if (agree x e') = ap (λ q. one_if (agree x q)) (sym phase) in omega (arith, same, one)
times-no_less c c' e e' x (inr more) = let one = one_if-most (agree x e) in omega (arith, more, one)

grows : (c c' : ℕ) (f : ℕ → Bool) → (c' ≡ c) ⊎ (c' ≡ suc c) → (c' ≡ c) × (f c' ≡ f c) ⊎ (c' ≡ suc c)
grows c c' f (inl same) = inl (same, ap f same)
grows c c' f (inr more) = inr more

abbrev AreGrown : (ℕ → ℕ) → (ℕ → ℕ) → Type 0
AreGrown c c' = (i : ℕ) → (c' i ≡ c i) ⊎ (c' i ≡ suc (c i))

at-grown : (l : Layout) (c c' : ℕ → ℕ) → AreGrown c c' → (k : ℕ) (at trees : Nets) → changes_at l c k at trees ≤ changes_at l c' k at trees
at-grown l c c' more k at trees =
    let rails =
    sum_by-no_less (rail_changes (c k) at) (rail_changes (c' k) at) (l.stage k).inputs
    (λ r m. let one = times-no_less (c k) (c' k) (even (c k)) (even (c' k)) (has_data at r) (grows (c k) (c' k) even (more k)) in omega (arith, one)) in
    let gates =
    sum_by-no_less (gate_changes (c (suc k)) at) (gate_changes (c' (suc k)) at) (l.stage k).cells
    (λ g m. times-no_less (c (suc k)) (c' (suc k)) (even (c (suc k))) (even (c' (suc k))) (at (out_of g)) (grows (c (suc k)) (c' (suc k)) even (more (suc k)))) in
    let nets =
    sum_by-no_less (tree_changes (c (suc k)) trees) (tree_changes (c' (suc k)) trees) (l.tree_nets k)
    (λ net m. times-no_less (c (suc k)) (c' (suc k)) (not (even (c (suc k)))) (not (even (c' (suc k)))) (trees net) (grows (c (suc k)) (c' (suc k)) (λ t. not (even t)) (more (suc k)))) in
    omega (arith, rails, gates, nets)

below-grown : (l : Layout) (v : Nets) (c c' : ℕ → ℕ) → AreGrown c c' → (k : ℕ) → changes_below l v c k ≤ changes_below l v c' k
below-grown l v c c' more zero = omega arith
below-grown l v c c' more (suc k) =
    let rest = below-grown l v c c' more k in let own = at-grown l c c' more k (in_stage l v k) (in_tree l v k) in omega (arith, rest, own)

pub changes-grown : (l : Layout) (v : Nets) (c : ℕ → ℕ) (k : ℕ) → changes l v c ≤ changes l v (next_at c k)
changes-grown l v c k = below-grown l v c (next_at c k) one_more (suc l.last)
  where
    one_more : AreGrown c (next_at c k)
    one_more i = elim (cases_eq k i) [
      | inl e ↦ inr (subst (λ x. next_at c k x ≡ suc (c x)) e (place-here c k (suc (c k))))
      | inr apart ↦ inl (place-other c k (suc (c k)) i apart)
    ]

-- ---- where a stage or a tree has changed once more, and the others are as before, so have all

abbrev AreSameAt : Layout → Nets → Nets → ℕ → Type 0
AreSameAt l v u j = (in_stage l u j ≡ in_stage l v j) × (in_tree l u j ≡ in_tree l v j)

at-same : (l : Layout) (v u : Nets) (c : ℕ → ℕ) (k : ℕ) → AreSameAt l v u k
    → changes_at l c k (in_stage l u k) (in_tree l u k) ≡ changes_at l c k (in_stage l v k) (in_tree l v k)
at-same l v u c k (stage_same, tree_same) = ap (λ x. changes_at l c k x (in_tree l u k)) stage_same ∙ ap (changes_at l c k (in_stage l v k)) tree_same

below-same : (l : Layout) (v u : Nets) (c : ℕ → ℕ) (k : ℕ) → ((j : ℕ) → j < k → AreSameAt l v u j) → changes_below l v c k ≤ changes_below l u c k
below-same l v u c zero same = omega arith
below-same l v u c (suc k) same =
    let rest = below-same l v u c k (λ j lt. same j (omega (arith, lt))) in
    let own = at-same l v u c k (same k (omega arith)) in
    omega (arith, rest, own)

pub below-more : (l : Layout) (v u : Nets) (c : ℕ → ℕ) (k i : ℕ) → i < k → ((j : ℕ) → j < k → (i ≡ j → ⊥) → AreSameAt l v u j)
    → suc (changes_at l c i (in_stage l v i) (in_tree l v i)) ≤ changes_at l c i (in_stage l u i) (in_tree l u i)
    → suc (changes_below l v c k) ≤ changes_below l u c k
below-more l v u c zero i lt same more = absurd (omega (arith, lt))
below-more l v u c (suc k) i lt same more = elim (cases_eq i k) [
  | inl e ↦
      let rest = below-same l v u c k (λ j lj. same j (omega (arith, lj)) (λ q. omega (arith, q, e, lj))) in
      let own : suc (changes_at l c k (in_stage l v k) (in_tree l v k)) ≤ changes_at l c k (in_stage l u k) (in_tree l u k) =
      subst (λ x. suc (changes_at l c x (in_stage l v x) (in_tree l v x)) ≤ changes_at l c x (in_stage l u x) (in_tree l u x)) e more in
      omega (arith, rest, own)
  | inr apart ↦
      let rest = below-more l v u c k i (omega (arith, lt, apart)) (λ j lj. same j (omega (arith, lj))) more in
      let own = at-same l v u c k (same k (omega arith) apart) in
      omega (arith, rest, own)
]

-- ---- with each move the nets have changed once more

module _ {p : PipelineData} {l : Layout} {w : Waves} {offered : List (List Bool)} (set : IsSetting p l w offered) {s : State} (k : HasInvariant l w offered s) where
  -- at these values the nets have changed once more
  abbrev Rises : Nets → Type 0
  Rises u = suc (changes l s.value k.numbers) ≤ changes l u k.numbers

  -- ---- a net of a stage

  -- where the count of one stage rises, that of all does
  stage-rises : (j net : ℕ) (value : Bool) → j ≤ l.last → Member net (stage_nets l j)
      → suc (changes_at l k.numbers j (in_stage l s.value j) (in_tree l s.value j)) ≤ changes_at l k.numbers j (with_net (in_stage l s.value j) net value) (in_tree l s.value j)
      → Rises (with_net s.value net value)
  stage-rises j net value le listed more =
      let (ch, trees) = stage_views set.layout s.value j net value le listed in
      below-more l s.value (with_net s.value net value) k.numbers (suc l.last) j (omega (arith, le))
      (λ i lt apart. (ch.others i (omega (arith, lt)) apart, trees i (omega (arith, lt))))
      (subst (λ x. suc (changes_at l k.numbers j (in_stage l s.value j) (in_tree l s.value j)) ≤ changes_at l k.numbers j x (in_tree l (with_net s.value net value) j)) (sym ch.here)
      (subst (λ x. suc (changes_at l k.numbers j (in_stage l s.value j) (in_tree l s.value j)) ≤ changes_at l k.numbers j (with_net (in_stage l s.value j) net value) x) (sym (trees j le)) more))

  -- what holds of the bits by number holds of each
  by_bit : (j : ℕ) (P : Rails → Type 0) → ((i : ℕ) → i < width l j → P (in_bit l j i)) → (r : Rails) → Member r (l.stage j).inputs → P r
  by_bit j P each r m = go r (l.stage j).inputs each m
    where
      go : (r : Rails) (bits : List Rails) → ((i : ℕ) → i < length bits → P (get_or bits i no_rails)) → Member r bits → P r
      go r bits each (here {xs = rs}) = each 0 (omega arith)
      go r bits each (there {y = y} {xs = rs} m) = go r rs (λ i lt. each (suc i) (omega (arith, lt))) m

  -- a gate
  gate-rises : (j : ℕ) (g : StageCell) → j ≤ l.last → Member g (l.stage j).cells
      → in_stage l s.value j (out_of g) ≡ not (rising k.numbers j) → Rises (with_net s.value (out_of g) (rising k.numbers j))
  gate-rises j g le m old =
      stage-rises j (out_of g) e le (gate-listed (l.stage j) g m)
      (let gates = sum_by-more (gate_changes (k.numbers (suc j)) v) (gate_changes (k.numbers (suc j)) after) g
      (λ x n. times-put (k.numbers (suc j)) e v (out_of g) (out_of x) old) m (times-more (k.numbers (suc j)) e (v (out_of g)) (after (out_of g)) old (with_net-here v (out_of g) e)) in
      let rails =
      sum_by-no_less (rail_changes (k.numbers j) v) (rail_changes (k.numbers j) after) (l.stage j).inputs
      (by_bit j (λ r. rail_changes (k.numbers j) v r ≤ rail_changes (k.numbers j) after r) same_bit) in
      omega (arith, rails, gates))
    where
      e : Bool
      e = rising k.numbers j

      v : Nets
      v = in_stage l s.value j

      after : Nets
      after = with_net (in_stage l s.value j) (out_of g) (rising k.numbers j)

      same_bit : (i : ℕ) → i < width l j
          → rail_changes (k.numbers j) (in_stage l s.value j) (in_bit l j i) ≤ rail_changes
          (k.numbers j) (with_net (in_stage l s.value j) (out_of g) (rising k.numbers j)) (in_bit l j i)
      same_bit i lt =
          let rail = gate-no_rail (set.layout.is_stage j le) v e g m i in
          let one : times (k.numbers j) (even (k.numbers j)) (has_data after (in_bit l j i)) ≡ times (k.numbers j) (even (k.numbers j)) (has_data v (in_bit l j i)) =
          ap (times (k.numbers j) (even (k.numbers j))) (data-same v after (in_bit l j i) (rail false lt) (rail true lt)) in
          omega (arith, one)

  -- a rail: its bit counts twice
  rail-rises : (j b : ℕ) (r : Bool) → j ≤ l.last → b < width l j → k.numbers j ≡ k.numbers (suc j) → r ≡ bit_at (word_in w k.numbers j) b
      → has_data (in_stage l s.value j) (in_bit l j b) ≡ not (even (k.numbers j))
      → Rises (with_net s.value (in_rail l j b r) (rising k.numbers j))
  rail-rises j b r le within same named old =
      stage-rises j rail e le (rail-listed (l.stage j) b r within)
      (let rails = sum_by-more (rail_changes (k.numbers j) v) (rail_changes (k.numbers j) after) (in_bit l j b)
      (by_bit j (λ x. rail_changes (k.numbers j) v x ≤ rail_changes (k.numbers j) after x) each)
      (Member-get_or (l.stage j).inputs b no_rails within) (let more = moved_more in omega (arith, more)) in
      let gates = sum_by-no_less (gate_changes (k.numbers (suc j)) v) (gate_changes (k.numbers (suc j)) after) (l.stage j).cells (λ x n.
      let one : gate_changes (k.numbers (suc j)) after x ≡ gate_changes (k.numbers (suc j)) v x =
      ap (times (k.numbers (suc j)) e) (with_net-elsewhere v rail (out_of x) e (λ q. rail-no_output (l.stage j) (set.layout.is_stage j le) rail (rail-within (l.stage j).inputs b r within) x n (sym q))) in
      omega (arith, one)) in
      omega (arith, rails, gates))
    where
      e : Bool
      e = rising k.numbers j

      rail : ℕ
      rail = in_rail l j b r

      v : Nets
      v = in_stage l s.value j

      after : Nets
      after = with_net (in_stage l s.value j) (in_rail l j b r) (rising k.numbers j)

      moved_more : suc (times (k.numbers j) (even (k.numbers j)) (has_data (in_stage l s.value j) (in_bit l j b))) ≤ times (k.numbers j) (even (k.numbers j)) (has_data (with_net (in_stage l s.value j) (in_rail l j b r) (rising k.numbers j)) (in_bit l j b))
      moved_more = times-more (k.numbers j) (even (k.numbers j)) _ _ old
          (subst (λ q. has_data (with_net v (in_rail l j b q) e) (in_bit l j b) ≡ even (k.numbers j)) (sym named)
          (data-moved (set.layout.is_stage j le) e (set.waves.wide _ j le) (k.nets.phases j le) b within ∙ ap even (sym same)))

      each : (i : ℕ) → i < width l j
          → rail_changes (k.numbers j) (in_stage l s.value j) (in_bit l j i) ≤ rail_changes (k.numbers j)
          (with_net (in_stage l s.value j) (in_rail l j b r) (rising k.numbers j)) (in_bit l j i)
      each i lt = elim (cases_eq b i) [
        | inl q ↦ subst (λ x. rail_changes (k.numbers j) v (in_bit l j x) ≤ rail_changes (k.numbers j) after (in_bit l j x)) q (let more = moved_more in omega (arith, more))
        | inr apart ↦
            let one : times (k.numbers j) (even (k.numbers j)) (has_data after (in_bit l j i)) ≡ times (k.numbers j) (even (k.numbers j)) (has_data v (in_bit l j i)) =
            ap (times (k.numbers j) (even (k.numbers j))) (data-other (set.layout.is_stage j le) v e b i r within lt apart) in
            omega (arith, one)
      ]

  -- ---- a net of a tree

  tree-rises : (j net : ℕ) → j ≤ l.last → Member net (l.tree_nets j) → s.value net ≡ rising k.numbers j
      → Rises (with_net s.value net (not (rising k.numbers j)))
  tree-rises j net le listed old =
      let e : Bool = not (rising k.numbers j) in
      let (ch, stages) = tree_views set.layout s.value j net (not (rising k.numbers j)) le listed in
      let was : in_tree l s.value j net ≡ not (not (rising k.numbers j)) =
      local-at (l.tree_nets j) s.value net listed ∙ old ∙ sym (not-not (rising k.numbers j)) in
      below-more l s.value (with_net s.value net (not (rising k.numbers j))) k.numbers (suc l.last) j (omega (arith, le))
      (λ i lt apart. (stages i (omega (arith, lt)), ch.others i (omega (arith, lt)) apart))
      (subst (λ x. suc (changes_at l k.numbers j (in_stage l s.value j) (in_tree l s.value j)) ≤ changes_at l k.numbers j x (in_tree l (with_net s.value net (not (rising k.numbers j))) j)) (sym (stages j le))
      (subst (λ x. suc (changes_at l k.numbers j (in_stage l s.value j) (in_tree l s.value j)) ≤ changes_at l k.numbers j (in_stage l s.value j) x) (sym ch.here)
      (let nets = sum_by-more (tree_changes (k.numbers (suc j)) (in_tree l s.value j)) (tree_changes (k.numbers (suc j)) (with_net (in_tree l s.value j) net (not (rising k.numbers j))))
      net (λ x n. times-put (k.numbers (suc j)) (not (rising k.numbers j)) (in_tree l s.value j) net x was) listed
      (times-more (k.numbers (suc j)) (not (rising k.numbers j)) _ _ was (with_net-here (in_tree l s.value j) net (not (rising k.numbers j)))) in
      omega (arith, nets))))

  -- ---- the moves

  -- where a number goes on besides
  and_next : (item : Item) (x : ℕ) → Rises (step p s item).value
      → suc (changes l s.value k.numbers) ≤ changes l (step p s item).value (next_at k.numbers x)
  and_next item x more = let grown = changes-grown l (step p s item).value k.numbers x in omega (arith, more, grown)

  source-rises : (b : ℕ) → IsSourceMove l w s k.numbers b → Rises (moved l w s k.numbers b)
  source-rises b move =
      rail-rises 0 b (bit_at (word_in w k.numbers 0) b) (omega arith) move.within move.same (λ i. bit_at (word_in w k.numbers 0) b) (source_is_old set k move)

  ki-rises : (value : Bool) → value ≡ not (rising k.numbers l.last) → Rises (with_net s.value p.ki value)
  ki-rises value new = subst (λ x. Rises (with_net s.value p.ki x)) (sym new) (tree-rises l.last p.ki (omega arith) (ki-listed set.layout) (ki-value set k))

  tree-move : (item : Item) (j : ℕ) (cell : Cell) → IsTreeMove l s k.numbers j cell
      → (step p s item).value ≡ with_net s.value cell.out.0 (not (rising k.numbers j)) → Rises (step p s item).value
  tree-move item j cell move is =
      subst Rises (sym is) (tree-rises j cell.out.0 (let lt = move.within in omega (arith, lt)) (tree-listed set.layout j cell move.within move.listed) move.old)

  -- any move
  pub changes-rise : (item : Item) → (m : Move p l w s k.numbers item)
      → suc (changes l s.value k.numbers) ≤ changes l (step p s item).value (numbers_after m)
  changes-rise item (gate i cell j g at le m is excited) =
      let (was, now) = gate-step set k i cell j g at le m is excited in
      subst Rises (sym now) (gate-rises j g le m (local-at (stage_nets l j) s.value (out_of g) (gate-listed (l.stage j) g m) ∙ was))
  changes-rise item (register i cell j b r at move) =
      subst Rises (sym (register-step set k i cell j b r at move))
      (rail-rises (suc j) b r move.within move.bit move.same move.named (move.old ∙ ap (λ t. not (even t)) (sym move.same)))
  changes-rise item (tree i cell j at move inner) = tree-move (Fire i) j cell move (tree-step set k i cell j at move)
  changes-rise item (root i cell j at move is_root acks) = and_next (Fire i) (suc j) (tree-move (Fire i) j cell move (tree-step set k i cell j at move))
  changes-rise item (raise b move rises ev some) = subst Rises (sym (raise-step set k b move ev)) (source-rises b move)
  changes-rise item (raise_last b move rises ev all) = and_next (Raise b) 0 (subst Rises (sym (raise-step set k b move ev)) (source-rises b move))
  changes-rise item (lower b move falls od some) = subst Rises (sym (lower-step set k b move od)) (source-rises b move)
  changes-rise item (lower_last b move falls od all) = and_next (Lower b) 0 (subst Rises (sym (lower-step set k b move od)) (source-rises b move))
  changes-rise item (take ev some acks) = and_next Take (suc l.last) (ki-rises false (sym (not_from_true _ ev)))
  changes-rise item (ready od none acks) = and_next Ready (suc l.last) (ki-rises true (sym (not_from_false _ od)))

-- ---- the nets of the stages and trees are no more than the nets of the netlist

-- how many there are, of the stages and trees below an index
abbrev pub nets_below : Layout → ℕ → ℕ
nets_below l zero = 0
nets_below l (suc k) = nets_below l k + (length (stage_nets l k) + length (l.tree_nets k))

abbrev listed_below : Layout → ℕ → List ℕ
listed_below l zero = []
listed_below l (suc k) = (stage_nets l k ++ l.tree_nets k) ++ listed_below l k

length-listed : (l : Layout) (k : ℕ) → length (listed_below l k) ≡ nets_below l k
length-listed l zero = refl
length-listed l (suc k) =
    let rest = length-listed l k in
    let outer : length ((stage_nets l k ++ l.tree_nets k) ++ listed_below l k) ≡ length (stage_nets l k ++ l.tree_nets k) + length (listed_below l k) =
    length-append (stage_nets l k ++ l.tree_nets k) (listed_below l k) in
    let inner : length (stage_nets l k ++ l.tree_nets k) ≡ length (stage_nets l k) + length (l.tree_nets k) =
    length-append (stage_nets l k) (l.tree_nets k) in
    omega (arith, rest, outer, inner)

-- two lists whose elements differ, and that have none in common
differ-append : (xs ys : List ℕ) → AllPairs (λ x y. x ≢ y) xs → AllPairs (λ x y. x ≢ y) ys → ((x : ℕ) → Member x xs → Member x ys → ⊥)
    → AllPairs (λ x y. x ≢ y) (xs ++ ys)
differ-append [] ys first second apart = second
differ-append (x ∷ xs) ys first second apart =
    AllPairs-cons (λ x y. x ≢ y) x (xs ++ ys)
    (All-from_members (λ y. x ≢ y) (xs ++ ys) (λ y m. elim (Member-append_cases y xs ys m) [
      | inl in_first ↦ pairs-head (λ x y. x ≢ y) x xs first y in_first
      | inr in_second ↦ λ e. apart x here (subst (λ z. Member z ys) (sym e) in_second)
    ]))
    (differ-append xs ys (pairs-tail (λ x y. x ≢ y) x xs first) second (λ z m n. apart z (there m) n))

-- a net that is listed is of a stage or a tree
listed-part : (l : Layout) (k net : ℕ) → Member net (listed_below l k) → (j : ℕ) × (j < k) × (Member net (stage_nets l j) ⊎ Member net (l.tree_nets j))
listed-part l zero net m = elim m [ ]
listed-part l (suc k) net m = elim (Member-append_cases net (stage_nets l k ++ l.tree_nets k) (listed_below l k) m) [
  | inl own ↦ (k, omega arith, Member-append_cases net (stage_nets l k) (l.tree_nets k) own)
  | inr rest ↦ let (j, lt, part) = listed-part l k net rest in (j, omega (arith, lt), part)
]

module _ {p : PipelineData} {l : Layout} (is : IsLayoutOf p l) where
  -- the nets listed differ
  listed-differ : (k : ℕ) → k ≤ suc l.last → AllPairs (λ x y. x ≢ y) (listed_below l k)
  listed-differ zero le = λ i j d before within. absurd (omega (arith, within))
  listed-differ (suc k) le =
      let kl : k ≤ l.last = omega (arith, le) in
      differ-append (stage_nets l k ++ l.tree_nets k) (listed_below l k)
      (differ-append (stage_nets l k) (l.tree_nets k) (is.is_stage k kl).nets_differ (is.trees_differ k kl) (λ net m n. is.apart k k net kl kl m n))
      (listed-differ k (omega (arith, le)))
      (λ net m n.
      let (j, lt, part) = listed-part l k net n in
      let jl : j ≤ l.last = omega (arith, lt, kl) in
      elim (Member-append_cases net (stage_nets l k) (l.tree_nets k) m) [
        | inl in_stage_k ↦ elim part [
          | inl in_stage_j ↦ let same = is.stages_apart j k net jl kl in_stage_j in_stage_k in omega (arith, same, lt)
          | inr in_tree_j ↦ is.apart k j net kl jl in_stage_k in_tree_j
        ]
        | inr in_tree_k ↦ elim part [
          | inl in_stage_j ↦ is.apart j k net jl kl in_stage_j in_tree_k
          | inr in_tree_j ↦ let same = is.trees_apart j k net jl kl in_tree_j in_tree_k in omega (arith, same, lt)
        ]
      ])

  listed-within : (net : ℕ) → Member net (listed_below l (suc l.last)) → net < length p.netlist.nets
  listed-within net m =
      let (j, lt, part) = listed-part l (suc l.last) net m in
      elim part [
        | inl in_stage_j ↦ is.stage_within j net (omega (arith, lt)) in_stage_j
        | inr in_tree_j ↦ is.tree_within j net (omega (arith, lt)) in_tree_j
      ]

  -- so there are no more than the netlist has
  pub few_nets : nets_below l (suc l.last) ≤ length p.netlist.nets
  few_nets =
      let same = length-listed l (suc l.last) in
      let few : length (listed_below l (suc l.last)) ≤ length p.netlist.nets =
      no_more_than (listed_below l (suc l.last)) (length p.netlist.nets) (listed-differ (suc l.last) (omega arith)) (All-from_members (λ net. net < length p.netlist.nets) (listed_below l (suc l.last)) listed-within) in
      omega (arith, same, few)

-- ---- the bound on runs: no net changes more often than the waves of all words go by

module _ {p : PipelineData} {l : Layout} {w : Waves} {offered : List (List Bool)} (set : IsSetting p l w offered) where
  module _ {s : State} (k : HasInvariant l w offered s) where
    -- the number of the last wave, the NULL after the last word
    abbrev last_wave : ℕ
    last_wave = 2 * (w.held + length offered)

    -- no number is above it
    number-within : (j : ℕ) → j ≤ suc l.last → k.numbers j ≤ last_wave
    number-within zero le = let given = k.ends.given in let few = k.ends.few in omega (arith, given, few)
    number-within (suc j) le =
        let up_to = (within_source set k j (omega (arith, le))).0 in
        omega (arith, up_to, k.ends.given, k.ends.few)

    -- and it is even
    last_even : (j : ℕ) → k.numbers j ≡ last_wave → even (k.numbers j) ≡ true
    last_even j last = ap even last ∙ even-double (w.held + length offered)

    -- ---- at that number a bank is NULL, and so is the stage before it

    -- the stage, where the bank before it is NULL at that number
    stage_from_bank : (j : ℕ) → j ≤ l.last
        → (k.numbers j ≡ last_wave → (b : ℕ) → b < width l j → has_data (in_stage l s.value j) (in_bit l j b) ≡ false)
        → k.numbers (suc j) ≡ last_wave → (net : ℕ) → in_stage l s.value j net ≡ false
    stage_from_bank j le bank last =
        up_empty (set.layout.is_stage j le)
        (subst (λ e. IsPhase (l.stage j) e (word_in w k.numbers j) (in_stage l s.value j)) (last_even (suc j) last) (k.nets.phases j le))
        (λ net m. let (b, r, lt, e) = rail-place (l.stage j).inputs net m in ap (in_stage l s.value j) e ∙ false_from_ne_true _ (λ high. both_ways _ (bits b lt) (rail-data (in_stage l s.value j) (l.stage j).inputs b r high)))
      where
        bits : (b : ℕ) → b < width l j → has_data (in_stage l s.value j) (in_bit l j b) ≡ false
        bits b lt = elim (k.nets.near j le) [
          | equal e ↦ bank (e ∙ last) b lt
          | ahead e at ↦ absurd (let within = number-within j (omega (arith, le)) in omega (arith, e, within, last))
          | behind e at ↦ at b lt ∙ ap not (last_even (suc j) last)
        ]

    -- the bank, by the stage before it
    bank_at_end : (j : ℕ) → j ≤ l.last → k.numbers j ≡ last_wave → (b : ℕ) → b < width l j → has_data (in_stage l s.value j) (in_bit l j b) ≡ false
    bank_at_end zero le last b lt =
        k.ends.finished (omega (arith, k.ends.given, k.ends.few, last)) b lt
    bank_at_end (suc j) le last b lt = false_from_ne_true _ (λ some.
        let (r, high) = some-rail (in_stage l s.value (suc j)) (l.stage (suc j)).inputs b some in
        both_ways _ (stage_from_bank j (omega (arith, le)) (bank_at_end j (omega (arith, le))) last (out_rail l j b r)) (k.nets.up j b r le lt (last_even (suc j) last) high))

    stage_at_end : (j : ℕ) → j ≤ l.last → k.numbers (suc j) ≡ last_wave → (net : ℕ) → in_stage l s.value j net ≡ false
    stage_at_end j le = stage_from_bank j le (bank_at_end j le)

    -- and every net of its tree is old
    tree_at_end : (j net : ℕ) → j ≤ l.last → k.numbers (suc j) ≡ last_wave → Member net (l.tree_nets j) → in_tree l s.value j net ≡ rising k.numbers j
    tree_at_end j net le last m = elim (cases_lt j l.last) [
      | inl lt ↦
          let (c, n, out) = member_of_map net_of (l.tree j) net (subst (Member net) (set.layout.tree_outputs j lt) m) in
          ap (in_tree l s.value j) (sym out)
          ∙ all_are_old set.layout j lt (λ z m. k.nets.follows j z lt m) (λ b within. bank_at_end (suc j) lt last b within ∙ sym (ap not (last_even (suc j) last))) c n
      | inr past ↦
          let same : l.last ≡ j = omega (arith, le, past) in
          subst (λ x. Member net (l.tree_nets x) → in_tree l s.value x net ≡ rising k.numbers x) same (λ n. elim (member_cases net p.ki [] (subst (Member net) set.layout.ki_nets n)) [
            | inl ki ↦ ap (in_tree l s.value l.last) (sym ki ∙ sym set.layout.ki) ∙ k.nets.asks l.last (omega arith)
            | inr none ↦ elim none [ ]
          ]) m
    ]

    -- ---- so nothing has changed more often than that

    times-within : (c : ℕ) (e x : Bool) → c ≤ last_wave → (c ≡ last_wave → x ≡ not e) → times c e x ≤ last_wave
    times-within c e x le old = elim (cases_lt c last_wave) [
      | inl lt ↦ let one = one_if-most (agree x e) in omega (arith, lt, one)
      | inr past ↦ let none : one_if (agree x e) ≡ 0 = ap one_if (agree-old x e (old (omega (arith, le, past)))) in omega (arith, le, none)
    ]

    -- the rails, the gates, and the nets of the tree of one stage
    rails-within : (j : ℕ) → j ≤ l.last → sum_by (rail_changes (k.numbers j) (in_stage l s.value j)) (l.stage j).inputs ≤ width l j * (2 * last_wave)
    rails-within j le = sum_by-le (rail_changes (k.numbers j) (in_stage l s.value j)) (2 * last_wave) (l.stage j).inputs
        (All-from_get_or (λ r. rail_changes (k.numbers j) (in_stage l s.value j) r ≤ 2 * last_wave) (l.stage j).inputs no_rails (λ b lt.
        let one =
        times-within (k.numbers j) (even (k.numbers j)) (has_data (in_stage l s.value j) (in_bit l j b)) (number-within j (omega (arith, le))) (λ last. bank_at_end j le last b lt ∙ sym (not_from_true _ (last_even j last))) in
        omega (arith, one)))

    gates-within : (j : ℕ) → j ≤ l.last
        → sum_by (gate_changes (k.numbers (suc j)) (in_stage l s.value j)) (l.stage j).cells ≤ length (l.stage j).cells * last_wave
    gates-within j le = sum_by-le (gate_changes (k.numbers (suc j)) (in_stage l s.value j)) last_wave (l.stage j).cells
        (All-from_members (λ (g : StageCell). gate_changes (k.numbers (suc j)) (in_stage l s.value j) g ≤ last_wave) (l.stage j).cells (λ g m.
        times-within (k.numbers (suc j)) (rising k.numbers j) (in_stage l s.value j (out_of g))
        (number-within (suc j) (omega (arith, le))) (λ last. stage_at_end j le last (out_of g) ∙ sym (not_from_true _ (last_even (suc j) last)))))

    tree-within : (j : ℕ) → j ≤ l.last
        → sum_by (tree_changes (k.numbers (suc j)) (in_tree l s.value j)) (l.tree_nets j) ≤ length (l.tree_nets j) * last_wave
    tree-within j le = sum_by-le (tree_changes (k.numbers (suc j)) (in_tree l s.value j)) last_wave (l.tree_nets j)
        (All-from_members (λ net. tree_changes (k.numbers (suc j)) (in_tree l s.value j) net ≤ last_wave) (l.tree_nets j) (λ net m.
        times-within (k.numbers (suc j)) (not (rising k.numbers j)) (in_tree l s.value j net)
        (number-within (suc j) (omega (arith, le))) (λ last. tree_at_end j net le last m ∙ sym (not-not (rising k.numbers j)))))

    -- all of a stage and the tree after it
    at-within : (j : ℕ) → j ≤ l.last
        → changes_at l k.numbers j (in_stage l s.value j) (in_tree l s.value j) ≤ last_wave * (length (stage_nets l j) + length (l.tree_nets j))
    at-within j le =
        let rails = rails-within j le in
        let gates = gates-within j le in
        let nets = tree-within j le in
        let count : length (stage_nets l j) ≡ 2 * width l j + length (l.stage j).cells =
        length-append (rail_nets (l.stage j).inputs) (map out_of (l.stage j).cells)
        ∙ ap (λ n. n + length (map out_of (l.stage j).cells)) (rails-length (l.stage j).inputs)
        ∙ ap (λ n. 2 * width l j + n) (length-map (l.stage j).cells out_of) in
        let twice : width l j * (2 * last_wave) ≡ last_wave * (2 * width l j) =
        sym (mul_assoc (width l j) 2 last_wave) ∙ ap (λ n. n * last_wave) (mul_comm (width l j) 2) ∙ mul_comm (2 * width l j) last_wave in
        let of_gates : length (l.stage j).cells * last_wave ≡ last_wave * length (l.stage j).cells = mul_comm (length (l.stage j).cells) last_wave in
        let of_tree : length (l.tree_nets j) * last_wave ≡ last_wave * length (l.tree_nets j) = mul_comm (length (l.tree_nets j)) last_wave in
        let all : last_wave * (length (stage_nets l j) + length (l.tree_nets j)) ≡ last_wave * (2 * width l j) + last_wave * length (l.stage j).cells + last_wave * length (l.tree_nets j) =
        mul-add last_wave (length (stage_nets l j)) (length (l.tree_nets j))
        ∙ ap (λ n. last_wave * n + last_wave * length (l.tree_nets j)) count
        ∙ ap (λ n. n + last_wave * length (l.tree_nets j)) (mul-add last_wave (2 * width l j) (length (l.stage j).cells)) in
        omega (arith, rails, gates, nets, twice, of_gates, of_tree, all)

    below-within : (i : ℕ) → i ≤ suc l.last → changes_below l s.value k.numbers i ≤ last_wave * nets_below l i
    below-within zero le = omega arith
    below-within (suc i) le =
        let rest = below-within i (omega (arith, le)) in
        let own = at-within i (omega (arith, le)) in
        let all : last_wave * (nets_below l i + (length (stage_nets l i) + length (l.tree_nets i))) ≡ last_wave * nets_below l i + last_wave * (length (stage_nets l i) + length (l.tree_nets i)) =
        mul-add last_wave (nets_below l i) (length (stage_nets l i) + length (l.tree_nets i)) in
        omega (arith, rest, own, all)

    pub changes-within : changes l s.value k.numbers ≤ 2 * (w.held + length offered) * nets_below l (suc l.last)
    changes-within = below-within (suc l.last) (omega arith)

  -- each item of a run is one change more
  pub run-within : (items : List Item) {s : State} (k : HasInvariant l w offered s) → IsRunFrom p s items
      → changes l s.value k.numbers + length items ≤ 2 * (w.held + length offered) * nets_below l (suc l.last)
  run-within [] k run = let most = changes-within k in omega (arith, most)
  run-within (item ∷ items) {s} k run =
      let m = move_of set k item run.0 in
      let rest : changes l (step p s item).value (numbers_after m) + length items ≤ 2 * (w.held + length offered) * nets_below l (suc l.last) =
      run-within items (step-kept set k item m) run.1 in
      let rise : suc (changes l s.value k.numbers) ≤ changes l (step p s item).value (numbers_after m) = changes-rise set k item m in
      omega (arith, rest, rise)
