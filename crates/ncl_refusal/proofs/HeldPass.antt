-- From reset a delay-insensitive pipeline can deliver the words that banks hold one after another, the last bank's first, and
-- be empty behind each bank in turn: each word goes from bank to bank, and NULL after it.
use Rattle.ncl_refusal.proofs.Terms.{Base, Bool, Cell, CellAt, Contains, Contains-from_Member, Contains-from_slice_get, Fire, IsDelayInsensitive, IsExcited, IsLayoutOf, IsOneRailed, IsRunFrom, IsStage, IsUnfed, Item, Layout, List, Member, Member-append_cases, Member-append_left, Nets, None, Option, PipelineData, Rails, Ready, Shape, Some, StageCell, StageData, State, Take, [], after, all-from_places, among, among-from_member, and_from, ap, arith, bit_at, both_ways, cases_eq, cells_are, differ, enabled, excited-from_unfed, false, false_from_ne_true, gate-listed, gate-next, get_or_from_slice_get, has_data, held_in, high-value, in_bit, in_order, in_outputs, in_rail, in_tree, inl, inner_stage, inr, is_data, is_null, is_some, ki-listed, length, length-map, local-at, map, member-from_among, member_cases, member_of_map, named-has, named-no_output, named-only, named-within_values, named_rails, next_of_gate, next_value, no_rails, none_past, not, not_from_false, or_from, out-listed, out_of, out_rail, output-listed, own_stage, pin_values, rail-data, rail-listed, rail-no_output, rail-place, rail-within, rail_nets, refl, register-excited, reset, reset_nets, root-listed, same_from_both, set_of, set_of-low, slice_get-from_Contains, slice_get_within, some_high, some_high-low, stage-held, stage-none, stage_at, stage_function, stage_nets, step, subst, suc, sym, tree-listed, tree-value, true, true_from_ne_false, val, value-high, width, with_net-elsewhere, with_net-here, zero, ℕ, ◌+◌, ◌-◌, ◌<◌, ◌||◌, ◌∙◌, ◌∷◌, ◌≡◌, ◌≢◌, ◌≤◌}
use Rattle.ncl_refusal.proofs.Behind.{passes_at, picks}
use Rattle.ncl_refusal.proofs.Ends as ends
use Rattle.ncl_refusal.proofs.HeldFaults.{HasRisen, not_illegal, risen}
use Rattle.ncl_refusal.proofs.HeldRuns.{cell-enabled, picked-elsewhere, run-among, tree-settled}
use Rattle.ncl_refusal.proofs.HeldStage.{Asks, IsBeginning, IsHolding, holding-kept, reaches, some-data}
use Rattle.ncl_refusal.proofs.Reaching.{IsReached, reached-reset, reached-run}

module _ {p : PipelineData} {l : Layout} (is : IsLayoutOf p l) (shape : Shape p.netlist p) (good : IsDelayInsensitive p) where
  -- ---- a run of some cells alone, to its stop

  -- those whose outputs a test names: nothing else has changed, and none of them is excited
  pub record HasMoved (test : ℕ → Bool) (t : State) : Type 0 where
    pub run : List Item
    pub is_run : IsRunFrom p t run
    pub among : (item : Item) → Member item run → picks p test false item ≡ true
    pub others : (net : ℕ) → (test net ≡ true → ⊥) → (after p t run).value net ≡ t.value net
    pub still : (i : ℕ) (c : Cell) → CellAt p.netlist i c → test c.out.0 ≡ true → differ (next_value (after p t run).value c) ((after p t run).value c.out.0) ≡ true → ⊥

  pub moved : (test : ℕ → Bool) (t : State) → HasMoved test t
  moved test t =
      let all = ends.stops-among is (cells_are p shape l is) (picks p test false) t in
      record {
        run = all.run;
        is_run = all.is_run;
        among = all.among;
        others = λ net none.
            run-among p (picks p test false) (λ (u : State). u.value net ≡ t.value net)
            (λ u item same can picked. picked-elsewhere p test u item picked net none ∙ same) all.run t refl all.is_run all.among;
        still = λ i c at named excited.
            both_ways (enabled p (after p t all.run) (Fire (record { 0 = i }))) (all.quiet (Fire (record { 0 = i })) (ap (passes_at test) at ∙ named)) (cell-enabled p (after p t all.run) (record { 0 = i }) c at excited);
      }

  -- where each bit of a bank is as said, its tree has turned after a run of its cells
  pub tree-moved : (k : ℕ) (lt : k < l.last) (e : Bool) (t : State) → ((b : ℕ) → b < width l (suc k) → has_data t.value (in_bit l (suc k) b) ≡ e)
      → (net : ℕ) → Member net (l.tree_nets k) → (after p t (moved (among (l.tree_nets k)) t).run).value net ≡ not e
  tree-moved k lt e t bits =
      let m = moved (among (l.tree_nets k)) t in
      tree-settled is (after p t m.run).value k lt e
      (λ b lb. ap (λ x. x || (after p t m.run).value (in_rail l (suc k) b true)) (m.others (in_rail l (suc k) b false) (no_tree b false lb))
      ∙ ap (λ x. t.value (in_rail l (suc k) b false) || x) (m.others (in_rail l (suc k) b true) (no_tree b true lb)) ∙ bits b lb)
      (λ c in_c excited.
      let (i, at) = slice_get-from_Contains p.netlist.cells c (is.tree_cell k c lt in_c).0 in
      m.still i c at (among-from_member c.out.0 (tree-listed is k c lt in_c)) excited)
    where
      no_tree : (b : ℕ) (r : Bool) → b < width l (suc k) → among (l.tree_nets k) (in_rail l (suc k) b r) ≡ true → ⊥
      no_tree b r lb named = is.apart (suc k) k (in_rail l (suc k) b r) lt (omega (arith, lt)) (rail-listed (l.stage (suc k)) b r lb) (member-from_among (in_rail l (suc k) b r) (l.tree_nets k) named)

  -- where the bank after a stage asks for NULL, and the stage before is empty, a run of the stage and of the bank before it
  -- leaves nothing high
  pub stage-emptied : (n : ℕ) (le : suc n ≤ l.last) (t : State) → t.value (l.root (suc n)) ≡ false → ((net : ℕ) → Member net (stage_nets l n) → t.value net ≡ false)
      → (net : ℕ) → Member net (stage_nets l (suc n)) → (after p t (moved (among (stage_nets l (suc n))) t).run).value net ≡ false
  stage-emptied n le t root_low low = in_order own own_is (λ x. v x ≡ false)
      (λ x listed. let (j, r, lj, e) = rail-place own.inputs x listed in ap v e ∙ rail_low j r lj)
      (λ g m reads. false_from_ne_true _ (λ high.
      let unfed : IsUnfed v g = some_high-low v g.ins.items reads in
      let (i, c, at, same) = is.gate_at (suc n) g le m in
      let excited : IsExcited v g = excited-from_unfed (set_of g.kind (pin_values v g.ins.items)) (some_high (pin_values v g.ins.items)) (v g.out.0) high (set_of-low g.kind (pin_values v g.ins.items) unfed) unfed in
      all.still i c at (ap (among (stage_nets l (suc n))) same.out ∙ among-from_member (out_of g) (gate-listed own g m))
      (ap (λ x. differ x (v c.out.0)) (gate-next v c g same) ∙ ap (λ x. differ (next_of_gate v g) (v x)) same.out ∙ excited)))
    where
      own : StageData
      own = l.stage (suc n)

      own_is : IsStage own
      own_is = is.is_stage (suc n) le

      all : HasMoved (among (stage_nets l (suc n))) t
      all = moved (among (stage_nets l (suc n))) t

      v : Nets
      v = (after p t all.run).value

      out_stays : (j : ℕ) (r : Bool) → j < width l (suc n) → v (out_rail l n j r) ≡ false
      out_stays j r lj =
          let listed = out-listed is n j r le lj in
          all.others (out_rail l n j r) (λ named. let same = is.stages_apart (suc n) n (out_rail l n j r) le (omega (arith, le)) (member-from_among (out_rail l n j r) (stage_nets l (suc n)) named) listed in omega (arith, same))
          ∙ low (out_rail l n j r) listed

      rail_low : (j : ℕ) (r : Bool) → j < width l (suc n) → v (in_rail l (suc n) j r) ≡ false
      rail_low j r lj = false_from_ne_true _ (λ high.
          let (i, c, at, on) = is.register_at n j r le lj in
          let root : v (l.root (suc n)) ≡ false =
          all.others (l.root (suc n)) (λ named. is.apart (suc n) (suc n) (l.root (suc n)) le le (member-from_among (l.root (suc n)) (stage_nets l (suc n)) named) (root-listed is (suc n) le)) ∙ root_low in
          all.still i c at (ap (among (stage_nets l (suc n))) on.out ∙ among-from_member _ (rail-listed own j r lj))
          (register-excited v c (out_rail l n j r) (l.root (suc n)) (in_rail l (suc n) j r) on false (out_stays j r lj) root high))

  -- ---- a word on its way

  -- the word is in bank n + 1, whose stage hasn't begun; behind it all is empty, and so it is before it back to bank m, and up
  -- to there all is as at reset
  pub record IsAt (m n : ℕ) (word : List Bool) (t : State) : Type 0 where
    pub reached : IsReached p [] t
    pub rails : (j : ℕ) (r : Bool) → j < width l (suc n) → t.value (in_rail l (suc n) j r) ≡ among (named_rails (l.stage (suc n)).inputs word) (in_rail l (suc n) j r)
    pub gates : (g : StageCell) → Member g (l.stage (suc n)).cells → t.value (out_of g) ≡ false
    pub own_tree : (net : ℕ) → Member net (l.tree_nets n) → t.value net ≡ false
    pub low : (net : ℕ) → Member net (stage_nets l n) → t.value net ≡ false
    pub behind : (k net : ℕ) → suc n < k → k ≤ l.last → Member net (stage_nets l k) → t.value net ≡ false
    pub trees : (k net : ℕ) → n < k → k ≤ l.last → Member net (l.tree_nets k) → t.value net ≡ true
    pub passed : (k net : ℕ) → m < k → k ≤ n → Member net (stage_nets l k) → t.value net ≡ false
    pub passed_trees : (k net : ℕ) → m ≤ k → k < n → Member net (l.tree_nets k) → t.value net ≡ true
    pub same : (k net : ℕ) → k ≤ m → Member net (stage_nets l k) → t.value net ≡ reset_nets p net
    pub same_trees : (k net : ℕ) → k < m → Member net (l.tree_nets k) → t.value net ≡ reset_nets p net

  module _ (m n : ℕ) (word : List Bool) (wide : length word ≡ width l (suc n)) (inner : suc n < l.last) (t0 : State) (here : IsAt m n word t0) (m_le : m ≤ n) where
    abbrev own : StageData
    own = l.stage (suc n)

    le : suc n ≤ l.last
    le = omega (arith, inner)

    own_is : IsStage own
    own_is = is.is_stage (suc n) le

    abbrev base : Nets
    base = val own word Base

    pub beginning : IsBeginning is n word wide inner t0
    beginning = record {
      reached = here.reached;
      holding = record {
        low = here.low;
        acked = λ c in_c. here.own_tree c.out.0 (tree-listed is n c le in_c);
        rails = here.rails;
        below = λ net listed high. elim (Member-append_cases net (rail_nets own.inputs) (map out_of own.cells) listed) [
          | inl rail ↦ by_rail net high (rail-place own.inputs net rail)
          | inr gate ↦ absurd (let (g, in_g, e) = member_of_map out_of own.cells net gate in both_ways (t0.value net) (ap t0.value (sym e) ∙ here.gates g in_g) high)
        ];
        rises = λ g in_g high. absurd (both_ways (t0.value (out_of g)) (here.gates g in_g) high);
        up = λ j r lj high. absurd (both_ways _ (here.behind (suc (suc n)) (in_rail l (suc (suc n)) j r) (omega arith) inner (rail-listed (l.stage (suc (suc n))) j r lj)) high);
        follows = λ c in_c low.
            let listed = tree-listed is (suc n) c inner in_c in
            absurd (both_ways (in_tree l t0.value (suc n) c.out.0) low (local-at (l.tree_nets (suc n)) t0.value c.out.0 listed ∙ here.trees (suc n) c.out.0 (omega arith) le listed));
      };
      asks = here.trees (suc n) (l.root (suc n)) (omega arith) le (root-listed is (suc n) le);
      gates = here.gates;
    }
      where
        by_rail : (net : ℕ) → t0.value net ≡ true → (j : ℕ) × (r : Bool) × (j < width l (suc n)) × (net ≡ in_rail l (suc n) j r) → base net ≡ true
        by_rail net high (j, r, lj, e) =
            named-within_values own word net (Contains-from_Member net (member-from_among net (named_rails own.inputs word) (ap (among (named_rails own.inputs word)) e ∙ sym (here.rails j r lj) ∙ ap t0.value (sym e) ∙ high)))

    -- the stage settles
    pub settled : HasRisen is n word wide inner shape good t0 beginning (λ x. true)
    settled = risen is n word wide inner shape good t0 beginning (λ x. true)

    pub settled-value : (net : ℕ) → Member net (stage_nets l (suc n)) → settled.end.value net ≡ base net
    settled-value net listed = same_from_both _ _ (settled.holding.below net listed)
        (reaches is n word wide inner Base settled.end.value settled.holding (λ g in_g free. settled.still g in_g refl) net listed)

    abbrev pub next : StageData
    next = l.stage (suc (suc n))

    next_is : IsStage next
    next_is = is.is_stage (suc (suc n)) inner

    abbrev pub next_word : List Bool
    next_word = stage_function own word

    pub next-wide : length next_word ≡ width l (suc (suc n))
    next-wide = length-map own.outputs (λ (r : Rails). base r.one.0) ∙ is.joined (suc n) inner

    -- its outputs are the word that it makes
    module _ (one : IsOneRailed own word) where
      pub output-named : (j : ℕ) (r : Bool) → j < width l (suc (suc n)) → base (out_rail l (suc n) j r) ≡ among (named_rails next.inputs next_word) (in_rail l (suc (suc n)) j r)
      output-named j r lj =
          let lo = in_outputs is (suc n) j inner lj in
          same_from_both _ _
          (λ high.
          subst (λ q. among (named_rails next.inputs next_word) (in_rail l (suc (suc n)) j q) ≡ true) (sym (high-value own word one j lo r high))
          (among-from_member _ (named-has next.inputs next_word next-wide j lj)))
          (λ named.
          let own_bit : r ≡ bit_at next_word j = named-only next.inputs (map out_of next.cells) next_is.nets_differ next_word next-wide j r lj named in
          subst (λ q. base (out_rail l (suc n) j q) ≡ true) (sym own_bit) (value-high own word one j lo))

      -- the bank after the stage takes it
      abbrev rails_of_next : ℕ → Bool
      rails_of_next = among (rail_nets next.inputs)

      abbrev m2 : HasMoved rails_of_next settled.end
      m2 = moved rails_of_next settled.end

      abbrev e2 : State
      e2 = after p settled.end m2.run

      in_next : (net : ℕ) → rails_of_next net ≡ true → Member net (stage_nets l (suc (suc n)))
      in_next net named = Member-append_left net (map out_of next.cells) (member-from_among net (rail_nets next.inputs) named)

      holding2 : IsHolding is n word wide inner e2.value × Asks is n word wide inner e2.value
      holding2 = run-among p (picks p rails_of_next false) (λ (u : State). IsHolding is n word wide inner u.value × Asks is n word wide inner u.value)
          (λ u item h can picked. (
            holding-kept is n word wide inner u h.0 h.1 item can,
            picked-elsewhere p rails_of_next u item picked (l.root (suc n)) (λ named. is.apart (suc (suc n)) (suc n) (l.root (suc n)) inner le (in_next (l.root (suc n)) named) (root-listed is (suc n) le)) ∙ h.1,
          )) m2.run settled.end (settled.holding, settled.asks) m2.is_run m2.among

      out2 : (j : ℕ) (r : Bool) → j < width l (suc (suc n)) → e2.value (out_rail l (suc n) j r) ≡ base (out_rail l (suc n) j r)
      out2 j r lj =
          let listed = out-listed is (suc n) j r inner lj in
          m2.others (out_rail l (suc n) j r) (λ named. let same = is.stages_apart (suc (suc n)) (suc n) (out_rail l (suc n) j r) inner le (in_next (out_rail l (suc n) j r) named) listed in omega (arith, same))
          ∙ settled-value (out_rail l (suc n) j r) listed

      next_asks : e2.value (l.root (suc (suc n))) ≡ true
      next_asks =
          let listed = root-listed is (suc (suc n)) inner in
          m2.others (l.root (suc (suc n))) (λ named. is.apart (suc (suc n)) (suc (suc n)) (l.root (suc (suc n))) inner inner (in_next (l.root (suc (suc n))) named) listed)
          ∙ settled.others (l.root (suc (suc n))) (λ k. is.apart (suc n) (suc (suc n)) (l.root (suc (suc n))) le inner k listed) ∙ here.trees (suc (suc n)) (l.root (suc (suc n))) (omega arith) inner listed

      taken : (j : ℕ) (r : Bool) → j < width l (suc (suc n)) → e2.value (in_rail l (suc (suc n)) j r) ≡ base (out_rail l (suc n) j r)
      taken j r lj = same_from_both _ _
          (λ high. sym (out2 j r lj) ∙ holding2.0.up j r lj high)
          (λ high. true_from_ne_false _ (λ low.
          let (i, c, at, on) = is.register_at (suc n) j r inner lj in
          m2.still i c at (ap rails_of_next on.out ∙ among-from_member _ (rail-within next.inputs j r lj))
          (register-excited e2.value c (out_rail l (suc n) j r) (l.root (suc (suc n))) (in_rail l (suc (suc n)) j r) on true (out2 j r lj ∙ high) next_asks low)))

      taken-named : (j : ℕ) (r : Bool) → j < width l (suc (suc n)) → e2.value (in_rail l (suc (suc n)) j r) ≡ among (named_rails next.inputs next_word) (in_rail l (suc (suc n)) j r)
      taken-named j r lj = taken j r lj ∙ output-named j r lj

      -- its tree turns, the stage falls, and the tree before it turns
      abbrev m3 : HasMoved (among (l.tree_nets (suc n))) e2
      m3 = moved (among (l.tree_nets (suc n))) e2

      abbrev e3 : State
      e3 = after p e2 m3.run

      abbrev m4 : HasMoved (among (stage_nets l (suc n))) e3
      m4 = moved (among (stage_nets l (suc n))) e3

      abbrev e4 : State
      e4 = after p e3 m4.run

      abbrev m5 : HasMoved (among (l.tree_nets n)) e4
      m5 = moved (among (l.tree_nets n)) e4

      abbrev pub gone_on : State
      gone_on = after p e4 m5.run

      new_tree : (net : ℕ) → Member net (l.tree_nets (suc n)) → e3.value net ≡ false
      new_tree = tree-moved (suc n) inner true e2 (λ b lb.
          rail-data e2.value next.inputs b (bit_at next_word b) (taken-named b (bit_at next_word b) lb ∙ among-from_member _ (named-has next.inputs next_word next-wide b lb)))

      -- what none of these moves
      kept3 : (net : ℕ) → (Member net (stage_nets l (suc n)) → ⊥) → (Member net (rail_nets next.inputs) → ⊥) → (Member net (l.tree_nets (suc n)) → ⊥) → e3.value net ≡ t0.value net
      kept3 net no_stage no_rail no_tree =
          m3.others net (λ named. no_tree (member-from_among net (l.tree_nets (suc n)) named)) ∙ m2.others net (λ named. no_rail (member-from_among net (rail_nets next.inputs) named)) ∙ settled.others net no_stage

      kept5 : (net : ℕ) → (Member net (stage_nets l (suc n)) → ⊥) → (Member net (rail_nets next.inputs) → ⊥) → (Member net (l.tree_nets (suc n)) → ⊥) → (Member net (l.tree_nets n) → ⊥) → gone_on.value net ≡ t0.value net
      kept5 net no_stage no_rail no_tree no_own =
          m5.others net (λ named. no_own (member-from_among net (l.tree_nets n) named)) ∙ m4.others net (λ named. no_stage (member-from_among net (stage_nets l (suc n)) named)) ∙ kept3 net no_stage no_rail no_tree

      kept_stage : (k net : ℕ) → k ≤ l.last → (k ≡ suc n → ⊥) → (k ≡ suc (suc n) → ⊥) → Member net (stage_nets l k) → gone_on.value net ≡ t0.value net
      kept_stage k net lk one two listed = kept5 net
          (λ x. one (is.stages_apart k (suc n) net lk le listed x))
          (λ x. two (is.stages_apart k (suc (suc n)) net lk inner listed (Member-append_left net (map out_of next.cells) x)))
          (λ x. is.apart k (suc n) net lk le listed x)
          (λ x. is.apart k n net lk (omega (arith, inner)) listed x)

      kept_tree : (k net : ℕ) → k ≤ l.last → (k ≡ suc n → ⊥) → (k ≡ n → ⊥) → Member net (l.tree_nets k) → gone_on.value net ≡ t0.value net
      kept_tree k net lk one two listed = kept5 net
          (λ x. is.apart (suc n) k net le lk x listed)
          (λ x. is.apart (suc (suc n)) k net inner lk (Member-append_left net (map out_of next.cells) x) listed)
          (λ x. one (is.trees_apart k (suc n) net lk le listed x))
          (λ x. two (is.trees_apart k n net lk (omega (arith, inner)) listed x))

      emptied : (net : ℕ) → Member net (stage_nets l (suc n)) → e4.value net ≡ false
      emptied = stage-emptied n le e3 (new_tree (l.root (suc n)) (root-listed is (suc n) le)) (λ net listed.
          kept3 net (λ x. let same = is.stages_apart n (suc n) net (omega (arith, inner)) le listed x in omega (arith, same))
          (λ x. let same = is.stages_apart n (suc (suc n)) net (omega (arith, inner)) inner listed (Member-append_left net (map out_of next.cells) x) in omega (arith, same))
          (λ x. is.apart n (suc n) net (omega (arith, inner)) le listed x) ∙ here.low net listed)

      now_low : (net : ℕ) → Member net (stage_nets l (suc n)) → gone_on.value net ≡ false
      now_low net listed = m5.others net (λ named. is.apart (suc n) n net le (omega (arith, inner)) listed (member-from_among net (l.tree_nets n) named)) ∙ emptied net listed

      own_turned : (net : ℕ) → Member net (l.tree_nets n) → gone_on.value net ≡ true
      own_turned = tree-moved n le false e4 (λ b lb. or_from _ _ (emptied _ (rail-listed own b false lb)) (emptied _ (rail-listed own b true lb)))

      rails-after : (j : ℕ) (r : Bool) → j < width l (suc (suc n)) → gone_on.value (in_rail l (suc (suc n)) j r) ≡ among (named_rails next.inputs next_word) (in_rail l (suc (suc n)) j r)
      rails-after j r lj =
          let listed = rail-listed next j r lj in
          m5.others _ (λ named. is.apart (suc (suc n)) n _ inner (omega (arith, inner)) listed (member-from_among _ (l.tree_nets n) named))
          ∙ m4.others _ (λ named. let same = is.stages_apart (suc (suc n)) (suc n) _ inner le listed (member-from_among _ (stage_nets l (suc n)) named) in omega (arith, same))
          ∙ m3.others _ (λ named. is.apart (suc (suc n)) (suc n) _ inner le listed (member-from_among _ (l.tree_nets (suc n)) named))
          ∙ taken-named j r lj

      pub goes-on : IsAt m (suc n) next_word gone_on
      goes-on = record {
        reached = reached-run p [] (reached-run p [] (reached-run p [] (reached-run p [] settled.reached m2.run m2.is_run) m3.run m3.is_run) m4.run m4.is_run) m5.run m5.is_run;
        rails = rails-after;
        gates = λ g in_g.
            let listed = gate-listed next g in_g in
            kept5 (out_of g) (λ x. let same = is.stages_apart (suc (suc n)) (suc n) (out_of g) inner le listed x in omega (arith, same))
            (λ x. rail-no_output next next_is (out_of g) x g in_g refl) (λ x. is.apart (suc (suc n)) (suc n) (out_of g) inner le listed x)
            (λ x. is.apart (suc (suc n)) n (out_of g) inner (omega (arith, inner)) listed x) ∙ here.behind (suc (suc n)) (out_of g) (omega arith) inner listed;
        own_tree = λ net listed.
            m5.others net (λ named. let same = is.trees_apart (suc n) n net le (omega (arith, inner)) listed (member-from_among net (l.tree_nets n) named) in omega (arith, same))
            ∙ m4.others net (λ named. is.apart (suc n) (suc n) net le le (member-from_among net (stage_nets l (suc n)) named) listed) ∙ new_tree net listed;
        low = now_low;
        behind = λ k net past lk listed. kept_stage k net lk (λ e. absurd (omega (arith, e, past))) (λ e. absurd (omega (arith, e, past))) listed ∙ here.behind k net (omega (arith, past)) lk listed;
        trees = λ k net past lk listed. kept_tree k net lk (λ e. absurd (omega (arith, e, past))) (λ e. absurd (omega (arith, e, past))) listed ∙ here.trees k net (omega (arith, past)) lk listed;
        passed = λ k net past lk listed. elim (cases_eq k (suc n)) [
          | inl e ↦ now_low net (subst (λ x. Member net (stage_nets l x)) e listed)
          | inr apart ↦ kept_stage k net (omega (arith, lk, inner)) apart (λ e. absurd (omega (arith, e, lk))) listed ∙ here.passed k net past (omega (arith, lk, apart)) listed
        ];
        passed_trees = λ k net past lk listed. elim (cases_eq k n) [
          | inl e ↦ own_turned net (subst (λ x. Member net (l.tree_nets x)) e listed)
          | inr apart ↦ kept_tree k net (omega (arith, lk, inner)) (λ e. absurd (omega (arith, e, lk))) apart listed ∙ here.passed_trees k net past (omega (arith, lk, apart)) listed
        ];
        same = λ k net lk listed. kept_stage k net (omega (arith, lk, m_le, inner)) (λ e. absurd (omega (arith, e, lk, m_le))) (λ e. absurd (omega (arith, e, lk, m_le))) listed ∙ here.same k net lk listed;
        same_trees = λ k net lk listed. kept_tree k net (omega (arith, lk, m_le, inner)) (λ e. absurd (omega (arith, e, lk, m_le))) (λ e. absurd (omega (arith, e, lk, m_le))) listed ∙ here.same_trees k net lk listed;
      }

  -- ---- the end of the way

  -- all behind bank m is empty, and up to there it is as at reset
  pub record IsEmptyPast (m : ℕ) (t : State) : Type 0 where
    pub reached : IsReached p [] t
    pub behind : (k net : ℕ) → m < k → k ≤ l.last → Member net (stage_nets l k) → t.value net ≡ false
    pub trees : (k net : ℕ) → m ≤ k → k ≤ l.last → Member net (l.tree_nets k) → t.value net ≡ true
    pub same : (k net : ℕ) → k ≤ m → Member net (stage_nets l k) → t.value net ≡ reset_nets p net
    pub same_trees : (k net : ℕ) → k < m → Member net (l.tree_nets k) → t.value net ≡ reset_nets p net

  -- the sink takes the word from the last bank, and NULL after it
  module _ (m n : ℕ) (word : List Bool) (wide : length word ≡ width l (suc n)) (last : suc n ≡ l.last) (t0 : State) (here : IsAt m n word t0) (m_le : m ≤ n) where
    end_le : suc n ≤ l.last
    end_le = omega (arith, last)

    abbrev final : StageData
    final = l.stage (suc n)

    final_is : IsStage final
    final_is = is.is_stage (suc n) end_le

    wires : final.outputs ≡ final.inputs
    wires = ap (λ k. (l.stage k).outputs) last ∙ is.last_wires.1 ∙ ap (λ k. (l.stage k).inputs) (sym last)

    outputs : final.outputs ≡ p.outputs
    outputs = ap (λ k. (l.stage k).outputs) last ∙ is.sink

    ki_in : Member p.ki (l.tree_nets (suc n))
    ki_in = subst (λ k. Member p.ki (l.tree_nets k)) (sym last) (ki-listed is)

    ki_root : l.root (suc n) ≡ p.ki
    ki_root = ap l.root last ∙ is.ki

    only_ki : (net : ℕ) → Member net (l.tree_nets (suc n)) → net ≡ p.ki
    only_ki net listed = elim (member_cases net p.ki [] (subst (Member net) (ap l.tree_nets last ∙ is.ki_nets) listed)) [ inl e ↦ sym e | inr none ↦ elim none [ ] ]

    -- what isn't the sink's acknowledge stays as the sink moves
    apart_ki : (net : ℕ) → (Member net (l.tree_nets (suc n)) → ⊥) → p.ki ≢ net
    apart_ki net none e = none (subst (λ x. Member x (l.tree_nets (suc n))) e ki_in)

    all_data_out : is_data p.outputs t0.value ≡ true
    all_data_out = subst (λ bits. is_data bits t0.value ≡ true) outputs (subst (λ bits. is_data bits t0.value ≡ true) (sym wires) (all-from_places (has_data t0.value) final.inputs (λ j lj.
        rail-data t0.value final.inputs j (bit_at word j) (here.rails j (bit_at word j) lj ∙ among-from_member _ (named-has final.inputs word wide j lj)))))

    can_take : enabled p t0 Take ≡ true
    can_take = and_from _ _ (here.trees (suc n) p.ki (omega arith) end_le ki_in) all_data_out

    abbrev t1 : State
    t1 = step p t0 Take

    t1_same : (net : ℕ) → (Member net (l.tree_nets (suc n)) → ⊥) → t1.value net ≡ t0.value net
    t1_same net none = with_net-elsewhere t0.value p.ki net false (apart_ki net none)

    abbrev a4 : HasMoved (among (stage_nets l (suc n))) t1
    a4 = moved (among (stage_nets l (suc n))) t1

    abbrev t2 : State
    t2 = after p t1 a4.run

    stage_apart : (k net : ℕ) → k ≤ l.last → Member net (stage_nets l k) → Member net (l.tree_nets (suc n)) → ⊥
    stage_apart k net lk listed tree = is.apart k (suc n) net lk end_le listed tree

    t2_low : (net : ℕ) → Member net (stage_nets l (suc n)) → t2.value net ≡ false
    t2_low = stage-emptied n end_le t1 (ap t1.value ki_root ∙ with_net-here t0.value p.ki false) (λ net listed. t1_same net (stage_apart n net (omega (arith, last)) listed) ∙ here.low net listed)

    ki_low : t2.value p.ki ≡ false
    ki_low = a4.others p.ki (λ named. is.apart (suc n) (suc n) p.ki end_le end_le (member-from_among p.ki (stage_nets l (suc n)) named) ki_in) ∙ with_net-here t0.value p.ki false

    can_ready : enabled p t2 Ready ≡ true
    can_ready = and_from _ _ (not_from_false _ ki_low) (subst (λ bits. is_null bits t2.value ≡ true) outputs (all-from_places (λ (r : Rails). not (has_data t2.value r)) final.outputs (λ j lj.
        not_from_false _ (or_from _ _ (t2_low _ (output-listed final_is j false lj)) (t2_low _ (output-listed final_is j true lj))))))

    abbrev t3 : State
    t3 = step p t2 Ready

    t3_same : (net : ℕ) → (Member net (l.tree_nets (suc n)) → ⊥) → t3.value net ≡ t2.value net
    t3_same net none = with_net-elsewhere t2.value p.ki net true (apart_ki net none)

    abbrev a5 : HasMoved (among (l.tree_nets n)) t3
    a5 = moved (among (l.tree_nets n)) t3

    abbrev delivered : State
    delivered = after p t3 a5.run

    t3_low : (net : ℕ) → Member net (stage_nets l (suc n)) → t3.value net ≡ false
    t3_low net listed = t3_same net (stage_apart (suc n) net end_le listed) ∙ t2_low net listed

    tree_turned : (net : ℕ) → Member net (l.tree_nets n) → delivered.value net ≡ true
    tree_turned = tree-moved n end_le false t3 (λ b lb. or_from _ _ (t3_low _ (rail-listed final b false lb)) (t3_low _ (rail-listed final b true lb)))

    left : (net : ℕ) → (Member net (stage_nets l (suc n)) → ⊥) → (Member net (l.tree_nets (suc n)) → ⊥) → (Member net (l.tree_nets n) → ⊥) → delivered.value net ≡ t0.value net
    left net no_stage no_tree no_own =
        a5.others net (λ named. no_own (member-from_among net (l.tree_nets n) named)) ∙ t3_same net no_tree ∙ a4.others net (λ named. no_stage (member-from_among net (stage_nets l (suc n)) named)) ∙ t1_same net no_tree

    left_stage : (k net : ℕ) → k ≤ l.last → (k ≡ suc n → ⊥) → Member net (stage_nets l k) → delivered.value net ≡ t0.value net
    left_stage k net lk one listed = left net (λ x. one (is.stages_apart k (suc n) net lk end_le listed x)) (stage_apart k net lk listed) (λ x. is.apart k n net lk (omega (arith, last)) listed x)

    left_tree : (k net : ℕ) → k ≤ l.last → (k ≡ suc n → ⊥) → (k ≡ n → ⊥) → Member net (l.tree_nets k) → delivered.value net ≡ t0.value net
    left_tree k net lk one two listed = left net (λ x. is.apart (suc n) k net end_le lk x listed) (λ x. one (is.trees_apart k (suc n) net lk end_le listed x)) (λ x. two (is.trees_apart k n net lk (omega (arith, last)) listed x))

    pub arrives : (t : State) × IsEmptyPast m t
    arrives = (
      delivered,
      record {
        reached = reached-run p [] (reached-run p [] (reached-run p [] (reached-run p [] here.reached (Take ∷ []) (can_take, tt)) a4.run a4.is_run) (Ready ∷ []) (can_ready, tt)) a5.run a5.is_run;
        behind = λ k net past lk listed. elim (cases_eq k (suc n)) [
          | inl e ↦
              let here_in : Member net (stage_nets l (suc n)) = subst (λ x. Member net (stage_nets l x)) e listed in
              a5.others net (λ named. is.apart (suc n) n net end_le (omega (arith, last)) here_in (member-from_among net (l.tree_nets n) named)) ∙ t3_low net here_in
          | inr apart ↦ left_stage k net lk apart listed ∙ here.passed k net past (omega (arith, lk, apart, last)) listed
        ];
        trees = λ k net past lk listed. elim (cases_eq k (suc n)) [
          | inl e ↦
              let here_in : Member net (l.tree_nets (suc n)) = subst (λ x. Member net (l.tree_nets x)) e listed in
              a5.others net (λ named. let same = is.trees_apart (suc n) n net end_le (omega (arith, last)) here_in (member-from_among net (l.tree_nets n) named) in omega (arith, same))
              ∙ ap t3.value (only_ki net here_in) ∙ with_net-here t2.value p.ki true
          | inr one ↦ elim (cases_eq k n) [
            | inl e ↦ tree_turned net (subst (λ x. Member net (l.tree_nets x)) e listed)
            | inr two ↦ left_tree k net lk one two listed ∙ here.passed_trees k net past (omega (arith, lk, one, two, last)) listed
          ]
        ];
        same = λ k net lk listed. left_stage k net (omega (arith, lk, m_le, last)) (λ e. absurd (omega (arith, e, lk, m_le))) listed ∙ here.same k net lk listed;
        same_trees = λ k net lk listed. left_tree k net (omega (arith, lk, m_le, last)) (λ e. absurd (omega (arith, e, lk, m_le))) (λ e. absurd (omega (arith, e, lk, m_le))) listed ∙ here.same_trees k net lk listed;
      },
    )

  -- ---- from bank to bank

  pub listed-stage : (n : ℕ) → suc n < l.last → Contains p.stages (l.stage (suc n))
  listed-stage n inner =
      let many = is.as_many in
      let lt : n < length p.stages = omega (arith, inner, many) in
      subst (Contains p.stages) (sym (own_stage p shape l is n lt)) (Contains-from_slice_get p.stages n (stage_at p (suc n)) (inner_stage p shape n lt))

  pub one-railed : (n : ℕ) (word : List Bool) (wide : length word ≡ width l (suc n)) (inner : suc n < l.last) (s : State) → IsBeginning is n word wide inner s → IsOneRailed (l.stage (suc n)) word
  one-railed n word wide inner s begins = record {
    some = λ r in_out.
        let (j, at) = slice_get-from_Contains (l.stage (suc n)).outputs r (Contains-from_Member r in_out) in
        ap (has_data (val (l.stage (suc n)) word Base)) (sym (get_or_from_slice_get (l.stage (suc n)).outputs j r no_rails at))
        ∙ some-data is n word wide inner shape good s begins j (slice_get_within (l.stage (suc n)).outputs j r at);
    legal = λ r in_out. not_illegal is n word wide inner shape good s begins (listed-stage n inner) r in_out;
  }

  -- a word on its way comes to the sink, and leaves all empty
  passes : (d m n : ℕ) (word : List Bool) → suc n + d ≡ l.last → m ≤ n → length word ≡ width l (suc n) → (t : State) → IsAt m n word t → (u : State) × IsEmptyPast m u
  passes zero m n word e m_le wide t here = arrives m n word wide (omega (arith, e)) t here m_le
  passes (suc d) m n word e m_le wide t here =
      let inner : suc n < l.last = omega (arith, e) in
      let one = one-railed n word wide inner t (beginning m n word wide inner t here m_le) in
      passes d m (suc n) (stage_function (l.stage (suc n)) word) (omega (arith, e)) (omega (arith, m_le)) (next-wide m n word wide inner t here m_le) (gone_on m n word wide inner t here m_le one) (goes-on m n word wide inner t here m_le one)

  -- a word that a bank holds, where all behind it is empty
  module _ (m : ℕ) (word : List Bool) (held : l.held m ≡ Some word) (t : State) (empty : IsEmptyPast (suc m) t) where
    abbrev holder : StageData
    holder = l.stage (suc m)

    held_le : suc m ≤ l.last
    held_le = (is.held_wide m word held).0

    none-there : held_in l m ≡ None
    none-there = by m held
      where
        by : (k : ℕ) → l.held k ≡ Some word → held_in l k ≡ None
        by zero at = refl
        by (suc k) at = one (l.held k) refl
          where
            one : (o : Option (List Bool)) → l.held k ≡ o → l.held k ≡ None
            one None e = e
            one (Some other) e = absurd (is.held_apart k other word e at)

    at-reset : (net : ℕ) → Member net (stage_nets l (suc m)) → t.value net ≡ among (named_rails holder.inputs word) net
    at-reset net listed = empty.same (suc m) net (omega arith) listed ∙ sym (local-at (stage_nets l (suc m)) (reset_nets p) net listed) ∙ ap (λ v. v net) (stage-held is m word held)

    pub starts : IsAt m m word t
    starts = record {
      reached = empty.reached;
      rails = λ j r lj. at-reset (in_rail l (suc m) j r) (rail-listed holder j r lj);
      gates = λ g in_g. at-reset (out_of g) (gate-listed holder g in_g) ∙ false_from_ne_true _ (λ named.
          named-no_output holder (is.is_stage (suc m) held_le) word (out_of g) (Contains-from_Member (out_of g) (member-from_among (out_of g) (named_rails holder.inputs word) named)) g in_g refl);
      own_tree = λ net listed. empty.same_trees m net (omega arith) listed ∙ tree-value is m net (omega (arith, held_le)) listed ∙ ap (λ o. not (is_some o)) held;
      low = λ net listed.
          empty.same m net (omega arith) listed ∙ sym (local-at (stage_nets l m) (reset_nets p) net listed) ∙ ap (λ v. v net) (stage-none is m (omega (arith, held_le)) none-there);
      behind = empty.behind;
      trees = λ k net past lk listed. empty.trees k net (omega (arith, past)) lk listed;
      passed = λ k net past lk listed. absurd (omega (arith, past, lk));
      passed_trees = λ k net past lk listed. absurd (omega (arith, past, lk));
      same = λ k net lk listed. empty.same k net (omega (arith, lk)) listed;
      same_trees = λ k net lk listed. empty.same_trees k net (omega (arith, lk)) listed;
    }

  -- so all can be empty behind each bank
  pub empty-past : (d m : ℕ) → m + d ≡ l.last → (t : State) × IsEmptyPast m t
  empty-past zero m e = (
    reset p [],
    record {
      reached = reached-reset p [];
      behind = λ k net past lk listed. absurd (omega (arith, e, past, lk));
      trees = λ k net past lk listed. tree-value is k net lk listed ∙ ap not (none_past is k (omega (arith, e, past)));
      same = λ k net lk listed. refl;
      same_trees = λ k net lk listed. refl;
    },
  )
  empty-past (suc d) m e = by (empty-past d (suc m) (omega (arith, e))) (l.held m) refl
    where
      le : suc m ≤ l.last
      le = omega (arith, e)

      by : (t : State) × IsEmptyPast (suc m) t → (o : Option (List Bool)) → l.held m ≡ o → (t : State) × IsEmptyPast m t
      by (t, empty) None none = (
        t,
        record {
          reached = empty.reached;
          behind = λ k net past lk listed. elim (cases_eq k (suc m)) [
            | inl q ↦
                let own : Member net (stage_nets l (suc m)) = subst (λ x. Member net (stage_nets l x)) q listed in
                empty.same (suc m) net (omega arith) own ∙ sym (local-at (stage_nets l (suc m)) (reset_nets p) net own) ∙ ap (λ v. v net) (stage-none is (suc m) le none)
            | inr apart ↦ empty.behind k net (omega (arith, past, apart)) lk listed
          ];
          trees = λ k net past lk listed. elim (cases_eq k m) [
            | inl q ↦
                let own : Member net (l.tree_nets m) = subst (λ x. Member net (l.tree_nets x)) q listed in
                empty.same_trees m net (omega arith) own ∙ tree-value is m net (omega (arith, le)) own ∙ ap (λ o. not (is_some o)) none
            | inr apart ↦ empty.trees k net (omega (arith, past, apart)) lk listed
          ];
          same = λ k net lk listed. empty.same k net (omega (arith, lk)) listed;
          same_trees = λ k net lk listed. empty.same_trees k net (omega (arith, lk)) listed;
        },
      )
      by (t, empty) (Some word) some = passes (l.last - suc m) m m word (omega (arith, le)) (omega arith) (is.held_wide m word some).1 t (starts m word some t empty)
