-- The functions of the nets that count for an output: they are listed, and their tables are held once all are made.
pub use Rattle.ncl_match.proofs.Terms.{[], All, All-append, All-cons, All-from_members, All-nil, AllPairs, AreDone, AreHeld, AreMarksFor, Bool, Circuit, Contains, DataCell, Err, FitPins, Gathers, HasFunction, HasRail, HaveInputs, HoldsNets, IsCase, IsErrAnd, IsEvaluated, IsHeld, IsLayoutOf, IsListed, IsOrdered, IsSpace, Keeps, Layout, List, MakesRail, Member, Member-append_left, Member-from_Contains, Model, NetCounts, Nets, None, Ok, Option, Overflows, Pair, PipelineData, Rails, Result, Shape, Some, SpaceData, SpaceFault, WordFunction, ap, arith, bit_function, both_tables, cell_tables, circuit_of, closed, complement, false, fits, gathered, get_or, get_or_from_slice_get, handed_on, here, if◌then◌else◌, inl, input_tables, inr, inverse, is_marked, is_needed, is_rail, is_value, laid_out_of, left-differ, length, map, no_rails, or_cases, or_left, or_right, out_of, pair_at, plan_of, plan_tables, rail-place, rail_at, rail_nets, rail_of, refl, rules, slice_get, slice_get-get_or, subst, suc, sym, table_of, table_of-same, there, true, with_tables, words, zero, ℕ, ◌<◌, ◌∙◌, ◌∷◌, ◌≡◌, ◌≢◌}
use Rattle.ncl_space.specs.declared.space.SpaceFault.TheVariants.{Full}
use Rattle.ncl_match.proofs.MarkLaws.{reached-marked}
pub use Rattle.ncl_match.proofs.PairLaws.{both-listed, complement-is, gathers-more, made-held, not-not, not-table, overflows-after, same-function, same-held}
pub use Rattle.ncl_match.proofs.PlanLaws.{at-input, output-within, plan-evaluated, plan-fits, plan-known, plan-ordered, plan-reach}
use Rattle.ncl_match.specs.Listed as listed

-- what holds of the tables of each turn holds of all
pub gathered-all : {X : Type 0} (P : X → Type 0) (turn : ℕ → List X) (n : ℕ) → ((k : ℕ) → k < n → All P (turn k)) → All P (gathered turn n)
gathered-all P turn zero each = All-nil P
gathered-all P turn (suc n) each = All-append P (gathered turn n) (turn n) (gathered-all P turn n (λ k lt. each k (omega arith))) (each n (omega arith))

-- the tables of a pair are held
pub has-held : (s : SpaceData) (p : Pair) (f : WordFunction) → IsSpace s → HasFunction s p f → AreHeld s f
has-held s p f space has = record {
  one = subst (IsHeld s) has.table (space.beads p.one has.pair.one);
  zero = subst (IsHeld s) (complement-is s p f has) (space.beads p.zero has.pair.zero);
}

rail-marked : (marks : List Bool) (rails : Rails) (r : Bool) → is_marked marks (rail_of rails r) ≡ true → is_needed marks rails ≡ true
rail-marked marks rails true mark = or_right (is_marked marks rails.zero.0) (is_marked marks rails.one.0) mark
rail-marked marks rails false mark = or_left (is_marked marks rails.zero.0) (is_marked marks rails.one.0) mark

both-rails : (r : Rails) (bits : List Rails) → Member r bits → Member r.zero.0 (rail_nets bits) × Member r.one.0 (rail_nets bits)
both-rails r bits here = (here, there here)
both-rails r bits (there {xs = rest} m) = let (zero_in, one_in) = both-rails r rest m in (there (there zero_in), there (there one_in))

module _ {p : PipelineData} {l : Layout} (is : IsLayoutOf p l) where
  -- the rails of the inputs differ, and are nets of the netlist
  pub inputs-differ : AllPairs (λ x y. x ≢ y) (rail_nets p.inputs)
  inputs-differ =
      subst (λ bits. AllPairs (λ x y. x ≢ y) (rail_nets bits)) is.source
      (left-differ (rail_nets (l.stage 0).inputs) (map out_of (l.stage 0).cells) (is.is_stage 0 (omega arith)).nets_differ)

  rail-within-nets : (net : ℕ) → Member net (rail_nets p.inputs) → net < length p.netlist.nets
  rail-within-nets net m =
      is.stage_within 0 net (omega arith) (Member-append_left net (map out_of (l.stage 0).cells) (subst (λ bits. Member net (rail_nets bits)) (sym is.source) m))

  pub zeros-within : All (λ (r : Rails). r.zero.0 < length p.netlist.nets) p.inputs
  zeros-within = All-from_members (λ (r : Rails). r.zero.0 < length p.netlist.nets) p.inputs (λ r m. rail-within-nets r.zero.0 (both-rails r p.inputs m).0)

  pub ones-within : All (λ (r : Rails). r.one.0 < length p.netlist.nets) p.inputs
  ones-within = All-from_members (λ (r : Rails). r.one.0 < length p.netlist.nets) p.inputs (λ r m. rail-within-nets r.one.0 (both-rails r p.inputs m).1)

  -- the value of a rail of the inputs
  rail-value : (b : ℕ) (r : Bool) → b < length p.inputs → (w : List Bool) → length w ≡ length p.inputs → closed (circuit_of p) w (rail_at p.inputs b r) ≡ is_value r (bit_function b w)
  rail-value b r lt w wide =
      subst (λ bits. closed (circuit_of p) w (rail_at bits b r) ≡ is_value r (bit_function b w)) is.source
      (at-input is w wide b r (subst (λ bits. b < length bits) (sym is.source) lt))

  module _ (output : ℕ) (marks : List Bool) (m : AreMarksFor p output marks) where
    abbrev c : Circuit
    c = circuit_of p

    abbrev n : ℕ
    n = length p.inputs

    abbrev plan : List DataCell
    plan = plan_of p

    abbrev inputs : List ℕ
    inputs = rail_nets p.inputs

    abbrev v : List Bool → Nets
    v word net = closed c word net

    -- the marked nets are those that count
    counted : (net : ℕ) → is_marked marks net ≡ true → NetCounts c output net
    counted net mark = (plan-reach is output m.rails m.at net).0 (m.are.reach net mark)

    marked : (net : ℕ) → NetCounts c output net → is_marked marks net ≡ true
    marked net counts = reached-marked plan (length p.netlist.nets) m.rails.one.0 marks m.are net ((plan-reach is output m.rails m.at net).1 counts)

    -- ---- what is made is listed

    module _ (models : List Model) where
      abbrev Is : List Bool → Type 0
      Is = IsListed c models output

      bit-listed : (b : ℕ) → b < n → is_needed marks (get_or p.inputs b no_rails) ≡ true → All Is (both_tables n (bit_function b))
      bit-listed b lt needed =
          elim (or_cases (is_marked marks (rail_at p.inputs b false)) (is_marked marks (rail_at p.inputs b true)) needed) [
            | inl zero_marked ↦
                let zero_is : Is (table_of (words n) (inverse (bit_function b))) =
                subst Is (table_of-same n (λ w. closed c w (rail_at p.inputs b false)) (inverse (bit_function b)) (rail-value b false lt)) (listed.net (rail_at p.inputs b false) (counted (rail_at p.inputs b false) zero_marked)) in
                let one_is : Is (table_of (words n) (bit_function b)) =
                subst Is (not-table (words n) (inverse (bit_function b)) ∙ table_of-same n (inverse (inverse (bit_function b))) (bit_function b) (λ w wide. not-not (bit_function b w))) (complement (table_of (words n) (inverse (bit_function b))) zero_is) in
                All-cons Is (table_of (words n) (bit_function b)) (table_of (words n) (inverse (bit_function b)) ∷ []) one_is
                (All-cons Is (table_of (words n) (inverse (bit_function b))) [] zero_is (All-nil Is))
            | inr one_marked ↦
                both-listed c models output (bit_function b)
                (subst Is (table_of-same n (λ w. closed c w (rail_at p.inputs b true)) (bit_function b) (rail-value b true lt)) (listed.net (rail_at p.inputs b true) (counted (rail_at p.inputs b true) one_marked)))
          ]

      pub inputs-listed : All Is (gathered (input_tables n p.inputs marks) n)
      inputs-listed = gathered-all Is (input_tables n p.inputs marks) n (λ b lt. by b lt (is_needed marks (get_or p.inputs b no_rails)) refl)
        where
          by : (b : ℕ) → b < n → (needed : Bool) → is_needed marks (get_or p.inputs b no_rails) ≡ needed → All Is (if needed then both_tables n (bit_function b) else [])
          by b lt true e = bit-listed b lt e
          by b lt false e = All-nil Is

      pub cells-listed : All Is (gathered (plan_tables n v marks plan) (length plan))
      cells-listed = gathered-all Is (plan_tables n v marks plan) (length plan) (λ k lt. by (slice_get plan k))
        where
          by_mark : (net : ℕ) (mark : Bool) → is_marked marks net ≡ mark → All Is (if mark then both_tables n (λ word. v word net) else [])
          by_mark net true e = both-listed c models output (λ word. v word net) (listed.net net (counted net e))
          by_mark net false e = All-nil Is

          by : (found : Option DataCell) → All Is (cell_tables n v marks found)
          by None = All-nil Is
          by (Some e) = by_mark e.out.0 (is_marked marks e.out.0) refl

      -- ---- so it is gathered, or passes the limit

      module _ (old : SpaceData) (bits : List Rails) (old_wide : old.width ≡ n) (same : bits ≡ p.inputs) where
        pub inputs-over : fits old (gathered (input_tables old.width bits marks) (length bits)) ≡ false → Overflows Is old
        inputs-over full = record {
          tables = gathered (input_tables n p.inputs marks) n;
          each = inputs-listed;
          over = subst (λ xs. fits old (gathered (input_tables n xs marks) (length xs)) ≡ false) same
              (subst (λ k. fits old (gathered (input_tables k bits marks) (length bits)) ≡ false) old_wide full);
        }

        module _ (now : SpaceData) (pairs : List Pair) (kept : Keeps old now) (have : HaveInputs old now bits marks pairs (length bits)) where
          inputs-gather : Gathers Is old now
          inputs-gather = record {
            tables = gathered (input_tables n p.inputs marks) n;
            each = inputs-listed;
            held = subst (λ xs. now.held ≡ with_tables old (gathered (input_tables n xs marks) (length xs))) same
                (subst (λ k. now.held ≡ with_tables old (gathered (input_tables k bits marks) (length bits))) old_wide have.held);
          }

          now_wide : now.width ≡ n
          now_wide = kept.width ∙ old_wide

          pub cells-over : fits now (gathered (plan_tables now.width v marks plan) (length plan)) ≡ false → Overflows Is old
          cells-over full =
              overflows-after Is old now (gathered (plan_tables n v marks plan) (length plan)) inputs-gather kept cells-listed
              (subst (λ k. fits now (gathered (plan_tables k v marks plan) (length plan)) ≡ false) now_wide full)

          pub cells-gather : (new : SpaceData) (after : List Pair) → AreDone now new plan marks after inputs v (length plan) → Gathers Is old new
          cells-gather new after done =
              gathers-more Is old now new (gathered (plan_tables n v marks plan) (length plan)) inputs-gather kept cells-listed
              (subst (λ k. new.held ≡ with_tables now (gathered (plan_tables k v marks plan) (length plan))) now_wide done.held)

    -- ---- what is there once the rails of the inputs are made

    pub inputs-case : (old now : SpaceData) (pairs : List Pair) → now.width ≡ n → HaveInputs old now p.inputs marks pairs (length p.inputs) → IsCase now plan marks pairs inputs v
    inputs-case old now pairs wide h = record {
      evaluated = subst (λ k. IsEvaluated k plan inputs v) (sym wide) (plan-evaluated is);
      closed = λ k e net at mark on. m.are.reads k e net (omega arith) at mark on;
      have = have;
    }
      where
        have : (net : ℕ) → Contains inputs net → is_marked marks net ≡ true → HasFunction now (pair_at pairs net) (λ word. v word net)
        have net has mark =
            let (b, r, lt, same) = rail-place p.inputs net (Member-from_Contains inputs net has) in
            let needed = rail-marked marks (get_or p.inputs b no_rails) r (subst (λ x. is_marked marks x ≡ true) same mark) in
            subst (λ x. HasFunction now (pair_at pairs x) (λ word. v word x)) (sym same)
            (same-function now (pair_at pairs (rail_at p.inputs b r)) (λ word. is_value r (bit_function b word)) (λ word. v word (rail_at p.inputs b r))
            (λ w w_wide. sym (rail-value b r lt w (w_wide ∙ wide))) (h.have b r lt needed))

    -- ---- and once all are

    module _ (old now : SpaceData) (pairs : List Pair) (space : IsSpace now) (done : AreDone old now plan marks pairs inputs v (length plan)) where
      has-net : (net : ℕ) → NetCounts c output net → HasFunction now (pair_at pairs net) (λ word. v word net)
      has-net net counts = done.have net (plan-known is output m.rails m.at net counts) (marked net counts)

      pub nets-held : HoldsNets now c output
      nets-held = record { nets = λ net counts. has-held now (pair_at pairs net) (λ word. v word net) space (has-net net counts) }

      pub rail-had : HasRail now (pair_at pairs m.rails.one.0) c output
      rail-had = record {
        f = λ word. v word m.rails.one.0;
        is = record { rails = m.rails; at = m.at; rail = λ w wide. refl };
        has = has-net m.rails.one.0 (is_rail m.rails m.at);
      }

-- a refusal that is handed on
pub refused-rail : (old new : SpaceData) (c : Circuit) (output : ℕ) (result : Result Pair SpaceFault) (fault : SpaceFault) → IsErrAnd result (λ e. e ≡ fault) → ((models : List Model) → fault ≡ Full → Overflows (IsListed c models output) old) → MakesRail old new c output result
refused-rail old new c output (Ok p) fault is over = absurd is
refused-rail old new c output (Err f) fault is over = record {
  rail = search rules;
  nets = search rules;
  gathers = search rules;
  full = λ models e. over models (handed_on (Err f) fault is e);
}
