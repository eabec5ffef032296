-- What variants are asked over: Base alone, or Base and what earlier variants made.
use Rattle.ncl_verdict.proofs.Terms.{All, All-member, AskedData, Base, Beads, Bit, Bool, Cell, Full, IfOk, IfOk-weaker, Incomplete, IsAfterBase, IsAsked, IsLive, IsReady, IsSpace, IsTrue, Keeps, List, Memory, Option, Orphan, Ref, Releases, Result, Some, SpaceData, SpaceFault, StageData, StageFault, Variant, Verdict, [], ap, arith, at_variant, count, distinct_beads, distinct_beads-append, false, faults_of, fits, fits_fewer, get_or, have-kept, is_within, least_word_by, length, map-same, net_tables_by, option_and_then, refl, stopped_within, subst, sym, tables_by, tables_of, true, verdict_of, ℕ, ◌∙◌, ◌∷◌, ◌≡◌}
use Rattle.std.specs.FinSet as set
use Rattle.ncl_verdict.specs.declared.verdict.Verdict.TheVariants as verdict
use Rattle.ncl_verdict.proofs.InSpaceLaws.{fits-ready, said-asked, said-full}

-- what keeps what was there keeps it so
pub asked-kept : {a b : SpaceData} {limit : Option ℕ} {asked : AskedData} → Keeps a b → IsAsked a limit asked → IsAsked b limit asked
asked-kept {a} {b} {asked} keeps is =
    let base = asked.base in
    let mark = keeps.marks asked.start is.stands in
    record {
      width = keeps.width ∙ is.width;
      same_limit = keeps.limit ∙ is.same_limit;
      values = record { wired = is.values.wired; shown = have-kept a b base.refs (net_tables_by base.wiring.order asked.stage Base) keeps is.values.shown };
      order = is.order;
      stands = mark.stands;
      live_at = λ k d lt. subst IsTrue (sym (mark.live_at (get_or base.refs k d))) (is.live_at k d lt);
      held_at = mark.held_at ∙ is.held_at;
    }

module _ {a b : SpaceData} {limit : Option ℕ} {asked : AskedData} (back : Releases a b asked.start) (is : IsAsked a limit asked) where
  live : All (IsLive b) asked.base.refs
  live k d lt = subst IsTrue (sym (back.live (get_or asked.base.refs k d))) (is.live_at k d lt)

  -- back at the mark the space is ready
  pub ready-back : IsReady b asked.stage asked.base
  ready-back = record {
    width = back.width ∙ is.width;
    values = record {
      wired = is.values.wired;
      shown = record { live = live; tables = map-same b.table a.table asked.base.refs (λ r m. back.tables r (All-member (λ (q : Ref). IsTrue (a.live_at asked.start q)) asked.base.refs is.live_at r m)) ∙ is.values.shown.tables };
    };
    order = is.order;
    held = back.held ∙ is.held_at;
  }

  pub asked-back : IsAsked b limit asked
  asked-back =
      let mark = back.marks asked.start is.stands (omega arith) in
      record {
        width = back.width ∙ is.width;
        same_limit = back.limit ∙ is.same_limit;
        values = ready-back.values;
        order = is.order;
        stands = mark.stands;
        live_at = λ k d lt. subst IsTrue (sym (mark.live_at (get_or asked.base.refs k d))) (is.live_at k d lt);
        held_at = mark.held_at ∙ is.held_at;
      }

  -- and the tables of a variant fit there exactly where they are within the limit with those of Base
  pub within-back : (variant : Variant) → is_within limit (count asked.stage variant) ≡ fits b (tables_by asked.base.wiring.order asked.stage variant)
  within-back variant = ap (λ l. is_within l (count asked.stage variant)) (sym (back.limit ∙ is.same_limit)) ∙ sym (fits-ready b asked.stage asked.base ready-back variant)

-- the tables of a variant that fit over earlier variants are within the limit with those of Base
pub fits-asked : {a : SpaceData} {limit : Option ℕ} {asked : AskedData} → IsSpace a → IsAsked a limit asked → (variant : Variant) → fits a (tables_by asked.base.wiring.order asked.stage variant) ≡ true → is_within limit (count asked.stage variant) ≡ true
fits-asked {a} {limit} {asked} space is variant fit =
    let s = asked.stage in
    ap (λ l. is_within l (count s variant)) (sym is.same_limit)
    ∙ ap (λ (beads : Beads). is_within a.limit (set.len beads)) (distinct_beads-append (length s.inputs) (tables_of s Base) (tables_of s variant))
    ∙ ap (λ n. is_within a.limit (set.len (set.union held (distinct_beads n (tables_of s variant))))) (sym is.width)
    ∙ fits_fewer a held (tables_of s variant) (λ bead h. space.held_at asked.start is.stands bead (subst (λ (beads : Beads). set.contains beads bead ≡ true) (sym is.held_at) h))
    (ap (λ order. fits a (tables_by order s variant)) (sym is.order) ∙ fit)
  where
    held : Beads
    held = distinct_beads (length asked.stage.inputs) (tables_of asked.stage Base)

-- what is said at a variant of one fault, by its least word
pub asked-word : {a : SpaceData} {limit : Option ℕ} {asked : AskedData} → IsAsked a limit asked → (variant : Variant) (fault : StageFault) (least : Option (List Bool)) → faults_of asked.stage variant ≡ fault ∷ []
    → least ≡ least_word_by asked.base.wiring.order asked.stage fault → is_within limit (count asked.stage variant) ≡ true → option_and_then (λ word. Some (verdict_of asked.stage fault word)) least ≡ at_variant (stopped_within limit) asked.stage variant
asked-word {limit} {asked} is variant fault least only word fit = sym (said-asked asked.stage asked.base is.order limit variant fault least only word fit)

-- and that the limit is passed, where the space refused
pub asked-full : (limit : Option ℕ) (s : StageData) (variant : Variant) (fault : SpaceFault) (r : Result (Option Verdict) Memory) → (fault ≡ Full → is_within limit (count s variant) ≡ false)
    → IfOk r (λ answer. (fault ≡ Full) × (answer ≡ Some (verdict.Limit s.number))) → IfOk r (λ answer. answer ≡ at_variant (stopped_within limit) s variant)
asked-full limit s variant fault r full said = IfOk-weaker r _ (λ answer. answer ≡ at_variant (stopped_within limit) s variant) (λ answer is. is.1 ∙ sym (said-full limit s variant (full is.0))) said

-- one limit for another that is the same
pub asked-limit : (a : SpaceData) (was limit : Option ℕ) (asked : AskedData) → was ≡ limit → IsAsked a was asked → IsAsked a limit asked
asked-limit a was limit asked same is = subst (λ l. IsAsked a l asked) same is

-- of a list of one fault and itself, the faults are one
pub one-fault : {one other : StageFault} → one ∷ [] ≡ other ∷ [] → one ≡ other
one-fault {one} same = ap (λ faults. get_or faults 0 one) same

-- a variant after Base has one fault
pub fault-after : (s : StageData) (variant : Variant) → IsAfterBase s variant → (fault : StageFault) × (faults_of s variant ≡ fault ∷ [])
fault-after s Base after = absurd after
fault-after s (Bit bit) after = (Incomplete bit, refl)
fault-after s (Cell cell) after = (Orphan cell, refl)
