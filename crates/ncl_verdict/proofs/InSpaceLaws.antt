-- What a space answers, as the judgement counts it.
use Rattle.ncl_verdict.proofs.Terms.{Base, Bool, BothRails, Contains-from_Member, Contains-from_slice_get, HasMembers, IsReady, List, Member, Member-append_cases, Member-append_left, Member-append_right, Member-from_Contains, NoRail, None, Option, RailFault, Restores, Some, SpaceData, StageData, StageFault, Stop, ValuesData, Variant, Verdict, [], after_base, ap, append_assoc, arith, at_variant, bead_count, below, below_more, below_of_range, bit_order, count, count_of_both, data_fronts, data_functions, distinct_beads, distinct_beads-append, distinct_beads-same, false, faults_of, first_of-one, first_rail_fault_by, fits, flat_map, found, found_fault_by, function_tables_by, get_or, have-kept, here, if◌then◌else◌, illegal_functions, inl, inr, is_within, least_word_by, length, map, nat_le, nat_lt, nat_tests, net_tables, net_tables_by, of_stage, option_and_then, option_map, output_of, rail_fault, rail_verdict, refl, shared-tables, slice_get-from_Contains, stopped_within, subst, suc, sym, tables_by, tables_of, tables_of-parts, there, too_much_by_front, true, values_at, verdict_of, with_tables, zero, ℕ, ◌++◌, ◌+◌, ◌<◌, ◌∙◌, ◌∷◌, ◌≡◌}
use Rattle.std.specs.FinSet as set
use Rattle.ncl_stage.specs.LeastWords.{first_of, least_word}
use Rattle.ncl_complete.specs.declared.rail_fault.RailFault.TheVariants as rail
use Rattle.ncl_verdict.specs.declared.verdict.Verdict.TheVariants as verdict

-- ---- what stops
over : (limit n : ℕ) → nat_le n limit ≡ false → nat_lt limit n ≡ true
over limit n e = grind (arith, nat_tests)

not_over : (limit n : ℕ) → nat_le n limit ≡ true → nat_lt limit n ≡ false
not_over limit n e = grind (arith, nat_tests)

pub stops : (limit : Option ℕ) (s : StageData) (variant : Variant) → is_within limit (count s variant) ≡ false → stopped_within limit s variant ≡ Some (verdict.Limit s.number)
stops None s variant e = absurd cc
stops (Some limit) s variant e = ap (λ b. if b then Some (verdict.Limit s.number) else None) (over limit (count s variant) e)

pub goes_on : (limit : Option ℕ) (s : StageData) (variant : Variant) → is_within limit (count s variant) ≡ true → stopped_within limit s variant ≡ None
goes_on None s variant e = refl
goes_on (Some limit) s variant e = ap (λ b. if b then Some (verdict.Limit s.number) else None) (not_over limit (count s variant) e)

-- what is said at a variant that is stopped at, and at one that isn't
pub at-stopped : (stop : Stop) (s : StageData) (variant : Variant) (v : Verdict) → stop s variant ≡ Some v → at_variant stop s variant ≡ Some v
at-stopped stop s variant v e = ap (λ answer. first_of (answer ∷ map (found s) (faults_of s variant))) e

pub at-asked : (stop : Stop) (s : StageData) (variant : Variant) → stop s variant ≡ None → at_variant stop s variant ≡ first_of (map (found s) (faults_of s variant))
at-asked stop s variant e = ap (λ answer. first_of (answer ∷ map (found s) (faults_of s variant))) e

-- what is said of a fault by its least word
pub found-by : (s : StageData) (fault : StageFault) (least : Option (List Bool)) → least_word s fault ≡ least → first_of (found s fault ∷ []) ≡ option_and_then (λ word. Some (verdict_of s fault word)) least
found-by s fault least e = first_of-one (found s fault) ∙ ap (option_and_then (λ word. Some (verdict_of s fault word))) e

-- ---- counting
has-members : (ts us : List (List Bool)) → ((t : List Bool) → Member t us → Member t ts) → HasMembers ts us
has-members ts us each = record {
  has = λ k t at. slice_get-from_Contains ts t (Contains-from_Member t (each t (Member-from_Contains us t (Contains-from_slice_get us k t at))));
}

-- the nets are among the tables of Base
pub base_rest : StageData → List (List Bool)
base_rest s = function_tables_by (bit_order s) (data_functions s (values_at s Base)) ++ function_tables_by (bit_order s) (data_fronts s (values_at s Base)) ++ function_tables_by (bit_order s) (illegal_functions s (values_at s Base))

pub base-front : (s : StageData) → tables_of s Base ≡ net_tables s Base ++ base_rest s
unfolding base_rest
base-front s =
    let nets = net_tables s Base in
    let some = function_tables_by (bit_order s) (data_functions s (values_at s Base)) in
    let fronts = function_tables_by (bit_order s) (data_fronts s (values_at s Base)) in
    let both = function_tables_by (bit_order s) (illegal_functions s (values_at s Base)) in
    tables_of-parts s (bit_order s) Base ∙ ap (λ l. l ++ both) (shared-tables s (bit_order s) Base)
    ∙ ap (λ l. l ++ both) (append_assoc nets some fronts) ∙ append_assoc nets (some ++ fronts) both

net-in_base : (s : StageData) (t : List Bool) → Member t (net_tables s Base) → Member t (tables_of s Base)
net-in_base s t m = subst (Member t) (sym (base-front s)) (Member-append_left t (base_rest s) m)

-- the beads of Base are counted once, however often its tables are listed
twice : (s : StageData) → distinct_beads (length s.inputs) (tables_of s Base ++ tables_of s Base) ≡ distinct_beads (length s.inputs) (tables_of s Base)
twice s =
    distinct_beads-same (length s.inputs) (tables_of s Base ++ tables_of s Base) (tables_of s Base)
    (has-members (tables_of s Base ++ tables_of s Base) (tables_of s Base) (λ t m. Member-append_left t (tables_of s Base) m))
    (has-members (tables_of s Base) (tables_of s Base ++ tables_of s Base) (λ t m. elim (Member-append_cases t (tables_of s Base) (tables_of s Base) m) [ inl n ↦ n | inr n ↦ n ]))

pub with_nets : (s : StageData) → distinct_beads (length s.inputs) (net_tables s Base ++ tables_of s Base) ≡ distinct_beads (length s.inputs) (tables_of s Base)
with_nets s =
    distinct_beads-same (length s.inputs) (net_tables s Base ++ tables_of s Base) (tables_of s Base)
    (has-members (net_tables s Base ++ tables_of s Base) (tables_of s Base) (λ t m. Member-append_right (net_tables s Base) t m))
    (has-members (tables_of s Base) (net_tables s Base ++ tables_of s Base) (λ t m. elim (Member-append_cases t (net_tables s Base) (tables_of s Base) m) [ inl n ↦ net-in_base s t n | inr n ↦ n ]))

-- where the beads of Base are held, the tables of a variant fit where its count is within the limit
pub fits-count : (a : SpaceData) (s : StageData) (variant : Variant) → a.width ≡ length s.inputs → a.held ≡ distinct_beads (length s.inputs) (tables_of s Base) → fits a (tables_of s variant) ≡ is_within a.limit (count s variant)
fits-count a s variant width held =
    ap (is_within a.limit) (count_of_both a (tables_of s Base) (tables_of s variant) (held ∙ ap (λ n. distinct_beads n (tables_of s Base)) (sym width)) ∙ ap (λ n. bead_count n (tables_of s Base ++ tables_of s variant)) width)

-- the same by the order of the values of Base
pub fits-ready : (a : SpaceData) (s : StageData) (base : ValuesData) → IsReady a s base → (variant : Variant) → fits a (tables_by base.wiring.order s variant) ≡ is_within a.limit (count s variant)
fits-ready a s base ready variant = ap (λ order. fits a (tables_by order s variant)) ready.order ∙ fits-count a s variant ready.width ready.held

-- the same at Base, where those of the nets alone are held
pub fits-base : (a : SpaceData) (s : StageData) → a.width ≡ length s.inputs → a.held ≡ distinct_beads (length s.inputs) (net_tables s Base) → fits a (tables_of s Base) ≡ is_within a.limit (count s Base)
fits-base a s width held =
    ap (is_within a.limit) (
    count_of_both a (net_tables s Base) (tables_of s Base) (held ∙ ap (λ n. distinct_beads n (net_tables s Base)) (sym width))
    ∙ ap (λ n. bead_count n (net_tables s Base ++ tables_of s Base)) width
    ∙ ap set.len (with_nets s ∙ sym (twice s)))

-- and where none are held
pub fits-new : (a : SpaceData) (s : StageData) → a.width ≡ length s.inputs → a.held ≡ set.empty → fits a (tables_of s Base) ≡ is_within a.limit (count s Base)
fits-new a s width held =
    ap (is_within a.limit) (
    count_of_both a [] (tables_of s Base) held ∙ ap (λ n. bead_count n (tables_of s Base)) width ∙ ap set.len (sym (twice s)))

-- what is held after the nets, and after all of Base
pub held-nets : (a b : SpaceData) (s : StageData) → a.width ≡ length s.inputs → a.held ≡ set.empty → b.held ≡ with_tables a (net_tables s Base) → b.held ≡ distinct_beads (length s.inputs) (net_tables s Base)
held-nets a b s width held made =
    made ∙ (λ k. set.union (held k) (distinct_beads (width k) (net_tables s Base))) ∙ sym (distinct_beads-append (length s.inputs) [] (net_tables s Base))

pub held-base : (a b : SpaceData) (s : StageData) → a.width ≡ length s.inputs → a.held ≡ distinct_beads (length s.inputs) (net_tables s Base) → b.held ≡ with_tables a (tables_of s Base) → b.held ≡ distinct_beads (length s.inputs) (tables_of s Base)
held-base a b s width held made =
    made ∙ (λ k. set.union (held k) (distinct_beads (width k) (tables_of s Base)))
    ∙ sym (distinct_beads-append (length s.inputs) (net_tables s Base) (tables_of s Base)) ∙ with_nets s

-- where the nets are too much, Base is
pub nets-too_much : (a : SpaceData) (s : StageData) → fits a (net_tables s Base) ≡ false → fits a (tables_of s Base) ≡ false
nets-too_much a s e = ap (fits a) (base-front s) ∙ too_much_by_front a (net_tables s Base) (base_rest s) e

-- a caller that went back leaves the space ready
pub ready-restored : (a b : SpaceData) (s : StageData) (base : ValuesData) → Restores a b → IsReady a s base → IsReady b s base
ready-restored a b s base back ready = record {
  width = back.keeps.width ∙ ready.width;
  values = record { wired = ready.values.wired; shown = have-kept a b base.refs (net_tables_by base.wiring.order s Base) back.keeps ready.values.shown };
  order = ready.order;
  held = back.held ∙ ready.held;
}

-- what is said at a variant of one fault: by the least word, where its nodes are within the limit
pub said-asked : (s : StageData) (base : ValuesData) → base.wiring.order ≡ bit_order s → (limit : Option ℕ) (variant : Variant) (fault : StageFault) (least : Option (List Bool)) → faults_of s variant ≡ fault ∷ []
    → least ≡ least_word_by base.wiring.order s fault → is_within limit (count s variant) ≡ true → at_variant (stopped_within limit) s variant ≡ option_and_then (λ word. Some (verdict_of s fault word)) least
said-asked s base ordered limit variant fault least only is fit =
    at-asked (stopped_within limit) s variant (goes_on limit s variant fit)
    ∙ ap (λ faults. first_of (map (found s) faults)) only
    ∙ found-by s fault least (ap (λ order. least_word_by order s fault) (sym ordered) ∙ sym is)

-- and that the limit is passed, where they aren't
pub said-full : (limit : Option ℕ) (s : StageData) (variant : Variant) → is_within limit (count s variant) ≡ false → at_variant (stopped_within limit) s variant ≡ Some (verdict.Limit s.number)
said-full limit s variant full = at-stopped (stopped_within limit) s variant (verdict.Limit s.number) (stops limit s variant full)

-- ---- the faults of the outputs
-- what is said of them is what is found of them
answers : (s : StageData) (outputs : List ℕ) → first_of (map (found s) (flat_map (λ k. BothRails k ∷ NoRail k ∷ []) outputs)) ≡ option_map (rail_verdict s) (first_of (map (found_fault_by (bit_order s) s) (flat_map (λ k. BothRails k ∷ NoRail k ∷ []) outputs)))
answers s [] = refl
answers s (k ∷ outputs) = by_words (least_word s (BothRails k)) (least_word s (NoRail k)) (map (found s) rest) (map (found_fault_by (bit_order s) s) rest) (answers s outputs)
  where
    rest : List StageFault
    rest = flat_map (λ k. BothRails k ∷ NoRail k ∷ []) outputs

    by_words : (both neither : Option (List Bool)) (said : List (Option Verdict)) (faults : List (Option RailFault)) → first_of said ≡ option_map (rail_verdict s) (first_of faults)
        → first_of (option_and_then (λ word. Some (verdict_of s (BothRails k) word)) both ∷ option_and_then (λ word. Some (verdict_of s (NoRail k) word)) neither ∷ said)
        ≡ option_map (rail_verdict s) (first_of (option_and_then (rail_fault (BothRails k)) both ∷ option_and_then (rail_fault (NoRail k)) neither ∷ faults))
    by_words None None said faults e = e
    by_words None (Some word) said faults e = refl
    by_words (Some word) neither said faults e = refl

pub said-of_outputs : (s : StageData) → first_of (map (found s) (faults_of s Base)) ≡ option_map (rail_verdict s) (first_rail_fault_by (bit_order s) s)
said-of_outputs s = answers s (below (length s.outputs))

-- a fault that is found is of one of the outputs
within-all : (s : StageData) (bound : ℕ) (outputs : List ℕ) → ((k : ℕ) → Member k outputs → k < bound) → (fault : RailFault) → first_of (map (found_fault_by (bit_order s) s) (flat_map (λ k. BothRails k ∷ NoRail k ∷ []) outputs)) ≡ Some fault → output_of fault < bound
within-all s bound [] each fault e = absurd cc
within-all s bound (k ∷ outputs) each fault e = by_words (least_word s (BothRails k)) (least_word s (NoRail k)) (map (found_fault_by (bit_order s) s) (flat_map (λ k. BothRails k ∷ NoRail k ∷ []) outputs)) e (λ f. within-all s bound outputs (λ j m. each j (there m)) fault f)
  where
    own : (v : RailFault) → output_of v ≡ k → Some v ≡ Some fault → output_of fault < bound
    own v at f = let same : v ≡ fault = cc in subst (λ n. n < bound) (sym at ∙ ap output_of same) (each k here)

    by_words : (both neither : Option (List Bool)) (faults : List (Option RailFault)) → first_of (option_and_then (rail_fault (BothRails k)) both ∷ option_and_then (rail_fault (NoRail k)) neither ∷ faults) ≡ Some fault → (first_of faults ≡ Some fault → output_of fault < bound) → output_of fault < bound
    by_words None None faults f later = later f
    by_words None (Some word) faults f later = own (rail.NoRail k word) refl f
    by_words (Some word) neither faults f later = own (rail.BothRails k word) refl f

pub fault-within : (s : StageData) (fault : RailFault) → first_rail_fault_by (bit_order s) s ≡ Some fault → output_of fault < length s.outputs
fault-within s fault e = within-all s (length s.outputs) (below (length s.outputs)) (λ k m. let lt = below_of_range 0 (length s.outputs) k m in omega (arith, lt)) fault e

-- ---- the first of answers at the members of a list
pub first-none_at : {X Y : Type 0} (f : X → Option Y) (xs : List X) → ((k : ℕ) (d : X) → k < length xs → f (get_or xs k d) ≡ None) → first_of (map f xs) ≡ None
first-none_at f [] none = refl
first-none_at f (x ∷ xs) none = ap (λ answer. first_of (answer ∷ map f xs)) (none zero x (omega arith)) ∙ first-none_at f xs (λ k d lt. none (suc k) d (omega arith))

pub first-some_at : {X Y : Type 0} (f : X → Option Y) (xs : List X) (i : ℕ) (d : X) (y : Y) → i < length xs → ((k : ℕ) (e : X) → k < i → f (get_or xs k e) ≡ None) → f (get_or xs i d) ≡ Some y → first_of (map f xs) ≡ Some y
first-some_at f [] i d y lt none is = absurd (omega arith)
first-some_at f (x ∷ xs) zero d y lt none is = ap (λ answer. first_of (answer ∷ map f xs)) is
first-some_at f (x ∷ xs) (suc i) d y lt none is = ap (λ answer. first_of (answer ∷ map f xs)) (none zero x (omega arith)) ∙ first-some_at f xs i d y (omega arith) (λ k e before. none (suc k) e (omega arith)) is

-- within a list it is no matter what stands past its end
default : {X : Type 0} (xs : List X) (i : ℕ) (d e : X) → i < length xs → get_or xs i d ≡ get_or xs i e
default [] i d e lt = absurd (omega arith)
default (x ∷ xs) zero d e lt = refl
default (x ∷ xs) (suc i) d e lt = default xs i d e (omega arith)

-- where there is none at the members before a place, and none at that one, there is none before the next
pub first-none_more : {X Y : Type 0} (f : X → Option Y) (xs : List X) (i : ℕ) (d : X) → i < length xs → ((k : ℕ) → k < i → (e : X) → f (get_or xs k e) ≡ None) → f (get_or xs i d) ≡ None → (k : ℕ) → k < i + 1 → (e : X) → f (get_or xs k e) ≡ None
first-none_more {X} f xs i d lt none is = below_more (λ k. (e : X) → f (get_or xs k e) ≡ None) i none (λ e. ap f (default xs i e d lt) ∙ is)

-- ---- a stage as a whole
-- what is said after Base is all, where nothing is said under Base
pub of_stage-said : (s : StageData) (new old : Option ℕ) → new ≡ old → at_variant (stopped_within old) s Base ≡ None → first_of (map (at_variant (stopped_within new) s) (after_base s)) ≡ of_stage (stopped_within old) s
of_stage-said s new old same base =
    ap (λ limit. first_of (map (at_variant (stopped_within limit) s) (after_base s))) same
    ∙ sym (ap (λ answer. first_of (answer ∷ map (at_variant (stopped_within old) s) (after_base s))) base)
