-- Pairs of Refs: how they are kept, made and filled in, by gates, by covers and by turns of a loop.
pub use Rattle.ncl_match.proofs.Terms.{[], All, All-cons, All-head, All-nil, All-tail, AreCompared, Bool, Circuit, Dash, Err, Gathers, HasApart, HasFunction, HasRail, HasSignal, HoldsNets, HoldsSignals, IfOk, IfOk-weaker, IsHeld, IsListed, IsLive, IsModel, IsPair, IsSpace, Keeps, Kind, List, Lit, Makes, MakesPair, Model, NetId, None, One, Option, Overflows, Pair, Ref, Result, Some, SpaceData, SpaceFault, Th12, Th22, WordFunction, Zero, and_gate, ap, apart_function, apart_tables, append-nil, append_assoc, arith, arity_of, at, at_table, both_tables, cases_eq, circuit_of, constant_table, cover_function, cover_tables, crossed, dual-arity, dual-set, dual_of, dual_pins, dual_pins-length, dual_pins-map, false, first_value, fits, function_at, functions_at, gate_function, gate_table, gathered, get_or, get_or_default, handed_on, held-along, if◌then◌else◌, inl, inr, inverse, is_crossed, keeps_all, keeps_along, length, length-map, list_any, list_any-append, lit_matches, literal_function, made_of, makes-live, map, not, or_gate, pair_at, pins_of, rail_table, recursion_from_All, refl, row_function, row_matches, row_tables, rows_function, rules, set_of, subst, suc, sym, table_of, table_of-at, table_of-same, take, take_all, take_more, too_much-after, too_much_by_front, true, turn_tables, values_of, with_none, with_tables, without, words, zero, ℕ, ◌&&◌, ◌++◌, ◌+◌, ◌-◌, ◌<◌, ◌==◌, ◌||◌, ◌∙◌, ◌∷◌, ◌≡◌, ◌≤◌}
pub use Rattle.ncl_match.proofs.BitLaws.{apart-held, apart-listed, both-listed, each-held, gathers-along, gathers-more, made-held, nets-kept, not-table, overflows-after, overflows-along, same-held, signals-kept}

-- ---- pairs of Refs: how they are kept, swapped and made by a gate and its dual

-- the values of a pair's function, where it has this table
pub function-is : (s : SpaceData) (p : Pair) (f : WordFunction) → s.table p.one ≡ table_of (words s.width) f → (w : List Bool) → length w ≡ s.width → function_at s p w ≡ f w
function-is s p f is w wide = ap (λ t. at t w) is ∙ at_table s.width f w wide

-- two live Refs with the tables of a function and of its complement
pub has_function : (s : SpaceData) (p : Pair) (f : WordFunction) → IsLive s p.one → IsLive s p.zero → s.table p.one ≡ table_of (words s.width) f → s.table p.zero ≡ table_of (words s.width) (inverse f) → HasFunction s p f
has_function s p f one other is is_not = record {
  pair = record {
    one = one;
    zero = other;
    complement = is_not ∙ table_of-same s.width (inverse f) (inverse (function_at s p)) (λ w wide. ap not (sym (function-is s p f is w wide)));
  };
  table = is;
}

-- the complement has the table of the complement
pub complement-is : (s : SpaceData) (p : Pair) (f : WordFunction) → HasFunction s p f → s.table p.zero ≡ table_of (words s.width) (inverse f)
complement-is s p f has = has.pair.complement ∙ table_of-same s.width (inverse (function_at s p)) (inverse f) (λ w wide. ap not (function-is s p f has.table w wide))

-- functions that agree at every word are one
pub same-function : (s : SpaceData) (p : Pair) (f g : WordFunction) → ((w : List Bool) → length w ≡ s.width → f w ≡ g w) → HasFunction s p f → HasFunction s p g
same-function s p f g same has = record { pair = has.pair; table = has.table ∙ table_of-same s.width f g same }

pub same-tables : (n : ℕ) (f g : WordFunction) → ((w : List Bool) → length w ≡ n → f w ≡ g w) → both_tables n f ≡ both_tables n g
same-tables n f g same =
    let one = table_of-same n f g same in
    let other = table_of-same n (inverse f) (inverse g) (λ w wide. ap not (same w wide)) in
    λ i. one i ∷ other i ∷ []

pub not-not : (b : Bool) → not (not b) ≡ b
not-not true = refl
not-not false = refl

-- swapped
pub has-swapped : (s : SpaceData) (p q : Pair) (f : WordFunction) → q.one ≡ p.zero → q.zero ≡ p.one → HasFunction s p f → HasFunction s q (inverse f)
has-swapped s p q f one other has =
    has_function s q (inverse f)
    (subst (IsLive s) (sym one) has.pair.zero)
    (subst (IsLive s) (sym other) has.pair.one)
    (ap s.table one ∙ complement-is s p f has)
    (ap s.table other ∙ has.table ∙ table_of-same s.width f (inverse (inverse f)) (λ w wide. sym (not-not (f w))))

-- kept
pub has-kept : (a b : SpaceData) (p : Pair) (f : WordFunction) → Keeps a b → HasFunction a p f → HasFunction b p f
has-kept a b p f k has =
    has_function b p f
    (k.live p.one has.pair.one)
    (k.live p.zero has.pair.zero)
    (k.tables p.one has.pair.one ∙ has.table ∙ ap (λ n. table_of (words n) f) (sym k.width))
    (k.tables p.zero has.pair.zero ∙ complement-is a p f has ∙ ap (λ n. table_of (words n) (inverse f)) (sym k.width))

-- a pair has its own function where the table is whole
pub own-function : (s : SpaceData) (p : Pair) → IsSpace s → IsPair s p → HasFunction s p (function_at s p)
own-function s p space is = record { pair = is; table = sym (table_of-at s.width (s.table p.one) (space.tables p.one is.one)) }

-- so it stays a pair, of the same function
pub pair-kept : (a b : SpaceData) (p : Pair) → IsSpace a → Keeps a b → IsPair a p → IsPair b p
pair-kept a b p space k is = (has-kept a b p (function_at a p) k (own-function a p space is)).pair

pub pairs-kept : (a b : SpaceData) (pairs : List Pair) → IsSpace a → Keeps a b → All (IsPair a) pairs → All (IsPair b) pairs
pairs-kept a b pairs space k are = λ i d lt. pair-kept a b (get_or pairs i d) space k (are i d lt)

pub function-kept : (a b : SpaceData) (p : Pair) → Keeps a b → IsPair a p → (w : List Bool) → function_at b p w ≡ function_at a p w
function-kept a b p k is w = ap (λ t. at t w) (k.tables p.one is.one)

-- the constants
pub constants : (s : SpaceData) (p : Pair) (value : Bool) → IsLive s p.one → s.table p.one ≡ constant_table s.width value → IsLive s p.zero → s.table p.zero ≡ constant_table s.width (not value) → HasFunction s p (λ word. value)
constants s p value one is other is_not = has_function s p (λ word. value) one other is is_not

-- live Refs of pairs
pub ones-live : (s : SpaceData) (pairs : List Pair) → All (IsPair s) pairs → All (IsLive s) (map (λ (p : Pair). p.one) pairs)
ones-live s [] are = All-nil (IsLive s)
ones-live s (p ∷ ps) are = All-cons (IsLive s) p.one (map (λ (q : Pair). q.one) ps) (All-head (IsPair s) p ps are).one (ones-live s ps (All-tail (IsPair s) p ps are))

pub zeros-live : (s : SpaceData) (pairs : List Pair) → All (IsPair s) pairs → All (IsLive s) (map (λ (p : Pair). p.zero) pairs)
zeros-live s [] are = All-nil (IsLive s)
zeros-live s (p ∷ ps) are = All-cons (IsLive s) p.zero (map (λ (q : Pair). q.zero) ps) (All-head (IsPair s) p ps are).zero (zeros-live s ps (All-tail (IsPair s) p ps are))

crossed-live : (s : SpaceData) (refs : List Ref) → All (IsLive s) refs → (kind : Kind) → All (IsLive s) (dual_pins kind refs)
crossed-live s refs live kind = by (is_crossed kind)
  where
    two : (refs : List Ref) → All (IsLive s) refs → All (IsLive s) (crossed refs)
    two [] live = live
    two (a ∷ []) live = live
    two (a ∷ b ∷ others) live =
        let rest = All-tail (IsLive s) a (b ∷ others) live in
        All-cons (IsLive s) b (a ∷ others) (All-head (IsLive s) b others rest)
        (All-cons (IsLive s) a others (All-head (IsLive s) a (b ∷ others) live) (All-tail (IsLive s) b others rest))

    by : (b : Bool) → All (IsLive s) (if b then crossed refs else refs)
    by true = two refs live
    by false = live

pub dual_zeros-live : (s : SpaceData) (kind : Kind) (pairs : List Pair) → All (IsPair s) pairs → All (IsLive s) (dual_pins kind (map (λ (p : Pair). p.zero) pairs))
dual_zeros-live s kind pairs are = crossed-live s (map (λ (p : Pair). p.zero) pairs) (zeros-live s pairs are) kind

-- ---- a gate and its dual

ones-values : (s : SpaceData) (pairs : List Pair) (w : List Bool) → map (λ t. at t w) (map s.table (map (λ (p : Pair). p.one) pairs)) ≡ values_of (functions_at s pairs) w
ones-values s [] w = refl
ones-values s (p ∷ ps) w = ap (λ l. function_at s p w ∷ l) (ones-values s ps w)

zeros-values : (a b : SpaceData) (pairs : List Pair) → IsSpace a → Keeps a b → All (IsPair a) pairs → (w : List Bool) → length w ≡ a.width → map (λ t. at t w) (map b.table (map (λ (p : Pair). p.zero) pairs)) ≡ map not (values_of (functions_at a pairs) w)
zeros-values a b [] space k are w wide = refl
zeros-values a b (p ∷ ps) space k are w wide =
    let is = All-head (IsPair a) p ps are in
    let first : at (b.table p.zero) w ≡ not (function_at a p w) = ap (λ t. at t w) (k.tables p.zero is.zero ∙ is.complement) ∙ at_table a.width (inverse (function_at a p)) w wide in
    let rest = zeros-values a b ps space k (All-tail (IsPair a) p ps are) w wide in
    λ i. first i ∷ rest i

-- the table that the gate makes
pub gate-one : (s : SpaceData) (kind : Kind) (pairs : List Pair) → gate_table s.width kind (map s.table (map (λ (p : Pair). p.one) pairs)) ≡ table_of (words s.width) (gate_function kind (functions_at s pairs))
gate-one s kind pairs =
    table_of-same s.width (λ w. set_of kind (map (λ t. at t w) (map s.table (map (λ (p : Pair). p.one) pairs)))) (gate_function kind (functions_at s pairs)) (λ w wide. ap (set_of kind) (ones-values s pairs w))

pair_values-length : (s : SpaceData) (pairs : List Pair) (w : List Bool) → length (values_of (functions_at s pairs) w) ≡ length pairs
pair_values-length s [] w = refl
pair_values-length s (p ∷ ps) w = ap suc (pair_values-length s ps w)

-- and the one that its dual makes, later
pub gate-zero : (a b : SpaceData) (kind : Kind) (pairs : List Pair) → IsSpace a → Keeps a b → All (IsPair a) pairs → length pairs ≡ arity_of kind → gate_table b.width (dual_of kind) (map b.table (dual_pins kind (map (λ (p : Pair). p.zero) pairs))) ≡ table_of (words a.width) (inverse (gate_function kind (functions_at a pairs)))
gate-zero a b kind pairs space k are many =
    ap (λ n. gate_table n (dual_of kind) (map b.table (dual_pins kind (map (λ (p : Pair). p.zero) pairs)))) k.width
    ∙ table_of-same a.width (λ w. set_of (dual_of kind) (map (λ t. at t w) (map b.table (dual_pins kind (map (λ (p : Pair). p.zero) pairs))))) (inverse (gate_function kind (functions_at a pairs)))
    (λ w wide.
    ap (λ l. set_of (dual_of kind) (map (λ t. at t w) l)) (dual_pins-map kind b.table (map (λ (p : Pair). p.zero) pairs))
    ∙ ap (set_of (dual_of kind)) (dual_pins-map kind (λ t. at t w) (map b.table (map (λ (p : Pair). p.zero) pairs)))
    ∙ ap (λ l. set_of (dual_of kind) (dual_pins kind l)) (zeros-values a b pairs space k are w wide)
    ∙ dual-set kind (values_of (functions_at a pairs) w) (pair_values-length a pairs w ∙ many))

-- ---- two calls that make a function and its complement

pub made-pair : (a b d : SpaceData) (p : Pair) (f : WordFunction) → Keeps a b → Makes a b p.one (table_of (words a.width) f) → Keeps b d → Makes b d p.zero (table_of (words a.width) (inverse f)) → MakesPair a d p f (both_tables a.width f)
made-pair a b d p f first one second other =
    let wide : table_of (words a.width) f ≡ table_of (words d.width) f = ap (λ n. table_of (words n) f) (sym (second.width ∙ first.width)) in
    let wide_not : table_of (words a.width) (inverse f) ≡ table_of (words d.width) (inverse f) = ap (λ n. table_of (words n) (inverse f)) (sym (second.width ∙ first.width)) in
    record {
      has = has_function d p f (second.live p.one one.live) other.live (second.tables p.one one.live ∙ one.table ∙ wide) (other.table ∙ wide_not);
      held = held-along a b d (table_of (words a.width) f ∷ []) (table_of (words a.width) (inverse f) ∷ []) first one.held other.held;
    }

pub first-too_much : (a : SpaceData) (f : WordFunction) → fits a (table_of (words a.width) f ∷ []) ≡ false → fits a (both_tables a.width f) ≡ false
first-too_much a f full = too_much_by_front a (table_of (words a.width) f ∷ []) (table_of (words a.width) (inverse f) ∷ []) full

pub second-too_much : (a b : SpaceData) (f : WordFunction) (r : Ref) → Keeps a b → Makes a b r (table_of (words a.width) f) → fits b (table_of (words a.width) (inverse f) ∷ []) ≡ false → fits a (both_tables a.width f) ≡ false
second-too_much a b f r first one full = too_much-after a b (table_of (words a.width) f ∷ []) (table_of (words a.width) (inverse f) ∷ []) first one.held full

-- the same pair, made for a function that agrees with its own
pub makes-same : (old new : SpaceData) (p : Pair) (f g : WordFunction) → Keeps old new → ((w : List Bool) → length w ≡ old.width → f w ≡ g w) → MakesPair old new p f (both_tables old.width f) → MakesPair old new p g (both_tables old.width g)
makes-same old new p f g k same made = record {
  has = same-function new p f g (λ w wide. same w (wide ∙ k.width)) made.has;
  held = made.held ∙ ap (with_tables old) (same-tables old.width f g same);
}

-- and where it couldn't be
pub fits-same : (old : SpaceData) (f g : WordFunction) → ((w : List Bool) → length w ≡ old.width → f w ≡ g w) → fits old (both_tables old.width f) ≡ false → fits old (both_tables old.width g) ≡ false
fits-same old f g same full = subst (λ ts. fits old ts ≡ false) (same-tables old.width f g same) full

-- a pair that is there costs nothing
pub live-costs : (s : SpaceData) (p : Pair) (f : WordFunction) → IsSpace s → HasFunction s p f → s.held ≡ with_tables s (both_tables s.width f)
live-costs s p f space has =
    held-along s s s (table_of (words s.width) f ∷ []) (table_of (words s.width) (inverse f) ∷ []) (keeps_all s space)
    (makes-live s p.one (table_of (words s.width) f) space has.pair.one has.table).held
    (makes-live s p.zero (table_of (words s.width) (inverse f)) space has.pair.zero (complement-is s p f has)).held

-- the complement of a pair, and its values
pub swapped-pair : (s : SpaceData) (p q : Pair) → IsSpace s → IsPair s p → q.one ≡ p.zero → q.zero ≡ p.one → HasFunction s q (inverse (function_at s p))
swapped-pair s p q space is one_is zero_is = has-swapped s p q (function_at s p) one_is zero_is (own-function s p space is)

-- two pairs in a row
pub two-pairs : (s : SpaceData) (p q : Pair) → IsPair s p → IsPair s q → All (IsPair s) (p ∷ q ∷ [])
two-pairs s p q first second = All-cons (IsPair s) p (q ∷ []) first (All-cons (IsPair s) q [] second (All-nil (IsPair s)))

-- ---- the functions of the nets that a cell reads

pub pins-pairs : (s : SpaceData) (pairs : List Pair) (nets : List NetId) → All (IsPair s) pairs → All (λ (x : NetId). x.0 < length pairs) nets → All (IsPair s) (map (λ (x : NetId). pair_at pairs x.0) nets)
pins-pairs s pairs [] are within = All-nil (IsPair s)
pins-pairs s pairs (x ∷ nets) are within =
    All-cons (IsPair s) (pair_at pairs x.0) (map (λ (y : NetId). pair_at pairs y.0) nets)
    (are x.0 (record { one = record { place = 0 }; zero = record { place = 0 } }) (All-head (λ (y : NetId). y.0 < length pairs) x nets within))
    (pins-pairs s pairs nets are (All-tail (λ (y : NetId). y.0 < length pairs) x nets within))

pub pins-values : (s : SpaceData) (pairs : List Pair) (nets : List NetId) (w : List Bool) → values_of (functions_at s (map (λ (x : NetId). pair_at pairs x.0) nets)) w ≡ map (λ (x : NetId). function_at s (pair_at pairs x.0) w) nets
pins-values s pairs [] w = refl
pins-values s pairs (x ∷ nets) w = ap (λ l. function_at s (pair_at pairs x.0) w ∷ l) (pins-values s pairs nets w)

pub first-pin : (s : SpaceData) (pairs : List Pair) (nets : List NetId) (d : Pair) → length nets ≡ 1 → (w : List Bool) → function_at s (get_or (map (λ (x : NetId). pair_at pairs x.0) nets) 0 d) w ≡ first_value (map (λ (x : NetId). function_at s (pair_at pairs x.0) w) nets)
first-pin s pairs [] d one w = absurd (omega (arith, one))
first-pin s pairs (x ∷ nets) d one w = refl

-- ---- one literal more, one row more, and the value of a cover

and_true : (b : Bool) → (b && true) ≡ b
and_true true = refl
and_true false = refl

and_along : (a b c : Bool) → (a && (b && c)) ≡ ((a && b) && c)
and_along true b c = refl
and_along false b c = refl

or_false : (b : Bool) → (b || false) ≡ b
or_false true = refl
or_false false = refl

pub none-matches : (bits : List Bool) (lits : List Lit) → row_matches bits (take zero lits) ≡ true
none-matches bits [] = refl
none-matches bits (lit ∷ lits) = refl

-- a row with one literal more
pub row-more : (bits : List Bool) (row : List Lit) (k : ℕ) → k < length row → length row ≡ length bits → row_matches bits (take (suc k) row) ≡ (row_matches bits (take k row) && lit_matches (get_or row k Dash) (get_or bits k false))
row-more bits [] k lt same = absurd (omega arith)
row-more [] (lit ∷ lits) k lt same = absurd (omega arith)
row-more (bit ∷ bits) (lit ∷ lits) zero lt same = ap (λ b. lit_matches lit bit && b) (none-matches bits lits) ∙ and_true (lit_matches lit bit)
row-more (bit ∷ bits) (lit ∷ lits) (suc k) lt same =
    ap (λ b. lit_matches lit bit && b) (row-more bits lits k (omega arith) (omega arith))
    ∙ and_along (lit_matches lit bit) (row_matches bits (take k lits)) (lit_matches (get_or lits k Dash) (get_or bits k false))

-- as many functions as pairs
pub functions-length : (s : SpaceData) (pairs : List Pair) → length (functions_at s pairs) ≡ length pairs
functions-length s [] = refl
functions-length s (p ∷ ps) = ap suc (functions-length s ps)

pub values-length : (fs : List WordFunction) (w : List Bool) → length (values_of fs w) ≡ length fs
values-length [] w = refl
values-length (f ∷ fs) w = ap suc (values-length fs w)

value-at : (s : SpaceData) (pairs : List Pair) (k : ℕ) (d : Pair) → k < length pairs → (w : List Bool) → get_or (values_of (functions_at s pairs) w) k false ≡ function_at s (get_or pairs k d) w
value-at s [] k d lt w = absurd (omega arith)
value-at s (p ∷ ps) zero d lt w = refl
value-at s (p ∷ ps) (suc k) d lt w = value-at s ps k d (omega arith) w

-- the functions of pairs stay
pub functions-kept : (a b : SpaceData) (pairs : List Pair) → Keeps a b → All (IsPair a) pairs → functions_at b pairs ≡ functions_at a pairs
functions-kept a b [] k are = refl
functions-kept a b (p ∷ ps) k are =
    let first : at (b.table p.one) ≡ at (a.table p.one) = ap at (k.tables p.one (All-head (IsPair a) p ps are).one) in
    let rest = functions-kept a b ps k (All-tail (IsPair a) p ps are) in
    λ i. first i ∷ rest i

-- a turn over a row: the next literal is taken
pub literal-turn : (old now : SpaceData) (ins : List Pair) (row : List Lit) (k : ℕ) (matched input : Pair) (lit : Lit) → Keeps old now → All (IsPair old) ins → k < length row → length row ≡ length ins
    → lit ≡ get_or row k lit → input ≡ get_or ins k input → HasFunction now matched (row_function (functions_at old ins) (take k row))
    → (w : List Bool) → length w ≡ now.width → literal_function (function_at now matched) lit (function_at now input) w ≡ row_function (functions_at old ins) (take (suc k) row) w
literal-turn old now ins row k matched input lit kept are lt same is_lit is_input has w wide =
    let fs : List WordFunction = functions_at old ins in
    let so_far : function_at now matched w ≡ row_function fs (take k row) w = function-is now matched (row_function fs (take k row)) has.table w wide in
    let within : k < length ins = omega arith in
    let own : function_at now input w ≡ function_at old (get_or ins k input) w =
    ap (λ p. function_at now p w) is_input ∙ function-kept old now (get_or ins k input) kept (are k input within) w in
    let value : get_or (values_of fs w) k false ≡ function_at old (get_or ins k input) w = value-at old ins k input within w in
    let default : lit ≡ get_or row k Dash = is_lit ∙ get_or_default row k lit Dash lt in
    (λ i. so_far i && lit_matches (default i) ((own ∙ sym value) i))
    ∙ sym (row-more (values_of fs w) row k lt (same ∙ sym (values-length fs w ∙ functions-length old ins)))

-- the rows so far with one more
pub rows-more : (fs : List WordFunction) (rows : List (List Lit)) (k : ℕ) → k < length rows → (w : List Bool) → rows_function fs (take (suc k) rows) w ≡ (rows_function fs (take k rows) w || row_function fs (get_or rows k []) w)
rows-more fs rows k lt w =
    let e : suc k ≡ k + 1 = omega arith in
    ap (λ j. rows_function fs (take j rows) w) e
    ∙ ap (λ l. list_any (row_matches (values_of fs w)) l) (take_more rows k [] lt)
    ∙ list_any-append (row_matches (values_of fs w)) (take k rows) (get_or rows k [] ∷ [])
    ∙ ap (λ b. rows_function fs (take k rows) w || b) (or_false (row_function fs (get_or rows k []) w))

pub cover-off : (fs : List WordFunction) (rows : List (List Lit)) → 0 < length rows → (w : List Bool) → inverse (rows_function fs rows) w ≡ cover_function fs false rows w
cover-off fs [] lt w = absurd (omega arith)
cover-off fs (row ∷ rows) lt w = refl

-- a literal by a gate: with 1 the conjunction with the input, with 0 that with its complement
pub one-literal : (s : SpaceData) (matched input : Pair) (w : List Bool) → gate_function Th22 (functions_at s (matched ∷ input ∷ [])) w ≡ literal_function (function_at s matched) One (function_at s input) w
one-literal s matched input w = and_gate (function_at s matched w) (function_at s input w)

pub zero-literal : (s : SpaceData) (matched input other : Pair) → other.one ≡ input.zero → IsPair s input → (w : List Bool) → length w ≡ s.width → gate_function Th22 (functions_at s (matched ∷ other ∷ [])) w ≡ literal_function (function_at s matched) Zero (function_at s input) w
zero-literal s matched input other e is w wide =
    and_gate (function_at s matched w) (function_at s other w)
    ∙ ap (λ b. function_at s matched w && b) (ap (λ r. at (s.table r) w) e ∙ ap (λ t. at t w) is.complement ∙ at_table s.width (inverse (function_at s input)) w wide)

pub dash-literal : (s : SpaceData) (matched input : Pair) (w : List Bool) → function_at s matched w ≡ literal_function (function_at s matched) Dash (function_at s input) w
dash-literal s matched input w = sym (and_true (function_at s matched w))

-- ---- pairs that are filled in, one place after another

-- so many places of all are done, by which this is so
pub record Filling (old now : SpaceData) (first pairs : List Pair) (place all : ℕ) (Done : Type 0) : Type 0 where
  pub kept : Keeps old now
  pub pairs_too : All (IsPair now) pairs
  pub many : length pairs ≡ length first
  pub within : place ≤ all
  pub done : Done

pub filling-begins : (old : SpaceData) (pairs : List Pair) (all : ℕ) (Done : Type 0) → IsSpace old → All (IsPair old) pairs → Done → Filling old old pairs pairs 0 all Done
filling-begins old pairs all Done space are done = record {
  kept = keeps_all old space;
  pairs_too = are;
  many = refl;
  within = omega arith;
  done = done;
}

-- a place at which nothing is filled in
pub filling-passed : (old now : SpaceData) (first pairs : List Pair) (place all : ℕ) (Done More : Type 0) → place < all → More → Filling old now first pairs place all Done → Filling old now first pairs (place + 1) all More
filling-passed old now first pairs place all Done More lt more l = record {
  kept = l.kept;
  pairs_too = l.pairs_too;
  many = l.many;
  within = omega (arith, lt);
  done = more;
}

-- ---- how a loop makes what its turns list

-- what has come so far
pub record Turned (old now : SpaceData) (tables : List (List Bool)) : Type 0 where
  pub kept : Keeps old now
  pub held : now.held ≡ with_tables old tables

pub turned-none : (s : SpaceData) → IsSpace s → Turned s s []
turned-none s space = record { kept = keeps_all s space; held = sym (with_none s) }

pub turned-more : (a b d : SpaceData) (ts us : List (List Bool)) → Turned a b ts → Keeps b d → d.held ≡ with_tables b us → Turned a d (ts ++ us)
turned-more a b d ts us t k held = record {
  kept = keeps_along a b d t.kept k;
  held = held-along a b d ts us t.kept t.held held;
}

pub turned-next : (a b d : SpaceData) (turn : ℕ → List (List Bool)) (k : ℕ) → Turned a b (gathered turn k) → Keeps b d → d.held ≡ with_tables b (turn k) → Turned a d (gathered turn (k + 1))
turned-next a b d turn k t kept held =
    let e : suc k ≡ k + 1 = omega arith in
    subst (λ j. Turned a d (gathered turn j)) e (turned-more a b d (gathered turn k) (turn k) t kept held)

-- what all turns give begins with what some of the first do
pub gathered-cut : {X : Type 0} (turn : ℕ → List X) (k m : ℕ) → k < m → (rest : List X) × (gathered turn m ≡ gathered turn (suc k) ++ rest)
gathered-cut turn k zero lt = absurd (omega arith)
gathered-cut turn k (suc m) lt =
    elim (cases_eq k m) [
      | inl e ↦ ([], ap (λ j. gathered turn (suc j)) (sym e) ∙ sym (append-nil (gathered turn (suc k))))
      | inr ne ↦ let more = gathered-cut turn k m (omega arith) in (more.0 ++ turn m, ap (λ l. l ++ turn m) more.1 ∙ append_assoc (gathered turn (suc k)) more.0 (turn m))
    ]

-- a turn that is refused
pub too_much-turn : (a b : SpaceData) (turn : ℕ → List (List Bool)) (k m : ℕ) → k < m → Turned a b (gathered turn k) → fits b (turn k) ≡ false → fits a (gathered turn m) ≡ false
too_much-turn a b turn k m lt t full =
    let cut = gathered-cut turn k m lt in
    subst (λ tables. fits a tables ≡ false) (sym cut.1)
    (too_much_by_front a (gathered turn k ++ turn k) cut.0 (too_much-after a b (gathered turn k) (turn k) t.kept t.held full))
