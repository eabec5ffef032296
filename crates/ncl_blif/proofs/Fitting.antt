-- Exactly one assignment fits.
use Rattle.ncl_blif.proofs.Terms.{All, All-contains, Bool, Contains, Contains-append_cases, Contains-append_left, Contains-append_right, Contains-get_or, Contains-push_cases, Cover, Fits, IsGraph, IsModel, IsOnCycle, IsOrder, List, Model, [], ap, apart_from_distinct, append-nil, arith, cases_lt, cond, cover_value, dependency_graph, driver_place, eq-eqb, false, false≢true, filter_map, get_or, get_or-append-add, get_or-map, get_or_append_left, get_or_default, inl, inr, leads_within, length, length-append, length-le-sum_by, length-map, map, nat_eq, ne_eqb, range_with_len, refl, signals_of, split_at, subst, suc, successors, sym, true, weight_of_rows, ℕ, ⊎_elim, ◌++◌, ◌+◌, ◌<◌, ◌^◌, ◌∙◌, ◌∷◌, ◌≡◌, ◌≢◌, ◌⊎◌}
use Rattle.std.proofs.lemmas.List.{append_assoc}
use Rattle.ncl_graph.proofs.Orders as orders
use Rattle.ncl_blif.proofs.DependenceLaws.{OutsDiffer, out_at, arc_of_reads, Depends-from_Leads, IsGraph-dependency_graph}

-- functions that agree on a list give the same
pub map-agree_on : {X Y : Type 0} (f g : X → Y) (xs : List X) → ((x : X) → Contains xs x → f x ≡ g x) → map f xs ≡ map g xs
map-agree_on f g [] same = refl
map-agree_on f g (x ∷ xs) same =
    ap (λ y. y ∷ map f xs) (same x (0, omega arith, refl))
    ∙ ap (λ ys. g x ∷ ys) (map-agree_on f g xs (λ z (k, lt, at). same z (suc k, omega arith, at)))

-- functions that give the same on a list agree on it
pub agree_on-map : {X : Type 0} (f g : X → Bool) (xs : List X) → map f xs ≡ map g xs → (x : X) → Contains xs x → f x ≡ g x
agree_on-map f g xs same x (k, lt, at) =
    ap f (sym at) ∙ sym (get_or-map f xs k x false lt) ∙ ap (λ ys. get_or ys k false) same ∙ get_or-map g xs k x false lt ∙ ap g at

-- the bits of a word, read one after another
pub map-range : (word : List Bool) (a : ℕ) (bits : ℕ → Bool) → ((k : ℕ) → k < length word → bits (a + k) ≡ get_or word k false) → map bits (range_with_len a (length word)) ≡ word
map-range [] a bits is = refl
map-range (b ∷ word) a bits is =
    let first : bits a ≡ b = let e : a + 0 ≡ a = omega arith in ap bits (sym e) ∙ is 0 (omega arith) in
    let rest = map-range word (a + 1) bits (λ k lt. let e : a + 1 + k ≡ a + suc k = omega arith in ap bits e ∙ is (suc k) (omega arith)) in
    ap (λ x. x ∷ map bits (range_with_len (a + 1) (length word))) first ∙ ap (λ xs. b ∷ xs) rest

abbrev no_cover : Cover
no_cover = record { ins = []; out = 0; on = true; rows = [] }

-- the places to which a cover leads
abbrev edges_of : List Cover → Cover → List ℕ
edges_of covers cover = filter_map (driver_place covers) cover.ins

module _ (m : Model) (is : IsModel m) where
  abbrev at : ℕ → Cover
  at i = get_or m.covers i no_cover

  -- the value of the cover at a place
  abbrev value : ℕ → (ℕ → Bool) → Bool
  value i bits = cover_value (at i).on (at i).rows (map bits (at i).ins)

  outs : List ℕ
  outs = map (λ (cover : Cover). cover.out) m.covers

  -- signals at two places differ
  apart : (i j : ℕ) → i < j → j < length (signals_of m) → get_or (signals_of m) i 0 ≢ get_or (signals_of m) j 0
  apart i j lower within same =
      false≢true (sym (apart_from_distinct nat_eq (signals_of m) i j 0 is.one_driver lower within) ∙ eq-eqb _ _ same)

  signals_many : length (signals_of m) ≡ length m.inputs + length m.covers
  signals_many = length-append m.inputs (map (λ (cover : Cover). cover.out) m.covers) ∙ ap (λ n. length m.inputs + n) (length-map m.covers (λ (cover : Cover). cover.out))

  out_signal : (i : ℕ) (d : Cover) → i < length m.covers → get_or (signals_of m) (length m.inputs + i) 0 ≡ out_at m.covers i d
  out_signal i d within = get_or-append-add m.inputs (map (λ (cover : Cover). cover.out) m.covers) i 0 ∙ get_or-map (λ (cover : Cover). cover.out) m.covers i d 0 within

  -- no two covers drive one signal
  pub outs_differ : OutsDiffer m.covers
  outs_differ i j d i_in j_in same =
      let many = signals_many in
      let signals_same = out_signal i d i_in ∙ same ∙ sym (out_signal j d j_in) in
      ⊎_elim
      (λ lower. absurd (apart (length m.inputs + i) (length m.inputs + j) (omega arith) (omega arith) signals_same))
      (λ not_lower. ⊎_elim
      (λ higher. absurd (apart (length m.inputs + j) (length m.inputs + i) (omega arith) (omega arith) (sym signals_same)))
      (λ not_higher. omega arith)
      (cases_lt j i))
      (cases_lt i j)

  -- no cover drives an input
  out_no_input : (i : ℕ) → i < length m.covers → (signal : ℕ) → Contains m.inputs signal → (at i).out ≢ signal
  out_no_input i within signal (k, lt, here) same =
      let many = signals_many in
      let left : get_or (signals_of m) k 0 ≡ signal = get_or_append_left m.inputs (map (λ (cover : Cover). cover.out) m.covers) 0 k lt ∙ get_or_default m.inputs k 0 signal lt ∙ here in
      apart k (length m.inputs + i) (omega arith) (omega arith) (left ∙ sym same ∙ sym (out_signal i no_cover within))

  -- a signal that a cover reads is an input, or what a cover drives to which its place leads
  reads_from : (i : ℕ) → i < length m.covers → (signal : ℕ) → Contains (at i).ins signal
      → Contains m.inputs signal ⊎ ((j : ℕ) × (j < length m.covers) × ((at j).out ≡ signal) × Contains (successors (dependency_graph m.covers) i) j)
  reads_from i within signal among =
      let driven = All-contains (λ s. Contains (signals_of m) s) (at i).ins signal (is.reads_driven i no_cover within) among in
      ⊎_elim
      (λ input. inl input)
      (λ (j, lt, here).
      let inside : j < length m.covers = omega (arith, length-map m.covers (λ (cover : Cover). cover.out)) in
      let drives : (at j).out ≡ signal = sym (get_or-map (λ (cover : Cover). cover.out) m.covers j no_cover signal inside) ∙ here in
      inr (
        j,
        inside,
        drives,
        arc_of_reads m.covers outs_differ (at i) i j no_cover within inside (Contains-get_or m.covers i no_cover within) refl
            (subst (Contains (at i).ins) (sym drives) among),
      ))
      (Contains-append_cases m.inputs (map (λ (cover : Cover). cover.out) m.covers) signal driven)

  few : length m.covers < 2 ^ 32
  few = omega (arith, length-le-sum_by (λ (cover : Cover). 1 + length cover.ins + weight_of_rows cover.rows) (λ cover. omega arith) m.covers, is.small)

  is_graph : IsGraph (dependency_graph m.covers)
  is_graph = IsGraph-dependency_graph m.covers few

  -- no place lies on a cycle
  acyclic : (i : ℕ) → IsOnCycle (dependency_graph m.covers) i → ⊥
  acyclic i cycle =
      let inside : i < length m.covers = omega (arith, leads_within (dependency_graph m.covers) i i cycle, length-map m.covers (edges_of m.covers)) in
      is.no_cycle (out_at m.covers i no_cover) (Depends-from_Leads m i i no_cover inside cycle)

  -- a place of an order is that of a cover
  place_within : (order : List ℕ) → IsOrder (dependency_graph m.covers) order → (i : ℕ) → Contains order i → i < length m.covers
  place_within order ordered i among =
      omega (arith, All-contains (λ j. j < length (dependency_graph m.covers)) order i ordered.places among, length-map m.covers (edges_of m.covers))

  -- a signal that a cover reads is an input, or what a cover before it drives
  reads_earlier : (before : List ℕ) (i : ℕ) (rest order : List ℕ) → IsOrder (dependency_graph m.covers) order → order ≡ before ++ i ∷ rest → i < length m.covers
      → (signal : ℕ) → Contains (at i).ins signal → Contains m.inputs signal ⊎ ((j : ℕ) × Contains before j × ((at j).out ≡ signal))
  reads_earlier before i rest order ordered split within signal among =
      ⊎_elim (λ input. inl input)
      (λ (j, inside, drives, leads). inr (j, ordered.after before i rest split j leads, drives))
      (reads_from i within signal among)

  -- two assignments that fit agree on what the covers of an order drive
  agree_along : (word : List Bool) (a b : ℕ → Bool) → Fits m word a → Fits m word b → (order : List ℕ) → IsOrder (dependency_graph m.covers) order
      → (before rest : List ℕ) → order ≡ before ++ rest → ((j : ℕ) → Contains before j → a (at j).out ≡ b (at j).out)
      → (j : ℕ) → Contains order j → a (at j).out ≡ b (at j).out
  agree_along word a b fa fb order ordered before [] split known j among = known j (subst (λ xs. Contains xs j) (split ∙ append-nil before) among)
  agree_along word a b fa fb order ordered before (i ∷ rest) split known j among =
      let within : i < length m.covers = place_within order ordered i (subst (λ xs. Contains xs i) (sym split) (Contains-append_right before (i ∷ rest) i (0, omega arith, refl))) in
      let same : (signal : ℕ) → Contains (at i).ins signal → a signal ≡ b signal = λ signal reads_it.
      ⊎_elim
      (λ input. agree_on-map a b m.inputs (fa.inputs ∙ sym fb.inputs) signal input)
      (λ (k, earlier, drives). ap a (sym drives) ∙ known k earlier ∙ ap b drives)
      (reads_earlier before i rest order ordered split within signal reads_it) in
      let here : a (at i).out ≡ b (at i).out =
      fa.covers i no_cover within ∙ ap (cover_value (at i).on (at i).rows) (map-agree_on a b (at i).ins same) ∙ sym (fb.covers i no_cover within) in
      agree_along word a b fa fb order ordered (before ++ i ∷ []) rest (split ∙ sym (append_assoc before (i ∷ []) rest))
      (λ k c. ⊎_elim (λ old. known k old) (λ now. subst (λ n. a (at n).out ≡ b (at n).out) now here) (Contains-push_cases before i k c)) j among

  -- two assignments that fit agree on each signal
  pub fits_agree : (word : List Bool) (a b : ℕ → Bool) → Fits m word a → Fits m word b → All (λ signal. a signal ≡ b signal) (signals_of m)
  fits_agree word a b fa fb k d within =
      let (order, ordered) = orders.acyclic_has_order (dependency_graph m.covers) is_graph acyclic in
      let signal = get_or (signals_of m) k d in
      ⊎_elim
      (λ input. agree_on-map a b m.inputs (fa.inputs ∙ sym fb.inputs) signal input)
      (λ (j, lt, here).
      let inside : j < length m.covers = omega (arith, length-map m.covers (λ (cover : Cover). cover.out)) in
      let drives : (at j).out ≡ signal = sym (get_or-map (λ (cover : Cover). cover.out) m.covers j no_cover signal inside) ∙ here in
      ap a (sym drives) ∙ agree_along word a b fa fb order ordered [] order refl (λ i (n, none, e). absurd (omega arith)) j (ordered.every j (omega (arith, length-map m.covers (edges_of m.covers)))) ∙ ap b drives)
      (Contains-append_cases m.inputs (map (λ (cover : Cover). cover.out) m.covers) signal (Contains-get_or (signals_of m) k d within))

  -- what an assignment has so far: the word at the inputs, and the value of each cover of a list at what it drives
  record SoFar (word : List Bool) (done : List ℕ) (bits : ℕ → Bool) : Type 0 where
    inputs : map bits m.inputs ≡ word
    covers : (j : ℕ) → Contains done j → bits (at j).out ≡ value j bits

  -- a place of the front of an order isn't the next one
  not_next : (before : List ℕ) (i : ℕ) (rest order : List ℕ) → IsOrder (dependency_graph m.covers) order → order ≡ before ++ i ∷ rest → (k : ℕ) → Contains before k → k ≢ i
  not_next before i rest order ordered split k (p, lt, here) same =
      let long : length order ≡ length before + length (i ∷ rest) = ap length split ∙ length-append before (i ∷ rest) in
      let at_p : get_or order p 0 ≡ k = ap (λ xs. get_or xs p 0) split ∙ get_or_append_left before (i ∷ rest) 0 p lt ∙ get_or_default before p 0 k lt ∙ here in
      let at_i : get_or order (length before + 0) 0 ≡ i = ap (λ xs. get_or xs (length before + 0) 0) split ∙ get_or-append-add before (i ∷ rest) 0 0 in
      ordered.once p (length before + 0) 0 (omega arith) (omega arith) (at_p ∙ same ∙ sym at_i)

  -- what a cover of the front of an order reads is an input, or driven by a cover of the front
  front_reads : (before : List ℕ) (i : ℕ) (rest order : List ℕ) → IsOrder (dependency_graph m.covers) order → order ≡ before ++ i ∷ rest
      → (j : ℕ) → Contains before j → (signal : ℕ) → Contains (at j).ins signal → Contains m.inputs signal ⊎ ((k : ℕ) × Contains before k × ((at k).out ≡ signal))
  front_reads before i rest order ordered split j among signal reads_it =
      let (first, later, e) = split_at before j among in
      let whole : order ≡ first ++ j ∷ (later ++ i ∷ rest) = split ∙ ap (λ xs. xs ++ i ∷ rest) e ∙ append_assoc first (j ∷ later) (i ∷ rest) in
      let within = place_within order ordered j (subst (λ xs. Contains xs j) (sym split) (Contains-append_left before (i ∷ rest) j among)) in
      ⊎_elim
      (λ input. inl input)
      (λ (k, earlier, drives). inr (k, subst (λ xs. Contains xs k) (sym e) (Contains-append_left first (j ∷ later) k earlier), drives))
      (reads_earlier first j (later ++ i ∷ rest) order ordered whole within signal reads_it)

  -- an assignment with another bit at one signal
  abbrev with_bit : (ℕ → Bool) → ℕ → Bool → ℕ → Bool
  with_bit bits signal bit s = cond (nat_eq s signal) bit (bits s)

  elsewhere : (bits : ℕ → Bool) (signal : ℕ) (bit : Bool) (s : ℕ) → s ≢ signal → with_bit bits signal bit s ≡ bits s
  elsewhere bits signal bit s differ = ap (λ b. cond b bit (bits s)) (ne_eqb s signal differ)

  there : (bits : ℕ → Bool) (signal : ℕ) (bit : Bool) → with_bit bits signal bit signal ≡ bit
  there bits signal bit = ap (λ b. cond b bit (bits signal)) (eq-eqb signal signal refl)

  -- one more cover
  one_more : (word : List Bool) (before : List ℕ) (i : ℕ) (rest order : List ℕ) → IsOrder (dependency_graph m.covers) order → order ≡ before ++ i ∷ rest
      → (bits : ℕ → Bool) → SoFar word before bits → (more : ℕ → Bool) × SoFar word (before ++ i ∷ []) more
  one_more word before i rest order ordered split bits known =
      let within : i < length m.covers = place_within order ordered i (subst (λ xs. Contains xs i) (sym split) (Contains-append_right before (i ∷ rest) i (0, omega arith, refl))) in
      let out : ℕ = (at i).out in
      let more : ℕ → Bool = with_bit bits out (value i bits) in
      let front_kept : (k : ℕ) → Contains before k → more (at k).out ≡ bits (at k).out = λ k among.
      let inside = place_within order ordered k (subst (λ xs. Contains xs k) (sym split) (Contains-append_left before (i ∷ rest) k among)) in
      elsewhere bits out (value i bits) (at k).out (λ same. not_next before i rest order ordered split k among (outs_differ k i no_cover inside within same)) in
      let input_kept : (s : ℕ) → Contains m.inputs s → more s ≡ bits s = λ s input.
      elsewhere bits out (value i bits) s (λ same. out_no_input i within s input (sym same)) in
      let value_kept : (j : ℕ) → ((s : ℕ) → Contains (at j).ins s → Contains m.inputs s ⊎ ((k : ℕ) × Contains before k × ((at k).out ≡ s))) → value j bits ≡ value j more = λ j sources.
      ap (cover_value (at j).on (at j).rows) (map-agree_on bits more (at j).ins (λ s reads_it.
      ⊎_elim (λ input. sym (input_kept s input)) (λ (k, among, drives). ap bits (sym drives) ∙ sym (front_kept k among) ∙ ap more drives) (sources s reads_it))) in (
        more,
        record {
          inputs = map-agree_on more bits m.inputs input_kept ∙ known.inputs;
          covers = λ j among. ⊎_elim
              (λ old. front_kept j old ∙ known.covers j old ∙ value_kept j (front_reads before i rest order ordered split j old))
              (λ now. subst (λ n. more (at n).out ≡ value n more) now (there bits out (value i bits) ∙ value_kept i (reads_earlier before i rest order ordered split within)))
              (Contains-push_cases before i j among);
        },
      )

  build : (word : List Bool) (order : List ℕ) → IsOrder (dependency_graph m.covers) order → (before rest : List ℕ) → order ≡ before ++ rest
      → (bits : ℕ → Bool) → SoFar word before bits → (all : ℕ → Bool) × SoFar word order all
  build word order ordered before [] split bits known = (bits, subst (λ xs. SoFar word xs bits) (sym (split ∙ append-nil before)) known)
  build word order ordered before (i ∷ rest) split bits known =
      let (more, now) = one_more word before i rest order ordered split bits known in
      build word order ordered (before ++ i ∷ []) rest (split ∙ sym (append_assoc before (i ∷ []) rest)) more now

  -- some assignment fits
  pub some_fits : (word : List Bool) → length word ≡ length m.inputs → (bits : ℕ → Bool) × Fits m word bits
  some_fits word long =
      let (order, ordered) = orders.acyclic_has_order (dependency_graph m.covers) is_graph acyclic in
      let first : ℕ → Bool = λ s. get_or word s false in
      let inputs : map first m.inputs ≡ word =
      ap (map first) (is.inputs_in_order ∙ ap (range_with_len 0) (sym long)) ∙ map-range word 0 first (λ k lt. let e : 0 + k ≡ k = omega arith in ap first e) in
      let (bits, all) = build word order ordered [] order refl first (record { inputs = inputs; covers = λ j (n, none, e). absurd (omega arith) }) in (
        bits,
        record {
          inputs = all.inputs;
          covers = λ k d within. subst (λ (c : Cover). bits c.out ≡ cover_value c.on c.rows (map bits c.ins)) (get_or_default m.covers k no_cover d within)
              (all.covers k (ordered.every k (omega (arith, length-map m.covers (edges_of m.covers)))));
        },
      )
