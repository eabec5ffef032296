-- What is kept doesn't depend on the order of the cells of stages, a pipeline keeps what it has itself, and what is kept
-- once and again is kept; so rounds of folding may follow one another.
pub use Rattle.ncl_merge.proofs.Terms.{All, All-contains, All-from_members, All-member, AllZip, AllZip-found, AreFewer, Bank, Base, Bit, Bool, BothRails, Broken, Contains, Contains-from_Member, Contains-from_slice_get, Contains-permutation, HasNoFoldable, Incomplete, IsMergedBank, IsMergedStage, IsNetlist, IsOnTheWay, IsPermutation, IsPermutation-sym, IsSamePipeline, IsSameStage, IsSameVariant, IsShapeFault, IsSmaller, IsSound, IsSoundNetlist, IsWordOf, Keeps, List, LowCell, MatchOption, Member-from_Contains, Member-map, Memory, Merged, NetlistCell, NetlistData, Nets, NoRail, None, NothingFoldable, Option, Orphan, PipelineData, Rails, Shape, ShapeFault, Some, StageCell, StageData, Variant, [], all_data, among, ap, arith, base, bit, cell, cell_name, close, false, filter, filter_agree, folded_netlist, function_at, has_data, held-some, held_nets, holds_at, inl, inr, is_data_bank, is_illegal, is_some, is_stage_cell, length, length-map, list_any, list_any-IsPermutation, map, member_of_map, name_at, named_rails, nat_eq, net_pins, not, part_of, rail_names, refl, same_values, shape_is_one, shape_is_unbroken, slice_get, slice_get-from_Contains, stage_function, standing, subst, sym, text_of, true, val, with_cells, word_held, ℕ, ◌&&◌, ◌∙◌, ◌∷◌, ◌≡◌, ◌≢◌}
use Rattle.ncl_merge.proofs.FoldedKeeps.{folded-smaller}

-- ---- the order of cells

-- a stage makes the same of a word
pub same-function : (s t : StageData) → IsSameStage s t → (word : List Bool) → stage_function s word ≡ stage_function t word
same-function s t same word =
    let other : with_cells s t.cells ≡ t = λ i. record { number = same.number i; inputs = same.inputs i; cells = t.cells; outputs = same.outputs i } in
    ap (λ (v : Nets). map (λ (r : Rails). v r.one.0) s.outputs) (same_values s t.cells same.cells Base Base base word)
    ∙ ap (λ (u : StageData). stage_function u word) other

-- whether a cell is high though every output has a high rail without it
abbrev is_orphan : StageData → Nets → Nets → Option StageCell → Bool
is_orphan s v w o = holds_at (λ (c : StageCell). v c.out.0 && all_data s w) o

-- and is sound
module _ (s : StageData) (cells : List StageCell) (moved : IsPermutation s.cells cells) where
  abbrev u : StageData
  u = with_cells s cells

  back : (x y : Variant) → IsSameVariant s u x y → (word : List Bool) → val u word y ≡ val s word x
  back x y alike word = sym (same_values s cells moved x y alike word)

  sound-cell : IsSound s → (j : ℕ) (word : List Bool) → IsWordOf s word → (o : Option StageCell) → slice_get cells j ≡ o → is_orphan s (val u word Base) (val u word (LowCell j)) (slice_get cells j) ≡ false
  sound-cell sound j word wide None at = ap (is_orphan s (val u word Base) (val u word (LowCell j))) at
  sound-cell sound j word wide (Some c) at =
      let (i, at_i) = slice_get-from_Contains s.cells c (Contains-permutation cells s.cells c (IsPermutation-sym s.cells cells moved) (Contains-from_slice_get cells j c at)) in
      let places : slice_get s.cells i ≡ slice_get cells j = at_i ∙ sym at in
      let base_is = back Base Base base word in
      let cell_is = back (LowCell i) (LowCell j) (cell i j places) word in
      (λ k. is_orphan s (base_is k) (cell_is k) (sym places k)) ∙ sound (Orphan i) word wide

  sound-moved : IsSound s → IsSound u
  sound-moved sound (BothRails k) word wide = ap (λ (v : Nets). holds_at (is_illegal v) (slice_get s.outputs k)) (back Base Base base word) ∙ sound (BothRails k) word wide
  sound-moved sound (NoRail k) word wide = ap (λ (v : Nets). holds_at (λ r. not (has_data v r)) (slice_get s.outputs k)) (back Base Base base word) ∙ sound (NoRail k) word wide
  sound-moved sound (Incomplete b) word wide = ap (λ (v : Nets). holds_at (λ (r : Rails). all_data s v) (slice_get s.inputs b)) (back (Bit b) (Bit b) (bit b) word) ∙ sound (Incomplete b) word wide
  sound-moved sound (Orphan j) word wide = sound-cell sound j word wide (slice_get cells j) refl

pub same-sound : (s t : StageData) → IsSameStage s t → IsSound s → IsSound t
same-sound s t same sound =
    let other : with_cells s t.cells ≡ t = λ i. record { number = same.number i; inputs = same.inputs i; cells = t.cells; outputs = same.outputs i } in
    subst IsSound other (sound-moved s t.cells same.cells sound)

-- so are all stages
pub same-all_sound : (xs ys : List StageData) → AllZip IsSameStage xs ys → All IsSound xs → All IsSound ys
same-all_sound xs ys same sound =
    All-from_members IsSound ys (λ t m.
    let (s, m-s, alike) = AllZip-found IsSameStage xs ys same t m in
    same-sound s t alike (All-contains IsSound xs s sound (Contains-from_Member s m-s)))

-- the same cells are cells of stages
same-staged : (c : NetlistCell) (xs ys : List StageData) → AllZip IsSameStage xs ys
    → list_any (λ (s : StageData). list_any (λ (g : StageCell). nat_eq g.out.0 c.out.0) s.cells) xs ≡ list_any (λ (s : StageData). list_any (λ (g : StageCell). nat_eq g.out.0 c.out.0) s.cells) ys
same-staged c [] [] same = refl
same-staged c (s ∷ xs) (t ∷ ys) (first, rest) =
    let one = list_any-IsPermutation (λ (g : StageCell). nat_eq g.out.0 c.out.0) s.cells t.cells first.cells in
    let others = same-staged c xs ys rest in
    cc
same-staged c xs ys same = absurd same

same-standing : (p q : PipelineData) → IsSamePipeline p q → standing p ≡ standing q
same-standing p q same =
    ap (map (part_of p.netlist.nets)) (filter_agree (λ c. not (is_stage_cell p c)) (λ c. not (is_stage_cell q c)) (λ c. ap not (same-staged c p.stages q.stages same.stages)) p.netlist.cells)
    ∙ ap (λ (n : NetlistData). map (part_of n.nets) (filter (λ c. not (is_stage_cell q c)) n.cells)) same.netlist

-- ---- itself

zip-itself : {X : Type 0} (R : X → X → Type 0) → ((x : X) → R x x) → (xs : List X) → AllZip R xs xs
zip-itself R itself [] = tt
zip-itself R itself (x ∷ xs) = (itself x, zip-itself R itself xs)

pub keeps-itself : (p : PipelineData) → All IsSound p.stages → Keeps p p
keeps-itself p sound = record {
  title = refl;
  ports = refl;
  standing = refl;
  stages = zip-itself (IsMergedStage p.netlist p.netlist) (λ s. record { labels = λ g m. (g, m, record { name = refl; net = refl }); inputs = refl; function = λ word. refl }) p.stages;
  banks = zip-itself (IsMergedBank p p) (λ b. record { held = refl; passes = λ data_is. refl }) p.banks;
  inputs = refl;
  outputs = refl;
  ki = refl;
  ko = refl;
  net_names = All-from_members (Contains p.netlist.nets) p.netlist.nets (λ x m. Contains-from_Member x m);
  cell_names = All-from_members (λ (c : NetlistCell). Contains (map (λ (d : NetlistCell). d.name) p.netlist.cells) c.name) p.netlist.cells (λ c m. Contains-from_Member c.name (Member-map (λ (d : NetlistCell). d.name) c m));
  function = λ word wide. refl;
  sound = sound;
  short = omega arith;
}

-- ---- and again

-- a bank that holds the same word is reset to DATA too
same-data : (b d : Bank) → word_held d ≡ word_held b → is_data_bank b ≡ true → is_data_bank d ≡ true
same-data b d held data_is = sym (held-some d) ∙ ap is_some held ∙ held-some b ∙ data_is

module _ (p q u r : PipelineData) (one : Keeps p q) (same : IsSamePipeline u q) (two : Keeps u r) where
  stages-along : (xs ys zs ws : List StageData) → AllZip (IsMergedStage p.netlist q.netlist) xs ys → AllZip IsSameStage zs ys → AllZip (IsMergedStage u.netlist r.netlist) zs ws
      → AllZip (IsMergedStage p.netlist r.netlist) xs ws
  stages-along [] [] [] [] a b c = tt
  stages-along (x ∷ xs) (y ∷ ys) (z ∷ zs) (w ∷ ws) (first, rest) (alike, others) (next, last) = (
    record {
      labels = λ g m.
          let (mid, m-mid, label) = next.labels g m in
          let (old, m-old, own) = first.labels mid (Contains-permutation z.cells y.cells mid alike.cells m-mid) in (
            old,
            m-old,
            record {
              name = label.name ∙ ap (λ (n : NetlistData). cell_name n mid.cell.0) same.netlist ∙ own.name;
              net = label.net ∙ ap (λ (n : NetlistData). name_at n mid.out.0) same.netlist ∙ own.net;
            },
          );
      inputs = next.inputs ∙ ap length alike.inputs ∙ first.inputs;
      function = λ word. next.function word ∙ same-function z y alike word ∙ first.function word;
    },
    stages-along xs ys zs ws rest others last,
  )
  stages-along [] [] [] ws a b c = absurd c
  stages-along (x ∷ xs) (y ∷ ys) (z ∷ zs) ws a b c = absurd c
  stages-along [] [] zs ws a b c = absurd b
  stages-along (x ∷ xs) (y ∷ ys) zs ws a b c = absurd b
  stages-along xs ys zs ws a b c = absurd a

  function-same : (request : ℕ) → function_at u request ≡ function_at q request
  function-same request =
      ap (map (λ (r : Rails). close u.netlist (held_nets u.netlist request) r.one.0)) same.outputs
      ∙ ap (λ (n : NetlistData). map (λ (r : Rails). close n (held_nets n request) r.one.0) q.outputs) same.netlist

  banks-along : (xs ys ws : List Bank) → AllZip (IsMergedBank p q) xs ys → AllZip (IsMergedBank u r) ys ws → AllZip (IsMergedBank p r) xs ws
  banks-along [] [] [] a c = tt
  banks-along (x ∷ xs) (y ∷ ys) (w ∷ ws) (first, rest) (next, last) = (
    record {
      held = next.held ∙ first.held;
      passes = λ data_is. next.passes (same-data x y first.held data_is) ∙ function-same y.request.0 ∙ first.passes data_is;
    },
    banks-along xs ys ws rest last,
  )
  banks-along [] [] ws a c = absurd c
  banks-along (x ∷ xs) (y ∷ ys) ws a c = absurd c
  banks-along xs ys ws a c = absurd a

  names-along : All (Contains p.netlist.nets) r.netlist.nets
  names-along =
      All-from_members (Contains p.netlist.nets) r.netlist.nets (λ x m.
      let before = subst (λ (n : NetlistData). Contains n.nets x) same.netlist (All-member (Contains u.netlist.nets) r.netlist.nets two.net_names x m) in
      All-member (Contains p.netlist.nets) q.netlist.nets one.net_names x (Member-from_Contains q.netlist.nets x before))

  titles-along : All (λ (c : NetlistCell). Contains (map (λ (d : NetlistCell). d.name) p.netlist.cells) c.name) r.netlist.cells
  titles-along =
      All-from_members (λ (c : NetlistCell). Contains (map (λ (d : NetlistCell). d.name) p.netlist.cells) c.name) r.netlist.cells (λ c m.
      let before = subst (λ (n : NetlistData). Contains (map (λ (d : NetlistCell). d.name) n.cells) c.name) same.netlist (All-member (λ (c : NetlistCell). Contains (map (λ (d : NetlistCell). d.name) u.netlist.cells) c.name) r.netlist.cells two.cell_names c m) in
      let (b, m-b, e) = member_of_map (λ (d : NetlistCell). d.name) q.netlist.cells c.name (Member-from_Contains (map (λ (d : NetlistCell). d.name) q.netlist.cells) c.name before) in
      subst (Contains (map (λ (d : NetlistCell). d.name) p.netlist.cells)) e (All-member (λ (c : NetlistCell). Contains (map (λ (d : NetlistCell). d.name) p.netlist.cells) c.name) q.netlist.cells one.cell_names b m-b))

  wide-along : length q.inputs ≡ length p.inputs
  wide-along = sym (length-map q.inputs (rail_names q.netlist)) ∙ ap length one.inputs ∙ length-map p.inputs (rail_names p.netlist)

  pub keeps-along : Keeps p r
  keeps-along = record {
    title = two.title ∙ ap (λ (n : NetlistData). n.name) same.netlist ∙ one.title;
    ports = two.ports ∙ ap (λ (n : NetlistData). n.ports) same.netlist ∙ one.ports;
    standing = two.standing ∙ same-standing u q same ∙ one.standing;
    stages = stages-along p.stages q.stages u.stages r.stages one.stages same.stages two.stages;
    banks = banks-along p.banks q.banks r.banks one.banks (subst (λ banks. AllZip (IsMergedBank u r) banks r.banks) same.banks two.banks);
    inputs = two.inputs ∙ (λ i. map (rail_names (same.netlist i)) (same.inputs i)) ∙ one.inputs;
    outputs = two.outputs ∙ (λ i. map (rail_names (same.netlist i)) (same.outputs i)) ∙ one.outputs;
    ki = two.ki ∙ (λ i. name_at (same.netlist i) (same.ki i)) ∙ one.ki;
    ko = two.ko ∙ (λ i. name_at (same.netlist i) (same.ko i)) ∙ one.ko;
    net_names = names-along;
    cell_names = titles-along;
    function = λ word wide.
        let there : length word ≡ length q.inputs = wide ∙ sym wide-along in
        two.function word (there ∙ ap length (sym same.inputs))
        ∙ (λ i. map (λ (r : Rails). close (same.netlist i) (among (named_rails (same.inputs i) word)) r.one.0) (same.outputs i))
        ∙ one.function word wide;
    sound = two.sound;
    short = let first = one.short in let next = two.short in let mid = ap (λ (n : NetlistData). length (text_of n)) same.netlist in omega (arith, first, next, mid);
  }

-- ---- rounds

-- a netlist with a shape has no fault of shape but want of memory
broken : (n : NetlistData) (fault : ShapeFault) → fault ≢ Memory → IsShapeFault n fault → Broken n fault
broken n Memory named is = absurd (named refl)
broken n fault named is = is

pub sound-unbroken : (n : NetlistData) → IsSoundNetlist n → (fault : ShapeFault) → fault ≢ Memory → IsShapeFault n fault → ⊥
sound-unbroken n has fault named is = shape_is_unbroken n has.shape.is_netlist has.pipeline has.shape fault (broken n fault named is).breaks

-- each pipeline that is its shape has sound stages
pub stages-sound : (n : NetlistData) → IsSoundNetlist n → (p : PipelineData) → Shape n p → All IsSound p.stages
stages-sound n has p shape = same-all_sound has.pipeline.stages p.stages (shape_is_one n shape.is_netlist has.pipeline p has.shape shape).stages has.sound

-- what is foldable is so in any order of the cells
pub nothing-foldable : (n : NetlistData) (p : PipelineData) → Shape n p → HasNoFoldable p → NothingFoldable n
nothing-foldable n p shape none other shape_other is =
    let same = shape_is_one n shape.is_netlist p other shape shape_other in
    let (s, m-s, alike) = AllZip-found IsSameStage p.stages other.stages same.stages is.stage (Member-from_Contains other.stages is.stage is.in_stages) in
    let back = IsPermutation-sym s.cells is.stage.cells alike.cells in
    let f = is.foldable in
    none s (Contains-from_Member s m-s) is.g is.h (record {
      g_in = Contains-permutation is.stage.cells s.cells is.g back f.g_in;
      h_in = Contains-permutation is.stage.cells s.cells is.h back f.h_in;
      once = ap (λ (m : NetlistData). net_pins m is.g.out.0) same.netlist ∙ f.once;
      reads = f.reads;
      kind = f.kind;
      nets = f.nets;
      fold = f.fold;
    })

-- a round that folds something makes the netlist smaller
pub round-smaller : (n m : NetlistData) → IsSoundNetlist n → (p : PipelineData) → Shape n p → (lists : List (List StageCell)) → AreFewer p.stages lists → IsNetlist m → m ≡ folded_netlist p lists → IsSmaller n m
round-smaller n m has p shape lists fewer is_m same =
    let own : p.netlist ≡ n = shape.netlist in
    subst (λ k. IsSmaller k m) own
    (subst (IsSmaller p.netlist) (sym same)
    (folded-smaller p (subst (λ k. Shape k p) (sym own) shape) lists fewer (subst IsNetlist same is_m) (stages-sound n has p shape)))

-- ---- rounds one after another

pub way-sound : (n m : NetlistData) → IsSoundNetlist n → IsOnTheWay n m → IsSoundNetlist m
way-sound n m has (inl same) = subst IsSoundNetlist (sym same) has
way-sound n m has (inr smaller) = record { pipeline = smaller.after; shape = smaller.shape; sound = smaller.keeps.sound }

smaller-along : (n m r : NetlistData) → IsSmaller n m → IsSmaller m r → IsSmaller n r
smaller-along n m r one two = record {
  before = one.before;
  after = two.after;
  shape_before = one.shape_before;
  shape = two.shape;
  keeps = keeps-along one.before one.after two.before two.after one.keeps (shape_is_one m one.shape.is_netlist two.before one.after two.shape_before one.shape) two.keeps;
  fewer = let first = one.fewer in let next = two.fewer in omega (arith, first, next);
}

pub way-on : (n m r : NetlistData) → IsOnTheWay n m → IsSmaller m r → IsOnTheWay n r
way-on n m r (inl same) next = inr (subst (λ k. IsSmaller k r) same next)
way-on n m r (inr smaller) next = inr (smaller-along n m r smaller next)

-- where nothing is foldable any more, the netlist is merged
pub way-ends : (n m : NetlistData) → IsSoundNetlist n → IsOnTheWay n m → NothingFoldable m → Merged n m
way-ends n m has (inl same) none =
    subst (Merged n) (sym same) record {
      before = has.pipeline;
      after = has.pipeline;
      shape_before = has.shape;
      shape = has.shape;
      keeps = keeps-itself has.pipeline has.sound;
      none = subst NothingFoldable same none has.pipeline has.shape;
      few = omega arith;
      fewer = λ some. absurd (subst NothingFoldable same none has.pipeline has.shape some);
    }
way-ends n m has (inr smaller) none = record {
  before = smaller.before;
  after = smaller.after;
  shape_before = smaller.shape_before;
  shape = smaller.shape;
  keeps = smaller.keeps;
  none = none smaller.after smaller.shape;
  few = let less = smaller.fewer in omega (arith, less);
  fewer = λ some. smaller.fewer;
}
