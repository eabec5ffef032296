-- The chain of the first stages of a pipeline: it is a stage, it makes of an input the word that the input brings, and its last
-- stage shows in it what it shows at that word.
use Rattle.ncl_reaching.proofs.Terms.{All, All-from_members, AreSoundWhereReached, Bool, BothRails, CanFollow, EndsWith, Incomplete, IsFaultOf, IsLayoutOf, IsOneRailed, IsSoundAt, IsStage, Layout, List, Member, Member-append_cases, NoRail, Orphan, PipelineData, Rails, Shape, Some, StageCell, StageData, StageFault, ap, arith, ascending, brings, brings_fault, by_net, chain, find, find-same, followed, followed_by, followers, gate_place, inl, inputs_of_chain, inr, laid_out, least_bringing, length, length-map, lesser, map, nets_of, one_railed, out_of, rail0_place, rail1_place, refl, shows, slice_get, slice_get-some, slice_get_within, sound-one_railed, stage-here, stage_function, stage_nets, subst, suc, sym, wires-pass, wires_sound, word-brought, word_at, word_on, words, words_by, words_by-ascending, zero, ℕ, ◌*◌, ◌++◌, ◌+◌, ◌<◌, ◌||◌, ◌∙◌, ◌≡◌, ◌≤◌}
use Rattle.std.proofs.lemmas.List.{length-append}
use Rattle.ncl_reaching.proofs.Following.{by_nets-followed, followed-is_stage, followers-many, function-followed, nets-followed, one-followed, shows-both, shows-none, word-followed}
use Rattle.ncl_reaching.proofs.Without.{shows-orphan, shows-incomplete}
use Rattle.ncl_reaching.proofs.LeastOfTwo.{find-either}

module _ (p : PipelineData) (shape : Shape p.netlist p) (l : Layout) (is : IsLayoutOf p l) where
  -- what holds of the chain of so many stages
  pub record IsChained (k : ℕ) : Type 0 where
    pub is_stage : IsStage (chain p k)
    pub by_nets : (g : StageCell) → Member g (chain p k).cells → g.cell.0 ≡ out_of g
    pub nets : (net : ℕ) → Member net (nets_of (chain p k).inputs (chain p k).cells) → (i : ℕ) × (i ≤ k) × Member net (stage_nets l i)
    pub inputs : (chain p k).inputs ≡ p.inputs
    pub outputs : (chain p k).outputs ≡ (l.stage k).outputs

  -- what it is with one stage more
  pub next-chain : (k : ℕ) → k < length p.stages → chain p (suc k) ≡ followed (chain p k) (l.stage (suc k))
  next-chain k lt = ap (followed_by (chain p k)) (stage-here p shape l is k lt)

  can-follow : (k : ℕ) → k < length p.stages → IsChained k → CanFollow (chain p k) (l.stage (suc k))
  can-follow k lt chained = record {
    is_front = chained.is_stage;
    is_back = is.is_stage (suc k) in_last;
    many = ap (λ (bits : List Rails). length bits) chained.outputs ∙ is.joined k (omega (arith, in_last));
    apart = λ net m n.
        let (i, le, own) = chained.nets net m in
        let same : i ≡ suc k = is.stages_apart i (suc k) net (omega (arith, le, in_last)) in_last own n in
        omega (arith, same, le);
    by_nets = chained.by_nets;
  }
    where
      in_last : suc k ≤ l.last
      in_last = let many = is.as_many in omega (arith, many, lt)

  -- the wires of the source
  source-chained : IsChained 0
  source-chained = record {
    is_stage = subst IsStage (λ i. record { number = 0; inputs = is.source i; cells = is.first_wires.0 i; outputs = wires i }) first;
    by_nets = λ g m. elim m [ ];
    nets = λ net m. (0, omega arith, subst (λ xs. Member net xs) same m);
    inputs = refl;
    outputs = sym wires;
  }
    where
      wires : (l.stage 0).outputs ≡ p.inputs
      wires = is.first_wires.1 ∙ is.source

      own : IsStage (l.stage 0)
      own = is.is_stage 0 (omega arith)

      first : IsStage (record { number = 0; inputs = (l.stage 0).inputs; cells = (l.stage 0).cells; outputs = (l.stage 0).outputs })
      first = record {
        some_inputs = own.some_inputs;
        few_inputs = own.few_inputs;
        some_outputs = own.some_outputs;
        few_outputs = own.few_outputs;
        nets_differ = own.nets_differ;
        cells_differ = own.cells_differ;
        arities = own.arities;
        in_order = own.in_order;
        outputs_known = own.outputs_known;
      }

      same : nets_of (chain p 0).inputs (chain p 0).cells ≡ stage_nets l 0
      same = sym (λ i. nets_of (is.source i) (is.first_wires.0 i))

  -- one stage more
  next-chained : (k : ℕ) → k < length p.stages → IsChained k → IsChained (suc k)
  next-chained k lt before = record {
    is_stage = subst IsStage (sym same) (followed-is_stage (chain p k) back can);
    by_nets = λ g m. by_nets-followed (chain p k) back can g (subst (λ (s : StageData). Member g s.cells) same m);
    nets = λ net m.
        elim (Member-append_cases net (nets_of (chain p k).inputs (chain p k).cells) (stage_nets l (suc k)) (subst (Member net) (ap (λ (s : StageData). nets_of s.inputs s.cells) same ∙ nets-followed (chain p k) back can) m)) [
          | inl old ↦ let (i, le, own) = before.nets net old in (i, omega (arith, le), own)
          | inr new ↦ (suc k, omega arith, new)
        ];
    inputs = ap (λ (s : StageData). s.inputs) same ∙ before.inputs;
    outputs = ap (λ (s : StageData). s.outputs) same;
  }
    where
      back : StageData
      back = l.stage (suc k)

      can : CanFollow (chain p k) back
      can = can-follow k lt before

      same : chain p (suc k) ≡ followed (chain p k) back
      same = next-chain k lt

  pub chained : (k : ℕ) → k ≤ length p.stages → IsChained k
  chained zero le = source-chained
  chained (suc k) le = next-chained k le (chained k (omega (arith, le)))

  -- ---- words

  module _ (input : List Bool) (wide : length input ≡ length p.inputs) where
    -- what holds of it at an input
    pub record HandsOn (k : ℕ) : Type 0 where
      pub makes : stage_function (chain p k) input ≡ word_at l input (suc k)
      pub ones : IsOneRailed (chain p k) input

    abbrev SoundBefore : ℕ → Type 0
    SoundBefore k = (i : ℕ) (s : StageData) → i < k → slice_get p.stages i ≡ Some s → IsSoundAt s (brings p.stages i input)

    source-hands : HandsOn 0
    source-hands = record {
      makes = wires-pass (chain p 0) source-chained.is_stage (refl, refl) input wide ∙ sym (wires-pass (l.stage 0) (is.is_stage 0 (omega arith)) is.first_wires input (wide ∙ ap length (sym is.source)));
      ones = sound-one_railed (chain p 0) (wires_sound (chain p 0) source-chained.is_stage refl refl) input wide;
    }

    next-hands : (k : ℕ) → k < length p.stages → HandsOn k → IsSoundAt (l.stage (suc k)) (brings p.stages k input) → HandsOn (suc k)
    next-hands k lt before sound = record {
      makes = ap (λ (s : StageData). stage_function s input) same ∙ function-followed (chain p k) back can input wide_k before.ones ∙ ap (stage_function back) before.makes;
      ones = subst (λ (s : StageData). IsOneRailed s input) (sym same)
          (one-followed (chain p k) back can input wide_k before.ones
          (one_railed back (stage_function (chain p k) input) (λ fault. ap (λ w. shows back w fault) brought ∙ sound fault)));
    }
      where
        back : StageData
        back = l.stage (suc k)

        own : IsChained k
        own = chained k (omega (arith, lt))

        can : CanFollow (chain p k) back
        can = can-follow k lt own

        same : chain p (suc k) ≡ followed (chain p k) back
        same = next-chain k lt

        wide_k : length input ≡ length (chain p k).inputs
        wide_k = wide ∙ sym (ap (λ (bits : List Rails). length bits) own.inputs)

        brought : stage_function (chain p k) input ≡ brings p.stages k input
        brought = before.makes ∙ word-brought p shape l is input wide k (omega (arith, lt))

    pub hands-on : (k : ℕ) → k ≤ length p.stages → SoundBefore k → HandsOn k
    hands-on zero le sound = source-hands
    hands-on (suc k) le sound = next-hands k le (hands-on k (omega (arith, le)) (λ i s lt at. sound i s (omega (arith, lt)) at)) (sound k (l.stage (suc k)) (omega arith) (stage-here p shape l is k le))

-- ---- a stage at the end of a chain

module _ (p : PipelineData) (shape : Shape p.netlist p) (k : ℕ) (s : StageData) (at : slice_get p.stages k ≡ Some s) where
  abbrev front : StageData
  front = chain p k

  abbrev whole : StageData
  whole = chain p (suc k)

  laid : (l : Layout) × IsLayoutOf p l
  laid = laid_out p shape

  lt : k < length p.stages
  lt = slice_get_within p.stages k s at

  same : whole ≡ followed front s
  same = ap (followed_by front) at

  own : laid.0.stage (suc k) ≡ s
  own = laid.1.in_order k s at

  pub can-follow-here : CanFollow front s
  can-follow-here = subst (CanFollow front) own (can-follow p shape laid.0 laid.1 k lt (chained p shape laid.0 laid.1 k (omega (arith, lt))))

  front-inputs : front.inputs ≡ p.inputs
  front-inputs = (chained p shape laid.0 laid.1 k (omega (arith, lt))).inputs

  pub whole-inputs : whole.inputs ≡ p.inputs
  whole-inputs = (chained p shape laid.0 laid.1 (suc k) lt).inputs

  -- the nets of the chain are nets of the netlist
  pub nets-within : All (λ net. net < length p.netlist.nets) (nets_of whole.inputs whole.cells)
  nets-within = All-from_members (λ net. net < length p.netlist.nets) (nets_of whole.inputs whole.cells) (λ net m.
      let (i, le, in_stage) = (chained p shape laid.0 laid.1 (suc k) lt).nets net m in
      laid.1.stage_within i net (let many = laid.1.as_many in omega (arith, le, lt, many)) in_stage)

  joints-many : length (followers front.outputs s.inputs) ≡ 2 * length s.inputs
  joints-many = followers-many front.outputs s.inputs can-follow-here.many

  -- how many gates it has
  cells-many : length whole.cells ≡ length front.cells + (2 * length s.inputs + length s.cells)
  cells-many =
      ap (λ (t : StageData). length t.cells) same
      ∙ length-append front.cells (followers front.outputs s.inputs ++ map by_net s.cells)
      ∙ ap (λ n. length front.cells + n) (length-append (followers front.outputs s.inputs) (map by_net s.cells) ∙ (λ i. joints-many i + length-map s.cells by_net i))

  pub ends-with : EndsWith whole s
  ends-with = record { cells = let many = cells-many in omega (arith, many); outputs = ap (λ (t : StageData). t.outputs) same }

  -- the places of what is asked
  rail0-at : (bit : ℕ) → bit < length s.inputs → rail0_place whole s bit ≡ length front.cells + 2 * bit
  rail0-at bit within = let many = cells-many in omega (arith, many, within)

  rail1-at : (bit : ℕ) → bit < length s.inputs → rail1_place whole s bit ≡ length front.cells + (2 * bit + 1)
  rail1-at bit within = let many = cells-many in omega (arith, many, within)

  gate-at : (place : ℕ) → gate_place whole s place ≡ length front.cells + (length (followers front.outputs s.inputs) + place)
  gate-at place = let many = cells-many in let joints = joints-many in omega (arith, many, joints)

  module _ (sound : AreSoundWhereReached p k) where
    module _ (input : List Bool) (wide : length input ≡ length p.inputs) where
      hands : HandsOn p shape laid.0 laid.1 input wide k
      hands = hands-on p shape laid.0 laid.1 input wide k (omega (arith, lt)) (λ i t before at_i. sound input wide i t before at_i)

      wide_k : length input ≡ length front.inputs
      wide_k = wide ∙ sym (ap (λ (bits : List Rails). length bits) front-inputs)

      brought : stage_function front input ≡ brings p.stages k input
      brought = hands.makes ∙ word-brought p shape laid.0 laid.1 input wide k (omega (arith, lt))

      there_shown : (fault : StageFault) → shows s (stage_function front input) fault ≡ brings_fault p k s fault input
      there_shown fault = ap (λ w. shows s w fault) brought

      both-here : (output : ℕ) → shows whole input (BothRails output) ≡ brings_fault p k s (BothRails output) input
      both-here output = ap (λ t. shows t input (BothRails output)) same ∙ shows-both front s can-follow-here input wide_k hands.ones output ∙ there_shown (BothRails output)

      none-here : (output : ℕ) → shows whole input (NoRail output) ≡ brings_fault p k s (NoRail output) input
      none-here output = ap (λ t. shows t input (NoRail output)) same ∙ shows-none front s can-follow-here input wide_k hands.ones output ∙ there_shown (NoRail output)

      incomplete-here : (bit : ℕ) → bit < length s.inputs → (shows whole input (Orphan (rail0_place whole s bit)) || shows whole input (Orphan (rail1_place whole s bit))) ≡ brings_fault p k s (Incomplete bit) input
      incomplete-here bit within =
          (λ i. shows (same i) input (Orphan (rail0-at bit within i)) || shows (same i) input (Orphan (rail1-at bit within i)))
          ∙ shows-incomplete front s can-follow-here input wide_k hands.ones bit within ∙ there_shown (Incomplete bit)

      orphan-here : (place : ℕ) → place < length s.cells → shows whole input (Orphan (gate_place whole s place)) ≡ brings_fault p k s (Orphan place) input
      orphan-here place within =
          let (g, at_g) = slice_get-some s.cells place within in
          (λ i. shows (same i) input (Orphan (gate-at place i)))
          ∙ shows-orphan front s can-follow-here input wide_k hands.ones place g at_g ∙ there_shown (Orphan place)

      -- the word on the rails of the stage is the one that the input brings
      pub word-here : word_on whole input s.inputs ≡ brings p.stages k input
      word-here = ap (λ (t : StageData). word_on t input s.inputs) same ∙ word-followed front s can-follow-here input wide_k hands.ones ∙ brought

    words-are : words_by (ascending whole) ≡ words (length p.inputs)
    words-are = words_by-ascending (length whole.inputs) ∙ ap (λ (bits : List Rails). words (length bits)) whole-inputs

    find-here : (test : List Bool → Bool) (fault : StageFault) → ((input : List Bool) → length input ≡ length p.inputs → test input ≡ brings_fault p k s fault input) → find test (words_by (ascending whole)) ≡ least_bringing p k s fault
    find-here test fault each = ap (find test) words-are ∙ find-same (length p.inputs) test (brings_fault p k s fault) each

    -- what is asked of the chain is which input brings the fault
    pub inputs-are : (fault : StageFault) → IsFaultOf s fault → inputs_of_chain (ascending whole) whole s fault ≡ least_bringing p k s fault
    inputs-are (BothRails output) within = find-here (λ w. shows whole w (BothRails output)) (BothRails output) (λ input wide. both-here input wide output)
    inputs-are (NoRail output) within = find-here (λ w. shows whole w (NoRail output)) (NoRail output) (λ input wide. none-here input wide output)
    inputs-are (Incomplete bit) within =
        let zero_test : List Bool → Bool = λ w. shows whole w (Orphan (rail0_place whole s bit)) in
        let one_test : List Bool → Bool = λ w. shows whole w (Orphan (rail1_place whole s bit)) in
        (λ i. lesser (find zero_test (words-are i)) (find one_test (words-are i)))
        ∙ sym (find-either (length p.inputs) zero_test one_test)
        ∙ find-same (length p.inputs) (λ w. zero_test w || one_test w) (brings_fault p k s (Incomplete bit)) (λ input wide. incomplete-here input wide bit within)
    inputs-are (Orphan place) within = find-here (λ w. shows whole w (Orphan (gate_place whole s place))) (Orphan place) (λ input wide. orphan-here input wide place within)
