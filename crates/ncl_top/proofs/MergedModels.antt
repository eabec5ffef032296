-- What is merged from a netlist that is compiled from models is compiled from them.
use Rattle.ncl_top.proofs.Terms.{All, All-contains, All-from_members, AllZip, Base, Bool, Cell, Compiled, ComputesModel, Contains, Contains-from_Member, Contains-from_slice_get, IsMergedStage, IsPlain, IsSamePipeline, IsSameStage, Keeps, List, Member, Member-filter, Member-from_Contains, Member-map, Merged, Model, NetId, NetlistData, PartCell, PipelineData, Rails, Shape, StageCell, StageData, [], among, ap, arith, cases_Bool, close, eqb-true, false, filter, function_of, here, inl, inr, is_data_register, is_stage_cell, length, length-map, length-range_with_len, list_any, map, member_cases, member_from_list_any, member_of_map, named_rails, names_of_rails, nat_eq, net_named, not, part_of, range_with_len, same-function, same_driver, shape_is_one, slice_get-from_Contains, slice_get-some, slice_get_within, standing, subst, sym, there, true, val, width_of, ℕ, ◌+◌, ◌∙◌, ◌∷◌, ◌≡◌, ◌≤◌}
use Rattle.std.specs.Prelude.{if◌then◌else◌}

-- a stage that is merged from one that computes a model computes it
computes_model : (n m : NetlistData) (model : Model) (s b t : StageData) → ComputesModel model s → IsSameStage s b → IsMergedStage n m b t → ComputesModel model t
computes_model n m model s b t own same merged = record {
  inputs = merged.inputs ∙ ap length (sym same.inputs) ∙ own.inputs;
  outputs =
      sym (length-map t.outputs (λ (r : Rails). val t [] Base r.one.0)) ∙ ap length (merged.function []) ∙ length-map b.outputs (λ (r : Rails). val b [] Base r.one.0)
      ∙ ap length (sym same.outputs) ∙ own.outputs;
  answers = λ word answer gives. merged.function word ∙ sym (same-function s b same word) ∙ own.answers word answer gives;
}

compute_models : (n m : NetlistData) (models : List Model) (xs ys zs : List StageData) → AllZip ComputesModel models xs → AllZip IsSameStage xs ys → AllZip (IsMergedStage n m) ys zs → AllZip ComputesModel models zs
compute_models n m [] [] [] [] a b c = tt
compute_models n m [] [] [] (z ∷ zs) a b c = absurd c
compute_models n m [] [] (y ∷ ys) zs a b c = absurd b
compute_models n m [] (x ∷ xs) ys zs a b c = absurd a
compute_models n m (model ∷ models) [] ys zs a b c = absurd a
compute_models n m (model ∷ models) (x ∷ xs) [] zs a b c = absurd b
compute_models n m (model ∷ models) (x ∷ xs) (y ∷ ys) [] a b c = absurd c
compute_models n m (model ∷ models) (x ∷ xs) (y ∷ ys) (z ∷ zs) (first, rest) (alike, others) (next, last) =
    (computes_model n m model x y z first alike next, compute_models n m models xs ys zs rest others last)

-- what passes a test is of the list
filter_member : {X : Type 0} (test : X → Bool) (xs : List X) (x : X) → Member x (filter test xs) → Member x xs
filter_member test [] x m = m
filter_member test (y ∷ xs) x m =
    elim (cases_Bool (test y)) [
      | inl passes ↦
          elim (member_cases x y (filter test xs) (subst (Member x) (ap (λ b. if b then y ∷ filter test xs else filter test xs) passes) m)) [
            | inl same ↦ subst (λ z. Member z (y ∷ xs)) same here
            | inr later ↦ there (filter_member test xs x later)
          ]
      | inr fails ↦ there (filter_member test xs x (subst (Member x) (ap (λ b. if b then y ∷ filter test xs else filter test xs) fails) m))
    ]

module _ (models : List Model) (p q : PipelineData) (shape_p : Shape p.netlist p) (shape_q : Shape q.netlist q) (keeps : Keeps p q) (few : length q.netlist.cells ≤ length p.netlist.cells) (c : Compiled models p.netlist) where
  same : IsSamePipeline c.pipeline p
  same = shape_is_one p.netlist shape_p.is_netlist c.pipeline p c.shape shape_p

  width : length p.inputs ≡ width_of models
  width =
      ap length (sym same.inputs) ∙ sym (length-map c.pipeline.inputs (names_of_rails p.netlist)) ∙ ap length c.inputs
      ∙ length-map (range_with_len 1 (width_of models)) _ ∙ length-range_with_len 1 (width_of models)

  same_word : (word : List Bool) → function_of c.pipeline word ≡ function_of p word
  same_word word = λ i. map (λ (r : Rails). close (same.netlist i) (among (named_rails (same.inputs i) word)) r.one.0) (same.outputs i)

  -- a cell of a stage is a gate, so it holds no word
  stage_holds_none : (d : Cell) → Member d q.netlist.cells → is_stage_cell q d ≡ true → is_data_register d.kind ≡ false
  stage_holds_none d m-d staged =
      let (t, m-t, some) = member_from_list_any (λ (s : StageData). list_any (λ (g : StageCell). nat_eq g.out.0 d.out.0) s.cells) q.stages staged in
      let (g, m-g, drives) = member_from_list_any (λ (g : StageCell). nat_eq g.out.0 d.out.0) t.cells some in
      let (k, at_t) = slice_get-from_Contains q.stages t (Contains-from_Member t m-t) in
      let within = slice_get_within q.stages k t at_t in
      let count = shape_q.stages in
      let (b, at_b) = slice_get-some q.banks k (omega (arith, within, count)) in
      let (next, at_next) = slice_get-some q.banks (k + 1) (omega (arith, within, count)) in
      let between = (shape_q.each_stage k b next t at_b at_next at_t).1 in
      let (i, at_i) = slice_get-from_Contains t.cells g (Contains-from_Member g m-g) in
      let gate = between.each i g at_i in
      let one : gate.cell ≡ d = same_driver q.netlist shape_q.is_netlist gate.cell d (Contains-from_slice_get q.netlist.cells g.cell.0 gate.cell gate.at) (Contains-from_Member d m-d) (ap (λ (x : NetId). x.0) gate.out ∙ eqb-true g.out.0 d.out.0 drives) in
      ap (λ (z : Cell). is_data_register z.kind) (sym one) ∙ ap is_data_register gate.kind

  -- and all others are cells of the netlist that was compiled
  other_holds_none : (d : Cell) → Member d q.netlist.cells → is_stage_cell q d ≡ false → is_data_register d.kind ≡ false
  other_holds_none d m-d other =
      let there_is : Member (part_of q.netlist.nets d) (standing q) = Member-map (part_of q.netlist.nets) d (Member-filter (λ z. not (is_stage_cell q z)) d m-d (ap not other)) in
      let (b, m-b, part) = member_of_map (part_of p.netlist.nets) (filter (λ z. not (is_stage_cell p z)) p.netlist.cells) (part_of q.netlist.nets d) (subst (Member (part_of q.netlist.nets d)) keeps.standing there_is) in
      let in_n : Member b p.netlist.cells = filter_member (λ z. not (is_stage_cell p z)) p.netlist.cells b m-b in
      ap (λ (z : PartCell). is_data_register z.kind) (sym part) ∙ All-contains (λ (z : Cell). is_data_register z.kind ≡ false) p.netlist.cells b c.no_data (Contains-from_Member b in_n)

  holds_none : All (λ (d : Cell). is_data_register d.kind ≡ false) q.netlist.cells
  holds_none =
      All-from_members (λ (d : Cell). is_data_register d.kind ≡ false) q.netlist.cells (λ d m-d.
      elim (cases_Bool (is_stage_cell q d)) [
        | inl staged ↦ stage_holds_none d m-d staged
        | inr other ↦ other_holds_none d m-d other
      ])

  -- the name of a cell is that of one of the cells that there were
  named_before : (d : Cell) → Contains q.netlist.cells d → (b : Cell) × Contains p.netlist.cells b × (b.name ≡ d.name)
  named_before d in_d =
      let named = All-contains (λ (z : Cell). Contains (map (λ (b : Cell). b.name) p.netlist.cells) z.name) q.netlist.cells d keeps.cell_names in_d in
      let (b, m-b, e) = member_of_map (λ (b : Cell). b.name) p.netlist.cells d.name (Member-from_Contains (map (λ (b : Cell). b.name) p.netlist.cells) d.name named) in
      (b, Contains-from_Member b m-b, e)

  net_before : (x : List ℕ) → Contains q.netlist.nets x → Contains p.netlist.nets x
  net_before x in_x = All-contains (Contains p.netlist.nets) q.netlist.nets x keeps.net_names in_x

  compiled_kept : Compiled models q.netlist
  compiled_kept = record {
    pipeline = q;
    shape = shape_q;
    stages = compute_models p.netlist q.netlist models c.pipeline.stages p.stages q.stages c.stages same.stages keeps.stages;
    sound = keeps.sound;
    function = λ word answer wide computes.
        keeps.function word (wide ∙ sym width)
        ∙ sym (same_word word)
        ∙ c.function word answer wide computes;
    no_data = holds_none;
    title = keeps.title ∙ c.title;
    ports = keeps.ports ∙ c.ports;
    inputs = keeps.inputs ∙ ap (map (names_of_rails p.netlist)) (sym same.inputs) ∙ c.inputs;
    outputs = keeps.outputs ∙ ap (map (names_of_rails p.netlist)) (sym same.outputs) ∙ c.outputs;
    ki = keeps.ki ∙ ap (net_named p.netlist) (sym same.ki) ∙ c.ki;
    ko = keeps.ko ∙ ap (net_named p.netlist) (sym same.ko) ∙ c.ko;
    plain_module = subst IsPlain (sym keeps.title) c.plain_module;
    plain_nets = All-from_members IsPlain q.netlist.nets (λ x m-x. All-contains IsPlain p.netlist.nets x c.plain_nets (net_before x (Contains-from_Member x m-x)));
    plain_cells = All-from_members (λ (d : Cell). IsPlain d.name) q.netlist.cells (λ d m-d.
        let (b, in_b, e) = named_before d (Contains-from_Member d m-d) in
        subst IsPlain e (All-contains (λ (z : Cell). IsPlain z.name) p.netlist.cells b c.plain_cells in_b));
    apart = λ d in_d in_nets.
        let (b, in_b, e) = named_before d in_d in
        c.apart b in_b (subst (Contains p.netlist.nets) (sym e) (net_before d.name in_nets));
    few_cells = let before = c.few_cells in omega (arith, few, before);
    short = let before = c.short in let kept = keeps.short in omega (arith, before, kept);
  }

pub compiled_merged : (models : List Model) (n m : NetlistData) → Compiled models n → Merged n m → Compiled models m
compiled_merged models n m c merged =
    let p = merged.before in
    let q = merged.after in
    let own : p.netlist ≡ n = merged.shape_before.netlist in
    let goes : q.netlist ≡ m = merged.shape.netlist in
    let few : length q.netlist.cells ≤ length p.netlist.cells = (let less = merged.few in let a = ap (λ (k : NetlistData). length k.cells) own in let b = ap (λ (k : NetlistData). length k.cells) goes in omega (arith, less, a, b)) in
    subst (Compiled models) goes
    (compiled_kept models p q (subst (λ k. Shape k p) (sym own) merged.shape_before) (subst (λ k. Shape k q) (sym goes) merged.shape) merged.keeps few (subst (Compiled models) (sym own) c))
