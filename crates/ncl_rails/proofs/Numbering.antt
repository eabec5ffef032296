-- Where the names of gates are numbered, the gates are a stage of the same gates.
use Rattle.ncl_rails.proofs.Terms.{All, All-from_members, AllPairs, AllZip, AllZip-back, CellKind, Contains, Contains-from_Member, Contains-from_slice_get, Gate, IsInOrder, IsNumbered, IsNumberedStage, IsOneToOne, IsRenamedCell, IsStage, Kind, List, MOST_BITS, Member, Member-get_or, NamePair, NetId, Rails, StageCell, StageData, [], ap, arith, arity_of, get_or, get_or-map, input_pairs, known-renamed, length, length-map, map, member_of_map, name_of_net, name_of_pair, named_net, named_pair, nets-renamed, nets_of, pair_names, part_of_gate, rail_nets, rail_nets-renamed, refl, renamed_net, renamed_rails, slice_get-from_Contains, subst, sym, zip_split, ℕ, ◌<◌, ◌∙◌, ◌∷◌, ◌≡◌, ◌≢◌, ◌≤◌}
use Rattle.ncl_rails.proofs.Lists.{at_member}
use Rattle.ncl_rails.proofs.NetNames.{inputs_named}
use Rattle.ncl_rails.proofs.GateNames.{gate_inputs, gate_output}
use Rattle.ncl_rails.proofs.Renaming.{IsRenamed}

-- ---- the same gates

module _ (number : List ℕ → ℕ) (names : List (List ℕ)) (prefix : List ℕ) where
  -- the number of the name of a net
  unfoldable pub renumber : ℕ → ℕ
  renumber net = number (name_of_net names prefix net)

  same_kind : (a b : Kind) → ◌≡◌ {A = CellKind} (Gate a) (Gate b) → b ≡ a
  same_kind a b e = cc

  map-twice : (nets : List NetId) → map (named_net number) (map (λ (net : NetId). name_of_net names prefix net.0) nets) ≡ map (renamed_net renumber) nets
  unfolding renumber
  map-twice [] = refl
  map-twice (net ∷ nets) = ap (λ rest. renamed_net renumber net ∷ rest) (map-twice nets)

  same_gate : (c other : StageCell) → IsNumbered number (part_of_gate names prefix c) other → IsRenamedCell renumber c other
  unfolding renumber
  same_gate c other is = record {
    kind = same_kind c.kind other.kind is.kind;
    ins = is.ins ∙ ap (map (named_net number)) (gate_inputs names prefix c) ∙ map-twice c.ins.items;
    out = is.out ∙ ap (named_net number) (gate_output names prefix c);
  }

  same_gates : (cells others : List StageCell) → AllZip (IsNumbered number) (map (part_of_gate names prefix) cells) others → AllZip (IsRenamedCell renumber) cells others
  same_gates [] [] zip = tt
  same_gates [] (other ∷ others) zip = absurd zip
  same_gates (c ∷ cells) [] zip = absurd zip
  same_gates (c ∷ cells) (other ∷ others) zip = (same_gate c other zip.0, same_gates cells others zip.1)

  same_pairs : (pairs : List Rails) → map (named_pair number) (map (name_of_pair names prefix) pairs) ≡ map (renamed_rails renumber) pairs
  unfolding renumber
  same_pairs [] = refl
  same_pairs (r ∷ pairs) = ap (λ rest. renamed_rails renumber r ∷ rest) (same_pairs pairs)

-- a numbered stage of gates by names is one of the same gates
pub IsRenamed-numbered : (number : List ℕ → ℕ) (ins : List NamePair) (prefix : List ℕ) (n : ℕ) → length ins ≡ n → (cells : List StageCell) (outs : List Rails) (s : StageData) → IsNumberedStage number ins (map (name_of_pair (pair_names ins) prefix) outs) (map (part_of_gate (pair_names ins) prefix) cells) s → IsRenamed (renumber number (pair_names ins) prefix) (input_pairs n) cells outs s
IsRenamed-numbered number ins prefix n count cells outs s is = record {
  inputs = is.inputs ∙ ap (map (named_pair number)) (sym (inputs_named ins prefix n count)) ∙ same_pairs number (pair_names ins) prefix (input_pairs n);
  cells = same_gates number (pair_names ins) prefix cells s.cells is.each;
  outputs = is.outputs ∙ same_pairs number (pair_names ins) prefix outs;
}

-- ---- it is a stage

module _ (number : ℕ → ℕ) (inputs : List Rails) (cells : List StageCell) (outs : List Rails) (s : StageData) (same : IsRenamed number inputs cells outs s) where
  stage_nets : (some : List StageCell) (others : List StageCell) → AllZip (IsRenamedCell number) some others → nets_of s.inputs others ≡ map number (nets_of inputs some)
  stage_nets some others zip = ap (λ rs. nets_of rs others) same.inputs ∙ nets-renamed number inputs some others zip

  pub IsStage-renamed : 1 ≤ length inputs → length inputs ≤ MOST_BITS → 1 ≤ length outs → length outs ≤ MOST_BITS → AllPairs (λ x y. x ≢ y) (map number (nets_of inputs cells)) → AllPairs (λ (x y : StageCell). x.cell.0 ≢ y.cell.0) s.cells → All (λ (c : StageCell). length c.ins.items ≡ arity_of c.kind) cells → IsInOrder inputs cells → ((net : ℕ) → Member net (rail_nets outs) → Contains (nets_of inputs cells) net) → IsStage s
  IsStage-renamed some_in few_in some_out few_out nets_differ cells_differ arities in_order known =
      let count_in : length s.inputs ≡ length inputs = ap length same.inputs ∙ length-map inputs (renamed_rails number) in
      let count_out : length s.outputs ≡ length outs = ap length same.outputs ∙ length-map outs (renamed_rails number) in
      record {
        some_inputs = omega (arith, some_in, count_in);
        few_inputs = omega (arith, few_in, count_in);
        some_outputs = omega (arith, some_out, count_out);
        few_outputs = omega (arith, few_out, count_out);
        nets_differ = subst (AllPairs (λ x y. x ≢ y)) (sym (stage_nets cells s.cells same.cells)) nets_differ;
        cells_differ = cells_differ;
        arities = All-from_members (λ (c : StageCell). length c.ins.items ≡ arity_of c.kind) s.cells (λ other m.
            let (k, at) = slice_get-from_Contains s.cells other (Contains-from_Member other m) in
            let (c, stands, gate) = AllZip-back (IsRenamedCell number) cells s.cells same.cells k other at in
            ap length gate.ins ∙ length-map c.ins.items (renamed_net number) ∙ at_member (λ (c : StageCell). length c.ins.items ≡ arity_of c.kind) cells arities c (Contains-from_slice_get cells k c stands) ∙ ap arity_of (sym gate.kind));
        in_order = λ before after other is.
            let (left, c, right, cut, zip, gate) = zip_split (IsRenamedCell number) cells before other after (subst (AllZip (IsRenamedCell number) cells) is same.cells) in
            subst (λ nets. All (λ (net : NetId). Contains nets net.0) other.ins.items) (sym (stage_nets left before zip))
            (All-from_members (λ (net : NetId). Contains (map number (nets_of inputs left)) net.0) other.ins.items (λ net m.
            let (old, among, named) = member_of_map (renamed_net number) c.ins.items net (subst (Member net) gate.ins m) in
            subst (λ (x : NetId). Contains (map number (nets_of inputs left)) x.0) named
            (known-renamed number (nets_of inputs left) old.0 (at_member (λ (x : NetId). Contains (nets_of inputs left) x.0) c.ins.items (in_order left right c cut) old (Contains-from_Member old among)))));
        outputs_known =
            subst (λ nets. All (Contains nets) (rail_nets s.outputs)) (sym (stage_nets cells s.cells same.cells))
            (subst (λ rs. All (Contains (map number (nets_of inputs cells))) (rail_nets rs)) (sym same.outputs)
            (subst (All (Contains (map number (nets_of inputs cells)))) (sym (rail_nets-renamed number outs))
            (All-from_members (Contains (map number (nets_of inputs cells))) (map number (rail_nets outs)) (λ net m.
            let (old, among, named) = member_of_map number (rail_nets outs) net m in
            subst (Contains (map number (nets_of inputs cells))) named (known-renamed number (nets_of inputs cells) old (known old among))))));
      }

-- ---- numbers that differ

-- names that differ have numbers that differ, where these are one-to-one
pub numbers_differ : (number : List ℕ → ℕ) (names : List (List ℕ)) → AllPairs (λ x y. x ≢ y) names → IsOneToOne number names → AllPairs (λ x y. x ≢ y) (map number names)
numbers_differ number names differ one_to_one i j d before within same =
    let count : length (map number names) ≡ length names = length-map names number in
    let j_in : j < length names = omega (arith, within, count) in
    let i_in : i < length names = omega (arith, before, j_in) in
    differ i j [] before j_in
    (one_to_one (get_or names i []) (get_or names j []) (Contains-from_Member (get_or names i []) (Member-get_or names i [] i_in)) (Contains-from_Member (get_or names j []) (Member-get_or names j [] j_in))
    (sym (get_or-map number names i [] d i_in) ∙ same ∙ get_or-map number names j [] d j_in))
