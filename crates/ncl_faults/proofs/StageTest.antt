-- A test for stages that computes: where it passes, the data are a stage.
use Rattle.ncl_faults.proofs.Terms.{All-from_members, AllPairs, Bool, Contains, Contains-from_Member, IsStage, List, Member, Member-get_or, NetId, Reads, StageCell, StageData, [], among, and_parts, append-nil, arith, arity_of, both_ways, eq-eqb, eqb-true, get_or, leb, leb-true, length, length-map, list_all, list_all-member, list_any-from_member, map, member_from_list_any, nat_eq, nets_of, not, not-true, out_of, rail_nets, refl, subst, suc, sym, true, zero, ℕ, ◌&&◌, ◌++◌, ◌<◌, ◌∷◌, ◌≡◌, ◌≢◌}
use Rattle.std.proofs.lemmas.List.{append_assoc}

-- no two of the keys are equal
abbrev are_distinct : List ℕ → Bool
are_distinct [] = true
are_distinct (x ∷ xs) = not (among xs x) && are_distinct xs

-- each cell reads nets that are known before it
abbrev reads_known : List ℕ → List StageCell → Bool
reads_known nets [] = true
reads_known nets (c ∷ cells) = list_all (λ (net : NetId). among nets net.0) c.ins.items && reads_known (nets ++ out_of c ∷ []) cells

abbrev number_of_cell : StageCell → ℕ
number_of_cell c = c.cell.0

abbrev between : ℕ → Bool
between n = leb 1 n && leb n 128

-- the test
abbrev pub is_stage : StageData → Bool
is_stage s =
    between (length s.inputs) && (between (length s.outputs)
    && (are_distinct (nets_of s.inputs s.cells) && (are_distinct (map number_of_cell s.cells)
    && (list_all (λ (c : StageCell). nat_eq (length c.ins.items) (arity_of c.kind)) s.cells
    && (reads_known (rail_nets s.inputs) s.cells
    && list_all (λ net. among (nets_of s.inputs s.cells) net) (rail_nets s.outputs))))))

contains : (nets : List ℕ) (net : ℕ) → among nets net ≡ true → Contains nets net
contains nets net high = let (x, m, at) = member_from_list_any (nat_eq net) nets high in Contains-from_Member net (subst (λ y. Member y nets) (sym (eqb-true net x at)) m)

distinct : (xs : List ℕ) → are_distinct xs ≡ true → AllPairs (λ x y. x ≢ y) xs
distinct [] passes i j d before within = absurd (omega arith)
distinct (x ∷ xs) passes i zero d before within = absurd (omega arith)
distinct (x ∷ xs) passes zero (suc j) d before within =
    λ same. both_ways (among xs x) (not-true _ (and_parts (not (among xs x)) (are_distinct xs) passes).0)
    (list_any-from_member (nat_eq x) (get_or xs j d) (Member-get_or xs j d (omega arith)) (eq-eqb x (get_or xs j d) same))
distinct (x ∷ xs) passes (suc i) (suc j) d before within = distinct xs (and_parts (not (among xs x)) (are_distinct xs) passes).1 i j d (omega arith) (omega arith)

numbers_differ : (cells : List StageCell) → AllPairs (λ x y. x ≢ y) (map number_of_cell cells) → AllPairs (λ (x y : StageCell). x.cell.0 ≢ y.cell.0) cells
numbers_differ cells pairs i j d before within =
    subst (λ k. k ≢ (get_or cells j d).cell.0) (mapped i) (subst (λ k. get_or (map number_of_cell cells) i (number_of_cell d) ≢ k) (mapped j)
    (pairs i j (number_of_cell d) before (subst (λ n. j < n) (sym (length-map cells number_of_cell)) within)))
  where
    mapped : (k : ℕ) → get_or (map number_of_cell cells) k (number_of_cell d) ≡ (get_or cells k d).cell.0
    mapped k = go cells k
      where
        go : (cs : List StageCell) (n : ℕ) → get_or (map number_of_cell cs) n (number_of_cell d) ≡ (get_or cs n d).cell.0
        go [] n = refl
        go (c ∷ cs) zero = refl
        go (c ∷ cs) (suc n) = go cs n

-- the cells in order: each reads what is known before it
in_order : (nets : List ℕ) (before after : List StageCell) (cell : StageCell) → reads_known nets (before ++ cell ∷ after) ≡ true → Reads (nets ++ map out_of before) cell
in_order nets [] after cell passes =
    subst (λ known. Reads known cell) (sym (append-nil nets))
    (All-from_members (λ (net : NetId). Contains nets net.0) cell.ins.items (λ net m. contains nets net.0 (list_all-member (λ (net : NetId). among nets net.0) cell.ins.items (and_parts _ _ passes).0 net m)))
in_order nets (c ∷ before) after cell passes =
    subst (λ known. Reads known cell) (append_assoc nets (out_of c ∷ []) (map out_of before))
    (in_order (nets ++ out_of c ∷ []) before after cell (and_parts (list_all (λ (net : NetId). among nets net.0) c.ins.items) _ passes).1)

-- where the test passes, the data are a stage
pub IsStage-from_test : (s : StageData) → is_stage s ≡ true → IsStage s
IsStage-from_test s passes =
    let (inputs, p1) = and_parts (between (length s.inputs)) _ passes in
    let (outputs, p2) = and_parts (between (length s.outputs)) _ p1 in
    let (nets, p3) = and_parts (are_distinct (nets_of s.inputs s.cells)) _ p2 in
    let (numbers, p4) = and_parts (are_distinct (map number_of_cell s.cells)) _ p3 in
    let (arities, p5) = and_parts (list_all (λ (c : StageCell). nat_eq (length c.ins.items) (arity_of c.kind)) s.cells) _ p4 in
    let (order, known) = and_parts (reads_known (rail_nets s.inputs) s.cells) _ p5 in
    record {
      some_inputs = leb-true 1 (length s.inputs) (and_parts (leb 1 (length s.inputs)) _ inputs).0;
      few_inputs = leb-true (length s.inputs) 128 (and_parts (leb 1 (length s.inputs)) _ inputs).1;
      some_outputs = leb-true 1 (length s.outputs) (and_parts (leb 1 (length s.outputs)) _ outputs).0;
      few_outputs = leb-true (length s.outputs) 128 (and_parts (leb 1 (length s.outputs)) _ outputs).1;
      nets_differ = distinct (nets_of s.inputs s.cells) nets;
      cells_differ = numbers_differ s.cells (distinct (map number_of_cell s.cells) numbers);
      arities = All-from_members (λ (c : StageCell). length c.ins.items ≡ arity_of c.kind) s.cells (λ c m. eqb-true _ _ (list_all-member (λ (c : StageCell). nat_eq (length c.ins.items) (arity_of c.kind)) s.cells arities c m));
      in_order = λ before after cell parts. in_order (rail_nets s.inputs) before after cell (subst (λ cells. reads_known (rail_nets s.inputs) cells ≡ true) parts order);
      outputs_known = All-from_members (λ net. Contains (nets_of s.inputs s.cells) net) (rail_nets s.outputs) (λ net m. contains (nets_of s.inputs s.cells) net (list_all-member (λ net. among (nets_of s.inputs s.cells) net) (rail_nets s.outputs) known net m));
    }
