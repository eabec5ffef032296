-- The tables and the count of a stage do not depend on the order in which its cells are listed.
use Rattle.ncl_stage.proofs.Terms.{Base, IsPermutation, IsPermutation-append, IsPermutation-append_left, IsPermutation-append_right, IsPermutation-map, List, None, Option, Some, StageCell, StageData, ValuesAt, Variant, [], all_data_function, ap, bead_count-permuted, bit_order, count, data_fronts, data_functions, fun_ext, functions_of, length, map, net_functions, nets_of, orphan_function, out_of, question_functions, rail_nets, refl, slice_get, subst, table_of, tables_of, val, words_by, ◌&&◌, ◌++◌, ◌∙◌, ◌∷◌, ◌≡◌, IsSameVariant, base, bit, cell, same_values, with_cells}

module _ (s : StageData) (ys : List StageCell) (moved : IsPermutation s.cells ys) where
  abbrev t : StageData
  t = with_cells s ys

  same_orphan : (o : Option StageCell) (v : ValuesAt) → orphan_function s o v ≡ orphan_function t o v
  same_orphan None v = refl
  same_orphan (Some c) v = ap (λ (values : ValuesAt). (λ word. values word c.out.0 && all_data_function s v word) ∷ []) (fun_ext (same_values s ys moved Base Base base))

  same_questions : (x y : Variant) → IsSameVariant s t x y → (v : ValuesAt) → question_functions s x v ≡ question_functions t y v
  same_questions x y base v = refl
  same_questions x y (bit b) v = refl
  same_questions x y (cell i j same) v = same_orphan (slice_get s.cells i) v ∙ ap (λ o. orphan_function t o v) same

  -- the functions of a variant, but for their order
  functions-permuted : (x y : Variant) → IsSameVariant s t x y → IsPermutation (functions_of s x) (functions_of t y)
  functions-permuted x y same =
      let v : ValuesAt = λ word. val s word x in
      let values : v ≡ (λ word. val t word y) = fun_ext (same_values s ys moved x y same) in
      let nets = IsPermutation-map (λ net. λ word. v word net) (nets_of s.inputs s.cells) (nets_of s.inputs ys)
      (IsPermutation-append_right (rail_nets s.inputs) (map out_of s.cells) (map out_of ys) (IsPermutation-map out_of s.cells ys moved)) in
      let with_data = IsPermutation-append_left (data_functions s v) (net_functions s v) (net_functions t v) nets in
      let with_fronts = IsPermutation-append_left (data_fronts s v) (net_functions s v ++ data_functions s v) (net_functions t v ++ data_functions s v) with_data in
      subst (λ (w : ValuesAt). IsPermutation (functions_of s x) (net_functions t w ++ data_functions s w ++ data_fronts s w ++ question_functions t y w)) values
      (subst (λ questions. IsPermutation (functions_of s x) (net_functions t v ++ data_functions s v ++ data_fronts s v ++ questions)) (same_questions x y same v)
      (IsPermutation-append_left (question_functions s x v) (net_functions s v ++ data_functions s v ++ data_fronts s v) (net_functions t v ++ data_functions s v ++ data_fronts s v) with_fronts))

  tables-permuted : bit_order s ≡ bit_order t → (x y : Variant) → IsSameVariant s t x y → IsPermutation (tables_of s x) (tables_of t y)
  tables-permuted order x y same = subst (λ o. IsPermutation (tables_of s x) (map (table_of (words_by o)) (functions_of t y))) order (IsPermutation-map (table_of (words_by (bit_order s))) (functions_of s x) (functions_of t y) (functions-permuted x y same))

  pub same_count : bit_order s ≡ bit_order t → (x y : Variant) → IsSameVariant s t x y → count s x ≡ count t y
  same_count order x y same =
      bead_count-permuted (length s.inputs) (tables_of s Base ++ tables_of s x) (tables_of t Base ++ tables_of t y)
      (IsPermutation-append (tables_of s Base) (tables_of t Base) (tables_of s x) (tables_of t y) (tables-permuted order Base Base base) (tables-permuted order x y same))
