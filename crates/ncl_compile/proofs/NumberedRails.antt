-- How numbered banks and stages are joined: each bank reads what the stage before it gives, drives what the stage after
-- it takes, and is requested by the root of the next.
use Rattle.ncl_compile.proofs.Terms.{BankParts, List, Member, Model, NamePair, Rails, StageData, StageParts, WiredBank, WiredBit, [], answer_width, ap, arith, at_of_map, below_of_range, codes, cond-false, cond-true, eq-eqb, fill_by_all, get_or, inner_pairs, input_pairs, length, length-map, length-map-range_with_len, map, map-map, map-range_with_len_more, map-same, named_pair, ne_eqb, output_pairs, outputs_of, pairs_driven, pairs_read, rails_driven, rails_read, range_with_len, refl, request_name, root_name, same_from_lengths, slice_get, slice_index, suc, sym, width_of, widths_of, zero, ℕ, ◌++◌, ◌+◌, ◌==◌, ◌∙◌, ◌∷◌, ◌≡◌}
use Rattle.ncl_compile.proofs.Numbering.{no_pair, numbered_bit, banks_from, stages_from}
use Rattle.ncl_compile.proofs.NumberedBanks.{place_in_range}
use Rattle.ncl_compile.proofs.NumberedRows.{AreFacts, first_fact, rest_facts}

-- a function of numbers in a row, from one later on
map-later : {Y : Type 0} (f : ℕ → Y) (a count : ℕ) → map f (range_with_len (a + 1) count) ≡ map (λ k. f (suc k)) (range_with_len a count)
map-later f a zero = refl
map-later f a (suc count) =
    let place : a + 1 ≡ suc a = omega arith in
    (λ i. f (place i) ∷ map-later f (a + 1) count i)

-- the pairs of a list by their places
pairs_by_place : (number : List ℕ → ℕ) (pairs : List NamePair) (width : ℕ) → length pairs ≡ width → map (λ j. named_pair number (get_or pairs j no_pair)) (range_with_len 0 width) ≡ map (named_pair number) pairs
pairs_by_place number pairs width long =
    sym (map-map (λ j. get_or pairs j no_pair) (named_pair number) (range_with_len 0 width))
    ∙ ap (map (named_pair number)) (sym (fill_by_all (λ j. get_or pairs j no_pair) pairs width no_pair long (λ k lt. refl)))

module _ (number : List ℕ → ℕ) (models : List Model) (stages : List StageParts) where
  abbrev width_at : ℕ → ℕ
  width_at k = slice_index (widths_of models) k

  abbrev read_at : ℕ → List Rails
  read_at k = map (named_pair number) (pairs_read (width_of models) stages k)

  abbrev driven_at : ℕ → List Rails
  driven_at k = map (named_pair number) (pairs_driven (length models) k (width_at k))

  -- what banks read and drive, by their numbers
  banks_read : (k first : ℕ) (banks : List BankParts) → AreFacts number models stages k banks → map rails_read (banks_from number models stages k first banks) ≡ map read_at (range_with_len k (length banks))
  banks_read k first [] facts = refl
  banks_read k first (bank ∷ banks) facts =
      let fact = first_fact number models stages k bank banks facts in
      let bit_of = numbered_bit number first (width_at k) (pairs_read (width_of models) stages k) (pairs_driven (length models) k (width_at k)) bank.cells in
      let one = map-map bit_of (λ (w : WiredBit). w.from) (range_with_len 0 (width_at k)) ∙ pairs_by_place number (pairs_read (width_of models) stages k) (width_at k) fact.long_ins in
      let next : suc k ≡ k + 1 = omega arith in
      let rest = banks_read (suc k) (first + length bank.cells) banks (rest_facts number models stages k bank banks facts) ∙ ap (λ z. map read_at (range_with_len z (length banks))) next in
      λ i. one i ∷ rest i

  banks_drive : (k first : ℕ) (banks : List BankParts) → AreFacts number models stages k banks → map rails_driven (banks_from number models stages k first banks) ≡ map driven_at (range_with_len k (length banks))
  banks_drive k first [] facts = refl
  banks_drive k first (bank ∷ banks) facts =
      let fact = first_fact number models stages k bank banks facts in
      let bit_of = numbered_bit number first (width_at k) (pairs_read (width_of models) stages k) (pairs_driven (length models) k (width_at k)) bank.cells in
      let one = map-map bit_of (λ (w : WiredBit). w.to) (range_with_len 0 (width_at k)) ∙ pairs_by_place number (pairs_driven (length models) k (width_at k)) (width_at k) fact.long_outs in
      let next : suc k ≡ k + 1 = omega arith in
      let rest = banks_drive (suc k) (first + length bank.cells) banks (rest_facts number models stages k bank banks facts) ∙ ap (λ z. map driven_at (range_with_len z (length banks))) next in
      λ i. one i ∷ rest i

  banks_root : (k first : ℕ) (banks : List BankParts) → map (λ (b : WiredBank). b.root.0) (banks_from number models stages k first banks) ≡ map (λ i. number (root_name i)) (range_with_len k (length banks))
  banks_root k first [] = refl
  banks_root k first (bank ∷ banks) =
      let next : suc k ≡ k + 1 = omega arith in
      ap (λ l. number (root_name k) ∷ l) (banks_root (suc k) (first + length bank.cells) banks ∙ ap (λ z. map (λ i. number (root_name i)) (range_with_len z (length banks))) next)

  banks_request : (k first : ℕ) (banks : List BankParts) → map (λ (b : WiredBank). b.request.0) (banks_from number models stages k first banks) ≡ map (λ i. number (request_name (length models) i)) (range_with_len k (length banks))
  banks_request k first [] = refl
  banks_request k first (bank ∷ banks) =
      let next : suc k ≡ k + 1 = omega arith in
      ap (λ l. number (request_name (length models) k) ∷ l) (banks_request (suc k) (first + length bank.cells) banks ∙ ap (λ z. map (λ i. number (request_name (length models) i)) (range_with_len z (length banks))) next)

  -- what stages take and give
  stages_take : (k first : ℕ) (list : List StageParts) → map (λ (s : StageData). s.inputs) (stages_from number models stages k first list) ≡ map (λ i. map (named_pair number) (inner_pairs i (width_at i))) (range_with_len k (length list))
  stages_take k first [] = refl
  stages_take k first (stage ∷ list) =
      let next : suc k ≡ k + 1 = omega arith in
      ap (λ l. map (named_pair number) (inner_pairs k (width_at k)) ∷ l) (stages_take (suc k) (first + length stage.cells) list ∙ ap (λ z. map (λ i. map (named_pair number) (inner_pairs i (width_at i))) (range_with_len z (length list))) next)

  stages_give : (k first : ℕ) (list : List StageParts) → map (λ (s : StageData). s.outputs) (stages_from number models stages k first list) ≡ map (λ (stage : StageParts). map (named_pair number) stage.outputs) list
  stages_give k first [] = refl
  stages_give k first (stage ∷ list) = ap (λ l. map (named_pair number) stage.outputs ∷ l) (stages_give (suc k) (first + length stage.cells) list)

  -- what the banks after stages read
  reads_outputs : map (λ k. read_at (suc k)) (range_with_len 0 (length stages)) ≡ map (λ (stage : StageParts). map (named_pair number) stage.outputs) stages
  reads_outputs =
      same_from_lengths (map (λ k. read_at (suc k)) (range_with_len 0 (length stages))) (map (λ (stage : StageParts). map (named_pair number) stage.outputs) stages)
      (omega (arith, length-map-range_with_len (λ k. read_at (suc k)) 0 (length stages), length-map stages (λ (stage : StageParts). map (named_pair number) stage.outputs)))
      (λ j x y at_x at_y.
      let (i, at_i, is_x) = at_of_map (λ k. read_at (suc k)) (range_with_len 0 (length stages)) j x at_x in
      let (stage, at_stage, is_y) = at_of_map (λ (stage : StageParts). map (named_pair number) stage.outputs) stages j y at_y in
      let place = place_in_range (length stages) j i at_i in
      sym is_x ∙ ap (λ k. map (named_pair number) (outputs_of (slice_get stages k))) place ∙ ap (λ o. map (named_pair number) (outputs_of o)) at_stage ∙ is_y)

  module _ (banks : List BankParts) (facts : AreFacts number models stages 0 banks) (as_many : length banks ≡ suc (length stages)) (with_models : length stages ≡ length models) (start : ℕ) where
    abbrev wired : List WiredBank
    wired = banks_from number models stages 0 0 banks

    abbrev staged : List StageData
    staged = stages_from number models stages 0 start stages

    pub rails_in : map rails_read wired ≡ map (named_pair number) (input_pairs (width_of models)) ∷ map (λ (s : StageData). s.outputs) staged
    rails_in =
        banks_read 0 0 banks facts ∙ ap (λ z. map read_at (range_with_len 0 z)) as_many
        ∙ ap (λ l. map (named_pair number) (input_pairs (width_of models)) ∷ l) (map-later read_at 0 (length stages) ∙ reads_outputs ∙ sym (stages_give 0 start stages))

    -- a bank that is not the last drives inner rails, and the last the outputs
    inner : (k : ℕ) → Member k (range_with_len 0 (length stages)) → driven_at k ≡ map (named_pair number) (inner_pairs k (width_at k))
    inner k m =
        let lt = below_of_range 0 (length stages) k m in
        let other = ne_eqb k (length models) (λ e. absurd (omega (arith, lt, e, with_models))) in
        ap (map (named_pair number)) (cond-false (k == length models) (output_pairs (width_at k)) (inner_pairs k (width_at k)) other)

    last : driven_at (length stages) ≡ map (named_pair number) (output_pairs (answer_width models))
    last =
        ap driven_at with_models ∙ ap (map (named_pair number)) (cond-true (length models == length models) (output_pairs (width_at (length models))) (inner_pairs (length models) (width_at (length models))) (eq-eqb (length models) (length models) refl))

    pub rails_out : map rails_driven wired ≡ map (λ (s : StageData). s.inputs) staged ++ map (named_pair number) (output_pairs (answer_width models)) ∷ []
    rails_out =
        let count : suc (length stages) ≡ length stages + 1 = omega arith in
        banks_drive 0 0 banks facts ∙ ap (λ z. map driven_at (range_with_len 0 z)) (as_many ∙ count)
        ∙ map-range_with_len_more driven_at 0 (length stages) (length stages) (omega arith)
        ∙ (λ i. (map-same driven_at (λ k. map (named_pair number) (inner_pairs k (width_at k))) (range_with_len 0 (length stages)) inner ∙ sym (stages_take 0 start stages)) i ++ last i ∷ [])

    -- each bank but the last is requested by the root of the next
    requested : (k : ℕ) → Member k (range_with_len 0 (length stages)) → number (root_name (suc k)) ≡ number (request_name (length models) k)
    requested k m =
        let lt = below_of_range 0 (length stages) k m in
        let other = ne_eqb k (length models) (λ e. absurd (omega (arith, lt, e, with_models))) in
        ap number (sym (cond-false (k == length models) (codes "ki") (root_name (suc k)) other))

    by_ki : number (codes "ki") ≡ number (request_name (length models) (length stages))
    by_ki = ap number (sym (cond-true (length stages == length models) (codes "ki") (root_name (suc (length stages))) (eq-eqb (length stages) (length models) with_models)))

    pub roots : map (λ (b : WiredBank). b.root.0) wired ++ number (codes "ki") ∷ [] ≡ number (codes "ko") ∷ map (λ (b : WiredBank). b.request.0) wired
    roots =
        let count : suc (length stages) ≡ length stages + 1 = omega arith in
        let later = map-later (λ i. number (root_name i)) 0 (length stages) ∙ map-same (λ k. number (root_name (suc k))) (λ k. number (request_name (length models) k)) (range_with_len 0 (length stages)) requested in
        let requests = banks_request 0 0 banks ∙ ap (λ z. map (λ i. number (request_name (length models) i)) (range_with_len 0 z)) (as_many ∙ count) ∙ map-range_with_len_more (λ i. number (request_name (length models) i)) 0 (length stages) (length stages) (omega arith) in
        ap (λ l. l ++ number (codes "ki") ∷ []) (banks_root 0 0 banks ∙ ap (λ z. map (λ i. number (root_name i)) (range_with_len 0 z)) as_many)
        ∙ (λ i. number (codes "ko") ∷ (later i ++ by_ki i ∷ []))
        ∙ ap (λ l. number (codes "ko") ∷ l) (sym requests)
