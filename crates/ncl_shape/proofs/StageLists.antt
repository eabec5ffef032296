-- The stages between the banks, made one by one.
use Rattle.ncl_shape.proofs.Terms.{AllZip, AllZip-at, AreGatesOf, AreStagesOf, Bank, Follows, Global, IsFewBitBank, IsPath, IsStageOf, List, NetlistData, Some, StageCell, StageData, Vec, [], ap, arith, cases_lt, get_or, get_or-map, get_or_append_left, get_or_from_slice_get, get_or_push, inl, inr, length, length-map, length_push, map, slice_get, slice_get-get_or, slice_get_within, subst, suc, sym, ℕ, ◌++◌, ◌+◌, ◌<◌, ◌∙◌, ◌∷◌, ◌≡◌, ◌≤◌}
use Rattle.ncl_shape.proofs.ChainLaws.{follows_at}
use Rattle.ncl_shape.proofs.ShapeLaws.{requests, request_at}
use Rattle.ncl_shape.proofs.ZippedLists.{AllZip-length}

-- the stages of the first banks, of which the last bank of all has none
pub record AreStagesBelow (n : NetlistData) (banks : List Bank) (limit : ℕ) (stages : List StageData) : Type 0 where
  pub few : length stages + 1 ≤ length banks
  pub no_more : length stages ≤ limit
  pub no_less : limit ≤ length stages + 1
  pub whole : length stages + 1 < length banks → length stages ≡ limit
  pub each : (k : ℕ) (b next : Bank) (s : StageData) → slice_get banks k ≡ Some b → slice_get banks (k + 1) ≡ Some next → slice_get stages k ≡ Some s → (s.number ≡ k + 1) × IsStageOf n b next s

-- the bank that is read at a place stands there
pub bank_read : (banks : List Bank) (k : ℕ) (b : Bank) → k < length banks → b ≡ get_or banks k b → slice_get banks k ≡ Some b
bank_read banks k b lt read = slice_get-get_or banks k b lt ∙ ap Some (sym read)

module _ (n : NetlistData) (banks : List Bank) where
  -- what is known of the bank at a place
  pub bank_at : AllZip (IsFewBitBank n) (requests banks) banks → (k : ℕ) (b : Bank) → slice_get banks k ≡ Some b → IsFewBitBank n b.request.0 b
  bank_at are k b at =
      subst (IsFewBitBank n b.request.0) (get_or_from_slice_get banks k b b at) (AllZip-at (IsFewBitBank n) (requests banks) banks are k b.request.0 b (request_at banks k b at))

  -- a bank of a path follows the one before
  pub next_follows : IsPath n (requests banks) → (k : ℕ) (b next : Bank) → slice_get banks k ≡ Some b → slice_get banks (k + 1) ≡ Some next → Follows n b.request.0 next.request.0
  next_follows path k b next at at_next =
      let place : k + 1 ≡ suc k = omega arith in
      let (before, at_before, follows) = follows_at n (requests banks) path k next.request.0 (request_at banks (suc k) next (subst (λ j. slice_get banks j ≡ Some next) place at_next)) in
      let same : Some before ≡ Some b.request.0 = sym at_before ∙ request_at banks k b at in
      let one : before ≡ b.request.0 = cc in
      subst (λ r. Follows n r next.request.0) one follows

  -- the gate cells of the bank at a place, in a list of lists that is used up
  pub gates_at : (gates : List (Vec StageCell Global)) → AllZip (AreGatesOf n) (requests banks) (map (λ l. l.items) gates)
      → (k : ℕ) (b : Bank) (cells : Vec StageCell Global) → slice_get banks k ≡ Some b → k < length gates → cells ≡ get_or gates k cells → AreGatesOf n b.request.0 cells.items
  gates_at gates are k b cells at lt read =
      subst (AreGatesOf n b.request.0) (get_or-map (λ l. l.items) gates k cells [] lt ∙ ap (λ l. l.items) (sym read))
      (AllZip-at (AreGatesOf n) (requests banks) (map (λ l. l.items) gates) are k b.request.0 [] (request_at banks k b at))

  -- as many lists as banks
  pub as_many_lists : (gates : List (Vec StageCell Global)) → AllZip (AreGatesOf n) (requests banks) (map (λ l. l.items) gates) → length gates ≡ length banks
  as_many_lists gates are =
      let lengths = AllZip-length (AreGatesOf n) (requests banks) (map (λ l. l.items) gates) are in
      let of_banks : length (requests banks) ≡ length banks = length-map banks (λ (b : Bank). b.request.0) in
      omega (arith, lengths, of_banks, length-map gates (λ l. l.items))

  -- the stage of a bank that has a next
  pub stages_more : (stages : List StageData) (s : StageData) (limit : ℕ) (b next : Bank) → AreStagesBelow n banks limit stages → slice_get banks (length stages) ≡ Some b → slice_get banks (length stages + 1) ≡ Some next
      → s.number ≡ length stages + 1 → IsStageOf n b next s → AreStagesBelow n banks (limit + 1) (stages ++ s ∷ [])
  stages_more stages s limit b next so_far at at_next number of_s =
      let within = slice_get_within banks (length stages + 1) next at_next in
      let longer = length_push stages s in
      let same = so_far.whole within in
      record {
        few = omega (arith, within, longer);
        no_more = omega (arith, longer, same);
        no_less = omega (arith, longer, same);
        whole = λ more. omega (arith, longer, same);
        each = λ k c d t at_c at_d at_t. elim (cases_lt k (length stages)) [
          | inl less ↦ so_far.each k c d t at_c at_d (older k less t at_t)
          | inr past ↦
              let top = slice_get_within (stages ++ s ∷ []) k t at_t in
              let place : k ≡ length stages = omega (arith, past, top, longer) in
              let is_t : s ≡ t = last k place t at_t in
              let both : Some b ≡ Some c = sym at ∙ ap (slice_get banks) (sym place) ∙ at_c in
              let both_next : Some next ≡ Some d = sym at_next ∙ ap (λ j. slice_get banks (j + 1)) (sym place) ∙ at_d in
              let is_c : b ≡ c = cc in
              let is_d : next ≡ d = cc in
              (sym (ap (λ (x : StageData). x.number) is_t) ∙ number ∙ ap (λ j. j + 1) (sym place), subst (IsStageOf n c d) is_t (subst (λ x. IsStageOf n c x s) is_d (subst (λ x. IsStageOf n x next s) is_c of_s)))
        ];
      }
    where
      older : (k : ℕ) → k < length stages → (t : StageData) → slice_get (stages ++ s ∷ []) k ≡ Some t → slice_get stages k ≡ Some t
      older k less t at_t =
          slice_get-get_or stages k t less ∙ ap Some (sym (get_or_append_left stages (s ∷ []) t k less) ∙ get_or_from_slice_get (stages ++ s ∷ []) k t t at_t)

      last : (k : ℕ) → k ≡ length stages → (t : StageData) → slice_get (stages ++ s ∷ []) k ≡ Some t → s ≡ t
      last k place t at_t = sym (get_or_push stages s t k (sym place)) ∙ get_or_from_slice_get (stages ++ s ∷ []) k t t at_t

  -- the last bank has none
  pub stages_keep : (stages : List StageData) (limit : ℕ) → AreStagesBelow n banks limit stages → limit < length banks → length banks ≤ length stages + 1 → AreStagesBelow n banks (limit + 1) stages
  stages_keep stages limit so_far less ends =
      let few = so_far.few in
      record {
        few = few;
        no_more = let most = so_far.no_more in omega (arith, most);
        no_less = omega (arith, less, ends);
        whole = λ more. absurd (omega (arith, more, ends));
        each = so_far.each;
      }

  pub stages_whole : (stages : List StageData) (limit : ℕ) → AreStagesBelow n banks limit stages → length banks ≤ limit → AreStagesOf n banks stages
  stages_whole stages limit so_far all = record {
    as_many = elim (cases_lt (length stages + 1) (length banks)) [
      | inl more ↦ let same = so_far.whole more in absurd (omega (arith, same, more, all))
      | inr enough ↦ omega (arith, enough, so_far.few)
    ];
    each = so_far.each;
  }
