-- The walk along the banks that follow each other: it is the chain where it meets each bank, and a chain agrees with it.
use Rattle.ncl_shape.proofs.Terms.{All, All-from_members, All-push, AreAllNumbered, AreNumbersOf, Contains-from_slice_get, Follows, HasChain, IsChain, IsFirstBank, IsFree, IsNetlist, IsPath, IsUnforked, IsWalk, List, Member, NetId, NetlistData, Option, Some, [], ap, arith, cases_lt, end, get_or, inl, inr, length, length-map, length_push, map-append, member_cases, next, no_more_than, numbers_of, refl, slice_get, slice_get-end, slice_get-from_Contains, slice_get-get_or, slice_get-kept, slice_get-some, slice_get_within, subst, suc, sym, zero, ℕ, ◌++◌, ◌+◌, ◌<◌, ◌∙◌, ◌∷◌, ◌≡◌, ◌≤◌}
use Rattle.ncl_shape.proofs.ChainLaws.{head_is_one, follows_at, banks_of_chain, place_in_chain}
use Rattle.ncl_shape.proofs.BankNets.{bank_within}

-- a path goes on by a bank that follows its end
pub IsPath-push : (n : NetlistData) (banks : List ℕ) (k last x : ℕ) → IsPath n banks → k + 1 ≡ length banks → slice_get banks k ≡ Some last → Follows n last x → IsPath n (banks ++ x ∷ [])
IsPath-push n banks k last x (end {bank = b}) whole at follows =
    let only : k ≡ 0 = omega arith in
    let first : slice_get (b ∷ []) 0 ≡ Some last = subst (λ j. slice_get (b ∷ []) j ≡ Some last) only at in
    let same : b ≡ last = cc in
    next (subst (λ z. Follows n z x) (sym same) follows) end
IsPath-push n banks zero last x (next {bank = b} {following = c} {banks = others} step path) whole at follows = absurd (omega arith)
IsPath-push n banks (suc k) last x (next {bank = b} {following = c} {banks = others} step path) whole at follows = next step (IsPath-push n (c ∷ others) k last x path (omega arith) at follows)

module _ (n : NetlistData) (is : IsNetlist n) (free : IsFree n) where
  -- the banks of a chain are nets and differ, so they are no more than the nets
  pub chain_is_short : (xs : List ℕ) → IsChain n xs → length xs ≤ length n.nets
  chain_is_short xs chain =
      no_more_than xs (length n.nets)
      (λ i j d less lt same.
      let place_i = slice_get-get_or xs i d (omega (arith, less, lt)) in
      let place_j = slice_get-get_or xs j d lt in
      let one = place_in_chain n is free xs chain i j (get_or xs i d) place_i (place_j ∙ ap Some (sym same)) in
      omega (arith, one, less))
      (λ i d lt. bank_within n is (get_or xs i d) (banks_of_chain n xs chain i (get_or xs i d) (slice_get-get_or xs i d lt)))

  module _ (first : ℕ) (only : (other : ℕ) → IsFirstBank n other → other ≡ first) (unforked : IsUnforked n) (banks : List ℕ) (walk : IsWalk n first banks) where
    -- what stands in a chain stands at the same place of the walk
    in_walk : (xs : List ℕ) → IsChain n xs → (k bank : ℕ) → slice_get xs k ≡ Some bank → slice_get banks k ≡ Some bank
    in_walk xs chain zero bank at = walk.head ∙ ap Some (sym (only bank (chain.first bank at)))
    in_walk xs chain (suc k) bank at =
        let (before, at_before, follows) = follows_at n xs chain.path k bank at in
        let here : slice_get banks k ≡ Some before = in_walk xs chain k before at_before in
        elim (cases_lt (suc k) (length banks)) [
          | inl inside ↦
              let (other, at_other) = slice_get-some banks (suc k) inside in
              let (u, at_u, follows_u) = follows_at n banks walk.path k other at_other in
              let same : Some u ≡ Some before = sym at_u ∙ here in
              let one : u ≡ before = cc in
              at_other ∙ ap Some (unforked before other bank (subst (λ z. Follows n z other) one follows_u) follows)
          | inr past ↦
              elim walk.ends [
                | inl (last, (j, whole, at_last), none) ↦
                    let within = slice_get_within banks k before here in
                    let places : j ≡ k = omega (arith, past, whole, within) in
                    let same : Some last ≡ Some before = sym at_last ∙ ap (slice_get banks) places ∙ here in
                    let one : last ≡ before = cc in
                    absurd (none bank (subst (λ z. Follows n z bank) (sym one) follows))
                | inr long ↦
                    let short = chain_is_short xs chain in
                    let within = slice_get_within xs (suc k) bank at in
                    absurd (omega (arith, long, short, within, past))
              ]
        ]

    module _ (numbers : List (Option ℕ)) (are : AreNumbersOf n banks numbers) where
      -- so where there is a chain each bank has a number
      pub numbered_by_chain : HasChain n → AreAllNumbered n numbers
      numbered_by_chain (xs, chain) bank is_bank =
          let (k, at) = slice_get-from_Contains xs bank (chain.every bank is_bank) in
          are.each k bank (in_walk xs chain k bank at)

      -- and where each bank has one the walk is the chain
      pub chain_of_walk : IsFirstBank n first → AreAllNumbered n numbers → IsChain n banks
      chain_of_walk is_first all = record {
        first = λ bank at. subst (IsFirstBank n) (head_is_one banks first bank walk.head at) is_first;
        path = walk.path;
        every = λ bank is_bank. let (k, said) = all bank is_bank in Contains-from_slice_get banks k bank (are.numbered bank k said);
      }

-- a walk after some steps, and the bank at which it stands
pub record IsWalkSoFar (n : NetlistData) (first : ℕ) (banks : List NetId) (last steps : ℕ) : Type 0 where
  pub path : IsPath n (numbers_of banks)
  pub head : slice_get (numbers_of banks) 0 ≡ Some first
  pub long : length banks ≡ steps + 1
  pub at_end : slice_get (numbers_of banks) steps ≡ Some last
  pub inside : All (λ (bank : NetId). bank.0 < length n.nets) banks
  pub stands : last < length n.nets

module _ (n : NetlistData) (first : ℕ) where
  pub walk_begins : (bank : NetId) → bank.0 ≡ first → first < length n.nets → IsWalkSoFar n first (bank ∷ []) bank.0 0
  walk_begins bank is lt = record {
    path = end;
    head = ap Some is;
    long = refl;
    at_end = refl;
    inside = All-from_members (λ (bank : NetId). bank.0 < length n.nets) (bank ∷ []) (λ other m. one other m);
    stands = omega (arith, is, lt);
  }
    where
      one : (other : NetId) → Member other (bank ∷ []) → other.0 < length n.nets
      one other m = elim (member_cases other bank [] m) [ inl same ↦ subst (λ (x : NetId). x.0 < length n.nets) same (omega (arith, is, lt)) | inr none ↦ elim none [ ] ]

  -- one step more
  pub walk_goes_on : (banks : List NetId) (last steps : ℕ) (following : NetId) → IsWalkSoFar n first banks last steps → Follows n last following.0 → following.0 < length n.nets → IsWalkSoFar n first (banks ++ following ∷ []) following.0 (steps + 1)
  walk_goes_on banks last steps following so_far follows lt =
      let numbers = map-append (λ (x : NetId). x.0) banks (following ∷ []) in
      let as_many = length-map banks (λ (x : NetId). x.0) in
      let long = so_far.long in
      record {
        path = subst (IsPath n) (sym numbers) (IsPath-push n (numbers_of banks) steps last following.0 so_far.path (omega (arith, as_many, long)) so_far.at_end follows);
        head = ap (λ l. slice_get l 0) numbers ∙ slice_get-kept (numbers_of banks) following.0 0 first so_far.head;
        long = omega (arith, length_push banks following, long);
        at_end = ap (λ l. slice_get l (steps + 1)) numbers ∙ slice_get-end (numbers_of banks) following.0 (steps + 1) (omega (arith, as_many, long));
        inside = All-push (λ (bank : NetId). bank.0 < length n.nets) banks following so_far.inside lt;
        stands = lt;
      }

  -- a walk ends where no bank follows, and after as many steps as there are nets it is too long for a chain
  pub walk_ends : (banks : List NetId) (last steps : ℕ) → IsWalkSoFar n first banks last steps → ((x : ℕ) → Follows n last x → ⊥) → IsWalk n first (numbers_of banks)
  walk_ends banks last steps so_far none =
      let as_many = length-map banks (λ (x : NetId). x.0) in
      let long = so_far.long in
      record { path = so_far.path; head = so_far.head; ends = inl (last, (steps, omega (arith, as_many, long), so_far.at_end), none) }

  pub walk_is_long : (banks : List NetId) (last steps : ℕ) → IsWalkSoFar n first banks last steps → length n.nets ≤ steps → IsWalk n first (numbers_of banks)
  walk_is_long banks last steps so_far all =
      let as_many = length-map banks (λ (x : NetId). x.0) in
      let long = so_far.long in
      record { path = so_far.path; head = so_far.head; ends = inr (omega (arith, as_many, long, all)) }
