-- Small nodes that grow in number.
use Rattle.ncl_plans.proofs.Terms.{Adds, All, All-nil, All-push, Bool, FromNode, IsFormOver, IsNarrow, IsPool, IsSource, IsSource-more, List, New, Node, ReadBefore, ReadBefore-push, Signal, Small, Some, [], ap, append-nil, append_assoc, arith, bits_of, cond, false, form_value, get_or, get_or_push, is_constant, length, length-append, length-map, length_push, map, map-append, map_push, node_value, node_values, node_values-append, node_values-push, not, option_map, signal_kept, signal_value, slice_get, slice_get-map, slice_get_within, small_ins, small_node, small_value, subst, sym, ℕ, ◌++◌, ◌+◌, ◌<◌, ◌∙◌, ◌∷◌, ◌≡◌, ◌≤◌}
use Rattle.ncl_plans.proofs.Smalls.{small_node-value, small_node-narrow, bit_of_node, length-bits_of}

pub IsPool-none : (inputs : ℕ) → IsPool inputs []
IsPool-none inputs = record { narrow = All-nil IsNarrow; reads_before = tt }

-- ---- one more

pub IsPool-push : (inputs : ℕ) (smalls : List Small) (small : Small) → IsPool inputs smalls → All (λ (s : Signal). IsSource inputs (length smalls) s.from) (small_ins small) → All (λ (s : Signal). is_constant s.from ≡ false) (small_ins small) → IsPool inputs (smalls ++ small ∷ [])
IsPool-push inputs smalls small pool exist vary =
    let nodes : List Node = map small_node smalls in
    let count : length smalls ≡ 0 + length nodes = omega (arith, length-map smalls small_node) in
    let all : map small_node (smalls ++ small ∷ []) ≡ nodes ++ small_node small ∷ [] = map_push small_node smalls small in
    record {
      narrow = subst (All IsNarrow) (sym all) (All-push IsNarrow nodes (small_node small) pool.narrow (small_node-narrow small vary));
      reads_before = subst (ReadBefore inputs 0) (sym all) (ReadBefore-push inputs 0 nodes (small_node small) pool.reads_before (subst (λ n. All (λ (s : Signal). IsSource inputs n s.from) (small_ins small)) count exist));
    }

-- its bit
new_bit : (word : List Bool) (smalls : List Small) (small : Small) → get_or (bits_of word (smalls ++ small ∷ [])) (length smalls) false ≡ small_value word (bits_of word smalls) small
new_bit word smalls small =
    let bits : List Bool = bits_of word smalls in
    ap (λ nodes. get_or (node_values word [] nodes) (length smalls) false) (map_push small_node smalls small)
    ∙ ap (λ all. get_or all (length smalls) false) (node_values-push word [] (map small_node smalls) (small_node small))
    ∙ get_or_push bits (node_value word bits (small_node small)) false (length smalls) (length-bits_of word smalls)
    ∙ small_node-value word bits small

-- the bit of one that there is
pub old_bit : (inputs : ℕ) (word : List Bool) (smalls : List Small) (k : ℕ) (small : Small) → IsPool inputs smalls → slice_get smalls k ≡ Some small → get_or (bits_of word smalls) k false ≡ small_value word (bits_of word smalls) small
old_bit inputs word smalls k small pool at =
    bit_of_node inputs word (map small_node smalls) pool.reads_before k (small_node small) (slice_get-map small_node smalls k ∙ ap (option_map small_node) at)
    ∙ small_node-value word (bits_of word smalls) small

-- ---- what is added

pub Adds-none : (inputs : ℕ) (smalls : List Small) (value : List Bool → List Bool → Bool) (signal : Signal) → IsPool inputs smalls → IsSource inputs (length smalls) signal.from → ((word : List Bool) → signal_value word (bits_of word smalls) signal ≡ value word (bits_of word smalls)) → Adds inputs smalls smalls value signal
Adds-none inputs smalls value signal pool exists gives =
    record { made = []; added = sym (append-nil smalls); fine = pool; exists = exists; gives = gives }

module _ (inputs : ℕ) (smalls : List Small) (small : Small) (inverted : Bool) (pool : IsPool inputs smalls) where
  pub Adds-found : (k : ℕ) → slice_get smalls k ≡ Some small → Adds inputs smalls smalls (λ word nodes. form_value word nodes (New small inverted)) (record { from = FromNode k; inverted = inverted })
  Adds-found k at =
      Adds-none inputs smalls (λ word nodes. form_value word nodes (New small inverted)) (record { from = FromNode k; inverted = inverted }) pool (slice_get_within smalls k small at)
      (λ word. ap (λ b. cond inverted (not b) b) (old_bit inputs word smalls k small pool at))

  pub Adds-pushed : (k : ℕ) (new : List Small) → k ≡ length smalls → new ≡ smalls ++ small ∷ [] → IsFormOver inputs (length smalls) (New small inverted) → Adds inputs smalls new (λ word nodes. form_value word nodes (New small inverted)) (record { from = FromNode k; inverted = inverted })
  Adds-pushed k new last pushed over =
      let there : k < length new = omega (arith, last, ap length pushed, length_push smalls small) in
      record {
        made = small ∷ [];
        added = pushed;
        fine = subst (IsPool inputs) (sym pushed) (IsPool-push inputs smalls small pool over.0 over.1);
        exists = there;
        gives = λ word. ap (λ b. cond inverted (not b) b) ((λ i. get_or (bits_of word (pushed i)) (last i) false) ∙ new_bit word smalls small);
      }

-- ---- one after another

module _ (inputs : ℕ) (before after : List Small) (value : List Bool → List Bool → Bool) (signal : Signal) (adds : Adds inputs before after value signal) where
  pub Adds-count : length before ≤ length after
  Adds-count = omega (arith, ap length adds.added, length-append before adds.made)

  -- a signal that there was still is there, with its bit
  pub Adds-exists : (s : Signal) → IsSource inputs (length before) s.from → IsSource inputs (length after) s.from
  Adds-exists s there = IsSource-more inputs (length before) (length after) s.from Adds-count there

  pub Adds-keeps : (word : List Bool) (s : Signal) → IsSource inputs (length before) s.from → signal_value word (bits_of word after) s ≡ signal_value word (bits_of word before) s
  Adds-keeps word s there =
      ap (λ smalls. signal_value word (bits_of word smalls) s) adds.added
      ∙ ap (λ nodes. signal_value word (node_values word [] nodes) s) (map-append small_node before adds.made)
      ∙ ap (λ bits. signal_value word bits s) (node_values-append word [] (map small_node before) (map small_node adds.made))
      ∙ signal_kept inputs word (bits_of word before) (map small_node adds.made) s (subst (λ n. IsSource inputs n s.from) (sym (length-bits_of word before)) there)

  pub Adds-then : (last : List Small) (other : List Bool → List Bool → Bool) (result : Signal) (whole : List Bool → List Bool → Bool) → Adds inputs after last other result → ((word : List Bool) → other word (bits_of word after) ≡ whole word (bits_of word before)) → Adds inputs before last whole result
  Adds-then last other result whole second same = record {
    made = adds.made ++ second.made;
    added = second.added ∙ ap (λ front. front ++ second.made) adds.added ∙ append_assoc before adds.made second.made;
    fine = second.fine;
    exists = second.exists;
    gives = λ word. second.gives word ∙ same word;
  }
