-- A queue of signals that grows into a tree.
use Rattle.ncl_decomp.proofs.Terms.{AddsTree, Joint, List, Node, NodeTree, Signal, [], ap, append-nil, append_assoc, arith, drop, drop-append-le, drop_all, drop_more, get_or, length, length_push, more, node_signal, one, pair_node, subst, sym, ℕ, ◌++◌, ◌+◌, ◌<◌, ◌∙◌, ◌∷◌, ◌≡◌, ◌≤◌}

-- nodes are added over the first signals of a queue, and whatever makes a tree of the rest makes one of the leaves
pub record IsGrowing (shape : Joint) (leaves : List Signal) (before nodes : List Node) (queue : List Signal) (at : ℕ) : Type 0 where
  pub made : List Node
  pub added : nodes ≡ before ++ made
  pub left : at < length queue
  pub few : length nodes + length queue ≡ length before + length leaves + at
  pub completes : (rest : List Node) (root : Signal) → NodeTree shape (length nodes) (drop at queue) rest root → NodeTree shape (length before) leaves (made ++ rest) root

module _ (shape : Joint) (leaves : List Signal) (before nodes : List Node) (queue : List Signal) (at : ℕ) (growing : IsGrowing shape leaves before nodes queue at) where
  -- one node more
  pub IsGrowing-more : (s t : Signal) (new : List Node) (longer : List Signal) → at + 1 < length queue → s ≡ get_or queue at s → t ≡ get_or queue (at + 1) t → new ≡ nodes ++ pair_node shape s t ∷ [] → longer ≡ queue ++ node_signal (length nodes) ∷ [] → IsGrowing shape leaves before new longer (at + 2)
  IsGrowing-more s t new longer within first second pushed joined =
      let node : Node = pair_node shape s t in
      let signal : Signal = node_signal (length nodes) in
      let shift : (at + 1) + 1 ≡ at + 2 = omega arith in
      let inside : at < length queue = omega arith in
      let enough : at + 2 ≤ length queue = omega arith in
      let front : drop at queue ≡ s ∷ t ∷ drop (at + 2) queue =
      drop_more queue at s inside ∙ (λ i. sym first i ∷ drop (at + 1) queue) ∙ ap (λ rest. s ∷ rest) (drop_more queue (at + 1) t within ∙ (λ i. sym second i ∷ drop (shift i) queue)) in
      let back : drop (at + 2) longer ≡ drop (at + 2) queue ++ signal ∷ [] = ap (drop (at + 2)) joined ∙ drop-append-le (at + 2) queue (signal ∷ []) enough in
      let count : length new ≡ length nodes + 1 = ap length pushed ∙ length_push nodes node in
      let longer_by : length longer ≡ length queue + 1 = ap length joined ∙ length_push queue signal in
      record {
        made = growing.made ++ node ∷ [];
        added = pushed ∙ ap (λ front. front ++ node ∷ []) growing.added ∙ append_assoc before growing.made (node ∷ []);
        left = omega arith;
        few = omega (arith, growing.few);
        completes = λ rest root tree.
            let moved : NodeTree shape (length nodes + 1) (drop (at + 2) queue ++ signal ∷ []) rest root =
            subst (λ pending. NodeTree shape (length nodes + 1) pending rest root) back (subst (λ k. NodeTree shape k (drop (at + 2) longer) rest root) count tree) in
            subst (λ made. NodeTree shape (length before) leaves made root) (sym (append_assoc growing.made (node ∷ []) rest))
            (growing.completes (node ∷ rest) root (subst (λ pending. NodeTree shape (length nodes) pending (node ∷ rest) root) (sym front) (more (length nodes) s t (drop (at + 2) queue) rest root moved)));
      }

  -- one signal is left, which is the root
  pub AddsTree-grown : (root : Signal) → length queue ≤ at + 1 → root ≡ get_or queue at root → AddsTree shape leaves before nodes root
  AddsTree-grown root last is =
      let only : drop at queue ≡ root ∷ [] =
      drop_more queue at root growing.left ∙ (λ i. sym is i ∷ drop_all (at + 1) queue last i) in
      (growing.made, growing.added, subst (λ made. NodeTree shape (length before) leaves made root) (append-nil growing.made) (growing.completes [] root (subst (λ pending. NodeTree shape (length nodes) pending [] root) (sym only) (one (length nodes) root))))
