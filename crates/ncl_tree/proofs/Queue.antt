-- A queue of nets that grows into a tree.
use Rattle.std.proofs.Common.{◌≡◌, ℕ, ◌+◌, ◌-◌, ◌*◌, ◌/◌, ◌%◌, ◌<◌, ◌≤◌, List, [], ◌∷◌, ◌++◌, length, get_or, take, drop, sym, ap, subst, ◌∙◌, arith, append_assoc}
use Rattle.std.proofs.lemmas.List.{drop_more, drop_all, drop-append-le, length_push, append-nil, take-append-drop, drop-drop}
use Rattle.ncl_netlist.specs.declared.ids.NetId.{NetId}
use Rattle.ncl_shape.specs.declared.stage.StageCell.{StageCell}
use Rattle.ncl_tree.specs.declared.tree.Family.{Family}
use Rattle.ncl_tree.specs.GateTree.{IsFamilyGate, GateTree, one, more, AddsTree}

-- gates are added over the first nets of a queue, and whatever makes a tree of the rest makes one of the leaves.
-- The next gate takes so many nets, and so many gates are still to come
pub record IsGrowing (family : Family) (leaves : List NetId) (before cells : List StageCell) (queue : List NetId) (at taken : ℕ) : Type 0 where
  pub made : List StageCell
  pub added : cells ≡ before ++ made
  pub to_come : ℕ
  pub left : length queue + 3 ≡ at + taken + 3 * to_come
  pub some : at < length queue
  pub two : 2 ≤ taken
  pub four : taken ≤ 4
  pub few : 3 * (length made + to_come) ≤ length leaves + 1
  pub completes : (rest : List StageCell) (root : NetId) → GateTree family (drop at queue) rest root → GateTree family leaves (made ++ rest) root

pub IsGrowing-start : (family : Family) (leaves : List NetId) (before : List StageCell) → 0 < length leaves → IsGrowing family leaves before before leaves 0 ((length leaves + 1) % 3 + 2)
IsGrowing-start family leaves before nonempty = record {
  made = [];
  added = sym (append-nil before);
  to_come = (length leaves + 1) / 3;
  left = omega arith;
  some = nonempty;
  two = omega arith;
  four = omega arith;
  few = omega arith;
  completes = λ rest root tree. tree;
}

module _ (family : Family) (leaves : List NetId) (before cells : List StageCell) (queue : List NetId) (at taken : ℕ) (growing : IsGrowing family leaves before cells queue at taken) where
  -- one gate more
  pub IsGrowing-more : (c : StageCell) (new : List StageCell) (longer : List NetId) → at + 1 < length queue → IsFamilyGate family c → c.ins.items ≡ take taken (drop at queue) → new ≡ cells ++ c ∷ [] → longer ≡ queue ++ c.out ∷ [] → IsGrowing family leaves before new longer (at + taken) 4
  IsGrowing-more c new longer left gate ins pushed joined =
      let all : at + taken ≤ length queue = omega (arith, growing.left, growing.four) in
      let front : c.ins.items ++ drop (at + taken) queue ≡ drop at queue =
      ap (λ nets. nets ++ drop (at + taken) queue) ins
      ∙ ap (λ nets. take taken (drop at queue) ++ nets) (sym (drop-drop taken at queue))
      ∙ take-append-drop taken (drop at queue) in
      let back : drop (at + taken) longer ≡ drop (at + taken) queue ++ c.out ∷ [] =
      ap (drop (at + taken)) joined ∙ drop-append-le (at + taken) queue (c.out ∷ []) all in
      let count : length longer ≡ length queue + 1 = ap length joined ∙ length_push queue c.out in
      let more_made : length (growing.made ++ c ∷ []) ≡ length growing.made + 1 = length_push growing.made c in
      record {
        made = growing.made ++ c ∷ [];
        added = pushed ∙ ap (λ front. front ++ c ∷ []) growing.added ∙ append_assoc before growing.made (c ∷ []);
        to_come = growing.to_come - 1;
        left = omega (arith, growing.left, growing.four);
        some = omega arith;
        two = omega arith;
        four = omega arith;
        few = omega (arith, growing.few, growing.left, growing.four);
        completes = λ rest root tree.
            subst (λ made. GateTree family leaves made root) (sym (append_assoc growing.made (c ∷ []) rest))
            (growing.completes (c ∷ rest) root
            (subst (λ nets. GateTree family nets (c ∷ rest) root) front
            (more c (drop (at + taken) queue) rest root gate (subst (λ nets. GateTree family nets rest root) back tree))));
      }

  -- one net is left, which is the root
  pub AddsTree-grown : (root : NetId) → length queue ≤ at + 1 → root ≡ get_or queue at root → AddsTree family leaves before cells root
  AddsTree-grown root last is =
      let only : drop at queue ≡ root ∷ [] =
      drop_more queue at root growing.some ∙ (λ i. sym is i ∷ drop_all (at + 1) queue last i) in
      record {
        made = growing.made;
        added = growing.added;
        is_tree = subst (λ made. GateTree family leaves made root) (append-nil growing.made)
            (growing.completes [] root (subst (λ nets. GateTree family nets [] root) (sym only) (one root)));
        few = omega (arith, growing.few);
      }
