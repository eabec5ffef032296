use Rattle.ncl_cell_rules.proofs.Terms.{IsTreeKind, Kind, Th22, Th33, Th44, inl, inr, refl, subst, sym, th22, th33, th44, ◌≡◌, ◌⊎◌}
use Rattle.ncl_cell_rules.proofs.mixing.is_tree_kind.Goals as goal

pub returns-in-Th22 : goal.returns-in-Th22
returns-in-Th22 c = ((λ is. tree c.args.kind c.in-Th22.is), λ tree. refl)
  where
    tree : (kind : Kind) → (kind ≡ Th22) ⊎ ((kind ≡ Th33) ⊎ (kind ≡ Th44)) → IsTreeKind kind
    tree kind (inl is) = subst IsTreeKind (sym is) th22
    tree kind (inr (inl is)) = subst IsTreeKind (sym is) th33
    tree kind (inr (inr is)) = subst IsTreeKind (sym is) th44
