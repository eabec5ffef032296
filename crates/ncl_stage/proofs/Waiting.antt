-- Marks of the places that wait to be looked at.
use Rattle.ncl_stage.proofs.Terms.{AreWaiting, Bool, Contains, IsStage, IsUnchanged, IsWiring, List, StageData, Variant, WiringData, [], ap, arith, cases_eq, cases_lt, false, from_push, get_or, get_or-set_other, get_or-set_same, inl, inr, length, net_at, refl, set, subst, sym, take, take_more, true, ℕ, ◌*◌, ◌+◌, ◌<◌, ◌∙◌, ◌≡◌, ◌≤◌}
use Rattle.ncl_stage.proofs.Unvisited.{unvisited}

-- a place is marked
abbrev pub mark_at : List Bool → ℕ → List Bool
mark_at marks place = set marks place true

-- what isn't marked then wasn't before
pub was-unmarked : (marks : List Bool) (place other : ℕ) → place < length marks → get_or (mark_at marks place) other true ≡ false → get_or marks other true ≡ false
was-unmarked marks place other lt none =
    elim (cases_eq other place) [
      | inl same ↦ (let high : true ≡ false = sym (get_or-set_same marks place true true lt) ∙ ap (λ n. get_or (mark_at marks place) n true) (sym same) ∙ none in absurd cc)
      | inr apart ↦ sym (get_or-set_other marks place other true true apart) ∙ none
    ]

-- places so far are marked, and so one more
pub marked-next : (marks : List Bool) (readers : List ℕ) (i d : ℕ) → i < length readers → get_or readers i d < length marks → ((reader : ℕ) → Contains (take i readers) reader → get_or marks reader true ≡ true) → (reader : ℕ) → Contains (take (i + 1) readers) reader → get_or (mark_at marks (get_or readers i d)) reader true ≡ true
marked-next marks readers i d lt within before reader has =
    elim (from_push (take i readers) (get_or readers i d) reader (subst (λ rs. Contains rs reader) (take_more readers i d lt) has)) [
      | inl earlier ↦
          elim (cases_eq reader (get_or readers i d)) [
            | inl same ↦ ap (λ n. get_or (mark_at marks (get_or readers i d)) n true) same ∙ get_or-set_same marks (get_or readers i d) true true within
            | inr apart ↦ get_or-set_other marks (get_or readers i d) reader true true apart ∙ before reader earlier
          ]
      | inr same ↦ ap (λ n. get_or (mark_at marks (get_or readers i d)) n true) (sym same) ∙ get_or-set_same marks (get_or readers i d) true true within
    ]

-- what doesn't wait before the first that does is unchanged
pub between : (s : StageData) → IsStage s → (w : WiringData) → IsWiring s w → (variant : Variant) (marks : List Bool) (from to : ℕ) → AreWaiting w s variant from marks → to ≤ length w.nets → ((other : ℕ) → from ≤ other → other < to → get_or marks other true ≡ false) → (place : ℕ) → from ≤ place → place < to → IsUnchanged w.order s variant (net_at s place)
between s is w wired variant marks from to waits within none =
    let nets = ap length wired.nets in
    unvisited s w.order wired.order is w wired variant from to (omega (arith, nets, within))
    (λ place after before. waits.low place after (omega (arith, before, within)) (none place after before))
    (λ cell place after before reads earlier. waits.read cell place after (omega (arith, before, within)) (none (2 * length s.inputs + cell) after before) reads earlier)

-- one place more has been looked at, and what reads it waits where it has changed
pub waiting-next : (s : StageData) (w : WiringData) (variant : Variant) (marks new : List Bool) (from to : ℕ) (same : Bool) → AreWaiting w s variant from marks → from ≤ to → length new ≡ length marks
    → ((place : ℕ) → get_or new place true ≡ false → get_or marks place true ≡ false)
    → (same ≡ false → (cell : ℕ) → 2 * length s.inputs + cell < length w.nets → Contains (get_or w.pins cell []) to → get_or new (2 * length s.inputs + cell) true ≡ true)
    → ((place : ℕ) → from ≤ place → place < to → IsUnchanged w.order s variant (net_at s place)) → (same ≡ true → IsUnchanged w.order s variant (net_at s to)) → AreWaiting w s variant (to + 1) new
waiting-next s w variant marks new from to same waits after many kept readers between here = record {
  many = many ∙ waits.many;
  low = λ place behind lt none. waits.low place (omega (arith, behind, after)) lt (kept place none);
  read = λ cell place behind lt none reads earlier. elim (cases_lt place from) [
    | inl front ↦ waits.read cell place (omega (arith, behind, after)) lt (kept (2 * length s.inputs + cell) none) reads front
    | inr later ↦ elim (cases_lt place to) [
      | inl mid ↦ between place (omega (arith, later)) mid
      | inr last ↦
          let at : to ≡ place = omega (arith, last, earlier) in
          subst (λ n. IsUnchanged w.order s variant (net_at s n)) at (by same refl cell lt none (subst (Contains (get_or w.pins cell [])) (sym at) reads))
    ]
  ];
}
  where
    by : (b : Bool) → same ≡ b → (cell : ℕ) → 2 * length s.inputs + cell < length w.nets → get_or new (2 * length s.inputs + cell) true ≡ false → Contains (get_or w.pins cell []) to → IsUnchanged w.order s variant (net_at s to)
    by true e cell lt none reads = here e
    by false e cell lt none reads = (let wrong : true ≡ false = sym (readers e cell lt reads) ∙ none in absurd cc)
