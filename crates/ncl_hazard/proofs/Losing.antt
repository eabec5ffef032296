-- What happens of the items that are tried is a run, and where a cell is enabled at first and not at the end, some item
-- takes it back.
use Rattle.ncl_hazard.proofs.Terms.{Bool, CellId, Fire, IsRunFrom, Item, List, Loses, Member, PipelineData, State, [], after, ap, both_ways, cases_Bool, enabled, false, happened, here, if◌then◌else◌, inl, inr, member_cases, refl, step, subst, sym, there, tried, true, turned, ◌++◌, ◌∙◌, ◌∷◌, ◌≡◌, ◌≢◌, ◌⊎◌}

pub happened-run : (p : PipelineData) (s : State) (items : List Item) → IsRunFrom p s (happened p s items)
happened-run p s [] = tt
happened-run p s (item ∷ items) = go (enabled p s item) refl (happened-run p (step p s item) items) (happened-run p s items)
  where
    go : (b : Bool) → enabled p s item ≡ b → IsRunFrom p (step p s item) (happened p (step p s item) items) → IsRunFrom p s (happened p s items) → IsRunFrom p s ((if b then item ∷ [] else []) ++ happened p (if b then step p s item else s) items)
    go true e stepped stayed = (e, stepped)
    go false e stepped stayed = stayed

pub happened-after : (p : PipelineData) (s : State) (items : List Item) → after p s (happened p s items) ≡ tried p s items
happened-after p s [] = refl
happened-after p s (item ∷ items) = go (enabled p s item) (happened-after p (step p s item) items) (happened-after p s items)
  where
    go : (b : Bool) → after p (step p s item) (happened p (step p s item) items) ≡ tried p (step p s item) items → after p s (happened p s items) ≡ tried p s items → after p s ((if b then item ∷ [] else []) ++ happened p (if b then step p s item else s) items) ≡ tried p (if b then step p s item else s) items
    go true stepped stayed = stepped
    go false stepped stayed = stayed

pub tried-append : (p : PipelineData) (s : State) (xs ys : List Item) → tried p s (xs ++ ys) ≡ tried p (tried p s xs) ys
tried-append p s [] ys = refl
tried-append p s (x ∷ xs) ys = tried-append p (turned p s x) xs ys

-- where none of the items happens, none of them can
pub none-happens : (p : PipelineData) (s : State) (items : List Item) → happened p s items ≡ [] → (item : Item) → Member item items → enabled p s item ≡ false
none-happens p s [] none item m = elim m [ ]
none-happens p s (x ∷ items) none item m = go (none-happens p s items) (enabled p s x) refl none (member_cases item x items m)
  where
    go : (happened p s items ≡ [] → (item : Item) → Member item items → enabled p s item ≡ false) → (b : Bool) → enabled p s x ≡ b
        → (if b then x ∷ [] else []) ++ happened p (if b then step p s x else s) items ≡ [] → (x ≡ item) ⊎ Member item items → enabled p s item ≡ false
    go rest true e none which = absurd cc
    go rest false e none (inl same) = subst (λ y. enabled p s y ≡ false) same e
    go rest false e none (inr n) = rest none item n

-- an item more before the run
one-before : (p : PipelineData) (s : State) (cell : CellId) (item : Item) → enabled p s item ≡ true → (run : List Item) → Loses p (step p s item) cell run → Loses p s cell (item ∷ run)
one-before p s cell item can run l = record {
  first = item ∷ l.first;
  last = l.last;
  parts = ap (λ xs. item ∷ xs) l.parts;
  is_run = (can, l.is_run);
  other = l.other;
  before = l.before;
  lost = l.lost;
}

-- some items more
pub loses-after : (p : PipelineData) (s : State) (cell : CellId) (xs run : List Item) → IsRunFrom p s xs → Loses p (after p s xs) cell run → Loses p s cell (xs ++ run)
loses-after p s cell [] run is_run l = l
loses-after p s cell (x ∷ xs) run is_run l = one-before p s cell x is_run.0 (xs ++ run) (loses-after p (step p s x) cell xs run is_run.1 l)

-- where the cell is enabled, and not once some other items were tried, a first part of what happens loses it
pub loses-somewhere : (p : PipelineData) (cell : CellId) (items : List Item) → ((item : Item) → Member item items → item ≢ Fire cell) → (s : State)
    → enabled p s (Fire cell) ≡ true → enabled p (tried p s items) (Fire cell) ≡ false → (run : List Item) × Loses p s cell run
loses-somewhere p cell [] others s can cannot = absurd (both_ways _ cannot can)
loses-somewhere p cell (item ∷ items) others s can cannot = go (loses-somewhere p cell items (λ x m. others x (there m))) (enabled p s item) refl cannot
  where
    go : ((t : State) → enabled p t (Fire cell) ≡ true → enabled p (tried p t items) (Fire cell) ≡ false → (run : List Item) × Loses p t cell run)
        → (b : Bool) → enabled p s item ≡ b → enabled p (tried p (if b then step p s item else s) items) (Fire cell) ≡ false → (run : List Item) × Loses p s cell run
    go later false e gone = later s can gone
    go later true e gone = elim (cases_Bool (enabled p (step p s item) (Fire cell))) [
      | inl still ↦
          let (run, l) = later (step p s item) still gone in
          (item ∷ run, one-before p s cell item e run l)
      | inr lost ↦ (
        item ∷ [],
        record { first = []; last = item; parts = refl; is_run = (e, tt); other = others item here; before = can; lost = lost },
      )
    ]

-- so from a state from which the cell comes to be enabled, and then not, a run loses it
pub loses-from_both : (p : PipelineData) (s : State) (cell : CellId) (xs ys : List Item) → ((item : Item) → Member item ys → item ≢ Fire cell)
    → enabled p (tried p s xs) (Fire cell) ≡ true → enabled p (tried p s (xs ++ ys)) (Fire cell) ≡ false → (run : List Item) × Loses p s cell run
loses-from_both p s cell xs ys others can cannot =
    let (run, l) = loses-somewhere p cell ys others (tried p s xs) can (ap (λ t. enabled p t (Fire cell)) (sym (tried-append p s xs ys)) ∙ cannot) in
    (happened p s xs ++ run, loses-after p s cell (happened p s xs) run (happened-run p s xs) (subst (λ t. Loses p t cell run) (sym (happened-after p s xs)) l))
