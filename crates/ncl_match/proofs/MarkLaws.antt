-- Which nets are marked, one place further and in the end.
pub use Rattle.ncl_match.proofs.Terms.{[], AreMarks, Bool, DataCell, IsOrdered, List, NetId, Reaches, Some, ap, arith, cases_eq, eqb-true, false, false≢true, get_or, is_marked, is_on, itself, length, nat_eq, nat_tests, or_cases, or_left, or_right, reads, refl, replicate, same_Some, slice_get, slice_get_read, slice_get_within, subst, suc, sym, true, zero, ℕ, ⊎_elim, ◌+◌, ◌-◌, ◌<◌, ◌||◌, ◌∙◌, ◌∷◌, ◌≡◌, ◌≤◌}

-- ---- the member before a place of a list that is walked from its end

-- it is there, and what holds at the place holds after it
pub member-before : {X : Type 0} (xs : List X) (place : ℕ) (x : X) (Holds : ℕ → Type 0) → place ≤ length xs → 0 < place → x ≡ get_or xs (place - 1) x → Holds place → (slice_get xs (place - 1) ≡ Some x) × Holds (place - 1 + 1)
member-before xs place x Holds most some is holds =
    (slice_get_read xs (length xs) (place - 1) x refl (omega (arith, most, some)) is, subst Holds (omega (arith, some)) holds)

-- ---- which nets are marked, one cell further; and in the end exactly those from which the root is reached

pub own-number : (n : ℕ) → nat_eq n n ≡ true
own-number n = grind (arith, nat_tests)

pub none_marked : (n net : ℕ) → is_marked (replicate n false) net ≡ false
none_marked zero net = refl
none_marked (suc n) zero = refl
none_marked (suc n) (suc net) = none_marked n net

-- the root alone
pub marks-root : (plan : List DataCell) (nets : ℕ) (root : NetId) (old marks : List Bool) → old ≡ replicate nets false → length marks ≡ nets → ((net : ℕ) → is_marked marks net ≡ (is_marked old net || is_on (root ∷ []) net)) → AreMarks plan nets root.0 marks (length plan)
marks-root plan nets root old marks fresh many marked =
    let exact : (net : ℕ) → is_marked marks net ≡ is_on (root ∷ []) net =
    λ net. marked net ∙ ap (λ b. b || is_on (root ∷ []) net) (ap (λ l. is_marked l net) fresh ∙ none_marked nets net) in
    record {
      many = many;
      root_too = exact root.0 ∙ or_left (nat_eq root.0 root.0) false (own-number root.0);
      reads = λ k e net late at mark on. let within = slice_get_within plan k e at in absurd (omega (arith, within, late));
      reach = λ net mark. subst (Reaches plan root.0) (one net (sym (exact net) ∙ mark)) itself;
    }
  where
    one : (net : ℕ) → is_on (root ∷ []) net ≡ true → root.0 ≡ net
    one net e = ⊎_elim (λ h. eqb-true root.0 net h) (λ h. absurd (false≢true h)) (or_cases (nat_eq root.0 net) false e)

-- a cell whose net isn't marked marks nothing
pub marks-passed : (plan : List DataCell) (nets root : ℕ) (marks : List Bool) (place : ℕ) (cell : DataCell) → slice_get plan place ≡ Some cell → is_marked marks cell.out.0 ≡ false → AreMarks plan nets root marks (place + 1) → AreMarks plan nets root marks place
marks-passed plan nets root marks place cell at unmarked m = record {
  many = m.many;
  root_too = m.root_too;
  reads = λ k e net late e_at mark on.
      ⊎_elim
      (λ same.
      let one : e ≡ cell = same_Some e cell (sym e_at ∙ ap (slice_get plan) same ∙ at) in
      absurd (false≢true (sym unmarked ∙ ap (λ (x : DataCell). is_marked marks x.out.0) (sym one) ∙ mark)))
      (λ differs. m.reads k e net (omega (arith, late, differs)) e_at mark on)
      (cases_eq k place);
  reach = m.reach;
}

-- a cell whose net is marked marks what it reads
pub marks-more : (plan : List DataCell) (nets root : ℕ) (marks new : List Bool) (place : ℕ) (cell : DataCell) → IsOrdered plan nets → slice_get plan place ≡ Some cell → is_marked marks cell.out.0 ≡ true → length new ≡ length marks → ((net : ℕ) → is_marked new net ≡ (is_marked marks net || is_on cell.ins.items net)) → AreMarks plan nets root marks (place + 1) → AreMarks plan nets root new place
marks-more plan nets root marks new place cell ordered at mark count marked m = record {
  many = count ∙ m.many;
  root_too = marked root ∙ or_left _ _ m.root_too;
  reads = λ k e net late e_at new_mark on.
      let was : is_marked marks e.out.0 ≡ true =
      ⊎_elim (λ was. was)
      (λ read. absurd (false≢true (sym (ordered.before place k cell e at e_at late) ∙ read)))
      (or_cases _ _ (sym (marked e.out.0) ∙ new_mark)) in
      ⊎_elim
      (λ same.
      let one : e ≡ cell = same_Some e cell (sym e_at ∙ ap (slice_get plan) same ∙ at) in
      marked net ∙ or_right _ _ (ap (λ (x : DataCell). is_on x.ins.items net) (sym one) ∙ on))
      (λ differs. marked net ∙ or_left _ _ (m.reads k e net (omega (arith, late, differs)) e_at was on))
      (cases_eq k place);
  reach = λ net new_mark.
      ⊎_elim
      (λ was. m.reach net was)
      (λ read. reads place cell net at read (m.reach cell.out.0 mark))
      (or_cases _ _ (sym (marked net) ∙ new_mark));
}

-- what the root is reached from is marked
pub reached-marked : (plan : List DataCell) (nets root : ℕ) (marks : List Bool) → AreMarks plan nets root marks 0 → (net : ℕ) → Reaches plan root net → is_marked marks net ≡ true
reached-marked plan nets root marks m _ itself = m.root_too
reached-marked plan nets root marks m _ (reads k e net at on more) =
    m.reads k e net (omega arith) at (reached-marked plan nets root marks m e.out.0 more) on
