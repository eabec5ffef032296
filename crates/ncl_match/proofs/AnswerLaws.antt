-- The order of words, and the answers to runs of outputs and to all outputs of a pipeline and models.
pub use Rattle.ncl_match.proofs.Terms.{[], Agree, AreWithin, Bool, Circuit, CompareFault, Compared, Differ, DiffersAt, Err, Full, HaveWidths, IsAnswer, IsAnswerToRun, IsBefore, IsBitAnswer, IsFirstDifference, IsFirstOver, IsIn, IsNoLater, IsOver, IsRunAnswer, IsTrue, List, Model, Ok, Result, RunAnswer, Same, ap, arith, beq, cases_lt, false, get_or, inl, inr, length, not, refl, subst, suc, sym, take, true, word_number, word_number-less, zero, ℕ, ◌+◌, ◌<◌, ◌^◌, ◌↔◌, ◌∙◌, ◌∷◌, ◌≡◌, ◌≢◌, ◌≤◌, ◌⊎◌}
use Rattle.ncl_match.specs.declared.answer.BitAnswer.TheVariants as bit
use Rattle.ncl_match.specs.declared.answer.RunAnswer.TheVariants as run
use Rattle.ncl_match.specs.declared.answer.Compared.TheVariants as compared
use Rattle.ncl_match.specs.declared.answer.CompareFault.TheVariants as fault

-- ---- the order of words of one width, by the first bit that differs

powers : (v w : List Bool) → length v ≡ length w → 2 ^ length v ≡ 2 ^ length w
powers v w wide = ap (λ (k : ℕ). 2 ^ k) wide

tail : {xs ys : List Bool} {x y : Bool} → (x ∷ xs) ≡ (y ∷ ys) → xs ≡ ys
tail e = cc

-- words of one width with one number are one
pub one_word : (v w : List Bool) → length v ≡ length w → word_number v ≡ word_number w → v ≡ w
one_word [] [] same e = refl
one_word [] (b ∷ w) same e = absurd (omega arith)
one_word (a ∷ v) [] same e = absurd (omega arith)
one_word (true ∷ v) (true ∷ w) same e = ap (λ l. true ∷ l) (one_word v w (omega arith) (omega (arith, powers v w (omega arith), e)))
one_word (false ∷ v) (false ∷ w) same e = ap (λ l. false ∷ l) (one_word v w (omega arith) e)
one_word (true ∷ v) (false ∷ w) same e = absurd (omega (arith, powers v w (omega arith), e, word_number-less w))
one_word (false ∷ v) (true ∷ w) same e = absurd (omega (arith, powers v w (omega arith), e, word_number-less v))

-- at the first bit that differs, the word that has the 1 there is the later
pub before-at : (v w : List Bool) (k : ℕ) → length v ≡ length w → k < length v → take k v ≡ take k w → get_or v k false ≢ get_or w k false → IsTrue (get_or w k false) ↔ IsBefore v w
before-at [] w k same lt front differ = absurd (omega arith)
before-at (a ∷ v) [] k same lt front differ = absurd (omega arith)
before-at (true ∷ v) (true ∷ w) zero same lt front differ = absurd (differ refl)
before-at (false ∷ v) (false ∷ w) zero same lt front differ = absurd (differ refl)
before-at (true ∷ v) (false ∷ w) zero same lt front differ = ((λ h. absurd cc), (λ h. absurd (omega (arith, powers v w (omega arith), h, word_number-less w))))
before-at (false ∷ v) (true ∷ w) zero same lt front differ = ((λ h. omega (arith, powers v w (omega arith), word_number-less v)), (λ h. refl))
before-at (true ∷ v) (true ∷ w) (suc k) same lt front differ =
    let is = before-at v w k (omega arith) (omega arith) (tail front) differ in
    let power = powers v w (omega arith) in
    ((λ h. let less = is.0 h in omega (arith, power, less)), (λ h. is.1 (omega (arith, power, h))))
before-at (false ∷ v) (false ∷ w) (suc k) same lt front differ = before-at v w k (omega arith) (omega arith) (tail front) differ
before-at (true ∷ v) (false ∷ w) (suc k) same lt front differ = absurd cc
before-at (false ∷ v) (true ∷ w) (suc k) same lt front differ = absurd cc

-- ---- how answers to two runs of outputs, one after the other, give that to both; and that a run has one answer

module _ (over : ℕ → Type 0) (differs : ℕ → List Bool → Type 0) where
  -- an empty run
  pub none-within : (low : ℕ) → AreWithin over low low
  none-within low output is h = absurd (let a = is.after in let b = is.until in omega (arith, a, b))

  pub none-agree : (low : ℕ) → Agree differs low low
  none-agree low output word is h = absurd (let a = is.after in let b = is.until in omega (arith, a, b))

  -- a run of one output
  only : (low output : ℕ) → IsIn low (low + 1) output → output ≡ low + 1
  only low output is = let a = is.after in let b = is.until in omega (arith, a, b)

  pub one-in : (low : ℕ) → IsIn low (low + 1) (low + 1)
  one-in low = record { after = omega arith; until = omega arith }

  pub one-within : (low : ℕ) → (over (low + 1) → ⊥) → AreWithin over low (low + 1)
  one-within low not_over output is h = not_over (subst over (only low output is) h)

  pub one-over : (low : ℕ) → over (low + 1) → IsFirstOver over low (low + 1) (low + 1)
  one-over low h = record { is_in = one-in low; is_over = h; before = λ other after less o. absurd (omega (arith, after, less)) }

  pub one-agree : (low : ℕ) → ((word : List Bool) → differs (low + 1) word → ⊥) → Agree differs low (low + 1)
  one-agree low same output word is h = same word (subst (λ o. differs o word) (only low output is) h)

  pub one-difference : (low : ℕ) (word : List Bool) → differs (low + 1) word → ((earlier : List Bool) → differs (low + 1) earlier → IsNoLater word earlier) → IsFirstDifference differs low (low + 1) word (low + 1)
  one-difference low word here least = record {
    is_in = one-in low;
    here = here;
    least = λ other earlier is h. least earlier (subst (λ o. differs o earlier) (only low other is) h);
    before = λ other after less o. absurd (omega (arith, after, less));
  }

  module _ (low middle high : ℕ) (first_le : low ≤ middle) (second_le : middle ≤ high) where
    split : (output : ℕ) → IsIn low high output → IsIn low middle output ⊎ IsIn middle high output
    split output is =
        elim (cases_lt middle output) [
          | inl later ↦ inr (record { after = later; until = is.until })
          | inr early ↦ inl (record { after = is.after; until = early })
        ]

    in-first : (output : ℕ) → IsIn low middle output → IsIn low high output
    in-first output is = record { after = is.after; until = let a = is.until in omega (arith, a, second_le) }

    in-second : (output : ℕ) → IsIn middle high output → IsIn low high output
    in-second output is = record { after = let a = is.after in omega (arith, a, first_le); until = is.until }

    within-both : AreWithin over low middle → AreWithin over middle high → AreWithin over low high
    within-both first second output is h = elim (split output is) [ inl i ↦ first output i h | inr i ↦ second output i h ]

    agree-both : Agree differs low middle → Agree differs middle high → Agree differs low high
    agree-both first second output word is h = elim (split output is) [ inl i ↦ first output word i h | inr i ↦ second output word i h ]

    full-first : (output : ℕ) → IsFirstOver over low middle output → IsFirstOver over low high output
    full-first output f = record { is_in = in-first output f.is_in; is_over = f.is_over; before = f.before }

    full-second : (output : ℕ) → AreWithin over low middle → IsFirstOver over middle high output → IsFirstOver over low high output
    full-second output within f = record {
      is_in = in-second output f.is_in;
      is_over = f.is_over;
      before = λ other after less h.
          elim (cases_lt middle other) [
            | inl later ↦ f.before other later less h
            | inr early ↦ within other (record { after = after; until = early }) h
          ];
    }

    differ-first : (word : List Bool) (output : ℕ) → IsFirstDifference differs low middle word output → ((other : ℕ) (earlier : List Bool) → IsIn middle high other → differs other earlier → IsNoLater word earlier) → IsFirstDifference differs low high word output
    differ-first word output d later = record {
      is_in = in-first output d.is_in;
      here = d.here;
      least = λ other earlier is h. elim (split other is) [ inl i ↦ d.least other earlier i h | inr i ↦ later other earlier i h ];
      before = d.before;
    }

    differ-second : (word : List Bool) (output : ℕ) → IsFirstDifference differs middle high word output → ((other : ℕ) (earlier : List Bool) → IsIn low middle other → differs other earlier → IsBefore word earlier) → IsFirstDifference differs low high word output
    differ-second word output d sooner = record {
      is_in = in-second output d.is_in;
      here = d.here;
      least = λ other earlier is h. elim (split other is) [ inl i ↦ let less = sooner other earlier i h in omega (arith, less) | inr i ↦ d.least other earlier i h ];
      before = λ other after less h.
          elim (cases_lt middle other) [
            | inl later ↦ d.before other later less h
            | inr early ↦ let impossible = sooner other word (record { after = after; until = early }) h in absurd (omega (arith, impossible))
          ];
    }

    -- the joined answers
    pub joined-full : (output : ℕ) → IsAnswerToRun over differs low middle (Full output) → IsAnswerToRun over differs low high (Full output)
    joined-full output f = full-first output f

    pub joined-same : (second : RunAnswer) → IsAnswerToRun over differs low middle Same → IsAnswerToRun over differs middle high second → IsAnswerToRun over differs low high second
    joined-same (Full output) first second = full-second output first.0 second
    joined-same (Differ word output) first second =
        (within-both first.0 second.0, differ-second word output second.1 (λ other earlier i h. absurd (first.1 other earlier i h)))
    joined-same Same first second = (within-both first.0 second.0, agree-both first.1 second.1)

    pub joined-differ-full : (word : List Bool) (output later : ℕ) → IsAnswerToRun over differs low middle (Differ word output) → IsAnswerToRun over differs middle high (Full later) → IsAnswerToRun over differs low high (Full later)
    joined-differ-full word output later first second = full-second later first.0 second

    pub joined-differ-same : (word : List Bool) (output : ℕ) → IsAnswerToRun over differs low middle (Differ word output) → IsAnswerToRun over differs middle high Same → IsAnswerToRun over differs low high (Differ word output)
    joined-differ-same word output first second =
        (within-both first.0 second.0, differ-first word output first.1 (λ other earlier i h. absurd (second.1 other earlier i h)))

    pub joined-first : (word other : List Bool) (output later : ℕ) → (IsBefore other word → ⊥) → IsAnswerToRun over differs low middle (Differ word output) → IsAnswerToRun over differs middle high (Differ other later) → IsAnswerToRun over differs low high (Differ word output)
    joined-first word other output later not_before first second = (
      within-both first.0 second.0,
      differ-first word output first.1 (λ o earlier i h. let far = second.1.least o earlier i h in
          elim (cases_lt (word_number earlier) (word_number word)) [
            | inl less ↦ absurd (not_before (omega (arith, far, less)))
            | inr le ↦ le
          ]),
    )

    pub joined-second : (word other : List Bool) (output later : ℕ) → IsBefore other word → IsAnswerToRun over differs low middle (Differ word output) → IsAnswerToRun over differs middle high (Differ other later) → IsAnswerToRun over differs low high (Differ other later)
    joined-second word other output later before first second =
        (within-both first.0 second.0, differ-second other later second.1 (λ o earlier i h. let far = first.1.least o earlier i h in omega (arith, far, before)))

  -- ---- a run has one answer, where all words that differ have one width

  module _ (wide : (i j : ℕ) (v w : List Bool) → differs i v → differs j w → length v ≡ length w) (low high : ℕ) where
    one-full : (i j : ℕ) → IsFirstOver over low high i → IsFirstOver over low high j → i ≡ j
    one-full i j f g =
        elim (cases_lt i j) [
          | inl less ↦ absurd (g.before i f.is_in.after less f.is_over)
          | inr le ↦
              elim (cases_lt j i) [
                | inl less ↦ absurd (f.before j g.is_in.after less g.is_over)
                | inr ge ↦ omega (arith, le, ge)
              ]
        ]

    one-word : (v w : List Bool) (i j : ℕ) → IsFirstDifference differs low high v i → IsFirstDifference differs low high w j → v ≡ w
    one-word v w i j f g =
        let le = f.least j w g.is_in g.here in
        let ge = g.least i v f.is_in f.here in
        one_word v w (wide i j v w f.here g.here) (omega (arith, le, ge))

    one-output : (v w : List Bool) (i j : ℕ) → IsFirstDifference differs low high v i → IsFirstDifference differs low high w j → i ≡ j
    one-output v w i j f g =
        let same = one-word v w i j f g in
        elim (cases_lt i j) [
          | inl less ↦ absurd (g.before i f.is_in.after less (subst (differs i) same f.here))
          | inr le ↦
              elim (cases_lt j i) [
                | inl less ↦ absurd (f.before j g.is_in.after less (subst (differs j) (sym same) g.here))
                | inr ge ↦ omega (arith, le, ge)
              ]
        ]

    pub one_answer : (x y : RunAnswer) → IsAnswerToRun over differs low high x → IsAnswerToRun over differs low high y → x ≡ y
    one_answer (Full i) (Full j) f g = ap Full (one-full i j f g)
    one_answer (Full i) (Differ w j) f g = absurd (g.0 i f.is_in f.is_over)
    one_answer (Full i) Same f g = absurd (g.0 i f.is_in f.is_over)
    one_answer (Differ v i) (Full j) f g = absurd (f.0 j g.is_in g.is_over)
    one_answer (Differ v i) (Differ w j) f g =
        let one = one-word v w i j f.1 g.1 in let two = one-output v w i j f.1 g.1 in λ k. Differ (one k) (two k)
    one_answer (Differ v i) Same f g = absurd (g.1 i v f.1.is_in f.1.here)
    one_answer Same (Full j) f g = absurd (f.0 j g.is_in g.is_over)
    one_answer Same (Differ w j) f g = absurd (f.1 j w g.1.is_in g.1.here)
    one_answer Same Same f g = refl

-- ---- the answers to outputs of a pipeline and models

module _ (c : Circuit) (models : List Model) (limit : ℕ) where
  -- words that differ have the width of the pipeline
  pub one_width : (i j : ℕ) (v w : List Bool) → DiffersAt c models i v → DiffersAt c models j w → length v ≡ length w
  one_width i j v w f g = f.wide ∙ sym g.wide

  pub one_run : (low high : ℕ) (x y : RunAnswer) → IsRunAnswer c models limit low high x → IsRunAnswer c models limit low high y → x ≡ y
  one_run low high x y f g = one_answer (IsOver c models limit) (DiffersAt c models) one_width low high x y f g

  one_same : run.Same ≡ run.Same
  one_same = refl

  -- the answer of a run, as an answer to all outputs
  abbrev told : RunAnswer → Result Compared CompareFault
  told run.Same = Ok compared.Same
  told (run.Differ word output) = Ok (compared.Differ word output)
  told (run.Full output) = Err (fault.Full output)

  pub told-is : (x : RunAnswer) → HaveWidths c models → IsRunAnswer c models limit 0 (length c.outputs) x → IsAnswer c models limit (told x)
  told-is run.Same widths is = (widths, is)
  told-is (run.Differ word output) widths is = (widths, is)
  told-is (run.Full output) widths is = (widths, is)

  -- an answer to all outputs is that of a run, or that the widths differ
  pub data Told (x : Result Compared CompareFault) : Type 0 where
    of_run : (r : RunAnswer) → x ≡ told r → HaveWidths c models → IsRunAnswer c models limit 0 (length c.outputs) r → Told x
    of_widths : x ≡ Ok compared.Widths → (HaveWidths c models → ⊥) → Told x

  tell : (x : Result Compared CompareFault) → x ≢ Err fault.Memory → IsAnswer c models limit x → Told x
  tell (Ok compared.Same) here is = of_run run.Same refl is.0 is.1
  tell (Ok (compared.Differ word output)) here is = of_run (run.Differ word output) refl is.0 is.1
  tell (Ok compared.Widths) here is = of_widths refl is
  tell (Err (fault.Full output)) here is = of_run (run.Full output) refl is.0 is.1
  tell (Err fault.Memory) here is = absurd (here refl)

  pub one_whole : (x y : Result Compared CompareFault) → x ≢ Err fault.Memory → y ≢ Err fault.Memory → IsAnswer c models limit x → IsAnswer c models limit y → x ≡ y
  one_whole x y no_x no_y f g = by (tell x no_x f) (tell y no_y g)
    where
      by : Told x → Told y → x ≡ y
      by (of_run r e widths is) (of_run s d more so) = e ∙ ap told (one_run 0 (length c.outputs) r s is so) ∙ sym d
      by (of_run r e widths is) (of_widths d none) = absurd (none widths)
      by (of_widths e none) (of_run s d more so) = absurd (none more)
      by (of_widths e none) (of_widths d neither) = e ∙ sym d

  -- the answer to one output is that to a run of one
  pub run-of-same : (low : ℕ) → IsBitAnswer c models limit (low + 1) bit.Same → IsRunAnswer c models limit low (low + 1) run.Same
  run-of-same low is = (one-within (IsOver c models limit) (DiffersAt c models) low is.0, one-agree (IsOver c models limit) (DiffersAt c models) low is.1)

  pub run-of-differ : (low : ℕ) (word : List Bool) → IsBitAnswer c models limit (low + 1) (bit.Differ word) → IsRunAnswer c models limit low (low + 1) (run.Differ word (low + 1))
  run-of-differ low word is = (one-within (IsOver c models limit) (DiffersAt c models) low is.0, one-difference (IsOver c models limit) (DiffersAt c models) low word is.1 is.2)

  pub run-of-full : (low : ℕ) → IsBitAnswer c models limit (low + 1) bit.Full → IsRunAnswer c models limit low (low + 1) (run.Full (low + 1))
  run-of-full low is = one-over (IsOver c models limit) (DiffersAt c models) low is
