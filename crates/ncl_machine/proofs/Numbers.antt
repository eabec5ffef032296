-- Numbers of waves: even and odd, halves, and the numbers of a bank and the next.
use Rattle.ncl_machine.proofs.Terms.{Bool, ap, arith, both_ways, cond, eq-eqb, false, if◌then◌else◌, nat_eq, ne_eqb, not, not-not, refl, subst, suc, sym, true, zero, ℕ, ◌*◌, ◌+◌, ◌∙◌, ◌≡◌, ◌≤◌}
use Rattle.ncl_machine.proofs.TruthValues.{not_itself}

abbrev pub even : ℕ → Bool
even zero = true
even (suc n) = not (even n)

abbrev pub half : ℕ → ℕ
half zero = zero
half (suc n) = cond (even n) (half n) (suc (half n))

-- 1 for true
abbrev pub one_if : Bool → ℕ
one_if b = if b then 1 else 0

-- a family with the value at one index replaced
abbrev pub at_place : {X : Type 0} → (ℕ → X) → ℕ → X → ℕ → X
at_place f k x j = cond (nat_eq k j) x (f j)

-- the numbers of a bank and the next: equal, or differing by one, and then the bank is at the greater
pub data AreNear (At : ℕ → Type 0) (a b : ℕ) : Type 0 where
  equal : a ≡ b → AreNear At a b
  ahead : a ≡ suc b → At a → AreNear At a b
  behind : b ≡ suc a → At b → AreNear At a b

pub one_if-most : (b : Bool) → one_if b ≤ 1
one_if-most true = omega arith
one_if-most false = omega arith

-- ---- even and odd

pub even-double : (x : ℕ) → even (2 * x) ≡ true
even-double zero = refl
even-double (suc x) =
    let e : 2 * suc x ≡ suc (suc (2 * x)) = omega arith in
    ap even e ∙ not-not _ ∙ even-double x

-- of twice a number, and one more where a flag is set
pub even-given : (x : ℕ) (b : Bool) → even (2 * x + one_if b) ≡ not b
even-given x true = let e : 2 * x + 1 ≡ suc (2 * x) = omega arith in ap even e ∙ ap not (even-double x)
even-given x false = let e : 2 * x + 0 ≡ 2 * x = omega arith in ap even e ∙ even-double x

-- ---- halves

-- two more is half one more
half-more : (t : ℕ) → half (suc (suc t)) ≡ suc (half t)
half-more t = go (even t) refl
  where
    go : (e : Bool) → even t ≡ e → half (suc (suc t)) ≡ suc (half t)
    go true ev = ap (λ b. cond (not b) (cond b (half t) (suc (half t))) (suc (cond b (half t) (suc (half t))))) ev
    go false od = ap (λ b. cond (not b) (cond b (half t) (suc (half t))) (suc (cond b (half t) (suc (half t))))) od

pub half-given : (x : ℕ) (b : Bool) → half (2 * x + one_if b) ≡ x
half-given zero true = refl
half-given zero false = refl
half-given (suc x) true = let e : 2 * suc x + 1 ≡ suc (suc (2 * x + 1)) = omega arith in ap half e ∙ half-more (2 * x + 1) ∙ ap suc (half-given x true)
half-given (suc x) false =
    let e : 2 * suc x + 0 ≡ suc (suc (2 * x + 0)) = omega arith in ap half e ∙ half-more (2 * x + 0) ∙ ap suc (half-given x false)

pub double-half : (t : ℕ) → even t ≡ true → 2 * half t ≡ t
double-half zero ev = refl
double-half (suc zero) ev = absurd (both_ways false refl ev)
double-half (suc (suc t)) ev =
    let rest : 2 * half t ≡ t = double-half t (sym (not-not (even t)) ∙ ev) in
    let more : half (suc (suc t)) ≡ suc (half t) = half-more t in
    let twice : 2 * half (suc (suc t)) ≡ 2 * suc (half t) = ap (λ x. 2 * x) more in
    omega (arith, rest, twice)

-- ---- families

pub place-here : {X : Type 0} (f : ℕ → X) (k : ℕ) (x : X) → at_place f k x k ≡ x
place-here f k x = ap (λ t. cond t x (f k)) (eq-eqb k k refl)

pub place-other : {X : Type 0} (f : ℕ → X) (k : ℕ) (x : X) (j : ℕ) → (k ≡ j → ⊥) → at_place f k x j ≡ f j
place-other f k x j apart = ap (λ t. cond t x (f j)) (ne_eqb k j apart)

-- ---- neighbours

-- neighbours of one parity have one number
pub near-same : (P : ℕ → Type 0) (a b : ℕ) → AreNear P a b → even a ≡ even b → a ≡ b
near-same P a b (equal e) same = e
near-same P a b (ahead e at) same = absurd (not_itself (even b) (sym same ∙ ap even e))
near-same P a b (behind e at) same = absurd (not_itself (even a) (same ∙ ap even e))

pub near-map : (P Q : ℕ → Type 0) → ((t : ℕ) → P t → Q t) → (a b : ℕ) → AreNear P a b → AreNear Q a b
near-map P Q f a b (equal e) = equal e
near-map P Q f a b (ahead e at) = ahead e (f a at)
near-map P Q f a b (behind e at) = behind e (f b at)

pub near-numbers : (P : ℕ → Type 0) {a b x y : ℕ} → a ≡ x → b ≡ y → AreNear P a b → AreNear P x y
near-numbers P {a = a} {y = y} e f near = subst (λ z. AreNear P z y) e (subst (λ z. AreNear P a z) f near)
