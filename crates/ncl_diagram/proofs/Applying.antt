-- What one operation makes, from what it made at the operands' branches.
use Rattle.ncl_diagram.proofs.Terms.{AddsBeads, AreAnswers, Bool, Grown, HasNoRoom, IsAnswer, IsBeadOf, IsCanonical, Joins, Key, Kind, Lacks, Leads, Least, List, Node, None, Option, Ref, Some, There, [], ap, arith, bead_of, branch, cases_lt, false, gate_from, inl, inr, length, length-append, level_of, map, places, refl, set, slice_get, subst, suc, sym, table_from, true, zero, ℕ, ◌++◌, ◌+◌, ◌-◌, ◌<◌, ◌∙◌, ◌∷◌, ◌≡◌, ◌≢◌, ◌≤◌, ◌⊎◌}
use Rattle.ncl_diagram.proofs.Growth.{grown_along, grown_itself, branch_grown, there_grown, above_grown, above_back, answer_grown, adds_grown}
use Rattle.ncl_diagram.proofs.Joining.{leads_node}
use Rattle.ncl_diagram.proofs.MemoLaws.{answer_before}
use Rattle.ncl_diagram.proofs.Step.{above_branches, there_after, step_answer, bead_up, bead_here, lacks_here}

pub least_grown : (n : ℕ) (a b : List Node) (level : ℕ) (ps : List ℕ) → Grown a b → There a ps → Least n a level ps → Least n b level ps
least_grown n a b level ps g t l = record { bit = l.bit; above = above_grown n a b g level ps t l.above; least = λ k h. l.least k (above_back n a b g k ps t h) }

pub branches_grown : (a b : List Node) (level : ℕ) (v : Bool) (ps : List ℕ) → Grown a b → There a ps → map (branch b level v) ps ≡ map (branch a level v) ps
branches_grown a b level v [] g t = refl
branches_grown a b level v (p ∷ ps) g t = let h = branch_grown a b g level v p t.0 in let r = branches_grown a b level v ps g t.1 in λ i. h i ∷ r i

-- what is known after the first recursive call
pub record Lower (n : ℕ) (kind : Kind) (a b : List Node) (ps lows highs : List ℕ) (level : ℕ) : Type 0 where
  pub ca : IsCanonical n a
  pub cb : IsCanonical n b
  pub grown : Grown a b
  pub there : There a ps
  pub least : Least n a level ps
  pub lows_are : lows ≡ map (branch a level false) ps
  pub highs_are : highs ≡ map (branch a level true) ps
  pub adds : AddsBeads n kind (length a) (length b) b lows

-- and after the second
pub record Higher (n : ℕ) (kind : Kind) (a b d : List Node) (ps lows highs : List ℕ) (level low : ℕ) : Type 0 where
  pub first : Lower n kind a b ps lows highs level
  pub cd : IsCanonical n d
  pub grown : Grown b d
  pub answer : IsAnswer n kind b lows low
  pub adds : AddsBeads n kind (length b) (length d) d highs

-- these facts, by the calls' clauses
pub lower : {n : ℕ} {a b : List Node} {ps lows highs : List ℕ} {level : ℕ} (kind : Kind) → IsCanonical n a → IsCanonical n b → Grown a b → There a ps → Least n a level ps → lows ≡ map (branch a level false) ps → highs ≡ map (branch a level true) ps → AddsBeads n kind (length a) (length b) b lows → Lower n kind a b ps lows highs level
lower kind ca cb grown there least lows_are highs_are adds = record { ca = ca; cb = cb; grown = grown; there = there; least = least; lows_are = lows_are; highs_are = highs_are; adds = adds }

pub higher : {n : ℕ} {kind : Kind} {a b d : List Node} {ps lows highs : List ℕ} {level low : ℕ} → Lower n kind a b ps lows highs level → IsCanonical n d → Grown b d → IsAnswer n kind b lows low → AddsBeads n kind (length b) (length d) d highs → Higher n kind a b d ps lows highs level low
higher first cd grown answer adds = record { first = first; cd = cd; grown = grown; answer = answer; adds = adds }

-- after the first call
module _ {n : ℕ} {kind : Kind} {a b : List Node} {ps lows highs : List ℕ} {level : ℕ} (u : Lower n kind a b ps lows highs level) where
  pub lower_there : There b lows
  lower_there = there_grown a b u.grown lows (there_after n a level false ps lows u.ca u.lows_are u.there)

  pub higher_there : There b highs
  higher_there = there_grown a b u.grown highs (there_after n a level true ps highs u.ca u.highs_are u.there)

  -- a bead of the table of the branches is one of the whole, in any later list
  up_low : (e : List Node) (t : List Bool) → Grown a e → IsCanonical n e → IsBeadOf n kind e lows t → IsBeadOf n kind e ps t
  up_low e t g c h =
      bead_up n kind e level false ps t c (least_grown n a e level ps g u.there u.least)
      (subst (λ (qs : List ℕ). IsBeadOf n kind e qs t) (u.lows_are ∙ sym (branches_grown a e level false ps g u.there)) h)

  up_high : (e : List Node) (t : List Bool) → Grown a e → IsCanonical n e → IsBeadOf n kind e highs t → IsBeadOf n kind e ps t
  up_high e t g c h =
      bead_up n kind e level true ps t c (least_grown n a e level ps g u.there u.least)
      (subst (λ (qs : List ℕ). IsBeadOf n kind e qs t) (u.highs_are ∙ sym (branches_grown a e level true ps g u.there)) h)

  pub adds_lower : AddsBeads n kind (length a) (length b) b ps
  adds_lower k x lo hi e = up_low b _ u.grown u.cb (u.adds k x lo hi e)

  pub lacks_lower : Lacks n kind b lows → Lacks n kind b ps
  lacks_lower l = (l.0, up_low b l.0 u.grown u.cb l.1, l.2)

pub in_two : (k b : ℕ) → (k < b) ⊎ (b ≤ k)
in_two k b = cases_lt k b

-- after the second
module _ {n : ℕ} {kind : Kind} {a b d : List Node} {ps lows highs : List ℕ} {level low : ℕ} (u : Higher n kind a b d ps lows highs level low) where
  grown_both : Grown a d
  grown_both = grown_along a b d u.first.grown u.grown

  -- what both calls added, in any later list
  adds_both : (e : List Node) → Grown d e → IsCanonical n e → AddsBeads n kind (length a) (length d) e ps
  adds_both e g c k x lo hi got = by (in_two k (length b))
    where
      all : Grown a e
      all = grown_along a d e grown_both g

      by : (k < length b) ⊎ (length b ≤ k) → IsBeadOf n kind e ps (bead_of n e k x)
      by (inl h) = up_low u.first e _ all c
          (adds_grown n kind (length a) (length b) b e lows (omega arith) u.first.cb (grown_along b d e u.grown g) (lower_there u.first) u.first.adds k x lo h got)
      by (inr h) = up_high u.first e _ all c
          (adds_grown n kind (length b) (length d) d e highs (omega arith) u.cd g (there_grown b d u.grown highs (higher_there u.first)) u.adds k x h hi got)

  pub adds_higher : AddsBeads n kind (length a) (length d) d ps
  adds_higher = adds_both d (grown_itself d) u.cd

  pub lacks_higher : Lacks n kind d highs → Lacks n kind d ps
  lacks_higher l = (l.0, up_high u.first d l.0 grown_both u.cd l.1, l.2)

  -- the least bit and the first answer, in any later list
  least_now : (e : List Node) → Grown d e → Least n e level ps
  least_now e g = least_grown n a e level ps (grown_along a d e grown_both g) u.first.there u.first.least

  low_answer : (e : List Node) → Grown d e → IsAnswer n kind e (map (branch e level false) ps) low
  low_answer e g =
      subst (λ (qs : List ℕ). IsAnswer n kind e qs low) (u.first.lows_are ∙ sym (branches_grown a e level false ps (grown_along a d e grown_both g) u.first.there))
      (answer_grown n kind b e lows low u.first.cb (grown_along b d e u.grown g) (lower_there u.first) u.answer)

  -- the first answer may be a child of a node at the bit
  pub low_fits : (low < length d + 2) × (level + 1 ≤ level_of n d low)
  low_fits =
      let x = low_answer d (grown_itself d) in
      let l = least_now d (grown_itself d) in
      let lt = l.bit in
      (x.there, x.later (level + 1) (omega arith) (above_branches n d level false ps u.cd l.bit l.above))

-- with both answers
module _ {n : ℕ} {kind : Kind} {a b d : List Node} {ps lows highs : List ℕ} {level low high : ℕ} (u : Higher n kind a b d ps lows highs level low) (y : IsAnswer n kind d highs high) where
  high_answer : (e : List Node) → Grown d e → IsAnswer n kind e (map (branch e level true) ps) high
  high_answer e g =
      subst (λ (qs : List ℕ). IsAnswer n kind e qs high) (u.first.highs_are ∙ sym (branches_grown a e level true ps (grown_along a d e (grown_both u) g) u.first.there))
      (answer_grown n kind d e highs high u.cd g (there_grown b d u.grown highs (higher_there u.first)) y)

  -- so may the second
  pub high_fits : (high < length d + 2) × (level + 1 ≤ level_of n d high)
  high_fits =
      let x = high_answer d (grown_itself d) in
      let l = least_now u d (grown_itself d) in
      let lt = l.bit in
      (x.there, x.later (level + 1) (omega arith) (above_branches n d level true ps u.cd l.bit l.above))

  pub answer_joined : {e : List Node} {r : ℕ} → Joins n d e level low high → Leads n e level r low high → IsAnswer n kind e ps r
  answer_joined {e = e} {r = r} j leads = step_answer n kind e level ps r low high j.canonical (least_now u e j.grown) leads (low_answer u e j.grown) (high_answer e j.grown)

  -- the node that came is a bead
  pub adds_joined : {e : List Node} → Joins n d e level low high → AddsBeads n kind (length a) (length e) e ps
  adds_joined {e = e} j k x lo hi got = by (in_two k (length d))
    where
      leads : (x.bit ≡ level) × (x.low.place ≡ low) × (x.high.place ≡ high) × (low ≢ high) → Leads n e level (suc (suc k)) low high
      leads q = subst (λ (m : ℕ). Leads n e m (suc (suc k)) low high) q.0
          (subst (λ (m : ℕ). Leads n e x.bit (suc (suc k)) m high) q.1
          (subst (λ (m : ℕ). Leads n e x.bit (suc (suc k)) x.low.place m) q.2 (leads_node n e x (suc (suc k)) got)))

      by : (k < length d) ⊎ (length d ≤ k) → IsBeadOf n kind e ps (bead_of n e k x)
      by (inl h) = adds_both u e j.grown j.canonical k x lo h got
      by (inr h) =
          let q = j.came k x h got in
          let least = least_now u e j.grown in
          let whole = answer_joined j (leads q) in
          let lt = least.bit in
          let is : bead_of n e k x ≡ gate_from kind e (n - level) level ps =
          ap (λ (m : ℕ). table_from e (n - m) m (suc (suc k))) q.0 ∙ whole.table (n - level) level (omega arith) least.above in
          subst (λ (t : List Bool). IsBeadOf n kind e ps t) (sym is) (bead_here n kind e level ps low high j.canonical least (low_answer u e j.grown) (high_answer e j.grown) q.3)

  pub lacks_joined : HasNoRoom n d level low high → Lacks n kind d ps
  lacks_joined f =
      lacks_here n kind d level ps (record { bit = level; low = record { place = low }; high = record { place = high } }) u.cd (least_now u d (grown_itself d)) refl
      (low_answer u d (grown_itself d)) (high_answer d (grown_itself d)) f.apart
      (λ k e. f.absent k _ e refl refl refl)

-- the memo
pub memo_grown : (n : ℕ) (kind : Kind) (a b : List Node) (keys : List Key) (found : List (Option Ref)) → IsCanonical n a → Grown a b → AreAnswers n kind a keys found → AreAnswers n kind b keys found
memo_grown n kind a b keys found c g m = record {
  long = m.long;
  there = λ i key r e f. there_grown a b g (places key) (m.there i key r e f);
  answer = λ i key r e f. answer_grown n kind a b (places key) r.place c g (m.there i key r e f) (m.answer i key r e f);
}

-- with a key that has no answer
pub memo_pushed : (n : ℕ) (kind : Kind) (a : List Node) (keys : List Key) (found : List (Option Ref)) (key : Key) → AreAnswers n kind a keys found → AreAnswers n kind a (keys ++ key ∷ []) (found ++ None ∷ [])
memo_pushed n kind a keys found key m = record {
  long = let long = m.long in omega (arith, length-append keys (key ∷ []), length-append found (None ∷ []));
  there = λ i q r e h. let w = answer_before keys key found m.long i q r e h in m.there i q r w.0 w.1;
  answer = λ i q r e h. let w = answer_before keys key found m.long i q r e h in m.answer i q r w.0 w.1;
}

pub get_set : {X : Type 0} (xs : List X) (at i : ℕ) (v x : X) → slice_get (set xs at v) i ≡ Some x → (slice_get xs i ≡ Some x) ⊎ ((i ≡ at) × (v ≡ x))
get_set [] at i v x e = inl e
get_set (y ∷ xs) zero zero v x e = inr (refl, cc)
get_set (y ∷ xs) zero (suc i) v x e = inl e
get_set (y ∷ xs) (suc at) zero v x e = inl e
get_set (y ∷ xs) (suc at) (suc i) v x e = more (get_set xs at i v x e)
  where
    more : (slice_get xs i ≡ Some x) ⊎ ((i ≡ at) × (v ≡ x)) → (slice_get (y ∷ xs) (suc i) ≡ Some x) ⊎ ((suc i ≡ suc at) × (v ≡ x))
    more (inl h) = inl h
    more (inr p) = inr (ap suc p.0, p.1)

pub length_set : {X : Type 0} (xs : List X) (at : ℕ) (v : X) → length (set xs at v) ≡ length xs
length_set [] at v = refl
length_set (y ∷ xs) zero v = refl
length_set (y ∷ xs) (suc at) v = ap suc (length_set xs at v)

pub some_only : {X : Type 0} (x y : X) → Some x ≡ Some y → x ≡ y
some_only x y e = cc

pub memo_noted : (n : ℕ) (kind : Kind) (a : List Node) (keys : List Key) (found : List (Option Ref)) (at : ℕ) (key : Key) (r : Ref) → AreAnswers n kind a keys found → slice_get keys at ≡ Some key → There a (places key) → IsAnswer n kind a (places key) r.place → AreAnswers n kind a keys (set found at (Some r))
memo_noted n kind a keys found at key r m here t x = record {
  long = m.long ∙ sym (length_set found at (Some r));
  there = λ i q s e f. there i q s e (get_set found at i (Some r) (Some s) f);
  answer = λ i q s e f. answer i q s e (get_set found at i (Some r) (Some s) f);
}
  where
    same : (i : ℕ) (q : Key) → slice_get keys i ≡ Some q → i ≡ at → key ≡ q
    same i q e is = some_only key q (sym here ∙ ap (slice_get keys) (sym is) ∙ e)

    there : (i : ℕ) (q : Key) (s : Ref) → slice_get keys i ≡ Some q → (slice_get found i ≡ Some (Some s)) ⊎ ((i ≡ at) × (Some r ≡ Some s)) → There a (places q)
    there i q s e (inl f) = m.there i q s e f
    there i q s e (inr p) = subst (λ (k : Key). There a (places k)) (same i q e p.0) t

    answer : (i : ℕ) (q : Key) (s : Ref) → slice_get keys i ≡ Some q → (slice_get found i ≡ Some (Some s)) ⊎ ((i ≡ at) × (Some r ≡ Some s)) → IsAnswer n kind a (places q) s.place
    answer i q s e (inl f) = m.answer i q s e f
    answer i q s e (inr p) = subst (λ (k : Key). IsAnswer n kind a (places k) s.place) (same i q e p.0) (subst (λ (v : Ref). IsAnswer n kind a (places key) v.place) (some_only r s p.1) x)
