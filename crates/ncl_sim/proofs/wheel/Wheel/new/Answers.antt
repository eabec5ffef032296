use Rattle.ncl_sim.proofs.CalendarLaws.{Event, IsWheel, List, [], ap, joined, list_at, suc, tables, zero, ℕ, ◌++◌, ◌∙◌, ◌∷◌, ◌≡◌}
use Rattle.ncl_sim.proofs.Terms.{All, All-nil, IsDueIn, arith, length-replicate, map-append, refl, replicate, replicate_more, subst, sym, true}
use Rattle.ncl_sim.proofs.wheel.Wheel.new.Goals as goal

-- nothing is in lists without anything
none : (n : ℕ) → joined (replicate {A = List Event} n []) ≡ []
none zero = refl
none (suc n) = none n

none_at : (n slot : ℕ) → list_at (replicate {A = List Event} n []) slot ≡ []
none_at zero slot = refl
none_at (suc n) zero = refl
none_at (suc n) (suc slot) = none_at n slot

empty : (n : ℕ) (lists : List (List Event)) → n ≡ 64 → lists ≡ replicate n [] → IsWheel 0 true lists
empty n lists many is = subst (IsWheel 0 true) (sym is) (record {
  size = length-replicate n [] ∙ many;
  dues = λ slot. subst (All (IsDueIn 0 slot)) (sym (none_at n slot)) (All-nil _);
  none = λ _. none n;
})

pub loop-preserved : goal.loop-preserved
loop-preserved c =
    ap tables c.in_ok-push.ensures.items ∙ map-append _ c.loop.lists.items _ ∙ (λ i. c.loop.invariant i ++ c.new.ensures.items i ∷ []) ∙ replicate_more c.loop.counter []

pub returns : goal.returns
returns c = λ i. record { time = 0; waiting = (ap joined c.loop.invariant ∙ none c.loop.counter) i }

pub invariant_of-result : goal.invariant_of-result
invariant_of-result c = empty c.loop.counter (tables c.loop.lists.items) (omega (arith, c.loop-test.false)) c.loop.invariant
