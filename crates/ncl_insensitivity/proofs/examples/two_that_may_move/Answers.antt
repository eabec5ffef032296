use Rattle.ncl_insensitivity.proofs.Terms.{IsPersistent, Item, Lower, Raise, Ready, Take, both_ways, enabled, false, fire, inl, inr, refl, step, subst, suc, sym, true, where_two_may_move, wires_pipeline, zero, ℕ, ◌∙◌, ◌≡◌, ◌⊎◌}
use Rattle.ncl_shape.specs.declared.item.Item.TheVariants.{Cell}
use Rattle.ncl_insensitivity.proofs.examples.two_that_may_move.Goals as goal

-- the item is one of the two
abbrev IsOneOfThem : Item → Type 0
IsOneOfThem item = (item ≡ Lower 0) ⊎ (item ≡ fire 4)

-- of an item that can't happen there is nothing to show
unmoved : (item : Item) → enabled wires_pipeline where_two_may_move item ≡ false → enabled wires_pipeline where_two_may_move item ≡ true → IsOneOfThem item
unmoved item still moves = absurd (both_ways (enabled wires_pipeline where_two_may_move item) still moves)

one_cell : (n : ℕ) → enabled wires_pipeline where_two_may_move (fire n) ≡ true → IsOneOfThem (fire n)
one_cell zero = unmoved (fire 0) refl
one_cell (suc zero) = unmoved (fire 1) refl
one_cell (suc (suc zero)) = unmoved (fire 2) refl
one_cell (suc (suc (suc zero))) = unmoved (fire 3) refl
one_cell (suc (suc (suc (suc zero)))) = λ moves. inr refl
one_cell (suc (suc (suc (suc (suc zero))))) = unmoved (fire 5) refl
one_cell (suc (suc (suc (suc (suc (suc n)))))) = unmoved (fire (suc (suc (suc (suc (suc (suc n))))))) refl

one_rail : (bit : ℕ) → enabled wires_pipeline where_two_may_move (Lower bit) ≡ true → IsOneOfThem (Lower bit)
one_rail zero = λ moves. inl refl
one_rail (suc bit) = unmoved (Lower (suc bit)) refl

-- no other item is enabled
one_of_them : (item : Item) → enabled wires_pipeline where_two_may_move item ≡ true → IsOneOfThem item
one_of_them (Cell c) = one_cell c.0
one_of_them (Raise bit) = unmoved (Raise bit) refl
one_of_them (Lower bit) = one_rail bit
one_of_them Take = unmoved Take refl
one_of_them Ready = unmoved Ready refl

-- the second item is enabled once the first has stepped
abbrev IsLeft : Item → Item → Type 0
IsLeft item other = enabled wires_pipeline (step wires_pipeline where_two_may_move item) other ≡ true

both : (item other first second : Item) → item ≡ first → other ≡ second → IsLeft first second → IsLeft item other
both item other first second is_first is_second left =
    subst (λ x. IsLeft x other) (sym is_first) (subst (λ y. IsLeft first y) (sym is_second) left)

each_is_left : IsPersistent wires_pipeline where_two_may_move
each_is_left item other apart now then = by (one_of_them item now) (one_of_them other then)
  where
    by : IsOneOfThem item → IsOneOfThem other → IsLeft item other
    by (inl lowers) (inl same) = absurd (apart (lowers ∙ sym same))
    by (inl lowers) (inr fires) = both item other (Lower 0) (fire 4) lowers fires refl
    by (inr fires) (inl lowers) = both item other (fire 4) (Lower 0) fires lowers refl
    by (inr fires) (inr same) = absurd (apart (fires ∙ sym same))

pub returns-clause-differ : goal.returns-clause-differ
returns-clause-differ c = λ same. absurd cc

pub returns-clause-persistent : goal.returns-clause-persistent
returns-clause-persistent c = each_is_left
