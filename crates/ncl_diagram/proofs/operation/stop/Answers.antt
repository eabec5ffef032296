use Rattle.ncl_diagram.proofs.Terms.{Bool, Kind, [], arith, inl, inr, is_set-masked, is_set-masked_off, list_all, only_one, places, set_of, sym, true, ◌∙◌, ◌∷◌, ◌≡◌}
use Rattle.ncl_diagram.proofs.operation.stop.Goals as goal

-- the gate at four values that are four others
same_pins : (kind : Kind) (a b c d x y z w : Bool) → a ≡ x → b ≡ y → c ≡ z → d ≡ w → set_of kind (x ∷ y ∷ z ∷ w ∷ []) ≡ set_of kind (a ∷ b ∷ c ∷ d ∷ [])
same_pins kind a b c d x y z w p q r s = λ i. set_of kind (sym p i ∷ sym q i ∷ sym r i ∷ sym s i ∷ [])

pub returns-then-values-eq0-clause-stop : goal.returns-then-values-eq0-clause-stop
returns-then-values-eq0-clause-stop c =
    let pins = same_pins c.args.kind _ _ _ _ _ _ _ _ c.known_values.ensures.possible c.known_values-2.ensures.possible c.known_values-3.ensures.possible c.known_values-4.ensures.possible in
    inl (c.constant.ensures, pins ∙ sym (c.set_values-values.ensures 0) ∙ is_set-masked_off c.set_values-values.result 0 c.if-values-eq0.true)

pub returns-then-values-ne0-clause-stop : goal.returns-then-values-ne0-clause-stop
returns-then-values-ne0-clause-stop c =
    let pins = same_pins c.args.kind _ _ _ _ _ _ _ _ c.known_values.ensures.certain c.known_values-2.ensures.certain c.known_values-3.ensures.certain c.known_values-4.ensures.certain in
    inr (inl (c.constant-then-values-ne0.ensures, pins ∙ sym (c.set_values-values.ensures 1) ∙ is_set-masked c.set_values-values.result 1 c.if-values-ne0.true))

pub returns-then-all-clause-stop : goal.returns-then-all-clause-stop
returns-then-all-clause-stop c =
    let possible = same_pins c.args.kind _ _ _ _ _ _ _ _ c.known_values.ensures.possible c.known_values-2.ensures.possible c.known_values-3.ensures.possible c.known_values-4.ensures.possible in
    let certain = same_pins c.args.kind _ _ _ _ _ _ _ _ c.known_values.ensures.certain c.known_values-2.ensures.certain c.known_values-3.ensures.certain c.known_values-4.ensures.certain in
    let all : list_all (only_one c.operand-one.result.place) (places c.args.key) ≡ true = grind arith in
    inr (inr (possible ∙ sym (c.set_values-values.ensures 0) ∙ is_set-masked c.set_values-values.result 0 c.if-values-eq0.false, certain ∙ sym (c.set_values-values.ensures 1) ∙ is_set-masked_off c.set_values-values.result 1 c.if-values-ne0.false, all, c.operand-one.ensures.among))
