use Rattle.ncl_match.proofs.Terms.{[], DataCell, List, Rails, ap, append_assoc, arith, get_or, length, no_rails, refl, register_cell, register_cells, suc, sym, take, zero, ℕ, ◌++◌, ◌+◌, ◌<◌, ◌∙◌, ◌∷◌, ◌≡◌}
use Rattle.ncl_match.proofs.planning.add_registers.Goals as goal

-- one bit more
registers-more : (before bits : List Rails) (k : ℕ) (d : Rails) → length before ≡ length bits → k < length bits
    → register_cells (take (suc k) before) (take (suc k) bits) ≡ register_cells (take k before) (take k bits) ++ register_cell (get_or before k d).zero.0 (get_or bits k d).zero.0 ∷ register_cell (get_or before k d).one.0 (get_or bits k d).one.0 ∷ []
registers-more [] [] k d many lt = absurd (omega arith)
registers-more [] (y ∷ bits) k d many lt = absurd (omega (arith, many))
registers-more (x ∷ before) [] k d many lt = absurd (omega (arith, many))
registers-more (x ∷ before) (y ∷ bits) zero d many lt = refl
registers-more (x ∷ before) (y ∷ bits) (suc k) d many lt =
    ap (λ l. register_cell x.zero.0 y.zero.0 ∷ register_cell x.one.0 y.one.0 ∷ l) (registers-more before bits k d (omega (arith, many)) (omega (arith, lt)))

-- two cells more
pushed-two : (first rest now mid new : List DataCell) (a b : DataCell) → now ≡ first ++ rest → mid ≡ now ++ a ∷ [] → new ≡ mid ++ b ∷ [] → new ≡ first ++ (rest ++ a ∷ b ∷ [])
pushed-two first rest now mid new a b so_far one two =
    two ∙ ap (λ l. l ++ b ∷ []) (one ∙ ap (λ l. l ++ a ∷ []) so_far) ∙ append_assoc (first ++ rest) (a ∷ []) (b ∷ []) ∙ append_assoc first rest (a ∷ b ∷ [])

pub loop-bit-preserved : goal.loop-bit-preserved
loop-bit-preserved c =
    let before : List Rails = c.args.before.now in
    let bits : List Rails = c.args.bits.now in
    let first : List DataCell = c.args.made.now.items in
    let k : ℕ = c.loop-bit.bit in
    let so_far : List DataCell = register_cells (take k before) (take k bits) in
    let more : suc k ≡ k + 1 = omega arith in
    pushed-two first so_far c.loop-bit.made.items c.push.new.self.items c.push-in-loop-bit.new.self.items c.register_on.result c.register_on-in-loop-bit.result c.loop-bit.invariant c.in_ok-push.ensures.items c.in_ok-push-2.ensures.items
    ∙ (λ i. first ++ (so_far ++ c.register_on.ensures i ∷ c.register_on-in-loop-bit.ensures i ∷ []))
    ∙ ap (λ l. first ++ l) (sym (registers-more before bits k no_rails c.requires c.loop-bit-test.true))
    ∙ ap (λ n. first ++ register_cells (take n before) (take n bits)) more
