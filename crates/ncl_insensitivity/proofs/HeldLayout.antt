-- The word that a bank holds at reset, in the layout of the pipeline.
use Rattle.ncl_insensitivity.proofs.Terms.{AllZip-long, AreRailsOf, Bank, Bool, Cell, Contains-from_slice_get, IsLayoutOf, Layout, List, None, Option, PipelineData, Shape, Some, StageData, [], ap, arith, bank_rails, both_ways, drives_rail, drop, false, get_or, get_or_from_slice_get, held-some, held-wide, holds_rail, inl, inner_or_last, inner_stage, inr, is_data_register, is_some, last_stage, length, rail_at, refl, register-held, register_of_rail, same_driver, same_from_lengths, slice_get, slice_get-some, slice_get_within, stage_at, suc, sym, true, word_held, zero, ℕ, ◌+◌, ◌<◌, ◌∙◌, ◌∷◌, ◌≡◌}

-- the rest of a list
pub slice_get-drop : {X : Type 0} (k : ℕ) (xs : List X) (i : ℕ) → slice_get (drop k xs) i ≡ slice_get xs (k + i)
slice_get-drop zero xs i = ap (slice_get xs) (let none : i ≡ 0 + i = omega arith in none)
slice_get-drop (suc k) [] i = refl
slice_get-drop (suc k) (x ∷ xs) i = slice_get-drop k xs i ∙ ap (slice_get (x ∷ xs)) (let next : suc (k + i) ≡ suc k + i = omega arith in next)

module _ (p : PipelineData) (shape : Shape p.netlist p) (l : Layout) (is : IsLayoutOf p l) where
  -- the inputs of the stage after a bank are its rails
  inputs-are : (k : ℕ) (b : Bank) → slice_get p.banks k ≡ Some b → (l.stage (suc k)).inputs ≡ (stage_at p (suc k)).inputs
  inputs-are k b at =
      elim (inner_or_last p shape k (slice_get_within p.banks k b at)) [
        | inl lt ↦ ap (λ (s : StageData). s.inputs) (is.in_order k (stage_at p (suc k)) (inner_stage p shape k lt))
        | inr last ↦
            let number : l.last ≡ suc k = sym is.bank_count ∙ last in
            ap (λ i. (l.stage i).inputs) (sym number) ∙ sym is.last_wires.1 ∙ is.sink ∙ ap (λ (s : StageData). s.inputs) (sym (last_stage p shape k last))
      ]

  -- the layout has the word that a bank holds
  pub held-in : (k : ℕ) (b : Bank) → slice_get p.banks k ≡ Some b → (word : List Bool) → word_held b ≡ Some word → l.held k ≡ Some word
  held-in k b at word held = by (l.held k) refl
    where
      some : is_some (l.held k) ≡ true
      some = is.bank_held k b at ∙ sym (held-some b) ∙ ap is_some held

      by : (o : Option (List Bool)) → l.held k ≡ o → l.held k ≡ Some word
      by None e = absurd (both_ways (is_some (l.held k)) (ap is_some e) some)
      by (Some own) e =
          let (lt, own_wide) = is.held_wide k own e in
          let rails = bank_rails p shape k b at in
          let inputs = inputs-are k b at in
          let width : length (l.stage (suc k)).inputs ≡ length b.bits = ap length inputs ∙ (AllZip-long (AreRailsOf p.netlist) b.bits (stage_at p (suc k)).inputs rails) in
          let word_wide = held-wide b word held in
          e ∙ ap Some (same_from_lengths own word (own_wide ∙ width ∙ sym word_wide) (λ j x y at_x at_y.
          let inside : j < length own = slice_get_within own j x at_x in
          let in_bank : j < length b.bits = omega (arith, inside, own_wide, width) in
          let (c, of_rail) = register_of_rail p.netlist shape.is_netlist shape.free b (shape.banks k b at).0 j true in_bank in
          let drives = (drives_rail p.netlist b (stage_at p (suc k)).inputs rails j true c of_rail).1 in
          let (i, d, at_d, on) = is.register_at k j true lt (omega (arith, inside, own_wide)) in
          let rail : d.out.0 ≡ c.out.0 = on.out ∙ ap (λ xs. rail_at xs j true) inputs ∙ sym drives in
          let cells : d ≡ c = same_driver p.netlist shape.is_netlist d c (Contains-from_slice_get p.netlist.cells i d at_d) of_rail.of_bank.0 rail in
          let bits : get_or own j false ≡ get_or word j false =
          ap (λ o. holds_rail o j true) (sym e) ∙ sym (is.register_held k j true i d lt (omega (arith, inside, own_wide)) at_d on)
          ∙ ap (λ (z : Cell). is_data_register z.kind) cells
          ∙ register-held p.netlist shape.is_netlist shape.free b (shape.banks k b at).0 j true c of_rail ∙ ap (λ o. holds_rail o j true) held in
          sym (get_or_from_slice_get own j x false at_x) ∙ bits ∙ get_or_from_slice_get word j y false at_y))

  -- and each word that it has is held by a bank
  pub bank-holds : (k : ℕ) (word : List Bool) → l.held k ≡ Some word → (b : Bank) × (slice_get p.banks k ≡ Some b) × (word_held b ≡ Some word)
  bank-holds k word held =
      let lt = (is.held_wide k word held).0 in
      let (b, at) = slice_get-some p.banks k (let count = is.bank_count in omega (arith, lt, count)) in
      (b, at, by b at (word_held b) refl)
    where
      by : (b : Bank) → slice_get p.banks k ≡ Some b → (o : Option (List Bool)) → word_held b ≡ o → word_held b ≡ Some word
      by b at None e = absurd (both_ways (is_some (word_held b)) (ap is_some e) (held-some b ∙ sym (is.bank_held k b at) ∙ ap is_some held))
      by b at (Some own) e = e ∙ sym (held-in k b at own e) ∙ held
