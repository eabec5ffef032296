-- A stage of the gates of a complete network is sound, and gives its answers.
use Rattle.ncl_rails.proofs.Terms.{AllZip-back, AreLaidOut, Base, Bit, Bool, BothRails, Cell, Contains-from_Member, Contains-from_slice_get, Incomplete, Input, IsComplete, IsCovered, IsNull, IsRenamedCell, IsSound, IsStage, IsWordOf, List, Member, Member-from_Contains, NetId, Nets, Network, NoRail, None, Option, Orphan, Rails, Reaches, ShowWord, Shows, SignalSource, Some, StageCell, StageData, Variant, all_data, and_left, and_right, answer_of, ap, arith, cases_Bool, false, get_or, has_data, holds, holds_at, inl, inr, is_illegal, length, length-map, list_all, no_rails, not, not_from_true, option_map, out_of, refl, renamed_rails, slice_get, slice_get-from_Contains, slice_get-get_or, slice_get-map, slice_get_within, slice_index_or, source_pair, subst, sym, true, val, val-below_base, value_at, ℕ, ◌&&◌, ◌<◌, ◌∙◌, ◌≡◌}
use Rattle.ncl_rails.proofs.Covering.{input_reaches}
use Rattle.ncl_rails.proofs.Lists.{zip_at}
use Rattle.ncl_rails.proofs.InputLaws.{input_shown, input_null, cell_low, base_obeys, variant_supported}
use Rattle.ncl_rails.proofs.Showing.{shown_has_data, shown_is_legal}
use Rattle.ncl_rails.proofs.Renaming.{IsRenamed, seen, shown_old, word_new, null_old, data_new, holds_new, shown_at}
use Rattle.ncl_rails.proofs.Composition.{output_pairs, outputs_shown, null_reaches, low_gate_reaches}

-- a test fails at what may stand at a place where it fails at what does
holds_at-fails : {X : Type 0} (test : X → Bool) (o : Option X) → ((x : X) → o ≡ Some x → test x ≡ false) → holds_at test o ≡ false
holds_at-fails test None each = refl
holds_at-fails test (Some x) each = each x refl

module _ (network : Network) (waits : ℕ → List Bool → ℕ → Bool) (inputs : List Rails) (cells : List StageCell) (pairs : List Rails) (complete : IsComplete network) (covered : IsCovered network waits) (laid : AreLaidOut inputs waits network.nodes cells pairs) (count : length inputs ≡ network.inputs) (number : ℕ → ℕ) (s : StageData) (is : IsStage s) (same : IsRenamed number inputs cells (output_pairs network waits inputs cells pairs complete covered laid) s) where
  outs : List Rails
  outs = output_pairs network waits inputs cells pairs complete covered laid

  -- the values by the numbers of the layout
  values : List Bool → Variant → Nets
  values word variant = seen (val s word variant) number

  cell_of : (c : StageCell) → Member c cells → (other : StageCell) × Member other s.cells × IsRenamedCell number c other
  cell_of c m =
      let (k, at) = slice_get-from_Contains cells c (Contains-from_Member c m) in
      let (other, stands, gate) = zip_at (IsRenamedCell number) cells s.cells same.cells k c at in
      (other, Member-from_Contains s.cells other (Contains-from_slice_get s.cells k other stands), gate)

  out_same : (v : Nets) (c other : StageCell) → IsRenamedCell number c other → v (out_of other) ≡ seen v number (out_of c)
  out_same v c other gate = ap (λ (net : NetId). v net.0) gate.out

  -- under Base the gates are obeyed, and under a variant supported
  obeyed : (word : List Bool) (c : StageCell) → Member c cells → values word Base (out_of c) ≡ holds (values word Base) c
  unfolding values
  obeyed word c m =
      let (other, within, gate) = cell_of c m in
      sym (out_same (val s word Base) c other gate) ∙ base_obeys s is word other within ∙ holds_new (val s word Base) number c other gate

  supported : (word : List Bool) (variant : Variant) (c : StageCell) → Member c cells → values word variant (out_of c) ≡ true → holds (values word variant) c ≡ true
  unfolding values
  supported word variant c m high =
      let (other, within, gate) = cell_of c m in
      sym (holds_new (val s word variant) number c other gate) ∙ variant_supported s is word variant other within (out_same (val s word variant) c other gate ∙ high)

  below : (word : List Bool) (variant : Variant) (net : ℕ) → values word variant net ≡ true → values word Base net ≡ true
  unfolding values
  below word variant net high = val-below_base s word variant (number net) high

  stage_input : (i : ℕ) (r : Rails) → slice_get inputs i ≡ Some r → slice_get s.inputs i ≡ Some (renamed_rails number r)
  stage_input i r at = ap (λ rs. slice_get rs i) same.inputs ∙ slice_get-map (renamed_rails number) inputs i ∙ ap (option_map (renamed_rails number)) at

  inputs_shown : (word : List Bool) → IsWordOf s word → (i : ℕ) → i < network.inputs → Shows (values word Base) (source_pair inputs pairs (Input i)) (slice_index_or word i false)
  unfolding values
  inputs_shown word right i lt =
      let r : Rails = get_or inputs i no_rails in
      let at : slice_get inputs i ≡ Some r = slice_get-get_or inputs i no_rails (omega (arith, lt, count)) in
      let wide : length s.inputs ≡ length inputs = ap length same.inputs ∙ length-map inputs (renamed_rails number) in
      shown_old (val s word Base) number r (get_or word i false)
      (input_shown s is word i (renamed_rails number r) (get_or word i false) (stage_input i r at) (slice_get-get_or word i false (omega (arith, lt, count, wide, right))))

  -- the outputs of the stage show the answer of the network
  pub outputs_answer : (word : List Bool) → IsWordOf s word → ShowWord (val s word Base) s.outputs (answer_of network word)
  unfolding values outs
  outputs_answer word right =
      subst (λ rs. ShowWord (val s word Base) rs (answer_of network word)) (sym same.outputs)
      (word_new (val s word Base) number outs (answer_of network word)
      (outputs_shown network waits inputs cells pairs complete covered laid (values word Base) word (obeyed word) (inputs_shown word right)))

  all_data_seen : (word : List Bool) (variant : Variant) → all_data s (val s word variant) ≡ list_all (has_data (values word variant)) outs
  unfolding values outs
  all_data_seen word variant = ap (list_all (has_data (val s word variant))) same.outputs ∙ data_new (val s word variant) number outs

  null_spreads : (word : List Bool) → IsWordOf s word → (variant : Variant) (from : SignalSource) → Reaches network waits (value_at network word) from → IsNull (values word variant) (source_pair inputs pairs from) → all_data s (val s word variant) ≡ false
  unfolding outs
  null_spreads word right variant from reach null =
      all_data_seen word variant
      ∙ null_reaches network waits inputs cells pairs complete covered laid (values word Base) word (obeyed word) (inputs_shown word right) (values word variant) (below word variant) (supported word variant) from reach null

  low_gate_spreads : (word : List Bool) → IsWordOf s word → (g : ℕ) (c other : StageCell) → Member c cells → IsRenamedCell number c other → slice_get s.cells g ≡ Some other → val s word Base (out_of other) ≡ true → all_data s (val s word (Cell g)) ≡ false
  unfolding values outs
  low_gate_spreads word right g c other m gate at high =
      all_data_seen word (Cell g)
      ∙ low_gate_reaches network waits inputs cells pairs complete covered laid (values word Base) word (obeyed word) (inputs_shown word right) (values word (Cell g)) (below word (Cell g)) (supported word (Cell g)) c m
      (sym (out_same (val s word Base) c other gate) ∙ high)
      (sym (out_same (val s word (Cell g)) c other gate) ∙ cell_low s is word g other at)

  -- the stage is sound
  pub is_sound : IsSound s
  unfolding values
  is_sound (BothRails k) word right =
      holds_at-fails (is_illegal (val s word Base)) (slice_get s.outputs k)
      (λ r at. let (b, shown) = shown_at (val s word Base) s.outputs (answer_of network word) (outputs_answer word right) k r at in shown_is_legal (val s word Base) r b shown)
  is_sound (NoRail k) word right =
      holds_at-fails (λ r. not (has_data (val s word Base) r)) (slice_get s.outputs k)
      (λ r at. let (b, shown) = shown_at (val s word Base) s.outputs (answer_of network word) (outputs_answer word right) k r at in not_from_true _ (shown_has_data (val s word Base) r b shown))
  is_sound (Incomplete i) word right =
      holds_at-fails (λ (r : Rails). all_data s (val s word (Bit i))) (slice_get s.inputs i)
      (λ r at.
      let wide : length s.inputs ≡ length inputs = ap length same.inputs ∙ length-map inputs (renamed_rails number) in
      let within : i < length s.inputs = slice_get_within s.inputs i r at in
      let old : Rails = get_or inputs i no_rails in
      let stands : slice_get inputs i ≡ Some old = slice_get-get_or inputs i no_rails (omega (arith, within, wide)) in
      null_spreads word right (Bit i) (Input i) (input_reaches network waits covered complete.varying.reads_before word i (omega (arith, within, wide, count)))
      (null_old (val s word (Bit i)) number old (input_null s is word i (renamed_rails number old) (stage_input i old stands))))
  is_sound (Orphan g) word right =
      holds_at-fails (λ (c : StageCell). val s word Base c.out.0 && all_data s (val s word (Cell g))) (slice_get s.cells g)
      (λ other at.
      elim (cases_Bool (val s word Base other.out.0)) [
        | inr low ↦ and_left _ _ low
        | inl high ↦
            let (c, stands, gate) = AllZip-back (IsRenamedCell number) cells s.cells same.cells g other at in
            and_right _ _ (low_gate_spreads word right g c other (Member-from_Contains cells c (Contains-from_slice_get cells g c stands)) gate at high)
      ])
