-- Wires pass a word on as it is.
use Rattle.ncl_insensitivity.proofs.Terms.{Base, Bool, Contains-from_Member, IsStage, IsWires, IsWordOf, List, Rails, StageData, ap, arith, bit_at, both_ways, false, false_from_ne_true, get_or-map, get_or_from_slice_get, length, length-map, map, named-has, named-within_values, no_rails, rail_at, refl, same_from_lengths, slice_get_within, stage_function, subst, sym, true, val, ℕ, ◌<◌, ◌∙◌, ◌≡◌}
pub use Rattle.ncl_insensitivity.proofs.Phases.{output_high, output_is, phase-values, rail_is}

pub wires-pass : (s : StageData) → IsStage s → IsWires s → (word : List Bool) → IsWordOf s word → stage_function s word ≡ word
wires-pass s is (no_cells, passed) word wide =
    ap (map (λ (r : Rails). val s word Base r.one.0)) passed
    ∙ same_from_lengths (map (λ (r : Rails). val s word Base r.one.0) s.inputs) word (long ∙ sym wide)
    (λ b x y at_x at_y.
    let lt = slice_get_within word b y at_y in
    sym (get_or_from_slice_get (map (λ (r : Rails). val s word Base r.one.0) s.inputs) b x false at_x)
    ∙ get_or-map (λ (r : Rails). val s word Base r.one.0) s.inputs b no_rails false (omega (arith, lt, wide))
    ∙ bit b (omega (arith, lt, wide)) (bit_at word b) refl
    ∙ get_or_from_slice_get word b y false at_y)
  where
    long : length (map (λ (r : Rails). val s word Base r.one.0) s.inputs) ≡ length s.inputs
    long = length-map s.inputs (λ (r : Rails). val s word Base r.one.0)

    -- rail 1 of a bit is high where the word has it
    bit : (b : ℕ) → b < length s.inputs → (q : Bool) → bit_at word b ≡ q → val s word Base (rail_at s.inputs b true) ≡ q
    bit b lt true one =
        subst (λ q. val s word Base (rail_at s.inputs b q) ≡ true) one (named-within_values s word _ (Contains-from_Member _ (named-has s.inputs word wide b lt)))
    bit b lt false none = false_from_ne_true _ (λ high. both_ways _ none (sym (rail_is is wide (phase-values s word) b true lt high)))
