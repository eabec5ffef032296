-- The ports of an assembled netlist: which nets are input ports, and which are output ports.
use Rattle.ncl_assembly.proofs.Terms.{Bool, IsAssembled, IsInputPort, IsOutputPort, List, Member, Member-append_cases, Member-append_left, Member-append_right, NetlistData, PipelineData, Port, Some, [], arith, at_map, at_of_map, false, here, inl, input_nets, inr, length, length-range_with_len, map, member_cases, output_nets, pairs-head, rail_nets, range_with_len, refl, slice_get, slice_get_within, subst, suc, sym, there, true, zero, ℕ, ◌++◌, ◌<◌, ◌∷◌, ◌≡◌, ◌⊎◌}
use Rattle.ncl_assembly.proofs.ListPlaces.{member_at, pairs-left, pairs-right, pairs-across, Rise, range_rises, at_range}

-- the directions of two lists of nets, the inputs before the outputs
abbrev sides : List ℕ → List ℕ → List Bool
sides ins outs = map (λ net. false) ins ++ map (λ net. true) outs

-- what stands at a place of both, and its direction
side_at : (ins outs : List ℕ) (k net : ℕ) (side : Bool) → slice_get (ins ++ outs) k ≡ Some net → slice_get (sides ins outs) k ≡ Some side → ((side ≡ false) × Member net ins) ⊎ ((side ≡ true) × Member net outs)
side_at [] outs k net side at at_side = let (x, at_x, same) = at_of_map (λ (net : ℕ). true) outs k side at_side in inr (sym same, member_at outs k net at)
side_at (x ∷ ins) outs zero net side at at_side =
    let first : x ≡ net = cc in
    let input : side ≡ false = cc in
    inl (input, subst (λ z. Member z (x ∷ ins)) first here)
side_at (x ∷ ins) outs (suc k) net side at at_side =
    elim (side_at ins outs k net side at at_side) [
      | inl (input, m) ↦ inl (input, there m)
      | inr output ↦ inr output
    ]

input_side : (net : ℕ) {ins : List ℕ} (outs : List ℕ) → Member net ins → (k : ℕ) × (slice_get (ins ++ outs) k ≡ Some net) × (slice_get (sides ins outs) k ≡ Some false)
input_side net outs (here {xs = ins}) = (zero, refl, refl)
input_side net outs (there {y = x} {xs = ins} m) = let (k, at, side) = input_side net outs m in (suc k, at, side)

output_side : (ins : List ℕ) (net : ℕ) {outs : List ℕ} → Member net outs → (k : ℕ) × (slice_get (ins ++ outs) k ≡ Some net) × (slice_get (sides ins outs) k ≡ Some true)
output_side [] net (here {xs = outs}) = (zero, refl, refl)
output_side [] net (there {y = x} {xs = outs} m) = let (k, at, side) = output_side [] net m in (suc k, at, side)
output_side (x ∷ ins) net m = let (k, at, side) = output_side ins net m in (suc k, at, side)

module _ (n : NetlistData) (p : PipelineData) (is : IsAssembled n p) where
  abbrev ins : List ℕ
  ins = input_nets p is.rst

  abbrev outs : List ℕ
  outs = output_nets p

  abbrev direction : Port → Bool
  direction port = port.output

  -- a net stands at its own place among the ports
  own_place : (k net : ℕ) → slice_get (ins ++ outs) k ≡ Some net → k ≡ net
  own_place k net at =
      let listed : slice_get (range_with_len 0 (length n.ports)) k ≡ Some net = subst (λ l. slice_get l k ≡ Some net) is.ports at in
      let within = slice_get_within (range_with_len 0 (length n.ports)) k net listed in
      let count = length-range_with_len 0 (length n.ports) in
      let there = at_range (length n.ports) k (omega (arith, within, count)) in
      cc

  port_at : (net : ℕ) (port : Port) → slice_get n.ports net ≡ Some port → ((port.output ≡ false) × Member net ins) ⊎ ((port.output ≡ true) × Member net outs)
  port_at net port at =
      let within = slice_get_within n.ports net port at in
      let listed : slice_get (ins ++ outs) net ≡ Some net = subst (λ l. slice_get l net ≡ Some net) (sym is.ports) (at_range (length n.ports) net within) in
      let side : slice_get (sides ins outs) net ≡ Some port.output = subst (λ l. slice_get l net ≡ Some port.output) is.directions (at_map direction n.ports net port at) in
      side_at ins outs net net port.output listed side

  port_of_side : (k net : ℕ) (side : Bool) → slice_get (ins ++ outs) k ≡ Some net → slice_get (sides ins outs) k ≡ Some side → (port : Port) × (slice_get n.ports net ≡ Some port) × (port.output ≡ side)
  port_of_side k net side at at_side =
      let here : slice_get (map direction n.ports) k ≡ Some side = subst (λ l. slice_get l k ≡ Some side) (sym is.directions) at_side in
      let there = subst (λ i. slice_get (map direction n.ports) i ≡ Some side) (own_place k net at) here in
      at_of_map direction n.ports net side there

  -- the input ports
  input_port : (net : ℕ) → Member net ins → IsInputPort n net
  input_port net m = let (k, at, side) = input_side net outs m in port_of_side k net false at side

  of_input_port : (net : ℕ) → IsInputPort n net → Member net ins
  of_input_port net (port, at, input) =
      elim (port_at net port at) [
        | inl (is_input, m) ↦ m
        | inr (is_output, m) ↦ absurd cc
      ]

  -- they are the rails of the inputs, `ki` and the reset
  pub input_cases : (net : ℕ) → IsInputPort n net → Member net (rail_nets p.inputs) ⊎ ((p.ki ≡ net) ⊎ (is.rst.0 ≡ net))
  input_cases net input =
      elim (Member-append_cases net (rail_nets p.inputs) (p.ki ∷ is.rst.0 ∷ []) (of_input_port net input)) [
        | inl rail ↦ inl rail
        | inr later ↦
            elim (member_cases net p.ki (is.rst.0 ∷ []) later) [
              | inl same ↦ inr (inl same)
              | inr last ↦ elim (member_cases net is.rst.0 [] last) [ inl same ↦ inr (inr same) | inr none ↦ elim none [ ] ]
            ]
      ]

  pub rail_port : (net : ℕ) → Member net (rail_nets p.inputs) → IsInputPort n net
  rail_port net m = input_port net (Member-append_left net (p.ki ∷ is.rst.0 ∷ []) m)

  pub ki_port : IsInputPort n p.ki
  ki_port = input_port p.ki (Member-append_right (rail_nets p.inputs) p.ki here)

  pub rst_port : IsInputPort n is.rst.0
  rst_port = input_port is.rst.0 (Member-append_right (rail_nets p.inputs) is.rst.0 (there here))

  -- the output ports
  output_port : (net : ℕ) → Member net outs → IsOutputPort n net
  output_port net m = let (k, at, side) = output_side ins net m in port_of_side k net true at side

  of_output_port : (net : ℕ) → IsOutputPort n net → Member net outs
  of_output_port net (port, at, output) =
      elim (port_at net port at) [
        | inl (is_input, m) ↦ absurd cc
        | inr (is_output, m) ↦ m
      ]

  -- they are the rails of the outputs and `ko`
  pub output_cases : (net : ℕ) → IsOutputPort n net → Member net (rail_nets p.outputs) ⊎ (p.ko ≡ net)
  output_cases net output =
      elim (Member-append_cases net (rail_nets p.outputs) (p.ko ∷ []) (of_output_port net output)) [
        | inl rail ↦ inl rail
        | inr last ↦ elim (member_cases net p.ko [] last) [ inl same ↦ inr same | inr none ↦ elim none [ ] ]
      ]

  pub rail_output : (net : ℕ) → Member net (rail_nets p.outputs) → IsOutputPort n net
  rail_output net m = output_port net (Member-append_left net (p.ko ∷ []) m)

  pub ko_output : IsOutputPort n p.ko
  ko_output = output_port p.ko (Member-append_right (rail_nets p.outputs) p.ko here)

  -- the input ports rise, so they differ
  inputs_rise : Rise ins
  inputs_rise = pairs-left (λ x y. x < y) ins outs (subst Rise (sym is.ports) (range_rises (length n.ports)))

  pub input_rails_rise : Rise (rail_nets p.inputs)
  input_rails_rise = pairs-left (λ x y. x < y) (rail_nets p.inputs) (p.ki ∷ is.rst.0 ∷ []) inputs_rise

  -- an input is neither `ki` nor the reset, and these differ
  pub input_is_not_ki : Member p.ki (rail_nets p.inputs) → ⊥
  input_is_not_ki m = let less = pairs-across (λ x y. x < y) (rail_nets p.inputs) (p.ki ∷ is.rst.0 ∷ []) inputs_rise p.ki p.ki m here in omega (arith, less)

  pub input_is_not_rst : Member is.rst.0 (rail_nets p.inputs) → ⊥
  input_is_not_rst m = let less = pairs-across (λ x y. x < y) (rail_nets p.inputs) (p.ki ∷ is.rst.0 ∷ []) inputs_rise is.rst.0 is.rst.0 m (there here) in omega (arith, less)

  pub ki_is_not_rst : p.ki ≡ is.rst.0 → ⊥
  ki_is_not_rst same =
      let less = pairs-head (λ x y. x < y) p.ki (is.rst.0 ∷ []) (pairs-right (λ x y. x < y) (rail_nets p.inputs) (p.ki ∷ is.rst.0 ∷ []) inputs_rise) is.rst.0 here in
      omega (arith, less, same)
