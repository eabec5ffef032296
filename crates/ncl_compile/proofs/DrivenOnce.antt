-- Where the outputs of cells differ, none is an input port, and each name is one or the other, each net has one driver.
use Rattle.ncl_compile.proofs.Terms.{AllDiffer, AllDiffer-once_each, Bool, Cell, List, Member, Member-get_or, PartCell, Parts, Port, Some, [], ap, arith, at_map, cases_Bool, cases_lt, cell_of, cond, cond-false, cond-true, count_by, drivers_at, drives, eq-eqb, eqb-true, equal_names, false, flat_map, get_or, get_or-name_number, get_or-take, get_or_from_slice_get, get_or_past, here, if◌then◌else◌, inl, inr, length, length-map, length-take, list_any-from_member, list_any-once_each, map, member_at, member_cases, member_from_list_any, name_number, name_number-get_or, nat_eq, nets_of, output_name, pairs-head, pairs-tail, place_of_member, port_names, refl, same_itself, same_name, slice_get, slice_get-some, slice_get_within, slice_index, subst, suc, sum_by-cons, sym, take, take-once_each, there, true, true≢false, zero, ℕ, ◌++◌, ◌+◌, ◌<◌, ◌∙◌, ◌∷◌, ◌≡◌, ◌≢◌, ◌⊎◌}
use Rattle.ncl_compile.proofs.NameLaws.{AreApart}

-- how many of some cells pass a test that one name passes
module _ {X Y : Type 0} (name_of : X → List ℕ) (made : X → Y) (test : Y → Bool) (x : List ℕ) (right : (c : X) → name_of c ≡ x → test (made c) ≡ true) (only : (c : X) → test (made c) ≡ true → name_of c ≡ x) where
  counted : (c : X) (cells : List X) → count_by test (map made (c ∷ cells)) ≡ cond (test (made c)) 1 0 + count_by test (map made cells)
  counted c cells = sum_by-cons (λ y. cond (test y) 1 0) (made c) (map made cells)

  count_none : (cells : List X) → (Member x (map name_of cells) → ⊥) → count_by test (map made cells) ≡ 0
  count_none [] other = refl
  count_none (c ∷ cells) other =
      elim (cases_Bool (test (made c))) [
        | inl passes ↦ absurd (other (subst (λ y. Member y (map name_of (c ∷ cells))) (only c passes) here))
        | inr fails ↦
            let none : cond (test (made c)) (suc zero) zero ≡ zero = cond-false (test (made c)) (suc zero) zero fails in
            omega (arith, counted c cells, none, count_none cells (λ m. other (there m)))
      ]

  count_one : (cells : List X) → AreApart (map name_of cells) → Member x (map name_of cells) → count_by test (map made cells) ≡ 1
  count_one [] apart m = elim m [ ]
  count_one (c ∷ cells) apart m =
      elim (cases_Bool (test (made c))) [
        | inl passes ↦
            let one : cond (test (made c)) (suc zero) zero ≡ suc zero = cond-true (test (made c)) (suc zero) zero passes in
            let rest = count_none cells (λ n. pairs-head (λ a b. a ≢ b) (name_of c) (map name_of cells) apart x n (only c passes)) in
            omega (arith, counted c cells, one, rest)
        | inr fails ↦
            elim (member_cases x (name_of c) (map name_of cells) m) [
              | inl same ↦ absurd (true≢false (sym (right c same) ∙ fails))
              | inr later ↦
                  let none : cond (test (made c)) (suc zero) zero ≡ zero = cond-false (test (made c)) (suc zero) zero fails in
                  let rest = count_one cells (pairs-tail (λ a b. a ≢ b) (name_of c) (map name_of cells) apart) later in
                  omega (arith, counted c cells, none, rest)
            ]
      ]

-- a port of this name is an input
pub record IsInputPort (parts : Parts) (x : List ℕ) : Type 0 where
  pub port : Port
  pub among : Member port parts.ports
  pub input : port.output ≡ false
  pub is : port.name ≡ x

-- the names that ports and cells mention
abbrev pub names_said : Parts → List (List ℕ)
names_said parts = port_names parts ++ flat_map (λ (cell : PartCell). cell.pins) parts.cells

module _ (parts : Parts) (differ : AllDiffer (port_names parts)) (apart : AreApart (map output_name parts.cells)) (no_input : (x : List ℕ) → Member x (map output_name parts.cells) → IsInputPort parts x → ⊥)
    (driven : (x : List ℕ) → Member x (names_said parts) → IsInputPort parts x ⊎ Member x (map output_name parts.cells)) where
  abbrev nets : List (List ℕ)
  nets = nets_of parts

  nets_differ : AllDiffer nets
  nets_differ = AllDiffer-once_each (names_said parts)

  net_is_said : (x : List ℕ) → Member x nets → Member x (names_said parts)
  net_is_said x m =
      let seen = sym (list_any-once_each (names_said parts) x) ∙ list_any-from_member (same_name x) x m (same_itself x) in
      let (y, in_names, same) = member_from_list_any (same_name x) (names_said parts) seen in
      subst (λ z. Member z (names_said parts)) (sym (equal_names x y same)) in_names

  ports_are_first : take (length parts.ports) nets ≡ port_names parts
  ports_are_first =
      ap (λ k. take k nets) (sym (length-map parts.ports (λ (port : Port). port.name)))
      ∙ take-once_each (port_names parts) (flat_map (λ (cell : PartCell). cell.pins) parts.cells) differ

  -- the name of a port has the number of the port
  port_place : (i : ℕ) (port : Port) → slice_get parts.ports i ≡ Some port → name_number nets port.name ≡ i
  port_place i port at =
      let within = slice_get_within parts.ports i port at in
      let first = get_or_from_slice_get (port_names parts) i port.name [] (at_map (λ (p : Port). p.name) parts.ports i port at) in
      let named : get_or nets i [] ≡ port.name = sym (get_or-take (length parts.ports) nets i [] within) ∙ ap (λ l. get_or l i []) ports_are_first ∙ first in
      let long : length (take (length parts.ports) nets) ≡ length parts.ports = ap length ports_are_first ∙ length-map parts.ports (λ (port : Port). port.name) in
      let inside : i < length nets = omega (arith, within, long, length-take (length parts.ports) nets) in
      ap (name_number nets) (sym named) ∙ name_number-get_or nets i [] nets_differ inside

  drives_there : (i : ℕ) (port : Port) → slice_get parts.ports i ≡ Some port → slice_index (map drives parts.ports) i ≡ drives port
  drives_there i port at = get_or_from_slice_get (map drives parts.ports) i (drives port) 0 (at_map drives parts.ports i port at)

  -- no port drives a net that a cell does
  port_drives_none : (net : ℕ) → net < length nets → Member (get_or nets net []) (map output_name parts.cells) → slice_index (map drives parts.ports) net ≡ 0
  port_drives_none net within made =
      elim (cases_lt net (length parts.ports)) [
        | inl inside ↦
            let (port, at) = slice_get-some parts.ports net inside in
            let named : get_or nets net [] ≡ port.name = ap (λ k. get_or nets k []) (sym (port_place net port at)) ∙ get_or-name_number nets port.name [] (subst (λ k. k < length nets) (sym (port_place net port at)) within) in
            drives_there net port at ∙ by port.output (λ input. no_input port.name (subst (λ z. Member z (map output_name parts.cells)) named made) (record { port = port; among = member_at parts.ports net port at; input = input; is = refl }))
        | inr past ↦ get_or_past (map drives parts.ports) net 0 (omega (arith, past, length-map parts.ports drives))
      ]
    where
      by : (output : Bool) → (output ≡ false → ⊥) → ◌≡◌ {A = ℕ} (if output then 0 else 1) 0
      by true other = refl
      by false other = absurd (other refl)

  -- each net has one driver
  pub driven_once : (net : ℕ) → net < length nets → drivers_at parts net ≡ 1
  driven_once net within =
      elim (driven x (net_is_said x (Member-get_or nets net [] within))) [
        | inl input ↦
            let (i, at) = place_of_member parts.ports input.port input.among in
            let place : i ≡ net = sym (port_place i input.port at) ∙ ap (name_number nets) input.is ∙ number_is in
            let from_port : slice_index (map drives parts.ports) net ≡ 1 = ap (slice_index (map drives parts.ports)) (sym place) ∙ drives_there i input.port at ∙ ap (λ b. if b then 0 else 1) input.input in
            let from_cells = count_none output_name (cell_of nets) test x right only parts.cells (λ m. no_input x m input) in
            omega (arith, from_port, from_cells)
        | inr made ↦
            let from_port = port_drives_none net within made in
            let from_cells = count_one output_name (cell_of nets) test x right only parts.cells apart made in
            omega (arith, from_port, from_cells)
      ]
    where
      x : List ℕ
      x = get_or nets net []

      number_is : name_number nets x ≡ net
      number_is = name_number-get_or nets net [] nets_differ within

      test : Cell → Bool
      test cell = nat_eq cell.out.0 net

      right : (c : PartCell) → output_name c ≡ x → test (cell_of nets c) ≡ true
      right c same = eq-eqb (name_number nets (output_name c)) net (ap (name_number nets) same ∙ number_is)

      only : (c : PartCell) → test (cell_of nets c) ≡ true → output_name c ≡ x
      only c passes =
          let place = eqb-true (name_number nets (output_name c)) net passes in
          sym (get_or-name_number nets (output_name c) [] (subst (λ k. k < length nets) (sym place) within)) ∙ ap (λ k. get_or nets k []) place
