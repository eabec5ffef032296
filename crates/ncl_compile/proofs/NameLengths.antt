-- How long the names of a compiled netlist are: at most eleven bytes, and six for ports.
use Rattle.ncl_compile.proofs.Terms.{All, All-from_members, AreModels, Bool, CanBeCompiled, Cell, IsNetlist, IsPartName, IsPutTogether, List, MOST_BITS, Member, Model, PartCell, Parts, [], answer_width, ap, arith, cell_of, codes, cond_both, decimal, false, inl, inner_pair, inner_pairs, inr, length, length-append, length-decimal-le, map, member_of_map, netlist_of, nets_of, numbered, output_name, output_pairs, pair_names, port_names, port_pair, range_with_len, root_name, slice_get_within, slice_index, subst, suc, sym, true, width_of, widths_of, zero, ℕ, ◌<◌, ◌==◌, ◌∷◌, ◌≤◌}
use Rattle.ncl_compile.proofs.NameLaws.{name_at, name_of_pairs}
use Rattle.ncl_compile.proofs.NetDrivers.{bank_or_stage, bank_name, bank_drives, stage_name, stage_drives, of_port, net_sort, outs_of, in_few, widths_few}

-- a name has at most so many bytes
abbrev pub IsShort : ℕ → List ℕ → Type 0
IsShort most name = length name ≤ most

part_short : (letter number : ℕ) (name : List ℕ) → IsPartName (numbered letter number) name → IsShort 11 name
part_short letter number name named =
    let few = named.few in
    omega (arith, ap length named.is, length-append (numbered letter number) named.rest, few)

root_short : (bank : ℕ) → IsShort 11 (root_name bank)
root_short zero = omega arith
root_short (suc bank) = omega arith

inner_short : (bank bit : ℕ) (r : Bool) → IsShort 11 (name_at (inner_pair bank bit) r)
inner_short bank bit true = omega arith
inner_short bank bit false = omega arith

port_short : (letter number : ℕ) (r : Bool) → number < 999 → IsShort 6 (name_at (port_pair (letter ∷ []) number) r)
port_short letter number true below =
    let digits = length-decimal-le 3 number (omega arith) (omega (arith, below)) (omega (arith, below)) in
    omega (arith, digits, length-append (decimal number) (codes "_1"))
port_short letter number false below =
    let digits = length-decimal-le 3 number (omega arith) (omega (arith, below)) (omega (arith, below)) in
    omega (arith, digits, length-append (decimal number) (codes "_0"))

pub ports_short : (letter width : ℕ) → width ≤ MOST_BITS → (x : List ℕ) → Member x (pair_names (map (port_pair (letter ∷ [])) (range_with_len 1 width))) → IsShort 6 x
ports_short letter width few x m =
    let (i, r, from, to, same) = name_of_pairs (port_pair (letter ∷ [])) 1 width x m in
    subst (IsShort 6) same (port_short letter i r (omega (arith, to, few)))

module _ (models : List Model) (are : AreModels models) (small : CanBeCompiled models) (parts : Parts) (put : IsPutTogether models parts) where
  -- ports
  pub port_names_short : (x : List ℕ) → Member x (port_names parts) → IsShort 6 x
  port_names_short =
      of_port models are small parts put (IsShort 6) (ports_short 105 (width_of models) (in_few models are small parts put)) (omega arith) (omega arith)
      (ports_short 111 (answer_width models) (widths_few models are small parts put (length models) (omega arith))) (omega arith)

  -- what banks drive
  driven_short : (k : ℕ) → k ≤ length models → (x : List ℕ) → Member x (pair_names (outs_of models are small parts put k)) → IsShort 11 x
  driven_short k within =
      cond_both (k == length models) (output_pairs (slice_index (widths_of models) k)) (inner_pairs k (slice_index (widths_of models) k)) (λ pairs. (x : List ℕ) → Member x (pair_names pairs) → IsShort 11 x)
      (λ is x m. let six = ports_short 111 (slice_index (widths_of models) k) (widths_few models are small parts put k within) x m in omega (arith, six))
      (λ is x m. let (i, r, from, to, same) = name_of_pairs (inner_pair k) 0 (slice_index (widths_of models) k) x m in subst (IsShort 11) same (inner_short k i r))

  output_short : (c : PartCell) → Member c parts.cells → IsShort 11 (output_name c)
  output_short c m =
      elim (bank_or_stage models are small parts put c m) [
        | inl b ↦
            let within = slice_get_within put.banks b.k b.piece b.at in
            let many = put.are_banks.as_many in
            elim (bank_drives models are small parts put c b) [
              | inl rail ↦ driven_short b.k (omega (arith, within, many)) (output_name c) rail
              | inr (inl root) ↦ subst (IsShort 11) (sym root) (root_short b.k)
              | inr (inr own) ↦ part_short 98 b.k (output_name c) own
            ]
        | inr s ↦ part_short 115 s.k (output_name c) (stage_drives models are small parts put c s)
      ]

  name_short : (c : PartCell) → Member c parts.cells → IsShort 11 c.name
  name_short c m =
      elim (bank_or_stage models are small parts put c m) [
        | inl b ↦ part_short 98 b.k c.name (bank_name models are small parts put c b)
        | inr s ↦ part_short 115 s.k c.name (stage_name models are small parts put c s)
      ]

  pub cells_short : All (λ (cell : Cell). IsShort 11 cell.name) (map (cell_of (nets_of parts)) parts.cells)
  cells_short = All-from_members (λ (cell : Cell). IsShort 11 cell.name) (map (cell_of (nets_of parts)) parts.cells) (λ cell m.
      let (c, in_cells, same) = member_of_map (cell_of (nets_of parts)) parts.cells cell m in
      subst (λ (z : Cell). IsShort 11 z.name) same (name_short c in_cells))

  pub nets_short : IsNetlist (netlist_of parts) → (x : List ℕ) → Member x (nets_of parts) → IsShort 11 x
  nets_short is x m =
      elim (net_sort models are small parts put is x m) [
        | inl port ↦ let six = port_names_short x port in omega (arith, six)
        | inr (c, in_cells, same) ↦ subst (IsShort 11) same (output_short c in_cells)
      ]
