-- A diagram is a space, and how the space changes where nodes come or the last ones go.
use Rattle.ncl_diagram.proofs.Terms.{Adds, All, Bool, CountsMarks, DiagramData, Err, Full, Grown, Held, IfOk, IsCanonical, IsDiagram, IsErrOf, IsLive, IsNew, IsSpace, Keeps, Leaves, List, Makes, Mark, Node, Ok, OnOk, Ref, Releases, Result, SpaceFault, There, Within, [], ap, arith, bead_count, beads_of, constant_table, diagram_space, distinct_beads, false, fits, from_nat_le, from_nat_lt, held_of, inl, inr, is_bead, length, length-take-le, map, nat_le, nat_le-from, nat_lt-from, nat_tests, operand_bound, product, refl, releases_to, suc, sym, table_from, table_order, take, true, zero, ℕ, ◌*◌, ◌+◌, ◌<◌, ◌^◌, ◌||◌, ◌∙◌, ◌∷◌, ◌≡◌, ◌≤◌, ◌⊎◌}
use Rattle.std.specs.FinSet as set
use Rattle.ncl_diagram.proofs.Canonical.{length-table_from, one_place}
use Rattle.ncl_diagram.proofs.Growth.{table_grown}
use Rattle.ncl_diagram.proofs.Holding.{beads_held, held_grown}
use Rattle.ncl_diagram.proofs.HeldSets.{fits_all, fits_not, held_from_set, held_is, len-held, set_from_held, single_bead}
use Rattle.ncl_diagram.proofs.Rails.{table_from-constant}
use Rattle.ncl_diagram.proofs.Taking.{canonical_take, grown_take, take_grown}

nat_le-true : (a b : ℕ) → a ≤ b → nat_le a b ≡ true
nat_le-true a b h = grind (arith, nat_tests)

-- where nodes come, what is held stays
Within-grown : (n : ℕ) (old new : List Node) → IsCanonical n old → Grown old new → Within (held_of n old) (held_of n new)
Within-grown n old new can grown bead has = set_from_held n new bead (held_grown n old new can grown bead (held_from_set n old bead has))

-- it is a space
pub IsSpace-diagram : (d : DiagramData) → IsDiagram d.width d.limit d.nodes → IsSpace (diagram_space d)
IsSpace-diagram d is = record {
  some_bit = is.some_bit;
  few_bits = is.few_bits;
  within = ap (λ (k : ℕ). nat_le k d.limit) (len-held d.width d.nodes is.canonical) ∙ nat_le-true (length d.nodes) d.limit is.few;
  tables = λ r live. length-table_from d.nodes d.width 0 r.place;
  beads = λ r live bead has.
      set_from_held d.width d.nodes bead
      (beads_held d.width d.nodes is.canonical d.width 0 r.place bead (omega arith) (omega arith) (from_nat_lt r.place (length d.nodes + 2) live) (sym (single_bead d.width (table_from d.nodes d.width 0 r.place) bead) ∙ has));
  live_at = λ m stands r live.
      let count : m.count ≤ length d.nodes = from_nat_le m.count (length d.nodes) stands in
      let place : r.place < m.count + 2 = from_nat_lt r.place (m.count + 2) live in
      nat_lt-from r.place (length d.nodes + 2) (omega arith);
  held_at = λ m stands.
      let count : m.count ≤ length d.nodes = from_nat_le m.count (length d.nodes) stands in
      Within-grown d.width (take m.count d.nodes) d.nodes (canonical_take d.width d.nodes m.count count is.canonical) (grown_take d.nodes m.count count);
}

-- the diagram with other nodes
abbrev pub with_nodes : DiagramData → List Node → DiagramData
with_nodes d nodes = record { width = d.width; limit = d.limit; nodes = nodes }

pub Keeps-grown : (d : DiagramData) (new : List Node) → IsCanonical d.width d.nodes → Grown d.nodes new → IsDiagram d.width d.limit new → Keeps (diagram_space d) (diagram_space (with_nodes d new))
Keeps-grown d new can grown is = record {
  width = refl;
  limit = refl;
  live = λ r live.
      let place : r.place < length d.nodes + 2 = from_nat_lt r.place (length d.nodes + 2) live in
      nat_lt-from r.place (length new + 2) (omega (arith, grown.longer));
  tables = λ r live. table_grown d.width d.nodes new can grown d.width 0 r.place (from_nat_lt r.place (length d.nodes + 2) live);
  marks = λ m stands.
      let count : m.count ≤ length d.nodes = from_nat_le m.count (length d.nodes) stands in
      record {
        stands = nat_le-from m.count (length new) (omega (arith, grown.longer));
        live_at = λ r. refl;
        held_at = ap (held_of d.width) (take_grown d.nodes new m.count grown count);
      };
  held = Within-grown d.width d.nodes new can grown;
  space = IsSpace-diagram (with_nodes d new) is;
}

-- what the calls of a space say, from what is left of the nodes
pub made_by : (d : DiagramData) (new : List Node) (made : List Bool) (result : Result Ref SpaceFault) → Leaves d.width d.limit d.nodes new made result → IfOk result (λ r. Makes (diagram_space d) (diagram_space (with_nodes d new)) r made)
made_by d new made (Ok r) leaves = record {
  live = nat_lt-from r.place (length new + 2) leaves.live;
  table = leaves.table;
  held = held_is d.width d.nodes new made leaves.holds;
}
made_by d new made (Err e) leaves = tt

pub adds_by : (d : DiagramData) (new : List Node) (made : List Bool) (result : Result Ref SpaceFault) → Leaves d.width d.limit d.nodes new made result → Adds (diagram_space d) (diagram_space (with_nodes d new)) (made ∷ [])
adds_by d new made result leaves bead has =
    set.contains-union table_order (held_of d.width d.nodes) (distinct_beads d.width (made ∷ [])) bead
    ∙ by (leaves.only.only bead (held_from_set d.width new bead has))
  where
    or_true : (a : Bool) → (a || true) ≡ true
    or_true true = refl
    or_true false = refl

    by : Held d.width d.nodes bead ⊎ (is_bead (beads_of d.width made) bead ≡ true) → (set.contains (held_of d.width d.nodes) bead || set.contains (distinct_beads d.width (made ∷ [])) bead) ≡ true
    by (inl old) = ap (λ b. b || set.contains (distinct_beads d.width (made ∷ [])) bead) (set_from_held d.width d.nodes bead old)
    by (inr new) = ap (λ b. set.contains (held_of d.width d.nodes) bead || b) (single_bead d.width made bead ∙ new) ∙ or_true (set.contains (held_of d.width d.nodes) bead)

pub full_by : (d : DiagramData) (new : List Node) (made : List Bool) (result : Result Ref SpaceFault) → Leaves d.width d.limit d.nodes new made result → IsErrOf result Full → fits (diagram_space d) (made ∷ []) ≡ false
full_by d new made result leaves full = fits_not d.width d.nodes new made d.limit leaves.canonical leaves.only (leaves.full full)

pub fits_by : (d : DiagramData) (new : List Node) (made : List Bool) (result : Result Ref SpaceFault) → Leaves d.width d.limit d.nodes new made result → OnOk result (fits (diagram_space d) (made ∷ []) ≡ true)
fits_by d new made (Ok r) leaves = fits_all d.width d.nodes new made d.limit leaves.canonical leaves.holds leaves.few
fits_by d new made (Err e) leaves = tt

-- the number of nodes is a mark of now
diagram-counts : (d : DiagramData) → CountsMarks (diagram_space d) (held_of d.width) d.nodes
diagram-counts d = record { live = λ r. refl; held = refl; stands = λ m. refl; live_at = λ m r. refl; held_at = λ m. refl }

pub IsDiagram-take : (n limit : ℕ) (nodes : List Node) (c : ℕ) → IsDiagram n limit nodes → c ≤ length nodes → IsDiagram n limit (take c nodes)
IsDiagram-take n limit nodes c is le = record {
  some_bit = is.some_bit;
  few_bits = is.few_bits;
  canonical = canonical_take n nodes c le is.canonical;
  few = omega (arith, length-take-le c nodes le, is.few);
  small = is.small;
}

-- the first nodes alone are the space at a mark
pub Releases-diagram : (d : DiagramData) (m : Mark) → IsDiagram d.width d.limit d.nodes → m.count ≤ length d.nodes → Releases (diagram_space d) (diagram_space (with_nodes d (take m.count d.nodes))) m
Releases-diagram d m is le =
    let first : DiagramData = with_nodes d (take m.count d.nodes) in
    releases_to (diagram_space d) (diagram_space first) (held_of d.width) d.nodes m (diagram-counts d) (diagram-counts first) le refl refl
    (λ r place. sym (table_grown d.width first.nodes d.nodes (canonical_take d.width d.nodes m.count le is.canonical) (grown_take d.nodes m.count le) d.width 0 r.place (omega (arith, length-take-le m.count d.nodes le))))
    (IsSpace-diagram first (IsDiagram-take d.width d.limit d.nodes m.count is le))

-- equal tables have equal Refs
pub one_ref : (d : DiagramData) → IsCanonical d.width d.nodes → (x y : Ref) → IsLive (diagram_space d) x → IsLive (diagram_space d) y → (diagram_space d).table x ≡ (diagram_space d).table y → x ≡ y
one_ref d can x y live_x live_y same =
    let place = one_place d.width d.nodes can d.width 0 x.place y.place (omega arith) (omega arith) (omega arith) (from_nat_lt x.place (length d.nodes + 2) live_x) (from_nat_lt y.place (length d.nodes + 2) live_y) same in
    λ i. record { place = place i }

-- a list without nodes
pub IsDiagram-none : (n limit : ℕ) → 1 ≤ n → n ≤ 128 → limit < 2 ^ 32 → IsCanonical n [] → IsDiagram n limit []
IsDiagram-none n limit some few small can = record { some_bit = some; few_bits = few; canonical = can; few = omega arith; small = small }

-- only the constants are live there
pub IsNew-diagram : (n limit : ℕ) → IsNew (diagram_space (record { width = n; limit = limit; nodes = [] }))
IsNew-diagram n limit = record { held = refl; live = λ r live. by r.place (from_nat_lt r.place 2 live) }
  where
    by : (place : ℕ) → place < 2 → (value : Bool) × (table_from [] n 0 place ≡ constant_table n value)
    by zero lt = (false, table_from-constant [] false n 0)
    by (suc zero) lt = (true, table_from-constant [] true n 0)
    by (suc (suc k)) lt = absurd (omega arith)

-- the tables of Refs are those of their places
pub tables_of-places : (d : DiagramData) (ins : List Ref) → map (table_from d.nodes d.width 0) (map (λ (r : Ref). r.place) ins) ≡ map (diagram_space d).table ins
tables_of-places d [] = refl
tables_of-places d (r ∷ ins) = ap (λ (ts : List (List Bool)). table_from d.nodes d.width 0 r.place ∷ ts) (tables_of-places d ins)

-- live Refs are there
pub There-live : (d : DiagramData) (ins : List Ref) → All (IsLive (diagram_space d)) ins → There d.nodes (map (λ (r : Ref). r.place) ins)
There-live d [] live = tt
There-live d (r ∷ ins) live = (from_nat_lt r.place (length d.nodes + 2) (live 0 r (omega arith)), There-live d ins (λ k e lt. live (suc k) e (omega arith)))

-- the bound on steps is that of their places
pub bound_of-places : (d : DiagramData) (ins : List Ref) → product (map (λ p. bead_count d.width (table_from d.nodes d.width 0 p ∷ []) + 2) (map (λ (r : Ref). r.place) ins)) ≡ operand_bound (diagram_space d) ins
bound_of-places d [] = refl
bound_of-places d (r ∷ ins) = ap (λ (n : ℕ). (bead_count d.width (table_from d.nodes d.width 0 r.place ∷ []) + 2) * n) (bound_of-places d ins)
