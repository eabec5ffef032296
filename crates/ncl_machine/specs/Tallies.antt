-- The counts that a state keeps of its values, so that no step walks over all bits.
use Rattle.std.specs.Prelude.{◌≡◌, ◌≢◌, ℕ, ◌+◌, ◌<◌, ◌≤◌, Bool, true, false, not, if◌then◌else◌, nat_eq, List, [], ◌∷◌, length, map, Option, None, Some, slice_get, slice_index_or, set, ◌++◌, All, AllPairs, Contains}
use Rattle.std.specs.Option.{option_or}
use Rattle.std.specs.List.{list_all}
use Rattle.ncl_base.specs.declared.word.TheConstants.{MOST_BITS}
use Rattle.ncl_netlist.specs.declared.ids.NetId.{NetId}
use Rattle.ncl_shape.specs.declared.rails.Rails.{Rails}
use Rattle.ncl_shape.specs.Nets.{Nets}
use Rattle.ncl_shape.specs.Stage.{rail_nets, named_rails}
use Rattle.ncl_faults.specs.Faults.{has_data}
use Rattle.ncl_machine.specs.Steps.{rails_of_word, pair_at}
use Rattle.ncl_machine.specs.Held.{Held, net_values}

-- how many elements pass a test
abbrev pub count_of : {X : Type 0} → (X → Bool) → List X → ℕ
count_of test [] = 0
count_of test (x ∷ xs) = (if test x then 1 else 0) + count_of test xs

-- the other rail of a bit, where the net is a rail of it, and of the last of some bits of which it is one
abbrev pub mate_of : Rails → ℕ → Option NetId
mate_of r net = if nat_eq r.zero.0 net then Some r.one else if nat_eq r.one.0 net then Some r.zero else None

abbrev pub mate_in : List Rails → ℕ → Option NetId
mate_in [] net = None
mate_in (r ∷ bits) net = option_or (mate_in bits net) (mate_of r net)

-- whether a bit has data without the net of this mate, or there is no such bit
abbrev pub is_covered_by : Nets → Option NetId → Bool
is_covered_by v None = true
is_covered_by v (Some mate) = v mate.0

-- the values of the nets, and the rails of the outputs
pub record LevelsData : Type 0 where
  pub values : List Bool
  pub outputs : List Rails

-- what is kept beside them: of each net its mate among the outputs, and how many outputs have a high rail. The rails
-- of the outputs differ and are nets, and there are no more bits than a word has
pub record AreCovered (d : LevelsData) (mates : List (Option NetId)) (covered : ℕ) : Type 0 where
  pub apart : AllPairs (λ x y. x ≢ y) (rail_nets d.outputs)
  pub within : All (λ net. net < length d.values) (rail_nets d.outputs)
  pub few : length d.outputs ≤ MOST_BITS
  pub as_many : length mates ≡ length d.values
  pub each : (net : ℕ) → slice_index_or mates net None ≡ mate_in d.outputs net
  pub count : covered ≡ count_of (has_data (net_values d.values)) d.outputs

-- the rails of the inputs that the current word names, and those that it doesn't
abbrev pub current_word : Held → List ℕ
current_word h = rails_of_word h.inputs (slice_get h.offered h.done)

abbrev pub rails_beside : List Rails → Option (List Bool) → List ℕ
rails_beside inputs None = rail_nets inputs
rails_beside inputs (Some word) = named_rails inputs (map not word)

abbrev pub other_rails : Held → List ℕ
other_rails h = rails_beside h.inputs (slice_get h.offered h.done)

-- the source: how many rails of the current word are high, and no other rail of the inputs is. These rails and `ki`
-- differ and are nets, as `ko` is one, and the words have a bit for each input
pub record IsCounted (h : Held) (raised : ℕ) : Type 0 where
  pub words : All (λ (word : List Bool). length word ≡ length h.inputs) h.offered
  pub apart : AllPairs (λ x y. x ≢ y) (rail_nets h.inputs)
  pub within : All (λ net. net < length h.values) (rail_nets h.inputs)
  pub ki_apart : Contains (rail_nets h.inputs) h.ki → ⊥
  pub ki_within : h.ki < length h.values
  pub ko_within : h.ko < length h.values
  pub count : raised ≡ count_of (net_values h.values) (current_word h)
  pub others : All (λ net. net_values h.values net ≡ false) (other_rails h)

-- what a state becomes where a rail of the current word is raised or lowered, and where the sink takes
abbrev pub raised_from : Held → ℕ → Held
raised_from h net =
    let values = set h.values net true in
    record h { values = values; falling = list_all (net_values values) (current_word h) }

abbrev pub lowered_from : Held → ℕ → Held
lowered_from h net =
    let values = set h.values net false in
    if list_all (λ rail. not (net_values values rail)) (current_word h)
    then record h { values = values; falling = false; done = h.done + 1 }
    else record h { values = values }

abbrev pub taken_from : Held → Held
taken_from h = record h { values = set h.values h.ki false; delivered = h.delivered ++ pair_at h.outputs (net_values h.values) ∷ [] }
