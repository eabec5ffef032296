-- Templates: the gates of one node, and the three local facts that make a stage of them sound.
use Rattle.std.specs.Prelude.{◌≡◌, List, [], ◌∷◌, Bool, true, false, not, Contains}
use Rattle.ncl_blif.specs.Meaning.{cover_value}
use Rattle.ncl_shape.specs.declared.rails.Rails.{Rails}
use Rattle.ncl_shape.specs.declared.stage.StageCell.{StageCell}
use Rattle.ncl_shape.specs.Nets.{Nets, IsBelow}
use Rattle.ncl_shape.specs.Stage.{out_of, rail_of}
use Rattle.ncl_faults.specs.Values.{holds}
use Rattle.ncl_network.specs.declared.network.Node.{Node}

-- the pair shows a bit: its rail is high, and the other is low
pub record Shows (v : Nets) (r : Rails) (bit : Bool) : Type 0 where
  pub high : v (rail_of r bit) ≡ true
  pub low : v (rail_of r (not bit)) ≡ false

-- both nets of the pair are low
pub record IsNull (v : Nets) (r : Rails) : Type 0 where
  pub zero : v r.zero.0 ≡ false
  pub one : v r.one.0 ≡ false

-- pairs show a word, one bit each
abbrev pub ShowWord : Nets → List Rails → List Bool → Type 0
ShowWord v [] [] = Unit {0}
ShowWord v [] (bit ∷ word) = ⊥
ShowWord v (r ∷ rs) [] = ⊥
ShowWord v (r ∷ rs) (bit ∷ word) = Shows v r bit × ShowWord v rs word

-- the output of each gate is high exactly where its set function holds
pub record Obeys (v : Nets) (gates : List StageCell) : Type 0 where
  pub each : (c : StageCell) → Contains gates c → v (out_of c) ≡ holds v c

-- the output of each gate is high only where its set function holds
pub record IsSupported (v : Nets) (gates : List StageCell) : Type 0 where
  pub each : (c : StageCell) → Contains gates c → v (out_of c) ≡ true → holds v c ≡ true

-- values that obey the gates, with a word shown at the inputs, and lower values that the gates support
pub record IsCase (base v : Nets) (ins : List Rails) (gates : List StageCell) (word : List Bool) : Type 0 where
  pub obeys : Obeys base gates
  pub shown : ShowWord base ins word
  pub below : IsBelow v base
  pub supported : IsSupported v gates

-- the three local facts of gates with these input pairs and this output pair, for a function; they wait for some of the
-- pairs
pub record IsTemplate (function : List Bool → Bool) (ins waits : List Rails) (gates : List StageCell) (out : Rails) : Type 0 where
  -- the output pair shows the function's value
  pub value : (base : Nets) (word : List Bool) → Obeys base gates → ShowWord base ins word → Shows base out (function word)
  -- it waits for each of these pairs: where one is NULL, so is the output pair
  pub needs : (base v : Nets) (word : List Bool) → IsCase base v ins gates word → (r : Rails) → Contains waits r → IsNull v r → IsNull v out
  -- it waits for each gate that is high
  pub observed : (base v : Nets) (word : List Bool) → IsCase base v ins gates word → (c : StageCell) → Contains gates c → base (out_of c) ≡ true → v (out_of c) ≡ false → IsNull v out

-- the function of a node
abbrev pub node_function : Node → List Bool → Bool
node_function node bits = cover_value node.on node.rows bits
