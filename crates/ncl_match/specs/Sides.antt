-- What is held of an output once a side is made.
use Rattle.std.specs.Prelude.{ℕ, ◌≤◌, List, Bool, length, map, take, Contains}
use Rattle.std.specs.List.{list_any}
use Rattle.ncl_blif.specs.declared.model.Lit.{Lit}
use Rattle.ncl_blif.specs.declared.model.Cover.{Cover}
use Rattle.ncl_blif.specs.declared.model.Model.{Model}
use Rattle.ncl_blif.specs.Meaning.{row_matches}
use Rattle.ncl_space.specs.Space.{SpaceData}
use Rattle.ncl_match.specs.declared.pair.Pair.{Pair}
use Rattle.ncl_match.specs.Circuit.{Circuit, closed}
use Rattle.ncl_match.specs.Counting.{NetCounts, SignalCounts}
use Rattle.ncl_match.specs.Difference.{apart_function}
use Rattle.ncl_match.specs.Gathering.{AreHeld}
use Rattle.ncl_match.specs.Listed.{Assigns, AreCompared, IsRail, IsSignal}
use Rattle.ncl_match.specs.Pairs.{WordFunction, HasFunction}

-- the tables of each net that counts are held
pub record HoldsNets (s : SpaceData) (c : Circuit) (output : ℕ) : Type 0 where
  pub nets : (net : ℕ) → NetCounts c output net → AreHeld s (λ word. closed c word net)

-- the tables of each signal that counts, of the first literals of its cover's rows, and of its first rows
pub record HoldsSignals (s : SpaceData) (c : Circuit) (models : List Model) (output : ℕ) : Type 0 where
  pub signals : (place : ℕ) (model : Model) (bits : List Bool → ℕ → Bool) (signal : ℕ) → Assigns (length c.inputs) models place model bits → SignalCounts models output place signal → AreHeld s (λ word. bits word signal)
  pub rows : (place : ℕ) (model : Model) (bits : List Bool → ℕ → Bool) (cover : Cover) (row : List Lit) (i : ℕ) → Assigns (length c.inputs) models place model bits → SignalCounts models output place cover.out → Contains model.covers cover → Contains cover.rows row → 1 ≤ i → i ≤ length row
      → AreHeld s (λ word. row_matches (map (bits word) cover.ins) (take i row))
  pub covers : (place : ℕ) (model : Model) (bits : List Bool → ℕ → Bool) (cover : Cover) (i : ℕ) → Assigns (length c.inputs) models place model bits → SignalCounts models output place cover.out → Contains model.covers cover → 1 ≤ i → i ≤ length cover.rows
      → AreHeld s (λ word. list_any (row_matches (map (bits word) cover.ins)) (take i cover.rows))

-- a pair has the function of rail 1 of the output, or of that output of the models, or of where these differ
pub record HasRail (s : SpaceData) (p : Pair) (c : Circuit) (output : ℕ) : Type 0 where
  pub f : WordFunction
  pub is : IsRail c output f
  pub has : HasFunction s p f

pub record HasSignal (s : SpaceData) (p : Pair) (c : Circuit) (models : List Model) (output : ℕ) : Type 0 where
  pub g : WordFunction
  pub is : IsSignal c models output g
  pub has : HasFunction s p g

pub record HasApart (s : SpaceData) (p : Pair) (c : Circuit) (models : List Model) (output : ℕ) : Type 0 where
  pub f : WordFunction
  pub g : WordFunction
  pub are : AreCompared c models output f g
  pub has : HasFunction s p (apart_function f g)
