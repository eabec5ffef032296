-- Small nodes that grow in number.
use Rattle.std.specs.Prelude.{◌≡◌, ℕ, List, ◌++◌, Bool, length, map, All}
use Rattle.ncl_network.specs.declared.network.Signal.{Signal}
use Rattle.ncl_network.specs.Network.{signal_value, IsSource, ReadBefore}
use Rattle.ncl_decomp.specs.Split.{IsNarrow}
use Rattle.ncl_plans.specs.declared.small.Small.{Small}
use Rattle.ncl_plans.specs.declared.form.Form.{Form}
use Rattle.ncl_plans.specs.Smalls.{small_node, bits_of}
use Rattle.ncl_plans.specs.Forms.{form_value, IsFormOver}

-- small nodes in order, that read no constant
pub record IsPool (inputs : ℕ) (smalls : List Small) : Type 0 where
  pub narrow : All IsNarrow (map small_node smalls)
  pub reads_before : ReadBefore inputs 0 (map small_node smalls)

-- more of them stand after those that there were, and this signal has a value over the bits of those
pub record Adds (inputs : ℕ) (before after : List Small) (value : List Bool → List Bool → Bool) (signal : Signal) : Type 0 where
  pub made : List Small
  pub added : after ≡ before ++ made
  pub fine : IsPool inputs after
  pub exists : IsSource inputs (length after) signal.from
  pub gives : (word : List Bool) → signal_value word (bits_of word after) signal ≡ value word (bits_of word before)

-- a signal has the bit of a form, where there is what the form reads
abbrev pub PutsForm : Form → List Small → List Small → Signal → Type 0
PutsForm form before after signal =
    (inputs : ℕ) → IsPool inputs before → IsFormOver inputs (length before) form → Adds inputs before after (λ word nodes. form_value word nodes form) signal
