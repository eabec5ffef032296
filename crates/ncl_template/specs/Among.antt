-- Templates among other gates: what the gates of a node show and wait for beside those that were added before.
use Rattle.std.specs.Prelude.{◌≡◌, ℕ, ◌<◌, ◌≤◌, List, ◌++◌, Bool, true, false, Contains, length}
use Rattle.std.specs.List.{slice_index_or}
use Rattle.ncl_shape.specs.declared.rails.Rails.{Rails}
use Rattle.ncl_shape.specs.declared.stage.StageCell.{StageCell}
use Rattle.ncl_shape.specs.Nets.{Nets}
use Rattle.ncl_shape.specs.Stage.{out_of}
use Rattle.ncl_template.specs.Template.{Shows, IsNull, ShowWord, Obeys, IsCase}
use Rattle.ncl_template.specs.Forms.{no_pair}
use Rattle.ncl_template.specs.Formed.{IsFormed}

-- the three local facts of a template, asked of values that obey all of some cells, among which are its gates: so the
-- gates may wait for a pair together with others that they read; at each word they wait for some of the pairs
pub record IsTemplateAmong (cells : List StageCell) (function : List Bool → Bool) (ins : List Rails) (waits : List Bool → ℕ → Bool) (gates : List StageCell) (out : Rails) : Type 0 where
  -- the output pair shows the function's value
  pub value : (base : Nets) (word : List Bool) → Obeys base cells → ShowWord base ins word → Shows base out (function word)
  -- it waits for these pairs: where one is NULL, so is the output pair
  pub needs : (base v : Nets) (word : List Bool) → IsCase base v ins cells word → (k : ℕ) → k < length ins → waits word k ≡ true → IsNull v (slice_index_or ins k no_pair) → IsNull v out
  -- it waits for each of the gates that is high
  pub observed : (base v : Nets) (word : List Bool) → IsCase base v ins cells word → (c : StageCell) → Contains gates c → base (out_of c) ≡ true → v (out_of c) ≡ false → IsNull v out

-- such a template is added to some cells, with this output pair and at most so many gates
pub record AddsAmong (function : List Bool → Bool) (ins : List Rails) (waits : List Bool → ℕ → Bool) (most : ℕ) (before after : List StageCell) (out : Rails) : Type 0 where
  pub made : List StageCell
  pub added : after ≡ before ++ made
  pub template : IsTemplateAmong after function ins waits made out
  pub formed : IsFormed ins made out
  pub few : length made ≤ most
