-- Gates whose nets have other numbers: what values of the one show, values of the other do.
use Rattle.ncl_rails.proofs.Terms.{AllZip, Bool, IsNull, IsRenamedCell, List, NetId, Nets, Rails, ShowWord, Shows, Some, StageCell, StageData, [], ap, false, has_data, holds, list_all, map, pin_values, refl, renamed_net, renamed_rails, set_of, slice_get, subst, suc, true, zero, ℕ, ◌&&◌, ◌∙◌, ◌∷◌, ◌≡◌}

-- a stage of the same gates
pub record IsRenamed (number : ℕ → ℕ) (ins : List Rails) (gates : List StageCell) (outs : List Rails) (s : StageData) : Type 0 where
  pub inputs : s.inputs ≡ map (renamed_rails number) ins
  pub cells : AllZip (IsRenamedCell number) gates s.cells
  pub outputs : s.outputs ≡ map (renamed_rails number) outs

-- values of the nets by their old numbers
abbrev pub seen : Nets → (ℕ → ℕ) → Nets
seen v number net = v (number net)

pub shown_old : (v : Nets) (number : ℕ → ℕ) (r : Rails) (b : Bool) → Shows v (renamed_rails number r) b → Shows (seen v number) r b
shown_old v number r true shown = record { high = shown.high; low = shown.low }
shown_old v number r false shown = record { high = shown.high; low = shown.low }

shown_new : (v : Nets) (number : ℕ → ℕ) (r : Rails) (b : Bool) → Shows (seen v number) r b → Shows v (renamed_rails number r) b
shown_new v number r true shown = record { high = shown.high; low = shown.low }
shown_new v number r false shown = record { high = shown.high; low = shown.low }

pub word_new : (v : Nets) (number : ℕ → ℕ) (rs : List Rails) (word : List Bool) → ShowWord (seen v number) rs word → ShowWord v (map (renamed_rails number) rs) word
word_new v number [] [] shown = tt
word_new v number [] (b ∷ word) shown = absurd shown
word_new v number (r ∷ rs) [] shown = absurd shown
word_new v number (r ∷ rs) (b ∷ word) shown = (shown_new v number r b shown.0, word_new v number rs word shown.1)

pub null_old : (v : Nets) (number : ℕ → ℕ) (r : Rails) → IsNull v (renamed_rails number r) → IsNull (seen v number) r
null_old v number r null = record { zero = null.zero; one = null.one }

pub data_new : (v : Nets) (number : ℕ → ℕ) (rs : List Rails) → list_all (has_data v) (map (renamed_rails number) rs) ≡ list_all (has_data (seen v number)) rs
data_new v number [] = refl
data_new v number (r ∷ rs) = ap (λ rest. has_data (seen v number) r && rest) (data_new v number rs)

pins : (v : Nets) (number : ℕ → ℕ) (ins : List NetId) → pin_values v (map (renamed_net number) ins) ≡ pin_values (seen v number) ins
pins v number [] = refl
pins v number (net ∷ ins) = ap (λ rest. v (number net.0) ∷ rest) (pins v number ins)

-- the set function of a gate holds where that of the same gate does
pub holds_new : (v : Nets) (number : ℕ → ℕ) (c other : StageCell) → IsRenamedCell number c other → holds v other ≡ holds (seen v number) c
holds_new v number c other same =
    (λ i. set_of (same.kind i) (pin_values v (same.ins i))) ∙ ap (set_of c.kind) (pins v number c.ins.items)

-- pairs that show a word have it on their rails 1
pub ones_shown : (v : Nets) (rs : List Rails) (word : List Bool) → ShowWord v rs word → map (λ (r : Rails). v r.one.0) rs ≡ word
ones_shown v [] [] shown = refl
ones_shown v [] (b ∷ word) shown = absurd shown
ones_shown v (r ∷ rs) [] shown = absurd shown
ones_shown v (r ∷ rs) (b ∷ word) shown =
    let rest = ones_shown v rs word shown.1 in
    λ i. one_shown v r b shown.0 i ∷ rest i
  where
    one_shown : (v : Nets) (r : Rails) (b : Bool) → Shows v r b → v r.one.0 ≡ b
    one_shown v r true shown = shown.high
    one_shown v r false shown = shown.low

-- a pair among those that show a word shows a bit
pub shown_at : (v : Nets) (pairs : List Rails) (word : List Bool) → ShowWord v pairs word → (k : ℕ) (r : Rails) → slice_get pairs k ≡ Some r → (b : Bool) × Shows v r b
shown_at v [] word shown k r at = absurd cc
shown_at v (p ∷ pairs) [] shown k r at = absurd shown
shown_at v (p ∷ pairs) (b ∷ word) shown zero r at = let same : p ≡ r = cc in (b, subst (λ x. Shows v x b) same shown.0)
shown_at v (p ∷ pairs) (b ∷ word) shown (suc k) r at = shown_at v pairs word shown.1 k r at
