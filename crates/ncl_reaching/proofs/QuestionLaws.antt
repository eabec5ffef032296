-- What is asked of a chain, and a space that is as it was.
use Rattle.ncl_reaching.proofs.Terms.{Base, Bool, BothRails, IsNew, IsOrderOf, IsPast, Keeps, List, NoRail, None, Option, RailFault, Rails, Restores, Shown, Some, SpaceData, StageData, StageFault, Variant, [], after_base, all_over, ap, ascending, below, distinct_beads, false, faults_of, first_at, first_of, first_rail_fault_by, first_shown, fits, flat_map, found_fault_by, inputs_of_chain, is_within, least_word_by, length, map, member-found, net_tables_by, nets_over, option_and_then, option_map, question_count, rail_fault, refl, shown_by, shows, sym, with_tables, words_by, words_by-length, ℕ, ◌<◌, ◌∙◌, ◌∷◌, ◌≡◌}
use Rattle.std.specs.FinSet as set
use Rattle.ncl_complete.specs.declared.rail_fault.RailFault.TheVariants as rail

pub fits-restored : (a b : SpaceData) (tables : List (List Bool)) → Restores a b → fits b tables ≡ fits a tables
fits-restored a b tables back = λ i. is_within (back.keeps.limit i) (set.len (set.union (back.held i) (distinct_beads (back.keeps.width i) tables)))

pub past-restored : (a b : SpaceData) (order : List ℕ) (c : StageData) → Restores a b → IsPast b order c → IsPast a order c
past-restored a b order c back past = record { variant = past.variant; past = sym (fits-restored a b _ back) ∙ past.past }

-- the least word has the bits of the stage
pub least-wide : (c : StageData) (order : List ℕ) → IsOrderOf (length c.inputs) order → (fault : StageFault) (o : Option (List Bool)) (word : List Bool) → o ≡ least_word_by order c fault → o ≡ Some word → length word ≡ length c.inputs
least-wide c order ordered fault o word is some = words_by-length order word (member-found (λ w. shows c w fault) (words_by order) word (sym is ∙ some)) ∙ ordered.many

-- a fault of an output with the word that shows it
abbrev pub rail_shown : RailFault → Shown
rail_shown (rail.BothRails output word) = (BothRails output, word)
rail_shown (rail.NoRail output word) = (NoRail output, word)

answers : (order : List ℕ) (c : StageData) (outputs : List ℕ) → option_map rail_shown (first_of (map (found_fault_by order c) (flat_map (λ k. BothRails k ∷ NoRail k ∷ []) outputs))) ≡ first_of (map (shown_by (least_word_by order c)) (flat_map (λ k. BothRails k ∷ NoRail k ∷ []) outputs))
answers order c [] = refl
answers order c (k ∷ outputs) = by_words (least_word_by order c (BothRails k)) (least_word_by order c (NoRail k)) (map (found_fault_by order c) rest) (map (shown_by (least_word_by order c)) rest) (answers order c outputs)
  where
    rest : List StageFault
    rest = flat_map (λ k. BothRails k ∷ NoRail k ∷ []) outputs

    by_words : (both neither : Option (List Bool)) (faults : List (Option RailFault)) (shown : List (Option Shown)) → option_map rail_shown (first_of faults) ≡ first_of shown
        → option_map rail_shown (first_of (option_and_then (rail_fault (BothRails k)) both ∷ option_and_then (rail_fault (NoRail k)) neither ∷ faults))
        ≡ first_of (option_map (λ input. (BothRails k, input)) both ∷ option_map (λ input. (NoRail k, input)) neither ∷ shown)
    by_words None None faults shown e = e
    by_words None (Some word) faults shown e = refl
    by_words (Some word) neither faults shown e = refl

pub outputs-found : (order : List ℕ) (c : StageData) (o : Option RailFault) → o ≡ first_rail_fault_by order c → option_map rail_shown o ≡ first_of (map (shown_by (least_word_by order c)) (faults_of c Base))
outputs-found order c o is = ap (option_map rail_shown) is ∙ answers order c (below (length c.outputs))

-- of a chain these are the faults of the outputs of its last stage
pub outputs-asked : (order : List ℕ) (c s : StageData) → c.outputs ≡ s.outputs → first_of (map (shown_by (least_word_by order c)) (faults_of c Base)) ≡ first_at (inputs_of_chain order c s) s Base
outputs-asked order c s same =
    ap (λ (bits : List Rails). first_of (map (shown_by (least_word_by order c)) (flat_map (λ k. BothRails k ∷ NoRail k ∷ []) (below (length bits))))) same
    ∙ ap first_of (go (below (length s.outputs)))
  where
    go : (outputs : List ℕ) → map (shown_by (least_word_by order c)) (flat_map (λ k. BothRails k ∷ NoRail k ∷ []) outputs) ≡ map (shown_by (inputs_of_chain order c s)) (flat_map (λ k. BothRails k ∷ NoRail k ∷ []) outputs)
    go [] = refl
    go (k ∷ outputs) = ap (λ rest. shown_by (least_word_by order c) (BothRails k) ∷ shown_by (least_word_by order c) (NoRail k) ∷ rest) (go outputs)

-- so what is found of them is the first of all, and where nothing is, what is found after them
module _ (order : List ℕ) (c s : StageData) (same : c.outputs ≡ s.outputs) (o : Option Shown) (is : o ≡ first_of (map (shown_by (least_word_by order c)) (faults_of c Base))) where
  abbrev later : List (Option Shown)
  later = map (first_at (inputs_of_chain order c s) s) (after_base s)

  pub first-outputs : (shown : Shown) → o ≡ Some shown → Some shown ≡ first_shown (inputs_of_chain order c s) s
  first-outputs shown e = sym (ap (λ answer. first_of (answer ∷ later)) (sym (outputs-asked order c s same) ∙ sym is ∙ e))

  pub first-later : o ≡ None → (found : Option Shown) → found ≡ first_of later → found ≡ first_shown (inputs_of_chain order c s) s
  first-later e found said = said ∙ sym (ap (λ answer. first_of (answer ∷ later)) (sym (outputs-asked order c s same) ∙ sym is ∙ e))

-- ---- past the limit

module _ (a : SpaceData) (c : StageData) (limit : ℕ) (width : a.width ≡ length c.inputs) (bound : a.limit ≡ Some limit) (new : IsNew a) (order : List ℕ) (ordered : order ≡ ascending c) where
  -- at the nets
  pub nets-past : fits a (net_tables_by order c Base) ≡ false → (variant : Variant) × (limit < question_count c variant)
  nets-past e = (Base, nets_over a c Base limit width bound new order ordered e)

  -- and at a question over them
  pub question-past : (b : SpaceData) → Keeps a b → b.held ≡ with_tables a (net_tables_by order c Base) → IsPast b order c → (variant : Variant) × (limit < question_count c variant)
  question-past b keeps held past = (past.variant, all_over a c past.variant limit width bound new order ordered b keeps held past.past)
