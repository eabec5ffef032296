-- At reset no rail is raised.
use Rattle.ncl_machine.proofs.Terms.{All, All-from_members, All-from_recursion, AreWordsOf, Bool, Held, IsCounted, LevelsData, List, Member, Pair, PipelineData, Rails, [], ap, data_banks, false, length, net_values, rail_nets, rails_beside, rails_of_word, reset_nets, slice_get, subst, sym, ℕ, ◌+◌, ◌<◌, ◌∙◌, ◌≡◌}
use Rattle.ncl_machine.proofs.Counts.{count-nothing}
use Rattle.ncl_machine.proofs.ProgramEnds.{AreProgramEnds}
use Rattle.ncl_machine.proofs.SourceRails.{current-within, beside-within}

abbrev pub at_start : PipelineData → List (List Bool) → List Bool → Held
at_start p words values = record { inputs = p.inputs; outputs = p.outputs; ki = p.ki; ko = p.ko; offered = words; due = data_banks p.banks + length words; values = values; done = 0; falling = false; delivered = [] }

pub start_counted : (p : PipelineData) → AreProgramEnds p → (words : List (List Bool)) → AreWordsOf p words → (values : List Bool)
    → length values ≡ length p.netlist.nets → net_values values ≡ reset_nets p → IsCounted (at_start p words values) 0
start_counted p ends words wide values long are = record {
  words = All-from_recursion (λ (word : List Bool). length word ≡ length p.inputs) words wide;
  apart = ends.inputs_apart;
  within = subst (λ n. All (λ net. net < n) (rail_nets p.inputs)) (sym long) ends.inputs_within;
  ki_apart = ends.ki_apart;
  ki_within = subst (λ n. p.ki < n) (sym long) ends.ki_within;
  ko_within = subst (λ n. p.ko < n) (sym long) ends.ko_within;
  count = sym (count-nothing (net_values values) (rails_of_word p.inputs (slice_get words 0)) (λ net m. low net (current-within p.inputs (slice_get words 0) net m)));
  others = All-from_members (λ net. net_values values net ≡ false) (rails_beside p.inputs (slice_get words 0)) (λ net m. low net (beside-within p.inputs (slice_get words 0) net m));
}
  where
    low : (net : ℕ) → Member net (rail_nets p.inputs) → net_values values net ≡ false
    low net m = ap (λ v. v net) are ∙ ends.inputs_low net m

-- the same by its fields
pub start_same : (p : PipelineData) (words : List (List Bool)) (values : List Bool) (inputs outputs : List Rails) (d : LevelsData) (ki ko : ℕ) (offered : List (List Bool)) (due : ℕ) (delivered : List Pair)
    → inputs ≡ p.inputs → d ≡ (record { values = values; outputs = outputs }) → outputs ≡ p.outputs → ki ≡ p.ki → ko ≡ p.ko → offered ≡ words → due ≡ data_banks p.banks + length words → delivered ≡ []
    → at_start p words values ≡ (record { inputs = inputs; outputs = d.outputs; ki = ki; ko = ko; offered = offered; due = due; values = d.values; done = 0; falling = false; delivered = delivered })
start_same p words values inputs outputs d ki ko offered due delivered e f g h i j m k =
    let outputs_same : d.outputs ≡ p.outputs = ap (λ (d : LevelsData). d.outputs) f ∙ g in
    let values_same : d.values ≡ values = ap (λ (d : LevelsData). d.values) f in
    cc
