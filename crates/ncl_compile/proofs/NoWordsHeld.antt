-- Where no cell of a netlist is reset to 1, no bank of its pipelines holds a word at reset.
use Rattle.ncl_compile.proofs.Terms.{All, All-contains, Bank, Cell, Contains-from_Member, List, Member, NetlistData, PipelineData, Shape, [], ap, both_ways, data_bank_of, data_banks, false, false_from_ne_true, here, if◌then◌else◌, is_data_bank, is_data_register, refl, slice_get-from_Contains, there, true, ◌+◌, ◌∙◌, ◌∷◌, ◌≡◌}

module _ (n : NetlistData) (p : PipelineData) (shape : Shape n p) (no_data : All (λ (cell : Cell). is_data_register cell.kind ≡ false) n.cells) where
  no_data_bank : (b : Bank) → Member b p.banks → is_data_bank b ≡ false
  no_data_bank b m = false_from_ne_true (is_data_bank b) plain
    where
      plain : is_data_bank b ≡ true → ⊥
      plain held =
          let (k, at) = slice_get-from_Contains p.banks b (Contains-from_Member b m) in
          let (c, of_bank, data_is) = data_bank_of n shape.is_netlist shape.free b (shape.banks k b at).0 held in
          both_ways (is_data_register c.kind) (All-contains (λ (cell : Cell). is_data_register cell.kind ≡ false) n.cells c no_data of_bank.0) data_is

  none_among : (banks : List Bank) → ((b : Bank) → Member b banks → is_data_bank b ≡ false) → data_banks banks ≡ 0
  none_among [] none = refl
  none_among (b ∷ banks) none =
      ap (λ own. data_banks banks + (if own then 1 else 0)) (none b here) ∙ ap (λ count. count + 0) (none_among banks (λ c m. none c (there m)))

  pub no_words_held : data_banks p.banks ≡ 0
  no_words_held = none_among p.banks no_data_bank
