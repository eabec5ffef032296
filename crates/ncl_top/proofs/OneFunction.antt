-- What status 0 of a comparison says.
use Rattle.ncl_top.proofs.Terms.{Agree, AreModels, AreModelsText, AreRefusedModels, Arguments, Bool, Circuit, Computes, DiffersAt, Files, HaveOneFunction, HaveWidths, IsAnswer, IsMatchReply, IsMatched, IsModel, IsModelsMatched, IsPipelineText, IsReadReply-said, IsRefusedText, List, MatchesWhatIsSame, Model, Ok, Rails, Ran, Same, SinkState, Some, SourceState, [], ap, arith, bit_of, bytes_of, circuit_of, closed, computed, computes_some, differs, ext_get_or, false, full, get_or, length, length-map, matching, outputs_of, recursion_from_All, refl, same, subst, sym, true, widths, ℕ, ◌+◌, ◌-◌, ◌<◌, ◌∙◌, ◌∷◌, ◌≡◌, ◌≢◌}
use Rattle.ncl_top.proofs.Ends.{replied_well}

-- bits that don't differ are one
one_bit : (a b : Bool) → (a ≢ b → ⊥) → a ≡ b
one_bit true true h = refl
one_bit true false h = absurd (h (λ e. absurd cc))
one_bit false true h = absurd (h (λ e. absurd cc))
one_bit false false h = refl

-- models give words of as many bits as the last of them has outputs
answer_width : (models : List Model) (word answer : List Bool) → 0 < length models → Computes models word answer → length answer ≡ outputs_of models
answer_width [] word answer some is = absurd (omega (arith, some))
answer_width (m ∷ []) word answer some (between, (bits, fits, gives), is) = ap length is ∙ ap length gives ∙ length-map m.outputs bits
answer_width (m ∷ n ∷ ms) word answer some (between, gives, rest) = answer_width (n ∷ ms) between answer (omega arith) rest

module _ (c : Circuit) (models : List Model) (are : AreModels models) (widths_are : HaveWidths c models) (agree : Agree (DiffersAt c models) 0 (length c.outputs)) where
  -- a bit in which the answers agree
  agree_at : (word answer : List Bool) → length word ≡ length c.inputs → Computes models word answer → (j : ℕ) → j < length c.outputs → get_or (computed c word) j false ≡ get_or answer j false
  agree_at word answer wide computes j within =
      let place : j + 1 - 1 ≡ j = omega arith in
      let alike : bit_of (computed c word) (j + 1) ≡ bit_of answer (j + 1) =
      one_bit (bit_of (computed c word) (j + 1)) (bit_of answer (j + 1))
      (λ differ. agree (j + 1) word (record { after = omega arith; until = omega (arith, within) }) (record { wide = wide; answer = answer; computes = computes; differ = differ })) in
      subst (λ k. get_or (computed c word) k false ≡ get_or answer k false) place alike

  computes_it : (word : List Bool) → length word ≡ length c.inputs → Computes models word (computed c word)
  computes_it word wide =
      let (answer, computes) = computes_some models (recursion_from_All IsModel models are.each) are.joined word (wide ∙ widths_are.inputs) in
      let many : length (computed c word) ≡ length c.outputs = length-map c.outputs (λ (r : Rails). closed c word r.one.0) in
      let as_many : length (computed c word) ≡ length answer = many ∙ widths_are.outputs ∙ sym (answer_width models word answer are.some computes) in
      let one : computed c word ≡ answer = ext_get_or false (computed c word) answer as_many (λ j within. agree_at word answer wide computes j (omega (arith, within, many))) in
      subst (Computes models word) (sym one) computes

-- the answer that has status 0
same_by_status : (c : Circuit) (models : List Model) (limit : ℕ) {status : ℕ} {text : List ℕ} → IsMatched c models limit status text → status ≡ 0 → IsAnswer c models limit (Ok Same)
same_by_status c models limit (widths is) e = absurd (omega arith)
same_by_status c models limit (full output is) e = absurd (omega arith)
same_by_status c models limit (differs word output is) e = absurd (omega arith)
same_by_status c models limit (same is) e = is

files_same : (files : Files) (netlist blif : List ℕ) (limit : ℕ) {text : List ℕ} → IsMatchReply (Some files) netlist blif limit 0 text → HaveOneFunction (bytes_of files netlist) (bytes_of files blif)
files_same files netlist blif limit reply =
    let (p, piped, compared) = IsReadReply-said IsRefusedText IsPipelineText (λ p. IsModelsMatched (Some files) p blif limit) (Some files) netlist reply (λ e. absurd (omega arith)) in
    let (models, said, matched) = IsReadReply-said AreRefusedModels AreModelsText (λ models. IsMatched (circuit_of p) models limit) (Some files) blif compared (λ e. absurd (omega arith)) in
    let found = same_by_status (circuit_of p) models limit matched refl in
    record {
      pipeline = p;
      is = subst (λ bytes. IsPipelineText bytes p) piped.given piped.is;
      models = models;
      are = subst (λ bytes. AreModelsText bytes models) said.given said.is;
      widths = found.0;
      function = computes_it (circuit_of p) models said.is.are found.0 found.1.1;
    }

-- whatever ended with status 0 on a comparison, ended so on a netlist and models that have one function
pub matches_what_is_same : (arguments : Arguments) (source source' : SourceState) (sink sink' : SinkState) (status : ℕ) → Ran arguments source source' sink sink' status → MatchesWhatIsSame arguments source status
matches_what_is_same arguments source source' sink sink' status ran files netlist blif limit told asked e =
    let (text, reply, _) = replied_well arguments source source' sink sink' status ran (matching netlist blif limit) asked e in
    files_same files netlist blif limit (subst (λ held. IsMatchReply held netlist blif limit 0 text) told reply)
