-- What is compiled works at every gate delay, and is accepted.
use Rattle.ncl_top.proofs.Terms.{AreModelsText, AreRefusedModels, Arguments, Bool, Compiled, CompilesWhatWorks, Files, IsCompiledFile, IsCompiledText, IsMergedText, IsModelsReply, IsReadReply-said, List, Model, NetlistData, Option, Ran, Shape, SinkState, SourceState, WorksAndIsAccepted, ap, arith, both_ways, compile, compiled, delay_insensitive, inl, inr, merged, netlist_of, outcome_is, outcome_of, plain, reads_again, refl, sound_verdict, subst, sym, too_large, true, ℕ, ◌∙◌, ◌≡◌}
use Rattle.ncl_writer.specs.Text.{text_of}
use Rattle.ncl_top.proofs.Ends.{replied_well}
use Rattle.ncl_top.proofs.PlainNames.{writable}

-- the text of a compiled netlist
compiled_works : (models : List Model) (n : NetlistData) → Compiled models n → WorksAndIsAccepted (text_of n)
compiled_works models n c =
    let p = c.pipeline in
    let (parts, reads, faultless, is) = reads_again n (text_of n) c.shape.is_netlist (writable models n c) refl in
    let shape : Shape (netlist_of parts) p = subst (λ m. Shape m p) (sym is) c.shape in
    record {
      works = record { parts = parts; reads = reads; builds = faultless; pipeline = p; shape = shape; insensitive = delay_insensitive n p c.shape c.sound };
      check = λ limit why outcome line reply.
          let same = outcome_is limit why (text_of n) p reply (record { text = record { few = c.short; parts = parts; reads = reads; builds = faultless; netlist = c.shape.netlist ∙ sym is }; shape = subst (λ m. Shape m p) (sym c.shape.netlist) c.shape }) in
          elim (sound_verdict limit p.stages c.sound) [
            | inl within ↦ inl (within.0, same ∙ ap outcome_of within.1)
            | inr over ↦ inr (over.0, same ∙ ap outcome_of over.1.1)
          ];
    }

-- what is written where models are compiled
abbrev IsGood : Bool → List ℕ → Type 0
IsGood merge text = WorksAndIsAccepted text × (merge ≡ true → IsMergedText text)

text_works : (models : List Model) (n : NetlistData) (merge : Bool) {text : List ℕ} → Compiled models n → IsCompiledText models n merge text → IsGood merge text
text_works models n merge of (plain not_asked) = (compiled_works models n of, λ asked. absurd (both_ways merge not_asked asked))
text_works models n merge of (merged asked m from also) =
    (compiled_works models m also, λ asked. record { models = models; before = n; after = m; compiled_before = of; compiled = also; merged = from; is = refl })

models_work : (models : List Model) (merge : Bool) {status : ℕ} {text : List ℕ} → IsModelsReply models merge status text → status ≡ 0 → IsGood merge text
models_work models merge (too_large fault named is) e = absurd (omega arith)
models_work models merge (compiled can n of text written) e = text_works models n merge of written

file_works : (told : Option Files) (file : List ℕ) (merge : Bool) {text : List ℕ} → IsCompiledFile told file merge 0 text → IsGood merge text
file_works told file merge reply =
    let (models, _, made) = IsReadReply-said AreRefusedModels AreModelsText (λ models. IsModelsReply models merge) told file reply (λ e. absurd (omega arith)) in
    models_work models merge made refl

-- whatever ended with status 0 on compiling, ended so with a text that works
pub compiles_what_works : (arguments : Arguments) (source source' : SourceState) (sink sink' : SinkState) (status : ℕ) → Ran arguments source source' sink sink' status → CompilesWhatWorks arguments sink sink' status
compiles_what_works arguments source source' sink sink' status ran file merge asked e =
    let (text, reply, grew) = replied_well arguments source source' sink sink' status ran (compile file merge) asked e in
    let (works, from) = file_works source.files file merge reply in
    (text, works, from, grew)
