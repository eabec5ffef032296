-- The statuses of failed devices come from failed devices alone.
use Rattle.ncl_top.proofs.Terms.{Accepted, Answer, AreDelaysText, AreModelsText, AreRefusedDelays, AreRefusedModels, AreRefusedWords, AreWordsText, Arguments, Bool, CameOut, Circuit, Command, DelaysData, End, Files, Hazard, IsDelaysReply, IsDemoReply, IsMatched, IsModelsMatched, IsModelsReply, IsPipelineText, IsReadReply, IsReadReply-each, IsRefusedText, IsReply, IsRunReply, IsWordsReply, List, Model, NoPipeline, Option, Outcome, Over, PipelineData, Quiet, Ran, Refused, Rose, Says, SinkState, SourceState, Unjudged, answered, arith, check, circuit_of, compile, compiled, cut_short, demo, end_status, false, length, matching, no_memory, not_understood, read_failed, replied, sim, status_of, subst, sym, too_large, true, whole, ℕ, ◌≡◌, ◌≢◌}
use Rattle.ncl_top.specs.Demonstrating as demonstrating
use Rattle.ncl_sim_match.specs.Matching as compares

-- neither that of a source that failed nor that of a sink that did
abbrev IsOfNoFault : ℕ → Type 0
IsOfNoFault status = (status ≢ 4) × (status ≢ 5)

of_outcome : (outcome : Outcome) → IsOfNoFault (status_of outcome)
of_outcome Accepted = (λ e. absurd (omega arith), λ e. absurd (omega arith))
of_outcome Refused = (λ e. absurd (omega arith), λ e. absurd (omega arith))
of_outcome NoPipeline = (λ e. absurd (omega arith), λ e. absurd (omega arith))
of_outcome Unjudged = (λ e. absurd (omega arith), λ e. absurd (omega arith))

of_models : (models : List Model) (merge : Bool) {status : ℕ} {text : List ℕ} → IsModelsReply models merge status text → IsOfNoFault status
of_models models merge (too_large fault named is) = (λ e. absurd (omega arith), λ e. absurd (omega arith))
of_models models merge (compiled can n of text written) = (λ e. absurd (omega arith), λ e. absurd (omega arith))

of_end : (end : End) (all : Bool) → IsOfNoFault (end_status end all)
of_end Quiet true = (λ e. absurd (omega arith), λ e. absurd (omega arith))
of_end Quiet false = (λ e. absurd (omega arith), λ e. absurd (omega arith))
of_end (Hazard item time) all = (λ e. absurd (omega arith), λ e. absurd (omega arith))
of_end Over all = (λ e. absurd (omega arith), λ e. absurd (omega arith))

of_run : (p : PipelineData) (d : DelaysData) (offered : List (List Bool)) (vcd : Bool) {status : ℕ} {text : List ℕ} → IsRunReply p d offered vcd status text → IsOfNoFault status
of_run p d offered vcd run = subst IsOfNoFault (sym run.ends) (of_end run.trace.end _)

of_matched : (c : Circuit) (models : List Model) (limit : ℕ) {status : ℕ} {text : List ℕ} → IsMatched c models limit status text → IsOfNoFault status
of_matched c models limit (compares.widths is) = (λ e. absurd (omega arith), λ e. absurd (omega arith))
of_matched c models limit (compares.full output is) = (λ e. absurd (omega arith), λ e. absurd (omega arith))
of_matched c models limit (compares.differs argument output is) = (λ e. absurd (omega arith), λ e. absurd (omega arith))
of_matched c models limit (compares.same is) = (λ e. absurd (omega arith), λ e. absurd (omega arith))

-- nor is it that of a file that is refused
of_read : {A : Type 0} (refuses : List ℕ → List ℕ → Type 0) (says : List ℕ → A → Type 0) (replies : A → ℕ → List ℕ → Type 0) → ((what : A) (status : ℕ) (text : List ℕ) → replies what status text → IsOfNoFault status) → (told : Option Files) (name : List ℕ) {status : ℕ} {text : List ℕ} → IsReadReply told name refuses says replies status text → IsOfNoFault status
of_read refuses says replies each = IsReadReply-each refuses says replies IsOfNoFault (λ e. absurd (omega arith), λ e. absurd (omega arith)) each

of_demo : (bits : ℕ) {status : ℕ} {text : List ℕ} → IsDemoReply bits status text → IsOfNoFault status
of_demo bits (demonstrating.shown p made accepted t run) = (λ e. absurd (omega arith), λ e. absurd (omega arith))
of_demo bits (demonstrating.too_large p made stage limit) = (λ e. absurd (omega arith), λ e. absurd (omega arith))

of_reply : (command : Command) (told : Option Files) (status : ℕ) (text : List ℕ) → IsReply command told status text → IsOfNoFault status
of_reply (check file limit why) told status text reply = subst IsOfNoFault (sym reply.ends) (of_outcome reply.outcome)
of_reply (compile file merge) told status text reply = of_read AreRefusedModels AreModelsText (λ models. IsModelsReply models merge) (λ models status text reply. of_models models merge reply) told file reply
of_reply (sim netlist delays words vcd) told status text reply =
    of_read IsRefusedText IsPipelineText (λ p. IsDelaysReply told p delays words vcd)
    (λ p status text. of_read (AreRefusedDelays p.netlist) (AreDelaysText p.netlist) (λ d. IsWordsReply told p d words vcd)
    (λ d status text. of_read (AreRefusedWords (length p.inputs)) (AreWordsText (length p.inputs)) (λ offered. IsRunReply p d offered vcd)
    (λ offered status text reply. of_run p d offered vcd reply) told words) told delays) told netlist reply
of_reply (matching netlist blif limit) told status text reply =
    of_read IsRefusedText IsPipelineText (λ p. IsModelsMatched told p blif limit)
    (λ p status text. of_read AreRefusedModels AreModelsText (λ models. IsMatched (circuit_of p) models limit) (λ models status text reply. of_matched (circuit_of p) models limit reply) told blif) told netlist reply
of_reply (demo bits) told status text reply = of_demo bits reply

-- what is answered where nothing fails has no such status
of_answer : (arguments : Arguments) (told : Option Files) {status : ℕ} {text : List ℕ} → Answer arguments told status text → IsOfNoFault status
of_answer arguments told (not_understood none) = (λ e. absurd (omega arith), λ e. absurd (omega arith))
of_answer arguments told (replied command is status text reply) = of_reply command told status text reply

read_rose : (arguments : Arguments) (source source' : SourceState) (sink sink' : SinkState) {said status : ℕ} {text : List ℕ} → Says arguments source source' said text → CameOut sink sink' said text status → status ≡ 4 → Rose source.faults source'.faults
read_rose arguments source source' sink sink' (answered status text answer) (whole grew) e = absurd ((of_answer arguments source.files answer).0 e)
read_rose arguments source source' sink sink' says (cut_short rose grew) e = absurd (omega arith)
read_rose arguments source source' sink sink' (read_failed command of named rose) (whole grew) e = rose
read_rose arguments source source' sink sink' no_memory (whole grew) e = absurd (omega arith)

write_rose : (arguments : Arguments) (source source' : SourceState) (sink sink' : SinkState) {said status : ℕ} {text : List ℕ} → Says arguments source source' said text → CameOut sink sink' said text status → status ≡ 5 → Rose sink.faults sink'.faults
write_rose arguments source source' sink sink' (answered status text answer) (whole grew) e = absurd ((of_answer arguments source.files answer).1 e)
write_rose arguments source source' sink sink' says (cut_short rose grew) e = rose
write_rose arguments source source' sink sink' (read_failed command of named rose) (whole grew) e = absurd (omega arith)
write_rose arguments source source' sink sink' no_memory (whole grew) e = absurd (omega arith)

-- a call that ended with 4 had a source that failed
pub read_has_failed : (arguments : Arguments) (source source' : SourceState) (sink sink' : SinkState) (status : ℕ) → Ran arguments source source' sink sink' status → status ≡ 4 → Rose source.faults source'.faults
read_has_failed arguments source source' sink sink' status call = read_rose arguments source source' sink sink' call.says call.tells

-- a call that ended with 5 had a sink that failed
pub write_has_failed : (arguments : Arguments) (source source' : SourceState) (sink sink' : SinkState) (status : ℕ) → Ran arguments source source' sink sink' status → status ≡ 5 → Rose sink.faults sink'.faults
write_has_failed arguments source source' sink sink' status call = write_rose arguments source source' sink sink' call.says call.tells
