-- How the parts of a simulation come to its reply.
use Rattle.ncl_sim_match.proofs.Terms.{AreRefusedDelays, AreRefusedWords, ComesFrom, DelayFault, DelayMemory, Err, Fault, Files, Fixed, Gives, IsErrAnd, IsNetlistText, IsPipelineText, IsRefusedText, IsShapeless, List, MOST_BITS, MOST_BYTES, Made, NetlistData, Ok, Option, PipelineData, Refusal, Refuses-weaker, Replies, Replies-told, Reply, Result, Shape, Some, TellsLine, WordsFault, WordsMemory, arith, broken_delays, broken_words, cell_names, delay_line, fault_in, fault_of, inl, inr, laid_out_of, length, pipeline_text, shapeless, subst, sym, told_lines, words_fault, words_line, ℕ, ◌≡◌, ◌≢◌, ◌≤◌, ◌⊎◌}

-- a reply that stands in one relation stands in another that follows
pub gives_from : (relation other : ℕ → List ℕ → Type 0) → ((status : ℕ) (text : List ℕ) → relation status text → other status text) → (r : Reply) → Gives relation r → Gives other r
gives_from relation other follows (Made status text) h = follows status text.items h
gives_from relation other follows (Fixed status text) h = follows status text.now h

-- what is replied, or refused, in one relation is so in another that follows
pub Replies-weaker : (relation other : ℕ → List ℕ → Type 0) → ((status : ℕ) (text : List ℕ) → relation status text → other status text) → (r : Result Reply Fault) → Replies relation r → Replies other r
Replies-weaker relation other follows (Ok reply) h = gives_from relation other follows reply h
Replies-weaker relation other follows (Err fault) h = Refuses-weaker (relation 3) (other 3) (λ line. follows 3 line) fault h

-- the answer to a netlist that was read and has no shape
pub Replies-shapeless : (told : Option Files) (file : List ℕ) (n : NetlistData) → ComesFrom told file IsNetlistText n → (relation : ℕ → List ℕ → Type 0) → ((line : List ℕ) → ComesFrom told file IsRefusedText line → relation 3 line) → (refusal : Refusal) → TellsLine (IsShapeless n) refusal → (r : Result Reply Fault) → IsErrAnd r (λ e. e ≡ fault_of refusal) → Replies relation r
Replies-shapeless told file n from relation follows refusal none r is =
    Replies-told (IsShapeless n) relation (λ line by. follows line (record { bytes = from.bytes; given = from.given; is = shapeless n from.is line by })) refusal none r is

-- a pipeline that is found in a netlist that was read is the text's
pub pipeline_from : (told : Option Files) (file : List ℕ) (n : NetlistData) (p : PipelineData) → ComesFrom told file IsNetlistText n → Shape n p → ComesFrom told file IsPipelineText p
pipeline_from told file n p from of = record { bytes = from.bytes; given = from.given; is = pipeline_text from.bytes n p from.is of }

-- a pipeline has 1 to 128 inputs
pub inputs_some : (p : PipelineData) → Shape p.netlist p → (1 ≤ length p.inputs) × (length p.inputs ≤ MOST_BITS)
inputs_some p shape =
    let (l, is) = laid_out_of p.netlist p shape in
    let stage = is.is_stage 0 (omega arith) in
    (subst (λ bits. 1 ≤ length bits) is.source stage.some_inputs, subst (λ bits. length bits ≤ MOST_BITS) is.source stage.few_inputs)

-- the line that is told of delays that break
pub delays_refused : (n : NetlistData) (bytes : List ℕ) → length bytes ≤ MOST_BYTES → (fault : DelayFault) → (fault ≡ DelayMemory) ⊎ (fault_in (cell_names n) (told_lines bytes) ≡ Some fault) → (line : List ℕ) → (fault ≢ DelayMemory) × (line ≡ delay_line fault) → AreRefusedDelays n bytes line
delays_refused n bytes few fault (inl memory) line told = absurd (told.0 memory)
delays_refused n bytes few fault (inr broken) line told = subst (AreRefusedDelays n bytes) (sym told.1) (broken_delays few fault broken)

-- and of words
pub words_refused : (width other : ℕ) (bytes : List ℕ) → other ≡ width → length bytes ≤ MOST_BYTES → (fault : WordsFault) → (fault ≡ WordsMemory) ⊎ (words_fault other 0 (told_lines bytes) ≡ Some fault) → (line : List ℕ) → (fault ≢ WordsMemory) × (line ≡ words_line fault) → AreRefusedWords width bytes line
words_refused width other bytes same few fault (inl memory) line told = absurd (told.0 memory)
words_refused width other bytes same few fault (inr broken) line told =
    subst (AreRefusedWords width bytes) (sym told.1) (broken_words few fault (subst (λ w. words_fault w 0 (told_lines bytes) ≡ Some fault) same broken))
