-- What follows from how a call ended.
use Rattle.ncl_reach_top.proofs.Terms.{Arguments, Asks, CameOut, Files, Fixed, Gives, Grew, IsDelayInsensitiveText, IsReachAnswered, IsReachedFile, IsWrongForInput, List, Made, SaysReached, SinkState, Some, SourceState, accepted_by_status, arith, bytes_of, check, cut_short, false, no_memory, not_understood, read_failed, refused_by_status, replied, subst, sym, whole, ℕ, ◌∙◌, ◌≡◌, ◌≤◌}
use Rattle.ncl_reply.specs.declared.reply.Reply.{Reply}
use Rattle.ncl_reach_top.proofs.Replies.{reach_works, reach_wrong}

module _ (arguments : Arguments) (source source' : SourceState) (sink sink' : SinkState) (file : List ℕ) (limit wanted : ℕ) (low : wanted ≤ 1) (asks : Asks arguments file limit) where
  -- a file that was replied to with this status, and what was written of it
  record IsEnd : Type 0 where
    pub text : List ℕ
    pub reply : IsReachedFile source.files file limit wanted text
    pub grew : Grew sink.written text sink'.written

  replied_so : {said status : ℕ} {text : List ℕ} → status ≡ wanted → SaysReached arguments source source' said text → CameOut sink sink' said text status → IsEnd
  replied_so e (not_understood none) (whole grew) = absurd (omega (arith, low, e))
  replied_so e (replied other bound asked said text reply) (whole grew) =
      let both : Some (check other bound false) ≡ Some (check file limit false) = sym asked ∙ asks in
      let same_file : other ≡ file = cc in
      let same_limit : bound ≡ limit = cc in
      record { text = text; reply = subst (λ f. IsReachedFile source.files f limit wanted text) same_file (subst (λ n. IsReachedFile source.files other n wanted text) same_limit (subst (λ s. IsReachedFile source.files other bound s text) e reply)); grew = grew }
  replied_so e (read_failed other bound asked rose) (whole grew) = absurd (omega (arith, low, e))
  replied_so e no_memory (whole grew) = absurd (omega (arith, low, e))
  replied_so e says (cut_short rose grew) = absurd (omega (arith, low, e))

-- status 0 says that the text works
works_file : (files : Files) (file : List ℕ) (limit : ℕ) {text : List ℕ} → IsReachedFile (Some files) file limit 0 text → IsDelayInsensitiveText (bytes_of files file)
works_file files file limit reply = subst IsDelayInsensitiveText reply.given (reach_works limit reply.bytes reply.reply (accepted_by_status reply.outcome (sym reply.ends)))

-- and status 1 that it doesn't
wrong_file : (files : Files) (file : List ℕ) (limit : ℕ) {text : List ℕ} → IsReachedFile (Some files) file limit 1 text → IsWrongForInput limit (bytes_of files file) text
wrong_file files file limit {text} reply = subst (λ bytes. IsWrongForInput limit bytes text) reply.given (reach_wrong limit reply.bytes reply.reply (refused_by_status reply.outcome (sym reply.ends)))

-- the reply to the file that the arguments name is what the call says
pub says_reached : (arguments : Arguments) (before now : SourceState) (file : List ℕ) (limit : ℕ) (reply : Reply) → Asks arguments file limit → Gives (IsReachedFile before.files file limit) reply → Gives (SaysReached arguments before now) reply
says_reached arguments before now file limit (Made status text) asks told = replied file limit asks status text.items told
says_reached arguments before now file limit (Fixed status text) asks told = replied file limit asks status text.now told

-- a call that ran has kept all that is promised of it
pub answered_by : (arguments : Arguments) (source source' : SourceState) (sink sink' : SinkState) (said status : ℕ) (text lent : List ℕ) → SaysReached arguments source source' said text → lent ≡ text → CameOut sink sink' said lent status
    → source'.files ≡ source.files → source.faults ≤ source'.faults → sink.faults ≤ sink'.faults
    → IsReachAnswered arguments source source' sink sink' status
answered_by arguments source source' sink sink' said status text lent says is out files source_faults sink_faults =
    let tells : CameOut sink sink' said text status = subst (λ t. CameOut sink sink' said t status) is out in
    record {
      said = said;
      text = text;
      says = says;
      tells = tells;
      headline = λ held file limit told asks e.
          let end = replied_so arguments source source' sink sink' file limit 0 (omega arith) asks e says tells in
          works_file held file limit (subst (λ f. IsReachedFile f file limit 0 end.text) told end.reply);
      refusal = λ held file limit told asks e.
          let end = replied_so arguments source source' sink sink' file limit 1 (omega arith) asks e says tells in
          (end.text, wrong_file held file limit (subst (λ f. IsReachedFile f file limit 1 end.text) told end.reply), end.grew);
      files = files;
      source_faults = source_faults;
      sink_faults = sink_faults;
    }
