-- A pipeline of sound stages runs through at whatever delays.
use Rattle.ncl_top.proofs.Terms.{Answer, AnswersExactly, AreWordsOf, Arguments, Bool, ComesFrom, DeliversAll, IsRunReply, IsTrue, List, PipelineData, Quiet, Ran, SimulatesWhatWorks, SinkState, Some, SourceState, TraceData, ap, arguments_determine_status, arguments_determine_text, arith, bytes_of, command_of, end_status, inl, inr, length, nat_tests, reading, refl, replied, run_status, run_text, sim, some_run, sound-delivers, sound-ends_quiet, subst, sym, true, words_due, ℕ, ◌==◌, ◌∙◌, ◌≡◌}
use Rattle.ncl_top.proofs.Ends.{answers_exactly}
use Rattle.ncl_sim_match.proofs.WordsRead.{words_fit}

-- a run that ends quiet with every word delivered that is due has status 0
whole_status : (p : PipelineData) (t : TraceData) (offered : List (List Bool)) → t.end ≡ Quiet → length t.delivered ≡ words_due p offered → run_status p t offered ≡ 0
whole_status p t offered quiet all = ap (λ e. end_status e (length t.delivered == words_due p offered)) quiet ∙ ap (end_status Quiet) (same (length t.delivered) (words_due p offered) all)
  where
    same : (m n : ℕ) → m ≡ n → (m == n) ≡ true
    same m n e = grind (arith, nat_tests)

module _ (arguments : Arguments) (source : SourceState) (sink sink' : SinkState) (status : ℕ) (exact : AnswersExactly arguments source sink sink' status) where
  runs_through : SimulatesWhatWorks arguments source sink sink' status
  runs_through files netlist delays offers vcd told asked p text sound d stated offered said =
      let (t, run) = some_run p d offered in
      let wide : AreWordsOf p offered = (words_fit (length p.inputs) (bytes_of files offers) offered said).1 in
      let quiet : t.end ≡ Quiet = sound-ends_quiet p.netlist p d offered t text.shape sound wide run in
      let delivers : DeliversAll p offered t = sound-delivers p.netlist p d offered t text.shape sound wide run in
      let ends : run_status p t offered ≡ 0 = whole_status p t offered quiet delivers.as_many in
      let lines = run_text vcd p t offered in
      let reply : IsRunReply p d offered vcd 0 lines = record { trace = t; run = run; ends = sym ends; told = refl } in
      let answer : Answer arguments (Some files) 0 lines =
      replied (sim netlist delays offers vcd) asked 0 lines
      (reading p (held netlist text) 0 lines (reading d (held delays stated) 0 lines (reading offered (held offers said) 0 lines reply))) in
      elim (exact files 0 lines told answer (status_determined asked)) [
        | inl (is, written) ↦ inl (is, record { trace = t; run = run; quiet = quiet; delivers = delivers; written = written (determined asked) })
        | inr kept ↦ inr kept
      ]
    where
      -- what the bytes of a file say comes from the file
      held : {A : Type 0} {relation : List ℕ → A → Type 0} {what : A} (name : List ℕ) → relation (bytes_of files name) what → ComesFrom (Some files) name relation what
      held name is = record { bytes = bytes_of files name; given = refl; is = is }

      status_determined : command_of arguments ≡ Some (sim netlist delays offers vcd) → IsTrue (arguments_determine_status (command_of arguments))
      status_determined is = subst (λ c. IsTrue (arguments_determine_status c)) (sym is) refl

      determined : command_of arguments ≡ Some (sim netlist delays offers vcd) → IsTrue (arguments_determine_text (command_of arguments))
      determined is = subst (λ c. IsTrue (arguments_determine_text c)) (sym is) refl

-- whatever call ended, ended so
pub simulates_what_works : (arguments : Arguments) (source source' : SourceState) (sink sink' : SinkState) (status : ℕ) → Ran arguments source source' sink sink' status → SimulatesWhatWorks arguments source sink sink' status
simulates_what_works arguments source source' sink sink' status how = runs_through arguments source sink sink' status (answers_exactly arguments source source' sink sink' status how)
