-- Delays as the lines of a text are gone through.
use Rattle.ncl_delay.proofs.Terms.{AllDiffer, DelayFault, DelaysData, List, None, NumberedText, Some, Statement, UnknownCell, [], ap, fault_in, if◌then◌else◌, is_known, length, line_fault, option_or, put_edges, refl, said_in, stated_delays, statement_fault, sym, true, unstated, ℕ, ◌++◌, ◌∙◌, ◌∷◌, ◌≡◌}
use Rattle.ncl_delay.proofs.FirstOf.{option_or-none, option_or_assoc}
use Rattle.ncl_delay.proofs.Puts.{put_edges-stated, unstated-stated}

fault_in-append : (names : List (List ℕ)) (lines more : List NumberedText) → fault_in names (lines ++ more) ≡ option_or (fault_in names lines) (fault_in names more)
fault_in-append names [] more = refl
fault_in-append names (line ∷ lines) more =
    ap (option_or (line_fault names line)) (fault_in-append names lines more) ∙ sym (option_or_assoc (line_fault names line) (fault_in names lines) (fault_in names more))

-- no line is broken, and the delays are those that the lines state
pub record AreStated (names : List (List ℕ)) (lines : List NumberedText) (d : DelaysData) : Type 0 where
  pub unbroken : fault_in names lines ≡ None
  pub delays : d ≡ stated_delays names lines

pub stated-none : (names : List (List ℕ)) (d : DelaysData) → d ≡ unstated (length names) → AreStated names [] d
stated-none names d none = record { unbroken = refl; delays = none ∙ unstated-stated names }

pub stated-more : (names : List (List ℕ)) (lines : List NumberedText) (d new : DelaysData) (line : NumberedText) (s : Statement) → AllDiffer names → AreStated names lines d → said_in line ≡ Some s → is_known names s.subject ≡ true → new ≡ put_edges names d s.edges s.subject → AreStated names (lines ++ line ∷ []) new
stated-more names lines d new line s differ so_far says known is = record {
  unbroken =
      fault_in-append names lines (line ∷ []) ∙ ap (λ o. option_or o (fault_in names (line ∷ []))) so_far.unbroken
      ∙ option_or-none (line_fault names line) ∙ ap (statement_fault names line.number) says
      ∙ ap (λ b. if b then None else Some (UnknownCell line.number)) known;
  delays = is ∙ ap (λ old. put_edges names old s.edges s.subject) so_far.delays ∙ put_edges-stated names lines line s differ says known;
}

-- the first broken line comes after lines that are not broken
pub stated-broken : (names : List (List ℕ)) (lines : List NumberedText) (d : DelaysData) (line : NumberedText) (later : List NumberedText) (fault : DelayFault) → AreStated names lines d → line_fault names line ≡ Some fault → fault_in names ((lines ++ line ∷ []) ++ later) ≡ Some fault
stated-broken names lines d line later fault so_far broken =
    fault_in-append names (lines ++ line ∷ []) later
    ∙ ap (λ o. option_or o (fault_in names later)) (fault_in-append names lines (line ∷ []) ∙ (λ i. option_or (so_far.unbroken i) (option_or (broken i) None)))
