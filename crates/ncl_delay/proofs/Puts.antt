-- Delays after one more line.
use Rattle.ncl_delay.proofs.Terms.{AllByRecursion, AllDiffer, Bool, Cell, Default, DelaysData, Edges, IsDistinct-head, IsDistinct-tail, List, None, NumberedText, Option, Sink, Some, Source, Statement, Subject, [], ap, arith, cond, equal_names, false, is_known, length, list_any, map, name_number, not, option_or, put_edges, refl, said_in, said_of, same_name, same_subject, set, splat_is_map, stated, stated_delays, subst, suc, sym, true, unit_edges, unstated, unwrap_or, ℕ, ◌++◌, ◌+◌, ◌||◌, ◌∙◌, ◌∷◌, ◌≡◌}
use Rattle.ncl_delay.proofs.FirstOf.{option_or-none, option_or_assoc}

-- what is stated of a subject with one more line: what that line says of it, or what was stated
stated-push : (subject : Subject) (lines : List NumberedText) (line : NumberedText) → stated subject (lines ++ line ∷ []) ≡ option_or (said_of subject (said_in line)) (stated subject lines)
stated-push subject [] line = sym (option_or-none (said_of subject (said_in line)))
stated-push subject (first ∷ lines) line =
    ap (λ o. option_or o (said_of subject (said_in first))) (stated-push subject lines line)
    ∙ option_or_assoc (said_of subject (said_in line)) (stated subject lines) (said_of subject (said_in first))

-- what a name has once a name got these delays
abbrev renewed : List ℕ → Edges → (List ℕ → Option Edges) → List ℕ → Option Edges
renewed name edges before other = option_or (cond (same_name name other) (Some edges) None) (before other)

others_stay : (names : List (List ℕ)) (name : List ℕ) (edges : Edges) (before : List ℕ → Option Edges) → AllByRecursion (λ other. same_name name other ≡ false) names → map (renewed name edges before) names ≡ map before names
others_stay [] name edges before apart = refl
others_stay (other ∷ names) name edges before apart =
    (λ i. option_or (cond (apart.0 i) (Some edges) None) (before other) ∷ others_stay names name edges before apart.1 i)

-- among names that differ, one place is renewed
renewed-set : (names : List (List ℕ)) (name : List ℕ) (edges : Edges) (before : List ℕ → Option Edges) → AllDiffer names → list_any (same_name name) names ≡ true → map (renewed name edges before) names ≡ set (map before names) (name_number names name) (Some edges)
renewed-set [] name edges before differ known = cc
renewed-set (other ∷ names) name edges before differ known = by (same_name name other) refl (renewed-set names name edges before (IsDistinct-tail same_name other names differ))
  where
    by : (b : Bool) → same_name name other ≡ b → (list_any (same_name name) names ≡ true → map (renewed name edges before) names ≡ set (map before names) (name_number names name) (Some edges)) → map (renewed name edges before) (other ∷ names) ≡ set (map before (other ∷ names)) (name_number (other ∷ names) name) (Some edges)
    by true same rest =
        let apart = subst (λ it. AllByRecursion (λ y. same_name it y ≡ false) names) (sym (equal_names name other same)) (IsDistinct-head same_name other names differ) in
        let place : name_number (other ∷ names) name ≡ 0 = ap (λ c. cond (not c) (1 + name_number names name) 0) same in
        (λ i. option_or (cond (same i) (Some edges) None) (before other) ∷ others_stay names name edges before apart i)
        ∙ sym (ap (λ n. set (map before (other ∷ names)) n (Some edges)) place)
    by false same rest =
        let later : list_any (same_name name) names ≡ true = sym (ap (λ c. c || list_any (same_name name) names) same) ∙ known in
        let one : 1 + name_number names name ≡ suc (name_number names name) = omega arith in
        let place : name_number (other ∷ names) name ≡ suc (name_number names name) = ap (λ c. cond (not c) (1 + name_number names name) 0) same ∙ one in
        (λ i. option_or (cond (same i) (Some edges) None) (before other) ∷ rest later i)
        ∙ sym (ap (λ n. set (map before (other ∷ names)) n (Some edges)) place)

-- what is stated of a subject once another subject got these delays
abbrev after : Edges → Subject → List NumberedText → Subject → Option Edges
after edges subject lines of = option_or (cond (same_subject subject of) (Some edges) None) (stated of lines)

abbrev all_after : List (List ℕ) → Edges → Subject → List NumberedText → DelaysData
all_after names edges subject lines = record {
  default = unwrap_or (after edges subject lines Default) unit_edges;
  cells = map (λ name. after edges subject lines (Cell name)) names;
  source = unwrap_or (after edges subject lines Source) unit_edges;
  sink = unwrap_or (after edges subject lines Sink) unit_edges;
}

put_edges-after : (names : List (List ℕ)) (lines : List NumberedText) (edges : Edges) (subject : Subject) → AllDiffer names → is_known names subject ≡ true → put_edges names (stated_delays names lines) edges subject ≡ all_after names edges subject lines
put_edges-after names lines edges Default differ known = refl
put_edges-after names lines edges Source differ known = refl
put_edges-after names lines edges Sink differ known = refl
put_edges-after names lines edges (Cell name) differ known =
    (λ i. record (stated_delays names lines) { cells = sym (renewed-set names name edges (λ other. stated (Cell other) lines) differ known) i })

-- what lines state, with one more line that states this
pub put_edges-stated : (names : List (List ℕ)) (lines : List NumberedText) (line : NumberedText) (s : Statement) → AllDiffer names → said_in line ≡ Some s → is_known names s.subject ≡ true → put_edges names (stated_delays names lines) s.edges s.subject ≡ stated_delays names (lines ++ line ∷ [])
put_edges-stated names lines line s differ says known =
    let at : (of : Subject) → stated of (lines ++ line ∷ []) ≡ after s.edges s.subject lines of =
    λ of. stated-push of lines line ∙ ap (λ o. option_or (said_of of o) (stated of lines)) says in
    put_edges-after names lines s.edges s.subject differ known
    ∙ (λ i. record { default = unwrap_or (sym (at Default) i) unit_edges; cells = map (λ name. sym (at (Cell name)) i) names; source = unwrap_or (sym (at Source) i) unit_edges; sink = unwrap_or (sym (at Sink) i) unit_edges })

-- where no line is read, nothing is stated
pub unstated-stated : (names : List (List ℕ)) → unstated (length names) ≡ stated_delays names []
unstated-stated names = λ i. record (unstated (length names)) { cells = splat_is_map names (length names) None refl i }
