-- There is at most one reply to the files of a simulation.
use Rattle.ncl_sim_match.proofs.Terms.{AreDelaysText, AreRefusedDelays, AreRefusedWords, AreWordsText, Bool, DelaysData, Files, IsDelaysReply, IsPipelineText, IsRefusedText, IsReadReply, IsReadReply-alike, IsRunReply, IsSimReply, IsTimedRun, IsWordsReply, List, NetlistData, None, PipelineData, Shape, Some, TraceData, [], ap, arith, broken_delays, broken_words, character_of, data_banks, delay_line, end_status, false, length, long_delays, long_words, map, one_pipeline, one_run, refl, refused_is_none, refused_once, run_status, run_text, same_dump, same_runs, shape_is_one, subst, sym, text_of, trace_lines, true, words_due, words_line, ℕ, ◌+◌, ◌==◌, ◌∙◌, ◌∷◌, ◌≡◌}

-- where the items that a function tells alike are one, so are the lists that it tells alike
one_list : {X Y : Type 0} (f : X → Y) → ((x y : X) → f x ≡ f y → x ≡ y) → (xs ys : List X) → map f xs ≡ map f ys → xs ≡ ys
one_list f one [] [] e = refl
one_list f one [] (y ∷ ys) e = absurd cc
one_list f one (x ∷ xs) [] e = absurd cc
one_list f one (x ∷ xs) (y ∷ ys) e =
    let first : f x ≡ f y = cc in
    let rest : map f xs ≡ map f ys = cc in
    let head : x ≡ y = one x y first in
    let tail : xs ≡ ys = one_list f one xs ys rest in
    cc

one_bit : (a b : Bool) → character_of a ≡ character_of b → a ≡ b
one_bit true true e = refl
one_bit true false e = absurd (omega arith)
one_bit false true e = absurd (omega arith)
one_bit false false e = refl

-- a text says at most one list of words
one_words : (width : ℕ) (bytes : List ℕ) (v w : List (List Bool)) → AreWordsText width bytes v → AreWordsText width bytes w → v ≡ w
one_words width bytes v w is also = one_list text_of (one_list character_of one_bit) v w (is.said ∙ sym also.said)

-- a file that is refused says nothing, and one line tells why
refused_delays_once : (n : NetlistData) (bytes : List ℕ) {text line : List ℕ} → AreRefusedDelays n bytes text → AreRefusedDelays n bytes line → text ≡ line
refused_delays_once n bytes (long_delays many) (long_delays many') = refl
refused_delays_once n bytes (long_delays many) (broken_delays few f is) = absurd (omega arith)
refused_delays_once n bytes (broken_delays few f is) (long_delays many) = absurd (omega arith)
refused_delays_once n bytes (broken_delays few f is) (broken_delays few' g is') =
    let both : Some f ≡ Some g = sym is ∙ is' in
    let one : f ≡ g = cc in
    ap delay_line one

refused_delays_none : (n : NetlistData) (bytes : List ℕ) {text : List ℕ} (d : DelaysData) → AreRefusedDelays n bytes text → AreDelaysText n bytes d → ⊥
refused_delays_none n bytes d (long_delays many) is = let few = is.few in omega arith
refused_delays_none n bytes d (broken_delays few f broken) is = let differ : None ≡ Some f = sym is.unbroken ∙ broken in cc

refused_words_once : (width : ℕ) (bytes : List ℕ) {text line : List ℕ} → AreRefusedWords width bytes text → AreRefusedWords width bytes line → text ≡ line
refused_words_once width bytes (long_words many) (long_words many') = refl
refused_words_once width bytes (long_words many) (broken_words few f is) = absurd (omega arith)
refused_words_once width bytes (broken_words few f is) (long_words many) = absurd (omega arith)
refused_words_once width bytes (broken_words few f is) (broken_words few' g is') =
    let both : Some f ≡ Some g = sym is ∙ is' in
    let one : f ≡ g = cc in
    ap words_line one

refused_words_none : (width : ℕ) (bytes : List ℕ) {text : List ℕ} (words : List (List Bool)) → AreRefusedWords width bytes text → AreWordsText width bytes words → ⊥
refused_words_none width bytes words (long_words many) is = let few = is.few in omega arith
refused_words_none width bytes words (broken_words few f broken) is = let differ : None ≡ Some f = sym is.unbroken ∙ broken in cc

-- two replies say the same
abbrev pub SameReply : ℕ → ℕ → List ℕ → List ℕ → Type 0
SameReply status other text line = (status ≡ other) × (text ≡ line)

-- two pipelines of one netlist run alike
module _ (p q : PipelineData) (same : p.netlist ≡ q.netlist) (shape_p : Shape p.netlist p) (shape_q : Shape p.netlist q) where
  -- as many words are due
  same_due : (offered : List (List Bool)) → words_due p offered ≡ words_due q offered
  same_due offered = ap (λ banks. data_banks banks + length offered) (shape_is_one p.netlist shape_p.is_netlist p q shape_p shape_q).banks

  -- they are told alike
  same_lines : (t : TraceData) (offered : ℕ) → trace_lines p t offered ≡ trace_lines q t offered
  same_lines t offered = cc

  same_run_text : (vcd : Bool) (t : TraceData) (offered : List (List Bool)) → run_text vcd p t offered ≡ run_text vcd q t offered
  same_run_text true t offered = same_dump p.netlist p q offered t.steps shape_p shape_q
  same_run_text false t offered = ap (trace_lines p t) (same_due offered) ∙ same_lines t (words_due q offered)

  one_run_reply : (d : DelaysData) (v w : List (List Bool)) (vcd : Bool) (status other : ℕ) (text line : List ℕ) → v ≡ w → IsRunReply p d v vcd status text → IsRunReply q d w vcd other line → SameReply status other text line
  one_run_reply d v w vcd status other text line alike one two =
      let run : IsTimedRun p d v two.trace = subst (λ words. IsTimedRun p d words two.trace) (sym alike) (same_runs p.netlist q p d w two.trace shape_q shape_p two.run) in
      let trace : one.trace ≡ two.trace = one_run p d v one.trace two.trace one.run run in
      let due : words_due p v ≡ words_due q w = ap (words_due p) alike ∙ same_due w in
      let ends : run_status p one.trace v ≡ run_status q two.trace w = ap (λ t. run_status p t v) trace ∙ ap (λ count. end_status two.trace.end (length two.trace.delivered == count)) due in
      let says : run_text vcd p one.trace v ≡ run_text vcd q two.trace w = (λ i. run_text vcd p (trace i) (alike i)) ∙ same_run_text vcd two.trace w in
      (one.ends ∙ ends ∙ sym two.ends, one.told ∙ says ∙ sym two.told)

  same_width : length p.inputs ≡ length q.inputs
  same_width = ap length (shape_is_one p.netlist shape_p.is_netlist p q shape_p shape_q).inputs

  module _ (files : Files) where
    one_words_reply : (d : DelaysData) (words : List ℕ) (vcd : Bool) {status other : ℕ} {text line : List ℕ} → IsWordsReply (Some files) p d words vcd status text → IsWordsReply (Some files) q d words vcd other line → SameReply status other text line
    one_words_reply d words vcd {status} {other} {text} {line} one two =
        let width = length q.inputs in
        IsReadReply-alike (AreRefusedWords width) (AreWordsText width) (λ offered. IsRunReply p d offered vcd) SameReply (λ offered. IsRunReply q d offered vcd)
        (λ bytes text line none none'. (refl, refused_words_once width bytes none none')) (λ bytes text offered none said. refused_words_none width bytes offered none said)
        (λ bytes v w said said' status other text line reply reply'. one_run_reply d v w vcd status other text line (one_words width bytes v w said said') reply reply')
        files words (subst (λ n. IsReadReply (Some files) words (AreRefusedWords n) (AreWordsText n) (λ offered. IsRunReply p d offered vcd) status text) same_width one) two

    one_delays_reply : (delays words : List ℕ) (vcd : Bool) {status other : ℕ} {text line : List ℕ} → IsDelaysReply (Some files) p delays words vcd status text → IsDelaysReply (Some files) q delays words vcd other line → SameReply status other text line
    one_delays_reply delays words vcd {status} {other} {text} {line} one two =
        IsReadReply-alike (AreRefusedDelays q.netlist) (AreDelaysText q.netlist) (λ d. IsWordsReply (Some files) p d words vcd) SameReply (λ d. IsWordsReply (Some files) q d words vcd)
        (λ bytes text line none none'. (refl, refused_delays_once q.netlist bytes none none')) (λ bytes text d none said. refused_delays_none q.netlist bytes d none said)
        (λ bytes d d' said said' status other text line reply reply'.
        let one : d ≡ d' = said.stated ∙ sym said'.stated in
        one_words_reply d' words vcd (subst (λ x. IsWordsReply (Some files) p x words vcd status text) one reply) reply')
        files delays (subst (λ n. IsReadReply (Some files) delays (AreRefusedDelays n) (AreDelaysText n) (λ d. IsWordsReply (Some files) p d words vcd) status text) same one) two

-- the files determine the status and the text
pub one_sim_reply : (files : Files) (netlist delays words : List ℕ) (vcd : Bool) {status other : ℕ} {text line : List ℕ} → IsSimReply (Some files) netlist delays words vcd status text → IsSimReply (Some files) netlist delays words vcd other line → SameReply status other text line
one_sim_reply files netlist delays words vcd =
    IsReadReply-alike IsRefusedText IsPipelineText (λ p. IsDelaysReply (Some files) p delays words vcd) SameReply (λ p. IsDelaysReply (Some files) p delays words vcd)
    (λ bytes text line none none'. (refl, refused_once bytes none none')) (λ bytes text p none is. refused_is_none bytes p none is)
    (λ bytes p q is also status other text line reply reply'. let (same, shape) = one_pipeline bytes p q is also in one_delays_reply p q same is.shape shape files delays words vcd reply reply')
    files netlist
