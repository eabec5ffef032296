-- There is at most one reply to the bytes of a file.
use Rattle.ncl_check.proofs.Terms.{Bool, Build, BuildFault, IsCheckReply, IsFaultOf, IsFaultOf-excludes, IsFaultOf-unique, IsNetlistText, IsPipelineText, IsRefusedText, IsSamePipeline, IsShapeless, IsVerdictText, List, NetlistData, Outcome, Parts, PipelineData, Reads, Shape, ap, arith, false, fault_once, first_broken_is_one, inl, inr, judged, length, net_line, netlist_of, never_both, outcome_of, parts_once, refl, refused, same_judgement, shape_is_one, shape_is_unbroken, shape_line, shapeless, subst, sym, too_long, unbuilt, unread, verdict_line, verdict_on, verdict_text, ℕ, ◌∙◌, ◌≡◌}
use Rattle.ncl_netlist.specs.declared.build_fault.BuildFault.TheVariants as build
use Rattle.ncl_check.proofs.Stages.{are_stages, as_many_stages}

-- two faults of the same parts, neither want of memory, are one
one_fault : (parts : Parts) (f g : BuildFault) → (f ≡ build.Memory → ⊥) → (g ≡ build.Memory → ⊥) → IsFaultOf parts f → IsFaultOf parts g → f ≡ g
one_fault parts f g own other is also =
    elim (IsFaultOf-unique parts f g is also) [
      | inl same ↦ same
      | inr memory ↦ elim memory [ inl e ↦ absurd (own e) | inr e ↦ absurd (other e) ]
    ]

-- bytes are the text of at most one netlist
pub one_netlist : (bytes : List ℕ) (n m : NetlistData) → IsNetlistText bytes n → IsNetlistText bytes m → n ≡ m
one_netlist bytes n m text also = text.netlist ∙ ap netlist_of (parts_once bytes text.parts also.parts text.reads also.reads) ∙ sym also.netlist

-- parts that the bytes say are no netlist, so the bytes are the text of none
unbuilt_is_none : (bytes : List ℕ) (parts : Parts) (f : BuildFault) (n : NetlistData) → Reads bytes parts → (f ≡ build.Memory → ⊥) → IsFaultOf parts f → IsNetlistText bytes n → ⊥
unbuilt_is_none bytes parts f n reads own is text =
    let same : parts ≡ text.parts = parts_once bytes parts text.parts reads text.reads in
    own (IsFaultOf-excludes text.parts f (subst (λ ps. IsFaultOf ps f) same is) text.builds)

shapeless_once : (n m : NetlistData) (text line : List ℕ) → n ≡ m → IsShapeless n text → IsShapeless m line → text ≡ line
shapeless_once n m text line same one two =
    let here : IsShapeless n line = subst (λ o. IsShapeless o line) (sym same) two in
    one.told ∙ ap (shape_line n) (first_broken_is_one n one.is_netlist one.fault here.fault one.broken here.broken) ∙ sym here.told

-- at most one line tells why bytes are the text of no pipeline
pub refused_once : (bytes : List ℕ) {text line : List ℕ} → IsRefusedText bytes text → IsRefusedText bytes line → text ≡ line
refused_once bytes (too_long long) (too_long long') = refl
refused_once bytes (too_long long) (unread few f is) = absurd (omega arith)
refused_once bytes (too_long long) (unbuilt few parts reads f own is) = absurd (omega arith)
refused_once bytes (too_long long) (shapeless n of line none) = absurd (let few = of.few in omega arith)
refused_once bytes (unread few f is) (too_long long) = absurd (omega arith)
refused_once bytes (unread few f is) (unread few' g is') = ap net_line (fault_once bytes f g is is')
refused_once bytes (unread few f is) (unbuilt few' parts reads g own is') = absurd (never_both bytes parts f reads is)
refused_once bytes (unread few f is) (shapeless n of line none) = absurd (never_both bytes of.parts f of.reads is)
refused_once bytes (unbuilt few parts reads f own is) (too_long long) = absurd (omega arith)
refused_once bytes (unbuilt few parts reads f own is) (unread few' g is') = absurd (never_both bytes parts g reads is')
refused_once bytes (unbuilt few parts reads f own is) (unbuilt few' parts' reads' g own' is') =
    let same : parts ≡ parts' = parts_once bytes parts parts' reads reads' in
    ap (λ x. net_line (Build x)) (one_fault parts' f g own own' (subst (λ ps. IsFaultOf ps f) same is) is')
refused_once bytes (unbuilt few parts reads f own is) (shapeless n of line none) = absurd (unbuilt_is_none bytes parts f n reads own is of)
refused_once bytes (shapeless n of text none) (too_long long) = absurd (let few = of.few in omega arith)
refused_once bytes (shapeless n of text none) (unread few g is) = absurd (never_both bytes of.parts g of.reads is)
refused_once bytes (shapeless n of text none) (unbuilt few parts reads g own is) = absurd (unbuilt_is_none bytes parts g n reads own is of)
refused_once bytes (shapeless n of text none) (shapeless m of' line none') = shapeless_once n m text line (one_netlist bytes n m of of') none none'

-- bytes that are refused are the text of no pipeline
pub refused_is_none : (bytes : List ℕ) {text : List ℕ} (p : PipelineData) → IsRefusedText bytes text → IsPipelineText bytes p → ⊥
refused_is_none bytes p (too_long long) is = let few = is.text.few in omega arith
refused_is_none bytes p (unread few f broken) is = never_both bytes is.text.parts f is.text.reads broken
refused_is_none bytes p (unbuilt few parts reads f own fault) is = unbuilt_is_none bytes parts f p.netlist reads own fault is.text
refused_is_none bytes p (shapeless n of text none) is =
    let same : p.netlist ≡ n = one_netlist bytes p.netlist n is.text of in
    shape_is_unbroken n none.is_netlist p (subst (λ m. Shape m p) same is.shape) none.fault none.broken.breaks

-- bytes are the text of one pipeline but for the order of a stage's cells
pub one_pipeline : (bytes : List ℕ) (p q : PipelineData) → IsPipelineText bytes p → IsPipelineText bytes q → (p.netlist ≡ q.netlist) × Shape p.netlist q
one_pipeline bytes p q is also =
    let same : p.netlist ≡ q.netlist = one_netlist bytes p.netlist q.netlist is.text also.text in
    (same, subst (λ n. Shape n q) (sym same) also.shape)

pub one_verdict : (limit : ℕ) (n : NetlistData) (p q : PipelineData) → Shape n p → Shape n q → verdict_on limit p ≡ verdict_on limit q
one_verdict limit n p q shape_p shape_q =
    same_judgement p q (are_stages n p shape_p) (are_stages n q shape_q) (shape_is_one n shape_p.is_netlist p q shape_p shape_q) limit

one_verdict_text : (limit : ℕ) (p q : PipelineData) → p.netlist ≡ q.netlist → Shape p.netlist p → Shape p.netlist q → verdict_text limit p ≡ verdict_text limit q
one_verdict_text limit p q same shape_p shape_q =
    let alike : IsSamePipeline p q = shape_is_one p.netlist shape_p.is_netlist p q shape_p shape_q in
    ap (λ stages. verdict_line p.netlist stages limit (verdict_on limit p)) (as_many_stages p.netlist p q shape_p shape_q alike)
    ∙ ap (verdict_line p.netlist (length q.stages) limit) (one_verdict limit p.netlist p q shape_p shape_q)
    ∙ ap (λ n. verdict_line n (length q.stages) limit (verdict_on limit q)) same

-- the outcome of a check of the text of a pipeline
pub outcome_is : (limit : ℕ) (why : Bool) (bytes : List ℕ) (q : PipelineData) {outcome : Outcome} {text : List ℕ} → IsCheckReply limit why bytes outcome text → IsPipelineText bytes q → outcome ≡ outcome_of (verdict_on limit q)
outcome_is limit why bytes q (refused text none) is = absurd (refused_is_none bytes q none is)
outcome_is limit why bytes q (judged p also text told) is = ap outcome_of (one_verdict limit p.netlist p q also.shape (one_pipeline bytes p q also is).1)

-- there is at most one outcome, and at most one text where it isn't asked why
pub same_reply : (limit : ℕ) (why : Bool) (bytes : List ℕ) {outcome other : Outcome} {text line : List ℕ} → IsCheckReply limit why bytes outcome text → IsCheckReply limit why bytes other line → (outcome ≡ other) × (why ≡ false → text ≡ line)
same_reply limit why bytes (refused text none) (refused line none') = (refl, λ plain. refused_once bytes none none')
same_reply limit why bytes (refused text none) (judged q is line told) = absurd (refused_is_none bytes q none is)
same_reply limit why bytes (judged p is text told) (refused line none) = absurd (refused_is_none bytes p none is)
same_reply limit why bytes (judged p is text told) (judged q also line told') =
    let (same, shape) = one_pipeline bytes p q is also in (
      ap outcome_of (one_verdict limit p.netlist p q is.shape shape),
      λ plain.
          subst (λ b. IsVerdictText b limit p text) plain told
          ∙ one_verdict_text limit p q same is.shape shape
          ∙ sym (subst (λ b. IsVerdictText b limit q line) plain told'),
    )
