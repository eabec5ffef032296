-- How a file that is refused comes to what a command answers.
use Rattle.std.proofs.Common.{◌≡◌, ℕ, ◌<◌, List, length, Option, Result, Ok, Err, IfErr, sym, subst}
use Rattle.std.specs.Prelude.{IsErrAnd}
use Rattle.ncl_base.specs.Files.{Files}
use Rattle.ncl_base.specs.declared.source.TheConstants.{MOST_BYTES}
use Rattle.ncl_check.specs.declared.text.Refusal.{Refusal}
use Rattle.ncl_check.specs.declared.text.Refusal.TheVariants as refusal
use Rattle.ncl_check.specs.Refusals.{TellsLine}
use Rattle.ncl_reply.specs.declared.fault.Fault.{Fault}
use Rattle.ncl_reply.specs.declared.fault.Fault.TheVariants as fault
use Rattle.ncl_reply.specs.declared.reply.Reply.{Reply}
use Rattle.ncl_reply.specs.Given.{ComesFrom, IsGiven, IsTooLong}
use Rattle.ncl_reply.specs.Replies.{Refuses, Replies, fault_of}

-- a line of one kind is of another that follows
pub Refuses-weaker : (kind other : List ℕ → Type 0) → ((line : List ℕ) → kind line → other line) → (f : Fault) → Refuses kind f → Refuses other f
Refuses-weaker kind other follows (fault.Refused line) h = follows line.items h
Refuses-weaker kind other follows fault.Read h = tt
Refuses-weaker kind other follows fault.Memory h = tt

-- a fault that is handed on answers as it refuses
pub Replies-refused : (kind : List ℕ → Type 0) (relation : ℕ → List ℕ → Type 0) → ((line : List ℕ) → kind line → relation 3 line) → (f : Fault) → Refuses kind f → (r : Result Reply Fault) → IsErrAnd r (λ e. e ≡ f) → Replies relation r
Replies-refused kind relation follows f h (Ok reply) is = absurd is
Replies-refused kind relation follows f h (Err e) is = subst (Refuses (relation 3)) (sym is) (Refuses-weaker kind (relation 3) follows f h)

-- a fault that is handed on refuses with a line of another kind that follows
IfErr-refused : {A : Type 0} (kind other : List ℕ → Type 0) → ((line : List ℕ) → kind line → other line) → (f : Fault) → Refuses kind f → (r : Result A Fault) → IsErrAnd r (λ e. e ≡ f) → IfErr r (Refuses other)
IfErr-refused kind other follows f h (Ok value) is = absurd is
IfErr-refused kind other follows f h (Err e) is = subst (Refuses other) (sym is) (Refuses-weaker kind other follows f h)

-- and so does that of a file that has more bytes than are read
pub IfErr-long : {A : Type 0} (told : Option Files) (file long : List ℕ) (refused : List ℕ → List ℕ → Type 0) → ((bytes : List ℕ) → MOST_BYTES < length bytes → refused bytes long) → (f : Fault) → Refuses (λ line. (line ≡ long) × IsTooLong told file) f → (r : Result A Fault) → IsErrAnd r (λ e. e ≡ f) → IfErr r (Refuses (ComesFrom told file refused))
IfErr-long told file long refused follows f h r is =
    IfErr-refused (λ line. (line ≡ long) × IsTooLong told file) (ComesFrom told file refused)
    (λ line is. record { bytes = is.1.bytes; given = is.1.given; is = subst (refused is.1.bytes) (sym is.0) (follows is.1.bytes is.1.many) }) f h r is

-- the answer to a file that has more bytes than are read
pub Replies-long : (told : Option Files) (file long : List ℕ) (relation : ℕ → List ℕ → Type 0) → ((bytes : List ℕ) → IsGiven told file bytes → MOST_BYTES < length bytes → relation 3 long) → (f : Fault) → Refuses (λ line. (line ≡ long) × IsTooLong told file) f → (r : Result Reply Fault) → IsErrAnd r (λ e. e ≡ f) → Replies relation r
Replies-long told file long relation follows f h r is =
    Replies-refused (λ line. (line ≡ long) × IsTooLong told file) relation (λ line refused. subst (relation 3) (sym refused.0) (follows refused.1.bytes refused.1.given refused.1.many)) f h r is

-- the answer to bytes that are refused with a line of some kind
pub Replies-told : (kind : List ℕ → Type 0) (relation : ℕ → List ℕ → Type 0) → ((line : List ℕ) → kind line → relation 3 line) → (refusal : Refusal) → TellsLine kind refusal → (r : Result Reply Fault) → IsErrAnd r (λ e. e ≡ fault_of refusal) → Replies relation r
Replies-told kind relation follows (refusal.Told line) tells r is = Replies-refused kind relation follows (fault.Refused line) tells r is
Replies-told kind relation follows refusal.Memory tells r is = Replies-refused kind relation follows fault.Memory tt r is
