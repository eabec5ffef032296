-- What the parts of a call give, as the whole call's relations see it.
use Rattle.std.specs.Prelude.{ℕ, List, Option, Result, Ok, Err}
use Rattle.ncl_base.specs.Files.{Files}
use Rattle.ncl_reply.specs.Given.{ComesFrom}
use Rattle.ncl_check.specs.declared.text.Refusal.{Refusal}
use Rattle.ncl_check.specs.declared.text.Refusal.TheVariants as refusal
use Rattle.ncl_reply.specs.declared.fault.Fault.{Fault}
use Rattle.ncl_reply.specs.declared.fault.Fault.TheVariants as fault
use Rattle.ncl_reply.specs.declared.reply.Reply.{Reply}
use Rattle.ncl_reply.specs.declared.reply.Reply.TheVariants.{Made, Fixed}

-- the status and the text of a reply stand in a relation
abbrev pub Gives : (ℕ → List ℕ → Type 0) → Reply → Type 0
Gives relation (Made status text) = relation status text.items
Gives relation (Fixed status text) = relation status text.now

-- the fault that a refusal of bytes is
abbrev pub fault_of : Refusal → Fault
fault_of (refusal.Told line) = fault.Refused line
fault_of refusal.Memory = fault.Memory

-- where a file is refused, the line that tells why is of this kind; a source may fail and memory be refused at any time
abbrev pub Refuses : (List ℕ → Type 0) → Fault → Type 0
Refuses kind (fault.Refused line) = kind line.items
Refuses kind fault.Read = Unit {0}
Refuses kind fault.Memory = Unit {0}

-- a reply's status and text stand in a relation, and so do status 3 and the line of a file that is refused
abbrev pub Replies : (ℕ → List ℕ → Type 0) → Result Reply Fault → Type 0
Replies relation (Ok reply) = Gives relation reply
Replies relation (Err fault) = Refuses (relation 3) fault

-- what is replied to a file that may say something: status 3 and the line that tells why it is refused, or the reply to what it says.
-- Each load of a file gives bytes of its own
pub data IsReadReply {A : Type 0} (told : Option Files) (name : List ℕ) (refuses : List ℕ → List ℕ → Type 0) (says : List ℕ → A → Type 0) (replies : A → ℕ → List ℕ → Type 0) : ℕ → List ℕ → Type 0 where
  no_reading : (text : List ℕ) → ComesFrom told name refuses text → IsReadReply told name refuses says replies 3 text
  reading : (what : A) → ComesFrom told name says what → (status : ℕ) (text : List ℕ) → replies what status text → IsReadReply told name refuses says replies status text
