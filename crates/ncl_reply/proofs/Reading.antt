-- What the reply to a file that may say something tells.
use Rattle.std.proofs.Common.{◌≡◌, ◌∙◌, ℕ, List, Option, Result, Some, refl, subst, sym}
use Rattle.std.specs.Prelude.{◌≢◌, IsErrAnd}
use Rattle.ncl_base.specs.Files.{Files}
use Rattle.ncl_reply.specs.declared.fault.Fault.{Fault}
use Rattle.ncl_reply.specs.declared.reply.Reply.{Reply}
use Rattle.ncl_reply.specs.Given.{ComesFrom}
use Rattle.ncl_reply.specs.Replies.{IsReadReply, Refuses, Replies, no_reading, reading}
use Rattle.ncl_reply.proofs.Refusals.{Replies-refused}

module _ {A : Type 0} (refuses : List ℕ → List ℕ → Type 0) (says : List ℕ → A → Type 0) (replies : A → ℕ → List ℕ → Type 0) where
  -- a file that is refused is replied so
  pub IsReadReply-refused : (told : Option Files) (name : List ℕ) (f : Fault) → Refuses (ComesFrom told name refuses) f → (r : Result Reply Fault) → IsErrAnd r (λ e. e ≡ f) → Replies (IsReadReply told name refuses says replies) r
  IsReadReply-refused told name f h r is = Replies-refused (ComesFrom told name refuses) (IsReadReply told name refuses says replies) no_reading f h r is

  -- whatever holds of status 3 and of all that is replied to what a file says holds of the reply to the file
  pub IsReadReply-each : (P : ℕ → Type 0) → P 3 → ((what : A) (status : ℕ) (text : List ℕ) → replies what status text → P status) → (told : Option Files) (name : List ℕ) {status : ℕ} {text : List ℕ} → IsReadReply told name refuses says replies status text → P status
  IsReadReply-each P third each told name (no_reading text from) = third
  IsReadReply-each P third each told name (reading what from status text reply) = each what status text reply

  -- another status than 3 comes of what the file says
  pub IsReadReply-said : (told : Option Files) (name : List ℕ) {status : ℕ} {text : List ℕ} → IsReadReply told name refuses says replies status text → status ≢ 3 → (what : A) × ComesFrom told name says what × replies what status text
  IsReadReply-said told name (no_reading text from) other = absurd (other refl)
  IsReadReply-said told name (reading what from status text reply) other = (what, from, reply)

  -- two replies are alike where two refusals are, no bytes are refused that say something, and two replies to what the same bytes say are
  pub IsReadReply-alike : (Alike : ℕ → ℕ → List ℕ → List ℕ → Type 0) (others : A → ℕ → List ℕ → Type 0)
      → ((bytes text line : List ℕ) → refuses bytes text → refuses bytes line → Alike 3 3 text line)
      → ((bytes text : List ℕ) (what : A) → refuses bytes text → says bytes what → ⊥)
      → ((bytes : List ℕ) (a b : A) → says bytes a → says bytes b → (status other : ℕ) (text line : List ℕ) → replies a status text → others b other line → Alike status other text line)
      → (files : Files) (name : List ℕ) {status other : ℕ} {text line : List ℕ} → IsReadReply (Some files) name refuses says replies status text → IsReadReply (Some files) name refuses says others other line → Alike status other text line
  IsReadReply-alike Alike others once none alike files name (no_reading text from) (no_reading line from') =
      once from'.bytes text line (subst (λ bytes. refuses bytes text) (from.given ∙ sym from'.given) from.is) from'.is
  IsReadReply-alike Alike others once none alike files name (no_reading text from) (reading what from' status line reply) =
      absurd (none from'.bytes text what (subst (λ bytes. refuses bytes text) (from.given ∙ sym from'.given) from.is) from'.is)
  IsReadReply-alike Alike others once none alike files name (reading what from status text reply) (no_reading line from') =
      absurd (none from'.bytes line what from'.is (subst (λ bytes. says bytes what) (from.given ∙ sym from'.given) from.is))
  IsReadReply-alike Alike others once none alike files name (reading what from status text reply) (reading what' from' status' line reply') =
      alike from'.bytes what what' (subst (λ bytes. says bytes what) (from.given ∙ sym from'.given) from.is) from'.is status status' text line reply reply'
