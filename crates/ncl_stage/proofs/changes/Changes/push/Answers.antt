use Rattle.ncl_stage.proofs.Terms.{Bool, List, ap, drop, false, get_or, length, subst, sym, take, true, ℕ, ◌++◌, ◌∙◌, ◌≡◌, take-written}
use Rattle.ncl_stage.proofs.changes.Changes.push.Goals as goal

many : (len : ℕ) (new slice old : List Bool) → len ≡ length old → slice ≡ old → length new ≡ length slice → length (take len (new ++ drop (length new) old)) ≡ length old
many len new slice old all same size = ap length (take-written len new old all (size ∙ ap length same)) ∙ size ∙ ap length same

kept : (len : ℕ) (new slice old : List Bool) → len ≡ length old → slice ≡ old → length new ≡ length slice → ((place : ℕ) → get_or new place true ≡ false → get_or slice place true ≡ false) → (place : ℕ) → get_or (take len (new ++ drop (length new) old)) place true ≡ false → get_or old place true ≡ false
kept len new slice old all same size each place e =
    subst (λ l. get_or l place true ≡ false) same (each place (subst (λ l. get_or l place true ≡ false) (take-written len new old all (size ∙ ap length same)) e))

marked : (len : ℕ) (new slice old : List Bool) → len ≡ length old → slice ≡ old → length new ≡ length slice → {P : Type 0} {Q : ℕ → Type 0} → (P → (reader : ℕ) → Q reader → get_or new reader true ≡ true) → P → (reader : ℕ) → Q reader → get_or (take len (new ++ drop (length new) old)) reader true ≡ true
marked len new slice old all same size each differs reader has =
    subst (λ l. get_or l reader true ≡ true) (sym (take-written len new old all (size ∙ ap length same))) (each differs reader has)

pub returns-in_err-push-clause-many : goal.returns-in_err-push-clause-many
returns-in_err-push-clause-many c = many c.args.self.now.waiting.len c.wait_unless.new.marks c.deref_mut.result.now c.args.self.now.waiting.items c.args.self.now.waiting.ok.0 c.deref_mut.ensures.value c.wait_unless.ensures.many

pub returns-in_err-push-clause-kept : goal.returns-in_err-push-clause-kept
returns-in_err-push-clause-kept c = kept c.args.self.now.waiting.len c.wait_unless.new.marks c.deref_mut.result.now c.args.self.now.waiting.items c.args.self.now.waiting.ok.0 c.deref_mut.ensures.value c.wait_unless.ensures.many c.wait_unless.ensures.kept

pub returns-in_err-push-clause-readers : goal.returns-in_err-push-clause-readers
returns-in_err-push-clause-readers c = marked c.args.self.now.waiting.len c.wait_unless.new.marks c.deref_mut.result.now c.args.self.now.waiting.items c.args.self.now.waiting.ok.0 c.deref_mut.ensures.value c.wait_unless.ensures.many c.wait_unless.ensures.readers

pub returns-in_err-push-2-clause-many : goal.returns-in_err-push-2-clause-many
returns-in_err-push-2-clause-many c = many c.args.self.now.waiting.len c.wait_unless.new.marks c.deref_mut.result.now c.args.self.now.waiting.items c.args.self.now.waiting.ok.0 c.deref_mut.ensures.value c.wait_unless.ensures.many

pub returns-in_err-push-2-clause-kept : goal.returns-in_err-push-2-clause-kept
returns-in_err-push-2-clause-kept c = kept c.args.self.now.waiting.len c.wait_unless.new.marks c.deref_mut.result.now c.args.self.now.waiting.items c.args.self.now.waiting.ok.0 c.deref_mut.ensures.value c.wait_unless.ensures.many c.wait_unless.ensures.kept

pub returns-in_err-push-2-clause-readers : goal.returns-in_err-push-2-clause-readers
returns-in_err-push-2-clause-readers c = marked c.args.self.now.waiting.len c.wait_unless.new.marks c.deref_mut.result.now c.args.self.now.waiting.items c.args.self.now.waiting.ok.0 c.deref_mut.ensures.value c.wait_unless.ensures.many c.wait_unless.ensures.readers

pub returns-clause-many : goal.returns-clause-many
returns-clause-many c = many c.args.self.now.waiting.len c.wait_unless.new.marks c.deref_mut.result.now c.args.self.now.waiting.items c.args.self.now.waiting.ok.0 c.deref_mut.ensures.value c.wait_unless.ensures.many

pub returns-clause-kept : goal.returns-clause-kept
returns-clause-kept c = kept c.args.self.now.waiting.len c.wait_unless.new.marks c.deref_mut.result.now c.args.self.now.waiting.items c.args.self.now.waiting.ok.0 c.deref_mut.ensures.value c.wait_unless.ensures.many c.wait_unless.ensures.kept

pub returns-clause-readers : goal.returns-clause-readers
returns-clause-readers c = marked c.args.self.now.waiting.len c.wait_unless.new.marks c.deref_mut.result.now c.args.self.now.waiting.items c.args.self.now.waiting.ok.0 c.deref_mut.ensures.value c.wait_unless.ensures.many c.wait_unless.ensures.readers
