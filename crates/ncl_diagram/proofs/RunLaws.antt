-- What a call of an operation leaves, from what its two calls left.
use Rattle.ncl_diagram.proofs.Terms.{AddsKeys, Answers, AreAnswers, Engine, Err, Finds, FindsFull, Full, Grown, HasMore, HasNoRoom, HasSlots, IfOk, IsAnswer, IsAnswerKept, IsCanonical, IsErrOf, IsKeyPut, IsSound, Joins, KeepsKeys, Key, Kind, Leads, Least, Leaves, List, MayAdd, MayRun, Memo, Node, None, Ok, Operation, Option, Ref, Result, Runs, Settles, Some, SpaceFault, There, [], ap, arith, branch, false, gate_from, inl, inr, is_below, length, length_push, level_of, map, places, set, size_of, slice_get, slice_get-end, slice_get-kept, subst, sym, true, ℕ, ◌++◌, ◌+◌, ◌<◌, ◌∙◌, ◌∷◌, ◌≡◌, ◌≤◌}
use Rattle.ncl_diagram.proofs.Applying.{Higher, Lower, adds_higher, adds_joined, adds_lower, answer_joined, high_fits, higher, higher_there, lacks_higher, lacks_joined, lacks_lower, low_fits, lower, memo_grown, memo_noted, memo_pushed}
use Rattle.ncl_diagram.proofs.Growth.{grown_along, grown_itself, there_grown}
use Rattle.ncl_diagram.proofs.Holding.{leaves_applied}
use Rattle.ncl_diagram.proofs.KeptLaws.{kept_grown, kept_noted}
use Rattle.ncl_diagram.proofs.MemoLaws.{short}
use Rattle.ncl_diagram.proofs.Reaching.{Begun, adds_itself, adds_keys_grown, begun, larger_begun, larger_settled, reached_higher, reached_lower, settles_along, settles_noted}
use Rattle.ncl_diagram.proofs.Step.{there_after}

-- where nothing changes but the memo
pub ran_itself : {o : Operation} {e : Engine} {key : Key} → MayRun o e key → Runs o e e key
ran_itself {e = e} may = record {
  sound = may.sound;
  grown = grown_itself e.nodes;
  adds = λ k x from to g. absurd (omega arith);
  reached = record { added = λ i q g. inl (i, g) };
}

pub found_itself : {o : Operation} {e : Engine} {key : Key} → MayRun o e key → (r : Ref) → IsAnswer o.width o.kind e.nodes (places key) r.place → Finds o e e key r
found_itself may r answer = record {
  answer = answer;
  memo = may.memo;
  keys = record { kept = λ i q g. g };
  settles = record { was = λ i q g f. (g, f) };
}

abbrev pub with_memo : Engine → Memo → Engine
with_memo e m = record { nodes = e.nodes; memo = m; answers = e.answers }

pub ran_begun : {o : Operation} {e : Engine} {key : Key} → MayRun o e key → (m : Memo) → MayAdd e.memo.keys m.keys key → Runs o e (with_memo e m) key
ran_begun {e = e} {key = key} may m adds = record {
  sound = may.sound;
  grown = grown_itself e.nodes;
  adds = λ k x from to g. absurd (omega arith);
  reached = adds_itself e.nodes e.memo.keys m.keys key adds;
}

-- an answer that the memo has
pub found_known : {o : Operation} {e : Engine} {key : Key} → MayRun o e key → (m : Memo) (at : ℕ) (known : Option Ref) (r : Ref) → IsKeyPut e.memo.keys e.memo.found.items m.keys m.found.items key (at, known) → known ≡ Some r → Finds o e (with_memo e m) key r
found_known may m at known r (inl p) some = let none : known ≡ None = p.3 in absurd cc
found_known {o = o} {e = e} {key = key} may m at known r (inr p) some = record {
  answer = may.memo.answer at key r p.2 (p.3 ∙ ap (λ (v : Option Ref). Some v) some);
  memo = same (λ ks fs. AreAnswers o.width o.kind e.nodes ks fs) may.memo;
  keys = same (λ ks fs. KeepsKeys e.memo.keys ks) (record { kept = λ i q g. g });
  settles = same (λ ks fs. Settles e.memo.keys e.memo.found.items ks fs) (record { was = λ i q g f. (g, f) });
}
  where
    same : (P : List Key → List (Option Ref) → Type 0) → P e.memo.keys e.memo.found.items → P m.keys m.found.items
    same P h = subst (λ (ks : List Key). P ks m.found.items) (sym p.0) (subst (λ (fs : List (Option Ref)). P e.memo.keys fs) (sym p.1) h)

-- a key is new to the memo, and at their least bit its operands lead to those of two smaller ones
pub record Began (o : Operation) (e : Engine) (key : Key) (m : Memo) (at : ℕ) (low high : Key) (level : ℕ) : Type 0 where
  pub may : MayRun o e key
  pub new : Begun e.memo.keys e.memo.found.items m.keys m.found.items key at
  pub least : Least o.width e.nodes level (places key)
  pub lows : places low ≡ map (branch e.nodes level false) (places key)
  pub highs : places high ≡ map (branch e.nodes level true) (places key)
  pub low_less : size_of low < size_of key
  pub high_less : size_of high < size_of key

pub began : {o : Operation} {e : Engine} {key low high : Key} {level : ℕ} → MayRun o e key → (m : Memo) (at : ℕ) (known : Option Ref) → IsKeyPut e.memo.keys e.memo.found.items m.keys m.found.items key (at, known) → known ≡ None → Least o.width e.nodes level (places key) → places low ≡ map (branch e.nodes level false) (places key) → places high ≡ map (branch e.nodes level true) (places key) → size_of low < size_of key → size_of high < size_of key → Began o e key m at low high level
began {e = e} {key = key} may m at known put none least lows highs low_less high_less = record {
  may = may;
  new = begun e.memo.keys m.keys e.memo.found.items m.found.items key (at, known) put none may.larger;
  least = least;
  lows = lows;
  highs = highs;
  low_less = low_less;
  high_less = high_less;
}

-- how many keys there are once one began
pub keys_begun : (keys more : List Key) (key : Key) → MayAdd keys more key → length keys ≤ length more
keys_begun keys more key (inl same) = let count = ap length same in omega (arith, count)
keys_begun keys more key (inr added) = let count = ap length added ∙ length_push keys key in omega (arith, count)

module _ {o : Operation} {e : Engine} {key low high : Key} {m : Memo} {at level : ℕ} (s : Began o e key m at low high level) where
  pub key_more : length m.keys ≡ length e.memo.keys + 1
  key_more = ap length s.new.keys_are ∙ length_push e.memo.keys key

  memo_begun : AreAnswers o.width o.kind e.nodes m.keys m.found.items
  memo_begun =
      subst (λ (ks : List Key). AreAnswers o.width o.kind e.nodes ks m.found.items) (sym s.new.keys_are)
      (subst (λ (fs : List (Option Ref)). AreAnswers o.width o.kind e.nodes (e.memo.keys ++ key ∷ []) fs) (sym s.new.found_are) (memo_pushed o.width o.kind e.nodes e.memo.keys e.memo.found.items key s.may.memo))

  pub may_low : MayRun o (with_memo e m) low
  may_low = record {
    width = s.may.width;
    sound = s.may.sound;
    there = there_after o.width e.nodes level false (places key) (places low) s.may.sound.canonical s.lows s.may.there;
    memo = memo_begun;
    larger = larger_begun s.new (size_of low) s.low_less s.may.larger s.may.memo.long;
  }

-- after the first call
pub record AfterLow (o : Operation) (e : Engine) (key : Key) (m : Memo) (at : ℕ) (low high : Key) (level : ℕ) (b : Engine) : Type 0 where
  pub began : Began o e key m at low high level
  pub first : Runs o (with_memo e m) b low

pub after_low : {o : Operation} {e b : Engine} {key low high : Key} {m : Memo} {at level : ℕ} → Began o e key m at low high level → Runs o (with_memo e m) b low → AfterLow o e key m at low high level b
after_low began first = record { began = began; first = first }

module _ {o : Operation} {e b : Engine} {key low high : Key} {m : Memo} {at level : ℕ} (a : AfterLow o e key m at low high level b) where
  lower_of : Lower o.width o.kind e.nodes b.nodes (places key) (places low) (places high) level
  lower_of = lower o.kind a.began.may.sound.canonical a.first.sound.canonical a.first.grown a.began.may.there a.began.least a.began.lows a.began.highs a.first.adds

  keys_low : AddsKeys b.nodes e.memo.keys b.memo.keys key
  keys_low = reached_lower lower_of (adds_itself e.nodes e.memo.keys m.keys key (inr a.began.new.keys_are)) a.first.reached

  pub ran_low : Runs o e b key
  ran_low = record { sound = a.first.sound; grown = a.first.grown; adds = adds_lower lower_of; reached = keys_low }

  pub full_low : FindsFull o b low → FindsFull o b key
  full_low f = record { full = f.full; lacks = lacks_lower lower_of f.lacks }

  pub may_high : {l : Ref} → Finds o (with_memo e m) b low l → MayRun o b high
  may_high found = record {
    width = a.began.may.width;
    sound = a.first.sound;
    there = higher_there lower_of;
    memo = found.memo;
    larger = larger_settled (size_of high) m.keys b.memo.keys m.found.items b.memo.found.items
        (larger_begun a.began.new (size_of high) a.began.high_less a.began.may.larger a.began.may.memo.long) found.settles;
  }

-- after the second
pub record AfterHigh (o : Operation) (e : Engine) (key : Key) (m : Memo) (at : ℕ) (low high : Key) (level : ℕ) (b d : Engine) (l : Ref) : Type 0 where
  pub before : AfterLow o e key m at low high level b
  pub found : Finds o (with_memo e m) b low l
  pub second : Runs o b d high

pub after_high : {o : Operation} {e b d : Engine} {key low high : Key} {m : Memo} {at level : ℕ} {l : Ref} → AfterLow o e key m at low high level b → Finds o (with_memo e m) b low l → Runs o b d high → AfterHigh o e key m at low high level b d l
after_high before found second = record { before = before; found = found; second = second }

module _ {o : Operation} {e b d : Engine} {key low high : Key} {m : Memo} {at level : ℕ} {l : Ref} (a : AfterHigh o e key m at low high level b d l) where
  higher_of : Higher o.width o.kind e.nodes b.nodes d.nodes (places key) (places low) (places high) level l.place
  higher_of = higher (lower_of a.before) a.second.sound.canonical a.second.grown a.found.answer a.second.adds

  grown_high : Grown e.nodes d.nodes
  grown_high = grown_along e.nodes b.nodes d.nodes a.before.first.grown a.second.grown

  keys_high : AddsKeys d.nodes e.memo.keys d.memo.keys key
  keys_high = reached_higher higher_of (keys_low a.before) a.second.reached

  pub ran_high : Runs o e d key
  ran_high = record { sound = a.second.sound; grown = grown_high; adds = adds_higher higher_of; reached = keys_high }

  pub full_high : FindsFull o d high → FindsFull o d key
  full_high f = record { full = f.full; lacks = lacks_higher higher_of f.lacks }

  pub low_there : l.place < length d.nodes + 2
  low_there = (low_fits higher_of).0

  pub low_later : level + 1 ≤ level_of o.width d.nodes l.place
  low_later = (low_fits higher_of).1

-- with both answers
module _ {o : Operation} {e b d : Engine} {key low high : Key} {m : Memo} {at level : ℕ} {l h : Ref} (a : AfterHigh o e key m at low high level b d l) (found : Finds o b d high h) where
  pub high_later : level + 1 ≤ level_of o.width d.nodes h.place
  high_later = (high_fits (higher_of a) found.answer).1

  pub full_joined : HasNoRoom o.width d.nodes level l.place h.place → length d.nodes ≡ o.limit → FindsFull o d key
  full_joined room full = record { full = full; lacks = lacks_joined (higher_of a) found.answer room }

  -- the key stands where it was put
  key_there : slice_get d.memo.keys at ≡ Some key
  key_there =
      let s = a.before.began in
      found.keys.kept at key (a.found.keys.kept at key (ap (λ (ks : List Key). slice_get ks at) s.new.keys_are ∙ slice_get-end e.memo.keys key at s.new.last))

  pub at_within : at < length d.memo.found.items
  at_within = let within = short d.memo.keys at key key_there in let long = found.memo.long in omega arith

  -- with the node that was found or came, and the answer noted
  module _ (new : Engine) {r : Ref} (joins : Joins o.width d.nodes new.nodes level l.place h.place) (leads : Leads o.width new.nodes level r.place l.place h.place) (keys_are : new.memo.keys ≡ d.memo.keys) where
    grown_joined : Grown e.nodes new.nodes
    grown_joined = grown_along e.nodes d.nodes new.nodes (grown_high a) joins.grown

    answer_here : IsAnswer o.width o.kind new.nodes (places key) r.place
    answer_here = answer_joined (higher_of a) found.answer joins leads

    pub ran_joined : length new.nodes ≤ o.limit → new.answers.floor ≡ d.answers.floor → HasMore d.answers new.answers o.kind key r → Runs o e new key
    ran_joined few floor slots = record {
      sound = record {
        canonical = joins.canonical;
        few = few;
        kept = kept_noted o.width new.nodes d.answers new.answers o.kind key r floor slots (there_grown e.nodes new.nodes grown_joined (places key) a.before.began.may.there) answer_here
            (kept_grown o.width d.nodes new.nodes d.answers a.second.sound.canonical joins.grown a.second.sound.kept);
      };
      grown = grown_joined;
      adds = adds_joined (higher_of a) found.answer joins;
      reached = subst (λ (ks : List Key). AddsKeys new.nodes e.memo.keys ks key) (sym keys_are)
          (adds_keys_grown o.width d.nodes new.nodes e.memo.keys d.memo.keys key a.second.sound.canonical joins.grown (there_grown e.nodes d.nodes (grown_high a) (places key) a.before.began.may.there) (keys_high a));
    }

    pub found_joined : new.memo.found.items ≡ set d.memo.found.items at (Some r) → Finds o e new key r
    found_joined found_are = record {
      answer = answer_here;
      memo = same (λ ks fs. AreAnswers o.width o.kind new.nodes ks fs)
          (memo_noted o.width o.kind new.nodes d.memo.keys d.memo.found.items at key r
          (memo_grown o.width o.kind d.nodes new.nodes d.memo.keys d.memo.found.items a.second.sound.canonical joins.grown found.memo) key_there
          (there_grown e.nodes new.nodes grown_joined (places key) a.before.began.may.there) answer_here);
      keys = same (λ ks fs. KeepsKeys e.memo.keys ks) (record { kept = λ i q g. found.keys.kept i q (a.found.keys.kept i q (kept i q g)) });
      settles = same (λ ks fs. Settles e.memo.keys e.memo.found.items ks fs) (settles_noted s.new s.may.memo.long (settles_along a.found.settles found.settles) r);
    }
      where
        s : Began o e key m at low high level
        s = a.before.began

        same : (P : List Key → List (Option Ref) → Type 0) → P d.memo.keys (set d.memo.found.items at (Some r)) → P new.memo.keys new.memo.found.items
        same P held = subst (λ (ks : List Key). P ks new.memo.found.items) (sym keys_are) (subst (λ (fs : List (Option Ref)). P d.memo.keys fs) (sym found_are) held)

        kept : (i : ℕ) (q : Key) → slice_get e.memo.keys i ≡ Some q → slice_get m.keys i ≡ Some q
        kept i q g = ap (λ (ks : List Key). slice_get ks i) s.new.keys_are ∙ slice_get-kept e.memo.keys key i q g

-- with an empty memo a call may begin
none_known : (o : Operation) (e : Engine) → e.memo.keys ≡ [] → e.memo.found.items ≡ [] → AreAnswers o.width o.kind e.nodes e.memo.keys e.memo.found.items
none_known o e keys found = record {
  long = ap (λ (ks : List Key). length ks) keys ∙ sym (ap (λ (fs : List (Option Ref)). length fs) found);
  there = λ i key r g f. absurd (nothing i key g);
  answer = λ i key r g f. absurd (nothing i key g);
}
  where
    nothing : (i : ℕ) (key : Key) → slice_get e.memo.keys i ≡ Some key → ⊥
    nothing i key g = let h : slice_get [] i ≡ Some key = ap (λ (ks : List Key). slice_get ks i) (sym keys) ∙ g in absurd (grind arith)

pub may_start : {o : Operation} {e : Engine} {key : Key} → o.width ≤ 128 → IsSound o e.nodes e.answers → There e.nodes (places key) → e.memo.keys ≡ [] → e.memo.found.items ≡ [] → MayRun o e key
may_start {o = o} {e = e} {key = key} width sound there keys found = record {
  width = width;
  sound = sound;
  there = there;
  memo = none_known o e keys found;
  larger = record { larger = λ i q g f. let h : slice_get [] i ≡ Some q = ap (λ (ks : List Key). slice_get ks i) (sym keys) ∙ g in absurd (grind arith) };
}

-- what is kept stays true where answers go
pub sound_left : {o : Operation} {nodes : List Node} {old new : Answers} → IsSound o nodes old → new.floor ≡ old.floor → HasSlots old new → IsSound o nodes new
sound_left sound floor slots = record {
  canonical = sound.canonical;
  few = sound.few;
  kept = record {
    there = λ entry has below. sound.kept.there entry (slots entry has) (ap (λ (f : ℕ). is_below f entry) (sym floor) ∙ below);
    answer = λ entry has below. sound.kept.answer entry (slots entry has) (ap (λ (f : ℕ). is_below f entry) (sym floor) ∙ below);
  };
}

-- an answer that is kept is one
pub found_kept : {o : Operation} {e : Engine} {key : Key} → MayRun o e key → (r : Ref) → IsAnswerKept e.answers o.kind key r → Finds o e e key r
found_kept {o = o} {e = e} {key = key} may r (entry, has, kind, keys, found, below) =
    found_itself may r (subst (λ (k : Kind). IsAnswer o.width k e.nodes (places key) r.place) kind
    (subst (λ (k : Key). IsAnswer o.width entry.kind e.nodes (places k) r.place) keys
    (subst (λ (q : Ref). IsAnswer o.width entry.kind e.nodes (places entry.key) q.place) found (may.sound.kept.answer entry has below))))

-- what the first call leaves
pub leaves_run : {o : Operation} {e new : Engine} {key : Key} (result : Result Ref SpaceFault) → IsCanonical o.width e.nodes → There e.nodes (places key) → Runs o e new key → IfOk result (Finds o e new key) → (IsErrOf result Full → FindsFull o new key) → Leaves o.width o.limit e.nodes new.nodes (gate_from o.kind e.nodes o.width 0 (places key)) result
leaves_run {o = o} {e = e} {new = new} {key = key} (Ok r) canonical there runs finds full =
    leaves_applied o.width o.limit o.kind e.nodes new.nodes (places key) (Ok r) canonical there runs.sound.canonical runs.grown runs.sound.few runs.adds finds.answer (λ h. absurd cc) (λ h. absurd cc)
leaves_run {o = o} {e = e} {new = new} {key = key} (Err fault) canonical there runs finds full =
    leaves_applied o.width o.limit o.kind e.nodes new.nodes (places key) (Err fault) canonical there runs.sound.canonical runs.grown runs.sound.few runs.adds tt (λ h. (full h).full) (λ h. (full h).lacks)
