-- Spaces whose marks count: a Ref is live by its place and by how many items there are, and at a mark the first ones stand.
use Rattle.ncl_space.proofs.Terms.{Beads, IsSpace, IsTrue, List, Mark, MarksNow, Ref, Releases, SpaceData, ap, arith, length, length-take-le, nat_le, nat_lt, nat_tests, subst, sym, take, take-length, take-take, ℕ, ◌+◌, ◌<◌, ◌∙◌, ◌≡◌, ◌≤◌}

-- the tests of a space and what they say
pub from_nat_lt : (a b : ℕ) → IsTrue (nat_lt a b) → a < b
from_nat_lt a b h = grind (arith, nat_tests)

pub nat_lt-from : (a b : ℕ) → a < b → IsTrue (nat_lt a b)
nat_lt-from a b h = grind (arith, nat_tests)

pub from_nat_le : (a b : ℕ) → IsTrue (nat_le a b) → a ≤ b
from_nat_le a b h = grind (arith, nat_tests)

pub nat_le-from : (a b : ℕ) → a ≤ b → IsTrue (nat_le a b)
nat_le-from a b h = grind (arith, nat_tests)

-- what is live and held now, and at each mark, goes by so many of the items
pub record CountsMarks {X : Type 0} (s : SpaceData) (beads : List X → Beads) (items : List X) : Type 0 where
  pub live : (r : Ref) → s.live r ≡ nat_lt r.place (length items + 2)
  pub held : s.held ≡ beads items
  pub stands : (m : Mark) → s.stands m ≡ nat_le m.count (length items)
  pub live_at : (m : Mark) (r : Ref) → s.live_at m r ≡ nat_lt r.place (m.count + 2)
  pub held_at : (m : Mark) → s.held_at m ≡ beads (take m.count items)

-- the number of items is a mark of now
pub marks_now : {X : Type 0} (s : SpaceData) (beads : List X → Beads) (items : List X) → CountsMarks s beads items → (m : Mark) → m.count ≡ length items → MarksNow s m
marks_now s beads items counts m is = record {
  stands = subst IsTrue (sym (counts.stands m)) (nat_le-from m.count (length items) (omega (arith, is)));
  live_at = λ r. counts.live_at m r ∙ ap (λ (k : ℕ). nat_lt r.place (k + 2)) is ∙ sym (counts.live r);
  held_at = counts.held_at m ∙ ap (λ (k : ℕ). beads (take k items)) is ∙ ap beads (take-length items) ∙ sym counts.held;
  latest = λ n stands.
      let le : n.count ≤ length items = from_nat_le n.count (length items) (subst IsTrue (counts.stands n) stands) in
      omega (arith, is);
}

-- the first items alone are the space at a mark
pub releases_to : {X : Type 0} (old new : SpaceData) (beads : List X → Beads) (items : List X) (m : Mark) → CountsMarks old beads items → CountsMarks new beads (take m.count items) → m.count ≤ length items
    → new.width ≡ old.width → new.limit ≡ old.limit → ((r : Ref) → r.place < m.count + 2 → new.table r ≡ old.table r) → IsSpace new → Releases old new m
releases_to old new beads items m before after le width limit tables space = record {
  width = width;
  limit = limit;
  live = λ r. after.live r ∙ ap (λ (k : ℕ). nat_lt r.place (k + 2)) long ∙ sym (before.live_at m r);
  tables = λ r live. tables r (from_nat_lt r.place (m.count + 2) (subst IsTrue (before.live_at m r) live));
  held = after.held ∙ sym (before.held_at m);
  marks = λ n stands earlier. record {
    stands = subst IsTrue (sym (after.stands n)) (nat_le-from n.count (length (take m.count items)) (omega (arith, long, earlier)));
    live_at = λ r. after.live_at n r ∙ sym (before.live_at n r);
    held_at = after.held_at n ∙ ap beads (take-take n.count m.count items earlier) ∙ sym (before.held_at n);
  };
  space = space;
}
  where
    long : length (take m.count items) ≡ m.count
    long = length-take-le m.count items le
