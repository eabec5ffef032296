-- The keys that an operation meets are reached from its operands, and each is met once.
use Rattle.ncl_diagram.proofs.Terms.{AddsKeys, AreLarger, Bool, Grown, IsCanonical, IsKeyPut, Key, Kind, List, MayAdd, Node, None, Option, Reaches, ReachesKey, Ref, Settles, Some, There, [], along, ap, arith, branch, false, here, inl, inr, length, map, places, push_cases, set, size_of, slice_get, slice_index_or, subst, suc, sym, true, zero, ℕ, ◌++◌, ◌+◌, ◌<◌, ◌∙◌, ◌∷◌, ◌≡◌, ◌⊎◌}
use Rattle.ncl_diagram.proofs.Growth.{branch_grown, branch_before, grown_along, there_grown}
use Rattle.ncl_diagram.proofs.MemoLaws.{short}
use Rattle.ncl_diagram.proofs.Applying.{get_set, branches_grown, Lower, Higher}

-- what is reached stays so where nodes come
pub reaches_grown : (n : ℕ) (a b : List Node) → IsCanonical n a → Grown a b → (to p : ℕ) → p < length a + 2 → Reaches a to p → Reaches b to p
reaches_grown n a b c g to p there here = here
reaches_grown n a b c g to p there (along level v q h) =
    along level v p
    (subst (λ (r : ℕ). Reaches b to r) (sym (branch_grown a b g level v p there))
    (reaches_grown n a b c g to (branch a level v p) (let before = branch_before n a c level v p there in omega arith) h))

pub reaches_key_grown : (n : ℕ) (a b : List Node) → IsCanonical n a → Grown a b → (from to : Key) → There a (places from) → ReachesKey a from to → ReachesKey b from to
reaches_key_grown n a b c g from to there r = record {
  a = reaches_grown n a b c g to.a.place from.a.place there.0 r.a;
  b = reaches_grown n a b c g to.b.place from.b.place there.1.0 r.b;
  c = reaches_grown n a b c g to.c.place from.c.place there.1.1.0 r.c;
  d = reaches_grown n a b c g to.d.place from.d.place there.1.1.1.0 r.d;
}

-- what is reached from the branches of a key is reached from the key
reaches_up : (nodes : List Node) (level : ℕ) (v : Bool) (key next to : Key) → places next ≡ map (branch nodes level v) (places key) → ReachesKey nodes next to → ReachesKey nodes key to
reaches_up nodes level v key next to e r = record {
  a = along level v key.a.place (subst (λ (p : ℕ). Reaches nodes to.a.place p) (ap (λ (ps : List ℕ). slice_index_or ps 0 0) e) r.a);
  b = along level v key.b.place (subst (λ (p : ℕ). Reaches nodes to.b.place p) (ap (λ (ps : List ℕ). slice_index_or ps 1 0) e) r.b);
  c = along level v key.c.place (subst (λ (p : ℕ). Reaches nodes to.c.place p) (ap (λ (ps : List ℕ). slice_index_or ps 2 0) e) r.c);
  d = along level v key.d.place (subst (λ (p : ℕ). Reaches nodes to.d.place p) (ap (λ (ps : List ℕ). slice_index_or ps 3 0) e) r.d);
}

-- the key itself comes, or none
pub adds_itself : (nodes : List Node) (keys more : List Key) (key : Key) → MayAdd keys more key → AddsKeys nodes keys more key
adds_itself nodes keys more key (inl e) = record { added = λ i q g. inl (i, subst (λ (l : List Key). slice_get l i ≡ Some q) e g) }
adds_itself nodes keys more key (inr e) = record { added = λ i q g. by i q (push_cases keys key i q (subst (λ (l : List Key). slice_get l i ≡ Some q) e g)) }
  where
    by : (i : ℕ) (q : Key) → (slice_get keys i ≡ Some q) ⊎ ((i ≡ length keys) × (key ≡ q)) → ((j : ℕ) × (slice_get keys j ≡ Some q)) ⊎ ReachesKey nodes key q
    by i q (inl g) = inl (i, g)
    by i q (inr p) = inr (subst (λ (k : Key). ReachesKey nodes key k) p.1 (record { a = here; b = here; c = here; d = here }))

pub adds_keys_grown : (n : ℕ) (a b : List Node) (keys more : List Key) (from : Key) → IsCanonical n a → Grown a b → There a (places from) → AddsKeys a keys more from → AddsKeys b keys more from
adds_keys_grown n a b keys more from c g there adds = record { added = λ i q e. by i q (adds.added i q e) }
  where
    by : (i : ℕ) (q : Key) → ((j : ℕ) × (slice_get keys j ≡ Some q)) ⊎ ReachesKey a from q → ((j : ℕ) × (slice_get keys j ≡ Some q)) ⊎ ReachesKey b from q
    by i q (inl h) = inl h
    by i q (inr r) = inr (reaches_key_grown n a b c g from q there r)

-- then those of the branches
pub adds_branches : (nodes : List Node) (level : ℕ) (v : Bool) (keys more most : List Key) (key next : Key) → places next ≡ map (branch nodes level v) (places key) → AddsKeys nodes keys more key → AddsKeys nodes more most next → AddsKeys nodes keys most key
adds_branches nodes level v keys more most key next e first second = record { added = λ i q g. by i q (second.added i q g) }
  where
    by : (i : ℕ) (q : Key) → ((j : ℕ) × (slice_get more j ≡ Some q)) ⊎ ReachesKey nodes next q → ((j : ℕ) × (slice_get keys j ≡ Some q)) ⊎ ReachesKey nodes key q
    by i q (inl h) = first.added h.0 q h.1
    by i q (inr r) = inr (reaches_up nodes level v key next q e r)

-- a key that has no answer is new, where those without one are larger
pub record Begun (keys : List Key) (found : List (Option Ref)) (more : List Key) (known : List (Option Ref)) (key : Key) (at : ℕ) : Type 0 where
  pub keys_are : more ≡ keys ++ key ∷ []
  pub found_are : known ≡ found ++ None ∷ []
  pub last : at ≡ length keys

pub begun : (keys more : List Key) (found known : List (Option Ref)) (key : Key) (r : ℕ × Option Ref) → IsKeyPut keys found more known key r → r.1 ≡ None → AreLarger (size_of key) keys found → Begun keys found more known key r.0
begun keys more found known key r (inl p) none larger = record { keys_are = p.0; found_are = p.1; last = p.2 }
begun keys more found known key r (inr p) none larger =
    let less : size_of key < size_of key = larger.larger r.0 key p.2 (p.3 ∙ ap (λ (o : Option Ref). Some o) none) in
    absurd (omega arith)

-- it is the only one without an answer that came
module _ {keys more : List Key} {found known : List (Option Ref)} {key : Key} {at : ℕ} (b : Begun keys found more known key at) where
  pub open_begun : (i : ℕ) (q : Key) → slice_get more i ≡ Some q → slice_get known i ≡ Some None → length keys ≡ length found → ((slice_get keys i ≡ Some q) × (slice_get found i ≡ Some None)) ⊎ ((i ≡ at) × (key ≡ q))
  open_begun i q g f long =
      by (push_cases keys key i q (subst (λ (l : List Key). slice_get l i ≡ Some q) b.keys_are g)) (push_cases found None i None (subst (λ (l : List (Option Ref)). slice_get l i ≡ Some None) b.found_are f))
    where
      nothing : Option Ref
      nothing = None

      by : (slice_get keys i ≡ Some q) ⊎ ((i ≡ length keys) × (key ≡ q)) → (slice_get found i ≡ Some None) ⊎ ((i ≡ length found) × (nothing ≡ nothing)) → ((slice_get keys i ≡ Some q) × (slice_get found i ≡ Some None)) ⊎ ((i ≡ at) × (key ≡ q))
      by (inl h) (inl e) = inl (h, e)
      by (inl h) (inr e) = let s = short keys i q h in let p = e.0 in absurd (omega arith)
      by (inr h) e = inr (h.0 ∙ sym b.last, h.1)

  pub larger_begun : (less : ℕ) → less < size_of key → AreLarger (size_of key) keys found → length keys ≡ length found → AreLarger less more known
  larger_begun less lt larger long = record { larger = λ i q g f. by i q (open_begun i q g f long) }
    where
      by : (i : ℕ) (q : Key) → ((slice_get keys i ≡ Some q) × (slice_get found i ≡ Some None)) ⊎ ((i ≡ at) × (key ≡ q)) → less < size_of q
      by i q (inl p) = let h = larger.larger i q p.0 p.1 in omega arith
      by i q (inr p) = subst (λ (k : Key). less < size_of k) p.1 lt

-- keys without an answer stay larger
pub larger_settled : (less : ℕ) (keys more : List Key) (found known : List (Option Ref)) → AreLarger less keys found → Settles keys found more known → AreLarger less more known
larger_settled less keys more found known larger s = record { larger = λ i q g f. let w = s.was i q g f in larger.larger i q w.0 w.1 }

pub settles_along : {a b d : List Key} {f g h : List (Option Ref)} → Settles a f b g → Settles b g d h → Settles a f d h
settles_along s t = record { was = λ i q x y. let w = t.was i q x y in s.was i q w.0 w.1 }

set_here : {X : Type 0} (xs : List X) (at : ℕ) (v x : X) → slice_get (set xs at v) at ≡ Some x → v ≡ x
set_here [] at v x e = absurd (grind arith)
set_here (y ∷ xs) zero v x e = cc
set_here (y ∷ xs) (suc at) v x e = set_here xs at v x e

-- once the key has its answer no key without one has come
pub settles_noted : {keys more most : List Key} {found known last : List (Option Ref)} {key : Key} {at : ℕ} → Begun keys found more known key at → length keys ≡ length found → Settles more known most last → (r : Ref) → Settles keys found most (set last at (Some r))
settles_noted {keys = keys} {more = more} {most = most} {found = found} {known = known} {last = last} {key = key} {at = at} b long s r = record {
  was = λ i q g f. by i q f (old i q g (get_set last at i (Some r) None f));
}
  where
    old : (i : ℕ) (q : Key) → slice_get most i ≡ Some q → (slice_get last i ≡ Some None) ⊎ ((i ≡ at) × (Some r ≡ None)) → ((slice_get keys i ≡ Some q) × (slice_get found i ≡ Some None)) ⊎ ((i ≡ at) × (key ≡ q))
    old i q g (inl f) = let w = s.was i q g f in open_begun b i q w.0 w.1 long
    old i q g (inr p) = let e = p.1 in absurd (grind arith)

    by : (i : ℕ) (q : Key) → slice_get (set last at (Some r)) i ≡ Some None → ((slice_get keys i ≡ Some q) × (slice_get found i ≡ Some None)) ⊎ ((i ≡ at) × (key ≡ q)) → (slice_get keys i ≡ Some q) × (slice_get found i ≡ Some None)
    by i q f (inl w) = w
    by i q f (inr p) =
        let e : Some r ≡ None = set_here last at (Some r) None (subst (λ (j : ℕ). slice_get (set last at (Some r)) j ≡ Some None) p.0 f) in
        absurd (grind arith)

-- after the first call, and after the second, the keys are reached from the operands
module _ {n : ℕ} {kind : Kind} {a b : List Node} {key low high : Key} {level : ℕ} (u : Lower n kind a b (places key) (places low) (places high) level) where
  pub reached_lower : {keys more most : List Key} → AddsKeys a keys more key → AddsKeys b more most low → AddsKeys b keys most key
  reached_lower {keys = keys} {more = more} {most = most} first second =
      adds_branches b level false keys more most key low (u.lows_are ∙ sym (branches_grown a b level false (places key) u.grown u.there)) (adds_keys_grown n a b keys more key u.ca u.grown u.there first) second

module _ {n : ℕ} {kind : Kind} {a b d : List Node} {key low high : Key} {level place : ℕ} (u : Higher n kind a b d (places key) (places low) (places high) level place) where
  pub reached_higher : {keys more most : List Key} → AddsKeys b keys more key → AddsKeys d more most high → AddsKeys d keys most key
  reached_higher {keys = keys} {more = more} {most = most} first second =
      adds_branches d level true keys more most key high (u.first.highs_are ∙ sym (branches_grown a d level true (places key) (grown_along a b d u.first.grown u.grown) u.first.there)) (adds_keys_grown n b d keys more key u.first.cb u.grown (there_grown a b u.first.grown (places key) u.first.there) first) second
