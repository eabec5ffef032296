-- Walks over buckets, and keys that are put into them.
use Rattle.std.specs.List.{IsDistinct}
use Rattle.ncl_diagram.proofs.Terms.{ArePut, Bool, Bucket, End, EndsAt, Found, Free, IsDistinct-push, IsFree, IsTable, KeepsTaken, Key, List, Some, [], and_le_r, ap, arith, bit_and, cases_lt, false, get_or, get_or-set_same, hash_of, home_of, inl, inr, is_key, length, length-append, list_any, next, past, push_cases, refl, replicate, set, slice_get, slice_get-end, slice_get-get_or, subst, suc, sym, true, zero, ℕ, ◌++◌, ◌+◌, ◌-◌, ◌<◌, ◌∙◌, ◌∷◌, ◌≡◌, ◌≢◌, ◌≤◌, ◌⊎◌}
use Rattle.ncl_diagram.specs.Keys.{Leads, here}
use Rattle.ncl_diagram.proofs.Applying.{get_set, length_set, some_only}
use Rattle.ncl_diagram.proofs.Counting.{among_member, is_key_laws}
use Rattle.ncl_diagram.proofs.MemoLaws.{short}

-- what stands at other places stays where one is set
get_other : {X : Type 0} (xs : List X) (at i : ℕ) (v x : X) → i ≢ at → slice_get xs i ≡ Some x → slice_get (set xs at v) i ≡ Some x
get_other [] at i v x other e = e
get_other (y ∷ xs) zero zero v x other e = absurd (other refl)
get_other (y ∷ xs) zero (suc i) v x other e = e
get_other (y ∷ xs) (suc at) zero v x other e = e
get_other (y ∷ xs) (suc at) (suc i) v x other e = get_other xs at i v x (λ same. other (ap suc same)) e

-- the bucket at a place is one
same_bucket : (buckets : List Bucket) (at : ℕ) (b c : Bucket) → slice_get buckets at ≡ Some b → slice_get buckets at ≡ Some c → b ≡ c
same_bucket buckets at b c e f = some_only b c (sym e ∙ f)

-- a walk goes on over a bucket of another key
leads_on : (keys : List Key) (buckets : List Bucket) (round i : ℕ) (key : Key) (at : ℕ) (b : Bucket) → slice_get buckets at ≡ Some b → (slice_get keys b.index ≡ Some key → ⊥) → slice_get keys i ≡ Some key → Leads buckets round i at → Leads buckets round i (next (length buckets) at)
leads_on keys buckets round i key at b got other is (here q c g r x) =
    absurd (other (ap (λ (d : Bucket). slice_get keys d.index) (same_bucket buckets at b c got g) ∙ ap (slice_get keys) x ∙ is))
leads_on keys buckets round i key at b got other is (past q c g r w) = w

-- where what is taken stays, walks lead where they led
leads_kept : (round i : ℕ) (a b : List Bucket) → KeepsTaken round a b → (at : ℕ) → Leads a round i at → Leads b round i at
leads_kept round i a b k at (here q c g r x) = here at c (k.kept at c g r) r x
leads_kept round i a b k at (past q c g r w) =
    past at c (k.kept at c g r) r (subst (λ (n : ℕ). Leads b round i (next n at)) (sym k.long) (leads_kept round i a b k (next (length a) at) w))

-- what is taken stays where one that is free is set
keeps_set : (round at : ℕ) (buckets : List Bucket) (b new : Bucket) → slice_get buckets at ≡ Some b → b.round ≢ round → KeepsTaken round buckets (set buckets at new)
keeps_set round at buckets b new got free = record {
  long = length_set buckets at new;
  kept = λ q c g r. get_other buckets at q new c (λ same. free (ap (λ (d : Bucket). d.round) (same_bucket buckets at b c got (ap (slice_get buckets) (sym same) ∙ g)) ∙ r)) g;
}

-- how far the walk of a key has come
pub record Walked (keys : List Key) (buckets : List Bucket) (round : ℕ) (key : Key) (at : ℕ) : Type 0 where
  pub within : at < length buckets
  pub on : (i : ℕ) → slice_get keys i ≡ Some key → Leads buckets round i (home_of (length buckets) key) → Leads buckets round i at
  pub back : (more : List Bucket) (i : ℕ) → KeepsTaken round buckets more → Leads more round i at → Leads more round i (home_of (length buckets) key)

pub walked_first : (keys : List Key) (buckets : List Bucket) (round : ℕ) (key : Key) (hash : ℕ) → hash ≡ hash_of key → length buckets ≢ 0 → Walked keys buckets round key (bit_and hash (length buckets - 1))
walked_first keys buckets round key hash is some =
    subst (λ (h : ℕ). Walked keys buckets round key (bit_and h (length buckets - 1))) (sym is) (record {
      within = let le = and_le_r (hash_of key) (length buckets - 1) in omega arith;
      on = λ i g w. w;
      back = λ more i k w. w;
    })

pub walked_on : (keys : List Key) (buckets : List Bucket) (round : ℕ) (key : Key) (at : ℕ) (b : Bucket) → Walked keys buckets round key at → slice_get buckets at ≡ Some b → b.round ≡ round → (slice_get keys b.index ≡ Some key → ⊥) → Walked keys buckets round key (bit_and (at + 1) (length buckets - 1))
walked_on keys buckets round key at b walked got taken other = record {
  within = let le = and_le_r (at + 1) (length buckets - 1) in let less = walked.within in omega arith;
  on = λ i g w. leads_on keys buckets round i key at b got other g (walked.on i g w);
  back = λ more i k w. walked.back more i k (past at b (k.kept at b got taken) taken (subst (λ (n : ℕ). Leads more round i (next n at)) (sym k.long) w));
}

-- the next key in the bucket where its walk ends
pub put_next : (keys : List Key) (count : ℕ) (buckets : List Bucket) (round : ℕ) (key : Key) (at : ℕ) (new : Bucket) → ArePut keys count buckets round → slice_get keys count ≡ Some key
    → (b : Bucket) → slice_get buckets at ≡ Some b → b.round ≢ round
    → ((more : List Bucket) (i : ℕ) → KeepsTaken round buckets more → Leads more round i at → Leads more round i (home_of (length buckets) key))
    → new.round ≡ round → new.index ≡ count → ArePut keys (count + 1) (set buckets at new) round
put_next keys count buckets round key at new put is b got free back r x = record {
  latest = λ q c g. latest q c (get_set buckets at q new c g);
  within = λ q c g t. within q c t (get_set buckets at q new c g);
  reached = λ i q lt g. reached i q g (cases_lt i count) lt;
}
  where
    more : List Bucket
    more = set buckets at new

    keeps : KeepsTaken round buckets more
    keeps = keeps_set round at buckets b new got free

    latest : (q : ℕ) (c : Bucket) → (slice_get buckets q ≡ Some c) ⊎ ((q ≡ at) × (new ≡ c)) → c.round ≤ round
    latest q c (inl g) = put.latest q c g
    latest q c (inr p) = let same = ap (λ (d : Bucket). d.round) p.1 in omega arith

    within : (q : ℕ) (c : Bucket) → c.round ≡ round → (slice_get buckets q ≡ Some c) ⊎ ((q ≡ at) × (new ≡ c)) → c.index < count + 1
    within q c t (inl g) = let less = put.within q c g t in omega arith
    within q c t (inr p) = let same = ap (λ (d : Bucket). d.index) p.1 in omega arith

    home : (i : ℕ) (q : Key) → Leads more round i (home_of (length buckets) q) → Leads more round i (home_of (length more) q)
    home i q w = subst (λ (n : ℕ). Leads more round i (home_of n q)) (sym keeps.long) w

    reached : (i : ℕ) (q : Key) → slice_get keys i ≡ Some q → (i < count) ⊎ (count ≤ i) → i < count + 1 → Leads more round i (home_of (length more) q)
    reached i q g (inl less) lt = home i q (leads_kept round i buckets more keeps (home_of (length buckets) q) (put.reached i q less g))
    reached i q g (inr le) lt =
        let last : count ≡ i = omega arith in
        let same : key ≡ q = some_only key q (sym is ∙ ap (slice_get keys) last ∙ g) in
        let there : slice_get more at ≡ Some new = slice_get-get_or more at new (omega (arith, short buckets at b got, keeps.long)) ∙ ap Some (get_or-set_same buckets at new new (short buckets at b got)) in
        let own : Leads more round i at = here at new there r (x ∙ last) in
        home i q (subst (λ (k : Key). Leads more round i (home_of (length buckets) k)) same (back more i keeps own))

-- where no bucket is of the round no key is put
pub none_taken : (keys : List Key) (buckets : List Bucket) (round : ℕ) → ((at : ℕ) (b : Bucket) → slice_get buckets at ≡ Some b → b.round < round) → ArePut keys 0 buckets round
none_taken keys buckets round earlier = record {
  latest = λ at b g. let less = earlier at b g in omega arith;
  within = λ at b g same. let less = earlier at b g in absurd (omega arith);
  reached = λ i key less g. absurd (omega arith);
}

-- a key that is absent comes last
pub table_push : (keys : List Key) (buckets : List Bucket) (round : ℕ) (key : Key) (at : ℕ) (new : Bucket) → IsTable keys buckets round → IsFree keys buckets round key at → new.round ≡ round → new.index ≡ length keys → IsTable (keys ++ key ∷ []) (set buckets at new) round
table_push keys buckets round key at new table free r x = record {
  begun = table.begun;
  distinct = IsDistinct-push is_key_laws keys key table.distinct (absent (list_any (is_key key) keys) refl);
  put = subst (λ (n : ℕ). ArePut (keys ++ key ∷ []) n (set buckets at new) round) (sym (length-append keys (key ∷ [])))
      (put_next (keys ++ key ∷ []) (length keys) buckets round key at new longer (slice_get-end keys key (length keys) refl) free.bucket free.there free.free free.back r x);
}
  where
    absent : (b : Bool) → list_any (is_key key) keys ≡ b → b ≡ false
    absent false e = refl
    absent true e = let m = among_member keys key e in absurd (free.absent m.0 m.1 (table.put.reached m.0 key (short keys m.0 key m.1) m.1))

    longer : ArePut (keys ++ key ∷ []) (length keys) buckets round
    longer = record {
      latest = table.put.latest;
      within = table.put.within;
      reached = λ i q less g. reached i q less (push_cases keys key i q g);
    }
      where
        reached : (i : ℕ) (q : Key) → i < length keys → (slice_get keys i ≡ Some q) ⊎ ((i ≡ length keys) × (key ≡ q)) → Leads buckets round i (home_of (length buckets) q)
        reached i q less (inl g) = table.put.reached i q less g
        reached i q less (inr p) = let e = p.0 in absurd (omega arith)

-- in a later round nothing is taken
pub table_cleared : (buckets : List Bucket) (later : ℕ) → ((at : ℕ) (b : Bucket) → slice_get buckets at ≡ Some b → b.round < later) → 1 ≤ later → IsTable [] buckets later
unfolding IsDistinct
table_cleared buckets later earlier begun = record { begun = begun; distinct = tt; put = none_taken [] buckets later earlier }

pub table_none : IsTable [] [] 1
table_none = table_cleared [] 1 (λ at b g. absurd (grind arith)) (omega arith)

-- a key that differs from that at a place isn't there
pub other_key : (keys : List Key) (i : ℕ) (key d : Key) → is_key (get_or keys i d) key ≡ false → slice_get keys i ≡ Some key → ⊥
other_key keys i key d differs is =
    let got = slice_get-get_or keys i d (short keys i key is) in
    let same : get_or keys i d ≡ key = some_only (get_or keys i d) key (sym got ∙ is) in
    let yes : is_key (get_or keys i d) key ≡ true = ap (λ (k : Key). is_key k key) same ∙ is_key_laws.refl key in
    absurd (grind arith)

-- new buckets are free
pub put_none : (keys : List Key) (buckets : List Bucket) (round n : ℕ) → 1 ≤ round → buckets ≡ replicate n (record { round = 0; index = 0 }) → ArePut keys 0 buckets round
put_none keys buckets round n begun is =
    none_taken keys buckets round (λ at b g.
    let same : 0 ≡ b.round = ap (λ (d : Bucket). d.round) (replicated n at (record { round = 0; index = 0 }) b (ap (λ (l : List Bucket). slice_get l at) (sym is) ∙ g)) in
    omega arith)
  where
    replicated : (n at : ℕ) (x b : Bucket) → slice_get (replicate n x) at ≡ Some b → x ≡ b
    replicated zero at x b e = absurd (grind arith)
    replicated (suc n) zero x b e = some_only x b e
    replicated (suc n) (suc at) x b e = replicated n at x b e

-- what is said of the end of a walk where that is free, or the key's
pub free_end : (given keys : List Key) (slots buckets : List Bucket) (round : ℕ) (key : Key) (end : End) (at : ℕ) → given ≡ keys → slots ≡ buckets → end ≡ Free at → EndsAt given slots round key end → IsFree keys buckets round key at
free_end given keys slots buckets round key end at same one is ends =
    subst (λ (ks : List Key). IsFree ks buckets round key at) same (subst (λ (bs : List Bucket). IsFree given bs round key at) one (subst (EndsAt given slots round key) is ends))

pub found_end : (given keys : List Key) (slots : List Bucket) (round : ℕ) (key : Key) (end : End) (at : ℕ) → given ≡ keys → end ≡ Found at → EndsAt given slots round key end → slice_get keys at ≡ Some key
found_end given keys slots round key end at same is ends = subst (λ (ks : List Key). slice_get ks at ≡ Some key) same (subst (EndsAt given slots round key) is ends)
