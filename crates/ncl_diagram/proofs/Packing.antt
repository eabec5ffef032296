-- An answer is read from its two words, and what two words say has those words.
use Rattle.ncl_diagram.specs.Slot.{gates, kind_at, kind_number}
use Rattle.ncl_diagram.proofs.Terms.{AreWords, Key, Kind, None, Ref, Some, Th12, [], and_parts, ap, are_below, arith, below_answer, entry_at, first_of, first_word, ltb-true, nat_lt, option_map, or_shifted, places, refl, second_word, sym, true, ℕ, ◌%◌, ◌*◌, ◌+◌, ◌/◌, ◌<◌, ◌^◌, ◌∙◌, ◌∷◌, ◌≡◌}
use Rattle.std.proofs.Common.{bit_or}

-- a gate is found by its number
gate_found : (kind : Kind) → kind_at (kind_number kind) ≡ Some kind
unfolding kind_number kind_at gates
gate_found Th12 = refl
gate_found _ = refl

number_few : (kind : Kind) → kind_number kind < 64
unfolding kind_number gates
number_few Th12 = omega arith
number_few _ = omega arith

-- the four places, each below 24 bits
pub each_below : (n : ℕ) (key : Key) → are_below n (places key) ≡ true → (key.a.place < n) × (key.b.place < n) × (key.c.place < n) × (key.d.place < n)
each_below n key all =
    let first = and_parts (nat_lt key.a.place n) (are_below n (key.b.place ∷ key.c.place ∷ key.d.place ∷ [])) all in
    let second = and_parts (nat_lt key.b.place n) (are_below n (key.c.place ∷ key.d.place ∷ [])) first.1 in
    let third = and_parts (nat_lt key.c.place n) (are_below n (key.d.place ∷ [])) second.1 in
    let fourth = and_parts (nat_lt key.d.place n) (are_below n []) third.1 in
    (ltb-true key.a.place n first.0, ltb-true key.b.place n second.0, ltb-true key.c.place n third.0, ltb-true key.d.place n fourth.0)

-- what stands where in the words
place_a : (a b c : ℕ) → a < 2 ^ 24 → ((c % 2 ^ 16 * 2 ^ 24 + b) * 2 ^ 24 + a) % 2 ^ 24 ≡ a
place_a a b c ha = omega arith

place_b : (a b c : ℕ) → a < 2 ^ 24 → b < 2 ^ 24 → ((c % 2 ^ 16 * 2 ^ 24 + b) * 2 ^ 24 + a) / 2 ^ 24 % 2 ^ 24 ≡ b
place_b a b c ha hb = omega arith

place_c : (a b c d number found : ℕ) → a < 2 ^ 24 → b < 2 ^ 24 → c < 2 ^ 24 → (found * 2 ^ 38 + ((number * 2 ^ 24 + d) * 2 ^ 8 + c / 2 ^ 16)) % 2 ^ 8 * 2 ^ 16 + ((c % 2 ^ 16 * 2 ^ 24 + b) * 2 ^ 24 + a) / 2 ^ 48 ≡ c
place_c a b c d number found ha hb hc = omega arith

place_d : (c d number found : ℕ) → c < 2 ^ 24 → d < 2 ^ 24 → (found * 2 ^ 38 + ((number * 2 ^ 24 + d) * 2 ^ 8 + c / 2 ^ 16)) / 2 ^ 8 % 2 ^ 24 ≡ d
place_d c d number found hc hd = omega arith

number_in : (c d number found : ℕ) → c < 2 ^ 24 → d < 2 ^ 24 → number < 64 → (found * 2 ^ 38 + ((number * 2 ^ 24 + d) * 2 ^ 8 + c / 2 ^ 16)) / 2 ^ 32 % 2 ^ 6 ≡ number
number_in c d number found hc hd hn = omega arith

found_in : (c d number found : ℕ) → c < 2 ^ 24 → d < 2 ^ 24 → number < 64 → (found * 2 ^ 38 + ((number * 2 ^ 24 + d) * 2 ^ 8 + c / 2 ^ 16)) / 2 ^ 38 ≡ found
found_in c d number found hc hd hn = omega arith

-- the words of an answer say it
unpacked : (kind : Kind) (key : Key) (found : Ref) → are_below (2 ^ 24) (places key) ≡ true → entry_at (first_of key) (found.place * 2 ^ 38 + below_answer kind key) ≡ Some (record { kind = kind; key = key; found = found })
unpacked kind key found all =
    let below = each_below (2 ^ 24) key all in
    let number = number_in key.c.place key.d.place (kind_number kind) found.place below.2 below.3 (number_few kind) in
    let a = place_a key.a.place key.b.place key.c.place below.0 in
    let b = place_b key.a.place key.b.place key.c.place below.0 below.1 in
    let c = place_c key.a.place key.b.place key.c.place key.d.place (kind_number kind) found.place below.0 below.1 below.2 in
    let d = place_d key.c.place key.d.place (kind_number kind) found.place below.2 below.3 in
    let e = found_in key.c.place key.d.place (kind_number kind) found.place below.2 below.3 (number_few kind) in
    let gate = ap kind_at number ∙ gate_found kind in
    λ i. option_map (λ (k : Kind). record { kind = k; key = record { a = record { place = a i }; b = record { place = b i }; c = record { place = c i }; d = record { place = d i } }; found = record { place = e i } }) (gate i)

pub says : (first second : ℕ) (kind : Kind) (key : Key) (found : Ref) → are_below (2 ^ 24) (places key) ≡ true → first ≡ first_of key → second ≡ found.place * 2 ^ 38 + below_answer kind key → entry_at first second ≡ Some (record { kind = kind; key = key; found = found })
says first second kind key found all e1 e2 = (λ i. entry_at (e1 i) (e2 i)) ∙ unpacked kind key found all

-- words of zeros say nothing
pub none_at_zero : entry_at 0 0 ≡ None
unfolding kind_at
none_at_zero = refl

-- how the words are made
dropped : (c : ℕ) → c * 2 ^ 48 % 2 ^ 64 ≡ c % 2 ^ 16 * 2 ^ 48
dropped c = omega arith

pub low_made : (a b c : ℕ) → a < 2 ^ 24 → b < 2 ^ 24 → bit_or (bit_or (c * 2 ^ 48 % 2 ^ 64) (b * 2 ^ 24 % 2 ^ 64)) a ≡ (c % 2 ^ 16 * 2 ^ 24 + b) * 2 ^ 24 + a
low_made a b c ha hb =
    let middle : b * 2 ^ 24 % 2 ^ 64 ≡ b * 2 ^ 24 = omega arith in
    let fits : b * 2 ^ 24 < 2 ^ 48 = omega arith in
    let joined : c % 2 ^ 16 * 2 ^ 48 + b * 2 ^ 24 ≡ (c % 2 ^ 16 * 2 ^ 24 + b) * 2 ^ 24 = omega arith in
    (λ i. bit_or (bit_or (dropped c i) (middle i)) a)
    ∙ ap (λ (w : ℕ). bit_or w a) (or_shifted (c % 2 ^ 16) 48 (b * 2 ^ 24) fits ∙ joined)
    ∙ or_shifted (c % 2 ^ 16 * 2 ^ 24 + b) 24 a ha

pub high_made : (c d number : ℕ) → c < 2 ^ 24 → d < 2 ^ 24 → number < 64 → bit_or (bit_or (number * 2 ^ 32 % 2 ^ 64) (d * 2 ^ 8 % 2 ^ 64)) (c / 2 ^ 16) ≡ (number * 2 ^ 24 + d) * 2 ^ 8 + c / 2 ^ 16
high_made c d number hc hd hn =
    let top : number * 2 ^ 32 % 2 ^ 64 ≡ number * 2 ^ 32 = omega arith in
    let middle : d * 2 ^ 8 % 2 ^ 64 ≡ d * 2 ^ 8 = omega arith in
    let fits : d * 2 ^ 8 < 2 ^ 32 = omega arith in
    let last : c / 2 ^ 16 < 2 ^ 8 = omega arith in
    let joined : number * 2 ^ 32 + d * 2 ^ 8 ≡ (number * 2 ^ 24 + d) * 2 ^ 8 = omega arith in
    (λ i. bit_or (bit_or (top i) (middle i)) (c / 2 ^ 16))
    ∙ ap (λ (w : ℕ). bit_or w (c / 2 ^ 16)) (or_shifted number 32 (d * 2 ^ 8) fits ∙ joined)
    ∙ or_shifted (number * 2 ^ 24 + d) 8 (c / 2 ^ 16) last

answer_put : (found low : ℕ) → found < 2 ^ 24 → low < 2 ^ 38 → bit_or (found * 2 ^ 38 % 2 ^ 64) low ≡ found * 2 ^ 38 + low
answer_put found low hf hl =
    let top : found * 2 ^ 38 % 2 ^ 64 ≡ found * 2 ^ 38 = omega arith in
    ap (λ (w : ℕ). bit_or w low) top ∙ or_shifted found 38 low hl

below_answer_few : (kind : Kind) (key : Key) → are_below (2 ^ 24) (places key) ≡ true → below_answer kind key < 2 ^ 38
below_answer_few kind key all =
    let below = each_below (2 ^ 24) key all in
    omega (arith, number_few kind, below.2, below.3)

-- the two words of an answer whose places fit are words, and say it
pub made : (kind : Kind) (key : Key) (found : Ref) (low high : ℕ) → are_below (2 ^ 24) (found.place ∷ places key) ≡ true → (are_below (2 ^ 24) (places key) ≡ true → low ≡ first_of key) → (are_below (2 ^ 24) (places key) ≡ true → high ≡ below_answer kind key) → (let second = bit_or (found.place * 2 ^ 38 % 2 ^ 64) high in AreWords low second × (entry_at low second ≡ Some (record { kind = kind; key = key; found = found })))
made kind key found low high all low_is high_is =
    let both = and_parts (nat_lt found.place (2 ^ 24)) (are_below (2 ^ 24) (places key)) all in
    let first = low_is both.1 in
    let put = answer_put found.place (below_answer kind key) (ltb-true found.place (2 ^ 24) both.0) (below_answer_few kind key both.1) in
    let second = ap (λ (w : ℕ). bit_or (found.place * 2 ^ 38 % 2 ^ 64) w) (high_is both.1) ∙ put in
    let e = says low (bit_or (found.place * 2 ^ 38 % 2 ^ 64) high) kind key found both.1 first second in
    ((ap first_word e ∙ sym first, ap second_word e ∙ sym second), e)
