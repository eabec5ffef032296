-- How many words are due.
use Rattle.ncl_sim.proofs.Terms.{Bool, List, MOST_BANKS, MOST_WORDS, NetlistData, PipelineData, Shape, arith, data_banks-le, due, function_of, held_words, held_words-length, length, length-append, length-map, map, mul-le-mul_left, words_due, ℕ, ◌*◌, ◌+◌, ◌<◌, ◌^◌, ◌∙◌, ◌≡◌, ◌≤◌}

-- as many as the list of those that are due has
pub due-length : (p : PipelineData) (offered : List (List Bool)) → length (due p offered) ≡ words_due p offered
due-length p offered =
    length-append (held_words p p.banks) (map (function_of p) offered)
    ∙ (λ i. held_words-length p p.banks i + length-map offered (function_of p) i)

-- at most one for each bank, and those offered
pub few_due : (n : NetlistData) (p : PipelineData) (offered : List (List Bool)) → Shape n p → words_due p offered ≤ MOST_BANKS + length offered
few_due n p offered shape = omega (arith, data_banks-le p.banks, shape.few_banks)

-- so a run has few steps
pub few_steps : (due nets : ℕ) → due ≤ MOST_BANKS + MOST_WORDS → nets < 2 ^ 32 → 2 * due * nets ≤ 2 ^ 43
few_steps due nets few small =
    let first : 2 * due * nets ≤ 2 * due * 2 ^ 32 = mul-le-mul_left (2 * due) (omega (arith, small)) in
    omega (arith, first, few)
