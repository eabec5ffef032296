-- Nodes that hold a source together, by the bits of what they read.
use Rattle.ncl_rails.proofs.Terms.{Bool, HasBits, Input, IsAwaited, List, Network, Node, Signal, SignalSource, Some, Waits, WaitsFor, all_inputs, ap, arith, at_each_word, bit_at-suc, bit_at_lowest, false, get_or, get_or-map, is_set, length, length-map, map, nat_eq, refl, signal_in, slice_get, slice_get-get_or, subst, suc, sym, true, waits_at, waits_of, word_of, zero, ℕ, ◌/◌, ◌<◌, ◌^◌, ◌∙◌, ◌≡◌}

pub WaitsFor-at : (waits : ℕ → Bool) (ins : List Signal) (source : SignalSource) (k : ℕ) (d : Signal) → k < length ins → (get_or ins k d).from ≡ source → waits k ≡ true → WaitsFor waits ins source
WaitsFor-at waits ins source k d lt is passes = record {
  place = k;
  signal = get_or ins k d;
  reads = slice_get-get_or ins k d lt;
  is = is;
  passes = passes;
}

-- the bits of the word of a number are its bits
word_bit : (n number k : ℕ) → k < n → get_or (word_of n number) k false ≡ is_set number k
word_bit zero number k lt = absurd (omega (arith, lt))
word_bit (suc n) number zero lt = ap (λ (b : ℕ). nat_eq b 1) (sym (bit_at_lowest number))
word_bit (suc n) number (suc k) lt = word_bit n (number / 2) k (omega (arith, lt)) ∙ ap (λ (b : ℕ). nat_eq b 1) (sym (bit_at-suc number k))

-- the bits of sources are those of a number
pub some_number : (value : SignalSource → Bool) (sources : List SignalSource) → (w : ℕ) × (w < 2 ^ length sources) × HasBits value sources w
some_number value sources =
    at_each_word (length sources) (λ word. word ≡ map value sources → (w : ℕ) × (w < 2 ^ length sources) × HasBits value sources w)
    (λ w below is. (w, below, record { each = λ k lt. sym (word_bit (length sources) w k lt) ∙ ap (λ (word : List Bool). get_or word k false) is ∙ get_or-map value sources k (Input 0) false lt }))
    (map value sources) (length-map sources value) refl

-- a node at a place that waits for a source
pub IsAwaited-by : (network : Network) (waits : List Waits) (value : SignalSource → Bool) (source : SignalSource) (items : List Node) (by : ℕ) (node : Node) (w : Waits) (ins : List Signal) → items ≡ network.nodes → node ≡ get_or items by node → by < length items → w ≡ get_or waits by all_inputs → ins ≡ node.ins → WaitsFor (waits_at w (map (signal_in value) ins)) ins source → IsAwaited network (waits_of waits) value source
IsAwaited-by network waits value source items by node w ins same at lt told reads waits_so = record {
  by = by;
  node = node;
  stands = subst (λ nodes. slice_get nodes by ≡ Some node) same (slice_get-get_or items by node lt ∙ ap Some (sym at));
  awaits =
      subst (λ (v : Waits). WaitsFor (waits_at v (map (signal_in value) node.ins)) node.ins source) told
      (subst (λ xs. WaitsFor (waits_at w (map (signal_in value) xs)) xs source) reads waits_so);
}
