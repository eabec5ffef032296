-- Nodes that wait for all that they read.
use Rattle.ncl_rails.proofs.Terms.{IsComplete, IsCovered, IsHeld, Network, SignalSource, SourceReaches, [], inl, inr, map, output, reader, signal_in, slice_get-from_Contains, value_at, waits_at-all, waits_of}

held : (network : Network) (source : SignalSource) → SourceReaches network source → IsHeld network (waits_of []) source
held network _ (output source signal m is) = inl (record { signal = signal; given = m; is = is })
held network _ (reader source by node signal at reads is reach) =
    let (place, stands) = slice_get-from_Contains node.ins signal reads in
    inr (λ word. record {
      by = by;
      node = node;
      stands = at;
      awaits = record { place = place; signal = signal; reads = stands; is = is; passes = waits_at-all (map (signal_in (value_at network word)) node.ins) place };
    })

-- a network all of whose nodes wait for all that they read is covered
pub covered_all : (network : Network) → IsComplete network → IsCovered network (waits_of [])
covered_all network complete = record {
  inputs = λ i lt. held network _ (complete.inputs_reach i lt);
  nodes = λ k lt. held network _ (complete.varying.nodes_reach k lt);
}
