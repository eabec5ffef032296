use Rattle.ncl_blif.proofs.Terms.{All, All-from_recursion, BadRow, Cover, Cycle, IsCyclic, IsFaultless, List, MixedCover, NamedCover, NamedModel, NoBits, Syntax, TwoDrivers, Undriven, Unsupported, [], ap, arith, codes, cycle, inl, length-take, line, model, no_bits, reads, refl, slice_get, sym, take, true, undriven, width, ℕ, ◌∙◌, ◌∷◌, ◌≡◌}
use Rattle.ncl_blif.proofs.examples.refused_texts.Goals as goal

none_before : (models : List NamedModel) → All IsFaultless (take 0 models)
none_before models k d within = absurd (omega (arith, length-take 0 models))

-- a model with an input a and an output y, and these covers
with_covers : List NamedCover → NamedModel
with_covers covers = record { name = codes "m"; inputs = codes "a" ∷ []; outputs = record { line = 3; signal = codes "y" } ∷ []; covers = covers }

looped : NamedCover
looped = record { line = 4; ins = codes "y" ∷ []; out = codes "y"; on = true; rows = [] }

without_signals : NamedModel
without_signals = record { name = []; inputs = []; outputs = []; covers = [] }

-- a model whose outputs are its inputs has no fault
no_cover : (m : NamedModel) → m.covers ≡ [] → (place : ℕ) → IsCyclic m place → ⊥
no_cover m none place (cover, at, depends) = absurd (let e = ap (λ covers. slice_get covers place) (sym none) ∙ at in cc)

-- the first has one input and two outputs, the second one of each
wide : NamedModel
wide = record {
  name = [];
  inputs = codes "a" ∷ [];
  outputs = record { line = 2; signal = codes "a" } ∷ record { line = 2; signal = codes "a" } ∷ [];
  covers = [];
}

narrow : NamedModel
narrow = record { name = codes "n"; inputs = codes "b" ∷ []; outputs = record { line = 5; signal = codes "b" } ∷ []; covers = [] }

pub returns : goal.returns
unfolding with_covers looped without_signals wide narrow
returns c = record {
  nothing = line (Syntax 0) refl;
  latch = line (Unsupported 4) refl;
  lone_row = line (Syntax 4) refl;
  bad_row = line (BadRow 5) refl;
  mixed = line (MixedCover 6) refl;
  twice = line (TwoDrivers 5) refl;
  undriven = model (Undriven 3) refl (record {
    place = 0;
    broken = with_covers [];
    at = refl;
    breaks = undriven 3 (omega arith, omega arith) refl;
    faultless_before = none_before (with_covers [] ∷ []);
  });
  cycle = let cover : Cover = record { ins = 1 ∷ []; out = 1; on = true; rows = [] } in
      let cyclic : IsCyclic (with_covers (looped ∷ [])) 0 = (looped, refl, reads cover 1 (0, omega arith, refl) (0, omega arith, refl)) in
      model (Cycle 4) refl (record {
        place = 0;
        broken = with_covers (looped ∷ []);
        at = refl;
        breaks = cycle 4 (omega arith, omega arith) refl (record { place = 0; begins = refl; cyclic = cyclic; none_before = λ k lower found. absurd (omega arith) });
        faultless_before = none_before (with_covers (looped ∷ []) ∷ []);
      });
  no_bits = model (NoBits 1) refl (record {
    place = 0;
    broken = without_signals;
    at = refl;
    breaks = no_bits (inl refl);
    faultless_before = none_before (without_signals ∷ []);
  });
  width = width 2 refl (All-from_recursion IsFaultless (wide ∷ narrow ∷ []) (
    record { bits = (omega arith, omega arith); driven = refl; no_cycle = no_cover wide refl },
    (record { bits = (omega arith, omega arith); driven = refl; no_cycle = no_cover narrow refl }, tt),
  )) refl;
}
