-- Templates among other gates.
use Rattle.ncl_template.proofs.Terms.{AddsAmong, AddsTemplate, Bool, Contains, Contains-from_Member, IsCase, IsNull, IsTemplate, IsTemplateAmong, List, Member-append_right, Member-from_Contains, Member-get_or, Nets, Obeys, Rails, StageCell, get_or, length, no_pair, subst, sym, true, ℕ, ◌++◌, ◌<◌, ◌≡◌}

module _ (cells part : List StageCell) (within : (c : StageCell) → Contains part c → Contains cells c) where
  -- values that obey some cells obey a part of them
  pub obeys_part : (base : Nets) → Obeys base cells → Obeys base part
  obeys_part base obeys = record { each = λ c m. obeys.each c (within c m) }

  pub case_part : (base v : Nets) (ins : List Rails) (word : List Bool) → IsCase base v ins cells word → IsCase base v ins part word
  case_part base v ins word case = record {
    obeys = obeys_part base case.obeys;
    shown = case.shown;
    below = case.below;
    supported = record { each = λ c m. case.supported.each c (within c m) };
  }

  -- what a template waits for among some cells, it waits for among more
  pub among_more : (f : List Bool → Bool) (ins : List Rails) (waits : List Bool → ℕ → Bool) (gates : List StageCell) (out : Rails) → IsTemplateAmong part f ins waits gates out → IsTemplateAmong cells f ins waits gates out
  among_more f ins waits gates out template = record {
    value = λ base word obeys shown. template.value base word (obeys_part base obeys) shown;
    needs = λ base v word case k lt waits null. template.needs base v word (case_part base v ins word case) k lt waits null;
    observed = λ base v word case c m high low. template.observed base v word (case_part base v ins word case) c m high low;
  }

  -- and what it shows alone, where it is told what it waits for among them
  pub among_others : (f : List Bool → Bool) (ins some : List Rails) (waits : List Bool → ℕ → Bool) (out : Rails) → IsTemplate f ins some part out → ((base v : Nets) (word : List Bool) → IsCase base v ins cells word → (k : ℕ) → k < length ins → waits word k ≡ true → IsNull v (get_or ins k no_pair) → IsNull v out) → IsTemplateAmong cells f ins waits part out
  among_others f ins some waits out template needs = record {
    value = λ base word obeys shown. template.value base word (obeys_part base obeys) shown;
    needs = needs;
    observed = λ base v word case c m high low. template.observed base v word (case_part base v ins word case) c m high low;
  }

pub made_within : (before made : List StageCell) (c : StageCell) → Contains made c → Contains (before ++ made) c
made_within before made c m = Contains-from_Member c (Member-append_right before c (Member-from_Contains made c m))

-- a template that is added is one among all cells
module _ (f : List Bool → Bool) (ins some : List Rails) (waits : List Bool → ℕ → Bool) (most : ℕ) (before after : List StageCell) (out : Rails) (adds : AddsTemplate f ins some most before after out) where
  pub made_in : (c : StageCell) → Contains adds.made c → Contains after c
  made_in c m = subst (λ cells. Contains cells c) (sym adds.added) (made_within before adds.made c m)

  pub AddsAmong-from : ((base v : Nets) (word : List Bool) → IsCase base v ins after word → (k : ℕ) → k < length ins → waits word k ≡ true → IsNull v (get_or ins k no_pair) → IsNull v out) → AddsAmong f ins waits most before after out
  AddsAmong-from needs = record {
    made = adds.made;
    added = adds.added;
    template = among_others after adds.made made_in f ins some waits out adds.template needs;
    formed = adds.formed;
    few = adds.few;
  }

-- one that waits for all waits for some
pub AddsAmong-all : (f : List Bool → Bool) (ins : List Rails) (waits : List Bool → ℕ → Bool) (most : ℕ) (before after : List StageCell) (out : Rails) → AddsTemplate f ins ins most before after out → AddsAmong f ins waits most before after out
AddsAmong-all f ins waits most before after out adds =
    AddsAmong-from f ins ins waits most before after out adds
    (λ base v word case k lt passes null.
    adds.template.needs base v word (case_part after adds.made (made_in f ins ins waits most before after out adds) base v ins word case) (get_or ins k no_pair) (Contains-from_Member (get_or ins k no_pair) (Member-get_or ins k no_pair lt)) null)
