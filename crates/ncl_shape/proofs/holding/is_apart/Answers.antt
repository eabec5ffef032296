use Rattle.ncl_shape.proofs.Terms.{ap, arith, bank_of_mark, both_ways, false, false_from_ne_true, get_or, length, mark_of_bank, not, refl, sym, true, ◌<◌, ◌∙◌, ◌≡◌}
use Rattle.ncl_shape.proofs.Followers.{none_follows, one_follows, only_follows}
use Rattle.ncl_shape.proofs.BankNets.{follower_within}
use Rattle.ncl_shape.proofs.holding.is_apart.Goals as goal

pub returns-in_default : goal.returns-in_default
returns-in_default c = (
  (λ holds next follows from to. none_follows c.args.origins.now.netlist c.args.followers.now c.requires.followers c.args.bank.0 c.requires.inside c.in_default.is next follows),
  λ all. refl,
)

pub returns : goal.returns
returns c =
    let n = c.args.origins.now.netlist in
    let flags = c.args.origins.now.data_banks in
    let are = c.is_data_bank.ensures.origins.data_banks in
    let is = c.is_data_bank.ensures.origins.drivers.netlist in
    let follows = one_follows n c.args.followers.now c.requires.followers c.args.bank.0 c.requires.inside c.in-Some.next c.in-Some.is in
    let within : c.in-Some.next.0 < length n.nets = follower_within n is c.args.bank.0 c.in-Some.next.0 follows in (
      (λ holds next goes from to.
          let same : next ≡ c.in-Some.next.0 = only_follows n c.args.followers.now c.requires.followers c.args.bank.0 c.requires.inside c.in-Some.next c.in-Some.is next goes in
          let marked : c.is_data_bank-2.result ≡ true
          = c.is_data_bank-2.ensures.data ∙ ap (λ x. get_or flags x false) (sym same) ∙ mark_of_bank n flags are next (follower_within n is c.args.bank.0 next goes) to in
          both_ways true (sym holds ∙ ap not marked) refl),
      λ all.
          ap not (false_from_ne_true c.is_data_bank-2.result (λ marked.
          all c.in-Some.next.0 follows
          (bank_of_mark n flags are c.args.bank.0 c.requires.inside (sym c.is_data_bank.ensures.data ∙ c.if-not-is_data_bank.false))
          (bank_of_mark n flags are c.in-Some.next.0 within (sym c.is_data_bank-2.ensures.data ∙ marked)))),
    )

pub bounds-followers-bank : goal.bounds-followers-bank
bounds-followers-bank c = omega (arith, c.requires.inside, c.requires.followers.sized)

pub is_data_bank-requires-2 : goal.is_data_bank-requires-2
is_data_bank-requires-2 c =
    follower_within c.args.origins.now.netlist c.is_data_bank.ensures.origins.drivers.netlist c.args.bank.0 c.in-Some.next.0
    (one_follows c.args.origins.now.netlist c.args.followers.now c.requires.followers c.args.bank.0 c.requires.inside c.in-Some.next c.in-Some.is)

pub returns-then-not-is_data_bank : goal.returns-then-not-is_data_bank
returns-then-not-is_data_bank c =
    (λ holds next goes from to. both_ways c.is_data_bank.result c.if-not-is_data_bank.true (c.is_data_bank.ensures.data ∙ mark_of_bank c.args.origins.now.netlist c.args.origins.now.data_banks c.is_data_bank.ensures.origins.data_banks c.args.bank.0 c.requires.inside from), λ all. refl)
