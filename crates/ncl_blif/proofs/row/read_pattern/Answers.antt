use Rattle.ncl_blif.proofs.Terms.{ap, drop, drop_all, drop_more, is_literal, list_all, lit_of, map, refl, take_all, ◌&&◌, ◌+◌, ◌∙◌}
use Rattle.ncl_base.proofs.Growing.{map_push}
use Rattle.ncl_blif.proofs.row.read_pattern.Goals as goal

pub loop-byte-init : goal.loop-byte-init
loop-byte-init c = record { lits = c.in_ok-lits.ensures.items; literal = refl }

pub returns-in_default : goal.returns-in_default
returns-in_default c =
    let pattern = c.args.pattern.now in
    let place = c.loop-byte.byte-index in
    c.loop-byte.invariant.literal ∙ ap (list_all is_literal) (drop_more pattern place 0 c.loop-byte-test.true) ∙ ap (λ b. b && list_all is_literal (drop (place + 1) pattern)) c.in_default.ensures

pub loop-byte-preserved : goal.loop-byte-preserved
loop-byte-preserved c =
    let pattern = c.args.pattern.now in
    let place = c.loop-byte.byte-index in
    record {
      lits = map_push lit_of pattern place 0 c.loop-byte.lits.items c.push.new.self.items c.in-Some.lit c.loop-byte-test.true c.loop-byte.invariant.lits c.in-Some.ensures.1 c.in_ok-push.ensures.items;
      literal = c.loop-byte.invariant.literal ∙ ap (list_all is_literal) (drop_more pattern place 0 c.loop-byte-test.true) ∙ ap (λ b. b && list_all is_literal (drop (place + 1) pattern)) c.in-Some.ensures.0;
    }

pub returns : goal.returns
returns c =
    let pattern = c.args.pattern.now in
    let place = c.loop-byte.byte-index in (
      c.loop-byte.invariant.literal ∙ ap (list_all is_literal) (drop_all place pattern c.loop-byte-test.false),
      c.from_vec.ensures ∙ c.loop-byte.invariant.lits ∙ ap (map lit_of) (take_all place pattern c.loop-byte-test.false),
    )
