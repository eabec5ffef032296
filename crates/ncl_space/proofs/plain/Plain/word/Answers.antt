use Rattle.ncl_space.proofs.Terms.{PlainData, ap, arith, false, get_or_default, is_set, length, nat_lt, slice_index_or, stride_of, subst, sym, table_at, ℕ, ◌*◌, ◌+◌, ◌-◌, ◌<◌, ◌^◌, ◌∙◌, ◌≤◌}
use Rattle.ncl_space.proofs.BitLaws.{is_set-past}
use Rattle.ncl_space.proofs.RowLaws.{index-zero, index-one}
use Rattle.ncl_space.proofs.CountedMarks.{from_nat_lt}
use Rattle.ncl_space.proofs.PlainLaws.{bit_of_place, length-view, place_there}
use Rattle.ncl_space.proofs.plain.Plain.word.Goals as goal

pub index-requires : goal.index-requires
index-requires c =
    let p : PlainData = c.args.self.now in
    let there : c.args.x.place < length p.tables + 2 = from_nat_lt c.args.x.place (length p.tables + 2) c.requires.live in
    let long = length-view c.self.inside.width c.self.inside.count c.self.inside.words.items p c.self.view_is in
    let within : c.args.j < stride_of c.self.inside.width = subst (λ (q : PlainData). c.args.j < stride_of q.width) (sym c.self.view_is) c.requires.within in
    let there = place_there c.self.inside.width c.self.inside.stride c.self.inside.count c.self.inside.words.items c.args.x.place c.args.j c.self.invariant (omega arith) (omega arith) within in
    omega (arith, c.self.inside.words.ok)

pub returns-in-0 : goal.returns-in-0
returns-in-0 c = λ k below.
    is_set-past 0 0 k (omega arith) (omega arith)
    ∙ sym (ap (λ (place : ℕ). slice_index_or (table_at c.args.self.now.width c.args.self.now.tables place) (64 * c.args.j + k) false) c.in-0.is ∙ index-zero c.args.self.now.width (64 * c.args.j + k))

pub returns-in-1 : goal.returns-in-1
returns-in-1 c = λ k below.
    c.all_ones.ensures k below
    ∙ ap (λ (q : PlainData). nat_lt k (2 ^ q.width)) c.self.view_is
    ∙ index-one c.args.self.now.width c.args.j k c.requires.within below
    ∙ sym (ap (λ (place : ℕ). slice_index_or (table_at c.args.self.now.width c.args.self.now.tables place) (64 * c.args.j + k) false) c.in-1.is)

pub returns-in_default : goal.returns-in_default
returns-in_default c = λ k below.
    let p : PlainData = c.args.self.now in
    let there : c.args.x.place < length p.tables + 2 = from_nat_lt c.args.x.place (length p.tables + 2) c.requires.live in
    let long = length-view c.self.inside.width c.self.inside.count c.self.inside.words.items p c.self.view_is in
    let within : c.args.j < stride_of c.self.inside.width = subst (λ (q : PlainData). c.args.j < stride_of q.width) (sym c.self.view_is) c.requires.within in
    let some : 2 ≤ c.args.x.place = omega arith in
    let below_count : c.args.x.place < c.self.inside.count + 2 = omega arith in
    let at = place_there c.self.inside.width c.self.inside.stride c.self.inside.count c.self.inside.words.items c.args.x.place c.args.j c.self.invariant some below_count within in
    ap (λ (w : ℕ). is_set w k) (c.index.ensures ∙ get_or_default c.self.inside.words.items ((c.args.x.place - 2) * c.self.inside.stride + c.args.j) c.index.result.now 0 at)
    ∙ bit_of_place c.self.inside.width c.self.inside.stride c.self.inside.count c.self.inside.words.items c.args.x.place c.args.j k c.self.invariant some below_count within below
    ∙ ap (λ (q : PlainData). slice_index_or (table_at q.width q.tables c.args.x.place) (64 * c.args.j + k) false) c.self.view_is
