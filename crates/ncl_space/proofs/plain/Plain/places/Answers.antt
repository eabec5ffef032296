use Rattle.ncl_space.proofs.Terms.{Bool, List, PlainData, ap, false, is_set-and, is_value, length, nat_lt, not, refl, slice_index_or, sym, table_at, true, ℕ, ◌&&◌, ◌*◌, ◌+◌, ◌^◌, ◌∙◌, ◌≡◌}
use Rattle.ncl_space.proofs.BitLaws.{is_set-not}
use Rattle.ncl_space.proofs.RowLaws.{ones_at}
use Rattle.ncl_space.proofs.CountedMarks.{from_nat_lt}
use Rattle.ncl_space.proofs.PlainLaws.{IsPlain-view, length-table_at}
use Rattle.ncl_space.proofs.plain.Plain.places.Goals as goal

and_turned : (a b : Bool) → (a && b) ≡ (b && a)
and_turned true true = refl
and_turned true false = refl
and_turned false true = refl
and_turned false false = refl

pub returns-else-value : goal.returns-else-value
returns-else-value c = λ k below.
    let p : PlainData = c.args.self.now in
    let t : List Bool = table_at p.width p.tables c.args.x.place in
    let i : ℕ = 64 * c.args.j + k in
    let long = length-table_at p (IsPlain-view _ _ _ _ p c.self.invariant c.self.view_is) c.args.x.place (from_nat_lt c.args.x.place (length p.tables + 2) c.requires.live) in
    let ones = c.all_ones.ensures k below ∙ ap (λ (q : PlainData). nat_lt k (2 ^ q.width)) c.self.view_is ∙ ones_at p.width c.args.j k c.requires.within below ∙ ap (λ (n : ℕ). nat_lt i n) (sym long) in
    let values = is_set-not c.word-word.result k c.word-word.type_inv below ∙ ap not (c.word-word.ensures k below) ∙ ap (λ (v : Bool). is_value v (slice_index_or t i false)) (sym c.if-value.false) in
    is_set-and _ c.all_ones.result k ∙ (λ a. values a && ones a) ∙ and_turned (is_value c.args.value (slice_index_or t i false)) (nat_lt i (length t))
