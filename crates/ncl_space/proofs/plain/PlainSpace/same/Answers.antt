use Rattle.ncl_space.proofs.Terms.{Bool, List, PlainData, ap, arith, cases_lt, ext_get_or, false, inl, inr, is_set, length, refl, slice_index_or, stride_of, sym, table_at, ℕ, ◌*◌, ◌+◌, ◌-◌, ◌/◌, ◌<◌, ◌∙◌, ◌≡◌}
use Rattle.ncl_space.proofs.BitLaws.{same_from_is_set}
use Rattle.ncl_space.proofs.RowLaws.{values_below}
use Rattle.ncl_space.proofs.CountedMarks.{from_nat_lt}
use Rattle.ncl_space.proofs.PlainLaws.{IsPlain-view, length-table_at}
use Rattle.ncl_space.proofs.plain.PlainSpace.same.Goals as goal

pub returns-then-word : goal.returns-then-word
returns-then-word c = (
  λ never. absurd cc,
  λ same. absurd (c.if-word.true (same_from_is_set 64 c.word.result c.word-in-loop-j.result c.word.type_inv c.word-in-loop-j.type_inv (λ k below.
      c.word.ensures k below ∙ ap (λ (t : List Bool). slice_index_or t (64 * c.loop-j.j + k) false) same ∙ sym (c.word-in-loop-j.ensures k below)))),
)

pub loop-j-preserved : goal.loop-j-preserved
loop-j-preserved c = λ i below.
    let j : ℕ = c.loop-j.j in
    elim (cases_lt i (64 * j)) [
      | inl old ↦ c.loop-j.invariant i old
      | inr new ↦
          let p : PlainData = c.args.self.now in
          let at : 64 * j + (i - 64 * j) ≡ i = omega arith in
          let in_word : i - 64 * j < 64 = omega arith in
          ap (λ (n : ℕ). slice_index_or (table_at p.width p.tables c.args.x.place) n false) (sym at)
          ∙ sym (c.word.ensures (i - 64 * j) in_word)
          ∙ ap (λ (w : ℕ). is_set w (i - 64 * j)) c.if-word.false
          ∙ c.word-in-loop-j.ensures (i - 64 * j) in_word
          ∙ ap (λ (n : ℕ). slice_index_or (table_at p.width p.tables c.args.y.place) n false) at
    ]

pub returns : goal.returns
returns c =
    let p : PlainData = c.args.self.now in
    let x : List Bool = table_at p.width p.tables c.args.x.place in
    let y : List Bool = table_at p.width p.tables c.args.y.place in
    let is = IsPlain-view _ _ _ _ p c.self.invariant c.self.view_is in
    let x_long = length-table_at p is c.args.x.place (from_nat_lt c.args.x.place (length p.tables + 2) c.requires.x) in
    let y_long = length-table_at p is c.args.y.place (from_nat_lt c.args.y.place (length p.tables + 2) c.requires.y) in
    let stride_is : c.self.inside.stride ≡ stride_of p.width = c.self.invariant.stride_is ∙ ap (λ (q : PlainData). stride_of q.width) c.self.view_is in
    (λ _. ext_get_or false x y (x_long ∙ sym y_long) (λ i lt. let within : i / 64 < stride_of p.width = values_below p.width i (omega arith) in c.loop-j.invariant i (omega arith)), λ _. refl)
