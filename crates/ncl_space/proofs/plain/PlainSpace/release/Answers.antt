use Rattle.ncl_space.proofs.Terms.{AreTables, List, Mark, PlainData, Releases, ap, arith, length, mul_comm, plain_space, stride_of, subst, sym, tables_in, take, ℕ, ◌*◌, ◌∙◌, ◌≡◌, ◌≤◌}
use Rattle.ncl_space.proofs.RowLaws.{AreTables-take}
use Rattle.ncl_space.proofs.CountedMarks.{from_nat_le}
use Rattle.ncl_space.proofs.PlainLaws.{IsPlain-view, Releases-plain, length-view, released-view}
use Rattle.ncl_space.proofs.plain.PlainSpace.release.Goals as goal

pub invariant_of-self : goal.invariant_of-self
invariant_of-self c =
    let n : ℕ = c.self.inside.width in
    let long = length-view n c.self.inside.count c.self.inside.words.items c.args.self.now c.self.view_is in
    let stands : c.args.mark.count ≤ length c.args.self.now.tables = from_nat_le c.args.mark.count (length c.args.self.now.tables) c.requires in
    let turned : c.args.mark.count * c.self.inside.stride ≡ stride_of n * c.args.mark.count = ap (λ (k : ℕ). c.args.mark.count * k) c.self.invariant.stride_is ∙ mul_comm c.args.mark.count (stride_of n) in
    subst (λ (words : List ℕ). AreTables n c.self.inside.stride c.args.mark.count words) (sym (c.truncate.ensures.items ∙ ap (λ (k : ℕ). take k c.self.inside.words.items) turned))
    (AreTables-take n c.self.inside.stride c.self.inside.count c.args.mark.count c.self.inside.words.items c.self.invariant (omega arith))

-- what the space is then
module _ (n stride count : ℕ) (words : List ℕ) (p : PlainData) (are : AreTables n stride count words) (seen : (let inside : PlainData = record { width = n; tables = tables_in n count words } in inside ≡ p)) (m : Mark) (new : List ℕ) (first : new ≡ take (m.count * stride) words) where
  first_tables : m.count ≤ length p.tables → let now : PlainData = record { width = n; tables = tables_in n m.count new } in let then : PlainData = record { width = p.width; tables = take m.count p.tables } in now ≡ then
  first_tables stands =
      let long = length-view n count words p seen in
      let turned : m.count * stride ≡ stride_of n * m.count = ap (λ (k : ℕ). m.count * k) are.stride_is ∙ mul_comm m.count (stride_of n) in
      (λ t. record { width = n; tables = tables_in n m.count ((first ∙ ap (λ (k : ℕ). take k words) turned) t) })
      ∙ released-view n stride count m.count words p (omega arith) seen

pub returns : goal.returns
returns c =
    let p : PlainData = c.args.self.now in
    let stands : c.args.mark.count ≤ length p.tables = from_nat_le c.args.mark.count (length p.tables) c.requires in
    subst (λ (q : PlainData). Releases (plain_space p) (plain_space q) c.args.mark)
    (sym (first_tables c.self.inside.width c.self.inside.stride c.self.inside.count c.self.inside.words.items p c.self.invariant c.self.view_is c.args.mark c.truncate.new.self.items c.truncate.ensures.items stands))
    (Releases-plain p c.args.mark (IsPlain-view _ _ _ _ p c.self.invariant c.self.view_is) stands)
