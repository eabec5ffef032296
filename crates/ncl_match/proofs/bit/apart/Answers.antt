use Rattle.ncl_match.proofs.PairLaws.{[], Bool, Err, IsPair, Keeps, List, MakesPair, Pair, SpaceData, Th12, WordFunction, ap, apart_function, at, both_tables, false, fits, function-is, function_at, functions_at, gate_function, handed_on, has-kept, held-along, keeps_along, length, or_gate, same-function, same-tables, subst, too_much-after, too_much_by_front, with_tables, without, ◌++◌, ◌||◌, ◌∙◌, ◌∷◌, ◌≡◌}
use Rattle.ncl_match.proofs.bit.apart.Goals as goal

-- three chunks of tables: where the first, or the first two, are too much, all are
module _ (old : SpaceData) (one two three : List (List Bool)) where
  first-full : fits old one ≡ false → fits old (one ++ two ++ three) ≡ false
  first-full full = too_much_by_front old (one ++ two) three (too_much_by_front old one two full)

  second-full : (a : SpaceData) → Keeps old a → a.held ≡ with_tables old one → fits a two ≡ false → fits old (one ++ two ++ three) ≡ false
  second-full a k held full = too_much_by_front old (one ++ two) three (too_much-after old a one two k held full)

module _ (old a : SpaceData) (f g : Pair) where
  abbrev less_of : SpaceData → WordFunction
  less_of s = without (function_at s f) (function_at s g)

  abbrev more_of : SpaceData → WordFunction
  more_of s = without (function_at s g) (function_at s f)

  abbrev one : List (List Bool)
  one = both_tables old.width (less_of old)

  abbrev two : List (List Bool)
  two = both_tables old.width (more_of old)

  abbrev three : List (List Bool)
  three = both_tables old.width (apart_function (function_at old f) (function_at old g))

  module _ (f_is : IsPair old f) (g_is : IsPair old g) (k : Keeps old a) where
    -- the functions are as they were
    same_f : function_at a f ≡ function_at old f
    same_f = ap at (k.tables f.one f_is.one)

    same_g : function_at a g ≡ function_at old g
    same_g = ap at (k.tables g.one g_is.one)

    more_same : more_of a ≡ more_of old
    more_same = λ i. without (same_g i) (same_f i)

    pub two_same : both_tables a.width (more_of a) ≡ two
    two_same = λ i. both_tables (k.width i) (more_same i)

    module _ (b : SpaceData) (less more : Pair) (l : Keeps a b) (first : MakesPair old a less (less_of old) one) (second : MakesPair a b more (more_of a) (both_tables a.width (more_of a))) where
      abbrev next : WordFunction
      next = gate_function Th12 (functions_at b (less ∷ more ∷ []))

      same : (w : List Bool) → length w ≡ b.width → next w ≡ apart_function (function_at old f) (function_at old g) w
      same w wide =
          let x : function_at b less w ≡ less_of old w = function-is b less (less_of old) (has-kept a b less (less_of old) l first.has).table w wide in
          let y : function_at b more w ≡ more_of old w = function-is b more (more_of a) second.has.table w wide ∙ (λ i. more_same i w) in
          or_gate (function_at b less w) (function_at b more w) ∙ (λ i. x i || y i)

      tables : both_tables b.width next ≡ three
      tables = same-tables b.width next (apart_function (function_at old f) (function_at old g)) same ∙ ap (λ n. both_tables n (apart_function (function_at old f) (function_at old g))) (l.width ∙ k.width)

      both_held : b.held ≡ with_tables old (one ++ two)
      both_held = held-along old a b one two k first.held (second.held ∙ ap (with_tables a) two_same)

      pub third-full : fits b (both_tables b.width next) ≡ false → fits old (one ++ two ++ three) ≡ false
      third-full full = too_much-after old b (one ++ two) three (keeps_along old a b k l) both_held (subst (λ ts. fits b ts ≡ false) tables full)

      pub made : (new : SpaceData) (p : Pair) → Keeps b new → MakesPair b new p next (both_tables b.width next) → MakesPair old new p (apart_function (function_at old f) (function_at old g)) (one ++ two ++ three)
      made new p m third = record {
        has = same-function new p next (apart_function (function_at old f) (function_at old g)) (λ w wide. same w (wide ∙ m.width)) third.has;
        held = held-along old b new (one ++ two) three (keeps_along old a b k l) both_held (third.held ∙ ap (with_tables b) tables);
      }

pub returns-in_err-less-clause-full : goal.returns-in_err-less-clause-full
returns-in_err-less-clause-full g c = λ e.
    let old : SpaceData = g.P.Space.meaning c.args.space.now in
    first-full old (one old old c.args.f c.args.g) (two old old c.args.f c.args.g) (three old old c.args.f c.args.g)
    (c.in_err-less.ensures.full (ap Err (handed_on c.from_residual.result c.in_err-less.field-0.0 c.from_residual.ensures.1 e)))

pub returns-in_err-more-clause-full : goal.returns-in_err-more-clause-full
returns-in_err-more-clause-full g c = λ e.
    let old : SpaceData = g.P.Space.meaning c.args.space.now in
    let a : SpaceData = g.P.Space.meaning c.without_pair.new.space in
    second-full old (one old old c.args.f c.args.g) (two old old c.args.f c.args.g) (three old old c.args.f c.args.g) a c.in_ok-less.ensures.kept c.in_ok-less.ensures.made.held
    (subst (λ ts. fits a ts ≡ false) (two_same old a c.args.f c.args.g c.requires.f c.requires.g c.in_ok-less.ensures.kept)
    (c.in_err-more.ensures.full (ap Err (handed_on c.from_residual-in_err-more.result c.in_err-more.field-0.0 c.from_residual-in_err-more.ensures.1 e))))

pub returns-in_err-either-clause-full : goal.returns-in_err-either-clause-full
returns-in_err-either-clause-full g c = λ e.
    let old : SpaceData = g.P.Space.meaning c.args.space.now in
    let a : SpaceData = g.P.Space.meaning c.without_pair.new.space in
    let b : SpaceData = g.P.Space.meaning c.without_pair-2.new.space in
    third-full old a c.args.f c.args.g c.requires.f c.requires.g c.in_ok-less.ensures.kept b c.in_ok-less.less c.in_ok-more.more c.in_ok-more.ensures.kept c.in_ok-less.ensures.made c.in_ok-more.ensures.made
    (c.in_err-either.ensures.full (ap Err (handed_on c.from_residual-in_err-either.result c.in_err-either.field-0.0 c.from_residual-in_err-either.ensures.1 e)))

pub returns-clause-made : goal.returns-clause-made
returns-clause-made g c =
    let old : SpaceData = g.P.Space.meaning c.args.space.now in
    let a : SpaceData = g.P.Space.meaning c.without_pair.new.space in
    let b : SpaceData = g.P.Space.meaning c.without_pair-2.new.space in
    made old a c.args.f c.args.g c.requires.f c.requires.g c.in_ok-less.ensures.kept b c.in_ok-less.less c.in_ok-more.more c.in_ok-more.ensures.kept c.in_ok-less.ensures.made c.in_ok-more.ensures.made
    (g.P.Space.meaning c.gate_pair.new.space) c.in_ok-either.either c.in_ok-either.ensures.kept c.in_ok-either.ensures.made
