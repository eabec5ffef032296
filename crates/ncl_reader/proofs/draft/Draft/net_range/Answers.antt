use Rattle.ncl_reader.proofs.DraftSteps.{◌≡◌, ◌≢◌, ℕ, List, Option, Some, None, MatchOption, option_map, same_Some, Span, Known, Lexeme, Range, span_of, IsDeclared, range_at, KeepsNames, IsFound}
use Rattle.ncl_reader.proofs.draft.Draft.net_range.Goals as goal

-- what is kept of a name tells whether it is a vector
told : (known : Known) (xs : List Lexeme) (net : List ℕ) → KeepsNames known xs → (found : Option Span) → MatchOption found ((span : Span) → range_at known.ranges net ≢ Some (Some span)) (λ span. range_at known.ranges net ≡ Some (Some span)) → IsFound xs net found
told known xs net kept None none = λ range vector. none (span_of range) (kept.ranges.declared net (Some range) vector)
told known xs net kept (Some span) at = by (kept.ranges.only net (Some span) at)
  where
    by : (range : Option Range) × IsDeclared xs net range × (option_map span_of range ≡ Some span) → IsFound xs net (Some span)
    by (None, declared, e) = absurd cc
    by (Some range, declared, e) = (range, declared, same_Some (span_of range) span e)

pub returns : goal.returns
returns c = λ xs kept. told c.args.self.now.known xs c.args.self.now.instance.net.now kept c.vector.result c.vector.ensures
