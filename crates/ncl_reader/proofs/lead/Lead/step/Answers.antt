use Rattle.ncl_reader.proofs.LeadSteps.{◌<◌, refl, sym, ◌∙◌, subst, arith, Some, false≢true, LBracket, RBracket, Colon, Mark, meant, at_bracket, at_wire, by_sign, close, colon, first, in_header, in_item, large_at, last, last_long, left_at, inl, inr}
use Rattle.ncl_reader.specs.declared.place.LeadPlace.TheVariants as lead
use Rattle.ncl_reader.proofs.lead.Lead.step.Goals as goal

pub returns-then-is_word-clause-header : goal.returns-then-is_word-clause-header
returns-then-is_word-clause-header c = λ title groups part names at keeps. at_wire (in_header title groups) c.args.self.now part (meant c.args.lexeme.now) (at ∙ c.in-Direction.is) keeps (c.is_word.ensures.0 c.if-is_word.true)

pub returns-then-is_word-clause-item : goal.returns-then-is_word-clause-item
returns-then-is_word-clause-item c = λ head items part names at keeps. at_wire (in_item head items) c.args.self.now part (meant c.args.lexeme.now) (at ∙ c.in-Direction.is) keeps (c.is_word.ensures.0 c.if-is_word.true)

pub returns-else-is_word-clause-header : goal.returns-else-is_word-clause-header
returns-else-is_word-clause-header c = λ title groups part names at keeps. by_sign (in_header title groups) c.args.self.now part (meant c.args.lexeme.now) (Mark LBracket) lead.First c.behind.result c.behind.ensures (λ is. at_bracket (in_header title groups) c.args.self.now part (meant c.args.lexeme.now) (inl (at ∙ c.in-Direction.is)) keeps is) (λ other. left_at (in_header title groups) c.args.self.now part (meant c.args.lexeme.now) lead.Direction (at ∙ c.in-Direction.is) keeps ((λ is. false≢true (sym c.if-is_word.false ∙ c.is_word.ensures.1 is)), other, names))

pub returns-else-is_word-clause-item : goal.returns-else-is_word-clause-item
returns-else-is_word-clause-item c = λ head items part names at keeps. by_sign (in_item head items) c.args.self.now part (meant c.args.lexeme.now) (Mark LBracket) lead.First c.behind.result c.behind.ensures (λ is. at_bracket (in_item head items) c.args.self.now part (meant c.args.lexeme.now) (inl (at ∙ c.in-Direction.is)) keeps is) (λ other. left_at (in_item head items) c.args.self.now part (meant c.args.lexeme.now) lead.Direction (at ∙ c.in-Direction.is) keeps ((λ is. false≢true (sym c.if-is_word.false ∙ c.is_word.ensures.1 is)), other, names))

pub returns-in-Wire-clause-header : goal.returns-in-Wire-clause-header
returns-in-Wire-clause-header c = λ title groups part names at keeps. by_sign (in_header title groups) c.args.self.now part (meant c.args.lexeme.now) (Mark LBracket) lead.First c.behind-in-Wire.result c.behind-in-Wire.ensures (λ is. at_bracket (in_header title groups) c.args.self.now part (meant c.args.lexeme.now) (inr (at ∙ c.in-Wire.is)) keeps is) (λ other. left_at (in_header title groups) c.args.self.now part (meant c.args.lexeme.now) lead.Wire (at ∙ c.in-Wire.is) keeps (other, names))

pub returns-in-Wire-clause-item : goal.returns-in-Wire-clause-item
returns-in-Wire-clause-item c = λ head items part names at keeps. by_sign (in_item head items) c.args.self.now part (meant c.args.lexeme.now) (Mark LBracket) lead.First c.behind-in-Wire.result c.behind-in-Wire.ensures (λ is. at_bracket (in_item head items) c.args.self.now part (meant c.args.lexeme.now) (inr (at ∙ c.in-Wire.is)) keeps is) (λ other. left_at (in_item head items) c.args.self.now part (meant c.args.lexeme.now) lead.Wire (at ∙ c.in-Wire.is) keeps (other, names))

pub returns-in-Colon-clause-header : goal.returns-in-Colon-clause-header
returns-in-Colon-clause-header c = λ title groups part names at keeps. by_sign (in_header title groups) c.args.self.now part (meant c.args.lexeme.now) (Mark Colon) lead.Last c.behind-in-Colon.result c.behind-in-Colon.ensures (λ is. colon (in_header title groups) c.args.self.now part (meant c.args.lexeme.now) (at ∙ c.in-Colon.is) keeps is) (λ other. left_at (in_header title groups) c.args.self.now part (meant c.args.lexeme.now) lead.Colon (at ∙ c.in-Colon.is) keeps other)

pub returns-in-Colon-clause-item : goal.returns-in-Colon-clause-item
returns-in-Colon-clause-item c = λ head items part names at keeps. by_sign (in_item head items) c.args.self.now part (meant c.args.lexeme.now) (Mark Colon) lead.Last c.behind-in-Colon.result c.behind-in-Colon.ensures (λ is. colon (in_item head items) c.args.self.now part (meant c.args.lexeme.now) (at ∙ c.in-Colon.is) keeps is) (λ other. left_at (in_item head items) c.args.self.now part (meant c.args.lexeme.now) lead.Colon (at ∙ c.in-Colon.is) keeps other)

pub returns-in-Close-clause-header : goal.returns-in-Close-clause-header
returns-in-Close-clause-header c = λ title groups part names at keeps. by_sign (in_header title groups) c.args.self.now part (meant c.args.lexeme.now) (Mark RBracket) lead.Range c.behind-in-Close.result c.behind-in-Close.ensures (λ is. close (in_header title groups) c.args.self.now part (meant c.args.lexeme.now) (at ∙ c.in-Close.is) keeps is) (λ other. left_at (in_header title groups) c.args.self.now part (meant c.args.lexeme.now) lead.Close (at ∙ c.in-Close.is) keeps other)

pub returns-in-Close-clause-item : goal.returns-in-Close-clause-item
returns-in-Close-clause-item c = λ head items part names at keeps. by_sign (in_item head items) c.args.self.now part (meant c.args.lexeme.now) (Mark RBracket) lead.Range c.behind-in-Close.result c.behind-in-Close.ensures (λ is. close (in_item head items) c.args.self.now part (meant c.args.lexeme.now) (at ∙ c.in-Close.is) keeps is) (λ other. left_at (in_item head items) c.args.self.now part (meant c.args.lexeme.now) lead.Close (at ∙ c.in-Close.is) keeps other)

pub returns-in-Range-clause-header : goal.returns-in-Range-clause-header
returns-in-Range-clause-header c = λ title groups part names at keeps. left_at (in_header title groups) c.args.self.now part (meant c.args.lexeme.now) lead.Range (at ∙ c.in-Range.is) keeps names

pub returns-in-Range-clause-item : goal.returns-in-Range-clause-item
returns-in-Range-clause-item c = λ head items part names at keeps. left_at (in_item head items) c.args.self.now part (meant c.args.lexeme.now) lead.Range (at ∙ c.in-Range.is) keeps names

pub returns-in_default-clause-header : goal.returns-in_default-clause-header
returns-in_default-clause-header c = λ title groups part names at keeps. large_at (in_header title groups) c.args.self.now part (meant c.args.lexeme.now) lead.First (at ∙ c.in-First.is) (λ none. none) keeps c.in_default.ensures

pub returns-in_default-clause-item : goal.returns-in_default-clause-item
returns-in_default-clause-item c = λ head items part names at keeps. large_at (in_item head items) c.args.self.now part (meant c.args.lexeme.now) lead.First (at ∙ c.in-First.is) (λ none. none) keeps c.in_default.ensures

pub returns-in-Some-clause-header : goal.returns-in-Some-clause-header
returns-in-Some-clause-header c = λ title groups part names at keeps. let (digits, is, value, small) = c.in-Some.ensures in first (in_header title groups) c.args.self.now (record c.args.self.now { first = c.in-Some.first }) part (meant c.args.lexeme.now) digits (at ∙ c.in-First.is) keeps is refl value small

pub returns-in-Some-clause-item : goal.returns-in-Some-clause-item
returns-in-Some-clause-item c = λ head items part names at keeps. let (digits, is, value, small) = c.in-Some.ensures in first (in_item head items) c.args.self.now (record c.args.self.now { first = c.in-Some.first }) part (meant c.args.lexeme.now) digits (at ∙ c.in-First.is) keeps is refl value small

pub returns-in_default-small_number-clause-header : goal.returns-in_default-small_number-clause-header
returns-in_default-small_number-clause-header c = λ title groups part names at keeps. large_at (in_header title groups) c.args.self.now part (meant c.args.lexeme.now) lead.Last (at ∙ c.in-Last.is) (λ none. none) keeps c.in_default-small_number.ensures

pub returns-in_default-small_number-clause-item : goal.returns-in_default-small_number-clause-item
returns-in_default-small_number-clause-item c = λ head items part names at keeps. large_at (in_item head items) c.args.self.now part (meant c.args.lexeme.now) lead.Last (at ∙ c.in-Last.is) (λ none. none) keeps c.in_default-small_number.ensures

pub returns-then-width-gt-MOST_VECTOR_BITS-clause-header : goal.returns-then-width-gt-MOST_VECTOR_BITS-clause-header
returns-then-width-gt-MOST_VECTOR_BITS-clause-header c = λ title groups part names at keeps. let (digits, is, value, small) = c.in-Some-small_number.ensures in last_long (in_header title groups) c.args.self.now part (meant c.args.lexeme.now) digits c.in-Some-small_number.last (at ∙ c.in-Last.is) keeps is value (subst (λ w. 1024 < w) c.width.ensures c.if-width-gt-MOST_VECTOR_BITS.true)

pub returns-then-width-gt-MOST_VECTOR_BITS-clause-item : goal.returns-then-width-gt-MOST_VECTOR_BITS-clause-item
returns-then-width-gt-MOST_VECTOR_BITS-clause-item c = λ head items part names at keeps. let (digits, is, value, small) = c.in-Some-small_number.ensures in last_long (in_item head items) c.args.self.now part (meant c.args.lexeme.now) digits c.in-Some-small_number.last (at ∙ c.in-Last.is) keeps is value (subst (λ w. 1024 < w) c.width.ensures c.if-width-gt-MOST_VECTOR_BITS.true)

pub returns-else-width-gt-MOST_VECTOR_BITS-clause-header : goal.returns-else-width-gt-MOST_VECTOR_BITS-clause-header
returns-else-width-gt-MOST_VECTOR_BITS-clause-header c = λ title groups part names at keeps. let (digits, is, value, small) = c.in-Some-small_number.ensures in last (in_header title groups) c.args.self.now (record c.args.self.now { span = Some (record { first = c.args.self.now.first; last = c.in-Some-small_number.last }) }) part (meant c.args.lexeme.now) digits c.in-Some-small_number.last (at ∙ c.in-Last.is) keeps is refl refl value small (λ long. omega (arith, c.if-width-gt-MOST_VECTOR_BITS.false, subst (λ w. 1024 < w) (sym c.width.ensures) long))

pub returns-else-width-gt-MOST_VECTOR_BITS-clause-item : goal.returns-else-width-gt-MOST_VECTOR_BITS-clause-item
returns-else-width-gt-MOST_VECTOR_BITS-clause-item c = λ head items part names at keeps. let (digits, is, value, small) = c.in-Some-small_number.ensures in last (in_item head items) c.args.self.now (record c.args.self.now { span = Some (record { first = c.args.self.now.first; last = c.in-Some-small_number.last }) }) part (meant c.args.lexeme.now) digits c.in-Some-small_number.last (at ∙ c.in-Last.is) keeps is refl refl value small (λ long. omega (arith, c.if-width-gt-MOST_VECTOR_BITS.false, subst (λ w. 1024 < w) (sym c.width.ensures) long))
