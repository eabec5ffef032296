-- The text of a netlist reads as the parts that say it.
use Rattle.ncl_writer.proofs.Terms.{End, IsFaultless, IsNetlist, IsWritable, List, NetlistData, NoneBreaks, Parts, Placed, Reads, Token, [], ap, at_end, faultless-parts_said, lexemes, map, map-append, netlist_of, netlist_of-parts_said, parts_said, placed_in, placed_of, refl, stop_of, subst, sym, text_of, text_phrase, whole_rules, ℕ, ◌++◌, ◌∙◌, ◌∷◌, ◌≡◌}
use Rattle.ncl_writer.proofs.Lexing.{lexeme_in}
use Rattle.ncl_writer.proofs.Tree.{tree_of}
use Rattle.ncl_writer.proofs.TextLexes.{lexes-text, phrases-tree}
use Rattle.ncl_writer.proofs.TreeItems.{plain-tree_of}
use Rattle.ncl_writer.proofs.KeptRules.{keeps_rules}
use Rattle.ncl_writer.proofs.Saying.{says_parts}

-- the lexemes of tokens at their places are those of the tokens
lexemes-placed : (bytes : List ℕ) (tokens : List Token) → lexemes (map (placed_of bytes) tokens) ≡ map (lexeme_in bytes) tokens
lexemes-placed bytes [] = refl
lexemes-placed bytes (token ∷ tokens) = ap (λ l. lexeme_in bytes token ∷ l) (lexemes-placed bytes tokens)

pub reads_back : (n : NetlistData) → IsNetlist n → IsWritable n → Reads (text_of n) (parts_said n)
reads_back n ok may =
    let lexed = lexes-text n ok may [] in
    let text : List ℕ = text_of n in
    let derives : lexemes (placed_in text lexed.tokens at_end) ≡ text_phrase (tree_of n) =
    map-append (λ (t : Placed). t.lexeme) (map (placed_of text) lexed.tokens) (stop_of text at_end ∷ [])
    ∙ ap (λ l. l ++ End ∷ []) (lexemes-placed text lexed.tokens ∙ lexed.say) ∙ phrases-tree n ok may in (
      placed_in text lexed.tokens at_end,
      (lexed.tokens, at_end, lexed.are, refl),
      record {
        text = tree_of n;
        derives = derives;
        unbroken = subst NoneBreaks (sym derives) (whole_rules (tree_of n) (plain-tree_of n) (keeps_rules n ok));
        says = says_parts n ok;
      },
    )

-- a text that is the netlist's reads as parts that describe it
pub reads_again : (n : NetlistData) (text : List ℕ) → IsNetlist n → IsWritable n → text ≡ text_of n → (parts : Parts) × Reads text parts × IsFaultless parts × (netlist_of parts ≡ n)
reads_again n text ok may is =
    (parts_said n, subst (λ t. Reads t (parts_said n)) (sym is) (reads_back n ok may), faultless-parts_said n ok, netlist_of-parts_said n ok)
