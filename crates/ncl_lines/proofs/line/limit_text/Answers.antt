use Rattle.std.proofs.Common.{◌≡◌, List, ℕ, ◌++◌, refl, ◌∙◌}
use Rattle.ncl_lines.proofs.line.limit_text.Goals as goal

-- a text to which a part was appended
appended : (text front part front' part' : List ℕ) → text ≡ front ++ part → front ≡ front' → part ≡ part' → text ≡ front' ++ part'
appended text front part front' part' e f p = cc

pub returns : goal.returns
returns c =
    let stage = appended _ _ _ _ _ c.in_ok-extend_from_slice.ensures.items c.in_ok-text.ensures.items (c.as_bytes.ensures.value ∙ c.format.ensures.text) in
    let more = appended _ _ _ _ _ c.in_ok-extend_from_slice-2.ensures.items stage refl in
    let number = appended _ _ _ _ _ c.in_ok-extend_from_slice-3.ensures.items more (c.as_bytes-2.ensures.value ∙ c.format-2.ensures.text) in
    let nodes = appended _ _ _ _ _ c.in_ok-extend_from_slice-4.ensures.items number refl in
    appended _ _ _ _ _ c.in_ok-extend_from_slice-5.ensures.items nodes refl
