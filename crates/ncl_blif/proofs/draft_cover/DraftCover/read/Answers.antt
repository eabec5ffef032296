use Rattle.ncl_blif.proofs.Terms.{NamedCover, ap, cover_ins, drop, drop-map, front_fields, last_field, later_fields, length, length-map, map, sym, take_rest, ◌∙◌, ◌≡◌}
use Rattle.ncl_blif.proofs.draft_cover.DraftCover.read.Goals as goal

same-cover : (a b : NamedCover) → a.line ≡ b.line → a.ins ≡ b.ins → a.out ≡ b.out → a.on ≡ b.on → a.rows ≡ b.rows → a ≡ b
same-cover a b line ins out on rows = rw (line, ins, out, on, rows)

pub returns : goal.returns
returns c =
    let head = c.args.part.now.head in
    let names = c.fields.result.now in
    let said : map (λ name. name.now) (drop 1 names) ≡ later_fields head = sym (drop-map _ 1 names) ∙ ap (drop 1) (c.fields.ensures ∙ ap (λ h. h.fields) c.head.ensures) in
    let ins : map (λ name. name.now) c.in-Some.ins.now ≡ cover_ins head = c.in-Some.ensures.0 ∙ ap (λ xs. front_fields (map (λ name. name.now) xs)) (take_rest names 1) ∙ ap front_fields said in
    let out = c.in-Some.ensures.1 ∙ ap (λ xs. last_field (map (λ name. name.now) xs)) (take_rest names 1) ∙ ap last_field said in
    let read = rw c.rows.ensures at (c.in_ok-rows.ensures head c.requires.names (sym (length-map c.in-Some.ins.now _) ∙ ap length ins)) in
    (read.0, same-cover _ _ (c.number.ensures ∙ ap (λ h. h.number) c.head-2.ensures) (ap (map (λ name. name.now)) c.in_ok-from_slice.ensures.items ∙ ins) out read.2 read.1)
