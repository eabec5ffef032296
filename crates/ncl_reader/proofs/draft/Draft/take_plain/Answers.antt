use Rattle.ncl_reader.proofs.DraftSteps.{[], Contains, refl, subst, begun, titled, listing, listed, inside, celled, named, dotted, pinned, HoldsBy, cell_in, name_in, plain_taken, listing_at, repeats}
use Rattle.ncl_reader.specs.declared.place.Place.TheVariants as place
use Rattle.ncl_reader.proofs.draft.Draft.take_plain.Goals as goal

pub returns-in-ModuleName : goal.returns-in-ModuleName
returns-in-ModuleName c = λ p (kept, by) fine.
    let d = c.args.self.now in
    let x = c.args.name.now in
    let (is, bare) = subst (λ at. HoldsBy at d p) c.in-ModuleName.is by in
    plain_taken c.args.place d p begun (titled x) x place.AfterModuleName _ c.requires is refl kept by fine c.in_ok-stand.ensures (refl, record { ansi = bare.ansi; header = bare.header; cells = bare.cells })

pub returns-in-InstanceName : goal.returns-in-InstanceName
returns-in-InstanceName c = λ p (kept, by) fine.
    let d = c.args.self.now in
    let x = c.args.name.now in
    let (head, items, is, body, are) = subst (λ at. HoldsBy at d p) c.in-InstanceName.is by in
    plain_taken c.args.place d p (inside head items (celled (cell_in d))) (inside head items (named (cell_in d) x)) x place.Connections _ c.requires is refl kept by fine c.in_ok-stand.ensures (head, items, refl, (body.0, record { ansi = body.1.ansi; header = body.1.header; cells = body.1.cells }), are)

pub returns-in-Pin : goal.returns-in-Pin
returns-in-Pin c = λ p (kept, by) fine.
    let d = c.args.self.now in
    let x = c.args.name.now in
    let (head, items, conns, is, body, are) = subst (λ at. HoldsBy at d p) c.in-Pin.is by in
    plain_taken c.args.place d p (inside head items (dotted (cell_in d) (name_in d) conns)) (inside head items (pinned (cell_in d) (name_in d) conns x)) x place.PinNet _ c.requires is refl kept by fine c.in_ok-stand.ensures (head, items, conns, refl, (body.0, record { ansi = body.1.ansi; header = body.1.header; cells = body.1.cells }), are)

pub returns-in_ok-add-in_default : goal.returns-in_ok-add-in_default
returns-in_ok-add-in_default c = λ p (kept, by) fine.
    let d = c.args.self.now in
    let x = c.args.name.now in
    let title = d.title.now in
    let (names, is, read) = listing_at c.args.place d p c.requires c.in_default.not-ModuleName c.in_default.not-InstanceName c.in_default.not-Pin by in
    let new : Contains names x → ⊥ = λ stands. fine (repeats p x title names is stands) in
    let header = c.in_ok-add-in_default.ensures names [] read.header new in
    plain_taken c.args.place d p (listing title names) (listed title names x) x place.AfterPort _ c.requires is refl kept by fine c.in_ok-stand.ensures (names, x, refl, record { ansi = read.ansi; header = header; cells = read.cells })
