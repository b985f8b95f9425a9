use Rattle.std.proofs.Common.{List, length, map, sym, ap, ◌∙◌, arith}
use Rattle.striped_cells.specs.Striped.{Striped, position_of}
use Rattle.striped_cells.proofs.Striping.{some_stripes}
use Rattle.striped_cells.proofs.Calling.{entry_past, entry_in}
use Rattle.striped_cells.proofs.striped.StripedStateAnyCell.entry.Goals as goal

pub returns-then-self-place : goal.returns-then-self-place
returns-then-self-place g c =
    let size = ap (λ (s : Striped g.row.C.Denot). s.marks.size) c.self.view_is in
    sym (entry_past g.C.AnyCell.ways c.args.self.now c.requires c.args.place (omega (arith, c.if-self-place.true, size)))

pub entry_of-requires-clause-some : goal.entry_of-requires-clause-some
entry_of-requires-clause-some g c =
    let e = ap (λ (xs : List g.row.C.Denot). length xs) (c.as_slice.ensures.value ∙ ap (λ (s : Striped g.row.C.Denot). s.stripes) c.self.view_is) in
    let some = some_stripes g.C.AnyCell.ways c.args.self.now c.requires in
    omega (arith, e, some)

pub returns : goal.returns
returns g c =
    let e = c.as_slice.ensures.value ∙ ap (λ (s : Striped g.row.C.Denot). s.stripes) c.self.view_is in
    let size = ap (λ (s : Striped g.row.C.Denot). s.marks.size) c.self.view_is in
    c.entry_of.ensures ∙ (ap (λ (xs : List g.row.C.Denot). position_of (map g.C.AnyCell.ways.entries xs) c.args.place) e
    ∙ sym (entry_in g.C.AnyCell.ways c.args.self.now c.requires c.args.place (omega (arith, c.if-self-place.false, size))))
