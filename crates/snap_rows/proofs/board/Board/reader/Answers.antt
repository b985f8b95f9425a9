use Rattle.std.proofs.Common.{◌≡◌, Option, IfSome, sym, subst, List}
use Rattle.std.proofs.lemmas.List.Elements.{All-push, All-same}
use Rattle.snap_reads.specs.declared.change.Published.{Published}
use Rattle.snap_reads.specs.Tables.{StartsWith}
use Rattle.snap_reads.specs.Views.{Peek, Shelf}
use Rattle.snap_reads.proofs.Keeps.{whole}
use Rattle.snap_rows.proofs.Readers.{same_on}
use Rattle.snap_rows.proofs.board.Board.reader.Goals as goal

pub invariant_of-self : goal.invariant_of-self
invariant_of-self g c = same_on c.self.inside.desk c.peeker.new.self c.self.inside.readers.items c.peeker.ensures.same c.self.invariant

pub invariant_of-self-in_default : goal.invariant_of-self-in_default
invariant_of-self-in_default g c = same_on c.self.inside.desk c.peeker.new.self c.self.inside.readers.items c.peeker.ensures.same c.self.invariant

pub invariant_of-self-in_err-push : goal.invariant_of-self-in_err-push
invariant_of-self-in_err-push g c =
    All-same (λ (p : Peek). StartsWith c.peeker.new.self.published p.told) c.push.new.self.items c.self.inside.readers.items c.in_err-push.ensures.items
    (same_on c.self.inside.desk c.peeker.new.self c.self.inside.readers.items c.peeker.ensures.same c.self.invariant)

pub invariant_of-self-2 : goal.invariant_of-self-2
invariant_of-self-2 g c =
    let now : List Published = c.peeker.new.self.published in
    let p : Peek = c.in-Some.peeker in
    let is : p.told ≡ c.self.inside.desk.published = subst (λ (o : Option Peek). IfSome o (λ (q : Peek). q.told ≡ c.self.inside.desk.published)) c.in-Some.is c.in_ok-peeker.ensures.told in
    let told : StartsWith now p.told = subst (λ (l : List Published). StartsWith now l) (sym is) (subst (λ (s : Shelf). StartsWith s.published c.self.inside.desk.published) (sym c.peeker.ensures.same) (whole c.self.inside.desk.published)) in
    All-same (λ (q : Peek). StartsWith now q.told) c.push.new.self.items _ c.in_ok-push.ensures.items
    (All-push (λ (q : Peek). StartsWith now q.told) c.self.inside.readers.items p (same_on c.self.inside.desk c.peeker.new.self c.self.inside.readers.items c.peeker.ensures.same c.self.invariant) told)
