use Rattle.std.proofs.Common.{◌≤◌, ℕ, sym, subst, ap, ◌∙◌}
use Rattle.left_right.specs.Sides.{view}
use Rattle.snap_reads.specs.declared.rule.View.{View}
use Rattle.snap_reads.specs.declared.shown.Shown.{Shown}
use Rattle.snap_reads.specs.Tables.{last_position, StartsWith}
use Rattle.snap_reads.specs.Views.{peek_of}
use Rattle.snap_reads.proofs.Keeps.{looks}
use Rattle.snap_reads.proofs.Looks.{look_later, look_rises}
use Rattle.snap_reads.proofs.peeker.look.Goals as goal

pub enter_as-requires : goal.enter_as-requires
enter_as-requires c x = looks _ _ x

pub returns-in-Ok-seen-clause-later : goal.returns-in-Ok-seen-clause-later
returns-in-Ok-seen-clause-later c =
    let v : View = view c.args.reader.place in
    subst (λ (u : View). StartsWith (peek_of u).knows (peek_of v).knows) (sym c.leave-reader.ensures.1) (look_later v (view c.in-Ok.reading.place) c.in-Ok.reading.part.value c.in-Ok.ensures.1)

pub returns-in-Ok-seen-clause-rises : goal.returns-in-Ok-seen-clause-rises
returns-in-Ok-seen-clause-rises c =
    let v : View = view c.args.reader.place in
    subst (λ (n : ℕ). last_position (peek_of v).knows ≤ n) (sym (c.in-Ok-seen.ensures.pos ∙ ap (λ (y : Shown). y.pos) c.get.ensures)) (look_rises v (view c.in-Ok.reading.place) c.in-Ok.reading.part.value c.in-Ok.ensures.1)

pub returns-in-Err-seen-clause-later : goal.returns-in-Err-seen-clause-later
returns-in-Err-seen-clause-later c =
    let v : View = view c.args.reader.place in
    subst (λ (u : View). StartsWith (peek_of u).knows (peek_of v).knows) (sym c.leave-reader.ensures.1) (look_later v (view c.in-Ok.reading.place) c.in-Ok.reading.part.value c.in-Ok.ensures.1)
