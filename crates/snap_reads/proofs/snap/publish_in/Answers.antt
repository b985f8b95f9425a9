use Rattle.std.proofs.Common.{◌≡◌, ◌++◌, ℕ, List, drop, ap, ◌∙◌}
use Rattle.left_right.specs.Sides as sides
use Rattle.snap_reads.specs.declared.change.Published.{Published}
use Rattle.snap_reads.specs.declared.shown.Shown.{Shown}
use Rattle.snap_reads.specs.declared.rule.View.{View}
use Rattle.snap_reads.specs.Steps.{Step, published_by}
use Rattle.snap_reads.specs.Queue.{queue_of}
use Rattle.snap_reads.proofs.Showing.{sound_taken, sound_after, all_published, one_owed}
use Rattle.snap_reads.proofs.snap.publish_in.Goals as goal

pub show_all-requires : goal.show_all-requires
show_all-requires g c =
    let old = c.args.writer.now in
    let new = c.take_up.new.writer in
    let e : ℕ × Published = (c.args.needless, record { pos = c.args.pos; changes = c.args.changes.now }) in
    sound_taken old.desk.shown.value new.desk.shown.value (sides.view old.desk.place).seen (sides.view new.desk.place).seen
    (queue_of (drop old.behind old.log.items) c.args.rest.now) (queue_of (drop new.behind new.log.items) c.take_up.new.rest) e
    (ap (λ d. d.shown.value) c.take_up.ensures.desk) (ap (λ d. (sides.view {T = Shown} {V = View} d.place).seen) c.take_up.ensures.desk) c.requires.sound c.in-Ok.ensures.ok c.requires.pos

pub returns-in_default-show_all-clause-sound : goal.returns-in_default-show_all-clause-sound
returns-in_default-show_all-clause-sound g c =
    let old = c.args.writer.now in
    let mid = c.take_up.new.writer in
    let new = c.show_all.new.writer in
    let e : ℕ × Published = (c.args.needless, record { pos = c.args.pos; changes = c.args.changes.now }) in
    let sound = sound_taken old.desk.shown.value mid.desk.shown.value (sides.view old.desk.place).seen (sides.view mid.desk.place).seen
    (queue_of (drop old.behind old.log.items) c.args.rest.now) (queue_of (drop mid.behind mid.log.items) c.take_up.new.rest) e
    (ap (λ d. d.shown.value) c.take_up.ensures.desk) (ap (λ d. (sides.view {T = Shown} {V = View} d.place).seen) c.take_up.ensures.desk) c.requires.sound c.in-Ok.ensures.ok c.requires.pos in
    sound_after c.show_all.result mid.desk.shown.value new.desk.shown.value (sides.view mid.desk.place).seen (sides.view new.desk.place).seen
    (queue_of (drop mid.behind mid.log.items) c.take_up.new.rest) (queue_of (drop new.behind new.log.items) c.show_all.new.rest)
    sound c.show_all.ensures.shows c.show_all.ensures.seen c.show_all.ensures.queue

pub returns-clause-sound : goal.returns-clause-sound
returns-clause-sound g c =
    let old = c.args.writer.now in
    let mid = c.take_up.new.writer in
    let new = c.show_all.new.writer in
    let e : ℕ × Published = (c.args.needless, record { pos = c.args.pos; changes = c.args.changes.now }) in
    let sound = sound_taken old.desk.shown.value mid.desk.shown.value (sides.view old.desk.place).seen (sides.view mid.desk.place).seen
    (queue_of (drop old.behind old.log.items) c.args.rest.now) (queue_of (drop mid.behind mid.log.items) c.take_up.new.rest) e
    (ap (λ d. d.shown.value) c.take_up.ensures.desk) (ap (λ d. (sides.view {T = Shown} {V = View} d.place).seen) c.take_up.ensures.desk) c.requires.sound c.in-Ok.ensures.ok c.requires.pos in
    sound_after c.show_all.result mid.desk.shown.value new.desk.shown.value (sides.view mid.desk.place).seen (sides.view new.desk.place).seen
    (queue_of (drop mid.behind mid.log.items) c.take_up.new.rest) (queue_of (drop new.behind new.log.items) c.show_all.new.rest)
    sound c.show_all.ensures.shows c.show_all.ensures.seen c.show_all.ensures.queue

pub returns-in_default-show_all-clause-outcome : goal.returns-in_default-show_all-clause-outcome
returns-in_default-show_all-clause-outcome g c =
    let old = c.args.writer.now in
    let mid = c.take_up.new.writer in
    let new = c.show_all.new.writer in
    one_owed (sides.view old.desk.place).seen (sides.view new.desk.place).seen
    (queue_of (drop old.behind old.log.items) c.args.rest.now) (queue_of (drop mid.behind mid.log.items) c.take_up.new.rest) (queue_of (drop new.behind new.log.items) c.show_all.new.rest)
    (c.args.needless, record { pos = c.args.pos; changes = c.args.changes.now }) c.in-Ok.ensures.ok
    (c.in_default-show_all.ensures.seen ∙ ap (λ d. (sides.view {T = Shown} {V = View} d.place).seen) c.take_up.ensures.desk) c.in_default-show_all.ensures.queue

pub returns-clause-outcome : goal.returns-clause-outcome
returns-clause-outcome g c =
    let old = c.args.writer.now in
    let mid = c.take_up.new.writer in
    let new = c.show_all.new.writer in
    all_published (sides.view old.desk.place).seen (sides.view new.desk.place).seen
    (queue_of (drop old.behind old.log.items) c.args.rest.now) (queue_of (drop mid.behind mid.log.items) c.take_up.new.rest) (queue_of (drop new.behind new.log.items) c.show_all.new.rest)
    (c.args.needless, record { pos = c.args.pos; changes = c.args.changes.now }) c.in-Ok.ensures.ok
    (c.in-Ok-show_all.ensures.seen ∙ ap (λ (l : List Published). l ++ published_by (queue_of (drop mid.behind mid.log.items) c.take_up.new.rest)) (ap (λ d. (sides.view {T = Shown} {V = View} d.place).seen) c.take_up.ensures.desk)) c.in-Ok-show_all.ensures.queue
