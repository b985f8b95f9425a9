use Rattle.std.proofs.Common.{List, map, drop, sym, subst}
use Rattle.left_right.specs.Sides.{view}
use Rattle.left_right.specs.Register.{TurnsAt}
use Rattle.snap_reads.specs.declared.change.Published.{Published}
use Rattle.snap_reads.specs.Steps.{meant, published_by}
use Rattle.snap_reads.specs.Rule.{Kept, Adds}
use Rattle.snap_reads.proofs.Keeps.{adds, shows_next}
use Rattle.snap_reads.proofs.Showing.{next_seen, next_shows, next_log}
use Rattle.snap_reads.proofs.snap.show_next.Goals as goal

pub publish_as-requires : goal.publish_as-requires
publish_as-requires g c next is =
    let desk = c.args.writer.desk in
    let v = view desk.place in
    let x = desk.shown.value in
    let ops = drop c.args.writer.behind c.args.writer.log.items in
    let now = c.requires.sound in
    subst (λ (k : List Published). TurnsAt Kept desk.place.id v x next (λ v x y w. Adds k v x y w)) (sym c.requires.list)
    (adds (published_by (map meant ops)) desk.place.id v x next now.shows (shows_next x next v.seen ops now.shows now.whole is) now.rising)

pub returns-clause-seen : goal.returns-clause-seen
returns-clause-seen g c = next_seen c.publish_as.result.1 _ _ (view c.args.writer.desk.place) (view c.publish_as.result.0.desk.place) c.args.writer.desk.shown.value c.publish_as.result.0.desk.shown.value c.requires.list c.publish_as.ensures.rule

pub returns-clause-shows : goal.returns-clause-shows
returns-clause-shows g c = next_shows _ _ c.publish_as.result.1 _ (view c.args.writer.desk.place) (view c.publish_as.result.0.desk.place) c.args.writer.desk.shown.value c.publish_as.result.0.desk.shown.value c.requires.sound.shows c.publish_as.ensures.rule c.publish_as.ensures.values

pub returns-clause-log : goal.returns-clause-log
returns-clause-log g c = next_log _ _ c.publish_as.result.1 _ _ c.publish_as.ensures.values
