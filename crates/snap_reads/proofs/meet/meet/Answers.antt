use Rattle.std.proofs.Common.{◌≡◌, List, length, map, sym, subst, ap, ◌∙◌}
use Rattle.std.specs.Arc.{arc_value}
use Rattle.left_right.specs.Sides.{view}
use Rattle.snap_reads.specs.declared.change.Published.{Published}
use Rattle.snap_reads.specs.declared.rule.View.{View}
use Rattle.snap_reads.specs.declared.shown.Shown.{Shown}
use Rattle.snap_reads.specs.Tables.{StartsWith}
use Rattle.snap_reads.specs.Rule.{EndsWith}
use Rattle.snap_reads.proofs.Keeps.{looks, chain, same_list}
use Rattle.snap_reads.proofs.meet.meet.Goals as goal

pub enter_as-requires : goal.enter_as-requires
enter_as-requires g c x = looks _ _ x

pub returns-then-all : goal.returns-then-all
returns-then-all g c =
    let w : View = view c.in-Ok.reading.place in
    let all : View = view c.args.writer.now.desk.place in
    let old : View = view c.loop.reader.place in
    let first : View = view c.args.reader.place in
    let seen = c.in-Ok.ensures.1 in
    let carried : List Published = map arc_value c.args.writer.now.desk.shown.value.carried.items in
    let alike = ap (λ (s : Shown). map arc_value s.carried.items) (sym c.get.ensures) ∙ c.sees_all-all.ensures.carried c.if-all.true ∙ ap (λ (s : Shown). map arc_value s.carried.items) c.published.ensures in
    let size : length all.seen ≡ length w.seen = sym (sym seen.shows.count ∙ ap (λ (s : Shown). s.count) (sym c.get.ensures) ∙ c.sees_all-all.ensures.count c.if-all.true ∙ ap (λ (s : Shown). s.count) c.published.ensures ∙ c.requires.shows.count) in
    let told : StartsWith w.seen first.told = subst (StartsWith w.seen) c.loop.invariant.3 seen.told in
    let same : all.seen ≡ w.seen = same_list all.seen w.seen first.told carried size c.requires.told told c.requires.shows.carried (subst (EndsWith w.seen) alike seen.shows.carried) c.requires.since in
    subst (λ (l : List Published). StartsWith l first.seen) (sym same) (chain w.seen old.seen first.seen seen.seen c.loop.invariant.2)
