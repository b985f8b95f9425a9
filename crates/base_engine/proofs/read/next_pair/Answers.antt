use Rattle.std.proofs.Common.{◌≡◌, Some, None, sym, ap, ◌∙◌}
use Rattle.delos_types.specs.Spaces.{least_key_from}
use Rattle.engine_steps.specs.Layout.{value_of}
use Rattle.base_engine.proofs.Scanning.{least_from, next_none, next_beyond, next_some, least_has}
use Rattle.base_engine.proofs.read.next_pair.Goals as goal

pub returns-in_default : goal.returns-in_default
returns-in_default g c =
    let m = (g.R.Replica.shows c.args.replica.now).contents in
    let found : c.in_ok-key.field-0 ≡ least_key_from m 5 c.args.from.now = c.in_ok-key.ensures ∙ ap (least_key_from m 5) c.as_slice.ensures in
    next_none m c.args.from.now c.args.high.now (least_from m c.args.from.now None (sym c.in_default.is ∙ found))

pub returns-then-ge : goal.returns-then-ge
returns-then-ge g c =
    let m = (g.R.Replica.shows c.args.replica.now).contents in
    let found : c.in_ok-key.field-0 ≡ least_key_from m 5 c.args.from.now = c.in_ok-key.ensures ∙ ap (least_key_from m 5) c.as_slice.ensures in
    next_beyond m c.args.from.now c.args.high.now c.in-Some.key (least_from m c.args.from.now (Some c.in-Some.key) (sym c.in-Some.is ∙ found)) (sym c.ge.ensures ∙ c.if-ge.true)

pub unreachable-requires : goal.unreachable-requires
unreachable-requires g c =
    let m = (g.R.Replica.shows c.args.replica.now).contents in
    let found : c.in_ok-key.field-0 ≡ least_key_from m 5 c.args.from.now = c.in_ok-key.ensures ∙ ap (least_key_from m 5) c.as_slice.ensures in
    least_has m c.args.from.now c.in-Some.key (least_from m c.args.from.now (Some c.in-Some.key) (sym c.in-Some.is ∙ found))
    (sym (c.in_ok-value.ensures ∙ ap (value_of m) c.as_slice-2.ensures) ∙ c.in_default-2.is)

pub returns : goal.returns
returns g c =
    let m = (g.R.Replica.shows c.args.replica.now).contents in
    let found : c.in_ok-key.field-0 ≡ least_key_from m 5 c.args.from.now = c.in_ok-key.ensures ∙ ap (least_key_from m 5) c.as_slice.ensures in
    next_some m c.args.from.now c.args.high.now c.in-Some.key c.in-Some-2.value (least_from m c.args.from.now (Some c.in-Some.key) (sym c.in-Some.is ∙ found)) (sym c.ge.ensures ∙ c.if-ge.false)
    (sym (c.in_ok-value.ensures ∙ ap (value_of m) c.as_slice-2.ensures) ∙ c.in-Some-2.is)
