use Rattle.std.proofs.Common.{◌≡◌, inl, inr, ℕ, ◌==◌, get_or, take, drop, ◌∙◌, ap, arith}
use Rattle.disk_model.specs.Disk.{Timeline, content}
use Rattle.journal_pair.specs.Records.{slot_at}
use Rattle.journal_pair.proofs.Areas.{short_unready}
use Rattle.journal_pair.proofs.Front.{header_closed, header_low, header_past, header_selects}
use Rattle.journal_pair.proofs.header.read_header.Goals as goal

pub returns-then-len-le-HEADER-clause-value : goal.returns-then-len-le-HEADER-clause-value
returns-then-len-le-HEADER-clause-value g c = short_unready (content (g.D.Disk.view c.args.disk.now).timeline.now) (omega arith)

pub returns-then-front-ne-READY-clause-value : goal.returns-then-front-ne-READY-clause-value
returns-then-front-ne-READY-clause-value g c =
    let file = content (g.D.Disk.view c.args.disk.now).timeline.now in
    let front = c.read.new.buf in
    let there : c.read-2.new.buf ≡ take 8 (drop (slot_at (get_or front 1 0 == 1)) file) =
    c.in_ok-read-2.ensures.bytes ∙ ap (λ (i : ℕ). take 8 (drop i (content (g.D.Disk.view c.read.new.self).timeline.now))) c.slot.ensures
    ∙ ap (λ (l : Timeline). take 8 (drop (slot_at (get_or front 1 0 == 1)) (content l.now))) c.read.ensures.same in
    let base = c.from_be_bytes-base.result in
    elim c.then-front-ne-READY.either [
      | inl shut ↦ header_closed file front c.read-2.new.buf base c.in_ok-read.ensures.bytes there c.from_be_bytes-base.ensures shut
      | inr more ↦ elim more [
        | inl low ↦ header_low file front c.read-2.new.buf base c.in_ok-read.ensures.bytes there c.from_be_bytes-base.ensures (omega (arith, low))
        | inr past ↦ header_past file front c.read-2.new.buf base c.in_ok-read.ensures.bytes there c.from_be_bytes-base.ensures (omega (arith, past, c.len-len.ensures))
      ]
    ]

pub returns-clause-value : goal.returns-clause-value
returns-clause-value g c =
    let file = content (g.D.Disk.view c.args.disk.now).timeline.now in
    let front = c.read.new.buf in
    let there : c.read-2.new.buf ≡ take 8 (drop (slot_at (get_or front 1 0 == 1)) file) =
    c.in_ok-read-2.ensures.bytes ∙ ap (λ (i : ℕ). take 8 (drop i (content (g.D.Disk.view c.read.new.self).timeline.now))) c.slot.ensures
    ∙ ap (λ (l : Timeline). take 8 (drop (slot_at (get_or front 1 0 == 1)) (content l.now))) c.read.ensures.same in
    let base = c.from_be_bytes-base.result in
    header_selects file front c.read-2.new.buf base c.in_ok-read.ensures.bytes there c.from_be_bytes-base.ensures c.if-front-ne-READY.false c.if-base-lt-HEADER.false (omega (arith, c.if-base-len.false, c.len-len.ensures))
