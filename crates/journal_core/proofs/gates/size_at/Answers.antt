use Rattle.std.proofs.Common.{◌≡◌, ℕ, ◌+◌, List, take, drop, refl, ◌∙◌, ap, arith}
use Rattle.disk_model.specs.Disk.{Timeline, content}
use Rattle.journal_core.proofs.Reading.{gate_read, size_read, none_left, payload_read}
use Rattle.journal_core.proofs.gates.size_at.Goals as goal

pub returns-then-size-left-clause-some : goal.returns-then-size-left-clause-some
returns-then-size-left-clause-some g c =
    let file = content (g.D.Disk.view c.args.disk.now).timeline.now in
    let first : content (g.D.Disk.view c.read.new.self).timeline.now ≡ file = ap (λ (l : Timeline). content l.now) c.read.ensures.same in
    let size_buf = c.in_ok-read-2.ensures.bytes ∙ ap (λ (l : List ℕ). take 8 (drop (c.args.at + 1) l)) first in
    let size_is = size_read file c.args.at _ _ size_buf c.from_be_bytes-size.ensures in
    none_left file c.args.at _ size_is (omega arith)

pub returns-clause-some : goal.returns-clause-some
returns-clause-some g c =
    let file = content (g.D.Disk.view c.args.disk.now).timeline.now in
    let first : content (g.D.Disk.view c.read.new.self).timeline.now ≡ file = ap (λ (l : Timeline). content l.now) c.read.ensures.same in
    let size_buf = c.in_ok-read-2.ensures.bytes ∙ ap (λ (l : List ℕ). take 8 (drop (c.args.at + 1) l)) first in
    let size_is = size_read file c.args.at _ _ size_buf c.from_be_bytes-size.ensures in
    let n = c.from_be_bytes-size.result in
    payload_read file c.args.at n (take n (drop (c.args.at + 9) file)) _ (gate_read file c.args.at _ c.in_ok-read.ensures.bytes ∙ c.if-gate-ne-OPEN.false) size_is (omega (arith, c.len.ensures)) refl refl
