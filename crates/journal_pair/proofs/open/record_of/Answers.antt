use Rattle.std.proofs.Common.{◌≡◌, ◌<◌, ℕ, IfOk, List, [], length, drop, slice_index_or, ◌∙◌, sym, ap, subst, arith}
use Rattle.std.specs.declared.alloc.Global.{Global}
use Rattle.disk_model.specs.Disk.{Timeline, content}
use Rattle.journal_core.specs.Records as area
use Rattle.journal_pair.specs.Records.{records_of}
use Rattle.journal_pair.proofs.Areas.{selects_records, unready_records}
use Rattle.journal_pair.proofs.open.record_of.Goals as goal

pub record_at-requires-clause-there : goal.record_at-requires-clause-there
record_at-requires-clause-there g c =
    let file = content (g.D.Disk.view c.args.disk.now).timeline.now in
    let here : content (g.D.Disk.view c.read_header.new.disk).timeline.now ≡ file = ap (λ (l : Timeline). content l.now) c.read_header.ensures.same in
    let sel = rw c.in-Some.is at c.in_ok-base.ensures.value in
    let all = selects_records _ _ file sel in
    subst (λ (l : List ℕ). c.args.i < length (area.records_of (drop c.in-Some.base l))) (sym here) (omega (arith, c.requires, ap length all))

pub unreachable-requires : goal.unreachable-requires
unreachable-requires g c =
    let file = content (g.D.Disk.view c.args.disk.now).timeline.now in
    let none = unready_records file (rw c.in-None.is at c.in_ok-base.ensures.value) in
    omega (arith, c.requires, ap length none)

pub returns-clause-record : goal.returns-clause-record
returns-clause-record g c =
    let file = content (g.D.Disk.view c.args.disk.now).timeline.now in
    let here : content (g.D.Disk.view c.read_header.new.disk).timeline.now ≡ file = ap (λ (l : Timeline). content l.now) c.read_header.ensures.same in
    let sel = rw c.in-Some.is at c.in_ok-base.ensures.value in
    let same : area.records_of (drop c.in-Some.base (content (g.D.Disk.view c.read_header.new.disk).timeline.now)) ≡ records_of file =
    ap (λ (l : List ℕ). area.records_of (drop c.in-Some.base l)) here ∙ sym (selects_records _ _ file sel) in
    subst (λ (rs : List (List ℕ)). IfOk c.record_at.result (λ v. v.items ≡ slice_index_or rs c.args.i [])) same c.record_at.ensures.record
