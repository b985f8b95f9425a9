use Rattle.std.proofs.Common.{◌≡◌, ℕ, ◌+◌, ◌≤◌, List, [], ◌∷◌, ◌++◌, length, drop, Vec, Some, None, sym, ap, ◌∙◌, subst, arith, length-drop}
use Rattle.std.proofs.lemmas.List.{length-map, drop-drop}
use Rattle.std.specs.declared.alloc.Global.{Global}
use Rattle.disk_model.specs.Disk.{Timeline, content}
use Rattle.journal_core.specs.Records.{first_record, payloads}
use Rattle.journal_core.specs.Layout.{Whole}
use Rattle.journal_core.proofs.Walk.{whole_count, whole_push, whole_all, whole_end}
use Rattle.journal_core.proofs.Closing.{payloads-push}
use Rattle.journal_core.proofs.gates.read_records.Goals as goal

pub loop-found-preserved : goal.loop-found-preserved
loop-found-preserved g c =
    let file = content (g.D.Disk.view c.args.disk.now).timeline.now in
    let here : content (g.D.Disk.view c.loop-found.disk).timeline.now ≡ file = ap (λ (l : Timeline). content l.now) c.loop-found.invariant.same in
    let v = c.in-Some.payload in
    let base = c.args.base in
    let end = c.loop-found.end in
    let found = rw c.in-Some.is at c.in_ok-payload.ensures.some in
    let there = rw c.in-Some.is at c.in_ok-payload.ensures.inside in
    let first : first_record (drop end (drop base file)) ≡ Some v.items = ap first_record (drop-drop end base file) ∙ sym (ap (λ (l : List ℕ). first_record (drop (base + end) l)) here) ∙ found in
    let long : length v.items ≡ c.len.result = omega (arith, v.ok, c.len.ensures) in
    let pushed : payloads c.push.new.self.items ≡ payloads c.loop-found.found.items ++ v.items ∷ [] = ap payloads c.in_ok-push.ensures.items ∙ payloads-push c.loop-found.found.items v in
    let whole = whole_push (payloads c.loop-found.found.items) end (drop base file) v.items c.loop-found.invariant.whole first in
    record {
      same = c.read_record.ensures.same ∙ c.loop-found.invariant.same;
      whole = subst (λ (ps : List (List ℕ)). Whole ps (end + (9 + c.len.result)) (drop base file)) (sym pushed) (subst (λ (n : ℕ). Whole (payloads c.loop-found.found.items ++ v.items ∷ []) (end + (9 + n)) (drop base file)) long whole);
      inside = omega (arith, there, long, ap length here);
      fits = omega (arith, rw c.in-Some.is at c.in_ok-payload.ensures.fits, long);
      armed = c.read_record.ensures.state.1 ∙ c.loop-found.invariant.armed;
      word = c.read_record.ensures.word ∙ c.loop-found.invariant.word;
      stopped = c.read_record.ensures.state.0 ∙ c.loop-found.invariant.stopped;
      faults = c.in_ok-payload.ensures.no_fault ∙ c.loop-found.invariant.faults;
    }

pub returns-clause-records : goal.returns-clause-records
returns-clause-records g c =
    let file = content (g.D.Disk.view c.args.disk.now).timeline.now in
    let here : content (g.D.Disk.view c.loop-found.disk).timeline.now ≡ file = ap (λ (l : Timeline). content l.now) c.loop-found.invariant.same in
    let base = c.args.base in
    let end = c.loop-found.end in
    let none : first_record (drop end (drop base file)) ≡ None = ap first_record (drop-drop end base file) ∙ ap (λ (l : List ℕ). first_record (drop (base + end) l)) (sym here) ∙ rw c.in_default.is at c.in_ok-payload.ensures.some in
    let inside : end ≤ length (drop base file) = omega (arith, c.loop-found.invariant.inside, length-drop base file) in
    sym (whole_all (payloads c.loop-found.found.items) end (drop base file) c.loop-found.invariant.whole inside none)

pub returns-clause-ends : goal.returns-clause-ends
returns-clause-ends g c =
    let file = content (g.D.Disk.view c.args.disk.now).timeline.now in
    let here : content (g.D.Disk.view c.loop-found.disk).timeline.now ≡ file = ap (λ (l : Timeline). content l.now) c.loop-found.invariant.same in
    let base = c.args.base in
    let end = c.loop-found.end in
    let none : first_record (drop end (drop base file)) ≡ None = ap first_record (drop-drop end base file) ∙ ap (λ (l : List ℕ). first_record (drop (base + end) l)) (sym here) ∙ rw c.in_default.is at c.in_ok-payload.ensures.some in
    let inside : end ≤ length (drop base file) = omega (arith, c.loop-found.invariant.inside, length-drop base file) in
    whole_end (payloads c.loop-found.found.items) end (drop base file) c.loop-found.invariant.whole inside none

pub returns-clause-few : goal.returns-clause-few
returns-clause-few g c =
    let file = content (g.D.Disk.view c.args.disk.now).timeline.now in
    omega (arith, whole_count (payloads c.loop-found.found.items) c.loop-found.end (drop c.args.base file) c.loop-found.invariant.whole, length-map c.loop-found.found.items (λ (v : Vec ℕ Global). v.items))
