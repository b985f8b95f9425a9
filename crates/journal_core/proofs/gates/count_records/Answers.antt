use Rattle.std.proofs.Common.{◌≡◌, ℕ, ◌+◌, ◌≤◌, List, length, take, drop, Some, None, sym, ap, subst, ◌∙◌, arith, length-take, length-drop}
use Rattle.std.proofs.lemmas.List.{drop-drop}
use Rattle.disk_model.specs.Disk.{Timeline, content}
use Rattle.journal_core.specs.Records.{first_record}
use Rattle.journal_core.proofs.Walk.{walked_more, walked_all, walked_end}
use Rattle.journal_core.proofs.gates.count_records.Goals as goal

pub loop-size-preserved : goal.loop-size-preserved
loop-size-preserved g c =
    let file = content (g.D.Disk.view c.args.disk.now).timeline.now in
    let here : content (g.D.Disk.view c.loop-size.disk).timeline.now ≡ file = ap (λ (l : Timeline). content l.now) c.loop-size.invariant.same in
    let n = c.in-Some.size in
    let base = c.args.base in
    let end = c.loop-size.end in
    let there = rw c.in-Some.is at c.in_ok-size.ensures.inside in
    let payload = take n (drop (base + end + 9) file) in
    let first : first_record (drop (base + end) file) ≡ Some payload = subst (λ (l : List ℕ). first_record (drop (base + end) l) ≡ Some (take n (drop (base + end + 9) l))) here (rw c.in-Some.is at c.in_ok-size.ensures.some) in
    let long : length payload ≡ n = length-take n (drop (base + end + 9) file) ∙ omega (arith, length-drop (base + end + 9) file, there, ap length here) in
    record {
      same = c.size_at.ensures.same ∙ c.loop-size.invariant.same;
      walked = walked_more c.loop-size.count end n (drop base file) payload c.loop-size.invariant.walked (ap first_record (drop-drop end base file) ∙ first) long;
      few = omega (arith, c.loop-size.invariant.few);
      inside = omega (arith, there, ap length here);
      fits = omega (arith, rw c.in-Some.is at c.in_ok-size.ensures.fits);
      armed = c.size_at.ensures.state.1 ∙ c.loop-size.invariant.armed;
      word = c.size_at.ensures.word ∙ c.loop-size.invariant.word;
      stopped = c.size_at.ensures.state.0 ∙ c.loop-size.invariant.stopped;
      faults = c.in_ok-size.ensures.no_fault ∙ c.loop-size.invariant.faults;
    }

pub returns-clause-counted : goal.returns-clause-counted
returns-clause-counted g c =
    let file = content (g.D.Disk.view c.args.disk.now).timeline.now in
    let here : content (g.D.Disk.view c.loop-size.disk).timeline.now ≡ file = ap (λ (l : Timeline). content l.now) c.loop-size.invariant.same in
    let base = c.args.base in
    let end = c.loop-size.end in
    let none : first_record (drop end (drop base file)) ≡ None = ap first_record (drop-drop end base file) ∙ ap (λ (l : List ℕ). first_record (drop (base + end) l)) (sym here) ∙ rw c.in_default.is at c.in_ok-size.ensures.some in
    let inside : end ≤ length (drop base file) = omega (arith, c.loop-size.invariant.inside, length-drop base file) in
    walked_all c.loop-size.count end (drop base file) c.loop-size.invariant.walked inside none

pub returns-clause-ends : goal.returns-clause-ends
returns-clause-ends g c =
    let file = content (g.D.Disk.view c.args.disk.now).timeline.now in
    let here : content (g.D.Disk.view c.loop-size.disk).timeline.now ≡ file = ap (λ (l : Timeline). content l.now) c.loop-size.invariant.same in
    let base = c.args.base in
    let end = c.loop-size.end in
    let none : first_record (drop end (drop base file)) ≡ None = ap first_record (drop-drop end base file) ∙ ap (λ (l : List ℕ). first_record (drop (base + end) l)) (sym here) ∙ rw c.in_default.is at c.in_ok-size.ensures.some in
    let inside : end ≤ length (drop base file) = omega (arith, c.loop-size.invariant.inside, length-drop base file) in
    walked_end c.loop-size.count end (drop base file) c.loop-size.invariant.walked inside none
