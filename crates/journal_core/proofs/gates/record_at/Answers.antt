use Rattle.std.proofs.Common.{◌≡◌, ℕ, ◌+◌, ◌-◌, ◌≤◌, List, [], length, take, drop, Some, None, slice_index_or, sym, ap, subst, ◌∙◌, arith, length-take, length-drop}
use Rattle.std.proofs.lemmas.List.{drop-drop}
use Rattle.disk_model.specs.Disk.{Timeline, content}
use Rattle.journal_core.specs.Records.{first_record, records_of}
use Rattle.journal_core.specs.Layout.{IsWalked}
use Rattle.journal_core.proofs.Walk.{walked_more, walked_all, walked_at}
use Rattle.journal_core.proofs.gates.record_at.Goals as goal

-- from a base on
from_base : (base place : ℕ) (file : List ℕ) → base ≤ place → drop (place - base) (drop base file) ≡ drop place file
from_base base place file le = drop-drop (place - base) base file ∙ ap (λ (n : ℕ). drop n file) (omega (arith, le))

pub loop-before-preserved : goal.loop-before-preserved
loop-before-preserved g c =
    let file = content (g.D.Disk.view c.args.disk.now).timeline.now in
    let here : content (g.D.Disk.view c.loop-before.disk).timeline.now ≡ file = ap (λ (l : Timeline). content l.now) c.loop-before.invariant.same in
    let n = c.in-Some.size in
    let base = c.args.base in
    let place = c.loop-before.place in
    let there = rw c.in-Some.is at c.in_ok-size.ensures.inside in
    let payload = take n (drop (place + 9) file) in
    let first : first_record (drop place file) ≡ Some payload = subst (λ (l : List ℕ). first_record (drop place l) ≡ Some (take n (drop (place + 9) l))) here (rw c.in-Some.is at c.in_ok-size.ensures.some) in
    let long : length payload ≡ n = length-take n (drop (place + 9) file) ∙ omega (arith, length-drop (place + 9) file, there, ap length here) in
    let more = walked_more c.loop-before._before (place - base) n (drop base file) payload c.loop-before.invariant.walked (ap first_record (from_base base place file c.loop-before.invariant.behind) ∙ first) long in
    let end_is : (place - base) + (9 + n) ≡ place + (9 + n) - base = omega (arith, c.loop-before.invariant.behind) in
    record {
      same = c.size_at.ensures.same ∙ c.loop-before.invariant.same;
      behind = omega (arith, c.loop-before.invariant.behind);
      walked = subst (λ (e : ℕ). IsWalked (c.loop-before._before + 1) e (drop base file)) end_is more;
      inside = omega (arith, there, ap length here);
      armed = c.size_at.ensures.state.1 ∙ c.loop-before.invariant.armed;
      word = c.size_at.ensures.word ∙ c.loop-before.invariant.word;
      stopped = c.size_at.ensures.state.0 ∙ c.loop-before.invariant.stopped;
      faults = c.in_ok-size.ensures.no_fault ∙ c.loop-before.invariant.faults;
    }

pub unreachable-requires : goal.unreachable-requires
unreachable-requires g c =
    let file = content (g.D.Disk.view c.args.disk.now).timeline.now in
    let here : content (g.D.Disk.view c.loop-before.disk).timeline.now ≡ file = ap (λ (l : Timeline). content l.now) c.loop-before.invariant.same in
    let base = c.args.base in
    let place = c.loop-before.place in
    let none : first_record (drop (place - base) (drop base file)) ≡ None = ap first_record (from_base base place file c.loop-before.invariant.behind) ∙ ap (λ (l : List ℕ). first_record (drop place l)) (sym here) ∙ rw c.in-None.is at c.in_ok-size.ensures.some in
    let inside : place - base ≤ length (drop base file) = omega (arith, c.loop-before.invariant.inside, length-drop base file) in
    omega (arith, walked_all c.loop-before._before (place - base) (drop base file) c.loop-before.invariant.walked inside none, c.requires.there)

pub unreachable-requires-in-None-2 : goal.unreachable-requires-in-None-2
unreachable-requires-in-None-2 g c =
    let file = content (g.D.Disk.view c.args.disk.now).timeline.now in
    let here : content (g.D.Disk.view c.loop-before.disk).timeline.now ≡ file = ap (λ (l : Timeline). content l.now) c.loop-before.invariant.same in
    let base = c.args.base in
    let place = c.loop-before.place in
    let none : first_record (drop (place - base) (drop base file)) ≡ None = ap first_record (from_base base place file c.loop-before.invariant.behind) ∙ ap (λ (l : List ℕ). first_record (drop place l)) (sym here) ∙ rw c.in-None-2.is at c.in_ok-payload.ensures.some in
    let inside : place - base ≤ length (drop base file) = omega (arith, c.loop-before.invariant.inside, length-drop base file) in
    omega (arith, walked_all c.loop-before._before (place - base) (drop base file) c.loop-before.invariant.walked inside none, c.requires.there)

pub returns-clause-record : goal.returns-clause-record
returns-clause-record g c =
    let file = content (g.D.Disk.view c.args.disk.now).timeline.now in
    let here : content (g.D.Disk.view c.loop-before.disk).timeline.now ≡ file = ap (λ (l : Timeline). content l.now) c.loop-before.invariant.same in
    let base = c.args.base in
    let place = c.loop-before.place in
    let payload = c.in-Some-2.payload.items in
    let first : first_record (drop (place - base) (drop base file)) ≡ Some payload = ap first_record (from_base base place file c.loop-before.invariant.behind) ∙ ap (λ (l : List ℕ). first_record (drop place l)) (sym here) ∙ rw c.in-Some-2.is at c.in_ok-payload.ensures.some in
    let all : c.loop-before._before ≡ c.args.i = omega arith in
    sym (ap (λ (k : ℕ). slice_index_or (records_of (drop base file)) k []) (sym all) ∙ walked_at c.loop-before._before (place - base) (drop base file) payload c.loop-before.invariant.walked first)
