use Rattle.std.proofs.Common.{◌≡◌, inr, ℕ, List, [], ◌∷◌, ◌++◌, length, sym, ◌∙◌, ap, subst, arith, rules}
use Rattle.std.proofs.lemmas.Result.{on_ok_weaker}
use Rattle.std.specs.Vec.{vec_capacity}
use Rattle.disk_model.specs.Disk.{Written, changed, Timeline, DiskView, with_change, followed}
use Rattle.disk_model.specs.Memory.{timeline_of}
use Rattle.disk_model.specs.MemoryKept.{IsKept}
use Rattle.disk_model.specs.declared.event.Event.{Event}
use Rattle.disk_model.specs.declared.event.Event.TheVariants.{Write}
use Rattle.disk_model.proofs.Images.{length-changed}
use Rattle.disk_model.proofs.Keeping.{stepped, kept_change}
use Rattle.disk_model.proofs.memory.MemDiskDisk.write_at.Goals as goal

pub invariant_of-self-2 : goal.invariant_of-self-2
invariant_of-self-2 c =
    let i = c.self.inside in
    let es = i.events.items in
    let bytes = c.args.bytes.now in
    let e = Write c.args.at c.in_ok-kept.kept in
    let copied : c.in_ok-kept.kept.items ≡ bytes = search rules in
    let pushed = c.push_reserved.ensures.items ∙ ap (λ (l : List Event). l ++ e ∷ []) c.reserve-3.ensures.items in
    let live_is : c.put.new.to.items ≡ changed (Written c.args.at bytes) i.live.items =
    c.put.ensures.put ∙ ap (λ (l : List ℕ). changed (Written c.args.at bytes) l) c.reserve.ensures.items in
    let long = ap length live_is ∙ length-changed c.args.at bytes i.live.items in
    let kept = kept_change i.live.items i.synced.items (vec_capacity i.live) (vec_capacity i.synced) es (vec_capacity i.events) i.pending c.self.invariant
    (Written c.args.at bytes) e c.put.new.to.items (vec_capacity c.put.new.to) (vec_capacity c.reserve-2.new.self) (vec_capacity c.push_reserved.new.self)
    (ap (λ (l : List ℕ). with_change (timeline_of es).now (Written c.args.at l)) copied) (ap (λ (l : List ℕ). Written c.args.at l ∷ []) copied)
    live_is
    (omega (arith, c.put.ensures.capacity, c.reserve.ensures.capacity))
    (omega (arith, long, c.in_ok-reserve.ensures.ok, c.reserve.ensures.len, c.put.ensures.capacity, c.saturating_sub.ensures, c.len.ensures, i.live.ok))
    (omega (arith, c.reserve-2.ensures.capacity))
    (omega (arith, long, c.in_ok-reserve-2.ensures.ok, c.reserve-2.ensures.len, c.reserve.ensures.len, c.max.ensures, c.saturating_sub-2.ensures, c.len-2.ensures, c.len-3.ensures, i.live.ok, i.synced.ok))
    (omega (arith, c.in_ok-reserve-3.ensures.ok, c.reserve-3.ensures.len, c.push_reserved.ensures.capacity, i.events.ok)) in
    subst (λ (l : List Event). IsKept c.put.new.to.items c.reserve-2.new.self.items (vec_capacity c.put.new.to) (vec_capacity c.reserve-2.new.self) l (vec_capacity c.push_reserved.new.self) i.pending) (sym pushed)
    (subst (λ (l : List ℕ). IsKept c.put.new.to.items l (vec_capacity c.put.new.to) (vec_capacity c.reserve-2.new.self) (es ++ e ∷ []) (vec_capacity c.push_reserved.new.self) i.pending) (sym c.reserve-2.ensures.items) kept)

now_made : (c : goal.After-count_change-2) → c.count_change-2.new.self.timeline ≡ followed c.args.self.now.timeline (with_change c.args.self.now.timeline.now (Written c.args.at c.args.bytes.now))
now_made c =
    let i = c.self.inside in
    let es = i.events.items in
    let e = Write c.args.at c.in_ok-kept.kept in
    let copied : c.in_ok-kept.kept.items ≡ c.args.bytes.now = search rules in
    let pushed = c.push_reserved.ensures.items ∙ ap (λ (l : List Event). l ++ e ∷ []) c.reserve-3.ensures.items in
    let t : timeline_of es ≡ c.args.self.now.timeline = ap (λ (w : DiskView). w.timeline) c.self.view_is in
    c.count_change-2.ensures.same ∙ stepped c.args.self.now.timeline es c.push_reserved.new.self.items e (λ m. with_change m (Written c.args.at c.args.bytes.now)) pushed t
    (ap (λ (l : List ℕ). with_change (timeline_of es).now (Written c.args.at l)) copied)

pub returns-clause-time : goal.returns-clause-time
returns-clause-time c = inr (now_made c)

pub returns-clause-made : goal.returns-clause-made
returns-clause-made c = λ _ _. inr (now_made c)

pub returns-clause-ok : goal.returns-clause-ok
returns-clause-ok c = on_ok_weaker c.count_change-2.result (λ running. (ap (λ (l : Timeline). l.now) (now_made c), running ∙ c.if-self.false)) c.count_change-2.ensures.running
