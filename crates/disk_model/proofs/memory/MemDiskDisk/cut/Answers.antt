use Rattle.std.proofs.Common.{◌≡◌, ◌≤◌, inr, List, [], ◌∷◌, ◌++◌, length, refl, sym, ◌∙◌, ap, subst, arith, length-take}
use Rattle.std.proofs.lemmas.Result.{on_ok_weaker}
use Rattle.std.specs.Vec.{vec_capacity}
use Rattle.disk_model.specs.Disk.{CutTo, Timeline, DiskView, with_change, followed}
use Rattle.disk_model.specs.Memory.{timeline_of}
use Rattle.disk_model.specs.MemoryKept.{IsKept}
use Rattle.disk_model.specs.declared.event.Event.{Event}
use Rattle.disk_model.specs.declared.event.Event.TheVariants.{Cut}
use Rattle.disk_model.proofs.Keeping.{stepped, kept_change, content_room}
use Rattle.disk_model.proofs.memory.MemDiskDisk.cut.Goals as goal

pub invariant_of-self-2 : goal.invariant_of-self-2
invariant_of-self-2 c =
    let i = c.self.inside in
    let e = Cut c.args.len in
    let pushed = c.push_reserved.ensures.items ∙ ap (λ (l : List Event). l ++ e ∷ []) c.reserve.ensures.items in
    let rooms = content_room i.live.items i.synced.items (vec_capacity i.live) (vec_capacity i.synced) i.events.items (vec_capacity i.events) i.pending c.self.invariant in
    let short : length c.truncate.new.self.items ≤ length i.live.items = omega (arith, ap length c.truncate.ensures.items, length-take c.args.len i.live.items) in
    let kept = kept_change i.live.items i.synced.items (vec_capacity i.live) (vec_capacity i.synced) i.events.items (vec_capacity i.events) i.pending c.self.invariant
    (CutTo c.args.len) e c.truncate.new.self.items (vec_capacity c.truncate.new.self) (vec_capacity i.synced) (vec_capacity c.push_reserved.new.self) refl refl
    c.truncate.ensures.items (omega (arith, c.truncate.ensures.capacity)) (omega (arith, short, rooms.0, c.truncate.ensures.capacity)) (omega arith) (omega (arith, short, rooms.1))
    (omega (arith, c.in_ok-reserve.ensures.ok, c.reserve.ensures.len, c.push_reserved.ensures.capacity, i.events.ok)) in
    subst (λ (l : List Event). IsKept c.truncate.new.self.items i.synced.items (vec_capacity c.truncate.new.self) (vec_capacity i.synced) l (vec_capacity c.push_reserved.new.self) i.pending) (sym pushed) kept

now_made : (c : goal.After-count_change) → c.count_change.new.self.timeline ≡ followed c.args.self.now.timeline (with_change c.args.self.now.timeline.now (CutTo c.args.len))
now_made c =
    let i = c.self.inside in
    let e = Cut c.args.len in
    let pushed = c.push_reserved.ensures.items ∙ ap (λ (l : List Event). l ++ e ∷ []) c.reserve.ensures.items in
    let t : timeline_of i.events.items ≡ c.args.self.now.timeline = ap (λ (w : DiskView). w.timeline) c.self.view_is in
    c.count_change.ensures.same ∙ stepped c.args.self.now.timeline i.events.items c.push_reserved.new.self.items e (λ m. with_change m (CutTo c.args.len)) pushed t refl

pub returns-clause-time : goal.returns-clause-time
returns-clause-time c = inr (now_made c)

pub returns-clause-made : goal.returns-clause-made
returns-clause-made c = λ _. inr (now_made c)

pub returns-clause-ok : goal.returns-clause-ok
returns-clause-ok c = on_ok_weaker c.count_change.result (λ running. (ap (λ (l : Timeline). l.now) (now_made c), running ∙ c.if-self.false)) c.count_change.ensures.running
