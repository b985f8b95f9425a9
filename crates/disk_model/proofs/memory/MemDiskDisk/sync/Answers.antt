use Rattle.std.proofs.Common.{◌≡◌, inr, ℕ, ◌+◌, List, length, refl, sym, ap, subst, arith}
use Rattle.std.specs.Vec.{vec_capacity}
use Rattle.disk_model.specs.Disk.{content, at_rest, Timeline, DiskView, followed, reads}
use Rattle.disk_model.specs.Memory.{timeline_of}
use Rattle.disk_model.specs.MemoryKept.{IsKept}
use Rattle.disk_model.specs.declared.event.Event.{Event}
use Rattle.disk_model.specs.declared.event.Event.TheVariants.{Sync}
use Rattle.disk_model.proofs.Keeping.{stepped, kept_rest, content_room, replayed_now}
use Rattle.disk_model.proofs.memory.MemDiskDisk.sync.Goals as goal

pub invariant_of-self : goal.invariant_of-self
invariant_of-self c =
    let i = c.self.inside in
    let es = i.events.items in
    let fs = c.push_reserved.new.self.items in
    let m = (timeline_of es).now in
    let inv = c.self.invariant in
    let same = replayed_now i.live.items i.synced.items (vec_capacity i.live) (vec_capacity i.synced) es (vec_capacity i.events) i.pending inv c.deref.result.now c.replay.new.to.items c.deref.ensures.value c.replay.ensures.made in
    let rooms = content_room i.live.items i.synced.items (vec_capacity i.live) (vec_capacity i.synced) es (vec_capacity i.events) i.pending inv in
    let counts : c.len-end.result + 1 ≡ length es + 1 = omega (arith, c.len-end.ensures, i.events.ok) in
    let kept = kept_rest i.live.items i.synced.items (vec_capacity i.live) (vec_capacity i.synced) es (vec_capacity i.events) i.pending inv
    Sync i.live.items (vec_capacity i.live) (vec_capacity c.replay.new.to) (vec_capacity c.push_reserved.new.self) (c.len-end.result + 1) (ap at_rest (sym inv.live_is)) rooms.0 (omega (arith, rooms.1, c.replay.ensures.capacity)) counts in
    subst (λ (l : List ℕ). IsKept i.live.items l (vec_capacity i.live) (vec_capacity c.replay.new.to) fs (vec_capacity c.push_reserved.new.self) (c.len-end.result + 1)) (sym same)
    (subst (λ (l : List Event). IsKept i.live.items i.live.items (vec_capacity i.live) (vec_capacity c.replay.new.to) l (vec_capacity c.push_reserved.new.self) (c.len-end.result + 1)) (sym c.push_reserved.ensures.items) kept)

now_synced : (c : goal.After-self-1) → timeline_of c.push_reserved.new.self.items ≡ followed c.args.self.now.timeline (at_rest (reads c.args.self.now))
now_synced c =
    let t : timeline_of c.self.inside.events.items ≡ c.args.self.now.timeline = ap (λ (w : DiskView). w.timeline) c.self.view_is in
    stepped c.args.self.now.timeline c.self.inside.events.items c.push_reserved.new.self.items Sync (λ m. at_rest (content m)) c.push_reserved.ensures.items t refl

pub returns-clause-time : goal.returns-clause-time
returns-clause-time c = inr (now_synced c)

pub returns-clause-ok : goal.returns-clause-ok
returns-clause-ok c = ap (λ (l : Timeline). l.now) (now_synced c)
