use Rattle.std.proofs.Common.{◌≡◌, inr, ℕ, ◌+◌, List, ◌++◌, length, Bool, true, is_ok, if◌then◌else◌, refl, sym, ◌∙◌, ap, subst, arith}
use Rattle.std.specs.Vec.{vec_capacity}
use Rattle.disk_model.specs.Disk.{Moment, content, at_rest, Timeline, DiskView, followed}
use Rattle.disk_model.specs.Crash.{IsImage}
use Rattle.disk_model.specs.Memory.{timeline_of, image}
use Rattle.disk_model.specs.MemoryKept.{IsKept}
use Rattle.disk_model.specs.declared.event.Event.{Event}
use Rattle.disk_model.specs.declared.event.Event.TheVariants.{Reopen}
use Rattle.disk_model.proofs.Images.{image_is}
use Rattle.disk_model.proofs.Keeping.{stepped, kept_rest, image_room, picked_now}
use Rattle.disk_model.proofs.memory.MemDiskDisk.reopen.Goals as goal

pub unwrap-requires : goal.unwrap-requires
unwrap-requires c =
    let i = c.self.inside in
    let picked = picked_now i.live.items i.synced.items (vec_capacity i.live) (vec_capacity i.synced) i.events.items (vec_capacity i.events) i.pending c.self.invariant c.args.word c.deref.result.now c.pick.new.to.items c.deref.ensures.value c.pick.ensures.picked in
    let rooms = image_room i.live.items i.synced.items (vec_capacity i.live) (vec_capacity i.synced) i.events.items (vec_capacity i.events) i.pending c.self.invariant c.args.word in
    c.extend_from_slice.ensures.succeeds (omega (arith, c.clear.ensures.len, c.clear.ensures.capacity, rooms.0, ap length (c.deref-2.ensures.value ∙ picked)))

pub invariant_of-self-2 : goal.invariant_of-self-2
invariant_of-self-2 c =
    let i = c.self.inside in
    let es = i.events.items in
    let fs = c.push_reserved.new.self.items in
    let m = (timeline_of es).now in
    let bytes = image c.args.word m in
    let room_live = vec_capacity c.extend_from_slice.new.self in
    let room_synced = vec_capacity c.pick.new.to in
    let room = vec_capacity c.push_reserved.new.self in
    let picked = picked_now i.live.items i.synced.items (vec_capacity i.live) (vec_capacity i.synced) es (vec_capacity i.events) i.pending c.self.invariant c.args.word c.deref.result.now c.pick.new.to.items c.deref.ensures.value c.pick.ensures.picked in
    let rooms = image_room i.live.items i.synced.items (vec_capacity i.live) (vec_capacity i.synced) es (vec_capacity i.events) i.pending c.self.invariant c.args.word in
    let fine : is_ok c.extend_from_slice.result ≡ true = ap is_ok c.unwrap.ensures in
    let live : c.extend_from_slice.new.self.items ≡ bytes =
    c.extend_from_slice.ensures.items ∙ ap (λ (t : Bool). if t then c.clear.new.self.items ++ c.deref-2.result.now else c.clear.new.self.items) fine
    ∙ ap (λ (l : List ℕ). l ++ c.deref-2.result.now) c.clear.ensures.items ∙ c.deref-2.ensures.value ∙ picked in
    let counts : c.len-end.result + 1 ≡ length es + 1 = omega (arith, c.len-end.ensures, i.events.ok) in
    let kept = kept_rest i.live.items i.synced.items (vec_capacity i.live) (vec_capacity i.synced) es (vec_capacity i.events) i.pending c.self.invariant
    (Reopen c.args.word) bytes room_live room_synced room (c.len-end.result + 1) refl
    (omega (arith, rooms.0, c.extend_from_slice.ensures.capacity, c.clear.ensures.capacity)) (omega (arith, rooms.1, c.pick.ensures.capacity)) counts in
    subst (λ (l : List ℕ). IsKept l c.pick.new.to.items room_live room_synced fs room (c.len-end.result + 1)) (sym live)
    (subst (λ (l : List ℕ). IsKept bytes l room_live room_synced fs room (c.len-end.result + 1)) (sym picked)
    (subst (λ (l : List Event). IsKept bytes bytes room_live room_synced l room (c.len-end.result + 1)) (sym c.push_reserved.ensures.items) kept))

now_picked : (c : goal.After-self-4-1) → timeline_of c.push_reserved.new.self.items ≡ followed c.args.self.now.timeline (at_rest (image c.args.word c.args.self.now.timeline.now))
now_picked c =
    let t : timeline_of c.self.inside.events.items ≡ c.args.self.now.timeline = ap (λ (w : DiskView). w.timeline) c.self.view_is in
    stepped c.args.self.now.timeline c.self.inside.events.items c.push_reserved.new.self.items (Reopen c.args.word) (λ m. at_rest (image c.args.word m)) c.push_reserved.ensures.items t refl

pub returns-clause-time : goal.returns-clause-time
returns-clause-time c =
    let now = ap (λ (l : Timeline). l.now) (now_picked c) in
    inr (now_picked c ∙ ap (λ (k : Moment). followed c.args.self.now.timeline k) (ap at_rest (sym (ap content now))))

pub returns-clause-ok : goal.returns-clause-ok
returns-clause-ok c =
    let m = c.args.self.now.timeline.now in
    let now = ap (λ (l : Timeline). l.now) (now_picked c) in
    (now ∙ ap at_rest (sym (ap content now)), subst (λ (l : List ℕ). IsImage m l) (sym (ap content now)) (image_is c.args.word m), refl, refl)

pub returns-clause-picked : goal.returns-clause-picked
returns-clause-picked c = ap content (ap (λ (l : Timeline). l.now) (now_picked c))
