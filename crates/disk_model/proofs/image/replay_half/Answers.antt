use Rattle.std.proofs.Common.{◌≡◌, ◌≤◌, ℕ, ◌-◌, ◌/◌, List, [], ◌∷◌, ◌++◌, length, take, refl, sym, ◌∙◌, ap, arith, length-take}
use Rattle.std.specs.Vec.{vec_capacity}
use Rattle.disk_model.specs.Disk.{Written, changed}
use Rattle.disk_model.specs.declared.event.Event.{Event}
use Rattle.disk_model.specs.declared.event.Event.TheVariants.{Write, Cut, Sync, Reopen}
use Rattle.disk_model.proofs.Halving.{half_write, half_cut, half_room, front_room, last_split, last_any, not_last}
use Rattle.disk_model.proofs.image.replay_half.Goals as goal

pub replay-requires : goal.replay-requires
replay-requires c =
    let es = c.args.events.now in
    let n = length es - 1 in
    let split = last_any es n refl c.requires.changes.1 in
    record { room = front_room (take n es) c.args.to.now.items _ es (vec_capacity c.args.to.now) split c.requires.room }

pub put-requires : goal.put-requires
put-requires c =
    let es = c.args.events.now in
    let n = length es - 1 in
    let v = c.in-Write.bytes in
    let split : es ≡ take n es ++ Write c.in-Write.at v ∷ [] = last_split es n c.index-events-last.result refl c.requires.changes.1 c.index-events-last.is ∙ ap (λ (x : Event). take n es ++ x ∷ []) c.in-Write.is in
    let short : length (take (c.len.result / 2) c.deref.result.now) ≤ length v.items = omega (arith, length-take (c.len.result / 2) c.deref.result.now, ap length c.deref.ensures.value) in
    let fits = half_room (take n es) c.args.to.now.items c.in-Write.at v es (vec_capacity c.args.to.now) (take (c.len.result / 2) c.deref.result.now) c.replay.new.to.items split c.requires.room short c.replay.ensures.made in
    record { room = omega (arith, fits, c.replay.ensures.capacity) }

pub returns-in-Write-clause-made : goal.returns-in-Write-clause-made
returns-in-Write-clause-made c =
    let es = c.args.events.now in
    let n = length es - 1 in
    let b = c.args.to.now.items in
    let at = c.in-Write.at in
    let v = c.in-Write.bytes in
    let split : es ≡ take n es ++ Write at v ∷ [] = last_split es n c.index-events-last.result refl c.requires.changes.1 c.index-events-last.is ∙ ap (λ (x : Event). take n es ++ x ∷ []) c.in-Write.is in
    let counts : c.len.result ≡ length v.items = omega (arith, c.len.ensures, v.ok) in
    let half : take (c.len.result / 2) c.deref.result.now ≡ take (length v.items / 2) v.items =
    ap (λ (k : ℕ). take (k / 2) c.deref.result.now) counts ∙ ap (λ (l : List ℕ). take (length v.items / 2) l) c.deref.ensures.value in
    c.put.ensures.put ∙ ap (λ (l : List ℕ). changed (Written at l) c.replay.new.to.items) half
    ∙ ap (λ (l : List ℕ). changed (Written at (take (length v.items / 2) v.items)) l) c.replay.ensures.made ∙ sym (half_write (take n es) b at v es split)

pub returns-in-Cut-clause-made : goal.returns-in-Cut-clause-made
returns-in-Cut-clause-made c =
    let es = c.args.events.now in
    let n = length es - 1 in
    let split : es ≡ take n es ++ Cut c.in-Cut.field-0 ∷ [] = last_split es n c.index-events-last.result refl c.requires.changes.1 c.index-events-last.is ∙ ap (λ (x : Event). take n es ++ x ∷ []) c.in-Cut.is in
    c.replay.ensures.made ∙ sym (half_cut (take n es) c.args.to.now.items c.in-Cut.field-0 es split)

pub returns-in-Sync-clause-made : goal.returns-in-Sync-clause-made
returns-in-Sync-clause-made c =
    let es = c.args.events.now in
    let n = length es - 1 in
    let split : es ≡ take n es ++ Sync ∷ [] = last_split es n c.index-events-last.result refl c.requires.changes.1 c.index-events-last.is ∙ ap (λ (x : Event). take n es ++ x ∷ []) c.in-Sync.is in
    absurd (not_last es n Sync refl c.requires.changes.1 c.requires.changes.0 split refl)

pub returns-in-Reopen-clause-made : goal.returns-in-Reopen-clause-made
returns-in-Reopen-clause-made c =
    let es = c.args.events.now in
    let n = length es - 1 in
    let split : es ≡ take n es ++ Reopen c.in-Reopen.field-0 ∷ [] = last_split es n c.index-events-last.result refl c.requires.changes.1 c.index-events-last.is ∙ ap (λ (x : Event). take n es ++ x ∷ []) c.in-Reopen.is in
    absurd (not_last es n (Reopen c.in-Reopen.field-0) refl c.requires.changes.1 c.requires.changes.0 split refl)
