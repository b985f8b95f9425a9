use Rattle.std.proofs.Common.{◌≡◌, ◌+◌, ◌≤◌, ◌∙◌, sym, false, Result, Ok, Err, arith}
use Rattle.std.proofs.lemmas.Bool.{true≢false}
use Rattle.std.specs.Result.{is_err, OnOk}
use Rattle.std.specs.Vec.{vec_len, vec_capacity}
use Rattle.disk_model.specs.declared.memory.MemDisk.{MemDisk}
use Rattle.file_loglet.specs.declared.file.FileLoglet.{FileLoglet}
use Rattle.loglet_api.specs.View.{IsFresh}
use Rattle.loglet_api.specs.Sound.{IsSound}
use Rattle.worked_nodes.proofs.Free.{all_three}
use Rattle.worked_nodes.proofs.shelf.fabric_on_three.Goals as goal

pub new-requires-clause-fresh : goal.new-requires-clause-fresh
new-requires-clause-fresh c =
    all_three (λ (l : FileLoglet MemDisk). IsFresh l.loglet) _ _ _ _ _ _ _ (c.reserve.ensures.items ∙ c.new-cells.ensures.items) c.push_reserved.ensures.items c.push_reserved-2.ensures.items c.push_reserved-3.ensures.items
    c.in_ok-first.ensures.fresh c.in_ok-second.ensures.fresh c.in_ok-third.ensures.fresh

pub new-requires-clause-sound : goal.new-requires-clause-sound
new-requires-clause-sound c =
    all_three (λ (l : FileLoglet MemDisk). IsSound l.loglet) _ _ _ _ _ _ _ (c.reserve.ensures.items ∙ c.new-cells.ensures.items) c.push_reserved.ensures.items c.push_reserved-2.ensures.items c.push_reserved-3.ensures.items
    c.in_ok-first.ensures.sound c.in_ok-second.ensures.sound c.in_ok-third.ensures.sound

-- what holds where there is a value
holds : {A E P : Type 0} (r : Result A E) → is_err r ≡ false → OnOk r P → P
holds (Ok a) never it = it
holds (Err e) never it = absurd (true≢false never)

pub push_reserved-requires-3 : goal.push_reserved-requires-3
push_reserved-requires-3 c =
    let room : vec_len c.reserve.new.self + 3 ≤ vec_capacity c.reserve.new.self = holds c.reserve.result (sym c.is_err.ensures.value ∙ c.if-is_err.false) c.reserve.ensures.ok in
    let one = c.push_reserved.ensures.len in
    let two = c.push_reserved-2.ensures.len in
    let same = c.push_reserved.ensures.capacity in
    let still = c.push_reserved-2.ensures.capacity in
    omega (arith, room, one, two, same, still)
