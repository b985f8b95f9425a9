use Rattle.std.proofs.Common.{◌≡◌, ℕ, ◌*◌, ◌^◌, ◌<◌, ◌≤◌, length, arith}
use Rattle.striped_loglet.proofs.Places.{view_at}
use Rattle.striped_loglet.proofs.shape.shape_of.Goals as goal

pub overflow_mul-result : goal.overflow_mul-result
overflow_mul-result g c =
    let some = c.requires.count.0 in
    let at = view_at g.L.Loglet.view c.args.stripes.now 0 c.index-stripes-0.result (omega (arith, some)) c.index-stripes-0.is in
    let most = c.requires.room 0 (g.L.Loglet.view c.index-stripes-0.result) at in
    let fits : length c.args.stripes.now * c.room-room.result < 2 ^ 64 = small (length c.args.stripes.now) c.room-room.result (g.L.Loglet.view c.index-stripes-0.result).room c.room-room.ensures most in
    omega (arith, fits)
  where
    small : (m r room : ℕ) → r ≡ room → m * room ≤ 2 ^ 32 → m * r < 2 ^ 64
    small m r room e l = rw e (omega (arith, l))
