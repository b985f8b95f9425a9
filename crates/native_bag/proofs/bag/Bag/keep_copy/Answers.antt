use Rattle.std.proofs.Common.{◌≡◌, ◌<◌, ◌≤◌, ◌∙◌, List, sym, subst, arith, length}
use Rattle.native_bag.specs.Bags.{most_strays, kept_with}
use Rattle.native_bag.specs.Keys.{kept_of}
use Rattle.native_bag.proofs.Keeping.{kept_length, full_keeps, room_keeps, ok_then}
use Rattle.native_bag.proofs.bag.Bag.keep_copy.Goals as goal

pub returns-then-len-ge-MOST_STRAYS-clause-strays : goal.returns-then-len-ge-MOST_STRAYS-clause-strays
returns-then-len-ge-MOST_STRAYS-clause-strays g c =
    let full : most_strays ≤ length (kept_of c.self.inside.copies c.self.inside.keys.items) = omega (arith, c.if-len-ge-MOST_STRAYS.true, c.len.ensures, c.self.inside.keys.ok, kept_length c.self.inside.copies c.self.inside.keys.items c.self.invariant.there) in
    subst (λ (b : List g.row.M.Denot). b ≡ kept_with c.args.copy b) c.self.view_is (full_keeps c.args.copy _ full)

pub returns-clause-strays : goal.returns-clause-strays
returns-clause-strays g c =
    let room : length (kept_of c.self.inside.copies c.self.inside.keys.items) < most_strays = omega (arith, c.if-len-ge-MOST_STRAYS.false, c.len.ensures, c.self.inside.keys.ok, kept_length c.self.inside.copies c.self.inside.keys.items c.self.invariant.there) in
    ok_then c.keep_in.result (λ h. subst (λ (b : List g.row.M.Denot). kept_of c.keep_in.new.copies c.keep_in.new.keys.items ≡ kept_with c.args.copy b) c.self.view_is ((h c.self.invariant).are ∙ sym (room_keeps c.args.copy _ room))) c.keep_in.ensures.ok

pub returns-clause-full : goal.returns-clause-full
returns-clause-full g c = λ full.
    let room : length (kept_of c.self.inside.copies c.self.inside.keys.items) < most_strays = omega (arith, c.if-len-ge-MOST_STRAYS.false, c.len.ensures, c.self.inside.keys.ok, kept_length c.self.inside.copies c.self.inside.keys.items c.self.invariant.there) in
    let less : length c.args.self.now < most_strays = subst (λ (b : List g.row.M.Denot). length b < most_strays) c.self.view_is room in
    absurd (omega (arith, full, less))
