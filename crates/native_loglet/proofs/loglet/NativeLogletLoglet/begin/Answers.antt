use Rattle.std.proofs.Common.{◌≡◌, ◌+◌, refl, ap, arith, length}
use Rattle.native_loglet.specs.Natives.{Native, native_of}
use Rattle.native_loglet.proofs.Alike.{shows, entries_small, alike_owned, step_alike, same_owned, servers_few, added_alike}
use Rattle.native_loglet.specs.declared.marks.Marks.{Marks}
use Rattle.native_loglet.proofs.Beginning.{full_of, space_of, begun_small, begun_on, cut_rises, let_go_kept}
use Rattle.native_loglet.proofs.Wholes.{refuses_whole, begins_whole}
use Rattle.native_loglet.proofs.Goes.{goes_from, same_goes, stays_goes, refuses_goes, begins_goes}
use Rattle.native_loglet.proofs.loglet.NativeLogletLoglet.begin.Goals as goal

pub invariant_of-self : goal.invariant_of-self
invariant_of-self g c =
    let i = c.self.inside in
    let a : Native = native_of i.room i.entries.items i.replicas.items i.marks i.pending.entries i.strays in
    let many : (i.marks.cut + c.len-kept.result) ≡ i.marks.cut + length i.entries.items = omega (arith, c.len-kept.ensures, i.entries.ok.0) in
    (refuses_whole a c.after-self-inside.result _ c.args.op (shows a _ c.self.view_is) c.self.invariant c.requires (full_of a c.args.op (i.marks.cut + c.len-kept.result) many (c.if-is_full.ensures.0 refl)) c.after-self-inside.ensures).0

pub returns-then-is_full-clause-step : goal.returns-then-is_full-clause-step
returns-then-is_full-clause-step g c =
    let i = c.self.inside in
    let a : Native = native_of i.room i.entries.items i.replicas.items i.marks i.pending.entries i.strays in
    let many : (i.marks.cut + c.len-kept.result) ≡ i.marks.cut + length i.entries.items = omega (arith, c.len-kept.ensures, i.entries.ok.0) in
    (refuses_whole a c.after-self-inside.result _ c.args.op (shows a _ c.self.view_is) c.self.invariant c.requires (full_of a c.args.op (i.marks.cut + c.len-kept.result) many (c.if-is_full.ensures.0 refl)) c.after-self-inside.ensures).1

pub begun-marks-requires-clause-begun : goal.begun-marks-requires-clause-begun
begun-marks-requires-clause-begun g c =
    let i = c.self.inside in
    let a : Native = native_of i.room i.entries.items i.replicas.items i.marks i.pending.entries i.strays in
    let many : (i.marks.cut + c.len-kept.result) ≡ i.marks.cut + length i.entries.items = omega (arith, c.len-kept.ensures, i.entries.ok.0) in
    (begun_small a c.args.op c.self.invariant (space_of a c.args.op (i.marks.cut + c.len-kept.result) many (λ p. (let t = c.if-is_full.ensures.1 p in cc)))).0

pub begun-marks-requires-clause-seals : goal.begun-marks-requires-clause-seals
begun-marks-requires-clause-seals g c =
    let i = c.self.inside in
    let a : Native = native_of i.room i.entries.items i.replicas.items i.marks i.pending.entries i.strays in
    let many : (i.marks.cut + c.len-kept.result) ≡ i.marks.cut + length i.entries.items = omega (arith, c.len-kept.ensures, i.entries.ok.0) in
    (begun_small a c.args.op c.self.invariant (space_of a c.args.op (i.marks.cut + c.len-kept.result) many (λ p. (let t = c.if-is_full.ensures.1 p in cc)))).1

pub begin_on-requires-clause-few : goal.begin_on-requires-clause-few
begin_on-requires-clause-few g c =
    let i = c.self.inside in
    let a : Native = native_of i.room i.entries.items i.replicas.items i.marks i.pending.entries i.strays in
    omega (arith, servers_few a c.self.invariant, c.deref.ensures.len)

pub begin_on-requires-clause-size : goal.begin_on-requires-clause-size
begin_on-requires-clause-size g c =
    let i = c.self.inside in
    let a : Native = native_of i.room i.entries.items i.replicas.items i.marks i.pending.entries i.strays in
    let many : (i.marks.cut + c.len-kept.result) ≡ i.marks.cut + length i.entries.items = omega (arith, c.len-kept.ensures, i.entries.ok.0) in
    (let few = (begun_small a c.args.op c.self.invariant (space_of a c.args.op (i.marks.cut + c.len-kept.result) many (λ p. (let t = c.if-is_full.ensures.1 p in cc)))).2 in omega (arith, few, many))

pub invariant_of-self-in_default-add : goal.invariant_of-self-in_default-add
invariant_of-self-in_default-add g c =
    let i = c.self.inside in
    let a : Native = native_of i.room i.entries.items i.replicas.items i.marks i.pending.entries i.strays in
    let b : Native = native_of i.room c.add.new.entries.items i.replicas.items i.marks c.add.new.pending.entries i.strays in
    alike_owned a b (added_alike i.strays i.room i.entries.items c.add.new.entries.items i.replicas.items i.marks i.pending.entries c.add.new.pending.entries c.in_default-add.ensures.err.0 c.in_default-add.ensures.err.1) c.self.invariant

pub returns-in_default-clause-step : goal.returns-in_default-clause-step
returns-in_default-clause-step g c =
    let i = c.self.inside in
    let a : Native = native_of i.room i.entries.items i.replicas.items i.marks i.pending.entries i.strays in
    same_owned a _ _ _ (shows a _ c.self.view_is) c.self.invariant c.requires refl

pub returns-in_default-add-clause-step : goal.returns-in_default-add-clause-step
returns-in_default-add-clause-step g c =
    let i = c.self.inside in
    let a : Native = native_of i.room i.entries.items i.replicas.items i.marks i.pending.entries i.strays in
    let b : Native = native_of i.room c.add.new.entries.items i.replicas.items i.marks c.add.new.pending.entries i.strays in
    step_alike a b _ _ _ (shows a _ c.self.view_is) c.self.invariant (added_alike i.strays i.room i.entries.items c.add.new.entries.items i.replicas.items i.marks i.pending.entries c.add.new.pending.entries c.in_default-add.ensures.err.0 c.in_default-add.ensures.err.1) c.requires refl

pub invariant_of-self-2 : goal.invariant_of-self-2
invariant_of-self-2 g c =
    let i = c.self.inside in
    let a : Native = native_of i.room i.entries.items i.replicas.items i.marks i.pending.entries i.strays in
    let many : (i.marks.cut + c.len-kept.result) ≡ i.marks.cut + length i.entries.items = omega (arith, c.len-kept.ensures, i.entries.ok.0) in
    (begins_whole a c.let_go.new.entries.items c.begun-marks.result _ c.args.op c.in-Ok.p c.add.new.pending.entries (shows a _ c.self.view_is) c.self.invariant c.requires (space_of a c.args.op (i.marks.cut + c.len-kept.result) many (λ p. (let t = c.if-is_full.ensures.1 p in cc)))
    (begun_on a c.args.op (i.marks.cut + c.len-kept.result) c.begun-marks.result.cut c.deref.result.now c.in-Ok.p many (ap (λ (m : Marks). m.cut) c.begun-marks.ensures) c.deref.ensures.value c.in-Ok.ensures)
    c.in-Ok-add.ensures.pending (let_go_kept a c.args.op c.add.new.entries.items c.let_go.new.entries.items c.begun-marks.result c.begun-marks.ensures c.in-Ok-add.ensures.entries c.let_go.ensures) c.begun-marks.ensures).0

pub returns-clause-step : goal.returns-clause-step
returns-clause-step g c =
    let i = c.self.inside in
    let a : Native = native_of i.room i.entries.items i.replicas.items i.marks i.pending.entries i.strays in
    let many : (i.marks.cut + c.len-kept.result) ≡ i.marks.cut + length i.entries.items = omega (arith, c.len-kept.ensures, i.entries.ok.0) in
    rw c.new.ensures
    (begins_whole a c.let_go.new.entries.items c.begun-marks.result _ c.args.op c.in-Ok.p c.add.new.pending.entries (shows a _ c.self.view_is) c.self.invariant c.requires (space_of a c.args.op (i.marks.cut + c.len-kept.result) many (λ p. (let t = c.if-is_full.ensures.1 p in cc)))
    (begun_on a c.args.op (i.marks.cut + c.len-kept.result) c.begun-marks.result.cut c.deref.result.now c.in-Ok.p many (ap (λ (m : Marks). m.cut) c.begun-marks.ensures) c.deref.ensures.value c.in-Ok.ensures)
    c.in-Ok-add.ensures.pending (let_go_kept a c.args.op c.add.new.entries.items c.let_go.new.entries.items c.begun-marks.result c.begun-marks.ensures c.in-Ok-add.ensures.entries c.let_go.ensures) c.begun-marks.ensures).1

pub returns-then-is_full-clause-goes : goal.returns-then-is_full-clause-goes
returns-then-is_full-clause-goes g c =
    let i = c.self.inside in
    let a : Native = native_of i.room i.entries.items i.replicas.items i.marks i.pending.entries i.strays in
    let many : (i.marks.cut + c.len-kept.result) ≡ i.marks.cut + length i.entries.items = omega (arith, c.len-kept.ensures, i.entries.ok.0) in
    goes_from a _ _ _ _ c.self.view_is c.requires (λ can. refuses_goes a c.after-self-inside.result c.args.op c.self.invariant can (full_of a c.args.op (i.marks.cut + c.len-kept.result) many (c.if-is_full.ensures.0 refl)) c.after-self-inside.ensures)

pub returns-in_default-clause-goes : goal.returns-in_default-clause-goes
returns-in_default-clause-goes g c =
    let i = c.self.inside in
    let a : Native = native_of i.room i.entries.items i.replicas.items i.marks i.pending.entries i.strays in
    same_goes a _ _ _ c.self.view_is c.requires c.self.invariant refl (λ d. refl)

pub returns-in_default-add-clause-goes : goal.returns-in_default-add-clause-goes
returns-in_default-add-clause-goes g c =
    let i = c.self.inside in
    let a : Native = native_of i.room i.entries.items i.replicas.items i.marks i.pending.entries i.strays in
    let b : Native = native_of i.room c.add.new.entries.items i.replicas.items i.marks c.add.new.pending.entries i.strays in
    goes_from a _ _ _ b c.self.view_is c.requires (λ can. stays_goes a b _ _ c.self.invariant (added_alike i.strays i.room i.entries.items c.add.new.entries.items i.replicas.items i.marks i.pending.entries c.add.new.pending.entries c.in_default-add.ensures.err.0 c.in_default-add.ensures.err.1) can refl (λ d. refl))

pub returns-clause-goes : goal.returns-clause-goes
returns-clause-goes g c =
    let i = c.self.inside in
    let a : Native = native_of i.room i.entries.items i.replicas.items i.marks i.pending.entries i.strays in
    let many : (i.marks.cut + c.len-kept.result) ≡ i.marks.cut + length i.entries.items = omega (arith, c.len-kept.ensures, i.entries.ok.0) in
    rw c.new.ensures
    (goes_from a _ _ _ _ c.self.view_is c.requires (λ can. begins_goes a c.let_go.new.entries.items c.begun-marks.result c.args.op c.in-Ok.p c.add.new.pending.entries c.self.invariant can (space_of a c.args.op (i.marks.cut + c.len-kept.result) many (λ p. (let t = c.if-is_full.ensures.1 p in cc)))
    (begun_on a c.args.op (i.marks.cut + c.len-kept.result) c.begun-marks.result.cut c.deref.result.now c.in-Ok.p many (ap (λ (m : Marks). m.cut) c.begun-marks.ensures) c.deref.ensures.value c.in-Ok.ensures)
    c.in-Ok-add.ensures.pending (let_go_kept a c.args.op c.add.new.entries.items c.let_go.new.entries.items c.begun-marks.result c.begun-marks.ensures c.in-Ok-add.ensures.entries c.let_go.ensures) c.begun-marks.ensures))

pub overflow_add-size : goal.overflow_add-size
overflow_add-size g c =
    let i = c.self.inside in
    let a : Native = native_of i.room i.entries.items i.replicas.items i.marks i.pending.entries i.strays in
    (let small = entries_small a c.self.invariant in omega (arith, small, c.len-kept.ensures, i.entries.ok.0))

pub overflow_sub-marks : goal.overflow_sub-marks
overflow_sub-marks g c = cut_rises c.args.op c.self.inside.marks c.begun-marks.result (ap (λ (m : Marks). m.cut) c.begun-marks.ensures)
