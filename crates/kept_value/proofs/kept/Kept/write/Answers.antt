use Rattle.std.proofs.Common.{◌≡◌, ◌∙◌, ℕ, List, [], ◌∷◌, ◌++◌, sym, ap, refl, Err, Some}
use Rattle.journal_pair.specs.Journal as pair
use Rattle.kept_value.proofs.Laws.{inside, kept_inside, up_inside, during_inside, kept_as, can_as, calm_now, before_left, spelled_now, adding, after_left, left_as, kept_torn, kept_refused}
use Rattle.kept_value.proofs.kept.Kept.write.Goals as goal

pub spell-requires-clause-can : goal.spell-requires-clause-can
spell-requires-clause-can g c =
    let K = g.V.KeptValue.kind in
    let s = g.V.KeptValue.state c.args.value.now in
    let i = c.self.inside in
    let here = inside i.journal i.asked i.stands in
    let k = kept_inside K s here c.args.self.now c.self.view_is c.requires.kept in
    let mid = g.V.KeptValue.state c.make_room.new.self in
    let same : mid ≡ s = c.make_room.ensures.same in
    can_as K s mid c.args.change same c.requires.can

pub returns-in_err-make_room-clause-kept : goal.returns-in_err-make_room-clause-kept
returns-in_err-make_room-clause-kept g c =
    let K = g.V.KeptValue.kind in
    let s = g.V.KeptValue.state c.args.value.now in
    let mid = g.V.KeptValue.state c.make_room.new.self in
    let same : mid ≡ s = c.make_room.ensures.same in
    kept_as K s mid c.args.self.now same c.requires.kept

pub returns-in_err-make_room-clause-any_crash : goal.returns-in_err-make_room-clause-any_crash
returns-in_err-make_room-clause-any_crash g c =
    let K = g.V.KeptValue.kind in
    let s = g.V.KeptValue.state c.args.value.now in
    before_left K s c.args.change c.args.self.now c.args.self.now.journal.disk c.requires.kept c.requires.up refl

pub returns-in_err-bytes-clause-kept : goal.returns-in_err-bytes-clause-kept
returns-in_err-bytes-clause-kept g c =
    let K = g.V.KeptValue.kind in
    let s = g.V.KeptValue.state c.args.value.now in
    let i = c.self.inside in
    let here = inside i.journal i.asked i.stands in
    let k = kept_inside K s here c.args.self.now c.self.view_is c.requires.kept in
    let mid = g.V.KeptValue.state c.make_room.new.self in
    let same : mid ≡ s = c.make_room.ensures.same in
    kept_as K s mid c.args.self.now same c.requires.kept

pub returns-in_err-bytes-clause-any_crash : goal.returns-in_err-bytes-clause-any_crash
returns-in_err-bytes-clause-any_crash g c =
    let K = g.V.KeptValue.kind in
    let s = g.V.KeptValue.state c.args.value.now in
    let i = c.self.inside in
    let here = inside i.journal i.asked i.stands in
    let k = kept_inside K s here c.args.self.now c.self.view_is c.requires.kept in
    before_left K s c.args.change c.args.self.now c.args.self.now.journal.disk c.requires.kept c.requires.up refl

pub returns-in-Err-Disk-clause-any_crash : goal.returns-in-Err-Disk-clause-any_crash
returns-in-Err-Disk-clause-any_crash g c =
    let K = g.V.KeptValue.kind in
    let s = g.V.KeptValue.state c.args.value.now in
    let i = c.self.inside in
    let here = inside i.journal i.asked i.stands in
    let k = kept_inside K s here c.args.self.now c.self.view_is c.requires.kept in
    let up = up_inside here c.args.self.now c.self.view_is c.requires.up in
    let mid = g.V.KeptValue.state c.make_room.new.self in
    let same : mid ≡ s = c.make_room.ensures.same in
    let bytes = c.in_ok-bytes.bytes in
    let now_spelled : K.spelled i.journal.records ≡ Some mid = spelled_now K s here k up ∙ ap (λ (t : K.State). Some t) (sym same) in
    let next : K.spelled (i.journal.records ++ c.as_slice.result.now ∷ []) ≡ Some (K.changed s c.args.change) = ap (λ (b : List ℕ). K.spelled (i.journal.records ++ b ∷ [])) c.as_slice.ensures ∙ c.in_ok-bytes.ensures.follows i.journal.records now_spelled ∙ ap (λ (t : K.State). Some (K.changed t c.args.change)) same in
    let front = adding K s here k up c.args.change c.as_slice.result.now c.append.new.self.disk next c.append.ensures.any_crash in
    during_inside K s c.args.change here c.args.self.now c.append.new.self.disk c.self.view_is front

pub returns-in-Err-Memory-clause-any_crash : goal.returns-in-Err-Memory-clause-any_crash
returns-in-Err-Memory-clause-any_crash g c =
    let K = g.V.KeptValue.kind in
    let s = g.V.KeptValue.state c.args.value.now in
    let i = c.self.inside in
    let here = inside i.journal i.asked i.stands in
    let k = kept_inside K s here c.args.self.now c.self.view_is c.requires.kept in
    let up = up_inside here c.args.self.now c.self.view_is c.requires.up in
    let mid = g.V.KeptValue.state c.make_room.new.self in
    let same : mid ≡ s = c.make_room.ensures.same in
    let bytes = c.in_ok-bytes.bytes in
    let now_spelled : K.spelled i.journal.records ≡ Some mid = spelled_now K s here k up ∙ ap (λ (t : K.State). Some t) (sym same) in
    let next : K.spelled (i.journal.records ++ c.as_slice.result.now ∷ []) ≡ Some (K.changed s c.args.change) = ap (λ (b : List ℕ). K.spelled (i.journal.records ++ b ∷ [])) c.as_slice.ensures ∙ c.in_ok-bytes.ensures.follows i.journal.records now_spelled ∙ ap (λ (t : K.State). Some (K.changed t c.args.change)) same in
    let front = adding K s here k up c.args.change c.as_slice.result.now c.append.new.self.disk next c.append.ensures.any_crash in
    during_inside K s c.args.change here c.args.self.now c.append.new.self.disk c.self.view_is front

pub returns-in-Err-Disk-clause-kept : goal.returns-in-Err-Disk-clause-kept
returns-in-Err-Disk-clause-kept g c =
    let K = g.V.KeptValue.kind in
    let s = g.V.KeptValue.state c.args.value.now in
    let i = c.self.inside in
    let here = inside i.journal i.asked i.stands in
    let k = kept_inside K s here c.args.self.now c.self.view_is c.requires.kept in
    let up = up_inside here c.args.self.now c.self.view_is c.requires.up in
    let mid = g.V.KeptValue.state c.make_room.new.self in
    let same : mid ≡ s = c.make_room.ensures.same in
    let bytes = c.in_ok-bytes.bytes in
    let now_spelled : K.spelled i.journal.records ≡ Some mid = spelled_now K s here k up ∙ ap (λ (t : K.State). Some t) (sym same) in
    let next : K.spelled (i.journal.records ++ c.as_slice.result.now ∷ []) ≡ Some (K.changed s c.args.change) = ap (λ (b : List ℕ). K.spelled (i.journal.records ++ b ∷ [])) c.as_slice.ensures ∙ c.in_ok-bytes.ensures.follows i.journal.records now_spelled ∙ ap (λ (t : K.State). Some (K.changed t c.args.change)) same in
    kept_as K s mid (inside c.append.new.self (Some c.args.change) i.stands) same (kept_torn K s here k up c.args.change c.as_slice.result.now c.append.new.self next c.requires.can (c.append.ensures.disk (c.in-Err-Disk.is ∙ ap Err c.in-Err-Disk.field-0-is)).0 c.append.ensures.survives)

pub returns-in-Err-Memory-clause-kept : goal.returns-in-Err-Memory-clause-kept
returns-in-Err-Memory-clause-kept g c =
    let K = g.V.KeptValue.kind in
    let s = g.V.KeptValue.state c.args.value.now in
    let i = c.self.inside in
    let here = inside i.journal i.asked i.stands in
    let k = kept_inside K s here c.args.self.now c.self.view_is c.requires.kept in
    let mid = g.V.KeptValue.state c.make_room.new.self in
    let same : mid ≡ s = c.make_room.ensures.same in
    kept_refused K s here k mid c.append.new.self same (c.append.ensures.memory (c.in-Err-Memory.is ∙ ap Err c.in-Err-Memory.field-0-is)).0 c.append.ensures.survives

pub make-requires-clause-calm : goal.make-requires-clause-calm
make-requires-clause-calm g c =
    let K = g.V.KeptValue.kind in
    let s = g.V.KeptValue.state c.args.value.now in
    let i = c.self.inside in
    let here = inside i.journal i.asked i.stands in
    let k = kept_inside K s here c.args.self.now c.self.view_is c.requires.kept in
    let up = up_inside here c.args.self.now c.self.view_is c.requires.up in
    calm_now K s here k up c.append.new.self

pub make-requires-clause-can : goal.make-requires-clause-can
make-requires-clause-can g c =
    let K = g.V.KeptValue.kind in
    let s = g.V.KeptValue.state c.args.value.now in
    let i = c.self.inside in
    let here = inside i.journal i.asked i.stands in
    let k = kept_inside K s here c.args.self.now c.self.view_is c.requires.kept in
    let mid = g.V.KeptValue.state c.make_room.new.self in
    let same : mid ≡ s = c.make_room.ensures.same in
    can_as K s mid c.args.change same c.requires.can

pub make-requires-clause-spelled : goal.make-requires-clause-spelled
make-requires-clause-spelled g c =
    let K = g.V.KeptValue.kind in
    let s = g.V.KeptValue.state c.args.value.now in
    let i = c.self.inside in
    let here = inside i.journal i.asked i.stands in
    let k = kept_inside K s here c.args.self.now c.self.view_is c.requires.kept in
    let up = up_inside here c.args.self.now c.self.view_is c.requires.up in
    let mid = g.V.KeptValue.state c.make_room.new.self in
    let same : mid ≡ s = c.make_room.ensures.same in
    let bytes = c.in_ok-bytes.bytes in
    let now_spelled : K.spelled i.journal.records ≡ Some mid = spelled_now K s here k up ∙ ap (λ (t : K.State). Some t) (sym same) in
    let next : K.spelled (i.journal.records ++ c.as_slice.result.now ∷ []) ≡ Some (K.changed s c.args.change) = ap (λ (b : List ℕ). K.spelled (i.journal.records ++ b ∷ [])) c.as_slice.ensures ∙ c.in_ok-bytes.ensures.follows i.journal.records now_spelled ∙ ap (λ (t : K.State). Some (K.changed t c.args.change)) same in
    ap (λ (w : pair.View). K.spelled w.records) c.in-Ok.ensures.ok ∙ next ∙ ap (λ (t : K.State). Some (K.changed t c.args.change)) (sym same)

pub returns-in-Ok-clause-any_crash : goal.returns-in-Ok-clause-any_crash
returns-in-Ok-clause-any_crash g c =
    let K = g.V.KeptValue.kind in
    let s = g.V.KeptValue.state c.args.value.now in
    let i = c.self.inside in
    let here = inside i.journal i.asked i.stands in
    let k = kept_inside K s here c.args.self.now c.self.view_is c.requires.kept in
    let up = up_inside here c.args.self.now c.self.view_is c.requires.up in
    let mid = g.V.KeptValue.state c.make_room.new.self in
    let same : mid ≡ s = c.make_room.ensures.same in
    let bytes = c.in_ok-bytes.bytes in
    let now_spelled : K.spelled i.journal.records ≡ Some mid = spelled_now K s here k up ∙ ap (λ (t : K.State). Some t) (sym same) in
    let next : K.spelled (i.journal.records ++ c.as_slice.result.now ∷ []) ≡ Some (K.changed s c.args.change) = ap (λ (b : List ℕ). K.spelled (i.journal.records ++ b ∷ [])) c.as_slice.ensures ∙ c.in_ok-bytes.ensures.follows i.journal.records now_spelled ∙ ap (λ (t : K.State). Some (K.changed t c.args.change)) same in
    let front = adding K s here k up c.args.change c.as_slice.result.now c.append.new.self.disk next c.append.ensures.any_crash in
    let new = c.make.new.self.journal.disk in
    let back = left_as K s c.args.change mid c.append.new.self.disk new same c.make.ensures.any_crash in
    during_inside K s c.args.change here c.args.self.now new c.self.view_is (after_left K s c.args.change i.journal.disk c.append.new.self.disk new front back)
