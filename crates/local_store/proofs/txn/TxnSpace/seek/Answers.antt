use Rattle.std.proofs.Common.{◌≡◌, IfOk, Bool, false, Option, subst, sym, ap, ◌∙◌}
use Rattle.std.specs.Prelude.{is_some, unwrap_or}
use Rattle.std.specs.Option.{option_copied}
use Rattle.std.specs.Arc.{arc_value}
use Rattle.delos_types.specs.Spaces.{SpaceMap, Text, least_key_from}
use Rattle.store_records.specs.Changing.{applied}
use Rattle.local_store.specs.Keys.{KeyView}
use Rattle.local_store.specs.declared.base.Base.{Base}
use Rattle.local_store.specs.Slots.{Entries, slot_of, held, changes_of, first_shown, lesser_of}
use Rattle.local_store.specs.View.{TxnView, contents_of}
use Rattle.local_store.proofs.SlotLaws.{IsInOrder, get-held, get-applied}
use Rattle.local_store.proofs.Seeking.{IsNext, IsLeast, from_on, next_in, least_changed, least_is}
use Rattle.local_store.proofs.txn.TxnSpace.seek.Goals as goal

pub returns : goal.returns
returns c =
    let base = (arc_value c.self.inside.base).slots.entries in
    let changes = c.self.inside.changes.entries in
    let key : KeyView = record { kind = c.args.kind; key = c.args.key.now } in
    let hidden : KeyView → Bool = λ q. is_some (slot_of changes q) in
    let shown_by : KeyView → Bool = λ q. false in
    let kept = option_copied c.first_shown-kept.result in
    let set = option_copied c.first_shown-set.result in
    let first_run : c.range.result ≡ from_on key base =
    c.range.ensures.between tt ∙ ap (λ (k : KeyView). from_on k c.deref.result.now.slots.entries) c.in_ok-start.ensures ∙ ap (λ (b : Base). from_on key b.slots.entries) c.deref.ensures in
    let second_run : c.range-2.result ≡ from_on key changes = c.range-2.ensures.between tt ∙ ap (λ (k : KeyView). from_on k changes) c.in_ok-start.ensures in
    let ordered : IsInOrder base = subst (λ (b : Base). IsInOrder b.slots.entries) c.deref.ensures c.range.ensures.ordered in
    let kept_is : kept ≡ first_shown c.args.kind hidden (from_on key base) = c.first_shown-kept.ensures ∙ ap (λ (es : Entries). first_shown c.args.kind hidden es) first_run in
    let set_is : set ≡ first_shown c.args.kind shown_by (from_on key changes) =
    c.first_shown-set.ensures ∙ ap (λ (es : Entries). first_shown c.args.kind (λ q. is_some (slot_of es q)) c.range-2.result) c.new-none.ensures.empty ∙ ap (λ (es : Entries). first_shown c.args.kind shown_by es) second_run in
    let first : IsNext base hidden key kept = subst (λ (r : Option Text). IsNext base hidden key r) (sym kept_is) (next_in base hidden key ordered) in
    let second : IsNext changes shown_by key set = subst (λ (r : Option Text). IsNext changes shown_by key r) (sym set_is) (next_in changes shown_by key c.self.invariant.ordered) in
    let m : SpaceMap = applied (held base) (changes_of changes) in
    let least : IsLeast m key (lesser_of kept set) =
    least_changed m base changes key kept set (λ q. get-applied changes c.self.invariant.ordered (held base) q ∙ ap (λ (r : Option Text). unwrap_or (slot_of changes q) r) (get-held base q)) first second in
    let value : option_copied c.lesser.result ≡ least_key_from (contents_of c.args.self.now) c.args.kind c.args.key.now =
    c.lesser.ensures ∙ least_is m key (lesser_of kept set) least ∙ ap (λ (t : TxnView). least_key_from (contents_of t) c.args.kind c.args.key.now) c.self.view_is in
    subst (λ (v : Option Text). IfOk c.copied_key.result (λ found. found ≡ v)) value c.copied_key.ensures
