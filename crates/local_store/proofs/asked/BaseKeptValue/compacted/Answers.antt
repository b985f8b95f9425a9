use Rattle.std.proofs.Common.{[], ◌∷◌, ◌≡◌, ap, ◌∙◌}
use Rattle.journal_core.specs.Records.{payloads}
use Rattle.store_records.specs.Spelled.{saved_of}
use Rattle.local_store.specs.Slots.{set_after}
use Rattle.local_store.proofs.SlotLaws.{applied-set_after}
use Rattle.local_store.proofs.Keeping.{one_payload, spells_whole}
use Rattle.local_store.proofs.asked.BaseKeptValue.compacted.Goals as goal

pub returns : goal.returns
returns c =
    let es = c.args.self.now.slots.entries in
    let cs = c.args.change.now.changes.entries in
    let alone : payloads c.push.new.self.items ≡ c.in_ok-whole.whole.items ∷ [] = one_payload c.new-records.result.items c.push.new.self.items c.in_ok-whole.whole c.new-records.ensures.items c.in_ok-push.ensures.items in
    ap saved_of alone ∙ spells_whole (record { cursor = c.args.change.now.cursor; changes = set_after cs es }) c.in_ok-whole.whole.items _ c.in_ok-whole.ensures.spelled (applied-set_after es cs c.in_ok-whole.ensures.ordered c.requires.room.ordered c.requires.room.slots)
