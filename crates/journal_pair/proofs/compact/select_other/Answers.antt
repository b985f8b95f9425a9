use Rattle.std.proofs.Common.{◌≡◌, ◌⊎◌, inl, inr, ℕ, List, ◌∙◌, sym, ap, subst, arith}
use Rattle.std.proofs.lemmas.Grind.{common_steps}
use Rattle.disk_model.specs.Disk.{DiskView, content}
use Rattle.disk_model.specs.CrashLaws.{joined, weaker}
use Rattle.journal_core.specs.Records.{payloads}
use Rattle.journal_pair.specs.Records.{records_of}
use Rattle.journal_pair.specs.Layout.{Stands}
use Rattle.journal_pair.proofs.Areas.{stands_records}
use Rattle.journal_pair.proofs.Moving.{both_long, select_torn, select_done}
use Rattle.journal_pair.proofs.compact.select_other.Goals as goal

abbrev Either : List (List ℕ) → List (List ℕ) → List ℕ → Type 0
Either ps rs c = (records_of c ≡ ps) ⊎ (records_of c ≡ rs)

pub write_synced-requires-clause-inside : goal.write_synced-requires-clause-inside
write_synced-requires-clause-inside g c =
    let old = (g.D.Disk.view c.args.disk.now).timeline in
    let mid = (g.D.Disk.view c.lay.new.disk).timeline in
    let ps = records_of (content old.now) in
    let a = c.args.area in
    let rs = payloads c.args.records.now in
    let b = c.in_ok-next.next in
    let both = c.in_ok-next.ensures.ok in
    omega (arith, both_long ps a rs b (content mid.now) both)

pub cut_behind-requires-clause-stands : goal.cut_behind-requires-clause-stands
cut_behind-requires-clause-stands g c =
    let old = (g.D.Disk.view c.args.disk.now).timeline in
    let mid = (g.D.Disk.view c.lay.new.disk).timeline in
    let ps = records_of (content old.now) in
    let a = c.args.area in
    let rs = payloads c.args.records.now in
    let b = c.in_ok-next.next in
    let both = c.in_ok-next.ensures.ok in
    let new = (g.D.Disk.view c.write_synced.new.disk).timeline in
    let there : Stands rs b (content new.now) = subst (Stands rs b) (sym (ap content c.in_ok-write_synced.ensures.ok)) (select_done ps a rs b c.selector.result (content mid.now) both c.selector.ensures) in
    let is : records_of (content new.now) ≡ rs = stands_records rs b (content new.now) there in
    subst (λ (qs : List (List ℕ)). Stands qs b (content new.now)) (sym is) there

pub returns-in_err-next-clause-any_crash : goal.returns-in_err-next-clause-any_crash
returns-in_err-next-clause-any_crash g c =
    let old = (g.D.Disk.view c.args.disk.now).timeline in
    weaker old _ _ (Either (records_of (content old.now)) (payloads c.args.records.now)) (λ f same. inl same) c.lay.ensures.any_crash

pub returns-in_err-write_synced-clause-any_crash : goal.returns-in_err-write_synced-clause-any_crash
returns-in_err-write_synced-clause-any_crash g c =
    let old = (g.D.Disk.view c.args.disk.now).timeline in
    let mid = (g.D.Disk.view c.lay.new.disk).timeline in
    let ps = records_of (content old.now) in
    let a = c.args.area in
    let rs = payloads c.args.records.now in
    let b = c.in_ok-next.next in
    let both = c.in_ok-next.ensures.ok in
    let laid = weaker old mid _ (Either ps rs) (λ f same. inl same) c.lay.ensures.any_crash in
    let new = (g.D.Disk.view c.write_synced.new.disk).timeline in
    joined old mid new (Either ps rs) laid (weaker mid new _ (Either ps rs) (λ f torn. select_torn ps a rs b (content mid.now) f both torn) c.write_synced.ensures.any_crash)

pub returns-in_err-write_synced-clause-memory : goal.returns-in_err-write_synced-clause-memory
returns-in_err-write_synced-clause-memory g c =
    λ refused.
    let ps = records_of (content (g.D.Disk.view c.args.disk.now).timeline.now) in
    let same : g.D.Disk.view c.write_synced.new.disk ≡ g.D.Disk.view c.lay.new.disk = grind (arith, common_steps) in
    subst (λ (v : DiskView). Stands ps c.args.area (content v.timeline.now)) (sym same) c.in_ok-next.ensures.still

pub returns-in_err-cut_behind-clause-any_crash : goal.returns-in_err-cut_behind-clause-any_crash
returns-in_err-cut_behind-clause-any_crash g c =
    let old = (g.D.Disk.view c.args.disk.now).timeline in
    let mid = (g.D.Disk.view c.lay.new.disk).timeline in
    let ps = records_of (content old.now) in
    let a = c.args.area in
    let rs = payloads c.args.records.now in
    let b = c.in_ok-next.next in
    let both = c.in_ok-next.ensures.ok in
    let laid = weaker old mid _ (Either ps rs) (λ f same. inl same) c.lay.ensures.any_crash in
    let new = (g.D.Disk.view c.write_synced.new.disk).timeline in
    let selected = joined old mid new (Either ps rs) laid (weaker mid new _ (Either ps rs) (λ f torn. select_torn ps a rs b (content mid.now) f both torn) c.write_synced.ensures.any_crash) in
    let there : Stands rs b (content new.now) = subst (Stands rs b) (sym (ap content c.in_ok-write_synced.ensures.ok)) (select_done ps a rs b c.selector.result (content mid.now) both c.selector.ensures) in
    let is : records_of (content new.now) ≡ rs = stands_records rs b (content new.now) there in
    let last = (g.D.Disk.view c.cut_behind.new.disk).timeline in
    joined old new last (Either ps rs) selected (weaker new last _ (Either ps rs) (λ f same. inr (same ∙ is)) c.cut_behind.ensures.any_crash)

pub returns-clause-any_crash : goal.returns-clause-any_crash
returns-clause-any_crash g c =
    let old = (g.D.Disk.view c.args.disk.now).timeline in
    let mid = (g.D.Disk.view c.lay.new.disk).timeline in
    let ps = records_of (content old.now) in
    let a = c.args.area in
    let rs = payloads c.args.records.now in
    let b = c.in_ok-next.next in
    let both = c.in_ok-next.ensures.ok in
    let laid = weaker old mid _ (Either ps rs) (λ f same. inl same) c.lay.ensures.any_crash in
    let new = (g.D.Disk.view c.write_synced.new.disk).timeline in
    let selected = joined old mid new (Either ps rs) laid (weaker mid new _ (Either ps rs) (λ f torn. select_torn ps a rs b (content mid.now) f both torn) c.write_synced.ensures.any_crash) in
    let there : Stands rs b (content new.now) = subst (Stands rs b) (sym (ap content c.in_ok-write_synced.ensures.ok)) (select_done ps a rs b c.selector.result (content mid.now) both c.selector.ensures) in
    let is : records_of (content new.now) ≡ rs = stands_records rs b (content new.now) there in
    let last = (g.D.Disk.view c.cut_behind.new.disk).timeline in
    joined old new last (Either ps rs) selected (weaker new last _ (Either ps rs) (λ f same. inr (same ∙ is)) c.cut_behind.ensures.any_crash)

pub returns-clause-ok : goal.returns-clause-ok
returns-clause-ok g c =
    let old = (g.D.Disk.view c.args.disk.now).timeline in
    let mid = (g.D.Disk.view c.lay.new.disk).timeline in
    let ps = records_of (content old.now) in
    let a = c.args.area in
    let rs = payloads c.args.records.now in
    let b = c.in_ok-next.next in
    let both = c.in_ok-next.ensures.ok in
    let new = (g.D.Disk.view c.write_synced.new.disk).timeline in
    let there : Stands rs b (content new.now) = subst (Stands rs b) (sym (ap content c.in_ok-write_synced.ensures.ok)) (select_done ps a rs b c.selector.result (content mid.now) both c.selector.ensures) in
    let is : records_of (content new.now) ≡ rs = stands_records rs b (content new.now) there in
    let last = (g.D.Disk.view c.cut_behind.new.disk).timeline in
    subst (λ (qs : List (List ℕ)). Stands qs b (content last.now)) is c.in_ok-cut_behind.ensures.ok
