-- How the values that contracts see are told apart: codes made of those of numbers, lists and maps.
use Rattle.std.specs.Prelude.{◌≡◌, ◌⊎◌, ℕ, Bool, List, Option, refl}
use Rattle.std.proofs.Common.{inl, inr}
use Rattle.std.specs.Coded.{Coded, code_by, coded×, coded⊎, coded_ℕ, coded_bool, coded_list, coded_option}
use Rattle.std.specs.FinMap as map
use Rattle.delos_types.specs.Spaces.{SpaceMap, Text}
use Rattle.disk_model.specs.Disk.{Written, CutTo, Moment, Timeline, DiskView}
use Rattle.disk_model.specs.Disk as disk
use Rattle.store_records.specs.declared.change.Change.{Change}
use Rattle.store_records.specs.declared.change.Commit.{Commit}

abbrev pub text_code : Coded Text
text_code = coded_list coded_ℕ

abbrev pub space_code : Coded SpaceMap
space_code = map.code (coded× coded_ℕ text_code) text_code

abbrev pub change_code : Coded Change
change_code =
    code_by (ℕ × (Text × Option Text)) (coded× coded_ℕ (coded× text_code (coded_option text_code))) (λ c. (c.kind, (c.key, c.value))) (λ p. record { kind = p.0; key = p.1.0; value = p.1.1 }) (λ _. refl)

abbrev pub commit_code : Coded Commit
commit_code =
    code_by (ℕ × List Change) (coded× coded_ℕ (coded_list change_code)) (λ c. (c.cursor, c.changes)) (λ p. record { cursor = p.0; changes = p.1 }) (λ _. refl)

abbrev pub split_write : disk.Change → (ℕ × Text) ⊎ ℕ
split_write (Written at bytes) = inl (at, bytes)
split_write (CutTo n) = inr n

abbrev pub joined_write : (ℕ × Text) ⊎ ℕ → disk.Change
joined_write (inl w) = Written w.0 w.1
joined_write (inr n) = CutTo n

pub joined_write-split_write : (c : disk.Change) → joined_write (split_write c) ≡ c
joined_write-split_write (Written at bytes) = refl
joined_write-split_write (CutTo n) = refl

abbrev pub write_code : Coded disk.Change
write_code = code_by ((ℕ × Text) ⊎ ℕ) (coded⊎ (coded× coded_ℕ text_code) coded_ℕ) split_write joined_write joined_write-split_write

abbrev pub moment_code : Coded Moment
moment_code =
    code_by (Text × List disk.Change) (coded× text_code (coded_list write_code)) (λ m. (m.synced, m.changes)) (λ p. record { synced = p.0; changes = p.1 }) (λ _. refl)

abbrev pub timeline_code : Coded Timeline
timeline_code =
    code_by (List Moment × Moment) (coded× (coded_list moment_code) moment_code) (λ l. (l.past, l.now)) (λ p. record { past = p.0; now = p.1 }) (λ _. refl)

abbrev pub disk_code : Coded DiskView
disk_code =
    code_by (Timeline × (ℕ × (Bool × (ℕ × ℕ)))) (coded× timeline_code (coded× coded_ℕ (coded× coded_bool (coded× coded_ℕ coded_ℕ)))) (λ v. (v.timeline, (v.faults, (v.stopped, (v.armed, v.word))))) (λ p. record { timeline = p.0; faults = p.1.0; stopped = p.1.1.0; armed = p.1.1.1.0; word = p.1.1.1.1 }) (λ _. refl)
