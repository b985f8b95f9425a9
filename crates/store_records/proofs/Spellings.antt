-- What is read is spelled so, and what is spelled so is read.
use Rattle.std.proofs.Common.{◌≡◌, ℕ, ◌<◌, ◌^◌, List, [], ◌++◌, length, Some, None, Result, Ok, Err, sym, ap, subst, ◌∙◌, append_assoc}
use Rattle.std.specs.Result.{result_ok}
use Rattle.std.specs.List.{flat_map}
use Rattle.std.proofs.lemmas.List.{append-nil}
use Rattle.delos_types.specs.Numbers.{IsBytes, u64_bytes}
use Rattle.delos_types.specs.Fields.{◌>>=◌, u64_field, ended}
use Rattle.delos_types.proofs.FieldLaws.{bind_ok, Takes-then, takes_all, u64_takes, u64_again, ended_ok, ended_again}
use Rattle.store_records.specs.declared.change.Commit.{Commit}
use Rattle.store_records.specs.declared.fields.Stop.{Stop}
use Rattle.store_records.specs.declared.fields.Stop.TheVariants as stop
use Rattle.store_records.specs.Format.{head_bytes, change_bytes, commit_bytes, SpellsCommit}
use Rattle.store_records.specs.Reading.{changes_from, commit_fields, commit_of}
use Rattle.store_records.proofs.ChangeLaws.{from_takes, from_again}

fields_take : (bytes : List ℕ) (c : Commit) → IsBytes bytes → commit_fields bytes ≡ Ok c → SpellsCommit bytes c
unfolding commit_fields
fields_take bytes c fits e =
    let a = bind_ok (u64_field stop.NoCommit bytes) (λ cursor. u64_field stop.NoCommit cursor.1 >>= λ count. changes_from count.0 count.1 >>= λ changes. ended stop.NoCommit changes.1 (record { cursor = cursor.0; changes = changes.0 })) c e in
    let b = bind_ok (u64_field stop.NoCommit a.0.1) (λ count. changes_from count.0 count.1 >>= λ changes. ended stop.NoCommit changes.1 (record { cursor = a.0.0; changes = changes.0 })) c a.2 in
    let d = bind_ok (changes_from b.0.0 b.0.1) (λ changes. ended stop.NoCommit changes.1 (record { cursor = a.0.0; changes = changes.0 })) c b.2 in
    let end = ended_ok stop.NoCommit d.0.1 (record { cursor = a.0.0; changes = d.0.0 }) c d.2 in
    let cursor = u64_takes stop.NoCommit bytes a.0.0 a.0.1 fits a.1 in
    let count = u64_takes stop.NoCommit a.0.1 b.0.0 b.0.1 cursor.0.rest_fits b.1 in
    let changes = from_takes b.0.0 b.0.1 d.0 count.0.rest_fits d.1 in
    let head = Takes-then bytes (u64_bytes a.0.0) a.0.1 (u64_bytes b.0.0) b.0.1 cursor.0 count.0 in
    let whole = Takes-then bytes (head_bytes a.0.0 b.0.0) b.0.1 (flat_map change_bytes d.0.0) d.0.1 head changes.0 in
    let is : bytes ≡ head_bytes a.0.0 b.0.0 ++ flat_map change_bytes d.0.0 = takes_all bytes (head_bytes a.0.0 b.0.0 ++ flat_map change_bytes d.0.0) d.0.1 whole end.0 in
    let counted : bytes ≡ head_bytes a.0.0 (length d.0.0) ++ flat_map change_bytes d.0.0 = subst (λ (n : ℕ). bytes ≡ head_bytes a.0.0 n ++ flat_map change_bytes d.0.0) (sym changes.1) is in
    subst (λ (x : Commit). SpellsCommit bytes x) {x = record { cursor = a.0.0; changes = d.0.0 }} end.1
    (record { spelled = counted; cursor = cursor.1; count = subst (λ (n : ℕ). n < 2 ^ 64) (sym changes.1) count.1; changes = changes.2 })

fields_again : (bytes : List ℕ) (c : Commit) → SpellsCommit bytes c → commit_fields bytes ≡ Ok c
unfolding commit_fields
fields_again bytes c s =
    let regrouped : commit_bytes c ≡ u64_bytes c.cursor ++ (u64_bytes (length c.changes) ++ (flat_map change_bytes c.changes ++ [])) =
    append_assoc (u64_bytes c.cursor) (u64_bytes (length c.changes)) (flat_map change_bytes c.changes)
    ∙ ap (λ (l : List ℕ). u64_bytes c.cursor ++ (u64_bytes (length c.changes) ++ l)) (sym (append-nil (flat_map change_bytes c.changes))) in
    ap commit_fields (s.spelled ∙ regrouped)
    ∙ rw (u64_again stop.NoCommit c.cursor (u64_bytes (length c.changes) ++ (flat_map change_bytes c.changes ++ [])) s.cursor, u64_again stop.NoCommit (length c.changes) (flat_map change_bytes c.changes ++ []) s.count, from_again c.changes [] s.changes) (ended_again stop.NoCommit c)

ok_of : (r : Result Commit Stop) (c : Commit) → result_ok r ≡ Some c → r ≡ Ok c
ok_of (Ok d) c e = let same : d ≡ c = cc in ap Ok same
ok_of (Err u) c e = absurd (never e)
  where
    never : {A : Type 0} {x : A} → None ≡ Some x → ⊥
    never h = cc

pub commit_takes : (bytes : List ℕ) (c : Commit) → IsBytes bytes → commit_of bytes ≡ Some c → SpellsCommit bytes c
commit_takes bytes c fits e = fields_take bytes c fits (ok_of (commit_fields bytes) c e)

pub commit_again : (bytes : List ℕ) (c : Commit) → SpellsCommit bytes c → commit_of bytes ≡ Some c
commit_again bytes c s = ap result_ok (fields_again bytes c s)
