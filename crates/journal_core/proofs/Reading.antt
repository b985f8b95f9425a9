-- What three reads tell of a record.
use Rattle.std.proofs.Common.{◌≡◌, ℕ, ◌+◌, ◌≤◌, true, false, Some, None, List, ◌++◌, length, get_or, take, drop, Result, Ok, Err, OnOk, OnErr, is_err, sym, ◌∙◌, ap, arith, length-take, length-drop}
use Rattle.disk_model.specs.Disk.{Moment, content}
use Rattle.disk_model.specs.Crash.{Leaves}
use Rattle.disk_model.proofs.Images.{replayed_between}
use Rattle.std.proofs.lemmas.List.{get_or-take, drop-drop, take_all, drop_all, append-nil}
use Rattle.std.specs.Int.{w64, from_be_bytes}
use Rattle.journal_core.specs.Records.{number, size, first_record}
use Rattle.journal_core.proofs.Walk.{from_first, none_short}

pub ok_holds : {T E : Type 0} (r : Result T E) (P : Type 0) → is_err r ≡ false → OnOk r P → P
ok_holds (Ok x) P fine h = h
ok_holds (Err e) P fine h = cc fine

pub err_holds : {T E : Type 0} (r : Result T E) (P : Type 0) → is_err r ≡ true → OnErr r P → P
err_holds (Ok x) P failed h = cc failed
err_holds (Err e) P failed h = h

-- what each image has, what a read gives has
pub now_has : (m : Moment) (P : List ℕ → Type 0) → Leaves m P → P (content m)
now_has m P left =
    let between = replayed_between m.changes m.synced in
    left (content m) (record { no_shorter = between.no_shorter; no_longer = between.no_longer; kept = between.kept })

module _ (file : List ℕ) (at : ℕ) where
  pub gate_read : (buf : List ℕ) → buf ≡ take 1 (drop at file) → get_or (drop at file) 0 0 ≡ get_or buf 0 0
  gate_read buf is = sym (ap (λ (l : List ℕ). get_or l 0 0) is ∙ get_or-take 1 (drop at file) 0 0 (omega arith))

  pub size_read : (buf : List ℕ) (n : ℕ) → buf ≡ take 8 (drop (at + 1) file) → n ≡ from_be_bytes w64 buf → size (drop at file) ≡ n
  unfolding number
  size_read buf n is read = ap (λ (l : List ℕ). from_be_bytes w64 (take 8 l)) (drop-drop 1 at file) ∙ sym (read ∙ ap (from_be_bytes w64) is)

  pub none_left : (n : ℕ) → size (drop at file) ≡ n → length file ≤ at + 9 + n → first_record (drop at file) ≡ None
  none_left n is short = none_short (drop at file) (omega (arith, length-drop at file, is, short))

  pub payload_read : (n : ℕ) (buf out : List ℕ) → get_or (drop at file) 0 0 ≡ 1 → size (drop at file) ≡ n → at + 10 + n ≤ length file → buf ≡ take n (drop (at + 9) file) → out ≡ buf → first_record (drop at file) ≡ Some out
  payload_read n buf out opened size_is fits is same =
      let nine : drop 9 (drop at file) ≡ drop (at + 9) file = drop-drop 9 at file in
      let long : length out ≡ n = ap length (same ∙ is) ∙ length-take n (drop (at + 9) file) ∙ omega (arith, length-drop (at + 9) file, fits) in
      from_first (drop at file) out (record {
        opened = opened;
        size_is = size_is ∙ sym long;
        fits = omega (arith, length-drop at file, fits, long);
        payload = ap (λ (k : ℕ). take k (drop 9 (drop at file))) long ∙ ap (λ (l : List ℕ). take n l) nine ∙ sym (same ∙ is);
      })

-- a vector that was filled whole
pub filled : (n : ℕ) (buf items : List ℕ) → length buf ≡ n → length items ≡ n → take n (buf ++ drop (length buf) items) ≡ buf
filled n buf items long same =
    ap (λ (l : List ℕ). take n (buf ++ l)) (drop_all (length buf) items (omega (arith, long, same))) ∙ ap (λ (l : List ℕ). take n l) (append-nil buf) ∙ take_all n buf (omega (arith, long))
