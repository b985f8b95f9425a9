-- What is said of loglets rests on what is read of them.
use Rattle.std.proofs.Common.{◌≡◌, refl, sym, ap, ap₂, ◌∙◌, subst, ℕ, zero, suc, ◌+◌, ◌-◌, ◌≤◌, ◌↔◌, Bool, ◌&&◌, nat_lt, nat_le, if◌then◌else◌, List, [], ◌∷◌, Option, Some, None, map, slice_get, is_some, filter, filter_map, sum_by, unwrap_or, option_map, option_and_then}
use Rattle.std.proofs.Math.Path.{fun_ext}
use Rattle.std.specs.List.{list_all}
use Rattle.std.proofs.lemmas.List.Sums.{sum_by-cons}
use Rattle.delos_types.specs.declared.cause.Cause.{Cause}
use Rattle.delos_types.specs.declared.cause.Cause.TheVariants as cause
use Rattle.delos_types.specs.declared.chain.Chain.{Chain}
use Rattle.delos_types.specs.declared.chain.Segment.{Segment}
use Rattle.delos_types.specs.declared.entry.Entry.{Entry}
use Rattle.loglet_api.specs.View.{LogletView}
use Rattle.chain_map.specs.Chain.{last_segment}
use Rattle.fabric_core.specs.Log.{numbers, reach_of, end_of, virtual_tail, entry_of_cell, entry_in, virtual_log_at, has_no_gap, virtual_log}
use Rattle.fitting_run.specs.declared.answered.Answered.{Answered}
use Rattle.fitting_run.specs.Answered.{cause_of, is_late}
use Rattle.fitting_run.specs.Cells.{read_of}
use Rattle.fitting_run.specs.Faults.{FaultsAreCounted, lacked, lacks_of, faults_of, is_full, refusals_of, stands, occasions, lacks_quorum, finds_full, turns_of}
use Rattle.fitting_run.specs.Tests.{some_is, where_some}
use Rattle.fitting_run.specs.Yard.{Shown}

read-at : (cells : List LogletView) (i : ℕ) → slice_get (map read_of cells) i ≡ option_map read_of (slice_get cells i)
read-at [] i = refl
read-at (v ∷ vs) zero = refl
read-at (v ∷ vs) (suc i) = read-at vs i

-- The log

reach-read : (o : Option LogletView) → reach_of (option_map read_of o) ≡ reach_of o
reach-read None = refl
reach-read (Some v) = refl

entry-read : (i : ℕ) (o : Option LogletView) → option_and_then (entry_of_cell i) (option_map read_of o) ≡ option_and_then (entry_of_cell i) o
entry-read i None = refl
entry-read i (Some v) = refl

end-read : (cells : List LogletView) (s : Segment) → end_of (map read_of cells) s ≡ end_of cells s
end-read cells s = ap (λ reach. unwrap_or s.end (s.start + reach)) (ap reach_of (read-at cells s.id) ∙ reach-read (slice_get cells s.id))

pub tail-read : (chain : Chain) (cells : List LogletView) → virtual_tail chain (map read_of cells) ≡ virtual_tail chain cells
tail-read chain cells = end-read cells (last_segment chain)

in-read : (cells : List LogletView) (ss : List Segment) (pos : ℕ) → entry_in (map read_of cells) ss pos ≡ entry_in cells ss pos
in-read cells [] pos = refl
in-read cells (s ∷ ss) pos =
    ap (λ end. if nat_le s.start pos && nat_lt pos end then option_and_then (entry_of_cell (pos - s.start)) (slice_get (map read_of cells) s.id) else entry_in (map read_of cells) ss pos) (end-read cells s)
    ∙ ap (λ e. if nat_le s.start pos && nat_lt pos (end_of cells s) then e else entry_in (map read_of cells) ss pos) (ap (option_and_then (entry_of_cell (pos - s.start))) (read-at cells s.id) ∙ entry-read (pos - s.start) (slice_get cells s.id))
    ∙ ap (λ e. if nat_le s.start pos && nat_lt pos (end_of cells s) then option_and_then (entry_of_cell (pos - s.start)) (slice_get cells s.id) else e) (in-read cells ss pos)

at-read : (chain : Chain) (cells : List LogletView) → virtual_log_at chain (map read_of cells) ≡ virtual_log_at chain cells
at-read chain cells = fun_ext (in-read cells chain.segments)

pub whole-read : (chain : Chain) (cells : List LogletView) → has_no_gap chain (map read_of cells) ≡ has_no_gap chain cells
whole-read chain cells =
    ap (λ (log : ℕ → Option Entry). list_all (λ pos. is_some (log pos)) (numbers chain.trim (virtual_tail chain (map read_of cells) - chain.trim))) (at-read chain cells)
    ∙ ap (λ tail. list_all (λ pos. is_some (virtual_log_at chain cells pos)) (numbers chain.trim (tail - chain.trim))) (tail-read chain cells)

pub log-read : (chain : Chain) (cells : List LogletView) (from end : ℕ) → virtual_log chain (map read_of cells) from end ≡ virtual_log chain cells from end
log-read chain cells from end = ap (λ (log : ℕ → Option Entry). filter_map log (numbers from (end - from))) (at-read chain cells)

-- What was counted

lacks-read : (o : Option LogletView) → lacks_of (option_map read_of o) ≡ lacks_of o
lacks-read None = refl
lacks-read (Some v) = refl

faults-read : (o : Option LogletView) → faults_of (option_map read_of o) ≡ faults_of o
faults-read None = refl
faults-read (Some v) = refl

full-read : (o : Option LogletView) → some_is (option_map read_of o) is_full ≡ some_is o is_full
full-read None = refl
full-read (Some v) = refl

lacked-read : (unreached : ℕ) (o : Option LogletView) → some_is (option_map read_of o) (lacked unreached) ≡ some_is o (lacked unreached)
lacked-read unreached None = refl
lacked-read unreached (Some v) = refl

lacks-at : (cells : List LogletView) (i : ℕ) → lacks_of (slice_get (map read_of cells) i) ≡ lacks_of (slice_get cells i)
lacks-at cells i = ap lacks_of (read-at cells i) ∙ lacks-read (slice_get cells i)

faults-at : (cells : List LogletView) (i : ℕ) → faults_of (slice_get (map read_of cells) i) ≡ faults_of (slice_get cells i)
faults-at cells i = ap faults_of (read-at cells i) ∙ faults-read (slice_get cells i)

-- a sum of what is read of each
sum-read : (f : LogletView → ℕ) → ((v : LogletView) → f (read_of v) ≡ f v) → (cells : List LogletView) → sum_by f (map read_of cells) ≡ sum_by f cells
sum-read f same [] = refl
sum-read f same (v ∷ vs) = sum_by-cons f (read_of v) (map read_of vs) ∙ ap₂ (λ a b. a + b) (same v) (sum-read f same vs) ∙ sym (sum_by-cons f v vs)

abbrev read : Shown → Shown
read yard = record yard { cells = map read_of yard.cells }

stands-read : (yard : Shown) (node : ℕ) (c : Cause) → stands (read yard) node c ≡ stands yard node c
stands-read yard node (cause.NoQuorum id unreached) = ap (λ o. some_is o (lacked unreached)) (read-at yard.cells id) ∙ lacked-read unreached (slice_get yard.cells id)
stands-read yard node (cause.Full id) = ap (λ o. some_is o is_full) (read-at yard.cells id) ∙ full-read (slice_get yard.cells id)
stands-read yard node cause.Meta = refl
stands-read yard node cause.Store = refl

causes-read : (told : List Answered) (yard : Shown)
    → list_all (λ a. where_some (cause_of a.row.outcome) (stands (read yard) a.line.node)) told ≡ list_all (λ a. where_some (cause_of a.row.outcome) (stands yard a.line.node)) told
causes-read told yard =
    ap (λ (s : ℕ → Cause → Bool). list_all (λ (a : Answered). where_some (cause_of a.row.outcome) (s a.line.node)) told) (fun_ext (λ node. fun_ext (stands-read yard node)))

most-read : (yard : Shown)
    → sum_by (λ v. v.lacks) (read yard).cells + sum_by refusals_of (read yard).cells + yard.register.faults + sum_by (λ n. n) yard.disks
    ≡ sum_by (λ v. v.lacks) yard.cells + sum_by refusals_of yard.cells + yard.register.faults + sum_by (λ n. n) yard.disks
most-read yard =
    ap₂ (λ lacks refusals. lacks + refusals + yard.register.faults + sum_by (λ n. n) yard.disks) (sum-read (λ v. v.lacks) (λ v. refl) yard.cells) (sum-read refusals_of (λ v. refl) yard.cells)

pub counted-read : (told : List Answered) (yard : Shown) → FaultsAreCounted told (read yard) ↔ FaultsAreCounted told yard
counted-read told yard = (
  (
      λ h. record {
        causes = sym (causes-read told yard) ∙ h.causes;
        lacks = λ cell. subst (λ n. occasions (lacks_quorum cell) told ≤ n) (lacks-at yard.cells cell) (h.lacks cell);
        refusals = λ cell. subst (λ n. occasions (finds_full cell) told ≤ n) (faults-at yard.cells cell) (h.refusals cell);
        register = h.register;
        stores = h.stores;
        late = subst (λ n. turns_of (filter (λ (a : Answered). is_late a.row.outcome) told) ≤ n) (most-read yard) h.late;
      }
      ),
  (
      λ h. record {
        causes = causes-read told yard ∙ h.causes;
        lacks = λ cell. subst (λ n. occasions (lacks_quorum cell) told ≤ n) (sym (lacks-at yard.cells cell)) (h.lacks cell);
        refusals = λ cell. subst (λ n. occasions (finds_full cell) told ≤ n) (sym (faults-at yard.cells cell)) (h.refusals cell);
        register = h.register;
        stores = h.stores;
        late = subst (λ n. turns_of (filter (λ (a : Answered). is_late a.row.outcome) told) ≤ n) (sym (most-read yard)) h.late;
      }
      ),
)
