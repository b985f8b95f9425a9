-- A log that grows at its end.
use Rattle.std.proofs.Common.{◌≡◌, refl, sym, ap, ◌∙◌, ℕ, suc, ◌+◌, List, [], ◌∷◌, ◌++◌, arith, append_assoc, append-nil, length, add-zero}
use Rattle.std.proofs.lemmas.List.Elements.{filter_map-append}
use Rattle.delos_types.specs.declared.entry.Entry.{Entry}
use Rattle.table_core.specs.Table.{TableMap}
use Rattle.engine_api.specs.declared.act.Act.{Act}
use Rattle.engine_api.specs.declared.appearance.Appearance.{Appearance}
use Rattle.engine_api.specs.declared.content.Placed.{Placed}
use Rattle.engine_api.specs.Items.{unpack}
use Rattle.engine_api.specs.Order.{acts_of, acted_after, acted_from}
use Rattle.engine_api.specs.Acted.{Asked, act_on, replied, table_after, appearance_of, appearances, unpack_all, asked_in, acted_log}

pub acted_after-append : {C : Type 0} (start : ℕ → ℕ) (before xs ys : List (Appearance C)) → acted_after start before (xs ++ ys) ≡ acted_after start before xs ++ acted_after start (before ++ xs) ys
acted_after-append start before [] ys = ap (λ l. acted_after start l ys) (sym (append-nil before))
acted_after-append start before (x ∷ xs) ys =
    ap (λ l. acts_of start before x ++ l) (acted_after-append start (before ++ x ∷ []) xs ys ∙ ap (λ l. acted_after start (before ++ x ∷ []) xs ++ acted_after start l ys) (append_assoc before (x ∷ []) xs))
    ∙ sym (append_assoc (acts_of start before x) (acted_after start (before ++ x ∷ []) xs) (acted_after start (before ++ x ∷ xs) ys))

pub replied-append : (m : TableMap) (xs ys : List Asked) → replied m (xs ++ ys) ≡ replied m xs ++ replied (table_after m (replied m xs)) ys
replied-append m [] ys = refl
replied-append m (x ∷ xs) ys = ap (λ l. record { place = x.place; session = x.session; rank = x.rank; command = x.command; reply = (act_on m x.command).1 } ∷ l) (replied-append (act_on m x.command).0 xs ys)

pub table_after-append : (m : TableMap) (xs ys : List Act) → table_after m (xs ++ ys) ≡ table_after (table_after m xs) ys
table_after-append m [] ys = refl
table_after-append m (x ∷ xs) ys = table_after-append (act_on m x.command).0 xs ys

pub appearances-append : (xs ys : List Placed) → appearances (xs ++ ys) ≡ appearances xs ++ appearances ys
appearances-append xs ys = filter_map-append (λ (p : Placed). appearance_of p.place p.content) xs ys

pub unpack_all-append : (pos : ℕ) (es fs : List Entry) → unpack_all pos (es ++ fs) ≡ unpack_all pos es ++ unpack_all (pos + length es) fs
unpack_all-append pos [] fs = ap (λ n. unpack_all n fs) (sym (add-zero pos))
unpack_all-append pos (e ∷ es) fs =
    ap (λ l. unpack pos e ++ l) (unpack_all-append (pos + 1) es fs)
    ∙ sym (append_assoc (unpack pos e) (unpack_all (pos + 1) es) (unpack_all (pos + 1 + length es) fs))
    ∙ ap (λ n. (unpack pos e ++ unpack_all (pos + 1) es) ++ unpack_all n fs) (let same : pos + 1 + length es ≡ pos + suc (length es) = omega arith in same)

pub asked_in-append : (pos : ℕ) (es fs : List Entry) → asked_in pos (es ++ fs) ≡ asked_in pos es ++ asked_in (pos + length es) fs
asked_in-append pos es fs = ap appearances (unpack_all-append pos es fs) ∙ appearances-append (unpack_all pos es) (unpack_all (pos + length es) fs)

-- what more entries do, behind those that stand there
pub acted_log-append : (m : TableMap) (start : ℕ → ℕ) (pos : ℕ) (es fs : List Entry)
    → acted_log m start pos (es ++ fs) ≡ acted_log m start pos es ++ replied (table_after m (acted_log m start pos es)) (acted_after start (asked_in pos es) (asked_in (pos + length es) fs))
acted_log-append m start pos es fs =
    ap (λ l. replied m (acted_from start l)) (asked_in-append pos es fs)
    ∙ ap (replied m) (acted_after-append start [] (asked_in pos es) (asked_in (pos + length es) fs))
    ∙ replied-append m (acted_from start (asked_in pos es)) (acted_after start (asked_in pos es) (asked_in (pos + length es) fs))
