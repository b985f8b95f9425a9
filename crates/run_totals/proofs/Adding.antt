-- Small adds, one after another, add up in the table.
use Rattle.std.proofs.Common.{◌≡◌, refl, sym, ap, ◌∙◌, subst, ℕ, ◌+◌, ◌^◌, ◌<◌, ◌≤◌, cond, List, [], ◌∷◌, Option, Some, None, fold, sum_by, ℤ, pos, negsuc, ◌+ℤ◌, ◌≤ℤ◌, arith}
use Rattle.std.specs.FinMap as finmap
use Rattle.std.specs.FinMap.{entries, entries-insert, get-entries}
use Rattle.std.specs.Fmt.{decimal}
use Rattle.std.specs.List.{AllByRecursion}
use Rattle.std.proofs.lemmas.Bool.{lt-ltb}
use Rattle.std.proofs.lemmas.Cmp.{nat_list_cmp_total}
use Rattle.std.proofs.lemmas.Int.{ints}
use Rattle.std.proofs.lemmas.List.Sums.{sum_by-cons}
use Rattle.delos_types.specs.Spaces.{Text}
use Rattle.table_core.specs.declared.command.Command.{Command}
use Rattle.table_core.specs.declared.command.Command.TheVariants.{Put, Del, Cas, Add}
use Rattle.table_core.specs.declared.command.Reply.{Reply}
use Rattle.table_core.specs.declared.command.Reply.TheVariants.{Number, Full}
use Rattle.table_core.specs.Table.{TableMap, act, added, amount_of, outcome, set_at}
use Rattle.engine_api.specs.declared.act.Act.{Act}
use Rattle.engine_api.specs.Acted.{act_on, table_after}
use Rattle.run_totals.specs.Totals.{number_in, sum_of_table}
use Rattle.run_totals.specs.Adds.{IsSmallAdd, amount_in}
use Rattle.run_totals.proofs.Numbers.{amount-decimal, number-decimal}
use Rattle.run_totals.proofs.Sums.{all-put, all-found, number_found, sum-insert, entries-empty}

-- the value is the text of a number up to this one
abbrev IsNumber : ℕ → Text → Type 0
IsNumber most v = (n : ℕ) × (v ≡ decimal n) × (n ≤ most)

-- all values are numbers, and this is their sum
record AddUp (m : TableMap) (sum : ℕ) : Type 0 where
  sum_is : sum_of_table m ≡ pos sum
  numbers : AllByRecursion (λ e. IsNumber sum e.1) (entries m)

all-below : (most more : ℕ) (es : List (Text × Text)) → most ≤ more → AllByRecursion (λ e. IsNumber most e.1) es → AllByRecursion (λ e. IsNumber more e.1) es
all-below most more [] le h = tt
all-below most more (e ∷ es) le h = (let upto = h.0.2 in (h.0.0, h.0.1, omega (arith, upto, le)), all-below most more es le h.1)

new_sum : (s f v : ℤ) (sum old n new : ℕ) → s +ℤ f ≡ pos sum +ℤ v → f ≡ pos old → v ≡ pos n → new + old ≡ sum + n → s ≡ pos new
new_sum s f v sum old n new e f_is v_is more = omega (arith, ints)

insert-adds_up : (m : TableMap) (k : Text) (sum old n new : ℕ) → AddUp m sum → number_found (finmap.get m k) ≡ pos old → n < 2 ^ 63 → n ≤ new → sum ≤ new → new + old ≡ sum + n → AddUp (finmap.insert m k (decimal n)) new
insert-adds_up m k sum old n new h old_is fits upto le more = record {
  sum_is =
      new_sum (sum_of_table (finmap.insert m k (decimal n))) (number_found (finmap.get m k)) (number_in (decimal n)) sum old n new
      (sum-insert m k (decimal n) ∙ ap (λ s. s +ℤ number_in (decimal n)) h.sum_is) old_is (number-decimal n fits) more;
  numbers =
      subst (AllByRecursion (λ e. IsNumber new e.1)) (sym (entries-insert nat_list_cmp_total m k (decimal n)))
      (all-put (IsNumber new) k (decimal n) (entries m) (n, refl, upto) (all-below sum new (entries m) le h.numbers));
}

-- the value at a key after an add
added-decimal : (v : Text) (n z : ℕ) → v ≡ decimal n → n + z < 2 ^ 63 → (added v (amount_of v) (pos z)).0 ≡ Some (decimal (n + z))
added-decimal v n z is fits =
    ap (λ a. (added v a (pos z)).0) (ap amount_of is ∙ amount-decimal n (omega (arith, fits)))
    ∙ ap (λ b. (cond {A = Option Text × Reply} b (Some (decimal (n + z)), Number (pos (n + z))) (Some v, Full)).0) (lt-ltb (n + z) (2 ^ 63) fits)

add-adds_up : (m : TableMap) (k : Text) (z sum : ℕ) → AddUp m sum → sum + z < 2 ^ 63 → AddUp (act m (Add k (pos z))).0 (sum + z)
add-adds_up m k z sum h fits = by (finmap.get m k) refl
  where
    by : (o : Option Text) → finmap.get m k ≡ o → AddUp (set_at m k (outcome (Add k (pos z)) o).0) (sum + z)
    by None is =
        insert-adds_up m k sum 0 z (sum + z) h (ap number_found is) (omega (arith, fits)) (omega arith) (omega arith) (omega arith)
    by (Some v) is =
        let number : IsNumber sum v = all-found (IsNumber sum) k v (entries m) h.numbers (sym (get-entries m k) ∙ is) in
        let n : ℕ = number.0 in
        let upto = number.2 in
        let old : number_found (finmap.get m k) ≡ pos n = ap number_found is ∙ ap number_in number.1 ∙ number-decimal n (omega (arith, fits, upto)) in
        subst (λ x. AddUp (set_at m k x) (sum + z)) (sym (added-decimal v n z number.1 (omega (arith, fits, upto))))
        (insert-adds_up m k sum n (n + z) (sum + z) h old (omega (arith, fits, upto)) (omega (arith, upto)) (omega arith) (omega arith))

-- A list of adds

abbrev worth : ℤ → ℕ
worth (pos n) = n
worth (negsuc n) = 0

-- what an act adds
abbrev pub act_adds : Option Command → ℕ
act_adds None = 0
act_adds (Some c) = worth (amount_in c)

abbrev pub IsSmallAct : Option Command → Type 0
IsSmallAct None = ⊥
IsSmallAct (Some c) = IsSmallAdd c

small-worth : (z : ℤ) → pos 0 ≤ℤ z → z ≤ℤ pos 99 → (z ≡ pos (worth z)) × (worth z ≤ 99)
small-worth (pos n) low high = (refl, omega (arith, ints))
small-worth (negsuc n) low high = absurd (omega (arith, ints))

pub small-adds : (c : Command) → IsSmallAdd c → (amount_in c ≡ pos (worth (amount_in c))) × (worth (amount_in c) ≤ 99)
small-adds (Put key value) h = absurd h
small-adds (Del key) h = absurd h
small-adds (Cas key old new) h = absurd h
small-adds (Add key amount) h = small-worth amount h.0 h.1

small-act : (m : TableMap) (c : Option Command) (sum : ℕ) → IsSmallAct c → AddUp m sum → sum + act_adds c < 2 ^ 63 → AddUp (act_on m c).0 (sum + act_adds c)
small-act m None sum small h fits = absurd small
small-act m (Some (Put key value)) sum small h fits = absurd small
small-act m (Some (Del key)) sum small h fits = absurd small
small-act m (Some (Cas key old new)) sum small h fits = absurd small
small-act m (Some (Add key amount)) sum small h fits =
    subst (λ z. AddUp (act m (Add key z)).0 (sum + worth amount)) (sym (small-worth amount small.0 small.1).0) (add-adds_up m key (worth amount) sum h fits)

acts-add_up : (m : TableMap) (sum : ℕ) (acts : List Act) → AddUp m sum → AllByRecursion (λ a. IsSmallAct a.command) acts → sum + sum_by (λ a. act_adds a.command) acts < 2 ^ 63 → AddUp (table_after m acts) (sum + sum_by (λ a. act_adds a.command) acts)
acts-add_up m sum [] h small fits = let same : sum ≡ sum + 0 = omega arith in subst (AddUp m) same h
acts-add_up m sum (a ∷ acts) h small fits =
    let more = sum_by-cons (λ (a : Act). act_adds a.command) a acts in
    let same : (sum + act_adds a.command) + sum_by (λ (a : Act). act_adds a.command) acts ≡ sum + sum_by (λ (a : Act). act_adds a.command) (a ∷ acts) = omega arith in
    subst (AddUp (table_after m (a ∷ acts))) same
    (acts-add_up (act_on m a.command).0 (sum + act_adds a.command) acts (small-act m a.command sum small.0 h (omega (arith, fits))) small.1 (omega (arith, fits)))

empty-adds_up : AddUp finmap.empty 0
empty-adds_up = record {
  sum_is = ap (fold (λ s e. s +ℤ number_in e.1) (pos 0)) entries-empty;
  numbers = subst (AllByRecursion (λ e. IsNumber 0 e.1)) (sym entries-empty) tt;
}

-- these adds leave a table whose sum is theirs
pub adds-sum : (acts : List Act) → AllByRecursion (λ a. IsSmallAct a.command) acts → sum_by (λ a. act_adds a.command) acts < 2 ^ 63 → sum_of_table (table_after finmap.empty acts) ≡ pos (sum_by (λ a. act_adds a.command) acts)
adds-sum acts small fits = (acts-add_up finmap.empty 0 acts empty-adds_up small (omega (arith, fits))).sum_is ∙ ap pos (omega arith)
