-- What a log server's answer says of it, before and after.
use Rattle.std.proofs.Common.{◌≡◌, ℕ, ◌+◌, ◌-◌, ◌<◌, ◌≤◌, Bool, true, false, refl, ap, sym, ◌∙◌, arith, List, [], ◌∷◌, ◌++◌, length, drop, Option, Some, None, length-append, length-drop}
use Rattle.std.specs.Prelude.{if◌then◌else◌, slice_get}
use Rattle.std.specs.Prelude.{◌⊎◌}
use Rattle.std.proofs.Common.{inl, inr}
use Rattle.std.proofs.lemmas.Bool.{ltb-true, eqb-true, false≢true, and_parts, cases_order}
use Rattle.std.proofs.lemmas.Bool.Decides.{nat_tests}
use Rattle.std.proofs.lemmas.Option.{none-some, same_Some, slice_get_within}
use Rattle.delos_types.specs.declared.entry.Entry.{Entry}
use Rattle.quorum_cell.specs.declared.message.Ask.{Ask}
use Rattle.quorum_cell.specs.declared.message.Ask.TheVariants.{Store, Seal, Tail, Repair, Read, Trim}
use Rattle.quorum_cell.specs.declared.message.Told.{Told}
use Rattle.quorum_cell.specs.declared.message.Told.TheVariants.{Got, Trimmed}
use Rattle.quorum_cell.specs.Servers.{Server, length_of, is_sealed, unsealed_length, writes, wrote, written, restarted, told_up}
use Rattle.quorum_cell.specs.Cells.{Cell}
use Rattle.quorum_cell.specs.Tallies.{fails, open_told, sealed_told, mended_told}
use Rattle.quorum_cell.specs.Law.{IsOurs, ServerHolds}
use Rattle.quorum_cell.proofs.Lists.{slice_get_push_old, slice_get_push_new, slice_get_drop}

-- an answer beside the server as it was and as it is
pub record Fits (old new : Server) (ask : Ask) (t : Told) : Type 0 where
  pub opened : (n : ℕ) → open_told ask t ≡ Some n → (is_sealed old ≡ false) × (length_of old ≤ n) × (n ≤ unsealed_length new)
  pub sealed : (n : ℕ) → sealed_told t ≡ Some n → (is_sealed new ≡ true) × (unsealed_length new ≤ n) × (n ≤ length_of new)
  pub mended : (n : ℕ) → mended_told ask t ≡ Some n → (is_sealed new ≡ true) × (n ≤ length_of new)

-- each line of the table, for a server that is open and for one that is sealed at m
open_store : (b : ℕ) (es : List Entry) (u : Bool) (w : Option Ask) (p : ℕ) (e : Entry) → let s : Server = record { base = b; entries = es; sealed_at = None; up = u; torn = w } in Fits s (written s (Store p e)) (Store p e) (told_up s (Store p e))
open_store b es u w p e = record { opened = λ n h. grind (arith, nat_tests, length-append es (e ∷ [])); sealed = λ n h. grind (arith, nat_tests, length-append es (e ∷ [])); mended = λ n h. grind (arith, nat_tests, length-append es (e ∷ [])) }

open_seal : (b : ℕ) (es : List Entry) (u : Bool) (w : Option Ask) → let s : Server = record { base = b; entries = es; sealed_at = None; up = u; torn = w } in Fits s (written s Seal) Seal (told_up s Seal)
open_seal b es u w = record { opened = λ n h. grind (arith, nat_tests); sealed = λ n h. grind (arith, nat_tests); mended = λ n h. grind (arith, nat_tests) }

open_tail : (b : ℕ) (es : List Entry) (u : Bool) (w : Option Ask) → let s : Server = record { base = b; entries = es; sealed_at = None; up = u; torn = w } in Fits s (written s Tail) Tail (told_up s Tail)
open_tail b es u w = record { opened = λ n h. grind (arith, nat_tests); sealed = λ n h. grind (arith, nat_tests); mended = λ n h. grind (arith, nat_tests) }

open_repair : (b : ℕ) (es : List Entry) (u : Bool) (w : Option Ask) (p : ℕ) (e : Entry) → let s : Server = record { base = b; entries = es; sealed_at = None; up = u; torn = w } in Fits s (written s (Repair p e)) (Repair p e) (told_up s (Repair p e))
open_repair b es u w p e = record { opened = λ n h. grind (arith, nat_tests, length-append es (e ∷ [])); sealed = λ n h. grind (arith, nat_tests, length-append es (e ∷ [])); mended = λ n h. grind (arith, nat_tests, length-append es (e ∷ [])) }

open_read : (b : ℕ) (es : List Entry) (u : Bool) (w : Option Ask) (p : ℕ) → let s : Server = record { base = b; entries = es; sealed_at = None; up = u; torn = w } in Fits s (written s (Read p)) (Read p) (told_up s (Read p))
open_read b es u w p = record { opened = λ n h. grind (arith, nat_tests); sealed = λ n h. grind (arith, nat_tests); mended = λ n h. grind (arith, nat_tests) }

open_trim : (b : ℕ) (es : List Entry) (u : Bool) (w : Option Ask) (n : ℕ) → let s : Server = record { base = b; entries = es; sealed_at = None; up = u; torn = w } in Fits s (written s (Trim n)) (Trim n) (told_up s (Trim n))
open_trim b es u w n = record { opened = λ n h. grind (arith, nat_tests); sealed = λ n h. grind (arith, nat_tests); mended = λ n h. grind (arith, nat_tests) }

sealed_store : (b : ℕ) (es : List Entry) (u : Bool) (w : Option Ask) (m : ℕ) (p : ℕ) (e : Entry) → let s : Server = record { base = b; entries = es; sealed_at = (Some m); up = u; torn = w } in m ≤ b + length es → Fits s (written s (Store p e)) (Store p e) (told_up s (Store p e))
sealed_store b es u w m p e within = record { opened = λ n h. grind (arith, nat_tests, length-append es (e ∷ [])); sealed = λ n h. grind (arith, nat_tests, length-append es (e ∷ [])); mended = λ n h. grind (arith, nat_tests, length-append es (e ∷ [])) }

sealed_seal : (b : ℕ) (es : List Entry) (u : Bool) (w : Option Ask) (m : ℕ) → let s : Server = record { base = b; entries = es; sealed_at = (Some m); up = u; torn = w } in m ≤ b + length es → Fits s (written s Seal) Seal (told_up s Seal)
sealed_seal b es u w m within = record { opened = λ n h. grind (arith, nat_tests); sealed = λ n h. grind (arith, nat_tests); mended = λ n h. grind (arith, nat_tests) }

sealed_tail : (b : ℕ) (es : List Entry) (u : Bool) (w : Option Ask) (m : ℕ) → let s : Server = record { base = b; entries = es; sealed_at = (Some m); up = u; torn = w } in m ≤ b + length es → Fits s (written s Tail) Tail (told_up s Tail)
sealed_tail b es u w m within = record { opened = λ n h. grind (arith, nat_tests); sealed = λ n h. grind (arith, nat_tests); mended = λ n h. grind (arith, nat_tests) }

sealed_repair : (b : ℕ) (es : List Entry) (u : Bool) (w : Option Ask) (m : ℕ) (p : ℕ) (e : Entry) → let s : Server = record { base = b; entries = es; sealed_at = (Some m); up = u; torn = w } in m ≤ b + length es → Fits s (written s (Repair p e)) (Repair p e) (told_up s (Repair p e))
sealed_repair b es u w m p e within = record { opened = λ n h. grind (arith, nat_tests, length-append es (e ∷ [])); sealed = λ n h. grind (arith, nat_tests, length-append es (e ∷ [])); mended = λ n h. grind (arith, nat_tests, length-append es (e ∷ [])) }

sealed_read : (b : ℕ) (es : List Entry) (u : Bool) (w : Option Ask) (m : ℕ) (p : ℕ) → let s : Server = record { base = b; entries = es; sealed_at = (Some m); up = u; torn = w } in m ≤ b + length es → Fits s (written s (Read p)) (Read p) (told_up s (Read p))
sealed_read b es u w m p within = record { opened = λ n h. grind (arith, nat_tests); sealed = λ n h. grind (arith, nat_tests); mended = λ n h. grind (arith, nat_tests) }

sealed_trim : (b : ℕ) (es : List Entry) (u : Bool) (w : Option Ask) (m : ℕ) (n : ℕ) → let s : Server = record { base = b; entries = es; sealed_at = (Some m); up = u; torn = w } in m ≤ b + length es → Fits s (written s (Trim n)) (Trim n) (told_up s (Trim n))
sealed_trim b es u w m n within = record { opened = λ n h. grind (arith, nat_tests); sealed = λ n h. grind (arith, nat_tests); mended = λ n h. grind (arith, nat_tests) }

at_answer : (b : ℕ) (es : List Entry) (z : Option ℕ) (u : Bool) (w : Option Ask) (ask : Ask) → let s : Server = record { base = b; entries = es; sealed_at = z; up = u; torn = w } in
    ((m : ℕ) → z ≡ Some m → m ≤ b + length es) → Fits s (written s ask) ask (told_up s ask)
at_answer b es None u w (Store p e) fits = open_store b es u w p e
at_answer b es None u w Seal fits = open_seal b es u w
at_answer b es None u w Tail fits = open_tail b es u w
at_answer b es None u w (Repair p e) fits = open_repair b es u w p e
at_answer b es None u w (Read p) fits = open_read b es u w p
at_answer b es None u w (Trim n) fits = open_trim b es u w n
at_answer b es (Some m) u w (Store p e) fits = sealed_store b es u w m p e (fits m refl)
at_answer b es (Some m) u w Seal fits = sealed_seal b es u w m (fits m refl)
at_answer b es (Some m) u w Tail fits = sealed_tail b es u w m (fits m refl)
at_answer b es (Some m) u w (Repair p e) fits = sealed_repair b es u w m p e (fits m refl)
at_answer b es (Some m) u w (Read p) fits = sealed_read b es u w m p (fits m refl)
at_answer b es (Some m) u w (Trim n) fits = sealed_trim b es u w m n (fits m refl)

pub answer_fits : (s : Server) (ask : Ask) → ((m : ℕ) → s.sealed_at ≡ Some m → m ≤ length_of s) → Fits s (written s ask) ask (told_up s ask)
answer_fits s ask fits = at_answer s.base s.entries s.sealed_at s.up s.torn ask fits

-- the server's entries stay the cell's
pushed_holds : (c : Cell) (s : Server) (p : ℕ) (e : Entry) → p ≡ length_of s → slice_get c.entries p ≡ Some e → ServerHolds c s → ServerHolds c (record s { entries = s.entries ++ e ∷ [] })
pushed_holds c s p e at ours h = record {
  same = λ k l. by k l (cases_order k (length s.entries));
  trimmed = h.trimmed;
  within = omega (arith, slice_get_within c.entries p e ours, length-append s.entries (e ∷ []));
  sealed = λ n z. omega (arith, h.sealed n z, length-append s.entries (e ∷ []));
  torn = h.torn;
}
  where
    here : (k : ℕ) → k ≡ length s.entries → slice_get (s.entries ++ e ∷ []) k ≡ slice_get c.entries (s.base + k)
    here k i = let q : s.base + k ≡ p = omega arith in slice_get_push_new s.entries e k i ∙ sym (ap (slice_get c.entries) q ∙ ours)

    by : (k : ℕ) → k < length (s.entries ++ e ∷ []) → ((k ≡ length s.entries) ⊎ ((k < length s.entries) ⊎ (length s.entries < k))) → slice_get (s.entries ++ e ∷ []) k ≡ slice_get c.entries (s.base + k)
    by k l (inl i) = here k i
    by k l (inr (inl i)) = slice_get_push_old s.entries e k i ∙ h.same k i
    by k l (inr (inr i)) = absurd (omega (arith, length-append s.entries (e ∷ [])))

sealing_holds : (c : Cell) (s : Server) → ServerHolds c s → ServerHolds c (record s { sealed_at = Some (length_of s) })
sealing_holds c s h = record {
  same = h.same;
  trimmed = h.trimmed;
  within = h.within;
  sealed = λ n z. omega (arith, same_Some _ _ z);
  torn = h.torn;
}

trimming_holds : (c : Cell) (s : Server) (n : ℕ) → c.cut ≤ length c.entries → s.base < n → n ≤ c.cut → ServerHolds c s → ServerHolds c (record s { base = n; entries = drop (n - s.base) s.entries })
trimming_holds c s n room above ours h = record {
  same = λ k l. let q : s.base + ((n - s.base) + k) ≡ n + k = omega arith in
      slice_get_drop (n - s.base) s.entries k ∙ h.same ((n - s.base) + k) (omega (arith, length-drop (n - s.base) s.entries)) ∙ ap (slice_get c.entries) q;
  trimmed = ours;
  within = omega (arith, h.within, length-drop (n - s.base) s.entries);
  sealed = λ m z. omega (arith, h.sealed m z, length-drop (n - s.base) s.entries);
  torn = h.torn;
}

wrote_holds : (c : Cell) (s : Server) (ask : Ask) → c.cut ≤ length c.entries → writes s ask ≡ true → IsOurs c ask → ServerHolds c s → ServerHolds c (wrote s ask)
wrote_holds c s (Store p e) room w ours h = pushed_holds c s p e (eqb-true _ _ (and_parts _ _ w).1) ours h
wrote_holds c s Seal room w ours h = sealing_holds c s h
wrote_holds c s Tail room w ours h = h
wrote_holds c s (Repair p e) room w ours h = pushed_holds c s p e (eqb-true _ _ (and_parts _ _ w).1) ours h
wrote_holds c s (Read p) room w ours h = h
wrote_holds c s (Trim n) room w ours h = trimming_holds c s n room (ltb-true _ _ w) ours h

pub written_holds : (c : Cell) (s : Server) (ask : Ask) → c.cut ≤ length c.entries → IsOurs c ask → ServerHolds c s → ServerHolds c (written s ask)
written_holds c s ask room ours h = by (writes s ask) refl
  where
    by : (b : Bool) → writes s ask ≡ b → ServerHolds c (if b then wrote s ask else s)
    by true w = wrote_holds c s ask room w ours h
    by false w = h

-- whether it is up, and what it stopped in, change nothing of that
pub aside_holds : (c : Cell) (s : Server) (u : Bool) (w : Option Ask) → ((ask : Ask) → w ≡ Some ask → IsOurs c ask) → ServerHolds c s → ServerHolds c (record s { up = u; torn = w })
aside_holds c s u w ours h = record { same = h.same; trimmed = h.trimmed; within = h.within; sealed = h.sealed; torn = ours }

pub restarted_holds : (c : Cell) (s : Server) (kept : Bool) (torn : Option Ask) → c.cut ≤ length c.entries → ((ask : Ask) → torn ≡ Some ask → IsOurs c ask) → ServerHolds c s → ServerHolds c (restarted s kept torn)
restarted_holds c s kept None room ours h = record { same = h.same; trimmed = h.trimmed; within = h.within; sealed = h.sealed; torn = h.torn }
restarted_holds c s true (Some ask) room ours h = written_holds c _ ask room (ours ask refl) (aside_holds c s true None (λ a z. absurd (none-some a z)) h)
restarted_holds c s false (Some ask) room ours h = aside_holds c s true None (λ a z. absurd (none-some a z)) h

-- what a read gives and where it was cut
read_gives : (s : Server) (p : ℕ) (e : Entry) → told_up s (Read p) ≡ Got e → (s.base ≤ p) × (slice_get s.entries (p - s.base) ≡ Some e)
read_gives s p e h = grind (arith, nat_tests)

pub answer_got : (c : Cell) (s : Server) (ask : Ask) (p : ℕ) (e : Entry) → ServerHolds c s → ask ≡ Read p → told_up s ask ≡ Got e → slice_get c.entries p ≡ Some e
answer_got c s ask p e h is_read is_got =
    let gave : (s.base ≤ p) × (slice_get s.entries (p - s.base) ≡ Some e) = read_gives s p e (rw is_read at is_got) in
    let at : s.base + (p - s.base) ≡ p = omega (arith, gave.0) in
    sym (h.same (p - s.base) (slice_get_within s.entries (p - s.base) e gave.1) ∙ ap (slice_get c.entries) at) ∙ gave.1

-- a server that tells how far it let go has let go that far
store_tells_no_trim : (s : Server) (p : ℕ) (e : Entry) (n : ℕ) → told_up s (Store p e) ≡ Trimmed n → ⊥
store_tells_no_trim s p e n h = grind (arith, nat_tests)

tail_tells_no_trim : (s : Server) (n : ℕ) → told_up s Tail ≡ Trimmed n → ⊥
tail_tells_no_trim s n h = grind (arith, nat_tests)

repair_tells_no_trim : (s : Server) (p : ℕ) (e : Entry) (n : ℕ) → told_up s (Repair p e) ≡ Trimmed n → ⊥
repair_tells_no_trim s p e n h = grind (arith, nat_tests)

read_tells_no_trim : (s : Server) (p n : ℕ) → told_up s (Read p) ≡ Trimmed n → ⊥
read_tells_no_trim s p n h = grind (arith, nat_tests)

trim_lets_go : (s : Server) (m n : ℕ) → told_up s (Trim m) ≡ Trimmed n → n ≤ (written s (Trim m)).base
trim_lets_go s m n h = grind (arith, nat_tests)

pub answer_trimmed : (s : Server) (ask : Ask) (n : ℕ) → told_up s ask ≡ Trimmed n → n ≤ (written s ask).base
answer_trimmed s (Store p e) n h = absurd (store_tells_no_trim s p e n h)
answer_trimmed s Seal n h = absurd (cc)
answer_trimmed s Tail n h = absurd (tail_tells_no_trim s n h)
answer_trimmed s (Repair p e) n h = absurd (repair_tells_no_trim s p e n h)
answer_trimmed s (Read p) n h = absurd (read_tells_no_trim s p n h)
answer_trimmed s (Trim m) n h = trim_lets_go s m n h

-- a server that is up tells no failure
store_not_failed : (s : Server) (p : ℕ) (e : Entry) → fails (told_up s (Store p e)) ≡ true → ⊥
store_not_failed s p e h = grind (arith, nat_tests)

tail_not_failed : (s : Server) → fails (told_up s Tail) ≡ true → ⊥
tail_not_failed s h = grind (arith, nat_tests)

repair_not_failed : (s : Server) (p : ℕ) (e : Entry) → fails (told_up s (Repair p e)) ≡ true → ⊥
repair_not_failed s p e h = grind (arith, nat_tests)

read_not_failed : (s : Server) (p : ℕ) → fails (told_up s (Read p)) ≡ true → ⊥
read_not_failed s p h = grind (arith, nat_tests)

pub up_not_failed : (s : Server) (ask : Ask) → fails (told_up s ask) ≡ true → ⊥
up_not_failed s (Store p e) h = store_not_failed s p e h
up_not_failed s Seal h = false≢true h
up_not_failed s Tail h = tail_not_failed s h
up_not_failed s (Repair p e) h = repair_not_failed s p e h
up_not_failed s (Read p) h = read_not_failed s p h
up_not_failed s (Trim m) h = false≢true h

wrote_up : (s : Server) (ask : Ask) → (wrote s ask).up ≡ s.up
wrote_up s (Store p e) = refl
wrote_up s Seal = refl
wrote_up s Tail = refl
wrote_up s (Repair p e) = refl
wrote_up s (Read p) = refl
wrote_up s (Trim n) = refl

pub written_up : (s : Server) (ask : Ask) → (written s ask).up ≡ s.up
written_up s ask = by (writes s ask)
  where
    by : (b : Bool) → (if b then wrote s ask else s).up ≡ s.up
    by true = wrote_up s ask
    by false = refl

pub restarted_up : (s : Server) (kept : Bool) (torn : Option Ask) → (restarted s kept torn).up ≡ true
restarted_up s kept None = refl
restarted_up s true (Some ask) = written_up _ ask
restarted_up s false (Some ask) = refl
