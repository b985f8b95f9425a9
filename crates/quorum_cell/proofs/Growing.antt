-- Servers only grow.
use Rattle.std.proofs.Common.{◌≡◌, ℕ, ◌-◌, Bool, true, false, refl, ap, ◌∙◌, arith, List, [], ◌∷◌, Option, Some, None, length-append, length-drop}
use Rattle.std.specs.Prelude.{if◌then◌else◌, is_some}
use Rattle.std.proofs.lemmas.Bool.{ltb-true, false≢true}
use Rattle.delos_types.specs.declared.entry.Entry.{Entry}
use Rattle.quorum_cell.specs.declared.message.Ask.{Ask}
use Rattle.quorum_cell.specs.declared.message.Ask.TheVariants.{Store, Seal, Tail, Repair, Read, Trim}
use Rattle.quorum_cell.specs.Servers.{Server, is_sealed, writes, wrote, written, restarted}
use Rattle.quorum_cell.specs.Law.{Grows}

pub grows_same : (s : Server) → Grows s s
grows_same s = record { base = omega arith; longer = omega arith; sealed = λ e. refl; unsealed = omega arith }

sealed_same : (s t : Server) → t.sealed_at ≡ s.sealed_at → is_sealed s ≡ true → is_sealed t ≡ true
sealed_same s t e h = ap is_some e ∙ h

pub grows_twice : (a b c : Server) → Grows a b → Grows b c → Grows a c
grows_twice a b c f g = record {
  base = omega (arith, f.base, g.base);
  longer = omega (arith, f.longer, g.longer);
  sealed = λ e. g.sealed (sealed_same a b (f.sealed e) e) ∙ f.sealed e;
  unsealed = omega (arith, f.unsealed, g.unsealed);
}

-- what stays is a fact on fields alone
at_write : (b : ℕ) (es : List Entry) (z : Option ℕ) (u : Bool) (w : Option Ask) (ask : Ask) → let s : Server = record { base = b; entries = es; sealed_at = z; up = u; torn = w } in writes s ask ≡ true → Grows s (wrote s ask)
at_write b es None u w (Store p e) h = record { base = omega arith; longer = omega (arith, length-append es (e ∷ [])); sealed = λ k. absurd (false≢true k); unsealed = omega (arith, length-append es (e ∷ [])) }
at_write b es (Some m) u w (Store p e) h = absurd (false≢true h)
at_write b es None u w Seal h = record { base = omega arith; longer = omega arith; sealed = λ k. absurd (false≢true k); unsealed = omega arith }
at_write b es (Some m) u w Seal h = absurd (false≢true h)
at_write b es z u w Tail h = absurd (false≢true h)
at_write b es None u w (Repair p e) h = absurd (false≢true h)
at_write b es (Some m) u w (Repair p e) h = record { base = omega arith; longer = omega (arith, length-append es (e ∷ [])); sealed = λ k. refl; unsealed = omega arith }
at_write b es z u w (Read p) h = absurd (false≢true h)
at_write b es None u w (Trim n) h = record { base = omega (arith, ltb-true _ _ h); longer = omega (arith, ltb-true _ _ h, length-drop (n - b) es); sealed = λ k. refl; unsealed = omega (arith, ltb-true _ _ h, length-drop (n - b) es) }
at_write b es (Some m) u w (Trim n) h = record { base = omega (arith, ltb-true _ _ h); longer = omega (arith, ltb-true _ _ h, length-drop (n - b) es); sealed = λ k. refl; unsealed = omega arith }

pub wrote_grows : (s : Server) (ask : Ask) → writes s ask ≡ true → Grows s (wrote s ask)
wrote_grows s ask h = at_write s.base s.entries s.sealed_at s.up s.torn ask h

pub written_grows : (s : Server) (ask : Ask) → Grows s (written s ask)
written_grows s ask = by (writes s ask) refl
  where
    by : (b : Bool) → writes s ask ≡ b → Grows s (if b then wrote s ask else s)
    by true e = wrote_grows s ask e
    by false e = grows_same s

-- whether it is up, and what it stopped in, are no part of that
pub grows_aside : (s t : Server) (u : Bool) (w : Option Ask) → Grows (record s { up = u; torn = w }) t → Grows s t
grows_aside s t u w g = record { base = g.base; longer = g.longer; sealed = g.sealed; unsealed = g.unsealed }

pub restarted_grows : (s : Server) (kept : Bool) (torn : Option Ask) → Grows s (restarted s kept torn)
restarted_grows s kept None = record { base = omega arith; longer = omega arith; sealed = λ e. refl; unsealed = omega arith }
restarted_grows s true (Some ask) = grows_aside s _ true None (written_grows (record s { up = true; torn = None }) ask)
restarted_grows s false (Some ask) = grows_aside s _ true None (grows_same (record s { up = true; torn = None }))
