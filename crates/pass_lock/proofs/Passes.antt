-- What a pass says in a turn, and what its seat then knows.
use Rattle.std.proofs.Common.{◌≡◌, ℕ, ◌<◌, ◌%◌, ◌^◌, List, [], ◌∷◌, length, sym, ap, ◌∙◌, subst, arith, eq-eqb, ne_eqb, cond, Option, Some, None}
use mathlib.Core.Logic.{dite}
use mathlib.Core.Bool.{true≢false}
use native.Mathlib.Decide.{ℕ_discrete}
use Rattle.std.specs.Option.{IsSome, is_some}
use Rattle.atomic_table.specs.declared.shared.Seat.{Seat}
use Rattle.pass_lock.specs.declared.view.View.{View}
use Rattle.pass_lock.specs.Pass.{Known, given, first_seen, brought}
use Rattle.pass_lock.specs.Rule.{seeing, inside}
use Rattle.pass_lock.specs.Steps.{Held, Rests, pass_of}
use Rattle.pass_lock.proofs.Known.{brought-length, brought-again, first_seen-brought}

module _ {S E : Type 0} (s : Seat (Option S) (View E)) (p : Known E) (is : pass_of s ≡ p) where
  -- a pass in a turn is inside
  pub busy_is : IsSome p.turn → s.me.0.stage ≡ inside
  busy_is some-turn = dite (ℕ_discrete s.me.0.stage inside) (λ e. e)
      (λ ne. let none : (pass_of s).turn ≡ None = ap (λ b. cond b (Some (s.me.0.ticket, first_seen s.me.0.parts)) None) (ne_eqb s.me.0.stage inside ne) in
      absurd (true≢false (sym some-turn ∙ ap is_some (sym (ap (λ k. k.turn) is) ∙ none))))

  pub given-is : s.me.0.stage ≡ inside → given p.turn ≡ first_seen s.me.0.parts
  given-is busy = sym (ap (λ k. given k.turn) is) ∙ ap (λ b. given (cond b (Some (s.me.0.ticket, first_seen s.me.0.parts)) None)) (eq-eqb s.me.0.stage inside busy)

-- once the value was taken, the pass is inside
pub inside_after : {S E : Type 0} (m : Held S E) (word : ℕ) (journal : List E) (parts : List (ℕ × List E)) (made : List (ℕ × List E)) → m.0 ≡ seeing (brought journal parts) made inside m.0.ticket → m.1 ≡ (0, None) ∷ []
    → word ≡ m.0.ticket % 2 ^ 64 → 0 < length parts → Rests m word
inside_after {S} {E} m word journal parts made view slot number some-part = let Parts : Type 0 = List (ℕ × List E) in let is : m.0.parts ≡ brought journal parts = ap (λ v. v.parts) view in record {
  idle = λ ne. absurd (ne (ap (λ v. v.stage) view));
  busy = λ e. record {
    stage = e;
    slot = slot;
    number = number;
    some_part = let a : length m.0.parts ≡ length (brought journal parts) = ap length is in let b = brought-length journal parts in omega arith;
    seen = subst (λ (p : Parts). p ≡ brought (first_seen p) p) (sym is) (sym (ap (λ l. brought l (brought journal parts)) (first_seen-brought journal parts some-part) ∙ brought-again journal journal parts));
  };
}
