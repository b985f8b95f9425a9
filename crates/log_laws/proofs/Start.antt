-- The empty space is the state of the empty log.
use Rattle.std.proofs.Common.{◌≡◌, refl, sym, ap, ◌∙◌, ℕ, ◌+◌, Bool, true, false, cond, [], Some, None, is_some}
use Rattle.std.specs.Prelude.{nat_lt, ◌^◌}
use Rattle.std.specs.Option.{option_map}
use Rattle.std.specs.FinMap as finmap
use Rattle.std.specs.FinMap.{get-empty}
use Rattle.delos_types.specs.Spaces.{SpaceMap, text_cmp, space_cmp}
use Rattle.table_core.specs.Reading.{command_of}
use Rattle.engine_steps.specs.Layout.{number_at, held_of, held_key, is_holding, is_left, clean_key, slot_read}
use Rattle.log_laws.specs.State.{HoldsRanks, IsStateOf}
use Rattle.log_laws.proofs.Holding.{holding_some}

abbrev nothing : SpaceMap
nothing = finmap.empty

none_held : (s q : ℕ) → held_of nothing s q ≡ None
none_held s q = of_test (nat_lt q (2 ^ 64))
  where
    of_test : (b : Bool) → cond b (finmap.get nothing (2, held_key s q)) None ≡ None
    of_test true = get-empty space_cmp (2, held_key s q)
    of_test false = refl

holds_none : HoldsRanks nothing
holds_none = record { key = λ k v high e. let off : None ≡ Some v = sym (get-empty space_cmp (2, k)) ∙ e in absurd (cc) }

none_waits : is_holding nothing ≡ false
none_waits = elim (is_holding nothing) as (λ b. is_holding nothing ≡ b → b ≡ false) [
  | true ↦ λ e. let w = holding_some nothing holds_none e in let off : false ≡ true = sym (ap is_some (none_held w.session w.rank)) ∙ w.waits in absurd (cc)
  | false ↦ λ e. refl
] refl

pub starts : IsStateOf [] nothing
starts = record {
  sessions = record {
    sessions = λ s hs. record {
      gap = ap (λ n. n + 1) (sym (ap number_at (get-empty space_cmp _)));
      held = λ q far. ap (option_map command_of) (none_held s q);
      none = λ q near. none_held s q;
    };
    waiting = holds_none;
    known = tt;
  };
  clean = ap (λ b. cond b (number_at (finmap.get nothing (2, clean_key))) 0) none_waits;
  members = record {
    gone = λ node. ap is_left (get-empty space_cmp _);
    reported = λ node stays. ap number_at (get-empty space_cmp _);
  };
  trim = ap number_at (get-empty space_cmp _);
  table = λ key. get-empty space_cmp _ ∙ sym (get-empty text_cmp key);
  replies = record { at = λ s r hs one. ap (slot_read r) (get-empty space_cmp _) };
}
