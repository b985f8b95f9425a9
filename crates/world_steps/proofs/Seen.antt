-- What a world's log shows is what the events tell.
use Rattle.std.proofs.Common.{◌≡◌, ℕ, ◌+◌, ◌-◌, Bool, true, false, cond, refl, sym, ◌∙◌, ap, arith, List, [], ◌∷◌, Option, Some, None}
use Rattle.std.specs.Prelude.{nat_lt, unwrap_or, slice_get}
use Rattle.std.proofs.lemmas.Bool.Decides.{nat_tests}
use Rattle.delos_types.specs.declared.entry.Entry.{Entry}
use Rattle.delos_types.specs.declared.chain.Segment.{Segment}
use Rattle.delos_types.specs.declared.chain.Chain.{Chain}
use Rattle.chain_map.specs.Chain.{last_of_segments}
use Rattle.legal_journal.specs.declared.events.Event.{Event}
use Rattle.legal_journal.specs.Shown.{end_of, is_within, entry_in, entry_of}
use Rattle.legal_journal.specs.Moves.{Move, OnCell, OnRegister, Nothing, Never, move}
use Rattle.legal_journal.specs.Journal.{State, after, after_all, start, now_or_before, reach, entries}
use Rattle.legal_journal.specs.Journal as journal
use Rattle.world_steps.specs.Parts.{World, last_given}
use Rattle.world_steps.specs.Logs.{reach_in, entries_in, log_at, trim_of, tail_of}
use Rattle.world_steps.specs.Laws.{WorldLaw}

---- the events' log is shown

abbrev ShowsNow : State → Type 0
ShowsNow s = (pos : ℕ) (e : Entry) → journal.log_at s pos ≡ Some e → s.shown pos ≡ Some e

start_shows : ShowsNow start
start_shows pos e h = by (is_within 0 0 pos) outside h
  where
    outside : is_within 0 0 pos ≡ false
    outside = grind (arith, nat_tests)

    by : (b : Bool) → b ≡ false → cond (nat_lt pos 0) None (cond b (slice_get [] (pos - 0)) None) ≡ Some e → start.shown pos ≡ Some e
    by false t k = low (nat_lt pos 0) k
      where
        low : (x : Bool) → cond {A = Option Entry} x None None ≡ Some e → start.shown pos ≡ Some e
        low true g = absurd (cc)
        low false g = absurd (cc)
    by true t k = absurd (cc)

step_shows : (s : State) (who : ℕ) (m : Move) → ShowsNow s → ShowsNow (after s who m)
step_shows s who (OnCell i m) h pos e k = ap (λ x. now_or_before x (s.shown pos)) k
step_shows s who (OnRegister m) h pos e k = ap (λ x. now_or_before x (s.shown pos)) k
step_shows s who Nothing h pos e k = h pos e k
step_shows s who Never h pos e k = h pos e k

all_show : (s : State) (es : List Event) → ShowsNow s → ShowsNow (after_all s es)
all_show s [] h = h
all_show s (e ∷ es) h = all_show (after s e.who (move e)) es (step_shows s e.who (move e) h)

pub shows_now : (es : List Event) → ShowsNow (journal.state_of es)
shows_now es = all_show start es start_shows

---- the cells hold what the events tell

end_same : (r q : ℕ → ℕ) → ((i : ℕ) → r i ≡ q i) → (s : Segment) → end_of r s ≡ end_of q s
end_same r q h s = ap (λ n. unwrap_or s.end (s.start + n)) (h s.id)

in_same : (r q : ℕ → ℕ) (es fs : ℕ → List Entry) → ((i : ℕ) → r i ≡ q i) → ((i : ℕ) → es i ≡ fs i) → (ss : List Segment) (pos : ℕ) → entry_in r es ss pos ≡ entry_in q fs ss pos
in_same r q es fs h k [] pos = refl
in_same r q es fs h k (s ∷ ss) pos =
    ap (λ n. cond (is_within s.start n pos) (slice_get (es s.id) (pos - s.start)) (entry_in r es ss pos)) (end_same r q h s)
    ∙ (ap (λ xs. cond (is_within s.start (end_of q s) pos) (slice_get xs (pos - s.start)) (entry_in r es ss pos)) (k s.id)
    ∙ ap (λ x. cond (is_within s.start (end_of q s) pos) (slice_get (fs s.id) (pos - s.start)) x) (in_same r q es fs h k ss pos))

module _ (may : ℕ → Entry → Type 0) (floor : List Entry → ℕ → Type 0) (w : World) (law : WorldLaw may floor w) where
  pub chain_same : last_given w.register ≡ (journal.state_of w.events).register.chain
  chain_same = sym law.register.last

  pub reach_same : (i : ℕ) → reach_in w i ≡ reach (journal.state_of w.events).cells i
  reach_same i = (law.cells i).view.reach

  pub entries_same : (i : ℕ) → entries_in w i ≡ entries (journal.state_of w.events).cells i
  entries_same i = sym (law.cells i).entries

  pub log_same : (pos : ℕ) → log_at w pos ≡ journal.log_at (journal.state_of w.events) pos
  log_same pos =
      ap (λ (c : Chain). entry_of (reach_in w) (entries_in w) c pos) chain_same
      ∙ ap (λ x. cond (nat_lt pos (journal.state_of w.events).register.chain.trim) None x)
      (in_same (reach_in w) (reach (journal.state_of w.events).cells) (entries_in w) (entries (journal.state_of w.events).cells) reach_same entries_same (journal.state_of w.events).register.chain.segments pos)

  pub trim_same : trim_of w ≡ journal.trim_of (journal.state_of w.events)
  trim_same = ap (λ (c : Chain). c.trim) chain_same

  pub tail_same : tail_of w ≡ journal.tail_of (journal.state_of w.events)
  tail_same =
      ap (λ (c : Chain). end_of (reach_in w) (last_of_segments c.segments)) chain_same
      ∙ end_same (reach_in w) (reach (journal.state_of w.events).cells) reach_same (last_of_segments (journal.state_of w.events).register.chain.segments)

  pub shown_now : (pos : ℕ) (e : Entry) → log_at w pos ≡ Some e → (journal.state_of w.events).shown pos ≡ Some e
  shown_now pos e h = shows_now w.events pos e (sym (log_same pos) ∙ h)
