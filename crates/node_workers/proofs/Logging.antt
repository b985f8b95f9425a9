-- A command is asked at a session's desk.
use Rattle.std.proofs.Common.{◌≡◌, ◌≢◌, refl, sym, ap, ◌∙◌, subst, ◌⊎◌, inl, inr, ℕ, ◌+◌, ◌<◌, ◌≤◌, Bool, true, false, List, [], ◌∷◌, ◌++◌, Some, None, length, arith}
use Rattle.std.specs.Prelude.{All, slice_get, slice_set, ◌==◌, Contains}
use Rattle.std.proofs.lemmas.Bool.Decides.{nat_tests}
use Rattle.std.proofs.lemmas.List.{length-set}
use Rattle.std.proofs.lemmas.List.Elements.{Contains-push}
use Rattle.delos_types.specs.declared.entry.Entry.{Entry}
use Rattle.delos_types.specs.declared.cause.Cause.{Cause}
use Rattle.legal_journal.specs.Law.{Law}
use Rattle.legal_journal.specs.declared.events.Event.{Event}
use Rattle.replica_api.specs.Replica.{Meaning}
use Rattle.fabric_core.proofs.Marks.{set_other, set_same}
use Rattle.base_engine.specs.Settling.{cause_in}
use Rattle.base_engine.specs.Node.{NodeView}
use Rattle.node_lines.specs.declared.desk.Desk.{Desk}
use Rattle.turn_scopes.specs.Seats.{SeatView, SeatOk, node_of}
use Rattle.node_lines.specs.Moving.{HandsIn}
use Rattle.node_lines.specs.Desks.{DeskOk}
use Rattle.node_lines.specs.Lines.{IsFree, Readies}
use Rattle.node_lines.proofs.Moving.{goes-both, stays-both}
use Rattle.node_lines.proofs.Desks.{desk_goes}
use Rattle.node_lines.proofs.Turning.{same_at}
use Rattle.node_lines.specs.Workers.{OwnWithin, IsHome, Sends, IsOfSession, WorkerOk, LogsIt, sent_by, sent_of}
use Rattle.node_lines.proofs.Widening.{own-more, goes_wider}

module _ (law : Law) (low : (log : List Entry) (n : ℕ) → law.floor log n → n ≤ length log) where
  still : (was d : Desk) (others : List Cause) → d ≡ record was { answers = d.answers; stopped = d.stopped } → ((others ≡ []) × (d.stopped ≡ was.stopped)) ⊎ ((c : Cause) × (others ≡ c ∷ []) × (was.stopped ≡ None) × (d.stopped ≡ Some c)) → (c : Cause) → was.stopped ≡ Some c → d.stopped ≡ Some c
  still was d others is (inl k) c e = k.1 ∙ e
  still was d others is (inr k) c e = absurd (let t : Some c ≡ None = sym e ∙ k.2 in cc)

  -- it is stopped by another cause where it wasn't before
  newly : (was d : Desk) (others : List Cause) → ((others ≡ []) × (d.stopped ≡ was.stopped)) ⊎ ((c : Cause) × (others ≡ c ∷ []) × (was.stopped ≡ None) × (d.stopped ≡ Some c)) → (c : Cause) → d.stopped ≡ Some c → (was.stopped ≡ Some c) ⊎ Contains others c
  newly was d others (inl k) c e = inl (sym k.1 ∙ e)
  newly was d others (inr k) c e = inr (subst (λ cs. Contains cs c) (sym (k.1 ∙ ap (λ x. x ∷ []) (same k.0 c (sym k.3 ∙ e)))) (Contains-push [] c))
    where
      same : (x y : Cause) → Some x ≡ Some y → x ≡ y
      same x y h = cc

  -- a command that isn't handed in
  pub kept_desk : (n : NodeView) (s : ℕ) (d : Desk) → DeskOk n s d → (IsFree n d → ⊥) → DeskOk n s (record d { asked = d.asked + 1 })
  kept_desk n s d ok held = record {
    session = ok.session;
    known = ok.known;
    few = omega (arith, ok.few);
    near = ok.near;
    acted = ok.acted;
    ended = ok.ended;
    given = λ free none. absurd (held (free, subst (λ q. cause_in q n.outbox.given ≡ None) (sym ok.session) none));
  }

  pub kept_logs : (counts : List ℕ) (old new : NodeView) (s : ℕ) (was d : Desk) → Readies (record law { may = OwnWithin old.who law.may counts }) old new was d false
      → LogsIt law counts old new s was (record d { asked = d.asked + 1 })
  kept_logs counts old new s was d r = record {
    others = r.others;
    goes = r.moves.goes;
    stays = λ t apart. r.moves.stays t;
    quiet = λ t apart. r.moves.quiet t;
    asked = ap (λ (x : Desk). x.asked + 1) r.desk;
    session = ap (λ (x : Desk). x.session) r.desk;
    answered = ap (λ (x : Desk). x.answered) r.desk;
    stopped = still was d r.others r.desk r.stops;
    stops = newly was d r.others r.stops;
    held = λ c e. ap (λ (x : Desk). x.sent) r.desk;
    more = omega (arith, ap (λ (x : Desk). x.sent) r.desk);
    most = omega (arith, ap (λ (x : Desk). x.sent) r.desk);
  }

  -- a command that is handed in
  pub handed_logs : (counts counts' : List ℕ) (old mid new : NodeView) (s : ℕ) (was d is : Desk) → ((t : ℕ) → sent_of counts t ≤ sent_of counts' t) → Readies (record law { may = OwnWithin old.who law.may counts }) old mid was d true → HandsIn (record law { may = OwnWithin mid.who law.may counts' }) mid new s d.sent
      → is ≡ record d { asked = d.asked + 1; sent = d.sent + 1; answers = is.answers } → LogsIt law counts' old new s was is
  handed_logs counts counts' old mid new s was d is up r hands is_it =
      let h = subst (λ w. HandsIn (record law { may = OwnWithin w law.may counts' }) mid new s d.sent) r.moves.goes.keeps.who hands in
      let first = goes_wider (record law { may = OwnWithin old.who law.may counts }) (record law { may = OwnWithin old.who law.may counts' }) (record { may = λ user e. own-more old.who law.may counts counts' up user e; floor = λ log n k. k; shelf = refl }) old mid r.others r.moves.goes in
      let own : d.sent ≡ was.sent = ap (λ (x : Desk). x.sent) r.desk in
      let next : is.sent ≡ d.sent + 1 = ap (λ (x : Desk). x.sent) is_it in
      let free : is.stopped ≡ None = ap (λ (x : Desk). x.stopped) is_it ∙ ((r.free refl).0).0 in
      record {
        others = r.others ++ [];
        goes = goes-both (record law { may = OwnWithin old.who law.may counts' }) low old mid new r.others [] first h.goes;
        stays = λ t apart. stays-both (record law { may = OwnWithin old.who law.may counts' }) low old mid new [] t h.goes (r.moves.stays t) (h.stays t apart);
        quiet = λ t apart q. h.quiet t apart (r.moves.quiet t q);
        asked = ap (λ (x : Desk). x.asked) is_it ∙ ap (λ (x : Desk). x.asked + 1) r.desk;
        session = ap (λ (x : Desk). x.session) is_it ∙ ap (λ (x : Desk). x.session) r.desk;
        answered = ap (λ (x : Desk). x.answered) is_it ∙ ap (λ (x : Desk). x.answered) r.desk;
        stopped = λ c e. ap (λ (x : Desk). x.stopped) is_it ∙ still was d r.others r.desk r.stops c e;
        stops = λ c e. absurd (let t : None ≡ Some c = sym free ∙ e in cc);
        held = λ c e. absurd (let t : None ≡ Some c = sym free ∙ e in cc);
        more = omega (arith, next, own);
        most = omega (arith, next, own);
      }

  -- the worker then
  pub worker_logs : (meaning : Meaning) (who : ℕ) (counts : List ℕ) (old new : List Event) (a b : SeatView) (desks : List Desk) (s : ℕ) (was is : Desk)
      → WorkerOk law meaning who old a desks → IsHome law.may s who → SeatOk (record law { may = Sends b.who law.may (sent_by (slice_set desks s is)) new }) meaning new b → All IsOfSession b.node.replica.kept → slice_get desks s ≡ Some was → DeskOk (node_of b new) s is
      → LogsIt law counts (node_of a old) (node_of b new) s was is → WorkerOk law meaning who new b (slice_set desks s is)
  worker_logs meaning who counts old new a b desks s was is h home ok waits at fine l = record {
    who_is = l.goes.keeps.who ∙ h.who_is;
    origin = l.goes.keeps.origin ∙ h.origin;
    ok = subst (λ w. SeatOk (record law { may = Sends w law.may (sent_by (slice_set desks s is)) new }) meaning new b) (l.goes.keeps.who ∙ h.who_is) ok;
    packs = l.goes.packs h.packs;
    waits = waits;
    size = length-set desks s is ∙ h.size;
    each = λ t d g. each_is t d g (s == t) refl;
    home = λ t d g some. home_is t d g some (s == t) refl;
  }
    where
      here : (s t : ℕ) → (s == t) ≡ true → t ≡ s
      here s t e = grind (arith, nat_tests, e)

      apart : (s t : ℕ) → (s == t) ≡ false → t ≢ s
      apart s t e = grind (arith, nat_tests, e)

      is_here : (t : ℕ) (d : Desk) → slice_get (slice_set desks s is) t ≡ Some d → (s == t) ≡ true → is ≡ d
      is_here t d g e = same_at (slice_set desks s is) t is d (ap (slice_get (slice_set desks s is)) (here s t e) ∙ set_same desks s is was at) g

      each_is : (t : ℕ) (d : Desk) → slice_get (slice_set desks s is) t ≡ Some d → (q : Bool) → (s == t) ≡ q → DeskOk (node_of b new) t d
      each_is t d g true e = subst (λ k. DeskOk (node_of b new) k d) (sym (here s t e)) (subst (DeskOk (node_of b new) s) (is_here t d g e) fine)
      each_is t d g false e =
          let old_at = sym (set_other desks s t is (apart s t e)) ∙ g in
          desk_goes (record law { may = OwnWithin a.who law.may counts }) low (node_of a old) (node_of b new) l.others t d l.goes (l.stays t e) (h.each t d old_at)

      home_is : (t : ℕ) (d : Desk) → slice_get (slice_set desks s is) t ≡ Some d → 0 < d.asked → (q : Bool) → (s == t) ≡ q → IsHome law.may t who
      home_is t d g some true e = subst (λ k. IsHome law.may k who) (sym (here s t e)) home
      home_is t d g some false e = h.home t d (sym (set_other desks s t is (apart s t e)) ∙ g) some
