-- What a node's own lines come to, of the pieces that they are put together of.
use Rattle.std.proofs.Common.{◌≡◌, refl, sym, ap, ◌∙◌, subst, ⊎_elim, inl, inr, ℕ, zero, suc, ◌≤◌, List, [], ◌∷◌, ◌++◌, Option, Some, None, length, drop, Contains, false, arith, append_assoc}
use Rattle.std.specs.Prelude.{max, slice_get}
use Rattle.std.proofs.lemmas.List.Elements.{Contains-append_right}
use Rattle.delos_types.specs.declared.entry.Entry.{Entry}
use Rattle.delos_types.specs.declared.item.Item.{Item}
use Rattle.delos_types.specs.declared.cause.Cause.{Cause}
use Rattle.legal_journal.specs.Law.{Law}
use Rattle.legal_journal.specs.declared.events.Event.{Event}
use Rattle.legal_journal.specs.Journal.{IsLegal}
use Rattle.virtual_log.specs.Holding.{Holds, IsTrimmed}
use Rattle.base_engine.specs.Holding.{held_stays}
use Rattle.virtual_log.proofs.Agreeing.{holds_agree}
use Rattle.engine_api.specs.declared.content.Content.TheVariants as content
use Rattle.engine_api.specs.declared.content.Placed.{Placed}
use Rattle.engine_api.specs.Acted.{unpack_all}
use Rattle.engine_api.specs.Items.{content_of, placed_from, unpack}
use Rattle.engine_api.specs.Members.{has_left, least_position, trim_point, clean_position}
use Rattle.engine_api.specs.Packing.{packed, alive_item, leave_item, trim_item, IsProposable}
use Rattle.log_laws.specs.State.{IsStateOf}
use Rattle.log_laws.proofs.Membership.{says_point, says_unpack, longer_least}
use Rattle.replica_api.specs.Replica.{ReplicaView, saved_in}
use Rattle.base_engine.specs.Reading.{IsFront}
use Rattle.base_engine.specs.Following.{IsStateAt}
use Rattle.base_engine.specs.Settling.{OutboxView}
use Rattle.base_engine.specs.Trimming.{IsAppended, least_of, trim_to}
use Rattle.base_engine.specs.Node.{NodeView, Keeps}
use Rattle.base_engine.proofs.Freeing.{there}
use Rattle.node_lines.specs.Lines.{failure_in}
use Rattle.node_lines.specs.declared.lines.Looked.TheVariants as looked
use Rattle.node_lines.specs.declared.measure.Measured.TheVariants as measured
use Rattle.node_lines.specs.Moving.{Moves, CarriesFirst}
use Rattle.node_lines.specs.Measuring.{Measures, MeasuresSo}
use Rattle.node_lines.specs.Reporting.{IsAppendedWithin, Tells, HasTold, Reports}
use Rattle.node_lines.specs.declared.desk.Desk.{Desk}
use Rattle.node_lines.specs.Turns.{AnswersAll}
use Rattle.node_lines.specs.Leaving.{PlaysKnown, HasLeft, Leaves}
use Rattle.node_lines.specs.Trimming.{Cuts, HasTrimmed, TrimsLog}
use Rattle.node_lines.proofs.Floors.{least-in_state}
use Rattle.node_lines.proofs.Fronts.{splits}
use Rattle.node_lines.proofs.Moving.{moves-both}
use Rattle.node_lines.proofs.Raised.{trim_upto}
use Rattle.node_lines.proofs.Reporting.{says_alone, appended_own}

-- what was appended stays so
abbrev appended_later : (who : ℕ) (old : List Event) (e : Entry) (mid new more : List Event) → new ≡ mid ++ more → IsAppended Holds who old e mid → IsAppended Holds who old e new
appended_later who old e mid new more is a = record {
  before = a.before;
  since = a.since;
  position = a.position;
  after = a.after;
  met = a.met;
  rest = (a.rest.0 ++ more, is ∙ (ap (λ l. l ++ more) a.rest.1 ∙ append_assoc a.after a.rest.0 more));
}

contains_at : (log : List Entry) (i : ℕ) (e : Entry) → slice_get log i ≡ Some e → Contains log e
contains_at [] i e is = absurd (cc)
contains_at (x ∷ log) zero e is = (0, omega arith, let same : x ≡ e = cc in same)
contains_at (x ∷ log) (suc i) e is = Contains-append_right (x ∷ []) log e (contains_at log i e is)

module _ (law : Law) where
  -- what the log held it holds
  holds_since : (early late more : List Event) (pos : ℕ) (e : Entry) → late ≡ early ++ more → IsLegal law late → Holds early pos e → Holds late pos e
  holds_since early late more pos e is legal h = subst (λ es. Holds es pos e) (sym is) (held_stays law early more pos e (subst (IsLegal law) is legal) h)

  front_since : (early late more : List Event) (log : List Entry) → late ≡ early ++ more → IsLegal law late → IsFront Holds early log → IsFront Holds late log
  front_since early late more log is legal front = λ pos e at. holds_since early late more pos e is legal (front pos e at)

  -- The pieces

  -- what was reported is clean in the state at a tail
  pub reports_of : (old mid new : NodeView) (number n : ℕ) (item : Item) → Measures law clean_position old mid (measured.At n)
      → item ≡ alive_item number n → number ≡ old.replica.origin → IsProposable item → content_of item ≡ Some (content.Alive number n) → Tells law mid new item None → HasTold old new n
  reports_of old mid new number n item h made own fine says tells = record {
    log = m.at.log;
    synced = mid.seen;
    since = (k.later.more, k.later.seen);
    front = m.at.front;
    from = m.at.from;
    within = omega (arith, m.at.size, tells.moves.goes.keeps.forward);
    clean = m.is;
    says = says_alone old.replica.origin item (alive_item old.replica.origin n) (content.Alive number n) fine says is ∙ ap (λ x. placed_from 0 0 (content.Alive x n ∷ [])) own;
    landed = (appended_own old mid new.seen new.known item (alive_item old.replica.origin n) k.who k.origin is (tells.appended refl)).landed;
  }
    where
      m : MeasuresSo clean_position old mid n
      m = h.measured n refl

      k : Keeps law old mid
      k = h.moves.goes.keeps

      is : item ≡ alive_item old.replica.origin n
      is = made ∙ ap (λ x. alive_item x n) own

  -- the leave was appended at a position that the node knew, and then the log was played as far as that, or as it isn't trimmed
  pub leaves_of : (old mid told new : NodeView) (number : ℕ) (item : Item) → Moves law old mid []
      → item ≡ leave_item number → number ≡ old.replica.origin → IsProposable item → content_of item ≡ Some (content.Leave number) → Tells law mid told item None
      → PlaysKnown law told new None → HasLeft old new
  leaves_of old mid told new number item first made own fine says tells plays = record {
    synced = mid.seen;
    since = (k.later.more, k.later.seen);
    says = says_alone old.replica.origin item (leave_item old.replica.origin) (content.Leave number) fine says is ∙ ap (λ x. placed_from 0 0 (content.Leave x ∷ [])) own;
    landed = appended_later old.who mid.seen (packed old.replica.origin (leave_item old.replica.origin ∷ [])) told.seen new.seen on.later.more on.later.seen a.landed;
    played = ⊎_elim
        (λ (r : new.replica.cursor ≡ max told.replica.cursor told.known). inl (omega (arith, a.within, r)))
        (λ (t : IsTrimmed new.seen new.replica.cursor). inr t) (plays.reaches refl);
  }
    where
      k : Keeps law old mid
      k = first.goes.keeps

      on : Keeps law told new
      on = plays.moves.goes.keeps

      is : item ≡ leave_item old.replica.origin
      is = made ∙ ap leave_item own

      a : IsAppendedWithin old.who mid.seen (packed old.replica.origin (leave_item old.replica.origin ∷ [])) told.seen told.known
      a = appended_own old mid told.seen told.known item (leave_item old.replica.origin) k.who k.origin is (tells.appended refl)

  -- A trim was asked for, to the least position of a member; the node has the state of a longer front, in which the request stands
  -- and one of the nodes is a member still; and it trimmed the log as far as that state says.
  pub trims_of : (old mid told played new : NodeView) (n trim node : ℕ) (item : Item) → Measures law (λ log. least_position old.nodes (unpack_all 0 log)) old mid (measured.At n)
      → item ≡ trim_item n → IsProposable item → content_of item ≡ Some (content.Trim n) → Tells law mid told item None
      → PlaysKnown law told played None → told.known ≤ played.replica.cursor → IsStateAt Holds IsStateOf played.seen (saved_in played.replica) → Cuts law played new (looked.Trimmed trim)
      → 1 ≤ node → node ≤ old.nodes → ((log : List Entry) → IsFront Holds played.seen log → length log ≡ played.replica.cursor → has_left (unpack_all 0 log) node ≡ false)
      → n ≤ played.replica.cursor → HasTrimmed old new trim
  trims_of old mid told played new n trim node item h made fine says tells plays reached state cuts first last stays within = record {
    log = m.at.log;
    front = front_since played.seen new.seen cut.later.more m.at.log cut.later.seen cut.later.legal early;
    from = m.at.from;
    reached = omega (arith, m.is, low, cuts.cuts.1.truncated.reached);
    upto = trim_upto law played.who played.seen new.seen (trim_to played.nodes played.replica) trim cut.later.legal cuts.cuts.1;
    position = n;
    least = m.is;
    synced = mid.seen;
    since = (k.later.more, k.later.seen);
    met = m.at.front;
    says = says_alone old.replica.origin item (trim_item n) (content.Trim n) fine says made;
    landed = appended_later old.who mid.seen e played.seen new.seen cut.later.more cut.later.seen (appended_later old.who mid.seen e told.seen played.seen on.later.more on.later.seen a.landed);
  }
    where
      m : MeasuresSo (λ log. least_position old.nodes (unpack_all 0 log)) old mid n
      m = h.measured n refl

      e : Entry
      e = packed old.replica.origin (trim_item n ∷ [])

      k : Keeps law old mid
      k = h.moves.goes.keeps

      tell : Keeps law mid told
      tell = tells.moves.goes.keeps

      on : Keeps law told played
      on = plays.moves.goes.keeps

      cut : Keeps law played new
      cut = cuts.moves.goes.keeps

      a : IsAppendedWithin old.who mid.seen e told.seen told.known
      a = appended_own old mid told.seen told.known item (trim_item n) k.who k.origin made (tells.appended refl)

      -- the front at the tail is the beginning of that which was played
      early : IsFront Holds played.seen m.at.log
      early = front_since told.seen played.seen on.later.more m.at.log on.later.seen on.later.legal (front_since mid.seen told.seen tell.later.more m.at.log tell.later.seen tell.later.legal m.at.front)

      longer : m.at.log ++ drop (length m.at.log) state.log ≡ state.log
      longer = splits m.at.log state.log (omega (arith, m.at.size, state.size, tell.forward, on.forward)) (λ p x y i j. holds_agree law played.seen p x y on.later.legal (early p x i) (state.front p y j))

      nodes : played.nodes ≡ old.nodes
      nodes = on.nodes ∙ (tell.nodes ∙ k.nodes)

      -- so the least position is no lower there
      least : least_position old.nodes (unpack_all 0 m.at.log) ≤ least_of played.nodes played.replica.contents
      least =
          let stay : has_left (unpack_all 0 (m.at.log ++ drop (length m.at.log) state.log)) node ≡ false = subst (λ l. has_left (unpack_all 0 l) node ≡ false) (sym longer) (stays state.log state.front state.size) in
          let up = longer_least old.nodes node m.at.log (drop (length m.at.log) state.log) first last stay in
          let more : least_position old.nodes (unpack_all 0 m.at.log) ≤ least_position old.nodes (unpack_all 0 state.log) = subst (λ l. least_position old.nodes (unpack_all 0 m.at.log) ≤ least_position old.nodes (unpack_all 0 l)) longer up in
          let is : least_of played.nodes played.replica.contents ≡ least_position old.nodes (unpack_all 0 state.log) = least-in_state played.nodes state.log played.replica.contents state.led ∙ ap (λ c. least_position c (unpack_all 0 state.log)) nodes in
          omega (arith, more, is)

      -- and the request stands there
      held : Holds played.seen a.landed.position e
      held = holds_since told.seen played.seen on.later.more a.landed.position e on.later.seen on.later.legal
          (holds_since a.landed.after told.seen a.landed.rest.0 a.landed.position e a.landed.rest.1 tell.later.legal a.landed.met.1)

      at : slice_get state.log a.landed.position ≡ Some e
      at =
          let x = there state.log a.landed.position (omega (arith, a.within, reached, state.size)) in
          x.1 ∙ ap (λ y. Some y) (holds_agree law played.seen a.landed.position x.0 e on.later.legal (state.front a.landed.position x.0 x.1) held)

      asked : n ≤ trim_point (unpack_all 0 state.log)
      asked =
          let one : Placed = record { place = record { pos = 0; sub = 0 }; content = content.Trim n } in
          let said : Contains (unpack 0 e) one = subst (λ ps. Contains ps one) (sym (says_alone old.replica.origin item (trim_item n) (content.Trim n) fine says made)) (0, omega arith, refl) in
          let q = says_unpack state.log e one (contains_at state.log a.landed.position e at) said in
          says_point (unpack_all 0 state.log) q.0 n q.1 q.2

      low : n ≤ trim_to played.nodes played.replica
      low = omega (arith, m.is, least, asked, state.led.trim, within)

-- The lines

module _ (law : Law) (low : (log : List Entry) (n : ℕ) → law.floor log n → n ≤ length log) where
  -- one call after another
  pub moves_trans : (old mid new : NodeView) (others more : List Cause) → Moves law old mid others → Moves law mid new more → Moves law old new (others ++ more)
  moves_trans = moves-both law low

  -- what was carried to its end first was so before what came next too
  carries_on : (old mid new : NodeView) (others : List Cause) → CarriesFirst law old mid [] → Moves law mid new others → CarriesFirst law old new others
  carries_on old mid new others h more = record { settled = h.settled; carries = h.carries; since = moves_trans h.settled mid new [] others h.since more }

  moves_first : (old mid new : NodeView) (others : List Cause) → CarriesFirst law old mid [] → Moves law mid new others → Moves law old new others
  moves_first old mid new others h more = moves_trans old h.settled new [] others h.carries.moves (moves_trans h.settled mid new [] others h.since more)

  pub reports_told : (old mid new : NodeView) (n : ℕ) (item : Item) → Measures law clean_position old mid (measured.At n) → Tells law mid new item None → HasTold old new n → Reports law old new (looked.Reported n)
  reports_told old mid new n item h tells told = record {
    others = [];
    moves = moves_trans old mid new [] [] h.moves tells.moves;
    first = carries_on old mid new [] h.first tells.moves;
    none = tells.none;
    kept = tells.kept;
    tells = (refl, told);
  }

  pub reports_untold : (measure : List Entry → ℕ) (old mid new : NodeView) (n : ℕ) (item : Item) (cause : Cause) → Measures law measure old mid (measured.At n) → Tells law mid new item (Some cause) → Reports law old new (looked.Failed cause)
  reports_untold measure old mid new n item cause h tells = record {
    others = cause ∷ [];
    moves = moves_trans old mid new [] (cause ∷ []) h.moves tells.moves;
    first = carries_on old mid new (cause ∷ []) h.first tells.moves;
    none = tells.none;
    kept = tells.kept;
    tells = refl;
  }

  pub reports_unmeasured : (measure : List Entry → ℕ) (old new : NodeView) (cause : Cause) → Measures law measure old new (measured.Failed cause) → Reports law old new (looked.Failed cause)
  reports_unmeasured measure old new cause h = record { others = cause ∷ []; moves = h.moves; first = h.first; none = h.none; kept = h.kept; tells = refl }

  -- what was told was played, or the log or the disk failed
  told_played : (mid told new : NodeView) (item : Item) (failed : Option Cause) → Tells law mid told item None → PlaysKnown law told new failed → Moves law mid new (failure_in failed)
  told_played mid told new item failed tells plays = moves_trans mid told new [] (failure_in failed) tells.moves plays.moves

  pub leaves_done : (old mid told new : NodeView) (item : Item) → CarriesFirst law old mid [] → Tells law mid told item None → PlaysKnown law told new None → HasLeft old new → Leaves law old new looked.Left
  leaves_done old mid told new item first tells plays left = record {
    others = [];
    moves = moves_first old mid new [] first (told_played mid told new item None tells plays);
    first = carries_on old mid new [] first (told_played mid told new item None tells plays);
    none = ap (λ (o : OutboxView). o.entries) plays.outbox ∙ tells.none;
    kept = plays.kept ∙ tells.kept;
    leaves = (refl, left);
  }

  pub leaves_unplayed : (old mid told new : NodeView) (item : Item) (cause : Cause) → CarriesFirst law old mid [] → Tells law mid told item None → PlaysKnown law told new (Some cause) → Leaves law old new (looked.Failed cause)
  leaves_unplayed old mid told new item cause first tells plays = record {
    others = cause ∷ [];
    moves = moves_first old mid new (cause ∷ []) first (told_played mid told new item (Some cause) tells plays);
    first = carries_on old mid new (cause ∷ []) first (told_played mid told new item (Some cause) tells plays);
    none = ap (λ (o : OutboxView). o.entries) plays.outbox ∙ tells.none;
    kept = plays.kept ∙ tells.kept;
    leaves = refl;
  }

  pub leaves_untold : (old mid new : NodeView) (item : Item) (cause : Cause) → CarriesFirst law old mid [] → Tells law mid new item (Some cause) → Leaves law old new (looked.Failed cause)
  leaves_untold old mid new item cause first tells = record {
    others = cause ∷ [];
    moves = moves_first old mid new (cause ∷ []) first tells.moves;
    first = carries_on old mid new (cause ∷ []) first tells.moves;
    none = tells.none;
    kept = tells.kept;
    leaves = refl;
  }

  pub leaves_unanswered : (old new : NodeView) (was is : List Desk) (cause : Cause) → AnswersAll law old new was is (Some cause) → Leaves law old new (looked.Failed cause)
  leaves_unanswered old new was is cause h = record { others = cause ∷ []; moves = h.moves; first = h.first; none = h.none; kept = h.kept; leaves = refl }

  -- .. and then the log was trimmed, or that failed
  played_cut : (mid told played new : NodeView) (item : Item) (others : List Cause) → Tells law mid told item None → PlaysKnown law told played None → Moves law played new others → Moves law mid new others
  played_cut mid told played new item others tells plays cuts = moves_trans mid played new [] others (told_played mid told played item None tells plays) cuts

  pub trims_done : (measure : List Entry → ℕ) (old mid told played new : NodeView) (n trim : ℕ) (item : Item) → Measures law measure old mid (measured.At n) → Tells law mid told item None → PlaysKnown law told played None
      → Cuts law played new (looked.Trimmed trim) → HasTrimmed old new trim → TrimsLog law old new (looked.Trimmed trim)
  trims_done measure old mid told played new n trim item h tells plays cuts trimmed = record {
    others = cuts.others;
    moves = moves_trans old mid new [] cuts.others h.moves (played_cut mid told played new item cuts.others tells plays cuts.moves);
    first = carries_on old mid new cuts.others h.first (played_cut mid told played new item cuts.others tells plays cuts.moves);
    none = ap (λ (o : OutboxView). o.entries) (cuts.outbox ∙ plays.outbox) ∙ tells.none;
    kept = ap (λ (r : ReplicaView). r.kept) cuts.replica ∙ (plays.kept ∙ tells.kept);
    trims = (cuts.cuts.0, trimmed);
  }

  pub trims_uncut : (measure : List Entry → ℕ) (old mid told played new : NodeView) (n : ℕ) (item : Item) (cause : Cause) → Measures law measure old mid (measured.At n) → Tells law mid told item None → PlaysKnown law told played None
      → Cuts law played new (looked.Failed cause) → TrimsLog law old new (looked.Failed cause)
  trims_uncut measure old mid told played new n item cause h tells plays cuts = record {
    others = cuts.others;
    moves = moves_trans old mid new [] cuts.others h.moves (played_cut mid told played new item cuts.others tells plays cuts.moves);
    first = carries_on old mid new cuts.others h.first (played_cut mid told played new item cuts.others tells plays cuts.moves);
    none = ap (λ (o : OutboxView). o.entries) (cuts.outbox ∙ plays.outbox) ∙ tells.none;
    kept = ap (λ (r : ReplicaView). r.kept) cuts.replica ∙ (plays.kept ∙ tells.kept);
    trims = cuts.cuts;
  }

  pub trims_unplayed : (measure : List Entry → ℕ) (old mid told new : NodeView) (n : ℕ) (item : Item) (cause : Cause) → Measures law measure old mid (measured.At n) → Tells law mid told item None → PlaysKnown law told new (Some cause)
      → TrimsLog law old new (looked.Failed cause)
  trims_unplayed measure old mid told new n item cause h tells plays = record {
    others = cause ∷ [];
    moves = moves_trans old mid new [] (cause ∷ []) h.moves (told_played mid told new item (Some cause) tells plays);
    first = carries_on old mid new (cause ∷ []) h.first (told_played mid told new item (Some cause) tells plays);
    none = ap (λ (o : OutboxView). o.entries) plays.outbox ∙ tells.none;
    kept = plays.kept ∙ tells.kept;
    trims = refl;
  }

  pub trims_untold : (measure : List Entry → ℕ) (old mid new : NodeView) (n : ℕ) (item : Item) (cause : Cause) → Measures law measure old mid (measured.At n) → Tells law mid new item (Some cause) → TrimsLog law old new (looked.Failed cause)
  trims_untold measure old mid new n item cause h tells = record {
    others = cause ∷ [];
    moves = moves_trans old mid new [] (cause ∷ []) h.moves tells.moves;
    first = carries_on old mid new (cause ∷ []) h.first tells.moves;
    none = tells.none;
    kept = tells.kept;
    trims = refl;
  }

  pub trims_unmeasured : (measure : List Entry → ℕ) (old new : NodeView) (cause : Cause) → Measures law measure old new (measured.Failed cause) → TrimsLog law old new (looked.Failed cause)
  trims_unmeasured measure old new cause h = record { others = cause ∷ []; moves = h.moves; first = h.first; none = h.none; kept = h.kept; trims = refl }
