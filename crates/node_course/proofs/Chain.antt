-- What a replacement of the last loglet did to the chain, whoever took turns meanwhile.
use Rattle.std.proofs.Common.{◌≡◌, refl, sym, ap, ◌∙◌, subst, ℕ, ◌+◌, ◌<◌, ◌≤◌, List, [], ◌∷◌, ◌++◌, Some, length, arith, append_assoc, append-nil}
use Rattle.delos_types.specs.declared.chain.Segment.{Segment}
use Rattle.delos_types.specs.declared.chain.Chain.{Chain}
use Rattle.chain_map.specs.Chain.{last_of_segments, last_segment, last_id}
use Rattle.chain_map.specs.Step.{extended, extended_segments}
use Rattle.legal_journal.specs.Law.{Law}
use Rattle.legal_journal.specs.declared.events.Event.{Event}
use Rattle.legal_journal.specs.declared.events.FabricCall.TheVariants.{ReadChain}
use Rattle.legal_journal.specs.declared.events.FabricAnswer.TheVariants.{At}
use Rattle.legal_journal.specs.Journal.{State, state_of, ends, IsLegal}
use Rattle.legal_journal.specs.Laws.{Continues}
use Rattle.legal_journal.specs.Sealing.{own_seals}
use Rattle.legal_journal.proofs.Log.{next, Joined}
use Rattle.legal_journal.proofs.Legal.{sound, legal_front, goes_on}
use Rattle.legal_journal.proofs.Sound.{open_tail}
use Rattle.legal_journal.proofs.Taken.{Took, took}
use Rattle.journal_laws.specs.Versions.{IsFurther, refusal, write}
use Rattle.journal_laws.proofs.Writing.{refused}
use Rattle.virtual_log.specs.declared.extend.Extension.{Extension}
use Rattle.virtual_log.specs.declared.extend.Extension.TheVariants.{Extended, Moved, NoSpare}
use Rattle.virtual_log.specs.Extending.{IsWritten, IsRefused, IsExtension}
use Rattle.virtual_log.specs.Sealing.{SealsNone}
use Rattle.virtual_log.specs.Turning.{HasEvent}
use Rattle.virtual_log.specs.Writing.{IsAnothers}
use Rattle.node_lines.specs.Chains.{GoesFurther}
use Rattle.node_lines.proofs.Chains.{begun_stands}
use Rattle.node_course.specs.Replacing.{HasWritten, IsPassed, IsReplaced, WasSoLong}
use Rattle.node_course.proofs.Events.{seals_on, seals_others}
use Rattle.node_course.proofs.Replacing.{passed_within}
use Rattle.node_course.proofs.Starts.{begins_high}

-- the last segment of a chain that was extended, where that has one
last_extended : (es : ℕ → List ℕ) (i a : ℕ) (ss : List Segment) (t : ℕ) → Joined es i a (extended_segments ss t) → last_of_segments (extended_segments ss t) ≡ next (last_of_segments ss) t
last_extended es i a [] t j = absurd j
last_extended es i a (s ∷ ss) t j = some s ss
  where
    some : (s : Segment) (ss : List Segment) → last_of_segments (extended_segments (s ∷ ss) t) ≡ next (last_of_segments (s ∷ ss)) t
    some s [] = refl
    some s (r ∷ []) = refl
    some s (r ∷ q ∷ qs) = some r (q ∷ qs)

module _ (law : Law) (who : ℕ) (early settled new : List Event) (known known' v' : ℕ) (legal : IsLegal law new) (still : SealsNone who early settled) (x : Extension) (e : IsExtension (length law.shelf) who settled known known' v' new x) where
  -- The look at the chain

  abbrev look_event : Event
  look_event = record { who = who; call = ReadChain; answer = At e.version e.chain }

  abbrev to_look : List Event
  to_look = (still.more ++ e.others) ++ look_event ∷ []

  looked_since : e.looked ≡ early ++ to_look
  looked_since =
      e.look ∙ ap (λ l. (l ++ e.others) ++ look_event ∷ []) still.seen
      ∙ ap (λ l. l ++ look_event ∷ []) (append_assoc early still.more e.others)
      ∙ append_assoc early (still.more ++ e.others) (look_event ∷ [])

  looked_legal : IsLegal law e.looked
  looked_legal = legal_front law e.looked e.rest (subst (IsLegal law) e.seen legal)

  looked_chain : (state_of e.looked).register.chain ≡ e.chain
  looked_chain = ap (λ (w : State). w.register.chain) (took law settled e.others look_event e.looked looked_legal e.look).now

  to_looked : Continues (state_of early) (state_of e.looked)
  to_looked = subst (λ es. Continues (state_of early) (state_of es)) (sym looked_since) (goes_on law early to_look (subst (IsLegal law) looked_since looked_legal))

  -- An own write that stands

  module _ (version start : ℕ) (w : IsWritten who e.looked (last_segment e.chain) version start new) where
    abbrev event : Event
    event = write who w.expected (extended w.before w.at) version

    abbrev wrote : List Event
    wrote = (e.looked ++ w.event.before) ++ event ∷ []

    whole_is : new ≡ (e.looked ++ w.event.before) ++ event ∷ w.event.after
    whole_is = w.event.seen ∙ ap (λ (y : Event). (e.looked ++ w.event.before) ++ y ∷ w.event.after) w.event.is

    seen : new ≡ wrote ++ w.event.after
    seen = whole_is ∙ sym (append_assoc (e.looked ++ w.event.before) (event ∷ []) w.event.after)

    front : IsLegal law wrote
    front = legal_front law wrote w.event.after (subst (IsLegal law) seen legal)

    its : Took law e.looked w.event.before event wrote
    its = took law e.looked w.event.before event wrote front refl

    to_new : Continues (state_of wrote) (state_of new)
    to_new = subst (λ es. Continues (state_of wrote) (state_of es)) (sym seen) (goes_on law wrote w.event.after (subst (IsLegal law) seen legal))

    chain_is : (state_of wrote).register.chain ≡ extended w.before w.at
    chain_is = ap (λ (y : State). y.register.chain) its.now

    -- its last segment
    last : last_segment (extended w.before w.at) ≡ next (last_segment e.chain) w.at
    last =
        let joined = subst (λ (c : Chain). Joined (ends (state_of wrote).cells) its.now_ok.id its.now_ok.from c.segments) chain_is its.now_ok.joined in
        last_extended (ends (state_of wrote).cells) its.now_ok.id its.now_ok.from w.before.segments w.at joined ∙ ap (λ (s : Segment). next s w.at) w.last_is

    begins : (last_segment (extended w.before w.at)).start ≡ start
    begins = ap (λ (s : Segment). s.start) last ∙ sym w.start_is

    start_is : (last_segment (state_of wrote).register.chain).start ≡ start
    start_is = ap (λ (c : Chain). (last_segment c).start) chain_is ∙ begins

    id_is : last_id (state_of wrote).register.chain ≡ last_id e.chain + 1
    id_is = ap (λ (c : Chain). last_id c) chain_is ∙ ap (λ (s : Segment). s.id) last

    started : (state_of new).starts (last_id (state_of wrote).register.chain) ≡ Some start
    started = to_new.starts (last_id (state_of wrote).register.chain) (last_segment (state_of wrote).register.chain).start its.now_ok.last ∙ ap (λ n. Some n) start_is

    written_so : HasWritten who version start new
    written_so = record { expected = w.expected; chain = extended w.before w.at; begins = begins; before = e.looked ++ w.event.before; after = w.event.after; seen = whole_is }

    further_so : GoesFurther (state_of early).register (state_of new).register version start
    further_so =
        let version_is : (state_of wrote).register.version ≡ version = ap (λ (y : State). y.register.version) its.now in
        record {
          above = omega (arith, to_looked.version, its.before.version, its.allowed.1, its.allowed.3);
          within = omega (arith, version_is, to_new.version);
          next = omega (arith, to_looked.last, ap last_id looked_chain, id_is, to_new.last);
          started = begun_stands law (state_of new) (sound law new legal) (last_id (state_of wrote).register.chain) start started;
        }

    -- it begins at no lower position than the log had of the loglets before, and at none that it hadn't as it was written
    reached_so : WasSoLong early new start
    reached_so =
        let early_is = legal_front law early (to_look ++ e.rest) (subst (IsLegal law) (e.seen ∙ ap (λ l. l ++ e.rest) looked_since ∙ append_assoc early to_look e.rest) legal) in
        let to_new' = subst (λ es. Continues (state_of early) (state_of es)) (sym (e.seen ∙ ap (λ l. l ++ e.rest) looked_since ∙ append_assoc early to_look e.rest))
        (goes_on law early (to_look ++ e.rest) (subst (IsLegal law) (e.seen ∙ ap (λ l. l ++ e.rest) looked_since ∙ append_assoc early to_look e.rest) legal)) in
        let tail = open_tail (length law.shelf) (state_of wrote) its.now_ok in
        record {
          from = begins_high law early new early_is legal to_new' (last_id (state_of wrote).register.chain) start started (omega (arith, to_looked.last, ap last_id looked_chain, id_is));
          upto = omega (arith, tail, start_is, to_new.tail);
        }

  -- An own write that was refused

  moved_so : (version : ℕ) → IsRefused who e.looked (last_segment e.chain) version new → IsFurther (state_of early).register (state_of new).register version
  moved_so version r =
      let event : Event = refusal who r.expected r.asked version r.chain in
      let whole : new ≡ (e.looked ++ r.event.before) ++ event ∷ r.event.after = r.event.seen ∙ ap (λ (y : Event). (e.looked ++ r.event.before) ++ y ∷ r.event.after) r.event.is in
      let behind : last_id (state_of e.looked).register.chain < last_id r.chain = omega (arith, r.behind, ap last_id looked_chain) in
      let k = subst (λ es. IsFurther (state_of e.looked).register (state_of es).register version) (sym whole)
      (refused law who r.expected version r.asked r.chain e.looked r.event.before r.event.after (subst (IsLegal law) whole legal) behind) in
      record { above = omega (arith, k.above, to_looked.version); within = k.within; next = omega (arith, k.next, to_looked.last) }

  -- another came before
  passed_so : HasEvent e.looked (IsAnothers who (last_segment e.chain).id) new → IsPassed who early new
  passed_so h =
      let on : IsPassed who e.looked new = record { event = h.event; is = subst (λ k. IsAnothers who k h.event) (sym (ap last_id looked_chain)) h.is; before = h.before; after = h.after; seen = h.seen } in
      passed_within who early e.looked new new (to_look, looked_since) ([], sym (append-nil new)) to_looked.last on

  -- Nothing came after the look

  last_now : e.rest ≡ [] → last_id (state_of new).register.chain ≡ last_id e.chain
  last_now none = ap (λ es. last_id (state_of es).register.chain) (e.seen ∙ (ap (λ l. e.looked ++ l) none ∙ append-nil e.looked)) ∙ ap last_id looked_chain

  -- Seals

  new_is : new ≡ (early ++ to_look) ++ e.rest
  new_is = e.seen ∙ ap (λ l. l ++ e.rest) looked_since

  -- but for those after the look it began none
  seals_are : own_seals who new ≡ own_seals who early + own_seals who e.rest
  seals_are =
      let a = ap (own_seals who) new_is in
      let b = seals_on who (early ++ to_look) e.rest in
      let c = seals_on who early to_look in
      let d = seals_on who (still.more ++ e.others) (look_event ∷ []) in
      let f = seals_on who still.more e.others in
      let g = seals_others who e.others e.apart in
      let h : own_seals who (look_event ∷ []) ≡ 0 = refl in
      omega (arith, a, b, c, d, f, g, h, still.none)

pub replaced_so : (law : Law) (who : ℕ) (early settled new : List Event) (known known' v' : ℕ) → IsLegal law new → SealsNone who early settled
    → (x : Extension) → IsExtension (length law.shelf) who settled known known' v' new x → IsReplaced (length law.shelf) who early new x
replaced_so law who early settled new known known' v' legal still (Extended version start) e = (
  further_so law who early settled new known known' v' legal still (Extended version start) e version start e.follows.1.0,
  written_so law who early settled new known known' v' legal still (Extended version start) e version start e.follows.1.0,
  reached_so law who early settled new known known' v' legal still (Extended version start) e version start e.follows.1.0,
)
replaced_so law who early settled new known known' v' legal still (Moved version) e =
    (moved_so law who early settled new known known' v' legal still (Moved version) e version e.follows.1.0.refused, passed_so law who early settled new known known' v' legal still (Moved version) e e.follows.1.0.another)
replaced_so law who early settled new known known' v' legal still NoSpare e =
    ap (λ n. n + 1) (last_now law who early settled new known known' v' legal still NoSpare e e.follows.1) ∙ e.follows.0

-- it began one Seal at most, and none where there was no spare loglet
abbrev pub seals_of : Extension → ℕ
seals_of (Extended version start) = 1
seals_of (Moved version) = 1
seals_of NoSpare = 0

pub sealed_so : (law : Law) (who : ℕ) (early settled new : List Event) (known known' v' : ℕ) → IsLegal law new → SealsNone who early settled
    → (x : Extension) → IsExtension (length law.shelf) who settled known known' v' new x → own_seals who new ≤ own_seals who early + seals_of x
sealed_so law who early settled new known known' v' legal still (Extended version start) e =
    let all = seals_are law who early settled new known known' v' legal still (Extended version start) e in omega (arith, all, e.seals.once)
sealed_so law who early settled new known known' v' legal still (Moved version) e =
    let all = seals_are law who early settled new known known' v' legal still (Moved version) e in omega (arith, all, e.seals.once)
sealed_so law who early settled new known known' v' legal still NoSpare e =
    let all = seals_are law who early settled new known known' v' legal still NoSpare e in
    let none = ap (own_seals who) e.follows.1 in
    omega (arith, all, none)
