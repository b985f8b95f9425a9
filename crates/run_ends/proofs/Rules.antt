-- What may be appended, and what stands in a log of it.
use Rattle.std.proofs.Common.{◌≡◌, refl, sym, ap, ◌∙◌, subst, ◌⊎◌, inl, inr, ℕ, zero, suc, ◌<◌, ◌≤◌, ◌^◌, ◌==◌, ◌&&◌, true, List, [], ◌∷◌, ◌++◌, Option, Some, None, length, arith, eqb-true}
use Rattle.std.specs.Prelude.{slice_get, is_some, All, Contains}
use Rattle.std.specs.List.{AllByRecursion, cons_option}
use Rattle.std.proofs.lemmas.Bool.{and_parts}
use Rattle.delos_types.specs.declared.entry.Entry.{Entry}
use Rattle.delos_types.specs.declared.item.Item.{Item}
use Rattle.delos_types.specs.declared.place.Place.{Place}
use Rattle.table_core.specs.declared.command.Command.{Command}
use Rattle.table_core.specs.Spelling.{IsSpellable, command_length}
use Rattle.engine_api.specs.declared.content.Content.{Content}
use Rattle.engine_api.specs.declared.content.Content.TheVariants.{Session, Alive, Leave, Trim}
use Rattle.engine_api.specs.declared.content.Placed.{Placed}
use Rattle.engine_api.specs.Items.{content_of, unpack}
use Rattle.engine_api.specs.Acted.{Asked, appearances, unpack_all, asked_in}
use Rattle.engine_api.specs.Order.{first_of}
use Rattle.engine_api.specs.Packing.{packed, session_item, alive_item, leave_item, trim_item, IsProposable}
use Rattle.engine_api.proofs.Packed.{content_of-session, content_of-alive, content_of-leave, content_of-trim, proposable-session, proposable-alive, proposable-leave, proposable-trim}
use Rattle.script_text.specs.declared.line.Admin.TheVariants as admin
use Rattle.script_text.specs.declared.asks.NamedLine.{NamedLine}
use Rattle.script_text.specs.declared.asks.Asks.{Asks}
use Rattle.script_text.specs.declared.asks.Asks.TheVariants as asks
use Rattle.script_text.specs.declared.line.Session as script
use Rattle.run_laws.specs.Ended.{IsAtHome, LogsThis}
use Rattle.run_laws.proofs.Members.{all-at, found-among}
use Rattle.node_lines.specs.Workers.{IsHome, MayRun}
use Rattle.node_course.specs.Script.{AreLines}
use Rattle.node_course.proofs.Lines.{at_get}
use Rattle.turn_scopes.specs.Floors.{MayTrim, FloorIs}
use Rattle.run_ends.specs.Rules.{law_of, HasLine, LogsRank, IsLineOf, may_of, AreOfLines, IsAskedBy}
use Rattle.run_ends.proofs.Contents.{all-contained, unpack_all-has, to_packed, one, joined, appearances-has}
use Rattle.run_ends.proofs.Views.{IsNumber, view, view_number, view_unpack}

module _ (lines : List NamedLine) where
  -- A line's command

  pub line_sent : (at : ℕ) (line : NamedLine) (session : script.Session) (rank : ℕ) (command : Command) → slice_get lines at ≡ Some line → line.asks ≡ asks.Logged session rank command
      → session.id ≤ 63 → 1 ≤ rank → rank < 2 ^ 64 → IsSpellable command → command_length command ≤ 984 → may_of lines line.node (packed line.node (session_item session.id rank command ∷ []))
  line_sent at line session rank command is asked known low small spelled short =
      let item = session_item session.id rank command in
      let says : content_of item ≡ Some (Session session.id rank (Some command)) = content_of-session session.id rank command known low small spelled in
      let logs : LogsRank line.asks session.id rank (Some command) = subst (λ a. LogsRank a session.id rank (Some command)) (sym asked) (refl, refl, refl) in
      let has : IsLineOf lines line.node (Session session.id rank (Some command)) = record { at = at; line = line; is = is; node = refl; logs = logs } in
      record {
        own = refl;
        items = to_packed (IsLineOf lines line.node) line.node (item ∷ []) (one (IsLineOf lines line.node) item (proposable-session session.id rank command known low small spelled short))
            (subst (λ o. AllByRecursion (IsLineOf lines line.node) (cons_option o [])) (sym says) (has, tt));
      }

  -- What a node tells of itself

  -- A node whose number has no spelling makes an entry without items.
  view_sent : (who tag position : ℕ) (c : Content) → (IsNumber who → content_of (view tag who position) ≡ Some c) → (IsNumber who → IsProposable (view tag who position)) → IsLineOf lines who c → may_of lines who (packed who (view tag who position ∷ []))
  view_sent who tag position c says fine has = record { own = refl; items = by (view_number tag who position) }
    where
      by : IsNumber who ⊎ (content_of (view tag who position) ≡ None) → AllByRecursion (λ p. IsLineOf lines who p.content) (unpack 0 (packed who (view tag who position ∷ [])))
      by (inl known) =
          to_packed (IsLineOf lines who) who (view tag who position ∷ []) (one (IsLineOf lines who) (view tag who position) (fine known))
          (subst (λ o. AllByRecursion (IsLineOf lines who) (cons_option o [])) (sym (says known)) (has, tt))
      by (inr none) = subst (AllByRecursion (λ p. IsLineOf lines who p.content)) (sym (view_unpack tag who position none)) tt

  pub report_sent : (at : ℕ) (line : NamedLine) → slice_get lines at ≡ Some line → line.asks ≡ asks.Admin admin.Alive → (position : ℕ) → position < 2 ^ 64 → may_of lines line.node (packed line.node (alive_item line.node position ∷ []))
  report_sent at line is asked position small =
      view_sent line.node 1 position (Alive line.node position) (λ known. content_of-alive line.node position known.0 known.1 small) (λ known. proposable-alive line.node position known.0 known.1 small)
      (refl, record { at = at; line = line; is = is; node = refl; asks = asked })

  pub leave_sent : (at : ℕ) (line : NamedLine) → slice_get lines at ≡ Some line → line.asks ≡ asks.Admin admin.Retire → may_of lines line.node (packed line.node (leave_item line.node ∷ []))
  leave_sent at line is asked =
      view_sent line.node 2 0 (Leave line.node) (λ known. content_of-leave line.node known.0 known.1) (λ known. proposable-leave line.node known.0 known.1)
      (refl, record { at = at; line = line; is = is; node = refl; asks = asked })

  pub trim_sent : (at : ℕ) (line : NamedLine) → slice_get lines at ≡ Some line → line.asks ≡ asks.Admin admin.Trim → (position : ℕ) → position < 2 ^ 64 → may_of lines line.node (packed line.node (trim_item position ∷ []))
  trim_sent at line is asked position small =
      let item = trim_item position in
      let has : IsLineOf lines line.node (Trim position) = record { at = at; line = line; is = is; node = refl; asks = asked } in
      record {
        own = refl;
        items = to_packed (IsLineOf lines line.node) line.node (item ∷ []) (one (IsLineOf lines line.node) item (proposable-trim position small))
            (subst (λ o. AllByRecursion (IsLineOf lines line.node) (cons_option o [])) (sym (content_of-trim position small)) (has, tt));
      }

  -- Items that are packed together

  pub lines_join : (who : ℕ) (items : List Item) (item : Item) → (length items ≡ 0 → ⊥) → All IsProposable items → length items ≤ 15 → IsProposable item
      → may_of lines who (packed who items) → may_of lines who (packed who (item ∷ [])) → may_of lines who (packed who (items ++ item ∷ []))
  lines_join who items item some all few fine h k = record {
    own = refl;
    items = joined (IsLineOf lines who) who items item (at_least (length items) some) all few fine h.items k.items;
  }
    where
      at_least : (n : ℕ) → (n ≡ 0 → ⊥) → 1 ≤ n
      at_least zero h = absurd (h refl)
      at_least (suc n) h = omega arith

  -- A log of lines

  -- somebody's line
  abbrev IsLine : Content → Type 0
  IsLine c = (who : ℕ) × IsLineOf lines who c

  with_who : (who : ℕ) (ps : List Placed) → AllByRecursion (λ p. IsLineOf lines who p.content) ps → AllByRecursion (λ p. IsLine p.content) ps
  with_who who [] h = tt
  with_who who (p ∷ ps) h = ((who, h.0), with_who who ps h.1)

  of_lines : (log : List Entry) → AreOfLines lines log → AllByRecursion (λ e. AllByRecursion (λ p. IsLine p.content) (unpack 0 e)) log
  of_lines [] h = tt
  of_lines (e ∷ es) h = (with_who h.0.0 (unpack 0 e) h.0.1.items, of_lines es h.1)

  logs_this : (a : Asks) (place : Place) (s r : ℕ) (c : Option Command) → LogsRank a s r c → LogsThis a (record { place = place; session = s; rank = r; command = c })
  logs_this (asks.Logged session rank command) place s r c h = h
  logs_this (asks.Look session query) place s r c h = absurd h
  logs_this (asks.Admin a) place s r c h = absurd h

  pub asked_by : (log : List Entry) → AreOfLines lines log → (x : Asked) → Contains (asked_in 0 log) x → IsAskedBy lines x
  asked_by log h x among = all-contained (IsAskedBy lines) (asked_in 0 log) x
      (appearances-has IsLine (IsAskedBy lines) (λ place s r c k. record { at = k.1.at; line = k.1.line; is = k.1.is; logs = logs_this k.1.line.asks place s r c k.1.logs })
      (unpack_all 0 log) (unpack_all-has IsLine 0 log (of_lines log h))) among

  -- The rules of a run

  -- what an item says that the node may append
  said : (user : ℕ) (e : Entry) (p : Placed) (c : Content) → may_of lines user e → Contains (unpack 0 e) p → p.content ≡ c → IsLineOf lines user c
  said user e p c h among is = subst (IsLineOf lines user) is (all-contained (λ (q : Placed). IsLineOf lines user q.content) (unpack 0 e) p h.items among)

  pub may_run : (nodes : ℕ) (shelf : List ℕ) → MayRun (law_of lines nodes shelf)
  may_run nodes shelf = record {
    low = λ log n h. h.within;
    join = lines_join;
    reports = λ user node n e p h among is. sym (said user e p (Alive node n) h among is).0;
    leaves = λ user node e p h among is. sym (said user e p (Leave node) h among is).0;
  }

  -- Whose a session is

  module _ (home : ℕ → ℕ) (nodes : ℕ) (are : AreLines lines home nodes) where
    -- a line that logs something of it is at its home
    line_home : (user s r : ℕ) (command : Option Command) → HasLine lines user s r command → user ≡ home s
    line_home user s r command h = sym h.node ∙ by h.line.asks (at_get (λ (l : NamedLine). IsAtHome home l.node l.asks) lines h.at h.line are.at_home h.is) h.logs
      where
        by : (a : Asks) → IsAtHome home h.line.node a → LogsRank a s r command → h.line.node ≡ home s
        by (asks.Logged t rank c) at logs = at ∙ ap home (sym logs.0)
        by (asks.Look t q) at logs = absurd logs
        by (asks.Admin a) at logs = absurd logs

    pub session_home : (s : ℕ) → IsHome (may_of lines) s (home s)
    session_home s user r e h has = by (first_of (appearances (unpack 0 e)) s r) refl has
      where
        all : AllByRecursion (λ (x : Asked). HasLine lines user x.session x.rank x.command) (appearances (unpack 0 e))
        all = appearances-has (IsLineOf lines user) (λ (x : Asked). HasLine lines user x.session x.rank x.command) (λ place t q c k. k) (unpack 0 e) h.items

        by : (o : Option Asked) → first_of (appearances (unpack 0 e)) s r ≡ o → is_some o ≡ true → user ≡ home s
        by None is some = absurd (cc)
        by (Some x) is some =
            let found = found-among (λ (y : Asked). (y.session == s) && (y.rank == r)) (appearances (unpack 0 e)) x is in
            let its = all-at (λ (y : Asked). HasLine lines user y.session y.rank y.command) (appearances (unpack 0 e)) x all found.0 in
            let same : x.session ≡ s = eqb-true x.session s (and_parts (x.session == s) (x.rank == r) found.1).0 in
            line_home user x.session x.rank x.command its ∙ ap home same

pub floor_is : (nodes : ℕ) → FloorIs (MayTrim nodes) nodes
floor_is nodes = record { only = λ log n h. h; free = λ log n h. h }
