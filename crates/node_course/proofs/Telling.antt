-- A line had its node append what the node tells of itself.
use Rattle.std.proofs.Common.{◌≡◌, sym, ap, ◌∙◌, subst, ℕ, ◌+◌, ◌≤◌, false, List, [], ◌∷◌, ◌++◌, Option, Some, None, map, slice_get, slice_set, Contains, length, arith, append_assoc}
use Rattle.std.proofs.lemmas.List.Elements.{Contains-push}
use Rattle.delos_types.specs.declared.cause.Cause.{Cause}
use Rattle.delos_types.specs.declared.entry.Entry.{Entry}
use Rattle.table_core.specs.declared.command.Found.{Found}
use Rattle.legal_journal.specs.Law.{Law}
use Rattle.legal_journal.specs.declared.events.Event.{Event}
use Rattle.legal_journal.specs.Journal.{IsLegal}
use Rattle.virtual_log.specs.Sealing.{SealsNone}
use Rattle.virtual_log.specs.Holding.{Holds}
use Rattle.virtual_log.specs.declared.extend.Extension.{Extension}
use Rattle.engine_api.specs.declared.content.Content.{Content}
use Rattle.engine_api.specs.declared.content.Placed.{Placed}
use Rattle.engine_api.specs.Items.{placed_from, unpack}
use Rattle.replica_api.specs.Replica.{Meaning}
use Rattle.base_engine.specs.Holding.{held_stays}
use Rattle.base_engine.specs.Trimming.{IsAppended}
use Rattle.base_engine.proofs.Landing.{On, on_on}
use Rattle.script_text.specs.declared.line.Admin.{Admin}
use Rattle.script_text.specs.declared.line.Admin.TheVariants.{Extend, Alive, Retire, Trim}
use Rattle.script_text.specs.declared.asks.NamedLine.{NamedLine}
use Rattle.script_text.specs.declared.asks.Asks.TheVariants as asks
use Rattle.fitting_run.specs.Lines.{is_of, logs_for}
use Rattle.fabric_core.proofs.Marks.{set_same}
use Rattle.turn_scopes.specs.Seats.{SeatView, node_of}
use Rattle.node_lines.specs.declared.desk.Desk.{Desk}
use Rattle.node_lines.specs.declared.lines.Looked.{Looked}
use Rattle.node_lines.specs.declared.lines.Looked.TheVariants as looked
use Rattle.node_lines.specs.Moving.{Moves}
use Rattle.node_lines.specs.Workers.{OwnWithin, WorkerOk, sent_by}
use Rattle.node_course.specs.Script.{AreLines}
use Rattle.node_course.specs.Moments.{NodeCourse, tails}
use Rattle.node_lines.specs.Turns.{IsAnswered}
use Rattle.node_course.specs.Behind.{IsCleanSince}
use Rattle.node_course.specs.Desks.{IsOfNode, PlayedSo}
use Rattle.node_course.specs.Leaving.{LeftSo}
use Rattle.node_course.specs.Replacing.{AsksNode}
use Rattle.node_course.specs.Reporting.{ReportedSo, StandsThere}
use Rattle.node_course.specs.Telling.{HasToldSo, IsTrim}
use Rattle.node_course.specs.Workers.{LineWent, NodeAt}
use Rattle.node_course.proofs.Seals.{seals_played}
use Rattle.node_course.proofs.Told.{TellsOn}
use Rattle.node_course.proofs.Advance.{advanced, failed_of}
use Rattle.node_course.proofs.Replacing.{LooksOn}
use Rattle.node_course.proofs.Playing.{line_went}

-- The entry

module _ (law : Law) (who : ℕ) (early seen : List Event) (e : Entry) (legal : IsLegal law seen) (landed : IsAppended Holds who early e seen) where
  pub held_now : (front : List Event) → On front seen → (pos : ℕ) (x : Entry) → Holds front pos x → Holds seen pos x
  held_now front on pos x h = subst (λ l. Holds l pos x) (sym on.1) (held_stays law front on.0 pos x (subst (IsLegal law) on.1 legal) h)

  landed_on : On landed.before landed.after
  landed_on =
      let turn = landed.met.2.first in
      (turn.others ++ turn.event ∷ turn.rest, turn.seen ∙ append_assoc landed.before turn.others (turn.event ∷ turn.rest))

  early_on : On early seen
  early_on = on_on early landed.before seen landed.since (on_on landed.before landed.after seen landed_on landed.rest)

  -- what was held before it was appended is held still
  pub held_still : (pos : ℕ) (x : Entry) → Holds early pos x → Holds seen pos x
  held_still pos x h = held_now early early_on pos x h

  -- what it says stands in the log
  abbrev pub stands_now : (c : Content) → unpack 0 e ≡ placed_from 0 0 (c ∷ []) → StandsThere seen c
  stands_now c says = record {
    at = landed.position;
    entry = e;
    held = held_now landed.after landed.rest landed.position e landed.met.1;
    says = subst (λ ps. Contains (map (λ (p : Placed). p.content) ps) c) (sym says) (Contains-push [] c);
  }

-- The line

no_read : (admin : Admin) (after : ℕ) (found : Found) → IsOfNode admin (looked.Found after found) → ⊥
no_read Extend after found h = h
no_read Alive after found h = h
no_read Retire after found h = h
no_read Trim after found h = h

module _ (law : Law) (meaning : Meaning) (lines : List NamedLine) (home : ℕ → ℕ) (nodes : ℕ) (c : NodeCourse) (looks : List (Option Looked)) (n from i : ℕ) (line : NamedLine) (admin : Admin) (look : Looked) (seat seat' : SeatView) (desks desks' : List Desk) (taken : IsAnswered desks desks') (journal : List Event) (are : AreLines lines home nodes) (at : slice_get lines i ≡ Some line) (node : line.node ≡ n) (phase : line.phase ≡ c.phase) (asks_is : line.asks ≡ asks.Admin admin) (was : NodeAt law meaning lines home nodes c looks n from i c.phase seat desks) (still : SealsNone n c.seen journal) (others : List Cause) (moves : Moves (record law { may = OwnWithin n law.may (sent_by desks) }) (node_of seat c.seen) (node_of seat' journal) others) (now : WorkerOk law meaning n journal seat' desks') where
  abbrev then' : NodeCourse
  then' = advanced c n (map (λ g. g.cause) moves.goes.given) journal c.when

  abbrev looks' : List (Option Looked)
  looks' = slice_set looks i (Some look)

  unlogged : (s : ℕ) → logs_for s line ≡ false
  unlogged s = ap (is_of s) asks_is

  not_yet : slice_get looks i ≡ Some None
  not_yet = was.waiting i line (omega arith) at node

  -- what it came to is known, and it replaced nothing
  module _ (none : (x : Extension) → look ≡ looked.Extended x → ⊥) (paid_is : others ≡ failed_of look) (of_node : IsOfNode admin look) (reported : ReportedSo journal (tails then' line.phase) seat'.node.replica.cursor n look) (left : LeftSo journal seat'.node.replica.cursor n look) (tells : TellsOn lines looks' n seat.node.replica.cursor seat'.node.replica.cursor c.seen journal) (stood : HasToldSo journal n look) (trimmed : (trim : ℕ) → look ≡ looked.Trimmed trim → IsTrim lines looks' nodes n then' i line trim) (clean : (position : ℕ) → look ≡ looked.Reported position → IsCleanSince c.seen journal position) where
    on : LooksOn (length law.shelf) n c.seen journal look
    on x is = absurd (none x is)

    own : (x : Extension) → look ≡ looked.Extended x → AsksNode line.asks
    own x is = absurd (none x is)

    -- it read nothing
    high_read : (after : ℕ) (found : Found) → look ≡ looked.Found after found → seat.node.replica.cursor ≤ after
    high_read after found is = absurd (no_read admin after found (subst (IsOfNode admin) is of_node))

    line_played : PlayedSo lines then' c.phase seat'.node.replica.cursor n desks' looks' i line.phase line.asks
    line_played = subst (PlayedSo lines then' c.phase seat'.node.replica.cursor n desks' looks' i line.phase) (sym asks_is)
        (look, set_same looks i (Some look) None not_yet, of_node, reported, left)

    pub line_told : LineWent law meaning lines home nodes c looks' n from (i + 1) journal seat' desks'
    line_told =
        line_went law meaning lines home nodes c looks n from i line look seat seat' desks desks' taken journal are at node phase unlogged was others moves paid_is on own
        (seals_played n c.seen journal lines looks i line look at node not_yet still was.did.seals) now tells stood trimmed clean high_read line_played
