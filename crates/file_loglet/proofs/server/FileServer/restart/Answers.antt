use Rattle.std.proofs.Common.{Err, ℕ, ltb, length, ap, ◌∙◌}
use Rattle.std.proofs.lemmas.Result.{err_from_is_err_and}
use Rattle.file_loglet.specs.Extents.{extent_restarted}
use Rattle.file_loglet.specs.Held.{Held}
use Rattle.file_loglet.proofs.Writing.{restarted_held, restarted_server, not_restored}
use Rattle.file_loglet.proofs.server.FileServer.restart.Goals as goal

pub invariant_of-self-2 : goal.invariant_of-self-2
invariant_of-self-2 g c =
    let i = c.self.inside in
    let found = c.reopen.new.self.records in
    restarted_held i.journal c.reopen.new.self i.extent c.restarted-self-inside.result i.torn c.self.invariant c.in_ok-reopen.ensures.ok.0 c.in_ok-reopen.ensures.ok.1 c.reopen.ensures.survives
    (c.restarted-self-inside.ensures
    ∙ ap (λ (n : ℕ). extent_restarted i.extent (ltb n c.count.result) i.torn) c.count-count.ensures.count
    ∙ ap (λ (n : ℕ). extent_restarted i.extent (ltb (length i.journal.records) n) i.torn) c.count.ensures.count)

pub returns : goal.returns
returns g c =
    let i = c.self.inside in
    let back = restarted_server c.args.self.now i.journal c.reopen.new.self i.extent i.torn c.self.view_is c.self.invariant c.in_ok-reopen.ensures.ok.0 c.in_ok-reopen.ensures.ok.1 in
    record {
      was = c.requires.down;
      kept = back.0;
      server = back.1;
      faults = c.in_ok-reopen.ensures.no_fault ∙ ap (λ (w : Held). w.disk.faults) c.self.view_is;
      disarmed = c.in_ok-reopen.ensures.disarmed;
      reopened = c.in_ok-reopen.ensures.word;
    }

pub returns-in_err-reopen : goal.returns-in_err-reopen
returns-in_err-reopen g c =
    let i = c.self.inside in
    let r = err_from_is_err_and c.from_residual.result c.from_residual.ensures.1 in
    rw (r.1, r.2)
    (not_restored c.args.word c.args.self.now i.journal c.reopen.new.self _ c.self.view_is c.requires.down
    (λ e. c.in_err-reopen.ensures.memory (ap Err e)) (λ e. c.in_err-reopen.ensures.word_memory (ap Err e)) (λ e. c.in_err-reopen.ensures.disk (ap Err e)) (λ e. c.in_err-reopen.ensures.word_disk (ap Err e)))
