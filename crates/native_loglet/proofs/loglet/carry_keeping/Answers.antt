use Rattle.std.proofs.Common.{◌-◌, ◌<◌, ◌∙◌, ap, subst, Bool, List, length, take}
use Rattle.std.specs.Prelude.{is_some, if◌then◌else◌}
use Rattle.native_loglet.specs.Natives.{look_in, states_in}
use Rattle.native_loglet.specs.declared.mail.Mail.{Mail}
use Rattle.native_loglet.proofs.Copied.{room_there, taken_back}
use Rattle.native_loglet.proofs.Serving.{refused, take_none}
use Rattle.native_loglet.proofs.loglet.carry_keeping.Goals as goal

pub returns-in_err-copy-clause-spared : goal.returns-in_err-copy-clause-spared
returns-in_err-copy-clause-spared g c = refused c.from_residual.result (take_none (states_in c.args.replicas.now))

pub keep-requires : goal.keep-requires
keep-requires g c = record {
  room = λ some. subst (λ n. n < 64) c.copies.ensures.count (room_there c.args.entries.now.items c.args.cut c.args.number c.args.word c.copies.result (look_in c.args.pending.now.entries c.args.number) c.in_ok-copy.copy c.in_ok-copy.ensures some);
}

pub returns-in_err-kept-clause-spared : goal.returns-in_err-kept-clause-spared
returns-in_err-kept-clause-spared g c = refused c.from_residual-in_err-kept.result (take_none (states_in c.args.replicas.now))

pub returns-in-Err-clause-strays_stay : goal.returns-in-Err-clause-strays_stay
returns-in-Err-clause-strays_stay g c =
    c.take_back.ensures
    ∙ ap (λ (b : Bool). if b then take (length c.keep.new.strays - 1) c.keep.new.strays else c.keep.new.strays) c.in_ok-kept.ensures.kept
    ∙ ap (λ (xs : List Mail). if is_some c.in_ok-copy.copy then take (length xs - 1) xs else xs) c.in_ok-kept.ensures.strays
    ∙ taken_back c.in_ok-copy.copy c.args.strays.now
