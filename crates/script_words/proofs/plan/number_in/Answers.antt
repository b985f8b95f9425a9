use Rattle.std.proofs.Common.{◌∙◌, ap}
use Rattle.std.specs.Prelude.{option_and_then}
use Rattle.std.specs.Str.Parse.{ParsesUnsigned, ExplainsUnsignedError, HasUnsignedDigitsIfOk}
use Rattle.clap.specs.Words.{found_of, one_text}
use Rattle.clap.proofs.WalkLemmas.{one_text-rows}
use Rattle.script_words.specs.Plans.{number_of}
use Rattle.script_words.proofs.Words.{read_number}
use Rattle.script_words.proofs.plan.number_in.Goals as goal

pub returns : goal.returns
returns c =
    read_number (λ bs r. ParsesUnsigned 32 10 bs r × ExplainsUnsignedError 10 bs r × HasUnsignedDigitsIfOk bs r) (one_text (found_of c.args.matches.now) c.args.id.now) c.get_one.result (λ t x g. g.0) c.get_one.ensures.none c.get_one.ensures.value
    ∙ ap (option_and_then number_of) (one_text-rows (found_of c.args.matches.now) c.args.id.now)
